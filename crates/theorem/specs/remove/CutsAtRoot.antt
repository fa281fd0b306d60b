-- Cuts on what is left of a way, up to a new root above the old one's two parts: what the root holds is as it was, each slot stands as it did and
-- each new one once; the books are kept. Assumes nothing.
use Rattle.std.specs.Prelude.{◌≡◌, refl, List, [], ◌∷◌, false, ℕ, suc, ◌+◌, ◌≤◌, ◌<◌, length, take, drop, ltb, eqb}
use Rattle.std.proofs.Common.{sym, ap, subst, ◌∙◌, arith, ltb-true, ltb-false, eqb-true}
use Rattle.std.proofs.lemmas.Bool.{eqb-false}
use Rattle.node.specs.laws.base.Results.{Holds, holds_bind}
use Rattle.node.specs.Entry.{Entry, mem}
use Rattle.node.specs.Slot.{MemNode}
use Rattle.node.specs.laws.base.Tests.{by_test}
use Rattle.tree.specs.Lent.{Lent}
use Rattle.tree.specs.State.{State, node_at, with_info}
use Rattle.tree.specs.Lookup.{Step}
use Rattle.tree.specs.Edit.{more_nodes, parted, grow_root, cuts}
use Rattle.theorem.specs.model.Bounds.{Terms}
use Rattle.theorem.specs.model.Lazy.{cont, total, names, slots, names_same, Ok, ok_level}
use Rattle.theorem.specs.steps.LeafAndKeys.{Once}
use Rattle.theorem.specs.steps.Grow.{names_is, names_apart, Steady, once_out, grown_once}
use Rattle.theorem.specs.steps.Cuts.{some_of, cuts_below}
use Rattle.theorem.specs.steps.CutRoot.{topped, top_root, top_count, top_more}
use Rattle.theorem.specs.upsert.Puts.{below_root}
use Rattle.theorem.specs.steps.EachSlotRoot.{by_top}
use Rattle.theorem.specs.remove.DeadSums.{dead_sum}
use Rattle.theorem.specs.remove.WhatIsLeft.{Stub}
use Rattle.theorem.specs.remove.Regrow.{nodes_at, Regrown}
use Rattle.theorem.specs.remove.CutsBelow.{cuts_on, cuts_regrown}
use Rattle.theorem.specs.remove.Accounts.{stood, stood_live, Books}

more_root : (s : State) (n : ℕ) → (more_nodes s n).root ≡ s.root
unfolding more_nodes with_info
more_root s n = refl

module _ (τ : Terms) (rd : ℕ → MemNode) where
  -- how often slot c stands in the tree of slot n
  abbrev pub stands : State → ℕ → ℕ → ℕ → ℕ
  stands s l n c = names c (mem n) + slots rd (node_at s) l c (node_at s n)

  -- from slot n of level l to slot r of its own level
  pub record Rerooted (s : State) (l n lo hi : ℕ) (u : State) (r : ℕ) : Type 0 where
    pub level : ℕ
    pub ok : Ok τ rd (node_at u) level lo hi (node_at u r)
    pub holds : cont rd (node_at u) level (node_at u r) ≡ cont rd (node_at s) l (node_at s n)
    pub sums : (f : MemNode → ℕ) → Steady f → total rd (node_at u) f level (node_at u r) ≡ total rd (node_at s) f l (node_at s n)
    pub nodes : nodes_at τ rd u level r + length s.nodes ≡ nodes_at τ rd s l n + length u.nodes
    pub longer : length s.nodes ≤ length u.nodes
    pub old : (c : ℕ) → c < length s.nodes → stands u level r c ≡ stands s l n c
    pub new : (c : ℕ) → length s.nodes ≤ c → c < length u.nodes → stands u level r c ≡ 1
    pub none : (c : ℕ) → length u.nodes ≤ c → stands u level r c ≡ 0

  -- with the root as it was
  regrown_rerooted : (s u : State) (l n lo hi : ℕ) → n < length s.nodes → Regrown τ rd s u l n lo hi → Rerooted s l n lo hi u n
  regrown_rerooted s u l n lo hi used r =
      let g = r.grown in
      let m = g.longer in
      record {
        level = l;
        ok = g.ok;
        holds = g.holds;
        sums = g.sums;
        nodes = r.nodes;
        longer = g.longer;
        old = λ c h. omega (arith, g.old c h);
        new = λ c h k. omega (arith, g.new c h k, names_apart c n (omega arith));
        none = λ c h. omega (arith, g.none c h, names_apart c n (omega arith));
      }

  rerooted_more : (s u : State) (k l n lo hi r : ℕ) → Rerooted s l n lo hi u r → Rerooted s l n lo hi (more_nodes u k) r
  unfolding more_nodes with_info node_at
  rerooted_more s u k l n lo hi r h =
      record {
        level = h.level;
        ok = h.ok;
        holds = h.holds;
        sums = h.sums;
        nodes = h.nodes;
        longer = h.longer;
        old = h.old;
        new =
            h.new;
        none = h.none;
      }

  -- a new root
  topped_rerooted : (s t : State) (l n lo hi c : ℕ) → n < length s.nodes → Once τ rd t l n → Regrown τ rd s t l n lo hi
      → (a : Entry) (as' : List Entry) → take c (node_at t n).entries ≡ a ∷ as' → (b : Entry) (bs : List Entry)
      → drop c (node_at t n).entries ≡ b ∷ bs
      → Rerooted s l n lo hi (grow_root (parted t n c) n (length t.nodes)) (suc (length t.nodes))
  topped_rerooted s t l n lo hi c used one r a as' ea b bs eb =
      let g = r.grown in
      let m = g.longer in
      let lv = ok_level τ rd (node_at t) l lo hi (node_at t n) g.ok in
      let u : State = grow_root (parted t n c) n (length t.nodes) in
      let x = topped τ rd t l n lo hi c one g.ok lv b bs eb a as' ea in
      let y = top_count τ rd t l n lo hi c one g.ok lv b bs eb a as' ea in
      let sl : (d : ℕ) → length t.nodes ≤ d → slots rd (node_at t) l d (node_at t n) ≡ 0 = λ d h. omega (arith, once_out τ rd t l n d one h) in
      record {
        level = suc l;
        ok = x.ok;
        holds = x.holds ∙ g.holds;
        sums = λ f h. x.sums f h ∙ g.sums f h;
        nodes = omega (arith, top_more τ rd t l n lo hi c one g.ok lv b bs eb a as' ea, y, r.nodes);
        longer = omega (arith, y);
        old = λ d h. omega (
          arith,
          x.uses d,
          g.old d h,
          names_apart d (length t.nodes) (omega arith),
          names_apart d (suc (length t.nodes)) (omega arith),
        );
        new = λ d h k.
            by_test (ltb d (length t.nodes))
            (λ z. let w = ltb-true d _ z in
            omega (
              arith,
              x.uses d,
              g.new d h w,
              names_apart d n (omega arith),
              names_apart d (length t.nodes) (omega arith),
              names_apart d (suc (length t.nodes)) (omega arith),
            ))
            (λ z. let w : length t.nodes ≤ d = ltb-false d _ z in
            by_test (eqb d (length t.nodes))
            (λ v. let e = eqb-true d (length t.nodes) v in
            omega (
              arith,
              x.uses d,
              sl d w,
              names_apart d n (omega arith),
              names_is d (length t.nodes) e,
              names_apart d (suc (length t.nodes)) (omega arith),
            ))
            (λ v. let e = eqb-false d (length t.nodes) v in
            omega (
              arith,
              x.uses d,
              sl d w,
              names_apart d n (omega arith),
              names_apart d (length t.nodes) e,
              names_is d (suc (length t.nodes)) (omega (arith, y)),
            )));
        none = λ d h.
            omega (
              arith,
              x.uses d,
              sl d (omega (arith, y)),
              names_apart d n (omega (arith, y)),
              names_apart d (length t.nodes) (omega (arith, y)),
              names_apart d (suc (length t.nodes)) (omega (arith, y)),
            );
      }

  -- all cuts of a way that starts at the root
  pub cuts_rerooted : (lent : Lent) (s : State) (l n : ℕ) (ps : List Step) → Stub s l n ps → (lo hi : ℕ) → s.root ≡ n → Once τ rd s l n
      → Ok τ rd (node_at s) l lo hi (node_at s n)
      → Holds (λ u. Rerooted s l n lo hi u u.root) (cuts lent [] ps s)
  cuts_rerooted lent s l n ps st lo hi q one okn =
      let used : n < length s.nodes = one.used n (omega (arith, names_same n)) in
      rw (cuts_on τ rd lent s s [] l n ps st)
      (holds_bind (cuts_below τ rd lent ps s) _ λ t e.
      let r : Regrown τ rd s t l n lo hi = (cuts_regrown τ rd lent s l n ps st lo hi one okn).at t e in
      let rt : t.root ≡ n = (below_root lent τ rd ps s).at t e ∙ q in
      let one' : Once τ rd t l n = grown_once τ rd s t l n lo hi r.grown one in
      by_top (λ (u : State). Rerooted s l n lo hi u u.root) lent n t
      (λ z. subst (Rerooted s l n lo hi t) (sym rt) (regrown_rerooted s t l n lo hi used r))
      (λ c live ps' holds room.
      let (a, as', ea) = some_of (take c (node_at t n).entries) ps'.left_some in
      let (b, bs, eb) = some_of (drop c (node_at t n).entries) ps'.right_some in
      let u : State = grow_root (parted t n c) n (length t.nodes) in
      let lv = ok_level τ rd (node_at t) l lo hi (node_at t n) r.grown.ok in
      let tr : (more_nodes u 2).root ≡ suc (length t.nodes) = more_root u 2 ∙ top_root τ rd t l n lo hi c one' r.grown.ok lv b bs eb a as' ea in
      subst (Rerooted s l n lo hi (more_nodes u 2)) (sym tr)
      (rerooted_more s u 2 l n lo hi (suc (length t.nodes)) (topped_rerooted s t l n lo hi c used one' r a as' ea b bs eb))))

  -- the books after, where no slot is dropped and new ones are live
  pub books_rerooted : (B F : (MemNode → ℕ) → ℕ) (s : State) (l n lo hi : ℕ) (u : State) (r : ℕ) → Books τ rd B F s l n
      → (h : Rerooted s l n lo hi u r)
      → ((c : ℕ) → c < length s.nodes → (node_at u c).dead ≡ (node_at s c).dead)
      → ((c : ℕ) → length s.nodes ≤ c → c < length u.nodes → (node_at u c).dead ≡ false)
      → ((f : MemNode → ℕ) → Steady f → dead_sum f u.nodes ≡ dead_sum f s.nodes) → Books τ rd B F u h.level r
  books_rerooted B F s l n lo hi u r b h old new dead =
      record {
        once = λ c k.
            by_test (ltb c (length s.nodes))
            (λ t. let w = ltb-true c _ t in let q : stood (node_at u c).dead ≡ stood (node_at s c).dead = ap stood (old c w) in
            omega (arith, h.old c w, b.once c w))
            (λ t. let w = ltb-false c _ t in omega (arith, h.new c w k, stood_live (node_at u c).dead (new c w k)));
        out = h.none;
        sums = λ f z. omega (arith, b.sums f z, h.sums f z, dead f z);
        fewer = λ f z. omega (arith, b.fewer f z, h.sums f z);
      }
