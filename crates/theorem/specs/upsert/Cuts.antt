-- Cuts on a whole way, the root's too: the tree holds what it held, each old slot stands as often as before, each new one once, and there is one node
-- more a slot. Assumes nothing.
use Rattle.std.specs.Prelude.{◌≡◌, refl, List, [], ℕ, suc, ◌+◌, ◌≤◌, ◌<◌, length, take, drop, ltb, eqb}
use Rattle.std.proofs.Common.{sym, ap, subst, ◌∙◌, le_trans, arith, ltb-true, ltb-false, eqb-true}
use Rattle.std.proofs.lemmas.Bool.{eqb-false}
use Rattle.node.specs.laws.base.Results.{Holds, holds_bind}
use Rattle.node.specs.Entry.{Entry, mem}
use Rattle.node.specs.Slot.{MemNode}
use Rattle.node.specs.laws.base.Tests.{by_test}
use Rattle.tree.specs.Lent.{Lent}
use Rattle.tree.specs.State.{State, node_at, with_info}
use Rattle.tree.specs.Lookup.{Step}
use Rattle.tree.specs.Edit.{more_nodes, parted, grow_root, cut_node, cuts}
use Rattle.theorem.specs.model.Bounds.{Terms}
use Rattle.theorem.specs.model.Lazy.{cont, total, names, slots, names_same, Ok, ok_level}
use Rattle.theorem.specs.steps.LeafAndKeys.{Once, Along}
use Rattle.theorem.specs.steps.Grow.{names_is, names_apart, Steady, once_out, Grown, grown_once}
use Rattle.theorem.specs.steps.Way.{grown_refl}
use Rattle.theorem.specs.steps.Cuts.{some_of, cuts_below, cuts_down, cuts_grown}
use Rattle.theorem.specs.steps.CutRoot.{topped, top_root, top_count, top_more}
use Rattle.theorem.specs.steps.EachSlotRoot.{by_top}
use Rattle.theorem.specs.upsert.Puts.{below_root}
use Rattle.theorem.specs.steps.Sums.{cuts_tally}

module _ (τ : Terms) (rd : ℕ → MemNode) where
  -- the tree at slot n of s, of level l, and the tree at u's root
  pub record Regrown (s u : State) (l n lo hi : ℕ) : Type 0 where
    pub level : ℕ
    pub ok : Ok τ rd (node_at u) level lo hi (node_at u u.root)
    pub holds : cont rd (node_at u) level (node_at u u.root) ≡ cont rd (node_at s) l (node_at s n)
    pub sums : (f : MemNode → ℕ) → Steady f → total rd (node_at u) f level (node_at u u.root) ≡ total rd (node_at s) f l (node_at s n)
    pub tally : total rd (node_at u) (λ m. 1) level (node_at u u.root) + length s.nodes
        ≡ total rd (node_at s) (λ m. 1) l (node_at s n) + length u.nodes
    pub old : (c : ℕ) → c < length s.nodes → names c (mem u.root) + slots rd (node_at u) level c (node_at u u.root)
        ≡ names c (mem n) + slots rd (node_at s) l c (node_at s n)
    pub new : (c : ℕ) → length s.nodes ≤ c → c < length u.nodes → names c (mem u.root) + slots rd (node_at u) level c (node_at u u.root) ≡ 1
    pub none : (c : ℕ) → length u.nodes ≤ c → names c (mem u.root) + slots rd (node_at u) level c (node_at u u.root) ≡ 0

  regrown_more : (s u : State) (j l n lo hi : ℕ) → Regrown s u l n lo hi → Regrown s (more_nodes u j) l n lo hi
  unfolding more_nodes with_info node_at
  regrown_more s u j l n lo hi h =
      record { level = h.level; ok = h.ok; holds = h.holds; sums = h.sums; tally = h.tally; old = h.old; new = h.new; none = h.none }

  -- a root that fits
  regrown_grown : (s u : State) (l n lo hi : ℕ) → u.root ≡ n → Once τ rd s l n → Grown τ rd s u l n lo hi
      → total rd (node_at u) (λ m. 1) l (node_at u n) + length s.nodes ≡ total rd (node_at s) (λ m. 1) l (node_at s n) + length u.nodes
      → Regrown s u l n lo hi
  regrown_grown s u l n lo hi q one g ty =
      let used : n < length s.nodes = one.used n (omega (arith, names_same n)) in
      let at : node_at u u.root ≡ node_at u n = ap (node_at u) q in
      let put : (c : ℕ) → names c (mem u.root) + slots rd (node_at u) l c (node_at u u.root)
      ≡ names c (mem n) + slots rd (node_at u) l c (node_at u n) =
      λ c. ap (λ (x : ℕ). names c (mem x) + slots rd (node_at u) l c (node_at u x)) q in
      record {
        level = l;
        ok = subst (λ (m : MemNode). Ok τ rd (node_at u) l lo hi m) (sym at) g.ok;
        holds = ap (cont rd (node_at u) l) at ∙ g.holds;
        sums = λ f h. ap (total rd (node_at u) f l) at ∙ g.sums f h;
        tally = ap (λ (m : MemNode). total rd (node_at u) (λ x. 1) l m + length s.nodes) at ∙ ty;
        old = λ c h. omega (arith, put c, g.old c h);
        new = λ c h k. omega (arith, put c, g.new c h k, names_apart c n (omega arith));
        none = λ c h. omega (arith, put c, g.none c h, names_apart c n (omega (arith, g.longer)));
      }

  -- a new root
  regrown_top : (s : State) (l lo hi c : ℕ) (one : Once τ rd s l s.root) (okn : Ok τ rd (node_at s) l lo hi (node_at s s.root))
      → 1 ≤ length (take c (node_at s s.root).entries) → 1 ≤ length (drop c (node_at s s.root).entries)
      → Regrown s (grow_root (parted s s.root c) s.root (length s.nodes)) l s.root lo hi
  regrown_top s l lo hi c one okn sa sb =
      let n : ℕ = s.root in
      let (a, as', ea) = some_of (take c (node_at s s.root).entries) sa in
      let (b, bs, eb) = some_of (drop c (node_at s s.root).entries) sb in
      let lv = ok_level τ rd (node_at s) l lo hi (node_at s s.root) okn in
      let u : State = grow_root (parted s s.root c) s.root (length s.nodes) in
      let r : ℕ = length s.nodes in
      let t = topped τ rd s l s.root lo hi c one okn lv b bs eb a as' ea in
      let q : u.root ≡ suc (length s.nodes) = top_root τ rd s l s.root lo hi c one okn lv b bs eb a as' ea in
      let ct : length u.nodes ≡ suc (suc (length s.nodes)) = top_count τ rd s l s.root lo hi c one okn lv b bs eb a as' ea in
      let at : node_at u u.root ≡ node_at u (suc (length s.nodes)) = ap (node_at u) q in
      let put : (d : ℕ) → names d (mem u.root) + slots rd (node_at u) (suc l) d (node_at u u.root)
      ≡ names d (mem (suc r)) + (names d (mem n) + slots rd (node_at s) l d (node_at s n) + names d (mem r)) =
      λ d. ap (λ (x : ℕ). names d (mem x) + slots rd (node_at u) (suc l) d (node_at u x)) q ∙ ap (λ (x : ℕ). names d (mem (suc r)) + x) (t.uses d) in
      record {
        level = suc l;
        ok = subst (λ (m : MemNode). Ok τ rd (node_at u) (suc l) lo hi m) (sym at) t.ok;
        holds = ap (cont rd (node_at u) (suc l)) at ∙ t.holds;
        sums = λ f h. ap (total rd (node_at u) f (suc l)) at ∙ t.sums f h;
        tally = ap (λ (m : MemNode). total rd (node_at u) (λ x. 1) (suc l) m + length s.nodes) at
            ∙ omega (arith, top_more τ rd s l s.root lo hi c one okn lv b bs eb a as' ea);
        old = λ d h. omega (arith, put d, names_apart d (suc r) (omega arith), names_apart d r (omega arith));
        new = λ d h k. by_test (eqb d r)
            (λ v. let z : d ≡ r = eqb-true d r v in omega (
              arith,
              put d,
              once_out τ rd s l n d one h,
              names_is d r z,
              names_apart d (suc r) (omega arith),
            ))
            (λ v. let z : d ≡ r → ⊥ = eqb-false d r v in omega (
              arith,
              put d,
              once_out τ rd s l n d one h,
              names_apart d r z,
              names_is d (suc r) (omega arith),
            ));
        none = λ d h. omega (
          arith,
          put d,
          once_out τ rd s l n d one (omega arith),
          names_apart d r (omega arith),
          names_apart d (suc r) (omega arith),
        );
      }

  -- cuts below the root, and then the root's
  grown_regrown : (s t u : State) (l n lo hi : ℕ) → Once τ rd s l n → Grown τ rd s t l n lo hi
      → total rd (node_at t) (λ m. 1) l (node_at t n) + length s.nodes ≡ total rd (node_at s) (λ m. 1) l (node_at s n) + length t.nodes
      → Regrown t u l n lo hi → Regrown s u l n lo hi
  grown_regrown s t u l n lo hi one g ty b =
      let used : n < length s.nodes = one.used n (omega (arith, names_same n)) in
      record {
        level = b.level;
        ok = b.ok;
        holds = b.holds ∙ g.holds;
        sums = λ f h. b.sums f h ∙ g.sums f h;
        tally = omega (arith, b.tally, ty);
        old = λ c h. omega (arith, b.old c (le_trans h g.longer), g.old c h);
        new = λ c h k. by_test (ltb c (length t.nodes))
            (λ v. let y = ltb-true c (length t.nodes) v in omega (arith, b.old c y, g.new c h y, names_apart c n (omega arith)))
            (λ v. b.new c (ltb-false c (length t.nodes) v) k);
        none = b.none;
      }

  module _ (lent : Lent) where
    root_regrown : (t : State) (l lo hi : ℕ) → Once τ rd t l t.root → Ok τ rd (node_at t) l lo hi (node_at t t.root)
        → Holds (λ u. Regrown t u l t.root lo hi) (cut_node lent [] t.root t)
    root_regrown t l lo hi one okn =
        by_top (λ u. Regrown t u l t.root lo hi) lent t.root t
        (λ v. regrown_grown t t l t.root lo hi refl one (grown_refl τ rd lent (λ x. Unit {0}) t l t.root lo hi okn one) refl)
        (λ c live ps holds room. regrown_more t _ 2 l t.root lo hi (regrown_top t l lo hi c one okn ps.left_some ps.right_some))

    pub cuts_regrown : (s : State) (T : List Entry → Entry → List Entry → Type 0) (foot l n : ℕ) (ps : List Step) → Along s T foot l n ps
        → (lo hi : ℕ) → s.root ≡ n → Once τ rd s l n
        → Ok τ rd (node_at s) l lo hi (node_at s n) → Holds (λ u. Regrown s u l n lo hi) (cuts lent [] ps s)
    cuts_regrown s T foot l n ps w lo hi q one okn =
        rw (cuts_down τ rd lent s T foot [] l n ps w)
        (holds_bind (cuts_below τ rd lent ps s) _ λ t e.
        let g = (cuts_grown τ rd lent s T foot l n ps w lo hi one okn).at t e in
        let ty = (cuts_tally τ rd lent s T foot l n ps w lo hi one okn).at t e in
        let r : t.root ≡ n = (below_root lent τ rd ps s).at t e ∙ q in
        let one' : Once τ rd t l t.root = subst (Once τ rd t l) (sym r) (grown_once τ rd s t l n lo hi g one) in
        let ok' : Ok τ rd (node_at t) l lo hi (node_at t t.root) = subst (λ (z : ℕ). Ok τ rd (node_at t) l lo hi (node_at t z)) (sym r) g.ok in
        subst (λ (z : ℕ). Holds (λ u. Regrown s u l n lo hi) (cut_node lent [] z t)) r
        (record {
          at = λ u y. grown_regrown s t u l n lo hi one g ty
              (subst (λ (z : ℕ). Regrown t u l z lo hi) r ((root_regrown t l lo hi one' ok').at u y));
        }))
