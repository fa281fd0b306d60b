-- The books after a key is taken out and emptied nodes are dropped; an emptied root leveled: an empty node holds nothing at any level. Assumes
-- nothing.
use Rattle.std.specs.Prelude.{◌≡◌, List, [], true, false, ℕ, ◌≤◌, ◌<◌, length, eqb}
use Rattle.std.proofs.Math.Path.{refl, ap}
use Rattle.std.proofs.Common.{sym, ◌∙◌, arith, eqb-true}
use Rattle.std.proofs.lemmas.Bool.{eqb-false}
use Rattle.node.specs.Slot.{MemNode}
use Rattle.node.specs.laws.base.Tests.{by_test, never}
use Rattle.node.specs.declared.info.BTreeInfo.{BTreeInfo}
use Rattle.tree.specs.State.{State, node_at, put_node, with_info, with_level}
use Rattle.tree.specs.laws.state.State.{at_put_same, at_put_other, put_count}
use Rattle.tree.specs.Lookup.{Step}
use Rattle.tree.specs.Remove.{leveled_root}
use Rattle.flush.specs.laws.SpaceLaws.{by_list}
use Rattle.theorem.specs.model.Bounds.{Terms, nil, KeyIn, rows_le}
use Rattle.theorem.specs.model.Lazy.{cont, total, names_same, Ok, ok_live, ok_rows}
use Rattle.theorem.specs.steps.Grow.{Steady}
use Rattle.theorem.specs.remove.DeadSums.{part_live, dead_sum, put_sum}
use Rattle.theorem.specs.remove.WhatIsLeft.{empty_holds, empty_uses, empty_sums, Stub, tip, on, off_frame, no_row}
use Rattle.theorem.specs.remove.DropOne.{Shrunk}
use Rattle.theorem.specs.remove.Regrow.{nodes_at}
use Rattle.theorem.specs.remove.Accounts.{stood, stood_dead, stood_most, Books, books_once}

module _ (τ : Terms) (rd : ℕ → MemNode) (B F : (MemNode → ℕ) → ℕ) where
  pub books_shrunk : (k : List ℕ) (kk : KeyIn τ k) (s u : State) (j l n : ℕ) (ps : List Step) → Books τ rd B F s l n → Shrunk τ rd k kk s u j l n ps
      → Books τ rd B F u l n
  books_shrunk k kk s u j l n ps b sh =
      let ct = sh.count in
      record {
        once = λ c h.
            let was = b.once c (omega arith) in
            by_test (eqb (sh.gone c) 0)
            (λ t.
            let z : sh.gone c ≡ 0 = eqb-true (sh.gone c) 0 t in
            let q : stood (node_at u c).dead ≡ stood (node_at s c).dead = ap stood (sh.alive c z) in
            omega (arith, sh.uses c))
            (λ t.
            let z : sh.gone c ≡ 0 → ⊥ = eqb-false (sh.gone c) 0 t in
            let g : 1 ≤ sh.gone c = omega arith in
            omega (arith, sh.uses c, stood_dead (node_at u c).dead (sh.dead c g), stood_most (node_at s c).dead));
        out = λ c h. omega (arith, sh.uses c, b.out c (omega arith));
        sums = λ f h. sh.books f h ∙ b.sums f h;
        fewer = λ f h. omega (arith, sh.fewer f h, b.fewer f h);
      }

  -- ---- an emptied root is a leaf

  pub record Leveled (s u : State) (l n lo hi : ℕ) (ps : List Step) : Type 0 where
    pub level : ℕ
    pub ok : Ok τ rd (node_at u) level lo hi (node_at u n)
    pub holds : cont rd (node_at u) level (node_at u n) ≡ cont rd (node_at s) l (node_at s n)
    pub books : Books τ rd B F u level n
    pub nodes : nodes_at τ rd u level n ≡ nodes_at τ rd s l n
    pub stub : Stub u level n ps

  module _ (s : State) (l lo hi : ℕ) (ps : List Step) (b : Books τ rd B F s l s.root) (okn : Ok τ rd (node_at s) l lo hi (node_at s s.root))
      (st : Stub s l s.root ps) where
    abbrev n : ℕ
    n = s.root

    -- the root is empty
    module _ (none : (node_at s s.root).entries ≡ []) where
      abbrev leaf : MemNode
      leaf = with_level (node_at s n) 0

      abbrev u : State
      u = put_node s n leaf

      used : n < length s.nodes
      used = (books_once τ rd B F s l n b).used n (omega (arith, names_same n))

      live : (node_at s n).dead ≡ false
      live = ok_live τ rd (node_at s) l lo hi (node_at s n) okn

      u_n : node_at u n ≡ leaf
      u_n = at_put_same s n leaf used

      u_row : (node_at u n).entries ≡ []
      unfolding with_level
      u_row = ap (λ (m : MemNode). m.entries) u_n ∙ none

      u_live : (node_at u n).dead ≡ false
      unfolding with_level
      u_live = ap (λ (m : MemNode). m.dead) u_n ∙ live

      u_level : (node_at u n).level ≡ 0
      unfolding with_level
      u_level = ap (λ (m : MemNode). m.level) u_n

      u_dead : (c : ℕ) → (node_at u c).dead ≡ (node_at s c).dead
      u_dead c =
          by_test (eqb c n)
          (λ t. let q : c ≡ n = eqb-true c n t in rw q (u_live ∙ sym live))
          (λ t. ap (λ (m : MemNode). m.dead) (at_put_other s n leaf c (eqb-false c n t)))

      u_sum : (f : MemNode → ℕ) → dead_sum f u.nodes ≡ dead_sum f s.nodes
      unfolding with_level
      u_sum f = omega (arith, put_sum f s n leaf used, part_live f (node_at s n) live, part_live f leaf live)

      same : (f : MemNode → ℕ) → Steady f → f (node_at u n) ≡ f (node_at s n)
      unfolding with_level
      same f h = h.same (node_at u n) (node_at s n) (ap (λ (m : MemNode). m.block) u_n) (ap (λ (m : MemNode). m.id) u_n)

      sums_are : (f : MemNode → ℕ) → Steady f → total rd (node_at u) f 0 (node_at u n) ≡ total rd (node_at s) f l (node_at s n)
      sums_are f h = empty_sums rd (node_at u) f 0 (node_at u n) u_row ∙ same f h ∙ sym (empty_sums rd (node_at s) f l (node_at s n) none)

      off_kept : (d : ℕ) → (node_at s d).dead ≡ true → (node_at s d).entries ≡ [] → ((node_at u d).dead ≡ true) × ((node_at u d).entries ≡ [])
      off_kept d p q =
          let e : node_at u d ≡ node_at s d = at_put_other s n leaf d (λ z. never p (ap (λ (i : ℕ). (node_at s i).dead) z ∙ live)) in
          (ap (λ (m : MemNode). m.dead) e ∙ p, ap (λ (m : MemNode). m.entries) e ∙ q)

      stub_kept : (j i : ℕ) (qs : List Step) → Stub s j i qs → (node_at s i).entries ≡ [] → Stub u 0 i qs
      stub_kept j i _ (tip {ps = qs} o) h = tip (off_frame s u qs off_kept o)
      stub_kept _ _ _ (on xs e ys row val some t) h = no_row xs e ys (sym h ∙ row)

      emptied : Leveled s u l n lo hi ps
      emptied =
          record {
            level = 0;
            ok = record { level = u_level; live = u_live; items = rw u_row (nil (rows_le τ (ok_rows τ rd (node_at s) l lo hi (node_at s n) okn))) };
            holds = empty_holds rd (node_at u) 0 (node_at u n) u_row ∙ sym (empty_holds rd (node_at s) l (node_at s n) none);
            books = record {
              once = λ c h.
                  let q : stood (node_at u c).dead ≡ stood (node_at s c).dead = ap stood (u_dead c) in
                  omega (
                    arith,
                    b.once c (omega (arith, put_count s n leaf)),
                    empty_uses rd (node_at u) 0 c (node_at u n) u_row,
                    empty_uses rd (node_at s) l c (node_at s n) none,
                  );
              out = λ c h.
                  omega (
                    arith,
                    b.out c (omega (arith, put_count s n leaf)),
                    empty_uses rd (node_at u) 0 c (node_at u n) u_row,
                    empty_uses rd (node_at s) l c (node_at s n) none,
                  );
              sums = λ f h. omega (arith, sums_are f h, u_sum f, b.sums f h);
              fewer = λ f h. omega (arith, sums_are f h, b.fewer f h);
            };
            nodes = empty_sums rd (node_at u) (λ m. 1) 0 (node_at u n) u_row ∙ sym (empty_sums rd (node_at s) (λ m. 1) l (node_at s n) none);
            stub = stub_kept l n ps st none;
          }

    pub leveled : Leveled s (leveled_root s) l s.root lo hi ps
    unfolding leveled_root
    leveled =
        by_list (node_at s s.root).entries
        (λ q. rw q (emptied q))
        (λ e es q. rw q (record { level = l; ok = okn; holds = refl; books = b; nodes = refl; stub = st }))

  -- ---- other numbers beside the slots

  pub books_info : (s : State) (t : BTreeInfo) (l n : ℕ) → Books τ rd B F s l n → Books τ rd B F (with_info s t) l n
  unfolding with_info node_at
  books_info s t l n b = record { once = b.once; out = b.out; sums = b.sums; fewer = b.fewer }

  pub ok_info : (s : State) (t : BTreeInfo) (l n lo hi : ℕ) → Ok τ rd (node_at s) l lo hi (node_at s n)
      → Ok τ rd (node_at (with_info s t)) l lo hi (node_at (with_info s t) n)
  unfolding with_info node_at
  ok_info s t l n lo hi h = h

  pub holds_info : (s : State) (t : BTreeInfo) (l n : ℕ)
      → cont rd (node_at (with_info s t)) l (node_at (with_info s t) n) ≡ cont rd (node_at s) l (node_at s n)
  unfolding with_info node_at
  holds_info s t l n = refl

  pub nodes_info : (s : State) (t : BTreeInfo) (l n : ℕ) → nodes_at τ rd (with_info s t) l n ≡ nodes_at τ rd s l n
  unfolding with_info node_at
  nodes_info s t l n = refl
