-- The books of a tree of slots: a slot that is not dead stands once, a dead one nowhere; sums over the tree and the dead slots; the node count. Steps
-- that regrow a node keep them. Assumes nothing.
use Rattle.std.specs.Prelude.{◌≡◌, Bool, true, false, cond, length, ltb}
use Rattle.std.proofs.Math.Path.{refl, ap}
use Rattle.std.proofs.Common.{ap₂, ◌∙◌, arith, ltb-true, ltb-false}
use mathlib.Core.List.{List, [], ◌∷◌}
use Prim.Native.Nat.{ℕ, zero, suc, ◌+◌, ◌≤◌, ◌<◌}
use Rattle.node.specs.Entry.{Entry, Val, ghost, leaf, disk, mem}
use Rattle.node.specs.Slot.{MemNode}
use Rattle.node.specs.laws.base.Tests.{by_test}
use Rattle.tree.specs.State.{State, node_at}
use Rattle.theorem.specs.model.Bounds.{Terms}
use Rattle.theorem.specs.model.Lazy.{node_of, total, names, slots, totals, names_same}
use Rattle.theorem.specs.steps.LeafAndKeys.{Once}
use Rattle.theorem.specs.steps.Grow.{names_apart, Steady}
use Rattle.theorem.specs.steps.Marks.{Marked, means}
use Rattle.theorem.specs.remove.DeadSums.{dead_sum, state_sum}
use Rattle.theorem.specs.remove.Regrow.{Regrown}

-- how often a slot stands in the tree
abbrev pub stood : Bool → ℕ
stood dead = cond dead 0 1

pub stood_dead : (t : Bool) → t ≡ true → stood t ≡ 0
stood_dead t h = rw h

pub stood_live : (t : Bool) → t ≡ false → stood t ≡ 1
stood_live t h = rw h

pub stood_most : (t : Bool) → stood t ≤ 1
stood_most true = omega arith
stood_most false = omega arith

module _ (τ : Terms) (rd : ℕ → MemNode) where
  -- B, F: what sums over the tree and the dead slots come to, and what sums over the tree do not pass
  pub record Books (B F : (MemNode → ℕ) → ℕ) (s : State) (l n : ℕ) : Type 0 where
    pub once : (c : ℕ) → c < length s.nodes → names c (mem n) + slots rd (node_at s) l c (node_at s n) ≡ stood (node_at s c).dead
    pub out : (c : ℕ) → length s.nodes ≤ c → names c (mem n) + slots rd (node_at s) l c (node_at s n) ≡ 0
    pub sums : (f : MemNode → ℕ) → Steady f → total rd (node_at s) f l (node_at s n) + dead_sum f s.nodes ≡ B f
    pub fewer : (f : MemNode → ℕ) → Steady f → total rd (node_at s) f l (node_at s n) ≤ F f

  pub books_once : (B F : (MemNode → ℕ) → ℕ) (s : State) (l n : ℕ) → Books B F s l n → Once τ rd s l n
  books_once B F s l n b =
      record {
        once = λ c.
            by_test (ltb c (length s.nodes))
            (λ t. omega (arith, b.once c (ltb-true c _ t), stood_most (node_at s c).dead))
            (λ t. omega (arith, b.out c (ltb-false c _ t)));
        used = λ c h.
            by_test (ltb c (length s.nodes)) (λ t. ltb-true c _ t) (λ t. absurd (omega (arith, b.out c (ltb-false c _ t))));
      }

  -- regrown, no slot dropped and new ones live
  pub books_regrown : (B F : (MemNode → ℕ) → ℕ) (s u : State) (l n lo hi : ℕ) → Books B F s l n → Regrown τ rd s u l n lo hi
      → ((c : ℕ) → c < length s.nodes → (node_at u c).dead ≡ (node_at s c).dead)
      → ((c : ℕ) → length s.nodes ≤ c → c < length u.nodes → (node_at u c).dead ≡ false)
      → ((f : MemNode → ℕ) → Steady f → dead_sum f u.nodes ≡ dead_sum f s.nodes) → Books B F u l n
  books_regrown B F s u l n lo hi b r old new dead =
      let g = r.grown in
      let m : n < length s.nodes = (books_once B F s l n b).used n (omega (arith, names_same n)) in
      record {
        once = λ c h.
            by_test (ltb c (length s.nodes))
            (λ t. let k = ltb-true c _ t in let q : stood (node_at u c).dead ≡ stood (node_at s c).dead = ap stood (old c k) in
            omega (arith, g.old c k, b.once c k))
            (λ t.
            let k : length s.nodes ≤ c = ltb-false c _ t in
            omega (arith, g.new c k h, stood_live (node_at u c).dead (new c k h), names_apart c n (omega arith)));
        out = λ c h. let k = g.longer in omega (arith, g.none c h, names_apart c n (omega arith));
        sums = λ f h. omega (arith, b.sums f h, g.sums f h, dead f h);
        fewer = λ f h. omega (arith, b.fewer f h, g.sums f h);
      }

  -- ---- marks

  module _ (s t : State) (mk : Marked s t) where
    node_row : (v : Val) → (node_of rd (node_at t) v).entries ≡ (node_of rd (node_at s) v).entries
    unfolding node_of
    node_row ghost = refl
    node_row (leaf b) = refl
    node_row (disk r) = refl
    node_row (mem c) = (mk.alike c).entries

    nodes_all : (l : ℕ) → ((m m' : MemNode) → m'.entries ≡ m.entries → total rd (node_at t) (λ x. 1) l m' ≡ total rd (node_at s) (λ x. 1) l m)
        → (es : List Entry) → totals rd (node_at t) (λ x. 1) l es ≡ totals rd (node_at s) (λ x. 1) l es
    nodes_all l ih [] = refl
    nodes_all l ih (e ∷ es) =
        ap₂ ◌+◌ (ih (node_of rd (node_at s) e.value) (node_of rd (node_at t) e.value) (node_row e.value)) (nodes_all l ih es)

    pub marked_nodes : (l : ℕ) (m m' : MemNode) → m'.entries ≡ m.entries → total rd (node_at t) (λ x. 1) l m' ≡ total rd (node_at s) (λ x. 1) l m
    unfolding total
    marked_nodes zero m m' h = refl
    marked_nodes (suc l) m m' h = ap (λ (z : List Entry). 1 + totals rd (node_at t) (λ x. 1) l z) h
        ∙ ap (λ (z : ℕ). 1 + z) (nodes_all l (marked_nodes l) m.entries)

    pub books_marked : (B F : (MemNode → ℕ) → ℕ) (l n : ℕ) → Books B F s l n → Books B F t l n
    books_marked B F l n b =
        let me = means τ rd (node_at s) (node_at t) mk.alike l (node_at s n) (node_at t n) (mk.alike n) in
        let c₀ = mk.count in
        record {
          once = λ c h. let q : stood (node_at t c).dead ≡ stood (node_at s c).dead = ap stood (mk.alike c).dead in
              omega (arith, me.uses c, b.once c (omega arith));
          out = λ c h. omega (arith, me.uses c, b.out c (omega arith));
          sums = λ f h.
              omega (
                arith,
                me.sums f h,
                b.sums f h,
                state_sum f s t (omega arith)
                    (λ c k. ap₂ (λ (d : Bool) (x : ℕ). cond d x 0) (mk.alike c).dead
                    (h.same (node_at t c) (node_at s c) (mk.alike c).block (mk.alike c).id))
                    (λ c k j. absurd (omega arith)),
              );
          fewer = λ f h. omega (arith, me.sums f h, b.fewer f h);
        }
