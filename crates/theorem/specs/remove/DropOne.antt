-- What is left of a slot where a key is taken out below it and emptied nodes are dropped; the leaf's part, and one step of the drops. Assumes
-- nothing.
use Rattle.std.specs.Prelude.{◌≡◌, refl, List, [], ◌∷◌, ◌++◌, true, false, ℕ, suc, ◌+◌, ◌≤◌, ◌<◌, length, eqb}
use Rattle.std.proofs.Math.Path.{sym, ap}
use Rattle.std.proofs.Common.{ap₂, ◌∙◌, le_refl, le_trans, arith, take_at}
use Rattle.std.proofs.Math.Seq.{drop-append-add}
use borrow.Author.Tests.{eqb-true, eqb-false}
use Rattle.node.specs.Entry.{Entry}
use Rattle.node.specs.Find.{is_there}
use Rattle.node.specs.Slot.{MemNode, remove_at}
use Rattle.node.specs.laws.base.Tests.{by_test}
use Rattle.tree.specs.State.{State, node_at, put_node, with_entries, changed, marked_dead}
use Rattle.tree.specs.laws.state.State.{at_put_same, at_put_other, put_count}
use Rattle.tree.specs.laws.state.Entries.{without}
use Rattle.tree.specs.Lookup.{Step}
use Rattle.tree.specs.Remove.{Dropped, drop_node, drop_emptied, take_from_leaf}
use Rattle.history.specs.Plain.{plain_remove}
use Rattle.history.specs.laws.PlainLaws.{remove_found}
use Rattle.theorem.specs.model.Bounds.{Terms, K, Items, nil, cons, low, Row, KeyIn, by_keys, remove_left, remove_right}
use Rattle.theorem.specs.model.Lazy.{cont, total, slots, Ok}
use Rattle.theorem.specs.model.Lift.{Local}
use Rattle.theorem.specs.steps.LeafAndKeys.{Along, end, down}
use Rattle.theorem.specs.steps.Grow.{Steady}
use Rattle.theorem.specs.remove.WhatIsLeft.{Stub, tip}
use Rattle.theorem.specs.remove.DeadSums.{part, part_live, dead_sum, put_sum}

-- ---- one step of the drops

pub drop_down : (s t : State) (T : List Entry → Entry → List Entry → Type 0) (leaf : ℕ) (x : Step) (l c : ℕ) (ps : List Step) → Along s T leaf l c ps
    → drop_emptied (x ∷ ps) t ≡ drop_node x c (drop_emptied ps t)
unfolding drop_emptied
drop_down s t T leaf x l c ps end = refl
drop_down s t T leaf x l c ps (down a b d w) = refl

-- slot c dead, and its parent n without child i
abbrev pub without_child : State → ℕ → ℕ → ℕ → State
without_child u n i c = put_node (put_node u c (marked_dead (node_at u c))) n (changed (node_at u n) (remove_at i (node_at u n).entries))

pub drop_empty : (x : Step) (c : ℕ) (d : Dropped) → (node_at d.state c).entries ≡ []
    → drop_node x c d ≡ record { state = without_child d.state x.slot x.child c; nodes = suc d.nodes }
unfolding drop_node marked_dead
drop_empty x c d h = rw h

pub drop_full : (x : Step) (c : ℕ) (d : Dropped) (f : Entry) (fs : List Entry) → (node_at d.state c).entries ≡ f ∷ fs → drop_node x c d ≡ d
unfolding drop_node
drop_full x c d f fs h = rw h

pub remove_at_lem : (xs : List Entry) (e : Entry) (ys : List Entry) → remove_at (length xs) (xs ++ e ∷ ys) ≡ xs ++ ys
unfolding remove_at
remove_at_lem xs e ys = ap₂ ◌++◌ (take_at xs (e ∷ ys) (length xs) refl) (drop-append-add xs (e ∷ ys) 1)

module _ (τ : Terms) (rd : ℕ → MemNode) (k : List ℕ) (kk : KeyIn τ k) where
  pub remove_local : Local τ k (plain_remove τ.order k)
  remove_local = record { right = λ lo m xs ys r h. remove_right τ k kk ys r h; left = λ lo m lo' hi xs ys r r' h. remove_left τ k kk r r' h }

  -- one leaf: the bounds are kept
  remove_rows_lem : {lo lo' hi : ℕ} {es : List Entry} → Items (K τ) (Row τ) lo hi es → lo' ≤ lo
      → Items (K τ) (Row τ) lo' hi (plain_remove τ.order k es)
  unfolding plain_remove
  remove_rows_lem (nil e) z = nil (le_trans z e)
  remove_rows_lem (cons {m = m} {e = x} e p r) z =
      let w = p.below in
      by_keys τ x.key k p.key kk
      (λ l t. rw t (cons {m = m} (le_trans z e) p (remove_rows_lem r (le_refl _))))
      (λ q y t u. rw (t, u) (low (omega arith) r))
      (λ l t u. rw (t, u) (cons {m = m} (le_trans z e) p r))

  -- slot n of level l, before and after; j nodes are dropped
  pub record Shrunk (s u : State) (j l n : ℕ) (ps : List Step) : Type 0 where
    pub ok : (lo hi : ℕ) → Ok τ rd (node_at s) l lo hi (node_at s n) → Ok τ rd (node_at u) l lo hi (node_at u n)
    pub holds : cont rd (node_at u) l (node_at u n) ≡ plain_remove τ.order k (cont rd (node_at s) l (node_at s n))
    -- 1 for a slot that is dropped
    pub gone : ℕ → ℕ
    pub uses : (d : ℕ) → slots rd (node_at u) l d (node_at u n) + gone d ≡ slots rd (node_at s) l d (node_at s n)
    pub dead : (d : ℕ) → 1 ≤ gone d → (node_at u d).dead ≡ true
    pub alive : (d : ℕ) → gone d ≡ 0 → (node_at u d).dead ≡ (node_at s d).dead
    pub keep : (d : ℕ) → (d ≡ n → ⊥) → slots rd (node_at s) l d (node_at s n) ≡ 0 → node_at u d ≡ node_at s d
    pub books : (f : MemNode → ℕ) → Steady f
        → total rd (node_at u) f l (node_at u n) + dead_sum f u.nodes ≡ total rd (node_at s) f l (node_at s n) + dead_sum f s.nodes
    pub fewer : (f : MemNode → ℕ) → Steady f → total rd (node_at u) f l (node_at u n) ≤ total rd (node_at s) f l (node_at s n)
    pub nodes : total rd (node_at u) (λ m. 1) l (node_at u n) + j ≡ total rd (node_at s) (λ m. 1) l (node_at s n)
    pub count : length u.nodes ≡ length s.nodes
    pub level : (d : ℕ) → (node_at u d).level ≡ (node_at s d).level
    pub stub : Stub u l n ps

  -- ---- the leaf

  module _ (s : State) (leaf : ℕ) (o : s.order ≡ τ.order) (there : is_there τ.order k (node_at s leaf).entries ≡ true)
      (used : leaf < length s.nodes)
      (live : (node_at s leaf).dead ≡ false) where
    abbrev taken : MemNode
    taken = with_entries (node_at s leaf) (without s.order k (node_at s leaf).entries)

    abbrev t : State
    t = take_from_leaf s leaf k

    t_leaf : node_at t leaf ≡ taken
    unfolding take_from_leaf
    t_leaf = at_put_same s leaf taken used

    t_row : (node_at t leaf).entries ≡ plain_remove τ.order k (node_at s leaf).entries
    unfolding with_entries
    t_row =
        ap (λ (z : MemNode). z.entries) t_leaf ∙ ap (λ (z : ℕ). without z k (node_at s leaf).entries) o
        ∙ sym (remove_found τ.order k (node_at s leaf).entries there)

    pub leaf_taken : Shrunk s t 0 0 leaf (record { slot = leaf; child = 0 } ∷ [])
    unfolding take_from_leaf with_entries cont slots total
    leaf_taken =
        let same : (f : MemNode → ℕ) → Steady f → f (node_at t leaf) ≡ f (node_at s leaf) =
        λ f h. h.same (node_at t leaf) (node_at s leaf) (ap (λ (z : MemNode). z.block) t_leaf) (ap (λ (z : MemNode). z.id) t_leaf) in
        record {
          ok = λ lo hi h. record {
            level = ap (λ (z : MemNode). z.level) t_leaf ∙ h.level;
            live = ap (λ (z : MemNode). z.dead) t_leaf ∙ h.live;
            items = rw t_row (remove_rows_lem h.items (le_refl _));
          };
          holds = t_row;
          gone = λ d. 0;
          uses = λ d. refl;
          dead = λ d h. absurd (omega arith);
          alive = λ d h. by_test (eqb d leaf)
              (λ q. let z : d ≡ leaf = eqb-true d leaf q in rw z (ap (λ (y : MemNode). y.dead) t_leaf))
              (λ q. ap (λ (y : MemNode). y.dead) (at_put_other s leaf taken d (eqb-false d leaf q)));
          keep = λ d h z. at_put_other s leaf taken d h;
          books = λ f h.
              let a : part f (node_at s leaf) ≡ 0 = part_live f (node_at s leaf) live in
              let b : part f taken ≡ 0 = part_live f taken live in
              omega (arith, same f h, put_sum f s leaf taken used);
          fewer = λ f h. omega (arith, same f h);
          nodes = refl;
          count = put_count s leaf taken;
          level = λ d. by_test (eqb d leaf)
              (λ q. let z : d ≡ leaf = eqb-true d leaf q in rw z (ap (λ (y : MemNode). y.level) t_leaf))
              (λ q. ap (λ (y : MemNode). y.level) (at_put_other s leaf taken d (eqb-false d leaf q)));
          stub = tip tt;
        }
