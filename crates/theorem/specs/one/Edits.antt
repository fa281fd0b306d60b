-- What a remove leaves of slots that hold together: index nodes hold children only, so handing the root's place down does not answer 1. Assumes
-- nothing.
use Rattle.std.specs.Prelude.{◌≡◌, Bool, true, false, cond, ◌||◌, not, ℕ, zero, suc, ◌+◌, ◌≤◌, ◌<◌, length, take, ltb, eqb}
use Rattle.std.proofs.Common.{sym, ap, subst, ◌∙◌, arith, ltb-true, ltb-false, eqb-true}
use mathlib.Core.List.{List, [], ◌∷◌, ◌++◌}
use Rattle.std.proofs.Math.ListN.{drop, get_or-eq_default}
use Rattle.std.proofs.lemmas.Bool.{eqb-false}
use Rattle.node.specs.Order.{same_key}
use Rattle.node.specs.Entry.{Entry, Val, ghost, leaf, disk, mem}
use Rattle.node.specs.Find.{key_at}
use Rattle.node.specs.declared.info.BTreeInfo.{BTreeInfo}
use Rattle.node.specs.Slot.{MemNode, insert_at, remove_at, rekeyed, with_key, revalued, with_value}
use Rattle.node.specs.laws.base.Tests.{by_test}
use Rattle.tree.specs.State.{State, with_nodes, with_root, with_info, no_node, node_at, put_node, add_node, with_entries, changed, marked_dirty, marked_dead}
use Rattle.tree.specs.State.{with_level}
use Rattle.tree.specs.Lookup.{Step, leaf_of}
use Rattle.tree.specs.Edit.{mark_way, mark_dirty, touch, set_index_key, index_keys}
use Rattle.tree.specs.Remove.{Dropped, drop_node, drop_emptied, leveled_root, take_from_leaf}
use Rattle.tree.specs.laws.state.State.{at_put_same, at_put_other, put_count, at_add_old, at_add_new, add_count}
use Rattle.flush.specs.laws.SpaceLaws.{by_list}
use Rattle.theorem.specs.disk.Read.{Every}

-- ---- each entry, of lists cut and joined

module _ (P : Entry → Type 0) where
  pub every_append : (xs ys : List Entry) → Every P xs → Every P ys → Every P (xs ++ ys)
  every_append [] ys h k = k
  every_append (x ∷ xs) ys h k = (h.0, every_append xs ys h.1 k)

  pub every_take : (n : ℕ) (xs : List Entry) → Every P xs → Every P (take n xs)
  every_take zero xs h = tt
  every_take (suc n) [] h = tt
  every_take (suc n) (x ∷ xs) h = (h.0, every_take n xs h.1)

  pub every_drop : (n : ℕ) (xs : List Entry) → Every P xs → Every P (drop n xs)
  every_drop zero xs h = h
  every_drop (suc n) [] h = tt
  every_drop (suc n) (x ∷ xs) h = every_drop n xs h.1

  pub every_insert : (i : ℕ) (e : Entry) (xs : List Entry) → P e → Every P xs → Every P (insert_at i e xs)
  unfolding insert_at
  every_insert i e xs p h = every_append (take i xs) (e ∷ drop i xs) (every_take i xs h) (p, every_drop i xs h)

  pub every_remove : (i : ℕ) (xs : List Entry) → Every P xs → Every P (remove_at i xs)
  unfolding remove_at
  every_remove i xs h = every_append (take i xs) (drop (i + 1) xs) (every_take i xs h) (every_drop (i + 1) xs h)

-- ---- children

-- a slot of s₀ that is not dead, or a slot that s₀ has not
abbrev pub In : State → ℕ → Type 0
In s₀ c = c < length s₀.nodes → (node_at s₀ c).dead ≡ false

abbrev pub AllIn : State → List Step → Type 0
AllIn s₀ [] = Unit {0}
AllIn s₀ (x ∷ xs) = In s₀ x.slot × AllIn s₀ xs

abbrev pub KidIn : State → Val → Type 0
KidIn s₀ ghost = ⊥
KidIn s₀ (leaf b) = ⊥
KidIn s₀ (disk r) = Unit {0}
KidIn s₀ (mem c) = In s₀ c

abbrev pub Kids : State → List Entry → Type 0
Kids s₀ es = Every (λ e. KidIn s₀ e.value) es

kids_rekeyed : (s₀ : State) (k : List ℕ) (xs : List Entry) → Kids s₀ xs → Kids s₀ (rekeyed k xs)
unfolding rekeyed
kids_rekeyed s₀ k [] h = tt
kids_rekeyed s₀ k (x ∷ xs) h = h

kids_key : (s₀ : State) (i : ℕ) (k : List ℕ) (xs : List Entry) → Kids s₀ xs → Kids s₀ (with_key i k xs)
unfolding with_key
kids_key s₀ i k xs h = every_append _ (take i xs) (rekeyed k (drop i xs)) (every_take _ i xs h) (kids_rekeyed s₀ k (drop i xs) (every_drop _ i xs h))

kids_revalued : (s₀ : State) (v : Val) (xs : List Entry) → KidIn s₀ v → Kids s₀ xs → Kids s₀ (revalued v xs)
unfolding revalued
kids_revalued s₀ v [] p h = tt
kids_revalued s₀ v (x ∷ xs) p h = (p, h.1)

pub kids_value : (s₀ : State) (i : ℕ) (v : Val) (xs : List Entry) → KidIn s₀ v → Kids s₀ xs → Kids s₀ (with_value i v xs)
unfolding with_value
kids_value s₀ i v xs p h = every_append _ (take i xs) (revalued v (drop i xs)) (every_take _ i xs h)
    (kids_revalued s₀ v (drop i xs) p (every_drop _ i xs h))

-- ---- slots: an index node holds such children only

pub record Sure (s₀ t : State) : Type 0 where
  pub root : In s₀ t.root
  pub more : length s₀.nodes ≤ length t.nodes
  pub each : (n : ℕ) → In s₀ n → 1 ≤ (node_at t n).level → Kids s₀ (node_at t n).entries

-- a slot that is not in use has level 0
pub unused_level : (s : State) (n : ℕ) → length s.nodes ≤ n → (node_at s n).level ≡ 0
unfolding node_at no_node
unused_level s n h = ap (λ (m : MemNode). m.level) (get_or-eq_default s.nodes no_node h)

-- ---- what is so of each outcome of a step is so of the step. (P stands for anything, so that nothing is computed)

by_touch : (P : State → Type 0) (ps : List Step) (s : State) → P (mark_dirty (mark_dirty s s.root) (leaf_of ps)) → P (mark_way ps s) → P (touch ps s)
unfolding touch
by_touch P ps s a b = pick s.virtual
  where
    pick : (t : Bool) → P (cond t (mark_dirty (mark_dirty s s.root) (leaf_of ps)) (mark_way ps s))
    pick true = a
    pick false = b

by_drop : (P : State → Type 0) (x : Step) (n : ℕ) (d : Dropped) → P d.state
    → P (put_node (put_node d.state n (marked_dead (node_at d.state n))) x.slot
    (changed (node_at d.state x.slot) (remove_at x.child (node_at d.state x.slot).entries)))
    → P (drop_node x n d).state
unfolding drop_node marked_dead
by_drop P x n d a b = by_list (node_at d.state n).entries (λ q. rw q b) (λ e es q. rw q a)

by_leveled : (P : State → Type 0) (s : State) → P s → P (put_node s s.root (with_level (node_at s s.root) 0)) → P (leveled_root s)
unfolding leveled_root
by_leveled P s a b = by_list (node_at s s.root).entries (λ q. rw q b) (λ e es q. rw q a)

by_index : (P : State → Type 0) (s : State) (n i c : ℕ) → P s
    → ((k : List ℕ) → P (put_node s n (changed (node_at s n) (with_key i k (node_at s n).entries)))) → P (set_index_key s n i c)
unfolding set_index_key
by_index P s n i c a b =
    by_list (node_at s c).entries
    (λ q. rw q a)
    (λ e es q. by_test ((node_at s c).dead || not (ltb i (length (node_at s n).entries)) || same_key (key_at (node_at s n).entries i) e.key)
    (λ t. rw (q, t) a) (λ t. rw (q, t) (b e.key)))

module _ (s₀ : State) where
  abbrev Right : ℕ → MemNode → Type 0
  Right n m = In s₀ n → 1 ≤ m.level → Kids s₀ m.entries

  pub sure_put : (s : State) (n : ℕ) (m : MemNode) → Sure s₀ s → Right n m → Sure s₀ (put_node s n m)
  sure_put s n m h k =
      record {
        root = root_put;
        more = omega (arith, h.more, put_count s n m);
        each = λ c i lv.
            by_test (eqb c n)
            (λ t.
            let q : c ≡ n = eqb-true c n t in
            by_test (ltb c (length s.nodes))
            (λ u.
            let lt = ltb-true c (length s.nodes) u in
            let e : node_at (put_node s n m) c ≡ m = ap (node_at (put_node s n m)) q ∙ at_put_same s n m (omega arith) in
            subst (λ (z : MemNode). Kids s₀ z.entries) (sym e) (k (subst (In s₀) q i) (omega (arith, lv, ap (λ (z : MemNode). z.level) e))))
            (λ u.
            let z = unused_level (put_node s n m) c (omega (arith, put_count s n m, ltb-false c (length s.nodes) u)) in
            absurd (omega arith)))
            (λ t.
            let e : node_at (put_node s n m) c ≡ node_at s c = at_put_other s n m c (eqb-false c n t) in
            subst (λ (z : MemNode). Kids s₀ z.entries) (sym e) (h.each c i (omega (arith, lv, ap (λ (z : MemNode). z.level) e))));
      }
    where
      root_put : In s₀ (put_node s n m).root
      root_put = unfold put_node with_nodes in h.root

  pub sure_add : (s : State) (m : MemNode) → Sure s₀ s → Right (length s.nodes) m → Sure s₀ (add_node s m)
  sure_add s m h k =
      record {
        root = root_add;
        more = omega (arith, h.more, add_count s m);
        each = λ c i lv.
            by_test (ltb c (length s.nodes))
            (λ u.
            let e : node_at (add_node s m) c ≡ node_at s c = at_add_old s m c (ltb-true c (length s.nodes) u) in
            subst (λ (z : MemNode). Kids s₀ z.entries) (sym e) (h.each c i (omega (arith, lv, ap (λ (z : MemNode). z.level) e))))
            (λ u. by_test (eqb c (length s.nodes))
            (λ t.
            let q : c ≡ length s.nodes = eqb-true c (length s.nodes) t in
            let e : node_at (add_node s m) c ≡ m = ap (node_at (add_node s m)) q ∙ at_add_new s m in
            subst (λ (z : MemNode). Kids s₀ z.entries) (sym e) (k (subst (In s₀) q i) (omega (arith, lv, ap (λ (z : MemNode). z.level) e))))
            (λ t.
            let d = eqb-false c (length s.nodes) t in
            let z = unused_level (add_node s m) c (omega (arith, add_count s m, ltb-false c (length s.nodes) u, d)) in
            absurd (omega arith)));
      }
    where
      root_add : In s₀ (add_node s m).root
      root_add = unfold add_node with_nodes in h.root

  pub sure_root : (s : State) (r : ℕ) → Sure s₀ s → In s₀ r → Sure s₀ (with_root s r)
  unfolding with_root node_at
  sure_root s r h k = record { root = k; more = h.more; each = h.each }

  pub sure_info : (s : State) (t : BTreeInfo) → Sure s₀ s → Sure s₀ (with_info s t)
  unfolding with_info node_at
  sure_info s t h = record { root = h.root; more = h.more; each = h.each }

  -- ---- marks

  mark_sure : (s : State) (n : ℕ) → Sure s₀ s → Sure s₀ (mark_dirty s n)
  unfolding mark_dirty marked_dirty changed
  mark_sure s n h = sure_put s n (marked_dirty (node_at s n)) h (λ i lv. h.each n i lv)

  way_sure : (ps : List Step) (s : State) → Sure s₀ s → Sure s₀ (mark_way ps s)
  unfolding mark_way marked_dirty changed
  way_sure [] s h = h
  way_sure (x ∷ xs) s h = way_sure xs _ (sure_put s x.slot (marked_dirty (node_at s x.slot)) h (λ i lv. h.each x.slot i lv))

  pub touch_sure : (ps : List Step) (s : State) → Sure s₀ s → Sure s₀ (touch ps s)
  touch_sure ps s h = by_touch (Sure s₀) ps s (mark_sure (mark_dirty s s.root) (leaf_of ps) (mark_sure s s.root h)) (way_sure ps s h)

  -- ---- the leaf, and emptied nodes

  pub take_sure : (s : State) (n : ℕ) (k : List ℕ) → Sure s₀ s → Sure s₀ (take_from_leaf s n k)
  unfolding take_from_leaf with_entries
  take_sure s n k h = sure_put s n _ h (λ i lv. every_remove _ _ (node_at s n).entries (h.each n i lv))

  -- slot n dead, slot p without child i
  emptied_sure : (s : State) (n p i : ℕ) → Sure s₀ s
      → Sure s₀ (put_node (put_node s n (marked_dead (node_at s n))) p (changed (node_at s p) (remove_at i (node_at s p).entries)))
  unfolding marked_dead changed
  emptied_sure s n p i h = sure_put _ p _ (sure_put s n _ h (λ j lv. tt)) (λ j lv. every_remove _ i (node_at s p).entries (h.each p j lv))

  drop_sure : (x : Step) (n : ℕ) (d : Dropped) → Sure s₀ d.state → Sure s₀ (drop_node x n d).state
  drop_sure x n d h = by_drop (Sure s₀) x n d h (emptied_sure d.state n x.slot x.child h)

  pub drops_sure : (ps : List Step) (s : State) → Sure s₀ s → Sure s₀ (drop_emptied ps s).state
  unfolding drop_emptied
  drops_sure [] s h = h
  drops_sure (x ∷ []) s h = h
  drops_sure (x ∷ y ∷ xs) s h = drop_sure x y.slot (drop_emptied (y ∷ xs) s) (drops_sure (y ∷ xs) s h)

  pub level_sure : (s : State) → Sure s₀ s → Sure s₀ (leveled_root s)
  unfolding with_level
  level_sure s h = by_leveled (Sure s₀) s h (sure_put s s.root _ h (λ i lv. absurd (omega arith)))

  -- ---- index keys

  key_sure : (s : State) (n i c : ℕ) → Sure s₀ s → Sure s₀ (set_index_key s n i c)
  unfolding changed
  key_sure s n i c h = by_index (Sure s₀) s n i c h (λ k. sure_put s n _ h (λ j lv. kids_key s₀ i k (node_at s n).entries (h.each n j lv)))

  pub index_sure : (ps : List Step) (s : State) → Sure s₀ s → Sure s₀ (index_keys ps s)
  unfolding index_keys
  index_sure [] s h = h
  index_sure (x ∷ []) s h = h
  index_sure (x ∷ y ∷ xs) s h = key_sure (index_keys (y ∷ xs) s) x.slot x.child y.slot (index_sure (y ∷ xs) s h)
