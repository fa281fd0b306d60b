-- What is so of every live slot's entries stays so over marks, a leaf's edit, dropped nodes and a leveled root: for the bytes of records and for the
-- lengths of keys. Assumes nothing.
use Rattle.std.specs.Prelude.{◌≡◌, false, ℕ, zero, suc, ◌+◌, ◌≤◌, length, take, drop, ltb}
use Rattle.std.proofs.Math.Path.{refl}
use Rattle.std.proofs.Common.{sym, ap, subst, le_trans, arith, ltb-true, ltb-false}
use mathlib.Core.List.{List, [], ◌∷◌, ◌++◌}
use Rattle.std.proofs.Math.Seq.{set_out}
use Rattle.node.specs.Entry.{Entry, Val}
use Rattle.node.specs.Find.{key_at, place_of, is_there}
use Rattle.node.specs.Slot.{MemNode, insert_at, remove_at, revalued, with_value}
use Rattle.node.specs.declared.info.BTreeInfo.{BTreeInfo}
use Rattle.node.specs.laws.base.Tests.{by_test, never}
use Rattle.tree.specs.State.{State, node_at, put_node, with_nodes, with_info, with_entries, changed, marked_dirty, marked_dead, with_level}
use Rattle.tree.specs.Lookup.{Step, leaf_of}
use Rattle.tree.specs.Edit.{mark_way, mark_dirty, touch}
use Rattle.tree.specs.Upsert.{put_entry, put_in_leaf}
use Rattle.tree.specs.Remove.{Dropped, drop_node, drop_emptied, leveled_root, take_from_leaf}
use Rattle.tree.specs.laws.trust.OneStep.{put_each}
use Rattle.tree.specs.laws.trust.Loads.{by_list}
use Rattle.tree.specs.laws.trust.Edit.{pick}
use Rattle.tree.specs.laws.room.Weight.{weight, weight_remove, weight_key_at}
use Rattle.tree.specs.internal.Room.{Roomy}
use Rattle.tree.specs.laws.room.Edit.{KeysMost}

pub record Each (P : List Entry → Type 0) (s : State) : Type 0 where
  pub at : (n : ℕ) → (node_at s n).dead ≡ false → P (node_at s n).entries

-- the bytes of records, and the lengths of keys
abbrev pub at_most : ℕ → List Entry → Type 0
at_most k es = weight es ≤ k

abbrev pub keys_at_most : ℕ → List Entry → Type 0
keys_at_most k es = (i : ℕ) → length (key_at es i) ≤ k

pub each_roomy : (k : ℕ) (s : State) → Each (at_most k) s → Roomy k s
each_roomy k s h = record { most = h.at }

pub roomy_each : (k : ℕ) (s : State) → Roomy k s → Each (at_most k) s
roomy_each k s h = record { at = h.most }

pub each_keys : (k : ℕ) (s : State) → Each (keys_at_most k) s → KeysMost k s
each_keys k s h = record { most = λ n i d. h.at n d i }

-- a key takes no more than all records
pub roomy_keys : (k : ℕ) (s : State) → Roomy k s → Each (keys_at_most k) s
roomy_keys k s h = record { at = λ n d i. le_trans (weight_key_at (node_at s n).entries i) (h.most n d) }

-- ---- each change

put_nothing : (s : State) (n : ℕ) (m : MemNode) → length s.nodes ≤ n → put_node s n m ≡ s
unfolding put_node with_nodes
put_nothing s n m h = ap (with_nodes s) (set_out s.nodes n m h)

module _ (P : List Entry → Type 0) where
  pub each_put : (s : State) (n : ℕ) (m : MemNode) → (m.dead ≡ false → P m.entries) → Each P s → Each P (put_node s n m)
  each_put s n m f h =
      by_test (ltb n (length s.nodes))
      (λ t. record { at = put_each (λ i x. x.dead ≡ false → P x.entries) s n m (ltb-true n _ t) f (λ i d. h.at i) })
      (λ t. rw (put_nothing s n m (ltb-false n (length s.nodes) t)) h)

  pub each_info : (s : State) (t : BTreeInfo) → Each P s → Each P (with_info s t)
  unfolding with_info node_at
  each_info s t h = record { at = h.at }

  each_mark : (s : State) (n : ℕ) → Each P s → Each P (put_node s n (marked_dirty (node_at s n)))
  unfolding marked_dirty changed
  each_mark s n h = each_put s n _ (h.at n) h

  each_way : (ps : List Step) (s : State) → Each P s → Each P (mark_way ps s)
  unfolding mark_way
  each_way [] s h = h
  each_way (x ∷ ps) s h = each_way ps _ (each_mark s x.slot h)

  pub each_touch : (ps : List Step) (s : State) → Each P s → Each P (touch ps s)
  unfolding touch mark_dirty
  each_touch ps s h =
      pick (Each P) s.virtual (mark_dirty (mark_dirty s s.root) (leaf_of ps)) (mark_way ps s)
      (λ t. each_mark _ (leaf_of ps) (each_mark s s.root h)) (λ t. each_way ps s h)

  -- an entry put in a leaf
  pub each_leaf : (s : State) (n : ℕ) (k : List ℕ) (v : Val)
      → ((node_at s n).dead ≡ false → P (put_entry s.order (record { key = k; value = v }) (node_at s n).entries)) → Each P s
      → Each P (put_in_leaf s n k v)
  unfolding put_in_leaf with_entries
  each_leaf s n k v f h = each_info _ _ (each_put s n _ f h)

  -- entries taken
  module _ (closed : (i : ℕ) (es : List Entry) → P es → P (remove_at i es)) where
    pub each_take : (s : State) (n : ℕ) (k : List ℕ) → Each P s → Each P (take_from_leaf s n k)
    unfolding take_from_leaf with_entries
    each_take s n k h = each_put s n _ (λ d. closed _ _ (h.at n d)) h

    each_one : (x : Step) (n : ℕ) (d : Dropped) → Each P d.state → Each P (drop_node x n d).state
    unfolding drop_node changed marked_dead
    each_one x n d h =
        by_list (node_at d.state n).entries
        (λ q. rw q (each_put _ x.slot _ (λ z. closed x.child _ (h.at x.slot z)) (each_put d.state n _ (λ z. never refl z) h)))
        (λ e es q. rw q h)

    pub each_drop : (ps : List Step) (s : State) → Each P s → Each P (drop_emptied ps s).state
    unfolding drop_emptied
    each_drop [] s h = h
    each_drop (x ∷ []) s h = h
    each_drop (x ∷ y ∷ ps) s h = each_one x y.slot (drop_emptied (y ∷ ps) s) (each_drop (y ∷ ps) s h)

  pub each_level : (s : State) → Each P s → Each P (leveled_root s)
  unfolding leveled_root with_level
  each_level s h =
      by_list (node_at s s.root).entries
      (λ q. rw q (each_put s s.root _ (h.at s.root) h))
      (λ e es q. rw q h)

-- ---- both are closed under what a remove does, and keys under what an upsert does

pub most_remove : (k i : ℕ) (es : List Entry) → at_most k es → at_most k (remove_at i es)
most_remove k i es h = le_trans (weight_remove i es) h

keys_without : (k i : ℕ) (es : List Entry) → keys_at_most k es → (j : ℕ) → length (key_at (take i es ++ drop (suc i) es) j) ≤ k
unfolding key_at
keys_without k zero [] h j = h j
keys_without k (suc i) [] h j = h j
keys_without k zero (e ∷ es) h j = h (suc j)
keys_without k (suc i) (e ∷ es) h zero = h zero
keys_without k (suc i) (e ∷ es) h (suc j) = keys_without k i es (λ l. h (suc l)) j

pub keys_remove : (k i : ℕ) (es : List Entry) → keys_at_most k es → keys_at_most k (remove_at i es)
unfolding remove_at
keys_remove k i es h j =
    let z : i + 1 ≡ suc i = omega arith in
    subst (λ (n : ℕ). length (key_at (take i es ++ drop n es) j) ≤ k) (sym z) (keys_without k i es h j)

keys_insert : (k i : ℕ) (e : Entry) (es : List Entry) → length e.key ≤ k → keys_at_most k es → (j : ℕ) → length (key_at (insert_at i e es) j) ≤ k
unfolding insert_at key_at
keys_insert k zero e es a h zero = a
keys_insert k zero e es a h (suc j) = h j
keys_insert k (suc i) e [] a h zero = a
keys_insert k (suc i) e [] a h (suc j) = h j
keys_insert k (suc i) e (x ∷ es) a h zero = h zero
keys_insert k (suc i) e (x ∷ es) a h (suc j) = keys_insert k i e es a (λ l. h (suc l)) j

keys_value : (k i : ℕ) (v : Val) (es : List Entry) → keys_at_most k es → (j : ℕ) → length (key_at (with_value i v es) j) ≤ k
unfolding with_value revalued key_at
keys_value k zero v [] h j = h j
keys_value k (suc i) v [] h j = h j
keys_value k zero v (x ∷ es) h zero = h zero
keys_value k zero v (x ∷ es) h (suc j) = h (suc j)
keys_value k (suc i) v (x ∷ es) h zero = h zero
keys_value k (suc i) v (x ∷ es) h (suc j) = keys_value k i v es (λ l. h (suc l)) j

pub keys_put : (k o : ℕ) (e : Entry) (es : List Entry) → length e.key ≤ k → keys_at_most k es → keys_at_most k (put_entry o e es)
unfolding put_entry
keys_put k o e es a h =
    pick (keys_at_most k) (is_there o e.key es) (with_value (place_of o e.key es) e.value es) (insert_at (place_of o e.key es) e es)
    (λ z. keys_value k (place_of o e.key es) e.value es h)
    (λ z. keys_insert k (place_of o e.key es) e es a h)
