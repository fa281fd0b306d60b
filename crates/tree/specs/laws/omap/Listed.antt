-- The entries of an object map have keys of 16 bytes, also those that a range finds in its slots; written to the scratch, they are listed there.
-- Assumes nothing.
use Rattle.std.specs.Prelude.{◌≡◌, refl, Bool, true, not, ◌&&◌, ltb, eqb}
use Rattle.std.proofs.Math.Path.{ap}
use Rattle.std.proofs.Common.{◌∙◌, arith, ltb-true, ltb-false, eqb-true}
use mathlib.Core.List.{List, [], ◌∷◌, ◌++◌}
use Prim.Native.Nat.{ℕ, zero, suc, ◌+◌, ◌≤◌, ◌<◌}
use Rattle.std.proofs.Math.ListN.{length, drop}
use Rattle.node.specs.Bytes.{splice}
use Rattle.node.specs.Order.{pair, keyed_length, less}
use Rattle.node.specs.Entry.{Entry, Val, every}
use Rattle.node.specs.Find.{key_at, val_at}
use Rattle.node.specs.Records.{records_length, entries_of, records_of}
use Rattle.node.specs.Slot.{head_at, node_of, suit, key_length_holds, value_holds, entry_holds}
use Rattle.node.specs.declared.info.BTreeInfo.{BTreeInfo}
use Rattle.node.specs.laws.base.Tests.{by_test, and_left, and_both, and_split}
use Rattle.node.specs.laws.base.Splice.{drop_splice}
use Rattle.node.specs.laws.base.Seal.{length_splice}
use Rattle.node.specs.laws.order.Rising.{every_join, every_at, every_imp}
use Rattle.node.specs.laws.slot.Records.{Storables, entries_back, records_back}
use Rattle.tree.specs.Lent.{Lent}
use Rattle.tree.specs.State.{State, no_node, node_at}
use Rattle.tree.specs.Lookup.{ends_above, between, range_enters}
use Rattle.tree.specs.Trust.{trusted}
use Rattle.tree.specs.Workspace.{state_of}
use Rattle.tree.specs.internal.Bank.{node_in}
use Rattle.tree.specs.internal.Range.{held_below, held_child, held_kids, range_held}
use Rattle.tree.specs.laws.state.State.{by_val}
use Rattle.tree.specs.laws.slots.Tree.{node_in_lem, node_out}
use Rattle.tree.specs.laws.trust.Stands.{trusted_of}
use Rattle.tree.specs.declared.editor.Tree.{Tree}

-- ---- what is so of every entry of every node is so of every entry in range

module _ (t : Entry → Bool) where
  between_every : (o : ℕ) (lo : List ℕ) (hi : List (List ℕ)) (es : List Entry) → every t es ≡ true → every t (between o lo hi es) ≡ true
  unfolding between every
  between_every o lo hi [] h = refl
  between_every o lo hi (e ∷ es) h =
      let (p, q) = and_split (t e) (every t es) h in
      by_test (not (less o e.key lo) && ends_above o hi e.key)
      (λ z. rw z (and_both (t e) _ p (between_every o lo hi es q)))
      (λ z. rw z (between_every o lo hi es q))

  module _ (f : ℕ → List Entry) (s : State) (lo : List ℕ) (hi : List (List ℕ)) (n : ℕ) (each : (c : ℕ) → every t (f c) ≡ true) where
    below_every : (v : Val) → every t (held_below f v) ≡ true
    unfolding held_below every
    below_every v = by_val v (λ q. rw q) (λ b q. rw q) (λ r q. rw q) (λ c q. rw q (each c))

    child_every : (i : ℕ) → every t (held_child f s lo hi n i) ≡ true
    unfolding held_child every
    child_every i =
        by_test (range_enters s.order lo hi (node_at s n).entries i)
        (λ z. rw z (below_every (val_at (node_at s n).entries i)))
        (λ z. rw z)

    kids_every : (m i : ℕ) → every t (held_kids f s lo hi n m i) ≡ true
    unfolding held_kids every
    kids_every zero i = refl
    kids_every (suc m) i = every_join t (held_child f s lo hi n i) (held_kids f s lo hi n m (suc i)) (child_every i) (kids_every m (suc i))

  held_every : (d : ℕ) (s : State) (lo : List ℕ) (hi : List (List ℕ)) → ((n : ℕ) → every t (node_at s n).entries ≡ true) → (n : ℕ)
      → every t (range_held d s lo hi n) ≡ true
  unfolding range_held
  held_every zero s lo hi k n = between_every s.order lo hi (node_at s n).entries (k n)
  held_every (suc d) s lo hi k n =
      kids_every (range_held d s lo hi) s lo hi n (λ c. held_every d s lo hi k c) (length (node_at s n).entries) 0

-- ---- keys of 16 bytes

abbrev pub keyed16 : Entry → Bool
keyed16 e = eqb (length e.key) 16

holds_keyed : (o : ℕ) (t : BTreeInfo) (isLeaf : Bool) (e : Entry) → o ≡ pair → entry_holds o t isLeaf e ≡ true → keyed16 e ≡ true
unfolding entry_holds key_length_holds keyed_length
holds_keyed o t isLeaf e q h =
    let z : entry_holds pair t isLeaf e ≡ true = rw q at h in
    let (a, b) = and_split (key_length_holds pair t (length e.key) && value_holds t e.value) (suit isLeaf e) z in
    let (c, d) = and_split (key_length_holds pair t (length e.key)) (value_holds t e.value) a in
    and_left (eqb (length e.key) 16) _ c

-- a dead node has no entries
dead_none : (size : ℕ) (t : Tree) (heads bytes : List ℕ) (n : ℕ) → (node_at (state_of size t heads bytes) n).dead ≡ true
    → (node_at (state_of size t heads bytes) n).entries ≡ []
unfolding node_in node_of no_node
dead_none size t heads bytes n d =
    by_test (ltb n t.used)
    (λ z.
    let k : node_at (state_of size t heads bytes) n ≡ node_in size heads bytes n = node_in_lem size t heads bytes n (ltb-true n t.used z) in
    let d' : eqb (head_at heads n).dead 1 ≡ true = rw k at d in
    rw k (rw d'))
    (λ z. rw (node_out size t heads bytes n (ltb-false n t.used z)))

module _ (l : Lent) (size : ℕ) (t : Tree) (heads bytes : List ℕ) (h : trusted l (state_of size t heads bytes) ≡ true)
    (o : t.order.code ≡ pair) where
  slot_keyed : (n : ℕ) → every keyed16 (node_at (state_of size t heads bytes) n).entries ≡ true
  unfolding state_of every
  slot_keyed n =
      by_test (node_at (state_of size t heads bytes) n).dead
      (λ d. rw (dead_none size t heads bytes n d))
      (λ d. every_imp (entry_holds t.order.code t.info (eqb (node_at (state_of size t heads bytes) n).level 0)) keyed16
      (node_at (state_of size t heads bytes) n).entries (λ e. holds_keyed t.order.code t.info _ e o)
      ((trusted_of l (state_of size t heads bytes) h).1.rows n d))

  pub held_keyed : (d : ℕ) (lo : List ℕ) (hi : List (List ℕ)) (n : ℕ) → every keyed16 (range_held d (state_of size t heads bytes) lo hi n) ≡ true
  held_keyed d lo hi n = held_every keyed16 d (state_of size t heads bytes) lo hi slot_keyed n

-- ---- written to the scratch

-- so many records lie within the scratch from a place on, each with a key of 16 bytes
pub record Listed (from count : ℕ) (scratch : List ℕ) : Type 0 where
  pub within : from + records_length count (drop from scratch) ≤ length scratch
  pub keys : (i : ℕ) → i < count → length (key_at (entries_of count (drop from scratch)) i) ≡ 16

module _ (es : List Entry) (s s' : List ℕ) (from : ℕ) (ss : Storables es) (ks : every keyed16 es ≡ true)
    (w : from + length (records_of es) ≤ length s)
    (e : s' ≡ splice s from (records_of es)) where
  list_is : drop from s' ≡ records_of es ++ drop (from + length (records_of es)) s
  list_is = ap (drop from) e ∙ drop_splice s from (records_of es) (omega arith)

  pub listed_entries : entries_of (length es) (drop from s') ≡ es
  listed_entries = ap (entries_of (length es)) list_is ∙ entries_back es (drop (from + length (records_of es)) s) ss

  listed_length : records_length (length es) (drop from s') ≡ length (records_of es)
  listed_length = ap (records_length (length es)) list_is ∙ records_back es (drop (from + length (records_of es)) s) ss

  pub listed_as : Listed from (length es) s'
  unfolding key_at
  listed_as =
      record {
        within = omega (arith, listed_length, ap length e ∙ length_splice s from (records_of es) w);
        keys = λ i q. ap (λ (xs : List Entry). length (key_at xs i)) listed_entries ∙ eqb-true _ 16 (every_at keyed16 es i _ q ks);
      }
