-- An entry put in its leaf as the code puts it: whether it fits, what it holds, the tree's numbers, the slot's records. Assumes nothing.
use Rattle.std.specs.Prelude.{◌≡◌, refl, Bool, cond, not, ◌&&◌, ◌||◌, take, leb, ltb, eqb, max}
use Rattle.std.specs.Prelude.{Option, Some, None, MatchOption, IsTrue, Result, is_ok}
use Rattle.std.specs.Borrow.{Bor}
use Rattle.std.proofs.Math.Path.{sym, ap}
use Rattle.std.proofs.Common.{ap₂, ◌∙◌, arith}
use mathlib.Core.List.{List}
use Rattle.std.proofs.Math.Bool.{true, false}
use Prim.Native.Nat.{ℕ, ◌+◌, ◌-◌, ◌*◌, ◌^◌, ◌≤◌, ◌<◌}
use Rattle.std.proofs.Math.ListN.{length, set}
use borrow.Author.Tests.{leb-true, leb-false, ltb-true, ltb-false, lt-ltb, le-ltb, eqb-true, eqb-false, not-true, not-false}
use Rattle.node.specs.Entry.{Entry, Val, ghost, leaf, value_length}
use Rattle.node.specs.Order.{keyed_length, keyed}
use Rattle.node.specs.Find.{place_of, is_there}
use Rattle.node.specs.Fit.{greater, fixed}
use Rattle.node.specs.Records.{records_length, entries_of}
use Rattle.node.specs.Slot.{MemNode, head_at, insert_at, with_value, is_child, key_length_holds, value_length_holds, value_means}
use Rattle.node.specs.internal.Storable.{Held}
use Rattle.node.specs.declared.val.Val as val
use Rattle.node.specs.declared.val.Val.TheVariants as held
use Rattle.node.specs.declared.head.Head.{Head}
use Rattle.node.specs.declared.info.BTreeInfo.{BTreeInfo}
use Rattle.node.specs.declared.refusal.Refusal.TheVariants as is
use Rattle.node.specs.laws.base.Tests.{by_test}
use Rattle.node.specs.laws.slot.Records.{entries_front, records_less}
use Rattle.tree.specs.State.{State, node_at, put_node, with_nodes, with_info, with_counts, with_longest, with_entries}
use Rattle.tree.specs.Hold.{key_fits, value_fits}
use Rattle.tree.specs.Upsert.{put_entry, grown_longest, put_in_leaf, entry_fits}
use Rattle.tree.specs.Workspace.{slot_bytes, nodes_of, state_of}
use Rattle.tree.specs.Answers.{put_value, lent_value}
use Rattle.tree.specs.internal.Bank.{node_in, live, Lies, Ready, Put}
use Rattle.tree.specs.internal.Found.{spot_found, FoundAt}
use Rattle.tree.specs.internal.Writers.{edited}
use Rattle.tree.specs.declared.writers.DirtyMark.TheVariants.{Kept}
use Rattle.tree.specs.laws.slots.Bank.{live_entries, put_set, put_ready}
use Rattle.tree.specs.laws.slots.Tree.{node_in_lem}
use Rattle.tree.specs.laws.load.Fetch.{count_is}
use Rattle.tree.specs.laws.slots.OneSlot.{ready_part, part_long}
use Rattle.tree.specs.laws.room.Weight.{weight}
use Rattle.tree.specs.laws.refusal1.Roomy.{entries_weight}
use Rattle.tree.specs.declared.editor.Tree.{Tree}
use Rattle.tree.specs.declared.floor.Spot.{Spot}

-- ---- numbers

greater_is : (a b : ℕ) → max a b ≡ greater a b
unfolding greater
greater_is a b =
    by_test (leb a b)
    (λ t. let z = leb-true a b t in rw t (omega arith))
    (λ t. let z = leb-false a b t in rw t (omega arith))

pub with_entry_is : (t w : BTreeInfo) (key value k : ℕ)
    → w ≡ with_longest (with_counts t t.key_count t.node_count) t.longest_key (greater t.longest_val value) → k ≡ max t.longest_key key
    → record {
      flags = w.flags;
      node_size = w.node_size;
      key_size = w.key_size;
      val_size = w.val_size;
      longest_key = k;
      longest_val = w.longest_val;
      key_count = t.key_count + 1;
      node_count = w.node_count;
    } ≡ with_longest (with_counts t (t.key_count + 1) t.node_count) (greater t.longest_key key) (greater t.longest_val value)
unfolding with_longest with_counts
with_entry_is t w key value k e a = rw (e, a, greater_is)

pub with_value_is : (t : BTreeInfo) (value v : ℕ) → v ≡ max t.longest_val value
    → record {
      flags = t.flags;
      node_size = t.node_size;
      key_size = t.key_size;
      val_size = t.val_size;
      longest_key = t.longest_key;
      longest_val = v;
      key_count = t.key_count;
      node_count = t.node_count;
    } ≡ with_longest (with_counts t t.key_count t.node_count) t.longest_key (greater t.longest_val value)
unfolding with_longest with_counts
with_value_is t value v b = rw (b, greater_is)

pub count_found : (found : Bool) (keys : ℕ) → found ≡ true → true ≡ (found || ltb keys (2 ^ 64 - 1))
count_found found keys e = rw e

-- a word is at most 2^64 - 1
pub count_new : (found : Bool) (keys : ℕ) → keys < 2 ^ 64 → found ≡ false → not (eqb keys 0xFFFFFFFFFFFFFFFF) ≡ (found || ltb keys (2 ^ 64 - 1))
count_new found keys small e =
    by_test (eqb keys 0xFFFFFFFFFFFFFFFF)
    (λ t. let z = eqb-true keys 0xFFFFFFFFFFFFFFFF t in rw (e, t, le-ltb keys (2 ^ 64 - 1) (omega arith)))
    (λ t. let z = eqb-false keys 0xFFFFFFFFFFFFFFFF t in
    let y : keys < 2 ^ 64 - 1 = by_test (ltb keys (2 ^ 64 - 1)) (λ u. ltb-true keys (2 ^ 64 - 1) u)
    (λ u. absurd (z (omega (arith, ltb-false keys (2 ^ 64 - 1) u)))) in
    rw (e, t, lt-ltb keys (2 ^ 64 - 1) y))

-- how many entries there are after: alone, 13; beside others, 14
pub refusal_first : (count : ℕ) (found : Bool) → count ≡ 0 → is.Single ≡ cond (ltb 1 (count + cond found 0 1)) is.NoCut is.Single
refusal_first count true e = let z : ltb 1 (count + 0) ≡ false = le-ltb 1 (count + 0) (omega arith) in rw z
refusal_first count false e = let z : ltb 1 (count + 1) ≡ false = le-ltb 1 (count + 1) (omega arith) in rw z

pub refusal_beside : (count : ℕ) (found : Bool) → (count ≡ 0 → ⊥) → not found ≡ true
    → is.NoCut ≡ cond (ltb 1 (count + cond found 0 1)) is.NoCut is.Single
refusal_beside count found n e = let z : ltb 1 (count + 1) ≡ true = lt-ltb 1 (count + 1) (omega arith) in rw (not-true found e, z)

pub refusal_alone : (count : ℕ) (found : Bool) → count ≡ 1 → not found ≡ false → is.Single ≡ cond (ltb 1 (count + cond found 0 1)) is.NoCut is.Single
refusal_alone count found n e = let z : ltb 1 (count + 0) ≡ false = le-ltb 1 (count + 0) (omega arith) in rw (not-false found e, z)

pub refusal_others : (count : ℕ) (found : Bool) → (count ≡ 0 → ⊥) → (count ≡ 1 → ⊥) → not found ≡ false
    → is.NoCut ≡ cond (ltb 1 (count + cond found 0 1)) is.NoCut is.Single
refusal_others count found n m e = let z : ltb 1 (count + 0) ≡ true = lt-ltb 1 (count + 0) (omega arith) in rw (not-false found e, z)

-- ---- 12

and_true : (b : Bool) → b && true && true ≡ b && true
and_true true = refl
and_true false = refl

and_once : (a b : Bool) → a && b && true ≡ a && b
and_once true true = refl
and_once true false = refl
and_once false b = refl

-- the test of lengths is that of the entry
module _ (size : ℕ) (t : Tree) (heads bytes key : List ℕ) where
  abbrev fit : Val → Bool
  fit = entry_fits (state_of size t heads bytes) key

  ghost_is : fit ghost ≡ key_length_holds t.order.code t.info (length key) && true
  unfolding entry_fits key_fits value_fits key_length_holds state_of is_child keyed
  ghost_is = and_true (keyed_length t.order.code (length key) && (not (fixed t.info) || eqb (length key) t.info.key_size))

  leaf_is : (value : List ℕ) → fit (leaf value)
      ≡ key_length_holds t.order.code t.info (length key) && value_length_holds t.info (length value)
  unfolding entry_fits key_fits value_fits key_length_holds value_length_holds state_of is_child keyed
  leaf_is value =
      and_once (keyed_length t.order.code (length key) && (not (fixed t.info) || eqb (length key) t.info.key_size))
      (not (fixed t.info) || eqb (length value) t.info.val_size)

  module _ (k : Bool) (ek : k ≡ key_length_holds t.order.code t.info (length key)) where
    pub fits_key : (v : Option (Bor (List ℕ))) → k ≡ false → k ≡ entry_fits (state_of size t heads bytes) key (lent_value v)
    unfolding lent_value put_value
    fits_key None n = n ∙ sym (ghost_is ∙ rw (← ek, n))
    fits_key (Some x) n = n ∙ sym (leaf_is x.now ∙ rw (← ek, n))

    pub fits_rest : (v : Option (Bor (List ℕ))) (r : Bool) (So : Bor (List ℕ) → Type 0) → k ≡ true → MatchOption v (IsTrue r) So
        → ((x : Bor (List ℕ)) → So x → r ≡ value_length_holds t.info (length x.now))
        → r ≡ entry_fits (state_of size t heads bytes) key (lent_value v)
    unfolding lent_value put_value
    fits_rest None r So n q f = q ∙ sym (ghost_is ∙ rw (← ek, n))
    fits_rest (Some x) r So n q f = f x q ∙ sym (leaf_is x.now ∙ rw (← ek, n))

-- ---- what is put

-- what is put: a ghost where there are no bytes
pub lent_means : (o : Option (Bor (List ℕ))) (v : val.Val) → MatchOption o (v ≡ held.Ghost) (λ x. v ≡ held.Leaf x) → value_means v ≡ lent_value o
unfolding lent_value put_value value_means
lent_means None v e = rw e
lent_means (Some x) v e = rw e

pub lent_held : (v : Option (Bor (List ℕ))) → value_length (lent_value v) ≤ 0xFFFC → Held (lent_value v)
unfolding lent_value put_value value_length
lent_held None h = search
lent_held (Some x) h = h

-- ---- room

pub room_value : (used key value room : ℕ) → used + (4 + key + value) ≤ room → used + value ≤ room
room_value used key value room h = omega arith

pub alive_in : (size n : ℕ) (t : Tree) (heads bytes : List ℕ) → n < t.used → (node_at (state_of size t heads bytes) n).dead ≡ false
    → (node_in size heads bytes n).dead ≡ false
alive_in size n t heads bytes h d = sym (ap (λ (m : MemNode). m.dead) (node_in_lem size t heads bytes n h)) ∙ d

-- ---- the leaf and the numbers

info_old : (t : BTreeInfo) (b : Bool) (k : List ℕ) (v : Val) (n : ℕ) → b ≡ true → n ≡ value_length v
    → with_longest (with_counts t t.key_count t.node_count) t.longest_key (greater t.longest_val n)
    ≡ grown_longest (with_counts t (t.key_count + cond (not b) 1 0) t.node_count) (not b) k v
unfolding grown_longest with_longest with_counts
info_old t b k v n e q = let z : t.key_count + 0 ≡ t.key_count = omega arith in rw (e, q, z)

info_new : (t : BTreeInfo) (b : Bool) (k : List ℕ) (v : Val) (n : ℕ) → b ≡ false → n ≡ value_length v
    → with_longest (with_counts t (t.key_count + 1) t.node_count) (greater t.longest_key (length k)) (greater t.longest_val n)
    ≡ grown_longest (with_counts t (t.key_count + cond (not b) 1 0) t.node_count) (not b) k v
unfolding grown_longest with_longest with_counts
info_new t b k v n e q = rw (e, q)

put_is : (s : State) (n : ℕ) (k : List ℕ) (v : Val) (m : MemNode) (i : BTreeInfo)
    → m ≡ with_entries (node_at s n) (put_entry s.order (record { key = k; value = v }) (node_at s n).entries)
    → i ≡ grown_longest (with_counts s.info (s.info.key_count + cond (not (is_there s.order k (node_at s n).entries)) 1 0)
    s.info.node_count) (not (is_there s.order k (node_at s n).entries)) k v
    → with_info (put_node s n m) i ≡ put_in_leaf s n k v
unfolding put_in_leaf
put_is s n k v m i a b = ap₂ (λ (x : MemNode) (y : BTreeInfo). with_info (put_node s n x) y) a b

module _ (size slots n : ℕ) (t t' : Tree) (h0 b0 h1 b1 : List ℕ) (i : BTreeInfo) (m : MemNode) (r : Ready size slots t.used h0 b0)
    (hn : n < t.used) (p : Put size slots h0 b0 h1 b1 n m)
    (e : t' ≡ record {
      root = t.root;
      used = t.used;
      info = i;
      by_id = t.by_id;
      subtype = t.subtype;
      order = t.order;
      xid = t.xid;
    }) where
  put_state : state_of size t' h1 b1 ≡ with_info (put_node (state_of size t h0 b0) n m) i
  unfolding state_of with_info put_node with_nodes
  put_state =
      let x : nodes_of size h1 b1 t.used ≡ set (nodes_of size h0 b0 t.used) n m = put_set size slots h0 b0 h1 b1 n m p t.used r.within hn in
      rw (e, x)

  pub leaf_used : t'.used ≡ t.used
  leaf_used = rw e

  pub leaf_ready : length h1 ≡ length h0 → length b1 ≡ length b0 → Ready size slots t'.used h1 b1
  leaf_ready a b = rw e (put_ready size slots h0 b0 h1 b1 n m p t.used r a b)

  module _ (key : List ℕ) (v : Val) (k : ℕ) (ek : k ≡ value_length v) (f : Result Spot Spot)
      (g : FoundAt size (state_of size t h0 b0) h0 b0 n key f) where
    abbrev s : State
    s = state_of size t h0 b0

    node : node_at (state_of size t h0 b0) n ≡ node_in size h0 b0 n
    node = node_in_lem size t h0 b0 n hn

    pub leaf_old : is_ok f ≡ true
        → m ≡ edited Kept (node_in size h0 b0 n) (with_value (spot_found f).index v (node_in size h0 b0 n).entries)
        → i ≡ with_longest (with_counts t.info t.info.key_count t.info.node_count) t.info.longest_key (greater t.info.longest_val k)
        → state_of size t' h1 b1 ≡ put_in_leaf (state_of size t h0 b0) n key v
    unfolding state_of put_entry
    leaf_old q em' ei =
        let there : is_there t.order.code key (node_at (state_of size t h0 b0) n).entries ≡ true = sym g.there ∙ q in
        put_state ∙ put_is (state_of size t h0 b0) n key v m i
        (em' ∙ rw (← node, there, g.place))
        (ei ∙ info_old t.info (is_there t.order.code key (node_at (state_of size t h0 b0) n).entries) key v k there ek)

    pub leaf_new : is_ok f ≡ false
        → m ≡ edited Kept (node_in size h0 b0 n)
        (insert_at (spot_found f).index (record { key = key; value = v }) (node_in size h0 b0 n).entries)
        → i ≡ with_longest (with_counts t.info (t.info.key_count + 1) t.info.node_count) (greater t.info.longest_key (length key))
        (greater t.info.longest_val k)
        → state_of size t' h1 b1 ≡ put_in_leaf (state_of size t h0 b0) n key v
    unfolding state_of put_entry
    leaf_new q em' ei =
        let there : is_there t.order.code key (node_at (state_of size t h0 b0) n).entries ≡ false = sym g.there ∙ q in
        put_state ∙ put_is (state_of size t h0 b0) n key v m i
        (em' ∙ rw (← node, there, g.place))
        (ei ∙ info_new t.info (is_there t.order.code key (node_at (state_of size t h0 b0) n).entries) key v k there ek)

-- ---- a place found stays found while the entries are the same

module _ (size slots n : ℕ) (t : Tree) (h b : List ℕ) (r : Ready size slots t.used h b) (hn : n < t.used) where
  abbrev w : Head
  w = live (head_at h n)

  start_is : (i : ℕ) → i ≤ (live (head_at h n)).count
      → records_length i (slot_bytes size b n) ≡ weight (take i (node_at (state_of size t h b) n).entries)
  unfolding node_in
  start_is i u =
      let l : List ℕ = slot_bytes size b n in
      let k : Lies size w l = r.lies n hn in
      let long : length l ≡ 4 * size = part_long size b n (ready_part size slots t.used h b n r hn) in
      let es : (node_at (state_of size t h b) n).entries ≡ entries_of w.count l = ap (λ (x : MemNode). x.entries) (node_in_lem size t h b n hn)
      ∙ live_entries (head_at h n) l in
      sym (ap (λ (x : List Entry). weight (take i x)) es ∙ ap weight (entries_front i w.count l u)
      ∙ entries_weight i l (omega (arith, k.room, long, records_less i w.count l u)))

module _ (size slots n : ℕ) (t : Tree) (h0 b0 h1 b1 key : List ℕ) (f : Result Spot Spot) (r0 : Ready size slots t.used h0 b0)
    (r1 : Ready size slots t.used h1 b1) (hn : n < t.used) (g : FoundAt size (state_of size t h0 b0) h0 b0 n key f)
    (e : (node_at (state_of size t h1 b1) n).entries ≡ (node_at (state_of size t h0 b0) n).entries) where
  count_same : (live (head_at h1 n)).count ≡ (live (head_at h0 n)).count
  count_same = count_is size t h1 b1 n hn (live (head_at h1 n)) refl ∙ ap length e ∙ sym (count_is size t h0 b0 n hn (live (head_at h0 n)) refl)

  pub found_again : FoundAt size (state_of size t h1 b1) h1 b1 n key f
  unfolding state_of
  found_again =
      record {
        slot = g.slot;
        place = g.place ∙ ap (place_of t.order.code key) (sym e);
        there = g.there ∙ ap (is_there t.order.code key) (sym e);
        start = g.start ∙ start_is size slots n t h0 b0 r0 hn (spot_found f).index g.upto
            ∙ ap (λ (x : List Entry). weight (take (spot_found f).index x)) (sym e)
            ∙ sym (start_is size slots n t h1 b1 r1 hn (spot_found f).index (omega (arith, g.upto, count_same)));
        upto = omega (arith, g.upto, count_same);
        within = λ q. omega (arith, g.within q, count_same);
      }

pub ruleset put_in_leaf_laws = (room_value, alive_in, leaf_used, leaf_ready, leaf_old, leaf_new)
