-- Upsert (RULES: upsert).
use Rattle.std.specs.Prelude.{List, [], Bool, cond, ◌&&◌, ◌||◌, not, ℕ, ◌+◌, ◌-◌, ◌^◌, length, ltb}
use Rattle.node.specs.Result.{Result, ◌>>=◌, ◌>>◌, check}
use Rattle.node.specs.Refusals as refusal
use Rattle.node.specs.Entry.{Entry, Val, value_length}
use Rattle.node.specs.Find.{place_of, is_there}
use Rattle.node.specs.Slot.{insert_at, with_value, is_child}
use Rattle.node.specs.Fit.{greater}
use Rattle.node.specs.declared.info.BTreeInfo.{BTreeInfo}
use Rattle.tree.specs.Lent.{Lent}
use Rattle.tree.specs.State.{State, node_at, put_node, with_info, with_counts, with_longest, with_entries}
use Rattle.tree.specs.Hold.{lent_holds, key_fits, value_fits}
use Rattle.tree.specs.Lookup.{Way, way, leaf_of}
use Rattle.tree.specs.Edit.{touch, index_keys, cuts}

-- replaces the entry of its key, or inserts it in its place
unfoldable pub put_entry : ℕ → Entry → List Entry → List Entry
put_entry o e es =
    cond (is_there o e.key es) (with_value (place_of o e.key es) e.value es) (insert_at (place_of o e.key es) e es)

-- longest lengths only grow: the key's on insert, the value's wherever there is a value
unfoldable pub grown_longest : BTreeInfo → Bool → List ℕ → Val → BTreeInfo
grown_longest t is_new k v =
    with_longest t (cond is_new (greater t.longest_key (length k)) t.longest_key) (greater t.longest_val (value_length v))

-- the leaf edited, and the tree's numbers
unfoldable pub put_in_leaf : State → ℕ → List ℕ → Val → State
put_in_leaf s n k v =
    let es : List Entry = (node_at s n).entries in
    let is_new : Bool = not (is_there s.order k es) in
    let t : BTreeInfo = with_counts s.info (s.info.key_count + cond is_new 1 0) s.info.node_count in
    with_info (put_node s n (with_entries (node_at s n) (put_entry s.order (record { key = k; value = v }) es))) (grown_longest t is_new k v)

-- the edit on a way that is loaded: 17; then cuts
unfoldable pub upsert_on : Lent → List ℕ → Val → Way → Result State
upsert_on l k v w =
    let s : State = w.state in
    let n : ℕ = leaf_of w.steps in do
      check refusal.count (is_there s.order k (node_at s n).entries || ltb s.info.key_count (2 ^ 64 - 1))
      cuts l [] w.steps (index_keys w.steps (put_in_leaf (touch w.steps s) n k v))

-- 12: key or value not the fixed length, or the key not 16 bytes in pair order. (What is put is a ghost or bytes, and no child)
unfoldable pub entry_fits : State → List ℕ → Val → Bool
entry_fits s k v = key_fits s k && value_fits s v && not (is_child v)

-- load; 17; cuts
unfoldable pub upserted : Lent → State → List ℕ → Val → Result State
upserted l s k v = way l s k >>= upsert_on l k v

-- 12; the edit
unfoldable pub upsert_in : Lent → State → List ℕ → Val → Result State
upsert_in l s k v = do
  check refusal.argument (entry_fits s k v)
  upserted l s k v

-- 1; what follows
unfoldable pub upsert : Lent → State → List ℕ → Val → Result State
upsert l s k v = do
  check refusal.lent (lent_holds l s)
  upsert_in l s k v
