-- What the functions over one slot compute: where a record lies, what records take, where a key is, the words of a node just read,
-- one pass over the records.
use Rattle.std.specs.Prelude.{◌≡◌, List, Bool, true, cond, ◌&&◌, ℕ, ◌+◌, ◌-◌, ◌≤◌, ◌<◌, length, drop, leb, ltb, eqb, Option, Some, None, Result, Ok, Err, is_some, unwrap_or}
use Rattle.seal.specs.Bytes.{u16_at, u64_at}
use Rattle.node.specs.Entry.{rising, every}
use Rattle.node.specs.Records.{mark_length, record_length, entries_of, records_length}
use Rattle.node.specs.Fit.{padded, keys_length, values_length}
use Rattle.node.specs.Find.{place_of, is_there, not_above}
use Rattle.node.specs.Slot.{records_hold, value_length_holds, entry_holds}
use Rattle.node.specs.declared.info.BTreeInfo.{BTreeInfo}
use Rattle.node.specs.declared.record.RecordParts.{RecordParts}
use Rattle.node.specs.declared.fit.Lengths.{Lengths}
use Rattle.node.specs.declared.slot.RecordAt.{RecordAt}
use Rattle.node.specs.declared.slot.Last.{Last}
use Rattle.node.specs.declared.slot.EntryAt.{EntryAt}
use Rattle.node.specs.declared.head.Head.{Head}
use Rattle.node.specs.declared.read.Node.{Node}

-- where the parts of the record at an offset lie, and where the next starts
unfoldable pub parts_at : List ℕ → ℕ → RecordParts
parts_at l at =
    let klen : ℕ = u16_at (drop at l) 0 in
    let mark : ℕ = u16_at (drop at l) 2 in
    record { key = at + 4; klen = klen; mark = mark; value = at + 4 + klen; vlen = mark_length mark; next = at + record_length (drop at l) }

-- what the first n records of a slot take
unfoldable pub lengths_of : BTreeInfo → ℕ → List ℕ → Lengths
lengths_of t n l = record { at = records_length n l; keys = keys_length t (entries_of n l); values = values_length t (entries_of n l) }

-- the same with the next record
unfoldable pub longer_of : BTreeInfo → List ℕ → Lengths → Lengths
longer_of t l s =
    record {
      at = (parts_at l s.at).next;
      keys = s.keys + padded t (parts_at l s.at).klen;
      values = s.values + padded t (parts_at l s.at).vlen;
    }

-- the id of a pair key; of other keys 0, which no id is below
unfoldable pub pair_id : List ℕ → ℕ
pair_id k = cond (eqb (length k) 16) (u64_at k 0) 0

-- a pair key whose id is below an id
unfoldable pub id_below : List ℕ → ℕ → Bool
id_below k id = eqb (length k) 16 && ltb (u64_at k 0) id

-- the place of a key among the n records of a slot and where it lies, as a record that has the key or as one that would stand there
unfoldable pub found_in : ℕ → List ℕ → ℕ → List ℕ → Result RecordAt RecordAt
found_in o k n l =
    let i : ℕ = place_of o k (entries_of n l) in
    let here : RecordAt = record { index = i; at = records_length i l } in
    cond (is_there o k (entries_of n l)) (Ok here) (Err here)

-- how many keys of the n records of a slot are not above a key, and where the last of these lies, else the first of all
unfoldable pub last_in : ℕ → List ℕ → ℕ → List ℕ → Last
last_in o k n l =
    let i : ℕ = not_above o k (entries_of n l) in
    record { count = i; at = records_length (i - 1) l }

-- where an entry of a slot stands, or one that is put after the last: what its numbers say of the slot's bytes
pub record EntryUpto (l : List ℕ) (e : EntryAt) : Type 0 where
  pub used : e.used ≡ records_length e.count l
  pub start : e.at ≡ records_length e.index l
  pub upto : e.index ≤ e.count

-- the same where an entry stands
abbrev pub EntryIn : List ℕ → EntryAt → Type 0
EntryIn l e = EntryUpto l e × (e.index < e.count)

-- the words of a node just read from a block: without a mark its id is 0
unfoldable pub read_head : Node → ℕ → ℕ → Bool → Head
read_head v used block by_id =
    record {
      level = v.level;
      count = v.nkeys;
      used = used;
      placed = 1;
      block = block;
      named = cond by_id 1 0;
      id = cond by_id v.oid 0;
      dirty = 0;
      dead = 0;
    }

-- the words of a slot with another block, or with none
abbrev pub with_block : Head → Option ℕ → Head
with_block h block =
    record {
      level = h.level;
      count = h.count;
      used = h.used;
      placed = cond (is_some block) 1 0;
      block = unwrap_or block 0;
      named = h.named;
      id = h.id;
      dirty = h.dirty;
      dead = h.dead;
    }

-- with another id, or with none
abbrev pub with_id : Head → Option ℕ → Head
with_id h id =
    record {
      level = h.level;
      count = h.count;
      used = h.used;
      placed = h.placed;
      block = h.block;
      named = cond (is_some id) 1 0;
      id = unwrap_or id 0;
      dirty = h.dirty;
      dead = h.dead;
    }

-- a length that a value of this mark can have
unfoldable pub mark_holds : BTreeInfo → ℕ → Bool
mark_holds t m = cond (leb m 0xFFFC) (value_length_holds t m) true

-- n records that lie in the slot and take the bytes in use, entries that hold, keys that rise
unfoldable pub records_stand : ℕ → BTreeInfo → Bool → ℕ → ℕ → List ℕ → Bool
records_stand o t isLeaf n used l =
    records_hold n used l && every (entry_holds o t isLeaf) (entries_of n l) && rising o (entries_of n l)

-- what they take, if they do
unfoldable pub checked_of : ℕ → BTreeInfo → Bool → ℕ → ℕ → List ℕ → Option Lengths
checked_of o t isLeaf n used l = cond (records_stand o t isLeaf n used l) (Some (lengths_of t n l)) None

-- i of n records were passed: they take s. What is left of the entries decides
pub record Checking (o : ℕ) (t : BTreeInfo) (isLeaf : Bool) (n : ℕ) (l : List ℕ) (i : ℕ) (s : Lengths) : Type 0 where
  pub few : i ≤ n
  pub within : records_length i l ≤ length l
  pub sums : s ≡ lengths_of t i l
  pub hold : every (entry_holds o t isLeaf) (drop i (entries_of n l)) ≡ every (entry_holds o t isLeaf) (entries_of n l)
