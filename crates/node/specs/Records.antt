-- Entries in a slot: records one after another, in key order. A record is the key's length and the value's mark (2 bytes each), the key, the value.
use Rattle.std.specs.Prelude.{List, [], ◌∷◌, ◌++◌, cond, ℕ, zero, suc, ◌+◌, length, drop, leb, eqb}
use Rattle.seal.specs.Bytes.{le, window, bytes_of, u16_at}
use Rattle.node.specs.Entry.{Entry, Val, ghost, leaf, disk, mem, value_bytes}

-- a value's mark: its length; 0xFFFF a ghost, 0xFFFE a child on disk, 0xFFFD a child in a slot
unfoldable pub mark_of : Val → ℕ
mark_of ghost = 0xFFFF
mark_of (leaf v) = length v
mark_of (disk r) = 0xFFFE
mark_of (mem s) = 0xFFFD

-- the record of a key, a mark and a value's bytes
unfoldable pub record_bytes : List ℕ → ℕ → List ℕ → List ℕ
record_bytes k m v = bytes_of 2 (length k) ++ bytes_of 2 m ++ k ++ v

unfoldable pub record_of : Entry → List ℕ
record_of e = bytes_of 2 (length e.key) ++ bytes_of 2 (mark_of e.value) ++ e.key ++ value_bytes e.value

unfoldable pub records_of : List Entry → List ℕ
records_of [] = []
records_of (e ∷ es) = record_of e ++ records_of es

-- the bytes that a value of this mark takes
unfoldable pub mark_length : ℕ → ℕ
mark_length m = cond (leb m 0xFFFC) m (cond (eqb m 0xFFFF) 0 8)

-- the value of this mark and these bytes
unfoldable pub value_of : ℕ → List ℕ → Val
value_of m v = cond (leb m 0xFFFC) (leaf v) (cond (eqb m 0xFFFF) ghost (cond (eqb m 0xFFFE) (disk (le v)) (mem (le v))))

-- the length of the record that starts a list
unfoldable pub record_length : List ℕ → ℕ
record_length l = 4 + u16_at l 0 + mark_length (u16_at l 2)

-- the entry of the record that starts a list
unfoldable pub entry_of : List ℕ → Entry
entry_of l = record { key = window 4 (u16_at l 0) l; value = value_of (u16_at l 2) (window (4 + u16_at l 0) (mark_length (u16_at l 2)) l) }

-- the bytes that n records take
unfoldable pub records_length : ℕ → List ℕ → ℕ
records_length zero l = 0
records_length (suc n) l = record_length l + records_length n (drop (record_length l) l)

-- the entries of n records
unfoldable pub entries_of : ℕ → List ℕ → List Entry
entries_of zero l = []
entries_of (suc n) l = entry_of l ∷ entries_of n (drop (record_length l) l)
