-- Fitting (RULES: packing): data space, contents slots, padding.
use Rattle.std.specs.Prelude.{List, [], ◌∷◌, Bool, true, false, cond, ◌&&◌, ℕ, ◌+◌, ◌-◌, ◌*◌, ◌/◌, ◌%◌, ◌^◌, ◌≤◌, ◌<◌, length, leb, eqb}
use Rattle.node.specs.Obj.{node_header, info_size}
use Rattle.node.specs.Entry.{Entry, value_length}
use Rattle.node.specs.declared.info.BTreeInfo.{BTreeInfo}

-- whether the flag, a power of two, is set in a word
unfoldable pub flag : ℕ → ℕ → Bool
flag w f = eqb (w / f % 2) 1

-- n rounded up to a multiple of 8
unfoldable pub align8 : ℕ → ℕ
align8 n = (n + 7) / 8 * 8

-- the greater of two numbers
unfoldable pub greater : ℕ → ℕ → ℕ
greater a b = cond (leb a b) b a

-- a length as packed: padded to 8 unless tree flag 0x40
unfoldable pub padded : BTreeInfo → ℕ → ℕ
padded t n = cond (flag t.flags 0x40) n (align8 n)

-- data space: size − 56, less 40 in a root
unfoldable pub data_space : ℕ → Bool → ℕ
data_space size root = size - node_header - cond root info_size 0

-- whether lengths are fixed: the tree's key length is not 0
unfoldable pub fixed : BTreeInfo → Bool
fixed t = cond (eqb t.key_size 0) false true

-- a contents slot: 8 bytes, of fixed lengths 4
unfoldable pub slot_width : BTreeInfo → ℕ
slot_width t = cond (fixed t) 4 8

-- the fixed length of a value at a level: an index value counts 8
unfoldable pub fixed_value : BTreeInfo → ℕ → ℕ
fixed_value t level = cond (eqb level 0) t.val_size 8

-- contents slots of a node of n entries. Variable: n rounded up to 8, at least 16. Fixed: as many as the space holds, rounded up to 8
unfoldable pub toc_slots : BTreeInfo → Bool → ℕ → ℕ → ℕ
toc_slots t root level n =
    cond (fixed t)
    (align8 (data_space t.node_size root / (4 + t.key_size + fixed_value t level)))
    (greater 16 (align8 n))

-- bytes of contents
unfoldable pub toc_length : BTreeInfo → Bool → ℕ → ℕ → ℕ
toc_length t root level n = toc_slots t root level n * slot_width t

-- the keys as packed
unfoldable pub keys_length : BTreeInfo → List Entry → ℕ
keys_length t [] = 0
keys_length t (e ∷ es) = padded t (length e.key) + keys_length t es

-- the values as packed
unfoldable pub values_length : BTreeInfo → List Entry → ℕ
values_length t [] = 0
values_length t (e ∷ es) = padded t (value_length e.value) + values_length t es

-- keys and values as packed
unfoldable pub room_of : BTreeInfo → List Entry → ℕ
room_of t es = keys_length t es + values_length t es

-- contents + keys + values, as packed
unfoldable pub packed_length : BTreeInfo → Bool → ℕ → List Entry → ℕ
packed_length t root level es = toc_length t root level (length es) + room_of t es

-- n entries whose keys and values take room fit if entries ≤ slots and contents + keys + values ≤ space
unfoldable pub fits_sums : BTreeInfo → Bool → ℕ → ℕ → ℕ → Bool
fits_sums t root level n room =
    leb n (toc_slots t root level n)
    && leb (toc_length t root level n + room) (data_space t.node_size root)

-- whether entries fit
unfoldable pub fits : BTreeInfo → Bool → ℕ → List Entry → Bool
fits t root level es = fits_sums t root level (length es) (room_of t es)

-- the numbers of a tree that the code computes with: a node size that the rules allow, stored lengths that are u32
pub record Sized (t : BTreeInfo) : Type 0 where
  pub least : 512 ≤ t.node_size
  pub most : t.node_size ≤ 65536
  pub key : t.key_size < 2 ^ 32
  pub value : t.val_size < 2 ^ 32
