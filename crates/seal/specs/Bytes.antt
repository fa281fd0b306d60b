-- Bytes: little-endian numbers in a list of bytes, a window of a list, a list with a run replaced, a run moved.
use Rattle.std.specs.Prelude.{List, [], ◌∷◌, ◌++◌, ℕ, zero, suc, ◌+◌, ◌*◌, ◌/◌, ◌%◌, ◌<◌, length, take, drop, get_or}

-- the n elements from index i on
unfoldable pub window : ℕ → ℕ → List ℕ → List ℕ
window i n l = take n (drop i l)

-- l, with the elements from index i on replaced by vs
unfoldable pub splice : List ℕ → ℕ → List ℕ → List ℕ
splice l i vs = take i l ++ vs ++ drop (i + length vs) l

-- what copying n elements from index a to index b leaves
unfoldable pub moved : List ℕ → ℕ → ℕ → ℕ → List ℕ
moved l a b n = splice l b (window a n l)

-- the number that bytes spell, the lowest first (all fields are little-endian)
unfoldable pub le : List ℕ → ℕ
le [] = 0
le (b ∷ bs) = b + 256 * le bs

-- the n lowest bytes of x, the lowest first
unfoldable pub bytes_of : ℕ → ℕ → List ℕ
bytes_of zero x = []
bytes_of (suc n) x = x % 256 ∷ bytes_of n (x / 256)

-- the field of n bytes at offset i
unfoldable pub field_at : ℕ → List ℕ → ℕ → ℕ
field_at n l i = le (window i n l)

-- fields of 2, 4 and 8 bytes at offset i
abbrev pub u16_at : List ℕ → ℕ → ℕ
u16_at = field_at 2

abbrev pub u32_at : List ℕ → ℕ → ℕ
u32_at = field_at 4

abbrev pub u64_at : List ℕ → ℕ → ℕ
u64_at = field_at 8

-- every element is a byte
abbrev pub AreBytes : List ℕ → Type 0
AreBytes l = (i : ℕ) → get_or l i 0 < 256
