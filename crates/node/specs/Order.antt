-- Orders of keys (RULES: orders): pair order and byte order.
use Rattle.std.specs.Prelude.{List, [], ◌∷◌, ◌++◌, Bool, true, false, cond, ◌&&◌, ◌||◌, ℕ, length, ltb, eqb}
use Rattle.seal.specs.Bytes.{u64_at, bytes_of}

-- the code of pair order
abbrev pub pair : ℕ
pair = 0

-- the code of byte order
abbrev pub byte : ℕ
byte = 1

-- a code that is an order; any other is refused with 1
unfoldable pub known : ℕ → Bool
known o = eqb o pair || eqb o byte

-- a length that a key of the order can have: in pair order 16
unfoldable pub keyed_length : ℕ → ℕ → Bool
keyed_length o n = cond (eqb o pair) (eqb n 16) true

-- a key that the order can hold
unfoldable pub keyed : ℕ → List ℕ → Bool
keyed o k = keyed_length o (length k)

-- the key of an object id and a transaction (omap_key_t)
unfoldable pub pair_key : ℕ → ℕ → List ℕ
pair_key id xid = bytes_of 8 id ++ bytes_of 8 xid

-- pair order: object id, then transaction
unfoldable pub pair_less : List ℕ → List ℕ → Bool
pair_less a b = ltb (u64_at a 0) (u64_at b 0) || eqb (u64_at a 0) (u64_at b 0) && ltb (u64_at a 8) (u64_at b 8)

-- byte order: the first byte that differs, a shorter prefix first
unfoldable pub byte_less : List ℕ → List ℕ → Bool
byte_less [] [] = false
byte_less [] (b ∷ bs) = true
byte_less (a ∷ as') [] = false
byte_less (a ∷ as') (b ∷ bs) = ltb a b || eqb a b && byte_less as' bs

-- a below b: in pair order as pairs, if both are (keys that are none are refused before any is compared); else as bytes
unfoldable pub less : ℕ → List ℕ → List ℕ → Bool
less o a b = cond (eqb o pair && keyed o a && keyed o b) (pair_less a b) (byte_less a b)

-- the same bytes
unfoldable pub same_key : List ℕ → List ℕ → Bool
same_key [] [] = true
same_key [] (b ∷ bs) = false
same_key (a ∷ as') [] = false
same_key (a ∷ as') (b ∷ bs) = eqb a b && same_key as' bs
