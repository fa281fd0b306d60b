-- Entries: a key and what it holds.
use Rattle.std.specs.Prelude.{List, [], ◌∷◌, Bool, true, ◌&&◌, ℕ, length}
use Rattle.seal.specs.Bytes.{bytes_of}
use Rattle.node.specs.Order.{less}

-- a ghost (no value), a leaf's value, a child on disk (its address or id), a child in a slot
pub data Val : Type 0 where
  ghost : Val
  leaf : List ℕ → Val
  disk : ℕ → Val
  mem : ℕ → Val

pub record Entry : Type 0 where
  pub key : List ℕ
  pub value : Val

-- the bytes of a value: of a ghost none, of a child 8
unfoldable pub value_length : Val → ℕ
value_length ghost = 0
value_length (leaf v) = length v
value_length (disk r) = 8
value_length (mem s) = 8

-- keys that rise after k
unfoldable pub rise_after : ℕ → List ℕ → List Entry → Bool
rise_after o k [] = true
rise_after o k (e ∷ es) = less o k e.key && rise_after o e.key es

-- keys that rise
unfoldable pub rising : ℕ → List Entry → Bool
rising o [] = true
rising o (e ∷ es) = rise_after o e.key es

-- whether a test passes on every entry
unfoldable pub every : (Entry → Bool) → List Entry → Bool
every t [] = true
every t (e ∷ es) = t e && every t es

-- a value's bytes: a child is a u64
unfoldable pub value_bytes : Val → List ℕ
value_bytes ghost = []
value_bytes (leaf v) = v
value_bytes (disk r) = bytes_of 8 r
value_bytes (mem s) = bytes_of 8 s
