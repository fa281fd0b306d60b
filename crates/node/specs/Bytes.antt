-- What the crates above cite of `seal`'s bytes, under this crate's name: each crate sees only the one below.
use Rattle.std.specs.Prelude.{List, ℕ}
unfoldable pub use Rattle.seal.specs.Bytes.{window, splice, moved, le, bytes_of, field_at}
pub use Rattle.seal.specs.Bytes.{u16_at, u32_at, u64_at, AreBytes}

-- every element is a byte (past the end `get_or` answers 0)
pub record Bytes (l : List ℕ) : Type 0 where
  pub below : AreBytes l
