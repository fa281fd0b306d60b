-- What a record can hold: the mark has two bytes, and so has the key's length.
use Rattle.std.specs.Prelude.{◌≤◌, ◌<◌, ◌^◌, length}
use Rattle.node.specs.Entry.{Entry, Val, ghost, leaf, disk, mem}

-- a value that a record can hold
abbrev pub Held : Val → Type 0
Held ghost = Unit {0}
Held (leaf v) = length v ≤ 0xFFFC
Held (disk r) = r < 2 ^ 64
Held (mem s) = s < 2 ^ 64

-- an entry that a record can hold
pub record Storable (e : Entry) : Type 0 where
  pub short : length e.key < 2 ^ 16
  pub held : Held e.value
