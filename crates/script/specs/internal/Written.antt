-- A line with bytes more in its room, as far as that goes.
use Rattle.std.specs.Prelude.{List, ◌++◌, ℕ, ◌+◌, ◌-◌, length, take, drop}

-- the room of a line of so many bytes with more of them behind
abbrev pub written : List ℕ → ℕ → List ℕ → List ℕ
written l len part = take len l ++ take (length l - len) part ++ drop (len + length part) l
