-- The sum and the seal of any list, also of one with no room for a sum.
use Rattle.std.specs.Prelude.{List, cond, ℕ, length, ltb}
use Rattle.seal.specs.Checksum.{fletcher, sealed}

-- an object's sum, or 0 where it has no room for one
abbrev pub sum_of : List ℕ → ℕ
sum_of l = cond (ltb (length l) 8) 0 (fletcher l)

-- an object with its sum stored, or itself where it has no room for one
abbrev pub sealed_of : List ℕ → List ℕ
sealed_of l = cond (ltb (length l) 8) l (sealed l)
