-- Where numbers end, and products that stop short of that.
use Rattle.std.specs.Prelude.{cond, ◌&&◌, ℕ, ◌*◌, ◌^◌, ltb}

-- the greatest number of 64 bits
abbrev pub most : ℕ
most = 0xFFFFFFFFFFFFFFFF

-- the product of two numbers below 2^32; 0 where one is not
unfoldable pub product : ℕ → ℕ → ℕ
product a b = cond (ltb a (2 ^ 32) && ltb b (2 ^ 32)) (a * b) 0
