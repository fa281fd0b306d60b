-- The Fletcher-64 sum of an object, as the rules (RULES: seal) and the Reference give it. Nothing is reduced on the way.
use Rattle.std.specs.Prelude.{◌≡◌, List, [], ◌∷◌, ◌++◌, Bool, ◌&&◌, ℕ, ◌+◌, ◌-◌, ◌*◌, ◌%◌, ◌^◌, ◌≤◌, ◌<◌, length, drop, leb, eqb}
use Rattle.seal.specs.Bytes.{le, u32_at, u64_at, splice, bytes_of}

-- M = 2^32 − 1
abbrev pub M : ℕ
M = 0xFFFFFFFF

-- the little-endian 32-bit words of a run of bytes; less than a word at the end is left out
unfoldable pub words : List ℕ → List ℕ
words [] = []
words (a ∷ []) = []
words (a ∷ b ∷ []) = []
words (a ∷ b ∷ c ∷ []) = []
words (a ∷ b ∷ c ∷ d ∷ l) = le (a ∷ b ∷ c ∷ d ∷ []) ∷ words l

-- s1 sums words: a, and the words after it
unfoldable pub s1 : ℕ → List ℕ → ℕ
s1 a [] = a
s1 a (w ∷ ws) = s1 (a + w) ws

-- s2 sums s1: b, and s1 as it is after each word
unfoldable pub s2 : ℕ → ℕ → List ℕ → ℕ
s2 a b [] = b
s2 a b (w ∷ ws) = s2 (a + w) (b + (a + w)) ws

-- what is stored for the sums x and y: c2·2^32 + c1
unfoldable pub stored_for : ℕ → ℕ → ℕ
stored_for x y =
    let c1 : ℕ = M - (x + y) % M in
    let c2 : ℕ = M - (x + c1) % M in
    c2 * 2 ^ 32 + c1

-- the sum of an object: over its words after byte 8
unfoldable pub fletcher : List ℕ → ℕ
fletcher l =
    let ws : List ℕ = words (drop 8 l) in
    stored_for (s1 0 ws) (s2 0 0 ws)

-- an object whose stored sum is its sum; under 32 bytes, or not a multiple of 4, is no sealed object
unfoldable pub verified : List ℕ → Bool
verified l = leb 32 (length l) && eqb (length l % 4) 0 && eqb (u64_at l 0) (fletcher l)

-- an object with its sum stored
unfoldable pub sealed : List ℕ → List ℕ
sealed l = splice l 0 (bytes_of 8 (fletcher l))

-- ---- the Reference's own account: the stored words are chosen so that both sums of the whole object are 0

-- the object's words after byte 8, and then the stored ones, the low one first
abbrev pub all_words : List ℕ → List ℕ
all_words l = words (drop 8 l) ++ (u32_at l 0 ∷ u32_at l 4 ∷ [])

-- an object with both sums 0 modulo M; a word stored as 0 would pass for M, and is never stored
pub record Balanced (l : List ℕ) : Type 0 where
  pub long : 32 ≤ length l
  pub whole : length l % 4 ≡ 0
  pub low : 0 < u32_at l 0
  pub high : 0 < u32_at l 4
  pub first : s1 0 (all_words l) % M ≡ 0
  pub second : s2 0 0 (all_words l) % M ≡ 0
