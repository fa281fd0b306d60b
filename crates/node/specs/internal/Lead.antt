-- Eight bytes of a key as one number, the first byte the highest: such numbers stand in the order of the bytes.
use Rattle.std.specs.Prelude.{◌≡◌, List, [], ◌∷◌, ℕ, ◌+◌, ◌*◌, ◌^◌, ◌≤◌, ◌<◌, min, length, take, drop}
use Rattle.seal.specs.Bytes.{AreBytes}
use Rattle.node.specs.Order.{byte_less}

-- the number that bytes spell, the highest first
unfoldable pub spell : List ℕ → ℕ
spell [] = 0
spell (b ∷ bs) = b * 256 ^ length bs + spell bs

-- a list begins with eight bytes, which spell x
pub record Leads (l : List ℕ) (x : ℕ) : Type 0 where
  pub long : 8 ≤ length l
  pub bytes : AreBytes (take 8 l)
  pub spelled : x ≡ spell (take 8 l)

-- what the eight bytes of a key from index i on spell; 0 where it has none
pub record LeadOf (k : List ℕ) (i x : ℕ) : Type 0 where
  pub short : length k < i + 8 → x ≡ 0
  pub long : i + 8 ≤ length k → Leads (drop i k) x

-- two keys are the same up to index i, n bytes being the most that both have: what follows decides
pub record Comparing (a b : List ℕ) (n i : ℕ) : Type 0 where
  pub few : i ≤ n
  pub least : n ≡ min (length a) (length b)
  pub there : byte_less (drop i a) (drop i b) ≡ byte_less a b
  pub back : byte_less (drop i b) (drop i a) ≡ byte_less b a
