-- Laws of byte strings in words. Assumes nothing.
use Rattle.std.specs.Prelude.{◌≡◌, refl, List, [], ◌∷◌, ℕ, zero, suc, ◌-◌, ◌*◌, ◌/◌, ◌≤◌, ◌<◌, min, length, take, drop, get_or}
use Rattle.std.proofs.Common.{◌∙◌, length-drop, arith}
use Rattle.std.proofs.lemmas.List.{take_rest}
use Rattle.std.specs.Simd.{first_chunks}
use Rattle.script.specs.Words.{byte_count, byte_of, pairs, decoded}

-- a byte for two digits
pub length_pairs : (w : List ℕ) → length (pairs w) ≡ length w / 2
unfolding pairs
length_pairs [] = refl
length_pairs (a ∷ []) = refl
length_pairs (a ∷ b ∷ w) =
    let e : length (pairs w) ≡ length w / 2 = length_pairs w in
    omega arith

-- each byte is that of its pair, among the first m of k pairs
pub chunk_byte : (w : List ℕ) (k m i : ℕ) (d : List ℕ) → i < k → i < m → 2 * k ≤ length w
    → byte_of (get_or (get_or (take m (first_chunks 2 k w)) i d) 0 0) (get_or (get_or (take m (first_chunks 2 k w)) i d) 1 0) ≡ get_or (pairs w) i 0
unfolding pairs
chunk_byte w zero m i d h f g = absurd (omega arith)
chunk_byte w (suc k) zero i d h f g = absurd (omega arith)
chunk_byte [] (suc k) (suc m) i d h f g = absurd (omega arith)
chunk_byte (a ∷ []) (suc k) (suc m) i d h f g = absurd (omega arith)
chunk_byte (a ∷ b ∷ w) (suc k) (suc m) zero d h f g = refl
chunk_byte (a ∷ b ∷ w) (suc k) (suc m) (suc i) d h f g = chunk_byte w k m i d (omega arith) (omega arith) (omega arith)

pub ruleset paired = (length_pairs, chunk_byte)

-- ---- a word, whatever it is

-- as many bytes as `length` says
pub decoded_length : (w : List ℕ) → length (decoded w) ≡ byte_count w
unfolding decoded
decoded_length w = length_pairs (drop 1 w) ∙ rw length-drop

-- what stands behind its first byte
pub decoded_behind : (w : List ℕ) (k : ℕ) → k ≡ min (length w) 1 → pairs (take (length w - k) (drop k w)) ≡ decoded w
unfolding decoded
decoded_behind [] k e = let z : k ≡ 0 = omega arith in rw z
decoded_behind (b ∷ w) k e = let z : k ≡ 1 = omega arith in rw (take_rest (b ∷ w) k, z)
