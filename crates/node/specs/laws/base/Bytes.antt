-- Lists of bytes, as a record: what `search` finds. `seal` has the predicate and its laws. Assumes nothing.
use Rattle.std.specs.Prelude.{◌≡◌, refl, List, [], ◌∷◌, ◌++◌, ℕ, zero, suc, ◌+◌, ◌*◌, ◌/◌, ◌%◌, ◌^◌, ◌<◌, length, take, drop, get_or, replicate}
use Rattle.std.proofs.Common.{ap₂, arith, Fits}
use Rattle.std.proofs.Math.Nat.{suc_inj}
use Rattle.std.specs.Int.{w8}
use Rattle.seal.specs.Bytes.{window, splice, le, bytes_of, field_at}
use Rattle.seal.specs.laws.FieldLaws as of
pub use Rattle.node.specs.Bytes.{Bytes}

-- what a proof knows of a lent slice, `c .. .shared-slice-known .given` or `c .. .slice-known .given`
pub bytes_known : (l : List ℕ) → ((i : ℕ) → Fits w8 (get_or l i 0)) → Bytes l
bytes_known l h = record { below = λ i. (h i).fits }

pub bytes_below : (l : List ℕ) → ((i : ℕ) → get_or l i 0 < 256) → Bytes l
bytes_below l h = record { below = h }

pub bytes_nil : Bytes []
bytes_nil = record { below = λ i. omega arith }

cons_below : (b : ℕ) (l : List ℕ) → b < 256 → Bytes l → (i : ℕ) → get_or (b ∷ l) i 0 < 256
cons_below b l h k zero = h
cons_below b l h k (suc i) = k.below i

pub bytes_cons : {b : ℕ} {l : List ℕ} → b < 256 → Bytes l → Bytes (b ∷ l)
bytes_cons {b} {l} h k = record { below = cons_below b l h k }

pub bytes_head : {b : ℕ} {l : List ℕ} → Bytes (b ∷ l) → b < 256
bytes_head h = h.below 0

pub bytes_tail : {b : ℕ} {l : List ℕ} → Bytes (b ∷ l) → Bytes l
bytes_tail h = record { below = λ i. h.below (suc i) }

pub bytes_within : (l : List ℕ) → ((i : ℕ) → i < length l → get_or l i 0 < 256) → Bytes l
bytes_within [] h = bytes_nil
bytes_within (x ∷ xs) h = bytes_cons (h 0 (omega arith)) (bytes_within xs (λ i k. h (suc i) (omega arith)))

pub bytes_append : (a b : List ℕ) → Bytes a → Bytes b → Bytes (a ++ b)
bytes_append a b h k = record { below = of.bytes_append a b h.below k.below }

pub bytes_left : (a b : List ℕ) → Bytes (a ++ b) → Bytes a
bytes_left [] b h = bytes_nil
bytes_left (x ∷ xs) b h = bytes_cons (bytes_head h) (bytes_left xs b (bytes_tail h))

pub bytes_right : (a b : List ℕ) → Bytes (a ++ b) → Bytes b
bytes_right [] b h = h
bytes_right (x ∷ xs) b h = bytes_right xs b (bytes_tail h)

pub bytes_drop : (n : ℕ) (l : List ℕ) → Bytes l → Bytes (drop n l)
bytes_drop n l h = record { below = of.bytes_drop n l h.below }

pub bytes_take : (n : ℕ) (l : List ℕ) → Bytes l → Bytes (take n l)
bytes_take n l h = record { below = of.bytes_take n l h.below }

pub bytes_window : (i n : ℕ) (l : List ℕ) → Bytes l → Bytes (window i n l)
unfolding window
bytes_window i n l h = bytes_take n (drop i l) (bytes_drop i l h)

pub bytes_splice : (l : List ℕ) (i : ℕ) (vs : List ℕ) → Bytes l → Bytes vs → Bytes (splice l i vs)
bytes_splice l i vs h k = record { below = of.bytes_splice l i vs h.below k.below }

pub bytes_bytes_of : (n x : ℕ) → Bytes (bytes_of n x)
bytes_bytes_of n x = record { below = of.bytes_bytes_of n x }

pub bytes_replicate : (n b : ℕ) → b < 256 → Bytes (replicate n b)
bytes_replicate zero b h = bytes_nil
bytes_replicate (suc n) b h = bytes_cons h (bytes_replicate n b h)

-- ---- numbers that bytes spell

-- n bytes spell less than 256 ^ n
pub le_take_below : (n : ℕ) (l : List ℕ) → Bytes l → le (take n l) < 256 ^ n
unfolding field_at window
le_take_below n l h = of.field_fits n l 0 h.below

pub field_below : (n : ℕ) (l : List ℕ) (i : ℕ) → Bytes l → field_at n l i < 256 ^ n
field_below n l i h = of.field_fits n l i h.below

-- bytes that spell one number are the same
pub le_injective : (a b : List ℕ) → Bytes a → Bytes b → length a ≡ length b → le a ≡ le b → a ≡ b
unfolding le
le_injective [] [] h k l e = refl
le_injective [] (y ∷ ys) h k l e = absurd (omega arith)
le_injective (x ∷ xs) [] h k l e = absurd (omega arith)
le_injective (x ∷ xs) (y ∷ ys) h k l e =
    let p = bytes_head h in
    let q = bytes_head k in
    let m : le xs ≡ le ys = omega arith in
    let t : x ≡ y = omega arith in
    ap₂ ◌∷◌ t (le_injective xs ys (bytes_tail h) (bytes_tail k) (suc_inj l) m)

pub bytes_of_le : (l : List ℕ) → Bytes l → bytes_of (length l) (le l) ≡ l
unfolding le bytes_of
bytes_of_le [] h = refl
bytes_of_le (x ∷ xs) h =
    let p = bytes_head h in
    let m : (x + 256 * le xs) % 256 ≡ x = omega arith in
    let d : (x + 256 * le xs) / 256 ≡ le xs = omega arith in
    rw (m, d, bytes_of_le xs (bytes_tail h))
