-- A number above every key's rank; and the keys of rows within bounds rise. Assumes nothing.
use Rattle.std.specs.Prelude.{◌≡◌, List, [], ◌∷◌, true, ℕ, zero, suc, ◌+◌, ◌*◌, ◌^◌, ◌≤◌, ◌<◌, length, eqb}
use Rattle.std.proofs.Math.Path.{refl}
use Rattle.std.proofs.Common.{pow-suc, mul-le-mul_right, suc-mul, arith}
use Rattle.std.proofs.Math.Nat.{one-le-pow}
use Rattle.seal.specs.Bytes.{u64_at}
use Rattle.node.specs.Order.{pair}
use Rattle.node.specs.Entry.{Entry, rise_after, rising}
use Rattle.node.specs.Slot.{MemNode}
use Rattle.node.specs.laws.base.Tests.{by_test}
use Rattle.node.specs.laws.base.Bytes.{Bytes, bytes_head, bytes_tail, field_below}
use Rattle.node.specs.laws.order.Order.{pair_rank, byte_rank, rank, lt_rank}
use Rattle.theorem.specs.model.Bounds.{Terms, K, Items, nil, cons, KeyOk, Row}
use Rattle.theorem.specs.model.Lazy.{cont, Ok, ok_rows}

-- ---- ranks

unfoldable pub top : Terms → ℕ
top τ = 2 ^ 64 * 2 ^ 64 + 257 ^ τ.most

-- a number of two digits
two_below : (a b w : ℕ) → a < w → b < w → a * w + b < w * w
two_below a b w h k =
    let x : suc a * w ≤ w * w = mul-le-mul_right w h in
    let y : suc a * w ≡ a * w + w = suc-mul a w in
    omega arith

byte_below : (n : ℕ) (bs : List ℕ) → Bytes bs → length bs ≤ n → byte_rank n bs < 257 ^ n
unfolding byte_rank
byte_below zero bs h k = one-le-pow 0 257 (omega arith)
byte_below (suc n) [] h k = one-le-pow (suc n) 257 (omega arith)
byte_below (suc n) (b ∷ bs) h k =
    let r = byte_below n bs (bytes_tail h) (omega arith) in
    let p = bytes_head h in
    let x : suc (suc b) * 257 ^ n ≤ 257 * 257 ^ n = mul-le-mul_right (257 ^ n) (omega arith) in
    let y : suc (suc b) * 257 ^ n ≡ suc b * 257 ^ n + 257 ^ n = suc-mul (suc b) (257 ^ n) in
    rw pow-suc (omega arith)

left_less : (a b c : ℕ) → a < b → a < b + c
left_less a b c h = omega arith

right_less : (a b c : ℕ) → a < c → a < b + c
right_less a b c h = omega arith

pub rank_below : (τ : Terms) (k : List ℕ) → KeyOk τ k → K τ k < top τ
unfolding rank top pair_rank
rank_below τ k h =
    by_test (eqb τ.order pair)
    (λ t. rw t (left_less (u64_at k 0 * 2 ^ 64 + u64_at k 8) (2 ^ 64 * 2 ^ 64) (257 ^ τ.most)
    (two_below (u64_at k 0) (u64_at k 8) (2 ^ 64) (field_below 8 k 0 h.key.bytes) (field_below 8 k 8 h.key.bytes))))
    (λ t. rw t (right_less (byte_rank τ.most k) (2 ^ 64 * 2 ^ 64) (257 ^ τ.most) (byte_below τ.most k h.key.bytes h.short)))

-- ---- keys that rise

module _ (τ : Terms) where
  after_rise : (k : List ℕ) → KeyOk τ k → {lo hi : ℕ} {es : List Entry} → K τ k < lo → Items (K τ) (Row τ) lo hi es → rise_after τ.order k es ≡ true
  unfolding rise_after
  after_rise k g h (nil z) = refl
  after_rise k g h (cons {e = e} z p r) =
      rw (lt_rank τ.order τ.most k e.key g.key p.key.key g.short p.key.short (omega arith))
      (after_rise e.key p.key p.below r)

  pub rows_rise : {lo hi : ℕ} {es : List Entry} → Items (K τ) (Row τ) lo hi es → rising τ.order es ≡ true
  unfolding rising
  rows_rise (nil z) = refl
  rows_rise (cons {e = e} z p r) = after_rise e.key p.key p.below r

  pub rises : (rd at : ℕ → MemNode) (l lo hi : ℕ) (m : MemNode) → Ok τ rd at l lo hi m → rising τ.order (cont rd at l m) ≡ true
  rises rd at l lo hi m h = rows_rise (ok_rows τ rd at l lo hi m h)
