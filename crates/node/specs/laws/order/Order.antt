-- Laws of the key orders, once over the order: each order is that of the keys' ranks, which are numbers. `rank` serves proofs and is never computed.
-- A further order adds its rank, a `Ranked` of its own and a case in `rank` and `ranked`: all laws after `ranked` are stated and proved over it.
-- Assumes nothing.
use Rattle.std.specs.Prelude.{◌≡◌, refl, List, [], ◌∷◌, ◌++◌, Bool, true, false, cond, ◌&&◌, ◌||◌, not, ℕ, zero, suc, ◌+◌, ◌-◌, ◌*◌, ◌^◌, ◌≤◌, ◌<◌, length, take, drop, ltb, eqb}
use Rattle.std.proofs.Common.{sym, ap, ap₂, ◌∙◌, pow-suc, mul-le-mul_right, suc-mul, arith, take-append-drop, length-drop, length-append, take_at, drop_at, take_all, length-take-le, ltb-true, ltb-false, lt-ltb, le-ltb, eqb-true, eq-eqb, ne_eqb}
use Rattle.std.proofs.Math.Nat.{suc_inj, one-le-pow}
use Rattle.std.proofs.Math.Dec.{leb-suc-suc, eqb-suc-suc}
use Rattle.std.proofs.lemmas.Bool.{eqb-false}
use Rattle.seal.specs.Bytes.{window, le, u64_at, bytes_of, field_at}
use Rattle.seal.specs.laws.FieldLaws.{length_bytes_of, le_bytes_of}
use Rattle.seal.specs.laws.WindowLaws.{length_window}
use Rattle.node.specs.Order.{pair, byte, keyed_length, keyed, pair_key, pair_less, byte_less, less, same_key}
use Rattle.node.specs.laws.base.Tests.{by_test, ltb_same, and_split}
use Rattle.node.specs.laws.base.Bytes.{Bytes, bytes_head, bytes_tail, bytes_take, bytes_drop, bytes_append, bytes_window, bytes_bytes_of, bytes_of_le, field_below, le_injective}

-- a key of the order: its length is one that the order has, and it is made of bytes
pub record Key (o : ℕ) (k : List ℕ) : Type 0 where
  pub holds : keyed o k ≡ true
  pub bytes : Bytes k

-- ---- ranks

-- id · 2^64 + transaction
unfoldable pub pair_rank : List ℕ → ℕ
pair_rank k = u64_at k 0 * 2 ^ 64 + u64_at k 8

-- digits in base 257, the first byte's highest, of keys of at most n bytes; 0 is "no byte"
unfoldable pub byte_rank : ℕ → List ℕ → ℕ
byte_rank zero bs = 0
byte_rank (suc n) [] = 0
byte_rank (suc n) (b ∷ bs) = suc b * 257 ^ n + byte_rank n bs

-- the rank of a key of at most n bytes
unfoldable pub rank : ℕ → ℕ → List ℕ → ℕ
rank o n k = cond (eqb o pair) (pair_rank k) (byte_rank n k)

-- a test of keys that is the order of their ranks, and no two keys have one rank
pub record Ranked (Holds : List ℕ → Type 0) (below : List ℕ → List ℕ → Bool) (rank_of : List ℕ → ℕ) : Type 0 where
  pub agrees : (a b : List ℕ) → Holds a → Holds b → below a b ≡ ltb (rank_of a) (rank_of b)
  pub injective : (a b : List ℕ) → Holds a → Holds b → rank_of a ≡ rank_of b → a ≡ b

-- numbers of two digits
digit_lt : (a b w r s : ℕ) → a < b → r < w → a * w + r < b * w + s
digit_lt a b w r s h k =
    let x : suc a * w ≤ b * w = mul-le-mul_right w (omega arith) in
    let y : suc a * w ≡ a * w + w = suc-mul a w in
    omega arith

digit_high : (a b w r s : ℕ) → r < w → s < w → a * w + r ≡ b * w + s → a ≡ b
digit_high a b w r s h k e =
    by_test (ltb a b)
    (λ t. let d = digit_lt a b w r s (ltb-true a b t) h in absurd (omega arith))
    (λ t. by_test (ltb b a)
    (λ u. let d = digit_lt b a w s r (ltb-true b a u) k in absurd (omega arith))
    (λ u. let p = ltb-false a b t in let q = ltb-false b a u in omega arith))

-- the test of two digits is that of the number
digits_ltb : (a b w r s : ℕ) → r < w → s < w → ltb a b || eqb a b && ltb r s ≡ ltb (a * w + r) (b * w + s)
digits_ltb a b w r s h k =
    by_test (ltb a b)
    (λ t. rw t (sym (lt-ltb (a * w + r) (b * w + s) (digit_lt a b w r s (ltb-true a b t) h))))
    (λ t. by_test (ltb b a)
    (λ u. let d = digit_lt b a w s r (ltb-true b a u) k in
    let p = ltb-true b a u in
    let n : eqb a b ≡ false = ne_eqb a b (λ e. omega arith) in
    let l : ltb (a * w + r) (b * w + s) ≡ false = le-ltb (a * w + r) (b * w + s) (omega arith) in
    rw (t, n) (sym l))
    (λ u. let p = ltb-false a b t in
    let q = ltb-false b a u in
    let e : a ≡ b = omega arith in
    rw (t, eq-eqb a b e) (ltb_same r s (a * w + r) (a * w + s) (λ z. omega arith) (λ z. omega arith)
    ∙ ap (λ (z : ℕ). ltb (a * w + r) (z * w + s)) e)))

-- ---- pair order

halves : (k : List ℕ) → length k ≡ 16 → k ≡ window 0 8 k ++ window 8 8 k
unfolding window
halves k h =
    let d : length (drop 8 k) ≡ 8 = length-drop 8 k ∙ omega arith in
    sym (ap (λ (z : List ℕ). take 8 k ++ z) (take_all 8 (drop 8 k) (omega arith)) ∙ take-append-drop 8 k)

u64_same : (a b : List ℕ) (i : ℕ) → Bytes a → Bytes b → i + 8 ≤ length a → i + 8 ≤ length b → u64_at a i ≡ u64_at b i → window i 8 a ≡ window i 8 b
unfolding field_at window
u64_same a b i h k p q e =
    let la : length (drop i a) ≡ length a - i = length-drop i a in
    let lb : length (drop i b) ≡ length b - i = length-drop i b in
    le_injective (take 8 (drop i a)) (take 8 (drop i b)) (bytes_take 8 (drop i a) (bytes_drop i a h)) (bytes_take 8 (drop i b) (bytes_drop i b k))
    (length-take-le 8 (drop i a) (omega arith) ∙ sym (length-take-le 8 (drop i b) (omega arith))) e

abbrev PairKey : List ℕ → Type 0
PairKey k = (length k ≡ 16) × Bytes k

pair_ranked : Ranked PairKey pair_less pair_rank
unfolding pair_less pair_rank
pair_ranked =
    record {
      agrees = λ a b h k.
          digits_ltb (u64_at a 0) (u64_at b 0) (2 ^ 64) (u64_at a 8) (u64_at b 8) (field_below 8 a 8 h.1) (field_below 8 b 8 k.1);
      injective = λ a b h k e.
          let x : u64_at a 0 ≡ u64_at b 0 = digit_high (u64_at a 0) (u64_at b 0) (2 ^ 64) (u64_at a 8) (u64_at b 8) (field_below 8 a 8 h.1)
          (field_below 8 b 8 k.1) e in
          let y : u64_at a 8 ≡ u64_at b 8 = omega arith in
          let p : 16 ≤ length a = omega (arith, h.0) in
          let q : 16 ≤ length b = omega (arith, k.0) in
          halves a h.0
          ∙ ap₂ ◌++◌ (u64_same a b 0 h.1 k.1 (omega arith) (omega arith) x) (u64_same a b 8 h.1 k.1 p q y)
          ∙ sym (halves b k.0);
    }

-- ---- byte order

byte_rank_below : (n : ℕ) (bs : List ℕ) → Bytes bs → length bs ≤ n → byte_rank n bs < 257 ^ n
unfolding byte_rank
byte_rank_below zero bs h k = one-le-pow 0 257 (omega arith)
byte_rank_below (suc n) [] h k = one-le-pow (suc n) 257 (omega arith)
byte_rank_below (suc n) (b ∷ bs) h k =
    let r = byte_rank_below n bs (bytes_tail h) (omega arith) in
    let p = bytes_head h in
    let x : suc (suc b) * 257 ^ n ≤ 257 * 257 ^ n = mul-le-mul_right (257 ^ n) (omega arith) in
    let y : suc (suc b) * 257 ^ n ≡ suc b * 257 ^ n + 257 ^ n = suc-mul (suc b) (257 ^ n) in
    rw pow-suc (omega arith)

byte_agrees : (n : ℕ) (xs ys : List ℕ) → Bytes xs → Bytes ys → length xs ≤ n → length ys ≤ n → byte_less xs ys ≡ ltb (byte_rank n xs) (byte_rank n ys)
unfolding byte_less byte_rank
byte_agrees zero [] [] hx hy kx ky = refl
byte_agrees zero [] (y ∷ ys) hx hy kx ky = absurd (omega arith)
byte_agrees zero (x ∷ xs) ys hx hy kx ky = absurd (omega arith)
byte_agrees (suc n) [] [] hx hy kx ky = refl
byte_agrees (suc n) [] (y ∷ ys) hx hy kx ky =
    let p = one-le-pow n 257 (omega arith) in
    let q = suc-mul y (257 ^ n) in
    sym (lt-ltb 0 (suc y * 257 ^ n + byte_rank n ys) (omega arith))
byte_agrees (suc n) (x ∷ xs) [] hx hy kx ky = sym (le-ltb (suc x * 257 ^ n + byte_rank n xs) 0 (omega arith))
byte_agrees (suc n) (x ∷ xs) (y ∷ ys) hx hy kx ky =
    let rx = byte_rank_below n xs (bytes_tail hx) (omega arith) in
    let ry = byte_rank_below n ys (bytes_tail hy) (omega arith) in
    rw (byte_agrees n xs ys (bytes_tail hx) (bytes_tail hy) (omega arith) (omega arith))
    (ap₂ (λ (p q : Bool). p || q && ltb (byte_rank n xs) (byte_rank n ys)) (sym (leb-suc-suc (suc x) y)) (sym (eqb-suc-suc x y))
    ∙ digits_ltb (suc x) (suc y) (257 ^ n) (byte_rank n xs) (byte_rank n ys) rx ry)

byte_injective : (n : ℕ) (xs ys : List ℕ) → Bytes xs → Bytes ys → length xs ≤ n → length ys ≤ n → byte_rank n xs ≡ byte_rank n ys → xs ≡ ys
unfolding byte_rank
byte_injective zero [] [] hx hy kx ky e = refl
byte_injective zero [] (y ∷ ys) hx hy kx ky e = absurd (omega arith)
byte_injective zero (x ∷ xs) ys hx hy kx ky e = absurd (omega arith)
byte_injective (suc n) [] [] hx hy kx ky e = refl
byte_injective (suc n) [] (y ∷ ys) hx hy kx ky e =
    let p = one-le-pow n 257 (omega arith) in let q = suc-mul y (257 ^ n) in absurd (omega arith)
byte_injective (suc n) (x ∷ xs) [] hx hy kx ky e =
    let p = one-le-pow n 257 (omega arith) in let q = suc-mul x (257 ^ n) in absurd (omega arith)
byte_injective (suc n) (x ∷ xs) (y ∷ ys) hx hy kx ky e =
    let rx = byte_rank_below n xs (bytes_tail hx) (omega arith) in
    let ry = byte_rank_below n ys (bytes_tail hy) (omega arith) in
    let d : suc x ≡ suc y = digit_high (suc x) (suc y) (257 ^ n) (byte_rank n xs) (byte_rank n ys) rx ry e in
    let m : suc x * 257 ^ n ≡ suc y * 257 ^ n = ap (λ (z : ℕ). z * 257 ^ n) d in
    ap₂ ◌∷◌ (suc_inj d) (byte_injective n xs ys (bytes_tail hx) (bytes_tail hy) (omega arith) (omega arith) (omega arith))

-- ---- the order of a code: the one place where the orders are told apart

abbrev Short : ℕ → ℕ → List ℕ → Type 0
Short o n k = Key o k × (length k ≤ n)

ranked : (o n : ℕ) → Ranked (Short o n) (less o) (rank o n)
unfolding less rank keyed keyed_length
ranked o n =
    by_test (eqb o pair)
    (λ t.
    let len : (k : List ℕ) → Key o k → length k ≡ 16 = λ k h. eqb-true (length k) 16 (rw t at h.holds) in
    record {
      agrees = λ a b h k.
          rw (t, eq-eqb (length a) 16 (len a h.0), eq-eqb (length b) 16 (len b k.0))
          (pair_ranked.agrees a b (len a h.0, h.0.bytes) (len b k.0, k.0.bytes));
      injective = λ a b h k e.
          pair_ranked.injective a b (len a h.0, h.0.bytes) (len b k.0, k.0.bytes) (rw t at e);
    })
    (λ t.
    record {
      agrees = λ a b h k. rw t (byte_agrees n a b h.0.bytes k.0.bytes h.1 k.1);
      injective = λ a b h k e. byte_injective n a b h.0.bytes k.0.bytes h.1 k.1 (rw t at e);
    })

-- ---- the test and the ranks

pub less_rank : (o n : ℕ) (a b : List ℕ) → Key o a → Key o b → length a ≤ n → length b ≤ n → less o a b ≡ ltb (rank o n a) (rank o n b)
less_rank o n a b h k p q = (ranked o n).agrees a b (h, p) (k, q)

pub rank_injective : (o n : ℕ) (a b : List ℕ) → Key o a → Key o b → length a ≤ n → length b ≤ n → rank o n a ≡ rank o n b → a ≡ b
rank_injective o n a b h k p q e = (ranked o n).injective a b (h, p) (k, q) e

pub rank_lt : (o n : ℕ) (a b : List ℕ) → Key o a → Key o b → length a ≤ n → length b ≤ n → less o a b ≡ true → rank o n a < rank o n b
rank_lt o n a b h k p q t = ltb-true (rank o n a) (rank o n b) (sym (less_rank o n a b h k p q) ∙ t)

pub rank_le : (o n : ℕ) (a b : List ℕ) → Key o a → Key o b → length a ≤ n → length b ≤ n → less o a b ≡ false → rank o n b ≤ rank o n a
rank_le o n a b h k p q t = ltb-false (rank o n a) (rank o n b) (sym (less_rank o n a b h k p q) ∙ t)

pub lt_rank : (o n : ℕ) (a b : List ℕ) → Key o a → Key o b → length a ≤ n → length b ≤ n → rank o n a < rank o n b → less o a b ≡ true
lt_rank o n a b h k p q t = less_rank o n a b h k p q ∙ lt-ltb (rank o n a) (rank o n b) t

pub le_rank : (o n : ℕ) (a b : List ℕ) → Key o a → Key o b → length a ≤ n → length b ≤ n → rank o n b ≤ rank o n a → less o a b ≡ false
le_rank o n a b h k p q t = less_rank o n a b h k p q ∙ le-ltb (rank o n a) (rank o n b) t

-- ---- a total order

module _ (o : ℕ) where
  pub less_irrefl : (a : List ℕ) → Key o a → less o a a ≡ false
  less_irrefl a h = let n : ℕ = length a in le_rank o n a a h h (omega arith) (omega arith) (omega arith)

  pub less_total : (a b : List ℕ) → Key o a → Key o b → less o a b ≡ false → less o b a ≡ false → a ≡ b
  less_total a b h k t u =
      let n : ℕ = length a + length b in
      let p : length a ≤ n = omega arith in
      let q : length b ≤ n = omega arith in
      let x = rank_le o n a b h k p q t in
      let y = rank_le o n b a k h q p u in
      rank_injective o n a b h k p q (omega arith)

  pub less_asym : (a b : List ℕ) → Key o a → Key o b → less o a b ≡ true → less o b a ≡ false
  less_asym a b h k t =
      let n : ℕ = length a + length b in
      let p : length a ≤ n = omega arith in
      let q : length b ≤ n = omega arith in
      let x = rank_lt o n a b h k p q t in
      le_rank o n b a k h q p (omega arith)

  module _ (a b c : List ℕ) (h : Key o a) (k : Key o b) (l : Key o c) where
    abbrev bound : ℕ
    bound = length a + length b + length c

    in_a : length a ≤ bound
    in_a = omega arith

    in_b : length b ≤ bound
    in_b = omega arith

    in_c : length c ≤ bound
    in_c = omega arith

    -- a < b and b < c
    pub less_trans : less o a b ≡ true → less o b c ≡ true → less o a c ≡ true
    less_trans t u =
        let x = rank_lt o bound a b h k in_a in_b t in
        let y = rank_lt o bound b c k l in_b in_c u in
        lt_rank o bound a c h l in_a in_c (omega arith)

    -- a ≤ b and b < c
    pub less_trans_le_lt : less o b a ≡ false → less o b c ≡ true → less o a c ≡ true
    less_trans_le_lt t u =
        let x = rank_le o bound b a k h in_b in_a t in
        let y = rank_lt o bound b c k l in_b in_c u in
        lt_rank o bound a c h l in_a in_c (omega arith)

    -- a < b and b ≤ c
    pub less_trans_lt_le : less o a b ≡ true → less o c b ≡ false → less o a c ≡ true
    less_trans_lt_le t u =
        let x = rank_lt o bound a b h k in_a in_b t in
        let y = rank_le o bound c b l k in_c in_b u in
        lt_rank o bound a c h l in_a in_c (omega arith)

    -- a ≤ b and b ≤ c
    pub less_trans_le : less o b a ≡ false → less o c b ≡ false → less o c a ≡ false
    less_trans_le t u =
        let x = rank_le o bound b a k h in_b in_a t in
        let y = rank_le o bound c b l k in_c in_b u in
        le_rank o bound c a l h in_c in_a (omega arith)

-- ---- the same key

pub same_true : (a b : List ℕ) → same_key a b ≡ true → a ≡ b
unfolding same_key
same_true [] [] e = refl
same_true [] (y ∷ ys) e = let z : ◌≡◌ {A = ℕ} 0 1 = cc in absurd (omega arith)
same_true (x ∷ xs) [] e = let z : ◌≡◌ {A = ℕ} 0 1 = cc in absurd (omega arith)
same_true (x ∷ xs) (y ∷ ys) e =
    let (p, q) = and_split (eqb x y) (same_key xs ys) e in
    ap₂ ◌∷◌ (eqb-true x y p) (same_true xs ys q)

pub same_refl : (a : List ℕ) → same_key a a ≡ true
unfolding same_key
same_refl [] = refl
same_refl (x ∷ xs) = rw (eq-eqb x x refl) (same_refl xs)

pub eq_same : (a b : List ℕ) → a ≡ b → same_key a b ≡ true
eq_same a b e = rw (← e) (same_refl a)

pub same_false : (a b : List ℕ) → same_key a b ≡ false → a ≡ b → ⊥
same_false a b t e = let u = eq_same a b e in let z : ◌≡◌ {A = ℕ} 0 1 = cc in omega arith

pub ne_same : (a b : List ℕ) → (a ≡ b → ⊥) → same_key a b ≡ false
ne_same a b h = by_test (same_key a b) (λ t. absurd (h (same_true a b t))) (λ t. t)

-- a key below another is another
pub less_ne : (o : ℕ) (a b : List ℕ) → Key o a → less o a b ≡ true → a ≡ b → ⊥
less_ne o a b h t e =
    let u : less o a b ≡ false = rw (← e) (less_irrefl o a h) in
    let z : ◌≡◌ {A = ℕ} 0 1 = cc in
    omega arith

pub less_not_same : (o : ℕ) (a b : List ℕ) → Key o a → less o a b ≡ true → same_key a b ≡ false
less_not_same o a b h t = ne_same a b (less_ne o a b h t)

-- the same if neither is below the other
pub same_less : (o : ℕ) (a b : List ℕ) → Key o a → Key o b → same_key a b ≡ not (less o a b) && not (less o b a)
same_less o a b h k =
    by_test (less o a b)
    (λ t. rw (t, less_not_same o a b h t))
    (λ t. by_test (less o b a)
    (λ u. rw (t, u, ne_same a b (λ e. less_ne o b a k u (sym e))))
    (λ u. rw (t, u, eq_same a b (less_total o a b h k t u))))

pub same_rank : (o n : ℕ) (a b : List ℕ) → Key o a → Key o b → length a ≤ n → length b ≤ n → same_key a b ≡ eqb (rank o n a) (rank o n b)
same_rank o n a b h k p q =
    by_test (eqb (rank o n a) (rank o n b))
    (λ t. rw t (eq_same a b (rank_injective o n a b h k p q (eqb-true (rank o n a) (rank o n b) t))))
    (λ t. rw t (ne_same a b (λ e. eqb-false (rank o n a) (rank o n b) t (ap (rank o n) e))))

-- ---- pair keys

pub length_pair_key : (id xid : ℕ) → length (pair_key id xid) ≡ 16
unfolding pair_key
length_pair_key id xid = length-append (bytes_of 8 id) (bytes_of 8 xid) ∙ ap₂ ◌+◌ (length_bytes_of 8 id) (length_bytes_of 8 xid)

pub pair_key_keyed : (id xid : ℕ) → keyed pair (pair_key id xid) ≡ true
unfolding keyed keyed_length
pair_key_keyed id xid = eq-eqb (length (pair_key id xid)) 16 (length_pair_key id xid)

pub pair_key_key : (id xid : ℕ) → Key pair (pair_key id xid)
unfolding pair_key
pair_key_key id xid = record {
  holds = pair_key_keyed id xid;
  bytes = bytes_append (bytes_of 8 id) (bytes_of 8 xid) (bytes_bytes_of 8 id)
      (bytes_bytes_of 8 xid);
}

-- its two numbers read back
pub pair_key_id : (id xid : ℕ) → id < 2 ^ 64 → u64_at (pair_key id xid) 0 ≡ id
unfolding pair_key field_at window
pair_key_id id xid h =
    ap le (take_at (bytes_of 8 id) (bytes_of 8 xid) 8 (length_bytes_of 8 id)) ∙ le_bytes_of 8 id h

pub pair_key_xid : (id xid : ℕ) → xid < 2 ^ 64 → u64_at (pair_key id xid) 8 ≡ xid
unfolding pair_key field_at window
pair_key_xid id xid h =
    ap (λ (z : List ℕ). le (take 8 z)) (drop_at (bytes_of 8 id) (bytes_of 8 xid) 8 (length_bytes_of 8 id))
    ∙ ap le (take_all 8 (bytes_of 8 xid) (omega (arith, length_bytes_of 8 xid))) ∙ le_bytes_of 8 xid h

-- a key of pair order is the key of its two numbers
pub pair_key_of : (k : List ℕ) → Key pair k → pair_key (u64_at k 0) (u64_at k 8) ≡ k
unfolding keyed keyed_length pair_key field_at
pair_key_of k h =
    let l : length k ≡ 16 = eqb-true (length k) 16 h.holds in
    let w : Bytes (window 0 8 k) = bytes_window 0 8 k h.bytes in
    let v : Bytes (window 8 8 k) = bytes_window 8 8 k h.bytes in
    let lw : length (window 0 8 k) ≡ 8 = length_window 0 8 k (omega arith) in
    let lv : length (window 8 8 k) ≡ 8 = length_window 8 8 k (omega arith) in
    ap₂ ◌++◌
    (ap (λ (n : ℕ). bytes_of n (le (window 0 8 k))) (sym lw) ∙ bytes_of_le (window 0 8 k) w)
    (ap (λ (n : ℕ). bytes_of n (le (window 8 8 k))) (sym lv) ∙ bytes_of_le (window 8 8 k) v)
    ∙ sym (halves k l)

-- id, then transaction
pub less_pair_key : (i x j y : ℕ) → i < 2 ^ 64 → x < 2 ^ 64 → j < 2 ^ 64 → y < 2 ^ 64
    → less pair (pair_key i x) (pair_key j y) ≡ ltb i j || eqb i j && ltb x y
unfolding less pair_less
less_pair_key i x j y hi hx hj hy =
    rw (pair_key_keyed i x, pair_key_keyed j y, pair_key_id i x hi, pair_key_id j y hj, pair_key_xid i x hx, pair_key_xid j y hy)

pub rank_pair_key : (n i x : ℕ) → i < 2 ^ 64 → x < 2 ^ 64 → rank pair n (pair_key i x) ≡ i * 2 ^ 64 + x
unfolding rank pair_rank
rank_pair_key n i x h k = ap₂ (λ (u v : ℕ). u * 2 ^ 64 + v) (pair_key_id i x h) (pair_key_xid i x k)

-- ---- keys of an order

-- in byte order, and under any code but pair's, any bytes are a key
pub byte_key : (k : List ℕ) → Bytes k → Key byte k
unfolding keyed keyed_length
byte_key k h = record { holds = refl; bytes = h }

pub pair_key_lem : (k : List ℕ) → length k ≡ 16 → Bytes k → Key pair k
unfolding keyed keyed_length
pair_key_lem k l h = record { holds = eq-eqb (length k) 16 l; bytes = h }

pub key_known : (o : ℕ) (k : List ℕ) → keyed o k ≡ true → Bytes k → Key o k
key_known o k t h = record { holds = t; bytes = h }

-- ---- the empty key

bytes_below : (k : List ℕ) → byte_less k [] ≡ false
unfolding byte_less
bytes_below [] = refl
bytes_below (x ∷ xs) = refl

-- no key is below it, of whatever order
pub none_below : (o : ℕ) (k : List ℕ) → less o k [] ≡ false
unfolding less keyed keyed_length
none_below o k =
    by_test (eqb o 0)
    (λ z. by_test (eqb (length k) 16) (λ y. rw (z, y) (bytes_below k)) (λ y. rw (z, y) (bytes_below k)))
    (λ z. rw z (bytes_below k))
