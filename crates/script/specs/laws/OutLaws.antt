-- Laws of answers: what a buffer gathers, text by text. Assumes nothing.
use Rattle.std.specs.Prelude.{◌≡◌, refl, List, [], ◌∷◌, ◌++◌, ℕ, zero, suc, ◌+◌, ◌-◌, ◌*◌, ◌/◌, ◌%◌, ◌^◌, ◌≤◌, ◌<◌, min, length, take, set, get_or, Option, None, Some, IsNone, IsSome, decimal}
use Rattle.std.proofs.Common.{sym, ap, ◌∙◌, pow-suc, arith, append_assoc, append-nil, length-append, length-set, length-take, take-take, take_at, take_all, lt-ltb, ⊎_elim}
use Rattle.std.proofs.Math.Nat.{one-le-pow}
use Rattle.std.proofs.KnownBytes.{Appends-nil, Appends-trans}
use Rattle.std.proofs.lemmas.Bool.{cases_lt}
use Rattle.std.proofs.lemmas.Fmt.{decimal_digit, decimal_step}
use Rattle.std.proofs.lemmas.List.{take_more, take_more_set}
use Rattle.io.specs.Digits.{last_digits, IsDigitCount}
use Rattle.script.specs.declared.out.TheConstants.{ROOM}
use Rattle.script.specs.declared.out.Out.{Out}
use Rattle.script.specs.declared.waiting.Waiting.{Waiting}
use Rattle.script.specs.Out.{items, put, puts, sent, sents, Wrote, Gathers, hex_digit, hex_text}

-- ---- what is written

none_before : {E : Type 0} (g h : Option E) → (IsSome g → h ≡ g) → IsNone h → IsNone g
none_before None h k n = refl
none_before (Some e) h k n = rw (k refl) at n

some_after : {E : Type 0} (f g : Option E) → g ≡ f → IsSome f → IsSome g
some_after f g e s = rw e s

-- one after another
wrote_both : {E : Type 0} (f g h : Option E) (a b c : Option (List ℕ)) (xs ys : List ℕ) → Wrote f g a b xs → Wrote g h b c ys
    → Wrote f h a c (xs ++ ys)
wrote_both f g h a b c xs ys p q = record {
  kept = λ (s : IsSome f). q.kept (some_after f g (p.kept s) s) ∙ p.kept s;
  grown = λ (n : IsNone h). Appends-trans a b c xs ys (p.grown (none_before g h q.kept n)) (q.grown n);
}

-- ---- a text, and then one more

pub puts_append : (s t h : List ℕ) → puts h (s ++ t) ≡ puts (puts h s) t
unfolding puts
puts_append [] t h = refl
puts_append (b ∷ s) t h = puts_append s t (put h b)

pub sents_append : (s t h : List ℕ) → sents h (s ++ t) ≡ sents h s ++ sents (puts h s) t
unfolding sents puts
sents_append [] t h = refl
sents_append (b ∷ s) t h = ap (λ (x : List ℕ). sent h b ++ x) (sents_append s t (put h b))
    ∙ sym (append_assoc (sent h b) (sents (put h b) s) (sents (puts (put h b) s) t))

module _ {W : Type 0} {contents : W → Option (List ℕ)} where
  pub gathers_both : {o p q : Out W} {s t : List ℕ} → Gathers contents o p s → Gathers contents p q t → Gathers contents o q (s ++ t)
  gathers_both {o} {p} {q} {s} {t} g h =
      let e : sents (items o.waiting) s ++ sents (items p.waiting) t ≡ sents (items o.waiting) (s ++ t) =
      rw g.buffer (sym (sents_append s t (items o.waiting))) in
      record {
        buffer = h.buffer ∙ ap (λ (x : List ℕ). puts x t) g.buffer ∙ sym (puts_append s t (items o.waiting));
        written = rw e at (wrote_both o.failed p.failed q.failed (contents o.to) (contents p.to) (contents q.to) _ _ g.written h.written);
      }

  -- nothing
  pub gathers_none : (o : Out W) → Gathers contents o o []
  unfolding puts sents
  gathers_none o = record {
    buffer = refl;
    written = record { kept = λ (k : IsSome o.failed). refl; grown = λ (k : IsNone o.failed). Appends-nil (contents o.to) };
  }

-- ---- what the definitions say of the first byte

pub puts_nil : (h : List ℕ) → puts h [] ≡ h
unfolding puts
puts_nil h = refl

pub puts_cons : (b : ℕ) (s h : List ℕ) → puts h (b ∷ s) ≡ puts (put h b) s
unfolding puts
puts_cons b s h = refl

pub sents_nil : (h : List ℕ) → sents h [] ≡ []
unfolding sents
sents_nil h = refl

pub sents_cons : (b : ℕ) (s h : List ℕ) → sents h (b ∷ s) ≡ sent h b ++ sents (put h b) s
unfolding sents
sents_cons b s h = refl

-- ---- where there is room

puts_fits : (s h : List ℕ) → length h + length s ≤ ROOM → puts h s ≡ h ++ s
unfolding puts put
puts_fits [] h l = sym (append-nil h)
puts_fits (b ∷ s) h l =
    let k : length h < ROOM = omega arith in
    let m : length (h ++ (b ∷ [])) + length s ≤ ROOM = simp length-append (omega arith) in
    rw (lt-ltb (length h) ROOM k, puts_fits s (h ++ (b ∷ [])) m, append_assoc)

sents_fits : (s h : List ℕ) → length h + length s ≤ ROOM → sents h s ≡ []
unfolding sents sent put
sents_fits [] h l = refl
sents_fits (b ∷ s) h l =
    let k : length h < ROOM = omega arith in
    let m : length (h ++ (b ∷ [])) + length s ≤ ROOM = simp length-append (omega arith) in
    rw (lt-ltb (length h) ROOM k, sents_fits s (h ++ (b ∷ [])) m)

module _ {W : Type 0} {contents : W → Option (List ℕ)} where
  -- a text waits behind what waits
  pub gathers_room : (o : Out W) (v : Waiting) (s : List ℕ) → length (items o.waiting) + length s ≤ ROOM → items v ≡ items o.waiting ++ s
      → Gathers contents o (record { waiting = v; to = o.to; failed = o.failed }) s
  gathers_room o v s h e = record {
    buffer = e ∙ sym (puts_fits s (items o.waiting) h);
    written = rw (sents_fits s (items o.waiting) h, ← sents_nil (items o.waiting)) (gathers_none {contents = contents} o).written;
  }

-- ---- numbers

digits_one : (n : ℕ) → n < 10 ^ 1 → last_digits 10 1 n ≡ decimal n
digits_one n g =
    let p : n < 10 = g in
    let q : n % 10 ≡ n = omega arith in
    rw (q, lt-ltb n 10 p, decimal_digit n p)

-- the fewest digits that hold a number are its decimal digits
digits_decimal : (k n : ℕ) → n < 10 ^ suc k → (0 < k → 10 ^ k ≤ n) → n < 2 ^ 64 → last_digits 10 (suc k) n ≡ decimal n
digits_decimal zero n g l s = digits_one n g
digits_decimal (suc k) n g l s =
    let a : 10 ^ suc k ≤ n = l (omega arith) in
    let z : 0 < 10 = omega arith in
    let t : 10 ≤ n = omega (arith, pow-suc 10 k, one-le-pow k 10 z) in
    let m : n % 10 < 10 = omega arith in
    let c : n / 10 < 10 ^ suc k = omega (arith, pow-suc 10 (suc k)) in
    let d : 10 ^ k ≤ n / 10 = omega (arith, pow-suc 10 k) in
    let v : n / 10 < 2 ^ 64 = omega arith in
    rw (decimal_step n t s, lt-ltb (n % 10) 10 m, digits_decimal k (n / 10) c (λ (z : 0 < k). d) v)

pub fewest_decimal : (k n : ℕ) → IsDigitCount 10 1 n k → n < 2 ^ 64 → last_digits 10 k n ≡ decimal n
fewest_decimal zero n (a, b, c) f = absurd (omega arith)
fewest_decimal (suc k) n (a, b, c) f =
    let e : suc k - 1 ≡ k = omega arith in
    let l : 0 < k → 10 ^ k ≤ n = λ (z : 0 < k). rw e at (c (omega arith)) in
    digits_decimal k n b l f

-- ---- byte strings

two_places : (k b : ℕ) → 2 ≤ k → (2 < k → 16 ^ (k - 1) ≤ b) → b < 2 ^ 8 → k ≡ 2
two_places (suc (suc zero)) b l m h = refl
two_places (suc (suc (suc k))) b l m h =
    let e : suc (suc (suc k)) - 1 ≡ suc (suc k) = omega arith in
    let p : 16 ^ suc (suc k) ≤ b = rw e at (m (omega arith)) in
    let z : 0 < 16 = omega arith in
    absurd (omega (arith, pow-suc 16 (suc k), pow-suc 16 k, one-le-pow k 16 z))
two_places zero b l m h = absurd (omega arith)
two_places (suc zero) b l m h = absurd (omega arith)

-- a byte has two hexadecimal digits
pub two_digits : (k b : ℕ) → IsDigitCount 16 2 b k → b < 2 ^ 8 → last_digits 16 k b ≡ hex_text (b ∷ [])
unfolding hex_text hex_digit
two_digits k b (l, g, m) h =
    let e : k ≡ 2 = two_places k b l m h in
    let q : b / 16 % 16 ≡ b / 16 = omega arith in
    rw (e, q)

pub hex_append : (s t : List ℕ) → hex_text (s ++ t) ≡ hex_text s ++ hex_text t
unfolding hex_text
hex_append [] t = refl
hex_append (b ∷ s) t = ap (λ (x : List ℕ). hex_digit (b / 16) ∷ hex_digit (b % 16) ∷ x) (hex_append s t)

-- a byte more, behind those that are shown at the front of a room
pub hex_more : (s room : List ℕ) (i : ℕ) → i < length s → 2 * length s ≤ length room → take (2 * i) room ≡ hex_text (take i s)
    → take (2 * (i + 1)) (set (set room (2 * i) (hex_digit (get_or s i 0 / 16))) (2 * i + 1) (hex_digit (get_or s i 0 % 16)))
    ≡ hex_text (take (i + 1) s)
unfolding hex_text
hex_more s room i h l e =
    let a : ℕ = hex_digit (get_or s i 0 / 16) in
    let b : ℕ = hex_digit (get_or s i 0 % 16) in
    let m : 2 * (i + 1) ≡ 2 * i + 1 + 1 = omega arith in
    let p : 2 * i < length room = omega arith in
    let q : 2 * i + 1 < length (set room (2 * i) a) = rw (length-set room (2 * i) a) (omega arith) in
    rw (m, take_more_set (set room (2 * i) a) (2 * i + 1) b q, take_more_set room (2 * i) a p, e, take_more s i 0 h, hex_append)
    (append_assoc (hex_text (take i s)) (a ∷ []) (b ∷ []))

pub hex_none : hex_text [] ≡ []
unfolding hex_text
hex_none = refl

pub hex_end : (s : List ℕ) → length s ≡ 0 → hex_text s ≡ []
unfolding hex_text
hex_end [] h = refl
hex_end (b ∷ s) h = absurd (omega arith)

pub ruleset shown = (hex_none, hex_more)

-- ---- the front of an array

-- a text more
pub extended : (l s r : List ℕ) (a : ℕ) → a ≤ length l → take (a + length s) (take a l ++ (s ++ r)) ≡ take a l ++ s
extended l s r a h =
    let e : length (take a l ++ s) ≡ a + length s = simp (length-append, length-take) (omega arith) in
    ap (take (a + length s)) (sym (append_assoc (take a l) s r)) ∙ take_at (take a l ++ s) r (a + length s) e

-- no more than the first n
pub truncated : (l : List ℕ) (a n : ℕ) → take (min a n) l ≡ take n (take a l)
truncated l a n = ⊎_elim
    (λ (h : n < a). let e : min a n ≡ n = omega arith in let k : n ≤ a = omega arith in rw e (sym (take-take n a l k)))
    (λ (h : a ≤ n). let e : min a n ≡ a = omega arith in rw e (sym (take_all n (take a l) (omega (arith, length-take a l)))))
    (cases_lt n a)

pub ruleset parts = (extended, truncated)

-- ---- a text after a text

pub ruleset gathered = (puts_append, sents_append, append_assoc, puts_cons, sents_cons, puts_nil, sents_nil, append-nil, fewest_decimal)
