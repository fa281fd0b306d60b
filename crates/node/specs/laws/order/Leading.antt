-- Laws of numbers that bytes spell, the highest first. Assumes nothing.
use Rattle.std.specs.Prelude.{◌≡◌, refl, List, [], ◌∷◌, ◌++◌, Bool, true, false, ◌&&◌, ◌||◌, ℕ, suc, ◌+◌, ◌-◌, ◌*◌, ◌^◌, ◌≤◌, ◌<◌, min, length, take, drop, get_or, ltb, eqb}
use Rattle.std.proofs.Common.{sym, ap, ap₂, ◌∙◌, pow-suc, mul-le-mul_right, suc-mul, arith, take-append-drop, length-drop, length-take-le, drop-drop, ltb-true, ltb-false, lt-ltb, le-ltb, eqb-true, eq-eqb, ne_eqb}
use Rattle.std.proofs.Math.Nat.{suc_inj, one-le-pow}
use Rattle.std.specs.Int.{w64, swap_bytes, to_le_bytes, from_le_bytes, from_be_bytes}
use Rattle.std.specs.Ordering.{nat_cmp}
use Rattle.std.proofs.lemmas.Nat.{le_bytes_8}
use Rattle.seal.specs.Bytes.{window, le, u64_at, field_at}
use Rattle.node.specs.Order.{byte, byte_less}
use Rattle.node.specs.laws.base.Tests.{by_test, test_ext, ltb_same, or-false}
use Rattle.node.specs.laws.order.Compared.{byte_said}
use Rattle.node.specs.laws.order.OrderSteps.{byte_differs, byte_next, byte_end}
use Rattle.node.specs.laws.base.Bytes.{Bytes, bytes_below, bytes_head, bytes_tail, bytes_take, bytes_drop}
use Rattle.node.specs.internal.Lead.{spell, Leads, Comparing}
use Rattle.node.specs.internal.Sought.{compared}

-- ---- the test of two digits and what follows them is that of the number

digit_lt : (a b w r s : ℕ) → a < b → r < w → a * w + r < b * w + s
digit_lt a b w r s h k =
    let x : suc a * w ≤ b * w = mul-le-mul_right w (omega arith) in
    let y : suc a * w ≡ a * w + w = suc-mul a w in
    omega arith

eqb_same : (a b c d : ℕ) → (a ≡ b → c ≡ d) → (c ≡ d → a ≡ b) → eqb a b ≡ eqb c d
eqb_same a b c d f g = test_ext (eqb a b) (eqb c d) (λ p. eq-eqb c d (f (eqb-true a b p))) (λ p. eq-eqb a b (g (eqb-true c d p)))

digits : (x y w r s : ℕ) (t : Bool) → r < w → s < w
    → ltb x y || eqb x y && (ltb r s || eqb r s && t) ≡ ltb (x * w + r) (y * w + s) || eqb (x * w + r) (y * w + s) && t
digits x y w r s t h k =
    by_test (ltb x y)
    (λ p. rw (p, lt-ltb (x * w + r) (y * w + s) (digit_lt x y w r s (ltb-true x y p) h)))
    (λ p. by_test (ltb y x)
    (λ q.
    let d = digit_lt y x w s r (ltb-true y x q) k in
    let u = ltb-true y x q in
    let n : eqb x y ≡ false = ne_eqb x y (λ e. omega arith) in
    let l : ltb (x * w + r) (y * w + s) ≡ false = le-ltb (x * w + r) (y * w + s) (omega arith) in
    let m : eqb (x * w + r) (y * w + s) ≡ false = ne_eqb (x * w + r) (y * w + s) (λ e. omega arith) in
    rw (p, n, l, m))
    (λ q.
    let u = ltb-false x y p in
    let v = ltb-false y x q in
    let e : x ≡ y = omega arith in
    rw (p, eq-eqb x y e)
    (ap₂ (λ (f g : Bool). f || g && t)
    (ltb_same r s (x * w + r) (x * w + s) (λ z. omega arith) (λ z. omega arith))
    (eqb_same r s (x * w + r) (x * w + s) (λ z. omega arith) (λ z. omega arith))
    ∙ ap (λ (z : ℕ). ltb (x * w + r) (z * w + s) || eqb (x * w + r) (z * w + s) && t) e)))

-- ---- what bytes spell

pub spell_below : (l : List ℕ) → Bytes l → spell l < 256 ^ length l
unfolding spell
spell_below [] h = one-le-pow 0 256 (omega arith)
spell_below (b ∷ bs) h =
    let r = spell_below bs (bytes_tail h) in
    let p = bytes_head h in
    let x : suc b * 256 ^ length bs ≤ 256 * 256 ^ length bs = mul-le-mul_right (256 ^ length bs) (omega arith) in
    let y : suc b * 256 ^ length bs ≡ b * 256 ^ length bs + 256 ^ length bs = suc-mul b (256 ^ length bs) in
    rw pow-suc (omega arith)

-- it decides between lists that begin with as many bytes; where it is the same, what follows them does
pub spell_test : (a b c d : List ℕ) → length a ≡ length b → Bytes a → Bytes b
    → byte_less (a ++ c) (b ++ d) ≡ ltb (spell a) (spell b) || eqb (spell a) (spell b) && byte_less c d
unfolding spell byte_less
spell_test [] [] c d e h k = refl
spell_test [] (y ∷ ys) c d e h k = absurd (omega arith)
spell_test (x ∷ xs) [] c d e h k = absurd (omega arith)
spell_test (x ∷ xs) (y ∷ ys) c d e h k =
    let l : length xs ≡ length ys = suc_inj e in
    let r = spell_below xs (bytes_tail h) in
    let s : spell ys < 256 ^ length xs = rw l (spell_below ys (bytes_tail k)) in
    rw (spell_test xs ys c d l (bytes_tail h) (bytes_tail k), ← l)
    (digits x y (256 ^ length xs) (spell xs) (spell ys) (byte_less c d) r s)

-- ---- lists that begin with eight bytes

module _ (a b : List ℕ) (x y : ℕ) (p : Leads a x) (q : Leads b y) where
  pub lead_test : byte_less a b ≡ ltb x y || eqb x y && byte_less (drop 8 a) (drop 8 b)
  lead_test =
      let e : length (take 8 a) ≡ length (take 8 b) = length-take-le 8 a p.long ∙ sym (length-take-le 8 b q.long) in
      ap₂ byte_less (sym (take-append-drop 8 a)) (sym (take-append-drop 8 b))
      ∙ spell_test (take 8 a) (take 8 b) (drop 8 a) (drop 8 b) e (bytes_below (take 8 a) p.bytes) (bytes_below (take 8 b) q.bytes)
      ∙ ap₂ (λ (u v : ℕ). ltb u v || eqb u v && byte_less (drop 8 a) (drop 8 b)) (sym p.spelled) (sym q.spelled)

  pub lead_below : x < y → byte_less a b ≡ true
  lead_below h = rw (lead_test, lt-ltb x y h)

  pub lead_above : y < x → byte_less a b ≡ false
  lead_above h = rw (lead_test, le-ltb x y (omega arith), ne_eqb x y (λ e. omega arith))

  pub lead_same : x ≡ y → byte_less a b ≡ byte_less (drop 8 a) (drop 8 b)
  lead_same e = rw (lead_test, le-ltb x y (omega arith), eq-eqb x y e)

-- ---- a number whose bytes are put in the other order

-- eight bytes as std reads them, the lowest first and the highest first
eight : (l : List ℕ) → length l ≡ 8 → (le l ≡ from_le_bytes w64 l) × (spell l ≡ from_be_bytes w64 l)
unfolding le spell
eight [] e = absurd (omega arith)
eight (a ∷ []) e = absurd (omega arith)
eight (a ∷ b ∷ []) e = absurd (omega arith)
eight (a ∷ b ∷ c ∷ []) e = absurd (omega arith)
eight (a ∷ b ∷ c ∷ d ∷ []) e = absurd (omega arith)
eight (a ∷ b ∷ c ∷ d ∷ f ∷ []) e = absurd (omega arith)
eight (a ∷ b ∷ c ∷ d ∷ f ∷ g ∷ []) e = absurd (omega arith)
eight (a ∷ b ∷ c ∷ d ∷ f ∷ g ∷ h ∷ []) e = absurd (omega arith)
eight (a ∷ b ∷ c ∷ d ∷ f ∷ g ∷ h ∷ i ∷ []) e = (omega arith, omega arith)
eight (a ∷ b ∷ c ∷ d ∷ f ∷ g ∷ h ∷ i ∷ j ∷ l) e = absurd (omega arith)

-- eight bytes as the code reads them
pub lead_read : (s : List ℕ) (i x r : ℕ) → i + 8 ≤ length s → Bytes s → x ≡ u64_at s i → r ≡ swap_bytes w64 x → Leads (drop i s) r
unfolding field_at window
lead_read s i x r h b e f =
    let l : List ℕ = take 8 (drop i s) in
    let n : length (drop i s) ≡ length s - i = length-drop i s in
    let z : length l ≡ 8 = length-take-le 8 (drop i s) (omega arith) in
    let c : Bytes l = bytes_take 8 (drop i s) (bytes_drop i s b) in
    let t : to_le_bytes w64 x ≡ l = le_bytes_8 l x z c.below (e ∙ (eight l z).0) in
    record {
      long = omega arith;
      bytes = c.below;
      spelled = f ∙ ap (from_be_bytes w64) t ∙ sym (eight l z).1;
    }

-- ---- the code that compares keys: one law for each way out and each turn of a loop

module _ (a b : List ℕ) (n i : ℕ) (c : Comparing a b n i) where
  back_least : n ≡ min (length b) (length a)
  back_least = let m = c.least in omega arith

  -- by eight bytes
  module _ (x y : ℕ) (u : Leads (drop i a) x) (v : Leads (drop i b) y) where
    pub lead_differs : (x ≡ y → ⊥) → nat_cmp x y ≡ compared byte a b
    lead_differs h =
        let s : byte_less (drop i a) (drop i b) ≡ ltb x y = rw (lead_test (drop i a) (drop i b) x y u v, ne_eqb x y h) (or-false (ltb x y)) in
        let t : byte_less (drop i b) (drop i a) ≡ ltb y x
        = rw (lead_test (drop i b) (drop i a) y x v u, ne_eqb y x (λ e. h (sym e))) (or-false (ltb y x)) in
        byte_said x y a b (sym s ∙ c.there) (sym t ∙ c.back)

    pub lead_turn : (j : ℕ) → j ≡ i + 8 → j ≤ n → x ≡ y → Comparing a b n j
    lead_turn j s h e =
        record {
          few = h;
          least = c.least;
          there = rw s (ap₂ byte_less (sym (drop-drop 8 i a)) (sym (drop-drop 8 i b))
              ∙ sym (lead_same (drop i a) (drop i b) x y u v e) ∙ c.there);
          back = rw s (ap₂ byte_less (sym (drop-drop 8 i b)) (sym (drop-drop 8 i a))
              ∙ sym (lead_same (drop i b) (drop i a) y x v u (sym e)) ∙ c.back);
        }

  -- by one
  module _ (h : i < n) where
    pub byte_cmp : (get_or a i 0 ≡ get_or b i 0 → ⊥) → nat_cmp (get_or a i 0) (get_or b i 0) ≡ compared byte a b
    byte_cmp d =
        byte_said (get_or a i 0) (get_or b i 0) a b
        (byte_differs a b i n c.least h c.there d) (byte_differs b a i n back_least h c.back (λ e. d (sym e)))

    pub byte_turn : get_or a i 0 ≡ get_or b i 0 → Comparing a b n (i + 1)
    byte_turn e =
        record {
          few = omega arith;
          least = c.least;
          there = byte_next a b i n c.least h c.there e;
          back = byte_next b a i n back_least h c.back (sym e);
        }

  -- by lengths
  pub length_cmp : n ≤ i → nat_cmp (length a) (length b) ≡ compared byte a b
  length_cmp h =
      byte_said (length a) (length b) a b (byte_end a b i n c.least h c.few c.there) (byte_end b a i n back_least h c.few c.back)

-- what `byte_compare` takes of these
pub ruleset ends = (lead_differs, length_cmp)
