-- Laws of a line while its bytes are read. Assumes nothing.
use Rattle.std.specs.Prelude.{◌≡◌, refl, List, [], ◌∷◌, ◌++◌, None, Some, Bool, true, false, cond, not, ◌||◌, ℕ, zero, suc, ◌+◌, ◌-◌, ◌≤◌, ◌<◌, min, length, take, drop, set, get_or, eqb, position}
use Rattle.std.proofs.Common.{sym, ap, ◌∙◌, arith, add-one, lt-ltb, le-ltb, length-set, eqb-true, drop-cons, ⊎_elim}
use Rattle.std.proofs.Math.Seq.{append_snoc}
use Rattle.std.proofs.lemmas.Bool.{cases_lt, or_parts}
use Rattle.std.proofs.lemmas.Grind.{common_steps}
use Rattle.std.proofs.lemmas.List.{take-append-drop, take_more_set, drop-set-lt, set_past}
use Rattle.std.specs.List.{position_or_len}
use Rattle.std.proofs.lemmas.List.Quantifiers.{position-Some}
use Rattle.script.specs.Input.{Line, took, filled, after_line, has_feed}
use Rattle.script.specs.internal.Written.{written}
use Rattle.script.specs.internal.Coming.{line_at}

-- ---- one byte

took_room : (l : List ℕ) (len b : ℕ) → len < length l → took (line_at len l) b ≡ line_at (len + 1) (set l len b)
unfolding took
took_room l len b h =
    let m : min len (length l) ≡ len = omega arith in
    let n : min (len + 1) (length l) ≡ len + 1 = omega arith in
    let p : len ≤ length l = omega arith in
    let q : len + 1 ≤ length l = omega arith in
    rw (m, lt-ltb len (length l) h, length-set l len b, n, le-ltb (length l) len p, le-ltb (length l) (len + 1) q)

took_past : (l : List ℕ) (len b : ℕ) → length l ≤ len → took (line_at len l) b ≡ line_at (len + 1) (set l len b)
unfolding took
took_past l len b h =
    let m : min len (length l) ≡ length l = omega arith in
    let n : min (len + 1) (length l) ≡ length l = omega arith in
    let p : length l ≤ length l = omega arith in
    let q : length l < len + 1 = omega arith in
    rw (m, le-ltb (length l) (length l) p, set_past l len b h, n, lt-ltb (length l) (len + 1) q)

took_at : (l : List ℕ) (len b : ℕ) → took (line_at len l) b ≡ line_at (len + 1) (set l len b)
took_at l len b = ⊎_elim (λ (h : len < length l). took_room l len b h) (λ (h : length l ≤ len). took_past l len b h) (cases_lt len (length l))

-- ---- many

written_none : (l : List ℕ) (len : ℕ) → written l len [] ≡ l
written_none l len = grind (arith, common_steps)

written_room : (l bs : List ℕ) (len b : ℕ) → len < length l → written (set l len b) (len + 1) bs ≡ written l len (b ∷ bs)
written_room l bs len b h =
    let e : length l - len ≡ suc (length l - (len + 1)) = omega arith in
    let f : len + suc (length bs) ≡ len + 1 + length bs = omega arith in
    let g : len < len + 1 + length bs = omega arith in
    rw (
      take_more_set l len b h,
      length-set l len b,
      drop-set-lt (len + 1 + length bs) l len b g,
      append_snoc (take len l) b
          (take (length l - (len + 1)) bs),
      e,
      f,
    )

written_past : (l bs : List ℕ) (len b : ℕ) → length l ≤ len → written (set l len b) (len + 1) bs ≡ written l len (b ∷ bs)
written_past l bs len b h = grind (arith, common_steps)

written_cons : (l bs : List ℕ) (len b : ℕ) → written (set l len b) (len + 1) bs ≡ written l len (b ∷ bs)
written_cons l bs len b = ⊎_elim (λ (h : len < length l). written_room l bs len b h) (λ (h : length l ≤ len). written_past l bs len b h)
    (cases_lt len (length l))

-- ---- up to a line feed

-- where there is none, all is of the line
feed_cons : (b : ℕ) (bs : List ℕ) → has_feed (b ∷ bs) ≡ false → (eqb b 10 ≡ false) × (has_feed bs ≡ false)
unfolding has_feed
feed_cons b bs h = or_parts (eqb b 10) (has_feed bs) h

pub filled_none : (xs l : List ℕ) (len : ℕ) → has_feed xs ≡ false → filled (line_at len l) xs ≡ line_at (len + length xs) (written l len xs)
unfolding filled
filled_none [] l len h =
    let e : line_at len (written l len []) ≡ line_at len l = ap (line_at len) (written_none l len) in
    let f : len + 0 ≡ len = omega arith in
    rw f (sym (rw f at e))
filled_none (b ∷ bs) l len h =
    let e : len + 1 + length bs ≡ len + suc (length bs) = omega arith in
    let f = feed_cons b bs h in
    let g = filled_none bs (set l len b) (len + 1) f.1 in
    rw (f.0, took_at) (rw (written_cons, e) at g)

pub filled_append : (xs ys : List ℕ) (m : Line) → has_feed xs ≡ false → filled m (xs ++ ys) ≡ filled (filled m xs) ys
unfolding filled
filled_append [] ys m h = refl
filled_append (b ∷ bs) ys m h =
    let f = feed_cons b bs h in
    rw f.0 (filled_append bs ys (took m b) f.1)

pub after_append : (xs ys : List ℕ) → has_feed xs ≡ false → after_line (xs ++ ys) ≡ after_line ys
unfolding after_line
after_append [] ys h = refl
after_append (b ∷ bs) ys h =
    let f = feed_cons b bs h in
    rw f.0 (after_append bs ys f.1)

pub feed_append : (xs ys : List ℕ) → has_feed xs ≡ false → has_feed (xs ++ ys) ≡ has_feed ys
unfolding has_feed
feed_append [] ys h = refl
feed_append (b ∷ bs) ys h =
    let f = feed_cons b bs h in
    rw f.0 (feed_append bs ys f.1)

-- a line feed ends the line
pub filled_feed : (m : Line) (bs : List ℕ) → filled m (10 ∷ bs) ≡ m
unfolding filled
filled_feed m bs = refl

pub after_feed : (bs : List ℕ) → after_line (10 ∷ bs) ≡ bs
unfolding after_line
after_feed bs = refl

pub feed_first : (bs : List ℕ) → has_feed (10 ∷ bs) ≡ true
unfolding has_feed
feed_first bs = refl

-- ---- where it is

no_feed_below : (xs : List ℕ) (n : ℕ) → ((k : ℕ) → k < n → eqb (get_or xs k 0) 10 ≡ false) → has_feed (take n xs) ≡ false
unfolding has_feed
no_feed_below xs zero h = refl
no_feed_below [] (suc n) h = refl
no_feed_below (b ∷ bs) (suc n) h =
    let k : 0 < suc n = omega arith in
    rw (h 0 k) (no_feed_below bs n (λ (j : ℕ) (l : j < n). h (suc j) (omega arith)))

pub feed_at : (xs : List ℕ) (n : ℕ) → position (λ b. eqb b 10) xs ≡ Some n
    → (has_feed (take n xs) ≡ false) × (xs ≡ take n xs ++ (10 ∷ drop (n + 1) xs))
feed_at xs n e =
    let p = position-Some (λ b. eqb b 10) xs n 0 e in
    let b : get_or xs n 0 ≡ 10 = eqb-true (get_or xs n 0) 10 p.1 in
    let d : drop n xs ≡ 10 ∷ drop (n + 1) xs = drop-cons xs n 0 p.0 ∙ rw (b, add-one) in
    (no_feed_below xs n p.2, rw (← d) (sym (take-append-drop n xs)))

feed_past_cons : (t r : Bool) (n k : ℕ) → suc n ≤ cond (not t) (1 + k) 0 → (n ≤ k → r ≡ false) → (t || r) ≡ false
feed_past_cons true r n k h f = absurd (omega arith)
feed_past_cons false r n k h f = f (omega arith)

feed_past : (xs : List ℕ) → length xs ≤ position_or_len (λ b. eqb b 10) xs → has_feed xs ≡ false
unfolding has_feed
feed_past [] h = refl
feed_past (b ∷ bs) h = feed_past_cons (eqb b 10) (has_feed bs) (length bs) (position_or_len (λ x. eqb x 10) bs) h (feed_past bs)

pub feed_none : (xs : List ℕ) → position (λ b. eqb b 10) xs ≡ None → has_feed xs ≡ false
feed_none xs e =
    let n = position_or_len (λ b. eqb b 10) xs in
    ⊎_elim (λ (h : n < length xs). let f = rw (lt-ltb n (length xs) h) at e in cc) (λ (h : length xs ≤ n). feed_past xs h) (cases_lt n (length xs))
