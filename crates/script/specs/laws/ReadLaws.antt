-- Laws of a reader while a line is read. Assumes nothing.
use Rattle.std.specs.Prelude.{◌≡◌, refl, List, [], ◌∷◌, ◌++◌, Option, None, Some, Result, Ok, Err, IsNone, MatchOption, MatchResult, Bool, true, false, ℕ, suc, ◌+◌, ◌-◌, ◌^◌, ◌≤◌, ◌<◌, min, length, take, drop, eqb, position}
use Rattle.std.proofs.Common.{sym, ap, ◌∙◌, arith, lt-ltb, le-ltb, length-append, append_assoc, drop_of_length-le, ne_eqb, eq-eqb, eqb-true, ⊎_elim}
use Rattle.std.proofs.lemmas.Bool.{cases_lt}
use Rattle.std.proofs.Math.Seq.{drop-drop}
use Rattle.std.proofs.lemmas.List.{drop-take, length-take}
use Rattle.std.proofs.lemmas.Grind.{common_steps}
use Rattle.std.specs.Io.KnownBytes.{prepend_known}
use Rattle.script.specs.declared.input.Lines.{Lines}
use Rattle.script.specs.declared.input.TooLong.{TooLong}
use Rattle.script.specs.Input.{Line, empty_line, line_of, filled, after_line, has_feed, left_of, to_come, Ahead, Reads, Ends}
use Rattle.script.specs.internal.Written.{written}
use Rattle.script.specs.internal.Coming.{line_at, Refills, Rest, Coming, Last, Ended}
use Rattle.script.specs.laws.LineLaws.{filled_none, filled_append, after_append, feed_append, filled_feed, after_feed, feed_first, feed_at, feed_none}

-- ---- lines

line_short : (l : List ℕ) (k : ℕ) → k ≤ length l → line_at k l ≡ record { room = l; len = k; long = false }
line_short l k h =
    let m : min k (length l) ≡ k = omega arith in
    rw (m, le-ltb (length l) k h)

line_long : (l : List ℕ) (k : ℕ) → length l < k → line_at k l ≡ record { room = l; len = length l; long = true }
line_long l k h =
    let m : min k (length l) ≡ length l = omega arith in
    rw (m, lt-ltb (length l) k h)

-- a line that is counted no further than numbers go
line_most : (l : List ℕ) (k n : ℕ) → length l < 2 ^ 64 - 1 → k ≡ min n (2 ^ 64 - 1) → line_at k l ≡ line_at n l
line_most l k n h e = ⊎_elim
    (λ (g : length l < n). line_long l k (omega arith) ∙ sym (line_long l n g))
    (λ (g : n ≤ length l). let f : k ≡ n = omega arith in rw f)
    (cases_lt (length l) n)

pub fitted : (f : Result ℕ TooLong) (l : List ℕ) (k : ℕ) → MatchResult f (λ n. (n ≡ k) × (k ≤ length l)) (λ _. length l < k)
    → line_of (Some f) l ≡ line_at k l
fitted (Ok n) l k (e, h) = rw e (sym (line_short l k h))
fitted (Err x) l k h = sym (line_long l k h)

empty_at : (l : List ℕ) → line_at 0 l ≡ empty_line l
empty_at l = line_short l 0 (omega arith)

last_at : (f : Option (Result ℕ TooLong)) (l : List ℕ) (k : ℕ)
    → MatchOption f (k ≡ 0) (λ r. (0 < k) × MatchResult r (λ n. (n ≡ k) × (k ≤ length l)) (λ _. length l < k)) → line_of f l ≡ line_at k l
last_at None l k e = rw e (sym (empty_at l))
last_at (Some f) l k h = fitted f l k h.1

written_length : (l part : List ℕ) (len : ℕ) → length (written l len part) ≡ length l
written_length l part len = grind (arith, common_steps)

-- ---- the bytes to come

known_split : (a ys : List ℕ) (k : Option (List ℕ)) → prepend_known a k ≡ Some ys → (zs : List ℕ) × (k ≡ Some zs) × (a ++ zs ≡ ys)
known_split a ys None e = cc
known_split a ys (Some zs) e = (zs, refl, cc)

known_none : (k : Option (List ℕ)) → prepend_known [] k ≡ k
known_none None = refl
known_none (Some zs) = refl

no_both : (b : Bool) → b ≡ true → b ≡ false → ⊥
no_both b e f = cc

feed_there : (a : List ℕ) → has_feed a ≡ true → 0 < length a
unfolding has_feed
feed_there [] e = cc
feed_there (b ∷ a) e = omega arith

-- the bytes left, in which there is no line feed, are of the line: those behind them are to come
rest_turn : (l xs m a n : List ℕ) (len turn k : ℕ) (old known : Option (List ℕ)) → length m < 2 ^ 64 - 1 → has_feed a ≡ false → 0 < length a
    → k ≡ min (len + length a) (2 ^ 64 - 1) → n ≡ written m len a → (r : Rest l xs m len turn old) → prepend_known a known ≡ Some r.ys
    → Rest l xs n k (turn + 1) known
rest_turn l xs m a n len turn k old known h f g e w r z =
    let s = known_split a r.ys known z in
    let zs = s.0 in
    let y : a ++ zs ≡ r.ys = s.2 in
    let p : length n < 2 ^ 64 - 1 = rw (w, written_length m a len) h in
    let q : line_at k n ≡ filled (line_at len m) a = line_most n k (len + length a) p e ∙ rw w (sym (filled_none a m len f)) in
    let c : length a + length zs ≡ length r.ys = sym (length-append a zs) ∙ ap length y in
    record {
      ys = zs;
      there = s.1;
      line = ap (λ (x : Line). filled x zs) q ∙ sym (filled_append a zs (line_at len m) f) ∙ ap (filled (line_at len m)) y ∙ r.line;
      after = sym (after_append a zs f) ∙ ap after_line y ∙ r.after;
      feed = sym (feed_append a zs f) ∙ ap has_feed y ∙ r.feed;
      all = let t = r.all in omega arith;
      turns = let t = r.turns in omega arith;
    }

-- a line feed is among the bytes left: those before it are of the line, those behind it are to come
record Found (l xs m a b n : List ℕ) (k : ℕ) (known : Option (List ℕ)) : Type 0 where
  line : line_at k n ≡ filled (empty_line l) xs
  rest : prepend_known b known ≡ Some (after_line xs)
  some : 0 < length xs

rest_found : (l xs m a b n : List ℕ) (len turn k : ℕ) (old known : Option (List ℕ)) → length m < 2 ^ 64 - 1 → has_feed a ≡ false
    → k ≡ min (len + length a) (2 ^ 64 - 1) → n ≡ written m len a → (r : Rest l xs m len turn old) → prepend_known (a ++ (10 ∷ b)) known ≡ Some r.ys
    → Found l xs m a b n k known
rest_found l xs m a b n len turn k old known h f e w r z =
    let s = known_split (a ++ (10 ∷ b)) r.ys known z in
    let zs = s.0 in
    let y : a ++ (10 ∷ (b ++ zs)) ≡ r.ys = sym (append_assoc a (10 ∷ b) zs) ∙ s.2 in
    let p : length n < 2 ^ 64 - 1 = rw (w, written_length m a len) h in
    let q : line_at k n ≡ filled (line_at len m) a = line_most n k (len + length a) p e ∙ rw w (sym (filled_none a m len f)) in
    let g : filled (line_at len m) (a ++ (10 ∷ (b ++ zs))) ≡ filled (line_at len m) a =
    filled_append a (10 ∷ (b ++ zs)) (line_at len m) f ∙ filled_feed (filled (line_at len m) a) (b ++ zs) in
    let v : after_line (a ++ (10 ∷ (b ++ zs))) ≡ b ++ zs = after_append a (10 ∷ (b ++ zs)) f ∙ after_feed (b ++ zs) in
    let c : length a + suc (length (b ++ zs)) ≡ length r.ys = sym (length-append a (10 ∷ (b ++ zs))) ∙ ap length y in
    record {
      line = q ∙ sym g ∙ ap (filled (line_at len m)) y ∙ r.line;
      rest = rw s.1 (ap Some (sym v ∙ ap after_line y ∙ r.after));
      some = let t = r.turns in omega arith;
    }

rest_feed : (l xs m a b : List ℕ) (len turn : ℕ) (old known : Option (List ℕ)) → has_feed a ≡ false → (r : Rest l xs m len turn old)
    → prepend_known (a ++ (10 ∷ b)) known ≡ Some r.ys → has_feed xs ≡ true
rest_feed l xs m a b len turn old known f r z =
    let s = known_split (a ++ (10 ∷ b)) r.ys known z in
    let y : a ++ (10 ∷ (b ++ s.0)) ≡ r.ys = sym (append_assoc a (10 ∷ b) s.0) ∙ s.2 in
    sym r.feed ∙ sym (ap has_feed y) ∙ feed_append a (10 ∷ (b ++ s.0)) f ∙ feed_first (b ++ s.0)

-- no byte is to come
last_none : (l xs m : List ℕ) (len turn : ℕ) (old known : Option (List ℕ)) (r : Rest l xs m len turn old) → r.ys ≡ [] → known ≡ Some r.ys
    → length xs < 2 ^ 64 - 1 → Last l xs m len known
unfolding filled after_line has_feed
last_none l xs m len turn old known r e k h = record {
  rest = k ∙ ap Some e;
  line = sym (ap (filled (line_at len m)) e) ∙ r.line;
  after = sym r.after ∙ ap after_line e;
  feed = sym r.feed ∙ ap has_feed e;
  all =
      let a = r.all in
      let b : length r.ys ≡ 0 = ap length e in
      omega arith;
}

drop_take : (n m : ℕ) (l : List ℕ) → drop n (take m l) ≡ take (m - n) (drop n l)
drop_take n m l = ⊎_elim
    (λ (h : n < m). let e : m ≡ n + (m - n) = omega arith in ap (λ (k : ℕ). drop n (take k l)) e ∙ drop-take n (m - n) l)
    (λ (h : m ≤ n). let e : m - n ≡ 0 = omega arith in rw e (drop_of_length-le (take m l) (omega (arith, length-take m l))))
    (cases_lt n m)

-- what is left behind a place further on
pub left_drop : (bytes : List ℕ) (start end n : ℕ) → take (end - (start + n)) (drop (start + n) bytes)
    ≡ drop n (take (end - start) (drop start bytes))
left_drop bytes start end n =
    let e : end - (start + n) ≡ end - start - n = omega arith in
    rw (e, ← drop-drop n start bytes) (sym (drop_take n (end - start) (drop start bytes)))

pub none_left : (bytes : List ℕ) (end : ℕ) → take (end - end) (drop end bytes) ≡ []
none_left bytes end =
    let e : end - end ≡ 0 = omega arith in
    rw e

module _ {R : Type 0} {remaining : R → Option (List ℕ)} where
  -- none read yet
  pub coming_start : (o : Lines R) (l : List ℕ) → Coming remaining o o l l 0 0
  coming_start o l = record {
    room = refl;
    first = λ _. (refl, refl, refl, refl);
    coming = λ _ xs e. record {
      ys = xs;
      there = e;
      line = ap (λ (m : Line). filled m xs) (empty_at l);
      after = refl;
      feed = refl;
      all = omega arith;
      turns = omega arith;
    };
  }

  pub coming_turn : (o s p q : Lines R) (l m n : List ℕ) (len turn k : ℕ) → Coming remaining o s l m len turn → Refills remaining s p
      → length m < 2 ^ 64 - 1 → 0 < length (left_of p) → position (λ b. eqb b 10) (left_of p) ≡ None
      → k ≡ min (len + length (left_of p)) (2 ^ 64 - 1) → n ≡ written m len (left_of p)
      → left_of q ≡ [] → q.from ≡ p.from → q.failed ≡ p.failed → Coming remaining o q l n k (turn + 1)
  coming_turn o s p q l m n len turn k c r h g f e w d u v =
      let none : has_feed (left_of p) ≡ false = feed_none (left_of p) f in
      record {
        room = rw w (written_length m (left_of p) len) ∙ c.room;
        first = λ (t : has_feed (left_of o) ≡ true).
            let same : s ≡ o = (c.first t).0 in
            let there : 0 < length (left_of s) = rw same (feed_there (left_of o) t) in
            let end : p ≡ o = r.still there ∙ same in
            let feed : has_feed (left_of p) ≡ true = rw end t in
            absurd (no_both (has_feed (left_of p)) feed none);
        coming = λ (i : IsNone q.failed) (xs : List ℕ) (x : to_come remaining o ≡ Some xs).
            let j : IsNone p.failed = rw v at i in
            let b = c.coming (r.kept j) xs x in
            rw (d, known_none (remaining q.from), u) (rest_turn l xs m (left_of p) n len turn k _ (remaining p.from) h none g e w b
            (r.same j b.ys b.there));
      }

  pub reads_found : (o s p : Lines R) (l m r z : List ℕ) (len turn k n : ℕ) (f : Result ℕ TooLong) (xs : List ℕ) → Coming remaining o s l m len turn
      → Refills remaining s p → length m < 2 ^ 64 - 1 → position (λ b. eqb b 10) (left_of p) ≡ Some n
      → k ≡ min (len + length (take n (left_of p))) (2 ^ 64 - 1) → r ≡ written m len (take n (left_of p)) → z ≡ drop (n + 1) (left_of p)
      → MatchResult f (λ x. (x ≡ k) × (k ≤ length r)) (λ _. length r < k)
      → to_come remaining o ≡ Some xs → IsNone p.failed → Reads (empty_line l) xs (Some f) r (prepend_known z (remaining p.from))
  reads_found o s p l m r z len turn k n f xs c d h e w v u fit x i =
      let at = feed_at (left_of p) n e in
      let b = c.coming (d.kept i) xs x in
      let y : prepend_known (take n (left_of p) ++ (10 ∷ drop (n + 1) (left_of p))) (remaining p.from) ≡ Some b.ys =
      rw at.1 at (d.same i b.ys b.there) in
      let a = rest_found l xs m (take n (left_of p)) (drop (n + 1) (left_of p)) r len turn k _ (remaining p.from) h at.0 w v b y in
      record {
        line = fitted f r k fit ∙ a.line;
        rest = rw u a.rest;
        ended = sym (ne_eqb (length xs) 0 (λ (y : length xs ≡ 0). let w = a.some in omega arith));
      }

  pub ends_found : (o s p q : Lines R) (l m : List ℕ) (x : Line) (len turn n : ℕ) → Coming remaining o s l m len turn → Refills remaining s p
      → position (λ b. eqb b 10) (left_of p) ≡ Some n → q.failed ≡ p.failed → Ends remaining o x false q
  ends_found o s p q l m x len turn n c d e v = record {
    there = λ _. refl;
    none = λ (t : false ≡ true). cc;
    known = λ (xs : List ℕ) (y : to_come remaining o ≡ Some xs) (_ : length xs < 2 ^ 64 - 1) (i : IsNone q.failed).
        let j : IsNone p.failed = rw v at i in
        let at = feed_at (left_of p) n e in
        let b = c.coming (d.kept j) xs y in
        let z : prepend_known (take n (left_of p) ++ (10 ∷ drop (n + 1) (left_of p))) (remaining p.from) ≡ Some b.ys =
        rw at.1 at (d.same j b.ys b.there) in
        rw (rest_feed l xs m (take n (left_of p)) (drop (n + 1) (left_of p)) len turn _ (remaining p.from) at.0 b z) refl;
  }

  pub ahead_found : (o s p q : Lines R) (l m r : List ℕ) (len turn k n : ℕ) (f : Result ℕ TooLong) → Coming remaining o s l m len turn
      → Refills remaining s p → length m < 2 ^ 64 - 1 → position (λ b. eqb b 10) (left_of p) ≡ Some n
      → k ≡ min (len + length (take n (left_of p))) (2 ^ 64 - 1) → r ≡ written m len (take n (left_of p))
      → left_of q ≡ drop (n + 1) (left_of p) → q.end ≡ p.end → q.bytes ≡ p.bytes → q.from ≡ p.from → q.failed ≡ p.failed
      → MatchResult f (λ x. (x ≡ k) × (k ≤ length r)) (λ _. length r < k)
      → has_feed (left_of o) ≡ true → Ahead o l (Some f) q r
  ahead_found o s p q l m r len turn k n f c d h e w v u end bytes from failed fit t =
      let first = c.first t in
      let there : 0 < length (left_of s) = rw first.0 (feed_there (left_of o) t) in
      let same : p ≡ o = d.still there ∙ first.0 in
      let a = take n (left_of p) in
      let at = feed_at (left_of p) n e in
      let small : length r < 2 ^ 64 - 1 = rw (v, written_length m a len) h in
      let one : line_at k r ≡ filled (line_at len m) a = line_most r k (len + length a) small w ∙ rw v (sym (filled_none a m len at.0)) in
      let two : line_at len m ≡ empty_line l = rw (first.2, first.1) (empty_at l) in
      let whole : filled (empty_line l) (left_of p) ≡ filled (empty_line l) a =
      ap (filled (empty_line l)) at.1 ∙ filled_append a (10 ∷ drop (n + 1) (left_of p)) (empty_line l) at.0
      ∙ filled_feed (filled (empty_line l) a) (drop (n + 1) (left_of p)) in
      let behind : after_line (left_of p) ≡ drop (n + 1) (left_of p) =
      ap after_line at.1 ∙ after_append a (10 ∷ drop (n + 1) (left_of p)) at.0 ∙ after_feed (drop (n + 1) (left_of p)) in
      record {
        there = refl;
        line = fitted f r k fit ∙ one ∙ ap (λ (x : Line). filled x a) two ∙ sym whole ∙ ap (λ (x : Lines R). filled (empty_line l) (left_of x)) same;
        left = u ∙ sym behind ∙ ap (λ (x : Lines R). after_line (left_of x)) same;
        end = end ∙ ap (λ (x : Lines R). x.end) same;
        bytes = bytes ∙ ap (λ (x : Lines R). x.bytes) same;
        from = from ∙ ap (λ (x : Lines R). x.from) same;
        failed = failed ∙ ap (λ (x : Lines R). x.failed) same;
      }

  -- ---- the end

  -- none is left after a read
  pub ended_empty : (o s p : Lines R) (l m : List ℕ) (len turn : ℕ) → Coming remaining o s l m len turn → Refills remaining s p
      → length (left_of p) ≡ 0 → Ended remaining o p l m len
  ended_empty o s p l m len turn c d e = record {
    none = λ (t : has_feed (left_of o) ≡ true).
        let first = c.first t in
        let there : 0 < length (left_of s) = rw first.0 (feed_there (left_of o) t) in
        let same : p ≡ s = d.still there in
        let f : 0 < length (left_of p) = rw same there in
        omega arith;
    last = λ (i : IsNone p.failed) (xs : List ℕ) (x : to_come remaining o ≡ Some xs) (h : length xs < 2 ^ 64 - 1).
        let b = c.coming (d.kept i) xs x in
        last_none l xs m len turn _ _ b (d.done i e b.ys b.there) (d.same i b.ys b.there) h;
  }

  -- as many turns as there can be
  pub ended_turns : (o s : Lines R) (l m : List ℕ) (len turn : ℕ) → Coming remaining o s l m len turn → 2 ^ 64 - 1 ≤ turn
      → Ended remaining o s l m len
  ended_turns o s l m len turn c e = record {
    none = λ (t : has_feed (left_of o) ≡ true). let z : turn ≡ 0 = (c.first t).3 in omega arith;
    last = λ (i : IsNone s.failed) (xs : List ℕ) (x : to_come remaining o ≡ Some xs) (h : length xs < 2 ^ 64 - 1).
        let b = c.coming i xs x in
        let t = b.turns in
        absurd (omega arith);
  }

  pub reads_last : (o p : Lines R) (l m : List ℕ) (len : ℕ) (f : Option (Result ℕ TooLong)) (xs : List ℕ) → Ended remaining o p l m len
      → MatchOption f (len ≡ 0) (λ r. (0 < len) × MatchResult r (λ n. (n ≡ len) × (len ≤ length m)) (λ _. length m < len))
      → to_come remaining o ≡ Some xs → length xs < 2 ^ 64 - 1 → IsNone p.failed → Reads (empty_line l) xs f m (to_come remaining p)
  reads_last o p l m len None xs e z x h i =
      let a = e.last i xs x h in
      let all = a.all in
      record {
        line = last_at None m len z ∙ a.line;
        rest = a.rest ∙ ap Some (sym a.after);
        ended = sym (eq-eqb (length xs) 0 (omega arith));
      }
  reads_last o p l m len (Some f) xs e z x h i =
      let a = e.last i xs x h in
      let all = a.all in
      let some : 0 < len = z.0 in
      record {
        line = last_at (Some f) m len z ∙ a.line;
        rest = a.rest ∙ ap Some (sym a.after);
        ended = sym (ne_eqb (length xs) 0 (λ (y : length xs ≡ 0). omega arith));
      }

  pub ends_last : (o p : Lines R) (l m : List ℕ) (len n : ℕ) (f : Option (Result ℕ TooLong)) → Ended remaining o p l m len
      → MatchOption f (len ≡ 0) (λ r. (0 < len) × MatchResult r (λ n. (n ≡ len) × (len ≤ length m)) (λ _. length m < len))
      → n ≡ min len (length m) → Ends remaining o (line_of f m) (eqb n 0) p
  ends_last o p l m len n f e z u = rw (last_at f m len z, u) (record {
    there = λ (t : has_feed (left_of o) ≡ true). absurd (e.none t);
    none = λ (t : eqb (min len (length m)) 0 ≡ true). eqb-true (min len (length m)) 0 t;
    known = λ (xs : List ℕ) (x : to_come remaining o ≡ Some xs) (h : length xs < 2 ^ 64 - 1) (i : IsNone p.failed).
        rw (e.last i xs x h).feed refl;
  })
