-- Laws of the cut: both parts fit, none is found only where there is none, and the code's walk by running sums gives it. Assumes nothing.
use Rattle.std.specs.Prelude.{Ok, Err, ◌≡◌, ◌↔◌, cond, ◌||◌, not, take, drop, leb}
use Rattle.std.proofs.Math.Path.{refl, sym, ap, ap₂}
use Rattle.std.proofs.Common.{◌∙◌, true≢false, zero-add, add_assoc, le_refl, le_trans, add-one, length-take, length-drop, take-append-drop, take-take}
use mathlib.Core.List.{List, [], ◌∷◌, ◌++◌}
use Rattle.std.proofs.Math.Bool.{Bool, true, false, ◌&&◌}
use Rattle.std.proofs.lemmas.Bool.{false≢true}
use Prim.Native.Nat.{ℕ, zero, suc, ◌+◌, ◌-◌, ◌*◌, ◌/◌, ◌^◌, ◌≤◌, ◌<◌}
use native.Mathlib.Omega.{arith}
use Rattle.std.proofs.Math.ListN.{length}
use Rattle.std.proofs.Math.Dec.{ltb}
use borrow.Author.Tests.{leb-true, leb-false, lt-ltb, le-ltb, ltb-true, ltb-false, not-true, not-false}
use Rattle.node.specs.laws.base.Tests.{and_split, and_left}
use Rattle.node.specs.Result.{Result, ok, refused, ◌>>◌, check}
use Rattle.node.specs.Refusals as refusal
use Rattle.node.specs.laws.base.Results.{no_answer}
use Rattle.node.specs.Entry.{Entry}
use Rattle.node.specs.Records.{record_length, records_length, entries_of}
use Rattle.node.specs.Fit.{greater, room_of, fits_sums, fits}
use Rattle.node.specs.laws.slot.Records.{length_entries, records_less, record_in, entries_front, records_size}
use Rattle.node.specs.laws.fit.Fit.{room_append, fits_is, fits_take, fits_drop, count_most, lengths_none, lengths_next, lengths_room, lengths_in}
use Rattle.node.specs.Cut.{entry_size, size, left_part, kept_within, shorten, lengthen, cut_place, cut, cut_means}
use Rattle.node.specs.internal.CutSteps.{left_of, further_sums, parts_fit}
use Rattle.node.specs.internal.SlotSteps.{lengths_of, longer_of}
use Rattle.node.specs.declared.info.BTreeInfo.{BTreeInfo}
use Rattle.node.specs.laws.slot.Slot.{at_start}
use Rattle.node.specs.declared.fit.Lengths.{Lengths}
use Rattle.node.specs.declared.cut.Left.{Left}
use Rattle.node.specs.declared.refusal.Refusal.TheVariants as is

-- ---- sizes of parts

pub size_append : (a b : List Entry) → size (a ++ b) ≡ size a + size b
unfolding size
size_append [] b = sym (zero-add (size b))
size_append (e ∷ a) b = rw (size_append a b, add_assoc)

pub size_take : (i j : ℕ) (es : List Entry) → i ≤ j → size (take i es) ≤ size (take j es)
size_take i j es h =
    let e : take i (take j es) ++ drop i (take j es) ≡ take j es = take-append-drop i (take j es) in
    let f : size (take i (take j es)) ≡ size (take i es) = ap size (take-take i j es h) in
    omega (arith, size_append (take i (take j es)) (drop i (take j es)), ap size e)

-- the left part is at most the bound, and is the longest such
pick_left : (b : Bool) (h k : ℕ) (e : Entry) (es : List Entry) → leb (entry_size e) h ≡ b → size (take k es) ≤ h - entry_size e
    → size (take (cond b (suc k) 0) (e ∷ es)) ≤ h
unfolding size
pick_left true h k e es p q = omega (arith, leb-true (entry_size e) h p)
pick_left false h k e es p q = omega arith

left_within : (h : ℕ) (es : List Entry) → size (take (left_part h es) es) ≤ h
unfolding left_part size
left_within h [] = omega arith
left_within h (e ∷ es) = pick_left (leb (entry_size e) h) h (left_part (h - entry_size e) es) e es refl (left_within (h - entry_size e) es)

pick_more : (b : Bool) (h k : ℕ) (e : Entry) (es : List Entry) → leb (entry_size e) h ≡ b
    → (k < length es → h - entry_size e < size (take (k + 1) es))
    → cond b (suc k) 0 < suc (length es) → h < size (take (cond b (suc k) 0 + 1) (e ∷ es))
unfolding size
pick_more true h k e es p q r = rw add-one (omega (arith, rw add-one at (q (omega arith)), leb-true (entry_size e) h p))
pick_more false h k e es p q r = omega (arith, leb-false (entry_size e) h p)

left_longest : (h : ℕ) (es : List Entry) → left_part h es < length es → h < size (take (left_part h es + 1) es)
unfolding left_part
left_longest h [] r = omega arith
left_longest h (e ∷ es) r = pick_more (leb (entry_size e) h) h (left_part (h - entry_size e) es) e es refl (left_longest (h - entry_size e) es) r

-- ---- kept within 1 and n − 1

-- k is c kept within 1 and n − 1
record Kept (n c k : ℕ) : Type 0 where
  least : 1 ≤ k
  most : k ≤ n - 1
  part : 1 < k → k ≤ c
  whole : k < n - 1 → c ≤ k

record Below (n c a : ℕ) : Type 0 where
  most : a ≤ n - 1
  part : a ≤ c
  whole : a < n - 1 → c ≤ a

pick_below : (b : Bool) (n c : ℕ) → leb c (n - 1) ≡ b → Below n c (cond b c (n - 1))
pick_below true n c e = record { most = leb-true c (n - 1) e; part = le_refl c; whole = λ g. le_refl c }
pick_below false n c e = let k = leb-false c (n - 1) e in record { most = le_refl (n - 1); part = omega arith; whole = λ g. omega arith }

pick_kept : (b : Bool) (n c a : ℕ) → leb 1 a ≡ b → 1 < n → Below n c a → Kept n c (cond b a 1)
pick_kept true n c a e h r = record { least = leb-true 1 a e; most = r.most; part = λ g. r.part; whole = r.whole }
pick_kept false n c a e h r =
    let k = leb-false 1 a e in
    record { least = omega arith; most = omega arith; part = λ g. omega arith; whole = λ g. omega (arith, r.whole (omega arith)) }

kept : (n c : ℕ) → 1 < n → Kept n c (kept_within n c)
unfolding kept_within greater
kept n c h =
    let a : ℕ = cond (leb c (n - 1)) c (n - 1) in
    pick_kept (leb 1 a) n c a refl h (pick_below (leb c (n - 1)) n c refl)

-- ---- the rule's two walks, of any test

-- s is c shortened until the left part passes
record Short (fit : List Entry → Bool) (es : List Entry) (c s : ℕ) : Type 0 where
  least : 1 ≤ s
  most : s ≤ c
  passes : 1 < s → fit (take s es) ≡ true
  stops : s < c → fit (take (s + 1) es) ≡ false

pick_short : (fit : List Entry → Bool) (es : List Entry) (b : Bool) (c s : ℕ) → fit (take (suc c) es) ≡ b → 1 ≤ c → Short fit es c s
    → Short fit es (suc c) (cond b (suc c) s)
pick_short fit es true c s e h r = record { least = omega arith; most = le_refl (suc c); passes = λ g. e; stops = λ g. absurd (omega arith) }
pick_short fit es false c s e h r =
    record { least = r.least; most = omega (arith, r.most); passes = r.passes; stops = λ g. next (leb c s) refl g }
  where
    next : (b : Bool) → leb c s ≡ b → s < suc c → fit (take (s + 1) es) ≡ false
    next true p g =
        let q = leb-true c s p in
        let k : s + 1 ≡ suc c = omega (arith, r.most) in
        ap (λ (i : ℕ). fit (take i es)) k ∙ e
    next false p g = r.stops (leb-false c s p)

short : (fit : List Entry → Bool) (es : List Entry) (c : ℕ) → 1 ≤ c → Short fit es c (shorten fit es c)
unfolding shorten
short fit es zero h = absurd (omega arith)
short fit es (suc zero) h = record { least = le_refl 1; most = le_refl 1; passes = λ g. absurd (omega arith); stops = λ g. absurd (omega arith) }
short fit es (suc (suc c)) h = pick_short fit es (fit (take (suc (suc c)) es)) (suc c) (shorten fit es (suc c)) refl (omega arith)
    (short fit es (suc c) (omega arith))

-- d is c lengthened, at most to m, while the right part fails and one more passes left
record Long (fit : List Entry → Bool) (es : List Entry) (c m d : ℕ) : Type 0 where
  least : c ≤ d
  most : d ≤ m
  passes : c < d → fit (take d es) ≡ true
  fails : c < d → fit (drop (d - 1) es) ≡ false
  stops : d < m → fit (take (d + 1) es) ≡ true → fit (drop d es) ≡ true

-- what the test of a turn says
pick_turn : (a b : Bool) → (not a && b) ≡ true → (a ≡ false) × (b ≡ true)
pick_turn a b e = let (p, q) = and_split (not a) b e in (not-true a p, q)

pick_stop : (a b : Bool) → (not a && b) ≡ false → b ≡ true → a ≡ true
pick_stop true b e f = refl
pick_stop false b e f = absurd (true≢false (sym f ∙ e))

pick_long : (fit : List Entry → Bool) (es : List Entry) (b : Bool) (c m d : ℕ) → (not (fit (drop c es)) && fit (take (suc c) es)) ≡ b → c < m
    → Long fit es (suc c) m d → Long fit es c m (cond b d c)
pick_long fit es true c m d e h r =
    record {
      least = omega (arith, r.least);
      most = r.most;
      passes = λ g. pass (leb d (suc c)) refl;
      fails = λ g. fail (leb d (suc c)) refl;
      stops = r.stops;
    }
  where
    t : (fit (drop c es) ≡ false) × (fit (take (suc c) es) ≡ true)
    t = pick_turn (fit (drop c es)) (fit (take (suc c) es)) e

    pass : (b : Bool) → leb d (suc c) ≡ b → fit (take d es) ≡ true
    pass true p = let q : d ≡ suc c = omega (arith, leb-true d (suc c) p, r.least) in ap (λ (i : ℕ). fit (take i es)) q ∙ t.1
    pass false p = r.passes (leb-false d (suc c) p)

    fail : (b : Bool) → leb d (suc c) ≡ b → fit (drop (d - 1) es) ≡ false
    fail true p = let q : d - 1 ≡ c = omega (arith, leb-true d (suc c) p, r.least) in ap (λ (i : ℕ). fit (drop i es)) q ∙ t.0
    fail false p = r.fails (leb-false d (suc c) p)
pick_long fit es false c m d e h r =
    record {
      least = le_refl c;
      most = omega arith;
      passes = λ g. absurd (omega arith);
      fails = λ g. absurd (omega arith);
      stops = λ g f. pick_stop (fit (drop c es)) (fit (take (suc c) es)) e (rw add-one at f);
    }

long : (fit : List Entry → Bool) (es : List Entry) (k c : ℕ) → Long fit es c (c + k) (lengthen fit es k c)
unfolding lengthen
long fit es zero c =
    record {
      least = le_refl c;
      most = omega arith;
      passes = λ g. absurd (omega arith);
      fails = λ g. absurd (omega arith);
      stops = λ g f. absurd
          (omega arith);
    }
long fit es (suc k) c =
    let e : suc c + k ≡ c + suc k = omega arith in
    pick_long fit es (not (fit (drop c es)) && fit (take (suc c) es)) c (c + suc k) (lengthen fit es k (suc c)) refl (omega arith)
    (rw e at (long fit es k (suc c)))

-- ---- the place of the cut

-- what the rule says of its place d, in a node of at least two entries
pub record Placed (fit : List Entry → Bool) (es : List Entry) (d : ℕ) : Type 0 where
  pub least : 1 ≤ d
  pub most : d ≤ length es - 1
  -- the left part passes, unless it is one entry
  pub passes : 1 < d → fit (take d es) ≡ true
  -- it is more than half only where the right part fails with one entry more
  pub stays : 1 < d → fit (drop (d - 1) es) ≡ true → size (take d es) ≤ size es / 2
  -- it is as long as it may be
  pub stops : d < length es - 1 → fit (take (d + 1) es) ≡ true → (fit (drop d es) ≡ true) × (size es / 2 < size (take (d + 1) es))

-- a test that each shorter left part passes, and each shorter right part
abbrev pub Falls : (List Entry → Bool) → List Entry → Type 0
Falls fit es = (i j : ℕ) → i ≤ j → fit (take j es) ≡ true → fit (take i es) ≡ true

abbrev pub Grows : (List Entry → Bool) → List Entry → Type 0
Grows fit es = (i j : ℕ) → i ≤ j → fit (drop i es) ≡ true → fit (drop j es) ≡ true

module _ (fit : List Entry → Bool) (es : List Entry) (falls : Falls fit es) where
  place_of : (p k s d : ℕ) → 1 < length es → size (take p es) ≤ size es / 2 → (p < length es → size es / 2 < size (take (p + 1) es))
      → Kept (length es) p k → Short fit es k s → Long fit es s (length es - 1) d → Placed fit es d
  place_of p k s d h u v a b c =
      record {
        least = omega (arith, b.least, c.least);
        most = c.most;
        passes = λ g. pass (leb d s) refl g;
        stays = λ g f. stay (leb d s) refl g f;
        stops = λ g f. (c.stops g f, over (leb k s) refl g f);
      }
    where
      pass : (x : Bool) → leb d s ≡ x → 1 < d → fit (take d es) ≡ true
      pass true e g = let q : d ≡ s = omega (arith, leb-true d s e, c.least) in ap (λ (i : ℕ). fit (take i es)) q ∙ b.passes (omega arith)
      pass false e g = c.passes (leb-false d s e)

      stay : (x : Bool) → leb d s ≡ x → 1 < d → fit (drop (d - 1) es) ≡ true → size (take d es) ≤ size es / 2
      stay true e g f =
          let q : d ≤ k = omega (arith, leb-true d s e, b.most) in
          let r : 1 < k = omega arith in
          le_trans (size_take d p es (le_trans q (a.part r))) u
      stay false e g f = absurd (true≢false (sym f ∙ c.fails (leb-false d s e)))

      over : (x : Bool) → leb k s ≡ x → d < length es - 1 → fit (take (d + 1) es) ≡ true → size es / 2 < size (take (d + 1) es)
      over true e g f =
          let q : k ≤ d = omega (arith, leb-true k s e, c.least) in
          let r : p ≤ k = a.whole (omega arith) in
          let w : size es / 2 < size (take (p + 1) es) = v (omega arith) in
          omega (arith, size_take (p + 1) (d + 1) es (omega arith))
      over false e g f =
          let q : s + 1 ≤ d + 1 = omega (arith, c.least) in
          absurd (true≢false (sym (falls (s + 1) (d + 1) q f) ∙ b.stops (leb-false k s e)))

  pub placed : 1 < length es → Placed fit es (cut_place fit es)
  unfolding cut_place
  placed h =
      let n : ℕ = length es in
      let p : ℕ = left_part (size es / 2) es in
      let a : Kept n p (kept_within n p) = kept n p h in
      let b : Short fit es (kept_within n p) (shorten fit es (kept_within n p)) = short fit es (kept_within n p) a.least in
      let s : ℕ = shorten fit es (kept_within n p) in
      let e : s + (n - 1 - s) ≡ n - 1 = omega (arith, a.most, b.most) in
      place_of p (kept_within n p) s (lengthen fit es (n - 1 - s) s) h (left_within (size es / 2) es) (left_longest (size es / 2) es) a b
      (rw e at (long fit es (n - 1 - s) s))

-- whether the left part of c entries takes one more
unfoldable pub goes_on : (List Entry → Bool) → List Entry → ℕ → Bool
goes_on fit es c = fit (take (c + 1) es) && (leb (size (take (c + 1) es)) (size es / 2) || not (fit (drop c es)))

on_half : (a b d : Bool) → (a && (b || not d)) ≡ true → d ≡ true → b ≡ true
on_half true true d e f = refl
on_half true false true e f = absurd (false≢true e)
on_half true false false e f = absurd (false≢true f)
on_half false b d e f = absurd (false≢true e)

off_half : (a b d : Bool) → (a && (b || not d)) ≡ false → a ≡ true → b ≡ false
off_half true true d e f = absurd (true≢false e)
off_half true false d e f = refl
off_half false b d e f = absurd (false≢true f)

off_right : (a b d : Bool) → (a && (b || not d)) ≡ false → a ≡ true → d ≡ true
off_right true true d e f = absurd (true≢false e)
off_right true false true e f = refl
off_right true false false e f = absurd (true≢false e)
off_right false b d e f = absurd (false≢true f)

place_on : (fit : List Entry → Bool) (es : List Entry) (c d : ℕ) → Placed fit es d → c < length es - 1 → c ≤ d → goes_on fit es c ≡ true → c + 1 ≤ d
unfolding goes_on
place_on fit es c d p h k on = pick (leb d c) refl
  where
    pick : (b : Bool) → leb d c ≡ b → c + 1 ≤ d
    pick false e = omega (arith, leb-false d c e)
    pick true e =
        let q : d ≡ c = omega (arith, leb-true d c e) in
        let o : goes_on fit es d ≡ true = ap (goes_on fit es) q ∙ on in
        let a : Bool = fit (take (d + 1) es) in
        let b : Bool = leb (size (take (d + 1) es)) (size es / 2) in
        let s = p.stops (omega arith) (and_left a (b || not (fit (drop d es))) o) in
        let t = leb-true (size (take (d + 1) es)) (size es / 2) (on_half a b (fit (drop d es)) o s.0) in
        absurd (omega (arith, s.1))

place_off : (fit : List Entry → Bool) (es : List Entry) (c d : ℕ) → Falls fit es → Grows fit es → Placed fit es d → 1 ≤ c → c ≤ d
    → goes_on fit es c ≡ false → d ≡ c
unfolding goes_on
place_off fit es c d falls grows p h k off = pick (leb d c) refl
  where
    pick : (b : Bool) → leb d c ≡ b → d ≡ c
    pick true e = omega (arith, leb-true d c e)
    pick false e =
        let q = leb-false d c e in
        let m : 1 < d = omega arith in
        let a : Bool = fit (take (c + 1) es) in
        let b : Bool = leb (size (take (c + 1) es)) (size es / 2) in
        let f : fit (take (c + 1) es) ≡ true = falls (c + 1) d (omega arith) (p.passes m) in
        let u = leb-false (size (take (c + 1) es)) (size es / 2) (off_half a b (fit (drop c es)) off f) in
        let w : fit (drop (d - 1) es) ≡ true = grows c (d - 1) (omega arith) (off_right a b (fit (drop c es)) off f) in
        absurd (omega (arith, p.stays m w, size_take (c + 1) d es (omega arith)))

place_last : (fit : List Entry → Bool) (es : List Entry) (c d : ℕ) → Placed fit es d → length es - 1 ≤ c → c ≤ d → d ≡ c
place_last fit es c d p h k = omega (arith, p.most)

-- ---- what the rule answers

module _ (t : BTreeInfo) (level : ℕ) (es : List Entry) where
  fit_falls : Falls (fits t false level) es
  fit_falls i j h f = fits_take t false level i j es h f

  fit_grows : Grows (fits t false level) es
  fit_grows i j h f = fits_drop t false level i j es h f

  pub cut_placed : 1 < length es → Placed (fits t false level) es (cut_place (fits t false level) es)
  cut_placed h = placed (fits t false level) es fit_falls h

  -- where some cut leaves two fitting parts, the rule's does
  pub place_parts : (c : ℕ) → 1 ≤ c → c ≤ length es - 1 → fits t false level (take c es) ≡ true → fits t false level (drop c es) ≡ true
      → 1 < length es
      → (fits t false level (take (cut_place (fits t false level) es) es) ≡ true)
      × (fits t false level (drop (cut_place (fits t false level) es) es) ≡ true)
  place_parts c h k f g m = pick (leb c d) refl
    where
      d : ℕ
      d = cut_place (fits t false level) es

      p : Placed (fits t false level) es d
      p = cut_placed m

      low : (b : Bool) → leb d 1 ≡ b → c ≤ d → fits t false level (take d es) ≡ true
      low true e q = fit_falls d c (omega (arith, leb-true d 1 e)) f
      low false e q = p.passes (leb-false d 1 e)

      pick : (b : Bool) → leb c d ≡ b → (fits t false level (take d es) ≡ true) × (fits t false level (drop d es) ≡ true)
      pick true e = let q = leb-true c d e in (low (leb d 1) refl q, fit_grows c d q g)
      pick false e =
          let q = leb-false c d e in
          (fit_falls d c (omega arith) f, (p.stops (omega arith) (fit_falls (d + 1) c (omega arith) f)).0)

-- an accepted cut of es into its first c entries and the others
pub record Parted (t : BTreeInfo) (level : ℕ) (es : List Entry) (c : ℕ) : Type 0 where
  pub left_some : 1 ≤ length (take c es)
  pub right_some : 1 ≤ length (drop c es)
  pub left_fits : fits t false level (take c es) ≡ true
  pub right_fits : fits t false level (drop c es) ≡ true
  pub joined : take c es ++ drop c es ≡ es

-- the cut's answer, of its two tests
abbrev answer : Bool → Bool → ℕ → Result ℕ
answer b d x = check refusal.single b >> check refusal.no_cut d >> ok x

after_same : (b d : Bool) (x c : ℕ) → answer b d x ≡ ok c → (b ≡ true) × (d ≡ true) × (x ≡ c)
after_same false d x c e = no_answer refusal.single c e
after_same true true x c e = (refl, refl, cc)
after_same true false x c e = no_answer refusal.no_cut c e

pub cut_parts : (t : BTreeInfo) (level : ℕ) (es : List Entry) (c : ℕ) → cut t level es ≡ ok c → Parted t level es c
unfolding cut
cut_parts t level es c e =
    let d : ℕ = cut_place (fits t false level) es in
    let a = after_same (ltb 1 (length es)) (fits t false level (take d es) && fits t false level (drop d es)) d c e in
    let n : 1 < length es = ltb-true 1 (length es) a.0 in
    let b = and_split (fits t false level (take d es)) (fits t false level (drop d es)) a.1 in
    let p : Placed (fits t false level) es d = cut_placed t level es n in
    let r : Parted t level es d =
    record {
      left_some = rw length-take (omega (arith, p.least));
      right_some = rw length-drop (omega (arith, p.most));
      left_fits = b.0;
      right_fits = b.1;
      joined = take-append-drop d es;
    } in
    rw a.2 at r

other_number : {A : Type 0} (m n : ℕ) → (m ≡ n → ⊥) → ◌≡◌ {A = Result A} (refused m) (refused n) → ⊥
other_number m n f e = let z : m ≡ n = cc in f z

nowhere_not : (b a d : Bool) (x : ℕ) → answer b (a && d) x ≡ refused refusal.no_cut → a ≡ true → d ≡ true → ⊥
nowhere_not false a d x e f g = other_number {A = ℕ} refusal.single refusal.no_cut (λ z. omega arith) e
nowhere_not true true true x e f g = no_answer refusal.no_cut x (sym e)
nowhere_not true true false x e f g = false≢true g
nowhere_not true false d x e f g = false≢true f

nowhere_so : (b a d : Bool) (x : ℕ) → b ≡ true → (a ≡ true → d ≡ true → ⊥) → answer b (a && d) x ≡ refused refusal.no_cut
nowhere_so false a d x e f = absurd (false≢true e)
nowhere_so true true true x e f = absurd (f refl refl)
nowhere_so true true false x e f = refl
nowhere_so true false d x e f = refl

-- 14 is answered exactly where no cut leaves two fitting parts
pub nowhere_iff : (t : BTreeInfo) (level : ℕ) (es : List Entry) → 1 < length es
    → (cut t level es ≡ refused refusal.no_cut)
    ↔ ((c : ℕ) → 1 ≤ c → c ≤ length es - 1 → fits t false level (take c es) ≡ true → fits t false level (drop c es) ≡ true → ⊥)
unfolding cut
nowhere_iff t level es n =
    let d : ℕ = cut_place (fits t false level) es in
    let p : Placed (fits t false level) es d = cut_placed t level es n in
    let a : Bool = fits t false level (take d es) in
    let b : Bool = fits t false level (drop d es) in (
      λ e c h k f g. let q = place_parts t level es c h k f g n in nowhere_not (ltb 1 (length es)) a b d e q.0 q.1,
      λ none. nowhere_so (ltb 1 (length es)) a b d (lt-ltb 1 (length es) n) (none d p.least p.most),
    )

-- 13 is answered exactly for a single entry (or none, which fits)
pub large_iff : (t : BTreeInfo) (level : ℕ) (es : List Entry) → (cut t level es ≡ refused refusal.single) ↔ (length es ≤ 1)
unfolding cut
large_iff t level es =
    let d : ℕ = cut_place (fits t false level) es in (
      λ e. large (ltb 1 (length es)) (fits t false level (take d es) && fits t false level (drop d es)) d refl e,
      λ h. ap (λ (b : Bool). answer b (fits t false level (take d es) && fits t false level (drop d es)) d) (le-ltb 1 (length es) h),
    )
  where
    large : (b a : Bool) (x : ℕ) → ltb 1 (length es) ≡ b → answer b a x ≡ refused refusal.single → length es ≤ 1
    large false a x e f = ltb-false 1 (length es) e
    large true true x e f = no_answer refusal.single x (sym f)
    large true false x e f = absurd (other_number {A = ℕ} refusal.no_cut refusal.single (λ z. omega arith) f)

-- ---- parts of a slot's records

module _ (t : BTreeInfo) (n : ℕ) (l : List ℕ) (h : records_length n l ≤ length l) where
  -- the first c entries and the others, by sums
  pub left_sums : (level c : ℕ) (s : Lengths) → c ≤ n → s ≡ lengths_of t c l → fits_sums t false level c (s.keys + s.values) ≡ fits t false level
      (take c (entries_of n l))
  left_sums level c s k e = fits_is t false level c l s (fits_sums t false level c (s.keys + s.values)) e refl
      ∙ ap (fits t false level) (sym (entries_front c n l k))

  room_sums : (c : ℕ) (s w : Lengths) → c ≤ n → s ≡ lengths_of t c l → w ≡ lengths_of t n l
      → w.keys + w.values ≡ s.keys + s.values + room_of t (drop c (entries_of n l))
  unfolding lengths_of room_of
  room_sums c s w k e f =
      let p : room_of t (entries_of n l) ≡ room_of t (take c (entries_of n l)) + room_of t (drop c (entries_of n l)) =
      ap (room_of t) (sym (take-append-drop c (entries_of n l))) ∙ room_append t (take c (entries_of n l)) (drop c (entries_of n l)) in
      rw (e, f) (p ∙ ap (λ (x : List Entry). room_of t x + room_of t (drop c (entries_of n l))) (entries_front c n l k))

  pub right_sums : (level c : ℕ) (s w : Lengths) → c ≤ n → s ≡ lengths_of t c l → w ≡ lengths_of t n l
      → fits_sums t false level (n - c) (w.keys + w.values - (s.keys + s.values)) ≡ fits t false level (drop c (entries_of n l))
  unfolding fits
  right_sums level c s w k e f =
      let r : w.keys + w.values - (s.keys + s.values) ≡ room_of t (drop c (entries_of n l)) = omega (arith, room_sums c s w k e f) in
      let d : n - c ≡ length (drop c (entries_of n l)) = sym (length-drop c (entries_of n l) ∙ ap (λ (x : ℕ). x - c) (length_entries n l)) in
      ap₂ (fits_sums t false level) d r

  pub sums_below : (c : ℕ) (s w : Lengths) → c ≤ n → s ≡ lengths_of t c l → w ≡ lengths_of t n l → s.keys + s.values ≤ w.keys + w.values
  sums_below c s w k e f = omega (arith, room_sums c s w k e f)

  size_sums : (c : ℕ) (s : Lengths) → c ≤ n → s ≡ lengths_of t c l → s.at + 4 * c ≡ size (take c (entries_of n l))
  unfolding lengths_of
  size_sums c s k e = rw e (records_size c l (le_trans (records_less c n l k) h) ∙ ap size (sym (entries_front c n l k)))

  size_whole : (w : Lengths) → w ≡ lengths_of t n l → w.at + 4 * n ≡ size (entries_of n l)
  unfolding lengths_of
  size_whole w e = rw e (records_size n l h)

  further_is : (level c : ℕ) (w s r : Lengths) → c < n → w ≡ lengths_of t n l → s ≡ lengths_of t c l → r ≡ lengths_of t (c + 1) l
      → further_sums t level n w (record { place = c; lengths = s }) r ≡ goes_on (fits t false level) (entries_of n l) c
  unfolding further_sums goes_on
  further_is level c w s r k e f g =
      let k₁ : c + 1 ≤ n = omega arith in
      let k₂ : c ≤ n = omega arith in
      let z : w.at + 4 * n ≡ size (entries_of n l) = size_whole w e in
      rw (left_sums level (c + 1) r k₁ g, right_sums level c s w k₂ f e, size_sums (c + 1) r k₁ g, z)

-- ---- the walk

pub first_in : (n : ℕ) (l : List ℕ) → 1 < n → records_length n l ≤ length l → 0 + record_length (drop 0 l) ≤ length l
unfolding records_length
first_in n l h k = record_in 0 n l (omega arith) k

pub first_lengths : (t : BTreeInfo) (n : ℕ) (l : List ℕ) (r : Lengths) → r ≡ longer_of t l (record { at = 0; keys = 0; values = 0 }) → 1 < n
    → records_length n l ≤ length l → r ≡ lengths_of t 1 l
first_lengths t n l r e h k = lengths_next t 0 n l (record { at = 0; keys = 0; values = 0 }) r (lengths_none t l) e (omega arith) k

module _ (t : BTreeInfo) (level n : ℕ) (l : List ℕ) where
  slot_placed : 1 < n → Placed (fits t false level) (entries_of n l) (cut_place (fits t false level) (entries_of n l))
  slot_placed h = cut_placed t level (entries_of n l) (rw length_entries h)

  pub place_first : 1 < n → 1 ≤ cut_place (fits t false level) (entries_of n l)
  place_first h = (slot_placed h).least

module _ (t : BTreeInfo) (n : ℕ) (l : List ℕ) (i : ℕ) (s : Lengths) (e : s ≡ lengths_of t i l) (h : i < n - 1)
    (k : records_length n l ≤ length l) where
  pub walk_in : s.at + record_length (drop s.at l) ≤ length l
  walk_in = lengths_in t i n l s e (omega arith) k

  pub walk_next : (r : Lengths) → r ≡ longer_of t l s → r ≡ lengths_of t (i + 1) l
  walk_next r g = lengths_next t i n l s r e g (omega arith) k

  pub walk_keys : length l ≤ 2 ^ 20 → s.keys < 2 ^ 32
  walk_keys m = omega (arith, lengths_room t i n l s e (omega arith) k m)

  pub walk_values : length l ≤ 2 ^ 20 → s.values < 2 ^ 32
  walk_values m = omega (arith, lengths_room t i n l s e (omega arith) k m)

  pub walk_at : (r : Lengths) → r ≡ longer_of t l s → length l ≤ 2 ^ 20 → r.at ≤ 2 ^ 20
  unfolding lengths_of
  walk_at r g m = rw (walk_next r g) (omega (arith, records_less (i + 1) n l (omega arith)))

  pub walk_room : (r : Lengths) → r ≡ longer_of t l s → length l ≤ 2 ^ 20 → r.keys + r.values < 2 ^ 24
  walk_room r g m = lengths_room t (i + 1) n l r (walk_next r g) (omega arith) k m

  walk_on : (level : ℕ) (w r : Lengths) → w ≡ lengths_of t n l → r ≡ longer_of t l s
      → further_sums t level n w (record { place = i; lengths = s }) r ≡ goes_on (fits t false level) (entries_of n l) i
  walk_on level w r f g = further_is t n l k level i w s r (omega arith) f e (walk_next r g)

  pub walk_more : (level : ℕ) (w r : Lengths) (b : Bool) → w ≡ lengths_of t n l → r ≡ longer_of t l s
      → b ≡ further_sums t level n w (record { place = i; lengths = s }) r
      → not b ≡ false → i ≤ cut_place (fits t false level) (entries_of n l) → i + 1 ≤ cut_place (fits t false level) (entries_of n l)
  walk_more level w r b f g x y z =
      place_on (fits t false level) (entries_of n l) i (cut_place (fits t false level) (entries_of n l)) (slot_placed t level n l (omega arith))
      (rw length_entries h) z (sym (walk_on level w r f g) ∙ sym x ∙ not-false b y)

  pub walk_stop : (level : ℕ) (w r : Lengths) (b : Bool) → w ≡ lengths_of t n l → r ≡ longer_of t l s
      → b ≡ further_sums t level n w (record { place = i; lengths = s }) r
      → not b ≡ true → 1 ≤ i → i ≤ cut_place (fits t false level) (entries_of n l) → ◌≡◌ {A = Left} (record { place = i; lengths = s })
      (left_of t level n l)
  unfolding left_of
  walk_stop level w r b f g x y o z =
      let fit : List Entry → Bool = fits t false level in
      let d : ℕ = cut_place fit (entries_of n l) in
      let q : d ≡ i = place_off fit (entries_of n l) i d (fit_falls t level (entries_of n l)) (fit_grows t level (entries_of n l))
      (slot_placed t level n l (omega arith)) o z (sym (walk_on level w r f g) ∙ sym x ∙ not-true b y) in
      rw (q, e)

module _ (t : BTreeInfo) (n : ℕ) (l : List ℕ) where
  pub walk_last : (level i : ℕ) (s : Lengths) → s ≡ lengths_of t i l → 1 < n → n - 1 ≤ i → i ≤ cut_place (fits t false level) (entries_of n l)
      → ◌≡◌ {A = Left} (record { place = i; lengths = s }) (left_of t level n l)
  unfolding left_of
  walk_last level i s e h k z =
      let d : ℕ = cut_place (fits t false level) (entries_of n l) in
      let q : d ≡ i = place_last (fits t false level) (entries_of n l) i d (slot_placed t level n l h) (rw length_entries k) z in
      rw (q, e)

  pub last_below : (i : ℕ) (s w : Lengths) → s ≡ lengths_of t i l → w ≡ lengths_of t n l → i ≤ n - 1 → records_length n l ≤ length l
      → s.keys + s.values ≤ w.keys + w.values
  last_below i s w e f h k = sums_below t n l k i s w (omega arith) e f

  pub whole_at : (w : Lengths) → w ≡ lengths_of t n l → records_length n l ≤ length l → length l ≤ 2 ^ 20 → w.at ≤ 2 ^ 20
  unfolding lengths_of
  whole_at w e h m = rw e (le_trans h m)

  pub whole_room : (w : Lengths) → w ≡ lengths_of t n l → records_length n l ≤ length l → length l ≤ 2 ^ 20 → w.keys + w.values < 2 ^ 24
  whole_room w e h m = lengths_room t n n l w e (le_refl n) h m

pub single_means : (t : BTreeInfo) (level n : ℕ) (l : List ℕ) → n ≤ 1 → cut_means (Err is.Single) ≡ cut t level (entries_of n l)
unfolding cut_means
single_means t level n l h = sym ((large_iff t level (entries_of n l)).1 (rw length_entries h))

module _ (t : BTreeInfo) (level n : ℕ) (l : List ℕ) (s : Left) (e : s ≡ left_of t level n l) where
  pub after_start : s.lengths.at ≡ records_length s.place l
  unfolding left_of lengths_of
  after_start = rw e

  parts_are : (w : Lengths) → w ≡ lengths_of t n l → 1 < n → records_length n l ≤ length l
      → parts_fit t level n w s ≡ (fits t false level (take (cut_place (fits t false level) (entries_of n l)) (entries_of n l)) && fits t false level
      (drop (cut_place (fits t false level) (entries_of n l)) (entries_of n l)))
  unfolding parts_fit left_of
  parts_are w f h k =
      let d : ℕ = cut_place (fits t false level) (entries_of n l) in
      let m : d ≤ n = omega (arith, (slot_placed t level n l h).most, length_entries n l) in
      rw e (ap₂ ◌&&◌ (left_sums t n l k level d (lengths_of t d l) m refl) (right_sums t n l k level d (lengths_of t d l) w m refl f))

  pub nowhere_means : (w : Lengths) (b : Bool) → w ≡ lengths_of t n l → 1 < n → records_length n l ≤ length l → b ≡ parts_fit t level n w s
      → not b ≡ true
      → cut_means (Err is.NoCut) ≡ cut t level (entries_of n l)
  unfolding cut_means cut
  nowhere_means w b f h k g y =
      let q : ltb 1 (length (entries_of n l)) ≡ true = lt-ltb 1 (length (entries_of n l)) (rw length_entries h) in
      rw (q, ← parts_are w f h k, ← g, not-true b y)

  pub after_means : (w : Lengths) (b : Bool) → w ≡ lengths_of t n l → 1 < n → records_length n l ≤ length l → b ≡ parts_fit t level n w s
      → not b ≡ false
      → cut_means (Ok (record { place = s.place; at = s.lengths.at })) ≡ cut t level (entries_of n l)
  unfolding cut_means cut left_of
  after_means w b f h k g y =
      let q : ltb 1 (length (entries_of n l)) ≡ true = lt-ltb 1 (length (entries_of n l)) (rw length_entries h) in
      rw (q, ← parts_are w f h k, ← g, not-false b y) (ap (λ (x : Left). ok x.place) e)

-- ---- what the walk, and the cut, take of these

pub ruleset whole = (count_most, whole_at, whole_room)

pub ruleset walk = (
  at_start,
  count_most,
  first_in,
  first_lengths,
  place_first,
  walk_in,
  walk_keys,
  walk_values,
  walk_next,
  walk_more,
  walk_stop,
  walk_last,
  last_below,
)

pub ruleset cuts = (count_most, single_means, after_start, nowhere_means, after_means)
