-- Laws of reading a block: each way out of the reader's functions, and what a node that was read keeps. Assumes nothing.
use Rattle.std.specs.Prelude.{◌≡◌, List, Bool, ◌&&◌, ◌||◌, length, take, drop}
use Rattle.std.proofs.Math.Path.{sym, ap}
use Rattle.std.proofs.Common.{◌∙◌, add-zero, zero-add}
use Rattle.std.proofs.Math.Bool.{true, false, cond, not}
use Prim.Native.Nat.{ℕ, suc, ◌+◌, ◌-◌, ◌*◌, ◌≤◌, ◌<◌}
use Rattle.std.proofs.Math.Nat.{sub-zero}
use Rattle.std.proofs.Math.Numerals.{add-one}
use native.Mathlib.Omega.{arith}
use Rattle.std.proofs.Math.Dec.{leb, eqb}
use borrow.Author.Tests.{le-leb, lt-leb, ne_eqb, leb-true, eqb-true, eqb-false, not-true, not-false}
use Rattle.seal.specs.Bytes.{window}
use Rattle.seal.specs.laws.WindowLaws.{length_window}
use Rattle.node.specs.laws.base.Tests.{by_test, and_left, and_right, and-true, and-false, or_right}
use Rattle.node.specs.Entry.{value_length}
use Rattle.node.specs.Fit.{data_space}
use Rattle.node.specs.Read.{is_fixed, span_at, is_ghost, span_holds, span_length, spans_hold, spans_length, entries_hold, value_at}
use Rattle.node.specs.internal.ReadSteps.{Laid}
use Rattle.node.specs.declared.read.Node.{Node}
use Rattle.node.specs.declared.read.Span.{Span}
use Rattle.node.specs.Place.{Place}

-- ---- entries of fixed lengths

pub is_fixed_true : (v : Node) → (v.ksize ≡ 0 → ⊥) → is_fixed v ≡ true
unfolding is_fixed
is_fixed_true v h = rw (ne_eqb v.ksize 0 h)

-- ---- one entry

-- a block has room for few entries
few_slots : (f : Bool) (t n k : ℕ) → t + n * cond f 4 8 ≤ k → n * 4 ≤ k
few_slots true t n k h = omega arith
few_slots false t n k h = omega arith

pub few : (v : Node) (size : ℕ) → Laid v size → v.nkeys * 4 ≤ size
few v size l = omega (arith, few_slots (is_fixed v) v.toc v.nkeys v.keys l.contents, l.keys_end, l.vals_end)

module _ (v : Node) (size : ℕ) (s : Span) where
  -- what an entry that holds keeps
  pub held_key : span_holds v size s ≡ true → s.key + s.klen ≤ size
  unfolding span_holds
  held_key h = leb-true _ _ (and_left _ _ (and_left _ _ h))

  held_value : span_holds v size s ≡ true → (s.voff ≡ 65535 → ⊥) → (leb s.voff v.vals && leb (v.vals - s.voff + s.vlen) size) ≡ true
  unfolding span_holds is_ghost
  held_value h n =
      or_right (is_ghost s) (leb s.voff v.vals && leb (v.vals - s.voff + s.vlen) size) (ne_eqb s.voff 65535 n)
      (and_right (leb (s.key + s.klen) size) (is_ghost s || leb s.voff v.vals && leb (v.vals - s.voff + s.vlen) size)
      (and_left _ (eqb v.level 0 || not (is_ghost s) && eqb s.vlen 8) h))

  pub held_start : span_holds v size s ≡ true → (s.voff ≡ 65535 → ⊥) → s.voff ≤ v.vals
  held_start h n = leb-true _ _ (and_left (leb s.voff v.vals) (leb (v.vals - s.voff + s.vlen) size) (held_value h n))

  pub held_end : span_holds v size s ≡ true → (s.voff ≡ 65535 → ⊥) → v.vals - s.voff + s.vlen ≤ size
  held_end h n = leb-true _ _ (and_right (leb s.voff v.vals) (leb (v.vals - s.voff + s.vlen) size) (held_value h n))

  held_child_lem : span_holds v size s ≡ true → (v.level ≡ 0 → ⊥) → (not (is_ghost s) && eqb s.vlen 8) ≡ true
  unfolding span_holds
  held_child_lem h n =
      or_right (eqb v.level 0) (not (is_ghost s) && eqb s.vlen 8) (ne_eqb v.level 0 n)
      (and_right (leb (s.key + s.klen) size && (is_ghost s || leb s.voff v.vals && leb (v.vals - s.voff + s.vlen) size))
      (eqb v.level 0 || not (is_ghost s) && eqb s.vlen 8) h)

  pub held_no_ghost : span_holds v size s ≡ true → (v.level ≡ 0 → ⊥) → s.voff ≡ 65535 → ⊥
  unfolding is_ghost
  held_no_ghost h n = eqb-false s.voff 65535 (not-true _ (and_left _ _ (held_child_lem h n)))

  pub held_eight : span_holds v size s ≡ true → (v.level ≡ 0 → ⊥) → s.vlen ≡ 8
  held_eight h n = eqb-true s.vlen 8 (and_right (not (is_ghost s)) (eqb s.vlen 8) (held_child_lem h n))

-- how long its key and its value are together
pub held_length : (v : Node) (size : ℕ) (s : Span) (h : Bool) → h ≡ span_holds v size s → not h ≡ false → size ≤ 65536 → span_length s ≤ 131072
unfolding span_length is_ghost
held_length v size s h e n small =
    let holds : span_holds v size s ≡ true = sym e ∙ not-false h n in
    let k : s.klen ≤ 65536 = omega (arith, held_key v size s holds) in
    by_test (is_ghost s)
    (λ g. rw g (omega (arith, k)))
    (λ g. rw g (omega (arith, k, held_end v size s holds (eqb-false s.voff 65535 g))))

-- the bytes of an entry's key, and of a leaf's value
pub key_counts : (v : Node) (b : List ℕ) (s : Span) → span_holds v (length b) s ≡ true → length (window s.key s.klen b) ≡ s.klen
key_counts v b s h = length_window s.key s.klen b (held_key v (length b) s h)

pub leaf_counts : (v : Node) (b : List ℕ) (s : Span) → span_holds v (length b) s ≡ true → is_ghost s ≡ false
    → length (window (v.vals - s.voff) s.vlen b) ≡ s.vlen
unfolding is_ghost
leaf_counts v b s h g = length_window (v.vals - s.voff) s.vlen b (held_end v (length b) s h (eqb-false s.voff 65535 g))

-- a value's length, as its node counts it
pub value_counts : (v : Node) (b : List ℕ) (s : Span) → span_holds v (length b) s ≡ true → value_length (value_at v b s) ≡ cond (is_ghost s) 0 s.vlen
unfolding value_at value_length is_ghost
value_counts v b s h =
    by_test (is_ghost s)
    (λ g. rw g)
    (λ g.
    by_test (eqb v.level 0)
    (λ z. rw (g, z) (leaf_counts v b s h g))
    (λ z. rw (g, z) (sym (held_eight v (length b) s h (eqb-false v.level 0 z)))))

-- a part by its start and its end
pub part_window : (l : List ℕ) (a n : ℕ) → take (a + n - a) (drop a l) ≡ window a n l
unfolding window
part_window l a n = let e : a + n - a ≡ n = omega arith in rw e

-- ---- 8

-- what is left of 8 at entry i: m entries, after some of this sum
unfoldable pub rest_holds : Node → List ℕ → ℕ → ℕ → ℕ → ℕ → Bool
rest_holds v b i m sum space = spans_hold v b i m && leb (sum + spans_length v b i m) space

entries_none : (p : Place) (v : Node) (b : List ℕ) → v.nkeys ≡ 0 → (p.root && eqb v.level 0) ≡ entries_hold p v b
unfolding entries_hold spans_hold spans_length
entries_none p v b e =
    let z : 0 ≤ data_space (length b) p.root = omega arith in
    rw (e, le-leb 0 (data_space (length b) p.root) z)

pub entries_none_root : (p : Place) (v : Node) (b : List ℕ) → v.nkeys ≡ 0 → p.root ≡ true → eqb v.level 0 ≡ entries_hold p v b
entries_none_root p v b e r = ap (λ (q : Bool). q && eqb v.level 0) (sym r) ∙ entries_none p v b e

pub entries_none_other : (p : Place) (v : Node) (b : List ℕ) → v.nkeys ≡ 0 → p.root ≡ false → p.root ≡ entries_hold p v b
entries_none_other p v b e r = r ∙ ap (λ (q : Bool). q && eqb v.level 0) (sym r) ∙ entries_none p v b e

pub entries_whole : (p : Place) (v : Node) (b : List ℕ) (space : ℕ) → (v.nkeys ≡ 0 → ⊥) → space ≡ data_space (length b) p.root
    → rest_holds v b 0 v.nkeys 0 space ≡ entries_hold p v b
unfolding entries_hold rest_holds
entries_whole p v b space n e = rw (ne_eqb v.nkeys 0 n, and-true, e, zero-add)

pub rest_start : (v : Node) (b : List ℕ) (n space : ℕ) → rest_holds v b 0 n 0 space ≡ rest_holds v b 0 (n - 0) 0 space
rest_start v b n space = rw sub-zero

module _ (w : Bool) (v : Node) (b : List ℕ) (n i sum space : ℕ) (s : Span) (e : w ≡ rest_holds v b i (n - i) sum space) (lt : i < n)
    (es : s ≡ span_at v b i) where
  pub rest_outside : (h : Bool) → h ≡ span_holds v (length b) s → not h ≡ true → false ≡ w
  unfolding rest_holds spans_hold
  rest_outside h eh nh =
      let m : n - i ≡ suc (n - suc i) = omega arith in
      let f : span_holds v (length b) (span_at v b i) ≡ false = ap (span_holds v (length b)) (sym es) ∙ sym eh ∙ not-true h nh in
      sym (e ∙ rw (m, f))

  pub rest_long : (k : ℕ) → k ≡ span_length s → space < sum + k → false ≡ w
  unfolding rest_holds spans_length
  rest_long k ek h =
      let m : n - i ≡ suc (n - suc i) = omega arith in
      let l : k ≡ span_length (span_at v b i) = ek ∙ ap span_length es in
      let f : leb (sum + (span_length (span_at v b i) + spans_length v b (suc i) (n - suc i))) space ≡ false =
      lt-leb (sum + (span_length (span_at v b i) + spans_length v b (suc i) (n - suc i))) space (omega arith) in
      sym (e ∙ rw (m, f, and-false))

  pub rest_turn : (h : Bool) (k : ℕ) → h ≡ span_holds v (length b) s → not h ≡ false → k ≡ span_length s → w ≡ rest_holds v b (i + 1) (n - (i + 1))
      (sum + k) space
  unfolding rest_holds spans_hold spans_length
  rest_turn h k eh nh ek =
      let m : n - i ≡ suc (n - suc i) = omega arith in
      let f : span_holds v (length b) (span_at v b i) ≡ true = ap (span_holds v (length b)) (sym es) ∙ sym eh ∙ not-false h nh in
      let l : span_length (span_at v b i) ≡ k = sym (ek ∙ ap span_length es) in
      let a : sum + (k + spans_length v b (suc i) (n - suc i)) ≡ sum + k + spans_length v b (suc i) (n - suc i) = omega arith in
      e ∙ rw (m, f, l, a, add-one i)

pub rest_done : (w : Bool) (v : Node) (b : List ℕ) (n i sum space : ℕ) → w ≡ rest_holds v b i (n - i) sum space → n ≤ i → sum ≤ space → true ≡ w
unfolding rest_holds spans_hold spans_length
rest_done w v b n i sum space e h g =
    let m : n - i ≡ 0 = omega arith in
    sym (e ∙ rw (m, add-zero, le-leb sum space g))

pub ruleset entries = (held_length, entries_none_root, entries_none_other, entries_whole, rest_start, rest_outside, rest_long, rest_turn, rest_done)
