-- Laws of copying a node's entries into a slot's records. Assumes nothing.
use Rattle.std.specs.Prelude.{◌≡◌, List, ◌++◌, cond, ℕ, zero, suc, ◌+◌, ◌-◌, ◌*◌, ◌≤◌, ◌<◌}
use Rattle.std.proofs.Math.Path.{refl, sym, ap}
use Rattle.std.proofs.Common.{ap₂, ◌∙◌, append_assoc, append-nil, add-zero, zero-add, add_assoc, suc-add, add-one, length-append}
use Rattle.std.proofs.Math.Bool.{true}
use native.Mathlib.Omega.{arith}
use Rattle.std.proofs.Math.ListN.{length}
use Rattle.seal.specs.Bytes.{window, splice}
use Rattle.seal.specs.laws.WindowLaws.{splice_none, splice_run}
use Rattle.seal.specs.laws.FieldLaws.{length_bytes_of}
use Rattle.node.specs.Entry.{Val, value_bytes, value_length}
use Rattle.node.specs.Records.{record_of, records_of}
use Rattle.node.specs.laws.slot.Records.{length_value_bytes}
use Rattle.node.specs.Read.{span_at, is_ghost, span_holds, span_length, spans_length, value_at, entry_at, entries_from}
use Rattle.node.specs.internal.ReadSteps.{Sound}
use Rattle.node.specs.laws.read.Read.{key_counts, value_counts, few}
use Rattle.node.specs.laws.read.Keys.{sound_span, sound_key}
use Rattle.node.specs.declared.read.Node.{Node}
use Rattle.node.specs.declared.read.Span.{Span}

-- ---- one record, of an entry that lies in its block

pub record_is : (v : Node) (b : List ℕ) (i : ℕ) (s : Span) (k : List ℕ) (w : Val) → s ≡ span_at v b i → k ≡ window s.key s.klen b
    → w ≡ (entry_at v b i).value → record_of (record { key = k; value = w }) ≡ record_of (entry_at v b i)
unfolding entry_at
record_is v b i s k w e ek ew =
    ap₂ (λ (x : List ℕ) (y : Val). record_of (record { key = x; value = y })) (ek ∙ ap (λ (q : Span). window q.key q.klen b) e) ew

-- what its key and its value take
pub parts_long : (v : Node) (b : List ℕ) (i : ℕ) (s : Span) (k : List ℕ) (w : Val) → Sound v b → i < v.nkeys → s ≡ span_at v b i
    → k ≡ window s.key s.klen b → w ≡ (entry_at v b i).value → length k + value_length w ≡ span_length (span_at v b i)
unfolding span_length entry_at
parts_long v b i s k w h lt e ek ew =
    let held : span_holds v (length b) s ≡ true = sound_span v b i s h lt e in
    ap₂ (λ (x y : ℕ). x + y) (ap length ek ∙ key_counts v b s held)
    (ap value_length (ew ∙ ap (value_at v b) (sym e)) ∙ value_counts v b s held) ∙ ap span_length e

-- ---- several records

pub spans_add : (v : Node) (b : List ℕ) (j a n : ℕ) → spans_length v b j (a + n) ≡ spans_length v b j a + spans_length v b (j + a) n
unfolding spans_length
spans_add v b j zero n = rw (zero-add, add-zero, zero-add)
spans_add v b j (suc a) n =
    let e : suc j + a ≡ j + suc a = omega arith in
    rw (suc-add, spans_add v b (suc j) a n, e, add_assoc)

-- the sum up to entry i with entry i is within the whole
pub spans_upto : (v : Node) (b : List ℕ) (i n : ℕ) → i < n → spans_length v b 0 i + span_length (span_at v b i) ≤ spans_length v b 0 n
unfolding spans_length
spans_upto v b i n h =
    let m : n ≡ i + suc (n - suc i) = omega arith in
    let e : spans_length v b 0 n ≡ spans_length v b 0 i + (span_length (span_at v b (0 + i)) + spans_length v b (suc (0 + i)) (n - suc i)) = ap
    (spans_length v b 0) m ∙ spans_add v b 0 i (suc (n - suc i)) in
    let z : span_length (span_at v b (0 + i)) ≡ span_length (span_at v b i) = ap (λ (q : ℕ). span_length (span_at v b q)) (zero-add i) in
    omega arith

pub spans_snoc : (v : Node) (b : List ℕ) (i : ℕ) → spans_length v b 0 (i + 1) ≡ spans_length v b 0 i + span_length (span_at v b i)
unfolding spans_length
spans_snoc v b i = spans_add v b 0 i 1 ∙ ap (λ (q : ℕ). spans_length v b 0 i + (span_length (span_at v b q) + 0)) (zero-add i) ∙ rw add-zero

pub records_snoc : (v : Node) (b : List ℕ) (j i : ℕ) → records_of (entries_from v b j (suc i)) ≡ records_of (entries_from v b j i) ++ record_of
    (entry_at v b (j + i))
unfolding records_of entries_from
records_snoc v b j zero = rw (add-zero, append-nil)
records_snoc v b j (suc i) =
    let e : suc j + i ≡ j + suc i = omega arith in
    ap (λ (q : List ℕ). record_of (entry_at v b j) ++ q)
    (records_snoc v b (suc j) i ∙ ap (λ (q : ℕ). records_of (entries_from v b (suc j) i) ++ record_of (entry_at v b q)) e)
    ∙ sym (append_assoc (record_of (entry_at v b j)) (records_of (entries_from v b (suc j) i)) (record_of (entry_at v b (j + suc i))))

module _ (v : Node) (b : List ℕ) (h : Sound v b) (i : ℕ) (lt : i < v.nkeys) where
  pub record_long : length (record_of (entry_at v b i)) ≡ 4 + span_length (span_at v b i)
  unfolding record_of entry_at span_length
  record_long =
      let s : Span = span_at v b i in
      let held : span_holds v (length b) s ≡ true = sound_span v b i s h lt refl in
      let k : length (window s.key s.klen b) ≡ s.klen = key_counts v b s held in
      let w : length (value_bytes (value_at v b s)) ≡ cond (is_ghost s) 0 s.vlen = length_value_bytes (value_at v b s) ∙ value_counts v b s held in
      simp (length-append, length_bytes_of, k, w) (omega arith)

  pub adopt_room : (at : ℕ) (l : List ℕ) → at ≡ 4 * i + spans_length v b 0 i → 2 * length b ≤ length l
      → at + (4 + span_length (span_at v b i)) ≤ length l
  adopt_room at l e room = omega (arith, spans_upto v b i v.nkeys lt, h.sum, few v (length b) h.laid)

  pub at_next : (at r : ℕ) → at ≡ 4 * i + spans_length v b 0 i → r ≡ at + (4 + span_length (span_at v b i))
      → r ≡ 4 * (i + 1) + spans_length v b 0 (i + 1)
  at_next at r e er = omega (arith, spans_snoc v b i)

  snoc : records_of (entries_from v b 0 (i + 1)) ≡ records_of (entries_from v b 0 i) ++ record_of (entry_at v b i)
  snoc = rw add-one (records_snoc v b 0 i ∙ ap (λ (q : ℕ). records_of (entries_from v b 0 i) ++ record_of (entry_at v b q)) (zero-add i))

  pub long_next : (at r : ℕ) → length (records_of (entries_from v b 0 i)) ≡ at → r ≡ at + (4 + span_length (span_at v b i))
      → length (records_of (entries_from v b 0 (i + 1))) ≡ r
  long_next at r e er = ap length snoc ∙ length-append (records_of (entries_from v b 0 i)) (record_of (entry_at v b i))
      ∙ ap₂ (λ (x y : ℕ). x + y) e record_long ∙ sym er

  pub adopt_turn : (l s s' : List ℕ) (at : ℕ) → length (records_of (entries_from v b 0 i)) ≡ at → at ≡ 4 * i + spans_length v b 0 i
      → 2 * length b ≤ length l
      → s ≡ splice l 0 (records_of (entries_from v b 0 i)) → s' ≡ splice s at (record_of (entry_at v b i))
      → s' ≡ splice l 0 (records_of (entries_from v b 0 (i + 1)))
  adopt_turn l s s' at el ea room es es' =
      let z : 0 + length (records_of (entries_from v b 0 i)) ≡ at = zero-add _ ∙ el in
      let k : length (record_of (entry_at v b i)) ≡ 4 + span_length (span_at v b i) = record_long in
      let r : at + (4 + span_length (span_at v b i)) ≤ length l = adopt_room at l ea room in
      splice_run l s s' 0 (records_of (entries_from v b 0 i)) at (record_of (entry_at v b i)) z (omega arith) es es' ∙ ap (splice l 0) (sym snoc)

-- before the first entry, and after the last

pub adopt_none : (v : Node) (b : List ℕ) → 0 ≡ 4 * 0 + spans_length v b 0 0
unfolding spans_length
adopt_none v b = refl

pub adopt_none_long : (v : Node) (b : List ℕ) → length (records_of (entries_from v b 0 0)) ≡ 0
unfolding records_of entries_from
adopt_none_long v b = refl

pub adopt_start : (v : Node) (b l : List ℕ) → l ≡ splice l 0 (records_of (entries_from v b 0 0))
unfolding records_of entries_from
adopt_start v b l = sym (splice_none l 0)

pub adopt_done : (v : Node) (b l s : List ℕ) (i n : ℕ) → i ≤ n → n ≤ i → s ≡ splice l 0 (records_of (entries_from v b 0 i))
    → s ≡ splice l 0 (records_of (entries_from v b 0 n))
adopt_done v b l s i n h k e = let q : i ≡ n = omega arith in e ∙ ap (λ (x : ℕ). splice l 0 (records_of (entries_from v b 0 x))) q

pub adopt_done_long : (v : Node) (b : List ℕ) (i n at : ℕ) → i ≤ n → n ≤ i → length (records_of (entries_from v b 0 i)) ≡ at
    → at ≡ length (records_of (entries_from v b 0 n))
adopt_done_long v b i n at h k e = let q : i ≡ n = omega arith in sym e ∙ ap (λ (x : ℕ). length (records_of (entries_from v b 0 x))) q

-- ---- what the code takes of these

pub ruleset one_record = (sound_key, record_is, parts_long)
