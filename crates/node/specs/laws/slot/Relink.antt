-- Laws of a child whose mark and number change in place. Assumes nothing.
use Rattle.std.specs.Prelude.{◌≡◌, refl, List, [], true, ℕ, ◌+◌, ◌-◌, ◌≤◌, ◌<◌, ◌^◌, length, take, drop, ltb}
use Rattle.std.proofs.Common.{sym, ap, ◌∙◌, append-nil, arith, length-drop, take-take, ltb-true, ltb-false}
use Rattle.seal.specs.Bytes.{window, splice, moved, bytes_of, u16_at}
use Rattle.seal.specs.laws.WindowLaws.{length_splice, splice_none}
use Rattle.node.specs.laws.base.Tests.{by_test, never}
use Rattle.node.specs.Entry.{Val, ghost, leaf, disk, mem, value_bytes, value_length}
use Rattle.node.specs.Records.{mark_of, mark_length, value_of, record_length, entry_of, records_length, entries_of}
use Rattle.node.specs.Slot.{with_value, is_child}
use Rattle.node.specs.laws.base.Splice.{splice_widen, take_splice}
use Rattle.node.specs.laws.slot.Records.{length_value_bytes, value_back, mark_fits, mark_small, at_value, records_local, records_less, entry_value_length}
use Rattle.node.specs.laws.slot.Slot.{at_lies, part_length, next_used, value_past, revalued_length, revalued_entries}
use Rattle.node.specs.internal.SlotSteps.{parts_at}
use Rattle.node.specs.internal.Storable.{Held}
use Rattle.node.specs.declared.record.RecordParts.{RecordParts}

-- a child takes 8 bytes
child_long : (v : Val) → is_child v ≡ true → value_length v ≡ 8
unfolding is_child value_length
child_long ghost h = never h refl
child_long (leaf v) h = never h refl
child_long (disk r) h = refl
child_long (mem c) h = refl

-- bytes put where they lie
same_bytes : (l : List ℕ) (i n : ℕ) → i + n ≤ length l → l ≡ moved l i i n
unfolding moved
same_bytes l i n h = sym (splice_none l (i + n)) ∙ splice_widen l i n [] h ∙ ap (splice l i) (append-nil (window i n l))

-- bytes before those that change
take_before : (l : List ℕ) (m p : ℕ) (vs : List ℕ) → m ≤ p → p ≤ length l → take m (splice l p vs) ≡ take m l
take_before l m p vs h k = sym (take-take m p (splice l p vs) h) ∙ ap (take m) (take_splice l p vs k) ∙ take-take m p l h

module _ (l : List ℕ) (n i at : ℕ) (w : Val) (r : RecordParts) (pa : at ≡ records_length i l) (h : i < n)
    (within : records_length n l ≤ length l) (is_child_lem : is_child (entry_of (drop at l)).value ≡ true) (new : is_child w ≡ true)
    (held_lem : Held w) (e : r ≡ parts_at l at) where
  -- the new child takes 8 bytes too
  eight : value_length w ≡ 8
  eight = child_long w new

  bytes_eight : length (value_bytes w) ≡ 8
  bytes_eight = length_value_bytes w ∙ eight

  lies : at + record_length (drop at l) ≤ length l
  lies = at_lies l n i at within h pa

  value_end : r.value + 8 ≡ at + record_length (drop at l)
  value_end =
      let f : record_length (drop at l) ≤ length (drop at l) = rw length-drop (omega (arith, lies)) in
      let a : value_length (entry_of (drop at l)).value ≡ 8 = child_long (entry_of (drop at l)).value is_child_lem in
      let b = entry_value_length (drop at l) f in
      let c = part_length at (u16_at (drop at l) 0) (u16_at (drop at l) 2) l refl refl in
      omega (arith, a, b, c, at_value l at r e)

  pub link_room : r.value + value_length w ≤ length l
  link_room = omega (arith, value_end, lies, eight)

  link_mark : at + 2 + 2 ≤ length l
  link_mark = omega (arith, lies, part_length at (u16_at (drop at l) 0) (u16_at (drop at l) 2) l refl refl)

  module _ (l₁ l₂ : List ℕ) (mark : ℕ) (e₁ : l₁ ≡ splice l r.value (value_bytes w)) (em : mark ≡ mark_of w)
      (e₂ : l₂ ≡ splice l₁ (at + 2) (bytes_of 2 mark)) where
    small : mark < 2 ^ 16
    small = omega (arith, mark_small w held_lem)

    long : mark_length mark ≡ length (value_bytes w)
    long = ap mark_length em ∙ mark_fits w held_lem

    -- no record moves: among the first k records, of which record i is one, the tail stays where it is
    module _ (k : ℕ) (hi : i < k) (hk : k ≤ n) where
      some : records_length k l ≤ length l
      some = omega (arith, records_less k n l hk)

      next : at + record_length (drop at l) ≤ records_length k l
      next = next_used l k i (records_length k l) at refl pa hi

      stays : l ≡ moved l (at + record_length (drop at l)) (r.value + length (value_bytes w)) (records_length k l - (at + record_length (drop at l)))
      stays =
          let p : r.value + length (value_bytes w) ≡ at + record_length (drop at l) = omega (arith, bytes_eight, value_end) in
          same_bytes l (at + record_length (drop at l)) (records_length k l - (at + record_length (drop at l))) (omega (arith, next, some))
          ∙ ap (λ (q : ℕ). moved l (at + record_length (drop at l)) q (records_length k l - (at + record_length (drop at l)))) (sym p)

      fits : r.value + length (value_bytes w) + (records_length k l - (at + record_length (drop at l))) ≤ length l
      fits = omega (arith, bytes_eight, value_end, next, some)

      tail_start : records_length k l₂ ≡ records_length k l
      tail_start =
          revalued_length l l l₁ l₂ (value_bytes w) k i (records_length k l) at r.value (at + record_length (drop at l))
          (u16_at (drop at l) 0) mark refl pa hi some fits small long refl (at_value l at r e) refl stays e₁ e₂
          ∙ omega (arith, bytes_eight, value_end, next)

      changed : entries_of k l₂ ≡ with_value i w (entries_of k l)
      changed =
          revalued_entries l l l₁ l₂ (value_bytes w) k i (records_length k l) at r.value (at + record_length (drop at l))
          (u16_at (drop at l) 0) mark refl pa hi some fits small long refl (at_value l at r e) refl stays e₁ e₂
          ∙ ap (λ (v : Val). with_value i v (entries_of k l)) (ap (λ (m : ℕ). value_of m (value_bytes w)) em ∙ value_back w held_lem)

    pub relink_entries : entries_of n l₂ ≡ with_value i w (entries_of n l)
    relink_entries = changed n h (omega arith)

    before : take at l₂ ≡ take at l
    before =
        let p : r.value ≤ length l = omega (arith, link_room) in
        let q : length l₁ ≡ length l = ap length e₁ ∙ length_splice l r.value (value_bytes w) (omega (arith, bytes_eight, eight, link_room)) in
        ap (take at) e₂ ∙ take_before l₁ at (at + 2) (bytes_of 2 mark) (omega arith) (omega (arith, link_mark, q)) ∙ ap (take at) e₁
        ∙ take_before l at r.value (value_bytes w) (omega (arith, value_past l at r e)) p

    pub relink_starts : (j : ℕ) → j ≤ n → records_length j l₂ ≡ records_length j l
    relink_starts j hj =
        by_test (ltb i j)
        (λ t. tail_start j (ltb-true i j t) hj)
        (λ t. records_local j at l l₂ (omega (arith, pa, records_less j i l (ltb-false i j t))) before)
