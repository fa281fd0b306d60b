-- Laws of a node's entries in a slot: where records lie, and what the entries are after records are put, removed and changed. Assumes nothing.
use Rattle.std.specs.Prelude.{◌≡◌}
use Rattle.std.proofs.Math.Path.{refl, sym, ap, ap₂}
use Rattle.std.proofs.Common.{◌∙◌, zero-add}
use mathlib.Core.List.{List, [], ◌∷◌, ◌++◌, append_assoc, append-nil}
use Prim.Native.Nat.{ℕ, ◌+◌, ◌-◌, ◌≤◌, ◌<◌, ◌^◌}
use Rattle.std.proofs.Math.Nat.{add-zero}
use native.Mathlib.Omega.{arith}
use Rattle.std.proofs.Math.ListN.{length, take, drop, length-append, length-drop}
use Rattle.std.proofs.Math.Seq.{take_at, take-append_seam, drop-append_seam, take-length, length-take-le}
use borrow.Author.Tests.{le-leb, lt-leb, eq-eqb, ne_eqb}
use Rattle.seal.specs.Bytes.{u16_at, u64_at, field_at, le, window, splice, moved, bytes_of}
use Rattle.seal.specs.laws.WindowLaws.{length_window, window_add, splice_under}
use Rattle.seal.specs.laws.FieldLaws.{field_drop, le_bytes_of, length_bytes_of}
use Rattle.node.specs.laws.base.Splice.{window_drop, take_splice, drop_splice, splice_widen}
use Rattle.std.specs.Borrow.{Bor}
use Rattle.node.specs.Entry.{Entry, Val, leaf, disk, mem, value_length, value_bytes}
use Rattle.node.specs.Records.{mark_of, mark_length, value_of, record_bytes, record_of, record_length, entry_of, records_length, entries_of}
use Rattle.node.specs.internal.SlotSteps.{parts_at, EntryUpto}
use Rattle.node.specs.internal.Storable.{Held}
use Rattle.node.specs.laws.slot.Records.{mark_child, length_bytes, records_local, entries_local, records_add, entries_add, records_next, records_rest, records_less, entries_front, entries_rest, entries_head, decoded, decoded_length, entry_key_length, entry_value_length, at_key, at_mark, at_value, at_vlen, at_length, at_after, length_value_bytes, value_back, mark_fits, mark_small}
use Rattle.node.specs.Slot.{insert_at, remove_at, rekeyed, with_key, revalued, with_value, child_means, value_means}
use Rattle.node.specs.declared.record.RecordParts.{RecordParts}
use Rattle.node.specs.declared.slot.EntryAt.{EntryAt}
use Rattle.node.specs.declared.val.Child.TheVariants as child
use Rattle.node.specs.declared.val.Val.TheVariants as held

-- ---- where records lie, for `search`: each premise is a field of what a need is handed

pub at_start : (l : List ℕ) → 0 ≡ records_length 0 l
unfolding records_length
at_start l = refl

pub at_lies : (l : List ℕ) (n i at : ℕ) → records_length n l ≤ length l → i < n → at ≡ records_length i l → at + record_length (drop at l) ≤ length l
at_lies l n i at h q p =
    let a = records_next i l in
    let b = records_less (i + 1) n l (omega arith) in
    let c : record_length (drop at l) ≡ record_length (drop (records_length i l) l) = ap (λ (x : ℕ). record_length (drop x l)) p in
    omega arith

pub at_next : (l : List ℕ) (i at r : ℕ) → at ≡ records_length i l → r ≡ at + record_length (drop at l) → r ≡ records_length (i + 1) l
at_next l i at r p q = q ∙ ap (λ (x : ℕ). x + record_length (drop x l)) p ∙ sym (records_next i l)

pub at_used : (l : List ℕ) (n i used at : ℕ) → used ≡ records_length n l → at ≡ records_length i l → i ≤ n → at ≤ used
at_used l n i used at p q h = let b = records_less i n l h in omega arith

-- record i ends where the bytes in use end, or before
pub next_used : (l : List ℕ) (n i used at : ℕ) → used ≡ records_length n l → at ≡ records_length i l → i < n → at + record_length (drop at l) ≤ used
next_used l n i used at p q h =
    let b = records_less (i + 1) n l (omega arith) in
    let c = at_next l i at (at + record_length (drop at l)) q refl in
    omega arith

-- where an entry stands that is written
pub entry_used : (l : List ℕ) (e : EntryAt) → EntryUpto l e → e.at ≤ e.used
entry_used l e q = at_used l e.count e.index e.used e.at q.used q.start q.upto

pub entry_end : (l : List ℕ) (e : EntryAt) → EntryUpto l e → e.index < e.count → e.at + record_length (drop e.at l) ≤ e.used
entry_end l e q h = next_used l e.count e.index e.used e.at q.used q.start h

pub entry_lies : (l : List ℕ) (e : EntryAt) → EntryUpto l e → e.index < e.count → records_length e.count l ≤ length l
    → e.at + record_length (drop e.at l) ≤ length l
entry_lies l e q h w = at_lies l e.count e.index e.at w h q.start

pub entry_lies_room : (l : List ℕ) (e : EntryAt) (m : ℕ) → EntryUpto l e → e.index < e.count → e.used + m ≤ length l
    → e.at + record_length (drop e.at l) ≤ length l
entry_lies_room l e m q h w = omega (arith, entry_end l e q h)

-- the records from record j on take what is left
rest_length : (l : List ℕ) (n j used end : ℕ) → used ≡ records_length n l → end ≡ records_length j l → j ≤ n
    → records_length (n - j) (drop end l) ≡ used - end
rest_length l n j used end p q h =
    let e : records_length (n - j) (drop end l) ≡ records_length (n - j) (drop (records_length j l) l) = ap
    (λ (x : ℕ). records_length (n - j) (drop x l)) q in
    omega (arith, records_rest j n l h)

-- ---- records replaced: records i to j of n give way to k others

module _ (l l' new : List ℕ) (n i j k used at end : ℕ) (ij : i ≤ j) (jn : j ≤ n) (within : records_length n l ≤ length l)
    (pu : used ≡ records_length n l) (pa : at ≡ records_length i l) (pe : end ≡ records_length j l) (fill : records_length k new ≡ length new)
    (changed : l' ≡ splice l at (new ++ window end (used - end) l)) where
  abbrev kept : List ℕ
  kept = window end (used - end) l

  abbrev past : List ℕ
  past = drop (at + length (new ++ kept)) l

  at_in : at ≤ length l
  at_in = let a = records_less i n l (omega arith) in omega arith

  end_in : end + (used - end) ≤ length l
  end_in = let a = records_less j n l jn in omega arith

  front : take at l' ≡ take at l
  front = ap (take at) changed ∙ take_splice l at (new ++ kept) at_in

  from : drop at l' ≡ new ++ (kept ++ past)
  from = ap (drop at) changed ∙ drop_splice l at (new ++ kept) at_in ∙ append_assoc new kept past

  front_length : records_length i l' ≡ at
  front_length = let h : records_length i l ≤ at = omega arith in records_local i at l l' h front ∙ sym pa

  new_agrees : take (length new) (new ++ (kept ++ past)) ≡ take (length new) new
  new_agrees = take-append_seam new (kept ++ past) ∙ sym (take-length new)

  new_length : records_length k (new ++ (kept ++ past)) ≡ length new
  new_length = let h : records_length k new ≤ length new = omega arith in records_local k (length new) new (new ++ (kept ++ past)) h new_agrees ∙ fill

  kept_agrees : take (used - end) (kept ++ past) ≡ take (used - end) (drop end l)
  unfolding window
  kept_agrees = take_at kept past (used - end) (length_window end (used - end) l end_in)

  rest_is : records_length (n - j) (drop end l) ≡ used - end
  rest_is = rest_length l n j used end pu pe jn

  rest_fits : records_length (n - j) (drop end l) ≤ used - end
  rest_fits = omega (arith, rest_is)

  after : records_length k (drop at l') ≡ length new
  after = ap (records_length k) from ∙ new_length

  past_new : drop (records_length k (drop at l')) (drop at l') ≡ kept ++ past
  past_new = ap₂ (λ (x : ℕ) (y : List ℕ). drop x y) after from ∙ drop-append_seam new (kept ++ past)

  tail_length : records_length (k + (n - j)) (drop at l') ≡ length new + (used - end)
  tail_length =
      records_add k (n - j) (drop at l')
      ∙ ap₂ (λ (x : ℕ) (y : List ℕ). x + records_length (n - j) y) after past_new
      ∙ ap (λ (x : ℕ). length new + x) (records_local (n - j) (used - end) (drop end l) (kept ++ past) rest_fits kept_agrees ∙ rest_is)

  tail_entries : entries_of (k + (n - j)) (drop at l') ≡ entries_of k new ++ drop j (entries_of n l)
  tail_entries =
      let h : records_length k new ≤ length new = omega arith in
      entries_add k (n - j) (drop at l')
      ∙ ap₂ (λ (x y : List ℕ). entries_of k x ++ entries_of (n - j) y) from past_new
      ∙ ap₂ (λ (x y : List Entry). x ++ y) (entries_local k (length new) new (new ++ (kept ++ past)) h new_agrees)
      (entries_local (n - j) (used - end) (drop end l) (kept ++ past) rest_fits kept_agrees ∙ ap (λ (x : ℕ). entries_of (n - j) (drop x l)) pe
      ∙ sym (entries_rest j n l jn))

  pub replaced_length : records_length (i + (k + (n - j))) l' ≡ at + (length new + (used - end))
  replaced_length = records_add i (k + (n - j)) l' ∙ ap (λ (x : ℕ). x + records_length (k + (n - j)) (drop x l')) front_length
      ∙ ap (λ (x : ℕ). at + x) tail_length

  pub replaced_entries : entries_of (i + (k + (n - j))) l' ≡ take i (entries_of n l) ++ (entries_of k new ++ drop j (entries_of n l))
  replaced_entries =
      let h : records_length i l ≤ at = omega arith in
      let b : i ≤ n = omega arith in
      entries_add i (k + (n - j)) l'
      ∙ ap₂ (λ (x : List Entry) (y : ℕ). x ++ entries_of (k + (n - j)) (drop y l'))
      (entries_local i at l l' h front ∙ sym (entries_front i n l b)) front_length
      ∙ ap (λ (x : List Entry). take i (entries_of n l) ++ x) tail_entries

-- ---- one record

module _ (a b k v : List ℕ) (la : length a ≡ 2) (lb : length b ≡ 2) (lk : le a ≡ length k) (lv : mark_length (le b) ≡ length v) where
  ended : a ++ (b ++ (k ++ v)) ≡ a ++ (b ++ (k ++ (v ++ [])))
  ended = ap (λ (x : List ℕ). a ++ (b ++ (k ++ x))) (sym (append-nil v))

  pub one_size : length (a ++ (b ++ (k ++ v))) ≡ 4 + length k + length v
  one_size = simp length-append (omega arith)

  pub one_length : records_length 1 (a ++ (b ++ (k ++ v))) ≡ length (a ++ (b ++ (k ++ v)))
  unfolding records_length
  one_length = add-zero (record_length (a ++ (b ++ (k ++ v)))) ∙ ap record_length ended ∙ decoded_length a b k v [] la lb lk lv ∙ sym one_size

  pub one_entry : entries_of 1 (a ++ (b ++ (k ++ v))) ≡ record { key = k; value = value_of (le b) v } ∷ []
  unfolding entries_of
  one_entry = ap (λ (x : Entry). x ∷ []) (ap entry_of ended ∙ decoded a b k v [] la lb lk lv)

-- records i to j give way to one record
module _ (l l' a b k v : List ℕ) (n i j used at end : ℕ) (la : length a ≡ 2) (lb : length b ≡ 2) (lk : le a ≡ length k)
    (lv : mark_length (le b) ≡ length v)
    (ij : i ≤ j) (jn : j ≤ n) (within : records_length n l ≤ length l) (pu : used ≡ records_length n l) (pa : at ≡ records_length i l)
    (pe : end ≡ records_length j l)
    (changed : l' ≡ splice l at (a ++ (b ++ (k ++ (v ++ window end (used - end) l))))) where
  regrouped : l' ≡ splice l at (a ++ (b ++ (k ++ v)) ++ window end (used - end) l)
  regrouped = changed ∙ ap (splice l at) (sym (simp append_assoc))

  pub put_length : records_length (i + (1 + (n - j))) l' ≡ at + (4 + length k + length v + (used - end))
  put_length =
      replaced_length l l' (a ++ (b ++ (k ++ v))) n i j 1 used at end ij jn within pu pa pe (one_length a b k v la lb lk lv) regrouped
      ∙ ap (λ (x : ℕ). at + (x + (used - end))) (one_size a b k v la lb lk lv)

  pub put_entries_lem : entries_of (i + (1 + (n - j))) l' ≡ take i (entries_of n l) ++
      (record { key = k; value = value_of (le b) v } ∷ drop j (entries_of n l))
  put_entries_lem =
      replaced_entries l l' (a ++ (b ++ (k ++ v))) n i j 1 used at end ij jn within pu pa pe (one_length a b k v la lb lk lv) regrouped
      ∙ ap (λ (x : List Entry). take i (entries_of n l) ++ (x ++ drop j (entries_of n l))) (one_entry a b k v la lb lk lv)

-- ---- a record put

module _ (l l₁ l₂ key value : List ℕ) (n i used at mark : ℕ) (pu : used ≡ records_length n l) (pa : at ≡ records_length i l) (h : i ≤ n)
    (room : used + 4 + length key + length value ≤ length l) (kf : length key < 2 ^ 16) (mf : mark < 2 ^ 16) (mv : mark_length mark ≡ length value)
    (e₁ : l₁ ≡ moved l at (at + 4 + length key + length value) (used - at)) (e₂ : l₂ ≡ splice l₁ at (record_bytes key mark value)) where
  insert_changed : l₂ ≡ splice l at (bytes_of 2 (length key) ++ (bytes_of 2 mark ++ (key ++ (value ++ window at (used - at) l))))
  unfolding moved record_bytes
  insert_changed =
      let w : List ℕ = window at (used - at) l in
      let c : List ℕ = record_bytes key mark value in
      let lc : length c ≡ 4 + length key + length value = length_bytes key mark value in
      let au = records_less i n l h in
      let lw : length w ≡ used - at = length_window at (used - at) l (omega arith) in
      let q : at + 4 + length key + length value ≡ at + length c = omega arith in
      e₂ ∙ ap (λ (x : List ℕ). splice x at c) (e₁ ∙ ap (λ (x : ℕ). splice l x w) q) ∙ splice_under l at c w (omega arith)
      ∙ ap (splice l at) (simp append_assoc)

  lk : le (bytes_of 2 (length key)) ≡ length key
  lk = let f : length key < 256 ^ 2 = kf in le_bytes_of 2 (length key) f

  lm : le (bytes_of 2 mark) ≡ mark
  lm = let f : mark < 256 ^ 2 = mf in le_bytes_of 2 mark f

  within : records_length n l ≤ length l
  within = omega arith

  count : i + (1 + (n - i)) ≡ n + 1
  count = omega arith

  inserted_entries : entries_of (n + 1) l₂ ≡ insert_at i (record { key = key; value = value_of mark value }) (entries_of n l)
  unfolding insert_at
  inserted_entries =
      let ii : i ≤ i = omega arith in
      ap (λ (x : ℕ). entries_of x l₂) (sym count)
      ∙ put_entries_lem l l₂ (bytes_of 2 (length key)) (bytes_of 2 mark) key value n i i used at at (length_bytes_of 2 (length key))
      (length_bytes_of 2 mark) lk (ap mark_length lm ∙ mv) ii h within pu pa pa insert_changed
      ∙ ap (λ (x : ℕ). take i (entries_of n l) ++ (record { key = key; value = value_of x value } ∷ drop i (entries_of n l))) lm

  inserted_length : records_length (n + 1) l₂ ≡ used + 4 + length key + length value
  inserted_length =
      let ii : i ≤ i = omega arith in
      let au = records_less i n l h in
      ap (λ (x : ℕ). records_length x l₂) (sym count)
      ∙ put_length l l₂ (bytes_of 2 (length key)) (bytes_of 2 mark) key value n i i used at at (length_bytes_of 2 (length key))
      (length_bytes_of 2 mark) lk (ap mark_length lm ∙ mv) ii h within pu pa pa insert_changed
      ∙ omega arith

module _ (l l₁ l₂ key : List ℕ) (v : Val) (e : EntryAt) (x : ℕ) (q : EntryUpto l e) (ex : x ≡ value_length v)
    (room : e.used + 4 + length key + value_length v ≤ length l) (kf : length key < 2 ^ 16) (held_lem : Held v)
    (e₁ : l₁ ≡ moved l e.at (e.at + 4 + length key + x) (e.used - e.at))
    (e₂ : l₂ ≡ splice l₁ e.at (record_of (record { key = key; value = v }))) where
  value_room_lem : e.used + 4 + length key + length (value_bytes v) ≤ length l
  value_room_lem = omega (arith, length_value_bytes v)

  shifted : l₁ ≡ moved l e.at (e.at + 4 + length key + length (value_bytes v)) (e.used - e.at)
  shifted = e₁ ∙ ap (λ (y : ℕ). moved l e.at (e.at + 4 + length key + y) (e.used - e.at)) (ex ∙ sym (length_value_bytes v))

  stored : l₂ ≡ splice l₁ e.at (record_bytes key (mark_of v) (value_bytes v))
  unfolding record_of record_bytes
  stored = e₂

  pub insert_entries : entries_of (e.count + 1) l₂ ≡ insert_at e.index (record { key = key; value = v }) (entries_of e.count l)
  insert_entries =
      inserted_entries l l₁ l₂ key (value_bytes v) e.count e.index e.used e.at (mark_of v) q.used q.start q.upto value_room_lem kf
      (mark_small v held_lem) (mark_fits v held_lem) shifted stored
      ∙ ap (λ (y : Val). insert_at e.index (record { key = key; value = y }) (entries_of e.count l)) (value_back v held_lem)

  pub insert_length : records_length (e.count + 1) l₂ ≡ e.at + 4 + length key + x + (e.used - e.at)
  insert_length =
      inserted_length l l₁ l₂ key (value_bytes v) e.count e.index e.used e.at (mark_of v) q.used q.start q.upto value_room_lem kf
      (mark_small v held_lem) (mark_fits v held_lem) shifted stored
      ∙ omega (arith, length_value_bytes v, ex, entry_used l e q)

-- ---- a record removed

module _ (l l₁ : List ℕ) (n i used at next : ℕ) (within : records_length n l ≤ length l) (pu : used ≡ records_length n l)
    (pa : at ≡ records_length i l)
    (h : i < n)
    (pn : next ≡ at + record_length (drop at l)) (e₁ : l₁ ≡ moved l next at (used - next)) where
  remove_changed : l₁ ≡ splice l at ([] ++ window next (used - next) l)
  unfolding moved
  remove_changed = e₁

  fill_none : records_length 0 [] ≡ 0
  unfolding records_length
  fill_none = refl

  count_less : i + (0 + (n - (i + 1))) ≡ n - 1
  count_less = omega arith

  removed_entries : entries_of (n - 1) l₁ ≡ remove_at i (entries_of n l)
  unfolding remove_at entries_of
  removed_entries =
      let ij : i ≤ i + 1 = omega arith in
      let jn : i + 1 ≤ n = omega arith in
      ap (λ (x : ℕ). entries_of x l₁) (sym count_less)
      ∙ replaced_entries l l₁ [] n i (i + 1) 0 used at next ij jn within pu pa (at_next l i at next pa pn) fill_none remove_changed

  removed_length : records_length (n - 1) l₁ ≡ at + (used - next)
  removed_length =
      let ij : i ≤ i + 1 = omega arith in
      let jn : i + 1 ≤ n = omega arith in
      ap (λ (x : ℕ). records_length x l₁) (sym count_less)
      ∙ replaced_length l l₁ [] n i (i + 1) 0 used at next ij jn within pu pa (at_next l i at next pa pn) fill_none remove_changed
      ∙ ap (λ (x : ℕ). at + x) (zero-add (used - next))

module _ (l l₁ : List ℕ) (e : EntryAt) (next : ℕ) (q : EntryUpto l e) (h : e.index < e.count) (within : records_length e.count l ≤ length l)
    (pn : next ≡ e.at + record_length (drop e.at l)) (e₁ : l₁ ≡ moved l next e.at (e.used - next)) where
  pub remove_entries : entries_of (e.count - 1) l₁ ≡ remove_at e.index (entries_of e.count l)
  remove_entries = removed_entries l l₁ e.count e.index e.used e.at next within q.used q.start h pn e₁

  pub remove_length : records_length (e.count - 1) l₁ ≡ e.at + (e.used - next)
  remove_length = removed_length l l₁ e.count e.index e.used e.at next within q.used q.start h pn e₁

-- ---- the parts of a record, as windows of the slot

pub part_key : (at klen : ℕ) (l : List ℕ) → klen ≡ u16_at (drop at l) 0 → (entry_of (drop at l)).key ≡ window (at + 4) klen l
unfolding entry_of
part_key at klen l p = window_drop at 4 (u16_at (drop at l) 0) l ∙ ap (λ (x : ℕ). window (at + 4) x l) (sym p)

pub part_value : (at v klen mark : ℕ) (l : List ℕ) → klen ≡ u16_at (drop at l) 0 → mark ≡ u16_at (drop at l) 2 → v ≡ at + 4 + klen
    → (entry_of (drop at l)).value ≡ value_of mark (window v (mark_length mark) l)
unfolding entry_of
part_value at v klen mark l p q r =
    let e : at + (4 + klen) ≡ v = omega arith in
    ap₂ (λ (x y : ℕ). value_of y (window (4 + x) (mark_length y) (drop at l))) (sym p) (sym q)
    ∙ ap (value_of mark) (window_drop at (4 + klen) (mark_length mark) l ∙ ap (λ (x : ℕ). window x (mark_length mark) l) e)

pub part_length : (at klen mark : ℕ) (l : List ℕ) → klen ≡ u16_at (drop at l) 0 → mark ≡ u16_at (drop at l) 2
    → record_length (drop at l) ≡ 4 + klen + mark_length mark
unfolding record_length
part_length at klen mark l p q = ap₂ (λ (x y : ℕ). 4 + x + mark_length y) (sym p) (sym q)

-- ---- a record with another key

module _ (l l₁ l₂ l₃ key : List ℕ) (n i used at from klen mark : ℕ) (pu : used ≡ records_length n l) (pa : at ≡ records_length i l) (h : i < n)
    (room : used + length key ≤ length l) (kf : length key < 2 ^ 16) (pk : klen ≡ u16_at (drop at l) 0) (pm : mark ≡ u16_at (drop at l) 2)
    (pf : from ≡ at + 4 + klen)
    (e₁ : l₁ ≡ moved l from (at + 4 + length key) (used - from)) (e₂ : l₂ ≡ splice l₁ (at + 4) key)
    (e₃ : l₃ ≡ splice l₂ at (bytes_of 2 (length key))) where
  abbrev next : ℕ
  next = at + record_length (drop at l)

  key_within : records_length n l ≤ length l
  key_within = omega arith

  next_is : next ≡ from + mark_length mark
  next_is = let a = part_length at klen mark l pk pm in omega arith

  key_used : next ≤ used
  key_used = next_used l n i used at pu pa h

  key_changed : l₃ ≡ splice l at (bytes_of 2 (length key) ++
      (window (at + 2) 2 l ++ (key ++ (window from (mark_length mark) l ++ window next (used - next) l))))
  unfolding moved
  key_changed =
      let nu = key_used in
      let ni = next_is in
      let w : List ℕ = window from (used - from) l in
      let lw : length w ≡ used - from = length_window from (used - from) l (omega arith) in
      let kb : List ℕ = bytes_of 2 (length key) in
      let lb : length kb ≡ 2 = length_bytes_of 2 (length key) in
      let two : l₂ ≡ splice l (at + 4) (key ++ w) = e₂ ∙ ap (λ (x : List ℕ). splice x (at + 4) key) e₁ ∙ splice_under l (at + 4) key w
      (omega arith) in
      let four : at + 4 ≡ at + 2 + 2 = omega arith in
      let y : List ℕ = window (at + 2) 2 l ++ (key ++ w) in
      let wide : splice l (at + 4) (key ++ w) ≡ splice l (at + 2) y = ap (λ (x : ℕ). splice l x (key ++ w)) four
      ∙ splice_widen l (at + 2) 2 (key ++ w) (omega arith) in
      let ly : length y ≡ 2 + (length key + (used - from)) = simp length-append (omega (arith, length_window (at + 2) 2 l (omega arith))) in
      let parts : used - from ≡ mark_length mark + (used - next) = omega arith in
      let cut : w ≡ window from (mark_length mark) l ++ window next (used - next) l = ap (λ (x : ℕ). window from x l) parts
      ∙ window_add from (mark_length mark) (used - next) l ∙ ap (λ (x : ℕ). window from (mark_length mark) l ++ window x (used - next) l)
      (sym ni) in
      e₃ ∙ ap (λ (x : List ℕ). splice x at kb) (two ∙ wide)
      ∙ ap (λ (x : ℕ). splice (splice l (at + x) y) at kb) (sym lb)
      ∙ splice_under l at kb y (omega arith)
      ∙ ap (λ (x : List ℕ). splice l at (kb ++ (window (at + 2) 2 l ++ (key ++ x)))) cut

  mark_kept : le (window (at + 2) 2 l) ≡ mark
  unfolding field_at
  mark_kept = sym (field_drop 2 at l 2) ∙ sym pm

  value_fills : mark_length (le (window (at + 2) 2 l)) ≡ length (window from (mark_length mark) l)
  value_fills = let nu = key_used in let ni = next_is in ap mark_length mark_kept ∙ sym (length_window from (mark_length mark) l (omega arith))

  key_fills : le (bytes_of 2 (length key)) ≡ length key
  key_fills = let f : length key < 256 ^ 2 = kf in le_bytes_of 2 (length key) f

  same_count : i + (1 + (n - (i + 1))) ≡ n
  same_count = omega arith

  rekeyed_length : records_length n l₃ ≡ at + 4 + length key + (used - from)
  rekeyed_length =
      let ij : i ≤ i + 1 = omega arith in
      let jn : i + 1 ≤ n = omega arith in
      let nu = key_used in
      let ni = next_is in
      let hw : from + mark_length mark ≤ length l = omega arith in
      let lw = length_window from (mark_length mark) l hw in
      let wi : at + 2 + 2 ≤ length l = omega arith in
      ap (λ (x : ℕ). records_length x l₃) (sym same_count)
      ∙ put_length l l₃ (bytes_of 2 (length key)) (window (at + 2) 2 l) key (window from (mark_length mark) l) n i (i + 1) used at next
      (length_bytes_of 2 (length key)) (length_window (at + 2) 2 l wi) key_fills value_fills ij jn key_within pu pa
      (at_next l i at next pa refl) key_changed
      ∙ omega arith

  rekeyed_entries : entries_of n l₃ ≡ with_key i key (entries_of n l)
  unfolding with_key rekeyed
  rekeyed_entries =
      let ij : i ≤ i + 1 = omega arith in
      let jn : i + 1 ≤ n = omega arith in
      let nu = key_used in
      let ni = next_is in
      let wi : at + 2 + 2 ≤ length l = omega arith in
      ap (λ (x : ℕ). entries_of x l₃) (sym same_count)
      ∙ put_entries_lem l l₃ (bytes_of 2 (length key)) (window (at + 2) 2 l) key (window from (mark_length mark) l) n i (i + 1) used at next
      (length_bytes_of 2 (length key)) (length_window (at + 2) 2 l wi) key_fills value_fills ij jn key_within pu pa
      (at_next l i at next pa refl) key_changed
      ∙ ap (λ (x : Val). take i (entries_of n l) ++ (record { key = key; value = x } ∷ drop (i + 1) (entries_of n l)))
      (ap (λ (x : ℕ). value_of x (window from (mark_length mark) l)) mark_kept ∙ sym (part_value at from klen mark l pk pm pf))
      ∙ ap (λ (x : List Entry). take i (entries_of n l) ++ rekeyed key x) (sym (entries_head i n at l h pa))

pub set_key_used : (l key : List ℕ) (e : EntryAt) (r : RecordParts) → EntryUpto l e → e.index < e.count → r ≡ parts_at l e.at
    → e.used + length key ≤ length l
    → e.at + 4 + length key + (e.used - r.value) + length (entry_of (drop e.at l)).key ≡ e.used + length key
set_key_used l key e r q h er room =
    let n = entry_end l e q h in
    let lies : record_length (drop e.at l) ≤ length (drop e.at l) = rw length-drop (omega arith) in
    omega (
      arith,
      entry_key_length (drop e.at l) lies,
      at_value l e.at r er,
      part_length e.at (u16_at (drop e.at l) 0) (u16_at (drop e.at l) 2) l refl refl,
    )

module _ (l l₁ l₂ l₃ key : List ℕ) (e : EntryAt) (r : RecordParts) (q : EntryUpto l e) (h : e.index < e.count) (er : r ≡ parts_at l e.at)
    (room : e.used + length key ≤ length l) (kf : length key < 2 ^ 16)
    (e₁ : l₁ ≡ moved l r.value (e.at + 4 + length key) (e.used - r.value)) (e₂ : l₂ ≡ splice l₁ (e.at + 4) key)
    (e₃ : l₃ ≡ splice l₂ e.at (bytes_of 2 (length key))) where
  pub set_key_length : records_length e.count l₃ ≡ e.at + 4 + length key + (e.used - r.value)
  set_key_length = rekeyed_length l l₁ l₂ l₃ key e.count e.index e.used e.at r.value (u16_at (drop e.at l) 0) (u16_at (drop e.at l) 2) q.used
      q.start h room kf refl refl (at_value l e.at r er) e₁ e₂ e₃

  pub set_key_entries : entries_of e.count l₃ ≡ with_key e.index key (entries_of e.count l)
  set_key_entries = rekeyed_entries l l₁ l₂ l₃ key e.count e.index e.used e.at r.value (u16_at (drop e.at l) 0) (u16_at (drop e.at l) 2) q.used
      q.start h room kf refl refl (at_value l e.at r er) e₁ e₂ e₃

-- ---- a record with another value

module _ (l l₁ l₂ l₃ value : List ℕ) (n i used at v next klen mark : ℕ) (pu : used ≡ records_length n l) (pa : at ≡ records_length i l) (h : i < n)
    (value-within : records_length n l ≤ length l) (room : v + length value + (used - next) ≤ length l) (mf : mark < 2 ^ 16)
    (mv : mark_length mark ≡ length value) (pk : klen ≡ u16_at (drop at l) 0) (pv : v ≡ at + 4 + klen) (pn : next ≡ at + record_length (drop at l))
    (e₁ : l₁ ≡ moved l next (v + length value) (used - next)) (e₂ : l₂ ≡ splice l₁ v value) (e₃ : l₃ ≡ splice l₂ (at + 2) (bytes_of 2 mark)) where
  value_next : v ≤ next
  value_next = let a = part_length at klen (u16_at (drop at l) 2) l pk refl in omega arith

  value_used : next ≤ used
  value_used = let a = next_used l n i used at pu pa h in omega arith

  value_changed : l₃ ≡ splice l at (window at 2 l ++ (bytes_of 2 mark ++ (window (at + 4) klen l ++ (value ++ window next (used - next) l))))
  unfolding moved
  value_changed =
      let vn = value_next in
      let nu = value_used in
      let w : List ℕ = window next (used - next) l in
      let lw : length w ≡ used - next = length_window next (used - next) l (omega arith) in
      let mb : List ℕ = bytes_of 2 mark in
      let lb : length mb ≡ 2 = length_bytes_of 2 mark in
      let k : List ℕ = window (at + 4) klen l in
      let lk : length k ≡ klen = length_window (at + 4) klen l (omega arith) in
      let y : List ℕ = k ++ (value ++ w) in
      let ly : length y ≡ klen + (length value + (used - next)) = simp length-append (omega arith) in
      let two : l₂ ≡ splice l v (value ++ w) = e₂ ∙ ap (λ (x : List ℕ). splice x v value) e₁ ∙ splice_under l v value w (omega arith) in
      let wide : splice l v (value ++ w) ≡ splice l (at + 4) y = ap (λ (x : ℕ). splice l x (value ++ w)) pv ∙ splice_widen l (at + 4) klen
      (value ++ w) (omega arith) in
      let four : at + 4 ≡ at + 2 + length mb = omega arith in
      let under : splice (splice l (at + 2 + length mb) y) (at + 2) mb ≡ splice l (at + 2) (mb ++ y) = splice_under l (at + 2) mb y (omega arith) in
      e₃ ∙ ap (λ (x : List ℕ). splice x (at + 2) mb) (two ∙ wide ∙ ap (λ (x : ℕ). splice l x y) four) ∙ under ∙ splice_widen l at 2 (mb ++ y)
      (omega arith)

  length_kept : le (window at 2 l) ≡ klen
  unfolding field_at
  length_kept = ap (λ (x : ℕ). le (window x 2 l)) (sym (add-zero at)) ∙ sym (field_drop 2 at l 0) ∙ sym pk

  key_kept : le (window at 2 l) ≡ length (window (at + 4) klen l)
  key_kept = let vn = value_next in let nu = value_used in length_kept ∙ sym (length_window (at + 4) klen l (omega arith))

  mark_set : le (bytes_of 2 mark) ≡ mark
  mark_set = let f : mark < 256 ^ 2 = mf in le_bytes_of 2 mark f

  count_same : i + (1 + (n - (i + 1))) ≡ n
  count_same = omega arith

  pub revalued_length : records_length n l₃ ≡ v + length value + (used - next)
  revalued_length =
      let ij : i ≤ i + 1 = omega arith in
      let jn : i + 1 ≤ n = omega arith in
      let vn = value_next in
      let nu = value_used in
      let wi : at + 2 ≤ length l = omega arith in
      let lk = length_window (at + 4) klen l (omega arith) in
      ap (λ (x : ℕ). records_length x l₃) (sym count_same)
      ∙ put_length l l₃ (window at 2 l) (bytes_of 2 mark) (window (at + 4) klen l) value n i (i + 1) used at next (length_window at 2 l wi)
      (length_bytes_of 2 mark) key_kept (ap mark_length mark_set ∙ mv) ij jn value-within pu pa (at_next l i at next pa pn) value_changed
      ∙ omega arith

  pub revalued_entries : entries_of n l₃ ≡ with_value i (value_of mark value) (entries_of n l)
  unfolding with_value revalued
  revalued_entries =
      let ij : i ≤ i + 1 = omega arith in
      let jn : i + 1 ≤ n = omega arith in
      let vn = value_next in
      let nu = value_used in
      let wi : at + 2 ≤ length l = omega arith in
      ap (λ (x : ℕ). entries_of x l₃) (sym count_same)
      ∙ put_entries_lem l l₃ (window at 2 l) (bytes_of 2 mark) (window (at + 4) klen l) value n i (i + 1) used at next (length_window at 2 l wi)
      (length_bytes_of 2 mark) key_kept (ap mark_length mark_set ∙ mv) ij jn value-within pu pa (at_next l i at next pa pn) value_changed
      ∙ ap₂ (λ (x : List ℕ) (y : ℕ). take i (entries_of n l) ++ (record { key = x; value = value_of y value } ∷ drop (i + 1) (entries_of n l)))
      (sym (part_key at klen l pk)) mark_set
      ∙ ap (λ (x : List Entry). take i (entries_of n l) ++ revalued (value_of mark value) x) (sym (entries_head i n at l h pa))

pub set_value_used : (l : List ℕ) (w : Val) (e : EntryAt) (r : RecordParts) (x : ℕ) → EntryUpto l e → e.index < e.count → r ≡ parts_at l e.at
    → x ≡ value_length w → e.used + value_length w ≤ length l
    → r.value + x + (e.used - r.next) + value_length (entry_of (drop e.at l)).value ≡ e.used + value_length w
set_value_used l w e r x q h er ex room =
    let n = entry_end l e q h in
    let lies : record_length (drop e.at l) ≤ length (drop e.at l) = rw length-drop (omega arith) in
    omega (
      arith,
      entry_value_length (drop e.at l) lies,
      at_value l e.at r er,
      at_after l e.at r er,
      part_length e.at (u16_at (drop e.at l) 0) (u16_at (drop e.at l) 2) l refl refl,
    )

module _ (l l₁ l₂ l₃ : List ℕ) (w : Val) (e : EntryAt) (r : RecordParts) (x mark : ℕ) (q : EntryUpto l e) (h : e.index < e.count)
    (er : r ≡ parts_at l e.at) (ex : x ≡ value_length w) (room : e.used + value_length w ≤ length l) (held_lem : Held w) (pm : mark ≡ mark_of w)
    (e₁ : l₁ ≡ moved l r.next (r.value + x) (e.used - r.next)) (e₂ : l₂ ≡ splice l₁ r.value (value_bytes w))
    (e₃ : l₃ ≡ splice l₂ (e.at + 2) (bytes_of 2 mark)) where
  abbrev klen : ℕ
  klen = u16_at (drop e.at l) 0

  set_within : records_length e.count l ≤ length l
  set_within = omega (arith, q.used)

  set_room : r.value + length (value_bytes w) + (e.used - r.next) ≤ length l
  set_room = omega (
    arith,
    part_length e.at klen (u16_at (drop e.at l) 2) l refl refl,
    entry_end l e q h,
    length_value_bytes w,
    at_value l e.at r er,
    at_after l e.at r er,
  )

  set_moved : l₁ ≡ moved l r.next (r.value + length (value_bytes w)) (e.used - r.next)
  set_moved = e₁ ∙ ap (λ (y : ℕ). moved l r.next (r.value + y) (e.used - r.next)) (ex ∙ sym (length_value_bytes w))

  set_mark : mark < 2 ^ 16
  set_mark = omega (arith, mark_small w held_lem)

  set_long : mark_length mark ≡ length (value_bytes w)
  set_long = ap mark_length pm ∙ mark_fits w held_lem

  pub set_value_length : records_length e.count l₃ ≡ r.value + x + (e.used - r.next)
  set_value_length =
      revalued_length l l₁ l₂ l₃ (value_bytes w) e.count e.index e.used e.at r.value r.next klen mark q.used q.start h set_within set_room set_mark
      set_long refl (at_value l e.at r er) (at_after l e.at r er) set_moved e₂ e₃
      ∙ ap (λ (y : ℕ). r.value + y + (e.used - r.next)) (length_value_bytes w ∙ sym ex)

  pub set_value_entries : entries_of e.count l₃ ≡ with_value e.index w (entries_of e.count l)
  set_value_entries =
      revalued_entries l l₁ l₂ l₃ (value_bytes w) e.count e.index e.used e.at r.value r.next klen mark q.used q.start h set_within set_room set_mark
      set_long refl (at_value l e.at r er) (at_after l e.at r er) set_moved e₂ e₃
      ∙ ap (λ (y : Val). with_value e.index y (entries_of e.count l)) (ap (λ (m : ℕ). value_of m (value_bytes w)) pm ∙ value_back w held_lem)

-- ---- the last records, at the start of another slot

module _ (l o o' : List ℕ) (n i used at : ℕ) (within : used ≤ length l) (pu : used ≡ records_length n l) (pa : at ≡ records_length i l) (h : i ≤ n)
    (e : o' ≡ splice o 0 (take (used - at) (drop at l))) where
  tail_agrees : take (used - at) o' ≡ take (used - at) (drop at l)
  unfolding splice
  tail_agrees =
      let w : List ℕ = take (used - at) (drop at l) in
      let a = records_less i n l h in
      let lw : length w ≡ used - at = length-take-le (used - at) (drop at l) (rw length-drop (omega arith)) in
      ap (take (used - at)) e ∙ take_at w (drop (0 + length w) o) (used - at) lw

  tail_fits : records_length (n - i) (drop at l) ≡ used - at
  tail_fits = rest_length l n i used at pu pa h

  pub part_tail_length : records_length (n - i) o' ≡ used - at
  part_tail_length = let f = tail_fits in let g : records_length (n - i) (drop at l) ≤ used - at = omega arith in records_local (n - i) (used - at)
      (drop at l) o' g tail_agrees ∙ tail_fits

  pub part_tail_entries : entries_of (n - i) o' ≡ drop i (entries_of n l)
  part_tail_entries =
      let f = tail_fits in
      let g : records_length (n - i) (drop at l) ≤ used - at = omega arith in
      entries_local (n - i) (used - at) (drop at l) o' g tail_agrees ∙ ap (λ (x : ℕ). entries_of (n - i) (drop x l)) pa ∙ sym (entries_rest i n l h)

-- ---- the key and the value of a record, read

module _ (l : List ℕ) (at : ℕ) (r : RecordParts) (e : r ≡ parts_at l at) where
  pub key_start : r.key ≤ r.value
  key_start = let a = at_key l at r e in let b = at_value l at r e in omega arith

  pub value_past : at + 4 ≤ r.value
  value_past = let a = at_value l at r e in omega arith

  pub value_before : r.value ≤ at + record_length (drop at l)
  value_before = let a = at_value l at r e in let b = part_length at (u16_at (drop at l) 0) (u16_at (drop at l) 2) l refl refl in omega arith

  pub key_end : at + record_length (drop at l) ≤ length l → r.value ≤ length l
  key_end h = let a = value_before in omega arith

  pub key_part : take (r.value - r.key) (drop r.key l) ≡ (entry_of (drop at l)).key
  unfolding window
  key_part =
      let a = at_key l at r e in
      let b = at_value l at r e in
      let n : r.value - r.key ≡ u16_at (drop at l) 0 = omega arith in
      ap₂ (λ (x y : ℕ). take x (drop y l)) n a ∙ sym (part_key at (u16_at (drop at l) 0) l refl)

  value_there : (entry_of (drop at l)).value ≡ value_of r.mark (window r.value (mark_length r.mark) l)
  value_there = part_value at r.value (u16_at (drop at l) 0) r.mark l refl (at_mark l at r e) (at_value l at r e)

  value_long : r.next ≡ r.value + r.vlen
  value_long =
      let a = at_value l at r e in
      let b = part_length at (u16_at (drop at l) 0) (u16_at (drop at l) 2) l refl refl in
      omega (arith, at_after l at r e, at_vlen l at r e)

  pub value_start : r.value ≤ r.next
  value_start = omega (arith, value_long)

  pub value_end : at + record_length (drop at l) ≤ length l → r.next ≤ length l
  value_end h = omega (arith, at_after l at r e)

  pub value_window : r.mark ≤ 0xFFFC → leaf (window r.value r.vlen l) ≡ (entry_of (drop at l)).value
  unfolding value_of
  value_window h = ap (λ (x : ℕ). leaf (window r.value x l)) (at_length l at r e) ∙ sym (value_there ∙ rw (le-leb r.mark 0xFFFC h))

  pub value_leaf : (v : Bor (List ℕ)) → v.now ≡ take (r.next - r.value) (drop r.value l) → r.mark ≤ 0xFFFC
      → value_means (held.Leaf v) ≡ (entry_of (drop at l)).value
  unfolding value_means window
  value_leaf v s h =
      let n : r.next - r.value ≡ r.vlen = omega (arith, value_long) in
      ap leaf s ∙ ap (λ (x : ℕ). leaf (take x (drop r.value l))) n ∙ value_window h

  pub value_ghost : 0xFFFC < r.mark → r.mark ≡ 0xFFFF → value_means held.Ghost ≡ (entry_of (drop at l)).value
  unfolding value_means value_of
  value_ghost h q = sym (value_there ∙ rw (lt-leb r.mark 0xFFFC h, eq-eqb r.mark 0xFFFF q))

  pub value_room : at + record_length (drop at l) ≤ length l → 0xFFFC < r.mark → (r.mark ≡ 0xFFFF → ⊥) → r.value + 8 ≤ length l
  value_room room h q =
      let a = at_value l at r e in
      let b = part_length at (u16_at (drop at l) 0) r.mark l refl (at_mark l at r e) in
      let m = mark_child r.mark h q in
      omega arith

  pub value_disk : (x : ℕ) → 0xFFFC < r.mark → (r.mark ≡ 0xFFFF → ⊥) → r.mark ≡ 0xFFFE → x ≡ u64_at l r.value
      → value_means (held.Child (child.Disk x)) ≡ (entry_of (drop at l)).value
  unfolding value_means child_means value_of field_at
  value_disk x h q d p =
      let m = mark_child r.mark h q in
      ap disk p ∙ sym (value_there ∙ rw (lt-leb r.mark 0xFFFC h, ne_eqb r.mark 0xFFFF q, eq-eqb r.mark 0xFFFE d, ← m))

  pub value_mem : (x : ℕ) → 0xFFFC < r.mark → (r.mark ≡ 0xFFFF → ⊥) → (r.mark ≡ 0xFFFE → ⊥) → x ≡ u64_at l r.value
      → value_means (held.Child (child.Mem x)) ≡ (entry_of (drop at l)).value
  unfolding value_means child_means value_of field_at
  value_mem x h q d p =
      let m = mark_child r.mark h q in
      ap mem p ∙ sym (value_there ∙ rw (lt-leb r.mark 0xFFFC h, ne_eqb r.mark 0xFFFF q, ne_eqb r.mark 0xFFFE d, ← m))

-- what `Record::key` and `Record::value` take of these
pub ruleset key = (key_start, key_end, key_part)

pub ruleset value = (value_start, value_end, value_leaf, value_ghost, value_room, value_disk, value_mem)

-- what the writers of one slot take of these
pub ruleset writes_insert = (entry_used, insert_entries, insert_length)

pub ruleset writes_remove = (entry_end, entry_lies, remove_entries, remove_length)

pub ruleset writes_set_key = (entry_end, entry_lies_room, value_before, value_past, set_key_length, set_key_used, set_key_entries)

pub ruleset writes_set_value = (entry_end, entry_lies_room, value_before, value_past, at_after, set_value_length, set_value_entries)
