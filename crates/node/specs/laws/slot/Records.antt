-- Laws of records in a slot. Assumes nothing.
use Rattle.std.specs.Prelude.{◌≡◌, Bool, leb, eqb}
use Rattle.std.proofs.Math.Path.{refl, sym, ap, ap₂}
use Rattle.std.proofs.Common.{◌∙◌, add-zero, zero-add, suc-add, add_assoc, length-append, length-drop, drop-drop, take-add}
use mathlib.Core.List.{List, [], ◌∷◌, ◌++◌, append_assoc}
use Rattle.std.proofs.Math.Bool.{true, false}
use Prim.Native.Nat.{ℕ, zero, suc, ◌+◌, ◌-◌, ◌*◌, ◌≤◌, ◌<◌, ◌^◌}
use native.Mathlib.Omega.{arith}
use Rattle.std.proofs.Math.ListN.{length, take, drop}
use Rattle.std.proofs.Math.Seq.{take_at, drop_at, take-append_seam, take-length}
use borrow.Author.Tests.{le-leb, lt-leb, eq-eqb, ne_eqb, leb-true, leb-false, eqb-true, eqb-false}
use Rattle.seal.specs.Bytes.{u16_at, field_at, le, window, splice, bytes_of}
use Rattle.seal.specs.laws.WindowLaws.{length_window, splice_run}
use Rattle.seal.specs.laws.FieldLaws.{field_drop, le_bytes_of, length_bytes_of}
use Rattle.node.specs.laws.base.Splice.{window_local, field_local, drop_local, take_window, field_bytes}
use Rattle.node.specs.laws.base.Bytes.{Bytes, bytes_drop, bytes_window, bytes_of_le, le_take_below, field_below}
use Rattle.node.specs.Cut.{entry_size, size}
use Rattle.node.specs.Entry.{Entry, Val, ghost, leaf, disk, mem, value_bytes, value_length}
use Rattle.node.specs.Records.{mark_of, mark_length, value_of, record_length, entry_of, records_length, entries_of, record_bytes, record_of, records_of}
use Rattle.node.specs.internal.SlotSteps.{parts_at}
use Rattle.node.specs.internal.Storable.{Held, Storable}
use Rattle.node.specs.declared.record.RecordParts.{RecordParts}

-- ---- the length of a value, by its bytes and by its mark

pub length_value_bytes : (v : Val) → length (value_bytes v) ≡ value_length v
unfolding value_bytes value_length
length_value_bytes ghost = refl
length_value_bytes (leaf v) = refl
length_value_bytes (disk r) = length_bytes_of 8 r
length_value_bytes (mem s) = length_bytes_of 8 s

pub mark_leaf : (m : ℕ) → m ≤ 0xFFFC → m ≡ mark_length m
unfolding mark_length
mark_leaf m h = rw (le-leb m 0xFFFC h)

pub mark_ghost : (m : ℕ) → 0xFFFC < m → m ≡ 0xFFFF → 0 ≡ mark_length m
unfolding mark_length
mark_ghost m h e = rw (lt-leb m 0xFFFC h, eq-eqb m 0xFFFF e)

pub mark_child : (m : ℕ) → 0xFFFC < m → (m ≡ 0xFFFF → ⊥) → 8 ≡ mark_length m
unfolding mark_length
mark_child m h e = rw (lt-leb m 0xFFFC h, ne_eqb m 0xFFFF e)

-- ---- the record at an offset

pub record_room : (l : List ℕ) (at : ℕ) → at + record_length (drop at l) ≤ length l → at + 4 ≤ length l
unfolding record_length
record_room l at h = omega arith

pub record_room_2 : (l : List ℕ) (at : ℕ) → at + record_length (drop at l) ≤ length l → at + 2 + 2 ≤ length l
record_room_2 l at h = let r = record_room l at h in omega arith

pub record_room_1 : (l : List ℕ) (at : ℕ) → at + record_length (drop at l) ≤ length l → at + 2 ≤ length l
record_room_1 l at h = let r = record_room l at h in omega arith

-- a field of the record at an offset, as a field of the list
pub record_klen : (l : List ℕ) (at : ℕ) → u16_at (drop at l) 0 ≡ u16_at l at
record_klen l at = field_drop 2 at l 0 ∙ ap (field_at 2 l) (add-zero at)

pub record_mark : (l : List ℕ) (at : ℕ) → u16_at (drop at l) 2 ≡ u16_at l (at + 2)
record_mark l at = field_drop 2 at l 2

pub record_parts : (l : List ℕ) (at klen mark vlen : ℕ) → klen ≡ u16_at l at → mark ≡ u16_at l (at + 2) → vlen ≡ mark_length mark
    → ◌≡◌ {A = RecordParts} (record { key = at + 4; klen = klen; mark = mark; value = at + 4 + klen; vlen = vlen; next = at + 4 + klen + vlen })
    (parts_at l at)
unfolding parts_at record_length
record_parts l at klen mark vlen p q r =
    let k : u16_at (drop at l) 0 ≡ klen = record_klen l at ∙ sym p in
    let m : u16_at (drop at l) 2 ≡ mark = record_mark l at ∙ sym q in
    let n : at + 4 + klen + vlen ≡ at + (4 + klen + vlen) = omega arith in
    rw (k, m, ← r, n)

module _ (l : List ℕ) (at : ℕ) (r : RecordParts) (e : r ≡ parts_at l at) where
  pub at_key : r.key ≡ at + 4
  unfolding parts_at
  at_key = ap (λ (x : RecordParts). x.key) e

  pub at_klen : r.klen ≡ u16_at (drop at l) 0
  unfolding parts_at
  at_klen = ap (λ (x : RecordParts). x.klen) e

  pub at_mark : r.mark ≡ u16_at (drop at l) 2
  unfolding parts_at
  at_mark = ap (λ (x : RecordParts). x.mark) e

  pub at_value : r.value ≡ at + 4 + u16_at (drop at l) 0
  unfolding parts_at
  at_value = ap (λ (x : RecordParts). x.value) e

  pub at_vlen : r.vlen ≡ mark_length (u16_at (drop at l) 2)
  unfolding parts_at
  at_vlen = ap (λ (x : RecordParts). x.vlen) e

  pub at_length : r.vlen ≡ mark_length r.mark
  at_length = at_vlen ∙ ap mark_length (sym at_mark)

  pub at_after : r.next ≡ at + record_length (drop at l)
  unfolding parts_at
  at_after = ap (λ (x : RecordParts). x.next) e

-- ---- whether a record lies within the list

pub lies_no : (l : List ℕ) (at : ℕ) → at ≤ length l → length l - at < 4 → leb (at + record_length (drop at l)) (length l) ≡ false
unfolding record_length
lies_no l at h s = lt-leb (at + record_length (drop at l)) (length l) (omega arith)

module _ (l : List ℕ) (at klen mark vlen : ℕ) (h : at ≤ length l) (s : 4 ≤ length l - at) (p : klen ≡ u16_at l at) (q : mark ≡ u16_at l (at + 2))
    (r : vlen ≡ mark_length mark) where
  lies_length : record_length (drop at l) ≡ 4 + klen + vlen
  unfolding record_length
  lies_length =
      let k : u16_at (drop at l) 0 ≡ klen = record_klen l at ∙ sym p in
      let m : mark_length (u16_at (drop at l) 2) ≡ vlen = ap mark_length (record_mark l at ∙ sym q) ∙ sym r in
      rw (k, m)

  pub lies_long : length l - at - 4 < klen + vlen → leb (at + record_length (drop at l)) (length l) ≡ false
  lies_long t = let e = lies_length in lt-leb (at + record_length (drop at l)) (length l) (omega arith)

  pub lies_there : klen + vlen ≤ length l - at - 4 → at + record_length (drop at l) ≤ length l
  lies_there t = let e = lies_length in omega arith

-- ---- a record stored

pub length_bytes : (k : List ℕ) (m : ℕ) (v : List ℕ) → length (record_bytes k m v) ≡ 4 + length k + length v
unfolding record_bytes
length_bytes k m v = simp (length-append, length_bytes_of)

pub length_head : (k : List ℕ) (m : ℕ) → length (bytes_of 2 (length k) ++ bytes_of 2 m) ≡ 4
length_head k m = simp (length-append, length_bytes_of)

pub length_head_key : (k : List ℕ) (m : ℕ) → length (bytes_of 2 (length k) ++ bytes_of 2 m ++ k) ≡ 4 + length k
length_head_key k m = simp (length-append, length_bytes_of)

pub head_joined : (l l₁ l₂ l₃ k : List ℕ) (at m : ℕ) → at + 4 + length k ≤ length l → l₁ ≡ splice l at (bytes_of 2 (length k))
    → l₂ ≡ splice l₁ (at + 2) (bytes_of 2 m)
    → l₃ ≡ splice l₂ (at + 4) k → l₃ ≡ splice l at (bytes_of 2 (length k) ++ bytes_of 2 m ++ k)
head_joined l l₁ l₂ l₃ k at m h p q r =
    let a : length (bytes_of 2 (length k)) ≡ 2 = length_bytes_of 2 (length k) in
    let b : length (bytes_of 2 m) ≡ 2 = length_bytes_of 2 m in
    let d : length (bytes_of 2 (length k) ++ bytes_of 2 m) ≡ 4 = length_head k m in
    let pq : l₂ ≡ splice l at (bytes_of 2 (length k) ++ bytes_of 2 m) = splice_run l l₁ l₂ at (bytes_of 2 (length k)) (at + 2) (bytes_of 2 m)
    (omega arith) (omega arith) p q in
    splice_run l l₂ l₃ at (bytes_of 2 (length k) ++ bytes_of 2 m) (at + 4) k (omega arith) (omega arith) pq r

pub put_record : (l l₁ l₂ l₃ l₄ k v : List ℕ) (at m : ℕ) → at + 4 + length k + length v ≤ length l → l₁ ≡ splice l at (bytes_of 2 (length k))
    → l₂ ≡ splice l₁ (at + 2) (bytes_of 2 m)
    → l₃ ≡ splice l₂ (at + 4) k → l₄ ≡ splice l₃ (at + 4 + length k) v → l₄ ≡ splice l at (record_bytes k m v)
unfolding record_bytes
put_record l l₁ l₂ l₃ l₄ k v at m h e₁ e₂ e₃ e₄ =
    let n : length (bytes_of 2 (length k) ++ bytes_of 2 m ++ k) ≡ 4 + length k = length_head_key k m in
    splice_run l l₃ l₄ at (bytes_of 2 (length k) ++ bytes_of 2 m ++ k) (at + 4 + length k) v (omega arith) h
    (head_joined l l₁ l₂ l₃ k at m (omega arith) e₁ e₂ e₃) e₄

-- of a value: its own mark and bytes
pub put_record_of : (l l₁ l₂ l₃ l₄ k : List ℕ) (v : Val) (at m : ℕ) → at + 4 + length k + value_length v ≤ length l
    → l₁ ≡ splice l at (bytes_of 2 (length k)) → m ≡ mark_of v → l₂ ≡ splice l₁ (at + 2) (bytes_of 2 m)
    → l₃ ≡ splice l₂ (at + 4) k → l₄ ≡ splice l₃ (at + 4 + length k) (value_bytes v) → l₄ ≡ splice l at (record_of (record { key = k; value = v }))
unfolding record_of record_bytes
put_record_of l l₁ l₂ l₃ l₄ k v at m h e₁ em e₂ e₃ e₄ =
    put_record l l₁ l₂ l₃ l₄ k (value_bytes v) at m (omega (arith, length_value_bytes v)) e₁ e₂ e₃ e₄
    ∙ ap (λ (x : ℕ). splice l at (record_bytes k x (value_bytes v))) em

-- ---- records that lists with the same first m bytes share

pub record_local : (m : ℕ) (l l' : List ℕ) → record_length l ≤ m → take m l' ≡ take m l → record_length l' ≡ record_length l
unfolding record_length
record_local m l l' h e =
    let a : u16_at l' 0 ≡ u16_at l 0 = field_local 2 0 m l l' (omega arith) e in
    let b : u16_at l' 2 ≡ u16_at l 2 = field_local 2 2 m l l' (omega arith) e in
    ap₂ (λ (x y : ℕ). 4 + x + mark_length y) a b

pub entry_local : (m : ℕ) (l l' : List ℕ) → record_length l ≤ m → take m l' ≡ take m l → entry_of l' ≡ entry_of l
unfolding record_length entry_of
entry_local m l l' h e =
    let a : u16_at l' 0 ≡ u16_at l 0 = field_local 2 0 m l l' (omega arith) e in
    let b : u16_at l' 2 ≡ u16_at l 2 = field_local 2 2 m l l' (omega arith) e in
    let k : window 4 (u16_at l 0) l' ≡ window 4 (u16_at l 0) l = window_local 4 (u16_at l 0) m l l' (omega arith) e in
    let v : window (4 + u16_at l 0) (mark_length (u16_at l 2)) l' ≡ window (4 + u16_at l 0) (mark_length (u16_at l 2)) l =
    window_local (4 + u16_at l 0)
    (mark_length (u16_at l 2)) m l l' (omega arith) e in
    rw (a, b, k, v)

pub records_local : (n m : ℕ) (l l' : List ℕ) → records_length n l ≤ m → take m l' ≡ take m l → records_length n l' ≡ records_length n l
unfolding records_length
records_local zero m l l' h e = refl
records_local (suc n) m l l' h e =
    let r : ℕ = record_length l in
    let p : record_length l' ≡ r = record_local m l l' (omega arith) e in
    let d : take (m - r) (drop r l') ≡ take (m - r) (drop r l) = drop_local r m l l' (omega arith) e in
    ap (λ (x : ℕ). x + records_length n (drop x l')) p ∙ ap (λ (x : ℕ). r + x) (records_local n (m - r) (drop r l) (drop r l') (omega arith) d)

pub entries_local : (n m : ℕ) (l l' : List ℕ) → records_length n l ≤ m → take m l' ≡ take m l → entries_of n l' ≡ entries_of n l
unfolding records_length entries_of
entries_local zero m l l' h e = refl
entries_local (suc n) m l l' h e =
    let r : ℕ = record_length l in
    let p : record_length l' ≡ r = record_local m l l' (omega arith) e in
    let q : entry_of l' ≡ entry_of l = entry_local m l l' (omega arith) e in
    let d : take (m - r) (drop r l') ≡ take (m - r) (drop r l) = drop_local r m l l' (omega arith) e in
    ap₂ (λ (x : Entry) (y : List Entry). x ∷ y) q (ap (λ (x : ℕ). entries_of n (drop x l')) p ∙ entries_local n (m - r) (drop r l) (drop r l')
    (omega arith) d)

-- ---- some records, and the records after them

pub length_entries : (n : ℕ) (l : List ℕ) → length (entries_of n l) ≡ n
unfolding entries_of
length_entries zero l = refl
length_entries (suc n) l = ap suc (length_entries n (drop (record_length l) l))

pub records_add : (i m : ℕ) (l : List ℕ) → records_length (i + m) l ≡ records_length i l + records_length m (drop (records_length i l) l)
unfolding records_length
records_add zero m l = rw (zero-add m, zero-add (records_length m l))
records_add (suc i) m l =
    let r : ℕ = record_length l in
    let x : ℕ = records_length i (drop r l) in
    ap (λ (k : ℕ). records_length k l) (suc-add i m)
    ∙ ap (λ (k : ℕ). r + k) (records_add i m (drop r l))
    ∙ ap (λ (q : List ℕ). r + (x + records_length m q)) (drop-drop x r l)
    ∙ sym (add_assoc r x (records_length m (drop (r + x) l)))

pub entries_add : (i m : ℕ) (l : List ℕ) → entries_of (i + m) l ≡ entries_of i l ++ entries_of m (drop (records_length i l) l)
unfolding records_length entries_of
entries_add zero m l = rw (zero-add m)
entries_add (suc i) m l =
    let r : ℕ = record_length l in
    let x : ℕ = records_length i (drop r l) in
    ap (λ (k : ℕ). entries_of k l) (suc-add i m)
    ∙ ap (λ (k : List Entry). entry_of l ∷ k) (entries_add i m (drop r l))
    ∙ ap (λ (q : List ℕ). entry_of l ∷ (entries_of i (drop r l) ++ entries_of m q)) (drop-drop x r l)

pub records_next : (i : ℕ) (l : List ℕ) → records_length (i + 1) l ≡ records_length i l + record_length (drop (records_length i l) l)
unfolding records_length
records_next i l = records_add i 1 l ∙ ap (λ (x : ℕ). records_length i l + x) (add-zero (record_length (drop (records_length i l) l)))

pub records_rest : (j n : ℕ) (l : List ℕ) → j ≤ n → records_length j l + records_length (n - j) (drop (records_length j l) l) ≡ records_length n l
records_rest j n l h = let e : j + (n - j) ≡ n = omega arith in sym (records_add j (n - j) l) ∙ ap (λ (k : ℕ). records_length k l) e

pub records_less : (i n : ℕ) (l : List ℕ) → i ≤ n → records_length i l ≤ records_length n l
records_less i n l h = omega (arith, records_rest i n l h)

pub record_sum : (l : List ℕ) → record_length l ≡ 4 + u16_at l 0 + mark_length (u16_at l 2)
unfolding record_length
record_sum l = refl

pub records_least : (n : ℕ) (l : List ℕ) → 4 * n ≤ records_length n l
unfolding records_length
records_least zero l = omega arith
records_least (suc n) l = omega (arith, record_sum l, records_least n (drop (record_length l) l))

pub entries_next : (i : ℕ) (l : List ℕ) → entries_of (i + 1) l ≡ entries_of i l ++ (entry_of (drop (records_length i l) l) ∷ [])
unfolding entries_of
entries_next i l = entries_add i 1 l

-- a record that is not the last lies in the list
pub record_in : (i n : ℕ) (l : List ℕ) → i < n → records_length n l ≤ length l → records_length i l + record_length (drop (records_length i l) l)
    ≤ length l
record_in i n l h k = omega (arith, records_next i l, records_less (i + 1) n l (omega arith))

pub entries_front : (i n : ℕ) (l : List ℕ) → i ≤ n → take i (entries_of n l) ≡ entries_of i l
entries_front i n l h =
    let e : n ≡ i + (n - i) = omega arith in
    ap (take i) (ap (λ (k : ℕ). entries_of k l) e ∙ entries_add i (n - i) l)
    ∙ take_at (entries_of i l) (entries_of (n - i) (drop (records_length i l) l)) i (length_entries i l)

pub entries_rest : (j n : ℕ) (l : List ℕ) → j ≤ n → drop j (entries_of n l) ≡ entries_of (n - j) (drop (records_length j l) l)
entries_rest j n l h =
    let e : n ≡ j + (n - j) = omega arith in
    ap (drop j) (ap (λ (k : ℕ). entries_of k l) e ∙ entries_add j (n - j) l)
    ∙ drop_at (entries_of j l) (entries_of (n - j) (drop (records_length j l) l)) j (length_entries j l)

pub entries_head : (i n at : ℕ) (l : List ℕ) → i < n → at ≡ records_length i l → drop i (entries_of n l) ≡ entry_of (drop at l) ∷ drop (i + 1)
    (entries_of n l)
unfolding entries_of
entries_head i n at l h p =
    let h' : i ≤ n = omega arith in
    let k : ℕ = n - (i + 1) in
    let e : n - i ≡ suc k = omega arith in
    let d : List ℕ = drop (records_length i l) l in
    let a : drop i (entries_of n l) ≡ entry_of d ∷ entries_of k (drop (record_length d) d) = entries_rest i n l h'
    ∙ ap (λ (x : ℕ). entries_of x d) e in
    let b : drop (i + 1) (entries_of n l) ≡ entries_of k (drop (record_length d) d) = sym (drop-drop 1 i (entries_of n l)) ∙ ap (drop 1) a in
    a ∙ ap₂ (λ (x : ℕ) (y : List Entry). entry_of (drop x l) ∷ y) (sym p) (sym b)

-- ---- a record decoded from its parts

module _ (a b k v t : List ℕ) (la : length a ≡ 2) (lb : length b ≡ 2) (lk : le a ≡ length k) (lv : mark_length (le b) ≡ length v) where
  whole : List ℕ
  whole = a ++ (b ++ (k ++ (v ++ t)))

  key_field : u16_at whole 0 ≡ le a
  unfolding whole field_at window
  key_field = ap le (take_at a (b ++ (k ++ (v ++ t))) 2 la)

  mark_field : u16_at whole 2 ≡ le b
  unfolding whole field_at window
  mark_field = ap le (ap (take 2) (drop_at a (b ++ (k ++ (v ++ t))) 2 la) ∙ take_at b (k ++ (v ++ t)) 2 lb)

  past_head : drop 4 whole ≡ k ++ (v ++ t)
  unfolding whole
  past_head = sym (drop-drop 2 2 whole) ∙ ap (drop 2) (drop_at a (b ++ (k ++ (v ++ t))) 2 la) ∙ drop_at b (k ++ (v ++ t)) 2 lb

  pub decoded_length : record_length (a ++ (b ++ (k ++ (v ++ t)))) ≡ 4 + length k + length v
  unfolding whole record_length
  decoded_length = ap₂ (λ (x y : ℕ). 4 + x + mark_length y) (key_field ∙ lk) mark_field ∙ ap (λ (x : ℕ). 4 + length k + x) lv

  pub decoded : ◌≡◌ {A = Entry} (entry_of (a ++ (b ++ (k ++ (v ++ t))))) (record { key = k; value = value_of (le b) v })
  unfolding whole entry_of window
  decoded =
      let f : u16_at whole 0 ≡ length k = key_field ∙ lk in
      let g : take (length k) (drop 4 whole) ≡ k = ap (take (length k)) past_head ∙ take-append_seam k (v ++ t) in
      let d : drop (4 + length k) whole ≡ v ++ t = sym (drop-drop (length k) 4 whole) ∙ ap (drop (length k)) past_head
      ∙ drop_at k (v ++ t) (length k) refl in
      let w : take (length v) (drop (4 + length k) whole) ≡ v = ap (take (length v)) d ∙ take-append_seam v t in
      rw (f, mark_field, lv, g, w)

-- ---- encoding and decoding: what a record can hold

pub data Storables : List Entry → Type 0 where
  none : Storables []
  more : {e : Entry} {es : List Entry} → Storable e → Storables es → Storables (e ∷ es)

pub value_back : (v : Val) → Held v → value_of (mark_of v) (value_bytes v) ≡ v
unfolding value_of mark_of value_bytes
value_back ghost h = refl
value_back (leaf v) h = rw (le-leb (length v) 0xFFFC h)
value_back (disk r) h = ap disk (le_bytes_of 8 r h)
value_back (mem s) h = ap mem (le_bytes_of 8 s h)

pub mark_fits : (v : Val) → Held v → mark_length (mark_of v) ≡ length (value_bytes v)
unfolding mark_length mark_of value_bytes
mark_fits ghost h = refl
mark_fits (leaf v) h = rw (le-leb (length v) 0xFFFC h)
mark_fits (disk r) h = sym (length_bytes_of 8 r)
mark_fits (mem s) h = sym (length_bytes_of 8 s)

pub mark_small : (v : Val) → Held v → mark_of v < 256 ^ 2
unfolding mark_of
mark_small ghost h = omega arith
mark_small (leaf v) h = omega arith
mark_small (disk r) h = omega arith
mark_small (mem s) h = omega arith

-- a record's bytes, bracketed to the right
record_right : (e : Entry) (t : List ℕ) → record_of e ++ t ≡ bytes_of 2 (length e.key) ++
    (bytes_of 2 (mark_of e.value) ++ (e.key ++ (value_bytes e.value ++ t)))
unfolding record_of
record_right e t = simp append_assoc

pub length_record : (e : Entry) → length (record_of e) ≡ 4 + length e.key + length (value_bytes e.value)
unfolding record_of record_bytes
length_record e = length_bytes e.key (mark_of e.value) (value_bytes e.value)

module _ (e : Entry) (s : Storable e) (t : List ℕ) where
  key_there : le (bytes_of 2 (length e.key)) ≡ length e.key
  key_there = let h : length e.key < 256 ^ 2 = s.short in le_bytes_of 2 (length e.key) h

  mark_there : le (bytes_of 2 (mark_of e.value)) ≡ mark_of e.value
  mark_there = le_bytes_of 2 (mark_of e.value) (mark_small e.value s.held)

  value_there : mark_length (le (bytes_of 2 (mark_of e.value))) ≡ length (value_bytes e.value)
  value_there = ap mark_length mark_there ∙ mark_fits e.value s.held

  -- what is encoded is decoded
  pub entry_back : entry_of (record_of e ++ t) ≡ e
  entry_back =
      ap entry_of (record_right e t)
      ∙ decoded (bytes_of 2 (length e.key)) (bytes_of 2 (mark_of e.value)) e.key (value_bytes e.value) t
      (length_bytes_of 2 (length e.key)) (length_bytes_of 2 (mark_of e.value)) key_there value_there
      ∙ ap (λ (v : Val). record { key = e.key; value = v })
      (ap (λ (m : ℕ). value_of m (value_bytes e.value)) mark_there ∙ value_back e.value s.held)

  pub length_back : record_length (record_of e ++ t) ≡ length (record_of e)
  length_back =
      ap record_length (record_right e t)
      ∙ decoded_length (bytes_of 2 (length e.key)) (bytes_of 2 (mark_of e.value)) e.key (value_bytes e.value) t
      (length_bytes_of 2 (length e.key)) (length_bytes_of 2 (mark_of e.value)) key_there value_there
      ∙ sym (length_record e)

pub entries_back : (es : List Entry) (t : List ℕ) → Storables es → entries_of (length es) (records_of es ++ t) ≡ es
unfolding entries_of records_of
entries_back [] t none = refl
entries_back (e ∷ es) t (more s ss) =
    let r : List ℕ = records_of es ++ t in
    let p : (record_of e ++ records_of es) ++ t ≡ record_of e ++ r = append_assoc (record_of e) (records_of es) t in
    let q : record_length (record_of e ++ r) ≡ length (record_of e) = length_back e s r in
    ap (λ (x : List ℕ). entry_of x ∷ entries_of (length es) (drop (record_length x) x)) p
    ∙ ap₂ (λ (x : Entry) (y : ℕ). x ∷ entries_of (length es) (drop y (record_of e ++ r))) (entry_back e s r) q
    ∙ ap (λ (x : List ℕ). e ∷ entries_of (length es) x) (drop_at (record_of e) r (length (record_of e)) refl)
    ∙ ap (λ (x : List Entry). e ∷ x) (entries_back es t ss)

pub records_back : (es : List Entry) (t : List ℕ) → Storables es → records_length (length es) (records_of es ++ t) ≡ length (records_of es)
unfolding records_length records_of
records_back [] t none = refl
records_back (e ∷ es) t (more s ss) =
    let r : List ℕ = records_of es ++ t in
    let p : (record_of e ++ records_of es) ++ t ≡ record_of e ++ r = append_assoc (record_of e) (records_of es) t in
    let q : record_length (record_of e ++ r) ≡ length (record_of e) = length_back e s r in
    ap (λ (x : List ℕ). record_length x + records_length (length es) (drop (record_length x) x)) p
    ∙ ap (λ (y : ℕ). y + records_length (length es) (drop y (record_of e ++ r))) q
    ∙ ap (λ (x : List ℕ). length (record_of e) + records_length (length es) x) (drop_at (record_of e) r (length (record_of e)) refl)
    ∙ ap (λ (x : ℕ). length (record_of e) + x) (records_back es t ss)
    ∙ sym (length-append (record_of e) (records_of es))

-- ---- decoding and encoding: what was decoded is encoded as it was

nothing : (w : List ℕ) → length w ≡ 0 → [] ≡ w
nothing [] e = refl
nothing (x ∷ xs) e = absurd (omega arith)

module _ (m : ℕ) (w : List ℕ) (e : length w ≡ mark_length m) where
  mark_cases : (a b c : Bool) → m < 2 ^ 16 → leb m 0xFFFC ≡ a → eqb m 0xFFFF ≡ b → eqb m 0xFFFE ≡ c → mark_of (value_of m w) ≡ m
  unfolding mark_of value_of mark_length
  mark_cases true b c s p q r = rw p (rw p at e)
  mark_cases false true c s p q r = rw (p, q) (sym (eqb-true m 0xFFFF q))
  mark_cases false false true s p q r = rw (p, q, r) (sym (eqb-true m 0xFFFE r))
  mark_cases false false false s p q r =
      let x : 0xFFFC < m = leb-false m 0xFFFC p in
      let y : m ≡ 0xFFFF → ⊥ = eqb-false m 0xFFFF q in
      let z : m ≡ 0xFFFE → ⊥ = eqb-false m 0xFFFE r in
      rw (p, q, r) (omega arith)

  pub mark_back : m < 2 ^ 16 → mark_of (value_of m w) ≡ m
  mark_back s = mark_cases (leb m 0xFFFC) (eqb m 0xFFFF) (eqb m 0xFFFE) s refl refl refl

  value_cases : (a b c : Bool) → Bytes w → leb m 0xFFFC ≡ a → eqb m 0xFFFF ≡ b → eqb m 0xFFFE ≡ c → value_bytes (value_of m w) ≡ w
  unfolding value_bytes value_of mark_length
  value_cases true b c s p q r = rw p
  value_cases false true c s p q r = rw (p, q) (nothing w (rw (p, q) at e))
  value_cases false false true s p q r = rw (p, q, r) (ap (λ (k : ℕ). bytes_of k (le w)) (sym (rw (p, q) at e)) ∙ bytes_of_le w s)
  value_cases false false false s p q r = rw (p, q, r) (ap (λ (k : ℕ). bytes_of k (le w)) (sym (rw (p, q) at e)) ∙ bytes_of_le w s)

  pub value_bytes_back : Bytes w → value_bytes (value_of m w) ≡ w
  value_bytes_back s = value_cases (leb m 0xFFFC) (eqb m 0xFFFF) (eqb m 0xFFFE) s refl refl refl

  length_cases : (a b c : Bool) → leb m 0xFFFC ≡ a → eqb m 0xFFFF ≡ b → eqb m 0xFFFE ≡ c → value_length (value_of m w) ≡ mark_length m
  unfolding value_length value_of mark_length
  length_cases true b c p q r = rw p (rw p at e)
  length_cases false true c p q r = rw (p, q)
  length_cases false false true p q r = rw (p, q, r)
  length_cases false false false p q r = rw (p, q, r)

  pub value_length_lem : value_length (value_of m w) ≡ mark_length m
  value_length_lem = length_cases (leb m 0xFFFC) (eqb m 0xFFFF) (eqb m 0xFFFE) refl refl refl

  small : Bytes w → length w ≡ 8 → le w < 2 ^ 64
  small b q = let t : take 8 w ≡ w = ap (λ (k : ℕ). take k w) (sym q) ∙ take-length w in rw t at (le_take_below 8 w b)

  held_cases : (a b c : Bool) → Bytes w → leb m 0xFFFC ≡ a → eqb m 0xFFFF ≡ b → eqb m 0xFFFE ≡ c → Held (value_of m w)
  unfolding value_of mark_length
  held_cases true b c s p q r = let f : m ≤ 0xFFFC = leb-true m 0xFFFC p in let g : length w ≡ m = rw p at e in rw p (omega arith)
  held_cases false true c s p q r = rw (p, q) tt
  held_cases false false true s p q r = rw (p, q, r) (small s (rw (p, q) at e))
  held_cases false false false s p q r = rw (p, q, r) (small s (rw (p, q) at e))

  pub value_held : Bytes w → Held (value_of m w)
  value_held s = held_cases (leb m 0xFFFC) (eqb m 0xFFFF) (eqb m 0xFFFE) s refl refl refl

module _ (l : List ℕ) (h : record_length l ≤ length l) where
  head_room : 4 + u16_at l 0 + mark_length (u16_at l 2) ≤ length l
  unfolding record_length
  head_room = h

  length_key : length (window 4 (u16_at l 0) l) ≡ u16_at l 0
  length_key = let r = head_room in length_window 4 (u16_at l 0) l (omega arith)

  length_value : length (window (4 + u16_at l 0) (mark_length (u16_at l 2)) l) ≡ mark_length (u16_at l 2)
  length_value = length_window (4 + u16_at l 0) (mark_length (u16_at l 2)) l head_room

  pub entry_key_length : length (entry_of l).key ≡ u16_at l 0
  unfolding entry_of
  entry_key_length = length_key

  pub entry_value_length : value_length (entry_of l).value ≡ mark_length (u16_at l 2)
  unfolding entry_of
  entry_value_length = value_length_lem (u16_at l 2) (window (4 + u16_at l 0) (mark_length (u16_at l 2)) l) length_value

  pub record_whole : Bytes l → record_of (entry_of l) ≡ take (record_length l) l
  unfolding record_of entry_of record_length window
  record_whole b =
      let r = head_room in
      let kl : ℕ = u16_at l 0 in
      let m : ℕ = u16_at l 2 in
      let k : List ℕ = window 4 kl l in
      let w : List ℕ = window (4 + kl) (mark_length m) l in
      let ms : m < 2 ^ 16 = field_below 2 l 2 b in
      let b1 : bytes_of 2 (length k) ≡ window 0 2 l = ap (bytes_of 2) length_key ∙ field_bytes 2 0 l (omega arith) b in
      let b2 : bytes_of 2 (mark_of (value_of m w)) ≡ window 2 2 l = ap (bytes_of 2) (mark_back m w length_value ms)
      ∙ field_bytes 2 2 l (omega arith) b in
      let b3 : value_bytes (value_of m w) ≡ w = value_bytes_back m w length_value (bytes_window (4 + kl) (mark_length m) l b) in
      ap₂ (λ (x y : List ℕ). x ++ y ++ k ++ value_bytes (value_of m w)) b1 b2
      ∙ ap (λ (x : List ℕ). take 2 l ++ window 2 2 l ++ k ++ x) b3
      ∙ sym (take_window l (4 + kl) (mark_length m) ∙ ap (λ (x : List ℕ). x ++ w)
      (take_window l 4 kl ∙ ap (λ (x : List ℕ). x ++ k) (take_window l 2 2)))

  -- what is decoded can be encoded
  pub entry_storable : Bytes l → Storable (entry_of l)
  unfolding entry_of
  entry_storable b =
      let k = length_key in
      let f : u16_at l 0 < 256 ^ 2 = field_below 2 l 0 b in
      record {
        short = omega arith;
        held = value_held (u16_at l 2) (window (4 + u16_at l 0) (mark_length (u16_at l 2)) l) length_value
            (bytes_window (4 + u16_at l 0) (mark_length (u16_at l 2)) l b);
      }

  pub entry_size_lem : entry_size (entry_of l) ≡ record_length l + 4
  unfolding entry_size entry_of record_length
  entry_size_lem =
      let a = length_key in
      let b = value_length_lem (u16_at l 2) (window (4 + u16_at l 0) (mark_length (u16_at l 2)) l) length_value in
      omega arith

-- what n records decode to is encoded as the bytes that they take
pub records_whole : (n : ℕ) (l : List ℕ) → records_length n l ≤ length l → Bytes l → records_of (entries_of n l) ≡ take (records_length n l) l
unfolding records_of entries_of records_length
records_whole zero l h b = refl
records_whole (suc n) l h b =
    let r : ℕ = record_length l in
    let rest : records_length n (drop r l) ≤ length (drop r l) = rw length-drop (omega arith) in
    ap₂ (λ (x y : List ℕ). x ++ y) (record_whole l (omega arith) b) (records_whole n (drop r l) rest (bytes_drop r l b))
    ∙ sym (take-add r (records_length n (drop r l)) l)

pub records_storable : (n : ℕ) (l : List ℕ) → records_length n l ≤ length l → Bytes l → Storables (entries_of n l)
unfolding entries_of records_length
records_storable zero l h b = none
records_storable (suc n) l h b =
    let r : ℕ = record_length l in
    let rest : records_length n (drop r l) ≤ length (drop r l) = rw length-drop (omega arith) in
    more (entry_storable l (omega arith) b) (records_storable n (drop r l) rest (bytes_drop r l b))

-- the bytes in use are the sum of the entries' sizes, less 4 each
pub records_size : (n : ℕ) (l : List ℕ) → records_length n l ≤ length l → records_length n l + 4 * n ≡ size (entries_of n l)
unfolding size entries_of records_length
records_size zero l h = refl
records_size (suc n) l h =
    let r : ℕ = record_length l in
    let rest : records_length n (drop r l) ≤ length (drop r l) = rw length-drop (omega arith) in
    let a = entry_size_lem l (omega arith) in
    let b = records_size n (drop r l) rest in
    omega arith

-- what `Record::at` takes of these
pub ruleset lies = (lies_no, lies_long, lies_there)

-- what `mark_length` takes of these
pub ruleset marks = (mark_leaf, mark_ghost, mark_child)
