-- Laws of fitting: what the code computes step by step, and that a node which fits as root fits as non-root, that a part of one which fits fits.
-- Assumes nothing.
use Rattle.std.specs.Prelude.{◌≡◌, refl, List, [], ◌∷◌, ◌++◌, Bool, true, false, cond, ℕ, zero, suc, ◌+◌, ◌-◌, ◌*◌, ◌/◌, ◌^◌, ◌≤◌, ◌<◌, length, take, drop, leb, eqb}
use Rattle.std.proofs.Common.{sym, ap, ◌∙◌, add-zero, zero-add, add_assoc, le_refl, le_trans, mul-le-mul_right, mul-le-mul_left, le-div_iff_mul-le, div-mul-le_self, arith, length-append, length-drop, take-append-drop, drop-drop, take-take, le-leb, leb-true, leb-false}
use Rattle.std.proofs.lemmas.Bool.{false≢true, eqb-false}
use Rattle.std.proofs.Math.Nat.{add-mul-div_right}
use Rattle.seal.specs.Bytes.{u16_at}
use Rattle.node.specs.laws.base.Tests.{and_split}
use Rattle.node.specs.Entry.{Entry, value_length}
use Rattle.node.specs.Records.{mark_length, record_length, records_length, entry_of, entries_of}
use Rattle.node.specs.laws.slot.Records.{
  length_entries,
  entries_next,
  records_next,
  records_less,
  record_sum,
  records_least,
  record_in,
  entry_key_length,
  entry_value_length,
}
use Rattle.node.specs.Fit.{flag, align8, greater, padded, data_space, fixed, slot_width, fixed_value, toc_slots, toc_length, keys_length, values_length, room_of, packed_length, fits_sums, fits}
use Rattle.node.specs.internal.SlotSteps.{parts_at, lengths_of, longer_of}
use Rattle.node.specs.declared.info.BTreeInfo.{BTreeInfo}
use Rattle.node.specs.declared.record.RecordParts.{RecordParts}
use Rattle.node.specs.declared.fit.Lengths.{Lengths}

-- ---- fixed lengths

-- ---- sums of parts

pub keys_append : (t : BTreeInfo) (a b : List Entry) → keys_length t (a ++ b) ≡ keys_length t a + keys_length t b
unfolding keys_length
keys_append t [] b = sym (zero-add (keys_length t b))
keys_append t (e ∷ a) b = rw (keys_append t a b, add_assoc)

pub values_append : (t : BTreeInfo) (a b : List Entry) → values_length t (a ++ b) ≡ values_length t a + values_length t b
unfolding values_length
values_append t [] b = sym (zero-add (values_length t b))
values_append t (e ∷ a) b = rw (values_append t a b, add_assoc)

pub room_append : (t : BTreeInfo) (a b : List Entry) → room_of t (a ++ b) ≡ room_of t a + room_of t b
unfolding room_of
room_append t a b = omega (arith, keys_append t a b, values_append t a b)

pub padded_least : (t : BTreeInfo) (n : ℕ) → n ≤ padded t n
unfolding padded align8
padded_least t n = pick (flag t.flags 0x40)
  where
    pick : (b : Bool) → n ≤ cond b n ((n + 7) / 8 * 8)
    pick true = omega arith
    pick false = omega arith

pick_padded : (b : Bool) (n : ℕ) → cond b n ((n + 7) / 8 * 8) ≤ n + 7
pick_padded true n = omega arith
pick_padded false n = omega arith

pub padded_most : (t : BTreeInfo) (n : ℕ) → padded t n ≤ n + 7
unfolding padded align8
padded_most t n = pick_padded (flag t.flags 0x40) n

-- a slot of b bytes holds keys and values that take at most 4 · b
pub room_most : (t : BTreeInfo) (n : ℕ) (l : List ℕ) → records_length n l ≤ length l
    → keys_length t (entries_of n l) + values_length t (entries_of n l)
    ≤ 4 * records_length n l
unfolding records_length entries_of keys_length values_length
room_most t zero l h = omega arith
room_most t (suc n) l h =
    let r : ℕ = record_length l in
    let e : length (drop r l) ≡ length l - r = length-drop r l in
    let h₁ : record_length l ≤ length l = omega arith in
    let h₂ : records_length n (drop r l) ≤ length (drop r l) = omega arith in
    let p : length (entry_of l).key ≡ u16_at l 0 = entry_key_length l h₁ in
    let q : value_length (entry_of l).value ≡ mark_length (u16_at l 2) = entry_value_length l h₁ in
    let s : record_length l ≡ 4 + u16_at l 0 + mark_length (u16_at l 2) = record_sum l in
    omega (arith, room_most t n (drop r l) h₂, padded_most t (length (entry_of l).key), padded_most t (value_length (entry_of l).value))

-- padding adds at most 7 bytes to a key and 7 to a value, and a record's head has 4
pub room_close : (t : BTreeInfo) (n : ℕ) (l : List ℕ) → records_length n l ≤ length l
    → keys_length t (entries_of n l) + values_length t (entries_of n l)
    ≤ records_length n l + 10 * n
unfolding records_length entries_of keys_length values_length
room_close t zero l h = omega arith
room_close t (suc n) l h =
    let r : ℕ = record_length l in
    let e : length (drop r l) ≡ length l - r = length-drop r l in
    let h₁ : record_length l ≤ length l = omega arith in
    let h₂ : records_length n (drop r l) ≤ length (drop r l) = omega arith in
    let p : length (entry_of l).key ≡ u16_at l 0 = entry_key_length l h₁ in
    let q : value_length (entry_of l).value ≡ mark_length (u16_at l 2) = entry_value_length l h₁ in
    let s : record_length l ≡ 4 + u16_at l 0 + mark_length (u16_at l 2) = record_sum l in
    omega (arith, room_close t n (drop r l) h₂, padded_most t (length (entry_of l).key), padded_most t (value_length (entry_of l).value))

-- ---- the lengths of the first records, one after another

pub lengths_none : (t : BTreeInfo) (l : List ℕ) → ◌≡◌ {A = Lengths} (record { at = 0; keys = 0; values = 0 }) (lengths_of t 0 l)
unfolding lengths_of records_length entries_of keys_length values_length
lengths_none t l = refl

pub lengths_in : (t : BTreeInfo) (i n : ℕ) (l : List ℕ) (s : Lengths) → s ≡ lengths_of t i l → i < n → records_length n l ≤ length l
    → s.at + record_length (drop s.at l) ≤ length l
unfolding lengths_of
lengths_in t i n l s e h k = rw e (record_in i n l h k)

pub lengths_most : (t : BTreeInfo) (i : ℕ) (l : List ℕ) (s : Lengths) → s ≡ lengths_of t i l → records_length i l ≤ length l
    → s.keys + s.values ≤ 4 * length l
unfolding lengths_of
lengths_most t i l s e h = rw e (omega (arith, room_most t i l h))

pub lengths_room : (t : BTreeInfo) (i n : ℕ) (l : List ℕ) (s : Lengths) → s ≡ lengths_of t i l → i ≤ n → records_length n l ≤ length l
    → length l ≤ 2 ^ 20 → s.keys + s.values < 2 ^ 24
lengths_room t i n l s e h k m = let f : records_length i l ≤ length l = le_trans (records_less i n l h) k in omega (arith, lengths_most t i l s e f)

lengths_same : (a b : Lengths) → a.at ≡ b.at → a.keys ≡ b.keys → a.values ≡ b.values → a ≡ b
lengths_same a b p q r = λ i. record { at = p i; keys = q i; values = r i }

pub keys_next : (t : BTreeInfo) (i n : ℕ) (l : List ℕ) → i < n → records_length n l ≤ length l
    → keys_length t (entries_of (i + 1) l) ≡ keys_length t (entries_of i l) + padded t (u16_at (drop (records_length i l) l) 0)
unfolding keys_length
keys_next t i n l h k =
    let m : List ℕ = drop (records_length i l) l in
    let d : length m ≡ length l - records_length i l = length-drop (records_length i l) l in
    let f : record_length m ≤ length m = omega (arith, record_in i n l h k) in
    ap (keys_length t) (entries_next i l) ∙ keys_append t (entries_of i l) (entry_of m ∷ [])
    ∙ ap (λ (x : ℕ). keys_length t (entries_of i l) + (padded t x + 0)) (entry_key_length m f) ∙ rw add-zero

pub values_next : (t : BTreeInfo) (i n : ℕ) (l : List ℕ) → i < n → records_length n l ≤ length l
    → values_length t (entries_of (i + 1) l) ≡ values_length t (entries_of i l) + padded t (mark_length (u16_at (drop (records_length i l) l) 2))
unfolding values_length
values_next t i n l h k =
    let m : List ℕ = drop (records_length i l) l in
    let d : length m ≡ length l - records_length i l = length-drop (records_length i l) l in
    let f : record_length m ≤ length m = omega (arith, record_in i n l h k) in
    ap (values_length t) (entries_next i l) ∙ values_append t (entries_of i l) (entry_of m ∷ [])
    ∙ ap (λ (x : ℕ). values_length t (entries_of i l) + (padded t x + 0)) (entry_value_length m f) ∙ rw add-zero

longer_next : (t : BTreeInfo) (i n : ℕ) (l : List ℕ) → i < n → records_length n l ≤ length l
    → longer_of t l (lengths_of t i l) ≡ lengths_of t (i + 1) l
unfolding longer_of lengths_of parts_at
longer_next t i n l h k = lengths_same _ _ (sym (records_next i l)) (sym (keys_next t i n l h k)) (sym (values_next t i n l h k))

pub lengths_next : (t : BTreeInfo) (i n : ℕ) (l : List ℕ) (s r : Lengths) → s ≡ lengths_of t i l → r ≡ longer_of t l s → i < n
    → records_length n l ≤ length l → r ≡ lengths_of t (i + 1) l
lengths_next t i n l s r e g h k = g ∙ ap (longer_of t l) e ∙ longer_next t i n l h k

pub lengths_done : (t : BTreeInfo) (i n : ℕ) (l : List ℕ) (s : Lengths) → s ≡ lengths_of t i l → i ≤ n → n ≤ i → s ≡ lengths_of t n l
lengths_done t i n l s e h k = let f : i ≡ n = omega arith in e ∙ ap (λ (j : ℕ). lengths_of t j l) f

-- the lengths in a record that was read
pub read_key : (l : List ℕ) (at : ℕ) (r : RecordParts) → r ≡ parts_at l at → at + record_length (drop at l) ≤ length l → length l ≤ 2 ^ 20
    → r.klen < 2 ^ 32
unfolding parts_at
read_key l at r e h k = rw e (omega (arith, record_sum (drop at l)))

pub read_value : (l : List ℕ) (at : ℕ) (r : RecordParts) → r ≡ parts_at l at → at + record_length (drop at l) ≤ length l → length l ≤ 2 ^ 20
    → r.vlen < 2 ^ 32
unfolding parts_at
read_value l at r e h k = rw e (omega (arith, record_sum (drop at l)))

pub longer_is : (t : BTreeInfo) (l : List ℕ) (s : Lengths) (r : RecordParts) (k v : ℕ) → r ≡ parts_at l s.at → k ≡ padded t r.klen
    → v ≡ padded t r.vlen
    → ◌≡◌ {A = Lengths} (record { at = r.next; keys = s.keys + k; values = s.values + v }) (longer_of t l s)
unfolding longer_of
longer_is t l s r k v e p q = rw (p, q, e)

pub fits_is : (t : BTreeInfo) (root : Bool) (level n : ℕ) (l : List ℕ) (s : Lengths) (r : Bool) → s ≡ lengths_of t n l
    → r ≡ fits_sums t root level n (s.keys + s.values) → r ≡ fits t root level (entries_of n l)
unfolding fits room_of lengths_of
fits_is t root level n l s r e g = rw length_entries (g ∙ rw e)

-- ---- a root over two children, and what is packed

pub packed_is : (t : BTreeInfo) (root : Bool) (level n toc r : ℕ) (l : List ℕ) (s : Lengths) → s ≡ lengths_of t n l → toc ≡ toc_length t root level n
    → r ≡ toc + (s.keys + s.values) → r ≡ packed_length t root level (entries_of n l)
unfolding packed_length room_of lengths_of
packed_is t root level n toc r l s e f g = rw length_entries (g ∙ rw (e, f))

-- ---- what fits

-- fitting as two orders, and back
pub sums_fit : (t : BTreeInfo) (root : Bool) (level n room : ℕ) → fits_sums t root level n room ≡ true
    → (n ≤ toc_slots t root level n) × (toc_length t root level n + room ≤ data_space t.node_size root)
unfolding fits_sums
sums_fit t root level n room h =
    let s : ℕ = toc_slots t root level n in
    let c : ℕ = toc_length t root level n + room in
    let d : ℕ = data_space t.node_size root in
    let p = and_split (leb n s) (leb c d) h in
    (leb-true n s p.0, leb-true c d p.1)

pub sums_fitting : (t : BTreeInfo) (root : Bool) (level n room : ℕ) → n ≤ toc_slots t root level n → toc_length t root level n + room ≤ data_space
    t.node_size root
    → fits_sums t root level n room ≡ true
unfolding fits_sums
sums_fitting t root level n room h k = rw (
  le-leb n (toc_slots t root level n) h,
  le-leb (toc_length t root level n + room)
      (data_space t.node_size root) k,
)

greater_least : (n : ℕ) → (16 ≤ greater 16 (align8 n)) × (n ≤ greater 16 (align8 n))
unfolding greater align8
greater_least n = pick (leb 16 ((n + 7) / 8 * 8)) refl
  where
    pick : (b : Bool) → leb 16 ((n + 7) / 8 * 8) ≡ b → (16 ≤ cond b ((n + 7) / 8 * 8) 16) × (n ≤ cond b ((n + 7) / 8 * 8) 16)
    pick true e = let h : 16 ≤ (n + 7) / 8 * 8 = leb-true 16 ((n + 7) / 8 * 8) e in omega arith
    pick false e = let h : (n + 7) / 8 * 8 < 16 = leb-false 16 ((n + 7) / 8 * 8) e in omega arith

greater_more : (m n : ℕ) → m ≤ n → greater 16 (align8 m) ≤ greater 16 (align8 n)
unfolding greater align8
greater_more m n h = pick (leb 16 ((m + 7) / 8 * 8)) (leb 16 ((n + 7) / 8 * 8)) refl refl
  where
    pick : (b d : Bool) → leb 16 ((m + 7) / 8 * 8) ≡ b → leb 16 ((n + 7) / 8 * 8) ≡ d → cond b ((m + 7) / 8 * 8) 16 ≤ cond d ((n + 7) / 8 * 8) 16
    pick true true e f = omega arith
    pick true false e f = let h₁ = leb-true 16 ((m + 7) / 8 * 8) e in let h₂ = leb-false 16 ((n + 7) / 8 * 8) f in omega arith
    pick false true e f = let h₂ = leb-true 16 ((n + 7) / 8 * 8) f in omega arith
    pick false false e f = omega arith

slots_less : (b : Bool) (s m n : ℕ) → m ≤ n → n ≤ cond b s (greater 16 (align8 n))
    → (m ≤ cond b s (greater 16 (align8 m))) × (cond b s (greater 16 (align8 m)) * cond b 4 8 ≤ cond b s (greater 16 (align8 n)) * cond b 4 8)
slots_less true s m n h k = (le_trans h k, le_refl (s * 4))
slots_less false s m n h k = ((greater_least m).1, mul-le-mul_right 8 (greater_more m n h))

-- fewer entries with less room fit
pub sums_less : (t : BTreeInfo) (root : Bool) (level m n a b : ℕ) → m ≤ n → a ≤ b → fits_sums t root level n b ≡ true
    → fits_sums t root level m a ≡ true
unfolding toc_length toc_slots slot_width
sums_less t root level m n a b h k f =
    let p = sums_fit t root level n b f in
    let q = slots_less (fixed t) (align8 (data_space t.node_size root / (4 + t.key_size + fixed_value t level))) m n h p.0 in
    let r : toc_length t root level m + a ≤ data_space t.node_size root = omega (arith, p.1, q.1) in
    sums_fitting t root level m a q.0 r

pub fits_left : (t : BTreeInfo) (root : Bool) (level : ℕ) (a b : List Entry) → fits t root level (a ++ b) ≡ true → fits t root level a ≡ true
unfolding fits
fits_left t root level a b f =
    sums_less t root level (length a) (length (a ++ b)) (room_of t a) (room_of t (a ++ b)) (omega (arith, length-append a b))
    (omega (arith, room_append t a b)) f

pub fits_right : (t : BTreeInfo) (root : Bool) (level : ℕ) (a b : List Entry) → fits t root level (a ++ b) ≡ true → fits t root level b ≡ true
unfolding fits
fits_right t root level a b f =
    sums_less t root level (length b) (length (a ++ b)) (room_of t b) (room_of t (a ++ b)) (omega (arith, length-append a b))
    (omega (arith, room_append t a b)) f

-- the first entries of a node that fits, and the last
pub fits_take : (t : BTreeInfo) (root : Bool) (level i j : ℕ) (es : List Entry) → i ≤ j → fits t root level (take j es) ≡ true
    → fits t root level (take i es) ≡ true
fits_take t root level i j es h f =
    let e : take i es ++ drop i (take j es) ≡ take j es = ap (λ (x : List Entry). x ++ drop i (take j es)) (sym (take-take i j es h))
    ∙ take-append-drop i (take j es) in
    fits_left t root level (take i es) (drop i (take j es)) (ap (fits t root level) e ∙ f)

pub fits_drop : (t : BTreeInfo) (root : Bool) (level i j : ℕ) (es : List Entry) → i ≤ j → fits t root level (drop i es) ≡ true
    → fits t root level (drop j es) ≡ true
fits_drop t root level i j es h f =
    let e : i + (j - i) ≡ j = omega arith in
    let g : drop (j - i) (drop i es) ≡ drop j es = drop-drop (j - i) i es ∙ ap (λ (k : ℕ). drop k es) e in
    ap (fits t root level) (sym g) ∙ fits_right t root level (take (j - i) (drop i es)) (drop (j - i) (drop i es))
    (ap (fits t root level) (take-append-drop (j - i) (drop i es)) ∙ f)

-- entries of at least 5 bytes: 40 bytes more hold at most 8 more
div_more : (s e : ℕ) → 5 ≤ e → (s / e ≤ (s + 40) / e) × ((s + 40) / e ≤ s / e + 8)
div_more s e h =
    let z : 0 < e = omega arith in
    let u : s / e * e ≤ s = div-mul-le_self s e in
    let w : (s + 40) / e * e ≤ s + 40 = div-mul-le_self (s + 40) e in
    let x : 8 * 5 ≤ 8 * e = omega arith in
    let y : (s + 8 * e) / e ≡ s / e + 8 = add-mul-div_right s 8 z in
    let v : (s + 40) / e * e ≤ s + 8 * e = omega arith in
    ((le-div_iff_mul-le z).1 (omega arith), rw y at ((le-div_iff_mul-le z).1 v))

-- of fixed lengths the contents take a fifth for each entry and at most 7 more
div_fifth : (s e : ℕ) → 5 ≤ e → s / e * 5 ≤ s
div_fifth s e h = le_trans (mul-le-mul_left (s / e) h) (div-mul-le_self s e)

fixed_least : (t : BTreeInfo) (level : ℕ) → fixed t ≡ true → 5 ≤ 4 + t.key_size + fixed_value t level
unfolding fixed
fixed_least t level h = pick t.key_size (eqb t.key_size 0) refl h
  where
    pick : (k : ℕ) (b : Bool) → eqb k 0 ≡ b → cond b false true ≡ true → 5 ≤ 4 + k + fixed_value t level
    pick k true e f = absurd (false≢true f)
    pick k false e f = let g : k ≡ 0 → ⊥ = eqb-false k 0 e in omega arith

root_slots : (b : Bool) (s e n : ℕ) → (b ≡ true → 5 ≤ e) → n ≤ cond b (align8 (s / e)) (greater 16 (align8 n))
    → (n ≤ cond b (align8 ((s + 40) / e)) (greater 16 (align8 n)))
    × (cond b (align8 ((s + 40) / e)) (greater 16 (align8 n)) * cond b 4 8 ≤ cond b (align8 (s / e)) (greater 16 (align8 n)) * cond b 4 8 + 40)
unfolding align8
root_slots true s e n g k = let p = div_more s e (g refl) in omega (arith, p.0, p.1)
root_slots false s e n g k = omega (arith, (greater_least n).1)

-- a node that fits as root fits as non-root
pub sums_root : (t : BTreeInfo) (level n room : ℕ) → 512 ≤ t.node_size → fits_sums t true level n room ≡ true → fits_sums t false level n room ≡ true
unfolding toc_length toc_slots slot_width data_space
sums_root t level n room h f =
    let p = sums_fit t true level n room f in
    let e : t.node_size - 56 - 0 ≡ t.node_size - 56 - 40 + 40 = omega arith in
    let q = root_slots (fixed t) (t.node_size - 56 - 40) (4 + t.key_size + fixed_value t level) n (fixed_least t level) p.0 in
    sums_fitting t false level n room (rw e q.0) (omega (arith, p.1, rw (← e) at q.1))

pub fits_root : (t : BTreeInfo) (level : ℕ) (es : List Entry) → 512 ≤ t.node_size → fits t true level es ≡ true → fits t false level es ≡ true
unfolding fits
fits_root t level es h f = sums_root t level (length es) (room_of t es) h f

none_slots : (b : Bool) (s e : ℕ) → (b ≡ true → 5 ≤ e) → 416 ≤ s → cond b (align8 (s / e)) (greater 16 (align8 0)) * cond b 4 8 + 0 ≤ s
unfolding align8 greater
none_slots true s e g h = omega (arith, div_fifth s e (g refl))
none_slots false s e g h = omega arith

space_least : (n : ℕ) (root : Bool) → 512 ≤ n → 416 ≤ data_space n root
unfolding data_space
space_least n true h = omega arith
space_least n false h = omega arith

-- an empty node fits
pub fits_none : (t : BTreeInfo) (root : Bool) (level : ℕ) → 512 ≤ t.node_size → fits t root level [] ≡ true
unfolding fits room_of keys_length values_length toc_length toc_slots slot_width
fits_none t root level h =
    sums_fitting t root level 0 0 (omega arith)
    (none_slots (fixed t) (data_space t.node_size root) (4 + t.key_size + fixed_value t level) (fixed_least t level)
    (space_least t.node_size root h))

-- what fits with all padding fits
pub close_fits : (t : BTreeInfo) (root : Bool) (level n used : ℕ) (l : List ℕ) (b : Bool) → used ≡ records_length n l → records_length n l ≤ length l
    → b ≡ fits_sums t root level n (used + 10 * n) → b ≡ true → true ≡ fits t root level (entries_of n l)
unfolding fits room_of
close_fits t root level n used l b u h e q =
    let m : keys_length t (entries_of n l) + values_length t (entries_of n l) ≤ used + 10 * n = omega (arith, room_close t n l h) in
    rw length_entries (sym (sums_less t root level n n (keys_length t (entries_of n l) + values_length t (entries_of n l)) (used + 10 * n)
    (le_refl n) m
    (sym e ∙ q)))

-- ---- bounds that the code needs

pub count_most : (n : ℕ) (l : List ℕ) → records_length n l ≤ length l → length l ≤ 2 ^ 20 → n < 2 ^ 20
count_most n l h k = omega (arith, records_least n l)

pub count_small : (n : ℕ) (l : List ℕ) → records_length n l ≤ length l → length l ≤ 2 ^ 20 → n < 2 ^ 32
count_small n l h k = omega (arith, count_most n l h k)

-- ---- what a node that fits takes

pub fits_count : (t : BTreeInfo) (root : Bool) (level : ℕ) (es : List Entry) → fits t root level es ≡ true → length es ≤ toc_slots t root level
    (length es)
unfolding fits
fits_count t root level es f = (sums_fit t root level (length es) (room_of t es) f).0

pub fits_packed : (t : BTreeInfo) (root : Bool) (level : ℕ) (es : List Entry) → fits t root level es ≡ true
    → packed_length t root level es ≤ data_space t.node_size root
unfolding fits packed_length
fits_packed t root level es f = (sums_fit t root level (length es) (room_of t es) f).1

pub fits_space : (t : BTreeInfo) (root : Bool) (level : ℕ) (es : List Entry) → fits t root level es ≡ true
    → toc_length t root level (length es) + (keys_length t es + values_length t es) ≤ data_space t.node_size root
unfolding packed_length room_of
fits_space t root level es f = fits_packed t root level es f

-- ---- what summing lengths, and fitting, take of these

pub ruleset lengths = (lengths_none, lengths_in, lengths_next, lengths_room)

pub ruleset fitting = (fits_is, close_fits, records_least)

pub ruleset packing = (packed_is, records_least)

pub ruleset counting = (read_key, read_value, longer_is)
