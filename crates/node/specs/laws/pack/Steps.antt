-- Laws of the steps of packing: one for each way out. Assumes nothing.
use Rattle.std.specs.Prelude.{◌≡◌, refl, Bool, true, false, cond, eqb}
use Rattle.std.proofs.Math.Path.{sym, ap, ap₂}
use Rattle.std.proofs.Common.{◌∙◌, zero-add, add-zero, suc-mul, add-one, length-append, length-drop, drop-drop}
use mathlib.Core.List.{List, ◌∷◌, ◌++◌, map}
use Prim.Native.Nat.{ℕ, suc, ◌+◌, ◌-◌, ◌*◌, ◌≤◌, ◌<◌}
use Rattle.std.proofs.Math.Nat.{add_assoc, sub-zero}
use native.Mathlib.Omega.{arith}
use Rattle.std.proofs.Math.ListN.{length, drop}
use Rattle.seal.specs.Bytes.{splice, bytes_of}
use Rattle.seal.specs.laws.WindowLaws.{splice_run}
use Rattle.seal.specs.laws.FieldLaws.{length_bytes_of}
use Rattle.seal.specs.Obj.{header_bytes}
use Rattle.node.specs.Entry.{Entry, Val, value_length, value_bytes}
use Rattle.node.specs.Records.{mark_length, record_length, records_length, entry_of, entries_of}
use Rattle.node.specs.internal.SlotSteps.{parts_at}
use Rattle.node.specs.Slot.{head_at, node_of, number_of, marked, only}
use Rattle.node.specs.laws.base.Tests.{by_test}
use Rattle.node.specs.Fit.{padded, fixed, slot_width, keys_length, values_length}
use Rattle.node.specs.Pack.{child_number, numbered_value, numbered, value_offset, toc_entry, node_flags, info_bytes}
use Rattle.node.specs.internal.PackSteps.{marked_at, loc_bytes, off_bytes, slot_bytes, put_entry, put_entries, spot_after, Room, Rooms, node_bytes, no_lists, head_of}
use Rattle.node.specs.laws.pack.Numbered.{length_numbered}
use Rattle.node.specs.laws.slot.Records.{at_klen, at_mark, at_length, record_sum, entry_key_length, entry_value_length}
use Rattle.node.specs.laws.fit.Fit.{padded_least}
use Rattle.node.specs.declared.info.BTreeInfo.{BTreeInfo}
use Rattle.node.specs.declared.build.NodeBuild.{NodeBuild}
use Rattle.node.specs.declared.record.RecordParts.{RecordParts}
use Rattle.node.specs.declared.pack.Spot.{Spot}

-- ---- the number of a child in a slot

only_marked : (m x : ℕ) → only (marked m x) ≡ cond (eqb m 1) x 0
unfolding marked only
only_marked m x = by_test (eqb m 1) (λ e. rw e) (λ e. rw e)

pub child_id : (heads : List ℕ) (by : Bool) (s r : ℕ) → by ≡ true → r ≡ marked_at heads s 5 → r ≡ child_number heads by s
unfolding child_number number_of node_of head_at marked_at
child_id heads by s r e h = rw (e, only_marked) h

pub child_block : (heads : List ℕ) (by : Bool) (s r : ℕ) → by ≡ false → r ≡ marked_at heads s 3 → r ≡ child_number heads by s
unfolding child_number number_of node_of head_at marked_at
child_block heads by s r e h = rw (e, only_marked) h

-- ---- fields one after another

-- what stands so far, from i to j
pub record Run (l l₁ : List ℕ) (i j : ℕ) (a : List ℕ) : Type 0 where
  pub is : l₁ ≡ splice l i a
  pub long : i + length a ≡ j

run_first : (l l₁ : List ℕ) (i j w x : ℕ) → i + w ≡ j → l₁ ≡ splice l i (bytes_of w x) → Run l l₁ i j (bytes_of w x)
run_first l l₁ i j w x e q = record { is = q; long = rw (length_bytes_of w x) e }

run_next : {l l₁ : List ℕ} {i j : ℕ} {a : List ℕ} → Run l l₁ i j a → (l₂ : List ℕ) (k w x : ℕ) → j + w ≡ k → k ≤ length l
    → l₂ ≡ splice l₁ j (bytes_of w x)
    → Run l l₂ i k (a ++ bytes_of w x)
run_next {l} {l₁} {i} {j} {a} r l₂ k w x e h q =
    let n : length (bytes_of w x) ≡ w = length_bytes_of w x in
    record {
      is = splice_run l l₁ l₂ i a j (bytes_of w x) r.long (omega arith) r.is q;
      long = rw length-append (omega (arith, r.long));
    }

-- a contents slot, of fixed lengths or not
pub slot_off : (t : BTreeInfo) (l l₁ l₂ : List ℕ) (p a b c d : ℕ) → p + slot_width t ≤ length l → fixed t ≡ true → l₁ ≡ splice l p (bytes_of 2 a)
    → l₂ ≡ splice l₁ (p + 2) (bytes_of 2 c) → l₂ ≡ splice l p (slot_bytes t a b c d)
unfolding slot_width slot_bytes off_bytes
slot_off t l l₁ l₂ p a b c d h e q₁ q₂ =
    let w : p + 4 ≤ length l = rw e at h in
    rw e (run_next (run_first l l₁ p (p + 2) 2 a refl q₁) l₂ (p + 4) 2 c (omega arith) w q₂).is

pub slot_loc : (t : BTreeInfo) (l l₁ l₂ l₃ l₄ : List ℕ) (p a b c d : ℕ) → p + slot_width t ≤ length l → fixed t ≡ false
    → l₁ ≡ splice l p (bytes_of 2 a) → l₂ ≡ splice l₁ (p + 2) (bytes_of 2 b) → l₃ ≡ splice l₂ (p + 4) (bytes_of 2 c)
    → l₄ ≡ splice l₃ (p + 6) (bytes_of 2 d) → l₄ ≡ splice l p (slot_bytes t a b c d)
unfolding slot_width slot_bytes loc_bytes
slot_loc t l l₁ l₂ l₃ l₄ p a b c d h e q₁ q₂ q₃ q₄ =
    let w : p + 8 ≤ length l = rw e at h in
    let r₁ = run_first l l₁ p (p + 2) 2 a refl q₁ in
    let r₂ = run_next r₁ l₂ (p + 4) 2 b (omega arith) (omega arith) q₂ in
    let r₃ = run_next r₂ l₃ (p + 6) 2 c (omega arith) (omega arith) q₃ in
    rw e (run_next r₃ l₄ (p + 8) 2 d (omega arith) w q₄).is

pub node_law : (l l₁ l₂ l₃ l₄ l₅ l₆ l₇ : List ℕ) (f v n c k e : ℕ) → 56 ≤ length l → l₁ ≡ splice l 32 (bytes_of 2 f)
    → l₂ ≡ splice l₁ 34 (bytes_of 2 v)
    → l₃ ≡ splice l₂ 36 (bytes_of 4 n) → l₄ ≡ splice l₃ 40 (bytes_of 2 0) → l₅ ≡ splice l₄ 42 (bytes_of 2 c) → l₆ ≡ splice l₅ 44 (bytes_of 2 k)
    → l₇ ≡ splice l₆ 46 (bytes_of 2 e) → l₇ ≡ splice l 32 (node_bytes f v n c k e)
unfolding node_bytes
node_law l l₁ l₂ l₃ l₄ l₅ l₆ l₇ f v n c k e h q₁ q₂ q₃ q₄ q₅ q₆ q₇ =
    let r₁ = run_first l l₁ 32 34 2 f refl q₁ in
    let r₂ = run_next r₁ l₂ 36 2 v refl (omega arith) q₂ in
    let r₃ = run_next r₂ l₃ 40 4 n refl (omega arith) q₃ in
    let r₄ = run_next r₃ l₄ 42 2 0 refl (omega arith) q₄ in
    let r₅ = run_next r₄ l₅ 44 2 c refl (omega arith) q₅ in
    let r₆ = run_next r₅ l₆ 46 2 k refl (omega arith) q₆ in
    (run_next r₆ l₇ 48 2 e refl (omega arith) q₇).is

pub lists_law : (l l₁ l₂ l₃ l₄ : List ℕ) → 56 ≤ length l → l₁ ≡ splice l 48 (bytes_of 2 0xFFFF) → l₂ ≡ splice l₁ 50 (bytes_of 2 0)
    → l₃ ≡ splice l₂ 52 (bytes_of 2 0xFFFF) → l₄ ≡ splice l₃ 54 (bytes_of 2 0) → l₄ ≡ splice l 48 no_lists
unfolding no_lists
lists_law l l₁ l₂ l₃ l₄ h q₁ q₂ q₃ q₄ =
    let r₁ = run_first l l₁ 48 50 2 0xFFFF refl q₁ in
    let r₂ = run_next r₁ l₂ 52 2 0 refl (omega arith) q₂ in
    let r₃ = run_next r₂ l₃ 54 2 0xFFFF refl (omega arith) q₃ in
    (run_next r₃ l₄ 56 2 0 refl h q₄).is

pub info_law : (t : BTreeInfo) (l l₁ l₂ l₃ l₄ l₅ l₆ l₇ l₈ : List ℕ) (p : ℕ) → p + 40 ≤ length l
    → l₁ ≡ splice l p (bytes_of 4 t.flags) → l₂ ≡ splice l₁ (p + 4) (bytes_of 4 t.node_size)
    → l₃ ≡ splice l₂ (p + 8) (bytes_of 4 t.key_size) → l₄ ≡ splice l₃ (p + 12) (bytes_of 4 t.val_size)
    → l₅ ≡ splice l₄ (p + 16) (bytes_of 4 t.longest_key) → l₆ ≡ splice l₅ (p + 20) (bytes_of 4 t.longest_val)
    → l₇ ≡ splice l₆ (p + 24) (bytes_of 8 t.key_count) → l₈ ≡ splice l₇ (p + 32) (bytes_of 8 t.node_count) → l₈ ≡ splice l p (info_bytes t)
unfolding info_bytes
info_law t l l₁ l₂ l₃ l₄ l₅ l₆ l₇ l₈ p h q₁ q₂ q₃ q₄ q₅ q₆ q₇ q₈ =
    let r₁ = run_first l l₁ p (p + 4) 4 t.flags refl q₁ in
    let r₂ = run_next r₁ l₂ (p + 8) 4 t.node_size (omega arith) (omega arith) q₂ in
    let r₃ = run_next r₂ l₃ (p + 12) 4 t.key_size (omega arith) (omega arith) q₃ in
    let r₄ = run_next r₃ l₄ (p + 16) 4 t.val_size (omega arith) (omega arith) q₄ in
    let r₅ = run_next r₄ l₅ (p + 20) 4 t.longest_key (omega arith) (omega arith) q₅ in
    let r₆ = run_next r₅ l₆ (p + 24) 4 t.longest_val (omega arith) (omega arith) q₆ in
    let r₇ = run_next r₆ l₇ (p + 32) 8 t.key_count (omega arith) (omega arith) q₇ in
    (run_next r₇ l₈ (p + 40) 8 t.node_count (omega arith) h q₈).is

-- ---- the entry of a record

module _ (t : BTreeInfo) (keys vals : ℕ) (s : Spot) (slot block : List ℕ) (r : RecordParts) (room : Room t keys vals s slot block)
    (is : r ≡ parts_at slot s.at) where
  between : keys + (s.key + padded t r.klen) + (s.val + padded t r.vlen) ≤ vals
  between = rw is room.between

  -- its key and its value, as they are packed
  whole : record_length (drop s.at slot) ≤ length (drop s.at slot)
  whole = let w = room.whole in rw length-drop (omega arith)

  key_long : (k : List ℕ) → k ≡ (entry_of (drop s.at slot)).key → length k ≡ r.klen
  key_long k e = ap length e ∙ entry_key_length (drop s.at slot) whole ∙ sym (at_klen slot s.at r is)

  value_long : (f : ℕ → ℕ) (w : Val) → w ≡ numbered_value f (entry_of (drop s.at slot)).value → value_length w ≡ r.vlen
  value_long f w e =
      ap value_length e ∙ length_numbered f (entry_of (drop s.at slot)).value ∙ entry_value_length (drop s.at slot) whole
      ∙ ap mark_length (sym (at_mark slot s.at r is)) ∙ sym (at_length slot s.at r is)

  pub key_room : (k : List ℕ) → k ≡ (entry_of (drop s.at slot)).key → keys + s.key + length k ≤ length block
  key_room k e = let i = room.inside in omega (arith, between, key_long k e, padded_least t r.klen)

  pub value_room : (f : ℕ → ℕ) (w : Val) (pv n : ℕ) → w ≡ numbered_value f (entry_of (drop s.at slot)).value → pv ≡ padded t r.vlen
      → n ≡ length block → vals - (s.val + pv) + value_length w ≤ n
  value_room f w pv n e q h = let i = room.inside in omega (arith, between, value_long f w e, padded_least t r.vlen)

  pub entry_law : (f : ℕ → ℕ) (k : List ℕ) (w : Val) (b₁ b₂ b₃ : List ℕ) (pv vo : ℕ) → k ≡ (entry_of (drop s.at slot)).key
      → w ≡ numbered_value f (entry_of (drop s.at slot)).value
      → b₁ ≡ splice block (keys + s.key) k → b₂ ≡ splice b₁ (vals - (s.val + pv)) (value_bytes w) → vo ≡ value_offset w (s.val + pv)
      → b₃ ≡ splice b₂ s.toc (slot_bytes t s.key r.klen vo r.vlen)
      → b₃ ≡ put_entry t keys vals s.toc s.key (s.val + pv) (numbered f (entry_of (drop s.at slot))) block
  unfolding put_entry numbered toc_entry slot_bytes loc_bytes off_bytes
  entry_law f k w b₁ b₂ b₃ pv vo ek ew q₁ q₂ qo q₃ =
      q₃ ∙ rw (q₂, q₁, qo, ← key_long k ek, ← value_long f w ew, ew, ek)

  pub spot_law : (w pk pv : ℕ) → w ≡ slot_width t → pk ≡ padded t r.klen → pv ≡ padded t r.vlen
      → ◌≡◌ {A = Spot} (record { toc = s.toc + w; at = r.next; key = s.key + pk; val = s.val + pv }) (spot_after t slot s)
  unfolding spot_after
  spot_law w pk pv p q u = rw (p, q, u, is)

-- ---- one record after another

-- i records are packed: what is left makes of the block what all make of the block at first
pub record Going (t : BTreeInfo) (keys vals n : ℕ) (heads : List ℕ) (by : Bool) (slot b₀ : List ℕ) (i : ℕ) (s : Spot) (b : List ℕ) : Type 0 where
  pub count : i ≤ n
  pub same : length b ≡ length b₀
  pub whole : s.at + records_length (n - i) (drop s.at slot) ≤ length slot
  pub contents : s.toc + (n - i) * slot_width t ≤ keys
  pub key : s.key + keys_length t (entries_of (n - i) (drop s.at slot)) ≡ keys_length t (entries_of n slot)
  pub val : s.val + values_length t (entries_of (n - i) (drop s.at slot)) ≡ values_length t (entries_of n slot)
  pub rest : put_entries t keys vals s.toc s.key s.val (map (numbered (child_number heads by)) (entries_of (n - i) (drop s.at slot))) b
      ≡ put_entries t keys vals 56 0 0 (map (numbered (child_number heads by)) (entries_of n slot)) b₀

entries_after : (m at : ℕ) (slot : List ℕ) → entries_of (suc m) (drop at slot) ≡ entry_of (drop at slot) ∷ entries_of m
    (drop (at + record_length (drop at slot)) slot)
unfolding entries_of
entries_after m at slot = rw drop-drop

records_after : (m at : ℕ) (slot : List ℕ) → records_length (suc m) (drop at slot) ≡ record_length (drop at slot) + records_length m
    (drop (at + record_length (drop at slot)) slot)
unfolding records_length
records_after m at slot = rw drop-drop

module _ (t : BTreeInfo) (keys vals n : ℕ) (heads : List ℕ) (by : Bool) (slot b₀ : List ℕ) (rooms : Rooms t keys vals n slot b₀) where
  pub going_start : Going t keys vals n heads by slot b₀ 0 (record { toc = 56; at = 0; key = 0; val = 0 }) b₀
  going_start =
      let z : n - 0 ≡ n = sub-zero n in
      record {
        count = omega arith;
        same = refl;
        whole = rw z (omega (arith, rooms.whole));
        contents = rw z rooms.contents;
        key = rw z (zero-add (keys_length t (entries_of n slot)));
        val = rw z (zero-add (values_length t (entries_of n slot)));
        rest = rw z;
      }

  module _ (i : ℕ) (s : Spot) (b : List ℕ) (going : Going t keys vals n heads by slot b₀ i s b) where
    module _ (more : i < n) where
      abbrev l : List ℕ
      l = drop s.at slot

      abbrev m : ℕ
      m = n - (i + 1)

      abbrev es : List Entry
      es = entries_of m (drop (s.at + record_length l) slot)

      left : n - i ≡ suc m
      left = let z : suc m ≡ m + 1 = sym (add-one m) in omega arith

      these : entries_of (n - i) l ≡ entry_of l ∷ es
      these = ap (λ (k : ℕ). entries_of k l) left ∙ entries_after m s.at slot

      long : records_length (n - i) l ≡ record_length l + records_length m (drop (s.at + record_length l) slot)
      long = ap (λ (k : ℕ). records_length k l) left ∙ records_after m s.at slot

      first : record_length l ≤ length l
      first = rw length-drop (omega (arith, long, going.whole))

      key_of : length (entry_of l).key ≡ (parts_at slot s.at).klen
      unfolding parts_at
      key_of = entry_key_length l first

      value_of_lem : value_length (entry_of l).value ≡ (parts_at slot s.at).vlen
      unfolding parts_at
      value_of_lem = entry_value_length l first

      keys_of : keys_length t (entries_of (n - i) l) ≡ padded t (parts_at slot s.at).klen + keys_length t es
      unfolding keys_length
      keys_of = ap (keys_length t) these ∙ ap (λ (k : ℕ). padded t k + keys_length t es) key_of

      values_of : values_length t (entries_of (n - i) l) ≡ padded t (parts_at slot s.at).vlen + values_length t es
      unfolding values_length
      values_of = ap (values_length t) these ∙ ap (λ (k : ℕ). padded t k + values_length t es) value_of_lem

      slots_of_lem : (n - i) * slot_width t ≡ m * slot_width t + slot_width t
      slots_of_lem = ap (λ (k : ℕ). k * slot_width t) left ∙ suc-mul m (slot_width t)

      pub going_room : Room t keys vals s slot b
      going_room =
          record {
            whole = omega (arith, long, going.whole);
            small = rooms.small;
            contents = omega (arith, slots_of_lem, going.contents);
            between = omega (arith, keys_of, values_of, going.key, going.val, rooms.between);
            inside = omega (arith, rooms.inside, going.same);
            short = omega (arith, rooms.short, going.same);
          }

      rest_of : put_entries t keys vals (s.toc + slot_width t) (s.key + padded t (parts_at slot s.at).klen)
          (s.val + padded t (parts_at slot s.at).vlen)
          (map (numbered (child_number heads by)) es)
          (put_entry t keys vals s.toc s.key (s.val + padded t (parts_at slot s.at).vlen) (numbered (child_number heads by) (entry_of l)) b)
          ≡ put_entries t keys vals 56 0 0 (map (numbered (child_number heads by)) (entries_of n slot)) b₀
      unfolding put_entries numbered
      rest_of =
          let k : length (numbered (child_number heads by) (entry_of l)).key ≡ (parts_at slot s.at).klen = key_of in
          let v : value_length (numbered (child_number heads by) (entry_of l)).value ≡ (parts_at slot s.at).vlen = length_numbered
          (child_number heads by) (entry_of l).value ∙ value_of_lem in
          ap₂
          (λ (x y : ℕ). put_entries t keys vals (s.toc + slot_width t) (s.key + padded t x) (s.val + padded t y)
          (map (numbered (child_number heads by)) es)
          (put_entry t keys vals s.toc s.key (s.val + padded t y) (numbered (child_number heads by) (entry_of l)) b))
          (sym k) (sym v)
          ∙ ap (λ (x : List Entry). put_entries t keys vals s.toc s.key s.val (map (numbered (child_number heads by)) x) b) (sym these)
          ∙ going.rest

      pub going_next : (b' : List ℕ) → length b' ≡ length b
          → b' ≡ put_entry t keys vals s.toc s.key (s.val + padded t (parts_at slot s.at).vlen)
          (numbered (child_number heads by) (entry_of l)) b
          → Going t keys vals n heads by slot b₀ (i + 1) (spot_after t slot s) b'
      unfolding spot_after parts_at
      going_next b' k q =
          record {
            count = omega arith;
            same = k ∙ going.same;
            whole = omega (arith, long, going.whole);
            contents = omega (arith, slots_of_lem, going.contents);
            key = add_assoc s.key (padded t (parts_at slot s.at).klen) (keys_length t es) ∙ ap (λ (x : ℕ). s.key + x) (sym keys_of)
                ∙ going.key;
            val = add_assoc s.val (padded t (parts_at slot s.at).vlen) (values_length t es) ∙ ap (λ (x : ℕ). s.val + x) (sym values_of)
                ∙ going.val;
            rest = ap (put_entries t keys vals (s.toc + slot_width t) (s.key + padded t (parts_at slot s.at).klen)
                (s.val + padded t (parts_at slot s.at).vlen) (map (numbered (child_number heads by)) es)) q ∙ rest_of;
          }

      pub going_turn : (s' : Spot) (b' : List ℕ) → s' ≡ spot_after t slot s → length b' ≡ length b
          → b' ≡ put_entry t keys vals s.toc s.key s'.val (numbered (child_number heads by) (entry_of (drop s.at slot))) b
          → Going t keys vals n heads by slot b₀ (i + 1) s' b'
      unfolding spot_after
      going_turn s' b' e k q =
          let v : s'.val ≡ s.val + padded t (parts_at slot s.at).vlen = ap (λ (x : Spot). x.val) e in
          rw e (going_next b' k (q ∙ ap (λ (x : ℕ). put_entry t keys vals s.toc s.key x (numbered (child_number heads by) (entry_of l)) b) v))

    none : n ≤ i → n - i ≡ 0
    none h = omega arith

    pub going_done : n ≤ i → b ≡ put_entries t keys vals 56 0 0 (map (numbered (child_number heads by)) (entries_of n slot)) b₀
    unfolding put_entries entries_of
    going_done h = ap (λ (k : ℕ). put_entries t keys vals s.toc s.key s.val
        (map (numbered (child_number heads by)) (entries_of k (drop s.at slot))) b) (sym (none h)) ∙ going.rest

    pub going_key : n ≤ i → s.key ≡ keys_length t (entries_of n slot)
    unfolding keys_length entries_of
    going_key h = sym (add-zero s.key) ∙ ap (λ (k : ℕ). s.key + keys_length t (entries_of k (drop s.at slot))) (sym (none h)) ∙ going.key

    pub going_val : n ≤ i → s.val ≡ values_length t (entries_of n slot)
    unfolding values_length entries_of
    going_val h = sym (add-zero s.val) ∙ ap (λ (k : ℕ). s.val + values_length t (entries_of k (drop s.at slot))) (sym (none h)) ∙ going.val

-- ---- the whole header

pub head_law : (b : NodeBuild) (l l₁ l₂ l₃ : List ℕ) (f n c k e : ℕ) → 56 ≤ length l
    → l₁ ≡ splice l 8 (header_bytes (record { cksum = 0; oid = b.oid; xid = b.xid; obj_type = b.otype; subtype = b.subtype }))
    → f ≡ node_flags b → l₂ ≡ splice l₁ 32 (node_bytes f b.level n c k e) → l₃ ≡ splice l₂ 48 no_lists → l₃ ≡ splice l 8 (head_of b n c k e)
unfolding head_of header_bytes node_bytes no_lists bytes_of
head_law b l l₁ l₂ l₃ f n c k e h q₁ qf q₂ q₃ =
    let x : List ℕ = header_bytes (record { cksum = 0; oid = b.oid; xid = b.xid; obj_type = b.otype; subtype = b.subtype }) in
    let y : List ℕ = node_bytes (node_flags b) b.level n c k e in
    let q₂' : l₂ ≡ splice l₁ 32 y = q₂ ∙ ap (λ (g : ℕ). splice l₁ 32 (node_bytes g b.level n c k e)) qf in
    let r : l₂ ≡ splice l 8 (x ++ y) = splice_run l l₁ l₂ 8 x 32 y refl (omega arith) q₁ q₂' in
    splice_run l l₂ l₃ 8 (x ++ y) 48 no_lists refl h r q₃

-- ---- what the code takes of these

pub ruleset slot_laws = (slot_off, slot_loc)

pub ruleset sums = (padded_least, record_sum)

pub ruleset going_laws = (going_start, going_done, going_key, going_val)
