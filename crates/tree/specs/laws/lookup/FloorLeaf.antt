-- Laws of where floor ends: the last entry of a slot, the last not above a key, an entry copied out as its record. Assumes nothing.
use Rattle.std.specs.Prelude.{◌≡◌, refl, length, get_or, ltb}
use Rattle.std.proofs.Math.Path.{sym, ap}
use Rattle.std.proofs.Common.{ap₂, ◌∙◌, arith, length-take, length-drop, drop_of_length-le, get_or-take}
use mathlib.Core.List.{List, [], ◌∷◌}
use Prim.Native.Nat.{ℕ, suc, ◌+◌, ◌-◌, ◌≤◌, ◌<◌}
use Rattle.std.proofs.Math.ListN.{take, drop}
use Rattle.std.proofs.Math.Seq.{take-length}
use borrow.Author.Tests.{le-leb, lt-leb, ltb-true, ltb-false}
use Rattle.node.specs.Bytes.{splice}
use Rattle.node.specs.Result.{ok, refused}
use Rattle.node.specs.Entry.{Entry, ghost}
use Rattle.node.specs.Find.{not_above, last_not_above, last_of}
use Rattle.node.specs.Records.{record_length, records_length, entry_of, entries_of, records_of}
use Rattle.node.specs.Slot.{head_at}
use Rattle.node.specs.internal.SlotSteps.{last_in}
use Rattle.node.specs.laws.base.Bytes.{Bytes, bytes_drop}
use Rattle.node.specs.laws.order.Found.{above_le}
use Rattle.node.specs.laws.slot.Records.{entry_local, records_whole}
use Rattle.node.specs.laws.base.Tests.{by_test}
use Rattle.node.specs.declared.head.Head.{Head}
use Rattle.node.specs.declared.slot.Last as found
use Rattle.tree.specs.State.{node_at}
use Rattle.tree.specs.Workspace.{slot_bytes, state_of}
use Rattle.tree.specs.Answers.{record_in, floor_means, floored_output}
use Rattle.tree.specs.internal.Bank.{live, Ready}
use Rattle.tree.specs.internal.Floor.{none_in, entry_in, got_last, EntryReady, last_at, floor_at, floored_of}
use Rattle.tree.specs.laws.slots.OneSlot.{slot_room, slot_lies, slot_entry}
use Rattle.tree.specs.laws.slots.Tree.{node_in_lem}
use Rattle.tree.specs.laws.load.Fetch.{count_out, count_is}
use Rattle.tree.specs.laws.load.MapNode.{one_of}
use Rattle.tree.specs.laws.lookup.GetLeaf.{take_front}
use Rattle.tree.specs.laws.refusal1.Roomy.{entries_weight}
use Rattle.tree.specs.declared.editor.Tree.{Tree}
use Rattle.std.specs.Prelude.{Ok, Err, Some, None}
use Rattle.node.specs.declared.refusal.Refusal.TheVariants as is

-- ---- among entries

abbrev none : Entry
none = record { key = []; value = ghost }

last_none : (es : List Entry) → length es ≡ 0 → last_of es ≡ []
unfolding last_of
last_none es h = let z : length es ≤ length es - 1 = omega arith in drop_of_length-le es z

last_one : (es : List Entry) (i : ℕ) → length es ≡ suc i → last_of es ≡ get_or es i none ∷ []
unfolding last_of
last_one es i h = let j : length es - 1 ≡ i = omega arith in rw j (one_of es i none (omega arith) (omega arith))

above_none : (o : ℕ) (k : List ℕ) (es : List Entry) → not_above o k es ≡ 0 → last_not_above o k es ≡ []
unfolding last_not_above
above_none o k es h = rw h

pub above_one : (o : ℕ) (k : List ℕ) (es : List Entry) (i : ℕ) → not_above o k es ≡ suc i → last_not_above o k es ≡ get_or es i none ∷ []
unfolding last_not_above
above_one o k es i h =
    let m : ℕ = not_above o k es in
    let t : length (take m es) ≡ m = length-take m es ∙ omega (arith, above_le o k es) in
    let j : m - 1 ≡ i = omega arith in
    rw j (one_of (take m es) i none (omega arith) (omega arith) ∙ ap (λ (e : Entry). e ∷ []) (get_or-take m es i none (omega arith)))

-- ---- the last entry of a slot

module _ (size : ℕ) (t : Tree) (heads bytes : List ℕ) (n count : ℕ) (e : count ≡ length (node_at (state_of size t heads bytes) n).entries) where
  pub last_at_none : count ≡ 0 → got_last (state_of size t heads bytes) None ≡ last_at (state_of size t heads bytes) n
  unfolding got_last none_in last_at
  last_at_none z = sym (rw (last_none (node_at (state_of size t heads bytes) n).entries (sym e ∙ z)))

  module _ (z : count ≡ 0 → ⊥) where
    pub last_at_some : got_last (state_of size t heads bytes) (Some (record { slot = n; index = count - 1 }))
        ≡ last_at (state_of size t heads bytes) n
    unfolding got_last entry_in last_at
    last_at_some = sym (rw (last_one (node_at (state_of size t heads bytes) n).entries (count - 1) (omega arith)))

    used : n < t.used
    used =
        by_test (ltb n t.used) (λ u. ltb-true n t.used u)
        (λ u. absurd (z (e ∙ sym (count_out size t heads bytes n (ltb-false n t.used u)))))

    pub last_at_ready : (slots : ℕ) → Ready size slots t.used heads bytes → EntryReady size slots t heads bytes n (count - 1)
    last_at_ready slots r =
        let k = count_is size t heads bytes n used (live (head_at heads n)) refl in
        record { ready = r; slot = used; entry = omega arith }

-- ---- the last that is not above a key

module _ (size : ℕ) (t : Tree) (heads bytes key : List ℕ) (n : ℕ) where
  module _ (c : ℕ) (l : List ℕ) (el : (node_at (state_of size t heads bytes) n).entries ≡ entries_of c l) (x : found.Last)
      (ex : x ≡ last_in t.order.code key c l) where
    pub count_above : x.count ≡ not_above t.order.code key (node_at (state_of size t heads bytes) n).entries
    unfolding last_in
    count_above = rw (el, ex)

    pub floor_at_none : x.count ≡ 0 → got_last (state_of size t heads bytes) None ≡ floor_at (state_of size t heads bytes) n key
    unfolding got_last none_in floor_at state_of
    floor_at_none z = sym (rw (above_none t.order.code key (node_at (state_of size t heads bytes) n).entries (sym count_above ∙ z)))

    module _ (z : x.count ≡ 0 → ⊥) where
      pub floor_at_some : got_last (state_of size t heads bytes) (Some (record { slot = n; index = x.count - 1 }))
          ≡ floor_at (state_of size t heads bytes) n key
      unfolding got_last entry_in floor_at state_of
      floor_at_some =
          sym (rw (above_one t.order.code key (node_at (state_of size t heads bytes) n).entries (x.count - 1) (omega (arith, count_above))))

      pub floor_at_ready : (slots : ℕ) → Ready size slots t.used heads bytes → EntryReady size slots t heads bytes n (x.count - 1)
      floor_at_ready slots r =
          let es : List Entry = (node_at (state_of size t heads bytes) n).entries in
          let m : x.count ≤ length es = omega (arith, above_le t.order.code key es, count_above) in
          let k : length es ≡ 0 → ⊥ = λ q. z (omega arith) in
          let f : EntryReady size slots t heads bytes n (length es - 1) = last_at_ready size t heads bytes n (length es) refl k slots r in
          record { ready = r; slot = f.slot; entry = (let g = f.entry in omega arith) }

-- ---- an entry copied out as its record

module _ (size slots : ℕ) (t : Tree) (heads bytes : List ℕ) (n i : ℕ) (r : EntryReady size slots t heads bytes n i) (h : Head)
    (eh : h ≡ live (head_at heads n)) where
  module _ (l : List ℕ) (el : l ≡ slot_bytes size bytes n) where
    pub entry_room : records_length h.count l ≤ length l
    entry_room = slot_room size slots t.used n heads bytes r.ready r.slot l el h eh

    module _ (at : ℕ) (ea : at ≡ records_length i l) where
      inside : i < h.count
      inside = rw eh r.entry

      pub entry_lies : at + record_length (drop at l) ≤ length l
      entry_lies = slot_lies size slots t.used n heads bytes r.ready r.slot l el h eh i at inside ea

      entry_is : entry_in (state_of size t heads bytes) n i ≡ record { state = state_of size t heads bytes; answer = entry_of (drop at l) ∷ [] }
      unfolding entry_in
      entry_is =
          let e = slot_entry size slots t.used n heads bytes r.ready r.slot l el h eh i at inside ea in
          rw (node_in_lem size t heads bytes n r.slot, e)

      module _ (end : ℕ) (ee : end ≡ at + record_length (drop at l)) where
        long : end - at ≡ record_length (drop at l)
        long = omega arith

        room : record_length (drop at l) ≤ length (drop at l)
        room = let z = entry_lies in omega (arith, length-drop at l)

        record_long : length (records_of (entry_of (drop at l) ∷ [])) ≡ end - at
        unfolding entries_of records_length
        record_long = entries_weight 1 (drop at l) (omega (arith, room)) ∙ omega (arith, long)

        module _ (out : List ℕ) (q : length out < end - at) where
          output_is : floored_of (length out) (entry_in (state_of size t heads bytes) n i) ≡ refused 20
          unfolding floored_of
          output_is = rw (entry_is, record_long, lt-leb (end - at) (length out) q)

          pub record_refused : floor_means size heads bytes out (Err is.Output) ≡ floored_of (length out)
              (entry_in (state_of size t heads bytes) n i)
          unfolding floor_means
          record_refused = sym output_is

          pub record_refused_same : out ≡ floored_output out (floored_of (length out) (entry_in (state_of size t heads bytes) n i))
          unfolding floored_output
          record_refused_same = sym (ap (floored_output out) output_is)

        module _ (out : List ℕ) (q : end - at ≤ length out) (out' : List ℕ) (eo : out' ≡ splice out 0 (take (end - at) (drop at l))) where
          found_is : floored_of (length out) (entry_in (state_of size t heads bytes) n i) ≡ ok
              (record { state = state_of size t heads bytes; answer = entry_of (drop at l) ∷ [] })
          unfolding floored_of
          found_is = rw (entry_is, record_long, le-leb (end - at) (length out) q)

          part_long : length (take (end - at) (drop at l)) ≡ end - at
          part_long = length-take (end - at) (drop at l) ∙ omega (arith, long, room)

          front : take (end - at) out' ≡ take (end - at) (drop at l)
          front = ap₂ take (sym part_long) eo ∙ take_front out (take (end - at) (drop at l))

          entry_front : entries_of 1 (take (end - at) out') ≡ entry_of (drop at l) ∷ []
          unfolding entries_of
          entry_front =
              let d : List ℕ = drop at l in
              let m : record_length (drop at l) ≤ end - at = omega (arith, long) in
              let twice : take (end - at) (take (end - at) d) ≡ take (end - at) d =
              ap (λ (k : ℕ). take k (take (end - at) d)) (sym part_long) ∙ take-length (take (end - at) d) in
              ap (entries_of 1) front ∙ ap (λ (x : Entry). x ∷ []) (entry_local (end - at) d (take (end - at) d) m twice)

          pub record_copied : floor_means size heads bytes out' (Ok (t, Some (end - at))) ≡ floored_of (length out)
              (entry_in (state_of size t heads bytes) n i)
          unfolding floor_means record_in
          record_copied = sym (found_is ∙ rw entry_front)

          pub record_copied_out : Bytes l → out' ≡ floored_output out (floored_of (length out) (entry_in (state_of size t heads bytes) n i))
          unfolding floored_output records_of entries_of records_length slot_bytes
          record_copied_out bl =
              let once : end - at ≡ record_length (drop at l) + 0 = omega (arith, long) in
              let w : records_of (entry_of (drop at l) ∷ []) ≡ take (end - at) (drop at l) =
              records_whole 1 (drop at l) (omega (arith, room)) (bytes_drop at l bl) ∙ ap (λ (k : ℕ). take k (drop at l)) (sym once) in
              eo ∙ ap (splice out 0) (sym w) ∙ sym (ap (floored_output out) found_is)

pub ruleset floor_at_laws = (floor_at_none, floor_at_some, floor_at_ready)

pub ruleset last_at_laws = (last_at_none, last_at_some, last_at_ready)
