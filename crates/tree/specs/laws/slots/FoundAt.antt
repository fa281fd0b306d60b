-- Where a key stands in a slot, as the code finds it. Assumes nothing.
use Rattle.std.specs.Prelude.{◌≡◌, refl, List, Bool, true, false, cond, ℕ, ◌<◌, length, Option, Some, Result, Ok, Err, is_ok}
use Rattle.std.specs.Result.{result_ok}
use Rattle.std.proofs.Common.{subst, sym, ap, ◌∙◌, arith}
use Rattle.node.specs.Entry.{Entry}
use Rattle.node.specs.Find.{place_of, is_there}
use Rattle.node.specs.Records.{records_length, entries_of}
use Rattle.node.specs.Slot.{MemNode, head_at}
use Rattle.node.specs.internal.SlotSteps.{found_in}
use Rattle.node.specs.laws.order.Found.{place_le, there_in}
use Rattle.node.specs.laws.slot.Records.{length_entries}
use Rattle.node.specs.declared.slot.RecordAt.{RecordAt}
use Rattle.tree.specs.State.{State, node_at}
use Rattle.tree.specs.Workspace.{slot_bytes, state_of}
use Rattle.tree.specs.internal.Bank.{node_in, live}
use Rattle.tree.specs.internal.Found.{spot_found, FoundAt}
use Rattle.tree.specs.internal.Writers.{SpotIn}
use Rattle.tree.specs.laws.slots.Bank.{live_entries}
use Rattle.tree.specs.laws.slots.Tree.{node_in_lem}
use Rattle.tree.specs.declared.editor.Tree.{Tree}
use Rattle.tree.specs.declared.floor.Spot.{Spot}

-- a record, which has the key or would stand there
tested : (b : Bool) (x r : RecordAt) (q : Result RecordAt RecordAt) → q ≡ cond b (Ok x) (Err x) → q ≡ Ok r → (b ≡ true) × (r ≡ x)
tested true x r q e d = (refl, cc)
tested false x r q e d = absurd cc

untested : (b : Bool) (x r : RecordAt) (q : Result RecordAt RecordAt) → q ≡ cond b (Ok x) (Err x) → q ≡ Err r → (b ≡ false) × (r ≡ x)
untested true x r q e d = absurd cc
untested false x r q e d = (refl, cc)

module _ (size : ℕ) (t : Tree) (heads bytes : List ℕ) (n : ℕ) (k l : List ℕ) (c : ℕ) (q : Result RecordAt RecordAt) (u : n < t.used)
    (ec : c ≡ (live (head_at heads n)).count) (el : l ≡ slot_bytes size bytes n) (eq : q ≡ found_in t.order.code k c l) where
  abbrev es : List Entry
  es = entries_of (live (head_at heads n)).count (slot_bytes size bytes n)

  abbrev here : RecordAt
  here = record { index = place_of t.order.code k es; at = records_length (place_of t.order.code k es) (slot_bytes size bytes n) }

  entries_are : (node_at (state_of size t heads bytes) n).entries ≡ es
  unfolding node_in
  entries_are = ap (λ (m : MemNode). m.entries) (node_in_lem size t heads bytes n u) ∙ live_entries (head_at heads n) (slot_bytes size bytes n)

  answer : q ≡ cond (is_there t.order.code k es) (Ok here) (Err here)
  unfolding found_in
  answer = eq ∙ rw (ec, el)

  places : (f : Result Spot Spot) → (spot_found f).slot ≡ n → (spot_found f).index ≡ here.index → (spot_found f).at ≡ here.at
      → is_ok f ≡ is_there t.order.code k es → FoundAt size (state_of size t heads bytes) heads bytes n k f
  unfolding state_of
  places f a i p b =
      let w : length es ≡ (live (head_at heads n)).count = length_entries (live (head_at heads n)).count (slot_bytes size bytes n) in
      record {
        slot = a;
        place = i ∙ ap (place_of t.order.code k) (sym entries_are);
        there = b ∙ ap (is_there t.order.code k) (sym entries_are);
        start = p ∙ ap (λ (j : ℕ). records_length j (slot_bytes size bytes n)) (sym i);
        upto = omega (arith, place_le t.order.code k es);
        within = λ z. omega (arith, there_in t.order.code k es (sym b ∙ z));
      }

  module _ (r : RecordAt) (s : Spot) (e : s ≡ record { slot = n; index = r.index; at = r.at }) where
    pub key_found : q ≡ Ok r → FoundAt size (state_of size t heads bytes) heads bytes n k (Ok s)
    key_found d =
        let (b, h) = tested (is_there t.order.code k es) here r q answer d in
        places (Ok s) (ap (λ (x : Spot). x.slot) e)
        (ap (λ (x : Spot). x.index) e ∙ ap (λ (x : RecordAt). x.index) h)
        (ap (λ (x : Spot). x.at) e ∙ ap (λ (x : RecordAt). x.at) h) (sym b)

    pub key_absent : q ≡ Err r → FoundAt size (state_of size t heads bytes) heads bytes n k (Err s)
    key_absent d =
        let (b, h) = untested (is_there t.order.code k es) here r q answer d in
        places (Err s) (ap (λ (x : Spot). x.slot) e)
        (ap (λ (x : Spot). x.index) e ∙ ap (λ (x : RecordAt). x.index) h)
        (ap (λ (x : Spot). x.at) e ∙ ap (λ (x : RecordAt). x.at) h) (sym b)

-- ---- what the edits of a leaf ask of the place

pub found_spot : (size used : ℕ) (s : State) (heads bytes : List ℕ) (k : List ℕ) (n : ℕ) → n < used → (spot : Spot)
    → FoundAt size s heads bytes n k (Ok spot) → SpotIn size used heads bytes spot
found_spot size used s heads bytes k n u spot a =
    let e : spot.slot ≡ n = a.slot in
    record { slot = rw e u; index = rw e (a.within refl); start = rw e a.start }

-- the entry that has the key, where there is one
pub found_here : (size : ℕ) (s : State) (heads bytes : List ℕ) (n : ℕ) (k : List ℕ) (f : Result Spot Spot) → FoundAt size s heads bytes n k f
    → (v : Option Spot) → v ≡ result_ok f → (spot : Spot) → v ≡ Some spot → FoundAt size s heads bytes n k (Ok spot)
found_here size s heads bytes n k (Ok x) a v e spot d =
    let z : x ≡ spot = cc in
    subst (λ (y : Spot). FoundAt size s heads bytes n k (Ok y)) z a
found_here size s heads bytes n k (Err x) a v e spot d = absurd cc

-- the slot is the spot's own
pub found_self : (size : ℕ) (s : State) (heads bytes : List ℕ) (n : ℕ) (k : List ℕ) (f : Result Spot Spot) → FoundAt size s heads bytes n k f
    → FoundAt size s heads bytes (spot_found f).slot k f
found_self size s heads bytes n k f a = subst (λ (m : ℕ). FoundAt size s heads bytes m k f) (sym a.slot) a
