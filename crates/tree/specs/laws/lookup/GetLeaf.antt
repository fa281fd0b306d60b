-- Laws of get: what a key holds in a leaf, copied out. Assumes nothing.
use Rattle.std.specs.Prelude.{◌≡◌, refl, List, [], ◌∷◌, true, get_or, drop}
use Rattle.std.specs.Borrow.{Bor}
use Rattle.std.proofs.Math.Path.{sym, ap}
use Rattle.std.proofs.Common.{◌∙◌, get_or-drop}
use Rattle.std.proofs.Math.Bool.{false, not}
use Prim.Native.Nat.{ℕ, ◌+◌, ◌≤◌, ◌<◌}
use native.Mathlib.Omega.{arith}
use Rattle.std.proofs.Math.ListN.{length, take}
use Rattle.std.proofs.Math.Seq.{take-append_seam}
use borrow.Author.Tests.{le-leb, lt-leb, not-true}
use Rattle.node.specs.Bytes.{splice}
use Rattle.node.specs.laws.base.Tests.{by_test, never}
use Rattle.node.specs.Entry.{Entry, Val, ghost, leaf}
use Rattle.node.specs.Find.{val_at, place_of, is_there}
use Rattle.node.specs.laws.order.Found.{there_in}
use Rattle.node.specs.laws.order.Rising.{every_at}
use Rattle.node.specs.laws.slot.Records.{entries_head, length_entries}
use Rattle.node.specs.laws.slot.Slot.{at_lies}
use Rattle.node.specs.Records.{record_length, records_length, entry_of, entries_of}
use Rattle.node.specs.Slot.{is_child, suit, suits, child_means, value_means}
use Rattle.node.specs.internal.SlotSteps.{found_in}
use Rattle.node.specs.declared.slot.RecordAt.{RecordAt}
use Rattle.tree.specs.Lookup as lookup
use Rattle.node.specs.Result.{ok, refused}
use Rattle.node.specs.Entry.{value_length, value_bytes}
use Rattle.tree.specs.State.{node_at}
use Rattle.tree.specs.Workspace.{state_of}
use Rattle.tree.specs.Answers.{copied_of, got_means, got_bytes, got_output}
use Rattle.tree.specs.internal.Get.{held_means, got_held, held_at, got_at}
use Rattle.tree.specs.declared.editor.Tree.{Tree}
use Rattle.node.specs.declared.val.Val as Kept
use Rattle.node.specs.declared.val.Val.TheVariants as kept
use Rattle.node.specs.declared.val.Child.TheVariants as child
use Rattle.std.specs.Prelude.{cond, Result, Ok, Err, Some, None, Option}
use Rattle.std.specs.Result.{result_ok}
use Rattle.node.specs.declared.refusal.Refusal.TheVariants as is
use Rattle.tree.specs.declared.get.Copied.TheVariants as copied

-- ---- what a key holds among a leaf's records

module _ (o n : ℕ) (k l : List ℕ) (q : Result RecordAt RecordAt) (eq : q ≡ found_in o k n l) (v : Option RecordAt) (ev : v ≡ result_ok q) where
  abbrev here : RecordAt
  here = record { index = place_of o k (entries_of n l); at = records_length (place_of o k (entries_of n l)) l }

  lies_at : v ≡ cond (is_there o k (entries_of n l)) (Some here) None
  unfolding found_in
  lies_at = ev ∙ ap result_ok eq ∙ by_test (is_there o k (entries_of n l)) (λ t. rw t) (λ t. rw t)

  pub held_none : v ≡ None → held_means None ≡ lookup.held o k (entries_of n l)
  unfolding held_means lookup.held
  held_none h =
      by_test (is_there o k (entries_of n l))
      (λ t. let z : v ≡ Some here = lies_at ∙ rw t in absurd cc)
      (λ t. sym (rw t))

  module _ (f : RecordAt) (h : v ≡ Some f) where
    there : is_there o k (entries_of n l) ≡ true
    there =
        by_test (is_there o k (entries_of n l)) (λ t. t)
        (λ t. let z : v ≡ None = lies_at ∙ rw t in absurd cc)

    place_in : place_of o k (entries_of n l) < n
    place_in = let a = there_in o k (entries_of n l) there in omega (arith, length_entries n l)

    at_is : f.at ≡ records_length (place_of o k (entries_of n l)) l
    at_is =
        let z : v ≡ Some here = lies_at ∙ rw there in
        let y : f ≡ here = cc in
        ap (λ (x : RecordAt). x.at) y

    pub held_lies : records_length n l ≤ length l → f.at + record_length (drop f.at l) ≤ length l
    held_lies r = at_lies l n (place_of o k (entries_of n l)) f.at r place_in at_is

    entry_is : entry_of (drop f.at l) ≡ get_or (entries_of n l) (place_of o k (entries_of n l)) (record { key = []; value = ghost })
    entry_is =
        let i : ℕ = place_of o k (entries_of n l) in
        let z : i + 0 ≡ i = omega arith in
        sym (ap (λ (x : List Entry). get_or x 0 (record { key = []; value = ghost })) (entries_head i n f.at l place_in at_is))
        ∙ get_or-drop i (entries_of n l) 0 (record { key = []; value = ghost })
        ∙ ap (λ (j : ℕ). get_or (entries_of n l) j (record { key = []; value = ghost })) z

    pub held_is : (v : Kept.Val) → value_means v ≡ (entry_of (drop f.at l)).value → held_means (Some v) ≡ lookup.held o k (entries_of n l)
    unfolding held_means lookup.held val_at
    held_is v e = ap (λ (x : Val). x ∷ []) e ∙ sym (rw (there, entry_is))

pub ruleset holding = (held_none, held_lies, held_is)

-- what is held among a leaf's entries is no child
module _ (o : ℕ) (k : List ℕ) (es : List Entry) (fits : suits true es ≡ true) where
  held_suit : (v : Val) → v ∷ [] ≡ lookup.held o k es → is_child v ≡ false
  unfolding lookup.held val_at suits suit
  held_suit v e =
      let i : ℕ = place_of o k es in
      by_test (is_there o k es)
      (λ t. let q : v ∷ [] ≡ (get_or es i (record { key = []; value = ghost })).value ∷ [] = rw t at e in
      let z = every_at (suit true) es i (record { key = []; value = ghost }) (there_in o k es t) fits in
      not-true (is_child v) (ap (λ (x : List Val). not (is_child (get_or x 0 ghost))) q ∙ z))
      (λ t. let q : v ∷ [] ≡ [] = rw t at e in let y : ◌≡◌ {A = ℕ} 1 0 = ap length q in absurd (omega arith))

-- what is neither a leaf's bytes nor a child is a ghost
no_leaf : (x : Kept.Val) → ((a : Bor (List ℕ)) → x ≡ kept.Leaf a → ⊥) → is_child (value_means x) ≡ false → value_means x ≡ ghost
unfolding value_means is_child child_means
no_leaf kept.Ghost d c = refl
no_leaf (kept.Leaf a) d c = absurd (d a refl)
no_leaf (kept.Child (child.Disk r)) d c = never (sym c) refl
no_leaf (kept.Child (child.Mem r)) d c = never (sym c) refl

-- ---- copied out

pub splice_none : (out : List ℕ) → splice out 0 [] ≡ out
unfolding splice
splice_none out = refl

pub take_front : (out vs : List ℕ) → take (length vs) (splice out 0 vs) ≡ vs
unfolding splice
take_front out vs = take-append_seam vs (drop (0 + length vs) out)

module _ (size : ℕ) (t : Tree) (heads bytes : List ℕ) (n : ℕ) (key out : List ℕ) where
  module _ (z : [] ≡ held_at (state_of size t heads bytes) n key) where
    none_is : got_at (state_of size t heads bytes) (length out) n key ≡ ok (record { state = state_of size t heads bytes; answer = [] })
    unfolding got_at got_held lookup.got_length
    none_is = rw (← z, le-leb 0 (length out) (omega arith))

    none_answer : got_means size heads bytes out (Ok (t, None)) ≡ got_at (state_of size t heads bytes) (length out) n key
    unfolding got_means copied_of
    none_answer = sym none_is

    none_output : out ≡ got_output out (got_at (state_of size t heads bytes) (length out) n key)
    unfolding got_output got_bytes
    none_output = sym (ap (got_output out) none_is ∙ splice_none out)

  module _ (c : ℕ) (l : List ℕ) (el : (node_at (state_of size t heads bytes) n).entries ≡ entries_of c l) where
    module _ (v : Option Kept.Val) (ev : held_means v ≡ lookup.held t.order.code key (entries_of c l)) where
      held_at_lem : held_means v ≡ held_at (state_of size t heads bytes) n key
      unfolding held_at state_of
      held_at_lem = ev ∙ ap (lookup.held t.order.code key) (sym el)

      module _ (e : v ≡ None) where
        is_none : [] ≡ held_at (state_of size t heads bytes) n key
        unfolding held_means
        is_none = sym (ap held_means e) ∙ held_at_lem

        pub copy_none : got_means size heads bytes out (Ok (t, None)) ≡ got_at (state_of size t heads bytes) (length out) n key
        copy_none = none_answer is_none

        pub copy_none_same : out ≡ got_output out (got_at (state_of size t heads bytes) (length out) n key)
        copy_none_same = none_output is_none

      module _ (x : Kept.Val) (e : v ≡ Some x) where
        is_some_lem : value_means x ∷ [] ≡ held_at (state_of size t heads bytes) n key
        unfolding held_means
        is_some_lem = sym (ap held_means e) ∙ held_at_lem

        module _ (no : (a : Bor (List ℕ)) → x ≡ kept.Leaf a → ⊥) (fits : suits true (node_at (state_of size t heads bytes) n).entries ≡ true) where
          ghost_lem : value_means x ≡ ghost
          unfolding held_at
          ghost_lem = no_leaf x no (held_suit _ key (node_at (state_of size t heads bytes) n).entries fits (value_means x) is_some_lem)

          is_ghost_lem : ghost ∷ [] ≡ held_at (state_of size t heads bytes) n key
          is_ghost_lem = sym (ap (λ (y : Val). y ∷ []) ghost_lem) ∙ is_some_lem

          ghost_is : got_at (state_of size t heads bytes) (length out) n key ≡ ok
              (record { state = state_of size t heads bytes; answer = ghost ∷ [] })
          unfolding got_at got_held lookup.got_length value_length
          ghost_is = rw (← is_ghost_lem, le-leb 0 (length out) (omega arith))

          pub copy_ghost : got_means size heads bytes out (Ok (t, Some copied.Ghost)) ≡ got_at (state_of size t heads bytes) (length out) n key
          unfolding got_means copied_of
          copy_ghost = sym ghost_is

          pub copy_ghost_same : out ≡ got_output out (got_at (state_of size t heads bytes) (length out) n key)
          unfolding got_output got_bytes value_bytes
          copy_ghost_same = sym (ap (got_output out) ghost_is ∙ splice_none out)

        module _ (a : Bor (List ℕ)) (f : x ≡ kept.Leaf a) where
          is_value : leaf a.now ∷ [] ≡ held_at (state_of size t heads bytes) n key
          unfolding value_means
          is_value = sym (ap (λ (y : Kept.Val). value_means y ∷ []) f) ∙ is_some_lem

          module _ (q : length out < length a.now) where
            output_is : got_at (state_of size t heads bytes) (length out) n key ≡ refused 20
            unfolding got_at got_held lookup.got_length value_length
            output_is = rw (← is_value, lt-leb (length a.now) (length out) q)

            pub copy_refused : got_means size heads bytes out (Err is.Output) ≡ got_at (state_of size t heads bytes) (length out) n key
            unfolding got_means
            copy_refused = sym output_is

            pub copy_refused_same : out ≡ got_output out (got_at (state_of size t heads bytes) (length out) n key)
            unfolding got_output
            copy_refused_same = sym (ap (got_output out) output_is)

          module _ (q : length a.now ≤ length out) (out' : List ℕ) (eo : out' ≡ splice out 0 a.now) where
            value_is : got_at (state_of size t heads bytes) (length out) n key ≡ ok
                (record { state = state_of size t heads bytes; answer = leaf a.now ∷ [] })
            unfolding got_at got_held lookup.got_length value_length
            value_is = rw (← is_value, le-leb (length a.now) (length out) q)

            pub copy_value : got_means size heads bytes out' (Ok (t, Some (copied.Value (length a.now)))) ≡ got_at (state_of size t heads bytes)
                (length out) n key
            unfolding got_means copied_of
            copy_value = let z : take (length a.now) out' ≡ a.now = ap (take (length a.now)) eo ∙ take_front out a.now in sym (value_is ∙ rw z)

            pub copy_value_out : out' ≡ got_output out (got_at (state_of size t heads bytes) (length out) n key)
            unfolding got_output got_bytes value_bytes
            copy_value_out = eo ∙ sym (ap (got_output out) value_is)

pub ruleset copy_out_laws = (copy_none, copy_none_same, copy_refused, copy_refused_same, copy_value)
