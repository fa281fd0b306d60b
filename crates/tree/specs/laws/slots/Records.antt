-- Laws of the records of a slot as a view gives them: none where there is no such slot. Assumes nothing.
use Rattle.std.specs.Prelude.{◌≡◌, refl, List, [], ℕ, ◌+◌, ◌≤◌, ◌<◌, ◌^◌, length, drop, None}
use Rattle.std.proofs.Math.ListN.{get_or, get_or-eq_default}
use Rattle.std.proofs.Common.{sym, ap, ◌∙◌, arith, get_or-drop}
use Rattle.node.specs.Entry.{Entry, Val, ghost}
use Rattle.node.specs.Find.{key_at, val_at}
use Rattle.node.specs.Records.{records_length, entry_of, entries_of}
use Rattle.node.specs.Slot.{head_at}
use Rattle.node.specs.laws.slot.Records.{entries_head, length_entries, records_least}
use Rattle.node.specs.declared.head.Head.{Head}
use Rattle.tree.specs.State.{no_node, node_at}
use Rattle.tree.specs.Workspace.{slot_bytes, state_of}
use Rattle.tree.specs.internal.Bank.{node_in, live, Lies, Ready}
use Rattle.node.specs.internal.Children.{child_of}
use Rattle.tree.specs.laws.slots.Bank.{live_entries}
use Rattle.tree.specs.laws.slots.Tree.{node_in_lem, node_out, none_child}
use Rattle.tree.specs.laws.slots.OneSlot.{slot_long}
use Rattle.tree.specs.declared.editor.Tree.{Tree}

-- ---- what a view gives

module _ (size : ℕ) (t : Tree) (heads bytes : List ℕ) (n : ℕ) where
  pub entries_none : t.used ≤ n → (node_at (state_of size t heads bytes) n).entries ≡ []
  unfolding no_node
  entries_none h = rw (node_out size t heads bytes n h)

  module _ (hn : n < t.used) (h : Head) (eh : h ≡ live (head_at heads n)) where
    pub entries_here : (l : List ℕ) → l ≡ slot_bytes size bytes n → (node_at (state_of size t heads bytes) n).entries ≡ entries_of h.count l
    unfolding node_in
    entries_here l el = rw (node_in_lem size t heads bytes n hn, live_entries (head_at heads n) (slot_bytes size bytes n), eh, el)

    pub records_few : (slots : ℕ) → Ready size slots t.used heads bytes → h.count < 2 ^ 32
    records_few slots r =
        let l : Lies size h (slot_bytes size bytes n) = rw eh (r.lies n hn) in
        omega (arith, l.room, records_least h.count (slot_bytes size bytes n), r.most)

pub slot_short : (size slots used n : ℕ) (heads bytes : List ℕ) → Ready size slots used heads bytes → n < used → (l : List ℕ)
    → l ≡ slot_bytes size bytes n → length l ≤ 2 ^ 20
slot_short size slots used n heads bytes r h l e =
    omega (arith, slot_long size slots used n heads bytes r h l e (live (head_at heads n)) refl, r.most)

-- what the records of a slot take is what its words say
pub node_used : (size slots used n count : ℕ) (heads bytes l : List ℕ) (h : Head) → Ready size slots used heads bytes → n < used
    → h ≡ live (head_at heads n) → count ≡ (live (head_at heads n)).count → l ≡ slot_bytes size bytes n → h.used ≡ records_length count l
node_used size slots used n count heads bytes l h r hn eh ec el = rw (eh, ec, el) (r.lies n hn).used

-- ---- an entry of them

module _ (es : List Entry) (n : ℕ) (l : List ℕ) (e : es ≡ entries_of n l) where
  pub count_is : n ≡ length es
  count_is = sym (ap length e ∙ length_entries n l)

  past : (i : ℕ) → n ≤ i → record { key = []; value = ghost } ≡ get_or es i (record { key = []; value = ghost })
  past i q = sym (get_or-eq_default es (record { key = []; value = ghost }) (omega (arith, count_is)))

  pub key_past : (i : ℕ) → n ≤ i → [] ≡ key_at es i
  unfolding key_at
  key_past i q = ap (λ (x : Entry). x.key) (past i q)

  pub child_past : (i : ℕ) → n ≤ i → None ≡ child_of (val_at es i)
  unfolding val_at
  child_past i q = none_child (get_or es i (record { key = []; value = ghost })).value (ap (λ (x : Entry). x.value) (past i q))

  module _ (i at : ℕ) (hi : i < n) (m : List ℕ) (em : m ≡ l) (ea : at ≡ records_length i l) where
    pub entry_found : entry_of (drop at m) ≡ get_or es i (record { key = []; value = ghost })
    entry_found =
        let z : i + 0 ≡ i = omega arith in
        ap (λ (x : List ℕ). entry_of (drop at x)) em
        ∙ sym (ap (λ (x : List Entry). get_or x 0 (record { key = []; value = ghost })) (entries_head i n at l hi ea))
        ∙ get_or-drop i (entries_of n l) 0 (record { key = []; value = ghost })
        ∙ ap (λ (j : ℕ). get_or (entries_of n l) j (record { key = []; value = ghost })) z
        ∙ ap (λ (x : List Entry). get_or x i (record { key = []; value = ghost })) (sym e)

    pub key_found : (k : List ℕ) → k ≡ (entry_of (drop at m)).key → k ≡ key_at es i
    unfolding key_at
    key_found k q = q ∙ ap (λ (x : Entry). x.key) entry_found

    pub value_found : (v : Val) → v ≡ (entry_of (drop at m)).value → v ≡ val_at es i
    unfolding val_at
    value_found v q = q ∙ ap (λ (x : Entry). x.value) entry_found
