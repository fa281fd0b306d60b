-- Room of the workspace's words and room of the state are one: what every call leaves is no workspace that refusal 1 refuses. Assumes nothing.
use Rattle.std.specs.Prelude.{◌≡◌, leb, ltb}
use Rattle.std.proofs.Math.Path.{sym, ap}
use Rattle.std.proofs.Common.{◌∙◌, arith}
use mathlib.Core.List.{List}
use Rattle.std.proofs.Math.Bool.{true}
use Prim.Native.Nat.{ℕ, ◌*◌, ◌≤◌, ◌<◌}
use Rattle.std.proofs.Math.ListN.{length}
use Rattle.std.proofs.Math.Dec.{eqb}
use borrow.Author.Tests.{ltb-true, ltb-false}
use Rattle.node.specs.Entry.{Val}
use Rattle.node.specs.Order.{keyed}
use Rattle.node.specs.Refusals as refusal
use Rattle.node.specs.Records.{records_length, entries_of}
use Rattle.node.specs.Slot.{MemNode, head_at, node_of}
use Rattle.node.specs.laws.base.Tests.{by_test, never}
use Rattle.node.specs.laws.base.Results.{Holds, holds_ok, holds_bind, holds_check}
use Rattle.node.specs.laws.slot.Records.{length_entries, records_size}
use Rattle.tree.specs.Lent as lent
use Rattle.tree.specs.State.{State, node_at, no_node}
use Rattle.tree.specs.Lookup as lookup
use Rattle.tree.specs.Trust.{trusted}
use Rattle.tree.specs.Workspace.{slot_bytes, state_of, workspace_holds}
use Rattle.tree.specs.internal.Bank.{node_in, live, Ready}
use Rattle.tree.specs.internal.Room.{Roomy}
use Rattle.tree.specs.laws.slots.Bank.{live_entries}
use Rattle.tree.specs.laws.slots.OneSlot.{ready_part, part_long}
use Rattle.tree.specs.laws.slots.Tree.{node_in_lem, node_out}
use Rattle.tree.specs.laws.refusal1.Ready.{ready_holds, holds_small}
use Rattle.tree.specs.laws.room.Weight.{weight}
use Rattle.tree.specs.laws.room.Calls.{weight_size, roomy_way}
use Rattle.tree.specs.declared.editor.Tree.{Tree}

pub entries_weight : (n : ℕ) (l : List ℕ) → records_length n l ≤ length l → weight (entries_of n l) ≡ records_length n l
entries_weight n l h = omega (arith, weight_size (entries_of n l), records_size n l h, length_entries n l)

module _ (size slots : ℕ) (t : Tree) (heads bytes : List ℕ) (r : Ready size slots t.used heads bytes) where
  -- a slot's records take the bytes in use
  pub node_weight : (n : ℕ) → n < t.used → weight (node_at (state_of size t heads bytes) n).entries ≡ (live (head_at heads n)).used
  unfolding node_in
  node_weight n h =
      let l : List ℕ = slot_bytes size bytes n in
      let long : length l ≡ 4 * size = part_long size bytes n (ready_part size slots t.used heads bytes n r h) in
      ap (λ (m : MemNode). weight m.entries) (node_in_lem size t heads bytes n h)
      ∙ ap weight (live_entries (head_at heads n) l)
      ∙ entries_weight (live (head_at heads n)).count l (omega (arith, (r.lies n h).room))
      ∙ sym (r.lies n h).used

  dead_used : (n : ℕ) → n < t.used → (node_at (state_of size t heads bytes) n).dead ≡ true → (live (head_at heads n)).used ≤ 2 * size
  unfolding node_in node_of live
  dead_used n h d = let e : eqb (head_at heads n).dead 1 ≡ true = sym (ap (λ (m : MemNode). m.dead) (node_in_lem size t heads bytes n h))
      ∙ d in rw e (omega arith)

  pub roomy_holds : Roomy (2 * size) (state_of size t heads bytes) → workspace_holds size slots t.used heads bytes ≡ true
  roomy_holds k =
      ready_holds size slots t.used heads bytes r (λ n h.
      by_test (node_at (state_of size t heads bytes) n).dead
      (λ d. dead_used n h d)
      (λ d. omega (arith, k.most n d, node_weight n h)))

  pub holds_roomy : workspace_holds size slots t.used heads bytes ≡ true → Roomy (2 * size) (state_of size t heads bytes)
  unfolding no_node
  holds_roomy w =
      record {
        most = λ n d.
            by_test (ltb n t.used)
            (λ u. let h : n < t.used = ltb-true n t.used u in
            omega (arith, node_weight n h, holds_small size slots t.used heads bytes n w h))
            (λ u. let o : node_at (state_of size t heads bytes) n ≡ no_node = node_out size t heads bytes n (ltb-false n t.used u) in
            never (ap (λ (m : MemNode). m.dead) o) d);
      }

-- ---- what get leaves

pub roomy_get : (l : lent.Lent) (s : State) (room : ℕ) (k : List ℕ) → trusted l s ≡ true → Roomy (2 * l.size) s
    → Holds (λ g. Roomy (2 * l.size) g.state) (lookup.get_in l s room k)
unfolding lookup.get_in
roomy_get l s room k h r =
    holds_check refusal.argument (keyed s.order k) _ λ a.
    holds_bind (lookup.way l s k) _ λ w e.
    let v : List Val = lookup.held s.order k (node_at w.state (lookup.leaf_of w.steps)).entries in
    holds_check refusal.output (leb (lookup.got_length v) room) _ λ b. holds_ok ((roomy_way l s k h r).at w e)
