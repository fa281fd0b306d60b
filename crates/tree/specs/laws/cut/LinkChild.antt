-- Laws of a child linked under its first key: the room that it finds, and the slot after. Assumes nothing.
use Rattle.std.specs.Prelude.{◌≡◌, refl, List, false, ℕ, ◌+◌, ◌*◌, ◌^◌, ◌≤◌, ◌<◌, length}
use Rattle.std.proofs.Math.Path.{sym, ap}
use Rattle.std.proofs.Common.{◌∙◌, arith}
use Rattle.std.proofs.Math.ListN.{set}
use Rattle.node.specs.Entry.{Entry, Val, mem, value_length}
use Rattle.node.specs.Find.{key_at}
use Rattle.node.specs.Slot.{MemNode, head_at, insert_at, child_means, value_means}
use Rattle.node.specs.internal.Storable.{Held}
use Rattle.node.specs.declared.val.Child.TheVariants as child
use Rattle.node.specs.declared.val.Val.TheVariants as held
use Rattle.tree.specs.Workspace.{nodes_of, state_of}
use Rattle.tree.specs.State.{node_at, put_node, with_nodes, changed}
use Rattle.tree.specs.internal.Bank.{node_in, live, Ready, Put}
use Rattle.tree.specs.internal.Undo.{Follows}
use Rattle.tree.specs.internal.Writers.{edited}
use Rattle.tree.specs.declared.writers.DirtyMark.TheVariants.{Set}
use Rattle.tree.specs.internal.Index.{Rewritten}
use Rattle.tree.specs.internal.Cutting.{child_put, ChildFits}
use Rattle.tree.specs.laws.slots.Bank.{put_set, put_ready}
use Rattle.tree.specs.laws.slots.Tree.{used_nodes, node_in_lem}
use Rattle.tree.specs.laws.load.Fetch.{count_is}
use Rattle.tree.specs.laws.refusal1.Roomy.{node_weight}
use Rattle.tree.specs.declared.editor.Tree.{Tree}

-- ---- the slot

module _ (size slots n i c room : ℕ) (t : Tree) (h0 b0 : List ℕ) (r : Ready size slots t.used h0 b0)
    (f : ChildFits size (state_of size t h0 b0) n i c room) where
  pub child_slot : n < t.used
  child_slot = omega (arith, f.used, used_nodes size t h0 b0)

  pub child_index : i ≤ (live (head_at h0 n)).count
  child_index = omega (arith, f.index, count_is size t h0 b0 n child_slot (live (head_at h0 n)) refl)

  pub child_alive : (node_in size h0 b0 n).dead ≡ false
  child_alive = rw (← node_in_lem size t h0 b0 n child_slot) f.alive

  few : c < 4096
  few = omega (arith, f.child, used_nodes size t h0 b0, r.within, r.many)

  module _ (key : List ℕ) (ek : key ≡ key_at (node_at (state_of size t h0 b0) c).entries 0) where
    abbrev value : Val
    value = value_means (held.Child (child.Mem c))

    pub child_room : (live (head_at h0 n)).used + (4 + length key + value_length value) ≤ 4 * size
    unfolding value_means child_means value_length
    child_room = let z : length key ≡ length (key_at (node_at (state_of size t h0 b0) c).entries 0) = ap length ek in
        omega (arith, f.room, node_weight size slots t h0 b0 r n child_slot)

    pub child_short : length key < 2 ^ 16
    child_short = rw ek f.short

    pub child_held : Held value
    unfolding value_means child_means
    child_held = omega (arith, few)

    abbrev given : Entry
    given = record { key = key; value = value }

    abbrev meant : Entry
    meant = record { key = key_at (node_at (state_of size t h0 b0) c).entries 0; value = mem c }

    child_entry : given ≡ meant
    unfolding value_means child_means
    child_entry = ap (λ (k : List ℕ). record { key = k; value = mem c }) ek

    pub child_linked : (h1 b1 : List ℕ) → length h1 ≡ length h0 → length b1 ≡ length b0
        → Put size slots h0 b0 h1 b1 n (edited Set (node_in size h0 b0 n)
        (insert_at i given (node_in size h0 b0 n).entries))
        → Follows size slots t.used h0 b0 h1 b1 → Rewritten size slots t h0 b0 h1 b1 (child_put (state_of size t h0 b0) n i c)
    unfolding state_of put_node with_nodes
    child_linked h1 b1 e g p q =
        let m : MemNode = changed (node_in size h0 b0 n) (insert_at i given (node_in size h0 b0 n).entries) in
        let x : nodes_of size h1 b1 t.used ≡ set (nodes_of size h0 b0 t.used) n m = put_set size slots h0 b0 h1 b1 n m p t.used r.within
        child_slot in
        let y : m ≡ changed (node_at (state_of size t h0 b0) n) (insert_at i meant (node_at (state_of size t h0 b0) n).entries) =
        ap (λ (z : Entry). changed (node_in size h0 b0 n) (insert_at i z (node_in size h0 b0 n).entries)) child_entry
        ∙ sym (ap (λ (z : MemNode). changed z (insert_at i meant z.entries)) (node_in_lem size t h0 b0 n child_slot)) in
        record {
          state = rw x (ap (put_node (state_of size t h0 b0) n) y);
          ready = put_ready size slots h0 b0 h1 b1 n m p t.used r e g;
          follows = q;
        }
