-- A child brought from disk into the next slot: what a load leaves.
use Rattle.std.specs.Prelude.{ℕ, length}
use Rattle.node.specs.Entry.{mem}
use Rattle.node.specs.Read.{OnDisk}
use Rattle.node.specs.Slot.{with_value}
use Rattle.tree.specs.State.{State, node_at, put_node, add_node, with_entries}
use Rattle.tree.specs.Load.{adopted, At}

-- child i of slot n brought into the next slot
abbrev pub brought : State → ℕ → ℕ → OnDisk → ℕ → At
brought s n i d a =
    record {
      state =
          add_node
          (put_node s n (with_entries (node_at s n) (with_value i (mem (length s.nodes)) (node_at s n).entries)))
          (adopted s.virtual a d);
      slot = length s.nodes;
    }
