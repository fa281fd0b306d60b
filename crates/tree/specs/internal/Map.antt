-- What the values of the object map's lookup mean.
use Rattle.std.specs.Prelude.{List, [], ◌∷◌, cond, ◌&&◌, not, ℕ, ◌-◌, ltb, Option, Some, None, Ok, Err}
use Rattle.std.specs.Prelude as std
use Rattle.node.specs.Result.{Result, ok, refused, ◌>>=◌, ◌>>◌, check}
use Rattle.node.specs.Refusals as refusal
use Rattle.node.specs.Order.{pair, pair_key, less}
use Rattle.node.specs.Entry.{Entry}
use Rattle.node.specs.Find.{key_at}
use Rattle.node.specs.Read.{OnDisk, on_disk, read_node}
use Rattle.node.specs.Slot.{value_means}
use Rattle.node.specs.Place.{Place}
use Rattle.node.specs.declared.refusal.Refusal.{Refusal}
use Rattle.tree.specs.Lent as lent
use Rattle.tree.specs.Load as load
use Rattle.tree.specs.declared.mapped.MapNode.{MapNode}
use Rattle.tree.specs.declared.mapped.Mapped.{Mapped}

-- `load_block`, of the keys of its bounds
unfoldable pub load_at : lent.Lent → ℕ → Place → List ℕ → List ℕ → ℕ → Result OnDisk
load_at l o p lower upper a = check refusal.address (lent.in_image l a) >> read_node o p lower upper (lent.block_at l a)

-- a node of the map
unfoldable pub map_read : MapNode → OnDisk
map_read d = on_disk d.read.node d.read.block.now

-- the node at an address, as a child within its bounds
unfoldable pub map_child_at : lent.Lent → ℕ → load.Bounds → ℕ → Result OnDisk
map_child_at l level cs a = load.load_block l pair (load.child_place 16 16 cs level a) cs a

unfoldable pub map_loaded_of : std.Result MapNode Refusal → Result OnDisk
map_loaded_of (Err x) = refused (refusal.number_of x)
map_loaded_of (Ok d) = ok (map_read d)

-- of `map_floor`, where the child on the way has no entry: the last entry of the child before it
unfoldable pub leftward : ℕ → lent.Lent → OnDisk → load.Bounds → List ℕ → ℕ → Result (List Entry)
leftward n l d bs k i =
    cond (ltb 0 i && not (less pair k (key_at d.entries i)))
    (load.map_child l d bs (i - 1) >>= λ c. load.map_last n l c (load.child_bounds pair bs d.entries (i - 1)))
    (ok [])

-- the entry found, if there is one
unfoldable pub found_of : Option Mapped → List Entry
found_of None = []
found_of (Some m) = record { key = m.key.now; value = value_means m.value } ∷ []

unfoldable pub spotted_of : std.Result (Option Mapped) Refusal → Result (List Entry)
spotted_of (Err x) = refused (refusal.number_of x)
spotted_of (Ok m) = ok (found_of m)

unfoldable pub address_at : std.Result ℕ Refusal → Result ℕ
address_at (Err x) = refused (refusal.number_of x)
address_at (Ok a) = ok a

-- of `map_address`, what follows the map's root
unfoldable pub looked_up : lent.Lent → OnDisk → ℕ → ℕ → Result ℕ
looked_up l d xid id = load.map_floor d.node.level l d load.unbounded (pair_key id xid) >>= load.mapping id
