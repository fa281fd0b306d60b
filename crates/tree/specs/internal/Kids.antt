-- Loaded children: the slot that a value names, none or one.
use Rattle.std.specs.Prelude.{List, [], ◌∷◌, ℕ, Option, option_to_list}
use Rattle.node.specs.Entry.{Val, ghost, leaf, disk, mem}

-- the slot of a child that is loaded
unfoldable pub slots_of : Val → List ℕ
slots_of ghost = []
slots_of (leaf v) = []
slots_of (disk r) = []
slots_of (mem c) = c ∷ []

-- what a value's reader says
unfoldable pub kid_means : Option ℕ → List ℕ
kid_means slot = option_to_list slot
