-- How long the value of an entry of the object map is.
use Rattle.std.specs.Prelude.{ℕ, length}
use Rattle.node.specs.declared.val.Val.{Val}
use Rattle.node.specs.declared.val.Val.TheVariants.{Ghost, Leaf, Child}

-- a value that has no bytes of its own is as long as any other
unfoldable pub leaf_length : Val → ℕ
leaf_length Ghost = 16
leaf_length (Leaf v) = length v.now
leaf_length (Child c) = 16
