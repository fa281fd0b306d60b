-- The child that a value is.
use Rattle.std.specs.Prelude.{Option, Some, None}
use Rattle.node.specs.Entry.{Val, ghost, leaf, disk, mem}
use Rattle.node.specs.declared.val.Child.{Child}
use Rattle.node.specs.declared.val.Child.TheVariants as child

unfoldable pub child_of : Val → Option Child
child_of ghost = None
child_of (leaf v) = None
child_of (disk r) = Some (child.Disk r)
child_of (mem c) = Some (child.Mem c)
