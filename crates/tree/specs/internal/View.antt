-- What is read of a tree: its numbers, and the words and bytes of its slots, as the state that they stand for.
use Rattle.tree.specs.State.{State}
use Rattle.tree.specs.Workspace.{state_of}
use Rattle.tree.specs.declared.view.View.{View}

-- the state that a view shows
abbrev pub seen : View → State
seen v = state_of v.lent.size v.tree v.heads.now v.bytes.now
