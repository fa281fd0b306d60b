-- What the steps of get compute, of the slots.
use Rattle.std.specs.Prelude.{List, [], ◌∷◌, ℕ, leb, Option, Some, None, Ok, Err}
use Rattle.std.specs.Prelude as std
use Rattle.node.specs.Slot.{value_means}
use Rattle.node.specs.Result.{Result, ok, ◌>>=◌, ◌>>◌, check}
use Rattle.node.specs.Refusals as refusal
use Rattle.node.specs.declared.refusal.Refusal.{Refusal}
use Rattle.node.specs.Entry.{Val}
use Rattle.tree.specs.Lent as lent
use Rattle.tree.specs.State.{State, node_at}
use Rattle.tree.specs.Lookup as lookup
pub use Rattle.tree.specs.Trusts.{GotCalled}
use Rattle.tree.specs.declared.editor.Tree.{Tree}
use Rattle.node.specs.declared.val.Val as Kept
use Rattle.tree.specs.declared.get.Copied.{Copied}

-- what a key holds, if anything
unfoldable pub held_means : Option Kept.Val → List Val
held_means None = []
held_means (Some v) = value_means v ∷ []

-- of `get_in`, what follows the leaf: 20
unfoldable pub got_held : State → ℕ → List Val → Result (lookup.Got Val)
got_held s room v = check refusal.output (leb (lookup.got_length v) room) >> ok (record { state = s; answer = v })

-- what a key holds in slot n, and what follows it
unfoldable pub held_at : State → ℕ → List ℕ → List Val
held_at s n k = lookup.held s.order k (node_at s n).entries

unfoldable pub got_at : State → ℕ → ℕ → List ℕ → Result (lookup.Got Val)
got_at s room n k = got_held s room (held_at s n k)

-- of `get_in`, what follows 12
unfoldable pub got_way : lent.Lent → State → ℕ → List ℕ → Result (lookup.Got Val)
got_way l s room k = lookup.way l s k >>= λ w. got_held w.state room
    (lookup.held s.order k (node_at w.state (lookup.leaf_of w.steps)).entries)

-- get's answer with a tree, by what it copied out
abbrev pub got_of : Tree → std.Result (Option Copied) Refusal → std.Result (Tree × Option Copied) Refusal
got_of t (Err x) = Err x
got_of t (Ok c) = Ok (t, c)
