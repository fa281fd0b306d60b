-- What a call that does not look at its slots trusts: what refusal 1 checks, but for rising keys. Every call keeps it, accepted or refused;
-- rising keys it need not keep, as an edit on foreign slots can set an index key below the one before it (laws/trust/Granted has such a tree).
use Rattle.std.specs.Prelude.{Bool, not, ◌&&◌, length, ltb}
use Rattle.tree.specs.Lent.{Lent}
use Rattle.tree.specs.State.{State, node_at}
use Rattle.tree.specs.Hold.{node_stands, every_live, named_once, numbers_hold}

-- slots that hold together, whatever the order of their keys
unfoldable pub stand_together : State → Bool
stand_together s =
    ltb s.root (length s.nodes) && not (node_at s s.root).dead
    && every_live (node_stands s) 0 s.nodes
    && named_once s (length s.nodes)

unfoldable pub trusted : Lent → State → Bool
trusted l s = numbers_hold l s && stand_together s
