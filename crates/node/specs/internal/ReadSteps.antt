-- What the checks of a block leave, one after another.
use Rattle.std.specs.Prelude.{◌≡◌, List, true, cond, ℕ, ◌+◌, ◌-◌, ◌*◌, ◌≤◌, length}
use Rattle.node.specs.Obj.{node_header}
use Rattle.node.specs.Read.{is_fixed, spans_hold, spans_length}
use Rattle.node.specs.declared.read.Node.{Node}

-- what 6 leaves of a block of at most 65,536 bytes: its contents hold the entries, its key and value areas lie in it
pub record Laid (v : Node) (size : ℕ) : Type 0 where
  pub contents : v.toc + v.nkeys * cond (is_fixed v) 4 8 ≤ v.keys
  pub keys_end : v.keys ≤ v.vals
  pub vals_end : v.vals ≤ size
  pub small : size ≤ 65536

-- what 6 and 8 leave: each entry lies in the block, and all together are no longer than what the header leaves of it
pub record Sound (v : Node) (b : List ℕ) : Type 0 where
  pub laid : Laid v (length b)
  pub held : spans_hold v b 0 v.nkeys ≡ true
  pub sum : spans_length v b 0 v.nkeys ≤ length b - node_header
