-- Where a node is to stand in its tree.
use Rattle.std.specs.Prelude.{List, [], Bool, ℕ, Option, Some, None, is_some, is_none, option_and_then}
use Rattle.std.specs.Option.{option_map_or}
use Rattle.std.specs.Borrow.{Bor}
use Rattle.node.specs.declared.read.Place as lent

-- whether it is the root, the id wanted, the parent's level, the tree's fixed lengths (a root has its own), whether there is an upper bound
pub record Place : Type 0 where
  pub root : Bool
  pub oid : ℕ
  pub parent : ℕ
  pub ksize : ℕ
  pub vsize : ℕ
  pub bounded : Bool

-- the same as it is lent: a root has no parent, and takes 0 for what one gives; its bounds are keys, or none
abbrev pub place_of : lent.Place → Place
place_of p =
    record {
      root = is_none p.parent;
      oid = p.oid;
      parent = option_map_or (λ x. x.level) p.parent 0;
      ksize = option_map_or (λ x. x.ksize) p.parent 0;
      vsize = option_map_or (λ x. x.vsize) p.parent 0;
      bounded = is_some p.upper;
    }

-- a root with this id, within no bounds
abbrev pub lent_root : ℕ → lent.Place
lent_root oid = record { oid = oid; parent = None; upper = None }

-- the lower bound, which a root has not
abbrev pub lower_of : lent.Place → Option (Bor (List ℕ))
lower_of p = option_and_then (λ x. x.lower) p.parent

-- the key of a bound; nothing where there is none
abbrev pub lent_key : Option (Bor (List ℕ)) → List ℕ
lent_key None = []
lent_key (Some k) = k.now
