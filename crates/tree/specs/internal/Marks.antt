-- Marks of slots: what the pass over the slots computes, and that it is "no slot is reached twice".
use Rattle.std.specs.Prelude.{List, [], ◌∷◌, Bool, true, false, cond, ℕ, get_or, set, leb, eqb}
use Rattle.node.specs.Result.{Result, ok, refused, ◌>>=◌}
use Rattle.node.specs.Entry.{Entry, Val, ghost, leaf, disk, mem}
use Rattle.node.specs.Slot.{MemNode}

-- what the code answers: the marks after, or no
unfoldable pub mark_of : Bool → List ℕ → Result (List ℕ)
mark_of true ms = ok ms
mark_of false ms = refused 1

unfoldable pub mark_slot : ℕ → ℕ → List ℕ → Result (List ℕ)
mark_slot used c ms = cond (leb used c) (ok ms) (cond (eqb (get_or ms c 0) 0) (ok (set ms c 1)) (refused 1))

unfoldable pub mark_value : ℕ → Val → List ℕ → Result (List ℕ)
mark_value used ghost ms = ok ms
mark_value used (leaf v) ms = ok ms
mark_value used (disk r) ms = ok ms
mark_value used (mem c) ms = mark_slot used c ms

unfoldable pub mark_entries : ℕ → List Entry → List ℕ → Result (List ℕ)
mark_entries used [] ms = ok ms
mark_entries used (e ∷ es) ms = mark_value used e.value ms >>= mark_entries used es

unfoldable pub mark_nodes : ℕ → List MemNode → List ℕ → Result (List ℕ)
mark_nodes used [] ms = ok ms
mark_nodes used (m ∷ ns) ms = cond m.dead (ok ms) (mark_entries used m.entries ms) >>= mark_nodes used ns
