-- What the steps of range compute, of the slots: nodes loaded and entries counted, then written out.
use Rattle.std.specs.Prelude.{List, [], ◌∷◌, ◌++◌, Bool, cond, ◌&&◌, not, ℕ, zero, suc, ◌+◌, ◌^◌, length, leb, Option, Some, None, Ok, Err}
use Rattle.std.specs.Borrow.{Bor}
use Rattle.std.specs.Prelude as std
use Rattle.node.specs.Result.{Result, ok, refused, ◌>>=◌, ◌>>◌, check}
use Rattle.node.specs.Refusals as refusal
use Rattle.node.specs.declared.refusal.Refusal.{Refusal}
use Rattle.node.specs.Order.{less}
use Rattle.node.specs.Entry.{Entry, Val, ghost, leaf, disk, mem}
use Rattle.node.specs.Find.{val_at}
use Rattle.node.specs.Records.{records_of}
use Rattle.tree.specs.Lent as lent
use Rattle.tree.specs.State.{State, node_at}
use Rattle.tree.specs.Workspace.{state_of}
use Rattle.tree.specs.Load.{Bounds, unbounded, child_bounds, load_child}
use Rattle.tree.specs.Lookup.{Got, ends_above, between, range_enters, range_from}
pub use Rattle.tree.specs.Trusts.{RangeCalled}
use Rattle.tree.specs.declared.editor.Tree.{Tree}
use Rattle.tree.specs.declared.range.Ranged.{Ranged}

-- ---- between two ends

-- an upper end, if there is one
unfoldable pub end_of : Option (Bor (List ℕ)) → List (List ℕ)
end_of None = []
end_of (Some hi) = hi.now ∷ []

-- whether a key lies between
unfoldable pub lies_between : ℕ → List ℕ → List (List ℕ) → List ℕ → Bool
lies_between o lo hi k = not (less o k lo) && ends_above o hi k

-- of m children from child i on, the first that range enters, if there is one
unfoldable pub next_entered : ℕ → List ℕ → List (List ℕ) → List Entry → ℕ → ℕ → Option ℕ
next_entered o lo hi es zero i = None
next_entered o lo hi es (suc m) i = cond (range_enters o lo hi es i) (Some i) (next_entered o lo hi es m (suc i))

-- ---- sums that are cut off

abbrev pub most : ℕ
most = 2 ^ 62

unfoldable pub at_most : ℕ → ℕ
at_most n = cond (leb n most) n most

-- how many, and how many bytes
pub record Sum : Type 0 where
  pub count : ℕ
  pub length : ℕ

-- how many entries, and the bytes of their records
unfoldable pub sum_of : List Entry → Sum
sum_of es = record { count = at_most (length es); length = at_most (length (records_of es)) }

-- two sums as one
unfoldable pub plus : Sum → Sum → Sum
plus a b = record { count = at_most (a.count + b.count); length = at_most (a.length + b.length) }

-- the same as the code says it: with the tree that they are of
unfoldable pub found_in : Tree → List Entry → Ranged
found_in t es = record { tree = t; count = at_most (length es); length = at_most (length (records_of es)) }

-- what was found, and what was found after it
unfoldable pub both : Ranged → Ranged → Ranged
both a b = record { tree = b.tree; count = at_most (a.count + b.count); length = at_most (a.length + b.length) }

-- ---- loaded and counted

-- a state, and the sum of the entries found
pub record Counted : Type 0 where
  pub state : State
  pub sum : Sum

unfoldable pub counted : Result (Got Entry) → Result Counted
counted r = r >>= λ g. ok (record { state = g.state; sum = sum_of g.answer })

-- a sum put before what was counted
unfoldable pub ahead : Sum → Result Counted → Result Counted
ahead a r = r >>= λ c. ok (record { state = c.state; sum = plus a c.sum })

-- what the code answers, of the words and bytes that it leaves
unfoldable pub ranged_of : ℕ → List ℕ → List ℕ → std.Result Ranged Refusal → Result Counted
ranged_of size heads bytes (Err x) = refused (refusal.number_of x)
ranged_of size heads bytes (Ok r) = ok (record { state = state_of size r.tree heads bytes; sum = record { count = r.count; length = r.length } })

-- of `range_kids`, child i alone: loaded and looked into
unfoldable pub range_child : (State → Bounds → ℕ → Result (Got Entry)) → lent.Lent → State → Bounds → ℕ → ℕ → Result (Got Entry)
range_child f l s bs n i = load_child l s bs n i >>= λ c. f c.state (child_bounds s.order bs (node_at s n).entries i) c.slot

-- ---- written out: the entries in range of a tree whose nodes are loaded

-- what lies below a value: nothing unless it is a child in a slot
unfoldable pub held_below : (ℕ → List Entry) → Val → List Entry
held_below f ghost = []
held_below f (leaf v) = []
held_below f (disk r) = []
held_below f (mem c) = f c

-- child i of slot n, if range enters it
unfoldable pub held_child : (ℕ → List Entry) → State → List ℕ → List (List ℕ) → ℕ → ℕ → List Entry
held_child f s lo hi n i =
    cond (range_enters s.order lo hi (node_at s n).entries i) (held_below f (val_at (node_at s n).entries i)) []

-- the children of slot n from child i on, m of them
unfoldable pub held_kids : (ℕ → List Entry) → State → List ℕ → List (List ℕ) → ℕ → ℕ → ℕ → List Entry
held_kids f s lo hi n zero i = []
held_kids f s lo hi n (suc m) i = held_child f s lo hi n i ++ held_kids f s lo hi n m (suc i)

-- d levels below slot n. A child that is not in a slot gives none
unfoldable pub range_held : ℕ → State → List ℕ → List (List ℕ) → ℕ → List Entry
range_held zero s lo hi n = between s.order lo hi (node_at s n).entries
range_held (suc d) s lo hi n = held_kids (range_held d s lo hi) s lo hi n (length (node_at s n).entries) 0

-- ---- the call

-- of `range_in`, what follows 12
unfoldable pub range_way : lent.Lent → State → ℕ → List ℕ → List ℕ → Result (Got Entry)
range_way l s room lo hi = do
  g ← range_from (node_at s s.root).level l lo (hi ∷ []) s unbounded s.root
  check refusal.output (leb (length (records_of g.answer)) room)
  ok g
