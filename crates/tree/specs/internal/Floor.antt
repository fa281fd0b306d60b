-- Where the steps of floor end, and what they compute, of the slots.
use Rattle.std.specs.Prelude.{◌≡◌, List, [], ◌∷◌, cond, ◌&&◌, not, ℕ, ◌-◌, ◌<◌, length, get_or, leb, ltb, Option, Some, None, Ok, Err}
use Rattle.std.specs.Prelude as std
use Rattle.node.specs.Result.{Result, ok, refused, ◌>>=◌, ◌>>◌, check}
use Rattle.node.specs.Refusals as refusal
use Rattle.node.specs.declared.refusal.Refusal.{Refusal}
use Rattle.node.specs.Order.{less}
use Rattle.node.specs.Entry.{Entry, ghost}
use Rattle.node.specs.Find.{key_at, last_not_above, last_of}
use Rattle.node.specs.Records.{records_length, records_of}
use Rattle.node.specs.Slot.{head_at}
use Rattle.tree.specs.Lent as lent
use Rattle.tree.specs.State.{State, node_at}
use Rattle.tree.specs.Load as load
use Rattle.tree.specs.Lookup as lookup
use Rattle.tree.specs.Workspace.{slot_bytes, state_of}
use Rattle.tree.specs.Trusts.{live, Ready}
pub use Rattle.tree.specs.Trusts.{FloorCalled}
use Rattle.tree.specs.declared.editor.Tree.{Tree}
use Rattle.tree.specs.declared.editor.Position.{Position}
use Rattle.tree.specs.declared.floor.Spot.{Spot}

-- ---- where a lookup ended

-- no entry found, and entry i of slot n found
unfoldable pub none_in : State → lookup.Got Entry
none_in s = record { state = s; answer = [] }

unfoldable pub entry_in : State → ℕ → ℕ → lookup.Got Entry
entry_in s n i = record { state = s; answer = get_or (node_at s n).entries i (record { key = []; value = ghost }) ∷ [] }

-- an entry, if there is one
unfoldable pub got_last : State → Option Position → lookup.Got Entry
got_last s None = none_in s
got_last s (Some e) = entry_in s e.slot e.index

unfoldable pub last_means : ℕ → List ℕ → List ℕ → std.Result (Tree × Option Position) Refusal → Result (lookup.Got Entry)
last_means size heads bytes (Err x) = refused (refusal.number_of x)
last_means size heads bytes (Ok (t, e)) = ok (got_last (state_of size t heads bytes) e)

-- slots that are ready, with an entry i of slot n
pub record EntryReady (size slots : ℕ) (t : Tree) (heads bytes : List ℕ) (n i : ℕ) : Type 0 where
  pub ready : Ready size slots t.used heads bytes
  pub slot : n < t.used
  pub entry : i < (live (head_at heads n)).count

-- the same of the entry that a lookup ended at
abbrev pub AtEntry : ℕ → ℕ → Tree → List ℕ → List ℕ → Position → Type 0
AtEntry size slots t heads bytes e = EntryReady size slots t heads bytes e.slot e.index

-- an accepted lookup leaves the workspace ready, and what it found is an entry
abbrev pub LastReady : ℕ → ℕ → List ℕ → List ℕ → std.Result (Tree × Option Position) Refusal → Type 0
LastReady size slots heads bytes (Err x) = Unit {0}
LastReady size slots heads bytes (Ok (t, None)) = Ready size slots t.used heads bytes
LastReady size slots heads bytes (Ok (t, Some e)) = EntryReady size slots t heads bytes e.slot e.index

-- ---- of `floor_from`

-- the last entry of slot n, and the last not above a key
unfoldable pub last_at : State → ℕ → lookup.Got Entry
last_at s n = record { state = s; answer = last_of (node_at s n).entries }

unfoldable pub floor_at : State → ℕ → List ℕ → lookup.Got Entry
floor_at s n k = record { state = s; answer = last_not_above s.order k (node_at s n).entries }

-- where child i of slot n has no entry that answers: the last entry d levels below the child before it, unless the key is below child i's
unfoldable pub left_from : ℕ → lent.Lent → State → load.Bounds → ℕ → ℕ → List ℕ → Result (lookup.Got Entry)
left_from d l s bs n i k =
    cond (ltb 0 i && not (less s.order k (key_at (node_at s n).entries i)))
    (load.load_child l s bs n (i - 1)
    >>= λ c. lookup.last_from d l c.state (load.child_bounds s.order bs (node_at s n).entries (i - 1)) c.slot)
    (ok (none_in s))

-- ---- of `floor_in`

-- what follows the lookup: 20
unfoldable pub floored_of : ℕ → lookup.Got Entry → Result (lookup.Got Entry)
floored_of room g = check refusal.output (leb (length (records_of g.answer)) room) >> ok g

-- what follows 12
unfoldable pub floor_way : lent.Lent → State → ℕ → List ℕ → Result (lookup.Got Entry)
floor_way l s room k = lookup.floor_from (node_at s s.root).level l s load.unbounded s.root k >>= floored_of room

-- an entry lies there, and whatever is lent, floor's answer is that entry
pub record SpotIs (size slots : ℕ) (t : Tree) (heads bytes k : List ℕ) (e : Spot) : Type 0 where
  pub ready : EntryReady size slots t heads bytes e.slot e.index
  pub lies : e.at ≡ records_length e.index (slot_bytes size bytes e.slot)
  pub answer : (l : lent.Lent) (room : ℕ)
      → lookup.floor_in l (state_of size t heads bytes) room k ≡ floored_of room (entry_in (state_of size t heads bytes) e.slot e.index)
