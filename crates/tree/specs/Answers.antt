-- What the answers of public calls mean, of the words, bytes and output that they leave.
use Rattle.std.specs.Prelude.{◌≡◌, List, [], ◌∷◌, Bool, true, false, cond, ℕ, take, Option, Some, None, Ok, Err}
use Rattle.std.specs.Prelude as std
use Rattle.std.specs.Borrow.{Bor}
use Rattle.node.specs.Bytes.{splice}
use Rattle.node.specs.Entry.{Entry, Val, ghost, leaf, value_bytes}
use Rattle.node.specs.Records.{records_of, records_length, entries_of}
use Rattle.node.specs.Result.{Result, ok, refused, ◌>>◌, check}
use Rattle.node.specs.Refusals as refusal
use Rattle.node.specs.declared.refusal.Refusal.{Refusal}
use Rattle.tree.specs.Lent.{Lent}
use Rattle.tree.specs.State.{State}
use Rattle.tree.specs.Workspace.{state_of, workspace_holds, called}
use Rattle.tree.specs.Lookup as lookup
use Rattle.tree.specs.Lookup.{opened}
use Rattle.tree.specs.Remove as removing
use Rattle.tree.specs.declared.editor.Tree.{Tree}
use Rattle.tree.specs.declared.get.Copied.{Copied}
use Rattle.tree.specs.declared.get.Copied.TheVariants as copied
use Rattle.tree.specs.declared.range.Ranged.{Ranged}

-- ---- open

-- open's answer: a refusal, or the state that the tree is
unfoldable pub opened_of : ℕ → List ℕ → List ℕ → std.Result Tree Refusal → Result State
opened_of size heads bytes (Err x) = refused (refusal.number_of x)
opened_of size heads bytes (Ok t) = ok (state_of size t heads bytes)

-- open on lent words and bytes: 1 of the workspace, of which no slot is in use, then open
unfoldable pub opened_in : Lent → List ℕ → List ℕ → ℕ → ℕ → ℕ → Result State
opened_in l heads bytes r order xid = do
  check refusal.lent (workspace_holds l.size l.slots 0 heads bytes)
  opened l r order xid

-- an accepted open leaves a workspace that the next call accepts
abbrev pub opened_leaves : ℕ → ℕ → List ℕ → List ℕ → std.Result Tree Refusal → Type 0
opened_leaves size slots heads bytes (Err x) = Unit {0}
opened_leaves size slots heads bytes (Ok t) = workspace_holds size slots t.used heads bytes ≡ true

-- ---- get

-- what get copied out: nothing, a ghost, or a value, whose n bytes stand at the output's start
unfoldable pub copied_of : List ℕ → Option Copied → List Val
copied_of out None = []
copied_of out (Some copied.Ghost) = ghost ∷ []
copied_of out (Some (copied.Value n)) = leaf (take n out) ∷ []

-- get's answer: a refusal, or what the key holds
unfoldable pub got_means : ℕ → List ℕ → List ℕ → List ℕ → std.Result (Tree × Option Copied) Refusal → Result (lookup.Got Val)
got_means size heads bytes out (Err x) = refused (refusal.number_of x)
got_means size heads bytes out (Ok (t, c)) = ok (record { state = state_of size t heads bytes; answer = copied_of out c })

-- get on lent words and bytes: 1 of the workspace, then get
unfoldable pub got_in : Lent → Tree → List ℕ → List ℕ → ℕ → List ℕ → Result (lookup.Got Val)
got_in l t heads bytes room k = called l.size l.slots t heads bytes (λ s. lookup.get l s room k)

-- the bytes that get writes out
unfoldable pub got_bytes : List Val → List ℕ
got_bytes [] = []
got_bytes (v ∷ vs) = value_bytes v

-- the output after get: as it was, or the value's bytes at its start
unfoldable pub got_output : List ℕ → Result (lookup.Got Val) → List ℕ
got_output out (refused x) = out
got_output out (ok g) = splice out 0 (got_bytes g.answer)

-- a refused get leaves the tree's state as it was, and a workspace that holds if it held before; an accepted one leaves a workspace that the next
-- call accepts
abbrev pub got_leaves : ℕ → ℕ → Tree → List ℕ → List ℕ → List ℕ → List ℕ → std.Result (Tree × Option Copied) Refusal → Type 0
got_leaves size slots t heads bytes heads' bytes' (Err x) =
    (state_of size t heads' bytes' ≡ state_of size t heads bytes)
    × (workspace_holds size slots t.used heads' bytes' ≡ workspace_holds size slots t.used heads bytes)
got_leaves size slots t heads bytes heads' bytes' (Ok (u, c)) = workspace_holds size slots u.used heads' bytes' ≡ true

-- ---- floor

-- what floor found: no entry, or one, whose record of n bytes stands at the output's start
unfoldable pub record_in : List ℕ → Option ℕ → List Entry
record_in out None = []
record_in out (Some n) = entries_of 1 (take n out)

-- floor's answer: a refusal, or the entry, if there is one
unfoldable pub floor_means : ℕ → List ℕ → List ℕ → List ℕ → std.Result (Tree × Option ℕ) Refusal → Result (lookup.Got Entry)
floor_means size heads bytes out (Err x) = refused (refusal.number_of x)
floor_means size heads bytes out (Ok (t, n)) = ok (record { state = state_of size t heads bytes; answer = record_in out n })

-- floor on lent words and bytes: 1 of the workspace, then floor
unfoldable pub floored_in : Lent → Tree → List ℕ → List ℕ → ℕ → List ℕ → Result (lookup.Got Entry)
floored_in l t heads bytes room k = called l.size l.slots t heads bytes (λ s. lookup.floor l s room k)

-- the output after floor: as it was, or the entry's record at its start
unfoldable pub floored_output : List ℕ → Result (lookup.Got Entry) → List ℕ
floored_output out (refused x) = out
floored_output out (ok g) = splice out 0 (records_of g.answer)

-- what floor leaves, as get
abbrev pub floored_leaves : ℕ → ℕ → Tree → List ℕ → List ℕ → List ℕ → List ℕ → std.Result (Tree × Option ℕ) Refusal → Type 0
floored_leaves size slots t heads bytes heads' bytes' (Err x) =
    (state_of size t heads' bytes' ≡ state_of size t heads bytes)
    × (workspace_holds size slots t.used heads' bytes' ≡ workspace_holds size slots t.used heads bytes)
floored_leaves size slots t heads bytes heads' bytes' (Ok (u, n)) = workspace_holds size slots u.used heads' bytes' ≡ true

-- ---- range

-- range's answer: a refusal, or the entries found; their records, so many of so many bytes together, stand at the output's start
unfoldable pub range_means : ℕ → List ℕ → List ℕ → List ℕ → std.Result Ranged Refusal → Result (lookup.Got Entry)
range_means size heads bytes out (Err x) = refused (refusal.number_of x)
range_means size heads bytes out (Ok r) =
    ok (record { state = state_of size r.tree heads bytes; answer = entries_of r.count (take r.length out) })

-- range on lent words and bytes: 1 of the workspace, then range
unfoldable pub ranged_in : Lent → Tree → List ℕ → List ℕ → ℕ → List ℕ → List ℕ → Result (lookup.Got Entry)
ranged_in l t heads bytes room lo hi = called l.size l.slots t heads bytes (λ s. lookup.range l s room lo hi)

-- the output after range: as it was, or the records at its start
unfoldable pub ranged_output : List ℕ → Result (lookup.Got Entry) → List ℕ
ranged_output out (refused x) = out
ranged_output out (ok g) = splice out 0 (records_of g.answer)

-- the records at the output's start take the bytes that range says, no more and no less
abbrev pub ranged_length : List ℕ → std.Result Ranged Refusal → Type 0
ranged_length out (Err x) = Unit {0}
ranged_length out (Ok r) = r.length ≡ records_length r.count out

-- what range leaves, as get
abbrev pub ranged_leaves : ℕ → ℕ → Tree → List ℕ → List ℕ → List ℕ → List ℕ → std.Result Ranged Refusal → Type 0
ranged_leaves size slots t heads bytes heads' bytes' (Err x) =
    (state_of size t heads' bytes' ≡ state_of size t heads bytes)
    × (workspace_holds size slots t.used heads' bytes' ≡ workspace_holds size slots t.used heads bytes)
ranged_leaves size slots t heads bytes heads' bytes' (Ok r) = workspace_holds size slots r.tree.used heads' bytes' ≡ true

-- ---- edits

-- what is put: a ghost, or bytes
unfoldable pub put_value : Bool → List ℕ → Val
put_value is_ghost v = cond is_ghost ghost (leaf v)

-- the same of bytes that are lent, if there are any
unfoldable pub lent_value : Option (Bor (List ℕ)) → Val
lent_value None = put_value true []
lent_value (Some v) = put_value false v.now

-- an edit's answer: a refusal, or the state that the tree is
unfoldable pub edited_of : ℕ → List ℕ → List ℕ → std.Result Tree Refusal → Result State
edited_of size heads bytes (Err x) = refused (refusal.number_of x)
edited_of size heads bytes (Ok t) = ok (state_of size t heads bytes)

-- a refused edit leaves the tree's state as it was, and a workspace that holds if it held before; an accepted one leaves a workspace that the
-- next call accepts
abbrev pub edited_leaves : ℕ → ℕ → Tree → List ℕ → List ℕ → List ℕ → List ℕ → std.Result Tree Refusal → Type 0
edited_leaves size slots t heads bytes heads' bytes' (Err x) =
    (state_of size t heads' bytes' ≡ state_of size t heads bytes)
    × (workspace_holds size slots t.used heads' bytes' ≡ workspace_holds size slots t.used heads bytes)
edited_leaves size slots t heads bytes heads' bytes' (Ok u) = workspace_holds size slots u.used heads' bytes' ≡ true

-- remove's answer: a refusal, or whether the key was there
unfoldable pub removed_of : ℕ → List ℕ → List ℕ → std.Result (Tree × Bool) Refusal → Result removing.Removed
removed_of size heads bytes (Err x) = refused (refusal.number_of x)
removed_of size heads bytes (Ok (t, there)) = ok (record { state = state_of size t heads bytes; present = there })

-- what remove leaves, as an edit
abbrev pub removed_leaves : ℕ → ℕ → Tree → List ℕ → List ℕ → List ℕ → List ℕ → std.Result (Tree × Bool) Refusal → Type 0
removed_leaves size slots t heads bytes heads' bytes' (Err x) =
    (state_of size t heads' bytes' ≡ state_of size t heads bytes)
    × (workspace_holds size slots t.used heads' bytes' ≡ workspace_holds size slots t.used heads bytes)
removed_leaves size slots t heads bytes heads' bytes' (Ok (u, there)) = workspace_holds size slots u.used heads' bytes' ≡ true
