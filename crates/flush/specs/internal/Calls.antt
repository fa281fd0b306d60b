-- Flush from above: what is counted first, and what is left in the end.
use Rattle.std.specs.Prelude.{List, [], cond, ℕ, ◌+◌, ◌-◌, ◌^◌, leb, Ok, Err, ⊤}
use Rattle.std.specs.Prelude as std
use Rattle.tree.specs.Refusals as refusal
use Rattle.tree.specs.State.{State}
use Rattle.tree.specs.Workspace.{state_of}
use Rattle.tree.specs.internal.Bank.{Ready}
use Rattle.tree.specs.declared.editor.Tree.{Tree}
use Rattle.flush.specs.Space.{Space, space_of}
use Rattle.flush.specs.Flush.{Flushed, dirty_reached, ids_wanted, flushed}
use Rattle.flush.specs.Answers.{Untouched, Beyond}
use Rattle.flush.specs.declared.flush.Flushed as done
use Rattle.flush.specs.declared.flush.Source.{Source}
use Rattle.flush.specs.declared.flush.Reports.{Reports}
use Rattle.flush.specs.internal.Lists.{Past}
use Rattle.flush.specs.internal.Walk.{Alike}

-- 16, or 17, if there are too few blocks or ids. u: the usable blocks
unfoldable pub short_of : State → ℕ → ℕ → std.Result ⊤ refusal.Refusal
short_of s u next =
    cond (leb (dirty_reached s) u) (cond (leb (next + ids_wanted s) (2 ^ 64 - 1)) (Ok tt) (Err refusal.Count)) (Err refusal.Full)

-- all of it, of what is lent to the code: of what is lent only the image counts
unfoldable pub all_flushed : ℕ → Tree → List ℕ → Space → List ℕ → List ℕ → ℕ → ℕ → Flushed
all_flushed size t image p heads bytes xid next =
    flushed (record { image = image; size = size; map = []; slots = 0 }) p (state_of size t heads bytes) xid next

-- slots that are ready, with the entries that they had; lists as they were past what they report
pub record Finished (size slots : ℕ) (t : Tree) (heads heads' bytes fs fs' rs rs' is is' ps ps' : List ℕ) (r : done.Flushed) : Type 0 where
  pub ready : Ready size slots t.used heads' bytes
  pub alike : Alike (state_of size t heads bytes) (state_of size t heads' bytes)
  pub freed : Past r.done.freed fs fs'
  pub removed : Past r.done.removed rs rs'
  pub ids : Past r.done.moved is is'
  pub places : Past r.done.moved ps ps'

-- what a flush on trusted slots leaves: refused, all as it was; accepted, slots that are ready, with the entries that they had
abbrev pub FlushCalled : ℕ → ℕ → Tree → List ℕ → List ℕ → Space → Space → List ℕ → List ℕ → List ℕ → List ℕ → List ℕ → List ℕ → List ℕ
    → List ℕ → List ℕ
    → List ℕ → List ℕ → std.Result done.Flushed refusal.Refusal → Type 0
FlushCalled size slots t image image' p p' heads heads' bytes fs fs' rs rs' is is' ps ps' (Err x) =
    Untouched image image' p p' heads heads' fs fs' rs rs' is is' ps ps'
FlushCalled size slots t image image' p p' heads heads' bytes fs fs' rs rs' is is' ps ps' (Ok f) =
    Beyond f fs fs' rs rs' is is' ps ps' × Ready size slots t.used heads' bytes × Alike (state_of size t heads bytes) (state_of size t heads' bytes)

-- ---- the same of what the code holds

abbrev pub all_of : Source → List ℕ → List ℕ → List ℕ → List ℕ → ℕ → Flushed
all_of s image bm fr heads next = all_flushed s.lent.size s.tree image (space_of bm s.counts.now fr) heads s.bytes.now s.xid next

abbrev pub FinishedIn : Source → List ℕ → List ℕ → Reports → Reports → done.Flushed → Type 0
FinishedIn s heads heads' l l' r = Finished s.lent.size s.lent.slots s.tree heads heads' s.bytes.now l.freed.now l'.freed.now
    l.removed.now l'.removed.now l.ids.now l'.ids.now l.places.now l'.places.now r
