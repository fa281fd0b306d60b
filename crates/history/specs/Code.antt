-- Demand 3 of the code: what the contracts say of one call, from the words and bytes before it to those after, and lists of such calls.
use Rattle.std.specs.Prelude.{◌≡◌, List, [], ◌∷◌, Bool, true, ℕ}
use Rattle.seal.specs.Bytes.{AreBytes}
use Rattle.tree.specs.Format.{Result, ok, refused, ◌>>=◌, Val}
use Rattle.tree.specs.Lent.{lent_of}
use Rattle.tree.specs.State.{State}
use Rattle.tree.specs.Workspace.{state_of, workspace_holds, scratch_holds, edits}
use Rattle.tree.specs.Upsert.{upsert}
use Rattle.tree.specs.Remove.{remove}
use Rattle.tree.specs.Omap.{omap_put, omap_drop}
use Rattle.tree.specs.Answers.{opened_of, opened_in, opened_leaves}
use Rattle.tree.specs.Answers.{got_means, got_in, got_leaves, floor_means, floored_in, floored_leaves, range_means, ranged_in, ranged_leaves}
use Rattle.tree.specs.Answers.{put_value, edited_of, edited_leaves, removed_of, removed_leaves}
use Rattle.tree.specs.declared.lent.Lent.{Lent}
use Rattle.tree.specs.declared.editor.Tree.{Tree}
use Rattle.std.specs.Prelude as std
use Rattle.std.specs.Prelude.{Option, Ok, Err}
use Rattle.tree.specs.Refusals.{Refusal}
use Rattle.tree.specs.declared.get.Copied.{Copied}
use Rattle.tree.specs.declared.range.Ranged.{Ranged}
use Rattle.flush.specs.Space.{Space}
use Rattle.flush.specs.Flush.{Flushed, Lists}
use Rattle.flush.specs.Answers.{flushed_in}
use Rattle.history.specs.Calls.{
  Call,
  get_call,
  floor_call,
  range_call,
  upsert_call,
  remove_call,
  put_call,
  drop_call,
  flush_call,
  Stepped,
  values,
  entries,
  present,
  done,
}
use Rattle.history.specs.Walk.{well_formed, list_of, walk_from}
use Rattle.history.specs.Statement.{Start, Turn, AllLend, LendsFlush, states, plains, passes, Holds, Flushes}

-- an open tree as the code has it: its numbers, and the words and bytes of its workspace
pub record Memory : Type 0 where
  pub tree : Tree
  pub heads : List ℕ
  pub bytes : List ℕ

unfoldable pub state_in : ℕ → Memory → State
state_in size m = state_of size m.tree m.heads m.bytes

unfoldable pub holds_in : Lent → Memory → Bool
holds_in l m = workspace_holds l.size l.slots m.tree.used m.heads m.bytes

-- ---- the tree after a call: the one that its answer names; refused, the one before

unfoldable pub tree_got : Tree → std.Result (Tree × Option Copied) Refusal → Tree
tree_got t (Err x) = t
tree_got t (Ok (u, c)) = u

unfoldable pub tree_floored : Tree → std.Result (Tree × Option ℕ) Refusal → Tree
tree_floored t (Err x) = t
tree_floored t (Ok (u, c)) = u

unfoldable pub tree_ranged : Tree → std.Result Ranged Refusal → Tree
tree_ranged t (Err x) = t
tree_ranged t (Ok r) = r.tree

unfoldable pub tree_edited : Tree → std.Result Tree Refusal → Tree
tree_edited t (Err x) = t
tree_edited t (Ok u) = u

unfoldable pub tree_removed : Tree → std.Result (Tree × Bool) Refusal → Tree
tree_removed t (Err x) = t
tree_removed t (Ok (u, there)) = u

-- ---- one call, as its contract gives it. said: what it answers; out: the output after it; read: that answer as a step's

pub record RanGet (image : List ℕ) (l : Lent) (m : Memory) (room : ℕ) (k : List ℕ) (x : Result Stepped) (m' : Memory) : Type 0 where
  pub out : List ℕ
  pub said : std.Result (Tree × Option Copied) Refusal
  pub answer : got_means l.size m'.heads m'.bytes out said ≡ got_in (lent_of image l) m.tree m.heads m.bytes room k
  pub left : got_leaves l.size l.slots m.tree m.heads m.bytes m'.heads m'.bytes said
  pub read : x ≡ (got_means l.size m'.heads m'.bytes out said >>= λ g. ok (record { state = g.state; answer = values g.answer }))
  pub tree : m'.tree ≡ tree_got m.tree said

pub record RanFloor (image : List ℕ) (l : Lent) (m : Memory) (room : ℕ) (k : List ℕ) (x : Result Stepped) (m' : Memory) : Type 0 where
  pub out : List ℕ
  pub said : std.Result (Tree × Option ℕ) Refusal
  pub answer : floor_means l.size m'.heads m'.bytes out said ≡ floored_in (lent_of image l) m.tree m.heads m.bytes room k
  pub left : floored_leaves l.size l.slots m.tree m.heads m.bytes m'.heads m'.bytes said
  pub read : x ≡ (floor_means l.size m'.heads m'.bytes out said >>= λ g. ok (record { state = g.state; answer = entries g.answer }))
  pub tree : m'.tree ≡ tree_floored m.tree said

pub record RanRange (image : List ℕ) (l : Lent) (m : Memory) (room : ℕ) (lo hi : List ℕ) (x : Result Stepped) (m' : Memory) : Type 0 where
  pub out : List ℕ
  pub said : std.Result Ranged Refusal
  pub answer : range_means l.size m'.heads m'.bytes out said ≡ ranged_in (lent_of image l) m.tree m.heads m.bytes room lo hi
  pub left : ranged_leaves l.size l.slots m.tree m.heads m.bytes m'.heads m'.bytes said
  pub read : x ≡ (range_means l.size m'.heads m'.bytes out said >>= λ g. ok (record { state = g.state; answer = entries g.answer }))
  pub tree : m'.tree ≡ tree_ranged m.tree said

-- an edit, with a scratch of the right length; f: its definition
pub record RanEdit (l : Lent) (m : Memory) (f : State → Result State) (x : Result Stepped) (m' : Memory) : Type 0 where
  pub scratch : List ℕ
  pub wide : scratch_holds l.size l.slots scratch ≡ true
  pub said : std.Result Tree Refusal
  pub answer : edited_of l.size m'.heads m'.bytes said ≡ edits l.size l.slots m.tree m.heads m.bytes scratch f
  pub left : edited_leaves l.size l.slots m.tree m.heads m.bytes m'.heads m'.bytes said
  pub read : x ≡ (edited_of l.size m'.heads m'.bytes said >>= λ t. ok (record { state = t; answer = done }))
  pub tree : m'.tree ≡ tree_edited m.tree said

-- upsert puts a ghost or bytes
pub record RanUpsert (image : List ℕ) (l : Lent) (m : Memory) (k : List ℕ) (v : Val) (x : Result Stepped) (m' : Memory) : Type 0 where
  pub is_ghost : Bool
  pub value : List ℕ
  pub puts : v ≡ put_value is_ghost value
  pub edit : RanEdit l m (λ s. upsert (lent_of image l) s k v) x m'

pub record RanRemove (image : List ℕ) (l : Lent) (m : Memory) (k : List ℕ) (x : Result Stepped) (m' : Memory) : Type 0 where
  pub scratch : List ℕ
  pub wide : scratch_holds l.size l.slots scratch ≡ true
  pub said : std.Result (Tree × Bool) Refusal
  pub answer : removed_of l.size m'.heads m'.bytes said
      ≡ edits l.size l.slots m.tree m.heads m.bytes scratch (λ s. remove (lent_of image l) s k)
  pub left : removed_leaves l.size l.slots m.tree m.heads m.bytes m'.heads m'.bytes said
  pub read : x ≡ (removed_of l.size m'.heads m'.bytes said >>= λ r. ok (record { state = r.state; answer = present r.present }))
  pub tree : m'.tree ≡ tree_removed m.tree said

-- a flush that is refused leaves everything as it was; one that is accepted ends the tree, and is no call of a list
pub record RanFlush (image : List ℕ) (l : Lent) (m : Memory) (p : Space) (lists : Lists) (xid next : ℕ) (x : Result Stepped) (m' : Memory) : Type 0
  where
    pub number : ℕ
    pub answer : refused number ≡ flushed_in (lent_of image l) p lists m.tree m.heads m.bytes xid next
    pub read : x ≡ refused number
    pub same : m' ≡ m

-- any call
abbrev pub Ran : List ℕ → Lent → Memory → Call → Result Stepped → Memory → Type 0
Ran image l m (get_call room k) x m' = RanGet image l m room k x m'
Ran image l m (floor_call room k) x m' = RanFloor image l m room k x m'
Ran image l m (range_call room lo hi) x m' = RanRange image l m room lo hi x m'
Ran image l m (upsert_call k v) x m' = RanUpsert image l m k v x m'
Ran image l m (remove_call k) x m' = RanRemove image l m k x m'
Ran image l m (put_call id xid address size) x m' = RanEdit l m (λ s. omap_put (lent_of image l) s id xid address size) x m'
Ran image l m (drop_call id) x m' = RanEdit l m (λ s. omap_drop (lent_of image l) s id) x m'
Ran image l m (flush_call p lists xid next) x m' = RanFlush image l m p lists xid next x m'

-- ---- lists of calls: each is lent an image of its own, and the workspace and the tree as the last one left them

pub record Next (l : Lent) (m : Memory) (t : Turn) (rest : Memory → Type 0) : Type 0 where
  pub image : List ℕ
  pub lends : t.lent ≡ lent_of image l
  pub said : Result Stepped
  pub after : Memory
  pub ran : Ran image l m t.call said after
  pub goes_on : rest after

abbrev pub Runs : Lent → Memory → List Turn → Memory → Type 0
Runs l m [] m'' = m ≡ m''
Runs l m (t ∷ ts) m'' = Next l m t (λ m'. Runs l m' ts m'')

-- ---- the statement

-- the tree is well formed, and the code's open accepts it, from any words and bytes: as open's contract gives it
pub record Opens (g : Start) (l : Lent) (m : Memory) : Type 0 where
  pub unmoved : g.disk.moved ≡ []
  pub are_bytes : AreBytes g.disk.lent.image
  pub formed : well_formed g.disk g.root ≡ true
  pub image : List ℕ
  pub lends : g.disk.lent ≡ lent_of image l
  pub words : List ℕ
  pub bytes : List ℕ
  pub answer : opened_of l.size m.heads m.bytes (Ok m.tree)
      ≡ opened_in (lent_of image l) words bytes g.root g.disk.order g.disk.xid
  pub left : opened_leaves l.size l.slots m.heads m.bytes (Ok m.tree)
  pub state : g.state ≡ state_in l.size m

-- what holds after the calls: the theorem's conclusion of the definitions, that the slots are the state that it speaks of, and of a flush that
-- the code accepts then, as its contract gives it, what the theorem says of flushes
pub record HoldsOfCode (g : Start) (l : Lent) (ts : List Turn) (m'' : Memory) : Type 0 where
  pub holds : Holds g ts
  pub state : state_in l.size m'' ≡ states ts g.state
  pub accepts : holds_in l m'' ≡ true
  pub flushes : (image : List ℕ) (p : Space) (lists : Lists) (xid next : ℕ) (f : Flushed)
      → ok f ≡ flushed_in (lent_of image l) p lists m''.tree m''.heads m''.bytes xid next
      → LendsFlush g (lent_of image l) p xid next f
      → Flushes g (plains g.disk.order ts g.state (list_of (walk_from g.disk g.root))) (passes ts g.state) (lent_of image l) p f

-- demand 3 of the code: open, then any list of calls, each as its contract gives it
abbrev pub Demand3OfCode : Type 0
Demand3OfCode = (g : Start) (l : Lent) (m m'' : Memory) (ts : List Turn) → Opens g l m → Runs l m ts m'' → AllLend g ts g.state
    → HoldsOfCode g l ts m''
