-- The walk of flush as its code goes: the lent words and lists as a `Flushing`, what a step asks, and what it leaves.
use Rattle.std.specs.Prelude.{◌≡◌, List, [], map, true, false, cond, ◌&&◌, ℕ, ◌+◌, ◌-◌, ◌*◌, ◌/◌, ◌^◌, ◌≤◌, ◌<◌, length, get_or, drop, eqb}
use Rattle.tree.specs.Format.{splice, entries_of, mem, val_at, Sized, fits, pack_node, numbered}
use Rattle.tree.specs.Lent.{is_size}
use Rattle.tree.specs.State.{State, no_node, node_at}
use Rattle.tree.specs.Workspace.{nodes_of, state_of}
use Rattle.tree.specs.internal.Bank.{node_in, Ready}
use Rattle.tree.specs.declared.editor.Tree.{Tree}
use Rattle.flush.specs.Space.{Space, space_of, taken, space_holds}
use Rattle.flush.specs.Flush.{Flushing, slot_number, build_of, write_at, write_kids, write_from}
use Rattle.flush.specs.Answers.{pairs_of}
use Rattle.flush.specs.internal.Lists.{numbers_of, Past}
use Rattle.flush.specs.declared.flush.Flushing as code
use Rattle.flush.specs.declared.flush.Source.{Source}
use Rattle.flush.specs.declared.flush.Reports.{Reports}
use Rattle.std.specs.Borrow.{MutBor}

-- what the walk changes; the removed ids it leaves alone
unfoldable pub flushing_of : ℕ → Tree → List ℕ → Space → List ℕ → List ℕ → List ℕ → List ℕ → List ℕ → code.Flushing → Flushing
flushing_of size t image p heads bytes freed ids places w =
    record {
      image = image;
      space = p;
      nodes = nodes_of size heads bytes t.used;
      next = w.next;
      freed = numbers_of w.freed freed;
      removed = [];
      moved = pairs_of w.moved ids places;
      allocated = w.allocated;
    }

-- the image with the node of slot n packed into block a
unfoldable pub packed_at : State → ℕ → ℕ → ℕ → ℕ → List ℕ → List ℕ
packed_at s xid n a oid image =
    splice image (a * s.info.node_size)
    (pack_node (build_of s xid oid n (get_or s.nodes n no_node))
    (map (numbered (slot_number s.virtual s.nodes)) (get_or s.nodes n no_node).entries))

-- a slot in use that is not dead
pub record Alive (size : ℕ) (t : Tree) (heads bytes : List ℕ) (n : ℕ) : Type 0 where
  pub used : n < t.used
  pub live : (node_in size heads bytes n).dead ≡ false

-- one that flush writes
pub record Dirty (size : ℕ) (t : Tree) (heads bytes : List ℕ) (n : ℕ) : Type 0 where
  pub alive : Alive size t heads bytes n
  pub dirty : (node_in size heads bytes n).dirty ≡ true

-- slots that can be written: a dirty one that is not dead fits; a child in a slot is in use and not dead
pub record Standing (size slots : ℕ) (t : Tree) (heads bytes : List ℕ) : Type 0 where
  pub ready : Ready size slots t.used heads bytes
  pub sized : Sized t.info
  pub same : t.info.node_size ≡ size
  pub fit : (n : ℕ) → Alive size t heads bytes n → (node_in size heads bytes n).dirty ≡ true
      → fits t.info (eqb n t.root) (node_in size heads bytes n).level (node_in size heads bytes n).entries ≡ true
  pub kids : (n j c : ℕ) → n < t.used → val_at (node_in size heads bytes n).entries j ≡ mem c → Alive size t heads bytes c

-- chunks that lie in an image of so many blocks
pub record Spaced (size blocks : ℕ) (p : Space) : Type 0 where
  pub whole : is_size size ≡ true
  pub few : blocks ≤ 2 ^ 20
  pub holds : space_holds size blocks p ≡ true

-- nodes with the same entries, dead or not as before
pub record Alike (s s' : State) : Type 0 where
  pub entries : (n : ℕ) → (node_at s' n).entries ≡ (node_at s n).entries
  pub dead : (n : ℕ) → (node_at s' n).dead ≡ (node_at s n).dead

-- what comes out fits: words are u64, and there is room in the lists
pub record Fitting (f i p : ℕ) (w : Flushing) : Type 0 where
  pub next : w.next < 2 ^ 64
  pub freed : length w.freed ≤ f
  pub ids : length w.moved ≤ i
  pub places : length w.moved ≤ p
  pub allocated : w.allocated < 2 ^ 64

-- the same of one node, before it is written
pub record Room (size : ℕ) (t : Tree) (heads bytes fs is ps : List ℕ) (n : ℕ) (w : code.Flushing) : Type 0 where
  pub next : w.next + cond (t.by_id && eqb (length (node_in size heads bytes n).id) 0) 1 0 < 2 ^ 64
  pub freed : w.freed + length (node_in size heads bytes n).block ≤ length fs
  pub ids : w.moved + cond t.by_id 1 0 ≤ length is
  pub places : w.moved + cond t.by_id 1 0 ≤ length ps
  pub allocated : w.allocated + 1 < 2 ^ 64

-- what a step leaves beside what it changes
pub record Left (size slots : ℕ) (t : Tree) (heads heads' bytes fs fs' is is' ps ps' : List ℕ) (w r : code.Flushing) : Type 0 where
  pub standing : Standing size slots t heads' bytes
  pub alike : Alike (state_of size t heads bytes) (state_of size t heads' bytes)
  pub freed : Past r.freed fs fs'
  pub ids : Past r.moved is is'
  pub places : Past r.moved ps ps'
  pub frees : w.freed ≤ r.freed
  pub moves : w.moved ≤ r.moved
  pub removed : r.removed ≡ w.removed

-- a node in its block, whatever the space and the chunk are
pub record WroteAt (size : ℕ) (t : Tree) (xid n a : ℕ) (image image' heads heads' bytes freed freed' ids ids' places places' : List ℕ)
    (w r : code.Flushing) : Type 0 where
  pub is : (p : Space) (c : ℕ)
      → flushing_of size t image' (taken p (record { chunk = c; block = a })) heads' bytes freed' ids' places' r
      ≡ write_at (state_of size t heads bytes) xid n (record { chunk = c; block = a }) (flushing_of size t image p heads bytes freed ids places w)

-- a walk over the children of a node: i of so many records are passed; what is left of the walk gives what the whole gives
pub record Going (size slots blocks : ℕ) (t : Tree) (xid d count i : ℕ) (part cs bytes : List ℕ) (image₀ bm₀ fr₀ heads₀ fs₀ is₀ ps₀ : List ℕ)
    (w : code.Flushing) (image bm fr heads fs is ps : List ℕ) (v : code.Flushing) : Type 0 where
  pub rest : write_kids (write_from (d - 1) (state_of size t heads₀ bytes) xid) (drop i (entries_of count part))
      (flushing_of size t image (space_of bm cs fr) heads bytes fs is ps v)
      ≡ write_kids (write_from (d - 1) (state_of size t heads₀ bytes) xid) (entries_of count part)
      (flushing_of size t image₀ (space_of bm₀ cs fr₀) heads₀ bytes fs₀ is₀ ps₀ w)
  pub left : Left size slots t heads₀ heads bytes fs₀ fs is₀ is ps₀ ps w v
  pub spaced : Spaced size blocks (space_of bm cs fr)

-- ---- the same of what the code holds

-- the tree, as the words of its slots say
abbrev pub state_in : Source → List ℕ → State
state_in s heads = state_of s.lent.size s.tree heads s.bytes.now

abbrev pub walk_of : Source → List ℕ → List ℕ → List ℕ → List ℕ → Reports → Flushing
walk_of s image bm fr heads l =
    flushing_of s.lent.size s.tree image (space_of bm s.counts.now fr) heads s.bytes.now l.freed.now l.ids.now l.places.now l.done

abbrev pub StandsIn : Source → List ℕ → Type 0
StandsIn s heads = Standing s.lent.size s.lent.slots s.tree heads s.bytes.now

abbrev pub AliveIn : Source → List ℕ → ℕ → Type 0
AliveIn s heads n = Alive s.lent.size s.tree heads s.bytes.now n

abbrev pub DirtyIn : Source → List ℕ → ℕ → Type 0
DirtyIn s heads n = Dirty s.lent.size s.tree heads s.bytes.now n

-- a block that lies in the image
abbrev pub InImage : Source → List ℕ → ℕ → Type 0
InImage s image a = (a * s.lent.size + s.lent.size ≤ length image) × (a ≤ 2 ^ 20)

abbrev pub SpacedIn : Source → List ℕ → List ℕ → List ℕ → Type 0
SpacedIn s image bm fr = Spaced s.lent.size (length image / s.lent.size) (space_of bm s.counts.now fr)

abbrev pub FittingIn : Reports → Flushing → Type 0
FittingIn l w = Fitting (length l.freed.now) (length l.ids.now) (length l.places.now) w

abbrev pub RoomIn : Source → List ℕ → Reports → ℕ → Type 0
RoomIn s heads l n = Room s.lent.size s.tree heads s.bytes.now l.freed.now l.ids.now l.places.now n l.done

abbrev pub WroteIn : Source → ℕ → ℕ → List ℕ → List ℕ → List ℕ → List ℕ → Reports → Reports → Type 0
WroteIn s n a image image' heads heads' l l' = WroteAt s.lent.size s.tree s.xid n a image image' heads heads' s.bytes.now
    l.freed.now l'.freed.now l.ids.now l'.ids.now l.places.now l'.places.now l.done l'.done

abbrev pub LeftIn : Source → List ℕ → List ℕ → Reports → Reports → Type 0
LeftIn s heads heads' l l' = Left s.lent.size s.lent.slots s.tree heads heads' s.bytes.now
    l.freed.now l'.freed.now l.ids.now l'.ids.now l.places.now l'.places.now l.done l'.done

-- a list is the one that was lent, and as long
pub record Same (x y : MutBor (List ℕ)) : Type 0 where
  pub reference : y.ghost_name ≡ x.ghost_name
  pub long : length y.now ≡ length x.now

-- each of the four
pub record SameLists (l l' : Reports) : Type 0 where
  pub freed : Same l.freed l'.freed
  pub removed : Same l.removed l'.removed
  pub ids : Same l.ids l'.ids
  pub places : Same l.places l'.places

-- after the dead nodes are listed
pub record Listed (l l' : Reports) : Type 0 where
  pub freed : Same l.freed l'.freed
  pub removed : Same l.removed l'.removed
  pub ids : l'.ids ≡ l.ids
  pub places : l'.places ≡ l.places

-- after a step of the walk
pub record Kept (l l' : Reports) : Type 0 where
  pub freed : Same l.freed l'.freed
  pub removed : l'.removed ≡ l.removed
  pub ids : Same l.ids l'.ids
  pub places : Same l.places l'.places

-- each list is as long as the slots
abbrev pub LongIn : Source → Reports → Type 0
LongIn s l = (length l.freed.now ≡ s.lent.slots) × (length l.removed.now ≡ s.lent.slots) × (length l.ids.now ≡ s.lent.slots)
    × (length l.places.now ≡ s.lent.slots)
