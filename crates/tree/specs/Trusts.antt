-- Trusted calls (RULES: trusted): what a call that does not look at its slots requires of them, and what it leaves.
use Rattle.std.specs.Prelude.{◌≡◌, List, Bool, true, false, cond, ◌&&◌, ◌||◌, ℕ, ◌+◌, ◌*◌, ◌≤◌, ◌<◌, length, leb, eqb, Option, Ok, Err}
use Rattle.std.specs.Prelude as std
use Rattle.node.specs.Records.{records_length, records_of}
use Rattle.node.specs.Slot.{head_at}
use Rattle.node.specs.declared.head.Head.{Head}
use Rattle.node.specs.declared.refusal.Refusal.{Refusal}
use Rattle.tree.specs.Lent.{lent_of}
use Rattle.tree.specs.State.{State, node_at}
use Rattle.tree.specs.Workspace.{slot_bytes, state_of}
use Rattle.tree.specs.Trust.{trusted}
use Rattle.tree.specs.declared.editor.Tree.{Tree}
use Rattle.tree.specs.declared.lent.Lent.{Lent}
use Rattle.tree.specs.declared.get.Copied.{Copied}
use Rattle.tree.specs.declared.range.Ranged.{Ranged}

-- ---- what is required

-- the words of a slot, without records where it is dead: whatever a dead slot's words say, no record of it is looked at
unfoldable pub live : Head → Head
live h =
    record {
      level = h.level;
      count = cond (eqb h.dead 1) 0 h.count;
      used = cond (eqb h.dead 1) 0 h.used;
      placed = h.placed;
      block = h.block;
      named = h.named;
      id = h.id;
      dirty = h.dirty;
      dead = h.dead;
    }

-- a number without its mark is 0
unfoldable pub number_holds : ℕ → ℕ → Bool
number_holds m x = eqb m 1 || eqb x 0

-- a slot's words: its marks are 0 or 1, a number without its mark is 0
unfoldable pub words_hold : Head → Bool
words_hold h =
    leb h.placed 1 && leb h.named 1 && leb h.dirty 1 && leb h.dead 1 && number_holds h.placed h.block && number_holds h.named
    h.id

-- words that hold; records that lie within the slot, and take the bytes in use. Within a call a slot may take all of its four blocks' worth,
-- between calls two (`slot_holds`)
pub record Lies (size : ℕ) (h : Head) (l : List ℕ) : Type 0 where
  pub room : records_length h.count l ≤ 4 * size
  pub used : h.used ≡ records_length h.count l
  pub holds : words_hold h ≡ true

-- a workspace of slots, of which so many are in use: after the words and the bytes of each slot come those of its shadow, after all words a mark for
-- each slot
pub record Ready (size slots used : ℕ) (heads bytes : List ℕ) : Type 0 where
  pub least : 512 ≤ size
  pub most : size ≤ 65536
  pub many : slots ≤ 4096
  pub words : length heads ≡ slots * 19
  pub room : length bytes ≡ (slots + slots) * (4 * size)
  pub within : used ≤ slots
  pub lies : (n : ℕ) → n < used → Lies size (live (head_at heads n)) (slot_bytes size bytes n)

-- every live slot's records take at most k bytes
pub record Roomy (k : ℕ) (s : State) : Type 0 where
  pub most : (n : ℕ) → (node_at s n).dead ≡ false → length (records_of (node_at s n).entries) ≤ k

-- what a call that does not look at its slots trusts of them
pub record Trusts (image : List ℕ) (l : Lent) (t : Tree) (heads bytes : List ℕ) : Type 0 where
  pub ready : Ready l.size l.slots t.used heads bytes
  pub trust : trusted (lent_of image l) (state_of l.size t heads bytes) ≡ true
  pub roomy : Roomy (2 * l.size) (state_of l.size t heads bytes)

-- ---- what is left

-- the tree is as it was, on slots that are ready
abbrev pub Stays : Lent → Tree → List ℕ → List ℕ → List ℕ → List ℕ → Type 0
Stays l t heads bytes heads' bytes' =
    (state_of l.size t heads' bytes' ≡ state_of l.size t heads bytes) × Ready l.size l.slots t.used heads' bytes'

-- an accepted open leaves a tree to be trusted
abbrev pub OpenedTrusts : List ℕ → Lent → List ℕ → List ℕ → std.Result Tree Refusal → Type 0
OpenedTrusts image l heads bytes (Err x) = Unit {0}
OpenedTrusts image l heads bytes (Ok t) = Trusts image l t heads bytes

-- a refused call leaves the tree as it was, an accepted one a tree to be trusted, which is in its answer
abbrev pub CalledBy : {T : Type 0} → (T → Tree) → List ℕ → Lent → Tree → List ℕ → List ℕ → List ℕ → List ℕ → std.Result T Refusal → Type 0
CalledBy tree image l t heads bytes heads' bytes' (Err x) = Stays l t heads bytes heads' bytes'
CalledBy tree image l t heads bytes heads' bytes' (Ok y) = Trusts image l (tree y) heads' bytes'

-- of an edit
abbrev pub EditedCalled : List ℕ → Lent → Tree → List ℕ → List ℕ → List ℕ → List ℕ → std.Result Tree Refusal → Type 0
EditedCalled image l t heads bytes heads' bytes' r = CalledBy (λ u. u) image l t heads bytes heads' bytes' r

-- of a range
abbrev pub RangeCalled : List ℕ → Lent → Tree → List ℕ → List ℕ → List ℕ → List ℕ → std.Result Ranged Refusal → Type 0
RangeCalled image l t heads bytes heads' bytes' r = CalledBy (λ y. y.tree) image l t heads bytes heads' bytes' r

-- of a get, a floor and a remove, which answer more than the tree
abbrev pub GotCalled : List ℕ → Lent → Tree → List ℕ → List ℕ → List ℕ → List ℕ → std.Result (Tree × Option Copied) Refusal → Type 0
GotCalled image l t heads bytes heads' bytes' r = CalledBy (λ y. y.0) image l t heads bytes heads' bytes' r

abbrev pub FloorCalled : List ℕ → Lent → Tree → List ℕ → List ℕ → List ℕ → List ℕ → std.Result (Tree × Option ℕ) Refusal → Type 0
FloorCalled image l t heads bytes heads' bytes' r = CalledBy (λ y. y.0) image l t heads bytes heads' bytes' r

abbrev pub RemovedCalled : List ℕ → Lent → Tree → List ℕ → List ℕ → List ℕ → List ℕ → std.Result (Tree × Bool) Refusal → Type 0
RemovedCalled image l t heads bytes heads' bytes' r = CalledBy (λ y. y.0) image l t heads bytes heads' bytes' r
