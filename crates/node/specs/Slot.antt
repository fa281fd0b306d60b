-- A node in a slot: its words, and its entries as records.
use Rattle.std.specs.Prelude.{List, [], ◌∷◌, ◌++◌, Bool, true, false, cond, not, ◌&&◌, ◌||◌, ℕ, ◌+◌, ◌*◌, length, get_or, take, drop, leb, eqb}
use Rattle.node.specs.Order.{keyed_length}
use Rattle.node.specs.Entry.{Entry, Val, ghost, leaf, disk, mem, every}
use Rattle.node.specs.Records.{entries_of, records_length}
use Rattle.node.specs.Fit.{fixed}
use Rattle.node.specs.declared.info.BTreeInfo.{BTreeInfo}
use Rattle.node.specs.declared.val.Child as Child
use Rattle.node.specs.declared.val.Child.TheVariants as child
use Rattle.node.specs.declared.val.Val as Held
use Rattle.node.specs.declared.val.Val.TheVariants as held
use Rattle.node.specs.declared.head.Head.{Head}

-- the words of slot s
unfoldable pub head_at : List ℕ → ℕ → Head
head_at ws s =
    record {
      level = get_or ws (s * 9) 0;
      count = get_or ws (s * 9 + 1) 0;
      used = get_or ws (s * 9 + 2) 0;
      placed = get_or ws (s * 9 + 3) 0;
      block = get_or ws (s * 9 + 4) 0;
      named = get_or ws (s * 9 + 5) 0;
      id = get_or ws (s * 9 + 6) 0;
      dirty = get_or ws (s * 9 + 7) 0;
      dead = get_or ws (s * 9 + 8) 0;
    }

-- the nine words of a slot
unfoldable pub head_words : Head → List ℕ
head_words h = h.level ∷ h.count ∷ h.used ∷ h.placed ∷ h.block ∷ h.named ∷ h.id ∷ h.dirty ∷ h.dead ∷ []

-- a loaded or made node: block and id are none or one
pub record MemNode : Type 0 where
  pub level : ℕ
  pub entries : List Entry
  pub block : List ℕ
  pub id : List ℕ
  pub dirty : Bool
  pub dead : Bool

-- a number that is there if its mark is 1
unfoldable pub marked : ℕ → ℕ → List ℕ
marked m x = cond (eqb m 1) (x ∷ []) []

-- the node of a slot's words and bytes. A dead node is left aside: whatever its bytes hold, it has no entries
unfoldable pub node_of : Head → List ℕ → MemNode
node_of h l =
    record {
      level = h.level;
      entries = cond (eqb h.dead 1) [] (entries_of h.count l);
      block = marked h.placed h.block;
      id = marked h.named h.id;
      dirty = eqb h.dirty 1;
      dead = eqb h.dead 1;
    }

-- the one number of a list, 0 where there is none
unfoldable pub only : List ℕ → ℕ
only [] = 0
only (x ∷ xs) = x

-- a node's number for its parent: of a virtual tree its id, else its block
unfoldable pub number_of : Bool → MemNode → ℕ
number_of by_id m = only (cond by_id m.id m.block)

-- ---- entries changed

-- an entry put before entry i
unfoldable pub insert_at : ℕ → Entry → List Entry → List Entry
insert_at i e es = take i es ++ (e ∷ drop i es)

-- all entries but entry i
unfoldable pub remove_at : ℕ → List Entry → List Entry
remove_at i es = take i es ++ drop (i + 1) es

-- the first entry with another key
unfoldable pub rekeyed : List ℕ → List Entry → List Entry
rekeyed k [] = []
rekeyed k (e ∷ es) = record { key = k; value = e.value } ∷ es

-- entry i with another key
unfoldable pub with_key : ℕ → List ℕ → List Entry → List Entry
with_key i k es = take i es ++ rekeyed k (drop i es)

-- the first entry with another value
unfoldable pub revalued : Val → List Entry → List Entry
revalued v [] = []
revalued v (e ∷ es) = record { key = e.key; value = v } ∷ es

-- entry i with another value
unfoldable pub with_value : ℕ → Val → List Entry → List Entry
with_value i v es = take i es ++ revalued v (drop i es)

-- ---- what a slot is asked

-- n records lie within the slot and take just the bytes in use
unfoldable pub records_hold : ℕ → ℕ → List ℕ → Bool
records_hold n used l = leb (records_length n l) (length l) && eqb (records_length n l) used

-- whether a value is a child
unfoldable pub is_child : Val → Bool
is_child ghost = false
is_child (leaf v) = false
is_child (disk r) = true
is_child (mem s) = true

-- a value that a node can hold: a leaf no child, an index nothing else
unfoldable pub suit : Bool → Entry → Bool
suit isLeaf e = cond isLeaf (not (is_child e.value)) (is_child e.value)

unfoldable pub suits : Bool → List Entry → Bool
suits isLeaf es = every (suit isLeaf) es

-- a length that a key can have: one that the order can hold, and the tree's fixed length if it has one
unfoldable pub key_length_holds : ℕ → BTreeInfo → ℕ → Bool
key_length_holds o t n = keyed_length o n && (not (fixed t) || eqb n t.key_size)

-- a length that a leaf's value can have: the tree's fixed length if it has one
unfoldable pub value_length_holds : BTreeInfo → ℕ → Bool
value_length_holds t n = not (fixed t) || eqb n t.val_size

-- a value of a length that it can have: a ghost may stand, an index value is 8
unfoldable pub value_holds : BTreeInfo → Val → Bool
value_holds t ghost = true
value_holds t (leaf v) = value_length_holds t (length v)
value_holds t (disk r) = true
value_holds t (mem s) = true

-- an entry that a leaf, or an index, can hold: its key, its value, and what that is
unfoldable pub entry_holds : ℕ → BTreeInfo → Bool → Entry → Bool
entry_holds o t isLeaf e = key_length_holds o t (length e.key) && value_holds t e.value && suit isLeaf e

-- what a value means that is read, or put
unfoldable pub child_means : Child.Child → Val
child_means (child.Disk r) = disk r
child_means (child.Mem s) = mem s

unfoldable pub value_means : Held.Val → Val
value_means held.Ghost = ghost
value_means (held.Leaf v) = leaf v.now
value_means (held.Child c) = child_means c
