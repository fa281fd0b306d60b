-- Refusal 1, second half: slots that, dead nodes aside, hold together.
use Rattle.std.specs.Prelude.{List, [], ◌∷◌, Bool, true, cond, ◌&&◌, ◌||◌, not, ℕ, zero, suc, ◌+◌, ◌^◌, length, leb, ltb, eqb}
use Rattle.node.specs.Order.{known, keyed}
use Rattle.node.specs.Entry.{Entry, Val, ghost, leaf, disk, mem, rising, every}
use Rattle.node.specs.Fit.{fits, fixed}
use Rattle.node.specs.Slot.{MemNode, suit}
use Rattle.node.specs.declared.info.BTreeInfo.{BTreeInfo}
use Rattle.tree.specs.Lent.{Lent, sizes_hold}
use Rattle.tree.specs.State.{State, node_at}

-- 12: a key not 16 bytes in pair order, or not the fixed length
unfoldable pub key_fits : State → List ℕ → Bool
key_fits s k = keyed s.order k && (not (fixed s.info) || eqb (length k) s.info.key_size)

-- 12: a value not the fixed length (a ghost may stand; an index value is 8)
unfoldable pub value_fits : State → Val → Bool
value_fits s ghost = true
value_fits s (leaf v) = not (fixed s.info) || eqb (length v) s.info.val_size
value_fits s (disk r) = true
value_fits s (mem c) = true

-- a child in a slot is in use, not dead, one level lower
unfoldable pub child_holds : State → ℕ → Val → Bool
child_holds s level ghost = true
child_holds s level (leaf v) = true
child_holds s level (disk r) = true
child_holds s level (mem c) = ltb c (length s.nodes) && not (node_at s c).dead && eqb ((node_at s c).level + 1) level

-- a dirty node fits; a clean one has a block and, if virtual, an id
unfoldable pub stands_on_disk : State → ℕ → MemNode → Bool
stands_on_disk s n m =
    cond m.dirty
    (fits s.info (eqb n s.root) m.level m.entries)
    (eqb (length m.block) 1 && (not s.virtual || eqb (length m.id) 1))

-- the node of slot n stands: its level, its entries one by one, its children, its place on disk
unfoldable pub node_stands : State → ℕ → MemNode → Bool
node_stands s n m =
    leb m.level 32
    && (eqb m.level 0 || not (eqb (length m.entries) 0))
    && every (λ e. key_fits s e.key && value_fits s e.value && suit (eqb m.level 0) e && child_holds s m.level e.value) m.entries
    && stands_on_disk s n m

-- the node of slot n holds: it stands, and its keys rise
unfoldable pub node_holds : State → ℕ → MemNode → Bool
node_holds s n m = node_stands s n m && rising s.order m.entries

-- every slot from n on that is not dead passes a test
unfoldable pub every_live : (ℕ → MemNode → Bool) → ℕ → List MemNode → Bool
every_live t n [] = true
every_live t n (m ∷ ms) = (m.dead || t n m) && every_live t (suc n) ms

-- how often entries name slot c
unfoldable pub naming : ℕ → List Entry → ℕ
naming c [] = 0
naming c (e ∷ es) = names e.value + naming c es
  where
    names : Val → ℕ
    names ghost = 0
    names (leaf v) = 0
    names (disk r) = 0
    names (mem d) = cond (eqb c d) 1 0

-- how often slot c is named by nodes that are not dead
unfoldable pub named : ℕ → List MemNode → ℕ
named c [] = 0
named c (m ∷ ms) = cond m.dead 0 (naming c m.entries) + named c ms

-- no slot is reached twice; the root counts as reached once
unfoldable pub named_once : State → ℕ → Bool
named_once s zero = true
named_once s (suc c) = leb (named c s.nodes + cond (eqb c s.root) 1 0) 1 && named_once s c

-- slots that hold together
unfoldable pub hold_together : State → Bool
hold_together s =
    ltb s.root (length s.nodes) && not (node_at s s.root).dead
    && every_live (node_holds s) 0 s.nodes
    && named_once s (length s.nodes)

-- 1: the tree's lengths and flags are u32, as its root stores them
unfoldable pub info_holds : BTreeInfo → Bool
info_holds t =
    ltb t.flags (2 ^ 32) && ltb t.key_size (2 ^ 32) && ltb t.val_size (2 ^ 32)
    && ltb t.longest_key (2 ^ 32) && ltb t.longest_val (2 ^ 32)

-- 1: sizes, order, the tree's numbers. A map is lent to a virtual tree and to no other
unfoldable pub numbers_hold : Lent → State → Bool
numbers_hold l s =
    sizes_hold l
    && eqb s.info.node_size l.size
    && known s.order
    && info_holds s.info
    && eqb (length l.map) (cond s.virtual 1 0)
    && leb (length s.nodes) l.slots

-- 1, of a call that is lent no bitmap
unfoldable pub lent_holds : Lent → State → Bool
lent_holds l s = numbers_hold l s && hold_together s
