-- Remove (RULES: remove, hand-down).
use Rattle.std.specs.Prelude.{List, [], ◌∷◌, Bool, true, false, cond, ◌&&◌, ℕ, zero, suc, ◌-◌, length, leb, ltb, eqb}
use Rattle.node.specs.Result.{Result, ok, ◌>>=◌, ◌>>◌, check}
use Rattle.node.specs.Refusals as refusal
use Rattle.node.specs.Order.{keyed}
use Rattle.node.specs.Entry.{Entry}
use Rattle.node.specs.Find.{place_of, is_there}
use Rattle.node.specs.Fit.{fits}
use Rattle.node.specs.Slot.{MemNode, remove_at}
use Rattle.tree.specs.Lent.{Lent}
use Rattle.tree.specs.State.{State, node_at, put_node, with_root, with_info, with_counts, with_entries, changed, marked_dirty, marked_dead, with_place, with_level}
use Rattle.tree.specs.Hold.{lent_holds}
use Rattle.tree.specs.Load.{unbounded, At, load_child}
use Rattle.tree.specs.Lookup.{Step, Way, way, leaf_of}
use Rattle.tree.specs.Edit.{touch, index_keys, cuts}

-- a state, and how many nodes were dropped
pub record Dropped : Type 0 where
  pub state : State
  pub nodes : ℕ

-- slot n, if it is empty, is dead, and its parent loses child i
unfoldable pub drop_node : Step → ℕ → Dropped → Dropped
drop_node x n d = emptied (node_at s n).entries
  where
    s : State
    s = d.state

    p : MemNode
    p = node_at s x.slot

    emptied : List Entry → Dropped
    emptied [] =
        record {
          state = put_node (put_node s n (marked_dead (node_at s n))) x.slot (changed p (remove_at x.child p.entries));
          nodes = suc d.nodes;
        }
    emptied (e ∷ es) = d

-- on a way, bottom up: emptied nodes are dropped, never the root
unfoldable pub drop_emptied : List Step → State → Dropped
drop_emptied [] s = record { state = s; nodes = 0 }
drop_emptied (x ∷ []) s = record { state = s; nodes = 0 }
drop_emptied (x ∷ y ∷ xs) s = drop_node x y.slot (drop_emptied (y ∷ xs) s)

-- an emptied root is a leaf
unfoldable pub leveled_root : State → State
leveled_root s = emptied (node_at s s.root).entries
  where
    emptied : List Entry → State
    emptied [] = put_node s s.root (with_level (node_at s s.root) 0)
    emptied (e ∷ es) = s

-- slot c takes the root's place: ids exchanged, blocks not; it is dirty, the old root dead
unfoldable pub handed_down : State → ℕ → State
handed_down s c =
    let old : MemNode = node_at s s.root in
    let new : MemNode = node_at s c in
    let s' : State = put_node s s.root (marked_dead (with_place old old.block new.id)) in
    with_info (with_root (put_node s' c (marked_dirty (with_place new new.block old.id))) c)
    (with_counts s.info s.info.key_count (s.info.node_count - 1))

-- an index root with one child
unfoldable pub has_only_child : State → Bool
has_only_child s = ltb 0 (node_at s s.root).level && eqb (length (node_at s s.root).entries) 1

-- a loaded only child, if it fits as root: 17, and it becomes the root. next: what follows then
unfoldable pub root_taken : (State → Result State) → At → Result State
root_taken next c =
    let s : State = c.state in
    let m : MemNode = node_at s c.slot in
    cond (fits s.info true m.level m.entries)
    (check refusal.count (ltb 0 s.info.node_count) >> next (handed_down s c.slot))
    (ok s)

-- while an index root has one child: its load, and the root's place goes down to it. n: how often at most
unfoldable pub hand_down : ℕ → Lent → State → Result State
hand_down zero l s = ok s
hand_down (suc n) l s = cond (has_only_child s) (load_child l s unbounded s.root 0 >>= root_taken (hand_down n l)) (ok s)

-- the leaf edited
unfoldable pub take_from_leaf : State → ℕ → List ℕ → State
take_from_leaf s n k =
    let es : List Entry = (node_at s n).entries in
    put_node s n (with_entries (node_at s n) (remove_at (place_of s.order k es) es))

-- the edit on a way that is loaded and has the key: 17; dropped nodes, index keys, cuts
unfoldable pub shrunk_on : Lent → List ℕ → Way → Result State
shrunk_on l k w =
    let s : State = w.state in
    let d : Dropped = drop_emptied w.steps (take_from_leaf (touch w.steps s) (leaf_of w.steps) k) in
    let s' : State = with_info d.state (with_counts s.info (s.info.key_count - 1) (s.info.node_count - d.nodes)) in do
      check refusal.count (ltb 0 s.info.key_count && leb d.nodes s.info.node_count)
      cuts l [] w.steps (index_keys w.steps (leveled_root s'))

-- and last, the root's place handed down
unfoldable pub remove_on : Lent → List ℕ → Way → Result State
remove_on l k w = shrunk_on l k w >>= λ t. hand_down (node_at t t.root).level l t

-- whether a remove found its key, and the tree after
pub record Removed : Type 0 where
  pub state : State
  pub present : Bool

-- load; absent answers no; the edit
unfoldable pub removed : Lent → State → List ℕ → Result Removed
removed l s k =
    way l s k >>= λ w.
    cond (is_there s.order k (node_at w.state (leaf_of w.steps)).entries)
    (remove_on l k w >>= λ t. ok (record { state = t; present = true }))
    (ok (record { state = w.state; present = false }))

-- 12; the edit
unfoldable pub remove_in : Lent → State → List ℕ → Result Removed
remove_in l s k = do
  check refusal.argument (keyed s.order k)
  removed l s k

-- 1; what follows
unfoldable pub remove : Lent → State → List ℕ → Result Removed
remove l s k = do
  check refusal.lent (lent_holds l s)
  remove_in l s k
