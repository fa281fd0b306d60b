-- What an edit passes through: the ways to the keys that it puts or takes out, in the tree that Edits gives by then; and what became the root.
use Rattle.std.specs.Prelude.{List, [], ◌∷◌, ◌++◌, true, cond, ℕ, zero, suc}
use Rattle.tree.specs.Format.{Result, ok, refused, ◌>>=◌, Entry, pair_key, is_there, fits, MemNode}
use Rattle.tree.specs.Lent.{Lent}
use Rattle.tree.specs.State.{State, node_at}
use Rattle.tree.specs.Load.{unbounded, At, load_child}
use Rattle.tree.specs.Lookup.{Got, Step, Way, way, range_from, leaf_of}
use Rattle.tree.specs.Remove.{Removed, removed, has_only_child, handed_down, shrunk_on}
use Rattle.tree.specs.Omap.{dropped, versions_end}
use Rattle.history.specs.Calls.{Call, get_call, floor_call, range_call, upsert_call, remove_call, put_call, drop_call, flush_call}

-- the blocks of the nodes on a way
unfoldable pub blocks_on : State → List Step → List ℕ
blocks_on s [] = []
blocks_on s (x ∷ xs) = (node_at s x.slot).block ++ blocks_on s xs

-- the way to a key that is put
unfoldable pub pass_put : Lent → State → List ℕ → List ℕ
pass_put l s k = on (way l s k)
  where
    on : Result Way → List ℕ
    on (refused n) = []
    on (ok w) = blocks_on w.state w.steps

-- a key that is taken out: its way, if it is there
unfoldable pub pass_take : Lent → State → List ℕ → List ℕ
pass_take l s k = on (way l s k)
  where
    on : Result Way → List ℕ
    on (refused n) = []
    on (ok w) = cond (is_there s.order k (node_at w.state (leaf_of w.steps)).entries) (blocks_on w.state w.steps) []

-- the blocks of the children that become the root, one after the other (handDown's steps)
unfoldable pub root_taking : (State → List ℕ) → Result At → List ℕ
root_taking next (refused n) = []
root_taking next (ok c) =
    let m : MemNode = node_at c.state c.slot in
    cond (fits c.state.info true m.level m.entries) (m.block ++ next (handed_down c.state c.slot)) []

unfoldable pub roots_taken : ℕ → Lent → State → List ℕ
roots_taken zero l s = []
roots_taken (suc n) l s = cond (has_only_child s) (root_taking (roots_taken n l) (load_child l s unbounded s.root 0)) []

-- the blocks that become the root where a key is taken out
unfoldable pub became_root : Lent → State → List ℕ → List ℕ
became_root l s k = on (way l s k >>= λ w. cond (is_there s.order k (node_at w.state (leaf_of w.steps)).entries) (shrunk_on l k w) (refused 0))
  where
    on : Result State → List ℕ
    on (refused n) = []
    on (ok t) = roots_taken (node_at t t.root).level l t

-- keys taken out one after the other
unfoldable pub pass_takes : Lent → State → List Entry → List ℕ
pass_takes l s [] = []
pass_takes l s (e ∷ es) = pass_take l s e.key ++ became_root l s e.key ++ pass_takes l (after (removed l s e.key)) es
  where
    after : Result Removed → State
    after (refused n) = s
    after (ok r) = r.state

-- an id's versions taken out
unfoldable pub pass_drop : Lent → State → ℕ → List ℕ
pass_drop l s id = on (range_from (node_at s s.root).level l (pair_key id 0) (versions_end id) s unbounded s.root)
  where
    on : Result (Got Entry) → List ℕ
    on (refused n) = []
    on (ok g) = pass_takes l g.state g.answer

-- the blocks that an accepted call passes through or makes the root
unfoldable pub passed : Lent → Call → State → List ℕ
passed l (get_call room k) s = []
passed l (floor_call room k) s = []
passed l (range_call room lo hi) s = []
passed l (upsert_call k v) s = pass_put l s k
passed l (remove_call k) s = pass_take l s k ++ became_root l s k
passed l (put_call id xid address size) s = pass_drop l s id ++ onto (dropped l s id)
  where
    onto : Result State → List ℕ
    onto (refused n) = []
    onto (ok t) = pass_put l t (pair_key id xid)
passed l (drop_call id) s = pass_drop l s id
passed l (flush_call p lists xid next) s = []
