-- What edits share (RULES: dirty, index-keys, cut): dirty marks, index keys on the way, cuts bottom up.
use Rattle.std.specs.Prelude.{List, [], ◌∷◌, Bool, true, cond, ◌&&◌, ◌||◌, not, ℕ, suc, ◌+◌, ◌-◌, ◌^◌, length, take, drop, leb, ltb, eqb}
use Rattle.node.specs.Result.{Result, ok, ◌>>=◌, ◌>>◌, check}
use Rattle.node.specs.Refusals as refusal
use Rattle.node.specs.Order.{same_key}
use Rattle.node.specs.Entry.{Entry, mem}
use Rattle.node.specs.Find.{key_at}
use Rattle.node.specs.Fit.{fits}
use Rattle.node.specs.Cut.{cut}
use Rattle.node.specs.Slot.{MemNode, insert_at, with_key}
use Rattle.tree.specs.Lent.{Lent}
use Rattle.tree.specs.State.{State, node_at, put_node, add_node, with_root, with_info, with_counts, changed, marked_dirty, with_place, made}
use Rattle.tree.specs.Lookup.{Step, leaf_of}

-- ---- dirty marks

-- every slot of a way dirty
unfoldable pub mark_way : List Step → State → State
mark_way [] s = s
mark_way (x ∷ xs) s = mark_way xs (put_node s x.slot (marked_dirty (node_at s x.slot)))

unfoldable pub mark_dirty : State → ℕ → State
mark_dirty s n = put_node s n (marked_dirty (node_at s n))

-- the leaf and the root; in a physical tree the whole way
unfoldable pub touch : List Step → State → State
touch p s = cond s.virtual (mark_dirty (mark_dirty s s.root) (leaf_of p)) (mark_way p s)

-- ---- index keys

-- the index key of child i of slot n set to the first key of slot c; n is dirty if that changes it
unfoldable pub set_index_key : State → ℕ → ℕ → ℕ → State
set_index_key s n i c = keyed (node_at s c).entries
  where
    es : List Entry
    es = (node_at s n).entries

    keyed : List Entry → State
    keyed [] = s
    keyed (e ∷ rest) =
        cond ((node_at s c).dead || not (ltb i (length es)) || same_key (key_at es i) e.key) s
        (put_node s n (changed (node_at s n) (with_key i e.key es)))

-- on a way, bottom up: each index key is its child's first key
unfoldable pub index_keys : List Step → State → State
index_keys [] s = s
index_keys (x ∷ []) s = s
index_keys (x ∷ y ∷ xs) s = set_index_key (index_keys (y ∷ xs) s) x.slot x.child y.slot

-- ---- cuts

-- n nodes more in the node count
unfoldable pub more_nodes : State → ℕ → State
more_nodes s n = with_info s (with_counts s.info s.info.key_count (s.info.node_count + n))

-- 17 and 11: room in the node count and in the slots for n nodes made
unfoldable pub room_for : Lent → State → ℕ → Result (Unit {0})
room_for l s n = do
  check refusal.count (leb (s.info.node_count + n) (2 ^ 64 - 1))
  check refusal.no_slot (leb (length s.nodes + n) l.slots)

-- slot n keeps its first c entries, the next slot takes the rest; both are dirty
unfoldable pub parted : State → ℕ → ℕ → State
parted s n c =
    let m : MemNode = node_at s n in
    add_node (put_node s n (changed m (take c m.entries))) (made m.level (drop c m.entries))

-- the right part, slot r, becomes child i + 1 of slot p
unfoldable pub link_right : State → ℕ → ℕ → ℕ → State
link_right s p i r =
    put_node s p (changed (node_at s p) (insert_at (suc i) (record { key = key_at (node_at s r).entries 0; value = mem r }) (node_at s p).entries))

-- the entries of a new root above slots n and r
unfoldable pub root_entries : State → ℕ → ℕ → List Entry
root_entries s n r =
    record { key = key_at (node_at s n).entries 0; value = mem n } ∷ record { key = key_at (node_at s r).entries 0; value = mem r } ∷ []

-- a new root in the next slot takes the old root's id and block
unfoldable pub grow_root : State → ℕ → ℕ → State
grow_root s n r =
    let m : MemNode = node_at s n in
    let top : MemNode = with_place (made (suc m.level) (root_entries s n r)) m.block m.id in
    with_root (add_node (put_node s n (with_place m [] [])) top) (length s.nodes)

-- 15: the new root fits, and is not at level 33
unfoldable pub new_root_holds : State → ℕ → ℕ → Bool
new_root_holds s n r =
    fits s.info true (suc (node_at s n).level) (root_entries s n r) && leb (suc (node_at s n).level) 32

-- slot n cut after c entries, under its parent (none: it is the root)
unfoldable pub cut_at : Lent → List Step → ℕ → ℕ → State → Result State
cut_at l up n c s = grown up
  where
    r : ℕ
    r = length s.nodes

    s' : State
    s' = parted s n c

    grown : List Step → Result State
    grown [] = do
      check refusal.new_root (new_root_holds s' n r)
      room_for l s 2
      ok (more_nodes (grow_root s' n r) 2)
    grown (x ∷ xs) = do
      room_for l s 1
      ok (more_nodes (link_right s' x.slot x.child r) 1)

-- an unfit node: 13, 14, at the root 15, 17, 11
unfoldable pub cut_node : Lent → List Step → ℕ → State → Result State
cut_node l up n s =
    cond (m.dead || fits s.info (eqb n s.root) m.level m.entries) (ok s)
    (cut s.info m.level m.entries >>= λ c. cut_at l up n c s)
  where
    m : MemNode
    m = node_at s n

-- on a way, bottom up: each node that doesn't fit is cut in two. up: the step above, none at the root
unfoldable pub cuts : Lent → List Step → List Step → State → Result State
cuts l up [] s = ok s
cuts l up (x ∷ xs) s = cuts l (x ∷ []) xs s >>= cut_node l up x.slot
