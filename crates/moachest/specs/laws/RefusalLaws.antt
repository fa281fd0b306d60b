-- Every refusal of a call has a number of docs/RULES.md, 1 to 20; so 0 is free to say that a call was accepted. Assumes nothing.
use Rattle.std.specs.Prelude.{◌≡◌, refl, List, [], ◌∷◌, Bool, true, false, cond, not, ◌&&◌, ◌||◌, ℕ, zero, suc, ◌+◌, ◌-◌, ◌^◌, length, take, drop, leb, ltb, eqb}
use Rattle.std.proofs.Common.{sym, subst}
use Rattle.seal.specs.Checksum.{verified}
use Rattle.seal.specs.Bytes.{u32_at, u64_at}
use Rattle.node.specs.Result.{Result, ok, refused, ◌>>=◌, ◌>>◌, check}
use Rattle.node.specs.Refusals as refusal
use Rattle.node.specs.Entry.{Entry, Val}
use Rattle.node.specs.Order.{pair, pair_key, known, keyed, less}
use Rattle.node.specs.Find.{key_at, val_at, way_index, is_there}
use Rattle.node.specs.Fit.{flag, fits}
use Rattle.node.specs.Records.{records_of}
use Rattle.node.specs.Slot.{MemNode}
use Rattle.node.specs.Read.{OnDisk, on_disk, parsed, layout_holds, entries_hold, entries_from, keys_hold, read_node}
use Rattle.node.specs.declared.read.Node.{Node}
use Rattle.node.specs.Obj.{is_node}
use Rattle.node.specs.Cut.{cut_place, cut}
use Rattle.node.specs.declared.info.BTreeInfo.{BTreeInfo}
use Rattle.node.specs.Place.{Place}
use Rattle.node.specs.laws.base.Results.{no_answer}
use Rattle.tree.specs.Lent.{Lent, blocks, in_image, sizes_hold}
use Rattle.tree.specs.Hold.{lent_holds}
use Rattle.tree.specs.State.{State, node_at}
use Rattle.tree.specs.Load.{Bounds, unbounded, child_bounds, At, root_place, root_holds, map_root_holds, load_block, map_child, map_last, or_else, map_floor, mapping, map_address, address_of, load_child}
use Rattle.tree.specs.Lookup.{Step, Way, Got, leaf_of, held, got_length, range_enters, opened, way_from, way, get_in, get, last_from, floor_from, floor_in, floor, range_kids, range_from, range_in, range}
use Rattle.tree.specs.Edit.{touch, new_root_holds, parted, room_for, cut_at, cut_node, cuts}
use Rattle.tree.specs.Upsert.{entry_fits, upsert_on, upserted, upsert_in, upsert}
use Rattle.tree.specs.Remove.{Dropped, drop_emptied, take_from_leaf, handed_down, has_only_child, root_taken, hand_down, shrunk_on, remove_on, removed, remove_in, remove}
use Rattle.tree.specs.Omap.{is_omap, versions_end, remove_all, dropped, omap_drop_in, omap_drop, omap_put_in, omap_put}
use Rattle.tree.specs.Workspace.{state_of, workspace_holds, scratch_holds, called, edits}
use Rattle.tree.specs.Answers.{opened_in, got_in, floored_in, ranged_in}
use Rattle.tree.specs.declared.editor.Tree.{Tree}
use Rattle.tree.specs.laws.state.State.{by_val}
use Rattle.tree.specs.laws.trust.Loads.{by_list}
use Rattle.flush.specs.Space.{Space, space_holds, usable}
use Rattle.flush.specs.Flush.{Lists, lists_hold, dirty_reached, ids_wanted, flushed, flush_in, flush}
use Rattle.flush.specs.Answers.{flushed_in}

-- a number of the table
abbrev pub in_table : ℕ → Bool
in_table n = leb 1 n && leb n 20

pub record Numbered {A : Type 0} (r : Result A) : Type 0 where
  pub at : (n : ℕ) → r ≡ refused n → in_table n ≡ true

-- ---- one law for each way that an answer is made

pub n_ok : {A : Type 0} {a : A} → Numbered (ok a)
n_ok {a = a} = record { at = λ n e. no_answer n a (sym e) }

pub n_refused : {A : Type 0} (n : ℕ) → in_table n ≡ true → Numbered {A = A} (refused n)
n_refused n h = record { at = λ m e. let q : n ≡ m = cc in subst (λ (k : ℕ). in_table k ≡ true) q h }

pub n_bind : {A B : Type 0} (r : Result A) (f : A → Result B) → Numbered r → ((a : A) → Numbered (f a)) → Numbered (r >>= f)
n_bind (refused n) f h k = n_refused n (h.at n refl)
n_bind (ok a) f h k = k a

pub n_then : {A B : Type 0} (r : Result A) (f : Result B) → Numbered r → Numbered f → Numbered (r >> f)
n_then (refused n) f h k = n_refused n (h.at n refl)
n_then (ok a) f h k = k

pub n_test : (n : ℕ) (t : Bool) → in_table n ≡ true → Numbered (check n t)
n_test n true h = n_ok
n_test n false h = n_refused n h

pub n_check : {B : Type 0} (n : ℕ) (t : Bool) (f : Result B) → in_table n ≡ true → Numbered f → Numbered (check n t >> f)
n_check n true f h k = k
n_check n false f h k = n_refused n h

pub n_cond : {A : Type 0} (t : Bool) (x y : Result A) → Numbered x → Numbered y → Numbered (cond t x y)
n_cond true x y f g = f
n_cond false x y f g = g

-- ---- loads

n_read : (o : ℕ) (p : Place) (lower upper b : List ℕ) → Numbered (read_node o p lower upper b)
unfolding read_node
n_read o p lower upper b =
    let v : Node = parsed p b in
    n_check refusal.fletcher (verified b) _ refl
    (n_check refusal.kind (is_node v.otype) _ refl
    (n_check refusal.hashed (not (flag v.flags 8)) _ refl
    (n_check refusal.layout (layout_holds p v) _ refl
    (n_check refusal.level (p.root || eqb (v.level + 1) p.parent) _ refl
    (n_check refusal.entry (entries_hold p v b) _ refl
    (n_check refusal.keys (keys_hold o p lower upper (entries_from v b 0 v.nkeys)) (ok (on_disk v b)) refl n_ok))))))

n_block : (l : Lent) (o : ℕ) (p : Place) (bs : Bounds) (a : ℕ) → Numbered (load_block l o p bs a)
unfolding load_block
n_block l o p bs a = n_check refusal.address (in_image l a) _ refl (n_read _ _ _ _ _)

n_map_child : (l : Lent) (d : OnDisk) (bs : Bounds) (i : ℕ) → Numbered (map_child l d bs i)
unfolding map_child
n_map_child l d bs i = n_block _ _ _ _ _

n_map_last : (n : ℕ) (l : Lent) (d : OnDisk) (bs : Bounds) → Numbered (map_last n l d bs)
unfolding map_last
n_map_last zero l d bs = n_ok
n_map_last (suc n) l d bs = n_bind (map_child l d bs (length d.entries - 1)) _ (n_map_child _ _ _ _) (λ c. n_map_last n l c _)

n_else : (es : List Entry) (r : Result (List Entry)) → Numbered r → Numbered (or_else es r)
unfolding or_else
n_else [] r h = h
n_else (e ∷ es) r h = n_ok

n_map_floor : (n : ℕ) (l : Lent) (d : OnDisk) (bs : Bounds) (k : List ℕ) → Numbered (map_floor n l d bs k)
unfolding map_floor
n_map_floor zero l d bs k = n_ok
n_map_floor (suc n) l d bs k =
    let es : List Entry = d.entries in
    let i : ℕ = way_index pair k es in
    n_bind (map_child l d bs i) _ (n_map_child _ _ _ _) λ c.
    n_bind (map_floor n l c (child_bounds pair bs es i) k) _ (n_map_floor n l c _ k) λ e.
    n_else e _
    (n_cond (ltb 0 i && not (less pair k (key_at es i))) _ _ (n_bind (map_child l d bs (i - 1)) _ (n_map_child _ _ _ _) λ b. n_map_last n l b _) n_ok)

n_mapping : (id : ℕ) (es : List Entry) → Numbered (mapping id es)
unfolding mapping
n_mapping id [] = n_refused refusal.unmapped refl
n_mapping id (e ∷ es) =
    n_check refusal.unmapped (eqb (u64_at e.key 0) id) _ refl
    (by_val e.value (λ q. rw q (n_refused refusal.unmapped refl))
    (λ b q. rw q (n_check refusal.encrypted (not (flag (u32_at b 0) 4)) _ refl n_ok))
    (λ r q. rw q (n_refused refusal.unmapped refl))
    (λ c q. rw q (n_refused refusal.unmapped refl)))

n_map : (l : Lent) (xid id m : ℕ) → Numbered (map_address l xid id m)
unfolding map_address
n_map l xid id m =
    n_bind (load_block l pair (root_place m) unbounded m) _ (n_block _ _ _ _ _) λ d.
    n_check refusal.root (map_root_holds l m d) _ refl
    (n_bind (map_floor d.node.level l d unbounded (pair_key id xid)) _ (n_map_floor _ _ _ _ _) λ es. n_mapping id es)

n_address : (l : Lent) (xid r : ℕ) → Numbered (address_of l xid r)
unfolding address_of
n_address l xid r = by_list l.map (λ q. rw q n_ok) (λ m ms q. rw q (n_map _ xid r m))

n_load : (l : Lent) (s : State) (bs : Bounds) (n i : ℕ) → Numbered (load_child l s bs n i)
unfolding load_child
n_load l s bs n i =
    by_val (val_at (node_at s n).entries i) (λ q. rw q (n_refused refusal.lent refl)) (λ b q. rw q (n_refused refusal.lent refl))
    (λ r q. rw q (n_check refusal.no_slot (ltb (length s.nodes) l.slots) _ refl (n_bind (address_of l s.xid r) _ (n_address _ _
    _) λ a. n_bind (load_block l s.order _ _ a) _
    (n_block _ _ _ _ _) λ d. n_ok)))
    (λ c q. rw q n_ok)

-- ---- lookups

n_opened : (l : Lent) (r order xid : ℕ) → Numbered (opened l r order xid)
unfolding opened
n_opened l r order xid =
    n_check refusal.lent (sizes_hold l && known order && leb (length l.map) 1) _ refl
    (n_bind (address_of l xid r) _ (n_address _ _ _) λ a. n_bind (load_block l order (root_place r) unbounded a) _ (n_block _ _ _ _ _) λ d.
    n_check refusal.root (root_holds l a (leb 1 (length l.map)) d) _ refl n_ok)

n_way_from : (d : ℕ) (l : Lent) (s : State) (bs : Bounds) (n : ℕ) (k : List ℕ) → Numbered (way_from d l s bs n k)
unfolding way_from
n_way_from zero l s bs n k = n_ok
n_way_from (suc d) l s bs n k =
    let es : List Entry = (node_at s n).entries in
    let i : ℕ = way_index s.order k es in
    n_bind (load_child l s bs n i) _ (n_load _ _ _ _ _) λ c.
    n_bind (way_from d l c.state (child_bounds s.order bs es i) c.slot k) _ (n_way_from d l c.state _ c.slot k) λ w. n_ok

n_way : (l : Lent) (s : State) (k : List ℕ) → Numbered (way l s k)
unfolding way
n_way l s k = n_way_from _ _ _ _ _ _

pub n_get_in : (l : Lent) (s : State) (room : ℕ) (k : List ℕ) → Numbered (get_in l s room k)
unfolding get_in
n_get_in l s room k =
    n_check refusal.argument (keyed s.order k) _ refl
    (n_bind (way l s k) _ (n_way l s k) λ w.
    let v : List Val = held s.order k (node_at w.state (leaf_of w.steps)).entries in
    n_check refusal.output (leb (got_length v) room) (ok (record { state = w.state; answer = v })) refl n_ok)

n_last : (d : ℕ) (l : Lent) (s : State) (bs : Bounds) (n : ℕ) → Numbered (last_from d l s bs n)
unfolding last_from
n_last zero l s bs n = n_ok
n_last (suc d) l s bs n = n_bind (load_child l s bs n (length (node_at s n).entries - 1)) _ (n_load _ _ _ _ _) λ c. n_last d l c.state _ c.slot

n_floor_from : (d : ℕ) (l : Lent) (s : State) (bs : Bounds) (n : ℕ) (k : List ℕ) → Numbered (floor_from d l s bs n k)
unfolding floor_from
n_floor_from zero l s bs n k = n_ok
n_floor_from (suc d) l s bs n k =
    let es : List Entry = (node_at s n).entries in
    let i : ℕ = way_index s.order k es in
    n_bind (load_child l s bs n i) _ (n_load _ _ _ _ _) λ c.
    n_bind (floor_from d l c.state (child_bounds s.order bs es i) c.slot k) _ (n_floor_from d l c.state _ c.slot k) λ g.
    by_list g.answer
    (λ z. rw z (n_cond (ltb 0 i && not (less s.order k (key_at es i))) _ _ (n_bind (load_child l g.state bs n (i - 1)) _ (n_load _
    _ _ _ _) λ b. n_last d l b.state _ b.slot) n_ok))
    (λ x xs z. rw z n_ok)

pub n_floor_in : (l : Lent) (s : State) (room : ℕ) (k : List ℕ) → Numbered (floor_in l s room k)
unfolding floor_in
n_floor_in l s room k =
    n_check refusal.argument (keyed s.order k) _ refl
    (n_bind (floor_from (node_at s s.root).level l s unbounded s.root k) _ (n_floor_from _ _ _ _ _ _) λ g.
    n_check refusal.output (leb (length (records_of g.answer)) room) (ok g) refl n_ok)

n_kids : (f : State → Bounds → ℕ → Result (Got Entry)) (l : Lent) → ((s : State) (bs : Bounds) (n : ℕ) → Numbered (f s bs n))
    → (s : State) (bs : Bounds)
    (n : ℕ) (lo : List ℕ) (hi : List (List ℕ)) (m i : ℕ) → Numbered (range_kids f l s bs n lo hi m i)
unfolding range_kids
n_kids f l h s bs n lo hi zero i = n_ok
n_kids f l h s bs n lo hi (suc m) i =
    let es : List Entry = (node_at s n).entries in
    n_cond (range_enters s.order lo hi es i) _ _
    (n_bind (load_child l s bs n i) _ (n_load _ _ _ _ _) λ c.
    n_bind (f c.state (child_bounds s.order bs es i) c.slot) _ (h c.state _ c.slot) λ g.
    n_bind (range_kids f l g.state bs n lo hi m (suc i)) _ (n_kids f l h g.state bs n lo hi m (suc i)) λ x. n_ok)
    (n_kids f l h s bs n lo hi m (suc i))

n_range_from : (d : ℕ) (l : Lent) (lo : List ℕ) (hi : List (List ℕ)) (s : State) (bs : Bounds) (n : ℕ) → Numbered (range_from d l lo hi s bs n)
unfolding range_from
n_range_from zero l lo hi s bs n = n_ok
n_range_from (suc d) l lo hi s bs n = n_kids (range_from d l lo hi) l (n_range_from d l lo hi) s bs n lo hi _ 0

pub n_range_in : (l : Lent) (s : State) (room : ℕ) (lo hi : List ℕ) → Numbered (range_in l s room lo hi)
unfolding range_in
n_range_in l s room lo hi =
    n_check refusal.argument (keyed s.order lo && keyed s.order hi) _ refl
    (n_bind (range_from (node_at s s.root).level l lo (hi ∷ []) s unbounded s.root) _ (n_range_from _ _ _ _ _ _ _) λ g.
    n_check refusal.output (leb (length (records_of g.answer)) room) (ok g) refl n_ok)

-- ---- edits

n_room : (l : Lent) (s : State) (n : ℕ) → Numbered (room_for l s n)
unfolding room_for
n_room l s n =
    n_check refusal.count (leb (s.info.node_count + n) (2 ^ 64 - 1)) _ refl (n_test refusal.no_slot (leb (length s.nodes + n) l.slots) refl)

n_place : (t : BTreeInfo) (level : ℕ) (es : List Entry) → Numbered (cut t level es)
unfolding cut
n_place t level es =
    let fit : List Entry → Bool = fits t false level in
    let c : ℕ = cut_place fit es in
    n_check refusal.single (ltb 1 (length es)) _ refl (n_check refusal.no_cut (fit (take c es) && fit (drop c es)) (ok c) refl n_ok)

n_cut_at : (l : Lent) (up : List Step) (n c : ℕ) (s : State) → Numbered (cut_at l up n c s)
unfolding cut_at
n_cut_at l [] n c s = n_check refusal.new_root (new_root_holds (parted s n c) n (length s.nodes)) _ refl (n_then (room_for l s 2) _
    (n_room l s 2) n_ok)
n_cut_at l (x ∷ xs) n c s = n_then (room_for l s 1) _ (n_room l s 1) n_ok

n_cut : (l : Lent) (up : List Step) (n : ℕ) (s : State) → Numbered (cut_node l up n s)
unfolding cut_node
n_cut l up n s =
    let m : MemNode = node_at s n in
    n_cond (m.dead || fits s.info (eqb n s.root) m.level m.entries) _ _ n_ok
    (n_bind (cut s.info m.level m.entries) _ (n_place _ _ _) λ c. n_cut_at l up n c s)

n_cuts : (l : Lent) (up xs : List Step) (s : State) → Numbered (cuts l up xs s)
unfolding cuts
n_cuts l up [] s = n_ok
n_cuts l up (x ∷ xs) s = n_bind (cuts l (x ∷ []) xs s) _ (n_cuts l (x ∷ []) xs s) (λ t. n_cut l up x.slot t)

n_upsert_on : (l : Lent) (k : List ℕ) (v : Val) (w : Way) → Numbered (upsert_on l k v w)
unfolding upsert_on
n_upsert_on l k v w =
    let s : State = w.state in
    let n : ℕ = leaf_of w.steps in
    n_check refusal.count (is_there s.order k (node_at s n).entries || ltb s.info.key_count (2 ^ 64 - 1)) _ refl (n_cuts l [] _ _)

n_upserted : (l : Lent) (s : State) (k : List ℕ) (v : Val) → Numbered (upserted l s k v)
unfolding upserted
n_upserted l s k v = n_bind (way l s k) _ (n_way l s k) (λ w. n_upsert_on l k v w)

pub n_upsert_in : (l : Lent) (s : State) (k : List ℕ) (v : Val) → Numbered (upsert_in l s k v)
unfolding upsert_in
n_upsert_in l s k v = n_check refusal.argument (entry_fits s k v) _ refl (n_upserted l s k v)

n_taken : (f : State → Result State) → ((s : State) → Numbered (f s)) → (c : At) → Numbered (root_taken f c)
unfolding root_taken
n_taken f h c =
    n_cond (fits c.state.info true (node_at c.state c.slot).level (node_at c.state c.slot).entries) _ _
    (n_check refusal.count (ltb 0 c.state.info.node_count) _ refl (h (handed_down c.state c.slot))) n_ok

n_hand_down : (n : ℕ) (l : Lent) (s : State) → Numbered (hand_down n l s)
unfolding hand_down
n_hand_down zero l s = n_ok
n_hand_down (suc n) l s =
    n_cond (has_only_child s) _ _ (n_bind (load_child l s unbounded s.root 0) _ (n_load _ _ _ _ _) (λ c. n_taken (hand_down n l)
    (n_hand_down n l) c)) n_ok

n_shrunk : (l : Lent) (k : List ℕ) (w : Way) → Numbered (shrunk_on l k w)
unfolding shrunk_on
n_shrunk l k w =
    let s : State = w.state in
    let d : Dropped = drop_emptied w.steps (take_from_leaf (touch w.steps s) (leaf_of w.steps) k) in
    n_check refusal.count (ltb 0 s.info.key_count && leb d.nodes s.info.node_count) _ refl (n_cuts l [] _ _)

n_remove_on : (l : Lent) (k : List ℕ) (w : Way) → Numbered (remove_on l k w)
unfolding remove_on
n_remove_on l k w = n_bind (shrunk_on l k w) _ (n_shrunk l k w) (λ t. n_hand_down _ l t)

n_removed : (l : Lent) (s : State) (k : List ℕ) → Numbered (removed l s k)
unfolding removed
n_removed l s k =
    n_bind (way l s k) _ (n_way l s k) λ w.
    n_cond (is_there s.order k (node_at w.state (leaf_of w.steps)).entries) _ _ (n_bind (remove_on l k w) _ (n_remove_on l k w) λ t. n_ok) n_ok

pub n_remove_in : (l : Lent) (s : State) (k : List ℕ) → Numbered (remove_in l s k)
unfolding remove_in
n_remove_in l s k = n_check refusal.argument (keyed s.order k) _ refl (n_removed l s k)

n_remove_all : (l : Lent) (es : List Entry) (s : State) → Numbered (remove_all l es s)
unfolding remove_all
n_remove_all l [] s = n_ok
n_remove_all l (e ∷ es) s = n_bind (removed l s e.key) _ (n_removed l s e.key) (λ r. n_remove_all l es r.state)

n_dropped : (l : Lent) (s : State) (id : ℕ) → Numbered (dropped l s id)
unfolding dropped
n_dropped l s id =
    n_bind (range_from (node_at s s.root).level l (pair_key id 0) (versions_end id) s unbounded s.root) _ (n_range_from _ _ _ _ _ _
    _) (λ g. n_remove_all l g.answer g.state)

pub n_drop_in : (l : Lent) (s : State) (id : ℕ) → Numbered (omap_drop_in l s id)
unfolding omap_drop_in
n_drop_in l s id = n_check refusal.argument (is_omap s) _ refl (n_dropped l s id)

pub n_put_in : (l : Lent) (s : State) (id xid address size : ℕ) → Numbered (omap_put_in l s id xid address size)
unfolding omap_put_in
n_put_in l s id xid address size = n_check refusal.argument (is_omap s) _ refl (n_bind (dropped l s id) _ (n_dropped l s id) λ t. n_upserted l t _ _)

-- ---- on lent words and bytes

n_called : {A : Type 0} (size slots : ℕ) (t : Tree) (heads bytes : List ℕ) (f : State → Result A) → ((s : State) → Numbered (f s))
    → Numbered (called size slots t heads bytes f)
unfolding called
n_called size slots t heads bytes f h = n_check refusal.lent (workspace_holds size slots t.used heads bytes) _ refl (h (state_of size t heads bytes))

n_edits : {A : Type 0} (size slots : ℕ) (t : Tree) (heads bytes scratch : List ℕ) (f : State → Result A) → ((s : State) → Numbered (f s))
    → Numbered (edits size slots t heads bytes scratch f)
unfolding edits
n_edits size slots t heads bytes scratch f h = n_check refusal.lent (scratch_holds size slots scratch) _ refl (n_called size slots t heads bytes f h)

-- ---- the calls

pub open_numbered : (l : Lent) (heads bytes : List ℕ) (r order xid : ℕ) → Numbered (opened_in l heads bytes r order xid)
unfolding opened_in
open_numbered l heads bytes r order xid = n_check refusal.lent (workspace_holds l.size l.slots 0 heads bytes) _ refl (n_opened l r order xid)

pub get_numbered : (l : Lent) (t : Tree) (heads bytes : List ℕ) (room : ℕ) (k : List ℕ) → Numbered (got_in l t heads bytes room k)
unfolding got_in get
get_numbered l t heads bytes room k = n_called _ _ t heads bytes _ (λ s. n_check refusal.lent (lent_holds l s) _ refl (n_get_in l s room k))

pub floor_numbered : (l : Lent) (t : Tree) (heads bytes : List ℕ) (room : ℕ) (k : List ℕ) → Numbered (floored_in l t heads bytes room k)
unfolding floored_in floor
floor_numbered l t heads bytes room k = n_called _ _ t heads bytes _ (λ s. n_check refusal.lent (lent_holds l s) _ refl (n_floor_in l s room k))

pub range_numbered : (l : Lent) (t : Tree) (heads bytes : List ℕ) (room : ℕ) (lo hi : List ℕ) → Numbered (ranged_in l t heads bytes room lo hi)
unfolding ranged_in range
range_numbered l t heads bytes room lo hi = n_called _ _ t heads bytes _ (λ s. n_check refusal.lent (lent_holds l s) _ refl (n_range_in
    l s room lo hi))

pub upsert_numbered : (size slots : ℕ) (t : Tree) (heads bytes scratch : List ℕ) (l : Lent) (k : List ℕ) (v : Val)
    → Numbered (edits size slots t heads bytes scratch (λ s. upsert l s k v))
unfolding upsert
upsert_numbered size slots t heads bytes scratch l k v =
    n_edits size slots t heads bytes scratch _ (λ s. n_check refusal.lent (lent_holds l s) _ refl (n_upsert_in l s k v))

pub remove_numbered : (size slots : ℕ) (t : Tree) (heads bytes scratch : List ℕ) (l : Lent) (k : List ℕ)
    → Numbered (edits size slots t heads bytes scratch (λ s. remove l s k))
unfolding remove
remove_numbered size slots t heads bytes scratch l k =
    n_edits size slots t heads bytes scratch _ (λ s. n_check refusal.lent (lent_holds l s) _ refl (n_remove_in l s k))

pub drop_numbered : (size slots : ℕ) (t : Tree) (heads bytes scratch : List ℕ) (l : Lent) (id : ℕ)
    → Numbered (edits size slots t heads bytes scratch (λ s. omap_drop l s id))
unfolding omap_drop
drop_numbered size slots t heads bytes scratch l id =
    n_edits size slots t heads bytes scratch _ (λ s. n_check refusal.lent (lent_holds l s) _ refl (n_drop_in l s id))

pub put_numbered : (size slots : ℕ) (t : Tree) (heads bytes scratch : List ℕ) (l : Lent) (id xid address long : ℕ)
    → Numbered (edits size slots t heads bytes scratch (λ s. omap_put l s id xid address long))
unfolding omap_put
put_numbered size slots t heads bytes scratch l id xid address long =
    n_edits size slots t heads bytes scratch _ (λ s. n_check refusal.lent (lent_holds l s) _ refl (n_put_in l s id xid address long))

pub flush_in_numbered : (l : Lent) (p : Space) (lists : Lists) (s : State) (xid next : ℕ) → Numbered (flush_in l p lists s xid next)
unfolding flush_in
flush_in_numbered l p lists s xid next =
    n_check refusal.lent (space_holds l.size (blocks l) p && lists_hold l.slots lists) _ refl
    (n_check refusal.full (leb (dirty_reached s) (usable l.size p)) _ refl
    (n_check refusal.count (leb (next + ids_wanted s) (2 ^ 64 - 1)) (ok (flushed l p s xid next)) refl n_ok))

pub flush_numbered : (l : Lent) (p : Space) (lists : Lists) (t : Tree) (heads bytes : List ℕ) (xid next : ℕ)
    → Numbered (flushed_in l p lists t heads bytes xid next)
unfolding flushed_in flush
flush_numbered l p lists t heads bytes xid next =
    n_called _ _ t heads bytes _ (λ s. n_check refusal.lent (lent_holds l s) _ refl (flush_in_numbered l p lists s xid next))
