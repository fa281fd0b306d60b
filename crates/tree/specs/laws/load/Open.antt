-- Laws of a tree opened in slots: one for each way out. Assumes nothing.
use Rattle.node.specs.laws.read.LoadLine.{node_read, node_refused}
use Rattle.tree.specs.laws.base.Refused.{handed_on}
use Rattle.std.proofs.lemmas.Result.{IfOk-at_ok}
use Rattle.std.specs.Prelude.{◌≡◌, List, [], ◌∷◌, ◌&&◌, ℕ, ◌+◌, ◌*◌, ◌/◌, ◌%◌, ◌^◌, ◌≤◌, ◌<◌}
use Rattle.std.proofs.Math.Path.{sym, ap}
use Rattle.std.proofs.Common.{◌∙◌, arith}
use Rattle.std.proofs.Math.Bool.{Bool, true, false}
use Rattle.std.proofs.Math.ListN.{length}
use Rattle.std.proofs.Math.Dec.{leb, eqb}
use borrow.Author.Tests.{leb-true, eqb-true}
use Rattle.node.specs.Bytes.{window}
use Rattle.node.specs.laws.base.Tests.{by_test, and_split}
use Rattle.node.specs.Result.{Result, ok, ◌>>=◌, ◌>>◌, check}
use Rattle.node.specs.Order.{known}
use Rattle.node.specs.Fit.{data_space}
use Rattle.node.specs.Read.{on_disk, info_at, read_of, spans_length}
use Rattle.node.specs.laws.read.Accepted.{Accepted}
use Rattle.node.specs.laws.base.Bytes.{Bytes}
use Rattle.node.specs.Slot.{MemNode}
use Rattle.node.specs.declared.order.Order.{Order}
use Rattle.node.specs.declared.info.BTreeInfo.{BTreeInfo}
use Rattle.node.specs.Place.{place_of, lent_root, lower_of, lent_key}
use Rattle.node.specs.declared.read.Place.{Place}
use Rattle.node.specs.declared.read.Node.{Node}
use Rattle.tree.specs.Lent as lent
use Rattle.tree.specs.Lent.{is_size, blocks, sizes_hold, lent_of}
use Rattle.tree.specs.State.{State}
use Rattle.tree.specs.Workspace.{nodes_from, nodes_of, state_of, slots_hold, workspace_holds}
use Rattle.tree.specs.Load.{unbounded, bound_key, load_block, root_place, root_holds, address_of, adopted}
use Rattle.tree.specs.Lookup.{opened_at, opened}
use Rattle.tree.specs.internal.Bank.{node_in, Ready, Wrote, ReadyTree}
use Rattle.tree.specs.internal.Map.{load_at, address_at}
use Rattle.tree.specs.Answers.{opened_of, opened_in, opened_leaves}
use Rattle.tree.specs.internal.Open.{opened_root, OpenedTrusts}
use Rattle.tree.specs.internal.Holding.{room_holds}
use Rattle.tree.specs.laws.slots.Bank.{slots_below, add_ready}
use Rattle.tree.specs.laws.slots.Undo.{put_of}
use Rattle.tree.specs.laws.refusal1.Sizes.{size_bounds}
use Rattle.tree.specs.laws.trust.Loads.{trusted_open}
use Rattle.tree.specs.laws.room.Way.{roomy_open}
use Rattle.tree.specs.laws.refusal1.Calls.{trusts_hold}
use Rattle.tree.specs.laws.load.MapNode.{block_info, block_long, block_at_lem}
use Rattle.tree.specs.laws.load.MapFloor.{load_inside, load_accepts}
use Rattle.tree.specs.declared.editor.Tree.{Tree}
use Rattle.tree.specs.declared.lent.Lent.{Lent}
use Rattle.std.specs.Prelude as std
use Rattle.std.specs.Prelude.{refl, Ok, Err, Some, None, Option, is_some, option_to_list}
use Rattle.node.specs.declared.refusal.Refusal.{Refusal}
use Rattle.node.specs.declared.refusal.Refusal.TheVariants as is

-- a map is lent or not
mapped_in : (m : Option ℕ) → leb 1 (length (option_to_list m)) ≡ is_some m
mapped_in None = refl
mapped_in (Some a) = refl

mapped_is : (image : List ℕ) (l : Lent) (by_id : Bool) → by_id ≡ is_some l.map → leb 1 (length (lent_of image l).map) ≡ by_id
unfolding lent_of
mapped_is image l by_id e = mapped_in l.map ∙ sym e

few_in : (m : Option ℕ) → leb (length (option_to_list m)) 1 ≡ true
few_in None = refl
few_in (Some a) = refl

map_few : (image : List ℕ) (l : Lent) → leb (length (lent_of image l).map) 1 ≡ true
unfolding lent_of
map_few image l = few_in l.map

-- ---- room for slot 0

pub open_words : (slots words : ℕ) → 1 ≤ slots → words ≡ slots * 19 → 0 * 9 + 9 ≤ words
open_words slots words h e = omega arith

pub open_bytes : (slots size room : ℕ) → 1 ≤ slots → room ≡ (slots + slots) * (4 * size) → 0 * (4 * size) + 4 * size ≤ room
open_bytes slots size room h e = omega (arith, slots_below (4 * size) 0 (slots + slots) (omega arith))

-- ---- from the root's address on

module _ (image : List ℕ) (l : Lent) (r : ℕ) (order : Order) (xid a : ℕ) (x : std.Result Node Refusal)
    (place : Place) (ep : place ≡ lent_root r)
    (e : read_of (lent.block_at (lent_of image l) a) x
    ≡ load_at (lent_of image l) order.code (place_of place) (lent_key (lower_of place)) (lent_key place.upper) a) where
  of_root : read_of (lent.block_at (lent_of image l) a) x ≡ load_at (lent_of image l) order.code (place_of (lent_root r)) [] [] a
  of_root = rw ep at e

  root_is : opened_root (lent_of image l) r order.code xid a
      ≡ (read_of (lent.block_at (lent_of image l) a) x >>= λ d. check 10 (root_holds (lent_of image l) a (leb 1 (length (lent_of image l).map)) d)
      >> ok (opened_at (lent_of image l) order.code xid a d))
  unfolding opened_root load_block load_at root_place unbounded bound_key
  root_is = rw of_root

  pub open_refused : (k : Refusal) (heads bytes : List ℕ) → x ≡ Err k → opened_of l.size heads bytes (Err k) ≡ opened_root
      (lent_of image l) r order.code xid a
  unfolding opened_of read_of
  open_refused k heads bytes ex = sym (root_is ∙ rw ex)

  module _ (v : Node) (ex : x ≡ Ok v) where
    pub open_inside : a < length image / l.size
    open_inside = load_inside image l order.code a (place_of (lent_root r)) [] [] x v of_root ex

    pub open_root : (by_id : Bool) → by_id ≡ is_some l.map
        → root_holds (lent_of image l) a by_id (on_disk v (lent.block_at (lent_of image l) a)) ≡ false
        → (heads bytes : List ℕ) → opened_of l.size heads bytes (Err is.Root) ≡ opened_root (lent_of image l) r order.code xid a
    unfolding opened_of read_of
    open_root by_id eb h heads bytes = sym (root_is ∙ rw (ex, mapped_is image l by_id eb, h))

    module _ (m : l.size ≤ 65536) (block : List ℕ) (eb : block ≡ window (a * l.size) l.size image) where
      accepts : Accepted order.code (place_of (lent_root r)) [] [] (window (a * l.size) l.size image) v
      accepts = load_accepts image l order.code a (place_of (lent_root r)) [] [] x v of_root ex m

      pub open_long : length block ≡ l.size
      open_long = block_long image l.size a open_inside block eb

      pub open_space : spans_length v block 0 v.nkeys ≤ 65532
      unfolding data_space
      open_space = rw eb (omega (arith, accepts.space, open_long, ap length eb))

      module _ (by_id : Bool) (ed : by_id ≡ is_some l.map)
          (h : root_holds (lent_of image l) a by_id (on_disk v (lent.block_at (lent_of image l) a)) ≡ true)
          (info : BTreeInfo) (ei : info ≡ info_at (lent.block_at (lent_of image l) a)) (heads bytes heads' bytes' : List ℕ)
          (p : Wrote l.size heads bytes heads' bytes' 0 (adopted by_id a (on_disk v block))) where
        abbrev tree : Tree
        tree = record { root = 0; used = 1; info = info; by_id = by_id; subtype = v.subtype; order = order; xid = xid }

        one_node : nodes_of l.size heads' bytes' 1 ≡ adopted by_id a (on_disk v block) ∷ []
        unfolding nodes_of nodes_from node_in
        one_node = ap (λ (n : MemNode). n ∷ []) p.node

        state_is : state_of l.size tree heads' bytes' ≡ opened_at (lent_of image l) order.code xid a (on_disk v block)
        unfolding state_of opened_at on_disk
        state_is = rw (one_node, mapped_is image l by_id ed, ei)

        pub open_done : opened_of l.size heads' bytes'
            (Ok (record { root = 0; used = 1; info = info; by_id = by_id; subtype = v.subtype; order = order; xid = xid }))
            ≡ opened_root (lent_of image l) r order.code xid a
        unfolding opened_of read_of
        open_done =
            let w : on_disk v block ≡ on_disk v (lent.block_at (lent_of image l) a) = ap (on_disk v) (eb ∙ block_at_lem image l a) in
            sym (root_is ∙ rw (ex, mapped_is image l by_id ed, h, ← w, state_is))

        pub open_ready : 512 ≤ l.size → 1 ≤ l.slots → l.slots ≤ 4096 → length heads ≡ l.slots * 19 → length bytes ≡ (l.slots + l.slots) *
            (4 * l.size) → length heads' ≡ length heads → length bytes' ≡ length bytes
            → Ready l.size l.slots 1 heads' bytes'
        open_ready least some many words room eh eb' =
            let none : Ready l.size l.slots 0 heads bytes = record {
              least = least;
              most = m;
              many = many;
              words = words;
              room = room;
              within = omega arith;
              lies = λ k q. absurd (omega arith);
            } in
            add_ready l.size l.slots heads bytes heads' bytes' 0 (adopted by_id a (on_disk v block))
            (put_of l.size l.slots heads bytes heads' bytes' 0 (adopted by_id a (on_disk v block)) p) none some eh eb'

-- ---- from 1 on

module _ (image : List ℕ) (l : Lent) (r order xid : ℕ) (heads bytes : List ℕ) (t : Bool) (et : t ≡ sizes_hold (lent_of image l)) where
  pub open_sizes : t ≡ false → opened_of l.size heads bytes (Err is.Lent) ≡ opened (lent_of image l) r order xid
  unfolding opened_of opened
  open_sizes h = sym (rw (← et, h))

  module _ (h : t ≡ true) where
    holds : sizes_hold (lent_of image l) ≡ true
    holds = sym et ∙ h

    split : (is_size l.size ≡ true) × (1 ≤ l.slots) × (l.slots ≤ 4096)
    unfolding sizes_hold lent_of
    split =
        let k : lent.Lent = lent_of image l in
        let a : Bool = is_size l.size in
        let b : Bool = eqb (length image % l.size) 0 in
        let c : Bool = leb 1 (blocks k) in
        let d : Bool = leb (blocks k) (2 ^ 20) in
        let (x, y) = and_split (a && b && c && d && leb 1 l.slots) (leb l.slots 4096) holds in
        let (z, w) = and_split (a && b && c && d) (leb 1 l.slots) x in
        let (u, v) = and_split (a && b && c) d z in
        let (s, p) = and_split (a && b) c u in
        let (q, o) = and_split a b s in
        (q, leb-true 1 l.slots w, leb-true l.slots 4096 y)

    pub open_least : 512 ≤ l.size
    open_least = (size_bounds l.size split.0).0

    pub open_most : l.size ≤ 65536
    open_most = (size_bounds l.size split.0).1

    pub open_some : 1 ≤ l.slots
    open_some = split.1

    pub open_many : l.slots ≤ 4096
    open_many = split.2

    module _ (u : Bool) (eu : u ≡ known order) where
      pub open_order : u ≡ false → opened_of l.size heads bytes (Err is.Lent) ≡ opened (lent_of image l) r order xid
      unfolding opened_of opened
      open_order n = sym (rw (holds, ← eu, n))

      module _ (n : u ≡ true) (f : std.Result ℕ Refusal) (ef : address_at f ≡ address_of (lent_of image l) xid r) where
        opened_is : opened (lent_of image l) r order xid ≡ (address_at f >>= opened_root (lent_of image l) r order xid)
        unfolding opened opened_root
        opened_is = rw (holds, ← eu, n, map_few image l, ← ef)

        pub open_unmapped : (k : Refusal) → f ≡ Err k → opened_of l.size heads bytes (Err k) ≡ opened (lent_of image l) r order xid
        unfolding opened_of address_at
        open_unmapped k g = sym (opened_is ∙ rw g)

        pub open_found : (a : ℕ) (y : Result State) → f ≡ Ok a → y ≡ opened_root (lent_of image l) r order xid a
            → y ≡ opened (lent_of image l) r order xid
        unfolding address_at
        open_found a y g z = sym (opened_is ∙ rw g (sym z))

-- ---- 1 of the workspace

module _ (size slots : ℕ) (heads bytes : List ℕ) (t : Bool) (et : t ≡ room_holds size slots 0 heads bytes) where
  room_split : t ≡ true → (length heads ≡ slots * 19) × (length bytes ≡ (slots + slots) * (4 * size))
  unfolding room_holds
  room_split n =
      let a : Bool = eqb (length heads) (slots * 19) in
      let b : Bool = eqb (length bytes) ((slots + slots) * (4 * size)) in
      let (p, q) = and_split (a && b) (leb 0 slots) (sym et ∙ n) in
      let (u, v) = and_split a b p in
      (eqb-true (length heads) (slots * 19) u, eqb-true (length bytes) ((slots + slots) * (4 * size)) v)

  pub room_words : t ≡ true → length heads ≡ slots * 19
  room_words n = (room_split n).0

  pub room_bytes : t ≡ true → length bytes ≡ (slots + slots) * (4 * size)
  room_bytes n = (room_split n).1

module _ (image : List ℕ) (l : Lent) (r order xid : ℕ) (heads bytes : List ℕ) where
  pub checked_sizes : (t : Bool) → t ≡ sizes_hold (lent_of image l) → t ≡ false → (h b : List ℕ)
      → opened_of l.size h b (Err is.Lent) ≡ opened_in (lent_of image l) heads bytes r order xid
  unfolding opened_of opened_in opened
  checked_sizes t et n h b =
      by_test (workspace_holds (lent_of image l).size (lent_of image l).slots 0 heads bytes)
      (λ u. sym (rw (u, ← et, n)))
      (λ u. sym (rw u))

  module _ (t : Bool) (et : t ≡ room_holds l.size l.slots 0 heads bytes) where
    room_is : workspace_holds (lent_of image l).size (lent_of image l).slots 0 heads bytes ≡ t
    unfolding lent_of workspace_holds slots_hold room_holds
    room_is = by_test t (λ u. rw (← et, u)) (λ u. rw (← et, u))

    pub checked_room : t ≡ false → (h b : List ℕ) → opened_of l.size h b (Err is.Lent) ≡ opened_in (lent_of image l) heads bytes r order xid
    unfolding opened_of opened_in
    checked_room n h b = sym (rw (room_is, n))

    pub checked_open : t ≡ true → (y : Result State) → y ≡ opened (lent_of image l) r order xid
        → y ≡ opened_in (lent_of image l) heads bytes r order xid
    unfolding opened_in
    checked_open n y e = sym (rw (room_is, n) (sym e))

-- a tree that is open is one to be trusted, and leaves a workspace that the next call accepts
pub opened_trusts : (image : List ℕ) (l : Lent) (r order xid : ℕ) (heads bytes : List ℕ) (x : std.Result Tree Refusal) → Bytes image
    → ReadyTree l.size l.slots heads bytes x → opened_of l.size heads bytes x ≡ opened (lent_of image l) r order xid
    → OpenedTrusts image l heads bytes x
unfolding opened_of lent_of
opened_trusts image l r order xid heads bytes (Err k) b y e = tt
opened_trusts image l r order xid heads bytes (Ok t) b y e =
    record {
      ready = y;
      trust = (trusted_open (lent_of image l) r order xid b.below).at _ (sym e);
      roomy = (roomy_open (lent_of image l) r order xid).at _ (sym e);
    }

pub opened_holds : (image : List ℕ) (l : Lent) (heads bytes : List ℕ) (x : std.Result Tree Refusal) → OpenedTrusts image l heads bytes x
    → opened_leaves l.size l.slots heads bytes x
opened_holds image l heads bytes (Err k) c = tt
opened_holds image l heads bytes (Ok t) c = trusts_hold image l t heads bytes c

-- ---- what the code takes of these

pub ruleset opening = (
  node_read,
  node_refused,
  handed_on,
  IfOk-at_ok,
  block_info,
  open_words,
  open_bytes,
  open_refused,
  open_inside,
  open_root,
  open_long,
  open_space,
  open_ready,
)

pub ruleset open_laws = (open_most, open_many, checked_sizes, checked_room, checked_open, room_words, room_bytes, opened_holds)

pub ruleset open_in_laws = (open_sizes, open_least, open_most, open_some, open_many, open_order, open_unmapped, open_found)
