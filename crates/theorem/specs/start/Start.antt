-- A tree that was just opened: its blocks and ids stand once, the walk of its disk is the plain list, and it meets the invariant. Assumes nothing.
use Rattle.std.specs.Prelude.{◌≡◌, refl, [], ◌∷◌, Bool, true, false, ◌&&◌, ℕ, suc, ◌+◌, ◌≤◌, length, leb, eqb}
use Rattle.std.proofs.Math.Path.{sym, ap}
use Rattle.std.proofs.Common.{◌∙◌, eqb-true}
use Rattle.std.proofs.Math.Nat.{le_refl}
use native.Mathlib.Omega.{arith}
use Rattle.seal.specs.Bytes.{u16_at}
use Rattle.node.specs.Result.{Result, ok, refused}
use Rattle.node.specs.laws.base.Results.{bind_ok}
use Rattle.node.specs.Order.{known}
use Rattle.node.specs.Read.{OnDisk, on_disk, parsed, info_at}
use Rattle.node.specs.Slot.{MemNode}
use Rattle.node.specs.laws.base.Tests.{never, and_split, and_left, and_right}
use Rattle.node.specs.declared.info.BTreeInfo.{BTreeInfo}
use Rattle.tree.specs.Lent.{Lent, sizes_hold, block_at}
use Rattle.tree.specs.Load.{unbounded, load_block, root_place, root_holds, address_of, adopted}
use Rattle.tree.specs.State.{node_at}
use Rattle.tree.specs.laws.trust.Open.{Opens, open_opens}
use Rattle.history.specs.Walk.{Disk, moved_to, resolve, Walk, Walked, walk_below, walk_from, counts_hold, map_formed, well_formed}
use Rattle.history.specs.Walk.{blocks_of, ids_of, visits_of, list_of}
use Rattle.history.specs.Statement.{Start, uses, tree_blocks, old_ids, Begins}
use Rattle.theorem.specs.model.Bounds.{Terms, K, Items}
use Rattle.theorem.specs.model.Lazy.{total}
use Rattle.theorem.specs.model.Seen.{Seen, seen, rd}
use Rattle.theorem.specs.model.Good.{Suits, Good}
use Rattle.theorem.specs.model.Ranks.{top}
use Rattle.theorem.specs.disk.Read.{Sound}
use Rattle.theorem.specs.disk.Seen.{seen_sound, root_sound}
use Rattle.theorem.specs.disk.ReadBounds.{KeyBelow, Lowest, Highest, keys_free, rise_items}
use Rattle.theorem.specs.disk.WalkSound.{Sure, walk_sound}
use Rattle.theorem.specs.start.BlocksOnce.{total_once, homes_once}
use Rattle.theorem.specs.start.OneSlot.{First, first_of, slots_some, good_from}

-- ---- the walk from a root that open read

-- no id was moved: the map's answer
resolve_unmoved : (x : Disk) (r : ℕ) → x.moved ≡ [] → resolve x r ≡ address_of x.lent x.xid r
unfolding resolve moved_to
resolve_unmoved x r m = rw (m, moved_to)

-- a walk that is accepted, in parts
walk_parts : (x : Disk) (r a : ℕ) (d : OnDisk) (y : Walked) → resolve x r ≡ ok a → load_block x.lent x.order (root_place r) unbounded a ≡ ok d
    → root_holds x.lent a (leb 1 (length x.lent.map)) d ≡ true → walk_from x r ≡ ok y
    → (w : Walk) × (walk_below d.node.level x (info_at (block_at x.lent a)) unbounded d ≡ ok w)
    × (y ≡ record {
      walk = record { nodes = record { block = a; id = d.node.oid } ∷ w.nodes; entries = w.entries };
      info = info_at (block_at x.lent a);
    })
unfolding walk_from
walk_parts x r a d y p q h e =
    let (w, u, z) = bind_ok (walk_below d.node.level x (info_at (block_at x.lent a)) unbounded d) _ y (rw (p, q, h) at e) in
    (w, u, cc)

-- stored counts that hold are those of a walk
counts_parts : (z : Result Walked) → counts_hold z ≡ true
    → (y : Walked) × (z ≡ ok y) × (y.info.key_count ≡ length y.walk.entries) × (y.info.node_count ≡ length y.walk.nodes)
unfolding counts_hold
counts_parts (refused n) h = never h refl
counts_parts (ok y) h =
    let (p, q) = and_split (eqb y.info.key_count (length y.walk.entries)) (eqb y.info.node_count (length y.walk.nodes)) h in
    (y, refl, eqb-true _ _ p, eqb-true _ _ q)

formed_counts : (x : Disk) (r : ℕ) → well_formed x r ≡ true → counts_hold (walk_from x r) ≡ true
unfolding well_formed
formed_counts x r h =
    and_right (sizes_hold x.lent && known x.order && leb (length x.lent.map) 1) (counts_hold (walk_from x r))
    (and_left (sizes_hold x.lent && known x.order && leb (length x.lent.map) 1 && counts_hold (walk_from x r)) (map_formed x x.lent.map) h)

-- ---- the tree on disk, and the invariant

module _ (g : Start) (τ : Terms) (begins : Begins g) (suits : Suits g τ) where
  opens : Opens g.disk.lent g.root g.disk.order g.disk.xid g.state
  opens = open_opens g.disk.lent g.root g.disk.order g.disk.xid g.state begins.opens

  abbrev a : ℕ
  a = opens.address

  abbrev d : OnDisk
  d = opens.found

  abbrev v : Bool
  v = g.state.virtual

  abbrev t : BTreeInfo
  t = info_at (block_at g.disk.lent a)

  first : First g a d
  first = first_of g a d opens.state

  resolved : resolve g.disk g.root ≡ ok a
  resolved = resolve_unmoved g.disk g.root begins.unmoved ∙ opens.at

  ord : g.disk.order ≡ τ.order
  ord = sym suits.order

  ks : t.key_size ≡ τ.ksize
  ks = ap (λ (z : BTreeInfo). z.key_size) (sym first.info) ∙ sym suits.ksize

  vs : t.val_size ≡ τ.vsize
  vs = ap (λ (z : BTreeInfo). z.val_size) (sym first.info) ∙ sym suits.vsize

  sizes : sizes_hold g.disk.lent ≡ true
  sizes =
      let l : Lent = g.disk.lent in
      and_left (sizes_hold l) (known g.disk.order) (and_left (sizes_hold l && known g.disk.order) (leb (length l.map) 1) opens.sizes)

  facts : Sound τ true g.root d
  facts = root_sound g.disk τ g.root a d ord begins.bytes sizes suits.most ks vs opens.reads

  sound : (r : ℕ) (y : Seen) → seen g.disk τ r ≡ ok y → Sound τ false r y.node
  sound r y e = seen_sound g.disk τ r y ord begins.bytes sizes suits.most e

  stored_level : u16_at (block_at g.disk.lent a) 34 ≡ d.node.level
  unfolding parsed on_disk
  stored_level = sym (ap (λ (z : OnDisk). z.node.level) opens.passes.read)

  -- the walk from the root
  record Walks : Type 0 where
    w : Walk
    below : walk_below d.node.level g.disk t unbounded d ≡ ok w
    from : walk_from g.disk g.root ≡ ok
        (record { walk = record { nodes = record { block = a; id = d.node.oid } ∷ w.nodes; entries = w.entries }; info = t })
    keys : t.key_count ≡ length w.entries
    nodes : t.node_count ≡ suc (length w.nodes)

  walks : Walks
  walks =
      let (y, e, kc, nc) = counts_parts (walk_from g.disk g.root) (formed_counts g.disk g.root begins.formed) in
      let (w, u, is) = walk_parts g.disk g.root a d y resolved opens.reads opens.rooted e in
      record { w = w; below = u; from = e ∙ ap ok is; keys = rw is at kc; nodes = rw is at nc }

  abbrev w : Walk
  w = walks.w

  root_lowest : Lowest τ unbounded.lower
  unfolding unbounded
  root_lowest = record { keyed = λ z. absurd (omega arith) }

  root_highest : Highest τ unbounded.upper (top τ)
  unfolding unbounded
  root_highest = record { one = omega arith; keyed = λ z. absurd (omega arith); none = λ z. le_refl _ }

  root_keys : Items (K τ) (KeyBelow τ) 0 (top τ) d.entries
  root_keys = rise_items τ 0 (top τ) d.entries (omega arith) (keys_free τ d.entries facts.keys) facts.rise

  -- the tree on disk, whatever the slots hold
  sure : (at : ℕ → MemNode) → Sure τ g.disk v at t ord ks vs d.node.level 0 (top τ) (adopted v a d) w
  sure at = (walk_sound τ g.disk v at t ord ks vs sound d.node.level unbounded a g.root true d 0 (top τ)
      root_lowest root_highest refl facts root_keys).at w walks.below

  list_is : list_of (walk_from g.disk g.root) ≡ w.entries
  unfolding list_of
  list_is = ap list_of walks.from

  blocks_are : (b : ℕ) → uses b (tree_blocks g) ≡ uses b (a ∷ []) + uses b (blocks_of w.nodes)
  unfolding tree_blocks visits_of blocks_of uses
  blocks_are b = ap (λ (z : Result Walked). uses b (blocks_of (visits_of z))) walks.from ∙ omega arith

  ids_are : (i : ℕ) → uses i (old_ids g) ≡ uses i (d.node.oid ∷ []) + uses i (ids_of w.nodes)
  unfolding old_ids visits_of ids_of uses
  ids_are i = ap (λ (z : Result Walked). uses i (ids_of (visits_of z))) walks.from ∙ omega arith

  tree_total : (at : ℕ → MemNode) (b : ℕ)
      → total (rd g.disk τ v) at (λ m. uses b m.block) d.node.level (adopted v a d) ≡ uses b (tree_blocks g)
  unfolding adopted
  tree_total at b = sym ((sure at).walked.blocks b) ∙ sym (blocks_are b)

  -- no block stands twice in the tree
  pub blocks_once : (b : ℕ) → uses b (tree_blocks g) ≤ 1
  blocks_once b =
      let at : ℕ → MemNode = node_at g.state in
      let h = total_once τ g.disk v at sound d.node.level 0 (top τ) a d stored_level facts.kids (sure at).tree b in
      omega (arith, h, tree_total at b)

  -- and no id
  pub ids_once : (i : ℕ) → uses i (old_ids g) ≤ 1
  unfolding ids_of blocks_of uses
  ids_once i =
      let home : resolve g.disk d.node.oid ≡ ok a = ap (resolve g.disk) facts.oid ∙ resolved in
      let h : (b : ℕ) → uses b (blocks_of (record { block = a; id = d.node.oid } ∷ w.nodes)) ≤ 1 =
      λ b. omega (arith, blocks_once b, blocks_are b) in
      let k = homes_once g.disk (record { block = a; id = d.node.oid } ∷ w.nodes) (home, (sure (node_at g.state)).homes) h i in
      omega (arith, k, ids_are i)

  -- a tree just opened meets the invariant
  pub good_open : Good g τ [] g.state (list_of (walk_from g.disk g.root))
  good_open =
      good_from g τ a d first facts resolved opens.reads t ord ks vs (top τ) w (sure (node_at g.state)) list_is
      (ap (λ (z : BTreeInfo). z.key_count) first.info ∙ walks.keys) (ap (λ (z : BTreeInfo). z.node_count) first.info ∙ walks.nodes)
      blocks_are ids_are begins.bytes (slots_some g.disk.lent sizes)
