-- The invariant of demand 3: what is so of a tree after any list of accepted calls, by the disk as it was opened, the plain list and the blocks
-- passed through.
use Rattle.std.specs.Prelude.{◌≡◌, List, [], ◌∷◌, true, false, cond, ◌||◌, ℕ, ◌+◌, ◌≤◌, ◌<◌, ◌^◌, length, eqb}
use Rattle.node.specs.Result.{ok}
use Rattle.node.specs.Entry.{Entry, Val, ghost, leaf, disk, mem}
use Rattle.node.specs.Fit.{fits}
use Rattle.node.specs.Read.{OnDisk}
use Rattle.node.specs.Slot.{MemNode}
use Rattle.node.specs.declared.info.BTreeInfo.{BTreeInfo}
use Rattle.tree.specs.Load.{unbounded, load_block, root_place}
use Rattle.tree.specs.State.{State, node_at}
use Rattle.flush.specs.Flush.{dead_blocks}
use Rattle.history.specs.Walk.{resolve}
use Rattle.history.specs.Statement.{Start, uses, tree_blocks, old_blocks, old_ids}
use Rattle.theorem.specs.model.Bounds.{Terms}
use Rattle.theorem.specs.model.Lazy.{cont, total, names, slots, Ok}
use Rattle.theorem.specs.model.Seen.{seen, rd}

-- ---- a clean slot is the node that its block holds

-- a value in a slot and the value on disk: a child in a slot goes by its id; in a physical tree by its block, and it is clean too
abbrev pub Refers : State → Val → Val → Type 0
Refers s ghost w = w ≡ ghost
Refers s (leaf v) w = w ≡ leaf v
Refers s (disk r) w = w ≡ disk r
Refers s (mem c) w =
    (r : ℕ) × (w ≡ disk r) × (s.virtual ≡ true → (node_at s c).id ≡ r ∷ []) × (s.virtual ≡ false → (node_at s c).block ≡ r ∷ [])
    × (s.virtual ≡ false → (node_at s c).dirty ≡ false)

abbrev pub Refer : State → List Entry → List Entry → Type 0
Refer s [] [] = Unit {0}
Refer s [] (d ∷ ds) = ⊥
Refer s (e ∷ es) [] = ⊥
Refer s (e ∷ es) (d ∷ ds) = (e.key ≡ d.key) × Refers s e.value d.value × Refer s es ds

pub record Clean (g : Start) (τ : Terms) (s : State) (c : ℕ) : Type 0 where
  pub address : ℕ
  pub found : OnDisk
  pub block : (node_at s c).block ≡ address ∷ []
  pub id : (node_at s c).id ≡ cond s.virtual (found.node.oid ∷ []) []
  pub level : (node_at s c).level ≡ found.node.level
  pub entries : Refer s (node_at s c).entries found.entries
  -- the root by its own place, every other as a child
  pub as_root : c ≡ s.root → (resolve g.disk g.root ≡ ok address)
      × (load_block g.disk.lent g.disk.order (root_place g.root) unbounded address ≡ ok found)
  pub as_child : (c ≡ s.root → ⊥) → seen g.disk τ found.node.oid ≡ ok (record { block = address; node = found })

-- ---- a slot in use that is not dead

pub record Slot (g : Start) (τ : Terms) (s : State) (c : ℕ) : Type 0 where
  pub deep : (node_at s c).level ≤ 32
  -- only a root that is a leaf may be empty
  pub filled : 0 < length (node_at s c).entries + cond (eqb c s.root) (cond (eqb (node_at s c).level 0) 1 0) 0
  pub one_block : length (node_at s c).block ≤ 1
  pub one_id : length (node_at s c).id ≤ 1
  pub fit : (node_at s c).dirty ≡ true → fits s.info (eqb c s.root) (node_at s c).level (node_at s c).entries ≡ true
  pub clean : (node_at s c).dirty ≡ false → Clean g τ s c

-- ---- the tree's numbers

-- what an edit leaves of them
pub record Kept (t t₀ : BTreeInfo) : Type 0 where
  pub flags : t.flags ≡ t₀.flags
  pub node : t.node_size ≡ t₀.node_size
  pub key : t.key_size ≡ t₀.key_size
  pub val : t.val_size ≡ t₀.val_size
  pub longest_key : t.longest_key < 2 ^ 32
  pub longest_val : t.longest_val < 2 ^ 32
  pub key_count : t.key_count < 2 ^ 64
  pub node_count : t.node_count < 2 ^ 64

-- ---- the slots, each by itself

pub record Flat (g : Start) (τ : Terms) (through : List ℕ) (s : State) : Type 0 where
  pub few : length s.nodes ≤ g.disk.lent.slots
  pub each : (c : ℕ) → c < length s.nodes → (node_at s c).dead ≡ false → Slot g τ s c
  -- a dirty slot: the root is dirty
  pub dirt : (c : ℕ) → (node_at s c).dirty ≡ true → (node_at s s.root).dirty ≡ true
  -- what flush would free, an edit passed through
  pub touched : (c : ℕ) → c < length s.nodes → ((node_at s c).dirty || (node_at s c).dead) ≡ true → (a : ℕ) → 1 ≤ uses a (node_at s c).block
      → 1 ≤ uses a through

-- ---- the invariant

-- the node under a reference, by the disk as it was opened
abbrev pub found : Start → Terms → ℕ → MemNode
found g τ = rd g.disk τ g.state.virtual

-- the blocks on which every call's image agrees with the first
abbrev pub Old : Start → ℕ → Type 0
Old g a = 1 ≤ uses a (old_blocks g)

-- the terms of a history: the tree's order and fixed lengths, and room for every key that a node can hold
pub record Suits (g : Start) (τ : Terms) : Type 0 where
  pub order : τ.order ≡ g.disk.order
  pub ksize : τ.ksize ≡ g.state.info.key_size
  pub vsize : τ.vsize ≡ g.state.info.val_size
  pub most : 65536 ≤ τ.most

pub record Good (g : Start) (τ : Terms) (through : List ℕ) (s : State) (es : List Entry) : Type 0 where
  -- what never changes
  pub order : s.order ≡ g.disk.order
  pub virtual : s.virtual ≡ g.state.virtual
  pub xid : s.xid ≡ g.disk.xid
  pub subtype : s.subtype ≡ g.state.subtype
  pub info : Kept s.info g.state.info
  -- the tree: keys rise within bounds at every level, and its leaves hold the plain list
  pub level : ℕ
  pub lo : ℕ
  pub hi : ℕ
  pub tree : Ok τ (found g τ) (node_at s) level lo hi (node_at s s.root)
  pub holds : cont (found g τ) (node_at s) level (node_at s s.root) ≡ es
  pub key_count : s.info.key_count ≡ length es
  pub node_count : s.info.node_count ≡ total (found g τ) (node_at s) (λ m. 1) level (node_at s s.root)
  -- the slots: one that is not dead stands once in the tree, a dead one nowhere
  pub once : (c : ℕ) → c < length s.nodes → names c (mem s.root) + slots (found g τ) (node_at s) level c (node_at s s.root) ≡ cond
      (node_at s c).dead 0 1
  pub out : (c : ℕ) → length s.nodes ≤ c → names c (mem s.root) + slots (found g τ) (node_at s) level c (node_at s s.root) ≡ 0
  pub flat : Flat g τ through s
  -- the books: every old block is that of one node of the tree, loaded or not, or of one dead slot; ids are old ones, each once
  pub blocks : (a : ℕ) → total (found g τ) (node_at s) (λ m. uses a m.block) level (node_at s s.root) + uses a (dead_blocks s.nodes) ≡ uses a
      (tree_blocks g)
  pub ids : s.virtual ≡ true → (i : ℕ) → total (found g τ) (node_at s) (λ m. uses i m.id) level (node_at s s.root) ≤ uses i (old_ids g)
  pub root_id : s.virtual ≡ true → (node_at s s.root).id ≡ g.root ∷ []
  -- a clean root: nothing changed
  pub still : (node_at s s.root).dirty ≡ false → s.info ≡ g.state.info
