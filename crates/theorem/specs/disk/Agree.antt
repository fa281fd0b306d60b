-- What a call is lent reads as the disk that was opened: for references in the tree, whose blocks are old. Assumes nothing.
use Rattle.std.specs.Prelude.{◌≡◌, refl, Bool, true, false, ◌&&◌, ℕ, suc, ◌+◌, ◌≤◌, length, leb}
use Rattle.std.proofs.Common.{sym, subst, ◌∙◌, arith, eq-eqb}
use Rattle.std.proofs.Math.Path.{ap}
use mathlib.Core.List.{List, [], ◌∷◌, ◌++◌}
use Rattle.seal.specs.Bytes.{u16_at}
use Rattle.node.specs.Result.{ok}
use Rattle.node.specs.Order.{known}
use Rattle.node.specs.Read.{OnDisk, info_at}
use Rattle.node.specs.Slot.{MemNode}
use Rattle.node.specs.laws.base.Tests.{and_split}
use Rattle.node.specs.declared.info.BTreeInfo.{BTreeInfo}
use Rattle.node.specs.Place.{Place}
use Rattle.tree.specs.Lent.{Lent, sizes_hold, block_at, in_image}
use Rattle.tree.specs.State.{State}
use Rattle.tree.specs.Load.{Bounds, unbounded, load_block, root_place, child_place, address_of, adopted}
use Rattle.tree.specs.Lookup.{opened_at}
use Rattle.tree.specs.laws.trust.Open.{Opens, open_opens}
use Rattle.history.specs.Walk.{Disk, moved_to, resolve, walk_from, counts_hold, map_formed, well_formed, map_blocks}
use Rattle.history.specs.Statement.{uses, Start, tree_blocks, old_blocks, Begins, Lends}
use Rattle.theorem.specs.model.Bounds.{Terms}
use Rattle.theorem.specs.model.Lazy.{Ok, ok_live}
use Rattle.theorem.specs.model.Seen.{Seen, seen}
use Rattle.theorem.specs.model.Good.{found, Old, Suits}
use Rattle.theorem.specs.steps.Way.{Still, Reads}
use Rattle.theorem.specs.disk.Read.{Sound}
use Rattle.theorem.specs.disk.Seen.{seen_sound, root_sound, load_read, seen_parts, seen_of, load_seen, seen_live, rd_is, bare}
use Rattle.theorem.specs.disk.MapSame.{Longer, load_same, map_same}

-- ---- a tree that is well formed, in parts

pub record Formed (g : Start) : Type 0 where
  pub sizes : sizes_hold g.disk.lent ≡ true
  pub order : known g.disk.order ≡ true
  pub maps : leb (length g.disk.lent.map) 1 ≡ true
  pub counts : counts_hold (walk_from g.disk g.root) ≡ true
  pub map : map_formed g.disk g.disk.lent.map ≡ true

pub formed_parts : (g : Start) → Begins g → Formed g
unfolding well_formed
formed_parts g b =
    let x : Disk = g.disk in
    let one : Bool = leb (length x.lent.map) 1 in
    let count : Bool = counts_hold (walk_from x g.root) in
    let (a, m) = and_split (sizes_hold x.lent && known x.order && one && count) (map_formed x x.lent.map) b.formed in
    let (c, w) = and_split (sizes_hold x.lent && known x.order && one) count a in
    let (d, n) = and_split (sizes_hold x.lent && known x.order) one c in
    let (s, o) = and_split (sizes_hold x.lent) (known x.order) d in
    record { sizes = s; order = o; maps = n; counts = w; map = m }

-- ---- an image of the same size and map that is no shorter and agrees with the first on the old blocks

pub record Follows (g : Start) (l : Lent) : Type 0 where
  pub size : l.size ≡ g.disk.lent.size
  pub map : l.map ≡ g.disk.lent.map
  pub no_shorter : length g.disk.lent.image ≤ length l.image
  pub agrees : (a : ℕ) → Old g a → block_at l a ≡ block_at g.disk.lent a

pub lends_follows : (g : Start) (l : Lent) → Lends g l → Follows g l
lends_follows g l h = record { size = h.same_size; map = h.same_map; no_shorter = h.no_shorter; agrees = h.agrees }

follows_longer : (g : Start) (l : Lent) → Follows g l → Longer g.disk.lent l
follows_longer g l h = record { size = h.size; image = h.no_shorter }

pub uses_append : (a : ℕ) (xs ys : List ℕ) → uses a (xs ++ ys) ≡ uses a xs + uses a ys
unfolding uses
uses_append a [] ys = omega arith
uses_append a (x ∷ xs) ys = omega (arith, uses_append a xs ys)

pub uses_one : (a : ℕ) → uses a (a ∷ []) ≡ 1
unfolding uses
uses_one a = rw (eq-eqb a a refl)

-- a map's blocks are old
map_old : (g : Start) (a : ℕ) → 1 ≤ uses a (map_blocks g.disk g.disk.lent.map) → Old g a
unfolding old_blocks
map_old g a h = omega (arith, uses_append a (tree_blocks g) (map_blocks g.disk g.disk.lent.map))

pub tree_old : (g : Start) (a : ℕ) → 1 ≤ uses a (tree_blocks g) → Old g a
unfolding old_blocks
tree_old g a h = omega (arith, uses_append a (tree_blocks g) (map_blocks g.disk g.disk.lent.map))

pub address_follows : (g : Start) (l : Lent) → Begins g → Follows g l → (xid r : ℕ) → address_of l xid r ≡ address_of g.disk.lent xid r
address_follows g l b h = map_same g.disk l h.map (formed_parts g b).map (follows_longer g l h) (λ a u. h.agrees a (map_old g a u))

-- what was read of an old block is read again
pub load_follows : (g : Start) (l : Lent) (o : ℕ) (p : Place) (bs : Bounds) (a : ℕ) (d : OnDisk) → Follows g l → Old g a
    → load_block g.disk.lent o p bs a ≡ ok d → load_block l o p bs a ≡ ok d
load_follows g l o p bs a d h old e = load_same g.disk.lent l o p bs a d (follows_longer g l h) (h.agrees a old) e

-- ---- the disk after a flush

pub resolve_unmoved : (x : Disk) (r : ℕ) → moved_to x.moved r ≡ [] → resolve x r ≡ address_of x.lent x.xid r
unfolding resolve
resolve_unmoved x r e = rw e

pub resolve_start : (g : Start) (r : ℕ) → Begins g → resolve g.disk r ≡ address_of g.disk.lent g.disk.xid r
unfolding moved_to
resolve_start g r b = resolve_unmoved g.disk r (ap (λ (z : List (ℕ × ℕ)). moved_to z r) b.unmoved)

pub resolve_same : (g : Start) (x : Disk) (r : ℕ) → Begins g → Follows g x.lent → x.xid ≡ g.disk.xid → moved_to x.moved r ≡ []
    → resolve x r ≡ resolve g.disk r
resolve_same g x r b h q m =
    resolve_unmoved x r m ∙ ap (λ (z : ℕ). address_of x.lent z r) q ∙ address_follows g x.lent b h g.disk.xid r ∙ sym (resolve_start g r b)

-- a node of an old block that was not moved is read as it was
pub seen_same : (g : Start) (τ : Terms) (x : Disk) (r : ℕ) (y : Seen) → Begins g → Follows g x.lent → x.order ≡ g.disk.order
    → x.xid ≡ g.disk.xid → moved_to x.moved r ≡ []
    → seen g.disk τ r ≡ ok y → Old g y.block → seen x τ r ≡ ok y
seen_same g τ x r y b h o q m e old =
    let (rv, ld) = seen_parts g.disk τ r y e in
    let s : block_at x.lent y.block ≡ block_at g.disk.lent y.block = h.agrees y.block old in
    let p : ℕ → Place = λ k. child_place τ.ksize τ.vsize unbounded (suc k) r in
    let ld' : load_block x.lent g.disk.order (p (u16_at (block_at g.disk.lent y.block) 34)) unbounded y.block ≡ ok y.node =
    load_follows g x.lent g.disk.order (p (u16_at (block_at g.disk.lent y.block) 34)) unbounded y.block y.node h old ld in
    seen_of x τ r y.block y.node (resolve_same g x r b h q m ∙ rv)
    (ap (λ (z : ℕ). load_block x.lent z (p (u16_at (block_at x.lent y.block) 34)) unbounded y.block) o
    ∙ ap (λ (z : List ℕ). load_block x.lent g.disk.order (p (u16_at z 34)) unbounded y.block) s ∙ ld')

-- ---- the first disk's nodes

pub start_sound : (g : Start) (τ : Terms) → Begins g → Suits g τ → (r : ℕ) (y : Seen) → seen g.disk τ r ≡ ok y → Sound τ false r y.node
start_sound g τ b u r y e = seen_sound g.disk τ r y (sym u.order) b.bytes (formed_parts g b).sizes u.most e

-- the root, with the lengths that it stores itself
pub start_root : (g : Start) (τ : Terms) → Begins g → Suits g τ → (a : ℕ) (d : OnDisk) → resolve g.disk g.root ≡ ok a
    → load_block g.disk.lent g.disk.order (root_place g.root) unbounded a ≡ ok d
    → Sound τ true g.root d × (g.state.info ≡ info_at (block_at g.disk.lent a))
unfolding opened_at
start_root g τ b u a d rv ld =
    let o : Opens g.disk.lent g.root g.disk.order g.disk.xid g.state =
    open_opens g.disk.lent g.root g.disk.order g.disk.xid g.state b.opens in
    let p : ok o.address ≡ ok a = sym o.at ∙ sym (resolve_start g g.root b) ∙ rv in
    let q : o.address ≡ a = cc in
    let i : g.state.info ≡ info_at (block_at g.disk.lent a) =
    ap (λ (s : State). s.info) o.state ∙ ap (λ (z : ℕ). info_at (block_at g.disk.lent z)) q in (
      root_sound g.disk τ g.root a d (sym u.order) b.bytes (formed_parts g b).sizes u.most
          (ap (λ (t : BTreeInfo). t.key_size) (sym i) ∙ sym u.ksize) (ap (λ (t : BTreeInfo). t.val_size) (sym i) ∙ sym u.vsize) ld,
      i,
    )

-- ---- loads of what is lent

-- a load of a reference whose node stands in the tree brings that node
pub lent_seen : (g : Start) (τ : Terms) (l : Lent) (o xid ks vs level r a : ℕ) (bs : Bounds) (d : OnDisk) (y : Seen) → Begins g → Follows g l
    → o ≡ g.disk.order → xid ≡ g.disk.xid → ks ≡ τ.ksize → vs ≡ τ.vsize → seen g.disk τ r ≡ ok y → Old g y.block
    → address_of l xid r ≡ ok a → load_block l o (child_place ks vs bs level r) bs a ≡ ok d → y ≡ record { block = a; node = d }
unfolding load_block
lent_seen g τ l o xid ks vs level r a bs d y b h eo ex ek ev e old rv ld =
    let l₀ : Lent = g.disk.lent in
    let (rv₀, ld₀) = seen_parts g.disk τ r y e in
    let at : resolve g.disk r ≡ ok a =
    resolve_start g r b ∙ sym (address_follows g l b h g.disk.xid r) ∙ ap (λ (z : ℕ). address_of l z r) (sym ex) ∙ rv in
    let q : y.block ≡ a = cc in
    let (im, rn) = load_read l o (child_place ks vs bs level r) bs a d ld in
    let im₀ : in_image l₀ a ≡ true =
    subst (λ (z : ℕ). in_image l₀ z ≡ true) q (load_read l₀ g.disk.order _ unbounded y.block y.node ld₀).0 in
    let same : block_at l a ≡ block_at l₀ a = h.agrees a (subst (Old g) q old) in
    let ld₁ : load_block l₀ g.disk.order (child_place ks vs bs level r) bs a ≡ ok d = rw (im₀, ← same, ← eo) rn in
    let z : seen g.disk τ r ≡ ok (record { block = a; node = d }) = load_seen g.disk τ ks vs level r a bs d ek ev at ld₁ in
    cc

module _ (g : Start) (τ : Terms) (l : Lent) (b : Begins g) (u : Suits g τ) (h : Lends g l) where
  -- a reference whose node can stand in a tree, and whose block is old
  old_seen : (at : ℕ → MemNode) (r j lo hi : ℕ) → Ok τ (found g τ) at j lo hi (found g τ r) → ((a : ℕ) → 1 ≤ uses a (found g τ r).block → Old g a)
      → (y : Seen) × (seen g.disk τ r ≡ ok y) × Old g y.block
  unfolding adopted
  old_seen at r j lo hi okr old =
      let (y, e) = seen_live g.disk τ g.state.virtual r (ok_live τ (found g τ) at j lo hi (found g τ r) okr) in
      let q : (found g τ r).block ≡ y.block ∷ [] = ap (λ (m : MemNode). m.block) (rd_is g.disk τ g.state.virtual r y e) in
      (y, e, old y.block (omega (arith, ap (uses y.block) q, uses_one y.block)))

  module _ (s₀ : State) (ex : s₀.xid ≡ g.disk.xid) (eo : s₀.order ≡ g.disk.order) (ev : s₀.virtual ≡ g.state.virtual)
      (ek : s₀.info.key_size ≡ g.state.info.key_size) (el : s₀.info.val_size ≡ g.state.info.val_size) where
    -- what a load brings is the node under the reference
    pub reads_seen : (s : State) (bs : Bounds) (level r a : ℕ) (d : OnDisk) → Still s₀ s → (at : ℕ → MemNode) (j lo hi : ℕ)
        → Ok τ (found g τ) at j lo hi (found g τ r)
        → ((c : ℕ) → 1 ≤ uses c (found g τ r).block → Old g c) → address_of l s.xid r ≡ ok a
        → load_block l s.order (child_place s.info.key_size s.info.val_size bs level r) bs a ≡ ok d
        → seen g.disk τ r ≡ ok (record { block = a; node = d })
    reads_seen s bs level r a d st at j lo hi okr old rv ld =
        let (y, e, k) = old_seen at r j lo hi okr old in
        let ks : s.info.key_size ≡ τ.ksize = ap (λ (z : BTreeInfo). z.key_size) st.info ∙ ek ∙ sym u.ksize in
        let vs : s.info.val_size ≡ τ.vsize = ap (λ (z : BTreeInfo). z.val_size) st.info ∙ el ∙ sym u.vsize in
        e ∙ ap ok (lent_seen g τ l s.order s.xid s.info.key_size s.info.val_size level r a bs d y b
        (lends_follows g l h) (st.order ∙ eo) (st.xid ∙ ex) ks vs e k rv ld)

    pub reads : Reads τ (found g τ) l (Old g) s₀
    reads =
        record {
          same = λ s bs level r a d st at j lo hi okr old rv ld.
              rd_is g.disk τ g.state.virtual r (record { block = a; node = d }) (reads_seen s bs level r a d st at j lo hi okr old rv ld)
              ∙ ap (λ (z : Bool). adopted z a d) (sym (st.virtual ∙ ev));
          bare = λ at r j d. bare g.disk τ g.state.virtual at j d r;
        }
