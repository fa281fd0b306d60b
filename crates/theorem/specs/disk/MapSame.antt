-- An object map that is well formed is looked up alike in every image that agrees on its blocks. Assumes nothing.
use Rattle.std.specs.Prelude.{◌≡◌, List, [], ◌∷◌, true, cond, ◌&&◌, leb, eqb}
use Rattle.std.proofs.Math.Path.{refl, subst}
use Rattle.std.proofs.Common.{sym, ap, ◌∙◌, le_refl, le_trans, div-mul-le_self, le-div_iff_mul-le, arith, ltb-true, lt-ltb, eqb-true, eq-eqb}
use Prim.Native.Nat.{ℕ, zero, suc, ◌+◌, ◌-◌, ◌/◌, ◌≤◌, ◌<◌}
use Rattle.std.proofs.Math.Nat.{div-zero}
use Rattle.std.proofs.Math.ListN.{length}
use Rattle.std.proofs.lemmas.Bool.{eqb-false}
use Rattle.node.specs.Result.{Result, ok, refused}
use Rattle.node.specs.laws.base.Results.{Holds, holds_ok, holds_bind, holds_check}
use Rattle.node.specs.Refusals as refusal
use Rattle.node.specs.Order.{pair, pair_key}
use Rattle.node.specs.Find.{val_at, way_index}
use Rattle.node.specs.laws.order.Found.{way_in}
use Rattle.node.specs.Read.{OnDisk, info_at}
use Rattle.node.specs.laws.base.Tests.{by_test, never, and_split, and_right}
use Rattle.node.specs.declared.info.BTreeInfo.{BTreeInfo}
use Rattle.node.specs.Place.{Place}
use Rattle.tree.specs.Lent.{Lent, blocks, block_at, in_image}
use Rattle.tree.specs.Load.{Bounds, unbounded, child_bounds, load_block, root_place, child_place, disk_number, root_holds, map_child, map_last, map_floor}
use Rattle.tree.specs.Load.{map_root_holds, map_address, address_of}
use Rattle.history.specs.Walk.{Disk, moved_to, resolve, Visit, Walk, joined, walk_kids, walk_below, Walked, walk_from, counts_hold, map_disk, lengths_are16}
use Rattle.history.specs.Walk.{map_formed, blocks_of, visits_of, map_blocks}
use Rattle.history.specs.Statement.{uses}
use Rattle.theorem.specs.disk.Walk.{blocks_append}
use Rattle.theorem.specs.disk.Read.{read_filled}
use Rattle.theorem.specs.disk.Seen.{load_read, load_level}

-- ---- images of one size, one of them no shorter

pub record Longer (l₀ l : Lent) : Type 0 where
  pub size : l.size ≡ l₀.size
  pub image : length l₀.image ≤ length l.image

pub longer_same : (l : Lent) → Longer l l
longer_same l = record { size = refl; image = le_refl _ }

div_more : (a b n : ℕ) → a ≤ b → a / n ≤ b / n
div_more a b zero h = omega (arith, div-zero a)
div_more a b (suc n) h = (le-div_iff_mul-le {k = suc n} {x = a / suc n} (omega arith)).1 (le_trans (div-mul-le_self a (suc n)) h)

pub longer_in : (l₀ l : Lent) (a : ℕ) → Longer l₀ l → in_image l₀ a ≡ true → in_image l a ≡ true
unfolding in_image blocks
longer_in l₀ l a h e =
    let y : length l.image / l.size ≡ length l.image / l₀.size = ap (λ (n : ℕ). length l.image / n) h.size in
    let z : length l₀.image / l₀.size ≤ length l.image / l₀.size = div_more (length l₀.image) (length l.image) l₀.size h.image in
    lt-ltb a (length l.image / l.size) (omega (arith, ltb-true a (length l₀.image / l₀.size) e, y, z))

-- what was read is read again where the block is the same
pub load_same : (l₀ l : Lent) (o : ℕ) (p : Place) (bs : Bounds) (a : ℕ) (d : OnDisk) → Longer l₀ l → block_at l a ≡ block_at l₀ a
    → load_block l₀ o p bs a ≡ ok d → load_block l o p bs a ≡ ok d
unfolding load_block
load_same l₀ l o p bs a d h q e =
    let (im, rn) = load_read l₀ o p bs a d e in
    rw (longer_in l₀ l a h im, q) rn

-- ---- the children of an accepted walk

module _ (f : Bounds → OnDisk → Result Walk) (x : Disk) (t : BTreeInfo) (bs : Bounds) (d : OnDisk) where
  -- the load of child j at an address
  abbrev pub kid_load : ℕ → ℕ → Result OnDisk
  kid_load j a =
      let cs : Bounds = child_bounds x.order bs d.entries j in
      load_block x.lent x.order (child_place t.key_size t.val_size cs d.node.level (disk_number (val_at d.entries j))) cs a

  -- child j was loaded and walked, and its blocks are among the walk's
  pub record WalkedKid (w : Walk) (j : ℕ) : Type 0 where
    pub address : ℕ
    pub node : OnDisk
    pub walk : Walk
    pub resolved : resolve x (disk_number (val_at d.entries j)) ≡ ok address
    pub loaded : kid_load j address ≡ ok node
    pub walked : f (child_bounds x.order bs d.entries j) node ≡ ok walk
    pub own : 1 ≤ uses address (blocks_of w.nodes)
    pub below : (a : ℕ) → 1 ≤ uses a (blocks_of walk.nodes) → 1 ≤ uses a (blocks_of w.nodes)

  uses_joined : (v : Visit) (w rest : Walk) (a : ℕ)
      → uses a (blocks_of (joined v w rest).nodes) ≡ cond (eqb a v.block) 1 0 + uses a (blocks_of w.nodes) + uses a (blocks_of rest.nodes)
  unfolding joined blocks_of uses
  uses_joined v w rest a = omega (arith, blocks_append a w.nodes rest.nodes)

  -- the first child, and a later one
  walks_here : (v : Visit) (c : OnDisk) (w rest : Walk) (i : ℕ) → resolve x (disk_number (val_at d.entries i)) ≡ ok v.block
      → kid_load i v.block ≡ ok c
      → f (child_bounds x.order bs d.entries i) c ≡ ok w → WalkedKid (joined v w rest) i
  walks_here v c w rest i p q r =
      let one : ℕ = 1 in
      let z : cond (eqb v.block v.block) 1 0 ≡ one = rw (eq-eqb v.block v.block refl) in
      record {
        address = v.block;
        node = c;
        walk = w;
        resolved = p;
        loaded = q;
        walked = r;
        own = omega (arith, z, uses_joined v w rest v.block);
        below = λ a h. omega (arith, uses_joined v w rest a);
      }

  walks_later : (v : Visit) (w rest : Walk) (j : ℕ) → WalkedKid rest j → WalkedKid (joined v w rest) j
  walks_later v w rest j h =
      record {
        address = h.address;
        node = h.node;
        walk = h.walk;
        resolved = h.resolved;
        loaded = h.loaded;
        walked = h.walked;
        own = omega (arith, h.own, uses_joined v w rest h.address);
        below = λ a k. omega (arith, h.below a k, uses_joined v w rest a);
      }

  walks_step : (v : Visit) (c : OnDisk) (w rest : Walk) (m i : ℕ) → resolve x (disk_number (val_at d.entries i)) ≡ ok v.block
      → kid_load i v.block ≡ ok c
      → f (child_bounds x.order bs d.entries i) c ≡ ok w → ((j : ℕ) → suc i ≤ j → j < suc i + m → WalkedKid rest j)
      → (j : ℕ) → i ≤ j → j < i + suc m → WalkedKid (joined v w rest) j
  walks_step v c w rest m i p q r h j a b =
      by_test (eqb j i)
      (λ y. subst (WalkedKid (joined v w rest)) (sym (eqb-true j i y)) (walks_here v c w rest i p q r))
      (λ y. let n = eqb-false j i y in walks_later v w rest j (h j (omega arith) (omega arith)))

  walks_all : (m i : ℕ) → Holds (λ w. (j : ℕ) → i ≤ j → j < i + m → WalkedKid w j) (walk_kids f x t bs d m i)
  unfolding walk_kids
  walks_all zero i = holds_ok (λ j a b. absurd (omega arith))
  walks_all (suc m) i =
      holds_bind (resolve x (disk_number (val_at d.entries i))) _ λ k p.
      holds_bind (kid_load i k) _ λ c q.
      holds_bind (f (child_bounds x.order bs d.entries i) c) _ λ u g.
      holds_bind (walk_kids f x t bs d m (suc i)) _ λ u' h.
      holds_ok (walks_step (record { block = k; id = c.node.oid }) c u u' m i p q g ((walks_all m (suc i)).at u' h))

  pub walks_kid : (w : Walk) → walk_kids f x t bs d (length d.entries) 0 ≡ ok w → (j : ℕ) → j < length d.entries → WalkedKid w j
  walks_kid w e j h = (walks_all (length d.entries) 0).at w e j (omega arith) (omega arith)

-- ---- lookups in a map

-- a map's references are addresses
own_address : (x : Disk) (r a : ℕ) → resolve (map_disk x) r ≡ ok a → r ≡ a
unfolding resolve moved_to map_disk address_of
own_address x r a e = cc

module _ (x : Disk) (t : BTreeInfo) (k16 : t.key_size ≡ 16) (v16 : t.val_size ≡ 16) where
  -- a map's node that was walked, n levels down
  record Down (n : ℕ) (bs : Bounds) (d : OnDisk) (w : Walk) : Type 0 where
    pub walked : walk_below n (map_disk x) t bs d ≡ ok w
    pub level : d.node.level ≡ n
    pub filled : 1 ≤ d.node.level → 1 ≤ length d.entries

  -- an image that is no shorter and agrees on the blocks of a walk
  record Holding (l : Lent) (w : Walk) : Type 0 where
    pub longer : Longer x.lent l
    pub agrees : (a : ℕ) → 1 ≤ uses a (blocks_of w.nodes) → block_at l a ≡ block_at x.lent a

  abbrev MapKid : ℕ → Bounds → OnDisk → Walk → ℕ → Type 0
  MapKid n bs d w j = WalkedKid (walk_below n (map_disk x) t) (map_disk x) t bs d w j

  -- child j
  kid_of : (n : ℕ) (bs : Bounds) (d : OnDisk) (w : Walk) (j : ℕ) → Down (suc n) bs d w → j < length d.entries → MapKid n bs d w j
  unfolding walk_below
  kid_of n bs d w j h lt = walks_kid (walk_below n (map_disk x) t) (map_disk x) t bs d w h.walked j lt

  kid_down : (n : ℕ) (bs : Bounds) (d : OnDisk) (w : Walk) (j : ℕ) → Down (suc n) bs d w → (k : MapKid n bs d w j)
      → Down n (child_bounds pair bs d.entries j) k.node k.walk
  unfolding map_disk child_place
  kid_down n bs d w j h k =
      let cs : Bounds = child_bounds pair bs d.entries j in
      let p : Place = child_place t.key_size t.val_size cs d.node.level (disk_number (val_at d.entries j)) in
      record {
        walked = k.walked;
        level = let z = (load_level (map_disk x).lent pair p cs k.address k.node k.loaded refl).0 in omega (arith, h.level, z);
        filled = (read_filled pair p _ _ _ k.node (load_read (map_disk x).lent pair p cs k.address k.node k.loaded).1).1;
      }

  kid_holding : (l : Lent) (n : ℕ) (bs : Bounds) (d : OnDisk) (w : Walk) (j : ℕ) → Holding l w → (k : MapKid n bs d w j) → Holding l k.walk
  kid_holding l n bs d w j h k = record { longer = h.longer; agrees = λ a u. h.agrees a (k.below a u) }

  -- a child of the map is read in each such image
  kid_read : (l : Lent) (n : ℕ) (bs : Bounds) (d : OnDisk) (w : Walk) (j : ℕ) → Holding l w → (k : MapKid n bs d w j)
      → map_child l d bs j ≡ ok k.node
  unfolding map_child map_disk block_at
  kid_read l n bs d w j h k =
      let r : ℕ = disk_number (val_at d.entries j) in
      let cs : Bounds = child_bounds pair bs d.entries j in
      let q : r ≡ k.address = own_address x r k.address k.resolved in
      let p : Place = child_place 16 16 cs d.node.level r in
      let e : load_block (map_disk x).lent pair p cs r ≡ ok k.node =
      subst (λ (z : ℕ). load_block (map_disk x).lent pair p cs z ≡ ok k.node) (sym q) (rw (k16, v16) at k.loaded) in
      let own : 1 ≤ uses r (blocks_of w.nodes) = subst (λ (z : ℕ). 1 ≤ uses z (blocks_of w.nodes)) (sym q) k.own in
      load_same (map_disk x).lent l pair p cs r k.node (record { size = h.longer.size; image = h.longer.image }) (h.agrees r own) e

  last_same : (n : ℕ) (l : Lent) (bs : Bounds) (d : OnDisk) (w : Walk) → Down n bs d w → Holding l w → Holding x.lent w
      → map_last n l d bs ≡ map_last n x.lent d bs
  unfolding map_last
  last_same zero l bs d w h a a₀ = refl
  last_same (suc n) l bs d w h a a₀ =
      let i : ℕ = length d.entries - 1 in
      let k : MapKid n bs d w i = kid_of n bs d w i h (let f = h.filled (omega (arith, h.level)) in omega arith) in
      rw (kid_read l n bs d w i a k, kid_read x.lent n bs d w i a₀ k)
      (last_same n l (child_bounds pair bs d.entries i) k.node k.walk (kid_down n bs d w i h k)
      (kid_holding l n bs d w i a k) (kid_holding x.lent n bs d w i a₀ k))

  floor_same : (n : ℕ) (l : Lent) (bs : Bounds) (d : OnDisk) (w : Walk) (key : List ℕ) → Down n bs d w → Holding l w → Holding x.lent w
      → map_floor n l d bs key ≡ map_floor n x.lent d bs key
  unfolding map_floor
  floor_same zero l bs d w key h a a₀ = refl
  floor_same (suc n) l bs d w key h a a₀ =
      let i : ℕ = way_index pair key d.entries in
      let f : 1 ≤ length d.entries = h.filled (omega (arith, h.level)) in
      let lt : i < length d.entries = way_in pair key d.entries f in
      let k : MapKid n bs d w i = kid_of n bs d w i h lt in
      let k' : MapKid n bs d w (i - 1) = kid_of n bs d w (i - 1) h (omega arith) in
      let here = floor_same n l (child_bounds pair bs d.entries i) k.node k.walk key (kid_down n bs d w i h k)
      (kid_holding l n bs d w i a k) (kid_holding x.lent n bs d w i a₀ k) in
      let left = last_same n l (child_bounds pair bs d.entries (i - 1)) k'.node k'.walk (kid_down n bs d w (i - 1) h k')
      (kid_holding l n bs d w (i - 1) a k') (kid_holding x.lent n bs d w (i - 1) a₀ k') in
      rw (
        kid_read l n bs d w i a k,
        kid_read x.lent n bs d w i a₀ k,
        kid_read l n bs d w (i - 1) a k',
        kid_read x.lent n bs d w (i - 1) a₀ k',
        here,
        left,
      )

-- ---- a walk from a root, in parts

pub record Roots (x : Disk) (r : ℕ) (w : Walked) : Type 0 where
  pub address : ℕ
  pub found : OnDisk
  pub below : Walk
  pub resolved : resolve x r ≡ ok address
  pub loaded : load_block x.lent x.order (root_place r) unbounded address ≡ ok found
  pub rooted : root_holds x.lent address (leb 1 (length x.lent.map)) found ≡ true
  pub walked : walk_below found.node.level x (info_at (block_at x.lent address)) unbounded found ≡ ok below
  pub nodes : w.walk.nodes ≡ record { block = address; id = found.node.oid } ∷ below.nodes
  pub entries : w.walk.entries ≡ below.entries
  pub info : w.info ≡ info_at (block_at x.lent address)

pub walk_roots : (x : Disk) (r : ℕ) → Holds (Roots x r) (walk_from x r)
unfolding walk_from
walk_roots x r =
    holds_bind (resolve x r) _ λ a p.
    holds_bind (load_block x.lent x.order (root_place r) unbounded a) _ λ d q.
    holds_check refusal.root (root_holds x.lent a (leb 1 (length x.lent.map)) d) _ λ h.
    holds_bind (walk_below d.node.level x (info_at (block_at x.lent a)) unbounded d) _ λ u e.
    holds_ok (record {
      address = a;
      found = d;
      below = u;
      resolved = p;
      loaded = q;
      rooted = h;
      walked = e;
      nodes = refl;
      entries = refl;
      info = refl;
    })

-- ---- the map

-- a map's root holds in each image that has its block
root_same : (l l₀ : Lent) (a : ℕ) (d : OnDisk) → l.size ≡ l₀.size → block_at l a ≡ block_at l₀ a → map_root_holds l a d ≡ map_root_holds l₀ a d
unfolding map_root_holds root_holds
root_same l l₀ a d p q = rw (q, p)

address_chain : (l l₀ : Lent) (m xid id : ℕ) (d : OnDisk) → load_block l pair (root_place m) unbounded m ≡ ok d
    → load_block l₀ pair (root_place m) unbounded m ≡ ok d
    → map_root_holds l m d ≡ map_root_holds l₀ m d
    → map_floor d.node.level l d unbounded (pair_key id xid) ≡ map_floor d.node.level l₀ d unbounded (pair_key id xid)
    → map_address l xid id m ≡ map_address l₀ xid id m
unfolding map_address
address_chain l l₀ m xid id d p q r f = rw (p, q, r, f)

address_same : (x : Disk) (l : Lent) (m xid id : ℕ) (w : Walked) → walk_from (map_disk x) m ≡ ok w → lengths_are16 (ok w) ≡ true → Longer x.lent l
    → ((a : ℕ) → 1 ≤ uses a (blocks_of w.walk.nodes) → block_at l a ≡ block_at x.lent a) → map_address l xid id m ≡ map_address x.lent xid id m
unfolding lengths_are16 map_disk block_at blocks_of uses
address_same x l m xid id w e h16 lg ag =
    let h : Roots (map_disk x) m w = (walk_roots (map_disk x) m).at w e in
    let d : OnDisk = h.found in
    let own : m ≡ h.address = own_address x m h.address h.resolved in
    let t : BTreeInfo = info_at (block_at (map_disk x).lent h.address) in
    let ld : load_block (map_disk x).lent pair (root_place m) unbounded m ≡ ok d =
    subst (λ (z : ℕ). load_block (map_disk x).lent pair (root_place m) unbounded z ≡ ok d) (sym own) h.loaded in
    let n : (a : ℕ) → uses a (blocks_of w.walk.nodes) ≡ cond (eqb a h.address) 1 0 + uses a (blocks_of h.below.nodes) =
    λ a. ap (λ (z : List Visit). uses a (blocks_of z)) h.nodes in
    let one : ℕ = 1 in
    let y : cond (eqb m h.address) 1 0 ≡ one = rw (eq-eqb m h.address own) in
    let at : block_at l m ≡ block_at x.lent m = ag m (omega (arith, n m, y)) in
    let s = and_split (eqb w.info.key_size 16) (eqb w.info.val_size 16) h16 in
    let k16 : t.key_size ≡ 16 = ap (λ (z : BTreeInfo). z.key_size) (sym h.info) ∙ eqb-true w.info.key_size 16 s.0 in
    let v16 : t.val_size ≡ 16 = ap (λ (z : BTreeInfo). z.val_size) (sym h.info) ∙ eqb-true w.info.val_size 16 s.1 in
    let down : Down x t k16 v16 d.node.level unbounded d h.below =
    record {
      walked = h.walked;
      level = refl;
      filled = (read_filled pair (root_place m) _ _ _ d (load_read (map_disk x).lent pair (root_place m) unbounded m d ld).1).1;
    } in
    address_chain l x.lent m xid id d
    (load_same (map_disk x).lent l pair (root_place m) unbounded m d (record { size = lg.size; image = lg.image }) at ld)
    (load_same (map_disk x).lent x.lent pair (root_place m) unbounded m d (record { size = refl; image = le_refl _ }) refl ld)
    (root_same l x.lent m d lg.size at)
    (floor_same x t k16 v16 d.node.level l unbounded d h.below (pair_key id xid) down
    (record { longer = lg; agrees = λ a u. ag a (omega (arith, n a)) })
    (record { longer = longer_same x.lent; agrees = λ a u. refl }))

map_found : (x : Disk) (l : Lent) (m xid r : ℕ) (z : Result Walked) → walk_from (map_disk x) m ≡ z → counts_hold z && lengths_are16 z ≡ true
    → Longer x.lent l
    → ((a : ℕ) → 1 ≤ uses a (blocks_of (visits_of z)) → block_at l a ≡ block_at x.lent a) → map_address l xid r m ≡ map_address x.lent xid r m
unfolding counts_hold visits_of
map_found x l m xid r (refused n) e f lg ag = never f refl
map_found x l m xid r (ok w) e f lg ag = address_same x l m xid r w e (and_right (counts_hold (ok w)) (lengths_are16 (ok w)) f) lg ag

-- the address of a reference, by the map lent
abbrev address_by : Lent → ℕ → ℕ → List ℕ → Result ℕ
address_by l xid r [] = ok r
address_by l xid r (m ∷ ms) = map_address l xid r m

address_parts : (image : List ℕ) (size slots xid r : ℕ) (ms : List ℕ)
    → address_of (record { image = image; size = size; map = ms; slots = slots }) xid r
    ≡ address_by (record { image = image; size = size; map = ms; slots = slots }) xid r ms
unfolding address_of
address_parts image size slots xid r [] = refl
address_parts image size slots xid r (m ∷ ms) = refl

address_by_lem : (l : Lent) (xid r : ℕ) (ms : List ℕ) → l.map ≡ ms → address_of l xid r ≡ address_by l xid r ms
address_by_lem l xid r ms e = address_parts l.image l.size l.slots xid r l.map ∙ ap (address_by l xid r) e

addresses : (x : Disk) (l : Lent) (xid r : ℕ) (ms : List ℕ) → map_formed x ms ≡ true → Longer x.lent l
    → ((a : ℕ) → 1 ≤ uses a (map_blocks x ms) → block_at l a ≡ block_at x.lent a) → address_by l xid r ms ≡ address_by x.lent xid r ms
unfolding map_formed map_blocks
addresses x l xid r [] f lg ag = refl
addresses x l xid r (m ∷ ms) f lg ag = map_found x l m xid r (walk_from (map_disk x) m) refl f lg ag

-- every reference has the same address, or the same refusal
pub map_same : (x : Disk) (l : Lent) → l.map ≡ x.lent.map → map_formed x x.lent.map ≡ true → Longer x.lent l
    → ((a : ℕ) → 1 ≤ uses a (map_blocks x x.lent.map) → block_at l a ≡ block_at x.lent a) → (xid r : ℕ)
    → address_of l xid r ≡ address_of x.lent xid r
map_same x l p f lg ag xid r =
    address_by_lem l xid r x.lent.map p ∙ addresses x l xid r x.lent.map f lg ag ∙ sym (address_by_lem x.lent xid r x.lent.map refl)
