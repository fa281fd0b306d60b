-- The node under a reference: what is so of it; loads within bounds and without; nodes on disk name no slot. Assumes nothing.
use Rattle.std.specs.Prelude.{◌≡◌, List, [], ◌∷◌, Bool, true, false, ◌&&◌, length, take, drop, leb, eqb}
use Rattle.std.proofs.Math.Path.{refl, ap}
use Rattle.std.proofs.Common.{sym, ◌∙◌, le_trans, length-take, leb-true, leb-false, eqb-true, ne_eqb}
use Prim.Native.Nat.{ℕ, zero, suc, ◌+◌, ◌-◌, ◌*◌, ◌%◌, ◌^◌, ◌≤◌, ◌<◌, min}
use native.Mathlib.Omega.{arith}
use Rattle.seal.specs.Bytes.{window, u16_at, u64_at, AreBytes}
use Rattle.node.specs.Result.{Result, ok, refused, ◌>>=◌}
use Rattle.node.specs.laws.base.Results.{bind_ok, checked_ok}
use Rattle.node.specs.Refusals as refusal
use Rattle.node.specs.Order.{pair, keyed, keyed_length, byte_less, less}
use Rattle.node.specs.Entry.{Entry, Val, every}
use Rattle.node.specs.Read.{OnDisk, on_disk, parsed, info_at, flags_hold, layout_holds, entries_hold, is_ghost, span_at, value_at, entry_at, entries_from}
use Rattle.node.specs.Read.{keys_rise, in_bounds, keys_within, keys_hold, read_node}
use Rattle.node.specs.Slot.{MemNode}
use Rattle.node.specs.laws.base.Bytes.{Bytes, bytes_window}
use Rattle.node.specs.laws.base.Tests.{by_test, never, and_left, and_right, or_right}
use Rattle.node.specs.laws.read.LoadLine.{node_line}
use Rattle.node.specs.laws.read.Loaded.{Passed, read_passed}
use Rattle.node.specs.declared.read.Node.{Node}
use Rattle.node.specs.declared.read.Span.{Span}
use Rattle.node.specs.Place.{Place}
use Rattle.tree.specs.Lent.{Lent, is_size, blocks, sizes_hold, block_at, in_image}
use Rattle.tree.specs.State.{no_node}
use Rattle.tree.specs.Load.{Bounds, unbounded, bound_key, load_block, root_place, child_place, adopted}
use Rattle.history.specs.Walk.{Disk, resolve}
use Rattle.theorem.specs.model.Bounds.{Terms}
use Rattle.theorem.specs.model.Lazy.{sum_map, node_of, names, slots}
use Rattle.theorem.specs.model.Seen.{Seen, seen, unread, stood, rd}
use Rattle.theorem.specs.disk.Walk.{AllDisk, line_swap}
use Rattle.theorem.specs.disk.Read.{kids_disk, Sound, read_sound}

-- ---- blocks

size_most : (size : ℕ) → is_size size ≡ true → size ≤ 65536
unfolding is_size
size_most size t =
    by_test (leb size 65536)
    (λ u. leb-true size 65536 u)
    (λ u.
    let h : 65536 < size = leb-false size 65536 u in
    let n : (k : ℕ) → k ≤ 65536 → eqb size k ≡ false = λ k l. ne_eqb size k (λ e. omega arith) in
    never t (rw (
      n 512 (omega arith),
      n 1024 (omega arith),
      n 2048 (omega arith),
      n 4096 (omega arith),
      n 8192 (omega arith),
      n 16384 (omega arith),
      n 32768 (omega arith),
      n 65536 (omega arith),
    )))

sizes_size : (l : Lent) → sizes_hold l ≡ true → l.size ≤ 65536
unfolding sizes_hold
sizes_size l h =
    let a : Bool = is_size l.size in
    let b : Bool = eqb (length l.image % l.size) 0 in
    let c : Bool = leb 1 (blocks l) in
    let d : Bool = leb (blocks l) (2 ^ 20) in
    let e : Bool = leb 1 l.slots in
    let h₅ : a && b && c && d && e ≡ true = and_left (a && b && c && d && e) (leb l.slots 4096) h in
    size_most l.size (and_left a b (and_left (a && b) c (and_left (a && b && c) d (and_left (a && b && c && d) e h₅))))

pub block_small : (l : Lent) (a : ℕ) → sizes_hold l ≡ true → length (block_at l a) ≤ 65536
unfolding block_at window
block_small l a h =
    let n : length (take l.size (drop (a * l.size) l.image)) ≡ min l.size (length (drop (a * l.size) l.image)) =
    length-take l.size (drop (a * l.size) l.image) in
    omega (arith, n, sizes_size l h)

pub block_bytes : (l : Lent) (a : ℕ) → AreBytes l.image → Bytes (block_at l a)
unfolding block_at
block_bytes l a h = bytes_window (a * l.size) l.size l.image (record { below = h })

-- ---- a load

-- a load that is accepted: the address lies in the image, and the block there is read
pub load_read : (l : Lent) (o : ℕ) (p : Place) (bs : Bounds) (a : ℕ) (d : OnDisk) → load_block l o p bs a ≡ ok d
    → (in_image l a ≡ true) × (read_node o p (bound_key bs.lower) (bound_key bs.upper) (block_at l a) ≡ ok d)
unfolding load_block
load_read l o p bs a d e = checked_ok refusal.address (in_image l a) (read_node o p (bound_key bs.lower) (bound_key bs.upper) (block_at l a)) d e

pub load_sound : (l : Lent) (o : ℕ) (τ : Terms) (p : Place) (bs : Bounds) (a : ℕ) (d : OnDisk) → o ≡ τ.order → AreBytes l.image
    → sizes_hold l ≡ true → 65536 ≤ τ.most
    → (parsed p (block_at l a)).ksize ≡ τ.ksize → (parsed p (block_at l a)).vsize ≡ τ.vsize → load_block l o p bs a ≡ ok d → Sound τ p.root p.oid d
load_sound l o τ p bs a d q bb hs most ks vs e =
    read_sound τ o p (bound_key bs.lower) (bound_key bs.upper) (block_at l a) d q (block_bytes l a bb) (le_trans (block_small l a hs) most) ks vs
    (load_read l o p bs a d e).1

-- ---- within bounds, and without

-- no key is below the empty one
less_nil : (o : ℕ) (k : List ℕ) → less o k [] ≡ false
unfolding less keyed keyed_length byte_less
less_nil o [] = by_test (eqb o pair) (λ t. rw t) (λ t. rw t)
less_nil o (c ∷ k) = by_test (eqb o pair) (λ t. by_test (eqb (length (c ∷ k)) 16) (λ u. rw (t, u)) (λ u. rw (t, u))) (λ t. rw t)

all_within : (o ks vs parent r : ℕ) (es : List Entry) → keys_within o (child_place ks vs unbounded parent r) [] [] es ≡ true
unfolding keys_within every in_bounds child_place unbounded
all_within o ks vs parent r [] = refl
all_within o ks vs parent r (e ∷ es) = rw (less_nil o e.key) (all_within o ks vs parent r es)

-- a child read within bounds is read without them, and its keys are within: `read_bounds` of `Walk` backwards
pub read_unbound : (o ks vs parent r : ℕ) (cs : Bounds) (lower upper b : List ℕ) (d : OnDisk)
    → read_node o (child_place ks vs cs parent r) lower upper b ≡ ok d
    → (read_node o (child_place ks vs unbounded parent r) [] [] b ≡ ok d)
    × (keys_within o (child_place ks vs cs parent r) lower upper d.entries ≡ true)
unfolding child_place parsed layout_holds flags_hold entries_hold on_disk keys_hold
read_unbound o ks vs parent r cs lower upper b d e =
    let p : Place = child_place ks vs unbounded parent r in
    let p' : Place = child_place ks vs cs parent r in
    let h : Passed o p' lower upper b d = read_passed o p' lower upper b d e in
    let es : List Entry = entries_from (parsed p' b) b 0 (parsed p' b).nkeys in (
      sym (node_line o p [] [] b (parsed p b) refl)
          ∙ line_swap _ _ _ _ _ _ (keys_rise o es) (keys_within o p' lower upper es) _ (on_disk (parsed p' b) b) _
          (node_line o p' lower upper b (parsed p' b) refl ∙ e) (all_within o ks vs parent r es),
      ap (λ (z : OnDisk). keys_within o p' lower upper z.entries) h.read ∙ and_right (keys_rise o es) (keys_within o p' lower upper es) h.keys,
    )

-- what was read has its place's level
pub load_level : (l : Lent) (o : ℕ) (p : Place) (bs : Bounds) (a : ℕ) (d : OnDisk) → load_block l o p bs a ≡ ok d → p.root ≡ false
    → (suc d.node.level ≡ p.parent) × (suc (u16_at (block_at l a) 34) ≡ p.parent)
unfolding on_disk parsed
load_level l o p bs a d e f =
    let h : Passed o p (bound_key bs.lower) (bound_key bs.upper) (block_at l a) d =
    read_passed o p (bound_key bs.lower) (bound_key bs.upper) (block_at l a) d (load_read l o p bs a d e).1 in
    let z : u16_at (block_at l a) 34 + 1 ≡ p.parent =
    eqb-true (u16_at (block_at l a) 34 + 1) p.parent (or_right p.root (eqb (u16_at (block_at l a) 34 + 1) p.parent) f h.level) in
    let y : d.node.level ≡ u16_at (block_at l a) 34 = ap (λ (x : OnDisk). x.node.level) h.read in
    (omega arith, omega arith)

-- ---- the node under a reference

-- its load at an address: at the level that the block stores, without bounds
abbrev pub seen_load : Disk → Terms → ℕ → ℕ → Result OnDisk
seen_load x τ r a = load_block x.lent x.order (child_place τ.ksize τ.vsize unbounded (suc (u16_at (block_at x.lent a) 34)) r) unbounded a

parts_of : (x : Disk) (τ : Terms) (r a : ℕ) (d : OnDisk) (y : Seen) → resolve x r ≡ ok a
    → seen_load x τ r a ≡ ok d
    → record { block = a; node = d } ≡ y
    → (resolve x r ≡ ok y.block) × (seen_load x τ r y.block ≡ ok y.node)
parts_of x τ r a d y p q e = rw (← e) (p, q)

pub seen_parts : (x : Disk) (τ : Terms) (r : ℕ) (y : Seen) → seen x τ r ≡ ok y
    → (resolve x r ≡ ok y.block) × (seen_load x τ r y.block ≡ ok y.node)
unfolding seen
seen_parts x τ r y e =
    let (a, p, q) = bind_ok (resolve x r) (λ a. seen_load x τ r a >>= λ d. ok (record { block = a; node = d })) y e in
    let (d, g, h) = bind_ok (seen_load x τ r a) (λ d. ok (record { block = a; node = d })) y q in
    parts_of x τ r a d y p g (cc)

pub seen_of : (x : Disk) (τ : Terms) (r a : ℕ) (d : OnDisk) → resolve x r ≡ ok a
    → seen_load x τ r a ≡ ok d
    → seen x τ r ≡ ok (record { block = a; node = d })
unfolding seen
seen_of x τ r a d p q = rw (p, q)

-- what a load within bounds brings is the node under the reference
pub load_seen : (x : Disk) (τ : Terms) (ks vs level r a : ℕ) (cs : Bounds) (d : OnDisk) → ks ≡ τ.ksize → vs ≡ τ.vsize → resolve x r ≡ ok a
    → load_block x.lent x.order (child_place ks vs cs level r) cs a ≡ ok d → seen x τ r ≡ ok (record { block = a; node = d })
unfolding bound_key unbounded load_block child_place
load_seen x τ ks vs level r a cs d p q rv e =
    let l : Lent = x.lent in
    let (im, rn) = load_read l x.order (child_place ks vs cs level r) cs a d e in
    let lv : suc (u16_at (block_at l a) 34) ≡ level = (load_level l x.order (child_place ks vs cs level r) cs a d e refl).1 in
    let un = (read_unbound x.order ks vs level r cs (bound_key cs.lower) (bound_key cs.upper) (block_at l a) d rn).0 in
    seen_of x τ r a d rv (rw (im, ← p, ← q, lv) un)

pub seen_sound : (x : Disk) (τ : Terms) (r : ℕ) (y : Seen) → x.order ≡ τ.order → AreBytes x.lent.image → sizes_hold x.lent ≡ true
    → 65536 ≤ τ.most → seen x τ r ≡ ok y → Sound τ false r y.node
unfolding child_place parsed
seen_sound x τ r y q bb hs most e =
    let p : Place = child_place τ.ksize τ.vsize unbounded (suc (u16_at (block_at x.lent y.block) 34)) r in
    load_sound x.lent x.order τ p unbounded y.block y.node q bb hs most refl refl (seen_parts x τ r y e).1

-- the same of a root
pub root_sound : (x : Disk) (τ : Terms) (r a : ℕ) (d : OnDisk) → x.order ≡ τ.order → AreBytes x.lent.image → sizes_hold x.lent ≡ true
    → 65536 ≤ τ.most
    → (info_at (block_at x.lent a)).key_size ≡ τ.ksize → (info_at (block_at x.lent a)).val_size ≡ τ.vsize
    → load_block x.lent x.order (root_place r) unbounded a ≡ ok d → Sound τ true r d
unfolding root_place parsed
root_sound x τ r a d q bb hs most ks vs e = load_sound x.lent x.order τ (root_place r) unbounded a d q bb hs most ks vs e

pub seen_disks : (x : Disk) (τ : Terms) → x.order ≡ τ.order → AreBytes x.lent.image → sizes_hold x.lent ≡ true → 65536 ≤ τ.most
    → (r : ℕ) (y : Seen) → seen x τ r ≡ ok y → 1 ≤ y.node.node.level → AllDisk y.node.entries
seen_disks x τ q bb hs most r y e g = kids_disk y.node.entries ((seen_sound x τ r y q bb hs most e).kids g)

-- ---- nodes on disk name no slot

-- a value that names no slot, nor does what it stands for
abbrev Bare : (ℕ → MemNode) → (ℕ → MemNode) → ℕ → ℕ → Val → Type 0
Bare rd at j c w = names c w + slots rd at j c (node_of rd at w) ≡ 0

module _ (rd : ℕ → MemNode) (at : ℕ → MemNode) (j c : ℕ) (ih : (r : ℕ) → slots rd at j c (rd r) ≡ 0) where
  no_slots : (i : ℕ) (m : MemNode) → m.entries ≡ [] → slots rd at i c m ≡ 0
  unfolding slots
  no_slots zero m e = refl
  no_slots (suc i) m e = ap (sum_map (λ (x : Entry). names c x.value + slots rd at i c (node_of rd at x.value))) e

  bare_value : (v : Node) (b : List ℕ) (s : Span) → Bare rd at j c (value_at v b s)
  unfolding value_at names node_of no_node
  bare_value v b s =
      let none = no_slots j no_node refl in
      let r : ℕ = u64_at b (v.vals - s.voff) in
      by_test (is_ghost s)
      (λ t. rw t (omega (arith, none)))
      (λ t. by_test (eqb v.level 0) (λ u. rw (t, u) (omega (arith, none))) (λ u. rw (t, u) (omega (arith, ih r))))

  bare_entries : (v : Node) (b : List ℕ) (i n : ℕ)
      → sum_map (λ (x : Entry). names c x.value + slots rd at j c (node_of rd at x.value)) (entries_from v b i n) ≡ 0
  unfolding entries_from entry_at
  bare_entries v b i zero = refl
  bare_entries v b i (suc n) = let h = bare_value v b (span_at v b i) in let k = bare_entries v b (suc i) n in omega arith

-- the entries of a node read are those of its block
seen_entries : (x : Disk) (τ : Terms) (r : ℕ) (y : Seen) → seen x τ r ≡ ok y
    → (v : Node) × (b : List ℕ) × (y.node.entries ≡ entries_from v b 0 v.nkeys)
unfolding on_disk
seen_entries x τ r y e =
    let p : Place = child_place τ.ksize τ.vsize unbounded (suc (u16_at (block_at x.lent y.block) 34)) r in
    let b : List ℕ = block_at x.lent y.block in
    let rn = (load_read x.lent x.order p unbounded y.block y.node (seen_parts x τ r y e).1).1 in
    let q = (read_passed x.order p _ _ b y.node rn).read in
    (parsed p b, b, ap (λ (z : OnDisk). z.entries) q)

bare_step : (x : Disk) (τ : Terms) (v : Bool) (at : ℕ → MemNode) (j c r : ℕ) → ((k : ℕ) → slots (rd x τ v) at j c (rd x τ v k) ≡ 0)
    → (z : Result Seen) → seen x τ r ≡ z
    → sum_map (λ (e : Entry). names c e.value + slots (rd x τ v) at j c (node_of (rd x τ v) at e.value)) (stood v z).entries ≡ 0
unfolding stood unread adopted
bare_step x τ v at j c r ih (refused n) e = refl
bare_step x τ v at j c r ih (ok y) e =
    let (w, b, q) = seen_entries x τ r y e in
    ap (sum_map (λ (z : Entry). names c z.value + slots (rd x τ v) at j c (node_of (rd x τ v) at z.value))) q
    ∙ bare_entries (rd x τ v) at j c ih w b 0 w.nkeys

pub bare : (x : Disk) (τ : Terms) (v : Bool) (at : ℕ → MemNode) (j c r : ℕ) → slots (rd x τ v) at j c (rd x τ v r) ≡ 0
unfolding slots rd
bare x τ v at zero c r = refl
bare x τ v at (suc j) c r = bare_step x τ v at j c r (bare x τ v at j c) (seen x τ r) refl

-- ---- the node that stands under a reference

pub rd_is : (x : Disk) (τ : Terms) (v : Bool) (r : ℕ) (y : Seen) → seen x τ r ≡ ok y → rd x τ v r ≡ adopted v y.block y.node
unfolding rd stood
rd_is x τ v r y e = rw e

-- one that is not dead was read
pub seen_live : (x : Disk) (τ : Terms) (v : Bool) (r : ℕ) → (rd x τ v r).dead ≡ false → (y : Seen) × (seen x τ r ≡ ok y)
unfolding rd stood unread
seen_live x τ v r h = go (seen x τ r) refl
  where
    go : (z : Result Seen) → seen x τ r ≡ z → (y : Seen) × (seen x τ r ≡ ok y)
    go (refused n) e = never {t = true} refl (ap (λ (w : Result Seen). (stood v w).dead) (sym e) ∙ h)
    go (ok y) e = (y, e)
