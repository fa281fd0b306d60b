-- What is so of every node that is read from a disk of bytes: its id is the one asked for, it names no slot, an index node's children are on disk.
-- Assumes nothing.
use Rattle.std.proofs.Math.Path.{◌≡◌, refl, subst}
use Rattle.std.proofs.Common.{ap, ◌∙◌, le_trans, div-mul-le_self, le-div_iff_mul-le}
use mathlib.Core.List.{List, [], ◌∷◌}
use Rattle.std.specs.Prelude.{Bool, cond, ◌&&◌, ◌||◌, not, length, eqb, leb, ltb}
use Rattle.std.proofs.Math.Bool.{true, false}
use Prim.Native.Nat.{ℕ, zero, suc, ◌-◌, ◌*◌, ◌/◌, ◌^◌, ◌≤◌, ◌<◌}
use Rattle.std.proofs.Math.Nat.{div-zero}
use native.Mathlib.Omega.{arith}
use borrow.Author.Tests.{eqb-true, eqb-false, ne_eqb, ltb-true, lt-ltb}
use Rattle.seal.specs.Bytes.{window, u16_at, AreBytes}
use Rattle.node.specs.Result.{Result, ok, refused, ◌>>=◌}
use Rattle.node.specs.Refusals as refusal
use Rattle.node.specs.Entry.{Entry, Val, ghost, leaf, disk, mem}
use Rattle.node.specs.Fit.{data_space}
use Rattle.node.specs.Read.{OnDisk, on_disk, parsed, is_fixed, flags_hold, layout_holds, read_node}
use Rattle.node.specs.Read.{span_at, spans_hold, spans_length, entries_hold, entries_from}
use Rattle.node.specs.Slot.{MemNode}
use Rattle.node.specs.declared.read.Node.{Node}
use Rattle.node.specs.Place.{Place}
use Rattle.node.specs.declared.info.BTreeInfo.{BTreeInfo}
use Rattle.node.specs.laws.base.Bytes.{Bytes, bytes_window, field_below}
use Rattle.node.specs.laws.base.Tests.{by_test, and_split, and_left, and_right}
use Rattle.node.specs.laws.base.Results.{bind_ok, checked_ok}
use Rattle.node.specs.laws.read.Loaded.{read_passed, span_held, by_value}
use Rattle.tree.specs.Lent.{Lent, blocks, block_at, in_image}
use Rattle.tree.specs.State.{no_node}
use Rattle.tree.specs.Load.{Bounds, unbounded, bound_key, load_block, child_place, adopted}
use Rattle.history.specs.Walk.{Disk, resolve}
use Rattle.theorem.specs.model.Bounds.{Terms}
use Rattle.theorem.specs.model.Lazy.{node_of, names, slots, slots_in}
use Rattle.theorem.specs.model.Seen.{Seen, seen, unread, stood, rd}
use Rattle.theorem.specs.disk.Walk.{AllDisk}
use Rattle.theorem.specs.flush.Writes.{naming}

-- ---- a block that was read

-- 6 asks the id, 8 asks each entry
layout_oid : (p : Place) (v : Node) → layout_holds p v ≡ true → v.oid ≡ p.oid
unfolding layout_holds
layout_oid p v h =
    eqb-true v.oid p.oid
    (and_right (leb v.keys v.vals && leb v.level 32 && flags_hold p v && leb (v.nkeys * cond (is_fixed v) 4 8) (v.keys - v.toc))
    (eqb v.oid p.oid) h)

entries_spans : (p : Place) (v : Node) (b : List ℕ) → entries_hold p v b ≡ true → spans_hold v b 0 v.nkeys ≡ true
unfolding entries_hold
entries_spans p v b h = and_left (spans_hold v b 0 v.nkeys) (leb (spans_length v b 0 v.nkeys) (data_space (length b) p.root))
    (and_left (spans_hold v b 0 v.nkeys && leb (spans_length v b 0 v.nkeys) (data_space (length b) p.root))
    (not (eqb v.nkeys 0) || p.root && eqb v.level 0) h)

from_bare : (c : ℕ) (v : Node) (b : List ℕ) (i n : ℕ) → spans_hold v b i n ≡ true → naming c (entries_from v b i n) ≡ 0
unfolding entries_from spans_hold names
from_bare c v b i zero h = refl
from_bare c v b i (suc n) h =
    let (p, q) = and_split _ (spans_hold v b (suc i) n) h in
    let j : naming c (entries_from v b (suc i) n) ≡ 0 = from_bare c v b (suc i) n q in
    by_value v b i (span_held v (length b) (span_at v b i) p)
    (λ z e. rw e (omega arith))
    (λ x z l e. rw e (omega arith))
    (λ r z e. rw e (omega arith))

-- a block in the image, read
pub record Loads (l : Lent) (o : ℕ) (p : Place) (bs : Bounds) (a : ℕ) (d : OnDisk) : Type 0 where
  pub inside : a < blocks l
  pub read : read_node o p (bound_key bs.lower) (bound_key bs.upper) (block_at l a) ≡ ok d
  pub oid : d.node.oid ≡ p.oid
  pub level : d.node.level ≡ u16_at (block_at l a) 34
  pub bare : (c : ℕ) → naming c d.entries ≡ 0

pub load_parts : (l : Lent) (o : ℕ) (p : Place) (bs : Bounds) (a : ℕ) (d : OnDisk) → load_block l o p bs a ≡ ok d → Loads l o p bs a d
unfolding load_block in_image
load_parts l o p bs a d e =
    let (i, rn) = checked_ok refusal.address (ltb a (blocks l)) (read_node o p (bound_key bs.lower) (bound_key bs.upper) (block_at l a)) d e in
    let k = read_passed o p (bound_key bs.lower) (bound_key bs.upper) (block_at l a) d rn in
    record {
      inside = ltb-true a (blocks l) i;
      read = rn;
      oid = ap (λ (z : OnDisk). z.node.oid) k.read ∙ node_oid ∙ layout_oid p (parsed p (block_at l a)) k.layout;
      level = ap (λ (z : OnDisk). z.node.level) k.read ∙ node_level;
      bare = λ c. ap (λ (z : OnDisk). naming c z.entries) k.read
          ∙ node_bare c (entries_spans p (parsed p (block_at l a)) (block_at l a) k.entries);
    }
  where
    node_oid : (on_disk (parsed p (block_at l a)) (block_at l a)).node.oid ≡ (parsed p (block_at l a)).oid
    node_oid = unfold on_disk in refl

    node_level : (on_disk (parsed p (block_at l a)) (block_at l a)).node.level ≡ u16_at (block_at l a) 34
    node_level = unfold on_disk parsed in refl

    node_bare : (c : ℕ) → spans_hold (parsed p (block_at l a)) (block_at l a) 0 (parsed p (block_at l a)).nkeys ≡ true
        → naming c (on_disk (parsed p (block_at l a)) (block_at l a)).entries ≡ 0
    node_bare c h = unfold on_disk in from_bare c (parsed p (block_at l a)) (block_at l a) 0 (parsed p (block_at l a)).nkeys h

-- an id that a block of bytes stores is a u64, and so are its other numbers
pub load_small : (l : Lent) (o : ℕ) (p : Place) (bs : Bounds) (a : ℕ) (d : OnDisk) → AreBytes l.image → load_block l o p bs a ≡ ok d
    → (d.node.oid < 2 ^ 64) × (d.node.subtype < 2 ^ 32)
unfolding block_at parsed on_disk
load_small l o p bs a d b e =
    let k = load_parts l o p bs a d e in
    let q = (read_passed o p (bound_key bs.lower) (bound_key bs.upper) (block_at l a) d k.read).read in
    let w : Bytes (window (a * l.size) l.size l.image) = bytes_window (a * l.size) l.size l.image (record { below = b }) in
    rw q (field_below 8 (window (a * l.size) l.size l.image) 8 w, field_below 4 (window (a * l.size) l.size l.image) 28 w)

-- ---- images

pub blocks_more : (l l' : Lent) → l'.size ≡ l.size → length l.image ≤ length l'.image → blocks l ≤ blocks l'
unfolding blocks
blocks_more l l' e h = rw e (div_more (length l.image) (length l'.image) l.size h)
  where
    div_more : (a b k : ℕ) → a ≤ b → a / k ≤ b / k
    div_more a b zero h = rw (div-zero a, div-zero b) (omega arith)
    div_more a b (suc k) h = (le-div_iff_mul-le {k = suc k} {x = a / suc k} {y = b} (omega arith)).1 (le_trans (div-mul-le_self a (suc k)) h)

-- a block that is the same is read the same
pub load_again : (l l' : Lent) (o : ℕ) (p : Place) (bs : Bounds) (a : ℕ) (d : OnDisk) → blocks l ≤ blocks l' → block_at l' a ≡ block_at l a
    → load_block l o p bs a ≡ ok d → load_block l' o p bs a ≡ ok d
unfolding load_block in_image
load_again l l' o p bs a d more same e =
    let (i, rn) = checked_ok refusal.address (ltb a (blocks l)) (read_node o p (bound_key bs.lower) (bound_key bs.upper) (block_at l a)) d e in
    let i' : ltb a (blocks l') ≡ true = lt-ltb a (blocks l') (let h = ltb-true a (blocks l) i in omega arith) in
    rw (i', same) rn

-- ---- references

module _ (x : Disk) (τ : Terms) where
  pub record Sees (r : ℕ) (y : Seen) : Type 0 where
    pub resolved : resolve x r ≡ ok y.block
    pub load : load_block x.lent x.order (child_place τ.ksize τ.vsize unbounded
        (suc (u16_at (block_at x.lent y.block) 34)) r) unbounded y.block ≡ ok y.node

  pub seen_parts : (r : ℕ) (y : Seen) → seen x τ r ≡ ok y → Sees r y
  unfolding seen
  seen_parts r y e =
      let f : ℕ → Result Seen = λ a. load_block x.lent x.order
      (child_place τ.ksize τ.vsize unbounded (suc (u16_at (block_at x.lent a) 34)) r) unbounded a
      >>= λ d. ok (record { block = a; node = d }) in
      let (a, ra, e') = bind_ok (resolve x r) f y e in
      let (d, ld, e'') = bind_ok (load_block x.lent x.order
      (child_place τ.ksize τ.vsize unbounded (suc (u16_at (block_at x.lent a) 34)) r) unbounded a)
      (λ d. ok (record { block = a; node = d })) y e' in
      let q : record { block = a; node = d } ≡ y = cc in
      subst (Sees r) q (record { resolved = ra; load = ld })

  pub parts_seen : (r : ℕ) (y : Seen) → Sees r y → seen x τ r ≡ ok y
  unfolding seen
  parts_seen r y k = rw (k.resolved, k.load)

  place_oid : (bs : Bounds) (l r : ℕ) → (child_place τ.ksize τ.vsize bs l r).oid ≡ r
  unfolding child_place
  place_oid bs l r = refl

  pub seen_oid : (r : ℕ) (y : Seen) → seen x τ r ≡ ok y → y.node.node.oid ≡ r
  seen_oid r y e = (load_parts x.lent x.order _ unbounded y.block y.node (seen_parts r y e).load).oid
      ∙ place_oid unbounded (suc (u16_at (block_at x.lent y.block) 34)) r

  pub seen_bare : (r : ℕ) (y : Seen) → seen x τ r ≡ ok y → (c : ℕ) → naming c y.node.entries ≡ 0
  seen_bare r y e = (load_parts x.lent x.order _ unbounded y.block y.node (seen_parts r y e).load).bare

  pub seen_small : AreBytes x.lent.image → (r : ℕ) (y : Seen) → seen x τ r ≡ ok y → r < 2 ^ 64
  seen_small b r y e = let h = (load_small x.lent x.order _ unbounded y.block y.node b (seen_parts r y e).load).0 in
      let q = seen_oid r y e in omega arith

  -- no slot stands below a node on disk
  module _ (v : Bool) where
    node_bare : (r c : ℕ) → naming c (rd x τ v r).entries ≡ 0
    unfolding rd
    node_bare r c = go (seen x τ r) refl
      where
        go : (z : Result Seen) → seen x τ r ≡ z → naming c (stood v (seen x τ r)).entries ≡ 0
        go (refused n) e = unfold stood unread in rw e
        go (ok y) e = unfold stood adopted in rw e (seen_bare r y e c)

    none_bare : (at : ℕ → MemNode) (l d : ℕ) → slots (rd x τ v) at l d no_node ≡ 0
    unfolding slots no_node
    none_bare at zero d = refl
    none_bare at (suc l) d = refl

    value_bare : (at : ℕ → MemNode) (j d : ℕ) → ((r : ℕ) → slots (rd x τ v) at j d (rd x τ v r) ≡ 0) → (w : Val) → ((c : ℕ) → names c w ≡ 0)
        → slots (rd x τ v) at j d (node_of (rd x τ v) at w) ≡ 0
    unfolding node_of names
    value_bare at j d ih ghost h = none_bare at j d
    value_bare at j d ih (leaf b) h = none_bare at j d
    value_bare at j d ih (disk r) h = ih r
    value_bare at j d ih (mem c) h = absurd (own c (h c))
      where
        own : (c : ℕ) → ◌≡◌ {A = ℕ} (cond (eqb c c) 1 0) 0 → ⊥
        own c q = by_test (eqb c c) (λ t. let z : ◌≡◌ {A = ℕ} 1 0 = rw t at q in omega arith) (λ t. eqb-false c c t refl)

    entries_bare : (at : ℕ → MemNode) (j d : ℕ) → ((r : ℕ) → slots (rd x τ v) at j d (rd x τ v r) ≡ 0) → (es : List Entry)
        → ((c : ℕ) → naming c es ≡ 0) → slots_in (rd x τ v) at j d es ≡ 0
    entries_bare at j d ih [] h = refl
    entries_bare at j d ih (e ∷ es) h =
        let a = value_bare at j d ih e.value (λ c. omega (arith, h c)) in
        let b = entries_bare at j d ih es (λ c. omega (arith, h c)) in
        omega (arith, h d)

    pub bare : (at : ℕ → MemNode) (r j d : ℕ) → slots (rd x τ v) at j d (rd x τ v r) ≡ 0
    unfolding slots
    bare at r zero d = refl
    bare at r (suc j) d = entries_bare at j d (λ r. bare at r j d) (rd x τ v r).entries (node_bare r)

    -- an index node's children are on disk
    module _ (at : ℕ → MemNode) (t : BTreeInfo) (ord : x.order ≡ τ.order) (ks : t.key_size ≡ τ.ksize) (vs : t.val_size ≡ τ.vsize) where
      from_disks : (u : Node) (b : List ℕ) → eqb u.level 0 ≡ false → (i n : ℕ) → spans_hold u b i n ≡ true
          → AllDisk (entries_from u b i n)
      unfolding entries_from spans_hold
      from_disks u b z i zero h = tt
      from_disks u b z i (suc n) h =
          let (p, q) = and_split _ (spans_hold u b (suc i) n) h in (
            by_value u b i (span_held u (length b) (span_at u b i) p)
                (λ f e. absurd (clash f z))
                (λ y f g e. absurd (clash f z))
                (λ r f e. (r, e)),
            from_disks u b z (suc i) n q,
          )
        where
          clash : {t : Bool} → t ≡ true → t ≡ false → ⊥
          clash f z = let q : ◌≡◌ {A = ℕ} 1 0 = cc in omega arith

      load_disks : (p : Place) (bs : Bounds) (a : ℕ) (d : OnDisk) → load_block x.lent x.order p bs a ≡ ok d → 1 ≤ d.node.level
          → AllDisk d.entries
      unfolding on_disk
      load_disks p bs a d e lv =
          let k = load_parts x.lent x.order p bs a d e in
          let g = read_passed x.order p (bound_key bs.lower) (bound_key bs.upper) (block_at x.lent a) d k.read in
          let q = g.read in
          let b : List ℕ = block_at x.lent a in
          let l' : 1 ≤ (parsed p (block_at x.lent a)).level = subst (λ (z : OnDisk). 1 ≤ z.node.level) q lv in
          rw q (from_disks (parsed p b) b (ne_eqb (parsed p b).level 0 (λ y. omega arith)) 0 (parsed p b).nkeys
          (entries_spans p (parsed p b) b g.entries))

      pub seen_disks : (r : ℕ) (y : Seen) → seen x τ r ≡ ok y → 1 ≤ y.node.node.level → AllDisk y.node.entries
      seen_disks r y e lv = load_disks _ unbounded y.block y.node (seen_parts r y e).load lv

      pub root_disks : (p : Place) (a : ℕ) (d : OnDisk) → load_block x.lent x.order p unbounded a ≡ ok d → 1 ≤ d.node.level
          → AllDisk d.entries
      root_disks p a d e lv = load_disks p unbounded a d e lv
