-- The slots of a tree that meets the invariant hold together: where the lent sizes are right, no call is refused with 1. Assumes nothing.
use Rattle.std.specs.Prelude.{◌≡◌, List, [], ◌∷◌, Bool, cond, ◌&&◌, ◌||◌, ℕ, zero, suc, ◌+◌, ◌^◌, ◌<◌, get_or, leb, ltb}
use Rattle.std.proofs.Math.Path.{refl, sym, subst}
use Rattle.std.proofs.Common.{ap, ap₂, ◌∙◌}
use Rattle.std.proofs.Math.Bool.{true, false, not}
use native.Mathlib.Omega.{arith}
use Rattle.std.proofs.Math.ListN.{length}
use Rattle.std.proofs.Math.Dec.{eqb}
use borrow.Author.Tests.{le-leb, lt-ltb, eqb-true, eqb-false, eq-eqb, ne_eqb}
use Rattle.node.specs.Order.{known, keyed}
use Rattle.node.specs.Entry.{Entry, Val, ghost, leaf, disk, mem, rise_after, rising, every}
use Rattle.node.specs.Fit.{fixed}
use Rattle.node.specs.Slot.{MemNode, is_child, suit}
use Rattle.node.specs.laws.base.Tests.{by_test, never, and_split, and_left, and_right, and_both}
use Rattle.node.specs.laws.order.Order.{lt_rank}
use Rattle.node.specs.declared.info.BTreeInfo.{BTreeInfo}
use Rattle.tree.specs.Lent.{Lent, sizes_hold}
use Rattle.tree.specs.State.{State, no_node, node_at}
use Rattle.tree.specs.Hold.{key_fits, value_fits, child_holds, stands_on_disk, node_stands, node_holds, every_live}
use Rattle.tree.specs.Hold.{hold_together, info_holds, numbers_hold, lent_holds}
use Rattle.tree.specs.laws.trust.Open.{open_holds}
use Rattle.history.specs.Statement.{Start, Begins, Lends}
use Rattle.theorem.specs.model.Bounds.{Terms, K, Items, nil, cons, KeyOk, Row, value_sized}
use Rattle.theorem.specs.model.Lazy.{node_of, names, Child, Ok, ok_level, ok_live}
use Rattle.theorem.specs.steps.Grow.{names_apart}
use Rattle.theorem.specs.flush.Reach.{reach}
use Rattle.theorem.specs.model.Good.{Slot, Clean, Kept, found, Suits, Good}
use Rattle.theorem.specs.disk.Agree.{formed_parts}
use Rattle.theorem.specs.one.NamedOnce.{live_used, named_once_lem}

-- ---- keys that rise, of a leaf and of an index

module _ (τ : Terms) {P : ℕ → Entry → Type 0} (key : (m : ℕ) (e : Entry) → P m e → KeyOk τ e.key × (K τ e.key < m)) where
  after_rise : (k : List ℕ) → KeyOk τ k → {lo hi : ℕ} {es : List Entry} → K τ k < lo → Items (K τ) P lo hi es → rise_after τ.order k es ≡ true
  unfolding rise_after
  after_rise k g h (nil z) = refl
  after_rise k g h (cons {m = m} {e = e} z p r) =
      let (q, b) = key m e p in
      rw (lt_rank τ.order τ.most k e.key g.key q.key g.short q.short (omega arith)) (after_rise e.key q b r)

  items_rise : {lo hi : ℕ} {es : List Entry} → Items (K τ) P lo hi es → rising τ.order es ≡ true
  unfolding rising
  items_rise (nil z) = refl
  items_rise (cons {m = m} {e = e} z p r) = let (q, b) = key m e p in after_rise e.key q b r

-- a test that each entry passes
items_every : {K : List ℕ → ℕ} {P : ℕ → Entry → Type 0} (t : Entry → Bool) → ((m : ℕ) (e : Entry) → P m e → t e ≡ true)
    → {lo hi : ℕ} {es : List Entry} → Items K P lo hi es → every t es ≡ true
unfolding every
items_every t f (nil z) = refl
items_every t f (cons {m = m} {e = e} {es = es} z p r) = and_both (t e) (every t es) (f m e p) (items_every t f r)

-- ---- the slots

or_pass : (a b : Bool) → (a ≡ false → b ≡ true) → a || b ≡ true
or_pass true b f = refl
or_pass false b f = f refl

-- a test of every slot that is not dead
live_all : (t : ℕ → MemNode → Bool) (b : ℕ) (ms : List MemNode)
    → ((m : ℕ) → m < length ms → (get_or ms m no_node).dead ≡ false → t (b + m) (get_or ms m no_node) ≡ true) → every_live t b ms ≡ true
unfolding every_live
live_all t b [] f = refl
live_all t b (x ∷ xs) f =
    and_both (x.dead || t b x) (every_live t (suc b) xs)
    (or_pass x.dead (t b x) (λ d. let z : b + 0 ≡ b = omega arith in subst (λ (i : ℕ). t i x ≡ true) z (f 0 (omega arith) d)))
    (live_all t (suc b) xs (λ m lt d. let z : b + suc m ≡ suc b + m = omega arith in subst (λ (i : ℕ). t i (get_or xs m no_node) ≡ true) z
    (f (suc m) (omega arith) d)))

module _ (τ : Terms) (rd : ℕ → MemNode) (s : State) (o : s.order ≡ τ.order) (ks : s.info.key_size ≡ τ.ksize)
    (vs : s.info.val_size ≡ τ.vsize) where
  -- a length that is fixed, or free
  fixed_or : (n w : ℕ) → (eqb τ.ksize 0 || eqb n w) ≡ true → not (fixed s.info) || eqb n w ≡ true
  unfolding fixed
  fixed_or n w h = by_test (eqb τ.ksize 0) (λ t. rw (ks, t)) (λ t. rw (ks, t) (rw t at h))

  key_fits_lem : (k : List ℕ) → KeyOk τ k → key_fits s k ≡ true
  unfolding key_fits
  key_fits_lem k h =
      and_both (keyed s.order k) (not (fixed s.info) || eqb (length k) s.info.key_size)
      (rw o h.key.holds) (subst (λ (w : ℕ). not (fixed s.info) || eqb (length k) w ≡ true) (sym ks)
      (fixed_or (length k) τ.ksize h.fixed))

  abbrev fit : ℕ → Entry → Bool
  fit level e = key_fits s e.key && value_fits s e.value && suit (eqb level 0) e && child_holds s level e.value

  -- a leaf's entry
  row_value : (v : Val) → value_sized τ v ≡ true → (value_fits s v ≡ true) × (is_child v ≡ false) × ((level : ℕ) → child_holds s level v ≡ true)
  unfolding value_sized value_fits is_child child_holds
  row_value ghost h = (refl, refl, λ level. refl)
  row_value (leaf b) h = (
    subst (λ (w : ℕ). not (fixed s.info) || eqb (length b) w ≡ true) (sym vs) (fixed_or (length b) τ.vsize h),
    refl,
    λ level. refl,
  )
  row_value (disk r) h = never h refl
  row_value (mem c) h = never h refl

  row_fits : (m : ℕ) (e : Entry) → Row τ m e → fit 0 e ≡ true
  unfolding suit
  row_fits m e p = let (a, b, c) = row_value e.value p.value.sized in rw (key_fits_lem e.key p.key, a, b, c 0)

  -- an index entry: its child is not dead, and one level lower
  child_value : (l lo hi : ℕ) (v : Val) → is_child v ≡ true → Ok τ rd (node_at s) l lo hi (node_of rd (node_at s) v) → (value_fits s v ≡ true)
      × (child_holds s (suc l) v ≡ true)
  unfolding value_fits is_child child_holds node_of
  child_value l lo hi ghost h k = never h refl
  child_value l lo hi (leaf b) h k = never h refl
  child_value l lo hi (disk r) h k = (refl, refl)
  child_value l lo hi (mem c) h k =
      let d = ok_live τ rd (node_at s) l lo hi (node_at s c) k in (
        refl,
        rw (lt-ltb c (length s.nodes) (live_used s c d), d, ok_level τ rd (node_at s) l lo hi (node_at s c) k)
            (eq-eqb (l + 1) (suc l) (omega arith)),
      )

  child_fits : (l m : ℕ) (e : Entry) → Child τ (Ok τ rd (node_at s) l) (node_of rd (node_at s)) m e → fit (suc l) e ≡ true
  unfolding suit
  child_fits l m e p =
      let (a, c) = child_value l (K τ e.key) m e.value p.is_one p.ok in
      let z : eqb (suc l) 0 ≡ false = ne_eqb (suc l) 0 (λ q. omega arith) in
      rw (key_fits_lem e.key p.key, a, z, p.is_one, c)

  -- a node of the tree: each entry fits, and keys rise
  node_fits : (l lo hi : ℕ) (m : MemNode) → Ok τ rd (node_at s) l lo hi m → (every (fit m.level) m.entries ≡ true)
      × (rising s.order m.entries ≡ true)
  node_fits zero lo hi m h = (rw h.level (items_every (fit 0) row_fits h.items), rw o (items_rise τ (λ k e p. (p.key, p.below)) h.items))
  node_fits (suc l) lo hi m h = (
    rw h.level (items_every (fit (suc l)) (child_fits l) h.items),
    rw o (items_rise τ (λ k e p. (p.key, p.below)) h.items),
  )

-- ---- a slot that meets the invariant

module _ (g : Start) (τ : Terms) (suits : Suits g τ) (th : List ℕ) (s : State) (es : List Entry) (h : Good g τ th s es) where
  abbrev rd : ℕ → MemNode
  rd = found g τ

  abbrev at : ℕ → MemNode
  at = node_at s

  root_live : (at s.root).dead ≡ false
  root_live = ok_live τ rd at h.level h.lo h.hi (at s.root) h.tree

  -- a slot that is not dead is a node of the tree
  slot_ok : (c : ℕ) → c < length s.nodes → (at c).dead ≡ false → (l : ℕ) × (lo : ℕ) × (hi : ℕ) × Ok τ rd at l lo hi (at c)
  slot_ok c lt d =
      by_test (eqb c s.root)
      (λ t. let q : c ≡ s.root = eqb-true c s.root t in
      (h.level, h.lo, h.hi, subst (λ (z : ℕ). Ok τ rd at h.level h.lo h.hi (at z)) (sym q) h.tree))
      (λ t.
      let n : names c (mem s.root) ≡ 0 = names_apart c s.root (eqb-false c s.root t) in
      let o : ◌≡◌ {A = ℕ} (cond (at c).dead 0 1) 1 = rw d in
      let r = reach τ rd at h.level h.lo h.hi (at s.root) c h.tree (omega (arith, h.once c lt)) in
      (r.level, r.lo, r.hi, r.ok))

  index_filled : (c : ℕ) → Slot g τ s c → eqb (at c).level 0 || not (eqb (length (at c).entries) 0) ≡ true
  index_filled c k =
      or_pass (eqb (at c).level 0) (not (eqb (length (at c).entries) 0)) λ t.
      let f : 0 < length (at c).entries + cond (eqb c s.root) 0 0 = rw t at k.filled in
      let z : ◌≡◌ {A = ℕ} (cond (eqb c s.root) 0 0) 0 = by_test (eqb c s.root) (λ u. rw u) (λ u. rw u) in
      ap not (ne_eqb (length (at c).entries) 0 (λ q. omega arith))

  clean_stands : (c : ℕ) → Clean g τ s c → eqb (length (at c).block) 1 && (not s.virtual || eqb (length (at c).id) 1) ≡ true
  clean_stands c k = rw (k.block, k.id) (by_test s.virtual (λ t. rw t) (λ t. rw t))

  slot_stands : (c : ℕ) → Slot g τ s c → stands_on_disk s c (at c) ≡ true
  unfolding stands_on_disk
  slot_stands c k = by_test (at c).dirty (λ t. rw t (k.fit t)) (λ t. rw t (clean_stands c (k.clean t)))

  order_is : s.order ≡ τ.order
  order_is = h.order ∙ sym suits.order

  slot_holds_lem : (c : ℕ) → c < length s.nodes → (at c).dead ≡ false → node_holds s c (at c) ≡ true
  unfolding node_holds node_stands
  slot_holds_lem c lt d =
      let m : MemNode = at c in
      let k : Slot g τ s c = h.flat.each c lt d in
      let (l, lo, hi, w) = slot_ok c lt d in
      let (a, b) = node_fits τ rd s order_is (h.info.key ∙ sym suits.ksize) (h.info.val ∙ sym suits.vsize) l lo hi m w in
      rw (le-leb m.level 32 k.deep, index_filled c k, a, slot_stands c k, b)

  pub good_together : hold_together s ≡ true
  unfolding hold_together node_at
  good_together =
      let r : s.root < length s.nodes = live_used s s.root root_live in
      let e : every_live (node_holds s) 0 s.nodes ≡ true =
      live_all (node_holds s) 0 s.nodes (λ c lt d. let z : 0 + c ≡ c = omega arith in subst (λ (i : ℕ). node_holds s i (at c) ≡ true) (sym z)
      (slot_holds_lem c lt d)) in
      rw (lt-ltb s.root (length s.nodes) r, root_live, e) (named_once_lem g τ th s es h root_live)

-- ---- the tree's numbers, and what is lent

record Numbers (l : Lent) (s : State) : Type 0 where
  size : eqb s.info.node_size l.size ≡ true
  order : known s.order ≡ true
  info : info_holds s.info ≡ true
  map : eqb (length l.map) (cond s.virtual 1 0) ≡ true

numbers_parts : (l : Lent) (s : State) → numbers_hold l s ≡ true → Numbers l s
unfolding numbers_hold
numbers_parts l s h =
    let a : Bool = eqb s.info.node_size l.size in
    let m : Bool = eqb (length l.map) (cond s.virtual 1 0) in
    let (p, _) = and_split (sizes_hold l && a && known s.order && info_holds s.info && m) (leb (length s.nodes) l.slots) h in
    let (q, em) = and_split (sizes_hold l && a && known s.order && info_holds s.info) m p in
    let (r, ei) = and_split (sizes_hold l && a && known s.order) (info_holds s.info) q in
    let (t, eo) = and_split (sizes_hold l && a) (known s.order) r in
    record { size = and_right (sizes_hold l) a t; order = eo; info = ei; map = em }

info_kept : (t t₀ : BTreeInfo) → Kept t t₀ → info_holds t₀ ≡ true → info_holds t ≡ true
unfolding info_holds
info_kept t t₀ k h =
    let below : ℕ → Bool = λ n. ltb n (2 ^ 32) in
    let (a, _) = and_split (below t₀.flags && below t₀.key_size && below t₀.val_size && below t₀.longest_key)
    (below t₀.longest_val) h in
    let (b, _) = and_split (below t₀.flags && below t₀.key_size && below t₀.val_size) (below t₀.longest_key) a in
    let (c, v) = and_split (below t₀.flags && below t₀.key_size) (below t₀.val_size) b in
    let (f, e) = and_split (below t₀.flags) (below t₀.key_size) c in
    rw (k.flags, k.key, k.val, f, e, v, lt-ltb t.longest_key (2 ^ 32) k.longest_key, lt-ltb t.longest_val (2 ^ 32) k.longest_val)

-- the slots hold together after any history: what open was granted, and the invariant since
pub good_holds : (g : Start) (τ : Terms) → Begins g → Suits g τ → (th : List ℕ) (s : State) (es : List Entry) → Good g τ th s es → (l : Lent)
    → Lends g l → sizes_hold l ≡ true → lent_holds l s ≡ true
unfolding lent_holds numbers_hold
good_holds g τ begins suits th s es h l lends sizes =
    let l₀ : Lent = g.disk.lent in
    let s₀ : State = g.state in
    let n : Numbers l₀ s₀ = numbers_parts l₀ s₀ (and_left (numbers_hold l₀ s₀) (hold_together s₀)
    (open_holds l₀ g.root g.disk.order g.disk.xid s₀ begins.bytes begins.opens)) in
    let size : eqb s.info.node_size l.size ≡ true = ap₂ eqb h.info.node lends.same_size ∙ n.size in
    let order : known s.order ≡ true = ap known h.order ∙ (formed_parts g begins).order in
    let map : eqb (length l.map) (cond s.virtual 1 0) ≡ true =
    ap₂ (λ (a : List ℕ) (b : Bool). eqb (length a) (cond b 1 0)) lends.same_map h.virtual ∙ n.map in
    let few : leb (length s.nodes) l.slots ≡ true = le-leb (length s.nodes) l.slots (omega (arith, h.flat.few, lends.same_slots)) in
    rw (sizes, size, order, info_kept s.info s₀.info h.info n.info, map, few) (good_together g τ suits th s es h)
