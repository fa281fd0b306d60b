-- An accepted flush of a tree that meets the invariant: every reached slot is done, and the books hold. Assumes nothing.
use Rattle.std.specs.Prelude.{◌≡◌, List, [], map, Bool, true, false, cond, ℕ, zero, suc, ◌+◌, ◌-◌, ◌*◌, ◌^◌, ◌≤◌, ◌<◌, length, eqb, leb, ltb}
use Rattle.std.proofs.Common.{sym, ap, subst, ◌∙◌, arith, leb-true, leb-false, ltb-true, ltb-false}
use Rattle.node.specs.Entry.{Entry, mem}
use Rattle.node.specs.Fit.{fits}
use Rattle.node.specs.Pack.{pack_node, numbered}
use Rattle.node.specs.Slot.{MemNode}
use Rattle.node.specs.laws.pack.Layout.{length_pack_node}
use Rattle.node.specs.laws.base.Tests.{by_test}
use Rattle.tree.specs.Lent.{Lent, blocks}
use Rattle.tree.specs.State.{State, node_at}
use Rattle.tree.specs.Hold.{lent_holds}
use Rattle.tree.specs.Load.{address_of}
use Rattle.flush.specs.Space.{Space, usable, space_holds}
use Rattle.flush.specs.Flush.{Flushing, build_of, dead_blocks, dead_ids, dirty_reached, ids_wanted, flushed}
use Rattle.history.specs.Statement.{Start, Begins, Lends, LendsFlush, uses, tree_blocks, old_ids}
use Rattle.theorem.specs.model.Bounds.{Terms}
use Rattle.theorem.specs.model.Lazy.{total, names, slots, names_same, Ok}
use Rattle.theorem.specs.model.Good.{Slot, Suits, Good, found}
use Rattle.theorem.specs.flush.Writes.{one_of}
use Rattle.theorem.specs.model.Sums.{sum_below, sum_same, sum_plus}
use Rattle.theorem.specs.flush.SlotSums.{off, counted, sum_named}
use Rattle.theorem.specs.flush.Reach.{reach}
use Rattle.theorem.specs.flush.Packed.{numbered_fits}
use Rattle.theorem.specs.flush.Seen.{bare}
use Rattle.theorem.specs.flush.Sizes.{Numbers, numbers}

-- before the first write
unfoldable pub at_first : Lent → Space → State → ℕ → Flushing
at_first l p s next =
    record {
      image = l.image;
      space = p;
      nodes = s.nodes;
      next = next;
      freed = dead_blocks s.nodes;
      removed =
          dead_ids s.virtual s.nodes;
      moved = [];
      allocated = 0;
    }

-- what an accepted flush has passed; and of the disk as it was opened: images that agree on its old blocks map ids alike, no block and no id is one
-- of two nodes
pub record Setting (g : Start) (τ : Terms) (th : List ℕ) (s : State) (es : List Entry) (l : Lent) (p : Space) (xid next : ℕ) : Type 0 where
  pub begins : Begins g
  pub suits : Suits g τ
  pub good : Good g τ th s es
  pub lends : LendsFlush g l p xid next (flushed l p s xid next)
  pub held : lent_holds l s ≡ true
  pub space : space_holds l.size (blocks l) p ≡ true
  pub enough : dirty_reached s ≤ usable l.size p
  pub ids : next + ids_wanted s ≤ 2 ^ 64 - 1
  pub address_same_lem : (l : Lent) → Lends g l → (r : ℕ) → address_of l g.disk.xid r ≡ address_of g.disk.lent g.disk.xid r
  pub blocks_once : (a : ℕ) → uses a (tree_blocks g) ≤ 1
  pub ids_once : g.state.virtual ≡ true → (i : ℕ) → uses i (old_ids g) ≤ 1

module _ (g : Start) (τ : Terms) (th : List ℕ) (s : State) (es : List Entry) (l : Lent) (p : Space) (xid next : ℕ)
    (k : Setting g τ th s es l p xid next) where
  abbrev rd : ℕ → MemNode
  rd = found g τ

  abbrev L : ℕ
  L = k.good.level

  abbrev root : MemNode
  root = node_at s s.root

  abbrev n : ℕ
  n = blocks l

  abbrev none_below : (at : ℕ → MemNode) (r j d : ℕ) → slots rd at j d (rd r) ≡ 0
  none_below = bare g.disk τ g.state.virtual

  pub lent : Numbers l s
  lent = numbers l s k.held

  -- a slot that stands in the tree
  pub record In (c : ℕ) : Type 0 where
    pub used : c < length s.nodes
    pub live : (node_at s c).dead ≡ false
    pub level : ℕ
    pub lo : ℕ
    pub hi : ℕ
    pub ok : Ok τ (found g τ) (node_at s) level lo hi (node_at s c)
    pub less : (f : MemNode → ℕ) → total (found g τ) (node_at s) f level (node_at s c) ≤ total (found g τ) (node_at s) f k.good.level
        (node_at s s.root)
    pub slot : Slot g τ s c

  in_use : (c : ℕ) → 1 ≤ names c (mem s.root) + slots rd (node_at s) L c root → c < length s.nodes
  in_use c h = by_test (ltb c (length s.nodes)) (λ t. ltb-true c _ t) (λ t. absurd (omega (arith, k.good.out c (ltb-false c _ t))))

  not_dead : (c : ℕ) → 1 ≤ names c (mem s.root) + slots rd (node_at s) L c root → (node_at s c).dead ≡ false
  not_dead c h =
      by_test (node_at s c).dead
      (λ t. let z : ◌≡◌ {A = ℕ} (cond (node_at s c).dead 0 1) 0 = rw t in absurd (omega (arith, k.good.once c (in_use c h))))
      (λ t. t)

  pub in_of : (c : ℕ) → 1 ≤ names c (mem s.root) + slots (found g τ) (node_at s) k.good.level c (node_at s s.root) → In c
  in_of c h =
      by_test (leb 1 (names c (mem s.root)))
      (λ t.
      let e : c ≡ s.root = one_of c s.root (leb-true 1 _ t) in
      record {
        used = in_use c h;
        live = not_dead c h;
        level = L;
        lo = k.good.lo;
        hi = k.good.hi;
        ok = subst (λ (z : ℕ). Ok τ rd (node_at s) L k.good.lo k.good.hi (node_at s z)) (sym e) k.good.tree;
        less = λ f. let q : total rd (node_at s) f L (node_at s c) ≡ total rd (node_at s) f L root =
            ap (λ (z : ℕ). total rd (node_at s) f L (node_at s z)) e in omega arith;
        slot = k.good.flat.each c (in_use c h) (not_dead c h);
      })
      (λ t.
      let z = leb-false 1 (names c (mem s.root)) t in
      let r = reach τ rd (node_at s) L k.good.lo k.good.hi root c k.good.tree (omega arith) in
      record {
        used = in_use c h;
        live = not_dead c h;
        level = r.level;
        lo = r.lo;
        hi = r.hi;
        ok = r.ok;
        less = r.sums_less;
        slot = k.good.flat.each c (in_use c h) (not_dead c h);
      })

  least_96 : 96 ≤ s.info.node_size
  least_96 = let h = lent.size.least in let e = lent.node in omega arith

  pub fits_numbered : (c : ℕ) (f : ℕ → ℕ) → In c → (node_at s c).dirty ≡ true
      → fits s.info (eqb c s.root) (node_at s c).level (map (numbered f) (node_at s c).entries) ≡ true
  fits_numbered c f i t = numbered_fits f s.info (eqb c s.root) (node_at s c).level (node_at s c).entries ∙ i.slot.fit t

  pub packs : (c oid : ℕ) (f : ℕ → ℕ) → In c → (node_at s c).dirty ≡ true
      → length (pack_node (build_of s xid oid c (node_at s c)) (map (numbered f) (node_at s c).entries)) ≡ s.info.node_size
  unfolding build_of
  packs c oid f i t = length_pack_node (build_of s xid oid c (node_at s c)) (map (numbered f) (node_at s c).entries) least_96 (fits_numbered c f i t)

  -- ---- sums over the tree are sums over its slots

  -- at₂: the same slots with other blocks and ids
  pub live_total : (at₂ : ℕ → MemNode) → ((c : ℕ) → (at₂ c).entries ≡ (node_at s c).entries) → (f : MemNode → ℕ)
      → total (found g τ) at₂ f k.good.level (at₂ s.root)
      ≡ sum_below (λ c. cond (node_at s c).dead 0 (f (at₂ c))) (length s.nodes) + off (found g τ) (node_at s) f k.good.level (node_at s s.root)
  live_total at₂ same f =
      let N : ℕ = length s.nodes in
      let a = counted τ rd (node_at s) at₂ none_below same f (length s.nodes) L root (at₂ s.root) (same s.root)
      (λ c h. in_use c (omega arith)) in
      let own : sum_below (λ c. names c (mem s.root) * f (at₂ c)) (length s.nodes) ≡ f (at₂ s.root) =
      sum_named (λ c. f (at₂ c)) (length s.nodes) s.root (in_use s.root (omega (arith, names_same s.root))) in
      let b = sum_plus (λ c. names c (mem s.root) * f (at₂ c)) (λ c. slots rd (node_at s) L c root * f (at₂ c)) (length s.nodes) in
      let d : sum_below (λ c. names c (mem s.root) * f (at₂ c) + slots rd (node_at s) L c root * f (at₂ c)) (length s.nodes) ≡ sum_below
      (λ c. cond (node_at s c).dead 0 (f (at₂ c))) (length s.nodes) =
      sum_same _ _ (length s.nodes) (λ c lt. one c (node_at s c).dead (names c (mem s.root)) (slots rd (node_at s) L c root) (f (at₂ c))
      (k.good.once c lt)) in
      omega (arith, a, own, b, d)
    where
      one : (c : ℕ) (dead : Bool) (a b y : ℕ) → a + b ≡ cond dead 0 1 → a * y + b * y ≡ cond dead 0 y
      one c true a b y h = let z : a ≡ 0 = omega arith in let z' : b ≡ 0 = omega arith in rw (z, z') (omega arith)
      one c false zero b y h = let z : b ≡ 1 = omega arith in rw z (omega arith)
      one c false (suc a) b y h = let z : a ≡ 0 = omega arith in let z' : b ≡ 0 = omega arith in rw (z, z') (omega arith)
