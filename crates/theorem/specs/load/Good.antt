-- The invariant under loads: what it says of the root, and that it is kept where a child on disk is brought into the next slot. Assumes nothing.
use Rattle.std.specs.Prelude.{◌≡◌, List, [], ◌∷◌, ◌++◌, Bool, true, false, cond, ℕ, suc, ◌+◌, ◌≤◌, ◌<◌, length, ltb, eqb}
use Rattle.std.proofs.Math.Path.{refl}
use Rattle.std.proofs.Common.{sym, ap, ap₂, subst, ◌∙◌, arith, ltb-true, ltb-false, eqb-true}
use Rattle.std.proofs.lemmas.Bool.{eqb-false}
use Rattle.node.specs.Entry.{Entry, disk, mem}
use Rattle.node.specs.Slot.{MemNode}
use Rattle.node.specs.laws.base.Tests.{by_test}
use Rattle.node.specs.declared.info.BTreeInfo.{BTreeInfo}
use Rattle.tree.specs.Lent.{Lent}
use Rattle.tree.specs.State.{State, node_at, put_node, add_node, with_nodes, with_entries}
use Rattle.flush.specs.Flush.{dead_blocks}
use Rattle.history.specs.Walk.{map_blocks}
use Rattle.history.specs.Statement.{Start, uses, tree_blocks, old_blocks, Begins}
use Rattle.theorem.specs.model.Bounds.{Terms}
use Rattle.theorem.specs.model.Lazy.{cont, total, names, slots, Ok, ok_level, ok_live}
use Rattle.theorem.specs.steps.LeafAndKeys.{Once}
use Rattle.theorem.specs.steps.Grow.{names_apart}
use Rattle.theorem.specs.steps.Way.{Owned}
use Rattle.theorem.specs.model.Good.{Flat, found, Old, Kept, Good}
use Rattle.theorem.specs.load.Loads.{Blind, live_used, Loads, loads_slot}
use Rattle.theorem.specs.load.Fetched.{fetched, fetched_count, fetched_loads, fetched_old, fetched_new}
use Rattle.theorem.specs.load.Clean.{keeps_id, keeps_dirty, keeps_dead, new_live, flat_fetched, fetched_dead}

uses_append : (a : ℕ) (xs ys : List ℕ) → uses a (xs ++ ys) ≡ uses a xs + uses a ys
unfolding uses
uses_append a [] ys = omega arith
uses_append a (x ∷ xs) ys = let h = uses_append a xs ys in omega arith

-- sums over nodes, blocks and ids do not look at entries
pub blocks_blind : (a : ℕ) → Blind (λ m. uses a m.block)
unfolding with_entries
blocks_blind a m es = refl

pub ids_blind : (a : ℕ) → Blind (λ m. uses a m.id)
unfolding with_entries
ids_blind a m es = refl

-- ---- of the invariant alone

module _ (g : Start) (τ : Terms) (th : List ℕ) (l : Lent) (s : State) (es : List Entry) (h : Good g τ th s es) where
  pub good_root : s.root < length s.nodes
  good_root = live_used s s.root (ok_live τ (found g τ) (node_at s) h.level h.lo h.hi (node_at s s.root) h.tree)

  -- the blocks of the tree are old
  pub good_owned : Owned τ (found g τ) l (Old g) s h.level s.root
  unfolding old_blocks
  good_owned a p = omega (arith, p, h.blocks a, uses_append a (tree_blocks g) (map_blocks g.disk g.disk.lent.map))

  pub good_once : Once τ (found g τ) s h.level s.root
  good_once =
      record {
        once = λ c.
            by_test (ltb c (length s.nodes))
            (λ t. most (node_at s c).dead _ (h.once c (ltb-true c (length s.nodes) t)))
            (λ t. omega (arith, h.out c (ltb-false c (length s.nodes) t)));
        used = λ c p.
            by_test (ltb c (length s.nodes))
            (λ t. ltb-true c (length s.nodes) t)
            (λ t. absurd (omega (arith, p, h.out c (ltb-false c (length s.nodes) t))));
      }
    where
      most : (t : Bool) (n : ℕ) → n ≡ cond t 0 1 → n ≤ 1
      most true n e = omega arith
      most false n e = omega arith

-- the invariant after loads, from what it says of the slots
good_loads : (g : Start) (τ : Terms) (th : List ℕ) (s u : State) (es : List Entry) (h : Good g τ th s es) → Loads τ (found g τ) s u
    → u.subtype ≡ s.subtype
    → ((c : ℕ) → c < length u.nodes
    → names c (mem s.root) + slots (found g τ) (node_at u) h.level c (node_at u s.root) ≡ cond (node_at u c).dead 0 1)
    → ((c : ℕ) → length u.nodes ≤ c → names c (mem s.root) + slots (found g τ) (node_at u) h.level c (node_at u s.root) ≡ 0)
    → Flat g τ th u → dead_blocks u.nodes ≡ dead_blocks s.nodes → (node_at u s.root).id ≡ (node_at s s.root).id
    → (node_at u s.root).dirty ≡ (node_at s s.root).dirty → Good g τ th u es
good_loads g τ th s u es h ld sub one out flat dead id dirty =
    let m = loads_slot τ (found g τ) s u ld s.root h.level h.lo h.hi h.tree in
    let st = ld.still in
    let rt : s.root ≡ u.root = sym st.root in
    let sums : (f : MemNode → ℕ) → Blind f
    → total (found g τ) (node_at u) f h.level (node_at u u.root) ≡ total (found g τ) (node_at s) f h.level (node_at s s.root) =
    λ f b. ap (λ (z : ℕ). total (found g τ) (node_at u) f h.level (node_at u z)) st.root ∙ m.sums f b in
    record {
      order = st.order ∙ h.order;
      virtual = st.virtual ∙ h.virtual;
      xid = st.xid ∙ h.xid;
      subtype = sub ∙ h.subtype;
      info = subst (λ (z : BTreeInfo). Kept z g.state.info) (sym st.info) h.info;
      level = h.level;
      lo = h.lo;
      hi = h.hi;
      tree = subst (λ (z : ℕ). Ok τ (found g τ) (node_at u) h.level h.lo h.hi (node_at u z)) rt m.ok;
      holds = ap (λ (z : ℕ). cont (found g τ) (node_at u) h.level (node_at u z)) st.root ∙ m.holds ∙ h.holds;
      key_count = ap (λ (z : BTreeInfo). z.key_count) st.info ∙ h.key_count;
      node_count = ap (λ (z : BTreeInfo). z.node_count) st.info ∙ h.node_count ∙ sym (sums (λ m. 1) (λ m es. refl));
      once = subst (λ (z : ℕ). (c : ℕ) → c < length u.nodes → names c (mem z) + slots (found g τ) (node_at u) h.level c (node_at u z) ≡ cond
          (node_at u c).dead 0 1) rt one;
      out = subst (λ (z : ℕ). (c : ℕ) → length u.nodes ≤ c → names c (mem z) + slots (found g τ) (node_at u) h.level c (node_at u z) ≡ 0) rt out;
      flat = flat;
      blocks = λ a. ap₂ ◌+◌ (sums (λ m. uses a m.block) (blocks_blind a)) (ap (uses a) dead) ∙ h.blocks a;
      ids = λ v i. let p = h.ids (sym st.virtual ∙ v) i in omega (arith, p, sums (λ m. uses i m.id) (ids_blind i));
      root_id = λ v. ap (λ (z : ℕ). (node_at u z).id) st.root ∙ id ∙ h.root_id (sym st.virtual ∙ v);
      still = λ d. st.info ∙ h.still (sym dirty ∙ ap (λ (z : ℕ). (node_at u z).dirty) rt ∙ d);
    }

-- ---- a child that was on disk is in the next slot

module _ (g : Start) (τ : Terms) (th : List ℕ) (begins : Begins g) (s : State) (es : List Entry) (h : Good g τ th s es) (n j r lo hi : ℕ)
    (xs : List Entry) (k : List ℕ) (ys : List Entry)
    (row : (node_at s n).entries ≡ xs ++ record { key = k; value = disk r } ∷ ys) (okn : Ok τ (found g τ) (node_at s) (suc j) lo hi (node_at s n))
    (room : length s.nodes < g.disk.lent.slots)
    (live : (found g τ r).dead ≡ false) (bare : (at : ℕ → MemNode) (l d : ℕ) → slots (found g τ) at l d (found g τ r) ≡ 0) where
  n_live : (node_at s n).dead ≡ false
  n_live = ok_live τ (found g τ) (node_at s) (suc j) lo hi (node_at s n) okn

  pub used : n < length s.nodes
  used = live_used s n n_live

  pub high : (node_at s n).level ≡ suc j
  high = ok_level τ (found g τ) (node_at s) (suc j) lo hi (node_at s n) okn

  top : s.root < length s.nodes
  top = live_used s s.root (ok_live τ (found g τ) (node_at s) h.level h.lo h.hi (node_at s s.root) h.tree)

  abbrev pub got : State
  got = fetched τ (found g τ) s n j r xs k ys row used high

  pub got_loads : Loads τ (found g τ) s got
  got_loads = fetched_loads τ (found g τ) s n j r xs k ys row used high

  got_count : length got.nodes ≡ suc (length s.nodes)
  got_count = fetched_count τ (found g τ) s n j r xs k ys row used high

  got_subtype : got.subtype ≡ s.subtype
  unfolding add_node put_node with_nodes
  got_subtype = refl

  got_once : (c : ℕ) → c < length got.nodes
      → names c (mem s.root) + slots (found g τ) (node_at got) h.level c (node_at got s.root) ≡ cond (node_at got c).dead 0 1
  got_once c lt =
      by_test (eqb c (length s.nodes))
      (λ t.
      let e : c ≡ length s.nodes = eqb-true c (length s.nodes) t in
      let new : slots (found g τ) (node_at got) h.level (length s.nodes) (node_at got s.root) ≡ slots (found g τ) (node_at s) h.level n
      (node_at s s.root) + names n (mem s.root) =
      fetched_new τ (found g τ) s n j r xs k ys row used high s.root h.level h.lo h.hi h.tree in
      let was : names n (mem s.root) + slots (found g τ) (node_at s) h.level n (node_at s s.root) ≡ 1 =
      h.once n used ∙ ap (λ (z : Bool). cond z 0 1) n_live in
      let dead : (node_at got (length s.nodes)).dead ≡ false =
      new_live g τ th begins s n j r xs k ys row used high h.virtual top room live bare h.flat in
      rw (e, dead) (omega (arith, new, was, names_apart (length s.nodes) s.root (omega (arith, top)))))
      (λ t.
      let f : c ≡ length s.nodes → ⊥ = eqb-false c (length s.nodes) t in
      let old : c < length s.nodes = omega (arith, lt, got_count) in
      rw (
        keeps_dead g τ th begins s n j r xs k ys row used high h.virtual top room live bare h.flat c old,
        fetched_old τ (found g τ) s n j r xs k ys row used high s.root h.level h.lo h.hi c h.tree f,
      )
      (h.once c old))

  got_out : (c : ℕ) → length got.nodes ≤ c → names c (mem s.root) + slots (found g τ) (node_at got) h.level c (node_at got s.root) ≡ 0
  got_out c ge =
      rw (fetched_old τ (found g τ) s n j r xs k ys row used high s.root h.level h.lo h.hi c h.tree (omega (arith, ge, got_count)))
      (h.out c (omega (arith, ge, got_count)))

  pub got_good : Good g τ th got es
  got_good =
      good_loads g τ th s got es h got_loads got_subtype got_once got_out
      (flat_fetched g τ th begins s n j r xs k ys row used high h.virtual top room live bare h.flat)
      (fetched_dead g τ th begins s n j r xs k ys row used high h.virtual top room live bare h.flat)
      (keeps_id g τ th begins s n j r xs k ys row used high h.virtual top room live bare h.flat s.root top)
      (keeps_dirty g τ th begins s n j r xs k ys row used high h.virtual top room live bare h.flat s.root top)
