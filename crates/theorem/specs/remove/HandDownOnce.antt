-- The root's place handed down: an only child that fits takes it, ids exchanged and blocks not, and the old root is dead; the invariant holds on.
-- Assumes nothing.
use Rattle.std.specs.Prelude.{◌≡◌, List, [], ◌∷◌, ◌++◌, Bool, false, cond, ◌||◌, ltb, eqb}
use Rattle.std.proofs.Math.Path.{refl, ap}
use Rattle.std.proofs.Common.{sym, ap₂, subst, ◌∙◌, append-nil, le_refl}
use Rattle.std.proofs.Math.Bool.{true}
use Prim.Native.Nat.{ℕ, suc, ◌+◌, ◌≤◌, ◌<◌}
use native.Mathlib.Omega.{arith}
use Rattle.std.proofs.Math.ListN.{length}
use borrow.Author.Tests.{ltb-true, ltb-false, eqb-true, eqb-false, eq-eqb, ne_eqb}
use Rattle.node.specs.Entry.{Entry, mem}
use Rattle.node.specs.Fit.{fits}
use Rattle.node.specs.Slot.{MemNode}
use Rattle.node.specs.laws.base.Tests.{by_test, never}
use Rattle.tree.specs.State.{State, node_at, put_node, with_nodes, with_root, with_info, with_counts, changed, marked_dirty, marked_dead, with_place}
use Rattle.tree.specs.laws.state.Edit.{Handed, handed_holds}
use Rattle.tree.specs.laws.state.State.{at_put_other, put_count}
use Rattle.tree.specs.Remove.{handed_down}
use Rattle.history.specs.Statement.{Start, uses}
use Rattle.theorem.specs.model.Bounds.{Terms, K}
use Rattle.theorem.specs.model.Lazy.{node_of, cont, total, names, slots, names_same, Child, Ok, ok_live}
use Rattle.theorem.specs.model.Lift.{Parts, parts, apart_holds, apart_sums, apart_uses}
use Rattle.theorem.specs.steps.Grow.{names_is, names_apart}
use Rattle.theorem.specs.model.Good.{Slot, Kept, Flat, found, Good}
use Rattle.theorem.specs.model.Places.{Replaced, replaced}
use Rattle.theorem.specs.remove.DeadSums.{part, part_dead, part_live, dead_sum, dead_blocks_lem, put_sum}
use Rattle.theorem.specs.steps.Parents as parents
use Rattle.theorem.specs.steps.EachSlotAfter as flats
use Rattle.theorem.specs.steps.Fit.{Sizes, fits_info}

-- ---- one step down

-- slot c is the root's only child, one level below, and would fit as root
pub record Heir (g : Start) (τ : Terms) (s : State) (th : List ℕ) (es : List Entry) (good : Good g τ th s es) (c : ℕ) : Type 0 where
  pub l : ℕ
  pub level : good.level ≡ suc l
  pub key : List ℕ
  pub row : (node_at s s.root).entries ≡ record { key = key; value = mem c } ∷ []
  pub dirty : (node_at s s.root).dirty ≡ true
  pub fit : fits s.info true (node_at s c).level (node_at s c).entries ≡ true
  pub some : 0 < s.info.node_count

module _ (g : Start) (τ : Terms) (s : State) (th : List ℕ) (es : List Entry) (good : Good g τ th s es) (c : ℕ) (heir : Heir g τ s th es good c) where
  abbrev rd : ℕ → MemNode
  rd = found g τ

  abbrev l : ℕ
  l = heir.l

  abbrev r : ℕ
  r = s.root

  abbrev e : Entry
  e = record { key = heir.key; value = mem c }

  node_c : node_of rd (node_at s) (mem c) ≡ node_at s c
  unfolding node_of
  node_c = refl

  tree : Ok τ rd (node_at s) (suc l) good.lo good.hi (node_at s r)
  tree = subst (λ (z : ℕ). Ok τ rd (node_at s) z good.lo good.hi (node_at s r)) heir.level good.tree

  sum : (d : ℕ) → slots rd (node_at s) good.level d (node_at s r) ≡ names d (mem c) + slots rd (node_at s) l d (node_at s c)
  sum d =
      ap (λ (z : ℕ). slots rd (node_at s) z d (node_at s r)) heir.level
      ∙ omega (arith, apart_uses rd (node_at s) l (node_at s r) [] e [] heir.row d, ap (slots rd (node_at s) l d) node_c)

  sums : (f : MemNode → ℕ) → total rd (node_at s) f good.level (node_at s r) ≡ f (node_at s r) + total rd (node_at s) f l (node_at s c)
  sums f =
      ap (λ (z : ℕ). total rd (node_at s) f z (node_at s r)) heir.level
      ∙ omega (arith, apart_sums rd (node_at s) l (node_at s r) [] e [] heir.row f, ap (total rd (node_at s) f l) node_c)

  holds_c : cont rd (node_at s) l (node_at s c) ≡ es
  holds_c =
      ap (cont rd (node_at s) l) (sym node_c) ∙ sym (append-nil _) ∙ sym (apart_holds rd (node_at s) l (node_at s r) [] e [] heir.row)
      ∙ ap (λ (z : ℕ). cont rd (node_at s) z (node_at s r)) (sym heir.level) ∙ good.holds

  own : Parts (K τ) (Child τ (Ok τ rd (node_at s) l) (node_of rd (node_at s))) good.lo good.hi good.lo [] e []
  own = parts good.lo [] (le_refl _) (λ h. absurd (omega arith)) (rw heir.row at tree.items)

  ok_c : Ok τ rd (node_at s) l (K τ heir.key) own.up_to (node_at s c)
  ok_c = rw node_c at own.own.ok

  live_r : (node_at s r).dead ≡ false
  live_r = tree.live

  live_c : (node_at s c).dead ≡ false
  live_c = ok_live τ rd (node_at s) l (K τ heir.key) own.up_to (node_at s c) ok_c

  in_use : (d : ℕ) → 1 ≤ names d (mem r) + slots rd (node_at s) good.level d (node_at s r) → d < length s.nodes
  in_use d h = by_test (ltb d (length s.nodes)) (λ t. ltb-true d _ t) (λ t. absurd (omega (arith, good.out d (ltb-false d _ t))))

  at_most : (d : ℕ) → names d (mem r) + slots rd (node_at s) good.level d (node_at s r) ≤ 1
  at_most d =
      by_test (ltb d (length s.nodes))
      (λ t. let h = good.once d (ltb-true d _ t) in
      by_test (node_at s d).dead (λ u. omega (arith, h, is0 (node_at s d).dead u)) (λ u. omega (arith, h, is1 (node_at s d).dead u)))
      (λ t. omega (arith, good.out d (ltb-false d _ t)))
    where
      is0 : (t : Bool) → t ≡ true → cond {A = ℕ} t 0 1 ≡ 0
      is0 t u = rw u

      is1 : (t : Bool) → t ≡ false → cond {A = ℕ} t 0 1 ≡ 1
      is1 t u = rw u

  used_r : r < length s.nodes
  used_r = in_use r (omega (arith, names_same r))

  used_c : c < length s.nodes
  used_c = in_use c (omega (arith, sum c, names_same c))

  apart : c ≡ r → ⊥
  apart q = omega (arith, names_is c r q, names_same c, sum c, at_most c)

  -- ---- the slots after

  abbrev old : MemNode
  old = marked_dead (with_place (node_at s r) (node_at s r).block (node_at s c).id)

  abbrev new : MemNode
  new = marked_dirty (with_place (node_at s c) (node_at s c).block (node_at s r).id)

  abbrev s' : State
  s' = put_node s r old

  abbrev u : State
  u = handed_down s c

  hd : Handed s c used_r used_c apart
  hd = handed_holds s c used_r used_c apart

  u_other : (d : ℕ) → (d ≡ r → ⊥) → (d ≡ c → ⊥) → node_at u d ≡ node_at s d
  unfolding handed_down with_info with_root node_at
  u_other d p q = at_put_other s' c new d q ∙ at_put_other s r old d p

  u_count : length u.nodes ≡ length s.nodes
  unfolding handed_down with_info with_root
  u_count = put_count s' c new ∙ put_count s r old

  u_root : u.root ≡ c
  unfolding handed_down with_info with_root
  u_root = refl

  -- the new root is dirty
  pub root_dirty : (node_at (handed_down s c) (handed_down s c).root).dirty ≡ true
  root_dirty = ap (λ (x : ℕ). (node_at u x).dirty) u_root ∙ hd.new_dirty

  u_virtual : u.virtual ≡ s.virtual
  unfolding handed_down with_info with_root put_node with_nodes
  u_virtual = refl

  u_dead : (f : MemNode → ℕ) → dead_sum f u.nodes ≡ dead_sum f s.nodes + f old
  unfolding handed_down with_info with_root marked_dead marked_dirty changed with_place
  u_dead f =
      let a = put_sum f s r old used_r in
      let b = put_sum f s' c new (omega (arith, used_c, put_count s r old)) in
      let x : part f (node_at s r) ≡ 0 = part_live f (node_at s r) live_r in
      let y : part f (node_at s' c) ≡ 0 = part_live f (node_at s' c) (ap (λ (m : MemNode). m.dead) (at_put_other s r old c apart) ∙ live_c) in
      let z : part f new ≡ 0 = part_live f new live_c in
      let w : part f old ≡ f old = part_dead f old refl in
      omega arith

  below : (d : ℕ) → 1 ≤ slots rd (node_at s) l d (node_at s c) → node_at u d ≡ node_at s d
  below d h = u_other d (λ q. omega (arith, names_is d r q, sum d, at_most d)) (λ q. omega (arith, names_is d c q, sum d, at_most d))

  old_block : old.block ≡ (node_at s r).block
  unfolding marked_dead with_place
  old_block = refl

  as_root : Replaced τ rd (node_at s) (node_at u) (node_at s c) (node_at u c) hd.new_level hd.new_entries hd.new_dead l
  as_root = replaced τ rd (node_at s) (node_at u) (node_at s c) (node_at u c) hd.new_level hd.new_entries hd.new_dead l below

  -- ---- each slot by itself

  kept : Kept u.info g.state.info
  unfolding handed_down with_info with_root with_counts
  kept =
      let h = good.info in
      record {
        flags = h.flags;
        node = h.node;
        key = h.key;
        val = h.val;
        longest_key = h.longest_key;
        longest_val = h.longest_val;
        key_count = h.key_count;
        node_count = let z = h.node_count in omega arith;
      }

  sizes : Sizes s.info u.info
  unfolding handed_down with_info with_root with_counts
  sizes = record { flags = refl; node = refl; key = refl; val = refl }

  fits_same : (t : Bool) (j : ℕ) (xs : List Entry) → fits u.info t j xs ≡ fits s.info t j xs
  fits_same t j xs = fits_info s.info u.info sizes t j xs

  was_c : Slot g τ s c
  was_c = good.flat.each c used_c live_c

  slot_c : Slot g τ u c
  slot_c =
      let filled : 0 < length (node_at s c).entries + cond (eqb c r) (cond (eqb (node_at s c).level 0) 1 0) 0 = was_c.filled in
      let n : eqb c r ≡ false = ne_eqb c r apart in
      let some : 0 < length (node_at s c).entries + 0 = rw n at filled in
      let long : length (node_at u c).entries ≡ length (node_at s c).entries = ap length hd.new_entries in
      record {
        deep = rw hd.new_level was_c.deep;
        filled = omega arith;
        one_block = rw hd.new_block was_c.one_block;
        one_id = rw hd.new_id (good.flat.each r used_r live_r).one_id;
        fit = λ h. ap₂ (λ (x : ℕ) (y : List Entry). fits u.info (eqb c u.root) x y) hd.new_level hd.new_entries
            ∙ ap (λ (x : ℕ). fits u.info (eqb c x) (node_at s c).level (node_at s c).entries) u_root
            ∙ ap (λ (x : Bool). fits u.info x (node_at s c).level (node_at s c).entries) (eq-eqb c c refl) ∙ fits_same true _ _ ∙ heir.fit;
        clean = λ h. never hd.new_dirty h;
      }

  -- another slot that is not dead lies below the new root, and names neither it nor the old one
  module _ (d : ℕ) (used : d < length s.nodes) (live : (node_at s d).dead ≡ false) (p : d ≡ r → ⊥) (q : d ≡ c → ⊥) where
    is_below : 1 ≤ slots rd (node_at s) l d (node_at s c)
    is_below =
        let a = good.once d used in
        let z : cond {A = ℕ} (node_at s d).dead 0 1 ≡ 1 = rw live in
        omega (arith, sum d, names_apart d r p, names_apart d c q)

    kid_same : (k : ℕ) → 1 ≤ parents.namings k (node_at s d).entries → node_at u k ≡ node_at s k
    kid_same k h = below k (parents.below τ rd (node_at s) l (K τ heir.key) own.up_to (node_at s c) ok_c d k h is_below)

    kid : (k : ℕ) → 1 ≤ parents.namings k (node_at s d).entries → flats.Child s u k
    kid k h =
        let e : node_at u k ≡ node_at s k = kid_same k h in
        record { id = ap (λ (m : MemNode). m.id) e; block = ap (λ (m : MemNode). m.block) e; clean = λ v i. ap (λ (m : MemNode). m.dirty) e ∙ i }

    slot_d : Slot g τ u d
    slot_d =
        let was : Slot g τ s d = good.flat.each d used live in
        let same : node_at u d ≡ node_at s d = u_other d p q in
        let nr : eqb d r ≡ false = ne_eqb d r p in
        let nc : eqb d u.root ≡ false = ap (eqb d) u_root ∙ ne_eqb d c q in
        record {
          deep = rw same was.deep;
          filled =
              let h : 0 < length (node_at s d).entries + cond (eqb d r) (cond (eqb (node_at s d).level 0) 1 0) 0 = was.filled in
              let some : 0 < length (node_at s d).entries + 0 = rw nr at h in
              let long : length (node_at u d).entries ≡ length (node_at s d).entries = ap (λ (m : MemNode). length m.entries) same in
              omega arith;
          one_block = rw same was.one_block;
          one_id = rw same was.one_id;
          fit = λ h. ap₂ (λ (x : MemNode) (t : Bool). fits u.info t x.level x.entries) same (nc ∙ sym nr) ∙ fits_same (eqb d r) _ _
              ∙ was.fit (ap (λ (m : MemNode). m.dirty) (sym same) ∙ h);
          clean = λ h. flats.clean_kept g τ s u d same u_virtual kid p (λ z. q (z ∙ u_root))
              (was.clean (ap (λ (m : MemNode). m.dirty) (sym same) ∙ h));
        }

  more : (a : ℕ) (xs ys : List ℕ) → 1 ≤ uses a xs → 1 ≤ uses a (xs ++ ys)
  more a xs ys h = omega (arith, flats.uses_append a xs ys)

  flat : Flat g τ (th ++ (node_at s c).block) u
  flat =
      record {
        few = let h = good.flat.few in omega (arith, u_count);
        each = λ d h k.
            by_test (eqb d c)
            (λ t. let z : d ≡ c = eqb-true d c t in rw z slot_c)
            (λ t. let q : d ≡ c → ⊥ = eqb-false d c t in
            by_test (eqb d r)
            (λ v. let z : d ≡ r = eqb-true d r v in never (ap (λ (x : ℕ). (node_at u x).dead) z ∙ hd.old_dead) k)
            (λ v. let p : d ≡ r → ⊥ = eqb-false d r v in
            slot_d d (omega (arith, u_count)) (ap (λ (m : MemNode). m.dead) (sym (u_other d p q)) ∙ k) p q));
        dirt = λ d h. root_dirty;
        touched = λ d h m a i.
            by_test (eqb d c)
            (λ t. let z : d ≡ c = eqb-true d c t in
            let y : (node_at u d).block ≡ (node_at s c).block = ap (λ (x : ℕ). (node_at u x).block) z ∙ hd.new_block in
            let w : uses a (node_at u d).block ≡ uses a (node_at s c).block = ap (uses a) y in
            omega (arith, flats.uses_append a th (node_at s c).block))
            (λ t. let q : d ≡ c → ⊥ = eqb-false d c t in
            by_test (eqb d r)
            (λ v. let z : d ≡ r = eqb-true d r v in
            let y : (node_at u d).block ≡ (node_at s r).block = ap (λ (x : ℕ). (node_at u x).block) z ∙ hd.old_block in
            more a th _ (good.flat.touched r used_r (dirty_or (node_at s r).dead heir.dirty) a (rw y at i)))
            (λ v.
            let same : node_at u d ≡ node_at s d = u_other d (eqb-false d r v) q in
            more a th _ (good.flat.touched d (omega (arith, u_count)) (rw same at m) a (rw same at i))));
      }
    where
      dirty_or : (t : Bool) → (node_at s r).dirty ≡ true → ((node_at s r).dirty || t) ≡ true
      dirty_or t h = rw h

  -- ---- the invariant

  pub good_handed : Good g τ (th ++ (node_at s c).block) u es
  unfolding handed_down with_info with_root with_counts put_node with_nodes
  good_handed =
      record {
        order = good.order;
        virtual = good.virtual;
        xid = good.xid;
        subtype = good.subtype;
        info = kept;
        level = l;
        lo = K τ heir.key;
        hi = own.up_to;
        tree = as_root.ok (K τ heir.key) own.up_to ok_c;
        holds = as_root.holds ∙ holds_c;
        key_count = good.key_count;
        node_count =
            let h = good.node_count in
            let z = heir.some in
            omega (arith, as_root.sums (λ m. 1), sums (λ m. 1));
        once = λ d h.
            let k : d < length s.nodes = omega (arith, u_count) in
            by_test (eqb d r)
            (λ t. let z : d ≡ r = eqb-true d r t in
            let y : (node_at u d).dead ≡ true = ap (λ (x : ℕ). (node_at u x).dead) z ∙ hd.old_dead in
            rw y (omega (arith, as_root.uses d, sum d, at_most d, names_is d r z)))
            (λ t.
            let p : d ≡ r → ⊥ = eqb-false d r t in
            let y : (node_at u d).dead ≡ (node_at s d).dead = by_test (eqb d c)
            (λ v. let z : d ≡ c = eqb-true d c v in rw z hd.new_dead)
            (λ v. ap (λ (m : MemNode). m.dead) (u_other d p (eqb-false d c v))) in
            rw y (omega (arith, good.once d k, as_root.uses d, sum d, names_apart d r p)));
        out = λ d h. omega (arith, good.out d (omega (arith, u_count)), as_root.uses d, sum d);
        flat = flat;
        blocks = λ a.
            let f : MemNode → ℕ = λ m. uses a m.block in
            let x : f (node_at u c) ≡ f (node_at s c) = ap (uses a) hd.new_block in
            let y : f old ≡ f (node_at s r) = ap (uses a) old_block in
            omega (arith, good.blocks a, as_root.sums f, sums f, u_dead f, dead_blocks_lem a u.nodes, dead_blocks_lem a s.nodes);
        ids = λ v i.
            let f : MemNode → ℕ = λ m. uses i m.id in
            let x : f (node_at u c) ≡ f (node_at s r) = ap (uses i) hd.new_id in
            let h = good.ids v i in
            omega (arith, as_root.sums f, sums f);
        root_id = λ v. hd.new_id ∙ good.root_id v;
        still = λ h. never hd.new_dirty h;
      }
