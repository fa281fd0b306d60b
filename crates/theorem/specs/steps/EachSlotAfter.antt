-- The slots by themselves after an edit on a way: a dirty one fits, a clean one is the node that its block holds, and what flush would free the edit
-- passed through. Assumes nothing.
use Rattle.std.specs.Prelude.{◌≡◌, List, [], ◌∷◌, ◌++◌, Bool, true, false, cond, ◌||◌, ℕ, ◌+◌, ◌≤◌, ◌<◌, length, leb, ltb, eqb}
use Rattle.std.proofs.Math.Path.{sym}
use Rattle.std.proofs.Common.{ap, ◌∙◌}
use native.Mathlib.Omega.{arith}
use borrow.Author.Tests.{leb-true, leb-false, ltb-true, ltb-false, eqb-true, eqb-false}
use Rattle.node.specs.Entry.{Entry, Val, ghost, leaf, disk, mem}
use Rattle.node.specs.Fit.{fits}
use Rattle.node.specs.Slot.{MemNode}
use Rattle.node.specs.laws.base.Tests.{by_test, never}
use Rattle.tree.specs.State.{State, node_at}
use Rattle.tree.specs.Lookup.{Step}
use Rattle.history.specs.Passes.{blocks_on}
use Rattle.history.specs.Statement.{Start, uses}
use Rattle.theorem.specs.model.Bounds.{Terms}
use Rattle.theorem.specs.model.Lazy.{names, slots, names_same, Ok, ok_live}
use Rattle.theorem.specs.steps.LeafAndKeys.{Once, Along}
use Rattle.theorem.specs.steps.Grow.{names_is, names_apart}
use Rattle.theorem.specs.model.Good.{Refers, Refer, Clean, Slot, Flat, found}
use Rattle.theorem.specs.steps.EachSlot.{on_way, Follows}
use Rattle.theorem.specs.steps.EachSlotCuts.{Deep, Filled}
use Rattle.theorem.specs.steps.EachSlotRoot.{Ends}
use Rattle.theorem.specs.steps.Parents.{namings, kid_below, on_parent}

-- ---- what a clean slot refers to

-- what is asked of a child in a slot
pub record Child (s u : State) (d : ℕ) : Type 0 where
  pub id : (node_at u d).id ≡ (node_at s d).id
  pub block : (node_at u d).block ≡ (node_at s d).block
  pub clean : s.virtual ≡ false → (node_at s d).dirty ≡ false → (node_at u d).dirty ≡ false

refers_kept : (s u : State) → u.virtual ≡ s.virtual → (v w : Val) → ((d : ℕ) → 1 ≤ names d v → Child s u d) → Refers s v w → Refers u v w
refers_kept s u q ghost w f h = h
refers_kept s u q (leaf b) w f h = h
refers_kept s u q (disk r) w f h = h
refers_kept s u q (mem d) w f h =
    let k : Child s u d = f d (omega (arith, names_same d)) in
    (h.0, h.1, λ v. k.id ∙ h.2 (sym q ∙ v), λ v. k.block ∙ h.3 (sym q ∙ v), λ v. k.clean (sym q ∙ v) (h.4 (sym q ∙ v)))

pub refer_kept : (s u : State) → u.virtual ≡ s.virtual → (es ds : List Entry) → ((d : ℕ) → 1 ≤ namings d es → Child s u d) → Refer s es ds
    → Refer u es ds
refer_kept s u q [] [] f h = h
refer_kept s u q [] (d ∷ ds) f h = h
refer_kept s u q (e ∷ es) [] f h = h
refer_kept s u q (e ∷ es) (d ∷ ds) f h =
    (h.0, refers_kept s u q e.value d.value (λ c k. f c (omega arith)) h.1, refer_kept s u q es ds (λ c k. f c (omega arith)) h.2)

-- a slot that is as it was, and no root before or after
pub clean_kept : (g : Start) (τ : Terms) (s u : State) (c : ℕ) → node_at u c ≡ node_at s c → u.virtual ≡ s.virtual
    → ((d : ℕ) → 1 ≤ namings d (node_at s c).entries → Child s u d)
    → (c ≡ s.root → ⊥) → (c ≡ u.root → ⊥) → Clean g τ s c → Clean g τ u c
clean_kept g τ s u c e q f a b k =
    record {
      address = k.address;
      found = k.found;
      block = ap (λ (m : MemNode). m.block) e ∙ k.block;
      id = ap (λ (m : MemNode). m.id) e ∙ k.id ∙ ap (λ (v : Bool). cond v (k.found.node.oid ∷ []) []) (sym q);
      level = ap (λ (m : MemNode). m.level) e ∙ k.level;
      entries = rw e (refer_kept s u q (node_at s c).entries k.found.entries f k.entries);
      as_root = λ z. absurd (b z);
      as_child = λ z. k.as_child a;
    }

-- ---- blocks on a way

pub uses_append : (a : ℕ) (xs ys : List ℕ) → uses a (xs ++ ys) ≡ uses a xs + uses a ys
unfolding uses
uses_append a [] ys = omega arith
uses_append a (x ∷ xs) ys = let h = uses_append a xs ys in omega arith

pub blocks_on_lem : (s : State) (ps : List Step) (c a : ℕ) → 1 ≤ on_way c ps → uses a (node_at s c).block ≤ uses a (blocks_on s ps)
unfolding blocks_on
blocks_on_lem s [] c a h = absurd (omega arith)
blocks_on_lem s (x ∷ ps) c a h =
    let p = uses_append a (node_at s x.slot).block (blocks_on s ps) in
    by_test (eqb c x.slot)
    (λ t. let q : uses a (node_at s c).block ≡ uses a (node_at s x.slot).block =
    ap (λ (z : ℕ). uses a (node_at s z).block) (eqb-true c x.slot t) in omega arith)
    (λ t. let q = blocks_on_lem s ps c a (omega (arith, names_apart c x.slot (eqb-false c x.slot t))) in omega arith)

-- ---- the slots after

-- every dirty slot that is not dead fits
abbrev pub Fit : State → Type 0
Fit u = (c : ℕ) → c < length u.nodes → (node_at u c).dead ≡ false → (node_at u c).dirty ≡ true
    → fits u.info (eqb c u.root) (node_at u c).level (node_at u c).entries ≡ true

module _ (g : Start) (τ : Terms) (th : List ℕ) (T : List Entry → Entry → List Entry
    → Type 0) (foot l lo hi : ℕ) (ps : List Step) (s u : State) (flat : Flat g τ th s)
    (tree : Ok τ (found g τ) (node_at s) l lo hi (node_at s s.root)) (one : Once τ (found g τ) s l s.root)
    (stands : (c : ℕ) → c < length s.nodes → (node_at s c).dead ≡ false
    → 1 ≤ names c (mem s.root) + slots (found g τ) (node_at s) l c (node_at s s.root))
    (along : Along s T foot l s.root ps) (onRoot : 1 ≤ on_way s.root ps) (ends : Ends (λ c. on_way c ps) s u)
    (oldDirty : (node_at u s.root).dirty ≡ true) (new_dirty : (node_at u u.root).dirty ≡ true)
    (way_dirty : s.virtual ≡ false → (c : ℕ) → c < length s.nodes → 1 ≤ on_way c ps → (node_at u c).dirty ≡ true) where
  -- a slot that is clean after is no root, and its children are as it refers to them
  not_root : (c : ℕ) → (node_at u c).dirty ≡ false → (r : ℕ) → (node_at u r).dirty ≡ true → c ≡ r → ⊥
  not_root c h r d q = never d (ap (λ (z : ℕ). (node_at u z).dirty) (sym q) ∙ h)

  child : (c : ℕ) → c < length s.nodes → (node_at s c).dead ≡ false → (node_at u c).dirty ≡ false → (d : ℕ) → 1 ≤ namings d (node_at s c).entries
      → Child s u d
  child c h live dirt d nm =
      let st = stands c h live in
      let below : 1 ≤ slots (found g τ) (node_at s) l d (node_at s s.root) = kid_below τ (found g τ) s l s.root lo hi tree c d nm st in
      let used : d < length s.nodes = one.used d (omega arith) in
      let other : d ≡ s.root → ⊥ = λ q. omega (arith, one.once d, names_is d s.root q) in
      let f : Follows (node_at s d) (node_at u d) = ends.each d used other in
      record {
        id = f.id;
        block = f.block;
        clean = λ v k. by_test (leb 1 (on_way d ps))
            (λ t. never (way_dirty v c h (on_parent τ (found g τ) s T foot l s.root ps along lo hi tree one c d st nm
            (leb-true 1 (on_way d ps) t) other)) dirt)
            (λ t. ap (λ (m : MemNode). m.dirty) (ends.off d used (omega (arith, leb-false 1 (on_way d ps) t))) ∙ k);
      }

  live_before : (c : ℕ) → c < length s.nodes → (node_at u c).dead ≡ false → (c ≡ s.root → ⊥) → (node_at s c).dead ≡ false
  live_before c h z f = by_test (node_at s c).dead (λ t. never ((ends.each c h f).dead t) z) (λ t. t)

  clean_after : (c : ℕ) → c < length u.nodes → (node_at u c).dead ≡ false → (node_at u c).dirty ≡ false → Clean g τ u c
  clean_after c h z d =
      by_test (ltb c (length s.nodes))
      (λ t.
      let k = ltb-true c (length s.nodes) t in
      let e : node_at u c ≡ node_at s c = ends.clean c k d z in
      let a : c ≡ s.root → ⊥ = not_root c d s.root oldDirty in
      let live : (node_at s c).dead ≡ false = ap (λ (m : MemNode). m.dead) (sym e) ∙ z in
      clean_kept g τ s u c e ends.virtual (child c k live d) a (not_root c d u.root new_dirty)
      ((flat.each c k live).clean (ap (λ (m : MemNode). m.dirty) (sym e) ∙ d)))
      (λ t. never (ends.new c (ltb-false c (length s.nodes) t) h (not_root c d u.root new_dirty)).dirty d)

  root_live : (node_at s s.root).dead ≡ false
  root_live = ok_live τ (found g τ) (node_at s) l lo hi (node_at s s.root) tree

  root_used : s.root < length s.nodes
  root_used = one.used s.root (omega (arith, names_same s.root))

  -- the places of a slot: as before, or none; of the root the root's
  by_place : (P : List ℕ → List ℕ → Type 0) → P [] [] → P (node_at s s.root).block (node_at s s.root).id
      → ((c : ℕ) → c < length s.nodes → (c ≡ s.root → ⊥) → (node_at u c).dead ≡ false → P (node_at s c).block (node_at s c).id)
      → (c : ℕ) → c < length u.nodes → (node_at u c).dead ≡ false → P (node_at u c).block (node_at u c).id
  by_place P a b f c h z =
      by_test (eqb c u.root)
      (λ t. let q : c ≡ u.root = eqb-true c u.root t in rw (q, ends.root_block, ends.root_id) b)
      (λ t.
      let n : c ≡ u.root → ⊥ = eqb-false c u.root t in
      by_test (ltb c (length s.nodes))
      (λ v.
      let k = ltb-true c (length s.nodes) v in
      by_test (eqb c s.root)
      (λ w. let q : c ≡ s.root = eqb-true c s.root w in let e = ends.left (λ y. n (q ∙ sym y)) in rw (q, e.0, e.1) a)
      (λ w. let y = eqb-false c s.root w in let e = ends.each c k y in rw (e.block, e.id) (f c k y z)))
      (λ v. let e = ends.new c (ltb-false c (length s.nodes) v) h n in rw (e.block, e.id) a))

  pub slot_after : Deep u → Filled u → Fit u → (c : ℕ) → c < length u.nodes → (node_at u c).dead ≡ false → Slot g τ u c
  slot_after deep filled fit c h z =
      record {
        deep = deep c h z;
        filled = filled c h z;
        one_block = by_place (λ b i. length b ≤ 1) (omega arith) (flat.each s.root root_used root_live).one_block
            (λ d k n y. (flat.each d k (live_before d k y n)).one_block) c h z;
        one_id = by_place (λ b i. length i ≤ 1) (omega arith) (flat.each s.root root_used root_live).one_id
            (λ d k n y. (flat.each d k (live_before d k y n)).one_id) c h z;
        fit = fit c h z;
        clean = clean_after c h z;
      }

  touched_after : (c : ℕ) → c < length u.nodes → ((node_at u c).dirty || (node_at u c).dead) ≡ true → (a : ℕ) → 1 ≤ uses a (node_at u c).block
      → 1 ≤ uses a (th ++ blocks_on s ps)
  unfolding uses
  touched_after c h d a k =
      let p = uses_append a th (blocks_on s ps) in
      let root : 1 ≤ uses a (node_at s s.root).block → 1 ≤ uses a (th ++ blocks_on s ps) = λ y. let x = blocks_on_lem s ps s.root a onRoot in
      omega arith in
      by_test (eqb c u.root)
      (λ t. let q : c ≡ u.root = eqb-true c u.root t in root (rw (q, ends.root_block) at k))
      (λ t.
      let n : c ≡ u.root → ⊥ = eqb-false c u.root t in
      by_test (ltb c (length s.nodes))
      (λ v.
      let lt = ltb-true c (length s.nodes) v in
      by_test (eqb c s.root)
      (λ w. let q : c ≡ s.root = eqb-true c s.root w in let e = ends.left (λ y. n (q ∙ sym y)) in let z : 1 ≤ 0 = rw (q, e.0) at k in
      absurd (omega arith))
      (λ w.
      let e = ends.each c lt (eqb-false c s.root w) in
      let k' : 1 ≤ uses a (node_at s c).block = rw e.block at k in
      by_test (leb 1 (on_way c ps))
      (λ y. let x = blocks_on_lem s ps c a (leb-true 1 (on_way c ps) y) in omega arith)
      (λ y.
      let o : node_at u c ≡ node_at s c = ends.off c lt (omega (arith, leb-false 1 (on_way c ps) y)) in
      let x = flat.touched c lt (ap (λ (m : MemNode). m.dirty || m.dead) (sym o) ∙ d) a k' in
      omega arith)))
      (λ v. let e = ends.new c (ltb-false c (length s.nodes) v) h n in let z : 1 ≤ 0 = rw e.block at k in absurd (omega arith)))

  pub flat_end : Deep u → Filled u → Fit u → length u.nodes ≤ g.disk.lent.slots → Flat g τ (th ++ blocks_on s ps) u
  flat_end deep filled fit few = record { few = few; each = slot_after deep filled fit; dirt = λ c d. new_dirty; touched = touched_after }
