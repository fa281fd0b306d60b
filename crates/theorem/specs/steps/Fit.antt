-- After accepted cuts every dirty slot fits, and no entry of the leaf that was edited is longer than two nodes. Assumes nothing.
use Rattle.std.specs.Prelude.{◌≡◌, refl, Bool, true, false, cond, ◌||◌, ◌&&◌, ℕ, suc, ◌+◌, ◌*◌, ◌/◌, ◌≤◌, ◌<◌, length, take, drop, leb, ltb, eqb}
use Rattle.std.proofs.Common.{sym, ap, ap₂, ◌∙◌, le_refl, arith, ltb-true, ltb-false, eqb-true, ne_eqb}
use mathlib.Core.List.{List, [], ◌∷◌}
use Rattle.std.proofs.lemmas.Bool.{eqb-false}
use Rattle.node.specs.laws.base.Results.{Holds, holds_ok, holds_bind}
use Rattle.node.specs.Entry.{Entry, mem, value_length}
use Rattle.node.specs.Fit.{packed_length, flag, align8, greater, padded, data_space, fixed, slot_width, fixed_value, toc_slots, toc_length, keys_length}
use Rattle.node.specs.Fit.{values_length, room_of, fits_sums, fits}
use Rattle.node.specs.laws.fit.Fit.{room_append, fits_packed}
use Rattle.node.specs.laws.fit.Cut.{Parted}
use Rattle.node.specs.Slot.{MemNode}
use Rattle.node.specs.declared.info.BTreeInfo.{BTreeInfo}
use Rattle.node.specs.laws.base.Tests.{by_test, and_split, or_right}
use Rattle.tree.specs.Lent.{Lent}
use Rattle.tree.specs.State.{State, node_at, put_node, add_node, with_nodes, with_info, with_counts, with_root, changed, made, with_place}
use Rattle.tree.specs.laws.state.State.{at_put_other, put_count, add_count}
use Rattle.tree.specs.laws.state.Edit.{parted_left, parted_right, parted_other, grown_root, grown_top, grown_old, grown_other}
use Rattle.tree.specs.Lookup.{Step, leaf_of}
use Rattle.tree.specs.Edit.{more_nodes, parted, link_right, root_entries, grow_root, new_root_holds, cut_node, cuts}
use Rattle.history.specs.Statement.{Start}
use Rattle.theorem.specs.model.Bounds.{Terms}
use Rattle.theorem.specs.model.Lazy.{names, names_same}
use Rattle.theorem.specs.steps.Grow.{names_is, names_apart}
use Rattle.theorem.specs.steps.EachSlot.{on_way, Keeps}
use Rattle.theorem.specs.steps.EachSlotCuts.{live_used, parted_slots, by_cut, cuts_below}
use Rattle.theorem.specs.steps.EachSlotRoot.{by_top}
use Rattle.theorem.specs.model.Good.{Flat}
use Rattle.theorem.specs.steps.EachSlotAfter.{Fit}

-- ---- fitting goes by sizes and flags alone

pub record Sizes (t t' : BTreeInfo) : Type 0 where
  pub flags : t'.flags ≡ t.flags
  pub node : t'.node_size ≡ t.node_size
  pub key : t'.key_size ≡ t.key_size
  pub val : t'.val_size ≡ t.val_size

keys_same : (t t' : BTreeInfo) → t'.flags ≡ t.flags → (es : List Entry) → keys_length t' es ≡ keys_length t es
unfolding keys_length padded
keys_same t t' h [] = refl
keys_same t t' h (e ∷ es) = ap₂ (λ (f x : ℕ). cond (flag f 0x40) (length e.key) (align8 (length e.key)) + x) h (keys_same t t' h es)

values_same : (t t' : BTreeInfo) → t'.flags ≡ t.flags → (es : List Entry) → values_length t' es ≡ values_length t es
unfolding values_length padded
values_same t t' h [] = refl
values_same t t' h (e ∷ es) = ap₂ (λ (f x : ℕ). cond (flag f 0x40) (value_length e.value) (align8 (value_length e.value)) + x) h
    (values_same t t' h es)

abbrev slots_by : ℕ → ℕ → ℕ → Bool → ℕ → ℕ → ℕ
slots_by node key val root level n = cond (cond (eqb key 0) false true) (align8 (data_space node root / (4 + key + cond (eqb level 0) val 8)))
    (greater 16 (align8 n))

abbrev fits_by : ℕ → ℕ → ℕ → Bool → ℕ → ℕ → ℕ → Bool
fits_by node key val root level n room =
    leb n (slots_by node key val root level n) && leb (slots_by node key val root level n * cond (cond (eqb key 0) false true) 4 8 + room)
    (data_space node root)

fits_by_lem : (t : BTreeInfo) (root : Bool) (level : ℕ) (es : List Entry)
    → fits t root level es ≡ fits_by t.node_size t.key_size t.val_size root level (length es) (room_of t es)
unfolding fits fits_sums toc_slots toc_length slot_width fixed fixed_value
fits_by_lem t root level es = refl

pub fits_info : (t t' : BTreeInfo) → Sizes t t' → (root : Bool) (level : ℕ) (es : List Entry) → fits t' root level es ≡ fits t root level es
unfolding room_of
fits_info t t' h root level es =
    fits_by_lem t' root level es
    ∙ ap₂ (λ (a b : ℕ). fits_by a b t'.val_size root level (length es) (keys_length t' es + values_length t' es)) h.node h.key
    ∙ ap₂ (λ (a b : ℕ). fits_by t.node_size t.key_size a root level (length es) (b + values_length t' es)) h.val
    (keys_same t t' h.flags es)
    ∙ ap (λ (b : ℕ). fits_by t.node_size t.key_size t.val_size root level (length es) (keys_length t es + b))
    (values_same t t' h.flags es)
    ∙ sym (fits_by_lem t root level es)

more_sizes : (s u : State) (n : ℕ) → u.info ≡ s.info → Sizes s.info (more_nodes u n).info
unfolding more_nodes with_info with_counts
more_sizes s u n q =
    record {
      flags = ap (λ (t : BTreeInfo). t.flags) q;
      node = ap (λ (t : BTreeInfo). t.node_size) q;
      key =
          ap (λ (t : BTreeInfo). t.key_size) q;
      val = ap (λ (t : BTreeInfo). t.val_size) q;
    }

-- ---- fitting, but for some slots

-- every dirty slot fits that is not dead and of which E is 0
abbrev pub FitBut : (ℕ → ℕ) → State → Type 0
FitBut E u = (c : ℕ) → c < length u.nodes → E c ≡ 0 → (node_at u c).dead ≡ false → (node_at u c).dirty ≡ true
    → fits u.info (eqb c u.root) (node_at u c).level (node_at u c).entries ≡ true

-- a node that was tested: it is dead or fits
tested : (E : ℕ → ℕ) (n : ℕ) (s : State) → FitBut (λ c. E c + names c (mem n)) s
    → ((node_at s n).dead || fits s.info (eqb n s.root) (node_at s n).level (node_at s n).entries) ≡ true → FitBut E s
tested E n s f t c h z live dirt =
    by_test (eqb c n)
    (λ v.
    let q : c ≡ n = eqb-true c n v in
    let l : (node_at s n).dead ≡ false = ap (λ (x : ℕ). (node_at s x).dead) (sym q) ∙ live in
    ap (λ (x : ℕ). fits s.info (eqb x s.root) (node_at s x).level (node_at s x).entries) q ∙ or_right (node_at s n).dead _ l t)
    (λ v. f c h (omega (arith, names_apart c n (eqb-false c n v))) live dirt)

-- what fits under some numbers fits under others of the same sizes, in a slot that is no root in either
moved_fit : (t t' : BTreeInfo) (root : Bool) (m m' : MemNode) → Sizes t t' → m'.level ≡ m.level → m'.entries ≡ m.entries
    → fits t root m.level m.entries ≡ true → fits t' root m'.level m'.entries ≡ true
moved_fit t t' root m m' h a b f = ap₂ (λ (l : ℕ) (es : List Entry). fits t' root l es) a b ∙ fits_info t t' h root m.level m.entries ∙ f

link_other : (s : State) (p i r d : ℕ) → (d ≡ p → ⊥) → node_at (more_nodes (link_right s p i r) 1) d ≡ node_at s d
unfolding more_nodes with_info node_at link_right
link_other s p i r d h = at_put_other s p _ d h

link_root : (s : State) (n c p i r : ℕ) → (more_nodes (link_right (parted s n c) p i r) 1).root ≡ s.root
unfolding more_nodes with_info link_right parted add_node put_node with_nodes
link_root s n c p i r = refl

link_info : (s : State) (n c p i r : ℕ) → (link_right (parted s n c) p i r).info ≡ s.info
unfolding link_right parted add_node put_node with_nodes
link_info s n c p i r = refl

link_slots : (s : State) (n c p i r : ℕ) → length (more_nodes (link_right (parted s n c) p i r) 1).nodes ≡ suc (length s.nodes)
unfolding more_nodes with_info link_right
link_slots s n c p i r = put_count (parted s n c) p _ ∙ parted_slots s n c

-- the slots of a node cut in two
module _ (s : State) (n c : ℕ) (used : n < length s.nodes) (ps : Parted s.info (node_at s n).level (node_at s n).entries c) where
  part_left : fits s.info false (node_at (parted s n c) n).level (node_at (parted s n c) n).entries ≡ true
  unfolding changed
  part_left = rw (parted_left s n c used) ps.left_fits

  part_right : fits s.info false (node_at (parted s n c) (length s.nodes)).level (node_at (parted s n c) (length s.nodes)).entries ≡ true
  unfolding made
  part_right = rw (parted_right s n c used) ps.right_fits

  -- each is one of the parts and no root, or it is as it was
  part_fit : (E : ℕ → ℕ) → FitBut (λ d. E d + names d (mem n)) s → (root : ℕ → Bool) → root n ≡ false → root (length s.nodes) ≡ false
      → ((d : ℕ) → d < length s.nodes → (d ≡ n → ⊥) → root d ≡ eqb d s.root)
      → (d : ℕ) → d < suc (length s.nodes) → E d ≡ 0 → (node_at (parted s n c) d).dead ≡ false → (node_at (parted s n c) d).dirty ≡ true
      → fits s.info (root d) (node_at (parted s n c) d).level (node_at (parted s n c) d).entries ≡ true
  part_fit E f root a b g d h z live dirt =
      by_test (eqb d n)
      (λ t. let q : d ≡ n = eqb-true d n t in rw (q, a) part_left)
      (λ t.
      let m : d ≡ n → ⊥ = eqb-false d n t in
      by_test (ltb d (length s.nodes))
      (λ v.
      let k = ltb-true d (length s.nodes) v in
      let o : node_at (parted s n c) d ≡ node_at s d = parted_other s n c used d k m in
      rw (g d k m, o) (f d k (omega (arith, names_apart d n m)) (ap (λ (x : MemNode). x.dead) (sym o) ∙ live) (ap (λ (x : MemNode). x.dirty) (sym o)
      ∙ dirt)))
      (λ v. let q : d ≡ length s.nodes = omega (arith, ltb-false d (length s.nodes) v) in rw (q, b) part_right))

-- one node under its parent
cut_fit : (E : ℕ → ℕ) (l : Lent) (x : Step) (n : ℕ) (s : State) → 1 ≤ E x.slot → (n ≡ s.root → ⊥) → s.root < length s.nodes
    → FitBut (λ c. E c + names c (mem n)) s
    → Holds (FitBut E) (cut_node l (x ∷ []) n s)
cut_fit E l x n s on other used f =
    by_cut (FitBut E) l x n s
    (λ t. tested E n s f t)
    (λ c live ps room d h z a b.
    let t : State = parted s n c in
    let u : State = more_nodes (link_right t x.slot x.child (length s.nodes)) 1 in
    let same : node_at u d ≡ node_at t d = link_other t x.slot x.child (length s.nodes) d (λ q. let y : E d ≡ E x.slot = ap E q in
    omega arith) in
    let root : (r : ℕ) → eqb r u.root ≡ eqb r s.root = λ r. ap (eqb r) (link_root s n c x.slot x.child (length s.nodes)) in
    let k : d < suc (length s.nodes) = omega (arith, link_slots s n c x.slot x.child (length s.nodes)) in
    moved_fit s.info u.info (eqb d u.root) (node_at t d) (node_at u d)
    (more_sizes s (link_right t x.slot x.child (length s.nodes)) 1 (link_info s n c x.slot x.child (length s.nodes)))
    (ap (λ (m : MemNode). m.level) same) (ap (λ (m : MemNode). m.entries) same)
    (part_fit s n c (live_used s n live) ps E f (λ r. eqb r u.root) (root n ∙ ne_eqb n s.root other) (root (length s.nodes)
    ∙ ne_eqb (length s.nodes) s.root (λ q. omega arith))
    (λ e y w. root e) d k z (ap (λ (m : MemNode). m.dead) (sym same) ∙ a) (ap (λ (m : MemNode). m.dirty) (sym same) ∙ b)))

-- cuts below the top of a way
fit_below : (E : ℕ → ℕ) (l : Lent) (x : Step) (ps : List Step) (s : State) → on_way s.root ps ≡ 0 → s.root < length s.nodes
    → FitBut (λ c. E c + names c (mem x.slot) + on_way c ps) s
    → Holds (FitBut (λ c. E c + names c (mem x.slot))) (cuts l (x ∷ []) ps s)
unfolding cuts
fit_below E l x [] s z used f = holds_ok (λ c h q. f c h (omega arith))
fit_below E l x (y ∷ ps) s z used f =
    let E' : ℕ → ℕ = λ c. E c + names c (mem x.slot) in
    holds_bind (cuts l (y ∷ []) ps s) _ λ t e.
    let b = ((cuts_below l (λ c. 1) y ps s (λ c g. le_refl 1)).at t e).grows.keeps in
    let i : FitBut (λ c. E' c + names c (mem y.slot)) t = (fit_below E' l y ps s (omega arith) used (λ c h q. f c h (omega arith))).at t e in
    cut_fit E' l x y.slot t (omega (arith, names_same x.slot))
    (λ q. let r : s.root ≡ y.slot = sym b.root ∙ sym q in omega (arith, names_is s.root y.slot r)) (omega (arith, b.root, b.longer)) i

-- ---- the root

grow_count : (s : State) (n c r : ℕ) → length (more_nodes (grow_root (parted s n c) n r) 2).nodes ≡ suc (suc (length s.nodes))
unfolding more_nodes with_info grow_root with_root
grow_count s n c r = add_count (put_node (parted s n c) n (with_place (node_at (parted s n c) n) [] [])) _
    ∙ ap suc (put_count (parted s n c) n (with_place (node_at (parted s n c) n) [] []) ∙ parted_slots s n c)

grow_info : (s : State) (n c r : ℕ) → (grow_root (parted s n c) n r).info ≡ s.info
unfolding grow_root with_root parted add_node put_node with_nodes
grow_info s n c r = refl

more_root : (u : State) (k : ℕ) → (more_nodes u k).root ≡ u.root
unfolding more_nodes with_info
more_root u k = refl

more_node : (u : State) (k d : ℕ) → node_at (more_nodes u k) d ≡ node_at u d
unfolding more_nodes with_info node_at
more_node u k d = refl

-- the slots under a new root have the levels, entries and marks that they had
module _ (t : State) (n r d : ℕ) (used : n < length t.nodes) (old : d < length t.nodes) where
  under_each : {A : Type 0} (f : MemNode → A) → f (with_place (node_at t n) [] []) ≡ f (node_at t n)
      → f (node_at (grow_root t n r) d) ≡ f (node_at t d)
  under_each f e =
      by_test (eqb d n)
      (λ v. let q : d ≡ n = eqb-true d n v in rw q (ap f (grown_old t n r used) ∙ e))
      (λ v. ap f (grown_other t n r d old (eqb-false d n v)))

  record Under : Type 0 where
    level : (node_at (grow_root t n r) d).level ≡ (node_at t d).level
    entries : (node_at (grow_root t n r) d).entries ≡ (node_at t d).entries
    dead : (node_at (grow_root t n r) d).dead ≡ (node_at t d).dead
    dirty : (node_at (grow_root t n r) d).dirty ≡ (node_at t d).dirty

  under : Under
  unfolding with_place
  under = record {
    level = under_each (λ m. m.level) refl;
    entries = under_each (λ m. m.entries) refl;
    dead = under_each (λ m. m.dead) refl;
    dirty = under_each (λ m. m.dirty) refl;
  }

top_fits : (t : State) (n r : ℕ) (i : BTreeInfo) → t.info ≡ i → new_root_holds t n r ≡ true
    → fits i true (node_at (grow_root t n r) (grow_root t n r).root).level (node_at (grow_root t n r) (grow_root t n r).root).entries ≡ true
unfolding new_root_holds with_place made
top_fits t n r i q h =
    ap (λ (m : MemNode). fits i true m.level m.entries) (grown_top t n r)
    ∙ ap (λ (x : BTreeInfo). fits x true (suc (node_at t n).level) (root_entries t n r)) (sym q)
    ∙ (and_split (fits t.info true (suc (node_at t n).level) (root_entries t n r)) (leb (suc (node_at t n).level) 32) h).0

parted_same : (s : State) (n c : ℕ) → (parted s n c).info ≡ s.info
unfolding parted add_node put_node with_nodes
parted_same s n c = refl

fit_top : (l : Lent) (n : ℕ) (s : State) → n ≡ s.root → FitBut (λ c. 0 + names c (mem n)) s → Holds Fit (cut_node l [] n s)
fit_top l n s q f =
    by_top Fit l n s
    (λ t c h a b. tested (λ c. 0) n s f t c h refl a b)
    (λ c live ps holds room d h a b.
    let r : ℕ = length s.nodes in
    let t : State = parted s n c in
    let g : State = grow_root t n r in
    let u : State = more_nodes g 2 in
    let used : n < length s.nodes = live_used s n live in
    let tl : length t.nodes ≡ suc (length s.nodes) = parted_slots s n c in
    let top : u.root ≡ suc r = more_root g 2 ∙ grown_root t n r ∙ tl in
    let sz : Sizes s.info u.info = more_sizes s g 2 (grow_info s n c r) in
    let same : node_at u d ≡ node_at g d = more_node g 2 d in
    by_test (eqb d u.root)
    (λ v.
    let z : d ≡ g.root = eqb-true d u.root v ∙ more_root g 2 in
    let e : node_at u d ≡ node_at g g.root = same ∙ ap (node_at g) z in
    rw v (moved_fit s.info u.info true (node_at g g.root) (node_at u d) sz (ap (λ (m : MemNode). m.level) e)
    (ap (λ (m : MemNode). m.entries) e) (top_fits t n r s.info (parted_same s n c) holds)))
    (λ v.
    let k : d < suc r = omega (arith, grow_count s n c r, eqb-false d u.root v) in
    let un : Under t n r d (omega arith) (omega arith) = under t n r d (omega arith) (omega arith) in
    let old : fits s.info (eqb d u.root) (node_at t d).level (node_at t d).entries ≡ true =
    part_fit s n c used ps (λ c. 0) f (λ x. eqb x u.root) (ne_eqb n u.root (λ z. omega arith)) (ne_eqb r u.root (λ z. omega arith))
    (λ x y z. ne_eqb x u.root (λ w. omega arith) ∙ sym (ne_eqb x s.root (λ w. z (w ∙ sym q)))) d k refl
    (sym un.dead ∙ ap (λ (m : MemNode). m.dead) (sym same) ∙ a) (sym un.dirty ∙ ap (λ (m : MemNode). m.dirty) (sym same) ∙ b) in
    moved_fit s.info u.info (eqb d u.root) (node_at t d) (node_at u d) sz (ap (λ (m : MemNode). m.level) same
    ∙ un.level) (ap (λ (m : MemNode). m.entries) same ∙ un.entries) old))

-- the cuts of a way that starts at the root
pub cuts_fit : (l : Lent) (x : Step) (ps : List Step) (s : State) → x.slot ≡ s.root → on_way s.root ps ≡ 0 → s.root < length s.nodes
    → FitBut (λ c. on_way c (x ∷ ps)) s
    → Holds Fit (cuts l [] (x ∷ ps) s)
unfolding cuts
cuts_fit l x ps s q z used f =
    holds_bind (cuts l (x ∷ []) ps s) _ λ t e.
    fit_top l x.slot t (q ∙ sym ((cuts_below l (λ c. 1) x ps s (λ c g. le_refl 1)).at t e).grows.keeps.root)
    ((fit_below (λ c. 0) l x ps s z used (λ c h y. f c h (omega arith))).at t e)

-- ---- the leaf's entries are no longer than two nodes

fits_room : (t : BTreeInfo) (root : Bool) (level : ℕ) (es : List Entry) → fits t root level es ≡ true → room_of t es ≤ t.node_size
unfolding packed_length data_space
fits_room t root level es h = omega (arith, fits_packed t root level es h)

part_room : (t : BTreeInfo) (level : ℕ) (es : List Entry) (c : ℕ) → Parted t level es c → room_of t es ≤ 2 * t.node_size
part_room t level es c ps =
    omega (
      arith,
      fits_room t false level (take c es) ps.left_fits,
      fits_room t false level (drop c es) ps.right_fits,
      room_append t (take c es) (drop c es),
      ap (room_of t) ps.joined,
    )

module _ (l : Lent) (s : State) where
  abbrev Roomy : ℕ → State → Type 0
  Roomy n u = room_of s.info (node_at s n).entries ≤ 2 * s.info.node_size

  cut_room : (x : Step) (n : ℕ) → (node_at s n).dead ≡ false → Holds (Roomy n) (cut_node l (x ∷ []) n s)
  cut_room x n live =
      by_cut (Roomy n) l x n s
      (λ t. omega (arith, fits_room s.info _ _ _ (or_right (node_at s n).dead _ live t)))
      (λ c _ ps room. part_room s.info (node_at s n).level (node_at s n).entries c ps)

  top_room : (n : ℕ) → (node_at s n).dead ≡ false → Holds (Roomy n) (cut_node l [] n s)
  top_room n live =
      by_top (Roomy n) l n s
      (λ t. omega (arith, fits_room s.info _ _ _ (or_right (node_at s n).dead _ live t)))
      (λ c _ ps _ room. part_room s.info (node_at s n).level (node_at s n).entries c ps)

  room_below : (p x : Step) (ps : List Step) → (node_at s (leaf_of (x ∷ ps))).dead ≡ false
      → Holds (Roomy (leaf_of (x ∷ ps))) (cuts l (p ∷ []) (x ∷ ps) s)
  unfolding cuts leaf_of
  room_below p x [] live = cut_room p x.slot live
  room_below p x (y ∷ ps) live =
      holds_bind (cuts l (x ∷ []) (y ∷ ps) s) _ λ t e.
      let h = (room_below x y ps live).at t e in
      record { at = λ u q. h }

  -- accepted cuts: what the leaf holds takes no more than two nodes
  pub cuts_room : (x : Step) (ps : List Step) → (node_at s (leaf_of (x ∷ ps))).dead ≡ false → Holds (Roomy (leaf_of (x ∷ ps))) (cuts l [] (x ∷ ps) s)
  unfolding cuts leaf_of
  cuts_room x [] live = top_room x.slot live
  cuts_room x (y ∷ ps) live =
      holds_bind (cuts l (x ∷ []) (y ∷ ps) s) _ λ t e.
      let h = (room_below x y ps live).at t e in
      record { at = λ u q. h }

-- ---- what fits before the cuts: a slot off the way is as it was

pub fit_off : (g : Start) (τ : Terms) (th : List ℕ) (ps : List Step) (s t : State) → Flat g τ th s → Keeps (λ c. on_way c ps) s t
    → length t.nodes ≡ length s.nodes → Sizes s.info t.info
    → FitBut (λ c. on_way c ps) t
fit_off g τ th ps s t flat k n z c h w live dirt =
    let lt : c < length s.nodes = omega arith in
    let e : node_at t c ≡ node_at s c = k.off c lt w in
    let f = (flat.each c lt (ap (λ (m : MemNode). m.dead) (sym e) ∙ live)).fit (ap (λ (m : MemNode). m.dirty) (sym e) ∙ dirt) in
    moved_fit s.info t.info (eqb c t.root) (node_at s c) (node_at t c) z (ap (λ (m : MemNode). m.level) e)
    (ap (λ (m : MemNode). m.entries) e)
    (ap (λ (r : ℕ). fits s.info (eqb c r) (node_at s c).level (node_at s c).entries) k.root ∙ f)
