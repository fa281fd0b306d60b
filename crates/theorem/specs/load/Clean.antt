-- A load keeps the slots as they should be, each by itself: the new slot is clean, and the entry that names it refers to it. Assumes nothing.
use Rattle.std.specs.Prelude.{◌≡◌, List, [], ◌∷◌, ◌++◌, Bool, false, get_or, set, ltb, eqb}
use Rattle.std.proofs.Math.Path.{refl, sym, ap, ap₂, subst}
use Rattle.std.proofs.Common.{◌∙◌, arith, ltb-true, ltb-false, eqb-true}
use Rattle.std.proofs.Math.Bool.{true, cond, ◌||◌}
use Prim.Native.Nat.{ℕ, zero, suc, ◌+◌, ◌≤◌, ◌<◌}
use Rattle.std.proofs.Math.ListN.{length, get_or-eq_default}
use Rattle.std.proofs.lemmas.Bool.{eqb-false}
use Rattle.node.specs.Entry.{Entry, Val, ghost, leaf, disk, mem, value_length}
use Rattle.node.specs.Fit.{fits, fits_sums, room_of, keys_length, values_length, padded}
use Rattle.node.specs.Slot.{MemNode}
use Rattle.node.specs.declared.info.BTreeInfo.{BTreeInfo}
use Rattle.node.specs.laws.base.Tests.{by_test, never}
use Rattle.tree.specs.Load.{adopted}
use Rattle.tree.specs.State.{State, no_node, node_at, put_node, add_node, with_nodes, with_entries}
use Rattle.flush.specs.Flush.{dead_blocks}
use Rattle.history.specs.Statement.{Start, Begins}
use Rattle.theorem.specs.model.Bounds.{Terms}
use Rattle.theorem.specs.model.Lazy.{names, slots, slots_in, names_same}
use Rattle.theorem.specs.model.Seen.{seen}
use Rattle.theorem.specs.model.Good.{Refers, Refer, Clean, Slot, Flat, found}
use Rattle.theorem.specs.steps.Way.{Still}
use Rattle.theorem.specs.load.Fetched.{Ents, none, same, swap, Like, fetched, at_fresh, fetched_count, fetched_still, like_at}
use Rattle.theorem.specs.model.Found.{Found, found_live}

-- ---- a slot outside those in use

pub slot_out : (s : State) (c : ℕ) → length s.nodes ≤ c → node_at s c ≡ no_node
unfolding node_at
slot_out s c h = get_or-eq_default s.nodes no_node h

-- a slot with an id or a block is in use
id_used : (s : State) (c r : ℕ) → (node_at s c).id ≡ r ∷ [] → c < length s.nodes
unfolding no_node
id_used s c r e =
    by_test (ltb c (length s.nodes)) (λ t. ltb-true c (length s.nodes) t)
    (λ t. let q : [] ≡ r ∷ [] = ap (λ (z : MemNode). z.id) (sym (slot_out s c (ltb-false c (length s.nodes) t))) ∙ e in
    absurd (omega (arith, ap length q)))

block_used : (s : State) (c r : ℕ) → (node_at s c).block ≡ r ∷ [] → c < length s.nodes
unfolding no_node
block_used s c r e =
    by_test (ltb c (length s.nodes)) (λ t. ltb-true c (length s.nodes) t)
    (λ t. let q : [] ≡ r ∷ [] = ap (λ (z : MemNode). z.block) (sym (slot_out s c (ltb-false c (length s.nodes) t))) ∙ e in
    absurd (omega (arith, ap length q)))

-- a list of nodes that names no slot refers to itself
refer_self : (u : State) (rd at : ℕ → MemNode) (es : List Entry) → ((c : ℕ) → slots_in rd at 0 c es ≡ 0) → Refer u es es
refer_self u rd at [] h = tt
refer_self u rd at (e ∷ es) h = (refl, self e.value (λ c. omega (arith, h c)), refer_self u rd at es (λ c. omega (arith, h c)))
  where
    self : (v : Val) → ((c : ℕ) → names c v ≡ 0) → Refers u v v
    self ghost f = refl
    self (leaf b) f = refl
    self (disk r) f = refl
    self (mem c) f = absurd (omega (arith, f c, names_same c))

-- the blocks of dead slots: a slot that stays dead or not, at its block, and a slot more that is not dead, change nothing
dead_set : (ms : List MemNode) (n : ℕ) (m : MemNode) → m.dead ≡ (get_or ms n no_node).dead → m.block ≡ (get_or ms n no_node).block
    → dead_blocks (set ms n m) ≡ dead_blocks ms
unfolding dead_blocks
dead_set [] n m p q = refl
dead_set (x ∷ ms) zero m p q = ap₂ (λ (a : Bool) (b : List ℕ). cond a b [] ++ dead_blocks ms) p q
dead_set (x ∷ ms) (suc n) m p q = ap (λ (z : List ℕ). cond x.dead x.block [] ++ z) (dead_set ms n m p q)

dead_append : (ms : List MemNode) (m : MemNode) → m.dead ≡ false → dead_blocks (ms ++ m ∷ []) ≡ dead_blocks ms
unfolding dead_blocks
dead_append [] m h = rw h
dead_append (x ∷ ms) m h = ap (λ (z : List ℕ). cond x.dead x.block [] ++ z) (dead_append ms m h)

module _ (g : Start) (τ : Terms) (th : List ℕ) (begins : Begins g) (s : State) (n j r : ℕ) (xs : List Entry) (k : List ℕ) (ys : List Entry)
    (row : (node_at s n).entries ≡ xs ++ record { key = k; value = disk r } ∷ ys) (used : n < length s.nodes) (high : (node_at s n).level ≡ suc j)
    (virtual : s.virtual ≡ g.state.virtual) (root : s.root < length s.nodes) (room : length s.nodes < g.disk.lent.slots)
    (live : (found g τ r).dead ≡ false) (bare : (at : ℕ → MemNode) (l d : ℕ) → slots (found g τ) at l d (found g τ r) ≡ 0)
    (flat : Flat g τ th s) where
  abbrev u : State
  u = fetched τ (found g τ) s n j r xs k ys row used high

  abbrev fresh : ℕ
  fresh = length s.nodes

  abbrev ents_of : ℕ → List Entry → List Entry → Type 0
  ents_of i es ds = Ents τ (found g τ) s n j r xs k ys row used high i es ds

  fnd : Found g τ r
  fnd = found_live g τ begins r live

  st : Still s u
  st = fetched_still τ (found g τ) s n j r xs k ys row used high

  like : (c : ℕ) → c < length s.nodes → Like τ (found g τ) s n j r xs k ys row used high (names n (mem c)) (node_at s c) (node_at u c)
  like = like_at τ (found g τ) s n j r xs k ys row used high

  -- the new slot
  at_new : node_at u fresh ≡ adopted s.virtual fnd.held.block fnd.held.node
  at_new = at_fresh τ (found g τ) s n j r xs k ys row used high ∙ fnd.node
      ∙ ap (λ (z : Bool). adopted z fnd.held.block fnd.held.node) (sym virtual)

  -- what a slot in use keeps
  keeps : {A : Type 0} (f : MemNode → A) → ((m : MemNode) (es : List Entry) → f (with_entries m es) ≡ f m) → (c : ℕ) → c < length s.nodes
      → f (node_at u c) ≡ f (node_at s c)
  keeps f b c h = ap f (like c h).shape ∙ b (node_at s c) (node_at u c).entries

  keeps_block : (c : ℕ) → c < length s.nodes → (node_at u c).block ≡ (node_at s c).block
  unfolding with_entries
  keeps_block = keeps (λ z. z.block) (λ m es. refl)

  pub keeps_id : (c : ℕ) → c < length s.nodes → (node_at u c).id ≡ (node_at s c).id
  unfolding with_entries
  keeps_id = keeps (λ z. z.id) (λ m es. refl)

  keeps_level : (c : ℕ) → c < length s.nodes → (node_at u c).level ≡ (node_at s c).level
  unfolding with_entries
  keeps_level = keeps (λ z. z.level) (λ m es. refl)

  pub keeps_dirty : (c : ℕ) → c < length s.nodes → (node_at u c).dirty ≡ (node_at s c).dirty
  unfolding with_entries
  keeps_dirty = keeps (λ z. z.dirty) (λ m es. refl)

  pub keeps_dead : (c : ℕ) → c < length s.nodes → (node_at u c).dead ≡ (node_at s c).dead
  unfolding with_entries
  keeps_dead = keeps (λ z. z.dead) (λ m es. refl)

  -- ---- what its entries refer to

  refers : (v w : Val) → Refers s v w → Refers u v w
  refers ghost w h = h
  refers (leaf b) w h = h
  refers (disk q) w h = h
  refers (mem c) w h = (
    h.0,
    h.1,
    (λ t. let e = h.2 (sym st.virtual ∙ t) in keeps_id c (id_used s c h.0 e) ∙ e),
    (λ t. let e = h.3 (sym st.virtual ∙ t) in keeps_block c (block_used s c h.0 e) ∙ e),
    (λ t. let e = h.3 (sym st.virtual ∙ t) in keeps_dirty c (block_used s c h.0 e) ∙ h.4 (sym st.virtual ∙ t)),
  )

  refers_new : (w : Val) → w ≡ disk r → Refers u (mem fresh) w
  unfolding adopted
  refers_new w e = (
    r,
    e,
    (λ t. let t' : s.virtual ≡ true = sym st.virtual ∙ t in
        ap (λ (z : MemNode). z.id) at_new ∙ ap (λ (z : Bool). cond z (fnd.held.node.node.oid ∷ []) []) t'
        ∙ ap (λ (z : ℕ). z ∷ []) fnd.kid.oid),
    (λ t. ap (λ (z : MemNode). z.block) at_new ∙ ap (λ (z : ℕ). z ∷ []) (fnd.plain (sym virtual ∙ sym st.virtual ∙ t))),
    (λ t. ap (λ (z : MemNode). z.dirty) at_new),
  )

  refer_ents : {i : ℕ} {es ds : List Entry} → ents_of i es ds → (cs : List Entry) → Refer s es cs → Refer u ds cs
  refer_ents none [] h = tt
  refer_ents none (c ∷ cs) h = absurd h
  refer_ents (same e t) [] h = absurd h
  refer_ents (same e t) (c ∷ cs) h = (h.0, refers e.value c.value h.1, refer_ents t cs h.2)
  refer_ents (swap key t) [] h = absurd h
  refer_ents (swap key t) (c ∷ cs) h = (h.0, refers_new c.value h.1, refer_ents t cs h.2)

  -- ---- as many entries, as long

  ents_length : {i : ℕ} {es ds : List Entry} → ents_of i es ds → length ds ≡ length es
  ents_length none = refl
  ents_length (same e t) = ap suc (ents_length t)
  ents_length (swap key t) = ap suc (ents_length t)

  ents_keys : (t : BTreeInfo) {i : ℕ} {es ds : List Entry} → ents_of i es ds → keys_length t ds ≡ keys_length t es
  unfolding keys_length
  ents_keys t none = refl
  ents_keys t (same e x) = ap (λ (z : ℕ). padded t (length e.key) + z) (ents_keys t x)
  ents_keys t (swap key x) = ap (λ (z : ℕ). padded t (length key) + z) (ents_keys t x)

  ents_values : (t : BTreeInfo) {i : ℕ} {es ds : List Entry} → ents_of i es ds → values_length t ds ≡ values_length t es
  unfolding values_length value_length
  ents_values t none = refl
  ents_values t (same e x) = ap (λ (z : ℕ). padded t (value_length e.value) + z) (ents_values t x)
  ents_values t (swap key x) = ap (λ (z : ℕ). padded t 8 + z) (ents_values t x)

  ents_fit : (t : BTreeInfo) (top : Bool) (level : ℕ) {i : ℕ} {es ds : List Entry} → ents_of i es ds → fits t top level ds ≡ fits t top level es
  unfolding fits room_of
  ents_fit t top level x = ap₂ (fits_sums t top level) (ents_length x) (ap₂ ◌+◌ (ents_keys t x) (ents_values t x))

  -- ---- the slots

  clean_old : (c : ℕ) → c < length s.nodes → Clean g τ s c → Clean g τ u c
  clean_old c h a =
      record {
        address = a.address;
        found = a.found;
        block = keeps_block c h ∙ a.block;
        id = keeps_id c h ∙ a.id ∙ ap (λ (z : Bool). cond z (a.found.node.oid ∷ []) []) (sym st.virtual);
        level = keeps_level c h ∙ a.level;
        entries = refer_ents (like c h).ents a.found.entries a.entries;
        as_root = λ e. a.as_root (e ∙ st.root);
        as_child = λ f. a.as_child (λ e. f (e ∙ sym st.root));
      }

  -- 1 of a root that is a leaf: only it may be empty
  abbrev spare : ℕ → ℕ → ℕ → ℕ
  spare c top level = cond (eqb c top) (cond (eqb level 0) 1 0) 0

  slot_old : (c : ℕ) → c < length s.nodes → Slot g τ s c → Slot g τ u c
  slot_old c h a =
      let top : spare c u.root (node_at u c).level ≡ spare c s.root (node_at s c).level = ap₂ (spare c) st.root (keeps_level c h) in
      record {
        deep = omega (arith, a.deep, keeps_level c h);
        filled = omega (arith, a.filled, ents_length (like c h).ents, top);
        one_block = omega (arith, a.one_block, ap length (keeps_block c h));
        one_id = omega (arith, a.one_id, ap length (keeps_id c h));
        fit = λ d.
            ents_fit u.info (eqb c u.root) (node_at u c).level (like c h).ents
            ∙ ap₂ (λ (x : BTreeInfo) (y : ℕ). fits x (eqb c y) (node_at u c).level (node_at s c).entries) st.info st.root
            ∙ ap (λ (x : ℕ). fits s.info (eqb c s.root) x (node_at s c).entries) (keeps_level c h)
            ∙ a.fit (sym (keeps_dirty c h) ∙ d);
        clean = λ d. clean_old c h (a.clean (sym (keeps_dirty c h) ∙ d));
      }

  -- the new one
  new_refer : Refer u fnd.held.node.entries fnd.held.node.entries
  unfolding slots adopted
  new_refer =
      refer_self u (found g τ) (node_at u) fnd.held.node.entries
      (λ c. ap (slots (found g τ) (node_at u) 1 c) (sym fnd.node) ∙ bare (node_at u) 1 c)

  clean_new : Clean g τ u fresh
  unfolding adopted
  clean_new =
      record {
        address = fnd.held.block;
        found = fnd.held.node;
        block = ap (λ (z : MemNode). z.block) at_new;
        id = ap (λ (z : MemNode). z.id) at_new ∙ ap (λ (z : Bool). cond z (fnd.held.node.node.oid ∷ []) []) (sym st.virtual);
        level = ap (λ (z : MemNode). z.level) at_new;
        entries = subst (λ (z : MemNode). Refer u z.entries fnd.held.node.entries) (sym at_new) new_refer;
        as_root = λ e. absurd (omega (arith, e, st.root, root));
        as_child = λ f. ap (seen g.disk τ) fnd.kid.oid ∙ fnd.reads;
      }

  one_id : (t : Bool) (x : ℕ) → length (cond t (x ∷ []) []) ≤ 1
  one_id true x = omega arith
  one_id false x = omega arith

  slot_new : Slot g τ u fresh
  unfolding adopted
  slot_new =
      record {
        deep = subst (λ (z : MemNode). z.level ≤ 32) (sym at_new) fnd.kid.deep;
        filled = let e : length (node_at u fresh).entries ≡ length fnd.held.node.entries = ap (λ (z : MemNode). length z.entries) at_new in
            omega (arith, e, fnd.kid.filled);
        one_block = omega (arith, ap (λ (z : MemNode). length z.block) at_new);
        one_id = subst (λ (z : MemNode). length z.id ≤ 1) (sym at_new) (one_id s.virtual fnd.held.node.node.oid);
        fit = λ d. never d (ap (λ (z : MemNode). z.dirty) at_new);
        clean = λ d. clean_new;
      }

  -- a slot after the load: one of before, or the new one, or none
  by_slot {ℓ} : {C : Type ℓ} (c : ℕ) → (c < length s.nodes → C) → (c ≡ fresh → C) → (length u.nodes ≤ c → C) → C
  by_slot c f h o =
      by_test (ltb c fresh) (λ t. f (ltb-true c fresh t))
      (λ t. by_test (eqb c fresh) (λ e. h (eqb-true c fresh e))
      (λ e. o (omega (arith, ltb-false c fresh t, eqb-false c fresh e, fetched_count τ (found g τ) s n j r xs k ys row used high))))

  new_clean : (node_at u fresh).dirty ≡ false
  unfolding adopted
  new_clean = ap (λ (z : MemNode). z.dirty) at_new

  pub new_live : (node_at u fresh).dead ≡ false
  unfolding adopted
  new_live = ap (λ (z : MemNode). z.dead) at_new

  pub flat_fetched : Flat g τ th u
  unfolding no_node
  flat_fetched =
      let count : length u.nodes ≡ suc (length s.nodes) = fetched_count τ (found g τ) s n j r xs k ys row used high in
      record {
        few = omega (arith, room, count);
        each = λ c h d.
            by_slot c
            (λ x. slot_old c x (flat.each c x (sym (keeps_dead c x) ∙ d)))
            (λ e. subst (Slot g τ u) (sym e) slot_new)
            (λ x. absurd (omega arith));
        dirt = λ c d.
            by_slot c
            (λ x. ap (λ (z : ℕ). (node_at u z).dirty) st.root ∙ keeps_dirty s.root root ∙ flat.dirt c (sym (keeps_dirty c x) ∙ d))
            (λ e. never d (ap (λ (z : ℕ). (node_at u z).dirty) e ∙ new_clean))
            (λ x. never d (ap (λ (z : MemNode). z.dirty) (slot_out u c x)));
        touched = λ c h d a y.
            by_slot c
            (λ x. flat.touched c x (sym (ap₂ ◌||◌ (keeps_dirty c x) (keeps_dead c x)) ∙ d) a (rw (← keeps_block c x) y))
            (λ e. never d (ap (λ (z : ℕ). (node_at u z).dirty || (node_at u z).dead) e ∙ ap₂ ◌||◌ new_clean new_live))
            (λ x. absurd (omega arith));
      }

  -- ---- dead blocks are as they were

  pub fetched_dead : dead_blocks u.nodes ≡ dead_blocks s.nodes
  unfolding add_node put_node with_nodes with_entries node_at
  fetched_dead =
      dead_append (set s.nodes n (with_entries (node_at s n) (xs ++ record { key = k; value = mem fresh } ∷ ys))) (found g τ r) live
      ∙ dead_set s.nodes n (with_entries (node_at s n) (xs ++ record { key = k; value = mem fresh } ∷ ys)) refl refl
