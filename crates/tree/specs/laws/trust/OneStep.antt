-- Slots that stand together stand together after one slot is replaced, one is added, or the tree's counts change. Assumes nothing.
use Rattle.std.specs.Prelude.{◌≡◌, Bool, ◌&&◌, ℕ, ◌+◌, ◌≤◌, ◌<◌, ltb, eqb}
use Rattle.std.proofs.Math.Path.{refl, ap, ap₂}
use Rattle.std.proofs.Common.{sym, subst, ◌∙◌, arith}
use mathlib.Core.List.{List, [], ◌∷◌}
use Rattle.std.proofs.Math.Bool.{true, false}
use Rattle.std.proofs.Math.ListN.{length}
use borrow.Author.Tests.{ltb-true, ltb-false, eqb-true, eqb-false, ne_eqb}
use Rattle.node.specs.Entry.{Entry, Val, ghost, leaf, disk, mem, every}
use Rattle.node.specs.Fit.{padded, fixed, slot_width, fixed_value, toc_slots, toc_length, keys_length, values_length, room_of, fits_sums, fits}
use Rattle.node.specs.Slot.{MemNode, suit, key_length_holds, value_length_holds, value_holds, entry_holds}
use Rattle.node.specs.declared.info.BTreeInfo.{BTreeInfo}
use Rattle.node.specs.laws.base.Tests.{by_test}
use Rattle.node.specs.laws.order.Rising.{every_imp}
use Rattle.tree.specs.State.{State, node_at, put_node, add_node, with_nodes, with_info, with_counts, with_longest}
use Rattle.tree.specs.Hold.{named}
use Rattle.tree.specs.laws.state.State.{at_put_same, at_put_other, put_count, at_add_old, at_add_new, add_count}
use Rattle.tree.specs.laws.trust.Named.{own, own_alive, named_put, named_add, named_none, live_used}
use Rattle.tree.specs.laws.trust.Stands.{Below, placed_on, root_names, Stands}

-- ---- one slot replaced

-- what is so of the node put and of every other is so of each
pub put_each : (P : ℕ → MemNode → Type 0) (s : State) (n : ℕ) (m : MemNode) → n < length s.nodes → P n m
    → ((k : ℕ) → (k ≡ n → ⊥) → P k (node_at s k)) → (k : ℕ) → P k (node_at (put_node s n m) k)
put_each P s n m h p f k =
    by_test (eqb k n)
    (λ t. let e : k ≡ n = eqb-true k n t in rw (e, at_put_same s n m h) p)
    (λ t. let d = eqb-false k n t in rw (at_put_other s n m k d) (f k d))

-- what a node put in slot n must be
pub record Change (w v : ℕ → ℕ) (s : State) (n : ℕ) (m : MemNode) : Type 0 where
  pub root : n ≡ s.root → m.dead ≡ false
  -- live and at its level, if it is named
  pub reached : (k : ℕ) → 1 ≤ own n (node_at s k) → (m.dead ≡ false) × (m.level ≡ (node_at s n).level)
  pub deep : m.dead ≡ false → m.level ≤ 32
  pub rows : m.dead ≡ false → every (entry_holds s.order s.info (eqb m.level 0)) m.entries ≡ true
  pub links : (c : ℕ) → 1 ≤ own c m → (c ≡ n → ⊥) × Below s c m.level
  pub once : (c : ℕ) → named c s.nodes + own c m + root_names c s ≤ 1 + own c (node_at s n)
  pub clean : m.dead ≡ false → m.dirty ≡ false → placed_on s.virtual m ≡ true
  pub dirty : m.dead ≡ false → m.dirty ≡ true → w n ≡ 0 → fits s.info (eqb n s.root) m.level m.entries ≡ true
  pub filled : m.dead ≡ false → v n ≡ 0 → (m.level ≡ 0 → ⊥) → 0 < length m.entries

module _ (s : State) (n : ℕ) (m : MemNode) (h : n < length s.nodes) where
  abbrev u : State
  u = put_node s n m

  below_put : (c l : ℕ) → Below s c l → (c ≡ n → (m.dead ≡ false) × (m.level ≡ (node_at s n).level)) → Below u c l
  below_put c l b f =
      by_test (eqb c n)
      (λ t.
      let e : c ≡ n = eqb-true c n t in
      let q : node_at u c ≡ m = ap (node_at u) e ∙ at_put_same s n m h in
      let lv : (node_at s c).level ≡ (node_at s n).level = ap (λ (x : ℕ). (node_at s x).level) e in
      record {
        used = omega (arith, put_count s n m, b.used);
        live = ap (λ (x : MemNode). x.dead) q ∙ (f e).0;
        lower = omega (arith, ap (λ (x : MemNode). x.level) q, (f e).1, b.lower);
      })
      (λ t.
      let q : node_at u c ≡ node_at s c = at_put_other s n m c (eqb-false c n t) in
      record {
        used = omega (arith, put_count s n m, b.used);
        live = ap (λ (x : MemNode). x.dead) q ∙ b.live;
        lower = omega
            (arith, ap (λ (x : MemNode). x.level) q, b.lower);
      })

  -- w and v: the slots left out before, w' and v' after
  pub put_stands : (w v w' v' : ℕ → ℕ) → ((k : ℕ) → (k ≡ n → ⊥) → w' k ≡ 0 → w k ≡ 0) → ((k : ℕ) → (k ≡ n → ⊥) → v' k ≡ 0 → v k ≡ 0) → Stands w v s
      → Change w' v' s n m → Stands w' v' u
  unfolding put_node with_nodes
  put_stands w v w' v' f g st c =
      record {
        root = by_test (eqb s.root n)
            (λ t. let e : s.root ≡ n = eqb-true s.root n t in ap (λ (x : MemNode). x.dead) (ap (node_at u) e ∙ at_put_same s n m h) ∙ c.root
            (sym e))
            (λ t. ap (λ (x : MemNode). x.dead) (at_put_other s n m s.root (eqb-false s.root n t)) ∙ st.root);
        deep = put_each (λ k x. x.dead ≡ false → x.level ≤ 32) s n m h c.deep (λ k d. st.deep k);
        rows = put_each (λ k x. x.dead ≡ false → every (entry_holds s.order s.info (eqb x.level 0)) x.entries ≡ true) s n m h c.rows
            (λ k d. st.rows k);
        links = put_each (λ k x. (d : ℕ) → 1 ≤ own d x → Below u d x.level) s n m h
            (λ d y. let z = c.links d y in below_put d m.level z.1 (λ e. absurd (z.0 e)))
            (λ k q d y. below_put d (node_at s k).level (st.links k d y) (λ e. c.reached k (subst (λ (x : ℕ). 1 ≤ own x (node_at s k)) e y)));
        once = λ d. omega (arith, named_put s n m d h, c.once d);
        clean = put_each (λ k x. x.dead ≡ false → x.dirty ≡ false → placed_on s.virtual x ≡ true) s n m h c.clean (λ k d. st.clean k);
        dirty = put_each (λ k x. x.dead ≡ false → x.dirty ≡ true → w' k ≡ 0 → fits s.info (eqb k s.root) x.level x.entries ≡ true) s n m
            h c.dirty (λ k d a b z. st.dirty k a b (f k d z));
        filled = put_each (λ k x. x.dead ≡ false → v' k ≡ 0 → (x.level ≡ 0 → ⊥) → 0 < length x.entries) s n m h c.filled
            (λ k d a z. st.filled k a (g k d z));
      }

-- the same of a node that is as live and as high as the one before it
pub record Kept (w v : ℕ → ℕ) (s : State) (n : ℕ) (m : MemNode) : Type 0 where
  pub dead : m.dead ≡ (node_at s n).dead
  pub level : m.level ≡ (node_at s n).level
  pub rows : m.dead ≡ false → every (entry_holds s.order s.info (eqb m.level 0)) m.entries ≡ true
  pub links : (c : ℕ) → 1 ≤ own c m → Below s c (node_at s n).level
  pub once : (c : ℕ) → named c s.nodes + own c m + root_names c s ≤ 1 + own c (node_at s n)
  pub clean : m.dead ≡ false → m.dirty ≡ false → placed_on s.virtual m ≡ true
  pub dirty : m.dead ≡ false → m.dirty ≡ true → w n ≡ 0 → fits s.info (eqb n s.root) m.level m.entries ≡ true
  pub filled : m.dead ≡ false → v n ≡ 0 → (m.level ≡ 0 → ⊥) → 0 < length m.entries

kept_change : (w v w' v' : ℕ → ℕ) (s : State) (n : ℕ) (m : MemNode) → Stands w v s → Kept w' v' s n m → Change w' v' s n m
kept_change w v w' v' s n m st k =
    record {
      root = λ e. k.dead ∙ ap (λ (x : ℕ). (node_at s x).dead) e ∙ st.root;
      reached = λ j y. (k.dead ∙ (st.links j n y).live, k.level);
      deep = λ d. omega (arith, k.level, st.deep n (sym k.dead ∙ d));
      rows = k.rows;
      links = λ c y. let b = k.links c y in (
        λ e. let z : (node_at s c).level ≡ (node_at s n).level = ap (λ (x : ℕ). (node_at s x).level) e in omega
            (arith, b.lower),
        rw k.level b,
      );
      once = k.once;
      clean = k.clean;
      dirty = k.dirty;
      filled = k.filled;
    }

pub keep_stands : (w v w' v' : ℕ → ℕ) (s : State) (n : ℕ) (m : MemNode) → n < length s.nodes → ((k : ℕ) → (k ≡ n → ⊥) → w' k ≡ 0 → w k ≡ 0)
    → ((k : ℕ) → (k ≡ n → ⊥) → v' k ≡ 0 → v k ≡ 0)
    → Stands w v s → Kept w' v' s n m → Stands w' v' (put_node s n m)
keep_stands w v w' v' s n m h f g st k = put_stands s n m h w v w' v' f g st (kept_change w v w' v' s n m st k)

-- a slot that is not in use is named by none
pub unused_unnamed : (w v : ℕ → ℕ) (s : State) (c : ℕ) → Stands w v s → length s.nodes ≤ c → named c s.nodes ≡ 0
unused_unnamed w v s c st h =
    named_none s c (λ n. by_test (ltb 0 (own c (node_at s n)))
    (λ t. absurd (omega (arith, (st.links n c (ltb-true 0 _ t)).used)))
    (λ t. omega (arith, ltb-false 0 (own c (node_at s n)) t)))

-- ---- one slot more

pub add_each : (P : ℕ → MemNode → Type 0) (s : State) (m : MemNode) → P (length s.nodes) m
    → ((k : ℕ) → k < length s.nodes → (node_at s k).dead ≡ false → P k (node_at s k))
    → (k : ℕ) → (node_at (add_node s m) k).dead ≡ false → P k (node_at (add_node s m) k)
add_each P s m p f k d =
    by_test (ltb k (length s.nodes))
    (λ t. let h = ltb-true k _ t in let e = at_add_old s m k h in rw e (f k h (ap (λ (x : MemNode). x.dead) (sym e) ∙ d)))
    (λ t. let e : k ≡ length s.nodes = omega (arith, ltb-false k (length s.nodes) t, live_used (add_node s m) k d, add_count s m) in rw
    (e, at_add_new s m) p)

-- what a node added must be
pub record Added (w v : ℕ → ℕ) (s : State) (m : MemNode) : Type 0 where
  pub deep : m.level ≤ 32
  pub rows : every (entry_holds s.order s.info (eqb m.level 0)) m.entries ≡ true
  pub links : (c : ℕ) → 1 ≤ own c m → Below s c m.level
  pub once : (c : ℕ) → named c s.nodes + own c m + root_names c s ≤ 1
  pub clean : m.dirty ≡ false → placed_on s.virtual m ≡ true
  pub dirty : m.dirty ≡ true → w (length s.nodes) ≡ 0 → fits s.info false m.level m.entries ≡ true
  pub filled : v (length s.nodes) ≡ 0 → (m.level ≡ 0 → ⊥) → 0 < length m.entries

pub below_add : (s : State) (m : MemNode) (c l : ℕ) → Below s c l → Below (add_node s m) c l
below_add s m c l b =
    let q : node_at (add_node s m) c ≡ node_at s c = at_add_old s m c b.used in
    record {
      used = omega (arith, add_count s m, b.used);
      live = ap (λ (x : MemNode). x.dead) q ∙ b.live;
      lower = omega
          (arith, ap (λ (x : MemNode). x.level) q, b.lower);
    }

pub add_stands : (w v : ℕ → ℕ) (s : State) (m : MemNode) → Stands w v s → Added w v s m → Stands w v (add_node s m)
unfolding add_node with_nodes
add_stands w v s m st a =
    let used : s.root < length s.nodes = live_used s s.root st.root in
    let u : State = add_node s m in
    record {
      root = ap (λ (x : MemNode). x.dead) (at_add_old s m s.root used) ∙ st.root;
      deep = add_each (λ k x. x.level ≤ 32) s m a.deep (λ k h d. st.deep k d);
      rows = add_each (λ k x. every (entry_holds s.order s.info (eqb x.level 0)) x.entries ≡ true) s m a.rows (λ k h d. st.rows k d);
      links = λ k c y. add_each (λ k x. 1 ≤ own c x → Below u c x.level) s m
          (λ z. below_add s m c m.level (a.links c z)) (λ k h d z. below_add s m c (node_at s k).level (st.links k c z)) k
          (own_alive c (node_at u k) y) y;
      once = λ c. omega (arith, named_add s m c, a.once c);
      clean = add_each (λ k x. x.dirty ≡ false → placed_on s.virtual x ≡ true) s m a.clean (λ k h d. st.clean k d);
      dirty = add_each (λ k x. x.dirty ≡ true → w k ≡ 0 → fits s.info (eqb k s.root) x.level x.entries ≡ true) s m
          (λ d z. rw (ne_eqb (length s.nodes) s.root (λ e. omega arith)) (a.dirty d z)) (λ k h d. st.dirty k d);
      filled = add_each (λ k x. v k ≡ 0 → (x.level ≡ 0 → ⊥) → 0 < length x.entries) s m a.filled (λ k h d. st.filled k d);
    }

-- ---- the tree's counts

-- the numbers that fitting reads
pub record Like (t t' : BTreeInfo) : Type 0 where
  pub flags : t'.flags ≡ t.flags
  pub node : t'.node_size ≡ t.node_size
  pub key : t'.key_size ≡ t.key_size
  pub val : t'.val_size ≡ t.val_size

pub like_refl : (t : BTreeInfo) → Like t t
like_refl t = record { flags = refl; node = refl; key = refl; val = refl }

pub like_then : (a b c : BTreeInfo) → Like a b → Like b c → Like a c
like_then a b c h k = record { flags = k.flags ∙ h.flags; node = k.node ∙ h.node; key = k.key ∙ h.key; val = k.val ∙ h.val }

pub like_counts : (t : BTreeInfo) (k n : ℕ) → Like t (with_counts t k n)
unfolding with_counts
like_counts t k n = record { flags = refl; node = refl; key = refl; val = refl }

pub like_longest : (t : BTreeInfo) (k n : ℕ) → Like t (with_longest t k n)
unfolding with_longest
like_longest t k n = record { flags = refl; node = refl; key = refl; val = refl }

module _ (t t' : BTreeInfo) (h : Like t t') where
  padded_like : (n : ℕ) → padded t' n ≡ padded t n
  unfolding padded
  padded_like n = rw h.flags

  keys_like : (es : List Entry) → keys_length t' es ≡ keys_length t es
  unfolding keys_length
  keys_like [] = refl
  keys_like (e ∷ es) = ap₂ (λ (a b : ℕ). a + b) (padded_like (length e.key)) (keys_like es)

  values_like : (es : List Entry) → values_length t' es ≡ values_length t es
  unfolding values_length
  values_like [] = refl
  values_like (e ∷ es) = ap₂ (λ (a b : ℕ). a + b) (padded_like _) (values_like es)

  sums_like : (root : Bool) (level n room : ℕ) → fits_sums t' root level n room ≡ fits_sums t root level n room
  unfolding fits_sums toc_length toc_slots slot_width fixed fixed_value
  sums_like root level n room = rw (h.node, h.key, h.val)

  pub fits_like : (root : Bool) (level : ℕ) (es : List Entry) → fits t' root level es ≡ fits t root level es
  unfolding fits room_of
  fits_like root level es = ap (fits_sums t' root level (length es)) (ap₂ (λ (a b : ℕ). a + b) (keys_like es) (values_like es)) ∙ sums_like root level
      (length es) _

  value_like : (v : Val) → value_holds t' v ≡ value_holds t v
  unfolding value_holds value_length_holds fixed
  value_like ghost = refl
  value_like (leaf x) = rw (h.key, h.val)
  value_like (disk r) = refl
  value_like (mem c) = refl

  key_like : (o n : ℕ) → key_length_holds o t' n ≡ key_length_holds o t n
  unfolding key_length_holds fixed
  key_like o n = rw h.key

  pub entry_like : (o : ℕ) (b : Bool) (e : Entry) → entry_holds o t' b e ≡ entry_holds o t b e
  unfolding entry_holds
  entry_like o b e = ap₂ (λ (x y : Bool). x && y && suit b e) (key_like o (length e.key)) (value_like e.value)

-- a state with other counts
pub info_stands : (w v : ℕ → ℕ) (s : State) (t : BTreeInfo) → Like s.info t → Stands w v s → Stands w v (with_info s t)
unfolding with_info node_at
info_stands w v s t h st =
    record {
      root = st.root;
      deep = st.deep;
      rows = λ n d. every_imp _ _ (node_at s n).entries (λ e q. entry_like s.info t h s.order (eqb (node_at s n).level 0) e ∙ q) (st.rows n d);
      links = λ n c k. let b = st.links n c k in record { used = b.used; live = b.live; lower = b.lower };
      once = st.once;
      clean = st.clean;
      dirty = λ n d q z. fits_like s.info t h (eqb n s.root) (node_at s n).level (node_at s n).entries ∙ st.dirty n d q z;
      filled = st.filled;
    }
