-- What an edit leaves of each slot by itself, from the definitions alone: a slot off the way is as it was; on it block and id are kept, and a change
-- makes it dirty. Assumes nothing.
use Rattle.std.specs.Prelude.{◌≡◌, refl, List, [], ◌∷◌, Bool, true, false, cond, ◌||◌, not, ℕ, suc, ◌+◌, ◌≤◌, ◌<◌, ltb, eqb}
use Rattle.std.proofs.Common.{sym, ◌∙◌, le_refl, le_trans}
use Rattle.std.proofs.Math.Path.{ap}
use native.Mathlib.Omega.{arith}
use Rattle.std.proofs.Math.ListN.{length}
use borrow.Author.Tests.{ltb-true, ltb-false, eqb-true, eqb-false}
use Rattle.node.specs.Order.{same_key}
use Rattle.node.specs.Entry.{Entry, Val, mem}
use Rattle.node.specs.Find.{key_at}
use Rattle.node.specs.Slot.{MemNode, with_key}
use Rattle.node.specs.declared.info.BTreeInfo.{BTreeInfo}
use Rattle.node.specs.laws.base.Tests.{by_test, never}
use Rattle.tree.specs.State.{State, node_at, put_node, add_node, with_nodes, with_info, with_entries, changed, marked_dirty, marked_dead, with_level}
use Rattle.tree.specs.laws.state.State.{at_put_same, at_put_other, put_count, at_add_old, at_add_new, add_count}
use Rattle.tree.specs.Lookup.{Step, leaf_of}
use Rattle.tree.specs.Edit.{mark_way, mark_dirty, touch, set_index_key, index_keys}
use Rattle.tree.specs.Upsert.{put_in_leaf}
use Rattle.tree.specs.Remove.{Dropped, drop_node, drop_emptied, leveled_root, take_from_leaf}
use Rattle.flush.specs.laws.SpaceLaws.{by_list}
use Rattle.theorem.specs.model.Lazy.{names, names_same}
use Rattle.theorem.specs.steps.Grow.{names_apart}

-- how often a slot stands on a way
abbrev pub on_way : ℕ → List Step → ℕ
on_way c [] = 0
on_way c (x ∷ xs) = names c (mem x.slot) + on_way c xs

-- a way that is not empty ends at its leaf
pub leaf_on : (x : Step) (ps : List Step) → 1 ≤ on_way (leaf_of (x ∷ ps)) (x ∷ ps)
unfolding leaf_of
leaf_on x [] = omega (arith, names_same x.slot)
leaf_on x (y ∷ ps) = omega (arith, leaf_on y ps)

-- ---- one node, before and after

-- block and id are kept; a dirty one stays dirty, a dead one dead; one that is neither after is as it was
pub record Follows (m m' : MemNode) : Type 0 where
  pub block : m'.block ≡ m.block
  pub id : m'.id ≡ m.id
  pub dirty : m.dirty ≡ true → m'.dirty ≡ true
  pub dead : m.dead ≡ true → m'.dead ≡ true
  pub clean : m'.dirty ≡ false → m'.dead ≡ false → m' ≡ m

pub follows_refl : (m : MemNode) → Follows m m
follows_refl m = record { block = refl; id = refl; dirty = λ h. h; dead = λ h. h; clean = λ h g. refl }

pub follows_is : (m m' : MemNode) → m' ≡ m → Follows m m'
follows_is m m' e = rw e (follows_refl m)

pub follows_then : (m m' m'' : MemNode) → Follows m m' → Follows m' m'' → Follows m m''
follows_then m m' m'' a b =
    record {
      block = b.block ∙ a.block;
      id = b.id ∙ a.id;
      dirty = λ h. b.dirty (a.dirty h);
      dead = λ h. b.dead (a.dead h);
      clean = λ h g. let e : m'' ≡ m' = b.clean h g in e ∙ a.clean (ap (λ (x : MemNode). x.dirty) (sym e)
          ∙ h) (ap (λ (x : MemNode). x.dead) (sym e) ∙ g);
    }

-- entries changed, and the mark set
pub follows_changed : (m : MemNode) (es : List Entry) → Follows m (changed m es)
unfolding changed
follows_changed m es = record { block = refl; id = refl; dirty = λ h. refl; dead = λ h. h; clean = λ h g. never refl h }

pub follows_marked : (m : MemNode) → Follows m (marked_dirty m)
unfolding marked_dirty
follows_marked m = follows_changed m m.entries

pub follows_dead : (m : MemNode) → Follows m (marked_dead m)
unfolding marked_dead
follows_dead m = record { block = refl; id = refl; dirty = λ h. h; dead = λ h. refl; clean = λ h g. never refl g }

-- a node that was dirty before: its entries, its level
pub follows_entries : (m : MemNode) (es : List Entry) → m.dirty ≡ true → Follows m (with_entries m es)
unfolding with_entries
follows_entries m es d = record { block = refl; id = refl; dirty = λ h. h; dead = λ h. h; clean = λ h g. never d h }

pub follows_level : (m : MemNode) (l : ℕ) → m.dirty ≡ true → Follows m (with_level m l)
unfolding with_level
follows_level m l d = record { block = refl; id = refl; dirty = λ h. h; dead = λ h. h; clean = λ h g. never d h }

-- a node that an edit made: no block, no id, dirty
pub record Fresh (m : MemNode) : Type 0 where
  pub block : m.block ≡ []
  pub id : m.id ≡ []
  pub dirty : m.dirty ≡ true

-- ---- all slots. w: how often each stands on the way

pub record Keeps (w : ℕ → ℕ) (s u : State) : Type 0 where
  pub root : u.root ≡ s.root
  pub order : u.order ≡ s.order
  pub virtual : u.virtual ≡ s.virtual
  pub xid : u.xid ≡ s.xid
  pub subtype : u.subtype ≡ s.subtype
  pub longer : length s.nodes ≤ length u.nodes
  pub off : (c : ℕ) → c < length s.nodes → w c ≡ 0 → node_at u c ≡ node_at s c
  pub each : (c : ℕ) → c < length s.nodes → Follows (node_at s c) (node_at u c)
  pub new : (c : ℕ) → length s.nodes ≤ c → c < length u.nodes → Fresh (node_at u c)

pub keeps_refl : (w : ℕ → ℕ) (s : State) → Keeps w s s
keeps_refl w s =
    record {
      root = refl;
      order = refl;
      virtual = refl;
      xid = refl;
      subtype = refl;
      longer = le_refl _;
      off = λ c h z. refl;
      each =
          λ c h. follows_refl _;
      new = λ c h g. absurd (omega arith);
    }

pub keeps_then : (w : ℕ → ℕ) (s t u : State) → Keeps w s t → Keeps w t u → Keeps w s u
keeps_then w s t u a b =
    record {
      root = b.root ∙ a.root;
      order = b.order ∙ a.order;
      virtual = b.virtual ∙ a.virtual;
      xid = b.xid ∙ a.xid;
      subtype = b.subtype ∙ a.subtype;
      longer = le_trans a.longer b.longer;
      off = λ c h z. b.off c (le_trans h a.longer) z ∙ a.off c h z;
      each = λ c h. follows_then (node_at s c) (node_at t c) (node_at u c) (a.each c h) (b.each c (le_trans h a.longer));
      new = λ c h g. by_test (ltb c (length t.nodes))
          (λ v. fresh_then (node_at t c) (node_at u c) (a.new c h (ltb-true c _ v)) (b.each c (ltb-true c _ v)))
          (λ v. b.new c (ltb-false c _ v) g);
    }
  where
    fresh_then : (m m' : MemNode) → Fresh m → Follows m m' → Fresh m'
    fresh_then m m' f g = record { block = g.block ∙ f.block; id = g.id ∙ f.id; dirty = g.dirty f.dirty }

-- one slot of the way
pub put_keeps : (w : ℕ → ℕ) (s : State) (n : ℕ) (m : MemNode) → 1 ≤ w n → Follows (node_at s n) m → Keeps w s (put_node s n m)
put_keeps w s n m on f =
    record {
      root = unfold put_node with_nodes in refl;
      order = unfold put_node with_nodes in refl;
      virtual = unfold put_node with_nodes in refl;
      xid = unfold put_node with_nodes in refl;
      subtype = unfold put_node with_nodes in refl;
      longer = omega (arith, put_count s n m);
      off = λ c h z. at_put_other s n m c (λ e. let q : w c ≡ w n = ap w e in omega arith);
      each = λ c h. by_test (eqb c n)
          (λ t. let e : c ≡ n = eqb-true c n t in let k : n < length s.nodes = omega arith in rw (e, at_put_same s n m k) f)
          (λ t. follows_is _ _ (at_put_other s n m c (eqb-false c n t)));
      new = λ c h g. absurd (omega (arith, put_count s n m));
    }

-- one slot more
pub add_keeps : (w : ℕ → ℕ) (s : State) (m : MemNode) → Fresh m → Keeps w s (add_node s m)
add_keeps w s m f =
    record {
      root = unfold add_node with_nodes in refl;
      order = unfold add_node with_nodes in refl;
      virtual = unfold add_node with_nodes in refl;
      xid = unfold add_node with_nodes in refl;
      subtype = unfold add_node with_nodes in refl;
      longer = omega (arith, add_count s m);
      off = λ c h z. at_add_old s m c h;
      each = λ c h. follows_is _ _ (at_add_old s m c h);
      new = λ c h g. let e : c ≡ length s.nodes = omega (arith, add_count s m) in rw (e, at_add_new s m) f;
    }

-- the tree's numbers stand beside its slots
pub info_keeps : (w : ℕ → ℕ) (s u : State) (t : BTreeInfo) → Keeps w s u → Keeps w s (with_info u t)
unfolding with_info node_at
info_keeps w s u t k =
    record {
      root = k.root;
      order = k.order;
      virtual = k.virtual;
      xid = k.xid;
      subtype = k.subtype;
      longer = k.longer;
      off = k.off;
      each =
          k.each;
      new = k.new;
    }

-- ---- dirty marks

pub mark_keeps : (w : ℕ → ℕ) (s : State) (n : ℕ) → 1 ≤ w n → Keeps w s (mark_dirty s n)
unfolding mark_dirty
mark_keeps w s n h = put_keeps w s n _ h (follows_marked _)

pub mark_way_keeps : (w : ℕ → ℕ) (ps : List Step) (s : State) → ((c : ℕ) → 1 ≤ on_way c ps → 1 ≤ w c) → Keeps w s (mark_way ps s)
unfolding mark_way
mark_way_keeps w [] s h = keeps_refl w s
mark_way_keeps w (x ∷ ps) s h =
    let u : State = put_node s x.slot (marked_dirty (node_at s x.slot)) in
    keeps_then w s u _ (put_keeps w s x.slot _ (h x.slot (omega (arith, names_same x.slot))) (follows_marked _))
    (mark_way_keeps w ps u (λ c g. h c (omega arith)))

-- what is so of both is so of the one picked
pub pick : {A : Type 0} (P : A → Type 0) (t : Bool) (x y : A) → (t ≡ true → P x) → (t ≡ false → P y) → P (cond t x y)
pick P true x y h k = h refl
pick P false x y h k = k refl

pub touch_keeps : (w : ℕ → ℕ) (ps : List Step) (s : State) → ((c : ℕ) → 1 ≤ on_way c ps → 1 ≤ w c) → 1 ≤ w s.root → 1 ≤ w (leaf_of ps)
    → Keeps w s (touch ps s)
unfolding touch
touch_keeps w ps s h r f =
    pick (Keeps w s) s.virtual (mark_dirty (mark_dirty s s.root) (leaf_of ps)) (mark_way ps s)
    (λ t. keeps_then w s (mark_dirty s s.root) _ (mark_keeps w s s.root r) (mark_keeps w (mark_dirty s s.root) (leaf_of ps) f))
    (λ t. mark_way_keeps w ps s h)

mark_is : (s : State) (n : ℕ) → n < length s.nodes → (node_at (mark_dirty s n) n).dirty ≡ true
unfolding mark_dirty marked_dirty changed
mark_is s n h = ap (λ (m : MemNode). m.dirty) (at_put_same s n (marked_dirty (node_at s n)) h)

-- every slot of a way that was marked is dirty
mark_way_is : (ps : List Step) (s : State) (c : ℕ) → c < length s.nodes → 1 ≤ on_way c ps → (node_at (mark_way ps s) c).dirty ≡ true
unfolding mark_way mark_dirty
mark_way_is [] s c h g = absurd (omega arith)
mark_way_is (x ∷ ps) s c h g =
    let u : State = put_node s x.slot (marked_dirty (node_at s x.slot)) in
    let n : length u.nodes ≡ length s.nodes = put_count s x.slot (marked_dirty (node_at s x.slot)) in
    let k : c < length u.nodes = omega arith in
    by_test (eqb c x.slot)
    (λ t.
    let e : c ≡ x.slot = eqb-true c x.slot t in
    let d : (node_at u c).dirty ≡ true = rw e (mark_is s x.slot (omega arith)) in
    ((mark_way_keeps (λ c. suc (on_way c ps)) ps u (λ c g. omega arith)).each c k).dirty d)
    (λ t. mark_way_is ps u c k (omega (arith, names_apart c x.slot (eqb-false c x.slot t))))

-- after the marks: the leaf and the root, in a physical tree the whole way
pub touch_way : (ps : List Step) (s : State) (c : ℕ) → s.virtual ≡ false → c < length s.nodes → 1 ≤ on_way c ps
    → (node_at (touch ps s) c).dirty ≡ true
unfolding touch
touch_way ps s c v h g =
    pick (λ (u : State). (node_at u c).dirty ≡ true) s.virtual (mark_dirty (mark_dirty s s.root) (leaf_of ps)) (mark_way ps s) (λ t. never t v)
    (λ t. mark_way_is ps s c h g)

pub touch_root : (ps : List Step) (s : State) → s.root < length s.nodes → 1 ≤ on_way s.root ps → (node_at (touch ps s) s.root).dirty ≡ true
unfolding touch
touch_root ps s h g =
    pick (λ (u : State). (node_at u s.root).dirty ≡ true) s.virtual (mark_dirty (mark_dirty s s.root) (leaf_of ps)) (mark_way ps s)
    (λ t.
    let k = mark_keeps (λ c. 1) s s.root (le_refl 1) in
    ((mark_keeps (λ c. 1) (mark_dirty s s.root) (leaf_of ps) (le_refl 1)).each s.root (le_trans h k.longer)).dirty (mark_is s s.root h))
    (λ t. mark_way_is ps s s.root h g)

pub touch_leaf : (ps : List Step) (s : State) → leaf_of ps < length s.nodes → 1 ≤ on_way (leaf_of ps) ps
    → (node_at (touch ps s) (leaf_of ps)).dirty ≡ true
unfolding touch
touch_leaf ps s h g =
    pick (λ (u : State). (node_at u (leaf_of ps)).dirty ≡ true) s.virtual (mark_dirty (mark_dirty s s.root) (leaf_of ps)) (mark_way ps s)
    (λ t.
    let k = mark_keeps (λ c. 1) s s.root (le_refl 1) in
    mark_is (mark_dirty s s.root) (leaf_of ps) (le_trans h k.longer))
    (λ t. mark_way_is ps s (leaf_of ps) h g)

-- ---- the leaf's edit, of a leaf that is dirty

pub put_leaf_keeps : (w : ℕ → ℕ) (s : State) (n : ℕ) (k : List ℕ) (v : Val) → 1 ≤ w n → (node_at s n).dirty ≡ true → Keeps w s (put_in_leaf s n k v)
unfolding put_in_leaf
put_leaf_keeps w s n k v h d = info_keeps w s _ _ (put_keeps w s n _ h (follows_entries _ _ d))

pub take_leaf_keeps : (w : ℕ → ℕ) (s : State) (n : ℕ) (k : List ℕ) → 1 ≤ w n → (node_at s n).dirty ≡ true → Keeps w s (take_from_leaf s n k)
unfolding take_from_leaf
take_leaf_keeps w s n k h d = put_keeps w s n _ h (follows_entries _ _ d)

-- ---- index keys

-- an index key set: nothing, or one node changed
pub by_index : (P : State → Type 0) (s : State) (n i c : ℕ) → P s
    → ((k : List ℕ) → P (put_node s n (changed (node_at s n) (with_key i k (node_at s n).entries)))) → P (set_index_key s n i c)
unfolding set_index_key
by_index P s n i c a b =
    by_list (node_at s c).entries
    (λ q. rw q a)
    (λ e es q. by_test ((node_at s c).dead || not (ltb i (length (node_at s n).entries)) || same_key (key_at (node_at s n).entries i) e.key)
    (λ t. rw (q, t) a) (λ t. rw (q, t) (b e.key)))

-- what is so of one key set is so of all
pub by_indexes : (R : State → State → Type 0) → ((s : State) → R s s) → ((s t u : State) → R s t → R t u → R s u)
    → (w : ℕ → ℕ) → ((s : State) (n i : ℕ) (k : List ℕ) → 1 ≤ w n → R s (put_node s n (changed (node_at s n) (with_key i k (node_at s n).entries))))
    → (ps : List Step) (s : State) → ((c : ℕ) → 1 ≤ on_way c ps → 1 ≤ w c) → R s (index_keys ps s)
unfolding index_keys
by_indexes R r t w one [] s h = r s
by_indexes R r t w one (x ∷ []) s h = r s
by_indexes R r t w one (x ∷ y ∷ ps) s h =
    let u : State = index_keys (y ∷ ps) s in
    t s u _ (by_indexes R r t w one (y ∷ ps) s (λ c g. h c (omega arith)))
    (by_index (R u) u x.slot x.child y.slot (r u) (λ k. one u x.slot x.child k (h x.slot (omega (arith, names_same x.slot)))))

pub index_keeps : (w : ℕ → ℕ) (ps : List Step) (s : State) → ((c : ℕ) → 1 ≤ on_way c ps → 1 ≤ w c) → Keeps w s (index_keys ps s)
index_keeps w ps s h = by_indexes (Keeps w) (keeps_refl w) (keeps_then w) w (λ u n i k g. put_keeps w u n _ g (follows_changed _ _)) ps s h

-- ---- dropped nodes

-- two slots of the way
put_two_keeps : (w : ℕ → ℕ) (s : State) (n p : ℕ) (a b : MemNode) → 1 ≤ w n → 1 ≤ w p → Follows (node_at s n) a → Follows (node_at s p) b
    → Keeps w s (put_node (put_node s n a) p b)
put_two_keeps w s n p a b h g f k =
    let t : State = put_node s n a in
    let one : Keeps w s t = put_keeps w s n a h f in
    record {
      root = unfold put_node with_nodes in refl;
      order = unfold put_node with_nodes in refl;
      virtual = unfold put_node with_nodes in refl;
      xid = unfold put_node with_nodes in refl;
      subtype = unfold put_node with_nodes in refl;
      longer = omega (arith, put_count t p b, put_count s n a);
      off = λ c x z. at_put_other t p b c (λ e. let q : w c ≡ w p = ap w e in omega arith) ∙ one.off c x z;
      each = λ c x. by_test (eqb c p)
          (λ t'. let e : c ≡ p = eqb-true c p t' in let y : p < length t.nodes = omega (arith, put_count s n a) in rw (e, at_put_same t p b y) k)
          (λ t'. rw (at_put_other t p b c (eqb-false c p t')) (one.each c x));
      new = λ c x y. absurd (omega (arith, put_count t p b, put_count s n a));
    }

pub drop_one_keeps : (w : ℕ → ℕ) (s : State) (x : Step) (n : ℕ) (d : Dropped) → 1 ≤ w x.slot → 1 ≤ w n → Keeps w s d.state
    → Keeps w s (drop_node x n d).state
unfolding drop_node
drop_one_keeps w s x n d h g k =
    by_list (node_at d.state n).entries
    (λ q. rw q (keeps_then w s d.state _ k (put_two_keeps w d.state n x.slot _ _ g h (follows_dead _) (follows_changed _ _))))
    (λ e es q. rw q k)

pub drop_keeps : (w : ℕ → ℕ) (ps : List Step) (s : State) → ((c : ℕ) → 1 ≤ on_way c ps → 1 ≤ w c) → Keeps w s (drop_emptied ps s).state
unfolding drop_emptied
drop_keeps w [] s h = keeps_refl w s
drop_keeps w (x ∷ []) s h = keeps_refl w s
drop_keeps w (x ∷ y ∷ ps) s h =
    drop_one_keeps w s x y.slot (drop_emptied (y ∷ ps) s) (h x.slot (omega (arith, names_same x.slot)))
    (h y.slot (omega (arith, names_same y.slot)))
    (drop_keeps w (y ∷ ps) s (λ c g. h c (omega arith)))

-- a root that is dirty, leveled
pub leveled_keeps : (w : ℕ → ℕ) (s : State) → 1 ≤ w s.root → (node_at s s.root).dirty ≡ true → Keeps w s (leveled_root s)
unfolding leveled_root
leveled_keeps w s h d =
    by_list (node_at s s.root).entries
    (λ q. rw q (put_keeps w s s.root _ h (follows_level _ _ d)))
    (λ e es q. rw q (keeps_refl w s))
