-- Nodes that a remove empties are dropped and slots stand together still: a dropped node was named once, and that name goes. Assumes nothing.
use Rattle.std.specs.Prelude.{◌≡◌, List, [], ◌∷◌, Bool, true, false, ℕ, suc, ◌+◌, ◌≤◌, ◌<◌, take, drop, eqb}
use Rattle.std.proofs.Math.Path.{refl, ap}
use Rattle.std.proofs.Common.{sym, subst, ◌∙◌, eqb-true}
use native.Mathlib.Omega.{arith}
use Rattle.std.proofs.Math.ListN.{length}
use Rattle.std.proofs.lemmas.Bool.{eqb-false}
use Rattle.node.specs.Entry.{Entry, ghost, mem, every}
use Rattle.node.specs.Find.{val_at}
use Rattle.node.specs.Slot.{MemNode, entry_holds, remove_at}
use Rattle.node.specs.laws.base.Tests.{by_test, never}
use Rattle.node.specs.laws.order.Rising.{every_join, every_take, every_drop}
use Rattle.tree.specs.Lent.{Lent}
use Rattle.tree.specs.State.{State, node_at, put_node, with_nodes, changed, marked_dead, with_level}
use Rattle.tree.specs.Hold.{naming, named}
use Rattle.tree.specs.Lookup.{Step}
use Rattle.tree.specs.Remove.{Dropped, drop_node, drop_emptied, leveled_root}
use Rattle.tree.specs.laws.state.State.{at_put_same, at_put_other, put_count, val_used}
use Rattle.tree.specs.laws.trust.Named.{names, names_same, names_other, naming_remove, naming_remove_most, own, own_live, own_dead, named_put}
use Rattle.tree.specs.laws.trust.Named.{named_own, live_used, put_comm}
use Rattle.tree.specs.laws.trust.Stands.{Below, Stands, all, stands_wider, root_unnamed}
use Rattle.tree.specs.laws.trust.OneStep.{put_stands}
use Rattle.tree.specs.laws.trust.Loads.{by_list, Down, end, on}
use Rattle.tree.specs.laws.trust.Edit.{Edited, on_way, Falls, none, one, more, held_below_lem, changed_edited}
use Rattle.tree.specs.laws.trust.Upsert.{down_once}

-- ---- entries taken

pub every_remove : (t : Entry → Bool) (i : ℕ) (es : List Entry) → every t es ≡ true → every t (remove_at i es) ≡ true
unfolding remove_at
every_remove t i es h = every_join t (take i es) (drop (i + 1) es) (every_take t i es h) (every_drop t (i + 1) es h)

-- ---- a node that nothing names, made dead

pub kill_stands : (w v v' : ℕ → ℕ) (s : State) (n : ℕ) (m : MemNode) → n < length s.nodes → m.dead ≡ true → named n s.nodes ≡ 0
    → (n ≡ s.root → ⊥) → ((k : ℕ) → (k ≡ n → ⊥) → v' k ≡ 0 → v k ≡ 0) → Stands w v s → Stands w v' (put_node s n m)
kill_stands w v v' s n m used dead free off f st =
    put_stands s n m used w v w v' (λ k d z. z) f st (record {
      root = λ e. absurd (off e);
      reached = λ k y. absurd (omega (arith, named_own s k n));
      deep = λ d. never dead d;
      rows = λ d. never dead d;
      links = λ c y. absurd (omega (arith, own_dead c m dead));
      once = λ c. omega (arith, own_dead c m dead, st.once c);
      clean = λ d. never dead d;
      dirty = λ d. never dead d;
      filled = λ d. never dead d;
    })

-- a slot that may have no entries has some
pub stands_filled : (w v v' : ℕ → ℕ) (s : State) (n : ℕ) → ((k : ℕ) → (k ≡ n → ⊥) → v' k ≡ 0 → v k ≡ 0)
    → ((node_at s n).dead ≡ false → ((node_at s n).level ≡ 0 → ⊥) → 0 < length (node_at s n).entries) → Stands w v s → Stands w v' s
stands_filled w v v' s n f g h =
    record {
      root = h.root;
      deep = h.deep;
      rows = h.rows;
      links = h.links;
      once = h.once;
      clean = h.clean;
      dirty = h.dirty;
      filled = λ k a z y. by_test (eqb k n)
          (λ t. let q : k ≡ n = eqb-true k n t in
          subst (λ (x : ℕ). 0 < length (node_at s x).entries) (sym q)
          (g (subst (λ (x : ℕ). (node_at s x).dead ≡ false) q a) (λ e. y (subst (λ (x : ℕ). (node_at s x).level ≡ 0) (sym q) e))))
          (λ t. h.filled k a (f k (eqb-false k n t) z) y);
    }

-- ---- emptied nodes on a way

-- what is so after the nodes below x were looked at. Only x may have no entries
pub record Dropping (w : ℕ → ℕ) (x : Step) (xs : List Step) (s u : State) : Type 0 where
  pub stands : Stands w (λ c. names c (mem x.slot)) u
  pub root : u.root ≡ s.root
  pub order : u.order ≡ s.order
  pub virtual : u.virtual ≡ s.virtual
  pub info : u.info ≡ s.info
  pub same : length u.nodes ≡ length s.nodes
  pub level : (c : ℕ) → c < length s.nodes → (node_at u c).level ≡ (node_at s c).level
  pub off : (c : ℕ) → on_way c (x ∷ xs) ≡ 0 → node_at u c ≡ node_at s c
  pub live : (node_at u x.slot).dead ≡ false
  -- while the next node on the way lives, x has entries
  pub next : (y : Step) (ys : List Step) → xs ≡ y ∷ ys → (node_at u y.slot).dead ≡ false → 0 < length (node_at u x.slot).entries

mem_some : (c : ℕ) → mem c ≡ ghost → ⊥
mem_some c e = let z : ◌≡◌ {A = ℕ} 0 1 = cc in omega arith

-- slot y, child i of slot x, is empty: dead, and its name gone
module _ (w : ℕ → ℕ) (s : State) (x i y : ℕ) (st : Stands w (λ c. names c (mem y)) s) (live : (node_at s x).dead ≡ false)
    (q : val_at (node_at s x).entries i ≡ mem y) (out : 1 ≤ w x) where
  abbrev p : MemNode
  p = changed (node_at s x) (remove_at i (node_at s x).entries)

  abbrev s₁ : State
  s₁ = put_node s x p

  abbrev dead : MemNode
  dead = marked_dead (node_at s y)

  below : Below s y (node_at s x).level × (y ≡ s.root → ⊥)
  below = held_below_lem w (λ c. names c (mem y)) s x i y st live q

  apart : y ≡ x → ⊥
  apart e = let z : (node_at s y).level ≡ (node_at s x).level = ap (λ (k : ℕ). (node_at s k).level) e in omega (arith, below.0.lower)

  abbrev v₁ : ℕ → ℕ
  v₁ c = names c (mem y) + names c (mem x)

  wide : Stands w v₁ s
  wide = stands_wider w (λ c. names c (mem y)) w v₁ s (λ k z. z) (λ k z. omega arith) st

  first : (l : Lent) → Edited l w v₁ s s₁
  first l =
      changed_edited w v₁ s x (remove_at i (node_at s x).entries) wide out
      (λ d. every_remove (entry_holds s.order s.info (eqb (node_at s x).level 0)) i (node_at s x).entries (st.rows x d))
      (λ c. naming_remove_most c i (node_at s x).entries)
      (λ d z k. absurd (omega (arith, names_same x))) l (live_used s x live)

  unnamed : named y s₁.nodes ≡ 0
  unfolding changed
  unnamed =
      let a : names y (val_at (node_at s x).entries i) ≡ 1 = ap (names y) q ∙ names_same y in
      omega (
        arith,
        named_put s x p y (live_used s x live),
        own_live y p live,
        own_live y (node_at s x) live,
        naming_remove y i (node_at s x).entries
            (val_used (node_at s x).entries i (mem y) (mem_some y) q),
        st.once y,
      )

  pub dropped_stands : Lent → Stands w (λ c. names c (mem x)) (put_node (put_node s y dead) x p)
  unfolding marked_dead
  dropped_stands l =
      let a = first l in
      let z : y < length s₁.nodes = omega (arith, below.0.used, put_count s x p) in
      let k : Stands w (λ c. names c (mem x)) (put_node s₁ y dead) =
      kill_stands w v₁ (λ c. names c (mem x)) s₁ y dead z refl unnamed (λ e. below.1 (e ∙ a.steady.root))
      (λ c d h. omega (arith, names_other c y d)) a.stands in
      rw (put_comm s y x dead p apart) k

-- two slots replaced: the others
pub two_off : (s : State) (y x : ℕ) (a b : MemNode) (c : ℕ) → (c ≡ y → ⊥) → (c ≡ x → ⊥) → node_at (put_node (put_node s y a) x b) c ≡ node_at s c
two_off s y x a b c h k = at_put_other (put_node s y a) x b c k ∙ at_put_other s y a c h

record Numbers (s t : State) : Type 0 where
  root : t.root ≡ s.root
  order : t.order ≡ s.order
  virtual : t.virtual ≡ s.virtual
  info : t.info ≡ s.info

two_numbers : (s : State) (y x : ℕ) (a b : MemNode) → Numbers s (put_node (put_node s y a) x b)
unfolding put_node with_nodes
two_numbers s y x a b = record { root = refl; order = refl; virtual = refl; info = refl }

nil_cons : {C : Type 0} (y : Step) (ys : List Step) → [] ≡ y ∷ ys → C
nil_cons y ys e = let z : ◌≡◌ {A = ℕ} 0 (suc (length ys)) = ap length e in absurd (omega arith)

head_same : (y k : Step) (ys ks : List Step) → y ∷ ys ≡ k ∷ ks → y ≡ k
head_same y k ys ks e = cc

emptied : (l : Lent) (w : ℕ → ℕ) (x y : Step) (xs : List Step) (s u : State) → 1 ≤ w x.slot → Dropping w y xs s u → on_way x.slot (y ∷ xs) ≡ 0
    → (node_at u x.slot).dead ≡ false → val_at (node_at u x.slot).entries x.child ≡ mem y.slot
    → Dropping w x (y ∷ xs) s (put_node (put_node u y.slot (marked_dead (node_at u y.slot))) x.slot
    (changed (node_at u x.slot) (remove_at x.child (node_at u x.slot).entries)))
unfolding changed marked_dead
emptied l w x y xs s u out r onx live q =
    let a : MemNode = marked_dead (node_at u y.slot) in
    let b : MemNode = changed (node_at u x.slot) (remove_at x.child (node_at u x.slot).entries) in
    let t : State = put_node u y.slot a in
    let z : State = put_node t x.slot b in
    let nums : Numbers u z = two_numbers u y.slot x.slot a b in
    let apart : y.slot ≡ x.slot → ⊥ = λ e. let o : names x.slot (mem y.slot) ≡ 1 = rw e (names_same x.slot) in omega arith in
    let ux : x.slot < length u.nodes = live_used u x.slot live in
    let uy : y.slot < length u.nodes = live_used u y.slot r.live in
    let at_x : node_at z x.slot ≡ b = at_put_same t x.slot b (omega (arith, put_count u y.slot a)) in
    let at_y : node_at z y.slot ≡ a = at_put_other t x.slot b y.slot apart ∙ at_put_same u y.slot a uy in
    let count : length z.nodes ≡ length u.nodes = put_count t x.slot b ∙ put_count u y.slot a in
    record {
      stands = dropped_stands w u x.slot x.child y.slot r.stands live q out l;
      root = nums.root ∙ r.root;
      order = nums.order ∙ r.order;
      virtual = nums.virtual ∙ r.virtual;
      info = nums.info ∙ r.info;
      same = count ∙ r.same;
      level = λ c h. by_test (eqb c x.slot)
          (λ e. let g : c ≡ x.slot = eqb-true c x.slot e in ap (λ (k : ℕ). (node_at z k).level) g ∙ ap (λ (m : MemNode). m.level) at_x ∙ ap
          (λ (k : ℕ). (node_at u k).level) (sym g) ∙ r.level c h)
          (λ e. by_test (eqb c y.slot)
          (λ f. let g : c ≡ y.slot = eqb-true c y.slot f in ap (λ (k : ℕ). (node_at z k).level) g ∙ ap (λ (m : MemNode). m.level) at_y ∙ ap
          (λ (k : ℕ). (node_at u k).level) (sym g) ∙ r.level c h)
          (λ f. ap (λ (m : MemNode). m.level) (two_off u y.slot x.slot a b c (eqb-false c y.slot f) (eqb-false c x.slot e)) ∙ r.level c
          h));
      off = λ c h. two_off u y.slot x.slot a b c
          (λ e. let o : names c (mem y.slot) ≡ 1 = rw e (names_same y.slot) in omega arith)
          (λ e. let o : names c (mem x.slot) ≡ 1 = rw e (names_same x.slot) in omega arith) ∙ r.off c (omega arith);
      live = ap (λ (m : MemNode). m.dead) at_x ∙ live;
      next = λ k ks e g.
          let o : y ≡ k = head_same y k xs ks e in
          never (ap (λ (m : MemNode). m.dead) at_y) (ap (λ (j : Step). (node_at z j.slot).dead) o ∙ g);
    }

drop_step : (l : Lent) (w : ℕ → ℕ) (x y : Step) (xs : List Step) (s : State) (d : Dropped) → 1 ≤ w x.slot → Stands w all s → Down s (x ∷ y ∷ xs)
    → Dropping w y xs s d.state → Dropping w x (y ∷ xs) s (drop_node x y.slot d).state
unfolding drop_node
drop_step l w x y xs s d out st (on _ _ _ live q dn) r =
    let u : State = d.state in
    let onx : on_way x.slot (y ∷ xs) ≡ 0 = omega (arith, down_once w all s (x ∷ y ∷ xs) x.slot st (on x y xs live q dn), names_same x.slot) in
    let e : node_at u x.slot ≡ node_at s x.slot = r.off x.slot onx in
    let live' : (node_at u x.slot).dead ≡ false = ap (λ (m : MemNode). m.dead) e ∙ live in
    let q' : val_at (node_at u x.slot).entries x.child ≡ mem y.slot = ap (λ (m : MemNode). val_at m.entries x.child) e ∙ q in
    by_list (node_at u y.slot).entries
    (λ z. rw z (emptied l w x y xs s u out r onx live' q'))
    (λ a bs z. rw z (record {
      stands = stands_filled w (λ c. names c (mem y.slot)) (λ c. names c (mem x.slot)) u y.slot (λ k h g. names_other k y.slot h)
          (λ h g. let o : length (node_at u y.slot).entries ≡ length (a ∷ bs) = ap length z in omega arith) r.stands;
      root = r.root;
      order = r.order;
      virtual = r.virtual;
      info = r.info;
      same = r.same;
      level = r.level;
      off = λ c h. r.off c (omega arith);
      live = live';
      next = λ k ks h g. let o = val_used (node_at u x.slot).entries x.child (mem y.slot) (mem_some y.slot) q' in omega arith;
    }))

pub dropping : (l : Lent) (w : ℕ → ℕ) (x : Step) (xs : List Step) (s : State) → ((c : ℕ) → 1 ≤ on_way c (x ∷ xs) → 1 ≤ w c) → Stands w all s
    → Down s (x ∷ xs) → Dropping w x xs s (drop_emptied (x ∷ xs) s).state
unfolding drop_emptied
dropping l w x [] s h st (end _ live lv) =
    record {
      stands = stands_wider w all w (λ c. names c (mem x.slot)) s (λ k z. z) (λ k z. refl) st;
      root = refl;
      order = refl;
      virtual = refl;
      info = refl;
      same = refl;
      level = λ c k. refl;
      off = λ c k. refl;
      live = live;
      next = λ y ys e. nil_cons y ys e;
    }
dropping l w x (y ∷ xs) s h st (on _ _ _ live q d) =
    drop_step l w x y xs s (drop_emptied (y ∷ xs) s) (h x.slot (omega (arith, names_same x.slot))) st (on x y xs live q d)
    (dropping l w y xs s (λ c k. h c (omega arith)) st d)

-- ---- an emptied root is a leaf

level_change : (w v v' : ℕ → ℕ) (s : State) → 1 ≤ w s.root → ((k : ℕ) → (k ≡ s.root → ⊥) → v' k ≡ 0 → v k ≡ 0) → (node_at s s.root).entries ≡ []
    → Stands w v s → Stands w v' (put_node s s.root (with_level (node_at s s.root) 0))
unfolding with_level every naming
level_change w v v' s out f q st =
    let m : MemNode = with_level (node_at s s.root) 0 in
    let nothing : (c : ℕ) → own c m ≡ 0 = λ c. let z : naming c (node_at s s.root).entries ≡ 0 = ap (naming c) q in own_live c m st.root ∙ z in
    put_stands s s.root m (live_used s s.root st.root) w v w v' (λ k d z. z) f st (record {
      root = λ e. st.root;
      reached = λ k y. absurd (omega (arith, root_unnamed w v s k st));
      deep = λ d. omega arith;
      rows = λ d. subst (λ (es : List Entry). every (entry_holds s.order s.info (eqb 0 0)) es ≡ true) (sym q) refl;
      links = λ c y. absurd (omega (arith, nothing c));
      once = λ c. omega (arith, nothing c, st.once c);
      clean = λ d k. st.clean s.root d k;
      dirty = λ d k z. absurd (omega arith);
      filled = λ d z k. absurd (k refl);
    })

-- the root's place on a way: the first. After it is leveled nothing is left out but the way's fitting
pub record Leveled (w : ℕ → ℕ) (x : Step) (xs : List Step) (s u : State) : Type 0 where
  pub stands : Stands w all u
  pub root : u.root ≡ s.root
  pub order : u.order ≡ s.order
  pub virtual : u.virtual ≡ s.virtual
  pub info : u.info ≡ s.info
  pub same : length u.nodes ≡ length s.nodes
  pub falls : Falls u (x ∷ xs)

-- a way whose slots are as they were
falls_same : (s u : State) (ps : List Step) → u.root ≡ s.root → length u.nodes ≡ length s.nodes
    → ((c : ℕ) → 1 ≤ on_way c ps → node_at u c ≡ node_at s c) → Falls s ps → Falls u ps
falls_same s u ps r n h none = none
falls_same s u ps r n h (one x k) = one x (omega arith)
falls_same s u ps r n h (more x y xs k o q f) =
    let ex : node_at u x.slot ≡ node_at s x.slot = h x.slot (omega (arith, names_same x.slot)) in
    let ey : node_at u y.slot ≡ node_at s y.slot = h y.slot (omega (arith, names_same y.slot)) in
    more x y xs (omega arith) (λ e. o (e ∙ r))
    (λ d. omega (arith, q (ap (λ (m : MemNode). m.dead) (sym ey) ∙ d), ap (λ (m : MemNode). m.level) ex, ap (λ (m : MemNode). m.level) ey))
    (falls_same s u (y ∷ xs) r n (λ c z. h c (omega arith)) f)

put_numbers : (s : State) (n : ℕ) (m : MemNode) → Numbers s (put_node s n m)
unfolding put_node with_nodes
put_numbers s n m = record { root = refl; order = refl; virtual = refl; info = refl }

falls_top : (s u : State) (x : Step) (xs : List Step) → x.slot ≡ s.root → u.root ≡ s.root → length u.nodes ≡ length s.nodes
    → ((c : ℕ) → (c ≡ s.root → ⊥) → node_at u c ≡ node_at s c)
    → ((y : Step) (ys : List Step) → xs ≡ y ∷ ys → (node_at s y.slot).dead ≡ false → (node_at u x.slot).level ≡ (node_at s x.slot).level)
    → on_way x.slot xs ≡ 0 → Falls s (x ∷ xs) → Falls u (x ∷ xs)
falls_top s u x [] top r n h g z (one _ k) = one x (omega arith)
falls_top s u x (y ∷ xs) top r n h g z (more _ _ _ k o q f) =
    let ey : node_at u y.slot ≡ node_at s y.slot = h y.slot o in
    more x y xs (omega arith) (λ e. o (e ∙ r))
    (λ d. let d' : (node_at s y.slot).dead ≡ false = ap (λ (m : MemNode). m.dead) (sym ey) ∙ d in
    omega (arith, q d', g y xs refl d', ap (λ (m : MemNode). m.level) ey))
    (falls_same s u (y ∷ xs) r n (λ c e. h c (λ p. let w : on_way c (y ∷ xs) ≡ on_way x.slot (y ∷ xs) = ap (λ (j : ℕ). on_way j (y ∷ xs))
    (p ∙ sym top) in omega arith)) f)

pub leveled : (w : ℕ → ℕ) (x : Step) (xs : List Step) (s : State) → x.slot ≡ s.root → 1 ≤ w x.slot → on_way x.slot xs ≡ 0 → Falls s (x ∷ xs)
    → Stands w (λ c. names c (mem x.slot)) s
    → ((y : Step) (ys : List Step) → xs ≡ y ∷ ys → (node_at s y.slot).dead ≡ false → 0 < length (node_at s x.slot).entries)
    → Leveled w x xs s (leveled_root s)
unfolding leveled_root
leveled w x xs s top out z f st next =
    let v : ℕ → ℕ = λ c. names c (mem x.slot) in
    let out' : 1 ≤ w s.root = subst (λ (j : ℕ). 1 ≤ w j) top out in
    by_list (node_at s s.root).entries
    (λ q. rw q (
    let m : MemNode = with_level (node_at s s.root) 0 in
    let u : State = put_node s s.root m in
    let nums = put_numbers s s.root m in
    record {
      stands = level_change w v all s out' (λ k d y. names_other k x.slot (λ e. d (e ∙ top))) q st;
      root = nums.root;
      order = nums.order;
      virtual = nums.virtual;
      info = nums.info;
      same = put_count s s.root m;
      falls = falls_top s u x xs top nums.root (put_count s s.root m) (λ c d. at_put_other s s.root m c d)
          (λ y ys e d. let k : length (node_at s x.slot).entries ≡ 0 = ap (λ (j : ℕ). length (node_at s j).entries) top ∙ ap length q in absurd
          (omega (arith, next y ys e d))) z f;
    }))
    (λ e es q. rw q (record {
      stands = stands_filled w v all s x.slot (λ k d y. names_other k x.slot d)
          (λ d y. let k : length (node_at s x.slot).entries ≡ length (e ∷ es) = ap (λ (j : ℕ). length (node_at s j).entries) top ∙ ap length q in
          omega arith) st;
      root = refl;
      order = refl;
      virtual = refl;
      info = refl;
      same = refl;
      falls = f;
    }))
