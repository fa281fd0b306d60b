-- Dirty marks, a leaf's edit and index keys keep slots that stand together, the way's fitting aside. Assumes nothing.
use Rattle.std.specs.Prelude.{◌≡◌, List, [], ◌∷◌, Bool, true, false, cond, ◌&&◌, ◌||◌, not, ℕ, zero, suc, ◌+◌, ◌≤◌, ◌<◌, length, ltb, eqb}
use Rattle.std.proofs.Math.Path.{refl, ap}
use Rattle.std.proofs.Common.{sym, subst, ◌∙◌, le_refl, arith, ltb-true, ltb-false, eqb-true}
use Rattle.std.proofs.Math.Nat.{le_trans}
use Rattle.std.proofs.lemmas.Bool.{eqb-false}
use Rattle.node.specs.Order.{same_key}
use Rattle.node.specs.Entry.{Entry, mem, every}
use Rattle.node.specs.Find.{key_at, val_at}
use Rattle.node.specs.Slot.{MemNode, suit, key_length_holds, value_holds, entry_holds, rekeyed, with_key}
use Rattle.node.specs.declared.info.BTreeInfo.{BTreeInfo}
use Rattle.node.specs.laws.base.Tests.{by_test, never, and_split, and_left, and_both}
use Rattle.tree.specs.Lent.{Lent}
use Rattle.tree.specs.State.{State, node_at, put_node, add_node, with_nodes, with_info, with_counts, with_entries, changed, marked_dirty}
use Rattle.tree.specs.Hold.{naming}
use Rattle.tree.specs.Lookup.{Step, leaf_of}
use Rattle.tree.specs.Edit.{mark_way, mark_dirty, touch, set_index_key, index_keys}
use Rattle.tree.specs.laws.state.State.{at_put_same, at_put_other, put_count, at_add_old, add_count}
use Rattle.tree.specs.laws.trust.Named.{names, names_same, names_is, naming_at, naming_key, own, own_live, own_dead, live_used}
use Rattle.tree.specs.laws.trust.Stands.{Below, Stands, root_unnamed}
use Rattle.tree.specs.laws.trust.OneStep.{Kept, keep_stands, Like, like_refl, like_then}
use Rattle.tree.specs.laws.trust.Loads.{by_list, Down, end, on}

-- ---- what an edit leaves as it was

pub record Steady (l : Lent) (s t : State) : Type 0 where
  pub root : t.root ≡ s.root
  pub order : t.order ≡ s.order
  pub virtual : t.virtual ≡ s.virtual
  pub like : Like s.info t.info
  pub longest_key : t.info.longest_key ≡ s.info.longest_key
  pub longest_val : t.info.longest_val ≡ s.info.longest_val
  pub longer : length s.nodes ≤ length t.nodes
  pub few : length s.nodes ≤ l.slots → length t.nodes ≤ l.slots
  pub level : (c : ℕ) → c < length s.nodes → (node_at t c).level ≡ (node_at s c).level
  pub dead : (c : ℕ) → c < length s.nodes → (node_at t c).dead ≡ (node_at s c).dead

pub steady_refl : (l : Lent) (s : State) → Steady l s s
steady_refl l s =
    record {
      root = refl;
      order = refl;
      virtual = refl;
      like = like_refl s.info;
      longest_key = refl;
      longest_val = refl;
      longer = le_refl _;
      few = λ h. h;
      level = λ c h. refl;
      dead = λ c h. refl;
    }

pub steady_then : (l : Lent) (s t u : State) → Steady l s t → Steady l t u → Steady l s u
steady_then l s t u a b =
    record {
      root = b.root ∙ a.root;
      order = b.order ∙ a.order;
      virtual = b.virtual ∙ a.virtual;
      like = like_then s.info t.info u.info a.like b.like;
      longest_key = b.longest_key ∙ a.longest_key;
      longest_val = b.longest_val ∙ a.longest_val;
      longer = le_trans a.longer b.longer;
      few = λ h. b.few (a.few h);
      level = λ c h. b.level c (le_trans h a.longer) ∙ a.level c h;
      dead = λ c h. b.dead c (le_trans h a.longer) ∙ a.dead c h;
    }

put_same : {A : Type 0} (f : MemNode → A) (s : State) (n : ℕ) (m : MemNode) → f m ≡ f (node_at s n) → (c : ℕ) → c < length s.nodes
    → f (node_at (put_node s n m) c) ≡ f (node_at s c)
put_same f s n m e c h =
    by_test (eqb c n)
    (λ t. let q : c ≡ n = eqb-true c n t in let k : n < length s.nodes = omega arith in rw q (ap f (at_put_same s n m k) ∙ e))
    (λ t. ap f (at_put_other s n m c (eqb-false c n t)))

pub steady_put : (l : Lent) (s : State) (n : ℕ) (m : MemNode) → m.level ≡ (node_at s n).level → m.dead ≡ (node_at s n).dead
    → Steady l s (put_node s n m)
steady_put l s n m a b =
    record {
      root = unfold put_node with_nodes in refl;
      order = unfold put_node with_nodes in refl;
      virtual = unfold put_node with_nodes in refl;
      like = unfold put_node with_nodes in like_refl s.info;
      longest_key = unfold put_node with_nodes in refl;
      longest_val = unfold put_node with_nodes in refl;
      longer = omega (arith, put_count s n m);
      few = λ h. omega (arith, put_count s n m);
      level = put_same (λ x. x.level) s n m a;
      dead = put_same (λ x. x.dead) s n m b;
    }

-- one slot more, with room for it
pub steady_add : (l : Lent) (s : State) (m : MemNode) → suc (length s.nodes) ≤ l.slots → Steady l s (add_node s m)
steady_add l s m r =
    record {
      root = unfold add_node with_nodes in refl;
      order = unfold add_node with_nodes in refl;
      virtual = unfold add_node with_nodes in refl;
      like = unfold add_node with_nodes in like_refl s.info;
      longest_key = unfold add_node with_nodes in refl;
      longest_val = unfold add_node with_nodes in refl;
      longer = omega (arith, add_count s m);
      few = λ h. omega (arith, add_count s m);
      level = λ c h. ap (λ (x : MemNode). x.level) (at_add_old s m c h);
      dead = λ c h. ap (λ (x : MemNode). x.dead) (at_add_old s m c h);
    }

pub steady_counts : (l : Lent) (s : State) (k n : ℕ) → Steady l s (with_info s (with_counts s.info k n))
unfolding with_info with_counts node_at
steady_counts l s k n =
    record {
      root = refl;
      order = refl;
      virtual = refl;
      like = record { flags = refl; node = refl; key = refl; val = refl };
      longest_key = refl;
      longest_val =
          refl;
      longer = le_refl _;
      few = λ h. h;
      level = λ c h. refl;
      dead = λ c h. refl;
    }

pub record Edited (l : Lent) (w v : ℕ → ℕ) (s t : State) : Type 0 where
  pub steady : Steady l s t
  pub stands : Stands w v t

pub edited_then : (l : Lent) (w v w' v' : ℕ → ℕ) (s t u : State) → Edited l w v s t → Edited l w' v' t u → Edited l w' v' s u
edited_then l w v w' v' s t u a b = record { steady = steady_then l s t u a.steady b.steady; stands = b.stands }

-- ---- a way

-- how often a slot stands on a way
abbrev pub on_way : ℕ → List Step → ℕ
on_way c [] = 0
on_way c (x ∷ xs) = names c (mem x.slot) + on_way c xs

pub leaf_on : (x : Step) (ps : List Step) → 1 ≤ on_way (leaf_of (x ∷ ps)) (x ∷ ps)
unfolding leaf_of
leaf_on x [] = omega (arith, names_same x.slot)
leaf_on x (y ∷ ps) = omega (arith, leaf_on y ps)

-- a way of slots in use; below its top is no root, and a live slot is one level lower than the slot above it
pub data Falls (s : State) : List Step → Type 0 where
  none : Falls s []
  one : (x : Step) → x.slot < length s.nodes → Falls s (x ∷ [])
  more : (x y : Step) (xs : List Step) → x.slot < length s.nodes → (y.slot ≡ s.root → ⊥)
      → ((node_at s y.slot).dead ≡ false → (node_at s y.slot).level + 1 ≡ (node_at s x.slot).level)
      → Falls s (y ∷ xs) → Falls s (x ∷ y ∷ xs)

on_here : (s : State) (x : Step) (c k : ℕ) → x.slot < length s.nodes → 1 ≤ names c (mem x.slot) + k → (1 ≤ k → c < length s.nodes)
    → c < length s.nodes
on_here s x c k h y f =
    by_test (ltb 0 (names c (mem x.slot)))
    (λ t. let e : c ≡ x.slot = names_is c x.slot (ltb-true 0 _ t) in omega arith)
    (λ t. f (omega (arith, ltb-false 0 (names c (mem x.slot)) t)))

pub falls_used : (s : State) (ps : List Step) → Falls s ps → (c : ℕ) → 1 ≤ on_way c ps → c < length s.nodes
falls_used s ps none c k = absurd (omega arith)
falls_used s ps (one x h) c k = on_here s x c 0 h (omega arith) (λ z. absurd (omega arith))
falls_used s ps (more x y xs h r q f) c k = on_here s x c (on_way c (y ∷ xs)) h k (λ z. falls_used s (y ∷ xs) f c z)

pub falls_steady : (l : Lent) (s t : State) (ps : List Step) → Steady l s t → Falls s ps → Falls t ps
falls_steady l s t ps a none = none
falls_steady l s t ps a (one x h) = one x (le_trans h a.longer)
falls_steady l s t ps a (more x y xs h r q f) =
    let u : y.slot < length s.nodes = falls_used s (y ∷ xs) f y.slot (omega (arith, names_same y.slot)) in
    more x y xs (le_trans h a.longer) (λ e. r (e ∙ a.root))
    (λ d. omega (arith, a.level y.slot u, a.level x.slot h, q (sym (a.dead y.slot u) ∙ d)))
    (falls_steady l s t (y ∷ xs) a f)

-- the slot that an entry of a live slot holds
pub held_below_lem : (w v : ℕ → ℕ) (s : State) (n i c : ℕ) → Stands w v s → (node_at s n).dead ≡ false → val_at (node_at s n).entries i ≡ mem c
    → Below s c (node_at s n).level × (c ≡ s.root → ⊥)
held_below_lem w v s n i c st live q =
    let k : 1 ≤ own c (node_at s n) = omega (arith, own_live c (node_at s n) live, naming_at c i (node_at s n).entries q) in (
      st.links n c k,
      λ e. let z : 1 ≤ own s.root (node_at s n) = subst (λ (x : ℕ). 1 ≤ own x (node_at s n)) e k in omega
          (arith, root_unnamed w v s n st),
    )

pub down_falls : (w v : ℕ → ℕ) (s : State) (ps : List Step) → Stands w v s → Down s ps → Falls s ps
down_falls w v s ps st (end x live lv) = one x (live_used s x.slot live)
down_falls w v s ps st (on x y xs live q d) =
    let (b, r) = held_below_lem w v s x.slot x.child y.slot st live q in
    more x y xs (live_used s x.slot live) r (λ z. b.lower) (down_falls w v s (y ∷ xs) st d)

-- the last slot of a way down is a live leaf
pub down_leaf : (s : State) (ps : List Step) → Down s ps → ((node_at s (leaf_of ps)).dead ≡ false) × ((node_at s (leaf_of ps)).level ≡ 0)
unfolding leaf_of
down_leaf s ps (end x live lv) = (live, lv)
down_leaf s ps (on x y xs live q d) = down_leaf s (y ∷ xs) d

-- ---- one node of the way with other entries, which name no slot more

module _ (w v : ℕ → ℕ) (s : State) (n : ℕ) (es : List Entry) (st : Stands w v s) (out : 1 ≤ w n)
    (rows : (node_at s n).dead ≡ false → every (entry_holds s.order s.info (eqb (node_at s n).level 0)) es ≡ true)
    (fewer : (c : ℕ) → naming c es ≤ naming c (node_at s n).entries)
    (some : (node_at s n).dead ≡ false → v n ≡ 0 → ((node_at s n).level ≡ 0 → ⊥) → 0 < length es) where
  less_own : (m : MemNode) → m.dead ≡ (node_at s n).dead → m.entries ≡ es → (c : ℕ) → own c m ≤ own c (node_at s n)
  less_own m d e c =
      let q : naming c m.entries ≡ naming c es = ap (naming c) e in
      by_test (node_at s n).dead
      (λ t. omega (arith, own_dead c m (d ∙ t)))
      (λ t. omega (arith, own_live c m (d ∙ t), own_live c (node_at s n) t, fewer c))

  pub changed_kept : Kept w v s n (changed (node_at s n) es)
  unfolding changed
  changed_kept =
      record {
        dead = refl;
        level = refl;
        rows = rows;
        links = λ c y. st.links n c (omega (arith, less_own (changed (node_at s n) es) refl refl c));
        once = λ c. omega (arith, less_own (changed (node_at s n) es) refl refl c, st.once c);
        clean = λ d k. never refl k;
        dirty = λ d k z. absurd (omega arith);
        filled = some;
      }

  pub entries_kept : Kept w v s n (with_entries (node_at s n) es)
  unfolding with_entries
  entries_kept =
      record {
        dead = refl;
        level = refl;
        rows = rows;
        links = λ c y. st.links n c (omega (arith, less_own (with_entries (node_at s n) es) refl refl c));
        once = λ c. omega (arith, less_own (with_entries (node_at s n) es) refl refl c, st.once c);
        clean = λ d k. st.clean n d k;
        dirty = λ d k z. absurd (omega arith);
        filled = some;
      }

  pub changed_edited : (l : Lent) → n < length s.nodes → Edited l w v s (put_node s n (changed (node_at s n) es))
  unfolding changed
  changed_edited l h = record {
    steady = steady_put l s n _ refl refl;
    stands = keep_stands w v w v s n _ h (λ k a b. b) (λ k a b. b) st changed_kept;
  }

  pub entries_edited : (l : Lent) → n < length s.nodes → Edited l w v s (put_node s n (with_entries (node_at s n) es))
  unfolding with_entries
  entries_edited l h = record {
    steady = steady_put l s n _ refl refl;
    stands = keep_stands w v w v s n _ h (λ k a b. b) (λ k a b. b) st entries_kept;
  }

-- ---- dirty marks

pub mark_edited : (l : Lent) (w v : ℕ → ℕ) (s : State) (n : ℕ) → n < length s.nodes → 1 ≤ w n → Stands w v s → Edited l w v s (mark_dirty s n)
unfolding mark_dirty marked_dirty
mark_edited l w v s n h out st = changed_edited w v s n (node_at s n).entries st out (st.rows n) (λ c. le_refl _) (st.filled n) l h

pub mark_way_edited : (l : Lent) (w v : ℕ → ℕ) (ps : List Step) (s : State) → ((c : ℕ) → 1 ≤ on_way c ps → 1 ≤ w c)
    → ((c : ℕ) → 1 ≤ on_way c ps → c < length s.nodes) → Stands w v s → Edited l w v s (mark_way ps s)
unfolding mark_way
mark_way_edited l w v [] s h g st = record { steady = steady_refl l s; stands = st }
mark_way_edited l w v (x ∷ ps) s h g st =
    let k : 1 ≤ on_way x.slot (x ∷ ps) = omega (arith, names_same x.slot) in
    let t : State = put_node s x.slot (marked_dirty (node_at s x.slot)) in
    let a : Edited l w v s t = unfold mark_dirty in mark_edited l w v s x.slot (g x.slot k) (h x.slot k) st in
    edited_then l w v w v s t _ a (mark_way_edited l w v ps t (λ c y. h c (omega arith)) (λ c y. le_trans (g c (omega arith)) a.steady.longer)
    a.stands)

-- what is so of both is so of the one picked
pub pick : {A : Type 0} (P : A → Type 0) (t : Bool) (x y : A) → (t ≡ true → P x) → (t ≡ false → P y) → P (cond t x y)
pick P true x y h k = h refl
pick P false x y h k = k refl

pub touch_edited : (l : Lent) (w v : ℕ → ℕ) (ps : List Step) (s : State) → ((c : ℕ) → 1 ≤ on_way c ps → 1 ≤ w c)
    → ((c : ℕ) → 1 ≤ on_way c ps → c < length s.nodes) → 1 ≤ on_way s.root ps → 1 ≤ on_way (leaf_of ps) ps → Stands w v s
    → Edited l w v s (touch ps s)
unfolding touch
touch_edited l w v ps s h g r f st =
    pick (Edited l w v s) s.virtual (mark_dirty (mark_dirty s s.root) (leaf_of ps)) (mark_way ps s)
    (λ t.
    let a = mark_edited l w v s s.root (g s.root r) (h s.root r) st in
    edited_then l w v w v s (mark_dirty s s.root) _ a
    (mark_edited l w v (mark_dirty s s.root) (leaf_of ps) (le_trans (g (leaf_of ps) f) a.steady.longer) (h (leaf_of ps) f) a.stands))
    (λ t. mark_way_edited l w v ps s h g st)

-- ---- index keys

pub every_key : (t : Entry → Bool) (i : ℕ) (k : List ℕ) (es : List Entry)
    → ((e : Entry) → t e ≡ true → t (record { key = k; value = e.value }) ≡ true) → every t es ≡ true → every t (with_key i k es) ≡ true
unfolding every with_key rekeyed
every_key t zero k [] f h = refl
every_key t (suc i) k [] f h = refl
every_key t zero k (e ∷ es) f h =
    let (a, b) = and_split (t e) (every t es) h in
    and_both (t (record { key = k; value = e.value })) (every t es) (f e a) b
every_key t (suc i) k (e ∷ es) f h =
    let (a, b) = and_split (t e) (every t es) h in
    and_both (t e) (every t (with_key i k es)) a (every_key t i k es f b)

pub length_key : (i : ℕ) (k : List ℕ) (es : List Entry) → length (with_key i k es) ≡ length es
unfolding with_key rekeyed
length_key zero k [] = refl
length_key (suc i) k [] = refl
length_key zero k (e ∷ es) = refl
length_key (suc i) k (e ∷ es) = ap suc (length_key i k es)

pub entry_key : (o : ℕ) (t : BTreeInfo) (b : Bool) (e : Entry) → entry_holds o t b e ≡ true → key_length_holds o t (length e.key) ≡ true
unfolding entry_holds
entry_key o t b e h = and_left (key_length_holds o t (length e.key)) (value_holds t e.value)
    (and_left (key_length_holds o t (length e.key) && value_holds t e.value) (suit b e) h)

entry_rekeyed : (o : ℕ) (t : BTreeInfo) (b : Bool) (k : List ℕ) → key_length_holds o t (length k) ≡ true → (e : Entry) → entry_holds o t b e ≡ true
    → entry_holds o t b (record { key = k; value = e.value }) ≡ true
unfolding entry_holds suit
entry_rekeyed o t b k f e h =
    let (a, c) = and_split (key_length_holds o t (length e.key) && value_holds t e.value) (suit b e) h in
    let (x, y) = and_split (key_length_holds o t (length e.key)) (value_holds t e.value) a in
    and_both (key_length_holds o t (length k) && value_holds t e.value) (suit b (record { key = k; value = e.value }))
    (and_both (key_length_holds o t (length k)) (value_holds t e.value) f y) c

-- the first key of a live slot's entries fits
pub first_fits : (w v : ℕ → ℕ) (s : State) (c : ℕ) (e : Entry) (es : List Entry) → Stands w v s → (node_at s c).dead ≡ false
    → (node_at s c).entries ≡ e ∷ es → key_length_holds s.order s.info (length e.key) ≡ true
unfolding every
first_fits w v s c e es st live q =
    let b : Bool = eqb (node_at s c).level 0 in
    let h : every (entry_holds s.order s.info b) (e ∷ es) ≡ true = rw q at (st.rows c live) in
    entry_key s.order s.info b e (and_left (entry_holds s.order s.info b e) (every (entry_holds s.order s.info b) es) h)

or_first : (a b : Bool) → (a || b) ≡ false → a ≡ false
or_first true b e = e
or_first false b e = refl

key_put_lem : (l : Lent) (w v : ℕ → ℕ) (s : State) (n i : ℕ) (k : List ℕ) → n < length s.nodes → 1 ≤ w n → Stands w v s
    → key_length_holds s.order s.info (length k) ≡ true
    → Edited l w v s (put_node s n (changed (node_at s n) (with_key i k (node_at s n).entries)))
key_put_lem l w v s n i k h out st f =
    changed_edited w v s n (with_key i k (node_at s n).entries) st out
    (λ d. every_key (entry_holds s.order s.info (eqb (node_at s n).level 0)) i k (node_at s n).entries
    (entry_rekeyed s.order s.info (eqb (node_at s n).level 0) k f) (st.rows n d))
    (λ c. omega (arith, naming_key c i k (node_at s n).entries))
    (λ d z q. omega (arith, st.filled n d z q, length_key i k (node_at s n).entries))
    l h

pub index_edited : (l : Lent) (w v : ℕ → ℕ) (s : State) (n i c : ℕ) → n < length s.nodes → 1 ≤ w n → Stands w v s
    → Edited l w v s (set_index_key s n i c)
unfolding set_index_key
index_edited l w v s n i c h out st =
    by_list (node_at s c).entries
    (λ q. rw q (record { steady = steady_refl l s; stands = st }))
    (λ e es q. by_test ((node_at s c).dead || not (ltb i (length (node_at s n).entries)) || same_key (key_at (node_at s n).entries i) e.key)
    (λ t. rw (q, t) (record { steady = steady_refl l s; stands = st }))
    (λ t. rw (q, t) (key_put_lem l w v s n i e.key h out st
    (first_fits w v s c e es st (or_first (node_at s c).dead _ (or_first ((node_at s c).dead || not (ltb i (length (node_at s n).entries))) _ t))
    q))))

pub indexes_edited : (l : Lent) (w v : ℕ → ℕ) (ps : List Step) (s : State) → ((c : ℕ) → 1 ≤ on_way c ps → 1 ≤ w c)
    → ((c : ℕ) → 1 ≤ on_way c ps → c < length s.nodes) → Stands w v s → Edited l w v s (index_keys ps s)
unfolding index_keys
indexes_edited l w v [] s h g st = record { steady = steady_refl l s; stands = st }
indexes_edited l w v (x ∷ []) s h g st = record { steady = steady_refl l s; stands = st }
indexes_edited l w v (x ∷ y ∷ ps) s h g st =
    let k : 1 ≤ on_way x.slot (x ∷ y ∷ ps) = omega (arith, names_same x.slot) in
    let t : State = index_keys (y ∷ ps) s in
    let a = indexes_edited l w v (y ∷ ps) s (λ c z. h c (omega arith)) (λ c z. g c (omega arith)) st in
    edited_then l w v w v s t _ a (index_edited l w v t x.slot x.child y.slot (le_trans (g x.slot k) a.steady.longer) (h x.slot k)
    a.stands)
