-- What accepted cuts leave of each slot by itself, from the definitions alone: new slots are made and dirty; a new root takes the old one's block and
-- id. Assumes nothing.
use Rattle.std.specs.Prelude.{◌≡◌, refl, List, [], ◌∷◌, Bool, true, false, cond, ◌||◌, ℕ, zero, suc, ◌+◌, ◌-◌, ◌^◌, ◌≤◌, ◌<◌, length, take, drop, leb, ltb, eqb}
use Rattle.std.proofs.Common.{sym, ap, ap₂, ◌∙◌, le_trans, arith, length-append, ltb-true, ltb-false, leb-true, eqb-true}
use Rattle.std.proofs.Math.ListN.{get_or-eq_default}
use Rattle.std.proofs.lemmas.Bool.{eqb-false}
use Rattle.node.specs.Result.{ok, check}
use Rattle.node.specs.laws.base.Results.{Holds, holds_ok, holds_bind, holds_then, checked_ok, check_ok}
use Rattle.node.specs.Refusals as refusal
use Rattle.node.specs.Entry.{Entry}
use Rattle.node.specs.Fit.{fits}
use Rattle.node.specs.Cut.{cut}
use Rattle.node.specs.laws.fit.Cut.{Parted, cut_parts}
use Rattle.node.specs.Slot.{MemNode, insert_at, with_key, rekeyed}
use Rattle.node.specs.declared.info.BTreeInfo.{BTreeInfo}
use Rattle.node.specs.laws.base.Tests.{by_test, never}
use Rattle.tree.specs.Lent.{Lent}
use Rattle.tree.specs.State.{State, node_at, no_node, put_node, add_node, with_nodes, with_info, with_counts, changed, made}
use Rattle.tree.specs.laws.state.State.{at_put_same, at_put_other, put_count, at_add_old, at_add_new, add_count}
use Rattle.tree.specs.Lookup.{Step}
use Rattle.tree.specs.Edit.{index_keys, more_nodes, room_for, parted, link_right, cut_at, cut_node, cuts}
use Rattle.theorem.specs.model.Lazy.{names_same}
use Rattle.theorem.specs.steps.EachSlot.{on_way, by_indexes, follows_changed, Keeps, keeps_refl, keeps_then, put_keeps, add_keeps, info_keeps}

-- a slot that is not in use is dead
pub live_used : (s : State) (n : ℕ) → (node_at s n).dead ≡ false → n < length s.nodes
unfolding node_at no_node
live_used s n h =
    by_test (ltb n (length s.nodes))
    (λ t. ltb-true n (length s.nodes) t)
    (λ t. never (ap (λ (m : MemNode). m.dead) (sym (sym (get_or-eq_default s.nodes no_node (ltb-false n (length s.nodes) t))))) h)

-- ---- slots that only grow in number, none of them dropped

-- no live node is at level 33
abbrev pub Deep : State → Type 0
Deep s = (c : ℕ) → c < length s.nodes → (node_at s c).dead ≡ false → (node_at s c).level ≤ 32

-- only a root that is a leaf may be empty
abbrev pub Filled : State → Type 0
Filled s = (c : ℕ) → c < length s.nodes → (node_at s c).dead ≡ false
    → 0 < length (node_at s c).entries + cond (eqb c s.root) (cond (eqb (node_at s c).level 0) 1 0) 0

pub record Grows (w : ℕ → ℕ) (s u : State) : Type 0 where
  pub keeps : Keeps w s u
  pub level : (c : ℕ) → c < length s.nodes → (node_at u c).level ≡ (node_at s c).level
  pub dead : (c : ℕ) → c < length s.nodes → (node_at u c).dead ≡ (node_at s c).dead
  pub live : (c : ℕ) → length s.nodes ≤ c → c < length u.nodes → (node_at u c).dead ≡ false
  pub deep : Deep s → (c : ℕ) → length s.nodes ≤ c → c < length u.nodes → (node_at u c).level ≤ 32
  pub some : (c : ℕ) → c < length s.nodes → 0 < length (node_at s c).entries → 0 < length (node_at u c).entries
  pub more : (c : ℕ) → length s.nodes ≤ c → c < length u.nodes → 0 < length (node_at u c).entries

pub grows_refl : (w : ℕ → ℕ) (s : State) → Grows w s s
grows_refl w s =
    record {
      keeps = keeps_refl w s;
      level = λ c h. refl;
      dead = λ c h. refl;
      live = λ c h g. absurd (omega arith);
      deep = λ d c h g. absurd (omega arith);
      some = λ c h g. g;
      more = λ c h g. absurd (omega arith);
    }

pub grows_deep : (w : ℕ → ℕ) (s u : State) → Grows w s u → Deep s → Deep u
grows_deep w s u g d c h z =
    by_test (ltb c (length s.nodes))
    (λ t. let k = ltb-true c _ t in omega (arith, g.level c k, d c k (sym (g.dead c k) ∙ z)))
    (λ t. g.deep d c (ltb-false c _ t) h)

pub grows_filled : (w : ℕ → ℕ) (s u : State) → Grows w s u → Filled s → Filled u
grows_filled w s u g f c h z =
    by_test (ltb c (length s.nodes))
    (λ t.
    let k = ltb-true c _ t in
    let y = f c k (sym (g.dead c k) ∙ z) in
    let x : ◌≡◌ {A = ℕ} (cond (eqb c u.root) (cond (eqb (node_at u c).level 0) 1 0) 0)
    (cond (eqb c s.root) (cond (eqb (node_at s c).level 0) 1 0) 0) =
    ap₂ (λ (r l : ℕ). cond (eqb c r) (cond (eqb l 0) 1 0) 0) g.keeps.root (g.level c k) in
    by_test (ltb 0 (length (node_at s c).entries))
    (λ v. omega (arith, g.some c k (ltb-true 0 _ v)))
    (λ v. omega (arith, ltb-false 0 (length (node_at s c).entries) v)))
    (λ t. omega (arith, g.more c (ltb-false c _ t) h))

pub grows_then : (w : ℕ → ℕ) (s t u : State) → Grows w s t → Grows w t u → Grows w s u
grows_then w s t u a b =
    let p = a.keeps.longer in
    record {
      keeps = keeps_then w s t u a.keeps b.keeps;
      level = λ c h. b.level c (le_trans h p) ∙ a.level c h;
      dead = λ c h. b.dead c (le_trans h p) ∙ a.dead c h;
      live = λ c h g. by_test (ltb c (length t.nodes)) (λ v. let k = ltb-true c _ v in b.dead c k
          ∙ a.live c h k) (λ v. b.live c (ltb-false c _ v) g);
      deep = λ d c h g. by_test (ltb c (length t.nodes))
          (λ v. let k = ltb-true c _ v in omega (arith, b.level c k, a.deep d c h k))
          (λ v. b.deep (grows_deep w s t a d) c (ltb-false c _ v) g);
      some = λ c h g. b.some c (le_trans h p) (a.some c h g);
      more = λ c h g. by_test (ltb c (length t.nodes)) (λ v. let k = ltb-true c _ v in
          b.some c k (a.more c h k)) (λ v. b.more c (ltb-false c _ v) g);
    }

-- one node of the way with other entries
module _ (s : State) (n : ℕ) (m : MemNode) where
  put_each : {A : Type 0} (f : MemNode → A) → f m ≡ f (node_at s n) → (c : ℕ) → c < length s.nodes → f (node_at (put_node s n m) c) ≡ f (node_at s c)
  put_each f e c h =
      by_test (eqb c n)
      (λ t. let q : c ≡ n = eqb-true c n t in let k : n < length s.nodes = omega arith in rw q (ap f (at_put_same s n m k) ∙ e))
      (λ t. ap f (at_put_other s n m c (eqb-false c n t)))

  put_some : (0 < length (node_at s n).entries → 0 < length m.entries) → (c : ℕ) → c < length s.nodes → 0 < length (node_at s c).entries
      → 0 < length (node_at (put_node s n m) c).entries
  put_some so c h g =
      by_test (eqb c n)
      (λ t. let q : c ≡ n = eqb-true c n t in let k : n < length s.nodes = omega arith in rw (q, at_put_same s n m k) (so (rw q at g)))
      (λ t. rw (at_put_other s n m c (eqb-false c n t)) g)

pub put_grows : (w : ℕ → ℕ) (s : State) (n : ℕ) (es : List Entry) → 1 ≤ w n → (0 < length (node_at s n).entries → 0 < length es)
    → Grows w s (put_node s n (changed (node_at s n) es))
unfolding changed
put_grows w s n es on so =
    let m : MemNode = changed (node_at s n) es in
    let ct : length (put_node s n m).nodes ≡ length s.nodes = put_count s n m in
    record {
      keeps = put_keeps w s n m on (follows_changed (node_at s n) es);
      level = put_each s n m (λ x. x.level) refl;
      dead = put_each s n m (λ x. x.dead) refl;
      live = λ c h g. absurd (omega arith);
      deep = λ d c h g. absurd (omega arith);
      some = put_some s n m so;
      more = λ c h g. absurd (omega arith);
    }

keyed_some : (i : ℕ) (k : List ℕ) (es : List Entry) → 0 < length es → 0 < length (with_key i k es)
unfolding with_key rekeyed
keyed_some zero k [] h = h
keyed_some zero k (e ∷ es) h = omega arith
keyed_some (suc i) k [] h = h
keyed_some (suc i) k (e ∷ es) h = omega arith

-- index keys on a way
pub index_grows : (w : ℕ → ℕ) (ps : List Step) (s : State) → ((c : ℕ) → 1 ≤ on_way c ps → 1 ≤ w c) → Grows w s (index_keys ps s)
index_grows w ps s h = by_indexes (Grows w) (grows_refl w) (grows_then w) w
    (λ u n i k g. put_grows w u n _ g (keyed_some i k (node_at u n).entries)) ps s h

-- one node made
pub add_grows : (w : ℕ → ℕ) (s : State) (l : ℕ) (es : List Entry) → (Deep s → l ≤ 32) → 0 < length es → Grows w s (add_node s (made l es))
unfolding made
add_grows w s l es dp so =
    let m : MemNode = made l es in
    let ct : length (add_node s m).nodes ≡ suc (length s.nodes) = add_count s m in
    let is : (c : ℕ) → length s.nodes ≤ c → c < length (add_node s m).nodes → node_at (add_node s m) c ≡ m = λ c h g. let e : c ≡ length s.nodes =
    omega arith in rw e (at_add_new s m) in
    record {
      keeps = add_keeps w s m (record { block = refl; id = refl; dirty = refl });
      level = λ c h. ap (λ (x : MemNode). x.level) (at_add_old s m c h);
      dead = λ c h. ap (λ (x : MemNode). x.dead) (at_add_old s m c h);
      live = λ c h g. ap (λ (x : MemNode). x.dead) (is c h g);
      deep = λ d c h g. rw (is c h g) (dp d);
      some = λ c h g. rw (at_add_old s m c h) g;
      more = λ c h g. rw (is c h g) so;
    }

pub info_grows : (w : ℕ → ℕ) (s u : State) (t : BTreeInfo) → Grows w s u → Grows w s (with_info u t)
info_grows w s u t g =
    record {
      keeps = info_keeps w s u t g.keeps;
      level = unfold with_info node_at in g.level;
      dead = unfold with_info node_at in g.dead;
      live = unfold with_info node_at in g.live;
      deep = unfold with_info node_at in g.deep;
      some = unfold with_info node_at in g.some;
      more = unfold with_info node_at in g.more;
    }

pub more_grows : (w : ℕ → ℕ) (s u : State) (n : ℕ) → Grows w s u → Grows w s (more_nodes u n)
unfolding more_nodes
more_grows w s u n g = info_grows w s u _ g

-- ---- a cut

-- a node's entries in two slots
pub parted_grows : (w : ℕ → ℕ) (s : State) (n c : ℕ) → 1 ≤ w n → (node_at s n).dead ≡ false → 1 ≤ length (take c (node_at s n).entries)
    → 1 ≤ length (drop c (node_at s n).entries) → Grows w s (parted s n c)
unfolding parted
parted_grows w s n c on live a b =
    let m : MemNode = node_at s n in
    let t : State = put_node s n (changed m (take c m.entries)) in
    let g : Grows w s t = put_grows w s n (take c m.entries) on (λ h. a) in
    let used : n < length s.nodes = live_used s n live in
    grows_then w s t _ g (add_grows w t m.level (drop c m.entries)
    (λ d. omega (arith, g.level n used, d n (le_trans used g.keeps.longer) (g.dead n used ∙ live))) b)

inserted_some : (i : ℕ) (e : Entry) (es : List Entry) → 0 < length (insert_at i e es)
unfolding insert_at
inserted_some i e es = omega (arith, length-append (take i es) (e ∷ drop i es))

pub link_grows : (w : ℕ → ℕ) (s : State) (p i r : ℕ) → 1 ≤ w p → Grows w s (link_right s p i r)
unfolding link_right
link_grows w s p i r on = put_grows w s p _ on (λ h. inserted_some (suc i) _ (node_at s p).entries)

-- what cuts leave of the tree's numbers
pub record Numbers (t t' : BTreeInfo) : Type 0 where
  pub flags : t'.flags ≡ t.flags
  pub node : t'.node_size ≡ t.node_size
  pub key : t'.key_size ≡ t.key_size
  pub val : t'.val_size ≡ t.val_size
  pub longest_key : t'.longest_key ≡ t.longest_key
  pub longest_val : t'.longest_val ≡ t.longest_val
  pub key_count : t'.key_count ≡ t.key_count

pub numbers_refl : (t : BTreeInfo) → Numbers t t
numbers_refl t = record { flags = refl; node = refl; key = refl; val = refl; longest_key = refl; longest_val = refl; key_count = refl }

pub numbers_then : (a b c : BTreeInfo) → Numbers a b → Numbers b c → Numbers a c
numbers_then a b c h k =
    record {
      flags = k.flags ∙ h.flags;
      node = k.node ∙ h.node;
      key = k.key ∙ h.key;
      val = k.val ∙ h.val;
      longest_key = k.longest_key ∙ h.longest_key;
      longest_val = k.longest_val ∙ h.longest_val;
      key_count = k.key_count ∙ h.key_count;
    }

-- the numbers and how many slots there are, after accepted cuts
pub record Counted (l : Lent) (s u : State) : Type 0 where
  pub numbers : Numbers s.info u.info
  -- one node a slot
  pub count : u.info.node_count + length s.nodes ≡ s.info.node_count + length u.nodes
  pub nodes : s.info.node_count < 2 ^ 64 → u.info.node_count < 2 ^ 64
  pub few : length s.nodes ≤ l.slots → length u.nodes ≤ l.slots

pub counted_refl : (l : Lent) (s : State) → Counted l s s
counted_refl l s = record { numbers = numbers_refl s.info; count = refl; nodes = λ h. h; few = λ h. h }

pub counted_then : (l : Lent) (s t u : State) → Counted l s t → Counted l t u → Counted l s u
counted_then l s t u a b =
    record {
      numbers = numbers_then s.info t.info u.info a.numbers b.numbers;
      count = omega (arith, a.count, b.count);
      nodes = λ h. b.nodes (a.nodes h);
      few = λ h. b.few (a.few h);
    }

pub record Room (l : Lent) (s : State) (n : ℕ) : Type 0 where
  pub count : s.info.node_count + n ≤ 2 ^ 64 - 1
  pub slots : length s.nodes + n ≤ l.slots

pub room_of_lem : (l : Lent) (s : State) (n : ℕ) (x : Unit {0}) → room_for l s n ≡ ok x → Room l s n
unfolding room_for
room_of_lem l s n x e =
    let (a, b) = checked_ok refusal.count (leb (s.info.node_count + n) (2 ^ 64 - 1))
    (check refusal.no_slot (leb (length s.nodes + n) l.slots)) x e in
    record { count = leb-true _ _ a; slots = leb-true _ _ (check_ok refusal.no_slot (leb (length s.nodes + n) l.slots) x b) }

-- n slots more, with room for them
pub counted_more : (l : Lent) (s u : State) (n : ℕ) → u.info ≡ s.info → length u.nodes ≡ length s.nodes + n → Room l s n
    → Counted l s (more_nodes u n)
unfolding more_nodes with_info with_counts
counted_more l s u n q c r =
    let z : u.info.node_count ≡ s.info.node_count = ap (λ (t : BTreeInfo). t.node_count) q in
    record {
      numbers = record {
        flags = ap (λ (t : BTreeInfo). t.flags) q;
        node = ap (λ (t : BTreeInfo). t.node_size) q;
        key = ap (λ (t : BTreeInfo). t.key_size) q;
        val = ap (λ (t : BTreeInfo). t.val_size) q;
        longest_key = ap (λ (t : BTreeInfo). t.longest_key) q;
        longest_val = ap (λ (t : BTreeInfo). t.longest_val) q;
        key_count = ap (λ (t : BTreeInfo). t.key_count) q;
      };
      count = omega arith;
      nodes = λ h. omega (arith, r.count);
      few = λ h. omega (arith, r.slots);
    }

-- a node under its parent: it fits or is dead, or it is cut
pub by_cut : (P : State → Type 0) (l : Lent) (x : Step) (n : ℕ) (s : State)
    → (((node_at s n).dead || fits s.info (eqb n s.root) (node_at s n).level (node_at s n).entries) ≡ true → P s)
    → ((c : ℕ) → (node_at s n).dead ≡ false → Parted s.info (node_at s n).level (node_at s n).entries c → Room l s 1
    → P (more_nodes (link_right (parted s n c) x.slot x.child (length s.nodes)) 1))
    → Holds P (cut_node l (x ∷ []) n s)
unfolding cut_node cut_at
by_cut P l x n s f g =
    let d : Bool = (node_at s n).dead in
    by_test ((node_at s n).dead || fits s.info (eqb n s.root) (node_at s n).level (node_at s n).entries)
    (λ t. rw t (holds_ok (f t)))
    (λ t. rw t (holds_bind (cut s.info (node_at s n).level (node_at s n).entries) _ λ c q.
    holds_then (room_for l s 1) _ λ y e. holds_ok
    (g c (or_first _ _ t) (cut_parts s.info (node_at s n).level (node_at s n).entries c q) (room_of_lem l s 1 y e))))
  where
    or_first : (a b : Bool) → (a || b) ≡ false → a ≡ false
    or_first true b e = e
    or_first false b e = refl

-- ---- cuts below the top of a way

pub record CutBelow (l : Lent) (w : ℕ → ℕ) (s u : State) : Type 0 where
  pub grows : Grows w s u
  pub counted : Counted l s u

below_then : (l : Lent) (w : ℕ → ℕ) (s t u : State) → CutBelow l w s t → CutBelow l w t u → CutBelow l w s u
below_then l w s t u a b = record { grows = grows_then w s t u a.grows b.grows; counted = counted_then l s t u a.counted b.counted }

pub parted_info : (s : State) (n c : ℕ) → (parted s n c).info ≡ s.info
unfolding parted add_node put_node with_nodes
parted_info s n c = refl

pub parted_slots : (s : State) (n c : ℕ) → length (parted s n c).nodes ≡ suc (length s.nodes)
unfolding parted
parted_slots s n c = let m : MemNode = changed (node_at s n) (take c (node_at s n).entries) in add_count (put_node s n m) _ ∙ ap suc (put_count s n m)

link_info : (s : State) (p i r : ℕ) → (link_right s p i r).info ≡ s.info
unfolding link_right put_node with_nodes
link_info s p i r = refl

pub link_slots : (s : State) (p i r : ℕ) → length (link_right s p i r).nodes ≡ length s.nodes
unfolding link_right
link_slots s p i r = put_count s p _

cut_below : (l : Lent) (w : ℕ → ℕ) (x : Step) (n : ℕ) (s : State) → 1 ≤ w n → 1 ≤ w x.slot → Holds (CutBelow l w s) (cut_node l (x ∷ []) n s)
cut_below l w x n s h g =
    by_cut (CutBelow l w s) l x n s
    (λ t. record { grows = grows_refl w s; counted = counted_refl l s })
    (λ c live ps room.
    let t : State = parted s n c in
    let u : State = link_right t x.slot x.child (length s.nodes) in
    record {
      grows = more_grows w s u 1 (grows_then w s t u (parted_grows w s n c h live ps.left_some ps.right_some)
          (link_grows w t x.slot x.child (length s.nodes) g));
      counted = counted_more l s u 1 (link_info t x.slot x.child (length s.nodes) ∙ parted_info s n c)
          (omega (arith, link_slots t x.slot x.child (length s.nodes), parted_slots s n c)) room;
    })

pub cuts_below : (l : Lent) (w : ℕ → ℕ) (x : Step) (ps : List Step) (s : State) → ((c : ℕ) → 1 ≤ on_way c (x ∷ ps) → 1 ≤ w c)
    → Holds (CutBelow l w s) (cuts l (x ∷ []) ps s)
unfolding cuts
cuts_below l w x [] s h = holds_ok (record { grows = grows_refl w s; counted = counted_refl l s })
cuts_below l w x (y ∷ ps) s h =
    holds_bind (cuts l (y ∷ []) ps s) _ λ t e.
    record {
      at = λ u q. below_then l w s t u ((cuts_below l w y ps s (λ c g. h c (omega arith))).at t e)
          ((cut_below l w x y.slot t (h y.slot (omega (arith, names_same y.slot)))
          (h x.slot (omega (arith, names_same x.slot)))).at u q);
    }
