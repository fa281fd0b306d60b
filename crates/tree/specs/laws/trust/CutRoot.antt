-- The cut of a root keeps slots that stand together: the new root fits and names the two parts, its old one is no root any more. Assumes nothing.
use Rattle.std.specs.Prelude.{◌≡◌, List, [], ◌∷◌, cond, ◌&&◌, take, drop, leb, ltb, eqb}
use Rattle.std.proofs.Math.Path.{refl, sym, ap, subst}
use Rattle.std.proofs.Common.{◌∙◌, arith}
use Rattle.std.proofs.Math.Bool.{Bool, true, false}
use Prim.Native.Nat.{ℕ, suc, ◌+◌, ◌≤◌, ◌<◌}
use Rattle.std.proofs.Math.ListN.{length}
use borrow.Author.Tests.{leb-true, ltb-true, ltb-false, eqb-true, eqb-false, eq-eqb, ne_eqb}
use Rattle.node.specs.Entry.{Entry, mem, every}
use Rattle.node.specs.Find.{key_at}
use Rattle.node.specs.Fit.{fits}
use Rattle.node.specs.Slot.{MemNode, entry_holds}
use Rattle.node.specs.laws.base.Tests.{by_test, never, and_split, and_both}
use Rattle.node.specs.laws.base.Results.{Holds, holds_bind}
use Rattle.node.specs.laws.fit.Cut.{Parted}
use Rattle.tree.specs.Lent.{Lent}
use Rattle.tree.specs.State.{State, node_at, put_node, add_node, with_nodes, with_info, with_counts, with_root, with_place, changed, made}
use Rattle.tree.specs.Hold.{naming, named}
use Rattle.tree.specs.Lookup.{Step}
use Rattle.tree.specs.Edit.{more_nodes, parted, root_entries, grow_root, new_root_holds, cut_node, cuts}
use Rattle.tree.specs.laws.state.State.{at_put_same, put_count, at_add_new, add_count}
use Rattle.tree.specs.laws.state.Edit.{parted_left, parted_right, parted_count, parted_parts}
use Rattle.tree.specs.laws.trust.Named.{names, names_same, names_is, names_other, naming_cons, own, own_alive, named_put, named_add, live_used}
use Rattle.tree.specs.laws.trust.Stands.{Below, placed_on, root_names, Stands, all}
use Rattle.tree.specs.laws.trust.OneStep.{Kept, keep_stands, add_each, below_add, unused_unnamed, Like, like_refl, like_then, like_counts}
use Rattle.tree.specs.laws.trust.OneStep.{info_stands}
use Rattle.tree.specs.laws.trust.Edit.{Steady, steady_refl, steady_put, Edited, on_way, Falls}
use Rattle.tree.specs.laws.trust.Cut.{Room, by_top, stands_fit, below_steady, parted_stands, parted_steady, right_unnamed, right_live}
use Rattle.tree.specs.laws.trust.Cut.{right_some, right_level, child_fits, first_key, cuts_edited}

-- what an accepted edit leaves of the numbers, and slots that stand together
pub record Ended (l : Lent) (s t : State) : Type 0 where
  pub order : t.order ≡ s.order
  pub virtual : t.virtual ≡ s.virtual
  pub like : Like s.info t.info
  pub longest_key : t.info.longest_key ≡ s.info.longest_key
  pub longest_val : t.info.longest_val ≡ s.info.longest_val
  pub few : length s.nodes ≤ l.slots → length t.nodes ≤ l.slots
  pub stands : Stands all all t

pub edited_ended : (l : Lent) (s t : State) → Edited l all all s t → Ended l s t
edited_ended l s t a =
    let k = a.steady in
    record {
      order = k.order;
      virtual = k.virtual;
      like = k.like;
      longest_key = k.longest_key;
      longest_val = k.longest_val;
      few = k.few;
      stands = a.stands;
    }

pub steady_ended : (l : Lent) (s t u : State) → Steady l s t → Ended l t u → Ended l s u
steady_ended l s t u a b =
    record {
      order = b.order ∙ a.order;
      virtual = b.virtual ∙ a.virtual;
      like = like_then s.info t.info u.info a.like b.like;
      longest_key = b.longest_key ∙ a.longest_key;
      longest_val = b.longest_val ∙ a.longest_val;
      few = λ h. b.few (a.few h);
      stands = b.stands;
    }

-- ---- a root added

-- what a new root must be
record Rooted (s : State) (m : MemNode) : Type 0 where
  live : m.dead ≡ false
  deep : m.level ≤ 32
  rows : every (entry_holds s.order s.info (eqb m.level 0)) m.entries ≡ true
  links : (c : ℕ) → 1 ≤ own c m → Below s c m.level
  once : (c : ℕ) → named c s.nodes + own c m ≤ 1
  clean : m.dirty ≡ false → placed_on s.virtual m ≡ true
  dirty : m.dirty ≡ true → fits s.info true m.level m.entries ≡ true
  filled : (m.level ≡ 0 → ⊥) → 0 < length m.entries

below_root : (s : State) (r c k : ℕ) → Below s c k → Below (with_root s r) c k
unfolding with_root node_at
below_root s r c k b = record { used = b.used; live = b.live; lower = b.lower }

old_fits : (w v : ℕ → ℕ) (s : State) (k : ℕ) → Stands w v s → ((k : ℕ) → (k ≡ s.root → ⊥) → w k ≡ 0)
    → fits s.info false (node_at s s.root).level (node_at s s.root).entries ≡ true
    → (node_at s k).dead ≡ false → (node_at s k).dirty ≡ true → fits s.info false (node_at s k).level (node_at s k).entries ≡ true
old_fits w v s k st out old d f =
    by_test (eqb k s.root)
    (λ t. subst (λ (x : ℕ). fits s.info false (node_at s x).level (node_at s x).entries ≡ true) (sym (eqb-true k s.root t)) old)
    (λ t.
    let g : fits s.info (eqb k s.root) (node_at s k).level (node_at s k).entries ≡ true = st.dirty k d f (out k (eqb-false k s.root t)) in
    subst (λ (b : Bool). fits s.info b (node_at s k).level (node_at s k).entries ≡ true) t g)

root_added_lem : (w v : ℕ → ℕ) (s : State) (m : MemNode) → Stands w v s → ((k : ℕ) → (k ≡ s.root → ⊥) → w k ≡ 0) → Rooted s m
    → fits s.info false (node_at s s.root).level (node_at s s.root).entries ≡ true
    → Stands all v (with_root (add_node s m) (length s.nodes))
unfolding with_root node_at add_node with_nodes
root_added_lem w v s m st out a old =
    let c : ℕ = length s.nodes in
    let t : State = add_node s m in
    let u : State = with_root t c in
    record {
      root = ap (λ (x : MemNode). x.dead) (at_add_new s m) ∙ a.live;
      deep = add_each (λ k x. x.level ≤ 32) s m a.deep (λ k h d. st.deep k d);
      rows = add_each (λ k x. every (entry_holds s.order s.info (eqb x.level 0)) x.entries ≡ true) s m a.rows (λ k h d. st.rows k d);
      links = λ k d y. add_each (λ k x. 1 ≤ own d x → Below u d x.level) s m
          (λ z. below_root t c d m.level (below_add s m d m.level (a.links d z)))
          (λ k h e z. below_root t c d (node_at s k).level (below_add s m d (node_at s k).level (st.links k d z)))
          k (own_alive d (node_at t k) y) y;
      once = λ d. by_test (eqb d c)
          (λ e.
          let q : d ≡ c = eqb-true d c e in
          let x : ◌≡◌ {A = ℕ} (cond (eqb d c) 1 0) 1 = rw e in
          let far : own d m ≡ 0 = by_test (ltb 0 (own d m)) (λ z. absurd (omega (arith, (a.links d (ltb-true 0 _ z)).used)))
          (λ z. omega (arith, ltb-false 0 (own d m) z)) in
          omega (arith, named_add s m d, unused_unnamed w v s d st (omega arith)))
          (λ e. let x : ◌≡◌ {A = ℕ} (cond (eqb d c) 1 0) 0 = rw e in omega (arith, named_add s m d, a.once d));
      clean = add_each (λ k x. x.dirty ≡ false → placed_on s.virtual x ≡ true) s m a.clean (λ k h d. st.clean k d);
      dirty = λ k d e z. add_each (λ k x. x.dirty ≡ true → fits s.info (eqb k c) x.level x.entries ≡ true) s m
          (λ f. rw (eq-eqb c c refl) (a.dirty f))
          (λ k h d f. rw (ne_eqb k c (λ q. omega arith)) (old_fits w v s k st out old d f)) k d e;
      filled = λ k d z. add_each (λ k x. v k ≡ 0 → (x.level ≡ 0 → ⊥) → 0 < length x.entries) s m (λ y. a.filled) (λ k h d. st.filled k d) k d z;
    }

-- ---- a new root above two slots

module _ (v : ℕ → ℕ) (s : State) (n r : ℕ) (st : Stands (λ k. names k (mem n)) v s) (top : n ≡ s.root) (dirty : (node_at s n).dirty ≡ true)
    (live : (node_at s r).dead ≡ false)
    (some-n : 0 < length (node_at s n).entries) (some-r : 0 < length (node_at s r).entries) (free : named r s.nodes ≡ 0) (apart : r ≡ n → ⊥)
    (same : (node_at s r).level ≡ (node_at s n).level)
    (fit : fits s.info false (node_at s n).level (node_at s n).entries ≡ true) (holds : new_root_holds s n r ≡ true) where
  abbrev w : ℕ → ℕ
  w k = names k (mem n)

  abbrev bare : MemNode
  bare = with_place (node_at s n) [] []

  abbrev s₁ : State
  s₁ = put_node s n bare

  abbrev m : MemNode
  m = with_place (made (suc (node_at s n).level) (root_entries s n r)) (node_at s n).block (node_at s n).id

  n_live : (node_at s n).dead ≡ false
  n_live = ap (λ (x : ℕ). (node_at s x).dead) top ∙ st.root

  n_used : n < length s.nodes
  n_used = live_used s n n_live

  bare_kept : Kept w v s n bare
  unfolding with_place
  bare_kept =
      record {
        dead = refl;
        level = refl;
        rows = λ d. st.rows n d;
        links = λ c y. st.links n c y;
        once = λ c. omega (arith, st.once c);
        clean = λ d k. never dirty k;
        dirty = λ d k z. absurd (omega (arith, names_same n));
        filled = λ d z k. st.filled n d z k;
      }

  s₁_stands : Stands w v s₁
  s₁_stands = keep_stands w v w v s n bare n_used (λ k a b. b) (λ k a b. b) st bare_kept

  s₁_steady : (l : Lent) → Steady l s s₁
  unfolding with_place
  s₁_steady l = steady_put l s n bare refl refl

  s₁_named : (c : ℕ) → named c s₁.nodes ≡ named c s.nodes
  unfolding with_place
  s₁_named c = omega (arith, named_put s n bare c n_used)

  own_m : (c : ℕ) → own c m ≡ names c (mem n) + names c (mem r)
  unfolding with_place made root_entries naming
  own_m c =
      let a : Entry = record { key = key_at (node_at s n).entries 0; value = mem n } in
      let b : Entry = record { key = key_at (node_at s r).entries 0; value = mem r } in
      omega (arith, naming_cons c a (b ∷ []), naming_cons c b [])

  n_unnamed : named n s.nodes ≡ 0
  n_unnamed = let e : root_names n s ≡ 1 = rw (eq-eqb n s.root top) in omega (arith, st.once n)

  at_n : node_at s₁ n ≡ bare
  at_n = at_put_same s n bare n_used

  below_s : (k : ℕ) → (node_at s k).dead ≡ false → (node_at s k).level ≡ (node_at s n).level → Below s k (suc (node_at s n).level)
  below_s k a b = record { used = live_used s k a; live = a; lower = omega arith }

  m_links : (l : Lent) (c : ℕ) → 1 ≤ own c m → Below s₁ c (suc (node_at s n).level)
  m_links l c y =
      by_test (eqb c n)
      (λ e. let q : c ≡ n = eqb-true c n e in rw q (below_steady l s s₁ n (suc (node_at s n).level) (s₁_steady l) (below_s n n_live refl)))
      (λ e. let q : c ≡ r = names_is c r (omega (arith, own_m c, names_other c n (eqb-false c n e))) in rw q
      (below_steady l s s₁ r (suc (node_at s n).level) (s₁_steady l) (below_s r live same)))

  m_once : (c : ℕ) → named c s₁.nodes + own c m ≤ 1
  m_once c =
      by_test (eqb c n)
      (λ e.
      let q : c ≡ n = eqb-true c n e in
      let z : named c s.nodes ≡ 0 = rw q n_unnamed in
      let y : names c (mem r) ≡ 0 = names_other c r (λ x. apart (sym x ∙ q)) in
      let x : names c (mem n) ≡ 1 = rw q (names_same n) in
      omega (arith, own_m c, s₁_named c))
      (λ e. by_test (eqb c r)
      (λ f.
      let q : c ≡ r = eqb-true c r f in
      let z : named c s.nodes ≡ 0 = rw q free in
      let y : names c (mem n) ≡ 0 = names_other c n (eqb-false c n e) in
      let x : names c (mem r) ≡ 1 = rw q (names_same r) in
      omega (arith, own_m c, s₁_named c))
      (λ f. omega (arith, own_m c, s₁_named c, names_other c n (eqb-false c n e), names_other c r (eqb-false c r f), st.once c)))

  both : (fits s.info true (suc (node_at s n).level) (root_entries s n r) ≡ true) × (leb (suc (node_at s n).level) 32 ≡ true)
  unfolding new_root_holds
  both = and_split (fits s.info true (suc (node_at s n).level) (root_entries s n r)) (leb (suc (node_at s n).level) 32) holds

  m_rooted : Lent → Rooted s₁ m
  unfolding with_place made root_entries put_node with_nodes every
  m_rooted l =
      let t : Entry → Bool = entry_holds s.order s.info (eqb (suc (node_at s n).level) 0) in
      let a : Entry = record { key = key_at (node_at s n).entries 0; value = mem n } in
      let b : Entry = record { key = key_at (node_at s r).entries 0; value = mem r } in
      let deep : suc (node_at s n).level ≤ 32 = leb-true _ _ both.1 in
      record {
        live = refl;
        deep = deep;
        rows = and_both (t a) (t b && true)
            (child_fits s.order s.info (suc (node_at s n).level) n (key_at (node_at s n).entries 0) (first_key w v s n st n_live some-n)
            (λ z. omega arith))
            (and_both (t b) true (child_fits s.order s.info (suc (node_at s n).level) r (key_at (node_at s r).entries 0)
            (first_key w v s r st live some-r) (λ z. omega arith)) refl);
        links = m_links l;
        once = m_once;
        clean = λ k. never refl k;
        dirty = λ k. both.0;
        filled = λ k. omega arith;
      }

  old_fit : fits s₁.info false (node_at s₁ s₁.root).level (node_at s₁ s₁.root).entries ≡ true
  unfolding with_place
  old_fit =
      let e : node_at s₁ s₁.root ≡ bare = ap (node_at s₁) (root_put ∙ sym top) ∙ at_n in
      subst (λ (x : MemNode). fits s₁.info false x.level x.entries ≡ true) (sym e) (unfold put_node with_nodes in fit)
    where
      root_put : s₁.root ≡ s.root
      root_put = unfold put_node with_nodes in refl

  pub grow_stands : Lent → Stands all v (grow_root s n r)
  unfolding grow_root
  grow_stands l =
      let z : length s₁.nodes ≡ length s.nodes = put_count s n bare in
      let k : Stands all v (with_root (add_node s₁ m) (length s₁.nodes)) =
      root_added_lem w v s₁ m s₁_stands (λ k d. names_other k n (λ e. d (e ∙ top ∙ s₁_root))) (m_rooted l) old_fit in
      rw z at k
    where
      s₁_root : s.root ≡ s₁.root
      s₁_root = unfold put_node with_nodes in refl

  pub grow_count : length (grow_root s n r).nodes ≡ suc (length s.nodes)
  unfolding grow_root with_root
  grow_count = add_count s₁ m ∙ ap suc (put_count s n bare)

-- ---- the cut of a root

grow_numbers : (s : State) (n r : ℕ) → ((grow_root s n r).order ≡ s.order) × ((grow_root s n r).virtual ≡ s.virtual)
    × ((grow_root s n r).info ≡ s.info)
unfolding grow_root with_root add_node put_node with_nodes
grow_numbers s n r = (refl, refl, refl)

parted_same : (s : State) (n c : ℕ) → (parted s n c).info ≡ s.info
unfolding parted add_node put_node with_nodes
parted_same s n c = refl

left_some : (t : State) (n : ℕ) (m : MemNode) (es : List Entry) → node_at t n ≡ changed m es → 1 ≤ length es → 0 < length (node_at t n).entries
unfolding changed
left_some t n m es q h = let z : length (node_at t n).entries ≡ length es = ap (λ (x : MemNode). length x.entries) q in omega arith

left_fit : (t : State) (n : ℕ) (m : MemNode) (es : List Entry) → node_at t n ≡ changed m es → fits t.info false m.level es ≡ true
    → fits t.info false (node_at t n).level (node_at t n).entries ≡ true
unfolding changed
left_fit t n m es q h = subst (λ (x : MemNode). fits t.info false x.level x.entries ≡ true) (sym q) h

grown_ended : (l : Lent) (s t : State) (n r : ℕ) → Steady l s t → length (grow_root t n r).nodes ≤ l.slots → Stands all all (grow_root t n r)
    → Ended l s (more_nodes (grow_root t n r) 2)
unfolding more_nodes
grown_ended l s t n r sd few k =
    let u : State = grow_root t n r in
    let (o, v, i) = grow_numbers t n r in
    steady_ended l s t _ sd (record {
      order = unfold with_info in o;
      virtual = unfold with_info in v;
      like = unfold with_info in like_then t.info u.info _ (rw i (like_refl t.info)) (like_counts u.info _ _);
      longest_key = unfold with_info with_counts in ap (λ x. x.longest_key) i;
      longest_val = unfold with_info with_counts in ap (λ x. x.longest_val) i;
      few = λ h. unfold with_info in few;
      stands = info_stands all all u _ (like_counts u.info _ _) k;
    })

module _ (l : Lent) (s : State) (n c : ℕ) (top : n ≡ s.root) (st : Stands (λ k. names k (mem n)) all s) (live : (node_at s n).dead ≡ false)
    (ps : Parted s.info (node_at s n).level (node_at s n).entries c) (holds : new_root_holds (parted s n c) n (length s.nodes) ≡ true)
    (room : Room l s 2) where
  abbrev w' : ℕ → ℕ
  w' k = names k (mem n)

  abbrev r' : ℕ
  r' = length s.nodes

  abbrev t : State
  t = parted s n c

  part_out : w' n ≡ 0 → fits s.info (eqb n s.root) (node_at s n).level (take c (node_at s n).entries) ≡ true
  part_out z = absurd (omega (arith, names_same n))

  part_used : n < r'
  part_used = live_used s n live

  t_stands : Stands w' all t
  t_stands = parted_stands l w' w' all s n c st (λ k d z. z) live ps part_out

  t_steady : Steady l s t
  t_steady = parted_steady l w' w' all s n c st (λ k d z. z) live ps part_out (omega (arith, room.slots))

  t_right : node_at t r' ≡ made (node_at s n).level (drop c (node_at s n).entries)
  t_right = parted_right s n c part_used

  t_left : node_at t n ≡ changed (node_at s n) (take c (node_at s n).entries)
  t_left = parted_left s n c part_used

  t_top : n ≡ t.root
  t_top = top ∙ sym t_steady.root

  t_fit : fits t.info false (node_at t n).level (node_at t n).entries ≡ true
  t_fit = left_fit t n (node_at s n) _ t_left (rw (parted_same s n c) ps.left_fits)

  u_stands : Stands all all (grow_root t n r')
  u_stands =
      grow_stands all t n r' t_stands t_top (parted_parts s n c part_used).left_dirty (right_live t r' _ _ t_right)
      (left_some t n _ _ t_left ps.left_some) (right_some t r' _ _ t_right ps.right_some)
      (right_unnamed l w' w' all s n c st (λ k d z. z) live ps part_out) (λ e. omega (arith, part_used))
      (right_level t r' _ _ t_right ∙ sym (t_steady.level n part_used)) t_fit holds l

  u_few : length (grow_root t n r').nodes ≤ l.slots
  u_few =
      let k = grow_count all t n r' t_stands t_top (parted_parts s n c part_used).left_dirty (right_live t r' _ _ t_right)
      (left_some t n _ _ t_left ps.left_some) (right_some t r' _ _ t_right ps.right_some)
      (right_unnamed l w' w' all s n c st (λ k d z. z) live ps part_out) (λ e. omega (arith, part_used))
      (right_level t r' _ _ t_right ∙ sym (t_steady.level n part_used)) t_fit holds in
      omega (arith, parted_count s n c part_used, room.slots)

  top_grown : Ended l s (more_nodes (grow_root t n r') 2)
  top_grown = grown_ended l s t n r' t_steady u_few u_stands

top_ended : (l : Lent) (s : State) (n : ℕ) → n ≡ s.root → Stands (λ k. names k (mem n)) all s → Holds (Ended l s) (cut_node l [] n s)
top_ended l s n top st =
    by_top (Ended l s) l n s
    (λ t. edited_ended l s s (record {
      steady = steady_refl l s;
      stands = stands_fit (λ k. names k (mem n)) all all s n (λ k d z. names_other k n d) t st;
    }))
    (λ c live ps holds room. top_grown l s n c top st live ps holds room)

-- the cuts of a way that starts at the root: nothing is left out any more
pub cuts_ended : (l : Lent) (x : Step) (ps : List Step) (s : State) → Falls s (x ∷ ps) → x.slot ≡ s.root → Stands (λ k. on_way k (x ∷ ps)) all s
    → Holds (Ended l s) (cuts l [] (x ∷ ps) s)
unfolding cuts
cuts_ended l x ps s f top st =
    let w : ℕ → ℕ = λ k. names k (mem x.slot) in
    holds_bind (cuts l (x ∷ []) ps s) _ λ t e.
    let a : Edited l w all s t = (cuts_edited l (λ k. on_way k (x ∷ ps)) w all x ps s f (omega (arith, names_same x.slot)) (λ k y z. omega arith) st
    ).at t e in
    record { at = λ u q. steady_ended l s t u a.steady ((top_ended l t x.slot (top ∙ sym a.steady.root) a.stands).at u q) }
