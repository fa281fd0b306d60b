-- The root's place handed down keeps slots that stand together: the old root is dead, so its one name goes. Assumes nothing.
use Rattle.std.proofs.Math.Path.{◌≡◌, refl, ap, subst}
use Rattle.std.proofs.Common.{sym, ◌∙◌, arith, eqb-true, ne_eqb}
use Rattle.std.specs.Prelude.{List, [], ◌∷◌, Bool, cond, ℕ, zero, suc, ◌+◌, ◌-◌, ◌≤◌, ◌<◌, ltb, eqb}
use Rattle.std.proofs.Math.Bool.{true, false}
use Rattle.std.proofs.Math.ListN.{length}
use Rattle.std.proofs.lemmas.Bool.{eqb-false}
use Rattle.node.specs.Refusals as refusal
use Rattle.node.specs.Entry.{Entry, mem, every}
use Rattle.node.specs.Find.{val_at}
use Rattle.node.specs.Fit.{fits}
use Rattle.node.specs.Slot.{MemNode, entry_holds}
use Rattle.node.specs.declared.info.BTreeInfo.{BTreeInfo}
use Rattle.node.specs.laws.base.Tests.{by_test, never, and_split}
use Rattle.node.specs.laws.base.Results.{Holds, holds_ok, holds_bind, holds_check}
use Rattle.tree.specs.Lent.{Lent}
use Rattle.tree.specs.State.{State, node_at, put_node, with_nodes, with_info, with_counts, with_root, with_place, changed, marked_dirty, marked_dead}
use Rattle.tree.specs.Hold.{naming, named}
use Rattle.tree.specs.Load.{unbounded, load_child}
use Rattle.tree.specs.Remove.{handed_down, has_only_child, root_taken, hand_down}
use Rattle.tree.specs.laws.state.State.{at_put_same, at_put_other, put_count, keys_of}
use Rattle.tree.specs.laws.state.Load.{load_child_lem}
use Rattle.tree.specs.laws.trust.Named.{names, names_same, names_other, naming_cons, own, own_live, own_dead, named_put, live_used, put_comm}
use Rattle.tree.specs.laws.trust.Stands.{Below, placed_on, Stands, all, stands_wider, root_unnamed}
use Rattle.tree.specs.laws.trust.OneStep.{put_each, Kept, keep_stands, Like, like_refl, like_then, like_counts, info_stands}
use Rattle.tree.specs.laws.trust.Loads.{holds_cond, Loads, Loaded, load_loaded}
use Rattle.tree.specs.laws.trust.CutRoot.{Ended}

-- ---- the root goes to its only child

module _ (s : State) (c : ℕ) (m : MemNode) (st : Stands (λ k. names k (mem c)) all s) (only : (d : ℕ) → own d (node_at s s.root) ≡ names d (mem c))
    (dead : m.dead ≡ true)
    (fit : fits s.info true (node_at s c).level (node_at s c).entries ≡ true) where
  abbrev r : ℕ
  r = s.root

  abbrev t : State
  t = put_node s r m

  abbrev u : State
  u = with_root t c

  below : Below s c (node_at s r).level
  below = st.links r c (omega (arith, only c, names_same c))

  apart : c ≡ r → ⊥
  apart e = let z : (node_at s c).level ≡ (node_at s r).level = ap (λ (k : ℕ). (node_at s k).level) e in omega (arith, below.lower)

  used : r < length s.nodes
  used = live_used s r st.root

  below_u : (d k : ℕ) → (d ≡ r → ⊥) → Below s d k → Below u d k
  unfolding with_root node_at
  below_u d k h b =
      let q : node_at t d ≡ node_at s d = at_put_other s r m d h in
      record {
        used = omega (arith, put_count s r m, b.used);
        live = ap (λ (x : MemNode). x.dead) q ∙ b.live;
        lower = omega
            (arith, ap (λ (x : MemNode). x.level) q, b.lower);
      }

  once_u : (d : ℕ) → named d t.nodes + cond (eqb d c) 1 0 ≤ 1
  once_u d =
      by_test (eqb d c)
      (λ e.
      let q : d ≡ c = eqb-true d c e in
      let x : ◌≡◌ {A = ℕ} (cond (eqb d c) 1 0) 1 = rw e in
      let y : names d (mem c) ≡ 1 = rw q (names_same c) in
      omega (arith, named_put s r m d used, own_dead d m dead, only d, st.once d))
      (λ e. let x : ◌≡◌ {A = ℕ} (cond (eqb d c) 1 0) 0 = rw e in omega (arith, named_put s r m d used, own_dead d m dead, st.once d))

  dirty_u : (k : ℕ) → (k ≡ r → ⊥) → (node_at s k).dead ≡ false → (node_at s k).dirty ≡ true
      → fits s.info (eqb k c) (node_at s k).level (node_at s k).entries ≡ true
  dirty_u k h d f =
      by_test (eqb k c)
      (λ e. let q : k ≡ c = eqb-true k c e in
      subst (λ (b : Bool). fits s.info b (node_at s k).level (node_at s k).entries ≡ true) (sym e)
      (subst (λ (j : ℕ). fits s.info true (node_at s j).level (node_at s j).entries ≡ true) (sym q) fit))
      (λ e. subst (λ (b : Bool). fits s.info b (node_at s k).level (node_at s k).entries ≡ true) (ne_eqb k r h ∙ sym e)
      (st.dirty k d f (names_other k c (eqb-false k c e))))

  pub moved_stands : Stands all all u
  unfolding with_root node_at put_node with_nodes
  moved_stands =
      record {
        root = ap (λ (x : MemNode). x.dead) (at_put_other s r m c apart) ∙ below.live;
        deep = put_each (λ k x. x.dead ≡ false → x.level ≤ 32) s r m used (λ d. never dead d) (λ k d. st.deep k);
        rows = put_each (λ k x. x.dead ≡ false → every (entry_holds s.order s.info (eqb x.level 0)) x.entries ≡ true) s r m used
            (λ d. never dead d) (λ k d. st.rows k);
        links = put_each (λ k x. (d : ℕ) → 1 ≤ own d x → Below u d x.level) s r m used
            (λ d y. absurd (omega (arith, own_dead d m dead)))
            (λ k q d y. below_u d (node_at s k).level (λ e. let z : 1 ≤ own r (node_at s k) = subst (λ (j : ℕ). 1 ≤ own j (node_at s k)) e y in omega
            (arith, root_unnamed (λ k. names k (mem c)) all s k st)) (st.links k d y));
        once = once_u;
        clean = put_each (λ k x. x.dead ≡ false → x.dirty ≡ false → placed_on s.virtual x ≡ true) s r m used (λ d. never dead d)
            (λ k d. st.clean k);
        dirty = put_each (λ k x. x.dead ≡ false → x.dirty ≡ true → ◌≡◌ {A = ℕ} 0 0 → fits s.info (eqb k c) x.level x.entries ≡ true) s r m
            used (λ d. never dead d) (λ k d a b z. dirty_u k d a b);
        filled = put_each (λ k x. x.dead ≡ false → ◌≡◌ {A = ℕ} 0 0 → (x.level ≡ 0 → ⊥) → 0 < length x.entries) s r m used (λ d. never dead d)
            (λ k d. st.filled k);
      }

-- the new root: dirty, with the old one's id
module _ (s : State) (c : ℕ) (st : Stands all all s) (only : (d : ℕ) → own d (node_at s s.root) ≡ names d (mem c))
    (fit : fits s.info true (node_at s c).level (node_at s c).entries ≡ true) where
  abbrev old : MemNode
  old = marked_dead (with_place (node_at s s.root) (node_at s s.root).block (node_at s c).id)

  abbrev new : MemNode
  new = marked_dirty (with_place (node_at s c) (node_at s c).block (node_at s s.root).id)

  abbrev w : ℕ → ℕ
  w k = names k (mem c)

  c_below : Below s c (node_at s s.root).level
  c_below = st.links s.root c (omega (arith, only c, names_same c))

  c_apart : c ≡ s.root → ⊥
  c_apart e = let z : (node_at s c).level ≡ (node_at s s.root).level = ap (λ (k : ℕ). (node_at s k).level) e in omega (arith, c_below.lower)

  new_kept : Kept w all s c new
  unfolding marked_dirty changed with_place
  new_kept =
      record {
        dead = refl;
        level = refl;
        rows = λ d. st.rows c d;
        links = λ d y. st.links c d y;
        once = λ d. omega (arith, st.once d);
        clean = λ d k. never refl k;
        dirty = λ d k z. absurd (omega (arith, names_same c));
        filled = λ d z k. st.filled c d z k;
      }

  abbrev s₁ : State
  s₁ = put_node s c new

  s₁_stands : Stands w all s₁
  s₁_stands = keep_stands w all w all s c new c_below.used (λ k a b. b) (λ k a b. b) (stands_wider all all w all s (λ k z. refl) (λ k z. z) st)
      new_kept

  s₁_root : s₁.root ≡ s.root
  s₁_root = unfold put_node with_nodes in refl

  at_root : node_at s₁ s₁.root ≡ node_at s s.root
  at_root = ap (node_at s₁) s₁_root ∙ at_put_other s c new s.root (λ e. c_apart (sym e))

  fit₁ : fits s₁.info true (node_at s₁ c).level (node_at s₁ c).entries ≡ true
  unfolding marked_dirty changed with_place
  fit₁ = subst (λ (x : MemNode). fits s₁.info true x.level x.entries ≡ true) (sym (at_put_same s c new c_below.used))
      (unfold put_node with_nodes in fit)

  moved : Stands all all (with_root (put_node s₁ s₁.root old) c)
  unfolding marked_dead
  moved = moved_stands s₁ c old s₁_stands (λ d. ap (own d) at_root ∙ only d) refl fit₁

  pub handed_stands : Stands all all (handed_down s c)
  unfolding handed_down
  handed_stands =
      let k : Stands all all (with_root (put_node (put_node s s.root old) c new) c) = rw (put_comm s s.root c old new (λ e. c_apart (sym e)))
      (unfold put_node with_nodes in moved) in
      info_stands all all _ _ like k
    where
      like : Like (with_root (put_node (put_node s s.root old) c new) c).info
          (with_counts s.info s.info.key_count (s.info.node_count - 1))
      like = unfold with_root put_node with_nodes in like_counts s.info _ _

-- ---- while an index root has one child

handed_count : (s : State) (c : ℕ) → length (handed_down s c).nodes ≡ length s.nodes
unfolding handed_down with_info with_root
handed_count s c = put_count (put_node s s.root _) c _ ∙ put_count s s.root _

handed_ended : (l : Lent) (s : State) (c : ℕ) → Stands all all (handed_down s c) → Ended l s (handed_down s c)
handed_ended l s c k =
    record {
      order = unfold handed_down with_info with_root put_node with_nodes in refl;
      virtual = unfold handed_down with_info with_root put_node with_nodes in refl;
      like = unfold handed_down with_info in like_counts s.info _ _;
      longest_key = unfold handed_down with_info with_counts in refl;
      longest_val = unfold handed_down with_info with_counts in refl;
      few = λ h. rw (handed_count s c) h;
      stands = k;
    }

pub ended_then : (l : Lent) (s t u : State) → Ended l s t → Ended l t u → Ended l s u
ended_then l s t u a b =
    record {
      order = b.order ∙ a.order;
      virtual = b.virtual ∙ a.virtual;
      like = like_then s.info t.info u.info a.like b.like;
      longest_key = b.longest_key ∙ a.longest_key;
      longest_val = b.longest_val ∙ a.longest_val;
      few = λ h. b.few (a.few h);
      stands = b.stands;
    }

pub loaded_ended : (l : Lent) (s t : State) → Loaded l all all s t → Ended l s t
loaded_ended l s t a =
    let k = a.loads in
    record {
      order = k.order;
      virtual = k.virtual;
      like = rw k.info (like_refl s.info);
      longest_key = ap (λ (i : BTreeInfo). i.longest_key) k.info;
      longest_val = ap (λ (i : BTreeInfo). i.longest_val) k.info;
      few = k.few;
      stands = a.stands;
    }

keys_length_lem : (es : List Entry) → length (keys_of es) ≡ length es
keys_length_lem [] = refl
keys_length_lem (e ∷ es) = ap suc (keys_length_lem es)

one_name : (d c : ℕ) (es : List Entry) → length es ≡ 1 → val_at es 0 ≡ mem c → naming d es ≡ names d (mem c)
unfolding val_at naming
one_name d c [] h q = absurd (omega arith)
one_name d c (e ∷ []) h q = let z : names d e.value ≡ names d (mem c) = ap (names d) q in omega (arith, naming_cons d e [])
one_name d c (e ∷ f ∷ es) h q = absurd (omega arith)

only_child : (s : State) → has_only_child s ≡ true → length (node_at s s.root).entries ≡ 1
unfolding has_only_child
only_child s h = eqb-true _ _ (and_split (ltb 0 (node_at s s.root).level) (eqb (length (node_at s s.root).entries) 1) h).1

only_named : (l : Lent) (s t : State) (c : ℕ) → Stands all all s → has_only_child s ≡ true → Loads l s t → val_at (node_at t s.root).entries 0 ≡ mem c
    → (d : ℕ) → own d (node_at t t.root) ≡ names d (mem c)
only_named l s t c st h a q d =
    let used : s.root < length s.nodes = live_used s s.root st.root in
    let live : (node_at t t.root).dead ≡ false = ap (λ (j : ℕ). (node_at t j).dead) a.root ∙ a.dead s.root used ∙ st.root in
    let n : length (node_at t s.root).entries ≡ 1 = sym (keys_length_lem (node_at t s.root).entries) ∙ ap length (a.keys s.root used) ∙
    keys_length_lem (node_at s s.root).entries ∙ only_child s h in
    own_live d (node_at t t.root) live ∙ ap (λ (j : ℕ). naming d (node_at t j).entries) a.root ∙ one_name d c (node_at t s.root).entries n q

pub hand_ended : (n : ℕ) (l : Lent) (s : State) → Stands all all s → Holds (Ended l s) (hand_down n l s)
unfolding hand_down root_taken
hand_ended zero l s st = holds_ok (record {
  order = refl;
  virtual = refl;
  like = like_refl s.info;
  longest_key = refl;
  longest_val = refl;
  few = λ h.
      h;
  stands = st;
})
hand_ended (suc n) l s st =
    holds_cond (has_only_child s) _ _
    (λ h.
    holds_bind (load_child l s unbounded s.root 0) _ λ a e.
    let k = (load_loaded l all all s unbounded s.root 0 st).at a e in
    let t : State = a.state in
    let x : Ended l s t = loaded_ended l s t k in
    holds_cond (fits t.info true (node_at t a.slot).level (node_at t a.slot).entries) _ _
    (λ f.
    let y : Ended l t (handed_down t a.slot) = handed_ended l t a.slot
    (handed_stands t a.slot k.stands (only_named l s t a.slot st h k.loads (load_child_lem l s unbounded s.root 0 a e)) f) in
    holds_check refusal.count (ltb 0 t.info.node_count) (hand_down n l (handed_down t a.slot)) λ z.
    let r = hand_ended n l (handed_down t a.slot) y.stands in
    record { at = λ u q. ended_then l s t u x (ended_then l t (handed_down t a.slot) u y (r.at u q)) })
    (λ f. holds_ok x))
    (λ h. holds_ok (record {
      order = refl;
      virtual = refl;
      like = like_refl s.info;
      longest_key = refl;
      longest_val = refl;
      few = λ h. h;
      stands = st;
    }))
