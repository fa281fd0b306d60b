-- Cuts keep slots that stand together and make every slot of the way fit: the parts of a cut, the right part's name, a new root. Assumes nothing.
use Rattle.std.specs.Prelude.{◌≡◌, List, [], ◌∷◌, Bool, true, false, ◌||◌, take, drop, leb, eqb}
use Rattle.std.proofs.Math.Path.{refl, ap}
use Rattle.std.proofs.Common.{sym, subst, ◌∙◌, le_refl, le_trans, length-append, leb-true, eqb-true, ne_eqb}
use Prim.Native.Nat.{ℕ, suc, ◌+◌, ◌-◌, ◌^◌, ◌≤◌, ◌<◌}
use native.Mathlib.Omega.{arith}
use Rattle.std.proofs.Math.ListN.{length}
use Rattle.std.proofs.lemmas.Bool.{eqb-false}
use Rattle.node.specs.Result.{ok, check}
use Rattle.node.specs.Refusals as refusal
use Rattle.node.specs.Entry.{Entry, mem, every}
use Rattle.node.specs.Find.{key_at}
use Rattle.node.specs.Fit.{fits}
use Rattle.node.specs.Cut.{cut}
use Rattle.node.specs.Slot.{MemNode, is_child, suit, key_length_holds, value_holds, entry_holds, insert_at}
use Rattle.node.specs.declared.info.BTreeInfo.{BTreeInfo}
use Rattle.node.specs.laws.base.Tests.{by_test, never, and_both}
use Rattle.node.specs.laws.base.Results.{Holds, holds_ok, holds_bind, holds_then, holds_check, checked_ok, check_ok}
use Rattle.node.specs.laws.fit.Cut.{Parted, cut_parts}
use Rattle.node.specs.laws.order.Rising.{every_join, every_take, every_drop}
use Rattle.tree.specs.Lent.{Lent}
use Rattle.tree.specs.State.{State, node_at, put_node, with_nodes, with_info, with_counts, changed, made}
use Rattle.tree.specs.Hold.{naming, named}
use Rattle.tree.specs.Lookup.{Step}
use Rattle.tree.specs.Edit.{more_nodes, room_for, parted, link_right, grow_root, new_root_holds, cut_at, cut_node, cuts}
use Rattle.tree.specs.laws.state.State.{put_count}
use Rattle.tree.specs.laws.state.Edit.{parted_right}
use Rattle.tree.specs.laws.trust.Named.{names, names_same, names_other, naming_parts, naming_insert, own, own_live, own_dead, named_put}
use Rattle.tree.specs.laws.trust.Named.{named_add, named_own, live_used}
use Rattle.tree.specs.laws.trust.Stands.{Below, root_names, Stands, stands_wider, stands_used}
use Rattle.tree.specs.laws.trust.OneStep.{Kept, keep_stands, Added, add_stands, unused_unnamed, like_counts, info_stands}
use Rattle.tree.specs.laws.trust.Loads.{by_list}
use Rattle.tree.specs.laws.trust.Edit.{Steady, steady_refl, steady_then, steady_put, steady_add, steady_counts, Edited, edited_then, on_way}
use Rattle.tree.specs.laws.trust.Edit.{Falls, more, falls_steady, first_fits}

-- ---- room for nodes made

pub record Room (l : Lent) (s : State) (n : ℕ) : Type 0 where
  pub count : s.info.node_count + n ≤ 2 ^ 64 - 1
  pub slots : length s.nodes + n ≤ l.slots

pub room_of_lem : (l : Lent) (s : State) (n : ℕ) (x : Unit {0}) → room_for l s n ≡ ok x → Room l s n
unfolding room_for
room_of_lem l s n x e =
    let (a, b) = checked_ok refusal.count (leb (s.info.node_count + n) (2 ^ 64 - 1))
    (check refusal.no_slot (leb (length s.nodes + n) l.slots)) x e in
    record { count = leb-true _ _ a; slots = leb-true _ _ (check_ok refusal.no_slot (leb (length s.nodes + n) l.slots) x b) }

or_first : (a b : Bool) → (a || b) ≡ false → a ≡ false
or_first true b e = e
or_first false b e = refl

-- a node under its parent: it fits or is dead, or it is cut
pub by_cut : (P : State → Type 0) (l : Lent) (x : Step) (n : ℕ) (s : State)
    → (((node_at s n).dead || fits s.info (eqb n s.root) (node_at s n).level (node_at s n).entries) ≡ true → P s)
    → ((c : ℕ) → (node_at s n).dead ≡ false → Parted s.info (node_at s n).level (node_at s n).entries c → Room l s 1 → P
    (more_nodes (link_right (parted s n c) x.slot x.child (length s.nodes)) 1))
    → Holds P (cut_node l (x ∷ []) n s)
unfolding cut_node cut_at
by_cut P l x n s f g =
    by_test ((node_at s n).dead || fits s.info (eqb n s.root) (node_at s n).level (node_at s n).entries)
    (λ t. rw t (holds_ok (f t)))
    (λ t. rw t (holds_bind (cut s.info (node_at s n).level (node_at s n).entries) _ λ c q.
    holds_then (room_for l s 1) _ λ y e. holds_ok
    (g c (or_first _ _ t) (cut_parts s.info (node_at s n).level (node_at s n).entries c q) (room_of_lem l s 1 y e))))

-- the root fits or is dead, or a new one stands above its two parts
pub by_top : (P : State → Type 0) (l : Lent) (n : ℕ) (s : State)
    → (((node_at s n).dead || fits s.info (eqb n s.root) (node_at s n).level (node_at s n).entries) ≡ true → P s)
    → ((c : ℕ) → (node_at s n).dead ≡ false → Parted s.info (node_at s n).level (node_at s n).entries c → new_root_holds (parted s n c) n
    (length s.nodes) ≡ true → Room l s 2
    → P (more_nodes (grow_root (parted s n c) n (length s.nodes)) 2))
    → Holds P (cut_node l [] n s)
unfolding cut_node cut_at
by_top P l n s f g =
    by_test ((node_at s n).dead || fits s.info (eqb n s.root) (node_at s n).level (node_at s n).entries)
    (λ t. rw t (holds_ok (f t)))
    (λ t. rw t (holds_bind (cut s.info (node_at s n).level (node_at s n).entries) _ λ c q.
    holds_check refusal.new_root (new_root_holds (parted s n c) n (length s.nodes)) _ λ z.
    holds_then (room_for l s 2) _ λ y e. holds_ok
    (g c (or_first _ _ t) (cut_parts s.info (node_at s n).level (node_at s n).entries c q) z (room_of_lem l s 2 y e))))

-- a slot that is dead or fits need not be left out
or_second : (a b : Bool) → a || b ≡ true → a ≡ false → b ≡ true
or_second true b h d = never refl d
or_second false b h d = h

pub stands_fit : (w w' v : ℕ → ℕ) (s : State) (n : ℕ) → ((k : ℕ) → (k ≡ n → ⊥) → w' k ≡ 0 → w k ≡ 0)
    → (node_at s n).dead || fits s.info (eqb n s.root) (node_at s n).level (node_at s n).entries ≡ true → Stands w v s → Stands w' v s
stands_fit w w' v s n f t h =
    record {
      root = h.root;
      deep = h.deep;
      rows = h.rows;
      links = h.links;
      once = h.once;
      clean = h.clean;
      dirty = λ k a b e. by_test (eqb k n)
          (λ z. let q : k ≡ n = eqb-true k n z in
          subst (λ (x : ℕ). fits s.info (eqb x s.root) (node_at s x).level (node_at s x).entries ≡ true) (sym q)
          (or_second (node_at s n).dead _ t (subst (λ (x : ℕ). (node_at s x).dead ≡ false) q a)))
          (λ z. h.dirty k a b (f k (eqb-false k n z) e));
      filled = h.filled;
    }

-- ---- the parts of a cut

pub below_steady : (l : Lent) (s t : State) (c k : ℕ) → Steady l s t → Below s c k → Below t c k
below_steady l s t c k a b = record {
  used = le_trans b.used a.longer;
  live = a.dead c b.used ∙ b.live;
  lower = omega
      (arith, a.level c b.used, b.lower);
}

module _ (l : Lent) (w₀ w v : ℕ → ℕ) (s : State) (n c : ℕ) (st : Stands w₀ v s) (wider : (k : ℕ) → (k ≡ n → ⊥) → w k ≡ 0 → w₀ k ≡ 0)
    (live : (node_at s n).dead ≡ false)
    (ps : Parted s.info (node_at s n).level (node_at s n).entries c)
    (fit : w n ≡ 0 → fits s.info (eqb n s.root) (node_at s n).level (take c (node_at s n).entries) ≡ true) where
  abbrev es : List Entry
  es = (node_at s n).entries

  abbrev left : MemNode
  left = changed (node_at s n) (take c es)

  abbrev right : MemNode
  right = made (node_at s n).level (drop c es)

  abbrev s₁ : State
  s₁ = put_node s n left

  used : n < length s.nodes
  used = live_used s n live

  own_whole : (d : ℕ) → own d (node_at s n) ≡ naming d (take c es) + naming d (drop c es)
  own_whole d = own_live d (node_at s n) live ∙ sym (naming_parts d c es)

  own_left : (d : ℕ) → own d left ≡ naming d (take c es)
  unfolding changed
  own_left d = own_live d left live

  own_right : (d : ℕ) → own d right ≡ naming d (drop c es)
  unfolding made
  own_right d = refl

  left_kept : Kept w v s n left
  unfolding changed
  left_kept =
      record {
        dead = refl;
        level = refl;
        rows = λ d. every_take (entry_holds s.order s.info (eqb (node_at s n).level 0)) c es (st.rows n d);
        links = λ d y. st.links n d (omega (arith, own_whole d, own_left d));
        once = λ d. omega (arith, own_whole d, own_left d, st.once d);
        clean = λ d k. never refl k;
        dirty = λ d k z. fit z;
        filled = λ d z k. ps.left_some;
      }

  s₁_stands : Stands w v s₁
  s₁_stands = keep_stands w₀ v w v s n left used wider (λ k a b. b) st left_kept

  s₁_steady : Steady l s s₁
  unfolding changed
  s₁_steady = steady_put l s n left refl refl

  right_once : (d : ℕ) → named d s₁.nodes + naming d (drop c es) + root_names d s ≤ 1
  right_once d = omega (arith, named_put s n left d used, own_whole d, own_left d, st.once d)

  right_added : Added w v s₁ right
  unfolding put_node with_nodes made
  right_added =
      record {
        deep = st.deep n live;
        rows = every_drop (entry_holds s.order s.info (eqb (node_at s n).level 0)) c es (st.rows n live);
        links = λ d y. below_steady l s s₁ d (node_at s n).level s₁_steady (st.links n d (omega (arith, own_whole d)));
        once = right_once;
        clean = λ k. never refl k;
        dirty = λ k z. ps.right_fits;
        filled = λ z k. ps.right_some;
      }

  pub parted_stands : Stands w v (parted s n c)
  unfolding parted
  parted_stands = add_stands w v s₁ right s₁_stands right_added

  pub parted_steady : suc (length s.nodes) ≤ l.slots → Steady l s (parted s n c)
  unfolding parted
  parted_steady r = steady_then l s s₁ _ s₁_steady (steady_add l s₁ right (omega (arith, put_count s n left)))

  -- the right part's slot is named by none yet
  pub right_unnamed : named (length s.nodes) (parted s n c).nodes ≡ 0
  unfolding parted
  right_unnamed =
      let r : ℕ = length s.nodes in
      omega (
        arith,
        named_add s₁ right r,
        own_right r,
        unused_unnamed w v s₁ r s₁_stands (omega (arith, put_count s n left)),
        own_whole r,
        named_own s n r,
        unused_unnamed w₀ v s r st (le_refl r),
      )

-- ---- the right part's name

pub every_insert : (t : Entry → Bool) (i : ℕ) (e : Entry) (es : List Entry) → t e ≡ true → every t es ≡ true → every t (insert_at i e es) ≡ true
unfolding insert_at every
every_insert t i e es h k = every_join t (take i es) (e ∷ drop i es) (every_take t i es k)
    (and_both (t e) (every t (drop i es)) h (every_drop t i es k))

pub length_insert : (i : ℕ) (e : Entry) (es : List Entry) → 0 < length (insert_at i e es)
unfolding insert_at
length_insert i e es = omega (arith, length-append (take i es) (e ∷ drop i es))

pub child_fits : (o : ℕ) (t : BTreeInfo) (level c : ℕ) (k : List ℕ) → key_length_holds o t (length k) ≡ true → (level ≡ 0 → ⊥)
    → entry_holds o t (eqb level 0) (record { key = k; value = mem c }) ≡ true
unfolding entry_holds value_holds suit is_child
child_fits o t level c k h d = rw (h, ne_eqb level 0 d)

-- the first key of a live slot that has entries
pub first_key : (w v : ℕ → ℕ) (s : State) (c : ℕ) → Stands w v s → (node_at s c).dead ≡ false → 0 < length (node_at s c).entries
    → key_length_holds s.order s.info (length (key_at (node_at s c).entries 0)) ≡ true
unfolding key_at
first_key w v s c st live some =
    by_list (node_at s c).entries
    (λ q. let z : length (node_at s c).entries ≡ 0 = ap length q in absurd (omega arith))
    (λ e es q. rw q (first_fits w v s c e es st live q))

module _ (l : Lent) (w v : ℕ → ℕ) (s : State) (p i r : ℕ) (st : Stands w v s) (used : p < length s.nodes) (out : 1 ≤ w p)
    (live : (node_at s r).dead ≡ false) (some : 0 < length (node_at s r).entries)
    (free : named r s.nodes ≡ 0) (off : r ≡ s.root → ⊥) (lower : (node_at s p).dead ≡ false → (node_at s r).level + 1 ≡ (node_at s p).level) where
  abbrev e : Entry
  e = record { key = key_at (node_at s r).entries 0; value = mem r }

  abbrev m : MemNode
  m = changed (node_at s p) (insert_at (suc i) e (node_at s p).entries)

  m_names : (d : ℕ) → (node_at s p).dead ≡ false → own d m ≡ names d (mem r) + own d (node_at s p)
  unfolding changed
  m_names d h = own_live d m h ∙ naming_insert d (suc i) e (node_at s p).entries ∙ ap (λ (x : ℕ). names d (mem r) + x)
      (sym (own_live d (node_at s p) h))

  m_none : (d : ℕ) → (node_at s p).dead ≡ true → own d m ≡ 0
  unfolding changed
  m_none d h = own_dead d m h

  m_links : (d : ℕ) → 1 ≤ own d m → Below s d (node_at s p).level
  m_links d y =
      by_test (node_at s p).dead
      (λ t. absurd (omega (arith, m_none d t)))
      (λ t. by_test (eqb d r)
      (λ q. let z : d ≡ r = eqb-true d r q in rw z (record { used = live_used s r live; live = live; lower = lower t }))
      (λ q. st.links p d (omega (arith, m_names d t, names_other d r (eqb-false d r q)))))

  m_once : (d : ℕ) → named d s.nodes + own d m + root_names d s ≤ 1 + own d (node_at s p)
  m_once d =
      by_test (node_at s p).dead
      (λ t. omega (arith, m_none d t, st.once d))
      (λ t. by_test (eqb d r)
      (λ q.
      let z : d ≡ r = eqb-true d r q in
      let a : named d s.nodes ≡ 0 = rw z free in
      let b : root_names d s ≡ 0 = rw (ne_eqb d s.root (λ x. off (sym z ∙ x))) in
      let f : names d (mem r) ≡ 1 = rw z (names_same r) in
      omega (arith, m_names d t))
      (λ q. omega (arith, m_names d t, names_other d r (eqb-false d r q), st.once d)))

  m_kept : Kept w v s p m
  unfolding changed
  m_kept =
      record {
        dead = refl;
        level = refl;
        rows = λ d. every_insert (entry_holds s.order s.info (eqb (node_at s p).level 0)) (suc i) e (node_at s p).entries
            (child_fits s.order s.info (node_at s p).level r (key_at (node_at s r).entries 0) (first_key w v s r st live some)
            (λ z. omega (arith, lower d))) (st.rows p d);
        links = m_links;
        once = m_once;
        clean = λ d k. never refl k;
        dirty = λ d k z. absurd (omega arith);
        filled = λ d z k. length_insert (suc i) e (node_at s p).entries;
      }

  pub right_edited : Edited l w v s (link_right s p i r)
  unfolding link_right changed
  right_edited = record { steady = steady_put l s p m refl refl; stands = keep_stands w v w v s p m used (λ k a b. b) (λ k a b. b) st m_kept }

pub counts_edited : (l : Lent) (w v : ℕ → ℕ) (s t : State) (k n : ℕ) → Edited l w v s t → Edited l w v s (with_info t (with_counts t.info k n))
counts_edited l w v s t k n a =
    record {
      steady = steady_then l s t _ a.steady (steady_counts l t k n);
      stands = info_stands w v t (with_counts t.info k n)
          (like_counts t.info k n) a.stands;
    }

made_live : (lv : ℕ) (xs : List Entry) → (made lv xs).dead ≡ false
unfolding made
made_live lv xs = refl

made_level : (lv : ℕ) (xs : List Entry) → (made lv xs).level ≡ lv
unfolding made
made_level lv xs = refl

made_entries : (lv : ℕ) (xs : List Entry) → (made lv xs).entries ≡ xs
unfolding made
made_entries lv xs = refl

pub right_live : (t : State) (r lv : ℕ) (es : List Entry) → node_at t r ≡ made lv es → (node_at t r).dead ≡ false
right_live t r lv es q = ap (λ (m : MemNode). m.dead) q ∙ made_live lv es

pub right_some : (t : State) (r lv : ℕ) (es : List Entry) → node_at t r ≡ made lv es → 1 ≤ length es → 0 < length (node_at t r).entries
right_some t r lv es q h = let z : length (node_at t r).entries ≡ length es = ap (λ (m : MemNode). length m.entries) q ∙ ap length
    (made_entries lv es) in omega arith

pub right_level : (t : State) (r lv : ℕ) (es : List Entry) → node_at t r ≡ made lv es → (node_at t r).level ≡ lv
right_level t r lv es q = ap (λ (m : MemNode). m.level) q ∙ made_level lv es

-- ---- cuts below the top of a way

cut_edited : (l : Lent) (w₀ w v : ℕ → ℕ) (x : Step) (n : ℕ) (s : State) → Stands w₀ v s → ((k : ℕ) → (k ≡ n → ⊥) → w k ≡ 0 → w₀ k ≡ 0)
    → x.slot < length s.nodes → 1 ≤ w x.slot → (n ≡ s.root → ⊥)
    → ((node_at s n).dead ≡ false → (node_at s n).level + 1 ≡ (node_at s x.slot).level) → Holds (Edited l w v s) (cut_node l (x ∷ []) n s)
unfolding more_nodes
cut_edited l w₀ w v x n s st wider used out off lower =
    by_cut (Edited l w v s) l x n s
    (λ t. record { steady = steady_refl l s; stands = stands_fit w₀ w v s n wider t st })
    (λ c live ps room.
    let r : ℕ = length s.nodes in
    let t : State = parted s n c in
    let fit : w n ≡ 0 → fits s.info (eqb n s.root) (node_at s n).level (take c (node_at s n).entries) ≡ true = λ z. rw (ne_eqb n s.root off)
    ps.left_fits in
    let n_s : n < r = live_used s n live in
    let more : suc r ≤ l.slots = omega (arith, room.slots) in
    let a : Edited l w v s t = record {
      steady = parted_steady l w₀ w v s n c st wider live ps fit more;
      stands = parted_stands l w₀ w v s n c st wider live ps fit;
    } in
    let q : node_at t r ≡ made (node_at s n).level (drop c (node_at s n).entries) = parted_right s n c n_s in
    let b : Edited l w v t (link_right t x.slot x.child r) =
    right_edited l w v t x.slot x.child r a.stands (le_trans used a.steady.longer) out (right_live t r _ _ q)
    (right_some t r _ _ q ps.right_some)
    (right_unnamed l w₀ w v s n c st wider live ps fit) (λ z. let y = a.steady.root in omega (arith, stands_used w₀ v s st))
    (λ d. let y = right_level t r _ _ q in omega (arith, lower live, a.steady.level x.slot used)) in
    counts_edited l w v s _ _ _ (edited_then l w v w v s t _ a b))

record Two (s : State) (x y : Step) (xs : List Step) : Type 0 where
  used : x.slot < length s.nodes
  off : y.slot ≡ s.root → ⊥
  lower : (node_at s y.slot).dead ≡ false → (node_at s y.slot).level + 1 ≡ (node_at s x.slot).level
  rest : Falls s (y ∷ xs)

falls_two : (s : State) (x y : Step) (xs : List Step) → Falls s (x ∷ y ∷ xs) → Two s x y xs
falls_two s x y xs (more _ _ _ h r q f) = record { used = h; off = r; lower = q; rest = f }

cuts_step : (l : Lent) (w v : ℕ → ℕ) (x y : Step) (xs : List Step) (s t : State) → Two s x y xs → 1 ≤ w x.slot
    → Edited l (λ k. w k + names k (mem y.slot)) v s t → Holds (Edited l w v s) (cut_node l (x ∷ []) y.slot t)
cuts_step l w v x y xs s t f out a =
    let g : Two t x y xs = falls_two t x y xs (falls_steady l s t (x ∷ y ∷ xs) a.steady (more x y xs f.used f.off f.lower f.rest)) in
    record {
      at = λ u e. edited_then l (λ k. w k + names k (mem y.slot)) v w v s t u a
          ((cut_edited l (λ k. w k + names k (mem y.slot)) w v x y.slot t a.stands (λ k d z. omega (arith, names_other k y.slot d))
          g.used
          out g.off g.lower).at u e);
    }

-- bottom up: what is left out after is left out before or stands on the way
pub cuts_edited : (l : Lent) (w₀ w v : ℕ → ℕ) (x : Step) (ps : List Step) (s : State) → Falls s (x ∷ ps) → 1 ≤ w x.slot
    → ((k : ℕ) → w k ≡ 0 → on_way k ps ≡ 0 → w₀ k ≡ 0) → Stands w₀ v s → Holds (Edited l w v s) (cuts l (x ∷ []) ps s)
unfolding cuts
cuts_edited l w₀ w v x [] s f out h st = holds_ok (record
    { steady = steady_refl l s; stands = stands_wider w₀ v w v s (λ k z. h k z refl) (λ k z. z) st })
cuts_edited l w₀ w v x (y ∷ ps) s f out h st =
    let g : Two s x y ps = falls_two s x y ps f in
    holds_bind (cuts l (y ∷ []) ps s) _ λ t e.
    cuts_step l w v x y ps s t g out
    ((cuts_edited l w₀ (λ k. w k + names k (mem y.slot)) v y ps s g.rest (omega (arith, names_same y.slot))
    (λ k a b. h k (omega arith) (omega arith)) st).at t e)
