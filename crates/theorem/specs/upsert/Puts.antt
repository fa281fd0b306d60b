-- Upsert, on any tree of slots and disk: an accepted upsert leaves a tree that holds the plain list's upsert of what it held, its keys rising within
-- bounds. Assumes nothing.
use Rattle.std.specs.Prelude.{◌≡◌, List, [], ◌∷◌, ◌||◌, not, take, drop, eqb}
use Rattle.std.proofs.Math.Path.{refl, sym, ap}
use Rattle.std.proofs.Common.{subst, ◌∙◌, le_refl, arith}
use Prim.Native.Nat.{ℕ, suc, ◌-◌, ◌^◌, ◌≤◌, ◌<◌, min, max}
use Rattle.std.proofs.Math.ListN.{length}
use Rattle.std.proofs.Math.Dec.{ltb}
use Rattle.node.specs.laws.base.Results.{Holds, holds_ok, holds_bind, holds_then, holds_check}
use Rattle.node.specs.Refusals as refusal
use Rattle.node.specs.Order.{less, same_key}
use Rattle.node.specs.Entry.{Entry, Val}
use Rattle.node.specs.Find.{key_at, is_there}
use Rattle.node.specs.Fit.{fits}
use Rattle.node.specs.Cut.{cut}
use Rattle.node.specs.laws.fit.Cut.{Parted, cut_parts}
use Rattle.node.specs.Slot.{MemNode}
use Rattle.node.specs.laws.base.Tests.{by_test}
use Rattle.tree.specs.Lent.{Lent}
use Rattle.tree.specs.State.{State, node_at, put_node, add_node, with_nodes, with_info, with_entries}
use Rattle.tree.specs.laws.state.State.{at_put_same, at_put_other, put_count}
use Rattle.tree.specs.Load.{unbounded}
use Rattle.tree.specs.Lookup.{Step, Way, way, way_from}
use Rattle.tree.specs.Edit.{touch, set_index_key, index_keys, link_right, more_nodes, room_for, new_root_holds, parted, grow_root, cut_at, cut_node, cuts}
use Rattle.tree.specs.Upsert.{put_entry, put_in_leaf, upsert_on, upserted}
use Rattle.flush.specs.laws.SpaceLaws.{by_list}
use Rattle.history.specs.Plain.{plain_upsert}
use Rattle.history.specs.laws.PlainIs.{upsert_is}
use Rattle.theorem.specs.model.Bounds.{Terms, K, key_in, KeyOk, ValueOk, upsert_rows_lem, upsert_left, upsert_right}
use Rattle.theorem.specs.model.Lazy.{cont, slots, names_same, Ok, ok_wide, ok_level}
use Rattle.theorem.specs.model.Lift.{Local, Toward}
use Rattle.theorem.specs.steps.LeafAndKeys.{Once, Edited, Along, Any, end, down, along_leaf, pass}
use Rattle.theorem.specs.steps.Grow.{grown_once}
use Rattle.theorem.specs.steps.Way.{Reads, Owned, still_refl, Led, led}
use Rattle.theorem.specs.steps.Cuts.{some_of, cuts_below, cuts_down, cuts_grown}
use Rattle.theorem.specs.steps.Marks.{Marked, means, touched}
use Rattle.theorem.specs.steps.CutRoot.{topped, top_root, top_once}

pub upsert_some : (o : ℕ) (k : List ℕ) (v : Val) (es : List Entry) → (f : Entry) × (fs : List Entry) × (plain_upsert o k v es ≡ f ∷ fs)
unfolding plain_upsert
upsert_some o k v [] = (record { key = k; value = v }, [], refl)
upsert_some o k v (e ∷ es) =
    by_test (less o e.key k)
    (λ t. (e, plain_upsert o k v es, rw t))
    (λ t. by_test (less o k e.key) (λ u. (record { key = k; value = v }, e ∷ es, rw (t, u)))
    (λ u. (record { key = e.key; value = v }, es, rw (t, u))))

-- ---- the root's slot stays the root below it

set_root : (s : State) (n i c : ℕ) → (set_index_key s n i c).root ≡ s.root
unfolding set_index_key put_node with_nodes
set_root s n i c =
    by_list (node_at s c).entries
    (λ q. rw q)
    (λ e es q. by_test ((node_at s c).dead || not (ltb i (length (node_at s n).entries)) || same_key (key_at (node_at s n).entries i) e.key)
    (λ t. rw (q, t)) (λ t. rw (q, t)))

index_root : (ps : List Step) (s : State) → (index_keys ps s).root ≡ s.root
unfolding index_keys
index_root [] s = refl
index_root (x ∷ []) s = refl
index_root (x ∷ y ∷ ps) s = set_root (index_keys (y ∷ ps) s) x.slot x.child y.slot ∙ index_root (y ∷ ps) s

cut_root : (lent : Lent) (x : Step) (n : ℕ) (s : State) → Holds (λ u. u.root ≡ s.root) (cut_node lent (x ∷ []) n s)
unfolding cut_node cut_at
cut_root lent x n s =
    by_test ((node_at s n).dead || fits s.info (eqb n s.root) (node_at s n).level (node_at s n).entries)
    (λ t. rw t (holds_ok refl))
    (λ t. rw t (holds_bind (cut s.info (node_at s n).level (node_at s n).entries) _ λ c q.
    holds_then (room_for lent s 1) _ λ _ _. holds_ok (unfold more_nodes with_info link_right parted put_node add_node with_nodes in refl)))

cuts_root : (lent : Lent) (up : Step) (ps : List Step) (s : State) → Holds (λ u. u.root ≡ s.root) (cuts lent (up ∷ []) ps s)
unfolding cuts
cuts_root lent up [] s = holds_ok refl
cuts_root lent up (x ∷ ps) s =
    holds_bind (cuts lent (x ∷ []) ps s) _ λ t e.
    record { at = λ u q. (cut_root lent up x.slot t).at u q ∙ (cuts_root lent x ps s).at t e }

pub below_root : (lent : Lent) (τ : Terms) (rd : ℕ → MemNode) (ps : List Step) (s : State) → Holds (λ u. u.root ≡ s.root) (cuts_below τ rd lent ps s)
unfolding cuts_below
below_root lent τ rd [] s = holds_ok refl
below_root lent τ rd (x ∷ ps) s = cuts_root lent x ps s

module _ (τ : Terms) (rd : ℕ → MemNode) (lent : Lent) (Old : ℕ → Type 0) (k : List ℕ) (v : Val) (kk : KeyOk τ k) (vv : ValueOk τ v) where
  local : Local τ k (plain_upsert τ.order k v)
  local = record {
    right = λ lo m xs ys r h. upsert_right τ k v (key_in kk) ys r h;
    left = λ lo m lo' hi xs ys r r' h. upsert_left τ k v
        (key_in kk) r r' h;
  }

  -- ---- the leaf

  module _ (s : State) (leaf : ℕ) (o : s.order ≡ τ.order) where
    abbrev m : MemNode
    m = with_entries (node_at s leaf) (put_entry s.order (record { key = k; value = v }) (node_at s leaf).entries)

    put_node_lem : (d : ℕ) → node_at (put_in_leaf s leaf k v) d ≡ node_at (put_node s leaf m) d
    unfolding put_in_leaf with_info node_at
    put_node_lem d = refl

    put_len : length (put_in_leaf s leaf k v).nodes ≡ length s.nodes
    unfolding put_in_leaf with_info
    put_len = put_count s leaf m

    in_leaf : (lo hi : ℕ) → Ok τ rd (node_at s) 0 lo hi (node_at s leaf) → Once τ rd s 0 leaf → lo ≤ K τ k → K τ k < hi
        → Edited τ rd s (put_in_leaf s leaf k v) leaf (record { slot = leaf; child = 0 } ∷ []) 0 leaf lo hi (plain_upsert τ.order k v)
    unfolding with_entries cont slots
    in_leaf lo hi okl one a b =
        let used : leaf < length s.nodes = one.used leaf (omega (arith, names_same leaf)) in
        let own : node_at (put_in_leaf s leaf k v) leaf ≡ m = put_node_lem leaf ∙ at_put_same s leaf m used in
        let es : (node_at (put_in_leaf s leaf k v) leaf).entries ≡ plain_upsert τ.order k v (node_at s leaf).entries =
        ap (λ (z : MemNode). z.entries) own ∙ sym (upsert_is s.order k v (node_at s leaf).entries)
        ∙ ap (λ (z : ℕ). plain_upsert z k v (node_at s leaf).entries) o in
        let some = upsert_some τ.order k v (node_at s leaf).entries in
        record {
          ok = record {
            level = ap (λ (z : MemNode). z.level) own ∙ okl.level;
            live = ap (λ (z : MemNode). z.dead) own
                ∙ okl.live;
            items = rw es (upsert_rows_lem τ k v kk vv okl.items (le_refl _) a b);
          };
          holds = es;
          uses = λ c. refl;
          keep = λ c h z. put_node_lem c ∙ at_put_other s leaf m c h;
          first = some.0;
          rest = some.1;
          some = es ∙ some.2;
          count = put_len;
          along = end;
        }

  -- ---- the call

  -- a root and what is below it
  pub record Rooted (s : State) (l lo hi : ℕ) (es : List Entry) : Type 0 where
    pub tree : Ok τ rd (node_at s) l lo hi (node_at s s.root)
    pub once : Once τ rd s l s.root
    pub holds : cont rd (node_at s) l (node_at s s.root) ≡ es

  pub record Put (es : List Entry) (u : State) : Type 0 where
    pub level : ℕ
    pub lo : ℕ
    pub hi : ℕ
    pub rooted : Rooted u level lo hi (plain_upsert τ.order k v es)

  -- a way with other marks
  along_marked : (s t : State) (T : List Entry → Entry → List Entry → Type 0) (leaf l n : ℕ) (ps : List Step) → Marked s t → Along s T leaf l n ps
      → Along t T leaf l n ps
  along_marked s t T leaf _ _ _ h end = end
  along_marked s t T leaf _ _ _ h (down {l = l} {n = n} {c = c} {xs = xs} {e = e} {ys = ys} {ps = ps} row val to w) =
      down {xs = xs} {e = e} {ys = ys} ((h.alike n).entries ∙ row) val to (along_marked s t T leaf l c ps h w)

  -- the edit on a way that is loaded
  abbrev pub put : State → List Step → ℕ → State
  put s ps leaf = index_keys ps (put_in_leaf (touch ps s) leaf k v)

  pub record PutOn (s : State) (l n lo hi leaf : ℕ) (ps : List Step) : Type 0 where
    pub edited : Edited τ rd (touch ps s) (put s ps leaf) leaf ps l n (min lo (K τ k)) (max hi (suc (K τ k))) (plain_upsert τ.order k v)
    pub before : cont rd (node_at (touch ps s)) l (node_at (touch ps s) n) ≡ cont rd (node_at s) l (node_at s n)
    pub once : Once τ rd (put s ps leaf) l n
    pub root : (put s ps leaf).root ≡ s.root

  put_root : (s : State) (leaf : ℕ) → (put_in_leaf s leaf k v).root ≡ s.root
  unfolding put_in_leaf with_info put_node with_nodes
  put_root s leaf = refl

  pub put_on : (s : State) (l n lo hi leaf : ℕ) (ps : List Step) → s.order ≡ τ.order → Ok τ rd (node_at s) l lo hi (node_at s n) → Once τ rd s l n
      → Along s (Toward τ k) leaf l n ps → PutOn s l n lo hi leaf ps
  put_on s l n lo hi leaf ps o okn one w =
      let mk : Marked s (touch ps s) = touched ps s in
      let me = means τ rd (node_at s) (node_at (touch ps s)) mk.alike l (node_at s n) (node_at (touch ps s) n) (mk.alike n) in
      let x₁ : min lo (K τ k) ≤ lo = omega arith in
      let x₂ : hi ≤ max hi (suc (K τ k)) = omega arith in
      let x₃ : min lo (K τ k) ≤ K τ k = omega arith in
      let x₄ : K τ k < max hi (suc (K τ k)) = omega arith in
      let okt = ok_wide τ rd (node_at (touch ps s)) l lo (min lo (K τ k)) hi (max hi (suc (K τ k))) (node_at (touch ps s) n) x₁ x₂
      (me.ok lo hi okn) in
      let onet : Once τ rd (touch ps s) l n = record {
        once = λ c. omega (arith, one.once c, me.uses c);
        used = λ c h. let y = one.used c
            (omega (arith, me.uses c)) in omega (arith, mk.count);
      } in
      let ed : Edited τ rd (touch ps s) (put s ps leaf) leaf ps l n (min lo (K τ k)) (max hi (suc (K τ k))) (plain_upsert τ.order k v) =
      pass τ rd (touch ps s) (put_in_leaf (touch ps s) leaf k v) k (plain_upsert τ.order k v) local leaf
      (in_leaf (touch ps s) leaf (mk.order ∙ o)) l n ps
      (along_marked s (touch ps s) (Toward τ k) leaf l n ps mk w) (min lo (K τ k)) (max hi (suc (K τ k))) okt onet x₃ x₄ in
      record {
        edited = ed;
        before = me.holds;
        once = record {
          once = λ c. omega (arith, onet.once c, ed.uses c);
          used = λ c h. let y = onet.used c (omega (arith, ed.uses c)) in omega
              (arith, ed.count);
        };
        root = index_root ps (put_in_leaf (touch ps s) leaf k v) ∙ put_root (touch ps s) leaf ∙ mk.root;
      }

  rooted_more : (s : State) (j l lo hi : ℕ) (es : List Entry) → Rooted s l lo hi es → Rooted (more_nodes s j) l lo hi es
  unfolding more_nodes with_info node_at
  rooted_more s j l lo hi es h = record { tree = h.tree; once = record { once = h.once.once; used = h.once.used }; holds = h.holds }

  topped_rooted : (s : State) (l lo hi c : ℕ) (es : List Entry) → Rooted s l lo hi es → (a : Entry) (as' : List Entry)
      → take c (node_at s s.root).entries ≡ a ∷ as'
      → (b : Entry) (bs : List Entry) → drop c (node_at s s.root).entries ≡ b ∷ bs
      → Rooted (grow_root (parted s s.root c) s.root (length s.nodes)) (suc l) lo hi es
  topped_rooted s l lo hi c es h a as' ea b bs eb =
      let lv = ok_level τ rd (node_at s) l lo hi (node_at s s.root) h.tree in
      let u : State = grow_root (parted s s.root c) s.root (length s.nodes) in
      let t = topped τ rd s l s.root lo hi c h.once h.tree lv b bs eb a as' ea in
      let r : u.root ≡ suc (length s.nodes) = top_root τ rd s l s.root lo hi c h.once h.tree lv b bs eb a as' ea in
      record {
        tree = subst (λ (z : ℕ). Ok τ rd (node_at u) (suc l) lo hi (node_at u z)) (sym r) t.ok;
        once = subst (Once τ rd u (suc l)) (sym r) (top_once τ rd s l s.root lo hi c h.once h.tree lv b bs eb a as' ea);
        holds = ap (λ (z : ℕ). cont rd (node_at u) (suc l) (node_at u z)) r ∙ t.holds ∙ h.holds;
      }

  -- the root itself: it fits, or a new one stands above its two parts
  top_cut : (s : State) (l lo hi : ℕ) (es : List Entry) → Rooted s l lo hi (plain_upsert τ.order k v es)
      → Holds (Put es) (cut_node lent [] s.root s)
  unfolding cut_node cut_at
  top_cut s l lo hi es h =
      by_test ((node_at s s.root).dead || fits s.info (eqb s.root s.root) (node_at s s.root).level (node_at s s.root).entries)
      (λ t. rw t (holds_ok (record { level = l; lo = lo; hi = hi; rooted = h })))
      (λ t. rw t (holds_bind (cut s.info (node_at s s.root).level (node_at s s.root).entries) _ λ c q.
      let n : ℕ = s.root in
      let ps : Parted s.info (node_at s s.root).level (node_at s s.root).entries c = cut_parts s.info (node_at s s.root).level
      (node_at s s.root).entries c q in
      let (a, as', ea) = some_of (take c (node_at s s.root).entries) ps.left_some in
      let (b, bs, eb) = some_of (drop c (node_at s s.root).entries) ps.right_some in
      holds_check refusal.new_root (new_root_holds (parted s s.root c) s.root (length s.nodes)) _ λ _.
      holds_then (room_for lent s 2) _ λ _ _. holds_ok
      (record {
        level = suc l;
        lo = lo;
        hi = hi;
        rooted = rooted_more _ 2 (suc l) lo hi _
            (topped_rooted s l lo hi c (plain_upsert τ.order k v es) h a as' ea b bs eb);
      })))

  -- cuts on the way, and the root's
  cut_on : (s : State) (l n lo hi leaf : ℕ) (ps : List Step) (es : List Entry) → s.root ≡ n → Ok τ rd (node_at s) l lo hi (node_at s n)
      → Once τ rd s l n → Along s Any leaf l n ps
      → cont rd (node_at s) l (node_at s n) ≡ plain_upsert τ.order k v es → Holds (Put es) (cuts lent [] ps s)
  cut_on s l n lo hi leaf ps es q okn one w h =
      rw (cuts_down τ rd lent s Any leaf [] l n ps w)
      (holds_bind (cuts_below τ rd lent ps s) _ λ t e.
      let g = (cuts_grown τ rd lent s Any leaf l n ps w lo hi one okn).at t e in
      let r : t.root ≡ n = (below_root lent τ rd ps s).at t e ∙ q in
      subst (λ (z : ℕ). Holds (Put es) (cut_node lent [] z t)) r
      (top_cut t l lo hi es (subst (λ (z : ℕ). (Ok τ rd (node_at t) l lo hi (node_at t z) × Once τ rd t l z
      × (cont rd (node_at t) l (node_at t z) ≡ plain_upsert τ.order k v es)) → Rooted t l lo hi (plain_upsert τ.order k v es)) r
      (λ p. record { tree = p.0; once = p.1; holds = p.2 })
      (g.ok, grown_once τ rd s t l n lo hi g one, g.holds ∙ h))))

  on_way_lem : (s : State) (l lo hi : ℕ) (es : List Entry) → s.order ≡ τ.order → Rooted s l lo hi es → (w : Way)
      → Led τ rd lent Old s l s.root lo hi k w → Holds (Put es) (upsert_on lent k v w)
  unfolding upsert_on
  on_way_lem s l lo hi es o h w d =
      let g = d.grown in
      let p = put_on w.state l s.root lo hi d.leaf w.steps (d.still.order ∙ o) g.ok
      (grown_once τ rd s w.state l s.root lo hi g h.once) d.along in
      rw (along_leaf w.state (Toward τ k) d.leaf l s.root w.steps d.along)
      (holds_check refusal.count (is_there w.state.order k (node_at w.state d.leaf).entries || ltb w.state.info.key_count
      (2 ^ 64 - 1)) _ λ _.
      cut_on (put w.state w.steps d.leaf) l s.root (min lo (K τ k)) (max hi (suc (K τ k))) d.leaf w.steps es
      (p.root ∙ d.still.root) p.edited.ok p.once p.edited.along
      (p.edited.holds ∙ ap (plain_upsert τ.order k v) (p.before ∙ g.holds ∙ h.holds)))

  -- an accepted upsert
  pub upsert_holds : (s : State) (l lo hi : ℕ) (es : List Entry) → Reads τ rd lent Old s → s.order ≡ τ.order → Rooted s l lo hi es
      → Owned τ rd lent Old s l s.root → Holds (Put es) (upserted lent s k v)
  unfolding upserted way
  upsert_holds s l lo hi es reads o h own =
      rw (ok_level τ rd (node_at s) l lo hi (node_at s s.root) h.tree)
      (holds_bind (way_from l lent s unbounded s.root k) _ λ w e.
      on_way_lem s l lo hi es o h w ((led τ rd lent Old l s s unbounded s.root lo hi k reads (still_refl s) o (key_in kk) h.once
      h.tree own).at w e))
