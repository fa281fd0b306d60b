-- The marks, the leaf's edit and the index keys of an upsert together: each slot by itself, the tree's numbers, what the tree holds and its sums.
-- Assumes nothing.
use Rattle.std.specs.Prelude.{◌≡◌, refl, List, ◌∷◌, Bool, true, false, cond, not, ℕ, suc, ◌+◌, ◌≤◌, ◌<◌, min, max, length, ltb, eqb}
use Rattle.std.proofs.Common.{sym, ap, subst, ap₂, ◌∙◌, le_trans, arith, ltb-true, ltb-false, eqb-true}
use Rattle.std.proofs.lemmas.Bool.{eqb-false}
use Rattle.node.specs.Entry.{Entry, Val, value_length}
use Rattle.node.specs.Find.{is_there}
use Rattle.node.specs.Fit.{greater}
use Rattle.node.specs.Slot.{MemNode}
use Rattle.node.specs.declared.info.BTreeInfo.{BTreeInfo}
use Rattle.node.specs.laws.base.Tests.{by_test}
use Rattle.tree.specs.Lent.{Lent}
use Rattle.tree.specs.State.{State, node_at, with_entries}
use Rattle.tree.specs.Lookup.{Step, leaf_of}
use Rattle.tree.specs.Edit.{touch, index_keys}
use Rattle.tree.specs.Upsert.{put_in_leaf}
use Rattle.history.specs.Plain.{plain_upsert}
use Rattle.theorem.specs.model.Bounds.{Terms, K, KeyOk, ValueOk}
use Rattle.theorem.specs.model.Lazy.{cont, total, slots, Ok}
use Rattle.theorem.specs.model.Lift.{Toward}
use Rattle.theorem.specs.steps.LeafAndKeys.{Once, Along, end, down, Any, along_leaf}
use Rattle.theorem.specs.steps.Grow.{names_is, kid_ok, kid_once}
use Rattle.theorem.specs.steps.Marks.{Marked, means, touched}
use Rattle.theorem.specs.upsert.Puts.{put_on, upsert_some}
use Rattle.theorem.specs.steps.EachSlot.{on_way, leaf_on, Keeps, keeps_then, touch_keeps, touch_root, touch_leaf, touch_way, put_leaf_keeps}
use Rattle.theorem.specs.steps.EachSlotCuts.{Deep, Filled, Grows, grows_deep, grows_filled, index_grows}
use Rattle.theorem.specs.steps.Parents.{on_stands}
use Rattle.theorem.specs.steps.Sums.{vals, sums_same}
use Rattle.theorem.specs.upsert.Leaf.{at_none, index_info, index_count, index_vals, index_leaf, leaf_other, leaf_rows, leaf_fact, leaf_count}
use Rattle.theorem.specs.upsert.Leaf.{Numbered, leaf_info}

-- the leaf of a way is of level 0
pub foot_level : (τ : Terms) (rd : ℕ → MemNode) (s : State) (T : List Entry → Entry → List Entry → Type 0) (foot l n : ℕ) (ps : List Step)
    → Along s T foot l n ps
    → (lo hi : ℕ) → Ok τ rd (node_at s) l lo hi (node_at s n) → Once τ rd s l n → ((node_at s foot).level ≡ 0) × ((node_at s foot).dead ≡ false)
foot_level τ rd s T foot _ _ _ end lo hi okn one = (okn.level, okn.live)
foot_level τ rd s T foot _ _ _ (down {l = l} {n = n} {c = c} {xs = xs} {e = e} {ys = ys} {ps = ps} row val to w) lo hi okn one =
    foot_level τ rd s T foot l c ps w _ _ (kid_ok τ rd s l n c lo hi xs e ys row val one okn) (kid_once τ rd s l n c lo hi xs e ys row val one okn)

module _ (τ : Terms) (rd : ℕ → MemNode) (lent : Lent) (k : List ℕ) (v : Val) (kk : KeyOk τ k) (vv : ValueOk τ v) (s : State) (o : s.order ≡ τ.order)
    (l lo hi foot : ℕ) (x : Step) (qs : List Step) (top : x.slot ≡ s.root) (along : Along s (Toward τ k) foot l s.root (x ∷ qs))
    (tree : Ok τ rd (node_at s) l lo hi (node_at s s.root)) (one : Once τ rd s l s.root) where
  abbrev ps : List Step
  ps = x ∷ qs

  abbrev t : State
  t = touch (x ∷ qs) s

  abbrev t₁ : State
  t₁ = put_in_leaf (touch (x ∷ qs) s) foot k v

  abbrev t₂ : State
  t₂ = index_keys (x ∷ qs) (put_in_leaf (touch (x ∷ qs) s) foot k v)

  pub on_root : 1 ≤ on_way s.root (x ∷ qs)
  on_root = omega (arith, names_is s.root x.slot (sym top))

  pub leaf_is : leaf_of (x ∷ qs) ≡ foot
  leaf_is = along_leaf s (Toward τ k) foot l s.root (x ∷ qs) along

  on_leaf : 1 ≤ on_way foot (x ∷ qs)
  on_leaf = subst (λ (c : ℕ). 1 ≤ on_way c (x ∷ qs)) leaf_is (leaf_on x qs)

  -- no slot stands twice on the way, and each is in use
  pub on_once : (c : ℕ) → on_way c (x ∷ qs) ≤ 1
  on_once c = omega (arith, on_stands τ rd s (Toward τ k) foot l s.root (x ∷ qs) along c, one.once c)

  pub on_used : (c : ℕ) → 1 ≤ on_way c (x ∷ qs) → c < length s.nodes
  on_used c h = one.used c (omega (arith, on_stands τ rd s (Toward τ k) foot l s.root (x ∷ qs) along c))

  mk : Marked s t
  mk = touched (x ∷ qs) s

  leaf : ((node_at s foot).level ≡ 0) × ((node_at s foot).dead ≡ false)
  leaf = foot_level τ rd s (Toward τ k) foot l s.root (x ∷ qs) along lo hi tree one

  leaf_dirty : (node_at t foot).dirty ≡ true
  leaf_dirty = ap (λ (c : ℕ). (node_at t c).dirty) (sym leaf_is) ∙ touch_leaf (x ∷ qs) s (on_used (leaf_of (x ∷ qs)) (leaf_on x qs)) (leaf_on x qs)

  -- the three passes, each slot by itself
  keeps_t : Keeps (λ c. on_way c (x ∷ qs)) s t
  keeps_t = touch_keeps (λ c. on_way c (x ∷ qs)) (x ∷ qs) s (λ c h. h) on_root (leaf_on x qs)

  keeps_1 : Keeps (λ c. on_way c (x ∷ qs)) t t₁
  keeps_1 = put_leaf_keeps (λ c. on_way c (x ∷ qs)) t foot k v on_leaf leaf_dirty

  grows_2 : Grows (λ c. on_way c (x ∷ qs)) t₁ t₂
  grows_2 = index_grows (λ c. on_way c (x ∷ qs)) (x ∷ qs) t₁ (λ c h. h)

  keeps_t₂ : Keeps (λ c. on_way c (x ∷ qs)) t t₂
  keeps_t₂ = keeps_then (λ c. on_way c (x ∷ qs)) t t₁ t₂ keeps_1 grows_2.keeps

  count_1 : length t₁.nodes ≡ length s.nodes
  count_1 = leaf_count t foot k v ∙ mk.count

  count_2 : length t₂.nodes ≡ length s.nodes
  count_2 = index_count (x ∷ qs) t₁ ∙ count_1

  level_1 : (c : ℕ) → (node_at t₁ c).level ≡ (node_at s c).level
  unfolding with_entries
  level_1 c = leaf_fact t foot k v (λ m. m.level) (λ m es. refl) c ∙ (mk.alike c).level

  dead_1 : (c : ℕ) → (node_at t₁ c).dead ≡ (node_at s c).dead
  unfolding with_entries
  dead_1 c = leaf_fact t foot k v (λ m. m.dead) (λ m es. refl) c ∙ (mk.alike c).dead

  deep_1 : Deep s → Deep t₁
  deep_1 d c h z = omega (arith, level_1 c, d c (omega (arith, count_1)) (sym (dead_1 c) ∙ z))

  leaf_1 : (node_at t₁ foot).entries ≡ plain_upsert s.order k v (node_at s foot).entries
  leaf_1 =
      leaf_rows t foot k v (omega (arith, on_used foot on_leaf, mk.count))
      ∙ ap₂ (λ (a : ℕ) (b : List Entry). plain_upsert a k v b) mk.order (mk.alike foot).entries

  rows_1 : (c : ℕ) → (c ≡ foot → ⊥) → (node_at t₁ c).entries ≡ (node_at s c).entries
  rows_1 c h = ap (λ (m : MemNode). m.entries) (leaf_other t foot k v c h) ∙ (mk.alike c).entries

  root_1 : t₁.root ≡ s.root
  root_1 = keeps_1.root ∙ mk.root

  filled_1 : Filled s → Filled t₁
  filled_1 f c h z =
      by_test (eqb c foot)
      (λ q.
      let e : c ≡ foot = eqb-true c foot q in
      let y = upsert_some s.order k v (node_at s foot).entries in
      let a : length (node_at t₁ c).entries ≡ suc (length y.1) = ap (λ (i : ℕ). length (node_at t₁ i).entries) e ∙ ap length (leaf_1 ∙ y.2) in
      omega arith)
      (λ q.
      let a : length (node_at t₁ c).entries ≡ length (node_at s c).entries = ap length (rows_1 c (eqb-false c foot q)) in
      let b : ◌≡◌ {A = ℕ} (cond (eqb c t₁.root) (cond (eqb (node_at t₁ c).level 0) 1 0) 0)
      (cond (eqb c s.root) (cond (eqb (node_at s c).level 0) 1 0) 0) =
      ap₂ (λ (r j : ℕ). cond (eqb c r) (cond (eqb j 0) 1 0) 0) root_1 (level_1 c) in
      omega (arith, f c (omega (arith, count_1)) (sym (dead_1 c) ∙ z)))

  -- the tree's numbers
  there : is_there t.order k (node_at t foot).entries ≡ is_there s.order k (node_at s foot).entries
  there = ap₂ (λ (a : ℕ) (b : List Entry). is_there a k b) mk.order (mk.alike foot).entries

  numbered : Numbered s foot k v t₂.info
  numbered =
      let n = leaf_info t foot k v in
      let q : t₂.info ≡ t₁.info = index_info (x ∷ qs) t₁ in
      let i : t.info ≡ s.info = mk.info in
      record {
        flags = ap (λ (b : BTreeInfo). b.flags) q ∙ n.flags ∙ ap (λ (b : BTreeInfo). b.flags) i;
        node = ap (λ (b : BTreeInfo). b.node_size) q ∙ n.node ∙ ap (λ (b : BTreeInfo). b.node_size) i;
        key = ap (λ (b : BTreeInfo). b.key_size) q ∙ n.key ∙ ap (λ (b : BTreeInfo). b.key_size) i;
        val = ap (λ (b : BTreeInfo). b.val_size) q ∙ n.val ∙ ap (λ (b : BTreeInfo). b.val_size) i;
        key_count = ap (λ (b : BTreeInfo). b.key_count) q ∙ n.key_count
            ∙ ap₂ (λ (b : BTreeInfo) (y : Bool). b.key_count + cond (not y) 1 0) i there;
        node_count = ap (λ (b : BTreeInfo). b.node_count) q ∙ n.node_count ∙ ap (λ (b : BTreeInfo). b.node_count) i;
        longest_key = ap (λ (b : BTreeInfo). b.longest_key) q ∙ n.longest_key
            ∙ ap₂ (λ (b : BTreeInfo) (y : Bool). cond (not y) (greater b.longest_key (length k)) b.longest_key) i there;
        longest_val = ap (λ (b : BTreeInfo). b.longest_val) q ∙ n.longest_val
            ∙ ap (λ (b : BTreeInfo). greater b.longest_val (value_length v)) i;
      }

  -- a sum that goes by blocks and ids is as it was
  sums : (f : MemNode → ℕ) → ((m m' : MemNode) → m.block ≡ m'.block → m.id ≡ m'.id → f m ≡ f m')
      → total rd (node_at t₂) f l (node_at t₂ s.root) ≡ total rd (node_at s) f l (node_at s s.root)
  sums f h =
      sums_same τ rd (node_at s) (node_at t₂) f
      (λ c. by_test (ltb c (length s.nodes))
      (λ y.
      let a = keeps_t.each c (ltb-true c (length s.nodes) y) in
      let b = keeps_t₂.each c (le_trans (ltb-true c (length s.nodes) y) keeps_t.longer) in
      h (node_at t₂ c) (node_at s c) (b.block ∙ a.block) (b.id ∙ a.id))
      (λ y. let z = ltb-false c (length s.nodes) y in ap f (at_none t₂ c (omega (arith, count_2)) ∙ sym (at_none s c z))))
      (λ c z. index_vals (x ∷ qs) t₁ c ∙ ap vals (rows_1 c (λ q. z (ap (λ (i : ℕ). (node_at s i).level) q ∙ leaf.0))))
      l lo hi s.root tree

  -- ---- all of it

  pub record PutFacts : Type 0 where
    pub keeps : Keeps (λ c. on_way c (x ∷ qs)) s t₂
    pub count : length t₂.nodes ≡ length s.nodes
    pub root_dirty : (node_at t₂ s.root).dirty ≡ true
    pub way_dirty : s.virtual ≡ false → (c : ℕ) → 1 ≤ on_way c (x ∷ qs) → (node_at t₂ c).dirty ≡ true
    pub dead : (c : ℕ) → (node_at t₂ c).dead ≡ (node_at s c).dead
    pub deep : Deep s → Deep t₂
    pub filled : Filled s → Filled t₂
    pub numbers : Numbered s foot k v t₂.info
    pub rows : (node_at t₂ foot).entries ≡ plain_upsert s.order k v (node_at s foot).entries
    pub leaf_live : (node_at t₂ foot).dead ≡ false
    pub sums : (f : MemNode → ℕ) → ((m m' : MemNode) → m.block ≡ m'.block → m.id ≡ m'.id → f m ≡ f m')
        → total rd (node_at t₂) f l (node_at t₂ s.root) ≡ total rd (node_at s) f l (node_at s s.root)
    pub uses : (c : ℕ) → slots rd (node_at t₂) l c (node_at t₂ s.root) ≡ slots rd (node_at s) l c (node_at s s.root)
    pub holds : cont rd (node_at t₂) l (node_at t₂ s.root) ≡ plain_upsert τ.order k v (cont rd (node_at s) l (node_at s s.root))
    pub ok : Ok τ rd (node_at t₂) l (min lo (K τ k)) (max hi (suc (K τ k))) (node_at t₂ s.root)
    pub once : Once τ rd t₂ l s.root
    pub way : Along t₂ Any foot l s.root (x ∷ qs)

  dead_2 : (c : ℕ) → (node_at t₂ c).dead ≡ (node_at s c).dead
  dead_2 c =
      by_test (ltb c (length s.nodes))
      (λ y. grows_2.dead c (omega (arith, count_1, ltb-true c (length s.nodes) y)) ∙ dead_1 c)
      (λ y. let z = ltb-false c (length s.nodes) y in ap (λ (m : MemNode). m.dead) (at_none t₂ c (omega (arith, count_2)) ∙ sym (at_none s c z)))

  pub put_facts : PutFacts
  put_facts =
      let p = put_on τ rd lent (λ a. Unit {0}) k v kk vv s l s.root lo hi foot (x ∷ qs) o tree one along in
      let me = means τ rd (node_at s) (node_at t) mk.alike l (node_at s s.root) (node_at t s.root) (mk.alike s.root) in
      let dirty : (c : ℕ) → c < length s.nodes → (node_at t c).dirty ≡ true → (node_at t₂ c).dirty ≡ true =
      λ c h d. (keeps_t₂.each c (le_trans h keeps_t.longer)).dirty d in
      let one_leaf : on_way (leaf_of (x ∷ qs)) (x ∷ qs) ≤ 1 = on_once (leaf_of (x ∷ qs)) in
      record {
        keeps = keeps_then (λ c. on_way c (x ∷ qs)) s t t₂ keeps_t keeps_t₂;
        count = count_2;
        root_dirty = dirty s.root (on_used s.root on_root) (touch_root (x ∷ qs) s (on_used s.root on_root) on_root);
        way_dirty = λ z c h. dirty c (on_used c h) (touch_way (x ∷ qs) s c z (on_used c h) h);
        dead = dead_2;
        deep = λ d. grows_deep (λ c. on_way c (x ∷ qs)) t₁ t₂ grows_2 (deep_1 d);
        filled = λ f. grows_filled (λ c. on_way c (x ∷ qs)) t₁ t₂ grows_2 (filled_1 f);
        numbers = numbered;
        rows = ap (λ (m : MemNode). m.entries) (ap (node_at t₂) (sym leaf_is) ∙ index_leaf (x ∷ qs) t₁ one_leaf ∙ ap (node_at t₁) leaf_is) ∙ leaf_1;
        leaf_live = dead_2 foot ∙ leaf.1;
        sums = sums;
        uses = λ c. p.edited.uses c ∙ me.uses c;
        holds = p.edited.holds ∙ ap (plain_upsert τ.order k v) p.before;
        ok = p.edited.ok;
        once = p.once;
        way = p.edited.along;
      }
