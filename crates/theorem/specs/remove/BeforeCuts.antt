-- A key taken out on a way that has it, up to the cuts: dirty marks, the leaf, emptied nodes dropped, an emptied root leveled, index keys. The tree
-- and its books, and each slot by itself. Assumes nothing.
use Rattle.std.specs.Prelude.{◌≡◌, List, ◌∷◌, Bool, true, false, ℕ, suc, ◌+◌, ◌-◌, ◌≤◌, ◌<◌, min, max, length, leb, eqb}
use Rattle.std.proofs.Math.Path.{refl, ap, ap₂}
use Rattle.std.proofs.Common.{sym, subst, ◌∙◌, le_refl, le_trans, leb-true, leb-false, eqb-true, ne_eqb}
use Rattle.std.proofs.Math.Bool.{cond}
use native.Mathlib.Omega.{arith}
use Rattle.std.proofs.lemmas.Bool.{eqb-false}
use Rattle.node.specs.Entry.{Entry, mem}
use Rattle.node.specs.Find.{is_there}
use Rattle.node.specs.Slot.{MemNode}
use Rattle.node.specs.declared.info.BTreeInfo.{BTreeInfo}
use Rattle.node.specs.laws.base.Tests.{by_test, never}
use Rattle.tree.specs.State.{State, node_at, put_node, with_nodes, with_info, with_level, with_counts}
use Rattle.tree.specs.laws.state.State.{at_put_same, at_put_other, put_count}
use Rattle.tree.specs.Lookup.{Step, leaf_of}
use Rattle.tree.specs.Edit.{touch, index_keys}
use Rattle.tree.specs.Remove.{Dropped, drop_emptied, leveled_root, take_from_leaf}
use Rattle.history.specs.Plain.{plain_remove}
use Rattle.history.specs.Statement.{Start}
use Rattle.theorem.specs.model.Bounds.{Terms, K, KeyIn}
use Rattle.theorem.specs.model.Lazy.{cont, total, names, slots, names_same, Ok, ok_wide}
use Rattle.theorem.specs.model.Lift.{Toward}
use Rattle.theorem.specs.steps.LeafAndKeys.{Once, Along, along_leaf}
use Rattle.theorem.specs.steps.Marks.{Marked, Means, means, touched}
use Rattle.theorem.specs.model.Good.{found, Good}
use Rattle.theorem.specs.steps.EachSlot.{on_way, leaf_on, Keeps, keeps_then, info_keeps, touch_keeps, touch_way, touch_root, touch_leaf, take_leaf_keeps}
use Rattle.theorem.specs.steps.EachSlot.{drop_keeps, leveled_keeps, index_keeps}
use Rattle.theorem.specs.steps.EachSlotCuts.{Deep, Filled, index_grows, grows_deep, grows_filled}
use Rattle.theorem.specs.steps.Parents.{on_stands}
use Rattle.theorem.specs.remove.DeadSums.{dead_sum, state_sum}
use Rattle.theorem.specs.remove.WhatIsLeft.{Stub}
use Rattle.theorem.specs.remove.DropOne.{Shrunk}
use Rattle.theorem.specs.remove.DropAll.{drops}
use Rattle.theorem.specs.remove.Regrow.{nodes_at}
use Rattle.theorem.specs.remove.CutsBelow.{stub_same, Keys, keys_on}
use Rattle.theorem.specs.remove.Accounts.{Books, books_once, books_regrown, marked_nodes, books_marked}
use Rattle.theorem.specs.remove.DropAccounts.{books_shrunk, Leveled, leveled, books_info, ok_info, holds_info, nodes_info}
use Rattle.theorem.specs.remove.Numbers.{index_count, index_info, leveled_count, leveled_info, by_leveled, along_marked, stub_filled}

module _ (g : Start) (τ : Terms) (s : State) (th : List ℕ) (es : List Entry) (good : Good g τ th s es) (order : s.order ≡ τ.order) (k : List ℕ)
    (kk : KeyIn τ k)
    (leaf i : ℕ) (qs : List Step) (along : Along s (Toward τ k) leaf good.level s.root (record { slot = s.root; child = i } ∷ qs))
    (there : is_there s.order k (node_at s leaf).entries ≡ true) where
  abbrev rd : ℕ → MemNode
  rd = found g τ

  abbrev r : ℕ
  r = s.root

  abbrev lv : ℕ
  lv = good.level

  abbrev pub ps : List Step
  ps = record { slot = r; child = i } ∷ qs

  abbrev w : ℕ → ℕ
  w c = on_way c ps

  -- ---- before

  -- sums over the tree and the dead slots, and over the tree
  abbrev pub B : (MemNode → ℕ) → ℕ
  B f = total rd (node_at s) f lv (node_at s r) + dead_sum f s.nodes

  abbrev pub F : (MemNode → ℕ) → ℕ
  F f = total rd (node_at s) f lv (node_at s r)

  books₀ : Books τ rd B F s lv r
  books₀ = record { once = good.once; out = good.out; sums = λ f h. refl; fewer = λ f h. le_refl _ }

  pub once₀ : Once τ rd s lv r
  once₀ = books_once τ rd B F s lv r books₀

  pub used_r : r < length s.nodes
  used_r = once₀.used r (omega (arith, names_same r))

  on_way_lem : (c : ℕ) → on_way c ps ≤ names c (mem r) + slots rd (node_at s) lv c (node_at s r)
  on_way_lem = on_stands τ rd s (Toward τ k) leaf lv r ps along

  pub root_once : on_way r qs ≡ 0
  root_once = omega (arith, on_way_lem r, once₀.once r, names_same r)

  is_leaf : leaf_of ps ≡ leaf
  is_leaf = along_leaf s (Toward τ k) leaf lv r ps along

  on_leaf : 1 ≤ on_way leaf ps
  on_leaf = subst (λ (z : ℕ). 1 ≤ on_way z ps) is_leaf (leaf_on (record { slot = r; child = i }) qs)

  pub on_root : 1 ≤ on_way r ps
  on_root = omega (arith, names_same r)

  used_way : (c : ℕ) → 1 ≤ on_way c ps → c < length s.nodes
  used_way c h = once₀.used c (omega (arith, on_way_lem c))

  -- bounds that hold the key
  abbrev lo' : ℕ
  lo' = min good.lo (K τ k)

  abbrev hi' : ℕ
  hi' = max good.hi (suc (K τ k))

  ok₀ : Ok τ rd (node_at s) lv lo' hi' (node_at s r)
  ok₀ = ok_wide τ rd (node_at s) lv good.lo lo' good.hi hi' (node_at s r) (omega arith) (omega arith) good.tree

  -- ---- the states

  abbrev s₁ : State
  s₁ = touch ps s

  abbrev s₂ : State
  s₂ = take_from_leaf s₁ leaf k

  abbrev dr : Dropped
  dr = drop_emptied ps s₂

  abbrev s₃ : State
  s₃ = dr.state

  abbrev info₄ : BTreeInfo
  info₄ = with_counts s.info (s.info.key_count - 1) (s.info.node_count - dr.nodes)

  abbrev s₄ : State
  s₄ = with_info s₃ info₄

  abbrev s₅ : State
  s₅ = leveled_root s₄

  abbrev pub s₆ : State
  s₆ = index_keys ps s₅

  -- ---- each slot by itself

  k₁ : Keeps w s s₁
  k₁ = touch_keeps w ps s (λ c h. h) on_root (subst (λ (z : ℕ). 1 ≤ on_way z ps) (sym is_leaf) on_leaf)

  leaf_dirty : (node_at s₁ leaf).dirty ≡ true
  leaf_dirty =
      subst (λ (z : ℕ). (node_at s₁ z).dirty ≡ true) is_leaf
      (touch_leaf ps s (subst (λ (z : ℕ). z < length s.nodes) (sym is_leaf) (used_way leaf on_leaf)) (leaf_on (record { slot = r; child = i }) qs))

  k₃ : Keeps w s s₃
  k₃ = keeps_then w s s₁ s₃ k₁ (keeps_then w s₁ s₂ s₃ (take_leaf_keeps w s₁ leaf k on_leaf leaf_dirty) (drop_keeps w ps s₂ (λ c h. h)))

  k₄ : Keeps w s s₄
  k₄ = info_keeps w s s₃ info₄ k₃

  root₄ : s₄.root ≡ r
  root₄ = k₄.root

  k₁₄ : Keeps w s₁ s₄
  k₁₄ = info_keeps w s₁ s₃ info₄ (keeps_then w s₁ s₂ s₃ (take_leaf_keeps w s₁ leaf k on_leaf leaf_dirty) (drop_keeps w ps s₂ (λ c h. h)))

  dirty₄ : (c : ℕ) → c < length s.nodes → (node_at s₁ c).dirty ≡ true → (node_at s₄ c).dirty ≡ true
  dirty₄ c h d = (k₁₄.each c (le_trans h k₁.longer)).dirty d

  root_dirty₄ : (node_at s₄ s₄.root).dirty ≡ true
  root_dirty₄ = ap (λ (z : ℕ). (node_at s₄ z).dirty) root₄ ∙ dirty₄ r used_r (touch_root ps s used_r on_root)

  k₄₆ : Keeps w s₄ s₆
  k₄₆ = keeps_then w s₄ s₅ s₆ (leveled_keeps w s₄ (subst (λ (z : ℕ). 1 ≤ on_way z ps) (sym root₄) on_root) root_dirty₄)
      (index_keeps w ps s₅ (λ c h. h))

  pub k₆ : Keeps w s s₆
  k₆ = keeps_then w s s₄ s₆ k₄ k₄₆

  -- what was marked is dirty
  dirty₆ : (c : ℕ) → c < length s.nodes → (node_at s₁ c).dirty ≡ true → (node_at s₆ c).dirty ≡ true
  dirty₆ c h d = (k₄₆.each c (le_trans h k₄.longer)).dirty (dirty₄ c h d)

  pub root_dirty : (node_at s₆ r).dirty ≡ true
  root_dirty = dirty₆ r used_r (touch_root ps s used_r on_root)

  pub way_dirty : s.virtual ≡ false → (c : ℕ) → c < length s.nodes → 1 ≤ on_way c ps → (node_at s₆ c).dirty ≡ true
  way_dirty v c h o = dirty₆ c h (touch_way ps s c v h o)

  -- ---- the tree

  mk : Marked s s₁
  mk = touched ps s

  me : Means τ rd (node_at s) (node_at s₁) mk.alike lv (node_at s r) (node_at s₁ r)
  me = means τ rd (node_at s) (node_at s₁) mk.alike lv (node_at s r) (node_at s₁ r) (mk.alike r)

  books₁ : Books τ rd B F s₁ lv r
  books₁ = books_marked τ rd s s₁ mk B F lv r books₀

  there₁ : is_there τ.order k (node_at s₁ leaf).entries ≡ true
  there₁ = ap₂ (λ (o : ℕ) (z : List Entry). is_there o k z) (sym order) (mk.alike leaf).entries ∙ there

  shrunk : Shrunk τ rd k kk s₁ s₃ dr.nodes lv r ps
  shrunk =
      drops τ rd k kk s₁ leaf (mk.order ∙ order) there₁ lv r ps (along_marked s s₁ (Toward τ k) leaf lv r ps mk along) lo' hi' (me.ok lo' hi' ok₀)
      (books_once τ rd B F s₁ lv r books₁) (omega arith) (omega arith)

  books₃ : Books τ rd B F s₃ lv r
  books₃ = books_shrunk τ rd B F k kk s₁ s₃ dr.nodes lv r ps books₁ shrunk

  ok₃ : Ok τ rd (node_at s₃) lv lo' hi' (node_at s₃ r)
  ok₃ = shrunk.ok lo' hi' (me.ok lo' hi' ok₀)

  same₄ : (c : ℕ) → node_at s₄ c ≡ node_at s₃ c
  unfolding with_info node_at
  same₄ c = refl

  -- the root leveled
  lev : Leveled τ rd B F s₄ s₅ lv r lo' hi' ps
  lev =
      subst (λ (z : ℕ). Leveled τ rd B F s₄ s₅ lv z lo' hi' ps) root₄
      (leveled τ rd B F s₄ lv lo' hi' ps
      (subst (Books τ rd B F s₄ lv) (sym root₄) (books_info τ rd B F s₃ info₄ lv r books₃))
      (subst (λ (z : ℕ). Ok τ rd (node_at s₄) lv lo' hi' (node_at s₄ z)) (sym root₄) (ok_info τ rd B F s₃ info₄ lv r lo' hi' ok₃))
      (subst (λ (z : ℕ). Stub s₄ lv z ps) (sym root₄) (stub_same s₃ s₄ lv r ps (λ d h. same₄ d) shrunk.stub)))

  -- index keys
  keyed : Keys τ rd s₅ s₆ lev.level r lo' hi' ps
  keyed = keys_on τ rd g.disk.lent s₅ lev.level r ps lev.stub lo' hi' (books_once τ rd B F s₅ lev.level r lev.books) lev.ok

  -- ---- what comes of it

  pub record Pruned : Type 0 where
    pub level : ℕ
    pub lo : ℕ
    pub hi : ℕ
    pub ok : Ok τ rd (node_at s₆) level lo hi (node_at s₆ r)
    pub holds : cont rd (node_at s₆) level (node_at s₆ r) ≡ plain_remove τ.order k es
    pub books : Books τ rd B F s₆ level r
    pub nodes : nodes_at τ rd s₆ level r + dr.nodes ≡ s.info.node_count
    pub stub : Stub s₆ level r ps
    pub count : length s₆.nodes ≡ length s.nodes
    pub info : s₆.info ≡ info₄
    pub deep : Deep s₆
    pub filled : Filled s₆

  count₄ : length s₄.nodes ≡ length s.nodes
  unfolding with_info
  count₄ = shrunk.count ∙ mk.count

  level₄ : (c : ℕ) → (node_at s₄ c).level ≡ (node_at s c).level
  level₄ c = ap (λ (m : MemNode). m.level) (same₄ c) ∙ shrunk.level c ∙ (mk.alike c).level

  live₄ : (c : ℕ) → c < length s.nodes → (node_at s₄ c).dead ≡ false → (node_at s c).dead ≡ false
  live₄ c h z = by_test (node_at s c).dead (λ t. never ((k₄.each c h).dead t) z) (λ t. t)

  deep₄ : (c : ℕ) → c < length s.nodes → (node_at s₄ c).dead ≡ false → (node_at s₄ c).level ≤ 32
  deep₄ c h z = omega (arith, level₄ c, (good.flat.each c h (live₄ c h z)).deep)

  -- every slot but the root is filled
  filled₄ : (c : ℕ) → c < length s.nodes → (node_at s₄ c).dead ≡ false → (c ≡ r → ⊥) → 0 < length (node_at s₄ c).entries
  filled₄ c h z f =
      by_test (leb 1 (on_way c ps))
      (λ t.
      let e : length (node_at s₄ c).entries ≡ length (node_at s₃ c).entries = ap (λ (m : MemNode). length m.entries) (same₄ c) in
      let y = stub_filled s₃ lv r ps shrunk.stub c (leb-true 1 (on_way c ps) t) f (ap (λ (m : MemNode). m.dead) (sym (same₄ c)) ∙ z) in
      omega arith)
      (λ t.
      let e : node_at s₄ c ≡ node_at s c = k₄.off c h (omega (arith, leb-false 1 (on_way c ps) t)) in
      let n : eqb c r ≡ false = ne_eqb c r f in
      let y : 0 < length (node_at s c).entries + 0 = rw n at (good.flat.each c h (live₄ c h z)).filled in
      let x : length (node_at s₄ c).entries ≡ length (node_at s c).entries = ap (λ (m : MemNode). length m.entries) e in
      omega arith)

  abbrev leaf₄ : MemNode
  leaf₄ = with_level (node_at s₄ s₄.root) 0

  used₄ : s₄.root < length s₄.nodes
  used₄ = omega (arith, used_r, root₄, count₄)

  deep₅ : Deep s₅
  deep₅ =
      by_leveled Deep s₄
      (λ q c h z.
      let lt : c < length s.nodes = omega (arith, count₄, put_count s₄ s₄.root leaf₄) in
      by_test (eqb c s₄.root)
      (λ t. let e : c ≡ s₄.root = eqb-true c s₄.root t in rw e (level_is s₄.root used₄))
      (λ t. let e : node_at (put_node s₄ s₄.root leaf₄) c ≡ node_at s₄ c = at_put_other s₄ s₄.root leaf₄ c (eqb-false c s₄.root t) in
      rw e (deep₄ c lt (ap (λ (m : MemNode). m.dead) (sym e) ∙ z))))
      (λ q c h z. deep₄ c (omega (arith, count₄)) z)
    where
      level_is : (n : ℕ) → n < length s₄.nodes → (node_at (put_node s₄ n leaf₄) n).level ≤ 32
      level_is n h = rw (at_put_same s₄ n leaf₄ h) (unfold with_level in (omega arith))

  filled₅ : Filled s₅
  filled₅ =
      by_leveled Filled s₄
      (λ q c h z.
      let lt : c < length s.nodes = omega (arith, count₄, put_count s₄ s₄.root leaf₄) in
      by_test (eqb c s₄.root)
      (λ t.
      let e : c ≡ s₄.root = eqb-true c s₄.root t in
      let p : State = put_node s₄ s₄.root leaf₄ in
      omega (
        arith,
        leaf_root (eqb c p.root) (node_at p c).level (ap (eqb c) (put_root s₄ s₄.root leaf₄) ∙ t)
            (ap (λ (x : ℕ). (node_at p x).level) e ∙ level_is s₄.root used₄),
      ))
      (λ t. let n : c ≡ s₄.root → ⊥ = eqb-false c s₄.root t in
      let e : node_at (put_node s₄ s₄.root leaf₄) c ≡ node_at s₄ c = at_put_other s₄ s₄.root leaf₄ c n in
      let y = filled₄ c lt (ap (λ (m : MemNode). m.dead) (sym e) ∙ z) (λ p. n (p ∙ sym root₄)) in
      let x : length (node_at (put_node s₄ s₄.root leaf₄) c).entries ≡ length (node_at s₄ c).entries =
      ap (λ (m : MemNode). length m.entries) e in
      omega arith))
      (λ q c h z.
      by_test (eqb c s₄.root)
      (λ t. let e : length (node_at s₄ c).entries ≡ length (node_at s₄ s₄.root).entries =
      ap (λ (x : ℕ). length (node_at s₄ x).entries) (eqb-true c s₄.root t) in omega arith)
      (λ t. let y = filled₄ c (omega (arith, count₄)) z (λ p. eqb-false c s₄.root t (p ∙ sym root₄)) in omega arith))
    where
      level_is : (n : ℕ) → n < length s₄.nodes → (node_at (put_node s₄ n leaf₄) n).level ≡ 0
      level_is n h = rw (at_put_same s₄ n leaf₄ h) (unfold with_level in refl)

      leaf_root : (t : Bool) (x : ℕ) → t ≡ true → x ≡ 0 → ◌≡◌ {A = ℕ} (cond t (cond (eqb x 0) 1 0) 0) 1
      leaf_root t x a b = rw (a, b)

      put_root : (x : State) (n : ℕ) (m : MemNode) → (put_node x n m).root ≡ x.root
      put_root x n m = unfold put_node with_nodes in refl

  count₅ : length s₅.nodes ≡ length s.nodes
  count₅ = leveled_count s₄ ∙ count₄

  pub pruned : Pruned
  unfolding with_info
  pruned =
      let ig = index_grows w ps s₅ (λ c h. h) in
      let rg = keyed.regrown in
      let ic = index_count ps s₅ in
      record {
        level = lev.level;
        lo = lo';
        hi = hi';
        ok = rg.grown.ok;
        holds = rg.grown.holds ∙ lev.holds ∙ holds_info τ rd B F s₃ info₄ lv r ∙ shrunk.holds
            ∙ ap (plain_remove τ.order k) (me.holds ∙ good.holds);
        books = books_regrown τ rd B F s₅ s₆ lev.level r lo' hi' lev.books rg ig.dead (λ c h j. absurd (omega arith))
            (λ f h. state_sum f s₅ s₆ (omega arith)
            (λ c j. ap₂ (λ (d : Bool) (x : ℕ). cond d x 0) (ig.dead c j)
            (h.same (node_at s₆ c) (node_at s₅ c) (ig.keeps.each c j).block (ig.keeps.each c j).id))
            (λ c p j. absurd (omega arith)));
        nodes =
            omega (
              arith,
              rg.nodes,
              lev.nodes,
              nodes_info τ rd B F s₃ info₄ lv r,
              shrunk.nodes,
              marked_nodes τ rd s s₁ mk lv (node_at s r) (node_at s₁ r) (mk.alike r).entries,
              good.node_count,
            );
        stub = keyed.stub;
        count = ic ∙ count₅;
        info = index_info ps s₅ ∙ leveled_info s₄;
        deep = grows_deep w s₅ s₆ ig deep₅;
        filled = grows_filled w s₅ s₆ ig filled₅;
      }
