-- Remove: an accepted remove answers whether the key is there, and the invariant holds on with the plain list's removal, the blocks of the way and of
-- what became the root. Assumes nothing.
use Rattle.std.specs.Prelude.{◌≡◌, true, false, cond, ◌&&◌, ℕ, suc, ltb}
use Rattle.std.proofs.Common.{sym, ap, ap₂, subst, ◌∙◌}
use mathlib.Core.List.{List, [], ◌∷◌, ◌++◌, append_assoc, append-nil}
use Rattle.std.proofs.Math.Dec.{leb}
use borrow.Author.Tests.{leb-true}
use Rattle.node.specs.Result.{ok, ◌>>=◌}
use Rattle.node.specs.laws.base.Results.{Holds, holds_ok, holds_bind, holds_check}
use Rattle.node.specs.Refusals as refusal
use Rattle.node.specs.Entry.{Entry}
use Rattle.node.specs.Find.{is_there}
use Rattle.node.specs.laws.base.Tests.{by_test, and_split}
use Rattle.tree.specs.Lent.{Lent}
use Rattle.tree.specs.State.{State, node_at}
use Rattle.tree.specs.Load.{unbounded, load_child}
use Rattle.tree.specs.Lookup.{Step, Way, way, leaf_of}
use Rattle.tree.specs.Edit.{touch}
use Rattle.tree.specs.Remove.{drop_emptied, take_from_leaf, shrunk_on, remove_on, Removed, removed}
use Rattle.history.specs.Passes.{blocks_on, pass_take, roots_taken, became_root}
use Rattle.history.specs.Plain.{plain_remove, plain_has}
use Rattle.history.specs.Statement.{Start, Lends}
use Rattle.history.specs.laws.PlainIs.{has_is}
use Rattle.history.specs.laws.PlainLaws.{remove_absent}
use Rattle.theorem.specs.model.Bounds.{Terms, KeyIn}
use Rattle.theorem.specs.model.Lazy.{ok_level}
use Rattle.theorem.specs.model.Lift.{Toward}
use Rattle.theorem.specs.steps.LeafAndKeys.{Along, along_leaf}
use Rattle.theorem.specs.steps.Way.{Led}
use Rattle.theorem.specs.model.Good.{found, Old, Suits, Good}
use Rattle.theorem.specs.steps.HasKey.{has_way}
use Rattle.theorem.specs.remove.Numbers.{along_cons}
use Rattle.theorem.specs.remove.AfterCuts.{good_cut, root_dirty}
use Rattle.theorem.specs.remove.HandDown.{good_hands}

-- ---- what a remove passes through

take_there : (l : Lent) (s : State) (k : List ℕ) (w : Way) → way l s k ≡ ok w
    → is_there s.order k (node_at w.state (leaf_of w.steps)).entries ≡ true
    → pass_take l s k ≡ blocks_on w.state w.steps
unfolding pass_take
take_there l s k w e t = rw (e, t)

take_not : (l : Lent) (s : State) (k : List ℕ) (w : Way) → way l s k ≡ ok w
    → is_there s.order k (node_at w.state (leaf_of w.steps)).entries ≡ false → pass_take l s k ≡ []
unfolding pass_take
take_not l s k w e t = rw (e, t)

became_there : (l : Lent) (s : State) (k : List ℕ) (w : Way) (t : State) → way l s k ≡ ok w
    → is_there s.order k (node_at w.state (leaf_of w.steps)).entries ≡ true
    → shrunk_on l k w ≡ ok t → became_root l s k ≡ roots_taken (node_at t t.root).level l t
unfolding became_root
became_there l s k w t e h q = rw (e, h, q)

became_not : (l : Lent) (s : State) (k : List ℕ) (w : Way) → way l s k ≡ ok w
    → is_there s.order k (node_at w.state (leaf_of w.steps)).entries ≡ false → became_root l s k ≡ []
unfolding became_root
became_not l s k w e h = rw (e, h)

module _ (g : Start) (τ : Terms) (suits : Suits g τ) (l : Lent) (lends : Lends g l)
    (good_way : (th : List ℕ) (s : State) (es : List Entry) (h : Good g τ th s es) (k : List ℕ) → KeyIn τ k
    → Holds (λ w. Good g τ th w.state es × Led τ (found g τ) l (Old g) s h.level s.root h.lo h.hi k w) (way l s k))
    (good_load : (th : List ℕ) (s : State) (es : List Entry) (h : Good g τ th s es) (j : ℕ) (e : Entry) → h.level ≡ suc j
    → (node_at s s.root).entries ≡ e ∷ []
    → Holds (λ a. Good g τ th a.state es) (load_child l s unbounded s.root 0)) where
  good_order : (th : List ℕ) (s : State) (es : List Entry) → Good g τ th s es → s.order ≡ τ.order
  good_order th s es h = h.order ∙ sym suits.order

  -- ---- the edit on a way that has the key

  abbrev After : List ℕ → List Entry → State → Type 0
  After th es t = Good g τ th t es × ((node_at t t.root).dirty ≡ true)

  shrunk_steps : (th : List ℕ) (s : State) (es : List Entry) (h : Good g τ th s es) (k : List ℕ) → KeyIn τ k → (leaf i : ℕ) (qs : List Step)
      → Along s (Toward τ k) leaf h.level s.root (record { slot = s.root; child = i } ∷ qs)
      → is_there s.order k (node_at s leaf).entries ≡ true
      → Holds (After (th ++ blocks_on s (record { slot = s.root; child = i } ∷ qs)) (plain_remove τ.order k es))
      (shrunk_on l k (record { state = s; steps = record { slot = s.root; child = i } ∷ qs }))
  unfolding shrunk_on
  shrunk_steps th s es h k kk leaf i qs along there =
      let ps : List Step = record { slot = s.root; child = i } ∷ qs in
      rw (along_leaf s (Toward τ k) leaf h.level s.root (record { slot = s.root; child = i } ∷ qs) along)
      (holds_check refusal.count
      (ltb 0 s.info.key_count && leb (drop_emptied ps (take_from_leaf (touch ps s) leaf k)).nodes s.info.node_count) _ λ c.
      let enough = leb-true _ _
      (and_split (ltb 0 s.info.key_count) (leb (drop_emptied ps (take_from_leaf (touch ps s) leaf k)).nodes s.info.node_count) c).1 in
      record {
        at = λ u e. (
          good_cut g τ s th es h (good_order th s es h) k kk leaf i qs along there l lends enough u e,
          root_dirty g τ s th es h (good_order th s es h) k kk leaf i qs along there l lends enough u e,
        );
      })

  -- from the way that was loaded
  module _ (th : List ℕ) (s : State) (es : List Entry) (h : Good g τ th s es) (k : List ℕ) (kk : KeyIn τ k) (w : Way) (is : way l s k ≡ ok w)
      (good : Good g τ th w.state es) (led : Led τ (found g τ) l (Old g) s h.level s.root h.lo h.hi k w) where
    abbrev t : State
    t = w.state

    root : t.root ≡ s.root
    root = led.still.root

    level : h.level ≡ good.level
    level =
        sym (ok_level τ (found g τ) (node_at t) h.level h.lo h.hi (node_at t s.root) led.grown.ok)
        ∙ ap (λ (z : ℕ). (node_at t z).level) (sym root)
        ∙ ok_level τ (found g τ) (node_at t) good.level good.lo good.hi (node_at t t.root) good.tree

    along : Along t (Toward τ k) led.leaf good.level t.root w.steps
    along =
        subst (λ (z : ℕ). Along t (Toward τ k) led.leaf good.level z w.steps) (sym root)
        (subst (λ (z : ℕ). Along t (Toward τ k) led.leaf z s.root w.steps) level led.along)

    is_leaf : leaf_of w.steps ≡ led.leaf
    is_leaf = along_leaf t (Toward τ k) led.leaf good.level t.root w.steps along

    same : t.order ≡ s.order
    same = led.still.order

    -- the key is there if its leaf has it
    there_is : is_there s.order k es ≡ is_there s.order k (node_at t (leaf_of w.steps)).entries
    there_is =
        let o : s.order ≡ τ.order = good_order th s es h in
        ap₂ (λ (x : ℕ) (y : List Entry). is_there x k y) o (sym good.holds)
        ∙ has_way τ k kk (found g τ) t led.leaf good.level t.root w.steps along good.lo good.hi good.tree
        ∙ ap₂ (λ (x y : ℕ). is_there x k (node_at t y).entries) (sym o) (sym is_leaf)

    pub has : plain_has s.order k es ≡ is_there s.order k (node_at t (leaf_of w.steps)).entries
    has = has_is s.order k es ∙ there_is

    shrunk_on_lem : is_there s.order k (node_at t (leaf_of w.steps)).entries ≡ true
        → Holds (After (th ++ blocks_on t w.steps) (plain_remove τ.order k es)) (shrunk_on l k w)
    shrunk_on_lem b =
        let (i, qs, q) = along_cons t (Toward τ k) led.leaf good.level t.root w.steps along in
        subst (λ (z : List Step). Holds (After (th ++ blocks_on t z) (plain_remove τ.order k es)) (shrunk_on l k (record { state = t; steps = z })))
        (sym q)
        (shrunk_steps th t es good k kk led.leaf i qs (subst (Along t (Toward τ k) led.leaf good.level t.root) q along)
        (ap₂ (λ (x y : ℕ). is_there x k (node_at t y).entries) same (sym is_leaf) ∙ b))

    removed_on : is_there s.order k (node_at t (leaf_of w.steps)).entries ≡ true
        → Holds (λ u. Good g τ (th ++ (pass_take l s k ++ became_root l s k)) u (plain_remove s.order k es)) (remove_on l k w)
    unfolding remove_on
    removed_on b =
        holds_bind (shrunk_on l k w) _ λ v e.
        let (a, d) = (shrunk_on_lem b).at v e in
        rw (take_there l s k w is b, became_there l s k w v is b e, good_order th s es h, ← append_assoc)
        (good_hands g τ l good_load (node_at v v.root).level (th ++ blocks_on t w.steps) v (plain_remove τ.order k es) a d)

    -- absent: loads only
    not_there : is_there s.order k (node_at t (leaf_of w.steps)).entries ≡ false
        → Good g τ (th ++ (pass_take l s k ++ became_root l s k)) t (plain_remove s.order k es)
    not_there b = rw (take_not l s k w is b, became_not l s k w is b, append-nil th, remove_absent s.order k es (there_is ∙ b)) good

    pub answered : Holds (λ (r : Removed). (r.present ≡ plain_has s.order k es) × Good g τ (th ++ (pass_take l s k ++ became_root l s k)) r.state
        (plain_remove s.order k es))
        (cond (is_there s.order k (node_at w.state (leaf_of w.steps)).entries)
        (remove_on l k w >>= λ v. ok (record { state = v; present = true })) (ok (record { state = w.state; present = false })))
    answered =
        by_test (is_there s.order k (node_at w.state (leaf_of w.steps)).entries)
        (λ b. rw b (holds_bind (remove_on l k w) _ λ v e. holds_ok (sym (has ∙ b), (removed_on b).at v e)))
        (λ b. rw b (holds_ok (sym (has ∙ b), not_there b)))

  pub good_remove : (th : List ℕ) (s : State) (es : List Entry) → Good g τ th s es → (k : List ℕ) → KeyIn τ k
      → Holds (λ (r : Removed). (r.present ≡ plain_has s.order k es) × Good g τ (th ++ (pass_take l s k ++ became_root l s k)) r.state
      (plain_remove s.order k es)) (removed l s k)
  unfolding removed
  good_remove th s es h k kk =
      holds_bind (way l s k) _ λ w e.
      let (a, b) = (good_way th s es h k kk).at w e in
      answered th s es h k kk w e a b
