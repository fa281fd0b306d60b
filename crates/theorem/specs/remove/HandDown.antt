-- The root's place handed down as often as an index root has one child that fits: the invariant holds on, with the blocks of the children that became
-- the root. Assumes nothing.
use Rattle.std.specs.Prelude.{◌≡◌, refl, false, ℕ, zero, suc, ◌<◌, ltb, eqb}
use Rattle.std.proofs.Math.Path.{sym, ap}
use Rattle.std.proofs.Common.{◌∙◌, arith}
use mathlib.Core.List.{List, [], ◌∷◌, ◌++◌, append_assoc, append-nil}
use Rattle.std.proofs.Math.Bool.{true}
use Rattle.std.proofs.Math.ListN.{length}
use borrow.Author.Tests.{ltb-true, ltb-false, eqb-true}
use Rattle.node.specs.Result.{ok}
use Rattle.node.specs.laws.base.Results.{Holds, holds_ok, holds_bind, holds_check}
use Rattle.node.specs.Refusals as refusal
use Rattle.node.specs.Entry.{Entry, Val, mem}
use Rattle.node.specs.Find.{val_at}
use Rattle.node.specs.Fit.{fits}
use Rattle.node.specs.laws.base.Tests.{by_test, and_split}
use Rattle.tree.specs.Lent.{Lent}
use Rattle.tree.specs.State.{State, node_at}
use Rattle.tree.specs.laws.state.State.{keys_of}
use Rattle.tree.specs.Load.{unbounded, At, load_child}
use Rattle.tree.specs.laws.state.Load.{Kept, load_keeps, load_child_lem}
use Rattle.tree.specs.Remove.{handed_down, has_only_child, root_taken, hand_down}
use Rattle.history.specs.Statement.{Start}
use Rattle.history.specs.Passes.{root_taking, roots_taken}
use Rattle.theorem.specs.model.Bounds.{Terms}
use Rattle.theorem.specs.model.Lazy.{names_same, ok_level}
use Rattle.theorem.specs.model.Good.{found, Good}
use Rattle.theorem.specs.remove.HandDownOnce.{Heir, root_dirty, good_handed}

keys_length_lem : (es : List Entry) → length (keys_of es) ≡ length es
keys_length_lem [] = refl
keys_length_lem (e ∷ es) = ap suc (keys_length_lem es)

-- one entry, and it is a child in slot c
only_row : (es : List Entry) (c : ℕ) → length es ≡ 1 → val_at es 0 ≡ mem c → (key : List ℕ) × (es ≡ record { key = key; value = mem c } ∷ [])
only_row [] c h q = absurd (omega arith)
only_row (e ∷ []) c h q = (e.key, ap (λ (v : Val). record { key = e.key; value = v } ∷ []) (of e q))
  where
    of : (e : Entry) → val_at (e ∷ []) 0 ≡ mem c → e.value ≡ mem c
    of e h = unfold val_at in h
only_row (e ∷ d ∷ es) c h q = absurd (omega arith)

only_one : (es : List Entry) → length es ≡ 1 → (e : Entry) × (es ≡ e ∷ [])
only_one [] h = absurd (omega arith)
only_one (e ∷ []) h = (e, refl)
only_one (e ∷ d ∷ es) h = absurd (omega arith)

positive : (n : ℕ) → 0 < n → (l : ℕ) × (n ≡ suc l)
positive zero h = absurd (omega arith)
positive (suc l) h = (l, refl)

-- ---- what became the root, step by step

none_taken : (n : ℕ) (l : Lent) (s : State) → has_only_child s ≡ false → roots_taken n l s ≡ []
unfolding roots_taken
none_taken zero l s t = refl
none_taken (suc n) l s t = rw t

unfit_taken : (n : ℕ) (l : Lent) (s : State) (a : At) → has_only_child s ≡ true → load_child l s unbounded s.root 0 ≡ ok a
    → fits a.state.info true (node_at a.state a.slot).level (node_at a.state a.slot).entries ≡ false → roots_taken (suc n) l s ≡ []
unfolding roots_taken root_taking
unfit_taken n l s a t e f = rw (t, e, f)

one_taken : (n : ℕ) (l : Lent) (s : State) (a : At) → has_only_child s ≡ true → load_child l s unbounded s.root 0 ≡ ok a
    → fits a.state.info true (node_at a.state a.slot).level (node_at a.state a.slot).entries ≡ true
    → roots_taken (suc n) l s ≡ (node_at a.state a.slot).block ++ roots_taken n l (handed_down a.state a.slot)
unfolding roots_taken root_taking
one_taken n l s a t e f = rw (t, e, f)

module _ (g : Start) (τ : Terms) (l : Lent)
    (good_load : (th : List ℕ) (s : State) (es : List Entry) (h : Good g τ th s es) (j : ℕ) (e : Entry) → h.level ≡ suc j
    → (node_at s s.root).entries ≡ e ∷ []
    → Holds (λ a. Good g τ th a.state es) (load_child l s unbounded s.root 0)) where
  -- the load of an only child
  only_load : (th : List ℕ) (s : State) (es : List Entry) → Good g τ th s es → has_only_child s ≡ true
      → Holds (λ a. Good g τ th a.state es) (load_child l s unbounded s.root 0)
  unfolding has_only_child
  only_load th s es h o =
      let (x, y) = and_split (ltb 0 (node_at s s.root).level) (eqb (length (node_at s s.root).entries) 1) o in
      let w : (node_at s s.root).level ≡ h.level = ok_level τ (found g τ) (node_at s) h.level h.lo h.hi (node_at s s.root) h.tree in
      let (j, q) = positive h.level (omega (arith, ltb-true 0 (node_at s s.root).level x)) in
      let (e, row) = only_one (node_at s s.root).entries (eqb-true (length (node_at s s.root).entries) 1 y) in
      good_load th s es h j e q row

  -- the only child loaded can take the root's place
  heir : (th : List ℕ) (s : State) (es : List Entry) (a : At) (h : Good g τ th a.state es) → (node_at s s.root).dirty ≡ true
      → has_only_child s ≡ true
      → s.root < length s.nodes → load_child l s unbounded s.root 0 ≡ ok a
      → fits a.state.info true (node_at a.state a.slot).level (node_at a.state a.slot).entries ≡ true
      → 0 < a.state.info.node_count
      → Heir g τ a.state th es h a.slot
  unfolding has_only_child
  heir th s es a h d o used e f z =
      let (x, y) = and_split (ltb 0 (node_at s s.root).level) (eqb (length (node_at s s.root).entries) 1) o in
      let k : Kept s a.state s.root 0 = load_keeps l s unbounded s.root 0 a e in
      let r : a.state.root ≡ s.root = k.root in
      let lv : (node_at a.state a.state.root).level ≡ (node_at s s.root).level = ap (λ (n : ℕ). (node_at a.state n).level) r
      ∙ k.level s.root used in
      let w : (node_at a.state a.state.root).level ≡ h.level =
      ok_level τ (found g τ) (node_at a.state) h.level h.lo h.hi (node_at a.state a.state.root) h.tree in
      let (j, q) = positive h.level (omega (arith, ltb-true 0 (node_at s s.root).level x)) in
      let ks : keys_of (node_at a.state s.root).entries ≡ keys_of (node_at s s.root).entries = k.keys s.root used in
      let ln : length (node_at a.state s.root).entries ≡ 1 =
      sym (keys_length_lem (node_at a.state s.root).entries) ∙ ap length ks ∙ keys_length_lem (node_at s s.root).entries
      ∙ eqb-true (length (node_at s s.root).entries) 1 y in
      let (key, row) = only_row (node_at a.state s.root).entries a.slot ln (load_child_lem l s unbounded s.root 0 a e) in
      record {
        l = j;
        level = q;
        key = key;
        row = ap (λ (n : ℕ). (node_at a.state n).entries) r ∙ row;
        dirty = ap (λ (n : ℕ). (node_at a.state n).dirty) r ∙ k.dirty s.root used ∙ d;
        fit = f;
        some = z;
      }

  root_used : (th : List ℕ) (s : State) (es : List Entry) → Good g τ th s es → s.root < length s.nodes
  root_used th s es h = by_test (ltb s.root (length s.nodes)) (λ t. ltb-true s.root _ t)
      (λ t. absurd (omega (arith, h.out s.root (ltb-false s.root _ t), names_same s.root)))

  -- n times at most
  abbrev Hands : ℕ → Type 0
  Hands n = (th : List ℕ) (s : State) (es : List Entry) → Good g τ th s es → (node_at s s.root).dirty ≡ true
      → Holds (λ u. Good g τ (th ++ roots_taken n l s) u es) (hand_down n l s)

  no_hands : (th : List ℕ) (s : State) (es : List Entry) → Good g τ th s es → Holds (λ u. Good g τ (th ++ roots_taken 0 l s) u es) (hand_down 0 l s)
  unfolding hand_down roots_taken
  no_hands th s es h = holds_ok (rw (append-nil th) h)

  -- once, and what follows
  more_hands : (n : ℕ) → Hands n → (th : List ℕ) (s : State) (es : List Entry) → Good g τ th s es → (node_at s s.root).dirty ≡ true
      → Holds (λ u. Good g τ (th ++ roots_taken (suc n) l s) u es) (hand_down (suc n) l s)
  unfolding hand_down root_taken
  more_hands n ih th s es h d =
      by_test (has_only_child s)
      (λ t. rw t (holds_bind (load_child l s unbounded s.root 0) _ λ a e.
      let k : Good g τ th a.state es = (only_load th s es h t).at a e in
      by_test (fits a.state.info true (node_at a.state a.slot).level (node_at a.state a.slot).entries)
      (λ f. rw (f, one_taken n l s a t e f)
      (holds_check refusal.count (ltb 0 a.state.info.node_count) _ λ z.
      let i : Heir g τ a.state th es k a.slot = heir th s es a k d t (root_used th s es h) e f (ltb-true 0 _ z) in
      rw (← append_assoc)
      (ih (th ++ (node_at a.state a.slot).block) (handed_down a.state a.slot) es (good_handed g τ a.state th es k a.slot i)
      (root_dirty g τ a.state th es k a.slot i))))
      (λ f. rw (f, unfit_taken n l s a t e f, append-nil th) (holds_ok k))))
      (λ t. rw (t, none_taken (suc n) l s t, append-nil th) (holds_ok h))

  pub good_hands : (n : ℕ) → Hands n
  good_hands zero th s es h d = no_hands th s es h
  good_hands (suc n) th s es h d = more_hands n (good_hands n) th s es h d
