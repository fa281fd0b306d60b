-- Laws of the root's place handed down, turn by turn, as the code does it. Assumes nothing.
use Rattle.std.specs.Prelude.{◌≡◌, refl, List, Bool, true, false, not, length, ltb}
use Rattle.std.proofs.Math.Path.{sym, ap}
use Rattle.std.proofs.Common.{ap₂, ◌∙◌}
use Prim.Native.Nat.{ℕ, suc, ◌-◌, ◌≤◌, ◌<◌}
use native.Mathlib.Omega.{arith}
use borrow.Author.Tests.{lt-ltb, not-true, not-false}
use Rattle.node.specs.Result.{Result, ok, refused, ◌>>=◌}
use Rattle.node.specs.laws.base.Tests.{and_left}
use Rattle.node.specs.Fit.{Sized, fits}
use Rattle.tree.specs.Lent as lent
use Rattle.tree.specs.Lent.{lent_of}
use Rattle.tree.specs.State.{State, node_at}
use Rattle.tree.specs.Hold.{numbers_hold}
use Rattle.tree.specs.Trust.{stand_together, trusted}
use Rattle.tree.specs.Load.{unbounded, At, load_child}
use Rattle.tree.specs.Remove.{handed_down, has_only_child, root_taken, hand_down}
use Rattle.tree.specs.Workspace.{state_of}
use Rattle.tree.specs.Answers.{edited_of}
use Rattle.tree.specs.internal.Bank.{Ready}
use Rattle.tree.specs.internal.Undo.{Follows}
use Rattle.tree.specs.internal.Tree.{bound_of, bounds_of, loaded_of}
use Rattle.tree.specs.internal.Removing.{Handed, Handing}
use Rattle.tree.specs.laws.slots.Undo.{follows_same, follows_on}
use Rattle.tree.specs.laws.state.Load.{load_keeps}
use Rattle.tree.specs.laws.slots.Tree.{used_nodes}
use Rattle.tree.specs.laws.refusal1.Ready.{numbers_sized}
use Rattle.tree.specs.laws.trust.Stands.{Below, Stands, all, stands_used, trusted_of, of_trusted}
use Rattle.tree.specs.laws.trust.Loads.{load_loaded, load_below, loaded_trusted}
use Rattle.tree.specs.laws.trust.CutRoot.{Ended}
use Rattle.tree.specs.laws.trust.Upsert.{ended_held}
use Rattle.tree.specs.laws.trust.HandDown.{hand_ended}
use Rattle.tree.specs.declared.editor.Tree.{Tree}
use Rattle.tree.specs.declared.lent.Lent.{Lent}
use Rattle.std.specs.Prelude as std
use Rattle.std.specs.Prelude.{None, Ok, Err}
use Rattle.node.specs.Refusals.{number_of}
use Rattle.node.specs.declared.refusal.Refusal.{Refusal}
use Rattle.node.specs.declared.refusal.Refusal.TheVariants as is

-- ---- what trust grants

pub trusted_sized : (l : lent.Lent) (s : State) → trusted l s ≡ true → Sized s.info
unfolding trusted
trusted_sized l s h = numbers_sized l s (and_left (numbers_hold l s) (stand_together s) h)

pub trusted_root : (l : lent.Lent) (s : State) → trusted l s ≡ true → s.root < length s.nodes
trusted_root l s h = stands_used all all s (trusted_of l s h).1

-- ---- one turn of the definition

module _ (l : lent.Lent) (s : State) (d : ℕ) (hd : 0 < d) where
  turn : ℕ → Result State
  turn m = load_child l s unbounded s.root 0 >>= root_taken (hand_down m l)

  one_turn : has_only_child s ≡ true → hand_down d l s ≡ turn (d - 1)
  unfolding hand_down turn
  one_turn o = let z : d ≡ suc (d - 1) = omega arith in ap (λ (m : ℕ). hand_down m l s) z ∙ rw o

  no_turn : has_only_child s ≡ false → hand_down d l s ≡ ok s
  unfolding hand_down
  no_turn o = let z : d ≡ suc (d - 1) = omega arith in ap (λ (m : ℕ). hand_down m l s) z ∙ rw o

  module _ (o : has_only_child s ≡ true) where
    load_refused : (x : ℕ) → refused x ≡ load_child l s unbounded s.root 0 → hand_down d l s ≡ refused x
    unfolding turn
    load_refused x e = one_turn o ∙ rw (← e)

    module _ (a : At) (e : ok a ≡ load_child l s unbounded s.root 0) where
      load_taken : hand_down d l s ≡ root_taken (hand_down (d - 1) l) a
      unfolding turn
      load_taken = one_turn o ∙ rw (← e)

      turn_unfit : fits a.state.info true (node_at a.state a.slot).level (node_at a.state a.slot).entries ≡ false
          → hand_down d l s ≡ ok a.state
      turn_unfit f = load_taken ∙ (unfold root_taken in rw f)

      module _ (f : fits a.state.info true (node_at a.state a.slot).level (node_at a.state a.slot).entries ≡ true) where
        turn_count : a.state.info.node_count ≡ 0 → hand_down d l s ≡ refused 17
        turn_count z = load_taken ∙ (unfold root_taken in rw (f, z))

        turn_down : (a.state.info.node_count ≡ 0 → ⊥) → hand_down d l s ≡ hand_down (d - 1) l (handed_down a.state a.slot)
        turn_down z = load_taken ∙ taken (lt-ltb 0 a.state.info.node_count (positive a.state.info.node_count z))
          where
            positive : (x : ℕ) → (x ≡ 0 → ⊥) → 0 < x
            positive x h = omega arith

            taken : ltb 0 a.state.info.node_count ≡ true
                → root_taken (hand_down (d - 1) l) a ≡ hand_down (d - 1) l (handed_down a.state a.slot)
            taken p = unfold root_taken in rw (f, p)

-- ---- trust

module _ (l : lent.Lent) (s : State) (a : At) (tr : trusted l s ≡ true) (e : ok a ≡ load_child l s unbounded s.root 0) where
  stands : Stands all all s
  stands = (trusted_of l s tr).1

  pub loaded_trust : trusted l a.state ≡ true
  loaded_trust = loaded_trusted l s a.state tr ((load_loaded l all all s unbounded s.root 0 stands).at a (sym e))

  same_root : a.state.root ≡ s.root
  same_root = ((load_loaded l all all s unbounded s.root 0 stands).at a (sym e)).loads.root

  below : Below a.state a.slot (node_at s s.root).level
  below = load_below l all all s unbounded s.root 0 a stands stands.root (sym e)

  pub child_used : a.slot < length a.state.nodes
  child_used = below.used

  pub child_apart : a.slot ≡ a.state.root → ⊥
  child_apart q =
      let x : (node_at a.state a.slot).level ≡ (node_at a.state s.root).level = ap (λ (n : ℕ). (node_at a.state n).level) (q ∙ same_root) in
      let y : (node_at a.state s.root).level ≡ (node_at s s.root).level = ((load_loaded l all all s unbounded s.root 0 stands).at a
      (sym e)).loads.level s.root (stands_used all all s stands) in
      omega (arith, below.lower)

  pub handed_trust : has_only_child s ≡ true → fits a.state.info true (node_at a.state a.slot).level (node_at a.state
      a.slot).entries ≡ true
      → (a.state.info.node_count ≡ 0 → ⊥) → trusted l (handed_down a.state a.slot) ≡ true
  handed_trust o f z =
      let u : State = handed_down a.state a.slot in
      let q : hand_down 1 l s ≡ ok (handed_down a.state a.slot) = turn_down l s 1 (omega arith) o a e f z ∙ (unfold hand_down in refl) in
      let k : Ended l s (handed_down a.state a.slot) = (hand_ended 1 l s stands).at (handed_down a.state a.slot) q in
      of_trusted l (handed_down a.state a.slot) (ended_held l s (handed_down a.state a.slot) k (trusted_of l s tr).0) k.stands

-- ---- as the code has it

pub no_bounds : (s : State) → bounds_of s (record { lower = None; upper = None }) ≡ unbounded
unfolding bounds_of bound_of unbounded
no_bounds s = refl

root_of_lem : (size : ℕ) (t : Tree) (h b : List ℕ) → (state_of size t h b).root ≡ t.root
unfolding state_of
root_of_lem size t h b = refl

module _ (image : List ℕ) (l : Lent) (t₀ : Tree) (h0 b0 : List ℕ) (n : ℕ) where
  pub hand_start : Ready l.size l.slots t₀.used h0 b0 → trusted (lent_of image l) (state_of l.size t₀ h0 b0) ≡ true
      → Handing image l t₀ h0 b0 n t₀ h0 b0 n
  hand_start r tr = record { ready = r; trust = tr; more = omega arith; follows = follows_same l.size l.slots t₀.used h0 b0; rest = refl }

  module _ (t : Tree) (h b : List ℕ) (d : ℕ) (k : Handing image l t₀ h0 b0 n t h b d) where
    abbrev s : State
    s = state_of l.size t h b

    abbrev m : lent.Lent
    m = lent_of image l

    pub hand_ends : d ≤ 0 → edited_of l.size h b (Ok t) ≡ hand_down n (lent_of image l) (state_of l.size t₀ h0 b0)
    unfolding edited_of hand_down
    hand_ends u = let z : d ≡ 0 = omega arith in ap (λ (x : ℕ). hand_down x m s) (sym z) ∙ k.rest

    module _ (hd : 0 < d) (only : Bool) (eo : only ≡ has_only_child (state_of l.size t h b)) where
      pub hand_stops : not only ≡ true → edited_of l.size h b (Ok t) ≡ hand_down n (lent_of image l) (state_of l.size t₀ h0 b0)
      unfolding edited_of
      hand_stops q = sym (no_turn m s d hd (sym eo ∙ not-true only q)) ∙ k.rest

      module _ (q : not only ≡ false) (h1 b1 : List ℕ) (got : std.Result (Tree × ℕ) Refusal)
          (eg : loaded_of l.size h1 b1 got ≡ load_child (lent_of image l) (state_of l.size t h b) (bounds_of (state_of l.size t h b)
          (record { lower = None; upper = None })) t.root 0) where
        one : has_only_child s ≡ true
        one = sym eo ∙ not-false only q

        loads : loaded_of l.size h1 b1 got ≡ load_child m s unbounded s.root 0
        loads = eg ∙ ap₂ (λ bs r. load_child m s bs r 0) (no_bounds s) (sym (root_of_lem l.size t h b))

        pub hand_refused : (x : Refusal) → got ≡ Err x → edited_of l.size h1 b1 (Err x)
            ≡ hand_down n (lent_of image l) (state_of l.size t₀ h0 b0)
        unfolding edited_of loaded_of
        hand_refused x e = sym (load_refused m s d hd one (number_of x) (ap (loaded_of l.size h1 b1) (sym e) ∙ loads)) ∙ k.rest

        pub hand_on : Follows l.size l.slots t.used h b h1 b1 → Follows l.size l.slots t₀.used h0 b0 h1 b1
        hand_on f = follows_on l.size l.slots t₀.used t.used h0 b0 h b h1 b1 k.follows f k.more

        module _ (u : Tree) (c : ℕ) (e : got ≡ Ok (u, c)) where
          abbrev a : At
          a = record { state = state_of l.size u h1 b1; slot = c }

          at_is : ok a ≡ load_child m s unbounded s.root 0
          unfolding loaded_of
          at_is = ap (loaded_of l.size h1 b1) (sym e) ∙ loads

          trust : trusted m (state_of l.size u h1 b1) ≡ true
          trust = loaded_trust m s a k.trust at_is

          pub hand_sized : Sized u.info
          hand_sized = unfold state_of in trusted_sized m (state_of l.size u h1 b1) trust

          pub hand_child : c < u.used
          hand_child = omega (arith, child_used m s a k.trust at_is, used_nodes l.size u h1 b1)

          pub hand_apart : c ≡ u.root → ⊥
          hand_apart z = child_apart m s a k.trust at_is (z ∙ sym (root_of_lem l.size u h1 b1))

          pub hand_root : u.root < u.used
          hand_root = omega (arith, trusted_root m (state_of l.size u h1 b1) trust, used_nodes l.size u h1 b1, root_of_lem l.size u h1 b1)

          pub hand_more : t₀.used ≤ u.used
          hand_more = omega (
            arith,
            k.more,
            (load_keeps m s unbounded s.root 0 a (sym at_is)).more,
            used_nodes l.size t h b,
            used_nodes
                l.size u h1 b1,
          )

          module _ (fit : Bool) (ef : fit ≡ fits u.info true (node_at (state_of l.size u h1 b1) c).level (node_at (state_of
              l.size u h1 b1) c).entries) where
            pub hand_unfit : not fit ≡ true → edited_of l.size h1 b1 (Ok u) ≡ hand_down n (lent_of image l) (state_of l.size t₀ h0 b0)
            unfolding edited_of
            hand_unfit z = sym (turn_unfit m s d hd one a at_is (unfold state_of in sym ef ∙ not-true fit z)) ∙ k.rest

            module _ (z : not fit ≡ false) where
              fits_so : fits (state_of l.size u h1 b1).info true (node_at (state_of l.size u h1 b1) c).level (node_at (state_of
                  l.size u h1 b1) c).entries ≡ true
              fits_so = unfold state_of in sym ef ∙ not-false fit z

              pub hand_count : u.info.node_count ≡ 0 → edited_of l.size h1 b1 (Err is.Count)
                  ≡ hand_down n (lent_of image l) (state_of l.size t₀ h0 b0)
              unfolding edited_of
              hand_count y = sym (turn_count m s d hd one a at_is fits_so (unfold state_of in y)) ∙ k.rest

              pub hand_next : (u.info.node_count ≡ 0 → ⊥) → Follows l.size l.slots t.used h b h1 b1 → (h2 b2 : List ℕ) (v : Tree)
                  → Handed l.size l.slots u h1 b1 h2 b2 c v → Handing image l t₀ h0 b0 n v h2 b2 (d - 1)
              hand_next y f h2 b2 v g =
                  record {
                    ready = g.ready;
                    trust = rw g.state (handed_trust m s a k.trust at_is one fits_so (unfold state_of in y));
                    more = omega (arith, hand_more, g.same);
                    follows = follows_on l.size l.slots t₀.used u.used h0 b0 h1 b1 h2 b2 (hand_on f) g.follows hand_more;
                    rest = rw g.state (sym (turn_down m s d hd one a at_is fits_so (unfold state_of in y)) ∙ k.rest);
                  }

pub ruleset hand_down_laws = (hand_start, hand_ends, hand_on)
