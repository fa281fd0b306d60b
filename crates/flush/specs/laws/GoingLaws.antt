-- Laws of the walk over a node's children, then the node. Assumes nothing.
use Rattle.std.specs.Prelude.{◌≡◌, refl, drop, Option}
use Rattle.std.proofs.Math.Path.{sym, ap}
use Rattle.std.proofs.Common.{◌∙◌, drop_of_length-le, get_or-drop}
use mathlib.Core.List.{List, [], ◌∷◌}
use Prim.Native.Nat.{ℕ, suc, ◌+◌, ◌-◌, ◌≤◌, ◌<◌}
use native.Mathlib.Omega.{arith}
use Rattle.std.proofs.Math.ListN.{length, get_or}
use Rattle.tree.specs.Format.{Entry, Val, ghost, leaf, disk, mem, val_at, MemNode, records_length, entry_of, entries_of}
use Rattle.tree.specs.State.{State, node_at}
use Rattle.tree.specs.Workspace.{state_of}
use Rattle.tree.specs.internal.Bank.{node_in}
use Rattle.tree.specs.internal.Kids.{slots_of, kid_means}
use Rattle.tree.specs.laws.base.NodeSlots.{entries_head, length_entries}
use Rattle.tree.specs.laws.state.State.{by_val}
use Rattle.tree.specs.laws.slots.Tree.{node_in_lem}
use Rattle.tree.specs.declared.editor.Tree.{Tree}
use Rattle.flush.specs.Space.{space_of}
use Rattle.flush.specs.Flush.{Flushing, write_node, write_kids, write_from}
use Rattle.flush.specs.declared.flush.Flushing as code
use Rattle.flush.specs.internal.Walk.{flushing_of, Alive, Standing, Spaced, Fitting, Left, Going}
use Rattle.flush.specs.laws.WalkLaws.{Grows, grows_on, grows_node, grows_kids, grows_from, fitting_less, node_alike, write_alike}
use Rattle.flush.specs.laws.StepLaws.{left_same, left_on, kept_on, spaced_same, fitting_same}
use Rattle.std.specs.Prelude.{Some, None}

-- ---- one child among the records

one_slot : (v : Val) (c : ℕ) → slots_of v ≡ c ∷ [] → v ≡ mem c
unfolding slots_of
one_slot ghost c e = absurd (omega (arith, ap length e))
one_slot (leaf b) c e = absurd (omega (arith, ap length e))
one_slot (disk r) c e = absurd (omega (arith, ap length e))
one_slot (mem d) c e = ap mem (ap (λ (l : List ℕ). get_or l 0 0) e)

no_slot : (v : Val) (c : ℕ) → slots_of v ≡ [] → v ≡ mem c → ⊥
unfolding slots_of
no_slot v c e q = let z : ◌≡◌ {A = List ℕ} (c ∷ []) [] = rw q at e in omega (arith, ap length z)

kid_in : (k : Option ℕ) (kid : ℕ) (v : Val) → kid_means k ≡ slots_of v → k ≡ Some kid → v ≡ mem kid
unfolding kid_means
kid_in k kid v e h = one_slot v kid (sym e ∙ rw h)

kid_out : (k : Option ℕ) (v : Val) → kid_means k ≡ slots_of v → k ≡ None → slots_of v ≡ []
unfolding kid_means
kid_out k v e h = sym e ∙ rw h

kids_in : (f : ℕ → Flushing → Flushing) (e : Entry) (es : List Entry) (w : Flushing) (c : ℕ) → e.value ≡ mem c → write_kids f (e ∷ es) w
    ≡ write_kids f es (f c w)
unfolding write_kids
kids_in f e es w c q = rw q

kids_out : (f : ℕ → Flushing → Flushing) (e : Entry) (es : List Entry) (w : Flushing) → slots_of e.value ≡ [] → write_kids f (e ∷ es) w
    ≡ write_kids f es w
unfolding write_kids
kids_out f e es w q =
    by_val e.value (λ p. rw p) (λ b p. rw p) (λ r p. rw p) (λ c p. absurd (no_slot e.value c q p))

-- ---- a leaf

leaf_is : (d : ℕ) (s : State) (xid n : ℕ) (w : Flushing) → d ≡ 0 → write_node s xid n w ≡ write_from d s xid n w
unfolding write_from
leaf_is d s xid n w e = rw e

pub leaf_fits : (a b c d : ℕ) (s : State) (xid n : ℕ) (w : Flushing) → d ≡ 0 → Fitting a b c (write_from d s xid n w)
    → Fitting a b c (write_node s xid n w)
leaf_fits a b c d s xid n w e f = rw (leaf_is d s xid n w e) f

pub leaf_wrote : (d : ℕ) (s : State) (xid n : ℕ) (w : Flushing) → d ≡ 0 → (x : Flushing) → x ≡ write_node s xid n w → x ≡ write_from d s xid n w
leaf_wrote d s xid n w e x q = q ∙ leaf_is d s xid n w e

-- ---- the records of a node that is no leaf

module _ (size n d : ℕ) (t : Tree) (heads bytes part : List ℕ) (count : ℕ) (nz : d ≡ 0 → ⊥)
    (en : (node_at (state_of size t heads bytes) n).entries ≡ entries_of count part) where
  whole_deep : (xid : ℕ) (w : Flushing) (e : ℕ) → d ≡ suc e → write_node (state_of size t heads bytes) xid n (write_kids
      (write_from (d - 1) (state_of size t heads bytes) xid) (entries_of count part) w) ≡ write_from d (state_of size t heads bytes) xid n w
  unfolding write_from
  whole_deep xid w e z = let k : suc e - 1 ≡ e = omega arith in rw (← en, z, k)

  -- children first, then the node
  whole_is : (xid : ℕ) (w : Flushing) → write_node (state_of size t heads bytes) xid n
      (write_kids (write_from (d - 1) (state_of size t heads bytes) xid)
      (entries_of count part) w) ≡ write_from d (state_of size t heads bytes) xid n w
  whole_is xid w = let y : d ≡ suc (d - 1) = omega (arith, nz) in whole_deep xid w (d - 1) y

-- ---- the loop

module _ (size slots blocks xid n d : ℕ) (t : Tree) (part cs bytes image₀ bm₀ fr₀ heads₀ fs₀ is₀ ps₀ : List ℕ) (w : code.Flushing) (count : ℕ) where
  abbrev s₀ : State
  s₀ = state_of size t heads₀ bytes

  abbrev start : Flushing
  start = flushing_of size t image₀ (space_of bm₀ cs fr₀) heads₀ bytes fs₀ is₀ ps₀ w

  pub go_start : Standing size slots t heads₀ bytes → Spaced size blocks (space_of bm₀ cs fr₀)
      → Going size slots blocks t xid d count 0 part cs bytes image₀ bm₀ fr₀ heads₀ fs₀ is₀ ps₀ w image₀ bm₀ fr₀ heads₀ fs₀ is₀ ps₀ w
  go_start st sp = record {
    rest = refl;
    left = left_same size slots t heads₀ bytes fs₀ is₀ ps₀ w st;
    spaced = sp;
  }

  module _ (i : ℕ) (image bm fr heads fs is ps : List ℕ) (v : code.Flushing)
      (g : Going size slots blocks t xid d count i part cs bytes image₀ bm₀ fr₀ heads₀ fs₀ is₀ ps₀ w image bm fr heads fs is ps v) where
    abbrev now : Flushing
    now = flushing_of size t image (space_of bm cs fr) heads bytes fs is ps v

    module _ (hi : i < count) (at : ℕ) (ea : at ≡ records_length i part) (k : Option ℕ)
        (ek : kid_means k ≡ slots_of (entry_of (drop at part)).value) where
      next_is : drop i (entries_of count part) ≡ entry_of (drop at part) ∷ drop (i + 1) (entries_of count part)
      next_is = entries_head i count at part hi ea

      pub go_skip : k ≡ None
          → Going size slots blocks t xid d count (i + 1) part cs bytes image₀ bm₀ fr₀ heads₀ fs₀ is₀ ps₀ w image bm fr heads fs is ps v
      go_skip h =
          let z = kid_out k (entry_of (drop at part)).value ek h in
          record {
            rest = sym (ap (λ (es : List Entry). write_kids (write_from (d - 1) s₀ xid) es now) next_is
                ∙ kids_out (write_from (d - 1) s₀ xid) (entry_of (drop at part)) (drop (i + 1) (entries_of count part)) now z) ∙ g.rest;
            left = g.left;
            spaced = g.spaced;
          }

      module _ (kid : ℕ) (h : k ≡ Some kid) where
        kid_is : (entry_of (drop at part)).value ≡ mem kid
        kid_is = kid_in k kid (entry_of (drop at part)).value ek h

        -- the walk goes on with the child
        on_is : write_kids (write_from (d - 1) s₀ xid) (drop (i + 1) (entries_of count part)) (write_from (d - 1) s₀ xid kid now)
            ≡ write_kids (write_from (d - 1) s₀ xid) (entries_of count part) start
        on_is =
            sym (ap (λ (es : List Entry). write_kids (write_from (d - 1) s₀ xid) es now) next_is
            ∙ kids_in (write_from (d - 1) s₀ xid) (entry_of (drop at part)) (drop (i + 1) (entries_of count part)) now kid kid_is) ∙ g.rest

        child_is : write_from (d - 1) (state_of size t heads bytes) xid kid now ≡ write_from (d - 1) s₀ xid kid now
        child_is = write_alike size t heads₀ heads bytes g.left.alike (d - 1) xid kid now

        pub go_turn : (image' bm' fr' heads' fs' is' ps' : List ℕ) (v' : code.Flushing)
            → flushing_of size t image' (space_of bm' cs fr') heads' bytes fs' is' ps' v'
            ≡ write_from (d - 1) (state_of size t heads bytes) xid kid (flushing_of size t image (space_of bm cs fr) heads bytes fs is ps v)
            → Left size slots t heads heads' bytes fs fs' is is' ps ps' v v' → Spaced size blocks (space_of bm' cs fr')
            → Going size slots blocks t xid d count (i + 1)
            part cs bytes image₀ bm₀ fr₀ heads₀ fs₀ is₀ ps₀ w image' bm' fr' heads' fs' is' ps' v'
        go_turn image' bm' fr' heads' fs' is' ps' v' e l sp = record {
          rest = ap (write_kids (write_from (d - 1) s₀ xid) (drop (i + 1) (entries_of count part))) (e ∙ child_is) ∙ on_is;
          left = left_on size slots t heads₀ heads heads' bytes fs₀ fs fs' is₀ is is' ps₀ ps ps' w v v' g.left l;
          spaced = sp;
        }

        module _ (nz : d ≡ 0 → ⊥) (en : (node_at (state_of size t heads₀ bytes) n).entries ≡ entries_of count part) (hn : n < t.used) where
          entries_are : (node_in size heads bytes n).entries ≡ entries_of count part
          entries_are =
              sym (ap (λ (m : MemNode). m.entries) (node_in_lem size t heads bytes n hn)) ∙ g.left.alike.entries n ∙ en

          pub go_alive : Alive size t heads bytes kid
          unfolding val_at
          go_alive =
              let z : i + 0 ≡ i = omega arith in
              let q : get_or (entries_of count part) i (record { key = []; value = ghost }) ≡ entry_of (drop at part) =
              sym (get_or-drop i (entries_of count part) 0 (record { key = []; value = ghost })
              ∙ ap (λ (j : ℕ). get_or (entries_of count part) j (record { key = []; value = ghost })) z)
              ∙ ap (λ (es : List Entry). get_or es 0 (record { key = []; value = ghost })) next_is in
              g.left.standing.kids n i kid hn
              (ap (λ (es : List Entry). (get_or es i (record { key = []; value = ghost })).value) entries_are ∙ ap (λ (e : Entry). e.value) q
              ∙ kid_is)

          pub go_fits : (a b c : ℕ) → Fitting a b c (write_from d (state_of size t heads₀ bytes) xid n
              (flushing_of size t image₀ (space_of bm₀ cs fr₀) heads₀ bytes fs₀ is₀ ps₀ w))
              → Fitting a b c (write_from (d - 1) (state_of size t heads bytes) xid kid
              (flushing_of size t image (space_of bm cs fr) heads bytes fs is ps v))
          go_fits a b c f =
              let u : Flushing = write_from (d - 1) s₀ xid kid now in
              let x : Flushing = write_kids (write_from (d - 1) s₀ xid) (entries_of count part) start in
              let p : Grows u (write_kids (write_from (d - 1) s₀ xid) (drop (i + 1) (entries_of count part)) u) =
              grows_kids (write_from (d - 1) s₀ xid) (grows_from (d - 1) s₀ xid) (drop (i + 1) (entries_of count part)) u in
              let p' : Grows u x = rw on_is at p in
              let o : Grows u (write_node s₀ xid n x) = grows_on u x (write_node s₀ xid n x) p' (grows_node s₀ xid n x) in
              let f' : Fitting a b c (write_node s₀ xid n x) = rw (whole_is size n d t heads₀ bytes part count nz en xid start) f in
              rw child_is (fitting_less a b c u (write_node s₀ xid n x) o f')

    -- the end of the loop, and the node
    module _ (nz : d ≡ 0 → ⊥) (en : (node_at (state_of size t heads₀ bytes) n).entries ≡ entries_of count part)
        (al : Alive size t heads₀ bytes n) (hi : count ≤ i) where
      kids_are : now ≡ write_kids (write_from (d - 1) s₀ xid) (entries_of count part) start
      unfolding write_kids
      kids_are =
          let l : length (entries_of count part) ≤ i = omega (arith, length_entries count part) in
          sym (ap (λ (es : List Entry). write_kids (write_from (d - 1) s₀ xid) es now) (drop_of_length-le (entries_of count part) l)) ∙ g.rest

      end_is : write_node (state_of size t heads bytes) xid n now ≡ write_from d s₀ xid n start
      end_is = node_alike size t heads₀ heads bytes xid n now ∙ ap (write_node s₀ xid n) kids_are
          ∙ whole_is size n d t heads₀ bytes part count nz en xid start

      pub end_alive : Alive size t heads bytes n
      end_alive = record {
        used = al.used;
        live = sym (ap (λ (m : MemNode). m.dead) (node_in_lem size t heads bytes n al.used)) ∙ g.left.alike.dead n
            ∙ ap (λ (m : MemNode). m.dead) (node_in_lem size t heads₀ bytes n al.used) ∙ al.live;
      }

      pub end_fits : (a b c : ℕ) → Fitting a b c (write_from d (state_of size t heads₀ bytes) xid n
          (flushing_of size t image₀ (space_of bm₀ cs fr₀) heads₀ bytes fs₀ is₀ ps₀ w))
          → Fitting a b c (write_node (state_of size t heads bytes) xid n (flushing_of size t image (space_of bm cs fr) heads bytes fs is ps v))
      end_fits a b c f = rw end_is f

      pub end_wrote : (x : Flushing) → x ≡ write_node (state_of size t heads bytes) xid n (flushing_of size t image
          (space_of bm cs fr) heads bytes fs is ps v)
          → x ≡ write_from d (state_of size t heads₀ bytes) xid n (flushing_of size t image₀ (space_of bm₀ cs fr₀) heads₀ bytes fs₀ is₀ ps₀ w)
      end_wrote x e = e ∙ end_is

      pub end_left : (heads' fs' is' ps' : List ℕ) (v' : code.Flushing) → Left size slots t heads heads' bytes fs fs' is is' ps ps' v v'
          → Left size slots t heads₀ heads' bytes fs₀ fs' is₀ is' ps₀ ps' w v'
      end_left heads' fs' is' ps' v' l = left_on size slots t heads₀ heads heads' bytes fs₀ fs fs' is₀ is is' ps₀ ps ps' w v v' g.left l

pub ruleset going = (leaf_wrote, leaf_fits, go_skip, end_alive, end_fits, end_wrote, end_left, kept_on, spaced_same, fitting_same)
