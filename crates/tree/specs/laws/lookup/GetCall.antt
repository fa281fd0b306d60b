-- Laws of get as a call: the way, then the leaf; refused, every slot is as it was. Assumes nothing.
use Rattle.std.specs.Prelude.{◌≡◌, List, [], ◌∷◌, ◌++◌, Bool, true, false, not, ◌&&◌, length, eqb}
use Rattle.std.proofs.Math.Path.{refl, sym, ap, ap₂}
use Rattle.std.proofs.Common.{subst, ◌∙◌, arith, length-append}
use Prim.Native.Nat.{ℕ, zero, suc, ◌+◌, ◌-◌, ◌≤◌}
use borrow.Author.Tests.{eq-eqb, not-true, not-false}
use Rattle.node.specs.laws.base.Tests.{by_test, and_split, and_both}
use Rattle.node.specs.Result.{Result, ok, refused, ◌>>◌, check}
use Rattle.node.specs.Order.{keyed_length, keyed}
use Rattle.node.specs.Entry.{Entry, Val, every}
use Rattle.node.specs.Slot.{key_length_holds, value_holds, suit, suits, entry_holds}
use Rattle.node.specs.declared.info.BTreeInfo.{BTreeInfo}
use Rattle.tree.specs.Lent as lent
use Rattle.tree.specs.Lent.{lent_of}
use Rattle.tree.specs.State.{State, node_at}
use Rattle.tree.specs.Workspace.{state_of, workspace_holds, called}
use Rattle.tree.specs.Hold.{lent_holds}
use Rattle.tree.specs.Load.{unbounded}
use Rattle.tree.specs.Lookup as lookup
use Rattle.tree.specs.Trust.{trusted}
use Rattle.tree.specs.Answers.{got_means, got_in, got_output, got_leaves}
use Rattle.tree.specs.internal.Edits.{Trusts}
use Rattle.tree.specs.laws.refusal1.Roomy.{roomy_get}
use Rattle.tree.specs.declared.lent.Lent.{Lent}
use Rattle.tree.specs.internal.Bank.{Ready, ReadyBy, ReadyAfter}
use Rattle.tree.specs.internal.Undo.{Undone}
use Rattle.tree.specs.internal.Steps.{positions}
use Rattle.tree.specs.internal.Way.{nth_step, steps_of, steps_in, walked_of, way_of}
use Rattle.tree.specs.internal.Get.{got_held, held_at, got_at, got_way, GotCalled}
use Rattle.tree.specs.laws.trust.Stands.{Stands, all, trusted_of}
use Rattle.tree.specs.laws.trust.Loads.{WayLoaded, way_loaded, trusted_get}
use Rattle.tree.specs.laws.refusal1.Calls.{trusts_hold, back_hold, looked_trusts}
use Rattle.tree.specs.laws.trust.Edit.{down_leaf}
use Rattle.tree.specs.declared.editor.Tree.{Tree}
use Rattle.tree.specs.declared.way.Way.{Way}
use Rattle.tree.specs.declared.editor.Position as code
use Rattle.std.specs.Prelude as std
use Rattle.std.specs.Prelude.{Ok, Err, Option}
use Rattle.node.specs.declared.refusal.Refusal.{Refusal}
use Rattle.node.specs.declared.refusal.Refusal.TheVariants as is
use Rattle.tree.specs.declared.get.Copied.{Copied}

-- entries that a leaf can hold are no children
pub rows_suit : (o : ℕ) (t : BTreeInfo) (es : List Entry) → every (entry_holds o t true) es ≡ true → suits true es ≡ true
unfolding suits every entry_holds
rows_suit o t [] h = refl
rows_suit o t (e ∷ es) h =
    let (a, b) = and_split (entry_holds o t true e) (every (entry_holds o t true) es) h in
    let (c, d) = and_split (key_length_holds o t (length e.key) && value_holds t e.value) (suit true e) a in
    and_both (suit true e) (every (suit true) es) d (rows_suit o t es b)

pub steps_long : (way : List code.Position) (k : ℕ) → length (steps_of way k) ≡ k
unfolding steps_of
steps_long way zero = refl
steps_long way (suc k) =
    length-append (steps_of way k) (record { slot = (nth_step way k).slot; child = (nth_step way k).index } ∷ [])
    ∙ (let z = steps_long way k in omega arith)

pub leaf_last : (xs : List lookup.Step) (x : lookup.Step) → lookup.leaf_of (xs ++ x ∷ []) ≡ x.slot
unfolding lookup.leaf_of
leaf_last [] x = refl
leaf_last (y ∷ []) x = refl
leaf_last (y ∷ z ∷ xs) x = leaf_last (z ∷ xs) x

root_is : (size : ℕ) (t : Tree) (h b : List ℕ) → (state_of size t h b).root ≡ t.root
unfolding state_of
root_is size t h b = refl

-- ---- the way, then the leaf

module _ (l : lent.Lent) (size : ℕ) (t : Tree) (h0 b0 : List ℕ) (tr : trusted l (state_of size t h0 b0) ≡ true) (level : ℕ)
    (ev : level ≡ (node_at (state_of size t h0 b0) t.root).level) where
  abbrev s : State
  s = state_of size t h0 b0

  stands : Stands all all s
  stands = (trusted_of l s tr).1

  live_root : (node_at s t.root).dead ≡ false
  live_root = sym (ap (λ (n : ℕ). (node_at s n).dead) (root_is size t h0 b0)) ∙ stands.root

  pub way_low : level ≤ 32
  way_low = rw ev (stands.deep t.root live_root)

  module _ (key out h b : List ℕ) (r : std.Result Way Refusal)
      (er : way_of size h b r ≡ lookup.way_from level l (state_of size t h0 b0) unbounded t.root key) where
    pub way_is : lookup.way l s key ≡ way_of size h b r
    unfolding lookup.way
    way_is =
        ap₂ (λ (n d : ℕ). lookup.way_from d l s unbounded n key) (root_is size t h0 b0)
        (ap (λ (n : ℕ). (node_at s n).level) (root_is size t h0 b0) ∙ sym ev) ∙ sym er

    pub get_refused : (x : Refusal) → r ≡ Err x → got_means size h b out (Err x) ≡ got_way l (state_of size t h0 b0) (length out) key
    unfolding got_means got_way way_of
    get_refused x e = sym (rw (way_is, e))

    pub get_refused_same : (x : Refusal) → r ≡ Err x → out ≡ got_output out (got_way l (state_of size t h0 b0) (length out) key)
    unfolding got_output got_way way_of
    get_refused_same x e = sym (rw (way_is, e))

    module _ (w : Way) (e : r ≡ Ok w) where
      abbrev s' : State
      s' = state_of size w.tree h b

      abbrev ps : List lookup.Step
      ps = steps_in (positions w.steps)

      pub arrives : way_of size h b r ≡ ok (record { state = s'; steps = ps })
      unfolding way_of walked_of
      arrives = rw e

      loads : WayLoaded l all all s t.root s' ps
      loads = (way_loaded level l all all s unbounded t.root key stands live_root (sym ev)).at (record { state = s'; steps = ps })
          (sym er ∙ arrives)

      long : length (positions w.steps) ≡ 1 + length loads.rest
      long = let z = ap length loads.steps in omega (arith, steps_long (positions w.steps) (length (positions w.steps)))

      pub get_some : 1 ≤ length (positions w.steps)
      get_some = omega (arith, long)

      leaf_lem : lookup.leaf_of ps ≡ (nth_step (positions w.steps) (length (positions w.steps) - 1)).slot
      unfolding steps_of
      leaf_lem =
          let z : length (positions w.steps) ≡ suc (length (positions w.steps) - 1) = omega (arith, long) in
          ap (λ (k : ℕ). lookup.leaf_of (steps_of (positions w.steps) k)) z
          ∙ leaf_last (steps_of (positions w.steps) (length (positions w.steps) - 1))
          (record {
            slot = (nth_step (positions w.steps) (length (positions w.steps) - 1)).slot;
            child = (nth_step (positions w.steps) (length (positions w.steps) - 1)).index;
          })

      module _ (n : ℕ) (en : n ≡ (nth_step (positions w.steps) (length (positions w.steps) - 1)).slot) where
        leaf_is : lookup.leaf_of ps ≡ n
        leaf_is = leaf_lem ∙ sym en

        pub get_suits : suits true (node_at (state_of size w.tree h b) n).entries ≡ true
        get_suits =
            let (dead, low) = down_leaf s' ps loads.down in
            let q = loads.loaded.stands.rows (lookup.leaf_of ps) dead in
            let u : eqb (node_at s' (lookup.leaf_of ps)).level 0 ≡ true = eq-eqb (node_at s' (lookup.leaf_of ps)).level 0 low in
            ap (λ (j : ℕ). suits true (node_at s' j).entries) (sym leaf_is) ∙ rows_suit s'.order s'.info (node_at s' (lookup.leaf_of ps)).entries
            (rw u at q)

        found_is : got_way l s (length out) key ≡ got_at s' (length out) n key
        unfolding got_way got_at held_at
        found_is = rw (way_is, arrives, leaf_is, loads.loaded.loads.order)

        pub get_found : (y : Result (lookup.Got Val)) → y ≡ got_at (state_of size w.tree h b) (length out) n key
            → y ≡ got_way l (state_of size t h0 b0) (length out) key
        get_found y q = q ∙ sym found_is

        pub get_found_out : (o : List ℕ) → o ≡ got_output out (got_at (state_of size w.tree h b) (length out) n key)
            → o ≡ got_output out (got_way l (state_of size t h0 b0) (length out) key)
        get_found_out o q = q ∙ ap (got_output out) (sym found_is)

      pub get_ready : (slots : ℕ) → ReadyBy (λ w. w.tree) size slots h b r → Ready size slots w.tree.used h b
      get_ready slots q = rw e at q

-- ---- get as a call: 12 first, marks cleared

module _ (l : lent.Lent) (size : ℕ) (t : Tree) (h0 b0 key : List ℕ) (k : Bool) (ek : k ≡ keyed_length t.order.code (length key)) where
  keyed_is : keyed (state_of size t h0 b0).order key ≡ k
  unfolding state_of keyed
  keyed_is = sym ek

  pub in_argument : (out : List ℕ) → k ≡ false → got_means size h0 b0 out (Err is.Argument) ≡ lookup.get_in l (state_of size t h0 b0)
      (length out) key
  unfolding got_means lookup.get_in
  in_argument out n = sym (rw (keyed_is, n))

  pub in_argument_same : (out : List ℕ) → k ≡ false → out ≡ got_output out (lookup.get_in l (state_of size t h0 b0) (length out) key)
  unfolding got_output lookup.get_in
  in_argument_same out n = sym (rw (keyed_is, n))

  module _ (n : k ≡ true) (room : ℕ) (h b : List ℕ) (es : state_of size t h b ≡ state_of size t h0 b0) where
    in_is : lookup.get_in l (state_of size t h0 b0) room key ≡ got_way l (state_of size t h0 b0) room key
    unfolding lookup.get_in got_way got_held
    in_is = rw (keyed_is, n)

    pub way_in : got_way l (state_of size t h b) room key ≡ lookup.get_in l (state_of size t h0 b0) room key
    way_in = ap (λ (s : State). got_way l s room key) es ∙ sym in_is

    pub in_output : (o out : List ℕ) → o ≡ got_output out (got_way l (state_of size t h b) room key)
        → o ≡ got_output out (lookup.get_in l (state_of size t h0 b0) room key)
    in_output o out q = q ∙ ap (got_output out) way_in

-- ---- what get leaves

module _ (image : List ℕ) (l : Lent) (t : Tree) (h b : List ℕ) (c : Trusts image l t h b) (h' b' : List ℕ) where
  module _ (key out : List ℕ) (room : ℕ) (g : std.Result (Tree × Option Copied) Refusal)
      (e : got_means l.size h' b' out g ≡ lookup.get_in (lent_of image l) (state_of l.size t h b) room key)
      (r : ReadyAfter l.size l.slots h' b' g) where
    found_trusts : (u : Tree) (v : List Val) → ok (record { state = state_of l.size u h' b'; answer = v }) ≡ got_means l.size h' b' out g
        → Ready l.size l.slots u.used h' b' → Trusts image l u h' b'
    unfolding lent_of
    found_trusts u v q y =
        looked_trusts image l u h' b' v _ (trusted_get (lent_of image l) (state_of l.size t h b) room key c.trust)
        (roomy_get (lent_of image l) (state_of l.size t h b) room key c.trust c.roomy) (q ∙ e) y

    pub got_trusts : (u : Tree) (v : Option Copied) → g ≡ Ok (u, v) → Trusts image l u h' b'
    unfolding got_means
    got_trusts u v q = found_trusts u _ (ap (got_means l.size h' b' out) (sym q)) (subst (ReadyAfter l.size l.slots h' b') q r)

  pub left_of_lem : (g : std.Result (Tree × Option Copied) Refusal) → GotCalled image l t h b h' b' g → got_leaves l.size l.slots t h b h' b' g
  left_of_lem (Err x) k = (k.0, back_hold image l t h b c h' b' k.0 k.1)
  left_of_lem (Ok (u, v)) k = trusts_hold image l u h' b' k

-- undone where it is refused: a refusal is the same whatever the slots hold
module _ (l : Lent) (t : Tree) (h0 b0 h2 b2 h3 b3 out : List ℕ) where
  pub got_undone : (g : std.Result (Tree × Option Copied) Refusal) → Undone l t h0 b0 h2 b2 h3 b3 g
      → got_means l.size h3 b3 out g ≡ got_means l.size h2 b2 out g
  unfolding got_means
  got_undone (Err x) u = refl
  got_undone (Ok v) u = rw (u.0, u.1)

  pub got_left : (image key : List ℕ) (room : ℕ) (g : std.Result (Tree × Option Copied) Refusal) → Trusts image l t h0 b0
      → Undone l t h0 b0 h2 b2 h3 b3 g
      → got_means l.size h3 b3 out g ≡ lookup.get_in (lent_of image l) (state_of l.size t h0 b0) room key
      → ReadyAfter l.size l.slots h2 b2 g → GotCalled image l t h0 b0 h3 b3 g
  got_left image key room (Err x) c u e r = u
  got_left image key room (Ok (v, y)) c u e r = got_trusts image l t h0 b0 c h3 b3 key out room (Ok (v, y)) e (rw (u.0, u.1) r) v y refl

-- after a refused get every call answers as if there had been none
pub refused_none : {A : Type 0} (size slots : ℕ) (t : Tree) (heads bytes heads' bytes' : List ℕ) (x : Refusal)
    → got_leaves size slots t heads bytes heads' bytes' (Err x) → (f : State → Result A)
    → called size slots t heads' bytes' f ≡ called size slots t heads bytes f
unfolding called
refused_none size slots t heads bytes heads' bytes' x c f = rw (c.1, c.0)

-- ---- 1 first

module _ (image : List ℕ) (l : Lent) (t : Tree) (h0 b0 : List ℕ) (a : Bool)
    (ea : a ≡ workspace_holds l.size l.slots t.used h0 b0 && lent_holds (lent_of image l) (state_of l.size t h0 b0)) where
  abbrev space : Bool
  space = workspace_holds l.size l.slots t.used h0 b0

  abbrev numbers : Bool
  numbers = lent_holds (lent_of image l) (state_of l.size t h0 b0)

  call_is : (room : ℕ) (key : List ℕ) → got_in (lent_of image l) t h0 b0 room key ≡
      (check 1 space >> (check 1 numbers >> lookup.get_in (lent_of image l) (state_of l.size t h0 b0) room key))
  unfolding got_in called lookup.get lent_of
  call_is room key = refl

  lent_no : not a ≡ true → (room : ℕ) (key : List ℕ) → got_in (lent_of image l) t h0 b0 room key ≡ refused 1
  lent_no n room key =
      let z : space && numbers ≡ false = sym ea ∙ not-true a n in
      by_test space
      (λ u. let v : numbers ≡ false = rw u at z in call_is room key ∙ rw (u, v))
      (λ u. call_is room key ∙ rw u)

  pub get_lent : not a ≡ true → (out key : List ℕ) → got_means l.size h0 b0 out (Err is.Lent) ≡ got_in (lent_of image l) t h0 b0
      (length out) key
  unfolding got_means
  get_lent n out key = sym (lent_no n (length out) key)

  pub get_lent_same : not a ≡ true → (out key : List ℕ) → out ≡ got_output out (got_in (lent_of image l) t h0 b0 (length out) key)
  unfolding got_output
  get_lent_same n out key = sym (ap (got_output out) (lent_no n (length out) key))

  module _ (n : not a ≡ false) where
    both : (space ≡ true) × (numbers ≡ true)
    both = and_split space numbers (sym ea ∙ not-false a n)

    lent_yes : (room : ℕ) (key : List ℕ) → got_in (lent_of image l) t h0 b0 room key ≡ lookup.get_in (lent_of image l)
        (state_of l.size t h0 b0) room key
    lent_yes room key = call_is room key ∙ rw (both.0, both.1)

    pub get_answer : (room : ℕ) (key : List ℕ) (y : Result (lookup.Got Val)) → y ≡ lookup.get_in (lent_of image l) (state_of l.size t h0 b0) room key
        → y ≡ got_in (lent_of image l) t h0 b0 room key
    get_answer room key y q = q ∙ sym (lent_yes room key)

    pub get_output : (room : ℕ) (key o out : List ℕ) → o ≡ got_output out (lookup.get_in (lent_of image l) (state_of l.size t h0 b0) room key)
        → o ≡ got_output out (got_in (lent_of image l) t h0 b0 room key)
    get_output room key o out q = q ∙ ap (got_output out) (sym (lent_yes room key))

pub ruleset get_laws = (left_of_lem, get_lent, get_lent_same, get_answer, get_output)

pub ruleset get_down_laws = (in_argument, in_argument_same, way_in, in_output, got_undone, got_left)

pub ruleset get_way_laws = (get_refused, way_low, get_refused_same, get_some, get_suits, get_found)
