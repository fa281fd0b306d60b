-- Laws of floor as a call: the lookup, then the record; refused, every slot is as it was. Assumes nothing.
use Rattle.std.specs.Prelude.{◌≡◌, List, Bool, true, false, not, ◌&&◌, ℕ, ◌*◌, length, leb}
use Rattle.std.proofs.Math.Path.{refl, sym, ap}
use Rattle.std.proofs.Common.{subst, ◌∙◌, arith}
use borrow.Author.Tests.{le-leb, not-true, not-false}
use Rattle.node.specs.Refusals as refusal
use Rattle.node.specs.Result.{Result, ok, refused, ◌>>=◌, ◌>>◌, check}
use Rattle.node.specs.Order.{keyed_length, keyed}
use Rattle.node.specs.Entry.{Entry}
use Rattle.node.specs.Records.{records_of}
use Rattle.node.specs.laws.base.Tests.{by_test, and_split}
use Rattle.node.specs.laws.base.Results.{Holds, holds_ok, holds_bind, holds_check}
use Rattle.tree.specs.Lent as lent
use Rattle.tree.specs.Lent.{lent_of}
use Rattle.tree.specs.State.{State, node_at}
use Rattle.tree.specs.Hold.{lent_holds}
use Rattle.tree.specs.Load as load
use Rattle.tree.specs.Lookup as lookup
use Rattle.tree.specs.Trust.{trusted}
use Rattle.tree.specs.Workspace.{state_of, workspace_holds, called}
use Rattle.tree.specs.Answers.{record_in, floor_means, floored_in, floored_output, floored_leaves}
use Rattle.tree.specs.internal.Bank.{Ready, ReadyAfter}
use Rattle.tree.specs.internal.Undo.{Undone}
use Rattle.tree.specs.internal.Room.{Roomy}
use Rattle.tree.specs.internal.Edits.{Trusts}
use Rattle.tree.specs.internal.Tree.{bound_of, bounds_of}
use Rattle.tree.specs.internal.Floor.{none_in, entry_in, got_last, last_means, floored_of, floor_way, FloorCalled}
use Rattle.tree.specs.laws.lookup.GetLeaf.{splice_none}
use Rattle.tree.specs.laws.trust.Loads.{trusted_floor}
use Rattle.tree.specs.laws.room.Way.{roomy_floor}
use Rattle.tree.specs.laws.refusal1.Calls.{trusts_hold, back_hold, looked_trusts}
use Rattle.tree.specs.declared.lent.Lent.{Lent}
use Rattle.tree.specs.declared.editor.Tree.{Tree}
use Rattle.tree.specs.declared.editor.Position.{Position}
use Rattle.std.specs.Prelude as std
use Rattle.std.specs.Prelude.{Ok, Err, Some, None, Option}
use Rattle.node.specs.declared.refusal.Refusal.{Refusal}
use Rattle.node.specs.declared.refusal.Refusal.TheVariants as is

-- ---- the lookup, then the record

module _ (l : lent.Lent) (size : ℕ) (t : Tree) (h0 b0 : List ℕ) (level : ℕ) (ev : level ≡ (node_at (state_of size t h0 b0) t.root).level)
    (key h1 b1 : List ℕ) (r : std.Result (Tree × Option Position) Refusal)
    (er : last_means size h1 b1 r ≡ lookup.floor_from level l (state_of size t h0 b0)
    (bounds_of (state_of size t h0 b0) (record { lower = None; upper = None })) t.root key) where
  lookup_is : lookup.floor_from (node_at (state_of size t h0 b0) (state_of size t h0 b0).root).level l (state_of size t h0 b0) load.unbounded
      (state_of size t h0 b0).root key ≡ last_means size h1 b1 r
  unfolding state_of bounds_of bound_of load.unbounded
  lookup_is = ap (λ (d : ℕ). lookup.floor_from d l (state_of size t h0 b0) load.unbounded t.root key) (sym ev) ∙ sym er

  way_is : (room : ℕ) → floor_way l (state_of size t h0 b0) room key ≡ (last_means size h1 b1 r >>= floored_of room)
  unfolding floor_way
  way_is room = ap (λ (x : Result (lookup.Got Entry)). x >>= floored_of room) lookup_is

  module _ (out : List ℕ) where
    pub way_refused : (x : Refusal) → r ≡ Err x → floor_means size h1 b1 out (Err x) ≡ floor_way l (state_of size t h0 b0) (length out) key
    unfolding floor_means last_means
    way_refused x e = sym (way_is (length out) ∙ rw e)

    pub way_refused_same : (x : Refusal) → r ≡ Err x → out ≡ floored_output out (floor_way l (state_of size t h0 b0) (length out) key)
    unfolding floored_output last_means
    way_refused_same x e = sym (ap (floored_output out) (way_is (length out)) ∙ rw e)

    module _ (v : Tree) (f : Option Position) (e : r ≡ Ok (v, f)) where
      found_is : floor_way l (state_of size t h0 b0) (length out) key ≡ floored_of (length out) (got_last (state_of size v h1 b1) f)
      unfolding last_means
      found_is = way_is (length out) ∙ rw e

      none_is : f ≡ None → floor_way l (state_of size t h0 b0) (length out) key ≡ ok (none_in (state_of size v h1 b1))
      unfolding floored_of got_last none_in records_of
      none_is q = found_is ∙ rw (q, le-leb 0 (length out) (omega arith))

      pub way_none : f ≡ None → floor_means size h1 b1 out (Ok (v, None)) ≡ floor_way l (state_of size t h0 b0) (length out) key
      unfolding floor_means record_in none_in
      way_none q = sym (none_is q)

      pub way_none_same : f ≡ None → out ≡ floored_output out (floor_way l (state_of size t h0 b0) (length out) key)
      unfolding floored_output none_in records_of
      way_none_same q = sym (ap (floored_output out) (none_is q) ∙ splice_none out)

      module _ (x : Position) (q : f ≡ Some x) where
        entry_is : floor_way l (state_of size t h0 b0) (length out) key ≡ floored_of (length out) (entry_in (state_of size v h1 b1) x.slot x.index)
        unfolding got_last
        entry_is = found_is ∙ rw q

        pub way_found : (y : Result (lookup.Got Entry)) → y ≡ floored_of (length out) (entry_in (state_of size v h1 b1) x.slot x.index)
            → y ≡ floor_way l (state_of size t h0 b0) (length out) key
        way_found y g = g ∙ sym entry_is

        pub way_found_out : (o : List ℕ) → o ≡ floored_output out (floored_of (length out) (entry_in (state_of size v h1 b1) x.slot x.index))
            → o ≡ floored_output out (floor_way l (state_of size t h0 b0) (length out) key)
        way_found_out o g = g ∙ ap (floored_output out) (sym entry_is)

-- ---- 12 first, marks cleared

module _ (l : lent.Lent) (size : ℕ) (t : Tree) (h0 b0 key : List ℕ) (k : Bool) (ek : k ≡ keyed_length t.order.code (length key)) where
  keyed_is : keyed (state_of size t h0 b0).order key ≡ k
  unfolding state_of keyed
  keyed_is = sym ek

  pub in_argument : (out : List ℕ) → k ≡ false → floor_means size h0 b0 out (Err is.Argument) ≡ lookup.floor_in l (state_of size t h0 b0)
      (length out) key
  unfolding floor_means lookup.floor_in
  in_argument out n = sym (rw (keyed_is, n))

  pub in_argument_same : (out : List ℕ) → k ≡ false → out ≡ floored_output out (lookup.floor_in l (state_of size t h0 b0) (length out) key)
  unfolding floored_output lookup.floor_in
  in_argument_same out n = sym (rw (keyed_is, n))

  module _ (n : k ≡ true) (room : ℕ) (h b : List ℕ) (es : state_of size t h b ≡ state_of size t h0 b0) where
    in_is : lookup.floor_in l (state_of size t h0 b0) room key ≡ floor_way l (state_of size t h0 b0) room key
    unfolding lookup.floor_in floor_way floored_of
    in_is = rw (keyed_is, n)

    pub way_in : floor_way l (state_of size t h b) room key ≡ lookup.floor_in l (state_of size t h0 b0) room key
    way_in = ap (λ (s : State). floor_way l s room key) es ∙ sym in_is

    pub in_output : (o out : List ℕ) → o ≡ floored_output out (floor_way l (state_of size t h b) room key)
        → o ≡ floored_output out (lookup.floor_in l (state_of size t h0 b0) room key)
    in_output o out q = q ∙ ap (floored_output out) way_in

-- ---- what floor leaves

-- what floor leaves has room
roomy_in : (l : lent.Lent) (s : State) (room : ℕ) (k : List ℕ) → trusted l s ≡ true → Roomy (2 * l.size) s
    → Holds (λ g. Roomy (2 * l.size) g.state) (lookup.floor_in l s room k)
unfolding lookup.floor_in
roomy_in l s room k h r =
    holds_check refusal.argument (keyed s.order k) _ λ a.
    holds_bind (lookup.floor_from (node_at s s.root).level l s load.unbounded s.root k) _ λ g e.
    holds_check refusal.output (leb (length (records_of g.answer)) room) (ok g) λ b. holds_ok ((roomy_floor l s k h r).at g e)

module _ (image : List ℕ) (l : Lent) (t : Tree) (h b : List ℕ) (c : Trusts image l t h b) (h' b' : List ℕ) where
  module _ (key out : List ℕ) (room : ℕ) (g : std.Result (Tree × Option ℕ) Refusal)
      (e : floor_means l.size h' b' out g ≡ lookup.floor_in (lent_of image l) (state_of l.size t h b) room key)
      (r : ReadyAfter l.size l.slots h' b' g) where
    found_trusts : (u : Tree) (v : List Entry) → ok (record { state = state_of l.size u h' b'; answer = v }) ≡ floor_means l.size h' b' out g
        → Ready l.size l.slots u.used h' b' → Trusts image l u h' b'
    unfolding lent_of
    found_trusts u v q y =
        looked_trusts image l u h' b' v _ (trusted_floor (lent_of image l) (state_of l.size t h b) room key c.trust)
        (roomy_in (lent_of image l) (state_of l.size t h b) room key c.trust c.roomy) (q ∙ e) y

    pub floor_trusts : (u : Tree) (n : Option ℕ) → g ≡ Ok (u, n) → Trusts image l u h' b'
    unfolding floor_means
    floor_trusts u n q = found_trusts u _ (ap (floor_means l.size h' b' out) (sym q)) (subst (ReadyAfter l.size l.slots h' b') q r)

  pub left_of_lem : (g : std.Result (Tree × Option ℕ) Refusal) → FloorCalled image l t h b h' b' g → floored_leaves l.size l.slots t h b h' b' g
  left_of_lem (Err x) k = (k.0, back_hold image l t h b c h' b' k.0 k.1)
  left_of_lem (Ok (u, n)) k = trusts_hold image l u h' b' k

-- undone where it is refused: a refusal is the same whatever the slots hold
module _ (l : Lent) (t : Tree) (h0 b0 h2 b2 h3 b3 out : List ℕ) where
  pub floor_undone : (g : std.Result (Tree × Option ℕ) Refusal) → Undone l t h0 b0 h2 b2 h3 b3 g
      → floor_means l.size h3 b3 out g ≡ floor_means l.size h2 b2 out g
  unfolding floor_means
  floor_undone (Err x) u = refl
  floor_undone (Ok v) u = rw (u.0, u.1)

  pub floor_left : (image key : List ℕ) (room : ℕ) (g : std.Result (Tree × Option ℕ) Refusal) → Trusts image l t h0 b0
      → Undone l t h0 b0 h2 b2 h3 b3 g
      → floor_means l.size h3 b3 out g ≡ lookup.floor_in (lent_of image l) (state_of l.size t h0 b0) room key
      → ReadyAfter l.size l.slots h2 b2 g → FloorCalled image l t h0 b0 h3 b3 g
  floor_left image key room (Err x) c u e r = u
  floor_left image key room (Ok (v, n)) c u e r = floor_trusts image l t h0 b0 c h3 b3 key out room (Ok (v, n)) e (rw (u.0, u.1) r) v n refl

-- after a refused floor every call answers as if there had been none
pub refused_none : {A : Type 0} (size slots : ℕ) (t : Tree) (heads bytes heads' bytes' : List ℕ) (x : Refusal)
    → floored_leaves size slots t heads bytes heads' bytes' (Err x) → (f : State → Result A)
    → called size slots t heads' bytes' f ≡ called size slots t heads bytes f
unfolding called
refused_none size slots t heads bytes heads' bytes' x c f = rw (c.1, c.0)

-- ---- 1 first

module _ (image : List ℕ) (l : Lent) (t : Tree) (h0 b0 : List ℕ) (a : Bool)
    (ea : a ≡ workspace_holds l.size l.slots t.used h0 b0 && lent_holds (lent_of image l) (state_of l.size t h0 b0)) where
  abbrev space : Bool
  space = workspace_holds l.size l.slots t.used h0 b0

  abbrev numbers : Bool
  numbers = lent_holds (lent_of image l) (state_of l.size t h0 b0)

  call_is : (room : ℕ) (key : List ℕ) → floored_in (lent_of image l) t h0 b0 room key ≡
      (check 1 space >> (check 1 numbers >> lookup.floor_in (lent_of image l) (state_of l.size t h0 b0) room key))
  unfolding floored_in called lookup.floor lent_of
  call_is room key = refl

  lent_no : not a ≡ true → (room : ℕ) (key : List ℕ) → floored_in (lent_of image l) t h0 b0 room key ≡ refused 1
  lent_no n room key =
      let z : space && numbers ≡ false = sym ea ∙ not-true a n in
      by_test space
      (λ u. let v : numbers ≡ false = rw u at z in call_is room key ∙ rw (u, v))
      (λ u. call_is room key ∙ rw u)

  pub floor_lent : not a ≡ true → (out key : List ℕ) → floor_means l.size h0 b0 out (Err is.Lent) ≡ floored_in (lent_of image l) t h0 b0
      (length out) key
  unfolding floor_means
  floor_lent n out key = sym (lent_no n (length out) key)

  pub floor_lent_same : not a ≡ true → (out key : List ℕ) → out ≡ floored_output out (floored_in (lent_of image l) t h0 b0 (length out) key)
  unfolding floored_output
  floor_lent_same n out key = sym (ap (floored_output out) (lent_no n (length out) key))

  module _ (n : not a ≡ false) where
    both : (space ≡ true) × (numbers ≡ true)
    both = and_split space numbers (sym ea ∙ not-false a n)

    lent_yes : (room : ℕ) (key : List ℕ) → floored_in (lent_of image l) t h0 b0 room key ≡ lookup.floor_in (lent_of image l)
        (state_of l.size t h0 b0) room key
    lent_yes room key = call_is room key ∙ rw (both.0, both.1)

    pub floor_answer : (room : ℕ) (key : List ℕ) (y : Result (lookup.Got Entry))
        → y ≡ lookup.floor_in (lent_of image l) (state_of l.size t h0 b0) room key
        → y ≡ floored_in (lent_of image l) t h0 b0 room key
    floor_answer room key y q = q ∙ sym (lent_yes room key)

    pub floor_output : (room : ℕ) (key o out : List ℕ) → o ≡ floored_output out (lookup.floor_in (lent_of image l) (state_of l.size t h0 b0) room key)
        → o ≡ floored_output out (floored_in (lent_of image l) t h0 b0 room key)
    floor_output room key o out q = q ∙ ap (floored_output out) (sym (lent_yes room key))

pub ruleset floor_laws = (left_of_lem, floor_lent, floor_lent_same, floor_answer, floor_output)

pub ruleset floor_way_laws = (way_refused, way_refused_same, way_none, way_found, way_found_out)

pub ruleset floor_down_laws = (in_argument, in_argument_same, way_in, in_output, floor_undone, floor_left)
