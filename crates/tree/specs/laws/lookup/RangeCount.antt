-- Laws of range as it loads and counts: one for each turn and each way out. Assumes nothing.
use Rattle.std.specs.Prelude.{◌≡◌, refl, List, [], ◌++◌, true, ℕ, zero, suc, ◌+◌, ◌≤◌, length}
use Rattle.std.proofs.Common.{sym, ap, ap₂, ◌∙◌, arith, length-append}
use Rattle.node.specs.Result.{Result, ok, refused, ◌>>=◌}
use Rattle.node.specs.Entry.{Entry}
use Rattle.node.specs.Records.{records_of}
use Rattle.node.specs.laws.base.Results.{Holds, holds_ok, holds_bind, bind_ok, no_answer}
use Rattle.tree.specs.Lent.{Lent}
use Rattle.tree.specs.State.{State, node_at}
use Rattle.tree.specs.Load as load
use Rattle.tree.specs.Load.{child_bounds, load_child}
use Rattle.tree.specs.Lookup.{Got, range_enters, range_kids, range_from}
use Rattle.tree.specs.internal.Range.{Sum, most, at_most, sum_of, plus, Counted, counted, ahead, range_child}
use Rattle.tree.specs.laws.trust.Loads.{Loads, loads_refl, loads_then, load_loads, holds_cond}
use Rattle.tree.specs.laws.lookup.Between.{most_small, most_most, most_both, records_append}

-- ---- what a range loads, whatever the state

pub kids_load : (f : State → load.Bounds → ℕ → Result (Got Entry)) (l : Lent)
    → ((s : State) (bs : load.Bounds) (n : ℕ) → Holds (λ g. Loads l s g.state) (f s bs n))
    → (s : State) (bs : load.Bounds) (n : ℕ) (lo : List ℕ) (hi : List (List ℕ)) (m i : ℕ)
    → Holds (λ g. Loads l s g.state) (range_kids f l s bs n lo hi m i)
unfolding range_kids
kids_load f l r s bs n lo hi zero i = holds_ok (loads_refl l s)
kids_load f l r s bs n lo hi (suc m) i =
    let es : List Entry = (node_at s n).entries in
    holds_cond (range_enters s.order lo hi es i) _ _
    (λ t.
    holds_bind (load_child l s bs n i) _ λ a e.
    holds_bind (f a.state (child_bounds s.order bs es i) a.slot) _ λ g y.
    let q = loads_then l s a.state g.state (load_loads l s bs n i a e) ((r a.state (child_bounds s.order bs es i) a.slot).at g y) in
    holds_bind (range_kids f l g.state bs n lo hi m (suc i)) _ λ h z.
    holds_ok (loads_then l s g.state h.state q ((kids_load f l r g.state bs n lo hi m (suc i)).at h z)))
    (λ t. kids_load f l r s bs n lo hi m (suc i))

pub range_load : (d : ℕ) (l : Lent) (lo : List ℕ) (hi : List (List ℕ)) (s : State) (bs : load.Bounds) (n : ℕ)
    → Holds (λ g. Loads l s g.state) (range_from d l lo hi s bs n)
unfolding range_from
range_load zero l lo hi s bs n = holds_ok (loads_refl l s)
range_load (suc d) l lo hi s bs n = kids_load (range_from d l lo hi) l (λ t cs m. range_load d l lo hi t cs m) s bs n lo hi
    (length (node_at s n).entries) 0

pub child_load : (d : ℕ) (l : Lent) (lo : List ℕ) (hi : List (List ℕ)) (s : State) (bs : load.Bounds) (n i : ℕ)
    → Holds (λ g. Loads l s g.state) (range_child (range_from d l lo hi) l s bs n i)
unfolding range_child
child_load d l lo hi s bs n i =
    let es : List Entry = (node_at s n).entries in
    holds_bind (load_child l s bs n i) _ λ a e.
    record {
      at = λ g y. loads_then l s a.state g.state (load_loads l s bs n i a e)
          ((range_load d l lo hi a.state (child_bounds s.order bs es i) a.slot).at g y);
    }

-- ---- counted: what was accepted

pub record Found (r : Result (Got Entry)) (s : State) (m : Sum) : Type 0 where
  pub got : Got Entry
  pub found : r ≡ ok got
  pub state : got.state ≡ s
  pub sum : sum_of got.answer ≡ m

pub counted_found : (r : Result (Got Entry)) (s : State) (m : Sum) → ok (record { state = s; sum = m }) ≡ counted r → Found r s m
unfolding counted
counted_found r s m e =
    let (g, p, q) = bind_ok r (λ g. ok (record { state = g.state; sum = sum_of g.answer })) (record { state = s; sum = m }) (sym e) in
    let z : ◌≡◌ {A = Counted} (record { state = g.state; sum = sum_of g.answer }) (record { state = s; sum = m }) = cc in
    record { got = g; found = p; state = ap (λ (c : Counted). c.state) z; sum = ap (λ (c : Counted). c.sum) z }

-- ---- sums

most_idem : (a : ℕ) → at_most (at_most a) ≡ at_most a
most_idem a = most_small (at_most a) (most_most a)

most_left : (a b : ℕ) → at_most (at_most a + b) ≡ at_most (a + b)
most_left a b = sym (most_both (at_most a) b) ∙ ap (λ (x : ℕ). at_most (x + at_most b)) (most_idem a) ∙ most_both a b

most_right : (a b : ℕ) → at_most (a + at_most b) ≡ at_most (a + b)
most_right a b = sym (most_both a (at_most b)) ∙ ap (λ (x : ℕ). at_most (at_most a + x)) (most_idem b) ∙ most_both a b

most_three : (a x y z : ℕ) → z ≡ x + y → at_most (a + at_most z) ≡ at_most (at_most (a + at_most x) + at_most y)
most_three a x y z e =
    most_right a z ∙ ap at_most (omega arith) ∙ sym (most_right (a + x) y) ∙ sym (most_left (a + x) (at_most y))
    ∙ ap (λ (k : ℕ). at_most (k + at_most y)) (sym (most_right a x))

plus_both : (a : Sum) (x y : List Entry) → plus a (sum_of (x ++ y)) ≡ plus (plus a (sum_of x)) (sum_of y)
unfolding plus sum_of
plus_both a x y =
    ap₂ (λ (i j : ℕ). record { count = i; length = j })
    (most_three a.count (length x) (length y) (length (x ++ y)) (length-append x y))
    (most_three a.length (length (records_of x)) (length (records_of y)) (length (records_of (x ++ y)))
    (ap length (records_append x y) ∙ length-append (records_of x) (records_of y)))

plus_none : (x : List Entry) → plus (record { count = 0; length = 0 }) (sum_of x) ≡ sum_of x
unfolding plus sum_of
plus_none x = ap₂ (λ (i j : ℕ). record { count = i; length = j }) (most_right 0 (length x) ∙ ap at_most (omega arith))
    (most_right 0 (length (records_of x)) ∙ ap at_most (omega arith))

pub plus_nothing : (a : Sum) → a.count ≤ most → a.length ≤ most → plus a (sum_of []) ≡ a
unfolding plus sum_of records_of
plus_nothing a h k =
    let x : at_most (a.count + at_most 0) ≡ a.count = most_right a.count 0 ∙ ap at_most (omega arith) ∙ most_small a.count h in
    let y : at_most (a.length + at_most 0) ≡ a.length = most_right a.length 0 ∙ ap at_most (omega arith) ∙ most_small a.length k in
    ap₂ (λ (i j : ℕ). record { count = i; length = j }) x y

-- ---- what was counted put before the rest

pub ahead_none : (r : Result (Got Entry)) → ahead (record { count = 0; length = 0 }) (counted r) ≡ counted r
unfolding ahead counted
ahead_none (refused x) = refl
ahead_none (ok g) = ap (λ (m : Sum). ok (record { state = g.state; sum = m })) (plus_none g.answer)

pub ahead_refused : (a : Sum) (y : ℕ) (r : Result (Got Entry)) (k : Got Entry → Result (Got Entry)) → refused y ≡ counted r
    → refused y ≡ ahead a (counted (r >>= k))
unfolding ahead counted
ahead_refused a y (refused x) k e = cc
ahead_refused a y (ok g) k e = no_answer y _ e

pub ahead_more : (a : Sum) (x : List Entry) (r : Result (Got Entry))
    → ahead a (counted (r >>= λ h. ok (record { state = h.state; answer = x ++ h.answer }))) ≡ ahead (plus a (sum_of x)) (counted r)
unfolding ahead counted
ahead_more a x (refused k) = refl
ahead_more a x (ok h) = ap (λ (m : Sum). ok (record { state = h.state; sum = m })) (plus_both a x h.answer)

bind_bind : {A B C : Type 0} (r : Result A) (f : A → Result B) (g : B → Result C) → ((r >>= f) >>= g) ≡ (r >>= λ a. f a >>= g)
bind_bind (refused x) f g = refl
bind_bind (ok a) f g = refl

-- a child that is entered, then the others
pub kids_child : (f : State → load.Bounds → ℕ → Result (Got Entry)) (l : Lent) (s : State) (bs : load.Bounds) (n : ℕ) (lo : List ℕ)
    (hi : List (List ℕ)) (m i : ℕ) → range_enters s.order lo hi (node_at s n).entries i ≡ true → range_kids f l s bs n lo hi (suc m) i
    ≡ (range_child f l s bs n i >>= λ g. range_kids f l g.state bs n lo hi m (suc i)
    >>= λ h. ok (record { state = h.state; answer = g.answer ++ h.answer }))
unfolding range_kids range_child
kids_child f l s bs n lo hi m i z =
    rw z (sym (bind_bind (load_child l s bs n i) (λ c. f c.state (child_bounds s.order bs (node_at s n).entries i) c.slot)
    (λ g. range_kids f l g.state bs n lo hi m (suc i) >>= λ h. ok (record { state = h.state; answer = g.answer ++ h.answer }))))
