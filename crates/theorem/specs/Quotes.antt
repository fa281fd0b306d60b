-- What follows from demand 3, to be quoted: refused calls, freed blocks, slots after a history, flush's figures. Each is a function of demand 3 or of
-- less.
use Rattle.std.specs.Prelude.{◌≡◌, List, [], ◌∷◌, ◌++◌, Bool, true, false, ℕ, ◌≤◌, leb}
use Rattle.std.proofs.Math.Path.{refl}
use Rattle.std.proofs.Common.{sym, ap, subst, arith, leb-true, leb-false}
use Rattle.node.specs.Result.{Result, ok, refused}
use Rattle.node.specs.Entry.{Entry}
use Rattle.node.specs.laws.base.Tests.{by_test, never}
use Rattle.tree.specs.Lent.{Lent}
use Rattle.tree.specs.State.{State}
use Rattle.flush.specs.Space.{Space}
use Rattle.flush.specs.Flush.{Flushed, Lists, flush}
use Rattle.history.specs.Calls.{Call, get_call, floor_call, range_call, upsert_call, remove_call, put_call, drop_call, flush_call}
use Rattle.history.specs.Calls.{Stepped, step, after_step, plain_step}
use Rattle.history.specs.Passes.{passed}
use Rattle.history.specs.Statement.{Start, uses, Begins, LendsFlush, Turn, states, plains, passes, AllLend, Demand3}
use Rattle.theorem.specs.model.Sums.{uses_append}
use Rattle.theorem.specs.Histories.{by_result}

-- ---- a refused call might never have been made

-- what a list of calls leaves goes by what its first part leaves
pub states_append : (xs ys : List Turn) (s : State) → states (xs ++ ys) s ≡ states ys (states xs s)
unfolding states
states_append [] ys s = refl
states_append (x ∷ xs) ys s = states_append xs ys (after_step s (step x.lent x.call s))

-- with a refused call among them, or without it: the same tree
pub refused_states : (xs : List Turn) (t : Turn) (ys : List Turn) (s : State) (n : ℕ) → step t.lent t.call (states xs s) ≡ refused n
    → states (xs ++ t ∷ ys) s ≡ states (xs ++ ys) s
unfolding states after_step
refused_states [] t ys s n q = ap (λ (r : Result Stepped). states ys (after_step s r)) q
refused_states (x ∷ xs) t ys s n q = refused_states xs t ys (after_step s (step x.lent x.call s)) n q

-- the same plain list
pub refused_plains : (o : ℕ) (xs : List Turn) (t : Turn) (ys : List Turn) (s : State) (es : List Entry) (n : ℕ)
    → step t.lent t.call (states xs s) ≡ refused n → plains o (xs ++ t ∷ ys) s es ≡ plains o (xs ++ ys) s es
unfolding states plains after_step plain_step
refused_plains o [] t ys s es n q = ap (λ (r : Result Stepped). plains o ys (after_step s r) (plain_step o t.call r es)) q
refused_plains o (x ∷ xs) t ys s es n q =
    refused_plains o xs t ys (after_step s (step x.lent x.call s)) (plain_step o x.call (step x.lent x.call s) es) n q

-- what one call adds to the blocks passed through
next_refused : (t : Turn) (ts : List Turn) (s : State) (n : ℕ) → step t.lent t.call s ≡ refused n → passes (t ∷ ts) s ≡ passes ts s
unfolding passes after_step
next_refused t ts s n q = rw q

next_accepted : (t : Turn) (ts : List Turn) (s : State) (r : Stepped) → step t.lent t.call s ≡ ok r
    → passes (t ∷ ts) s ≡ passed t.lent t.call s ++ passes ts r.state
unfolding passes after_step
next_accepted t ts s r q = rw q

next_same : (t : Turn) (ts us : List Turn) (s : State) → passes ts (after_step s (step t.lent t.call s)) ≡ passes us
    (after_step s (step t.lent t.call s))
    → passes (t ∷ ts) s ≡ passes (t ∷ us) s
unfolding passes
next_same t ts us s q = rw q

-- the same blocks passed through
pub refused_passes : (xs : List Turn) (t : Turn) (ys : List Turn) (s : State) (n : ℕ) → step t.lent t.call (states xs s) ≡ refused n
    → passes (xs ++ t ∷ ys) s ≡ passes (xs ++ ys) s
unfolding states
refused_passes [] t ys s n q = next_refused t ys s n q
refused_passes (x ∷ xs) t ys s n q = next_same x (xs ++ t ∷ ys) (xs ++ ys) s (refused_passes xs t ys (after_step s (step x.lent x.call s)) n q)

-- ---- an accepted edit frees only blocks on the ways to its keys, or that became the root

-- an accepted call of a list that passed through a block
pub record Through (ts : List Turn) (s : State) (a : ℕ) : Type 0 where
  pub before : List Turn
  pub turn : Turn
  pub after : List Turn
  pub list : ts ≡ before ++ turn ∷ after
  pub answer : Stepped
  pub accepted : step turn.lent turn.call (states before s) ≡ ok answer
  pub through : 1 ≤ uses a (passed turn.lent turn.call (states before s))

-- one call earlier
through_later : (t : Turn) (ts : List Turn) (s u : State) (a : ℕ) → after_step s (step t.lent t.call s) ≡ u → Through ts u a
    → Through (t ∷ ts) s a
unfolding states
through_later t ts s u a q h =
    let z : states (t ∷ h.before) s ≡ states h.before u = ap (states h.before) q in
    record {
      before = t ∷ h.before;
      turn = h.turn;
      after = h.after;
      list = ap (λ (xs : List Turn). t ∷ xs) h.list;
      answer = h.answer;
      accepted = subst (λ (w : State). step h.turn.lent h.turn.call w ≡ ok h.answer) (sym z) h.accepted;
      through = subst (λ (w : State). 1 ≤ uses a (passed h.turn.lent h.turn.call w)) (sym z) h.through;
    }

pub passes_through : (ts : List Turn) (s : State) (a : ℕ) → 1 ≤ uses a (passes ts s) → Through ts s a
unfolding states after_step
passes_through [] s a h = absurd (omega (arith, h, none))
  where
    none : uses a (passes [] s) ≡ 0
    none = unfold passes uses in refl
passes_through (t ∷ ts) s a h =
    by_result (step t.lent t.call s)
    (λ n q. through_later t ts s s a (ap (after_step s) q) (passes_through ts s a (rw (next_refused t ts s n q) at h)))
    (λ r q.
    let k : 1 ≤ uses a (passed t.lent t.call s ++ passes ts r.state) = rw (next_accepted t ts s r q) at h in
    by_test (leb 1 (uses a (passed t.lent t.call s)))
    (λ b. record { before = []; turn = t; after = ts; list = refl; answer = r; accepted = q; through = leb-true 1 _ b })
    (λ b.
    let z = leb-false 1 (uses a (passed t.lent t.call s)) b in
    through_later t ts s r.state a (ap (after_step s) q)
    (passes_through ts r.state a (omega (arith, z, k, uses_append a (passed t.lent t.call s) (passes ts r.state))))))

-- after a history a flush frees only blocks that one of its accepted calls passed through or made the root
pub freed_through : Demand3 → (g : Start) (ts : List Turn) → Begins g → AllLend g ts g.state → (l : Lent) (p : Space) (lists : Lists)
    (xid next : ℕ) (f : Flushed)
    → LendsFlush g l p xid next f → flush l p lists (states ts g.state) xid next ≡ ok f → (a : ℕ) → 1 ≤ uses a f.after.freed
    → Through ts g.state a
freed_through d g ts b all l p lists xid next f k e a h = passes_through ts g.state a
    (((d g ts b all).flushes l p lists xid next f k e).freed_only a h)

-- a lookup passes through nothing
abbrev pub is_lookup : Call → Bool
is_lookup (get_call room k) = true
is_lookup (floor_call room k) = true
is_lookup (range_call room lo hi) = true
is_lookup (upsert_call k v) = false
is_lookup (remove_call k) = false
is_lookup (put_call id xid address size) = false
is_lookup (drop_call id) = false
is_lookup (flush_call p lists xid next) = false

pub lookup_none : (l : Lent) (c : Call) (s : State) (a : ℕ) → is_lookup c ≡ true → uses a (passed l c s) ≡ 0
unfolding passed uses
lookup_none l (get_call room k) s a h = refl
lookup_none l (floor_call room k) s a h = refl
lookup_none l (range_call room lo hi) s a h = refl
lookup_none l (upsert_call k v) s a h = never h refl
lookup_none l (remove_call k) s a h = never h refl
lookup_none l (put_call id xid address size) s a h = never h refl
lookup_none l (drop_call id) s a h = never h refl
lookup_none l (flush_call p lists xid next) s a h = never h refl

-- so what passed through a block is an edit
pub through_edit : (ts : List Turn) (s : State) (a : ℕ) (h : Through ts s a) → is_lookup h.turn.call ≡ false
through_edit ts s a h =
    by_test (is_lookup h.turn.call)
    (λ t. absurd (omega (arith, h.through, lookup_none h.turn.lent h.turn.call (states h.before s) a t)))
    (λ t. t)

-- a block passed through by a list of calls and one more, and not by the list, was passed through by that one
last_one : (t : Turn) (s : State) (a : ℕ) → 1 ≤ uses a (passes (t ∷ []) s) → 1 ≤ uses a (passed t.lent t.call s)
last_one t s a h =
    by_result (step t.lent t.call s)
    (λ n q. absurd (omega (arith, no_passes s, rw (next_refused t [] s n q) at h)))
    (λ r q.
    let k : 1 ≤ uses a (passed t.lent t.call s ++ passes [] r.state) = rw (next_accepted t [] s r q) at h in
    omega (arith, k, uses_append a (passed t.lent t.call s) (passes [] r.state), no_passes r.state))
  where
    no_passes : (u : State) → uses a (passes [] u) ≡ 0
    no_passes u = unfold passes uses in refl

last_through : (ts : List Turn) (t : Turn) (s : State) (a : ℕ) → 1 ≤ uses a (passes (ts ++ t ∷ []) s) → uses a (passes ts s) ≡ 0
    → 1 ≤ uses a (passed t.lent t.call (states ts s))
unfolding states after_step
last_through [] t s a h none = last_one t s a h
last_through (x ∷ xs) t s a h none =
    by_result (step x.lent x.call s)
    (λ n q.
    let z : states (x ∷ xs) s ≡ states xs s = ap (λ (r : Result Stepped). states xs (after_step s r)) q in
    subst (λ (w : State). 1 ≤ uses a (passed t.lent t.call w)) (sym z)
    (last_through xs t s a (rw (next_refused x (xs ++ t ∷ []) s n q) at h) (rw (next_refused x xs s n q) at none)))
    (λ r q.
    let z : states (x ∷ xs) s ≡ states xs r.state = ap (λ (y : Result Stepped). states xs (after_step s y)) q in
    let k : 1 ≤ uses a (passed x.lent x.call s ++ passes (xs ++ t ∷ []) r.state) = rw (next_accepted x (xs ++ t ∷ []) s r q) at h in
    let m : uses a (passed x.lent x.call s ++ passes xs r.state) ≡ 0 = rw (next_accepted x xs s r q) at none in
    let u = uses_append a (passed x.lent x.call s) (passes (xs ++ t ∷ []) r.state) in
    let v = uses_append a (passed x.lent x.call s) (passes xs r.state) in
    subst (λ (w : State). 1 ≤ uses a (passed t.lent t.call w)) (sym z)
    (last_through xs t r.state a (omega (arith, k, u, v, m)) (omega (arith, v, m))))

-- one accepted call after another history: what a flush frees that the history before did not pass through, this call passed through
pub edit_frees : Demand3 → (g : Start) (ts : List Turn) (t : Turn) → Begins g → AllLend g (ts ++ t ∷ []) g.state
    → (l : Lent) (p : Space) (lists : Lists) (xid next : ℕ) (f : Flushed) → LendsFlush g l p xid next f
    → flush l p lists (states (ts ++ t ∷ []) g.state) xid next ≡ ok f → (a : ℕ) → 1 ≤ uses a f.after.freed → uses a (passes ts g.state) ≡ 0
    → 1 ≤ uses a (passed t.lent t.call (states ts g.state))
edit_frees d g ts t b all l p lists xid next f k e a h none =
    last_through ts t g.state a (((d g (ts ++ t ∷ []) b all).flushes l p lists xid next f k e).freed_only a h) none
