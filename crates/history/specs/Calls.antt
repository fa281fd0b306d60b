-- Calls, and what each does: to the tree by the editor's definitions, to the plain list by its own.
use Rattle.std.specs.Prelude.{List, Bool, ℕ}
use Rattle.tree.specs.Format.{Result, ok, refused, ◌>>=◌, Entry, Val}
use Rattle.tree.specs.Lent.{Lent}
use Rattle.tree.specs.State.{State}
use Rattle.tree.specs.Lookup.{get, floor, range}
use Rattle.tree.specs.Upsert.{upsert}
use Rattle.tree.specs.Remove.{remove}
use Rattle.tree.specs.Omap.{omap_put, omap_drop}
use Rattle.flush.specs.Space.{Space}
use Rattle.flush.specs.Flush.{Lists, flush}
use Rattle.history.specs.Plain.{plain_get, plain_floor, plain_range, plain_upsert, plain_remove, plain_has, plain_put, plain_drop}

-- a call and its arguments. room: the length of the output lent. A flush is lent bitmap and counts, and its report lists' lengths
pub data Call : Type 0 where
  get_call : (room : ℕ) (k : List ℕ) → Call
  floor_call : (room : ℕ) (k : List ℕ) → Call
  range_call : (room : ℕ) (lo hi : List ℕ) → Call
  upsert_call : (k : List ℕ) (v : Val) → Call
  remove_call : (k : List ℕ) → Call
  put_call : (id xid address size : ℕ) → Call
  drop_call : (id : ℕ) → Call
  flush_call : (p : Space) (lists : Lists) (xid next : ℕ) → Call

-- what a call answers: values, entries, whether a key was there, or nothing
pub data Answer : Type 0 where
  values : List Val → Answer
  entries : List Entry → Answer
  present : Bool → Answer
  done : Answer

-- the tree after an accepted call, and its answer
pub record Stepped : Type 0 where
  pub state : State
  pub answer : Answer

-- a call on a tree
unfoldable pub step : Lent → Call → State → Result Stepped
step l (get_call room k) s = get l s room k >>= λ g. ok (record { state = g.state; answer = values g.answer })
step l (floor_call room k) s = floor l s room k >>= λ g. ok (record { state = g.state; answer = entries g.answer })
step l (range_call room lo hi) s = range l s room lo hi >>= λ g. ok (record { state = g.state; answer = entries g.answer })
step l (upsert_call k v) s = upsert l s k v >>= λ t. ok (record { state = t; answer = done })
step l (remove_call k) s = remove l s k >>= λ r. ok (record { state = r.state; answer = present r.present })
step l (put_call id xid address size) s = omap_put l s id xid address size >>= λ t. ok (record { state = t; answer = done })
step l (drop_call id) s = omap_drop l s id >>= λ t. ok (record { state = t; answer = done })
-- a flush that is accepted ends the tree: no call follows it
step l (flush_call p lists xid next) s = flush l p lists s xid next >>= λ f. ok (record { state = s; answer = done })

-- the tree after a call: a refused call leaves it as it is
unfoldable pub after_step : State → Result Stepped → State
after_step s (refused n) = s
after_step s (ok r) = r.state

-- what the plain list answers
unfoldable pub plain_answer : ℕ → Call → List Entry → Answer
plain_answer o (get_call room k) es = values (plain_get o k es)
plain_answer o (floor_call room k) es = entries (plain_floor o k es)
plain_answer o (range_call room lo hi) es = entries (plain_range o lo hi es)
plain_answer o (upsert_call k v) es = done
plain_answer o (remove_call k) es = present (plain_has o k es)
plain_answer o (put_call id xid address size) es = done
plain_answer o (drop_call id) es = done
plain_answer o (flush_call p lists xid next) es = done

-- the plain list after an accepted call
unfoldable pub plain_after : ℕ → Call → List Entry → List Entry
plain_after o (get_call room k) es = es
plain_after o (floor_call room k) es = es
plain_after o (range_call room lo hi) es = es
plain_after o (upsert_call k v) es = plain_upsert o k v es
plain_after o (remove_call k) es = plain_remove o k es
plain_after o (put_call id xid address size) es = plain_put o id xid address size es
plain_after o (drop_call id) es = plain_drop id es
plain_after o (flush_call p lists xid next) es = es

-- the plain list is fed each call and whether it was refused
unfoldable pub plain_step : ℕ → Call → Result Stepped → List Entry → List Entry
plain_step o c (refused n) es = es
plain_step o c (ok r) es = plain_after o c es
