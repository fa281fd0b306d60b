-- What a buyer may quote, of any history: with demand 3 proved, each with no premise but the statement's own. Assumes nothing.
use Rattle.std.specs.Prelude.{◌≡◌, List, [], ◌∷◌, ◌++◌, true, false, ◌&&◌, ℕ, ◌≤◌}
use Rattle.node.specs.Result.{ok, refused}
use Rattle.node.specs.Refusals as refusal
use Rattle.tree.specs.Lent.{Lent, blocks, sizes_hold}
use Rattle.flush.specs.Space.{Space, space_holds}
use Rattle.flush.specs.Flush.{Flushed, Lists, dirty_reached, flush, lists_hold}
use Rattle.history.specs.Calls.{Call, flush_call, step}
use Rattle.history.specs.Passes.{passed}
use Rattle.history.specs.Statement.{Start, uses, Begins, Lends, LendsFlush, Turn, states, passes, is_flush, AllLend}
use Rattle.theorem.specs.disk.Agree.{address_follows, lends_follows}
use Rattle.theorem.specs.start.Start.{blocks_once, ids_once}
use Rattle.theorem.specs.flush.Flush.{flush_allocated}
use Rattle.theorem.specs.Demand.{terms_of, terms_suit, history_good}
use Rattle.theorem.specs.Quotes.{Through, freed_through, edit_frees}
use Rattle.theorem.specs.RefusalOne.{history_lent, history_flush_lent}
use Rattle.theorem.specs.Whole.{laws, demand3}

module _ (g : Start) (ts : List Turn) (begins : Begins g) (all : AllLend g ts g.state) where
  -- a later call that is lent what it should be, with sizes that are right, does not answer 1
  pub no_later_one : (l : Lent) → Lends g l → sizes_hold l ≡ true → (c : Call) → is_flush c ≡ false
      → step l c (states ts g.state) ≡ refused refusal.lent → ⊥
  no_later_one l lends sizes c f e =
      history_lent g ts (laws g (terms_of g ts) begins (terms_suit g ts)) begins all l lends sizes c f e

  -- nor a later flush, but for its chunks or its lists
  pub flush_one : (l : Lent) → Lends g l → sizes_hold l ≡ true → (p : Space) (lists : Lists) (xid next : ℕ)
      → step l (flush_call p lists xid next) (states ts g.state) ≡ refused refusal.lent
      → space_holds l.size (blocks l) p && lists_hold l.slots lists ≡ false
  flush_one l lends sizes p lists xid next e = history_flush_lent g ts
      (laws g (terms_of g ts) begins (terms_suit g ts)) begins all l lends sizes p lists xid next e

  module _ (l : Lent) (p : Space) (lists : Lists) (xid next : ℕ) (f : Flushed) (lends : LendsFlush g l p xid next f)
      (accepted : flush l p lists (states ts g.state) xid next ≡ ok f) where
    -- a flush takes as many blocks as there are dirty nodes that the root reaches
    pub allocated_is : f.allocated ≡ dirty_reached (states ts g.state)
    allocated_is =
        flush_allocated g (terms_of g ts) (λ m n r. address_follows g m begins (lends_follows g m n) g.disk.xid r)
        (blocks_once g (terms_of g ts) begins (terms_suit g ts)) (λ v i. ids_once g (terms_of g ts) begins (terms_suit g ts) i)
        _ (states ts g.state) _ l p lists xid next f begins (terms_suit g ts)
        (history_good g ts (laws g (terms_of g ts) begins (terms_suit g ts)) begins all).1 lends accepted

    -- and frees only blocks that an accepted edit passed through or made the root
    pub freed_is : (a : ℕ) → 1 ≤ uses a f.after.freed → Through ts g.state a
    freed_is a h = freed_through demand3 g ts begins all l p lists xid next f lends accepted a h

-- one call more: what a flush frees that the calls before it did not pass through, it passed through itself
pub one_edit_frees : (g : Start) (ts : List Turn) (t : Turn) → Begins g → AllLend g (ts ++ t ∷ []) g.state
    → (l : Lent) (p : Space) (lists : Lists) (xid next : ℕ) (f : Flushed) → LendsFlush g l p xid next f
    → flush l p lists (states (ts ++ t ∷ []) g.state) xid next ≡ ok f → (a : ℕ) → 1 ≤ uses a f.after.freed → uses a (passes ts g.state) ≡ 0
    → 1 ≤ uses a (passed t.lent t.call (states ts g.state))
one_edit_frees = edit_frees demand3
