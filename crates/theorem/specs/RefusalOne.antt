-- Refusal 1 comes back only where its condition holds: slots or lent sizes that do not, or in flush chunks or lists. Every call, on any slots.
use Rattle.std.specs.Prelude.{◌≡◌, refl, List, [], ◌∷◌, Bool, true, false, ◌&&◌, ℕ}
use Rattle.std.proofs.Common.{sym, ap}
use Rattle.node.specs.Result.{Result, ok, refused, ◌>>=◌, ◌>>◌, check}
use Rattle.node.specs.Refusals as refusal
use Rattle.node.specs.laws.base.Results.{no_answer, Holds}
use Rattle.node.specs.Order.{pair_key}
use Rattle.node.specs.Entry.{Entry, leaf}
use Rattle.node.specs.laws.base.Tests.{never}
use Rattle.tree.specs.Lent.{Lent, sizes_hold, blocks}
use Rattle.tree.specs.State.{State, node_at}
use Rattle.tree.specs.Hold.{lent_holds}
use Rattle.tree.specs.Load.{unbounded}
use Rattle.tree.specs.Lookup.{get, floor, range, range_from}
use Rattle.tree.specs.Upsert.{upsert}
use Rattle.tree.specs.Remove.{removed, remove}
use Rattle.tree.specs.Omap.{is_omap, versions_end, remove_all, dropped, omap_value, omap_drop_in, omap_drop, omap_put_in, omap_put}
use Rattle.tree.specs.Trust.{trusted}
use Rattle.tree.specs.laws.state.Hold.{lent_together}
use Rattle.tree.specs.laws.trust.Granted.{lent_trusted}
use Rattle.tree.specs.laws.trust.Stands.{all, trusted_of}
use Rattle.tree.specs.laws.trust.Loads.{loaded_trusted, range_loaded}
use Rattle.tree.specs.laws.trust.Remove.{trusted_remove}
use Rattle.tree.specs.laws.trust.Omap.{trusted_drop}
use Rattle.flush.specs.Space.{Space, space_holds}
use Rattle.flush.specs.Flush.{Lists, flush, lists_hold}
use Rattle.history.specs.Calls.{Call, get_call, floor_call, range_call, upsert_call, remove_call, put_call, drop_call, flush_call, step}
use Rattle.history.specs.Statement.{Start, Begins, Lends, Turn, states, is_flush, AllLend}
use Rattle.history.specs.laws.CallLaws.{flush_lent}
use Rattle.theorem.specs.one.Holds.{good_holds}
use Rattle.theorem.specs.Histories.{Laws}
use Rattle.theorem.specs.Demand.{terms_of, terms_suit, history_good}
use Rattle.theorem.specs.one.Ways.{Calm, together_calm, trusted_calm}
use Rattle.theorem.specs.one.Reads.{quiet_ok, quiet_bind, quiet_check, Silent}
use Rattle.theorem.specs.one.Lookups.{get_silent, floor_silent, range_silent, upsert_silent, upserted_silent, root_range}
use Rattle.theorem.specs.one.Remove.{removed_silent, remove_silent}

-- 1 asked first, and nothing after it answers 1: an answer of 1 is that test's
one_first : {A B : Type 0} (t : Bool) (r : Result A) (f : A → B) → (t ≡ true → Silent r) → ((check refusal.lent t >> r) >>= λ a. ok (f a))
    ≡ refused refusal.lent → t ≡ false
one_first true r f h e = absurd ((quiet_bind r (λ a. ok (f a)) (h refl) (λ a q p. quiet_ok {P = λ b. Unit {0}} tt)).silent e)
one_first false r f h e = refl

-- what answers 1 before an answer is made of it answers 1
refused_part : {A B : Type 0} (r : Result A) (f : A → B) → (r >>= λ a. ok (f a)) ≡ refused refusal.lent → r ≡ refused refusal.lent
refused_part (refused n) f e = let q : n ≡ 1 = cc in ap refused q
refused_part (ok a) f e = no_answer refusal.lent (f a) (sym e)

-- ---- calls on any slots

lent_calm : (l : Lent) (s : State) → lent_holds l s ≡ true → Calm s
lent_calm l s h = together_calm s (lent_together l s h)

-- keys taken out one after the other: what a remove leaves can be trusted again
all_silent : (l : Lent) (es : List Entry) (s : State) → trusted l s ≡ true → Silent (remove_all l es s)
unfolding remove_all
all_silent l [] s h = quiet_ok tt
all_silent l (e ∷ es) s h =
    quiet_bind (removed l s e.key) _ (removed_silent l s (trusted_calm l s h) e.key) λ r q _.
    all_silent l es r.state ((trusted_remove l s e.key h).at r q)

range_trusted : (l : Lent) (s : State) (lo : List ℕ) (hi : List (List ℕ)) → trusted l s ≡ true
    → Holds (λ g. trusted l g.state ≡ true) (range_from (node_at s s.root).level l lo hi s unbounded s.root)
range_trusted l s lo hi h =
    record {
      at = λ g q. loaded_trusted l s g.state h
          ((range_loaded (node_at s s.root).level l all all lo hi s unbounded s.root (trusted_of l s h).1).at g q);
    }

dropped_silent : (l : Lent) (s : State) (id : ℕ) → trusted l s ≡ true → Silent (dropped l s id)
unfolding dropped
dropped_silent l s id h =
    quiet_bind _ _ (root_range l s (trusted_calm l s h) (pair_key id 0) (versions_end id)) λ g e _.
    all_silent l g.answer g.state ((range_trusted l s (pair_key id 0) (versions_end id) h).at g e)

drop_silent : (l : Lent) (s : State) (id : ℕ) → trusted l s ≡ true → Silent (omap_drop_in l s id)
unfolding omap_drop_in
drop_silent l s id h = quiet_check refusal.argument (is_omap s) _ refl λ _. dropped_silent l s id h

put_silent : (l : Lent) (s : State) (id xid address size : ℕ) → trusted l s ≡ true → Silent (omap_put_in l s id xid address size)
unfolding omap_put_in
put_silent l s id xid address size h =
    quiet_check refusal.argument (is_omap s) _ refl λ _.
    quiet_bind (dropped l s id) _ (dropped_silent l s id h) λ t e _.
    upserted_silent l t (trusted_calm l t ((trusted_drop l s id h).at t e)) (pair_key id xid) (leaf (omap_value size address))

-- a call but flush that answers 1 was lent slots or sizes that do not hold
pub lent_only : (l : Lent) (c : Call) (s : State) → is_flush c ≡ false → step l c s ≡ refused refusal.lent → lent_holds l s ≡ false
unfolding step get floor range upsert remove omap_put omap_drop is_flush
lent_only l (get_call room k) s f e = one_first (lent_holds l s) _ _ (λ t. get_silent l s (lent_calm l s t) room k) e
lent_only l (floor_call room k) s f e = one_first (lent_holds l s) _ _ (λ t. floor_silent l s (lent_calm l s t) room k) e
lent_only l (range_call room lo hi) s f e = one_first (lent_holds l s) _ _ (λ t. range_silent l s (lent_calm l s t) room lo hi) e
lent_only l (upsert_call k v) s f e = one_first (lent_holds l s) _ _ (λ t. upsert_silent l s (lent_calm l s t) k v) e
lent_only l (remove_call k) s f e = one_first (lent_holds l s) _ _ (λ t. remove_silent l s (lent_calm l s t) k) e
lent_only l (put_call id xid address size) s f e = one_first (lent_holds l s) _ _ (λ t. put_silent l s id xid address size (lent_trusted l s t)) e
lent_only l (drop_call id) s f e = one_first (lent_holds l s) _ _ (λ t. drop_silent l s id (lent_trusted l s t)) e
lent_only l (flush_call p lists xid next) s f e = never refl f

-- a flush that answers 1: slots, sizes, chunks or lists
pub flush_only : (l : Lent) (p : Space) (lists : Lists) (s : State) (xid next : ℕ) → step l (flush_call p lists xid next) s ≡ refused refusal.lent
    → lent_holds l s && (space_holds l.size (blocks l) p && lists_hold l.slots lists) ≡ false
unfolding step
flush_only l p lists s xid next e = flush_lent l p lists s xid next (refused_part (flush l p lists s xid next) _ e)

-- ---- after a history

-- where a call is lent what it should be and the sizes are right, it does not answer 1
pub history_lent : (g : Start) (ts : List Turn) → Laws g (terms_of g ts) → Begins g → AllLend g ts g.state → (l : Lent) → Lends g l
    → sizes_hold l ≡ true
    → (c : Call) → is_flush c ≡ false → step l c (states ts g.state) ≡ refused refusal.lent → ⊥
history_lent g ts laws begins all l lends sizes c f e =
    let h = (history_good g ts laws begins all).1 in
    never (good_holds g (terms_of g ts) begins (terms_suit g ts) _ (states ts g.state) _ h l lends sizes) (lent_only l c (states ts g.state) f e)

-- and a flush answers 1 only for its chunks or lists
pub history_flush_lent : (g : Start) (ts : List Turn) → Laws g (terms_of g ts) → Begins g → AllLend g ts g.state → (l : Lent) → Lends g l
    → sizes_hold l ≡ true
    → (p : Space) (lists : Lists) (xid next : ℕ) → step l (flush_call p lists xid next) (states ts g.state) ≡ refused refusal.lent
    → space_holds l.size (blocks l) p && lists_hold l.slots lists ≡ false
history_flush_lent g ts laws begins all l lends sizes p lists xid next e =
    let h = (history_good g ts laws begins all).1 in
    let a = good_holds g (terms_of g ts) begins (terms_suit g ts) _ (states ts g.state) _ h l lends sizes in
    rw a at (flush_only l p lists (states ts g.state) xid next e)
