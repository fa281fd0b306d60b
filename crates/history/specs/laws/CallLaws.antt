-- A refused call leaves no trace; 1 comes first, then 12; flush's numbers come where their conditions hold. Assumes nothing.
use Rattle.std.specs.Prelude.{◌≡◌, refl, List, Bool, true, false, ◌&&◌, ℕ, ◌+◌, ◌-◌, ◌^◌, ◌≤◌, ◌<◌, leb}
use Rattle.std.proofs.Common.{sym, ◌∙◌, arith, le-leb}
use Rattle.std.proofs.lemmas.Bool.{lt-leb}
use Rattle.node.specs.laws.base.Tests.{by_test, never, and-false}
use Rattle.tree.specs.Format.{ok, refused, ◌>>◌, check, Entry, keyed}
use Rattle.tree.specs.Refusals as refusal
use Rattle.tree.specs.Lent.{Lent, blocks}
use Rattle.tree.specs.State.{State}
use Rattle.tree.specs.Hold.{lent_holds}
use Rattle.tree.specs.Lookup.{get_in, get, floor_in, floor, range_in, range}
use Rattle.tree.specs.Upsert.{upsert_in, upsert, entry_fits}
use Rattle.tree.specs.Remove.{remove_in, remove}
use Rattle.tree.specs.Omap.{is_omap, omap_put_in, omap_put, omap_drop_in, omap_drop}
use Rattle.flush.specs.Space.{Space, usable, space_holds}
use Rattle.flush.specs.Flush.{Lists, dirty_reached, ids_wanted, flushed, flush_in, flush, lists_hold}
use Rattle.history.specs.Calls.{Call, get_call, floor_call, range_call, upsert_call, remove_call, put_call, drop_call, flush_call, step, after_step, plain_step}

-- the tree after a refused call is the tree before it
pub refused_tree : (s : State) (n : ℕ) → after_step s (refused n) ≡ s
unfolding after_step
refused_tree s n = refl

-- and so is the plain list
pub refused_list : (o : ℕ) (c : Call) (n : ℕ) (es : List Entry) → plain_step o c (refused n) es ≡ es
unfolding plain_step
refused_list o c n es = refl

-- slots or sizes that don't hold: every call is refused with 1, whatever its arguments
pub lent_first : (l : Lent) (c : Call) (s : State) → lent_holds l s ≡ false → step l c s ≡ refused refusal.lent
unfolding step get floor range upsert remove omap_put omap_drop flush
lent_first l (get_call room k) s h = rw h
lent_first l (floor_call room k) s h = rw h
lent_first l (range_call room lo hi) s h = rw h
lent_first l (upsert_call k v) s h = rw h
lent_first l (remove_call k) s h = rw h
lent_first l (put_call id xid address size) s h = rw h
lent_first l (drop_call id) s h = rw h
lent_first l (flush_call p lists xid next) s h = rw h

-- ---- 12 comes next

-- the test of a call's arguments
abbrev pub arguments_hold : Call → State → Bool
arguments_hold (get_call room k) s = keyed s.order k
arguments_hold (floor_call room k) s = keyed s.order k
arguments_hold (range_call room lo hi) s = keyed s.order lo && keyed s.order hi
arguments_hold (upsert_call k v) s = entry_fits s k v
arguments_hold (remove_call k) s = keyed s.order k
arguments_hold (put_call id xid address size) s = is_omap s
arguments_hold (drop_call id) s = is_omap s
arguments_hold (flush_call p lists xid next) s = true

-- slots that hold and arguments that don't: 12, before anything is loaded
pub argument_next : (l : Lent) (c : Call) (s : State) → lent_holds l s ≡ true → arguments_hold c s ≡ false → step l c s ≡ refused refusal.argument
unfolding step get get_in floor floor_in range range_in upsert upsert_in remove remove_in omap_put omap_put_in omap_drop omap_drop_in
argument_next l (get_call room k) s h a = rw (h, a)
argument_next l (floor_call room k) s h a = rw (h, a)
argument_next l (range_call room lo hi) s h a = rw (h, a)
argument_next l (upsert_call k v) s h a = rw (h, a)
argument_next l (remove_call k) s h a = rw (h, a)
argument_next l (put_call id xid address size) s h a = rw (h, a)
argument_next l (drop_call id) s h a = rw (h, a)
argument_next l (flush_call p lists xid next) s h a = never refl a

-- a line of three checks that refuses with its first number: the first test failed
first_is : {A : Type 0} (m n k : ℕ) (t u v : Bool) (a : A) → (m ≡ n → ⊥) → (m ≡ k → ⊥) → (check m t >> check n u >> check k v >> ok a) ≡ refused m
    → t ≡ false
first_is m n k false u v a p q e = refl
first_is m n k true false v a p q e = let z : n ≡ m = cc in absurd (p (sym z))
first_is m n k true true false a p q e = let z : k ≡ m = cc in absurd (q (sym z))
first_is m n k true true true a p q e = let z : ◌≡◌ {A = ℕ} 0 1 = cc in absurd (omega arith)

-- ---- flush: each number exactly where its condition holds and none before it does

-- 1, 16 and 17 of flush
abbrev pub flush_tests : Lent → Space → Lists → State → ℕ → Bool × Bool × Bool
flush_tests l p lists s next = (
  lent_holds l s && (space_holds l.size (blocks l) p && lists_hold l.slots lists),
  leb (dirty_reached s) (usable l.size p),
  leb (next + ids_wanted s) (2 ^ 64 - 1),
)

module _ (l : Lent) (p : Space) (lists : Lists) (s : State) (xid next : ℕ) where
  abbrev tests : Bool × Bool × Bool
  tests = flush_tests l p lists s next

  -- slots, chunks and lists are one refusal
  flush_line : flush l p lists s xid next ≡ (check refusal.lent tests.0 >> check refusal.full tests.1 >> check refusal.count tests.2
      >> ok (flushed l p s xid next))
  unfolding flush flush_in
  flush_line = by_test (lent_holds l s) (λ t. rw t) (λ t. rw t)

  -- a chunk past the image, or a list that is not as long as the slots, is 1 as well
  pub chunks_first : space_holds l.size (blocks l) p ≡ false → flush l p lists s xid next ≡ refused refusal.lent
  chunks_first h = flush_line ∙ rw (h, and-false (lent_holds l s))

  pub lists_first : lists_hold l.slots lists ≡ false → flush l p lists s xid next ≡ refused refusal.lent
  lists_first h = flush_line ∙ rw (h, and-false (space_holds l.size (blocks l) p), and-false (lent_holds l s))

  pub flush_lent : flush l p lists s xid next ≡ refused refusal.lent → tests.0 ≡ false
  flush_lent e =
      first_is refusal.lent refusal.full refusal.count tests.0 tests.1 tests.2 (flushed l p s xid next)
      (λ q. let z : ◌≡◌ {A = ℕ} 1 16 = q in omega arith) (λ q. let z : ◌≡◌ {A = ℕ} 1 17 = q in omega arith) (sym flush_line ∙ e)

  pub flush_full : tests.0 ≡ true → usable l.size p < dirty_reached s → flush l p lists s xid next ≡ refused refusal.full
  flush_full h k = flush_line ∙ rw (h, lt-leb (dirty_reached s) (usable l.size p) k)

  pub flush_ids : tests.0 ≡ true → dirty_reached s ≤ usable l.size p → 2 ^ 64 - 1 < next + ids_wanted s
      → flush l p lists s xid next ≡ refused refusal.count
  flush_ids h k g = flush_line ∙ rw (h, le-leb (dirty_reached s) (usable l.size p) k, lt-leb (next + ids_wanted s) (2 ^ 64 - 1) g)

  -- and else it is accepted
  pub flush_accepted : tests.0 ≡ true → dirty_reached s ≤ usable l.size p → next + ids_wanted s ≤ 2 ^ 64 - 1 → flush l p lists s xid next ≡ ok
      (flushed l p s xid next)
  flush_accepted h k g = flush_line ∙ rw (h, le-leb (dirty_reached s) (usable l.size p) k, le-leb (next + ids_wanted s) (2 ^ 64 - 1) g)
