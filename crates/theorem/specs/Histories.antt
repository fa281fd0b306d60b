-- Histories: from the laws of one call, those of any list of calls: accepted calls answer as the plain list, and the invariant holds after them.
-- Assumes nothing but those laws.
use Rattle.std.specs.Prelude.{◌≡◌, Bool, true, false, ℕ, ◌+◌, ◌^◌, ◌≤◌, ◌<◌, length}
use Rattle.std.proofs.Math.Path.{refl, subst}
use Rattle.std.proofs.Common.{sym, ap, ◌∙◌, arith}
use mathlib.Core.List.{List, [], ◌∷◌, ◌++◌, append-nil, append_assoc}
use Rattle.seal.specs.Bytes.{AreBytes}
use Rattle.node.specs.Result.{Result, ok, refused, ◌>>=◌, ◌>>◌, check}
use Rattle.node.specs.laws.base.Results.{no_answer, checked_ok, Holds, holds_ok, holds_bind, holds_check}
use Rattle.node.specs.Refusals as refusal
use Rattle.node.specs.Order.{keyed}
use Rattle.node.specs.Entry.{Entry, Val, value_bytes}
use Rattle.node.specs.laws.base.Bytes.{bytes_below}
use Rattle.node.specs.laws.order.Order.{Key, key_known}
use Rattle.node.specs.laws.base.Tests.{never}
use Rattle.tree.specs.Lent.{Lent}
use Rattle.tree.specs.State.{State}
use Rattle.tree.specs.Hold.{lent_holds}
use Rattle.tree.specs.Lookup.{get_in, get, floor_in, floor, range_in, range}
use Rattle.tree.specs.Upsert.{upsert_in, upsert}
use Rattle.tree.specs.Remove.{removed, remove_in, remove}
use Rattle.tree.specs.Omap.{omap_put_in, omap_put, omap_drop_in, omap_drop}
use Rattle.flush.specs.Space.{Space}
use Rattle.flush.specs.Flush.{Flushed, Lists, flush}
use Rattle.history.specs.Plain.{plain_get, plain_floor, plain_range, plain_upsert, plain_remove, plain_has, plain_put, plain_drop}
use Rattle.history.specs.Walk.{walk_from, list_of}
use Rattle.history.specs.Calls.{Call, get_call, floor_call, range_call, upsert_call, remove_call, put_call, drop_call, flush_call, values, entries, present}
use Rattle.history.specs.Calls.{Stepped, step, after_step}
use Rattle.history.specs.Calls.{plain_answer, plain_after, plain_step}
use Rattle.history.specs.Passes.{pass_put, pass_take, became_root, passed}
use Rattle.history.specs.Statement.{Start, Lends, LendsFlush, Typed, Turn, states, plains, passes, is_flush, AllLend, AllAnswer, Flushes}
use Rattle.theorem.specs.model.Bounds.{Terms, KeyIn}
use Rattle.theorem.specs.model.Good.{Suits, Good}

-- ---- the laws of one call

-- what each call does to a tree that meets the invariant, after its slots and lent sizes passed. Keys are bytes that are not too long; an accepted
-- call asked the rest itself
pub record Laws (g : Start) (τ : Terms) : Type 0 where
  pub opens : Good g τ [] g.state (list_of (walk_from g.disk g.root))
  pub gets : (th : List ℕ) (l : Lent) (s : State) (es : List Entry) → Lends g l → Good g τ th s es → (room : ℕ) (k : List ℕ) → AreBytes k
      → length k ≤ τ.most
      → Holds (λ r. (r.answer ≡ plain_get s.order k es) × Good g τ th r.state es) (get_in l s room k)
  pub floors : (th : List ℕ) (l : Lent) (s : State) (es : List Entry) → Lends g l → Good g τ th s es → (room : ℕ) (k : List ℕ) → AreBytes k
      → length k ≤ τ.most
      → Holds (λ r. (r.answer ≡ plain_floor s.order k es) × Good g τ th r.state es) (floor_in l s room k)
  pub ranges : (th : List ℕ) (l : Lent) (s : State) (es : List Entry) → Lends g l → Good g τ th s es → (room : ℕ) (lo hi : List ℕ)
      → AreBytes lo → length lo ≤ τ.most → AreBytes hi → length hi ≤ τ.most
      → Holds (λ r. (r.answer ≡ plain_range s.order lo hi es) × Good g τ th r.state es) (range_in l s room lo hi)
  pub upserts : (th : List ℕ) (l : Lent) (s : State) (es : List Entry) → Lends g l → Good g τ th s es → (k : List ℕ) (v : Val)
      → AreBytes k → length k ≤ τ.most → AreBytes (value_bytes v)
      → Holds (λ u. Good g τ (th ++ pass_put l s k) u (plain_upsert s.order k v es)) (upsert_in l s k v)
  pub removes : (th : List ℕ) (l : Lent) (s : State) (es : List Entry) → Lends g l → Good g τ th s es → (k : List ℕ) → KeyIn τ k
      → Holds (λ r. (r.present ≡ plain_has s.order k es) × Good g τ (th ++ (pass_take l s k ++ became_root l s k)) r.state
      (plain_remove s.order k es)) (removed l s k)
  pub puts : (th : List ℕ) (l : Lent) (s : State) (es : List Entry) → Lends g l → Good g τ th s es → (id xid address size : ℕ) → id < 2 ^ 64
      → xid < 2 ^ 64
      → Holds (λ u. Good g τ (th ++ passed l (put_call id xid address size) s) u (plain_put s.order id xid address size es))
      (omap_put_in l s id xid address size)
  pub drops : (th : List ℕ) (l : Lent) (s : State) (es : List Entry) → Lends g l → Good g τ th s es → (id : ℕ) → id < 2 ^ 64
      → Holds (λ u. Good g τ (th ++ passed l (drop_call id) s) u (plain_drop id es)) (omap_drop_in l s id)
  pub flushes : (th : List ℕ) (l : Lent) (s : State) (es : List Entry) → Good g τ th s es → (p : Space) (lists : Lists) (xid next : ℕ) (f : Flushed)
      → LendsFlush g l p xid next f → flush l p lists s xid next ≡ ok f → Flushes g es th l p f

-- ---- the keys in play

-- the length of a call's keys. (An object map's are 16)
abbrev pub key_length : Call → ℕ
key_length (get_call room k) = length k
key_length (floor_call room k) = length k
key_length (range_call room lo hi) = length lo + length hi
key_length (upsert_call k v) = length k
key_length (remove_call k) = length k
key_length (put_call id xid address size) = 0
key_length (drop_call id) = 0
key_length (flush_call p lists xid next) = 0

-- no key in a list of calls is longer, and none that a node can hold
abbrev pub most_of : List Turn → ℕ
most_of [] = 65536
most_of (t ∷ ts) = key_length t.call + most_of ts

pub most_room : (ts : List Turn) → 65536 ≤ most_of ts
most_room [] = omega arith
most_room (t ∷ ts) = let h = most_room ts in omega arith

-- ---- one call

pub by_result : {A C : Type 0} (r : Result A) → ((n : ℕ) → r ≡ refused n → C) → ((a : A) → r ≡ ok a → C) → C
by_result (refused n) f g = f n refl
by_result (ok a) f g = g a refl

-- slots and sizes asked first, then the call, then its answer
stepped : {A : Type 0} {P : A → Type 0} {Q : Stepped → Type 0} (t : Bool) (r : Result A) (f : A → Stepped) → Holds P r → ((a : A) → P a → Q (f a))
    → Holds Q ((check refusal.lent t >> r) >>= λ a. ok (f a))
stepped t r f h k = holds_bind (check refusal.lent t >> r) _ λ a e. holds_ok (k a (h.at a (checked_ok refusal.lent t r a e).1))

module _ (g : Start) (τ : Terms) (suits : Suits g τ) (laws : Laws g τ) where
  -- what an accepted call leaves, by order o
  abbrev pub Stands : ℕ → List ℕ → List Entry → Lent → Call → State → Stepped → Type 0
  Stands o th es l c s r = (r.answer ≡ plain_answer o c es) × Good g τ (th ++ passed l c s) r.state (plain_after o c es)

  module _ (th : List ℕ) (l : Lent) (lends : Lends g l) (s : State) (es : List Entry) (h : Good g τ th s es) where
    -- a lookup passes through nothing
    looked : (u : State) → Good g τ th u es → Good g τ (th ++ []) u es
    looked u k = rw append-nil k

    key_given : (k : List ℕ) → keyed s.order k ≡ true → AreBytes k → length k ≤ τ.most → KeyIn τ k
    key_given k t b n = record {
      key = subst (λ (o : ℕ). Key o k) (h.order ∙ sym suits.order) (key_known s.order k t (bytes_below k b));
      short = n;
    }

    remove_good : (k : List ℕ) → AreBytes k → length k ≤ τ.most
        → Holds (λ r. (r.present ≡ plain_has s.order k es) × Good g τ (th ++ (pass_take l s k ++ became_root l s k)) r.state
        (plain_remove s.order k es)) (remove_in l s k)
    unfolding remove_in
    remove_good k b n = holds_check refusal.argument (keyed s.order k) _ λ t. laws.removes th l s es lends h k (key_given k t b n)

    call_at : (c : Call) → Typed c → key_length c ≤ τ.most → is_flush c ≡ false → Holds (Stands s.order th es l c s) (step l c s)
    unfolding step get floor range upsert remove omap_put omap_drop plain_answer plain_after passed is_flush
    call_at (get_call room k) t n f = stepped (lent_holds l s) _ _ (laws.gets th l s es lends h room k t n) λ a p.
        (ap values p.0, looked a.state p.1)
    call_at (floor_call room k) t n f = stepped (lent_holds l s) _ _ (laws.floors th l s es lends h room k t n) λ a p.
        (ap entries p.0, looked a.state p.1)
    call_at (range_call room lo hi) t n f =
        stepped (lent_holds l s) _ _ (laws.ranges th l s es lends h room lo hi t.0 (omega arith) t.1 (omega arith)) λ a p.
        (ap entries p.0, looked a.state p.1)
    call_at (upsert_call k v) t n f = stepped (lent_holds l s) _ _ (laws.upserts th l s es lends h k v t.0 n t.1) λ a p. (refl, p)
    call_at (remove_call k) t n f = stepped (lent_holds l s) _ _ (remove_good k t n) λ a p. (ap present p.0, p.1)
    call_at (put_call id xid address size) t n f = stepped (lent_holds l s) _ _ (laws.puts th l s es lends h id xid address size t.0 t.1) λ a p.
        (refl, p)
    call_at (drop_call id) t n f = stepped (lent_holds l s) _ _ (laws.drops th l s es lends h id t) λ a p. (refl, p)
    call_at (flush_call p lists xid next) t n f = never refl f

    -- an accepted call answers as the plain list, and the invariant holds after it
    pub call_good : (c : Call) → Typed c → key_length c ≤ τ.most → is_flush c ≡ false → Holds (Stands g.disk.order th es l c s) (step l c s)
    call_good c t n f = subst (λ (o : ℕ). Holds (Stands o th es l c s) (step l c s)) h.order (call_at c t n f)

  -- ---- any list of calls

  abbrev o : ℕ
  o = g.disk.order

  -- the conclusion
  abbrev Told : List Turn → List ℕ → State → List Entry → Type 0
  Told ts th s es = AllAnswer o ts s es × Good g τ (th ++ passes ts s) (states ts s) (plains o ts s es)

  -- a refused call changes nothing
  after_refused : (t : Turn) (ts : List Turn) (th : List ℕ) (s : State) (es : List Entry) (n : ℕ) → step t.lent t.call s ≡ refused n
      → Told ts th s es → Told (t ∷ ts) th s es
  unfolding passes states plains after_step plain_step
  after_refused t ts th s es n q k = rw q (((λ r e. no_answer n r e), k.0), k.1)

  after_accepted : (t : Turn) (ts : List Turn) (th : List ℕ) (s : State) (es : List Entry) (r : Stepped) → step t.lent t.call s ≡ ok r
      → r.answer ≡ plain_answer o t.call es → Told ts (th ++ passed t.lent t.call s) r.state (plain_after o t.call es)
      → Told (t ∷ ts) th s es
  unfolding passes states plains after_step plain_step
  after_accepted t ts th s es r q e k =
      rw q (
        ((λ u z. let y : r ≡ u = cc in subst (λ (w : Stepped). w.answer ≡ plain_answer o t.call es) y e), k.0),
        subst (λ (z : List ℕ). Good g τ z (states ts r.state) (plains o ts r.state (plain_after o t.call es)))
            (append_assoc th (passed t.lent t.call s) (passes ts r.state)) k.1,
      )

  lends_refused : (t : Turn) (ts : List Turn) (s : State) (n : ℕ) → step t.lent t.call s ≡ refused n → AllLend g (t ∷ ts) s → AllLend g ts s
  unfolding after_step
  lends_refused t ts s n q a = rw q at a.1

  lends_accepted : (t : Turn) (ts : List Turn) (s : State) (r : Stepped) → step t.lent t.call s ≡ ok r → AllLend g (t ∷ ts) s
      → AllLend g ts r.state
  unfolding after_step
  lends_accepted t ts s r q a = rw q at a.1

  -- every accepted call of a list answers as the plain list, and the invariant holds after all of them
  pub history : (ts : List Turn) (th : List ℕ) (s : State) (es : List Entry) → Good g τ th s es → AllLend g ts s → most_of ts ≤ τ.most
      → Told ts th s es
  unfolding passes states plains
  history [] th s es h a n = (tt, rw append-nil h)
  history (t ∷ ts) th s es h a n =
      by_result (step t.lent t.call s)
      (λ m q. after_refused t ts th s es m q (history ts th s es h (lends_refused t ts s m q a) (omega arith)))
      (λ r q.
      let (lends, typed, flushing) = a.0 r q in
      let (e, k) = (call_good th t.lent lends s es h t.call typed (omega (arith, most_room ts)) flushing).at r q in
      after_accepted t ts th s es r q e
      (history ts (th ++ passed t.lent t.call s) r.state (plain_after o t.call es) k (lends_accepted t ts s r q a) (omega arith)))
