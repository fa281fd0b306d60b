-- Floor: the last entry not above a key is the plain list's. Assumes nothing.
use Rattle.std.specs.Prelude.{◌≡◌, cond, ◌&&◌, not, leb, ltb}
use Rattle.std.proofs.Math.Path.{refl, sym, ap, ap₂}
use Rattle.std.proofs.Common.{◌∙◌, le_refl, le_trans, arith, length-drop, ltb-true, ltb-false}
use mathlib.Core.List.{List, [], ◌∷◌, ◌++◌, append_assoc, append-nil}
use Rattle.std.proofs.Math.Bool.{true, false}
use Prim.Native.Nat.{ℕ, zero, suc, ◌+◌, ◌-◌, ◌≤◌, ◌<◌}
use Rattle.std.proofs.Math.ListN.{length, take, drop, get_or}
use Rattle.std.proofs.Math.Seq.{split_at, length-take-le}
use Rattle.seal.specs.Bytes.{AreBytes}
use Rattle.node.specs.Result.{Result, ok, ◌>>=◌}
use Rattle.node.specs.laws.base.Results.{Holds, holds_ok, holds_bind, holds_check, holds_imp}
use Rattle.node.specs.Refusals as refusal
use Rattle.node.specs.Order.{keyed, less}
use Rattle.node.specs.Entry.{Entry, ghost}
use Rattle.node.specs.Find.{key_at, way_index, last_of}
use Rattle.node.specs.Records.{records_of}
use Rattle.node.specs.Slot.{MemNode}
use Rattle.node.specs.laws.base.Tests.{by_test}
use Rattle.node.specs.laws.order.Order.{lt_rank, le_rank}
use Rattle.node.specs.laws.order.Found.{way_not_above}
use Rattle.tree.specs.Lent.{Lent}
use Rattle.tree.specs.Load.{Bounds, unbounded, child_bounds, load_child}
use Rattle.tree.specs.State.{State, node_at}
use Rattle.tree.specs.Lookup.{Got, last_from, floor_from, floor_in}
use Rattle.history.specs.Plain.{or_later, plain_floor}
use Rattle.history.specs.laws.PlainIs.{floor_is}
use Rattle.history.specs.Statement.{Start, Begins, Lends}
use Rattle.theorem.specs.model.Bounds.{Terms, K, Items, nil, cons, tight, first_or, KeyIn, Row, rows_le}
use Rattle.theorem.specs.model.Lazy.{concat_append, node_of, cont, conts, Child, Ok, ok_rows, conts_rows, ok_level}
use Rattle.theorem.specs.model.Lift.{Toward, Parts, parts, apart_holds}
use Rattle.theorem.specs.steps.Way.{Reads, toward}
use Rattle.theorem.specs.model.Good.{found, Old, Suits, Good}
use Rattle.theorem.specs.load.Loads.{Loads, loads_refl, loads_then}
use Rattle.theorem.specs.load.Way.{load_inside}
use Rattle.theorem.specs.lookup.Get.{key_given}
use Rattle.theorem.specs.lookup.Last.{last_more, last_append, split_last, Here, here_after, here_child, last_level}
use Rattle.theorem.specs.lookup.Below.{stands_root, enter, rest}

-- ---- the later of two answers

-- the first answer if there is one, else the second
abbrev later : List Entry → List Entry → List Entry
later [] zs = zs
later (f ∷ fs) zs = f ∷ fs

some_later : (x : Entry) (zs : List Entry) → 0 < length zs → or_later x zs ≡ zs
unfolding or_later
some_later x [] h = absurd (omega arith)
some_later x (z ∷ zs) h = refl

last_some : (xs : List Entry) → 0 < length xs → 0 < length (last_of xs)
unfolding last_of
last_some xs h = omega (arith, h, length-drop (length xs - 1) xs)

last_later : (x : Entry) (xs : List Entry) → or_later x (last_of xs) ≡ last_of (x ∷ xs)
last_later x [] = unfold or_later last_of in refl
last_later x (y ∷ ys) = some_later x (last_of (y ∷ ys)) (last_some (y ∷ ys) (omega arith)) ∙ sym (last_more x (y ∷ ys) (omega arith))

later_none : (zs : List Entry) → zs ≡ later zs (last_of [])
later_none [] = unfold last_of in refl
later_none (z ∷ zs) = refl

later_more : (x : Entry) (zs xs : List Entry) → or_later x (later zs (last_of xs)) ≡ later zs (last_of (x ∷ xs))
unfolding or_later
later_more x [] xs = last_later x xs
later_more x (z ∷ zs) xs = refl

module _ (τ : Terms) (k : List ℕ) (kk : KeyIn τ k) where
  -- entries not above the key count only where no later one does
  floor_below : {lo m : ℕ} {xs : List Entry} (ys : List Entry) → Items (K τ) (Row τ) lo m xs → m ≤ K τ k
      → plain_floor τ.order k (xs ++ ys) ≡ later (plain_floor τ.order k ys) (last_of xs)
  unfolding plain_floor
  floor_below ys (nil e) h = later_none (plain_floor τ.order k ys)
  floor_below ys (cons {e = x} {es = xs} e p r) h =
      let b = rows_le τ r in
      let w = p.below in
      let t : less τ.order k x.key ≡ false =
      le_rank τ.order τ.most k x.key kk.key p.key.key kk.short p.key.short (omega arith) in
      rw t (ap (or_later x) (floor_below ys r h) ∙ later_more x (plain_floor τ.order k ys) xs)

  -- entries above it do not count
  floor_above : {lo m from hi : ℕ} {xs ys : List Entry} → Items (K τ) (Row τ) lo m xs → Items (K τ) (Row τ) from hi ys → K τ k < from
      → plain_floor τ.order k (xs ++ ys) ≡ plain_floor τ.order k xs
  unfolding plain_floor
  floor_above (nil z) (nil e) h = refl
  floor_above (nil z) (cons {e = x} e p r) h =
      let t : less τ.order k x.key ≡ true =
      lt_rank τ.order τ.most k x.key kk.key p.key.key kk.short p.key.short (omega arith) in
      rw t
  floor_above (cons {e = x} e p q) r h = by_test (less τ.order k x.key) (λ t. rw t) (λ t. rw (t, floor_above q r h))

  -- ---- a node taken apart at the child on the way

  module _ (rd : ℕ → MemNode) (s : State) (j n lo hi : ℕ) (xs : List Entry) (e : Entry) (ys : List Entry) (row : (node_at s n).entries ≡ xs ++ e ∷ ys)
      (to : Toward τ k xs e ys)
      (okn : Ok τ rd (node_at s) (suc j) lo hi (node_at s n)) where
    abbrev here : List Entry
    here = cont rd (node_at s) j (node_of rd (node_at s) e.value)

    mid : Parts (K τ) (Child τ (Ok τ rd (node_at s) j) (node_of rd (node_at s))) lo hi (lo + K τ e.key) xs e ys
    mid = parts (lo + K τ e.key) xs (omega arith) (λ z. omega arith) (rw row at okn.items)

    mid_rows : Items (K τ) (Row τ) (K τ e.key) mid.up_to here
    mid_rows = ok_rows τ rd (node_at s) j (K τ e.key) mid.up_to (node_of rd (node_at s) e.value) mid.own.ok

    -- after the child: nothing, or entries above the key
    floor_right : {m : ℕ} (zs : List Entry) → Items (K τ) (Child τ (Ok τ rd (node_at s) j) (node_of rd (node_at s))) m hi zs
        → ((b : ℕ) → K τ k < b → K τ k < first_or (K τ) b zs)
        → plain_floor τ.order k (here ++ conts rd (node_at s) j zs) ≡ plain_floor τ.order k here
    floor_right [] r h = ap (plain_floor τ.order k) (append-nil here)
    floor_right (z ∷ zs) r h = floor_above mid_rows (conts_rows τ rd (node_at s) j (tight r)) (h (suc (K τ k)) (le_refl _))

    -- before it: nothing, or entries below the key
    floor_left : {m : ℕ} (zs : List Entry) → Items (K τ) (Child τ (Ok τ rd (node_at s) j) (node_of rd (node_at s))) lo m zs
        → (0 < length zs → m ≤ K τ k)
        → (ws : List Entry)
        → plain_floor τ.order k (conts rd (node_at s) j zs ++ ws) ≡ later (plain_floor τ.order k ws) (last_of (conts rd (node_at s) j zs))
    floor_left [] r h ws = later_none (plain_floor τ.order k ws)
    floor_left (z ∷ zs) r h ws = floor_below ws (conts_rows τ rd (node_at s) j r) (h (omega arith))

    floor_node : plain_floor τ.order k (cont rd (node_at s) (suc j) (node_at s n))
        ≡ later (plain_floor τ.order k here) (last_of (conts rd (node_at s) j xs))
    floor_node =
        ap (plain_floor τ.order k) (apart_holds rd (node_at s) j (node_at s n) xs e ys row)
        ∙ floor_left xs mid.left (λ z. le_trans mid.before (to.not_above z)) (here ++ conts rd (node_at s) j ys)
        ∙ ap (λ (z : List Entry). later z (last_of (conts rd (node_at s) j xs))) (floor_right ys mid.right to.next)

-- ---- the call

module _ (g : Start) (τ : Terms) (th : List ℕ) (begins : Begins g) (l : Lent) (lends : Lends g l) (s₀ : State)
    (rds : Reads τ (found g τ) l (Old g) s₀) (es : List Entry) (top : ℕ) where
  -- ---- the last entry not above a key

  module _ (k : List ℕ) (kk : KeyIn τ k) (o : s₀.order ≡ τ.order) where
    record Floored (s : State) (xs : List Entry) (r : Got Entry) : Type 0 where
      answer : r.answer ≡ plain_floor τ.order k xs
      good : Good g τ th r.state es
      loads : Loads τ (found g τ) s r.state

    -- what the definition does with the answer of the child on the way
    module _ (j : ℕ) (s : State) (bs : Bounds) (n : ℕ) where
      abbrev or_left : State → List Entry → Result (Got Entry)
      or_left u (f ∷ fs) = ok (record { state = u; answer = f ∷ fs })
      or_left u [] =
          cond (ltb 0 (way_index s.order k (node_at s n).entries) && not
          (less s.order k (key_at (node_at s n).entries (way_index s.order k (node_at s n).entries))))
          (load_child l u bs n (way_index s.order k (node_at s n).entries - 1)
          >>= λ c. last_from j l c.state (child_bounds s.order bs (node_at s n).entries (way_index s.order k (node_at s n).entries - 1))
          c.slot)
          (ok (record { state = u; answer = [] }))

    none_last : (at : ℕ → MemNode) (j : ℕ) (zs : List Entry) → length zs ≡ 0 → last_of (conts (found g τ) at j zs) ≡ []
    none_last at j [] h = unfold last_of in refl
    none_last at j (z ∷ zs) h = absurd (omega arith)

    module _ (j : ℕ) (s : State) (bs : Bounds) (n lo hi : ℕ) (h : Here g τ th begins l lends s₀ rds es top s (suc j) n lo hi)
        (low : suc j ≤ top) (xs : List Entry) (e : Entry)
        (ys : List Entry)
        (row : (node_at s n).entries ≡ xs ++ e ∷ ys) (ln : length xs ≡ way_index s.order k (node_at s n).entries) where
      abbrev there : List Entry
      there = cont (found g τ) (node_at s) j (node_of (found g τ) (node_at s) e.value)

      abbrev all : List Entry
      all = cont (found g τ) (node_at s) (suc j) (node_at s n)

      to : Toward τ k xs e ys
      to = toward τ (found g τ) l (Old g) k kk j lo hi (node_at s) (node_at s n) h.stands.ok xs e ys row
          (ln ∙ ap₂ (λ (x : ℕ) (y : List Entry). way_index x k y) (h.stands.still.order ∙ o) row)

      node : plain_floor τ.order k all ≡ later (plain_floor τ.order k there) (last_of (conts (found g τ) (node_at s) j xs))
      node = floor_node τ k kk (found g τ) s j n lo hi xs e ys row to h.stands.ok

      found_here : (f : Entry) (fs : List Entry) → f ∷ fs ≡ plain_floor τ.order k there → f ∷ fs ≡ plain_floor τ.order k all
      found_here f fs q = sym (node ∙ ap (λ (z : List Entry). later z (last_of (conts (found g τ) (node_at s) j xs))) (sym q))

      found_left : [] ≡ plain_floor τ.order k there → last_of (conts (found g τ) (node_at s) j xs) ≡ plain_floor τ.order k all
      found_left q = sym (node ∙ ap (λ (z : List Entry). later z (last_of (conts (found g τ) (node_at s) j xs))) (sym q))

      -- the child before it, in slots that have it loaded or not
      before_last : (u : State) → Good g τ th u es → Loads τ (found g τ) s u → 0 < length xs → [] ≡ plain_floor τ.order k there
          → Holds (Floored s all) (load_child l u bs n (way_index s.order k (node_at s n).entries - 1)
          >>= λ c. last_from j l c.state (child_bounds s.order bs (node_at s n).entries (way_index s.order k (node_at s n).entries - 1))
          c.slot)
      before_last u gu ld pos q =
          let i : ℕ = way_index s.order k (node_at s n).entries in
          let re = rest g τ th begins l lends s₀ rds es s u j n lo hi xs (e ∷ ys) h.stands row ld in
          let (ws, w, rw-front, lw) = split_last re.front (omega (arith, pos, re.long)) in
          let hu = here_after g τ th begins l lends s₀ rds es top s u (suc j) n lo hi h gu ld in
          let row' : (node_at u n).entries ≡ ws ++ w ∷ re.back = re.row ∙ ap (λ (z : List Entry). z ++ re.back) rw-front
          ∙ append_assoc ws (w ∷ []) re.back in
          let lw' : length ws ≡ way_index s.order k (node_at s n).entries - 1 = omega (arith, lw, re.long, ln) in
          holds_bind (load_child l u bs n (way_index s.order k (node_at s n).entries - 1)) _ λ c p.
          let en = enter g τ th begins l lends s₀ rds es u bs j n lo hi ws w re.back (way_index s.order k (node_at s n).entries - 1) c
          hu.stands row' lw' p in
          holds_imp _ (λ r v.
          let at_c : List Entry = cont (found g τ) (node_at c.state) j (node_at c.state c.slot) in
          let whole : conts (found g τ) (node_at s) j xs ≡ conts (found g τ) (node_at u) j ws ++ cont (found g τ) (node_at c.state) j
          (node_at c.state c.slot) =
          sym re.before ∙ ap (conts (found g τ) (node_at u) j) rw-front ∙ concat_append _ ws (w ∷ [])
          ∙ ap (λ (z : List Entry). conts (found g τ) (node_at u) j ws ++ z) (append-nil _ ∙ sym en.holds) in
          record {
            answer = v.answer ∙ sym
                (ap last_of whole ∙ last_append (conts (found g τ) (node_at u) j ws)
                (cont (found g τ) (node_at c.state) j (node_at c.state c.slot)) v.some) ∙ found_left q;
            good = v.good;
            loads = loads_then τ (found g τ) s u r.state ld (loads_then τ (found g τ) u c.state r.state en.loads v.loads);
          })
          (last_level g τ th begins l lends s₀ rds es top j c.state
          (child_bounds s.order bs (node_at s n).entries (way_index s.order k (node_at s n).entries - 1)) c.slot
          (K τ w.key) en.up_to
          (here_child g τ th begins l lends s₀ rds es top u j n lo hi w c hu en) (omega (arith, low)))

      or_left_lem : (u : State) → Good g τ th u es → Loads τ (found g τ) s u → (ans : List Entry) → ans ≡ plain_floor τ.order k there
          → Holds (Floored s all) (or_left j s bs n u ans)
      or_left_lem u gu ld (f ∷ fs) q = holds_ok (record { answer = found_here f fs q; good = gu; loads = ld })
      or_left_lem u gu ld [] q =
          by_test (ltb 0 (way_index s.order k (node_at s n).entries))
          (λ t.
          let pos : 0 < way_index s.order k (node_at s n).entries = ltb-true 0 (way_index s.order k (node_at s n).entries) t in
          let low' : less s.order k (key_at (node_at s n).entries (way_index s.order k (node_at s n).entries)) ≡ false =
          way_not_above s.order k (node_at s n).entries pos in
          rw (t, low') (before_last u gu ld (omega (arith, pos, ln)) q))
          (λ t.
          let none : length xs ≡ 0 = omega (arith, ln, ltb-false 0 (way_index s.order k (node_at s n).entries) t) in
          rw t (holds_ok (record { answer = sym (none_last (node_at s) j xs none) ∙ found_left q; good = gu; loads = ld })))

    floor_step : (j : ℕ) → ((s : State) (bs : Bounds) (n lo hi : ℕ) → Here g τ th begins l lends s₀ rds es top s j n lo hi → j ≤ top
        → Holds (Floored s (cont (found g τ) (node_at s) j (node_at s n))) (floor_from j l s bs n k))
        → (s : State) (bs : Bounds) (n lo hi : ℕ) → Here g τ th begins l lends s₀ rds es top s (suc j) n lo hi → suc j ≤ top
        → Holds (Floored s (cont (found g τ) (node_at s) (suc j) (node_at s n))) (floor_from (suc j) l s bs n k)
    unfolding floor_from
    floor_step j ih s bs n lo hi h t =
        let i : ℕ = way_index s.order k (node_at s n).entries in
        let cs : Bounds = child_bounds s.order bs (node_at s n).entries (way_index s.order k (node_at s n).entries) in
        holds_bind (load_child l s bs n (way_index s.order k (node_at s n).entries)) _ λ a p.
        let ds : List Entry = (node_at s n).entries in
        let no : Entry = record { key = []; value = ghost } in
        let lt = load_inside g τ th begins l lends s₀ rds s bs n (way_index s.order k (node_at s n).entries) a p in
        let row : ds ≡ take i ds ++ get_or ds i no ∷ drop (suc i) ds = split_at ds i no lt in
        let ln : length (take i ds) ≡ i = length-take-le i ds (omega (arith, lt)) in
        let en = enter g τ th begins l lends s₀ rds es s bs j n lo hi (take i ds) (get_or ds i no) (drop (suc i) ds) i a h.stands row ln p in
        holds_bind (floor_from j l a.state cs a.slot k) _ λ r q.
        let v = (ih a.state cs a.slot (K τ (get_or ds i no).key) en.up_to
        (here_child g τ th begins l lends s₀ rds es top s j n lo hi (get_or ds i no) a h en)
        (omega (arith, t))).at r q in
        or_left_lem j s bs n lo hi h t (take i ds) (get_or ds i no) (drop (suc i) ds) row ln r.state v.good
        (loads_then τ (found g τ) s a.state r.state en.loads v.loads)
        r.answer (v.answer ∙ ap (plain_floor τ.order k) en.holds)

    floor_level : (j : ℕ) (s : State) (bs : Bounds) (n lo hi : ℕ) → Here g τ th begins l lends s₀ rds es top s j n lo hi → j ≤ top
        → Holds (Floored s (cont (found g τ) (node_at s) j (node_at s n))) (floor_from j l s bs n k)
    unfolding floor_from cont
    floor_level zero s bs n lo hi h t =
        holds_ok (record {
          answer = sym (floor_is s.order k (node_at s n).entries)
              ∙ ap (λ (z : ℕ). plain_floor z k (node_at s n).entries) (h.stands.still.order ∙ o);
          good = h.stands.good;
          loads = loads_refl τ (found g τ) s;
        })
    floor_level (suc j) s bs n lo hi h t = floor_step j (floor_level j) s bs n lo hi h t

module _ (g : Start) (τ : Terms) (th : List ℕ) (begins : Begins g) (l : Lent) (lends : Lends g l) (s : State) (rds : Reads τ (found g τ) l (Old g) s)
    (es : List Entry) (h : Good g τ th s es) where
  pub good_floor : Suits g τ → (room : ℕ) (k : List ℕ) → AreBytes k → length k ≤ τ.most
      → Holds (λ r. (r.answer ≡ plain_floor s.order k es) × Good g τ th r.state es) (floor_in l s room k)
  unfolding floor_in
  good_floor suits room k b short =
      let o : s.order ≡ τ.order = h.order ∙ sym suits.order in
      let lv : (node_at s s.root).level ≡ h.level = ok_level τ (found g τ) (node_at s) h.level h.lo h.hi (node_at s s.root) h.tree in
      holds_check refusal.argument (keyed s.order k) _ λ t.
      holds_bind (floor_from (node_at s s.root).level l s unbounded s.root k) _ λ r q.
      let p = (floor_level g τ th begins l lends s rds es h.level k (key_given τ s.order k o t b short) o h.level s unbounded s.root
      h.lo h.hi
      (record { stands = stands_root g τ th begins l lends s rds es h; tall = lv }) (le_refl _)).at r
      (ap (λ (z : ℕ). floor_from z l s unbounded s.root k) (sym lv) ∙ q) in
      holds_check refusal.output (leb (length (records_of r.answer)) room) _ λ _.
      holds_ok (p.answer ∙ ap₂ (λ (x : ℕ) (z : List Entry). plain_floor x k z) (sym o) h.holds, p.good)
