-- No lookup and no upsert answers 1 on slots that hold together: 1 is asked first, and nothing after it answers 1. Assumes nothing.
use Rattle.std.specs.Prelude.{◌≡◌, false, ◌&&◌, ◌||◌, leb}
use Rattle.std.proofs.Math.Path.{refl}
use mathlib.Core.List.{List, [], ◌∷◌}
use Rattle.std.proofs.Math.Bool.{not}
use Prim.Native.Nat.{ℕ, zero, suc, ◌+◌, ◌-◌, ◌^◌, ◌≤◌, ◌<◌}
use Rattle.std.proofs.Common.{arith}
use Rattle.std.proofs.Math.ListN.{length}
use Rattle.std.proofs.Math.Dec.{ltb}
use borrow.Author.Tests.{ltb-true}
use Rattle.node.specs.Result.{Result}
use Rattle.node.specs.Refusals as refusal
use Rattle.node.specs.Order.{keyed, less}
use Rattle.node.specs.Entry.{Entry, Val}
use Rattle.node.specs.Find.{key_at, way_index, is_there}
use Rattle.node.specs.Records.{records_of}
use Rattle.node.specs.laws.order.Found.{way_in}
use Rattle.node.specs.laws.base.Tests.{and_left}
use Rattle.tree.specs.Lent.{Lent}
use Rattle.tree.specs.State.{State, node_at}
use Rattle.tree.specs.Load.{Bounds, unbounded, child_bounds, load_child}
use Rattle.tree.specs.Lookup.{Step, above, way_from, way, leaf_of, Got, held, got_length, get_in, last_from, floor_from, floor_in, range_enters, range_kids}
use Rattle.tree.specs.Lookup.{range_from, range_in}
use Rattle.tree.specs.Upsert.{upsert_on, entry_fits, upserted, upsert_in}
use Rattle.theorem.specs.one.Reads.{Quiet, quiet_ok, quiet_bind, quiet_check, quiet_cond, quiet_imp, Silent, cuts_silent}
use Rattle.theorem.specs.one.Ways.{Live, Fine, Calm, Keeps, keeps_refl, keeps_then, load_led}

-- a state that a lookup leaves
pub record Seen (s t : State) : Type 0 where
  pub fine : Fine t
  pub keeps : Keeps s t

-- the slots of a way are not dead
abbrev pub AllLive : State → List Step → Type 0
AllLive s [] = Unit {0}
AllLive s (x ∷ xs) = ((node_at s x.slot).dead ≡ false) × AllLive s xs

live_is : (s : State) (n : ℕ) → (node_at s n).dead ≡ false → Live s (node_at s n).level n
live_is s n h = record { live = h; level = refl }

module _ (l : Lent) where
  -- ---- the way

  pub way_quiet : (d : ℕ) (s : State) (bs : Bounds) (n : ℕ) (k : List ℕ) → Fine s → Live s d n
      → Quiet (λ w. Seen s w.state × AllLive w.state w.steps) (way_from d l s bs n k)
  unfolding way_from above
  way_quiet zero s bs n k fine at = quiet_ok (record { fine = fine; keeps = keeps_refl s }, (at.live, tt))
  way_quiet (suc d) s bs n k fine at =
      let i : ℕ = way_index s.order k (node_at s n).entries in
      quiet_bind (load_child l s bs n i) _ (load_led l s bs n i d fine at
      (way_in s.order k (node_at s n).entries (fine.each n d at).some)) λ c e h.
      quiet_bind (way_from d l c.state (child_bounds s.order bs (node_at s n).entries i) c.slot k) _
      (way_quiet d c.state _ c.slot k h.fine h.slot) λ w f g.
      let kp : Keeps s w.state = keeps_then s c.state w.state h.keeps g.0.keeps in
      quiet_ok (record { fine = g.0.fine; keeps = kp }, ((kp.live (suc d) n at).live, g.1))

  -- ---- floor

  last_quiet : (d : ℕ) (s : State) (bs : Bounds) (n : ℕ) → Fine s → Live s d n → Quiet (λ g. Seen s g.state) (last_from d l s bs n)
  unfolding last_from
  last_quiet zero s bs n fine at = quiet_ok (record { fine = fine; keeps = keeps_refl s })
  last_quiet (suc d) s bs n fine at =
      let es : List Entry = (node_at s n).entries in
      quiet_bind (load_child l s bs n (length es - 1)) _
      (load_led l s bs n (length es - 1) d fine at (omega (arith, (fine.each n d at).some))) λ c e h.
      quiet_imp _ (λ g f k. record { fine = k.fine; keeps = keeps_then s c.state g.state h.keeps k.keeps })
      (last_quiet d c.state _ c.slot h.fine h.slot)

  floor_quiet : (d : ℕ) (s : State) (bs : Bounds) (n : ℕ) (k : List ℕ) → Fine s → Live s d n → Quiet (λ g. Seen s g.state) (floor_from d l s bs n k)
  unfolding floor_from
  floor_quiet zero s bs n k fine at = quiet_ok (record { fine = fine; keeps = keeps_refl s })
  floor_quiet (suc d) s bs n k fine at =
      let es : List Entry = (node_at s n).entries in
      let i : ℕ = way_index s.order k es in
      let inside : i < length es = way_in s.order k es (fine.each n d at).some in
      quiet_bind (load_child l s bs n i) _ (load_led l s bs n i d fine at inside) λ c e h.
      quiet_bind (floor_from d l c.state (child_bounds s.order bs es i) c.slot k) _
      (floor_quiet d c.state _ c.slot k h.fine h.slot) λ g f q.
      let kp : Keeps s g.state = keeps_then s c.state g.state h.keeps q.keeps in
      let seen : Seen s g.state = record { fine = q.fine; keeps = kp } in
      by_entries g.answer
      (λ z. rw z (quiet_cond (ltb 0 i && not (less s.order k (key_at es i))) _ _
      (λ t.
      let pos = ltb-true 0 i (and_left (ltb 0 i) (not (less s.order k (key_at es i))) t) in
      quiet_bind (load_child l g.state bs n (i - 1)) _
      (load_led l g.state bs n (i - 1) d q.fine (kp.live (suc d) n at) (omega (arith, kp.count n at.live, inside, pos))) λ c' e' h'.
      quiet_imp _ (λ g' f' k'. record {
        fine = k'.fine;
        keeps = keeps_then s g.state g'.state kp
            (keeps_then g.state c'.state g'.state h'.keeps k'.keeps);
      })
      (last_quiet d c'.state _ c'.slot h'.fine h'.slot))
      (λ t. quiet_ok seen)))
      (λ x xs z. rw z (quiet_ok seen))
    where
      by_entries : {C : Type 0} (xs : List Entry) → (xs ≡ [] → C) → ((y : Entry) (ys : List Entry) → xs ≡ y ∷ ys → C) → C
      by_entries [] f g = f refl
      by_entries (y ∷ ys) f g = g y ys refl

  -- ---- range

  -- the children from child i on, m of them at most
  kids_quiet : (d : ℕ) (f : State → Bounds → ℕ → Result (Got Entry))
      → ((s : State) (bs : Bounds) (n : ℕ) → Fine s → Live s d n → Quiet (λ g. Seen s g.state) (f s bs n))
      → (lo : List ℕ) (hi : List (List ℕ)) (m i : ℕ) (s : State) (bs : Bounds) (n : ℕ) → Fine s → Live s (suc d) n
      → i + m ≤ length (node_at s n).entries
      → Quiet (λ g. Seen s g.state) (range_kids f l s bs n lo hi m i)
  unfolding range_kids
  kids_quiet d f ih lo hi zero i s bs n fine at le = quiet_ok (record { fine = fine; keeps = keeps_refl s })
  kids_quiet d f ih lo hi (suc m) i s bs n fine at le =
      let es : List Entry = (node_at s n).entries in
      quiet_cond (range_enters s.order lo hi es i) _ _
      (λ t.
      quiet_bind (load_child l s bs n i) _ (load_led l s bs n i d fine at (omega arith)) λ c e h.
      quiet_bind (f c.state (child_bounds s.order bs es i) c.slot) _ (ih c.state _ c.slot h.fine h.slot) λ g p q.
      let kp : Keeps s g.state = keeps_then s c.state g.state h.keeps q.keeps in
      quiet_bind (range_kids f l g.state bs n lo hi m (suc i)) _
      (kids_quiet d f ih lo hi m (suc i) g.state bs n q.fine (kp.live (suc d) n at) (omega (arith, kp.count n at.live, le))) λ k r w.
      quiet_ok (record { fine = w.fine; keeps = keeps_then s g.state k.state kp w.keeps }))
      (λ t. kids_quiet d f ih lo hi m (suc i) s bs n fine at (omega arith))

  pub range_quiet : (d : ℕ) (lo : List ℕ) (hi : List (List ℕ)) (s : State) (bs : Bounds) (n : ℕ) → Fine s → Live s d n
      → Quiet (λ g. Seen s g.state) (range_from d l lo hi s bs n)
  unfolding range_from
  range_quiet zero lo hi s bs n fine at = quiet_ok (record { fine = fine; keeps = keeps_refl s })
  range_quiet (suc d) lo hi s bs n fine at =
      kids_quiet d (range_from d l lo hi) (range_quiet d lo hi) lo hi (length (node_at s n).entries) 0 s bs n fine at (omega arith)

  -- ---- the calls, after 1 was asked

  module _ (s : State) (h : Calm s) where
    fine : Fine s
    fine = h.fine

    top : Live s (node_at s s.root).level s.root
    top = live_is s s.root h.root

    pub root_way : (k : List ℕ) → Quiet (λ w. Seen s w.state × AllLive w.state w.steps) (way l s k)
    unfolding way
    root_way k = way_quiet (node_at s s.root).level s unbounded s.root k fine top

    pub root_range : (lo : List ℕ) (hi : List (List ℕ)) → Silent (range_from (node_at s s.root).level l lo hi s unbounded s.root)
    root_range lo hi = quiet_imp _ (λ a e k. tt) (range_quiet (node_at s s.root).level lo hi s unbounded s.root fine top)

    pub get_silent : (room : ℕ) (k : List ℕ) → Silent (get_in l s room k)
    unfolding get_in
    get_silent room k =
        quiet_check refusal.argument (keyed s.order k) _ refl λ _.
        quiet_bind (way l s k) _ (root_way k) λ w e q.
        quiet_check refusal.output (leb (got_length (held s.order k (node_at w.state (leaf_of w.steps)).entries)) room) _ refl λ _. quiet_ok tt

    pub floor_silent : (room : ℕ) (k : List ℕ) → Silent (floor_in l s room k)
    unfolding floor_in
    floor_silent room k =
        quiet_check refusal.argument (keyed s.order k) _ refl λ _.
        quiet_bind _ _ (floor_quiet (node_at s s.root).level s unbounded s.root k fine top) λ g e q.
        quiet_check refusal.output (leb (length (records_of g.answer)) room) _ refl λ _. quiet_ok tt

    pub range_silent : (room : ℕ) (lo hi : List ℕ) → Silent (range_in l s room lo hi)
    unfolding range_in
    range_silent room lo hi =
        quiet_check refusal.argument (keyed s.order lo && keyed s.order hi) _ refl λ _.
        quiet_bind _ _ (root_range lo (hi ∷ [])) λ g e q.
        quiet_check refusal.output (leb (length (records_of g.answer)) room) _ refl λ _. quiet_ok tt

    pub upserted_silent : (k : List ℕ) (v : Val) → Silent (upserted l s k v)
    unfolding upserted upsert_on
    upserted_silent k v =
        quiet_bind (way l s k) _ (root_way k) λ w e q.
        quiet_check refusal.count (is_there w.state.order k (node_at w.state (leaf_of w.steps)).entries || ltb w.state.info.key_count
        (2 ^ 64 - 1)) _ refl λ _.
        cuts_silent l [] w.steps _

    pub upsert_silent : (k : List ℕ) (v : Val) → Silent (upsert_in l s k v)
    unfolding upsert_in
    upsert_silent k v = quiet_check refusal.argument (entry_fits s k v) _ refl λ _. upserted_silent k v
