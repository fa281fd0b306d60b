-- Sums over the slots that are reached from the root are at most sums over all live slots: no slot is named twice. Assumes nothing.
use Rattle.std.specs.Prelude.{◌≡◌, refl, true, false, ◌&&◌, not, drop}
use Rattle.std.proofs.Common.{ap, ap₂, ◌∙◌, mul-le-mul, mul-le-mul_right}
use mathlib.Core.List.{List, [], ◌∷◌}
use Prim.Native.Nat.{ℕ, zero, suc, ◌+◌, ◌*◌, ◌^◌, ◌≤◌, ◌<◌}
use native.Mathlib.Omega.{arith}
use Rattle.std.proofs.Math.ListN.{length}
use Rattle.node.specs.Entry.{Entry, mem}
use Rattle.node.specs.Slot.{MemNode}
use Rattle.node.specs.laws.base.Tests.{by_test}
use Rattle.node.specs.Result.{Result, ok}
use Rattle.node.specs.Order.{less}
use Rattle.node.specs.Find.{val_at}
use Rattle.node.specs.Records.{records_of}
use Rattle.node.specs.laws.base.Results.{Holds, holds_ok, holds_bind}
use Rattle.tree.specs.Lent.{Lent}
use Rattle.tree.specs.State.{State, node_at}
use Rattle.tree.specs.Hold.{naming}
use Rattle.tree.specs.Load.{Bounds, unbounded, child_bounds, load_child}
use Rattle.tree.specs.Lookup.{Got, ends_above, between, range_enters, range_kids, range_from}
use Rattle.tree.specs.Trust.{stand_together, trusted}
use Rattle.tree.specs.internal.Reach.{reach_kid, reach_kids, reach_sum, live_sum, dead_count}
use Rattle.tree.specs.internal.Room.{Roomy}
use Rattle.tree.specs.laws.trust.Named.{own_live, live_used}
use Rattle.tree.specs.laws.trust.Stands.{Stands, all, stands_of, trusted_of}
use Rattle.tree.specs.laws.lookup.NamedSums.{live_most, live_dead, kids_least, alive, shares_most}
use Rattle.tree.specs.laws.state.Load.{load_child_lem}
use Rattle.tree.specs.laws.trust.Loads.{Loads, loads_refl, loads_then, Loaded, loaded_then, load_loaded, load_below, holds_cond, loaded_trusted}
use Rattle.tree.specs.laws.lookup.RangeAgain.{leaf_loads}
use Rattle.tree.specs.laws.room.Weight.{weight, weight_cons, weight_append}
use Rattle.tree.specs.laws.room.Calls.{roomy_range}
use Rattle.tree.specs.laws.refusal1.Ready.{sizes_most, sizes_many}

-- ---- sums over the slots reached

module _ (w v : ℕ → ℕ) (f : MemNode → ℕ) (s : State) (st : Stands w v s) where
  abbrev whole : ℕ → ℕ
  whole n = reach_sum f (node_at s n).level s n

  child_whole : (d n c : ℕ) → (node_at s n).dead ≡ false → (node_at s n).level ≡ suc d → 1 ≤ naming c (node_at s n).entries
      → reach_sum f d s c ≤ alive s whole c
  child_whole d n c live lv k =
      let b = st.links n c (omega (arith, own_live c (node_at s n) live)) in
      let z : (node_at s c).level ≡ d = omega (arith, b.lower) in
      rw (b.live, z) (omega arith)

  node_whole : (d n : ℕ) → (node_at s n).dead ≡ false → (node_at s n).level ≡ d
      → reach_sum f d s n ≤ f (node_at s n) + reach_kids (alive s whole) (node_at s n).entries
  unfolding reach_sum
  node_whole zero n live lv = omega arith
  node_whole (suc d) n live lv =
      let k = kids_least (reach_sum f d s) (alive s whole) (node_at s n).entries (λ c h. child_whole d n c live lv h) in
      omega arith

  pub stands_reach : reach_sum f (node_at s s.root).level s s.root ≤ live_sum f s.nodes
  stands_reach = shares_most w v s f whole st (λ n live. node_whole (node_at s n).level n live refl)

-- what is reached from the root is at most all that is live
pub reach_most : (f : MemNode → ℕ) (s : State) → stand_together s ≡ true
    → reach_sum f (node_at s s.root).level s s.root ≤ live_sum f s.nodes
reach_most f s h = stands_reach all all f s (stands_of s h)

-- at most 1 for each: at most the live slots
pub reach_dead : (f : MemNode → ℕ) (s : State) → stand_together s ≡ true → ((m : MemNode) → f m ≤ 1)
    → reach_sum f (node_at s s.root).level s s.root + dead_count s.nodes ≤ length s.nodes
reach_dead f s h k = omega (arith, reach_most f s h, live_dead f s.nodes k)

pub reach_few : (f : MemNode → ℕ) (s : State) → stand_together s ≡ true → ((m : MemNode) → f m ≤ 1)
    → reach_sum f (node_at s s.root).level s s.root ≤ length s.nodes
reach_few f s h k = omega (arith, reach_dead f s h k)

-- of trusted slots: at most the slots that are lent
pub reach_slots : (l : Lent) (s : State) (f : MemNode → ℕ) → trusted l s ≡ true → ((m : MemNode) → f m ≤ 1)
    → reach_sum f (node_at s s.root).level s s.root + dead_count s.nodes ≤ l.slots
reach_slots l s f h k =
    let (held, st) = trusted_of l s h in
    omega (arith, stands_reach all all f s st, live_dead f s.nodes k, held.few)

-- ---- a range's answer: the entries between two ends, of the leaves that it enters

between_weight : (o : ℕ) (lo : List ℕ) (hi : List (List ℕ)) (es : List Entry) → weight (between o lo hi es) ≤ weight es
unfolding between
between_weight o lo hi [] = omega arith
between_weight o lo hi (e ∷ es) =
    let k = between_weight o lo hi es in
    by_test (not (less o e.key lo) && ends_above o hi e.key)
    (λ t. rw t (omega (arith, weight_cons e (between o lo hi es), weight_cons e es)))
    (λ t. rw t (omega (arith, weight_cons e es)))

-- ---- the children from child i on

later_kids : (h : ℕ → ℕ) (i : ℕ) (es : List Entry) → reach_kids h (drop (suc i) es) ≤ reach_kids h (drop i es)
unfolding reach_kids
later_kids h zero [] = omega arith
later_kids h (suc i) [] = omega arith
later_kids h zero (e ∷ es) = omega arith
later_kids h (suc i) (e ∷ es) = later_kids h i es

next_kid : (h : ℕ → ℕ) (i c : ℕ) (es : List Entry) → val_at es i ≡ mem c → h c + reach_kids h (drop (suc i) es) ≤ reach_kids h (drop i es)
unfolding reach_kids reach_kid val_at
next_kid h i c [] q = let z : ◌≡◌ {A = ℕ} 0 1 = cc in absurd (omega arith)
next_kid h zero c (e ∷ es) q = let z : reach_kid h e.value ≡ h c = ap (reach_kid h) q in omega arith
next_kid h (suc i) c (e ∷ es) q = next_kid h i c es q

-- ---- the answer's bytes: at most those of the slots reached, whatever was loaded since

-- the bytes of a slot's entries
abbrev pub bytes_of : MemNode → ℕ
bytes_of m = weight m.entries

module _ (l : Lent) (lo : List ℕ) (hi : List (List ℕ)) where
  record Weighs (bound : State → ℕ) (s : State) (g : Got Entry) : Type 0 where
    loaded : Loaded l all all s g.state
    most : (t : State) → Loads l g.state t → weight g.answer ≤ bound t

  abbrev Each : ℕ → (State → Bounds → ℕ → Result (Got Entry)) → Type 0
  Each d f = (s : State) (bs : Bounds) (n : ℕ) → Stands all all s → (node_at s n).dead ≡ false → (node_at s n).level ≡ d
      → Holds (Weighs (λ t. reach_sum bytes_of d t n) s) (f s bs n)

  kids_weigh : (d : ℕ) (f : State → Bounds → ℕ → Result (Got Entry)) → Each d f → (m i : ℕ) (s : State) (bs : Bounds) (n : ℕ) → Stands all all s
      → (node_at s n).dead ≡ false → (node_at s n).level ≡ suc d
      → Holds (Weighs (λ t. reach_kids (reach_sum bytes_of d t) (drop i (node_at t n).entries)) s) (range_kids f l s bs n lo hi m i)
  unfolding range_kids records_of
  kids_weigh d f each zero i s bs n st live lv =
      holds_ok (record { loaded = record { loads = loads_refl l s; stands = st }; most = λ t a. omega arith })
  kids_weigh d f each (suc m) i s bs n st live lv =
      let es : List Entry = (node_at s n).entries in
      let cs : Bounds = child_bounds s.order bs es i in
      let used : n < length s.nodes = live_used s n live in
      holds_cond (range_enters s.order lo hi es i) _ _
      (λ z.
      holds_bind (load_child l s bs n i) _ λ a e.
      let p = (load_loaded l all all s bs n i st).at a e in
      let b = load_below l all all s bs n i a st live e in
      holds_bind (f a.state cs a.slot) _ λ g y.
      let x = (each a.state cs a.slot p.stands b.live (omega (arith, b.lower))).at g y in
      let q = loaded_then l all all s a.state g.state p x.loaded in
      holds_bind (range_kids f l g.state bs n lo hi m (suc i)) _ λ h k.
      let u = (kids_weigh d f each m (suc i) g.state bs n q.stands (q.loads.dead n used ∙ live) (q.loads.level n used ∙ lv)).at h k in
      holds_ok (record {
        loaded = loaded_then l all all s g.state h.state q u.loaded;
        most = λ t v.
            let g_t : Loads l g.state t = loads_then l g.state h.state t u.loaded.loads v in
            let a_t : Loads l a.state t = loads_then l a.state g.state t x.loaded.loads g_t in
            let c : val_at (node_at t n).entries i ≡ mem a.slot = a_t.mems n i a.slot (load_child_lem l s bs n i a e) in
            omega (
              arith,
              weight_append g.answer h.answer,
              x.most t g_t,
              u.most t v,
              next_kid (reach_sum bytes_of d t) i a.slot (node_at t n).entries c,
            );
      }))
      (λ z.
      record {
        at = λ h k.
            let u = (kids_weigh d f each m (suc i) s bs n st live lv).at h k in
            record {
              loaded = u.loaded;
              most = λ t v. omega (arith, u.most t v, later_kids (reach_sum bytes_of d t) i (node_at t n).entries);
            };
      })

  leaf_weighs : Each 0 (range_from 0 l lo hi)
  unfolding range_from reach_sum
  leaf_weighs s bs n st live lv =
      holds_ok (record {
        loaded = record { loads = loads_refl l s; stands = st };
        most = λ t a. rw (leaf_loads l all all s t n st a live lv) (between_weight s.order lo hi (node_at s n).entries);
      })

  node_weighs : (d : ℕ) → Each d (range_from d l lo hi) → Each (suc d) (range_from (suc d) l lo hi)
  unfolding range_from reach_sum
  node_weighs d each s bs n st live lv =
      record {
        at = λ g e.
            let u = (kids_weigh d (range_from d l lo hi) each (length (node_at s n).entries) 0 s bs n st live lv).at g e in
            record { loaded = u.loaded; most = λ t a. omega (arith, u.most t a) };
      }

  range_weighs : (d : ℕ) → Each d (range_from d l lo hi)
  range_weighs zero = leaf_weighs
  range_weighs (suc d) = node_weighs d (range_weighs d)

-- ---- from the root

roomy_sum : (k : ℕ) (s : State) → Roomy k s → live_sum bytes_of s.nodes ≤ length s.nodes * k
unfolding node_at
roomy_sum k s r = live_most k bytes_of s.nodes (λ n d. r.most n d)

pub range_weight : (l : Lent) (s : State) (lo : List ℕ) (hi : List (List ℕ)) (g : Got Entry) → trusted l s ≡ true → Roomy (2 * l.size) s
    → range_from (node_at s s.root).level l lo hi s unbounded s.root ≡ ok g
    → length (records_of g.answer) ≤ l.slots * (2 * l.size)
range_weight l s lo hi g h r e =
    let st : Stands all all s = (trusted_of l s h).1 in
    let x = (range_weighs l lo hi (node_at s s.root).level s unbounded s.root st st.root refl).at g e in
    let a : Loads l s g.state = x.loaded.loads in
    let lv : (node_at g.state g.state.root).level ≡ (node_at s s.root).level =
    ap (λ (j : ℕ). (node_at g.state j).level) a.root ∙ a.level s.root (live_used s s.root st.root) in
    let same : reach_sum bytes_of (node_at g.state g.state.root).level g.state g.state.root
    ≡ reach_sum bytes_of (node_at s s.root).level g.state s.root =
    ap₂ (λ (i j : ℕ). reach_sum bytes_of i g.state j) lv a.root in
    let few : length g.state.nodes ≤ l.slots = (trusted_of l g.state (loaded_trusted l s g.state h x.loaded)).0.few in
    omega (
      arith,
      x.most g.state (loads_refl l g.state),
      same,
      stands_reach all all bytes_of g.state x.loaded.stands,
      roomy_sum (2 * l.size) g.state ((roomy_range l lo hi s h r).at g e),
      mul-le-mul_right (2 * l.size) few,
    )

-- in numbers
slots_bytes : (l : Lent) (s : State) → trusted l s ≡ true → l.slots * (2 * l.size) ≤ 2 ^ 29
slots_bytes l s h =
    let z = (trusted_of l s h).0.sizes in
    let a : l.slots ≤ 4096 = sizes_many l z in
    let b : 2 * l.size ≤ 131072 = omega (arith, sizes_most l z) in
    let p : l.slots * (2 * l.size) ≤ 4096 * 131072 = mul-le-mul a b in
    omega arith

entries_few : (es : List Entry) → length es ≤ weight es
unfolding records_of
entries_few [] = omega arith
entries_few (e ∷ es) = let k = entries_few es in omega (arith, weight_cons e es)

module _ (l : Lent) (s : State) (lo : List ℕ) (hi : List (List ℕ)) (g : Got Entry) (h : trusted l s ≡ true) (r : Roomy (2 * l.size) s)
    (e : range_from (node_at s s.root).level l lo hi s unbounded s.root ≡ ok g) where
  pub range_small : length (records_of g.answer) ≤ 2 ^ 29
  range_small = omega (arith, range_weight l s lo hi g h r e, slots_bytes l s h)

  pub range_few : length g.answer ≤ 2 ^ 29
  range_few = omega (arith, range_small, entries_few g.answer)
