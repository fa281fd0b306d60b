-- What a range found is what lies in the slots that it left, and each of its entries can be stored as a record. Assumes nothing.
use Rattle.std.specs.Prelude.{◌≡◌, true, false, not, ◌&&◌, ltb}
use Rattle.std.proofs.Math.Path.{refl, sym, ap, ap₂}
use Rattle.std.proofs.Common.{◌∙◌, arith, ltb-true, ltb-false}
use mathlib.Core.List.{List, [], ◌∷◌, ◌++◌}
use Prim.Native.Nat.{ℕ, zero, suc, ◌≤◌, ◌<◌}
use Rattle.std.proofs.Math.ListN.{length}
use Rattle.node.specs.Result.{Result, ok, ◌>>=◌}
use Rattle.node.specs.Order.{less}
use Rattle.node.specs.Entry.{Entry, Val, mem}
use Rattle.node.specs.Find.{val_at}
use Rattle.node.specs.Read.{OnDisk}
use Rattle.node.specs.Slot.{MemNode, head_at, with_value}
use Rattle.node.specs.laws.base.Tests.{by_test}
use Rattle.node.specs.laws.base.Results.{Holds, bind_ok}
use Rattle.node.specs.laws.base.Bytes.{Bytes, bytes_window}
use Rattle.node.specs.laws.slot.Records.{Storables, none, more, records_storable}
use Rattle.tree.specs.Lent.{Lent}
use Rattle.tree.specs.State.{State, no_node, node_at, put_node, with_entries}
use Rattle.tree.specs.Load.{Bounds, unbounded, child_bounds, At, load_child, adopted}
use Rattle.tree.specs.Lookup.{Got, ends_above, between, range_enters, range_kids, range_from}
use Rattle.tree.specs.Trust.{trusted}
use Rattle.tree.specs.Workspace.{slot_bytes, state_of}
use Rattle.tree.specs.internal.Bank.{node_in, live, Ready}
use Rattle.tree.specs.internal.Range.{range_child, held_below, held_child, held_kids, range_held}
use Rattle.tree.specs.laws.state.State.{put_count, add_count, by_val}
use Rattle.tree.specs.laws.slots.Bank.{live_entries}
use Rattle.tree.specs.laws.state.Load.{by_load, brought}
use Rattle.tree.specs.laws.slots.Tree.{node_in_lem, node_out}
use Rattle.tree.specs.laws.slots.OneSlot.{slot_room}
use Rattle.tree.specs.laws.trust.Stands.{Stands, all, trusted_of}
use Rattle.tree.specs.laws.trust.Loads.{Loads, loads_refl}
use Rattle.tree.specs.laws.lookup.RangeAgain.{range_later}
use Rattle.tree.specs.laws.lookup.RangeCount.{kids_load, range_load, kids_child}
use Rattle.tree.specs.declared.editor.Tree.{Tree}

-- ---- a range that loads nothing answers what the slots hold

abbrev Same : State → Got Entry → List Entry → Type 0
Same t g es = (g.state ≡ t) × (es ≡ g.answer)

module _ (f : State → Bounds → ℕ → Result (Got Entry)) (h : ℕ → List Entry) (l : Lent) (lo : List ℕ) (hi : List (List ℕ)) (t : State)
    (loads : (s : State) (bs : Bounds) (n : ℕ) → Holds (λ g. Loads l s g.state) (f s bs n))
    (same : (bs : Bounds) (c : ℕ) (g : Got Entry) → f t bs c ≡ ok g → length g.state.nodes ≤ length t.nodes → Same t g (h c)) where
  in_slot : (bs : Bounds) (n i c : ℕ) → range_enters t.order lo hi (node_at t n).entries i ≡ true → val_at (node_at t n).entries i ≡ mem c
      → held_child h t lo hi n i ≡ h c
  unfolding held_child held_below
  in_slot bs n i c z q = rw (z, q)

  brought_more : (n i : ℕ) (a : At) (d : OnDisk) (b : ℕ) → a ≡ brought t n i d b → length t.nodes < length a.state.nodes
  brought_more n i a d b e =
      let m : MemNode = with_entries (node_at t n) (with_value i (mem (length t.nodes)) (node_at t n).entries) in
      let z : length a.state.nodes ≡ suc (length (put_node t n m).nodes) = ap (λ (x : At). length x.state.nodes) e
      ∙ add_count (put_node t n m) (adopted t.virtual b d) in
      omega (arith, put_count t n m)

  child_same : (bs : Bounds) (n i : ℕ) (g : Got Entry) → range_enters t.order lo hi (node_at t n).entries i ≡ true
      → range_child f l t bs n i ≡ ok g → length g.state.nodes ≤ length t.nodes → Same t g (held_child h t lo hi n i)
  unfolding range_child
  child_same bs n i g z e k =
      let cs : Bounds = child_bounds t.order bs (node_at t n).entries i in
      let next : At → Result (Got Entry) = λ c. f c.state cs c.slot in
      let (a, p, q) = bind_ok (load_child l t bs n i) next g e in
      by_load l t bs n i a p
      (λ c v w.
      let q' : f t cs c ≡ ok g = rw w at q in
      let (x, y) = same cs c g q' k in
      (x, in_slot bs n i c z v ∙ y))
      (λ r d b v w x y u. absurd (omega (arith, brought_more n i a d b u, ((loads a.state cs a.slot).at g q).longer)))

  kids_same : (m i : ℕ) (bs : Bounds) (n : ℕ) (g : Got Entry) → range_kids f l t bs n lo hi m i ≡ ok g → length g.state.nodes ≤ length t.nodes
      → Same t g (held_kids h t lo hi n m i)
  unfolding held_kids held_child range_kids
  kids_same zero i bs n g e k =
      let q : record { state = t; answer = [] } ≡ g = cc in
      (sym (ap (λ (x : Got Entry). x.state) q), ap (λ (x : Got Entry). x.answer) q)
  kids_same (suc m) i bs n g e k =
      by_test (range_enters t.order lo hi (node_at t n).entries i)
      (λ r.
      let third : Got Entry → Got Entry → Result (Got Entry) = λ x y. ok (record { state = y.state; answer = x.answer ++ y.answer }) in
      let second : Got Entry → Result (Got Entry) = λ x. range_kids f l x.state bs n lo hi m (suc i) >>= third x in
      let e' : (range_child f l t bs n i >>= second) ≡ ok g = sym (kids_child f l t bs n lo hi m i r) ∙ e in
      let (x, p, q) = bind_ok (range_child f l t bs n i) second g e' in
      let (y, u, v) = bind_ok (range_kids f l x.state bs n lo hi m (suc i)) (third x) g q in
      let w : record { state = y.state; answer = x.answer ++ y.answer } ≡ g = cc in
      let wn : length y.state.nodes ≡ length g.state.nodes = ap (λ (z : Got Entry). length z.state.nodes) w in
      let (a, b) = child_same bs n i x r p (omega (arith, ((kids_load f l loads x.state bs n lo hi m (suc i)).at y u).longer)) in
      let u' : range_kids f l t bs n lo hi m (suc i) ≡ ok y = ap (λ (s : State). range_kids f l s bs n lo hi m (suc i)) (sym a) ∙ u in
      let (c, d) = kids_same m (suc i) bs n y u' (omega arith) in (
        sym (ap (λ (z : Got Entry). z.state) w) ∙ c,
        ap₂ (λ (z z' : List Entry). z ++ z') b d ∙ ap (λ (z : Got Entry). z.answer) w,
      ))
      (λ r. let (a, b) = kids_same m (suc i) bs n g (rw r at e) k in (a, rw r b))

range_same : (d : ℕ) (l : Lent) (lo : List ℕ) (hi : List (List ℕ)) (t : State) (bs : Bounds) (n : ℕ) (g : Got Entry)
    → range_from d l lo hi t bs n ≡ ok g → length g.state.nodes ≤ length t.nodes → Same t g (range_held d t lo hi n)
unfolding range_from range_held
range_same zero l lo hi t bs n g e k =
    let q : record { state = t; answer = between t.order lo hi (node_at t n).entries } ≡ g = cc in
    (sym (ap (λ (x : Got Entry). x.state) q), ap (λ (x : Got Entry). x.answer) q)
range_same (suc d) l lo hi t bs n g e k =
    kids_same (range_from d l lo hi) (range_held d t lo hi) l lo hi t (λ s cs m. range_load d l lo hi s cs m)
    (λ cs c g' e' k'. range_same d l lo hi t cs c g' e' k') (length (node_at t n).entries) 0 bs n g e k

-- what an accepted range found lies in the slots that it left
pub held_later : (d : ℕ) (l : Lent) (lo : List ℕ) (hi : List (List ℕ)) (s : State) (bs : Bounds) (n : ℕ) (g : Got Entry) → Stands all all s
    → (node_at s n).dead ≡ false → (node_at s n).level ≡ d → range_from d l lo hi s bs n ≡ ok g → range_held d g.state lo hi n ≡ g.answer
held_later d l lo hi s bs n g st live lv e =
    (range_same d l lo hi g.state bs n g (range_later d l lo hi s bs n g st live lv e g.state bs (loads_refl l g.state)) (omega arith)).1

pub held_again : (l : Lent) (lo : List ℕ) (hi : List (List ℕ)) (s : State) (g : Got Entry) → trusted l s ≡ true
    → range_from (node_at s s.root).level l lo hi s unbounded s.root ≡ ok g
    → range_held (node_at s s.root).level g.state lo hi s.root ≡ g.answer
held_again l lo hi s g h e =
    let st = (trusted_of l s h).1 in
    held_later (node_at s s.root).level l lo hi s unbounded s.root g st st.root refl e

-- ---- what the slots hold can be stored

between_storable : (o : ℕ) (lo : List ℕ) (hi : List (List ℕ)) (es : List Entry) → Storables es → Storables (between o lo hi es)
unfolding between
between_storable o lo hi [] none = none
between_storable o lo hi (e ∷ es) (more s ss) =
    by_test (not (less o e.key lo) && ends_above o hi e.key)
    (λ z. rw z (more s (between_storable o lo hi es ss)))
    (λ z. rw z (between_storable o lo hi es ss))

both_storable : (x y : List Entry) → Storables x → Storables y → Storables (x ++ y)
both_storable [] y none t = t
both_storable (e ∷ x) y (more s ss) t = more s (both_storable x y ss t)

module _ (f : ℕ → List Entry) (s : State) (lo : List ℕ) (hi : List (List ℕ)) (n : ℕ) (each : (c : ℕ) → Storables (f c)) where
  below_storable : (v : Val) → Storables (held_below f v)
  unfolding held_below
  below_storable v = by_val v (λ q. rw q none) (λ b q. rw q none) (λ r q. rw q none) (λ c q. rw q (each c))

  child_storable : (i : ℕ) → Storables (held_child f s lo hi n i)
  unfolding held_child
  child_storable i =
      by_test (range_enters s.order lo hi (node_at s n).entries i)
      (λ z. rw z (below_storable (val_at (node_at s n).entries i)))
      (λ z. rw z none)

  kids_storable : (m i : ℕ) → Storables (held_kids f s lo hi n m i)
  unfolding held_kids
  kids_storable zero i = none
  kids_storable (suc m) i = both_storable (held_child f s lo hi n i) (held_kids f s lo hi n m (suc i)) (child_storable i) (kids_storable m (suc i))

held_storable : (d : ℕ) (s : State) (lo : List ℕ) (hi : List (List ℕ)) → ((n : ℕ) → Storables (node_at s n).entries) → (n : ℕ)
    → Storables (range_held d s lo hi n)
unfolding range_held
held_storable zero s lo hi k n = between_storable s.order lo hi (node_at s n).entries (k n)
held_storable (suc d) s lo hi k n =
    kids_storable (range_held d s lo hi) s lo hi n (λ c. held_storable d s lo hi k c) (length (node_at s n).entries) 0

module _ (size slots : ℕ) (t : Tree) (heads bytes : List ℕ) (r : Ready size slots t.used heads bytes) (b : Bytes bytes) where
  slot_storable : (n : ℕ) → n < t.used → Storables (node_at (state_of size t heads bytes) n).entries
  unfolding node_in slot_bytes
  slot_storable n h =
      let l : List ℕ = slot_bytes size bytes n in
      rw (node_in_lem size t heads bytes n h, live_entries (head_at heads n) (slot_bytes size bytes n))
      (records_storable (live (head_at heads n)).count l (slot_room size slots t.used n heads bytes r h l refl (live (head_at heads n)) refl)
      (bytes_window _ _ bytes b))

  node_storable : (n : ℕ) → Storables (node_at (state_of size t heads bytes) n).entries
  unfolding no_node
  node_storable n =
      by_test (ltb n t.used)
      (λ z. slot_storable n (ltb-true n t.used z))
      (λ z. rw (node_out size t heads bytes n (ltb-false n t.used z)) none)

  pub range_storable : (d : ℕ) (lo : List ℕ) (hi : List (List ℕ)) (n : ℕ) → Storables (range_held d (state_of size t heads bytes) lo hi n)
  range_storable d lo hi n = held_storable d (state_of size t heads bytes) lo hi node_storable n
