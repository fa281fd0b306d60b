-- A range over a state that an accepted range left answers the same entries and loads nothing: what counts first may write after. Assumes nothing.
use Rattle.std.specs.Prelude.{◌≡◌, refl, true, false, ◌&&◌, not, ℕ, zero, suc, ◌<◌, length, leb}
use Rattle.std.proofs.Common.{sym, ap₂, ◌∙◌, arith, eq-eqb}
use Rattle.std.proofs.Math.Path.{ap}
use mathlib.Core.List.{List, [], ◌∷◌, ◌++◌}
use Rattle.std.proofs.lemmas.Bool.{not-true}
use Rattle.node.specs.Result.{Result, ok, ◌>>=◌, ◌>>◌, check}
use Rattle.node.specs.Refusals as refusal
use Rattle.node.specs.Order.{keyed}
use Rattle.node.specs.Entry.{Entry, Val, disk, mem, every}
use Rattle.node.specs.Find.{val_at}
use Rattle.node.specs.Records.{records_of}
use Rattle.node.specs.Slot.{is_child, suit, key_length_holds, value_holds, entry_holds}
use Rattle.node.specs.declared.info.BTreeInfo.{BTreeInfo}
use Rattle.node.specs.laws.base.Tests.{by_test, never, and_split, and_right}
use Rattle.node.specs.laws.base.Results.{bind_ok, checked_ok}
use Rattle.tree.specs.Lent.{Lent}
use Rattle.tree.specs.State.{State, node_at}
use Rattle.tree.specs.Load.{Bounds, unbounded, child_bounds, At, load_child}
use Rattle.tree.specs.Lookup.{Got, between, range_enters, range_kids, range_from, range_in}
use Rattle.tree.specs.Trust.{trusted}
use Rattle.tree.specs.laws.state.State.{keys_of}
use Rattle.tree.specs.laws.state.Load.{load_child_lem, load_there}
use Rattle.tree.specs.laws.load.Way.{same_keys}
use Rattle.tree.specs.laws.trust.Named.{live_used}
use Rattle.tree.specs.laws.trust.Stands.{Stands, all, trusted_of}
use Rattle.tree.specs.laws.trust.Loads.{Loads, loads_refl, loads_then, Loaded, loaded_then, load_loaded, load_below, kids_loaded, range_loaded}

-- ---- entries by their keys and values

pub keys_length_lem : (es : List Entry) → length (keys_of es) ≡ length es
keys_length_lem [] = refl
keys_length_lem (e ∷ es) = ap suc (keys_length_lem es)

pub keys_same : (es fs : List Entry) → keys_of es ≡ keys_of fs → length es ≡ length fs
keys_same es fs q = sym (keys_length_lem es) ∙ ap length q ∙ keys_length_lem fs

-- the same keys and the same values: the same entries
pub entries_same : (es fs : List Entry) → keys_of es ≡ keys_of fs → ((j : ℕ) → val_at es j ≡ val_at fs j) → es ≡ fs
unfolding val_at
entries_same [] [] q h = refl
entries_same [] (f ∷ fs) q h = let z : ◌≡◌ {A = ℕ} 0 (suc (length (keys_of fs))) = ap length q in absurd (omega arith)
entries_same (e ∷ es) [] q h = let z : ◌≡◌ {A = ℕ} (suc (length (keys_of es))) 0 = ap length q in absurd (omega arith)
entries_same (e ∷ es) (f ∷ fs) q h =
    let k : e.key ≡ f.key = cc in
    let r : keys_of es ≡ keys_of fs = cc in
    let a : e ≡ f = ap₂ (λ (x : List ℕ) (y : Val). record { key = x; value = y }) k (h 0) in
    ap₂ (λ (x : Entry) (y : List Entry). x ∷ y) a (entries_same es fs r (λ j. h (suc j)))

-- whether range enters a child is read off the keys
enters_same : (o : ℕ) (lo : List ℕ) (hi : List (List ℕ)) (es fs : List Entry) (i : ℕ) → keys_of es ≡ keys_of fs
    → range_enters o lo hi es i ≡ range_enters o lo hi fs i
unfolding range_enters
enters_same o lo hi es fs i q = rw (same_keys es fs i q, same_keys es fs (suc i) q, keys_same es fs q)

-- a leaf holds no child
leaf_value : (o : ℕ) (t : BTreeInfo) (es : List Entry) (j r : ℕ) → every (entry_holds o t true) es ≡ true → val_at es j ≡ disk r → ⊥
unfolding every val_at entry_holds suit is_child
leaf_value o t [] j r h q = let z : ◌≡◌ {A = ℕ} 0 1 = cc in omega arith
leaf_value o t (e ∷ es) zero r h q =
    let (a, b) = and_split (entry_holds o t true e) (every (entry_holds o t true) es) h in
    let c : not (is_child e.value) ≡ true = and_right (key_length_holds o t (length e.key) && value_holds t e.value) (not (is_child e.value)) a
    in
    never (ap is_child q) (not-true (is_child e.value) c)
leaf_value o t (e ∷ es) (suc j) r h q =
    let (a, b) = and_split (entry_holds o t true e) (every (entry_holds o t true) es) h in
    leaf_value o t es j r b q

-- so a leaf is as it was, whatever was loaded since
pub leaf_loads : (l : Lent) (w v : ℕ → ℕ) (s t : State) (n : ℕ) → Stands w v s → Loads l s t → (node_at s n).dead ≡ false → (node_at s n).level ≡ 0
    → (node_at t n).entries ≡ (node_at s n).entries
leaf_loads l w v s t n st a live lv =
    let used : n < length s.nodes = live_used s n live in
    let rows : every (entry_holds s.order s.info true) (node_at s n).entries ≡ true = rw (eq-eqb (node_at s n).level 0 lv) at (st.rows n live)
    in
    entries_same (node_at t n).entries (node_at s n).entries (a.keys n used)
    (λ j. a.vals n j used (λ r q. leaf_value s.order s.info (node_at s n).entries j r rows q))

-- ---- a range again, after more was loaded

abbrev Later : (State → Bounds → ℕ → Result (Got Entry)) → Lent → State → ℕ → Got Entry → Type 0
Later f l s n g = (t : State) (bs : Bounds) → Loads l g.state t → f t bs n ≡ ok (record { state = t; answer = g.answer })

-- what is so of the ranges of children is so of those of a node
module _ (f : State → Bounds → ℕ → Result (Got Entry)) (l : Lent) (level : ℕ) (lo : List ℕ) (hi : List (List ℕ))
    (loads : (s : State) (bs : Bounds) (n : ℕ) (g : Got Entry) → Stands all all s → f s bs n ≡ ok g → Loaded l all all s g.state)
    (later : (s : State) (bs : Bounds) (n : ℕ) (g : Got Entry) → Stands all all s → (node_at s n).dead ≡ false → (node_at s n).level ≡ level
    → f s bs n ≡
    ok g → Later f l s n g) where
  record Entered (s : State) (bs : Bounds) (n m i : ℕ) (g : Got Entry) : Type 0 where
    at : At
    child : load_child l s bs n i ≡ ok at
    first : Got Entry
    found : f at.state (child_bounds s.order bs (node_at s n).entries i) at.slot ≡ ok first
    rest : Got Entry
    others : range_kids f l first.state bs n lo hi m (suc i) ≡ ok rest
    whole : g ≡ record { state = rest.state; answer = first.answer ++ rest.answer }

  entered : (s : State) (bs : Bounds) (n m i : ℕ) (g : Got Entry) → range_enters s.order lo hi (node_at s n).entries i ≡ true
      → range_kids f l s bs n lo hi (suc m) i ≡ ok g → Entered s bs n m i g
  unfolding range_kids
  entered s bs n m i g z e =
      let cs : Bounds = child_bounds s.order bs (node_at s n).entries i in
      let third : Got Entry → Got Entry → Result (Got Entry) = λ x h. ok (record { state = h.state; answer = x.answer ++ h.answer }) in
      let second : Got Entry → Result (Got Entry) = λ x. range_kids f l x.state bs n lo hi m (suc i) >>= third x in
      let next : At → Result (Got Entry) = λ c. f c.state cs c.slot >>= second in
      let e' : (load_child l s bs n i >>= next) ≡ ok g = rw z at e in
      let (a, p, q) = bind_ok (load_child l s bs n i) next g e' in
      let (x, y, u) = bind_ok (f a.state cs a.slot) second g q in
      let (h, k, v) = bind_ok (range_kids f l x.state bs n lo hi m (suc i)) (third x) g u in
      record { at = a; child = p; first = x; found = y; rest = h; others = k; whole = cc }

  passed : (s : State) (bs : Bounds) (n m i : ℕ) → range_enters s.order lo hi (node_at s n).entries i ≡ false
      → range_kids f l s bs n lo hi (suc m) i ≡ range_kids f l s bs n lo hi m (suc i)
  unfolding range_kids
  passed s bs n m i z = rw z

  kids_step : (t : State) (bs : Bounds) (n m i c : ℕ) (a b : List Entry) → range_enters t.order lo hi (node_at t n).entries i ≡ true
      → val_at (node_at t n).entries i ≡ mem c
      → f t (child_bounds t.order bs (node_at t n).entries i) c ≡ ok (record { state = t; answer = a })
      → range_kids f l t bs n lo hi m (suc i) ≡ ok (record { state = t; answer = b })
      → range_kids f l t bs n lo hi (suc m) i ≡ ok (record { state = t; answer = a ++ b })
  unfolding range_kids
  kids_step t bs n m i c a b z q x y = rw (z, load_there l t bs n i c q, x, y)

  kids_loads : (s : State) (bs : Bounds) (n m i : ℕ) (g : Got Entry) → Stands all all s → range_kids f l s bs n lo hi m i ≡ ok g
      → Loaded l all all s g.state
  kids_loads s bs n m i g st e = (kids_loaded f l all all (λ t cs k h. record { at = λ x q. loads t cs k x h q }) s bs n lo hi m i st).at g e

  none_later : (s : State) (bs : Bounds) (n i : ℕ) (g : Got Entry) → range_kids f l s bs n lo hi 0 i ≡ ok g → (t : State) (bs' : Bounds)
      → range_kids f l t bs' n lo hi 0 i ≡ ok (record { state = t; answer = g.answer })
  unfolding range_kids
  none_later s bs n i g e t bs' = let q : record { state = s; answer = [] } ≡ g = cc in ap
      (λ (h : Got Entry). ok (record { state = t; answer = h.answer })) q

  kids_later : (m i : ℕ) (s : State) (bs : Bounds) (n : ℕ) (g : Got Entry) → Stands all all s → (node_at s n).dead ≡ false
      → (node_at s n).level ≡ suc level → range_kids f l s bs n lo hi m i ≡ ok g
      → (t : State) (bs' : Bounds) → Loads l g.state t → range_kids f l t bs' n lo hi m i ≡ ok (record { state = t; answer = g.answer })
  kids_later zero i s bs n g st live lv e t bs' a = none_later s bs n i g e t bs'
  kids_later (suc m) i s bs n g st live lv e t bs' a =
      let k = kids_loads s bs n (suc m) i g st e in
      let s_t : Loads l s t = loads_then l s g.state t k.loads a in
      let used : n < length s.nodes = live_used s n live in
      let same : range_enters t.order lo hi (node_at t n).entries i ≡ range_enters s.order lo hi (node_at s n).entries i =
      enters_same t.order lo hi (node_at t n).entries (node_at s n).entries i (s_t.keys n used) ∙ ap
      (λ (o : ℕ). range_enters o lo hi (node_at s n).entries i) s_t.order in
      by_test (range_enters s.order lo hi (node_at s n).entries i)
      (λ z.
      let r = entered s bs n m i g z e in
      let c = (load_loaded l all all s bs n i st).at r.at r.child in
      let b = load_below l all all s bs n i r.at st live r.child in
      let x = loads r.at.state _ r.at.slot r.first c.stands r.found in
      let s-x = loaded_then l all all s r.at.state r.first.state c x in
      let y = kids_loads r.first.state bs n m (suc i) r.rest x.stands r.others in
      let g_t : Loads l r.rest.state t = rw r.whole at a in
      let f_t : Loads l r.first.state t = loads_then l r.first.state r.rest.state t y.loads g_t in
      let a_t : Loads l r.at.state t = loads_then l r.at.state r.first.state t x.loads f_t in
      let q : val_at (node_at t n).entries i ≡ mem r.at.slot = a_t.mems n i r.at.slot (load_child_lem l s bs n i r.at r.child) in
      let one = later r.at.state _ r.at.slot r.first c.stands b.live (omega (arith, b.lower)) r.found t
      (child_bounds t.order bs' (node_at t n).entries i) f_t in
      let two = kids_later m (suc i) r.first.state bs n r.rest x.stands (s-x.loads.dead n used ∙ live) (s-x.loads.level n used ∙ lv)
      r.others t bs' g_t in
      kids_step t bs' n m i r.at.slot r.first.answer r.rest.answer (same ∙ z) q one two
      ∙ ap (λ (h : Got Entry). ok (record { state = t; answer = h.answer })) (sym r.whole))
      (λ z.
      let e' : range_kids f l s bs n lo hi m (suc i) ≡ ok g = sym (passed s bs n m i z) ∙ e in
      passed t bs' n m i (same ∙ z) ∙ kids_later m (suc i) s bs n g st live lv e' t bs' a)

leaf_later : (l : Lent) (lo : List ℕ) (hi : List (List ℕ)) (s : State) (bs : Bounds) (n : ℕ) (g : Got Entry) → Stands all all s
    → (node_at s n).dead ≡ false → (node_at s n).level ≡ 0 → range_from 0 l lo hi s bs n ≡ ok g
    → (t : State) (bs' : Bounds) → Loads l g.state t → range_from 0 l lo hi t bs' n ≡ ok (record { state = t; answer = g.answer })
unfolding range_from
leaf_later l lo hi s bs n g st live lv e t bs' a =
    let q : record { state = s; answer = between s.order lo hi (node_at s n).entries } ≡ g = cc in
    let a' : Loads l s t = rw (← q) at a in
    let x : between t.order lo hi (node_at t n).entries ≡ between s.order lo hi (node_at s n).entries =
    ap₂ (λ (o : ℕ) (es : List Entry). between o lo hi es) a'.order (leaf_loads l all all s t n st a' live lv) in
    ap (λ (y : List Entry). ok (record { state = t; answer = y })) (x ∙ ap (λ (h : Got Entry). h.answer) q)

node_later : (d : ℕ) (l : Lent) (lo : List ℕ) (hi : List (List ℕ))
    → ((s : State) (bs : Bounds) (n : ℕ) (g : Got Entry) → Stands all all s → (node_at s n).dead ≡ false → (node_at s n).level ≡ d
    → range_from d l lo hi s
    bs n ≡ ok g
    → (t : State) (bs' : Bounds) → Loads l g.state t → range_from d l lo hi t bs' n ≡ ok (record { state = t; answer = g.answer }))
    → (s : State) (bs : Bounds) (n : ℕ) (g : Got Entry) → Stands all all s → (node_at s n).dead ≡ false → (node_at s n).level ≡ suc d
    → range_from (suc d) l lo hi s bs n ≡ ok g
    → (t : State) (bs' : Bounds) → Loads l g.state t → range_from (suc d) l lo hi t bs' n ≡ ok (record { state = t; answer = g.answer })
unfolding range_from
node_later d l lo hi ih s bs n g st live lv e t bs' a =
    let m : ℕ = length (node_at s n).entries in
    let k = (kids_loaded (range_from d l lo hi) l all all (λ t cs k h. range_loaded d l all all lo hi t cs k h) s bs n lo hi m 0 st).at g e in
    let s_t : Loads l s t = loads_then l s g.state t k.loads a in
    let same : length (node_at t n).entries ≡ m = keys_same (node_at t n).entries (node_at s n).entries (s_t.keys n (live_used s n live)) in
    rw same (kids_later (range_from d l lo hi) l d lo hi (λ s bs n g st q.
    (range_loaded d l all all lo hi s bs n st).at g q) ih m 0 s bs n g st live lv
    e t bs' a)

-- a range over what an accepted range left, and over every state loaded since
pub range_later : (d : ℕ) (l : Lent) (lo : List ℕ) (hi : List (List ℕ)) (s : State) (bs : Bounds) (n : ℕ) (g : Got Entry) → Stands all all s
    → (node_at s n).dead ≡ false → (node_at s n).level ≡ d → range_from d l lo hi s bs n ≡ ok g
    → (t : State) (bs' : Bounds) → Loads l g.state t → range_from d l lo hi t bs' n ≡ ok (record { state = t; answer = g.answer })
range_later zero l lo hi = leaf_later l lo hi
range_later (suc d) l lo hi = node_later d l lo hi (range_later d l lo hi)

pub range_again : (l : Lent) (lo : List ℕ) (hi : List (List ℕ)) (s : State) (g : Got Entry) → trusted l s ≡ true
    → range_from (node_at s s.root).level l lo hi s unbounded s.root ≡ ok g
    → range_from (node_at s s.root).level l lo hi g.state unbounded s.root ≡ ok g
range_again l lo hi s g h e =
    let st = (trusted_of l s h).1 in
    range_later (node_at s s.root).level l lo hi s unbounded s.root g st st.root refl e g.state unbounded (loads_refl l g.state)

-- the call again
pub range_in_again : (l : Lent) (s : State) (room : ℕ) (lo hi : List ℕ) (g : Got Entry) → trusted l s ≡ true → range_in l s room lo hi ≡ ok g
    → range_in l g.state room lo hi ≡ ok g
unfolding range_in
range_in_again l s room lo hi g h e =
    let d : ℕ = (node_at s s.root).level in
    let st = (trusted_of l s h).1 in
    let out : Got Entry → Result (Got Entry) = λ x. check refusal.output (leb (length (records_of x.answer)) room) >> ok x in
    let (k, p) = checked_ok refusal.argument (keyed s.order lo && keyed s.order hi) (range_from d l lo (hi ∷ []) s unbounded s.root >>= out) g
    e in
    let (x, y, z) = bind_ok (range_from d l lo (hi ∷ []) s unbounded s.root) out g p in
    let (o, q) = checked_ok refusal.output (leb (length (records_of x.answer)) room) (ok x) g z in
    let xg : x ≡ g = cc in
    let y' : range_from d l lo (hi ∷ []) s unbounded s.root ≡ ok g = y ∙ ap ok xg in
    let o' : leb (length (records_of g.answer)) room ≡ true = rw xg at o in
    let a = ((range_loaded d l all all lo (hi ∷ []) s unbounded s.root st).at g y').loads in
    let lv : (node_at g.state g.state.root).level ≡ d = ap (λ (j : ℕ). (node_at g.state j).level) a.root ∙ a.level s.root
    (live_used s s.root st.root) in
    let w : range_from (node_at g.state g.state.root).level l lo (hi ∷ []) g.state unbounded g.state.root ≡ ok g =
    ap₂ (λ (i j : ℕ). range_from i l lo (hi ∷ []) g.state unbounded j) lv a.root ∙ range_again l lo (hi ∷ []) s g h y' in
    let k' : keyed g.state.order lo && keyed g.state.order hi ≡ true = rw a.order k in
    rw (k', w, o')
