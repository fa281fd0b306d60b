-- Laws of get, floor and the way where every child on a key's way is loaded. Assumes nothing.
use Rattle.std.specs.Prelude.{◌≡◌, refl, List, [], ◌∷◌, true, ℕ, ◌+◌, ◌-◌, ◌≤◌, ◌<◌, length, take, drop, eqb}
use Rattle.std.proofs.Common.{sym, ap, ◌∙◌, arith, eq-eqb}
use Rattle.std.proofs.Math.ListN.{get_or}
use Rattle.node.specs.Order.{keyed}
use Rattle.node.specs.Result.{Result}
use Rattle.node.specs.Entry.{Entry, Val, ghost}
use Rattle.node.specs.Bytes.{splice}
use Rattle.node.specs.laws.base.Bytes.{Bytes}
use Rattle.node.specs.Records.{record_length, records_length, entries_of}
use Rattle.node.specs.Slot.{head_at, suits}
use Rattle.node.specs.internal.SlotSteps.{last_in}
use Rattle.node.specs.declared.head.Head.{Head}
use Rattle.node.specs.declared.slot.Last as found
use Rattle.tree.specs.Lent as lent
use Rattle.tree.specs.Lent.{lent_of}
use Rattle.tree.specs.State.{State, node_at}
use Rattle.tree.specs.Load.{unbounded}
use Rattle.tree.specs.Lookup as lookup
use Rattle.tree.specs.Trust.{trusted}
use Rattle.tree.specs.Workspace.{slot_bytes, state_of}
use Rattle.tree.specs.Answers.{got_means, got_output, floor_means, floored_output}
use Rattle.tree.specs.internal.Bank.{live, Ready, ReadyBy, ReadyAfter}
use Rattle.tree.specs.internal.Edits.{Trusts}
use Rattle.tree.specs.internal.Way.{way_of}
use Rattle.tree.specs.internal.Get.{got_held, held_at, got_at, GotCalled}
use Rattle.tree.specs.internal.Floor.{entry_in, EntryReady, floored_of, FloorCalled, SpotIs}
use Rattle.tree.specs.internal.Loaded.{LeadsTo, Walked}
use Rattle.tree.specs.laws.trust.Stands.{Stands, all, trusted_of}
use Rattle.tree.specs.laws.trust.Loads.{WayLoaded, way_loaded}
use Rattle.tree.specs.laws.trust.Edit.{down_leaf}
use Rattle.tree.specs.laws.lookup.GetCall.{rows_suit, got_trusts}
use Rattle.tree.specs.laws.lookup.FloorCall.{floor_trusts}
use Rattle.tree.specs.laws.lookup.FloorLeaf.{above_one, count_above, floor_at_ready}
use Rattle.tree.specs.laws.lookup.FloorLeaf.{entry_lies, record_refused, record_refused_same, record_copied, record_copied_out}
use Rattle.tree.specs.laws.slots.Undo.{follows_same}
use Rattle.tree.specs.laws.load.LoadedWay.{Arrives, leads_way, leads_floor}
use Rattle.tree.specs.declared.editor.Tree.{Tree}
use Rattle.tree.specs.declared.lent.Lent.{Lent}
use Rattle.tree.specs.declared.way.Way.{Way}
use Rattle.tree.specs.declared.floor.Spot.{Spot}
use Rattle.std.specs.Prelude as std
use Rattle.std.specs.Prelude.{Ok, Err, Some, Option}
use Rattle.node.specs.declared.refusal.Refusal.{Refusal}
use Rattle.node.specs.declared.refusal.Refusal.TheVariants as is
use Rattle.tree.specs.declared.get.Copied.{Copied}

-- ---- get

-- the leaf of a trusted tree holds no children
leads_suits : (l : lent.Lent) (s : State) (k : List ℕ) (m : ℕ) → trusted l s ≡ true → LeadsTo (node_at s s.root).level s k m s.root
    → suits true (node_at s m).entries ≡ true
leads_suits l s k m tr h =
    let st : Stands all all s = (trusted_of l s tr).1 in
    let a : Arrives s m (lookup.way_from (node_at s s.root).level l s unbounded s.root k) =
    leads_way (node_at s s.root).level l s unbounded k m s.root h in
    let w : WayLoaded l all all s s.root s (a.top ∷ a.rest) =
    (way_loaded (node_at s s.root).level l all all s unbounded s.root k st st.root refl).at
    (record { state = s; steps = a.top ∷ a.rest }) a.way in
    let (dead, low) = down_leaf s (a.top ∷ a.rest) w.down in
    let q = st.rows (lookup.leaf_of (a.top ∷ a.rest)) dead in
    let u : eqb (node_at s (lookup.leaf_of (a.top ∷ a.rest))).level 0 ≡ true = eq-eqb (node_at s (lookup.leaf_of (a.top ∷ a.rest))).level 0 low in
    ap (λ (n : ℕ). suits true (node_at s n).entries) (sym a.leaf)
    ∙ rows_suit s.order s.info (node_at s (lookup.leaf_of (a.top ∷ a.rest))).entries (rw u at q)

module _ (image : List ℕ) (l : Lent) (t : Tree) (h b : List ℕ) (c : Trusts image l t h b) (key : List ℕ) where
  module _ (m : ℕ) (k : keyed (state_of l.size t h b).order key ≡ true)
      (q : LeadsTo (node_at (state_of l.size t h b) (state_of l.size t h b).root).level (state_of l.size t h b) key m
      (state_of l.size t h b).root) where
    pub leaf_suits : suits true (node_at (state_of l.size t h b) m).entries ≡ true
    leaf_suits = leads_suits (lent_of image l) (state_of l.size t h b) key m c.trust q

    got_is : (room : ℕ) → lookup.get_in (lent_of image l) (state_of l.size t h b) room key ≡ got_at (state_of l.size t h b) room m key
    unfolding lookup.get_in lookup.way got_at got_held held_at
    got_is room =
        let s : State = state_of l.size t h b in
        let a : Arrives s m (lookup.way_from (node_at s s.root).level (lent_of image l) s unbounded s.root key) =
        leads_way (node_at s s.root).level (lent_of image l) s unbounded key m s.root q in
        rw (k, a.way, a.leaf)

    pub leaf_answer : (room : ℕ) (y : Result (lookup.Got Val)) → y ≡ got_at (state_of l.size t h b) room m key
        → y ≡ lookup.get_in (lent_of image l) (state_of l.size t h b) room key
    leaf_answer room y e = e ∙ sym (got_is room)

    pub leaf_output : (o out : List ℕ) → o ≡ got_output out (got_at (state_of l.size t h b) (length out) m key)
        → o ≡ got_output out (lookup.get_in (lent_of image l) (state_of l.size t h b) (length out) key)
    leaf_output o out e = e ∙ ap (got_output out) (sym (got_is (length out)))

  -- slots that nothing was written to
  pub got_left : (out : List ℕ) (room : ℕ) (g : std.Result (Tree × Option Copied) Refusal)
      → got_means l.size h b out g ≡ lookup.get_in (lent_of image l) (state_of l.size t h b) room key
      → ReadyAfter l.size l.slots h b g → GotCalled image l t h b h b g
  got_left out room (Err x) e r = (refl, c.ready)
  got_left out room (Ok (u, v)) e r = got_trusts image l t h b c h b key out room (Ok (u, v)) e r u v refl

  -- ---- floor

  pub floor_left : (out : List ℕ) (room : ℕ) (g : std.Result (Tree × Option ℕ) Refusal)
      → floor_means l.size h b out g ≡ lookup.floor_in (lent_of image l) (state_of l.size t h b) room key
      → ReadyAfter l.size l.slots h b g → FloorCalled image l t h b h b g
  floor_left out room (Err x) e r = (refl, c.ready)
  floor_left out room (Ok (u, n)) e r = floor_trusts image l t h b c h b key out room (Ok (u, n)) e r u n refl

  module _ (r : Spot) (q : SpotIs l.size l.slots t h b key r) where
    pub spot_answer : (room : ℕ) (y : Result (lookup.Got Entry))
        → y ≡ floored_of room (entry_in (state_of l.size t h b) r.slot r.index)
        → y ≡ lookup.floor_in (lent_of image l) (state_of l.size t h b) room key
    spot_answer room y e = e ∙ sym (q.answer (lent_of image l) room)

module _ (size slots : ℕ) (t : Tree) (heads bytes key : List ℕ) where
  module _ (n : ℕ) (k : keyed (state_of size t heads bytes).order key ≡ true)
      (q : LeadsTo (node_at (state_of size t heads bytes) (state_of size t heads bytes).root).level (state_of size t heads bytes) key n
      (state_of size t heads bytes).root) (r : Ready size slots t.used heads bytes) (c : ℕ) (l : List ℕ)
      (ec : (node_at (state_of size t heads bytes) n).entries ≡ entries_of c l) (el : l ≡ slot_bytes size bytes n) (x : found.Last)
      (ex : x ≡ last_in t.order.code key c l) (z : x.count ≡ 0 → ⊥) where
    at_is : x.at ≡ records_length (x.count - 1) (slot_bytes size bytes n)
    unfolding last_in
    at_is = rw (ex, el)

    spot_floor : (v : lent.Lent) (room : ℕ) → lookup.floor_in v (state_of size t heads bytes) room key
        ≡ floored_of room (entry_in (state_of size t heads bytes) n (x.count - 1))
    unfolding lookup.floor_in floored_of entry_in state_of
    spot_floor v room =
        let s : State = state_of size t heads bytes in
        let e : Entry = get_or (node_at s n).entries (x.count - 1) (record { key = []; value = ghost }) in
        let o = above_one t.order.code key (node_at s n).entries (x.count - 1)
        (omega (arith, count_above size t heads bytes key n c l ec x ex)) in
        let f = leads_floor (node_at s s.root).level v s unbounded key n s.root e q o in
        rw (k, f)

    pub spot_is : SpotIs size slots t heads bytes key (record { slot = n; index = x.count - 1; at = x.at })
    spot_is = record { ready = floor_at_ready size t heads bytes key n c l ec x ex z slots r; lies = at_is; answer = spot_floor }

-- ---- a record copied from where it lies

pub spot_at : (size : ℕ) (bytes l : List ℕ) (n i at : ℕ) → l ≡ slot_bytes size bytes n → at ≡ records_length i l
    → at ≡ records_length i (slot_bytes size bytes n)
spot_at size bytes l n i at el ea = ea ∙ ap (records_length i) el

module _ (size slots : ℕ) (t : Tree) (heads bytes : List ℕ) (r : Spot) (k : EntryReady size slots t heads bytes r.slot r.index)
    (e : r.at ≡ records_length r.index (slot_bytes size bytes r.slot)) (l : List ℕ) (el : l ≡ slot_bytes size bytes r.slot) where
  abbrev h : Head
  h = live (head_at heads r.slot)

  at_in : r.at ≡ records_length r.index l
  at_in = e ∙ ap (records_length r.index) (sym el)

  pub spot_room : r.at + record_length (drop r.at l) ≤ length l
  spot_room = entry_lies size slots t heads bytes r.slot r.index k h refl l el r.at at_in

  module _ (end : ℕ) (ee : end ≡ r.at + record_length (drop r.at l)) (out : List ℕ) where
    module _ (q : length out < end - r.at) where
      pub spot_refused : floor_means size heads bytes out (Err is.Output) ≡ floored_of (length out)
          (entry_in (state_of size t heads bytes) r.slot r.index)
      spot_refused = record_refused size slots t heads bytes r.slot r.index k h refl l el r.at at_in end ee out q

      pub spot_refused_same : out ≡ floored_output out (floored_of (length out) (entry_in (state_of size t heads bytes) r.slot r.index))
      spot_refused_same = record_refused_same size slots t heads bytes r.slot r.index k h refl l el r.at at_in end ee out q

    module _ (q : end - r.at ≤ length out) (out' : List ℕ) (eo : out' ≡ splice out 0 (take (end - r.at) (drop r.at l))) where
      pub spot_copied : floor_means size heads bytes out' (Ok (t, Some (end - r.at))) ≡ floored_of (length out)
          (entry_in (state_of size t heads bytes) r.slot r.index)
      spot_copied = record_copied size slots t heads bytes r.slot r.index k h refl l el r.at at_in end ee out q out' eo

      pub spot_copied_out : Bytes l
          → out' ≡ floored_output out (floored_of (length out) (entry_in (state_of size t heads bytes) r.slot r.index))
      spot_copied_out b = record_copied_out size slots t heads bytes r.slot r.index k h refl l el r.at at_in end ee out q out' eo b

-- ---- the way

module _ (size : ℕ) (t : Tree) (heads bytes : List ℕ) (level : ℕ) (key : List ℕ) (r : Option Way) (q : Walked size t heads bytes level key r)
    (w : Way) (e : r ≡ Some w) where
  pub walked_way : (l : lent.Lent) → way_of size heads bytes (Ok w) ≡ lookup.way_from level l (state_of size t heads bytes) unbounded t.root key
  walked_way l = q.arrives w e l

  pub walked_ready : (slots : ℕ) → Ready size slots t.used heads bytes → ReadyBy (λ w. w.tree) size slots heads bytes (Ok w)
  walked_ready slots x = rw (q.same w e) x

pub ruleset copy_at_laws = (spot_room, spot_refused, spot_refused_same, spot_copied, spot_copied_out)

pub ruleset way_laws = (walked_way, walked_ready, follows_same)
