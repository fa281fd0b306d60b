-- Loads keep the invariant: one load of a child wherever it stands, and the way to a key. Assumes nothing.
use Rattle.std.specs.Prelude.{◌≡◌, refl, List, [], ◌∷◌, ◌++◌, false, length, take, drop, get_or}
use Rattle.std.proofs.Math.Path.{sym, ap}
use Rattle.std.proofs.Common.{ap₂, subst, ◌∙◌, le_refl, take_at, drop_at, length-take-le}
use Prim.Native.Nat.{ℕ, zero, suc, ◌+◌, ◌≤◌, ◌<◌}
use native.Mathlib.Omega.{arith}
use Rattle.std.proofs.lemmas.List.{get_or_at}
use Rattle.std.proofs.Math.Seq.{split_at}
use Rattle.node.specs.Result.{ok}
use Rattle.node.specs.laws.base.Results.{Holds, holds_ok, holds_bind}
use Rattle.node.specs.Entry.{Entry, Val, ghost, disk, mem}
use Rattle.node.specs.Find.{val_at, way_index}
use Rattle.node.specs.Slot.{MemNode, with_value, revalued}
use Rattle.tree.specs.Lent.{Lent}
use Rattle.tree.specs.Load.{Bounds, unbounded, child_bounds, adopted, At, load_child}
use Rattle.tree.specs.Lookup.{way_from, way, above}
use Rattle.tree.specs.State.{State, node_at, put_node, add_node, with_entries}
use Rattle.tree.specs.laws.state.State.{val_used}
use Rattle.tree.specs.laws.state.Load.{brought, by_load, load_child_lem}
use Rattle.history.specs.Statement.{Start, uses, Begins, Lends}
use Rattle.theorem.specs.model.Bounds.{Terms, K, KeyIn}
use Rattle.theorem.specs.model.Lazy.{node_of, cont, total, Child, Ok, ok_level, ok_live}
use Rattle.theorem.specs.model.Lift.{Parts, parts, apart_sums}
use Rattle.theorem.specs.steps.LeafAndKeys.{Once}
use Rattle.theorem.specs.steps.Way.{Reads, Owned, Still, still_refl, still_then, Led, led, Loaded, load_loaded}
use Rattle.theorem.specs.model.Good.{found, Old, Suits, Good}
use Rattle.theorem.specs.load.Loads.{live_used, Sees, rows_at, Loads, loads_refl, loads_then}
pub use Rattle.theorem.specs.load.Good.{good_root, good_owned, good_once}
use Rattle.theorem.specs.load.Good.{blocks_blind, got, got_good, got_loads}

-- ---- any load of a child of a node of the tree

with_value_lem : (v : Val) (xs : List Entry) (e : Entry) (ys : List Entry)
    → with_value (length xs) v (xs ++ e ∷ ys) ≡ xs ++ record { key = e.key; value = v } ∷ ys
unfolding with_value revalued
with_value_lem v xs e ys = rw (take_at xs (e ∷ ys) (length xs) refl, drop_at xs (e ∷ ys) (length xs) refl)

pub val_at_lem : (xs : List Entry) (e : Entry) (ys : List Entry) → val_at (xs ++ e ∷ ys) (length xs) ≡ e.value
unfolding val_at
val_at_lem xs e ys = ap (λ (z : Entry). z.value) (get_or_at xs e ys (record { key = []; value = ghost }) (length xs) refl)

node_disk : (rd at : ℕ → MemNode) (r : ℕ) → node_of rd at (disk r) ≡ rd r
unfolding node_of
node_disk rd at r = refl

own_first : (rd at : ℕ → MemNode) (f : MemNode → ℕ) (l : ℕ) (m : MemNode) → f m ≤ total rd at f l m
unfolding total
own_first rd at f zero m = le_refl _
own_first rd at f (suc l) m = omega arith

module _ (g : Start) (τ : Terms) (th : List ℕ) (begins : Begins g) (l : Lent) (lends : Lends g l) (s₀ : State)
    (rds : Reads τ (found g τ) l (Old g) s₀) where
  pub record Brought (s : State) (es : List Entry) (a : At) : Type 0 where
    pub good : Good g τ th a.state es
    pub loads : Loads τ (found g τ) s a.state

  pub load_good : (s : State) (es : List Entry) (bs : Bounds) (j n lo hi : ℕ) (xs : List Entry) (e : Entry) (ys : List Entry) (a : At)
      → Good g τ th s es → Still s₀ s
      → (node_at s n).entries ≡ xs ++ e ∷ ys → Ok τ (found g τ) (node_at s) (suc j) lo hi (node_at s n) → Owned τ (found g τ) l (Old g) s (suc j) n
      → load_child l s bs n (length xs) ≡ ok a → Brought s es a
  load_good s es bs j n lo hi xs e ys a h st row okn own eq =
      let at : val_at (node_at s n).entries (length xs) ≡ e.value = ap (λ (z : List Entry). val_at z (length xs)) row ∙ val_at_lem xs e ys in
      by_load l s bs n (length xs) a eq
      (λ c q p. subst (Brought s es) (sym p) (record { good = h; loads = loads_refl τ (found g τ) s }))
      (λ r d b q lt x y p.
      let v : e.value ≡ disk r = sym at ∙ q in
      let row' : (node_at s n).entries ≡ xs ++ record { key = e.key; value = disk r } ∷ ys =
      row ∙ ap (λ (z : Val). xs ++ record { key = e.key; value = z } ∷ ys) v in
      let node : node_of (found g τ) (node_at s) e.value ≡ found g τ r = ap (node_of (found g τ) (node_at s)) v
      ∙ node_disk (found g τ) (node_at s) r in
      let p₀ : Parts (K τ) (Child τ (Ok τ (found g τ) (node_at s) j) (node_of (found g τ) (node_at s))) lo hi (lo + K τ e.key) xs e ys =
      parts (lo + K τ e.key) xs (omega arith) (λ z. omega arith) (rw row at okn.items) in
      let okr : Ok τ (found g τ) (node_at s) j (K τ e.key) p₀.up_to (found g τ r) = rw node at p₀.own.ok in
      let old : (c : ℕ) → 1 ≤ uses c (found g τ r).block → Old g c = λ c z. own c
      (omega (
        arith,
        z,
        own_first (found g τ) (node_at s) (λ m. uses c m.block) j (found g τ r),
        ap (total (found g τ) (node_at s) (λ m. uses c m.block) j) node,
        apart_sums (found g τ) (node_at s) j (node_at s n) xs e ys row (λ m. uses c m.block),
      )) in
      let same : found g τ r ≡ adopted s.virtual b d = rds.same s _ _ r b d st (node_at s) j (K τ e.key) p₀.up_to okr old x y in
      let live : (found g τ r).dead ≡ false = ok_live τ (found g τ) (node_at s) j (K τ e.key) p₀.up_to (found g τ r) okr in
      let room : length s.nodes < g.disk.lent.slots = omega (arith, lt, lends.same_slots) in
      let to : got g τ th begins s es h n j r lo hi xs e.key ys row' okn room live (λ at i c. rds.bare at r i c) ≡ (brought s n
      (length xs) d b).state =
      sym (ap₂ (λ (z : List Entry) (m : MemNode). add_node (put_node s n (with_entries (node_at s n) z)) m)
      (ap (with_value (length xs) (mem (length s.nodes))) row ∙ with_value_lem (mem (length s.nodes)) xs e ys) (sym same)) in
      subst (Brought s es) (sym p)
      (record {
        good = subst (λ (z : State). Good g τ th z es) to
            (got_good g τ th begins s es h n j r lo hi xs e.key ys row' okn room live (λ at i c. rds.bare at r i c));
        loads = subst (Loads τ (found g τ) s) to
            (got_loads g τ th begins s es h n j r lo hi xs e.key ys row' okn room live (λ at i c. rds.bare at r i c));
      }))

  -- child e of slot n, loaded: in slot c it is what it was, its blocks are old
  pub record Below (s u : State) (j : ℕ) (e : Entry) (c : ℕ) : Type 0 where
    pub up_to : ℕ
    pub ok : Ok τ (found g τ) (node_at u) j (K τ e.key) up_to (node_at u c)
    pub holds : cont (found g τ) (node_at u) j (node_at u c) ≡ cont (found g τ) (node_at s) j (node_of (found g τ) (node_at s) e.value)
    pub owned : Owned τ (found g τ) l (Old g) u j c

  below_sees : (s u : State) (j n lo hi c : ℕ) (xs : List Entry) (e : Entry) (ys : List Entry) (v : Val) → (node_at s n).entries ≡ xs ++ e ∷ ys
      → Ok τ (found g τ) (node_at s) (suc j) lo hi (node_at s n) → Owned τ (found g τ) l (Old g) s (suc j) n
      → Sees τ (found g τ) (node_at s) (node_at u) e.value v → v ≡ mem c → Below s u j e c
  unfolding node_of
  below_sees s u j n lo hi c xs e ys v row okn own see is =
      let p₀ : Parts (K τ) (Child τ (Ok τ (found g τ) (node_at s) j) (node_of (found g τ) (node_at s))) lo hi (lo + K τ e.key) xs e ys =
      parts (lo + K τ e.key) xs (omega arith) (λ z. omega arith) (rw row at okn.items) in
      let m = see.means j (K τ e.key) p₀.up_to p₀.own.ok in
      let node : node_of (found g τ) (node_at u) v ≡ node_at u c = ap (node_of (found g τ) (node_at u)) is in
      record {
        up_to = p₀.up_to;
        ok = rw node at m.ok;
        holds = ap (cont (found g τ) (node_at u) j) (sym node) ∙ m.holds;
        owned = λ a z.
            let f : MemNode → ℕ = λ m. uses a m.block in
            own a (omega (
              arith,
              z,
              ap (total (found g τ) (node_at u) f j) node,
              m.sums f (blocks_blind a),
              apart_sums (found g τ) (node_at s) j (node_at s n) xs e ys row f,
            ));
      }

  pub below : (s : State) (bs : Bounds) (j n lo hi : ℕ) (xs : List Entry) (e : Entry) (ys : List Entry) (a : At)
      → (node_at s n).entries ≡ xs ++ e ∷ ys
      → Ok τ (found g τ) (node_at s) (suc j) lo hi (node_at s n) → Owned τ (found g τ) l (Old g) s (suc j) n → load_child l s bs n (length xs) ≡ ok a
      → Loads τ (found g τ) s a.state
      → Below s a.state j e a.slot
  below s bs j n lo hi xs e ys a row okn own eq ld =
      let used : n < length s.nodes = live_used s n (ok_live τ (found g τ) (node_at s) (suc j) lo hi (node_at s n) okn) in
      below_sees s a.state j n lo hi a.slot xs e ys (val_at (node_at a.state n).entries (length xs)) row okn own
      (rows_at τ (found g τ) (node_at s) (node_at a.state) xs e ys (node_at a.state n).entries (rw row at (ld.rows n used)))
      (load_child_lem l s bs n (length xs) a eq)

  -- a load accepted at an index: the entry there
  pub record Taken (s : State) (es : List Entry) (j n i : ℕ) (a : At) : Type 0 where
    pub before : List Entry
    pub entry : Entry
    pub after : List Entry
    pub row : (node_at s n).entries ≡ before ++ entry ∷ after
    pub long : length before ≡ i
    pub brought : Brought s es a
    pub below : Below s a.state j entry a.slot

  pub load_inside : (s : State) (bs : Bounds) (n i : ℕ) (a : At) → load_child l s bs n i ≡ ok a → i < length (node_at s n).entries
  load_inside s bs n i a e =
      by_load l s bs n i a e
      (λ c q p. val_used (node_at s n).entries i (mem c) (λ z. let y : ◌≡◌ {A = ℕ} 0 1 = cc in omega arith) q)
      (λ r d b q lt x y p. val_used (node_at s n).entries i (disk r) (λ z. let y : ◌≡◌ {A = ℕ} 0 1 = cc in omega arith) q)

  pub load_taken : (s : State) (es : List Entry) (bs : Bounds) (j n lo hi i : ℕ) (a : At) → Good g τ th s es → Still s₀ s
      → Ok τ (found g τ) (node_at s) (suc j) lo hi (node_at s n) → Owned τ (found g τ) l (Old g) s (suc j) n → load_child l s bs n i ≡ ok a
      → Taken s es j n i a
  load_taken s es bs j n lo hi i a h st okn own eq =
      let ds : List Entry = (node_at s n).entries in
      let no : Entry = record { key = []; value = ghost } in
      let lt : i < length (node_at s n).entries = load_inside s bs n i a eq in
      let row : (node_at s n).entries ≡ take i ds ++ get_or ds i no ∷ drop (suc i) ds = split_at ds i no lt in
      let ln : length (take i ds) ≡ i = length-take-le i ds (omega (arith, lt)) in
      let eq' : load_child l s bs n (length (take i ds)) ≡ ok a = ap (load_child l s bs n) ln ∙ eq in
      let br : Brought s es a = load_good s es bs j n lo hi (take i ds) (get_or ds i no) (drop (suc i) ds) a h st row okn own eq' in
      record {
        before = take i ds;
        entry = get_or ds i no;
        after = drop (suc i) ds;
        row = row;
        long = ln;
        brought = br;
        below = below s bs j n lo hi (take i ds) (get_or ds i no) (drop (suc i) ds) a row okn own eq' br.loads;
      }

  -- ---- the way

  way_loads : (j : ℕ) (s : State) (es : List Entry) (bs : Bounds) (n lo hi : ℕ) (k : List ℕ) → Good g τ th s es → Still s₀ s
      → Ok τ (found g τ) (node_at s) j lo hi (node_at s n) → Owned τ (found g τ) l (Old g) s j n
      → Holds (λ w. Good g τ th w.state es × Loads τ (found g τ) s w.state) (way_from j l s bs n k)
  unfolding way_from above
  way_loads zero s es bs n lo hi k h st okn own = holds_ok (h, loads_refl τ (found g τ) s)
  way_loads (suc j) s es bs n lo hi k h st okn own =
      holds_bind (load_child l s bs n (way_index s.order k (node_at s n).entries)) _ λ a p.
      let t = load_taken s es bs j n lo hi (way_index s.order k (node_at s n).entries) a h st okn own p in
      let ld = t.brought.loads in
      holds_bind (way_from j l a.state (child_bounds s.order bs (node_at s n).entries (way_index s.order k (node_at s n).entries))
      a.slot k) _ λ w q.
      let below = (way_loads j a.state es (child_bounds s.order bs (node_at s n).entries (way_index s.order k (node_at s n).entries)) a.slot
      (K τ t.entry.key) t.below.up_to k
      t.brought.good (still_then s₀ s a.state st ld.still) t.below.ok t.below.owned).at w q in
      holds_ok (below.0, loads_then τ (found g τ) s a.state w.state ld below.1)

-- ---- for a call

module _ (g : Start) (τ : Terms) (th : List ℕ) (begins : Begins g) (l : Lent) (lends : Lends g l) (s : State) (rds : Reads τ (found g τ) l (Old g) s)
    (es : List Entry) (h : Good g τ th s es) where
  -- child `length xs` of a slot in the tree
  pub good_load : (bs : Bounds) (j n lo hi : ℕ) (xs : List Entry) (e : Entry) (ys : List Entry) → (node_at s n).entries ≡ xs ++ e ∷ ys
      → Ok τ (found g τ) (node_at s) (suc j) lo hi (node_at s n) → Once τ (found g τ) s (suc j) n → Owned τ (found g τ) l (Old g) s (suc j) n
      → Holds (λ a. Good g τ th a.state es × Loaded τ (found g τ) l (Old g) s j n lo hi xs e ys a) (load_child l s bs n (length xs))
  good_load bs j n lo hi xs e ys row okn one own =
      record {
        at = λ a q. (
          (load_good g τ th begins l lends s rds s es bs j n lo hi xs e ys a h (still_refl s) row okn own q).good,
          load_loaded τ (found g τ) l (Old g) s s bs j n lo hi xs e ys a rds (still_refl s) row one okn own q,
        );
      }

  -- of the root
  pub good_load_root : (bs : Bounds) (j : ℕ) (xs : List Entry) (e : Entry) (ys : List Entry) → h.level ≡ suc j
      → (node_at s s.root).entries ≡ xs ++ e ∷ ys
      → Holds (λ a. Good g τ th a.state es × Loaded τ (found g τ) l (Old g) s j s.root h.lo h.hi xs e ys a)
      (load_child l s bs s.root (length xs))
  good_load_root bs j xs e ys lv row =
      good_load bs j s.root h.lo h.hi xs e ys row
      (subst (λ (z : ℕ). Ok τ (found g τ) (node_at s) z h.lo h.hi (node_at s s.root)) lv h.tree)
      (subst (λ (z : ℕ). Once τ (found g τ) s z s.root) lv (good_once g τ th l s es h))
      (subst (λ (z : ℕ). Owned τ (found g τ) l (Old g) s z s.root) lv (good_owned g τ th l s es h))

  -- the way to a key
  pub good_way : Suits g τ → (k : List ℕ) → KeyIn τ k
      → Holds (λ w. Good g τ th w.state es × Led τ (found g τ) l (Old g) s h.level s.root h.lo h.hi k w) (way l s k)
  unfolding way
  good_way suits k kk =
      rw (ok_level τ (found g τ) (node_at s) h.level h.lo h.hi (node_at s s.root) h.tree)
      (record {
        at = λ w q. (
          ((way_loads g τ th begins l lends s rds h.level s es unbounded s.root h.lo h.hi k h (still_refl s) h.tree
              (good_owned g τ th l s es h)).at w q).0,
          (led τ (found g τ) l (Old g) h.level s s unbounded s.root h.lo h.hi k rds (still_refl s) (h.order ∙ sym suits.order) kk
              (good_once g τ th l s es h) h.tree (good_owned g τ th l s es h)).at w q,
        );
      })
