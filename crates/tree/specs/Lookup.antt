-- Open and the lookups: get, floor, range (RULES: open, way, get, floor, range).
use Rattle.std.specs.Prelude.{List, [], ◌∷◌, ◌++◌, Bool, true, cond, ◌&&◌, ◌||◌, not, ℕ, zero, suc, ◌-◌, length, leb, ltb}
use Rattle.node.specs.Result.{Result, ok, ◌>>=◌, ◌>>◌, check}
use Rattle.node.specs.Refusals as refusal
use Rattle.node.specs.Order.{known, keyed, less}
use Rattle.node.specs.Entry.{Entry, Val, value_length}
use Rattle.node.specs.Find.{key_at, val_at, place_of, is_there, way_index, last_not_above, last_of}
use Rattle.node.specs.Records.{records_of}
use Rattle.node.specs.Read.{OnDisk, info_at}
use Rattle.tree.specs.Lent.{Lent, sizes_hold, block_at}
use Rattle.tree.specs.State.{State, node_at}
use Rattle.tree.specs.Hold.{lent_holds}
use Rattle.tree.specs.Load.{Bounds, unbounded, child_bounds, load_block, root_place, root_holds, address_of, adopted, load_child}

-- ---- open

-- the tree of a root that was read
unfoldable pub opened_at : Lent → ℕ → ℕ → ℕ → OnDisk → State
opened_at l order xid a d =
    let virtual : Bool = leb 1 (length l.map) in
    record {
      root = 0;
      nodes = adopted virtual a d ∷ [];
      info = info_at (block_at l a);
      virtual = virtual;
      subtype = d.node.subtype;
      order = order;
      xid = xid;
    }

-- 1; load; 10
unfoldable pub opened : Lent → ℕ → ℕ → ℕ → Result State
opened l r order xid = do
  check refusal.lent (sizes_hold l && known order && leb (length l.map) 1)
  a ← address_of l xid r
  d ← load_block l order (root_place r) unbounded a
  check refusal.root (root_holds l a (leb 1 (length l.map)) d)
  ok (opened_at l order xid a d)

-- ---- the way to a key

-- a slot, and the child taken there
pub record Step : Type 0 where
  pub slot : ℕ
  pub child : ℕ

-- a state, and a way through it: from the root down to the leaf
pub record Way : Type 0 where
  pub state : State
  pub steps : List Step

-- one step more above a way
unfoldable pub above : ℕ → ℕ → Way → Way
above n i w = record { state = w.state; steps = record { slot = n; child = i } ∷ w.steps }

-- d levels down from slot n: at each index node the last key not above k, else child 0
unfoldable pub way_from : ℕ → Lent → State → Bounds → ℕ → List ℕ → Result Way
way_from zero l s bs n k = ok (record { state = s; steps = record { slot = n; child = 0 } ∷ [] })
way_from (suc d) l s bs n k =
    let es : List Entry = (node_at s n).entries in
    let i : ℕ = way_index s.order k es in
    load_child l s bs n i
    >>= λ c. way_from d l c.state (child_bounds s.order bs es i) c.slot k
    >>= λ w. ok (above n i w)

unfoldable pub way : Lent → State → List ℕ → Result Way
way l s k = way_from (node_at s s.root).level l s unbounded s.root k

-- the last slot of a way: the leaf
unfoldable pub leaf_of : List Step → ℕ
leaf_of [] = 0
leaf_of (x ∷ []) = x.slot
leaf_of (x ∷ y ∷ xs) = leaf_of (y ∷ xs)

-- ---- get

-- a lookup's answer: the tree with what it loaded, and the entries or values found
pub record Got (A : Type 0) : Type 0 where
  pub state : State
  pub answer : List A

-- what a key holds among a leaf's entries: none or one
unfoldable pub held : ℕ → List ℕ → List Entry → List Val
held o k es = cond (is_there o k es) (val_at es (place_of o k es) ∷ []) []

-- the bytes of a value that get writes out
unfoldable pub got_length : List Val → ℕ
got_length [] = 0
got_length (v ∷ vs) = value_length v

-- 12; load; 20
unfoldable pub get_in : Lent → State → ℕ → List ℕ → Result (Got Val)
get_in l s room k = do
  check refusal.argument (keyed s.order k)
  w ← way l s k
  let v : List Val = held s.order k (node_at w.state (leaf_of w.steps)).entries
  check refusal.output (leb (got_length v) room)
  ok (record { state = w.state; answer = v })

-- 1; what follows
unfoldable pub get : Lent → State → ℕ → List ℕ → Result (Got Val)
get l s room k = do
  check refusal.lent (lent_holds l s)
  get_in l s room k

-- ---- floor

-- the last entry d levels below slot n
unfoldable pub last_from : ℕ → Lent → State → Bounds → ℕ → Result (Got Entry)
last_from zero l s bs n = ok (record { state = s; answer = last_of (node_at s n).entries })
last_from (suc d) l s bs n =
    let es : List Entry = (node_at s n).entries in
    let i : ℕ = length es - 1 in
    load_child l s bs n i >>= λ c. last_from d l c.state (child_bounds s.order bs es i) c.slot

-- the last entry not above k, d levels below slot n; leftward only if the leaf has none
unfoldable pub floor_from : ℕ → Lent → State → Bounds → ℕ → List ℕ → Result (Got Entry)
floor_from zero l s bs n k = ok (record { state = s; answer = last_not_above s.order k (node_at s n).entries })
floor_from (suc d) l s bs n k =
    load_child l s bs n i
    >>= λ c. floor_from d l c.state (child_bounds s.order bs es i) c.slot k
    >>= λ g. or_left g.state g.answer
  where
    es : List Entry
    es = (node_at s n).entries

    i : ℕ
    i = way_index s.order k es

    or_left : State → List Entry → Result (Got Entry)
    or_left s' (e ∷ es') = ok (record { state = s'; answer = e ∷ es' })
    or_left s' [] =
        cond (ltb 0 i && not (less s.order k (key_at es i)))
        (load_child l s' bs n (i - 1) >>= λ c. last_from d l c.state (child_bounds s.order bs es (i - 1)) c.slot)
        (ok (record { state = s'; answer = [] }))

-- 12; load; 20
unfoldable pub floor_in : Lent → State → ℕ → List ℕ → Result (Got Entry)
floor_in l s room k = do
  check refusal.argument (keyed s.order k)
  g ← floor_from (node_at s s.root).level l s unbounded s.root k
  check refusal.output (leb (length (records_of g.answer)) room)
  ok g

-- 1; what follows
unfoldable pub floor : Lent → State → ℕ → List ℕ → Result (Got Entry)
floor l s room k = do
  check refusal.lent (lent_holds l s)
  floor_in l s room k

-- ---- range

-- below an upper end, if there is one
unfoldable pub ends_above : ℕ → List (List ℕ) → List ℕ → Bool
ends_above o [] k = true
ends_above o (hi ∷ his) k = less o k hi

-- the entries with lo ≤ key < hi
unfoldable pub between : ℕ → List ℕ → List (List ℕ) → List Entry → List Entry
between o lo hi [] = []
between o lo hi (e ∷ es) = cond (not (less o e.key lo) && ends_above o hi e.key) (e ∷ between o lo hi es) (between o lo hi es)

-- whether range looks into child i: its index key below hi, and the next, if any, above lo
unfoldable pub range_enters : ℕ → List ℕ → List (List ℕ) → List Entry → ℕ → Bool
range_enters o lo hi es i = ends_above o hi (key_at es i) && (not (ltb (suc i) (length es)) || less o lo (key_at es (suc i)))

-- the children of a node from child i on, m of them: those that range enters, left to right
unfoldable pub range_kids : (State → Bounds → ℕ → Result (Got Entry)) → Lent → State → Bounds → ℕ → List ℕ → List (List ℕ) → ℕ → ℕ
    → Result (Got Entry)
range_kids f l s bs n lo hi zero i = ok (record { state = s; answer = [] })
range_kids f l s bs n lo hi (suc m) i =
    cond (range_enters s.order lo hi es i)
    (load_child l s bs n i
    >>= λ c. f c.state (child_bounds s.order bs es i) c.slot
    >>= λ g. range_kids f l g.state bs n lo hi m (suc i)
    >>= λ h. ok (record { state = h.state; answer = g.answer ++ h.answer }))
    (range_kids f l s bs n lo hi m (suc i))
  where
    es : List Entry
    es = (node_at s n).entries

unfoldable pub range_from : ℕ → Lent → List ℕ → List (List ℕ) → State → Bounds → ℕ → Result (Got Entry)
range_from zero l lo hi s bs n = ok (record { state = s; answer = between s.order lo hi (node_at s n).entries })
range_from (suc d) l lo hi s bs n = range_kids (range_from d l lo hi) l s bs n lo hi (length (node_at s n).entries) 0

-- 12 of both ends; load; 20
unfoldable pub range_in : Lent → State → ℕ → List ℕ → List ℕ → Result (Got Entry)
range_in l s room lo hi = do
  check refusal.argument (keyed s.order lo && keyed s.order hi)
  g ← range_from (node_at s s.root).level l lo (hi ∷ []) s unbounded s.root
  check refusal.output (leb (length (records_of g.answer)) room)
  ok g

-- 1; what follows
unfoldable pub range : Lent → State → ℕ → List ℕ → List ℕ → Result (Got Entry)
range l s room lo hi = do
  check refusal.lent (lent_holds l s)
  range_in l s room lo hi
