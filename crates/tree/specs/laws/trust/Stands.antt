-- What `trusted` says, slot by slot, and that it is said again: the parts of standing together that each change of a state keeps. Assumes nothing.
use Rattle.std.specs.Prelude.{◌≡◌, refl, List, [], ◌∷◌, Bool, true, false, cond, ◌&&◌, ◌||◌, not, ℕ, zero, suc, ◌+◌, ◌≤◌, ◌<◌, length, get_or, leb, ltb, eqb}
use Rattle.std.proofs.Common.{sym, ap₂, ◌∙◌, arith, leb-true, le-leb, ltb-true, ltb-false, lt-ltb, eqb-true, eq-eqb, ne_eqb}
use Rattle.std.proofs.lemmas.Bool.{eqb-false, not-true}
use Rattle.node.specs.Order.{keyed, known}
use Rattle.node.specs.Entry.{Entry, Val, ghost, leaf, disk, mem, every}
use Rattle.node.specs.Fit.{fits}
use Rattle.node.specs.Slot.{MemNode, suit, key_length_holds, value_length_holds, value_holds, entry_holds}
use Rattle.node.specs.laws.base.Tests.{by_test, and_split, and_left, and_right, and_both, or_right}
use Rattle.node.specs.laws.order.Rising.{every_imp}
use Rattle.tree.specs.Lent.{Lent, sizes_hold}
use Rattle.tree.specs.State.{State, no_node, node_at}
use Rattle.tree.specs.Hold.{key_fits, value_fits, child_holds, stands_on_disk, node_stands, every_live, naming, named, named_once, info_holds}
use Rattle.tree.specs.Hold.{numbers_hold}
use Rattle.tree.specs.Trust.{stand_together, trusted}
use Rattle.tree.specs.laws.state.Hold.{live_at}
use Rattle.tree.specs.laws.state.Linked.{Linked}
use Rattle.tree.specs.laws.trust.Named.{names, names_same, names_is, naming_cons, naming_at, own, own_live, own_alive, named_own, named_none}
use Rattle.tree.specs.laws.trust.Named.{live_used}

-- a slot that a node at level l may name
pub record Below (s : State) (c l : ℕ) : Type 0 where
  pub used : c < length s.nodes
  pub live : (node_at s c).dead ≡ false
  pub lower : (node_at s c).level + 1 ≡ l

-- a clean node has a block and, if virtual, an id
abbrev pub placed_on : Bool → MemNode → Bool
placed_on v m = eqb (length m.block) 1 && (not v || eqb (length m.id) 1)

-- the root counts as named once
abbrev pub root_names : ℕ → State → ℕ
root_names c s = cond (eqb c s.root) 1 0

-- Slots that stand together. w: slots that are dirty and need not fit yet; v: index slots that may have no entry yet
pub record Stands (w v : ℕ → ℕ) (s : State) : Type 0 where
  pub root : (node_at s s.root).dead ≡ false
  pub deep : (n : ℕ) → (node_at s n).dead ≡ false → (node_at s n).level ≤ 32
  pub rows : (n : ℕ) → (node_at s n).dead ≡ false → every (entry_holds s.order s.info (eqb (node_at s n).level 0)) (node_at s n).entries ≡ true
  pub links : (n c : ℕ) → 1 ≤ own c (node_at s n) → Below s c (node_at s n).level
  pub once : (c : ℕ) → named c s.nodes + root_names c s ≤ 1
  pub clean : (n : ℕ) → (node_at s n).dead ≡ false → (node_at s n).dirty ≡ false → placed_on s.virtual (node_at s n) ≡ true
  pub dirty : (n : ℕ) → (node_at s n).dead ≡ false → (node_at s n).dirty ≡ true → w n ≡ 0
      → fits s.info (eqb n s.root) (node_at s n).level (node_at s n).entries ≡ true
  pub filled : (n : ℕ) → (node_at s n).dead ≡ false → v n ≡ 0 → ((node_at s n).level ≡ 0 → ⊥) → 0 < length (node_at s n).entries

-- no slot left out
abbrev pub all : ℕ → ℕ
all c = 0

-- fewer slots left out are left out where more are
pub stands_wider : (w v w' v' : ℕ → ℕ) (s : State) → ((n : ℕ) → w' n ≡ 0 → w n ≡ 0) → ((n : ℕ) → v' n ≡ 0 → v n ≡ 0) → Stands w v s → Stands w' v' s
stands_wider w v w' v' s f g h =
    record {
      root = h.root;
      deep = h.deep;
      rows = h.rows;
      links = h.links;
      once = h.once;
      clean = h.clean;
      dirty = λ n a b e. h.dirty n a b (f n e);
      filled = λ n a e. h.filled n a (g n e);
    }

pub stands_used : (w v : ℕ → ℕ) (s : State) → Stands w v s → s.root < length s.nodes
stands_used w v s h = live_used s s.root h.root

-- the root is named by no entry
pub root_unnamed : (w v : ℕ → ℕ) (s : State) (n : ℕ) → Stands w v s → own s.root (node_at s n) ≡ 0
root_unnamed w v s n h =
    let e : root_names s.root s ≡ 1 = rw (eq-eqb s.root s.root refl) in
    omega (arith, h.once s.root, named_own s n s.root)

-- children in slots are in use, live and one level lower
pub stands_linked : (w v : ℕ → ℕ) (s : State) → Stands w v s → Linked s
stands_linked w v s h =
    record {
      child = λ n j c live e.
          let k : 1 ≤ own c (node_at s n) = omega (arith, own_live c (node_at s n) live, naming_at c j (node_at s n).entries e) in
          let b = h.links n c k in
          record { used = b.used; live = b.live; lower = b.lower };
    }

-- ---- entries

key_same : (s : State) (k : List ℕ) → key_length_holds s.order s.info (length k) ≡ key_fits s k
unfolding key_length_holds key_fits keyed
key_same s k = refl

value_same : (s : State) (v : Val) → value_holds s.info v ≡ value_fits s v
unfolding value_holds value_fits value_length_holds
value_same s ghost = refl
value_same s (leaf x) = refl
value_same s (disk r) = refl
value_same s (mem c) = refl

pub entry_same : (s : State) (b : Bool) (e : Entry) → entry_holds s.order s.info b e ≡ key_fits s e.key && value_fits s e.value && suit b e
unfolding entry_holds
entry_same s b e = ap₂ (λ (x y : Bool). x && y && suit b e) (key_same s e.key) (value_same s e.value)

abbrev row : State → ℕ → Entry → Bool
row s l e = key_fits s e.key && value_fits s e.value && suit (eqb l 0) e && child_holds s l e.value

child_below : (s : State) (l c : ℕ) (v : Val) → child_holds s l v ≡ true → 1 ≤ names c v → Below s c l
unfolding child_holds names
child_below s l c ghost h k = absurd (omega arith)
child_below s l c (leaf x) h k = absurd (omega arith)
child_below s l c (disk r) h k = absurd (omega arith)
child_below s l c (mem d) h k =
    let e : c ≡ d = names_is c d k in
    let (a, x) = and_split (ltb d (length s.nodes) && not (node_at s d).dead) (eqb ((node_at s d).level + 1) l) h in
    let (y, z) = and_split (ltb d (length s.nodes)) (not (node_at s d).dead) a in
    rw e (record { used = ltb-true d _ y; live = not-true _ z; lower = eqb-true _ _ x })

rows_below : (s : State) (l c : ℕ) (es : List Entry) → every (row s l) es ≡ true → 1 ≤ naming c es → Below s c l
unfolding every naming
rows_below s l c [] h k = absurd (omega arith)
rows_below s l c (e ∷ es) h k =
    let (a, b) = and_split (row s l e) (every (row s l) es) h in
    by_test (ltb 0 (names c e.value))
    (λ t. child_below s l c e.value (and_right (key_fits s e.key && value_fits s e.value && suit (eqb l 0) e) (child_holds s l e.value) a)
    (ltb-true 0 _ t))
    (λ t. rows_below s l c es b (omega (arith, ltb-false 0 (names c e.value) t, naming_cons c e es)))

rows_plain : (s : State) (l : ℕ) (es : List Entry) → every (row s l) es ≡ true → every (entry_holds s.order s.info (eqb l 0)) es ≡ true
rows_plain s l es h =
    every_imp (row s l) (entry_holds s.order s.info (eqb l 0)) es
    (λ e a. entry_same s (eqb l 0) e ∙ and_left (key_fits s e.key && value_fits s e.value && suit (eqb l 0) e) (child_holds s l e.value) a) h

below_child : (s : State) (l : ℕ) (v : Val) → ((c : ℕ) → 1 ≤ names c v → Below s c l) → child_holds s l v ≡ true
unfolding child_holds
below_child s l ghost h = refl
below_child s l (leaf x) h = refl
below_child s l (disk r) h = refl
below_child s l (mem d) h =
    let b = h d (omega (arith, names_same d)) in
    rw (lt-ltb d (length s.nodes) b.used, b.live, eq-eqb ((node_at s d).level + 1) l b.lower)

plain_rows : (s : State) (l : ℕ) (es : List Entry) → every (entry_holds s.order s.info (eqb l 0)) es ≡ true
    → ((c : ℕ) → 1 ≤ naming c es → Below s c l) → every (row s l) es ≡ true
unfolding every naming
plain_rows s l [] h f = refl
plain_rows s l (e ∷ es) h f =
    let t : Entry → Bool = entry_holds s.order s.info (eqb l 0) in
    let (a, b) = and_split (t e) (every t es) h in
    and_both (row s l e) (every (row s l) es)
    (and_both (key_fits s e.key && value_fits s e.value && suit (eqb l 0) e) (child_holds s l e.value) (sym (entry_same s (eqb l 0) e) ∙ a)
    (below_child s l e.value (λ c k. f c (omega (arith, naming_cons c e es)))))
    (plain_rows s l es b (λ c k. f c (omega (arith, naming_cons c e es))))

-- ---- nodes

disk_clean : (s : State) (n : ℕ) (m : MemNode) → stands_on_disk s n m ≡ true → m.dirty ≡ false → placed_on s.virtual m ≡ true
unfolding stands_on_disk
disk_clean s n m h d = rw d at h

disk_dirty : (s : State) (n : ℕ) (m : MemNode) → stands_on_disk s n m ≡ true → m.dirty ≡ true
    → fits s.info (eqb n s.root) m.level m.entries ≡ true
unfolding stands_on_disk
disk_dirty s n m h d = rw d at h

disk_of : (s : State) (n : ℕ) (m : MemNode) → (m.dirty ≡ false → placed_on s.virtual m ≡ true)
    → (m.dirty ≡ true → fits s.info (eqb n s.root) m.level m.entries ≡ true) → stands_on_disk s n m ≡ true
unfolding stands_on_disk
disk_of s n m f g = by_test m.dirty (λ t. rw t (g t)) (λ t. rw t (f t))

record Node (s : State) (n : ℕ) (m : MemNode) : Type 0 where
  deep : m.level ≤ 32
  filled : (m.level ≡ 0 → ⊥) → 0 < length m.entries
  rows : every (row s m.level) m.entries ≡ true
  disk : stands_on_disk s n m ≡ true

some_filled : (l k : ℕ) → eqb l 0 || not (eqb k 0) ≡ true → (l ≡ 0 → ⊥) → 0 < k
some_filled l k h d =
    let e : eqb k 0 ≡ false = not-true (eqb k 0) (or_right (eqb l 0) (not (eqb k 0)) (ne_eqb l 0 d) h) in
    let g = eqb-false k 0 e in
    by_test (ltb 0 k) (λ t. ltb-true 0 k t) (λ t. absurd (g (omega (arith, ltb-false 0 k t))))

filled_some : (l k : ℕ) → ((l ≡ 0 → ⊥) → 0 < k) → eqb l 0 || not (eqb k 0) ≡ true
filled_some l k h =
    by_test (eqb l 0) (λ t. rw t)
    (λ t. let g = h (eqb-false l 0 t) in rw (t, ne_eqb k 0 (λ e. omega arith)))

node_of : (s : State) (n : ℕ) (m : MemNode) → node_stands s n m ≡ true → Node s n m
unfolding node_stands
node_of s n m h =
    let (a, d) = and_split (leb m.level 32 && (eqb m.level 0 || not (eqb (length m.entries) 0)) && every (row s m.level) m.entries)
    (stands_on_disk s n m) h in
    let (b, r) = and_split (leb m.level 32 && (eqb m.level 0 || not (eqb (length m.entries) 0))) (every (row s m.level) m.entries) a in
    let (x, y) = and_split (leb m.level 32) (eqb m.level 0 || not (eqb (length m.entries) 0)) b in
    record { deep = leb-true _ _ x; filled = some_filled m.level (length m.entries) y; rows = r; disk = d }

of_node : (s : State) (n : ℕ) (m : MemNode) → Node s n m → node_stands s n m ≡ true
unfolding node_stands
of_node s n m h =
    and_both (leb m.level 32 && (eqb m.level 0 || not (eqb (length m.entries) 0)) && every (row s m.level) m.entries)
    (stands_on_disk s n m)
    (and_both (leb m.level 32 && (eqb m.level 0 || not (eqb (length m.entries) 0))) (every (row s m.level) m.entries)
    (and_both (leb m.level 32) (eqb m.level 0 || not (eqb (length m.entries) 0)) (le-leb _ _ h.deep)
    (filled_some m.level (length m.entries) h.filled)) h.rows)
    h.disk

-- ---- all slots

or_unless : (a b : Bool) → (a ≡ false → b ≡ true) → a || b ≡ true
or_unless true b f = refl
or_unless false b f = f refl

live_all : (t : ℕ → MemNode → Bool) (b : ℕ) (ms : List MemNode)
    → ((m : ℕ) → (get_or ms m no_node).dead ≡ false → t (b + m) (get_or ms m no_node) ≡ true)
    → every_live t b ms ≡ true
unfolding every_live
live_all t b [] h = refl
live_all t b (x ∷ xs) h =
    let z : b + 0 ≡ b = omega arith in
    let k : every_live t (suc b) xs ≡ true = live_all t (suc b) xs (λ m d. let e : suc b + m ≡ b + suc m = omega arith in rw e (h (suc m) d)) in
    and_both (x.dead || t b x) (every_live t (suc b) xs) (or_unless x.dead (t b x) (λ d. rw z at (h 0 d))) k

once_at : (s : State) (n c : ℕ) → named_once s n ≡ true → c < n → named c s.nodes + root_names c s ≤ 1
unfolding named_once
once_at s zero c h k = absurd (omega arith)
once_at s (suc n) c h k =
    let (a, b) = and_split (leb (named n s.nodes + root_names n s) 1) (named_once s n) h in
    by_test (eqb c n)
    (λ t. let e : c ≡ n = eqb-true c n t in rw e (leb-true _ _ a))
    (λ t. let e = eqb-false c n t in once_at s n c b (by_test (ltb c n) (λ y. ltb-true c n y) (λ y. absurd (e (omega (arith, ltb-false c n y))))))

at_once : (s : State) (n : ℕ) → ((c : ℕ) → named c s.nodes + root_names c s ≤ 1) → named_once s n ≡ true
unfolding named_once
at_once s zero h = refl
at_once s (suc n) h = and_both (leb (named n s.nodes + root_names n s) 1) (named_once s n) (le-leb _ _ (h n)) (at_once s n h)

node_at_lem : (s : State) → every_live (node_stands s) 0 s.nodes ≡ true → (n : ℕ) → (node_at s n).dead ≡ false → node_stands s n (node_at s n) ≡ true
unfolding node_at
node_at_lem s h n live =
    let z : 0 + n ≡ n = omega arith in
    rw z at (live_at (node_stands s) 0 s.nodes n h (live_used s n live) live)

every_at : (s : State) → ((n : ℕ) → (node_at s n).dead ≡ false → node_stands s n (node_at s n) ≡ true) → every_live (node_stands s) 0 s.nodes ≡ true
unfolding node_at
every_at s h = live_all (node_stands s) 0 s.nodes (λ m d. let z : 0 + m ≡ m = omega arith in rw z (h m d))

pub stands_of : (s : State) → stand_together s ≡ true → Stands all all s
unfolding stand_together
stands_of s h =
    let (a, o) = and_split (ltb s.root (length s.nodes) && not (node_at s s.root).dead && every_live (node_stands s) 0 s.nodes)
    (named_once s (length s.nodes)) h in
    let (b, e) = and_split (ltb s.root (length s.nodes) && not (node_at s s.root).dead) (every_live (node_stands s) 0 s.nodes) a in
    let (r, d) = and_split (ltb s.root (length s.nodes)) (not (node_at s s.root).dead) b in
    let used : s.root < length s.nodes = ltb-true _ _ r in
    let each : (n : ℕ) → (node_at s n).dead ≡ false → Node s n (node_at s n) = λ n live. node_of s n (node_at s n) (node_at_lem s e n live) in
    let links : (n c : ℕ) → 1 ≤ own c (node_at s n) → Below s c (node_at s n).level = λ n c k.
    let live : (node_at s n).dead ≡ false = own_alive c (node_at s n) k in
    rows_below s (node_at s n).level c (node_at s n).entries (each n live).rows (omega (arith, own_live c (node_at s n) live)) in
    record {
      root = not-true _ d;
      deep = λ n live. (each n live).deep;
      rows = λ n live. rows_plain s (node_at s n).level (node_at s n).entries (each n live).rows;
      links = links;
      once = λ c. by_test (ltb c (length s.nodes))
          (λ t. once_at s (length s.nodes) c o (ltb-true c _ t))
          (λ t. let far = ltb-false c (length s.nodes) t in
          let none : named c s.nodes ≡ 0 = named_none s c (λ n. by_test (ltb 0 (own c (node_at s n)))
          (λ y. let z = (links n c (ltb-true 0 _ y)).used in absurd (omega arith)) (λ y. omega (arith, ltb-false 0 (own c (node_at s n)) y))) in
          let off : eqb c s.root ≡ false = ne_eqb c s.root (λ q. omega arith) in
          let z : root_names c s ≡ 0 = rw off in omega arith);
      clean = λ n live k. disk_clean s n (node_at s n) (each n live).disk k;
      dirty = λ n live k z. disk_dirty s n (node_at s n) (each n live).disk k;
      filled = λ n live z k. (each n live).filled k;
    }

pub of_stands : (s : State) → Stands all all s → stand_together s ≡ true
unfolding stand_together
of_stands s h =
    let each : (n : ℕ) → (node_at s n).dead ≡ false → node_stands s n (node_at s n) ≡ true = λ n live. of_node s n (node_at s n) (record {
      deep = h.deep n live;
      filled = h.filled n live refl;
      rows = plain_rows s (node_at s n).level (node_at s n).entries (h.rows n live)
          (λ c k. h.links n c (omega (arith, own_live c (node_at s n) live)));
      disk = disk_of s n (node_at s n) (h.clean n live) (λ d. h.dirty n live d refl);
    }) in
    rw (lt-ltb s.root (length s.nodes) (stands_used all all s h), h.root, every_at s each, at_once s (length s.nodes) h.once)

-- ---- the numbers

pub record Held (l : Lent) (s : State) : Type 0 where
  pub sizes : sizes_hold l ≡ true
  pub node : s.info.node_size ≡ l.size
  pub order : known s.order ≡ true
  pub info : info_holds s.info ≡ true
  pub map : eqb (length l.map) (cond s.virtual 1 0) ≡ true
  pub few : length s.nodes ≤ l.slots

pub held_of : (l : Lent) (s : State) → numbers_hold l s ≡ true → Held l s
unfolding numbers_hold
held_of l s h =
    let (a, f) = and_split (sizes_hold l && eqb s.info.node_size l.size && known s.order && info_holds s.info && eqb (length l.map)
    (cond s.virtual 1 0)) (leb (length s.nodes) l.slots) h in
    let (b, e) = and_split (sizes_hold l && eqb s.info.node_size l.size && known s.order && info_holds s.info)
    (eqb (length l.map) (cond s.virtual 1 0)) a in
    let (c, d) = and_split (sizes_hold l && eqb s.info.node_size l.size && known s.order) (info_holds s.info) b in
    let (x, o) = and_split (sizes_hold l && eqb s.info.node_size l.size) (known s.order) c in
    let (y, z) = and_split (sizes_hold l) (eqb s.info.node_size l.size) x in
    record { sizes = y; node = eqb-true _ _ z; order = o; info = d; map = e; few = leb-true _ _ f }

pub of_held : (l : Lent) (s : State) → Held l s → numbers_hold l s ≡ true
unfolding numbers_hold
of_held l s h = rw (
  h.sizes,
  eq-eqb s.info.node_size l.size h.node,
  h.order,
  h.info,
  h.map,
  le-leb (length s.nodes) l.slots
      h.few,
)

pub trusted_of : (l : Lent) (s : State) → trusted l s ≡ true → Held l s × Stands all all s
unfolding trusted
trusted_of l s h = let (a, b) = and_split (numbers_hold l s) (stand_together s) h in (held_of l s a, stands_of s b)

pub of_trusted : (l : Lent) (s : State) → Held l s → Stands all all s → trusted l s ≡ true
unfolding trusted
of_trusted l s h k = and_both (numbers_hold l s) (stand_together s) (of_held l s h) (of_stands s k)
