-- A child loaded keeps slots that stand together: the new node is live, clean and placed, one level lower than its parent, and named once. Assumes
-- nothing.
use Rattle.std.specs.Prelude.{◌≡◌, List, [], ◌∷◌, Bool, ◌&&◌, ◌||◌, ℕ, zero, suc, ◌+◌, ◌≤◌, ◌<◌, length, ltb}
use Rattle.std.proofs.Math.Path.{refl, ap}
use Rattle.std.proofs.Common.{sym, ap₂, ◌∙◌, le_refl, arith}
use Rattle.std.proofs.Math.Bool.{true, false, not}
use Rattle.std.proofs.Math.Dec.{leb, eqb}
use borrow.Author.Tests.{leb-true, ltb-true, ltb-false, eqb-true, eqb-false, ne_eqb}
use Rattle.node.specs.Result.{ok}
use Rattle.node.specs.Refusals as refusal
use Rattle.node.specs.Order.{keyed}
use Rattle.node.specs.Entry.{Entry, Val, ghost, disk, mem, every, rising, value_length}
use Rattle.node.specs.Find.{val_at}
use Rattle.node.specs.Fit.{fixed, data_space, padded, keys_length, values_length, room_of, fits_sums, fits}
use Rattle.node.specs.Read.{OnDisk, on_disk, parsed, flags_hold, layout_holds, spans_hold, spans_length, entries_hold, entries_from, keys_rise, keys_within}
use Rattle.node.specs.Read.{keys_hold, read_node}
use Rattle.node.specs.Slot.{MemNode, is_child, suit, value_holds, entry_holds, revalued, with_value}
use Rattle.node.specs.declared.read.Node.{Node}
use Rattle.node.specs.Place.{Place}
use Rattle.node.specs.declared.info.BTreeInfo.{BTreeInfo}
use Rattle.node.specs.laws.base.Tests.{by_test, never, and_split, and_left, and_right, and_both}
use Rattle.node.specs.laws.base.Results.{checked_ok}
use Rattle.node.specs.laws.read.Loaded.{Passed, read_passed, entries_length, span_held, by_value}
use Rattle.tree.specs.Lent.{Lent, block_at, in_image}
use Rattle.tree.specs.State.{State, node_at, put_node, add_node, with_nodes, with_entries}
use Rattle.tree.specs.Hold.{key_fits, value_fits, child_holds, naming, named}
use Rattle.tree.specs.Load.{Bounds, bound_key, load_block, child_place, adopted}
use Rattle.tree.specs.laws.state.State.{at_add_old, at_add_new, add_count, at_used, val_used}
use Rattle.tree.specs.laws.state.Load as loads
use Rattle.tree.specs.laws.trust.Open.{sound, all_sound}
use Rattle.tree.specs.laws.trust.Named.{names, names_same, names_other, naming_value, own, own_live, own_dead, named_add, put_add}
use Rattle.tree.specs.laws.trust.Stands.{Below, root_names, Stands, entry_same, stands_used}
use Rattle.tree.specs.laws.trust.OneStep.{Kept, keep_stands, Added, add_stands, unused_unnamed}

-- ---- entries of one node with another child in a slot

-- a test that passes with the value before passes with the value after
pub every_value : (t : Entry → Bool) (i : ℕ) (v v' : Val) (es : List Entry) → val_at es i ≡ v
    → ((k : List ℕ) → t (record { key = k; value = v }) ≡ true → t (record { key = k; value = v' }) ≡ true)
    → every t es ≡ true → every t (with_value i v' es) ≡ true
unfolding every with_value revalued val_at
every_value t zero v v' [] q f h = refl
every_value t (suc i) v v' [] q f h = refl
every_value t zero v v' (e ∷ es) q f h =
    let (a, b) = and_split (t e) (every t es) h in
    let a' : t (record { key = e.key; value = v }) ≡ true = rw (← q) a in
    and_both (t (record { key = e.key; value = v' })) (every t es) (f e.key a') b
every_value t (suc i) v v' (e ∷ es) q f h =
    let (a, b) = and_split (t e) (every t es) h in
    and_both (t e) (every t (with_value i v' es)) a (every_value t i v v' es q f b)

pub length_value : (i : ℕ) (v : Val) (es : List Entry) → length (with_value i v es) ≡ length es
unfolding with_value revalued
length_value zero v [] = refl
length_value (suc i) v [] = refl
length_value zero v (e ∷ es) = refl
length_value (suc i) v (e ∷ es) = ap suc (length_value i v es)

keys_value : (t : BTreeInfo) (i : ℕ) (v : Val) (es : List Entry) → keys_length t (with_value i v es) ≡ keys_length t es
unfolding with_value revalued keys_length
keys_value t zero v [] = refl
keys_value t (suc i) v [] = refl
keys_value t zero v (e ∷ es) = refl
keys_value t (suc i) v (e ∷ es) = ap (λ (x : ℕ). padded t (length e.key) + x) (keys_value t i v es)

values_value : (t : BTreeInfo) (i : ℕ) (v : Val) (es : List Entry) → value_length v ≡ value_length (val_at es i)
    → values_length t (with_value i v es) ≡ values_length t es
unfolding with_value revalued values_length val_at
values_value t zero v [] q = refl
values_value t (suc i) v [] q = refl
values_value t zero v (e ∷ es) q = ap (λ (x : ℕ). padded t x + values_length t es) q
values_value t (suc i) v (e ∷ es) q = ap (λ (x : ℕ). padded t (value_length e.value) + x) (values_value t i v es q)

-- a value of the same length: the node fits as before
pub fits_value : (t : BTreeInfo) (root : Bool) (level i : ℕ) (v : Val) (es : List Entry) → value_length v ≡ value_length (val_at es i)
    → fits t root level (with_value i v es) ≡ fits t root level es
unfolding fits room_of
fits_value t root level i v es q = ap₂ (fits_sums t root level) (length_value i v es)
    (ap₂ (λ (a b : ℕ). a + b) (keys_value t i v es) (values_value t i v es q))

-- from its place on disk to its slot
disk_to_mem : (o : ℕ) (t : BTreeInfo) (b : Bool) (r c : ℕ) (k : List ℕ) → entry_holds o t b (record { key = k; value = disk r }) ≡ true
    → entry_holds o t b (record { key = k; value = mem c }) ≡ true
unfolding entry_holds value_holds suit is_child
disk_to_mem o t b r c k h = h

module _ (w v : ℕ → ℕ) (s : State) (n i r c : ℕ) (st : Stands w v s) (q : val_at (node_at s n).entries i ≡ disk r)
    (below : Below s c (node_at s n).level) (free : named c s.nodes ≡ 0) (off : c ≡ s.root → ⊥) where
  abbrev es : List Entry
  es = (node_at s n).entries

  abbrev m : MemNode
  m = with_entries (node_at s n) (with_value i (mem c) es)

  disk_some : disk r ≡ ghost → ⊥
  disk_some e = let z : ◌≡◌ {A = ℕ} 0 1 = cc in omega arith

  m_names : (d : ℕ) → (node_at s n).dead ≡ false → own d m ≡ own d (node_at s n) + names d (mem c)
  unfolding with_entries names
  m_names d live =
      let z : names d (val_at es i) ≡ 0 = ap (names d) q in
      omega (arith, own_live d m live, own_live d (node_at s n) live, naming_value d i (mem c) es (val_used es i (disk r) disk_some q))

  m_none : (d : ℕ) → (node_at s n).dead ≡ true → own d m ≡ 0
  unfolding with_entries
  m_none d h = own_dead d m h

  m_links : (d : ℕ) → 1 ≤ own d m → Below s d (node_at s n).level
  m_links d y =
      by_test (node_at s n).dead
      (λ t. absurd (omega (arith, m_none d t)))
      (λ t. by_test (eqb d c)
      (λ e. let z : d ≡ c = eqb-true d c e in rw z below)
      (λ e. st.links n d (omega (arith, m_names d t, names_other d c (eqb-false d c e)))))

  m_once : (d : ℕ) → named d s.nodes + own d m + root_names d s ≤ 1 + own d (node_at s n)
  m_once d =
      by_test (node_at s n).dead
      (λ t. omega (arith, m_none d t, st.once d))
      (λ t. by_test (eqb d c)
      (λ e.
      let z : d ≡ c = eqb-true d c e in
      let a : named d s.nodes ≡ 0 = rw z free in
      let b : root_names d s ≡ 0 = rw (ne_eqb d s.root (λ x. off (sym z ∙ x))) in
      let f : names d (mem c) ≡ 1 = rw z (names_same c) in
      omega (arith, m_names d t))
      (λ e. omega (arith, m_names d t, names_other d c (eqb-false d c e), st.once d)))

  m_kept : Kept w v s n m
  unfolding with_entries value_length
  m_kept =
      record {
        dead = refl;
        level = refl;
        rows = λ d. every_value (entry_holds s.order s.info (eqb (node_at s n).level 0)) i (disk r) (mem c) es q
            (disk_to_mem s.order s.info (eqb (node_at s n).level 0) r c) (st.rows n d);
        links = m_links;
        once = m_once;
        clean = λ d k. st.clean n d k;
        dirty = λ d k z. fits_value s.info (eqb n s.root) (node_at s n).level i (mem c) es (sym (ap value_length q)) ∙ st.dirty n d k z;
        filled = λ d z k. let y = st.filled n d z k in omega (arith, length_value i (mem c) es);
      }

  pub link_stands : Stands w v (put_node s n m)
  link_stands = keep_stands w v w v s n m (at_used s n i (disk r) disk_some q) (λ k a b. b) (λ k a b. b) st m_kept

-- ---- a node that was read below a parent at a level

pub record Fetched (s : State) (level : ℕ) (d : OnDisk) : Type 0 where
  pub deep : d.node.level ≤ 32
  pub lower : d.node.level + 1 ≡ level
  pub rows : every (entry_holds s.order s.info (eqb d.node.level 0)) d.entries ≡ true
  pub none : (c : ℕ) → naming c d.entries ≡ 0
  pub filled : 0 < length d.entries

naming_none : (c : ℕ) (v : Node) (b : List ℕ) (i n : ℕ) → spans_hold v b i n ≡ true → naming c (entries_from v b i n) ≡ 0
unfolding naming entries_from spans_hold
naming_none c v b i zero h = refl
naming_none c v b i (suc n) h =
    let (p, q) = and_split _ (spans_hold v b (suc i) n) h in
    let j : naming c (entries_from v b (suc i) n) ≡ 0 = naming_none c v b (suc i) n q in
    by_value v b i (span_held v (length b) _ p)
    (λ z e. rw e (omega arith))
    (λ x z l e. rw e (omega arith))
    (λ r z e. rw e (omega arith))

entry_join : (s : State) (lv : ℕ) (e : Entry) → keyed s.order e.key ≡ true
    → (not (fixed s.info) || eqb (length e.key) s.info.key_size) &&
    (value_fits s e.value && suit (eqb lv 0) e && child_holds s lv e.value) ≡ true
    → entry_holds s.order s.info (eqb lv 0) e ≡ true
unfolding key_fits
entry_join s lv e k h =
    let (a, b) = and_split (not (fixed s.info) || eqb (length e.key) s.info.key_size)
    (value_fits s e.value && suit (eqb lv 0) e && child_holds s lv e.value) h in
    let (c, d) = and_split (value_fits s e.value && suit (eqb lv 0) e) (child_holds s lv e.value) b in
    let (f, g) = and_split (value_fits s e.value) (suit (eqb lv 0) e) c in
    entry_same s (eqb lv 0) e ∙ and_both (key_fits s e.key && value_fits s e.value) (suit (eqb lv 0) e)
    (and_both (key_fits s e.key) (value_fits s e.value)
    (and_both (keyed s.order e.key) (not (fixed s.info) || eqb (length e.key) s.info.key_size) k a) f) g

every_join : (t u x : Entry → Bool) (es : List Entry) → ((e : Entry) → t e ≡ true → u e ≡ true → x e ≡ true) → every t es ≡ true → every u es ≡ true
    → every x es ≡ true
unfolding every
every_join t u x [] f h k = refl
every_join t u x (e ∷ es) f h k =
    let (a, b) = and_split (t e) (every t es) h in
    let (c, d) = and_split (u e) (every u es) k in
    and_both (x e) (every x es) (f e a c) (every_join t u x es f b d)

module _ (s : State) (p : Place) (b : List ℕ) (inner : p.root ≡ false) (ks : (parsed p b).ksize ≡ s.info.key_size)
    (vs : (parsed p b).vsize ≡ s.info.val_size) where
  abbrev v : Node
  v = parsed p b

  abbrev rs : List Entry
  rs = entries_from v b 0 v.nkeys

  some : entries_hold p v b ≡ true → (spans_hold v b 0 v.nkeys ≡ true) × (0 < length rs)
  unfolding entries_hold
  some h =
      let (a, c) = and_split (spans_hold v b 0 v.nkeys && leb (spans_length v b 0 v.nkeys) (data_space (length b) p.root))
      (not (eqb v.nkeys 0) || p.root && eqb v.level 0) h in
      let z : eqb v.nkeys 0 ≡ false = or_none (eqb v.nkeys 0) p.root (eqb v.level 0) inner c in
      let g = eqb-false v.nkeys 0 z in (
        and_left (spans_hold v b 0 v.nkeys) _ a,
        by_test (ltb 0 v.nkeys) (λ t. rw (entries_length v b 0 v.nkeys) (ltb-true 0 _ t))
            (λ t. absurd (g (omega (arith, ltb-false 0 v.nkeys t)))),
      )
    where
      or_none : (t r x : Bool) → r ≡ false → not t || r && x ≡ true → t ≡ false
      or_none true true x q h = never refl q
      or_none true false x q h = never h refl
      or_none false r x q h = refl

  deep : layout_holds p v ≡ true → v.level ≤ 32
  unfolding layout_holds
  deep h =
      let a = and_left (leb v.keys v.vals && leb v.level 32 && flags_hold p v && _) (eqb v.oid p.oid) h in
      let c = and_left (leb v.keys v.vals && leb v.level 32 && flags_hold p v) _ a in
      let d = and_left (leb v.keys v.vals && leb v.level 32) (flags_hold p v) c in
      leb-true _ _ (and_right (leb v.keys v.vals) (leb v.level 32) d)

  keyed_all : (o : ℕ) (lower upper : List ℕ) → keys_hold o p lower upper rs ≡ true → every (λ e. keyed o e.key) rs ≡ true
  unfolding keys_hold keys_rise
  keyed_all o lower upper h = and_left (every (λ (e : Entry). keyed o e.key) rs) (rising o rs)
      (and_left (every (λ (e : Entry). keyed o e.key) rs && rising o rs) (keys_within o p lower upper rs) h)

  fetched_passed : (lower upper : List ℕ) (d : OnDisk) → Passed s.order p lower upper b d → Fetched s p.parent d
  unfolding on_disk
  fetched_passed lower upper d q =
      let (sp, so) = some q.entries in
      let lv : eqb (v.level + 1) p.parent ≡ true = or_second p.root (eqb (v.level + 1) p.parent) inner q.level in
      rw q.read (record {
        deep = deep q.layout;
        lower = eqb-true _ _ lv;
        rows = every_join (λ e. keyed s.order e.key) (sound s v b ks vs) (entry_holds s.order s.info (eqb v.level 0)) rs
            (entry_join s v.level)
            (keyed_all s.order lower upper q.keys) (all_sound s v b ks vs 0 v.nkeys sp);
        none = λ c. naming_none c v b 0 v.nkeys sp;
        filled = so;
      })
    where
      or_second : (a b : Bool) → a ≡ false → a || b ≡ true → b ≡ true
      or_second true b h k = never refl h
      or_second false b h k = k

place_sizes : (s : State) (bs : Bounds) (level r : ℕ) (b : List ℕ)
    → ((parsed (child_place s.info.key_size s.info.val_size bs level r) b).ksize ≡ s.info.key_size) ×
    ((parsed (child_place s.info.key_size s.info.val_size bs level r) b).vsize ≡ s.info.val_size)
unfolding parsed child_place
place_sizes s bs level r b = (refl, refl)

-- a child's block, read in its place
pub block_fetched : (l : Lent) (s : State) (bs : Bounds) (level r a : ℕ) (d : OnDisk)
    → load_block l s.order (child_place s.info.key_size s.info.val_size bs level r) bs a ≡ ok d → Fetched s level d
unfolding load_block child_place
block_fetched l s bs level r a d e =
    let p : Place = child_place s.info.key_size s.info.val_size bs level r in
    let (i, z) = checked_ok refusal.address (in_image l a) (read_node s.order p (bound_key bs.lower) (bound_key bs.upper) (block_at l a)) d e in
    let (ks, vs) = place_sizes s bs level r (block_at l a) in
    fetched_passed s p (block_at l a) refl ks vs (bound_key bs.lower) (bound_key bs.upper) d
    (read_passed s.order p (bound_key bs.lower) (bound_key bs.upper) (block_at l a) d z)

-- ---- a child brought

root_add : (s : State) (m : MemNode) → (add_node s m).root ≡ s.root
unfolding add_node with_nodes
root_add s m = refl

adopted_added : (w v : ℕ → ℕ) (s : State) (level a : ℕ) (d : OnDisk) → Stands w v s → Fetched s level d → Added w v s (adopted s.virtual a d)
unfolding adopted
adopted_added w v s level a d st f =
    let m : MemNode = adopted s.virtual a d in
    record {
      deep = f.deep;
      rows = f.rows;
      links = λ c y. absurd (omega (arith, f.none c));
      once = λ c. omega (arith, f.none c, st.once c);
      clean = λ k. by_test s.virtual (λ t. rw t) (λ t. rw t);
      dirty = λ k z. never k refl;
      filled = λ z k. f.filled;
    }

pub brought_stands : (w v : ℕ → ℕ) (s : State) (n i r a : ℕ) (d : OnDisk) → val_at (node_at s n).entries i ≡ disk r → Stands w v s
    → Fetched s (node_at s n).level d → Stands w v (loads.brought s n i d a).state
unfolding adopted
brought_stands w v s n i r a d q st f =
    let c : ℕ = length s.nodes in
    let m : MemNode = adopted s.virtual a d in
    let used : n < c = at_used s n i (disk r) (λ e. let z : ◌≡◌ {A = ℕ} 0 1 = cc in omega arith) q in
    let t : State = add_node s m in
    let st' : Stands w v t = add_stands w v s m st (adopted_added w v s (node_at s n).level a d st f) in
    let e : node_at t n ≡ node_at s n = at_add_old s m n used in
    let b : Below t c (node_at t n).level = record {
      used = omega (arith, add_count s m);
      live = ap (λ (x : MemNode). x.dead) (at_add_new s m);
      lower = ap (λ (x : MemNode). x.level + 1) (at_add_new s m) ∙ f.lower ∙ sym (ap (λ (x : MemNode). x.level) e);
    } in
    let free : named c t.nodes ≡ 0 = omega (arith, named_add s m c, f.none c, unused_unnamed w v s c st (le_refl c)) in
    let off : c ≡ t.root → ⊥ = λ z. omega (arith, root_add s m, stands_used w v s st) in
    let k : Stands w v (put_node t n (with_entries (node_at t n) (with_value i (mem c) (node_at t n).entries))) =
    link_stands w v t n i r c st' (ap (λ (x : MemNode). val_at x.entries i) e ∙ q) b free off in
    rw (put_add s n (with_entries (node_at s n) (with_value i (mem c) (node_at s n).entries)) m used) (rw e at k)
