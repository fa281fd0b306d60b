-- On a tree of one leaf: after an accepted upsert a get says the value put, and of every other key what it said; keys stay rising and are counted.
-- Assumes nothing.
use Rattle.std.specs.Prelude.{◌≡◌, refl, List, [], ◌∷◌, Bool, true, false, cond, ◌||◌, not, ◌&&◌, ℕ, suc, ◌+◌, ◌-◌, ◌^◌, ◌≤◌, ◌<◌, length, leb, ltb}
use Rattle.std.proofs.Common.{ap, ap₂, ◌∙◌, arith, ltb-true, ltb-false, le-leb, eqb-true}
use Rattle.std.proofs.Math.Seq.{set_out}
use Rattle.std.proofs.Math.Dec.{eqb}
use Rattle.std.proofs.lemmas.Bool.{eqb-false}
use Rattle.node.specs.Result.{ok, ◌>>=◌, ◌>>◌, check}
use Rattle.node.specs.Refusals as refusal
use Rattle.node.specs.Order.{keyed}
use Rattle.node.specs.Entry.{Entry, Val, rising}
use Rattle.node.specs.Find.{is_there}
use Rattle.node.specs.Fit.{fits, fixed}
use Rattle.node.specs.Cut.{cut}
use Rattle.node.specs.Slot.{MemNode, is_child}
use Rattle.node.specs.laws.order.Order.{key_known}
use Rattle.node.specs.declared.info.BTreeInfo.{BTreeInfo}
use Rattle.tree.specs.laws.base.Node.{by_test, and_left, bind_ok, then_ok, checked_ok, Bytes, Key, Keys, KeyBytes}
use Rattle.tree.specs.Lent.{Lent}
use Rattle.tree.specs.State.{State, node_at, put_node, with_nodes, with_info, with_counts, with_longest, with_entries, changed, marked_dirty}
use Rattle.tree.specs.Hold.{lent_holds, key_fits, value_fits}
use Rattle.tree.specs.Lookup.{Step, way, way_from, leaf_of, held, got_length, get_in, get}
use Rattle.tree.specs.Edit.{mark_way, mark_dirty, touch, index_keys, more_nodes, room_for, parted, grow_root, new_root_holds, cut_at, cut_node, cuts}
use Rattle.tree.specs.Upsert.{put_entry, grown_longest, put_in_leaf, upsert_on, entry_fits, upserted, upsert_in, upsert}
use Rattle.tree.specs.laws.state.State.{at_put_same, at_put_other, put_count}
use Rattle.tree.specs.laws.state.Edit.{grown_level}
use Rattle.tree.specs.laws.state.Hold.{lent_together, root_used, slot_holds_lem, node_rising, node_keys}
use Rattle.tree.specs.laws.state.Entries.{held_nil, put_held, put_other, put_rising, put_length}

-- ---- dirty marks change no entry

put_out : (s : State) (n : ℕ) (x : MemNode) (m : ℕ) → length s.nodes ≤ n → node_at (put_node s n x) m ≡ node_at s m
unfolding node_at put_node with_nodes
put_out s n x m h = rw (set_out s.nodes n x h)

mark_dirty_entries : (s : State) (n m : ℕ) → (node_at (put_node s n (marked_dirty (node_at s n))) m).entries ≡ (node_at s m).entries
unfolding marked_dirty changed
mark_dirty_entries s n m =
    by_test (eqb m n)
    (λ t. let z : m ≡ n = eqb-true m n t in
    by_test (ltb n (length s.nodes))
    (λ u. rw z (ap (λ (x : MemNode). x.entries) (at_put_same s n (marked_dirty (node_at s n)) (ltb-true n (length s.nodes) u))))
    (λ u. ap (λ (x : MemNode). x.entries) (put_out s n (marked_dirty (node_at s n)) m (ltb-false n (length s.nodes) u))))
    (λ t. ap (λ (x : MemNode). x.entries) (at_put_other s n (marked_dirty (node_at s n)) m (eqb-false m n t)))

-- what a mark leaves as it was
pub record Marked (s t : State) : Type 0 where
  pub root : t.root ≡ s.root
  pub info : t.info ≡ s.info
  pub entries : (m : ℕ) → (node_at t m).entries ≡ (node_at s m).entries

marked_one : (s : State) (n : ℕ) → Marked s (put_node s n (marked_dirty (node_at s n)))
unfolding put_node with_nodes
marked_one s n = record { root = refl; info = refl; entries = mark_dirty_entries s n }

marked_then : {s t u : State} → Marked s t → Marked t u → Marked s u
marked_then h k = record { root = k.root ∙ h.root; info = k.info ∙ h.info; entries = λ m. k.entries m ∙ h.entries m }

marked_way : (p : List Step) (s : State) → Marked s (mark_way p s)
unfolding mark_way
marked_way [] s = record { root = refl; info = refl; entries = λ m. refl }
marked_way (x ∷ xs) s = marked_then (marked_one s x.slot) (marked_way xs (put_node s x.slot (marked_dirty (node_at s x.slot))))

-- what is so of both is so of the one picked
pick : {A : Type 0} (P : A → Type 0) (t : Bool) (x y : A) → P x → P y → P (cond t x y)
pick P true x y h k = h
pick P false x y h k = k

pub touch_marks : (p : List Step) (s : State) → Marked s (touch p s)
unfolding touch mark_dirty
touch_marks p s =
    pick (Marked s) s.virtual (mark_dirty (mark_dirty s s.root) (leaf_of p)) (mark_way p s)
    (marked_then (marked_one s s.root) (marked_one (put_node s s.root (marked_dirty (node_at s s.root))) (leaf_of p)))
    (marked_way p s)

-- marks leave the order as it is, and the slots in use
way_order : (p : List Step) (s : State) → (mark_way p s).order ≡ s.order
unfolding mark_way put_node with_nodes
way_order [] s = refl
way_order (x ∷ xs) s = way_order xs (put_node s x.slot (marked_dirty (node_at s x.slot)))

way_count : (p : List Step) (s : State) → length (mark_way p s).nodes ≡ length s.nodes
unfolding mark_way
way_count [] s = refl
way_count (x ∷ xs) s = way_count xs (put_node s x.slot (marked_dirty (node_at s x.slot)))
    ∙ put_count s x.slot (marked_dirty (node_at s x.slot))

pub touch_order : (p : List Step) (s : State) → (touch p s).order ≡ s.order
unfolding touch mark_dirty put_node with_nodes
touch_order p s = pick (λ (t : State). t.order ≡ s.order) s.virtual (mark_dirty (mark_dirty s s.root) (leaf_of p)) (mark_way p s) refl
    (way_order p s)

touch_count : (p : List Step) (s : State) {n : ℕ} → n < length s.nodes → n < length (touch p s).nodes
unfolding touch mark_dirty
touch_count p s {n} h =
    let two = put_count (put_node s s.root (marked_dirty (node_at s s.root))) (leaf_of p)
    (marked_dirty (node_at (put_node s s.root (marked_dirty (node_at s s.root))) (leaf_of p))) in
    pick (λ (t : State). n < length t.nodes) s.virtual (mark_dirty (mark_dirty s s.root) (leaf_of p)) (mark_way p s)
    (omega (arith, two, put_count s s.root (marked_dirty (node_at s s.root))))
    (omega (arith, way_count p s))

-- ---- the way and the cut of a root that is a leaf

abbrev pub root_step : State → Step
root_step s = record { slot = s.root; child = 0 }

pub way_leaf : (l : Lent) (s : State) (k : List ℕ) → (node_at s s.root).level ≡ 0 → way l s k ≡ ok (record { state = s; steps = root_step s ∷ [] })
unfolding way way_from
way_leaf l s k z = rw z

more_level : (s : State) (n : ℕ) → (node_at (more_nodes s n) (more_nodes s n).root).level ≡ (node_at s s.root).level
unfolding more_nodes with_info node_at
more_level s n = refl

-- a root cut is no leaf after
pub cut_grows : (l : Lent) (n : ℕ) (s t : State) → cut_node l [] n s ≡ ok t → (node_at t t.root).level ≡ 0 → t ≡ s
unfolding cut_node cut_at
cut_grows l n s t e z =
    by_test ((node_at s n).dead || fits s.info (eqb n s.root) (node_at s n).level (node_at s n).entries)
    (λ u. let q : ok s ≡ ok t = rw u at e in cc)
    (λ u.
    let p : (cut s.info (node_at s n).level (node_at s n).entries >>= λ c. cut_at l [] n c s) ≡ ok t = rw u at e in
    let (c, q, w) = bind_ok (cut s.info (node_at s n).level (node_at s n).entries) (λ c. cut_at l [] n c s) t p in
    let g : State = more_nodes (grow_root (parted s n c) n (length s.nodes)) 2 in
    let (a, b) = checked_ok refusal.new_root (new_root_holds (parted s n c) n (length s.nodes)) (room_for l s 2 >> ok g) t w in
    let (o, i) = then_ok (room_for l s 2) (ok g) t b in
    let y : g ≡ t = cc in
    let x : (node_at g g.root).level ≡ suc (node_at (parted s n c) n).level = more_level (grow_root (parted s n c) n (length s.nodes)) 2
    ∙ grown_level (parted s n c) n (length s.nodes) in
    let v : (node_at g g.root).level ≡ 0 = rw y z in
    absurd (omega arith))

-- ---- upsert

-- the tree after: one leaf with the entry put, and the counts
pub record Put (s t : State) (k : List ℕ) (v : Val) : Type 0 where
  pub root : t.root ≡ s.root
  pub entries : (node_at t t.root).entries ≡ put_entry s.order (record { key = k; value = v }) (node_at s s.root).entries
  pub keys : t.info.key_count ≡ s.info.key_count + cond (not (is_there s.order k (node_at s s.root).entries)) 1 0
  pub nodes : t.info.node_count ≡ s.info.node_count

put_in_leaf_lem : (s t : State) (k : List ℕ) (v : Val) → Marked s t → t.order ≡ s.order → s.root < length t.nodes
    → Put s (put_in_leaf t s.root k v) k v
unfolding put_in_leaf with_info put_node with_nodes grown_longest with_longest with_counts with_entries node_at
put_in_leaf_lem s t k v m o h =
    let es : (node_at t s.root).entries ≡ (node_at s s.root).entries = m.entries s.root in
    record {
      root = m.root;
      entries = ap (λ (n : ℕ). (node_at (put_node t s.root
          (with_entries (node_at t s.root) (put_entry t.order (record { key = k; value = v }) (node_at t s.root).entries))) n).entries)
          m.root
          ∙ ap (λ (x : MemNode). x.entries) (at_put_same t s.root
          (with_entries (node_at t s.root) (put_entry t.order (record { key = k; value = v }) (node_at t s.root).entries)) h)
          ∙ ap₂ (λ (x : ℕ) (y : List Entry). put_entry x (record { key = k; value = v }) y) o es;
      keys = ap₂ (λ (x : BTreeInfo) (b : Bool). x.key_count + cond (not b) 1 0) m.info (ap₂ (λ (x : ℕ) (y : List Entry). is_there x k y) o es);
      nodes = ap (λ (x : BTreeInfo). x.node_count) m.info;
    }

pub upsert_leaf : (l : Lent) (s t : State) (k : List ℕ) (v : Val) → upsert l s k v ≡ ok t → (node_at s s.root).level ≡ 0
    → (node_at t t.root).level ≡ 0 → Put s t k v
unfolding upsert upsert_in upserted upsert_on leaf_of index_keys cuts
upsert_leaf l s t k v e z y =
    let (a, b) = checked_ok refusal.lent (lent_holds l s) (upsert_in l s k v) t e in
    let (c, d) = checked_ok refusal.argument (entry_fits s k v) (upserted l s k v) t b in
    let m : Marked s (touch (root_step s ∷ []) s) = touch_marks (root_step s ∷ []) s in
    let o : (touch (root_step s ∷ []) s).order ≡ s.order = touch_order (root_step s ∷ []) s in
    let u : State = put_in_leaf (touch (root_step s ∷ []) s) s.root k v in
    let (f, g) = checked_ok refusal.count (is_there s.order k (node_at s s.root).entries || ltb s.info.key_count (2 ^ 64 - 1))
    (cut_node l [] s.root u) t (rw (way_leaf l s k z) at d) in
    let q : t ≡ u = cut_grows l s.root u t g y in
    rw q (put_in_leaf_lem s (touch (root_step s ∷ []) s) k v m o (touch_count (root_step s ∷ []) s (root_used s (lent_together l s a)).0))

-- ---- and then get

-- what the definitions of get answer on a leaf
abbrev pub holds : State → List ℕ → List Val
holds s k = held s.order k (node_at s s.root).entries

module _ (l : Lent) (s t : State) (k : List ℕ) (v : Val) (e : upsert l s k v ≡ ok t) (z : (node_at s s.root).level ≡ 0)
    (y : (node_at t t.root).level ≡ 0)
    (bk : Bytes k) (bs : KeyBytes (node_at s s.root).entries) where
  lent : lent_holds l s ≡ true
  unfolding upsert
  lent = (checked_ok refusal.lent (lent_holds l s) (upsert_in l s k v) t e).0

  fitting : entry_fits s k v ≡ true
  unfolding upsert upsert_in
  fitting = (checked_ok refusal.argument (entry_fits s k v) (upserted l s k v) t
      (checked_ok refusal.lent (lent_holds l s) (upsert_in l s k v) t e).1).0

  key : Key s.order k
  unfolding entry_fits key_fits
  key = key_known s.order k (and_left (keyed s.order k) (not (fixed s.info) || eqb (length k) s.info.key_size)
      (and_left (key_fits s k) (value_fits s v) (and_left (key_fits s k && value_fits s v) (not (is_child v)) fitting))) bk

  keys : Keys s.order (node_at s s.root).entries
  keys =
      let (a, b) = root_used s (lent_together l s lent) in
      node_keys s s.root (node_at s s.root) (slot_holds_lem s s.root (lent_together l s lent) a b) bs

  -- the key put holds its value
  pub upsert_get : held s.order k (node_at t t.root).entries ≡ v ∷ []
  upsert_get = rw (upsert_leaf l s t k v e z y).entries (put_held s.order (record { key = k; value = v }) (node_at s s.root).entries key)

  -- every other key holds what it held
  pub upsert_get_other : (j : List ℕ) → Key s.order j → (j ≡ k → ⊥) → held s.order j (node_at t t.root).entries ≡ held s.order j
      (node_at s s.root).entries
  upsert_get_other j g n = rw (upsert_leaf l s t k v e z y).entries
      (put_other s.order (record { key = k; value = v }) j (node_at s s.root).entries key g keys n)

  -- keys rise
  pub upsert_rising : rising s.order (node_at t t.root).entries ≡ true
  upsert_rising =
      let (a, b) = root_used s (lent_together l s lent) in
      rw (upsert_leaf l s t k v e z y).entries
      (put_rising s.order (record { key = k; value = v }) (node_at s s.root).entries key keys
      (node_rising s s.root (node_at s s.root) (slot_holds_lem s s.root (lent_together l s lent) a b)))

  -- the key count grows as the entries do
  pub upsert_count : t.info.key_count + length (node_at s s.root).entries ≡ s.info.key_count + length (node_at t t.root).entries
  upsert_count =
      let p = upsert_leaf l s t k v e z y in
      let q = put_length s.order (record { key = k; value = v }) (node_at s s.root).entries in
      let x : t.info.key_count ≡ s.info.key_count + cond (not (is_there s.order k (node_at s s.root).entries)) 1 0 = p.keys in
      let w : length (node_at t t.root).entries ≡ length (node_at s s.root).entries + cond
      (is_there s.order k (node_at s s.root).entries) 0 1 = ap length p.entries ∙ q in
      by_test (is_there s.order k (node_at s s.root).entries)
      (λ f.
      let x' : t.info.key_count ≡ s.info.key_count + 0 = rw f at x in
      let w' : length (node_at t t.root).entries ≡ length (node_at s s.root).entries + 0 = rw f at w in
      omega arith)
      (λ f.
      let x' : t.info.key_count ≡ s.info.key_count + 1 = rw f at x in
      let w' : length (node_at t t.root).entries ≡ length (node_at s s.root).entries + 1 = rw f at w in
      omega arith)

-- ---- get on a leaf

-- get on a tree of one leaf: what the leaf holds, if the output has room; nothing is loaded
pub get_leaf : (l : Lent) (s : State) (room : ℕ) (k : List ℕ) → lent_holds l s ≡ true → keyed s.order k ≡ true → (node_at s s.root).level ≡ 0
    → get l s room k ≡ (check refusal.output (leb (got_length (holds s k)) room) >> ok (record { state = s; answer = holds s k }))
unfolding get get_in leaf_of
get_leaf l s room k h a z = rw (h, a, way_leaf l s k z)

-- an empty tree answers none to every key
pub get_empty : (l : Lent) (s : State) (room : ℕ) (k : List ℕ) → lent_holds l s ≡ true → keyed s.order k ≡ true → (node_at s s.root).level ≡ 0
    → (node_at s s.root).entries ≡ []
    → get l s room k ≡ ok (record { state = s; answer = [] })
unfolding got_length
get_empty l s room k h a z e =
    let q : holds s k ≡ [] = ap (held s.order k) e ∙ held_nil s.order k in
    get_leaf l s room k h a z ∙ rw (q, le-leb 0 room (omega arith))
