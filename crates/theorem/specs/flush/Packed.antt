-- Nodes of the tree as flush packs them, children by their numbers: they fit as they did, they are bytes, their entries suit their level and their
-- keys rise. Assumes nothing.
use Rattle.std.specs.Prelude.{◌≡◌, Bool, false, cond, ◌&&◌, ◌||◌, ℕ, zero, suc, ◌+◌, ◌-◌, ◌^◌, ◌≤◌, ◌<◌, length, replicate, eqb}
use Rattle.std.proofs.Math.Path.{refl, ap, ap₂}
use mathlib.Core.List.{List, [], ◌∷◌, ◌++◌, map}
use Rattle.std.proofs.Math.Bool.{true, not}
use Rattle.std.proofs.Common.{arith, lt-ltb, ne_eqb}
use Rattle.seal.specs.Bytes.{bytes_of}
use Rattle.node.specs.Order.{pair, keyed, keyed_length, less, byte_less}
use Rattle.node.specs.Entry.{Entry, Val, ghost, leaf, disk, mem, value_length, value_bytes, rise_after, rising, every}
use Rattle.node.specs.Fit.{padded, fixed, keys_length, values_length, room_of, fits}
use Rattle.node.specs.Pack.{numbered, numbered_value, pad_to, value_offset, toc_entry, toc, key_area, value_area, head_bytes, info_bytes, pack_node}
use Rattle.node.specs.Read.{in_bounds, keys_rise, keys_within, keys_hold}
use Rattle.node.specs.Slot.{MemNode, is_child}
use Rattle.node.specs.internal.Packable.{value_suits, suits}
use Rattle.node.specs.laws.base.Bytes.{Bytes, bytes_nil, bytes_append, bytes_bytes_of, bytes_replicate}
use Rattle.node.specs.laws.base.Tests.{by_test, never, and_both, or_right}
use Rattle.node.specs.laws.order.Order.{lt_rank}
use Rattle.node.specs.laws.pack.Parts.{fields}
use Rattle.node.specs.laws.pack.Layout.{contents_of, free_of, tail_of, after_sum, sum_of, packed_parts}
use Rattle.node.specs.laws.pack.HeaderBack.{head_table_lem, info_table_lem, head_table, info_table}
use Rattle.node.specs.declared.info.BTreeInfo.{BTreeInfo}
use Rattle.node.specs.declared.build.NodeBuild.{NodeBuild}
use Rattle.node.specs.Place.{Place}
use Rattle.theorem.specs.model.Bounds.{Terms, K, Items, nil, cons, KeyOk, Row, value_sized}
use Rattle.theorem.specs.model.Lazy.{node_of, names, names_same, Child, Ok}
use Rattle.theorem.specs.flush.Writes.{naming}

-- ---- numbers take the room of slots

module _ (f : ℕ → ℕ) where
  pub numbered_count : (es : List Entry) → length (map (numbered f) es) ≡ length es
  numbered_count [] = refl
  numbered_count (e ∷ es) = ap suc (numbered_count es)

  value_count : (v : Val) → value_length (numbered_value f v) ≡ value_length v
  unfolding value_length numbered_value
  value_count ghost = refl
  value_count (leaf b) = refl
  value_count (disk r) = refl
  value_count (mem c) = refl

  keys_same : (t : BTreeInfo) (es : List Entry) → keys_length t (map (numbered f) es) ≡ keys_length t es
  unfolding keys_length numbered
  keys_same t [] = refl
  keys_same t (e ∷ es) = ap (λ (z : ℕ). padded t (length e.key) + z) (keys_same t es)

  values_same : (t : BTreeInfo) (es : List Entry) → values_length t (map (numbered f) es) ≡ values_length t es
  unfolding values_length numbered
  values_same t [] = refl
  values_same t (e ∷ es) = ap₂ (λ (a b : ℕ). padded t a + b) (value_count e.value) (values_same t es)

  pub numbered_fits : (t : BTreeInfo) (root : Bool) (level : ℕ) (es : List Entry) → fits t root level (map (numbered f) es) ≡ fits t root level es
  unfolding fits room_of
  numbered_fits t root level es = rw (numbered_count es, keys_same t es, values_same t es)

-- ---- a packed node is bytes

abbrev pub AllBytes : List Entry → Type 0
AllBytes [] = Unit {0}
AllBytes (e ∷ es) = Bytes e.key × Bytes (value_bytes e.value) × AllBytes es

fields_bytes : (fs : List (ℕ × ℕ)) → Bytes (fields fs)
unfolding fields
fields_bytes [] = bytes_nil
fields_bytes (f ∷ fs) = bytes_append (bytes_of f.0 f.1) (fields fs) (bytes_bytes_of f.0 f.1) (fields_bytes fs)

pad_bytes : (n : ℕ) (bs : List ℕ) → Bytes bs → Bytes (pad_to n bs)
unfolding pad_to
pad_bytes n bs h = bytes_append bs (replicate (n - length bs) 0) h (bytes_replicate (n - length bs) 0 (omega arith))

entry_bytes : (t : BTreeInfo) (ko vo : ℕ) (e : Entry) → Bytes (toc_entry t ko vo e)
unfolding toc_entry
entry_bytes t ko vo e = go (fixed t)
  where
    two : (x : ℕ) → Bytes (bytes_of 2 x)
    two x = bytes_bytes_of 2 x

    go : (f : Bool) → Bytes (cond f (bytes_of 2 ko ++ bytes_of 2 (value_offset e.value vo))
        (bytes_of 2 ko ++ bytes_of 2 (length e.key) ++ bytes_of 2 (value_offset e.value vo) ++ bytes_of 2 (value_length e.value)))
    go true = bytes_append _ _ (two ko) (two _)
    go false = bytes_append _ _ (bytes_append _ _ (bytes_append _ _ (two ko) (two _)) (two _)) (two _)

toc_bytes : (t : BTreeInfo) (ko vo : ℕ) (es : List Entry) → Bytes (toc t ko vo es)
unfolding toc
toc_bytes t ko vo [] = bytes_nil
toc_bytes t ko vo (e ∷ es) =
    let vo' : ℕ = vo + padded t (value_length e.value) in
    bytes_append _ _ (entry_bytes t ko vo' e) (toc_bytes t (ko + padded t (length e.key)) vo' es)

keys_bytes : (t : BTreeInfo) (es : List Entry) → AllBytes es → Bytes (key_area t es)
unfolding key_area
keys_bytes t [] h = bytes_nil
keys_bytes t (e ∷ es) h = bytes_append _ _ (pad_bytes _ e.key h.0) (keys_bytes t es h.2)

values_bytes : (t : BTreeInfo) (es : List Entry) → AllBytes es → Bytes (value_area t es)
unfolding value_area
values_bytes t [] h = bytes_nil
values_bytes t (e ∷ es) h = bytes_append _ _ (values_bytes t es h.2) (pad_bytes _ (value_bytes e.value) h.1)

tail_bytes : (b : NodeBuild) → Bytes (tail_of b)
unfolding tail_of
tail_bytes b = go b.root
  where
    go : (r : Bool) → Bytes (cond r (info_bytes b.info) [])
    go true = rw (info_table_lem b.info) (fields_bytes (info_table b.info))
    go false = bytes_nil

head_bytes_lem : (b : NodeBuild) (es : List Entry) → Bytes (head_bytes b es)
head_bytes_lem b es = rw (head_table_lem b es) (fields_bytes (head_table b es))

pub packed_bytes : (b : NodeBuild) (es : List Entry) → AllBytes es → Bytes (pack_node b es)
unfolding after_sum
packed_bytes b es h =
    rw (packed_parts b es)
    (bytes_append _ _ (bytes_bytes_of 8 (sum_of b es))
    (bytes_append _ _ (head_bytes_lem b es)
    (bytes_append _ _ (pad_bytes (contents_of b es) (toc b.info 0 0 es) (toc_bytes b.info 0 0 es))
    (bytes_append _ _ (keys_bytes b.info es h)
    (bytes_append _ _ (bytes_replicate (free_of b es) 0 (omega arith))
    (bytes_append _ _ (values_bytes b.info es h) (tail_bytes b)))))))

-- ---- the entries of a node of the tree

-- keys of the order that rise, all below the entry's bound
abbrev Keyed : Terms → (ℕ → Entry → Type 0) → Type 0
Keyed τ P = (m : ℕ) (e : Entry) → P m e → KeyOk τ e.key × (K τ e.key < m)

less_nil : (o : ℕ) (k : List ℕ) → less o k [] ≡ false
unfolding less keyed keyed_length
less_nil o k =
    by_test (eqb o pair)
    (λ t. by_test (eqb (length k) 16) (λ u. rw (t, u) (none k)) (λ u. rw (t, u) (none k)))
    (λ t. rw t (none k))
  where
    none : (k : List ℕ) → byte_less k [] ≡ false
    none [] = unfold byte_less in refl
    none (x ∷ xs) = unfold byte_less in refl

module _ (τ : Terms) (f : ℕ → ℕ) {P : ℕ → Entry → Type 0} (known : Keyed τ P) where
  rise_after_lem : (k : List ℕ) → KeyOk τ k → {lo hi : ℕ} {es : List Entry} → Items (K τ) P lo hi es → K τ k < lo
      → rise_after τ.order k (map (numbered f) es) ≡ true
  unfolding rise_after numbered
  rise_after_lem k g (nil z) h = refl
  rise_after_lem k g (cons {m = m} {e = e} z p r) h =
      let (ke, lt) = known m e p in
      and_both _ _ (lt_rank τ.order τ.most k e.key g.key ke.key g.short ke.short (omega arith)) (rise_after_lem e.key ke r lt)

  pub items_rise : {lo hi : ℕ} {es : List Entry} → Items (K τ) P lo hi es → rising τ.order (map (numbered f) es) ≡ true
  unfolding rising numbered
  items_rise (nil z) = refl
  items_rise (cons {m = m} {e = e} z p r) = let (ke, lt) = known m e p in rise_after_lem e.key ke r lt

  items_keyed : {lo hi : ℕ} {es : List Entry} → Items (K τ) P lo hi es → every (λ e. keyed τ.order e.key) (map (numbered f) es) ≡ true
  unfolding every numbered
  items_keyed (nil z) = refl
  items_keyed (cons {m = m} {e = e} z p r) = and_both _ _ (known m e p).0.key.holds (items_keyed r)

  items_within : (p : Place) → p.bounded ≡ false → {lo hi : ℕ} {es : List Entry} → Items (K τ) P lo hi es
      → keys_within τ.order p [] [] (map (numbered f) es) ≡ true
  unfolding keys_within every in_bounds
  items_within p b (nil z) = refl
  items_within p b (cons {e = e} z q r) = and_both _ _ (one (numbered f e).key) (items_within p b r)
    where
      one : (k : List ℕ) → (p.root || not (less τ.order k [])) && (not p.bounded || less τ.order k []) ≡ true
      one k = rw (less_nil τ.order k, b) (by_test p.root (λ t. rw t) (λ t. rw t))

  -- 9
  pub items_hold : (p : Place) → p.bounded ≡ false → {lo hi : ℕ} {es : List Entry} → Items (K τ) P lo hi es
      → keys_hold τ.order p [] [] (map (numbered f) es) ≡ true
  unfolding keys_hold keys_rise
  items_hold p b r = and_both _ _ (and_both _ _ (items_keyed r) (items_rise r)) (items_within p b r)

-- a key's fixed length
key_sized : (τ : Terms) (t : BTreeInfo) (k : List ℕ) → t.key_size ≡ τ.ksize → KeyOk τ k → (not (fixed t) || eqb (length k) t.key_size) ≡ true
unfolding fixed
key_sized τ t k e h =
    rw e (by_test (eqb τ.ksize 0)
    (λ z. rw z)
    (λ z. rw z (or_right (eqb τ.ksize 0) (eqb (length k) τ.ksize) z h.fixed)))

module _ (τ : Terms) (rd at : ℕ → MemNode) (f : ℕ → ℕ) (t : BTreeInfo) (ks : t.key_size ≡ τ.ksize) (vs : t.val_size ≡ τ.vsize) where
  value_suits_lem : (v : Val) → value_sized τ v ≡ true → value_suits t 0 (numbered_value f v) ≡ true
  unfolding value_sized value_suits numbered_value fixed
  value_suits_lem ghost h = refl
  value_suits_lem (leaf b) h =
      rw (ks, vs) (by_test (eqb τ.ksize 0)
      (λ z. rw z)
      (λ z. rw z (or_right (eqb τ.ksize 0) (eqb (length b) τ.vsize) z h)))
  value_suits_lem (disk r) h = never h refl
  value_suits_lem (mem c) h = never h refl

  pub rows_suit : {lo hi : ℕ} {es : List Entry} → Items (K τ) (Row τ) lo hi es → every (suits t 0) (map (numbered f) es) ≡ true
  unfolding every suits numbered
  rows_suit (nil z) = refl
  rows_suit (cons {e = e} z p r) = and_both _ _ (and_both _ _ (key_sized τ t e.key ks p.key) (value_suits_lem e.value p.value.sized))
      (rows_suit r)

  index : (l : ℕ) → not (eqb (suc l) 0) ≡ true
  index l = ap not (ne_eqb (suc l) 0 (λ e. omega arith))

  -- numbers of children fit their field
  child_suits : (l : ℕ) (v : Val) → is_child v ≡ true → ((c : ℕ) → 1 ≤ names c v → f c < 2 ^ 64) → ((r : ℕ) → v ≡ disk r → r < 2 ^ 64)
      → value_suits t (suc l) (numbered_value f v) ≡ true
  unfolding is_child value_suits numbered_value
  child_suits l ghost h a b = never h refl
  child_suits l (leaf x) h a b = never h refl
  child_suits l (disk r) h a b = and_both _ _ (index l) (lt-ltb r (2 ^ 64) (b r refl))
  child_suits l (mem c) h a b = and_both _ _ (index l) (lt-ltb (f c) (2 ^ 64) (a c (omega (arith, names_same c))))

  pub kids_suit : (l : ℕ) → ((r lo hi : ℕ) → Ok τ rd at l lo hi (node_of rd at (disk r)) → r < 2 ^ 64) → {lo hi : ℕ} {es : List Entry}
      → Items (K τ) (Child τ (Ok τ rd at l) (node_of rd at)) lo hi es
      → ((c : ℕ) → 1 ≤ naming c es → f c < 2 ^ 64) → every (suits t (suc l)) (map (numbered f) es) ≡ true
  unfolding every suits numbered
  kids_suit l small (nil z) h = refl
  kids_suit l small (cons {m = m} {e = e} z p r) h =
      and_both _ _
      (and_both _ _ (key_sized τ t e.key ks p.key)
      (child_suits l e.value p.is_one (λ c q. h c (omega arith)) (λ k q. small k (K τ e.key) m (rw q at p.ok))))
      (kids_suit l small r (λ c q. h c (omega arith)))

-- bytes, whatever the numbers
module _ (τ : Terms) (rd at : ℕ → MemNode) (f : ℕ → ℕ) where
  leaf_bytes : (v : Val) → Bytes (value_bytes v) → Bytes (value_bytes (numbered_value f v))
  unfolding numbered_value value_bytes
  leaf_bytes ghost h = h
  leaf_bytes (leaf b) h = h
  leaf_bytes (disk r) h = h
  leaf_bytes (mem c) h = bytes_bytes_of 8 (f c)

  child_bytes : (v : Val) → is_child v ≡ true → Bytes (value_bytes (numbered_value f v))
  unfolding numbered_value value_bytes is_child
  child_bytes ghost h = never h refl
  child_bytes (leaf b) h = never h refl
  child_bytes (disk r) h = bytes_bytes_of 8 r
  child_bytes (mem c) h = bytes_bytes_of 8 (f c)

  rows_bytes : {lo hi : ℕ} {es : List Entry} → Items (K τ) (Row τ) lo hi es → AllBytes (map (numbered f) es)
  unfolding numbered
  rows_bytes (nil z) = tt
  rows_bytes (cons {e = e} z p r) = (p.key.key.bytes, leaf_bytes e.value p.value.bytes, rows_bytes r)

  kids_bytes : (l : ℕ) {lo hi : ℕ} {es : List Entry} → Items (K τ) (Child τ (Ok τ rd at l) (node_of rd at)) lo hi es → AllBytes (map (numbered f) es)
  unfolding numbered
  kids_bytes l (nil z) = tt
  kids_bytes l (cons {e = e} z p r) = (p.key.key.bytes, child_bytes e.value p.is_one, kids_bytes l r)

  pub ok_bytes : (l lo hi : ℕ) (m : MemNode) → Ok τ rd at l lo hi m → AllBytes (map (numbered f) m.entries)
  ok_bytes zero lo hi m h = rows_bytes h.items
  ok_bytes (suc l) lo hi m h = kids_bytes l h.items

  pub ok_keys : (p : Place) → p.bounded ≡ false → (l lo hi : ℕ) (m : MemNode) → Ok τ rd at l lo hi m
      → keys_hold τ.order p [] [] (map (numbered f) m.entries) ≡ true
  ok_keys p b zero lo hi m h = items_hold τ f (λ m e q. (q.key, q.below)) p b h.items
  ok_keys p b (suc l) lo hi m h = items_hold τ f (λ m e q. (q.key, q.below)) p b h.items
