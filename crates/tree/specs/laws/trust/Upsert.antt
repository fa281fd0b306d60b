-- An accepted upsert keeps trust, whatever the order of the keys. Assumes nothing.
use Rattle.std.specs.Prelude.{◌≡◌, List, [], ◌∷◌, ◌++◌, Bool, true, false, ◌&&◌, ◌||◌, not, ℕ, zero, suc, ◌+◌, ◌-◌, ◌^◌, ◌≤◌, ◌<◌, length, take, drop, leb, eqb}
use Rattle.std.proofs.Math.Path.{refl, sym, ap}
use Rattle.std.proofs.Common.{subst, ◌∙◌, leb-true, le-leb, ltb-true, ltb-false, lt-ltb, eqb-true, eq-eqb}
use Rattle.std.proofs.Math.Bool.{cond}
use native.Mathlib.Omega.{arith}
use Rattle.std.proofs.Math.Dec.{ltb}
use Rattle.std.proofs.lemmas.Bool.{eqb-false, not-true}
use Rattle.node.specs.Result.{ok, ◌>>=◌}
use Rattle.node.specs.Refusals as refusal
use Rattle.node.specs.Order.{same_key}
use Rattle.node.specs.Entry.{Entry, Val, mem, every, value_length}
use Rattle.node.specs.Find.{key_at, place_of, is_there}
use Rattle.node.specs.Fit.{greater, data_space, keys_length, values_length, fits}
use Rattle.node.specs.Cut.{cut}
use Rattle.node.specs.Slot.{MemNode, is_child, suit, key_length_holds, value_holds, entry_holds, insert_at, revalued, with_value}
use Rattle.node.specs.declared.info.BTreeInfo.{BTreeInfo}
use Rattle.node.specs.laws.base.Tests.{by_test, never, and_split, and_left, and_right, and_both}
use Rattle.node.specs.laws.base.Results.{Holds, holds_bind, holds_check, bind_ok}
use Rattle.node.specs.laws.order.Found.{there_in}
use Rattle.node.specs.laws.fit.Fit.{padded_least, fits_space}
use Rattle.node.specs.laws.fit.Cut.{cut_parts}
use Rattle.node.specs.laws.order.Rising.{every_join, every_right}
use Rattle.tree.specs.Lent.{Lent, is_size, sizes_hold}
use Rattle.tree.specs.State.{State, node_at, put_node, with_nodes, with_info, with_counts, with_longest, with_entries}
use Rattle.tree.specs.Hold.{key_fits, value_fits, info_holds, naming}
use Rattle.tree.specs.Lookup.{Step, Way, way, leaf_of}
use Rattle.tree.specs.Edit.{touch, set_index_key, index_keys, cut_at, cut_node, cuts}
use Rattle.tree.specs.Upsert.{put_entry, grown_longest, put_in_leaf, upsert_on, entry_fits, upserted}
use Rattle.tree.specs.Trust.{trusted}
use Rattle.tree.specs.laws.state.State.{at_put_same, at_put_other}
use Rattle.tree.specs.laws.trust.Named.{names, names_same, names_is, names_other, names_none, naming_insert, naming_value_most, live_used}
use Rattle.tree.specs.laws.trust.Stands.{Stands, all, stands_wider, Held, entry_same, trusted_of, of_trusted}
use Rattle.tree.specs.laws.trust.OneStep.{Like, like_then, like_counts, like_longest, entry_like, info_stands}
use Rattle.tree.specs.laws.trust.Loads.{by_list, loads_held, Down, end, on, way_root}
use Rattle.tree.specs.laws.trust.Edit.{Edited, on_way, leaf_on, Falls, none, one, more, falls_used, falls_steady, held_below_lem, down_falls}
use Rattle.tree.specs.laws.trust.Edit.{down_leaf, entries_edited, pick, touch_edited, indexes_edited}
use Rattle.tree.specs.laws.trust.Cut.{every_insert}
use Rattle.tree.specs.laws.trust.CutRoot.{Ended, cuts_ended}

-- ---- the levels of a way fall, so its slots are distinct

pub down_level : (w v : ℕ → ℕ) (s : State) (x : Step) (xs : List Step) → Stands w v s → Down s (x ∷ xs) → (node_at s x.slot).level ≡ length xs
down_level w v s x [] st (end _ live lv) = lv
down_level w v s x (y ∷ xs) st (on _ _ _ live q d) =
    let k = down_level w v s y xs st d in
    omega (arith, (held_below_lem w v s x.slot x.child y.slot st live q).0.lower)

on_first : (s : State) (x : Step) (c k m : ℕ) → (node_at s x.slot).level ≤ m → 1 ≤ names c (mem x.slot) + k → (1 ≤ k → (node_at s c).level ≤ m)
    → (node_at s c).level ≤ m
on_first s x c k m h y f =
    by_test (ltb 0 (names c (mem x.slot)))
    (λ t. let e : c ≡ x.slot = names_is c x.slot (ltb-true 0 _ t) in subst (λ (z : ℕ). (node_at s z).level ≤ m) (sym e) h)
    (λ t. f (omega (arith, ltb-false 0 (names c (mem x.slot)) t)))

-- a slot of a way is no higher than the way is long
down_low : (w v : ℕ → ℕ) (s : State) (x : Step) (xs : List Step) (c : ℕ) → Stands w v s → Down s (x ∷ xs) → 1 ≤ on_way c (x ∷ xs)
    → (node_at s c).level ≤ length xs
down_low w v s x [] c st d h = on_first s x c 0 0 (omega (arith, down_level w v s x [] st d)) h (λ z. absurd (omega arith))
down_low w v s x (y ∷ xs) c st (on _ _ _ live q d) h =
    on_first s x c (on_way c (y ∷ xs)) (length (y ∷ xs)) (omega (arith, down_level w v s x (y ∷ xs) st (on x y xs live q d))) h
    (λ z. let k = down_low w v s y xs c st d z in omega arith)

pub down_once : (w v : ℕ → ℕ) (s : State) (ps : List Step) (c : ℕ) → Stands w v s → Down s ps → on_way c ps ≤ 1
down_once w v s ps c st (end x live lv) = once_first c x 0 (omega arith) (λ z. refl) where
  once_first : (c : ℕ) (x : Step) (k : ℕ) → k ≤ 1 → (c ≡ x.slot → k ≡ 0) → names c (mem x.slot) + k ≤ 1
  once_first c x k h f = by_test (eqb c x.slot) (λ t. let e = eqb-true c x.slot t in let g = f e in let z : names c (mem x.slot) ≡ 1 = rw e
      (names_same x.slot) in omega arith)
      (λ t. omega (arith, names_other c x.slot (eqb-false c x.slot t)))
down_once w v s ps c st (on x y xs live q d) =
    let k = down_once w v s (y ∷ xs) c st d in
    by_test (eqb c x.slot)
    (λ t.
    let e : c ≡ x.slot = eqb-true c x.slot t in
    let l : (node_at s c).level ≡ length (y ∷ xs) = subst (λ (z : ℕ). (node_at s z).level ≡ length (y ∷ xs)) (sym e)
    (down_level w v s x (y ∷ xs) st (on x y xs live q d)) in
    let z : names c (mem x.slot) ≡ 1 = rw e (names_same x.slot) in
    by_test (ltb 0 (on_way c (y ∷ xs)))
    (λ u. absurd (omega (arith, down_low w v s y xs c st d (ltb-true 0 _ u))))
    (λ u. omega (arith, ltb-false 0 (on_way c (y ∷ xs)) u)))
    (λ t. omega (arith, names_other c x.slot (eqb-false c x.slot t)))

-- how often a slot stands on a way above its leaf
abbrev pub inner : ℕ → List Step → ℕ
inner c [] = 0
inner c (x ∷ []) = 0
inner c (x ∷ y ∷ xs) = names c (mem x.slot) + inner c (y ∷ xs)

pub down_inner : (w v : ℕ → ℕ) (s : State) (ps : List Step) → Stands w v s → Down s ps → inner (leaf_of ps) ps ≡ 0
unfolding leaf_of
down_inner w v s ps st (end x live lv) = refl
down_inner w v s ps st (on x y xs live q d) =
    let k = down_inner w v s (y ∷ xs) st d in
    let l = down_level w v s x (y ∷ xs) st (on x y xs live q d) in
    let (a, b) = down_leaf s (y ∷ xs) d in
    let z : names (leaf_of (y ∷ xs)) (mem x.slot) ≡ 0 = names_other (leaf_of (y ∷ xs)) x.slot (λ e.
    let y' : (node_at s (leaf_of (y ∷ xs))).level ≡ (node_at s x.slot).level = ap (λ (n : ℕ). (node_at s n).level) e in omega arith) in
    omega arith

-- an index key set leaves every other slot as it was
pub index_other : (s : State) (n i c k : ℕ) → (k ≡ n → ⊥) → node_at (set_index_key s n i c) k ≡ node_at s k
unfolding set_index_key
index_other s n i c k d =
    by_list (node_at s c).entries
    (λ q. rw q)
    (λ e es q. by_test ((node_at s c).dead || not (ltb i (length (node_at s n).entries)) || same_key (key_at (node_at s n).entries i) e.key)
    (λ t. rw (q, t))
    (λ t. rw (q, t) (at_put_other s n _ k d)))

pub indexes_other : (ps : List Step) (s : State) (k : ℕ) → inner k ps ≡ 0 → node_at (index_keys ps s) k ≡ node_at s k
unfolding index_keys
indexes_other [] s k h = refl
indexes_other (x ∷ []) s k h = refl
indexes_other (x ∷ y ∷ ps) s k h =
    index_other (index_keys (y ∷ ps) s) x.slot x.child y.slot k
    (λ e. let z : names k (mem x.slot) ≡ 1 = rw e (names_same x.slot) in omega arith)
    ∙ indexes_other (y ∷ ps) s k (omega arith)

-- ---- entries of a node that fits are small

abbrev pub small : ℕ → Entry → Bool
small n e = leb (length e.key + value_length e.value) n

sums_small : (t : BTreeInfo) (n : ℕ) (es : List Entry) → keys_length t es + values_length t es ≤ n → every (small n) es ≡ true
unfolding every keys_length values_length
sums_small t n [] h = refl
sums_small t n (e ∷ es) h =
    let a = padded_least t (length e.key) in
    let b = padded_least t (value_length e.value) in
    and_both (small n e) (every (small n) es) (le-leb (length e.key + value_length e.value) n (omega arith)) (sums_small t n es (omega arith))

space_most : (n : ℕ) (r : Bool) → data_space n r ≤ n
unfolding data_space
space_most n r = omega arith

pub fits_small : (t : BTreeInfo) (r : Bool) (level : ℕ) (es : List Entry) → fits t r level es ≡ true → every (small t.node_size) es ≡ true
fits_small t r level es h = sums_small t t.node_size es (omega (arith, fits_space t r level es h, space_most t.node_size r))

or_second : (a b : Bool) → a || b ≡ true → a ≡ false → b ≡ true
or_second true b h d = never refl d
or_second false b h d = h

-- what a cut accepts was small, entry by entry
cut_small : (l : Lent) (up : List Step) (n : ℕ) (s u : State) → cut_node l up n s ≡ ok u → (node_at s n).dead ≡ false
    → every (small s.info.node_size) (node_at s n).entries ≡ true
unfolding cut_node
cut_small l up n s u e live =
    let m : MemNode = node_at s n in
    let t : BTreeInfo = s.info in
    by_test (m.dead || fits t (eqb n s.root) m.level m.entries)
    (λ z. fits_small t (eqb n s.root) m.level m.entries (or_second m.dead _ z live))
    (λ z.
    let e' : (cut t m.level m.entries >>= λ c. cut_at l up n c s) ≡ ok u = rw z at e in
    let (c, q, y) = bind_ok (cut t m.level m.entries) (λ c. cut_at l up n c s) u e' in
    let ps = cut_parts t m.level m.entries c q in
    let k : every (small t.node_size) (take c m.entries ++ drop c m.entries) ≡ true =
    every_join (small t.node_size) (take c m.entries) (drop c m.entries) (fits_small t false m.level _ ps.left_fits)
    (fits_small t false m.level _ ps.right_fits) in
    rw ps.joined at k)

-- the leaf of a way is cut first
pub cuts_small : (l : Lent) (up : List Step) (x : Step) (ps : List Step) (s u : State) → cuts l up (x ∷ ps) s ≡ ok u
    → (node_at s (leaf_of (x ∷ ps))).dead ≡ false
    → every (small s.info.node_size) (node_at s (leaf_of (x ∷ ps))).entries ≡ true
unfolding cuts leaf_of
cuts_small l up x [] s u e live = cut_small l up x.slot s u e live
cuts_small l up x (y ∷ ps) s u e live =
    let (t, q, z) = bind_ok (cuts l (x ∷ []) (y ∷ ps) s) (cut_node l up x.slot) u e in
    cuts_small l (x ∷ []) y ps s t q live

-- ---- the tree's numbers

pub size_most : (n : ℕ) → is_size n ≡ true → n ≤ 65536
unfolding is_size
size_most n h =
    by_test (eqb n 65536) (λ t. omega (arith, eqb-true n 65536 t)) (λ t8.
    by_test (eqb n 32768) (λ t. omega (arith, eqb-true n 32768 t)) (λ t7.
    by_test (eqb n 16384) (λ t. omega (arith, eqb-true n 16384 t)) (λ t6.
    by_test (eqb n 8192) (λ t. omega (arith, eqb-true n 8192 t)) (λ t5.
    by_test (eqb n 4096) (λ t. omega (arith, eqb-true n 4096 t)) (λ t4.
    by_test (eqb n 2048) (λ t. omega (arith, eqb-true n 2048 t)) (λ t3.
    by_test (eqb n 1024) (λ t. omega (arith, eqb-true n 1024 t)) (λ t2.
    by_test (eqb n 512) (λ t. omega (arith, eqb-true n 512 t)) (λ t1. never h (rw (t1, t2, t3, t4, t5, t6, t7, t8))))))))))

pub sizes_most : (l : Lent) → sizes_hold l ≡ true → l.size ≤ 65536
unfolding sizes_hold
sizes_most l h =
    size_most l.size (and_left (is_size l.size) _ (and_left (is_size l.size && _) _
    (and_left (is_size l.size && _ && _) _ (and_left (is_size l.size && _ && _ && _) _
    (and_left (is_size l.size && _ && _ && _ && _) _ h)))))

record Small (t : BTreeInfo) : Type 0 where
  flags : ltb t.flags (2 ^ 32) ≡ true
  key : ltb t.key_size (2 ^ 32) ≡ true
  val : ltb t.val_size (2 ^ 32) ≡ true
  longest_key : ltb t.longest_key (2 ^ 32) ≡ true
  longest_val : ltb t.longest_val (2 ^ 32) ≡ true

info_small : (t : BTreeInfo) → info_holds t ≡ true → Small t
unfolding info_holds
info_small t h =
    let f : ℕ → Bool = λ x. ltb x (2 ^ 32) in
    let (a, e) = and_split (f t.flags && f t.key_size && f t.val_size && f t.longest_key) (f t.longest_val) h in
    let (b, d) = and_split (f t.flags && f t.key_size && f t.val_size) (f t.longest_key) a in
    let (c, k) = and_split (f t.flags && f t.key_size) (f t.val_size) b in
    let (x, y) = and_split (f t.flags) (f t.key_size) c in
    record { flags = x; key = y; val = k; longest_key = d; longest_val = e }

small_info : (t : BTreeInfo) → Small t → info_holds t ≡ true
unfolding info_holds
small_info t h = rw (h.flags, h.key, h.val, h.longest_key, h.longest_val)

-- the numbers after: only the longest lengths may be others
pub like_info : (t t' : BTreeInfo) → Like t t' → info_holds t ≡ true → (t.longest_key < 2 ^ 32 → t'.longest_key < 2 ^ 32)
    → (t.longest_val < 2 ^ 32 → t'.longest_val < 2 ^ 32) → info_holds t' ≡ true
like_info t t' k h f g =
    let a = info_small t h in
    let b : ltb t'.flags (2 ^ 32) ≡ true = ap (λ (x : ℕ). ltb x (2 ^ 32)) k.flags ∙ a.flags in
    let c : ltb t'.key_size (2 ^ 32) ≡ true = ap (λ (x : ℕ). ltb x (2 ^ 32)) k.key ∙ a.key in
    let d : ltb t'.val_size (2 ^ 32) ≡ true = ap (λ (x : ℕ). ltb x (2 ^ 32)) k.val ∙ a.val in
    small_info t' (record {
      flags = b;
      key = c;
      val = d;
      longest_key = lt-ltb _ _ (f (ltb-true _ _ a.longest_key));
      longest_val = lt-ltb _ _
          (g (ltb-true _ _ a.longest_val));
    })

-- an accepted edit keeps the numbers
pub ended_held : (l : Lent) (s t : State) → Ended l s t → Held l s → Held l t
ended_held l s t a h =
    record {
      sizes = h.sizes;
      node = a.like.node ∙ h.node;
      order = rw a.order h.order;
      info = like_info s.info t.info a.like h.info (λ x. rw a.longest_key x) (λ x. rw a.longest_val x);
      map = rw a.virtual h.map;
      few = a.few h.few;
    }

-- ---- an entry put in a leaf

every_revalue : (t : Entry → Bool) (i : ℕ) (v : Val) (es : List Entry) → ((e : Entry) → t e ≡ true → t (record { key = e.key; value = v }) ≡ true)
    → every t es ≡ true → every t (with_value i v es) ≡ true
unfolding every with_value revalued
every_revalue t zero v [] f h = refl
every_revalue t (suc i) v [] f h = refl
every_revalue t zero v (e ∷ es) f h =
    let (a, b) = and_split (t e) (every t es) h in
    and_both (t (record { key = e.key; value = v })) (every t es) (f e a) b
every_revalue t (suc i) v (e ∷ es) f h =
    let (a, b) = and_split (t e) (every t es) h in
    and_both (t e) (every t (with_value i v es)) a (every_revalue t i v es f b)

-- a test that passes on every entry passes on the one whose value was set, with some key
revalued_at : (t : Entry → Bool) (i : ℕ) (v : Val) (es : List Entry) → i < length es → every t (with_value i v es) ≡ true
    → (k : List ℕ) × (t (record { key = k; value = v }) ≡ true)
unfolding every with_value revalued
revalued_at t i v [] h g = absurd (omega arith)
revalued_at t zero v (e ∷ es) h g = (e.key, and_left (t (record { key = e.key; value = v })) (every t es) g)
revalued_at t (suc i) v (e ∷ es) h g = revalued_at t i v es (omega arith) (and_right (t e) (every t (with_value i v es)) g)

-- the value put is among the entries after, and the key if it is new
put_value_lem : (t : Entry → Bool) (o : ℕ) (e : Entry) (es : List Entry) → every t (put_entry o e es) ≡ true
    → ((k : List ℕ) → t (record { key = k; value = e.value }) ≡ true → value_length e.value < 2 ^ 32) → value_length e.value < 2 ^ 32
unfolding put_entry insert_at every
put_value_lem t o e es h f =
    by_test (is_there o e.key es)
    (λ z. at_place (place_of o e.key es) es (there_in o e.key es z) (rw z at h))
    (λ z.
    let k : every t (take (place_of o e.key es) es ++ (e ∷ drop (place_of o e.key es) es)) ≡ true = rw z at h in
    f e.key (and_left (t e) (every t (drop (place_of o e.key es) es))
    (every_right t (take (place_of o e.key es) es) (e ∷ drop (place_of o e.key es) es) k)))
  where
    at_place : (i : ℕ) (xs : List Entry) → i < length xs → every t (with_value i e.value xs) ≡ true → value_length e.value < 2 ^ 32
    at_place i xs k g = let (y, q) = revalued_at t i e.value xs k g in f y q

put_key : (t : Entry → Bool) (o : ℕ) (e : Entry) (es : List Entry) → every t (put_entry o e es) ≡ true → is_there o e.key es ≡ false → t e ≡ true
unfolding put_entry insert_at every
put_key t o e es h z =
    let k : every t (take (place_of o e.key es) es ++ (e ∷ drop (place_of o e.key es) es)) ≡ true = rw z at h in
    and_left (t e) (every t (drop (place_of o e.key es) es))
    (every_right t (take (place_of o e.key es) es) (e ∷ drop (place_of o e.key es) es) k)

naming_put : (c o : ℕ) (e : Entry) (es : List Entry) → is_child e.value ≡ false → naming c (put_entry o e es) ≤ naming c es
unfolding put_entry
naming_put c o e es h =
    pick (λ (x : List Entry). naming c x ≤ naming c es) (is_there o e.key es) (with_value (place_of o e.key es) e.value es)
    (insert_at (place_of o e.key es) e es)
    (λ z. omega (arith, naming_value_most c (place_of o e.key es) e.value es, names_none c e.value h))
    (λ z. omega (arith, naming_insert c (place_of o e.key es) e es, names_none c e.value h))

entry_revalue : (o : ℕ) (t : BTreeInfo) (e x : Entry) → entry_holds o t true e ≡ true → entry_holds o t true x ≡ true
    → entry_holds o t true (record { key = x.key; value = e.value }) ≡ true
unfolding entry_holds suit
entry_revalue o t e x h k =
    let (a, b) = and_split (key_length_holds o t (length e.key) && value_holds t e.value) (not (is_child e.value)) h in
    let (c, d) = and_split (key_length_holds o t (length e.key)) (value_holds t e.value) a in
    let g = and_left (key_length_holds o t (length x.key)) (value_holds t x.value)
    (and_left (key_length_holds o t (length x.key) && value_holds t x.value) (not (is_child x.value)) k) in
    and_both (key_length_holds o t (length x.key) && value_holds t e.value) (not (is_child e.value))
    (and_both (key_length_holds o t (length x.key)) (value_holds t e.value) g d) b

every_put : (o' o : ℕ) (t : BTreeInfo) (e : Entry) (es : List Entry) → entry_holds o t true e ≡ true → every (entry_holds o t true) es ≡ true
    → every (entry_holds o t true) (put_entry o' e es) ≡ true
unfolding put_entry
every_put o' o t e es h k =
    pick (λ (x : List Entry). every (entry_holds o t true) x ≡ true) (is_there o' e.key es) (with_value (place_of o' e.key es) e.value es)
    (insert_at (place_of o' e.key es) e es)
    (λ z. every_revalue (entry_holds o t true) (place_of o' e.key es) e.value es (λ x y. entry_revalue o t e x h y) k)
    (λ z. every_insert (entry_holds o t true) (place_of o' e.key es) e es h k)

-- what is put is an entry that a leaf can hold
pub entry_fits_lem : (s : State) (k : List ℕ) (v : Val) → entry_fits s k v ≡ true
    → (entry_holds s.order s.info true (record { key = k; value = v }) ≡ true) × (is_child v ≡ false)
unfolding entry_fits suit
entry_fits_lem s k v h =
    let e : Entry = record { key = k; value = v } in
    (entry_same s true e ∙ h, not-true (is_child v) (and_right (key_fits s k && value_fits s v) (not (is_child v)) h))

pub falls_info : (s : State) (t : BTreeInfo) (ps : List Step) → Falls s ps → Falls (with_info s t) ps
unfolding with_info node_at
falls_info s t ps none = none
falls_info s t ps (one x h) = one x h
falls_info s t ps (more x y xs h r q f) = more x y xs h r q (falls_info s t (y ∷ xs) f)

-- ---- the whole edit on a way

module _ (l : Lent) (k : List ℕ) (v : Val) (s : State) (x : Step) (ps : List Step) (st : Stands all all s) (held : Held l s) (top : x.slot ≡ s.root)
    (down : Down s (x ∷ ps))
    (fit : entry_holds s.order s.info true (record { key = k; value = v }) ≡ true) (plain : is_child v ≡ false) where
  abbrev w : ℕ → ℕ
  w c = on_way c (x ∷ ps)

  abbrev n : ℕ
  n = leaf_of (x ∷ ps)

  abbrev e : Entry
  e = record { key = k; value = v }

  abbrev s₁ : State
  s₁ = touch (x ∷ ps) s

  falls : Falls s (x ∷ ps)
  falls = down_falls all all s (x ∷ ps) st down

  root_on : 1 ≤ on_way s.root (x ∷ ps)
  root_on = let z : names s.root (mem x.slot) ≡ 1 = ap (λ (y : ℕ). names s.root (mem y)) top ∙ names_same s.root in omega arith

  first : Edited l w all s s₁
  first = touch_edited l w all (x ∷ ps) s (λ c y. y) (falls_used s (x ∷ ps) falls) root_on (leaf_on x ps)
      (stands_wider all all w all s (λ c y. refl) (λ c y. y) st)

  leaf_live : (node_at s₁ n).dead ≡ false
  leaf_live = let (a, b) = down_leaf s (x ∷ ps) down in first.steady.dead n (live_used s n a) ∙ a

  leaf_level : (node_at s₁ n).level ≡ 0
  leaf_level = let (a, b) = down_leaf s (x ∷ ps) down in first.steady.level n (live_used s n a) ∙ b

  fit₁ : entry_holds s₁.order s₁.info true e ≡ true
  fit₁ = entry_like s.info s₁.info first.steady.like s₁.order true e ∙ ap (λ (o : ℕ). entry_holds o s.info true e)
      first.steady.order ∙ fit

  pub touch_order : s₁.order ≡ s.order
  touch_order = first.steady.order

  abbrev es : List Entry
  es = (node_at s₁ n).entries

  leaf_true : eqb (node_at s₁ n).level 0 ≡ true
  leaf_true = eq-eqb (node_at s₁ n).level 0 leaf_level

  rows : every (entry_holds s₁.order s₁.info (eqb (node_at s₁ n).level 0)) (put_entry s₁.order e es) ≡ true
  rows =
      let old : every (entry_holds s₁.order s₁.info true) es ≡ true = subst (λ (b : Bool). every (entry_holds s₁.order s₁.info b) es ≡ true)
      leaf_true (first.stands.rows n leaf_live) in
      subst (λ (b : Bool). every (entry_holds s₁.order s₁.info b) (put_entry s₁.order e es) ≡ true) (sym leaf_true)
      (every_put s₁.order s₁.order s₁.info e es fit₁ old)

  abbrev s₂ : State
  s₂ = put_node s₁ n (with_entries (node_at s₁ n) (put_entry s₁.order e es))

  second : Edited l w all s₁ s₂
  second = entries_edited w all s₁ n (put_entry s₁.order e es) first.stands (leaf_on x ps) (λ d. rows) (λ c. naming_put c s₁.order e es plain)
      (λ d z y. absurd (y leaf_level)) l (live_used s₁ n leaf_live)

  abbrev is_new : Bool
  is_new = not (is_there s₁.order k es)

  abbrev t₃ : BTreeInfo
  t₃ = grown_longest (with_counts s₁.info (s₁.info.key_count + cond is_new 1 0) s₁.info.node_count) is_new k v

  like₃ : Like s₁.info t₃
  unfolding grown_longest
  like₃ = like_then s₁.info (with_counts s₁.info (s₁.info.key_count + cond is_new 1 0) s₁.info.node_count) t₃
      (like_counts s₁.info _ _) (like_longest _ _ _)

  abbrev s₃ : State
  s₃ = with_info s₂ t₃

  pub is₃ : put_in_leaf s₁ n k v ≡ s₃
  unfolding put_in_leaf
  is₃ = refl

  like₂ : Like s₂.info t₃
  unfolding put_node with_nodes
  like₂ = like₃

  stands₃ : Stands w all s₃
  stands₃ = info_stands w all s₂ t₃ like₂ second.stands

  falls₃ : Falls s₃ (x ∷ ps)
  falls₃ = falls_info s₂ t₃ (x ∷ ps) (falls_steady l s₁ s₂ (x ∷ ps) second.steady (falls_steady l s s₁ (x ∷ ps) first.steady falls))

  abbrev s₄ : State
  s₄ = index_keys (x ∷ ps) s₃

  third : Edited l w all s₃ s₄
  third = indexes_edited l w all (x ∷ ps) s₃ (λ c y. y) (falls_used s₃ (x ∷ ps) falls₃) stands₃

  root₄ : x.slot ≡ s₄.root
  unfolding with_info
  root₄ = top ∙ sym (third.steady.root ∙ second.steady.root ∙ first.steady.root)

  falls₄ : Falls s₄ (x ∷ ps)
  falls₄ = falls_steady l s₃ s₄ (x ∷ ps) third.steady falls₃

  pub upsert_ended : Holds (Ended l s₄) (cuts l [] (x ∷ ps) s₄)
  upsert_ended = cuts_ended l x ps s₄ falls₄ root₄ third.stands

  -- the leaf as it comes to the cuts
  pub leaf₄ : (node_at s₄ n).entries ≡ put_entry s₁.order e es
  unfolding with_info node_at with_entries
  leaf₄ = ap (λ (m : MemNode). m.entries) (indexes_other (x ∷ ps) s₃ n (down_inner all all s (x ∷ ps) st down) ∙ at_put_same s₁ n
      (with_entries (node_at s₁ n) (put_entry s₁.order e es)) (live_used s₁ n leaf_live))

  pub live₄ : (node_at s₄ n).dead ≡ false
  unfolding with_info node_at with_entries
  live₄ = ap (λ (m : MemNode). m.dead) (indexes_other (x ∷ ps) s₃ n (down_inner all all s (x ∷ ps) st down) ∙ at_put_same s₁ n
      (with_entries (node_at s₁ n) (put_entry s₁.order e es)) (live_used s₁ n leaf_live)) ∙ leaf_live

  size₄ : s₄.info.node_size ≤ 65536
  unfolding with_info
  size₄ = omega (
    arith,
    third.steady.like.node,
    like₂.node,
    second.steady.like.node,
    first.steady.like.node,
    held.node,
    sizes_most l
        held.sizes,
  )

  pub same₄ : s₄.info.node_size ≡ s.info.node_size
  unfolding with_info
  same₄ = third.steady.like.node ∙ like₂.node ∙ second.steady.like.node ∙ first.steady.like.node

  small₄ : (u : State) → cuts l [] (x ∷ ps) s₄ ≡ ok u → every (small s₄.info.node_size) (put_entry s₁.order e es) ≡ true
  small₄ u q = rw leaf₄ at (cuts_small l [] x ps s₄ u q live₄)

  value_small : (u : State) → cuts l [] (x ∷ ps) s₄ ≡ ok u → value_length v < 2 ^ 32
  value_small u q = put_value_lem (small s₄.info.node_size) s₁.order e es (small₄ u q)
      (λ y z. let a : length y + value_length v ≤ s₄.info.node_size = leb-true _ _ z in omega (arith, size₄))

  key_small : (u : State) → cuts l [] (x ∷ ps) s₄ ≡ ok u → is_there s₁.order k es ≡ false → length k < 2 ^ 32
  key_small u q z = let a : length k + value_length v ≤ s₄.info.node_size = leb-true _ _
      (put_key (small s₄.info.node_size) s₁.order e es (small₄ u q) z) in omega (arith, size₄)

  longest_key : (u : State) → cuts l [] (x ∷ ps) s₄ ≡ ok u → s₁.info.longest_key < 2 ^ 32 → t₃.longest_key < 2 ^ 32
  unfolding grown_longest with_longest with_counts greater
  longest_key u q h =
      by_test (is_there s₁.order k es)
      (λ z. rw z h)
      (λ z. rw z (pick (λ (y : ℕ). y < 2 ^ 32) (leb s₁.info.longest_key (length k)) (length k) s₁.info.longest_key (λ b. key_small u q z)
      (λ b. h)))

  longest_val : (u : State) → cuts l [] (x ∷ ps) s₄ ≡ ok u → s₁.info.longest_val < 2 ^ 32 → t₃.longest_val < 2 ^ 32
  unfolding grown_longest with_longest with_counts greater
  longest_val u q h = pick (λ (y : ℕ). y < 2 ^ 32) (leb s₁.info.longest_val (value_length v)) (value_length v) s₁.info.longest_val
      (λ b. value_small u q) (λ b. h)

  held₃ : (u : State) → cuts l [] (x ∷ ps) s₄ ≡ ok u → Held l s₃
  unfolding with_info
  held₃ u q =
      let a = second.steady in
      let b = first.steady in
      record {
        sizes = held.sizes;
        node = like₂.node ∙ a.like.node ∙ b.like.node ∙ held.node;
        order = rw (a.order, b.order) held.order;
        info = like_info s₁.info t₃ like₃ (like_info s.info s₁.info b.like held.info (λ y. rw b.longest_key y)
            (λ y. rw b.longest_val y)) (longest_key u q) (longest_val u q);
        map = rw (a.virtual, b.virtual) held.map;
        few = a.few (b.few held.few);
      }

  held₄ : (u : State) → cuts l [] (x ∷ ps) s₄ ≡ ok u → Held l s₄
  held₄ u q =
      let c = third.steady in
      let h = held₃ u q in
      record {
        sizes = h.sizes;
        node = c.like.node ∙ h.node;
        order = rw c.order h.order;
        info = like_info s₃.info s₄.info c.like h.info (λ y. rw c.longest_key y) (λ y. rw c.longest_val y);
        map = rw c.virtual h.map;
        few = c.few h.few;
      }

  pub upsert_trusted : Holds (λ u. trusted l u ≡ true) (cuts l [] (x ∷ ps) s₄)
  upsert_trusted = record { at = λ u q. let a = upsert_ended.at u q in of_trusted l u (ended_held l s₄ u a (held₄ u q)) a.stands }

  pub upsert_on_lem : Holds (λ u. trusted l u ≡ true) (upsert_on l k v (record { state = s; steps = x ∷ ps }))
  unfolding upsert_on
  upsert_on_lem = holds_check refusal.count (is_there s.order k (node_at s n).entries || ltb s.info.key_count (2 ^ 64 - 1)) _ λ y. rw is₃
      upsert_trusted

pub way_again : (w : Way) (ps : List Step) → w.steps ≡ ps → w ≡ record { state = w.state; steps = ps }
way_again w ps q = ap (λ (y : List Step). record { state = w.state; steps = y }) q

pub trusted_upsert : (l : Lent) (s : State) (k : List ℕ) (v : Val) → trusted l s ≡ true → entry_fits s k v ≡ true
    → Holds (λ u. trusted l u ≡ true) (upserted l s k v)
unfolding upserted
trusted_upsert l s k v h f =
    let (held, st) = trusted_of l s h in
    let (fit, plain) = entry_fits_lem s k v f in
    holds_bind (way l s k) (upsert_on l k v) λ w q.
    let r = (way_root l s k st).at w q in
    let a = r.loaded.loads in
    let fit' : entry_holds w.state.order w.state.info true (record { key = k; value = v }) ≡ true = rw (a.order, a.info) fit in
    rw (way_again w (r.top ∷ r.rest) r.steps)
    (upsert_on_lem l k v w.state r.top r.rest r.loaded.stands (loads_held l s w.state a held) (r.first ∙ sym a.root)
    (rw r.steps at r.down) fit' plain)
