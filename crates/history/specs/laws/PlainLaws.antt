-- Laws of the plain list: get after each edit, and drop as the removal of a range. Assumes nothing.
use Rattle.std.specs.Prelude.{◌≡◌, refl, List, [], ◌∷◌, Bool, true, false, cond, ◌&&◌, ◌||◌, not, ℕ, suc, ◌+◌, ◌-◌, ◌^◌, ◌<◌, length, ltb, eqb}
use Rattle.std.proofs.Common.{sym, ap, ◌∙◌, arith, ltb-true, ltb-false, lt-ltb, le-ltb, eqb-true, eq-eqb, ne_eqb}
use Rattle.std.proofs.lemmas.Bool.{eqb-false}
use Rattle.node.specs.Order.{pair, less, pair_key}
use Rattle.node.specs.Entry.{Entry, Val, rise_after, rising, every}
use Rattle.node.specs.Find.{is_there}
use Rattle.node.specs.laws.base.Tests.{by_test, and_split, and_both, and-false}
use Rattle.node.specs.laws.base.Bytes.{field_below}
use Rattle.node.specs.laws.order.Order.{Key, less_irrefl, less_trans, pair_key_of, less_pair_key}
use Rattle.node.specs.laws.order.Rising.{Keys, rise_rising, rise_above}
use Rattle.seal.specs.Bytes.{u64_at}
use Rattle.tree.specs.Lookup.{ends_above, between}
use Rattle.tree.specs.Upsert.{put_entry}
use Rattle.tree.specs.Omap.{versions_end}
use Rattle.tree.specs.laws.state.Entries.{without, put_held, put_other, put_rising, put_length, without_length, without_absent, without_other, put_without}
use Rattle.tree.specs.Upsert.{put_entry}
use Rattle.history.specs.Plain.{plain_upsert, plain_remove, plain_drop, plain_get}
use Rattle.history.specs.laws.PlainIs.{upsert_is, remove_is, get_is}

-- ---- upsert and remove

-- get after upsert: the value put, and of every other key what it was
pub upsert_get : (o : ℕ) (k : List ℕ) (v : Val) (es : List Entry) → Key o k → plain_get o k (plain_upsert o k v es) ≡ v ∷ []
upsert_get o k v es h =
    let e : Entry = record { key = k; value = v } in
    ap (plain_get o k) (upsert_is o k v es) ∙ get_is o k (put_entry o e es) ∙ put_held o e es h

pub upsert_other : (o : ℕ) (k j : List ℕ) (v : Val) (es : List Entry) → Key o k → Key o j → Keys o es → (j ≡ k → ⊥)
    → plain_get o j (plain_upsert o k v es) ≡ plain_get o j es
upsert_other o k j v es h g m n =
    let e : Entry = record { key = k; value = v } in
    ap (plain_get o j) (upsert_is o k v es) ∙ get_is o j (put_entry o e es) ∙ put_other o e j es h g m n ∙ sym (get_is o j es)

-- upsert keeps the keys rising, and adds one entry where the key was absent
pub upsert_rising : (o : ℕ) (k : List ℕ) (v : Val) (es : List Entry) → Key o k → Keys o es → rising o es ≡ true
    → rising o (plain_upsert o k v es) ≡ true
upsert_rising o k v es h m r = rw (upsert_is o k v es) (put_rising o (record { key = k; value = v }) es h m r)

pub upsert_length : (o : ℕ) (k : List ℕ) (v : Val) (es : List Entry) → length (plain_upsert o k v es) ≡ length es + cond (is_there o k es) 0 1
upsert_length o k v es = ap length (upsert_is o k v es) ∙ put_length o (record { key = k; value = v }) es

-- remove of an absent key is the list itself
pub remove_absent : (o : ℕ) (k : List ℕ) (es : List Entry) → is_there o k es ≡ false → plain_remove o k es ≡ es
remove_absent o k es f = remove_is o k es ∙ rw f

pub remove_found : (o : ℕ) (k : List ℕ) (es : List Entry) → is_there o k es ≡ true → plain_remove o k es ≡ without o k es
remove_found o k es f = remove_is o k es ∙ rw f

-- after a remove the key is not there
pub remove_not_found : (o : ℕ) (k : List ℕ) (es : List Entry) → Key o k → Keys o es → rising o es ≡ true → is_there o k (plain_remove o k es) ≡ false
remove_not_found o k es h m r =
    by_test (is_there o k es)
    (λ f. rw (remove_found o k es f) (without_absent o k es h m r f))
    (λ f. rw (remove_absent o k es f) f)

-- one entry less where it was there, and every other key as it was
pub remove_length : (o : ℕ) (k : List ℕ) (es : List Entry) → length (plain_remove o k es) + cond (is_there o k es) 1 0 ≡ length es
remove_length o k es =
    by_test (is_there o k es)
    (λ f. rw (remove_found o k es f, f) (without_length o k es f))
    (λ f. rw (remove_absent o k es f, f) (omega arith))

pub remove_other : (o : ℕ) (k j : List ℕ) (es : List Entry) → Key o k → Key o j → Keys o es → rising o es ≡ true → (j ≡ k → ⊥)
    → plain_get o j (plain_remove o k es) ≡ plain_get o j es
remove_other o k j es h g m r n =
    by_test (is_there o k es)
    (λ f. ap (plain_get o j) (remove_found o k es f) ∙ get_is o j (without o k es) ∙ without_other o k j es h g m r f n ∙ sym (get_is o j es))
    (λ f. ap (plain_get o j) (remove_absent o k es f))

-- a new key put and removed leaves the list as it was
pub upsert_remove : (o : ℕ) (k : List ℕ) (v : Val) (es : List Entry) → Key o k → is_there o k es ≡ false → without o k (plain_upsert o k v es) ≡ es
upsert_remove o k v es h f = rw (upsert_is o k v es) (put_without o (record { key = k; value = v }) es h f)

-- past a smaller key, remove goes on in the rest; at the key itself it leaves the rest
remove_later : (o : ℕ) (k : List ℕ) (x : Entry) (xs : List Entry) → less o x.key k ≡ true → plain_remove o k (x ∷ xs) ≡ x ∷ plain_remove o k xs
unfolding plain_remove
remove_later o k x xs t = rw t

remove_first : (o : ℕ) (x : Entry) (xs : List Entry) → Key o x.key → plain_remove o x.key (x ∷ xs) ≡ xs
unfolding plain_remove
remove_first o x xs h = let i : less o x.key x.key ≡ false = less_irrefl o x.key h in rw i

-- ---- drop

-- the range of an id's versions takes exactly the keys of that id
pub id_range : (id : ℕ) (k : List ℕ) → id < 2 ^ 64 → Key pair k → (not (less pair k (pair_key id 0)) && ends_above pair (versions_end id) k) ≡ eqb
    (u64_at k 0) id
unfolding versions_end ends_above
id_range id k h g =
    let i : ℕ = u64_at k 0 in
    let x : ℕ = u64_at k 8 in
    let hi : u64_at k 0 < 2 ^ 64 = field_below 8 k 0 g.bytes in
    let hx : u64_at k 8 < 2 ^ 64 = field_below 8 k 8 g.bytes in
    let z : ltb (u64_at k 8) 0 ≡ false = le-ltb (u64_at k 8) 0 (omega arith) in
    let a : less pair k (pair_key id 0) ≡ ltb (u64_at k 0) id || eqb (u64_at k 0) id && ltb (u64_at k 8) 0 =
    ap (λ (y : List ℕ). less pair y (pair_key id 0)) (sym (pair_key_of k g)) ∙ less_pair_key (u64_at k 0) (u64_at k 8) id 0 hi hx h (omega arith) in
    by_test (eqb id (2 ^ 64 - 1))
    (λ t.
    let q : id ≡ 2 ^ 64 - 1 = eqb-true id (2 ^ 64 - 1) t in
    by_test (ltb (u64_at k 0) id)
    (λ u. let n : eqb (u64_at k 0) id ≡ false = ne_eqb (u64_at k 0) id (λ e. omega (arith, ltb-true (u64_at k 0) id u)) in rw (t, a, u, n))
    (λ u. let e : eqb (u64_at k 0) id ≡ true = eq-eqb (u64_at k 0) id (omega (arith, ltb-false (u64_at k 0) id u)) in rw (t, a, u, e, z)))
    (λ t.
    let n : suc id < 2 ^ 64 = omega (arith, eqb-false id (2 ^ 64 - 1) t) in
    let b : less pair k (pair_key (suc id) 0) ≡ ltb (u64_at k 0) (suc id) || eqb (u64_at k 0) (suc id) && ltb (u64_at k 8) 0 =
    ap (λ (y : List ℕ). less pair y (pair_key (suc id) 0)) (sym (pair_key_of k g)) ∙ less_pair_key (u64_at k 0) (u64_at k 8) (suc id) 0 hi hx n
    (omega arith) in
    by_test (ltb (u64_at k 0) id)
    (λ u. let m : eqb (u64_at k 0) id ≡ false = ne_eqb (u64_at k 0) id (λ e. omega (arith, ltb-true (u64_at k 0) id u)) in rw (t, a, u, m))
    (λ u. by_test (eqb (u64_at k 0) id)
    (λ e. let w : ltb (u64_at k 0) (suc id) ≡ true = lt-ltb (u64_at k 0) (suc id) (omega (arith, eqb-true (u64_at k 0) id e)) in rw
    (t, a, u, e, z, b, w))
    (λ e.
    let w : ltb (u64_at k 0) (suc id) ≡ false = le-ltb (u64_at k 0) (suc id)
    (omega (arith, ltb-false (u64_at k 0) id u, eqb-false (u64_at k 0) id e)) in
    rw (t, a, u, e, b, w, z) (and-false (eqb (u64_at k 0) (suc id))))))

-- keys removed one after the other
abbrev pub plain_removes : ℕ → List Entry → List Entry → List Entry
plain_removes o [] es = es
plain_removes o (d ∷ ds) es = plain_removes o ds (plain_remove o d.key es)

removes_later : (o : ℕ) (x : Entry) (ds xs : List Entry) → every (λ d. less o x.key d.key) ds ≡ true → plain_removes o ds (x ∷ xs) ≡ x
    ∷ plain_removes o ds xs
unfolding every
removes_later o x [] xs h = refl
removes_later o x (d ∷ ds) xs h =
    let (p, q) = and_split (less o x.key d.key) (every (λ (y : Entry). less o x.key y.key) ds) h in
    ap (plain_removes o ds) (remove_later o d.key x xs p) ∙ removes_later o x ds (plain_remove o d.key xs) q

every_between : (t : Entry → Bool) (o : ℕ) (lo : List ℕ) (hi : List (List ℕ)) (es : List Entry) → every t es ≡ true
    → every t (between o lo hi es) ≡ true
unfolding every between
every_between t o lo hi [] h = refl
every_between t o lo hi (x ∷ xs) h =
    let (p, q) = and_split (t x) (every t xs) h in
    let i : every t (between o lo hi xs) ≡ true = every_between t o lo hi xs q in
    by_test (not (less o x.key lo) && ends_above o hi x.key)
    (λ u. rw u (and_both (t x) (every t (between o lo hi xs)) p i))
    (λ u. rw u i)

-- drop takes exactly the entries of its id: it is the removal, one after the other, of the keys of the range that the object map's drop reads
pub drop_range : (id : ℕ) (es : List Entry) → id < 2 ^ 64 → Keys pair es → rising pair es ≡ true
    → plain_removes pair (between pair (pair_key id 0) (versions_end id) es) es ≡ plain_drop id es
unfolding between plain_drop rising
drop_range id [] h m r = refl
drop_range id (x ∷ xs) h m r =
    let i : plain_removes pair (between pair (pair_key id 0) (versions_end id) xs) xs ≡ plain_drop id xs = drop_range id xs h m.1
    (rise_rising pair x.key xs r) in
    by_test (eqb (u64_at x.key 0) id)
    (λ t.
    let q : (not (less pair x.key (pair_key id 0)) && ends_above pair (versions_end id) x.key) ≡ true = id_range id x.key h m.0 ∙ t in
    rw (q, t) (ap (plain_removes pair (between pair (pair_key id 0) (versions_end id) xs)) (remove_first pair x xs m.0) ∙ i))
    (λ t.
    let q : (not (less pair x.key (pair_key id 0)) && ends_above pair (versions_end id) x.key) ≡ false = id_range id x.key h m.0 ∙ t in
    rw (q, t)
    (removes_later pair x (between pair (pair_key id 0) (versions_end id) xs) xs
    (every_between (λ d. less pair x.key d.key) pair (pair_key id 0) (versions_end id) xs (rise_above pair x.key xs m.0 m.1 r))
    ∙ ap (λ (z : List Entry). x ∷ z) i))

-- what rises after k rises after what is below k
rise_under : (j k : List ℕ) (es : List Entry) → Key pair j → Key pair k → Keys pair es → less pair j k ≡ true → rise_after pair k es ≡ true
    → rise_after pair j es ≡ true
unfolding rise_after
rise_under j k [] g h m p q = refl
rise_under j k (y ∷ ys) g h m p q =
    let (u, v) = and_split (less pair k y.key) (rise_after pair y.key ys) q in
    and_both (less pair j y.key) (rise_after pair y.key ys) (less_trans pair j k y.key g h m.0 p u) v

-- drop keeps the keys rising
rise_drop : (id : ℕ) (j : List ℕ) (es : List Entry) → Key pair j → Keys pair es → rise_after pair j es ≡ true
    → rise_after pair j (plain_drop id es) ≡ true
unfolding rise_after plain_drop
rise_drop id j [] g m r = refl
rise_drop id j (x ∷ xs) g m r =
    let (p, q) = and_split (less pair j x.key) (rise_after pair x.key xs) r in
    let i : rise_after pair x.key (plain_drop id xs) ≡ true = rise_drop id x.key xs m.0 m.1 q in
    by_test (eqb (u64_at x.key 0) id)
    (λ t. rw t (rise_drop id j xs g m.1 (rise_under j x.key xs g m.0 m.1 p q)))
    (λ t. rw t (and_both (less pair j x.key) (rise_after pair x.key (plain_drop id xs)) p i))

pub drop_rising : (id : ℕ) (es : List Entry) → Keys pair es → rising pair es ≡ true → rising pair (plain_drop id es) ≡ true
unfolding rising plain_drop
drop_rising id [] m r = refl
drop_rising id (x ∷ xs) m r =
    by_test (eqb (u64_at x.key 0) id)
    (λ t. rw t (drop_rising id xs m.1 (rise_rising pair x.key xs r)))
    (λ t. rw t (rise_drop id x.key xs m.0 m.1 r))
