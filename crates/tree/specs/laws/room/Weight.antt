-- The bytes that entries take in a slot: what fits takes less than a block, what is too large for one never fits and is refused by the cuts. Assumes
-- nothing.
use Rattle.std.specs.Prelude.{◌≡◌, refl, List, [], ◌∷◌, ◌++◌, Bool, true, false, cond, ◌&&◌, ℕ, zero, suc, ◌+◌, ◌-◌, ◌*◌, ◌≤◌, length, take, drop, leb, ltb, eqb}
use Rattle.std.proofs.Common.{sym, ap, ◌∙◌, arith, length-append, take-append-drop, le-leb}
use Rattle.node.specs.Result.{Result, refused, ◌>>=◌}
use Rattle.node.specs.Refusals as refusal
use Rattle.node.specs.Entry.{Entry, Val, every, value_length}
use Rattle.node.specs.Find.{key_at, val_at, place_of, is_there}
use Rattle.node.specs.Records.{record_of, records_of}
use Rattle.node.specs.Fit.{data_space, fixed, slot_width, toc_slots, toc_length, keys_length, values_length, fits}
use Rattle.node.specs.Cut.{cut_place, cut}
use Rattle.node.specs.Slot.{insert_at, remove_at, rekeyed, with_key, revalued, with_value}
use Rattle.node.specs.declared.info.BTreeInfo.{BTreeInfo}
use Rattle.node.specs.laws.base.Tests.{by_test, never, and_split, and_both}
use Rattle.node.specs.laws.slot.Records.{length_record, length_value_bytes}
use Rattle.node.specs.laws.fit.Fit.{padded_least, fits_count, fits_space}
use Rattle.node.specs.laws.order.Rising.{every_join}
use Rattle.tree.specs.Lent.{Lent}
use Rattle.tree.specs.State.{State, node_at}
use Rattle.tree.specs.Lookup.{Step, leaf_of}
use Rattle.tree.specs.Edit.{cut_node, cuts}
use Rattle.tree.specs.Upsert.{put_entry}
use Rattle.tree.specs.laws.trust.Edit.{pick}

-- ---- the bytes of records

abbrev pub weight : List Entry → ℕ
weight es = length (records_of es)

-- the bytes of one
abbrev pub bytes_in : Entry → ℕ
bytes_in e = 4 + length e.key + value_length e.value

pub weight_cons : (e : Entry) (es : List Entry) → weight (e ∷ es) ≡ bytes_in e + weight es
unfolding records_of
weight_cons e es = length-append (record_of e) (records_of es) ∙ ap (λ (n : ℕ). n + weight es)
    (length_record e ∙ ap (λ (n : ℕ). 4 + length e.key + n) (length_value_bytes e.value))

pub weight_append : (a b : List Entry) → weight (a ++ b) ≡ weight a + weight b
unfolding records_of
weight_append [] b = omega arith
weight_append (e ∷ a) b = let k = weight_append a b in omega (arith, weight_cons e (a ++ b), weight_cons e a)

pub weight_parts : (i : ℕ) (es : List Entry) → weight (take i es) + weight (drop i es) ≡ weight es
weight_parts i es = sym (weight_append (take i es) (drop i es)) ∙ ap weight (take-append-drop i es)

pub weight_insert : (i : ℕ) (e : Entry) (es : List Entry) → weight (insert_at i e es) ≡ weight es + bytes_in e
unfolding insert_at
weight_insert i e es = omega (arith, weight_append (take i es) (e ∷ drop i es), weight_cons e (drop i es), weight_parts i es)

weight_without : (i : ℕ) (es : List Entry) → weight (take i es) + weight (drop (suc i) es) ≤ weight es
unfolding records_of
weight_without zero [] = omega arith
weight_without (suc i) [] = omega arith
weight_without zero (e ∷ es) = omega (arith, weight_cons e es)
weight_without (suc i) (e ∷ es) = let k = weight_without i es in omega (arith, weight_cons e es, weight_cons e (take i es))

pub weight_remove : (i : ℕ) (es : List Entry) → weight (remove_at i es) ≤ weight es
unfolding remove_at
weight_remove i es =
    let z : i + 1 ≡ suc i = omega arith in
    let y : weight (drop (i + 1) es) ≡ weight (drop (suc i) es) = ap (λ (j : ℕ). weight (drop j es)) z in
    omega (arith, weight_append (take i es) (drop (i + 1) es), weight_without i es)

weight_rekeyed : (k : List ℕ) (es : List Entry) → weight (rekeyed k es) ≤ weight es + length k
unfolding rekeyed records_of
weight_rekeyed k [] = omega arith
weight_rekeyed k (e ∷ es) = omega (arith, weight_cons e es, weight_cons (record { key = k; value = e.value }) es)

-- an index key set takes at most its own length more
pub weight_key : (i : ℕ) (k : List ℕ) (es : List Entry) → weight (with_key i k es) ≤ weight es + length k
unfolding with_key
weight_key i k es = omega (arith, weight_append (take i es) (rekeyed k (drop i es)), weight_rekeyed k (drop i es), weight_parts i es)

weight_revalued : (v : Val) (es : List Entry) → weight (revalued v es) ≤ weight es + value_length v
unfolding revalued records_of
weight_revalued v [] = omega arith
weight_revalued v (e ∷ es) = omega (arith, weight_cons e es, weight_cons (record { key = e.key; value = v }) es)

pub weight_value : (i : ℕ) (v : Val) (es : List Entry) → weight (with_value i v es) ≤ weight es + value_length v
unfolding with_value
weight_value i v es = omega (arith, weight_append (take i es) (revalued v (drop i es)), weight_revalued v (drop i es), weight_parts i es)

-- a value of the same length in its place takes the same
pub weight_same : (i : ℕ) (v : Val) (es : List Entry) → value_length v ≡ value_length (val_at es i) → weight (with_value i v es) ≡ weight es
unfolding with_value revalued val_at
weight_same zero v [] q = refl
weight_same (suc i) v [] q = refl
weight_same zero v (e ∷ es) q = omega (arith, weight_cons e es, weight_cons (record { key = e.key; value = v }) es)
weight_same (suc i) v (e ∷ es) q = let k = weight_same i v es q in omega (arith, weight_cons e es, weight_cons e (with_value i v es))

-- an entry put in a leaf takes at most its own bytes more
pub weight_put : (o : ℕ) (e : Entry) (es : List Entry) → weight (put_entry o e es) ≤ weight es + bytes_in e
unfolding put_entry
weight_put o e es =
    pick (λ (x : List Entry). weight x ≤ weight es + bytes_in e) (is_there o e.key es) (with_value (place_of o e.key es) e.value es)
    (insert_at (place_of o e.key es) e es)
    (λ z. omega (arith, weight_value (place_of o e.key es) e.value es))
    (λ z. omega (arith, weight_insert (place_of o e.key es) e es))

-- an entry's bytes are among those of all
pub weight_first : (e : Entry) (es : List Entry) → bytes_in e ≤ weight (e ∷ es)
weight_first e es = omega (arith, weight_cons e es)

pub weight_key_at : (es : List Entry) (i : ℕ) → length (key_at es i) ≤ weight es
unfolding key_at
weight_key_at [] i = omega arith
weight_key_at (e ∷ es) zero = omega (arith, weight_cons e es)
weight_key_at (e ∷ es) (suc i) = let k = weight_key_at es i in omega (arith, weight_cons e es)

-- ---- what fits

toc_least : (t : BTreeInfo) (r : Bool) (level n : ℕ) → n ≤ toc_slots t r level n → 4 * n ≤ toc_length t r level n
unfolding toc_length slot_width
toc_least t r level n h =
    by_test (fixed t)
    (λ z. rw z (omega arith))
    (λ z. rw z (omega arith))

sums_weight : (t : BTreeInfo) (es : List Entry) → weight es ≤ 4 * length es + (keys_length t es + values_length t es)
unfolding records_of keys_length values_length
sums_weight t [] = omega arith
sums_weight t (e ∷ es) =
    let k = sums_weight t es in
    omega (arith, weight_cons e es, padded_least t (length e.key), padded_least t (value_length e.value))

space_most : (n : ℕ) (r : Bool) → data_space n r ≤ n - 56
unfolding data_space
space_most n r = omega arith

-- entries that fit take at most the data space of a node
pub fits_weight : (t : BTreeInfo) (r : Bool) (level : ℕ) (es : List Entry) → fits t r level es ≡ true → weight es ≤ t.node_size - 56
fits_weight t r level es h =
    let a = toc_least t r level (length es) (fits_count t r level es h) in
    omega (arith, sums_weight t es, fits_space t r level es h, space_most t.node_size r)

-- ---- an entry too large for any node

-- an entry of at most n bytes
abbrev pub slim : ℕ → Entry → Bool
slim n e = leb (bytes_in e) n

weight_slim : (n : ℕ) (es : List Entry) → weight es ≤ n → every (slim n) es ≡ true
unfolding every
weight_slim n [] h = refl
weight_slim n (e ∷ es) h =
    let k = weight_cons e es in
    and_both (slim n e) (every (slim n) es) (le-leb (bytes_in e) n (omega arith)) (weight_slim n es (omega arith))

pub fits_slim : (t : BTreeInfo) (r : Bool) (level : ℕ) (es : List Entry) → fits t r level es ≡ true → every (slim (t.node_size - 56)) es ≡ true
fits_slim t r level es h = weight_slim (t.node_size - 56) es (fits_weight t r level es h)

-- what is accepted in a cut is slim; so with an entry that is not, 13 alone and 14 beside others
pub large_unfit : (t : BTreeInfo) (r : Bool) (level : ℕ) (es : List Entry) → every (slim (t.node_size - 56)) es ≡ false → fits t r level es ≡ false
large_unfit t r level es h = by_test (fits t r level es) (λ z. never (fits_slim t r level es z) h) (λ z. z)

abbrev pub large_refusal : List Entry → ℕ
large_refusal es = cond (ltb 1 (length es)) refusal.no_cut refusal.single

pub large_cut : (t : BTreeInfo) (level : ℕ) (es : List Entry) → every (slim (t.node_size - 56)) es ≡ false
    → cut t level es ≡ refused (large_refusal es)
unfolding cut
large_cut t level es h =
    let c : ℕ = cut_place (fits t false level) es in
    let n : ℕ = t.node_size - 56 in
    by_test (ltb 1 (length es))
    (λ z.
    let no : fits t false level (take c es) && fits t false level (drop c es) ≡ false =
    by_test (fits t false level (take c es) && fits t false level (drop c es))
    (λ y. let (a, b) = and_split (fits t false level (take c es)) (fits t false level (drop c es)) y in
    let k : every (slim n) (take c es ++ drop c es) ≡ true = every_join (slim n) (take c es) (drop c es) (fits_slim t false level _ a)
    (fits_slim t false level _ b) in
    never (rw (take-append-drop c es) at k) h)
    (λ y. y) in
    rw (z, no))
    (λ z. rw z)

large_node : (l : Lent) (up : List Step) (n : ℕ) (s : State) → (node_at s n).dead ≡ false
    → every (slim (s.info.node_size - 56)) (node_at s n).entries ≡ false → cut_node l up n s ≡ refused (large_refusal (node_at s n).entries)
unfolding cut_node
large_node l up n s live h =
    rw (
      live,
      large_unfit s.info (eqb n s.root) (node_at s n).level (node_at s n).entries h,
      large_cut s.info (node_at s n).level
          (node_at s n).entries h,
    )

-- the leaf is cut first, so its refusal is the answer
pub large_cuts : (l : Lent) (up : List Step) (x : Step) (ps : List Step) (s : State) → (node_at s (leaf_of (x ∷ ps))).dead ≡ false
    → every (slim (s.info.node_size - 56)) (node_at s (leaf_of (x ∷ ps))).entries ≡ false
    → cuts l up (x ∷ ps) s ≡ refused (large_refusal (node_at s (leaf_of (x ∷ ps))).entries)
unfolding cuts leaf_of
large_cuts l up x [] s live h = large_node l up x.slot s live h
large_cuts l up x (y ∷ ps) s live h = ap (λ (r : Result State). r >>= cut_node l up x.slot) (large_cuts l (x ∷ []) y ps s live h)
