-- Room while an edit is at work: a leaf takes one entry, an index node one longer key and, where its child was cut, one entry more; each slot holds
-- four blocks' worth. Assumes nothing.
use Rattle.std.specs.Prelude.{◌≡◌, refl, List, [], ◌∷◌, ◌++◌, Bool, true, false, ◌||◌, not, ℕ, zero, suc, ◌+◌, ◌-◌, ◌*◌, ◌≤◌, ◌<◌, length, take, drop, ltb}
use Rattle.std.proofs.Common.{sym, ap, ◌∙◌, le_refl, le_trans, arith, ltb-true, ltb-false}
use Rattle.std.proofs.Math.Seq.{set_out}
use Rattle.node.specs.Order.{same_key}
use Rattle.node.specs.Entry.{Entry, Val, mem, every}
use Rattle.node.specs.Find.{key_at, place_of, is_there}
use Rattle.node.specs.Slot.{MemNode, insert_at, rekeyed, revalued, with_key, with_value}
use Rattle.node.specs.declared.info.BTreeInfo.{BTreeInfo}
use Rattle.node.specs.laws.base.Tests.{by_test, never, and_left, and_right}
use Rattle.node.specs.laws.base.Results.{Holds, holds_ok, holds_bind}
use Rattle.node.specs.laws.order.Rising.{every_right}
use Rattle.node.specs.laws.order.Found.{there_in}
use Rattle.node.specs.laws.fit.Cut.{Parted}
use Rattle.tree.specs.Lent.{Lent}
use Rattle.tree.specs.State.{State, node_at, put_node, with_nodes, with_info, changed}
use Rattle.tree.specs.Lookup.{Step}
use Rattle.tree.specs.Edit.{set_index_key, index_keys, more_nodes, parted, link_right, cut_node, cuts}
use Rattle.tree.specs.Upsert.{put_entry}
use Rattle.tree.specs.laws.state.State.{at_put_same, at_put_other, put_count}
use Rattle.tree.specs.laws.state.Edit.{parted_other, parted_count}
use Rattle.tree.specs.laws.trust.Named.{names, names_same, live_used}
use Rattle.tree.specs.laws.trust.OneStep.{put_each}
use Rattle.tree.specs.laws.trust.Loads.{by_list}
use Rattle.tree.specs.laws.trust.Edit.{on_way}
use Rattle.tree.specs.laws.trust.Cut.{by_cut}
use Rattle.tree.specs.laws.trust.Upsert.{inner, index_other, indexes_other}
use Rattle.tree.specs.laws.room.Weight.{weight, bytes_in, weight_cons, weight_key, weight_put, fits_weight, slim}

-- ---- an entry put in a leaf (n: the block size)

pub put_room : (n o : ℕ) (e : Entry) (es : List Entry) → weight es ≤ 2 * n → bytes_in e ≤ n - 56 → weight (put_entry o e es) ≤ 4 * n
put_room n o e es h k = let z = weight_put o e es in omega arith

-- an entry too large is too large among the entries after: new, or in the place of another
pub put_large_new : (n o : ℕ) (e : Entry) (es : List Entry) → is_there o e.key es ≡ false → slim n e ≡ false
    → every (slim n) (put_entry o e es) ≡ false
unfolding put_entry insert_at every
put_large_new n o e es z h =
    by_test (every (slim n) (put_entry o e es))
    (λ t.
    let i : ℕ = place_of o e.key es in
    let k : every (slim n) (take i es ++ (e ∷ drop i es)) ≡ true = rw z at t in
    never (and_left (slim n e) (every (slim n) (drop i es)) (every_right (slim n) (take i es) (e ∷ drop i es) k)) h)
    (λ t. t)

value_large : (n i : ℕ) (v : Val) (es : List Entry) → i < length es → every (slim n) (with_value i v es) ≡ true
    → slim n (record { key = key_at es i; value = v }) ≡ true
unfolding every with_value revalued key_at
value_large n i v [] h g = absurd (omega arith)
value_large n zero v (e ∷ es) h g = and_left (slim n (record { key = e.key; value = v })) (every (slim n) es) g
value_large n (suc i) v (e ∷ es) h g = value_large n i v es (omega arith) (and_right (slim n e) (every (slim n) (with_value i v es)) g)

pub put_large_old : (n o : ℕ) (e : Entry) (es : List Entry) → is_there o e.key es ≡ true
    → slim n (record { key = key_at es (place_of o e.key es); value = e.value }) ≡ false → every (slim n) (put_entry o e es) ≡ false
unfolding put_entry
put_large_old n o e es z h =
    by_test (every (slim n) (put_entry o e es))
    (λ t. never (value_large n (place_of o e.key es) e.value es (there_in o e.key es z) (rw z at t)) h)
    (λ t. t)

-- ---- index keys

-- an index key set takes at most the first key's length more
pub index_weight : (s : State) (n i c : ℕ) → n < length s.nodes
    → weight (node_at (set_index_key s n i c) n).entries ≤ weight (node_at s n).entries + length (key_at (node_at s c).entries 0)
unfolding set_index_key key_at changed
index_weight s n i c used =
    by_list (node_at s c).entries
    (λ q. rw q (omega arith))
    (λ e es q. by_test ((node_at s c).dead || not (ltb i (length (node_at s n).entries)) || same_key (key_at (node_at s n).entries i) e.key)
    (λ t. rw (q, t) (omega arith))
    (λ t. rw (q, t, at_put_same s n (changed (node_at s n) (with_key i e.key (node_at s n).entries)) used)
    (weight_key i e.key (node_at s n).entries)))

-- every key of every live slot has at most k bytes
pub record KeysMost (k : ℕ) (s : State) : Type 0 where
  pub most : (n i : ℕ) → (node_at s n).dead ≡ false → length (key_at (node_at s n).entries i) ≤ k

or_first : (a b : Bool) → (a || b) ≡ false → a ≡ false
or_first true b e = e
or_first false b e = refl

key_with : (b i : ℕ) (k : List ℕ) (es : List Entry) → length k ≤ b → ((j : ℕ) → length (key_at es j) ≤ b) → (j : ℕ)
    → length (key_at (with_key i k es) j) ≤ b
unfolding with_key rekeyed key_at
key_with b zero k [] h f j = f j
key_with b (suc i) k [] h f j = f j
key_with b zero k (e ∷ es) h f zero = h
key_with b zero k (e ∷ es) h f (suc j) = f (suc j)
key_with b (suc i) k (e ∷ es) h f zero = f zero
key_with b (suc i) k (e ∷ es) h f (suc j) = key_with b i k es h (λ l. f (suc l)) j

put_out : (s : State) (n : ℕ) (m : MemNode) (c : ℕ) → length s.nodes ≤ n → node_at (put_node s n m) c ≡ node_at s c
unfolding node_at put_node with_nodes
put_out s n m c h = rw (set_out s.nodes n m h)

keys_put : (b : ℕ) (s : State) (n i : ℕ) (k : List ℕ) → length k ≤ b → KeysMost b s
    → KeysMost b (put_node s n (changed (node_at s n) (with_key i k (node_at s n).entries)))
unfolding changed
keys_put b s n i k h f =
    let m : MemNode = changed (node_at s n) (with_key i k (node_at s n).entries) in
    record {
      most = λ c j d.
          by_test (ltb n (length s.nodes))
          (λ u. put_each (λ c x. x.dead ≡ false → length (key_at x.entries j) ≤ b) s n m (ltb-true n _ u)
          (λ z. key_with b i k (node_at s n).entries h (λ l. f.most n l z) j) (λ l z y. f.most l j y) c d)
          (λ u. let q = put_out s n m c (ltb-false n (length s.nodes) u) in rw q (f.most c j (ap (λ (x : MemNode). x.dead) (sym q) ∙ d)));
    }

pub keys_index : (b : ℕ) (s : State) (n i c : ℕ) → KeysMost b s → KeysMost b (set_index_key s n i c)
unfolding set_index_key key_at
keys_index b s n i c f =
    by_list (node_at s c).entries
    (λ q. rw q f)
    (λ e es q. by_test ((node_at s c).dead || not (ltb i (length (node_at s n).entries)) || same_key (key_at (node_at s n).entries i) e.key)
    (λ t. rw (q, t) f)
    (λ t.
    let live : (node_at s c).dead ≡ false = or_first (node_at s c).dead _
    (or_first ((node_at s c).dead || not (ltb i (length (node_at s n).entries))) _ t) in
    let k : length e.key ≤ b = rw q at (f.most c 0 live) in rw (q, t) (keys_put b s n i e.key k f)))

pub keys_indexes : (b : ℕ) (ps : List Step) (s : State) → KeysMost b s → KeysMost b (index_keys ps s)
unfolding index_keys
keys_indexes b [] s f = f
keys_indexes b (x ∷ []) s f = f
keys_indexes b (x ∷ y ∷ ps) s f = keys_index b _ x.slot x.child y.slot (keys_indexes b (y ∷ ps) s f)

pub inner_most : (c : ℕ) (ps : List Step) → inner c ps ≤ on_way c ps
inner_most c [] = omega arith
inner_most c (x ∷ []) = omega arith
inner_most c (x ∷ y ∷ ps) = let k = inner_most c (y ∷ ps) in omega arith

-- a key is set in a slot that the keys below left as it was: with at most k before, and keys of at most k, it is at most twice that after
pub index_room : (k : ℕ) (x y : Step) (ps : List Step) (s : State) → on_way x.slot (y ∷ ps) ≡ 0 → weight (node_at s x.slot).entries ≤ k
    → KeysMost k s → (node_at (index_keys (y ∷ ps) s) y.slot).dead ≡ false
    → weight (node_at (index_keys (y ∷ ps) s) x.slot).entries + length (key_at (node_at (index_keys (y ∷ ps) s) y.slot).entries 0) ≤ 2 * k
index_room k x y ps s off h f live =
    let t : State = index_keys (y ∷ ps) s in
    let q : weight (node_at t x.slot).entries ≡ weight (node_at s x.slot).entries = ap (λ (m : MemNode). weight m.entries)
    (indexes_other (y ∷ ps) s x.slot (omega (arith, inner_most x.slot (y ∷ ps)))) in
    omega (arith, (keys_indexes k (y ∷ ps) s f).most y.slot 0 live)

-- after the index keys: each slot above the leaf takes at most k and the first key of the slot below
pub data Indexed (k : ℕ) (s : State) : List Step → Type 0 where
  none : Indexed k s []
  one : (x : Step) → Indexed k s (x ∷ [])
  more : (x y : Step) (xs : List Step) → weight (node_at s x.slot).entries ≤ k + length (key_at (node_at s y.slot).entries 0)
      → Indexed k s (y ∷ xs) → Indexed k s (x ∷ y ∷ xs)

indexed_same : (k : ℕ) (s t : State) (ps : List Step) → ((c : ℕ) → 1 ≤ on_way c ps → node_at t c ≡ node_at s c) → Indexed k s ps → Indexed k t ps
indexed_same k s t ps h none = none
indexed_same k s t ps h (one x) = one x
indexed_same k s t ps h (more x y xs q f) =
    more x y xs (rw (h x.slot (omega (arith, names_same x.slot)), h y.slot (omega (arith, names_same y.slot))) q)
    (indexed_same k s t (y ∷ xs) (λ c z. h c (omega arith)) f)

pub later : (c : ℕ) (x : Step) (ps : List Step) → on_way c ps ≤ on_way c (x ∷ ps)
later c x ps = omega arith

one_count : (s : State) (n i c : ℕ) → length (set_index_key s n i c).nodes ≡ length s.nodes
unfolding set_index_key
one_count s n i c =
    by_list (node_at s c).entries
    (λ q. rw q)
    (λ e es q. by_test ((node_at s c).dead || not (ltb i (length (node_at s n).entries)) || same_key (key_at (node_at s n).entries i) e.key)
    (λ t. rw (q, t))
    (λ t. rw (q, t) (put_count s n _)))

pub index_count : (ps : List Step) (s : State) → length (index_keys ps s).nodes ≡ length s.nodes
unfolding index_keys
index_count [] s = refl
index_count (x ∷ []) s = refl
index_count (x ∷ y ∷ ps) s = one_count (index_keys (y ∷ ps) s) x.slot x.child y.slot ∙ index_count (y ∷ ps) s

pub indexes_indexed : (k : ℕ) (ps : List Step) (s : State) → ((c : ℕ) → on_way c ps ≤ 1) → ((c : ℕ) → 1 ≤ on_way c ps → c < length s.nodes)
    → ((c : ℕ) → 1 ≤ inner c ps → weight (node_at s c).entries ≤ k) → Indexed k (index_keys ps s) ps
unfolding index_keys
indexes_indexed k [] s a u h = none
indexes_indexed k (x ∷ []) s a u h = one x
indexes_indexed k (x ∷ y ∷ ps) s a u h =
    let r = indexes_indexed k (y ∷ ps) s (λ c. le_trans (later c x (y ∷ ps)) (a c)) (λ c z. u c (omega arith)) (λ c z. h c (omega arith)) in
    let t : State = index_keys (y ∷ ps) s in
    let off : on_way x.slot (y ∷ ps) ≡ 0 = omega (arith, a x.slot, names_same x.slot) in
    let q : node_at t x.slot ≡ node_at s x.slot = indexes_other (y ∷ ps) s x.slot (omega (arith, inner_most x.slot (y ∷ ps))) in
    let before : weight (node_at t x.slot).entries ≤ k = rw q (h x.slot (omega (arith, names_same x.slot))) in
    let used : x.slot < length t.nodes = omega (arith, index_count (y ∷ ps) s, u x.slot (omega (arith, names_same x.slot))) in
    let apart : (c : ℕ) → 1 ≤ on_way c (y ∷ ps) → c ≡ x.slot → ⊥ = λ c z e. let w : on_way c (y ∷ ps) ≡ on_way x.slot (y ∷ ps) = ap
    (λ (j : ℕ). on_way j (y ∷ ps)) e in omega arith in
    let v : State = set_index_key t x.slot x.child y.slot in
    let same : node_at v y.slot ≡ node_at t y.slot = index_other t x.slot x.child y.slot y.slot
    (apart y.slot (omega (arith, names_same y.slot))) in
    let w : weight (node_at v x.slot).entries ≤ k + length (key_at (node_at v y.slot).entries 0) = rw same
    (omega (arith, index_weight t x.slot x.child y.slot used)) in
    more x y ps w (indexed_same k t v (y ∷ ps) (λ c z. index_other t x.slot x.child y.slot c (apart c z)) r)

-- ---- cuts

-- slots aside from the way, and the first key of its top, are as they were
pub record Aside (x : ℕ) (ps : List Step) (s u : State) : Type 0 where
  pub longer : length s.nodes ≤ length u.nodes
  pub off : (c : ℕ) → c < length s.nodes → on_way c ps ≡ 0 → (c ≡ x → ⊥) → node_at u c ≡ node_at s c
  pub first : key_at (node_at u x).entries 0 ≡ key_at (node_at s x).entries 0

first_insert : (i : ℕ) (e : Entry) (es : List Entry) → 0 < length es → key_at (insert_at (suc i) e es) 0 ≡ key_at es 0
unfolding insert_at key_at
first_insert i e [] h = absurd (omega arith)
first_insert i e (a ∷ es) h = refl

some_key : (es : List Entry) → 1 ≤ length es → 4 + length (key_at es 0) ≤ weight es
unfolding key_at
some_key [] h = absurd (omega arith)
some_key (e ∷ es) h = omega (arith, weight_cons e es)

left_key : (c : ℕ) (es : List Entry) → 1 ≤ length (take c es) → 4 + length (key_at es 0) ≤ weight (take c es)
unfolding key_at
left_key zero es h = absurd (omega arith)
left_key (suc c) [] h = absurd (omega arith)
left_key (suc c) (e ∷ es) h = omega (arith, weight_cons e (take c es))

-- the room that the right part's entry finds: its parent takes two blocks' worth and the left part's first key at most
pub link_room : (t : BTreeInfo) (level c : ℕ) (es xs : List Entry) → Parted t level es c → weight xs ≤ 2 * t.node_size + length (key_at es 0)
    → weight xs + (4 + length (key_at (drop c es) 0) + 8) ≤ 4 * t.node_size
link_room t level c es xs ps h =
    let a = fits_weight t false level (take c es) ps.left_fits in
    let b = fits_weight t false level (drop c es) ps.right_fits in
    omega (arith, left_key c es ps.left_some, some_key (drop c es) ps.right_some)

-- both parts take less than a block
pub part_room : (t : BTreeInfo) (level c : ℕ) (es : List Entry) → Parted t level es c
    → (weight (take c es) ≤ t.node_size - 56) × (weight (drop c es) ≤ t.node_size - 56)
part_room t level c es ps = (fits_weight t false level (take c es) ps.left_fits, fits_weight t false level (drop c es) ps.right_fits)

pub more_nodes_lem : (u : State) (n c : ℕ) → node_at (more_nodes u n) c ≡ node_at u c
unfolding more_nodes with_info node_at
more_nodes_lem u n c = refl

pub more_count : (u : State) (n : ℕ) → length (more_nodes u n).nodes ≡ length u.nodes
unfolding more_nodes with_info
more_count u n = refl

pub link_other : (s : State) (p i r c : ℕ) → (c ≡ p → ⊥) → node_at (link_right s p i r) c ≡ node_at s c
unfolding link_right
link_other s p i r c d = at_put_other s p _ c d

pub link_first : (s : State) (p i r : ℕ) → p < length s.nodes → 0 < length (node_at s p).entries
    → key_at (node_at (link_right s p i r) p).entries 0 ≡ key_at (node_at s p).entries 0
unfolding link_right changed
link_first s p i r used some = ap (λ (m : MemNode). key_at m.entries 0) (at_put_same s p _ used) ∙ first_insert i _ (node_at s p).entries some

pub link_count : (s : State) (p i r : ℕ) → length (link_right s p i r).nodes ≡ length s.nodes
unfolding link_right
link_count s p i r = put_count s p _

-- the cut of slot n under x
cut_aside : (l : Lent) (x : Step) (n : ℕ) (s : State) → x.slot < length s.nodes → 0 < length (node_at s x.slot).entries → (x.slot ≡ n → ⊥)
    → Holds (λ u. (length s.nodes ≤ length u.nodes) ×
    ((c : ℕ) → c < length s.nodes → (c ≡ n → ⊥) → (c ≡ x.slot → ⊥) → node_at u c ≡ node_at s c) ×
    (key_at (node_at u x.slot).entries 0 ≡ key_at (node_at s x.slot).entries 0)) (cut_node l (x ∷ []) n s)
cut_aside l x n s used some apart =
    by_cut (λ u. (length s.nodes ≤ length u.nodes) ×
    ((c : ℕ) → c < length s.nodes → (c ≡ n → ⊥) → (c ≡ x.slot → ⊥) → node_at u c ≡ node_at s c) ×
    (key_at (node_at u x.slot).entries 0 ≡ key_at (node_at s x.slot).entries 0)) l x n s
    (λ t. (le_refl _, λ c h a b. refl, refl))
    (λ c live ps room.
    let r : ℕ = length s.nodes in
    let t : State = parted s n c in
    let u : State = link_right t x.slot x.child r in
    let n_s : n < r = live_used s n live in
    let cnt : length t.nodes ≡ suc r = parted_count s n c n_s in
    let e : node_at t x.slot ≡ node_at s x.slot = parted_other s n c n_s x.slot used apart in
    let some' : 0 < length (node_at t x.slot).entries = rw e some in (
      omega (arith, more_count u 1, link_count t x.slot x.child r),
      λ j h a b. more_nodes_lem u 1 j ∙ link_other t x.slot x.child r j b ∙ parted_other s n c n_s j h a,
      ap (λ (m : MemNode). key_at m.entries 0) (more_nodes_lem u 1 x.slot) ∙ link_first t x.slot x.child r (omega arith) some' ∙ ap
          (λ (m : MemNode). key_at m.entries 0) e,
    ))

aside_step : (l : Lent) (x y : Step) (ps : List Step) (s t : State) → ((c : ℕ) → on_way c (x ∷ y ∷ ps) ≤ 1) → x.slot < length s.nodes
    → 0 < length (node_at s x.slot).entries → Aside y.slot ps s t
    → Holds (Aside x.slot (y ∷ ps) s) (cut_node l (x ∷ []) y.slot t)
aside_step l x y ps s t a used some r =
    let off : on_way x.slot (y ∷ ps) ≡ 0 = omega (arith, a x.slot, names_same x.slot) in
    let apart : x.slot ≡ y.slot → ⊥ = λ e. let z : names x.slot (mem y.slot) ≡ 1 = ap (λ (j : ℕ). names j (mem y.slot)) e ∙ names_same
    y.slot in omega arith in
    let q : node_at t x.slot ≡ node_at s x.slot = r.off x.slot used (omega arith) apart in
    let some' : 0 < length (node_at t x.slot).entries = rw q some in
    record {
      at = λ u e.
          let k = (cut_aside l x y.slot t (le_trans used r.longer) some' apart).at u e in
          record {
            longer = le_trans r.longer k.0;
            off = λ c h z d.
                let n : c ≡ y.slot → ⊥ = λ f. let w : names c (mem y.slot) ≡ 1 = ap (λ (j : ℕ). names j (mem y.slot)) f ∙ names_same y.slot
                in
                omega arith in
                k.1 c (le_trans h r.longer) n d ∙ r.off c h (omega arith) n;
            first = k.2 ∙ ap (λ (m : MemNode). key_at m.entries 0) q;
          };
    }

-- cuts below slot x: what is not on the way stays, and so does the first key of x
pub cuts_aside : (l : Lent) (x : Step) (ps : List Step) (s : State) → ((c : ℕ) → on_way c (x ∷ ps) ≤ 1)
    → ((c : ℕ) → 1 ≤ on_way c (x ∷ ps) → c < length s.nodes) → ((c : ℕ) → 1 ≤ inner c (x ∷ ps) → 0 < length (node_at s c).entries)
    → Holds (Aside x.slot ps s) (cuts l (x ∷ []) ps s)
unfolding cuts
cuts_aside l x [] s a u f = holds_ok (record { longer = le_refl _; off = λ c h z d. refl; first = refl })
cuts_aside l x (y ∷ ps) s a u f =
    let ih = cuts_aside l y ps s (λ c. le_trans (later c x (y ∷ ps)) (a c)) (λ c z. u c (omega arith)) (λ c z. f c (omega arith)) in
    holds_bind (cuts l (y ∷ []) ps s) _ λ t e.
    aside_step l x y ps s t a (u x.slot (omega (arith, names_same x.slot))) (f x.slot (omega (arith, names_same x.slot))) (ih.at t e)

-- when slot y comes to be cut, its parent x still takes at most k and the first key of y: then `link_room` grants the room for the right part's entry
pub cuts_room : (k : ℕ) (x y : Step) (ps : List Step) (s t : State) → ((c : ℕ) → on_way c (x ∷ y ∷ ps) ≤ 1) → x.slot < length s.nodes
    → Aside y.slot ps s t
    → weight (node_at s x.slot).entries ≤ k + length (key_at (node_at s y.slot).entries 0)
    → weight (node_at t x.slot).entries ≤ k + length (key_at (node_at t y.slot).entries 0)
cuts_room k x y ps s t a used r h =
    let off : on_way x.slot (y ∷ ps) ≡ 0 = omega (arith, a x.slot, names_same x.slot) in
    let apart : x.slot ≡ y.slot → ⊥ = λ e. let z : names x.slot (mem y.slot) ≡ 1 = ap (λ (j : ℕ). names j (mem y.slot)) e ∙ names_same
    y.slot in omega arith in
    rw (r.off x.slot used (omega arith) apart, r.first) h
