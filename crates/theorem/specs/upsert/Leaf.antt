-- The leaf's edit and the index keys of its way, slot by slot: the tree's numbers, the children of each node, the leaf, sums over the tree. Assumes
-- nothing.
use Rattle.std.specs.Prelude.{◌≡◌, List, [], ◌∷◌, Bool, false, cond, not, ℕ, zero, suc, ◌+◌, ◌≤◌, ◌<◌, length, leb, ltb, eqb}
use Rattle.std.proofs.Math.Path.{refl, sym, ap}
use Rattle.std.proofs.Common.{◌∙◌, arith, ltb-true, ltb-false, eqb-true}
use Rattle.std.proofs.Math.Nat.{le_refl}
use Rattle.std.proofs.Math.ListN.{get_or-eq_default}
use Rattle.std.proofs.Math.Seq.{set_out}
use Rattle.std.proofs.lemmas.Bool.{eqb-false}
use Rattle.node.specs.Order.{less}
use Rattle.node.specs.Entry.{Entry, Val, value_length}
use Rattle.node.specs.Find.{is_there}
use Rattle.node.specs.Fit.{flag, align8, greater, padded, keys_length, values_length}
use Rattle.node.specs.Slot.{MemNode, with_key, rekeyed}
use Rattle.node.specs.declared.info.BTreeInfo.{BTreeInfo}
use Rattle.node.specs.laws.base.Tests.{by_test, never}
use Rattle.node.specs.laws.order.Found.{there_later, there_here}
use Rattle.tree.specs.State.{State, node_at, no_node, put_node, with_nodes, with_info, with_counts, with_longest, with_entries, changed}
use Rattle.tree.specs.laws.state.State.{at_put_same, at_put_other, put_count}
use Rattle.tree.specs.Lookup.{Step, leaf_of}
use Rattle.tree.specs.Edit.{index_keys}
use Rattle.tree.specs.Upsert.{put_entry, grown_longest, put_in_leaf}
use Rattle.history.specs.Plain.{plain_upsert}
use Rattle.history.specs.laws.PlainIs.{upsert_is}
use Rattle.theorem.specs.steps.Grow.{names_is}
use Rattle.theorem.specs.steps.EachSlot.{on_way, leaf_on, by_index, by_indexes}
use Rattle.theorem.specs.steps.Sums.{vals}

-- a slot that is not in use
pub at_none : (s : State) (c : ℕ) → length s.nodes ≤ c → node_at s c ≡ no_node
unfolding node_at
at_none s c h = get_or-eq_default s.nodes no_node h

-- ---- index keys

pub index_info : (ps : List Step) (s : State) → (index_keys ps s).info ≡ s.info
index_info ps s =
    by_indexes (λ s u. u.info ≡ s.info) (λ s. refl) (λ s t u a b. b ∙ a) (λ c. 1) (λ u n i k h. unfold put_node with_nodes in
    refl) ps s (λ c h. le_refl 1)

pub index_count : (ps : List Step) (s : State) → length (index_keys ps s).nodes ≡ length s.nodes
index_count ps s = by_indexes (λ s u. length u.nodes ≡ length s.nodes) (λ s. refl) (λ s t u a b. b
    ∙ a) (λ c. 1) (λ u n i k h. put_count u n _) ps s (λ c h. le_refl 1)

keyed_vals : (i : ℕ) (k : List ℕ) (es : List Entry) → vals (with_key i k es) ≡ vals es
unfolding with_key rekeyed
keyed_vals zero k [] = refl
keyed_vals zero k (e ∷ es) = refl
keyed_vals (suc i) k [] = refl
keyed_vals (suc i) k (e ∷ es) = ap (λ (z : List Val). e.value ∷ z) (keyed_vals i k es)

-- one slot replaced, of which a fact stays
put_fact : {A : Type 0} (f : MemNode → A) (s : State) (n : ℕ) (m : MemNode) → f m ≡ f (node_at s n) → (c : ℕ)
    → f (node_at (put_node s n m) c) ≡ f (node_at s c)
put_fact f s n m e c =
    by_test (eqb c n)
    (λ t. let q : c ≡ n = eqb-true c n t in
    by_test (ltb n (length s.nodes))
    (λ u. rw q (ap f (at_put_same s n m (ltb-true n (length s.nodes) u)) ∙ e))
    (λ u. ap f (out (ltb-false n (length s.nodes) u))))
    (λ t. ap f (at_put_other s n m c (eqb-false c n t)))
  where
    out : length s.nodes ≤ n → node_at (put_node s n m) c ≡ node_at s c
    out h = unfold node_at put_node with_nodes in (rw (set_out s.nodes n m h))

-- every node keeps its children, and so its number of entries
pub index_vals : (ps : List Step) (s : State) (c : ℕ) → vals (node_at (index_keys ps s) c).entries ≡ vals (node_at s c).entries
unfolding changed
index_vals ps s =
    by_indexes (λ s u. (c : ℕ) → vals (node_at u c).entries ≡ vals (node_at s c).entries) (λ s c. refl) (λ s t u a b c. b c ∙ a c) (λ c. 1)
    (λ u n i k h. put_fact (λ m. vals m.entries) u n _ (keyed_vals i k (node_at u n).entries)) ps s (λ c h. le_refl 1)

-- the leaf is nobody's parent
pub index_leaf : (ps : List Step) (s : State) → on_way (leaf_of ps) ps ≤ 1 → node_at (index_keys ps s) (leaf_of ps) ≡ node_at s (leaf_of ps)
unfolding index_keys leaf_of
index_leaf [] s h = refl
index_leaf (x ∷ []) s h = refl
index_leaf (x ∷ y ∷ ps) s h =
    let o = leaf_on y ps in
    let u : State = index_keys (y ∷ ps) s in
    let n : leaf_of (y ∷ ps) ≡ x.slot → ⊥ = λ q. omega (arith, names_is (leaf_of (y ∷ ps)) x.slot q) in
    by_index (λ z. node_at z (leaf_of (y ∷ ps)) ≡ node_at u (leaf_of (y ∷ ps))) u x.slot x.child y.slot refl
    (λ k. at_put_other u x.slot _ (leaf_of (y ∷ ps)) n)
    ∙ index_leaf (y ∷ ps) s (omega arith)

-- ---- the leaf

module _ (s : State) (n : ℕ) (k : List ℕ) (v : Val) where
  abbrev node : MemNode
  node = with_entries (node_at s n) (put_entry s.order (record { key = k; value = v }) (node_at s n).entries)

  pub leaf_other : (c : ℕ) → (c ≡ n → ⊥) → node_at (put_in_leaf s n k v) c ≡ node_at s c
  unfolding put_in_leaf with_info node_at
  leaf_other c h = at_put_other s n node c h

  leaf_same : n < length s.nodes → node_at (put_in_leaf s n k v) n ≡ node
  unfolding put_in_leaf with_info node_at
  leaf_same h = at_put_same s n node h

  pub leaf_rows : n < length s.nodes → (node_at (put_in_leaf s n k v) n).entries ≡ plain_upsert s.order k v (node_at s n).entries
  unfolding with_entries
  leaf_rows h = ap (λ (m : MemNode). m.entries) (leaf_same h) ∙ sym (upsert_is s.order k v (node_at s n).entries)

  -- but for its entries every node is as it was
  pub leaf_fact : {A : Type 0} (f : MemNode → A) → ((m : MemNode) (es : List Entry) → f (with_entries m es) ≡ f m) → (c : ℕ)
      → f (node_at (put_in_leaf s n k v) c) ≡ f (node_at s c)
  unfolding put_in_leaf with_info node_at
  leaf_fact f h c = put_fact f s n node (h (node_at s n) _) c

  pub leaf_count : length (put_in_leaf s n k v).nodes ≡ length s.nodes
  unfolding put_in_leaf with_info
  leaf_count = put_count s n node

  abbrev new : Bool
  new = not (is_there s.order k (node_at s n).entries)

  -- the tree's numbers
  pub record Numbered (t : BTreeInfo) : Type 0 where
    pub flags : t.flags ≡ s.info.flags
    pub node : t.node_size ≡ s.info.node_size
    pub key : t.key_size ≡ s.info.key_size
    pub val : t.val_size ≡ s.info.val_size
    pub key_count : t.key_count ≡ s.info.key_count + cond (not (is_there s.order k (node_at s n).entries)) 1 0
    pub node_count : t.node_count ≡ s.info.node_count
    pub longest_key : t.longest_key ≡ cond (not (is_there s.order k (node_at s n).entries)) (greater s.info.longest_key (length k))
        s.info.longest_key
    pub longest_val : t.longest_val ≡ greater s.info.longest_val (value_length v)

  pub leaf_info : Numbered (put_in_leaf s n k v).info
  unfolding put_in_leaf with_info grown_longest with_longest with_counts
  leaf_info = record {
    flags = refl;
    node = refl;
    key = refl;
    val = refl;
    key_count = refl;
    node_count = refl;
    longest_key = refl;
    longest_val = refl;
  }

-- ---- what is put is no longer than what holds it

padded_least : (t : BTreeInfo) (n : ℕ) → n ≤ padded t n
unfolding padded align8
padded_least t n = by_test (flag t.flags 0x40) (λ h. rw h (le_refl n)) (λ h. rw h (omega arith))

pub value_room : (t : BTreeInfo) (o : ℕ) (k : List ℕ) (v : Val) (es : List Entry) → value_length v ≤ values_length t (plain_upsert o k v es)
unfolding plain_upsert values_length
value_room t o k v [] = omega (arith, padded_least t (value_length v))
value_room t o k v (e ∷ es) =
    by_test (less o e.key k)
    (λ h. rw h (omega (arith, value_room t o k v es)))
    (λ h. by_test (less o k e.key) (λ g. rw (h, g) (omega (arith, padded_least t (value_length v))))
    (λ g. rw (h, g) (omega (arith, padded_least t (value_length v)))))

pub key_room : (t : BTreeInfo) (o : ℕ) (k : List ℕ) (v : Val) (es : List Entry) → is_there o k es ≡ false
    → length k ≤ keys_length t (plain_upsert o k v es)
unfolding plain_upsert keys_length
key_room t o k v [] f = omega (arith, padded_least t (length k))
key_room t o k v (e ∷ es) f =
    by_test (less o e.key k)
    (λ h. rw h (omega (arith, key_room t o k v es (sym (there_later o k e es h) ∙ f))))
    (λ h. by_test (less o k e.key)
    (λ g. rw (h, g) (omega (arith, padded_least t (length k))))
    (λ g. never (there_here o k e es h ∙ ap not g) f))

pub greater_below : (a b m : ℕ) → a < m → b < m → greater a b < m
unfolding greater
greater_below a b m h g = by_test (leb a b) (λ t. rw t g) (λ t. rw t h)
