-- Room for the index keys of a remove: a dead slot has no entries, a live one two blocks at most, and keys that bytes can say. Assumes nothing.
use Rattle.std.specs.Prelude.{◌≡◌, refl, List, [], ◌∷◌, true, ◌||◌, not, ℕ, zero, suc, ◌-◌, ◌*◌, ◌≤◌, ◌<◌, length, ltb, eqb}
use Rattle.std.proofs.Common.{sym, ap, ◌∙◌, le_trans, arith, ltb-true, ltb-false}
use Rattle.std.proofs.Math.Seq.{set_out}
use Rattle.node.specs.Order.{same_key}
use Rattle.node.specs.Entry.{Entry}
use Rattle.node.specs.Find.{key_at}
use Rattle.node.specs.Records.{records_of, entries_of}
use Rattle.node.specs.Slot.{MemNode, head_at, node_of, rekeyed, with_key}
use Rattle.node.specs.laws.base.Bytes.{Bytes, bytes_window}
use Rattle.node.specs.laws.base.Tests.{by_test}
use Rattle.node.specs.laws.slot.Records.{Storables, none, more, records_storable}
use Rattle.tree.specs.Workspace.{slot_bytes, state_of}
use Rattle.tree.specs.State.{State, no_node, node_at, put_node, with_nodes, changed}
use Rattle.tree.specs.Lookup.{Step}
use Rattle.tree.specs.Edit.{set_index_key, index_keys}
use Rattle.tree.specs.internal.Bank.{node_in, live, Ready}
use Rattle.tree.specs.internal.Room.{Roomy}
use Rattle.tree.specs.internal.Way.{nth_step, steps_in}
use Rattle.tree.specs.internal.Index.{KeyFits, steps_from, IndexRoom}
use Rattle.tree.specs.laws.slots.Bank.{live_entries}
use Rattle.tree.specs.laws.slots.OneSlot.{ready_part, part_long}
use Rattle.tree.specs.laws.slots.Tree.{used_nodes, node_in_lem, node_out}
use Rattle.tree.specs.laws.trust.Named.{names_same, live_used}
use Rattle.tree.specs.laws.trust.OneStep.{put_each}
use Rattle.tree.specs.laws.trust.Loads.{by_list}
use Rattle.tree.specs.laws.trust.Edit.{on_way}
use Rattle.tree.specs.laws.trust.Upsert.{indexes_other}
use Rattle.tree.specs.laws.room.Weight.{weight}
use Rattle.tree.specs.laws.room.Calls.{weight_size}
use Rattle.tree.specs.laws.room.Edit.{KeysMost, keys_indexes, inner_most}
use Rattle.tree.specs.laws.room.Each.{roomy_keys, each_keys}
use Rattle.tree.specs.laws.remove.Ways.{step_of, from_cons, from_start, suffix}
use Rattle.tree.specs.declared.editor.Tree.{Tree}
use Rattle.tree.specs.declared.editor.Position as code

-- ---- dead slots have no entries

pub record Bare (s : State) : Type 0 where
  pub none : (n : ℕ) → (node_at s n).dead ≡ true → (node_at s n).entries ≡ []

pub bare_slots : (size : ℕ) (t : Tree) (h b : List ℕ) → Bare (state_of size t h b)
unfolding node_in node_of no_node
bare_slots size t h b =
    record {
      none = λ n d.
          by_test (ltb n t.used)
          (λ u.
          let q : node_at (state_of size t h b) n ≡ node_in size h b n = node_in_lem size t h b n (ltb-true n t.used u) in
          let e : eqb (head_at h n).dead 1 ≡ true = sym (ap (λ (m : MemNode). m.dead) q) ∙ d in
          rw (q, e))
          (λ u. rw (node_out size t h b n (ltb-false n t.used u)));
    }

key_none : (i : ℕ) (k : List ℕ) → with_key i k [] ≡ []
unfolding with_key rekeyed
key_none zero k = refl
key_none (suc i) k = refl

bare_put : (s : State) (n i : ℕ) (k : List ℕ) → Bare s → Bare (put_node s n (changed (node_at s n) (with_key i k (node_at s n).entries)))
unfolding changed
bare_put s n i k h =
    let m : MemNode = changed (node_at s n) (with_key i k (node_at s n).entries) in
    record {
      none = λ c d.
          by_test (ltb n (length s.nodes))
          (λ u. put_each (λ c x. x.dead ≡ true → x.entries ≡ []) s n m (ltb-true n _ u)
          (λ z. ap (with_key i k) (h.none n z) ∙ key_none i k) (λ c f z. h.none c z) c d)
          (λ u.
          let q = put_out s n m c (ltb-false n (length s.nodes) u) in
          ap (λ (x : MemNode). x.entries) q ∙ h.none c (sym (ap (λ (x : MemNode). x.dead) q) ∙ d));
    }
  where
    put_out : (s : State) (n : ℕ) (m : MemNode) (c : ℕ) → length s.nodes ≤ n → node_at (put_node s n m) c ≡ node_at s c
    put_out s n m c h = unfold node_at put_node with_nodes in rw (set_out s.nodes n m h)

bare_set : (s : State) (n i c : ℕ) → Bare s → Bare (set_index_key s n i c)
unfolding set_index_key
bare_set s n i c h =
    by_list (node_at s c).entries
    (λ q. rw q h)
    (λ e es q. by_test ((node_at s c).dead || not (ltb i (length (node_at s n).entries)) || same_key (key_at (node_at s n).entries i) e.key)
    (λ t. rw (q, t) h)
    (λ t. rw (q, t) (bare_put s n i e.key h)))

pub bare_keys : (ps : List Step) (s : State) → Bare s → Bare (index_keys ps s)
unfolding index_keys
bare_keys [] s h = h
bare_keys (x ∷ []) s h = h
bare_keys (x ∷ y ∷ ps) s h = bare_set (index_keys (y ∷ ps) s) x.slot x.child y.slot (bare_keys (y ∷ ps) s h)

-- so what is so of live slots is so of all
pub bare_light : (k : ℕ) (s : State) → Bare s → Roomy k s → (n : ℕ) → weight (node_at s n).entries ≤ k
unfolding records_of
bare_light k s h r n =
    by_test (node_at s n).dead
    (λ d. let q : weight (node_at s n).entries ≡ 0 = ap weight (h.none n d) in omega arith)
    (λ d. r.most n d)

bare_short : (k : ℕ) (s : State) → Bare s → KeysMost k s → (n i : ℕ) → length (key_at (node_at s n).entries i) ≤ k
unfolding key_at
bare_short k s h r n i =
    by_test (node_at s n).dead
    (λ d. let q : length (key_at (node_at s n).entries i) ≡ length (key_at [] i) = ap (λ (es : List Entry). length (key_at es i)) (h.none n d) in
    omega arith)
    (λ d. r.most n i d)

-- ---- keys of slots of bytes

storable_key : (es : List Entry) → Storables es → (i : ℕ) → length (key_at es i) ≤ 65535
unfolding key_at
storable_key [] none i = omega arith
storable_key (e ∷ es) (more a f) zero = omega (arith, a.short)
storable_key (e ∷ es) (more a f) (suc i) = storable_key es f i

pub bytes_keys : (size slots : ℕ) (t : Tree) (h b : List ℕ) → Ready size slots t.used h b → Bytes b → KeysMost 65535 (state_of size t h b)
unfolding node_in slot_bytes
bytes_keys size slots t h b r bb =
    record {
      most = λ n i d.
          let u : n < t.used = omega (arith, live_used (state_of size t h b) n d, used_nodes size t h b) in
          let q : node_at (state_of size t h b) n ≡ node_in size h b n = node_in_lem size t h b n u in
          let long = part_long size b n (ready_part size slots t.used h b n r u) in
          rw (q, live_entries (head_at h n) (slot_bytes size b n))
          (storable_key (entries_of (live (head_at h n)).count (slot_bytes size b n))
          (records_storable (live (head_at h n)).count (slot_bytes size b n) (omega (arith, (r.lies n u).room)) (bytes_window (n * (4 * size))
          (4 * size) b bb)) i);
    }

-- ---- index keys fit

tail_once : (c : ℕ) (x y : Step) (xs : List Step) → on_way c (x ∷ y ∷ xs) ≤ 1 → on_way c (y ∷ xs) ≤ 1
tail_once c x y xs h = omega arith

module _ (size slots : ℕ) (t : Tree) (h b : List ℕ) (r : Ready size slots t.used h b) (bb : Bytes b) (ro : Roomy (2 * size) (state_of size t h b))
    (way : List code.Position) (once : (c : ℕ) → on_way c (steps_in way) ≤ 1) (scratch : ℕ) (room : 2 * size ≤ scratch) where
  abbrev s : State
  s = state_of size t h b

  bare : Bare (state_of size t h b)
  bare = bare_slots size t h b

  keys : KeysMost (2 * size) s
  keys = each_keys (2 * size) s (roomy_keys (2 * size) s ro)

  off : (j : ℕ) → 0 < j → j < length way → on_way (nth_step way (j - 1)).slot (steps_from way j (length way - j)) ≡ 0
  off j u v =
      let n : ℕ = (nth_step way (j - 1)).slot in
      let a : on_way n (steps_from way (j - 1) (length way - (j - 1))) ≤ 1 =
      suffix way (λ qs. on_way n qs ≤ 1) (tail_once n) (j - 1) (omega arith) (rw (← from_start way (length way)) (once n)) in
      let z : suc (j - 1) ≡ j = omega arith in
      let e : steps_from way (j - 1) (length way - (j - 1)) ≡ step_of way (j - 1) ∷ steps_from way j (length way - j) =
      from_cons way (j - 1) (omega arith) ∙ ap (λ (y : ℕ). step_of way (j - 1) ∷ steps_from way y (length way - y)) z in
      let k : on_way n (step_of way (j - 1) ∷ steps_from way j (length way - j)) ≤ 1 = rw e at a in
      omega (arith, names_same n)

  fits_at : (j : ℕ) → 0 < j → j < length way
      → KeyFits size (index_keys (steps_from way j (length way - j)) (state_of size t h b)) (nth_step way (j - 1)).slot (nth_step way j).slot scratch
  fits_at j u v =
      let n : ℕ = (nth_step way (j - 1)).slot in
      let c : ℕ = (nth_step way j).slot in
      let ps : List Step = steps_from way j (length way - j) in
      let s' : State = index_keys (steps_from way j (length way - j)) (state_of size t h b) in
      let bare' : Bare (index_keys (steps_from way j (length way - j)) (state_of size t h b)) = bare_keys ps s bare in
      let q : node_at s' n ≡ node_at s n = indexes_other ps s n (omega (arith, inner_most n ps, off j u v)) in
      let a : weight (node_at s' n).entries ≤ 2 * size = rw q (bare_light (2 * size) s bare ro n) in
      let f : length (key_at (node_at s' c).entries 0) ≤ 2 * size = bare_short (2 * size) s' bare' (keys_indexes (2 * size) ps s keys) c 0 in
      let g : length (key_at (node_at s' c).entries 0) ≤ 65535 = bare_short 65535 s' bare' (keys_indexes 65535 ps s
      (bytes_keys size slots t h b r bb)) c 0 in
      record { slot = omega (arith, weight_size (node_at s' n).entries); short = omega arith; copied = le_trans f room }

  pub index_fits : IndexRoom size t h b way scratch
  index_fits = record { turn = fits_at }
