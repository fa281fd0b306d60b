-- Laws of a leaf's entry taken out and emptied nodes dropped, as the code does it. Assumes nothing.
use Rattle.std.specs.Prelude.{◌≡◌, refl, List, true, ℕ, ◌+◌, ◌-◌, ◌*◌, ◌≤◌, ◌<◌, length, take, ltb}
use Rattle.std.proofs.Math.Path.{sym, ap, ap₂}
use Rattle.std.proofs.Common.{◌∙◌, arith, lt-ltb, le-leb}
use Rattle.std.proofs.Math.Bool.{false}
use Rattle.std.proofs.Math.Dec.{leb}
use Rattle.std.proofs.lemmas.Bool.{lt-leb}
use Rattle.node.specs.Result.{ok, refused}
use Rattle.node.specs.Entry.{Entry}
use Rattle.node.specs.Cut.{size}
use Rattle.node.specs.Records.{records_length, entries_of}
use Rattle.node.specs.laws.slot.Records.{records_size, records_less, entries_front}
use Rattle.node.specs.Slot.{MemNode, head_at, remove_at}
use Rattle.node.specs.declared.info.BTreeInfo.{BTreeInfo}
use Rattle.tree.specs.Workspace.{slot_bytes, state_of}
use Rattle.tree.specs.State.{State, node_at, put_node, with_info, with_counts, with_entries}
use Rattle.tree.specs.Lookup.{Step, Way}
use Rattle.tree.specs.Edit.{touch}
use Rattle.tree.specs.Remove.{Dropped, drop_emptied, leveled_root}
use Rattle.tree.specs.Answers.{edited_of}
use Rattle.tree.specs.internal.Bank.{node_in, live, Ready, Put}
use Rattle.tree.specs.internal.Undo.{Follows}
use Rattle.tree.specs.internal.Writers.{edited}
use Rattle.tree.specs.declared.writers.DirtyMark.TheVariants.{Kept}
use Rattle.tree.specs.internal.Way.{nth_step, steps_in, WayIn, Touched}
use Rattle.tree.specs.internal.Index.{Rewritten}
use Rattle.tree.specs.internal.Removing.{DropRoom, Emptied, taken_on, shrunk_at}
use Rattle.tree.specs.laws.slots.Bank.{live_entries}
use Rattle.tree.specs.laws.slots.OneSlot.{ready_part, part_long}
use Rattle.tree.specs.laws.slots.Undo.{follows_on}
use Rattle.tree.specs.laws.slots.Tree.{node_in_lem}
use Rattle.tree.specs.laws.load.Fetch.{count_is}
use Rattle.tree.specs.laws.state.OneLeaf.{touch_marks}
use Rattle.tree.specs.laws.remove.Words.{put_rewritten}
use Rattle.tree.specs.laws.remove.Ways.{leaf_is}
use Rattle.tree.specs.declared.editor.Tree.{Tree}
use Rattle.std.specs.Prelude.{Ok, Err}
use Rattle.node.specs.declared.refusal.Refusal.TheVariants as is
use Rattle.tree.specs.declared.editor.Position as code

-- ---- where an entry starts, of the entries before it

offset_of : (n i : ℕ) (l : List ℕ) → i ≤ n → records_length n l ≤ length l → records_length i l + 4 * i ≡ size (take i (entries_of n l))
offset_of n i l h r = records_size i l (omega (arith, records_less i n l h)) ∙ ap size (sym (entries_front i n l h))

module _ (size₀ slots n i : ℕ) (t : Tree) (h b h' b' : List ℕ) (r : Ready size₀ slots t.used h b) (r' : Ready size₀ slots t.used h' b')
    (hn : n < t.used)
    (e : (node_at (state_of size₀ t h' b') n).entries ≡ (node_at (state_of size₀ t h b) n).entries) (hi : i < (live (head_at h n)).count) where
  same_count : (live (head_at h' n)).count ≡ (live (head_at h n)).count
  same_count = count_is size₀ t h' b' n hn (live (head_at h' n)) refl ∙ ap length e ∙ sym (count_is size₀ t h b n hn (live (head_at h n)) refl)

  index_same : i < (live (head_at h' n)).count
  index_same = omega (arith, same_count)

  entries_are : (g c : List ℕ) → (node_at (state_of size₀ t g c) n).entries ≡ entries_of (live (head_at g n)).count (slot_bytes size₀ c n)
  unfolding node_in
  entries_are g c = rw (node_in_lem size₀ t g c n hn) (live_entries (head_at g n) (slot_bytes size₀ c n))

  within : (g c : List ℕ) → Ready size₀ slots t.used g c → records_length (live (head_at g n)).count (slot_bytes size₀ c n) ≤ length
      (slot_bytes size₀ c n)
  within g c q = omega (arith, (q.lies n hn).room, part_long size₀ c n (ready_part size₀ slots t.used g c n q hn))

  start_same : (at : ℕ) → at ≡ records_length i (slot_bytes size₀ b n) → at ≡ records_length i (slot_bytes size₀ b' n)
  start_same at q =
      let x = offset_of (live (head_at h n)).count i (slot_bytes size₀ b n) (omega arith) (within h b r) in
      let y = offset_of (live (head_at h' n)).count i (slot_bytes size₀ b' n) (omega (arith, same_count)) (within h' b' r') in
      let z : size (take i (entries_of (live (head_at h n)).count (slot_bytes size₀ b n)))
      ≡ size (take i (entries_of (live (head_at h' n)).count (slot_bytes size₀ b' n))) =
      ap (λ (es : List Entry). size (take i es)) (sym (entries_are h b) ∙ sym e ∙ entries_are h' b') in
      omega (arith, x, y, z)

-- ---- the leaf's entry

module _ (size₀ slots i : ℕ) (t : Tree) (way : List code.Position) (h0 b0 h1 b1 : List ℕ) (r : Ready size₀ slots t.used h0 b0) (w : WayIn
    t.used way) (some : 1 ≤ length way)
    (d : Touched size₀ slots t way h0 b0 h1 b1) where
  abbrev n : ℕ
  n = (nth_step way (length way - 1)).slot

  abbrev ps : List Step
  ps = steps_in way

  pub leaf_used : (nth_step way (length way - 1)).slot < t.used
  leaf_used = w.slot (length way - 1) (omega arith)

  pub touched_entries : (node_at (state_of size₀ t h1 b1) (nth_step way (length way - 1)).slot).entries
      ≡ (node_at (state_of size₀ t h0 b0) (nth_step way (length way - 1)).slot).entries
  touched_entries = ap (λ (s : State). (node_at s n).entries) d.state ∙ (touch_marks ps (state_of size₀ t h0 b0)).entries n

  module _ (hi : i < (live (head_at h0 (nth_step way (length way - 1)).slot)).count) where
    pub leaf_index : i < (live (head_at h1 (nth_step way (length way - 1)).slot)).count
    leaf_index = index_same size₀ slots n i t h0 b0 h1 b1 r d.ready leaf_used touched_entries hi

    pub leaf_start : (at : ℕ) → at ≡ records_length i (slot_bytes size₀ b0 (nth_step way (length way - 1)).slot)
        → at ≡ records_length i (slot_bytes size₀ b1 (nth_step way (length way - 1)).slot)
    leaf_start = start_same size₀ slots n i t h0 b0 h1 b1 r d.ready leaf_used touched_entries hi

  module _ (h2 b2 : List ℕ) (eh : length h2 ≡ length h1) (eb : length b2 ≡ length b1)
      (p : Put size₀ slots h1 b1 h2 b2 (nth_step way (length way - 1)).slot
      (edited Kept (node_in size₀ h1 b1 (nth_step way (length way - 1)).slot) (remove_at i
      (node_in size₀ h1 b1 (nth_step way (length way - 1)).slot).entries)))
      (f : Follows size₀ slots t.used h1 b1 h2 b2) where
    -- the leaf without its entry
    pub taken_is : Rewritten size₀ slots t h0 b0 h2 b2 (taken_on i (steps_in way) (state_of size₀ t h0 b0))
    unfolding taken_on
    taken_is =
        let k = put_rewritten size₀ slots n t h1 b1 h2 b2 d.ready leaf_used eh eb _ p f in
        let q : node_in size₀ h1 b1 n ≡ node_at (state_of size₀ t h1 b1) n = sym (node_in_lem size₀ t h1 b1 n leaf_used) in
        record {
          state = k.state
              ∙ ap (λ (m : MemNode). put_node (state_of size₀ t h1 b1) n (with_entries m (remove_at i m.entries))) q
              ∙ ap (λ (s : State). put_node s n (with_entries (node_at s n) (remove_at i (node_at s n).entries))) d.state
              ∙ ap (λ (c : ℕ). let s : State = touch ps (state_of size₀ t h0 b0) in
              put_node s c (with_entries (node_at s c) (remove_at i (node_at s c).entries))) (sym (leaf_is way some));
          ready = k.ready;
          follows = follows_on size₀ slots t.used t.used h0 b0 h1 b1 h2 b2 d.follows f (omega arith);
        }

-- ---- then the nodes that it emptied

module _ (size₀ slots i : ℕ) (t : Tree) (way : List code.Position) (h0 b0 h2 b2 : List ℕ) (k : Rewritten size₀ slots t h0 b0 h2 b2 (taken_on i
    (steps_in way) (state_of size₀ t h0 b0))) where
  abbrev qs : List Step
  qs = steps_in way

  abbrev s : State
  s = state_of size₀ t h0 b0

  abbrev w₀ : Way
  w₀ = record { state = s; steps = qs }

  abbrev d₀ : Dropped
  d₀ = drop_emptied qs (taken_on i qs s)

  pub taken_ready : Ready size₀ slots t.used h2 b2
  taken_ready = k.ready

  pub taken_room : DropRoom (taken_on i (steps_in way) (state_of size₀ t h0 b0)) way
      → DropRoom (state_of size₀ t h2 b2) way
  taken_room q = rw k.state q

  module _ (h3 b3 : List ℕ) (dropped : ℕ) (e : Emptied size₀ slots t h2 b2 h3 b3 (drop_emptied (steps_in way)
      (state_of size₀ t h2 b2)) dropped) where
    are : drop_emptied qs (state_of size₀ t h2 b2) ≡ d₀
    are = ap (drop_emptied qs) k.state

    counted : dropped ≡ d₀.nodes
    counted = e.count ∙ ap (λ (x : Dropped). x.nodes) are

    pub dropped_follows : Follows size₀ slots t.used h0 b0 h3 b3
    dropped_follows = follows_on size₀ slots t.used t.used h0 b0 h2 b2 h3 b3 k.follows e.rest.follows (omega arith)

    pub dropped_ready : Ready size₀ slots t.used h3 b3
    dropped_ready = e.rest.ready

    pub shrunk_none : t.info.key_count ≡ 0 → edited_of size₀ h3 b3 (Err is.Count) ≡ shrunk_at i (record {
      state = state_of size₀ t h0 b0;
      steps = steps_in way;
    })
    unfolding edited_of shrunk_at state_of
    shrunk_none z = sym (rw z)

    module _ (nz : t.info.key_count ≡ 0 → ⊥) where
      some_keys : ltb 0 t.info.key_count ≡ true
      some_keys = lt-ltb 0 t.info.key_count (positive t.info.key_count nz)
        where
          positive : (x : ℕ) → (x ≡ 0 → ⊥) → 0 < x
          positive x h = omega arith

      pub shrunk_many : t.info.node_count < dropped → edited_of size₀ h3 b3 (Err is.Count)
          ≡ shrunk_at i (record { state = state_of size₀ t h0 b0; steps = steps_in way })
      unfolding edited_of
      shrunk_many z = sym (refuses (lt-leb d₀.nodes t.info.node_count (omega (arith, counted))))
        where
          refuses : leb d₀.nodes t.info.node_count ≡ false → shrunk_at i w₀ ≡ refused 17
          refuses q = unfold shrunk_at state_of in rw (some_keys, q)

      module _ (le : dropped ≤ t.info.node_count) (u : Tree) (j : BTreeInfo) (ej : j
          ≡ with_counts t.info (t.info.key_count - 1) (t.info.node_count - dropped))
          (eu : u ≡ record { root = t.root; used = t.used; info = j; by_id = t.by_id; subtype = t.subtype; order = t.order; xid = t.xid })
          (h4 b4 : List ℕ) (g : Rewritten size₀ slots u h3 b3 h4 b4 (leveled_root (state_of size₀ u h3 b3))) where
        accepts : shrunk_at i w₀ ≡ ok (leveled_root (with_info d₀.state (with_counts s.info (s.info.key_count - 1)
            (s.info.node_count - d₀.nodes))))
        accepts = accepting (le-leb d₀.nodes t.info.node_count (omega (arith, counted)))
          where
            accepting : leb d₀.nodes t.info.node_count ≡ true
                → shrunk_at i w₀ ≡ ok (leveled_root (with_info d₀.state (with_counts s.info (s.info.key_count - 1)
                (s.info.node_count - d₀.nodes))))
            accepting q = unfold shrunk_at state_of in rw (some_keys, q)

        renewed : state_of size₀ u h3 b3 ≡ with_info (state_of size₀ t h3 b3) j
        renewed = rw eu (unfold state_of with_info in refl)

        counts_are : with_counts t.info (t.info.key_count - 1) (t.info.node_count - dropped)
            ≡ with_counts s.info (s.info.key_count - 1) (s.info.node_count - d₀.nodes)
        unfolding state_of
        counts_are = ap (λ (x : ℕ). with_counts t.info (t.info.key_count - 1) (t.info.node_count - x)) counted

        pub shrunk_done : edited_of size₀ h4 b4 (Ok u) ≡ shrunk_at i (record {
          state = state_of size₀ t h0 b0;
          steps = steps_in way;
        })
        unfolding edited_of
        shrunk_done =
            ap ok (g.state ∙ ap leveled_root (renewed ∙ ap₂ with_info (e.rest.state ∙ ap (λ (x : Dropped). x.state) are) (ej ∙ counts_are)))
            ∙ sym accepts

        pub shrunk_used : u.used ≡ t.used
        shrunk_used = ap (λ (x : Tree). x.used) eu

        pub shrunk_ready : Ready size₀ slots u.used h4 b4
        shrunk_ready = g.ready

        pub shrunk_follows : Follows size₀ slots t.used h0 b0 h4 b4
        shrunk_follows = follows_on size₀ slots t.used u.used h0 b0 h3 b3 h4 b4 dropped_follows g.follows (omega (arith, shrunk_used))

pub ruleset shrink_laws = (taken_is, dropped_follows, shrunk_none, shrunk_many, taken_ready, taken_room, dropped_ready)
