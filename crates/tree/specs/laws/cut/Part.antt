-- Laws of a slot parted in two. Assumes nothing.
use Rattle.std.specs.Prelude.{◌≡◌, true, drop}
use Rattle.std.proofs.Math.Path.{refl, sym, ap}
use Rattle.std.proofs.Common.{◌∙◌, arith}
use mathlib.Core.List.{List, [], ◌∷◌, ◌++◌}
use Prim.Native.Nat.{ℕ, suc, ◌+◌, ◌-◌, ◌*◌, ◌≤◌, ◌<◌}
use Rattle.std.proofs.Math.Numerals.{add-one}
use Rattle.std.proofs.Math.ListN.{length, get_or, set, take, length-drop}
use Rattle.std.proofs.Math.Seq.{set-append_left, take_at, length-take-le}
use Rattle.std.proofs.Math.Dec.{eqb}
use Rattle.node.specs.Bytes.{window, splice, moved}
use Rattle.node.specs.laws.base.Seal.{length_window, length_splice, window_window}
use Rattle.node.specs.laws.base.Tests.{by_test}
use Rattle.node.specs.Entry.{Entry}
use Rattle.node.specs.Records.{records_length, entries_of}
use Rattle.node.specs.laws.slot.Records.{records_less, records_rest, records_local, entries_front, entries_local, entries_rest}
use Rattle.node.specs.Slot.{MemNode, head_at, head_words, node_of, marked}
use Rattle.node.specs.laws.slot.Head.{head_same, head_other}
use Rattle.node.specs.declared.head.Head.{Head}
use Rattle.tree.specs.Workspace.{slot_bytes, nodes_of, state_of}
use Rattle.tree.specs.State.{with_nodes, node_at, put_node, add_node, changed, made}
use Rattle.tree.specs.Edit.{parted}
use Rattle.tree.specs.internal.Bank.{node_in, live, Lies, Ready, Wrote, number_holds, words_hold}
use Rattle.tree.specs.laws.slots.Bank.{live_entries, live_again, part_same, part_other, length_nodes, put_set, put_add, put_ready, add_ready, live_words, dirty_words}
use Rattle.tree.specs.laws.slots.OneSlot.{ready_part, part_long, next_part, next_words, word_after, inner}
use Rattle.tree.specs.internal.Undo.{saved_at, Follows}
use Rattle.tree.specs.laws.slots.Undo.{put_of, wrote_mark, follows_on, follows_next, follows_marked}
use Rattle.tree.specs.laws.slots.Tree.{node_in_lem}
use Rattle.tree.specs.declared.editor.Tree.{Tree}

-- the last records of a slot, in another
module _ (l o o' : List ℕ) (n i used at : ℕ) (within : used ≤ length l) (pu : used ≡ records_length n l) (pa : at ≡ records_length i l) (h : i ≤ n)
    (e : o' ≡ splice o 0 (take (used - at) (drop at l))) where
  tail_agrees : take (used - at) o' ≡ take (used - at) (drop at l)
  unfolding splice
  tail_agrees =
      let w : List ℕ = take (used - at) (drop at l) in
      let a = records_less i n l h in
      let lw : length w ≡ used - at = length-take-le (used - at) (drop at l) (rw length-drop (omega arith)) in
      ap (take (used - at)) e ∙ take_at w (drop (0 + length w) o) (used - at) lw

  tail_fits : records_length (n - i) (drop at l) ≡ used - at
  tail_fits =
      let q : records_length (n - i) (drop at l) ≡ records_length (n - i) (drop (records_length i l) l) = ap
      (λ (x : ℕ). records_length (n - i) (drop x l)) pa in
      omega (arith, records_rest i n l h)

  part_tail_length : records_length (n - i) o' ≡ used - at
  part_tail_length =
      let f = tail_fits in
      let g : records_length (n - i) (drop at l) ≤ used - at = omega arith in
      records_local (n - i) (used - at) (drop at l) o' g tail_agrees ∙ tail_fits

  part_tail_entries : entries_of (n - i) o' ≡ drop i (entries_of n l)
  part_tail_entries =
      let f = tail_fits in
      let g : records_length (n - i) (drop at l) ≤ used - at = omega arith in
      entries_local (n - i) (used - at) (drop at l) o' g tail_agrees ∙ ap (λ (x : ℕ). entries_of (n - i) (drop x l)) pa ∙ sym (entries_rest i n l h)

module _ (size slots n i at : ℕ) (t : Tree) (h : Head) (heads bytes : List ℕ)
    (r : Ready size slots t.used heads bytes) (hs : t.used < slots) (hn : n < t.used) (eh : h ≡ live (head_at heads n))
    (hi : i ≤ (live (head_at heads n)).count)
    (ea : at ≡ records_length i (slot_bytes size bytes n)) where
  pub part_index : i ≤ h.count
  part_index = rw eh hi

  lies : Lies size h (slot_bytes size bytes n)
  lies = rw eh (r.lies n hn)

  long : length (slot_bytes size bytes n) ≡ 4 * size
  long = part_long size bytes n (ready_part size slots t.used heads bytes n r hn)

  pub at_below : at ≤ h.used
  at_below = omega (arith, records_less i h.count (slot_bytes size bytes n) part_index, lies.used)

  pub used_small : h.used ≤ 4 * size
  used_small = omega (arith, lies.room, lies.used)

  pub part_source : n * (4 * size) + at + (h.used - at) ≤ length bytes
  part_source = omega (arith, at_below, used_small, ready_part size slots t.used heads bytes n r hn)

  pub part_target : t.used * (4 * size) + (h.used - at) ≤ length bytes
  part_target = omega (arith, used_small, next_part size slots t.used heads bytes r hs)

module _ (size slots n i at rest : ℕ) (t t' : Tree) (h : Head) (heads h1 h2 bytes b1 : List ℕ)
    (r : Ready size slots t.used heads bytes) (hs : t.used < slots) (hn : n < t.used) (eh : h ≡ live (head_at heads n))
    (hi : i ≤ (live (head_at heads n)).count)
    (ea : at ≡ records_length i (slot_bytes size bytes n)) (er : rest ≡ h.used - at)
    (eb : b1 ≡ moved bytes (n * (4 * size) + at) (t.used * (4 * size)) rest)
    (e1 : h1 ≡ splice heads (t.used * 9) (head_words
    (record { level = h.level; count = h.count - i; used = rest; placed = 0; block = 0; named = 0; id = 0; dirty = 1; dead = 0 })))
    (e2 : h2 ≡ splice h1 (n * 9) (head_words (record {
      level = h.level;
      count = i;
      used = at;
      placed = h.placed;
      block = h.block;
      named = h.named;
      id = h.id;
      dirty = 1;
      dead = h.dead;
    })))
    (et : t' ≡ record {
      root = t.root;
      used = t.used + 1;
      info = t.info;
      by_id = t.by_id;
      subtype = t.subtype;
      order = t.order;
      xid = t.xid;
    }) where
  below : at ≤ h.used
  below = at_below size slots n i at t h heads bytes r hs hn eh hi ea

  small : h.used ≤ 4 * size
  small = used_small size slots n i at t h heads bytes r hs hn eh hi ea

  hi' : i ≤ h.count
  hi' = rw eh hi

  held : Lies size h (slot_bytes size bytes n)
  held = rw eh (r.lies n hn)

  wide : length (slot_bytes size bytes n) ≡ 4 * size
  wide = part_long size bytes n (ready_part size slots t.used heads bytes n r hn)

  source : n * (4 * size) + at + rest ≤ length bytes
  source = omega (arith, below, small, er, ready_part size slots t.used heads bytes n r hn)

  abbrev vs : List ℕ
  vs = window (n * (4 * size) + at) rest bytes

  vs_is : window (n * (4 * size) + at) rest bytes ≡ take (h.used - at) (drop at (slot_bytes size bytes n))
  unfolding slot_bytes window
  vs_is =
      let q : at + rest ≤ 4 * size = omega (arith, below, small) in
      sym (window_window (n * (4 * size)) (4 * size) bytes at rest q)
      ∙ ap (λ (k : ℕ). take k (drop at (take (4 * size) (drop (n * (4 * size)) bytes)))) er

  vs_long : length (window (n * (4 * size) + at) rest bytes) ≤ 4 * size
  vs_long = omega (arith, length_window (n * (4 * size) + at) rest bytes source, below, small)

  abbrev d : List ℕ
  d = splice (slot_bytes size bytes t.used) 0 (window (n * (4 * size) + at) rest bytes)

  room : t.used * (4 * size) + 4 * size ≤ length bytes
  room = next_part size slots t.used heads bytes r hs

  d_long : length d ≡ 4 * size
  d_long = let z : length (slot_bytes size bytes t.used) ≡ 4 * size = part_long size bytes t.used room in length_splice
      (slot_bytes size bytes t.used) 0 (window (n * (4 * size) + at) rest bytes) (omega (arith, vs_long, z)) ∙ z

  whole : b1 ≡ splice bytes (t.used * (4 * size)) d
  unfolding moved
  whole = eb ∙ inner size bytes (window (n * (4 * size) + at) rest bytes) t.used room vs_long

  new_part : slot_bytes size b1 t.used ≡ d
  new_part = ap (λ (x : List ℕ). slot_bytes size x t.used) whole ∙ part_same size bytes d t.used d_long room

  within : h.used ≤ length (slot_bytes size bytes n)
  within = omega (arith, small, wide)

  tail_long : records_length (h.count - i) d ≡ h.used - at
  tail_long = part_tail_length (slot_bytes size bytes n) (slot_bytes size bytes t.used) d h.count i h.used at within held.used ea hi'
      (ap (splice (slot_bytes size bytes t.used) 0) vs_is)

  tail_entries : entries_of (h.count - i) d ≡ drop i (entries_of h.count (slot_bytes size bytes n))
  tail_entries = part_tail_entries (slot_bytes size bytes n) (slot_bytes size bytes t.used) d h.count i h.used at within held.used ea hi'
      (ap (splice (slot_bytes size bytes t.used) 0) vs_is)

  abbrev right : Head
  right = record { level = h.level; count = h.count - i; used = rest; placed = 0; block = 0; named = 0; id = 0; dirty = 1; dead = 0 }

  abbrev left : Head
  left = record {
    level = h.level;
    count = i;
    used = at;
    placed = h.placed;
    block = h.block;
    named = h.named;
    id = h.id;
    dirty = 1;
    dead = h.dead;
  }

  right_words : words_hold (live right) ≡ true
  unfolding live words_hold number_holds
  right_words = refl

  left_words : words_hold (live left) ≡ true
  left_words = live_words left ∙ dirty_words h i at held.holds

  words1 : t.used * 9 + 9 ≤ length heads
  words1 = next_words size slots t.used heads bytes r hs

  head1 : head_at h1 t.used ≡ right
  head1 = ap (λ (x : List ℕ). head_at x t.used) e1 ∙ head_same heads t.used right (omega (arith, words1))

  put_right : Wrote size heads bytes h1 b1 t.used (made h.level (drop i (entries_of h.count (slot_bytes size bytes n))))
  unfolding node_in node_of live made marked
  put_right =
      record {
        node = rw (head1, new_part, tail_entries);
        lies = record {
          room = rw (head1, new_part) (omega (arith, tail_long, small));
          used = rw (head1, new_part) (er ∙ sym tail_long);
          holds = rw head1 right_words;
        };
        words = λ j e. ap (λ (x : List ℕ). head_at x j) e1 ∙ head_other heads t.used j right (omega (arith, words1)) (λ z. e (sym z));
        parts = λ j e. ap (λ (x : List ℕ). slot_bytes size x j) whole ∙ part_other size bytes d t.used d_long room j e;
        after = λ j e. ap (λ (x : List ℕ). get_or x j 0) e1 ∙ word_after heads t.used right j e words1;
      }

  apart : n ≡ t.used → ⊥
  apart z = omega arith

  words2 : n * 9 + 9 ≤ length h1
  unfolding head_words
  words2 = rw e1 (omega (arith, length_splice heads (t.used * 9) (head_words right) (omega (arith, words1)), words1))

  head2 : head_at h2 n ≡ left
  head2 = ap (λ (x : List ℕ). head_at x n) e2 ∙ head_same h1 n left (omega (arith, words2))

  front : entries_of i (slot_bytes size bytes n) ≡ take i (entries_of h.count (slot_bytes size bytes n))
  front = sym (entries_front i h.count (slot_bytes size bytes n) hi')

  -- the left part, dead only where nothing is left of it
  none_left : eqb h.dead 1 ≡ true → i ≡ 0
  unfolding live
  none_left t =
      let z : h.count ≡ 0 = rw eh (rw (ap (λ (x : Head). eqb x.dead 1) (sym eh) ∙ t)) in
      omega (arith, hi')

  left_count : (live left).count ≡ i
  unfolding live
  left_count = by_test (eqb h.dead 1) (λ t. rw t (sym (none_left t))) (λ t. rw t)

  left_used : (live left).used ≡ at
  unfolding live records_length
  left_used = by_test (eqb h.dead 1) (λ t. let z : i ≡ 0 = none_left t in rw t
      (sym (ea ∙ ap (λ (k : ℕ). records_length k (slot_bytes size bytes n)) z))) (λ t. rw t)

  left_entries : (node_of left (slot_bytes size bytes n)).entries ≡ take i (entries_of h.count (slot_bytes size bytes n))
  left_entries = live_entries left (slot_bytes size bytes n) ∙ rw left_count front

  changed_left : {es : List Entry} → (node_of left (slot_bytes size bytes n)).entries ≡ es → node_of left (slot_bytes size bytes n) ≡ changed
      (node_of h (slot_bytes size bytes n)) es
  unfolding node_of changed
  changed_left e = rw e

  put_left : Wrote size h1 b1 h2 b1 n (changed (node_of h (slot_bytes size bytes n)) (take i (entries_of h.count (slot_bytes size bytes n))))
  unfolding node_in
  put_left =
      let same : slot_bytes size b1 n ≡ slot_bytes size bytes n = put_right.parts n apart in
      record {
        node = rw (head2, same) (changed_left left_entries);
        lies = rw (head2, same) (record {
          room = rw left_count (omega (arith, below, small, ea));
          used = rw (left_count, left_used) ea;
          holds = left_words;
        });
        words = λ j e. ap (λ (x : List ℕ). head_at x j) e2 ∙ head_other h1 n j left (omega (arith, words2)) (λ z. e (sym z));
        parts = λ j e. refl;
        after = λ j e. ap (λ (x : List ℕ). get_or x j 0) e2 ∙ word_after h1 n left j e words2;
      }

  held_entries : (node_of h (slot_bytes size bytes n)).entries ≡ entries_of h.count (slot_bytes size bytes n)
  held_entries =
      ap (λ (x : Head). (node_of x (slot_bytes size bytes n)).entries) eh ∙ ap (λ (m : MemNode). m.entries)
      (live_again (head_at heads n) (slot_bytes size bytes n))
      ∙ live_entries (head_at heads n) (slot_bytes size bytes n) ∙ rw eh

  held_level : (node_of h (slot_bytes size bytes n)).level ≡ h.level
  unfolding node_of
  held_level = refl

  pub part_state : state_of size t' h2 b1 ≡ parted (state_of size t heads bytes) n i
  unfolding state_of parted add_node put_node with_nodes node_in
  part_state =
      let x : MemNode = changed (node_of h (slot_bytes size bytes n)) (take i (entries_of h.count (slot_bytes size bytes n))) in
      let y : MemNode = made h.level (drop i (entries_of h.count (slot_bytes size bytes n))) in
      let ns : List MemNode = nodes_of size heads bytes t.used in
      let u : length (nodes_of size heads bytes t.used) ≡ t.used = length_nodes size heads bytes t.used in
      let a : nodes_of size h2 b1 (suc t.used) ≡ set (nodes_of size heads bytes t.used) n x ++ y ∷ [] =
      put_set size slots h1 b1 h2 b1 n x (put_of size slots h1 b1 h2 b1 n x put_left) (suc t.used) (omega arith) (omega arith)
      ∙ ap (λ (z : List MemNode). set z n x) (put_add size slots heads bytes h1 b1 t.used y
      (put_of size slots heads bytes h1 b1 t.used y put_right) hs)
      ∙ set-append_left (nodes_of size heads bytes t.used) (y ∷ []) n x (omega arith) in
      let m : node_at (state_of size t heads bytes) n ≡ node_of h (slot_bytes size bytes n) = node_in_lem size t heads bytes n hn
      ∙ sym (live_again (head_at heads n) (slot_bytes size bytes n)) ∙ ap (λ (z : Head). node_of z (slot_bytes size bytes n)) (sym eh) in
      rw (et, add-one, a, m, held_entries, held_level)

  abbrev left_node : MemNode
  left_node = changed (node_of h (slot_bytes size bytes n)) (take i (entries_of h.count (slot_bytes size bytes n)))

  abbrev right_node : MemNode
  right_node = made h.level (drop i (entries_of h.count (slot_bytes size bytes n)))

  pub part_ready : length h2 ≡ length heads → length b1 ≡ length bytes → Ready size slots t'.used h2 b1
  unfolding head_words
  part_ready el el' =
      let z : length h1 ≡ length heads = ap length e1 ∙ length_splice heads (t.used * 9) (head_words right) (omega (arith, words1)) in
      let a : Ready size slots (suc t.used) h1 b1 = add_ready size slots heads bytes h1 b1 t.used right_node
      (put_of size slots heads bytes h1 b1 t.used right_node put_right) r hs z el' in
      rw (et, add-one) (put_ready size slots h1 b1 h2 b1 n left_node (put_of size slots h1 b1 h2 b1 n left_node put_left) (suc t.used) a
      (omega arith) refl)

  pub part_follows : (saved_at slots heads n ≡ 0 → ⊥) → Follows size slots t.used heads bytes h2 b1
  part_follows q =
      let z : saved_at slots h1 n ≡ saved_at slots heads n = wrote_mark size slots heads bytes h1 b1 t.used right_node put_right n hs in
      follows_on size slots t.used t.used heads bytes h1 b1 h2 b1
      (follows_next size slots t.used heads bytes h1 b1 right_node put_right hs)
      (follows_marked size slots t.used h1 b1 h2 b1 n left_node put_left (λ y. q (sym z ∙ y)) (omega arith) r.within) (omega arith)

pub ruleset part_in_laws = (part_index, at_below, used_small, part_source, part_target, part_state, part_ready)
