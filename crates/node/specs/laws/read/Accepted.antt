-- What holds of every node that the reader accepts. Assumes nothing.
use Rattle.std.specs.Prelude.{◌≡◌, refl, true, false, ◌&&◌, ◌||◌, not, ℕ, zero, suc, ◌+◌, ◌-◌, ◌*◌, ◌≤◌, ◌<◌, ◌^◌, length, drop, get_or, eqb}
use Rattle.std.proofs.Math.Path.{sym, ap}
use Rattle.std.proofs.Common.{◌∙◌, add-zero, not-suc-le-zero, le_of_suc-le-suc, arith, ne_eqb}
use mathlib.Core.List.{List, ◌++◌}
use Rattle.std.proofs.lemmas.Bool.{eqb-false}
use Rattle.seal.specs.Bytes.{window, splice, u64_at}
use Rattle.seal.specs.Checksum.{verified}
use Rattle.node.specs.laws.base.Tests.{by_test, and_left, and_right}
use Rattle.node.specs.laws.base.Bytes.{Bytes, bytes_known, field_below}
use Rattle.node.specs.Result.{ok}
use Rattle.node.specs.Fit.{data_space}
use Rattle.node.specs.Entry.{Entry, disk}
use Rattle.node.specs.Cut.{entry_size, size}
use Rattle.node.specs.Records.{records_of, records_length, entries_of}
use Rattle.node.specs.internal.Storable.{Held, Storable}
use Rattle.node.specs.laws.slot.Records.{Storables, none, more, entries_back, records_back}
use Rattle.node.specs.Slot.{is_child, suit, suits}
use Rattle.node.specs.Read.{keys_hold, parsed, is_ghost, span_at, span_holds, span_length, layout_holds, spans_hold, spans_length, value_at, entry_at, entries_from, keys_rise, keys_within, OnDisk, on_disk, read_node, read_of}
use Rattle.node.specs.internal.ReadSteps.{Sound}
use Rattle.node.specs.laws.read.Read.{few, held_no_ghost, key_counts, leaf_counts, value_counts}
use Rattle.node.specs.laws.read.Keys.{sound_span, disk_of}
use Rattle.node.specs.laws.read.Adopt.{adopt_none, adopt_none_long, adopt_start, adopt_room, at_next, long_next, adopt_turn, adopt_done, adopt_done_long}
use Rattle.node.specs.laws.read.LoadLine.{layout_laid, layout_level, entries_space, entries_filled, entries_sound, is_kind, is_level}
use Rattle.node.specs.laws.read.Loaded.{read_passed, entries_length, entries_every}
use Rattle.node.specs.declared.read.Node.{Node}
use Rattle.node.specs.declared.read.Span.{Span}
use Rattle.node.specs.Place.{Place}
use Rattle.std.specs.Prelude.{Ok}

-- a node that was read: what the checks 3 to 9 leave
pub record Accepted (o : ℕ) (p : Place) (lower upper b : List ℕ) (v : Node) : Type 0 where
  pub is : v ≡ parsed p b
  pub seal : verified b ≡ true
  pub kind : is_kind v ≡ true
  pub layout : layout_holds p v ≡ true
  pub deep : v.level ≤ 32
  pub level : is_level p v ≡ true
  pub sound : Sound v b
  pub space : spans_length v b 0 v.nkeys ≤ data_space (length b) p.root
  pub filled : (not (eqb v.nkeys 0) || p.root && eqb v.level 0) ≡ true
  pub rise : keys_rise o (entries_from v b 0 v.nkeys) ≡ true
  pub within : keys_within o p lower upper (entries_from v b 0 v.nkeys) ≡ true

parsed_toc : (p : Place) (b : List ℕ) → (parsed p b).toc ≤ (parsed p b).keys
unfolding parsed
parsed_toc p b = omega arith

parsed_vals : (p : Place) (b : List ℕ) → (parsed p b).vals ≤ length b
unfolding parsed
parsed_vals p b = omega arith

module _ (o : ℕ) (p : Place) (lower upper b : List ℕ) (small : length b ≤ 65536) where
  -- an accepted node is the block's, and is as the checks leave it
  pub read_is : (x : OnDisk) → read_node o p lower upper b ≡ ok x → on_disk (parsed p b) b ≡ x
  read_is x e = sym (read_passed o p lower upper b x e).read

  pub read_accepts : (x : OnDisk) → read_node o p lower upper b ≡ ok x → Accepted o p lower upper b (parsed p b)
  unfolding keys_hold
  read_accepts x e =
      let v : Node = parsed p b in
      let es : List Entry = entries_from v b 0 v.nkeys in
      let q = read_passed o p lower upper b x e in
      record {
        is = refl;
        seal = q.seal;
        kind = q.kind;
        layout = q.layout;
        deep = layout_level p v q.layout;
        level = q.level;
        sound = entries_sound p v b (layout_laid p v (length b) q.layout (parsed_toc p b) (parsed_vals p b) small) q.entries;
        space = entries_space p v b q.entries;
        filled = entries_filled p v b q.entries;
        rise = and_left (keys_rise o es) (keys_within o p lower upper es) q.keys;
        within = and_right (keys_rise o es) (keys_within o p lower upper es) q.keys;
      }

  -- the same of the reader's answer
  pub loaded_accepts : (v : Node) → read_of b (Ok v) ≡ read_node o p lower upper b → Accepted o p lower upper b v
  unfolding read_of on_disk
  loaded_accepts v e =
      let s : v ≡ parsed p b = sym (ap (λ (x : OnDisk). x.node) (read_is (on_disk v b) (sym e))) in
      rw s (read_accepts (on_disk v b) (sym e))

-- ---- the entries of an accepted node

pub at_from : (v : Node) (b : List ℕ) (i n k : ℕ) (d : Entry) → k < n → get_or (entries_from v b i n) k d ≡ entry_at v b (i + k)
unfolding entries_from
at_from v b i zero k d lt = absurd (not-suc-le-zero lt)
at_from v b i (suc n) zero d lt = rw add-zero
at_from v b i (suc n) (suc k) d lt =
    let e : suc i + k ≡ i + suc k = omega arith in
    at_from v b (suc i) n k d (le_of_suc-le-suc lt) ∙ ap (entry_at v b) e

entry_counts : (v : Node) (b : List ℕ) (i : ℕ) → span_holds v (length b) (span_at v b i) ≡ true → entry_size (entry_at v b i) ≡ span_length
    (span_at v b i) + 8
unfolding entry_size entry_at span_length
entry_counts v b i h =
    let s : Span = span_at v b i in
    let k : length (window s.key s.klen b) ≡ s.klen = key_counts v b s h in
    rw (k, value_counts v b s h)

-- their size is what 8 counts, with 8 for each
pub size_from : (v : Node) (b : List ℕ) (i n : ℕ) → spans_hold v b i n ≡ true → size (entries_from v b i n) ≡ spans_length v b i n + 8 * n
unfolding size entries_from spans_hold spans_length
size_from v b i zero h = refl
size_from v b i (suc n) h =
    let a : span_holds v (length b) (span_at v b i) ≡ true = and_left (span_holds v (length b) (span_at v b i)) (spans_hold v b (suc i) n) h in
    let r : size (entries_from v b (suc i) n) ≡ spans_length v b (suc i) n + 8 * n = size_from v b (suc i) n
    (and_right (span_holds v (length b) (span_at v b i)) (spans_hold v b (suc i) n) h) in
    let e : entry_size (entry_at v b i) ≡ span_length (span_at v b i) + 8 = entry_counts v b i a in
    omega arith

suit_one : (v : Node) (b : List ℕ) (i : ℕ) → span_holds v (length b) (span_at v b i) ≡ true → suit (eqb v.level 0) (entry_at v b i) ≡ true
unfolding suit is_child entry_at value_at is_ghost
suit_one v b i h =
    let s : Span = span_at v b i in
    by_test (eqb v.level 0)
    (λ z. by_test (is_ghost s) (λ g. rw (z, g)) (λ g. rw (z, g)))
    (λ z.
    let g : eqb s.voff 65535 ≡ false = ne_eqb s.voff 65535 (held_no_ghost v (length b) s h (eqb-false v.level 0 z)) in
    rw (z, g))

-- a leaf's values are no children, an index node's are nothing else
pub suit_from : (v : Node) (b : List ℕ) (i n : ℕ) → spans_hold v b i n ≡ true → suits (eqb v.level 0) (entries_from v b i n) ≡ true
unfolding suits
suit_from v b i n h = entries_every (suit (eqb v.level 0)) v b (suit_one v b) i n h

-- each can be stored as a record
held_one : (v : Node) (b : List ℕ) (i : ℕ) → Bytes b → span_holds v (length b) (span_at v b i) ≡ true → span_length (span_at v b i) ≤ 65532
    → Held (entry_at v b i).value
unfolding entry_at value_at is_ghost span_length
held_one v b i bb h fit =
    let s : Span = span_at v b i in
    by_test (is_ghost s)
    (λ g. rw g tt)
    (λ g.
    by_test (eqb v.level 0)
    (λ z.
    let l : length (window (v.vals - s.voff) s.vlen b) ≡ s.vlen = leaf_counts v b s h g in
    let f : s.klen + s.vlen ≤ 65532 = rw g at fit in
    rw (g, z) (omega arith))
    (λ z. rw (g, z) (field_below 8 b (v.vals - s.voff) bb)))

storable_one : (v : Node) (b : List ℕ) (i : ℕ) → Bytes b → span_holds v (length b) (span_at v b i) ≡ true → span_length (span_at v b i) ≤ 65532
    → Storable (entry_at v b i)
unfolding entry_at span_length
storable_one v b i bb h fit =
    let s : Span = span_at v b i in
    let k : length (window s.key s.klen b) ≡ s.klen = key_counts v b s h in
    record { short = omega arith; held = held_one v b i bb h fit }

pub storable_from : (v : Node) (b : List ℕ) (i n : ℕ) → Bytes b → spans_hold v b i n ≡ true → spans_length v b i n ≤ 65532
    → Storables (entries_from v b i n)
unfolding entries_from spans_hold spans_length
storable_from v b i zero bb h fit = none
storable_from v b i (suc n) bb h fit =
    let a : span_holds v (length b) (span_at v b i) ≡ true = and_left (span_holds v (length b) (span_at v b i)) (spans_hold v b (suc i) n) h in
    let k : spans_hold v b (suc i) n ≡ true = and_right (span_holds v (length b) (span_at v b i)) (spans_hold v b (suc i) n) h in
    let f : span_length (span_at v b i) ≤ 65532 = omega arith in
    let g : spans_length v b (suc i) n ≤ 65532 = omega arith in
    more (storable_one v b i bb a f) (storable_from v b (suc i) n bb k g)

module _ (o : ℕ) (p : Place) (lower upper b : List ℕ) (v : Node) (bb : Bytes b) (small : length b ≤ 65536) (a : Accepted o p lower upper b v) where
  pub accepted_storable : Storables (entries_from v b 0 v.nkeys)
  unfolding data_space
  accepted_storable = storable_from v b 0 v.nkeys bb a.sound.held (omega (arith, a.space))

  pub accepted_suits : suits (eqb v.level 0) (entries_from v b 0 v.nkeys) ≡ true
  accepted_suits = suit_from v b 0 v.nkeys a.sound.held

  -- entry i of an index node is a child on disk
  pub accepted_child : (i : ℕ) → i < v.nkeys → (v.level ≡ 0 → ⊥)
      → ((entry_at v b i).value ≡ disk (u64_at b (v.vals - (span_at v b i).voff))) × (u64_at b (v.vals - (span_at v b i).voff) < 2 ^ 64)
  accepted_child i lt n =
      let s : Span = span_at v b i in
      let h : span_holds v (length b) s ≡ true = sound_span v b i s a.sound lt refl in
      (disk_of v b i s refl (u64_at b (v.vals - s.voff)) (held_no_ghost v (length b) s h n) n refl, field_below 8 b (v.vals - s.voff) bb)

  pub accepted_size : size (entries_from v b 0 v.nkeys) ≤ data_space (length b) p.root + 8 * v.nkeys
  accepted_size = omega (arith, size_from v b 0 v.nkeys a.sound.held, a.space)

-- ---- what `adopt` leaves in a slot: the node's entries

-- they take at most twice the block
pub adopted_most : (v : Node) (b : List ℕ) → Sound v b → 4 * v.nkeys + spans_length v b 0 v.nkeys ≤ 2 * length b
adopted_most v b h = omega (arith, h.sum, few v (length b) h.laid, h.laid.small)

module _ (v : Node) (b l s : List ℕ) (bb : Bytes b) (h : Sound v b) (e : s ≡ splice l 0 (records_of (entries_from v b 0 v.nkeys))) where
  abbrev es : List Entry
  es = entries_from v b 0 v.nkeys

  abbrev t : List ℕ
  t = drop (0 + length (records_of es)) l

  sound_storable : Storables es
  sound_storable = storable_from v b 0 v.nkeys bb h.held (omega (arith, h.sum, h.laid.small))

  pub adopted_entries : entries_of v.nkeys s ≡ es
  unfolding splice
  adopted_entries = ap (entries_of v.nkeys) e ∙ ap (λ (n : ℕ). entries_of n (records_of es ++ t)) (sym (entries_length v b 0 v.nkeys))
      ∙ entries_back es t sound_storable

  pub adopted_length : (r : ℕ) → r ≡ length (records_of es) → records_length v.nkeys s ≡ r
  unfolding splice
  adopted_length r q =
      ap (records_length v.nkeys) e ∙ ap (λ (n : ℕ). records_length n (records_of es ++ t)) (sym (entries_length v b 0 v.nkeys))
      ∙ records_back es t sound_storable ∙ sym q

-- what copying takes of these, and of the steps

pub ruleset copied = (
  few,
  adopt_none,
  adopt_none_long,
  adopt_start,
  adopt_room,
  at_next,
  long_next,
  adopt_turn,
  adopt_done,
  adopt_done_long,
  bytes_known,
  adopted_entries,
)
