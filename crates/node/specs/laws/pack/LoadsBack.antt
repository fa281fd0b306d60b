-- A packed node loads to itself: the block that `pack_node` gives of a node that fits passes every check of the load line, and the node that is read
-- is the one packed. Assumes nothing.
use Rattle.std.specs.Prelude.{◌≡◌, Bool, ◌&&◌, ◌||◌, ℕ, suc, ◌+◌, ◌-◌, ◌*◌, ◌%◌, ◌≤◌}
use Rattle.std.proofs.Math.Path.{refl, sym, ap, subst, subst₂}
use Rattle.std.proofs.Common.{◌∙◌, zero-add, add-zero}
use mathlib.Core.List.{List, [], ◌∷◌, ◌++◌}
use Rattle.std.proofs.Math.Bool.{true, false, cond, not}
use native.Mathlib.Omega.{arith}
use Rattle.std.proofs.Math.ListN.{length}
use Rattle.std.proofs.Math.Dec.{eqb}
use borrow.Author.Tests.{le-leb, eq-eqb}
use Rattle.seal.specs.Bytes.{window, u64_at}
use Rattle.seal.specs.Checksum.{verified}
use Rattle.node.specs.Result.{ok}
use Rattle.node.specs.Entry.{Entry, Val, ghost, leaf, disk}
use Rattle.node.specs.Fit.{flag, data_space, fixed, slot_width, toc_length, keys_length, values_length}
use Rattle.node.specs.Pack.{node_flags, toc, key_area, value_area, pack_node}
use Rattle.node.specs.Read.{info_at, parsed, is_fixed, flags_hold, layout_holds, span_at, is_ghost, value_at, entry_at, spans_hold, spans_length, entries_hold, entries_from, keys_hold, OnDisk, on_disk, read_node, read_of}
use Rattle.node.specs.internal.Packable.{packed_node, Packable}
use Rattle.node.specs.laws.pack.Parts.{Stands}
use Rattle.node.specs.laws.base.Tests.{and_both}
use Rattle.node.specs.laws.fit.Fit.{fits_space}
use Rattle.node.specs.laws.pack.Layout.{contents_of, filled, toc_short, length_pack_node, packed_verified, stands_toc, stands_keys, stands_values}
use Rattle.node.specs.laws.read.LoadLine.{line, node_line}
use Rattle.node.specs.laws.pack.HeaderBack.{parsed_back, info_back}
use Rattle.node.specs.laws.pack.EntriesBack.{fixed_is, Entries-back, entries_back}
use Rattle.node.specs.declared.info.BTreeInfo.{BTreeInfo}
use Rattle.node.specs.declared.build.NodeBuild.{NodeBuild}
use Rattle.node.specs.declared.read.Node.{Node}
use Rattle.node.specs.declared.read.Span.{Span}
use Rattle.node.specs.Place.{Place}
use Rattle.std.specs.Prelude.{Ok, Err}
use Rattle.std.specs.Prelude as std
use Rattle.node.specs.declared.refusal.Refusal.{Refusal}

-- ---- the flags

-- the word of a node's flags has those that it was made of, and no other
flags_told : (r l f : Bool) → let w : ℕ = cond r 1 0 + cond l 2 0 + cond f 4 0 in (flag w 1 ≡ r) × (flag w 2 ≡ l) × (flag w 4 ≡ f)
    × (flag w 8 ≡ false)
unfolding flag
flags_told true true true = (refl, refl, refl, refl)
flags_told true true false = (refl, refl, refl, refl)
flags_told true false true = (refl, refl, refl, refl)
flags_told true false false = (refl, refl, refl, refl)
flags_told false true true = (refl, refl, refl, refl)
flags_told false true false = (refl, refl, refl, refl)
flags_told false false true = (refl, refl, refl, refl)
flags_told false false false = (refl, refl, refl, refl)

same_true : (a b : Bool) → a ≡ b → cond a b (not b) ≡ true
same_true a b e = ap (λ (q : Bool). cond q b (not b)) e ∙ go b
  where
    go : (q : Bool) → cond q q (not q) ≡ true
    go true = refl
    go false = refl

-- ---- the load line, when every check passes

passes : (o : ℕ) (p : Place) (lower upper b : List ℕ) (v : Node) → parsed p b ≡ v → verified b ≡ true
    → (eqb (v.otype % 65536) 2 || eqb (v.otype % 65536) 3) ≡ true
    → flag v.flags 8 ≡ false → layout_holds p v ≡ true → (p.root || eqb (v.level + 1) p.parent) ≡ true → entries_hold p v b ≡ true
    → keys_hold o p lower upper (entries_from v b 0 v.nkeys) ≡ true → read_node o p lower upper b ≡ ok (on_disk v b)
unfolding line keys_hold
passes o p lower upper b v e h3 h4 h5 h6 h7 h8 h9 = sym (node_line o p lower upper b v (sym e)) ∙ rw (h3, h4, h5, h6, h7, h8, h9)

-- an answer that means this node
answered : (b : List ℕ) (r : std.Result Node Refusal) (v : Node) (es : List Entry) → read_of b r ≡ ok (record { node = v; entries = es }) → r ≡ Ok v
unfolding read_of on_disk
answered b (Err n) v es h = cc
answered b (Ok u) v es h =
    let d : on_disk u b ≡ record { node = v; entries = es } = cc in
    ap (λ (x : OnDisk). Ok x.node) d

-- 6, of any node
layout_passes : (p : Place) (v : Node) → v.keys ≤ v.vals → v.level ≤ 32 → flag v.flags 2 ≡ eqb v.level 0 → flag v.flags 1 ≡ p.root
    → flag v.flags 4 ≡ is_fixed v
    → v.nkeys * cond (is_fixed v) 4 8 ≤ v.keys - v.toc → v.oid ≡ p.oid → layout_holds p v ≡ true
unfolding layout_holds flags_hold
layout_passes p v h1 h2 h3 h4 h5 h6 h7 =
    rw (
      le-leb v.keys v.vals h1,
      le-leb v.level 32 h2,
      same_true (flag v.flags 2) (eqb v.level 0) h3,
      same_true (flag v.flags 1) p.root h4,
      same_true (flag v.flags 4) (is_fixed v) h5,
      le-leb (v.nkeys * cond (is_fixed v) 4 8) (v.keys - v.toc) h6,
      eq-eqb v.oid p.oid h7,
    )

-- 8, of any node
entries_pass : (p : Place) (v : Node) (b : List ℕ) → spans_hold v b 0 v.nkeys ≡ true → spans_length v b 0 v.nkeys ≤ data_space (length b) p.root
    → (not (eqb v.nkeys 0) || p.root && eqb v.level 0) ≡ true → entries_hold p v b ≡ true
unfolding entries_hold
entries_pass p v b h1 h2 h3 = and_both _ _ (and_both _ _ h1 (le-leb (spans_length v b 0 v.nkeys) (data_space (length b) p.root) h2)) h3

-- ---- one of the entries

-- the entry after those of pre
from_at : (v : Node) (b : List ℕ) (pre : List Entry) (e : Entry) (post : List Entry) (i : ℕ) → entries_from v b i (length (pre ++ e ∷ post)) ≡ pre
    ++ e ∷ post
    → entry_at v b (i + length pre) ≡ e
unfolding entries_from
from_at v b [] e post i h =
    let f : entry_at v b i ≡ e = cc in
    ap (entry_at v b) (add-zero i) ∙ f
from_at v b (x ∷ pre) e post i h =
    let f : entries_from v b (suc i) (length (pre ++ e ∷ post)) ≡ pre ++ e ∷ post = cc in
    let n : i + suc (length pre) ≡ suc i + length pre = omega arith in
    ap (entry_at v b) n ∙ from_at v b pre e post (suc i) f

-- a span with a value is no ghost's
no_ghost : (v : Node) (b : List ℕ) (s : Span) (x : List ℕ) → value_at v b s ≡ leaf x → is_ghost s ≡ false
unfolding value_at
no_ghost v b s x = go (is_ghost s)
  where
    rest : Val
    rest = cond (eqb v.level 0) (leaf (window (v.vals - s.voff) s.vlen b)) (disk (u64_at b (v.vals - s.voff)))

    go : (g : Bool) → cond g ghost rest ≡ leaf x → g ≡ false
    go true h = cc
    go false h = refl

-- ---- each check

module _ (o : ℕ) (p : Place) (lower upper : List ℕ) (b : NodeBuild) (es : List Entry) (c : Packable o p lower upper b es) where
  least_96 : 96 ≤ b.info.node_size
  least_96 = let h = c.info.sized.least in omega arith

  -- 5
  hashed_clear : flag (packed_node b es).flags 8 ≡ false
  unfolding packed_node node_flags
  hashed_clear = (flags_told b.root (eqb b.level 0) (fixed b.info)).3

  -- 6
  slots_enough : length es * cond (is_fixed (packed_node b es)) 4 8 ≤ (packed_node b es).keys - (packed_node b es).toc
  unfolding packed_node contents_of slot_width
  slots_enough =
      let h = toc_short b es least_96 c.fit in
      let e : is_fixed (packed_node b es) ≡ fixed b.info = fixed_is (packed_node b es) b.info refl in
      subst (λ (q : Bool). length es * cond q 4 8 ≤ 56 + contents_of b es - 56) (sym e) (omega arith)

  area_short : (packed_node b es).keys ≤ (packed_node b es).vals
  unfolding packed_node contents_of
  area_short = let h = filled b es least_96 c.fit in omega arith

  layout_holds_lem : layout_holds p (packed_node b es) ≡ true
  unfolding packed_node node_flags
  layout_holds_lem =
      let f = flags_told b.root (eqb b.level 0) (fixed b.info) in
      layout_passes p (packed_node b es) area_short c.head.level f.1 (f.0 ∙ sym c.root)
      (f.2 ∙ sym (fixed_is (packed_node b es) b.info refl)) slots_enough (sym c.oid)

  -- 7
  level_holds : (p.root || eqb ((packed_node b es).level + 1) p.parent) ≡ true
  unfolding packed_node
  level_holds = ap (λ (q : Bool). q || eqb (b.level + 1) p.parent) c.root ∙ go b.root refl
    where
      go : (r : Bool) → b.root ≡ r → (r || eqb (b.level + 1) p.parent) ≡ true
      go true e = refl
      go false e = eq-eqb (b.level + 1) p.parent (sym (c.below e).parent)

  -- the entries that are read
  back : Entries-back b.info (packed_node b es) (pack_node b es) 0 es
  unfolding packed_node contents_of
  back =
      let t : BTreeInfo = b.info in
      let h = filled b es least_96 c.fit in
      let n = length_pack_node b es least_96 c.fit in
      let m = c.info.sized.most in
      let at_toc : 56 ≡ 56 + 0 * slot_width t = omega arith in
      let at_keys : 56 + contents_of b es ≡ 56 + contents_of b es + 0 = omega arith in
      let at_values : b.info.node_size - cond b.root 40 0 - values_length t es ≡ b.info.node_size - cond b.root 40 0 -
      (0 + values_length t es) = omega arith in
      entries_back t (packed_node b es) (pack_node b es) refl refl (omega arith) (omega arith) (omega arith) es 0 0 0 c.suited
      (subst (λ (i : ℕ). Stands (pack_node b es) i (toc t 0 0 es)) at_toc (stands_toc b es least_96 c.fit))
      (subst (λ (i : ℕ). Stands (pack_node b es) i (key_area t es)) at_keys (stands_keys b es least_96 c.fit))
      (subst (λ (i : ℕ). Stands (pack_node b es) i (value_area t es)) at_values (stands_values b es least_96 c.fit)) (omega arith)

  -- 8
  entries_hold_lem : entries_hold p (packed_node b es) (pack_node b es) ≡ true
  unfolding packed_node
  entries_hold_lem =
      let n = length_pack_node b es least_96 c.fit in
      let s : toc_length b.info b.root b.level (length es) + (keys_length b.info es + values_length b.info es) ≤ data_space
      (length (pack_node b es)) p.root =
      subst₂ (λ (k : ℕ) (r : Bool). toc_length b.info b.root b.level (length es) + (keys_length b.info es + values_length b.info es)
      ≤ data_space k r) (sym n) (sym c.root)
      (fits_space b.info b.root b.level es c.fit) in
      let f = back.short in
      entries_pass p (packed_node b es) (pack_node b es) back.holds (omega arith)
      (ap (λ (r : Bool). not (eqb (length es) 0) || r && eqb b.level 0) c.root ∙ c.filled)

  -- 9
  keys_hold_lem : keys_hold o p lower upper (entries_from (packed_node b es) (pack_node b es) 0 (length es)) ≡ true
  keys_hold_lem = ap (keys_hold o p lower upper) back.same ∙ c.keys

  -- ---- the theorem

  -- a packed node loads to itself: no refusal, the node's numbers are those it was packed from, and its entries are the entries
  pub loads_back : read_node o p lower upper (pack_node b es) ≡ ok (record { node = packed_node b es; entries = es })
  unfolding packed_node on_disk
  loads_back =
      passes o p lower upper (pack_node b es) (packed_node b es)
      (parsed_back b es c.info.sized c.head c.fit p c.info c.root c.below)
      (packed_verified b es least_96 c.fit c.info.words) c.head.kind
      hashed_clear layout_holds_lem level_holds entries_hold_lem keys_hold_lem
      ∙ ap (λ (xs : List Entry). ok (record { node = packed_node b es; entries = xs })) back.same

  -- so a reader that answers as `read_node` says has loaded that node
  pub loaded_back : (r : std.Result Node Refusal) → read_of (pack_node b es) r ≡ read_node o p lower upper (pack_node b es)
      → r ≡ Ok (packed_node b es)
  loaded_back r e = answered (pack_node b es) r (packed_node b es) es (e ∙ loads_back)

  -- the tree info of a packed root is the one it was packed from
  pub info_loads_back : b.root ≡ true → info_at (pack_node b es) ≡ b.info
  info_loads_back = info_back b es c.info.sized c.head c.fit c.info

  -- ---- what follows

  -- the entry after the entries pre is the one packed there
  pub entry_loads_back : (pre : List Entry) (e : Entry) (post : List Entry) → es ≡ pre ++ e ∷ post → entry_at (packed_node b es) (pack_node b es)
      (length pre) ≡ e
  entry_loads_back pre e post eq =
      ap (entry_at (packed_node b es) (pack_node b es)) (sym (zero-add (length pre)))
      ∙ from_at (packed_node b es) (pack_node b es) pre e post 0
      (subst (λ (xs : List Entry). entries_from (packed_node b es) (pack_node b es) 0 (length xs) ≡ xs) eq back.same)

  -- an empty value is no ghost, and comes back as one that is empty
  pub empty_loads_back : (pre : List Entry) (k : List ℕ) (post : List Entry) → es ≡ pre ++ record { key = k; value = leaf [] } ∷ post
      → (is_ghost (span_at (packed_node b es) (pack_node b es) (length pre)) ≡ false)
      × ((entry_at (packed_node b es) (pack_node b es) (length pre)).value ≡ leaf [])
  unfolding entry_at
  empty_loads_back pre k post eq =
      let v : Node = packed_node b es in
      let x : value_at v (pack_node b es) (span_at v (pack_node b es) (length pre)) ≡ leaf [] = ap (λ (e : Entry). e.value)
      (entry_loads_back pre (record { key = k; value = leaf [] }) post eq) in
      (no_ghost v (pack_node b es) (span_at v (pack_node b es) (length pre)) [] x, x)
