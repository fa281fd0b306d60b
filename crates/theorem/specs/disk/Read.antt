-- A node that was read from a disk of bytes: its level, its keys and its values are those of the tree; it names no slot. Assumes nothing.
use Rattle.std.specs.Prelude.{◌≡◌, refl, Bool, cond, ◌&&◌, ◌||◌, leb}
use Rattle.std.proofs.Math.Path.{ap}
use Rattle.std.proofs.Common.{◌∙◌, arith}
use mathlib.Core.List.{List, [], ◌∷◌}
use Rattle.std.proofs.Math.Bool.{true, false, not}
use Prim.Native.Nat.{ℕ, zero, suc, ◌-◌, ◌*◌, ◌^◌, ◌≤◌, ◌<◌}
use Rattle.std.proofs.Math.ListN.{length}
use Rattle.std.proofs.Math.Dec.{eqb}
use borrow.Author.Tests.{eqb-true, eqb-false, eq-eqb, ne_eqb}
use Rattle.seal.specs.Bytes.{window, u64_at}
use Rattle.node.specs.Result.{ok}
use Rattle.node.specs.Order.{keyed}
use Rattle.node.specs.Entry.{Entry, ghost, leaf, disk, rising, every, value_bytes}
use Rattle.node.specs.Fit.{data_space}
use Rattle.node.specs.Read.{OnDisk, on_disk, parsed, is_fixed, is_ghost, flags_hold, layout_holds, span_at, span_holds, spans_hold, spans_length, entries_hold}
use Rattle.node.specs.Read.{value_at, entry_at, entries_from, keys_rise, keys_within, keys_hold, read_node}
use Rattle.node.specs.laws.base.Bytes.{Bytes, bytes_nil, bytes_window, field_below}
use Rattle.node.specs.laws.base.Tests.{by_test, never, and_split, and_left, and_right, or_right}
use Rattle.node.specs.laws.read.LoadLine.{layout_level, entries_filled}
use Rattle.node.specs.laws.read.Loaded.{Passed, read_passed, entries_length, Held, span_held, span_fixed, entry_key}
use Rattle.node.specs.declared.read.Node.{Node}
use Rattle.node.specs.declared.read.Span.{Span}
use Rattle.node.specs.Place.{Place}
use Rattle.seal.specs.laws.WindowLaws.{length_window}
use Rattle.theorem.specs.model.Bounds.{Terms, KeyOk, ValueOk, value_sized}
use Rattle.theorem.specs.disk.Walk.{AllDisk}

-- ---- each entry

-- what is so of each entry
abbrev pub Every : (Entry → Type 0) → List Entry → Type 0
Every P [] = Unit {0}
Every P (e ∷ es) = P e × Every P es

-- what a span that holds says of its entry, of all entries
every_from : (P : Entry → Type 0) (v : Node) (b : List ℕ) → ((i : ℕ) → span_holds v (length b) (span_at v b i) ≡ true → P (entry_at v b i))
    → (i n : ℕ)
    → spans_hold v b i n ≡ true → Every P (entries_from v b i n)
unfolding entries_from spans_hold
every_from P v b f i zero h = tt
every_from P v b f i (suc n) h =
    let (p, q) = and_split (span_holds v (length b) (span_at v b i)) (spans_hold v b (suc i) n) h in
    (f i p, every_from P v b f (suc i) n q)

-- what follows from a test that passes on every entry
every_given : (P : Entry → Type 0) (t : Entry → Bool) (es : List Entry) → Every (λ e. t e ≡ true → P e) es → every t es ≡ true → Every P es
unfolding every
every_given P t [] f h = tt
every_given P t (e ∷ es) f h =
    let (p, q) = and_split (t e) (every t es) h in
    (f.0 p, every_given P t es f.1 q)

-- a child on disk, by a number of 8 bytes
pub record Kid (e : Entry) : Type 0 where
  pub number : ℕ
  pub value : e.value ≡ disk number
  pub small : number < 2 ^ 64

pub kids_disk : (es : List Entry) → Every Kid es → AllDisk es
kids_disk [] h = tt
kids_disk (e ∷ es) h = ((h.0.number, h.0.value), kids_disk es h.1)

-- ---- a node that was read

pub record Sound (τ : Terms) (root : Bool) (r : ℕ) (d : OnDisk) : Type 0 where
  pub oid : d.node.oid ≡ r
  pub deep : d.node.level ≤ 32
  -- only a root that is a leaf may be empty
  pub filled : root ≡ false → 1 ≤ length d.entries
  pub index : 1 ≤ d.node.level → 1 ≤ length d.entries
  pub keys : Every (λ e. KeyOk τ e.key) d.entries
  pub values : d.node.level ≡ 0 → Every (λ e. ValueOk τ e.value) d.entries
  pub kids : 1 ≤ d.node.level → Every Kid d.entries
  pub rise : rising τ.order d.entries ≡ true

module _ (τ : Terms) (v : Node) (b : List ℕ) (bb : Bytes b) (small : length b ≤ τ.most) (ks : v.ksize ≡ τ.ksize) (vs : v.vsize ≡ τ.vsize) where
  fixed_node : eqb τ.ksize 0 ≡ false → is_fixed v ≡ true
  unfolding is_fixed
  fixed_node t = ap (λ (z : ℕ). not (eqb z 0)) ks ∙ ap not t

  key_fixed : (i : ℕ) → Held v (length b) (span_at v b i) → (eqb τ.ksize 0 || eqb (length (entry_at v b i).key) τ.ksize) ≡ true
  key_fixed i h =
      by_test (eqb τ.ksize 0)
      (λ t. rw t)
      (λ t. rw t (eq-eqb (length (entry_at v b i).key) τ.ksize (entry_key v b i h ∙ (span_fixed v b i (fixed_node t)).0 ∙ ks)))

  key_ok : (i : ℕ) → span_holds v (length b) (span_at v b i) ≡ true → keyed τ.order (entry_at v b i).key ≡ true → KeyOk τ (entry_at v b i).key
  unfolding entry_at
  key_ok i h k =
      let g : Held v (length b) (span_at v b i) = span_held v (length b) (span_at v b i) h in
      record {
        key = record { holds = k; bytes = bytes_window (span_at v b i).key (span_at v b i).klen b bb };
        short = omega (arith, entry_key v b i g, g.key);
        fixed = key_fixed i g;
      }

  -- a leaf's value
  leaf_sized : (i : ℕ) (x : List ℕ) → eqb v.level 0 ≡ true → length x ≡ (span_at v b i).vlen → (eqb τ.ksize 0 || eqb (length x) τ.vsize) ≡ true
  leaf_sized i x z q =
      by_test (eqb τ.ksize 0)
      (λ t. rw t)
      (λ t. rw t (eq-eqb (length x) τ.vsize (q ∙ (span_fixed v b i (fixed_node t)).1 z ∙ vs)))

  ghost_ok : ValueOk τ ghost
  unfolding value_sized value_bytes
  ghost_ok = record { sized = refl; bytes = bytes_nil }

  leaf_ok : (x : List ℕ) → (eqb τ.ksize 0 || eqb (length x) τ.vsize) ≡ true → Bytes x → ValueOk τ (leaf x)
  unfolding value_sized value_bytes
  leaf_ok x h k = record { sized = h; bytes = k }

  value_ok : v.level ≡ 0 → (i : ℕ) → span_holds v (length b) (span_at v b i) ≡ true → ValueOk τ (entry_at v b i).value
  unfolding entry_at value_at
  value_ok z i h =
      let s : Span = span_at v b i in
      let g : Held v (length b) s = span_held v (length b) s h in
      let w : eqb v.level 0 ≡ true = eq-eqb v.level 0 z in
      by_test (is_ghost s)
      (λ t. rw t ghost_ok)
      (λ t.
      let x : List ℕ = window (v.vals - s.voff) s.vlen b in
      let n : length x ≡ s.vlen = length_window (v.vals - s.voff) s.vlen b (g.value t) in
      rw (t, w) (leaf_ok x (leaf_sized i x w n) (bytes_window (v.vals - s.voff) s.vlen b bb)))

  kid_ok : eqb v.level 0 ≡ false → (i : ℕ) → span_holds v (length b) (span_at v b i) ≡ true → Kid (entry_at v b i)
  unfolding entry_at value_at
  kid_ok z i h =
      let s : Span = span_at v b i in
      let t : is_ghost s ≡ false = (span_held v (length b) s h).child z in
      record { number = u64_at b (v.vals - s.voff); value = rw (t, z); small = field_below 8 b (v.vals - s.voff) bb }

-- a place's id and level, its entries filled
layout_oid : (p : Place) (v : Node) → layout_holds p v ≡ true → v.oid ≡ p.oid
unfolding layout_holds
layout_oid p v h =
    let t : Bool = leb (v.nkeys * cond (is_fixed v) 4 8) (v.keys - v.toc) in
    eqb-true v.oid p.oid (and_right (leb v.keys v.vals && leb v.level 32 && flags_hold p v && t) (eqb v.oid p.oid) h)

entries_held : (p : Place) (v : Node) (b : List ℕ) → entries_hold p v b ≡ true → spans_hold v b 0 v.nkeys ≡ true
unfolding entries_hold
entries_held p v b h =
    let s : Bool = spans_hold v b 0 v.nkeys in
    let t : Bool = leb (spans_length v b 0 v.nkeys) (data_space (length b) p.root) in
    and_left s t (and_left (s && t) (not (eqb v.nkeys 0) || p.root && eqb v.level 0) h)

-- no keys: a root, and a leaf
filled_of : (root : Bool) (n level : ℕ) → (not (eqb n 0) || root && eqb level 0) ≡ true → (root ≡ false → 1 ≤ n) × (1 ≤ level → 1 ≤ n)
filled_of root n level h =
    by_test (eqb n 0)
    (λ t.
    let (r, z) = and_split root (eqb level 0) (or_right (not (eqb n 0)) (root && eqb level 0) (ap not t) h) in
    (λ q. never r q, λ q. let y = eqb-true level 0 z in omega arith))
    (λ t. let y = eqb-false n 0 t in (λ q. omega arith, λ q. omega arith))

-- entries, of any block
pub read_filled : (o : ℕ) (p : Place) (lower upper b : List ℕ) (d : OnDisk) → read_node o p lower upper b ≡ ok d
    → (p.root ≡ false → 1 ≤ length d.entries) × (1 ≤ d.node.level → 1 ≤ length d.entries)
unfolding on_disk
read_filled o p lower upper b d e =
    let h : Passed o p lower upper b d = read_passed o p lower upper b d e in
    let v : Node = parsed p b in
    let (f, g) = filled_of p.root v.nkeys v.level (entries_filled p v b h.entries) in
    let n : length (entries_from v b 0 v.nkeys) ≡ v.nkeys = entries_length v b 0 v.nkeys in
    let z : (p.root ≡ false → 1 ≤ length (on_disk v b).entries) × (1 ≤ (on_disk v b).node.level → 1 ≤ length (on_disk v b).entries) =
    (λ r. rw n (f r), λ r. rw n (g r)) in
    rw h.read z

-- the same of a root and of a child: a block of bytes, read under the tree's fixed lengths
pub read_sound : (τ : Terms) (o : ℕ) (p : Place) (lower upper b : List ℕ) (d : OnDisk) → o ≡ τ.order → Bytes b → length b ≤ τ.most
    → (parsed p b).ksize ≡ τ.ksize → (parsed p b).vsize ≡ τ.vsize → read_node o p lower upper b ≡ ok d → Sound τ p.root p.oid d
unfolding on_disk keys_hold keys_rise
read_sound τ o p lower upper b d q bb small ks vs e =
    let h : Passed o p lower upper b d = read_passed o p lower upper b d e in
    let v : Node = parsed p b in
    let es : List Entry = entries_from v b 0 v.nkeys in
    let hs : spans_hold v b 0 v.nkeys ≡ true = entries_held p v b h.entries in
    let t : Bool = every (λ (x : Entry). keyed o x.key) es in
    let (kk, rs) = and_split t (rising o es) (and_left (t && rising o es) (keys_within o p lower upper es) h.keys) in
    let each = every_from (λ x. keyed τ.order x.key ≡ true → KeyOk τ x.key) v b (key_ok τ v b bb small ks vs) 0 v.nkeys hs in
    let z : Sound τ p.root p.oid (on_disk v b) =
    record {
      oid = layout_oid p v h.layout;
      deep = layout_level p v h.layout;
      filled = rw h.read at (read_filled o p lower upper b d e).0;
      index = rw h.read at (read_filled o p lower upper b d e).1;
      keys = every_given (λ x. KeyOk τ x.key) (λ x. keyed τ.order x.key) es each (rw q at kk);
      values = λ r. every_from (λ x. ValueOk τ x.value) v b (value_ok τ v b bb small ks vs r) 0 v.nkeys hs;
      kids = λ r. every_from Kid v b (kid_ok τ v b bb small ks vs (ne_eqb v.level 0 (λ y. absurd (omega arith)))) 0 v.nkeys hs;
      rise = rw q at rs;
    } in
    rw h.read z
