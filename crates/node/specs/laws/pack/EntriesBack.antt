-- Laws of the entries of a packed node: each span is read back from the contents, lies in the block, and gives its entry. Assumes nothing.
use Rattle.std.specs.Prelude.{◌≡◌, ◌||◌, replicate, ltb}
use Rattle.std.proofs.Math.Path.{refl, ap, ap₂, subst}
use Rattle.std.proofs.Common.{sym, subst₂, ◌∙◌, add-zero}
use mathlib.Core.List.{List, [], ◌∷◌, ◌++◌, append_assoc, append-nil}
use Rattle.std.proofs.Math.Bool.{Bool, true, false, cond, not}
use Prim.Native.Nat.{ℕ, suc, ◌+◌, ◌-◌, ◌*◌, ◌^◌, ◌≤◌, ◌<◌}
use native.Mathlib.Omega.{arith}
use Rattle.std.proofs.Math.ListN.{length}
use Rattle.std.proofs.Math.Dec.{eqb}
use borrow.Author.Tests.{le-leb, eq-eqb, ne_eqb, eqb-true, ltb-true, not-true}
use Rattle.seal.specs.Bytes.{window, bytes_of, u16_at, u64_at}
use Rattle.node.specs.Entry.{Entry, Val, ghost, leaf, disk, mem, value_length, value_bytes, every}
use Rattle.node.specs.Fit.{padded, fixed, fixed_value, slot_width, keys_length, values_length}
use Rattle.node.specs.Pack.{pad_to, value_offset, toc_entry, toc, key_area, value_area}
use Rattle.node.specs.Read.{is_fixed, span_at, is_ghost, span_holds, span_length, spans_hold, spans_length, value_at, entry_at, entries_from}
use Rattle.node.specs.internal.Packable.{value_suits, suits}
use Rattle.node.specs.laws.pack.Parts.{Stands, stands_left, stands_after, stands_field, fields, Read, table_read}
use Rattle.node.specs.laws.base.Tests.{never, and_both, and_left, and_right, or_right}
use Rattle.node.specs.laws.slot.Records.{length_value_bytes}
use Rattle.node.specs.laws.fit.Fit.{padded_least}
use Rattle.node.specs.laws.pack.Layout.{length_pad_to, length_toc_entry, length_value_area}
use Rattle.node.specs.declared.info.BTreeInfo.{BTreeInfo}
use Rattle.node.specs.declared.read.Node.{Node}
use Rattle.node.specs.declared.read.Span.{Span}

pub fixed_is : (v : Node) (t : BTreeInfo) → v.ksize ≡ t.key_size → is_fixed v ≡ fixed t
unfolding is_fixed fixed
fixed_is v t e = ap (λ (n : ℕ). not (eqb n 0)) e ∙ go (eqb t.key_size 0)
  where
    go : (q : Bool) → not q ≡ cond q false true
    go true = refl
    go false = refl

-- ---- a span that lies in the block, and its value

module _ (v : Node) (size : ℕ) (s : Span) (room : s.key + s.klen ≤ size) where
  holds_ghost : is_ghost s ≡ true → eqb v.level 0 ≡ true → span_holds v size s ≡ true
  unfolding span_holds
  holds_ghost g l = rw (le-leb (s.key + s.klen) size room, g, l)

  module _ (g : is_ghost s ≡ false) (in_area_lem : s.voff ≤ v.vals) (in_block : v.vals - s.voff + s.vlen ≤ size) where
    holds_leaf : eqb v.level 0 ≡ true → span_holds v size s ≡ true
    unfolding span_holds
    holds_leaf l = rw (
      le-leb (s.key + s.klen) size room,
      g,
      le-leb s.voff v.vals in_area_lem,
      le-leb (v.vals - s.voff + s.vlen) size in_block,
      l,
    )

    holds_child : eqb v.level 0 ≡ false → s.vlen ≡ 8 → span_holds v size s ≡ true
    unfolding span_holds
    holds_child l e =
        rw (
          le-leb (s.key + s.klen) size room,
          g,
          le-leb s.voff v.vals in_area_lem,
          le-leb (v.vals - s.voff + s.vlen) size in_block,
          l,
          eq-eqb s.vlen 8 e,
        )

module _ (v : Node) (b : List ℕ) (s : Span) where
  value_ghost : is_ghost s ≡ true → value_at v b s ≡ ghost
  unfolding value_at
  value_ghost g = rw g

  value_leaf : (x : List ℕ) → is_ghost s ≡ false → eqb v.level 0 ≡ true → window (v.vals - s.voff) s.vlen b ≡ x → value_at v b s ≡ leaf x
  unfolding value_at
  value_leaf x g l w = rw (g, l, w)

  value_child : (r : ℕ) → is_ghost s ≡ false → eqb v.level 0 ≡ false → u64_at b (v.vals - s.voff) ≡ r → value_at v b s ≡ disk r
  unfolding value_at
  value_child r g l w = rw (g, l, w)

-- ---- the span of an entry

-- the fields of a contents slot
two_table : (x y : ℕ) → bytes_of 2 x ++ bytes_of 2 y ≡ fields ((2, x) ∷ (2, y) ∷ [])
unfolding fields
two_table x y = simp append-nil

four_table : (x y z u : ℕ) → bytes_of 2 x ++ bytes_of 2 y ++ bytes_of 2 z ++ bytes_of 2 u ≡ fields ((2, x) ∷ (2, y) ∷ (2, z) ∷ (2, u) ∷ [])
unfolding fields
four_table x y z u = simp (append_assoc, append-nil)

two_read : (b : List ℕ) (i x y : ℕ) → Stands b i (bytes_of 2 x ++ bytes_of 2 y) → Read b i 0 ((2, x) ∷ (2, y) ∷ [])
two_read b i x y s = table_read b i 0 ((2, x) ∷ (2, y) ∷ []) (subst₂ (λ (n : ℕ) (l : List ℕ). Stands b n l) (sym (add-zero i)) (two_table x y) s)

four_read : (b : List ℕ) (i x y z u : ℕ) → Stands b i (bytes_of 2 x ++ bytes_of 2 y ++ bytes_of 2 z ++ bytes_of 2 u)
    → Read b i 0 ((2, x) ∷ (2, y) ∷ (2, z) ∷ (2, u) ∷ [])
four_read b i x y z u s = table_read b i 0 ((2, x) ∷ (2, y) ∷ (2, z) ∷ (2, u) ∷ [])
    (subst₂ (λ (n : ℕ) (l : List ℕ). Stands b n l) (sym (add-zero i)) (four_table x y z u) s)

-- where an entry of this key and value lies, as the contents say
unfoldable pub span_of : BTreeInfo → Node → ℕ → ℕ → List ℕ → Val → Span
span_of t v ko vo k w =
    record { key = v.keys + ko; klen = length k; voff = value_offset w vo; vlen = cond (fixed t) (fixed_value t v.level) (value_length w) }

-- the length that is read is the value's
stored_leaf : (t : BTreeInfo) (level : ℕ) (x : List ℕ) → value_suits t level (leaf x) ≡ true → cond (fixed t) (fixed_value t level)
    (length x) ≡ length x
unfolding value_suits fixed_value
stored_leaf t level x h = go (fixed t) (and_right (eqb level 0) (not (fixed t) || eqb (length x) t.val_size) h)
  where
    l : eqb level 0 ≡ true
    l = and_left (eqb level 0) (not (fixed t) || eqb (length x) t.val_size) h

    go : (q : Bool) → (not q || eqb (length x) t.val_size) ≡ true → cond q (cond (eqb level 0) t.val_size 8) (length x) ≡ length x
    go true f = rw l (sym (eqb-true (length x) t.val_size f))
    go false f = refl

stored_child : (t : BTreeInfo) (level : ℕ) → eqb level 0 ≡ false → cond (fixed t) (fixed_value t level) 8 ≡ 8
unfolding fixed_value
stored_child t level l = rw l (go (fixed t))
  where
    go : (q : Bool) → cond {A = ℕ} q 8 8 ≡ 8
    go true = refl
    go false = refl

leaf_level : (t : BTreeInfo) (level : ℕ) (x : List ℕ) → value_suits t level (leaf x) ≡ true → eqb level 0 ≡ true
unfolding value_suits
leaf_level t level x h = and_left (eqb level 0) (not (fixed t) || eqb (length x) t.val_size) h

child_level : (t : BTreeInfo) (level r : ℕ) → value_suits t level (disk r) ≡ true → eqb level 0 ≡ false
unfolding value_suits
child_level t level r h = not-true (eqb level 0) (and_left (not (eqb level 0)) (ltb r (2 ^ 64)) h)

child_small : (t : BTreeInfo) (level r : ℕ) → value_suits t level (disk r) ≡ true → r < 2 ^ 64
unfolding value_suits
child_small t level r h = ltb-true r (2 ^ 64) (and_right (not (eqb level 0)) (ltb r (2 ^ 64)) h)

-- what is shown of entry i
record Entry-back (t : BTreeInfo) (v : Node) (b : List ℕ) (i : ℕ) (k : List ℕ) (w : Val) : Type 0 where
  holds : span_holds v (length b) (span_at v b i) ≡ true
  short : span_length (span_at v b i) ≤ padded t (length k) + padded t (value_length w)
  same : entry_at v b i ≡ record { key = k; value = w }

-- what is shown of the entries from i on
pub record Entries-back (t : BTreeInfo) (v : Node) (b : List ℕ) (i : ℕ) (es : List Entry) : Type 0 where
  pub holds : spans_hold v b i (length es) ≡ true
  pub short : spans_length v b i (length es) ≤ keys_length t es + values_length t es
  pub same : entries_from v b i (length es) ≡ es

module _ (t : BTreeInfo) (v : Node) (b : List ℕ) (ks : v.ksize ≡ t.key_size) (vs : v.vsize ≡ t.val_size) where
  span_back : (i ko vo : ℕ) (k : List ℕ) (w : Val) → Stands b (v.toc + i * slot_width t) (toc_entry t ko vo (record { key = k; value = w }))
      → ko < 65536 → length k < 65536 → value_offset w vo < 65536 → value_length w < 65536 → (fixed t ≡ true → length k ≡ t.key_size)
      → span_at v b i ≡ span_of t v ko vo k w
  unfolding span_at span_of toc_entry slot_width fixed_value
  span_back i ko vo k w s hko hk hvo hv len = ap (λ (q : Bool). cond q short long) (fixed_is v t ks) ∙ go (fixed t) refl s
    where
      f : ℕ
      f = v.toc + i * 4

      e : ℕ
      e = v.toc + i * 8

      short : Span
      short = record { key = v.keys + u16_at b f; klen = v.ksize; voff = u16_at b (f + 2); vlen = cond (eqb v.level 0) v.vsize 8 }

      long : Span
      long = record { key = v.keys + u16_at b e; klen = u16_at b (e + 2); voff = u16_at b (e + 4); vlen = u16_at b (e + 6) }

      go : (q : Bool) → fixed t ≡ q
          → Stands b (v.toc + i * cond q 4 8)
          (cond q
          (bytes_of 2 ko ++ bytes_of 2 (value_offset w vo))
          (bytes_of 2 ko ++ bytes_of 2 (length k) ++ bytes_of 2 (value_offset w vo) ++ bytes_of 2 (value_length w)))
          → cond q short long ≡ record {
            key = v.keys + ko;
            klen = length k;
            voff = value_offset w vo;
            vlen = cond q (cond (eqb v.level 0) t.val_size 8) (value_length w);
          }
      go true p st =
          let r = two_read b f ko (value_offset w vo) st in
          let key : v.keys + u16_at b f ≡ v.keys + ko = ap (λ (n : ℕ). v.keys + n) (ap (u16_at b) (sym (add-zero f)) ∙ r.0 hko) in
          let klen : v.ksize ≡ length k = ks ∙ sym (len p) in
          let voff : u16_at b (f + 2) ≡ value_offset w vo = r.1.0 hvo in
          let vlen : cond (eqb v.level 0) v.vsize 8 ≡ cond (eqb v.level 0) t.val_size 8 = ap
          (λ (n : ℕ). cond (eqb v.level 0) n 8) vs in
          λ j. record { key = key j; klen = klen j; voff = voff j; vlen = vlen j }
      go false p st =
          let r = four_read b e ko (length k) (value_offset w vo) (value_length w) st in
          let key : v.keys + u16_at b e ≡ v.keys + ko = ap (λ (n : ℕ). v.keys + n) (ap (u16_at b) (sym (add-zero e)) ∙ r.0 hko) in
          let klen : u16_at b (e + 2) ≡ length k = r.1.0 hk in
          let voff : u16_at b (e + 4) ≡ value_offset w vo = r.1.1.0 hvo in
          let vlen : u16_at b (e + 6) ≡ value_length w = r.1.1.1.0 hv in
          λ j. record { key = key j; klen = klen j; voff = voff j; vlen = vlen j }

  -- ---- one entry

  module _ (i ko vo : ℕ) (k : List ℕ) (suit : fixed t ≡ true → length k ≡ t.key_size) (kb : Stands b (v.keys + ko) k)
      (start : 56 ≤ v.keys) (most : v.vals ≤ 65480 + 56) (block : v.vals ≤ length b) where
    -- of a span that is known
    from_span : (w : Val) → let s : Span = span_of t v ko vo k w in span_at v b i ≡ s → span_holds v (length b) s ≡ true
        → span_length s ≤ padded t (length k) + padded t (value_length w) → value_at v b s ≡ w → Entry-back t v b i k w
    unfolding entry_at span_of
    from_span w e h n x =
        record {
          holds = ap (span_holds v (length b)) e ∙ h;
          short = subst (λ (s : Span). span_length s ≤ padded t (length k) + padded t (value_length w)) (sym e) n;
          same = ap (λ (s : Span). record { key = window s.key s.klen b; value = value_at v b s }) e
              ∙ (λ j. record { key = kb.there j; value = x j });
        }

    entry_back : (w : Val) → value_suits t v.level w ≡ true → Stands b (v.toc + i * slot_width t) (toc_entry t ko vo (record { key = k; value = w }))
        → Stands b (v.vals - vo) (value_bytes w) → v.keys + ko + padded t (length k) + vo ≤ v.vals → value_length w ≤ vo → Entry-back t v b i k w
    unfolding span_of value_suits value_length value_offset value_bytes is_ghost span_length
    entry_back ghost fit st vb room less =
        let n = padded_least t (length k) in
        let s : Span = span_of t v ko vo k ghost in
        let e : span_at v b i ≡ s = span_back i ko vo k ghost st (omega arith) (omega arith) (omega arith) (omega arith) suit in
        from_span ghost e (holds_ghost v (length b) s (omega arith) refl fit) (omega arith) (value_ghost v b s refl)
    entry_back (leaf x) fit st vb room less =
        let n = padded_least t (length k) in
        let m = padded_least t (length x) in
        let s : Span = span_of t v ko vo k (leaf x) in
        let e : span_at v b i ≡ s = span_back i ko vo k (leaf x) st (omega arith) (omega arith) (omega arith) (omega arith) suit in
        let l : s.vlen ≡ length x = stored_leaf t v.level x fit in
        let g : is_ghost s ≡ false = ne_eqb vo 0xFFFF (λ q. omega arith) in
        let z : eqb v.level 0 ≡ true = leaf_level t v.level x fit in
        let c : span_length s ≡ length k + length x = rw g (ap (λ (a : ℕ). length k + a) l) in
        from_span (leaf x) e (holds_leaf v (length b) s (omega arith) g (omega arith) (omega arith) z) (omega arith)
        (value_leaf v b s x g z (ap (λ (a : ℕ). window (v.vals - vo) a b) l ∙ vb.there))
    entry_back (disk r) fit st vb room less =
        let n = padded_least t (length k) in
        let m = padded_least t 8 in
        let s : Span = span_of t v ko vo k (disk r) in
        let e : span_at v b i ≡ s = span_back i ko vo k (disk r) st (omega arith) (omega arith) (omega arith) (omega arith) suit in
        let z : eqb v.level 0 ≡ false = child_level t v.level r fit in
        let l : s.vlen ≡ 8 = stored_child t v.level z in
        let g : is_ghost s ≡ false = ne_eqb vo 0xFFFF (λ q. omega arith) in
        let c : span_length s ≡ length k + 8 = rw g (ap (λ (a : ℕ). length k + a) l) in
        from_span (disk r) e (holds_child v (length b) s (omega arith) g (omega arith) (omega arith) z l) (omega arith)
        (value_child v b s r g z (stands_field b (v.vals - vo) 8 r vb (child_small t v.level r fit)))
    entry_back (mem s) fit st vb room less = never fit refl

  -- ---- all entries

  module _ (start : 56 ≤ v.keys) (most : v.vals ≤ 65480 + 56) (block : v.vals ≤ length b) where
    -- from i on, where keys lie from ko on and values before vo
    pub entries_back : (es : List Entry) (i ko vo : ℕ) → every (suits t v.level) es ≡ true → Stands b (v.toc + i * slot_width t) (toc t ko vo es)
        → Stands b (v.keys + ko) (key_area t es) → Stands b (v.vals - (vo + values_length t es)) (value_area t es)
        → v.keys + (ko + keys_length t es) + (vo + values_length t es) ≤ v.vals → Entries-back t v b i es
    unfolding every suits toc key_area value_area keys_length values_length spans_hold spans_length entries_from pad_to
    entries_back [] i ko vo fit st kb vb room = record { holds = refl; short = omega arith; same = refl }
    entries_back (e ∷ es) i ko vo fit st kb vb room =
        let k : List ℕ = e.key in
        let w : Val = e.value in
        let n : ℕ = padded t (length k) in
        let m : ℕ = padded t (value_length w) in
        let vo' : ℕ = vo + m in
        let vl : ℕ = values_length t es in
        let nk = padded_least t (length k) in
        let mw = padded_least t (value_length w) in
        let lw = length_value_bytes w in
        let keyed : Bool = not (fixed t) || eqb (length k) t.key_size in
        let suit : suits t v.level e ≡ true = and_left (suits t v.level e) (every (suits t v.level) es) fit in
        let suit_key : fixed t ≡ true → length k ≡ t.key_size =
        λ (q : fixed t ≡ true). eqb-true (length k) t.key_size
        (or_right (not (fixed t)) (eqb (length k) t.key_size) (ap not q) (and_left keyed (value_suits t v.level w) suit)) in
        let rest_fit : every (suits t v.level) es ≡ true = and_right (suits t v.level e) (every (suits t v.level) es) fit in
        let slot : List ℕ = toc_entry t ko vo' e in
        let slots : List ℕ = toc t (ko + n) vo' es in
        let kbytes : List ℕ = pad_to n k in
        let vbytes : List ℕ = pad_to m (value_bytes w) in
        let here : Stands b (v.vals - (vo + (m + vl)) + vl) vbytes =
        stands_after b (v.vals - (vo + (m + vl))) vl (v.vals - (vo + (m + vl)) + vl) (value_area t es) vbytes (length_value_area t es) refl vb in
        let at_vo : v.vals - (vo + (m + vl)) + vl ≡ v.vals - vo' = omega arith in
        let at_rest : v.vals - (vo + (m + vl)) ≡ v.vals - (vo' + vl) = omega arith in
        let at_slot : v.toc + i * slot_width t + slot_width t ≡ v.toc + suc i * slot_width t = omega arith in
        let one =
        entry_back i ko vo' k suit_key (stands_left b (v.keys + ko) k (replicate (n - length k) 0)
        (stands_left b (v.keys + ko) kbytes (key_area t es) kb)) start most block w
        (and_right keyed (value_suits t v.level w) suit) (stands_left b (v.toc + i * slot_width t) slot slots st)
        (stands_left b (v.vals - vo') (value_bytes w) (replicate (m - length (value_bytes w)) 0) (subst (λ (a : ℕ). Stands b a vbytes) at_vo here))
        (omega arith) (omega arith) in
        let all =
        entries_back es (suc i) (ko + n) vo' rest_fit
        (stands_after b (v.toc + i * slot_width t) (slot_width t) (v.toc + suc i * slot_width t) slot slots (length_toc_entry t ko vo' e) at_slot st)
        (stands_after b (v.keys + ko) n (v.keys + (ko + n)) kbytes (key_area t es) (length_pad_to n k nk) (omega arith) kb)
        (subst (λ (a : ℕ). Stands b a (value_area t es)) at_rest (stands_left b (v.vals - (vo + (m + vl))) (value_area t es) vbytes vb))
        (omega arith) in
        let f = one.short in
        let g = all.short in
        record {
          holds = and_both (span_holds v (length b) (span_at v b i)) (spans_hold v b (suc i) (length es)) one.holds all.holds;
          short = omega arith;
          same = ap₂ (λ (x : Entry) (xs : List Entry). x ∷ xs) one.same all.same;
        }
