-- Laws of a whole block: a cleared block with all its entries, its header and its tree info is what `pack_node` seals. Assumes nothing.
use Rattle.std.specs.Prelude.{◌≡◌, Bool, true, false, ℕ, ◌+◌, ◌-◌, ◌*◌, ◌≤◌, ◌<◌, ◌^◌, length, take, drop}
use Rattle.std.proofs.Math.Path.{refl, sym, ap}
use Rattle.std.proofs.Common.{ap₂, ◌∙◌, length-append, drop_of_length-le, length-take-le}
use mathlib.Core.List.{List, [], ◌++◌, append_assoc, append-nil, map}
use Rattle.std.proofs.Math.Bool.{cond}
use native.Mathlib.Omega.{arith}
use Rattle.std.proofs.lemmas.List.{length-map}
use Rattle.seal.specs.Bytes.{splice}
use Rattle.seal.specs.laws.PartLaws.{part_whole}
use Rattle.seal.specs.Checksum.{sealed}
use Rattle.seal.specs.Obj.{header_bytes}
use Rattle.node.specs.Entry.{Entry}
use Rattle.node.specs.Records.{records_length, entries_of}
use Rattle.node.specs.laws.slot.Records.{length_entries}
use Rattle.node.specs.Fit.{data_space, slot_width, toc_length, keys_length, values_length, fits, Sized}
use Rattle.node.specs.laws.fit.Fit.{fits_space, count_small}
use Rattle.node.specs.Pack.{child_number, numbered, pad_to, toc, key_area, value_area, head_bytes, info_bytes, pack_node}
use Rattle.node.specs.internal.PackSteps.{put_entries, Rooms, node_bytes, no_lists, head_of, filled, Packs}
use Rattle.node.specs.laws.pack.Layout.{contents_of, toc_short, tail_small, length_toc, length_key_area, length_value_area, length_head_bytes, length_info_bytes}
use Rattle.node.specs.laws.pack.Entries.{zeros, length_zeros, zeros_add, splice_after, laid, put_entries_lem}
use Rattle.node.specs.laws.pack.Numbered.{keys_numbered, values_numbered, fits_numbered}
use Rattle.node.specs.declared.info.BTreeInfo.{BTreeInfo}
use Rattle.node.specs.declared.build.NodeBuild.{NodeBuild}

regroup : (a c g k f v z : List ℕ) → (a ++ c) ++ (g ++ (k ++ (f ++ (v ++ z)))) ≡ a ++ ((c ++ (g ++ (k ++ (f ++ v)))) ++ z)
regroup a c g k f v z = simp append_assoc

outside : (a h m z : List ℕ) → a ++ (h ++ (m ++ z)) ≡ (a ++ (h ++ m)) ++ (z ++ [])
outside a h m z = simp (append_assoc, append-nil)

together : (a h c g k f v z : List ℕ) → a ++ h ++ (c ++ g) ++ k ++ f ++ v ++ z ≡ a ++ (h ++ ((c ++ (g ++ (k ++ (f ++ v)))) ++ z))
together a h c g k f v z = simp append_assoc

-- ---- the block of entries that fit

module _ (b : NodeBuild) (es : List Entry) (least : 96 ≤ b.info.node_size) (fit : fits b.info b.root b.level es ≡ true) where
  abbrev t : BTreeInfo
  t = b.info

  abbrev size : ℕ
  size = t.node_size

  abbrev room : ℕ
  room = data_space size b.root

  abbrev contents : ℕ
  contents = toc_length t b.root b.level (length es)

  abbrev free : ℕ
  free = room - contents - keys_length t es - values_length t es

  abbrev tail : ℕ
  tail = cond b.root 40 0

  slots_fit : length es * slot_width t ≤ contents
  unfolding contents_of
  slots_fit = toc_short b es least fit

  room_fit : contents + (keys_length t es + values_length t es) ≤ room
  room_fit = fits_space t b.root b.level es fit

  room_is : 56 + room + tail ≡ size
  unfolding data_space
  room_is = let k = tail_small b.root in omega arith

  abbrev gap : ℕ
  gap = contents - length es * slot_width t

  -- contents, keys, zeros and values
  abbrev middle : List ℕ
  middle = toc t 0 0 es ++ (zeros gap ++ (key_area t es ++ (zeros free ++ value_area t es)))

  length_middle : length middle ≡ room
  length_middle =
      let f = room_fit in
      let g = slots_fit in
      simp (length-append, length_toc, length_zeros, length_key_area, length_value_area) (omega arith)

  cleared : zeros size ≡ laid (zeros 56) contents [] (room - contents) (zeros tail)
  unfolding laid
  cleared =
      let f = room_fit in
      let r = room_is in
      zeros_add 56 (room + tail) size (omega arith)
      ∙ ap (λ (x : List ℕ). zeros 56 ++ x)
      (zeros_add contents (room - contents + tail) (room + tail) (omega arith) ∙ ap (λ (x : List ℕ). zeros contents ++ x)
      (zeros_add (room - contents) tail (room - contents + tail) refl))

  abbrev entries : List ℕ
  entries = put_entries t (56 + contents) (56 + room) 56 0 0 es (zeros size)

  entries_laid : entries ≡ zeros 56 ++ (middle ++ zeros tail)
  unfolding laid
  entries_laid =
      let f = room_fit in
      let n : room - contents - (keys_length t es + values_length t es) ≡ free = omega arith in
      ap (put_entries t (56 + contents) (56 + room) 56 0 0 es) cleared
      ∙ put_entries_lem t (56 + contents) (56 + room) es (zeros 56) contents [] (room - contents) (zeros tail) 56 0 0 refl refl refl (omega arith)
      (omega arith) slots_fit
      ∙ ap (λ (x : ℕ). laid (zeros 56 ++ toc t 0 0 es) gap (key_area t es) x (value_area t es ++ zeros tail)) n
      ∙ regroup (zeros 56) (toc t 0 0 es) (zeros gap) (key_area t es) (zeros free) (value_area t es) (zeros tail)

  abbrev headed : List ℕ
  headed = splice entries 8 (head_bytes b es)

  headed_laid : headed ≡ zeros 8 ++ (head_bytes b es ++ (middle ++ zeros tail))
  headed_laid =
      ap (λ (x : List ℕ). splice x 8 (head_bytes b es)) entries_laid
      ∙ splice_after (zeros 8) (zeros 48) (middle ++ zeros tail) (head_bytes b es) 8 refl (length_head_bytes b es)

  finished : (r : Bool) → tail ≡ cond r 40 0 → cond r (splice headed (size - 40) (info_bytes t)) headed ≡ zeros 8 ++
      (head_bytes b es ++ (middle ++ cond r (info_bytes t) []))
  finished true e =
      let m = length_middle in
      let n = room_is in
      let x : List ℕ = zeros 8 ++ (head_bytes b es ++ middle) in
      let k : length (head_bytes b es ++ middle) ≡ 48 + room = length-append (head_bytes b es) middle
      ∙ ap₂ (λ (i j : ℕ). i + j) (length_head_bytes b es) m in
      let l : length x ≡ size - 40 = length-append (zeros 8) (head_bytes b es ++ middle) ∙ omega arith in
      ap (λ (y : List ℕ). splice y (size - 40) (info_bytes t))
      (headed_laid ∙ ap (λ (k : ℕ). zeros 8 ++ (head_bytes b es ++ (middle ++ zeros k))) e ∙ outside (zeros 8) (head_bytes b es) middle (zeros 40))
      ∙ splice_after x (zeros 40) [] (info_bytes t) (size - 40) l (length_info_bytes t)
      ∙ sym (outside (zeros 8) (head_bytes b es) middle (info_bytes t))
  finished false e = headed_laid ∙ ap (λ (k : ℕ). zeros 8 ++ (head_bytes b es ++ (middle ++ zeros k))) e

  pub filled_is : sealed (filled b es) ≡ pack_node b es
  unfolding filled pack_node pad_to
  filled_is =
      ap sealed
      (finished b.root refl
      ∙ sym
      (ap (λ (n : ℕ). zeros 8 ++ head_bytes b es ++ (toc t 0 0 es ++ zeros (contents - n)) ++ key_area t es ++ zeros free ++ value_area t es ++ cond
      b.root (info_bytes t) []) (length_toc t 0 0 es)
      ∙ together (zeros 8) (head_bytes b es) (toc t 0 0 es) (zeros gap) (key_area t es) (zeros free) (value_area t es)
      (cond b.root (info_bytes t) [])))

-- ---- what the code meets

head_is : (b : NodeBuild) (es : List Entry) (n c k e : ℕ) → n ≡ length es → c ≡ toc_length b.info b.root b.level (length es)
    → k ≡ keys_length b.info es
    → e ≡ data_space b.info.node_size b.root - toc_length b.info b.root b.level (length es) - keys_length b.info es - values_length
    b.info es
    → head_of b n c k e ≡ head_bytes b es
unfolding head_of head_bytes header_bytes node_bytes no_lists
head_is b es n c k e p q r s = rw (p, q, r, s) (simp append_assoc)

clear_all : (l : List ℕ) (n : ℕ) → length l ≡ n → splice l 0 (zeros n) ≡ zeros n
unfolding splice
clear_all l n e =
    let h : length l ≤ 0 + length (zeros n) = omega (arith, length_zeros n) in
    ap (λ (x : List ℕ). zeros n ++ x) (drop_of_length-le l h) ∙ append-nil (zeros n)

picked_false : (r : Bool) (x y : List ℕ) → r ≡ false → y ≡ cond r x y
picked_false r x y e = rw e

picked_true : (r : Bool) (x y : List ℕ) → r ≡ true → x ≡ cond r x y
picked_true r x y e = rw e

module _ (b : NodeBuild) (n : ℕ) (slot block : List ℕ) (p : Packs b n slot block) where
  pub few : n < 2 ^ 32
  few = count_small n slot p.whole p.small

  at_least : 96 ≤ b.info.node_size
  at_least = omega (arith, p.sized.least)

  count : length (entries_of n slot) ≡ n
  count = length_entries n slot

  pub space_fit : toc_length b.info b.root b.level n + (keys_length b.info (entries_of n slot) + values_length b.info (entries_of n slot))
      ≤ data_space b.info.node_size b.root
  space_fit = rw count at (room_fit b (entries_of n slot) at_least p.fit)

  pub rooms : (b₁ : List ℕ) (c s : ℕ) → length b₁ ≡ length block → c ≡ toc_length b.info b.root b.level n
      → s ≡ data_space b.info.node_size b.root
      → Rooms b.info (56 + c) (56 + s) n slot b₁
  rooms b₁ c s e q r =
      let f = space_fit in
      let i = room_is b (entries_of n slot) at_least p.fit in
      let w : n * slot_width b.info ≤ toc_length b.info b.root b.level n = rw count at (slots_fit b (entries_of n slot) at_least p.fit) in
      record {
        whole = p.whole;
        small = p.small;
        contents = omega arith;
        between = omega arith;
        inside = omega (arith, p.size);
        short = omega (arith, p.size, p.sized.most);
      }

  module _ (heads : List ℕ) (by : Bool) where
    abbrev numbers : List Entry
    numbers = map (numbered (child_number heads by)) (entries_of n slot)

    count_numbers : length numbers ≡ n
    count_numbers = length-map (entries_of n slot) (numbered (child_number heads by)) ∙ count

    module _ (b₁ b₂ b₃ : List ℕ) (c s k v : ℕ) (qc : c ≡ toc_length b.info b.root b.level n)
        (qs : s ≡ data_space b.info.node_size b.root)
        (q₁ : b₁ ≡ splice block 0 (zeros b.info.node_size)) (q₂ : b₂ ≡ put_entries b.info (56 + c) (56 + s) 56 0 0 numbers b₁)
        (qk : k ≡ keys_length b.info (entries_of n slot)) (qv : v ≡ values_length b.info (entries_of n slot))
        (q₃ : b₃ ≡ splice b₂ 8 (head_of b n c k (s - c - k - v))) where
      abbrev final : List ℕ
      final =
          splice
          (put_entries b.info (56 + toc_length b.info b.root b.level (length numbers))
          (56 + data_space b.info.node_size b.root) 56 0 0 numbers (zeros b.info.node_size))
          8 (head_bytes b numbers)

      headed_is : b₃ ≡ final
      headed_is =
          let u : BTreeInfo = b.info in
          let z : ℕ = u.node_size in
          let c' : c ≡ toc_length u b.root b.level (length numbers) = qc ∙ ap (toc_length u b.root b.level) (sym count_numbers) in
          let k' : k ≡ keys_length u numbers = qk ∙ sym (keys_numbered (child_number heads by) u (entries_of n slot)) in
          let v' : v ≡ values_length u numbers = qv ∙ sym (values_numbered (child_number heads by) u (entries_of n slot)) in
          let a : b₁ ≡ zeros z = q₁ ∙ clear_all block z p.size in
          let g : b₂ ≡ put_entries u (56 + toc_length u b.root b.level (length numbers)) (56 + data_space z b.root) 56 0 0 numbers (zeros z) =
          q₂ ∙ ap (put_entries u (56 + c) (56 + s) 56 0 0 numbers) a
          ∙ ap₂ (λ (x y : ℕ). put_entries u (56 + x) (56 + y) 56 0 0 numbers (zeros z)) c' qs in
          let h : head_of b n c k (s - c - k - v) ≡ head_bytes b numbers = head_is b numbers n c k (s - c - k - v) (sym count_numbers) c' k'
          (rw (qs, c', k', v')) in
          q₃ ∙ ap₂ (λ (x y : List ℕ). splice x 8 y) g h

      pub fill_inner : b.root ≡ false → b₃ ≡ filled b numbers
      unfolding filled
      fill_inner e = headed_is ∙ picked_false b.root (splice final (b.info.node_size - 40) (info_bytes b.info)) final e

      pub fill_root : (b₄ : List ℕ) → b.root ≡ true → b₄ ≡ splice b₃ (b.info.node_size - 40) (info_bytes b.info) → b₄ ≡ filled b numbers
      unfolding filled
      fill_root b₄ e q =
          q ∙ ap (λ (x : List ℕ). splice x (b.info.node_size - 40) (info_bytes b.info)) headed_is
          ∙ picked_true b.root (splice final (b.info.node_size - 40) (info_bytes b.info)) final e

    pub block_law : (b₁ b₂ : List ℕ) → b₁ ≡ filled b numbers → b₂ ≡ sealed b₁ → b₂ ≡ pack_node b numbers
    block_law b₁ b₂ q r = r ∙ ap sealed q ∙ filled_is b numbers at_least
        (fits_numbered (child_number heads by) b.info b.root b.level (entries_of n slot) ∙ p.fit)

-- ---- a block at the start of what is lent

pub part_size : (l : List ℕ) (k : ℕ) → k ≤ length l → k ≡ length (take k l)
part_size l k h = sym (length-take-le k l h)

pub part_packs : (b : NodeBuild) (n : ℕ) (slot dst : List ℕ) → Sized b.info → b.info.node_size ≤ length dst
    → records_length n slot ≤ length slot → length slot ≤ 2 ^ 20
    → fits b.info b.root b.level (entries_of n slot) ≡ true → Packs b n slot (take b.info.node_size dst)
part_packs b n slot dst z h w m f =
    record { sized = z; size = length-take-le b.info.node_size dst h; whole = w; small = m; fit = f }

pub part_law : (dst d x : List ℕ) (k : ℕ) → k ≤ length dst → length d ≡ length (take k dst) → d ≡ x → d ++ drop k dst ≡ splice dst 0 x
part_law dst d x k h e q = part_whole dst 0 k d (e ∙ length-take-le k dst h) ∙ ap (splice dst 0) q

-- ---- what the code takes of these

pub ruleset fill_laws = (few, space_fit)

pub ruleset part_laws = (part_size, part_packs, part_law, block_law)
