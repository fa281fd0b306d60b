-- Laws of the parts of a packed node: how long each is, and where each stands in the block. Assumes nothing.
use Rattle.std.specs.Prelude.{◌≡◌, Bool, true, false}
use Rattle.std.proofs.Math.Path.{refl, subst}
use Rattle.std.proofs.Common.{sym, ap, ◌∙◌, zero-mul, length-append, drop_at}
use mathlib.Core.List.{List, [], ◌∷◌, ◌++◌, append_assoc}
use Rattle.std.proofs.Math.Bool.{cond}
use Prim.Native.Nat.{ℕ, ◌+◌, ◌-◌, ◌*◌, ◌%◌, ◌≤◌}
use Rattle.std.proofs.Math.Nat.{mul-le-mul_right}
use native.Mathlib.Omega.{arith}
use Rattle.std.proofs.Math.ListN.{length, replicate, length-replicate}
use Rattle.seal.specs.Bytes.{splice, bytes_of}
use Rattle.seal.specs.laws.FieldLaws.{length_bytes_of}
use Rattle.seal.specs.Checksum.{fletcher, sealed, verified}
use Rattle.seal.specs.laws.SealTheorems.{sealed_verified}
use Rattle.node.specs.Entry.{Entry, value_length, value_bytes}
use Rattle.node.specs.Fit.{padded, data_space, fixed, slot_width, toc_length, keys_length, values_length, fits}
use Rattle.node.specs.laws.fit.Fit.{padded_least, fits_count, fits_space}
use Rattle.node.specs.laws.slot.Records.{length_value_bytes}
use Rattle.node.specs.Pack.{pad_to, value_offset, toc_entry, toc, key_area, value_area, head_bytes, info_bytes, pack_node}
use Rattle.node.specs.laws.pack.Parts.{Stands, stands_as, stands_left, stands_after}
use Rattle.node.specs.declared.info.BTreeInfo.{BTreeInfo}
use Rattle.node.specs.declared.build.NodeBuild.{NodeBuild}

-- ---- lengths

pub length_pad_to : (n : ℕ) (bs : List ℕ) → length bs ≤ n → length (pad_to n bs) ≡ n
unfolding pad_to
length_pad_to n bs h = simp (length-append, length-replicate) (omega arith)

pub length_toc_entry : (t : BTreeInfo) (ko vo : ℕ) (e : Entry) → length (toc_entry t ko vo e) ≡ slot_width t
unfolding toc_entry slot_width
length_toc_entry t ko vo e = go (fixed t)
  where
    go : (f : Bool) → length
        (cond f
        (bytes_of 2 ko ++ bytes_of 2 (value_offset e.value vo))
        (bytes_of 2 ko ++ bytes_of 2 (length e.key) ++ bytes_of 2 (value_offset e.value vo) ++ bytes_of 2 (value_length e.value))) ≡ cond f 4 8
    go true = simp (length-append, length_bytes_of)
    go false = simp (length-append, length_bytes_of)

pub length_toc : (t : BTreeInfo) (ko vo : ℕ) (es : List Entry) → length (toc t ko vo es) ≡ length es * slot_width t
unfolding toc
length_toc t ko vo [] = sym (zero-mul (slot_width t))
length_toc t ko vo (e ∷ es) =
    let vo' : ℕ = vo + padded t (value_length e.value) in
    let ih = length_toc t (ko + padded t (length e.key)) vo' es in
    simp (length-append, length_toc_entry, ih) (omega arith)

pub length_key_area : (t : BTreeInfo) (es : List Entry) → length (key_area t es) ≡ keys_length t es
unfolding key_area keys_length
length_key_area t [] = refl
length_key_area t (e ∷ es) =
    let h : length e.key ≤ padded t (length e.key) = padded_least t (length e.key) in
    simp (length-append, length_pad_to, length_key_area t es)

pub length_value_area : (t : BTreeInfo) (es : List Entry) → length (value_area t es) ≡ values_length t es
unfolding value_area values_length
length_value_area t [] = refl
length_value_area t (e ∷ es) =
    let n : ℕ = padded t (value_length e.value) in
    let h : length (value_bytes e.value) ≤ n = rw length_value_bytes (padded_least t (value_length e.value)) in
    simp (length-append, length_pad_to n (value_bytes e.value) h, length_value_area t es) (omega arith)

pub length_head_bytes : (b : NodeBuild) (es : List Entry) → length (head_bytes b es) ≡ 48
unfolding head_bytes
length_head_bytes b es = simp (length-append, length_bytes_of)

pub length_info_bytes : (t : BTreeInfo) → length (info_bytes t) ≡ 40
unfolding info_bytes
length_info_bytes t = simp (length-append, length_bytes_of)

-- ---- the block

-- contents, zeros and tree info, as `pack_node` has them
unfoldable pub contents_of : NodeBuild → List Entry → ℕ
contents_of b es = toc_length b.info b.root b.level (length es)

unfoldable pub free_of : NodeBuild → List Entry → ℕ
free_of b es = data_space b.info.node_size b.root - contents_of b es - keys_length b.info es - values_length b.info es

unfoldable pub tail_of : NodeBuild → List ℕ
tail_of b = cond b.root (info_bytes b.info) []

-- the block after its sum
unfoldable pub after_sum : NodeBuild → List Entry → List ℕ
after_sum b es =
    head_bytes b es ++ (pad_to (contents_of b es) (toc b.info 0 0 es) ++
    (key_area b.info es ++ (replicate (free_of b es) 0 ++ (value_area b.info es ++ tail_of b))))

pub sealed_parts : (z r : List ℕ) → length z ≡ 8 → sealed (z ++ r) ≡ bytes_of 8 (fletcher (z ++ r)) ++ r
unfolding sealed splice
sealed_parts z r e = rw (length_bytes_of, drop_at z r 8 e)

unfoldable pub sum_of : NodeBuild → List Entry → ℕ
sum_of b es = fletcher (replicate 8 0 ++ after_sum b es)

body_parts : (z h c k f v i : List ℕ) → z ++ h ++ c ++ k ++ f ++ v ++ i ≡ z ++ (h ++ (c ++ (k ++ (f ++ (v ++ i)))))
body_parts z h c k f v i = simp append_assoc

pub packed_is_sealed : (b : NodeBuild) (es : List Entry) → pack_node b es ≡ sealed (replicate 8 0 ++ after_sum b es)
unfolding pack_node after_sum contents_of free_of tail_of
packed_is_sealed b es =
    ap sealed
    (body_parts (replicate 8 0) (head_bytes b es) (pad_to (contents_of b es) (toc b.info 0 0 es)) (key_area b.info es) (replicate (free_of b es) 0)
    (value_area b.info es)
    (tail_of b))

pub packed_parts : (b : NodeBuild) (es : List Entry) → pack_node b es ≡ bytes_of 8 (sum_of b es) ++ after_sum b es
unfolding sum_of
packed_parts b es = packed_is_sealed b es ∙ sealed_parts (replicate 8 0) (after_sum b es) refl

pub length_tail : (b : NodeBuild) → length (tail_of b) ≡ cond b.root 40 0
unfolding tail_of
length_tail b = go b.root
  where
    go : (r : Bool) → length (cond r (info_bytes b.info) []) ≡ cond r 40 0
    go true = length_info_bytes b.info
    go false = refl

-- ---- where the parts of a node that fits stand

pub tail_small : (r : Bool) → cond {A = ℕ} r 40 0 ≤ 40
tail_small true = omega arith
tail_small false = omega arith

module _ (b : NodeBuild) (es : List Entry) (least : 96 ≤ b.info.node_size) (fit : fits b.info b.root b.level es ≡ true) where
  -- contents, keys, zeros and values fill the space
  pub filled : contents_of b es + keys_length b.info es + free_of b es + values_length b.info es + cond b.root 40 0 + 56 ≡ b.info.node_size
  unfolding contents_of free_of data_space
  filled =
      let h = fits_space b.info b.root b.level es fit in
      let k = tail_small b.root in
      omega arith

  pub toc_short : length es * slot_width b.info ≤ contents_of b es
  unfolding contents_of toc_length
  toc_short = mul-le-mul_right (slot_width b.info) (fits_count b.info b.root b.level es fit)

  pub length_contents : length (pad_to (contents_of b es) (toc b.info 0 0 es)) ≡ contents_of b es
  length_contents = length_pad_to (contents_of b es) (toc b.info 0 0 es) (rw length_toc toc_short)

  pub length_after_sum : length (after_sum b es) + 8 ≡ b.info.node_size
  unfolding after_sum
  length_after_sum =
      let h = filled in
      simp (length-append, length_head_bytes, length_contents, length_key_area, length-replicate, length_value_area, length_tail) (omega arith)

  pub length_pack_node : length (pack_node b es) ≡ b.info.node_size
  length_pack_node =
      let h = length_after_sum in
      ap length (packed_parts b es) ∙ simp (length-append, length_bytes_of) (omega arith)

  stands_after_sum : Stands (pack_node b es) 8 (after_sum b es)
  stands_after_sum =
      stands_after (pack_node b es) 0 8 8 (bytes_of 8 (sum_of b es)) (after_sum b es) (length_bytes_of 8 (sum_of b es)) refl
      (stands_as (pack_node b es) (bytes_of 8 (sum_of b es) ++ after_sum b es) (packed_parts b es))

  -- the block after its zeros, keys, contents, header
  abbrev after_free : List ℕ
  after_free = value_area b.info es ++ tail_of b

  abbrev after_keys : List ℕ
  after_keys = replicate (free_of b es) 0 ++ after_free

  abbrev after_contents : List ℕ
  after_contents = key_area b.info es ++ after_keys

  abbrev after_head : List ℕ
  after_head = pad_to (contents_of b es) (toc b.info 0 0 es) ++ after_contents

  pub stands_head : Stands (pack_node b es) 8 (head_bytes b es)
  unfolding after_sum
  stands_head = stands_left (pack_node b es) 8 (head_bytes b es) after_head stands_after_sum

  stands_after_head : Stands (pack_node b es) 56 after_head
  unfolding after_sum
  stands_after_head = stands_after (pack_node b es) 8 48 56 (head_bytes b es) after_head (length_head_bytes b es) refl stands_after_sum

  pub stands_toc : Stands (pack_node b es) 56 (toc b.info 0 0 es)
  unfolding pad_to
  stands_toc =
      let l : List ℕ = toc b.info 0 0 es in
      let z : List ℕ = replicate (contents_of b es - length l) 0 in
      stands_left (pack_node b es) 56 l z (stands_left (pack_node b es) 56 (l ++ z) after_contents stands_after_head)

  stands_after_contents : Stands (pack_node b es) (56 + contents_of b es) after_contents
  stands_after_contents =
      stands_after (pack_node b es) 56 (contents_of b es) (56 + contents_of b es)
      (pad_to (contents_of b es) (toc b.info 0 0 es)) after_contents length_contents refl
      stands_after_head

  pub stands_keys : Stands (pack_node b es) (56 + contents_of b es) (key_area b.info es)
  stands_keys = stands_left (pack_node b es) (56 + contents_of b es) (key_area b.info es) after_keys stands_after_contents

  stands_after_free : Stands (pack_node b es) (56 + contents_of b es + keys_length b.info es + free_of b es) after_free
  stands_after_free =
      let k : ℕ = 56 + contents_of b es + keys_length b.info es in
      stands_after (pack_node b es) k (free_of b es) (k + free_of b es) (replicate (free_of b es) 0) after_free
      (length-replicate (free_of b es) 0) refl
      (stands_after (pack_node b es) (56 + contents_of b es) (keys_length b.info es) k (key_area b.info es) after_keys
      (length_key_area b.info es) refl stands_after_contents)

  pub stands_values : Stands (pack_node b es) (b.info.node_size - cond b.root 40 0 - values_length b.info es) (value_area b.info es)
  stands_values =
      let h = filled in
      let e : 56 + contents_of b es + keys_length b.info es + free_of b es ≡ b.info.node_size - cond b.root 40 0 - values_length
      b.info es = omega arith in
      rw e at (stands_left (pack_node b es) (56 + contents_of b es + keys_length b.info es + free_of b es) (value_area b.info es)
      (tail_of b) stands_after_free)

  stands_tail : Stands (pack_node b es) (b.info.node_size - cond b.root 40 0) (tail_of b)
  stands_tail =
      let h = filled in
      let k : ℕ = 56 + contents_of b es + keys_length b.info es + free_of b es in
      let e : k + values_length b.info es ≡ b.info.node_size - cond b.root 40 0 = omega arith in
      stands_after (pack_node b es) k (values_length b.info es) (b.info.node_size - cond b.root 40 0) (value_area b.info es) (tail_of b)
      (length_value_area b.info es) e stands_after_free

  pub stands_info : b.root ≡ true → Stands (pack_node b es) (b.info.node_size - 40) (info_bytes b.info)
  unfolding tail_of
  stands_info r = subst (λ (q : Bool). Stands (pack_node b es) (b.info.node_size - cond q 40 0) (cond q (info_bytes b.info) [])) r stands_tail

  -- the stored sum is the block's
  pub packed_verified : b.info.node_size % 4 ≡ 0 → verified (pack_node b es) ≡ true
  packed_verified four =
      let l : List ℕ = replicate 8 0 ++ after_sum b es in
      let h = length_after_sum in
      let n : length l ≡ 8 + length (after_sum b es) = length-append (replicate 8 0) (after_sum b es) in
      let m : 32 ≤ length l = omega arith in
      let d : length l % 4 ≡ 0 = omega arith in
      ap verified (packed_is_sealed b es) ∙ sealed_verified l m d
