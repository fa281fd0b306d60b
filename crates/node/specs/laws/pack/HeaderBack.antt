-- Laws of the header and the tree info of a packed node: each field is read back. Assumes nothing.
use Rattle.std.specs.Prelude.{◌≡◌, refl, List, [], ◌∷◌, Bool, true, false, eqb}
use Rattle.std.proofs.Common.{sym, subst, ◌∙◌, append_assoc, append-nil, add-zero, arith}
use Rattle.std.proofs.Math.Path.{ap, ap₂}
use Rattle.std.proofs.Math.Bool.{cond}
use Prim.Native.Nat.{ℕ, ◌+◌, ◌-◌, ◌*◌, ◌≤◌, ◌<◌}
use Rattle.std.proofs.Math.ListN.{length}
use Rattle.seal.specs.Bytes.{u16_at, u32_at, u64_at}
use Rattle.node.specs.Entry.{Entry}
use Rattle.node.specs.Fit.{fixed, slot_width, keys_length, fits, Sized}
use Rattle.node.specs.Pack.{node_flags, head_bytes, info_bytes, pack_node}
use Rattle.node.specs.Read.{info_at, parsed}
use Rattle.node.specs.laws.pack.Parts.{Stands, fields, Read, table_read}
use Rattle.node.specs.laws.pack.Layout.{contents_of, free_of, filled, toc_short, length_pack_node, stands_head, stands_info}
use Rattle.node.specs.internal.Packable.{packed_node, InfoFits, HeadFits, Below}
use Rattle.node.specs.declared.info.BTreeInfo.{BTreeInfo}
use Rattle.node.specs.declared.build.NodeBuild.{NodeBuild}
use Rattle.node.specs.Place.{Place}

-- obj_phys_t after the sum, and btree_node_phys_t: width and value of each field
abbrev pub head_table : NodeBuild → List Entry → List (ℕ × ℕ)
head_table b es =
    (8, b.oid) ∷ (8, b.xid) ∷ (4, b.otype) ∷ (4, b.subtype)
    ∷ (2, node_flags b) ∷ (2, b.level) ∷ (4, length es)
    ∷ (2, 0) ∷ (2, contents_of b es) ∷ (2, keys_length b.info es) ∷ (2, free_of b es)
    ∷ (2, 0xFFFF) ∷ (2, 0) ∷ (2, 0xFFFF) ∷ (2, 0) ∷ []

-- btree_info_t: width and value of each field
abbrev pub info_table : BTreeInfo → List (ℕ × ℕ)
info_table t =
    (4, t.flags) ∷ (4, t.node_size) ∷ (4, t.key_size) ∷ (4, t.val_size)
    ∷ (4, t.longest_key) ∷ (4, t.longest_val) ∷ (8, t.key_count) ∷ (8, t.node_count) ∷ []

pub head_table_lem : (b : NodeBuild) (es : List Entry) → head_bytes b es ≡ fields (head_table b es)
unfolding head_bytes fields contents_of free_of
head_table_lem b es = simp (append_assoc, append-nil)

pub info_table_lem : (t : BTreeInfo) → info_bytes t ≡ fields (info_table t)
unfolding info_bytes fields
info_table_lem t = simp (append_assoc, append-nil)

flags_small : (b : NodeBuild) → node_flags b < 65536
unfolding node_flags
flags_small b = go b.root (eqb b.level 0) (fixed b.info)
  where
    go : (r l f : Bool) → cond r 1 0 + cond l 2 0 + cond f 4 0 < 65536
    go true true true = omega arith
    go true true false = omega arith
    go true false true = omega arith
    go true false false = omega arith
    go false true true = omega arith
    go false true false = omega arith
    go false false true = omega arith
    go false false false = omega arith

-- entries are no more than the bytes of contents
entries_few : (t : BTreeInfo) (n m : ℕ) → n * slot_width t ≤ m → n ≤ m
unfolding slot_width
entries_few t n m = go (fixed t)
  where
    go : (f : Bool) → n * cond f 4 8 ≤ m → n ≤ m
    go true h = omega arith
    go false h = omega arith

module _ (b : NodeBuild) (es : List Entry) (size : Sized b.info) (head : HeadFits b) (fit : fits b.info b.root b.level es ≡ true) where
  least_96 : 96 ≤ b.info.node_size
  least_96 = let h = size.least in omega arith

  pub contents_small : contents_of b es < 65536
  contents_small = let h = filled b es least_96 fit in let m = size.most in omega arith

  pub entries_small : length es < 65536
  entries_small = let h = entries_few b.info (length es) (contents_of b es) (toc_short b es least_96 fit) in let m = contents_small in omega arith

  head_read : Read (pack_node b es) 0 8 (head_table b es)
  head_read = table_read (pack_node b es) 0 8 (head_table b es)
      (subst (λ (l : List ℕ). Stands (pack_node b es) 8 l) (head_table_lem b es) (stands_head b es least_96 fit))

  pub oid_back : u64_at (pack_node b es) 8 ≡ b.oid
  oid_back = head_read.0 head.oid

  pub xid_back : u64_at (pack_node b es) 16 ≡ b.xid
  xid_back = head_read.1.0 head.xid

  pub otype_back : u32_at (pack_node b es) 24 ≡ b.otype
  otype_back = head_read.1.1.0 head.otype

  pub subtype_back : u32_at (pack_node b es) 28 ≡ b.subtype
  subtype_back = head_read.1.1.1.0 head.subtype

  pub flags_back : u16_at (pack_node b es) 32 ≡ node_flags b
  flags_back = head_read.1.1.1.1.0 (flags_small b)

  pub level_back : u16_at (pack_node b es) 34 ≡ b.level
  level_back = let h = head.level in head_read.1.1.1.1.1.0 (omega arith)

  pub nkeys_back : u32_at (pack_node b es) 36 ≡ length es
  nkeys_back = let h = entries_small in head_read.1.1.1.1.1.1.0 (omega arith)

  pub toc_back : u16_at (pack_node b es) 40 ≡ 0
  toc_back = head_read.1.1.1.1.1.1.1.0 (omega arith)

  pub contents_back : u16_at (pack_node b es) 42 ≡ contents_of b es
  contents_back = head_read.1.1.1.1.1.1.1.1.0 contents_small

  -- ---- the tree info of a root

  info_read : b.root ≡ true → Read (pack_node b es) (length (pack_node b es) - 40) 0 (info_table b.info)
  info_read r =
      let n : ℕ = b.info.node_size in
      let l = length_pack_node b es least_96 fit in
      let e : n - 40 ≡ length (pack_node b es) - 40 + 0 = omega arith in
      table_read (pack_node b es) (length (pack_node b es) - 40) 0 (info_table b.info)
      (subst (λ (k : ℕ). Stands (pack_node b es) k (fields (info_table b.info))) e
      (subst (λ (q : List ℕ). Stands (pack_node b es) (n - 40) q) (info_table_lem b.info) (stands_info b es least_96 fit r)))

  pub info_back : InfoFits b.info → b.root ≡ true → info_at (pack_node b es) ≡ b.info
  unfolding info_at
  info_back t r =
      let m = size.most in
      let i : ℕ = length (pack_node b es) - 40 in
      let f = info_read r in
      let flags : u32_at (pack_node b es) i ≡ b.info.flags = ap (u32_at (pack_node b es)) (sym (add-zero i)) ∙ f.0 t.flags in
      let node_size : u32_at (pack_node b es) (i + 4) ≡ b.info.node_size = f.1.0 (omega arith) in
      let key_size : u32_at (pack_node b es) (i + 8) ≡ b.info.key_size = f.1.1.0 t.sized.key in
      let val_size : u32_at (pack_node b es) (i + 12) ≡ b.info.val_size = f.1.1.1.0 t.sized.value in
      let longest_key : u32_at (pack_node b es) (i + 16) ≡ b.info.longest_key = f.1.1.1.1.0 t.longest_key in
      let longest_val : u32_at (pack_node b es) (i + 20) ≡ b.info.longest_val = f.1.1.1.1.1.0 t.longest_val in
      let key_count : u64_at (pack_node b es) (i + 24) ≡ b.info.key_count = f.1.1.1.1.1.1.0 t.key_count in
      let node_count : u64_at (pack_node b es) (i + 32) ≡ b.info.node_count = f.1.1.1.1.1.1.1.0 t.node_count in
      λ j. record {
        flags = flags j;
        node_size = node_size j;
        key_size = key_size j;
        val_size = val_size j;
        longest_key = longest_key j;
        longest_val = longest_val j;
        key_count = key_count j;
        node_count = node_count j;
      }

  -- ---- the node that is read

  -- a number of the tree's: a root has it, another node is told
  told : (p : Place) (get : BTreeInfo → ℕ) (given : ℕ) → InfoFits b.info → p.root ≡ b.root → (b.root ≡ false → given ≡ get b.info)
      → cond p.root (get (info_at (pack_node b es))) given ≡ get b.info
  told p get given t same below = ap (λ (q : Bool). cond q (get (info_at (pack_node b es))) given) same ∙ go b.root refl
    where
      go : (r : Bool) → b.root ≡ r → cond r (get (info_at (pack_node b es))) given ≡ get b.info
      go true e = ap get (info_back t e)
      go false e = below e

  pub parsed_back : (p : Place) → InfoFits b.info → p.root ≡ b.root → (b.root ≡ false → Below p b) → parsed p (pack_node b es) ≡ packed_node b es
  unfolding parsed packed_node contents_of
  parsed_back p t same below =
      let toc : 56 + u16_at (pack_node b es) 40 ≡ 56 = ap (λ (n : ℕ). 56 + n) toc_back in
      let keys : 56 + u16_at (pack_node b es) 40 + u16_at (pack_node b es) 42 ≡ 56 + contents_of b es = ap₂ (λ (n m : ℕ). n + m) toc contents_back in
      let vals : length (pack_node b es) - cond p.root 40 0 ≡ b.info.node_size - cond b.root 40 0 =
      ap₂ (λ (n : ℕ) (q : Bool). n - cond q 40 0) (length_pack_node b es least_96 fit) same in
      let ksize = told p (λ (i : BTreeInfo). i.key_size) p.ksize t same (λ (e : b.root ≡ false). (below e).ksize) in
      let vsize = told p (λ (i : BTreeInfo). i.val_size) p.vsize t same (λ (e : b.root ≡ false). (below e).vsize) in
      λ j. record {
        oid = oid_back j;
        xid = xid_back j;
        otype = otype_back j;
        subtype = subtype_back j;
        flags = flags_back j;
        level = level_back j;
        nkeys = nkeys_back j;
        toc = toc j;
        keys = keys j;
        vals = vals j;
        ksize = ksize j;
        vsize = vsize j;
      }
