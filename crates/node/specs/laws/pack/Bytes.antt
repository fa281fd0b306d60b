-- Records and packed blocks are bytes, where keys and values are. Assumes nothing.
use Rattle.std.specs.Prelude.{List, [], ◌∷◌, ◌++◌, map, Bool, true, false, cond, ℕ, ◌+◌, ◌-◌, length, replicate}
use Rattle.std.proofs.Common.{arith}
use Rattle.seal.specs.Bytes.{bytes_of}
use Rattle.seal.specs.Checksum.{fletcher, sealed}
use Rattle.node.specs.Entry.{Entry, Val, ghost, leaf, disk, mem, value_length, value_bytes}
use Rattle.node.specs.Records.{mark_of, record_of, records_of}
use Rattle.node.specs.Fit.{padded, fixed, data_space, toc_length, keys_length, values_length}
use Rattle.node.specs.Pack.{numbered_value, numbered, pad_to, value_offset, toc_entry, toc, key_area, value_area, head_bytes, info_bytes, pack_node}
use Rattle.node.specs.laws.base.Bytes.{Bytes, bytes_nil, bytes_append, bytes_splice, bytes_bytes_of, bytes_replicate}
use Rattle.node.specs.laws.order.Rising.{KeyBytes}
use Rattle.node.specs.declared.info.BTreeInfo.{BTreeInfo}
use Rattle.node.specs.declared.build.NodeBuild.{NodeBuild}

-- entries whose values are bytes, as leaves hold them: a child's number always is
abbrev pub ValueBytes : List Entry → Type 0
ValueBytes [] = Unit {0}
ValueBytes (e ∷ es) = Bytes (value_bytes e.value) × ValueBytes es

pub child_bytes : (r : ℕ) → Bytes (value_bytes (disk r))
unfolding value_bytes
child_bytes r = bytes_bytes_of 8 r

numbered_value_lem : (f : ℕ → ℕ) (v : Val) → Bytes (value_bytes v) → Bytes (value_bytes (numbered_value f v))
unfolding value_bytes numbered_value
numbered_value_lem f ghost h = h
numbered_value_lem f (leaf v) h = h
numbered_value_lem f (disk r) h = h
numbered_value_lem f (mem s) h = bytes_bytes_of 8 (f s)

pub numbered_value_bytes : (f : ℕ → ℕ) (es : List Entry) → ValueBytes es → ValueBytes (map (numbered f) es)
unfolding numbered
numbered_value_bytes f [] h = tt
numbered_value_bytes f (e ∷ es) h = (numbered_value_lem f e.value h.0, numbered_value_bytes f es h.1)

pub numbered_key_bytes : (f : ℕ → ℕ) (es : List Entry) → KeyBytes es → KeyBytes (map (numbered f) es)
unfolding numbered
numbered_key_bytes f [] h = tt
numbered_key_bytes f (e ∷ es) h = (h.0, numbered_key_bytes f es h.1)

-- ---- records

record_bytes_lem : (e : Entry) → Bytes e.key → Bytes (value_bytes e.value) → Bytes (record_of e)
unfolding record_of
record_bytes_lem e k v =
    let a : Bytes (bytes_of 2 (length e.key)) = bytes_bytes_of 2 (length e.key) in
    let b : Bytes (bytes_of 2 (mark_of e.value)) = bytes_bytes_of 2 (mark_of e.value) in
    bytes_append _ _ (bytes_append _ _ (bytes_append _ _ a b) k) v

pub records_bytes : (es : List Entry) → KeyBytes es → ValueBytes es → Bytes (records_of es)
unfolding records_of
records_bytes [] k v = bytes_nil
records_bytes (e ∷ es) k v = bytes_append _ _ (record_bytes_lem e k.0 v.0) (records_bytes es k.1 v.1)

-- ---- a packed block

pad_bytes : (n : ℕ) (l : List ℕ) → Bytes l → Bytes (pad_to n l)
unfolding pad_to
pad_bytes n l h = bytes_append _ _ h (bytes_replicate (n - length l) 0 (omega arith))

toc_entry_bytes : (t : BTreeInfo) (ko vo : ℕ) (e : Entry) → Bytes (toc_entry t ko vo e)
unfolding toc_entry
toc_entry_bytes t ko vo e = cond_bytes (fixed t)
  where
    vb : Bytes (bytes_of 2 (value_offset e.value vo))
    vb = bytes_bytes_of 2 (value_offset e.value vo)

    cond_bytes : (f : Bool)
        → Bytes (cond f (bytes_of 2 ko ++ bytes_of 2 (value_offset e.value vo))
        (bytes_of 2 ko ++ bytes_of 2 (length e.key) ++ bytes_of 2 (value_offset e.value vo) ++ bytes_of 2 (value_length e.value)))
    cond_bytes true = bytes_append _ _ (bytes_bytes_of 2 ko) vb
    cond_bytes false = bytes_append _ _ (bytes_append _ _ (bytes_append _ _ (bytes_bytes_of 2 ko) (bytes_bytes_of 2 (length e.key))) vb)
        (bytes_bytes_of 2 (value_length e.value))

toc_bytes : (t : BTreeInfo) (ko vo : ℕ) (es : List Entry) → Bytes (toc t ko vo es)
unfolding toc
toc_bytes t ko vo [] = bytes_nil
toc_bytes t ko vo (e ∷ es) =
    let vo' : ℕ = vo + padded t (value_length e.value) in
    bytes_append _ _ (toc_entry_bytes t ko vo' e) (toc_bytes t (ko + padded t (length e.key)) vo' es)

key_area_bytes : (t : BTreeInfo) (es : List Entry) → KeyBytes es → Bytes (key_area t es)
unfolding key_area
key_area_bytes t [] h = bytes_nil
key_area_bytes t (e ∷ es) h = bytes_append _ _ (pad_bytes (padded t (length e.key)) e.key h.0) (key_area_bytes t es h.1)

value_area_bytes : (t : BTreeInfo) (es : List Entry) → ValueBytes es → Bytes (value_area t es)
unfolding value_area
value_area_bytes t [] h = bytes_nil
value_area_bytes t (e ∷ es) h = bytes_append _ _ (value_area_bytes t es h.1)
    (pad_bytes (padded t (value_length e.value)) (value_bytes e.value) h.0)

-- a run of numbers
two : (l : List ℕ) (x : ℕ) → Bytes l → Bytes (l ++ bytes_of 2 x)
two l x h = bytes_append l (bytes_of 2 x) h (bytes_bytes_of 2 x)

four : (l : List ℕ) (x : ℕ) → Bytes l → Bytes (l ++ bytes_of 4 x)
four l x h = bytes_append l (bytes_of 4 x) h (bytes_bytes_of 4 x)

eight : (l : List ℕ) (x : ℕ) → Bytes l → Bytes (l ++ bytes_of 8 x)
eight l x h = bytes_append l (bytes_of 8 x) h (bytes_bytes_of 8 x)

head_bytes_lem : (b : NodeBuild) (es : List Entry) → Bytes (head_bytes b es)
unfolding head_bytes
head_bytes_lem b es =
    two _ _ (two _ _ (two _ _ (two _ _ (two _ _ (two _ _
    (two _ _ (two _ _ (four _ _ (two _ _ (two _ _ (four _ _ (four _ _ (eight _ _ (bytes_bytes_of 8 b.oid))))))))))))))

info_bytes_lem : (t : BTreeInfo) → Bytes (info_bytes t)
unfolding info_bytes
info_bytes_lem t = eight _ _ (eight _ _ (four _ _ (four _ _ (four _ _ (four _ _ (four _ _ (bytes_bytes_of 4 t.flags)))))))

tail_bytes : (root : Bool) (t : BTreeInfo) → Bytes (cond root (info_bytes t) [])
tail_bytes true t = info_bytes_lem t
tail_bytes false t = bytes_nil

sealed_bytes : (l : List ℕ) → Bytes l → Bytes (sealed l)
unfolding sealed
sealed_bytes l h = bytes_splice l 0 (bytes_of 8 (fletcher l)) h (bytes_bytes_of 8 (fletcher l))

pub pack_bytes : (b : NodeBuild) (es : List Entry) → KeyBytes es → ValueBytes es → Bytes (pack_node b es)
unfolding pack_node
pack_bytes b es k v =
    let t : BTreeInfo = b.info in
    let contents : ℕ = toc_length t b.root b.level (length es) in
    let free : ℕ = data_space t.node_size b.root - contents - keys_length t es - values_length t es in
    let z : (n : ℕ) → Bytes (replicate n 0) = λ n. bytes_replicate n 0 (omega arith) in
    sealed_bytes _
    (bytes_append _ _
    (bytes_append _ _
    (bytes_append _ _
    (bytes_append _ _
    (bytes_append _ _ (bytes_append _ _ (z 8) (head_bytes_lem b es)) (pad_bytes contents (toc b.info 0 0 es) (toc_bytes b.info 0 0 es)))
    (key_area_bytes b.info es k))
    (z free))
    (value_area_bytes b.info es v))
    (tail_bytes b.root b.info))
