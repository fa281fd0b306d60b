-- Packing a node that fits (RULES: packing; `build` of btree_write.rs): a block as a list of bytes.
use Rattle.std.specs.Prelude.{List, [], ◌∷◌, ◌++◌, Bool, cond, ℕ, ◌+◌, ◌-◌, length, replicate, eqb}
use Rattle.seal.specs.Bytes.{bytes_of}
use Rattle.seal.specs.Checksum.{sealed}
use Rattle.node.specs.Entry.{Entry, Val, ghost, leaf, disk, mem, value_length, value_bytes}
use Rattle.node.specs.Fit.{padded, data_space, fixed, toc_length, keys_length, values_length}
use Rattle.node.specs.Slot.{head_at, node_of, number_of}
use Rattle.node.specs.declared.info.BTreeInfo.{BTreeInfo}
use Rattle.node.specs.declared.build.NodeBuild.{NodeBuild}

-- the number of the child in a slot, by the slot's words alone; 0 where it has none, or there is no such slot
unfoldable pub child_number : List ℕ → Bool → ℕ → ℕ
child_number heads by_id s = number_of by_id (node_of (head_at heads s) [])

unfoldable pub numbered_value : (ℕ → ℕ) → Val → Val
numbered_value f ghost = ghost
numbered_value f (leaf v) = leaf v
numbered_value f (disk r) = disk r
numbered_value f (mem s) = disk (f s)

-- an entry as it is packed: a child in a slot by its number. f: the numbers of slots
unfoldable pub numbered : (ℕ → ℕ) → Entry → Entry
numbered f e = record { key = e.key; value = numbered_value f e.value }

-- bytes with zeros up to n
unfoldable pub pad_to : ℕ → List ℕ → List ℕ
pad_to n bs = bs ++ replicate (n - length bs) 0

-- a value's offset in the contents: a ghost's is 0xFFFF
unfoldable pub value_offset : Val → ℕ → ℕ
value_offset ghost o = 0xFFFF
value_offset (leaf v) o = o
value_offset (disk r) o = o
value_offset (mem s) o = o

-- a contents slot: kvoff_t with fixed lengths, else kvloc_t
unfoldable pub toc_entry : BTreeInfo → ℕ → ℕ → Entry → List ℕ
toc_entry t ko vo e =
    cond (fixed t)
    (bytes_of 2 ko ++ bytes_of 2 (value_offset e.value vo))
    (bytes_of 2 ko ++ bytes_of 2 (length e.key) ++ bytes_of 2 (value_offset e.value vo) ++ bytes_of 2 (value_length e.value))

-- the contents: keys rise from ko, values fall from vo
unfoldable pub toc : BTreeInfo → ℕ → ℕ → List Entry → List ℕ
toc t ko vo [] = []
toc t ko vo (e ∷ es) =
    let vo' : ℕ = vo + padded t (value_length e.value) in
    toc_entry t ko vo' e ++ toc t (ko + padded t (length e.key)) vo' es

-- the key area: each key padded
unfoldable pub key_area : BTreeInfo → List Entry → List ℕ
key_area t [] = []
key_area t (e ∷ es) = pad_to (padded t (length e.key)) e.key ++ key_area t es

-- the value area: the first entry's value last, each padded behind
unfoldable pub value_area : BTreeInfo → List Entry → List ℕ
value_area t [] = []
value_area t (e ∷ es) = value_area t es ++ pad_to (padded t (value_length e.value)) (value_bytes e.value)

-- btn_flags: root 1, leaf 2, fixed lengths 4
unfoldable pub node_flags : NodeBuild → ℕ
node_flags b = cond b.root 1 0 + cond (eqb b.level 0) 2 0 + cond (fixed b.info) 4 0

-- obj_phys_t after the sum, and btree_node_phys_t: no free lists
unfoldable pub head_bytes : NodeBuild → List Entry → List ℕ
head_bytes b es =
    let t : BTreeInfo = b.info in
    let contents : ℕ = toc_length t b.root b.level (length es) in
    let free : ℕ = data_space t.node_size b.root - contents - keys_length t es - values_length t es in
    bytes_of 8 b.oid ++ bytes_of 8 b.xid ++ bytes_of 4 b.otype ++ bytes_of 4 b.subtype
    ++ bytes_of 2 (node_flags b) ++ bytes_of 2 b.level ++ bytes_of 4 (length es)
    ++ bytes_of 2 0 ++ bytes_of 2 contents
    ++ bytes_of 2 (keys_length t es) ++ bytes_of 2 free
    ++ bytes_of 2 0xFFFF ++ bytes_of 2 0 ++ bytes_of 2 0xFFFF ++ bytes_of 2 0

-- btree_info_t
unfoldable pub info_bytes : BTreeInfo → List ℕ
info_bytes t =
    bytes_of 4 t.flags ++ bytes_of 4 t.node_size ++ bytes_of 4 t.key_size ++ bytes_of 4 t.val_size
    ++ bytes_of 4 t.longest_key ++ bytes_of 4 t.longest_val ++ bytes_of 8 t.key_count ++ bytes_of 8 t.node_count

-- the block: header, contents, keys, zeros, values, in a root the tree info; sealed
unfoldable pub pack_node : NodeBuild → List Entry → List ℕ
pack_node b es =
    let t : BTreeInfo = b.info in
    let contents : ℕ = toc_length t b.root b.level (length es) in
    let free : ℕ = data_space t.node_size b.root - contents - keys_length t es - values_length t es in
    sealed
    (replicate 8 0 ++ head_bytes b es ++ pad_to contents (toc t 0 0 es) ++ key_area t es ++ replicate free 0 ++ value_area t es
    ++ cond b.root (info_bytes t) [])
