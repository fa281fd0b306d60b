-- Packing step by step: what each step writes into a block, and what it needs.
use Rattle.std.specs.Prelude.{◌≡◌, List, [], ◌∷◌, ◌++◌, true, cond, ℕ, ◌+◌, ◌-◌, ◌*◌, ◌≤◌, ◌^◌, length, replicate, drop, get_or, eqb}
use Rattle.seal.specs.Bytes.{splice, bytes_of}
use Rattle.seal.specs.Obj.{header_bytes, o_oid}
use Rattle.node.specs.Obj.{node_header, info_size}
use Rattle.node.specs.Entry.{Entry, value_length, value_bytes}
use Rattle.node.specs.Records.{record_length, records_length, entries_of}
use Rattle.node.specs.internal.SlotSteps.{parts_at}
use Rattle.node.specs.Fit.{padded, fixed, slot_width, data_space, toc_length, keys_length, values_length, Sized, fits}
use Rattle.node.specs.Pack.{toc_entry, node_flags, head_bytes, info_bytes}
use Rattle.node.specs.declared.info.BTreeInfo.{BTreeInfo}
use Rattle.node.specs.declared.build.NodeBuild.{NodeBuild}
use Rattle.node.specs.declared.pack.Spot.{Spot}

-- the number that follows its mark among the words of slot s; 0 without the mark, or where there are no such words
unfoldable pub marked_at : List ℕ → ℕ → ℕ → ℕ
marked_at heads s mark = cond (eqb (get_or heads (s * 9 + mark) 0) 1) (get_or heads (s * 9 + (mark + 1)) 0) 0

-- kvloc_t
unfoldable pub loc_bytes : ℕ → ℕ → ℕ → ℕ → List ℕ
loc_bytes ko kl vo vl = bytes_of 2 ko ++ bytes_of 2 kl ++ bytes_of 2 vo ++ bytes_of 2 vl

-- kvoff_t
unfoldable pub off_bytes : ℕ → ℕ → List ℕ
off_bytes ko vo = bytes_of 2 ko ++ bytes_of 2 vo

-- a contents slot by its numbers
unfoldable pub slot_bytes : BTreeInfo → ℕ → ℕ → ℕ → ℕ → List ℕ
slot_bytes t ko kl vo vl = cond (fixed t) (off_bytes ko vo) (loc_bytes ko kl vo vl)

-- an entry's key at ko in the key area, its value vo before the values' end, its contents slot at toc
unfoldable pub put_entry : BTreeInfo → ℕ → ℕ → ℕ → ℕ → ℕ → Entry → List ℕ → List ℕ
put_entry t keys vals toc ko vo e b =
    splice (splice (splice b (keys + ko) e.key) (vals - vo) (value_bytes e.value)) toc (toc_entry t ko vo e)

-- one entry after another
unfoldable pub put_entries : BTreeInfo → ℕ → ℕ → ℕ → ℕ → ℕ → List Entry → List ℕ → List ℕ
put_entries t keys vals toc ko vo [] b = b
put_entries t keys vals toc ko vo (e ∷ es) b =
    let vo' : ℕ = vo + padded t (value_length e.value) in
    put_entries t keys vals (toc + slot_width t) (ko + padded t (length e.key)) vo' es (put_entry t keys vals toc ko vo' e b)

-- how far packing has come after the record at a spot
unfoldable pub spot_after : BTreeInfo → List ℕ → Spot → Spot
spot_after t slot s =
    record {
      toc = s.toc + slot_width t;
      at = (parts_at slot s.at).next;
      key = s.key + padded t (parts_at slot s.at).klen;
      val = s.val + padded t (parts_at slot s.at).vlen;
    }

-- there is a record, and room for it
pub record Room (t : BTreeInfo) (keys vals : ℕ) (s : Spot) (slot block : List ℕ) : Type 0 where
  pub whole : s.at + record_length (drop s.at slot) ≤ length slot
  pub small : length slot ≤ 2 ^ 20
  pub contents : s.toc + slot_width t ≤ keys
  pub between : keys + (s.key + padded t (parts_at slot s.at).klen) + (s.val + padded t (parts_at slot s.at).vlen) ≤ vals
  pub inside : vals ≤ length block
  pub short : length block ≤ 2 ^ 16

-- there are n records, and room for them
pub record Rooms (t : BTreeInfo) (keys vals n : ℕ) (slot block : List ℕ) : Type 0 where
  pub whole : records_length n slot ≤ length slot
  pub small : length slot ≤ 2 ^ 20
  pub contents : node_header + n * slot_width t ≤ keys
  pub between : keys + keys_length t (entries_of n slot) + values_length t (entries_of n slot) ≤ vals
  pub inside : vals ≤ length block
  pub short : length block ≤ 2 ^ 16

-- btree_node_phys_t by its numbers, up to its free lists
unfoldable pub node_bytes : ℕ → ℕ → ℕ → ℕ → ℕ → ℕ → List ℕ
node_bytes flags level n toc keys free =
    bytes_of 2 flags ++ bytes_of 2 level ++ bytes_of 4 n ++ bytes_of 2 0 ++ bytes_of 2 toc ++ bytes_of 2 keys ++ bytes_of 2 free

-- no free lists
unfoldable pub no_lists : List ℕ
no_lists = bytes_of 2 0xFFFF ++ bytes_of 2 0 ++ bytes_of 2 0xFFFF ++ bytes_of 2 0

-- the header after the sum, by its numbers
unfoldable pub head_of : NodeBuild → ℕ → ℕ → ℕ → ℕ → List ℕ
head_of b n toc keys free =
    header_bytes (record { cksum = 0; oid = b.oid; xid = b.xid; obj_type = b.otype; subtype = b.subtype })
    ++ node_bytes (node_flags b) b.level n toc keys free
    ++ no_lists

-- a cleared block with entries and header, and in a root the tree info
unfoldable pub filled : NodeBuild → List Entry → List ℕ
filled b es =
    let t : BTreeInfo = b.info in
    let size : ℕ = t.node_size in
    let contents : ℕ = toc_length t b.root b.level (length es) in
    let entries : List ℕ = put_entries t (node_header + contents) (node_header + data_space size b.root) node_header 0 0 es (replicate size 0) in
    let head : List ℕ = splice entries o_oid.offset (head_bytes b es) in
    cond b.root (splice head (size - info_size) (info_bytes t)) head

-- a block of the tree's size, and n records that fit in it
pub record Packs (b : NodeBuild) (n : ℕ) (slot block : List ℕ) : Type 0 where
  pub sized : Sized b.info
  pub size : length block ≡ b.info.node_size
  pub whole : records_length n slot ≤ length slot
  pub small : length slot ≤ 2 ^ 20
  pub fit : fits b.info b.root b.level (entries_of n slot) ≡ true
