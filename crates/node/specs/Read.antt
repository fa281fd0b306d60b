-- Reading a node's block: the Reference's fields, and the load line from 3 to 9 (RULES: load-3 to load-9).
use Rattle.std.specs.Prelude.{List, [], ◌∷◌, Bool, true, cond, ◌&&◌, ◌||◌, not, ℕ, zero, suc, ◌+◌, ◌-◌, ◌*◌, length, leb, eqb, Ok, Err}
use Rattle.std.specs.Prelude as std
use Rattle.seal.specs.Bytes.{window, u16_at, u32_at, u64_at}
use Rattle.seal.specs.Checksum.{verified}
use Rattle.seal.specs.Obj as obj
use Rattle.node.specs.Result.{Result, ok, refused, ◌>>◌, check}
use Rattle.node.specs.Refusals as refusal
use Rattle.node.specs.Obj.{btn_flags, btn_level, btn_nkeys, btn_table_off, btn_table_len, node_header, info_size, is_node}
use Rattle.node.specs.Order.{less, keyed}
use Rattle.node.specs.Entry.{Entry, Val, ghost, leaf, disk, rising, every}
use Rattle.node.specs.Fit.{flag, data_space}
use Rattle.node.specs.declared.info.BTreeInfo.{BTreeInfo}
use Rattle.node.specs.declared.read.Node.{Node}
use Rattle.node.specs.declared.read.Span.{Span}
use Rattle.node.specs.Place.{Place}
use Rattle.node.specs.declared.refusal.Refusal.{Refusal}

-- btree_info_t, the last 40 bytes of a root
unfoldable pub info_at : List ℕ → BTreeInfo
info_at b =
    let i : ℕ = length b - info_size in
    record {
      flags = u32_at b i;
      node_size = u32_at b (i + 4);
      key_size = u32_at b (i + 8);
      val_size = u32_at b (i + 12);
      longest_key = u32_at b (i + 16);
      longest_val = u32_at b (i + 20);
      key_count = u64_at b (i + 24);
      node_count = u64_at b (i + 32);
    }

-- obj_phys_t and btree_node_phys_t, with the places that follow: contents, key area, end of the value area
unfoldable pub parsed : Place → List ℕ → Node
parsed p b =
    record {
      oid = obj.value_of obj.o_oid b;
      xid = obj.value_of obj.o_xid b;
      otype = obj.value_of obj.o_type b;
      subtype = obj.value_of obj.o_subtype b;
      flags = obj.value_of btn_flags b;
      level = obj.value_of btn_level b;
      nkeys = obj.value_of btn_nkeys b;
      toc = node_header + obj.value_of btn_table_off b;
      keys = node_header + obj.value_of btn_table_off b + obj.value_of btn_table_len b;
      vals = length b - cond p.root info_size 0;
      ksize = cond p.root (info_at b).key_size p.ksize;
      vsize = cond p.root (info_at b).val_size p.vsize;
    }

-- lengths are fixed: a stored key length other than 0
unfoldable pub is_fixed : Node → Bool
is_fixed v = not (eqb v.ksize 0)

-- a flag as it should be
abbrev pub same_bool : Bool → Bool → Bool
same_bool a b = cond a b (not b)

-- leaf flag against level 0, root flag or fixed flag against its place
unfoldable pub flags_hold : Place → Node → Bool
flags_hold p v =
    same_bool (flag v.flags 2) (eqb v.level 0)
    && same_bool (flag v.flags 1) p.root
    && same_bool (flag v.flags 4) (is_fixed v)

-- 6: contents or key area past the space, level > 32, a flag that does not hold, slots too few, id not the one wanted
unfoldable pub layout_holds : Place → Node → Bool
layout_holds p v =
    leb v.keys v.vals
    && leb v.level 32
    && flags_hold p v
    && leb (v.nkeys * cond (is_fixed v) 4 8) (v.keys - v.toc)
    && eqb v.oid p.oid

-- entry i of the contents: kvoff_t with fixed lengths (an index value is 8), else kvloc_t
unfoldable pub span_at : Node → List ℕ → ℕ → Span
span_at v b i =
    let f : ℕ = v.toc + i * 4 in
    let e : ℕ = v.toc + i * 8 in
    cond (is_fixed v)
    (record { key = v.keys + u16_at b f; klen = v.ksize; voff = u16_at b (f + 2); vlen = cond (eqb v.level 0) v.vsize 8 })
    (record { key = v.keys + u16_at b e; klen = u16_at b (e + 2); voff = u16_at b (e + 4); vlen = u16_at b (e + 6) })

-- offset 0xFFFF: the entry has no value
unfoldable pub is_ghost : Span → Bool
is_ghost s = eqb s.voff 0xFFFF

-- key and value lie in the block; an index child is 8 bytes and no ghost
unfoldable pub span_holds : Node → ℕ → Span → Bool
span_holds v size s =
    leb (s.key + s.klen) size
    && (is_ghost s || leb s.voff v.vals && leb (v.vals - s.voff + s.vlen) size)
    && (eqb v.level 0 || not (is_ghost s) && eqb s.vlen 8)

-- the bytes of an entry's key and value
unfoldable pub span_length : Span → ℕ
span_length s = s.klen + cond (is_ghost s) 0 s.vlen

-- n entries from entry i on: whether each lies in the block, and their bytes
unfoldable pub spans_hold : Node → List ℕ → ℕ → ℕ → Bool
spans_hold v b i zero = true
spans_hold v b i (suc n) = span_holds v (length b) (span_at v b i) && spans_hold v b (suc i) n

unfoldable pub spans_length : Node → List ℕ → ℕ → ℕ → ℕ
spans_length v b i zero = 0
spans_length v b i (suc n) = span_length (span_at v b i) + spans_length v b (suc i) n

-- 8: entry outside block, index child a ghost or not 8 bytes, entries longer in sum than the space, no keys in an index or a non-root
unfoldable pub entries_hold : Place → Node → List ℕ → Bool
entries_hold p v b =
    spans_hold v b 0 v.nkeys
    && leb (spans_length v b 0 v.nkeys) (data_space (length b) p.root)
    && (not (eqb v.nkeys 0) || p.root && eqb v.level 0)

-- the value of an entry: in an index node the child's number
unfoldable pub value_at : Node → List ℕ → Span → Val
value_at v b s =
    cond (is_ghost s) ghost
    (cond (eqb v.level 0) (leaf (window (v.vals - s.voff) s.vlen b)) (disk (u64_at b (v.vals - s.voff))))

unfoldable pub entry_at : Node → List ℕ → ℕ → Entry
entry_at v b i = let s : Span = span_at v b i in record { key = window s.key s.klen b; value = value_at v b s }

-- n entries from entry i on
unfoldable pub entries_from : Node → List ℕ → ℕ → ℕ → List Entry
entries_from v b i zero = []
entries_from v b i (suc n) = entry_at v b i ∷ entries_from v b (suc i) n

-- within the bounds that the nodes above set: not below the lower (a root has none), below the upper (if there is one)
unfoldable pub in_bounds : ℕ → Place → List ℕ → List ℕ → List ℕ → Bool
in_bounds o p lower upper k = (p.root || not (less o k lower)) && (not p.bounded || less o k upper)

-- keys that the order can hold, and that rise
unfoldable pub keys_rise : ℕ → List Entry → Bool
keys_rise o es = every (λ e. keyed o e.key) es && rising o es

unfoldable pub keys_within : ℕ → Place → List ℕ → List ℕ → List Entry → Bool
keys_within o p lower upper es = every (λ e. in_bounds o p lower upper e.key) es

-- 9: keys not rising, outside the bounds, or not 16 bytes in pair order. (With fixed lengths each entry has them.)
unfoldable pub keys_hold : ℕ → Place → List ℕ → List ℕ → List Entry → Bool
keys_hold o p lower upper es = keys_rise o es && keys_within o p lower upper es

-- a node that was read: its numbers and its entries
pub record OnDisk : Type 0 where
  pub node : Node
  pub entries : List Entry

unfoldable pub on_disk : Node → List ℕ → OnDisk
on_disk v b = record { node = v; entries = entries_from v b 0 v.nkeys }

-- the load line from 3 to 9
unfoldable pub read_node : ℕ → Place → List ℕ → List ℕ → List ℕ → Result OnDisk
read_node o p lower upper b = do
  let v : Node = parsed p b
  check refusal.fletcher (verified b)
  check refusal.kind (is_node v.otype)
  check refusal.hashed (not (flag v.flags 8))
  check refusal.layout (layout_holds p v)
  check refusal.level (p.root || eqb (v.level + 1) p.parent)
  check refusal.entry (entries_hold p v b)
  check refusal.keys (keys_hold o p lower upper (entries_from v b 0 v.nkeys))
  ok (on_disk v b)

-- what is taken of an answer that is no refusal
abbrev pub map_ok : {A B E : Type 0} → (A → B) → std.Result A E → std.Result B E
map_ok f (Err x) = Err x
map_ok f (Ok a) = Ok (f a)

-- what an answer of `read` means, of the block it read
unfoldable pub read_of : List ℕ → std.Result Node Refusal → Result OnDisk
read_of b (Err x) = refused (refusal.number_of x)
read_of b (Ok v) = ok (on_disk v b)
