-- Wrong answers, one table: for each public contract an input, what its definition gives there, and two wrong answers that it rules out.
-- laws/WrongAnswersRuledOut has the result. A contract is an equality to the definition, so what the definition does not give no program may answer.
use Rattle.std.specs.Prelude.{List, [], ◌∷◌, ◌++◌, Bool, true, false, ◌&&◌, not, ℕ, ◌+◌, Some, None, replicate, length, get_or, take, drop, leb}
use Rattle.std.specs.Ordering.{is_eq}
use Prim.Native.String.{String}
use Rattle.seal.specs.Bytes.{window, splice, moved, bytes_of, u16_at, u32_at, u64_at}
use Rattle.seal.specs.Checksum.{fletcher, verified, sealed}
use Rattle.seal.specs.Obj.{header_at, header_bytes, kind_of, storage_of}
use Rattle.node.specs.Result.{Result}
use Rattle.node.specs.Order.{pair, byte, known, keyed_length, less, pair_key}
use Rattle.node.specs.Entry.{Entry, Val, ghost, leaf, disk, value_length, value_bytes}
use Rattle.node.specs.Records.{mark_of, record_bytes, record_of, records_of, mark_length, record_length, entry_of, records_length, entries_of}
use Rattle.node.specs.Find.{place_of, is_there, not_above}
use Rattle.node.specs.Fit.{align8, padded, data_space, toc_slots, toc_length, fits_sums, fits, packed_length}
use Rattle.node.specs.Cut.{cut}
use Rattle.node.specs.Read.{OnDisk, info_at, parsed, is_fixed, span_at, is_ghost, entry_at, entries_from, read_node}
use Rattle.node.specs.Slot.{head_at, head_words, insert_at, remove_at, with_key, with_value, records_hold, is_child, suit, suits, key_length_holds, value_length_holds, child_means}
use Rattle.node.specs.internal.SlotSteps.{lengths_of, longer_of, read_head, records_stand}
use Rattle.node.specs.internal.Sought.{compared}
use Rattle.node.specs.declared.val.Child.TheVariants as child
use Rattle.node.specs.Pack.{child_number, pack_node}
use Rattle.node.specs.declared.info.BTreeInfo.{BTreeInfo}
use Rattle.node.specs.declared.fit.Lengths.{Lengths}
use Rattle.node.specs.declared.read.Node.{Node}
use Rattle.node.specs.Place.{Place}
use Rattle.node.specs.declared.read.Span.{Span}
use Rattle.tree.specs.Lent as lend
use Rattle.tree.specs.Lent.{is_size, sizes_hold, lent_of}
use Rattle.tree.specs.State.{State, node_at, with_counts}
use Rattle.tree.specs.Workspace.{state_of, workspace_holds, edits}
use Rattle.tree.specs.Hold.{info_holds, lent_holds}
use Rattle.tree.specs.Load.{address_of}
use Rattle.tree.specs.Lookup.{Got}
use Rattle.tree.specs.Upsert.{upsert}
use Rattle.tree.specs.Remove.{remove}
use Rattle.tree.specs.Omap.{omap_value, omap_drop, omap_put}
use Rattle.tree.specs.Answers.{opened_in, got_in, got_output, floored_in, floored_output, ranged_in, ranged_output}
use Rattle.tree.specs.declared.lent.Lent.{Lent}
use Rattle.tree.specs.declared.editor.Tree.{Tree}
use Rattle.flush.specs.Flush.{Lists}
use Rattle.flush.specs.Answers.{flushed_in}
use Rattle.flush.specs.Space.{Space, Choice, first_zero, is_used, mark_used, first_free, zeros, choose, allocated, usable, chunks_hold, space_holds}
use Rattle.history.specs.Cases.{same, number, outcome, tree512, pairs, children, root_of, on_tree, versions}

-- a row: the contract, what its definition gives, what that is, and two answers that are wrong
pub record Row : Type 0 where
  pub contract : String
  pub gives : List ℕ
  pub right : List ℕ
  pub wrong : List ℕ
  pub wrong' : List ℕ

abbrev pub all_ruled_out : List Row → Bool
all_ruled_out [] = true
all_ruled_out (r ∷ rs) = same r.gives r.right && not (same r.gives r.wrong) && not (same r.gives r.wrong') && all_ruled_out rs

-- ---- what the rows are about

-- eight bytes
unfoldable pub eight : List ℕ
eight = 1 ∷ 2 ∷ 3 ∷ 4 ∷ 5 ∷ 6 ∷ 7 ∷ 8 ∷ []

-- two entries: key 1 2 with value 9, key 3 a ghost; and their records, with three bytes behind
unfoldable pub two : List Entry
two = record { key = 1 ∷ 2 ∷ []; value = leaf (9 ∷ []) } ∷ record { key = 3 ∷ []; value = ghost } ∷ []

unfoldable pub slot : List ℕ
slot = records_of two ++ 7 ∷ 7 ∷ 7 ∷ []

-- the head words of one slot, and a number in each
unfoldable pub words : List ℕ
words = 1 ∷ 2 ∷ 12 ∷ 1 ∷ 40 ∷ 1 ∷ 50 ∷ 0 ∷ 0 ∷ []

-- variable lengths, 512 bytes a node; keys and values of 16
unfoldable pub loose : BTreeInfo
loose = tree512 0 0

unfoldable pub tight : BTreeInfo
tight = tree512 16 16

-- a packed leaf with the two entries, as a root at address 7
unfoldable pub block : List ℕ
block = pack_node (record { oid = 7; xid = 2; otype = 0x40000002; subtype = 11; level = 0; root = true; info = loose }) two

unfoldable pub place : Place
place = record { root = true; oid = 7; parent = 0; ksize = 0; vsize = 0; bounded = false }

unfoldable pub node : Node
node = parsed place block

-- a node that was read: its refusal, or its level and its entries' records
unfoldable pub read_as : Result OnDisk → List ℕ
read_as r = outcome (λ d. d.node.level ∷ records_of d.entries) r

unfoldable pub span_numbers : Span → List ℕ
span_numbers s = s.key ∷ s.klen ∷ s.voff ∷ s.vlen ∷ []

unfoldable pub lengths_numbers : Lengths → List ℕ
lengths_numbers s = s.at ∷ s.keys ∷ s.values ∷ []

-- eight blocks, of which the last is that leaf; one slot, and no map or one whose root is at block 0
unfoldable pub image : List ℕ
image = replicate 3584 0 ++ block

unfoldable pub lent : Lent
lent = record { size = 512; slots = 1; map = None }

unfoldable pub mapped : Lent
mapped = record { size = 512; slots = 1; map = Some 0 }

-- the leaf opened: its tree in an order, its words with a shadow's and a mark, its bytes with a shadow's
unfoldable pub tree : ℕ → Tree
tree order = record { root = 0; used = 1; info = loose; by_id = false; subtype = 11; order = record { code = order }; xid = 2 }

unfoldable pub heads : List ℕ
heads = 0 ∷ 2 ∷ 12 ∷ 1 ∷ 7 ∷ 0 ∷ 0 ∷ 0 ∷ 0 ∷ replicate 10 0

unfoldable pub bytes : List ℕ
bytes = slot ++ replicate 4081 0

-- the same words, with a dirty mark that is none; and without entries
unfoldable pub unmarked : List ℕ
unmarked = splice heads 7 (2 ∷ [])

unfoldable pub empty : List ℕ
empty = splice heads 1 (0 ∷ 0 ∷ [])

-- a tree that was opened: its refusal, or its order, its transaction, how many slots it uses, its root's level, block and records
unfoldable pub opened_as : Result State → List ℕ
opened_as r =
    outcome
    (λ s. s.order ∷ s.xid ∷ length s.nodes ∷ (node_at s s.root).level ∷ (node_at s s.root).block ++ records_of (node_at s s.root).entries)
    r

unfoldable pub address_as : Result ℕ → List ℕ
address_as r = outcome (λ a. a ∷ []) r

-- refusal 1 passed, of these words
unfoldable pub held_as : ℕ → List ℕ → ℕ
held_as order hs = number (workspace_holds 512 1 1 hs bytes && lent_holds (lent_of image lent) (state_of 512 (tree order) hs bytes))

-- what a key holds: its refusal; or 0, then nothing, or a value's mark and bytes
unfoldable pub value_as : List Val → List ℕ
value_as [] = []
value_as (v ∷ vs) = mark_of v ∷ value_bytes v

unfoldable pub got_as : Result (Got Val) → List ℕ
got_as r = outcome (λ g. value_as g.answer) r

-- get of a key in the leaf, with so much room for its value
unfoldable pub got : ℕ → List ℕ → Result (Got Val)
got room k = got_in (lent_of image lent) (tree byte) heads bytes room k

-- the same tree with its two entries counted
unfoldable pub counted : Tree
counted = record { root = 0; used = 1; info = with_counts loose 2 1; by_id = false; subtype = 11; order = record { code = byte }; xid = 2 }

-- what floor and range find: a refusal; or 0, and the records of what was found
unfoldable pub found_as : Result (Got Entry) → List ℕ
found_as r = outcome (λ g. records_of g.answer) r

-- floor of a key in the leaf, range from one to another, with so much room for records
unfoldable pub floored : ℕ → List ℕ → Result (Got Entry)
floored room k = floored_in (lent_of image lent) (tree byte) heads bytes room k

unfoldable pub ranged : ℕ → List ℕ → List ℕ → Result (Got Entry)
ranged room lo hi = ranged_in (lent_of image lent) (tree byte) heads bytes room lo hi

unfoldable pub entry : List ℕ → Val → Entry
entry k v = record { key = k; value = v }

-- an edit of the leaf, with so many bytes of scratch: its refusal; or 0, the key count, and the root's records
unfoldable pub edited : ℕ → Tree → List ℕ → (State → Result State) → List ℕ
edited n t hs f = edited_as (edits 512 1 t hs bytes (replicate n 0) f)
  where
    edited_as : Result State → List ℕ
    edited_as r = outcome (λ s. s.info.key_count ∷ records_of (node_at s s.root).entries) r

unfoldable pub upserts : List ℕ → Val → State → Result State
upserts k v s = upsert (lent_of image lent) s k v

-- a remove of a key of the leaf: its refusal; or 0, whether it was there, the key count, and the root's records
unfoldable pub removed : Tree → List ℕ → List ℕ
removed t k =
    outcome (λ r. number r.present ∷ r.state.info.key_count ∷ records_of (node_at r.state r.state.root).entries)
    (edits 512 1 t heads bytes (replicate 2048 0) (λ s. remove (lent_of image lent) s k))

-- an edit of an object map with two versions of id 5
unfoldable pub map_edited : ℕ → ℕ → (lend.Lent → State → Result State) → List ℕ
map_edited o k f = on_tree (tree512 k k) o versions (λ l s. outcome (λ u. u.info.key_count ∷ records_of (node_at u u.root).entries) (f l s))

-- one chunk of 16 blocks, of which block 9 is free
unfoldable pub space : Space
space = record { bitmap = 0xFF ∷ 0xFD ∷ replicate 510 0; counts = 16 ∷ []; free = 1 ∷ [] }

unfoldable pub chosen : List Choice → List ℕ
chosen [] = []
chosen (x ∷ xs) = x.block ∷ x.chunk ∷ chosen xs

-- the leaf changed; eight blocks of which those at 0 and 7 are used, or all; report lists of so many items each
unfoldable pub dirtied : List ℕ
dirtied = splice heads 7 (1 ∷ [])

unfoldable pub roomy : Space
roomy = record { bitmap = 0x81 ∷ replicate 511 0; counts = 8 ∷ []; free = 6 ∷ [] }

unfoldable pub full : Space
full = record { bitmap = 0xFF ∷ replicate 511 0; counts = 8 ∷ []; free = 0 ∷ [] }

unfoldable pub lists : ℕ → Lists
lists n = record { freed = n; removed = n; moved = n }

-- a flush of the leaf: its refusal; or 0, the root, allocated, freed and keys, and the blocks freed
unfoldable pub flushed : Space → ℕ → List ℕ → List ℕ
flushed p n hs =
    outcome (λ f. f.root ∷ f.allocated ∷ f.freed_count ∷ f.keys ∷ f.after.freed)
    (flushed_in (lent_of image lent) p (lists n) (tree byte) hs bytes 3 0)

-- ---- the table: seal

unfoldable pub seal_rows : List Row
seal_rows =
    record { contract = "bytes::field_at::<1>"; gives = get_or eight 2 0 ∷ []; right = 3 ∷ []; wrong = 2 ∷ []; wrong' = 0 ∷ [] }
    ∷ record { contract = "bytes::field_at::<2>"; gives = u16_at eight 1 ∷ []; right = 0x0302 ∷ []; wrong = 0x0203 ∷ []; wrong' = 0x0201 ∷ [] }
    ∷ record {
      contract = "bytes::field_at::<4>";
      gives = u32_at eight 1 ∷ [];
      right = 0x05040302 ∷ [];
      wrong = 0x02030405 ∷ [];
      wrong' = 0x0302 ∷ [];
    }
    ∷ record {
      contract = "bytes::field_at::<8>";
      gives = u64_at eight 0 ∷ [];
      right = 0x0807060504030201 ∷ [];
      wrong = 0x0102030405060708 ∷ [];
      wrong' = 0x04030201 ∷ [];
    }
    ∷ record {
      contract = "bytes::put_field::<2>";
      gives = splice eight 1 (bytes_of 2 0xABCD);
      right = 1 ∷ 0xCD ∷ 0xAB ∷ 4 ∷ 5 ∷ 6 ∷ 7 ∷ 8 ∷ [];
      wrong = 1 ∷ 0xAB ∷ 0xCD ∷ 4 ∷ 5 ∷ 6 ∷ 7 ∷ 8 ∷ [];
      wrong' = eight;
    }
    ∷ record {
      contract = "bytes::put_field::<4>";
      gives = splice eight 4 (bytes_of 4 1);
      right = 1 ∷ 2 ∷ 3 ∷ 4 ∷ 1 ∷ 0 ∷ 0 ∷ 0 ∷ [];
      wrong = 1 ∷ 2 ∷ 3 ∷ 4 ∷ 1 ∷ 0 ∷ 7 ∷ 8 ∷ [];
      wrong' = 1 ∷ 2 ∷ 3 ∷ 1 ∷ 0 ∷ 0 ∷ 0 ∷ 8 ∷ [];
    }
    ∷ record {
      contract = "bytes::put_field::<8>";
      gives = splice eight 0 (bytes_of 8 0x0102);
      right = 2 ∷ 1 ∷ 0 ∷ 0 ∷ 0 ∷ 0 ∷ 0 ∷ 0 ∷ [];
      wrong = 0 ∷ 0 ∷ 0 ∷ 0 ∷ 0 ∷ 0 ∷ 1 ∷ 2 ∷ [];
      wrong' = 2 ∷ 1 ∷ 0 ∷ 0 ∷ 5 ∷ 6 ∷ 7 ∷ 8 ∷ [];
    }
    ∷ record {
      contract = "bytes::copy_to";
      gives = splice eight 2 (9 ∷ 8 ∷ []);
      right = 1 ∷ 2 ∷ 9 ∷ 8 ∷ 5 ∷ 6 ∷ 7 ∷ 8 ∷ [];
      wrong = 1 ∷ 2 ∷ 9 ∷ 4 ∷ 5 ∷ 6 ∷ 7 ∷ 8 ∷ [];
      wrong' = 1 ∷ 9 ∷ 8 ∷ 4 ∷ 5 ∷ 6 ∷ 7 ∷ 8 ∷ [];
    }
    ∷ record {
      contract = "bytes::shift: down";
      gives = moved eight 2 1 4;
      right = 1 ∷ 3 ∷ 4 ∷ 5 ∷ 6 ∷ 6 ∷ 7 ∷ 8 ∷ [];
      wrong = 1 ∷ 6 ∷ 6 ∷ 6 ∷ 6 ∷ 6 ∷ 7 ∷ 8 ∷ [];
      wrong' = 1 ∷ 3 ∷ 4 ∷ 5 ∷ 5 ∷ 6 ∷ 7 ∷ 8 ∷ [];
    }
    ∷ record {
      contract = "bytes::shift: up";
      gives = moved eight 1 2 4;
      right = 1 ∷ 2 ∷ 2 ∷ 3 ∷ 4 ∷ 5 ∷ 7 ∷ 8 ∷ [];
      wrong = 1 ∷ 2 ∷ 2 ∷ 2 ∷ 2 ∷ 2 ∷ 7 ∷ 8 ∷ [];
      wrong' = 1 ∷ 2 ∷ 2 ∷ 3 ∷ 4 ∷ 6 ∷ 7 ∷ 8 ∷ [];
    }
    ∷ record {
      contract = "bytes::clear";
      gives = splice eight 3 (replicate 2 0);
      right = 1 ∷ 2 ∷ 3 ∷ 0 ∷ 0 ∷ 6 ∷ 7 ∷ 8 ∷ [];
      wrong = 1 ∷ 2 ∷ 3 ∷ 0 ∷ 0 ∷ 0 ∷ 7 ∷ 8 ∷ [];
      wrong' = 1 ∷ 2 ∷ 3 ∷ 0 ∷ 5 ∷ 6 ∷ 7 ∷ 8 ∷ [];
    }
    ∷ record {
      contract = "checksum::compute";
      gives = fletcher (replicate 32 0) ∷ [];
      right = 0xFFFFFFFFFFFFFFFF ∷ [];
      wrong = 0 ∷ [];
      wrong' = 0xFFFFFFFF ∷ [];
    }
    ∷ record {
      contract = "checksum::stored";
      gives = u64_at eight 0 ∷ [];
      right = 0x0807060504030201 ∷ [];
      wrong = 0x04030201 ∷ [];
      wrong' = 0x08070605 ∷ [];
    }
    ∷ record {
      contract = "checksum::verify";
      gives = number (verified (sealed (replicate 32 5))) ∷ number (verified (replicate 32 5)) ∷ [];
      right = 1 ∷ 0 ∷ [];
      wrong = 1 ∷ 1 ∷ [];
      wrong' = 0 ∷ 0 ∷ [];
    }
    ∷ record {
      contract = "checksum::seal";
      gives = sealed (replicate 16 0);
      right = replicate 8 0xFF ++ replicate 8 0;
      wrong = replicate 16 0;
      wrong' = replicate 16 0xFF;
    }
    ∷ record {
      contract = "ObjHeader::parse";
      gives = (header_at block).oid ∷ (header_at block).xid ∷ (header_at block).obj_type ∷ (header_at block).subtype ∷ [];
      right = 7 ∷ 2 ∷ 0x40000002 ∷ 11 ∷ [];
      wrong = 2 ∷ 7 ∷ 0x40000002 ∷ 11 ∷ [];
      wrong' = 7 ∷ 2 ∷ 11 ∷ 0x40000002 ∷ [];
    }
    ∷ record {
      contract = "ObjHeader::write";
      gives = header_bytes (record { cksum = 9; oid = 7; xid = 2; obj_type = 3; subtype = 11 });
      right = 7 ∷ replicate 7 0 ++ 2 ∷ replicate 7 0 ++ 3 ∷ replicate 3 0 ++ 11 ∷ replicate 3 0;
      wrong = 9 ∷ replicate 7 0 ++ 7 ∷ replicate 7 0 ++ 2 ∷ replicate 7 0;
      wrong' = 2 ∷ replicate 7 0 ++ 7 ∷ replicate 7 0 ++ 3 ∷ replicate 3 0 ++ 11 ∷ replicate 3 0;
    }
    ∷ record { contract = "obj::kind_of"; gives = kind_of 0x40010002 ∷ []; right = 2 ∷ []; wrong = 0x10002 ∷ []; wrong' = 1 ∷ [] }
    ∷ record { contract = "obj::storage_of"; gives = storage_of 0x40000002 ∷ []; right = 0x40000000 ∷ []; wrong = 2 ∷ []; wrong' = 1 ∷ [] }
    ∷ []

-- ---- node: orders and heads

unfoldable pub order_rows : List Row
order_rows =
    record {
      contract = "Order::known";
      gives = number (known 0) ∷ number (known 1) ∷ number (known 2) ∷ [];
      right = 1 ∷ 1 ∷ 0 ∷ [];
      wrong = 1 ∷ 1 ∷ 1 ∷ [];
      wrong' = 1 ∷ 0 ∷ 0 ∷ [];
    }
    ∷ record {
      contract = "Order::keyed";
      gives = number (keyed_length pair 16) ∷ number (keyed_length pair 17) ∷ number (keyed_length byte 17) ∷ [];
      right = 1 ∷ 0 ∷ 1 ∷ [];
      wrong = 1 ∷ 1 ∷ 1 ∷ [];
      wrong' = 1 ∷ 0 ∷ 0 ∷ [];
    }
    ∷ record {
      contract = "Order::less";
      gives = number (less pair (pair_key 1 9) (pair_key 2 0)) ∷ number (less pair (pair_key 256 0) (pair_key 1 0)) ∷ number
          (less byte (1 ∷ []) (1 ∷ 0 ∷ [])) ∷ number (less byte (2 ∷ []) (1 ∷ 0 ∷ [])) ∷ [];
      right = 1 ∷ 0 ∷ 1 ∷ 0 ∷ [];
      wrong = 1 ∷ 1 ∷ 1 ∷ 0 ∷ [];
      wrong' = 1 ∷ 0 ∷ 0 ∷ 0 ∷ [];
    }
    ∷ record {
      contract = "Order::pair_key";
      gives = pair_key 5 3;
      right = 5 ∷ replicate 7 0 ++ 3 ∷ replicate 7 0;
      wrong = 3 ∷ replicate 7 0 ++ 5 ∷ replicate 7 0;
      wrong' = 5 ∷ replicate 7 0 ++ 5 ∷ replicate 7 0;
    }
    ∷ record {
      contract = "Order::compare";
      gives = number (is_eq (compared byte (1 ∷ []) (1 ∷ []))) ∷ number (is_eq (compared byte (1 ∷ []) (1 ∷ 1 ∷ []))) ∷ [];
      right = 1 ∷ 0 ∷ [];
      wrong = 1 ∷ 1 ∷ [];
      wrong' = 0 ∷ 0 ∷ [];
    }
    ∷ record {
      contract = "Head::load";
      gives = head_words (head_at (replicate 9 3 ++ words) 1);
      right = words;
      wrong = replicate 9 3;
      wrong' = replicate 9 0;
    }
    ∷ record {
      contract = "Head::store";
      gives = splice (replicate 18 3) 9 (head_words (head_at words 0));
      right = replicate 9 3 ++ words;
      wrong = words ++ replicate 9 3;
      wrong' = replicate 18 3;
    }
    ∷ record {
      contract = "BTreeInfo::parse";
      gives = (info_at block).node_size ∷ (info_at block).key_size ∷ [];
      right = 512 ∷ 0 ∷ [];
      wrong = 0 ∷ 512 ∷ [];
      wrong' = 0 ∷ 0 ∷ [];
    }
    ∷ []

-- ---- node: records in a slot

unfoldable pub record_rows : List Row
record_rows =
    record {
      contract = "record::mark_length";
      gives = mark_length 5 ∷ mark_length 0xFFFF ∷ mark_length 0xFFFE ∷ [];
      right = 5 ∷ 0 ∷ 8 ∷ [];
      wrong = 5 ∷ 8 ∷ 8 ∷ [];
      wrong' = 5 ∷ 0 ∷ 0xFFFE ∷ [];
    }
    ∷ record {
      contract = "Record::next, Record::parts";
      gives = record_length slot ∷ record_length (drop 7 slot) ∷ [];
      right = 7 ∷ 5 ∷ [];
      wrong = 3 ∷ 5 ∷ [];
      wrong' = 7 ∷ 4 ∷ [];
    }
    ∷ record {
      contract = "Record::at";
      gives = number (leb (7 + record_length (drop 7 slot)) (length slot)) ∷ number (leb (7 + record_length (drop 7 slot)) 11) ∷ [];
      right = 1 ∷ 0 ∷ [];
      wrong = 1 ∷ 1 ∷ [];
      wrong' = 0 ∷ 0 ∷ [];
    }
    ∷ record {
      contract = "Record::value: a child";
      gives = number (is_child (entry_of slot).value) ∷ number (is_child (disk 3)) ∷ [];
      right = 0 ∷ 1 ∷ [];
      wrong = 1 ∷ 1 ∷ [];
      wrong' = 0 ∷ 0 ∷ [];
    }
    ∷ record {
      contract = "Record::suits";
      gives = number (suit true (entry_of slot)) ∷ number (suit false (entry_of slot)) ∷ [];
      right = 1 ∷ 0 ∷ [];
      wrong = 1 ∷ 1 ∷ [];
      wrong' = 0 ∷ 1 ∷ [];
    }
    ∷ record {
      contract = "record::put";
      gives = record_bytes (1 ∷ 2 ∷ []) 1 (9 ∷ []);
      right = 2 ∷ 0 ∷ 1 ∷ 0 ∷ 1 ∷ 2 ∷ 9 ∷ [];
      wrong = 1 ∷ 0 ∷ 2 ∷ 0
          ∷ 1 ∷ 2 ∷ 9 ∷ [];
      wrong' = 2 ∷ 0 ∷ 1 ∷ 0 ∷ 9 ∷ 1 ∷ 2 ∷ [];
    }
    ∷ record {
      contract = "record::put_value";
      gives = record_of (record { key = 1 ∷ 2 ∷ []; value = leaf (9 ∷ []) });
      right = 2 ∷ 0 ∷ 1 ∷ 0 ∷ 1 ∷ 2 ∷ 9 ∷ [];
      wrong = 1 ∷ 0 ∷ 2 ∷ 0
          ∷ 1 ∷ 2 ∷ 9 ∷ [];
      wrong' = 2 ∷ 0 ∷ 1 ∷ 0 ∷ 9 ∷ 1 ∷ 2 ∷ [];
    }
    ∷ record { contract = "Records::offset_of"; gives = records_length 1 slot ∷ []; right = 7 ∷ []; wrong = 0 ∷ []; wrong' = 12 ∷ [] }
    ∷ record {
      contract = "slot::records_hold";
      gives = number (records_hold 2 12 slot) ∷ number (records_hold 2 11 slot) ∷ [];
      right = 1 ∷ 0 ∷ [];
      wrong = 1 ∷ 1 ∷ [];
      wrong' = 0 ∷ 0 ∷ [];
    }
    ∷ record {
      contract = "stands::check: what the entries hold";
      gives = number (suits true (entries_of 2 slot)) ∷ number (suits false (entries_of 2 slot)) ∷ [];
      right = 1 ∷ 0 ∷ [];
      wrong = 1 ∷ 1 ∷ [];
      wrong' = 0 ∷ 0 ∷ [];
    }
    ∷ record { contract = "Record::key"; gives = (entry_of slot).key; right = 1 ∷ 2 ∷ []; wrong = 9 ∷ []; wrong' = 2 ∷ 0 ∷ [] }
    ∷ record {
      contract = "Record::value";
      gives = value_length (entry_of slot).value ∷ value_bytes (entry_of slot).value ++ value_length (entry_of (drop 7 slot)).value ∷ [];
      right = 1 ∷ 9 ∷ 0 ∷ [];
      wrong = 2 ∷ 1 ∷ 2 ∷ 0 ∷ [];
      wrong' = 1 ∷ 9 ∷ 8 ∷ [];
    }
    ∷ record {
      contract = "Records::below";
      gives = place_of byte (3 ∷ []) two ∷ number (is_there byte (3 ∷ []) two) ∷ place_of byte (2 ∷ []) two ∷ number (is_there byte (2 ∷ []) two)
          ∷ [];
      right = 1 ∷ 1 ∷ 1 ∷ 0 ∷ [];
      wrong = 2 ∷ 1 ∷ 1 ∷ 0 ∷ [];
      wrong' = 1 ∷ 1 ∷ 1 ∷ 1 ∷ [];
    }
    ∷ record {
      contract = "Records::not_above";
      gives = not_above byte (3 ∷ []) two ∷ not_above byte (0 ∷ []) two ∷ [];
      right = 2 ∷ 0 ∷ [];
      wrong = 1 ∷ 0 ∷ [];
      wrong' = 2 ∷ 1 ∷ [];
    }
    ∷ record {
      contract = "slot::insert";
      gives = records_of (insert_at 1 (record { key = 2 ∷ []; value = leaf [] }) two);
      right = take 7 slot ++ 1 ∷ 0 ∷ 0 ∷ 0 ∷ 2 ∷ [] ++ take 5 (drop 7 slot);
      wrong = 1 ∷ 0 ∷ 0 ∷ 0 ∷ 2 ∷ [] ++ take 12 slot;
      wrong' = take 12 slot;
    }
    ∷ record {
      contract = "slot::remove";
      gives = records_of (remove_at 0 two);
      right = take 5 (drop 7 slot);
      wrong = take 7 slot;
      wrong' = take 12 slot;
    }
    ∷ record {
      contract = "slot::set_key";
      gives = records_of (with_key 1 (3 ∷ 3 ∷ []) two);
      right = take 7 slot ++ 2 ∷ 0 ∷ 0xFF ∷ 0xFF ∷ 3 ∷ 3 ∷ [];
      wrong = take 7 slot ++ 1 ∷ 0 ∷ 0xFF ∷ 0xFF ∷ 3 ∷ 3 ∷ [];
      wrong' = take 12 slot;
    }
    ∷ record {
      contract = "slot::relink";
      gives = records_of (with_value 0 (child_means (child.Mem 5)) (record { key = 1 ∷ []; value = disk 9 } ∷ []));
      right = 1 ∷ 0 ∷ 0xFD ∷ 0xFF ∷ 1 ∷ 5 ∷ replicate 7 0;
      wrong = 1 ∷ 0 ∷ 0xFE ∷ 0xFF ∷ 1 ∷ 5 ∷ replicate 7 0;
      wrong' = 1 ∷ 0 ∷ 0xFD ∷ 0xFF ∷ 1 ∷ 9 ∷ replicate 7 0;
    }
    ∷ record {
      contract = "stands::key_holds";
      gives = number (key_length_holds pair tight 16) ∷ number (key_length_holds pair loose 17) ∷ number (key_length_holds byte tight 15)
          ∷ number (key_length_holds byte loose 15) ∷ [];
      right = 1 ∷ 0 ∷ 0 ∷ 1 ∷ [];
      wrong = 1 ∷ 0 ∷ 1 ∷ 1 ∷ [];
      wrong' = 1 ∷ 1 ∷ 0 ∷ 1 ∷ [];
    }
    ∷ record {
      contract = "stands::value_holds";
      gives = number (value_length_holds tight 16) ∷ number (value_length_holds tight 8) ∷ number (value_length_holds loose 8) ∷ [];
      right = 1 ∷ 0 ∷ 1 ∷ [];
      wrong = 1 ∷ 1 ∷ 1 ∷ [];
      wrong' = 1 ∷ 0 ∷ 0 ∷ [];
    }
    ∷ record {
      contract = "stands::check";
      gives = number (records_stand byte loose true 2 12 slot) ∷ number (records_stand byte loose true 2 11 slot) ∷ number
          (records_stand byte loose false 2 12 slot)
          ∷ number (records_stand byte loose true 2 12 (take 5 (drop 7 slot) ++ take 7 slot)) ∷ [];
      right = 1 ∷ 0 ∷ 0 ∷ 0 ∷ [];
      wrong = 1 ∷ 0 ∷ 0 ∷ 1 ∷ [];
      wrong' = 1 ∷ 1 ∷ 0 ∷ 0 ∷ [];
    }
    ∷ record {
      contract = "slot::set_value";
      gives = records_of (with_value 1 (leaf []) two);
      right = take 7 slot ++ 1 ∷ 0 ∷ 0 ∷ 0 ∷ 3 ∷ [];
      wrong = take 12 slot;
      wrong' = take 7 slot ++ 1 ∷ 0 ∷ 1 ∷ 0 ∷ 3 ∷ [];
    }
    ∷ []

-- ---- node: fitting and cutting

unfoldable pub fit_rows : List Row
fit_rows =
    record {
      contract = "room::padded: of eight bytes";
      gives = align8 8 ∷ align8 9 ∷ [];
      right = 8 ∷ 16 ∷ [];
      wrong = 16 ∷ 16 ∷ [];
      wrong' = 8 ∷ 8 ∷ [];
    }
    ∷ record { contract = "room::padded"; gives = padded loose 9 ∷ []; right = 16 ∷ []; wrong = 9 ∷ []; wrong' = 8 ∷ [] }
    ∷ record {
      contract = "room::data_space";
      gives = data_space 512 true ∷ data_space 512 false ∷ [];
      right = 416 ∷ 456 ∷ [];
      wrong = 456 ∷ 456 ∷ [];
      wrong' = 416 ∷ 416 ∷ [];
    }
    ∷ record {
      contract = "Shape::toc_slots";
      gives = toc_slots loose true 0 17 ∷ toc_slots tight true 0 1 ∷ [];
      right = 24 ∷ 16 ∷ [];
      wrong = 17 ∷ 16
          ∷ [];
      wrong' = 24 ∷ 11 ∷ [];
    }
    ∷ record {
      contract = "Shape::toc_length";
      gives = toc_length loose true 0 17 ∷ toc_length tight true 0 1 ∷ [];
      right = 192 ∷ 64 ∷ [];
      wrong = 192 ∷ 128 ∷ [];
      wrong' = 96 ∷ 64 ∷ [];
    }
    ∷ record {
      contract = "Shape::fits_sums";
      gives = number (fits_sums loose true 0 1 288) ∷ number (fits_sums loose true 0 1 289) ∷ [];
      right = 1 ∷ 0 ∷ [];
      wrong = 0 ∷ 0 ∷ [];
      wrong' = 1 ∷ 1 ∷ [];
    }
    ∷ record {
      contract = "SlotNode::fits";
      gives = number (fits tight true 0 (pairs 12 0)) ∷ number (fits tight false 0 (pairs 12 0)) ∷ number (fits tight true 1 (children 14 0)) ∷ [];
      right = 0 ∷ 1 ∷ 1 ∷ [];
      wrong = 1 ∷ 1 ∷ 1 ∷ [];
      wrong' = 0 ∷ 1 ∷ 0 ∷ [];
    }
    ∷ record {
      contract = "Lengths::longer";
      gives = lengths_numbers (longer_of loose slot (record { at = 0; keys = 0; values = 0 }));
      right = 7 ∷ 8 ∷ 8 ∷ [];
      wrong = 7 ∷ 2 ∷ 1 ∷ [];
      wrong' = 7 ∷ 8 ∷ 0 ∷ [];
    }
    ∷ record {
      contract = "Records::lengths";
      gives = lengths_numbers (lengths_of loose 2 slot);
      right = 12 ∷ 16 ∷ 8 ∷ [];
      wrong = 12 ∷ 8 ∷ 8 ∷ [];
      wrong' = 7 ∷ 8 ∷ 8 ∷ [];
    }
    ∷ record { contract = "flush: fill"; gives = packed_length loose true 0 two ∷ []; right = 152 ∷ []; wrong = 132 ∷ []; wrong' = 24 ∷ [] }
    ∷ record {
      contract = "SlotNode::cut";
      gives = outcome (λ c. c ∷ []) (cut tight 0 (pairs 13 0)) ++ outcome (λ c. c ∷ []) (cut tight 0 (pairs 1 0));
      right = 0 ∷ 6 ∷ 13 ∷ [];
      wrong = 0 ∷ 7 ∷ 13 ∷ [];
      wrong' = 0 ∷ 6 ∷ 14 ∷ [];
    }
    ∷ []

-- ---- node: a block read and packed

unfoldable pub block_rows : List Row
block_rows =
    record {
      contract = "Node::parse";
      gives = node.level ∷ node.nkeys ∷ node.keys ∷ node.vals ∷ [];
      right = 0 ∷ 2 ∷ 184 ∷ 472 ∷ [];
      wrong = 0 ∷ 2 ∷ 128 ∷ 472 ∷ [];
      wrong' = 0 ∷ 2 ∷ 184 ∷ 512 ∷ [];
    }
    ∷ record { contract = "Node::is_fixed"; gives = number (is_fixed node) ∷ []; right = 0 ∷ []; wrong = 1 ∷ []; wrong' = 2 ∷ [] }
    ∷ record {
      contract = "read::span_at";
      gives = span_numbers (span_at node block 0);
      right = 184 ∷ 2 ∷ 8 ∷ 1 ∷ [];
      wrong = 0 ∷ 2 ∷ 8 ∷ 1 ∷ [];
      wrong' = 184 ∷ 8 ∷ 8 ∷ 8 ∷ [];
    }
    ∷ record {
      contract = "read::is_ghost";
      gives = number (is_ghost (span_at node block 0)) ∷ number (is_ghost (span_at node block 1)) ∷ [];
      right = 0 ∷ 1 ∷ [];
      wrong = 0 ∷ 0 ∷ [];
      wrong' = 1 ∷ 1 ∷ [];
    }
    ∷ record {
      contract = "read::key_in";
      gives = window (span_at node block 0).key (span_at node block 0).klen block;
      right = 1 ∷ 2 ∷ [];
      wrong = 1 ∷ 2 ∷ replicate 6 0;
      wrong' = 2 ∷ 1 ∷ [];
    }
    ∷ record {
      contract = "ReadEntry::value, ReadEntry::child";
      gives = value_bytes (entry_at node block 0).value ++ value_length (entry_at node block 1).value ∷ [];
      right = 9 ∷ 0 ∷ [];
      wrong = 0 ∷ 0 ∷ [];
      wrong' = 9 ∷ 8 ∷ [];
    }
    ∷ record {
      contract = "read::read_node";
      gives = read_as (read_node byte place [] [] block) ++ read_as (read_node byte place [] [] (splice block 100 (1 ∷ [])));
      right = 0 ∷ 0 ∷ records_of two ++ 3 ∷ [];
      wrong = 0 ∷ 0 ∷ records_of two ++ 0 ∷ 0 ∷ records_of two;
      wrong' = 6 ∷ 3 ∷ [];
    }
    ∷ record {
      contract = "ReadNode::not_above";
      gives = not_above byte (3 ∷ []) (entries_from node block 0 2) ∷ not_above byte (2 ∷ []) (entries_from node block 0 2) ∷ [];
      right = 2 ∷ 1 ∷ [];
      wrong = 1 ∷ 1 ∷ [];
      wrong' = 2 ∷ 2 ∷ [];
    }
    ∷ record {
      contract = "head::head_of";
      gives = head_words (read_head node 12 40 true);
      right = 0 ∷ 2 ∷ 12 ∷ 1 ∷ 40 ∷ 1 ∷ 7 ∷ 0 ∷ 0 ∷ [];
      wrong = 0 ∷ 2 ∷ 12 ∷ 1 ∷ 7 ∷ 1 ∷ 40 ∷ 0 ∷ 0 ∷ [];
      wrong' = 0 ∷ 2 ∷ 12 ∷ 1 ∷ 40 ∷ 1 ∷ 7 ∷ 1 ∷ 0 ∷ [];
    }
    ∷ record {
      contract = "ReadNode::adopt";
      gives = records_of (entries_from node block 0 2);
      right = take 12 slot;
      wrong = take 7 slot;
      wrong' = 1 ∷ 2 ∷ 9 ∷ 3 ∷ [];
    }
    ∷ record {
      contract = "pack::child_number";
      gives = child_number words true 0 ∷ child_number words false 0 ∷ child_number words true 1 ∷ [];
      right = 50 ∷ 40 ∷ 0 ∷ [];
      wrong = 40 ∷ 50 ∷ 0 ∷ [];
      wrong' = 50 ∷ 40 ∷ 50 ∷ [];
    }
    ∷ record {
      contract = "pack::pack";
      gives = window 56 8 block ++ window 184 2 block ++ window 464 1 block ++ window 40 4 block;
      right = 0 ∷ 0 ∷ 2 ∷ 0 ∷ 8 ∷ 0 ∷ 1 ∷ 0 ∷ 1 ∷ 2 ∷ 9 ∷ 0 ∷ 0 ∷ 128 ∷ 0 ∷ [];
      wrong = 0 ∷ 0 ∷ 2 ∷ 0 ∷ 1 ∷ 0 ∷ 1 ∷ 0 ∷ 1 ∷ 2 ∷ 9 ∷ 0 ∷ 0 ∷ 128 ∷ 0 ∷ [];
      wrong' = 0 ∷ 0 ∷ 2 ∷ 0 ∷ 8 ∷ 0 ∷ 1 ∷ 0 ∷ 1 ∷ 2 ∷ 0 ∷ 0 ∷ 0 ∷ 128 ∷ 0 ∷ [];
    }
    ∷ []

-- ---- tree: what is lent, open, get

unfoldable pub tree_rows : List Row
tree_rows =
    record {
      contract = "lent::is_size";
      gives = number (is_size 512) ∷ number (is_size 768) ∷ number (is_size 131072) ∷ [];
      right = 1 ∷ 0 ∷ 0 ∷ [];
      wrong = 1 ∷ 1 ∷ 0 ∷ [];
      wrong' = 1 ∷ 0 ∷ 1 ∷ [];
    }
    ∷ record {
      contract = "lent::sizes_hold";
      gives = number (sizes_hold (lent_of image lent)) ∷ number (sizes_hold (lent_of (0 ∷ image) lent)) ∷ number (sizes_hold (lent_of [] lent)) ∷ [];
      right = 1 ∷ 0 ∷ 0 ∷ [];
      wrong = 1 ∷ 1 ∷ 0 ∷ [];
      wrong' = 1 ∷ 0 ∷ 1 ∷ [];
    }
    ∷ record {
      contract = "lent::info_holds";
      gives = number (info_holds (tree512 0xFFFFFFFF 0)) ∷ number (info_holds (tree512 0x100000000 0))
          ∷ number (info_holds (tree512 0 0x100000000)) ∷ [];
      right = 1 ∷ 0 ∷ 0 ∷ [];
      wrong = 0 ∷ 0 ∷ 0 ∷ [];
      wrong' = 1 ∷ 0 ∷ 1 ∷ [];
    }
    ∷ record {
      contract = "lent::lent_holds: a dirty mark of 2; keys that pair order cannot hold";
      gives = held_as byte heads ∷ held_as byte unmarked ∷ held_as pair heads ∷ held_as pair empty ∷ [];
      right = 1 ∷ 0 ∷ 0 ∷ 1 ∷ [];
      wrong = 1 ∷ 1 ∷ 0 ∷ 1 ∷ [];
      wrong' = 1 ∷ 0 ∷ 1 ∷ 1 ∷ [];
    }
    ∷ record {
      contract = "Blocks::address_of: of transactions 8 and 2, and without a map";
      gives = address_as (address_of (lent_of (root_of tight 0 versions) mapped) 8 5) ++ address_as
          (address_of (lent_of (root_of tight 0 versions) mapped) 2 5) ++ address_as (address_of (lent_of (root_of tight 0 versions) lent) 8 5);
      right = 0 ∷ 3 ∷ 18 ∷ 0 ∷ 5 ∷ [];
      wrong = 0 ∷ 9 ∷ 18 ∷ 0 ∷ 5 ∷ [];
      wrong' = 0 ∷ 3 ∷ 0 ∷ 3 ∷ 0 ∷ 5 ∷ [];
    }
    ∷ record {
      contract = "lookup::open: accepted";
      gives = opened_as (opened_in (lent_of image lent) heads bytes 7 byte 2);
      right = 0 ∷ 1 ∷ 2 ∷ 1 ∷ 0 ∷ 7 ∷ take 12 slot;
      wrong = 0 ∷ 1 ∷ 2 ∷ 1 ∷ 0 ∷ 7 ∷ take 7 slot;
      wrong' = 0 ∷ 1 ∷ 2 ∷ 1 ∷ 0 ∷ 0 ∷ take 12 slot;
    }
    ∷ record {
      contract = "lookup::open: a block past the image; one that is not sealed; an order that is none; words too few";
      gives = opened_as (opened_in (lent_of image lent) heads bytes 8 byte 2) ++ opened_as (opened_in (lent_of image lent) heads bytes 6 byte 2)
          ++ opened_as (opened_in (lent_of image lent) heads bytes 8 2 2) ++ opened_as (opened_in (lent_of image lent) (drop 1 heads) bytes 7 byte 2);
      right = 2 ∷ 3 ∷ 1 ∷ 1 ∷ [];
      wrong = 2 ∷ 3 ∷ 2 ∷ 1 ∷ [];
      wrong' = 2 ∷ 4 ∷ 1 ∷ 1 ∷ [];
    }
    ∷ record {
      contract = "Tree::get: a value";
      gives = got_as (got 3 (1 ∷ 2 ∷ []));
      right = 0 ∷ 1 ∷ 9 ∷ [];
      wrong = 0 ∷ [];
      wrong' = 0 ∷ 0xFFFF ∷ [];
    }
    ∷ record { contract = "Tree::get: a ghost"; gives = got_as (got 3 (3 ∷ [])); right = 0 ∷ 0xFFFF ∷ []; wrong = 0 ∷ []; wrong' = 0 ∷ 0 ∷ [] }
    ∷ record { contract = "Tree::get: none"; gives = got_as (got 3 (1 ∷ [])); right = 0 ∷ []; wrong = 0 ∷ 1 ∷ 9 ∷ []; wrong' = 0 ∷ 0xFFFF ∷ [] }
    ∷ record {
      contract = "Tree::get: no room; a ghost needs none; a dirty mark of 2; a key that pair order cannot hold";
      gives = got_as (got 0 (1 ∷ 2 ∷ [])) ++ got_as (got 0 (3 ∷ [])) ++ got_as (got_in (lent_of image lent) (tree byte) unmarked bytes 0 (1 ∷ 2 ∷ []))
          ++ got_as (got_in (lent_of image lent) (tree pair) empty bytes 3 (1 ∷ 2 ∷ []));
      right = 20 ∷ 0 ∷ 0xFFFF ∷ 1 ∷ 12 ∷ [];
      wrong = 20 ∷ 0 ∷ 0xFFFF ∷ 20 ∷ 12 ∷ [];
      wrong' = 20 ∷ 20 ∷ 1 ∷ 12 ∷ [];
    }
    ∷ record {
      contract = "Tree::get: the output of a value, of a ghost and of a refusal";
      gives = got_output (5 ∷ 6 ∷ []) (got 2 (1 ∷ 2 ∷ [])) ++ got_output (5 ∷ 6 ∷ []) (got 2 (3 ∷ []))
          ++ got_output (5 ∷ 6 ∷ []) (got 0 (1 ∷ 2 ∷ []));
      right = 9 ∷ 6 ∷ 5 ∷ 6 ∷ 5 ∷ 6 ∷ [];
      wrong = 9 ∷ 0 ∷ 5 ∷ 6 ∷ 5 ∷ 6 ∷ [];
      wrong' = 9 ∷ 6 ∷ 5 ∷ 6 ∷ 9 ∷ 6 ∷ [];
    }
    ∷ []

-- ---- tree: the other calls

unfoldable pub call_rows : List Row
call_rows =
    record {
      contract = "Tree::floor: between two keys, at a ghost's key, below every key";
      gives = found_as (floored 7 (2 ∷ [])) ++ found_as (floored 7 (3 ∷ [])) ++ found_as (floored 7 (1 ∷ []));
      right = 0 ∷ 2 ∷ 0 ∷ 1 ∷ 0 ∷ 1 ∷ 2 ∷ 9 ∷ 0 ∷ 1 ∷ 0 ∷ 255 ∷ 255 ∷ 3 ∷ 0 ∷ [];
      wrong = 0 ∷ 1 ∷ 0 ∷ 255 ∷ 255 ∷ 3 ∷ 0 ∷ 1 ∷ 0 ∷ 255 ∷ 255 ∷ 3 ∷ 0 ∷ [];
      wrong' = 0 ∷ 2 ∷ 0 ∷ 1 ∷ 0 ∷ 1 ∷ 2 ∷ 9 ∷ 0 ∷ 2 ∷ 0 ∷ 1 ∷ 0 ∷ 1 ∷ 2 ∷ 9 ∷ 0 ∷ [];
    }
    ∷ record {
      contract = "Tree::floor: no room; none needs none; a dirty mark of 2; a key that pair order cannot hold";
      gives = found_as (floored 6 (2 ∷ [])) ++ found_as (floored 0 (1 ∷ []))
          ++ found_as (floored_in (lent_of image lent) (tree byte) unmarked bytes 0 (2 ∷ []))
          ++ found_as (floored_in (lent_of image lent) (tree pair) empty bytes 7 (2 ∷ []));
      right = 20 ∷ 0 ∷ 1 ∷ 12 ∷ [];
      wrong = 20 ∷ 20 ∷ 1 ∷ 12 ∷ [];
      wrong' = 20 ∷ 0 ∷ 20 ∷ 12 ∷ [];
    }
    ∷ record {
      contract = "Tree::floor: the output of an entry and of a refusal";
      gives = floored_output (replicate 8 5) (floored 8 (2 ∷ [])) ++ floored_output (5 ∷ 6 ∷ []) (floored 2 (2 ∷ []));
      right = 2 ∷ 0 ∷ 1 ∷ 0 ∷ 1 ∷ 2 ∷ 9 ∷ 5 ∷ 5 ∷ 6 ∷ [];
      wrong = 2 ∷ 0 ∷ 1 ∷ 0 ∷ 1 ∷ 2 ∷ 9 ∷ 0 ∷ 5 ∷ 6 ∷ [];
      wrong' = 2 ∷ 0 ∷ 1 ∷ 0 ∷ 1 ∷ 2 ∷ 9 ∷ 5 ∷ 2 ∷ 0 ∷ [];
    }
    ∷ record {
      contract = "Tree::range: without its upper end; all; an upper end below; no room";
      gives = found_as (ranged 7 (1 ∷ 2 ∷ []) (3 ∷ []))
          ++ found_as (ranged 12 (0 ∷ []) (9 ∷ []))
          ++ found_as (ranged 12 (9 ∷ []) (0 ∷ []))
          ++ found_as (ranged 11 (0 ∷ []) (9 ∷ []));
      right = (0 ∷ records_of (entry (1 ∷ 2 ∷ []) (leaf (9 ∷ [])) ∷ [])) ++ (0 ∷ records_of two) ++ (0 ∷ []) ++ 20 ∷ [];
      wrong = (0 ∷ records_of two) ++ (0 ∷ records_of two) ++ (0 ∷ []) ++ 20 ∷ [];
      wrong' = (0 ∷ records_of (entry (1 ∷ 2 ∷ []) (leaf (9 ∷ [])) ∷ [])) ++ (0 ∷ records_of two) ++ (0 ∷ records_of two) ++ 20 ∷ [];
    }
    ∷ record {
      contract = "Tree::range: the output of an entry and of a refusal";
      gives = ranged_output (replicate 8 5) (ranged 8 (1 ∷ 2 ∷ []) (3 ∷ [])) ++ ranged_output (5 ∷ 6 ∷ []) (ranged 2 (1 ∷ 2 ∷ []) (3 ∷ []));
      right = 2 ∷ 0 ∷ 1 ∷ 0 ∷ 1 ∷ 2 ∷ 9 ∷ 5 ∷ 5 ∷ 6 ∷ [];
      wrong = 2 ∷ 0 ∷ 1 ∷ 0 ∷ 1 ∷ 2 ∷ 9 ∷ 0 ∷ 5 ∷ 6 ∷ [];
      wrong' = 2 ∷ 0 ∷ 1 ∷ 0 ∷ 1 ∷ 2 ∷ 9 ∷ 5 ∷ 2 ∷ 0 ∷ [];
    }
    ∷ record {
      contract = "Tree::upsert: a new key in its place";
      gives = edited 2048 counted heads (upserts (2 ∷ []) (leaf (8 ∷ [])));
      right = 0 ∷ 3 ∷ records_of (entry (1 ∷ 2 ∷ []) (leaf (9 ∷ [])) ∷ entry (2 ∷ []) (leaf (8 ∷ [])) ∷ entry (3 ∷ []) ghost ∷ []);
      wrong = 0 ∷ 3 ∷ records_of (entry (1 ∷ 2 ∷ []) (leaf (9 ∷ [])) ∷ entry (3 ∷ []) ghost ∷ entry (2 ∷ []) (leaf (8 ∷ [])) ∷ []);
      wrong' = 0 ∷ 2 ∷ records_of (entry (1 ∷ 2 ∷ []) (leaf (9 ∷ [])) ∷ entry (2 ∷ []) (leaf (8 ∷ [])) ∷ entry (3 ∷ []) ghost ∷ []);
    }
    ∷ record {
      contract = "Tree::upsert: a key that is there";
      gives = edited 2048 counted heads (upserts (1 ∷ 2 ∷ []) (leaf (8 ∷ 8 ∷ [])));
      right = 0 ∷ 2 ∷ records_of (entry (1 ∷ 2 ∷ []) (leaf (8 ∷ 8 ∷ [])) ∷ entry (3 ∷ []) ghost ∷ []);
      wrong = 0 ∷ 3 ∷ records_of (entry (1 ∷ 2 ∷ []) (leaf (8 ∷ 8 ∷ [])) ∷ entry (3 ∷ []) ghost ∷ []);
      wrong' = 0 ∷ 2 ∷ records_of two;
    }
    ∷ record {
      contract = "Tree::upsert: a scratch too short; a dirty mark of 2; a key that pair order cannot hold; an entry too large beside others";
      gives = edited 2047 counted heads (upserts (2 ∷ []) ghost) ++ edited 2048 counted unmarked (upserts (2 ∷ []) ghost)
          ++ edited 2048 (tree pair) empty (upserts (2 ∷ []) ghost) ++ edited 2048 counted heads (upserts (2 ∷ []) (leaf (replicate 600 0)));
      right = 1 ∷ 1 ∷ 12 ∷ 14 ∷ [];
      wrong = 1 ∷ 1 ∷ 12 ∷ 13 ∷ [];
      wrong' = 1 ∷ 12 ∷ 12 ∷ 14 ∷ [];
    }
    ∷ record {
      contract = "Tree::remove: a key that is there, one that is not; none is counted";
      gives = removed counted (1 ∷ 2 ∷ []) ++ removed counted (2 ∷ []) ++ removed (tree byte) (1 ∷ 2 ∷ []);
      right = (0 ∷ 1 ∷ 1 ∷ records_of (entry (3 ∷ []) ghost ∷ [])) ++ (0 ∷ 0 ∷ 2 ∷ records_of two) ++ 17 ∷ [];
      wrong = (0 ∷ 1 ∷ 1 ∷ records_of (entry (1 ∷ 2 ∷ []) (leaf (9 ∷ [])) ∷ [])) ++ (0 ∷ 0 ∷ 2 ∷ records_of two) ++ 17 ∷ [];
      wrong' = (0 ∷ 1 ∷ 1 ∷ records_of (entry (3 ∷ []) ghost ∷ [])) ++ (0 ∷ 1 ∷ 2 ∷ records_of two) ++ 17 ∷ [];
    }
    ∷ record {
      contract = "Tree::omap_drop: every version of an id; an id that has none; a tree that is no object map";
      gives = map_edited pair 16 (λ l s. omap_drop l s 5) ++ map_edited pair 16 (λ l s. omap_drop l s 4)
          ++ map_edited byte 16 (λ l s. omap_drop l s 5);
      right = (0 ∷ 0 ∷ []) ++ (0 ∷ 2 ∷ records_of versions) ++ 12 ∷ [];
      wrong = (0 ∷ 1 ∷ records_of (drop 1 versions)) ++ (0 ∷ 2 ∷ records_of versions) ++ 12 ∷ [];
      wrong' = (0 ∷ 0 ∷ []) ++ (0 ∷ 0 ∷ []) ++ 12 ∷ [];
    }
    ∷ record {
      contract = "Tree::omap_put: its version, and no other";
      gives = map_edited pair 16 (λ l s. omap_put l s 5 10 7 512);
      right = 0 ∷ 1 ∷ records_of (entry (pair_key 5 10) (leaf (omap_value 512 7)) ∷ []);
      wrong = 0 ∷ 3 ∷ records_of (versions ++ entry (pair_key 5 10) (leaf (omap_value 512 7)) ∷ []);
      wrong' = 0 ∷ 1 ∷ records_of (entry (pair_key 5 10) (leaf (omap_value 7 512)) ∷ []);
    }
    ∷ []

-- ---- flush: blocks

unfoldable pub space_rows : List Row
space_rows =
    record {
      contract = "space::first_zero";
      gives = first_zero 0xFB ∷ first_zero 255 ∷ [];
      right = 2 ∷ 8 ∷ [];
      wrong = 2 ∷ 7 ∷ [];
      wrong' = 3 ∷ 8 ∷ [];
    }
    ∷ record {
      contract = "space::is_used";
      gives = number (is_used (0 ∷ 2 ∷ []) 9) ∷ number (is_used (0 ∷ 2 ∷ []) 8) ∷ [];
      right = 1 ∷ 0 ∷ [];
      wrong = 0 ∷ 0 ∷ [];
      wrong' = 1 ∷ 1 ∷ [];
    }
    ∷ record { contract = "space::mark_used"; gives = mark_used (1 ∷ 2 ∷ []) 10; right = 1 ∷ 6 ∷ []; wrong = 1 ∷ 4 ∷ []; wrong' = 5 ∷ 2 ∷ [] }
    ∷ record {
      contract = "space::first_free";
      gives = first_free (0xFF ∷ 0xFD ∷ []) 16 0 ++ first_free (0xFF ∷ []) 8 0;
      right = 9 ∷ [];
      wrong = 8 ∷ [];
      wrong' = 9 ∷ 8 ∷ [];
    }
    ∷ record { contract = "space::zeros"; gives = zeros (0xF0 ∷ 0 ∷ []) 6 2 ∷ []; right = 2 ∷ []; wrong = 4 ∷ []; wrong' = 6 ∷ [] }
    ∷ record { contract = "Chunks::choose"; gives = chosen (choose 512 space); right = 9 ∷ 0 ∷ []; wrong = 8 ∷ 0 ∷ []; wrong' = [] }
    ∷ record {
      contract = "space::alloc";
      gives = take 2 (allocated 512 space).bitmap ++ (allocated 512 space).free;
      right = 0xFF ∷ 0xFF ∷ 0 ∷ [];
      wrong = 0xFF ∷ 0xFF ∷ 1 ∷ [];
      wrong' = 0xFF ∷ 0xFD ∷ 0 ∷ [];
    }
    ∷ record {
      contract = "Chunks::usable";
      gives = usable 512 space ∷ usable 512
          (record { bitmap = replicate 512 0; counts = 16 ∷ []; free = 3 ∷ [] }) ∷ [];
      right = 1 ∷ 3 ∷ [];
      wrong = 1 ∷ 16 ∷ [];
      wrong' = 0 ∷ 3 ∷ [];
    }
    ∷ record {
      contract = "space::chunks_hold";
      gives = number (chunks_hold 512 16 0 (16 ∷ [])) ∷ number (chunks_hold 512 15 0 (16 ∷ [])) ∷ [];
      right = 1 ∷ 0 ∷ [];
      wrong = 1 ∷ 1 ∷ [];
      wrong' = 0 ∷ 0 ∷ [];
    }
    ∷ record {
      contract = "space::space_holds";
      gives = number (space_holds 512 16 space) ∷ number (space_holds 512 16 (record { bitmap = []; counts = 16 ∷ []; free = 1 ∷ [] })) ∷ [];
      right = 1 ∷ 0 ∷ [];
      wrong = 1 ∷ 1 ∷ [];
      wrong' = 0 ∷ 0 ∷ [];
    }
    ∷ []

-- ---- flush: the call

unfoldable pub flush_rows : List Row
flush_rows =
    record {
      contract = "flush::flush: a dirty root takes the first free block, and its old one is freed";
      gives = flushed roomy 1 dirtied;
      right = 0 ∷ 1 ∷ 1 ∷ 1 ∷ 0 ∷ 7 ∷ [];
      wrong = 0 ∷ 7 ∷ 1 ∷ 1 ∷ 0 ∷ 7 ∷ [];
      wrong' = 0 ∷ 1 ∷ 1 ∷ 0 ∷ 0 ∷ [];
    }
    ∷ record {
      contract = "flush::flush: nothing to write; no free block; a list too short; a dirty mark of 2";
      gives = flushed full 1 heads ++ flushed full 1 dirtied ++ flushed roomy 0 dirtied ++ flushed roomy 1 unmarked;
      right = (0 ∷ 7 ∷ 0 ∷ 0 ∷ 0 ∷ []) ++ 16 ∷ 1 ∷ 1 ∷ [];
      wrong = (0 ∷ 7 ∷ 0 ∷ 0 ∷ 0 ∷ []) ++ 16 ∷ 16 ∷ 1 ∷ [];
      wrong' = 16 ∷ 16 ∷ 1 ∷ 1 ∷ [];
    }
    ∷ []

unfoldable pub table : List Row
table = seal_rows ++ order_rows ++ record_rows ++ fit_rows ++ block_rows ++ tree_rows ++ call_rows ++ space_rows ++ flush_rows
