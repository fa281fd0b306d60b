-- Wrong answers of the library's functions, one table: for each an input, the right answer, and two wrong ones that its contract rules out.
-- A row asks clauses of the contract itself, `answer`, `output`, `long` and `words`, each an equation, of the number returned and of the words,
-- bytes and lists after the call; `left` and `trusts`, which are about the slots that the next call gets, are not asked. The result is in
-- laws/WrongExportsRuledOut. What the calls do with a tree is in the table of crate history (WrongAnswers); here it is numbers and words.
-- A trusted function has the same clauses over the definition without 1 (`get_in` in the place of `got_in`), and so the same answers where what it
-- trusts holds: it has no row of its own.
use Rattle.std.specs.Prelude.{List, [], ◌∷◌, ◌++◌, Bool, true, false, ◌&&◌, not, ℕ, ◌-◌, replicate, length, drop, eqb, leb}
use Prim.Native.String.{String}
use Rattle.seal.specs.Bytes.{splice}
use Rattle.node.specs.Result.{Result, ok, refused}
use Rattle.node.specs.Order.{byte, pair_key}
use Rattle.node.specs.Entry.{Entry, Val, ghost, leaf, value_bytes}
use Rattle.node.specs.Records.{mark_of, records_of, records_length}
use Rattle.node.specs.Slot.{MemNode}
use Rattle.node.specs.Pack.{pack_node}
use Rattle.tree.specs.Lent.{lent_of}
use Rattle.tree.specs.State.{State}
use Rattle.tree.specs.Workspace.{edits}
use Rattle.tree.specs.Lookup.{Got}
use Rattle.tree.specs.Upsert.{upsert}
use Rattle.tree.specs.Remove as removing
use Rattle.tree.specs.Omap.{omap_value, omap_drop, omap_put}
use Rattle.tree.specs.Answers.{opened_of, opened_in, got_means, got_in, got_output, floor_means, floored_in, floored_output, range_means, ranged_in, ranged_output, put_value, edited_of, removed_of}
use Rattle.tree.specs.Lent as lend
use Rattle.tree.specs.declared.range.Ranged.{Ranged}
use Rattle.std.specs.Prelude.{Ok, Err}
use Rattle.std.specs.Prelude as std
use Rattle.node.specs.declared.refusal.Refusal.{Refusal}
use Rattle.flush.specs.Space.{Space, space_of}
use Rattle.flush.specs.Flush.{Flushed}
use Rattle.flush.specs.Answers.{lists_of, flushed_means, flushed_in}
use Rattle.moachest.specs.Words.{yes, mark, tree_of, words_of, lent_numbers, on_tree, on_words}
use Rattle.moachest.specs.Answers.{opened_tree, opened_back, got_tree, got_answer, got_back, floored_tree, floored_answer, floored_back, ranged_tree, ranged_answer, ranged_back, edited_tree, edited_back, removed_tree, removed_answer, removed_back, flushed_answer, flushed_back}
use Rattle.moachest.specs.Sizes.{workspace_words, workspace_bytes, scratch_bytes}

-- a row: the function, what is right, what is wrong twice; and whether its contract holds of each
pub record Row : Type 0 where
  pub says : String
  pub right : Bool
  pub wrong : Bool
  pub wrong' : Bool

abbrev pub all_ruled_out : List Row → Bool
all_ruled_out [] = true
all_ruled_out (r ∷ rs) = r.right && not r.wrong && not r.wrong' && all_ruled_out rs

-- ---- the two sides of a clause, as numbers: sides with other numbers are not equal

abbrev pub same : List ℕ → List ℕ → Bool
same [] [] = true
same [] (b ∷ k) = false
same (a ∷ l) [] = false
same (a ∷ l) (b ∷ k) = eqb a b && same l k

unfoldable pub listed : List ℕ → List ℕ
listed l = length l ∷ l

unfoldable pub node_numbers : List MemNode → List ℕ
node_numbers [] = []
node_numbers (m ∷ ms) =
    m.level ∷ mark m.dirty ∷ mark m.dead ∷ listed m.block ++ listed m.id ++ listed (records_of m.entries) ++ node_numbers ms

unfoldable pub state_numbers : State → List ℕ
state_numbers s =
    words_of
    (record {
      root = s.root;
      used = length s.nodes;
      info = s.info;
      by_id = s.virtual;
      subtype = s.subtype;
      order = record { code = s.order };
      xid = s.xid;
    })
    ++ node_numbers s.nodes

unfoldable pub value_numbers : List Val → List ℕ
value_numbers [] = []
value_numbers (v ∷ vs) = mark_of v ∷ value_bytes v

unfoldable pub pair_numbers : List (ℕ × ℕ) → List ℕ
pair_numbers [] = []
pair_numbers (p ∷ ps) = p.0 ∷ p.1 ∷ pair_numbers ps

unfoldable pub flush_numbers : Flushed → List ℕ
flush_numbers f =
    f.root ∷ f.allocated ∷ f.freed_count ∷ f.removed_count ∷ f.moved_count ∷ f.keys ∷ f.fill ∷ f.after.next ∷ f.after.allocated
    ∷ listed f.after.freed ++ listed f.after.removed ++ listed (pair_numbers f.after.moved) ++ listed f.after.space.bitmap
    ++ listed f.after.space.counts ++ listed f.after.space.free ++ listed (node_numbers f.after.nodes) ++ f.after.image

unfoldable pub outcome : {A : Type 0} → (A → List ℕ) → Result A → List ℕ
outcome f (refused n) = n ∷ []
outcome f (ok a) = 0 ∷ f a

-- ---- what is lent: a leaf in block 2 of three, open in the one slot

-- the tree's words: so many keys, the longest value
unfoldable pub words : ℕ → ℕ → List ℕ
words keys longest = 0 ∷ 1 ∷ 0 ∷ 512 ∷ 0 ∷ 0 ∷ 2 ∷ longest ∷ keys ∷ 1 ∷ 0 ∷ 11 ∷ 1 ∷ 2 ∷ []

-- two entries: key 1 2 with value 9, key 3 a ghost
unfoldable pub entry : List ℕ → Val → Entry
entry k v = record { key = k; value = v }

unfoldable pub two : List Entry
two = entry (1 ∷ 2 ∷ []) (leaf (9 ∷ [])) ∷ entry (3 ∷ []) ghost ∷ []

-- their leaf, packed for an address by a transaction
unfoldable pub packed : ℕ → ℕ → List ℕ
packed a xid =
    pack_node (record { oid = a; xid = xid; otype = 0x40000002; subtype = 11; level = 0; root = true; info = (tree_of (words 2 1)).info }) two

unfoldable pub image : List ℕ
image = replicate 1024 0 ++ packed 2 2

-- the image by numbers; the map's root, where there is a map, is block 0, which is not sealed
unfoldable pub lent : ℕ → lend.Lent
lent mapped = lent_of image (lent_numbers 512 1 mapped 0)

-- the slot's words and bytes with entries: its block, its dirty mark; its shadow's words and its mark are 0
unfoldable pub heads_of : ℕ → ℕ → List Entry → List ℕ
heads_of block dirty es = 0 ∷ length es ∷ length (records_of es) ∷ 1 ∷ block ∷ 0 ∷ 0 ∷ dirty ∷ 0 ∷ replicate 10 0

unfoldable pub bytes_of : List Entry → List ℕ
bytes_of es = records_of es ++ replicate (4096 - length (records_of es)) 0

unfoldable pub heads : List ℕ
heads = heads_of 2 0 two

unfoldable pub bytes : List ℕ
bytes = bytes_of two

-- words for an answer, none of them written
unfoldable pub sevens : List ℕ
sevens = replicate 8 7

-- ---- the clauses: what was lent, then what was returned and left

-- open: words, a map or none, the root's address
unfoldable pub opens : List ℕ → ℕ → ℕ → ℕ → List ℕ → Bool
opens w mapped root r w' =
    leb r 20
    && same (outcome state_numbers (opened_of 512 heads bytes (opened_back r w')))
    (outcome state_numbers (on_tree w (λ t. opened_in (lent mapped) (replicate 19 0) (replicate 4096 0) root byte 2)))
    && same w' (opened_tree w (opened_back r w'))

-- get: words, answer, key and output. The slot stays as it is, since the leaf is loaded
unfoldable pub gets : List ℕ → List ℕ → List ℕ → List ℕ → ℕ → List ℕ → List ℕ → List ℕ → Bool
gets w a k out r w' a' out' =
    let should : Result (Got Val) = on_words w a (λ t. got_in (lent 0) t heads bytes (length out) k) in
    leb r 20
    && same (outcome (λ g. state_numbers g.state ++ value_numbers g.answer) (got_means 512 heads bytes out' (got_back r w' a')))
    (outcome (λ g. state_numbers g.state ++ value_numbers g.answer) should)
    && same out' (got_output out should)
    && same w' (got_tree w (got_back r w' a'))
    && same a' (got_answer a (got_back r w' a'))

unfoldable pub found_numbers : Result (Got Entry) → List ℕ
found_numbers found = outcome (λ g. state_numbers g.state ++ records_of g.answer) found

-- floor: as get
unfoldable pub floors : List ℕ → List ℕ → List ℕ → List ℕ → ℕ → List ℕ → List ℕ → List ℕ → Bool
floors w a k out r w' a' out' =
    let should : Result (Got Entry) = on_words w a (λ t. floored_in (lent 0) t heads bytes (length out) k) in
    leb r 20
    && same (found_numbers (floor_means 512 heads bytes out' (floored_back r w' a'))) (found_numbers should)
    && same out' (floored_output out should)
    && same w' (floored_tree w (floored_back r w' a'))
    && same a' (floored_answer a (floored_back r w' a'))

-- range: words, answer, ends and output
unfoldable pub ranges : List ℕ → List ℕ → List ℕ → List ℕ → List ℕ → ℕ → List ℕ → List ℕ → List ℕ → Bool
ranges w a lo hi out r w' a' out' =
    let should : Result (Got Entry) = on_words w a (λ t. ranged_in (lent 0) t heads bytes (length out) lo hi) in
    leb r 20
    && same (found_numbers (range_means 512 heads bytes out' (ranged_back r w' a'))) (found_numbers should)
    && same out' (ranged_output out should)
    && long_holds (ranged_back r w' a')
    && same w' (ranged_tree w (ranged_back r w' a'))
    && same a' (ranged_answer a (ranged_back r w' a'))
  where
    long_holds : std.Result Ranged Refusal → Bool
    long_holds (Err x) = true
    long_holds (Ok g) = eqb g.length (records_length g.count out')

-- an edit: words, the slot's entries, the call; the number and the words after, and what entries the slot has then
unfoldable pub edited : List ℕ → List Entry → (State → Result State) → ℕ → List ℕ → List Entry → Bool
edited w es f r w' es' =
    leb r 20
    && same (outcome state_numbers (edited_of 512 (heads_of 2 1 es') (bytes_of es') (edited_back r w')))
    (outcome state_numbers (on_tree w (λ t. edits 512 1 t (heads_of 2 0 es) (bytes_of es) (replicate 2048 0) f)))
    && same w' (edited_tree w (edited_back r w'))

-- upsert: words, key, whether it is a ghost, value
unfoldable pub upserts : List ℕ → List ℕ → ℕ → List ℕ → ℕ → List ℕ → List Entry → Bool
upserts w k is_ghost v r w' es' = edited w two (λ s. upsert (lent 0) s k (put_value (yes is_ghost) v)) r w' es'

-- remove: words, answer, key; the slot's dirty mark after
unfoldable pub removes : List ℕ → List ℕ → List ℕ → ℕ → List ℕ → List ℕ → ℕ → List Entry → Bool
removes w a k r w' a' dirty es' =
    leb r 20
    && same (outcome removed_numbers (removed_of 512 (heads_of 2 dirty es') (bytes_of es') (removed_back r w' a')))
    (outcome removed_numbers (on_words w a (λ t. edits 512 1 t heads bytes (replicate 2048 0) (λ s. removing.remove (lent 0) s k))))
    && same w' (removed_tree w (removed_back r w' a'))
    && same a' (removed_answer a (removed_back r w' a'))
  where
    removed_numbers : removing.Removed → List ℕ
    removed_numbers x = mark x.present ∷ state_numbers x.state

-- an object map's words, so many keys; two versions of id 5, and one of them
unfoldable pub map_words : ℕ → List ℕ
map_words keys = 0 ∷ 1 ∷ 0 ∷ 512 ∷ 16 ∷ 16 ∷ 16 ∷ 16 ∷ keys ∷ 1 ∷ 0 ∷ 11 ∷ 0 ∷ 2 ∷ []

unfoldable pub version : ℕ → ℕ → ℕ → Entry
version xid address long = entry (pair_key 5 xid) (leaf (omap_value long address))

unfoldable pub versions : List Entry
versions = version 3 30 512 ∷ version 9 90 512 ∷ []

-- omap_put of id 5 at transaction 10: address 7, length 512; omap_drop of it
unfoldable pub puts : List ℕ → ℕ → List ℕ → List Entry → Bool
puts w r w' es' = edited w versions (λ s. omap_put (lent 0) s 5 10 7 512) r w' es'

unfoldable pub drops : List ℕ → ℕ → List ℕ → List Entry → Bool
drops w r w' es' = edited w versions (λ s. omap_drop (lent 0) s 5) r w' es'

-- flush of the leaf, dirty: words, answer, the bitmap's first byte and the free count. Accepted, the leaf goes to block 1 and block 2 is freed
unfoldable pub flushes : List ℕ → List ℕ → ℕ → ℕ → ℕ → List ℕ → Bool
flushes w a used free r a' =
    leb r 20
    && same
    (outcome flush_numbers
    (flushed_means 512 (tree_of w) (splice image 512 (packed 1 3)) (space 7 0) (heads_of 1 0 two) bytes (2 ∷ []) (0 ∷ []) (0 ∷ []) (0 ∷ [])
    (flushed_back r a')))
    (outcome flush_numbers
    (on_words w a (λ t. flushed_in (lent 0) (space used free) (lists_of (0 ∷ []) (0 ∷ []) (0 ∷ []) (0 ∷ [])) t (heads_of 2 1 two) bytes 3 40)))
    && same a' (flushed_answer a (flushed_back r a'))
  where
    space : ℕ → ℕ → Space
    space used free = space_of (used ∷ replicate 511 0) (3 ∷ []) (free ∷ [])

-- ---- the table: sizes

-- slots 1, 4,096, 0 and 4,097; of a size also 768, which is none
unfoldable pub size_rows : List Row
size_rows =
    row "moachest_workspace_words: 19 a slot; 0 for no slots and past 4,096"
    (workspace_words 1 ∷ workspace_words 4096 ∷ workspace_words 0 ∷ workspace_words 4097 ∷ [])
    (19 ∷ 77824 ∷ 0 ∷ 0 ∷ []) (18 ∷ 73728 ∷ 0 ∷ 0 ∷ []) (19 ∷ 77824 ∷ 0 ∷ 77843 ∷ [])
    ∷ row "moachest_workspace_bytes: 8 blocks a slot; 0 for no slots, past 4,096 and for a size that is none"
    (workspace_bytes 1 512 ∷ workspace_bytes 3 4096 ∷ workspace_bytes 0 512 ∷ workspace_bytes 4097 512 ∷ workspace_bytes 1 768 ∷ [])
    (4096 ∷ 98304 ∷ 0 ∷ 0 ∷ 0 ∷ []) (2048 ∷ 49152 ∷ 0 ∷ 0 ∷ 0 ∷ []) (4096 ∷ 98304 ∷ 0 ∷ 0 ∷ 6144 ∷ [])
    ∷ row "moachest_scratch_bytes: 2 blocks a slot and 2 more; 0 for no slots, past 4,096 and for a size that is none"
    (scratch_bytes 1 512 ∷ scratch_bytes 3 4096 ∷ scratch_bytes 0 512 ∷ scratch_bytes 4097 512 ∷ scratch_bytes 1 768 ∷ [])
    (2048 ∷ 32768 ∷ 0 ∷ 0 ∷ 0 ∷ []) (1024 ∷ 24576 ∷ 0 ∷ 0 ∷ 0 ∷ []) (2048 ∷ 32768 ∷ 1024 ∷ 0 ∷ 0 ∷ [])
    ∷ []
  where
    row : String → List ℕ → List ℕ → List ℕ → List ℕ → Row
    row says gives right wrong wrong' = record { says = says; right = same gives right; wrong = same gives wrong; wrong' = same gives wrong' }

-- ---- lookups

unfoldable pub open_rows : List Row
open_rows =
    record {
      says = "moachest_open: the tree's words, and what stands behind them is kept; not key and node count exchanged, nor no words at all";
      right = opens (replicate 15 7) 0 2 0 (words 2 1 ++ 7 ∷ []);
      wrong = opens (replicate 15 7) 0 2 0 (splice (words 2 1) 8 (1 ∷ 2 ∷ []) ++ 7 ∷ []);
      wrong' = opens (replicate 15 7) 0 2 0 (replicate 15 7);
    }
    ∷ record {
      says = "moachest_open: a root past the image is 2 and leaves the words; not the words of a tree, nor 1";
      right = opens (replicate 14 7) 0 3 2 (replicate 14 7);
      wrong = opens (replicate 14 7) 0 3 2 (words 2 1);
      wrong' = opens (replicate 14 7) 0 3 1 (replicate 14 7);
    }
    ∷ record {
      says = "moachest_open: a map lent as 2 is a map, and its root is looked at (3); not as if there were none, nor 1";
      right = opens (replicate 14 7) 2 2 3 (replicate 14 7);
      wrong = opens (replicate 14 7) 2 2 0 (words 2 1);
      wrong' = opens (replicate 14 7) 2 2 1 (replicate 14 7);
    }
    ∷ record {
      says = "moachest_open: 13 words are 1; not the call's own 2, nor 1 with a word changed";
      right = opens (replicate 13 7) 0 3 1 (replicate 13 7);
      wrong = opens (replicate 13 7) 0 3 2 (replicate 13 7);
      wrong' = opens (replicate 13 7) 0 3 1 (replicate 13 0);
    }
    ∷ []

unfoldable pub get_rows : List Row
get_rows =
    record {
      says = "moachest_get: a value is 2 and its length; not the length first, nor no length";
      right = gets (words 2 1) sevens (1 ∷ 2 ∷ []) (5 ∷ 6 ∷ []) 0 (words 2 1) (2 ∷ 1 ∷ replicate 6 7) (9 ∷ 6 ∷ []);
      wrong = gets (words 2 1) sevens (1 ∷ 2 ∷ []) (5 ∷ 6 ∷ []) 0 (words 2 1) (1 ∷ 2 ∷ replicate 6 7) (9 ∷ 6 ∷ []);
      wrong' = gets (words 2 1) sevens (1 ∷ 2 ∷ []) (5 ∷ 6 ∷ []) 0 (words 2 1) (2 ∷ replicate 7 7) (9 ∷ 6 ∷ []);
    }
    ∷ record {
      says = "moachest_get: a ghost is 1; not a value of no bytes, nor none";
      right = gets (words 2 1) sevens (3 ∷ []) (5 ∷ []) 0 (words 2 1) (1 ∷ replicate 7 7) (5 ∷ []);
      wrong = gets (words 2 1) sevens (3 ∷ []) (5 ∷ []) 0 (words 2 1) (2 ∷ 0 ∷ replicate 6 7) (5 ∷ []);
      wrong' = gets (words 2 1) sevens (3 ∷ []) (5 ∷ []) 0 (words 2 1) (0 ∷ replicate 7 7) (5 ∷ []);
    }
    ∷ record {
      says = "moachest_get: none is 0; not a ghost, nor a word unwritten";
      right = gets (words 2 1) sevens (2 ∷ []) (5 ∷ []) 0 (words 2 1) (0 ∷ replicate 7 7) (5 ∷ []);
      wrong = gets (words 2 1) sevens (2 ∷ []) (5 ∷ []) 0 (words 2 1) (1 ∷ replicate 7 7) (5 ∷ []);
      wrong' = gets (words 2 1) sevens (2 ∷ []) (5 ∷ []) 0 (words 2 1) sevens (5 ∷ []);
    }
    ∷ record {
      says = "moachest_get: no room is 20 and leaves answer and tree; not the length told, nor another key count";
      right = gets (words 2 1) sevens (1 ∷ 2 ∷ []) [] 20 (words 2 1) sevens [];
      wrong = gets (words 2 1) sevens (1 ∷ 2 ∷ []) [] 20 (words 2 1) (2 ∷ 1 ∷ replicate 6 7) [];
      wrong' = gets (words 2 1) sevens (1 ∷ 2 ∷ []) [] 20 (words 3 1) sevens [];
    }
    ∷ record {
      says = "moachest_get: 7 words for the answer are 1; not an answer in them, nor 1 with the value copied";
      right = gets (words 2 1) (replicate 7 7) (1 ∷ 2 ∷ []) (5 ∷ 6 ∷ []) 1 (words 2 1) (replicate 7 7) (5 ∷ 6 ∷ []);
      wrong = gets (words 2 1) (replicate 7 7) (1 ∷ 2 ∷ []) (5 ∷ 6 ∷ []) 0 (words 2 1) (2 ∷ 1 ∷ replicate 5 7) (9 ∷ 6 ∷ []);
      wrong' = gets (words 2 1) (replicate 7 7) (1 ∷ 2 ∷ []) (5 ∷ 6 ∷ []) 1 (words 2 1) (replicate 7 7) (9 ∷ 6 ∷ []);
    }
    ∷ []

unfoldable pub floor_rows : List Row
floor_rows =
    record {
      says = "moachest_floor: an entry is 1 and its record's length; not its value's, nor the length first";
      right = floors (words 2 1) sevens (2 ∷ []) (replicate 8 5) 0 (words 2 1) (1 ∷ 7 ∷ replicate 6 7) found;
      wrong = floors (words 2 1) sevens (2 ∷ []) (replicate 8 5) 0 (words 2 1) (1 ∷ 1 ∷ replicate 6 7) found;
      wrong' = floors (words 2 1) sevens (2 ∷ []) (replicate 8 5) 0 (words 2 1) (7 ∷ 1 ∷ replicate 6 7) found;
    }
    ∷ record {
      says = "moachest_floor: none is 0; not a refusal, nor a record of no bytes";
      right = floors (words 2 1) sevens (1 ∷ []) (5 ∷ []) 0 (words 2 1) (0 ∷ replicate 7 7) (5 ∷ []);
      wrong = floors (words 2 1) sevens (1 ∷ []) (5 ∷ []) 18 (words 2 1) sevens (5 ∷ []);
      wrong' = floors (words 2 1) sevens (1 ∷ []) (5 ∷ []) 0 (words 2 1) (1 ∷ 0 ∷ replicate 6 7) (5 ∷ []);
    }
    ∷ record {
      says = "moachest_floor: 13 words of a tree are 1; not an answer, nor 1 with an answer written";
      right = floors (drop 1 (words 2 1)) sevens (1 ∷ []) (5 ∷ []) 1 (drop 1 (words 2 1)) sevens (5 ∷ []);
      wrong = floors (drop 1 (words 2 1)) sevens (1 ∷ []) (5 ∷ []) 0 (drop 1 (words 2 1)) (0 ∷ replicate 7 7) (5 ∷ []);
      wrong' = floors (drop 1 (words 2 1)) sevens (1 ∷ []) (5 ∷ []) 1 (drop 1 (words 2 1)) (0 ∷ replicate 7 7) (5 ∷ []);
    }
    ∷ []
  where
    found : List ℕ
    found = 2 ∷ 0 ∷ 1 ∷ 0 ∷ 1 ∷ 2 ∷ 9 ∷ 5 ∷ []

unfoldable pub range_rows : List Row
range_rows =
    record {
      says = "moachest_range: how many, then their bytes; not the bytes first, nor the room in the place of the bytes";
      right = ranges (words 2 1) sevens (0 ∷ []) (9 ∷ []) (replicate 13 5) 0 (words 2 1) (2 ∷ 12 ∷ replicate 6 7) (records_of two ++ 5 ∷ []);
      wrong = ranges (words 2 1) sevens (0 ∷ []) (9 ∷ []) (replicate 13 5) 0 (words 2 1) (12 ∷ 2 ∷ replicate 6 7) (records_of two ++ 5 ∷ []);
      wrong' = ranges (words 2 1) sevens (0 ∷ []) (9 ∷ []) (replicate 13 5) 0 (words 2 1) (2 ∷ 13 ∷ replicate 6 7) (records_of two ++ 5 ∷ []);
    }
    ∷ record {
      says = "moachest_range: none are 0 and 0; not a refusal, nor one of no bytes";
      right = ranges (words 2 1) sevens (9 ∷ []) (0 ∷ []) [] 0 (words 2 1) (0 ∷ 0 ∷ replicate 6 7) [];
      wrong = ranges (words 2 1) sevens (9 ∷ []) (0 ∷ []) [] 12 (words 2 1) sevens [];
      wrong' = ranges (words 2 1) sevens (9 ∷ []) (0 ∷ []) [] 0 (words 2 1) (1 ∷ 0 ∷ replicate 6 7) [];
    }
    ∷ record {
      says = "moachest_range: 7 words for the answer are 1; not an answer in them, nor 1 with one of them written";
      right = ranges (words 2 1) (replicate 7 7) (9 ∷ []) (0 ∷ []) [] 1 (words 2 1) (replicate 7 7) [];
      wrong = ranges (words 2 1) (replicate 7 7) (9 ∷ []) (0 ∷ []) [] 0 (words 2 1) (0 ∷ 0 ∷ replicate 5 7) [];
      wrong' = ranges (words 2 1) (replicate 7 7) (9 ∷ []) (0 ∷ []) [] 1 (words 2 1) (0 ∷ replicate 6 7) [];
    }
    ∷ []

-- ---- edits

unfoldable pub upsert_rows : List Row
upsert_rows =
    record {
      says = "moachest_upsert: the new key is counted, and its longer value; not the words from before, nor key and node count exchanged";
      right = upserts (words 2 1) (4 ∷ []) 0 (8 ∷ 8 ∷ []) 0 (words 3 2) (two ++ entry (4 ∷ []) (leaf (8 ∷ 8 ∷ [])) ∷ []);
      wrong = upserts (words 2 1) (4 ∷ []) 0 (8 ∷ 8 ∷ []) 0 (words 2 1) (two ++ entry (4 ∷ []) (leaf (8 ∷ 8 ∷ [])) ∷ []);
      wrong' = upserts (words 2 1) (4 ∷ []) 0 (8 ∷ 8 ∷ []) 0 (splice (words 2 2) 8 (1 ∷ 3 ∷ [])) (two ++ entry (4 ∷ []) (leaf (8 ∷ 8 ∷ [])) ∷ []);
    }
    ∷ record {
      says = "moachest_upsert: 2 says a ghost; not the value beside it, nor a value of no bytes";
      right = upserts (words 2 1) (4 ∷ []) 2 (8 ∷ 8 ∷ []) 0 (words 3 1) (two ++ entry (4 ∷ []) ghost ∷ []);
      wrong = upserts (words 2 1) (4 ∷ []) 2 (8 ∷ 8 ∷ []) 0 (words 3 2) (two ++ entry (4 ∷ []) (leaf (8 ∷ 8 ∷ [])) ∷ []);
      wrong' = upserts (words 2 1) (4 ∷ []) 2 (8 ∷ 8 ∷ []) 0 (words 3 1) (two ++ entry (4 ∷ []) (leaf []) ∷ []);
    }
    ∷ record {
      says = "moachest_upsert: an entry too large beside others is 14 and leaves the words; not the key counted, nor 0";
      right = upserts (words 2 1) (4 ∷ []) 0 (replicate 600 0) 14 (words 2 1) two;
      wrong = upserts (words 2 1) (4 ∷ []) 0 (replicate 600 0) 14 (words 3 600) two;
      wrong' = upserts (words 2 1) (4 ∷ []) 0 (replicate 600 0) 0 (words 2 1) two;
    }
    ∷ record {
      says = "moachest_upsert: 13 words are 1; not the call's own 14, nor 1 with a word changed";
      right = upserts (drop 1 (words 2 1)) (4 ∷ []) 0 (replicate 600 0) 1 (drop 1 (words 2 1)) two;
      wrong = upserts (drop 1 (words 2 1)) (4 ∷ []) 0 (replicate 600 0) 14 (drop 1 (words 2 1)) two;
      wrong' = upserts (drop 1 (words 2 1)) (4 ∷ []) 0 (replicate 600 0) 1 (drop 1 (words 3 1)) two;
    }
    ∷ []

unfoldable pub remove_rows : List Row
remove_rows =
    record {
      says = "moachest_remove: a key that was there is 1 and is counted no more; not 0, nor the words from before";
      right = removes (words 2 1) sevens (1 ∷ 2 ∷ []) 0 (words 1 1) (1 ∷ replicate 7 7) 1 (drop 1 two);
      wrong = removes (words 2 1) sevens (1 ∷ 2 ∷ []) 0 (words 1 1) (0 ∷ replicate 7 7) 1 (drop 1 two);
      wrong' = removes (words 2 1) sevens (1 ∷ 2 ∷ []) 0 (words 2 1) (1 ∷ replicate 7 7) 1 (drop 1 two);
    }
    ∷ record {
      says = "moachest_remove: a key that was not there is 0; not 1, nor a refusal";
      right = removes (words 2 1) sevens (2 ∷ []) 0 (words 2 1) (0 ∷ replicate 7 7) 0 two;
      wrong = removes (words 2 1) sevens (2 ∷ []) 0 (words 2 1) (1 ∷ replicate 7 7) 0 two;
      wrong' = removes (words 2 1) sevens (2 ∷ []) 18 (words 2 1) sevens 0 two;
    }
    ∷ record {
      says = "moachest_remove: a key that was not counted is 17 and leaves the answer; not 1 beside it, nor 0";
      right = removes (words 0 1) sevens (1 ∷ 2 ∷ []) 17 (words 0 1) sevens 0 two;
      wrong = removes (words 0 1) sevens (1 ∷ 2 ∷ []) 17 (words 0 1) (1 ∷ replicate 7 7) 0 two;
      wrong' = removes (words 0 1) sevens (1 ∷ 2 ∷ []) 0 (words 0 1) (1 ∷ replicate 7 7) 1 (drop 1 two);
    }
    ∷ record {
      says = "moachest_remove: 7 words for the answer are 1; not an answer in them, nor 1 with a key counted no more";
      right = removes (words 2 1) (replicate 7 7) (1 ∷ 2 ∷ []) 1 (words 2 1) (replicate 7 7) 0 two;
      wrong = removes (words 2 1) (replicate 7 7) (1 ∷ 2 ∷ []) 0 (words 1 1) (1 ∷ replicate 6 7) 1 (drop 1 two);
      wrong' = removes (words 2 1) (replicate 7 7) (1 ∷ 2 ∷ []) 1 (words 1 1) (replicate 7 7) 0 two;
    }
    ∷ []

unfoldable pub omap_rows : List Row
omap_rows =
    record {
      says = "moachest_omap_put: one version is left, and is counted; not all three counted, nor address and length exchanged";
      right = puts (map_words 2) 0 (map_words 1) (version 10 7 512 ∷ []);
      wrong = puts (map_words 2) 0 (map_words 3) (version 10 7 512 ∷ []);
      wrong' = puts (map_words 2) 0 (map_words 1) (version 10 512 7 ∷ []);
    }
    ∷ record {
      says = "moachest_omap_put: a tree that is no object map is 12 and keeps its words; not another key count, nor 1";
      right = puts (words 2 1) 12 (words 2 1) versions;
      wrong = puts (words 2 1) 12 (words 1 1) versions;
      wrong' = puts (words 2 1) 1 (words 2 1) versions;
    }
    ∷ record {
      says = "moachest_omap_put: 13 words are 1; not the call's own 12, nor 1 with a word changed";
      right = puts (drop 1 (words 2 1)) 1 (drop 1 (words 2 1)) versions;
      wrong = puts (drop 1 (words 2 1)) 12 (drop 1 (words 2 1)) versions;
      wrong' = puts (drop 1 (words 2 1)) 1 (drop 1 (words 1 1)) versions;
    }
    ∷ record {
      says = "moachest_omap_drop: no version is left, none is counted; not one left, nor the words from before";
      right = drops (map_words 2) 0 (map_words 0) [];
      wrong = drops (map_words 2) 0 (map_words 1) (drop 1 versions);
      wrong' = drops (map_words 2) 0 (map_words 2) [];
    }
    ∷ record {
      says = "moachest_omap_drop: 13 words are 1; not 0, nor 1 with a word changed";
      right = drops (drop 1 (map_words 2)) 1 (drop 1 (map_words 2)) versions;
      wrong = drops (drop 1 (map_words 2)) 0 (drop 1 (map_words 0)) [];
      wrong' = drops (drop 1 (map_words 2)) 1 (drop 1 (map_words 0)) versions;
    }
    ∷ []

-- ---- flush

-- the words: root, allocated, freed, removed, moved, keys, fill, next id
unfoldable pub flush_rows : List Row
flush_rows =
    record {
      says = "moachest_flush: its words in their order; not keys and fill exchanged, nor the old root";
      right = flushes (words 2 1) sevens 5 1 0 (1 ∷ 1 ∷ 1 ∷ 0 ∷ 0 ∷ 2 ∷ 36 ∷ 40 ∷ []);
      wrong = flushes (words 2 1) sevens 5 1 0 (1 ∷ 1 ∷ 1 ∷ 0 ∷ 0 ∷ 36 ∷ 2 ∷ 40 ∷ []);
      wrong' = flushes (words 2 1) sevens 5 1 0 (2 ∷ 1 ∷ 1 ∷ 0 ∷ 0 ∷ 2 ∷ 36 ∷ 40 ∷ []);
    }
    ∷ record {
      says = "moachest_flush: no free block is 16 and leaves the answer; not figures beside it, nor 0 with nothing written";
      right = flushes (words 2 1) sevens 7 0 16 sevens;
      wrong = flushes (words 2 1) sevens 7 0 16 (2 ∷ 0 ∷ 0 ∷ 0 ∷ 0 ∷ 2 ∷ 36 ∷ 40 ∷ []);
      wrong' = flushes (words 2 1) sevens 7 0 0 (2 ∷ 0 ∷ 0 ∷ 0 ∷ 0 ∷ 2 ∷ 36 ∷ 40 ∷ []);
    }
    ∷ record {
      says = "moachest_flush: 13 words are 1; not the call's own 16, nor 1 with an answer written";
      right = flushes (drop 1 (words 2 1)) sevens 7 0 1 sevens;
      wrong = flushes (drop 1 (words 2 1)) sevens 7 0 16 sevens;
      wrong' = flushes (drop 1 (words 2 1)) sevens 7 0 1 (replicate 8 0);
    }
    ∷ record {
      says = "moachest_flush: 7 words for the answer are 1; not an answer without its last word, nor 1 with the root written";
      right = flushes (words 2 1) (replicate 7 7) 5 1 1 (replicate 7 7);
      wrong = flushes (words 2 1) (replicate 7 7) 5 1 0 (1 ∷ 1 ∷ 1 ∷ 0 ∷ 0 ∷ 2 ∷ 36 ∷ []);
      wrong' = flushes (words 2 1) (replicate 7 7) 5 1 1 (1 ∷ replicate 6 7);
    }
    ∷ []

unfoldable pub table : List Row
table = size_rows ++ open_rows ++ get_rows ++ floor_rows ++ range_rows ++ upsert_rows ++ remove_rows ++ omap_rows ++ flush_rows
