-- Demand 3, one statement over any list of calls on a well-formed tree, from the definitions that the contracts cite, the walk and the plain list.
use Rattle.std.specs.Prelude.{◌≡◌, List, [], ◌∷◌, ◌++◌, Bool, true, false, cond, ◌&&◌, not, ℕ, zero, suc, ◌+◌, ◌^◌, ◌≤◌, ◌<◌, length, leb, eqb}
use Rattle.seal.specs.Bytes.{AreBytes}
use Rattle.node.specs.Entry.{value_bytes}
use Rattle.tree.specs.Format.{Result, ok, refused, Entry, rising}
use Rattle.tree.specs.Lent.{Lent, blocks, block_at, sizes_hold}
use Rattle.tree.specs.State.{State}
use Rattle.tree.specs.Hold.{lent_holds}
use Rattle.tree.specs.Lookup.{opened}
use Rattle.flush.specs.Space.{Space, is_used}
use Rattle.flush.specs.Flush.{Flushed, Lists, flush}
use Rattle.history.specs.Walk.{Disk, walk_from, well_formed, blocks_of, ids_of, visits_of, list_of, map_blocks}
use Rattle.history.specs.Calls.{Call, get_call, floor_call, range_call, upsert_call, remove_call, put_call, drop_call, flush_call, Stepped, step, after_step, plain_answer, plain_step}
use Rattle.history.specs.Passes.{passed}

-- ---- counting

-- how often a number stands in a list
unfoldable pub uses : ℕ → List ℕ → ℕ
uses x [] = 0
uses x (y ∷ ys) = cond (eqb x y) 1 0 + uses x ys

-- the number of blocks below n that pass a test
unfoldable pub count_below : (ℕ → Bool) → ℕ → ℕ
count_below t zero = 0
count_below t (suc n) = cond (t n) 1 0 + count_below t n

-- ---- the start

-- the disk as it is before the first call: what open is lent, and the tree's root
pub record Start : Type 0 where
  pub disk : Disk
  pub root : ℕ
  -- the tree that open answers
  pub state : State

-- the old tree's blocks, and its map's
unfoldable pub tree_blocks : Start → List ℕ
tree_blocks g = blocks_of (visits_of (walk_from g.disk g.root))

unfoldable pub old_blocks : Start → List ℕ
old_blocks g = tree_blocks g ++ map_blocks g.disk g.disk.lent.map

unfoldable pub old_ids : Start → List ℕ
old_ids g = ids_of (visits_of (walk_from g.disk g.root))

-- open is accepted, and the tree is well formed
pub record Begins (g : Start) : Type 0 where
  pub unmoved : g.disk.moved ≡ []
  pub bytes : AreBytes g.disk.lent.image
  pub formed : well_formed g.disk g.root ≡ true
  pub opens : opened g.disk.lent g.root g.disk.order g.disk.xid ≡ ok g.state

-- ---- what each call is lent

-- the same size, map and slots; an image of bytes that is no shorter and agrees with the first on the old blocks
pub record Lends (g : Start) (l : Lent) : Type 0 where
  pub same_size : l.size ≡ g.disk.lent.size
  pub same_map : l.map ≡ g.disk.lent.map
  pub same_slots : l.slots ≡ g.disk.lent.slots
  pub bytes : AreBytes l.image
  pub no_shorter : length g.disk.lent.image ≤ length l.image
  pub agrees : (a : ℕ) → 1 ≤ uses a (old_blocks g) → block_at l a ≡ block_at g.disk.lent a

-- flush is lent a bitmap in which the old blocks are marked used, and, for a virtual tree, takes ids that no old node has
pub record LendsFlush (g : Start) (l : Lent) (p : Space) (xid next : ℕ) (f : Flushed) : Type 0 where
  pub lends : Lends g l
  pub stamp : xid < 2 ^ 64
  pub marked : (a : ℕ) → 1 ≤ uses a (old_blocks g) → is_used p.bitmap a ≡ true
  pub unused : g.state.virtual ≡ true → (i : ℕ) → next ≤ i → i < f.after.next → uses i (old_ids g) ≡ 0

-- arguments are what their types hold: keys and values are bytes, ids are u64
abbrev pub Typed : Call → Type 0
Typed (get_call room k) = AreBytes k
Typed (floor_call room k) = AreBytes k
Typed (range_call room lo hi) = AreBytes lo × AreBytes hi
Typed (upsert_call k v) = AreBytes k × AreBytes (value_bytes v)
Typed (remove_call k) = AreBytes k
Typed (put_call id xid address size) = (id < 2 ^ 64) × (xid < 2 ^ 64)
Typed (drop_call id) = id < 2 ^ 64
Typed (flush_call p lists xid next) = Unit {0}

-- a call with what it is lent
pub record Turn : Type 0 where
  pub lent : Lent
  pub call : Call

-- ---- lists of calls

-- the tree, the plain list and the blocks passed through, after a list of calls
unfoldable pub states : List Turn → State → State
states [] s = s
states (t ∷ ts) s = states ts (after_step s (step t.lent t.call s))

unfoldable pub plains : ℕ → List Turn → State → List Entry → List Entry
plains o [] s es = es
plains o (t ∷ ts) s es =
    let r : Result Stepped = step t.lent t.call s in
    plains o ts (after_step s r) (plain_step o t.call r es)

unfoldable pub passes : List Turn → State → List ℕ
passes [] s = []
passes (t ∷ ts) s = if_accepted (step t.lent t.call s) ++ passes ts (after_step s (step t.lent t.call s))
  where
    if_accepted : Result Stepped → List ℕ
    if_accepted (refused n) = []
    if_accepted (ok r) = passed t.lent t.call s

-- whether a call is a flush
unfoldable pub is_flush : Call → Bool
is_flush (get_call room k) = false
is_flush (floor_call room k) = false
is_flush (range_call room lo hi) = false
is_flush (upsert_call k v) = false
is_flush (remove_call k) = false
is_flush (put_call id xid address size) = false
is_flush (drop_call id) = false
is_flush (flush_call p lists xid next) = true

-- every accepted call was lent what it should be, and no flush is accepted before the last call
abbrev pub AllLend : Start → List Turn → State → Type 0
AllLend g [] s = Unit {0}
AllLend g (t ∷ ts) s =
    ((r : Stepped) → step t.lent t.call s ≡ ok r → Lends g t.lent × Typed t.call × (is_flush t.call ≡ false))
    × AllLend g ts (after_step s (step t.lent t.call s))

-- each accepted call answers as the plain list
abbrev pub AllAnswer : ℕ → List Turn → State → List Entry → Type 0
AllAnswer o [] s es = Unit {0}
AllAnswer o (t ∷ ts) s es =
    ((r : Stepped) → step t.lent t.call s ≡ ok r → r.answer ≡ plain_answer o t.call es)
    × AllAnswer o ts (after_step s (step t.lent t.call s)) (plain_step o t.call (step t.lent t.call s) es)

-- ---- the conclusion

-- the disk that a flush leaves: its image, moved ids at their new addresses
unfoldable pub left_by : Start → Lent → Flushed → Disk
left_by g l f =
    record {
      lent = record { image = f.after.image; size = l.size; map = l.map; slots = l.slots };
      order = g.disk.order;
      xid = g.disk.xid;
      moved = f.after.moved;
    }

-- a block is written if its bit turns to 1
unfoldable pub written : Space → Flushed → ℕ → Bool
written p f a = not (is_used p.bitmap a) && is_used f.after.space.bitmap a

-- of an accepted flush
pub record Flushes (g : Start) (es : List Entry) (through : List ℕ) (l : Lent) (p : Space) (f : Flushed) : Type 0 where
  -- the walk from the new root is the plain list, and that tree is well formed
  pub walks : list_of (walk_from (left_by g l f) f.root) ≡ es
  pub formed : well_formed (left_by g l f) f.root ≡ true
  -- only free blocks were written; the image elsewhere is as it was, and as long
  pub elsewhere : (a : ℕ) → written p f a ≡ false → block_at (left_by g l f).lent a ≡ block_at l a
  pub as_long : length f.after.image ≡ length l.image
  pub bytes : AreBytes f.after.image
  -- old + written = new + freed, each at most once
  pub books : (a : ℕ) → uses a (tree_blocks g) + cond (written p f a) 1 0 ≡ uses a (blocks_of (visits_of (walk_from (left_by g l f) f.root))) + uses a
      f.after.freed
  pub once : (a : ℕ) → uses a (tree_blocks g) + cond (written p f a) 1 0 ≤ 1
  -- bits that were set stay set; a virtual root keeps its id
  pub stay : (a : ℕ) → is_used p.bitmap a ≡ true → is_used f.after.space.bitmap a ≡ true
  pub same_root : g.state.virtual ≡ true → f.root ≡ g.root
  -- the figures are those counts
  pub allocated : f.allocated ≡ count_below (written p f) (blocks l)
  pub freed : f.freed_count ≡ count_below (λ a. leb 1 (uses a f.after.freed)) (blocks l)
  pub keys : f.keys ≡ length es
  -- a block is freed only if an accepted edit passed through it or it became the root
  pub freed_only : (a : ℕ) → 1 ≤ uses a f.after.freed → 1 ≤ uses a through

pub record Holds (g : Start) (ts : List Turn) : Type 0 where
  -- each accepted lookup and remove answers as the plain list
  pub answers : AllAnswer g.disk.order ts g.state (list_of (walk_from g.disk g.root))
  -- the plain list's keys rise, and the key count is its length
  pub rises : rising g.disk.order (plains g.disk.order ts g.state (list_of (walk_from g.disk g.root))) ≡ true
  pub keys : (states ts g.state).info.key_count ≡ length (plains g.disk.order ts g.state (list_of (walk_from g.disk g.root)))
  -- the slots hold together: where the sizes are right no call is refused with 1
  pub hold : (l : Lent) → Lends g l → sizes_hold l ≡ true → lent_holds l (states ts g.state) ≡ true
  -- a flush that is accepted then
  pub flushes : (l : Lent) (p : Space) (lists : Lists) (xid next : ℕ) (f : Flushed)
      → LendsFlush g l p xid next f
      → flush l p lists (states ts g.state) xid next ≡ ok f
      → Flushes g (plains g.disk.order ts g.state (list_of (walk_from g.disk g.root))) (passes ts g.state) l p f

-- demand 3
abbrev pub Demand3 : Type 0
Demand3 = (g : Start) (ts : List Turn) → Begins g → AllLend g ts g.state → Holds g ts
