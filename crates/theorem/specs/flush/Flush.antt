-- An accepted flush of a tree that meets the invariant: the new tree is well formed and holds the plain list, and the books hold.
-- Premises, of the disk as it was opened: images that agree on its old blocks map ids alike; no block and no id is one of two nodes.
use Rattle.std.specs.Prelude.{◌≡◌, Bool, ◌&&◌, length, get_or}
use Rattle.std.proofs.Math.Path.{refl, sym, ap, subst}
use Rattle.std.proofs.Common.{◌∙◌, le_refl}
use mathlib.Core.List.{List, [], ◌∷◌}
use Rattle.std.proofs.Math.Bool.{true, false, cond}
use Prim.Native.Nat.{ℕ, ◌+◌, ◌-◌, ◌*◌, ◌^◌, ◌≤◌}
use native.Mathlib.Omega.{arith}
use Rattle.std.proofs.Math.Dec.{leb}
use borrow.Author.Tests.{leb-true, eq-eqb}
use Rattle.seal.specs.Bytes.{window, AreBytes}
use Rattle.node.specs.Result.{Result, ok, refused, ◌>>◌, check}
use Rattle.node.specs.Refusals as refusal
use Rattle.node.specs.Order.{pair, known}
use Rattle.node.specs.Entry.{Entry}
use Rattle.node.specs.Slot.{MemNode}
use Rattle.node.specs.laws.base.Tests.{by_test, never, and_both, and_left, and_right}
use Rattle.node.specs.laws.base.Results.{checked_ok}
use Rattle.node.specs.declared.info.BTreeInfo.{BTreeInfo}
use Rattle.tree.specs.Lent.{Lent, blocks, block_at, sizes_hold}
use Rattle.tree.specs.State.{State, node_at, no_node}
use Rattle.tree.specs.Hold.{lent_holds}
use Rattle.tree.specs.Load.{address_of}
use Rattle.flush.specs.Space.{Space, is_used, usable, space_holds}
use Rattle.flush.specs.Flush.{Flushing, Flushed, Lists, dirty_reached, ids_wanted, lists_hold, flushed, flush_in, flush, sum_from, write_from}
use Rattle.flush.specs.laws.FlushLaws.{write_from_lem}
use Rattle.history.specs.Walk.{Disk, Walked, moved_to, resolve, walk_from, blocks_of, visits_of, list_of, map_blocks}
use Rattle.history.specs.Walk.{counts_hold, map_disk, lengths_are16, map_formed, well_formed}
use Rattle.history.specs.Statement.{Start, Begins, Lends, LendsFlush, Flushes, uses, count_below, tree_blocks, old_blocks, old_ids, left_by, written}
use Rattle.theorem.specs.model.Bounds.{Terms}
use Rattle.theorem.specs.model.Good.{Suits, Good}
use Rattle.theorem.specs.model.Sums.{uses_append, count_distinct}
use Rattle.theorem.specs.flush.Visits.{walk_visited}
use Rattle.theorem.specs.flush.Seen.{blocks_more}
use Rattle.theorem.specs.flush.Reached.{at_first, Setting, lent, live_total}
use Rattle.theorem.specs.flush.Done.{first_ready, wrote, keeps, moves, after_is, level_is}
use Rattle.theorem.specs.flush.Writes.{zero_not}
use Rattle.theorem.specs.flush.Left.{tree_old, old_inside, as_long, block_stays, lends_after, number_id}
use Rattle.theorem.specs.flush.ReadRoot.{root_is}
use Rattle.theorem.specs.flush.WalkAgain.{Rewalked, rewalked}

-- ---- a map whose blocks are as they were is well formed as it was

map_formed_lem : (x x' : Disk) → AreBytes x.lent.image → x'.lent.size ≡ x.lent.size → length x.lent.image ≤ length x'.lent.image
    → (ms : List ℕ)
    → ((a : ℕ) → 1 ≤ uses a (map_blocks x ms) → block_at x'.lent a ≡ block_at x.lent a) → map_formed x ms ≡ true → map_formed x' ms ≡ true
unfolding map_formed
map_formed_lem x x' bytes size long [] agree h = refl
map_formed_lem x x' bytes size long (m ∷ ms) agree h = go (walk_from (map_disk x) m) refl
  where
    lent_of : Disk → Lent
    lent_of y = record { image = y.lent.image; size = y.lent.size; map = []; slots = y.lent.slots }

    plain : (y : Disk) (r : ℕ) → resolve (record { lent = lent_of y; order = pair; xid = y.xid; moved = [] }) r ≡ ok r
    plain y r = unfold resolve moved_to address_of in refl

    more : blocks (lent_of x) ≤ blocks (lent_of x')
    more = blocks_more (lent_of x) (lent_of x') size long

    again : (w : Walked) → walk_from (map_disk x) m ≡ ok w → walk_from (map_disk x') m ≡ ok w
    again w e =
        unfold map_disk in
        ((walk_visited (lent_of x) (lent_of x') pair x.xid x'.xid [] [] bytes more size refl (λ r. plain x' r ∙ sym (plain x r)) m).at w
        (unfold map_disk in e)).same (λ a q. same a (met w e a q))
      where
        met : (w : Walked) → walk_from (map_disk x) m ≡ ok w → (a : ℕ) → 1 ≤ uses a (blocks_of w.walk.nodes) → 1 ≤ uses a (map_blocks x (m ∷ ms))
        met w e a q = unfold map_blocks visits_of in rw e q

        same : (a : ℕ) → 1 ≤ uses a (map_blocks x (m ∷ ms)) → block_at (lent_of x') a ≡ block_at (lent_of x) a
        same a q = unfold block_at in agree a q

    go : (z : Result Walked) → walk_from (map_disk x) m ≡ z → counts_hold (walk_from (map_disk x') m)
        && lengths_are16 (walk_from (map_disk x') m) ≡ true
    go (refused n) e = never (and_left (counts_hold (walk_from (map_disk x) m)) (lengths_are16 (walk_from (map_disk x) m)) h)
        (ap counts_hold e ∙ none n)
      where
        none : (n : ℕ) → counts_hold (refused n) ≡ false
        none n = unfold counts_hold in refl
    go (ok w) e = ap (λ (z : Result Walked). counts_hold z && lengths_are16 z) (again w e ∙ sym e) ∙ h

formed_map : (x : Disk) (r : ℕ) → well_formed x r ≡ true → map_formed x x.lent.map ≡ true
unfolding well_formed
formed_map x r h = and_right (sizes_hold x.lent && known x.order && leb (length x.lent.map) 1 && counts_hold (walk_from x r))
    (map_formed x x.lent.map) h

-- ---- an accepted flush

counts_true : (w : Walked) → w.info.key_count ≡ length w.walk.entries → w.info.node_count ≡ length w.walk.nodes
    → counts_hold (ok w) ≡ true
unfolding counts_hold
counts_true w a b = and_both _ _ (eq-eqb _ _ a) (eq-eqb _ _ b)

module _ (g : Start) (τ : Terms) (th : List ℕ) (s : State) (es : List Entry) (l : Lent) (p : Space) (xid next : ℕ)
    (k : Setting g τ th s es l p xid next) where
  abbrev f : Flushed
  f = flushed l p s xid next

  abbrev x' : Disk
  x' = left_by g l (flushed l p s xid next)

  r : Rewalked g τ th s es l p xid next k
  r = rewalked g τ th s es l p xid next k

  sizes_hold_lem : sizes_hold x'.lent ≡ true
  unfolding sizes_hold blocks left_by
  sizes_hold_lem = rw (as_long g τ th s es l p xid next k) (lent g τ th s es l p xid next k).sizes

  order_known : known x'.order ≡ true
  unfolding left_by
  order_known = ap known (sym k.good.order) ∙ (lent g τ th s es l p xid next k).order

  few_maps : leb (length x'.lent.map) 1 ≡ true
  unfolding left_by
  few_maps = ap (λ (z : ℕ). leb z 1) (lent g τ th s es l p xid next k).map ∙ go s.virtual
    where
      go : (v : Bool) → leb (cond v 1 0) 1 ≡ true
      go true = refl
      go false = refl

  counts_hold_lem : counts_hold (walk_from x' f.root) ≡ true
  counts_hold_lem =
      ap counts_hold r.from
      ∙ counts_true r.walk (ap (λ (z : BTreeInfo). z.key_count) r.info ∙ k.good.key_count ∙ ap length (sym r.entries))
      (ap (λ (z : BTreeInfo). z.node_count) r.info ∙ sym r.count)

  map_holds : map_formed x' x'.lent.map ≡ true
  map_holds =
      let h = lends_after g τ th s es l p xid next k in
      ap (map_formed x') h.same_map
      ∙ map_formed_lem g.disk x' k.begins.bytes h.same_size h.no_shorter g.disk.lent.map (λ a q. h.agrees a (map_old a q))
      (formed_map g.disk g.root k.begins.formed)
    where
      map_old : (a : ℕ) → 1 ≤ uses a (map_blocks g.disk g.disk.lent.map) → 1 ≤ uses a (old_blocks g)
      map_old a q = unfold old_blocks in omega (arith, uses_append a (tree_blocks g) (map_blocks g.disk g.disk.lent.map))

  well_formed_lem : well_formed x' f.root ≡ true
  unfolding well_formed
  well_formed_lem = and_both _ _ (and_both _ _ (and_both _ _ (and_both _ _ sizes_hold_lem order_known) few_maps) counts_hold_lem) map_holds

  elsewhere : (a : ℕ) → written p f a ≡ false → block_at x'.lent a ≡ block_at l a
  unfolding written
  elsewhere a h =
      by_test (is_used p.bitmap a)
      (λ t. block_stays g τ th s es l p xid next k a t)
      (λ t. free a (rw t at h))
    where
      free : (a : ℕ) → is_used f.after.space.bitmap a ≡ false → block_at x'.lent a ≡ block_at l a
      free a h = unfold block_at left_by at_first in subst (λ (z : ℕ). window (a * z) z f.after.image ≡ window (a * z) z l.image)
          (lent g τ th s es l p xid next k).node ((wrote g τ th s es l p xid next k).free a h)

  met : (a : ℕ) → uses a (blocks_of (visits_of (walk_from x' f.root))) ≡ uses a (blocks_of r.walk.walk.nodes)
  met a = ap (λ (z : Result Walked). uses a (blocks_of (visits_of z))) r.from ∙ (unfold visits_of in refl)

  books : (a : ℕ) → uses a (tree_blocks g) + cond (written p f a) 1 0 ≡ uses a (blocks_of (visits_of (walk_from x' f.root))) + uses a f.after.freed
  unfolding written node_at
  books a =
      let m : MemNode → ℕ = λ m. uses a m.block in
      omega (
        arith,
        (keeps g τ th s es l p xid next k).booked.books a,
        k.good.blocks a,
        live_total g τ th s es l p xid next k (node_at s)
            (λ c. refl) m,
        r.blocks a,
        met a,
      )

  once : (a : ℕ) → uses a (tree_blocks g) + cond (written p f a) 1 0 ≤ 1
  unfolding written
  once a =
      by_test (is_used p.bitmap a)
      (λ t. rw t (omega (arith, k.blocks_once a)))
      (λ t. rw t (omega (arith, fresh a t, bit (is_used f.after.space.bitmap a))))
    where
      fresh : (a : ℕ) → is_used p.bitmap a ≡ false → uses a (tree_blocks g) ≡ 0
      fresh a t = zero_not (uses a (tree_blocks g)) (λ h. never (k.lends.marked a (tree_old g a h)) t)

      bit : (b : Bool) → cond b 1 0 ≤ 1
      bit true = le_refl 1
      bit false = omega arith

  same_root : g.state.virtual ≡ true → f.root ≡ g.root
  same_root v =
      let sv : s.virtual ≡ true = k.good.virtual ∙ v in
      let i = k.good.root_id sv in
      let n : 1 ≤ length (node_at s s.root).id = let z : length (node_at s s.root).id ≡ 1 = ap length i in omega arith in
      root_is g τ th s es l p xid next k ∙ number_id g τ th s es l p xid next k s.root g.root sv
      ((moves g τ th s es l p xid next k sv).same s.root n ∙ i)

  freed_count : length f.after.freed ≡ count_below (λ a. leb 1 (uses a f.after.freed)) (blocks l)
  freed_count =
      count_distinct (blocks l) f.after.freed (λ a. omega (arith, books a, once a))
      (λ a h. omega (arith, old_inside g k.begins.bytes a ((keeps g τ th s es l p xid next k).booked.freed a h).1, more))
    where
      more : blocks g.disk.lent ≤ blocks l
      more = blocks_more g.disk.lent l k.lends.lends.same_size k.lends.lends.no_shorter

  count_is : f.allocated ≡ count_below (written p f) (blocks l)
  count_is = unfold flushed written in (keeps g τ th s es l p xid next k).booked.count

  freed_is : f.freed_count ≡ length f.after.freed
  freed_is = unfold flushed in refl

  keys_is : f.keys ≡ s.info.key_count
  keys_is = unfold flushed in refl

  pub flushes : Flushes g es th l p (flushed l p s xid next)
  flushes =
      record {
        walks = ap list_of r.from ∙ listed r.walk ∙ r.entries;
        formed = well_formed_lem;
        elsewhere = elsewhere;
        as_long = as_long g τ th s es l p xid next k;
        bytes = (keeps g τ th s es l p xid next k).booked.bytes;
        books = books;
        once = once;
        stay = (keeps g τ th s es l p xid next k).booked.bits;
        same_root = same_root;
        allocated = count_is;
        freed = freed_is ∙ freed_count;
        keys = keys_is ∙ k.good.key_count;
        freed_only = λ a h. ((keeps g τ th s es l p xid next k).booked.freed a h).0;
      }
    where
      listed : (w : Walked) → list_of (ok w) ≡ w.walk.entries
      listed w = unfold list_of in refl

  -- as many blocks as there are dirty nodes that the root reaches
  pub allocated_dirty : (flushed l p s xid next).allocated ≡ dirty_reached s
  unfolding dirty_reached
  allocated_dirty =
      let w : Flushing = at_first l p s next in
      let u = (write_from_lem s xid (blocks l) k.good.level s.root (at_first l p s next) (first_ready g τ th s es l p xid next k).holds
      (λ m t. first_dirty m t)).spent in
      let v = (wrote g τ th s es l p xid next k).spent in
      let e = after_is g τ th s es l p xid next k in
      let a : f.after.allocated ≡ (write_from k.good.level s xid s.root (at_first l p s next)).allocated =
      ap (λ (z : Flushing). z.allocated) e in
      let b : usable s.info.node_size f.after.space ≡ usable s.info.node_size
      (write_from k.good.level s xid s.root (at_first l p s next)).space =
      ap (λ (z : Flushing). usable s.info.node_size z.space) e in
      let d : sum_from (λ m. cond m.dirty 1 0) (node_at s s.root).level s s.root ≡ sum_from (λ m. cond m.dirty 1 0) k.good.level s
      s.root =
      ap (λ (j : ℕ). sum_from (λ m. cond m.dirty 1 0) j s s.root) (level_is g τ th s es l p xid next k) in
      omega (arith, u, v, a, b, d, none, same)
    where
      first_dirty : (m : ℕ) → (get_or (at_first l p s next).nodes m no_node).dirty ≡ true → (node_at s m).dirty ≡ true
      first_dirty m t = unfold at_first node_at in t

      none : (at_first l p s next).allocated ≡ 0
      none = unfold at_first in refl

      same : f.allocated ≡ f.after.allocated
      same = unfold flushed in refl

-- ---- the law

-- of the disk as it was opened: images that agree on its old blocks map ids alike; no block and no id is one of two nodes
module _ (g : Start) (τ : Terms) (address_same : (l : Lent) → Lends g l → (r : ℕ)
    → address_of l g.disk.xid r ≡ address_of g.disk.lent g.disk.xid r)
    (blocks_once : (a : ℕ) → uses a (tree_blocks g) ≤ 1) (ids_once : g.state.virtual ≡ true → (i : ℕ) → uses i (old_ids g) ≤ 1) where
  setting : (th : List ℕ) (s : State) (es : List Entry) (l : Lent) (p : Space) (lists : Lists) (xid next : ℕ) (f : Flushed) → Begins g → Suits g τ
      → Good g τ th s es → LendsFlush g l p xid next f
      → flush l p lists s xid next ≡ ok f → (f ≡ flushed l p s xid next) × Setting g τ th s es l p xid next
  unfolding flush flush_in
  setting th s es l p lists xid next f b su go le e =
      let r3 : Result Flushed = check refusal.count (leb (next + ids_wanted s) (2 ^ 64 - 1)) >> ok (flushed l p s xid next) in
      let r2 : Result Flushed = check refusal.full (leb (dirty_reached s) (usable l.size p)) >> r3 in
      let (h1, e1) = checked_ok refusal.lent (lent_holds l s)
      (check refusal.lent (space_holds l.size (blocks l) p && lists_hold l.slots lists) >> r2) f e in
      let (h2, e2) = checked_ok refusal.lent (space_holds l.size (blocks l) p && lists_hold l.slots lists) r2 f e1 in
      let (h3, e3) = checked_ok refusal.full (leb (dirty_reached s) (usable l.size p)) r3 f e2 in
      let (h4, e4) = checked_ok refusal.count (leb (next + ids_wanted s) (2 ^ 64 - 1)) (ok (flushed l p s xid next)) f e3 in
      let q : f ≡ flushed l p s xid next = cc in (
        q,
        record {
          begins = b;
          suits = su;
          good = go;
          lends = subst (LendsFlush g l p xid next) q le;
          held = h1;
          space = and_left (space_holds l.size (blocks l) p) (lists_hold l.slots lists) h2;
          enough = leb-true (dirty_reached s) (usable l.size p) h3;
          ids = leb-true (next + ids_wanted s) (2 ^ 64 - 1) h4;
          address_same_lem = address_same;
          blocks_once = blocks_once;
          ids_once = ids_once;
        },
      )

  pub good_flush : (th : List ℕ) (s : State) (es : List Entry) (l : Lent) (p : Space) (lists : Lists) (xid next : ℕ) (f : Flushed) → Begins g
      → Suits g τ → Good g τ th s es → LendsFlush g l p xid next f
      → flush l p lists s xid next ≡ ok f → Flushes g es th l p f
  good_flush th s es l p lists xid next f b su go le e =
      let (q, k) = setting th s es l p lists xid next f b su go le e in
      subst (Flushes g es th l p) (sym q) (flushes g τ th s es l p xid next k)

  -- a flush takes as many blocks as there are dirty nodes that the root reaches
  pub flush_allocated : (th : List ℕ) (s : State) (es : List Entry) (l : Lent) (p : Space) (lists : Lists) (xid next : ℕ) (f : Flushed) → Begins g
      → Suits g τ → Good g τ th s es → LendsFlush g l p xid next f
      → flush l p lists s xid next ≡ ok f → f.allocated ≡ dirty_reached s
  flush_allocated th s es l p lists xid next f b su go le e =
      let (q, k) = setting th s es l p lists xid next f b su go le e in
      ap (λ (z : Flushed). z.allocated) q ∙ allocated_dirty g τ th s es l p xid next k
