-- The walk of an accepted flush, from its first state to its last: every reached slot is done, the books hold, ids are moved. Assumes nothing.
use Rattle.std.specs.Prelude.{◌≡◌, List, [], ◌∷◌, ◌++◌, map, Bool, true, false, ◌&&◌, length, get_or, leb, ltb}
use Rattle.std.proofs.Math.Path.{refl, ap}
use Rattle.std.proofs.Common.{sym, ◌∙◌, le_refl, arith, leb-true, leb-false, ltb-true, ltb-false}
use Rattle.std.proofs.Math.Bool.{cond}
use Prim.Native.Nat.{ℕ, zero, suc, ◌+◌, ◌-◌, ◌*◌, ◌^◌, ◌≤◌, ◌<◌}
use Rattle.std.proofs.Math.Dec.{eqb}
use Rattle.node.specs.Entry.{Entry, mem}
use Rattle.node.specs.Pack.{numbered}
use Rattle.node.specs.Slot.{MemNode}
use Rattle.node.specs.laws.base.Tests.{by_test}
use Rattle.tree.specs.Lent.{Lent, blocks}
use Rattle.tree.specs.State.{State, node_at, no_node}
use Rattle.flush.specs.Space.{Space, Choice, choose, usable, space_holds}
use Rattle.flush.specs.Flush.{Flushing, build_of, write_at, write_from, sum_from, dead_blocks, dirty_reached, ids_wanted, flushed}
use Rattle.history.specs.Statement.{Start, uses, tree_blocks, old_ids}
use Rattle.theorem.specs.model.Bounds.{Terms}
use Rattle.theorem.specs.model.Lazy.{total, names, slots, ok_level}
use Rattle.theorem.specs.model.Good.{found}
use Rattle.theorem.specs.flush.Writes.{Ready, Wrote}
use Rattle.theorem.specs.model.Sums.{uses_append}
use Rattle.theorem.specs.flush.SlotSums.{off}
use Rattle.theorem.specs.flush.Walk.{Both, Stands, walk}
use Rattle.theorem.specs.flush.Blocks.{Booked, books_step, books_start, wrote_next, wrote_moved}
use Rattle.theorem.specs.flush.Ids.{Moved, moves_step, moves_start, ids_in}
use Rattle.theorem.specs.flush.IdsEnough.{from_gives}
use Rattle.theorem.specs.flush.Packed.{packed_bytes, ok_bytes}
use Rattle.theorem.specs.flush.Seen.{bare}
use Rattle.theorem.specs.flush.Reached.{at_first, Setting, lent, In, in_of, packs, live_total}

-- a node's own part of a sum
pub total_own : (rd at : ℕ → MemNode) (f : MemNode → ℕ) (l : ℕ) (m : MemNode) → f m ≤ total rd at f l m
unfolding total
total_own rd at f zero m = le_refl _
total_own rd at f (suc l) m = omega arith

-- a block of a dead slot
dead_at : {X : Type 0} (a : ℕ) (ns : List MemNode) → ((c : ℕ) → c < length ns → (get_or ns c no_node).dead ≡ true
    → 1 ≤ uses a (get_or ns c no_node).block
    → X) → 1 ≤ uses a (dead_blocks ns) → X
unfolding dead_blocks uses
dead_at a [] f h = absurd (omega arith)
dead_at a (m ∷ ms) f h =
    let e : uses a (cond m.dead m.block [] ++ dead_blocks ms) ≡ uses a (cond m.dead m.block []) + uses a (dead_blocks ms) =
    uses_append a (cond m.dead m.block []) (dead_blocks ms) in
    by_test (leb 1 (uses a (dead_blocks ms)))
    (λ t. dead_at a ms (λ c lt d q. f (suc c) (omega arith) d q) (leb-true 1 _ t))
    (λ t.
    let z = leb-false 1 (uses a (dead_blocks ms)) t in
    let own : 1 ≤ uses a (cond m.dead m.block []) = omega arith in
    by_test m.dead
    (λ u. f 0 (omega arith) u (rw u at own))
    (λ u. let y : 1 ≤ 0 = rw u at own in absurd (omega arith)))

module _ (g : Start) (τ : Terms) (th : List ℕ) (s : State) (es : List Entry) (l : Lent) (p : Space) (xid next : ℕ)
    (k : Setting g τ th s es l p xid next) where
  abbrev rd : ℕ → MemNode
  rd = found g τ

  abbrev L : ℕ
  L = k.good.level

  abbrev root : MemNode
  root = node_at s s.root

  -- of a freed block
  abbrev pub Passed : ℕ → Type 0
  Passed a = (1 ≤ uses a th) × (1 ≤ uses a (tree_blocks g))

  -- the next id that is left over
  abbrev F : ℕ
  F = (flushed l p s xid next).after.next

  pub record Keeps (w : Flushing) : Type 0 where
    pub booked : Booked s xid (blocks l) p (λ a. (1 ≤ uses a th) × (1 ≤ uses a (tree_blocks g))) w
    pub moves : s.virtual ≡ true → w.next ≤ (flushed l p s xid next).after.next → Moved s xid (blocks l) next w
    pub still : s.virtual ≡ false → w.moved ≡ []

  pub block_old : (c : ℕ) → In g τ th s es l p xid next k c → (a : ℕ) → 1 ≤ uses a (node_at s c).block → 1 ≤ uses a (tree_blocks g)
  block_old c i a h =
      let f : MemNode → ℕ = λ m. uses a m.block in
      omega (arith, total_own rd (node_at s) f i.level (node_at s c), i.less f, k.good.blocks a)

  freed_own : (c : ℕ) → In g τ th s es l p xid next k c → (node_at s c).dirty ≡ true → (a : ℕ) → 1 ≤ uses a (node_at s c).block → Passed a
  freed_own c i t a h = (k.good.flat.touched c i.used (rw t) a h, block_old c i a h)

  freed_dead : (a : ℕ) → 1 ≤ uses a (dead_blocks s.nodes) → Passed a
  unfolding node_at
  freed_dead a h = (
    dead_at a s.nodes (λ c lt d q. k.good.flat.touched c lt
        (by_test (node_at s c).dirty (λ t. rw t) (λ t. rw (t, d))) a q) h,
    omega (arith, k.good.blocks a),
  )

  -- ---- ids

  virtual_g : s.virtual ≡ true → g.state.virtual ≡ true
  virtual_g v = sym k.good.virtual ∙ v

  -- ids of slots and of nodes on disk are old
  pub ids_old : s.virtual ≡ true → (i : ℕ) → ids_in s xid (blocks l) next s.nodes i + off (found g τ) (node_at s) (λ m. uses i m.id)
      k.good.level (node_at s s.root) ≤ uses i (old_ids g)
  unfolding node_at
  ids_old v i =
      let f : MemNode → ℕ = λ m. uses i m.id in
      omega (arith, k.good.ids v i, live_total g τ th s es l p xid next k (node_at s) (λ c. refl) f)

  ids_once : s.virtual ≡ true → (i : ℕ) → ids_in s xid (blocks l) next s.nodes i ≤ 1
  ids_once v i = omega (arith, ids_old v i, k.ids_once (virtual_g v) i)

  pub ids_apart : s.virtual ≡ true → (i : ℕ) → next ≤ i → i < F → ids_in s xid (blocks l) next s.nodes i ≡ 0
  ids_apart v i a b = omega (arith, ids_old v i, k.lends.unused (virtual_g v) i a b)

  -- ---- the walk

  pub first_ready : Ready s xid (blocks l) (at_first l p s next)
  unfolding at_first
  first_ready =
      let e : s.info.node_size ≡ l.size = (lent g τ th s es l p xid next k).node in
      record {
        holds = ap (λ (z : ℕ). space_holds z (blocks l) p) e ∙ k.space;
        long = (lent g τ th s es l p xid next k).long ∙ ap (λ (z : ℕ). blocks l * z) (sym e);
        count = refl;
      }

  first_keeps : Keeps (at_first l p s next)
  first_keeps =
      unfold at_first in
      record {
        booked = books_start s xid (blocks l) p Passed (at_first l p s next) refl refl refl refl k.lends.lends.bytes freed_dead;
        moves = λ v low. moves_start s xid (blocks l) next (at_first l p s next) refl refl refl;
        still = λ v. refl;
      }

  step : (c : ℕ) (x : Choice) (xs : List Choice) (w : Flushing) → In g τ th s es l p xid next k c → Ready s xid (blocks l) w
      → get_or w.nodes c no_node ≡ node_at s c → (node_at s c).dirty ≡ true
      → choose s.info.node_size w.space ≡ x ∷ xs → Keeps w → Keeps (write_at s xid c x w)
  step c x xs w i r fresh t choice h =
      record {
        booked = books_step s xid (blocks l) p Passed c x xs w r i.used i.live fresh choice h.booked (freed_own c i t)
            (λ oid f. (packed_bytes (build_of s xid oid c (node_at s c)) (map (numbered f) (node_at s c).entries)
            (ok_bytes τ rd (node_at s) f i.level i.lo i.hi (node_at s c) i.ok)).below);
        moves = λ v low.
            moves_step s xid (blocks l) next c x xs w r i.used i.live fresh t choice v
            (h.moves v (omega (arith, wrote_next s xid (blocks l) c x xs w r i.used fresh choice)))
            F low (ids_once v) (ids_apart v) i.slot.one_id;
        still = λ v. wrote_moved s xid (blocks l) c x xs w r i.used fresh choice ∙ none s.virtual _ v w.moved (h.still v);
      }
    where
      none : (b : Bool) (m : ℕ × ℕ) → b ≡ false → (ms : List (ℕ × ℕ)) → ms ≡ [] → ms ++ cond b (m ∷ []) [] ≡ []
      none b m e ms q = rw (e, q)

  stands : Stands s xid (blocks l) τ rd (bare g.disk τ g.state.virtual) (In g τ th s es l p xid next k) (λ x i. i.used)
      (packs g τ th s es l p xid next k) Keeps step k.good.level s.root
  stands =
      record {
        lo = k.good.lo;
        hi = k.good.hi;
        ok = k.good.tree;
        once = λ x. by_test (ltb x (length s.nodes)) (λ t. few x (node_at s x).dead (k.good.once x (ltb-true x _ t)))
            (λ t. omega (arith, k.good.out x (ltb-false x _ t)));
        each = in_of g τ th s es l p xid next k;
      }
    where
      few : (x : ℕ) (b : Bool) → names x (mem s.root) + slots rd (node_at s) L x root ≡ cond b 0 1
          → names x (mem s.root) + slots rd (node_at s) L x root ≤ 1
      few x true h = omega arith
      few x false h = omega arith

  pub level_is : root.level ≡ L
  level_is = ok_level τ rd (node_at s) L k.good.lo k.good.hi root k.good.tree

  -- what flush leaves
  pub after_is : (flushed l p s xid next).after ≡ write_from k.good.level s xid s.root (at_first l p s next)
  unfolding flushed at_first
  after_is = ap (λ (z : ℕ). write_from z s xid s.root (at_first l p s next)) level_is

  few_enough : sum_from (λ m. cond m.dirty 1 0) L s s.root ≤ usable s.info.node_size (at_first l p s next).space
  unfolding at_first
  few_enough =
      let e : s.info.node_size ≡ l.size = (lent g τ th s es l p xid next k).node in
      let u : usable s.info.node_size p ≡ usable l.size p = ap (λ (z : ℕ). usable z p) e in
      let d : dirty_reached s ≡ sum_from (λ m. cond m.dirty 1 0) L s s.root = unfold dirty_reached in
      ap (λ (z : ℕ). sum_from (λ m. cond m.dirty 1 0) z s s.root) level_is in
      omega (arith, k.enough)

  both : Both s xid (blocks l) τ rd (bare g.disk τ g.state.virtual) (In g τ th s es l p xid next k) (λ x i. i.used)
      (packs g τ th s es l p xid next k) Keeps step
      (λ x. names x (mem s.root) + slots rd (node_at s) L x root) (sum_from (λ m. cond m.dirty 1 0) L s s.root) (at_first l p s next)
      (write_from L s xid s.root (at_first l p s next))
  both = walk s xid (blocks l) τ rd (bare g.disk τ g.state.virtual) (In g τ th s es l p xid next k) (λ x i. i.used)
      (packs g τ th s es l p xid next k) Keeps step L s.root (at_first l p s next) stands first_ready
      (λ x q. unfold at_first node_at in refl) few_enough first_keeps

  pub wrote : Wrote s xid (blocks l) (λ x. names x (mem s.root) + slots (found g τ) (node_at s) k.good.level x (node_at s s.root))
      (sum_from (λ m. cond m.dirty 1 0) k.good.level s s.root)
      (at_first l p s next) (flushed l p s xid next).after
  wrote = rw after_is both.wrote

  pub keeps : Keeps (flushed l p s xid next).after
  keeps = rw after_is both.kept

  pub moves : s.virtual ≡ true → Moved s xid (blocks l) next (flushed l p s xid next).after
  moves v = keeps.moves v (le_refl _)

  -- ids given are u64
  pub ids_small : (flushed l p s xid next).after.next ≤ 2 ^ 64 - 1
  ids_small =
      let a = from_gives s xid L s.root (at_first l p s next) (λ c t. unfold at_first node_at in refl) in
      let b : ids_wanted s ≡ sum_from (λ m. cond (m.dirty && s.virtual && eqb (length m.id) 0) 1 0) L s s.root =
      unfold ids_wanted in ap (λ (z : ℕ). sum_from (λ m. cond (m.dirty && s.virtual && eqb (length m.id) 0) 1 0) z s s.root) level_is in
      let e : (flushed l p s xid next).after.next ≡ (write_from L s xid s.root (at_first l p s next)).next =
      ap (λ (z : Flushing). z.next) after_is in
      let d : (at_first l p s next).next ≡ next = unfold at_first in refl in
      omega (arith, a.most, k.ids)
