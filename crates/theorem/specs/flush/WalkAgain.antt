-- The walk of the disk that flush leaves: it is accepted, gives the plain list, and meets the blocks where flush left the tree's nodes.
-- Assumes nothing.
use Rattle.std.specs.Prelude.{◌≡◌, List, ◌∷◌, Bool, true, false, cond, ℕ, ◌+◌, ◌≤◌, length, get_or, leb}
use Rattle.std.proofs.Math.Path.{refl, sym}
use Rattle.std.proofs.Common.{ap, ◌∙◌}
use native.Mathlib.Omega.{arith}
use Rattle.node.specs.Result.{ok}
use Rattle.node.specs.Entry.{Entry, mem}
use Rattle.node.specs.Read.{OnDisk, info_at}
use Rattle.node.specs.Slot.{MemNode}
use Rattle.node.specs.laws.base.Tests.{by_test}
use Rattle.node.specs.declared.info.BTreeInfo.{BTreeInfo}
use Rattle.tree.specs.Lent.{Lent, block_at}
use Rattle.tree.specs.State.{State, node_at, no_node}
use Rattle.tree.specs.Load.{unbounded, load_block, root_place, root_holds, adopted}
use Rattle.flush.specs.Space.{Space}
use Rattle.flush.specs.Flush.{Flushing, slot_number, flushed}
use Rattle.history.specs.Walk.{Disk, Visit, Walk, Walked, resolve, walk_below, walk_from, blocks_of}
use Rattle.history.specs.Statement.{Start, uses, left_by}
use Rattle.theorem.specs.model.Bounds.{Terms}
use Rattle.theorem.specs.model.Lazy.{names, slots, names_same, ok_level}
use Rattle.theorem.specs.model.Good.{found}
use Rattle.theorem.specs.model.Seen.{rd}
use Rattle.theorem.specs.flush.SameTree.{Like, Sim, Stand, sim}
use Rattle.theorem.specs.model.Sums.{sum_below}
use Rattle.theorem.specs.flush.SlotSums.{off}
use Rattle.theorem.specs.disk.Walk.{Lower, Upper, Walked as Walks, walk_is}
use Rattle.theorem.specs.flush.Seen.{bare, seen_disks, root_disks}
use Rattle.theorem.specs.flush.Reached.{Setting, in_of, live_total}
use Rattle.theorem.specs.flush.Done.{keeps}
use Rattle.theorem.specs.flush.ReadBack.{On, on_disk_lem, Lands, clean_lands}
use Rattle.theorem.specs.flush.ReadPacked.{dirty_lands}
use Rattle.theorem.specs.flush.ReadRoot.{Rooted, rooted, root_reached}

-- a walk from its parts
walk_chain : (x : Disk) (r a : ℕ) (d : OnDisk) (w : Walk) → resolve x r ≡ ok a → load_block x.lent x.order (root_place r) unbounded a ≡ ok d
    → root_holds x.lent a (leb 1 (length x.lent.map)) d ≡ true → walk_below d.node.level x (info_at (block_at x.lent a)) unbounded d ≡ ok w
    → walk_from x r ≡ ok (record {
      walk = record { nodes = record { block = a; id = d.node.oid } ∷ w.nodes; entries = w.entries };
      info =
          info_at (block_at x.lent a);
    })
unfolding walk_from
walk_chain x r a d w p q h e = rw (p, q, h, e)

-- no bounds
no_lower : (τ : Terms) (lo : ℕ) → Lower τ unbounded.lower lo
unfolding unbounded
no_lower τ lo = record { one = omega arith; keyed = λ h. absurd (omega arith) }

no_upper : (τ : Terms) (hi : ℕ) → Upper τ unbounded.upper hi
unfolding unbounded
no_upper τ hi = record { one = omega arith; keyed = λ h. absurd (omega arith) }

module _ (g : Start) (τ : Terms) (th : List ℕ) (s : State) (es : List Entry) (l : Lent) (p : Space) (xid next : ℕ)
    (k : Setting g τ th s es l p xid next) where
  abbrev W : Flushing
  W = (flushed l p s xid next).after

  abbrev x' : Disk
  x' = left_by g l (flushed l p s xid next)

  abbrev num : ℕ → ℕ
  num = slot_number s.virtual W.nodes

  abbrev slot : ℕ → MemNode
  slot c = get_or (flushed l p s xid next).after.nodes c no_node

  abbrev rd' : ℕ → MemNode
  rd' = rd x' τ g.state.virtual

  abbrev L : ℕ
  L = k.good.level

  abbrev root : MemNode
  root = node_at s s.root

  -- a slot below the root
  abbrev S : ℕ → Type 0
  S c = (1 ≤ names c (mem s.root) + slots (found g τ) (node_at s) k.good.level c (node_at s s.root)) × (c ≡ s.root → ⊥)

  abbrev D : ℕ → Type 0
  D = On g τ th s es l p xid next k

  abbrev below_none : (at : ℕ → MemNode) (r j d : ℕ) → slots (found g τ) at j d (found g τ r) ≡ 0
  below_none = bare g.disk τ g.state.virtual

  abbrev Alike : MemNode → MemNode → MemNode → Type 0
  Alike = Like τ (found g τ) (node_at s) slot rd' (node_at s) num S D below_none

  like_of : (c : ℕ) (m : MemNode) → Lands g τ th s es l p xid next k c m → Alike (node_at s c) (slot c) m
  like_of c m h = record {
    level = h.level;
    live = h.live;
    entries = h.entries;
    second =
        (keeps g τ th s es l p xid next k).booked.entries c;
    block = h.block;
  }

  like : (c : ℕ) → S c → Alike (node_at s c) (slot c) (rd' (num c))
  like c h =
      let i = in_of g τ th s es l p xid next k c h.0 in
      like_of c (rd' (num c))
      (by_test (node_at s c).dirty
      (λ t. dirty_lands g τ th s es l p xid next k c h.0 i t h.1)
      (λ t. clean_lands g τ th s es l p xid next k c h.0 i t h.1))

  r : Rooted g τ th s es l p xid next k
  r = rooted g τ th s es l p xid next k

  abbrev top : MemNode
  top = adopted g.state.virtual r.address r.node

  one : (b : Bool) (a c : ℕ) → a + c ≡ cond b 0 1 → a ≡ 1 → c ≡ 0
  one true a c h e = omega arith
  one false a c h e = omega arith

  -- the root stands nowhere below itself
  root_once : slots (found g τ) (node_at s) L s.root root ≡ 0
  root_once = one (node_at s s.root).dead (names s.root (mem s.root)) _
      (k.good.once s.root (in_of g τ th s es l p xid next k s.root (root_reached g τ th s es l p xid next k)).used) (names_same s.root)

  stand : Stand τ (found g τ) (node_at s) slot rd' (node_at s) num S D below_none L root
  stand =
      record {
        slots = λ x h. (
          omega arith,
          λ e. let z : slots (found g τ) (node_at s) L x root ≡ 0 = ap (λ (y : ℕ). slots (found g τ) (node_at s) L y root) e
              ∙ root_once in omega arith,
        );
        disks = λ q j lo hi o h. record { level = j; lo = lo; hi = hi; ok = o; less = h };
      }

  -- the tree in its slots and the tree on disk
  simmed : Sim τ (found g τ) (node_at s) slot rd' (node_at s) num S D below_none L k.good.lo k.good.hi root (slot s.root) top
  simmed =
      sim τ (found g τ) (node_at s) slot rd' (node_at s) num S D below_none like (on_disk_lem g τ th s es l p xid next k) L k.good.lo
      k.good.hi root (slot s.root) top k.good.tree
      (like_of s.root top r.lands) stand

  -- ---- the walk

  abbrev t : BTreeInfo
  t = info_at (block_at x'.lent r.address)

  ord : x'.order ≡ τ.order
  unfolding left_by
  ord = sym k.suits.order

  key_size : t.key_size ≡ τ.ksize
  key_size = ap (λ (z : BTreeInfo). z.key_size) r.info ∙ k.good.info.key ∙ sym k.suits.ksize

  val_size : t.val_size ≡ τ.vsize
  val_size = ap (λ (z : BTreeInfo). z.val_size) r.info ∙ k.good.info.val ∙ sym k.suits.vsize

  level_is : r.node.node.level ≡ L
  level_is = level_of r.node ∙ ok_level τ rd' (node_at s) L k.good.lo k.good.hi top simmed.ok
    where
      level_of : (d : OnDisk) → d.node.level ≡ (adopted g.state.virtual r.address d).level
      level_of d = unfold adopted in refl

  walked : (w : Walk) × (walk_below L x' t unbounded r.node ≡ ok w) × Walks τ x' g.state.virtual (node_at s) t ord key_size val_size L top w
  walked =
      walk_is τ x' g.state.virtual (node_at s) t ord key_size val_size
      (seen_disks x' τ g.state.virtual (node_at s) t ord key_size val_size) L unbounded r.address r.node k.good.lo k.good.hi
      (no_lower τ k.good.lo) (no_upper τ k.good.hi) level_is
      (λ h. root_disks x' τ g.state.virtual (node_at s) t ord key_size val_size (root_place (flushed l p s xid next).root) r.address r.node
      r.load (omega (arith, level_is))) simmed.ok

  pub record Rewalked : Type 0 where
    pub walk : Walked
    pub from : walk_from (left_by g l (flushed l p s xid next)) (flushed l p s xid next).root ≡ ok walk
    pub entries : walk.walk.entries ≡ es
    pub info : walk.info ≡ s.info
    pub blocks : (a : ℕ) → uses a (blocks_of walk.walk.nodes)
        ≡ sum_below (λ c. cond (node_at s c).dead 0 (uses a (get_or (flushed l p s xid next).after.nodes c no_node).block)) (length s.nodes)
        + off (found g τ) (node_at s) (λ m. uses a m.block) k.good.level (node_at s s.root)
    pub count : length walk.walk.nodes ≡ s.info.node_count

  pub rewalked : Rewalked
  rewalked =
      let (w, e, h) = walked in
      record {
        walk = record { walk = record { nodes = record { block = r.address; id = r.node.node.oid } ∷ w.nodes; entries = w.entries }; info = t };
        from = walk_chain x' (flushed l p s xid next).root r.address r.node w r.resolved r.load r.holds
            (ap (λ (j : ℕ). walk_below j x' t unbounded r.node) level_is ∙ e);
        entries = h.entries ∙ simmed.holds ∙ k.good.holds;
        info = r.info;
        blocks = λ a.
            let f : MemNode → ℕ = λ m. uses a m.block in
            first_block a r.address r.node w.nodes ∙ h.blocks a ∙ simmed.sums f (record { same = λ m m' q. ap (uses a) q })
            ∙ live_total g τ th s es l p xid next k slot (keeps g τ th s es l p xid next k).booked.entries f;
        count =
            let f : MemNode → ℕ = λ m. 1 in
            h.nodes ∙ simmed.sums f (record { same = λ m m' q. refl })
            ∙ live_total g τ th s es l p xid next k slot (keeps g τ th s es l p xid next k).booked.entries f
            ∙ sym (live_total g τ th s es l p xid next k (node_at s) (λ c. refl) f) ∙ sym k.good.node_count;
      }
    where
      first_block : (a b : ℕ) (d : OnDisk) (ns : List Visit)
          → uses a (blocks_of (record { block = b; id = d.node.oid } ∷ ns)) ≡ uses a (adopted g.state.virtual b d).block + uses a (blocks_of ns)
      first_block a b d ns = unfold blocks_of uses adopted in omega arith
