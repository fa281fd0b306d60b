-- Loading a child changes no entry, and loading it again changes nothing. Assumes nothing.
use Rattle.std.specs.Prelude.{◌≡◌, refl, ltb, eqb}
use Rattle.std.proofs.Math.Path.{ap}
use Rattle.std.proofs.Common.{◌∙◌, arith}
use Prim.Native.Nat.{ℕ, suc, ◌≤◌, ◌<◌}
use Rattle.std.proofs.Math.ListN.{length}
use borrow.Author.Tests.{ltb-true, eqb-true, eqb-false}
use Rattle.node.specs.Result.{Result, ok, refused, ◌>>=◌}
use Rattle.node.specs.laws.base.Results.{no_answer}
use Rattle.node.specs.Refusals as refusal
use Rattle.node.specs.Entry.{ghost, disk, mem}
use Rattle.node.specs.Find.{val_at}
use Rattle.node.specs.Read.{OnDisk}
use Rattle.node.specs.Slot.{MemNode, with_value}
use Rattle.tree.specs.laws.base.Node.{by_test, bind_ok, checked_ok}
use Rattle.tree.specs.Lent.{Lent}
use Rattle.tree.specs.State.{State, with_nodes, node_at, put_node, add_node, with_entries}
use Rattle.tree.specs.Load.{Bounds, child_bounds, load_block, child_place, address_of, adopted, At, load_child}
pub use Rattle.tree.specs.internal.Brought.{brought}
use Rattle.tree.specs.laws.state.State.{by_val, at_put_same, at_put_other, put_count, at_add_old, add_count, at_used, val_used, keys_of, value_keys, value_same, value_other}

-- a load that is accepted: the child was there, or it was on disk and is brought
pub by_load : {C : Type 0} (l : Lent) (s : State) (bs : Bounds) (n i : ℕ) (a : At) → load_child l s bs n i ≡ ok a
    → ((c : ℕ) → val_at (node_at s n).entries i ≡ mem c → a ≡ record { state = s; slot = c } → C)
    → ((r : ℕ) (d : OnDisk) (b : ℕ) → val_at (node_at s n).entries i ≡ disk r → length s.nodes < l.slots → address_of l s.xid r ≡ ok b
    → load_block l s.order (child_place s.info.key_size s.info.val_size (child_bounds s.order bs (node_at s n).entries i)
    (node_at s n).level r) (child_bounds s.order bs (node_at s n).entries i) b ≡ ok d
    → a ≡ brought s n i d b → C)
    → C
unfolding load_child
by_load l s bs n i a e f g =
    by_val (val_at (node_at s n).entries i)
    (λ q. let p : refused refusal.lent ≡ ok a = rw q at e in no_answer refusal.lent a p)
    (λ b q. let p : refused refusal.lent ≡ ok a = rw q at e in no_answer refusal.lent a p)
    (λ r q.
    let cs : Bounds = child_bounds s.order bs (node_at s n).entries i in
    let read : ℕ → Result OnDisk = λ b. load_block l s.order
    (child_place s.info.key_size s.info.val_size cs (node_at s n).level r) cs b in
    let next : ℕ → Result At = λ b. read b >>= λ d. ok (brought s n i d b) in
    let (t, p) = checked_ok refusal.no_slot (ltb (length s.nodes) l.slots) (address_of l s.xid r >>= next) a (rw q at e) in
    let (b, w, u) = bind_ok (address_of l s.xid r) next a p in
    let (d, x, y) = bind_ok (read b) (λ d. ok (brought s n i d b)) a u in
    g r d b q (ltb-true (length s.nodes) l.slots t) w x (cc))
    (λ c q. let p : ok (record { state = s; slot = c }) ≡ ok a = rw q at e in f c q (cc))

-- ---- what a load leaves as it was

pub record Kept (s t : State) (n i : ℕ) : Type 0 where
  -- the tree's numbers, and its root
  pub root : t.root ≡ s.root
  pub info : t.info ≡ s.info
  pub order : t.order ≡ s.order
  pub virtual : t.virtual ≡ s.virtual
  pub xid : t.xid ≡ s.xid
  -- one slot more at most
  pub more : length s.nodes ≤ length t.nodes
  pub most : length t.nodes ≤ suc (length s.nodes)
  -- every slot that was in use: level, block, id, dirty, dead, keys
  pub level : (m : ℕ) → m < length s.nodes → (node_at t m).level ≡ (node_at s m).level
  pub block : (m : ℕ) → m < length s.nodes → (node_at t m).block ≡ (node_at s m).block
  pub id : (m : ℕ) → m < length s.nodes → (node_at t m).id ≡ (node_at s m).id
  pub dirty : (m : ℕ) → m < length s.nodes → (node_at t m).dirty ≡ (node_at s m).dirty
  pub dead : (m : ℕ) → m < length s.nodes → (node_at t m).dead ≡ (node_at s m).dead
  pub keys : (m : ℕ) → m < length s.nodes → keys_of (node_at t m).entries ≡ keys_of (node_at s m).entries
  -- every entry's value but that of child i of slot n
  pub values : (m j : ℕ) → m < length s.nodes → (m ≡ n → j ≡ i → ⊥) → val_at (node_at t m).entries j ≡ val_at (node_at s m).entries j

pub kept_refl : (s : State) (n i : ℕ) → Kept s s n i
kept_refl s n i =
    record {
      root = refl;
      info = refl;
      order = refl;
      virtual = refl;
      xid = refl;
      more = omega arith;
      most = omega arith;
      level = λ m h. refl;
      block = λ m h. refl;
      id = λ m h. refl;
      dirty = λ m h. refl;
      dead = λ m h. refl;
      keys = λ m h. refl;
      values = λ m j h k. refl;
    }

module _ (s : State) (n i : ℕ) (d : OnDisk) (b r : ℕ) (q : val_at (node_at s n).entries i ≡ disk r) where
  abbrev t : State
  t = (brought s n i d b).state

  abbrev linked : MemNode
  linked = with_entries (node_at s n) (with_value i (mem (length s.nodes)) (node_at s n).entries)

  disk_some : disk r ≡ ghost → ⊥
  disk_some e = let z : ◌≡◌ {A = ℕ} 0 1 = cc in omega arith

  used : n < length s.nodes
  used = at_used s n i (disk r) disk_some q

  inside : i < length (node_at s n).entries
  inside = val_used (node_at s n).entries i (disk r) disk_some q

  old : (m : ℕ) → m < length s.nodes → node_at t m ≡ node_at (put_node s n linked) m
  old m h = at_add_old (put_node s n linked) (adopted s.virtual b d) m (rw (put_count s n linked) h)

  -- slot n after the load, and every other
  same : node_at t n ≡ linked
  same = old n used ∙ at_put_same s n linked used

  other : (m : ℕ) → m < length s.nodes → (m ≡ n → ⊥) → node_at t m ≡ node_at s m
  other m h k = old m h ∙ at_put_other s n linked m k

  -- what is so of slot n, and of every other, is so of each
  each : {A : Type 0} (f : MemNode → A) → f linked ≡ f (node_at s n) → (m : ℕ) → m < length s.nodes → f (node_at t m) ≡ f (node_at s m)
  each f p m h =
      by_test (eqb m n)
      (λ u. let z : m ≡ n = eqb-true m n u in rw z (ap f same ∙ p))
      (λ u. ap f (other m h (eqb-false m n u)))

  pub brought_child : val_at (node_at t n).entries i ≡ mem (length s.nodes)
  unfolding with_entries
  brought_child =
      ap (λ (z : MemNode). val_at z.entries i) same
      ∙ value_same i (mem (length s.nodes)) (node_at s n).entries inside

  brought_values : (m j : ℕ) → m < length s.nodes → (m ≡ n → j ≡ i → ⊥) → val_at (node_at t m).entries j ≡ val_at (node_at s m).entries j
  unfolding with_entries
  brought_values m j h k =
      by_test (eqb m n)
      (λ u. let z : m ≡ n = eqb-true m n u in
      rw z (ap (λ (y : MemNode). val_at y.entries j) same
      ∙ value_other i (mem (length s.nodes)) (node_at s n).entries j (k z)))
      (λ u. ap (λ (y : MemNode). val_at y.entries j) (other m h (eqb-false m n u)))

  pub brought_kept : Kept s t n i
  unfolding with_entries add_node put_node with_nodes
  brought_kept =
      let c : length t.nodes ≡ suc (length s.nodes) = add_count (put_node s n linked) (adopted s.virtual b d)
      ∙ ap suc (put_count s n linked) in
      record {
        root = refl;
        info = refl;
        order = refl;
        virtual = refl;
        xid = refl;
        more = omega arith;
        most = omega arith;
        level = each (λ z. z.level) refl;
        block = each (λ z. z.block) refl;
        id = each (λ z. z.id) refl;
        dirty = each (λ z. z.dirty) refl;
        dead = each (λ z. z.dead) refl;
        keys = each (λ z. keys_of z.entries) (value_keys i (mem (length s.nodes)) (node_at s n).entries);
        values = brought_values;
      }

-- loading changes no entry but the child's, from its place on disk to its slot
pub load_keeps : (l : Lent) (s : State) (bs : Bounds) (n i : ℕ) (a : At) → load_child l s bs n i ≡ ok a → Kept s a.state n i
load_keeps l s bs n i a e =
    by_load l s bs n i a e
    (λ c q p. rw p (kept_refl s n i))
    (λ r d b q h w x p. rw p (brought_kept s n i d b r q))

-- a child in a slot is its own load
pub load_there : (l : Lent) (s : State) (bs : Bounds) (n i c : ℕ) → val_at (node_at s n).entries i ≡ mem c
    → load_child l s bs n i ≡ ok (record { state = s; slot = c })
unfolding load_child
load_there l s bs n i c q = rw q

-- a child loaded is in a slot
pub load_child_lem : (l : Lent) (s : State) (bs : Bounds) (n i : ℕ) (a : At) → load_child l s bs n i ≡ ok a
    → val_at (node_at a.state n).entries i ≡ mem
    a.slot
load_child_lem l s bs n i a e =
    by_load l s bs n i a e
    (λ c q p. rw p q)
    (λ r d b q h w x p. rw p (brought_child s n i d b r q))

-- loaded again, it answers the same slot and changes nothing
pub load_again : (l : Lent) (s : State) (bs : Bounds) (n i : ℕ) (a : At) → load_child l s bs n i ≡ ok a → load_child l a.state bs n i ≡ ok a
load_again l s bs n i a e = load_there l a.state bs n i a.slot (load_child_lem l s bs n i a e)
