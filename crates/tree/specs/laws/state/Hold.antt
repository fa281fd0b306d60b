-- What refusal 1 grants once it is passed: the root is in use, keys rise and are keys of the order. Assumes nothing.
use Rattle.std.specs.Prelude.{◌≡◌, refl, List, [], ◌∷◌, Bool, true, false, ◌&&◌, ◌||◌, not, ℕ, zero, suc, ◌+◌, ◌<◌, length, get_or, leb, ltb}
use Rattle.std.proofs.Common.{arith, ltb-true}
use Rattle.std.proofs.Math.Dec.{eqb}
use Rattle.std.proofs.lemmas.Bool.{not-true}
use Rattle.node.specs.Order.{keyed}
use Rattle.node.specs.Entry.{Entry, rising, every}
use Rattle.node.specs.Fit.{fixed}
use Rattle.node.specs.Slot.{MemNode, suit}
use Rattle.node.specs.laws.order.Rising.{every_imp}
use Rattle.tree.specs.laws.base.Node.{never, and_split, and_left, and_right, Keys, KeyBytes, keys_known}
use Rattle.tree.specs.Lent.{Lent}
use Rattle.tree.specs.State.{State, no_node, node_at}
use Rattle.tree.specs.Hold.{key_fits, value_fits, child_holds, stands_on_disk, node_stands, node_holds, every_live, named_once, hold_together, numbers_hold, lent_holds}

pub lent_together : (l : Lent) (s : State) → lent_holds l s ≡ true → hold_together s ≡ true
unfolding lent_holds
lent_together l s h = and_right (numbers_hold l s) (hold_together s) h

-- the root's slot is in use and not dead
pub root_used : (s : State) → hold_together s ≡ true → (s.root < length s.nodes) × ((node_at s s.root).dead ≡ false)
unfolding hold_together
root_used s h =
    let a = and_left (ltb s.root (length s.nodes) && not (node_at s s.root).dead && every_live (node_holds s) 0 s.nodes)
    (named_once s (length s.nodes)) h in
    let b = and_left (ltb s.root (length s.nodes) && not (node_at s s.root).dead) (every_live (node_holds s) 0 s.nodes) a in
    let (c, d) = and_split (ltb s.root (length s.nodes)) (not (node_at s s.root).dead) b in
    (ltb-true s.root (length s.nodes) c, not-true (node_at s s.root).dead d)

or_right : (a b : Bool) → a || b ≡ true → a ≡ false → b ≡ true
or_right true b h d = never refl d
or_right false b h d = h

-- a test that every live slot passes, at one of them
pub live_at : (t : ℕ → MemNode → Bool) (b : ℕ) (ms : List MemNode) (m : ℕ) → every_live t b ms ≡ true → m < length ms
    → (get_or ms m no_node).dead ≡ false
    → t (b + m) (get_or ms m no_node) ≡ true
unfolding every_live
live_at t b [] m h k d = absurd (omega arith)
live_at t b (x ∷ xs) zero h k d =
    let z : b + 0 ≡ b = omega arith in
    let a : x.dead || t b x ≡ true = and_left (x.dead || t b x) (every_live t (suc b) xs) h in
    rw z (or_right x.dead (t b x) a d)
live_at t b (x ∷ xs) (suc m) h k d =
    let z : suc b + m ≡ b + suc m = omega arith in
    let i : t (suc b + m) (get_or xs m no_node) ≡ true = live_at t (suc b) xs m (and_right (x.dead || t b x) (every_live t (suc b) xs) h)
    (omega arith) d in
    rw z at i

-- a slot in use that is not dead holds a node
pub slot_holds_lem : (s : State) (n : ℕ) → hold_together s ≡ true → n < length s.nodes → (node_at s n).dead ≡ false
    → node_holds s n (node_at s n) ≡ true
unfolding hold_together node_at
slot_holds_lem s n h k d =
    let a = and_left (ltb s.root (length s.nodes) && not (node_at s s.root).dead && every_live (node_holds s) 0 s.nodes)
    (named_once s (length s.nodes)) h in
    let b = and_right (ltb s.root (length s.nodes) && not (node_at s s.root).dead) (every_live (node_holds s) 0 s.nodes) a in
    let z : 0 + n ≡ n = omega arith in
    let i : node_holds s (0 + n) (get_or s.nodes n no_node) ≡ true = live_at (node_holds s) 0 s.nodes n b k d in
    rw z at i

module _ (s : State) (n : ℕ) (m : MemNode) (h : node_holds s n m ≡ true) where
  abbrev fit : Entry → Bool
  fit e = key_fits s e.key && value_fits s e.value && suit (eqb m.level 0) e && child_holds s m.level e.value

  abbrev shape : Bool
  shape = leb m.level 32 && (eqb m.level 0 || not (eqb (length m.entries) 0))

  -- its keys rise
  pub node_rising : rising s.order m.entries ≡ true
  unfolding node_holds
  node_rising = and_right (node_stands s n m) (rising s.order m.entries) h

  -- its entries are such as 12 accepts, and suit its level
  pub node_fits : every fit m.entries ≡ true
  unfolding node_holds node_stands
  node_fits =
      and_right shape (every fit m.entries)
      (and_left (shape && every fit m.entries) (stands_on_disk s n m) (and_left (node_stands s n m) (rising s.order m.entries) h))

  -- its keys are keys of the order, if they are bytes
  pub node_keys : KeyBytes m.entries → Keys s.order m.entries
  unfolding key_fits
  node_keys b =
      keys_known s.order m.entries
      (every_imp fit (λ e. keyed s.order e.key) m.entries (λ e g.
      and_left (keyed s.order e.key) (not (fixed s.info) || eqb (length e.key) s.info.key_size)
      (and_left (key_fits s e.key) (value_fits s e.value)
      (and_left (key_fits s e.key && value_fits s e.value) (suit (eqb m.level 0) e)
      (and_left (key_fits s e.key && value_fits s e.value && suit (eqb m.level 0) e) (child_holds s m.level e.value) g))))
      node_fits)
      b
