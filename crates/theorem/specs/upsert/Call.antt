-- Upsert with its arguments' check: what passes 12 is a key and a value that the tree can hold; the node size is at most 65,536. Assumes nothing.
use Rattle.std.specs.Prelude.{◌≡◌, refl, List, ◌++◌, Bool, true, false, cond, ◌||◌, ◌&&◌, not, ℕ, ◌≤◌, ◌<◌, length, leb, eqb}
use Rattle.std.proofs.Math.Path.{sym}
use Rattle.std.proofs.Common.{ap, ap₂, ◌∙◌, arith, leb-true, leb-false, eqb-true, ne_eqb}
use Rattle.seal.specs.Bytes.{AreBytes}
use Rattle.node.specs.laws.base.Results.{Holds, holds_check}
use Rattle.node.specs.Refusals as refusal
use Rattle.node.specs.Order.{keyed}
use Rattle.node.specs.Entry.{Entry, Val, ghost, leaf, disk, mem, value_bytes}
use Rattle.node.specs.Fit.{fixed}
use Rattle.node.specs.Slot.{is_child}
use Rattle.node.specs.laws.base.Bytes.{bytes_below}
use Rattle.node.specs.laws.order.Order.{key_known}
use Rattle.node.specs.laws.base.Tests.{by_test, never, and_split, and_left}
use Rattle.tree.specs.Lent.{Lent, is_size, sizes_hold}
use Rattle.tree.specs.State.{State}
use Rattle.tree.specs.Hold.{key_fits, value_fits, numbers_hold, hold_together, lent_holds}
use Rattle.tree.specs.Lookup.{way}
use Rattle.tree.specs.Upsert.{entry_fits, upsert_in}
use Rattle.tree.specs.laws.trust.Open.{open_holds}
use Rattle.history.specs.Plain.{plain_upsert}
use Rattle.history.specs.Passes.{pass_put}
use Rattle.history.specs.Statement.{Start, Begins, Lends}
use Rattle.theorem.specs.model.Bounds.{Terms, KeyIn, KeyOk, ValueOk, value_sized, key_in}
use Rattle.theorem.specs.steps.Way.{Led}
use Rattle.theorem.specs.model.Good.{Good, Suits, found, Old}
use Rattle.theorem.specs.upsert.Upsert.{good_upsert}

-- ---- the node size

size_most : (size : ℕ) → is_size size ≡ true → size ≤ 65536
unfolding is_size
size_most size t =
    by_test (leb size 65536)
    (λ u. leb-true size 65536 u)
    (λ u.
    let h : 65536 < size = leb-false size 65536 u in
    let n : (k : ℕ) → k ≤ 65536 → eqb size k ≡ false = λ k l. ne_eqb size k (λ e. omega arith) in
    never t (rw (
      n 512 (omega arith),
      n 1024 (omega arith),
      n 2048 (omega arith),
      n 4096 (omega arith),
      n 8192 (omega arith),
      n 16384 (omega arith),
      n 32768 (omega arith),
      n 65536 (omega arith),
    )))

-- the first of tests that all pass
sizes_size : (l : Lent) → sizes_hold l ≡ true → is_size l.size ≡ true
unfolding sizes_hold
sizes_size l h = and_left _ _ (and_left _ _ (and_left _ _ (and_left _ _ (and_left _ _ h))))

numbers_small : (l : Lent) (s : State) → numbers_hold l s ≡ true → s.info.node_size ≤ 65536
unfolding numbers_hold
numbers_small l s h =
    let a = and_left _ _ (and_left _ _ (and_left _ _ (and_left _ _ h))) in
    let (b, c) = and_split (sizes_hold l) (eqb s.info.node_size l.size) a in
    omega (arith, eqb-true s.info.node_size l.size c, size_most l.size (sizes_size l b))

pub begins_small : (g : Start) → Begins g → g.state.info.node_size ≤ 65536
unfolding lent_holds
begins_small g b =
    numbers_small g.disk.lent g.state (and_left (numbers_hold g.disk.lent g.state) (hold_together g.state)
    (open_holds g.disk.lent g.root g.disk.order g.disk.xid g.state b.bytes b.opens))

-- ---- what passes 12

fixed_or : (n : ℕ) (t : Bool) → (not (cond (eqb n 0) false true) || t) ≡ true → (eqb n 0 || t) ≡ true
fixed_or n t h = by_test (eqb n 0) (λ u. rw u) (λ u. rw u (rw u at h))

sized_of : (τ : Terms) (s : State) → s.info.key_size ≡ τ.ksize → s.info.val_size ≡ τ.vsize → (v : Val) → value_fits s v ≡ true
    → not (is_child v) ≡ true → value_sized τ v ≡ true
unfolding value_fits value_sized is_child fixed
sized_of τ s a b ghost h n = refl
sized_of τ s a b (leaf v) h n = ap₂ (λ (x y : ℕ). eqb x 0 || eqb (length v) y) (sym a) (sym b) ∙ fixed_or s.info.key_size _ h
sized_of τ s a b (disk r) h n = never n refl
sized_of τ s a b (mem c) h n = never n refl

pub entry_fits_ok : (τ : Terms) (s : State) (k : List ℕ) (v : Val) → s.order ≡ τ.order → s.info.key_size ≡ τ.ksize
    → s.info.val_size ≡ τ.vsize
    → AreBytes k → AreBytes (value_bytes v) → length k ≤ τ.most → entry_fits s k v ≡ true → KeyOk τ k × ValueOk τ v
unfolding entry_fits key_fits fixed
entry_fits_ok τ s k v o a b bk bv short h =
    let (p, c) = and_split (key_fits s k && value_fits s v) (not (is_child v)) h in
    let (kf, vf) = and_split (key_fits s k) (value_fits s v) p in
    let (kd, fx) = and_split (keyed s.order k) (not (cond (eqb s.info.key_size 0) false true) || eqb
    (length k) s.info.key_size) kf in (
      record {
        key = key_known τ.order k (ap (λ (x : ℕ). keyed x k) (sym o) ∙ kd) (bytes_below k bk);
        short = short;
        fixed = ap (λ (x : ℕ). eqb x 0 || eqb (length k) x) (sym a) ∙ fixed_or s.info.key_size _ fx;
      },
      record { sized = sized_of τ s a b v vf c; bytes = bytes_below (value_bytes v) bv },
    )

-- ---- the call

module _ (g : Start) (τ : Terms) (l : Lent) (suits : Suits g τ) (begins : Begins g) (lends : Lends g l) where
  -- an accepted upsert; led: what its way loads
  pub good_upsert_in : (th : List ℕ) (s : State) (es : List Entry) (k : List ℕ) (v : Val) (gd : Good g τ th s es) → AreBytes k
      → AreBytes (value_bytes v) → length k ≤ τ.most
      → (KeyIn τ k → Holds (λ w. Good g τ th w.state es × Led τ (found g τ) l (Old g) s gd.level s.root gd.lo gd.hi k w) (way l s k))
      → Holds (λ u. Good g τ (th ++ pass_put l s k) u (plain_upsert s.order k v es)) (upsert_in l s k v)
  unfolding upsert_in
  good_upsert_in th s es k v gd bk bv short led =
      holds_check refusal.argument (entry_fits s k v) _ λ t.
      let (kk, vv) = entry_fits_ok τ s k v (gd.order ∙ sym suits.order) (gd.info.key ∙ sym suits.ksize) (gd.info.val
      ∙ sym suits.vsize) bk bv short t in
      good_upsert g τ l k v suits lends.same_slots (begins_small g begins) kk vv th s es gd (led (key_in kk))
