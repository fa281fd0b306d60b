-- Laws of the object map's keys and values: which trees are object maps, where an id's versions end, what a put writes. Assumes nothing.
use Rattle.std.specs.Prelude.{◌≡◌, refl, List, Bool, true, false, ◌&&◌, ◌||◌, not, ℕ, suc, ◌+◌, ◌^◌, ◌-◌, length, replicate, eqb, Some, None}
use Rattle.std.specs.Borrow.{Bor}
use Rattle.std.proofs.Math.Path.{sym}
use Rattle.std.proofs.Common.{ap, ◌∙◌, add-one}
use borrow.Author.Tests.{eqb-true, eq-eqb, ne_eqb}
use Rattle.node.specs.Bytes.{bytes_of, splice}
use Rattle.node.specs.Order.{pair, pair_key, keyed, keyed_length}
use Rattle.node.specs.Entry.{leaf}
use Rattle.node.specs.Fit.{fixed}
use Rattle.node.specs.Slot.{is_child}
use Rattle.node.specs.laws.base.Tests.{and_split}
use Rattle.tree.specs.Lent.{Lent}
use Rattle.tree.specs.State.{State}
use Rattle.tree.specs.Hold.{key_fits, value_fits}
use Rattle.tree.specs.Upsert.{entry_fits}
use Rattle.tree.specs.Omap.{is_omap, versions_end, omap_value}
use Rattle.tree.specs.internal.Range.{end_of}
use Rattle.tree.specs.laws.trust.Remove.{Safe}

-- ---- what a put writes

pub length_pair : (id xid : ℕ) → length (pair_key id xid) ≡ 16
unfolding pair_key bytes_of
length_pair id xid = refl

pub pair_long : (key : List ℕ) (id xid : ℕ) → key ≡ pair_key id xid → length key ≡ 16
pair_long key id xid e = ap length e ∙ length_pair id xid

pub value_is : (v v' : List ℕ) (size address : ℕ) → v ≡ splice (replicate 16 0) 4 (bytes_of 4 size) → v' ≡ splice v 8 (bytes_of 8 address)
    → v' ≡ omap_value size address
unfolding splice omap_value bytes_of
value_is v v' size address p q = q ∙ ap (λ (x : List ℕ). splice x 8 (bytes_of 8 address)) p

pub value_long : (v v' : List ℕ) (size address : ℕ) → v ≡ splice (replicate 16 0) 4 (bytes_of 4 size) → v' ≡ splice v 8 (bytes_of 8 address)
    → length v' ≡ 16
unfolding omap_value bytes_of
value_long v v' size address p q = ap length (value_is v v' size address p q)

-- ---- an id's versions

pub versions_last : (id : ℕ) → id ≡ 18446744073709551615 → end_of None ≡ versions_end id
unfolding end_of versions_end
versions_last id e = sym (rw (eq-eqb id (2 ^ 64 - 1) e))

pub versions_next : (k : Bor (List ℕ)) (id : ℕ) → (id ≡ 18446744073709551615 → ⊥) → k.now ≡ pair_key (id + 1) 0 → end_of (Some k) ≡ versions_end id
unfolding end_of versions_end
versions_next k id d e =
    let q : k.now ≡ pair_key (suc id) 0 = e ∙ ap (λ (x : ℕ). pair_key x 0) (add-one id) in
    rw (ne_eqb id (2 ^ 64 - 1) d, q)

-- ---- object maps

-- what is 16 and 16 bytes long fits an object map, and what an accepted edit left of it
pub omap_fits : (l : Lent) (s t : State) (k v : List ℕ) → is_omap s ≡ true → Safe l s t → length k ≡ 16 → length v ≡ 16
    → entry_fits t k (leaf v) ≡ true
unfolding is_omap entry_fits key_fits value_fits is_child keyed keyed_length
omap_fits l s t k v f a p q =
    let (x, c) = and_split (eqb s.order pair && eqb s.info.key_size 16) (eqb s.info.val_size 16) f in
    let (o, b) = and_split (eqb s.order pair) (eqb s.info.key_size 16) x in
    let o' : eqb t.order pair ≡ true = eq-eqb _ _ (a.order ∙ eqb-true _ _ o) in
    let k' : eqb (length k) t.info.key_size ≡ true = eq-eqb _ _ (p ∙ sym (a.like.key ∙ eqb-true _ _ b)) in
    let v' : eqb (length v) t.info.val_size ≡ true = eq-eqb _ _ (q ∙ sym (a.like.val ∙ eqb-true _ _ c)) in
    let n : eqb (length k) 16 ≡ true = eq-eqb _ _ p in
    rw (o', n, k', v') (or_true (not (fixed t.info)))
  where
    or_true : (x : Bool) → ((x || true) && (x || true)) && true ≡ true
    or_true true = refl
    or_true false = refl
