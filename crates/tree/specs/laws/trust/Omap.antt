-- The object map's drop and put keep trust. Assumes nothing.
use Rattle.std.specs.Prelude.{◌≡◌, refl, List, [], ◌∷◌, Bool, true, false, ◌&&◌, ◌||◌, not, ℕ, length, eqb}
use Rattle.std.proofs.Common.{◌∙◌, eqb-true, eq-eqb}
use Rattle.node.specs.Bytes.{bytes_of}
use Rattle.node.specs.Refusals as refusal
use Rattle.node.specs.Order.{pair, pair_key, keyed}
use Rattle.node.specs.Entry.{Entry, Val, leaf}
use Rattle.node.specs.Fit.{fixed}
use Rattle.node.specs.Slot.{is_child}
use Rattle.node.specs.laws.base.Tests.{and_split, and_both}
use Rattle.node.specs.laws.base.Results.{Holds, holds_ok, holds_bind, holds_check}
use Rattle.node.specs.laws.order.Order.{pair_key_keyed}
use Rattle.tree.specs.Lent.{Lent}
use Rattle.tree.specs.State.{State, node_at}
use Rattle.tree.specs.Hold.{key_fits, value_fits}
use Rattle.tree.specs.Load.{unbounded}
use Rattle.tree.specs.Lookup.{range_from}
use Rattle.tree.specs.Upsert.{entry_fits, upserted, upsert_in}
use Rattle.tree.specs.Remove.{removed, remove_in}
use Rattle.tree.specs.Omap.{is_omap, versions_end, remove_all, dropped, omap_value, omap_drop_in, omap_put_in}
use Rattle.tree.specs.Trust.{trusted}
use Rattle.tree.specs.laws.trust.Stands.{all, trusted_of}
use Rattle.tree.specs.laws.trust.OneStep.{like_refl, like_then}
use Rattle.tree.specs.laws.trust.Loads.{loaded_trusted, range_loaded}
use Rattle.tree.specs.laws.trust.Upsert.{trusted_upsert}
use Rattle.tree.specs.laws.trust.Remove.{Safe, remove_safe, trusted_remove}

safe_then : (l : Lent) (s t u : State) → Safe l s t → Safe l t u → Safe l s u
safe_then l s t u a b = record { order = b.order ∙ a.order; like = like_then s.info t.info u.info a.like b.like; trust = b.trust }

pub removes_safe : (l : Lent) (es : List Entry) (s : State) → trusted l s ≡ true → Holds (Safe l s) (remove_all l es s)
unfolding remove_all
removes_safe l [] s h = holds_ok (record { order = refl; like = like_refl s.info; trust = h })
removes_safe l (e ∷ es) s h =
    holds_bind (removed l s e.key) _ λ r q.
    let a = (remove_safe l s e.key h).at r q in
    let b = removes_safe l es r.state a.trust in
    record { at = λ u z. safe_then l s r.state u a (b.at u z) }

pub dropped_safe : (l : Lent) (s : State) (id : ℕ) → trusted l s ≡ true → Holds (Safe l s) (dropped l s id)
unfolding dropped
dropped_safe l s id h =
    let lo : List ℕ = pair_key id 0 in
    let d : ℕ = (node_at s s.root).level in
    holds_bind (range_from d l lo (versions_end id) s unbounded s.root) _ λ g q.
    let k = (range_loaded d l all all lo (versions_end id) s unbounded s.root (trusted_of l s h).1).at g q in
    let t : trusted l g.state ≡ true = loaded_trusted l s g.state h k in
    let a : Safe l s g.state = record { order = k.loads.order; like = rw k.loads.info (like_refl s.info); trust = t } in
    record { at = λ u z. safe_then l s g.state u a ((removes_safe l g.answer g.state t).at u z) }

pub trusted_drop : (l : Lent) (s : State) (id : ℕ) → trusted l s ≡ true → Holds (λ u. trusted l u ≡ true) (dropped l s id)
trusted_drop l s id h = record { at = λ u q. ((dropped_safe l s id h).at u q).trust }

-- ---- the entry that put writes

value_length_lem : (size address : ℕ) → length (omap_value size address) ≡ 16
unfolding omap_value bytes_of
value_length_lem size address = refl

key_length_lem : (id xid : ℕ) → length (pair_key id xid) ≡ 16
unfolding pair_key bytes_of
key_length_lem id xid = refl

omap_fits : (s : State) (id xid size address : ℕ) → s.order ≡ pair → s.info.key_size ≡ 16 → s.info.val_size ≡ 16
    → entry_fits s (pair_key id xid) (leaf (omap_value size address)) ≡ true
unfolding entry_fits key_fits value_fits is_child
omap_fits s id xid size address o k v =
    let a : keyed s.order (pair_key id xid) ≡ true = rw o (pair_key_keyed id xid) in
    let b : eqb (length (pair_key id xid)) s.info.key_size ≡ true = eq-eqb _ _ (key_length_lem id xid ∙ rw k) in
    let c : eqb (length (omap_value size address)) s.info.val_size ≡ true = eq-eqb _ _ (value_length_lem size address ∙ rw v) in
    and_both _ _ (and_both _ _ (and_both _ _ a (or_right (not (fixed s.info)) _ b)) (or_right (not (fixed s.info)) _ c)) refl
  where
    or_right : (x y : Bool) → y ≡ true → x || y ≡ true
    or_right true y h = refl
    or_right false y h = h

record Omap (s : State) : Type 0 where
  order : s.order ≡ pair
  key : s.info.key_size ≡ 16
  val : s.info.val_size ≡ 16

omap_is : (s : State) → is_omap s ≡ true → Omap s
unfolding is_omap
omap_is s h =
    let (a, c) = and_split (eqb s.order pair && eqb s.info.key_size 16) (eqb s.info.val_size 16) h in
    let (x, y) = and_split (eqb s.order pair) (eqb s.info.key_size 16) a in
    record { order = eqb-true _ _ x; key = eqb-true _ _ y; val = eqb-true _ _ c }

-- what put writes fits in what an object map's drop left
pub omap_put_fits : (l : Lent) (s t : State) (id xid size address : ℕ) → is_omap s ≡ true → Safe l s t
    → entry_fits t (pair_key id xid) (leaf (omap_value size address)) ≡ true
omap_put_fits l s t id xid size address f a =
    let o = omap_is s f in
    omap_fits t id xid size address (a.order ∙ o.order) (a.like.key ∙ o.key) (a.like.val ∙ o.val)

-- ---- the calls, after refusal 1

pub trusted_upsert_in : (l : Lent) (s : State) (k : List ℕ) (v : Val) → trusted l s ≡ true → Holds (λ u. trusted l u ≡ true) (upsert_in l s k v)
unfolding upsert_in
trusted_upsert_in l s k v h = holds_check refusal.argument (entry_fits s k v) (upserted l s k v) λ f. trusted_upsert l s k v h f

pub trusted_remove_in : (l : Lent) (s : State) (k : List ℕ) → trusted l s ≡ true → Holds (λ r. trusted l r.state ≡ true) (remove_in l s k)
unfolding remove_in
trusted_remove_in l s k h = holds_check refusal.argument (keyed s.order k) (removed l s k) λ f. trusted_remove l s k h

pub trusted_omap_drop : (l : Lent) (s : State) (id : ℕ) → trusted l s ≡ true → Holds (λ u. trusted l u ≡ true) (omap_drop_in l s id)
unfolding omap_drop_in
trusted_omap_drop l s id h = holds_check refusal.argument (is_omap s) (dropped l s id) λ f. trusted_drop l s id h

pub trusted_put : (l : Lent) (s : State) (id xid address size : ℕ) → trusted l s ≡ true
    → Holds (λ u. trusted l u ≡ true) (omap_put_in l s id xid address size)
unfolding omap_put_in
trusted_put l s id xid address size h =
    holds_check refusal.argument (is_omap s) _ λ f.
    holds_bind (dropped l s id) _ λ t q.
    let a = (dropped_safe l s id h).at t q in
    let o = omap_is s f in
    trusted_upsert l t (pair_key id xid) (leaf (omap_value size address)) a.trust
    (omap_fits t id xid size address (a.order ∙ o.order) (a.like.key ∙ o.key) (a.like.val ∙ o.val))
