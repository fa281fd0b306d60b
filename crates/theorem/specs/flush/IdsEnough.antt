-- Flush gives no more ids than it counted first. Assumes nothing.
use Rattle.std.specs.Prelude.{◌≡◌, Bool, ◌&&◌, length, set, ltb}
use Rattle.std.proofs.Math.Path.{refl, sym, ap}
use Rattle.std.proofs.Common.{◌∙◌, arith, get_or-set_same}
use mathlib.Core.List.{List, [], ◌∷◌}
use Rattle.std.proofs.Math.Bool.{true, false, cond}
use Prim.Native.Nat.{ℕ, zero, suc, ◌+◌, ◌≤◌, ◌<◌}
use Rattle.std.proofs.Math.ListN.{get_or, get_or-eq_default}
use Rattle.std.proofs.Math.Seq.{get_or-set_other}
use Rattle.std.proofs.Math.Dec.{eqb}
use borrow.Author.Tests.{eqb-true, eqb-false, ltb-true, ltb-false}
use Rattle.node.specs.Entry.{Entry}
use Rattle.node.specs.Slot.{MemNode}
use Rattle.node.specs.laws.base.Tests.{by_test, never}
use Rattle.tree.specs.State.{State, node_at, no_node}
use Rattle.flush.specs.Space.{Choice, choose}
use Rattle.flush.specs.laws.SpaceLaws.{by_list}
use Rattle.flush.specs.Flush.{Flushing, rewritten, write_at, write_node, write_kids, write_from, sum_kids, sum_from}
use Rattle.theorem.specs.flush.Writes.{by_mem, kids_mem, kids_none, sum_mem, sum_none}

module _ (s : State) (xid : ℕ) where
  abbrev pub wants : MemNode → ℕ
  wants m = cond (m.dirty && s.virtual && eqb (length m.id) 0) 1 0

  -- a slot that is dirty still is as it was
  abbrev pub Fresh : Flushing → Type 0
  Fresh w = (c : ℕ) → (get_or w.nodes c no_node).dirty ≡ true → get_or w.nodes c no_node ≡ node_at s c

  pub record Gives (g : ℕ) (w w' : Flushing) : Type 0 where
    pub fresh : Fresh w'
    pub most : w'.next ≤ w.next + g

  in_use : (w : Flushing) (c : ℕ) → (get_or w.nodes c no_node).dirty ≡ true → c < length w.nodes
  in_use w c t =
      by_test (ltb c (length w.nodes))
      (λ u. ltb-true c _ u)
      (λ u. never t (ap (λ (m : MemNode). m.dirty) (get_or-eq_default w.nodes no_node (ltb-false c _ u)) ∙ clean))
    where
      clean : no_node.dirty ≡ false
      clean = unfold no_node in refl

  write_gives : (c : ℕ) (x : Choice) (w : Flushing) → Fresh w → (get_or w.nodes c no_node).dirty ≡ true
      → Gives (wants (node_at s c)) w (write_at s xid c x w)
  unfolding write_at
  write_gives c x w k t =
      let e : get_or w.nodes c no_node ≡ node_at s c = k c t in
      let d : (node_at s c).dirty ≡ true = sym (ap (λ (m : MemNode). m.dirty) e) ∙ t in
      let m : MemNode = get_or w.nodes c no_node in
      let same : cond (s.virtual && eqb (length m.id) 0) 1 0 ≡ wants (node_at s c) =
      ap (λ (z : MemNode). cond (s.virtual && eqb (length z.id) 0) 1 0) e
      ∙ ap (λ (b : Bool). cond (b && s.virtual && eqb (length (node_at s c).id) 0) 1 0) (sym d) in
      let id : List ℕ = cond (s.virtual && eqb (length m.id) 0) (w.next ∷ []) m.id in
      record {
        fresh = λ b f. by_test (eqb b c)
            (λ q. let z : b ≡ c = eqb-true b c q in
            never (sym (ap (λ (y : ℕ). (get_or (set w.nodes c (rewritten m x.block id)) y no_node).dirty) z) ∙ f)
            (ap (λ (y : MemNode). y.dirty) (get_or-set_same w.nodes c (rewritten m x.block id) no_node (in_use w c t)) ∙ clean m x.block id))
            (λ q. let o : get_or (set w.nodes c (rewritten m x.block id)) b no_node ≡ get_or w.nodes b no_node =
            get_or-set_other w.nodes c b (rewritten m x.block id) no_node (eqb-false b c q) in
            o ∙ k b (sym (ap (λ (y : MemNode). y.dirty) o) ∙ f));
        most = omega (arith, same);
      }
    where
      clean : (m : MemNode) (a : ℕ) (id : List ℕ) → (rewritten m a id).dirty ≡ false
      clean m a id = unfold rewritten in refl

  none_gives : (g : ℕ) (w : Flushing) → Fresh w → Gives g w w
  none_gives g w k = record { fresh = k; most = omega arith }

  node_gives : (c : ℕ) (w : Flushing) → Fresh w → Gives (wants (node_at s c)) w (write_node s xid c w)
  unfolding write_node
  node_gives c w k =
      by_test (get_or w.nodes c no_node).dirty
      (λ t. by_list (choose s.info.node_size w.space)
      (λ q. rw (t, q) (none_gives (wants (node_at s c)) w k))
      (λ x xs q. rw (t, q) (write_gives c x w k t)))
      (λ t. rw t (none_gives (wants (node_at s c)) w k))

  kids_give : (f : ℕ → Flushing → Flushing) (g : ℕ → ℕ) → ((c : ℕ) (w : Flushing) → Fresh w → Gives (g c) w (f c w))
      → (es : List Entry) (w : Flushing) → Fresh w → Gives (sum_kids g es) w (write_kids f es w)
  unfolding write_kids
  kids_give f g step [] w k = none_gives (sum_kids g []) w k
  kids_give f g step (e ∷ es) w k =
      by_mem e.value
      (λ h.
      let i = kids_give f g step es w k in
      rw (kids_none f e es w h, sum_none g e es h) i)
      (λ c q.
      let a = step c w k in
      let b = kids_give f g step es (f c w) a.fresh in
      rw (kids_mem f e es w c q, sum_mem g e es c q) (record { fresh = b.fresh; most = omega (arith, a.most, b.most) }))

  pub from_gives : (d c : ℕ) (w : Flushing) → Fresh w → Gives (sum_from wants d s c) w (write_from d s xid c w)
  unfolding write_from sum_from
  from_gives zero c w k = node_gives c w k
  from_gives (suc d) c w k =
      let a = kids_give (write_from d s xid) (sum_from wants d s) (from_gives d) (node_at s c).entries w k in
      let b = node_gives c (write_kids (write_from d s xid) (node_at s c).entries w) a.fresh in
      record { fresh = b.fresh; most = omega (arith, a.most, b.most) }
