-- Children in slots are in use, not dead, one level lower: kept when a child is brought. Assumes nothing.
use Rattle.std.specs.Prelude.{◌≡◌, true, false, ℕ, suc, ◌+◌, ◌≤◌, ◌<◌, length, eqb, ltb}
use Rattle.std.proofs.Common.{sym, ap, ◌∙◌, arith, eqb-true, ltb-true, ltb-false}
use Rattle.std.proofs.Math.ListN.{get_or-eq_default}
use Rattle.std.proofs.lemmas.Bool.{eqb-false}
use Rattle.node.specs.laws.base.Tests.{by_test, never}
use Rattle.node.specs.Entry.{disk, mem}
use Rattle.node.specs.Find.{val_at}
use Rattle.node.specs.Read.{OnDisk}
use Rattle.node.specs.Slot.{MemNode, with_value}
use Rattle.tree.specs.State.{State, no_node, node_at, put_node, with_entries}
use Rattle.tree.specs.laws.state.State.{at_add_new, add_count, put_count, at_used}
use Rattle.tree.specs.Load.{adopted}
use Rattle.tree.specs.laws.state.Load.{brought, Kept, brought_kept, brought_child}

pub record Child (s : State) (n c : ℕ) : Type 0 where
  pub used : c < length s.nodes
  pub live : (node_at s c).dead ≡ false
  pub lower : (node_at s c).level + 1 ≡ (node_at s n).level

pub record Linked (s : State) : Type 0 where
  pub child : (n j c : ℕ) → (node_at s n).dead ≡ false → val_at (node_at s n).entries j ≡ mem c → Child s n c

past : (s : State) (n : ℕ) → length s.nodes ≤ n → (node_at s n).dead ≡ true
unfolding node_at no_node
past s n h = ap (λ (m : MemNode). m.dead) (get_or-eq_default s.nodes no_node h)

same_slot : (a b : ℕ) → mem a ≡ mem b → a ≡ b
same_slot a b e = cc

-- one slot more, that entry i of slot n names: it is one level lower and names none
module _ (s t : State) (n i : ℕ) (h : Linked s) (p : Kept s t n i) (hn : n < length s.nodes) (more : length t.nodes ≡ suc (length s.nodes))
    (one : val_at (node_at t n).entries i ≡ mem (length s.nodes)) (live : (node_at t (length s.nodes)).dead ≡ false)
    (level : (node_at t (length s.nodes)).level + 1 ≡ (node_at s n).level)
    (none : (j c : ℕ) → val_at (node_at t (length s.nodes)).entries j ≡ mem c → ⊥) where
  new_child : (k j c : ℕ) → k ≡ n → j ≡ i → val_at (node_at t k).entries j ≡ mem c → Child t k c
  new_child k j c x y e =
      let e' : val_at (node_at t n).entries i ≡ mem c = rw (x, y) at e in
      let z : length s.nodes ≡ c = same_slot (length s.nodes) c (sym one ∙ e') in
      rw (← z, x) (record { used = omega arith; live = live; lower = level ∙ sym (p.level n hn) })

  old_child : (k j c : ℕ) → k < length s.nodes → (k ≡ n → j ≡ i → ⊥) → (node_at t k).dead ≡ false → val_at (node_at t k).entries j ≡ mem c
      → Child t k c
  old_child k j c a x dead e =
      let o : Child s k c = h.child k j c (sym (p.dead k a) ∙ dead) (sym (p.values k j a x) ∙ e) in
      record {
        used = omega (arith, o.used);
        live = p.dead c o.used
            ∙ o.live;
        lower = omega (arith, p.level c o.used, p.level k a, o.lower);
      }

  pub linked_more : Linked t
  linked_more =
      record {
        child = λ k j c dead e.
            by_test (ltb k (length s.nodes))
            (λ u. let a : k < length s.nodes = ltb-true k (length s.nodes) u in
            by_test (eqb k n)
            (λ v. by_test (eqb j i)
            (λ w. new_child k j c (eqb-true k n v) (eqb-true j i w) e)
            (λ w. old_child k j c a (λ x y. eqb-false j i w y) dead e))
            (λ v. old_child k j c a (λ x y. eqb-false k n v x) dead e))
            (λ u. by_test (eqb k (length s.nodes))
            (λ v. let x : k ≡ length s.nodes = eqb-true k (length s.nodes) v in absurd (none j c (rw x at e)))
            (λ v. let m : length s.nodes ≤ k = ltb-false k (length s.nodes) u in
            let g : k ≡ length s.nodes → ⊥ = eqb-false k (length s.nodes) v in
            let f : length t.nodes ≤ k = by_test (ltb k (length t.nodes)) (λ w. absurd (g (omega (arith, ltb-true k (length t.nodes) w))))
            (λ w. ltb-false k (length t.nodes) w) in
            never (past t k f) dead));
      }

-- a child brought
pub brought_linked : (s : State) (n i r : ℕ) (d : OnDisk) (b : ℕ) → val_at (node_at s n).entries i ≡ disk r → Linked s
    → d.node.level + 1 ≡ (node_at s n).level → ((j c : ℕ) → val_at d.entries j ≡ mem c → ⊥)
    → Linked (brought s n i d b).state
unfolding adopted
brought_linked s n i r d b q h level none =
    let m : MemNode = with_entries (node_at s n) (with_value i (mem (length s.nodes)) (node_at s n).entries) in
    let t : State = (brought s n i d b).state in
    let new : node_at t (length s.nodes) ≡ adopted s.virtual b d = ap (λ (k : ℕ). node_at t k) (sym (put_count s n m))
    ∙ at_add_new (put_node s n m) (adopted s.virtual b d) in
    let more : length t.nodes ≡ suc (length s.nodes) = add_count (put_node s n m) (adopted s.virtual b d) ∙ ap suc (put_count s n m) in
    let used : n < length s.nodes = at_used s n i (disk r) (λ e. let z : ◌≡◌ {A = ℕ} 0 1 = cc in omega arith) q in
    linked_more s t n i h (brought_kept s n i d b r q) used more (brought_child s n i d b r q)
    (ap (λ (x : MemNode). x.dead) new) (ap (λ (x : MemNode). x.level + 1) new ∙ level)
    (λ j c e. none j c (sym (ap (λ (x : MemNode). val_at x.entries j) new) ∙ e))
