-- Laws of a state's slots: one slot replaced, one slot more, one entry's value replaced. Assumes nothing.
use Rattle.std.specs.Prelude.{◌≡◌, refl, ℕ, zero, suc, ◌<◌, length, ltb}
use Rattle.std.proofs.Common.{sym, ap, ◌∙◌}
use mathlib.Core.List.{List, [], ◌∷◌}
use native.Mathlib.Omega.{arith}
use Rattle.std.proofs.Math.ListN.{get_or, length-append, length-set, get_or-append, get_or-eq_default}
use Rattle.std.proofs.Math.Seq.{get_or-set_same, get_or-set_other, get_or-append_seam}
use borrow.Author.Tests.{ltb-true, ltb-false}
use Rattle.node.specs.Entry.{Entry, Val, ghost, leaf, disk, mem}
use Rattle.node.specs.Find.{val_at}
use Rattle.node.specs.Slot.{MemNode, revalued, with_value}
use Rattle.tree.specs.laws.base.Node.{by_test}
use Rattle.tree.specs.State.{State, with_nodes, no_node, node_at, put_node, add_node}

-- by cases on what an entry holds, the equation kept
pub by_val {ℓ} : {C : Type ℓ} (v : Val) → (v ≡ ghost → C) → ((b : List ℕ) → v ≡ leaf b → C) → ((r : ℕ) → v ≡ disk r → C) → ((c : ℕ) → v ≡ mem c → C)
    → C
by_val ghost f g h k = f refl
by_val (leaf b) f g h k = g b refl
by_val (disk r) f g h k = h r refl
by_val (mem c) f g h k = k c refl

-- ---- slots

module _ (s : State) where
  pub at_put_same : (n : ℕ) (m : MemNode) → n < length s.nodes → node_at (put_node s n m) n ≡ m
  unfolding node_at put_node with_nodes
  at_put_same n m h = get_or-set_same s.nodes n m no_node h

  pub at_put_other : (n : ℕ) (m : MemNode) (k : ℕ) → (k ≡ n → ⊥) → node_at (put_node s n m) k ≡ node_at s k
  unfolding node_at put_node with_nodes
  at_put_other n m k h = get_or-set_other s.nodes n k m no_node h

  pub put_count : (n : ℕ) (m : MemNode) → length (put_node s n m).nodes ≡ length s.nodes
  unfolding put_node with_nodes
  put_count n m = length-set s.nodes n m

  pub at_add_old : (m : MemNode) (k : ℕ) → k < length s.nodes → node_at (add_node s m) k ≡ node_at s k
  unfolding node_at add_node with_nodes
  at_add_old m k h = get_or-append s.nodes (m ∷ []) no_node k h

  pub at_add_new : (m : MemNode) → node_at (add_node s m) (length s.nodes) ≡ m
  unfolding node_at add_node with_nodes
  at_add_new m = get_or-append_seam s.nodes m [] no_node

  pub add_count : (m : MemNode) → length (add_node s m).nodes ≡ suc (length s.nodes)
  unfolding add_node with_nodes
  add_count m = length-append s.nodes (m ∷ []) ∙ omega arith

  -- a slot with an entry is in use
  pub at_used : (n i : ℕ) (v : Val) → (v ≡ ghost → ⊥) → val_at (node_at s n).entries i ≡ v → n < length s.nodes
  unfolding node_at val_at no_node
  at_used n i v h e =
      by_test (ltb n (length s.nodes))
      (λ t. ltb-true n (length s.nodes) t)
      (λ t.
      let q : get_or s.nodes n no_node ≡ no_node = get_or-eq_default s.nodes no_node (ltb-false n (length s.nodes) t) in
      absurd (h (sym (rw q at e))))

-- an entry that holds something is one of the entries
pub val_used : (es : List Entry) (i : ℕ) (v : Val) → (v ≡ ghost → ⊥) → val_at es i ≡ v → i < length es
unfolding val_at
val_used es i v h e =
    by_test (ltb i (length es))
    (λ t. ltb-true i (length es) t)
    (λ t.
    let q : get_or es i (record { key = []; value = ghost }) ≡ record { key = []; value = ghost } = get_or-eq_default es
    (record { key = []; value = ghost }) (ltb-false i (length es) t) in
    absurd (h (sym e ∙ ap (λ (z : Entry). z.value) q)))

-- ---- one entry's value replaced

-- the keys of entries
abbrev pub keys_of : List Entry → List (List ℕ)
keys_of [] = []
keys_of (e ∷ es) = e.key ∷ keys_of es

-- by another value: the keys are the same
pub value_keys : (i : ℕ) (v : Val) (es : List Entry) → keys_of (with_value i v es) ≡ keys_of es
unfolding with_value revalued
value_keys zero v [] = refl
value_keys zero v (x ∷ xs) = refl
value_keys (suc i) v [] = refl
value_keys (suc i) v (x ∷ xs) = ap (λ (z : List (List ℕ)). x.key ∷ z) (value_keys i v xs)

pub value_same : (i : ℕ) (v : Val) (es : List Entry) → i < length es → val_at (with_value i v es) i ≡ v
unfolding with_value revalued val_at
value_same i v [] h = absurd (omega arith)
value_same zero v (x ∷ xs) h = refl
value_same (suc i) v (x ∷ xs) h = value_same i v xs (omega arith)

pub value_other : (i : ℕ) (v : Val) (es : List Entry) (j : ℕ) → (j ≡ i → ⊥) → val_at (with_value i v es) j ≡ val_at es j
unfolding with_value revalued val_at
value_other zero v [] j n = refl
value_other zero v (x ∷ xs) zero n = absurd (n refl)
value_other zero v (x ∷ xs) (suc j) n = refl
value_other (suc i) v [] j n = refl
value_other (suc i) v (x ∷ xs) zero n = refl
value_other (suc i) v (x ∷ xs) (suc j) n = value_other i v xs j (λ q. n (ap suc q))
