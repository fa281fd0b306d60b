-- Laws of what the code reads before the root's place goes down: whether a root has one child. Assumes nothing.
use Rattle.std.specs.Prelude.{◌≡◌, List, false, ℕ, ◌<◌, length, eqb}
use Rattle.std.proofs.Math.Path.{sym}
use Rattle.std.proofs.Common.{◌∙◌}
use Rattle.std.proofs.Math.Bool.{true}
use native.Mathlib.Omega.{arith}
use Rattle.std.proofs.Math.Dec.{ltb}
use borrow.Author.Tests.{lt-ltb}
use Rattle.tree.specs.State.{node_at}
use Rattle.tree.specs.Workspace.{state_of}
use Rattle.tree.specs.Remove.{has_only_child}
use Rattle.tree.specs.declared.editor.Tree.{Tree}

-- ---- an index root with one child

module _ (size : ℕ) (t : Tree) (h b : List ℕ) (level : ℕ) (el : level ≡ (node_at (state_of size t h b) t.root).level) where
  pub only_none : level ≡ 0 → false ≡ has_only_child (state_of size t h b)
  unfolding has_only_child state_of
  only_none z = let q : (node_at (state_of size t h b) t.root).level ≡ 0 = sym el ∙ z in sym (rw q)

  pub only_count : (level ≡ 0 → ⊥) → (count : ℕ) → count ≡ length (node_at (state_of size t h b) t.root).entries
      → eqb count 1 ≡ has_only_child (state_of size t h b)
  unfolding has_only_child state_of
  only_count z count ec =
      let q : ltb 0 (node_at (state_of size t h b) t.root).level
      ≡ true = lt-ltb 0 (node_at (state_of size t h b) t.root).level (positive level _ el z) in
      sym (rw (q, ← ec))
    where
      positive : (x y : ℕ) → x ≡ y → (x ≡ 0 → ⊥) → 0 < y
      positive x y e f = omega arith
