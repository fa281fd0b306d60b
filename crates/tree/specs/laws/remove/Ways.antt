-- Laws of a way as the code keeps it: its steps from one on, its leaf, its slots. Assumes nothing.
use Rattle.std.specs.Prelude.{◌≡◌, length}
use Rattle.std.proofs.Math.Path.{refl, ap, ap₂, subst}
use Rattle.std.proofs.Common.{sym, ◌∙◌}
use mathlib.Core.List.{List, [], ◌∷◌, ◌++◌}
use Prim.Native.Nat.{ℕ, zero, suc, ◌+◌, ◌-◌, ◌≤◌, ◌<◌}
use native.Mathlib.Omega.{arith}
use Rattle.tree.specs.Lookup.{Step, leaf_of}
use Rattle.tree.specs.internal.Way.{nth_step, steps_of, steps_in}
use Rattle.tree.specs.internal.Index.{steps_from}
use Rattle.tree.specs.laws.trust.Named.{names_same}
use Rattle.tree.specs.laws.trust.Edit.{on_way}
use Rattle.tree.specs.declared.editor.Position as code

leaf_end : (xs : List Step) (x : Step) → leaf_of (xs ++ x ∷ []) ≡ x.slot
unfolding leaf_of
leaf_end [] x = refl
leaf_end (y ∷ []) x = refl
leaf_end (y ∷ z ∷ ys) x = leaf_end (z ∷ ys) x

module _ (way : List code.Position) where
  abbrev pub step_of : ℕ → Step
  step_of j = record { slot = (nth_step way j).slot; child = (nth_step way j).index }

  pub from_cons : (j : ℕ) → j < length way → steps_from way j (length way - j) ≡ step_of j ∷ steps_from way (suc j) (length way - suc j)
  unfolding steps_from
  from_cons j h = let z : length way - j ≡ suc (length way - suc j) = omega arith in rw z

  pub from_two : (j : ℕ) → suc j < length way
      → steps_from way j (length way - j) ≡ step_of j ∷ step_of (suc j) ∷ steps_from way (suc (suc j)) (length way - suc (suc j))
  from_two j h = from_cons j (omega arith) ∙ ap (λ (l : List Step). step_of j ∷ l) (from_cons (suc j) h)

  from_snoc : (m j : ℕ) → steps_from way j m ++ step_of (j + m) ∷ [] ≡ steps_from way j (suc m)
  unfolding steps_from
  from_snoc zero j = let z : j + 0 ≡ j = omega arith in ap (λ (x : ℕ). step_of x ∷ []) z
  from_snoc (suc m) j =
      let z : j + suc m ≡ suc j + m = omega arith in
      ap (λ (l : List Step). step_of j ∷ l) (ap (λ (x : ℕ). steps_from way (suc j) m ++ step_of x ∷ []) z ∙ from_snoc m (suc j))

  -- all steps
  pub from_start : (k : ℕ) → steps_of way k ≡ steps_from way 0 k
  unfolding steps_of steps_from
  from_start zero = refl
  from_start (suc k) = let z : k ≡ 0 + k = omega arith in ap₂ (λ (l : List Step) (x : ℕ). l ++ step_of x ∷ []) (from_start k) z ∙ from_snoc k 0

  pub leaf_is : 1 ≤ length way → leaf_of (steps_in way) ≡ (nth_step way (length way - 1)).slot
  unfolding steps_of
  leaf_is h =
      let z : length way ≡ suc (length way - 1) = omega arith in
      ap (λ (k : ℕ). leaf_of (steps_of way k)) z ∙ leaf_end (steps_of way (length way - 1)) (step_of (length way - 1))

  -- what is so of a way is so of its steps from one on
  pub suffix : (P : List Step → Type 0) → ((x y : Step) (xs : List Step) → P (x ∷ y ∷ xs) → P (y ∷ xs)) → (j : ℕ) → j < length way
      → P (steps_from way 0 (length way)) → P (steps_from way j (length way - j))
  suffix P f zero h p = let z : length way ≡ length way - 0 = omega arith in subst (λ (m : ℕ). P (steps_from way 0 m)) z p
  suffix P f (suc j) h p =
      let q : P (steps_from way j (length way - j)) = suffix P f j (omega arith) p in
      subst P (sym (from_cons (suc j) h))
      (f (step_of j) (step_of (suc j)) (steps_from way (suc (suc j)) (length way - suc (suc j))) (subst P (from_two j h) q))

  -- a slot of the way stands on it
  pub on_from : (m j k : ℕ) → k < m → 1 ≤ on_way (nth_step way (j + k)).slot (steps_from way j m)
  unfolding steps_from
  on_from zero j k h = absurd (omega arith)
  on_from (suc m) j zero h =
      let z : j + 0 ≡ j = omega arith in
      subst (λ (x : ℕ). 1 ≤ on_way (nth_step way x).slot (step_of j ∷ steps_from way (suc j) m)) (sym z)
      (omega (arith, names_same (nth_step way j).slot))
  on_from (suc m) j (suc k) h =
      let z : suc j + k ≡ j + suc k = omega arith in
      subst (λ (x : ℕ). 1 ≤ on_way (nth_step way x).slot (step_of j ∷ steps_from way (suc j) m)) z (omega (arith, on_from m (suc j) k (omega arith)))

  pub on_way_lem : (j : ℕ) → j < length way → 1 ≤ on_way (nth_step way j).slot (steps_in way)
  on_way_lem j h =
      let z : 0 + j ≡ j = omega arith in
      subst (λ (l : List Step). 1 ≤ on_way (nth_step way j).slot l) (sym (from_start (length way)))
      (subst (λ (x : ℕ). 1 ≤ on_way (nth_step way x).slot (steps_from way 0 (length way))) z (on_from (length way) 0 j h))
