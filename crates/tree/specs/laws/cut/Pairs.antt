-- Laws of a walk of a way's pairs, from its end: each step with the one below it. Assumes nothing.
use Rattle.std.specs.Prelude.{◌≡◌, length, take, get_or, slice_get, Option, Some, None}
use Rattle.std.specs.Borrow.{Bor}
use Rattle.std.specs.Iterator.Adapters.{rev_source}
use Rattle.std.specs.Slice.ArrayWindows.{array_windows_parts, array_windows_steps_back}
use Rattle.std.specs.Slice.Iter.{windows_size}
use Rattle.std.specs.declared.iter.Rev.{Rev}
use Rattle.std.specs.declared.slice.ArrayWindows.{ArrayWindows}
use Rattle.std.proofs.Math.Path.{sym, ap, subst}
use Rattle.std.proofs.Math.Seq.{take-length}
use Rattle.std.proofs.Common.{◌∙◌}
use Rattle.std.proofs.lemmas.Option.{none-some, same_Some}
use Rattle.std.proofs.lemmas.List.{length-take-le, get_or-take, get_or-drop, take-take}
use mathlib.Core.List.{List, [], ◌∷◌}
use Prim.Native.Nat.{ℕ, ◌+◌, ◌-◌, ◌≤◌, ◌<◌}
use native.Mathlib.Omega.{arith}
use Rattle.tree.specs.internal.Way.{nth_step, steps_left, PairsOf, PairTaken}
use Rattle.tree.specs.declared.editor.Position as code

-- the first step of a way that has one
pub first_step : (way : List code.Position) (x : code.Position) → Some x ≡ slice_get way 0 → (0 < length way) × (x ≡ nth_step way 0)
first_step [] x e = absurd (none-some x (sym e))
first_step (y ∷ ys) x e = (omega arith, same_Some x y e)

module _ (way : List code.Position) (s : Rev (ArrayWindows code.Position 2)) where
  pub pairs_all : steps_left s ≡ way → PairsOf way s
  pairs_all e = record { rest = rw e (sym (take-length way)); within = rw e (omega arith); some = λ h. rw e h }

  module _ (o : PairsOf way s) (two : windows_size (array_windows_parts (rev_source s)) ≡ 2) (r : Option (Bor (List code.Position)))
      (t : Rev (ArrayWindows code.Position 2)) (p : array_windows_steps_back (rev_source s) r (rev_source t)) where
    abbrev k : ℕ
    k = length (steps_left s)

    -- no pair is left: one step is, or none
    pub pairs_end : r ≡ None → k ≤ 1
    pairs_end e = let q = subst (λ (x : Option (Bor (List code.Position))). array_windows_steps_back (rev_source s) x (rev_source t)) e p in
        omega (arith, q.1.0, two)

    module _ (w : Bor (List code.Position)) (e : r ≡ Some w) where
      abbrev turn : array_windows_steps_back (rev_source s) (Some w) (rev_source t)
      turn = subst (λ (x : Option (Bor (List code.Position))). array_windows_steps_back (rev_source s) x (rev_source t)) e p

      some : 2 ≤ k
      some = omega (arith, turn.1.0, two)

      left : length (steps_left t) ≡ k - 1
      left = ap length turn.1.2 ∙ length-take-le (k - 1) (steps_left s) (omega arith)

      next : PairsOf way t
      next =
          record {
            rest = turn.1.2 ∙ ap (take (k - 1)) o.rest ∙ take-take (k - 1) k way (omega arith) ∙ sym (ap (λ (n : ℕ). take n way) left);
            within = omega (arith, left, o.within);
            some = λ h. omega (arith, left, some);
          }

      -- step i of the pair
      step : (i : ℕ) → i < 2 → get_or w.now i (record { slot = 0; index = 0 }) ≡ nth_step way (k - 2 + i)
      step i h =
          ap (λ (l : List code.Position). get_or l i (record { slot = 0; index = 0 })) turn.1.1
          ∙ get_or-drop (k - windows_size (array_windows_parts (rev_source s))) (steps_left s) i (record { slot = 0; index = 0 })
          ∙ ap (λ (n : ℕ). get_or (steps_left s) (k - n + i) (record { slot = 0; index = 0 })) two
          ∙ ap (λ (l : List code.Position). get_or l (k - 2 + i) (record { slot = 0; index = 0 })) o.rest
          ∙ get_or-take k way (k - 2 + i) (record { slot = 0; index = 0 }) (omega (arith, some))

      pub pair : PairTaken way s t w
      pair =
          let y : k - 2 + 0 ≡ k - 1 - 1 = omega arith in
          let z : k - 2 + 1 ≡ k - 1 = omega (arith, some) in
          record {
            some = some;
            left = left;
            next = next;
            above = step 0 (omega arith) ∙ ap (nth_step way) y;
            below = step 1 (omega arith) ∙ ap (nth_step way) z;
          }

pub ruleset drop_emptied_laws = (pairs_all, pairs_end, pair)

pub ruleset index_keys_laws = (pairs_all, pairs_end)
