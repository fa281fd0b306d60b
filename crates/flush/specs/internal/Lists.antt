-- Report lists as the code fills them: so many numbers at the start of a list, the rest as it was.
use Rattle.std.specs.Prelude.{◌≡◌, List, [], ◌∷◌, ◌++◌, Bool, cond, ◌&&◌, ℕ, zero, suc, ◌+◌, ◌≤◌, ◌<◌, length, get_or, eqb}
use Rattle.tree.specs.Format.{head_at, marked}
use Rattle.flush.specs.declared.flush.Flushing.{Flushing}

-- the first k numbers of a list
unfoldable pub numbers_of : ℕ → List ℕ → List ℕ
numbers_of zero l = []
numbers_of (suc k) l = numbers_of k l ++ get_or l k 0 ∷ []

-- from r on a list is as it was
pub record Past (r : ℕ) (l l' : List ℕ) : Type 0 where
  pub at : (j : ℕ) → r ≤ j → get_or l' j 0 ≡ get_or l j 0

-- numbers stored where a list ended
pub record Pushed (e : ℕ) (xs l l' : List ℕ) (r : ℕ) : Type 0 where
  pub numbers : numbers_of r l' ≡ numbers_of e l ++ xs
  pub front : (j : ℕ) → j < e → get_or l' j 0 ≡ get_or l j 0
  pub last : (x : ℕ) → xs ≡ x ∷ [] → get_or l' e 0 ≡ x
  pub count : r ≡ e + length xs
  pub past : Past r l l'

-- the blocks of dead slots from n on, m of them; and the ids, of a virtual tree
unfoldable pub dead_places : List ℕ → ℕ → ℕ → List ℕ
dead_places heads zero n = []
dead_places heads (suc m) n =
    cond (eqb (head_at heads n).dead 1) (marked (head_at heads n).placed (head_at heads n).block) [] ++ dead_places heads m (suc n)

unfoldable pub dead_names : Bool → List ℕ → ℕ → ℕ → List ℕ
dead_names by_id heads zero n = []
dead_names by_id heads (suc m) n =
    cond (eqb (head_at heads n).dead 1 && by_id) (marked (head_at heads n).named (head_at heads n).id) [] ++ dead_names by_id heads m (suc n)

-- the dead slots listed, nothing written yet
pub record Reported (by_id : Bool) (used next : ℕ) (heads freed removed freed' removed' : List ℕ) (w : Flushing) : Type 0 where
  pub places : numbers_of w.freed freed' ≡ dead_places heads used 0
  pub names : numbers_of w.removed removed' ≡ dead_names by_id heads used 0
  pub past_places : Past w.freed freed freed'
  pub past_names : Past w.removed removed removed'
  pub start : (w.next ≡ next) × (w.moved ≡ 0) × (w.allocated ≡ 0)
  pub most : (w.freed ≤ used) × (w.removed ≤ used)
