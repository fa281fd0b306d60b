-- Sums that stop above a limit: what flush counts before it writes.
use Rattle.std.specs.Prelude.{◌≡◌, Bool, cond, ◌&&◌, ℕ, ◌+◌, ◌≤◌, ◌<◌, length, eqb}
use Rattle.tree.specs.Format.{MemNode}
use Rattle.flush.specs.declared.flush.Wanted.{Wanted}

-- what a node adds: 1 for a dirty one; 1 for one that takes an id
unfoldable pub dirty_one : MemNode → ℕ
dirty_one m = cond m.dirty 1 0

unfoldable pub id_one : Bool → MemNode → ℕ
id_one virtual m = cond (m.dirty && virtual && eqb (length m.id) 0) 1 0

-- from s to r: a nodes and b ids are added, or the limit is passed. What is left to add is `more` and `names`
pub record Counted (limit a b : ℕ) (s r : Wanted) (more names : ℕ) : Type 0 where
  pub most : r.dirty ≤ limit + 1
  pub few : r.ids ≤ r.dirty
  pub nodes : r.dirty ≤ limit → r.dirty + more ≡ s.dirty + a
  pub ids : r.dirty ≤ limit → r.ids + names ≡ s.ids + b
  pub over : limit < r.dirty → limit < s.dirty + a
