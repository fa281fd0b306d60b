-- Where a key stands in a slot, as the code finds it.
use Rattle.std.specs.Prelude.{◌≡◌, List, true, ℕ, ◌≤◌, ◌<◌, Result, Ok, Err, is_ok}
use Rattle.node.specs.Find.{place_of, is_there}
use Rattle.node.specs.Records.{records_length}
use Rattle.node.specs.Slot.{head_at}
use Rattle.tree.specs.State.{State, node_at}
use Rattle.tree.specs.Workspace.{slot_bytes}
use Rattle.tree.specs.internal.Bank.{live}
use Rattle.tree.specs.declared.floor.Spot.{Spot}

-- the spot of a key, which is there or would stand there
abbrev pub spot_found : Result Spot Spot → Spot
spot_found (Ok spot) = spot
spot_found (Err spot) = spot

-- the key's place among the entries of slot n, whether it is there, where that record starts
pub record FoundAt (size : ℕ) (s : State) (heads bytes : List ℕ) (n : ℕ) (k : List ℕ) (f : Result Spot Spot) : Type 0 where
  pub slot : (spot_found f).slot ≡ n
  pub place : (spot_found f).index ≡ place_of s.order k (node_at s n).entries
  pub there : is_ok f ≡ is_there s.order k (node_at s n).entries
  pub start : (spot_found f).at ≡ records_length (spot_found f).index (slot_bytes size bytes n)
  pub upto : (spot_found f).index ≤ (live (head_at heads n)).count
  pub within : is_ok f ≡ true → (spot_found f).index < (live (head_at heads n)).count
