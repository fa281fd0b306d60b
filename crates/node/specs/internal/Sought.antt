-- A key that a search looks for: how it stands to a record's key, and the leading records that are passed on the way to it.
use Rattle.std.specs.Prelude.{◌≡◌, List, true, false, cond, ℕ, ◌+◌, ◌-◌, ◌≤◌, drop}
use Rattle.std.specs.declared.cmp.Ordering.{Ordering}
use Rattle.std.specs.declared.cmp.Ordering.TheVariants.{Less, Equal, Greater}
use Rattle.node.specs.Order.{less}
use Rattle.node.specs.Records.{records_length, entries_of}
use Rattle.node.specs.Find.{place_of, is_there, not_above}
use Rattle.node.specs.declared.slot.Run.{Run}

-- how two keys stand in an order
unfoldable pub compared : ℕ → List ℕ → List ℕ → Ordering
compared o a b = cond (less o a b) Less (cond (less o b a) Greater Equal)

-- a key is below another, and the other not below it
pub record Below (o : ℕ) (a b : List ℕ) : Type 0 where
  pub below : less o a b ≡ true
  pub not_above : less o b a ≡ false

-- so many leading records of n are passed by a search for a key: where the next lies, and the last of them, else the first of all
pub record Passed (o : ℕ) (k : List ℕ) (n : ℕ) (l : List ℕ) (r : Run) : Type 0 where
  pub upto : r.count ≤ n
  pub start : r.at ≡ records_length r.count l
  pub last : r.last ≡ records_length (r.count - 1) l
  pub place : r.count + place_of o k (drop r.count (entries_of n l)) ≡ place_of o k (entries_of n l)
  pub there : is_there o k (drop r.count (entries_of n l)) ≡ is_there o k (entries_of n l)
  pub not_above : r.count + not_above o k (drop r.count (entries_of n l)) ≡ not_above o k (entries_of n l)
