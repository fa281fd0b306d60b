-- What a walk over a slot's records gives.
use Rattle.std.specs.Prelude.{◌≡◌, ℕ, ◌+◌, ◌<◌, Option, MatchOption}
use Rattle.node.specs.declared.record.Record.{Record}
use Rattle.node.specs.declared.walk.Walk.{Walk}

-- a record, and which it is, and how the walk goes on after it
pub record Given (s : Walk) (x : ℕ × Record) (t : Walk) : Type 0 where
  pub index : x.0 ≡ s.index
  pub within : s.index < s.records.count
  pub slot : x.1.slot.now ≡ s.records.slot.now
  pub start : x.1.at ≡ s.at
  pub records : t.records ≡ s.records
  pub next : t.index ≡ s.index + 1

-- none past the last record; else the one that comes next
abbrev pub GivesRecord : Walk → Option (ℕ × Record) → Walk → Type 0
GivesRecord s r t = MatchOption r (s.index ≡ s.records.count) (λ x. Given s x t)
