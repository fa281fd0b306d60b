-- What the code's walk to the place of a cut computes.
use Rattle.std.specs.Prelude.{List, Bool, false, ◌&&◌, ◌||◌, not, ℕ, ◌+◌, ◌*◌, ◌-◌, ◌/◌, leb}
use Rattle.node.specs.Records.{entries_of}
use Rattle.node.specs.Fit.{fits, fits_sums}
use Rattle.node.specs.Cut.{cut_place}
use Rattle.node.specs.internal.SlotSteps.{lengths_of}
use Rattle.node.specs.declared.info.BTreeInfo.{BTreeInfo}
use Rattle.node.specs.declared.fit.Lengths.{Lengths}
use Rattle.node.specs.declared.cut.Left.{Left}

-- the left part of the cut of n records
unfoldable pub left_of : BTreeInfo → ℕ → ℕ → List ℕ → Left
left_of t level n l =
    let c : ℕ = cut_place (fits t false level) (entries_of n l) in
    record { place = c; lengths = lengths_of t c l }

-- whether the left part takes one entry more, by sums: it fits with it, and either it is at most half then, or the right part does not fit yet.
-- The size of c records that take b bytes of a slot is b + 4 · c
unfoldable pub further_sums : BTreeInfo → ℕ → ℕ → Lengths → Left → Lengths → Bool
further_sums t level n whole left next =
    fits_sums t false level (left.place + 1) (next.keys + next.values)
    && (leb (next.at + 4 * (left.place + 1)) ((whole.at + 4 * n) / 2)
    || not (fits_sums t false level (n - left.place) (whole.keys + whole.values - (left.lengths.keys + left.lengths.values))))

-- whether both parts fit, by sums
unfoldable pub parts_fit : BTreeInfo → ℕ → ℕ → Lengths → Left → Bool
parts_fit t level n whole left =
    fits_sums t false level left.place (left.lengths.keys + left.lengths.values)
    && fits_sums t false level (n - left.place) (whole.keys + whole.values - (left.lengths.keys + left.lengths.values))
