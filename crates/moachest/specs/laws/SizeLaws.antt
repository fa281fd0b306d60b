-- Laws of how much is to be lent. Assumes nothing.
use Rattle.std.specs.Prelude.{◌≡◌, true, Bool, ◌&&◌, ℕ, ◌+◌, ◌*◌, ◌≤◌, leb}
use Rattle.std.proofs.Math.Path.{sym}
use Rattle.std.proofs.Common.{◌∙◌, add-mul, mul_assoc, mul_left_comm, arith}
use borrow.Author.Tests.{leb-true}
use Rattle.node.specs.laws.base.Tests.{and_split}
use Rattle.tree.specs.Lent.{is_size}
use Rattle.tree.specs.laws.refusal1.Sizes.{size_bounds}

-- a size or so many slots that a call takes are small
pub size_most : (size : ℕ) (b : Bool) → b ≡ is_size size → b ≡ true → size ≤ 65536
size_most size b e h = (size_bounds size (sym e ∙ h)).1

pub slots_most : (slots : ℕ) (b : Bool) → b ≡ leb 1 slots && leb slots 4096 → b ≡ true → slots ≤ 4096
slots_most slots b e h = leb-true slots 4096 (and_split (leb 1 slots) (leb slots 4096) (sym e ∙ h)).1

-- a slot and its shadow are eight blocks
pub blocks_each : (slots size : ℕ) → (slots + slots) * (4 * size) ≡ 8 * slots * size
blocks_each slots size = omega (arith, add-mul slots slots (4 * size), mul_left_comm slots 4 size, mul_assoc 8 slots size)

pub ruleset sized = (size_most, slots_most, blocks_each)
