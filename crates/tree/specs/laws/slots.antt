-- Words and bytes: a slot read, written, copied, saved and brought back; the tree that the slots are.
pub mod Bank
pub mod OneSlot
pub mod Undo
pub mod Copy
pub mod CallBounds
pub mod Tree
pub mod Writers
pub mod Kids
pub mod Block
pub mod Records
pub mod FoundAt
pub mod Touch
-- Read and not used: where the bytes of a slot in use end, as a number of 32 bits.
pub use Rattle.tree.specs.laws.slots.Writers.{slot_end}
