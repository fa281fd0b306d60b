-- The numbers of refusals by name, and the refusals of the code, for the crates above.
pub use Rattle.node.specs.Refusals.{lent, address, fletcher, kind, hashed, layout, level, entry, keys, root, no_slot, argument, single, no_cut, new_root, full, count, unmapped, encrypted, output, number_of}
pub use Rattle.node.specs.declared.refusal.Refusal.{Refusal}
pub use Rattle.node.specs.declared.refusal.Refusal.TheVariants.{Lent, Full, Count}
