-- Room in the slots between calls: two blocks' worth of records each (`slot_holds`), said of the state.
pub use Rattle.tree.specs.Trusts.{Roomy}
