-- Laws of `seal` that the crates above cite, under this crate's name.
pub use Rattle.seal.specs.laws.WindowLaws.{length_window, length_splice, window_window, window_splice_same, window_splice_before, window_splice_after, get_d_window, get_d_before, get_d_after}
pub use Rattle.seal.specs.laws.PartLaws.{part_back, part_whole, part_cleared}
pub use Rattle.seal.specs.laws.FieldLaws.{length_bytes_of, le_bytes_of}
