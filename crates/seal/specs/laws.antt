-- Laws of bytes, fields and sums.
pub mod WindowLaws
pub mod FieldLaws
pub mod PartLaws
pub mod WordLaws
pub mod CopyLaws
pub mod MoveLaws
pub mod ChecksumLaws
pub mod ObjLaws
pub mod SealTheorems
-- Read and not used: a field of one byte is that byte, and one is written in two parts; the words from any
-- place on, and the sums with one word more.
pub use Rattle.seal.specs.laws.FieldLaws.{field_one, put_join}
pub use Rattle.seal.specs.laws.ChecksumLaws.{words_chunk, s1_next, s2_next}
