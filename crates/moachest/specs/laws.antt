-- Laws of the library's calls.
pub mod RefusalLaws
pub mod WordLaws
pub mod AnswerLaws
pub mod CallLaws
pub mod QuickLaws
pub mod SizeLaws
pub mod WrongExportsRuledOut
-- results that are there to be read: what each call answers is a number of the documents
pub use Rattle.moachest.specs.laws.RefusalLaws.{open_numbered, get_numbered, floor_numbered, range_numbered, upsert_numbered, remove_numbered, put_numbered, drop_numbered, flush_numbered}
