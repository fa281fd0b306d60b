-- Tests, results, lists of bytes, windows replaced; laws of `seal` under this crate's name.
pub mod Seal
pub mod Tests
pub mod Results
pub mod Bytes
pub mod Splice
