-- Bytes, the object header, the Fletcher sum: what the contracts of `seal` cite.
pub mod Bytes
pub mod Checksum
pub mod Obj
-- Laws: checked by the machine, nothing to believe.
pub mod laws
