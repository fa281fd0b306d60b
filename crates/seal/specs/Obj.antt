-- The header that every object starts with, obj_phys_t of the Reference: 32 bytes.
use Rattle.std.specs.Prelude.{List, ◌++◌, ℕ, ◌*◌, ◌/◌, ◌%◌, ◌^◌, ◌<◌}
use Rattle.seal.specs.Bytes.{field_at, bytes_of}
use Rattle.seal.specs.declared.obj.ObjHeader.{ObjHeader}

-- a field of an object: its offset, and how many bytes it has
pub record Field : Type 0 where
  pub offset : ℕ
  pub width : ℕ

-- obj_phys_t
abbrev pub o_cksum : Field
o_cksum = record { offset = 0; width = 8 }

abbrev pub o_oid : Field
o_oid = record { offset = 8; width = 8 }

abbrev pub o_xid : Field
o_xid = record { offset = 16; width = 8 }

abbrev pub o_type : Field
o_type = record { offset = 24; width = 4 }

abbrev pub o_subtype : Field
o_subtype = record { offset = 28; width = 4 }

-- what a field holds
abbrev pub value_of : Field → List ℕ → ℕ
value_of f l = field_at f.width l f.offset

-- the bytes of a field that holds x
abbrev pub bytes_in : Field → ℕ → List ℕ
bytes_in f x = bytes_of f.width x

-- an object's header
abbrev pub header_at : List ℕ → ObjHeader
header_at l = record {
  cksum = value_of o_cksum l;
  oid = value_of o_oid l;
  xid = value_of o_xid l;
  obj_type = value_of o_type l;
  subtype = value_of o_subtype l;
}

-- a header's bytes after the checksum, from offset 8 on
unfoldable pub header_bytes : ObjHeader → List ℕ
header_bytes h = bytes_in o_oid h.oid ++ bytes_in o_xid h.xid ++ bytes_in o_type h.obj_type ++ bytes_in o_subtype h.subtype

-- a header whose fields have room in theirs
pub record Fits (h : ObjHeader) : Type 0 where
  pub oid : h.oid < 2 ^ 64
  pub xid : h.xid < 2 ^ 64
  pub obj_type : h.obj_type < 2 ^ 32
  pub subtype : h.subtype < 2 ^ 32

-- a type's low 16 bits: what the object is (mask 0x0000ffff)
abbrev pub kind_of : ℕ → ℕ
kind_of t = t % 0x10000

-- a type's storage class (mask 0xc0000000): 0 virtual, 0x40000000 physical, 0x80000000 ephemeral
abbrev pub storage_of : ℕ → ℕ
storage_of t = t / 0x40000000 % 4 * 0x40000000
