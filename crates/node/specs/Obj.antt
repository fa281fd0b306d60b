-- The header of a node's block: btree_node_phys_t of the Reference, which starts as every object does. A field is its offset and its width.
use Rattle.std.specs.Prelude.{ℕ, Bool, ◌||◌, eqb}
use Rattle.seal.specs.Obj.{Field}
-- An object's kind (a type's low 16 bits) and its storage class.
pub use Rattle.seal.specs.Obj.{kind_of, storage_of}

-- flags, level, how many keys
abbrev pub btn_flags : Field
btn_flags = record { offset = 32; width = 2 }

abbrev pub btn_level : Field
btn_level = record { offset = 34; width = 2 }

abbrev pub btn_nkeys : Field
btn_nkeys = record { offset = 36; width = 4 }

-- the contents: where they start after the header, and their length
abbrev pub btn_table_off : Field
btn_table_off = record { offset = 40; width = 2 }

abbrev pub btn_table_len : Field
btn_table_len = record { offset = 42; width = 2 }

-- the free lists, of keys and of values
abbrev pub btn_lists : ℕ
btn_lists = 48

-- where the header ends
abbrev pub node_header : ℕ
node_header = 56

-- btree_info_t, the last bytes of a root
abbrev pub info_size : ℕ
info_size = 40

-- kinds 2 and 3: a root or another node
abbrev pub is_node : ℕ → Bool
is_node otype = eqb (kind_of otype) 2 || eqb (kind_of otype) 3
