-- What the crates above cite of `node`, under this crate's name: each crate sees only the one below.
pub use Rattle.node.specs.Bytes.{u32_at, u64_at}
unfoldable pub use Rattle.node.specs.Bytes.{window, splice, bytes_of}
pub use Rattle.node.specs.Result.{Result, ok, refused, ◌>>=◌, ◌>>◌, check}
pub use Rattle.node.specs.Order.{pair, byte}
unfoldable pub use Rattle.node.specs.Order.{pair_key, less, known, keyed}
pub use Rattle.node.specs.Entry.{Entry, Val, ghost, leaf, disk, mem}
unfoldable pub use Rattle.node.specs.Entry.{value_length, rising}
unfoldable pub use Rattle.node.specs.Records.{record_length, records_length, entry_of, entries_of, records_of}
unfoldable pub use Rattle.node.specs.Find.{key_at, val_at, place_of, is_there, not_above, way_index, last_not_above, last_of}
unfoldable pub use Rattle.node.specs.Fit.{flag, fits, data_space, toc_length, packed_length}
pub use Rattle.node.specs.Fit.{Sized}
unfoldable pub use Rattle.node.specs.Cut.{cut}
pub use Rattle.node.specs.Read.{OnDisk}
unfoldable pub use Rattle.node.specs.Read.{info_at, read_node}
unfoldable pub use Rattle.node.specs.Pack.{pack_node, child_number, numbered_value, numbered}
pub use Rattle.node.specs.Slot.{MemNode}
unfoldable pub use Rattle.node.specs.Slot.{head_at, head_words, marked, node_of, only, number_of, insert_at, remove_at, with_key, with_value}
pub use Rattle.node.specs.declared.head.Head.{Head}
pub use Rattle.node.specs.declared.info.BTreeInfo.{BTreeInfo}
pub use Rattle.node.specs.declared.build.NodeBuild.{NodeBuild}
pub use Rattle.node.specs.Place.{Place}
