-- Laws of `node` that the crates above cite, under this crate's name: each crate sees only the one below.
pub use Rattle.node.specs.laws.base.Tests.{by_test, never, test_ext, and_split, and_left, and_right, and_both, and-true, and-false, or-false, not_not}
pub use Rattle.node.specs.laws.base.Results.{bind_ok, then_ok, check_ok, checked_ok, check_passes, check_refuses}
pub use Rattle.node.specs.laws.base.Bytes.{Bytes}
pub use Rattle.node.specs.laws.order.Order.{Key, less_irrefl, less_total, less_asym, less_trans, less_trans_le_lt, less_trans_lt_le, less_trans_le, less_ne, pair_key_key, pair_key_of, less_pair_key}
pub use Rattle.node.specs.laws.order.Rising.{Keys, KeyBytes, keys_known, keys_at, rise_rising, rise_above}
pub use Rattle.node.specs.laws.order.Found.{place_later, place_here, there_later, there_here, there_nil, place_le, place_before, place_at, there_key, there_in, above_le, above_before, above_next, above_none, above_place, way_in, way_not_above, way_next}
