-- How much the caller is to lend.
use Rattle.std.specs.Prelude.{Bool, cond, ◌&&◌, ℕ, ◌+◌, ◌*◌, leb}
use Rattle.tree.specs.Lent.{is_size}

-- so many slots as open takes: 1 to 4,096
abbrev pub is_slots : ℕ → Bool
is_slots slots = leb 1 slots && leb slots 4096

-- the workspace's words: 19 for each slot; 0 where open takes no such slots
unfoldable pub workspace_words : ℕ → ℕ
workspace_words slots = cond (is_slots slots) (19 * slots) 0

-- the workspace's bytes: 8 blocks for each slot; 0 where open takes no such slots or size
unfoldable pub workspace_bytes : ℕ → ℕ → ℕ
workspace_bytes slots size = cond (is_slots slots && is_size size) (8 * slots * size) 0

-- the scratch's bytes: 2 blocks for each slot and 2 more; 0 where open takes no such slots or size
unfoldable pub scratch_bytes : ℕ → ℕ → ℕ
scratch_bytes slots size = cond (is_slots slots && is_size size) ((2 * slots + 2) * size) 0
