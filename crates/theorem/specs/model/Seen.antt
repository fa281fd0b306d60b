-- What a load brings, by the disk as it was opened: the node under a reference, whatever bounds are set above it.
use Rattle.std.specs.Prelude.{[], Bool, true, false, ℕ, suc}
use Rattle.seal.specs.Bytes.{u16_at}
use Rattle.node.specs.Result.{Result, ok, refused, ◌>>=◌}
use Rattle.node.specs.Read.{OnDisk}
use Rattle.node.specs.Slot.{MemNode}
use Rattle.tree.specs.Lent.{block_at}
use Rattle.tree.specs.Load.{unbounded, load_block, child_place, adopted}
use Rattle.history.specs.Walk.{Disk, resolve}
use Rattle.theorem.specs.model.Bounds.{Terms}

pub record Seen : Type 0 where
  pub block : ℕ
  pub node : OnDisk

-- the node under reference r: at the level that its block stores, without bounds
unfoldable pub seen : Disk → Terms → ℕ → Result Seen
seen x τ r =
    resolve x r
    >>= λ a. load_block x.lent x.order (child_place τ.ksize τ.vsize unbounded (suc (u16_at (block_at x.lent a) 34)) r) unbounded a
    >>= λ d. ok (record { block = a; node = d })

-- no node that a tree can hold: it is dead
unfoldable pub unread : MemNode
unread = record { level = 0; entries = []; block = []; id = []; dirty = false; dead = true }

unfoldable pub stood : Bool → Result Seen → MemNode
stood virtual (refused n) = unread
stood virtual (ok y) = adopted virtual y.block y.node

unfoldable pub rd : Disk → Terms → Bool → ℕ → MemNode
rd x τ virtual r = stood virtual (seen x τ r)
