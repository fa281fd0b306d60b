-- What is lent to a call beside the slots (RULES: lent).
use Rattle.std.specs.Prelude.{List, Bool, ◌&&◌, ◌||◌, ℕ, ◌*◌, ◌/◌, ◌%◌, ◌^◌, length, leb, ltb, eqb, option_to_list}
use Rattle.node.specs.Bytes.{window}
use Rattle.tree.specs.declared.lent.Lent as lending

-- the image, the block size, the object map's root (none or one), and how many slots there are
pub record Lent : Type 0 where
  pub image : List ℕ
  pub size : ℕ
  pub map : List ℕ
  pub slots : ℕ

-- what the image and the numbers of a call lend
unfoldable pub lent_of : List ℕ → lending.Lent → Lent
lent_of image l = record { image = image; size = l.size; map = option_to_list l.map; slots = l.slots }

-- a power of two from 512 to 65,536
unfoldable pub is_size : ℕ → Bool
is_size n = eqb n 512 || eqb n 1024 || eqb n 2048 || eqb n 4096 || eqb n 8192 || eqb n 16384 || eqb n 32768 || eqb n 65536

-- how many blocks the image has
unfoldable pub blocks : Lent → ℕ
blocks l = length l.image / l.size

-- 1: lent sizes. An image is 1 to 2^20 blocks; there are 1 to 4,096 slots
unfoldable pub sizes_hold : Lent → Bool
sizes_hold l =
    is_size l.size
    && eqb (length l.image % l.size) 0
    && leb 1 (blocks l) && leb (blocks l) (2 ^ 20)
    && leb 1 l.slots && leb l.slots 4096

-- the block at an address: the part of the image that starts at the address times the block size
unfoldable pub block_at : Lent → ℕ → List ℕ
block_at l a = window (a * l.size) l.size l.image

-- 2: an address in the image
unfoldable pub in_image : Lent → ℕ → Bool
in_image l a = ltb a (blocks l)
