-- One node read into a slot and packed from one, for arguments of any kind.
use Rattle.std.specs.Prelude.{List, [], map, Bool, true, false, cond, ◌&&◌, ℕ, ◌-◌, ◌*◌, ◌^◌, length, leb}
use Rattle.seal.specs.Bytes.{splice}
use Rattle.node.specs.Result.{Result, ok, refused}
use Rattle.node.specs.Refusals as refusal
use Rattle.node.specs.Read.{OnDisk, info_at, parsed, read_node}
use Rattle.node.specs.Records.{records_of, entries_of}
use Rattle.node.specs.Slot.{records_hold}
use Rattle.node.specs.Fit.{fits}
use Rattle.node.specs.Pack.{child_number, numbered, pack_node}
use Rattle.node.specs.declared.build.NodeBuild.{NodeBuild}
use Rattle.node.specs.declared.read.Node.{Node}
use Rattle.node.specs.Place.{Place}

-- a number, and a slice after the call
pub record Answer : Type 0 where
  pub number : ℕ
  pub after : List ℕ

abbrev pub answered : ℕ → List ℕ → Answer
answered r l = record { number = r; after = l }

-- a refusal as a number: more than the bytes of any slot
abbrev pub answer_of : ℕ → ℕ
answer_of n = 2 ^ 64 - 1 - n

-- the place of a root with this id
abbrev pub root_place : ℕ → Place
root_place oid = record { root = true; oid = oid; parent = 0; ksize = 0; vsize = 0; bounded = false }

-- a block of a node's size, and a slot that holds its entries in any case
unfoldable pub lent : List ℕ → List ℕ → Bool
lent b l = leb 512 (length b) && leb (length b) 65536 && leb (2 * length b) (length l)

-- what was read, in a slot: the bytes that its records take, and the slot with them
abbrev pub taken : List ℕ → Result OnDisk → Answer
taken l (refused n) = answered (answer_of n) l
taken l (ok x) = answered (length (records_of x.entries)) (splice l 0 (records_of x.entries))

-- a block read as a root, with no bounds
unfoldable pub read_into : ℕ → ℕ → List ℕ → List ℕ → Answer
read_into o oid b l = cond (lent b l) (taken l (read_node o (root_place oid) [] [] b)) (answered (answer_of refusal.lent) l)

-- what a root is packed from: the numbers of a root's block
unfoldable pub build_like : List ℕ → NodeBuild
build_like b =
    let v : Node = parsed (root_place 0) b in
    record {
      oid = v.oid;
      xid = v.xid;
      otype = v.otype;
      subtype = v.subtype;
      level = v.level;
      root = true;
      info = info_at b;
    }

-- sizes of a node, of the slice that it goes to and of a slot
unfoldable pub sizes_hold : NodeBuild → List ℕ → List ℕ → Bool
sizes_hold b d l =
    leb 512 b.info.node_size && leb b.info.node_size 65536
    && leb b.info.node_size (length d) && leb (length l) (2 ^ 20)

-- n records of a slot that lie in it and fit
unfoldable pub records_fit : NodeBuild → ℕ → ℕ → List ℕ → Bool
records_fit b n used l = records_hold n used l && fits b.info b.root b.level (entries_of n l)

unfoldable pub packable : ℕ → ℕ → List ℕ → List ℕ → List ℕ → Bool
packable n used like d l = leb 512 (length like) && sizes_hold (build_like like) d l && records_fit (build_like like) n used l

-- the slice with the node packed at its start
abbrev pub pack_into : ℕ → List ℕ → List ℕ → List ℕ → List ℕ → List ℕ
pack_into n heads like d l = splice d 0 (pack_node (build_like like) (map (numbered (child_number heads false)) (entries_of n l)))
