-- What a node and its place must be so that its packed block loads to it, and the node that is then read.
use Rattle.std.specs.Prelude.{◌≡◌, List, Bool, true, false, cond, ◌&&◌, ◌||◌, not, ℕ, ◌+◌, ◌-◌, ◌%◌, ◌^◌, ◌≤◌, ◌<◌, length, ltb, eqb}
use Rattle.node.specs.Obj.{node_header, info_size, is_node}
use Rattle.node.specs.Entry.{Entry, Val, ghost, leaf, disk, mem, every}
use Rattle.node.specs.Fit.{fixed, toc_length, fits, Sized}
use Rattle.node.specs.Pack.{node_flags}
use Rattle.node.specs.Read.{keys_hold}
use Rattle.node.specs.declared.info.BTreeInfo.{BTreeInfo}
use Rattle.node.specs.declared.build.NodeBuild.{NodeBuild}
use Rattle.node.specs.declared.read.Node.{Node}
use Rattle.node.specs.Place.{Place}

-- what a node is packed from, as its reader tells it: the numbers of its header, and where contents, keys and values lie
unfoldable pub packed_node : NodeBuild → List Entry → Node
packed_node b es =
    record {
      oid = b.oid;
      xid = b.xid;
      otype = b.otype;
      subtype = b.subtype;
      flags = node_flags b;
      level = b.level;
      nkeys = length es;
      toc = node_header;
      keys = node_header + toc_length b.info b.root b.level (length es);
      vals = b.info.node_size - cond b.root info_size 0;
      ksize = b.info.key_size;
      vsize = b.info.val_size;
    }

-- a value that stands at this level: in a leaf a ghost or a value, in an index a child on disk
unfoldable pub value_suits : BTreeInfo → ℕ → Val → Bool
value_suits t level ghost = eqb level 0
value_suits t level (leaf v) = eqb level 0 && (not (fixed t) || eqb (length v) t.val_size)
value_suits t level (disk r) = not (eqb level 0) && ltb r (2 ^ 64)
value_suits t level (mem s) = false

-- an entry of this level, of the tree's fixed lengths if it has them
unfoldable pub suits : BTreeInfo → ℕ → Entry → Bool
suits t level e = (not (fixed t) || eqb (length e.key) t.key_size) && value_suits t level e.value

-- the tree's numbers fit their fields; a node's size is a block's
pub record InfoFits (t : BTreeInfo) : Type 0 where
  pub sized : Sized t
  pub words : t.node_size % 4 ≡ 0
  pub flags : t.flags < 2 ^ 32
  pub longest_key : t.longest_key < 2 ^ 32
  pub longest_val : t.longest_val < 2 ^ 32
  pub key_count : t.key_count < 2 ^ 64
  pub node_count : t.node_count < 2 ^ 64

-- the header's numbers fit their fields
pub record HeadFits (b : NodeBuild) : Type 0 where
  pub oid : b.oid < 2 ^ 64
  pub xid : b.xid < 2 ^ 64
  pub otype : b.otype < 2 ^ 32
  pub kind : is_node b.otype ≡ true
  pub subtype : b.subtype < 2 ^ 32
  pub level : b.level ≤ 32

-- the place of a node below another: one level below its parent, with the tree's fixed lengths
pub record Below (p : Place) (b : NodeBuild) : Type 0 where
  pub parent : p.parent ≡ b.level + 1
  pub ksize : p.ksize ≡ b.info.key_size
  pub vsize : p.vsize ≡ b.info.val_size

-- a node that fits, with numbers that fit, entries of its level and keys in order, at its place
pub record Packable (o : ℕ) (p : Place) (lower upper : List ℕ) (b : NodeBuild) (es : List Entry) : Type 0 where
  pub info : InfoFits b.info
  pub head : HeadFits b
  pub fit : fits b.info b.root b.level es ≡ true
  pub suited : every (suits b.info b.level) es ≡ true
  pub filled : (not (eqb (length es) 0) || b.root && eqb b.level 0) ≡ true
  pub keys : keys_hold o p lower upper es ≡ true
  pub root : p.root ≡ b.root
  pub oid : p.oid ≡ b.oid
  pub below : b.root ≡ false → Below p b
