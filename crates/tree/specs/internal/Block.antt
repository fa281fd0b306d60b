-- A slot's node on its way to a block: its words as they are left, and the block.
use Rattle.std.specs.Prelude.{List, map, ℕ, eqb, cond, Option, is_some, unwrap_or}
use Rattle.node.specs.Pack.{pack_node, child_number, numbered}
use Rattle.node.specs.declared.head.Head.{Head}
use Rattle.tree.specs.internal.Bank.{node_in}
use Rattle.tree.specs.declared.editor.Tree.{Tree}

-- the words of a slot whose node was written: its new block, its id, clean
unfoldable pub written_head : Head → ℕ → ℕ → ℕ → Head
written_head h a named id =
    record {
      level = h.level;
      count = h.count;
      used = h.used;
      placed = 1;
      block = a;
      named = named;
      id = id;
      dirty = 0;
      dead = h.dead;
    }

-- the same with an id that it has, or none
abbrev pub written_with_id : Head → ℕ → Option ℕ → Head
written_with_id h a id = written_head h a (cond (is_some id) 1 0) (unwrap_or id 0)

-- the block of slot n's node
unfoldable pub packed_slot : Tree → ℕ → List ℕ → List ℕ → ℕ → ℕ → ℕ → ℕ → List ℕ
packed_slot t size heads bytes n oid xid otype =
    pack_node
    (record {
      oid = oid;
      xid = xid;
      otype = otype;
      subtype = t.subtype;
      level = (node_in size heads bytes n).level;
      root = eqb n t.root;
      info = t.info;
    })
    (map (numbered (child_number heads t.by_id)) (node_in size heads bytes n).entries)
