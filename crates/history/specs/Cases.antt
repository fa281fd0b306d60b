-- The cases P1 to P12 and the listing of `dock`, one table: each row says what the definitions give, and what it should be. laws/CasesHold has the
-- result.
use Rattle.std.specs.Prelude.{List, [], ◌∷◌, ◌++◌, Bool, true, false, cond, ◌&&◌, ℕ, zero, suc, ◌+◌, ◌*◌, replicate, length, eqb}
use Prim.Native.String.{String}
use Rattle.seal.specs.Bytes.{splice, bytes_of}
use Rattle.seal.specs.Checksum.{fletcher}
use Rattle.node.specs.Result.{Result, ok, refused}
use Rattle.node.specs.Order.{pair, byte, pair_key}
use Rattle.node.specs.Entry.{Entry, leaf, disk, mem}
use Rattle.node.specs.Fit.{fits, toc_length}
use Rattle.node.specs.Pack.{pack_node}
use Rattle.node.specs.declared.info.BTreeInfo.{BTreeInfo}
use Rattle.tree.specs.Lent.{Lent}
use Rattle.tree.specs.State.{State, node_at, with_counts}
use Rattle.tree.specs.Load.{map_address}
use Rattle.tree.specs.Lookup.{opened}
use Rattle.tree.specs.Upsert.{upsert}
use Rattle.tree.specs.Remove.{remove}
use Rattle.tree.specs.Omap.{omap_put, omap_value}
use Rattle.flush.specs.Space.{Space, Choice, choose}
use Rattle.flush.specs.Flush.{flush}
use Rattle.history.specs.Walk.{well_formed}

-- ---- rows

-- a row of the table: its name, what the definitions give, what the document says
pub record Row : Type 0 where
  pub name : String
  pub gives : List ℕ
  pub says : List ℕ

abbrev pub same : List ℕ → List ℕ → Bool
same [] [] = true
same [] (b ∷ k) = false
same (a ∷ l) [] = false
same (a ∷ l) (b ∷ k) = eqb a b && same l k

abbrev pub all_same : List Row → Bool
all_same [] = true
all_same (r ∷ rs) = same r.gives r.says && all_same rs

-- a test's outcome as a number
unfoldable pub number : Bool → ℕ
number b = cond b 1 0

-- a call's outcome: the refusal, or 0 and what its answer says
unfoldable pub outcome : {A : Type 0} → (A → List ℕ) → Result A → List ℕ
outcome f (refused n) = n ∷ []
outcome f (ok a) = 0 ∷ f a

-- ---- what the rows are about

-- an empty tree's numbers: 512 bytes a node, these fixed lengths
unfoldable pub tree512 : ℕ → ℕ → BTreeInfo
tree512 k v = record {
  flags = 0;
  node_size = 512;
  key_size = k;
  val_size = v;
  longest_key = 0;
  longest_val = 0;
  key_count = 0;
  node_count = 1;
}

-- n entries with pair keys from k on and values of 16 bytes, or children on disk
unfoldable pub pairs : ℕ → ℕ → List Entry
pairs zero k = []
pairs (suc n) k = record { key = pair_key k 1; value = leaf (replicate 16 7) } ∷ pairs n (suc k)

unfoldable pub children : ℕ → ℕ → List Entry
children zero k = []
children (suc n) k = record { key = pair_key k 1; value = disk k } ∷ children n (suc k)

-- a root at an address, packed; it stores its true counts
unfoldable pub root_of : BTreeInfo → ℕ → List Entry → List ℕ
root_of t a es = pack_node (record {
  oid = a;
  xid = 1;
  otype = 0x40000002;
  subtype = 11;
  level = 0;
  root = true;
  info = with_counts t (length es) 1;
}) es

-- 32 blocks of 512, a root at block 0, 64 slots, no map
unfoldable pub lent512 : List ℕ → Lent
lent512 root = record { image = root ++ replicate (31 * 512) 0; size = 512; map = []; slots = 64 }

-- a physical tree with this root, and its calls
unfoldable pub on_tree : BTreeInfo → ℕ → List Entry → (Lent → State → List ℕ) → List ℕ
on_tree t o es f = let l : Lent = lent512 (root_of t 0 es) in run l (opened l 0 o 1)
  where
    run : Lent → Result State → List ℕ
    run l (refused n) = n ∷ []
    run l (ok s) = f l s

-- counts and the root's level
unfoldable pub counts : State → List ℕ
counts s = s.info.key_count ∷ s.info.node_count ∷ (node_at s s.root).level ∷ []

unfoldable pub sizes : State → List ℕ → List ℕ
sizes s [] = []
sizes s (n ∷ ns) = length (node_at s n).entries ∷ sizes s ns

-- a tree of two leaves in slots 1 and 2 under an index root in slot 0
unfoldable pub two_leaves : List Entry → List Entry → State
two_leaves a b =
    record {
      root = 0;
      nodes =
          record {
            level = 1;
            entries = record { key = pair_key 0 1; value = mem 1 } ∷ record { key = pair_key 1 1; value = mem 2 } ∷ [];
            block = 0 ∷ [];
            id = [];
            dirty = false;
            dead = false;
          }
          ∷ record { level = 0; entries = a; block = 1 ∷ []; id = []; dirty = false; dead = false }
          ∷ record { level = 0; entries = b; block = 2 ∷ []; id = []; dirty = false; dead = false } ∷ [];
      info = record {
        flags = 0;
        node_size = 512;
        key_size = 16;
        val_size = 16;
        longest_key = 16;
        longest_val = 16;
        key_count = length a + length b;
        node_count = 3;
      };
      virtual = false;
      subtype = 11;
      order = pair;
      xid = 1;
    }

unfoldable pub key8 : ℕ → List ℕ
key8 k = bytes_of 8 k

unfoldable pub variable8 : ℕ → ℕ → Entry
variable8 k n = record { key = key8 k; value = leaf (replicate n 7) }

-- an object map of one leaf at block 0: id 5 at transactions 3 and 9
unfoldable pub versions : List Entry
versions = record { key = pair_key 5 3; value = leaf (omap_value 512 3) } ∷ record { key = pair_key 5 9; value = leaf (omap_value 512 9) } ∷ []

-- the listing of `dock`: two puts and a flush, from an empty tree
unfoldable pub listing : List ℕ
listing =
    on_tree (tree512 16 16) pair [] λ l s.
    outcome (λ s₁. s₁.info.key_count ∷ [] ++ next l (omap_put l s₁ 5 2 10 512)) (omap_put l s 5 1 9 512)
  where
    space : Space
    space = record { bitmap = 1 ∷ replicate 511 0; counts = 32 ∷ []; free = 31 ∷ [] }

    next : Lent → Result State → List ℕ
    next l r =
        outcome (λ s. s.info.key_count ∷ [] ++ outcome (λ f. f.root ∷ f.allocated ∷ f.freed_count ∷ f.keys ∷ f.fill ∷ [])
        (flush l space (record { freed = 64; removed = 64; moved = 64 }) s 2 0)) r

-- ---- the table

unfoldable pub table : List Row
table =
    record { name = "P1"; gives = fletcher (replicate 32 0) ∷ []; says = 0xFFFFFFFFFFFFFFFF ∷ [] }
    ∷ record { name = "P2"; gives = fletcher (splice (replicate 32 0) 8 (bytes_of 4 1)) ∷ []; says = 0x00000006FFFFFFF8 ∷ [] }
    ∷ record {
      name = "P3: leaf, root 11 and 12, non-root 12 and 13";
      gives = number (fits (tree512 16 16) true 0 (pairs 11 0)) ∷ number (fits (tree512 16 16) true 0 (pairs 12 0))
          ∷ number (fits (tree512 16 16) false 0 (pairs 12 0)) ∷ number (fits (tree512 16 16) false 0 (pairs 13 0)) ∷ [];
      says = 1 ∷ 0 ∷ 1 ∷ 0 ∷ [];
    }
    ∷ record {
      name = "P4: index, root 14 and 15, non-root 16 and 17";
      gives = number (fits (tree512 16 16) true 1 (children 14 0)) ∷ number (fits (tree512 16 16) true 1 (children 15 0))
          ∷ number (fits (tree512 16 16) false 1 (children 16 0)) ∷ number (fits (tree512 16 16) false 1 (children 17 0)) ∷ [];
      says = 1 ∷ 0 ∷ 1 ∷ 0 ∷ [];
    }
    ∷ record {
      name = "P5: value 280, value 281";
      gives = on_tree (tree512 0 0) byte [] (λ l s. outcome (λ t. []) (upsert l s (key8 1) (leaf (replicate 280 7))) ++ outcome (λ t. [])
          (upsert l s (key8 1) (leaf (replicate 281 7))));
      says = 0 ∷ 13 ∷ [];
    }
    ∷ record {
      name = "P6: contents of 16 and 17";
      gives = toc_length (tree512 0 0) true 0 16 ∷ toc_length (tree512 0 0) true 0 17 ∷ [];
      says = 128 ∷ 192 ∷ [];
    }
    ∷ record {
      name = "P7: keys, nodes, level, the parts";
      gives = on_tree (tree512 16 16) pair (pairs 11 0)
          (λ l s. outcome (λ t. counts t ++ sizes t (0 ∷ 1 ∷ [])) (upsert l s (pair_key 11 1) (leaf (replicate 16 7))));
      says = 0 ∷ 12 ∷ 3 ∷ 1 ∷ 6 ∷ 6 ∷ [];
    }
    ∷ record {
      name = "P8: keys, nodes, level of leaves of 1 and 12, then of 1 and 11";
      gives = outcome (λ r. counts r.state) (remove (lent512 []) (two_leaves (pairs 1 0) (pairs 12 1)) (pair_key 0 1))
          ++ outcome (λ r. counts r.state) (remove (lent512 []) (two_leaves (pairs 1 0) (pairs 11 1)) (pair_key 0 1));
      says = 0 ∷ 12 ∷ 2 ∷ 1 ∷ 0 ∷ 11 ∷ 1 ∷ 0 ∷ [];
    }
    ∷ record {
      name = "P9";
      gives = on_tree (tree512 0 0) byte (variable8 1 128 ∷ variable8 3 128 ∷ [])
          (λ l s. outcome (λ t. []) (upsert l s (key8 2) (leaf (replicate 312 7))));
      says = 14 ∷ [];
    }
    ∷ record {
      name = "P10";
      gives = on_tree (tree512 0 0) byte [] (λ l s. outcome (λ t. outcome (λ u. []) (upsert l t (replicate 200 2) (leaf [])))
          (upsert l s (replicate 200 1) (leaf [])));
      says = 0 ∷ 15 ∷ [];
    }
    ∷ record {
      name = "P11";
      gives = blocks_of (choose 512 (record { bitmap = 0xFF ∷ 0xFE ∷ replicate 510 0; counts = 16 ∷ []; free = 1 ∷ [] }));
      says = 8 ∷ [];
    }
    ∷ record { name = "P12"; gives = outcome (λ a. a ∷ []) (map_address (lent512 (root_of (tree512 16 16) 0 versions)) 8 5 0); says = 0 ∷ 3 ∷ [] }
    ∷ record {
      name = "dock: the disk of (new) is well formed";
      gives = number (well_formed (record { lent = lent512 (root_of (tree512 16 16) 0 []); order = pair; xid = 1; moved = [] }) 0) ∷ [];
      says = 1 ∷ [];
    }
    ∷ record { name = "dock: put 0 1, put 0 1, flush 0 1 1 1 1 23"; gives = listing; says = 0 ∷ 1 ∷ 0 ∷ 1 ∷ 0 ∷ 1 ∷ 1 ∷ 1 ∷ 1 ∷ 23 ∷ [] }
    ∷ []
  where
    blocks_of : List Choice → List ℕ
    blocks_of [] = []
    blocks_of (x ∷ xs) = x.block ∷ blocks_of xs
