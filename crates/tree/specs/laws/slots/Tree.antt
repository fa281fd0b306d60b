-- Laws of reading a tree's slots, and of a child brought. Assumes nothing.
use Rattle.std.specs.Prelude.{◌≡◌, true, ℕ, ◌+◌, ◌≤◌, ◌<◌}
use Rattle.std.proofs.Math.Path.{sym, ap}
use Rattle.std.proofs.Common.{◌∙◌}
use mathlib.Core.List.{List, [], ◌∷◌, ◌++◌}
use Rattle.std.proofs.Math.Numerals.{add-one}
use native.Mathlib.Omega.{arith}
use Rattle.std.proofs.Math.ListN.{length, set, get_or-eq_default}
use Rattle.node.specs.Entry.{Val, ghost, mem}
use Rattle.node.specs.Find.{val_at}
use Rattle.node.specs.Read.{OnDisk}
use Rattle.node.specs.Slot.{MemNode, with_value, is_child}
use Rattle.tree.specs.Workspace.{nodes_of, state_of}
use Rattle.tree.specs.State.{State, no_node, node_at, put_node, add_node, with_nodes, with_entries}
use Rattle.tree.specs.Load.{adopted}
use Rattle.tree.specs.laws.state.Load.{brought}
use Rattle.tree.specs.internal.Bank.{node_in, Ready, Wrote, Put}
use Rattle.tree.specs.laws.slots.Bank.{length_nodes, node_at_lem, put_set, put_add, put_ready, add_ready}
use Rattle.tree.specs.laws.slots.Undo.{put_of}
use Rattle.node.specs.internal.Children.{child_of}
use Rattle.tree.specs.declared.editor.Tree.{Tree}
use Rattle.std.specs.Prelude.{None}

pub none_child : (v : Val) → ghost ≡ v → None ≡ child_of v
unfolding child_of
none_child v e = rw (← e)

module _ (size : ℕ) (t : Tree) (heads bytes : List ℕ) where
  abbrev s : State
  s = state_of size t heads bytes

  pub used_nodes : length (state_of size t heads bytes).nodes ≡ t.used
  unfolding state_of
  used_nodes = length_nodes size heads bytes t.used

  pub node_in_lem : (n : ℕ) → n < t.used → node_at (state_of size t heads bytes) n ≡ node_in size heads bytes n
  unfolding state_of node_at
  node_in_lem n h = node_at_lem size heads bytes t.used n h

  pub node_out : (n : ℕ) → t.used ≤ n → node_at (state_of size t heads bytes) n ≡ no_node
  unfolding node_at
  node_out n h = get_or-eq_default (state_of size t heads bytes).nodes no_node (omega (arith, used_nodes))

pub child_in : (size : ℕ) (t : Tree) (heads bytes : List ℕ) (n i : ℕ) → n < t.used
    → is_child (val_at (node_at (state_of size t heads bytes) n).entries i) ≡ true → is_child (val_at (node_in size heads bytes n).entries i) ≡ true
child_in size t heads bytes n i h e = rw (sym (node_in_lem size t heads bytes n h)) e

-- ---- a child brought: linked, then adopted

module _ (size slots n i a : ℕ) (t t' : Tree) (d : OnDisk) (h0 b0 h1 b1 h2 b2 : List ℕ) (hn : n < t.used) (hs : t.used < slots)
    (p : Put size slots h0 b0 h1 b1 n (with_entries (node_in size h0 b0 n) (with_value i (mem t.used) (node_in size h0 b0 n).entries)))
    (q : Wrote size h1 b1 h2 b2 t.used (adopted t.by_id a d))
    (e : t' ≡ record {
      root = t.root;
      used = t.used + 1;
      info = t.info;
      by_id = t.by_id;
      subtype = t.subtype;
      order = t.order;
      xid = t.xid;
    }) where
  abbrev m : MemNode
  m = with_entries (node_in size h0 b0 n) (with_value i (mem t.used) (node_in size h0 b0 n).entries)

  added : Put size slots h1 b1 h2 b2 t.used (adopted t.by_id a d)
  added = put_of size slots h1 b1 h2 b2 t.used (adopted t.by_id a d) q

  pub bring_state : state_of size t' h2 b2 ≡ (brought (state_of size t h0 b0) n i d a).state
  unfolding state_of add_node put_node with_nodes
  bring_state =
      let w : t.used ≤ slots = omega arith in
      let x : nodes_of size h2 b2 (t.used + 1) ≡ set (nodes_of size h0 b0 t.used) n m ++ adopted t.by_id a d ∷ [] =
      rw add-one (put_add size slots h1 b1 h2 b2 t.used (adopted t.by_id a d) added hs
      ∙ ap (λ (z : List MemNode). z ++ adopted t.by_id a d ∷ []) (put_set size slots h0 b0 h1 b1 n m p t.used w hn)) in
      let y : node_at (state_of size t h0 b0) n ≡ node_in size h0 b0 n = node_in_lem size t h0 b0 n hn in
      let u : length (nodes_of size h0 b0 t.used) ≡ t.used = length_nodes size h0 b0 t.used in
      rw (e, x, y, u)

  pub bring_ready : Ready size slots t.used h0 b0 → length h1 ≡ length h0 → length h2 ≡ length h1 → length b1 ≡ length b0 → length b2 ≡ length b1
      → Ready size slots t'.used h2 b2
  bring_ready r eh eh' eb eb' =
      rw (e, add-one) (add_ready size slots h1 b1 h2 b2 t.used (adopted t.by_id a d) added
      (put_ready size slots h0 b0 h1 b1 n m p t.used r eh eb) hs eh' eb')

pub ruleset bring_laws = (bring_state, bring_ready, child_in)
