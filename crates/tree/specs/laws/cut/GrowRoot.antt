-- Laws of a root grown: it is added without entries, then its two children are linked. Assumes nothing.
use Rattle.std.specs.Prelude.{◌≡◌, set, eqb}
use Rattle.std.proofs.Math.Path.{refl, ap}
use Rattle.std.proofs.Common.{sym, ap₂, ◌∙◌, length-set, set-set}
use mathlib.Core.List.{List, [], ◌∷◌}
use Prim.Native.Nat.{ℕ, suc, ◌+◌, ◌<◌}
use native.Mathlib.Omega.{arith}
use Rattle.std.proofs.Math.ListN.{length}
use Rattle.std.proofs.lemmas.List.{set_at}
use borrow.Author.Tests.{eqb-true, eqb-false}
use Rattle.node.specs.laws.base.Tests.{by_test}
use Rattle.node.specs.Entry.{Entry, mem, value_length}
use Rattle.node.specs.Find.{key_at}
use Rattle.node.specs.Records.{records_of}
use Rattle.node.specs.Slot.{MemNode, insert_at}
use Rattle.tree.specs.State.{State, node_at, with_nodes, with_root, put_node, add_node, changed, with_place, made}
use Rattle.tree.specs.Edit.{root_entries, grow_root}
use Rattle.tree.specs.Workspace.{state_of}
use Rattle.tree.specs.internal.Undo.{Follows}
use Rattle.tree.specs.internal.Index.{Rewritten}
use Rattle.tree.specs.internal.Cutting.{first_length, child_put, ChildFits, root_added, RootFits}
use Rattle.tree.specs.laws.state.State.{at_put_same, at_put_other, put_count, at_add_old, at_add_new, add_count}
use Rattle.tree.specs.laws.slots.Undo.{follows_on}
use Rattle.tree.specs.laws.slots.Tree.{used_nodes}
use Rattle.tree.specs.laws.room.Weight.{weight_cons}
use Rattle.tree.specs.declared.editor.Tree.{Tree}

-- ---- the state

module _ (s : State) (n r : ℕ) (hn : n < length s.nodes) (hr : r < length s.nodes) where
  abbrev bare : MemNode
  bare = with_place (node_at s n) [] []

  abbrev top : MemNode
  top = with_place (made (suc (node_at s n).level) []) (node_at s n).block (node_at s n).id

  abbrev left : Entry
  left = record { key = key_at (node_at s n).entries 0; value = mem n }

  abbrev right : Entry
  right = record { key = key_at (node_at s r).entries 0; value = mem r }

  -- a root without entries

  at_top : node_at (root_added s n) (length s.nodes) ≡ top
  unfolding root_added with_root node_at
  at_top = ap (node_at (add_node (put_node s n bare) top)) (sym (put_count s n bare)) ∙ at_add_new (put_node s n bare) top

  at_old : node_at (root_added s n) n ≡ bare
  unfolding root_added with_root node_at
  at_old = at_add_old (put_node s n bare) top n (rw (put_count s n bare) hn) ∙ at_put_same s n bare hn

  at_other : (k : ℕ) → k < length s.nodes → (k ≡ n → ⊥) → node_at (root_added s n) k ≡ node_at s k
  unfolding root_added with_root node_at
  at_other k h d = at_add_old (put_node s n bare) top k (rw (put_count s n bare) h) ∙ at_put_other s n bare k d

  same_entries : (k : ℕ) → k < length s.nodes → (node_at (root_added s n) k).entries ≡ (node_at s k).entries
  unfolding with_place
  same_entries k h =
      by_test (eqb k n)
      (λ t. let e : k ≡ n = eqb-true k n t in rw e (ap (λ (m : MemNode). m.entries) at_old))
      (λ t. ap (λ (m : MemNode). m.entries) (at_other k h (eqb-false k n t)))

  added_count : length (root_added s n).nodes ≡ suc (length s.nodes)
  unfolding root_added with_root
  added_count = add_count (put_node s n bare) top ∙ ap suc (put_count s n bare)

  pub added_root : (root_added s n).root ≡ length s.nodes
  unfolding root_added with_root
  added_root = refl

  -- with its first child

  abbrev one : State
  one = child_put (root_added s n) (length s.nodes) 0 n

  one_is : one ≡ put_node (root_added s n) (length s.nodes) (changed top (left ∷ []))
  unfolding insert_at with_place made
  one_is =
      let k : key_at (node_at (root_added s n) n).entries 0 ≡ key_at (node_at s n).entries 0 =
      ap (λ (es : List Entry). key_at es 0) (same_entries n hn) in
      ap (put_node (root_added s n) (length s.nodes))
      (ap (λ (m : MemNode). changed m (insert_at 0 (record { key = key_at (node_at (root_added s n) n).entries 0; value = mem n }) m.entries)) at_top
      ∙ ap (λ (x : List ℕ). changed top (record { key = x; value = mem n } ∷ [])) k)

  one_count : length one.nodes ≡ suc (length s.nodes)
  one_count = put_count (root_added s n) (length s.nodes) _ ∙ added_count

  one_top : node_at one (length s.nodes) ≡ changed top (left ∷ [])
  one_top =
      ap (λ (x : State). node_at x (length s.nodes)) one_is
      ∙ at_put_same (root_added s n) (length s.nodes) (changed top (left ∷ [])) (omega (arith, added_count))

  one_entries : (node_at one r).entries ≡ (node_at s r).entries
  one_entries =
      ap (λ (x : State). (node_at x r).entries) one_is
      ∙ ap (λ (m : MemNode). m.entries) (at_put_other (root_added s n) (length s.nodes) (changed top (left ∷ [])) r (λ e. omega arith))
      ∙ same_entries r hr

  -- with both

  abbrev full : MemNode
  full = changed (changed top (left ∷ [])) (left ∷ right ∷ [])

  two_is : child_put one (length s.nodes) 1 r ≡ put_node one (length s.nodes) full
  unfolding insert_at changed
  two_is =
      ap (put_node one (length s.nodes))
      (ap (λ (m : MemNode). changed m (insert_at 1 (record { key = key_at (node_at one r).entries 0; value = mem r }) m.entries)) one_top
      ∙ ap (λ (es : List Entry). changed (changed top (left ∷ [])) (left ∷ record { key = key_at es 0; value = mem r } ∷ [])) one_entries)

  put_twice : (x : State) (k : ℕ) (a b : MemNode) → put_node (put_node x k a) k b ≡ put_node x k b
  unfolding put_node with_nodes
  put_twice x k a b = ap (with_nodes x) (set-set x.nodes k a b)

  put_full : put_node (root_added s n) (length s.nodes) full ≡ grow_root s n r
  unfolding root_added grow_root root_entries with_root add_node put_node with_nodes changed with_place made
  put_full =
      ap (λ (ns : List MemNode). with_root (with_nodes s ns) (length s.nodes))
      (set_at (set s.nodes n bare) top [] full (length s.nodes) (length-set s.nodes n bare))

  pub grown_is : child_put (child_put (root_added s n) (length s.nodes) 0 n) (length s.nodes) 1 r ≡ grow_root s n r
  grown_is =
      two_is ∙ ap (λ (x : State). put_node x (length s.nodes) full) one_is
      ∙ put_twice (root_added s n) (length s.nodes) (changed top (left ∷ [])) full ∙ put_full

  -- the room that they find

  module _ (size scratch : ℕ) (f : RootFits size s n r scratch) where
    first_same : first_length (root_added s n) n ≡ first_length s n
    first_same = ap (λ (es : List Entry). length (key_at es 0)) (same_entries n hn)

    second_same : first_length one r ≡ first_length s r
    second_same = ap (λ (es : List Entry). length (key_at es 0)) one_entries

    top_weight : length (records_of (node_at (root_added s n) (length s.nodes)).entries) ≡ 0
    unfolding with_place made records_of
    top_weight = ap (λ (m : MemNode). length (records_of m.entries)) at_top

    one_weight : length (records_of (node_at one (length s.nodes)).entries) ≡ 4 + first_length s n + 8
    unfolding changed records_of value_length
    one_weight = ap (λ (m : MemNode). length (records_of m.entries)) one_top ∙ weight_cons left [] ∙ omega arith

    pub first_fits : ChildFits size (root_added s n) (length s.nodes) 0 n scratch
    unfolding with_place made
    first_fits =
        record {
          used = omega (arith, added_count);
          alive = ap (λ (m : MemNode). m.dead) at_top;
          index = omega arith;
          child = omega (arith, added_count);
          room = omega (arith, first_same, top_weight, f.room);
          short = omega (arith, first_same, f.left_short);
          copied = omega (arith, first_same, f.left_copied);
        }

    pub second_fits : ChildFits size one (length s.nodes) 1 r scratch
    unfolding with_place made changed
    second_fits =
        record {
          used = omega (arith, one_count);
          alive = ap (λ (m : MemNode). m.dead) one_top;
          index = let z : length (node_at one (length s.nodes)).entries ≡ 1 = ap (λ (m : MemNode). length m.entries) one_top in omega arith;
          child = omega (arith, one_count);
          room = omega (arith, second_same, one_weight, f.room);
          short = omega (arith, second_same, f.right_short);
          copied = omega (arith, second_same, f.right_copied);
        }

-- ---- the slots

pub grow_within : (size n r scratch : ℕ) (t : Tree) (h0 b0 : List ℕ) → RootFits size (state_of size t h0 b0) n r scratch → n < t.used
grow_within size n r scratch t h0 b0 f = omega (arith, f.left, used_nodes size t h0 b0)

module _ (size slots n r scratch : ℕ) (t t' : Tree) (h0 b0 h1 b1 : List ℕ) (f : RootFits size (state_of size t h0 b0) n r scratch)
    (e : state_of size t' h1 b1 ≡ root_added (state_of size t h0 b0) n) where
  abbrev s : State
  s = state_of size t h0 b0

  root_is : t'.root ≡ length (state_of size t h0 b0).nodes
  unfolding state_of
  root_is = ap (λ (x : State). x.root) e ∙ added_root s n r f.left f.right

  more : t.used < t'.used
  more =
      let z : length (state_of size t' h1 b1).nodes ≡ length (root_added s n).nodes = ap (λ (x : State). length x.nodes) e in
      omega (arith, used_nodes size t h0 b0, used_nodes size t' h1 b1, added_count s n r f.left f.right)

  pub grow_first : (room : ℕ) → room ≡ scratch → ChildFits size (state_of size t' h1 b1) t'.root 0 n room
  grow_first room q = rw (q, e, root_is) (first_fits s n r f.left f.right size scratch f)

  module _ (h2 b2 : List ℕ) (w : Rewritten size slots t' h1 b1 h2 b2 (child_put (state_of size t' h1 b1) t'.root 0 n)) where
    one_state : state_of size t' h2 b2 ≡ child_put (root_added s n) (length s.nodes) 0 n
    one_state = w.state ∙ ap₂ (λ (x : State) (k : ℕ). child_put x k 0 n) e root_is

    pub grow_second : (room : ℕ) → room ≡ scratch → ChildFits size (state_of size t' h2 b2) t'.root 1 r room
    grow_second room q = rw (q, one_state, root_is) (second_fits s n r f.left f.right size scratch f)

    module _ (h3 b3 : List ℕ) (v : Rewritten size slots t' h2 b2 h3 b3 (child_put (state_of size t' h2 b2) t'.root 1 r)) where
      pub grow_state : state_of size t' h3 b3 ≡ grow_root (state_of size t h0 b0) n r
      grow_state = v.state ∙ ap₂ (λ (x : State) (k : ℕ). child_put x k 1 r) one_state root_is ∙ grown_is s n r f.left f.right

      pub grow_follows : Follows size slots t.used h0 b0 h1 b1 → Follows size slots t.used h0 b0 h3 b3
      grow_follows g =
          follows_on size slots t.used t'.used h0 b0 h1 b1 h3 b3 g
          (follows_on size slots t'.used t'.used h1 b1 h2 b2 h3 b3 w.follows v.follows (omega arith)) (omega (arith, more))
