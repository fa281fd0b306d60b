-- A cut's parts join to the whole; a new root stands above its two children; the root's place handed down exchanges ids and not blocks. Assumes
-- nothing.
use Rattle.std.specs.Prelude.{◌≡◌, [], ◌++◌, true, take, drop}
use Rattle.std.proofs.Math.Path.{refl, sym, ap, ap₂}
use Rattle.std.proofs.Common.{◌∙◌}
use Prim.Native.Nat.{ℕ, suc, ◌-◌, ◌<◌}
use Rattle.std.proofs.Math.ListN.{length, take-append-drop}
use Rattle.node.specs.Entry.{mem}
use Rattle.node.specs.Find.{key_at, val_at}
use Rattle.node.specs.Slot.{MemNode}
use Rattle.tree.specs.State.{State, node_at, put_node, add_node, with_root, with_info, with_counts, changed, marked_dirty, marked_dead, with_place, made}
use Rattle.tree.specs.Edit.{parted, root_entries, grow_root}
use Rattle.tree.specs.Remove.{handed_down}
use Rattle.tree.specs.laws.state.State.{at_put_same, at_put_other, put_count, at_add_old, at_add_new, add_count}

-- ---- a cut

module _ (s : State) (n c : ℕ) (h : n < length s.nodes) where
  abbrev part_l : MemNode
  part_l = changed (node_at s n) (take c (node_at s n).entries)

  abbrev part_r : MemNode
  part_r = made (node_at s n).level (drop c (node_at s n).entries)

  -- slot n has the left part, the next slot the right; every other is as it was
  pub parted_left : node_at (parted s n c) n ≡ part_l
  unfolding parted
  parted_left = at_add_old (put_node s n part_l) part_r n (rw (put_count s n part_l) h) ∙ at_put_same s n part_l h

  pub parted_right : node_at (parted s n c) (length s.nodes) ≡ part_r
  unfolding parted
  parted_right = ap (node_at (add_node (put_node s n part_l) part_r)) (sym (put_count s n part_l)) ∙ at_add_new (put_node s n part_l) part_r

  pub parted_other : (m : ℕ) → m < length s.nodes → (m ≡ n → ⊥) → node_at (parted s n c) m ≡ node_at s m
  unfolding parted
  parted_other m k d = at_add_old (put_node s n part_l) part_r m (rw (put_count s n part_l) k) ∙ at_put_other s n part_l m d

  pub parted_count : length (parted s n c).nodes ≡ suc (length s.nodes)
  unfolding parted
  parted_count = add_count (put_node s n part_l) part_r ∙ ap suc (put_count s n part_l)

  -- the parts join to the whole, at one level; both are dirty; the right part has no block and no id
  pub record Parts : Type 0 where
    pub joined : (node_at (parted s n c) n).entries ++ (node_at (parted s n c) (length s.nodes)).entries ≡ (node_at s n).entries
    pub left_level : (node_at (parted s n c) n).level ≡ (node_at s n).level
    pub right_level : (node_at (parted s n c) (length s.nodes)).level ≡ (node_at s n).level
    pub left_dirty : (node_at (parted s n c) n).dirty ≡ true
    pub right_dirty : (node_at (parted s n c) (length s.nodes)).dirty ≡ true
    pub left_block : (node_at (parted s n c) n).block ≡ (node_at s n).block
    pub right_block : (node_at (parted s n c) (length s.nodes)).block ≡ []
    pub right_id : (node_at (parted s n c) (length s.nodes)).id ≡ []

  pub parted_parts : Parts
  unfolding changed made
  parted_parts =
      record {
        joined = ap₂ (λ (x y : MemNode). x.entries ++ y.entries) parted_left parted_right ∙ take-append-drop c (node_at s n).entries;
        left_level = ap (λ (x : MemNode). x.level) parted_left;
        right_level = ap (λ (x : MemNode). x.level) parted_right;
        left_dirty = ap (λ (x : MemNode). x.dirty) parted_left;
        right_dirty = ap (λ (x : MemNode). x.dirty) parted_right;
        left_block = ap (λ (x : MemNode). x.block) parted_left;
        right_block = ap (λ (x : MemNode). x.block) parted_right;
        right_id = ap (λ (x : MemNode). x.id) parted_right;
      }

-- ---- a new root

module _ (s : State) (n r : ℕ) where
  abbrev grown : State
  grown = grow_root s n r

  abbrev bare : MemNode
  bare = with_place (node_at s n) [] []

  abbrev top : MemNode
  top = with_place (made (suc (node_at s n).level) (root_entries s n r)) (node_at s n).block (node_at s n).id

  pub grown_root : grown.root ≡ length s.nodes
  unfolding grow_root with_root
  grown_root = refl

  pub grown_top : node_at grown grown.root ≡ top
  unfolding grow_root with_root node_at
  grown_top = ap (node_at (add_node (put_node s n bare) top)) (sym (put_count s n bare)) ∙ at_add_new (put_node s n bare) top

  pub grown_level : (node_at grown grown.root).level ≡ suc (node_at s n).level
  unfolding with_place made
  grown_level = ap (λ (x : MemNode). x.level) grown_top

  pub grown_old : n < length s.nodes → node_at grown n ≡ bare
  unfolding grow_root with_root node_at
  grown_old h = at_add_old (put_node s n bare) top n (rw (put_count s n bare) h) ∙ at_put_same s n bare h

  pub grown_other : (m : ℕ) → m < length s.nodes → (m ≡ n → ⊥) → node_at grown m ≡ node_at s m
  unfolding grow_root with_root node_at
  grown_other m h d = at_add_old (put_node s n bare) top m (rw (put_count s n bare) h) ∙ at_put_other s n bare m d

  -- its two children are slots n and r, under their first keys; it takes the old root's block and id, which has none then
  pub record Grown : Type 0 where
    pub two : length (node_at grown grown.root).entries ≡ 2
    pub left : val_at (node_at grown grown.root).entries 0 ≡ mem n
    pub left_key_lem : key_at (node_at grown grown.root).entries 0 ≡ key_at (node_at grown n).entries 0
    pub right : val_at (node_at grown grown.root).entries 1 ≡ mem r
    pub right_key : key_at (node_at grown grown.root).entries 1 ≡ key_at (node_at grown r).entries 0
    pub block : (node_at grown grown.root).block ≡ (node_at s n).block
    pub id : (node_at grown grown.root).id ≡ (node_at s n).id
    pub old_block : (node_at grown n).block ≡ []
    pub old_id : (node_at grown n).id ≡ []

  pub grown_holds : n < length s.nodes → r < length s.nodes → (r ≡ n → ⊥) → Grown
  unfolding with_place made root_entries key_at val_at
  grown_holds h k d =
      record {
        two = ap (λ (x : MemNode). length x.entries) grown_top;
        left = ap (λ (x : MemNode). val_at x.entries 0) grown_top;
        left_key_lem = ap (λ (x : MemNode). key_at x.entries 0) grown_top ∙ sym (ap (λ (x : MemNode). key_at x.entries 0) (grown_old h));
        right = ap (λ (x : MemNode). val_at x.entries 1) grown_top;
        right_key = ap (λ (x : MemNode). key_at x.entries 1) grown_top ∙ sym (ap (λ (x : MemNode). key_at x.entries 0) (grown_other r k d));
        block = ap (λ (x : MemNode). x.block) grown_top;
        id = ap (λ (x : MemNode). x.id) grown_top;
        old_block = ap (λ (x : MemNode). x.block) (grown_old h);
        old_id = ap (λ (x : MemNode). x.id) (grown_old h);
      }

-- ---- the root's place handed down

module _ (s : State) (c : ℕ) (h : s.root < length s.nodes) (k : c < length s.nodes) (d : c ≡ s.root → ⊥) where
  abbrev handed : State
  handed = handed_down s c

  abbrev old_node : MemNode
  old_node = marked_dead (with_place (node_at s s.root) (node_at s s.root).block (node_at s c).id)

  abbrev new_node : MemNode
  new_node = marked_dirty (with_place (node_at s c) (node_at s c).block (node_at s s.root).id)

  abbrev between : State
  between = put_node s s.root old_node

  handed_new : node_at handed c ≡ new_node
  unfolding handed_down with_info with_root node_at
  handed_new = at_put_same between c new_node (rw (put_count s s.root old_node) k)

  handed_old : node_at handed s.root ≡ old_node
  unfolding handed_down with_info with_root node_at
  handed_old = at_put_other between c new_node s.root (λ e. d (sym e)) ∙ at_put_same s s.root old_node h

  -- ids are exchanged, blocks are not; the old root is dead, the new one dirty; one node less, no key less; entries stay
  pub record Handed : Type 0 where
    pub root : handed.root ≡ c
    pub new_id : (node_at handed c).id ≡ (node_at s s.root).id
    pub old_id : (node_at handed s.root).id ≡ (node_at s c).id
    pub new_block : (node_at handed c).block ≡ (node_at s c).block
    pub old_block : (node_at handed s.root).block ≡ (node_at s s.root).block
    pub old_dead : (node_at handed s.root).dead ≡ true
    pub new_dead : (node_at handed c).dead ≡ (node_at s c).dead
    pub new_dirty : (node_at handed c).dirty ≡ true
    pub new_entries : (node_at handed c).entries ≡ (node_at s c).entries
    pub new_level : (node_at handed c).level ≡ (node_at s c).level
    pub node_count : handed.info.node_count ≡ s.info.node_count - 1
    pub key_count : handed.info.key_count ≡ s.info.key_count

  pub handed_holds : Handed
  unfolding handed_down with_info with_root with_counts marked_dirty changed marked_dead with_place
  handed_holds =
      record {
        root = refl;
        new_id = ap (λ (x : MemNode). x.id) handed_new;
        old_id = ap (λ (x : MemNode). x.id) handed_old;
        new_block = ap (λ (x : MemNode). x.block) handed_new;
        old_block = ap (λ (x : MemNode). x.block) handed_old;
        old_dead = ap (λ (x : MemNode). x.dead) handed_old;
        new_dead = ap (λ (x : MemNode). x.dead) handed_new;
        new_dirty = ap (λ (x : MemNode). x.dirty) handed_new;
        new_entries = ap (λ (x : MemNode). x.entries) handed_new;
        new_level = ap (λ (x : MemNode). x.level) handed_new;
        node_count = refl;
        key_count = refl;
      }
