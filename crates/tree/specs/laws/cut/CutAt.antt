-- Laws of a slot cut after so many entries: what both parts ask, its right part linked, a root grown above both. Assumes nothing.
use Rattle.std.specs.Prelude.{◌≡◌, refl, List, [], ◌∷◌, Bool, false, not, ℕ, suc, ◌+◌, ◌-◌, ◌^◌, ◌≤◌, ◌<◌, take, drop, ⊤, Some, Ok, Err}
use Rattle.std.proofs.Common.{sym, ◌∙◌, add-one, arith, length-take, length-drop}
use Rattle.std.proofs.Math.Path.{ap, ap₂}
use Rattle.std.proofs.Math.Bool.{true}
use Rattle.std.proofs.Math.ListN.{length}
use Rattle.std.proofs.Math.Dec.{leb}
use borrow.Author.Tests.{leb-true, not-true, not-false}
use Rattle.node.specs.laws.base.Tests.{and_right}
use Rattle.node.specs.laws.fit.Cut.{Parted, cut_parts}
use Rattle.node.specs.Result.{ok}
use Rattle.node.specs.Entry.{Entry}
use Rattle.node.specs.Find.{key_at}
use Rattle.node.specs.Fit.{Sized, fits}
use Rattle.node.specs.Slot.{MemNode, head_at}
use Rattle.tree.specs.Lent.{lent_of}
use Rattle.tree.specs.Lookup.{Step}
use Rattle.tree.specs.State.{State, node_at, with_nodes, with_root, put_node, add_node, changed, made}
use Rattle.tree.specs.Edit.{more_nodes, parted, link_right, root_entries, grow_root, new_root_holds, cut_at}
use Rattle.tree.specs.Workspace.{state_of}
use Rattle.tree.specs.Answers.{edited_of}
use Rattle.tree.specs.internal.Bank.{live, Ready}
use Rattle.tree.specs.internal.Index.{Rewritten}
use Rattle.tree.specs.internal.Edits.{ParentFits, CutFits}
use Rattle.tree.specs.internal.Cutting.{step_of, up_of, room_of, counted, first_length, child_put, ChildFits, RootFits, CutIs}
use Rattle.tree.specs.laws.state.Edit.{parted_left, parted_right, parted_other, parted_count}
use Rattle.tree.specs.laws.room.Edit.{link_room, part_room}
use Rattle.tree.specs.laws.room.Weight.{weight_key_at}
use Rattle.tree.specs.laws.slots.Tree.{used_nodes}
use Rattle.tree.specs.laws.load.Fetch.{count_is, count_few}
use Rattle.tree.specs.laws.cut.Asked.{room_none, room_found, room_count, counted_state}
use Rattle.tree.specs.declared.editor.Tree.{Tree}
use Rattle.tree.specs.declared.lent.Lent.{Lent}
use Rattle.tree.specs.declared.editor.Position as code
use Rattle.node.specs.declared.refusal.Refusal.{Refusal}
use Rattle.node.specs.declared.refusal.Refusal.TheVariants as is

-- ---- the parts

module _ (l : Lent) (t : Tree) (heads bytes : List ℕ) (up : List Step) (n place at : ℕ) (r : Ready l.size l.slots t.used heads bytes)
    (f : CutFits l.size (state_of l.size t heads bytes) up n) (k : CutIs l.size t heads bytes n place at) where
  abbrev s : State
  s = state_of l.size t heads bytes

  abbrev es : List Entry
  es = (node_at (state_of l.size t heads bytes) n).entries

  nodes : length (state_of l.size t heads bytes).nodes ≡ t.used
  nodes = used_nodes l.size t heads bytes

  pub cut_used : n < t.used
  cut_used = omega (arith, f.used, nodes)

  pub cut_sized : Sized t.info
  unfolding state_of
  cut_sized = f.sized

  parts : Parted t.info (node_at (state_of l.size t heads bytes) n).level (node_at (state_of l.size t heads bytes) n).entries place
  parts = cut_parts t.info (node_at s n).level es place k.found

  pub cut_first : 1 ≤ place
  cut_first = omega (arith, length-take place es, parts.left_some)

  pub cut_upto : place ≤ (live (head_at heads n)).count
  cut_upto = omega (arith, length-drop place es, parts.right_some, count_is l.size t heads bytes n cut_used (live (head_at heads n)) refl)

  node_size : t.info.node_size ≡ l.size
  unfolding state_of
  node_size = f.node

  left_length : length (key_at (take place es) 0) ≤ l.size - 56
  left_length = omega (arith, weight_key_at (take place es) 0, (part_room t.info (node_at s n).level place es parts).0, node_size)

  right_length : length (key_at (drop place es) 0) ≤ l.size - 56
  right_length = omega (arith, weight_key_at (drop place es) 0, (part_room t.info (node_at s n).level place es parts).1, node_size)

  -- after the slot is parted
  module _ (t' : Tree) (h1 b1 : List ℕ) (e : state_of l.size t' h1 b1 ≡ parted (state_of l.size t heads bytes) n place) where
    pub parted_used : t'.used ≡ t.used + 1
    parted_used = omega (arith, used_nodes l.size t' h1 b1, nodes, ap (λ (x : State). length x.nodes) e, parted_count s n place f.used)

    pub parted_count_same : t'.info.node_count ≡ t.info.node_count
    unfolding state_of parted add_node put_node with_nodes
    parted_count_same = ap (λ (x : State). x.info.node_count) e

    right_at : node_at (parted s n place) t.used ≡ made (node_at s n).level (drop place es)
    right_at = ap (node_at (parted s n place)) (sym nodes) ∙ parted_right s n place f.used

    left_first : first_length (parted s n place) n ≡ length (key_at (take place es) 0)
    unfolding changed
    left_first = ap (λ (m : MemNode). length (key_at m.entries 0)) (parted_left s n place f.used)

    right_first : first_length (parted s n place) t.used ≡ length (key_at (drop place es) 0)
    unfolding made
    right_first = ap (λ (m : MemNode). length (key_at m.entries 0)) right_at

    counts : length (parted s n place).nodes ≡ suc t.used
    counts = parted_count s n place f.used ∙ ap suc nodes

    -- a root above both parts
    pub parted_root : (scratch : ℕ) → (node_at (state_of l.size t heads bytes) n).level < 32 → l.size ≤ scratch
        → RootFits l.size (state_of l.size t' h1 b1) n t.used scratch
    unfolding changed
    parted_root scratch low room =
        let v : (node_at (parted s n place) n).level ≡ (node_at s n).level = ap (λ (m : MemNode). m.level) (parted_left s n place f.used) in
        rw e (record {
          left = omega (arith, counts, cut_used);
          right = omega (arith, counts);
          level = omega arith;
          room = omega (arith, left_first, right_first, left_length, right_length, r.least);
          left_short = omega (arith, left_first, left_length, r.least, r.most);
          right_short = omega (arith, right_first, right_length, r.least, r.most);
          left_copied = omega (arith, left_first, left_length);
          right_copied = omega (arith, right_first, right_length);
        })

    -- the right part under the parent of both
    pub parted_child : (scratch : ℕ) (x : Step) → ParentFits l.size (state_of l.size t heads bytes) x n → l.size ≤ scratch
        → ChildFits l.size (state_of l.size t' h1 b1) x.slot (x.child + 1) t.used scratch
    parted_child scratch x p room =
        let same : node_at (parted s n place) x.slot ≡ node_at s x.slot = parted_other s n place f.used x.slot p.within p.apart in
        let m : length (node_at (parted s n place) x.slot).entries ≡ length (node_at s x.slot).entries =
        ap (λ (m : MemNode). length m.entries) same in
        let w = link_room t.info (node_at s n).level place es (node_at s x.slot).entries parts (omega (arith, p.room, node_size)) in
        rw e (record {
          used = omega (arith, counts, p.within, nodes);
          alive = ap (λ (m : MemNode). m.dead) same ∙ p.alive;
          index = omega (arith, m, p.child);
          child = omega (arith, counts);
          room = rw same (omega (arith, right_first, w, node_size));
          short = omega (arith, right_first, right_length, r.least, r.most);
          copied = omega (arith, right_first, right_length);
        })

-- ---- the root cut

module _ (l : Lent) (t : Tree) (heads bytes : List ℕ) (n place : ℕ) (b : Bool)
    (eb : b ≡ new_root_holds (parted (state_of l.size t heads bytes) n place) n t.used) where
  holds_is : new_root_holds (parted (state_of l.size t heads bytes) n place) n (length (state_of l.size t heads bytes).nodes) ≡ b
  holds_is = ap (new_root_holds (parted (state_of l.size t heads bytes) n place) n) (used_nodes l.size t heads bytes) ∙ sym eb

  -- 15
  pub top_not : not b ≡ true → edited_of l.size heads bytes (Err is.NewRoot) ≡ cut_at (lent_of [] l) [] n place (state_of l.size t heads bytes)
  unfolding edited_of cut_at
  top_not q = rw (holds_is, not-true b q)

  module _ (q : not b ≡ false) where
    -- the level above is at most 32
    pub top_low : n < t.used → (node_at (state_of l.size t heads bytes) n).level < 32
    unfolding new_root_holds changed
    top_low hn =
        let s : State = state_of l.size t heads bytes in
        let z : leb (suc (node_at (parted (state_of l.size t heads bytes) n place) n).level) 32 ≡ true =
        and_right (fits _ true (suc (node_at (parted (state_of l.size t heads bytes) n place) n).level)
        (root_entries (parted (state_of l.size t heads bytes) n place) n t.used)) _ (sym eb ∙ not-false b q) in
        let v : (node_at (parted s n place) n).level ≡ (node_at s n).level = ap (λ (m : MemNode). m.level)
        (parted_left s n place (omega (arith, used_nodes l.size t heads bytes))) in
        omega (arith, leb-true (suc (node_at (parted (state_of l.size t heads bytes) n place) n).level) 32 z)

    -- 17, 11
    pub top_full : (x : Refusal) → Err x ≡ room_of t.info.node_count t.used l.slots 2
        → edited_of l.size heads bytes (Err x) ≡ cut_at (lent_of [] l) [] n place (state_of l.size t heads bytes)
    unfolding edited_of cut_at
    top_full x e = rw (holds_is, not-false b q, room_none l t heads bytes 2 x e)

    module _ (u : ⊤) (e : Ok u ≡ room_of t.info.node_count t.used l.slots 2) where
      pub top_done : (t' v : Tree) (h1 b1 h2 b2 : List ℕ) (w : Tree) → state_of l.size t' h1 b1 ≡ parted (state_of l.size t heads bytes) n place
          → state_of l.size v h2 b2 ≡ grow_root (state_of l.size t' h1 b1) n t.used → w ≡ counted v 2
          → edited_of l.size h2 b2 (Ok w) ≡ cut_at (lent_of [] l) [] n place (state_of l.size t heads bytes)
      unfolding edited_of cut_at
      top_done t' v h1 b1 h2 b2 w a g c =
          rw (holds_is, not-false b q, room_found l t heads bytes 2 u e)
          (ap ok (ap (λ (x : Tree). state_of l.size x h2 b2) c ∙ counted_state l.size 2 v h2 b2
          ∙ ap (λ (x : State). more_nodes x 2) (g ∙ ap₂ (λ (x : State) (i : ℕ). grow_root x n i) a (sym (used_nodes l.size t heads bytes)))))

-- the new root's tree has room in its node count
pub top_count : (l : Lent) (t t' v : Tree) (heads bytes h1 b1 h2 b2 : List ℕ) (n place : ℕ) (u : ⊤)
    → Ok u ≡ room_of t.info.node_count t.used l.slots 2
    → state_of l.size t' h1 b1 ≡ parted (state_of l.size t heads bytes) n place
    → state_of l.size v h2 b2 ≡ grow_root (state_of l.size t' h1 b1) n t.used → v.info.node_count + 2 < 2 ^ 64
unfolding state_of parted grow_root with_root add_node put_node with_nodes
top_count l t t' v heads bytes h1 b1 h2 b2 n place u e a g =
    let x : v.info.node_count ≡ t'.info.node_count = ap (λ (s : State). s.info.node_count) g in
    let y : t'.info.node_count ≡ t.info.node_count = ap (λ (s : State). s.info.node_count) a in
    omega (arith, room_count t.info.node_count t.used l.slots 2 u e)

-- ---- a child cut

up_is : (up : code.Position) → up_of (Some up) ≡ step_of up ∷ []
unfolding up_of
up_is up = refl

module _ (l : Lent) (t : Tree) (heads bytes : List ℕ) (up : code.Position) (n place at : ℕ) where
  -- its parent
  pub child_parent : CutFits l.size (state_of l.size t heads bytes) (up_of (Some up)) n → CutIs l.size t heads bytes n place at
      → ParentFits l.size (state_of l.size t heads bytes) (step_of up) n
  child_parent f k = f.parent (step_of up) (up_is up) k.alive

  pub child_next : Ready l.size l.slots t.used heads bytes → CutFits l.size (state_of l.size t heads bytes) (up_of (Some up)) n
      → CutIs l.size t heads bytes n place at → up.index + 1 < 2 ^ 64
  child_next r f k =
      let p : ParentFits l.size (state_of l.size t heads bytes) (step_of up) n = child_parent f k in
      let h : up.slot < t.used = omega (arith, p.within, used_nodes l.size t heads bytes) in
      omega (
        arith,
        p.child,
        count_is l.size t heads bytes up.slot h (live (head_at heads up.slot)) refl,
        count_few l.size t heads bytes up.slot h (live (head_at heads up.slot)) refl l.slots r,
      )

  -- 17, 11
  pub child_full : (x : Refusal) → Err x ≡ room_of t.info.node_count t.used l.slots 1
      → edited_of l.size heads bytes (Err x) ≡ cut_at (lent_of [] l) (up_of (Some up)) n place (state_of l.size t heads bytes)
  unfolding edited_of cut_at
  child_full x e = rw (up_is up, room_none l t heads bytes 1 x e)

  pub child_done : (u : ⊤) → Ok u ≡ room_of t.info.node_count t.used l.slots 1 → (t' v : Tree) (h1 b1 h2 b2 : List ℕ)
      → state_of l.size t' h1 b1 ≡ parted (state_of l.size t heads bytes) n place
      → Rewritten l.size l.slots t' h1 b1 h2 b2 (child_put (state_of l.size t' h1 b1) up.slot (up.index + 1) t.used)
      → v ≡ counted t' 1
      → edited_of l.size h2 b2 (Ok v) ≡ cut_at (lent_of [] l) (up_of (Some up)) n place (state_of l.size t heads bytes)
  unfolding edited_of cut_at link_right
  child_done u e t' v h1 b1 h2 b2 a w c =
      rw (up_is up, room_found l t heads bytes 1 u e)
      (ap ok (ap (λ (x : Tree). state_of l.size x h2 b2) c ∙ counted_state l.size 1 t' h2 b2
      ∙ ap (λ (x : State). more_nodes x 1) (w.state ∙ ap (λ (x : State). child_put x up.slot (up.index + 1) t.used) a
      ∙ ap₂ (λ (i k : ℕ). child_put (parted (state_of l.size t heads bytes) n place) up.slot i k) (add-one up.index)
      (sym (used_nodes l.size t heads bytes)))))

-- ---- what both leave

pub counted_ready : (size slots n : ℕ) (t v : Tree) (h b : List ℕ) → v ≡ counted t n → Ready size slots t.used h b → Ready size slots v.used h b
unfolding counted
counted_ready size slots n t v h b c r = rw c r

pub ruleset cut_root_laws = (top_not, top_full, top_count)
