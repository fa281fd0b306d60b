-- Laws of what a cut asks first: the step above, room for nodes made, whether a slot fits. Assumes nothing.
use Rattle.std.specs.Prelude.{◌≡◌, refl, List, [], Bool, true, length, eqb, ⊤, Some, None, Ok, Err, MatchResult}
use Rattle.std.specs.Result.{IsErrAnd}
use Rattle.tree.specs.laws.base.Refused.{handed_on}
use Rattle.std.specs.Prelude as std
use Rattle.std.proofs.Math.Path.{sym}
use Rattle.std.proofs.Common.{ap, ◌∙◌, arith}
use Rattle.std.proofs.Math.Bool.{false}
use Prim.Native.Nat.{ℕ, suc, ◌+◌, ◌-◌, ◌^◌, ◌≤◌, ◌<◌}
use Rattle.std.proofs.Math.Dec.{leb}
use borrow.Author.Tests.{le-leb, lt-leb, leb-true, leb-false, eq-eqb, ne_eqb}
use Rattle.node.specs.laws.base.Tests.{by_test, never}
use Rattle.node.specs.Result.{ok, refused}
use Rattle.node.specs.Fit.{fits}
use Rattle.node.specs.Slot.{head_at, node_of}
use Rattle.node.specs.Refusals.{number_of}
use Rattle.node.specs.declared.head.Head.{Head}
use Rattle.node.specs.declared.refusal.Refusal.{Refusal}
use Rattle.node.specs.declared.refusal.Refusal.TheVariants as is
use Rattle.tree.specs.Lent.{lent_of}
use Rattle.tree.specs.State.{State, node_at, with_info}
use Rattle.tree.specs.Edit.{more_nodes, room_for}
use Rattle.tree.specs.Workspace.{state_of}
use Rattle.tree.specs.internal.Bank.{node_in, live}
use Rattle.tree.specs.internal.Edits.{step_at, above_of}
use Rattle.tree.specs.internal.Cutting.{up_of, room_of, counted, stays_whole}
use Rattle.tree.specs.laws.slots.Tree.{node_in_lem, used_nodes}
use Rattle.tree.specs.declared.editor.Tree.{Tree}
use Rattle.tree.specs.declared.lent.Lent.{Lent}
use Rattle.tree.specs.declared.editor.Position as code
use Rattle.tree.specs.internal.Way.{nth_step}

-- ---- the step above

module _ (way : List code.Position) (j : ℕ) where
  pub above_none : j ≡ 0 → up_of None ≡ above_of way j
  unfolding up_of above_of
  above_none e = rw e

  pub above_some : (x : code.Position) → x ≡ nth_step way (j - 1) → 0 < j → up_of (Some x) ≡ above_of way j
  unfolding up_of above_of step_at
  above_some x e h = let z : j ≡ suc (j - 1) = omega arith in rw e (sym (ap (above_of way) z))

-- ---- room for nodes made

module _ (count used slots n : ℕ) (few : n ≤ 2) where
  -- what the first check says
  pub count_refused : (r : std.Result ⊤ Refusal) (x : Refusal) → IsErrAnd r (λ y. y ≡ x) → x ≡ is.Count
      → leb count (18446744073709551615 - n) ≡ false → r ≡ room_of count used slots n
  unfolding room_of
  count_refused r x e q h =
      let z : leb (count + n) (2 ^ 64 - 1) ≡ false = lt-leb (count + n) (2 ^ 64 - 1) (omega (arith, leb-false count _ h)) in
      handed_on r x e ∙ rw (q, z) refl

  module _ (h : leb count (18446744073709551615 - n) ≡ true) where
    counts : leb (count + n) (2 ^ 64 - 1) ≡ true
    counts = le-leb (count + n) (2 ^ 64 - 1) (omega (arith, leb-true count _ h))

    -- and the second
    pub slots_checked : (r : std.Result ⊤ Refusal)
        → MatchResult r (λ _. leb (used + n) slots ≡ true) (λ x. (leb (used + n) slots ≡ false) × (x ≡ is.NoSlot))
        → r ≡ room_of count used slots n
    unfolding room_of
    slots_checked (Ok u) e = rw (counts, e)
    slots_checked (Err x) e = rw (counts, e.0, e.1)

-- there is room
module _ (count used slots n : ℕ) (u : ⊤) (e : Ok u ≡ room_of count used slots n) where
  room_not : (x : Refusal) → room_of count used slots n ≡ Err x → ⊥
  room_not x f = let z : ◌≡◌ {A = std.Result ⊤ Refusal} (Ok u) (Err x) = e ∙ f in cc

  pub room_count : count + n < 2 ^ 64
  unfolding room_of
  room_count =
      by_test (leb (count + n) (2 ^ 64 - 1))
      (λ a. omega (arith, leb-true (count + n) (2 ^ 64 - 1) a))
      (λ a. absurd (room_not is.Count (rw a)))

  pub room_slots : used + n ≤ slots
  unfolding room_of
  room_slots =
      by_test (leb (count + n) (2 ^ 64 - 1))
      (λ a. by_test (leb (used + n) slots)
      (λ b. leb-true (used + n) slots b)
      (λ b. absurd (room_not is.NoSlot (rw (a, b)))))
      (λ a. absurd (room_not is.Count (rw a)))

-- the numbers of a tree say the same of its state
module _ (l : Lent) (t : Tree) (heads bytes : List ℕ) (n : ℕ) where
  nodes : length (state_of l.size t heads bytes).nodes ≡ t.used
  nodes = used_nodes l.size t heads bytes

  -- no room
  pub room_none : (x : Refusal) → Err x ≡ room_of t.info.node_count t.used l.slots n
      → room_for (lent_of [] l) (state_of l.size t heads bytes) n ≡ refused (number_of x)
  unfolding room_for lent_of room_of state_of
  room_none x e =
      by_test (leb (t.info.node_count + n) (2 ^ 64 - 1))
      (λ a. by_test (leb (t.used + n) l.slots)
      (λ b. absurd (let z : ◌≡◌ {A = std.Result ⊤ Refusal} (Err x) (Ok tt) = e ∙ rw (a, b) in cc))
      (λ b. let z : ◌≡◌ {A = std.Result ⊤ Refusal} (Err x) (Err is.NoSlot) = e ∙ rw (a, b) in let y : x ≡ is.NoSlot = cc in rw (a, nodes, b, y)))
      (λ a. let z : ◌≡◌ {A = std.Result ⊤ Refusal} (Err x) (Err is.Count) = e ∙ rw a in let y : x ≡ is.Count = cc in rw (a, y))

  -- room
  pub room_found : (u : ⊤) → Ok u ≡ room_of t.info.node_count t.used l.slots n
      → room_for (lent_of [] l) (state_of l.size t heads bytes) n ≡ ok tt
  unfolding room_for lent_of state_of
  room_found u e =
      rw (
        le-leb (t.info.node_count + n) (2 ^ 64 - 1) (omega (arith, room_count t.info.node_count t.used l.slots n u e)),
        nodes,
        le-leb (t.used + n) l.slots (room_slots t.info.node_count t.used l.slots n u e),
      )

pub counted_state : (size n : ℕ) (t : Tree) (heads bytes : List ℕ)
    → state_of size (counted t n) heads bytes ≡ more_nodes (state_of size t heads bytes) n
unfolding state_of counted more_nodes with_info
counted_state size n t heads bytes = refl

-- ---- whether a slot fits

pub unfit_alive : (s : State) (n : ℕ) (b : Bool) → b ≡ stays_whole s n → b ≡ false → (node_at s n).dead ≡ false
unfit_alive s n b e f = by_test (node_at s n).dead (λ d. never (e ∙ rw d) f) (λ d. d)

module _ (size n : ℕ) (t : Tree) (heads bytes : List ℕ) (hn : n < t.used) (h : Head) (eh : h ≡ live (head_at heads n)) where
  node_dead : (node_at (state_of size t heads bytes) n).dead ≡ eqb h.dead 1
  unfolding node_in node_of live
  node_dead = rw (node_in_lem size t heads bytes n hn, eh)

  pub whole_dead : h.dead ≡ 1 → true ≡ stays_whole (state_of size t heads bytes) n
  whole_dead d = rw (node_dead, eq-eqb h.dead 1 d)

  pub alive_node : (h.dead ≡ 1 → ⊥) → (node_at (state_of size t heads bytes) n).dead ≡ false
  alive_node d = node_dead ∙ ne_eqb h.dead 1 d

  pub whole_fits : (h.dead ≡ 1 → ⊥) → (b : Bool)
      → b ≡ fits t.info (eqb n t.root) (node_at (state_of size t heads bytes) n).level (node_at (state_of size t heads bytes) n).entries
      → b ≡ stays_whole (state_of size t heads bytes) n
  unfolding state_of
  whole_fits d b e = rw (alive_node d) e

pub ruleset fits_at_laws = (whole_dead, whole_fits)
