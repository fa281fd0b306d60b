-- Laws of refusal 15 as the code answers it, before a slot is taken. Assumes nothing.
use Rattle.std.specs.Prelude.{◌≡◌, List, Bool, false, ◌&&◌, ℕ, suc, ◌+◌, ◌^◌, ◌≤◌, ◌<◌}
use Rattle.std.proofs.Math.Path.{sym}
use Rattle.std.proofs.Common.{ap, ◌∙◌, arith}
use Rattle.std.proofs.Math.Bool.{true}
use Rattle.std.proofs.Math.Numerals.{add-one}
use Rattle.std.proofs.Math.ListN.{length}
use Rattle.std.proofs.Math.Dec.{leb}
use borrow.Author.Tests.{le-leb, lt-leb}
use Rattle.node.specs.laws.base.Tests.{and-false, and-true}
use Rattle.node.specs.Find.{key_at}
use Rattle.node.specs.Fit.{padded, fits_sums}
use Rattle.tree.specs.State.{node_at}
use Rattle.tree.specs.Edit.{parted, new_root_holds}
use Rattle.tree.specs.Workspace.{state_of}
use Rattle.tree.specs.internal.Bank.{Ready}
use Rattle.tree.specs.laws.state.NewRootFits.{root_room, new_root_sums}
use Rattle.tree.specs.laws.slots.Tree.{used_nodes}
use Rattle.tree.specs.laws.refusal1.Roomy.{node_weight}
use Rattle.tree.specs.laws.room.Weight.{weight_key_at}
use Rattle.tree.specs.declared.editor.Tree.{Tree}

module _ (size slots n place : ℕ) (t : Tree) (heads bytes : List ℕ) (r : Ready size slots t.used heads bytes) (hn : n < t.used) (hp : 1 ≤ place)
    (level : ℕ) (el : level ≡ (node_at (state_of size t heads bytes) n).level) where
  -- by lengths and level
  by_sums : new_root_holds (parted (state_of size t heads bytes) n place) n t.used
      ≡ fits_sums t.info true (suc level) 2
      (root_room t.info (length (key_at (node_at (state_of size t heads bytes) n).entries 0))
      (length (key_at (node_at (state_of size t heads bytes) n).entries place))) && leb (suc level) 32
  unfolding state_of
  by_sums =
      let u : length (state_of size t heads bytes).nodes ≡ t.used = used_nodes size t heads bytes in
      sym (ap (new_root_holds (parted (state_of size t heads bytes) n place) n) u)
      ∙ new_root_sums (state_of size t heads bytes) n place (omega arith) hp
      ∙ rw el

  pub root_deep : 32 ≤ level → false ≡ new_root_holds (parted (state_of size t heads bytes) n place) n t.used
  root_deep h = let z : leb (suc level) 32 ≡ false = lt-leb (suc level) 32 (omega arith) in rw (by_sums, z, and-false)

  module _ (left right : List ℕ) (ea : left ≡ key_at (node_at (state_of size t heads bytes) n).entries 0)
      (eb : right ≡ key_at (node_at (state_of size t heads bytes) n).entries place) where
    key_small : (i : ℕ) (k : List ℕ) → k ≡ key_at (node_at (state_of size t heads bytes) n).entries i → length k < 2 ^ 20
    key_small i k e =
        let z : length k ≡ length (key_at (node_at (state_of size t heads bytes) n).entries i) = ap length e in
        omega (
          arith,
          weight_key_at (node_at (state_of size t heads bytes) n).entries i,
          node_weight size slots t heads bytes r n hn,
          (r.lies n hn).room,
          (r.lies n hn).used,
          r.most,
        )

    pub left_small : length left < 2 ^ 20
    left_small = key_small 0 left ea

    pub right_small : length right < 2 ^ 20
    right_small = key_small place right eb

    pub root_sums : (b : Bool) → level < 32
        → b ≡ fits_sums t.info true (level + 1) 2 (padded t.info (length left) + padded t.info (length right)
        + (padded t.info 8 + padded t.info 8))
        → b ≡ new_root_holds (parted (state_of size t heads bytes) n place) n t.used
    unfolding root_room
    root_sums b h e =
        let z : leb (suc level) 32 ≡ true = le-leb (suc level) 32 (omega arith) in
        rw (by_sums, z, and-true, ← ea, ← eb) (rw add-one at e)

pub ruleset new_root_holds_laws = (root_deep, left_small, right_small, root_sums)
