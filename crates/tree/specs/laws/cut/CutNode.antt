-- Laws of a slot that is cut if it does not fit: 13, 14, or the place of the cut. Assumes nothing.
use Rattle.std.specs.Prelude.{◌≡◌, List, [], Bool, true, false, ℕ, ◌<◌, Option, Some, None, Ok, Err, IfOk}
use Rattle.std.proofs.Math.Path.{sym, ap, subst}
use Rattle.std.proofs.Common.{◌∙◌, arith}
use Rattle.std.proofs.lemmas.Result.{IfOk-at_ok}
use Rattle.node.specs.Records.{records_length, entries_of}
use Rattle.node.specs.Fit.{Sized}
use Rattle.node.specs.Cut.{cut, cut_means}
use Rattle.node.specs.declared.cut.CutAt.{CutAt}
use Rattle.node.specs.declared.fit.SlotNode.{SlotNode}
use Rattle.tree.specs.Lent.{lent_of}
use Rattle.node.specs.Result.{Result}
use Rattle.tree.specs.State.{State, node_at}
use Rattle.tree.specs.Lookup.{Step}
use Rattle.tree.specs.Edit.{cut_at, cut_node}
use Rattle.tree.specs.Workspace.{slot_bytes, state_of}
use Rattle.tree.specs.Answers.{edited_of}
use Rattle.tree.specs.internal.Bank.{Ready}
use Rattle.tree.specs.internal.Edits.{CutFits}
use Rattle.tree.specs.internal.Cutting.{up_of, stays_whole, CutIs}
use Rattle.tree.specs.laws.slots.Tree.{used_nodes}
use Rattle.tree.specs.laws.cut.Asked.{unfit_alive}
use Rattle.tree.specs.declared.editor.Tree.{Tree}
use Rattle.tree.specs.declared.lent.Lent.{Lent}
use Rattle.tree.specs.declared.editor.Position as code
use Rattle.std.specs.Prelude as std
use Rattle.node.specs.declared.refusal.Refusal.{Refusal}
use Rattle.tree.specs.laws.slots.Undo.{follows_same}

module _ (l : Lent) (t : Tree) (heads bytes : List ℕ) (up : List Step) (n : ℕ) (r : Ready l.size l.slots t.used heads bytes)
    (f : CutFits l.size (state_of l.size t heads bytes) up n) where
  pub node_used : n < t.used
  node_used = omega (arith, f.used, used_nodes l.size t heads bytes)

  pub node_sized : Sized t.info
  unfolding state_of
  node_sized = f.sized

  module _ (b : Bool) (eb : b ≡ stays_whole (state_of l.size t heads bytes) n) where
    -- no cut
    pub node_whole : b ≡ true → edited_of l.size heads bytes (Ok t) ≡ cut_node (lent_of [] l) up n (state_of l.size t heads bytes)
    unfolding edited_of cut_node
    node_whole q = rw (← eb, q)

    module _ (q : b ≡ false) (w : SlotNode) (es : w.shape.info ≡ t.info)
        (el : w.shape.level ≡ (node_at (state_of l.size t heads bytes) n).level)
        (ee : (node_at (state_of l.size t heads bytes) n).entries ≡ entries_of w.records.count w.records.slot.now)
        (x : std.Result CutAt Refusal) (ex : cut_means x ≡ cut w.shape.info w.shape.level (entries_of w.records.count w.records.slot.now)) where
      cut_is : cut t.info (node_at (state_of l.size t heads bytes) n).level (node_at (state_of l.size t heads bytes) n).entries ≡ cut_means x
      cut_is = cc

      -- 13, 14
      pub node_uncut : (y : Refusal) → x ≡ Err y
          → edited_of l.size heads bytes (Err y) ≡ cut_node (lent_of [] l) up n (state_of l.size t heads bytes)
      unfolding edited_of cut_node cut_means state_of
      node_uncut y e = rw (← eb, q, cut_is, e)

      module _ (c : CutAt) (e : x ≡ Ok c) where
        pub node_cut : (p : List ℕ) → p ≡ slot_bytes l.size bytes n → IfOk x (λ c. c.at ≡ records_length c.place p)
            → CutIs l.size t heads bytes n c.place c.at
        unfolding cut_means
        node_cut p ep s =
            record {
              alive = unfit_alive (state_of l.size t heads bytes) n b eb q;
              found = cut_is ∙ ap cut_means e;
              start = IfOk-at_ok (λ (c : CutAt). c.at ≡ records_length c.place p) e s ∙ ap (records_length c.place) ep;
            }

        pub node_after : (h1 b1 : List ℕ) (y : std.Result Tree Refusal)
            → edited_of l.size h1 b1 y ≡ cut_at (lent_of [] l) up n c.place (state_of l.size t heads bytes)
            → edited_of l.size h1 b1 y ≡ cut_node (lent_of [] l) up n (state_of l.size t heads bytes)
        unfolding cut_node cut_means state_of
        node_after h1 b1 y a = a ∙ sym (rw (← eb, q, cut_is, e))

-- ---- the step above, if there is one

module _ (l : Lent) (s : State) (n : ℕ) (o : Option code.Position) where
  none_above : o ≡ None → up_of o ≡ []
  unfolding up_of
  none_above e = rw e

  pub top_fits : o ≡ None → CutFits l.size s (up_of o) n → CutFits l.size s [] n
  top_fits e f = subst (λ (x : List Step). CutFits l.size s x n) (none_above e) f

  pub child_fits : (up : code.Position) → o ≡ Some up → CutFits l.size s (up_of o) n → CutFits l.size s (up_of (Some up)) n
  child_fits up e f = rw e at f

  module _ (place : ℕ) (r : Result State) where
    pub top_answer : o ≡ None → r ≡ cut_at (lent_of [] l) [] n place s → r ≡ cut_at (lent_of [] l) (up_of o) n place s
    top_answer e a = a ∙ ap (λ (x : List Step). cut_at (lent_of [] l) x n place s) (sym (none_above e))

    pub child_answer : (up : code.Position) → o ≡ Some up → r ≡ cut_at (lent_of [] l) (up_of (Some up)) n place s
        → r ≡ cut_at (lent_of [] l) (up_of o) n place s
    child_answer up e a = rw e a

pub ruleset cut_node_laws = (node_uncut, node_whole, node_after, child_answer, follows_same)
