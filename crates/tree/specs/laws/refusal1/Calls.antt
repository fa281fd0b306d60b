-- Calls on slots that are trusted: refusal 1 passed grants trust, and what is trusted is a workspace that holds. Assumes nothing.
use Rattle.std.specs.Prelude.{◌≡◌, List, Bool, true, false, not, ◌&&◌, ℕ, ◌*◌}
use Rattle.std.proofs.Common.{sym, subst, ◌∙◌}
use Rattle.std.proofs.lemmas.Bool.{not-false}
use Rattle.node.specs.Result.{Result, ok}
use Rattle.node.specs.laws.base.Tests.{and_split}
use Rattle.node.specs.laws.base.Results.{Holds}
use Rattle.tree.specs.Lent.{lent_of}
use Rattle.tree.specs.State.{State}
use Rattle.tree.specs.Hold.{lent_holds}
use Rattle.tree.specs.Lookup.{Got}
use Rattle.tree.specs.Trust.{trusted}
use Rattle.tree.specs.Workspace.{state_of, workspace_holds}
use Rattle.tree.specs.internal.Bank.{Ready}
use Rattle.tree.specs.internal.Room.{Roomy}
use Rattle.tree.specs.internal.Edits.{Trusts}
use Rattle.tree.specs.laws.refusal1.Ready.{called_ready, called_trusted}
use Rattle.tree.specs.laws.refusal1.Roomy.{roomy_holds, holds_roomy}
use Rattle.tree.specs.declared.editor.Tree.{Tree}
use Rattle.tree.specs.declared.lent.Lent.{Lent}

module _ (image : List ℕ) (l : Lent) (t : Tree) (h b : List ℕ) where
  -- 1 passed
  pub called_trusts : (a : Bool) → a ≡ workspace_holds l.size l.slots t.used h b && lent_holds (lent_of image l) (state_of l.size t h b)
      → not a ≡ false → Trusts image l t h b
  called_trusts a e q =
      let r = called_ready image l t h b a e q in
      let (w, n) = and_split (workspace_holds l.size l.slots t.used h b) (lent_holds (lent_of image l) (state_of l.size t h b))
      (sym e ∙ not-false a q) in
      record {
        ready = r;
        trust = called_trusted image l t h b a e q;
        roomy = holds_roomy l.size l.slots t h b r w;
      }

  module _ (c : Trusts image l t h b) where
    -- the next call's 1 accepts the workspace
    pub trusts_hold : workspace_holds l.size l.slots t.used h b ≡ true
    trusts_hold = roomy_holds l.size l.slots t h b c.ready c.roomy

    -- also once a refused call has left the state as it was
    pub back_hold : (h' b' : List ℕ) → state_of l.size t h' b' ≡ state_of l.size t h b → Ready l.size l.slots t.used h' b'
        → workspace_holds l.size l.slots t.used h' b' ≡ workspace_holds l.size l.slots t.used h b
    back_hold h' b' k r =
        roomy_holds l.size l.slots t h' b' r (subst (λ (x : State). Roomy (2 * l.size) x) (sym k) c.roomy) ∙ sym trusts_hold

-- an accepted lookup leaves a tree to be trusted, as its definition does
pub looked_trusts : {A : Type 0} (image : List ℕ) (l : Lent) (u : Tree) (h b : List ℕ) (v : List A) (r : Result (Got A))
    → Holds (λ g. trusted (lent_of image l) g.state ≡ true) r → Holds (λ g. Roomy (2 * l.size) g.state) r
    → ok (record { state = state_of l.size u h b; answer = v }) ≡ r → Ready l.size l.slots u.used h b → Trusts image l u h b
looked_trusts image l u h b v r p q e y = record { ready = y; trust = p.at _ (sym e); roomy = q.at _ (sym e) }
