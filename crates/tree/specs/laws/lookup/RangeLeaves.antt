-- Laws of range on lent words and bytes: 1 first, and what range leaves. Assumes nothing.
use Rattle.std.specs.Prelude.{◌≡◌, List, [], ◌∷◌, Bool, true, false, not, ◌&&◌, ℕ, ◌*◌, length, leb}
use Rattle.std.proofs.Math.Path.{refl, sym}
use Rattle.std.proofs.Common.{ap, subst, ◌∙◌}
use Rattle.std.proofs.lemmas.Bool.{not-true, not-false}
use Rattle.node.specs.Result.{Result, ok, refused, ◌>>◌, check}
use Rattle.node.specs.Refusals as refusal
use Rattle.node.specs.Order.{keyed}
use Rattle.node.specs.Entry.{Entry}
use Rattle.node.specs.Records.{records_of}
use Rattle.node.specs.laws.base.Tests.{by_test, and_split}
use Rattle.node.specs.laws.base.Results.{Holds, holds_ok, holds_bind, holds_check}
use Rattle.tree.specs.Lent as lent
use Rattle.tree.specs.Lent.{lent_of}
use Rattle.tree.specs.State.{State, node_at}
use Rattle.tree.specs.Load.{unbounded}
use Rattle.tree.specs.Lookup.{Got, range_from, range_in, range}
use Rattle.tree.specs.Hold.{lent_holds}
use Rattle.tree.specs.Trust.{trusted}
use Rattle.tree.specs.Workspace.{state_of, workspace_holds, called}
use Rattle.tree.specs.Answers.{range_means, ranged_in, ranged_output, ranged_leaves}
use Rattle.tree.specs.internal.Bank.{ReadyBy}
use Rattle.tree.specs.internal.Undo.{Undone}
use Rattle.tree.specs.internal.Room.{Roomy}
use Rattle.tree.specs.internal.Edits.{Trusts}
use Rattle.tree.specs.internal.Range.{RangeCalled}
use Rattle.tree.specs.laws.room.Calls.{roomy_range}
use Rattle.tree.specs.laws.trust.Loads.{trusted_range}
use Rattle.tree.specs.laws.refusal1.Calls.{trusts_hold, back_hold, looked_trusts}
use Rattle.tree.specs.declared.lent.Lent.{Lent}
use Rattle.tree.specs.declared.editor.Tree.{Tree}
use Rattle.tree.specs.declared.range.Ranged.{Ranged}
use Rattle.std.specs.Prelude as std
use Rattle.std.specs.Prelude.{Ok, Err}
use Rattle.node.specs.declared.refusal.Refusal.{Refusal}
use Rattle.node.specs.declared.refusal.Refusal.TheVariants as is

-- what an accepted range leaves is roomy
roomy_ranged : (l : lent.Lent) (s : State) (room : ℕ) (lo hi : List ℕ) → trusted l s ≡ true → Roomy (2 * l.size) s
    → Holds (λ g. Roomy (2 * l.size) g.state) (range_in l s room lo hi)
unfolding range_in
roomy_ranged l s room lo hi h r =
    holds_check refusal.argument (keyed s.order lo && keyed s.order hi) _ λ a.
    holds_bind (range_from (node_at s s.root).level l lo (hi ∷ []) s unbounded s.root) _ λ g e.
    holds_check refusal.output (leb (length (records_of g.answer)) room) (ok g) λ b.
    holds_ok ((roomy_range l lo (hi ∷ []) s h r).at g e)

module _ (image : List ℕ) (l : Lent) (t : Tree) (h b : List ℕ) (c : Trusts image l t h b) (h' b' : List ℕ) where
  ranged_trusts : (lo hi out : List ℕ) (room : ℕ) (x : std.Result Ranged Refusal)
      → range_means l.size h' b' out x ≡ range_in (lent_of image l) (state_of l.size t h b) room lo hi → ReadyBy (λ r. r.tree) l.size l.slots h' b' x
      → (r : Ranged) → x ≡ Ok r → Trusts image l r.tree h' b'
  unfolding range_means lent_of
  ranged_trusts lo hi out room x e y r q =
      looked_trusts image l r.tree h' b' _ _ (trusted_range (lent_of image l) (state_of l.size t h b) room lo hi c.trust)
      (roomy_ranged (lent_of image l) (state_of l.size t h b) room lo hi c.trust c.roomy)
      (ap (range_means l.size h' b' out) (sym q) ∙ e) (subst (ReadyBy (λ r. r.tree) l.size l.slots h' b') q y)

  pub left_ranged : (x : std.Result Ranged Refusal) → RangeCalled image l t h b h' b' x → ranged_leaves l.size l.slots t h b h' b' x
  left_ranged (Err y) k = (k.0, back_hold image l t h b c h' b' k.0 k.1)
  left_ranged (Ok r) k = trusts_hold image l r.tree h' b' k

-- undone where it is refused: a refusal is the same whatever the slots hold
module _ (l : Lent) (t : Tree) (h0 b0 h2 b2 h3 b3 out : List ℕ) where
  pub ranged_undone : (g : std.Result Ranged Refusal) → Undone l t h0 b0 h2 b2 h3 b3 g
      → range_means l.size h3 b3 out g ≡ range_means l.size h2 b2 out g
  unfolding range_means
  ranged_undone (Err x) u = refl
  ranged_undone (Ok v) u = rw (u.0, u.1)

  pub ranged_left : (image lo hi : List ℕ) (room : ℕ) (g : std.Result Ranged Refusal) → Trusts image l t h0 b0
      → Undone l t h0 b0 h2 b2 h3 b3 g
      → range_means l.size h3 b3 out g ≡ range_in (lent_of image l) (state_of l.size t h0 b0) room lo hi
      → ReadyBy (λ r. r.tree) l.size l.slots h2 b2 g → RangeCalled image l t h0 b0 h3 b3 g
  ranged_left image lo hi room (Err x) c u e r = u
  ranged_left image lo hi room (Ok v) c u e r = ranged_trusts image l t h0 b0 c h3 b3 lo hi out room (Ok v) e (rw (u.0, u.1) r) v refl

module _ (image : List ℕ) (l : Lent) (t : Tree) (h0 b0 : List ℕ) (a : Bool)
    (ea : a ≡ workspace_holds l.size l.slots t.used h0 b0 && lent_holds (lent_of image l) (state_of l.size t h0 b0)) where
  abbrev space : Bool
  space = workspace_holds l.size l.slots t.used h0 b0

  abbrev numbers : Bool
  numbers = lent_holds (lent_of image l) (state_of l.size t h0 b0)

  call_is : (room : ℕ) (lo hi : List ℕ) → ranged_in (lent_of image l) t h0 b0 room lo hi ≡
      (check 1 space >> (check 1 numbers >> range_in (lent_of image l) (state_of l.size t h0 b0) room lo hi))
  unfolding ranged_in called range lent_of
  call_is room lo hi = refl

  module _ (n : not a ≡ true) where
    lent_no : (room : ℕ) (lo hi : List ℕ) → ranged_in (lent_of image l) t h0 b0 room lo hi ≡ refused 1
    lent_no room lo hi =
        let z : space && numbers ≡ false = sym ea ∙ not-true a n in
        by_test space
        (λ u. let v : numbers ≡ false = rw u at z in call_is room lo hi ∙ rw (u, v))
        (λ u. call_is room lo hi ∙ rw u)

    pub range_lent : (out lo hi : List ℕ) → range_means l.size h0 b0 out (Err is.Lent) ≡ ranged_in (lent_of image l) t h0 b0 (length out) lo hi
    unfolding range_means
    range_lent out lo hi = sym (lent_no (length out) lo hi)

    pub range_lent_same : (out lo hi : List ℕ) → out ≡ ranged_output out (ranged_in (lent_of image l) t h0 b0 (length out) lo hi)
    unfolding ranged_output
    range_lent_same out lo hi = sym (ap (ranged_output out) (lent_no (length out) lo hi))

  module _ (n : not a ≡ false) where
    both : (space ≡ true) × (numbers ≡ true)
    both = and_split space numbers (sym ea ∙ not-false a n)

    lent_yes : (room : ℕ) (lo hi : List ℕ) → ranged_in (lent_of image l) t h0 b0 room lo hi
        ≡ range_in (lent_of image l) (state_of l.size t h0 b0) room lo hi
    lent_yes room lo hi = call_is room lo hi ∙ rw (both.0, both.1)

    pub range_answer : (room : ℕ) (lo hi : List ℕ) (y : Result (Got Entry)) → y ≡ range_in (lent_of image l) (state_of l.size t h0 b0) room lo hi
        → y ≡ ranged_in (lent_of image l) t h0 b0 room lo hi
    range_answer room lo hi y q = q ∙ sym (lent_yes room lo hi)

    pub range_output : (room : ℕ) (lo hi o out : List ℕ) → o ≡ ranged_output out (range_in (lent_of image l) (state_of l.size t h0 b0) room lo hi)
        → o ≡ ranged_output out (ranged_in (lent_of image l) t h0 b0 room lo hi)
    range_output room lo hi o out q = q ∙ ap (ranged_output out) (sym (lent_yes room lo hi))

pub ruleset range_laws = (left_ranged, range_lent, range_lent_same, range_answer, range_output)
