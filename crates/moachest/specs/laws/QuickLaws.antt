-- Laws of get where the whole way is loaded: the tree's words stay as they are. Assumes nothing.
use Rattle.std.specs.Prelude.{◌≡◌, refl, List, [], ◌∷◌, ℕ, ◌≤◌, ◌<◌, Bool, true, length, get_or, ltb, eqb, Option, Some}
use Rattle.std.specs.Prelude as std
use Rattle.std.proofs.Common.{sym, ◌∙◌, arith, eqb-true, ltb-true}
use Rattle.std.proofs.lemmas.Bool.{eqb-false}
use Rattle.seal.specs.Bytes.{splice}
use Rattle.node.specs.Slot.{suits}
use Rattle.node.specs.laws.base.Tests.{by_test}
use Rattle.node.specs.declared.refusal.Refusal.{Refusal}
use Rattle.tree.specs.Lent.{lent_of}
use Rattle.tree.specs.State.{node_at}
use Rattle.tree.specs.Lookup.{get_in}
use Rattle.tree.specs.Workspace.{state_of}
use Rattle.tree.specs.Answers.{got_means}
use Rattle.tree.specs.Trusts.{Trusts, GotCalled}
use Rattle.tree.specs.internal.Bank.{ReadyAfter}
use Rattle.tree.specs.internal.Loaded.{LeafIs}
use Rattle.tree.specs.internal.Get.{got_at}
use Rattle.tree.specs.laws.lookup.LoadedCalls.{leaf_suits, leaf_answer, got_left}
use Rattle.tree.specs.declared.editor.Tree.{Tree}
use Rattle.tree.specs.declared.get.Copied.{Copied}
use Rattle.tree.specs.declared.lent.Lent.{Lent}
use Rattle.moachest.specs.Words.{yes, mark, info_of, tree_of, words_of, stored}
use Rattle.moachest.specs.laws.CallLaws.{got}

mark_small : (k : ℕ) → k < 2 → mark (yes k) ≡ k
mark_small k h =
    by_test (eqb k 0)
    (λ t. rw t (sym (eqb-true k 0 t)))
    (λ t. let n : k ≡ 0 → ⊥ = eqb-false k 0 t in let o : 1 ≡ k = omega (arith, n) in rw t o)

-- words that are as `store` leaves them are those of their tree
stored_same : (w : List ℕ) → 14 ≤ length w → get_or w 10 0 < 2 → stored w (tree_of w) ≡ w
unfolding stored splice words_of tree_of info_of
stored_same [] h e = absurd (omega arith)
stored_same (x0 ∷ []) h e = absurd (omega arith)
stored_same (x0 ∷ x1 ∷ []) h e = absurd (omega arith)
stored_same (x0 ∷ x1 ∷ x2 ∷ []) h e = absurd (omega arith)
stored_same (x0 ∷ x1 ∷ x2 ∷ x3 ∷ []) h e = absurd (omega arith)
stored_same (x0 ∷ x1 ∷ x2 ∷ x3 ∷ x4 ∷ []) h e = absurd (omega arith)
stored_same (x0 ∷ x1 ∷ x2 ∷ x3 ∷ x4 ∷ x5 ∷ []) h e = absurd (omega arith)
stored_same (x0 ∷ x1 ∷ x2 ∷ x3 ∷ x4 ∷ x5 ∷ x6 ∷ []) h e = absurd (omega arith)
stored_same (x0 ∷ x1 ∷ x2 ∷ x3 ∷ x4 ∷ x5 ∷ x6 ∷ x7 ∷ []) h e = absurd (omega arith)
stored_same (x0 ∷ x1 ∷ x2 ∷ x3 ∷ x4 ∷ x5 ∷ x6 ∷ x7 ∷ x8 ∷ []) h e = absurd (omega arith)
stored_same (x0 ∷ x1 ∷ x2 ∷ x3 ∷ x4 ∷ x5 ∷ x6 ∷ x7 ∷ x8 ∷ x9 ∷ []) h e = absurd (omega arith)
stored_same (x0 ∷ x1 ∷ x2 ∷ x3 ∷ x4 ∷ x5 ∷ x6 ∷ x7 ∷ x8 ∷ x9 ∷ x10 ∷ []) h e = absurd (omega arith)
stored_same (x0 ∷ x1 ∷ x2 ∷ x3 ∷ x4 ∷ x5 ∷ x6 ∷ x7 ∷ x8 ∷ x9 ∷ x10 ∷ x11 ∷ []) h e = absurd (omega arith)
stored_same (x0 ∷ x1 ∷ x2 ∷ x3 ∷ x4 ∷ x5 ∷ x6 ∷ x7 ∷ x8 ∷ x9 ∷ x10 ∷ x11 ∷ x12 ∷ []) h e = absurd (omega arith)
stored_same (x0 ∷ x1 ∷ x2 ∷ x3 ∷ x4 ∷ x5 ∷ x6 ∷ x7 ∷ x8 ∷ x9 ∷ x10 ∷ x11 ∷ x12 ∷ x13 ∷ w) h e = rw (mark_small x10 e) refl

-- trust in the words is trust in the tree that they are
pub trusts_loaded : (image heads bytes : List ℕ) (l m : Lent) (t u : Tree) → l ≡ m → t ≡ u → Trusts image m u heads bytes
    → Trusts image l t heads bytes
trusts_loaded image heads bytes l m t u el et h = rw (el, et) h

pub words_kept : (w : List ℕ) (t : Tree) (b : Bool) → t ≡ tree_of w → 14 ≤ length w → b ≡ ltb (get_or w 10 0) 2 → b ≡ true → w ≡ stored w t
words_kept w t b e h p y = rw e (sym (stored_same w h (ltb-true (get_or w 10 0) 2 (sym p ∙ y))))

module _ (image heads bytes k : List ℕ) (l : Lent) (t : Tree) (p : Trusts image l t heads bytes)
    (leaf : Option ℕ) (q : LeafIs t.used (state_of l.size t heads bytes) k leaf) (m : ℕ) (f : leaf ≡ Some m) where
  pub quick_suits : suits true (node_at (state_of l.size t heads bytes) m).entries ≡ true
  quick_suits = leaf_suits image l t heads bytes p k m (q.keys m f) (q.leads m f)

  pub quick_is : (room : ℕ) → got_at (state_of l.size t heads bytes) room m k ≡ get_in (lent_of image l) (state_of l.size t heads bytes) room k
  quick_is room = leaf_answer image l t heads bytes p k m (q.keys m f) (q.leads m f) room _ refl

  pub quick_left : (out : List ℕ) (room : ℕ) (g : std.Result (Tree × Option Copied) Refusal)
      → got_means l.size heads bytes out g ≡ got_at (state_of l.size t heads bytes) room m k
      → ReadyAfter l.size l.slots heads bytes g → GotCalled image l t heads bytes heads bytes g
  quick_left out room g e r = got_left image l t heads bytes p k out room g (e ∙ quick_is room) r

pub ruleset get_trusted_laws = (trusts_loaded, quick_suits, quick_is, got)
