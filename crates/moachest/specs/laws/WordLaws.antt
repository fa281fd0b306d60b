-- Laws of a tree's words: what is stored is read back. Assumes nothing.
use Rattle.std.specs.Prelude.{◌≡◌, refl, List, Bool, true, false, ◌&&◌, ℕ, ◌≤◌, ◌<◌, ◌+◌, ◌*◌, length, leb}
use Rattle.std.proofs.Common.{ap, ◌∙◌, arith, le-leb, eqb-true}
use Rattle.std.proofs.lemmas.Bool.{lt-leb}
use Rattle.seal.specs.Bytes.{splice}
use Rattle.node.specs.Result.{Result, refused, ◌>>◌, check}
use Rattle.node.specs.Refusals as refusal
use Rattle.node.specs.laws.base.Results.{check_passes, check_refuses}
use Rattle.tree.specs.Workspace.{scratch_holds}
use Rattle.tree.specs.declared.editor.Tree.{Tree}
use Rattle.moachest.specs.Words.{yes, mark, info_of, tree_of, words_of, stored, tree_holds, answer_holds, on_tree, on_words}

-- ---- read back

yes_mark : (b : Bool) → yes (mark b) ≡ b
yes_mark true = refl
yes_mark false = refl

-- a tree with its mark replaced
marked : Tree → Bool → Tree
marked t b =
    record { root = t.root; used = t.used; info = t.info; by_id = b; subtype = t.subtype; order = t.order; xid = t.xid }

pub tree_back : (w : List ℕ) (t : Tree) → tree_of (stored w t) ≡ t
unfolding tree_of info_of stored splice words_of marked
tree_back w t = ap (marked t) (yes_mark t.by_id)

-- ---- what is lent

pub scratch_length : (size slots : ℕ) (scratch : List ℕ) → scratch_holds size slots scratch ≡ true → length scratch ≡ (2 * slots + 2) * size
unfolding scratch_holds
scratch_length size slots scratch h = eqb-true (length scratch) ((2 * slots + 2) * size) h

-- ---- 1 of the words

pub on_tree_lem : {A : Type 0} (w : List ℕ) (f : Tree → Result A) → 14 ≤ length w → on_tree w f ≡ f (tree_of w)
unfolding on_tree
on_tree_lem w f h = check_passes refusal.lent (leb 14 (length w)) _ (le-leb 14 (length w) (omega arith))

pub on_few : {A : Type 0} (w : List ℕ) (f : Tree → Result A) → length w < 14 → on_tree w f ≡ refused refusal.lent
unfolding on_tree
on_few w f h = check_refuses refusal.lent (leb 14 (length w)) _ (lt-leb 14 (length w) (omega arith))

pub on_words_lem : {A : Type 0} (w a : List ℕ) (f : Tree → Result A) → 14 ≤ length w → 8 ≤ length a → on_words w a f ≡ f (tree_of w)
unfolding on_words
on_words_lem w a f h k = check_passes refusal.lent (leb 8 (length a)) _ (le-leb 8 (length a) (omega arith)) ∙ on_tree_lem w f h

few_of : {A : Type 0} (b d : Bool) (r : Result A) → (b && d) ≡ false → (check refusal.lent d >> (check refusal.lent b >> r)) ≡ refused refusal.lent
few_of true true r e = absurd (cc)
few_of true false r e = refl
few_of false true r e = refl
few_of false false r e = refl

pub on_few_words : {A : Type 0} (w a : List ℕ) (f : Tree → Result A) → (tree_holds w && answer_holds a) ≡ false
    → on_words w a f ≡ refused refusal.lent
unfolding on_words on_tree
on_few_words w a f e = few_of (tree_holds w) (answer_holds a) (f (tree_of w)) e
