-- The words of an open tree, what is lent by numbers, and 1 of words that are too few.
use Rattle.std.specs.Prelude.{List, [], ◌∷◌, Bool, cond, not, ℕ, length, get_or, leb, eqb, Some, None}
use Rattle.seal.specs.Bytes.{splice}
use Rattle.node.specs.Result.{Result, ◌>>◌, check}
use Rattle.node.specs.Refusals as refusal
use Rattle.node.specs.declared.info.BTreeInfo.{BTreeInfo}
use Rattle.tree.specs.declared.editor.Tree.{Tree}
use Rattle.tree.specs.declared.lent.Lent.{Lent}

-- a number as yes or no: 0 is no
abbrev pub yes : ℕ → Bool
yes n = not (eqb n 0)

-- yes or no as a number
abbrev pub mark : Bool → ℕ
mark b = cond b 1 0

-- the tree-wide numbers: words 2 to 9
unfoldable pub info_of : List ℕ → BTreeInfo
info_of w =
    record {
      flags = get_or w 2 0;
      node_size = get_or w 3 0;
      key_size = get_or w 4 0;
      val_size = get_or w 5 0;
      longest_key = get_or w 6 0;
      longest_val = get_or w 7 0;
      key_count = get_or w 8 0;
      node_count = get_or w 9 0;
    }

-- the tree that words are
unfoldable pub tree_of : List ℕ → Tree
tree_of w =
    record {
      root = get_or w 0 0;
      used = get_or w 1 0;
      info = info_of w;
      by_id = yes (get_or w 10 0);
      subtype = get_or w 11 0;
      order = record { code = get_or w 12 0 };
      xid = get_or w 13 0;
    }

-- the words that a tree is
unfoldable pub words_of : Tree → List ℕ
words_of t =
    t.root
    ∷ t.used
    ∷ t.info.flags
    ∷ t.info.node_size
    ∷ t.info.key_size
    ∷ t.info.val_size
    ∷ t.info.longest_key
    ∷ t.info.longest_val
    ∷ t.info.key_count
    ∷ t.info.node_count
    ∷ mark t.by_id
    ∷ t.subtype
    ∷ t.order.code
    ∷ t.xid
    ∷ []

-- words with a tree stored at their start
unfoldable pub stored : List ℕ → Tree → List ℕ
stored w t = splice w 0 (words_of t)

-- what is lent by numbers
abbrev pub lent_numbers : ℕ → ℕ → ℕ → ℕ → Lent
lent_numbers size slots mapped map = record { size = size; slots = slots; map = cond (yes mapped) (Some map) None }

-- words enough for a tree, and for an answer
abbrev pub tree_holds : List ℕ → Bool
tree_holds w = leb 14 (length w)

abbrev pub answer_holds : List ℕ → Bool
answer_holds w = leb 8 (length w)

-- 1 of the tree's words, then a call on the tree that they are
unfoldable pub on_tree : {A : Type 0} → List ℕ → (Tree → Result A) → Result A
on_tree w f = do
  check refusal.lent (tree_holds w)
  f (tree_of w)

-- the same of a call that also writes an answer's words
unfoldable pub on_words : {A : Type 0} → List ℕ → List ℕ → (Tree → Result A) → Result A
on_words w a f = do
  check refusal.lent (answer_holds a)
  on_tree w f
