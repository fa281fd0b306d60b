-- A call's answer as numbers: what it returns, the words that it writes, and the answer read back from them.
use Rattle.std.specs.Prelude.{List, [], ◌∷◌, Bool, cond, not, ℕ, get_or, eqb, Option, Some, None, Ok, Err}
use Rattle.std.specs.Prelude as std
use Rattle.seal.specs.Bytes.{splice}
use Rattle.node.specs.Refusals.{number_of}
use Rattle.node.specs.declared.refusal.Refusal.{Refusal}
use Rattle.node.specs.declared.refusal.Refusal.TheVariants as is
use Rattle.tree.specs.declared.editor.Tree.{Tree}
use Rattle.tree.specs.declared.get.Copied.{Copied}
use Rattle.tree.specs.declared.get.Copied.TheVariants as copied
use Rattle.tree.specs.declared.range.Ranged.{Ranged}
use Rattle.flush.specs.declared.flush.Flushed.{Flushed}
use Rattle.moachest.specs.Words.{tree_of, stored}

-- ---- what is returned: 0 of an accepted call, else the refusal's number

unfoldable pub returned : {A : Type 0} → std.Result A Refusal → ℕ
returned (Err x) = number_of x
returned (Ok a) = 0

-- the refusal of a number from 1 to 20. No call returns another one but 0: its contract says so beside what the number means
abbrev pub refusal_of : ℕ → Refusal
refusal_of n =
    cond (eqb n 1) is.Lent
    (cond (eqb n 2) is.Address
    (cond (eqb n 3) is.Fletcher
    (cond (eqb n 4) is.Kind
    (cond (eqb n 5) is.Hashed
    (cond (eqb n 6) is.Layout
    (cond (eqb n 7) is.Level
    (cond (eqb n 8) is.Entry
    (cond (eqb n 9) is.Keys
    (cond (eqb n 10) is.Root
    (cond (eqb n 11) is.NoSlot
    (cond (eqb n 12) is.Argument
    (cond (eqb n 13) is.Single
    (cond (eqb n 14) is.NoCut
    (cond (eqb n 15) is.NewRoot
    (cond (eqb n 16) is.Full
    (cond (eqb n 17) is.Count
    (cond (eqb n 18) is.Unmapped
    (cond (eqb n 19) is.Encrypted
    is.Output))))))))))))))))))

-- the answer of a call that returned a number and, if it was accepted, left this
unfoldable pub back : {A : Type 0} → ℕ → A → std.Result A Refusal
back r a = cond (eqb r 0) (Ok a) (Err (refusal_of r))

-- ---- open

unfoldable pub opened_tree : List ℕ → std.Result Tree Refusal → List ℕ
opened_tree w (Err x) = w
opened_tree w (Ok t) = stored w t

unfoldable pub opened_back : ℕ → List ℕ → std.Result Tree Refusal
opened_back r w = back r (tree_of w)

-- ---- get: 0 none, 1 a ghost, 2 a value and its length

unfoldable pub copied_words : Option Copied → List ℕ
copied_words None = 0 ∷ []
copied_words (Some copied.Ghost) = 1 ∷ []
copied_words (Some (copied.Value n)) = 2 ∷ n ∷ []

unfoldable pub copied_back : List ℕ → Option Copied
copied_back a = cond (eqb (get_or a 0 0) 0) None (cond (eqb (get_or a 0 0) 1) (Some copied.Ghost) (Some (copied.Value (get_or a 1 0))))

unfoldable pub got_tree : List ℕ → std.Result (Tree × Option Copied) Refusal → List ℕ
got_tree w (Err x) = w
got_tree w (Ok (t, c)) = stored w t

unfoldable pub got_answer : List ℕ → std.Result (Tree × Option Copied) Refusal → List ℕ
got_answer a (Err x) = a
got_answer a (Ok (t, c)) = splice a 0 (copied_words c)

unfoldable pub got_back : ℕ → List ℕ → List ℕ → std.Result (Tree × Option Copied) Refusal
got_back r w a = back r (tree_of w, copied_back a)

-- ---- floor: 0 none, 1 an entry and its record's length

unfoldable pub found_words : Option ℕ → List ℕ
found_words None = 0 ∷ []
found_words (Some n) = 1 ∷ n ∷ []

unfoldable pub found_back : List ℕ → Option ℕ
found_back a = cond (eqb (get_or a 0 0) 0) None (Some (get_or a 1 0))

unfoldable pub floored_tree : List ℕ → std.Result (Tree × Option ℕ) Refusal → List ℕ
floored_tree w (Err x) = w
floored_tree w (Ok (t, n)) = stored w t

unfoldable pub floored_answer : List ℕ → std.Result (Tree × Option ℕ) Refusal → List ℕ
floored_answer a (Err x) = a
floored_answer a (Ok (t, n)) = splice a 0 (found_words n)

unfoldable pub floored_back : ℕ → List ℕ → List ℕ → std.Result (Tree × Option ℕ) Refusal
floored_back r w a = back r (tree_of w, found_back a)

-- ---- range: how many entries, and the bytes of their records

unfoldable pub ranged_tree : List ℕ → std.Result Ranged Refusal → List ℕ
ranged_tree w (Err x) = w
ranged_tree w (Ok g) = stored w g.tree

unfoldable pub ranged_answer : List ℕ → std.Result Ranged Refusal → List ℕ
ranged_answer a (Err x) = a
ranged_answer a (Ok g) = splice a 0 (g.count ∷ g.length ∷ [])

unfoldable pub ranged_back : ℕ → List ℕ → List ℕ → std.Result Ranged Refusal
ranged_back r w a = back r (record { tree = tree_of w; count = get_or a 0 0; length = get_or a 1 0 })

-- ---- upsert, omap_put, omap_drop

unfoldable pub edited_tree : List ℕ → std.Result Tree Refusal → List ℕ
edited_tree w (Err x) = w
edited_tree w (Ok t) = stored w t

unfoldable pub edited_back : ℕ → List ℕ → std.Result Tree Refusal
edited_back r w = back r (tree_of w)

-- ---- remove: 1 where the key was there, else 0

unfoldable pub removed_tree : List ℕ → std.Result (Tree × Bool) Refusal → List ℕ
removed_tree w (Err x) = w
removed_tree w (Ok (t, there)) = stored w t

unfoldable pub removed_answer : List ℕ → std.Result (Tree × Bool) Refusal → List ℕ
removed_answer a (Err x) = a
removed_answer a (Ok (t, there)) = splice a 0 (cond there 1 0 ∷ [])

unfoldable pub removed_back : ℕ → List ℕ → List ℕ → std.Result (Tree × Bool) Refusal
removed_back r w a = back r (tree_of w, not (eqb (get_or a 0 0) 0))

-- ---- flush

-- the words of an accepted flush
unfoldable pub flushed_words : Flushed → List ℕ
flushed_words f =
    f.root
    ∷ f.done.allocated
    ∷ f.done.freed
    ∷ f.done.removed
    ∷ f.done.moved
    ∷ f.keys
    ∷ f.fill
    ∷ f.done.next
    ∷ []

unfoldable pub flushed_answer : List ℕ → std.Result Flushed Refusal → List ℕ
flushed_answer a (Err x) = a
flushed_answer a (Ok f) = splice a 0 (flushed_words f)

unfoldable pub flushed_of_words : List ℕ → Flushed
flushed_of_words a =
    record {
      root = get_or a 0 0;
      keys = get_or a 5 0;
      fill = get_or a 6 0;
      done = record { next = get_or a 7 0; freed = get_or a 2 0; removed = get_or a 3 0; moved = get_or a 4 0; allocated = get_or a 1 0 };
    }

unfoldable pub flushed_back : ℕ → List ℕ → std.Result Flushed Refusal
flushed_back r a = back r (flushed_of_words a)
