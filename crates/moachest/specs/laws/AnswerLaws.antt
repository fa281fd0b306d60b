-- Laws of answers as numbers: what is returned and written is read back. Assumes nothing.
use Rattle.std.specs.Prelude.{◌≡◌, refl, List, [], ◌∷◌, Bool, true, false, not, ℕ, ◌≤◌, cond, eqb, get_or, Option, Some, None, Ok, Err}
use Rattle.std.proofs.Common.{ap, ap₂, arith}
use Rattle.seal.specs.Bytes.{splice}
use Rattle.node.specs.Refusals.{number_of}
use Rattle.node.specs.declared.refusal.Refusal.{Refusal}
use Rattle.node.specs.declared.refusal.Refusal.TheVariants as is
use Rattle.tree.specs.declared.editor.Tree.{Tree}
use Rattle.tree.specs.declared.get.Copied.{Copied}
use Rattle.tree.specs.declared.get.Copied.TheVariants as copied
use Rattle.tree.specs.declared.range.Ranged.{Ranged}
use Rattle.flush.specs.declared.flush.Flushed.{Flushed}
use Rattle.moachest.specs.Words.{tree_of, stored}
use Rattle.moachest.specs.Answers.{returned, refusal_of, back, opened_back, copied_words, copied_back, got_back, found_words, found_back, floored_back, ranged_back, edited_back, removed_back, flushed_words, flushed_of_words, flushed_back}
use Rattle.moachest.specs.laws.WordLaws.{tree_back}

-- a refusal's number is one of 1 to 20, and the refusal's alone
refusal_back : {A : Type 0} (x : Refusal) (a : A) → cond (eqb (number_of x) 0) (Ok a) (Err (refusal_of (number_of x))) ≡ Err x
refusal_back is.Lent a = refl
refusal_back is.Address a = refl
refusal_back is.Fletcher a = refl
refusal_back is.Kind a = refl
refusal_back is.Hashed a = refl
refusal_back is.Layout a = refl
refusal_back is.Level a = refl
refusal_back is.Entry a = refl
refusal_back is.Keys a = refl
refusal_back is.Root a = refl
refusal_back is.NoSlot a = refl
refusal_back is.Argument a = refl
refusal_back is.Single a = refl
refusal_back is.NoCut a = refl
refusal_back is.NewRoot a = refl
refusal_back is.Full a = refl
refusal_back is.Count a = refl
refusal_back is.Unmapped a = refl
refusal_back is.Encrypted a = refl
refusal_back is.Output a = refl

-- no refusal has a number above 20
pub number_most : (x : Refusal) → number_of x ≤ 20
number_most is.Lent = omega arith
number_most is.Address = omega arith
number_most is.Fletcher = omega arith
number_most is.Kind = omega arith
number_most is.Hashed = omega arith
number_most is.Layout = omega arith
number_most is.Level = omega arith
number_most is.Entry = omega arith
number_most is.Keys = omega arith
number_most is.Root = omega arith
number_most is.NoSlot = omega arith
number_most is.Argument = omega arith
number_most is.Single = omega arith
number_most is.NoCut = omega arith
number_most is.NewRoot = omega arith
number_most is.Full = omega arith
number_most is.Count = omega arith
number_most is.Unmapped = omega arith
number_most is.Encrypted = omega arith
number_most is.Output = omega arith

-- ---- the answer read back of a call that was refused, and of one that was accepted and stored its words

pub opened_refused : (w : List ℕ) (x : Refusal) → opened_back (returned {A = Unit {0}} (Err x)) w ≡ Err x
unfolding opened_back back returned
opened_refused w x = refusal_back x (tree_of w)

pub opened_done : (w w' : List ℕ) (t : Tree) → w' ≡ stored w t → opened_back (returned {A = Unit {0}} (Ok tt)) w' ≡ Ok t
unfolding opened_back back returned
opened_done w w' t p = rw p (ap Ok (tree_back w t))

copied_back_lem : (a : List ℕ) (c : Option Copied) → copied_back (splice a 0 (copied_words c)) ≡ c
unfolding copied_back copied_words splice
copied_back_lem a None = refl
copied_back_lem a (Some copied.Ghost) = refl
copied_back_lem a (Some (copied.Value n)) = refl

pub got_refused : (w a : List ℕ) (x : Refusal) → got_back (returned {A = Unit {0}} (Err x)) w a ≡ Err x
unfolding got_back back returned
got_refused w a x = refusal_back x (tree_of w, copied_back a)

pub got_done : (w a w' a' : List ℕ) (t : Tree) (c : Option Copied) → w' ≡ stored w t → a' ≡ splice a 0 (copied_words c)
    → got_back (returned {A = Unit {0}} (Ok tt)) w' a' ≡ Ok (t, c)
unfolding got_back back returned
got_done w a w' a' t c p q = rw (p, q) (ap₂ (λ u d. Ok (u, d)) (tree_back w t) (copied_back_lem a c))

found_back_lem : (a : List ℕ) (n : Option ℕ) → found_back (splice a 0 (found_words n)) ≡ n
unfolding found_back found_words splice
found_back_lem a None = refl
found_back_lem a (Some n) = refl

pub floored_refused : (w a : List ℕ) (x : Refusal) → floored_back (returned {A = Unit {0}} (Err x)) w a ≡ Err x
unfolding floored_back back returned
floored_refused w a x = refusal_back x (tree_of w, found_back a)

pub floored_done : (w a w' a' : List ℕ) (t : Tree) (n : Option ℕ) → w' ≡ stored w t → a' ≡ splice a 0 (found_words n)
    → floored_back (returned {A = Unit {0}} (Ok tt)) w' a' ≡ Ok (t, n)
unfolding floored_back back returned
floored_done w a w' a' t n p q = rw (p, q) (ap₂ (λ u d. Ok (u, d)) (tree_back w t) (found_back_lem a n))

pub ranged_refused : (w a : List ℕ) (x : Refusal) → ranged_back (returned {A = Unit {0}} (Err x)) w a ≡ Err x
unfolding ranged_back back returned
ranged_refused w a x = refusal_back x _

pub ranged_done : (w a w' a' : List ℕ) (g : Ranged) → w' ≡ stored w g.tree → a' ≡ splice a 0 (g.count ∷ g.length ∷ [])
    → ranged_back (returned {A = Unit {0}} (Ok tt)) w' a' ≡ Ok g
unfolding ranged_back back returned splice
ranged_done w a w' a' g p q = rw (p, q) (ap (λ (u : Tree). Ok (record { tree = u; count = g.count; length = g.length })) (tree_back w g.tree))

pub edited_refused : (w : List ℕ) (x : Refusal) → edited_back (returned {A = Unit {0}} (Err x)) w ≡ Err x
unfolding edited_back back returned
edited_refused w x = refusal_back x (tree_of w)

pub edited_done : (w w' : List ℕ) (t : Tree) → w' ≡ stored w t → edited_back (returned {A = Unit {0}} (Ok tt)) w' ≡ Ok t
unfolding edited_back back returned
edited_done w w' t p = rw p (ap Ok (tree_back w t))

pub removed_refused : (w a : List ℕ) (x : Refusal) → removed_back (returned {A = Unit {0}} (Err x)) w a ≡ Err x
unfolding removed_back back returned
removed_refused w a x = refusal_back x _

there_back : (a : List ℕ) (there : Bool) → not (eqb (get_or (splice a 0 (cond there 1 0 ∷ [])) 0 0) 0) ≡ there
unfolding splice
there_back a true = refl
there_back a false = refl

pub removed_done : (w a w' a' : List ℕ) (t : Tree) (there : Bool) → w' ≡ stored w t → a' ≡ splice a 0 (cond there 1 0 ∷ [])
    → removed_back (returned {A = Unit {0}} (Ok tt)) w' a' ≡ Ok (t, there)
unfolding removed_back back returned
removed_done w a w' a' t there p q = rw (p, q) (ap₂ (λ u d. Ok (u, d)) (tree_back w t) (there_back a there))

pub flushed_refused : (a : List ℕ) (x : Refusal) → flushed_back (returned {A = Unit {0}} (Err x)) a ≡ Err x
unfolding flushed_back back returned
flushed_refused a x = refusal_back x _

pub flushed_done : (a a' : List ℕ) (f : Flushed) → a' ≡ splice a 0 (flushed_words f) → flushed_back (returned {A = Unit {0}} (Ok tt)) a' ≡ Ok f
unfolding flushed_back back returned flushed_of_words flushed_words splice
flushed_done a a' f p = rw p refl
