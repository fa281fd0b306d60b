-- The cut of a node that does not fit (RULES: cut; `split_up` of write/tree.rs).
use Rattle.std.specs.Prelude.{List, [], ◌∷◌, Bool, false, cond, ◌&&◌, not, ℕ, zero, suc, ◌+◌, ◌-◌, ◌/◌, length, take, drop, leb, ltb, Ok, Err}
use Rattle.std.specs.Prelude as std
use Rattle.node.specs.Result.{Result, ok, refused, ◌>>◌, check}
use Rattle.node.specs.Refusals as refusal
use Rattle.node.specs.Entry.{Entry, value_length}
use Rattle.node.specs.Fit.{fits, greater}
use Rattle.node.specs.declared.info.BTreeInfo.{BTreeInfo}
use Rattle.node.specs.declared.cut.CutAt.{CutAt}
use Rattle.node.specs.declared.refusal.Refusal.{Refusal}

-- entry size = key + value + 8, unpadded
unfoldable pub entry_size : Entry → ℕ
entry_size e = length e.key + value_length e.value + 8

-- the size of entries
unfoldable pub size : List Entry → ℕ
size [] = 0
size (e ∷ es) = entry_size e + size es

-- the length of the longest left part of size ≤ h
unfoldable pub left_part : ℕ → List Entry → ℕ
left_part h [] = 0
left_part h (e ∷ es) = cond (leb (entry_size e) h) (suc (left_part (h - entry_size e) es)) 0

-- c kept within 1 and n − 1
unfoldable pub kept_within : ℕ → ℕ → ℕ
kept_within n c = greater 1 (cond (leb c (n - 1)) c (n - 1))

-- shortened until the left part fits, and not below 1
unfoldable pub shorten : (List Entry → Bool) → List Entry → ℕ → ℕ
shorten fit es zero = 1
shorten fit es (suc zero) = 1
shorten fit es (suc (suc c)) = cond (fit (take (suc (suc c)) es)) (suc (suc c)) (shorten fit es (suc c))

-- lengthened while the right part doesn't fit and one more fits left; n: how often at most
unfoldable pub lengthen : (List Entry → Bool) → List Entry → ℕ → ℕ → ℕ
lengthen fit es zero c = c
lengthen fit es (suc n) c = cond (not (fit (drop c es)) && fit (take (suc c) es)) (lengthen fit es n (suc c)) c

-- the place of the cut: the left part's length
unfoldable pub cut_place : (List Entry → Bool) → List Entry → ℕ
cut_place fit es =
    let c : ℕ = shorten fit es (kept_within (length es) (left_part (size es / 2) es)) in
    lengthen fit es (length es - 1 - c) c

-- the cut of a node that does not fit, the left part's length: 13 a single entry; 14 no cut leaves two fitting parts
unfoldable pub cut : BTreeInfo → ℕ → List Entry → Result ℕ
cut t level es = do
  let fit : List Entry → Bool = fits t false level
  let c : ℕ = cut_place fit es
  check refusal.single (ltb 1 (length es))
  check refusal.no_cut (fit (take c es) && fit (drop c es))
  ok c

-- what an answer of the code means
unfoldable pub cut_means : std.Result CutAt Refusal → Result ℕ
cut_means (Err x) = refused (refusal.number_of x)
cut_means (Ok c) = ok c.place
