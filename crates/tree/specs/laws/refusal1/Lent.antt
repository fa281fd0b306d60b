-- Laws of what is lent beside the slots: one for each way out of its tests. Assumes nothing.
use Rattle.std.specs.Prelude.{◌≡◌, refl, List, Bool, cond, ◌&&◌, ◌||◌, ℕ, ◌≤◌, length, leb, eqb, Option, Some, None, is_some, option_to_list}
use Rattle.std.proofs.Math.Path.{sym}
use Rattle.std.proofs.Common.{◌∙◌, arith}
use Rattle.std.proofs.Math.Bool.{true, false}
use borrow.Author.Tests.{eqb-true}
use Rattle.node.specs.Order.{known}
use Rattle.tree.specs.Lent.{is_size, sizes_hold, lent_of}
use Rattle.tree.specs.Workspace.{state_of}
use Rattle.tree.specs.Hold.{info_holds, numbers_hold}
use Rattle.tree.specs.laws.slots.Bank.{length_nodes}
use Rattle.tree.specs.declared.editor.Tree.{Tree}
use Rattle.tree.specs.declared.lent.Lent.{Lent}

-- ---- a block size

module _ (n : ℕ) where
  or_last : (a b : Bool) → a || b ≡ true → (a ≡ true → (512 ≤ n) × (n ≤ 65536)) → (b ≡ true → (512 ≤ n) × (n ≤ 65536)) → (512 ≤ n) × (n ≤ 65536)
  or_last true b h f g = f refl
  or_last false b h f g = g h

  one : (k : ℕ) → 512 ≤ k → k ≤ 65536 → eqb n k ≡ true → (512 ≤ n) × (n ≤ 65536)
  one k a b t = let e : n ≡ k = eqb-true n k t in (omega arith, omega arith)

  pub size_between : is_size n ≡ true → (512 ≤ n) × (n ≤ 65536)
  unfolding is_size
  size_between h =
      or_last _ _ h (λ a. or_last _ _ a (λ b. or_last _ _ b (λ c. or_last _ _ c (λ d. or_last _ _ d (λ e. or_last _ _ e (λ f. or_last _ _ f
      (one 512 (omega arith) (omega arith)) (one 1024 (omega arith) (omega arith))) (one 2048 (omega arith) (omega arith)))
      (one 4096 (omega arith) (omega arith)))
      (one 8192 (omega arith) (omega arith))) (one 16384 (omega arith) (omega arith))) (one 32768 (omega arith) (omega arith)))
      (one 65536 (omega arith) (omega arith))

pub size_least : (n : ℕ) (z : Bool) → z ≡ is_size n → z ≡ true → 512 ≤ n
size_least n z e h = (size_between n (sym e ∙ h)).0

-- ---- the tree's numbers

pub numbers_is : (image : List ℕ) (l : Lent) (t : Tree) (heads bytes : List ℕ) → numbers_hold (lent_of image l) (state_of l.size t heads bytes)
    ≡ sizes_hold (lent_of image l) && eqb t.info.node_size l.size && known t.order.code && info_holds t.info
    && eqb (length (option_to_list l.map)) (cond t.by_id 1 0) && leb t.used l.slots
unfolding numbers_hold state_of lent_of
numbers_is image l t heads bytes = rw (length_nodes l.size heads bytes t.used)

-- an address that may be lent, as a list of addresses
pub map_long : (o : Option ℕ) → length (option_to_list o) ≡ cond (is_some o) 1 0
map_long (Some x) = refl
map_long None = refl
