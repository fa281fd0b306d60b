-- Laws of a value as a record stores it: its mark, its length, its bytes. Assumes nothing.
use Rattle.std.specs.Prelude.{◌≡◌, refl, List, true, ℕ, length}
use Rattle.std.proofs.Common.{sym, ap, inl, inr, ◌⊎◌}
use Rattle.std.specs.Borrow.{Bor}
use Rattle.seal.specs.Bytes.{splice, bytes_of}
use Rattle.seal.specs.laws.WindowLaws.{splice_none}
use Rattle.node.specs.Entry.{value_bytes, value_length}
use Rattle.node.specs.Records.{mark_of}
use Rattle.node.specs.Slot.{is_child, child_means, value_means}
use Rattle.node.specs.declared.val.Child.{Child}
use Rattle.node.specs.declared.val.Child.TheVariants as child
use Rattle.node.specs.declared.val.Val.TheVariants as held

module _ (c : Child) (x : ℕ) where
  pub disk_mark : c ≡ child.Disk x → 0xFFFE ≡ mark_of (child_means c)
  unfolding child_means mark_of
  disk_mark e = ap (λ (y : Child). mark_of (child_means y)) (sym e)

  pub mem_mark : c ≡ child.Mem x → 0xFFFD ≡ mark_of (child_means c)
  unfolding child_means mark_of
  mem_mark e = ap (λ (y : Child). mark_of (child_means y)) (sym e)

  pub number : (c ≡ child.Disk x) ⊎ (c ≡ child.Mem x) → bytes_of 8 x ≡ value_bytes (child_means c)
  unfolding child_means value_bytes
  number (inl e) = ap (λ (y : Child). value_bytes (child_means y)) (sym e)
  number (inr e) = ap (λ (y : Child). value_bytes (child_means y)) (sym e)

pub new_child : (c : Child) → is_child (child_means c) ≡ true
unfolding child_means is_child
new_child (child.Disk r) = refl
new_child (child.Mem s) = refl

child_eight : (c : Child) → 8 ≡ value_length (child_means c)
unfolding child_means value_length
child_eight (child.Disk r) = refl
child_eight (child.Mem s) = refl

pub child_means_lem : (c : Child) → value_means (held.Child c) ≡ child_means c
unfolding value_means
child_means_lem c = refl

pub child_length : (c : Child) → value_length (value_means (held.Child c)) ≡ 8
unfolding value_means
child_length c = sym (child_eight c)

pub leaf_mark : (x : Bor (List ℕ)) → mark_of (value_means (held.Leaf x)) ≡ length x.now
unfolding value_means mark_of
leaf_mark x = refl

pub leaf_length : (x : Bor (List ℕ)) → value_length (value_means (held.Leaf x)) ≡ length x.now
unfolding value_means value_length
leaf_length x = refl

pub leaf_bytes : (x : Bor (List ℕ)) → value_bytes (value_means (held.Leaf x)) ≡ x.now
unfolding value_means value_bytes
leaf_bytes x = refl

pub ghost_bytes : (l : List ℕ) (at : ℕ) → splice l at (value_bytes (value_means held.Ghost)) ≡ l
unfolding value_means value_bytes
ghost_bytes l at = splice_none l at

-- what the functions of a child and of a value take of these
pub ruleset kid = (disk_mark, mem_mark)

pub ruleset mark = (leaf_mark, child_means_lem)

pub ruleset len = (leaf_length, child_length)

pub ruleset store = (leaf_length, child_length, ghost_bytes, leaf_bytes, child_means_lem)
