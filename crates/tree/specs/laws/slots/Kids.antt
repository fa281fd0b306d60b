-- Laws of the reader of children. Assumes nothing.
use Rattle.std.specs.Prelude.{◌≡◌, refl, List, [], ◌∷◌, ℕ, Option, Some, None, length, get_or}
use Rattle.std.proofs.Common.{sym, ◌∙◌, arith}
use Rattle.std.proofs.lemmas.Option.{none-some, same_Some}
use Rattle.std.proofs.Math.Path.{ap}
use Rattle.node.specs.Entry.{Val, ghost, leaf, disk, mem}
use Rattle.node.specs.Slot.{child_means}
use Rattle.node.specs.declared.val.Child as Child
use Rattle.node.specs.declared.val.Child.TheVariants as child
use Rattle.tree.specs.internal.Kids.{slots_of, kid_means}
use Rattle.node.specs.internal.Children.{child_of}

-- ---- the slot of a child

one_slot : (v : Val) (c : ℕ) → c ∷ [] ≡ slots_of v → v ≡ mem c
unfolding slots_of
one_slot ghost c e = let y : ◌≡◌ {A = ℕ} 1 0 = ap length e in absurd (omega arith)
one_slot (leaf v) c e = let y : ◌≡◌ {A = ℕ} 1 0 = ap length e in absurd (omega arith)
one_slot (disk r) c e = let y : ◌≡◌ {A = ℕ} 1 0 = ap length e in absurd (omega arith)
one_slot (mem x) c e = ap mem (sym (ap (λ (y : List ℕ). get_or y 0 0) e))

pub kid_slot : (kid : Option ℕ) (c : ℕ) (v : Val) → kid_means kid ≡ slots_of v → kid ≡ Some c → v ≡ mem c
unfolding kid_means
kid_slot kid c v e h = one_slot v c (sym (rw h) ∙ e)

no_slot : (v : Val) → None ≡ child_of v → kid_means None ≡ slots_of v
unfolding child_of kid_means slots_of
no_slot ghost e = refl
no_slot (leaf a) e = refl
no_slot (disk r) e = refl
no_slot (mem s) e = absurd (none-some _ e)

slot_is : (c : Child.Child) (v : Val) → Some c ≡ child_of v → v ≡ child_means c
unfolding child_of child_means
slot_is c ghost e = absurd (none-some _ (sym e))
slot_is c (leaf a) e = absurd (none-some _ (sym e))
slot_is c (disk r) e = sym (ap child_means (same_Some _ _ e))
slot_is c (mem s) e = sym (ap child_means (same_Some _ _ e))

module _ (v : Val) (r : Option Child.Child) (er : r ≡ child_of v) where
  pub kid_none : r ≡ None → kid_means None ≡ slots_of v
  kid_none e = no_slot v (sym e ∙ er)

  module _ (c : Child.Child) (ec : r ≡ Some c) (x : ℕ) where
    pub kid_disk : c ≡ child.Disk x → kid_means None ≡ slots_of v
    unfolding child_means slots_of kid_means
    kid_disk e = ap slots_of (sym (slot_is c v (sym ec ∙ er) ∙ ap child_means e))

    pub kid_mem : c ≡ child.Mem x → kid_means (Some x) ≡ slots_of v
    unfolding child_means slots_of kid_means
    kid_mem e = ap slots_of (sym (slot_is c v (sym ec ∙ er) ∙ ap child_means e))
