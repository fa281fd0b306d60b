-- Laws of a record that is stored in two steps: its start, and behind it what its value holds. Assumes nothing.
use Rattle.std.specs.Prelude.{◌≡◌, refl, List, ◌++◌, ℕ, ◌+◌, ◌≤◌, length}
use Rattle.std.proofs.Common.{sym, ap, ◌∙◌, arith, append-nil}
use Rattle.std.specs.Borrow.{Bor}
use Rattle.seal.specs.Bytes.{splice, bytes_of}
use Rattle.seal.specs.laws.FieldLaws.{length_bytes_of}
use Rattle.node.specs.Entry.{Val, value_length, value_bytes}
use Rattle.node.specs.Records.{mark_of, record_of}
use Rattle.node.specs.Slot.{child_means, value_means}
use Rattle.node.specs.declared.val.Child.{Child}
use Rattle.node.specs.declared.val.Val.{Val as Stored}
use Rattle.node.specs.declared.val.Val.TheVariants as held
use Rattle.node.specs.laws.slot.Records.{length_value_bytes, head_joined, put_record_of}
use Rattle.node.specs.laws.slot.Stored.{leaf_mark, leaf_length, leaf_bytes, child_length, child_means_lem}

-- the start of a record: its key's length, its mark, its key
abbrev start : List ℕ → ℕ → List ℕ
start k m = bytes_of 2 (length k) ++ bytes_of 2 m ++ k

module _ (l l₁ k : List ℕ) (at : ℕ) where
  -- with its own mark and the bytes behind it, it is the value's record
  put_behind : (l₂ b : List ℕ) (v : Val) (m : ℕ) → at + 4 + length k + length b ≤ length l → l₁ ≡ splice l at (start k m) → m ≡ mark_of v
      → l₂ ≡ splice l₁ (at + 4 + length k) b → b ≡ value_bytes v → l₂ ≡ splice l at (record_of (record { key = k; value = v }))
  put_behind l₂ b v m h e₁ em e₂ eb =
      let a₁ : List ℕ = splice l at (bytes_of 2 (length k)) in
      let a₂ : List ℕ = splice a₁ (at + 2) (bytes_of 2 m) in
      let a₃ : List ℕ = splice a₂ (at + 4) k in
      let s : l₁ ≡ a₃ = e₁ ∙ sym (head_joined l a₁ a₂ a₃ k at m (omega arith) refl refl refl) in
      let n : length b ≡ value_length v = ap length eb ∙ length_value_bytes v in
      put_record_of l a₁ a₂ a₃ l₂ k v at m (omega arith) refl em refl refl (rw (s, eb) at e₂)

  pub ghost_put : l₁ ≡ splice l at (start k 0xFFFF) → l₁ ≡ splice l at (record_of (record { key = k; value = value_means held.Ghost }))
  unfolding value_means record_of mark_of value_bytes
  ghost_put e = rw append-nil e

  pub leaf_put : (l₂ : List ℕ) (b : Bor (List ℕ)) → at + 4 + length k + length b.now ≤ length l → l₁ ≡ splice l at (start k (length b.now))
      → l₂ ≡ splice l₁ (at + 4 + length k) b.now → l₂ ≡ splice l at (record_of (record { key = k; value = value_means (held.Leaf b) }))
  leaf_put l₂ b h e₁ e₂ = put_behind l₂ b.now (value_means (held.Leaf b)) (length b.now) h e₁ (sym (leaf_mark b)) e₂ (sym (leaf_bytes b))

  pub child_put : (l₂ : List ℕ) (v : Stored) (c : Child) (m x : ℕ) → v ≡ held.Child c → at + 4 + length k + 8 ≤ length l
      → l₁ ≡ splice l at (start k m) → m ≡ mark_of (child_means c) → bytes_of 8 x ≡ value_bytes (child_means c)
      → l₂ ≡ splice l₁ (at + 4 + length k) (bytes_of 8 x) → l₂ ≡ splice l at (record_of (record { key = k; value = value_means v }))
  child_put l₂ v c m x e h e₁ em eb e₂ =
      rw e (put_behind l₂ (bytes_of 8 x) (value_means (held.Child c)) m (rw length_bytes_of h) e₁ (em ∙ ap mark_of (sym (child_means_lem c))) e₂
      (eb ∙ ap value_bytes (sym (child_means_lem c))))

-- what `put_value` takes of these
pub ruleset valued = (ghost_put, leaf_put, child_put, leaf_length, child_length)
