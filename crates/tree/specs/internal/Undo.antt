-- Undo: what a call can go back to. A slot that is to be changed is saved first, once a call, in its shadow, and marked.
use Rattle.std.specs.Prelude.{◌≡◌, List, cond, ℕ, ◌+◌, ◌*◌, ◌≤◌, ◌<◌, length, get_or, eqb, Result, Ok, Err}
use Rattle.node.specs.declared.refusal.Refusal.{Refusal}
use Rattle.node.specs.Slot.{MemNode, head_at}
use Rattle.tree.specs.Workspace.{slot_bytes}
use Rattle.tree.specs.Trusts.{Stays}
use Rattle.tree.specs.internal.Bank.{node_in, live, Lies}
use Rattle.tree.specs.declared.editor.Tree.{Tree}
use Rattle.tree.specs.declared.lent.Lent.{Lent}

-- the mark of slot n: 0 where it was not saved
unfoldable pub saved_at : ℕ → List ℕ → ℕ → ℕ
saved_at slots heads n = get_or heads (slots * 18 + n) 0

-- where the node lies that slot n held when the call started
unfoldable pub origin_at : ℕ → List ℕ → ℕ → ℕ
origin_at slots heads n = cond (eqb (saved_at slots heads n) 0) n (slots + n)

unfoldable pub origin_in : ℕ → ℕ → List ℕ → List ℕ → ℕ → MemNode
origin_in size slots heads bytes n = node_in size heads bytes (origin_at slots heads n)

abbrev pub OriginLies : ℕ → ℕ → List ℕ → List ℕ → ℕ → Type 0
OriginLies size slots heads bytes n = Lies size (live (head_at heads (origin_at slots heads n))) (slot_bytes size bytes (origin_at slots heads n))

-- what the first `used` slots can go back to is as it was
pub record Follows (size slots used : ℕ) (heads bytes heads' bytes' : List ℕ) : Type 0 where
  pub node : (k : ℕ) → k < used → origin_in size slots heads' bytes' k ≡ origin_in size slots heads bytes k
  pub lies : (k : ℕ) → k < used → OriginLies size slots heads bytes k → OriginLies size slots heads' bytes' k

-- slot n may be changed now: every slot is as it was, and slot n is marked
pub record Saved (size slots used : ℕ) (heads bytes heads' bytes' : List ℕ) (n : ℕ) : Type 0 where
  pub words : (k : ℕ) → k < slots → head_at heads' k ≡ head_at heads k
  pub parts : (k : ℕ) → k < slots → slot_bytes size bytes' k ≡ slot_bytes size bytes k
  pub mark : saved_at slots heads' n ≡ 0 → ⊥
  pub follows : Follows size slots used heads bytes heads' bytes'

-- what a refused call leaves, before it goes back
pub record Shadowed (size slots used : ℕ) (heads bytes : List ℕ) : Type 0 where
  pub least : 512 ≤ size
  pub most : size ≤ 65536
  pub many : slots ≤ 4096
  pub words : length heads ≡ slots * 19
  pub room : length bytes ≡ (slots + slots) * (4 * size)
  pub within : used ≤ slots
  pub lies : (n : ℕ) → n < used → OriginLies size slots heads bytes n

-- the first i slots are what they were
pub record Back (size slots used i : ℕ) (heads bytes heads' bytes' : List ℕ) : Type 0 where
  pub follows : Follows size slots used heads bytes heads' bytes'
  pub node : (k : ℕ) → k < i → node_in size heads' bytes' k ≡ origin_in size slots heads bytes k
  pub lies : (k : ℕ) → k < i → Lies size (live (head_at heads' k)) (slot_bytes size bytes' k)

-- slot n is what it was, every other slot is as it is
pub record BackAt (size slots used : ℕ) (heads bytes heads' bytes' : List ℕ) (n : ℕ) : Type 0 where
  pub follows : Follows size slots used heads bytes heads' bytes'
  pub node : node_in size heads' bytes' n ≡ origin_in size slots heads bytes n
  pub lies : Lies size (live (head_at heads' n)) (slot_bytes size bytes' n)
  pub words : (k : ℕ) → k < slots → (k ≡ n → ⊥) → head_at heads' k ≡ head_at heads k
  pub parts : (k : ℕ) → k < slots → (k ≡ n → ⊥) → slot_bytes size bytes' k ≡ slot_bytes size bytes k

-- an accepted call leaves the words and bytes h and b, a refused one the tree as it was
abbrev pub Undone : {T : Type 0} → Lent → Tree → List ℕ → List ℕ → List ℕ → List ℕ → List ℕ → List ℕ → Result T Refusal → Type 0
Undone l t heads bytes h b heads' bytes' (Ok x) = (heads' ≡ h) × (bytes' ≡ b)
Undone l t heads bytes h b heads' bytes' (Err x) = Stays l t heads bytes heads' bytes'
