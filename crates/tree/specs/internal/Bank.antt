-- A bank while a call works on it: what its slots hold, and what writing one slot does.
use Rattle.std.specs.Prelude.{◌≡◌, List, ℕ, ◌+◌, ◌*◌, ◌≤◌, ◌<◌, get_or, Result, IfOk}
use Rattle.node.specs.declared.refusal.Refusal.{Refusal}
use Rattle.node.specs.Slot.{MemNode, head_at, node_of}
use Rattle.tree.specs.Workspace.{slot_bytes}
unfoldable pub use Rattle.tree.specs.Trusts.{live, number_holds, words_hold}
pub use Rattle.tree.specs.Trusts.{Lies, Ready}
use Rattle.tree.specs.declared.editor.Tree.{Tree}

-- a slot's node, as its words and bytes say
unfoldable pub node_in : ℕ → List ℕ → List ℕ → ℕ → MemNode
node_in size heads bytes n = node_of (head_at heads n) (slot_bytes size bytes n)

-- a slot in use that has an entry i
abbrev pub HasEntry : ℕ → List ℕ → ℕ → ℕ → Type 0
HasEntry used heads n i = (n < used) × (i < (live (head_at heads n)).count)

-- an accepted call leaves the workspace ready, of the tree that is in its answer
abbrev pub ReadyBy : {T : Type 0} → (T → Tree) → ℕ → ℕ → List ℕ → List ℕ → Result T Refusal → Type 0
ReadyBy tree size slots heads bytes r = IfOk r (λ x. Ready size slots (tree x).used heads bytes)

-- of a tree alone
abbrev pub ReadyTree : ℕ → ℕ → List ℕ → List ℕ → Result Tree Refusal → Type 0
ReadyTree size slots heads bytes r = ReadyBy (λ t. t) size slots heads bytes r

-- of a tree and what comes with it
abbrev pub ReadyAfter : {T : Type 0} → ℕ → ℕ → List ℕ → List ℕ → Result (Tree × T) Refusal → Type 0
ReadyAfter size slots heads bytes r = ReadyBy (λ x. x.0) size slots heads bytes r

-- slot n, of all slots and shadows, is the node m now; every other is as it was, and so are the marks
pub record Wrote (size : ℕ) (heads bytes heads' bytes' : List ℕ) (n : ℕ) (m : MemNode) : Type 0 where
  pub node : node_in size heads' bytes' n ≡ m
  pub lies : Lies size (live (head_at heads' n)) (slot_bytes size bytes' n)
  pub words : (k : ℕ) → (k ≡ n → ⊥) → head_at heads' k ≡ head_at heads k
  pub parts : (k : ℕ) → (k ≡ n → ⊥) → slot_bytes size bytes' k ≡ slot_bytes size bytes k
  pub after : (j : ℕ) → n * 9 + 9 ≤ j → get_or heads' j 0 ≡ get_or heads j 0

-- slot n is the node m now; every other slot is as it was (shadows and marks may differ)
pub record Put (size slots : ℕ) (heads bytes heads' bytes' : List ℕ) (n : ℕ) (m : MemNode) : Type 0 where
  pub node : node_in size heads' bytes' n ≡ m
  pub lies : Lies size (live (head_at heads' n)) (slot_bytes size bytes' n)
  pub words : (k : ℕ) → k < slots → (k ≡ n → ⊥) → head_at heads' k ≡ head_at heads k
  pub parts : (k : ℕ) → k < slots → (k ≡ n → ⊥) → slot_bytes size bytes' k ≡ slot_bytes size bytes k
