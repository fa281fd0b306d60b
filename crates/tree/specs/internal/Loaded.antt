-- A key's way where every child on it is loaded.
use Rattle.std.specs.Prelude.{◌≡◌, List, true, ℕ, zero, suc, ◌<◌, drop, Option, Some, Ok}
use Rattle.node.specs.Order.{keyed}
use Rattle.node.specs.Entry.{Entry, mem}
use Rattle.node.specs.Find.{key_at, val_at, way_index}
use Rattle.node.specs.Records.{entry_of}
use Rattle.node.specs.declared.record.Record.{Record}
use Rattle.tree.specs.Lent.{Lent}
use Rattle.tree.specs.State.{State, node_at}
use Rattle.tree.specs.Load.{Bounds, unbounded}
use Rattle.tree.specs.Lookup.{Step, way_from}
use Rattle.tree.specs.Workspace.{state_of}
use Rattle.tree.specs.internal.Way.{onto, way_of}
use Rattle.tree.specs.declared.editor.Tree.{Tree}
use Rattle.tree.specs.declared.loaded.Taken.{Taken}
use Rattle.tree.specs.declared.way.Way.{Way}

-- the entry that a key goes on by, if its child is loaded: its index, and the child's slot
pub record TakenOf (o : ℕ) (k : List ℕ) (es : List Entry) (r : Option Taken) : Type 0 where
  pub index : (t : Taken) → r ≡ Some t → t.index ≡ way_index o k es
  pub child : (t : Taken) → r ≡ Some t → val_at es (way_index o k es) ≡ mem t.slot

-- the same with its record, whose key is the entry's
pub record TakenBy (o : ℕ) (k : List ℕ) (es : List Entry) (r : Option (Record × Taken)) : Type 0 where
  pub index : (x : Record × Taken) → r ≡ Some x → x.1.index ≡ way_index o k es
  pub child : (x : Record × Taken) → r ≡ Some x → val_at es (way_index o k es) ≡ mem x.1.slot
  pub key : (x : Record × Taken) → r ≡ Some x → (entry_of (drop x.0.at x.0.slot.now)).key ≡ key_at es (way_index o k es)

-- the child of slot n that a key goes on by is loaded, and P holds of its slot
pub record OnBy (s : State) (k : List ℕ) (n : ℕ) (P : ℕ → Type 0) : Type 0 where
  pub slot : ℕ
  pub child : val_at (node_at s n).entries (way_index s.order k (node_at s n).entries) ≡ mem slot
  pub below : P slot

-- a key's way, d levels down from a slot, ends in slot m, and every child on it is loaded
abbrev pub LeadsTo : ℕ → State → List ℕ → ℕ → ℕ → Type 0
LeadsTo zero s k m n = n ≡ m
LeadsTo (suc d) s k m n = OnBy s k n (LeadsTo d s k m)

-- a step from slot n that P holds of, and Q holds of the slot that it leads to
pub record LedBy (P : ℕ → Taken → Type 0) (n : ℕ) (Q : ℕ → Type 0) : Type 0 where
  pub taken : Taken
  pub on : P n taken
  pub below : Q taken.slot

-- so many steps, each of which P holds of, lead from slot n to slot m
abbrev pub LedTo : (ℕ → Taken → Type 0) → ℕ → ℕ → ℕ → Type 0
LedTo P zero m n = n ≡ m
LedTo P (suc d) m n = LedBy P n (LedTo P d m)

-- a way that is d levels above its end: what slot n leads to, the root does
pub record Leading (P : ℕ → Taken → Type 0) (level root d n : ℕ) : Type 0 where
  pub on : (m : ℕ) → LedTo P d m n → LedTo P level m root

-- a slot, if there is one, is in use, the way from the root ends in it, and the key is one of the tree's order
pub record LedLeaf (P : ℕ → Taken → Type 0) (used : ℕ) (s : State) (k : List ℕ) (r : Option ℕ) : Type 0 where
  pub within : (m : ℕ) → r ≡ Some m → m < used
  pub keys : (m : ℕ) → r ≡ Some m → keyed s.order k ≡ true
  pub leads : (m : ℕ) → r ≡ Some m → LedTo P (node_at s s.root).level m s.root

-- the same of a way whose children are loaded
pub record LeafIs (used : ℕ) (s : State) (k : List ℕ) (r : Option ℕ) : Type 0 where
  pub within : (m : ℕ) → r ≡ Some m → m < used
  pub keys : (m : ℕ) → r ≡ Some m → keyed s.order k ≡ true
  pub leads : (m : ℕ) → r ≡ Some m → LeadsTo (node_at s s.root).level s k m s.root

-- whatever is lent, these steps and the way from slot n are the whole
pub record Onward (s : State) (level : ℕ) (k : List ℕ) (xs : List Step) (d n : ℕ) : Type 0 where
  pub bounds : Bounds
  pub whole : (l : Lent) → onto xs (way_from d l s bounds n k) ≡ way_from level l s unbounded s.root k

-- a way, if there is one, is the way, whatever is lent; its tree is the tree that it began with
pub record Walked (size : ℕ) (t : Tree) (heads bytes : List ℕ) (level : ℕ) (k : List ℕ) (r : Option Way) : Type 0 where
  pub same : (w : Way) → r ≡ Some w → w.tree ≡ t
  pub arrives : (w : Way) → r ≡ Some w → (l : Lent)
      → way_of size heads bytes (Ok w) ≡ way_from level l (state_of size t heads bytes) unbounded t.root k
