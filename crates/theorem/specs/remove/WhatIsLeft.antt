-- What is left of a way after drops: down to the lowest node that is left; what is below is dead and empty. Assumes nothing.
use Rattle.std.specs.Prelude.{◌≡◌, refl, List, [], ◌∷◌, ◌++◌, true, ℕ, zero, suc, ◌+◌, length}
use Rattle.std.proofs.Common.{sym, ap, ◌∙◌, arith, length-append}
use Rattle.node.specs.Entry.{Entry, mem}
use Rattle.node.specs.Slot.{MemNode}
use Rattle.tree.specs.State.{State, node_at}
use Rattle.tree.specs.Lookup.{Step}
use Rattle.theorem.specs.model.Lazy.{cont, total, slots, conts, totals, slots_in}

-- ---- a node without entries stands for nothing, at any level

pub empty_holds : (rd at : ℕ → MemNode) (l : ℕ) (m : MemNode) → m.entries ≡ [] → cont rd at l m ≡ []
unfolding cont
empty_holds rd at zero m h = h
empty_holds rd at (suc l) m h = ap (conts rd at l) h

pub empty_uses : (rd at : ℕ → MemNode) (l d : ℕ) (m : MemNode) → m.entries ≡ [] → slots rd at l d m ≡ 0
unfolding slots
empty_uses rd at zero d m h = refl
empty_uses rd at (suc l) d m h = ap (slots_in rd at l d) h

pub empty_sums : (rd at : ℕ → MemNode) (f : MemNode → ℕ) (l : ℕ) (m : MemNode) → m.entries ≡ [] → total rd at f l m ≡ f m
unfolding total
empty_sums rd at f zero m h = refl
empty_sums rd at f (suc l) m h = ap (λ (z : List Entry). f m + totals rd at f l z) h ∙ omega arith

-- ---- the way after: down to the lowest node that is left; what is below is dead and empty

abbrev pub Off : State → List Step → Type 0
Off s [] = Unit {0}
Off s (x ∷ ps) = ((node_at s x.slot).dead ≡ true) × ((node_at s x.slot).entries ≡ []) × Off s ps

pub data Stub (s : State) : ℕ → ℕ → List Step → Type 0 where
  tip : {l n i : ℕ} {ps : List Step} → Off s ps → Stub s l n (record { slot = n; child = i } ∷ ps)
  on : {l n c : ℕ} (xs : List Entry) (e : Entry) (ys : List Entry) {f : Entry} {fs : List Entry} {ps : List Step}
      → (node_at s n).entries ≡ xs ++ e ∷ ys → e.value ≡ mem c → (node_at s c).entries ≡ f ∷ fs → Stub s l c ps
      → Stub s (suc l) n (record { slot = n; child = length xs } ∷ ps)

-- slots that are dead and empty stay so
pub off_frame : (u w : State) (ps : List Step)
    → ((d : ℕ) → (node_at u d).dead ≡ true → (node_at u d).entries ≡ [] → ((node_at w d).dead ≡ true) × ((node_at w d).entries ≡ [])) → Off u ps
    → Off w ps
off_frame u w [] f h = tt
off_frame u w (x ∷ ps) f h = let g = f x.slot h.0 h.1 in (g.0, g.1, off_frame u w ps f h.2)

pub no_row : {C : Type 0} (xs : List Entry) (e : Entry) (ys : List Entry) → [] ≡ xs ++ e ∷ ys → C
no_row xs e ys q = let z : ◌≡◌ {A = ℕ} 0 (length xs + suc (length ys)) = ap length q ∙ length-append xs (e ∷ ys) in absurd (omega arith)

-- an emptied node is the lowest: marked dead, its whole way is off
pub stub_off : (u w : State) (l c : ℕ) (ps : List Step) → Stub u l c ps → (node_at u c).entries ≡ []
    → ((d : ℕ) → (node_at u d).dead ≡ true → (node_at u d).entries ≡ [] → ((node_at w d).dead ≡ true) × ((node_at w d).entries ≡ []))
    → (node_at w c).dead ≡ true → (node_at w c).entries ≡ [] → Off w ps
stub_off u w l c _ (tip {ps = ps} o) h f a b = (a, b, off_frame u w ps f o)
stub_off u w _ _ _ (on xs e ys row val some st) h f a b = no_row xs e ys (sym h ∙ row)
