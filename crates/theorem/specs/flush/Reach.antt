-- A slot that stands below a node is a node of the tree itself: its keys rise within bounds, and what stands below it stands below the node.
-- Assumes nothing.
use Rattle.std.specs.Prelude.{◌≡◌, List, [], ◌∷◌, true, leb, eqb}
use Rattle.std.proofs.Math.Path.{refl}
use Rattle.std.proofs.Common.{sym, ap, subst, ◌∙◌, arith, leb-true, leb-false, eqb-true}
use Prim.Native.Nat.{ℕ, zero, suc, ◌+◌, ◌≤◌}
use Rattle.std.proofs.Math.Nat.{le_refl}
use Rattle.std.proofs.lemmas.Bool.{eqb-false}
use Rattle.node.specs.Entry.{Entry, Val, ghost, leaf, disk, mem}
use Rattle.node.specs.Slot.{MemNode}
use Rattle.node.specs.laws.base.Tests.{by_test, never}
use Rattle.theorem.specs.model.Bounds.{Terms, K, Items, nil, cons, Row, value_sized}
use Rattle.theorem.specs.model.Lazy.{node_of, total, totals, names, slots, slots_in, Child, Ok}
use Rattle.theorem.specs.steps.Grow.{names_apart}
use Rattle.theorem.specs.flush.Writes.{naming}

-- a value that names a slot is that slot
mem_is : (c d : ℕ) → 1 ≤ names c (mem d) → mem d ≡ mem c
mem_is c d h = by_test (eqb c d) (λ t. ap mem (sym (eqb-true c d t))) (λ t. absurd (omega (arith, names_apart c d (eqb-false c d t))))

pub named_is : (c : ℕ) (v : Val) → 1 ≤ names c v → v ≡ mem c
unfolding names
named_is c ghost h = absurd (omega arith)
named_is c (leaf b) h = absurd (omega arith)
named_is c (disk r) h = absurd (omega arith)
named_is c (mem d) h = mem_is c d h

-- a leaf's value names none
sized_bare : (τ : Terms) (v : Val) (c : ℕ) → value_sized τ v ≡ true → names c v ≡ 0
unfolding value_sized names
sized_bare τ ghost c h = refl
sized_bare τ (leaf b) c h = refl
sized_bare τ (disk r) c h = refl
sized_bare τ (mem d) c h = never h refl

pub rows_bare : (τ : Terms) (c : ℕ) {lo hi : ℕ} {es : List Entry} → Items (K τ) (Row τ) lo hi es → naming c es ≡ 0
rows_bare τ c (nil e) = refl
rows_bare τ c (cons {e = x} e p r) = let h = sized_bare τ x.value c p.value.sized in let k = rows_bare τ c r in omega arith

module _ (τ : Terms) (rd at : ℕ → MemNode) where
  pub naming_slots : (l c : ℕ) (es : List Entry) → naming c es ≤ slots_in rd at l c es
  naming_slots l c [] = omega arith
  naming_slots l c (e ∷ es) = let h = naming_slots l c es in omega arith

  -- a slot that a node of the tree names stands below it
  pub ok_closed : (l lo hi : ℕ) (m : MemNode) (d : ℕ) → Ok τ rd at l lo hi m → 1 ≤ naming d m.entries → 1 ≤ slots rd at l d m
  unfolding slots
  ok_closed zero lo hi m d h p = absurd (omega (arith, rows_bare τ d h.items))
  ok_closed (suc l) lo hi m d h p = omega (arith, naming_slots l d m.entries)

  pub record Reached (x : ℕ) (S : ℕ → ℕ) (T : (MemNode → ℕ) → ℕ) : Type 0 where
    pub level : ℕ
    pub lo : ℕ
    pub hi : ℕ
    pub ok : Ok τ rd at level lo hi (at x)
    pub slots_less : (d : ℕ) → slots rd at level d (at x) ≤ S d
    pub sums_less : (f : MemNode → ℕ) → total rd at f level (at x) ≤ T f

  reached_more : (x : ℕ) (S S' : ℕ → ℕ) (T T' : (MemNode → ℕ) → ℕ) → ((d : ℕ) → S d ≤ S' d) → ((f : MemNode → ℕ) → T f ≤ T' f) → Reached x S T
      → Reached x S' T'
  reached_more x S S' T T' a b r =
      record {
        level = r.level;
        lo = r.lo;
        hi = r.hi;
        ok = r.ok;
        slots_less = λ d. omega (arith, r.slots_less d, a d);
        sums_less =
            λ f. omega (arith, r.sums_less f, b f);
      }

  abbrev Reaches : ℕ → Type 0
  Reaches l = (lo hi : ℕ) (m : MemNode) (x : ℕ) → Ok τ rd at l lo hi m → 1 ≤ slots rd at l x m
      → Reached x (λ d. slots rd at l d m) (λ f. total rd at f l m)

  node_mem : (c : ℕ) → node_of rd at (mem c) ≡ at c
  unfolding node_of
  node_mem c = refl

  reach_in : (l : ℕ) → Reaches l → (x : ℕ) {lo hi : ℕ} {es : List Entry} → Items (K τ) (Child τ (Ok τ rd at l) (node_of rd at)) lo hi es
      → 1 ≤ slots_in rd at l x es
      → Reached x (λ d. slots_in rd at l d es) (λ f. totals rd at f l es)
  reach_in l ih x (nil z) p = absurd (omega arith)
  reach_in l ih x (cons {m = m} {e = e} {es = es} z k r) p =
      by_test (leb 1 (names x e.value))
      (λ t.
      let q : node_of rd at e.value ≡ at x = ap (node_of rd at) (named_is x e.value (leb-true 1 _ t)) ∙ node_mem x in
      record {
        level = l;
        lo = K τ e.key;
        hi = m;
        ok = subst (Ok τ rd at l (K τ e.key) m) q k.ok;
        slots_less = λ d. let h : slots rd at l d (node_of rd at e.value) ≡ slots rd at l d (at x) = ap (slots rd at l d) q in omega arith;
        sums_less = λ f. let h : total rd at f l (node_of rd at e.value) ≡ total rd at f l (at x) = ap (total rd at f l) q in omega arith;
      })
      (λ t.
      let none = leb-false 1 (names x e.value) t in
      by_test (leb 1 (slots rd at l x (node_of rd at e.value)))
      (λ u. reached_more x (λ d. slots rd at l d (node_of rd at e.value)) (λ d. slots_in rd at l d (e ∷ es))
      (λ f. total rd at f l (node_of rd at e.value)) (λ f. totals rd at f l (e ∷ es))
      (λ d. omega arith) (λ f. omega arith) (ih (K τ e.key) m (node_of rd at e.value) x k.ok (leb-true 1 _ u)))
      (λ u. let less = leb-false 1 (slots rd at l x (node_of rd at e.value)) u in
      reached_more x (λ d. slots_in rd at l d es) (λ d. slots_in rd at l d (e ∷ es)) (λ f. totals rd at f l es) (λ f. totals rd at f l (e ∷ es))
      (λ d. omega arith) (λ f. omega arith) (reach_in l ih x r (omega arith))))

  pub reach : (l : ℕ) → Reaches l
  unfolding slots total
  reach zero lo hi m x h p = absurd (omega arith)
  reach (suc l) lo hi m x h p =
      reached_more x (λ d. slots_in rd at l d m.entries) (λ d. slots_in rd at l d m.entries) (λ f. totals rd at f l m.entries)
      (λ f. f m + totals rd at f l m.entries)
      (λ d. le_refl _) (λ f. omega arith) (reach_in l (reach l) x h.items p)

  -- what slot x names stands below whatever x stands below
  pub reach_closed : (l lo hi : ℕ) (m : MemNode) (x d : ℕ) → Ok τ rd at l lo hi m → 1 ≤ slots rd at l x m → 1 ≤ naming d (at x).entries
      → 1 ≤ slots rd at l d m
  reach_closed l lo hi m x d h p q =
      let r = reach l lo hi m x h p in
      omega (arith, r.slots_less d, ok_closed r.level r.lo r.hi (at x) d r.ok q)
