-- Loads, wherever in the tree: no node that a value stands for changes, so each slot's tree has the same entries, bounds and sums. Assumes nothing.
use Rattle.std.specs.Prelude.{◌≡◌, refl, true, false, ℕ, suc, ◌≤◌, ◌<◌, length, get_or, ltb}
use Rattle.std.proofs.Common.{ap, ap₂, ◌∙◌, le_refl, le_trans, ltb-true, ltb-false}
use mathlib.Core.List.{List, [], ◌∷◌, ◌++◌}
use Rattle.std.proofs.Math.ListN.{get_or-eq_default}
use Rattle.node.specs.Entry.{Entry, Val, mem}
use Rattle.node.specs.Find.{val_at}
use Rattle.node.specs.Slot.{MemNode, is_child}
use Rattle.node.specs.laws.base.Tests.{by_test, never}
use Rattle.tree.specs.State.{State, no_node, node_at, with_entries}
use Rattle.theorem.specs.model.Bounds.{Terms, K, Items, cons}
use Rattle.theorem.specs.model.Lazy.{node_of, cont, total, conts, Child, Ok}
use Rattle.theorem.specs.steps.Way.{Still, still_then, still_refl}

-- a sum that does not look at entries
abbrev pub Blind : (MemNode → ℕ) → Type 0
Blind f = (m : MemNode) (es : List Entry) → f (with_entries m es) ≡ f m

-- a slot that is not dead is in use
pub live_used : (s : State) (c : ℕ) → (node_at s c).dead ≡ false → c < length s.nodes
unfolding node_at no_node
live_used s c h =
    by_test (ltb c (length s.nodes))
    (λ t. ltb-true c (length s.nodes) t)
    (λ t.
    let q : get_or s.nodes c no_node ≡ no_node = get_or-eq_default s.nodes no_node (ltb-false c (length s.nodes) t) in
    never (ap (λ (z : MemNode). z.dead) q) h)

module _ (τ : Terms) (rd : ℕ → MemNode) where
  -- ---- what stays: of a node, of a value, of a list of entries

  pub record Means (at at' : ℕ → MemNode) (l lo hi : ℕ) (m m' : MemNode) : Type 0 where
    pub ok : Ok τ rd at' l lo hi m'
    pub holds : cont rd at' l m' ≡ cont rd at l m
    pub sums : (f : MemNode → ℕ) → Blind f → total rd at' f l m' ≡ total rd at f l m

  pub record Sees (at at' : ℕ → MemNode) (v v' : Val) : Type 0 where
    pub same : is_child v ≡ false → v' ≡ v
    pub child : is_child v ≡ true → is_child v' ≡ true
    pub means : (l lo hi : ℕ) → Ok τ rd at l lo hi (node_of rd at v) → Means at at' l lo hi (node_of rd at v) (node_of rd at' v')

  -- the same keys, and values that stand for the same
  abbrev pub Rows : (ℕ → MemNode) → (ℕ → MemNode) → List Entry → List Entry → Type 0
  Rows at at' [] [] = Unit {0}
  Rows at at' [] (d ∷ ds) = ⊥
  Rows at at' (e ∷ es) [] = ⊥
  Rows at at' (e ∷ es) (d ∷ ds) = (d.key ≡ e.key) × Sees at at' e.value d.value × Rows at at' es ds

  pub record Loads (s u : State) : Type 0 where
    pub longer : length s.nodes ≤ length u.nodes
    pub still : Still s u
    pub level : (c : ℕ) → c < length s.nodes → (node_at u c).level ≡ (node_at s c).level
    pub values : (v : Val) → Sees (node_at s) (node_at u) v v
    pub rows : (c : ℕ) → c < length s.nodes → Rows (node_at s) (node_at u) (node_at s c).entries (node_at u c).entries

  -- ---- nothing loaded; one load after another

  pub sees_refl : (at : ℕ → MemNode) (v : Val) → Sees at at v v
  sees_refl at v = record { same = λ h. refl; child = λ h. h; means = λ l lo hi h. record { ok = h; holds = refl; sums = λ f b. refl } }

  rows_refl : (at : ℕ → MemNode) (es : List Entry) → Rows at at es es
  rows_refl at [] = tt
  rows_refl at (e ∷ es) = (refl, sees_refl at e.value, rows_refl at es)

  pub loads_refl : (s : State) → Loads s s
  loads_refl s = record {
    longer = le_refl _;
    still = still_refl s;
    level = λ c h. refl;
    values = λ v. sees_refl (node_at s) v;
    rows = λ c h. rows_refl (node_at s) (node_at s c).entries;
  }

  module _ (at at' at'' : ℕ → MemNode) where
    sees_then : (v v' v'' : Val) → Sees at at' v v' → Sees at' at'' v' v'' → Sees at at'' v v''
    sees_then v v' v'' a b =
        record {
          same = λ h. b.same (ap is_child (a.same h) ∙ h) ∙ a.same h;
          child = λ h. b.child (a.child h);
          means = λ l lo hi h.
              let x = a.means l lo hi h in
              let y = b.means l lo hi x.ok in
              record { ok = y.ok; holds = y.holds ∙ x.holds; sums = λ f p. y.sums f p ∙ x.sums f p };
        }

    rows_then : (es ds cs : List Entry) → Rows at at' es ds → Rows at' at'' ds cs → Rows at at'' es cs
    rows_then [] [] [] a b = tt
    rows_then [] [] (c ∷ cs) a b = absurd b
    rows_then [] (d ∷ ds) cs a b = absurd a
    rows_then (e ∷ es) [] cs a b = absurd a
    rows_then (e ∷ es) (d ∷ ds) [] a b = absurd b
    rows_then (e ∷ es) (d ∷ ds) (c ∷ cs) a b =
        (b.0 ∙ a.0, sees_then e.value d.value c.value a.1 b.1, rows_then es ds cs a.2 b.2)

  pub loads_then : (s u w : State) → Loads s u → Loads u w → Loads s w
  loads_then s u w a b =
      record {
        longer = le_trans a.longer b.longer;
        still = still_then s u w a.still b.still;
        level = λ c h. b.level c (le_trans h a.longer) ∙ a.level c h;
        values = λ v. sees_then (node_at s) (node_at u) (node_at w) v v v (a.values v) (b.values v);
        rows = λ c h. rows_then (node_at s) (node_at u) (node_at w) (node_at s c).entries (node_at u c).entries (node_at w c).entries (a.rows c h)
            (b.rows c (le_trans h a.longer));
      }

  pub loads_slot : (s u : State) → Loads s u → (c l lo hi : ℕ) → Ok τ rd (node_at s) l lo hi (node_at s c)
      → Means (node_at s) (node_at u) l lo hi (node_at s c) (node_at u c)
  loads_slot s u h c l lo hi p = unfold node_of in ((h.values (mem c)).means l lo hi p)

  -- ---- rows taken apart, and what they hold

  module _ (at at' : ℕ → MemNode) where
    pub record Apart (xs ys zs : List Entry) : Type 0 where
      pub front : List Entry
      pub back : List Entry
      pub row : zs ≡ front ++ back
      pub long : length front ≡ length xs
      pub before : Rows at at' xs front
      pub after : Rows at at' ys back

    pub rows_apart : (xs ys zs : List Entry) → Rows at at' (xs ++ ys) zs → Apart xs ys zs
    rows_apart [] ys zs h = record { front = []; back = zs; row = refl; long = refl; before = tt; after = h }
    rows_apart (x ∷ xs) ys [] h = absurd h
    rows_apart (x ∷ xs) ys (z ∷ zs) h =
        let a = rows_apart xs ys zs h.2 in
        record {
          front = z ∷ a.front;
          back = a.back;
          row = ap (λ (l : List Entry). z ∷ l) a.row;
          long = ap suc a.long;
          before = (h.0, h.1, a.before);
          after = a.after;
        }

    pub rows_at : (xs : List Entry) (e : Entry) (ys zs : List Entry) → Rows at at' (xs ++ e ∷ ys) zs → Sees at at' e.value (val_at zs (length xs))
    unfolding val_at
    rows_at [] e ys [] h = absurd h
    rows_at [] e ys (z ∷ zs) h = h.1
    rows_at (x ∷ xs) e ys [] h = absurd h
    rows_at (x ∷ xs) e ys (z ∷ zs) h = rows_at xs e ys zs h.2

    pub rows_length : (es ds : List Entry) → Rows at at' es ds → length ds ≡ length es
    rows_length [] [] h = refl
    rows_length [] (d ∷ ds) h = absurd h
    rows_length (e ∷ es) [] h = absurd h
    rows_length (e ∷ es) (d ∷ ds) h = ap suc (rows_length es ds h.2)

    pub rows_holds : (l : ℕ) {lo hi : ℕ} (es ds : List Entry) → Items (K τ) (Child τ (Ok τ rd at l) (node_of rd at)) lo hi es → Rows at at' es ds
        → conts rd at' l ds ≡ conts rd at l es
    rows_holds l [] [] k h = refl
    rows_holds l [] (d ∷ ds) k h = absurd h
    rows_holds l (e ∷ es) [] k h = absurd h
    rows_holds l (e ∷ es) (d ∷ ds) (cons {m = m} z p r) h = ap₂ ◌++◌ (h.1.means l (K τ e.key) m p.ok).holds (rows_holds l es ds r h.2)
