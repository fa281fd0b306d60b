-- Dirty marks change nothing that the tree stands for. Assumes nothing.
use Rattle.std.specs.Prelude.{◌≡◌, refl, List, [], ◌∷◌, ◌++◌, Bool, true, false, cond, ltb, eqb}
use Rattle.std.proofs.Math.Path.{ap, ap₂}
use Rattle.std.proofs.Common.{◌∙◌, ltb-true, ltb-false, eqb-true}
use Prim.Native.Nat.{ℕ, zero, suc, ◌+◌, ◌≤◌}
use Rattle.std.proofs.Math.ListN.{length}
use Rattle.std.proofs.Math.Seq.{set_out}
use Rattle.std.proofs.lemmas.Bool.{eqb-false}
use Rattle.node.specs.Entry.{Entry, Val, ghost, leaf, disk, mem}
use Rattle.node.specs.Slot.{MemNode}
use Rattle.node.specs.laws.base.Tests.{by_test}
use Rattle.tree.specs.State.{State, node_at, put_node, with_nodes, changed, marked_dirty}
use Rattle.tree.specs.laws.state.State.{at_put_same, at_put_other, put_count}
use Rattle.tree.specs.Lookup.{Step, leaf_of}
use Rattle.tree.specs.Edit.{mark_way, mark_dirty, touch}
use Rattle.theorem.specs.model.Bounds.{Terms, K, Items, nil, cons}
use Rattle.theorem.specs.model.Lazy.{node_of, cont, total, names, slots, conts, totals, slots_in, Child, Ok}
use Rattle.theorem.specs.steps.Grow.{Steady}

-- the same but for the dirty mark
pub record Alike (m m' : MemNode) : Type 0 where
  pub level : m'.level ≡ m.level
  pub entries : m'.entries ≡ m.entries
  pub dead : m'.dead ≡ m.dead
  pub block : m'.block ≡ m.block
  pub id : m'.id ≡ m.id

pub alike_refl : (m : MemNode) → Alike m m
alike_refl m = record { level = refl; entries = refl; dead = refl; block = refl; id = refl }

module _ (τ : Terms) (rd at at' : ℕ → MemNode) (alike : (c : ℕ) → Alike (at c) (at' c)) where
  pub record Means (l : ℕ) (m m' : MemNode) : Type 0 where
    pub holds : cont rd at' l m' ≡ cont rd at l m
    pub uses : (c : ℕ) → slots rd at' l c m' ≡ slots rd at l c m
    pub sums : (f : MemNode → ℕ) → Steady f → total rd at' f l m' ≡ total rd at f l m
    pub ok : (lo hi : ℕ) → Ok τ rd at l lo hi m → Ok τ rd at' l lo hi m'

  record Meanses (l : ℕ) (es : List Entry) : Type 0 where
    holds : conts rd at' l es ≡ conts rd at l es
    uses : (c : ℕ) → slots_in rd at' l c es ≡ slots_in rd at l c es
    sums : (f : MemNode → ℕ) → Steady f → totals rd at' f l es ≡ totals rd at f l es
    ok : (lo hi : ℕ) → Items (K τ) (Child τ (Ok τ rd at l) (node_of rd at)) lo hi es → Items (K τ) (Child τ (Ok τ rd at' l) (node_of rd at')) lo hi es

  node_alike : (v : Val) → Alike (node_of rd at v) (node_of rd at' v)
  unfolding node_of
  node_alike ghost = alike_refl _
  node_alike (leaf b) = alike_refl _
  node_alike (disk r) = alike_refl _
  node_alike (mem c) = alike c

  ok_each : (l : ℕ) (e : Entry) (es : List Entry) → Means l (node_of rd at e.value) (node_of rd at' e.value) → Meanses l es → (lo hi : ℕ)
      → Items (K τ) (Child τ (Ok τ rd at l) (node_of rd at)) lo hi (e ∷ es) → Items (K τ) (Child τ (Ok τ rd at' l) (node_of rd at')) lo hi (e ∷ es)
  ok_each l e es h k lo hi (cons {m = m} z p r) =
      cons {e = e} z (record { key = p.key; below = p.below; is_one = p.is_one; ok = h.ok (K τ e.key) m p.ok }) (k.ok m hi r)

  all : (l : ℕ) → ((m m' : MemNode) → Alike m m' → Means l m m') → (es : List Entry) → Meanses l es
  all l ih [] = record { holds = refl; uses = λ c. refl; sums = λ f h. refl; ok = λ lo hi r. none r }
    where
      none : {lo hi : ℕ} → Items (K τ) (Child τ (Ok τ rd at l) (node_of rd at)) lo hi []
          → Items (K τ) (Child τ (Ok τ rd at' l) (node_of rd at')) lo hi []
      none (nil e) = nil e
  all l ih (e ∷ es) =
      let h = ih (node_of rd at e.value) (node_of rd at' e.value) (node_alike e.value) in
      let k = all l ih es in
      record {
        holds = ap₂ ◌++◌ h.holds k.holds;
        uses = λ c. ap₂ (λ (a b : ℕ). names c e.value + a + b) (h.uses c) (k.uses c);
        sums = λ f g. ap₂ ◌+◌ (h.sums f g) (k.sums f g);
        ok = ok_each l e es h k;
      }

  pub means : (l : ℕ) (m m' : MemNode) → Alike m m' → Means l m m'
  unfolding cont slots total
  means zero m m' a =
      record {
        holds = a.entries;
        uses = λ c. refl;
        sums = λ f g. g.same m' m a.block a.id;
        ok = λ lo hi h. record { level = a.level ∙ h.level; live = a.dead ∙ h.live; items = rw a.entries h.items };
      }
  means (suc l) m m' a =
      let k = all l (means l) m.entries in
      record {
        holds = ap (conts rd at' l) a.entries ∙ k.holds;
        uses = λ c. ap (slots_in rd at' l c) a.entries ∙ k.uses c;
        sums = λ f g. ap₂ ◌+◌ (g.same m' m a.block a.id) (ap (totals rd at' f l) a.entries ∙ k.sums f g);
        ok = λ lo hi h. record { level = a.level ∙ h.level; live = a.dead ∙ h.live; items = rw a.entries (k.ok lo hi h.items) };
      }

-- ---- marks

pub record Marked (s t : State) : Type 0 where
  pub alike : (c : ℕ) → Alike (node_at s c) (node_at t c)
  pub count : length t.nodes ≡ length s.nodes
  pub root : t.root ≡ s.root
  pub info : t.info ≡ s.info
  pub order : t.order ≡ s.order

mark_one : (s : State) (n : ℕ) → Marked s (put_node s n (marked_dirty (node_at s n)))
unfolding marked_dirty changed
mark_one s n =
    let m : MemNode = marked_dirty (node_at s n) in
    record {
      alike = λ c. by_test (eqb c n)
          (λ t. let z : c ≡ n = eqb-true c n t in
          by_test (ltb n (length s.nodes))
          (λ u. rw (z, at_put_same s n m (ltb-true n (length s.nodes) u))
          (record { level = refl; entries = refl; dead = refl; block = refl; id = refl }))
          (λ u. rw (out n m c (ltb-false n (length s.nodes) u)) (alike_refl _)))
          (λ t. rw (at_put_other s n m c (eqb-false c n t)) (alike_refl _));
      count = put_count s n m;
      root = unfold put_node with_nodes in refl;
      info = unfold put_node with_nodes in refl;
      order = unfold put_node with_nodes in refl;
    }
  where
    out : (n : ℕ) (m : MemNode) (c : ℕ) → length s.nodes ≤ n → node_at (put_node s n m) c ≡ node_at s c
    out n m c h = unfold node_at put_node with_nodes in (rw (set_out s.nodes n m h))

alike_then : (a b c : MemNode) → Alike a b → Alike b c → Alike a c
alike_then a b c h k = record {
  level = k.level ∙ h.level;
  entries = k.entries ∙ h.entries;
  dead = k.dead ∙ h.dead;
  block = k.block
      ∙ h.block;
  id = k.id ∙ h.id;
}

marked_then : (s t u : State) → Marked s t → Marked t u → Marked s u
marked_then s t u h k =
    record {
      alike = λ c. alike_then (node_at s c) (node_at t c) (node_at u c) (h.alike c) (k.alike c);
      count = k.count ∙ h.count;
      root = k.root
          ∙ h.root;
      info = k.info ∙ h.info;
      order = k.order ∙ h.order;
    }

mark_way_lem : (p : List Step) (s : State) → Marked s (mark_way p s)
unfolding mark_way
mark_way_lem [] s = record { alike = λ c. alike_refl _; count = refl; root = refl; info = refl; order = refl }
mark_way_lem (x ∷ xs) s = marked_then s _ _ (mark_one s x.slot) (mark_way_lem xs (put_node s x.slot (marked_dirty (node_at s x.slot))))

pick : {A : Type 0} (P : A → Type 0) (t : Bool) (x y : A) → P x → P y → P (cond t x y)
pick P true x y h k = h
pick P false x y h k = k

pub touched : (p : List Step) (s : State) → Marked s (touch p s)
unfolding touch mark_dirty
touched p s =
    pick (Marked s) s.virtual (mark_dirty (mark_dirty s s.root) (leaf_of p)) (mark_way p s)
    (marked_then s _ _ (mark_one s s.root) (mark_one (put_node s s.root (marked_dirty (node_at s s.root))) (leaf_of p)))
    (mark_way_lem p s)
