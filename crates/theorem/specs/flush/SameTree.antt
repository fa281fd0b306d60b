-- Two trees whose nodes agree in level and keys, children in slots against children on disk by their numbers, hold the same. Assumes nothing.
use Rattle.std.specs.Prelude.{◌≡◌, true, false}
use Rattle.std.proofs.Math.Path.{refl, sym, ap, ap₂}
use Rattle.std.proofs.Common.{subst, ◌∙◌, arith}
use mathlib.Core.List.{List, [], ◌∷◌, ◌++◌, map}
use Prim.Native.Nat.{ℕ, zero, suc, ◌+◌, ◌≤◌}
use Rattle.node.specs.Entry.{Entry, Val, ghost, leaf, disk, mem}
use Rattle.node.specs.Pack.{numbered, numbered_value}
use Rattle.node.specs.Slot.{MemNode, is_child}
use Rattle.node.specs.laws.base.Tests.{never}
use Rattle.tree.specs.laws.state.State.{by_val}
use Rattle.theorem.specs.model.Bounds.{Terms, K, Items, nil, cons}
use Rattle.theorem.specs.model.Lazy.{node_of, cont, total, names, slots, conts, totals, slots_in, names_same, Child, Ok, ok_live}
use Rattle.theorem.specs.flush.Writes.{naming}
use Rattle.theorem.specs.flush.SlotSums.{off_of, off, offs, off_none, off_child}
use Rattle.theorem.specs.flush.Reach.{rows_bare, naming_slots}

-- entries that name no slot are packed as they are
pub numbered_id : (f : ℕ → ℕ) (es : List Entry) → ((c : ℕ) → naming c es ≡ 0) → map (numbered f) es ≡ es
unfolding numbered numbered_value
numbered_id f [] h = refl
numbered_id f (e ∷ es) h =
    ap₂ (λ (v : Val) (r : List Entry). record { key = e.key; value = v } ∷ r)
    (by_val e.value
    (λ q. rw q)
    (λ b q. rw q)
    (λ r q. rw q)
    (λ c q. let z : names c e.value ≡ 1 = ap (names c) q ∙ names_same c in absurd (omega (arith, h c))))
    (numbered_id f es (λ c. omega (arith, h c)))

-- a sum that goes by blocks alone
pub record Blocky (f : MemNode → ℕ) : Type 0 where
  pub same : (m m' : MemNode) → m.block ≡ m'.block → f m ≡ f m'

-- rd, at: the tree in its slots; at₂: the same slots at their new blocks; rd': the tree on disk. num: the numbers of slots.
-- S, D: slots and references that stand in the tree
module _ (τ : Terms) (rd at at₂ rd' at' : ℕ → MemNode) (num : ℕ → ℕ) (S D : ℕ → Type 0)
    (bare : (at : ℕ → MemNode) (r j d : ℕ) → slots rd at j d (rd r) ≡ 0) where
  pub record Like (m m₂ m' : MemNode) : Type 0 where
    pub level : m'.level ≡ m.level
    pub live : m'.dead ≡ false
    pub entries : m'.entries ≡ map (numbered num) m.entries
    pub second : m₂.entries ≡ m.entries
    pub block : m'.block ≡ m₂.block

  pub record Sim (l lo hi : ℕ) (m m₂ m' : MemNode) : Type 0 where
    pub holds : cont rd' at' l m' ≡ cont rd at l m
    pub ok : Ok τ rd' at' l lo hi m'
    pub sums : (f : MemNode → ℕ) → Blocky f → total rd' at' f l m' ≡ total rd at₂ f l m₂

  pub record Sims (l lo hi : ℕ) (es : List Entry) : Type 0 where
    pub holds : conts rd' at' l (map (numbered num) es) ≡ conts rd at l es
    pub ok : Items (K τ) (Child τ (Ok τ rd' at' l) (node_of rd' at')) lo hi (map (numbered num) es)
    pub sums : (f : MemNode → ℕ) → Blocky f → totals rd' at' f l (map (numbered num) es) ≡ totals rd at₂ f l es

  -- what the slots and the references below a node are
  pub record Stand (l : ℕ) (m : MemNode) : Type 0 where
    pub slots : (x : ℕ) → 1 ≤ slots rd at l x m → S x
    pub disks : (r j lo hi : ℕ) → Ok τ rd at j lo hi (rd r) → ((f : MemNode → ℕ) → total rd at f j (rd r) ≤ off rd at f l m) → D r

  module _ (slot : (c : ℕ) → S c → Like (at c) (at₂ c) (rd' (num c))) (on_disk : (r : ℕ) → D r → rd' r ≡ rd r) where
    disk_like : (r l lo hi : ℕ) → Ok τ rd at l lo hi (rd r) → D r → Like (rd r) (rd r) (rd' r)
    unfolding slots
    disk_like r l lo hi o d =
        let e : rd' r ≡ rd r = on_disk r d in
        let none : (c : ℕ) → naming c (rd r).entries ≡ 0 = λ c. let z : slots rd at 1 c (rd r) ≡ 0 = bare at r 1 c in
        omega (arith, naming_slots τ rd at 0 c (rd r).entries, z) in
        record {
          level = ap (λ (z : MemNode). z.level) e;
          live = ap (λ (z : MemNode). z.dead) e ∙ ok_live τ rd at l lo hi (rd r) o;
          entries = ap (λ (z : MemNode). z.entries) e ∙ sym (numbered_id num (rd r).entries none);
          second = refl;
          block = ap (λ (z : MemNode). z.block) e;
        }

    kid_like : (v : Val) (l lo hi : ℕ) → is_child v ≡ true → Ok τ rd at l lo hi (node_of rd at v) → ((c : ℕ) → 1 ≤ names c v → S c)
        → ((r : ℕ) → v ≡ disk r → D r)
        → Like (node_of rd at v) (node_of rd at₂ v) (node_of rd' at' (numbered_value num v))
    unfolding node_of numbered_value is_child
    kid_like ghost l lo hi h o a b = never h refl
    kid_like (leaf x) l lo hi h o a b = never h refl
    kid_like (disk r) l lo hi h o a b = disk_like r l lo hi o (b r refl)
    kid_like (mem c) l lo hi h o a b = slot c (a c (omega (arith, names_same c)))

    abbrev Simmed : ℕ → Type 0
    Simmed l = (lo hi : ℕ) (m m₂ m' : MemNode) → Ok τ rd at l lo hi m → Like m m₂ m' → Stand l m → Sim l lo hi m m₂ m'

    child_one : (v : Val) → is_child v ≡ true → is_child (numbered_value num v) ≡ true
    unfolding is_child numbered_value
    child_one ghost h = h
    child_one (leaf b) h = h
    child_one (disk r) h = h
    child_one (mem c) h = refl

    node_disk : (r : ℕ) → node_of rd at (disk r) ≡ rd r
    unfolding node_of
    node_disk r = refl

    apart : (r c : ℕ) → disk r ≡ mem c → ⊥
    apart r c q = let z : ◌≡◌ {A = ℕ} 0 1 = cc in omega arith

    sims : (l : ℕ) → Simmed l → {lo hi : ℕ} {es : List Entry} → Items (K τ) (Child τ (Ok τ rd at l) (node_of rd at)) lo hi es
        → ((x : ℕ) → 1 ≤ slots_in rd at l x es → S x) → ((r j lo hi : ℕ) → Ok τ rd at j lo hi (rd r)
        → ((f : MemNode → ℕ) → total rd at f j (rd r) ≤ offs rd at f l es) → D r) → Sims l lo hi es
    unfolding numbered
    sims l ih (nil z) a b = record { holds = refl; ok = nil z; sums = λ f h. refl }
    sims l ih (cons {m = m} {e = e} {es = es} z p r) a b =
        let here : Like (node_of rd at e.value) (node_of rd at₂ e.value) (node_of rd' at' (numbered_value num e.value)) =
        kid_like e.value l (K τ e.key) m p.is_one p.ok (λ c q. a c (omega arith))
        (λ k q.
        let n : node_of rd at e.value ≡ rd k = ap (node_of rd at) q ∙ node_disk k in
        b k l (K τ e.key) m (subst (Ok τ rd at l (K τ e.key) m) n p.ok)
        (λ f.
        let y : off_of (λ v. total rd at f l (node_of rd at v)) (λ c. off rd at f l (at c)) e.value ≡ total rd at f l (rd k) =
        ap (off_of (λ v. total rd at f l (node_of rd at v)) (λ c. off rd at f l (at c))) q
        ∙ off_none (λ v. total rd at f l (node_of rd at v)) (λ c. off rd at f l (at c)) (disk k) (apart k) ∙ ap (total rd at f l) (node_disk k) in
        omega arith)) in
        let one = ih (K τ e.key) m (node_of rd at e.value) (node_of rd at₂ e.value) (node_of rd' at' (numbered_value num e.value))
        p.ok here
        (record {
          slots = λ x q. a x (omega arith);
          disks =
              λ k j lo hi o q. b k j lo hi o (λ f. omega (arith, q f, off_child rd at f l e.value));
        }) in
        let rest = sims l ih r (λ x q. a x (omega arith)) (λ k j lo hi o q. b k j lo hi o (λ f. omega (arith, q f))) in
        record {
          holds = ap₂ ◌++◌ one.holds rest.holds;
          ok = cons z (record { key = p.key; below = p.below; is_one = child_one e.value p.is_one; ok = one.ok }) rest.ok;
          sums = λ f h. ap₂ ◌+◌ (one.sums f h) (rest.sums f h);
        }

    pub sim : (l : ℕ) → Simmed l
    unfolding cont total slots off
    sim zero lo hi m m₂ m' o k st =
        let e : m'.entries ≡ m.entries = k.entries ∙ numbered_id num m.entries (λ c. rows_bare τ c o.items) in
        record {
          holds = e;
          ok = record { level = k.level ∙ o.level; live = k.live; items = rw e o.items };
          sums = λ f h. h.same m' m₂ k.block;
        }
    sim (suc l) lo hi m m₂ m' o k st =
        let i = sims l (sim l) o.items st.slots (λ r j lo hi q h. st.disks r j lo hi q (λ f. omega (arith, h f))) in
        record {
          holds = ap (conts rd' at' l) k.entries ∙ i.holds;
          ok = record { level = k.level ∙ o.level; live = k.live; items = rw k.entries i.ok };
          sums = λ f h. ap₂ ◌+◌ (h.same m' m₂ k.block) (ap (totals rd' at' f l) k.entries ∙ i.sums f h
              ∙ ap (totals rd at₂ f l) (sym k.second));
        }
