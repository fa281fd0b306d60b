-- One load of a child, wherever in the tree: the node under its reference is in the next slot, and its entry names that slot. Assumes nothing.
use Rattle.std.specs.Prelude.{◌≡◌, false, length, eqb}
use Rattle.std.proofs.Math.Path.{refl, ap, ap₂, subst}
use Rattle.std.proofs.Common.{sym, ◌∙◌, arith}
use mathlib.Core.List.{List, [], ◌∷◌, ◌++◌}
use Prim.Native.Nat.{ℕ, zero, suc, ◌+◌, ◌≤◌, ◌<◌}
use borrow.Author.Tests.{eqb-true, eqb-false}
use Rattle.node.specs.Entry.{Entry, Val, ghost, leaf, disk, mem}
use Rattle.node.specs.Slot.{MemNode, is_child}
use Rattle.node.specs.laws.base.Tests.{by_test, never}
use Rattle.tree.specs.State.{State, no_node, node_at, put_node, add_node, with_nodes, with_entries}
use Rattle.tree.specs.laws.state.State.{at_put_same, at_put_other, put_count, at_add_old, at_add_new, add_count}
use Rattle.theorem.specs.model.Bounds.{Terms, K, Items, nil, cons}
use Rattle.theorem.specs.model.Lazy.{node_of, cont, total, names, slots, conts, totals, slots_in, names_same, Child, Ok, ok_live}
use Rattle.theorem.specs.steps.Grow.{names_apart}
use Rattle.theorem.specs.steps.Way.{Still}
use Rattle.theorem.specs.load.Loads.{Blind, live_used, Means, Sees, Rows, Loads}

module _ (τ : Terms) (rd : ℕ → MemNode) where
  -- child `length xs` of slot n
  module _ (s : State) (n j r : ℕ) (xs : List Entry) (k : List ℕ) (ys : List Entry)
      (row : (node_at s n).entries ≡ xs ++ record { key = k; value = disk r } ∷ ys)
      (used : n < length s.nodes) (high : (node_at s n).level ≡ suc j) where
    abbrev fresh : ℕ
    fresh = length s.nodes

    abbrev linked : MemNode
    linked = with_entries (node_at s n) (xs ++ record { key = k; value = mem fresh } ∷ ys)

    abbrev pub fetched : State
    fetched = add_node (put_node s n linked) (rd r)

    at_n : node_at fetched n ≡ linked
    at_n = at_add_old (put_node s n linked) (rd r) n (omega (arith, used, put_count s n linked)) ∙ at_put_same s n linked used

    pub at_fresh : node_at fetched fresh ≡ rd r
    at_fresh = ap (node_at fetched) (sym (put_count s n linked)) ∙ at_add_new (put_node s n linked) (rd r)

    at_other : (d : ℕ) → d < length s.nodes → (d ≡ n → ⊥) → node_at fetched d ≡ node_at s d
    at_other d h f = at_add_old (put_node s n linked) (rd r) d (omega (arith, h, put_count s n linked)) ∙ at_put_other s n linked d f

    pub fetched_count : length fetched.nodes ≡ suc (length s.nodes)
    fetched_count = add_count (put_node s n linked) (rd r) ∙ ap suc (put_count s n linked)

    pub fetched_still : Still s fetched
    unfolding add_node put_node with_nodes
    fetched_still = record { root = refl; info = refl; virtual = refl; order = refl; xid = refl }

    -- entries of which some, as many as the first number says, are now in the new slot
    pub data Ents : ℕ → List Entry → List Entry → Type 0 where
      none : Ents 0 [] []
      same : {i : ℕ} {es ds : List Entry} (e : Entry) → Ents i es ds → Ents i (e ∷ es) (e ∷ ds)
      swap : {i : ℕ} {es ds : List Entry} (key : List ℕ) → Ents i es ds
          → Ents (suc i) (record { key = key; value = disk r } ∷ es) (record { key = key; value = mem fresh } ∷ ds)

    ents_refl : (es : List Entry) → Ents 0 es es
    ents_refl [] = none
    ents_refl (e ∷ es) = same e (ents_refl es)

    ents_at : (zs : List Entry) → Ents 1 (zs ++ record { key = k; value = disk r } ∷ ys) (zs ++ record { key = k; value = mem fresh } ∷ ys)
    ents_at [] = swap k (ents_refl ys)
    ents_at (z ∷ zs) = same z (ents_at zs)

    ents_none : {i : ℕ} {es ds : List Entry} → Ents i es ds → i ≡ 0 → ds ≡ es
    ents_none none h = refl
    ents_none (same e t) h = ap (λ (l : List Entry). e ∷ l) (ents_none t h)
    ents_none (swap key t) h = absurd (omega arith)

    -- a node before and after. i: as for its entries
    pub record Like (i : ℕ) (m m' : MemNode) : Type 0 where
      pub shape : m' ≡ with_entries m m'.entries
      pub ents : Ents i m.entries m'.entries
      pub tall : 1 ≤ i → m.level ≡ suc j

    like_refl : (m : MemNode) → Like 0 m m
    unfolding with_entries
    like_refl m = record { shape = refl; ents = ents_refl m.entries; tall = λ h. absurd (omega arith) }

    like_n : Like 1 (node_at s n) (node_at fetched n)
    unfolding with_entries
    like_n = rw at_n (record {
      shape = refl;
      ents = subst (λ (l : List Entry). Ents 1 l (xs ++ record { key = k; value = mem fresh } ∷ ys)) (sym row)
          (ents_at xs);
      tall = λ h. high;
    })

    pub like_at : (c : ℕ) → c < length s.nodes → Like (names n (mem c)) (node_at s c) (node_at fetched c)
    like_at c h =
        by_test (eqb c n)
        (λ t. let z : c ≡ n = eqb-true c n t in rw (z, names_same n) like_n)
        (λ t.
        let z : c ≡ n → ⊥ = eqb-false c n t in
        rw (names_apart n c (λ q. z (sym q)), at_other c h z) (like_refl (node_at s c)))

    like_value : (v : Val) → (node_of rd (node_at s) v).dead ≡ false → Like (names n v) (node_of rd (node_at s) v) (node_of rd (node_at fetched) v)
    unfolding node_of names
    like_value ghost h = like_refl no_node
    like_value (leaf b) h = like_refl no_node
    like_value (disk q) h = like_refl (rd q)
    like_value (mem c) h = like_at c (live_used s c h)

    fresh_value : (v : Val) → (node_of rd (node_at s) v).dead ≡ false → names fresh v ≡ 0
    unfolding node_of names
    fresh_value ghost h = refl
    fresh_value (leaf b) h = refl
    fresh_value (disk q) h = refl
    fresh_value (mem c) h = let g = live_used s c h in names_apart fresh c (omega arith)

    -- ---- the tree below it

    record One (i l lo hi : ℕ) (m m' : MemNode) : Type 0 where
      means : Means τ rd (node_at s) (node_at fetched) l lo hi m m'
      old : (d : ℕ) → (d ≡ fresh → ⊥) → slots rd (node_at fetched) l d m' ≡ slots rd (node_at s) l d m
      new : slots rd (node_at fetched) l fresh m' ≡ slots rd (node_at s) l n m + i

    record Ones (i l lo hi : ℕ) (es ds : List Entry) : Type 0 where
      ok : Items (K τ) (Child τ (Ok τ rd (node_at fetched) l) (node_of rd (node_at fetched))) lo hi ds
      holds : conts rd (node_at fetched) l ds ≡ conts rd (node_at s) l es
      sums : (f : MemNode → ℕ) → Blind f → totals rd (node_at fetched) f l ds ≡ totals rd (node_at s) f l es
      old : (d : ℕ) → (d ≡ fresh → ⊥) → slots_in rd (node_at fetched) l d ds ≡ slots_in rd (node_at s) l d es
      new : slots_in rd (node_at fetched) l fresh ds ≡ slots_in rd (node_at s) l n es + i

    -- the entry that is now in the new slot
    one_swap : (i l lo m hi : ℕ) (key : List ℕ) (es ds : List Entry) → lo ≤ K τ key
        → Child τ (Ok τ rd (node_at s) l) (node_of rd (node_at s)) m (record { key = key; value = disk r })
        → One 0 l (K τ key) m (rd r) (rd r) → Ones i l m hi es ds
        → Ones (suc i) l lo hi (record { key = key; value = disk r } ∷ es) (record { key = key; value = mem fresh } ∷ ds)
    unfolding node_of names
    one_swap i l lo m hi key es ds z p here rest =
        let e : names fresh (mem fresh) ≡ 1 = names_same fresh in
        record {
          ok = cons {e = record { key = key; value = mem fresh }} z
              (record { key = p.key; below = p.below; is_one = unfold is_child in refl; ok = rw at_fresh here.means.ok }) rest.ok;
          holds = ap₂ ◌++◌ (ap (cont rd (node_at fetched) l) at_fresh ∙ here.means.holds) rest.holds;
          sums = λ f b. ap₂ ◌+◌ (ap (total rd (node_at fetched) f l) at_fresh ∙ here.means.sums f b) (rest.sums f b);
          old = λ d h. omega (arith, names_apart d fresh h, ap (slots rd (node_at fetched) l d) at_fresh, here.old d h, rest.old d h);
          new = omega (arith, ap (slots rd (node_at fetched) l fresh) at_fresh, here.new, rest.new);
        }

    one_same : (i l lo m hi : ℕ) (e : Entry) (es ds : List Entry) → lo ≤ K τ e.key → Child τ (Ok τ rd (node_at s) l) (node_of rd (node_at s)) m e
        → One (names n e.value) l (K τ e.key) m (node_of rd (node_at s) e.value) (node_of rd (node_at fetched) e.value) → Ones i l m hi es ds
        → Ones i l lo hi (e ∷ es) (e ∷ ds)
    one_same i l lo m hi e es ds z p here rest =
        let x : names fresh e.value ≡ 0 =
        fresh_value e.value (ok_live τ rd (node_at s) l (K τ e.key) m (node_of rd (node_at s) e.value) p.ok) in
        record {
          ok = cons {e = e} z (record { key = p.key; below = p.below; is_one = p.is_one; ok = here.means.ok }) rest.ok;
          holds = ap₂ ◌++◌ here.means.holds rest.holds;
          sums = λ f b. ap₂ ◌+◌ (here.means.sums f b) (rest.sums f b);
          old = λ d h. omega (arith, here.old d h, rest.old d h);
          new = omega (arith, here.new, rest.new);
        }

    ones : (l : ℕ) → ((i lo hi : ℕ) (m m' : MemNode) → Like i m m' → Ok τ rd (node_at s) l lo hi m → One i l lo hi m m')
        → {i : ℕ} {es ds : List Entry} → Ents i es ds → {lo hi : ℕ} → Items (K τ) (Child τ (Ok τ rd (node_at s) l) (node_of rd (node_at s))) lo hi es
        → Ones i l lo hi es ds
    ones l ih none (nil z) = record { ok = nil z; holds = refl; sums = λ f b. refl; old = λ d h. refl; new = refl }
    ones l ih (same {i = i} {es = es} {ds = ds} e t) {lo = lo} {hi = hi} (cons {m = m} z p q) =
        one_same i l lo m hi e es ds z p
        (ih (names n e.value) (K τ e.key) m _ _
        (like_value e.value (ok_live τ rd (node_at s) l (K τ e.key) m (node_of rd (node_at s) e.value) p.ok)) p.ok) (ones l ih t q)
    ones l ih (swap {i = i} {es = es} {ds = ds} key t) {lo = lo} {hi = hi} (cons {m = m} z p q) =
        one_swap i l lo m hi key es ds z p (ih 0 (K τ key) m (rd r) (rd r) (like_refl (rd r)) (unfold node_of in p.ok)) (ones l ih t q)

    one : (l i lo hi : ℕ) (m m' : MemNode) → Like i m m' → Ok τ rd (node_at s) l lo hi m → One i l lo hi m m'
    unfolding cont slots total with_entries
    one zero i lo hi m m' a h =
        let z : i ≡ 0 = by_test (eqb i 0) (λ t. eqb-true i 0 t)
        (λ t. let w = eqb-false i 0 t in let x = a.tall (omega arith) in absurd (omega (arith, h.level))) in
        let q : m' ≡ m = a.shape ∙ ap (with_entries m) (ents_none a.ents z) in
        rw (q, z) (record {
          means = record { ok = record { level = h.level; live = h.live; items = h.items }; holds = refl; sums = λ f b. refl };
          old = λ d g. refl;
          new = refl;
        })
    one (suc l) i lo hi m m' a h =
        let k = ones l (one l) a.ents h.items in
        record {
          means = record {
            ok = record {
              level = ap (λ (z : MemNode). z.level) a.shape ∙ h.level;
              live = ap (λ (z : MemNode). z.dead) a.shape
                  ∙ h.live;
              items = k.ok;
            };
            holds = k.holds;
            sums = λ f b. ap₂ ◌+◌ (ap f a.shape ∙ b m m'.entries) (k.sums f b);
          };
          old = k.old;
          new = k.new;
        }

    -- ---- what others see of it

    pub fetched_sees : (v : Val) → Sees τ rd (node_at s) (node_at fetched) v v
    fetched_sees v =
        record {
          same = λ h. refl;
          child = λ h. h;
          means = λ l lo hi h. (one l (names n v) lo hi _ _ (like_value v (ok_live τ rd (node_at s) l lo hi (node_of rd (node_at s) v) h)) h).means;
        }

    swap_sees : Sees τ rd (node_at s) (node_at fetched) (disk r) (mem fresh)
    unfolding node_of is_child
    swap_sees =
        record {
          same = λ h. never refl h;
          child = λ h. refl;
          means = λ l lo hi h. rw at_fresh (one l 0 lo hi (rd r) (rd r) (like_refl (rd r)) h).means;
        }

    ents_rows : {i : ℕ} {es ds : List Entry} → Ents i es ds → Rows τ rd (node_at s) (node_at fetched) es ds
    ents_rows none = tt
    ents_rows (same e t) = (refl, fetched_sees e.value, ents_rows t)
    ents_rows (swap key t) = (refl, swap_sees, ents_rows t)

    pub fetched_loads : Loads τ rd s fetched
    unfolding with_entries
    fetched_loads =
        record {
          longer = omega (arith, fetched_count);
          still = fetched_still;
          level = λ c h. ap (λ (z : MemNode). z.level) (like_at c h).shape;
          values = fetched_sees;
          rows = λ c h. ents_rows (like_at c h).ents;
        }

    -- how often each slot stands below slot c: the new one as often as slot n
    pub fetched_old : (c l lo hi d : ℕ) → Ok τ rd (node_at s) l lo hi (node_at s c) → (d ≡ fresh → ⊥)
        → slots rd (node_at fetched) l d (node_at fetched c) ≡ slots rd (node_at s) l d (node_at s c)
    fetched_old c l lo hi d h f =
        (one l (names n (mem c)) lo hi _ _ (like_at c (live_used s c (ok_live τ rd (node_at s) l lo hi (node_at s c) h))) h).old d f

    pub fetched_new : (c l lo hi : ℕ) → Ok τ rd (node_at s) l lo hi (node_at s c)
        → slots rd (node_at fetched) l fresh (node_at fetched c) ≡ slots rd (node_at s) l n (node_at s c) + names n (mem c)
    fetched_new c l lo hi h = (one l (names n (mem c)) lo hi _ _ (like_at c (live_used s c (ok_live τ rd (node_at s) l lo hi (node_at s c) h))) h).new
