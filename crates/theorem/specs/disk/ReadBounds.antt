-- A child read within bounds: its level, and its keys within them. Assumes nothing.
use Rattle.std.specs.Prelude.{◌≡◌, refl, false, ◌||◌, ℕ, suc, ◌≤◌, ◌<◌, eqb}
use Rattle.std.proofs.Common.{ap, subst}
use mathlib.Core.List.{List, [], ◌∷◌}
use Rattle.std.proofs.Math.Bool.{true, not}
use Rattle.std.proofs.Math.Nat.{le_refl}
use native.Mathlib.Omega.{arith}
use Rattle.std.proofs.Math.ListN.{length}
use borrow.Author.Tests.{eqb-true, eqb-false, not-true}
use Rattle.node.specs.Result.{ok}
use Rattle.node.specs.Order.{less}
use Rattle.node.specs.laws.order.Order.{rank_lt, rank_le}
use Rattle.node.specs.Entry.{Entry, rise_after, rising, every}
use Rattle.node.specs.Read.{OnDisk, keys_within, in_bounds}
use Rattle.node.specs.laws.base.Tests.{by_test, and_split, or_right}
use Rattle.node.specs.Place.{Place}
use Rattle.tree.specs.Lent.{block_at}
use Rattle.tree.specs.Load.{Bounds, bound_key, tighter_lower, tighter_upper, load_block, child_place}
use Rattle.history.specs.Walk.{Disk, resolve}
use Rattle.theorem.specs.model.Bounds.{Terms, K, Items, nil, cons, KeyOk}
use Rattle.theorem.specs.model.Seen.{seen}
use Rattle.theorem.specs.disk.Read.{Every}
use Rattle.theorem.specs.disk.Seen.{load_read, load_level, load_seen, read_unbound}
use Rattle.theorem.specs.model.Ranks.{top, rank_below}

-- ---- a child read within the bounds that its parent sets

pub record Loaded (τ : Terms) (x : Disk) (cs : Bounds) (parent r a : ℕ) (c : OnDisk) : Type 0 where
  pub same : seen x τ r ≡ ok (record { block = a; node = c })
  pub level : suc c.node.level ≡ parent
  pub within : keys_within x.order (child_place τ.ksize τ.vsize cs parent r) (bound_key cs.lower) (bound_key cs.upper) c.entries ≡ true

pub load_loaded : (τ : Terms) (x : Disk) (cs : Bounds) (parent r a : ℕ) (c : OnDisk) → resolve x r ≡ ok a
    → load_block x.lent x.order (child_place τ.ksize τ.vsize cs parent r) cs a ≡ ok c → Loaded τ x cs parent r a c
unfolding child_place
load_loaded τ x cs parent r a c p e =
    let q : Place = child_place τ.ksize τ.vsize cs parent r in
    record {
      same = load_seen x τ τ.ksize τ.vsize parent r a cs c refl refl p e;
      level = (load_level x.lent x.order q cs a c e refl).0;
      within =
          (read_unbound x.order τ.ksize τ.vsize parent r cs (bound_key cs.lower) (bound_key cs.upper) (block_at x.lent a) c
          (load_read x.lent x.order q cs a c e).1).1;
    }

-- ---- keys within bounds

-- an entry's key below m
pub record KeyBelow (τ : Terms) (m : ℕ) (e : Entry) : Type 0 where
  pub key : KeyOk τ e.key
  pub below : K τ e.key < m

-- a lower bound: none, or a key
pub record Lowest (τ : Terms) (bs : List (List ℕ)) : Type 0 where
  pub keyed : 1 ≤ length bs → KeyOk τ (bound_key bs)

-- an upper bound that keeps keys below hi: none, where no key's rank reaches it
pub record Highest (τ : Terms) (bs : List (List ℕ)) (hi : ℕ) : Type 0 where
  pub one : length bs ≤ 1
  pub keyed : 1 ≤ length bs → KeyOk τ (bound_key bs) × (K τ (bound_key bs) ≤ hi)
  pub none : length bs ≡ 0 → top τ ≤ hi

module _ (τ : Terms) where
  -- the higher of a lower bound and a key is no lower than the key
  pub lowest_tighter : (bs : List (List ℕ)) (k : List ℕ) → Lowest τ bs → KeyOk τ k
      → Lowest τ (tighter_lower τ.order bs k) × (1 ≤ length (tighter_lower τ.order bs k))
      × (K τ k ≤ K τ (bound_key (tighter_lower τ.order bs k)))
  unfolding tighter_lower bound_key
  lowest_tighter [] k h g = (record { keyed = λ z. g }, le_refl 1, le_refl _)
  lowest_tighter (b ∷ bs) k h g =
      let kb : KeyOk τ b = h.keyed (omega arith) in
      by_test (less τ.order b k)
      (λ t. rw t (record { keyed = λ z. g }, le_refl 1, le_refl _))
      (λ t. rw t (record { keyed = λ z. kb }, omega arith, rank_le τ.order τ.most b k kb.key g.key kb.short g.short t))

  -- the lower of an upper bound and a key is no higher than the key
  pub highest_tighter : (bs : List (List ℕ)) (hi : ℕ) (k : List ℕ) → Highest τ bs hi → KeyOk τ k → Highest τ (tighter_upper τ.order bs k) (K τ k)
  unfolding tighter_upper bound_key
  highest_tighter [] hi k h g = record { one = le_refl 1; keyed = λ z. (g, le_refl _); none = λ z. absurd (omega arith) }
  highest_tighter (b ∷ bs) hi k h g =
      let kb : KeyOk τ b = (h.keyed (omega arith)).0 in
      by_test (less τ.order k b)
      (λ t. rw t (record { one = le_refl 1; keyed = λ z. (g, le_refl _); none = λ z. absurd (omega arith) }))
      (λ t. rw t (record {
        one = h.one;
        keyed = λ z. (kb, rank_le τ.order τ.most k b g.key kb.key g.short kb.short t);
        none = λ z. absurd (omega arith);
      }))

  -- a key within bounds
  key_within : (o ks vs parent r : ℕ) (cs : Bounds) (lo hi : ℕ) (k : List ℕ) → o ≡ τ.order → KeyOk τ (bound_key cs.lower)
      → lo ≤ K τ (bound_key cs.lower) → Highest τ cs.upper hi
      → KeyOk τ k → in_bounds o (child_place ks vs cs parent r) (bound_key cs.lower) (bound_key cs.upper) k ≡ true → (lo ≤ K τ k) × (K τ k < hi)
  unfolding in_bounds child_place
  key_within o ks vs parent r cs lo hi k q gl a b g h =
      let (p, u) = and_split (not (less o k (bound_key cs.lower))) (not (eqb (length cs.upper) 1) || less o k (bound_key cs.upper)) h in
      let x : K τ (bound_key cs.lower) ≤ K τ k =
      rank_le τ.order τ.most k (bound_key cs.lower) g.key gl.key g.short gl.short
      (subst (λ (z : ℕ). less z k (bound_key cs.lower) ≡ false) q (not-true (less o k (bound_key cs.lower)) p)) in
      let y : K τ k < hi = by_test (eqb (length cs.upper) 1)
      (λ t.
      let (ku, le) = b.keyed (omega (arith, eqb-true (length cs.upper) 1 t)) in
      let s : less o k (bound_key cs.upper) ≡ true = or_right (not (eqb (length cs.upper) 1)) (less o k (bound_key cs.upper)) (ap not t) u in
      let w = rank_lt τ.order τ.most k (bound_key cs.upper) g.key ku.key g.short ku.short
      (subst (λ (z : ℕ). less z k (bound_key cs.upper) ≡ true) q s) in
      omega arith)
      (λ t.
      let n : length cs.upper ≡ 0 = let w = b.one in let v = eqb-false (length cs.upper) 1 t in omega arith in
      let w = rank_below τ k g in
      let v = b.none n in
      omega arith) in
      (omega arith, y)

  abbrev Spread : ℕ → ℕ → List Entry → Type 0
  Spread lo hi es = Every (λ e. KeyOk τ e.key × (lo ≤ K τ e.key) × (K τ e.key < hi)) es

  pub keys_within_lem : (o ks vs parent r : ℕ) (cs : Bounds) (lo hi : ℕ) (es : List Entry) → o ≡ τ.order → KeyOk τ (bound_key cs.lower)
      → lo ≤ K τ (bound_key cs.lower) → Highest τ cs.upper hi
      → Every (λ e. KeyOk τ e.key) es → keys_within o (child_place ks vs cs parent r) (bound_key cs.lower) (bound_key cs.upper) es ≡ true
      → Spread lo hi es
  unfolding keys_within every
  keys_within_lem o ks vs parent r cs lo hi [] q gl a b g h = tt
  keys_within_lem o ks vs parent r cs lo hi (e ∷ es) q gl a b g h =
      let (p, t) = and_split (in_bounds o (child_place ks vs cs parent r) (bound_key cs.lower) (bound_key cs.upper) e.key) _ h in
      let (x, y) = key_within o ks vs parent r cs lo hi e.key q gl a b g.0 p in
      ((g.0, x, y), keys_within_lem o ks vs parent r cs lo hi es q gl a b g.1 t)

  -- a root's keys have no bounds
  pub keys_free : (es : List Entry) → Every (λ e. KeyOk τ e.key) es → Spread 0 (top τ) es
  keys_free [] g = tt
  keys_free (e ∷ es) g = ((g.0, omega arith, rank_below τ e.key g.0), keys_free es g.1)

  after_items : (lo hi : ℕ) (k : List ℕ) (es : List Entry) → KeyOk τ k → K τ k < hi → Spread lo hi es → rise_after τ.order k es ≡ true
      → Items (K τ) (KeyBelow τ) (suc (K τ k)) hi es
  unfolding rise_after
  after_items lo hi k [] g a s h = nil a
  after_items lo hi k (e ∷ es) g a s h =
      let (p, t) = and_split (less τ.order k e.key) (rise_after τ.order e.key es) h in
      let ke : KeyOk τ e.key = s.0.0 in
      cons (rank_lt τ.order τ.most k e.key g.key ke.key g.short ke.short p) (record { key = ke; below = le_refl _ })
      (after_items lo hi e.key es ke s.0.2 s.1 t)

  -- keys that rise
  pub rise_items : (lo hi : ℕ) (es : List Entry) → lo ≤ hi → Spread lo hi es → rising τ.order es ≡ true → Items (K τ) (KeyBelow τ) lo hi es
  unfolding rising
  rise_items lo hi [] a s h = nil a
  rise_items lo hi (e ∷ es) a s h =
      cons s.0.1 (record { key = s.0.0; below = le_refl _ }) (after_items lo hi e.key es s.0.0 s.0.2 s.1 h)
