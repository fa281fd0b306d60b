-- No block stands twice in a tree on disk, and no id: the level and the first key that a block stores lie within the bounds of one node only.
-- Assumes nothing.
use Rattle.std.specs.Prelude.{◌≡◌, Bool, true, false, length, eqb}
use Rattle.std.proofs.Math.Path.{refl, sym, ap}
use Rattle.std.proofs.Common.{subst, ◌∙◌}
use mathlib.Core.List.{List, [], ◌∷◌}
use Prim.Native.Nat.{ℕ, zero, suc, ◌+◌, ◌≤◌, ◌<◌}
use Rattle.std.proofs.Math.Nat.{le_refl}
use native.Mathlib.Omega.{arith}
use borrow.Author.Tests.{eqb-true, eq-eqb}
use Rattle.seal.specs.Bytes.{u16_at}
use Rattle.node.specs.Result.{Result, ok, refused}
use Rattle.node.specs.laws.base.Results.{no_answer}
use Rattle.node.specs.Entry.{Entry}
use Rattle.node.specs.Read.{OnDisk, on_disk, parsed}
use Rattle.node.specs.laws.read.Loaded.{read_passed}
use Rattle.node.specs.laws.base.Tests.{by_test}
use Rattle.node.specs.Slot.{MemNode}
use Rattle.node.specs.Place.{Place}
use Rattle.tree.specs.Lent.{block_at}
use Rattle.tree.specs.Load.{unbounded, child_place, adopted}
use Rattle.history.specs.Walk.{Disk, resolve, Visit, blocks_of, ids_of}
use Rattle.history.specs.Statement.{uses}
use Rattle.theorem.specs.model.Bounds.{Terms, K, Items, nil, cons, first_or}
use Rattle.theorem.specs.model.Lazy.{node_of, total, totals, Child, Ok, kids_le, ok_level, ok_live, ok_first}
use Rattle.theorem.specs.model.Seen.{Seen, seen, rd}
use Rattle.theorem.specs.disk.Read.{Every, Kid, Sound}
use Rattle.theorem.specs.disk.Seen.{load_read, seen_parts, rd_is, seen_live}
use Rattle.theorem.specs.disk.WalkSound.{Homes, node_disk}

-- ---- a block alone

module _ (τ : Terms) (x : Disk) where
  -- the level that a block stores
  abbrev pub stored : ℕ → ℕ
  stored b = u16_at (block_at x.lent b) 34

  -- the node that a block holds, under any reference but a root's
  unfoldable node_in : ℕ → OnDisk
  node_in b = on_disk (parsed (child_place τ.ksize τ.vsize unbounded 0 0) (block_at x.lent b)) (block_at x.lent b)

  -- the rank of its first key
  abbrev first_in : ℕ → ℕ
  first_in b = first_or (K τ) 0 (node_in b).entries

  seen_node : (r : ℕ) (y : Seen) → seen x τ r ≡ ok y → y.node ≡ node_in y.block
  unfolding node_in child_place parsed
  seen_node r y e =
      let a : ℕ = y.block in
      let q : Place = child_place τ.ksize τ.vsize unbounded (suc (u16_at (block_at x.lent a) 34)) r in
      (read_passed x.order q _ _ (block_at x.lent a) y.node
      (load_read x.lent x.order q unbounded a y.node (seen_parts x τ r y e).1).1).read

  node_level : (b : ℕ) → (node_in b).node.level ≡ stored b
  unfolding node_in on_disk parsed
  node_level b = refl

  -- block b stands n times below level l within bounds: not at all, or once, where its level and first key are
  data Spot (b l lo hi n : ℕ) : Type 0 where
    none : n ≡ 0 → Spot b l lo hi n
    here : n ≡ 1 → stored b ≤ l → lo ≤ first_in b → first_in b < hi → Spot b l lo hi n

  spot_once : {b l lo hi n : ℕ} → Spot b l lo hi n → n ≤ 1
  spot_once (none e) = omega arith
  spot_once (here e a b c) = omega arith

  -- two children
  spot_beside : {b l lo m hi n k : ℕ} (lo' : ℕ) → lo ≤ lo' → lo' ≤ m → m ≤ hi → Spot b l lo' m n → Spot b l m hi k → Spot b l lo hi (n + k)
  spot_beside lo' p r q (none e) (none f) = none (omega arith)
  spot_beside lo' p r q (none e) (here f a c d) = here (omega arith) a (omega arith) d
  spot_beside lo' p r q (here e a c d) (none f) = here (omega arith) a (omega arith) (omega arith)
  spot_beside lo' p r q (here e a c d) (here f a' c' d') = absurd (omega arith)

  spot_up : {b l lo hi n : ℕ} (k : ℕ) → k ≡ 0 → Spot b l lo hi n → Spot b (suc l) lo hi (k + n)
  spot_up k z (none e) = none (omega arith)
  spot_up k z (here e a c d) = here (omega arith) (omega arith) c d

  spot_own : {b l lo hi n : ℕ} (k : ℕ) → k ≡ 1 → stored b ≡ suc l → lo ≤ first_in b → first_in b < hi → Spot b l lo hi n
      → Spot b (suc l) lo hi (k + n)
  spot_own k z f p q (none e) = here (omega arith) (omega arith) p q
  spot_own k z f p q (here e a c d) = absurd (omega arith)

  use_same : (b a : ℕ) → eqb b a ≡ true → uses b (a ∷ []) ≡ 1
  unfolding uses
  use_same b a t = rw t

  use_other : (b a : ℕ) → eqb b a ≡ false → uses b (a ∷ []) ≡ 0
  unfolding uses
  use_other b a t = rw t

  -- a node and its children
  spot_above : {b l lo hi n : ℕ} (a : ℕ) → stored a ≡ suc l → lo ≤ first_in a → first_in a < hi → Spot b l lo hi n
      → Spot b (suc l) lo hi (uses b (a ∷ []) + n)
  spot_above {b} {l} {lo} {hi} a e p q s =
      by_test (eqb b a)
      (λ t.
      let z : a ≡ b = sym (eqb-true b a t) in
      spot_own (uses b (a ∷ [])) (use_same b a t) (subst (λ (c : ℕ). stored c ≡ suc l) z e)
      (subst (λ (c : ℕ). lo ≤ first_in c) z p) (subst (λ (c : ℕ). first_in c < hi) z q) s)
      (λ t. spot_up (uses b (a ∷ [])) (use_other b a t) s)

  -- a leaf
  spot_leaf : (b a lo hi : ℕ) → stored a ≡ 0 → lo ≤ first_in a → first_in a < hi → Spot b 0 lo hi (uses b (a ∷ []))
  spot_leaf b a lo hi e p q =
      by_test (eqb b a)
      (λ t.
      let z : a ≡ b = sym (eqb-true b a t) in
      here (use_same b a t) (subst (λ (c : ℕ). stored c ≤ 0) z (omega arith))
      (subst (λ (c : ℕ). lo ≤ first_in c) z p) (subst (λ (c : ℕ). first_in c < hi) z q))
      (λ t. none (use_other b a t))

  -- ---- the tree

  module _ (v : Bool) (at : ℕ → MemNode) (sound : (r : ℕ) (y : Seen) → seen x τ r ≡ ok y → Sound τ false r y.node) where
    abbrev Spots : ℕ → Type 0
    Spots l = (b r lo hi : ℕ) (y : Seen) → seen x τ r ≡ ok y → Ok τ (rd x τ v) at l lo hi (adopted v y.block y.node)
        → Spot b l lo hi (total (rd x τ v) at (λ m. uses b m.block) l (adopted v y.block y.node))

    kids_spot : (l b : ℕ) → Spots l → {lo hi : ℕ} {es : List Entry} → Every Kid es
        → Items (K τ) (Child τ (Ok τ (rd x τ v) at l) (node_of (rd x τ v) at)) lo hi es
        → Spot b l lo hi (totals (rd x τ v) at (λ m. uses b m.block) l es)
    kids_spot l b ih ds (nil z) = none refl
    kids_spot l b ih ds (cons {m = m} {e = e} z p q) =
        let r : ℕ = ds.0.number in
        let f : MemNode → ℕ = λ n. uses b n.block in
        let to : node_of (rd x τ v) at e.value ≡ rd x τ v r = ap (node_of (rd x τ v) at) ds.0.value ∙ node_disk (rd x τ v) at r in
        let okr : Ok τ (rd x τ v) at l (K τ e.key) m (rd x τ v r) = subst (Ok τ (rd x τ v) at l (K τ e.key) m) to p.ok in
        let (y, sy) = seen_live x τ v r (ok_live τ (rd x τ v) at l (K τ e.key) m (rd x τ v r) okr) in
        let is : rd x τ v r ≡ adopted v y.block y.node = rd_is x τ v r y sy in
        let s = ih b r (K τ e.key) m y sy (subst (Ok τ (rd x τ v) at l (K τ e.key) m) is okr) in
        let g = p.below in
        spot_beside (K τ e.key) z (omega arith) (kids_le q)
        (subst (λ (w : MemNode). Spot b l (K τ e.key) m (total (rd x τ v) at f l w)) (sym (to ∙ is)) s) (kids_spot l b ih ds.1 q)

    some_first : (es : List Entry) → 1 ≤ length es → (f : Entry) × (fs : List Entry) × (es ≡ f ∷ fs)
    some_first [] h = absurd (omega arith)
    some_first (e ∷ es) h = (e, es, refl)

    -- what a node that was read stores: its level, and its first key within its bounds
    node_first : (l r lo hi : ℕ) (y : Seen) → seen x τ r ≡ ok y → Ok τ (rd x τ v) at l lo hi (adopted v y.block y.node)
        → (stored y.block ≡ l) × (lo ≤ first_in y.block) × (first_in y.block < hi)
    unfolding adopted
    node_first l r lo hi y e h =
        let is : y.node ≡ node_in y.block = seen_node r y e in
        let lv : y.node.node.level ≡ l = ok_level τ (rd x τ v) at l lo hi (adopted v y.block y.node) h in
        let (f, fs, row) = some_first y.node.entries ((sound r y e).filled refl) in
        let (kf, below, above) = ok_first τ (rd x τ v) at l lo hi (adopted v y.block y.node) f fs row h in
        let first : K τ f.key ≡ first_in y.block = ap (first_or (K τ) 0) (sym row) ∙ ap (λ (z : OnDisk). first_or (K τ) 0 z.entries) is in (
          sym (node_level y.block) ∙ ap (λ (z : OnDisk). z.node.level) (sym is) ∙ lv,
          omega arith,
          omega arith,
        )

    node_spot : (l : ℕ) → Spots l
    unfolding total adopted
    node_spot zero b r lo hi y e h = let (s, p, q) = node_first zero r lo hi y e h in spot_leaf b y.block lo hi s p q
    node_spot (suc l) b r lo hi y e h =
        let (s, p, q) = node_first (suc l) r lo hi y e h in
        spot_above y.block s p q (kids_spot l b (node_spot l) ((sound r y e).kids (omega (arith, h.level))) h.items)

    -- a root's block is none of those below it: their levels are less
    root_once : (b l lo hi n a : ℕ) → stored a ≡ suc l → Spot b l lo hi n → uses b (a ∷ []) + n ≤ 1
    root_once b l lo hi n a e s =
        by_test (eqb b a)
        (λ t.
        let z : a ≡ b = sym (eqb-true b a t) in
        own (subst (λ (c : ℕ). stored c ≡ suc l) z e) (use_same b a t) s)
        (λ t. omega (arith, use_other b a t, spot_once s))
      where
        own : stored b ≡ suc l → uses b (a ∷ []) ≡ 1 → Spot b l lo hi n → uses b (a ∷ []) + n ≤ 1
        own f u (none g) = omega arith
        own f u (here g p q r) = absurd (omega arith)

    pub total_once : (l lo hi a : ℕ) (d : OnDisk) → stored a ≡ l → (1 ≤ l → Every Kid d.entries) → Ok τ (rd x τ v) at l lo hi (adopted v a d)
        → (b : ℕ) → total (rd x τ v) at (λ m. uses b m.block) l (adopted v a d) ≤ 1
    unfolding total adopted
    total_once zero lo hi a d e ds h b = by_test (eqb b a) (λ t. omega (arith, use_same b a t)) (λ t. omega (arith, use_other b a t))
    total_once (suc l) lo hi a d e ds h b = root_once b l lo hi _ a e (kids_spot l b (node_spot l) (ds (omega arith)) h.items)

-- ---- ids

-- an id resolves to one block: it stands no more often than that block
module _ (x : Disk) where
  id_block : (i a : ℕ) → resolve x i ≡ ok a → (vs : List Visit) → Homes x vs → uses i (ids_of vs) ≤ uses a (blocks_of vs)
  unfolding ids_of blocks_of uses
  id_block i a e [] h = le_refl 0
  id_block i a e (u ∷ us) h =
      let r = id_block i a e us h.1 in
      by_test (eqb i u.id)
      (λ t.
      let z : ok a ≡ ok u.block = sym e ∙ ap (resolve x) (eqb-true i u.id t) ∙ h.0 in
      let y : a ≡ u.block = cc in
      rw (t, eq-eqb a u.block y) (omega arith))
      (λ t. rw t (omega arith))

  id_none : (i n : ℕ) → resolve x i ≡ refused n → (vs : List Visit) → Homes x vs → uses i (ids_of vs) ≡ 0
  unfolding ids_of uses
  id_none i n e [] h = refl
  id_none i n e (u ∷ us) h =
      let r = id_none i n e us h.1 in
      by_test (eqb i u.id)
      (λ t. no_answer n u.block (sym e ∙ ap (resolve x) (eqb-true i u.id t) ∙ h.0))
      (λ t. rw t (omega arith))

  pub homes_once : (vs : List Visit) → Homes x vs → ((b : ℕ) → uses b (blocks_of vs) ≤ 1) → (i : ℕ) → uses i (ids_of vs) ≤ 1
  homes_once vs h f i = go (resolve x i) refl
    where
      go : (z : Result ℕ) → resolve x i ≡ z → uses i (ids_of vs) ≤ 1
      go (refused n) e = omega (arith, id_none i n e vs h)
      go (ok a) e = omega (arith, id_block i a e vs h, f a)
