-- The way to a key: what it loads changes nothing that the tree holds, and its steps lead toward the key. Assumes nothing.
use Rattle.std.specs.Prelude.{◌≡◌, true, eqb}
use Rattle.std.proofs.Math.Path.{refl, sym, ap, ap₂}
use Rattle.std.proofs.Common.{subst, ◌∙◌, length-append, take_at, drop_at, eqb-true}
use mathlib.Core.List.{List, [], ◌∷◌, ◌++◌}
use Rattle.std.proofs.Math.Bool.{false}
use Prim.Native.Nat.{ℕ, zero, suc, ◌+◌, ◌-◌, ◌≤◌, ◌<◌}
use Rattle.std.proofs.Math.Nat.{le_refl}
use native.Mathlib.Omega.{arith}
use Rattle.std.proofs.Math.ListN.{length, take, drop, get_or}
use Rattle.std.proofs.lemmas.List.{get_or_at}
use Rattle.std.proofs.Math.Seq.{split_at, length-take-le}
use Rattle.std.proofs.lemmas.Bool.{eqb-false}
use Rattle.node.specs.Result.{ok}
use Rattle.node.specs.laws.base.Results.{Holds, holds_ok, holds_bind}
use Rattle.node.specs.Entry.{Entry, Val, ghost, disk, mem}
use Rattle.node.specs.Find.{val_at, key_at, not_above, way_index}
use Rattle.node.specs.laws.order.Found.{above_before, above_next}
use Rattle.node.specs.laws.order.Order.{rank_lt, rank_le}
use Rattle.node.specs.Order.{less}
use Rattle.node.specs.Read.{OnDisk}
use Rattle.node.specs.Slot.{MemNode, with_value, revalued}
use Rattle.node.specs.laws.base.Tests.{by_test}
use Rattle.tree.specs.Lent.{Lent}
use Rattle.tree.specs.State.{State, node_at, put_node, add_node, with_nodes, with_entries}
use Rattle.tree.specs.laws.state.State.{val_used, at_put_same, put_count, at_add_old}
use Rattle.tree.specs.laws.state.Load.{brought, by_load}
use Rattle.tree.specs.Load.{Bounds, child_bounds, load_block, child_place, address_of, adopted, At, load_child}
use Rattle.tree.specs.Lookup.{Way, way_from, above}
use Rattle.history.specs.Statement.{uses}
use Rattle.theorem.specs.model.Bounds.{Terms, K, Items, cons, first_or, KeyIn, KeyOk}
use Rattle.theorem.specs.model.Lazy.{total, slots, names_same, node_of, Child, Ok}
use Rattle.theorem.specs.model.Lift.{Toward, Parts, parts, apart_sums}
use Rattle.theorem.specs.steps.LeafAndKeys.{Once, Along, end, down, key_at_lem, key_next}
use Rattle.theorem.specs.steps.Grow.{Steady, once_out, Grown, grown_then, grown_once, grown_up, up_same, mid, kid_ok, kid_once, load_grown}

-- ---- a load that is accepted, with what it read

with_value_lem : (v : Val) (xs : List Entry) (e : Entry) (ys : List Entry) → with_value (length xs) v (xs ++ e ∷ ys) ≡ xs
    ++ record { key = e.key; value = v } ∷ ys
unfolding with_value revalued
with_value_lem v xs e ys = rw (take_at xs (e ∷ ys) (length xs) refl, drop_at xs (e ∷ ys) (length xs) refl)

val_at_lem : (xs : List Entry) (e : Entry) (ys : List Entry) → val_at (xs ++ e ∷ ys) (length xs) ≡ e.value
unfolding val_at
val_at_lem xs e ys = ap (λ (z : Entry). z.value) (get_or_at xs e ys (record { key = []; value = ghost }) (length xs) refl)

-- the tree's numbers that a load leaves as they are
pub record Still (s u : State) : Type 0 where
  pub root : u.root ≡ s.root
  pub info : u.info ≡ s.info
  pub virtual : u.virtual ≡ s.virtual
  pub order : u.order ≡ s.order
  pub xid : u.xid ≡ s.xid

pub still_then : (s u w : State) → Still s u → Still u w → Still s w
still_then s u w a b = record {
  root = b.root ∙ a.root;
  info = b.info ∙ a.info;
  virtual = b.virtual ∙ a.virtual;
  order = b.order
      ∙ a.order;
  xid = b.xid ∙ a.xid;
}

pub still_refl : (s : State) → Still s s
still_refl s = record { root = refl; info = refl; virtual = refl; order = refl; xid = refl }

-- a sum over blocks is steady
pub blocks_steady : (a : ℕ) → Steady (λ m. uses a m.block)
unfolding uses
blocks_steady a = record { same = λ m m' p q. ap (uses a) p; none = λ m p q. ap (uses a) p }

-- Old: the blocks on which every call's image agrees with the first
module _ (τ : Terms) (rd : ℕ → MemNode) (lent : Lent) (Old : ℕ → Type 0) where
  -- what a call is lent reads as the disk that was opened, where a reference stands in the tree: its node can be in one, and its block is old
  pub record Reads (s₀ : State) : Type 0 where
    pub same : (s : State) (bs : Bounds) (level r b : ℕ) (d : OnDisk) → Still s₀ s → (at : ℕ → MemNode) (j lo hi : ℕ) → Ok τ rd at j lo hi (rd r)
        → ((a : ℕ) → 1 ≤ uses a (rd r).block → Old a)
        → address_of lent s.xid r ≡ ok b → load_block lent s.order (child_place s.info.key_size s.info.val_size bs level r) bs b
        ≡ ok d → rd r ≡ adopted s.virtual b d
    pub bare : (at : ℕ → MemNode) (r j d : ℕ) → slots rd at j d (rd r) ≡ 0

  pub grown_refl : (s : State) (l n lo hi : ℕ) → Ok τ rd (node_at s) l lo hi (node_at s n) → Once τ rd s l n → Grown τ rd s s l n lo hi
  grown_refl s l n lo hi h o =
      record {
        ok = h;
        holds = refl;
        sums = λ f k. refl;
        longer = le_refl _;
        keep = λ c k d z. refl;
        old = λ c k. refl;
        new = λ c k g. absurd (omega arith);
        none = λ c k. omega (arith, once_out τ rd s l n c o k);
      }

  -- the slots with that child brought
  abbrev bring : State → ℕ → List Entry → Entry → List Entry → ℕ → State
  bring s n xs e ys r = add_node (put_node s n (with_entries (node_at s n) (xs ++ record { key = e.key; value = mem (length s.nodes) } ∷ ys))) (rd r)

  bring_n : (s : State) (n : ℕ) (xs : List Entry) (e : Entry) (ys : List Entry) (r : ℕ) → n < length s.nodes
      → node_at (bring s n xs e ys r) n ≡ with_entries (node_at s n) (xs ++ record { key = e.key; value = mem (length s.nodes) } ∷ ys)
  bring_n s n xs e ys r h =
      let m : MemNode = with_entries (node_at s n) (xs ++ record { key = e.key; value = mem (length s.nodes) } ∷ ys) in
      at_add_old (put_node s n m) (rd r) n (omega (arith, h, put_count s n m)) ∙ at_put_same s n m h

  bring_still : (s : State) (n : ℕ) (xs : List Entry) (e : Entry) (ys : List Entry) (r : ℕ) → Still s (bring s n xs e ys r)
  unfolding add_node put_node with_nodes
  bring_still s n xs e ys r = record { root = refl; info = refl; virtual = refl; order = refl; xid = refl }

  -- the blocks at and below slot n are old
  abbrev pub Owned : State → ℕ → ℕ → Type 0
  Owned s l n = (a : ℕ) → 1 ≤ total rd (node_at s) (λ m. uses a m.block) l (node_at s n) → Old a

  own_first : (at : ℕ → MemNode) (f : MemNode → ℕ) (l : ℕ) (m : MemNode) → f m ≤ total rd at f l m
  unfolding total
  own_first at f zero m = le_refl _
  own_first at f (suc l) m = omega arith

  node_disk : (at : ℕ → MemNode) (r : ℕ) → node_of rd at (disk r) ≡ rd r
  unfolding node_of
  node_disk at r = refl

  node_mem : (at : ℕ → MemNode) (c : ℕ) → node_of rd at (mem c) ≡ at c
  unfolding node_of
  node_mem at c = refl

  -- child `length xs` of slot n loaded
  pub record Loaded (s : State) (l n lo hi : ℕ) (xs : List Entry) (e : Entry) (ys : List Entry) (a : At) : Type 0 where
    pub grown : Grown τ rd s a.state (suc l) n lo hi
    pub row : (node_at a.state n).entries ≡ xs ++ record { key = e.key; value = mem a.slot } ∷ ys
    pub still : Still s a.state
    pub live : (node_at a.state n).dead ≡ (node_at s n).dead

  pub load_loaded : (s₀ s : State) (bs : Bounds) (l n lo hi : ℕ) (xs : List Entry) (e : Entry) (ys : List Entry) (a : At) → Reads s₀ → Still s₀ s
      → (node_at s n).entries ≡ xs ++ e ∷ ys → Once τ rd s (suc l) n → Ok τ rd (node_at s) (suc l) lo hi (node_at s n) → Owned s (suc l) n
      → load_child lent s bs n (length xs) ≡ ok a → Loaded s l n lo hi xs e ys a
  unfolding with_entries
  load_loaded s₀ s bs l n lo hi xs e ys a reads st row one okn own eq =
      let at : val_at (node_at s n).entries (length xs) ≡ e.value = ap (λ (z : List Entry). val_at z (length xs)) row ∙ val_at_lem xs e ys in
      by_load lent s bs n (length xs) a eq
      (λ c q p.
      let v : e.value ≡ mem c = sym at ∙ q in
      rw p (record {
        grown = grown_refl s (suc l) n lo hi okn one;
        row = row ∙ ap (λ (z : Val). xs ++ record { key = e.key; value = z } ∷ ys) v;
        still = still_refl s;
        live = refl;
      }))
      (λ r d b q lt x y p.
      let v : e.value ≡ disk r = sym at ∙ q in
      let node : node_of rd (node_at s) e.value ≡ rd r = ap (node_of rd (node_at s)) v ∙ node_disk (node_at s) r in
      let p₀ : Parts (K τ) (Child τ (Ok τ rd (node_at s) l) (node_of rd (node_at s))) lo hi (lo + K τ e.key) xs e ys = parts (lo + K τ e.key) xs
      (omega arith) (λ z. omega arith) (rw row at okn.items) in
      let old : (c : ℕ) → 1 ≤ uses c (rd r).block → Old c = λ c h. own c
      (omega (
        arith,
        own_first (node_at s) (λ m. uses c m.block) l (rd r),
        ap (total rd (node_at s) (λ m. uses c m.block) l) node,
        apart_sums rd (node_at s) l (node_at s n) xs e ys row (λ m. uses c m.block),
      )) in
      let same : rd r ≡ adopted s.virtual b d = reads.same s _ _ r b d st (node_at s) l (K τ e.key) p₀.up_to
      (rw node at p₀.own.ok) old x y in
      let to : (brought s n (length xs) d b).state ≡ bring s n xs e ys r =
      ap₂ (λ (es : List Entry) (m : MemNode). add_node (put_node s n (with_entries (node_at s n) es)) m)
      (ap (with_value (length xs) (mem (length s.nodes))) row ∙ with_value_lem (mem (length s.nodes)) xs e ys) (sym same) in
      let z : Loaded s l n lo hi xs e ys (record { state = bring s n xs e ys r; slot = length s.nodes }) =
      record {
        grown = load_grown τ rd s l n r lo hi xs e ys row v one okn (λ at j c. reads.bare at r j c);
        row = ap (λ (y : MemNode). y.entries) (bring_n s n xs e ys r (one.used n (omega (arith, names_same n))));
        still = bring_still s n xs e ys r;
        live = ap (λ (y : MemNode). y.dead) (bring_n s n xs e ys r (one.used n (omega (arith, names_same n))));
      } in
      rw p (subst (λ (y : State). Loaded s l n lo hi xs e ys (record { state = y; slot = length s.nodes })) (sym to) z))

  -- ---- the way

  pub record Led (s : State) (l n lo hi : ℕ) (k : List ℕ) (w : Way) : Type 0 where
    pub grown : Grown τ rd s w.state l n lo hi
    pub still : Still s w.state
    pub leaf : ℕ
    pub along : Along w.state (Toward τ k) leaf l n w.steps

  inside : (s : State) (bs : Bounds) (n i : ℕ) (a : At) → load_child lent s bs n i ≡ ok a → i < length (node_at s n).entries
  inside s bs n i a e =
      by_load lent s bs n i a e
      (λ c q p. val_used (node_at s n).entries i (mem c) (λ z. let y : ◌≡◌ {A = ℕ} 0 1 = cc in omega arith) q)
      (λ r d b q lt x y p. val_used (node_at s n).entries i (disk r) (λ z. let y : ◌≡◌ {A = ℕ} 0 1 = cc in omega arith) q)

  -- the child that the way takes lies toward the key
  next_above : (k : List ℕ) → KeyIn τ k → {Q : ℕ → ℕ → MemNode → Type 0} {node : Val → MemNode} (lo hi : ℕ) (xs : List Entry) (e : Entry)
      (ys : List Entry)
      → KeyOk τ e.key → K τ e.key ≤ lo → Items (K τ) (Child τ Q node) lo hi ys → length xs ≡ not_above τ.order k (xs ++ e ∷ ys) - 1 → (g : ℕ)
      → K τ k < g → K τ k < first_or (K τ) g ys
  next_above k h lo hi xs e [] ke le r i g b = b
  next_above k h lo hi xs e (d ∷ ds) ke le (cons z p r) i g b =
      let o : ℕ = τ.order in
      let ln : length (xs ++ e ∷ d ∷ ds) ≡ length xs + suc (suc (length ds)) = length-append xs (e ∷ d ∷ ds) in
      by_test (eqb (not_above o k (xs ++ e ∷ d ∷ ds)) 0)
      (λ t.
      let q : not_above o k (xs ++ e ∷ d ∷ ds) ≡ length xs = let w = eqb-true (not_above o k (xs ++ e ∷ d ∷ ds)) 0 t in omega arith in
      let f : less o k e.key ≡ true = ap (less o k) (sym (key_at_lem xs e (d ∷ ds))) ∙ ap (λ (j : ℕ). less o k (key_at (xs ++ e ∷ d ∷ ds) j)) (sym q)
      ∙ above_next o k (xs ++ e ∷ d ∷ ds) (omega arith) in
      let w : K τ k < K τ e.key = rank_lt o τ.most k e.key h.key ke.key h.short ke.short f in
      omega arith)
      (λ t.
      let q : not_above o k (xs ++ e ∷ d ∷ ds) ≡ suc (length xs) = let w = eqb-false (not_above o k (xs ++ e ∷ d ∷ ds)) 0 t in omega arith in
      let f : less o k d.key ≡ true = ap (less o k) (sym (key_next xs e d ds)) ∙ ap (λ (j : ℕ). less o k (key_at (xs ++ e ∷ d ∷ ds) j)) (sym q)
      ∙ above_next o k (xs ++ e ∷ d ∷ ds) (omega arith) in
      rank_lt o τ.most k d.key h.key p.key.key h.short p.key.short f)

  pub toward : (k : List ℕ) → KeyIn τ k → (l lo hi : ℕ) (at : ℕ → MemNode) (m : MemNode) → Ok τ rd at (suc l) lo hi m → (xs : List Entry) (e : Entry)
      (ys : List Entry)
      → m.entries ≡ xs ++ e ∷ ys → length xs ≡ way_index τ.order k (xs ++ e ∷ ys) → Toward τ k xs e ys
  unfolding way_index
  toward k h l lo hi at m okm xs e ys row i =
      let o : ℕ = τ.order in
      let p : Parts (K τ) (Child τ (Ok τ rd at l) (node_of rd at)) lo hi (lo + K τ e.key) xs e ys = parts (lo + K τ e.key) xs (omega arith)
      (λ z. omega arith) (rw row at okm.items) in
      record {
        not_above = λ pos.
            let f : less o k e.key ≡ false = ap (less o k) (sym (key_at_lem xs e ys)) ∙ above_before o k (xs ++ e ∷ ys) (length xs) (omega arith) in
            rank_le o τ.most k e.key h.key p.own.key.key h.short p.own.key.short f;
        next = λ g b. next_above k h p.up_to hi xs e ys p.own.key (let z = p.own.below in omega arith) p.right i g b;
      }

  -- one step of the way, and what is below it
  led_step : (s : State) (l n lo hi : ℕ) (k : List ℕ) (xs : List Entry) (e : Entry) (ys : List Entry) (a : At) (v : Way) → Toward τ k xs e ys
      → (ld : Loaded s l n lo hi xs e ys a)
      → (one : Once τ rd a.state (suc l) n)
      → Led a.state l a.slot (K τ e.key) (mid τ rd a.state l n a.slot lo hi xs (record { key = e.key; value = mem a.slot }) ys
      ld.row refl one ld.grown.ok).up_to k v
      → Led s (suc l) n lo hi k (above n (length xs) v)
  unfolding above
  led_step s l n lo hi k xs e ys a v to ld one below =
      let it : Entry = record { key = e.key; value = mem a.slot } in
      let same = up_same τ rd a.state l n a.slot lo hi xs it ys ld.row refl one ld.grown.ok v.state below.grown in
      record {
        grown = grown_then τ rd s a.state v.state (suc l) n lo hi ld.grown
            (grown_up τ rd a.state l n a.slot lo hi xs it ys ld.row refl one ld.grown.ok v.state below.grown);
        still = still_then s a.state v.state ld.still below.still;
        leaf = below.leaf;
        along = down {xs = xs} {ys = ys} (ap (λ (z : MemNode). z.entries) same ∙ ld.row) refl (record { not_above = to.not_above; next = to.next })
            below.along;
      }

  pub led : (l : ℕ) (s₀ s : State) (bs : Bounds) (n lo hi : ℕ) (k : List ℕ) → Reads s₀ → Still s₀ s → s.order ≡ τ.order → KeyIn τ k
      → Once τ rd s l n → Ok τ rd (node_at s) l lo hi (node_at s n) → Owned s l n
      → Holds (Led s l n lo hi k) (way_from l lent s bs n k)
  unfolding way_from
  led zero s₀ s bs n lo hi k reads st o kk one okn own = holds_ok
      (record { grown = grown_refl s zero n lo hi okn one; still = still_refl s; leaf = n; along = end })
  led (suc l) s₀ s bs n lo hi k reads st o kk one okn own =
      holds_bind (load_child lent s bs n (way_index s.order k (node_at s n).entries)) _ λ a p.
      let es : List Entry = (node_at s n).entries in
      let i : ℕ = way_index s.order k (node_at s n).entries in
      let none : Entry = record { key = []; value = ghost } in
      let lt : i < length es = inside s bs n i a p in
      let row : es ≡ take i es ++ get_or es i none ∷ drop (suc i) es = split_at es i none lt in
      let ln : length (take i es) ≡ i = length-take-le i es (omega arith) in
      let ld : Loaded s l n lo hi (take i es) (get_or es i none) (drop (suc i) es) a =
      load_loaded s₀ s bs l n lo hi (take i es) (get_or es i none) (drop (suc i) es) a reads st row one okn own
      (ap (load_child lent s bs n) ln ∙ p) in
      let to : Toward τ k (take i es) (get_or es i none) (drop (suc i) es) =
      toward k kk l lo hi (node_at s) (node_at s n) okn (take i es) (get_or es i none) (drop (suc i) es) row
      (ln ∙ ap₂ (λ (x : ℕ) (y : List Entry). way_index x k y) o row) in
      let one' : Once τ rd a.state (suc l) n = grown_once τ rd s a.state (suc l) n lo hi ld.grown one in
      let it : Entry = record { key = (get_or es i none).key; value = mem a.slot } in
      let own' : Owned a.state l a.slot = λ c h. own c
      (let f : MemNode → ℕ = λ m. uses c m.block in
      omega (
        arith,
        ld.grown.sums f (blocks_steady c),
        apart_sums rd (node_at a.state) l (node_at a.state n) (take i es) it (drop (suc i) es)
            ld.row f,
        ap (total rd (node_at a.state) f l) (node_mem (node_at a.state) a.slot),
      )) in
      let st' : Still s₀ a.state = still_then s₀ s a.state st ld.still in
      holds_bind (way_from l lent a.state (child_bounds s.order bs (node_at s n).entries (way_index s.order k (node_at s n).entries))
      a.slot k) _ λ v y.
      holds_ok (subst (λ (j : ℕ). Led s (suc l) n lo hi k (above n j v)) ln
      (led_step s l n lo hi k (take i es) (get_or es i none) (drop (suc i) es) a v to ld one'
      ((led l s₀ a.state (child_bounds s.order bs (node_at s n).entries (way_index s.order k (node_at s n).entries)) a.slot _ _ k reads st'
      (ld.still.order ∙ o) kk
      (kid_once τ rd a.state l n a.slot lo hi (take i es) it (drop (suc i) es) ld.row refl one' ld.grown.ok)
      (kid_ok τ rd a.state l n a.slot lo hi (take i es) it (drop (suc i) es) ld.row refl one' ld.grown.ok) own'
      ).at v y)))
