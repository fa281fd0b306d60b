-- What a walk meets: blocks of the image, ids that are u64; and on another image that agrees on those blocks the walk is the same. Assumes nothing.
use Rattle.std.specs.Prelude.{◌≡◌, List, [], ◌∷◌, ◌++◌, Bool, true, cond, length, eqb, leb}
use Rattle.std.proofs.Math.Path.{refl}
use Rattle.std.proofs.Common.{ap, ◌∙◌, arith, eqb-true, eq-eqb, leb-true, leb-false}
use Prim.Native.Nat.{ℕ, zero, suc, ◌+◌, ◌^◌, ◌≤◌, ◌<◌}
use Rattle.seal.specs.Bytes.{AreBytes}
use Rattle.node.specs.Result.{Result, ok, ◌>>=◌, ◌>>◌, check}
use Rattle.node.specs.Refusals as refusal
use Rattle.node.specs.Find.{val_at}
use Rattle.node.specs.Read.{OnDisk, info_at}
use Rattle.node.specs.declared.info.BTreeInfo.{BTreeInfo}
use Rattle.node.specs.laws.base.Tests.{by_test}
use Rattle.node.specs.laws.base.Results.{Holds, holds_ok, holds_bind, holds_check}
use Rattle.tree.specs.Lent.{Lent, blocks, block_at}
use Rattle.tree.specs.Load.{Bounds, unbounded, child_bounds, load_block, root_place, child_place, disk_number, root_holds}
use Rattle.history.specs.Walk.{Disk, resolve, Visit, Walk, Walked, joined, walk_kids, walk_below, walk_from, blocks_of, ids_of}
use Rattle.history.specs.Statement.{uses}
use Rattle.theorem.specs.disk.Walk.{blocks_append}
use Rattle.theorem.specs.flush.Seen.{load_parts, load_small, load_again}

ids_append : (i : ℕ) (xs ys : List Visit) → uses i (ids_of (xs ++ ys)) ≡ uses i (ids_of xs) + uses i (ids_of ys)
unfolding ids_of uses
ids_append i [] ys = omega arith
ids_append i (x ∷ xs) ys = let h = ids_append i xs ys in omega arith

module _ (L L' : Lent) (o xid xid' : ℕ) (mv mv' : List (ℕ × ℕ)) (bytes : AreBytes L.image) (more : blocks L ≤ blocks L')
    (size : L'.size ≡ L.size) (maps : L'.map ≡ L.map)
    (resolved : (r : ℕ) → resolve (record { lent = L'; order = o; xid = xid'; moved = mv' }) r ≡ resolve
    (record { lent = L; order = o; xid = xid; moved = mv }) r) where
  abbrev x : Disk
  x = record { lent = L; order = o; xid = xid; moved = mv }

  abbrev x' : Disk
  x' = record { lent = L'; order = o; xid = xid'; moved = mv' }

  -- of the nodes met
  pub record Met (ns : List Visit) : Type 0 where
    pub inside : (a : ℕ) → 1 ≤ uses a (blocks_of ns) → a < blocks L
    pub small : (i : ℕ) → 1 ≤ uses i (ids_of ns) → i < 2 ^ 64

  abbrev Agrees : List Visit → Type 0
  Agrees ns = (a : ℕ) → 1 ≤ uses a (blocks_of ns) → block_at L' a ≡ block_at L a

  record Visited (again : Result Walk) (w : Walk) : Type 0 where
    met : Met w.nodes
    same : Agrees w.nodes → again ≡ ok w

  pub met_none : Met []
  unfolding blocks_of ids_of uses
  met_none = record { inside = λ a h. absurd (omega arith); small = λ i h. absurd (omega arith) }

  first_block : (v : Visit) (ns : List Visit) (a : ℕ) → uses a (blocks_of (v ∷ ns)) ≡ cond (eqb a v.block) 1 0 + uses a (blocks_of ns)
  unfolding blocks_of uses
  first_block v ns a = refl

  first_id : (v : Visit) (ns : List Visit) (i : ℕ) → uses i (ids_of (v ∷ ns)) ≡ cond (eqb i v.id) 1 0 + uses i (ids_of ns)
  unfolding ids_of uses
  first_id v ns i = refl

  first_agrees : (v : Visit) (ns : List Visit) → Agrees (v ∷ ns) → block_at L' v.block ≡ block_at L v.block
  first_agrees v ns h =
      let z : ◌≡◌ {A = ℕ} (cond (eqb v.block v.block) 1 0) 1 = rw (eq-eqb v.block v.block refl) in
      h v.block (omega (arith, first_block v ns v.block))

  met_cons : (v : Visit) (ns : List Visit) → v.block < blocks L → v.id < 2 ^ 64 → Met ns → Met (v ∷ ns)
  met_cons v ns p q m =
      record {
        inside = λ a h. by_test (eqb a v.block)
            (λ t. let e : a ≡ v.block = eqb-true a v.block t in omega arith)
            (λ t. let z : ◌≡◌ {A = ℕ} (cond (eqb a v.block) 1 0) 0 = rw t in m.inside a (omega (arith, first_block v ns a)));
        small = λ i h. by_test (eqb i v.id)
            (λ t. let e : i ≡ v.id = eqb-true i v.id t in omega arith)
            (λ t. let z : ◌≡◌ {A = ℕ} (cond (eqb i v.id) 1 0) 0 = rw t in m.small i (omega (arith, first_id v ns i)));
      }

  met_append : (ms ns : List Visit) → Met ms → Met ns → Met (ms ++ ns)
  met_append ms ns a b =
      record {
        inside = λ c h. by_test (leb 1 (uses c (blocks_of ms))) (λ t. a.inside c (leb-true 1 _ t))
            (λ t. let z = leb-false 1 (uses c (blocks_of ms)) t in b.inside c (omega (arith, blocks_append c ms ns)));
        small = λ c h. by_test (leb 1 (uses c (ids_of ms))) (λ t. a.small c (leb-true 1 _ t))
            (λ t. let z = leb-false 1 (uses c (ids_of ms)) t in b.small c (omega (arith, ids_append c ms ns)));
      }

  chain : (r a : ℕ) (cs : Bounds) (c : OnDisk) (load : ℕ → Result OnDisk) (below : OnDisk → Result Walk) (w w' : Walk) (tail : Result Walk)
      → resolve x' r ≡ ok a → load a ≡ ok c → below c ≡ ok w → tail ≡ ok w'
      → (resolve x' r >>= λ a'. load a' >>= λ c'. below c' >>= λ u. tail >>= λ u'. ok (joined (record { block = a'; id = c'.node.oid }) u u')) ≡ ok
      (joined (record { block = a; id = c.node.oid }) w w')
  chain r a cs c load below w w' tail p q h k = rw (p, q, h, k)

  kids_visited : (t : BTreeInfo) (f f' : Bounds → OnDisk → Result Walk) → ((cs : Bounds) (c : OnDisk) → Holds (Visited (f' cs c)) (f cs c))
      → (bs : Bounds) (d : OnDisk) (m i : ℕ)
      → Holds (Visited (walk_kids f' x' t bs d m i)) (walk_kids f x t bs d m i)
  unfolding walk_kids
  kids_visited t f f' ih bs d zero i = holds_ok (record { met = met_none; same = λ h. refl })
  kids_visited t f f' ih bs d (suc m) i =
      let r : ℕ = disk_number (val_at d.entries i) in
      let cs : Bounds = child_bounds o bs d.entries i in
      let load : Lent → ℕ → Result OnDisk = λ l a. load_block l o (child_place t.key_size t.val_size cs d.node.level r) cs a in
      holds_bind (resolve x r) _ λ a p.
      holds_bind (load L a) _ λ c q.
      holds_bind (f cs c) _ λ w e.
      holds_bind (walk_kids f x t bs d m (suc i)) _ λ w' e'.
      holds_ok (step r a cs c (load L) (load L') (f' cs) w w' (walk_kids f' x' t bs d m (suc i)) p
      (load_parts L o (child_place t.key_size t.val_size cs d.node.level r) cs a c q).inside
      (load_small L o (child_place t.key_size t.val_size cs d.node.level r) cs a c bytes q).0
      (λ z. load_again L L' o (child_place t.key_size t.val_size cs d.node.level r) cs a c more z q)
      ((ih cs c).at w e) ((kids_visited t f f' ih bs d m (suc i)).at w' e'))
    where
      step : (r a : ℕ) (cs : Bounds) (c : OnDisk) (load load' : ℕ → Result OnDisk) (below : OnDisk → Result Walk) (w w' : Walk) (tail : Result Walk)
          → resolve x r ≡ ok a → a < blocks L → c.node.oid < 2 ^ 64
          → (block_at L' a ≡ block_at L a → load' a ≡ ok c) → Visited (below c) w → Visited tail w'
          → Visited (resolve x' r >>= λ a'. load' a' >>= λ c'. below c' >>= λ u. tail >>= λ u'. ok
          (joined (record { block = a'; id = c'.node.oid }) u u')) (joined (record { block = a; id = c.node.oid }) w w')
      step r a cs c load load' below w w' tail p inn sm ld h k =
          let v : Visit = record { block = a; id = c.node.oid } in
          unfold joined in
          record {
            met = met_cons v (w.nodes ++ w'.nodes) inn sm (met_append w.nodes w'.nodes h.met k.met);
            same = λ g.
                chain r a cs c load' below w w' tail (resolved r ∙ p) (ld (first_agrees v (w.nodes ++ w'.nodes) g))
                (h.same (λ b z. g b (omega (arith, first_block v (w.nodes ++ w'.nodes) b, blocks_append b w.nodes w'.nodes))))
                (k.same (λ b z. g b (omega (arith, first_block v (w.nodes ++ w'.nodes) b, blocks_append b w.nodes w'.nodes))));
          }

  below_visited : (n : ℕ) (t : BTreeInfo) (bs : Bounds) (d : OnDisk) → Holds (Visited (walk_below n x' t bs d)) (walk_below n x t bs d)
  unfolding walk_below
  below_visited zero t bs d = holds_ok (record { met = met_none; same = λ h. refl })
  below_visited (suc n) t bs d = kids_visited t (walk_below n x t) (walk_below n x' t) (below_visited n t) bs d (length d.entries) 0

  -- the whole walk
  pub record Wandered (again : Result Walked) (w : Walked) : Type 0 where
    pub met : Met w.walk.nodes
    pub same : ((a : ℕ) → 1 ≤ uses a (blocks_of w.walk.nodes) → block_at L' a ≡ block_at L a) → again ≡ ok w

  root_same : (a : ℕ) (v : Bool) (d : OnDisk) → block_at L' a ≡ block_at L a → root_holds L' a v d ≡ root_holds L a v d
  unfolding root_holds
  root_same a v d e = rw (e, size)

  pub walk_visited : (r : ℕ) → Holds (Wandered (walk_from x' r)) (walk_from x r)
  unfolding walk_from
  walk_visited r =
      holds_bind (resolve x r) _ λ a p.
      holds_bind (load_block L o (root_place r) unbounded a) _ λ d q.
      holds_check refusal.root (root_holds L a (leb 1 (length L.map)) d) _ λ h.
      holds_bind (walk_below d.node.level x (info_at (block_at L a)) unbounded d) _ λ w e.
      holds_ok (step a d w p q h ((below_visited d.node.level (info_at (block_at L a)) unbounded d).at w e))
    where
      from : ℕ → OnDisk → Result Walked
      from a d = check refusal.root (root_holds L' a (leb 1 (length L'.map)) d)
          >> (walk_below d.node.level x' (info_at (block_at L' a)) unbounded d
          >>= λ w. ok (record {
            walk = record { nodes = record { block = a; id = d.node.oid } ∷ w.nodes; entries = w.entries };
            info =
                info_at (block_at L' a);
          }))

      step : (a : ℕ) (d : OnDisk) (w : Walk) → resolve x r ≡ ok a → load_block L o (root_place r) unbounded a ≡ ok d
          → root_holds L a (leb 1 (length L.map)) d ≡ true
          → Visited (walk_below d.node.level x' (info_at (block_at L a)) unbounded d) w
          → Wandered (resolve x' r >>= λ a. load_block L' o (root_place r) unbounded a >>= λ d. from a d)
          (record {
            walk = record { nodes = record { block = a; id = d.node.oid } ∷ w.nodes; entries = w.entries };
            info =
                info_at (block_at L a);
          })
      step a d w p q h k =
          let v : Visit = record { block = a; id = d.node.oid } in
          record {
            met = met_cons v w.nodes (load_parts L o (root_place r) unbounded a d q).inside
                (load_small L o (root_place r) unbounded a d bytes q).0 k.met;
            same = λ g.
                let b : block_at L' a ≡ block_at L a = first_agrees v w.nodes g in
                let ld : load_block L' o (root_place r) unbounded a ≡ ok d = load_again L L' o (root_place r) unbounded a d more b q in
                let rh : root_holds L' a (leb 1 (length L'.map)) d ≡ true = ap (λ (z : List ℕ). root_holds L' a (leb 1 (length z)) d) maps
                ∙ root_same a (leb 1 (length L.map)) d b ∙ h in
                let wk : walk_below d.node.level x' (info_at (block_at L' a)) unbounded d ≡ ok w =
                ap (λ (z : List ℕ). walk_below d.node.level x' (info_at z) unbounded d) b
                ∙ k.same (λ c z. g c (omega (arith, first_block v w.nodes c))) in
                rw (resolved r ∙ p, ld, rh, wk)
                (ap (λ (z : List ℕ). ok (record { walk = record { nodes = v ∷ w.nodes; entries = w.entries }; info = info_at z })) b);
          }
