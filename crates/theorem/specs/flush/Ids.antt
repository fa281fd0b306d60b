-- The ids that flush moves, write by write: a written node's id is read at its new block, and no other id is moved. Assumes nothing.
use Rattle.std.proofs.Math.Path.{◌≡◌, refl, ap}
use Rattle.std.proofs.Common.{sym, ◌∙◌, le_refl, arith}
use mathlib.Core.List.{List, [], ◌∷◌, ◌++◌}
use Rattle.std.specs.Prelude.{Bool, true, false, ◌&&◌, not, ℕ, ◌+◌, ◌≤◌, ◌<◌, length, get_or, eqb, leb}
use Rattle.std.proofs.Math.Bool.{cond}
use Rattle.std.proofs.Math.Dec.{ltb}
use borrow.Author.Tests.{eqb-true, eqb-false, eq-eqb, leb-true, le-leb, lt-leb, lt-ltb, le-ltb, ltb-true, ltb-false}
use Rattle.node.specs.Slot.{MemNode, only}
use Rattle.node.specs.laws.base.Tests.{by_test, never}
use Rattle.tree.specs.State.{State, node_at, no_node}
use Rattle.flush.specs.Space.{Choice, choose}
use Rattle.flush.specs.Flush.{Flushing, rewritten, write_at}
use Rattle.history.specs.Walk.{moved_to}
use Rattle.history.specs.Statement.{uses}
use Rattle.theorem.specs.flush.Writes.{Ready}
use Rattle.theorem.specs.model.Sums.{sum_below, sum_but, sum_less, sum_le, sum_one, uses_append, uses_nil, uses_one, uses_single}
use Rattle.theorem.specs.flush.Blocks.{id_of, wrote_own, wrote_other, wrote_moved, wrote_next}

-- ---- a list of moved ids

abbrev pub firsts : List (ℕ × ℕ) → List ℕ
firsts [] = []
firsts (m ∷ ms) = m.0 ∷ firsts ms

firsts_append : (ms ns : List (ℕ × ℕ)) → firsts (ms ++ ns) ≡ firsts ms ++ firsts ns
firsts_append [] ns = refl
firsts_append (m ∷ ms) ns = ap (λ (z : List ℕ). m.0 ∷ z) (firsts_append ms ns)

pub moved_none : (ms : List (ℕ × ℕ)) (i : ℕ) → uses i (firsts ms) ≡ 0 → moved_to ms i ≡ []
unfolding moved_to uses
moved_none [] i h = refl
moved_none (m ∷ ms) i h =
    by_test (eqb m.0 i)
    (λ t. let z : ◌≡◌ {A = ℕ} (cond (eqb i m.0) 1 0) 1 = rw (eq-eqb i m.0 (sym (eqb-true m.0 i t))) in absurd (omega arith))
    (λ t. rw t (moved_none ms i (omega arith)))

moved_stays : (ms ns : List (ℕ × ℕ)) (i a : ℕ) → moved_to ms i ≡ a ∷ [] → moved_to (ms ++ ns) i ≡ a ∷ []
unfolding moved_to
moved_stays [] ns i a h = let z : ◌≡◌ {A = ℕ} 0 1 = ap length h in absurd (omega arith)
moved_stays (m ∷ ms) ns i a h =
    by_test (eqb m.0 i)
    (λ t. rw t (rw t at h))
    (λ t. rw t (moved_stays ms ns i a (rw t at h)))

moved_last : (ms : List (ℕ × ℕ)) (i a : ℕ) → uses i (firsts ms) ≡ 0 → moved_to (ms ++ (i, a) ∷ []) i ≡ a ∷ []
unfolding moved_to uses
moved_last [] i a h = rw (eq-eqb i i refl)
moved_last (m ∷ ms) i a h =
    by_test (eqb m.0 i)
    (λ t. let z : ◌≡◌ {A = ℕ} (cond (eqb i m.0) 1 0) 1 = rw (eq-eqb i m.0 (sym (eqb-true m.0 i t))) in absurd (omega arith))
    (λ t. rw t (moved_last ms i a (omega arith)))

-- one number more in a range
range_more : (a b i : ℕ) → a ≤ b → cond (leb a i && ltb i (b + 1)) 1 0 ≡ cond (leb a i && ltb i b) 1 0 + uses i (b ∷ [])
range_more a b i h =
    by_test (eqb i b)
    (λ t.
    let e : i ≡ b = eqb-true i b t in
    rw (uses_single i b, t) (rw e (rw (le-leb a b h, lt-ltb b (b + 1) (omega arith), le-ltb b b (le_refl b)))))
    (λ t.
    let d : i ≡ b → ⊥ = eqb-false i b t in
    by_test (ltb i b)
    (λ u. let g = ltb-true i b u in rw (uses_single i b, t, u, lt-ltb i (b + 1) (omega arith)) (omega arith))
    (λ u. let g = ltb-false i b u in rw (uses_single i b, t, u, le-ltb i (b + 1) (omega arith)) (omega arith)))

-- a list of one
one_is : (xs : List ℕ) → length xs ≤ 1 → (length xs ≡ 0 → ⊥) → (j : ℕ) × (xs ≡ j ∷ [])
one_is [] h k = absurd (k refl)
one_is (x ∷ []) h k = (x, refl)
one_is (x ∷ y ∷ ys) h k = absurd (omega arith)

none_is : (xs : List ℕ) → length xs ≡ 0 → xs ≡ []
none_is [] h = refl
none_is (x ∷ xs) h = absurd (omega arith)

id_kept : (b : Bool) (m : MemNode) (k : ℕ) → eqb (length m.id) 0 ≡ false → cond (b && eqb (length m.id) 0) (k ∷ []) m.id ≡ m.id
id_kept true m k t = rw t
id_kept false m k t = refl

-- ---- what every write keeps

-- next: the first id for new nodes
module _ (s : State) (xid n next : ℕ) where
  -- how often i is the id of a slot that is not dead
  abbrev pub ids_in : List MemNode → ℕ → ℕ
  ids_in ns i = sum_below (λ c. cond (node_at s c).dead 0 (uses i (get_or ns c no_node).id)) (length s.nodes)

  at_is : (c : ℕ) → get_or s.nodes c no_node ≡ node_at s c
  unfolding node_at
  at_is c = refl

  -- how often it is that of one that was written
  abbrev written : List MemNode → ℕ → ℕ → ℕ
  written ns i c = cond (node_at s c).dead 0 (cond ((node_at s c).dirty && not (get_or ns c no_node).dirty) (uses i (get_or ns c no_node).id) 0)

  -- a node that was written: its id and its block
  pub record Lies (w : Flushing) (c : ℕ) : Type 0 where
    pub id : ℕ
    pub address : ℕ
    pub named : (get_or w.nodes c no_node).id ≡ id ∷ []
    pub block : (get_or w.nodes c no_node).block ≡ address ∷ []
    pub moved : moved_to w.moved id ≡ address ∷ []

  pub record Moved (w : Flushing) : Type 0 where
    pub up : next ≤ w.next
    pub ids : (i : ℕ) → ids_in w.nodes i ≡ ids_in s.nodes i + cond (leb next i && ltb i w.next) 1 0
    pub first : (i : ℕ) → uses i (firsts w.moved) ≤ sum_below (written w.nodes i) (length s.nodes)
    pub lies : (c : ℕ) → c < length s.nodes → (node_at s c).dirty ≡ true → (get_or w.nodes c no_node).dirty ≡ false → Lies w c
    pub same : (c : ℕ) → 1 ≤ length (node_at s c).id → (get_or w.nodes c no_node).id ≡ (node_at s c).id

  -- an id is moved only if a written node has it
  pub first_less : (w : Flushing) → Moved w → (i : ℕ) → uses i (firsts w.moved) ≤ ids_in w.nodes i
  first_less w k i =
      let h = sum_le (written w.nodes i) (λ c. cond (node_at s c).dead 0 (uses i (get_or w.nodes c no_node).id)) (length s.nodes)
      (λ c lt. by_test (node_at s c).dead (λ t. rw t (omega arith))
      (λ t. rw t (less ((node_at s c).dirty && not (get_or w.nodes c no_node).dirty) (uses i (get_or w.nodes c no_node).id)))) in
      omega (arith, k.first i)
    where
      less : (b : Bool) (m : ℕ) → cond b m 0 ≤ m
      less true m = le_refl m
      less false m = omega arith

  -- and if the id of a node that was not is moved, two have it
  pub first_apart : (w : Flushing) → Moved w → (c : ℕ) → c < length s.nodes → (node_at s c).dead ≡ false
      → ((node_at s c).dirty && not (get_or w.nodes c no_node).dirty) ≡ false
      → (i : ℕ) → uses i (firsts w.moved) + uses i (get_or w.nodes c no_node).id ≤ ids_in w.nodes i
  first_apart w k c lt live not_written i =
      let f : ℕ → ℕ = written w.nodes i in
      let g : ℕ → ℕ = λ c. cond (node_at s c).dead 0 (uses i (get_or w.nodes c no_node).id) in
      let h = sum_less f g (length s.nodes) c lt
      (λ c lt. by_test (node_at s c).dead (λ t. rw t (omega arith))
      (λ t. rw t (less ((node_at s c).dirty && not (get_or w.nodes c no_node).dirty) (uses i (get_or w.nodes c no_node).id)))) in
      let fc : f c ≡ 0 = rw (live, not_written) in
      let gc : g c ≡ uses i (get_or w.nodes c no_node).id = rw live in
      omega (arith, k.first i, h, fc, gc)
    where
      less : (b : Bool) (m : ℕ) → cond b m 0 ≤ m
      less true m = le_refl m
      less false m = omega arith

  module _ (c : ℕ) (x : Choice) (xs : List Choice) (w : Flushing) (r : Ready s xid n w) (used : c < length s.nodes)
      (live : (node_at s c).dead ≡ false) (fresh : get_or w.nodes c no_node ≡ node_at s c)
      (dirty : (node_at s c).dirty ≡ true) (choice : choose s.info.node_size w.space ≡ x ∷ xs) (virtual : s.virtual ≡ true)
      (k : Moved w) where
    abbrev u : Flushing
    u = write_at s xid c x w

    -- the id that it is written with
    module _ (oid : ℕ) (is : id_of s w (node_at s c) ≡ oid ∷ []) where
      own : get_or u.nodes c no_node ≡ rewritten (node_at s c) x.block (oid ∷ [])
      own = wrote_own s xid n c x xs w r used fresh choice ∙ ap (rewritten (node_at s c) x.block) is

      own_id : (get_or u.nodes c no_node).id ≡ oid ∷ []
      unfolding rewritten
      own_id = ap (λ (z : MemNode). z.id) own

      own_block : (get_or u.nodes c no_node).block ≡ x.block ∷ []
      unfolding rewritten
      own_block = ap (λ (z : MemNode). z.block) own

      own_clean : (get_or u.nodes c no_node).dirty ≡ false
      unfolding rewritten
      own_clean = ap (λ (z : MemNode). z.dirty) own

      other : (d : ℕ) → (d ≡ c → ⊥) → get_or u.nodes d no_node ≡ get_or w.nodes d no_node
      other = wrote_other s xid n c x xs w r used fresh choice

      moved_is : u.moved ≡ w.moved ++ (oid, x.block) ∷ []
      unfolding only
      moved_is = wrote_moved s xid n c x xs w r used fresh choice
          ∙ ap (λ (b : Bool). w.moved ++ cond b ((cond b (only (id_of s w (node_at s c))) x.block, x.block) ∷ []) []) virtual
          ∙ ap (λ (z : List ℕ). w.moved ++ (only z, x.block) ∷ []) is

      ids_more : (i : ℕ) → ids_in u.nodes i + uses i (node_at s c).id ≡ ids_in w.nodes i + uses i (oid ∷ [])
      ids_more i =
          let f : ℕ → ℕ = λ d. cond (node_at s d).dead 0 (uses i (get_or u.nodes d no_node).id) in
          let g : ℕ → ℕ = λ d. cond (node_at s d).dead 0 (uses i (get_or w.nodes d no_node).id) in
          let fc : f c ≡ uses i (oid ∷ []) = ap (λ (b : Bool). cond b 0 (uses i (get_or u.nodes c no_node).id)) live ∙ ap (uses i) own_id in
          let gc : g c ≡ uses i (node_at s c).id = ap (λ (b : Bool). cond b 0 (uses i (get_or w.nodes c no_node).id)) live
          ∙ ap (λ (z : MemNode). uses i z.id) fresh in
          omega (
            arith,
            sum_but f g (length s.nodes) c used
                (λ d h. ap (λ (z : MemNode). cond (node_at s d).dead 0 (uses i z.id)) (other d h)),
            fc,
            gc,
          )

      first_more : (i : ℕ) → uses i (firsts u.moved) ≤ sum_below (written u.nodes i) (length s.nodes)
      first_more i =
          let f : ℕ → ℕ = written u.nodes i in
          let g : ℕ → ℕ = written w.nodes i in
          let fc : f c ≡ uses i (oid ∷ []) = rw (live, dirty, own_clean, own_id) in
          let gc : g c ≡ 0 = rw (live, dirty, fresh, dirty) in
          let m : uses i (firsts u.moved) ≡ uses i (firsts w.moved) + uses i (oid ∷ []) = ap (λ (z : List (ℕ × ℕ)). uses i (firsts z)) moved_is
          ∙ ap (uses i) (firsts_append w.moved ((oid, x.block) ∷ [])) ∙ uses_append i (firsts w.moved) (oid ∷ []) in
          omega (
            arith,
            sum_but f g (length s.nodes) c used
                (λ d h. ap (λ (z : MemNode). cond (node_at s d).dead 0 (cond ((node_at s d).dirty && not z.dirty) (uses i z.id) 0))
                (other d h)),
            fc,
            gc,
            m,
            k.first i,
          )

      lies_more : uses oid (firsts w.moved) ≡ 0 → (d : ℕ) → d < length s.nodes → (node_at s d).dirty ≡ true
          → (get_or u.nodes d no_node).dirty ≡ false → Lies u d
      lies_more none d lt t f =
          by_test (eqb d c)
          (λ e.
          let q : d ≡ c = eqb-true d c e in
          rw q (record {
            id = oid;
            address = x.block;
            named = own_id;
            block = own_block;
            moved = ap (λ (z : List (ℕ × ℕ)). moved_to z oid) moved_is
                ∙ moved_last w.moved oid x.block none;
          }))
          (λ e.
          let same = other d (eqb-false d c e) in
          let l = k.lies d lt t (sym (ap (λ (z : MemNode). z.dirty) same) ∙ f) in
          record {
            id = l.id;
            address = l.address;
            named = ap (λ (z : MemNode). z.id) same ∙ l.named;
            block = ap (λ (z : MemNode). z.block) same ∙ l.block;
            moved = ap (λ (z : List (ℕ × ℕ)). moved_to z l.id) moved_is
                ∙ moved_stays w.moved ((oid, x.block) ∷ []) l.id l.address l.moved;
          })

      -- with its own id kept
      pub same_more : (1 ≤ length (node_at s c).id → (node_at s c).id ≡ oid ∷ []) → (d : ℕ) → 1 ≤ length (node_at s d).id
          → (get_or u.nodes d no_node).id ≡ (node_at s d).id
      same_more h d p =
          by_test (eqb d c)
          (λ e. let q : d ≡ c = eqb-true d c e in rw q (own_id ∙ sym (h (rw q at p))))
          (λ e. ap (λ (z : MemNode). z.id) (other d (eqb-false d c e)) ∙ k.same d p)

    -- F: the next id that is left over. Ids of the tree stand once, and none is one that is given
    pub moves_step : (F : ℕ) → u.next ≤ F → ((i : ℕ) → ids_in s.nodes i ≤ 1) → ((i : ℕ) → next ≤ i → i < F → ids_in s.nodes i ≡ 0)
        → length (node_at s c).id ≤ 1 → Moved u
    moves_step F low once apart one =
        by_test (eqb (length (node_at s c).id) 0)
        (λ t.
        let nx : u.next ≡ w.next + 1 = wrote_next s xid n c x xs w r used fresh choice ∙ rw (t, virtual) in
        let is : id_of s w (node_at s c) ≡ w.next ∷ [] = rw (t, virtual) in
        let nil : (node_at s c).id ≡ [] = none_is (node_at s c).id (eqb-true _ 0 t) in
        let empty : (i : ℕ) → uses i (node_at s c).id ≡ 0 = λ i. ap (uses i) nil ∙ uses_nil i in
        let up = k.up in
        let none : uses w.next (firsts w.moved) ≡ 0 =
        let z : ◌≡◌ {A = ℕ} (cond (leb next w.next && ltb w.next w.next) 1 0) 0 =
        rw (le-leb next w.next up, le-ltb w.next w.next (le_refl _)) in
        omega (arith, first_less w k w.next, k.ids w.next, apart w.next up (omega arith)) in
        record {
          up = omega arith;
          ids = λ i. rw nx (omega (arith, ids_more w.next is i, empty i, k.ids i, range_more next w.next i up));
          first = first_more w.next is;
          lies = lies_more w.next is none;
          same = same_more w.next is (λ p. absurd (let z : length (node_at s c).id ≡ 0 = eqb-true _ 0 t in omega arith));
        })
        (λ t.
        let nx : u.next ≡ w.next + 0 = wrote_next s xid n c x xs w r used fresh choice ∙ rw (t, virtual) in
        let (j, own_is) = one_is (node_at s c).id one (eqb-false _ 0 t) in
        let is : id_of s w (node_at s c) ≡ j ∷ [] = id_kept s.virtual (node_at s c) w.next t ∙ own_is in
        let up = k.up in
        let here : uses j (get_or w.nodes c no_node).id ≡ 1 = ap (λ (z : MemNode). uses j z.id) fresh ∙ ap (uses j) own_is ∙ uses_one j in
        let some : 1 ≤ ids_in s.nodes j =
        let f : ℕ → ℕ = λ d. cond (node_at s d).dead 0 (uses j (get_or s.nodes d no_node).id) in
        let fc : f c ≡ 1 = rw live (ap (λ (z : MemNode). uses j z.id) (at_is c) ∙ ap (uses j) own_is ∙ uses_one j) in
        omega (arith, sum_one f (length s.nodes) c used, fc) in
        let none : uses j (firsts w.moved) ≡ 0 =
        let h = first_apart w k c used live (rw (dirty, fresh, dirty)) j in
        let z : ◌≡◌ {A = ℕ} (cond (leb next j && ltb j w.next) 1 0) 0 =
        by_test (leb next j)
        (λ a. by_test (ltb j w.next)
        (λ b. absurd (omega (arith, apart j (leb-true next j a) (let y = ltb-true j w.next b in omega arith))))
        (λ b. rw (a, b)))
        (λ a. rw a) in
        omega (arith, h, here, k.ids j, once j) in
        record {
          up = omega arith;
          ids = λ i.
              let e : w.next + 0 ≡ w.next = omega arith in
              let y : uses i (node_at s c).id ≡ uses i (j ∷ []) = ap (uses i) own_is in
              rw (nx, e) (omega (arith, ids_more j is i, y, k.ids i));
          first = first_more j is;
          lies = lies_more j is none;
          same = same_more j is (λ p. own_is);
        })

  pub moves_start : (w : Flushing) → w.nodes ≡ s.nodes → w.next ≡ next → w.moved ≡ [] → Moved w
  unfolding node_at
  moves_start w en ex em =
      record {
        up = omega (arith, ex);
        ids = λ i. rw (en, ex) (let z : ◌≡◌ {A = ℕ} (cond (leb next i && ltb i next) 1 0) 0 = empty i in omega arith);
        first = λ i. rw em (omega (arith, uses_nil i));
        lies = λ c lt t f. never t (sym (ap (λ (z : List MemNode). (get_or z c no_node).dirty) en) ∙ f);
        same = λ c p. ap (λ (z : List MemNode). (get_or z c no_node).id) en;
      }
    where
      empty : (i : ℕ) → ◌≡◌ {A = ℕ} (cond (leb next i && ltb i next) 1 0) 0
      empty i = by_test (ltb i next) (λ t. let h = ltb-true i next t in rw (lt-leb next i h)) (λ t. by_test (leb next i) (λ a. rw (a, t)) (λ a. rw a))
