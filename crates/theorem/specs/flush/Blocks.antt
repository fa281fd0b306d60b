-- Flush's books, write by write: blocks freed and blocks of nodes are those there were and the blocks whose bit turned. Assumes nothing.
use Rattle.std.specs.Prelude.{◌≡◌, List, [], ◌∷◌, ◌++◌, map, Bool, ◌&&◌, ℕ, suc, ◌+◌, ◌*◌, ◌≤◌, ◌<◌, length, get_or, leb}
use Rattle.std.proofs.Math.Path.{refl, sym, ap}
use Rattle.std.proofs.Common.{◌∙◌, arith, get_or-set_same, get_or-set_other, eqb-true, leb-true, leb-false}
use Rattle.std.proofs.Math.Bool.{true, false, cond, not}
use Rattle.std.proofs.Math.ListN.{set}
use Rattle.std.proofs.Math.Dec.{eqb}
use Rattle.std.proofs.lemmas.Bool.{eqb-false}
use Rattle.seal.specs.Bytes.{splice, AreBytes}
use Rattle.seal.specs.laws.FieldLaws.{bytes_splice}
use Rattle.node.specs.Pack.{pack_node, numbered}
use Rattle.node.specs.Slot.{MemNode, only}
use Rattle.node.specs.laws.base.Tests.{by_test, never}
use Rattle.tree.specs.State.{State, node_at, no_node}
use Rattle.flush.specs.Space.{Space, Choice, is_used, mark_used, choose, taken}
use Rattle.flush.specs.laws.SpaceLaws.{mark_same, mark_other, chosen, chosen_mapped, chosen_inside}
use Rattle.flush.specs.Flush.{Flushing, slot_number, build_of, rewritten, write_at, dead_blocks}
use Rattle.history.specs.Statement.{uses, count_below}
use Rattle.theorem.specs.flush.Writes.{Ready}
use Rattle.theorem.specs.model.Sums.{sum_below, sum_but, count_more, uses_append, uses_single, count_none}

-- ---- one write

-- the id that a node is written with
abbrev pub id_of : State → Flushing → MemNode → List ℕ
id_of s w m = cond (s.virtual && eqb (length m.id) 0) (w.next ∷ []) m.id

module _ (s : State) (xid n c : ℕ) (x : Choice) (xs : List Choice) (w : Flushing) (r : Ready s xid n w) (used : c < length s.nodes)
    (fresh : get_or w.nodes c no_node ≡ node_at s c)
    (choice : choose s.info.node_size w.space ≡ x ∷ xs) where
  abbrev v : Flushing
  v = write_at s xid c x w

  nodes_set : v.nodes ≡ set w.nodes c (rewritten (node_at s c) x.block (id_of s w (node_at s c)))
  unfolding write_at
  nodes_set = ap (λ (z : MemNode). set w.nodes c (rewritten z x.block (id_of s w z))) fresh

  pub wrote_own : get_or (write_at s xid c x w).nodes c no_node ≡ rewritten (node_at s c) x.block (id_of s w (node_at s c))
  wrote_own = ap (λ (z : List MemNode). get_or z c no_node) nodes_set
      ∙ get_or-set_same w.nodes c (rewritten (node_at s c) x.block (id_of s w (node_at s c))) no_node (omega (arith, used, r.count))

  pub wrote_other : (d : ℕ) → (d ≡ c → ⊥) → get_or (write_at s xid c x w).nodes d no_node ≡ get_or w.nodes d no_node
  wrote_other d h = ap (λ (z : List MemNode). get_or z d no_node) nodes_set
      ∙ get_or-set_other w.nodes c d (rewritten (node_at s c) x.block (id_of s w (node_at s c))) no_node h

  pub wrote_freed : (write_at s xid c x w).freed ≡ w.freed ++ (node_at s c).block
  unfolding write_at
  wrote_freed = ap (λ (z : MemNode). w.freed ++ z.block) fresh

  pub wrote_moved : (write_at s xid c x w).moved ≡ w.moved ++ cond s.virtual
      ((cond s.virtual (only (id_of s w (node_at s c))) x.block, x.block) ∷ []) []
  unfolding write_at
  wrote_moved = ap (λ (z : MemNode). w.moved ++ cond s.virtual ((cond s.virtual (only (id_of s w z)) x.block, x.block) ∷ []) []) fresh

  pub wrote_next : (write_at s xid c x w).next ≡ w.next + cond (s.virtual && eqb (length (node_at s c).id) 0) 1 0
  unfolding write_at
  wrote_next = ap (λ (z : MemNode). w.next + cond (s.virtual && eqb (length z.id) 0) 1 0) fresh

  pub wrote_image : (write_at s xid c x w).image
      ≡ splice w.image (x.block * s.info.node_size)
      (pack_node (build_of s xid (cond s.virtual (only (id_of s w (node_at s c))) x.block) c (node_at s c))
      (map (numbered (slot_number s.virtual w.nodes)) (node_at s c).entries))
  unfolding write_at
  wrote_image = ap (λ (z : MemNode). splice w.image (x.block * s.info.node_size)
      (pack_node (build_of s xid (cond s.virtual (only (id_of s w z)) x.block) c z)
      (map (numbered (slot_number s.virtual w.nodes)) z.entries))) fresh

  pub wrote_count : (write_at s xid c x w).allocated ≡ suc w.allocated
  unfolding write_at
  wrote_count = refl

  v_bits : v.space.bitmap ≡ mark_used w.space.bitmap x.block
  unfolding write_at taken
  v_bits = refl

  was_free : is_used w.space.bitmap x.block ≡ false
  was_free = (chosen s.info.node_size w.space x xs choice).block.is_free

  now_used : is_used v.space.bitmap x.block ≡ true
  now_used = ap (λ (z : List ℕ). is_used z x.block) v_bits
      ∙ mark_same w.space.bitmap x.block (chosen_mapped s.info.node_size n w.space x xs r.holds choice)

  as_was : (b : ℕ) → (b ≡ x.block → ⊥) → is_used v.space.bitmap b ≡ is_used w.space.bitmap b
  as_was b h = ap (λ (z : List ℕ). is_used z b) v_bits ∙ mark_other w.space.bitmap x.block b h

  block_in : x.block < n
  block_in = chosen_inside s.info.node_size n w.space x xs r.holds choice

-- ---- what every write keeps

-- Q: what is so of every freed block. p: the space at first
module _ (s : State) (xid n : ℕ) (p : Space) (Q : ℕ → Type 0) where
  -- a bit that turned
  abbrev pub turned : Flushing → ℕ → Bool
  turned w a = not (is_used p.bitmap a) && is_used w.space.bitmap a

  -- how often block a is one of a slot that is not dead
  abbrev pub placed : List MemNode → ℕ → ℕ
  placed ns a = sum_below (λ c. cond (node_at s c).dead 0 (uses a (get_or ns c no_node).block)) (length s.nodes)

  pub record Booked (w : Flushing) : Type 0 where
    pub bits : (a : ℕ) → is_used p.bitmap a ≡ true → is_used w.space.bitmap a ≡ true
    pub books : (a : ℕ) → uses a w.freed + placed w.nodes a ≡ uses a (dead_blocks s.nodes) + placed s.nodes a + cond (turned w a) 1 0
    pub count : w.allocated ≡ count_below (turned w) n
    pub freed : (a : ℕ) → 1 ≤ uses a w.freed → Q a
    pub level : (c : ℕ) → (get_or w.nodes c no_node).level ≡ (node_at s c).level
    pub entries : (c : ℕ) → (get_or w.nodes c no_node).entries ≡ (node_at s c).entries
    pub bytes : AreBytes w.image

  module _ (c : ℕ) (x : Choice) (xs : List Choice) (w : Flushing) (r : Ready s xid n w) (used : c < length s.nodes)
      (live : (node_at s c).dead ≡ false) (fresh : get_or w.nodes c no_node ≡ node_at s c)
      (choice : choose s.info.node_size w.space ≡ x ∷ xs) (k : Booked w) where
    abbrev u : Flushing
    u = write_at s xid c x w

    turned_own : (turned w x.block ≡ false) × (turned u x.block ≡ true)
    turned_own =
        let f : is_used w.space.bitmap x.block ≡ false = was_free s xid n c x xs w r used fresh choice in
        let g : is_used p.bitmap x.block ≡ false = by_test (is_used p.bitmap x.block) (λ t. never (k.bits x.block t) f) (λ t. t) in
        (rw (g, f), rw (g, now_used s xid n c x xs w r used fresh choice))

    turned_other : (a : ℕ) → (a ≡ x.block → ⊥) → turned w a ≡ turned u a
    turned_other a h = ap (λ (z : Bool). not (is_used p.bitmap a) && z) (sym (as_was s xid n c x xs w r used fresh choice a h))

    turned_more : (a : ℕ) → cond (turned u a) 1 0 ≡ cond (turned w a) 1 0 + uses a (x.block ∷ [])
    turned_more a =
        by_test (eqb a x.block)
        (λ t.
        let e : a ≡ x.block = eqb-true a x.block t in
        rw (uses_single a x.block, t) (rw e (rw (turned_own.0, turned_own.1))))
        (λ t. rw (uses_single a x.block, t, turned_other a (eqb-false a x.block t)) (omega arith))

    placed_more : (a : ℕ) → placed u.nodes a + uses a (node_at s c).block ≡ placed w.nodes a + uses a (x.block ∷ [])
    placed_more a =
        let f : ℕ → ℕ = λ d. cond (node_at s d).dead 0 (uses a (get_or u.nodes d no_node).block) in
        let g : ℕ → ℕ = λ d. cond (node_at s d).dead 0 (uses a (get_or w.nodes d no_node).block) in
        let fc : f c ≡ uses a (x.block ∷ []) = ap (λ (b : Bool). cond b 0 (uses a (get_or u.nodes c no_node).block)) live
        ∙ ap (λ (z : MemNode). uses a z.block) (wrote_own s xid n c x xs w r used fresh choice) ∙ block_of a in
        let gc : g c ≡ uses a (node_at s c).block = ap (λ (b : Bool). cond b 0 (uses a (get_or w.nodes c no_node).block)) live
        ∙ ap (λ (z : MemNode). uses a z.block) fresh in
        omega (
          arith,
          sum_but f g (length s.nodes) c used
              (λ d h. ap (λ (z : MemNode). cond (node_at s d).dead 0 (uses a z.block))
              (wrote_other s xid n c x xs w r used fresh choice d h)),
          fc,
          gc,
        )
      where
        block_of : (a : ℕ) → uses a (rewritten (node_at s c) x.block (id_of s w (node_at s c))).block ≡ uses a (x.block ∷ [])
        block_of a = unfold rewritten in refl

    pub books_step : ((a : ℕ) → 1 ≤ uses a (node_at s c).block → Q a)
        → ((oid : ℕ) (f : ℕ → ℕ) → AreBytes (pack_node (build_of s xid oid c (node_at s c)) (map (numbered f) (node_at s c).entries)))
        → Booked (write_at s xid c x w)
    books_step own packed =
        record {
          bits = λ a t. by_test (eqb a x.block)
              (λ e. let q : a ≡ x.block = eqb-true a x.block e in rw q (now_used s xid n c x xs w r used fresh choice))
              (λ e. as_was s xid n c x xs w r used fresh choice a (eqb-false a x.block e) ∙ k.bits a t);
          books = λ a.
              let f : uses a u.freed ≡ uses a w.freed + uses a (node_at s c).block =
              ap (uses a) (wrote_freed s xid n c x xs w r used fresh choice) ∙ uses_append a w.freed (node_at s c).block in
              omega (arith, k.books a, f, placed_more a, turned_more a);
          count = wrote_count s xid n c x xs w r used fresh choice ∙ ap suc k.count
              ∙ sym (count_more (turned w) (turned u) n x.block (block_in s xid n c x xs w r used fresh choice) turned_own.0
              turned_own.1 turned_other);
          freed = λ a q.
              let f : uses a u.freed ≡ uses a w.freed + uses a (node_at s c).block =
              ap (uses a) (wrote_freed s xid n c x xs w r used fresh choice) ∙ uses_append a w.freed (node_at s c).block in
              by_test (leb 1 (uses a w.freed)) (λ t. k.freed a (leb-true 1 _ t))
              (λ t. own a (let z = leb-false 1 (uses a w.freed) t in omega arith));
          level = λ d. by_test (eqb d c)
              (λ e. let q : d ≡ c = eqb-true d c e in rw q (ap (λ (z : MemNode). z.level) (wrote_own s xid n c x xs w r used fresh choice)
              ∙ same_level))
              (λ e. ap (λ (z : MemNode). z.level) (wrote_other s xid n c x xs w r used fresh choice d (eqb-false d c e)) ∙ k.level d);
          entries = λ d. by_test (eqb d c)
              (λ e. let q : d ≡ c = eqb-true d c e in rw q (ap (λ (z : MemNode). z.entries) (wrote_own s xid n c x xs w r used fresh choice)
              ∙ same_entries))
              (λ e. ap (λ (z : MemNode). z.entries) (wrote_other s xid n c x xs w r used fresh choice d (eqb-false d c e)) ∙ k.entries d);
          bytes = λ i. rw (wrote_image s xid n c x xs w r used fresh choice)
              (bytes_splice w.image (x.block * s.info.node_size)
              (pack_node (build_of s xid (cond s.virtual (only (id_of s w (node_at s c))) x.block) c (node_at s c))
              (map (numbered (slot_number s.virtual w.nodes)) (node_at s c).entries))
              k.bytes (packed (cond s.virtual (only (id_of s w (node_at s c))) x.block) (slot_number s.virtual w.nodes)) i);
        }
      where
        same_level : (rewritten (node_at s c) x.block (id_of s w (node_at s c))).level ≡ (node_at s c).level
        same_level = unfold rewritten in refl

        same_entries : (rewritten (node_at s c) x.block (id_of s w (node_at s c))).entries ≡ (node_at s c).entries
        same_entries = unfold rewritten in refl

  -- before the first write
  pub books_start : (w : Flushing) → w.space ≡ p → w.nodes ≡ s.nodes → w.freed ≡ dead_blocks s.nodes → w.allocated ≡ 0 → AreBytes w.image
      → ((a : ℕ) → 1 ≤ uses a (dead_blocks s.nodes) → Q a) → Booked w
  unfolding node_at
  books_start w es en ef ea b q =
      let none : (a : ℕ) → turned w a ≡ false = λ a. rw es (apart (is_used p.bitmap a)) in
      record {
        bits = λ a t. rw es t;
        books = λ a. rw (none a, en, ef) (omega arith);
        count = ea ∙ sym (count_none (turned w) n none);
        freed = λ a h. q a (rw ef at h);
        level = λ c. rw en;
        entries = λ c. rw en;
        bytes = b;
      }
    where
      apart : (t : Bool) → not t && t ≡ false
      apart true = refl
      apart false = refl
