-- Flush: children before parents, each dirty node in a block that was free; what is written stays as it was written. Assumes nothing.
use Rattle.std.specs.Prelude.{◌≡◌, Bool, ◌&&◌, length, get_or, ltb, eqb, leb}
use Rattle.std.proofs.Math.Path.{refl, ap, subst}
use Rattle.std.proofs.Common.{sym, ap₂, ◌∙◌, mul-le-mul_right, suc-mul, arith, length-set, get_or-set_same, get_or-set_other, leb-true, leb-false, ltb-true, ltb-false, eqb-true}
use mathlib.Core.List.{List, [], ◌∷◌, map}
use Rattle.std.proofs.Math.Bool.{true, false, cond}
use Prim.Native.Nat.{ℕ, zero, suc, ◌+◌, ◌*◌, ◌≤◌, ◌<◌}
use Rattle.std.proofs.Math.ListN.{set}
use Rattle.std.proofs.lemmas.Bool.{eqb-false}
use Rattle.seal.specs.Bytes.{window, splice}
use Rattle.seal.specs.laws.WindowLaws.{length_splice, window_splice_before, window_splice_after, window_splice_same}
use Rattle.node.specs.Entry.{Entry, Val, ghost, leaf, disk, mem}
use Rattle.node.specs.Pack.{pack_node, numbered, numbered_value}
use Rattle.node.specs.Slot.{MemNode, only, number_of}
use Rattle.node.specs.laws.base.Tests.{by_test, never}
use Rattle.tree.specs.State.{State, node_at, no_node}
use Rattle.tree.specs.laws.state.State.{by_val}
use Rattle.flush.specs.Space.{Space, Choice, is_used, mark_used, choose, taken, usable, space_holds}
use Rattle.flush.specs.laws.SpaceLaws.{mark_same, mark_other, by_list, chosen, chosen_mapped, chosen_inside, taken_holds, usable_zero, usable_less}
use Rattle.flush.specs.Flush.{Flushing, slot_number, build_of, rewritten, write_at, write_node, write_kids, write_from, sum_kids, sum_from}
use Rattle.theorem.specs.model.Lazy.{sum_map, names, node_of, slots, slots_in, names_same}
use Rattle.theorem.specs.steps.Grow.{names_is, names_apart}

-- ---- one block of an image written

module _ (size : ℕ) (l vs : List ℕ) (a n : ℕ) (long : length l ≡ n * size) (full : length vs ≡ size) (within : a < n) where
  inside : a * size + size ≤ length l
  inside = let h : suc a * size ≤ n * size = mul-le-mul_right size within in let k : suc a * size ≡ a * size + size = suc-mul a size in omega arith

  pub block_same : window (a * size) size (splice l (a * size) vs) ≡ vs
  block_same = ap (λ (k : ℕ). window (a * size) k (splice l (a * size) vs)) (sym full) ∙ window_splice_same l (a * size) vs (omega (arith, inside))

  pub block_other : (b : ℕ) → (b ≡ a → ⊥) → window (b * size) size (splice l (a * size) vs) ≡ window (b * size) size l
  block_other b d =
      by_test (ltb b a)
      (λ t.
      let h : suc b * size ≤ a * size = mul-le-mul_right size (ltb-true b a t) in
      let k : suc b * size ≡ b * size + size = suc-mul b size in
      window_splice_before l (a * size) vs (b * size) size (omega arith) (omega (arith, inside)))
      (λ t.
      let g : a < b = let w = ltb-false b a t in omega arith in
      let h : suc a * size ≤ b * size = mul-le-mul_right size g in
      let k : suc a * size ≡ a * size + size = suc-mul a size in
      window_splice_after l (a * size) vs (b * size) size (omega (arith, full)) (omega (arith, inside)))

  pub image_long : length (splice l (a * size) vs) ≡ n * size
  image_long = length_splice l (a * size) vs (omega (arith, inside, full)) ∙ long

pub zero_not : (a : ℕ) → (1 ≤ a → ⊥) → a ≡ 0
zero_not zero h = refl
zero_not (suc a) h = absurd (h (omega arith))

-- ---- numbers of children

-- how often entries name slot c
abbrev pub naming : ℕ → List Entry → ℕ
naming c es = sum_map (λ e. names c e.value) es

pub numbered_same : (f g : ℕ → ℕ) (es : List Entry) → ((c : ℕ) → 1 ≤ naming c es → f c ≡ g c) → map (numbered f) es ≡ map (numbered g) es
unfolding numbered numbered_value names
numbered_same f g [] h = refl
numbered_same f g (e ∷ es) h =
    ap₂ (λ (v : Val) (r : List Entry). record { key = e.key; value = v } ∷ r)
    (by_val e.value
    (λ q. rw q)
    (λ b q. rw q)
    (λ r q. rw q)
    (λ c q. let k : f c ≡ g c = h c (let w : names c e.value ≡ 1 = ap (names c) q ∙ names_same c in omega arith) in rw (q, k)))
    (numbered_same f g es (λ c p. h c (omega arith)))

-- a child in a slot, or none
pub by_mem {ℓ} : {C : Type ℓ} (v : Val) → (((c : ℕ) → v ≡ mem c → ⊥) → C) → ((c : ℕ) → v ≡ mem c → C) → C
by_mem ghost f g = f (λ c q. let z : ◌≡◌ {A = ℕ} 0 1 = cc in omega arith)
by_mem (leaf b) f g = f (λ c q. let z : ◌≡◌ {A = ℕ} 0 1 = cc in omega arith)
by_mem (disk r) f g = f (λ c q. let z : ◌≡◌ {A = ℕ} 0 1 = cc in omega arith)
by_mem (mem c) f g = g c refl

module _ (f : ℕ → Flushing → Flushing) (e : Entry) (es : List Entry) (w : Flushing) where
  pub kids_mem : (c : ℕ) → e.value ≡ mem c → write_kids f (e ∷ es) w ≡ write_kids f es (f c w)
  unfolding write_kids
  kids_mem c q = rw q

  pub kids_none : ((c : ℕ) → e.value ≡ mem c → ⊥) → write_kids f (e ∷ es) w ≡ write_kids f es w
  unfolding write_kids
  kids_none h = by_val e.value (λ q. rw q) (λ b q. rw q) (λ r q. rw q) (λ c q. absurd (h c q))

module _ (f : ℕ → ℕ) (e : Entry) (es : List Entry) where
  pub sum_mem : (c : ℕ) → e.value ≡ mem c → sum_kids f (e ∷ es) ≡ f c + sum_kids f es
  unfolding sum_kids
  sum_mem c q = rw q

  pub sum_none : ((c : ℕ) → e.value ≡ mem c → ⊥) → sum_kids f (e ∷ es) ≡ sum_kids f es
  unfolding sum_kids
  sum_none h = by_val e.value (λ q. rw q (omega arith)) (λ b q. rw q (omega arith)) (λ r q. rw q (omega arith)) (λ c q. absurd (h c q))

-- a slot that is named is that slot
pub one_of : (d c : ℕ) → 1 ≤ names d (mem c) → d ≡ c
one_of d c p = by_test (eqb d c) (λ t. eqb-true d c t) (λ t. absurd (omega (arith, names_apart d c (eqb-false d c t))))

module _ (s : State) (xid n : ℕ) where
  abbrev size : ℕ
  size = s.info.node_size

  abbrev slot : Flushing → ℕ → MemNode
  slot w c = get_or w.nodes c no_node

  abbrev block : Flushing → ℕ → List ℕ
  block w a = window (a * size) size w.image

  -- what a dirty node became
  pub record Written (w : Flushing) (c : ℕ) : Type 0 where
    pub address : ℕ
    pub id : List ℕ
    pub node : get_or w.nodes c no_node ≡ rewritten (node_at s c) address id
    pub inside : address < n
    pub marked : is_used w.space.bitmap address ≡ true
    pub bytes : window (address * s.info.node_size) s.info.node_size w.image
        ≡ pack_node (build_of s xid (cond s.virtual (only id) address) c (node_at s c))
        (map (numbered (slot_number s.virtual w.nodes)) (node_at s c).entries)

  pub record Done (w : Flushing) (c : ℕ) : Type 0 where
    pub written : (node_at s c).dirty ≡ true → Written w c
    pub same : (node_at s c).dirty ≡ false → get_or w.nodes c no_node ≡ node_at s c

  -- a space and an image of n blocks
  pub record Ready (w : Flushing) : Type 0 where
    pub holds : space_holds s.info.node_size n w.space ≡ true
    pub long : length w.image ≡ n * s.info.node_size
    pub count : length w.nodes ≡ length s.nodes

  -- a part of the walk over slots counted by C, with g dirty ones
  pub record Wrote (C : ℕ → ℕ) (g : ℕ) (w w' : Flushing) : Type 0 where
    pub ready : Ready w'
    pub keep : (c : ℕ) → C c ≡ 0 → get_or w'.nodes c no_node ≡ get_or w.nodes c no_node
    pub bits : (a : ℕ) → is_used w.space.bitmap a ≡ true → is_used w'.space.bitmap a ≡ true
    pub stays : (a : ℕ) → is_used w.space.bitmap a ≡ true → block w' a ≡ block w a
    pub free : (a : ℕ) → is_used w'.space.bitmap a ≡ false → block w' a ≡ block w a
    pub done : (c : ℕ) → 1 ≤ C c → Done w' c
    pub spent : usable s.info.node_size w'.space + g ≡ usable s.info.node_size w.space

  -- what is done stays done where its slot, its children's slots and the blocks in use are as they were
  pub done_frame : (w w' : Flushing) (c : ℕ) → get_or w'.nodes c no_node ≡ get_or w.nodes c no_node
      → ((d : ℕ) → 1 ≤ naming d (node_at s c).entries → get_or w'.nodes d no_node ≡ get_or w.nodes d no_node)
      → ((a : ℕ) → is_used w.space.bitmap a ≡ true → is_used w'.space.bitmap a ≡ true)
      → ((a : ℕ) → is_used w.space.bitmap a ≡ true → block w' a ≡ block w a) → Done w c → Done w' c
  unfolding slot_number
  done_frame w w' c own kids bits stays h =
      record {
        written = λ t.
            let x = h.written t in
            record {
              address = x.address;
              id = x.id;
              node = own ∙ x.node;
              inside = x.inside;
              marked = bits x.address x.marked;
              bytes = stays x.address x.marked ∙ x.bytes
                  ∙ ap (pack_node (build_of s xid (cond s.virtual (only x.id) x.address) c (node_at s c)))
                  (numbered_same (slot_number s.virtual w.nodes) (slot_number s.virtual w'.nodes) (node_at s c).entries
                  (λ d p. ap (number_of s.virtual) (sym (kids d p))));
            };
        same = λ f. own ∙ h.same f;
      }

  used_back : (w w' : Flushing) (a : ℕ) → ((a : ℕ) → is_used w.space.bitmap a ≡ true → is_used w'.space.bitmap a ≡ true)
      → is_used w'.space.bitmap a ≡ false → is_used w.space.bitmap a ≡ false
  used_back w w' a h f = by_test (is_used w.space.bitmap a) (λ t. never (h a t) f) (λ t. t)

  -- ---- one part after another: no slot is in both, and the children of the first's slots are the first's
  pub wrote_then : (C D : ℕ → ℕ) (g h : ℕ) (w u v : Flushing) → ((x : ℕ) → C x + D x ≤ 1)
      → ((c d : ℕ) → 1 ≤ C c → 1 ≤ naming d (node_at s c).entries → 1 ≤ C d)
      → Wrote C g w u → Wrote D h u v → Wrote (λ x. C x + D x) (g + h) w v
  wrote_then C D g h w u v apart closed a b =
      let dc : (x : ℕ) → 1 ≤ C x → D x ≡ 0 = λ x p. omega (arith, apart x) in
      record {
        ready = b.ready;
        keep = λ c z. b.keep c (omega arith) ∙ a.keep c (omega arith);
        bits = λ x t. b.bits x (a.bits x t);
        stays = λ x t. b.stays x (a.bits x t) ∙ a.stays x t;
        free = λ x f. b.free x f ∙ a.free x (used_back u v x b.bits f);
        done = λ c p.
            by_test (leb 1 (C c))
            (λ t.
            let k : 1 ≤ C c = leb-true 1 (C c) t in
            done_frame u v c (b.keep c (dc c k)) (λ d q. b.keep d (dc d (closed c d k q))) b.bits b.stays (a.done c k))
            (λ t. b.done c (let k = leb-false 1 (C c) t in omega arith));
        spent = let x = a.spent in let y = b.spent in omega arith;
      }

  pub wrote_none : (w : Flushing) → Ready w → (C : ℕ → ℕ) → ((x : ℕ) → C x ≡ 0) → Wrote C 0 w w
  wrote_none w r C z =
      record {
        ready = r;
        keep = λ c q. refl;
        bits = λ a t. t;
        stays = λ a t. refl;
        free = λ a t. refl;
        done = λ c p. absurd (omega (arith, z c));
        spent = omega arith;
      }

  -- ---- one slot
  module _ (c : ℕ) (w : Flushing) (r : Ready w) (used : c < length s.nodes) (fresh : get_or w.nodes c no_node ≡ node_at s c)
      (alone : naming c (node_at s c).entries ≡ 0) where
    clean_one : (node_at s c).dirty ≡ false → Wrote (λ x. names x (mem c)) 0 w (write_node s xid c w)
    unfolding write_node
    clean_one f =
        let f' : (get_or w.nodes c no_node).dirty ≡ false = ap (λ (m : MemNode). m.dirty) fresh ∙ f in
        rw f' (record {
          ready = r;
          keep = λ d q. refl;
          bits = λ a t. t;
          stays = λ a t. refl;
          free = λ a t. refl;
          done = λ d p.
              let q : d ≡ c = one_of d c p in
              rw q (record { written = λ t. never t f; same = λ t. fresh });
          spent = omega arith;
        })

    -- its node, and the block chosen for it
    module _ (t : (node_at s c).dirty ≡ true) (x : Choice) (xs : List Choice) (choice : choose s.info.node_size w.space ≡ x ∷ xs)
        (packs : (oid : ℕ) (f : ℕ → ℕ) → length (pack_node (build_of s xid oid c (node_at s c)) (map (numbered f) (node_at s c).entries))
        ≡ s.info.node_size) where
      abbrev v : Flushing
      v = write_at s xid c x w

      abbrev a : ℕ
      a = x.block

      abbrev id_of : MemNode → List ℕ
      id_of m = cond (s.virtual && eqb (length m.id) 0) (w.next ∷ []) m.id

      abbrev packed : MemNode → List ℕ
      packed m = pack_node (build_of s xid (cond s.virtual (only (id_of m)) a) c m) (map (numbered (slot_number s.virtual w.nodes)) m.entries)

      v_nodes : v.nodes ≡ set w.nodes c (rewritten (node_at s c) a (id_of (node_at s c)))
      unfolding write_at
      v_nodes = ap (λ (m : MemNode). set w.nodes c (rewritten m a (id_of m))) fresh

      v_image : v.image ≡ splice w.image (a * s.info.node_size) (packed (node_at s c))
      unfolding write_at
      v_image = ap (λ (m : MemNode). splice w.image (a * s.info.node_size) (packed m)) fresh

      v_bits : v.space.bitmap ≡ mark_used w.space.bitmap a
      unfolding write_at taken
      v_bits = refl

      v_space : v.space ≡ taken w.space x
      unfolding write_at
      v_space = refl

      full : length (packed (node_at s c)) ≡ s.info.node_size
      full = packs (cond s.virtual (only (id_of (node_at s c))) a) (slot_number s.virtual w.nodes)

      a_in : a < n
      a_in = chosen_inside s.info.node_size n w.space x xs r.holds choice

      a_free : is_used w.space.bitmap a ≡ false
      a_free = (chosen s.info.node_size w.space x xs choice).block.is_free

      v_own : get_or v.nodes c no_node ≡ rewritten (node_at s c) a (id_of (node_at s c))
      v_own = ap (λ (z : List MemNode). get_or z c no_node) v_nodes
          ∙ get_or-set_same w.nodes c (rewritten (node_at s c) a (id_of (node_at s c))) no_node
          (omega (arith, used, r.count))

      v_other : (d : ℕ) → (d ≡ c → ⊥) → get_or v.nodes d no_node ≡ get_or w.nodes d no_node
      v_other d h = ap (λ (z : List MemNode). get_or z d no_node) v_nodes ∙ get_or-set_other w.nodes c d
          (rewritten (node_at s c) a (id_of (node_at s c))) no_node h

      v_block : (b : ℕ) → (b ≡ a → ⊥) → block v b ≡ block w b
      v_block b h = ap (window (b * s.info.node_size) s.info.node_size) v_image ∙ block_other s.info.node_size w.image
          (packed (node_at s c)) a n r.long full a_in b h

      v_marked : is_used v.space.bitmap a ≡ true
      v_marked = ap (λ (z : List ℕ). is_used z a) v_bits ∙ mark_same w.space.bitmap a
          (chosen_mapped s.info.node_size n w.space x xs r.holds choice)

      v_mark : (b : ℕ) → (b ≡ a → ⊥) → is_used v.space.bitmap b ≡ is_used w.space.bitmap b
      v_mark b h = ap (λ (z : List ℕ). is_used z b) v_bits ∙ mark_other w.space.bitmap a b h

      numbers : map (numbered (slot_number s.virtual w.nodes)) (node_at s c).entries ≡ map (numbered (slot_number s.virtual v.nodes))
          (node_at s c).entries
      unfolding slot_number
      numbers =
          numbered_same (slot_number s.virtual w.nodes) (slot_number s.virtual v.nodes) (node_at s c).entries
          (λ d p. ap (number_of s.virtual) (sym (v_other d
          (λ q. let z : naming d (node_at s c).entries ≡ naming c (node_at s c).entries = ap
          (λ (y : ℕ). naming y (node_at s c).entries) q in omega (arith, alone)))))

      pub dirty_one_lem : Wrote (λ d. names d (mem c)) 1 w (write_at s xid c x w)
      dirty_one_lem =
          record {
            ready = record {
              holds = ap (space_holds s.info.node_size n) v_space ∙ taken_holds s.info.node_size n w.space x r.holds;
              long = ap length v_image ∙ image_long s.info.node_size w.image (packed (node_at s c)) a n r.long full a_in;
              count = ap length v_nodes ∙ length-set w.nodes c _ ∙ r.count;
            };
            keep = λ d z. v_other d (λ q. omega (arith, names_is d c q));
            bits = λ b q. by_test (eqb b a) (λ e. let z : b ≡ a = eqb-true b a e in ap (is_used v.space.bitmap) z ∙ v_marked)
                (λ e. v_mark b (eqb-false b a e) ∙ q);
            stays = λ b q. v_block b (λ z. never (ap (is_used w.space.bitmap) (sym z) ∙ q) a_free);
            free = λ b q. v_block b (λ z. never (ap (is_used v.space.bitmap) z ∙ v_marked) q);
            done = λ d p.
                let q : d ≡ c = one_of d c p in
                rw q (record {
                  written = λ u.
                      record {
                        address = a;
                        id = id_of (node_at s c);
                        node = v_own;
                        inside = a_in;
                        marked = v_marked;
                        bytes = ap (window (a * s.info.node_size) s.info.node_size) v_image
                            ∙ block_same s.info.node_size w.image (packed (node_at s c)) a n r.long full a_in
                            ∙ ap (pack_node (build_of s xid (cond s.virtual (only (id_of (node_at s c))) a) c (node_at s c))) numbers;
                      };
                  same = λ f. never t f;
                });
            spent = ap (λ (z : Space). usable s.info.node_size z + 1) v_space ∙ usable_less s.info.node_size n w.space x xs
                r.holds choice;
          }

    -- either way
    pub one_slot : ((oid : ℕ) (f : ℕ → ℕ) → (node_at s c).dirty ≡ true
        → length (pack_node (build_of s xid oid c (node_at s c)) (map (numbered f) (node_at s c).entries)) ≡ s.info.node_size)
        → cond (node_at s c).dirty 1 0 ≤ usable s.info.node_size w.space → Wrote (λ d. names d (mem c)) (cond (node_at s c).dirty 1 0) w
        (write_node s xid c w)
    unfolding write_node
    one_slot packs enough =
        by_test (node_at s c).dirty
        (λ t.
        let t' : (get_or w.nodes c no_node).dirty ≡ true = ap (λ (m : MemNode). m.dirty) fresh ∙ t in
        let some : 1 ≤ usable s.info.node_size w.space = rw t at enough in
        by_list (choose s.info.node_size w.space)
        (λ q. let z : usable s.info.node_size w.space ≡ 0 = (usable_zero s.info.node_size w.space).1 q in absurd (omega arith))
        (λ x xs q. rw (t, t', q) (dirty_one_lem t x xs q (λ oid f. packs oid f t))))
        (λ f. subst (λ (z : Bool). Wrote (λ d. names d (mem c)) (cond z 1 0) w (write_node s xid c w)) (sym f) (clean_one f))

  -- ---- the walk. rd: what stands on disk, which names no slot
  module _ (rd : ℕ → MemNode) (bare : (at : ℕ → MemNode) (r j d : ℕ) → slots rd at j d (rd r) ≡ 0) where
    abbrev dirt : MemNode → ℕ
    dirt m = cond m.dirty 1 0

    -- slots at or below slot c of level l
    abbrev Under : ℕ → ℕ → ℕ → ℕ
    Under l c x = names x (mem c) + slots rd (node_at s) l x (node_at s c)

    -- what the walk below slot c asks
    pub record Walkable (l c : ℕ) : Type 0 where
      pub once : (x : ℕ) → names x (mem c) + slots rd (node_at s) l x (node_at s c) ≤ 1
      pub used : (x : ℕ) → 1 ≤ names x (mem c) + slots rd (node_at s) l x (node_at s c) → x < length s.nodes
      pub closed : (x d : ℕ) → 1 ≤ names x (mem c) + slots rd (node_at s) l x (node_at s c) → 1 ≤ naming d (node_at s x).entries
          → 1 ≤ slots rd (node_at s) l d (node_at s c)
      pub packs : (x oid : ℕ) (f : ℕ → ℕ) → 1 ≤ names x (mem c) + slots rd (node_at s) l x (node_at s c) → (node_at s x).dirty ≡ true
          → length (pack_node (build_of s xid oid x (node_at s x)) (map (numbered f) (node_at s x).entries)) ≡ s.info.node_size

    abbrev Step : ℕ → Type 0
    Step l = (c : ℕ) (w : Flushing) → Walkable l c → Ready w
        → ((x : ℕ) → 1 ≤ names x (mem c) + slots rd (node_at s) l x (node_at s c) → get_or w.nodes x no_node ≡ node_at s x)
        → sum_from (λ m. cond m.dirty 1 0) l s c ≤ usable s.info.node_size w.space
        → Wrote (λ x. names x (mem c) + slots rd (node_at s) l x (node_at s c)) (sum_from (λ m. cond m.dirty 1 0) l s c) w (write_from l s xid c w)

    pub wrote_as : (C D : ℕ → ℕ) (g h : ℕ) (w v : Flushing) → ((x : ℕ) → C x ≡ D x) → g ≡ h → Wrote C g w v → Wrote D h w v
    wrote_as C D g h w v e q a =
        record {
          ready = a.ready;
          keep = λ c z. a.keep c (e c ∙ z);
          bits = a.bits;
          stays = a.stays;
          free = a.free;
          done = λ c p. a.done c
              (omega (arith, e c));
          spent = let y = a.spent in omega arith;
        }

    -- entries whose children can be walked
    pub record Walkables (l : ℕ) (es : List Entry) : Type 0 where
      pub once : (x : ℕ) → slots_in rd (node_at s) l x es ≤ 1
      pub each : (c : ℕ) → 1 ≤ naming c es → Walkable l c

    slots_none : (l x : ℕ) → slots rd (node_at s) l x no_node ≡ 0
    unfolding slots no_node
    slots_none zero x = refl
    slots_none (suc l) x = refl

    -- an entry that names no slot adds nothing
    pub bare_entry : (l : ℕ) (v : Val) → ((c : ℕ) → v ≡ mem c → ⊥) → (x : ℕ) → names x v + slots rd (node_at s) l x (node_of rd (node_at s) v) ≡ 0
    unfolding names node_of
    bare_entry l ghost h x = omega (arith, slots_none l x)
    bare_entry l (leaf b) h x = omega (arith, slots_none l x)
    bare_entry l (disk r) h x = omega (arith, bare (node_at s) r l x)
    bare_entry l (mem c) h x = absurd (h c refl)

    pub mem_entry : (l c : ℕ) (v : Val) → v ≡ mem c → (x : ℕ) → names x v + slots rd (node_at s) l x (node_of rd (node_at s) v) ≡ names x
        (mem c) + slots rd (node_at s) l x (node_at s c)
    unfolding node_of
    mem_entry l c v q x = rw q

    abbrev count : ℕ → ℕ → ℕ
    count l c = sum_from (λ m. cond m.dirty 1 0) l s c

    walk_writes : (l : ℕ) → Step l → (es : List Entry) (w : Flushing) → Walkables l es → Ready w
        → ((x : ℕ) → 1 ≤ slots_in rd (node_at s) l x es → get_or w.nodes x no_node ≡ node_at s x)
        → sum_kids (sum_from (λ m. cond m.dirty 1 0) l s) es ≤ usable s.info.node_size w.space
        → Wrote (λ x. slots_in rd (node_at s) l x es) (sum_kids (sum_from (λ m. cond m.dirty 1 0) l s) es) w (write_kids (write_from l s xid) es w)
    unfolding write_kids sum_kids
    walk_writes l ih [] w k r fresh enough = wrote_none w r (λ x. 0) (λ x. refl)
    walk_writes l ih (e ∷ es) w k r fresh enough =
        let rest : Walkables l es = record { once = λ x. omega (arith, k.once x); each = λ c p. k.each c (omega arith) } in
        by_mem e.value
        (λ h.
        let z = bare_entry l e.value h in
        let sm : sum_kids (count l) (e ∷ es) ≡ sum_kids (count l) es = sum_none (count l) e es h in
        subst (Wrote (λ x. slots_in rd (node_at s) l x (e ∷ es)) (sum_kids (count l) (e ∷ es)) w) (sym (kids_none (write_from l s xid) e es w h))
        (wrote_as (λ x. slots_in rd (node_at s) l x es) (λ x. slots_in rd (node_at s) l x (e ∷ es)) (sum_kids (count l) es)
        (sum_kids (count l) (e ∷ es)) w
        (write_kids (write_from l s xid) es w) (λ x. omega (arith, z x)) (sym sm)
        (walk_writes l ih es w rest r (λ x p. fresh x (omega arith)) (omega (arith, sm, enough)))))
        (λ c q.
        let z = mem_entry l c e.value q in
        let sm : sum_kids (count l) (e ∷ es) ≡ count l c + sum_kids (count l) es = sum_mem (count l) e es c q in
        let wc : Walkable l c = k.each c (let y : names c e.value ≡ 1 = ap (names c) q ∙ names_same c in omega arith) in
        let i = ih c w wc r (λ x p. fresh x (omega (arith, z x))) (omega (arith, sm, enough)) in
        let j = walk_writes l ih es (write_from l s xid c w) rest i.ready
        (λ x p. i.keep x (omega (arith, z x, k.once x)) ∙ fresh x (omega (arith, z x))) (omega (arith, sm, enough, i.spent)) in
        subst (Wrote (λ x. slots_in rd (node_at s) l x (e ∷ es)) (sum_kids (count l) (e ∷ es)) w) (sym (kids_mem (write_from l s xid) e es w c q))
        (wrote_as (λ x. names x (mem c) + slots rd (node_at s) l x (node_at s c) + slots_in rd (node_at s) l x es)
        (λ x. slots_in rd (node_at s) l x (e ∷ es)) (count l c + sum_kids (count l) es) (sum_kids (count l) (e ∷ es)) w
        (write_kids (write_from l s xid) es (write_from l s xid c w)) (λ x. omega (arith, z x)) (sym sm)
        (wrote_then (λ x. names x (mem c) + slots rd (node_at s) l x (node_at s c)) (λ x. slots_in rd (node_at s) l x es) (count l c)
        (sum_kids (count l) es) w (write_from l s xid c w) (write_kids (write_from l s xid) es (write_from l s xid c w))
        (λ x. omega (arith, z x, k.once x)) (λ x d p p'. omega (arith, wc.closed x d p p')) i j)))

    -- the walk from slot c: what it writes is done, and stays so
    pub writes : ((l c : ℕ) → Walkable (suc l) c → Walkables l (node_at s c).entries) → (l : ℕ) → Step l
    unfolding write_from sum_from slots
    writes kids zero c w k r fresh enough =
        let o = one_slot c w r (k.used c (omega (arith, names_same c))) (fresh c (omega (arith, names_same c)))
        (zero_not _ (λ p. let y = k.closed c c (omega (arith, names_same c)) p in omega arith))
        (λ oid f t. k.packs c oid f (omega (arith, names_same c)) t) enough in
        wrote_as (λ x. names x (mem c)) (λ x. names x (mem c) + 0) _ _ w (write_node s xid c w) (λ x. omega arith) refl o
    writes kids (suc l) c w k r fresh enough =
        let es : List Entry = (node_at s c).entries in
        let u : Flushing = write_kids (write_from l s xid) (node_at s c).entries w in
        let i : Wrote (λ x. slots_in rd (node_at s) l x (node_at s c).entries) (sum_kids (count l) (node_at s c).entries) w u =
        walk_writes l (writes kids l) (node_at s c).entries w (kids l c k) r (λ x p. fresh x (omega arith)) (omega arith) in
        let own : slots_in rd (node_at s) l c (node_at s c).entries ≡ 0 = omega (arith, k.once c, names_same c) in
        let o : Wrote (λ x. names x (mem c)) (cond (node_at s c).dirty 1 0) u (write_node s xid c u) =
        one_slot c u i.ready (k.used c (omega (arith, names_same c))) (i.keep c own ∙ fresh c (omega (arith, names_same c)))
        (zero_not _ (λ p. let y = k.closed c c (omega (arith, names_same c)) p in omega arith))
        (λ oid f t. k.packs c oid f (omega (arith, names_same c)) t) (omega (arith, i.spent)) in
        wrote_as (λ x. slots_in rd (node_at s) l x (node_at s c).entries + names x (mem c))
        (λ x. names x (mem c) + slots_in rd (node_at s) l x (node_at s c).entries)
        (sum_kids (count l) (node_at s c).entries + cond (node_at s c).dirty 1 0) _ w
        (write_node s xid c u) (λ x. omega arith) (omega arith)
        (wrote_then (λ x. slots_in rd (node_at s) l x (node_at s c).entries) (λ x. names x (mem c)) (sum_kids (count l) (node_at s c).entries)
        (cond (node_at s c).dirty 1 0) w u (write_node s xid c u)
        (λ x. omega (arith, k.once x)) (λ x d p q. k.closed x d (omega arith) q) i o)
