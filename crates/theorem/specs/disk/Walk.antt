-- A tree on disk whose keys rise within bounds is walked, whatever bounds above it set, and the walk gives what it holds and its blocks. Assumes
-- nothing.
use Rattle.std.specs.Prelude.{◌≡◌, Bool, ◌&&◌, eqb}
use Rattle.std.proofs.Math.Path.{refl, sym, ap, ap₂, subst}
use Rattle.std.proofs.Common.{◌∙◌, le_trans}
use mathlib.Core.List.{List, [], ◌∷◌, ◌++◌, append_assoc}
use Rattle.std.proofs.Math.Bool.{true, false}
use Prim.Native.Nat.{ℕ, zero, suc, ◌+◌, ◌≤◌, ◌<◌}
use Rattle.std.proofs.Math.Nat.{le_refl}
use native.Mathlib.Omega.{arith}
use Rattle.std.proofs.Math.ListN.{length, length-append}
use Rattle.std.proofs.lemmas.List.{get_or_at}
use Rattle.std.proofs.Math.Dec.{ltb}
use borrow.Author.Tests.{lt-ltb, le-ltb, eqb-true}
use Rattle.seal.specs.Bytes.{u16_at}
use Rattle.node.specs.Result.{Result, ok, refused, ◌>>=◌}
use Rattle.node.specs.laws.base.Results.{checked_ok, no_answer, Holds, holds_ok, holds_bind}
use Rattle.node.specs.Refusals as refusal
use Rattle.node.specs.Order.{less}
use Rattle.node.specs.laws.order.Order.{lt_rank, le_rank}
use Rattle.node.specs.Entry.{Entry, Val, ghost, disk, every}
use Rattle.node.specs.Find.{val_at}
use Rattle.node.specs.Read.{OnDisk, on_disk, parsed, flags_hold, layout_holds, entries_hold, entries_from, keys_rise, keys_within, in_bounds, read_node}
use Rattle.node.specs.laws.read.LoadLine.{line, node_line}
use Rattle.node.specs.laws.read.Loaded.{read_passed}
use Rattle.node.specs.Slot.{MemNode}
use Rattle.node.specs.laws.base.Tests.{by_test, never, and_both}
use Rattle.node.specs.declared.info.BTreeInfo.{BTreeInfo}
use Rattle.node.specs.Place.{Place}
use Rattle.tree.specs.Lent.{block_at, in_image}
use Rattle.tree.specs.Load.{Bounds, unbounded, bound_key, tighter_lower, tighter_upper, child_bounds, load_block, child_place, disk_number, adopted}
use Rattle.history.specs.Walk.{Disk, resolve, Visit, Walk, joined, walk_kids, walk_below, blocks_of}
use Rattle.history.specs.Statement.{uses}
use Rattle.theorem.specs.model.Bounds.{Terms, K, Items, cons, bounds, first_or, first_le, KeyOk}
use Rattle.theorem.specs.model.Lazy.{node_of, cont, total, conts, totals, Child, Ok, kids_le, ok_wide, ok_level, ok_live}
use Rattle.theorem.specs.steps.LeafAndKeys.{key_at_lem, key_next}
use Rattle.theorem.specs.model.Seen.{Seen, seen, unread, stood, rd}

-- ---- the load line again, under other bounds

pub line_swap : (t3 t4 t5 t6 t7 t8 r w w' : Bool) (x y : OnDisk) → line t3 t4 t5 t6 t7 t8 (r && w) x ≡ ok y → w' ≡ true
    → line t3 t4 t5 t6 t7 t8 (r && w') x ≡ ok y
unfolding line
line_swap false t4 t5 t6 t7 t8 r w w' x y e f = no_answer 3 y e
line_swap true false t5 t6 t7 t8 r w w' x y e f = no_answer 4 y e
line_swap true true false t6 t7 t8 r w w' x y e f = no_answer 5 y e
line_swap true true true false t7 t8 r w w' x y e f = no_answer 6 y e
line_swap true true true true false t8 r w w' x y e f = no_answer 7 y e
line_swap true true true true true false r w w' x y e f = no_answer 8 y e
line_swap true true true true true true false w w' x y e f = no_answer 9 y e
line_swap true true true true true true true false w' x y e f = no_answer 9 y e
line_swap true true true true true true true true w' x y e f = rw f e

-- a child read without bounds is read within bounds that its keys keep
pub read_bounds : (o ks vs parent r : ℕ) (cs : Bounds) (b : List ℕ) (d : OnDisk) → read_node o (child_place ks vs unbounded parent r) [] [] b ≡ ok d
    → keys_within o (child_place ks vs cs parent r) (bound_key cs.lower) (bound_key cs.upper) d.entries ≡ true
    → read_node o (child_place ks vs cs parent r) (bound_key cs.lower) (bound_key cs.upper) b ≡ ok d
unfolding child_place parsed layout_holds flags_hold entries_hold on_disk
read_bounds o ks vs parent r cs b d e w =
    let p : Place = child_place ks vs unbounded parent r in
    let p' : Place = child_place ks vs cs parent r in
    let q : d ≡ on_disk (parsed p b) b = (read_passed o p [] [] b d e).read in
    let w' : keys_within o p' (bound_key cs.lower) (bound_key cs.upper) (entries_from (parsed p b) b 0 (parsed p b).nkeys) ≡ true =
    ap (λ (z : OnDisk). keys_within o p' (bound_key cs.lower) (bound_key cs.upper) z.entries) (sym q) ∙ w in
    sym (node_line o p' (bound_key cs.lower) (bound_key cs.upper) b (parsed p' b) refl)
    ∙ line_swap _ _ _ _ _ _ (keys_rise o (entries_from (parsed p b) b 0 (parsed p b).nkeys))
    (keys_within o p [] [] (entries_from (parsed p b) b 0 (parsed p b).nkeys)) _ (on_disk (parsed p b) b) _
    (node_line o p [] [] b (parsed p b) refl ∙ e) w'

-- ---- bounds that a tree keeps

pub record Lower (τ : Terms) (bs : List (List ℕ)) (lo : ℕ) : Type 0 where
  pub one : length bs ≤ 1
  pub keyed : 1 ≤ length bs → KeyOk τ (bound_key bs) × (K τ (bound_key bs) ≤ lo)

pub record Upper (τ : Terms) (bs : List (List ℕ)) (hi : ℕ) : Type 0 where
  pub one : length bs ≤ 1
  pub keyed : 1 ≤ length bs → KeyOk τ (bound_key bs) × (hi ≤ K τ (bound_key bs))

module _ (τ : Terms) where
  lower_tighter : (bs : List (List ℕ)) (lo : ℕ) (k : List ℕ) → Lower τ bs lo → KeyOk τ k → lo ≤ K τ k → Lower τ (tighter_lower τ.order bs k)
      (K τ k) × (1 ≤ length (tighter_lower τ.order bs k))
  unfolding tighter_lower bound_key
  lower_tighter [] lo k h g a = (record { one = le_refl 1; keyed = λ z. (g, le_refl _) }, le_refl 1)
  lower_tighter (b ∷ bs) lo k h g a =
      by_test (less τ.order b k)
      (λ t. rw t (record { one = le_refl 1; keyed = λ z. (g, le_refl _) }, le_refl 1))
      (λ t. let w = h.keyed (omega arith) in rw t (record { one = h.one; keyed = λ z. (w.0, omega (arith, w.1)) }, omega arith))

  upper_tighter : (bs : List (List ℕ)) (hi : ℕ) (k : List ℕ) → Upper τ bs hi → KeyOk τ k → K τ k ≤ hi → Upper τ (tighter_upper τ.order bs k) (K τ k)
  unfolding tighter_upper bound_key
  upper_tighter [] hi k h g a = record { one = le_refl 1; keyed = λ z. (g, le_refl _) }
  upper_tighter (b ∷ bs) hi k h g a =
      by_test (less τ.order k b)
      (λ t. rw t (record { one = le_refl 1; keyed = λ z. (g, le_refl _) }))
      (λ t. let w = h.keyed (omega arith) in rw t (record { one = h.one; keyed = λ z. (w.0, omega (arith, w.1)) }))

  -- keys that rise from lo and stay below hi are within such bounds
  within : {P : ℕ → Entry → Type 0} (o ks vs parent r : ℕ) (cs : Bounds) (lo lo' hi : ℕ) (es : List Entry) → o ≡ τ.order → Lower τ cs.lower lo
      → 1 ≤ length cs.lower → Upper τ cs.upper hi
      → ((m : ℕ) (e : Entry) → P m e → KeyOk τ e.key × (K τ e.key < m)) → lo ≤ lo'
      → Items (K τ) P lo' hi es → keys_within o (child_place ks vs cs parent r) (bound_key cs.lower) (bound_key cs.upper) es ≡ true
  unfolding keys_within every in_bounds child_place
  within o ks vs parent r cs lo lo' hi [] q a n b f z h = refl
  within {P} o ks vs parent r cs lo lo' hi (e ∷ es) q a n b f z (cons {m = m} y p t) =
      let (ke, lt) = f m e p in
      let (kl, le) = a.keyed n in
      let top : m ≤ hi = bounds (λ m' e' p'. let w = (f m' e' p').1 in omega arith) t in
      let low : less o e.key (bound_key cs.lower) ≡ false = ap (λ (x : ℕ). less x e.key (bound_key cs.lower)) q
      ∙ le_rank τ.order τ.most e.key (bound_key cs.lower) ke.key kl.key ke.short kl.short (omega arith) in
      let rest = within o ks vs parent r cs lo m hi es q a n b f (omega arith) t in
      let one : in_bounds o (child_place ks vs cs parent r) (bound_key cs.lower) (bound_key cs.upper) e.key ≡ true =
      by_test (eqb (length cs.upper) 1)
      (λ u.
      let (ku, ge) = b.keyed (let w = eqb-true (length cs.upper) 1 u in omega arith) in
      let up : less o e.key (bound_key cs.upper) ≡ true = ap (λ (x : ℕ). less x e.key (bound_key cs.upper)) q
      ∙ lt_rank τ.order τ.most e.key (bound_key cs.upper) ke.key ku.key ke.short ku.short (omega arith) in
      rw (low, up, u))
      (λ u. rw (low, u)) in
      and_both (in_bounds o (child_place ks vs cs parent r) (bound_key cs.lower) (bound_key cs.upper) e.key) _ one rest

-- ---- the walk

pub val_at_lem : (xs : List Entry) (e : Entry) (ys : List Entry) → val_at (xs ++ e ∷ ys) (length xs) ≡ e.value
unfolding val_at
val_at_lem xs e ys = ap (λ (z : Entry). z.value) (get_or_at xs e ys (record { key = []; value = ghost }) (length xs) refl)

pub blocks_append : (b : ℕ) (xs ys : List Visit) → uses b (blocks_of (xs ++ ys)) ≡ uses b (blocks_of xs) + uses b (blocks_of ys)
unfolding blocks_of uses
blocks_append b [] ys = omega arith
blocks_append b (x ∷ xs) ys = let h = blocks_append b xs ys in omega arith

-- the children of a node that was read are on disk
abbrev pub AllDisk : List Entry → Type 0
AllDisk [] = Unit {0}
AllDisk (e ∷ es) = ((r : ℕ) × (e.value ≡ disk r)) × AllDisk es

module _ (τ : Terms) (x : Disk) (v : Bool) (at : ℕ → MemNode) (t : BTreeInfo) (ord : x.order ≡ τ.order) (ks : t.key_size ≡ τ.ksize)
    (vs : t.val_size ≡ τ.vsize) where
  -- a node that can be in a tree was read
  was_read : (r l lo hi : ℕ) → Ok τ (rd x τ v) at l lo hi (rd x τ v r) → (y : Seen) × (seen x τ r ≡ ok y)
  unfolding rd stood unread
  was_read r l lo hi o = go (seen x τ r) refl
    where
      go : (z : Result Seen) → seen x τ r ≡ z → (y : Seen) × (seen x τ r ≡ ok y)
      go (refused n) e = never {t = true} refl (ap (λ (w : Result Seen). (stood v w).dead) (sym e) ∙ ok_live τ (rd x τ v) at l lo hi (rd x τ v r) o)
      go (ok y) e = (y, e)

  pub record Walked (l : ℕ) (m : MemNode) (w : Walk) : Type 0 where
    pub entries : w.entries ≡ cont (rd x τ v) at l m
    pub blocks : (a : ℕ) → uses a m.block + uses a (blocks_of w.nodes) ≡ total (rd x τ v) at (λ n. uses a n.block) l m
    pub nodes : suc (length w.nodes) ≡ total (rd x τ v) at (λ n. 1) l m

  pub record Walkeds (l : ℕ) (es : List Entry) (w : Walk) : Type 0 where
    pub entries : w.entries ≡ conts (rd x τ v) at l es
    pub blocks : (a : ℕ) → uses a (blocks_of w.nodes) ≡ totals (rd x τ v) at (λ n. uses a n.block) l es
    pub nodes : length w.nodes ≡ totals (rd x τ v) at (λ n. 1) l es

  -- what was read without bounds, in parts
  pub record Read (r l : ℕ) (a : ℕ) (c : OnDisk) : Type 0 where
    pub resolved : resolve x r ≡ ok a
    pub placed : in_image x.lent a ≡ true
    pub read : read_node x.order (child_place τ.ksize τ.vsize unbounded (suc l) r) [] [] (block_at x.lent a) ≡ ok c
    pub level : c.node.level ≡ l

  read_parts : (r l a : ℕ) (d : OnDisk) → resolve x r ≡ ok a
      → load_block x.lent x.order (child_place τ.ksize τ.vsize unbounded (suc (u16_at (block_at x.lent a) 34)) r) unbounded a ≡ ok d
      → d.node.level ≡ l → Read r l a d
  unfolding load_block bound_key unbounded parsed on_disk
  read_parts r l a d p e lv =
      let b : List ℕ = block_at x.lent a in
      let q : Place = child_place τ.ksize τ.vsize unbounded (suc (u16_at (block_at x.lent a) 34)) r in
      let (im, rn) = checked_ok refusal.address (in_image x.lent a) (read_node x.order q [] [] b) d e in
      let is : d ≡ on_disk (parsed q b) b = (read_passed x.order q [] [] b d rn).read in
      let own : u16_at b 34 ≡ l = sym (ap (λ (z : OnDisk). z.node.level) is) ∙ lv in
      record {
        resolved = p;
        placed = im;
        read = subst
            (λ (j : ℕ). read_node x.order (child_place τ.ksize τ.vsize unbounded (suc j) r) [] [] b ≡ ok d) own rn;
        level = lv;
      }

  seen_read : (r l : ℕ) → Holds (λ y. y.node.node.level ≡ l → Read r l y.block y.node) (seen x τ r)
  unfolding seen
  seen_read r l =
      holds_bind (resolve x r) _ λ a p.
      holds_bind (load_block x.lent x.order (child_place τ.ksize τ.vsize unbounded
      (suc (u16_at (block_at x.lent a) 34)) r) unbounded a) _ λ d e.
      holds_ok (read_parts r l a d p e)

  -- a child within the bounds that its parent sets
  pub load_within : (r l a : ℕ) (c : OnDisk) (cs : Bounds) (lo hi : ℕ) → Read r l a c → Ok τ (rd x τ v) at l lo hi (adopted v a c)
      → Lower τ cs.lower lo → 1 ≤ length cs.lower → Upper τ cs.upper hi
      → load_block x.lent x.order (child_place t.key_size t.val_size cs (suc l) r) cs a ≡ ok c
  unfolding load_block adopted
  load_within r zero a c cs lo hi y okc lw n up =
      rw (y.placed, ks, vs) (read_bounds x.order τ.ksize τ.vsize 1 r cs (block_at x.lent a) c y.read
      (within τ x.order τ.ksize τ.vsize 1 r cs lo lo hi c.entries ord lw n up (λ m e p. (p.key, p.below)) (le_refl _) okc.items))
  load_within r (suc l) a c cs lo hi y okc lw n up =
      rw (y.placed, ks, vs) (read_bounds x.order τ.ksize τ.vsize (suc (suc l)) r cs (block_at x.lent a) c y.read
      (within τ x.order τ.ksize τ.vsize (suc (suc l)) r cs lo lo hi c.entries ord lw n up (λ m e p. (p.key, p.below)) (le_refl _)
      okc.items))

  -- the bounds of child `length xs`
  child_lower : (bs : Bounds) (lo lo' : ℕ) (xs : List Entry) (e : Entry) (ys : List Entry) → Lower τ bs.lower lo → lo ≤ lo' → lo' ≤ K τ e.key
      → KeyOk τ e.key
      → Lower τ (child_bounds x.order bs (xs ++ e ∷ ys) (length xs)).lower (K τ e.key)
      × (1 ≤ length (child_bounds x.order bs (xs ++ e ∷ ys) (length xs)).lower)
  unfolding child_bounds
  child_lower bs lo lo' xs e ys h a b g = rw (ord, key_at_lem xs e ys) (lower_tighter τ bs.lower lo e.key h g (le_trans a b))

  child_upper : {Q : ℕ → ℕ → MemNode → Type 0} {node : Val → MemNode} (bs : Bounds) (lo hi : ℕ) (xs : List Entry) (e : Entry) (ys : List Entry)
      → Upper τ bs.upper hi → Items (K τ) (Child τ Q node) lo hi ys
      → Upper τ (child_bounds x.order bs (xs ++ e ∷ ys) (length xs)).upper (first_or (K τ) hi ys)
  unfolding child_bounds
  child_upper bs lo hi xs e [] h r =
      let f : ltb (suc (length xs)) (length (xs ++ e ∷ [])) ≡ false = le-ltb (suc (length xs)) (length (xs ++ e ∷ []))
      (omega (arith, length-append xs (e ∷ []))) in
      rw f h
  child_upper bs lo hi xs e (d ∷ ds) h (cons z p r) =
      let f : ltb (suc (length xs)) (length (xs ++ e ∷ d ∷ ds)) ≡ true = lt-ltb (suc (length xs)) (length (xs ++ e ∷ d ∷ ds))
      (omega (arith, length-append xs (e ∷ d ∷ ds))) in
      let g = kids_le r in
      let w = p.below in
      rw (f, ord, key_next xs e d ds) (upper_tighter τ bs.upper hi d.key h p.key (omega arith))

  -- ---- children left to right
  abbrev Below : ℕ → Type 0
  Below l = (bs : Bounds) (a : ℕ) (c : OnDisk) (lo hi : ℕ) → Lower τ bs.lower lo → Upper τ bs.upper hi → c.node.level ≡ l
      → (1 ≤ l → AllDisk c.entries) → Ok τ (rd x τ v) at l lo hi (adopted v a c)
      → (w : Walk) × (walk_below l x t bs c ≡ ok w) × Walked l (adopted v a c) w

  node_disk : (r : ℕ) → node_of (rd x τ v) at (disk r) ≡ rd x τ v r
  unfolding node_of
  node_disk r = refl

  node_is : (r : ℕ) (y : Seen) → seen x τ r ≡ ok y → rd x τ v r ≡ adopted v y.block y.node
  unfolding rd stood
  node_is r y e = rw e

  kid_chain : (l r a : ℕ) (c : OnDisk) (cs : Bounds) (w w' : Walk) (tail : Result Walk) → resolve x r ≡ ok a
      → load_block x.lent x.order (child_place t.key_size t.val_size cs (suc l) r) cs a ≡ ok c → walk_below l x t cs c ≡ ok w
      → tail ≡ ok w'
      → (resolve x r >>= λ a'. load_block x.lent x.order (child_place t.key_size t.val_size cs (suc l) r) cs a'
      >>= λ c'. walk_below l x t cs c' >>= λ u. tail
      >>= λ u'. ok (joined (record { block = a'; id = c'.node.oid }) u u')) ≡ ok (joined (record { block = a; id = c.node.oid }) w w')
  kid_chain l r a c cs w w' tail rv ld wk rest = rw (rv, ld, wk, rest)

  kid_step : (l a : ℕ) (d c : OnDisk) (bs : Bounds) (xs : List Entry) (e : Entry) (ys : List Entry) (r : ℕ) (w w' : Walk) → d.entries ≡ xs ++ e ∷ ys
      → e.value ≡ disk r → d.node.level ≡ suc l
      → resolve x r ≡ ok a
      → load_block x.lent x.order (child_place t.key_size t.val_size (child_bounds x.order bs (xs ++ e ∷ ys) (length xs)) (suc l) r)
      (child_bounds x.order bs (xs ++ e ∷ ys) (length xs)) a ≡ ok c
      → walk_below l x t (child_bounds x.order bs (xs ++ e ∷ ys) (length xs)) c ≡ ok w → walk_kids (walk_below l x t) x t bs d (length ys)
      (suc (length xs)) ≡ ok w'
      → walk_kids (walk_below l x t) x t bs d (suc (length ys)) (length xs) ≡ ok (joined (record { block = a; id = c.node.oid }) w w')
  unfolding walk_kids disk_number
  kid_step l a d c bs xs e ys r w w' row val lv rv ld wk rest =
      let tail : Result Walk = walk_kids (walk_below l x t) x t bs d (length ys) (suc (length xs)) in
      let f : ℕ → Bounds → ℕ → Result Walk = λ k cs j. resolve x k
      >>= λ a'. load_block x.lent x.order (child_place t.key_size t.val_size cs j k) cs a'
      >>= λ c'. walk_below l x t cs c'
      >>= λ u. tail
      >>= λ u'. ok (joined (record { block = a'; id = c'.node.oid }) u u') in
      let number : disk_number (val_at d.entries (length xs)) ≡ r = ap (λ (z : List Entry). disk_number (val_at z (length xs))) row
      ∙ ap disk_number (val_at_lem xs e ys ∙ val) in
      let to : f (disk_number (val_at d.entries (length xs))) (child_bounds x.order bs d.entries (length xs)) d.node.level ≡ f r
      (child_bounds x.order bs (xs ++ e ∷ ys) (length xs)) (suc l) =
      ap₂ (λ (k : ℕ) (es : List Entry). f k (child_bounds x.order bs es (length xs)) d.node.level) number row
      ∙ ap (f r (child_bounds x.order bs (xs ++ e ∷ ys) (length xs))) lv in
      to ∙ kid_chain l r a c (child_bounds x.order bs (xs ++ e ∷ ys) (length xs)) w w' tail rv ld wk rest

  pub kids_join : (l a : ℕ) (c : OnDisk) (e : Entry) (ys : List Entry) (w w' : Walk) → node_of (rd x τ v) at e.value ≡ adopted v a c
      → Walked l (adopted v a c) w → Walkeds l ys w'
      → Walkeds l (e ∷ ys) (joined (record { block = a; id = c.node.oid }) w w')
  unfolding joined adopted blocks_of uses
  kids_join l a c e ys w w' q h k =
      record {
        entries = ap₂ ◌++◌ (h.entries ∙ ap (cont (rd x τ v) at l) (sym q)) k.entries;
        blocks = λ b.
            let f : MemNode → ℕ = λ n. uses b n.block in
            let y : total (rd x τ v) at f l (node_of (rd x τ v) at e.value) ≡ total (rd x τ v) at f l (adopted v a c) = ap
            (total (rd x τ v) at f l) q in
            omega (arith, h.blocks b, k.blocks b, blocks_append b w.nodes w'.nodes);
        nodes =
            let y : total (rd x τ v) at (λ n. 1) l (node_of (rd x τ v) at e.value) ≡ total (rd x τ v) at (λ n. 1) l (adopted v a c) = ap
            (total (rd x τ v) at (λ n. 1) l) q in
            omega (arith, h.nodes, k.nodes, length-append w.nodes w'.nodes);
      }

  walk_kids_lem : (l : ℕ) → Below l → ((r : ℕ) (y : Seen) → seen x τ r ≡ ok y → 1 ≤ y.node.node.level → AllDisk y.node.entries)
      → (d : OnDisk) (bs : Bounds) (lo hi : ℕ)
      → Lower τ bs.lower lo → Upper τ bs.upper hi → d.node.level ≡ suc l → (lo' : ℕ) (xs ys : List Entry) → d.entries ≡ xs ++ ys
      → AllDisk ys → lo ≤ lo'
      → Items (K τ) (Child τ (Ok τ (rd x τ v) at l) (node_of (rd x τ v) at)) lo' hi ys
      → (w : Walk) × (walk_kids (walk_below l x t) x t bs d (length ys) (length xs) ≡ ok w) × Walkeds l ys w
  unfolding walk_kids adopted
  walk_kids_lem l ih disks d bs lo hi lw up lv lo' xs [] row ds a r = (
    record { nodes = []; entries = [] },
    refl,
    record { entries = refl; blocks = λ b. unfold blocks_of uses in refl; nodes = refl },
  )
  walk_kids_lem l ih disks d bs lo hi lw up lv lo' xs (e ∷ ys) row ds a (cons {m = m} z p q) =
      let (r, val) = ds.0 in
      let cs : Bounds = child_bounds x.order bs (xs ++ e ∷ ys) (length xs) in
      let okr : Ok τ (rd x τ v) at l (K τ e.key) m (rd x τ v r) = subst (Ok τ (rd x τ v) at l (K τ e.key) m)
      (ap (node_of (rd x τ v) at) val ∙ node_disk r) p.ok in
      let (y, sy) = was_read r l (K τ e.key) m okr in
      let is : rd x τ v r ≡ adopted v y.block y.node = node_is r y sy in
      let okc : Ok τ (rd x τ v) at l (K τ e.key) (first_or (K τ) hi ys) (adopted v y.block y.node) =
      ok_wide τ (rd x τ v) at l (K τ e.key) (K τ e.key) m (first_or (K τ) hi ys) (adopted v y.block y.node) (le_refl _) (first_le q)
      (subst (Ok τ (rd x τ v) at l (K τ e.key) m) is okr) in
      let lc : y.node.node.level ≡ l = ok_level τ (rd x τ v) at l (K τ e.key) (first_or (K τ) hi ys) (adopted v y.block y.node) okc in
      let rr : Read r l y.block y.node = (seen_read r l).at y sy lc in
      let (lo₁, some) = child_lower bs lo lo' xs e ys lw a z p.key in
      let up₁ = child_upper bs m hi xs e ys up q in
      let (w, wk, ww) = ih cs y.block y.node (K τ e.key) (first_or (K τ) hi ys) lo₁ up₁ lc (λ g. disks r y sy (omega (arith, lc))) okc in
      let row' : d.entries ≡ (xs ++ e ∷ []) ++ ys = row ∙ sym (append_assoc xs (e ∷ []) ys) in
      let one : length (xs ++ e ∷ []) ≡ suc (length xs) = length-append xs (e ∷ []) ∙ omega arith in
      let b : lo ≤ m = let g = p.below in omega arith in
      let (w', rest, wr) = walk_kids_lem l ih disks d bs lo hi lw up lv m (xs ++ e ∷ []) ys row' ds.1 b q in (
        joined (record { block = y.block; id = y.node.node.oid }) w w',
        kid_step l y.block d y.node bs xs e ys r w w' row val lv rr.resolved
            (load_within r l y.block y.node cs (K τ e.key) (first_or (K τ) hi ys) rr okc lo₁ some up₁) wk
            (ap (walk_kids (walk_below l x t) x t bs d (length ys)) (sym one) ∙ rest),
        kids_join l y.block y.node e ys w w' (ap (node_of (rd x τ v) at) val ∙ node_disk r ∙ is) ww wr,
      )

  -- a node that was read, and all below it
  pub walk_is : ((r : ℕ) (y : Seen) → seen x τ r ≡ ok y → 1 ≤ y.node.node.level → AllDisk y.node.entries) → (l : ℕ) → Below l
  unfolding walk_below cont total adopted
  walk_is disks zero bs a c lo hi lw up lc ad okc = (
    record { nodes = []; entries = c.entries },
    refl,
    record { entries = refl; blocks = λ b. unfold blocks_of uses in omega arith; nodes = refl },
  )
  walk_is disks (suc l) bs a c lo hi lw up lc ad okc =
      let (w, e, h) = walk_kids_lem l (walk_is disks l) disks c bs lo hi lw up lc lo [] c.entries refl (ad (omega arith)) (le_refl _) okc.items in
      (w, e, record { entries = h.entries; blocks = λ b. ap (λ (z : ℕ). uses b (a ∷ []) + z) (h.blocks b); nodes = omega (arith, h.nodes) })
