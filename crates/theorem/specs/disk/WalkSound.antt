-- `Walk` backwards: below a node with an accepted walk keys rise within bounds, and the walk gives what the tree holds, its blocks and ids.
-- Assumes nothing.
use Rattle.std.specs.Prelude.{◌≡◌, Bool}
use Rattle.std.proofs.Math.Path.{refl, sym, ap, ap₂, subst}
use Rattle.std.proofs.Common.{◌∙◌}
use mathlib.Core.List.{List, [], ◌∷◌, ◌++◌, append_assoc}
use Rattle.std.proofs.Math.Bool.{true, false}
use Prim.Native.Nat.{ℕ, zero, suc, ◌+◌, ◌≤◌, ◌<◌}
use native.Mathlib.Omega.{arith}
use Rattle.std.proofs.Math.ListN.{length, length-append}
use Rattle.std.proofs.Math.Dec.{ltb}
use borrow.Author.Tests.{lt-ltb, le-ltb}
use Rattle.node.specs.Result.{Result, ok, ◌>>=◌}
use Rattle.node.specs.laws.base.Results.{Holds, holds_ok, holds_bind, holds_imp}
use Rattle.node.specs.Entry.{Entry, disk}
use Rattle.node.specs.Find.{val_at}
use Rattle.node.specs.Read.{OnDisk}
use Rattle.node.specs.Slot.{MemNode, is_child}
use Rattle.node.specs.declared.info.BTreeInfo.{BTreeInfo}
use Rattle.tree.specs.Load.{Bounds, bound_key, child_bounds, load_block, child_place, disk_number, adopted}
use Rattle.history.specs.Walk.{Disk, resolve, Visit, Walk, joined, walk_kids, walk_below, blocks_of, ids_of}
use Rattle.history.specs.Statement.{uses}
use Rattle.theorem.specs.model.Bounds.{Terms, K, Items, nil, cons, tight, first_or, first_le, KeyOk, ValueOk, Row}
use Rattle.theorem.specs.model.Lazy.{node_of, cont, total, names, slots, totals, slots_in, Child, Ok}
use Rattle.theorem.specs.steps.LeafAndKeys.{key_at_lem, key_next}
use Rattle.theorem.specs.model.Seen.{Seen, seen, rd}
use Rattle.theorem.specs.disk.Walk.{val_at_lem, Walked, Walkeds, kids_join}
use Rattle.theorem.specs.disk.Read.{Every, Kid, Sound}
use Rattle.theorem.specs.disk.Seen.{rd_is}
use Rattle.theorem.specs.disk.ReadBounds.{Loaded, load_loaded, KeyBelow, Lowest, Highest, lowest_tighter}
use Rattle.theorem.specs.disk.ReadBounds.{highest_tighter, keys_within_lem, rise_items}

-- ---- nodes met

ids_append : (i : ℕ) (xs ys : List Visit) → uses i (ids_of (xs ++ ys)) ≡ uses i (ids_of xs) + uses i (ids_of ys)
unfolding ids_of uses
ids_append i [] ys = omega arith
ids_append i (x ∷ xs) ys = let h = ids_append i xs ys in omega arith

-- each node's id resolves to its block
abbrev pub Homes : Disk → List Visit → Type 0
Homes x [] = Unit {0}
Homes x (v ∷ vs) = (resolve x v.id ≡ ok v.block) × Homes x vs

homes_append : (x : Disk) (us vs : List Visit) → Homes x us → Homes x vs → Homes x (us ++ vs)
homes_append x [] vs h k = k
homes_append x (u ∷ us) vs h k = (h.0, homes_append x us vs h.1 k)

pub node_disk : (f at : ℕ → MemNode) (r : ℕ) → node_of f at (disk r) ≡ f r
unfolding node_of
node_disk f at r = refl

-- a leaf's entries
rows : (τ : Terms) {lo hi : ℕ} {es : List Entry} → Every (λ e. ValueOk τ e.value) es → Items (K τ) (KeyBelow τ) lo hi es
    → Items (K τ) (Row τ) lo hi es
rows τ v (nil e) = nil e
rows τ v (cons e p r) = cons e (record { below = p.below; key = p.key; value = v.0 }) (rows τ v.1 r)

module _ (τ : Terms) (x : Disk) (v : Bool) (at : ℕ → MemNode) (t : BTreeInfo) (ord : x.order ≡ τ.order)
    (ks : t.key_size ≡ τ.ksize) (vs : t.val_size ≡ τ.vsize) where
  -- a node and all below it; no slot is named there
  pub record Sure (l lo hi : ℕ) (m : MemNode) (w : Walk) : Type 0 where
    pub tree : Ok τ (rd x τ v) at l lo hi m
    pub walked : Walked τ x v at t ord ks vs l m w
    pub ids : v ≡ true → (i : ℕ) → uses i m.id + uses i (ids_of w.nodes) ≡ total (rd x τ v) at (λ n. uses i n.id) l m
    pub bare : (c : ℕ) → slots (rd x τ v) at l c m ≡ 0
    pub homes : Homes x w.nodes

  -- the same of children of level l
  pub record Sures (l lo hi : ℕ) (es : List Entry) (w : Walk) : Type 0 where
    pub items : Items (K τ) (Child τ (Ok τ (rd x τ v) at l) (node_of (rd x τ v) at)) lo hi es
    pub walked : Walkeds τ x v at t ord ks vs l es w
    pub ids : v ≡ true → (i : ℕ) → uses i (ids_of w.nodes) ≡ totals (rd x τ v) at (λ n. uses i n.id) l es
    pub bare : (c : ℕ) → slots_in (rd x τ v) at l c es ≡ 0
    pub homes : Homes x w.nodes

  -- ---- one child

  kid_go : (l : ℕ) (d : OnDisk) (bs : Bounds) (xs : List Entry) (e : Entry) (ys : List Entry) (r : ℕ) (Q : Walk → Type 0) → d.entries ≡ xs ++ e ∷ ys
      → e.value ≡ disk r → d.node.level ≡ suc l
      → ((a : ℕ) → resolve x r ≡ ok a → (c : OnDisk)
      → load_block x.lent x.order (child_place t.key_size t.val_size (child_bounds x.order bs (xs ++ e ∷ ys) (length xs)) (suc l) r)
      (child_bounds x.order bs (xs ++ e ∷ ys) (length xs)) a ≡ ok c
      → (w : Walk) → walk_below l x t (child_bounds x.order bs (xs ++ e ∷ ys) (length xs)) c ≡ ok w
      → (w' : Walk) → walk_kids (walk_below l x t) x t bs d (length ys) (suc (length xs)) ≡ ok w'
      → Q (joined (record { block = a; id = c.node.oid }) w w'))
      → Holds Q (walk_kids (walk_below l x t) x t bs d (suc (length ys)) (length xs))
  unfolding walk_kids disk_number
  kid_go l d bs xs e ys r Q row val lv go =
      let tail : Result Walk = walk_kids (walk_below l x t) x t bs d (length ys) (suc (length xs)) in
      let f : ℕ → Bounds → ℕ → Result Walk = λ k cs j. resolve x k
      >>= λ a'. load_block x.lent x.order (child_place t.key_size t.val_size cs j k) cs a'
      >>= λ c'. walk_below l x t cs c'
      >>= λ u. tail
      >>= λ u'. ok (joined (record { block = a'; id = c'.node.oid }) u u') in
      let cs : Bounds = child_bounds x.order bs (xs ++ e ∷ ys) (length xs) in
      let number : disk_number (val_at d.entries (length xs)) ≡ r =
      ap (λ (z : List Entry). disk_number (val_at z (length xs))) row ∙ ap disk_number (val_at_lem xs e ys ∙ val) in
      let to : f (disk_number (val_at d.entries (length xs))) (child_bounds x.order bs d.entries (length xs)) d.node.level
      ≡ f r cs (suc l) =
      ap₂ (λ (k : ℕ) (es : List Entry). f k (child_bounds x.order bs es (length xs)) d.node.level) number row ∙ ap (f r cs) lv in
      let held : Holds Q (f r cs (suc l)) =
      holds_bind (resolve x r) _ λ a p.
      holds_bind (load_block x.lent x.order (child_place t.key_size t.val_size cs (suc l) r) cs a) _ λ c q.
      holds_bind (walk_below l x t cs c) _ λ w s.
      holds_bind tail _ λ w' u.
      holds_ok (go a p c q w s w' u) in
      subst (Holds Q) (sym to) held

  -- the bounds of child `length xs`
  kid_lower : (bs : Bounds) (xs : List Entry) (e : Entry) (ys : List Entry) → Lowest τ bs.lower → KeyOk τ e.key
      → Lowest τ (child_bounds x.order bs (xs ++ e ∷ ys) (length xs)).lower
      × (1 ≤ length (child_bounds x.order bs (xs ++ e ∷ ys) (length xs)).lower)
      × (K τ e.key ≤ K τ (bound_key (child_bounds x.order bs (xs ++ e ∷ ys) (length xs)).lower))
  unfolding child_bounds
  kid_lower bs xs e ys h g = rw (ord, key_at_lem xs e ys) (lowest_tighter τ bs.lower e.key h g)

  kid_upper : (bs : Bounds) (lo hi : ℕ) (xs : List Entry) (e : Entry) (ys : List Entry) → Highest τ bs.upper hi → Items (K τ) (KeyBelow τ) lo hi ys
      → Highest τ (child_bounds x.order bs (xs ++ e ∷ ys) (length xs)).upper (first_or (K τ) hi ys)
  unfolding child_bounds
  kid_upper bs lo hi xs e [] h r =
      let f : ltb (suc (length xs)) (length (xs ++ e ∷ [])) ≡ false =
      le-ltb (suc (length xs)) (length (xs ++ e ∷ [])) (omega (arith, length-append xs (e ∷ []))) in
      rw f h
  kid_upper bs lo hi xs e (d ∷ ds) h (cons z p r) =
      let f : ltb (suc (length xs)) (length (xs ++ e ∷ d ∷ ds)) ≡ true =
      lt-ltb (suc (length xs)) (length (xs ++ e ∷ d ∷ ds)) (omega (arith, length-append xs (e ∷ d ∷ ds))) in
      rw (f, ord, key_next xs e d ds) (highest_tighter τ bs.upper hi d.key h p.key)

  -- ---- a child before its siblings

  named_none : (c r : ℕ) (e : Entry) → e.value ≡ disk r → names c e.value ≡ 0
  unfolding names
  named_none c r e val = ap (names c) val

  child_one : (r : ℕ) (e : Entry) → e.value ≡ disk r → is_child e.value ≡ true
  unfolding is_child
  child_one r e val = ap is_child val

  sures_join : (l lo m hi a r : ℕ) (c : OnDisk) (e : Entry) (ys : List Entry) (w w' : Walk) → lo ≤ K τ e.key → KeyOk τ e.key
      → K τ e.key < first_or (K τ) hi ys
      → e.value ≡ disk r → resolve x c.node.oid ≡ ok a → node_of (rd x τ v) at e.value ≡ adopted v a c
      → Sure l (K τ e.key) (first_or (K τ) hi ys) (adopted v a c) w → Sures l m hi ys w'
      → Sures l lo hi (e ∷ ys) (joined (record { block = a; id = c.node.oid }) w w')
  unfolding joined ids_of uses adopted
  sures_join l lo m hi a r c e ys w w' z g b val home is h k =
      record {
        items =
            let q : Ok τ (rd x τ v) at l (K τ e.key) (first_or (K τ) hi ys) (node_of (rd x τ v) at e.value) =
            subst (Ok τ (rd x τ v) at l (K τ e.key) (first_or (K τ) hi ys)) (sym is) h.tree in
            cons z (record { key = g; below = b; is_one = child_one r e val; ok = q }) (tight k.items);
        walked = kids_join τ x v at t ord ks vs l a c e ys w w' is h.walked k.walked;
        ids = λ y i.
            let f : MemNode → ℕ = λ n. uses i n.id in
            let q : total (rd x τ v) at f l (node_of (rd x τ v) at e.value) ≡ total (rd x τ v) at f l (adopted v a c) =
            ap (total (rd x τ v) at f l) is in
            let p : uses i (adopted v a c).id ≡ uses i (c.node.oid ∷ []) = rw y in
            omega (arith, h.ids y i, k.ids y i, ids_append i w.nodes w'.nodes);
        bare = λ d.
            let q : slots (rd x τ v) at l d (node_of (rd x τ v) at e.value) ≡ slots (rd x τ v) at l d (adopted v a c) =
            ap (slots (rd x τ v) at l d) is in
            omega (arith, h.bare d, k.bare d, named_none d r e val);
        homes = (home, homes_append x w.nodes w'.nodes h.homes k.homes);
      }

  -- ---- the walk

  module _ (sound : (r : ℕ) (y : Seen) → seen x τ r ≡ ok y → Sound τ false r y.node) where
    abbrev Sounds : ℕ → Type 0
    Sounds l = (bs : Bounds) (a r : ℕ) (root : Bool) (c : OnDisk) (lo hi : ℕ) → Lowest τ bs.lower
        → Highest τ bs.upper hi → c.node.level ≡ l → Sound τ root r c
        → Items (K τ) (KeyBelow τ) lo hi c.entries → Holds (Sure l lo hi (adopted v a c)) (walk_below l x t bs c)

    -- a child that was read, and its keys
    record Fetched (l r a lo hi : ℕ) (c : OnDisk) : Type 0 where
      level : c.node.level ≡ l
      same : seen x τ r ≡ ok (record { block = a; node = c })
      facts : Sound τ false r c
      keys : Items (K τ) (KeyBelow τ) lo hi c.entries

    kid_read : (l r a lo hi : ℕ) (c : OnDisk) (cs : Bounds) → Lowest τ cs.lower → 1 ≤ length cs.lower → lo ≤ K τ (bound_key cs.lower)
        → Highest τ cs.upper hi → lo ≤ hi → resolve x r ≡ ok a
        → load_block x.lent x.order (child_place t.key_size t.val_size cs (suc l) r) cs a ≡ ok c → Fetched l r a lo hi c
    kid_read l r a lo hi c cs lw some le up wide p q =
        let h : Loaded τ x cs (suc l) r a c = load_loaded τ x cs (suc l) r a c p (rw (ks, vs) at q) in
        let s : Sound τ false r c = sound r (record { block = a; node = c }) h.same in
        record {
          level = omega (arith, h.level);
          same = h.same;
          facts = s;
          keys = rise_items τ lo hi c.entries wide
              (keys_within_lem τ x.order τ.ksize τ.vsize (suc l) r cs lo hi c.entries ord (lw.keyed some) le up s.keys h.within)
              s.rise;
        }

    kid_step : (l : ℕ) → Sounds l → (d : OnDisk) (bs : Bounds) (lo m hi : ℕ) (xs : List Entry) (e : Entry) (ys : List Entry) (r : ℕ)
        → Lowest τ bs.lower → Highest τ bs.upper hi → d.node.level ≡ suc l
        → d.entries ≡ xs ++ e ∷ ys → e.value ≡ disk r → lo ≤ K τ e.key → KeyBelow τ m e → Items (K τ) (KeyBelow τ) m hi ys
        → Holds (Sures l m hi ys) (walk_kids (walk_below l x t) x t bs d (length ys) (suc (length xs)))
        → Holds (Sures l lo hi (e ∷ ys)) (walk_kids (walk_below l x t) x t bs d (suc (length ys)) (length xs))
    kid_step l ih d bs lo m hi xs e ys r lw up lv row val z p q rest =
        kid_go l d bs xs e ys r (Sures l lo hi (e ∷ ys)) row val lv λ a ra c lc w wk w' wr.
        let cs : Bounds = child_bounds x.order bs (xs ++ e ∷ ys) (length xs) in
        let (lw₁, some, le) = kid_lower bs xs e ys lw p.key in
        let up₁ = kid_upper bs m hi xs e ys up q in
        let b : K τ e.key < first_or (K τ) hi ys = let g = p.below in let f = first_le q in omega arith in
        let k : Fetched l r a (K τ e.key) (first_or (K τ) hi ys) c =
        kid_read l r a (K τ e.key) (first_or (K τ) hi ys) c cs lw₁ some le up₁ (omega arith) ra lc in
        let h : Sure l (K τ e.key) (first_or (K τ) hi ys) (adopted v a c) w =
        (ih cs a r false c (K τ e.key) (first_or (K τ) hi ys) lw₁ up₁ k.level k.facts k.keys).at w wk in
        let is : node_of (rd x τ v) at e.value ≡ adopted v a c =
        ap (node_of (rd x τ v) at) val ∙ node_disk (rd x τ v) at r ∙ rd_is x τ v r (record { block = a; node = c }) k.same in
        sures_join l lo m hi a r c e ys w w' z p.key b val (ap (resolve x) k.facts.oid ∙ ra) is h (rest.at w' wr)

    kids_sound : (l : ℕ) → Sounds l → (d : OnDisk) (bs : Bounds) (hi : ℕ) → Lowest τ bs.lower → Highest τ bs.upper hi → d.node.level ≡ suc l
        → (lo : ℕ) (xs ys : List Entry) → d.entries ≡ xs ++ ys → Every Kid ys → Items (K τ) (KeyBelow τ) lo hi ys
        → Holds (Sures l lo hi ys) (walk_kids (walk_below l x t) x t bs d (length ys) (length xs))
    kids_sound l ih d bs hi lw up lv lo xs [] row ds (nil z) =
        unfold walk_kids in (holds_ok (record {
          items = nil z;
          walked = record { entries = refl; blocks = λ b. unfold blocks_of uses in refl; nodes = refl };
          ids = λ y i. unfold ids_of uses in refl;
          bare = λ c. refl;
          homes = tt;
        }))
    kids_sound l ih d bs hi lw up lv lo xs (e ∷ ys) row ds (cons {m = m} z p q) =
        let r : ℕ = ds.0.number in
        let row' : d.entries ≡ (xs ++ e ∷ []) ++ ys = row ∙ sym (append_assoc xs (e ∷ []) ys) in
        let one : length (xs ++ e ∷ []) ≡ suc (length xs) = length-append xs (e ∷ []) ∙ omega arith in
        let rest : Holds (Sures l m hi ys) (walk_kids (walk_below l x t) x t bs d (length ys) (length (xs ++ e ∷ []))) =
        kids_sound l ih d bs hi lw up lv m (xs ++ e ∷ []) ys row' ds.1 q in
        kid_step l ih d bs lo m hi xs e ys r lw up lv row ds.0.value z p q
        (subst (λ (n : ℕ). Holds (Sures l m hi ys) (walk_kids (walk_below l x t) x t bs d (length ys) n)) one rest)

    -- the node's own block and id beside what the walk below it met
    own_leaf : (a r lo hi : ℕ) (root : Bool) (c : OnDisk) → c.node.level ≡ zero → Sound τ root r c → Items (K τ) (KeyBelow τ) lo hi c.entries
        → Sure zero lo hi (adopted v a c) (record { nodes = []; entries = c.entries })
    unfolding cont total slots adopted
    own_leaf a r lo hi root c lv s items =
        record {
          tree = record { level = lv; live = refl; items = rows τ (s.values lv) items };
          walked = record { entries = refl; blocks = λ b. unfold blocks_of uses in omega arith; nodes = refl };
          ids = λ y i. unfold ids_of uses in omega arith;
          bare = λ d. refl;
          homes = tt;
        }

    own_index : (l a lo hi : ℕ) (c : OnDisk) (w : Walk) → c.node.level ≡ suc l → Sures l lo hi c.entries w → Sure (suc l) lo hi (adopted v a c) w
    unfolding cont total slots adopted
    own_index l a lo hi c w lv h =
        record {
          tree = record { level = lv; live = refl; items = h.items };
          walked = record {
            entries = h.walked.entries;
            blocks = λ b. ap (λ (z : ℕ). uses b (a ∷ []) + z) (h.walked.blocks b);
            nodes = omega (arith, h.walked.nodes);
          };
          ids = λ y i. ap (λ (z : ℕ). uses i (adopted v a c).id + z) (h.ids y i);
          bare = h.bare;
          homes = h.homes;
        }

    pub walk_sound : (l : ℕ) → Sounds l
    unfolding walk_below
    walk_sound zero bs a r root c lo hi lw up lv s items = holds_ok (own_leaf a r lo hi root c lv s items)
    walk_sound (suc l) bs a r root c lo hi lw up lv s items =
        holds_imp (walk_kids (walk_below l x t) x t bs c (length c.entries) 0) (λ w h. own_index l a lo hi c w lv h)
        (kids_sound l (walk_sound l) c bs hi lw up lv lo [] c.entries refl (s.kids (omega (arith, lv))) items)
