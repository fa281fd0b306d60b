-- The disk that flush leaves: a node that stood on disk is read as before, a clean slot's node too, its children by their numbers. Assumes nothing.
use Rattle.std.specs.Prelude.{◌≡◌, Bool, ℕ, suc, ◌+◌, ◌≤◌, get_or, leb}
use Rattle.std.proofs.Math.Path.{refl, sym, ap, ap₂}
use Rattle.std.proofs.Common.{subst, ◌∙◌, leb-true, leb-false}
use mathlib.Core.List.{List, [], ◌∷◌, map}
use Rattle.std.proofs.Math.Bool.{true, false}
use native.Mathlib.Omega.{arith}
use Rattle.std.proofs.Math.ListN.{length}
use Rattle.seal.specs.Bytes.{u16_at}
use Rattle.node.specs.Result.{Result, ok, refused}
use Rattle.node.specs.Entry.{Entry, Val, ghost, leaf, disk, mem}
use Rattle.node.specs.Pack.{numbered, numbered_value}
use Rattle.node.specs.Read.{OnDisk}
use Rattle.node.specs.Slot.{MemNode}
use Rattle.node.specs.laws.base.Tests.{by_test, never}
use Rattle.tree.specs.Lent.{Lent, block_at}
use Rattle.tree.specs.State.{State, node_at, no_node}
use Rattle.tree.specs.Load.{unbounded, load_block, child_place, adopted}
use Rattle.flush.specs.Space.{Space}
use Rattle.flush.specs.Flush.{Flushing, slot_number, flushed}
use Rattle.history.specs.Walk.{Disk, moved_to, resolve}
use Rattle.history.specs.Statement.{Start, uses, tree_blocks, left_by}
use Rattle.theorem.specs.model.Bounds.{Terms}
use Rattle.theorem.specs.model.Lazy.{total, names, slots, names_same, Ok, ok_live}
use Rattle.theorem.specs.model.Good.{Refers, Refer, Clean, found}
use Rattle.theorem.specs.model.Seen.{Seen, seen, unread, stood, rd}
use Rattle.theorem.specs.flush.Writes.{naming, one_of}
use Rattle.theorem.specs.model.Sums.{uses_one}
use Rattle.theorem.specs.flush.SlotSums.{off, off_total}
use Rattle.theorem.specs.flush.Reach.{ok_closed, reach_closed}
use Rattle.theorem.specs.flush.Seen.{seen_parts, parts_seen, seen_oid, load_again, blocks_more}
use Rattle.theorem.specs.flush.Reached.{Setting, In}
use Rattle.theorem.specs.flush.Done.{total_own, block_old, ids_old, keeps, moves}
use Rattle.theorem.specs.flush.Left.{tree_old, lends_after, resolve_first, resolve_same, moved_nil}
use Rattle.theorem.specs.flush.Left.{clean_unmoved, old_unmoved, number_id, number_block, done}

-- a node that can be in a tree was read
pub was_seen : (x : Disk) (τ : Terms) (v : Bool) (at : ℕ → MemNode) (r l lo hi : ℕ) → Ok τ (rd x τ v) at l lo hi (rd x τ v r)
    → (y : Seen) × (seen x τ r ≡ ok y)
unfolding rd stood unread
was_seen x τ v at r l lo hi o = go (seen x τ r) refl
  where
    go : (z : Result Seen) → seen x τ r ≡ z → (y : Seen) × (seen x τ r ≡ ok y)
    go (refused n) e = never {t = true} refl (ap (λ (w : Result Seen). (stood v w).dead) (sym e) ∙ ok_live τ (rd x τ v) at l lo hi (rd x τ v r) o)
    go (ok y) e = (y, e)

pub rd_is : (x : Disk) (τ : Terms) (v : Bool) (r : ℕ) (y : Seen) → seen x τ r ≡ ok y → rd x τ v r ≡ adopted v y.block y.node
unfolding rd stood
rd_is x τ v r y e = rw e

module _ (g : Start) (τ : Terms) (th : List ℕ) (s : State) (es : List Entry) (l : Lent) (p : Space) (xid next : ℕ)
    (k : Setting g τ th s es l p xid next) where
  abbrev W : Flushing
  W = (flushed l p s xid next).after

  abbrev x' : Disk
  x' = left_by g l (flushed l p s xid next)

  abbrev num : ℕ → ℕ
  num = slot_number s.virtual W.nodes

  abbrev root : MemNode
  root = node_at s s.root

  abbrev Reaches : ℕ → Type 0
  Reaches c = 1 ≤ names c (mem s.root) + slots (found g τ) (node_at s) k.good.level c (node_at s s.root)

  -- what is seen in an old block is seen again
  pub seen_again : (r : ℕ) (y : Seen) → seen g.disk τ r ≡ ok y → 1 ≤ uses y.block (tree_blocks g) → moved_to W.moved r ≡ []
      → seen x' τ r ≡ ok y
  seen_again r y e old m =
      let q = seen_parts g.disk τ r y e in
      let h = lends_after g τ th s es l p xid next k in
      let b : block_at x'.lent y.block ≡ block_at g.disk.lent y.block = h.agrees y.block (tree_old g y.block old) in
      let ld = load_again g.disk.lent x'.lent g.disk.order
      (child_place τ.ksize τ.vsize unbounded (suc (u16_at (block_at g.disk.lent y.block) 34)) r) unbounded y.block y.node
      (blocks_more g.disk.lent x'.lent h.same_size h.no_shorter) b q.load in
      parts_seen x' τ r y
      (record {
        resolved = resolve_same g τ th s es l p xid next k r m ∙ q.resolved;
        load = ap (λ (z : List ℕ). load_block x'.lent x'.order (child_place τ.ksize τ.vsize unbounded (suc (u16_at z 34)) r) unbounded
            y.block) b ∙ same_order ∙ ld;
      })
    where
      same_order : load_block x'.lent x'.order (child_place τ.ksize τ.vsize unbounded
          (suc (u16_at (block_at g.disk.lent y.block) 34)) r) unbounded y.block
          ≡ load_block x'.lent g.disk.order (child_place τ.ksize τ.vsize unbounded
          (suc (u16_at (block_at g.disk.lent y.block) 34)) r) unbounded y.block
      same_order = unfold left_by in refl

  -- ---- references that stand in the tree

  pub record On (r : ℕ) : Type 0 where
    pub level : ℕ
    pub lo : ℕ
    pub hi : ℕ
    pub ok : Ok τ (found g τ) (node_at s) level lo hi (found g τ r)
    pub less : (f : MemNode → ℕ) → total (found g τ) (node_at s) f level (found g τ r) ≤ off (found g τ) (node_at s) f k.good.level
        (node_at s s.root)

  on_less : (r : ℕ) → On r → (f : MemNode → ℕ) → f (found g τ r) ≤ off (found g τ) (node_at s) f k.good.level root
  on_less r o f = omega (arith, o.less f, total_own (found g τ) (node_at s) f o.level (found g τ r))

  on_unmoved : (r : ℕ) (y : Seen) → On r → seen g.disk τ r ≡ ok y → moved_to W.moved r ≡ []
  on_unmoved r y o e =
      by_test s.virtual
      (λ v.
      let f : MemNode → ℕ = λ m. uses r m.id in
      let gv : g.state.virtual ≡ true = sym k.good.virtual ∙ v in
      let one : f (found g τ r) ≡ 1 = ap f (rd_is g.disk τ g.state.virtual r y e)
      ∙ ap (uses r) (new_id g.state.virtual y.block y.node gv) ∙ ap (λ (i : ℕ). uses r (i ∷ [])) (seen_oid g.disk τ r y e)
      ∙ uses_one r in
      old_unmoved g τ th s es l p xid next k v r (omega (arith, ids_old g τ th s es l p xid next k v r, on_less r o f, one))
      (omega (arith, ids_old g τ th s es l p xid next k v r, on_less r o f, one, k.ids_once gv r)))
      (λ v. moved_nil W.moved r ((keeps g τ th s es l p xid next k).still v))
    where
      new_id : (v : Bool) (a : ℕ) (d : OnDisk) → v ≡ true → (adopted v a d).id ≡ d.node.oid ∷ []
      new_id v a d e = unfold adopted in rw e

  pub on_disk_lem : (r : ℕ) → On r → rd x' τ g.state.virtual r ≡ found g τ r
  on_disk_lem r o =
      let (y, e) = was_seen g.disk τ g.state.virtual (node_at s) r o.level o.lo o.hi o.ok in
      let f : MemNode → ℕ = λ m. uses y.block m.block in
      let one : f (found g τ r) ≡ 1 = ap f (rd_is g.disk τ g.state.virtual r y e) ∙ own g.state.virtual y.block y.node in
      let old : 1 ≤ uses y.block (tree_blocks g) = omega
      (arith, on_less r o f, one, off_total (found g τ) (node_at s) f k.good.level root, k.good.blocks y.block) in
      rd_is x' τ g.state.virtual r y (seen_again r y e old (on_unmoved r y o e)) ∙ sym (rd_is g.disk τ g.state.virtual r y e)
    where
      own : (v : Bool) (a : ℕ) (d : OnDisk) → uses a (adopted v a d).block ≡ 1
      own v a d = unfold adopted in uses_one a

  -- ---- slots that are clean

  -- a node on disk that is slot c's, children by their numbers, in the slot's block
  pub record Lands (c : ℕ) (m : MemNode) : Type 0 where
    pub level : m.level ≡ (node_at s c).level
    pub live : m.dead ≡ false
    pub entries : m.entries ≡ map (numbered (slot_number s.virtual (flushed l p s xid next).after.nodes)) (node_at s c).entries
    pub block : m.block ≡ (get_or (flushed l p s xid next).after.nodes c no_node).block

  -- what a reached slot names is reached
  pub reach_named : (c d : ℕ) → Reaches c → 1 ≤ naming d (node_at s c).entries → Reaches d
  reach_named c d h q =
      by_test (leb 1 (names c (mem s.root)))
      (λ t.
      let e : c ≡ s.root = one_of c s.root (leb-true 1 _ t) in
      let y = ok_closed τ (found g τ) (node_at s) k.good.level k.good.lo k.good.hi root d k.good.tree
      (subst (λ (z : ℕ). 1 ≤ naming d (node_at s z).entries) e q) in
      omega arith)
      (λ t.
      let z = leb-false 1 (names c (mem s.root)) t in
      let y = reach_closed τ (found g τ) (node_at s) k.good.level k.good.lo k.good.hi root c d k.good.tree (omega arith) q in
      omega arith)

  refers_value : (v w : Val) → Refers s v w → ((c : ℕ) → 1 ≤ names c v → Reaches c) → w ≡ numbered_value num v
  unfolding numbered_value
  refers_value ghost w h f = h
  refers_value (leaf b) w h f = h
  refers_value (disk r) w h f = h
  refers_value (mem c) w (r, e, a, b, d) f = e ∙ ap disk (sym (is c r a b d (f c (omega (arith, names_same c)))))
    where
      is : (c r : ℕ) → (s.virtual ≡ true → (node_at s c).id ≡ r ∷ []) → (s.virtual ≡ false → (node_at s c).block ≡ r ∷ [])
          → (s.virtual ≡ false → (node_at s c).dirty ≡ false) → Reaches c → num c ≡ r
      is c r a b d h =
          by_test s.virtual
          (λ v.
          let n : 1 ≤ length (node_at s c).id = let z : length (node_at s c).id ≡ 1 = ap length (a v) in omega arith in
          number_id g τ th s es l p xid next k c r v ((moves g τ th s es l p xid next k v).same c n ∙ a v))
          (λ v. number_block g τ th s es l p xid next k c r v
          (ap (λ (m : MemNode). m.block) ((done g τ th s es l p xid next k c h).same (d v)) ∙ b v))

  refer_numbered : (bs ds : List Entry) → Refer s bs ds → ((c : ℕ) → 1 ≤ naming c bs → Reaches c) → ds ≡ map (numbered num) bs
  unfolding numbered
  refer_numbered [] [] h f = refl
  refer_numbered [] (d ∷ ds) h f = absurd h
  refer_numbered (e ∷ bs) [] h f = absurd h
  refer_numbered (e ∷ bs) (d ∷ ds) (key, value, rest) f =
      ap₂ (λ (z : Entry) (r : List Entry). z ∷ r)
      (ap₂ (λ (a : List ℕ) (b : Val). record { key = a; value = b }) (sym key) (refers_value e.value d.value value (λ c q. f c (omega arith))))
      (refer_numbered bs ds rest (λ c q. f c (omega arith)))

  pub clean_node : (c : ℕ) → Reaches c → (node_at s c).dirty ≡ false → (q : Clean g τ s c)
      → Lands c (adopted g.state.virtual q.address q.found)
  unfolding adopted
  clean_node c h t q =
      record {
        level = sym q.level;
        live = refl;
        entries = refer_numbered (node_at s c).entries q.found.entries q.entries (λ d z. reach_named c d h z);
        block = sym (ap (λ (m : MemNode). m.block) ((done g τ th s es l p xid next k c h).same t) ∙ q.block);
      }

  -- the address of a clean slot is old, and its id is not moved
  pub clean_old : (c : ℕ) → In g τ th s es l p xid next k c → (q : Clean g τ s c) → 1 ≤ uses q.address (tree_blocks g)
  clean_old c inn q =
      let z : uses q.address (node_at s c).block ≡ 1 = ap (uses q.address) q.block ∙ uses_one q.address in
      block_old g τ th s es l p xid next k c inn q.address (omega arith)

  pub clean_still : (c : ℕ) → Reaches c → In g τ th s es l p xid next k c → (node_at s c).dirty ≡ false → (q : Clean g τ s c)
      → moved_to W.moved q.found.node.oid ≡ []
  clean_still c h inn t q =
      by_test s.virtual
      (λ v. clean_unmoved g τ th s es l p xid next k v c q.found.node.oid inn t
      (ap (λ (m : MemNode). m.id) ((done g τ th s es l p xid next k c h).same t) ∙ q.id ∙ rw v))
      (λ v. moved_nil W.moved q.found.node.oid ((keeps g τ th s es l p xid next k).still v))

  -- a clean slot's number is its node's id, or its block
  pub clean_number : (c : ℕ) → Reaches c → (node_at s c).dirty ≡ false → (q : Clean g τ s c) → (r : ℕ) → resolve g.disk r ≡ ok q.address
      → q.found.node.oid ≡ r → num c ≡ r
  clean_number c h t q r e o =
      let d = (done g τ th s es l p xid next k c h).same t in
      by_test s.virtual
      (λ v. number_id g τ th s es l p xid next k c r v (ap (λ (m : MemNode). m.id) d ∙ q.id ∙ rw v (ap (λ (z : ℕ). z ∷ []) o)))
      (λ v. number_block g τ th s es l p xid next k c r v
      (ap (λ (m : MemNode). m.block) d ∙ q.block ∙ ap (λ (z : ℕ). z ∷ [])
      (same_ok q.address r (sym e ∙ resolve_first g τ th s es l p xid next k r v))))
    where
      same_ok : (a b : ℕ) → ◌≡◌ {A = Result ℕ} (ok a) (ok b) → a ≡ b
      same_ok a b e = cc

  pub clean_lands : (c : ℕ) → Reaches c → In g τ th s es l p xid next k c → (node_at s c).dirty ≡ false → (c ≡ s.root → ⊥)
      → Lands c (rd x' τ g.state.virtual (num c))
  clean_lands c h inn t apart =
      let q = inn.slot.clean t in
      let r : ℕ = q.found.node.oid in
      let y : Seen = record { block = q.address; node = q.found } in
      let e : seen g.disk τ r ≡ ok y = q.as_child apart in
      let n : num c ≡ r = clean_number c h t q r (seen_parts g.disk τ r y e).resolved refl in
      subst (Lands c) (sym (ap (rd x' τ g.state.virtual) n
      ∙ rd_is x' τ g.state.virtual r y (seen_again r y e (clean_old c inn q) (clean_still c h inn t q)))) (clean_node c h t q)
