-- The disk that flush leaves: a dirty slot's node is read from its new block, with its children's numbers. Assumes nothing.
use Rattle.std.specs.Prelude.{◌≡◌, Bool, false, cond, ◌&&◌, ◌||◌, ℕ, zero, suc, ◌+◌, ◌*◌, ◌/◌, ◌%◌, ◌^◌, ◌≤◌, ◌<◌, length, get_or}
use Rattle.std.proofs.Math.Path.{refl, sym, ap, subst}
use Rattle.std.proofs.Common.{◌∙◌}
use mathlib.Core.List.{List, [], ◌∷◌, map}
use Rattle.std.proofs.Math.Bool.{true, not}
use native.Mathlib.Omega.{arith}
use Rattle.std.proofs.Math.Dec.{eqb, ltb}
use borrow.Author.Tests.{lt-ltb, ne_eqb}
use Rattle.seal.specs.Bytes.{window, u16_at}
use Rattle.node.specs.Result.{ok}
use Rattle.node.specs.Entry.{Entry, disk, mem, every}
use Rattle.node.specs.Pack.{pack_node, numbered}
use Rattle.node.specs.Read.{OnDisk, keys_hold}
use Rattle.node.specs.Slot.{MemNode, only, number_of}
use Rattle.node.specs.internal.Packable.{packed_node, suits, InfoFits, HeadFits, Below, Packable}
use Rattle.node.specs.laws.pack.HeaderBack.{level_back}
use Rattle.node.specs.laws.pack.LoadsBack.{loads_back}
use Rattle.node.specs.laws.base.Tests.{by_test}
use Rattle.node.specs.declared.build.NodeBuild.{NodeBuild}
use Rattle.node.specs.Place.{Place}
use Rattle.tree.specs.Lent.{Lent, blocks, block_at, in_image}
use Rattle.tree.specs.State.{State, node_at, no_node}
use Rattle.tree.specs.Load.{unbounded, bound_key, load_block, child_place, root_place, adopted}
use Rattle.tree.specs.Lookup.{opened_at}
use Rattle.tree.specs.laws.trust.Open.{open_opens}
use Rattle.flush.specs.Space.{Space}
use Rattle.flush.specs.Flush.{Flushing, slot_number, type_of, build_of, rewritten, flushed}
use Rattle.history.specs.Walk.{Disk, resolve}
use Rattle.history.specs.Statement.{Start, left_by}
use Rattle.theorem.specs.model.Bounds.{Terms}
use Rattle.theorem.specs.model.Lazy.{node_of, names, slots, Ok, ok_level}
use Rattle.theorem.specs.model.Good.{found}
use Rattle.theorem.specs.model.Seen.{Seen, seen, rd}
use Rattle.theorem.specs.flush.Writes.{naming, Written}
use Rattle.theorem.specs.flush.Packed.{numbered_count, rows_suit, kids_suit, ok_keys}
use Rattle.theorem.specs.flush.Seen.{parts_seen, seen_small, load_small}
use Rattle.theorem.specs.flush.Reached.{Setting, lent, In, in_of, fits_numbered}
use Rattle.theorem.specs.flush.Done.{moves}
use Rattle.theorem.specs.flush.Left.{as_long, final, done, new_block, number_id, number_block, head_same, resolve_to, resolve_after}
use Rattle.theorem.specs.flush.ReadBack.{was_seen, rd_is, Lands, reach_named}

filled_test : (n : ℕ) (a b : Bool) → 0 < n + cond a (cond b 1 0) 0 → (not (eqb n 0) || a && b) ≡ true
filled_test zero true true h = refl
filled_test zero true false h = absurd (omega arith)
filled_test zero false b h = absurd (omega arith)
filled_test (suc n) a b h = let e : eqb (suc n) 0 ≡ false = ne_eqb (suc n) 0 (λ q. omega arith) in rw e

type_fits : (v r : Bool) → (type_of v r < 2 ^ 32) × ((eqb (type_of v r % 65536) 2 || eqb (type_of v r % 65536) 3) ≡ true)
unfolding type_of
type_fits true true = (omega arith, refl)
type_fits true false = (omega arith, refl)
type_fits false true = (omega arith, refl)
type_fits false false = (omega arith, refl)

-- the number of a node that was written: its id, or its address
only_cond : (b : Bool) (i : List ℕ) (a : ℕ) → only (cond b i (a ∷ [])) ≡ cond b (only i) a
unfolding only
only_cond true i a = refl
only_cond false i a = refl

module _ (g : Start) (τ : Terms) (th : List ℕ) (s : State) (es : List Entry) (l : Lent) (p : Space) (xid next : ℕ)
    (k : Setting g τ th s es l p xid next) where
  abbrev W : Flushing
  W = (flushed l p s xid next).after

  abbrev x' : Disk
  x' = left_by g l (flushed l p s xid next)

  abbrev num : ℕ → ℕ
  num = slot_number s.virtual W.nodes

  abbrev Reaches : ℕ → Type 0
  Reaches c = 1 ≤ names c (mem s.root) + slots (found g τ) (node_at s) k.good.level c (node_at s s.root)

  -- what a dirty slot is packed from
  abbrev pub packed_from : ℕ → NodeBuild
  packed_from c = build_of s xid (slot_number s.virtual (flushed l p s xid next).after.nodes c) c (node_at s c)

  abbrev pub packed_rows : ℕ → List Entry
  packed_rows c = map (numbered (slot_number s.virtual (flushed l p s xid next).after.nodes)) (node_at s c).entries

  key_size : s.info.key_size ≡ τ.ksize
  key_size = k.good.info.key ∙ sym k.suits.ksize

  val_size : s.info.val_size ≡ τ.vsize
  val_size = k.good.info.val ∙ sym k.suits.vsize

  pub subtype_small : s.subtype < 2 ^ 32
  unfolding opened_at
  subtype_small =
      let o = open_opens g.disk.lent g.root g.disk.order g.disk.xid g.state k.begins.opens in
      let e : s.subtype ≡ o.found.node.subtype = k.good.subtype ∙ ap (λ (z : State). z.subtype) o.state in
      let h = (load_small g.disk.lent g.disk.order (root_place g.root) unbounded o.address o.found k.begins.bytes o.reads).1 in
      omega arith

  info_fits : InfoFits s.info
  info_fits =
      let m = lent g τ th s es l p xid next k in
      let e = m.node in
      let z = m.size in
      record {
        sized = record { least = omega (arith, z.least); most = omega (arith, z.most); key = m.key; value = m.val };
        words = ap (λ (y : ℕ). y % 4) e ∙ z.words;
        flags = m.flags;
        longest_key = m.longest_key;
        longest_val = m.longest_val;
        key_count = k.good.info.key_count;
        node_count = k.good.info.node_count;
      }

  head_fits : (c : ℕ) → Reaches c → In g τ th s es l p xid next k c → HeadFits (packed_from c)
  unfolding build_of
  head_fits c h inn =
      let (a, b) = type_fits s.virtual (eqb c s.root) in
      record {
        oid = (final g τ th s es l p xid next k c h inn).small;
        xid = k.lends.stamp;
        otype = a;
        kind = b;
        subtype = subtype_small;
        level = inn.slot.deep;
      }

  disk_small : (j r lo hi : ℕ) → Ok τ (found g τ) (node_at s) j lo hi (node_of (found g τ) (node_at s) (disk r)) → r < 2 ^ 64
  unfolding node_of
  disk_small j r lo hi o =
      let (y, e) = was_seen g.disk τ g.state.virtual (node_at s) r j lo hi o in
      seen_small g.disk τ k.begins.bytes r y e

  all_suit : (j lo hi : ℕ) (m : MemNode) → Ok τ (found g τ) (node_at s) j lo hi m → ((c : ℕ) → 1 ≤ naming c m.entries → num c < 2 ^ 64)
      → every (suits s.info j) (map (numbered num) m.entries) ≡ true
  all_suit zero lo hi m o f = rows_suit τ (found g τ) (node_at s) num s.info key_size val_size o.items
  all_suit (suc j) lo hi m o f = kids_suit τ (found g τ) (node_at s) num s.info key_size val_size j (disk_small j) o.items f

  pub packable : (c : ℕ) → Reaches c → In g τ th s es l p xid next k c → (node_at s c).dirty ≡ true → (q : Place) → q.bounded ≡ false
      → q.root ≡ eqb c s.root → q.oid ≡ num c
      → (eqb c s.root ≡ false → Below q (packed_from c)) → Packable g.disk.order q [] [] (packed_from c) (packed_rows c)
  unfolding build_of
  packable c h inn t q qb qr qo below =
      let lv : (node_at s c).level ≡ inn.level = ok_level τ (found g τ) (node_at s) inn.level inn.lo inn.hi (node_at s c) inn.ok in
      let named : (d : ℕ) → 1 ≤ naming d (node_at s c).entries
      → num d < 2 ^ 64 = λ d z. let hd = reach_named g τ th s es l p xid next k c d h z in
      (final g τ th s es l p xid next k d hd (in_of g τ th s es l p xid next k d hd)).small in
      record {
        info = info_fits;
        head = head_fits c h inn;
        fit = fits_numbered g τ th s es l p xid next k c num inn t;
        suited = subst (λ (j : ℕ). every (suits s.info j) (packed_rows c) ≡ true) (sym lv)
            (all_suit inn.level inn.lo inn.hi (node_at s c) inn.ok named);
        filled = ap (λ (z : ℕ). not (eqb z 0) || eqb c s.root && eqb (node_at s c).level 0) (numbered_count num (node_at s c).entries)
            ∙ filled_test (length (node_at s c).entries) (eqb c s.root) (eqb (node_at s c).level 0) inn.slot.filled;
        keys = ap (λ (z : ℕ). keys_hold z q [] [] (packed_rows c)) (sym k.suits.order)
            ∙ ok_keys τ (found g τ) (node_at s) num q qb inn.level inn.lo inn.hi (node_at s c) inn.ok;
        root = qr;
        oid = qo;
        below = below;
      }

  -- ---- the block that was written

  pub record Lain (c : ℕ) : Type 0 where
    pub address : ℕ
    pub block : (get_or (flushed l p s xid next).after.nodes c no_node).block ≡ address ∷ []
    pub inside : address < blocks l
    pub bytes : block_at (left_by g l (flushed l p s xid next)).lent address ≡ pack_node (packed_from c) (packed_rows c)
    pub resolved : resolve (left_by g l (flushed l p s xid next)) (slot_number s.virtual (flushed l p s xid next).after.nodes c) ≡ ok address

  pub lain : (c : ℕ) → Reaches c → In g τ th s es l p xid next k c → (node_at s c).dirty ≡ true → Lain c
  lain c h inn t =
      let w = (done g τ th s es l p xid next k c h).written t in
      let b : (get_or W.nodes c no_node).block ≡ w.address ∷ [] = ap (λ (m : MemNode). m.block) w.node
      ∙ new_block g τ th s es l p xid next k c w.address w.id in
      let o : cond s.virtual (only w.id) w.address ≡ num c = sym (number c w) in
      record {
        address = w.address;
        block = b;
        inside = w.inside;
        bytes = at_block w.address ∙ w.bytes ∙ ap (λ (z : ℕ). pack_node (build_of s xid z c (node_at s c)) (packed_rows c)) o;
        resolved = by_test s.virtual
            (λ v.
            let y = (moves g τ th s es l p xid next k v).lies c inn.used t (ap (λ (m : MemNode). m.dirty) w.node ∙ clean w) in
            ap (resolve x') (number_id g τ th s es l p xid next k c y.id v y.named)
            ∙ resolve_to g τ th s es l p xid next k y.id y.address y.moved ∙ ap ok (head_same y.address w.address _ y.block b))
            (λ v. resolve_after g τ th s es l p xid next k (num c) v ∙ ap ok (number_block g τ th s es l p xid next k c w.address v b));
      }
    where
      at_block : (a : ℕ) → block_at x'.lent a ≡ window (a * s.info.node_size) s.info.node_size W.image
      at_block a = unfold block_at left_by in ap (λ (z : ℕ). window (a * z) z W.image) (sym (lent g τ th s es l p xid next k).node)

      number : (c : ℕ) (w : Written s xid (blocks l) W c) → num c ≡ cond s.virtual (only w.id) w.address
      number c w = unfold slot_number number_of rewritten in (ap (number_of s.virtual) w.node ∙ only_cond s.virtual w.id w.address)

      clean : (w : Written s xid (blocks l) W c) → (rewritten (node_at s c) w.address w.id).dirty ≡ false
      clean w = unfold rewritten in refl

  -- the node that is read there
  abbrev pub reread : ℕ → OnDisk
  reread c = record { node = packed_node (packed_from c) (packed_rows c); entries = packed_rows c }

  pub reload : (c : ℕ) (a : Lain c) (q : Place) → Packable g.disk.order q [] [] (packed_from c) (packed_rows c)
      → load_block x'.lent x'.order q unbounded a.address ≡ ok (reread c)
  unfolding load_block in_image unbounded bound_key left_by
  reload c a q pk =
      let n : blocks x'.lent ≡ blocks l = unfold blocks in ap (λ (z : ℕ). z / l.size) (as_long g τ th s es l p xid next k) in
      let i : ltb a.address (blocks x'.lent) ≡ true = lt-ltb a.address (blocks x'.lent) (let z = a.inside in omega arith) in
      rw (i, a.bytes) (loads_back g.disk.order q [] [] (packed_from c) (packed_rows c) pk)

  abbrev child_at : ℕ → ℕ → Place
  child_at c j = child_place τ.ksize τ.vsize unbounded (suc j) (num c)

  child_packable : (c : ℕ) → Reaches c → In g τ th s es l p xid next k c → (node_at s c).dirty ≡ true → (c ≡ s.root → ⊥)
      → Packable g.disk.order (child_at c (node_at s c).level) [] [] (packed_from c) (packed_rows c)
  child_packable c h inn t apart =
      let f : eqb c s.root ≡ false = ne_eqb c s.root apart in
      packable c h inn t (child_at c (node_at s c).level) (bounded c) (sym (f ∙ sym (inner c))) (numbered_so c) (λ z. below c)
    where
      bounded : (c : ℕ) → (child_at c (node_at s c).level).bounded ≡ false
      bounded c = unfold child_place unbounded in refl

      inner : (c : ℕ) → (child_at c (node_at s c).level).root ≡ false
      inner c = unfold child_place in refl

      numbered_so : (c : ℕ) → (child_at c (node_at s c).level).oid ≡ num c
      numbered_so c = unfold child_place in refl

      below : (c : ℕ) → Below (child_at c (node_at s c).level) (packed_from c)
      below c = unfold child_place build_of in record { parent = omega arith; ksize = sym key_size; vsize = sym val_size }

  pub reread_lands : (c : ℕ) (a : Lain c) → Lands g τ th s es l p xid next k c (adopted g.state.virtual a.address (reread c))
  unfolding adopted packed_node build_of
  reread_lands c a = record { level = refl; live = refl; entries = refl; block = sym a.block }

  level_stored : (c : ℕ) → Reaches c → In g τ th s es l p xid next k c → (node_at s c).dirty ≡ true → (a : Lain c)
      → u16_at (block_at x'.lent a.address) 34 ≡ (node_at s c).level
  level_stored c h inn t a = ap (λ (z : List ℕ). u16_at z 34) a.bytes ∙ stored
    where
      stored : u16_at (pack_node (packed_from c) (packed_rows c)) 34 ≡ (node_at s c).level
      stored = unfold build_of in level_back (packed_from c) (packed_rows c) info_fits.sized (head_fits c h inn)
          (fits_numbered g τ th s es l p xid next k c num inn t)

  pub dirty_lands : (c : ℕ) → Reaches c → In g τ th s es l p xid next k c → (node_at s c).dirty ≡ true → (c ≡ s.root → ⊥)
      → Lands g τ th s es l p xid next k c (rd x' τ g.state.virtual (num c))
  dirty_lands c h inn t apart =
      let a = lain c h inn t in
      let y : Seen = record { block = a.address; node = reread c } in
      let e : seen x' τ (num c) ≡ ok y = parts_seen x' τ (num c) y
      (record {
        resolved = a.resolved;
        load = ap (λ (j : ℕ). load_block x'.lent x'.order (child_at c j) unbounded a.address) (level_stored c h inn t a)
            ∙ reload c a (child_at c (node_at s c).level) (child_packable c h inn t apart);
      }) in
      subst (Lands g τ th s es l p xid next k c) (sym (rd_is x' τ g.state.virtual (num c) y e)) (reread_lands c a)
