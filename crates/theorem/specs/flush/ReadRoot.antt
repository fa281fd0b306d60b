-- The disk that flush leaves: its root is read, and stores the tree's numbers. Assumes nothing.
use Rattle.std.specs.Prelude.{◌≡◌, Bool, ◌&&◌, length}
use Rattle.std.proofs.Math.Path.{refl, sym, ap, ap₂}
use Rattle.std.proofs.Common.{◌∙◌, arith, eq-eqb}
use mathlib.Core.List.{List, []}
use Rattle.std.proofs.Math.Bool.{true, false, cond}
use Prim.Native.Nat.{ℕ, ◌+◌, ◌≤◌}
use Rattle.std.proofs.Math.Dec.{eqb, leb}
use Rattle.node.specs.Result.{ok}
use Rattle.node.specs.Entry.{Entry, mem}
use Rattle.node.specs.Pack.{pack_node}
use Rattle.node.specs.Read.{OnDisk, info_at}
use Rattle.node.specs.internal.Packable.{packed_node, Packable}
use Rattle.node.specs.laws.pack.LoadsBack.{info_loads_back}
use Rattle.node.specs.laws.base.Tests.{by_test, never, and_both}
use Rattle.node.specs.declared.info.BTreeInfo.{BTreeInfo}
use Rattle.tree.specs.Lent.{Lent, block_at}
use Rattle.tree.specs.State.{State, node_at}
use Rattle.tree.specs.Load.{unbounded, load_block, root_place, root_holds, storage_class, adopted, address_of}
use Rattle.tree.specs.Lookup.{opened_at}
use Rattle.tree.specs.laws.trust.Open.{Opens, open_opens}
use Rattle.flush.specs.Space.{Space}
use Rattle.flush.specs.Flush.{Flushing, slot_number, type_of, build_of, flushed}
use Rattle.history.specs.Walk.{Disk, moved_to, resolve}
use Rattle.history.specs.Statement.{Start, left_by}
use Rattle.theorem.specs.model.Bounds.{Terms}
use Rattle.theorem.specs.model.Lazy.{names, slots, names_same}
use Rattle.theorem.specs.model.Good.{found}
use Rattle.theorem.specs.flush.Seen.{load_parts, load_again, blocks_more}
use Rattle.theorem.specs.flush.Reached.{Setting, lent, In, in_of}
use Rattle.theorem.specs.flush.Left.{tree_old, lends_after, resolve_same, resolve_unmoved, moved_nil}
use Rattle.theorem.specs.flush.ReadBack.{Lands, clean_node, clean_old, clean_still, clean_number}
use Rattle.theorem.specs.flush.ReadPacked.{packed_from, packed_rows, packable, lain, reread, reload, reread_lands}

module _ (g : Start) (τ : Terms) (th : List ℕ) (s : State) (es : List Entry) (l : Lent) (p : Space) (xid next : ℕ)
    (k : Setting g τ th s es l p xid next) where
  abbrev W : Flushing
  W = (flushed l p s xid next).after

  abbrev x' : Disk
  x' = left_by g l (flushed l p s xid next)

  abbrev num : ℕ → ℕ
  num = slot_number s.virtual W.nodes

  pub record Rooted : Type 0 where
    pub address : ℕ
    pub node : OnDisk
    pub resolved : resolve (left_by g l (flushed l p s xid next)) (flushed l p s xid next).root ≡ ok address
    pub load : load_block (left_by g l (flushed l p s xid next)).lent (left_by g l (flushed l p s xid next)).order
        (root_place (flushed l p s xid next).root) unbounded address ≡ ok node
    pub holds : root_holds (left_by g l (flushed l p s xid next)).lent address
        (leb 1 (length (left_by g l (flushed l p s xid next)).lent.map)) node ≡ true
    pub info : info_at (block_at (left_by g l (flushed l p s xid next)).lent address) ≡ s.info
    pub lands : Lands g τ th s es l p xid next k s.root (adopted g.state.virtual address node)

  pub root_is : (flushed l p s xid next).root ≡ num s.root
  unfolding flushed
  root_is = refl

  pub root_reached : 1 ≤ names s.root (mem s.root) + slots (found g τ) (node_at s) k.good.level s.root (node_at s s.root)
  root_reached = omega (arith, names_same s.root)

  root_in : In g τ th s es l p xid next k s.root
  root_in = in_of g τ th s es l p xid next k s.root root_reached

  map_virtual : leb 1 (length x'.lent.map) ≡ s.virtual
  unfolding left_by
  map_virtual = ap (leb 1) (lent g τ th s es l p xid next k).map ∙ go s.virtual
    where
      go : (v : Bool) → leb 1 (cond v 1 0) ≡ v
      go true = refl
      go false = refl

  size_is : x'.lent.size ≡ l.size
  unfolding left_by
  size_is = refl

  class_of : (v : Bool) → storage_class (type_of v true) ≡ cond v 0 1
  unfolding storage_class type_of
  class_of true = refl
  class_of false = refl

  -- a root that was written
  dirty_root : (node_at s s.root).dirty ≡ true → Rooted
  dirty_root t =
      let c : ℕ = s.root in
      let a = lain g τ th s es l p xid next k s.root root_reached root_in t in
      let e : eqb s.root s.root ≡ true = eq-eqb s.root s.root refl in
      let pk = packable g τ th s es l p xid next k s.root root_reached root_in t (root_place (num s.root)) open_place
      (top_place ∙ sym e) own_place (λ z. never e z) in
      let inf : info_at (block_at x'.lent a.address) ≡ s.info = ap info_at a.bytes ∙ stored pk e in
      record {
        address = a.address;
        node = reread g τ th s es l p xid next k s.root;
        resolved = ap (resolve x') root_is ∙ a.resolved;
        load = ap (λ (r : ℕ). load_block x'.lent x'.order (root_place r) unbounded a.address) root_is
            ∙ reload g τ th s es l p xid next k s.root a (root_place (num s.root)) pk;
        holds = rooted a.address e inf;
        info = inf;
        lands = reread_lands g τ th s es l p xid next k s.root a;
      }
    where
      open_place : (root_place (num s.root)).bounded ≡ false
      open_place = unfold root_place in refl

      top_place : (root_place (num s.root)).root ≡ true
      top_place = unfold root_place in refl

      own_place : (root_place (num s.root)).oid ≡ num s.root
      own_place = unfold root_place in refl

      stored : Packable g.disk.order (root_place (num s.root)) [] [] (packed_from g τ th s es l p xid next k s.root)
          (packed_rows g τ th s es l p xid next k s.root) → eqb s.root s.root ≡ true
          → info_at (pack_node (packed_from g τ th s es l p xid next k s.root) (packed_rows g τ th s es l p xid next k s.root)) ≡ s.info
      stored pk e =
          unfold build_of in
          info_loads_back g.disk.order (root_place (num s.root)) [] [] (packed_from g τ th s es l p xid next k s.root)
          (packed_rows g τ th s es l p xid next k s.root) pk e

      type_is : eqb s.root s.root ≡ true → (reread g τ th s es l p xid next k s.root).node.otype ≡ type_of s.virtual true
      type_is e = unfold packed_node build_of in ap (type_of s.virtual) e

      rooted : (a : ℕ) → eqb s.root s.root ≡ true → info_at (block_at x'.lent a) ≡ s.info
          → root_holds x'.lent a (leb 1 (length x'.lent.map)) (reread g τ th s es l p xid next k s.root) ≡ true
      rooted a e inf =
          unfold root_holds in
          and_both _ _
          (eq-eqb _ _ (ap storage_class (type_is e) ∙ class_of s.virtual ∙ ap (λ (b : Bool). cond b 0 1) (sym map_virtual)))
          (eq-eqb _ _ (ap (λ (z : BTreeInfo). z.node_size) inf ∙ (lent g τ th s es l p xid next k).node ∙ sym size_is))

  same_ok : {A : Type 0} (a b : A) → ok a ≡ ok b → a ≡ b
  same_ok a b e = cc

  -- a clean root: as it was opened
  clean_root : (node_at s s.root).dirty ≡ false → Rooted
  clean_root t =
      let q = root_in.slot.clean t in
      let (rv, ld) = q.as_root refl in
      let o = open_opens g.disk.lent g.root g.disk.order g.disk.xid g.state k.begins.opens in
      let own : q.found.node.oid ≡ g.root = (load_parts g.disk.lent g.disk.order (root_place g.root) unbounded q.address
      q.found ld).oid ∙ place_oid in
      let n : num s.root ≡ g.root = clean_number g τ th s es l p xid next k s.root root_reached t q g.root rv own in
      let h = lends_after g τ th s es l p xid next k in
      let b : block_at x'.lent q.address ≡ block_at g.disk.lent q.address =
      h.agrees q.address (tree_old g q.address (clean_old g τ th s es l p xid next k s.root root_in q)) in
      let m : moved_to W.moved g.root ≡ [] = ap (moved_to W.moved) (sym own)
      ∙ clean_still g τ th s es l p xid next k s.root root_reached root_in t q in
      let first : resolve g.disk g.root ≡ address_of g.disk.lent g.disk.xid g.root =
      resolve_unmoved g.disk g.root (moved_nil g.disk.moved g.root k.begins.unmoved) in
      let ea : q.address ≡ o.address = same_ok q.address o.address (sym rv ∙ first ∙ o.at) in
      let ed : q.found ≡ o.found = same_ok q.found o.found
      (sym ld ∙ ap (load_block g.disk.lent g.disk.order (root_place g.root) unbounded) ea ∙ o.reads) in
      let inf : info_at (block_at g.disk.lent q.address) ≡ s.info = ap (λ (z : ℕ). info_at (block_at g.disk.lent z)) ea ∙ sym (opened_info o)
      ∙ sym (k.good.still t) in
      record {
        address = q.address;
        node = q.found;
        resolved = ap (resolve x') (root_is ∙ n) ∙ resolve_same g τ th s es l p xid next k g.root m ∙ rv;
        load = ap (λ (r : ℕ). load_block x'.lent x'.order (root_place r) unbounded q.address) (root_is ∙ n)
            ∙ load_after q.address q.found (load_again g.disk.lent x'.lent g.disk.order (root_place g.root) unbounded q.address
            q.found (blocks_more g.disk.lent x'.lent h.same_size h.no_shorter) b ld);
        holds = roots_same q.address q.found b ∙ ap₂
            (λ (a : ℕ) (d : OnDisk). root_holds g.disk.lent a (leb 1 (length g.disk.lent.map)) d) ea ed ∙ o.rooted;
        info = ap info_at b ∙ inf;
        lands = clean_node g τ th s es l p xid next k s.root root_reached t q;
      }
    where
      place_oid : (root_place g.root).oid ≡ g.root
      place_oid = unfold root_place in refl

      opened_info : (o : Opens g.disk.lent g.root g.disk.order g.disk.xid g.state)
          → g.state.info ≡ info_at (block_at g.disk.lent o.address)
      opened_info o = unfold opened_at in ap (λ (z : State). z.info) o.state

      load_after : (a : ℕ) (d : OnDisk) → load_block x'.lent g.disk.order (root_place g.root) unbounded a ≡ ok d
          → load_block x'.lent x'.order (root_place g.root) unbounded a ≡ ok d
      load_after a d h = unfold left_by in h

      roots_same : (a : ℕ) (d : OnDisk) → block_at x'.lent a ≡ block_at g.disk.lent a
          → root_holds x'.lent a (leb 1 (length x'.lent.map)) d ≡ root_holds g.disk.lent a (leb 1 (length g.disk.lent.map)) d
      roots_same a d b =
          let h = lends_after g τ th s es l p xid next k in
          unfold root_holds in
          ap₂ (λ (z : List ℕ) (y : List ℕ × ℕ). eqb (storage_class d.node.otype) (cond (leb 1 (length y.0)) 0 1) && eqb (info_at z).node_size
          y.1) b (ap₂ (λ (u : List ℕ) (v : ℕ). (u, v)) h.same_map h.same_size)

  pub rooted : Rooted
  rooted = by_test (node_at s s.root).dirty dirty_root clean_root
