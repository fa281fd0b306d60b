-- A tree just opened, by the block and the node that were read: one slot, clean, the root; with its disk's walk it meets the invariant.
-- Assumes nothing.
use Rattle.std.specs.Prelude.{◌≡◌, true, false, ◌&&◌, ◌||◌, leb, eqb}
use Rattle.std.proofs.Math.Path.{refl, sym, ap, subst}
use Rattle.std.proofs.Common.{◌∙◌, le_refl, arith}
use mathlib.Core.List.{List, [], ◌∷◌}
use Rattle.std.proofs.Math.Bool.{Bool, cond}
use Prim.Native.Nat.{ℕ, zero, suc, ◌+◌, ◌-◌, ◌*◌, ◌%◌, ◌^◌, ◌≤◌, ◌<◌}
use Rattle.std.proofs.Math.ListN.{length}
use borrow.Author.Tests.{leb-true, eqb-true, eqb-false, eq-eqb, ne_eqb}
use Rattle.seal.specs.Bytes.{window, AreBytes}
use Rattle.node.specs.Result.{ok}
use Rattle.node.specs.Entry.{Entry, Val, ghost, leaf, disk, mem}
use Rattle.node.specs.Read.{OnDisk, info_at}
use Rattle.node.specs.Slot.{MemNode}
use Rattle.node.specs.laws.base.Bytes.{Bytes, bytes_window, field_below}
use Rattle.node.specs.laws.base.Tests.{by_test, never, and_left, and_right}
use Rattle.node.specs.declared.info.BTreeInfo.{BTreeInfo}
use Rattle.tree.specs.Lent.{Lent, is_size, blocks, sizes_hold, block_at}
use Rattle.tree.specs.Load.{unbounded, load_block, root_place, adopted}
use Rattle.tree.specs.State.{State, no_node, node_at}
use Rattle.tree.specs.Lookup.{opened_at}
use Rattle.flush.specs.Flush.{dead_blocks}
use Rattle.history.specs.Walk.{resolve, Walk, walk_from, blocks_of, ids_of, list_of}
use Rattle.history.specs.Statement.{Start, uses, tree_blocks, old_ids}
use Rattle.theorem.specs.model.Bounds.{Terms, ValueOk, value_sized}
use Rattle.theorem.specs.model.Lazy.{cont, total, names, slots, names_same, Ok}
use Rattle.theorem.specs.model.Seen.{rd}
use Rattle.theorem.specs.model.Good.{Refers, Refer, Clean, Slot, Kept, Flat, Good}
use Rattle.theorem.specs.disk.Read.{Every, Kid, Sound}
use Rattle.theorem.specs.disk.WalkSound.{Sure}

-- the tree that open answers, by the block and the node that it read
pub record First (g : Start) (a : ℕ) (d : OnDisk) : Type 0 where
  pub root : g.state.root ≡ 0
  pub nodes : g.state.nodes ≡ adopted g.state.virtual a d ∷ []
  pub info : g.state.info ≡ info_at (block_at g.disk.lent a)
  pub order : g.state.order ≡ g.disk.order
  pub xid : g.state.xid ≡ g.disk.xid

pub first_of : (g : Start) (a : ℕ) (d : OnDisk) → g.state ≡ opened_at g.disk.lent g.disk.order g.disk.xid a d → First g a d
unfolding opened_at
first_of g a d q =
    record {
      root = ap (λ (z : State). z.root) q;
      nodes = ap (λ (z : State). z.nodes) q ∙ ap (λ (z : State). adopted z.virtual a d ∷ []) (sym q);
      info = ap (λ (z : State). z.info) q;
      order = ap (λ (z : State). z.order) q;
      xid = ap (λ (z : State). z.xid) q;
    }

pub slots_some : (l : Lent) → sizes_hold l ≡ true → 1 ≤ l.slots
unfolding sizes_hold
slots_some l h =
    leb-true 1 l.slots
    (and_right (is_size l.size && eqb (length l.image % l.size) 0 && leb 1 (blocks l) && leb (blocks l) (2 ^ 20)) (leb 1 l.slots)
    (and_left (is_size l.size && eqb (length l.image % l.size) 0 && leb 1 (blocks l) && leb (blocks l) (2 ^ 20) && leb 1 l.slots)
    (leb l.slots 4096) h))

-- ---- the slots of a tree just opened: one, the root

module _ (g : Start) (τ : Terms) (a : ℕ) (d : OnDisk) (first : First g a d) (facts : Sound τ true g.root d)
    (resolved : resolve g.disk g.root ≡ ok a)
    (reads : load_block g.disk.lent g.disk.order (root_place g.root) unbounded a ≡ ok d) where
  root_node : node_at g.state g.state.root ≡ adopted g.state.virtual a d
  unfolding node_at
  root_node = rw (first.nodes, first.root)

  other_node : (c : ℕ) → 1 ≤ c → node_at g.state c ≡ no_node
  unfolding node_at
  other_node zero h = absurd (omega arith)
  other_node (suc c) h = rw first.nodes

  only_root : (c : ℕ) → c < length g.state.nodes → c ≡ g.state.root
  only_root c h = let n : length g.state.nodes ≡ 1 = ap length first.nodes in omega (arith, h, n, first.root)

  root_clean : (node_at g.state g.state.root).dirty ≡ false
  unfolding adopted
  root_clean = ap (λ (m : MemNode). m.dirty) root_node

  root_live : (node_at g.state g.state.root).dead ≡ false
  unfolding adopted
  root_live = ap (λ (m : MemNode). m.dead) root_node

  all_clean : (c : ℕ) → (node_at g.state c).dirty ≡ false
  unfolding no_node
  all_clean c =
      by_test (eqb c g.state.root)
      (λ u. subst (λ (n : ℕ). (node_at g.state n).dirty ≡ false) (sym (eqb-true c g.state.root u)) root_clean)
      (λ u.
      let n = eqb-false c g.state.root u in
      let z = first.root in
      ap (λ (m : MemNode). m.dirty) (other_node c (omega arith)))

  -- no entry of a node on disk is in a slot
  refers_value : (x : Val) → ValueOk τ x → Refers g.state x x
  unfolding value_sized
  refers_value ghost h = refl
  refers_value (leaf b) h = refl
  refers_value (disk r) h = refl
  refers_value (mem c) h = never h.sized refl

  refers_disk : (x : Val) (k : ℕ) → x ≡ disk k → Refers g.state x x
  refers_disk x k e = subst (λ (z : Val). Refers g.state z z) (sym e) refl

  refer_values : (es : List Entry) → Every (λ e. ValueOk τ e.value) es → Refer g.state es es
  refer_values [] h = tt
  refer_values (e ∷ es) h = (refl, refers_value e.value h.0, refer_values es h.1)

  refer_kids : (es : List Entry) → Every Kid es → Refer g.state es es
  refer_kids [] h = tt
  refer_kids (e ∷ es) h = (refl, refers_disk e.value h.0.number h.0.value, refer_kids es h.1)

  refer_own : Refer g.state d.entries d.entries
  refer_own =
      by_test (eqb d.node.level 0)
      (λ u. refer_values d.entries (facts.values (eqb-true d.node.level 0 u)))
      (λ u. let n = eqb-false d.node.level 0 u in refer_kids d.entries (facts.kids (omega arith)))

  root_found : Clean g τ g.state g.state.root
  unfolding adopted
  root_found =
      record {
        address = a;
        found = d;
        block = ap (λ (m : MemNode). m.block) root_node;
        id = ap (λ (m : MemNode). m.id) root_node;
        level = ap (λ (m : MemNode). m.level) root_node;
        entries = subst (λ (es : List Entry). Refer g.state es d.entries) (sym (ap (λ (m : MemNode). m.entries) root_node)) refer_own;
        as_root = λ e. (resolved, reads);
        as_child = λ n. absurd (n refl);
      }

  -- an index has entries
  root_filled : (n l : ℕ) → (1 ≤ l → 1 ≤ n) → 0 < n + cond (eqb l 0) 1 0
  root_filled n l h =
      by_test (eqb l 0)
      (λ u. rw u (omega arith))
      (λ u. let z = eqb-false l 0 u in rw u (omega (arith, h (omega arith))))

  one_id : (b : Bool) (i : ℕ) → length (cond b (i ∷ []) []) ≤ 1
  one_id true i = le_refl 1
  one_id false i = omega arith

  root_slot : Slot g τ g.state g.state.root
  unfolding adopted
  root_slot =
      record {
        deep = rw root_node facts.deep;
        filled = rw (root_node, eq-eqb g.state.root g.state.root refl) (root_filled (length d.entries) d.node.level facts.index);
        one_block = rw root_node (le_refl 1);
        one_id = rw root_node (one_id g.state.virtual d.node.oid);
        fit = λ h. never h root_clean;
        clean = λ h. root_found;
      }

  flat_open : 1 ≤ g.disk.lent.slots → Flat g τ [] g.state
  flat_open some =
      record {
        few = omega (arith, some, ap length first.nodes);
        each = λ c h l. subst (Slot g τ g.state) (sym (only_root c h)) root_slot;
        dirt = λ c h. never h (all_clean c);
        touched = λ c h e b n.
            let z : ((node_at g.state g.state.root).dirty || (node_at g.state g.state.root).dead) ≡ true = rw (only_root c h) at e in
            never z (rw (root_clean, root_live));
      }

  kept_open : AreBytes g.disk.lent.image → Kept g.state.info g.state.info
  unfolding info_at block_at
  kept_open bytes =
      let l : Lent = g.disk.lent in
      let b : List ℕ = window (a * l.size) l.size l.image in
      let k : Bytes b = bytes_window (a * l.size) l.size l.image (record { below = bytes }) in
      subst (λ (z : BTreeInfo). Kept z z) (sym first.info)
      (record {
        flags = refl;
        node = refl;
        key = refl;
        val = refl;
        longest_key = field_below 4 b (length b - 40 + 16) k;
        longest_val = field_below 4 b (length b - 40 + 20) k;
        key_count = field_below 8 b (length b - 40 + 24) k;
        node_count = field_below 8 b (length b - 40 + 32) k;
      })

  name_root : (c : ℕ) → (c ≡ g.state.root → ⊥) → names c (mem g.state.root) ≡ 0
  unfolding names
  name_root c n = rw (ne_eqb c g.state.root n)

  live_blocks : (b : ℕ) → uses b (dead_blocks g.state.nodes) ≡ 0
  unfolding dead_blocks adopted uses
  live_blocks b = rw first.nodes

  root_id : g.state.virtual ≡ true → (adopted g.state.virtual a d).id ≡ d.node.oid ∷ []
  unfolding adopted
  root_id y = ap (λ (z : Bool). cond z (d.node.oid ∷ []) []) y

  -- from the walk of the tree on disk
  pub good_from : (t : BTreeInfo) (ord : g.disk.order ≡ τ.order) (ks : t.key_size ≡ τ.ksize) (vs : t.val_size ≡ τ.vsize) (hi : ℕ)
      (w : Walk)
      → Sure τ g.disk g.state.virtual (node_at g.state) t ord ks vs d.node.level 0 hi (adopted g.state.virtual a d) w
      → list_of (walk_from g.disk g.root) ≡ w.entries → g.state.info.key_count ≡ length w.entries
      → g.state.info.node_count ≡ suc (length w.nodes)
      → ((b : ℕ) → uses b (tree_blocks g) ≡ uses b (a ∷ []) + uses b (blocks_of w.nodes))
      → ((i : ℕ) → uses i (old_ids g) ≡ uses i (d.node.oid ∷ []) + uses i (ids_of w.nodes))
      → AreBytes g.disk.lent.image → 1 ≤ g.disk.lent.slots → Good g τ [] g.state (list_of (walk_from g.disk g.root))
  unfolding adopted
  good_from t ord ks vs hi w h list kc nc bl il bytes some =
      let at : ℕ → MemNode = node_at g.state in
      let m : MemNode = adopted g.state.virtual a d in
      let r : ℕ → MemNode = rd g.disk τ g.state.virtual in
      record {
        order = first.order;
        virtual = refl;
        xid = first.xid;
        subtype = refl;
        info = kept_open bytes;
        level = d.node.level;
        lo = 0;
        hi = hi;
        tree = subst (Ok τ r at d.node.level 0 hi) (sym root_node) h.tree;
        holds = ap (cont r at d.node.level) root_node ∙ sym h.walked.entries ∙ sym list;
        key_count = kc ∙ ap length (sym list);
        node_count = nc ∙ h.walked.nodes ∙ ap (total r at (λ n. 1) d.node.level) (sym root_node);
        once = λ c q.
            let z : c ≡ g.state.root = only_root c q in
            let s : slots r at d.node.level c (at g.state.root) ≡ 0 = ap (slots r at d.node.level c) root_node ∙ h.bare c in
            let n : names c (mem g.state.root) ≡ 1 =
            subst (λ (k : ℕ). names k (mem g.state.root) ≡ 1) (sym z) (names_same g.state.root) in
            let f : Bool → ℕ = λ b. cond b 0 1 in
            let l : f (at c).dead ≡ 1 = ap (λ (k : ℕ). f (at k).dead) z ∙ ap f root_live in
            omega (arith, s, n, l);
        out = λ c q.
            let s : slots r at d.node.level c (at g.state.root) ≡ 0 = ap (slots r at d.node.level c) root_node ∙ h.bare c in
            let n : names c (mem g.state.root) ≡ 0 = name_root c (λ e. omega (arith, e, q, first.root, ap length first.nodes)) in
            omega (arith, s, n);
        flat = flat_open some;
        blocks = λ b.
            let z : total r at (λ n. uses b n.block) d.node.level (at g.state.root)
            ≡ total r at (λ n. uses b n.block) d.node.level m =
            ap (total r at (λ n. uses b n.block) d.node.level) root_node in
            omega (arith, z, h.walked.blocks b, bl b, live_blocks b);
        ids = λ y i.
            let z : total r at (λ n. uses i n.id) d.node.level (at g.state.root) ≡ total r at (λ n. uses i n.id) d.node.level m =
            ap (total r at (λ n. uses i n.id) d.node.level) root_node in
            omega (arith, z, h.ids y i, il i, ap (uses i) (root_id y));
        root_id = λ y. ap (λ (n : MemNode). n.id) root_node ∙ root_id y ∙ ap (λ (i : ℕ). i ∷ []) facts.oid;
        still = λ e. refl;
      }
