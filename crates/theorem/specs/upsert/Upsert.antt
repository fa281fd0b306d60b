-- An accepted upsert keeps the invariant: the plain list with the entry put, and the blocks on the way passed through. Assumes nothing.
use Rattle.std.specs.Prelude.{◌≡◌, refl, Bool, true, false, cond, ◌||◌, not, ℕ, suc, ◌+◌, ◌-◌, ◌*◌, ◌^◌, ◌≤◌, ◌<◌, min, max, length, get_or}
use Rattle.std.proofs.Math.Path.{sym, ap, subst}
use Rattle.std.proofs.Common.{ap₂, ◌∙◌, le_trans, arith, ltb-true, ltb-false}
use mathlib.Core.List.{List, [], ◌∷◌, ◌++◌}
use Rattle.std.proofs.Math.Dec.{ltb}
use Rattle.node.specs.Result.{ok}
use Rattle.node.specs.laws.base.Results.{Holds, holds_bind, holds_check}
use Rattle.node.specs.Refusals as refusal
use Rattle.node.specs.Entry.{Entry, Val, mem, value_length}
use Rattle.node.specs.Find.{is_there}
use Rattle.node.specs.Fit.{greater, room_of}
use Rattle.node.specs.Slot.{MemNode}
use Rattle.node.specs.laws.base.Tests.{by_test, never, or_right}
use Rattle.tree.specs.Lent.{Lent}
use Rattle.tree.specs.State.{State, node_at, no_node}
use Rattle.tree.specs.Lookup.{Step, Way, way, leaf_of}
use Rattle.tree.specs.Edit.{touch, index_keys, cuts}
use Rattle.tree.specs.Upsert.{put_in_leaf, upsert_on, upserted}
use Rattle.flush.specs.Flush.{dead_blocks}
use Rattle.history.specs.Plain.{plain_upsert}
use Rattle.history.specs.Passes.{blocks_on, pass_put}
use Rattle.history.specs.Statement.{Start, uses}
use Rattle.history.specs.laws.PlainLaws.{upsert_length}
use Rattle.theorem.specs.model.Bounds.{Terms, K, KeyOk, ValueOk, key_in}
use Rattle.theorem.specs.model.Lazy.{total, names, slots, names_same, ok_level, ok_live}
use Rattle.theorem.specs.model.Lift.{Toward}
use Rattle.theorem.specs.steps.LeafAndKeys.{Once, Along, end, down, Any, along_leaf}
use Rattle.theorem.specs.steps.Grow.{names_is, Steady}
use Rattle.theorem.specs.steps.Way.{blocks_steady, Led}
use Rattle.theorem.specs.model.Good.{Kept, Flat, Good, Suits, found, Old}
use Rattle.theorem.specs.steps.EachSlot.{on_way}
use Rattle.theorem.specs.steps.EachSlotRoot.{Ends, keeps_ends, Grew, Cuts, cuts_end}
use Rattle.theorem.specs.steps.EachSlotAfter.{Fit, flat_end}
use Rattle.theorem.specs.steps.Fit.{Sizes, cuts_fit, cuts_room, fit_off}
use Rattle.theorem.specs.upsert.Cuts.{Regrown, cuts_regrown}
use Rattle.theorem.specs.steps.HasKey.{has_way}
use Rattle.theorem.specs.upsert.Leaf.{value_room, key_room, greater_below}
use Rattle.theorem.specs.upsert.State.{PutFacts, put_facts, on_root, on_once, leaf_is}

-- ---- books

-- dead slots with the blocks that they had, and no new one
pub deads_same : (ms ns : List MemNode) → ((c : ℕ) → c < length ns → (get_or ms c no_node).dead ≡ (get_or ns c no_node).dead)
    → ((c : ℕ) → c < length ns → (get_or ns c no_node).dead ≡ true → (get_or ms c no_node).block ≡ (get_or ns c no_node).block)
    → length ns ≤ length ms → ((c : ℕ) → length ns ≤ c → c < length ms → (get_or ms c no_node).dead ≡ false) → dead_blocks ms ≡ dead_blocks ns
unfolding dead_blocks
deads_same [] [] d b h n = refl
deads_same [] (y ∷ ns) d b h n = absurd (omega arith)
deads_same (m ∷ ms) [] d b h n =
    ap (λ (t : Bool). cond t m.block [] ++ dead_blocks ms) (n 0 (omega arith) (omega arith))
    ∙ deads_same ms [] (λ c z. absurd (omega arith)) (λ c z. absurd (omega arith)) (omega arith) (λ c z y. n (suc c) (omega arith) (omega arith))
deads_same (m ∷ ms) (y ∷ ns) d b h n =
    ap₂ (λ (p q : List ℕ). p ++ q) (same y.dead refl)
    (deads_same ms ns (λ c z. d (suc c) (omega arith)) (λ c z. b (suc c) (omega arith)) (omega arith)
    (λ c z w. n (suc c) (omega arith) (omega arith)))
  where
    same : (t : Bool) → y.dead ≡ t → cond m.dead m.block [] ≡ cond y.dead y.block []
    same true e = let f : m.dead ≡ true = d 0 (omega arith) ∙ e in rw (e, f) (b 0 (omega arith) e)
    same false e = let f : m.dead ≡ false = d 0 (omega arith) ∙ e in rw (e, f)

pub ids_steady : (i : ℕ) → Steady (λ m. uses i m.id)
unfolding uses
ids_steady i = record { same = λ m m' p q. ap (uses i) q; none = λ m p q. ap (uses i) q }

-- ---- a slot that is not dead stands once

pub good_once : (g : Start) (τ : Terms) (th : List ℕ) (s : State) (es : List Entry) (gd : Good g τ th s es)
    → Once τ (found g τ) s gd.level s.root
good_once g τ th s es gd =
    record {
      once = λ c. by_test (ltb c (length s.nodes))
          (λ t. most (node_at s c).dead _ (gd.once c (ltb-true c (length s.nodes) t)))
          (λ t. omega (arith, gd.out c (ltb-false c (length s.nodes) t)));
      used = λ c h. by_test (ltb c (length s.nodes))
          (λ t. ltb-true c (length s.nodes) t)
          (λ t. absurd (omega (arith, gd.out c (ltb-false c (length s.nodes) t))));
    }
  where
    most : (b : Bool) (n : ℕ) → n ≡ cond b 0 1 → n ≤ 1
    most true n e = omega arith
    most false n e = omega arith

-- ---- the edit on a way that is loaded

module _ (g : Start) (τ : Terms) (l : Lent) (k : List ℕ) (v : Val) (suits : Suits g τ) (same_slots : l.slots ≡ g.disk.lent.slots)
    (small : g.state.info.node_size ≤ 65536)
    (kk : KeyOk τ k) (vv : ValueOk τ v) where
  module _ (th : List ℕ) (s : State) (es : List Entry) (gd : Good g τ th s es) (foot : ℕ) (x : Step) (qs : List Step) (top : x.slot ≡ s.root)
      (along : Along s (Toward τ k) foot gd.level s.root (x ∷ qs))
      (count : (is_there s.order k (node_at s foot).entries || ltb s.info.key_count (2 ^ 64 - 1)) ≡ true) where
    abbrev rd : ℕ → MemNode
    rd = found g τ

    abbrev t₂ : State
    t₂ = index_keys (x ∷ qs) (put_in_leaf (touch (x ∷ qs) s) foot k v)

    o : s.order ≡ τ.order
    o = gd.order ∙ sym suits.order

    one : Once τ rd s gd.level s.root
    one = good_once g τ th s es gd

    pf : PutFacts τ rd l k v kk vv s o gd.level gd.lo gd.hi foot x qs top along gd.tree one
    pf = put_facts τ rd l k v kk vv s o gd.level gd.lo gd.hi foot x qs top along gd.tree one

    root_used : s.root < length s.nodes
    root_used = one.used s.root (omega (arith, names_same s.root))

    root₂ : t₂.root ≡ s.root
    root₂ = pf.keeps.root

    module _ (u : State) (eq : cuts l [] (x ∷ qs) t₂ ≡ ok u) where
      used₂ : t₂.root < length t₂.nodes
      used₂ = omega (arith, root₂, pf.keeps.longer, root_used)

      cut : Cuts l (λ c. on_way c (x ∷ qs)) t₂ u
      cut = (cuts_end l (λ c. on_way c (x ∷ qs)) x qs t₂ (top ∙ sym root₂) used₂ (λ c h. h)).at u eq

      ends : Ends (λ c. on_way c (x ∷ qs)) s u
      ends = keeps_ends (λ c. on_way c (x ∷ qs)) s t₂ u root_used pf.keeps cut.ends

      grew : Grew l t₂ u
      grew = cut.grew

      reg : Regrown τ rd t₂ u gd.level s.root (min gd.lo (K τ k)) (max gd.hi (suc (K τ k)))
      reg = (cuts_regrown τ rd l t₂ Any foot gd.level s.root (x ∷ qs) pf.way _ _ root₂ pf.once pf.ok).at u eq

      -- every dirty slot fits
      sizes : Sizes s.info t₂.info
      sizes = let n = pf.numbers in record { flags = n.flags; node = n.node; key = n.key; val = n.val }

      fit : Fit u
      fit =
          let a = on_once τ rd l k v kk vv s o gd.level gd.lo gd.hi foot x qs top along gd.tree one s.root in
          let off : on_way t₂.root qs ≡ 0 = ap (λ (c : ℕ). on_way c qs) root₂ ∙ omega (arith, names_is s.root x.slot (sym top)) in
          (cuts_fit l x qs t₂ (top ∙ sym root₂) off used₂ (fit_off g τ th (x ∷ qs) s t₂ gd.flat pf.keeps pf.count sizes)).at u eq

      -- what was put is short
      room : room_of t₂.info (plain_upsert s.order k v (node_at s foot).entries) ≤ 2 * 65536
      room =
          let q : leaf_of (x ∷ qs) ≡ foot = leaf_is τ rd l k v kk vv s o gd.level gd.lo gd.hi foot x qs top along gd.tree one in
          let live : (node_at t₂ (leaf_of (x ∷ qs))).dead ≡ false = ap (λ (c : ℕ). (node_at t₂ c).dead) q ∙ pf.leaf_live in
          let r : room_of t₂.info (node_at t₂ (leaf_of (x ∷ qs))).entries ≤ 2 * t₂.info.node_size = (cuts_room l t₂ x qs live).at u eq in
          let e : room_of t₂.info (node_at t₂ (leaf_of (x ∷ qs))).entries ≡ room_of t₂.info (plain_upsert s.order k v (node_at s foot).entries) =
          ap (λ (c : ℕ). room_of t₂.info (node_at t₂ c).entries) q ∙ ap (room_of t₂.info) pf.rows in
          omega (arith, pf.numbers.node, gd.info.node, small)

      short_key : is_there s.order k (node_at s foot).entries ≡ false → length k < 2 ^ 32
      unfolding room_of
      short_key f = omega (arith, room, key_room t₂.info s.order k v (node_at s foot).entries f)

      short_value : value_length v < 2 ^ 32
      unfolding room_of
      short_value = omega (arith, room, value_room t₂.info s.order k v (node_at s foot).entries)

      -- the tree's numbers
      kept : Kept u.info g.state.info
      kept =
          let n = pf.numbers in
          let c = grew.counted in
          let m = c.numbers in
          let b : Bool = is_there s.order k (node_at s foot).entries in
          record {
            flags = m.flags ∙ n.flags ∙ gd.info.flags;
            node = m.node ∙ n.node ∙ gd.info.node;
            key = m.key ∙ n.key ∙ gd.info.key;
            val = m.val ∙ n.val ∙ gd.info.val;
            longest_key = by_test (is_there s.order k (node_at s foot).entries)
                (λ t. let q : u.info.longest_key ≡ s.info.longest_key = m.longest_key ∙ n.longest_key ∙ rw t in
                omega (arith, gd.info.longest_key))
                (λ t. let q : u.info.longest_key ≡ greater s.info.longest_key (length k) = m.longest_key ∙ n.longest_key ∙ rw t in
                omega (arith, greater_below s.info.longest_key (length k) (2 ^ 32) gd.info.longest_key (short_key t)));
            longest_val = omega (
              arith,
              m.longest_val,
              n.longest_val,
              greater_below s.info.longest_val (value_length v) (2 ^ 32) gd.info.longest_val short_value,
            );
            key_count = by_test (is_there s.order k (node_at s foot).entries)
                (λ t. let q : u.info.key_count ≡ s.info.key_count + 0 = m.key_count ∙ n.key_count ∙ rw t in omega (arith, gd.info.key_count))
                (λ t. let q : u.info.key_count ≡ s.info.key_count + 1 = m.key_count ∙ n.key_count ∙ rw t in
                omega (arith, ltb-true s.info.key_count (2 ^ 64 - 1) (or_right (is_there s.order k (node_at s foot).entries) _ t count)));
            node_count = c.nodes (omega (arith, n.node_count, gd.info.node_count));
          }

      has : is_there s.order k es ≡ is_there s.order k (node_at s foot).entries
      has =
          ap₂ (λ (a : ℕ) (b : List Entry). is_there a k b) o (sym gd.holds)
          ∙ has_way τ k (key_in kk) rd s foot gd.level s.root (x ∷ qs) along gd.lo gd.hi gd.tree
          ∙ ap (λ (a : ℕ). is_there a k (node_at s foot).entries) (sym o)

      key_count : u.info.key_count ≡ length (plain_upsert s.order k v es)
      key_count =
          let e = upsert_length s.order k v es in
          let q : u.info.key_count ≡ s.info.key_count + cond (not (is_there s.order k (node_at s foot).entries)) 1 0 =
          grew.counted.numbers.key_count ∙ pf.numbers.key_count in
          by_test (is_there s.order k (node_at s foot).entries)
          (λ t.
          let a : length (plain_upsert s.order k v es) ≡ length es + 0 = e ∙ ap (λ (b : Bool). length es + cond b 0 1) (has ∙ t) in
          let b : u.info.key_count ≡ s.info.key_count + 0 = q ∙ rw t in
          omega (arith, gd.key_count))
          (λ t.
          let a : length (plain_upsert s.order k v es) ≡ length es + 1 = e ∙ ap (λ (b : Bool). length es + cond b 0 1) (has ∙ t) in
          let b : u.info.key_count ≡ s.info.key_count + 1 = q ∙ rw t in
          omega (arith, gd.key_count))

      node_count : u.info.node_count ≡ total rd (node_at u) (λ m. 1) reg.level (node_at u u.root)
      node_count = omega (arith, grew.counted.count, pf.numbers.node_count, gd.node_count, reg.tally, pf.sums (λ m. 1) (λ m m' a b. refl))

      -- ---- slots and books

      dead_u : (c : ℕ) → c < length s.nodes → (node_at u c).dead ≡ (node_at s c).dead
      dead_u c h = grew.dead c (omega (arith, pf.count)) ∙ pf.dead c

      once_u : (c : ℕ) → c < length u.nodes → names c (mem u.root) + slots rd (node_at u) reg.level c (node_at u u.root)
          ≡ cond (node_at u c).dead 0 1
      once_u c h =
          by_test (ltb c (length s.nodes))
          (λ t.
          let lt = ltb-true c (length s.nodes) t in
          reg.old c (omega (arith, pf.count)) ∙ ap (λ (n : ℕ). names c (mem s.root) + n) (pf.uses c) ∙ gd.once c lt
          ∙ ap (λ (b : Bool). cond b 0 1) (sym (dead_u c lt)))
          (λ t.
          let ge = ltb-false c (length s.nodes) t in
          let d : (node_at u c).dead ≡ false = grew.live c (omega (arith, pf.count)) h in
          reg.new c (omega (arith, pf.count)) h ∙ ap (λ (b : Bool). cond b 0 1) (sym d))

      deads_u : dead_blocks u.nodes ≡ dead_blocks s.nodes
      unfolding node_at
      deads_u =
          deads_same u.nodes s.nodes dead_u
          (λ c h d. (ends.each c h (λ q. never (ap (λ (z : ℕ). (node_at s z).dead) (sym q)
          ∙ d) (ok_live τ rd (node_at s) gd.level gd.lo gd.hi (node_at s s.root) gd.tree))).block)
          ends.longer (λ c h z. grew.live c (omega (arith, pf.count)) z)

      sums_u : (f : MemNode → ℕ) → Steady f → total rd (node_at u) f reg.level (node_at u u.root)
          ≡ total rd (node_at s) f gd.level (node_at s s.root)
      sums_u f h = reg.sums f h ∙ pf.sums f h.same

      root_dirty : (node_at u u.root).dirty ≡ true
      root_dirty = cut.ends.root_dirty (ap (λ (c : ℕ). (node_at t₂ c).dirty) root₂ ∙ pf.root_dirty)

      stands : (c : ℕ) → c < length s.nodes → (node_at s c).dead ≡ false
          → 1 ≤ names c (mem s.root) + slots rd (node_at s) gd.level c (node_at s s.root)
      stands c h z = let e = gd.once c h ∙ ap (λ (b : Bool). cond b 0 1) z in omega arith

      flat_u : Flat g τ (th ++ blocks_on s (x ∷ qs)) u
      flat_u =
          flat_end g τ th (Toward τ k) foot gd.level gd.lo gd.hi (x ∷ qs) s u gd.flat gd.tree one stands along
          (on_root τ rd l k v kk vv s o gd.level gd.lo gd.hi foot x qs top along gd.tree one) ends
          (cut.ends.dirty s.root (le_trans root_used pf.keeps.longer) pf.root_dirty) root_dirty
          (λ z c h w. cut.ends.dirty c (le_trans h pf.keeps.longer) (pf.way_dirty z c w))
          (grew.deep (pf.deep (λ c h z. (gd.flat.each c h z).deep))) (grew.filled (pf.filled (λ c h z. (gd.flat.each c h z).filled))) fit
          (let f = grew.counted.few (omega (arith, gd.flat.few, pf.count)) in omega arith)

      good_u : Good g τ (th ++ blocks_on s (x ∷ qs)) u (plain_upsert s.order k v es)
      good_u =
          record {
            order = ends.order ∙ gd.order;
            virtual = ends.virtual ∙ gd.virtual;
            xid = ends.xid ∙ gd.xid;
            subtype = ends.subtype ∙ gd.subtype;
            info = kept;
            level = reg.level;
            lo = min gd.lo (K τ k);
            hi = max gd.hi (suc (K τ k));
            tree = reg.ok;
            holds = reg.holds ∙ pf.holds ∙ ap₂ (λ (a : ℕ) (b : List Entry). plain_upsert a k v b) (sym o) gd.holds;
            key_count = key_count;
            node_count = node_count;
            once = once_u;
            out = reg.none;
            flat = flat_u;
            blocks = λ a. ap₂ (λ (p : ℕ) (q : List ℕ). p + uses a q) (sums_u (λ m. uses a m.block) (blocks_steady a)) deads_u ∙ gd.blocks a;
            ids = λ z i. omega (arith, sums_u (λ m. uses i m.id) (ids_steady i), gd.ids (sym ends.virtual ∙ z) i);
            root_id = λ z. ends.root_id ∙ gd.root_id (sym ends.virtual ∙ z);
            still = λ d. never root_dirty d;
          }

  -- ---- the call

  -- the first step of a way is at its top
  along_head : (s : State) (T : List Entry → Entry → List Entry → Type 0) (foot j n : ℕ) (ps : List Step) → Along s T foot j n ps
      → (x : Step) × (qs : List Step) × (ps ≡ x ∷ qs) × (x.slot ≡ n)
  along_head s T foot _ _ _ end = (_, [], refl, refl)
  along_head s T foot _ _ _ (down {ps = ps} row val to w) = (_, ps, refl, refl)

  put_cuts : (th : List ℕ) (s : State) (es : List Entry) (gd : Good g τ th s es) (foot : ℕ) (ps : List Step)
      → Along s (Toward τ k) foot gd.level s.root ps
      → (is_there s.order k (node_at s foot).entries || ltb s.info.key_count (2 ^ 64 - 1)) ≡ true
      → Holds (λ u. Good g τ (th ++ blocks_on s ps) u (plain_upsert s.order k v es))
      (cuts l [] ps (index_keys ps (put_in_leaf (touch ps s) foot k v)))
  put_cuts th s es gd foot ps w count =
      let (x, qs, e, q) = along_head s (Toward τ k) foot gd.level s.root ps w in
      subst (λ (z : List Step). Along s (Toward τ k) foot gd.level s.root z
      → Holds (λ u. Good g τ (th ++ blocks_on s z) u (plain_upsert s.order k v es)) (cuts l [] z (index_keys z (put_in_leaf (touch z s) foot k v))))
      (sym e)
      (λ al. record { at = λ u y. good_u th s es gd foot x qs q al count u y }) w

  -- the edit on a way that is loaded
  pub good_upsert_on : (th : List ℕ) (es : List Entry) (w : Way) (gd : Good g τ th w.state es) (foot : ℕ)
      → Along w.state (Toward τ k) foot gd.level w.state.root w.steps
      → Holds (λ u. Good g τ (th ++ blocks_on w.state w.steps) u (plain_upsert w.state.order k v es)) (upsert_on l k v w)
  unfolding upsert_on
  good_upsert_on th es w gd foot al =
      rw (along_leaf w.state (Toward τ k) foot gd.level w.state.root w.steps al)
      (holds_check refusal.count (is_there w.state.order k (node_at w.state foot).entries || ltb w.state.info.key_count
      (2 ^ 64 - 1)) _ λ c.
      put_cuts th w.state es gd foot w.steps al c)

  pass_way : (s : State) (w : Way) → way l s k ≡ ok w → pass_put l s k ≡ blocks_on w.state w.steps
  unfolding pass_put
  pass_way s w e = rw e

  -- an accepted upsert
  pub good_upsert : (th : List ℕ) (s : State) (es : List Entry) (gd : Good g τ th s es)
      → Holds (λ w. Good g τ th w.state es × Led τ (found g τ) l (Old g) s gd.level s.root gd.lo gd.hi k w) (way l s k)
      → Holds (λ u. Good g τ (th ++ pass_put l s k) u (plain_upsert s.order k v es)) (upserted l s k v)
  unfolding upserted
  good_upsert th s es gd led =
      holds_bind (way l s k) _ λ w e.
      let p = led.at w e in
      let gw : Good g τ th w.state es = p.0 in
      let d = p.1 in
      let r : w.state.root ≡ s.root = d.still.root in
      let lv : gd.level ≡ gw.level =
      sym (ok_level τ (found g τ) (node_at w.state) gd.level gd.lo gd.hi (node_at w.state s.root) d.grown.ok)
      ∙ ap (λ (c : ℕ). (node_at w.state c).level) (sym r)
      ∙ ok_level τ (found g τ) (node_at w.state) gw.level gw.lo gw.hi (node_at w.state w.state.root) gw.tree in
      let al : Along w.state (Toward τ k) d.leaf gw.level w.state.root w.steps =
      subst (λ (j : ℕ). Along w.state (Toward τ k) d.leaf j w.state.root w.steps) lv
      (subst (λ (c : ℕ). Along w.state (Toward τ k) d.leaf gd.level c w.steps) (sym r) d.along) in
      subst (λ (z : List ℕ). Holds (λ u. Good g τ (th ++ z) u (plain_upsert s.order k v es)) (upsert_on l k v w)) (sym (pass_way s w e))
      (subst (λ (o : ℕ). Holds (λ u. Good g τ (th ++ blocks_on w.state w.steps) u (plain_upsert o k v es)) (upsert_on l k v w)) d.still.order
      (good_upsert_on th es w gw d.leaf al))
