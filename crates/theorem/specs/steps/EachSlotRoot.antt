-- What accepted cuts on a whole way leave of each slot by itself: as below its top, but that the root's block and id go to a new root. Assumes
-- nothing.
use Rattle.std.specs.Prelude.{◌≡◌, Bool, true, ◌||◌, take, leb, ltb}
use Rattle.std.proofs.Math.Path.{refl, ap}
use Rattle.std.proofs.Common.{sym, ◌∙◌, le_trans, arith}
use mathlib.Core.List.{List, [], ◌∷◌}
use Rattle.std.proofs.Math.Bool.{false}
use Prim.Native.Nat.{ℕ, suc, ◌+◌, ◌≤◌, ◌<◌}
use Rattle.std.proofs.Math.ListN.{length}
use Rattle.std.proofs.Math.Dec.{eqb}
use borrow.Author.Tests.{ltb-true, ltb-false, leb-true, eqb-true, eqb-false}
use Rattle.node.specs.laws.base.Results.{Holds, holds_ok, holds_bind, holds_then, holds_check}
use Rattle.node.specs.Refusals as refusal
use Rattle.node.specs.Fit.{fits}
use Rattle.node.specs.Cut.{cut}
use Rattle.node.specs.laws.fit.Cut.{Parted, cut_parts}
use Rattle.node.specs.Slot.{MemNode}
use Rattle.node.specs.laws.base.Tests.{by_test, never, and_split}
use Rattle.tree.specs.Lent.{Lent}
use Rattle.tree.specs.State.{State, node_at, put_node, add_node, with_nodes, with_info, with_root, with_place, changed, made}
use Rattle.tree.specs.laws.state.State.{put_count, add_count}
use Rattle.tree.specs.laws.state.Edit.{grown_root, grown_top, grown_old, grown_other, parted_left, parted_parts}
use Rattle.tree.specs.Lookup.{Step}
use Rattle.tree.specs.Edit.{more_nodes, room_for, parted, root_entries, grow_root, new_root_holds, cut_at, cut_node, cuts}
use Rattle.theorem.specs.model.Lazy.{names_same}
use Rattle.theorem.specs.steps.EachSlot.{on_way, Follows, follows_is, follows_then, Fresh, Keeps, keeps_refl}
use Rattle.theorem.specs.steps.EachSlotCuts.{Deep, Filled, Grows, grows_refl, grows_deep, grows_filled, parted_grows, parted_info, parted_slots, Counted}
use Rattle.theorem.specs.steps.EachSlotCuts.{counted_refl, counted_then, counted_more, Room, room_of_lem, cuts_below}

-- ---- the slots

pub record Ends (w : ℕ → ℕ) (s u : State) : Type 0 where
  pub order : u.order ≡ s.order
  pub virtual : u.virtual ≡ s.virtual
  pub xid : u.xid ≡ s.xid
  pub subtype : u.subtype ≡ s.subtype
  pub longer : length s.nodes ≤ length u.nodes
  pub off : (c : ℕ) → c < length s.nodes → w c ≡ 0 → node_at u c ≡ node_at s c
  pub each : (c : ℕ) → c < length s.nodes → (c ≡ s.root → ⊥) → Follows (node_at s c) (node_at u c)
  pub new : (c : ℕ) → length s.nodes ≤ c → c < length u.nodes → (c ≡ u.root → ⊥) → Fresh (node_at u c)
  pub dirty : (c : ℕ) → c < length s.nodes → (node_at s c).dirty ≡ true → (node_at u c).dirty ≡ true
  pub clean : (c : ℕ) → c < length s.nodes → (node_at u c).dirty ≡ false → (node_at u c).dead ≡ false → node_at u c ≡ node_at s c
  -- the root: as before, or a new slot, which takes the old root's block and id
  pub root_used : u.root < length u.nodes
  pub root_old : u.root < length s.nodes → u.root ≡ s.root
  pub root_dirty : (node_at s s.root).dirty ≡ true → (node_at u u.root).dirty ≡ true
  pub root_block : (node_at u u.root).block ≡ (node_at s s.root).block
  pub root_id : (node_at u u.root).id ≡ (node_at s s.root).id
  pub left : (u.root ≡ s.root → ⊥) → ((node_at u s.root).block ≡ []) × ((node_at u s.root).id ≡ [])

-- with the root as it was
pub keeps_end : (w : ℕ → ℕ) (s u : State) → s.root < length s.nodes → Keeps w s u → Ends w s u
keeps_end w s u r k =
    let at : node_at u u.root ≡ node_at u s.root = ap (node_at u) k.root in
    record {
      order = k.order;
      virtual = k.virtual;
      xid = k.xid;
      subtype = k.subtype;
      longer = k.longer;
      off = k.off;
      each = λ c h n. k.each c h;
      new = λ c h g n. k.new c h g;
      dirty = λ c h. (k.each c h).dirty;
      clean = λ c h. (k.each c h).clean;
      root_used = omega (arith, k.root, k.longer);
      root_old = λ h. k.root;
      root_dirty = λ h. ap (λ (m : MemNode). m.dirty) at ∙ (k.each s.root r).dirty h;
      root_block = ap (λ (m : MemNode). m.block) at ∙ (k.each s.root r).block;
      root_id = ap (λ (m : MemNode). m.id) at ∙ (k.each s.root r).id;
      left = λ n. absurd (n k.root);
    }

-- other passes before
pub keeps_ends : (w : ℕ → ℕ) (s t u : State) → s.root < length s.nodes → Keeps w s t → Ends w t u → Ends w s u
keeps_ends w s t u r k e =
    let p = k.longer in
    let at : node_at t t.root ≡ node_at t s.root = ap (node_at t) k.root in
    record {
      order = e.order ∙ k.order;
      virtual = e.virtual ∙ k.virtual;
      xid = e.xid ∙ k.xid;
      subtype = e.subtype ∙ k.subtype;
      longer = le_trans p e.longer;
      off = λ c h z. e.off c (le_trans h p) z ∙ k.off c h z;
      each = λ c h n. follows_then (node_at s c) (node_at t c) (node_at u c) (k.each c h) (e.each c (le_trans h p) (λ q. n (q ∙ k.root)));
      new = λ c h g n. by_test (ltb c (length t.nodes))
          (λ v.
          let y = ltb-true c _ v in
          let f = k.new c h y in
          let x = e.each c y (λ q. let z : c ≡ s.root = q ∙ k.root in omega arith) in
          record { block = x.block ∙ f.block; id = x.id ∙ f.id; dirty = x.dirty f.dirty })
          (λ v. e.new c (ltb-false c _ v) g n);
      dirty = λ c h d. e.dirty c (le_trans h p) ((k.each c h).dirty d);
      clean = λ c h a b.
          let x : node_at u c ≡ node_at t c = e.clean c (le_trans h p) a b in
          x ∙ (k.each c h).clean (ap (λ (m : MemNode). m.dirty) (sym x) ∙ a) (ap (λ (m : MemNode). m.dead) (sym x) ∙ b);
      root_used = e.root_used;
      root_old = λ h. e.root_old (le_trans h p) ∙ k.root;
      root_dirty = λ h. e.root_dirty (ap (λ (m : MemNode). m.dirty) at ∙ (k.each s.root r).dirty h);
      root_block = e.root_block ∙ ap (λ (m : MemNode). m.block) at ∙ (k.each s.root r).block;
      root_id = e.root_id ∙ ap (λ (m : MemNode). m.id) at ∙ (k.each s.root r).id;
      left = λ n. let x = e.left (λ q. n (q ∙ k.root)) in
          (ap (λ (c : ℕ). (node_at u c).block) (sym k.root) ∙ x.0, ap (λ (c : ℕ). (node_at u c).id) (sym k.root) ∙ x.1);
    }

-- ---- levels, dead marks, entries, numbers

pub record Grew (l : Lent) (s u : State) : Type 0 where
  pub level : (c : ℕ) → c < length s.nodes → (node_at u c).level ≡ (node_at s c).level
  pub dead : (c : ℕ) → c < length s.nodes → (node_at u c).dead ≡ (node_at s c).dead
  pub live : (c : ℕ) → length s.nodes ≤ c → c < length u.nodes → (node_at u c).dead ≡ false
  pub deep : Deep s → Deep u
  pub filled : Filled s → Filled u
  pub counted : Counted l s u

pub grows_grew : (l : Lent) (w : ℕ → ℕ) (s u : State) → Grows w s u → Counted l s u → Grew l s u
grows_grew l w s u g c = record {
  level = g.level;
  dead = g.dead;
  live = g.live;
  deep = grows_deep w s u g;
  filled = grows_filled w s u g;
  counted = c;
}

pub grew_then : (l : Lent) (s t u : State) → length s.nodes ≤ length t.nodes → Grew l s t → Grew l t u → Grew l s u
grew_then l s t u p a b =
    record {
      level = λ c h. b.level c (le_trans h p) ∙ a.level c h;
      dead = λ c h. b.dead c (le_trans h p) ∙ a.dead c h;
      live = λ c h g. by_test (ltb c (length t.nodes)) (λ v. let k = ltb-true c _ v in b.dead c k
          ∙ a.live c h k) (λ v. b.live c (ltb-false c _ v) g);
      deep = λ d. b.deep (a.deep d);
      filled = λ d. b.filled (a.filled d);
      counted = counted_then l s t u a.counted b.counted;
    }

-- ---- a new root above two slots

module _ (w : ℕ → ℕ) (t : State) (n r : ℕ) (top : n ≡ t.root) (used : n < length t.nodes) (on : 1 ≤ w n) (d : (node_at t n).dirty ≡ true) where
  abbrev u : State
  u = grow_root t n r

  u_count : length u.nodes ≡ suc (length t.nodes)
  unfolding grow_root with_root
  u_count = add_count (put_node t n (with_place (node_at t n) [] [])) _ ∙ ap suc (put_count t n (with_place (node_at t n) [] []))

  -- what is so of the old root, and of every other, is so of each
  u_each : {A : Type 0} (f : MemNode → A) → f (with_place (node_at t n) [] []) ≡ f (node_at t n) → (c : ℕ) → c < length t.nodes
      → f (node_at u c) ≡ f (node_at t c)
  u_each f e c h =
      by_test (eqb c n)
      (λ v. let q : c ≡ n = eqb-true c n v in rw q (ap f (grown_old t n r used) ∙ e))
      (λ v. ap f (grown_other t n r c h (eqb-false c n v)))

  u_last : (c : ℕ) → length t.nodes ≤ c → c < length u.nodes → c ≡ u.root
  u_last c h g = let q = grown_root t n r in omega (arith, u_count)

  pub grow_ends : Ends w t u
  unfolding with_place made
  grow_ends =
      record {
        order = unfold grow_root with_root add_node put_node with_nodes in refl;
        virtual = unfold grow_root with_root add_node put_node with_nodes in refl;
        xid = unfold grow_root with_root add_node put_node with_nodes in refl;
        subtype = unfold grow_root with_root add_node put_node with_nodes in refl;
        longer = omega (arith, u_count);
        off = λ c h z. grown_other t n r c h (λ q. let y : w c ≡ w n = ap w q in omega arith);
        each = λ c h f. follows_is _ _ (grown_other t n r c h (λ q. f (q ∙ top)));
        new = λ c h g f. absurd (f (u_last c h g));
        dirty = λ c h k. u_each (λ m. m.dirty) refl c h ∙ k;
        clean = λ c h a b. by_test (eqb c n)
            (λ v. let q : c ≡ n = eqb-true c n v in never (u_each (λ m. m.dirty) refl n used ∙ d) (ap (λ (x : ℕ). (node_at u x).dirty) (sym q) ∙ a))
            (λ v. grown_other t n r c h (eqb-false c n v));
        root_used = omega (arith, grown_root t n r, u_count);
        root_old = λ h. absurd (omega (arith, grown_root t n r));
        root_dirty = λ h. ap (λ (m : MemNode). m.dirty) (grown_top t n r);
        root_block = ap (λ (m : MemNode). m.block) (grown_top t n r) ∙ ap (λ (x : ℕ). (node_at t x).block) top;
        root_id = ap (λ (m : MemNode). m.id) (grown_top t n r) ∙ ap (λ (x : ℕ). (node_at t x).id) top;
        left = λ f. (
          ap (λ (x : ℕ). (node_at u x).block) (sym top) ∙ ap (λ (m : MemNode). m.block) (grown_old t n r used),
          ap (λ (x : ℕ). (node_at u x).id) (sym top) ∙ ap (λ (m : MemNode). m.id) (grown_old t n r used),
        );
      }

  grow_level : (c : ℕ) → c < length t.nodes → (node_at u c).level ≡ (node_at t c).level
  unfolding with_place
  grow_level = u_each (λ m. m.level) refl

  grow_dead : (c : ℕ) → c < length t.nodes → (node_at u c).dead ≡ (node_at t c).dead
  unfolding with_place
  grow_dead = u_each (λ m. m.dead) refl

  grow_rows : (c : ℕ) → c < length t.nodes → (node_at u c).entries ≡ (node_at t c).entries
  unfolding with_place
  grow_rows = u_each (λ m. m.entries) refl

  grow_top : (c : ℕ) → length t.nodes ≤ c → c < length u.nodes
      → node_at u c ≡ with_place (made (suc (node_at t n).level) (root_entries t n r)) (node_at t n).block (node_at t n).id
  grow_top c h g = ap (node_at u) (u_last c h g) ∙ grown_top t n r

  grow_live : (c : ℕ) → length t.nodes ≤ c → c < length u.nodes → (node_at u c).dead ≡ false
  unfolding with_place made
  grow_live c h g = ap (λ (m : MemNode). m.dead) (grow_top c h g)

  grow_deep : suc (node_at t n).level ≤ 32 → Deep t → Deep u
  unfolding with_place made
  grow_deep k dp c h z =
      by_test (ltb c (length t.nodes))
      (λ v. let y = ltb-true c _ v in omega (arith, grow_level c y, dp c y (sym (grow_dead c y) ∙ z)))
      (λ v. rw (grow_top c (ltb-false c _ v) h) k)

  grow_filled : 0 < length (node_at t n).entries → Filled t → Filled u
  unfolding with_place made root_entries
  grow_filled k f c h z =
      by_test (ltb c (length t.nodes))
      (λ v.
      let y = ltb-true c _ v in
      let x : length (node_at u c).entries ≡ length (node_at t c).entries = ap length (grow_rows c y) in
      by_test (eqb c n)
      (λ q. let e : length (node_at t c).entries ≡ length (node_at t n).entries = ap (λ (i : ℕ). length (node_at t i).entries) (eqb-true c n q) in
      omega arith)
      (λ q.
      let e : eqb c t.root ≡ false = ap (eqb c) (sym top) ∙ q in
      let g : 0 < length (node_at t c).entries + 0 = rw e at (f c y (sym (grow_dead c y) ∙ z)) in
      omega arith))
      (λ v. let x : length (node_at u c).entries ≡ 2 = ap (λ (m : MemNode). length m.entries) (grow_top c (ltb-false c _ v) h) in omega arith)

-- ---- the cut of a root

-- the root fits or is dead, or a new one stands above its two parts
pub by_top : (P : State → Type 0) (l : Lent) (n : ℕ) (s : State)
    → (((node_at s n).dead || fits s.info (eqb n s.root) (node_at s n).level (node_at s n).entries) ≡ true → P s)
    → ((c : ℕ) → (node_at s n).dead ≡ false → Parted s.info (node_at s n).level (node_at s n).entries c
    → new_root_holds (parted s n c) n (length s.nodes) ≡ true → Room l s 2
    → P (more_nodes (grow_root (parted s n c) n (length s.nodes)) 2))
    → Holds P (cut_node l [] n s)
unfolding cut_node cut_at
by_top P l n s f g =
    by_test ((node_at s n).dead || fits s.info (eqb n s.root) (node_at s n).level (node_at s n).entries)
    (λ t. rw t (holds_ok (f t)))
    (λ t. rw t (holds_bind (cut s.info (node_at s n).level (node_at s n).entries) _ λ c q.
    holds_check refusal.new_root (new_root_holds (parted s n c) n (length s.nodes)) _ λ z.
    holds_then (room_for l s 2) _ λ y e. holds_ok
    (g c (or_first _ _ t) (cut_parts s.info (node_at s n).level (node_at s n).entries c q) z (room_of_lem l s 2 y e))))
  where
    or_first : (a b : Bool) → (a || b) ≡ false → a ≡ false
    or_first true b e = e
    or_first false b e = refl

pub record Cuts (l : Lent) (w : ℕ → ℕ) (s u : State) : Type 0 where
  pub ends : Ends w s u
  pub grew : Grew l s u

ends_more : (w : ℕ → ℕ) (s u : State) (n : ℕ) → Ends w s u → Ends w s (more_nodes u n)
unfolding more_nodes with_info node_at
ends_more w s u n e =
    record {
      order = e.order;
      virtual = e.virtual;
      xid = e.xid;
      subtype = e.subtype;
      longer = e.longer;
      off = e.off;
      each = e.each;
      new = e.new;
      dirty = e.dirty;
      clean = e.clean;
      root_used = e.root_used;
      root_old = e.root_old;
      root_dirty = e.root_dirty;
      root_block = e.root_block;
      root_id = e.root_id;
      left = e.left;
    }

grow_info : (s : State) (n r : ℕ) → (grow_root s n r).info ≡ s.info
unfolding grow_root with_root add_node put_node with_nodes
grow_info s n r = refl

more_deep : (u : State) (n : ℕ) → Deep u → Deep (more_nodes u n)
unfolding more_nodes with_info node_at
more_deep u n h = h

more_filled : (u : State) (n : ℕ) → Filled u → Filled (more_nodes u n)
unfolding more_nodes with_info node_at
more_filled u n h = h

more_nodes_lem : (u : State) (n c : ℕ) → node_at (more_nodes u n) c ≡ node_at u c
unfolding more_nodes with_info node_at
more_nodes_lem u n c = refl

more_slots : (u : State) (n : ℕ) → length (more_nodes u n).nodes ≡ length u.nodes
unfolding more_nodes with_info
more_slots u n = refl

new_level : (s : State) (n r : ℕ) → new_root_holds s n r ≡ true → suc (node_at s n).level ≤ 32
unfolding new_root_holds
new_level s n r h = leb-true _ _ (and_split (fits s.info true (suc (node_at s n).level) (root_entries s n r))
    (leb (suc (node_at s n).level) 32) h).1

parted_some : (s : State) (n c : ℕ) → n < length s.nodes → 1 ≤ length (take c (node_at s n).entries)
    → 0 < length (node_at (parted s n c) n).entries
unfolding changed
parted_some s n c h k = rw (parted_left s n c h) k

top_cuts : (l : Lent) (w : ℕ → ℕ) (s : State) (n : ℕ) → n ≡ s.root → s.root < length s.nodes → 1 ≤ w n → Holds (Cuts l w s) (cut_node l [] n s)
top_cuts l w s n q used on =
    by_top (Cuts l w s) l n s
    (λ t. record { ends = keeps_end w s s used (keeps_refl w s); grew = grows_grew l w s s (grows_refl w s) (counted_refl l s) })
    (λ c live ps holds room.
    let r : ℕ = length s.nodes in
    let t : State = parted s n c in
    let u : State = grow_root t n r in
    let g : Grows w s t = parted_grows w s n c on live ps.left_some ps.right_some in
    let n_s : n < length s.nodes = omega arith in
    let n_t : n < length t.nodes = le_trans n_s g.keeps.longer in
    let top : n ≡ t.root = q ∙ sym g.keeps.root in
    let d : (node_at t n).dirty ≡ true = (parted_parts s n c n_s).left_dirty in
    let so : 0 < length (node_at t n).entries = parted_some s n c n_s ps.left_some in
    let cnt : length u.nodes ≡ length s.nodes + 2 = omega (arith, u_count w t n r top n_t on d, parted_slots s n c) in
    record {
      ends = ends_more w s u 2 (keeps_ends w s t u used g.keeps (grow_ends w t n r top n_t on d));
      grew = record {
        level = λ x h. ap (λ (m : MemNode). m.level) (more_nodes_lem u 2 x) ∙ grow_level w t n r top n_t on d x (le_trans h g.keeps.longer)
            ∙ g.level x h;
        dead = λ x h. ap (λ (m : MemNode). m.dead) (more_nodes_lem u 2 x) ∙ grow_dead w t n r top n_t on d x (le_trans h g.keeps.longer)
            ∙ g.dead x h;
        live = λ x h k. ap (λ (m : MemNode). m.dead) (more_nodes_lem u 2 x) ∙ by_test (ltb x (length t.nodes))
            (λ v. let y = ltb-true x _ v in grow_dead w t n r top n_t on d x y ∙ g.live x h y)
            (λ v. grow_live w t n r top n_t on d x (ltb-false x _ v) (omega (arith, more_slots u 2)));
        deep = λ dp. more_deep u 2 (grow_deep w t n r top n_t on d (new_level t n r holds) (grows_deep w s t g dp));
        filled = λ f. more_filled u 2 (grow_filled w t n r top n_t on d so (grows_filled w s t g f));
        counted = counted_more l s u 2 (grow_info t n r ∙ parted_info s n c) cnt room;
      };
    })

-- the cuts of a way that starts at the root
pub cuts_end : (l : Lent) (w : ℕ → ℕ) (x : Step) (ps : List Step) (s : State) → x.slot ≡ s.root → s.root < length s.nodes
    → ((c : ℕ) → 1 ≤ on_way c (x ∷ ps) → 1 ≤ w c)
    → Holds (Cuts l w s) (cuts l [] (x ∷ ps) s)
unfolding cuts
cuts_end l w x ps s q used h =
    holds_bind (cuts l (x ∷ []) ps s) _ λ t e.
    let b = (cuts_below l w x ps s h).at t e in
    let g = b.grows in
    let q' : x.slot ≡ t.root = q ∙ sym g.keeps.root in
    let used' : t.root < length t.nodes = omega (arith, g.keeps.root, g.keeps.longer) in
    record {
      at = λ u y.
          let z = (top_cuts l w t x.slot q' used' (h x.slot (omega (arith, names_same x.slot)))).at u y in
          record {
            ends = keeps_ends w s t u used g.keeps z.ends;
            grew =
                grew_then l s t u g.keeps.longer (grows_grew l w s t g b.counted) z.grew;
          };
    }
