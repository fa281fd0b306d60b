-- Laws of a flush as it is called: what trusted slots give it, its refusals, what it leaves. Assumes nothing.
use Rattle.std.proofs.Math.Path.{◌≡◌, refl, sym, ap}
use Rattle.std.proofs.Common.{◌∙◌, length-drop, ext_get_or, get_or-drop}
use mathlib.Core.List.{List, []}
use Rattle.std.specs.Prelude.{Bool, false, not, ◌&&◌, drop, get_or, leb, ltb}
use Rattle.std.proofs.Math.Bool.{true, cond}
use Prim.Native.Nat.{ℕ, ◌+◌, ◌-◌, ◌*◌, ◌/◌, ◌%◌, ◌≤◌, ◌<◌, ◌^◌}
use native.Mathlib.Omega.{arith}
use Rattle.std.proofs.Math.ListN.{length}
use Rattle.std.proofs.Math.Dec.{eqb}
use borrow.Author.Tests.{leb-true, eqb-true, ltb-true, ltb-false, not-false}
use Rattle.tree.specs.Format.{Result, ok, Entry, mem, ghost, val_at, MemNode, head_at, node_of, fits}
use Rattle.tree.specs.Refusals as refusal
use Rattle.tree.specs.Lent.{Lent, is_size, blocks, sizes_hold, lent_of}
use Rattle.tree.specs.State.{State, no_node, node_at}
use Rattle.tree.specs.Workspace.{state_of, workspace_holds}
use Rattle.tree.specs.Hold.{stands_on_disk, node_stands, every_live, named_once, numbers_hold, lent_holds}
use Rattle.tree.specs.Trust.{stand_together, trusted}
use Rattle.tree.specs.internal.Bank.{node_in, Ready}
use Rattle.tree.specs.internal.Room.{Roomy}
use Rattle.tree.specs.declared.lent.Lent as lending
use Rattle.tree.specs.declared.editor.Tree.{Tree}
use Rattle.tree.specs.laws.base.Node.{by_test, never, and_split, and_left, and_right, and-false}
use Rattle.tree.specs.laws.state.Hold.{live_at}
use Rattle.tree.specs.laws.slots.Tree.{used_nodes, node_in_lem, node_out}
use Rattle.tree.specs.laws.trust.Stands.{trusted_of, stands_used}
use Rattle.tree.specs.laws.room.Way.{trusted_linked}
use Rattle.tree.specs.laws.refusal1.Ready.{numbers_sized, called_trusted, called_refused, called_passed}
use Rattle.tree.specs.laws.refusal1.Roomy.{roomy_holds, holds_roomy}
use Rattle.flush.specs.Space.{Space, usable, space_holds}
use Rattle.flush.specs.Flush.{Flushed, Lists, dirty_reached, ids_wanted, flushed, lists_hold, flush_in, flush}
use Rattle.flush.specs.Answers.{lists_of, flushed_of, flushed_means, flushed_in, Untouched, Beyond, flushed_leaves}
use Rattle.flush.specs.declared.flush.Flushed as done
use Rattle.flush.specs.internal.Lists.{Past}
use Rattle.flush.specs.internal.Walk.{Alive, Standing, Spaced, Alike, Fitting}
use Rattle.flush.specs.internal.Calls.{short_of, all_flushed, Finished, FlushCalled}
use Rattle.flush.specs.laws.ListLaws.{marked_most}
use Rattle.flush.specs.laws.OutcomeLaws.{flush_fits}
use Rattle.std.specs.Prelude as std
use Rattle.std.specs.Prelude.{Ok, Err, ⊤}

-- ---- what trusted slots give

sizes_are : (l : Lent) → sizes_hold l ≡ true → (is_size l.size ≡ true) × (blocks l ≤ 2 ^ 20) × (1 ≤ l.slots) × (l.slots ≤ 4096)
unfolding sizes_hold
sizes_are l h =
    let a : Bool = is_size l.size in
    let b : Bool = eqb (length l.image % l.size) 0 in
    let c : Bool = leb 1 (blocks l) in
    let d : Bool = leb (blocks l) (2 ^ 20) in
    let e : Bool = leb 1 l.slots in
    let f : Bool = leb l.slots 4096 in
    let (p5, pf) = and_split (a && b && c && d && e) f h in
    let (p4, pe) = and_split (a && b && c && d) e p5 in
    let (p3, pd) = and_split (a && b && c) d p4 in
    let (p2, pc) = and_split (a && b) c p3 in
    let (pa, pb) = and_split a b p2 in
    (pa, leb-true (blocks l) (2 ^ 20) pd, leb-true 1 l.slots pe, leb-true l.slots 4096 pf)

fit_at : (s : State) (n : ℕ) (m : MemNode) → node_stands s n m ≡ true → m.dirty ≡ true
    → fits s.info (eqb n s.root) m.level m.entries ≡ true
unfolding node_stands stands_on_disk
fit_at s n m h d =
    by_test (fits s.info (eqb n s.root) m.level m.entries)
    (λ q. q)
    (λ q. let z = rw (d, q, and-false) at h in never z refl)

live_stands : (s : State) (n : ℕ) → stand_together s ≡ true → n < length s.nodes → (node_at s n).dead ≡ false → node_stands s n (node_at s n) ≡ true
unfolding stand_together node_at
live_stands s n h u d =
    let a = and_left (ltb s.root (length s.nodes) && not (node_at s s.root).dead && every_live (node_stands s) 0 s.nodes)
    (named_once s (length s.nodes)) h in
    let b = and_right (ltb s.root (length s.nodes) && not (node_at s s.root).dead) (every_live (node_stands s) 0 s.nodes) a in
    let z : 0 + n ≡ n = omega arith in
    rw z at (live_at (node_stands s) 0 s.nodes n b u d)

module _ (l : lending.Lent) (t : Tree) (image heads bytes : List ℕ) (r : Ready l.size l.slots t.used heads bytes)
    (h : trusted (lent_of image l) (state_of l.size t heads bytes) ≡ true) where
  abbrev s : State
  s = state_of l.size t heads bytes

  sizes : (is_size l.size ≡ true) × (length image / l.size ≤ 2 ^ 20) × (1 ≤ l.slots) × (l.slots ≤ 4096)
  unfolding lent_of blocks
  sizes = sizes_are (lent_of image l) (trusted_of (lent_of image l) s h).0.sizes

  pub slots_some : 1 ≤ l.slots
  slots_some = sizes.2

  pub root_alive : Alive l.size t heads bytes t.root
  unfolding state_of
  root_alive =
      let y = (trusted_of (lent_of image l) s h).1 in
      let u : t.root < t.used = omega (arith, stands_used _ _ s y, used_nodes l.size t heads bytes) in
      record { used = u; live = sym (ap (λ (m : MemNode). m.dead) (node_in_lem l.size t heads bytes t.root u)) ∙ y.root }

  fit_is : (n : ℕ) → Alive l.size t heads bytes n → (node_in l.size heads bytes n).dirty ≡ true
      → fits t.info (eqb n t.root) (node_in l.size heads bytes n).level (node_in l.size heads bytes n).entries ≡ true
  unfolding trusted state_of
  fit_is n al d =
      let e : node_at s n ≡ node_in l.size heads bytes n = node_in_lem l.size t heads bytes n al.used in
      let u : n < length s.nodes = omega (arith, al.used, used_nodes l.size t heads bytes) in
      let y : node_stands s n (node_at s n) ≡ true = live_stands s n (and_right (numbers_hold (lent_of image l) s) (stand_together s) h) u
      (ap (λ (m : MemNode). m.dead) e ∙ al.live) in
      fit_at s n (node_in l.size heads bytes n) (rw e at y) d

  dead_empty : (n j c : ℕ) → (node_in l.size heads bytes n).dead ≡ true → val_at (node_in l.size heads bytes n).entries j ≡ mem c → ⊥
  unfolding node_in node_of val_at
  dead_empty n j c d v = no_kid j c (rw d at v)
    where
      no_kid : (j c : ℕ) → (get_or {A = Entry} [] j (record { key = []; value = ghost })).value ≡ mem c → ⊥
      no_kid j c e = let z : ◌≡◌ {A = ℕ} 0 1 = cc in omega arith

  kids_are : (n j c : ℕ) → n < t.used → val_at (node_in l.size heads bytes n).entries j ≡ mem c → Alive l.size t heads bytes c
  kids_are n j c u v =
      let e : node_at s n ≡ node_in l.size heads bytes n = node_in_lem l.size t heads bytes n u in
      by_test (node_in l.size heads bytes n).dead
      (λ d. absurd (dead_empty n j c d v))
      (λ d. let y = (trusted_linked (lent_of image l) s h).child n j c (ap (λ (m : MemNode). m.dead) e ∙ d)
      (ap (λ (m : MemNode). val_at m.entries j) e ∙ v) in
      let k : c < t.used = omega (arith, y.used, used_nodes l.size t heads bytes) in
      record { used = k; live = sym (ap (λ (m : MemNode). m.dead) (node_in_lem l.size t heads bytes c k)) ∙ y.live })

  node_same : t.info.node_size ≡ l.size
  unfolding lent_of state_of
  node_same = (trusted_of (lent_of image l) s h).0.node

  pub standing_is : Standing l.size l.slots t heads bytes
  unfolding trusted state_of
  standing_is = record {
    ready = r;
    sized = numbers_sized (lent_of image l) s (and_left (numbers_hold (lent_of image l) s) (stand_together s) h);
    same = node_same;
    fit = fit_is;
    kids = kids_are;
  }

  one_block : (m : ℕ) → length (node_at (state_of l.size t heads bytes) m).block ≤ 1
  unfolding node_in node_of no_node
  one_block m = by_test (ltb m t.used)
      (λ q. rw (node_in_lem l.size t heads bytes m (ltb-true m t.used q)) (marked_most (head_at heads m).placed (head_at heads m).block))
      (λ q. rw (node_out l.size t heads bytes m (ltb-false m t.used q)) (omega arith))

  -- ---- 1 passed: chunks and lists

  module _ (p : Space) (fs rs is ps : List ℕ) (k : Bool)
      (e : k ≡ space_holds l.size (length image / l.size) p && lists_hold l.slots (lists_of fs rs is ps)) where
    pub in_lent : (xid next : ℕ) (image' heads' fs' rs' is' ps' : List ℕ) (p' : Space) → k ≡ false
        → flushed_means l.size t image' p' heads' bytes fs' rs' is' ps' (Err refusal.Lent)
        ≡ flush_in (lent_of image l) p (lists_of fs rs is ps) (state_of l.size t heads bytes) xid next
    unfolding flushed_means flush_in lent_of blocks
    in_lent xid next image' heads' fs' rs' is' ps' p' q = rw (sym e ∙ q)

    module _ (q : k ≡ true) where
      both : (space_holds l.size (length image / l.size) p ≡ true) × (lists_hold l.slots (lists_of fs rs is ps) ≡ true)
      both = and_split (space_holds l.size (length image / l.size) p) (lists_hold l.slots (lists_of fs rs is ps)) (sym e ∙ q)

      pub spaced_is : Spaced l.size (length image / l.size) p
      spaced_is = record { whole = sizes.0; few = sizes.1; holds = both.0 }

      pub long_are : (length fs ≡ l.slots) × (length rs ≡ l.slots) × (length is ≡ l.slots) × (length ps ≡ l.slots)
      unfolding lists_hold lists_of
      long_are =
          let n : ℕ = l.slots in
          let (a, b) = and_split (eqb (length fs) n && eqb (length rs) n) (eqb (cond (eqb (length is) (length ps)) (length is) 0) n) both.1 in
          let (a1, a2) = and_split (eqb (length fs) n) (eqb (length rs) n) a in
          let m : cond (eqb (length is) (length ps)) (length is) 0 ≡ n = eqb-true (cond (eqb (length is) (length ps)) (length is) 0) n b in
          by_test (eqb (length is) (length ps))
          (λ g. let y : length is ≡ n = rw g at m in let z : length is ≡ length ps = eqb-true (length is) (length ps) g in
          (eqb-true (length fs) n a1, eqb-true (length rs) n a2, y, sym z ∙ y))
          (λ g. let y : 0 ≡ n = rw g at m in absurd (omega (arith, slots_some)))

      module _ (xid next : ℕ) (x : std.Result ⊤ refusal.Refusal) (ex : x ≡ short_of (state_of l.size t heads bytes) (usable l.size p) next) where
        passed : space_holds l.size (length image / l.size) p && lists_hold l.slots (lists_of fs rs is ps) ≡ true
        passed = sym e ∙ q

        pub in_short : (y : refusal.Refusal) → x ≡ Err y → (image' heads' fs' rs' is' ps' : List ℕ) (p' : Space)
            → flushed_means l.size t image' p' heads' bytes fs' rs' is' ps' (Err y)
            ≡ flush_in (lent_of image l) p (lists_of fs rs is ps) (state_of l.size t heads bytes) xid next
        unfolding flushed_means flush_in lent_of blocks short_of
        in_short y n image' heads' fs' rs' is' ps' p' =
            by_test (leb (dirty_reached s) (usable l.size p))
            (λ a. by_test (leb (next + ids_wanted s) (2 ^ 64 - 1))
            (λ b. let z : Ok tt ≡ Err y = sym (ex ∙ rw (a, b)) ∙ n in let w : ◌≡◌ {A = ℕ} 0 1 = cc in absurd (omega arith))
            (λ b. let z : Err refusal.Count ≡ Err y = sym (ex ∙ rw (a, b)) ∙ n in let w : y ≡ refusal.Count = cc in rw (passed, a, b, w)))
            (λ a. let z : Err refusal.Full ≡ Err y = sym (ex ∙ rw a) ∙ n in let w : y ≡ refusal.Full = cc in rw (passed, a, w))

        module _ (u : ⊤) (z : x ≡ Ok u) where
          enough : (leb (dirty_reached s) (usable l.size p) ≡ true) × (leb (next + ids_wanted s) (2 ^ 64 - 1) ≡ true)
          unfolding short_of
          enough =
              by_test (leb (dirty_reached s) (usable l.size p))
              (λ a. by_test (leb (next + ids_wanted s) (2 ^ 64 - 1))
              (λ b. (a, b))
              (λ b. let y : Err refusal.Count ≡ Ok u = sym (ex ∙ rw (a, b)) ∙ z in let w : ◌≡◌ {A = ℕ} 0 1 = cc in absurd (omega arith)))
              (λ a. let y : Err refusal.Full ≡ Ok u = sym (ex ∙ rw a) ∙ z in let w : ◌≡◌ {A = ℕ} 0 1 = cc in absurd (omega arith))

          all_same_lem : all_flushed l.size t image p heads bytes xid next ≡ flushed (lent_of image l) p (state_of l.size t heads bytes) xid next
          unfolding all_flushed flushed lent_of
          all_same_lem = refl

          pub all_fits : Fitting l.slots l.slots l.slots (all_flushed l.size t image p heads bytes xid next).after
          unfolding lent_of state_of
          all_fits =
              let sp : space_holds t.info.node_size (length image / l.size) p ≡ true = rw node_same both.0 in
              rw all_same_lem (flush_fits (lent_of image l) p s xid next (length image / l.size) h sizes.3 sp one_block
              (leb-true (next + ids_wanted s) (2 ^ 64 - 1) enough.1))

          accepted : flush_in (lent_of image l) p (lists_of fs rs is ps) (state_of l.size t heads bytes) xid next
              ≡ ok (flushed (lent_of image l) p (state_of l.size t heads bytes) xid next)
          unfolding flush_in lent_of blocks
          accepted = rw (passed, enough.0, enough.1)

          pub in_done : (image' heads' fs' rs' is' ps' : List ℕ) (p' : Space) (f : done.Flushed)
              → flushed_of l.size t image' p' heads' bytes fs' rs' is' ps' f ≡ all_flushed l.size t image p heads bytes xid next
              → flushed_means l.size t image' p' heads' bytes fs' rs' is' ps' (Ok f)
              ≡ flush_in (lent_of image l) p (lists_of fs rs is ps) (state_of l.size t heads bytes) xid next
          unfolding flushed_means
          in_done image' heads' fs' rs' is' ps' p' f y = ap ok (y ∙ all_same_lem) ∙ sym accepted

-- ---- what is left

pub untouched : (image : List ℕ) (p : Space) (heads fs rs is ps : List ℕ) → Untouched image image p p heads heads fs fs rs rs is is ps ps
untouched image p heads fs rs is ps =
    record { on_image = refl; on_space = refl; on_slots = refl; on_freed = refl; on_removed = refl; on_ids = refl; on_places = refl }

past_drop : (k : ℕ) (l l' : List ℕ) → length l' ≡ length l → Past k l l' → drop k l' ≡ drop k l
past_drop k l l' e p =
    ext_get_or 0 (drop k l') (drop k l) (length-drop k l' ∙ ap (λ (n : ℕ). n - k) e ∙ sym (length-drop k l))
    (λ i h. get_or-drop k l' i 0 ∙ p.at (k + i) (omega arith) ∙ sym (get_or-drop k l i 0))

module _ (size slots : ℕ) (t : Tree) (heads heads' bytes fs fs' rs rs' is is' ps ps' : List ℕ) (f : done.Flushed)
    (g : Finished size slots t heads heads' bytes fs fs' rs rs' is is' ps ps' f) where
  pub finished_beyond : length fs' ≡ length fs → length rs' ≡ length rs → length is' ≡ length is → length ps' ≡ length ps
      → Beyond f fs fs' rs rs' is is' ps ps'
  finished_beyond a b c d = record {
    on_freed = past_drop f.done.freed fs fs' a g.freed;
    on_removed = past_drop f.done.removed rs rs' b g.removed;
    on_ids = past_drop f.done.moved is is' c g.ids;
    on_places = past_drop f.done.moved ps ps' d g.places;
  }

-- ---- the checked call

alike_roomy : (k : ℕ) (s s' : State) → Alike s s' → Roomy k s → Roomy k s'
alike_roomy k s s' a r =
    record { most = λ n d. rw (a.entries n) (r.most n (sym (a.dead n) ∙ d)) }

module _ (l : lending.Lent) (t : Tree) (image heads bytes : List ℕ) (k : Bool)
    (e : k ≡ workspace_holds l.size l.slots t.used heads bytes && lent_holds (lent_of image l) (state_of l.size t heads bytes)) where
  pub flush_refused : (p : Space) (lists : Lists) (xid next : ℕ) (image' heads' fs' rs' is' ps' : List ℕ) (p' : Space) → not k ≡ true
      → flushed_means l.size t image' p' heads' bytes fs' rs' is' ps' (Err refusal.Lent) ≡ flushed_in (lent_of image l) p lists t heads bytes xid next
  unfolding flushed_means flushed_in flush lent_of
  flush_refused p lists xid next image' heads' fs' rs' is' ps' p' q =
      called_refused image l t heads bytes k e (λ x. flush_in (lent_of image l) p lists x xid next) q

  module _ (q : not k ≡ false) where
    pub flush_passed : (p : Space) (lists : Lists) (xid next : ℕ) (x : Result Flushed)
        → x ≡ flush_in (lent_of image l) p lists (state_of l.size t heads bytes) xid next
        → x ≡ flushed_in (lent_of image l) p lists t heads bytes xid next
    unfolding flushed_in flush lent_of
    flush_passed p lists xid next x y = y ∙ called_passed image l t heads bytes k e (λ z. flush_in (lent_of image l) p lists z xid next) q

    held : workspace_holds l.size l.slots t.used heads bytes ≡ true
    held = and_left (workspace_holds l.size l.slots t.used heads bytes) (lent_holds (lent_of image l) (state_of l.size t heads bytes))
        (sym e ∙ not-false k q)

    pub flush_leaves : Ready l.size l.slots t.used heads bytes
        → (image' heads' fs fs' rs rs' is is' ps ps' : List ℕ) (p p' : Space) (x : std.Result done.Flushed refusal.Refusal)
        → FlushCalled l.size l.slots t image image' p p' heads heads' bytes fs fs' rs rs' is is' ps ps' x
        → flushed_leaves l.size l.slots t image image' p p' heads heads' bytes fs fs' rs rs' is is' ps ps' x
    flush_leaves r image' heads' fs fs' rs rs' is is' ps ps' p p' (Err y) h = h
    flush_leaves r image' heads' fs fs' rs rs' is is' ps ps' p p' (Ok f) h = (
      h.0,
      roomy_holds l.size l.slots t heads' bytes h.1 (alike_roomy (2 * l.size) (state_of l.size t heads bytes)
          (state_of l.size t heads' bytes) h.2 (holds_roomy l.size l.slots t heads bytes r held)),
    )

pub ruleset refusing = (slots_some, in_lent, in_short, untouched, standing_is, root_alive, all_fits)

pub ruleset unlent = (untouched, called_trusted, flush_refused)
