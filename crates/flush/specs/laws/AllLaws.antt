-- Laws of the whole flush: counts, dead nodes, the walk, what is answered. Assumes nothing.
use Rattle.std.specs.Prelude.{◌≡◌, List, [], ◌∷◌, Bool, true, false, ◌&&◌, not, ℕ, zero, suc, ◌+◌, ◌-◌, ◌*◌, ◌≤◌, ◌<◌, ◌^◌, get_or, take, leb, eqb}
use Rattle.std.proofs.Math.Path.{refl, sym, ap}
use Rattle.std.proofs.Common.{◌∙◌, mul_left_comm}
use native.Mathlib.Omega.{arith}
use Rattle.std.proofs.Math.ListN.{length}
use borrow.Author.Tests.{le-leb, lt-leb, eq-eqb, ne_eqb, eqb-true, eqb-false, leb-true, leb-false, ltb-true, ltb-false, not-true, not-false}
use Rattle.tree.specs.Format.{child_number}
use Rattle.tree.specs.State.{State, node_at}
use Rattle.tree.specs.Workspace.{nodes_of, state_of}
use Rattle.tree.specs.laws.base.Node.{by_test, never}
use Rattle.tree.specs.declared.editor.Tree.{Tree}
use Rattle.flush.specs.Space.{Space, chunk_blocks, is_used, zeros, lesser, usable_from, usable, Held}
use Rattle.flush.specs.Flush.{Flushing, Flushed, slot_number, write_from, dead_blocks, dead_ids, dirty_reached, ids_wanted, sum_from, fill, flushed, lists_hold}
use Rattle.flush.specs.Answers.{pairs_of, lists_of, flushed_of}
use Rattle.flush.specs.declared.flush.Flushing as code
use Rattle.flush.specs.declared.flush.Wanted.{Wanted}
use Rattle.flush.specs.internal.Lists.{numbers_of, Reported}
use Rattle.flush.specs.internal.Counts.{dirty_one, id_one, Counted}
use Rattle.flush.specs.internal.Walk.{flushing_of, Fitting, Left}
use Rattle.flush.specs.internal.Calls.{short_of, all_flushed, Finished}
use Rattle.flush.specs.laws.ListLaws.{numbers_length, pairs_length, numbers_take, past_on, dead_places_lem, dead_names_lem}
use Rattle.flush.specs.laws.WalkLaws.{with_removed, write_removed}
use Rattle.flush.specs.laws.WriteLaws.{number_same}
use Rattle.flush.specs.laws.OutcomeLaws.{dirty_reached_lem, ids_wanted_lem}
use Rattle.std.specs.Prelude.{Ok, Err, Option, Some, None, is_some, MatchResult, SomeIff, ltb, ⊤}
use Rattle.std.specs.Prelude as std
use Rattle.tree.specs.Refusals as refusal

-- ---- 1 of chunks and lists

module _ (slots : ℕ) (h1 : 1 ≤ slots) (a : Bool) (fs rs is ps : List ℕ) where
  pub lists_space : (k : Bool) → k ≡ a → not k ≡ true → false ≡ a && lists_hold slots (lists_of fs rs is ps)
  lists_space k e q = rw (sym e ∙ not-true k q)

  module _ (k : Bool) (e : k ≡ a) (q : not k ≡ false) where
    holds_so : a ≡ true
    holds_so = sym e ∙ not-false k q

    pub lists_freed : (length fs ≡ slots → ⊥) → false ≡ a && lists_hold slots (lists_of fs rs is ps)
    unfolding lists_hold lists_of
    lists_freed n = rw (holds_so, ne_eqb (length fs) slots n)

    module _ (ef : length fs ≡ slots) where
      pub lists_removed : (length rs ≡ slots → ⊥) → false ≡ a && lists_hold slots (lists_of fs rs is ps)
      unfolding lists_hold lists_of
      lists_removed n = rw (holds_so, eq-eqb (length fs) slots ef, ne_eqb (length rs) slots n)

      module _ (er : length rs ≡ slots) where
        pub lists_ids : (length is ≡ slots → ⊥) → false ≡ a && lists_hold slots (lists_of fs rs is ps)
        unfolding lists_hold lists_of
        lists_ids n =
            let z : 0 ≡ slots → ⊥ = λ y. omega arith in
            rw (holds_so, eq-eqb (length fs) slots ef, eq-eqb (length rs) slots er) (by_test (eqb (length is) (length ps))
            (λ t. rw (t, ne_eqb (length is) slots n)) (λ t. rw (t, ne_eqb 0 slots z)))

        pub lists_places : length is ≡ slots → eqb (length ps) slots ≡ a && lists_hold slots (lists_of fs rs is ps)
        unfolding lists_hold lists_of
        lists_places ei =
            let z : 0 ≡ slots → ⊥ = λ y. omega arith in
            rw (holds_so, eq-eqb (length fs) slots ef, eq-eqb (length rs) slots er) (by_test (eqb (length ps) slots)
            (λ t. let y : length ps ≡ slots = eqb-true (length ps) slots t in
            rw (t, eq-eqb (length is) (length ps) (ei ∙ sym y), eq-eqb (length is) slots ei))
            (λ t. let y : length is ≡ length ps → ⊥ = λ w. eqb-false (length ps) slots t (sym w ∙ ei) in
            rw (t, ne_eqb (length is) (length ps) y, ne_eqb 0 slots z)))

-- ---- 16 and 17

zeros_most : (bm : List ℕ) (n a : ℕ) → zeros bm n a ≤ n
unfolding zeros
zeros_most bm zero a = omega arith
zeros_most bm (suc n) a =
    let i = zeros_most bm n (suc a) in
    by_test (is_used bm a) (λ t. rw t (omega arith)) (λ t. rw t (omega arith))

lesser_most : (a b : ℕ) → lesser a b ≤ b
unfolding lesser
lesser_most a b = by_test (leb a b) (λ t. rw t (leb-true a b t)) (λ t. rw t (omega arith))

usable_from_lem : (bm : List ℕ) (size c : ℕ) (ns fs : List ℕ) → ((i : ℕ) → get_or ns i 0 ≤ chunk_blocks size)
    → usable_from bm size c ns fs ≤ length ns * (8 * size)
unfolding usable_from chunk_blocks
usable_from_lem bm size c [] fs h = omega arith
usable_from_lem bm size c (n ∷ ns) [] h = omega arith
usable_from_lem bm size c (n ∷ ns) (f ∷ fs) h =
    let i = usable_from_lem bm size (suc c) ns fs (λ k. h (suc k)) in
    let a : n ≤ 8 * size = h 0 in
    let b = zeros_most bm n (c * (8 * size)) in
    let l = lesser_most f (zeros bm n (c * (8 * size))) in
    omega arith

pub usable_few : (size : ℕ) (p : Space) (r : ℕ) → Held size p → r ≡ usable size p → r < 2 ^ 32
unfolding usable
usable_few size p r h e =
    let i = usable_from_lem p.bitmap size 0 p.counts p.free h.counted in
    let q : length p.counts * (8 * size) ≡ 8 * (length p.counts * size) = mul_left_comm (length p.counts) 8 size in
    omega (arith, h.mapped, h.few)

module _ (size : ℕ) (t : Tree) (heads bytes : List ℕ) (u next level : ℕ) (x : Wanted)
    (el : level ≡ (node_at (state_of size t heads bytes) t.root).level)
    (c : Counted u (sum_from dirty_one level (state_of size t heads bytes) t.root) (sum_from (id_one t.by_id) level
    (state_of size t heads bytes) t.root)
    (record { dirty = 0; ids = 0 }) x 0 0) (v : ℕ) (ev : u ≡ v) where
  abbrev s : State
  s = state_of size t heads bytes

  nodes_are : sum_from dirty_one level s t.root ≡ dirty_reached s
  unfolding state_of
  nodes_are = rw el (dirty_reached_lem s)

  ids_are : sum_from (id_one t.by_id) level s t.root ≡ ids_wanted s
  unfolding state_of
  ids_are = rw el (ids_wanted_lem s)

  pub short_full : (y : refusal.Refusal) → (leb x.dirty u ≡ false) × (y ≡ refusal.Full) → Err y ≡ short_of (state_of size t heads bytes) v next
  unfolding short_of
  short_full y (h, e) =
      let k : u < x.dirty = leb-false x.dirty u h in
      rw (e, ← ev, lt-leb (dirty_reached s) u (omega (arith, c.over k, nodes_are)))

  module _ (h : leb x.dirty u ≡ true) where
    few : x.dirty ≤ u
    few = leb-true x.dirty u h

    few_so : leb (dirty_reached s) u ≡ true
    few_so = let k : x.dirty ≤ u = few in le-leb (dirty_reached s) u (omega (arith, c.nodes few, nodes_are))

    -- the sum of the ids is there where it is a number
    pub short_rest : (o : Option ℕ) (k : Bool) (r : std.Result ⊤ refusal.Refusal) → SomeIff o (next + x.ids < 2 ^ 64) (next + x.ids)
        → k ≡ is_some o → MatchResult r (λ (_ : ⊤). k ≡ true) (λ (y : refusal.Refusal). (k ≡ false) × (y ≡ refusal.Count))
        → r ≡ short_of (state_of size t heads bytes) v next
    unfolding short_of
    short_rest None k (Ok z) o e m = never (sym e ∙ m) refl
    short_rest None k (Err y) o e (m, n) =
        by_test (ltb (next + x.ids) (2 ^ 64))
        (λ q. absurd (o (ltb-true (next + x.ids) (2 ^ 64) q)))
        (λ q. let z = ltb-false (next + x.ids) (2 ^ 64) q in
        rw (n, ← ev, few_so, lt-leb (next + ids_wanted s) (2 ^ 64 - 1) (omega (arith, c.ids few, ids_are))))
    short_rest (Some a) k (Ok z) o e m = rw (← ev, few_so, le-leb (next + ids_wanted s) (2 ^ 64 - 1) (omega (arith, o.0, c.ids few, ids_are)))
    short_rest (Some a) k (Err y) o e (m, n) = never (sym m ∙ e) refl

-- ---- the walk from the root

flushed_same : (a a' b b' c c' d d' e e' f f' g g' : ℕ) (x x' : Flushing) → a ≡ a' → b ≡ b' → c ≡ c' → d ≡ d' → e ≡ e' → f ≡ f' → g ≡ g' → x ≡ x'
    → ◌≡◌ {A = Flushed} (record { root = a; allocated = b; freed_count = c; removed_count = d; moved_count = e; keys = f; fill = g; after = x })
    (record { root = a'; allocated = b'; freed_count = c'; removed_count = d'; moved_count = e'; keys = f'; fill = g'; after = x' })
flushed_same a a' b b' c c' d d' e e' f f' g g' x x' p1 p2 p3 p4 p5 p6 p7 p8 = rw (p1, p2, p3, p4, p5, p6, p7, p8)

removed_fits : (a b c : ℕ) (l : List ℕ) (w : Flushing) → Fitting a b c (with_removed l w) → Fitting a b c w
unfolding with_removed
removed_fits a b c l w f = record { next = f.next; freed = f.freed; ids = f.ids; places = f.places; allocated = f.allocated }

module _ (size slots xid next level : ℕ) (t : Tree) (image heads bytes fs rs is ps fs' rs' : List ℕ) (p : Space) (w : code.Flushing)
    (el : level ≡ (node_at (state_of size t heads bytes) t.root).level) (rp : Reported t.by_id t.used next heads fs rs fs' rs' w) where
  abbrev s₀ : State
  s₀ = state_of size t heads bytes

  abbrev dead : List ℕ
  dead = dead_ids t.by_id (nodes_of size heads bytes t.used)

  abbrev start : Flushing
  start = flushing_of size t image p heads bytes fs' is ps w

  start_is : with_removed dead start ≡ record {
    image = image;
    space = p;
    nodes = nodes_of size heads bytes t.used;
    next = next;
    freed = dead_blocks (nodes_of size heads bytes t.used);
    removed = dead;
    moved = [];
    allocated = 0;
  }
  unfolding with_removed flushing_of pairs_of
  start_is = rw (rp.start.0, rp.start.1, rp.start.2, rp.places, dead_places_lem size t.used heads bytes)

  after_is : (all_flushed size t image p heads bytes xid next).after ≡ with_removed dead (write_from level s₀ xid t.root start)
  unfolding all_flushed flushed state_of
  after_is =
      ap (λ (y : Flushing). write_from (node_at s₀ t.root).level s₀ xid t.root y) (sym start_is)
      ∙ ap (λ (d : ℕ). write_from d s₀ xid t.root (with_removed dead start)) (sym el)
      ∙ write_removed dead level s₀ xid t.root start

  pub walk_fits : Fitting slots slots slots (all_flushed size t image p heads bytes xid next).after
      → Fitting slots slots slots (write_from level (state_of size t heads bytes) xid t.root (flushing_of size t image p heads bytes fs' is ps w))
  walk_fits f = removed_fits slots slots slots dead (write_from level s₀ xid t.root start) (rw after_is at f)

  module _ (lr : length rs' ≡ slots) (hu : t.used ≤ slots) (hr : t.root < t.used)
      (fit : Fitting slots slots slots (all_flushed size t image p heads bytes xid next).after) (image' heads' fs'' is' ps' : List ℕ) (p' : Space)
      (r : code.Flushing) (lf : length fs'' ≡ slots)
      (e : flushing_of size t image' p' heads' bytes fs'' is' ps' r ≡ write_from level (state_of size t heads bytes) xid t.root
      (flushing_of size t image p heads bytes fs' is ps w)) (er : r.removed ≡ w.removed) where
    abbrev end : Flushing
    end = flushing_of size t image' p' heads' bytes fs'' is' ps' r

    whole_is : (all_flushed size t image p heads bytes xid next).after ≡ with_removed dead end
    whole_is = after_is ∙ ap (with_removed dead) (sym e)

    dead_is : take r.removed rs' ≡ dead
    dead_is =
        ap (λ (k : ℕ). take k rs') er ∙ sym (numbers_take w.removed rs' (omega (arith, rp.most.1))) ∙ rp.names
        ∙ sym (dead_names_lem size t.used t.by_id heads bytes)

    dead_length : r.removed ≡ length dead
    dead_length = er ∙ sym (numbers_length w.removed rs')
        ∙ ap length (rp.names ∙ sym (dead_names_lem size t.used t.by_id heads bytes))

    freed_is : take r.freed fs'' ≡ numbers_of r.freed fs''
    unfolding with_removed flushing_of
    freed_is =
        let f : Fitting slots slots slots (with_removed dead end) = rw whole_is at fit in
        sym (numbers_take r.freed fs'' (omega (arith, f.freed, numbers_length r.freed fs'')))

    end_is : record {
      image = image';
      space = p';
      nodes = nodes_of size heads' bytes t.used;
      next = r.next;
      freed = take r.freed fs'';
      removed = take r.removed rs';
      moved = pairs_of r.moved is' ps';
      allocated = r.allocated;
    } ≡ with_removed dead end
    unfolding with_removed flushing_of
    end_is = rw (freed_is, dead_is)

    -- what is answered, of what the walk leaves
    abbrev answers : Flushing → Flushed
    answers y = record {
      root = slot_number t.by_id y.nodes t.root;
      allocated = y.allocated;
      freed_count = length y.freed;
      removed_count = length y.removed;
      moved_count = length y.moved;
      keys = t.info.key_count;
      fill = fill (state_of size t heads bytes);
      after = y;
    }

    all_is : all_flushed size t image p heads bytes xid next ≡ answers (all_flushed size t image p heads bytes xid next).after
    unfolding all_flushed flushed state_of
    all_is = refl

    pub all_flushed_lem : (root keys filled : ℕ) → root ≡ child_number heads' t.by_id t.root → keys ≡ t.info.key_count
        → filled ≡ fill (state_of size t heads bytes)
        → flushed_of size t image' p' heads' bytes fs'' rs' is' ps' (record { root = root; keys = keys; fill = filled; done = r })
        ≡ all_flushed size t image p heads bytes xid next
    unfolding flushed_of with_removed flushing_of
    all_flushed_lem root keys filled e1 e2 e3 =
        flushed_same root _ r.allocated _ r.freed _ r.removed _ r.moved _ keys _ filled _ _ _
        (e1 ∙ number_same size t.used t.root heads' bytes t.by_id hr) refl (sym (numbers_length r.freed fs'')) dead_length
        (sym (pairs_length r.moved is' ps')) e2 e3 end_is
        ∙ ap answers (sym whole_is) ∙ sym all_is

pub all_left : (size slots : ℕ) (t : Tree) (next : ℕ) (heads heads' bytes fs fs' fs'' rs rs' is is' ps ps' : List ℕ) (w r : code.Flushing)
    (root keys filled : ℕ) → Reported t.by_id t.used next heads fs rs fs' rs' w
    → Left size slots t heads heads' bytes fs' fs'' is is' ps ps' w r
    → Finished size slots t heads heads' bytes fs fs'' rs rs' is is' ps ps' (record { root = root; keys = keys; fill = filled; done = r })
all_left size slots t next heads heads' bytes fs fs' fs'' rs rs' is is' ps ps' w r root keys filled d l =
    record {
      ready = l.standing.ready;
      alike = l.alike;
      freed = past_on w.freed r.freed fs fs' fs'' d.past_places l.freed l.frees;
      removed = rw l.removed d.past_names;
      ids = l.ids;
      places = l.places;
    }

pub ruleset listing = (lists_space, lists_freed, lists_removed, lists_ids, lists_places)

pub ruleset write_all_laws = (all_flushed_lem, all_left)
