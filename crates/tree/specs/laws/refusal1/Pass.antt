-- Laws of the pass of refusal 1 over the slots: one for each turn and each way out. Assumes nothing.
use Rattle.std.specs.Prelude.{◌≡◌, List, false, cond, ◌&&◌, ◌||◌, not, set, replicate, leb, eqb}
use Rattle.std.proofs.Math.Path.{refl, sym, ap}
use Rattle.std.proofs.Common.{◌∙◌, add-one}
use Rattle.std.proofs.Math.Bool.{Bool, true}
use Prim.Native.Nat.{ℕ, zero, suc, ◌+◌, ◌-◌, ◌*◌, ◌^◌, ◌≤◌, ◌<◌}
use native.Mathlib.Omega.{arith}
use Rattle.std.proofs.Math.ListN.{length}
use borrow.Author.Tests.{le-leb, lt-leb, lt-ltb, le-ltb, eq-eqb, not-true, not-false}
use Rattle.node.specs.laws.base.Tests.{by_test, never, and-false}
use Rattle.node.specs.Result.{Result, ok, refused, ◌>>=◌}
use Rattle.node.specs.Entry.{Entry, every}
use Rattle.node.specs.Records.{records_length, entries_of}
use Rattle.node.specs.Slot.{MemNode, head_at, node_of, records_hold, entry_holds}
use Rattle.node.specs.declared.head.Head.{Head}
use Rattle.tree.specs.State.{State, node_at}
use Rattle.tree.specs.Workspace.{slot_bytes, nodes_from, nodes_of, state_of, slot_holds, slots_hold}
use Rattle.tree.specs.Hold.{child_holds, node_holds, every_live, named_once, hold_together}
use Rattle.tree.specs.internal.Bank.{node_in, number_holds, words_hold}
use Rattle.tree.specs.internal.Marks.{mark_of, mark_entries, mark_nodes}
use Rattle.tree.specs.internal.Holding.{Laid, body_holds, if_holds, link_entries, hold_slot, hold_slots}
use Rattle.tree.specs.laws.slots.Bank.{slots_below, length_nodes, node_at_lem}
use Rattle.tree.specs.laws.slots.OneSlot.{part_long}
use Rattle.tree.specs.laws.refusal1.HoldTogether.{Ones, ones_entries, then_holds, link_both, leaf_entries, node_body, body_lies, body_entries}
use Rattle.tree.specs.laws.refusal1.Marks.{said_no, once_is}
use Rattle.tree.specs.declared.editor.Tree.{Tree}

-- ---- one slot

module _ (size : ℕ) (t : Tree) (heads bytes ms : List ℕ) (n : ℕ) (h : Head) (eh : h ≡ head_at heads n) (w : Bool) (ew : w ≡ words_hold h) where
  abbrev s : State
  s = state_of size t heads bytes

  abbrev l : List ℕ
  l = slot_bytes size bytes n

  abbrev whole : Result (List ℕ)
  whole = hold_slot size heads bytes s t.used n ms

  hold_is : whole
      ≡ if_holds (words_hold h && (eqb h.dead 1 || leb h.used (2 * size) && records_hold h.count h.used l)
      && (eqb h.dead 1 || node_holds s n (node_of h l)))
      (cond (eqb h.dead 1) (ok ms) (mark_entries t.used (node_of h l).entries ms))
  unfolding hold_slot node_in slot_holds words_hold number_holds node_of
  hold_is = rw (← eh)

  pub slot_words_lem : not w ≡ true → mark_of false ms ≡ hold_slot size heads bytes (state_of size t heads bytes) t.used n ms
  unfolding if_holds mark_of
  slot_words_lem q = let z : whole ≡ refused 1 = hold_is ∙ rw (← ew, not-true w q) in sym z

  module _ (hw : not w ≡ false) where
    module _ (x : Bool) (ex : x ≡ eqb h.dead 1) where
      pub slot_dead : x ≡ true → mark_of true ms ≡ hold_slot size heads bytes (state_of size t heads bytes) t.used n ms
      unfolding if_holds mark_of
      slot_dead q = let z : whole ≡ ok ms = hold_is ∙ rw (← ew, not-false w hw, sym ex ∙ q) in sym z

      module _ (d : x ≡ false) where
        pub slot_long : 2 * size < h.used → mark_of false ms ≡ hold_slot size heads bytes (state_of size t heads bytes) t.used n ms
        unfolding if_holds mark_of
        slot_long q = let z : whole ≡ refused 1 = hold_is ∙ rw (← ew, not-false w hw, sym ex ∙ d, lt-leb h.used (2 * size) q) in sym z

        entries_live : (node_of h l).entries ≡ entries_of h.count l
        unfolding node_of
        entries_live = rw (sym ex ∙ d)

        module _ (u : h.used ≤ 2 * size) (part : List ℕ) (el : part ≡ slot_bytes size bytes n) (b : Bool) (eb : b ≡ body_holds t n h part) where
          hold_live : whole ≡ if_holds (body_holds t n h l && every (λ e. child_holds s h.level e.value) (entries_of h.count l))
              (mark_entries t.used (entries_of h.count l) ms)
          hold_live =
              hold_is
              ∙ rw (← ew, not-false w hw, sym ex ∙ d, le-leb h.used (2 * size) u)
              (ap (λ (x : Bool). if_holds x (mark_entries t.used (node_of h l).entries ms)) (node_body size t heads bytes n h l
              (λ z. never (ex ∙ eq-eqb h.dead 1 z) d))
              ∙ ap (λ (x : List Entry). if_holds (body_holds t n h l && every (λ e. child_holds s h.level e.value) (entries_of h.count l))
              (mark_entries t.used x ms)) entries_live)

          body_is : b ≡ body_holds t n h l
          body_is = eb ∙ ap (body_holds t n h) el

          pub slot_body : not b ≡ true → mark_of false ms ≡ hold_slot size heads bytes (state_of size t heads bytes) t.used n ms
          unfolding if_holds mark_of
          slot_body q = let z : whole ≡ refused 1 = hold_live ∙ rw (← body_is, not-true b q) in sym z

          module _ (hb : not b ≡ false) where
            holds : body_holds t n h l ≡ true
            holds = sym body_is ∙ not-false b hb

            hold_rest : whole ≡ if_holds (every (λ e. child_holds s h.level e.value) (entries_of h.count l))
                (mark_entries t.used (entries_of h.count l) ms)
            hold_rest = hold_live ∙ rw holds

            pub slot_leaf : h.level ≡ 0 → mark_of true ms ≡ hold_slot size heads bytes (state_of size t heads bytes) t.used n ms
            unfolding mark_of
            slot_leaf q =
                let z : every (entry_holds t.order.code t.info true) (entries_of h.count l) ≡ true = rw (eq-eqb h.level 0 q) at
                (body_entries t n h l holds) in
                sym (hold_rest ∙ leaf_entries size t heads bytes h.level t.order.code t.info (entries_of h.count l) ms z)

            pub slot_links : (r : Bool) (ks : List ℕ) → mark_of r ks ≡ link_entries heads t.used h.level (entries_of h.count part) ms
                → mark_of r ks ≡ hold_slot size heads bytes (state_of size t heads bytes) t.used n ms
            slot_links r ks e =
                e ∙ ap (λ (x : List ℕ). link_entries heads t.used h.level (entries_of h.count x) ms) el
                ∙ link_both size t heads bytes h.level (entries_of h.count l) ms ∙ sym hold_rest

pub body_records : (t : Tree) (n : ℕ) (h : Head) (part : List ℕ) (b : Bool) → b ≡ body_holds t n h part → not b ≡ false
    → records_length h.count part ≤ length part
body_records t n h part b e q = body_lies t n h part (sym e ∙ not-false b q)

-- ---- words and bytes

module _ (size slots used : ℕ) (heads bytes : List ℕ) (r : Laid size slots used heads bytes) where
  pub laid_words : used * 9 ≤ length heads
  laid_words = omega (arith, r.words, r.within)

  module _ (n : ℕ) (hn : n < used) where
    pub laid_part : n * (4 * size) + 4 * size ≤ length bytes
    laid_part =
        let w : used ≤ slots = r.within in
        let p : n * (4 * size) + 4 * size ≤ (slots + slots) * (4 * size) = slots_below (4 * size) n (slots + slots) (omega arith) in
        omega (arith, r.room)

    pub laid_few : n ≤ 4096
    laid_few = omega (arith, r.within, r.many)

    pub laid_small : (part : List ℕ) → part ≡ slot_bytes size bytes n → length part ≤ 2 ^ 20
    laid_small part e = let z : length part ≡ 4 * size = ap length e ∙ part_long size bytes n laid_part in omega (arith, r.most)

-- ---- the slots from slot n on

module _ (size : ℕ) (heads bytes : List ℕ) (s : State) (used : ℕ) (ms : List ℕ) where
  pub slots_start : hold_slots size heads bytes s used (used - 0) 0 ms ≡ hold_slots size heads bytes s used used 0 ms
  slots_start = let z : used - 0 ≡ used = omega arith in ap (λ (k : ℕ). hold_slots size heads bytes s used k 0 ms) z

  module _ (n : ℕ) (ks : List ℕ) (inv : hold_slots size heads bytes s used (used - n) n ks ≡ hold_slots size heads bytes s used used 0 ms) where
    pub slots_end : used ≤ n → mark_of true ks ≡ hold_slots size heads bytes s used used 0 ms
    unfolding hold_slots mark_of
    slots_end h = let z : used - n ≡ 0 = omega arith in let e : hold_slots size heads bytes s used 0 n ks
        ≡ hold_slots size heads bytes s used used 0 ms = rw z at inv in e

    module _ (ks' : List ℕ) (b : Bool) (hn : n < used) (eb : mark_of b ks' ≡ hold_slot size heads bytes s used n ks) where
      slots_turn : (mark_of b ks' >>= hold_slots size heads bytes s used (used - (n + 1)) (n + 1)) ≡ hold_slots size heads bytes s used used 0 ms
      unfolding hold_slots
      slots_turn =
          let z : used - n ≡ suc (used - (n + 1)) = omega arith in
          let e : (hold_slot size heads bytes s used n ks >>= hold_slots size heads bytes s used (used - (n + 1)) (suc n))
          ≡ hold_slots size heads bytes s used used 0 ms = rw z at inv in
          ap (λ (x : Result (List ℕ)). x >>= hold_slots size heads bytes s used (used - (n + 1)) (n + 1)) eb
          ∙ ap (λ (k : ℕ). hold_slot size heads bytes s used n ks >>= hold_slots size heads bytes s used (used - (n + 1)) k) (add-one n) ∙ e

      pub slots_no : not b ≡ true → mark_of false ks' ≡ hold_slots size heads bytes s used used 0 ms
      unfolding mark_of
      slots_no q = ap (λ (x : Bool). mark_of x ks' >>= hold_slots size heads bytes s used (used - (n + 1)) (n + 1)) (sym (not-true b q)) ∙ slots_turn

      pub slots_next : not b ≡ false → hold_slots size heads bytes s used (used - (n + 1)) (n + 1) ks' ≡ hold_slots size heads bytes s used used 0 ms
      unfolding mark_of
      slots_next q = ap (λ (x : Bool). mark_of x ks' >>= hold_slots size heads bytes s used (used - (n + 1)) (n + 1)) (sym (not-false b q))
          ∙ slots_turn

-- ---- all slots

pairs : (a b c d : Bool) → (a && b) && (c && d) ≡ (a && c) && (b && d)
pairs false b c d = refl
pairs true true c d = refl
pairs true false c d = sym (and-false c)

ones_node : (used : ℕ) (d : Bool) (es : List Entry) (ms : List ℕ) → Ones (cond d (ok ms) (mark_entries used es ms))
ones_node used true es ms = tt
ones_node used false es ms = ones_entries used es ms

hold_step : (size : ℕ) (heads bytes : List ℕ) (s : State) (used n : ℕ) (ms : List ℕ) (c d : Bool) (ns : List MemNode) (f : List ℕ → Result (List ℕ))
    → ((ks : List ℕ) → f ks ≡ if_holds (c && d) (mark_nodes used ns ks))
    → (hold_slot size heads bytes s used n ms >>= f)
    ≡ if_holds ((slot_holds size (head_at heads n) (slot_bytes size bytes n) && c)
    && (((node_in size heads bytes n).dead || node_holds s n (node_in size heads bytes n)) && d))
    (cond (node_in size heads bytes n).dead (ok ms) (mark_entries used (node_in size heads bytes n).entries ms) >>= mark_nodes used ns)
unfolding hold_slot
hold_step size heads bytes s used n ms c d ns f e =
    let x : MemNode = node_in size heads bytes n in
    let a : Bool = slot_holds size (head_at heads n) (slot_bytes size bytes n) in
    let b : Bool = x.dead || node_holds s n x in
    let r : Result (List ℕ) = cond x.dead (ok ms) (mark_entries used x.entries ms) in
    then_holds (a && b) (c && d) r f (mark_nodes used ns) (ones_node used x.dead x.entries ms) e
    ∙ ap (λ (y : Bool). if_holds y (r >>= mark_nodes used ns)) (pairs a b c d)

hold_both : (size : ℕ) (heads bytes : List ℕ) (s : State) (used m n : ℕ) (ms : List ℕ)
    → hold_slots size heads bytes s used m n ms
    ≡ if_holds (slots_hold size heads bytes m n && every_live (node_holds s) n (nodes_from size heads bytes m n))
    (mark_nodes used (nodes_from size heads bytes m n) ms)
unfolding hold_slots slots_hold every_live nodes_from mark_nodes if_holds node_in
hold_both size heads bytes s used zero n ms = refl
hold_both size heads bytes s used (suc m) n ms =
    hold_step size heads bytes s used n ms (slots_hold size heads bytes m (suc n))
    (every_live (node_holds s) (suc n) (nodes_from size heads bytes m (suc n))) (nodes_from size heads bytes m (suc n))
    (hold_slots size heads bytes s used m (suc n)) (hold_both size heads bytes s used m (suc n))

-- ---- the slots hold together

module _ (size : ℕ) (t : Tree) (heads bytes : List ℕ) where
  pub together_past : t.used ≤ t.root → false ≡ slots_hold size heads bytes t.used 0 && hold_together (state_of size t heads bytes)
  unfolding hold_together state_of
  together_past q = rw (length_nodes size heads bytes t.used, le-ltb t.root t.used q)
      (sym (and-false (slots_hold size heads bytes t.used 0)))

  module _ (hr : t.root < t.used) (h : Head) (eh : h ≡ head_at heads t.root) where
    root_is : (node_at (state_of size t heads bytes) t.root).dead ≡ eqb h.dead 1
    unfolding node_at state_of node_in node_of
    root_is = rw (node_at_lem size heads bytes t.used t.root hr, eh)

    together_parts : hold_together (state_of size t heads bytes) ≡ not (eqb h.dead 1) && every_live (node_holds (state_of size t heads bytes)) 0
        (nodes_of size heads bytes t.used) && named_once (state_of size t heads bytes) t.used
    unfolding hold_together state_of
    together_parts =
        let z : length (state_of size t heads bytes).nodes ≡ t.used = length_nodes size heads bytes t.used in
        rw (root_is, z, lt-ltb t.root t.used hr)

    pub together_dead : (x : Bool) → x ≡ eqb h.dead 1 → x ≡ true
        → false ≡ slots_hold size heads bytes t.used 0 && hold_together (state_of size t heads bytes)
    together_dead x ex q = rw (together_parts, sym ex ∙ q) (sym (and-false (slots_hold size heads bytes t.used 0)))

    module _ (x : Bool) (ex : x ≡ eqb h.dead 1) (d : x ≡ false) (N : ℕ) (room : t.used ≤ N) (a : Bool) (ks : List ℕ)
        (e : mark_of a ks ≡ hold_slots size heads bytes (state_of size t heads bytes) t.used t.used 0 (set (replicate N 0) t.root 1)) where
      abbrev S : Bool
      S = slots_hold size heads bytes t.used 0

      abbrev E : Bool
      E = every_live (node_holds (state_of size t heads bytes)) 0 (nodes_of size heads bytes t.used)

      marks_are : mark_of a ks ≡ if_holds (S && E) (mark_nodes t.used (nodes_of size heads bytes t.used) (set (replicate N 0) t.root 1))
      unfolding nodes_of
      marks_are = e ∙ hold_both size heads bytes (state_of size t heads bytes) t.used t.used 0 (set (replicate N 0) t.root 1)

      three : (x y z : Bool) → x && y ≡ true → x && (true && y && z) ≡ z
      three true true z q = refl
      three true false z q = never q refl
      three false y z q = never q refl

      three_no : (x y z : Bool) → x && y ≡ false → x && (true && y && z) ≡ false
      three_no true true z q = never refl q
      three_no true false z q = refl
      three_no false y z q = refl

      pub together_is : a ≡ slots_hold size heads bytes t.used 0 && hold_together (state_of size t heads bytes)
      unfolding if_holds state_of
      together_is =
          let O : Bool = named_once (state_of size t heads bytes) t.used in
          by_test (S && E)
          (λ q. let z : mark_of a ks ≡ mark_nodes t.used (nodes_of size heads bytes t.used)
          (set (replicate N 0) t.root 1) = rw q at marks_are in
          once_is (state_of size t heads bytes) t.used N (set (replicate N 0) t.root 1) ks a room hr refl z
          ∙ sym (rw (together_parts, sym ex ∙ d) (three S E O q)))
          (λ q. let z : mark_of a ks ≡ refused 1 = rw q at marks_are in
          said_no a ks z ∙ sym (rw (together_parts, sym ex ∙ d) (three_no S E O q)))

module _ (size slots N : ℕ) (t : Tree) (heads bytes : List ℕ) (r : Laid size slots t.used heads bytes) (h : 4096 ≤ N) where
  pub together_few : t.used ≤ N
  together_few = omega (arith, r.within, r.many)

pub ruleset hold_slot_laws =
    (slot_words_lem, slot_dead, slot_long, slot_body, body_records, slot_leaf, slot_links, laid_words, laid_part, laid_few, laid_small)

pub ruleset hold_slots_laws = (slots_start, slots_end, slots_no, slots_next)

pub ruleset hold_together_laws = (together_past, together_dead, together_is, together_few)
