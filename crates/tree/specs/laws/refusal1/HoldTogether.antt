-- Laws of the pass of refusal 1 over the slots: what it computes is that the slots are nodes and hold together. Assumes nothing.
use Rattle.std.specs.Prelude.{◌≡◌, false, ◌&&◌, ℕ, ◌≤◌, ◌<◌, length, get_or, ltb, eqb}
use Rattle.std.proofs.Math.Path.{refl, ap}
use Rattle.std.proofs.Common.{sym, ◌∙◌}
use mathlib.Core.List.{List, [], ◌∷◌}
use Rattle.std.proofs.Math.Bool.{Bool, true, not}
use Rattle.std.proofs.Math.Dec.{leb}
use borrow.Author.Tests.{leb-true, ltb-true, ne_eqb}
use Rattle.node.specs.laws.base.Tests.{by_test, never, and_split, and-false}
use Rattle.node.specs.Result.{Result, ok, refused, ◌>>=◌}
use Rattle.node.specs.Entry.{Entry, Val, ghost, leaf, disk, mem, rising, every}
use Rattle.node.specs.Records.{records_length, entries_of}
use Rattle.node.specs.Fit.{fits, room_of}
use Rattle.node.specs.laws.slot.Records.{length_entries}
use Rattle.node.specs.laws.order.Rising.{every_and}
use Rattle.node.specs.Order.{keyed}
use Rattle.node.specs.Slot.{node_of, marked, records_hold, is_child, suit, key_length_holds, value_length_holds, value_holds, entry_holds}
use Rattle.node.specs.internal.SlotSteps.{records_stand}
use Rattle.node.specs.declared.head.Head.{Head}
use Rattle.node.specs.declared.info.BTreeInfo.{BTreeInfo}
use Rattle.tree.specs.State.{State, node_at}
use Rattle.tree.specs.Workspace.{state_of}
use Rattle.tree.specs.Hold.{key_fits, value_fits, child_holds, stands_on_disk, node_stands, node_holds}
use Rattle.tree.specs.internal.Bank.{node_in}
use Rattle.tree.specs.internal.Marks.{mark_slot, mark_value, mark_entries}
use Rattle.tree.specs.internal.Holding.{count_holds, place_holds, body_holds, child_stands, if_holds, link_value, link_entries}
use Rattle.tree.specs.laws.slots.Bank.{length_nodes, node_at_lem}
use Rattle.tree.specs.declared.editor.Tree.{Tree}

-- ---- marks refuse with 1 alone

abbrev pub Ones : Result (List ℕ) → Type 0
Ones (ok ks) = Unit {0}
Ones (refused x) = x ≡ 1

ones_bind : (r : Result (List ℕ)) (f : List ℕ → Result (List ℕ)) → Ones r → ((ks : List ℕ) → Ones (f ks)) → Ones (r >>= f)
ones_bind (ok ks) f o g = g ks
ones_bind (refused x) f o g = o

ones_slot : (used c : ℕ) (ms : List ℕ) → Ones (mark_slot used c ms)
unfolding mark_slot
ones_slot used c ms = by_test (leb used c) (λ t. rw t tt) (λ t. by_test (eqb (get_or ms c 0) 0) (λ w. rw (t, w) tt) (λ w. rw (t, w) refl))

ones_value : (used : ℕ) (v : Val) (ms : List ℕ) → Ones (mark_value used v ms)
unfolding mark_value
ones_value used ghost ms = tt
ones_value used (leaf v) ms = tt
ones_value used (disk r) ms = tt
ones_value used (mem c) ms = ones_slot used c ms

pub ones_entries : (used : ℕ) (es : List Entry) (ms : List ℕ) → Ones (mark_entries used es ms)
unfolding mark_entries
ones_entries used [] ms = tt
ones_entries used (e ∷ es) ms = ones_bind (mark_value used e.value ms) (mark_entries used es) (ones_value used e.value ms) (ones_entries used es)

-- a test and marks, then a test and marks: both tests, then all marks
pub then_holds : (a b : Bool) (r : Result (List ℕ)) (f g : List ℕ → Result (List ℕ)) → Ones r → ((ks : List ℕ) → f ks ≡ if_holds b (g ks))
    → (if_holds a r >>= f) ≡ if_holds (a && b) (r >>= g)
unfolding if_holds
then_holds false b r f g o e = refl
then_holds true b (ok ks) f g o e = e ks
then_holds true true (refused x) f g o e = refl
then_holds true false (refused x) f g o e = ap refused o

-- ---- children

module _ (size : ℕ) (t : Tree) (heads bytes : List ℕ) (level : ℕ) where
  abbrev child : Entry → Bool
  child e = child_holds (state_of size t heads bytes) level e.value

  child_is : (c : ℕ) → child_stands heads t.used level c ≡ child_holds (state_of size t heads bytes) level (mem c)
  unfolding child_stands child_holds node_at state_of node_of node_in
  child_is c =
      by_test (ltb c t.used)
      (λ q. let u : c < t.used = ltb-true c t.used q in rw (length_nodes size heads bytes t.used, node_at_lem size heads bytes t.used c u))
      (λ q. rw (length_nodes size heads bytes t.used, q))

  link_one : (v : Val) (ms : List ℕ) → link_value heads t.used level v ms ≡ if_holds (child_holds (state_of size t heads bytes) level v)
      (mark_value t.used v ms)
  unfolding link_value child_holds mark_value if_holds
  link_one ghost ms = refl
  link_one (leaf v) ms = refl
  link_one (disk r) ms = refl
  link_one (mem c) ms = rw (child_is c)

  pub link_both : (es : List Entry) (ms : List ℕ) → link_entries heads t.used level es ms ≡ if_holds (every child es) (mark_entries t.used es ms)
  unfolding link_entries every mark_entries if_holds
  link_both [] ms = refl
  link_both (e ∷ es) ms =
      ap (λ (x : Result (List ℕ)). x >>= link_entries heads t.used level es) (link_one e.value ms)
      ∙ then_holds (child e) (every child es) (mark_value t.used e.value ms) (link_entries heads t.used level es) (mark_entries t.used es)
      (ones_value t.used e.value ms) (link_both es)

  -- a leaf's entries hold no child
  leaf_child : (v : Val) → not (is_child v) ≡ true → child_holds (state_of size t heads bytes) level v ≡ true
  unfolding child_holds is_child
  leaf_child ghost h = refl
  leaf_child (leaf v) h = refl
  leaf_child (disk r) h = refl
  leaf_child (mem c) h = never h refl

  leaf_mark : (v : Val) (ms : List ℕ) → not (is_child v) ≡ true → mark_value t.used v ms ≡ ok ms
  unfolding mark_value is_child
  leaf_mark ghost ms h = refl
  leaf_mark (leaf v) ms h = refl
  leaf_mark (disk r) ms h = refl
  leaf_mark (mem c) ms h = never h refl

  leaf_value : (o : ℕ) (i : BTreeInfo) (e : Entry) → entry_holds o i true e ≡ true → not (is_child e.value) ≡ true
  unfolding entry_holds suit
  leaf_value o i e h = (and_split (key_length_holds o i (length e.key) && value_holds i e.value) (suit true e) h).1

  pub leaf_entries : (o : ℕ) (i : BTreeInfo) (es : List Entry) (ms : List ℕ) → every (entry_holds o i true) es ≡ true
      → if_holds (every child es) (mark_entries t.used es ms) ≡ ok ms
  unfolding every mark_entries if_holds
  leaf_entries o i [] ms h = refl
  leaf_entries o i (e ∷ es) ms h =
      let p = and_split (entry_holds o i true e) (every (entry_holds o i true) es) h in
      let q : not (is_child e.value) ≡ true = leaf_value o i e p.0 in
      rw (leaf_child e.value q, leaf_mark e.value ms q) (leaf_entries o i es ms p.1)

-- ---- a node

marked_one : (m x : ℕ) → eqb (length (marked m x)) 1 ≡ eqb m 1
unfolding marked
marked_one m x = by_test (eqb m 1) (λ t. rw t) (λ t. rw t)

every_same : (t u : Entry → Bool) (es : List Entry) → ((e : Entry) → t e ≡ u e) → every t es ≡ every u es
unfolding every
every_same t u [] f = refl
every_same t u (e ∷ es) f = rw (f e, every_same t u es f)

value_is : (s : State) (v : Val) → value_fits s v ≡ value_holds s.info v
unfolding value_fits value_holds value_length_holds
value_is s ghost = refl
value_is s (leaf v) = refl
value_is s (disk r) = refl
value_is s (mem c) = refl

entry_is : (s : State) (isLeaf : Bool) (e : Entry) → key_fits s e.key && value_fits s e.value && suit isLeaf e ≡ entry_holds s.order
    s.info isLeaf e
unfolding entry_holds key_fits key_length_holds keyed
entry_is s isLeaf e = rw (value_is s e.value)

entries_are : (s : State) (isLeaf : Bool) (level : ℕ) (es : List Entry)
    → every (λ e. key_fits s e.key && value_fits s e.value && suit isLeaf e && child_holds s level e.value) es
    ≡ every (entry_holds s.order s.info isLeaf) es && every (λ e. child_holds s level e.value) es
entries_are s isLeaf level es =
    every_and (λ e. key_fits s e.key && value_fits s e.value && suit isLeaf e) (λ e. child_holds s level e.value) es
    ∙ ap (λ (b : Bool). b && every (λ e. child_holds s level e.value) es)
    (every_same (λ e. key_fits s e.key && value_fits s e.value && suit isLeaf e) (entry_holds s.order s.info isLeaf) es (entry_is s isLeaf))

apart : (a b h e c d r : Bool) → h && (a && b && (e && c) && d && r) ≡ a && b && (h && e && r) && d && c
apart false b h e c d r = and-false h
apart true false h e c d r = and-false h
apart true true false e c d r = refl
apart true true true false c d r = refl
apart true true true true false d r = sym (and-false (r && d))
apart true true true true true true true = refl
apart true true true true true true false = refl
apart true true true true true false true = refl
apart true true true true true false false = refl

module _ (size : ℕ) (t : Tree) (heads bytes : List ℕ) (n : ℕ) (h : Head) (l : List ℕ) (d : h.dead ≡ 1 → ⊥) where
  abbrev s : State
  s = state_of size t heads bytes

  abbrev es : List Entry
  es = entries_of h.count l

  node_parts : node_holds s n (node_of h l)
      ≡ leb h.level 32 && count_holds h.level h.count
      && (every (entry_holds t.order.code t.info (eqb h.level 0)) es && every (λ e. child_holds s h.level e.value) es)
      && place_holds t (eqb n t.root) h (room_of t.info es) && rising t.order.code es
  unfolding node_holds node_stands stands_on_disk node_of fits count_holds place_holds state_of
  node_parts =
      rw (
        ne_eqb h.dead 1 d,
        entries_are s (eqb h.level 0) h.level es,
        length_entries h.count l,
        marked_one h.placed h.block,
        marked_one h.named h.id,
      )

  pub node_body : records_hold h.count h.used l && node_holds s n (node_of h l) ≡ body_holds t n h l
      && every (λ e. child_holds s h.level e.value) es
  unfolding body_holds records_stand
  node_body =
      ap (λ (b : Bool). records_hold h.count h.used l && b) node_parts
      ∙ apart (leb h.level 32) (count_holds h.level h.count) (records_hold h.count h.used l)
      (every (entry_holds t.order.code t.info (eqb h.level 0)) es)
      (every (λ e. child_holds s h.level e.value) es) (place_holds t (eqb n t.root) h (room_of t.info es)) (rising t.order.code es)

module _ (t : Tree) (n : ℕ) (h : Head) (l : List ℕ) where
  -- what a body that holds grants
  body_stands : body_holds t n h l ≡ true → records_stand t.order.code t.info (eqb h.level 0) h.count h.used l ≡ true
  unfolding body_holds
  body_stands q =
      let r : Bool = records_stand t.order.code t.info (eqb h.level 0) h.count h.used l in
      let a : Bool = leb h.level 32 && count_holds h.level h.count in
      (and_split a r (and_split (a && r) (place_holds t (eqb n t.root) h (room_of t.info (entries_of h.count l))) q).0).1

  pub body_lies : body_holds t n h l ≡ true → records_length h.count l ≤ length l
  unfolding records_stand records_hold
  body_lies q = leb-true (records_length h.count l) (length l) (and_split _ _ (and_split _ _ (and_split _ _ (body_stands q)).0).0).0

  pub body_entries : body_holds t n h l ≡ true → every (entry_holds t.order.code t.info (eqb h.level 0)) (entries_of h.count l) ≡ true
  unfolding records_stand
  body_entries q =
      let a : Bool = records_hold h.count h.used l in
      let b : Bool = every (entry_holds t.order.code t.info (eqb h.level 0)) (entries_of h.count l) in
      (and_split a b (and_split (a && b) (rising t.order.code (entries_of h.count l)) (body_stands q)).0).1
