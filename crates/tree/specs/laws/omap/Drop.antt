-- Laws of a drop: the range of an id's versions is loaded and counted, then listed in the scratch, then removed. Assumes nothing.
use Rattle.std.specs.Prelude.{◌≡◌, refl, true, ◌&&◌, eqb, ℕ, ◌+◌, ◌*◌, ◌^◌, ◌≤◌, drop}
use Rattle.std.proofs.Math.Path.{sym, ap, ap₂}
use Rattle.std.proofs.Common.{◌∙◌, add-mul, mul_assoc, mul_left_comm, arith}
use mathlib.Core.List.{List, ◌++◌}
use Rattle.std.proofs.Math.ListN.{length}
use borrow.Author.Tests.{le-leb, eqb-true}
use Rattle.node.specs.Bytes.{splice}
use Rattle.node.specs.Order.{pair, pair_key}
use Rattle.node.specs.Entry.{Entry, every}
use Rattle.node.specs.Records.{entries_of, records_length, records_of}
use Rattle.node.specs.Result.{Result, ok, refused}
use Rattle.node.specs.laws.base.Results.{no_answer}
use Rattle.node.specs.laws.base.Tests.{and_left}
use Rattle.node.specs.laws.base.Bytes.{Bytes}
use Rattle.node.specs.laws.slot.Records.{Storables, entries_back, records_back}
use Rattle.node.specs.laws.base.Seal.{length_splice}
use Rattle.tree.specs.Lent as lending
use Rattle.tree.specs.Lent.{lent_of}
use Rattle.tree.specs.State.{State, node_at}
use Rattle.tree.specs.Load as load
use Rattle.tree.specs.Load.{unbounded}
use Rattle.tree.specs.Lookup.{Got, range_from}
use Rattle.tree.specs.Omap.{is_omap, versions_end, remove_all, dropped}
use Rattle.tree.specs.Workspace.{state_of}
use Rattle.tree.specs.Answers.{edited_of}
use Rattle.tree.specs.internal.Bank.{ReadyBy}
use Rattle.tree.specs.internal.Edits.{Trusts}
use Rattle.tree.specs.internal.Range.{most, at_most, sum_of, Counted, counted, ranged_of, range_held}
use Rattle.tree.specs.internal.Tree.{bounds_of}
use Rattle.tree.specs.internal.Undo.{Follows}
use Rattle.tree.specs.laws.slots.Tree.{used_nodes}
use Rattle.tree.specs.laws.slots.Undo.{follows_on}
use Rattle.tree.specs.laws.trust.Stands.{all, trusted_of}
use Rattle.tree.specs.laws.trust.Loads.{Loaded, loaded_trusted, range_loaded}
use Rattle.tree.specs.laws.room.Calls.{roomy_range}
use Rattle.tree.specs.laws.lookup.RangeSums.{range_weight, range_few}
use Rattle.tree.specs.laws.lookup.RangeHeld.{held_again, range_storable}
use Rattle.tree.specs.laws.omap.Listed.{Listed, keyed16, held_keyed, listed_as}
use Rattle.tree.specs.declared.editor.Tree.{Tree}
use Rattle.tree.specs.declared.lent.Lent.{Lent}
use Rattle.tree.specs.declared.range.Ranged.{Ranged}
use Rattle.std.specs.Prelude as std
use Rattle.std.specs.Prelude.{None, Ok, Err}
use Rattle.tree.specs.laws.remove.HandDown.{no_bounds}
use Rattle.node.specs.Refusals.{number_of}
use Rattle.node.specs.declared.refusal.Refusal.{Refusal}

-- ---- what was counted

counted_refused : (r : Result (Got Entry)) (x : ℕ) → refused x ≡ counted r → r ≡ refused x
unfolding counted
counted_refused (refused n) x e =
    let e' : ◌≡◌ {A = Result Counted} (refused x) (refused n) = e in
    let z : n ≡ x = cc in
    ap refused z
counted_refused (ok g) x e = no_answer x _ e

-- what the count is of
record Found (r : Result (Got Entry)) (c : Counted) : Type 0 where
  got : Got Entry
  is : r ≡ ok got
  state : c.state ≡ got.state
  sum : c.sum ≡ sum_of got.answer

counted_ok : (r : Result (Got Entry)) (c : Counted) → ok c ≡ counted r → Found r c
unfolding counted
counted_ok (refused n) c e = no_answer n c (sym e)
counted_ok (ok g) c e =
    let z : c ≡ record { state = g.state; sum = sum_of g.answer } = cc in
    record { got = g; is = refl; state = ap (λ (x : Counted). x.state) z; sum = ap (λ (x : Counted). x.sum) z }

list_room : (slots size : ℕ) → 2 * size + slots * (2 * size) ≡ (2 * slots + 2) * size
list_room slots size = omega (arith, add-mul (2 * slots) 2 size, mul_assoc 2 slots size, mul_left_comm slots 2 size)

-- ---- written out, the entries are listed there

module _ (es : List Entry) (s s' : List ℕ) (ss : Storables es) (e : s' ≡ splice s 0 (records_of es)) where
  list_is : s' ≡ records_of es ++ drop (0 + length (records_of es)) s
  unfolding splice
  list_is = e

  listed_entries : entries_of (length es) s' ≡ es
  listed_entries = ap (entries_of (length es)) list_is ∙ entries_back es (drop (0 + length (records_of es)) s) ss

  listed_within : length (records_of es) ≤ length s → records_length (length es) s' ≤ length s'
  listed_within w =
      let z : records_length (length es) s' ≡ length (records_of es) =
      ap (records_length (length es)) list_is ∙ records_back es (drop (0 + length (records_of es)) s) ss in
      omega (arith, z, ap length e ∙ length_splice s 0 (records_of es) (omega arith))

-- ---- the range of an id's versions

module _ (image : List ℕ) (l : Lent) (t : Tree) (h0 b0 : List ℕ) (id level : ℕ) (lo : List ℕ) (end : List (List ℕ))
    (ev : level ≡ (node_at (state_of l.size t h0 b0) t.root).level) (el : lo ≡ pair_key id 0)
    (eh : end ≡ versions_end id) (r : std.Result Ranged Refusal) (h1 b1 : List ℕ)
    (e : ranged_of l.size h1 b1 r ≡ counted (range_from level (lent_of image l) lo end (state_of l.size t h0 b0)
    (bounds_of (state_of l.size t h0 b0) (record { lower = None; upper = None })) t.root)) where
  abbrev L : lending.Lent
  L = lent_of image l

  abbrev s : State
  s = state_of l.size t h0 b0

  abbrev versions : Result (Got Entry)
  versions = range_from (node_at s s.root).level L (pair_key id 0) (versions_end id) s unbounded s.root

  range_is : range_from level L lo end s (bounds_of s (record { lower = None; upper = None })) t.root ≡ versions
  unfolding state_of
  range_is =
      ap (λ (j : ℕ). range_from j L lo end s (bounds_of s (record { lower = None; upper = None })) t.root) ev
      ∙ ap₂ (λ (x : List ℕ) (y : List (List ℕ)). range_from (node_at s t.root).level L x y s
      (bounds_of s (record { lower = None; upper = None })) t.root) el eh
      ∙ ap (λ (x : load.Bounds). range_from (node_at s t.root).level L (pair_key id 0) (versions_end id) s x t.root) (no_bounds s)

  answer : ranged_of l.size h1 b1 r ≡ counted versions
  answer = e ∙ ap counted range_is

  pub dropped_refused : (x : Refusal) → r ≡ Err x
      → edited_of l.size h1 b1 (Err x) ≡ dropped (lent_of image l) (state_of l.size t h0 b0) id
  unfolding edited_of ranged_of dropped
  dropped_refused x z =
      let y : versions ≡ refused (number_of x) = counted_refused versions (number_of x) (sym (ap (ranged_of l.size h1 b1) z) ∙ answer) in
      sym (rw y)

  module _ (c : Trusts image l t h0 b0) (v : Ranged) (z : r ≡ Ok v) (y : ReadyBy (λ r. r.tree) l.size l.slots h1 b1 r) where
    abbrev s1 : State
    s1 = state_of l.size v.tree h1 b1

    found : Found versions (record { state = s1; sum = record { count = v.count; length = v.length } })
    unfolding ranged_of
    found = counted_ok versions _ (sym (ap (ranged_of l.size h1 b1) z) ∙ answer)

    abbrev g : Got Entry
    g = found.got

    loaded : Loaded L all all s s1
    loaded = rw found.state ((range_loaded (node_at s s.root).level L all all (pair_key id 0) (versions_end id) s unbounded s.root
        (trusted_of L s c.trust).1).at g found.is)

    pub ranged_trusts : Trusts image l v.tree h1 b1
    unfolding lent_of
    ranged_trusts =
        record {
          ready = rw z at y;
          trust = loaded_trusted L s s1 c.trust loaded;
          roomy = rw found.state ((roomy_range L (pair_key id 0) (versions_end id) s c.trust c.roomy).at g found.is);
        }

    used_more : t.used ≤ v.tree.used
    used_more = omega (arith, loaded.loads.longer, used_nodes l.size t h0 b0, used_nodes l.size v.tree h1 b1)

    pub ranged_follows : (h2 b2 : List ℕ) → Follows l.size l.slots t.used h0 b0 h1 b1 → Follows l.size l.slots v.tree.used h1 b1 h2 b2
        → Follows l.size l.slots t.used h0 b0 h2 b2
    ranged_follows h2 b2 f f' = follows_on l.size l.slots t.used v.tree.used h0 b0 h1 b1 h2 b2 f f' used_more

    same_root : v.tree.root ≡ t.root
    unfolding state_of
    same_root = loaded.loads.root

    -- what was counted lies in the slots
    held : range_held level s1 lo end v.tree.root ≡ g.answer
    unfolding state_of
    held =
        ap₂ (λ (i j : ℕ). range_held i s1 lo end j) ev same_root
        ∙ ap₂ (λ (x : List ℕ) (w : List (List ℕ)). range_held (node_at s t.root).level s1 x w t.root) el eh
        ∙ ap (λ (x : State). range_held (node_at s t.root).level x (pair_key id 0) (versions_end id) t.root) found.state
        ∙ held_again L (pair_key id 0) (versions_end id) s g c.trust found.is

    abbrev es : List Entry
    es = range_held level s1 lo end v.tree.root

    count_is : v.count ≡ length es
    unfolding lent_of sum_of at_most
    count_is =
        let a : v.count ≡ at_most (length g.answer) = ap (λ x. x.count) found.sum in
        let n : length g.answer ≤ 2 ^ 29 = range_few L s (pair_key id 0) (versions_end id) g c.trust c.roomy found.is in
        a ∙ rw (le-leb (length g.answer) most (omega arith)) (sym (ap length held))

    weight : length (records_of es) ≤ l.slots * (2 * l.size)
    unfolding lent_of
    weight = rw held (range_weight L s (pair_key id 0) (versions_end id) g c.trust c.roomy found.is)

    pub ranged_room : (n : ℕ) → n + 2 * l.size ≡ (2 * l.slots + 2) * l.size
        → 0 + length (records_of (range_held level (state_of l.size v.tree h1 b1) lo end v.tree.root)) ≤ n
    ranged_room n w = omega (arith, weight, list_room l.slots l.size)

    module _ (bb : Bytes b1) (sc sc' : List ℕ) (w : length sc + 2 * l.size ≡ (2 * l.slots + 2) * l.size)
        (eo : sc' ≡ splice sc 0 (records_of (range_held level (state_of l.size v.tree h1 b1) lo end v.tree.root))) where
      stored : Storables es
      stored = range_storable l.size l.slots v.tree h1 b1 ranged_trusts.ready bb level lo end v.tree.root

      pub ranged_within : records_length v.count sc' ≤ length sc'
      ranged_within = rw count_is (listed_within es sc sc' stored eo (let z = ranged_room (length sc) w in omega arith))

      -- of an object map, each listed key has 16 bytes
      module _ (f : is_omap (state_of l.size t h0 b0) ≡ true) where
        same_order : v.tree.order.code ≡ pair
        unfolding is_omap state_of
        same_order =
            loaded.loads.order ∙ eqb-true t.order.code pair (and_left (eqb t.order.code pair) (eqb t.info.key_size 16)
            (and_left (eqb t.order.code pair && eqb t.info.key_size 16) (eqb t.info.val_size 16) f))

        keyed : every keyed16 es ≡ true
        keyed = held_keyed L l.size v.tree h1 b1 ranged_trusts.trust same_order level lo end v.tree.root

        pub ranged_listed : Listed 0 v.count sc'
        ranged_listed = rw count_is (listed_as es sc sc' 0 stored keyed (let z = ranged_room (length sc) w in omega arith) eo)

      listed : entries_of v.count sc' ≡ g.answer
      listed = ap (λ (j : ℕ). entries_of j sc') count_is ∙ listed_entries es sc sc' stored eo ∙ held

      pub dropped_answer : (x : Result State)
          → x ≡ remove_all (lent_of image l) (entries_of v.count sc') (state_of l.size v.tree h1 b1)
          → x ≡ dropped (lent_of image l) (state_of l.size t h0 b0) id
      unfolding dropped
      dropped_answer x d = d ∙ ap₂ (remove_all L) listed found.state ∙ sym (rw found.is)

pub ruleset dropped_laws = (dropped_refused, ranged_follows, ranged_within, dropped_answer)
