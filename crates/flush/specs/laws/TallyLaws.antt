-- Laws of the sums that flush counts first: they stop above a limit, and tell whether it is passed. Assumes nothing.
use Rattle.std.specs.Prelude.{◌≡◌, refl, List, [], ◌∷◌, Bool, true, false, cond, ◌&&◌, length, get_or, drop, eqb, leb}
use Rattle.std.proofs.Common.{sym, ◌∙◌, drop_of_length-le, eq-eqb, ne_eqb, leb-true, leb-false}
use Rattle.std.proofs.Math.Path.{ap}
use Prim.Native.Nat.{ℕ, zero, suc, ◌+◌, ◌-◌, ◌*◌, ◌/◌, ◌≤◌, ◌<◌, ◌^◌}
use native.Mathlib.Omega.{arith}
use Rattle.tree.specs.Format.{Entry, Val, MemNode, Head, head_at, marked, node_of, records_length, entry_of, entries_of, data_space, packed_length}
use Rattle.tree.specs.State.{State, no_node, node_at}
use Rattle.tree.specs.Workspace.{slot_bytes, state_of}
use Rattle.tree.specs.internal.Bank.{node_in, live, Ready}
use Rattle.tree.specs.internal.Kids.{slots_of, kid_means}
use Rattle.tree.specs.laws.base.Node.{by_test}
use Rattle.tree.specs.laws.base.NodeSlots.{entries_head, length_entries}
use Rattle.tree.specs.laws.slots.Block.{bool_number}
use Rattle.tree.specs.laws.state.State.{by_val}
use Rattle.tree.specs.laws.slots.Tree.{node_in_lem, node_out}
use Rattle.tree.specs.declared.editor.Tree.{Tree}
use Rattle.flush.specs.Flush.{sum_kids, sum_from, fill}
use Rattle.flush.specs.declared.flush.Wanted.{Wanted}
use Rattle.flush.specs.internal.Counts.{dirty_one, id_one, Counted}
use Rattle.std.specs.Prelude.{Option, Some, None, option_to_list}
use Rattle.std.specs.Int.{from_bool}

-- ---- one node

module _ (b : Bool) (h : Head) (s : Wanted) where
  pub wanted_clean : (h.dirty ≡ 1 → ⊥) → s.dirty ≡ s.dirty + cond (eqb h.dirty 1) 1 0
  wanted_clean d = rw (ne_eqb h.dirty 1 d) (omega arith)

  pub wanted_none : (h.dirty ≡ 1 → ⊥) → s.ids ≡ s.ids + cond (eqb h.dirty 1 && b && eqb (length (marked h.named h.id)) 0) 1 0
  wanted_none d = rw (ne_eqb h.dirty 1 d) (omega arith)

  pub wanted_dirty : h.dirty ≡ 1 → s.dirty + 1 ≡ s.dirty + cond (eqb h.dirty 1) 1 0
  wanted_dirty d = rw (eq-eqb h.dirty 1 d)

  pub wanted_ids : h.dirty ≡ 1 → (own : Option ℕ) (new : Bool) (k : ℕ) → option_to_list own ≡ marked h.named h.id
      → new ≡ b && eqb (length (option_to_list own)) 0 → k ≡ from_bool new
      → s.ids + k ≡ s.ids + cond (eqb h.dirty 1 && b && eqb (length (marked h.named h.id)) 0) 1 0
  wanted_ids d own new k e f g = rw (g, bool_number new, f, e, eq-eqb h.dirty 1 d)

  pub wanted_fits : (t : Bool) (k : ℕ) → s.ids < 2 ^ 40 → k ≡ from_bool t → s.ids + k < 2 ^ 64
  wanted_fits true k l e = omega arith
  wanted_fits false k l e = omega arith

  pub own_most : (limit : ℕ) (u : Wanted) → s.dirty ≤ limit → u.dirty ≡ s.dirty + cond (eqb h.dirty 1) 1 0 → u.dirty ≤ limit + 1
  own_most limit u l e = by_test (eqb h.dirty 1) (λ t. let q = rw t at e in omega arith) (λ t. let q = rw t at e in omega arith)

  pub own_few : (u : Wanted) → s.ids ≤ s.dirty → u.dirty ≡ s.dirty + cond (eqb h.dirty 1) 1 0
      → u.ids ≡ s.ids + cond (eqb h.dirty 1 && b && eqb (length (marked h.named h.id)) 0) 1 0 → u.ids ≤ u.dirty
  own_few u l e f =
      by_test (eqb h.dirty 1)
      (λ t. by_test (b && eqb (length (marked h.named h.id)) 0)
      (λ p. let x = rw t at e in let y = rw (t, p) at f in omega arith)
      (λ p. let x = rw t at e in let y = rw (t, p) at f in omega arith))
      (λ t. let x = rw t at e in let y = rw t at f in omega arith)

dirty_of : (h : Head) (l : List ℕ) → dirty_one (node_of h l) ≡ cond (eqb h.dirty 1) 1 0
unfolding dirty_one node_of
dirty_of h l = refl

id_of_lem : (b : Bool) (h : Head) (l : List ℕ) → id_one b (node_of h l) ≡ cond (eqb h.dirty 1 && b && eqb (length (marked h.named h.id)) 0) 1 0
unfolding id_one node_of
id_of_lem b h l = refl

-- ---- the sums of a slot

sum_out : (f : MemNode → ℕ) (d : ℕ) (s : State) (n : ℕ) → node_at s n ≡ no_node → f no_node ≡ 0 → sum_from f d s n ≡ 0
unfolding sum_from sum_kids no_node
sum_out f zero s n e z = rw e z
sum_out f (suc d) s n e z = rw (e, z)

dirty_no : dirty_one no_node ≡ 0
unfolding dirty_one no_node
dirty_no = refl

id_no : (b : Bool) → id_one b no_node ≡ 0
unfolding id_one no_node
id_no b = refl

-- loaded children among entries: a value's slots
kid_sum : (g : ℕ → ℕ) (e : Entry) (es : List Entry) (c : ℕ) → slots_of e.value ≡ c ∷ [] → sum_kids g (e ∷ es) ≡ g c + sum_kids g es
unfolding sum_kids slots_of
kid_sum g e es c q =
    by_val e.value
    (λ p. never₁ c (rw p at q))
    (λ b p. never₁ c (rw p at q))
    (λ r p. never₁ c (rw p at q))
    (λ k p. let z : k ≡ c = only_one k c (rw p at q) in rw (p, z))
  where
    never₁ : {A : Type 0} (c : ℕ) → ◌≡◌ {A = List ℕ} [] (c ∷ []) → A
    never₁ c q = absurd (omega (arith, ap length q))

    only_one : (a b : ℕ) → ◌≡◌ {A = List ℕ} (a ∷ []) (b ∷ []) → a ≡ b
    only_one a b q = ap (λ (l : List ℕ). get_or l 0 0) q

kid_none : (g : ℕ → ℕ) (e : Entry) (es : List Entry) → slots_of e.value ≡ [] → sum_kids g (e ∷ es) ≡ sum_kids g es
unfolding sum_kids slots_of
kid_none g e es q =
    by_val e.value
    (λ p. rw p (omega arith))
    (λ b p. rw p (omega arith))
    (λ r p. rw p (omega arith))
    (λ c p. absurd (omega (arith, ap length (rw p at q))))

loaded_slot : (k : Option ℕ) (kid : ℕ) (v : Val) → kid_means k ≡ slots_of v → k ≡ Some kid → slots_of v ≡ kid ∷ []
unfolding kid_means
loaded_slot k kid v e h = sym e ∙ rw h

loaded_none : (k : Option ℕ) (v : Val) → kid_means k ≡ slots_of v → k ≡ None → slots_of v ≡ []
unfolding kid_means
loaded_none k v e h = sym e ∙ rw h

-- ---- the records of a slot

pub words_room : (size slots used n : ℕ) (heads bytes : List ℕ) → Ready size slots used heads bytes → n < used → (n + 1) * 9 ≤ length heads
words_room size slots used n heads bytes r h = omega (arith, r.words, r.within)

-- ---- count_from

module _ (limit size n : ℕ) (t : Tree) (heads bytes : List ℕ) where
  abbrev s₀ : State
  s₀ = state_of size t heads bytes

  abbrev Sums : ℕ → Wanted → Wanted → ℕ → ℕ → Type 0
  Sums d s r more names = Counted limit (sum_from dirty_one d (state_of size t heads bytes) n) (sum_from (id_one t.by_id) d
      (state_of size t heads bytes) n) s r
      more names

  pub count_out : (d : ℕ) (s : Wanted) → t.used ≤ n → s.dirty ≤ limit + 1 → s.ids ≤ s.dirty → Sums d s s 0 0
  count_out d s h k l =
      let o = node_out size t heads bytes n h in
      rw (sum_out dirty_one d s₀ n o dirty_no, sum_out (id_one t.by_id) d s₀ n o (id_no t.by_id))
      (record { most = k; few = l; nodes = λ q. refl; ids = λ q. refl; over = λ q. omega arith })

  pub count_full : (d : ℕ) (s : Wanted) → limit < s.dirty → s.dirty ≤ limit + 1 → s.ids ≤ s.dirty → Sums d s s 0 0
  count_full d s h k l = record {
    most = k;
    few = l;
    nodes = λ q. absurd (omega arith);
    ids = λ q. absurd (omega arith);
    over = λ q. omega arith;
  }

  module _ (hn : n < t.used) (h : Head) (eh : h ≡ live (head_at heads n)) (s u : Wanted) (hs : s.dirty ≤ limit) (hf : s.ids ≤ s.dirty)
      (eu : u.dirty ≡ s.dirty + cond (eqb h.dirty 1) 1 0)
      (ei : u.ids ≡ s.ids + cond (eqb h.dirty 1 && t.by_id && eqb (length (marked h.named h.id)) 0) 1 0) where
    own_dirty : dirty_one (node_at (state_of size t heads bytes) n) ≡ cond (eqb h.dirty 1) 1 0
    unfolding node_in live
    own_dirty = ap dirty_one (node_in_lem size t heads bytes n hn) ∙ dirty_of (head_at heads n) (slot_bytes size bytes n) ∙ rw eh

    own_id : id_one t.by_id (node_at (state_of size t heads bytes) n) ≡ cond (eqb h.dirty 1 && t.by_id && eqb (length (marked h.named h.id)) 0) 1 0
    unfolding node_in live
    own_id = ap (id_one t.by_id) (node_in_lem size t heads bytes n hn) ∙ id_of_lem t.by_id (head_at heads n) (slot_bytes size bytes n) ∙ rw eh

    dirty_one_lem : cond (eqb h.dirty 1) 1 0 ≤ 1
    dirty_one_lem = by_test (eqb h.dirty 1) (λ q. rw q (omega arith)) (λ q. rw q (omega arith))

    id_one_lem : cond (eqb h.dirty 1 && t.by_id && eqb (length (marked h.named h.id)) 0) 1 0 ≤ cond (eqb h.dirty 1) 1 0
    id_one_lem = by_test (eqb h.dirty 1)
        (λ q. by_test (t.by_id && eqb (length (marked h.named h.id)) 0) (λ p. rw (q, p) (omega arith)) (λ p. rw (q, p) (omega arith)))
        (λ q. rw q (omega arith))

    -- the node itself is counted; more is what lies below
    counted_own : (nodes ids more names : ℕ) → nodes ≡ cond (eqb h.dirty 1) 1 0 + more
        → ids ≡ cond (eqb h.dirty 1 && t.by_id && eqb (length (marked h.named h.id)) 0) 1 0 + names → Counted limit nodes ids s u more names
    counted_own nodes ids more names p q = record {
      most = omega (arith, dirty_one_lem);
      few = omega (arith, id_one_lem);
      nodes = λ z. omega arith;
      ids = λ z. omega arith;
      over = λ z. omega arith;
    }

    pub count_leaf : (d : ℕ) → d ≡ 0 → Sums d s u 0 0
    unfolding sum_from
    count_leaf d z = rw z (counted_own (dirty_one (node_at s₀ n)) (id_one t.by_id (node_at s₀ n)) 0 0 (omega (arith, own_dirty)) (omega
        (arith, own_id)))

    module _ (count : ℕ) (part : List ℕ) (en : (node_at (state_of size t heads bytes) n).entries ≡ entries_of count part) (d : ℕ) (dn : d ≡ 0 → ⊥)
        (r : Wanted) where
      sum_deep : (f : MemNode → ℕ) (e : ℕ) → d ≡ suc e
          → sum_from f d s₀ n ≡ f (node_at s₀ n) + sum_kids (sum_from f (d - 1) s₀) (entries_of count part)
      unfolding sum_from
      sum_deep f e z = let k : suc e - 1 ≡ e = omega arith in rw (← en, z, k)

      -- the node, then its children
      pub count_whole : Counted limit (sum_kids (sum_from dirty_one (d - 1) (state_of size t heads bytes)) (entries_of count part))
          (sum_kids (sum_from (id_one t.by_id) (d - 1) (state_of size t heads bytes)) (entries_of count part)) u r 0 0 → Sums d s r 0 0
      count_whole c =
          let z : d ≡ suc (d - 1) = omega arith in
          let a = sum_deep dirty_one (d - 1) z in
          let b = sum_deep (id_one t.by_id) (d - 1) z in
          let o = own_dirty in
          let q = own_id in
          record {
            most = c.most;
            few = c.few;
            nodes = λ y. let x = c.nodes y in omega arith;
            ids = λ y. let x = c.ids y in omega arith;
            over = λ y. let x = c.over y in omega arith;
          }

pub count_start : (limit count : ℕ) (part : List ℕ) (f g : ℕ → ℕ) (u : Wanted) → u.dirty ≤ limit + 1 → u.ids ≤ u.dirty
    → Counted limit (sum_kids f (entries_of count part)) (sum_kids g (entries_of count part)) u u (sum_kids f (drop 0 (entries_of count part)))
    (sum_kids g (drop 0 (entries_of count part)))
count_start limit count part f g u h k = record { most = h; few = k; nodes = λ q. refl; ids = λ q. refl; over = λ q. omega arith }

-- a turn of the loop: i records are passed
module _ (limit nodes ids count i at : ℕ) (part : List ℕ) (f g : ℕ → ℕ) (s u : Wanted) (hi : i < count) (ea : at ≡ records_length i part)
    (k : Option ℕ) (ek : kid_means k ≡ slots_of (entry_of (drop at part)).value)
    (c : Counted limit nodes ids s u (sum_kids f (drop i (entries_of count part))) (sum_kids g (drop i (entries_of count part)))) where
  next_is : drop i (entries_of count part) ≡ entry_of (drop at part) ∷ drop (i + 1) (entries_of count part)
  next_is = entries_head i count at part hi ea

  pub count_skip : k ≡ None
      → Counted limit nodes ids s u (sum_kids f (drop (i + 1) (entries_of count part))) (sum_kids g (drop (i + 1) (entries_of count part)))
  count_skip h =
      let z = loaded_none k (entry_of (drop at part)).value ek h in
      let c' = rw (
        next_is,
        kid_none f (entry_of (drop at part)) (drop (i + 1) (entries_of count part)) z,
        kid_none g (entry_of (drop at part)) (drop (i + 1) (entries_of count part)) z,
      ) at c in
      c'

  pub count_turn : (kid : ℕ) (r : Wanted) → k ≡ Some kid → Counted limit (f kid) (g kid) u r 0 0
      → Counted limit nodes ids s r (sum_kids f (drop (i + 1) (entries_of count part))) (sum_kids g (drop (i + 1) (entries_of count part)))
  count_turn kid r h q =
      let z = loaded_slot k kid (entry_of (drop at part)).value ek h in
      let a : sum_kids f (drop i (entries_of count part)) ≡ f kid + sum_kids f (drop (i + 1) (entries_of count part)) =
      ap (sum_kids f) next_is ∙ kid_sum f (entry_of (drop at part)) (drop (i + 1) (entries_of count part)) kid z in
      let b : sum_kids g (drop i (entries_of count part)) ≡ g kid + sum_kids g (drop (i + 1) (entries_of count part)) =
      ap (sum_kids g) next_is ∙ kid_sum g (entry_of (drop at part)) (drop (i + 1) (entries_of count part)) kid z in
      record {
        most = q.most;
        few = q.few;
        nodes = λ w. let y = q.nodes w in let x = c.nodes (omega arith) in omega arith;
        ids = λ w. let y = q.nodes w in let y' = q.ids w in let x = c.ids (omega arith) in omega arith;
        over = λ w. by_test (leb u.dirty limit)
            (λ p. let p' = leb-true u.dirty limit p in let y = q.over w in let x = c.nodes p' in omega arith)
            (λ p. c.over (leb-false u.dirty limit p));
      }

pub count_end : (limit nodes ids count i : ℕ) (part : List ℕ) (f g : ℕ → ℕ) (s u : Wanted) → count ≤ i
    → Counted limit nodes ids s u (sum_kids f (drop i (entries_of count part))) (sum_kids g (drop i (entries_of count part)))
    → Counted limit nodes ids s u 0 0
unfolding sum_kids
count_end limit nodes ids count i part f g s u h c =
    let l : length (entries_of count part) ≤ i = omega (arith, length_entries count part) in
    let z : drop i (entries_of count part) ≡ [] = drop_of_length-le (entries_of count part) l in
    let c' = rw z at c in
    c'

-- ---- the root's fill

pub fill_is : (size : ℕ) (t : Tree) (heads bytes : List ℕ) (n space : ℕ)
    → n ≡ packed_length t.info true (node_at (state_of size t heads bytes) t.root).level (node_at (state_of size t heads bytes) t.root).entries
    → space ≡ data_space t.info.node_size true → n * 100 / space ≡ fill (state_of size t heads bytes)
unfolding fill state_of
fill_is size t heads bytes n space e f = rw (e, f)

pub ruleset wanting = (wanted_clean, wanted_none, wanted_dirty, wanted_ids, wanted_fits)

pub ruleset tallying = (words_room, count_out, count_full, count_leaf)
