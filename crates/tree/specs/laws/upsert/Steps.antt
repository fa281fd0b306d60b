-- An upsert on the way that it has gone: each step finds what it asks, and the steps are the definition's. Assumes nothing.
use Rattle.std.specs.Prelude.{◌≡◌, refl, Bool, true, cond, not, ◌||◌}
use Rattle.std.proofs.Math.Path.{sym, ap, subst}
use Rattle.std.proofs.Common.{ap₂, ◌∙◌, arith}
use mathlib.Core.List.{List, [], ◌∷◌}
use Rattle.std.proofs.Math.Bool.{false}
use Prim.Native.Nat.{ℕ, suc, ◌+◌, ◌-◌, ◌*◌, ◌^◌, ◌≤◌, ◌<◌}
use Rattle.std.proofs.Math.ListN.{length}
use Rattle.std.proofs.Math.Dec.{ltb}
use borrow.Author.Tests.{ltb-true, ltb-false, lt-leb, not-true, not-false}
use Rattle.node.specs.Entry.{Entry, Val, value_length, every}
use Rattle.node.specs.Find.{key_at, place_of, is_there}
use Rattle.node.specs.Fit.{Sized}
use Rattle.node.specs.Result.{Result, refused}
use Rattle.node.specs.Slot.{head_at, is_child, entry_holds}
use Rattle.node.specs.declared.head.Head.{Head}
use Rattle.node.specs.laws.base.Tests.{by_test, and_left}
use Rattle.node.specs.laws.base.Bytes.{Bytes}
use Rattle.tree.specs.Lent as lent
use Rattle.tree.specs.Lent.{lent_of}
use Rattle.tree.specs.State.{State, node_at}
use Rattle.tree.specs.Hold.{numbers_hold}
use Rattle.tree.specs.Lookup.{Step, leaf_of}
use Rattle.tree.specs.Edit.{touch, index_keys, cuts}
use Rattle.tree.specs.Upsert.{put_entry, put_in_leaf, upsert_on}
use Rattle.tree.specs.Trust.{stand_together, trusted}
use Rattle.tree.specs.Workspace.{state_of}
use Rattle.tree.specs.Answers.{edited_of}
use Rattle.tree.specs.internal.Bank.{live}
use Rattle.tree.specs.internal.Room.{Roomy}
use Rattle.tree.specs.internal.Way.{nth_step, steps_of, steps_in, WayIn, Touched}
use Rattle.tree.specs.internal.Found.{spot_found, FoundAt}
use Rattle.tree.specs.internal.Index.{steps_from, IndexRoom, Rewritten}
use Rattle.tree.specs.internal.Edits.{CutsFit}
use Rattle.tree.specs.internal.Upserting.{way_gone, Gone}
use Rattle.tree.specs.laws.state.Entries.{put_length}
use Rattle.tree.specs.laws.slots.Tree.{used_nodes}
use Rattle.tree.specs.laws.load.Fetch.{count_is}
use Rattle.tree.specs.laws.trust.Stands.{Stands, all, stands_used, Held, trusted_of}
use Rattle.tree.specs.laws.trust.Loads.{Down, WayLoaded, way_root, trusted_way}
use Rattle.tree.specs.laws.trust.Edit.{falls_used, down_falls, down_leaf}
use Rattle.tree.specs.laws.trust.Upsert.{entry_fits_lem}
use Rattle.tree.specs.laws.state.OneLeaf.{touch_marks}
use Rattle.tree.specs.laws.refusal1.Ready.{numbers_sized}
use Rattle.tree.specs.laws.room.Calls.{roomy_way}
use Rattle.tree.specs.laws.refusal1.Roomy.{node_weight}
use Rattle.tree.specs.laws.room.Weight.{weight, bytes_in, slim, large_refusal}
use Rattle.tree.specs.laws.room.Edit.{put_large_new, put_large_old}
use Rattle.tree.specs.laws.room.TooLarge.{upsert_large}
use Rattle.tree.specs.laws.lookup.GetCall.{steps_long, leaf_last}
use Rattle.tree.specs.laws.cut.IndexKeys.{from_start}
use Rattle.tree.specs.laws.upsert.PutInLeaf.{found_again, lent_means}
use Rattle.tree.specs.laws.upsert.WayKept.{touch_dead}
use Rattle.tree.specs.laws.upsert.Parts.{cuts_slots, short_keys, there_long, on_steps}
use Rattle.tree.specs.laws.upsert.Fit.{upsert_index_room, upsert_cuts_fit}
use Rattle.tree.specs.declared.editor.Tree.{Tree}
use Rattle.tree.specs.declared.floor.Spot.{Spot}
use Rattle.tree.specs.declared.lent.Lent.{Lent}
use Rattle.std.specs.Prelude as std
use Rattle.std.specs.Prelude.{Err, is_ok}
use Rattle.node.specs.Refusals.{number_of}
use Rattle.node.specs.declared.refusal.Refusal.{Refusal}
use Rattle.node.specs.declared.refusal.Refusal.TheVariants as is
use Rattle.tree.specs.declared.editor.Position as code
use Rattle.tree.specs.laws.slots.FoundAt.{found_self}
use Rattle.tree.specs.laws.slots.Undo.{handed_back, follows_same}

module _ (l : Lent) (t : Tree) (h0 b0 : List ℕ) (way : List code.Position) (key : List ℕ) (v : Val) (g : Gone l t h0 b0 way key v) where
  abbrev s : State
  s = state_of l.size t h0 b0

  abbrev ps : List Step
  ps = steps_in way

  abbrev m : lent.Lent
  m = lent_of g.image l

  loaded : WayLoaded (lent_of g.image l) all all g.from g.from.root s ps
  loaded = (way_root m g.from key (trusted_of m g.from g.trust).1).at (way_gone l.size t h0 b0 way) g.went

  stands : Stands all all s
  stands = loaded.loaded.stands

  down : Down s ps
  down = loaded.down

  trust : trusted m s ≡ true
  trust = (trusted_way m g.from key g.trust).at (way_gone l.size t h0 b0 way) g.went

  held : Held m s
  held = (trusted_of m s trust).0

  size_is : s.info.node_size ≡ l.size
  unfolding lent_of
  size_is = held.node

  sized : Sized s.info
  unfolding trusted
  sized = numbers_sized m s (and_left (numbers_hold m s) (stand_together s) trust)

  roomy : Roomy (2 * l.size) s
  unfolding lent_of
  roomy = (roomy_way m g.from key g.trust g.roomy).at (way_gone l.size t h0 b0 way) g.went

  fit : entry_holds s.order s.info true (record { key = key; value = v }) ≡ true
  fit = let a = loaded.loaded.loads in rw (a.order, a.info) (entry_fits_lem g.from key v g.fits).0

  plain : is_child v ≡ false
  plain = (entry_fits_lem g.from key v g.fits).1

  -- a key that a block has room for
  pub gone_short : 4 + length key + value_length v + 56 ≤ l.size → length key < 2 ^ 16
  gone_short k = omega (arith, g.ready.most)

  pub on_small : (b : Bool) (len : ℕ) → b ≡ ltb l.size (4 + length key + len + 56) → b ≡ false → len ≡ value_length v
      → 4 + length key + value_length v + 56 ≤ l.size
  on_small b len eb q k = let z = ltb-false l.size (4 + length key + len + 56) (sym eb ∙ q) in omega arith

  -- ---- the way

  pub gone_some : 1 ≤ length way
  gone_some = let z = ap length loaded.steps in omega (arith, steps_long way (length way))

  pub gone_within : length way - 1 < length way
  gone_within = omega (arith, gone_some)

  leaf_at : leaf_of ps ≡ (nth_step way (length way - 1)).slot
  unfolding steps_of
  leaf_at =
      let z : length way ≡ suc (length way - 1) = omega (arith, gone_some) in
      ap (λ (k : ℕ). leaf_of (steps_of way k)) z
      ∙ leaf_last (steps_of way (length way - 1)) (record {
        slot = (nth_step way (length way - 1)).slot;
        child = (nth_step way (length way - 1)).index;
      })

  pub gone_way : WayIn t.used way
  gone_way =
      record {
        slot = λ j h. omega (
          arith,
          used_nodes l.size t h0 b0,
          falls_used s ps (down_falls all all s ps stands down) (nth_step way j).slot
              (on_steps way (length way) j h),
        );
      }

  pub gone_root : t.root < t.used
  unfolding state_of
  gone_root = omega (arith, used_nodes l.size t h0 b0, stands_used all all (state_of l.size t h0 b0) stands)

  pub gone_leaf : (nth_step way (length way - 1)).slot < t.used
  gone_leaf = gone_way.slot (length way - 1) (omega (arith, gone_some))

  pub gone_words : ((nth_step way (length way - 1)).slot + 1) * 9 ≤ length h0
  gone_words = omega (arith, gone_leaf, g.ready.words, g.ready.within)

  down₀ : Down s (steps_from way 0 (length way))
  down₀ = subst (Down s) (from_start way (length way)) down

  module _ (n : ℕ) (en : n ≡ (nth_step way (length way - 1)).slot) where
    leaf_n : leaf_of ps ≡ n
    leaf_n = leaf_at ∙ sym en

    pub leaf_used : n < t.used
    leaf_used = rw en gone_leaf

    leaf_live : (node_at s n).dead ≡ false
    leaf_live = subst (λ (k : ℕ). (node_at s k).dead ≡ false) leaf_n (down_leaf s ps down).0

    -- ---- touched

    module _ (h1 b1 : List ℕ) (q : Touched l.size l.slots t way h0 b0 h1 b1) where
      state₁ : state_of l.size t h1 b1 ≡ touch ps s
      state₁ = q.state

      entries₁ : (node_at (state_of l.size t h1 b1) n).entries ≡ (node_at s n).entries
      entries₁ = ap (λ (u : State). (node_at u n).entries) state₁ ∙ (touch_marks ps s).entries n

      pub on_found : (f : std.Result Spot Spot) → FoundAt l.size (state_of l.size t h0 b0) h0 b0 n key f
          → FoundAt l.size (state_of l.size t h1 b1) h1 b1 n key f
      on_found f a = found_again l.size l.slots n t h0 b0 h1 b1 key f g.ready q.ready leaf_used a entries₁

      pub on_alive : (node_at (state_of l.size t h1 b1) n).dead ≡ false
      on_alive = ap (λ (u : State). (node_at u n).dead) state₁ ∙ touch_dead ps s n ∙ leaf_live

      pub on_room : 4 + length key + value_length v + 56 ≤ l.size
          → (live (head_at h1 n)).used + (4 + length key + value_length v) ≤ 4 * l.size
      on_room k =
          let a : weight (node_at (state_of l.size t h1 b1) n).entries ≡ weight (node_at s n).entries = ap weight entries₁ in
          omega (arith, node_weight l.size l.slots t h1 b1 q.ready n leaf_used, roomy.most n leaf_live)

      -- ---- the entry put

      module _ (t2 : Tree) (h2 b2 : List ℕ) (a : state_of l.size t2 h2 b2 ≡ put_in_leaf (state_of l.size t h1 b1) n key v)
          (u : t2.used ≡ t.used) where
        state₂ : state_of l.size t2 h2 b2 ≡ put_in_leaf (touch ps s) (leaf_of ps) key v
        state₂ = a ∙ ap (λ (y : State). put_in_leaf y n key v) state₁ ∙ ap (λ (k : ℕ). put_in_leaf (touch ps s) k key v) (sym leaf_n)

        pub on_way_lem : WayIn t2.used way
        on_way_lem = rw u gone_way

        pub on_index : (scratch : ℕ) → Bytes b0 → 4 + length key + value_length v + 56 ≤ l.size → 2 * l.size ≤ scratch
            → IndexRoom l.size t2 h2 b2 way scratch
        unfolding lent_of
        on_index scratch k e z =
            upsert_index_room (lent_of [] l) key v s way stands down₀ roomy (omega (arith, g.ready.most)) (omega arith)
            (short_keys l.size l.slots t h0 b0 g.ready k) scratch z t2 h2 b2
            (subst (λ (xs : List Step). state_of l.size t2 h2 b2 ≡ put_in_leaf (touch xs s) (leaf_of xs) key v) (from_start way (length way)) state₂)

        -- ---- index keys set

        module _ (h3 b3 : List ℕ) (w : Rewritten l.size l.slots t2 h2 b2 h3 b3 (index_keys (steps_in way)
            (state_of l.size t2 h2 b2))) where
          state₃ : state_of l.size t2 h3 b3 ≡ index_keys ps (put_in_leaf (touch ps s) (leaf_of ps) key v)
          state₃ = w.state ∙ ap (index_keys ps) state₂

          pub on_cuts : CutsFit (lent_of [] l) (state_of l.size t2 h3 b3) way
          unfolding lent_of
          on_cuts =
              subst (λ (y : State). CutsFit (lent_of [] l) y way)
              (sym (subst (λ (xs : List Step). state_of l.size t2 h3 b3 ≡ index_keys xs (put_in_leaf (touch xs s) (leaf_of xs) key v))
              (from_start way (length way)) state₃))
              (upsert_cuts_fit (lent_of [] l) key v s way stands down₀ roomy sized size_is)

          pub on_done : (r : Result State) → r ≡ cuts (lent_of [] l) [] (steps_in way) (state_of l.size t2 h3 b3)
              → r ≡ cuts (lent_of [] l) [] (steps_in way) (index_keys (steps_in way)
              (put_in_leaf (touch (steps_in way) (state_of l.size t h0 b0)) n key v))
          on_done r e =
              e ∙ ap (cuts (lent_of [] l) [] (steps_in way))
              (state₃ ∙ ap (λ (k : ℕ). index_keys ps (put_in_leaf (touch ps s) k key v)) leaf_n)

    -- ---- refused, or put

    module _ (f : std.Result Spot Spot) (a : FoundAt l.size (state_of l.size t h0 b0) h0 b0 n key f) (found : Bool) (ef : found ≡ is_ok f) (c : Bool)
        (ec : c ≡ (found || ltb t.info.key_count (2 ^ 64 - 1))) where
      there_is : is_there s.order key (node_at s (leaf_of ps)).entries ≡ found
      there_is = ap (λ (k : ℕ). is_there s.order key (node_at s k).entries) leaf_n ∙ sym a.there ∙ sym ef

      pub on_slot : (spot_found f).slot ≡ (nth_step way (length way - 1)).slot
      on_slot = a.slot ∙ en

      passes : (is_there s.order key (node_at s (leaf_of ps)).entries || ltb s.info.key_count (2 ^ 64 - 1)) ≡ c
      unfolding state_of
      passes = ap (λ (b : Bool). b || ltb t.info.key_count (2 ^ 64 - 1)) there_is ∙ sym ec

      pub on_count : not c ≡ true
          → edited_of l.size h0 b0 (Err is.Count) ≡ upsert_on (lent_of [] l) key v (way_gone l.size t h0 b0 way)
      unfolding edited_of upsert_on
      on_count z = sym (rw (passes, not-true c z))

      module _ (z : not c ≡ false) where
        on_passed : upsert_on (lent_of [] l) key v (way_gone l.size t h0 b0 way)
            ≡ cuts (lent_of [] l) [] ps (index_keys ps (put_in_leaf (touch ps s) (leaf_of ps) key v))
        unfolding upsert_on
        on_passed = rw (passes, not-false c z)

        pub on_new : is_ok f ≡ false → t.info.key_count < 2 ^ 64 - 1
        on_new e =
            let y : c ≡ ltb t.info.key_count (2 ^ 64 - 1) = rw (ef ∙ e) at ec in
            ltb-true t.info.key_count (2 ^ 64 - 1) (sym y ∙ not-false c z)

        pub on_put : (r : Result State) → r ≡ cuts (lent_of [] l) [] (steps_in way) (index_keys (steps_in way)
            (put_in_leaf (touch (steps_in way) (state_of l.size t h0 b0)) (spot_found f).slot key v))
            → r ≡ upsert_on (lent_of [] l) key v (way_gone l.size t h0 b0 way)
        on_put r e =
            e ∙ ap (λ (k : ℕ). cuts (lent_of [] l) [] ps (index_keys ps (put_in_leaf (touch ps s) k key v))) (a.slot ∙ sym leaf_n) ∙ sym on_passed

        abbrev es : List Entry
        es = (node_at s (leaf_of ps)).entries

        abbrev e : Entry
        e = record { key = key; value = v }

        -- too large for any node: the cut of the leaf refuses it
        large_cut : every (slim (s.info.node_size - 56)) (put_entry s.order e es) ≡ false
            → cuts (lent_of [] l) [] ps (index_keys ps (put_in_leaf (touch ps s) (leaf_of ps) key v))
            ≡ refused (large_refusal (put_entry s.order e es))
        large_cut k =
            let d : Down s (loaded.top ∷ loaded.rest) = rw loaded.steps at loaded.down in
            cuts_slots (lent_of [] l) m (unfold lent_of in refl) [] ps _
            ∙ subst (λ (xs : List Step). every (slim (s.info.node_size - 56)) (put_entry s.order e (node_at s (leaf_of xs)).entries) ≡ false
            → cuts m [] xs (index_keys xs (put_in_leaf (touch xs s) (leaf_of xs) key v))
            ≡ refused (large_refusal (put_entry s.order e (node_at s (leaf_of xs)).entries))) (sym loaded.steps)
            (upsert_large m key v s loaded.top loaded.rest stands held (loaded.first ∙ sym loaded.loaded.loads.root) d fit plain) k

        large : (len : ℕ) → len ≡ value_length v → l.size < 4 + length key + len + 56
            → every (slim (s.info.node_size - 56)) (put_entry s.order e es) ≡ false
        large len q k =
            by_test (is_there s.order key es)
            (λ y. put_large_old (s.info.node_size - 56) s.order e es y
            (lt-leb (bytes_in (record { key = key_at es (place_of s.order key es); value = v })) (s.info.node_size - 56)
            (omega (arith, size_is, there_long s.order key es y))))
            (λ y. put_large_new (s.info.node_size - 56) s.order e es y
            (lt-leb (bytes_in e) (s.info.node_size - 56) (omega (arith, size_is))))

        refusal_is : (h : Head) → h ≡ live (head_at h0 n) → large_refusal (put_entry s.order e es)
            ≡ cond (ltb 1 (h.count + cond found 0 1)) 14 13
        refusal_is h eh =
            let y : h.count ≡ length es = count_is l.size t h0 b0 n leaf_used h eh ∙ ap (λ (k : ℕ). length (node_at s k).entries) (sym leaf_n) in
            ap (λ (k : ℕ). cond (ltb 1 k) 14 13) (put_length s.order e es
            ∙ ap₂ (λ (k : ℕ) (b : Bool). k + cond b 0 1) (sym y) there_is)

        number_is : (b : Bool) → number_of (cond b is.NoCut is.Single) ≡ cond b 14 13
        number_is true = refl
        number_is false = refl

        pub on_large : (h : Head) (b : Bool) (len : ℕ) (x : Refusal) → h ≡ live (head_at h0 n) → b ≡ ltb l.size (4 + length key + len + 56) → b ≡ true
            → len ≡ value_length v → x ≡ cond (ltb 1 (h.count + cond found 0 1)) is.NoCut is.Single
            → edited_of l.size h0 b0 (Err x) ≡ upsert_on (lent_of [] l) key v (way_gone l.size t h0 b0 way)
        unfolding edited_of
        on_large h b len x eh eb q k ex =
            sym (on_passed ∙ large_cut (large len k (ltb-true l.size (4 + length key + len + 56) (sym eb ∙ q)))
            ∙ ap refused (refusal_is h eh ∙ sym (number_is (ltb 1 (h.count + cond found 0 1))) ∙ ap number_of (sym ex)))

pub ruleset upsert_on_laws = (on_count, on_slot, found_self, on_new, on_small, handed_back, follows_same, lent_means)
