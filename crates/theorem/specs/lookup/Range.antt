-- Range: the entries between two keys, or from a key on, are those of the plain list. Assumes nothing.
use Rattle.std.specs.Prelude.{◌≡◌, ◌&&◌, ◌||◌, not, leb}
use Rattle.std.proofs.Math.Path.{refl, sym, ap, ap₂}
use Rattle.std.proofs.Common.{◌∙◌, le_refl}
use mathlib.Core.List.{List, [], ◌∷◌, ◌++◌, append_assoc}
use Rattle.std.proofs.Math.Bool.{true, false}
use Prim.Native.Nat.{ℕ, zero, suc, ◌+◌, ◌≤◌}
use Rattle.std.proofs.Math.Nat.{le_trans}
use native.Mathlib.Omega.{arith}
use Rattle.std.proofs.Math.ListN.{length, length-append}
use Rattle.std.proofs.Math.Dec.{ltb}
use borrow.Author.Tests.{lt-ltb, le-ltb}
use Rattle.seal.specs.Bytes.{AreBytes}
use Rattle.node.specs.laws.base.Results.{Holds, holds_ok, holds_bind, holds_check, holds_imp}
use Rattle.node.specs.Refusals as refusal
use Rattle.node.specs.Order.{keyed, less}
use Rattle.node.specs.Entry.{Entry}
use Rattle.node.specs.Find.{key_at}
use Rattle.node.specs.Records.{records_of}
use Rattle.node.specs.Slot.{MemNode}
use Rattle.node.specs.laws.base.Tests.{by_test, never, and_split, and-false}
use Rattle.node.specs.laws.order.Order.{lt_rank, le_rank, rank_le}
use Rattle.tree.specs.Lent.{Lent}
use Rattle.tree.specs.Load.{Bounds, unbounded, child_bounds, load_child}
use Rattle.tree.specs.State.{State, node_at}
use Rattle.tree.specs.Lookup.{Got, ends_above, between, range_enters, range_kids, range_from, range_in}
use Rattle.history.specs.Plain.{plain_range}
use Rattle.history.specs.laws.PlainIs.{range_is}
use Rattle.history.specs.Statement.{Start, Begins, Lends}
use Rattle.theorem.specs.model.Bounds.{Terms, K, Items, nil, cons, KeyIn, key_in, Row, rows_le}
use Rattle.theorem.specs.model.Lazy.{node_of, cont, conts, Child, Ok, ok_rows, ok_level}
use Rattle.theorem.specs.model.Lift.{Parts, parts}
use Rattle.theorem.specs.steps.LeafAndKeys.{key_at_lem, key_next}
use Rattle.theorem.specs.steps.Way.{Reads}
use Rattle.theorem.specs.model.Good.{found, Old, Suits, Good}
use Rattle.theorem.specs.load.Loads.{Loads, loads_refl, loads_then}
use Rattle.theorem.specs.lookup.Below.{Stands, stands_root, stands_after, enter, rest}
use Rattle.theorem.specs.lookup.Get.{key_given}

-- an upper end, if there is one
abbrev pub EndIn : Terms → List (List ℕ) → Type 0
EndIn τ [] = Unit {0}
EndIn τ (h ∷ hs) = KeyIn τ h

-- ---- what lies between

between_append : (o : ℕ) (a : List ℕ) (b : List (List ℕ)) (xs ys : List Entry) → between o a b (xs ++ ys) ≡ between o a b xs ++ between o a b ys
unfolding between
between_append o a b [] ys = refl
between_append o a b (x ∷ xs) ys =
    by_test (not (less o x.key a) && ends_above o b x.key)
    (λ t. rw (t, between_append o a b xs ys))
    (λ t. rw (t, between_append o a b xs ys))

module _ (τ : Terms) (a : List ℕ) (b : List (List ℕ)) (ka : KeyIn τ a) (kb : EndIn τ b) where
  -- nothing of what lies below the lower end
  between_low : {lo m : ℕ} {xs : List Entry} → Items (K τ) (Row τ) lo m xs → m ≤ K τ a → between τ.order a b xs ≡ []
  unfolding between
  between_low (nil e) h = refl
  between_low (cons {e = x} e p r) h =
      let c = rows_le τ r in
      let w = p.below in
      let t : less τ.order x.key a ≡ true =
      lt_rank τ.order τ.most x.key a p.key.key ka.key p.key.short ka.short (omega arith) in
      rw (t, between_low r h)

  -- nor from the upper end on
  above_end : (c : List (List ℕ)) → EndIn τ c → (k : List ℕ) → KeyIn τ k → ends_above τ.order c k ≡ false → (x : List ℕ) → KeyIn τ x → K τ k ≤ K τ x
      → ends_above τ.order c x ≡ false
  unfolding ends_above
  above_end [] kc k kk t x kx h = t
  above_end (c ∷ cs) kc k kk t x kx h =
      let w : K τ c ≤ K τ k = rank_le τ.order τ.most k c kk.key kc.key kk.short kc.short t in
      le_rank τ.order τ.most x c kx.key kc.key kx.short kc.short (omega arith)

  between_high : {lo m : ℕ} {xs : List Entry} → Items (K τ) (Row τ) lo m xs → (k : List ℕ) → KeyIn τ k → ends_above τ.order b k ≡ false → K τ k ≤ lo
      → between τ.order a b xs ≡ []
  unfolding between
  between_high (nil e) k kk t h = refl
  between_high (cons {e = x} e p r) k kk t h =
      let w = p.below in
      let z : ends_above τ.order b x.key ≡ false = above_end b kb k kk t x.key (key_in p.key) (le_trans h e) in
      rw (z, and-false (not (less τ.order x.key a)), between_high r k kk t (omega arith))

  -- a child that is not entered holds nothing between
  module _ (rd at : ℕ → MemNode) where
    between_skip : (j lo hi : ℕ) (xs : List Entry) (e : Entry) (ys : List Entry)
        → Items (K τ) (Child τ (Ok τ rd at j) (node_of rd at)) lo hi (xs ++ e ∷ ys)
        → range_enters τ.order a b (xs ++ e ∷ ys) (length xs) ≡ false → between τ.order a b (cont rd at j (node_of rd at e.value)) ≡ []
    unfolding range_enters
    between_skip j lo hi xs e ys r t =
        let p : Parts (K τ) (Child τ (Ok τ rd at j) (node_of rd at)) lo hi (lo + K τ e.key) xs e ys =
        parts (lo + K τ e.key) xs (omega arith) (λ z. omega arith) r in
        let rows : Items (K τ) (Row τ) (K τ e.key) p.up_to (cont rd at j (node_of rd at e.value)) =
        ok_rows τ rd at j (K τ e.key) p.up_to (node_of rd at e.value) p.own.ok in
        let key : key_at (xs ++ e ∷ ys) (length xs) ≡ e.key = key_at_lem xs e ys in
        by_test (ends_above τ.order b (key_at (xs ++ e ∷ ys) (length xs)))
        (λ u. between_low rows (next ys p.right (rw u at t)))
        (λ u. between_high rows e.key (key_in p.own.key) (rw key at u) (le_refl _))
      where
        next : {m : ℕ} (zs : List Entry) → Items (K τ) (Child τ (Ok τ rd at j) (node_of rd at)) m hi zs
            → (not (ltb (suc (length xs)) (length (xs ++ e ∷ zs))) || less τ.order a (key_at (xs ++ e ∷ zs) (suc (length xs)))) ≡ false → m ≤ K τ a
        next [] q u =
            let f : ltb (suc (length xs)) (length (xs ++ e ∷ [])) ≡ false =
            le-ltb (suc (length xs)) (length (xs ++ e ∷ [])) (omega (arith, length-append xs (e ∷ []))) in
            let y : (not (ltb (suc (length xs)) (length (xs ++ e ∷ []))) || less τ.order a (key_at (xs ++ e ∷ []) (suc (length xs)))) ≡ true =
            rw f in
            never y u
        next (z ∷ zs) (cons y c q) u =
            let f : ltb (suc (length xs)) (length (xs ++ e ∷ z ∷ zs)) ≡ true =
            lt-ltb (suc (length xs)) (length (xs ++ e ∷ z ∷ zs)) (omega (arith, length-append xs (e ∷ z ∷ zs))) in
            let v : less τ.order a z.key ≡ false = ap (less τ.order a) (sym (key_next xs e z zs)) ∙ (rw f at u) in
            le_trans y (rank_le τ.order τ.most a z.key ka.key c.key.key ka.short c.key.short v)

-- ---- the call

module _ (g : Start) (τ : Terms) (th : List ℕ) (begins : Begins g) (l : Lent) (lends : Lends g l) (s₀ : State)
    (rds : Reads τ (found g τ) l (Old g) s₀) (es : List Entry)
    (a : List ℕ) (b : List (List ℕ)) (ka : KeyIn τ a) (kb : EndIn τ b) (o : s₀.order ≡ τ.order) where
  abbrev Here : State → ℕ → ℕ → ℕ → ℕ → Type 0
  Here s j n lo hi = Stands g τ th begins l lends s₀ rds es s j n lo hi

  -- what a part of a range answers, and where it leaves the tree
  pub record Ranged (s : State) (xs : List Entry) (r : Got Entry) : Type 0 where
    pub answer : r.answer ≡ between τ.order a b xs
    pub good : Good g τ th r.state es
    pub loads : Loads τ (found g τ) s r.state

  order_is : (s : State) (j n lo hi : ℕ) → Here s j n lo hi → s.order ≡ τ.order
  order_is s j n lo hi h = h.still.order ∙ o

  -- the same entries with one more of them in the first part
  row_on : (xs : List Entry) (y : Entry) (ys zs : List Entry) → zs ≡ xs ++ y ∷ ys → zs ≡ (xs ++ y ∷ []) ++ ys
  row_on xs y ys zs row = row ∙ sym (append_assoc xs (y ∷ []) ys)

  long_on : (xs : List Entry) (y : Entry) (i : ℕ) → length xs ≡ i → length (xs ++ y ∷ []) ≡ suc i
  long_on xs y i e = omega (arith, e, length-append xs (y ∷ []))

  -- a child that is not entered
  not_entered : (s : State) (j n lo hi i : ℕ) (xs : List Entry) (y : Entry) (ys : List Entry) → Here s (suc j) n lo hi
      → (node_at s n).entries ≡ xs ++ y ∷ ys → length xs ≡ i
      → range_enters s.order a b (node_at s n).entries i ≡ false
      → between τ.order a b (cont (found g τ) (node_at s) j (node_of (found g τ) (node_at s) y.value)) ≡ []
  not_entered s j n lo hi i xs y ys h row ln t =
      between_skip τ a b ka kb (found g τ) (node_at s) j lo hi xs y ys (rw row at h.ok.items)
      (ap₂ (λ (x : ℕ) (z : List Entry). range_enters x a b z (length xs)) (sym (order_is s (suc j) n lo hi h)) (sym row)
      ∙ ap (range_enters s.order a b (node_at s n).entries) ln ∙ t)

  module _ (j : ℕ) (ih : (s : State) (bs : Bounds) (n lo hi : ℕ) → Here s j n lo hi → Holds (Ranged s (cont (found g τ) (node_at s) j (node_at s n)))
      (range_from j l a b s bs n)) where
    -- the children from child i on, m of them
    abbrev Kids : ℕ → Type 0
    Kids m =
        (i : ℕ) (s : State) (bs : Bounds) (n lo hi : ℕ) (xs ys : List Entry) → Here s (suc j) n lo hi → (node_at s n).entries ≡ xs ++ ys
        → length xs ≡ i
        → length ys ≡ m
        → Holds (Ranged s (conts (found g τ) (node_at s) j ys)) (range_kids (range_from j l a b) l s bs n a b m i)

    kids_step : (m : ℕ) → Kids m → (i : ℕ) (s : State) (bs : Bounds) (n lo hi : ℕ) (xs : List Entry) (y : Entry) (ys : List Entry)
        → Here s (suc j) n lo hi
        → (node_at s n).entries ≡ xs ++ y ∷ ys → length xs ≡ i → length (y ∷ ys) ≡ suc m
        → Holds (Ranged s (conts (found g τ) (node_at s) j (y ∷ ys))) (range_kids (range_from j l a b) l s bs n a b (suc m) i)
    unfolding range_kids
    kids_step m next i s bs n lo hi xs y ys h row ln lm =
        let lm' : length ys ≡ m = omega arith in
        let here : List Entry = cont (found g τ) (node_at s) j (node_of (found g τ) (node_at s) y.value) in
        by_test (range_enters s.order a b (node_at s n).entries i)
        (λ t. rw t
        (holds_bind (load_child l s bs n i) _ λ c p.
        let en = enter g τ th begins l lends s₀ rds es s bs j n lo hi xs y ys i c h row ln p in
        holds_bind (range_from j l a b c.state (child_bounds s.order bs (node_at s n).entries i) c.slot) _ λ r q.
        let one = (ih c.state (child_bounds s.order bs (node_at s n).entries i) c.slot (K τ y.key) en.up_to en.stands).at r q in
        let ld = loads_then τ (found g τ) s c.state r.state en.loads one.loads in
        let re = rest g τ th begins l lends s₀ rds es s r.state j n lo hi (xs ++ y ∷ []) ys h (row_on xs y ys (node_at s n).entries row) ld in
        holds_bind (range_kids (range_from j l a b) l r.state bs n a b m (suc i)) _ λ u v.
        let more = (next (suc i) r.state bs n lo hi re.front re.back
        (stands_after g τ th begins l lends s₀ rds es s r.state (suc j) n lo hi h one.good ld) re.row
        (re.long ∙ long_on xs y i ln) (re.left ∙ lm')).at u v in
        holds_ok (record {
          answer = ap₂ ◌++◌ (one.answer ∙ ap (between τ.order a b) en.holds) (more.answer ∙ ap (between τ.order a b) re.holds)
              ∙ sym (between_append τ.order a b here (conts (found g τ) (node_at s) j ys));
          good = more.good;
          loads = loads_then τ (found g τ) s r.state u.state ld more.loads;
        })))
        (λ t. rw t (holds_imp _ (λ r more.
        record {
          answer = more.answer ∙ ap (λ (z : List Entry). z ++ between τ.order a b (conts (found g τ) (node_at s) j ys))
              (sym (not_entered s j n lo hi i xs y ys h row ln t))
              ∙ sym (between_append τ.order a b here (conts (found g τ) (node_at s) j ys));
          good = more.good;
          loads = more.loads;
        })
        (next (suc i) s bs n lo hi (xs ++ y ∷ []) ys h (row_on xs y ys (node_at s n).entries row) (long_on xs y i ln) lm')))

    range_kids_lem : (m : ℕ) → Kids m
    unfolding range_kids
    range_kids_lem zero i s bs n lo hi xs [] h row ln lm =
        holds_ok (record { answer = unfold between in refl; good = h.good; loads = loads_refl τ (found g τ) s })
    range_kids_lem zero i s bs n lo hi xs (y ∷ ys) h row ln lm = absurd (omega arith)
    range_kids_lem (suc m) i s bs n lo hi xs [] h row ln lm = absurd (omega arith)
    range_kids_lem (suc m) i s bs n lo hi xs (y ∷ ys) h row ln lm = kids_step m (range_kids_lem m) i s bs n lo hi xs y ys h row ln lm

  range_level : (j : ℕ) (s : State) (bs : Bounds) (n lo hi : ℕ) → Here s j n lo hi
      → Holds (Ranged s (cont (found g τ) (node_at s) j (node_at s n))) (range_from j l a b s bs n)
  unfolding range_from cont
  range_level zero s bs n lo hi h =
      holds_ok (record {
        answer = ap (λ (z : ℕ). between z a b (node_at s n).entries) (order_is s 0 n lo hi h);
        good = h.good;
        loads = loads_refl τ (found g τ) s;
      })
  range_level (suc j) s bs n lo hi h =
      range_kids_lem j (range_level j) (length (node_at s n).entries) 0 s bs n lo hi [] (node_at s n).entries h refl refl refl

module _ (g : Start) (τ : Terms) (th : List ℕ) (begins : Begins g) (l : Lent) (lends : Lends g l) (s : State) (rds : Reads τ (found g τ) l (Old g) s)
    (es : List Entry) (h : Good g τ th s es) where
  -- from a key on, up to another or to the end
  pub good_range_from : Suits g τ → (a : List ℕ) (b : List (List ℕ)) → KeyIn τ a → EndIn τ b
      → Holds (λ r. (r.answer ≡ between s.order a b es) × Good g τ th r.state es)
      (range_from (node_at s s.root).level l a b s unbounded s.root)
  good_range_from suits a b ka kb =
      let o : s.order ≡ τ.order = h.order ∙ sym suits.order in
      let lv : (node_at s s.root).level ≡ h.level = ok_level τ (found g τ) (node_at s) h.level h.lo h.hi (node_at s s.root) h.tree in
      rw lv (holds_imp _ (λ r p. (p.answer ∙ ap₂ (λ (x : ℕ) (z : List Entry). between x a b z) (sym o) h.holds, p.good))
      (range_level g τ th begins l lends s rds es a b ka kb o h.level s unbounded s.root h.lo h.hi
      (stands_root g τ th begins l lends s rds es h)))

  pub good_range : Suits g τ → (room : ℕ) (a b : List ℕ) → AreBytes a → AreBytes b → length a ≤ τ.most → length b ≤ τ.most
      → Holds (λ r. (r.answer ≡ plain_range s.order a b es) × Good g τ th r.state es) (range_in l s room a b)
  unfolding range_in
  good_range suits room a b ba bb sa sb =
      let o : s.order ≡ τ.order = h.order ∙ sym suits.order in
      holds_check refusal.argument (keyed s.order a && keyed s.order b) _ λ t.
      let (ta, tb) = and_split (keyed s.order a) (keyed s.order b) t in
      holds_bind (range_from (node_at s s.root).level l a (b ∷ []) s unbounded s.root) _ λ r q.
      let p = (good_range_from suits a (b ∷ []) (key_given τ s.order a o ta ba sa) (key_given τ s.order b o tb bb sb)).at r q in
      holds_check refusal.output (leb (length (records_of r.answer)) room) _ λ _.
      holds_ok (p.0 ∙ sym (range_is s.order a b es), p.1)
