-- A key taken out of its leaf and emptied nodes dropped, bottom up: the node at the top of the way holds the plain list's removal of what it held,
-- within the bounds it had;
-- what is dropped is dead and stands nowhere. Assumes nothing.
use Rattle.std.specs.Prelude.{◌≡◌, true, false, ℕ, suc, ◌+◌, ◌≤◌, ◌<◌, length, eqb}
use Rattle.std.proofs.Math.Path.{refl, sym, ap, ap₂}
use Rattle.std.proofs.Common.{subst, ◌∙◌, arith}
use mathlib.Core.List.{List, [], ◌∷◌, ◌++◌, append-nil}
use borrow.Author.Tests.{eqb-true, eqb-false}
use Rattle.node.specs.Entry.{Entry, Val, mem}
use Rattle.node.specs.Find.{is_there}
use Rattle.node.specs.Slot.{MemNode, remove_at}
use Rattle.node.specs.laws.base.Tests.{by_test, never}
use Rattle.tree.specs.State.{State, node_at, put_node, changed, marked_dead}
use Rattle.tree.specs.laws.state.State.{at_put_same, at_put_other, put_count}
use Rattle.tree.specs.Lookup.{Step}
use Rattle.tree.specs.Remove.{Dropped, drop_emptied, take_from_leaf}
use Rattle.flush.specs.laws.SpaceLaws.{by_list}
use Rattle.history.specs.Plain.{plain_remove}
use Rattle.theorem.specs.model.Bounds.{Terms, K, Items, nil, cons, tight, first_or, first_le, KeyIn}
use Rattle.theorem.specs.model.Lazy.{node_of, cont, total, names, slots, conts, totals, slots_in, names_same, Child, Ok, ok_live, ok_wide, ok_rows}
use Rattle.theorem.specs.model.Lazy.{conts_rows, frame_all}
use Rattle.theorem.specs.model.Lift.{Toward, Parts, parts, apart_holds, apart_sums, apart_uses, lift_ok, lift_holds, lift_uses, lift_sums}
use Rattle.theorem.specs.model.Lift.{local_holds}
use Rattle.theorem.specs.steps.LeafAndKeys.{Once, Along, end, down}
use Rattle.theorem.specs.steps.Grow.{names_is, names_apart, Steady}
use Rattle.theorem.specs.remove.WhatIsLeft.{empty_holds, empty_uses, empty_sums, tip, on, stub_off}
use Rattle.theorem.specs.remove.DeadSums.{part, part_live, put_sum}
use Rattle.theorem.specs.remove.DropOne.{drop_down, without_child, drop_empty, drop_full, remove_at_lem, remove_local, Shrunk, leaf_taken}

module _ (τ : Terms) (rd : ℕ → MemNode) (k : List ℕ) (kk : KeyIn τ k) where
  -- ---- one level up

  module _ (s : State) (l n c lo hi : ℕ) (xs : List Entry) (e : Entry) (ys : List Entry) (row : (node_at s n).entries ≡ xs ++ e ∷ ys)
      (val : e.value ≡ mem c)
      (toward : Toward τ k xs e ys) (one : Once τ rd s (suc l) n) (okn : Ok τ rd (node_at s) (suc l) lo hi (node_at s n)) (above : lo ≤ K τ k)
      (below : K τ k < hi) where
    node_c : node_of rd (node_at s) e.value ≡ node_at s c
    unfolding node_of
    node_c = rw val

    sum : (d : ℕ) → slots rd (node_at s) (suc l) d (node_at s n)
        ≡ slots_in rd (node_at s) l d xs + (names d (mem c) + slots rd (node_at s) l d (node_at s c) + slots_in rd (node_at s) l d ys)
    sum d =
        apart_uses rd (node_at s) l (node_at s n) xs e ys row d
        ∙ ap₂ (λ (v : Val) (m : MemNode). slots_in rd (node_at s) l d xs
        + (names d v + slots rd (node_at s) l d m + slots_in rd (node_at s) l d ys)) val
        node_c

    sums : (f : MemNode → ℕ) → total rd (node_at s) f (suc l) (node_at s n)
        ≡ f (node_at s n) + (totals rd (node_at s) f l xs + (total rd (node_at s) f l (node_at s c) + totals rd (node_at s) f l ys))
    sums f =
        apart_sums rd (node_at s) l (node_at s n) xs e ys row f
        ∙ ap (λ (m : MemNode). f (node_at s n) + (totals rd (node_at s) f l xs + (total rd (node_at s) f l m + totals rd (node_at s) f l ys))) node_c

    once_c : Once τ rd s l c
    once_c = record { once = λ d. omega (arith, one.once d, sum d); used = λ d h. one.used d (omega (arith, sum d)) }

    toward_k : Parts (K τ) (Child τ (Ok τ rd (node_at s) l) (node_of rd (node_at s))) lo hi (K τ k) xs e ys
    toward_k = parts (K τ k) xs above toward.not_above (rw row at okn.items)

    ok_c : Ok τ rd (node_at s) l toward_k.from (first_or (K τ) hi ys) (node_at s c)
    ok_c = ok_wide τ rd (node_at s) l (K τ e.key) toward_k.from toward_k.up_to (first_or (K τ) hi ys) (node_at s c)
        toward_k.before (first_le toward_k.right) (rw node_c at toward_k.own.ok)

    n_used : n < length s.nodes
    n_used = one.used n (omega (arith, names_same n))

    c_used : c < length s.nodes
    c_used = once_c.used c (omega (arith, names_same c))

    c_not : (d : ℕ) → d ≡ n → d ≡ c → ⊥
    c_not d p q = omega (arith, names_is d n p, names_is d c q, sum d, one.once d)

    -- the removal goes on in the child
    removal : plain_remove τ.order k (cont rd (node_at s) (suc l) (node_at s n))
        ≡ conts rd (node_at s) l xs ++ (plain_remove τ.order k (cont rd (node_at s) l (node_at s c)) ++ conts rd (node_at s) l ys)
    removal =
        let rx = conts_rows τ rd (node_at s) l toward_k.left in
        let rc = ok_rows τ rd (node_at s) l toward_k.from (first_or (K τ) hi ys) (node_at s c) ok_c in
        let ry = conts_rows τ rd (node_at s) l (tight toward_k.right) in
        ap (plain_remove τ.order k) (apart_holds rd (node_at s) l (node_at s n) xs e ys row
        ∙ ap (λ (m : MemNode). conts rd (node_at s) l xs ++ (cont rd (node_at s) l m ++ conts rd (node_at s) l ys)) node_c)
        ∙ sym (local_holds τ rd k (plain_remove τ.order k) (remove_local τ rd k kk) lo toward_k.from (first_or (K τ) hi ys) (first_or (K τ) hi ys)
        hi _ _ _ rx rc ry
        toward_k.not (toward.next hi below))

    module _ (ps : List Step) (u : State) (j : ℕ) (sh : Shrunk τ rd k kk s u j l c ps) where
      n_same : node_at u n ≡ node_at s n
      n_same = sh.keep n (λ q. c_not n refl q) (omega (arith, sum n, one.once n, names_same n))

      sibling : (d : ℕ) → 1 ≤ slots_in rd (node_at s) l d xs + slots_in rd (node_at s) l d ys → node_at u d ≡ node_at s d
      sibling d h = sh.keep d (λ q. omega (arith, names_is d c q, sum d, one.once d)) (omega (arith, sum d, one.once d))

      abbrev step : Step
      step = record { slot = n; child = length xs }

      -- the child is left
      stays : (f : Entry) (fs : List Entry) → (node_at u c).entries ≡ f ∷ fs → Shrunk τ rd k kk s u j (suc l) n (step ∷ ps)
      stays f fs some =
          let fx = frame_all τ rd (node_at s) (node_at u) l xs (λ d h. sibling d (omega arith)) in
          let fy = frame_all τ rd (node_at s) (node_at u) l ys (λ d h. sibling d (omega arith)) in
          let row' : (node_at u n).entries ≡ xs ++ ((e ∷ []) ++ ys) = ap (λ (z : MemNode). z.entries) n_same ∙ row in
          let node_c' : node_of rd (node_at u) e.value ≡ node_at u c = unfold node_of in (rw val) in
          let up : (f : MemNode → ℕ) → total rd (node_at u) f (suc l) (node_at u n)
          ≡ f (node_at s n) + (totals rd (node_at s) f l xs + (total rd (node_at u) f l (node_at u c) + totals rd (node_at s) f l ys)) =
          λ f. let b : f (node_at u n) ≡ f (node_at s n) = ap f n_same in
          omega (arith, lift_sums τ rd (node_at s) (node_at u) l xs (e ∷ []) ys (node_at u n) row' fx fy f, ap (total rd (node_at u) f l) node_c') in
          record {
            ok = λ lo₁ hi₁ h.
                let p : Parts (K τ) (Child τ (Ok τ rd (node_at s) l) (node_of rd (node_at s))) lo₁ hi₁ (lo₁ + K τ e.key) xs e ys =
                parts (lo₁ + K τ e.key) xs (omega arith) (λ z. omega arith) (rw row at h.items) in
                let it : Items (K τ) (Child τ (Ok τ rd (node_at u) l) (node_of rd (node_at u))) p.from (first_or (K τ) hi₁ ys) (e ∷ []) =
                cons {m = p.up_to} {e = e} p.before (record {
                  key = p.own.key;
                  below = p.own.below;
                  is_one = p.own.is_one;
                  ok = rw node_c' (sh.ok (K τ e.key) p.up_to (rw node_c at p.own.ok));
                }) (nil (first_le p.right)) in
                lift_ok τ rd (node_at s) (node_at u) l xs (e ∷ []) ys (node_at u n) row' fx fy lo₁ p.from p.up_to hi₁
                (ap (λ (z : MemNode). z.level) n_same ∙ h.level) (ap (λ (z : MemNode). z.dead) n_same ∙ h.live) p.left it p.right;
            holds = lift_holds τ rd (node_at s) (node_at u) l xs (e ∷ []) ys (node_at u n) row' fx fy
                ∙ ap (λ (z : List Entry). conts rd (node_at s) l xs ++ (z ++ conts rd (node_at s) l ys))
                (append-nil _ ∙ ap (cont rd (node_at u) l) node_c' ∙ sh.holds)
                ∙ sym removal;
            gone = sh.gone;
            uses = λ d.
                let a : names d e.value + slots rd (node_at u) l d (node_of rd (node_at u) e.value) ≡ names d (mem c) + slots rd (node_at u) l d
                (node_at u c) =
                ap₂ (λ (v : Val) (m : MemNode). names d v + slots rd (node_at u) l d m) val node_c' in
                omega (arith, lift_uses τ rd (node_at s) (node_at u) l xs (e ∷ []) ys (node_at u n) row' fx fy d, sum d, sh.uses d);
            dead = sh.dead;
            alive = sh.alive;
            keep = λ d h z. sh.keep d (λ q. omega (arith, names_is d c q, sum d)) (omega (arith, sum d));
            books = λ f h. omega (arith, up f, sums f, sh.books f h);
            fewer = λ f h. omega (arith, up f, sums f, sh.fewer f h);
            nodes = omega (arith, up (λ m. 1), sums (λ m. 1), sh.nodes);
            count = sh.count;
            level = sh.level;
            stub = on xs e ys row' val some sh.stub;
          }

      -- the child is empty: it goes
      module _ (none : (node_at u c).entries ≡ []) where
        abbrev gone_c : MemNode
        gone_c = marked_dead (node_at u c)

        abbrev left_n : MemNode
        left_n = changed (node_at u n) (remove_at (length xs) (node_at u n).entries)

        abbrev v : State
        v = put_node u c gone_c

        abbrev w : State
        w = without_child u n (length xs) c

        v_count : length v.nodes ≡ length s.nodes
        v_count = put_count u c gone_c ∙ sh.count

        w_n : node_at w n ≡ left_n
        w_n = at_put_same v n left_n (omega (arith, n_used, v_count))

        w_c : node_at w c ≡ gone_c
        w_c = at_put_other v n left_n c (λ q. c_not c q refl) ∙ at_put_same u c gone_c (omega (arith, c_used, sh.count))

        w_other : (d : ℕ) → (d ≡ n → ⊥) → (d ≡ c → ⊥) → node_at w d ≡ node_at u d
        w_other d p q = at_put_other v n left_n d p ∙ at_put_other u c gone_c d q

        w_sibling : (d : ℕ) → 1 ≤ slots_in rd (node_at s) l d xs + slots_in rd (node_at s) l d ys → node_at w d ≡ node_at s d
        w_sibling d h = w_other d (λ q. omega (arith, names_is d n q, sum d, one.once d)) (λ q. omega (arith, names_is d c q, sum d, one.once d))
            ∙ sibling d h

        n_live : (node_at u n).dead ≡ false
        n_live = ap (λ (z : MemNode). z.dead) n_same ∙ okn.live

        c_live : (node_at u c).dead ≡ false
        c_live = ok_live τ rd (node_at u) l toward_k.from (first_or (K τ) hi ys) (node_at u c) (sh.ok toward_k.from (first_or (K τ) hi ys) ok_c)

        off_kept : (d : ℕ) → (node_at u d).dead ≡ true → (node_at u d).entries ≡ [] → ((node_at w d).dead ≡ true) × ((node_at w d).entries ≡ [])
        unfolding marked_dead
        off_kept d a b =
            by_test (eqb d c)
            (λ q. let z : d ≡ c = eqb-true d c q in
            rw z (ap (λ (m : MemNode). m.dead) w_c, ap (λ (m : MemNode). m.entries) w_c))
            (λ q.
            let y : node_at w d ≡ node_at u d = w_other d (λ z. never a (ap (λ (i : ℕ). (node_at u i).dead) z ∙ n_live)) (eqb-false d c q) in
            (ap (λ (m : MemNode). m.dead) y ∙ a, ap (λ (m : MemNode). m.entries) y ∙ b))

        goes : Shrunk τ rd k kk s w (suc j) (suc l) n (step ∷ ps)
        unfolding changed marked_dead
        goes =
            let fx = frame_all τ rd (node_at s) (node_at w) l xs (λ d h. w_sibling d (omega arith)) in
            let fy = frame_all τ rd (node_at s) (node_at w) l ys (λ d h. w_sibling d (omega arith)) in
            let row' : (node_at w n).entries ≡ xs ++ ([] ++ ys) =
            ap (λ (z : MemNode). z.entries) w_n ∙ ap (remove_at (length xs)) (ap (λ (z : MemNode). z.entries) n_same ∙ row) ∙ remove_at_lem xs e ys in
            let up : (f : MemNode → ℕ)
            → total rd (node_at w) f (suc l) (node_at w n) ≡ f left_n + (totals rd (node_at s) f l xs + totals rd (node_at s) f l ys) =
            λ f. let b : f (node_at w n) ≡ f left_n = ap f w_n in
            omega (arith, lift_sums τ rd (node_at s) (node_at w) l xs [] ys (node_at w n) row' fx fy f) in
            let one_c : (f : MemNode → ℕ) → total rd (node_at u) f l (node_at u c) ≡ f (node_at u c) =
            λ f. empty_sums rd (node_at u) f l (node_at u c) none in
            let same_n : (f : MemNode → ℕ) → Steady f → f left_n ≡ f (node_at s n) =
            λ f h. h.same left_n (node_at s n) (ap (λ (z : MemNode). z.block) n_same) (ap (λ (z : MemNode). z.id) n_same) in
            let no_c : (d : ℕ) → slots rd (node_at u) l d (node_at u c) ≡ 0 = λ d. empty_uses rd (node_at u) l d (node_at u c) none in
            record {
              ok = λ lo₁ hi₁ h.
                  let p : Parts (K τ) (Child τ (Ok τ rd (node_at s) l) (node_of rd (node_at s))) lo₁ hi₁ (lo₁ + K τ e.key) xs e ys =
                  parts (lo₁ + K τ e.key) xs (omega arith) (λ z. omega arith) (rw row at h.items) in
                  lift_ok τ rd (node_at s) (node_at w) l xs [] ys (node_at w n) row' fx fy lo₁ p.from p.up_to hi₁
                  (ap (λ (z : MemNode). z.level) w_n ∙ ap (λ (z : MemNode). z.level) n_same ∙ h.level) (ap (λ (z : MemNode). z.dead) w_n ∙ n_live)
                  p.left (nil (let a = p.before in let b = p.own.below in let g = first_le p.right in omega arith)) p.right;
              holds = lift_holds τ rd (node_at s) (node_at w) l xs [] ys (node_at w n) row' fx fy
                  ∙ ap (λ (z : List Entry). conts rd (node_at s) l xs ++ (z ++ conts rd (node_at s) l ys))
                  (sym (empty_holds rd (node_at u) l (node_at u c) none) ∙ sh.holds)
                  ∙ sym removal;
              gone = λ d. sh.gone d + names d (mem c);
              uses = λ d. omega (arith, lift_uses τ rd (node_at s) (node_at w) l xs [] ys (node_at w n) row' fx fy d, sum d, sh.uses d, no_c d);
              dead = λ d h. by_test (eqb d c)
                  (λ q. let z : d ≡ c = eqb-true d c q in rw z (ap (λ (m : MemNode). m.dead) w_c))
                  (λ q.
                  let z : d ≡ c → ⊥ = eqb-false d c q in
                  let g : 1 ≤ sh.gone d = omega (arith, names_apart d c z) in
                  ap (λ (m : MemNode). m.dead) (w_other d (λ y. omega (arith, names_is d n y, sum d, one.once d, sh.uses d)) z) ∙ sh.dead d g);
              alive = λ d h.
                  let z : d ≡ c → ⊥ = λ q. omega (arith, names_is d c q) in
                  by_test (eqb d n)
                  (λ q. let y : d ≡ n = eqb-true d n q in rw y (ap (λ (m : MemNode). m.dead) w_n ∙ ap (λ (m : MemNode). m.dead) n_same))
                  (λ q. ap (λ (m : MemNode). m.dead) (w_other d (eqb-false d n q) z) ∙ sh.alive d (omega arith));
              keep = λ d h z. w_other d h (λ q. omega (arith, names_is d c q, sum d))
                  ∙ sh.keep d (λ q. omega (arith, names_is d c q, sum d)) (omega (arith, sum d));
              books = λ f h.
                  let a₁ = put_sum f u c gone_c (omega (arith, c_used, sh.count)) in
                  let a₂ = put_sum f v n left_n (omega (arith, n_used, v_count)) in
                  let b₁ : part f (node_at u c) ≡ 0 = part_live f (node_at u c) c_live in
                  let b₂ : part f gone_c ≡ f (node_at u c) = h.same gone_c (node_at u c) refl refl in
                  let b₃ : part f (node_at v n) ≡ 0 =
                  part_live f (node_at v n) (ap (λ (m : MemNode). m.dead) (at_put_other u c gone_c n (λ q. c_not n refl q)) ∙ n_live) in
                  let b₄ : part f left_n ≡ 0 = part_live f left_n n_live in
                  omega (arith, up f, sums f, sh.books f h, one_c f, same_n f h);
              fewer = λ f h. omega (arith, up f, sums f, same_n f h);
              nodes = omega (arith, up (λ m. 1), sums (λ m. 1), sh.nodes, one_c (λ m. 1));
              count = put_count v n left_n ∙ v_count;
              level = λ d. by_test (eqb d c)
                  (λ q. let z : d ≡ c = eqb-true d c q in rw z (ap (λ (m : MemNode). m.level) w_c ∙ sh.level c))
                  (λ q. by_test (eqb d n)
                  (λ p. let y : d ≡ n = eqb-true d n p in rw y (ap (λ (m : MemNode). m.level) w_n ∙ ap (λ (m : MemNode). m.level) n_same))
                  (λ p. ap (λ (m : MemNode). m.level) (w_other d (eqb-false d n p) (eqb-false d c q)) ∙ sh.level d));
              stub = tip (stub_off u w l c ps sh.stub none off_kept (ap (λ (m : MemNode). m.dead) w_c) (ap (λ (m : MemNode). m.entries) w_c));
            }

      -- either way
      shrunk_up : (t : State) (T : List Entry → Entry → List Entry → Type 0) (leaf : ℕ) → Along s T leaf l c ps → u ≡ (drop_emptied ps t).state
          → j ≡ (drop_emptied ps t).nodes
          → Shrunk τ rd k kk s (drop_emptied (step ∷ ps) t).state (drop_emptied (step ∷ ps) t).nodes (suc l) n (step ∷ ps)
      shrunk_up t T leaf w p q =
          let d : Dropped = drop_emptied ps t in
          let is : (node_at d.state c).entries ≡ (node_at u c).entries = ap (λ (z : State). (node_at z c).entries) (sym p) in
          rw (drop_down s t T leaf step l c ps w)
          (by_list (node_at u c).entries
          (λ none.
          rw (drop_empty step c d (is ∙ none))
          (subst (λ (z : State). Shrunk τ rd k kk s (without_child z n (length xs) c) (suc d.nodes) (suc l) n (step ∷ ps)) p
          (subst (λ (z : ℕ). Shrunk τ rd k kk s (without_child u n (length xs) c) (suc z) (suc l) n (step ∷ ps)) q (goes none))))
          (λ f fs some.
          rw (drop_full step c d f fs (is ∙ some))
          (subst (λ (z : State). Shrunk τ rd k kk s z d.nodes (suc l) n (step ∷ ps)) p
          (subst (λ (z : ℕ). Shrunk τ rd k kk s u z (suc l) n (step ∷ ps)) q (stays f fs some)))))

  -- the whole way
  pub drops : (s : State) (leaf : ℕ) → s.order ≡ τ.order → is_there τ.order k (node_at s leaf).entries ≡ true
      → (l n : ℕ) (ps : List Step) → Along s (Toward τ k) leaf l n ps
      → (lo hi : ℕ) → Ok τ rd (node_at s) l lo hi (node_at s n) → Once τ rd s l n → lo ≤ K τ k → K τ k < hi
      → Shrunk τ rd k kk s (drop_emptied ps (take_from_leaf s leaf k)).state (drop_emptied ps (take_from_leaf s leaf k)).nodes l n ps
  unfolding drop_emptied
  drops s leaf o there _ _ _ end lo hi okn one a b = leaf_taken τ rd k kk s leaf o there (one.used leaf (omega (arith, names_same leaf))) okn.live
  drops s leaf o there _ _ _ (down {l = l} {n = n} {c = c} {xs = xs} {e = e} {ys = ys} {ps = ps} row val to w) lo hi okn one a b =
      let p = toward_k s l n c lo hi xs e ys row val to one okn a b in
      let i = drops s leaf o there l c ps w p.from (first_or (K τ) hi ys) (ok_c s l n c lo hi xs e ys row val to one okn a b)
      (once_c s l n c lo hi xs e ys row val to one okn a b) p.not (to.next hi b) in
      shrunk_up s l n c lo hi xs e ys row val to one okn a b ps _ _ i (take_from_leaf s leaf k) (Toward τ k) leaf w refl refl
