-- Steps that change no entry and lose no slot (a load, a cut): what they leave at a slot, one after another, and one level up; a child loaded is such
-- a step. Assumes nothing.
use Rattle.std.specs.Prelude.{◌≡◌, refl, ℕ, suc, ◌+◌, ◌≤◌, ◌<◌, length, ltb, eqb}
use Rattle.std.proofs.Math.Path.{sym, ap, ap₂}
use Rattle.std.proofs.Common.{◌∙◌, le_trans, ltb-true, ltb-false, eqb-true, ne_eqb}
use mathlib.Core.List.{List, [], ◌∷◌, ◌++◌, append-nil}
use native.Mathlib.Omega.{arith}
use Rattle.std.proofs.lemmas.Bool.{eqb-false}
use Rattle.node.specs.Entry.{Entry, Val, disk, mem}
use Rattle.node.specs.Slot.{MemNode, is_child}
use Rattle.node.specs.laws.base.Tests.{by_test}
use Rattle.tree.specs.State.{State, node_at, put_node, add_node, with_entries}
use Rattle.tree.specs.laws.state.State.{at_put_same, at_put_other, put_count, at_add_old, at_add_new, add_count}
use Rattle.theorem.specs.model.Bounds.{Terms, K, Items, nil, cons, first_or, first_le}
use Rattle.theorem.specs.model.Lazy.{node_of, cont, total, names, slots, conts, slots_in, names_same, Child, Ok, Same, frame, frame_all}
use Rattle.theorem.specs.model.Lift.{Parts, parts, apart_holds, apart_sums, apart_uses, lift_ok, lift_holds, lift_uses, lift_sums}
use Rattle.theorem.specs.steps.LeafAndKeys.{Once}

pub names_apart : (c d : ℕ) → (c ≡ d → ⊥) → names c (mem d) ≡ 0
unfolding names
names_apart c d h = rw (ne_eqb c d h)

pub names_is : (c d : ℕ) → c ≡ d → names c (mem d) ≡ 1
names_is c d e = ap (λ (x : ℕ). names x (mem d)) e ∙ names_same d

-- a sum that goes by block and id alone, and to which a node without either adds nothing
pub record Steady (f : MemNode → ℕ) : Type 0 where
  pub same : (m m' : MemNode) → m.block ≡ m'.block → m.id ≡ m'.id → f m ≡ f m'
  pub none : (m : MemNode) → m.block ≡ [] → m.id ≡ [] → f m ≡ 0

module _ (τ : Terms) (rd : ℕ → MemNode) where
  -- a slot that is not in use stands nowhere
  pub once_out : (s : State) (l n d : ℕ) → Once τ rd s l n → length s.nodes ≤ d → names d (mem n) + slots rd (node_at s) l d (node_at s n) ≡ 0
  once_out s l n d o h =
      let m : ℕ = names d (mem n) + slots rd (node_at s) l d (node_at s n) in
      by_test (eqb m 0) (λ t. eqb-true m 0 t) (λ t. let w : m ≡ 0 → ⊥ = eqb-false m 0 t in let g : d < length s.nodes = o.used d
      (omega arith) in absurd (omega arith))

  pub record Grown (s u : State) (l n lo hi : ℕ) : Type 0 where
    pub ok : Ok τ rd (node_at u) l lo hi (node_at u n)
    pub holds : cont rd (node_at u) l (node_at u n) ≡ cont rd (node_at s) l (node_at s n)
    pub sums : (f : MemNode → ℕ) → Steady f → total rd (node_at u) f l (node_at u n) ≡ total rd (node_at s) f l (node_at s n)
    pub longer : length s.nodes ≤ length u.nodes
    pub keep : (c : ℕ) → c < length s.nodes → (c ≡ n → ⊥) → slots rd (node_at s) l c (node_at s n) ≡ 0 → node_at u c ≡ node_at s c
    pub old : (c : ℕ) → c < length s.nodes → slots rd (node_at u) l c (node_at u n) ≡ slots rd (node_at s) l c (node_at s n)
    pub new : (c : ℕ) → length s.nodes ≤ c → c < length u.nodes → slots rd (node_at u) l c (node_at u n) ≡ 1
    pub none : (c : ℕ) → length u.nodes ≤ c → slots rd (node_at u) l c (node_at u n) ≡ 0

  pub grown_then : (s u w : State) (l n lo hi : ℕ) → Grown s u l n lo hi → Grown u w l n lo hi → Grown s w l n lo hi
  grown_then s u w l n lo hi a b =
      record {
        ok = b.ok;
        holds = b.holds ∙ a.holds;
        sums = λ f h. b.sums f h ∙ a.sums f h;
        longer = le_trans a.longer b.longer;
        keep = λ c h d z. b.keep c (le_trans h a.longer) d (a.old c h ∙ z) ∙ a.keep c h d z;
        old = λ c h. b.old c (le_trans h a.longer) ∙ a.old c h;
        new = λ c h g. by_test (ltb c (length u.nodes)) (λ t. let k = ltb-true c _ t in b.old c k ∙ a.new c h k)
            (λ t. b.new c (ltb-false c _ t) g);
        none = b.none;
      }

  -- a tree whose slots stand once each stays so
  pub grown_once : (s u : State) (l n lo hi : ℕ) → Grown s u l n lo hi → Once τ rd s l n → Once τ rd u l n
  grown_once s u l n lo hi g o =
      let m : n < length s.nodes = o.used n (omega (arith, names_same n)) in
      record {
        once = λ c.
            by_test (ltb c (length s.nodes))
            (λ t. omega (arith, o.once c, g.old c (ltb-true c _ t)))
            (λ t.
            let k : length s.nodes ≤ c = ltb-false c _ t in
            let z : names c (mem n) ≡ 0 = names_apart c n (omega arith) in
            by_test (ltb c (length u.nodes))
            (λ v. omega (arith, g.new c k (ltb-true c _ v)))
            (λ v. omega (arith, g.none c (ltb-false c _ v))));
        used = λ c h.
            by_test (ltb c (length u.nodes))
            (λ v. ltb-true c _ v)
            (λ v.
            let k : length u.nodes ≤ c = ltb-false c _ v in
            let w = g.longer in
            let z : names c (mem n) ≡ 0 = names_apart c n (omega arith) in
            absurd (omega (arith, g.none c k)));
      }

  -- ---- a node taken apart at a child in a slot

  module _ (s : State) (l n c lo hi : ℕ) (xs : List Entry) (e : Entry) (ys : List Entry) (row : (node_at s n).entries ≡ xs ++ e ∷ ys)
      (val : e.value ≡ mem c)
      (one : Once τ rd s (suc l) n) (ok : Ok τ rd (node_at s) (suc l) lo hi (node_at s n)) where
    node_c : node_of rd (node_at s) e.value ≡ node_at s c
    unfolding node_of
    node_c = rw val

    sum : (d : ℕ) → slots rd (node_at s) (suc l) d (node_at s n)
        ≡ slots_in rd (node_at s) l d xs + (names d (mem c) + slots rd (node_at s) l d (node_at s c) + slots_in rd (node_at s) l d ys)
    sum d =
        apart_uses rd (node_at s) l (node_at s n) xs e ys row d
        ∙ ap₂ (λ (v : Val) (m : MemNode). slots_in rd (node_at s) l d xs +
        (names d v + slots rd (node_at s) l d m + slots_in rd (node_at s) l d ys)) val node_c

    pub mid : Parts (K τ) (Child τ (Ok τ rd (node_at s) l) (node_of rd (node_at s))) lo hi (lo + K τ e.key) xs e ys
    mid = parts (lo + K τ e.key) xs (omega arith) (λ h. omega arith) (rw row at ok.items)

    pub kid_ok : Ok τ rd (node_at s) l (K τ e.key) mid.up_to (node_at s c)
    kid_ok = rw node_c at mid.own.ok

    pub kid_once : Once τ rd s l c
    kid_once = record { once = λ d. omega (arith, one.once d, sum d); used = λ d h. one.used d (omega (arith, sum d)) }

    -- the child grown: the node's own slot is as it was
    pub up_same : (u : State) → Grown s u l c (K τ e.key) mid.up_to → node_at u n ≡ node_at s n
    up_same u g =
        g.keep n (one.used n (omega (arith, names_same n))) (λ w. omega (arith, names_is n c w, sum n, one.once n, names_same n))
        (omega (arith, sum n, one.once n, names_same n))

    -- and so is the node
    pub grown_up : (u : State) → Grown s u l c (K τ e.key) mid.up_to → Grown s u (suc l) n lo hi
    grown_up u g =
        let n_same : node_at u n ≡ node_at s n = up_same u g in
        let other : (d : ℕ) → 1 ≤ slots_in rd (node_at s) l d xs + slots_in rd (node_at s) l d ys → node_at u d ≡ node_at s d =
        λ d h. g.keep d (one.used d (omega (arith, sum d))) (λ w. omega (arith, names_is d c w, sum d, one.once d))
        (omega (arith, sum d, one.once d)) in
        let fx = frame_all τ rd (node_at s) (node_at u) l xs (λ d h. other d (omega arith)) in
        let fy = frame_all τ rd (node_at s) (node_at u) l ys (λ d h. other d (omega arith)) in
        let row' : (node_at u n).entries ≡ xs ++ ((e ∷ []) ++ ys) = ap (λ (z : MemNode). z.entries) n_same ∙ row in
        let node_c' : node_of rd (node_at u) e.value ≡ node_at u c = unfold node_of in (rw val) in
        let it : Items (K τ) (Child τ (Ok τ rd (node_at u) l) (node_of rd (node_at u))) mid.from (first_or (K τ) hi ys) (e ∷ []) =
        cons {m = mid.up_to} {e = e} mid.before (record {
          key = mid.own.key;
          below = mid.own.below;
          is_one = mid.own.is_one;
          ok = rw node_c'
              g.ok;
        }) (nil (first_le mid.right)) in
        let uses : (d : ℕ) → slots rd (node_at u) (suc l) d (node_at u n) ≡ slots_in rd (node_at s) l d xs +
        (names d (mem c) + slots rd (node_at u) l d (node_at u c) + slots_in rd (node_at s) l d ys) =
        λ d.
        let a : names d e.value + slots rd (node_at u) l d (node_of rd (node_at u) e.value) ≡ names d (mem c) + slots rd (node_at u) l d
        (node_at u c) =
        ap₂ (λ (v : Val) (m : MemNode). names d v + slots rd (node_at u) l d m) val node_c' in
        omega (arith, lift_uses τ rd (node_at s) (node_at u) l xs (e ∷ []) ys (node_at u n) row' fx fy d) in
        record {
          ok = lift_ok τ rd (node_at s) (node_at u) l xs (e ∷ []) ys (node_at u n) row' fx fy lo mid.from mid.up_to hi
              (ap (λ (z : MemNode). z.level) n_same ∙ ok.level) (ap (λ (z : MemNode). z.dead) n_same ∙ ok.live) mid.left it mid.right;
          holds = lift_holds τ rd (node_at s) (node_at u) l xs (e ∷ []) ys (node_at u n) row' fx fy
              ∙ ap (λ (z : List Entry). conts rd (node_at s) l xs ++ (z ++ conts rd (node_at s) l ys))
              (append-nil _ ∙ ap (cont rd (node_at u) l) node_c' ∙ g.holds)
              ∙ sym (apart_holds rd (node_at s) l (node_at s n) xs e ys row
              ∙ ap (λ (m : MemNode). conts rd (node_at s) l xs ++ (cont rd (node_at s) l m ++ conts rd (node_at s) l ys)) node_c);
          sums = λ f h.
              let a : total rd (node_at u) f l (node_of rd (node_at u) e.value) ≡ total rd (node_at s) f l (node_at s c) = ap
              (total rd (node_at u) f l) node_c' ∙ g.sums f h in
              let b : f (node_at u n) ≡ f (node_at s n) = ap f n_same in
              omega (
                arith,
                lift_sums τ rd (node_at s) (node_at u) l xs (e ∷ []) ys (node_at u n) row' fx fy f,
                apart_sums rd (node_at s) l
                    (node_at s n) xs e ys row f,
                ap (total rd (node_at s) f l) node_c,
              );
          longer = g.longer;
          keep = λ d h f z. g.keep d h (λ w. omega (arith, names_is d c w, sum d)) (omega (arith, sum d));
          old = λ d h. omega (arith, uses d, sum d, g.old d h);
          new = λ d h k. omega (arith, uses d, sum d, once_out s (suc l) n d one h, g.new d h k);
          none = λ d h. let w = g.longer in omega (arith, uses d, sum d, once_out s (suc l) n d one (omega arith), g.none d h);
        }

  -- ---- a child loaded: the node that stands under its reference, in the next slot

  module _ (s : State) (l n r lo hi : ℕ) (xs : List Entry) (e : Entry) (ys : List Entry) (row : (node_at s n).entries ≡ xs ++ e ∷ ys)
      (val : e.value ≡ disk r)
      (one : Once τ rd s (suc l) n) (ok : Ok τ rd (node_at s) (suc l) lo hi (node_at s n))
      (bare : (at : ℕ → MemNode) (j d : ℕ) → slots rd at j d (rd r) ≡ 0) where
    abbrev c' : ℕ
    c' = length s.nodes

    abbrev item : Entry
    item = record { key = e.key; value = mem c' }

    abbrev linked : MemNode
    linked = with_entries (node_at s n) (xs ++ item ∷ ys)

    abbrev v : State
    v = add_node (put_node s n linked) (rd r)

    n_used' : n < length s.nodes
    n_used' = one.used n (omega (arith, names_same n))

    v_n : node_at v n ≡ linked
    v_n = at_add_old (put_node s n linked) (rd r) n (omega (arith, n_used', put_count s n linked)) ∙ at_put_same s n linked n_used'

    v_c : node_at v c' ≡ rd r
    v_c = ap (node_at v) (sym (put_count s n linked)) ∙ at_add_new (put_node s n linked) (rd r)

    v_other : (d : ℕ) → d < length s.nodes → (d ≡ n → ⊥) → node_at v d ≡ node_at s d
    v_other d h f = at_add_old (put_node s n linked) (rd r) d (omega (arith, h, put_count s n linked)) ∙ at_put_other s n linked d f

    v_count : length v.nodes ≡ suc (length s.nodes)
    v_count = add_count (put_node s n linked) (rd r) ∙ ap suc (put_count s n linked)

    node_r : node_of rd (node_at s) e.value ≡ rd r
    unfolding node_of
    node_r = rw val

    node_v : node_of rd (node_at v) (mem c') ≡ rd r
    unfolding node_of
    node_v = v_c

    names_r : (d : ℕ) → names d e.value ≡ 0
    unfolding names
    names_r d = rw val

    sum' : (d : ℕ) → slots rd (node_at s) (suc l) d (node_at s n) ≡ slots_in rd (node_at s) l d xs + slots_in rd (node_at s) l d ys
    sum' d =
        let a : slots rd (node_at s) l d (node_of rd (node_at s) e.value) ≡ 0 = ap (slots rd (node_at s) l d) node_r ∙ bare (node_at s) l d in
        omega (arith, apart_uses rd (node_at s) l (node_at s n) xs e ys row d, names_r d)

    same_r : Same τ rd (node_at s) (node_at v) l (rd r)
    same_r = frame τ rd (node_at s) (node_at v) l (rd r) (λ d h. absurd (omega (arith, bare (node_at s) l d)))

    mid' : Parts (K τ) (Child τ (Ok τ rd (node_at s) l) (node_of rd (node_at s))) lo hi (lo + K τ e.key) xs e ys
    mid' = parts (lo + K τ e.key) xs (omega arith) (λ h. omega arith) (rw row at ok.items)

    pub load_grown : Grown s v (suc l) n lo hi
    unfolding with_entries
    load_grown =
        let other : (d : ℕ) → 1 ≤ slots_in rd (node_at s) l d xs + slots_in rd (node_at s) l d ys → node_at v d ≡ node_at s d =
        λ d h. v_other d (one.used d (omega (arith, sum' d))) (λ w. omega (arith, names_is d n w, sum' d, one.once d)) in
        let fx = frame_all τ rd (node_at s) (node_at v) l xs (λ d h. other d (omega arith)) in
        let fy = frame_all τ rd (node_at s) (node_at v) l ys (λ d h. other d (omega arith)) in
        let row' : (node_at v n).entries ≡ xs ++ ((item ∷ []) ++ ys) = ap (λ (z : MemNode). z.entries) v_n in
        let it : Items (K τ) (Child τ (Ok τ rd (node_at v) l) (node_of rd (node_at v))) mid'.from (first_or (K τ) hi ys) (item ∷ []) =
        cons {m = mid'.up_to} {e = item} mid'.before
        (record {
          key = mid'.own.key;
          below = mid'.own.below;
          is_one = unfold is_child in refl;
          ok = rw node_v (same_r.ok (K τ e.key) mid'.up_to (rw node_r at mid'.own.ok));
        }) (nil (first_le mid'.right)) in
        let uses : (d : ℕ) → slots rd (node_at v) (suc l) d (node_at v n) ≡ slots rd (node_at s) (suc l) d (node_at s n) + names d (mem c') =
        λ d.
        let a : slots rd (node_at v) l d (node_of rd (node_at v) (mem c')) ≡ 0 = ap (slots rd (node_at v) l d) node_v ∙ bare (node_at v) l d in
        omega (arith, lift_uses τ rd (node_at s) (node_at v) l xs (item ∷ []) ys (node_at v n) row' fx fy d, sum' d) in
        record {
          ok = lift_ok τ rd (node_at s) (node_at v) l xs (item ∷ []) ys (node_at v n) row' fx fy lo mid'.from mid'.up_to hi
              (ap (λ (z : MemNode). z.level) v_n ∙ ok.level) (ap (λ (z : MemNode). z.dead) v_n ∙ ok.live) mid'.left it mid'.right;
          holds = lift_holds τ rd (node_at s) (node_at v) l xs (item ∷ []) ys (node_at v n) row' fx fy
              ∙ ap (λ (z : List Entry). conts rd (node_at s) l xs ++ (z ++ conts rd (node_at s) l ys))
              (append-nil _ ∙ ap (cont rd (node_at v) l) node_v ∙ same_r.holds ∙ ap (cont rd (node_at s) l) (sym node_r))
              ∙ sym (apart_holds rd (node_at s) l (node_at s n) xs e ys row);
          sums = λ f h.
              let a : total rd (node_at v) f l (node_of rd (node_at v) (mem c')) ≡ total rd (node_at s) f l (node_of rd (node_at s) e.value) =
              ap (total rd (node_at v) f l) node_v ∙ same_r.sums f ∙ ap (total rd (node_at s) f l) (sym node_r) in
              let b : f (node_at v n) ≡ f (node_at s n) = h.same (node_at v n) (node_at s n) (ap (λ (z : MemNode). z.block) v_n)
              (ap (λ (z : MemNode). z.id) v_n) in
              omega (
                arith,
                lift_sums τ rd (node_at s) (node_at v) l xs (item ∷ []) ys (node_at v n) row' fx fy f,
                apart_sums rd (node_at s) l
                    (node_at s n) xs e ys row f,
              );
          longer = omega (arith, v_count);
          keep = λ d h f z. v_other d h f;
          old = λ d h. omega (arith, uses d, names_apart d c' (omega arith));
          new = λ d h k. omega (arith, uses d, once_out s (suc l) n d one h, names_is d c' (omega (arith, v_count)));
          none = λ d h. omega (arith, uses d, once_out s (suc l) n d one (omega (arith, v_count)), names_apart d c' (omega (arith, v_count)));
        }
