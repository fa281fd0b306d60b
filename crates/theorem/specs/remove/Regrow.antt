-- Steps that change no leaf entry and lose no slot, with the number of nodes: one node a slot more. An index key set to its child's first key, and a
-- cut under a parent, are such steps. Assumes nothing.
use Rattle.std.specs.Prelude.{◌≡◌, refl, List, [], ◌∷◌, ◌++◌, ℕ, suc, ◌+◌, ◌≤◌, ◌<◌, length, take, drop}
use Rattle.std.proofs.Common.{sym, ap₂, subst, ◌∙◌, append-nil, le_trans}
use Rattle.std.proofs.Math.Path.{ap}
use native.Mathlib.Omega.{arith}
use Rattle.node.specs.laws.base.Results.{Holds}
use Rattle.node.specs.Entry.{Entry, Val, mem}
use Rattle.node.specs.Slot.{MemNode}
use Rattle.tree.specs.Lent.{Lent}
use Rattle.tree.specs.State.{State, node_at, with_info, changed}
use Rattle.tree.specs.laws.state.State.{at_put_same, put_count}
use Rattle.tree.specs.Edit.{set_index_key, more_nodes, parted, link_right, cut_node}
use Rattle.theorem.specs.model.Bounds.{Terms, K, Items, nil, cons, first_or, first_le, KeyOk}
use Rattle.theorem.specs.model.Lazy.{node_of, cont, total, names, slots, conts, slots_in, names_same, Child, Ok, ok_live, ok_tight, ok_first, Same}
use Rattle.theorem.specs.model.Lazy.{frame, frame_all}
use Rattle.theorem.specs.model.Lift.{Parts, apart_holds, apart_sums, apart_uses, lift_ok, lift_holds, lift_uses, lift_sums}
use Rattle.theorem.specs.steps.LeafAndKeys.{Once, Keyed, set_index}
use Rattle.theorem.specs.steps.Grow.{names_is, once_out, Grown, grown_then, grown_up, up_same, mid, kid_ok}
use Rattle.theorem.specs.steps.CutNode.{cut_grown, cut_more}
use Rattle.theorem.specs.steps.Way.{grown_refl}
use Rattle.theorem.specs.steps.Cuts.{some_of}
use Rattle.theorem.specs.steps.EachSlot.{by_index}
use Rattle.theorem.specs.steps.EachSlotCuts.{parted_slots, by_cut}

link_slots : (s : State) (p i r : ℕ) → length (link_right s p i r).nodes ≡ length s.nodes
unfolding link_right
link_slots s p i r = put_count s p _

module _ (τ : Terms) (rd : ℕ → MemNode) where
  -- how many nodes stand at and below slot n
  abbrev pub nodes_at : State → ℕ → ℕ → ℕ
  nodes_at s l n = total rd (node_at s) (λ m. 1) l (node_at s n)

  pub record Regrown (s u : State) (l n lo hi : ℕ) : Type 0 where
    pub grown : Grown τ rd s u l n lo hi
    pub nodes : nodes_at u l n + length s.nodes ≡ nodes_at s l n + length u.nodes

  pub regrown_refl : (lent : Lent) (s : State) (l n lo hi : ℕ) → Ok τ rd (node_at s) l lo hi (node_at s n) → Once τ rd s l n → Regrown s s l n lo hi
  regrown_refl lent s l n lo hi h o = record { grown = grown_refl τ rd lent (λ x. Unit {0}) s l n lo hi h o; nodes = refl }

  pub regrown_then : (s t u : State) (l n lo hi : ℕ) → Regrown s t l n lo hi → Regrown t u l n lo hi → Regrown s u l n lo hi
  regrown_then s t u l n lo hi a b =
      record { grown = grown_then τ rd s t u l n lo hi a.grown b.grown; nodes = omega (arith, a.nodes, b.nodes) }

  -- ---- at a child

  module _ (s : State) (l n c lo hi : ℕ) (xs : List Entry) (e : Entry) (ys : List Entry) (row : (node_at s n).entries ≡ xs ++ e ∷ ys)
      (val : e.value ≡ mem c)
      (one : Once τ rd s (suc l) n) (okn : Ok τ rd (node_at s) (suc l) lo hi (node_at s n)) where
    node_c : node_of rd (node_at s) e.value ≡ node_at s c
    unfolding node_of
    node_c = rw val

    pub kid_sum : (d : ℕ) → slots rd (node_at s) (suc l) d (node_at s n)
        ≡ slots_in rd (node_at s) l d xs + (names d (mem c) + slots rd (node_at s) l d (node_at s c) + slots_in rd (node_at s) l d ys)
    kid_sum d =
        apart_uses rd (node_at s) l (node_at s n) xs e ys row d
        ∙ ap₂ (λ (v : Val) (m : MemNode). slots_in rd (node_at s) l d xs
        + (names d v + slots rd (node_at s) l d m + slots_in rd (node_at s) l d ys)) val
        node_c

    abbrev m : Parts (K τ) (Child τ (Ok τ rd (node_at s) l) (node_of rd (node_at s))) lo hi (lo + K τ e.key) xs e ys
    m = mid τ rd s l n c lo hi xs e ys row val one okn

    abbrev ok_c : Ok τ rd (node_at s) l (K τ e.key) m.up_to (node_at s c)
    ok_c = kid_ok τ rd s l n c lo hi xs e ys row val one okn

    -- the child regrown
    pub regrown_up : (u : State) → Regrown s u l c (K τ e.key) m.up_to → Regrown s u (suc l) n lo hi
    regrown_up u g =
        let n_same : node_at u n ≡ node_at s n = up_same τ rd s l n c lo hi xs e ys row val one okn u g.grown in
        let other : (d : ℕ) → 1 ≤ slots_in rd (node_at s) l d xs + slots_in rd (node_at s) l d ys → node_at u d ≡ node_at s d =
        λ d h. g.grown.keep d (one.used d (omega (arith, kid_sum d))) (λ w. omega (arith, names_is d c w, kid_sum d, one.once d))
        (omega (arith, kid_sum d, one.once d)) in
        let fx = frame_all τ rd (node_at s) (node_at u) l xs (λ d h. other d (omega arith)) in
        let fy = frame_all τ rd (node_at s) (node_at u) l ys (λ d h. other d (omega arith)) in
        let row' : (node_at u n).entries ≡ xs ++ ((e ∷ []) ++ ys) = ap (λ (z : MemNode). z.entries) n_same ∙ row in
        let node_c' : node_of rd (node_at u) e.value ≡ node_at u c = unfold node_of in (rw val) in
        record {
          grown = grown_up τ rd s l n c lo hi xs e ys row val one okn u g.grown;
          nodes = omega (
            arith,
            g.nodes,
            lift_sums τ rd (node_at s) (node_at u) l xs (e ∷ []) ys (node_at u n) row' fx fy (λ m. 1),
            apart_sums rd (node_at s) l (node_at s n) xs e ys row (λ m. 1),
            ap (total rd (node_at s) (λ m. 1) l) node_c,
            ap (total rd (node_at u) (λ m. 1) l) node_c',
          );
        }

    n_used : n < length s.nodes
    n_used = one.used n (omega (arith, names_same n))

    -- its index key set to its first key
    module _ (f : Entry) (fs : List Entry) (some : (node_at s c).entries ≡ f ∷ fs) where
      abbrev u : State
      u = set_index_key s n (length xs) c

      pub keyed : Keyed s u n xs f e.value ys
      keyed = set_index s n c xs e ys f fs n_used row some (ok_live τ rd (node_at s) l (K τ e.key) m.up_to (node_at s c) ok_c)

      placed : ((node_at u n).block ≡ (node_at s n).block) × ((node_at u n).id ≡ (node_at s n).id)
      unfolding changed
      placed =
          by_index (λ (v : State). ((node_at v n).block ≡ (node_at s n).block) × ((node_at v n).id ≡ (node_at s n).id)) s n (length xs) c (refl, refl)
          (λ k. (ap (λ (z : MemNode). z.block) (at_put_same s n _ n_used), ap (λ (z : MemNode). z.id) (at_put_same s n _ n_used)))

      n_off : (d : ℕ) → d ≡ n → 1 ≤ slots rd (node_at s) (suc l) d (node_at s n) → ⊥
      n_off d q h = omega (arith, one.once d, names_is d n q)

      fc : Same τ rd (node_at s) (node_at u) l (node_at s c)
      fc = frame τ rd (node_at s) (node_at u) l (node_at s c) (λ d h. keyed.other d (λ q. n_off d q (omega (arith, kid_sum d))))

      abbrev item : Entry
      item = record { key = f.key; value = e.value }

      node_c' : node_of rd (node_at u) e.value ≡ node_at s c
      unfolding node_of
      node_c' = rw val (keyed.other c (λ q. n_off c q (omega (arith, kid_sum c, names_same c))))

      firsts : KeyOk τ f.key × (K τ f.key < m.up_to) × (K τ e.key ≤ K τ f.key)
      firsts = ok_first τ rd (node_at s) l (K τ e.key) m.up_to (node_at s c) f fs some ok_c

      tight_c : Ok τ rd (node_at s) l (K τ f.key) m.up_to (node_at s c)
      tight_c =
          subst (λ (z : List Entry). Ok τ rd (node_at s) l (first_or (K τ) m.up_to z) m.up_to (node_at s c)) some
          (ok_tight τ rd (node_at s) l (K τ e.key) m.up_to (node_at s c) ok_c)

      pub key_regrown : Regrown s u (suc l) n lo hi
      key_regrown =
          let other : (d : ℕ) → 1 ≤ slots_in rd (node_at s) l d xs + slots_in rd (node_at s) l d ys → node_at u d ≡ node_at s d =
          λ d h. keyed.other d (λ q. n_off d q (omega (arith, kid_sum d))) in
          let fx = frame_all τ rd (node_at s) (node_at u) l xs (λ d h. other d (omega arith)) in
          let fy = frame_all τ rd (node_at s) (node_at u) l ys (λ d h. other d (omega arith)) in
          let row' : (node_at u n).entries ≡ xs ++ ((item ∷ []) ++ ys) = keyed.row in
          let it : Items (K τ) (Child τ (Ok τ rd (node_at u) l) (node_of rd (node_at u))) m.from (first_or (K τ) hi ys) (item ∷ []) =
          cons {m = m.up_to} {e = item} (le_trans m.before firsts.2)
          (record { key = firsts.0; below = firsts.1; is_one = m.own.is_one; ok = rw node_c' (fc.ok (K τ f.key) m.up_to tight_c) })
          (nil (first_le m.right)) in
          let uses : (d : ℕ) → slots rd (node_at u) (suc l) d (node_at u n) ≡ slots rd (node_at s) (suc l) d (node_at s n) =
          λ d.
          let a : names d e.value + slots rd (node_at u) l d (node_of rd (node_at u) e.value) ≡ names d (mem c) + slots rd (node_at s) l d
          (node_at s c) =
          ap₂ (λ (v : Val) (z : MemNode). names d v + slots rd (node_at u) l d z) val node_c' ∙ ap (λ (z : ℕ). names d (mem c) + z) (fc.uses d) in
          omega (arith, lift_uses τ rd (node_at s) (node_at u) l xs (item ∷ []) ys (node_at u n) row' fx fy d, kid_sum d) in
          let sums : (h : MemNode → ℕ)
          → total rd (node_at u) h (suc l) (node_at u n) + h (node_at s n) ≡ total rd (node_at s) h (suc l) (node_at s n) + h (node_at u n) =
          λ h. omega (
            arith,
            lift_sums τ rd (node_at s) (node_at u) l xs (item ∷ []) ys (node_at u n) row' fx fy h,
            apart_sums rd (node_at s) l (node_at s n) xs e ys row h,
            ap (total rd (node_at s) h l) node_c,
            ap (total rd (node_at u) h l) node_c',
            fc.sums h,
          ) in
          record {
            grown = record {
              ok = lift_ok τ rd (node_at s) (node_at u) l xs (item ∷ []) ys (node_at u n) row' fx fy lo m.from m.up_to hi
                  (keyed.level ∙ okn.level) (keyed.dead ∙ okn.live)
                  m.left it m.right;
              holds = lift_holds τ rd (node_at s) (node_at u) l xs (item ∷ []) ys (node_at u n) row' fx fy
                  ∙ ap (λ (z : List Entry). conts rd (node_at s) l xs ++ (z ++ conts rd (node_at s) l ys))
                  (append-nil _ ∙ ap (cont rd (node_at u) l) node_c' ∙ fc.holds ∙ ap (cont rd (node_at s) l) (sym node_c))
                  ∙ sym (apart_holds rd (node_at s) l (node_at s n) xs e ys row);
              sums = λ h k. let b : h (node_at u n) ≡ h (node_at s n) = k.same (node_at u n) (node_at s n) placed.0 placed.1 in
                  omega (arith, sums h);
              longer = omega (arith, keyed.count);
              keep = λ d h p z. keyed.other d p;
              old = λ d h. uses d;
              new = λ d h k. absurd (omega (arith, keyed.count));
              none = λ d h. omega (arith, uses d, once_out τ rd s (suc l) n d one (omega (arith, keyed.count)));
            };
            nodes = omega (arith, sums (λ z. 1), keyed.count);
          }

  -- ---- a cut under a parent

  regrown_more : (s u : State) (k l n lo hi : ℕ) → Regrown s u l n lo hi → Regrown s (more_nodes u k) l n lo hi
  unfolding more_nodes with_info node_at
  regrown_more s u k l n lo hi h =
      let g = h.grown in
      record {
        grown = record {
          ok = g.ok;
          holds = g.holds;
          sums = g.sums;
          longer = g.longer;
          keep = g.keep;
          old = g.old;
          new = g.new;
          none =
              g.none;
        };
        nodes = h.nodes;
      }

  pub cut_regrown : (lent : Lent) (s : State) (l p n lo hi : ℕ) (xs : List Entry) (e : Entry) (ys : List Entry) → (node_at s p).entries ≡ xs ++ e ∷ ys
      → e.value ≡ mem n
      → Once τ rd s (suc l) p → Ok τ rd (node_at s) (suc l) lo hi (node_at s p)
      → Holds (λ u. Regrown s u (suc l) p lo hi) (cut_node lent (record { slot = p; child = length xs } ∷ []) n s)
  cut_regrown lent s l p n lo hi xs e ys row val one okp =
      by_cut (λ (u : State). Regrown s u (suc l) p lo hi) lent (record { slot = p; child = length xs }) n s
      (λ t. regrown_refl lent s (suc l) p lo hi okp one)
      (λ c live ps room.
      let (a, as', ea) = some_of (take c (node_at s n).entries) ps.left_some in
      let (b, bs, eb) = some_of (drop c (node_at s n).entries) ps.right_some in
      let u : State = link_right (parted s n c) p (length xs) (length s.nodes) in
      let g = cut_grown τ rd s l p n lo hi c xs e ys b bs row val one okp eb a as' ea in
      regrown_more s u 1 (suc l) p lo hi
      (record {
        grown = g;
        nodes = omega (
          arith,
          cut_more τ rd s l p n lo hi c xs e ys b bs row val one okp eb a as' ea,
          link_slots (parted s n c) p (length xs) (length s.nodes),
          parted_slots s n c,
        );
      }))
