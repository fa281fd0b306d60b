-- Sums over a tree whose nodes keep their children, and the number of nodes that cuts add. Assumes nothing.
use Rattle.std.specs.Prelude.{◌≡◌, List, [], ◌∷◌, ◌++◌, take, drop}
use Rattle.std.proofs.Math.Path.{refl, sym, ap, ap₂}
use Rattle.std.proofs.Common.{◌∙◌}
use Prim.Native.Nat.{ℕ, zero, suc, ◌+◌, ◌≤◌}
use native.Mathlib.Omega.{arith}
use Rattle.std.proofs.Math.ListN.{length}
use Rattle.node.specs.laws.base.Results.{Holds, holds_ok, holds_bind}
use Rattle.node.specs.Entry.{Entry, Val, ghost, leaf, disk, mem}
use Rattle.node.specs.Slot.{MemNode}
use Rattle.tree.specs.Lent.{Lent}
use Rattle.tree.specs.State.{State, node_at, with_info}
use Rattle.tree.specs.Lookup.{Step}
use Rattle.tree.specs.Edit.{more_nodes, parted, link_right, cut_node, cuts}
use Rattle.theorem.specs.model.Bounds.{Terms, K, Items, nil, cons}
use Rattle.theorem.specs.model.Lazy.{sum_map, node_of, total, totals, slots_in, Child, Ok, frame_all}
use Rattle.theorem.specs.model.Lift.{apart_sums, lift_sums}
use Rattle.theorem.specs.steps.LeafAndKeys.{Once, Along, end, down}
use Rattle.theorem.specs.steps.Grow.{names_is, Grown, grown_once, grown_up, up_same, mid, kid_ok, kid_once}
use Rattle.theorem.specs.steps.CutNode.{cut_more}
use Rattle.theorem.specs.steps.Cuts.{some_of, cuts_below, cuts_down, cuts_grown}
use Rattle.theorem.specs.steps.EachSlotCuts.{parted_slots, link_slots, by_cut}
use Rattle.theorem.specs.steps.Parents.{apart}

-- ---- nodes that keep their children

abbrev pub vals : List Entry → List Val
vals [] = []
vals (e ∷ es) = e.value ∷ vals es

module _ (τ : Terms) (rd at at' : ℕ → MemNode) (f : MemNode → ℕ) (same : (c : ℕ) → f (at' c) ≡ f (at c))
    (shape : (c : ℕ) → ((at c).level ≡ 0 → ⊥) → vals (at' c).entries ≡ vals (at c).entries) where
  by_vals : (a : ℕ → MemNode) (l : ℕ) (es : List Entry) → totals rd a f l es ≡ sum_map (λ v. total rd a f l (node_of rd a v)) (vals es)
  by_vals a l [] = refl
  by_vals a l (e ∷ es) = ap (λ (x : ℕ). total rd a f l (node_of rd a e.value) + x) (by_vals a l es)

  record Like (m m' : MemNode) : Type 0 where
    value : f m' ≡ f m
    kids : (m.level ≡ 0 → ⊥) → vals m'.entries ≡ vals m.entries

  node_like : (v : Val) → Like (node_of rd at v) (node_of rd at' v)
  unfolding node_of
  node_like ghost = record { value = refl; kids = λ h. refl }
  node_like (leaf b) = record { value = refl; kids = λ h. refl }
  node_like (disk r) = record { value = refl; kids = λ h. refl }
  node_like (mem c) = record { value = same c; kids = shape c }

  each_sum : (l : ℕ) → ((lo hi : ℕ) (m m' : MemNode) → Ok τ rd at l lo hi m → Like m m' → total rd at' f l m' ≡ total rd at f l m)
      → {lo hi : ℕ} {es : List Entry} → Items (K τ) (Child τ (Ok τ rd at l) (node_of rd at)) lo hi es
      → sum_map (λ v. total rd at' f l (node_of rd at' v)) (vals es) ≡ sum_map (λ v. total rd at f l (node_of rd at v)) (vals es)
  each_sum l ih (nil e) = refl
  each_sum l ih (cons {m = m} {e = x} e p r) = ap₂ ◌+◌ (ih (K τ x.key) m (node_of rd at x.value) (node_of rd at' x.value) p.ok
      (node_like x.value)) (each_sum l ih r)

  sums_like : (l lo hi : ℕ) (m m' : MemNode) → Ok τ rd at l lo hi m → Like m m' → total rd at' f l m' ≡ total rd at f l m
  unfolding total
  sums_like zero lo hi m m' k a = a.value
  sums_like (suc l) lo hi m m' k a =
      ap₂ ◌+◌ a.value
      (by_vals at' l m'.entries
      ∙ ap (sum_map (λ v. total rd at' f l (node_of rd at' v))) (a.kids (λ z. let y = k.level in omega arith))
      ∙ each_sum l (sums_like l) k.items
      ∙ sym (by_vals at l m.entries))

  -- a sum over a slot's tree is as it was
  pub sums_same : (l lo hi n : ℕ) → Ok τ rd at l lo hi (at n) → total rd at' f l (at' n) ≡ total rd at f l (at n)
  sums_same l lo hi n k = sums_like l lo hi (at n) (at' n) k (record { value = same n; kids = shape n })

-- ---- the number of nodes, after cuts below the top of a way

module _ (τ : Terms) (rd : ℕ → MemNode) (lent : Lent) where
  abbrev one : MemNode → ℕ
  one m = 1

  -- a child's tree has j nodes more, and so has its parent's
  up_more : (s u : State) (l n c lo hi : ℕ) (xs : List Entry) (e : Entry) (ys : List Entry) (row : (node_at s n).entries ≡ xs ++ e ∷ ys)
      (val : e.value
      ≡ mem c)
      (once : Once τ rd s (suc l) n) (okn : Ok τ rd (node_at s) (suc l) lo hi (node_at s n)) → (j k : ℕ)
      → Grown τ rd s u l c (K τ e.key) (mid τ rd s l n c lo hi xs e ys row val once okn).up_to
      → total rd (node_at u) one l (node_at u c) + j ≡ total rd (node_at s) one l (node_at s c) + k
      → total rd (node_at u) one (suc l) (node_at u n) + j ≡ total rd (node_at s) one (suc l) (node_at s n) + k
  unfolding node_of
  up_more s u l n c lo hi xs e ys row val once okn j k g h =
      let sum = apart τ rd s l n c xs e ys row val in
      let other : (d : ℕ) → 1 ≤ slots_in rd (node_at s) l d xs + slots_in rd (node_at s) l d ys → node_at u d ≡ node_at s d =
      λ d y. g.keep d (once.used d (omega (arith, sum d))) (λ w. omega (arith, names_is d c w, sum d, once.once d))
      (omega (arith, sum d, once.once d)) in
      let fx = frame_all τ rd (node_at s) (node_at u) l xs (λ d y. other d (omega arith)) in
      let fy = frame_all τ rd (node_at s) (node_at u) l ys (λ d y. other d (omega arith)) in
      let row' : (node_at u n).entries ≡ xs ++ ((e ∷ []) ++ ys) =
      ap (λ (z : MemNode). z.entries) (up_same τ rd s l n c lo hi xs e ys row val once okn u g) ∙ row in
      let a : total rd (node_at u) one l (node_of rd (node_at u) e.value) ≡ total rd (node_at u) one l (node_at u c) =
      ap (λ (v : Val). total rd (node_at u) one l (node_of rd (node_at u) v)) val in
      let b : total rd (node_at s) one l (node_of rd (node_at s) e.value) ≡ total rd (node_at s) one l (node_at s c) =
      ap (λ (v : Val). total rd (node_at s) one l (node_of rd (node_at s) v)) val in
      omega (
        arith,
        lift_sums τ rd (node_at s) (node_at u) l xs (e ∷ []) ys (node_at u n) row' fx fy one,
        apart_sums rd (node_at s) l (node_at s n) xs e ys row one,
      )

  -- nodes and slots grow alike
  abbrev pub Tally : State → State → ℕ → ℕ → Type 0
  Tally s u l n = total rd (node_at u) (λ m. 1) l (node_at u n) + length s.nodes ≡ total rd (node_at s) (λ m. 1) l (node_at s n) + length u.nodes

  more_tally : (s u : State) (j l n : ℕ) → Tally s u l n → Tally s (more_nodes u j) l n
  unfolding more_nodes with_info node_at
  more_tally s u j l n h = h

  one_tally : (s : State) (l p n lo hi : ℕ) (xs : List Entry) (e : Entry) (ys : List Entry) → (node_at s p).entries ≡ xs ++ e ∷ ys → e.value ≡ mem n
      → Once τ rd s (suc l) p
      → Ok τ rd (node_at s) (suc l) lo hi (node_at s p)
      → Holds (λ u. Tally s u (suc l) p) (cut_node lent (record { slot = p; child = length xs } ∷ []) n s)
  one_tally s l p n lo hi xs e ys row val once okp =
      by_cut (λ u. Tally s u (suc l) p) lent (record { slot = p; child = length xs }) n s
      (λ t. refl)
      (λ c live ps room.
      let t : State = parted s n c in
      let u : State = link_right t p (length xs) (length s.nodes) in
      let (a, as', ea) = some_of (take c (node_at s n).entries) ps.left_some in
      let (b, bs, eb) = some_of (drop c (node_at s n).entries) ps.right_some in
      more_tally s u 1 (suc l) p (omega (
        arith,
        cut_more τ rd s l p n lo hi c xs e ys b bs row val once okp eb a as' ea,
        link_slots t p (length xs) (length s.nodes),
        parted_slots s n c,
      )))

  pub cuts_tally : (s : State) (T : List Entry → Entry → List Entry → Type 0) (foot l n : ℕ) (ps : List Step) → Along s T foot l n ps → (lo hi : ℕ)
      → Once τ rd s l n
      → Ok τ rd (node_at s) l lo hi (node_at s n) → Holds (λ u. Tally s u l n) (cuts_below τ rd lent ps s)
  unfolding cuts_below cuts
  cuts_tally s T foot _ _ _ end lo hi once okn = holds_ok refl
  cuts_tally s T foot _ _ _ (down {l = l} {n = n} {c = c} {xs = xs} {e = e} {ys = ys} {ps = ps} row val to w) lo hi once okn =
      rw (cuts_down τ rd lent s T foot (record { slot = n; child = length xs } ∷ []) l c ps w)
      (holds_bind (cuts_below τ rd lent ps s) _ λ t q.
      let md = mid τ rd s l n c lo hi xs e ys row val once okn in
      let oc = kid_once τ rd s l n c lo hi xs e ys row val once okn in
      let kc = kid_ok τ rd s l n c lo hi xs e ys row val once okn in
      let g = (cuts_grown τ rd lent s T foot l c ps w (K τ e.key) md.up_to oc kc).at t q in
      let i = (cuts_tally s T foot l c ps w (K τ e.key) md.up_to oc kc).at t q in
      let up : Grown τ rd s t (suc l) n lo hi = grown_up τ rd s l n c lo hi xs e ys row val once okn t g in
      let row' : (node_at t n).entries ≡ xs ++ e ∷ ys = ap (λ (z : MemNode). z.entries) (up_same τ rd s l n c lo hi xs e ys row val once okn t g)
      ∙ row in
      let j = up_more s t l n c lo hi xs e ys row val once okn (length s.nodes) (length t.nodes) g i in
      record {
        at = λ u y. let k = (one_tally t l n c lo hi xs e ys row' val (grown_once τ rd s t (suc l) n lo hi up once) up.ok).at u y in
            omega arith;
      })
