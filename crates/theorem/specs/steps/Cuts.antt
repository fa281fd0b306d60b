-- Cuts on a way, bottom up, below its top: what the top holds is as it was, within its bounds. Assumes nothing.
use Rattle.std.specs.Prelude.{◌≡◌, List, [], ◌∷◌, ◌++◌, ◌||◌, ℕ, suc, ◌≤◌, take, drop, eqb}
use Rattle.std.proofs.Math.Path.{refl, ap}
use Rattle.std.proofs.Common.{◌∙◌, arith}
use Rattle.std.proofs.Math.ListN.{length}
use Rattle.node.specs.Result.{Result, ok, ◌>>=◌}
use Rattle.node.specs.laws.base.Results.{Holds, holds_ok, holds_bind, holds_then}
use Rattle.node.specs.Entry.{Entry, mem}
use Rattle.node.specs.Fit.{fits}
use Rattle.node.specs.Cut.{cut}
use Rattle.node.specs.laws.fit.Cut.{Parted, cut_parts}
use Rattle.node.specs.Slot.{MemNode}
use Rattle.node.specs.laws.base.Tests.{by_test}
use Rattle.tree.specs.Lent.{Lent}
use Rattle.tree.specs.State.{State, node_at, with_info}
use Rattle.tree.specs.Lookup.{Step}
use Rattle.tree.specs.Edit.{more_nodes, room_for, parted, link_right, cut_at, cut_node, cuts}
use Rattle.theorem.specs.model.Bounds.{Terms, K}
use Rattle.theorem.specs.model.Lazy.{Ok}
use Rattle.theorem.specs.steps.LeafAndKeys.{Once, Along, end, down}
use Rattle.theorem.specs.steps.Grow.{Grown, grown_then, grown_once, grown_up, up_same, mid, kid_ok, kid_once}
use Rattle.theorem.specs.steps.CutNode.{cut_grown}
use Rattle.theorem.specs.steps.Way.{grown_refl}

pub some_of : (es : List Entry) → 1 ≤ length es → (b : Entry) × (bs : List Entry) × (es ≡ b ∷ bs)
some_of [] h = absurd (omega arith)
some_of (b ∷ bs) h = (b, bs, refl)

module _ (τ : Terms) (rd : ℕ → MemNode) (lent : Lent) where
  -- the tree's counts stand beside its slots
  grown_more : (s u : State) (k l n lo hi : ℕ) → Grown τ rd s u l n lo hi → Grown τ rd s (more_nodes u k) l n lo hi
  unfolding more_nodes with_info node_at
  grown_more s u k l n lo hi g =
      record { ok = g.ok; holds = g.holds; sums = g.sums; longer = g.longer; keep = g.keep; old = g.old; new = g.new; none = g.none }

  -- one node under its parent: it fits, or it is cut
  cut_one : (s : State) (l p n lo hi : ℕ) (xs : List Entry) (e : Entry) (ys : List Entry) → (node_at s p).entries ≡ xs ++ e ∷ ys → e.value ≡ mem n
      → Once τ rd s (suc l) p
      → Ok τ rd (node_at s) (suc l) lo hi (node_at s p) → Holds (λ u. Grown τ rd s u (suc l) p lo hi)
      (cut_node lent (record { slot = p; child = length xs } ∷ []) n s)
  unfolding cut_node cut_at
  cut_one s l p n lo hi xs e ys row val one okp =
      by_test ((node_at s n).dead || fits s.info (eqb n s.root) (node_at s n).level (node_at s n).entries)
      (λ t. rw t (holds_ok (grown_refl τ rd lent (λ x. Unit {0}) s (suc l) p lo hi okp one)))
      (λ t. rw t (holds_bind (cut s.info (node_at s n).level (node_at s n).entries) _ λ c q.
      let ps : Parted s.info (node_at s n).level (node_at s n).entries c = cut_parts s.info (node_at s n).level (node_at s n).entries c q in
      let (a, as', ea) = some_of (take c (node_at s n).entries) ps.left_some in
      let (b, bs, eb) = some_of (drop c (node_at s n).entries) ps.right_some in
      holds_then (room_for lent s 1) _ λ _ _. holds_ok
      (grown_more s (link_right (parted s n c) p (length xs) (length s.nodes)) 1 (suc l) p lo hi
      (cut_grown τ rd s l p n lo hi c xs e ys b bs row val one okp eb a as' ea))))

  -- cuts below the top of a way
  unfoldable pub cuts_below : List Step → State → Result State
  cuts_below [] s = ok s
  cuts_below (x ∷ ps) s = cuts lent (x ∷ []) ps s

  pub cuts_down : (s : State) (T : List Entry → Entry → List Entry → Type 0) (leaf : ℕ) (up : List Step) (l c : ℕ) (ps : List Step)
      → Along s T leaf l c ps
      → cuts lent up ps s ≡ (cuts_below ps s >>= cut_node lent up c)
  unfolding cuts cuts_below
  cuts_down s T leaf up l c ps end = refl
  cuts_down s T leaf up l c ps (down a b d w) = refl

  pub cuts_grown : (s : State) (T : List Entry → Entry → List Entry → Type 0) (leaf l n : ℕ) (ps : List Step) → Along s T leaf l n ps → (lo hi : ℕ)
      → Once τ rd s l n
      → Ok τ rd (node_at s) l lo hi (node_at s n) → Holds (λ u. Grown τ rd s u l n lo hi) (cuts_below ps s)
  unfolding cuts_below cuts
  cuts_grown s T leaf _ _ _ end lo hi one okn = holds_ok (grown_refl τ rd lent (λ x. Unit {0}) s 0 leaf lo hi okn one)
  cuts_grown s T leaf _ _ _ (down {l = l} {n = n} {c = c} {xs = xs} {e = e} {ys = ys} {ps = ps} row val to w) lo hi one okn =
      rw (cuts_down s T leaf (record { slot = n; child = length xs } ∷ []) l c ps w)
      (holds_bind (cuts_below ps s) _ λ t q.
      let g = (cuts_grown s T leaf l c ps w (K τ e.key) (mid τ rd s l n c lo hi xs e ys row val one okn).up_to
      (kid_once τ rd s l n c lo hi xs e ys row val one okn) (kid_ok τ rd s l n c lo hi xs e ys row val one okn)).at t q in
      let up : Grown τ rd s t (suc l) n lo hi = grown_up τ rd s l n c lo hi xs e ys row val one okn t g in
      let row' : (node_at t n).entries ≡ xs ++ e ∷ ys = ap (λ (z : MemNode). z.entries) (up_same τ rd s l n c lo hi xs e ys row val one okn t g)
      ∙ row in
      record {
        at = λ u y. grown_then τ rd s t u (suc l) n lo hi up
            ((cut_one t l n c lo hi xs e ys row' val (grown_once τ rd s t (suc l) n lo hi up one) up.ok).at u y);
      })
