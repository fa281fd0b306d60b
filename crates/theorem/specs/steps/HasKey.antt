-- Whether a key is in the tree is whether it is in the leaf of its way. Assumes nothing.
use Rattle.std.specs.Prelude.{◌≡◌, List, ◌++◌, ℕ, suc, ◌≤◌, ◌<◌, min, max}
use Rattle.std.proofs.Math.Path.{refl, ap}
use Rattle.std.proofs.Common.{sym, ◌∙◌, arith}
use Rattle.node.specs.Entry.{Entry}
use Rattle.node.specs.Find.{is_there}
use Rattle.node.specs.Slot.{MemNode}
use Rattle.tree.specs.State.{State, node_at}
use Rattle.tree.specs.Lookup.{Step}
use Rattle.history.specs.Plain.{plain_has}
use Rattle.history.specs.laws.PlainIs.{has_is}
use Rattle.theorem.specs.model.Bounds.{Terms, K, Items, nil, cons, tight, first_or, first_le, KeyIn, Row, rows_le, by_keys}
use Rattle.theorem.specs.model.Lazy.{node_of, cont, conts, Child, Ok, ok_wide, ok_rows, conts_rows}
use Rattle.theorem.specs.model.Lift.{Toward, Parts, parts, apart_holds}
use Rattle.theorem.specs.steps.LeafAndKeys.{Along, end, down}

module _ (τ : Terms) (k : List ℕ) (g : KeyIn τ k) where
  has_right : {lo m : ℕ} {xs : List Entry} (ys : List Entry) → Items (K τ) (Row τ) lo m xs → m ≤ K τ k
      → plain_has τ.order k (xs ++ ys) ≡ plain_has τ.order k ys
  unfolding plain_has
  has_right ys (nil e) h = refl
  has_right ys (cons {e = x} e p r) h =
      let b = rows_le τ r in
      let w = p.below in
      by_keys τ x.key k p.key g
      (λ l t. rw t (has_right ys r h))
      (λ q _ _ _. absurd (omega arith))
      (λ l _ _. absurd (omega arith))

  has_left : {lo hi lo' hi' : ℕ} {xs ys : List Entry} → Items (K τ) (Row τ) lo' hi' xs → Items (K τ) (Row τ) lo hi ys → K τ k < lo
      → plain_has τ.order k (xs ++ ys) ≡ plain_has τ.order k xs
  unfolding plain_has
  has_left (nil z) (nil e) h = refl
  has_left (nil z) (cons {e = x} e p r) h =
      by_keys τ x.key k p.key g
      (λ l t. absurd (omega arith))
      (λ q _ _ _. absurd (omega arith))
      (λ l t u. rw (t, u))
  has_left (cons {e = x} e p q) r h =
      by_keys τ x.key k p.key g
      (λ l t. rw (t, has_left q r h))
      (λ _ _ t u. rw (t, u))
      (λ l t u. rw (t, u))

  module _ (rd : ℕ → MemNode) (s : State) (foot : ℕ) where
    has_down : (l n : ℕ) (ps : List Step) → Along s (Toward τ k) foot l n ps → (lo hi : ℕ) → Ok τ rd (node_at s) l lo hi (node_at s n) → lo ≤ K τ k
        → K τ k < hi
        → plain_has τ.order k (cont rd (node_at s) l (node_at s n)) ≡ plain_has τ.order k (node_at s foot).entries
    unfolding cont
    has_down _ _ _ end lo hi okn a b = refl
    has_down _ _ _ (down {l = l} {n = n} {c = c} {xs = xs} {e = e} {ys = ys} {ps = ps} row val to w) lo hi okn a b =
        let p : Parts (K τ) (Child τ (Ok τ rd (node_at s) l) (node_of rd (node_at s))) lo hi (K τ k) xs e ys =
        parts (K τ k) xs a to.not_above (rw row at okn.items) in
        let node : node_of rd (node_at s) e.value ≡ node_at s c = unfold node_of in (rw val) in
        let okc : Ok τ rd (node_at s) l p.from (first_or (K τ) hi ys) (node_at s c) =
        ok_wide τ rd (node_at s) l (K τ e.key) p.from p.up_to (first_or (K τ) hi ys) (node_at s c) p.before (first_le p.right)
        (rw node at p.own.ok) in
        let next : K τ k < first_or (K τ) hi ys = to.next hi b in
        let rc = ok_rows τ rd (node_at s) l p.from (first_or (K τ) hi ys) (node_at s c) okc in
        ap (plain_has τ.order k) (apart_holds rd (node_at s) l (node_at s n) xs e ys row
        ∙ ap (λ (m : MemNode). conts rd (node_at s) l xs ++ (cont rd (node_at s) l m ++ conts rd (node_at s) l ys)) node)
        ∙ has_right (cont rd (node_at s) l (node_at s c) ++ conts rd (node_at s) l ys) (conts_rows τ rd (node_at s) l p.left) p.not
        ∙ has_left rc (conts_rows τ rd (node_at s) l (tight p.right)) next
        ∙ has_down l c ps w p.from (first_or (K τ) hi ys) okc p.not next

    pub has_way : (l n : ℕ) (ps : List Step) → Along s (Toward τ k) foot l n ps → (lo hi : ℕ) → Ok τ rd (node_at s) l lo hi (node_at s n)
        → is_there τ.order k (cont rd (node_at s) l (node_at s n)) ≡ is_there τ.order k (node_at s foot).entries
    has_way l n ps w lo hi okn =
        let x₁ : min lo (K τ k) ≤ lo = omega arith in
        let x₂ : hi ≤ max hi (suc (K τ k)) = omega arith in
        sym (has_is τ.order k _)
        ∙ has_down l n ps w (min lo (K τ k)) (max hi (suc (K τ k))) (ok_wide τ rd (node_at s) l lo (min lo (K τ k)) hi (max hi (suc (K τ k)))
        (node_at s n) x₁ x₂ okn) (omega arith) (omega arith)
        ∙ has_is τ.order k _
