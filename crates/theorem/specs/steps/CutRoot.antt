-- A root cut in two: the new root above both parts stands for what the old one stood for, within its bounds. Assumes nothing.
use Rattle.std.specs.Prelude.{◌≡◌, refl, false, length, take, drop, ltb, eqb}
use Rattle.std.proofs.Common.{sym, subst, ◌∙◌, le_refl, take-append-drop, ltb-true, ltb-false, eqb-true}
use Rattle.std.proofs.Math.Path.{ap}
use mathlib.Core.List.{List, [], ◌∷◌, ◌++◌, append-nil}
use Prim.Native.Nat.{ℕ, suc, ◌+◌, ◌≤◌, ◌<◌}
use native.Mathlib.Omega.{arith}
use Rattle.node.specs.Entry.{Entry, mem}
use Rattle.node.specs.Find.{key_at}
use Rattle.node.specs.Slot.{MemNode, is_child}
use Rattle.std.proofs.lemmas.Bool.{eqb-false}
use Rattle.node.specs.laws.base.Tests.{by_test}
use Rattle.tree.specs.State.{State, node_at, put_node, with_root, changed, made, with_place}
use Rattle.tree.specs.laws.state.State.{put_count, add_count}
use Rattle.tree.specs.Edit.{parted, root_entries, grow_root}
use Rattle.tree.specs.laws.state.Edit.{parted_left, parted_right, parted_other, parted_count, grown_root, grown_top, grown_old, grown_other}
use Rattle.theorem.specs.model.Bounds.{Terms, K, nil, cons, KeyOk}
use Rattle.theorem.specs.model.Lazy.{node_of, cont, total, names, slots, conts, totals, slots_in, names_same, Ok, ok_tight, ok_first}
use Rattle.theorem.specs.steps.LeafAndKeys.{Once}
use Rattle.theorem.specs.steps.Grow.{names_is, names_apart, Steady, once_out}
use Rattle.theorem.specs.steps.CutNode.{Between, halves_holds, halves_uses, halves_sums, halves_ok}

module _ (τ : Terms) (rd : ℕ → MemNode) (s : State) (l n lo hi c : ℕ) (one : Once τ rd s l n) (okn : Ok τ rd (node_at s) l lo hi (node_at s n))
    (level : (node_at s n).level ≡ l)
    (b : Entry) (bs : List Entry) (some : drop c (node_at s n).entries ≡ b ∷ bs) (a : Entry) (as' : List Entry)
    (before : take c (node_at s n).entries ≡ a ∷ as') where
  abbrev r : ℕ
  r = length s.nodes

  abbrev s₁ : State
  s₁ = parted s n c

  abbrev u : State
  u = grow_root s₁ n r

  abbrev top : ℕ
  top = suc (length s.nodes)

  n_used : n < length s.nodes
  n_used = one.used n (omega (arith, names_same n))

  count₁ : length s₁.nodes ≡ suc (length s.nodes)
  count₁ = parted_count s n c n_used

  pub top_root : u.root ≡ top
  top_root = grown_root s₁ n r ∙ count₁

  u_top : node_at u top ≡ with_place (made (suc (node_at s₁ n).level) (root_entries s₁ n r)) (node_at s₁ n).block (node_at s₁ n).id
  u_top = ap (node_at u) (sym top_root) ∙ grown_top s₁ n r

  u_n : node_at u n ≡ with_place (changed (node_at s n) (take c (node_at s n).entries)) [] []
  u_n = grown_old s₁ n r (omega (arith, n_used, count₁)) ∙ ap (λ (m : MemNode). with_place m [] []) (parted_left s n c n_used)

  u_r : node_at u r ≡ made (node_at s n).level (drop c (node_at s n).entries)
  u_r = grown_other s₁ n r r (omega (arith, count₁)) (λ q. omega (arith, n_used)) ∙ parted_right s n c n_used

  u_other : (d : ℕ) → d < length s.nodes → (d ≡ n → ⊥) → node_at u d ≡ node_at s d
  u_other d h f = grown_other s₁ n r d (omega (arith, count₁)) f ∙ parted_other s n c n_used d h f

  agree : (d : ℕ) → 1 ≤ slots rd (node_at s) l d (node_at s n) → node_at u d ≡ node_at s d
  agree d h = u_other d (one.used d (omega arith)) (λ q. omega (arith, names_is d n q, one.once d))

  top_row : (node_at u top).entries ≡ record { key = a.key; value = mem n } ∷ record { key = b.key; value = mem r } ∷ []
  unfolding root_entries with_place made key_at changed
  top_row = ap (λ (m : MemNode). m.entries) u_top ∙ rw (parted_left s n c n_used, parted_right s n c n_used, before, some)

  top_level : (node_at u top).level ≡ suc l
  unfolding with_place made changed
  top_level = ap (λ (m : MemNode). m.level) u_top ∙ ap suc (ap (λ (m : MemNode). m.level) (parted_left s n c n_used) ∙ level)

  top_dead : (node_at u top).dead ≡ false
  unfolding with_place made
  top_dead = ap (λ (m : MemNode). m.dead) u_top

  left_row : (node_at u n).entries ≡ take c (node_at s n).entries
  unfolding with_place changed
  left_row = ap (λ (m : MemNode). m.entries) u_n

  left_level : (node_at u n).level ≡ (node_at s n).level
  unfolding with_place changed
  left_level = ap (λ (m : MemNode). m.level) u_n

  left_dead : (node_at u n).dead ≡ (node_at s n).dead
  unfolding with_place changed
  left_dead = ap (λ (m : MemNode). m.dead) u_n

  right_row : (node_at u r).entries ≡ drop c (node_at s n).entries
  unfolding made
  right_row = ap (λ (m : MemNode). m.entries) u_r

  right_level : (node_at u r).level ≡ (node_at s n).level
  unfolding made
  right_level = ap (λ (m : MemNode). m.level) u_r

  right_dead : (node_at u r).dead ≡ false
  unfolding made
  right_dead = ap (λ (m : MemNode). m.dead) u_r

  apart : (node_at s n).entries ≡ take c (node_at s n).entries ++ drop c (node_at s n).entries
  apart = sym (take-append-drop c (node_at s n).entries)

  two : Between τ rd (node_at s) (node_at u) (node_at s n) (node_at u n)
      (node_at u r) _ _ apart left_row right_row left_level right_level left_dead right_dead l lo hi
  two = halves_ok τ rd (node_at s) (node_at u) (node_at s n) (node_at u n)
      (node_at u r) _ _ apart left_row right_row left_level right_level left_dead right_dead l lo hi agree okn

  left_first : KeyOk τ a.key × (K τ a.key < two.mid) × (lo ≤ K τ a.key)
  left_first = ok_first τ rd (node_at u) l lo two.mid (node_at u n) a as' (left_row ∙ before) two.first

  right_first : KeyOk τ b.key × (K τ b.key < hi) × (two.mid ≤ K τ b.key)
  right_first = ok_first τ rd (node_at u) l two.mid hi (node_at u r) b bs (right_row ∙ some) two.second

  from_first : (m : MemNode) (lo' hi' : ℕ) (f : Entry) (fs : List Entry) → m.entries ≡ f ∷ fs → Ok τ rd (node_at u) l lo' hi' m
      → Ok τ rd (node_at u) l (K τ f.key) hi' m
  from_first m lo' hi' f fs q h =
      subst (λ (z : List Entry). Ok τ rd (node_at u) l (Rattle.theorem.specs.model.Bounds.first_or (K τ) hi' z) hi' m) q
      (ok_tight τ rd (node_at u) l lo' hi' m h)

  -- what the new root stands for
  pub record Topped : Type 0 where
    pub ok : Ok τ rd (node_at u) (suc l) lo hi (node_at u top)
    pub holds : cont rd (node_at u) (suc l) (node_at u top) ≡ cont rd (node_at s) l (node_at s n)
    pub sums : (f : MemNode → ℕ) → Steady f → total rd (node_at u) f (suc l) (node_at u top) ≡ total rd (node_at s) f l (node_at s n)
    pub uses : (d : ℕ) → slots rd (node_at u) (suc l) d (node_at u top) ≡ names d (mem n) + slots rd (node_at s) l d (node_at s n) + names d (mem r)
    pub other : (d : ℕ) → d < length s.nodes → (d ≡ n → ⊥) → node_at u d ≡ node_at s d

  pub topped : Topped
  unfolding cont slots total node_of is_child
  topped =
      record {
        ok = record {
          level = top_level;
          live = top_dead;
          items = rw top_row (cons {m = two.mid} {e = record { key = a.key; value = mem n }} left_first.2
              (record {
                key = left_first.0;
                below = left_first.1;
                is_one = refl;
                ok = from_first (node_at u n) lo two.mid a as'
                    (left_row ∙ before) two.first;
              })
              (cons {m = hi} {e = record { key = b.key; value = mem r }} right_first.2
              (record {
                key = right_first.0;
                below = right_first.1;
                is_one = refl;
                ok = from_first (node_at u r) two.mid hi b bs
                    (right_row ∙ some) two.second;
              }) (nil (le_refl _))));
        };
        holds = ap (conts rd (node_at u) l) top_row ∙ ap (λ (z : List Entry). cont rd (node_at u) l (node_at u n) ++ z) (append-nil _)
            ∙ halves_holds τ rd (node_at s) (node_at u) (node_at s n) (node_at u n)
            (node_at u r) _ _ apart left_row right_row left_level right_level left_dead right_dead l agree;
        sums = λ f h.
            let t : f (node_at u top) ≡ f (node_at s n) = h.same (node_at u top) (node_at s n)
            (unfold with_place changed in (ap (λ (m : MemNode). m.block) u_top ∙ ap (λ (m : MemNode). m.block) (parted_left s n c n_used)))
            (unfold with_place changed in (ap (λ (m : MemNode). m.id) u_top ∙ ap (λ (m : MemNode). m.id) (parted_left s n c n_used))) in
            let x : f (node_at u n) ≡ 0 = h.none (node_at u n) (unfold with_place in (ap (λ (m : MemNode). m.block) u_n))
            (unfold with_place in (ap (λ (m : MemNode). m.id) u_n)) in
            let y : f (node_at u r) ≡ 0 = h.none (node_at u r) (unfold made in (ap (λ (m : MemNode). m.block) u_r))
            (unfold made in (ap (λ (m : MemNode). m.id) u_r)) in
            let d = halves_sums τ rd (node_at s) (node_at u) (node_at s n) (node_at u n)
            (node_at u r) _ _ apart left_row right_row left_level right_level left_dead right_dead l agree f in
            ap (λ (z : List Entry). f (node_at u top) + totals rd (node_at u) f l z) top_row ∙ omega arith;
        uses = λ d.
            let h = halves_uses τ rd (node_at s) (node_at u) (node_at s n) (node_at u n)
            (node_at u r) _ _ apart left_row right_row left_level right_level left_dead right_dead l agree d in
            ap (slots_in rd (node_at u) l d) top_row ∙ omega arith;
        other = u_other;
      }

  pub top_count : length u.nodes ≡ suc (suc (length s.nodes))
  unfolding grow_root with_root
  top_count = add_count (put_node s₁ n (with_place (node_at s₁ n) [] [])) _ ∙ ap suc (put_count s₁ n (with_place (node_at s₁ n) [] []) ∙ count₁)

  -- no slot stands twice below the new root
  pub top_once : Once τ rd u (suc l) top
  top_once =
      record {
        once = λ d.
            by_test (ltb d (length s.nodes))
            (λ t. let h = ltb-true d (length s.nodes) t in omega
            (arith, topped.uses d, one.once d, names_apart d r (omega arith), names_apart d top (omega arith)))
            (λ t.
            let h : length s.nodes ≤ d = ltb-false d (length s.nodes) t in
            by_test (eqb d r)
            (λ e. let z : d ≡ r = eqb-true d r e in omega
            (arith, topped.uses d, once_out τ rd s l n d one h, names_is d r z, names_apart d top (omega arith)))
            (λ e. let z = eqb-false d r e in
            by_test (eqb d top)
            (λ f. let y : d ≡ top = eqb-true d top f in omega
            (arith, topped.uses d, once_out τ rd s l n d one h, names_apart d r z, names_is d top y))
            (λ f. omega (arith, topped.uses d, once_out τ rd s l n d one h, names_apart d r z, names_apart d top (eqb-false d top f)))));
        used = λ d p.
            by_test (ltb d (length u.nodes))
            (λ t. ltb-true d (length u.nodes) t)
            (λ t.
            let h : length u.nodes ≤ d = ltb-false d (length u.nodes) t in
            let g : length s.nodes ≤ d = omega (arith, top_count) in
            absurd (omega (
              arith,
              topped.uses d,
              once_out τ rd s l n d one g,
              names_apart d r (omega (arith, top_count)),
              names_apart d top
                  (omega (arith, top_count)),
            )));
      }

  -- two nodes more
  pub top_more : total rd (node_at u) (λ m. 1) (suc l) (node_at u top) ≡ suc (suc (total rd (node_at s) (λ m. 1) l (node_at s n)))
  unfolding total node_of
  top_more =
      let f : MemNode → ℕ = λ m. 1 in
      let d = halves_sums τ rd (node_at s) (node_at u) (node_at s n) (node_at u n)
      (node_at u r) _ _ apart left_row right_row left_level right_level left_dead right_dead l agree f in
      ap (λ (z : List Entry). f (node_at u top) + totals rd (node_at u) f l z) top_row ∙ omega arith
