-- A node cut in two under its parent: the parent stands for what it stood for, within its bounds. Assumes nothing.
use Rattle.std.specs.Prelude.{◌≡◌, false, length, take, drop}
use Rattle.std.proofs.Math.Path.{refl, sym, ap, ap₂}
use Rattle.std.proofs.Common.{subst, ◌∙◌, le_refl, take-append-drop}
use mathlib.Core.List.{List, [], ◌∷◌, ◌++◌, append-nil}
use Prim.Native.Nat.{ℕ, zero, suc, ◌+◌, ◌≤◌, ◌<◌}
use native.Mathlib.Omega.{arith}
use Rattle.node.specs.Entry.{Entry, Val, mem}
use Rattle.node.specs.Find.{key_at}
use Rattle.node.specs.Slot.{MemNode, insert_at, is_child}
use Rattle.tree.specs.State.{State, node_at, changed, made}
use Rattle.tree.specs.laws.state.State.{at_put_same, at_put_other, put_count}
use Rattle.tree.specs.Edit.{parted, link_right}
use Rattle.tree.specs.laws.state.Edit.{parted_left, parted_right, parted_other, parted_count}
use Rattle.theorem.specs.model.Bounds.{Terms, K, Items, nil, cons, unappend, first_or, first_le, KeyOk, rows_le}
use Rattle.theorem.specs.model.Lazy.{sum_map, sum_append, concat_append, node_of, cont, total, names, slots, conts, totals, slots_in, names_same, Child, Ok, kids_le, ok_wide, ok_tight, ok_first, Sames, frame_all}
use Rattle.theorem.specs.model.Lift.{Parts, parts, apart_holds, apart_sums, apart_uses, lift_ok, lift_holds, lift_uses, lift_sums}
use Rattle.theorem.specs.steps.LeafAndKeys.{Once}
use Rattle.theorem.specs.steps.Grow.{names_is, names_apart, Steady, once_out, Grown}

-- ---- a node's entries in two nodes

module _ (τ : Terms) (rd at at' : ℕ → MemNode) (m m₁ m₂ : MemNode) (xs ys : List Entry)
    (row : m.entries ≡ xs ++ ys) (left : m₁.entries ≡ xs) (right : m₂.entries ≡ ys) (level₁ : m₁.level ≡ m.level)
    (level₂ : m₂.level ≡ m.level) (dead₁ : m₁.dead ≡ m.dead) (dead₂ : m₂.dead ≡ false) where
  -- the children are as they were
  Frames : ℕ → Type 0
  Frames l = Sames τ rd at at' l xs × Sames τ rd at at' l ys

  frames_of : (l : ℕ) → ((c : ℕ) → 1 ≤ slots rd at (suc l) c m → at' c ≡ at c) → Frames l
  unfolding slots Frames
  frames_of l h =
      let f : ℕ → Entry → ℕ = λ c e. names c e.value + slots rd at l c (node_of rd at e.value) in
      let s : (c : ℕ) → sum_map (f c) m.entries ≡ sum_map (f c) xs + sum_map (f c) ys = λ c. ap (sum_map (f c)) row ∙ sum_append (f c) xs ys in
      (frame_all τ rd at at' l xs (λ c p. h c (omega (arith, s c))), frame_all τ rd at at' l ys (λ c p. h c (omega (arith, s c))))

  pub halves_holds : (l : ℕ) → ((c : ℕ) → 1 ≤ slots rd at l c m → at' c ≡ at c) → cont rd at' l m₁ ++ cont rd at' l m₂ ≡ cont rd at l m
  unfolding cont Frames
  halves_holds zero h = ap₂ ◌++◌ left right ∙ sym row
  halves_holds (suc l) h =
      let (fx, fy) = frames_of l h in
      ap₂ (λ (a b : List Entry). conts rd at' l a ++ conts rd at' l b) left right ∙ ap₂ ◌++◌ fx.holds fy.holds
      ∙ sym (concat_append _ xs ys) ∙ ap (conts rd at l) (sym row)

  pub halves_uses : (l : ℕ) → ((c : ℕ) → 1 ≤ slots rd at l c m → at' c ≡ at c) → (c : ℕ)
      → slots rd at' l c m₁ + slots rd at' l c m₂ ≡ slots rd at l c m
  unfolding slots Frames
  halves_uses zero h c = refl
  halves_uses (suc l) h c =
      let (fx, fy) = frames_of l h in
      ap₂ (λ (a b : List Entry). slots_in rd at' l c a + slots_in rd at' l c b) left right ∙ ap₂ ◌+◌ (fx.uses c) (fy.uses c)
      ∙ sym (sum_append _ xs ys) ∙ ap (slots_in rd at l c) (sym row)

  pub halves_sums : (l : ℕ) → ((c : ℕ) → 1 ≤ slots rd at l c m → at' c ≡ at c) → (f : MemNode → ℕ)
      → f m + (total rd at' f l m₁ + total rd at' f l m₂) ≡ total rd at f l m + (f m₁ + f m₂)
  unfolding total Frames
  halves_sums zero h f = refl
  halves_sums (suc l) h f =
      let (fx, fy) = frames_of l h in
      let a : totals rd at' f l m₁.entries ≡ totals rd at f l xs = ap (totals rd at' f l) left ∙ fx.sums f in
      let b : totals rd at' f l m₂.entries ≡ totals rd at f l ys = ap (totals rd at' f l) right ∙ fy.sums f in
      let d : totals rd at f l m.entries ≡ totals rd at f l xs + totals rd at f l ys = ap (totals rd at f l) row ∙ sum_append _ xs ys in
      omega arith

  pub record Between (l lo hi : ℕ) : Type 0 where
    pub mid : ℕ
    pub above : lo ≤ mid
    pub first : Ok τ rd at' l lo mid m₁
    pub second : Ok τ rd at' l mid hi m₂

  pub halves_ok : (l lo hi : ℕ) → ((c : ℕ) → 1 ≤ slots rd at l c m → at' c ≡ at c) → Ok τ rd at l lo hi m → Between l lo hi
  unfolding Frames
  halves_ok zero lo hi h k =
      let (mid, a, b) = unappend xs (rw row at k.items) in
      record {
        mid = mid;
        above = rows_le τ a;
        first = record { level = level₁ ∙ k.level; live = dead₁ ∙ k.live; items = rw left a };
        second = record { level = level₂ ∙ k.level; live = dead₂; items = rw right b };
      }
  halves_ok (suc l) lo hi h k =
      let (fx, fy) = frames_of l h in
      let (mid, a, b) = unappend xs (rw row at k.items) in
      record {
        mid = mid;
        above = kids_le a;
        first = record { level = level₁ ∙ k.level; live = dead₁ ∙ k.live; items = rw left (fx.ok lo mid a) };
        second = record { level = level₂ ∙ k.level; live = dead₂; items = rw right (fy.ok mid hi b) };
      }

-- ---- the cut, under a parent

insert_after : (e₂ : Entry) (xs : List Entry) (e : Entry) (ys : List Entry) → insert_at (suc (length xs)) e₂ (xs ++ e ∷ ys) ≡ xs ++
    ((e ∷ e₂ ∷ []) ++ ys)
unfolding insert_at
insert_after e₂ [] e ys = refl
insert_after e₂ (x ∷ xs) e ys = ap (λ (z : List Entry). x ∷ z) (insert_after e₂ xs e ys)

module _ (τ : Terms) (rd : ℕ → MemNode) (s : State) (l p n lo hi c : ℕ) (xs : List Entry) (e : Entry) (ys : List Entry) (b : Entry) (bs : List Entry)
    (row : (node_at s p).entries ≡ xs ++ e ∷ ys) (val : e.value ≡ mem n) (one : Once τ rd s (suc l) p)
    (ok : Ok τ rd (node_at s) (suc l) lo hi (node_at s p))
    (some : drop c (node_at s n).entries ≡ b ∷ bs) (a : Entry) (as' : List Entry) (before : take c (node_at s n).entries ≡ a ∷ as') where
  abbrev r : ℕ
  r = length s.nodes

  abbrev s₁ : State
  s₁ = parted s n c

  abbrev u : State
  u = link_right s₁ p (length xs) r

  node_n : node_of rd (node_at s) e.value ≡ node_at s n
  unfolding node_of
  node_n = rw val

  sum : (d : ℕ) → slots rd (node_at s) (suc l) d (node_at s p)
      ≡ slots_in rd (node_at s) l d xs + (names d (mem n) + slots rd (node_at s) l d (node_at s n) + slots_in rd (node_at s) l d ys)
  sum d =
      apart_uses rd (node_at s) l (node_at s p) xs e ys row d
      ∙ ap₂ (λ (v : Val) (m : MemNode). slots_in rd (node_at s) l d xs +
      (names d v + slots rd (node_at s) l d m + slots_in rd (node_at s) l d ys)) val node_n

  p_used : p < length s.nodes
  p_used = one.used p (omega (arith, names_same p))

  n_used : n < length s.nodes
  n_used = one.used n (omega (arith, names_same n, sum n))

  p_off : (d : ℕ) → d ≡ p → 1 ≤ slots rd (node_at s) (suc l) d (node_at s p) → ⊥
  p_off d q h = omega (arith, one.once d, names_is d p q)

  n_off : (d : ℕ) → d ≡ n → 1 ≤ slots_in rd (node_at s) l d xs + slots rd (node_at s) l d (node_at s n) + slots_in rd (node_at s) l d ys → ⊥
  n_off d q h = omega (arith, one.once d, sum d, names_is d n q)

  abbrev e₂ : Entry
  e₂ = record { key = key_at (node_at s₁ r).entries 0; value = mem r }

  abbrev top : MemNode
  top = changed (node_at s₁ p) (insert_at (suc (length xs)) e₂ (node_at s₁ p).entries)

  p_same : node_at s₁ p ≡ node_at s p
  p_same = parted_other s n c n_used p p_used (λ q. p_off p refl (omega (arith, sum p, names_is p n q)))

  -- the three slots, and every other
  u_top : node_at u p ≡ top
  unfolding link_right
  u_top = at_put_same s₁ p top (omega (arith, p_used, parted_count s n c n_used))

  u_not : (d : ℕ) → (d ≡ p → ⊥) → node_at u d ≡ node_at s₁ d
  unfolding link_right
  u_not d h = at_put_other s₁ p top d h

  u_count : length u.nodes ≡ suc (length s.nodes)
  unfolding link_right
  u_count = put_count s₁ p top ∙ parted_count s n c n_used

  u_n : node_at u n ≡ changed (node_at s n) (take c (node_at s n).entries)
  u_n = u_not n (λ q. p_off n q (omega (arith, sum n, names_same n))) ∙ parted_left s n c n_used

  u_r : node_at u r ≡ made (node_at s n).level (drop c (node_at s n).entries)
  u_r = u_not r (λ q. omega (arith, p_used)) ∙ parted_right s n c n_used

  u_other : (d : ℕ) → d < length s.nodes → (d ≡ p → ⊥) → (d ≡ n → ⊥) → node_at u d ≡ node_at s d
  u_other d h f g = u_not d f ∙ parted_other s n c n_used d h g

  key_r : key_at (node_at s₁ r).entries 0 ≡ b.key
  unfolding key_at made
  key_r = rw (parted_right s n c n_used, some)

  row' : (node_at u p).entries ≡ xs ++ ((e ∷ e₂ ∷ []) ++ ys)
  unfolding changed
  row' = ap (λ (z : MemNode). z.entries) u_top ∙ ap (insert_at (suc (length xs)) e₂) (ap (λ (z : MemNode). z.entries) p_same ∙ row)
      ∙ insert_after e₂ xs e ys

  agree : (d : ℕ) → 1 ≤ slots_in rd (node_at s) l d xs + slots rd (node_at s) l d (node_at s n) + slots_in rd (node_at s) l d ys
      → node_at u d ≡ node_at s d
  agree d h = u_other d (one.used d (omega (arith, sum d))) (λ q. p_off d q (omega (arith, sum d))) (λ q. n_off d q h)

  fx : Sames τ rd (node_at s) (node_at u) l xs
  fx = frame_all τ rd (node_at s) (node_at u) l xs (λ d h. agree d (omega arith))

  fy : Sames τ rd (node_at s) (node_at u) l ys
  fy = frame_all τ rd (node_at s) (node_at u) l ys (λ d h. agree d (omega arith))

  -- the two parts
  left_row : (node_at u n).entries ≡ take c (node_at s n).entries
  unfolding changed
  left_row = ap (λ (z : MemNode). z.entries) u_n

  right_row : (node_at u r).entries ≡ drop c (node_at s n).entries
  unfolding made
  right_row = ap (λ (z : MemNode). z.entries) u_r

  left_level : (node_at u n).level ≡ (node_at s n).level
  unfolding changed
  left_level = ap (λ (z : MemNode). z.level) u_n

  right_level : (node_at u r).level ≡ (node_at s n).level
  unfolding made
  right_level = ap (λ (z : MemNode). z.level) u_r

  left_dead : (node_at u n).dead ≡ (node_at s n).dead
  unfolding changed
  left_dead = ap (λ (z : MemNode). z.dead) u_n

  right_dead : (node_at u r).dead ≡ false
  unfolding made
  right_dead = ap (λ (z : MemNode). z.dead) u_r

  apart : (node_at s n).entries ≡ take c (node_at s n).entries ++ drop c (node_at s n).entries
  apart = sym (take-append-drop c (node_at s n).entries)

  parts_hold : cont rd (node_at u) l (node_at u n) ++ cont rd (node_at u) l (node_at u r) ≡ cont rd (node_at s) l (node_at s n)
  parts_hold = halves_holds τ rd (node_at s) (node_at u) (node_at s n) (node_at u n)
      (node_at u r) _ _ apart left_row right_row left_level right_level left_dead right_dead l (λ d h. agree d (omega arith))

  parts_use : (d : ℕ) → slots rd (node_at u) l d (node_at u n) + slots rd (node_at u) l d (node_at u r) ≡ slots rd (node_at s) l d (node_at s n)
  parts_use = halves_uses τ rd (node_at s) (node_at u) (node_at s n) (node_at u n)
      (node_at u r) _ _ apart left_row right_row left_level right_level left_dead right_dead l (λ d h. agree d (omega arith))

  parts_sum : (f : MemNode → ℕ) → Steady f → total rd (node_at u) f l (node_at u n) + total rd (node_at u) f l (node_at u r)
      ≡ total rd (node_at s) f l
      (node_at s n)
  unfolding changed made
  parts_sum f h =
      let a : f (node_at u n) ≡ f (node_at s n) = h.same (node_at u n) (node_at s n) (ap (λ (z : MemNode). z.block) u_n)
      (ap (λ (z : MemNode). z.id) u_n) in
      let b : f (node_at u r) ≡ 0 = h.none (node_at u r) (ap (λ (z : MemNode). z.block) u_r) (ap (λ (z : MemNode). z.id) u_r) in
      let d = halves_sums τ rd (node_at s) (node_at u) (node_at s n) (node_at u n)
      (node_at u r) _ _ apart left_row right_row left_level right_level left_dead right_dead l (λ x w. agree x (omega arith)) f in
      omega arith

  -- the parent's items, taken apart at the child
  abbrev Kid : ℕ → Entry → Type 0
  Kid = Child τ (Ok τ rd (node_at s) l) (node_of rd (node_at s))

  mid : Parts (K τ) Kid lo hi (lo + K τ e.key) xs e ys
  mid = parts (lo + K τ e.key) xs (omega arith) (λ h. omega arith) (rw row at ok.items)

  two : Between τ rd (node_at s) (node_at u) (node_at s n) (node_at u n)
      (node_at u r) _ _ apart left_row right_row left_level right_level left_dead right_dead l (K τ e.key) (first_or (K τ) hi ys)
  two =
      halves_ok τ rd (node_at s) (node_at u) (node_at s n) (node_at u n)
      (node_at u r) _ _ apart left_row right_row left_level right_level left_dead right_dead l (K τ e.key) (first_or (K τ) hi ys)
      (λ d h. agree d (omega arith))
      (ok_wide τ rd (node_at s) l (K τ e.key) (K τ e.key) mid.up_to (first_or (K τ) hi ys) (node_at s n) (le_refl _) (first_le mid.right)
      (rw node_n at mid.own.ok))

  left_first : K τ e.key < two.mid
  left_first = let f = ok_first τ rd (node_at u) l (K τ e.key) two.mid (node_at u n) a as' (left_row ∙ before) two.first in omega
      (arith, f.1, f.2)

  right_first : KeyOk τ b.key × (K τ b.key < first_or (K τ) hi ys) × (two.mid ≤ K τ b.key)
  right_first = ok_first τ rd (node_at u) l two.mid (first_or (K τ) hi ys) (node_at u r) b bs (right_row ∙ some) two.second

  right_ok : Ok τ rd (node_at u) l (K τ b.key) (first_or (K τ) hi ys) (node_at u r)
  right_ok = subst (λ (z : List Entry). Ok τ rd (node_at u) l (first_or (K τ) (first_or (K τ) hi ys) z) (first_or (K τ) hi ys) (node_at u r))
      (right_row ∙ some) (ok_tight τ rd (node_at u) l two.mid (first_or (K τ) hi ys) (node_at u r) two.second)

  node_n' : node_of rd (node_at u) e.value ≡ node_at u n
  unfolding node_of
  node_n' = rw val

  items : Items (K τ) (Child τ (Ok τ rd (node_at u) l) (node_of rd (node_at u))) mid.from (first_or (K τ) hi ys) (e ∷ e₂ ∷ [])
  unfolding node_of is_child
  items =
      cons {e = e} mid.before (record { key = mid.own.key; below = left_first; is_one = mid.own.is_one; ok = rw node_n' two.first })
      (subst (λ (z : List ℕ). Items (K τ) (Child τ (Ok τ rd (node_at u) l) (node_of rd (node_at u))) two.mid (first_or (K τ) hi ys)
      (record { key = z; value = mem r } ∷ [])) (sym key_r)
      (cons {e = record { key = b.key; value = mem r }} right_first.2
      (record { key = right_first.0; below = right_first.1; is_one = refl; ok = right_ok }) (nil (le_refl _))))

  uses' : (d : ℕ) → slots rd (node_at u) (suc l) d (node_at u p) ≡ slots rd (node_at s) (suc l) d (node_at s p) + names d (mem r)
  unfolding node_of
  uses' d =
      let a : names d e.value + slots rd (node_at u) l d (node_of rd (node_at u) e.value) ≡ names d (mem n) + slots rd (node_at u) l d
      (node_at u n) =
      ap₂ (λ (v : Val) (m : MemNode). names d v + slots rd (node_at u) l d m) val node_n' in
      omega (arith, lift_uses τ rd (node_at s) (node_at u) l xs (e ∷ e₂ ∷ []) ys (node_at u p) row' fx fy d, parts_use d, sum d)

  pub cut_grown : Grown τ rd s u (suc l) p lo hi
  unfolding cont node_of changed
  cut_grown =
      let here : conts rd (node_at u) l (e ∷ e₂ ∷ []) ≡ cont rd (node_at s) l (node_at s n) =
      ap₂ (λ (m : MemNode) (z : List Entry). cont rd (node_at u) l m ++ z) node_n' (append-nil _) ∙ parts_hold in
      record {
        ok = lift_ok τ rd (node_at s) (node_at u) l xs (e ∷ e₂ ∷ []) ys (node_at u p) row' fx fy lo mid.from mid.up_to hi
            (ap (λ (z : MemNode). z.level) u_top ∙ ap (λ (z : MemNode). z.level) p_same ∙ ok.level)
            (ap (λ (z : MemNode). z.dead) u_top ∙ ap (λ (z : MemNode). z.dead) p_same ∙ ok.live) mid.left items mid.right;
        holds = lift_holds τ rd (node_at s) (node_at u) l xs (e ∷ e₂ ∷ []) ys (node_at u p) row' fx fy
            ∙ ap (λ (z : List Entry). conts rd (node_at s) l xs ++ (z ++ conts rd (node_at s) l ys)) here
            ∙ sym (apart_holds rd (node_at s) l (node_at s p) xs e ys row
            ∙ ap (λ (m : MemNode). conts rd (node_at s) l xs ++ (cont rd (node_at s) l m ++ conts rd (node_at s) l ys)) node_n);
        sums = λ f h.
            let a : total rd (node_at u) f l (node_of rd (node_at u) e.value) ≡ total rd (node_at u) f l (node_at u n) = ap
            (total rd (node_at u) f l) node_n' in
            let b : f (node_at u p) ≡ f (node_at s p) = h.same (node_at u p) (node_at s p)
            (ap (λ (z : MemNode). z.block) (u_top
            ∙ ap (λ (z : MemNode). changed z (insert_at (suc (length xs)) e₂ (node_at s₁ p).entries)) p_same))
            (ap (λ (z : MemNode). z.id) (u_top ∙ ap
            (λ (z : MemNode). changed z (insert_at (suc (length xs)) e₂ (node_at s₁ p).entries)) p_same)) in
            omega (
              arith,
              lift_sums τ rd (node_at s) (node_at u) l xs (e ∷ e₂ ∷ []) ys (node_at u p) row' fx fy f,
              apart_sums rd (node_at s) l
                  (node_at s p) xs e ys row f,
              ap (total rd (node_at s) f l) node_n,
              parts_sum f h,
            );
        longer = omega (arith, u_count);
        keep = λ d h f z. u_other d h f (λ q. omega (arith, sum d, names_is d n q));
        old = λ d h. omega (arith, uses' d, names_apart d r (omega arith));
        new = λ d h g. let q : d ≡ r = omega (arith, u_count) in let z : names d (mem r) ≡ 1 = names_is d r q in omega
            (arith, uses' d, once_out τ rd s (suc l) p d one h);
        none = λ d h. omega (arith, uses' d, once_out τ rd s (suc l) p d one (omega (arith, u_count)), names_apart d r (omega (arith, u_count)));
      }

  -- one node more
  pub cut_more : total rd (node_at u) (λ m. 1) (suc l) (node_at u p) ≡ suc (total rd (node_at s) (λ m. 1) (suc l) (node_at s p))
  unfolding node_of
  cut_more =
      let f : MemNode → ℕ = λ m. 1 in
      let a : total rd (node_at u) f l (node_of rd (node_at u) e.value) ≡ total rd (node_at u) f l (node_at u n) = ap
      (total rd (node_at u) f l) node_n' in
      let d = halves_sums τ rd (node_at s) (node_at u) (node_at s n) (node_at u n)
      (node_at u r) _ _ apart left_row right_row left_level right_level left_dead right_dead l (λ x w. agree x (omega arith)) f in
      omega (
        arith,
        lift_sums τ rd (node_at s) (node_at u) l xs (e ∷ e₂ ∷ []) ys (node_at u p) row' fx fy f,
        apart_sums rd (node_at s) l
            (node_at s p) xs e ys row f,
        ap (total rd (node_at s) f l) node_n,
      )
