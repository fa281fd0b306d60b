-- An edit of the leaf, then the index keys of the way, bottom up: the node at the top of the way stands for the plain list's edit of what it held,
-- within its bounds. Assumes nothing.
use Rattle.std.specs.Prelude.{◌≡◌, true, false, ℕ, suc, ◌+◌, ◌≤◌, ◌<◌, ltb}
use Rattle.std.proofs.Math.Path.{refl, ap, ap₂}
use Rattle.std.proofs.Common.{sym, subst, ◌∙◌, le_refl, arith, length-append, take_at, drop_at, lt-ltb}
use mathlib.Core.List.{List, [], ◌∷◌, ◌++◌, append-nil}
use Rattle.std.proofs.Math.ListN.{length}
use Rattle.std.proofs.lemmas.List.{get_or_at}
use Rattle.node.specs.Order.{same_key}
use Rattle.node.specs.Entry.{Entry, Val, ghost, mem}
use Rattle.node.specs.Find.{key_at}
use Rattle.node.specs.Slot.{MemNode, with_key, rekeyed}
use Rattle.node.specs.laws.base.Tests.{by_test}
use Rattle.node.specs.laws.order.Order.{same_true}
use Rattle.tree.specs.State.{State, node_at, put_node, changed}
use Rattle.tree.specs.laws.state.State.{at_put_same, at_put_other, put_count}
use Rattle.tree.specs.Lookup.{Step, leaf_of}
use Rattle.tree.specs.Edit.{set_index_key, index_keys}
use Rattle.theorem.specs.model.Bounds.{Terms, K, Items, nil, cons, tight, first_or, first_le, KeyOk}
use Rattle.theorem.specs.model.Lazy.{node_of, cont, names, slots, conts, slots_in, names_same, Child, Ok, ok_live, ok_wide, ok_tight, ok_first, ok_rows, conts_rows, Same, Sames, frame, frame_all}
use Rattle.theorem.specs.model.Lift.{Local, Toward, Parts, parts, apart_holds, apart_uses, lift_ok, lift_holds, lift_uses, local_holds}

-- ---- a way through slots: each step names the child that the next is at. T: what is so of a child between its siblings

pub data Along (s : State) (T : List Entry → Entry → List Entry → Type 0) (leaf : ℕ) : ℕ → ℕ → List Step → Type 0 where
  end : Along s T leaf 0 leaf (record { slot = leaf; child = 0 } ∷ [])
  down : {l n c : ℕ} {xs : List Entry} {e : Entry} {ys : List Entry} {ps : List Step}
      → (node_at s n).entries ≡ xs ++ e ∷ ys → e.value ≡ mem c → T xs e ys → Along s T leaf l c ps
      → Along s T leaf (suc l) n (record { slot = n; child = length xs } ∷ ps)

module _ (s : State) (T : List Entry → Entry → List Entry → Type 0) (leaf : ℕ) where
  pub index_down : (t : State) (x : Step) (l c : ℕ) (ps : List Step) → Along s T leaf l c ps → index_keys (x ∷ ps) t ≡ set_index_key (index_keys ps t)
      x.slot x.child c
  unfolding index_keys
  index_down t x l c ps end = refl
  index_down t x l c ps (down a b d w) = refl

  leaf_down : (x : Step) (l c : ℕ) (ps : List Step) → Along s T leaf l c ps → leaf_of (x ∷ ps) ≡ leaf_of ps
  unfolding leaf_of
  leaf_down x l c ps end = refl
  leaf_down x l c ps (down a b d w) = refl

  pub along_leaf : (l n : ℕ) (ps : List Step) → Along s T leaf l n ps → leaf_of ps ≡ leaf
  unfolding leaf_of
  along_leaf _ _ _ end = refl
  along_leaf _ _ _ (down {l = l} {c = c} {xs = xs} {ps = ps} a b d w) = leaf_down (record { slot = _; child = length xs }) l c ps w
      ∙ along_leaf l c ps w

-- any child
abbrev pub Any : List Entry → Entry → List Entry → Type 0
Any xs e ys = Unit {0}

-- a list with an entry has a first
pub some_first : (xs : List Entry) (e : Entry) (ys : List Entry) → (f : Entry) × (fs : List Entry) × (xs ++ e ∷ ys ≡ f ∷ fs)
some_first [] e ys = (e, ys, refl)
some_first (x ∷ xs) e ys = (x, xs ++ e ∷ ys, refl)

-- ---- one index key set

pub record Keyed (u u' : State) (n : ℕ) (xs : List Entry) (f : Entry) (v : Val) (ys : List Entry) : Type 0 where
  pub row : (node_at u' n).entries ≡ xs ++ record { key = f.key; value = v } ∷ ys
  pub level : (node_at u' n).level ≡ (node_at u n).level
  pub dead : (node_at u' n).dead ≡ (node_at u n).dead
  pub other : (d : ℕ) → (d ≡ n → ⊥) → node_at u' d ≡ node_at u d
  pub count : length u'.nodes ≡ length u.nodes

with_key_lem : (k : List ℕ) (xs : List Entry) (e : Entry) (ys : List Entry) → with_key (length xs) k (xs ++ e ∷ ys) ≡ xs
    ++ record { key = k; value = e.value } ∷ ys
unfolding with_key rekeyed
with_key_lem k xs e ys = rw (take_at xs (e ∷ ys) (length xs) refl, drop_at xs (e ∷ ys) (length xs) refl)

pub key_at_lem : (xs : List Entry) (e : Entry) (ys : List Entry) → key_at (xs ++ e ∷ ys) (length xs) ≡ e.key
unfolding key_at
key_at_lem xs e ys = ap (λ (z : Entry). z.key) (get_or_at xs e ys (record { key = []; value = ghost }) (length xs) refl)

pub key_next : (xs : List Entry) (e d : Entry) (ys : List Entry) → key_at (xs ++ e ∷ d ∷ ys) (suc (length xs)) ≡ d.key
unfolding key_at
key_next [] e d ys = refl
key_next (x ∷ xs) e d ys = key_next xs e d ys

pub set_index : (u : State) (n c : ℕ) (xs : List Entry) (e : Entry) (ys : List Entry) (f : Entry) (fs : List Entry) → n < length u.nodes
    → (node_at u n).entries ≡ xs ++ e ∷ ys → (node_at u c).entries ≡ f ∷ fs → (node_at u c).dead ≡ false
    → Keyed u (set_index_key u n (length xs) c) n xs f e.value ys
unfolding set_index_key changed
set_index u n c xs e ys f fs used row first live =
    let long : ltb (length xs) (length (xs ++ e ∷ ys)) ≡ true = lt-ltb (length xs) (length (xs ++ e ∷ ys))
    (omega (arith, length-append xs (e ∷ ys))) in
    by_test (same_key e.key f.key)
    (λ t.
    let k : e.key ≡ f.key = same_true e.key f.key t in
    rw (first, live, row, long, key_at_lem xs e ys, t)
    (record {
      row = row ∙ ap (λ (z : List ℕ). xs ++ record { key = z; value = e.value } ∷ ys) k;
      level = refl;
      dead = refl;
      other = λ d h. refl;
      count = refl;
    }))
    (λ t.
    let m : MemNode = changed (node_at u n) (xs ++ record { key = f.key; value = e.value } ∷ ys) in
    let same : node_at (put_node u n m) n ≡ m = at_put_same u n m used in
    rw (first, live, row, long, key_at_lem xs e ys, t, with_key_lem f.key xs e ys)
    (record {
      row = ap (λ (z : MemNode). z.entries) same;
      level = ap (λ (z : MemNode). z.level) same;
      dead = ap (λ (z : MemNode). z.dead) same;
      other = λ d h. at_put_other u n m d h;
      count = put_count u n m;
    }))

-- ---- the pass

module _ (τ : Terms) (rd : ℕ → MemNode) where
  -- slot n of level l, before and after. op: what became of what it holds
  -- a way whose slots are as they were
  pub along_frame : (u u' : State) (T : List Entry → Entry → List Entry → Type 0) (leaf l n : ℕ) (ps : List Step) → Along u T leaf l n ps
      → ((d : ℕ) → 1 ≤ names d (mem n) + slots rd (node_at u) l d (node_at u n) → node_at u' d ≡ node_at u d) → Along u' T leaf l n ps
  along_frame u u' T leaf _ _ _ end h = end
  along_frame u u' T leaf _ _ _ (down {l = l} {n = n} {c = c} {xs = xs} {e = e} {ys = ys} {ps = ps} row val to w) h =
      let node : node_of rd (node_at u) e.value ≡ node_at u c = unfold node_of in (rw val) in
      let sum : (d : ℕ) → slots rd (node_at u) (suc l) d (node_at u n) ≡ slots_in rd (node_at u) l d xs +
      (names d (mem c) + slots rd (node_at u) l d (node_at u c) + slots_in rd (node_at u) l d ys) =
      λ d. apart_uses rd (node_at u) l (node_at u n) xs e ys row d
      ∙ ap₂ (λ (v : Val) (m : MemNode). slots_in rd (node_at u) l d xs +
      (names d v + slots rd (node_at u) l d m + slots_in rd (node_at u) l d ys)) val node in
      down {xs = xs} {ys = ys} (ap (λ (z : MemNode). z.entries) (h n (omega (arith, names_same n))) ∙ row) val to
      (along_frame u u' T leaf l c ps w (λ d p. h d (omega (arith, sum d))))

  pub record Edited (s u : State) (leaf : ℕ) (ps : List Step) (l n lo hi : ℕ) (op : List Entry → List Entry) : Type 0 where
    pub ok : Ok τ rd (node_at u) l lo hi (node_at u n)
    pub holds : cont rd (node_at u) l (node_at u n) ≡ op (cont rd (node_at s) l (node_at s n))
    pub uses : (c : ℕ) → slots rd (node_at u) l c (node_at u n) ≡ slots rd (node_at s) l c (node_at s n)
    pub keep : (c : ℕ) → (c ≡ n → ⊥) → slots rd (node_at s) l c (node_at s n) ≡ 0 → node_at u c ≡ node_at s c
    pub first : Entry
    pub rest : List Entry
    pub some : (node_at u n).entries ≡ first ∷ rest
    pub count : length u.nodes ≡ length s.nodes
    pub along : Along u Any leaf l n ps

  -- no slot stands twice at or below slot n, and each is in use
  pub record Once (s : State) (l n : ℕ) : Type 0 where
    pub once : (c : ℕ) → names c (mem n) + slots rd (node_at s) l c (node_at s n) ≤ 1
    pub used : (c : ℕ) → 1 ≤ names c (mem n) + slots rd (node_at s) l c (node_at s n) → c < length s.nodes

  -- one level up
  module _ (s : State) (l n c lo hi : ℕ) (k : List ℕ) (op : List Entry → List Entry) (loc : Local τ k op) (xs : List Entry) (e : Entry)
      (ys : List Entry)
      (row : (node_at s n).entries ≡ xs ++ e ∷ ys) (val : e.value ≡ mem c) (toward : Toward τ k xs e ys) (one : Once s (suc l) n)
      (ok : Ok τ rd (node_at s) (suc l) lo hi (node_at s n)) (above : lo ≤ K τ k) (below : K τ k < hi) where
    abbrev at : ℕ → MemNode
    at = node_at s

    node_c : node_of rd (node_at s) e.value ≡ node_at s c
    unfolding node_of
    node_c = rw val

    sum : (d : ℕ) → slots rd (node_at s) (suc l) d (node_at s n)
        ≡ slots_in rd (node_at s) l d xs + (names d (mem c) + slots rd (node_at s) l d (node_at s c) + slots_in rd (node_at s) l d ys)
    sum d =
        apart_uses rd (node_at s) l (node_at s n) xs e ys row d
        ∙ ap₂ (λ (v : Val) (m : MemNode). slots_in rd (node_at s) l d xs +
        (names d v + slots rd (node_at s) l d m + slots_in rd (node_at s) l d ys)) val node_c

    once_c : Once s l c
    once_c = record { once = λ d. omega (arith, one.once d, sum d); used = λ d h. one.used d (omega (arith, sum d)) }

    pub cut_up : Parts (K τ) (Child τ (Ok τ rd (node_at s) l) (node_of rd (node_at s))) lo hi (K τ k) xs e ys
    cut_up = parts (K τ k) xs above toward.not_above (rw row at ok.items)

    ok_c : Ok τ rd (node_at s) l cut_up.from (first_or (K τ) hi ys) (node_at s c)
    ok_c = ok_wide τ rd (node_at s) l (K τ e.key) cut_up.from cut_up.up_to (first_or (K τ) hi ys) (node_at s c) cut_up.before
        (first_le cut_up.right) (rw node_c at cut_up.own.ok)

    -- what the child became
    module _ (leaf : ℕ) (ps : List Step) (u : State) (ed : Edited s u leaf ps l c cut_up.from (first_or (K τ) hi ys) op) where
      n_used : n < length u.nodes
      n_used = omega (arith, one.used n (omega (arith, names_same n)), ed.count)

      n_not : (d : ℕ) → d ≡ n → 1 ≤ slots rd (node_at s) (suc l) d (node_at s n) → ⊥
      n_not d q h = let z : slots rd (node_at s) (suc l) d (node_at s n) ≡ slots rd (node_at s) (suc l) n (node_at s n) = ap
          (λ (x : ℕ). slots rd (node_at s) (suc l) x (node_at s n)) q in omega (arith, one.once n, names_same n)

      c_is : (d : ℕ) → d ≡ c → 1 ≤ names d (mem c)
      c_is d q = let z : names d (mem c) ≡ names c (mem c) = ap (λ (x : ℕ). names x (mem c)) q in omega (arith, names_same c)

      n_same : node_at u n ≡ node_at s n
      n_same = ed.keep n (λ q. omega (arith, c_is n q, sum n, one.once n, names_same n)) (omega (arith, sum n, one.once n, names_same n))

      keyed : Keyed u (set_index_key u n (length xs) c) n xs ed.first e.value ys
      keyed = set_index u n c xs e ys ed.first ed.rest n_used (ap (λ (z : MemNode). z.entries) n_same ∙ row) ed.some
          (ok_live τ rd (node_at u) l cut_up.from (first_or (K τ) hi ys) (node_at u c) ed.ok)

      abbrev u' : State
      u' = set_index_key u n (length xs) c

      sibling : (d : ℕ) → 1 ≤ slots_in rd (node_at s) l d xs + slots_in rd (node_at s) l d ys → node_at u' d ≡ node_at s d
      sibling d h =
          keyed.other d (λ q. n_not d q (omega (arith, sum d)))
          ∙ ed.keep d (λ q. omega (arith, c_is d q, sum d, one.once d)) (omega (arith, sum d, one.once d))

      fx : Sames τ rd (node_at s) (node_at u') l xs
      fx = frame_all τ rd (node_at s) (node_at u') l xs (λ d h. sibling d (omega arith))

      fy : Sames τ rd (node_at s) (node_at u') l ys
      fy = frame_all τ rd (node_at s) (node_at u') l ys (λ d h. sibling d (omega arith))

      -- the child itself, from the state before its key was set
      fc : Same τ rd (node_at u) (node_at u') l (node_at u c)
      fc = frame τ rd (node_at u) (node_at u') l (node_at u c) (λ d h. keyed.other d (λ q. n_not d q (omega (arith, sum d, ed.uses d))))

      c_same : node_at u' c ≡ node_at u c
      c_same = keyed.other c (λ q. n_not c q (omega (arith, sum c, names_same c)))

      abbrev item : Entry
      item = record { key = ed.first.key; value = e.value }

      node_c' : node_of rd (node_at u') e.value ≡ node_at u c
      unfolding node_of
      node_c' = rw val c_same

      firsts : KeyOk τ ed.first.key × (K τ ed.first.key < first_or (K τ) hi ys) × (cut_up.from ≤ K τ ed.first.key)
      firsts = ok_first τ rd (node_at u) l cut_up.from (first_or (K τ) hi ys) (node_at u c) ed.first ed.rest ed.some ed.ok

      tight_c : Ok τ rd (node_at u) l (K τ ed.first.key) (first_or (K τ) hi ys) (node_at u c)
      tight_c = subst (λ (z : List Entry). Ok τ rd (node_at u) l (first_or (K τ) (first_or (K τ) hi ys) z) (first_or (K τ) hi ys) (node_at u c))
          ed.some (ok_tight τ rd (node_at u) l cut_up.from (first_or (K τ) hi ys) (node_at u c) ed.ok)

      items : Items (K τ) (Child τ (Ok τ rd (node_at u') l) (node_of rd (node_at u'))) cut_up.from (first_or (K τ) hi ys) (item ∷ [])
      items =
          cons firsts.2
          (record {
            key = firsts.0;
            below = firsts.1;
            is_one = cut_up.own.is_one;
            ok = rw node_c' (fc.ok (K τ ed.first.key) (first_or (K τ) hi ys) tight_c);
          })
          (nil (le_refl _))

      row' : (node_at u' n).entries ≡ xs ++ ((item ∷ []) ++ ys)
      row' = keyed.row

      pub lifted : Edited s u' leaf (record { slot = n; child = length xs } ∷ ps) (suc l) n lo hi op
      unfolding cont
      lifted =
          let up = lift_holds τ rd (node_at s) (node_at u') l xs (item ∷ []) ys (node_at u' n) row' fx fy in
          let here : conts rd (node_at u') l (item ∷ []) ≡ op (cont rd (node_at s) l (node_at s c)) = append-nil _
          ∙ ap (cont rd (node_at u') l) node_c'
          ∙ fc.holds ∙ ed.holds in
          let rc = ok_rows τ rd (node_at s) l cut_up.from (first_or (K τ) hi ys) (node_at s c) ok_c in
          let rx = conts_rows τ rd (node_at s) l cut_up.left in
          let ry = conts_rows τ rd (node_at s) l (tight cut_up.right) in
          record {
            ok = lift_ok τ rd (node_at s) (node_at u') l xs (item ∷ []) ys (node_at u' n) row' fx fy lo cut_up.from cut_up.up_to hi
                (keyed.level ∙ ap (λ (z : MemNode). z.level) n_same ∙ ok.level) (keyed.dead ∙ ap (λ (z : MemNode). z.dead) n_same ∙ ok.live)
                cut_up.left items cut_up.right;
            holds = up
                ∙ ap (λ (z : List Entry). conts rd (node_at s) l xs ++ (z ++ conts rd (node_at s) l ys)) here
                ∙ local_holds τ rd k op loc lo cut_up.from (first_or (K τ) hi ys) (first_or (K τ) hi ys) hi _ _ _ rx rc ry cut_up.not
                (toward.next hi below)
                ∙ ap op (sym (apart_holds rd (node_at s) l (node_at s n) xs e ys row
                ∙ ap (λ (m : MemNode). conts rd (node_at s) l xs ++ (cont rd (node_at s) l m ++ conts rd (node_at s) l ys)) node_c));
            uses = λ d.
                let a : names d e.value + slots rd (node_at u') l d (node_of rd (node_at u') e.value) ≡ names d (mem c) + slots rd (node_at s) l d
                (node_at s c) =
                ap₂ (λ (v : Val) (m : MemNode). names d v + slots rd (node_at u') l d m) val node_c' ∙ ap (λ (z : ℕ). names d (mem c) + z)
                (fc.uses d ∙ ed.uses d) in
                omega (arith, lift_uses τ rd (node_at s) (node_at u') l xs (item ∷ []) ys (node_at u' n) row' fx fy d, sum d);
            keep = λ d h z. keyed.other d h ∙ ed.keep d (λ q. omega (arith, c_is d q, sum d)) (omega (arith, sum d));
            first = (some_first xs item ys).0;
            rest = (some_first xs item ys).1;
            some = row' ∙ (some_first xs item ys).2;
            count = keyed.count ∙ ed.count;
            along = down {xs = xs} {e = item} {ys = ys} row' val tt
                (along_frame u u' Any leaf l c ps ed.along (λ d h. keyed.other d (λ q. n_not d q (omega (arith, sum d, ed.uses d)))));
          }

  -- the whole way: t is the tree with its leaf edited
  pub pass : (s t : State) (k : List ℕ) (op : List Entry → List Entry) → Local τ k op → (leaf : ℕ)
      → ((lo hi : ℕ) → Ok τ rd (node_at s) 0 lo hi (node_at s leaf) → Once s 0 leaf → lo ≤ K τ k → K τ k < hi
      → Edited s t leaf (record { slot = leaf; child = 0 } ∷ []) 0 leaf lo hi op)
      → (l n : ℕ) (ps : List Step) → Along s (Toward τ k) leaf l n ps
      → (lo hi : ℕ) → Ok τ rd (node_at s) l lo hi (node_at s n) → Once s l n → lo ≤ K τ k → K τ k < hi
      → Edited s (index_keys ps t) leaf ps l n lo hi op
  unfolding index_keys
  pass s t k op loc leaf base _ _ _ end lo hi ok one a b = base lo hi ok one a b
  pass s t k op loc leaf base _ _ _ (down {l = l} {n = n} {c = c} {xs = xs} {e = e} {ys = ys} {ps = ps} row val to w) lo hi ok one a b =
      let p = cut_up s l n c lo hi k op loc xs e ys row val to one ok a b in
      let g = first_or (K τ) hi ys in
      let i = pass s t k op loc leaf base l c ps w p.from g (ok_c s l n c lo hi k op loc xs e ys row val to one ok a b)
      (once_c s l n c lo hi k op loc xs e ys row val to one ok a b) p.not (to.next hi b) in
      rw (index_down s (Toward τ k) leaf t (record { slot = n; child = length xs }) l c ps w)
      (lifted s l n c lo hi k op loc xs e ys row val to one ok a b leaf ps (index_keys ps t) i)
