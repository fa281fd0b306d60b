-- Index keys and cuts on what is left of a way after drops: what its top holds is as it was, within its bounds; dead nodes are left alone. Assumes
-- nothing.
use Rattle.std.specs.Prelude.{◌≡◌, refl, List, [], ◌∷◌, ◌++◌, true, ℕ, suc, ◌+◌, ◌≤◌, ◌<◌, eqb}
use Rattle.std.proofs.Math.Path.{ap}
use Rattle.std.proofs.Common.{◌∙◌, arith, eqb-true}
use Rattle.std.proofs.Math.ListN.{length}
use Rattle.std.proofs.lemmas.Bool.{eqb-false}
use Rattle.node.specs.Result.{Result, ok, ◌>>=◌}
use Rattle.node.specs.laws.base.Results.{Holds, holds_ok, holds_bind}
use Rattle.node.specs.Entry.{Entry, mem}
use Rattle.node.specs.Slot.{MemNode}
use Rattle.node.specs.laws.base.Tests.{by_test, never}
use Rattle.tree.specs.Lent.{Lent}
use Rattle.tree.specs.State.{State, node_at}
use Rattle.tree.specs.Lookup.{Step}
use Rattle.tree.specs.Edit.{set_index_key, index_keys, cut_node, cuts}
use Rattle.theorem.specs.model.Bounds.{Terms, K}
use Rattle.theorem.specs.model.Lazy.{names, slots, slots_in, names_same, Ok}
use Rattle.theorem.specs.steps.LeafAndKeys.{Once, Keyed}
use Rattle.theorem.specs.steps.Grow.{names_is, names_apart, grown_once, up_same, mid, kid_ok, kid_once}
use Rattle.theorem.specs.steps.Cuts.{some_of, cuts_below}
use Rattle.theorem.specs.steps.EachSlot.{on_way}
use Rattle.theorem.specs.steps.EachSlotCuts.{index_grows}
use Rattle.theorem.specs.remove.WhatIsLeft.{Off, Stub, tip, on}
use Rattle.theorem.specs.remove.Regrow.{Regrown, regrown_refl, regrown_then, kid_sum, regrown_up, keyed, key_regrown, cut_regrown}

-- ---- dead nodes are left alone

set_none : (s : State) (n i c : ℕ) → (node_at s c).entries ≡ [] → set_index_key s n i c ≡ s
unfolding set_index_key
set_none s n i c q = rw q

off_keys : (s : State) (x : Step) (ps : List Step) → Off s ps → index_keys (x ∷ ps) s ≡ s
unfolding index_keys
off_keys s x [] h = refl
off_keys s x (y ∷ ps) h = ap (λ (z : State). set_index_key z x.slot x.child y.slot) (off_keys s y ps h.2)
    ∙ set_none s x.slot x.child y.slot h.1

cut_dead : (lent : Lent) (up : List Step) (n : ℕ) (s : State) → (node_at s n).dead ≡ true → cut_node lent up n s ≡ ok s
unfolding cut_node
cut_dead lent up n s d = rw d

off_cuts : (lent : Lent) (s : State) (up ps : List Step) → Off s ps → cuts lent up ps s ≡ ok s
unfolding cuts
off_cuts lent s up [] h = refl
off_cuts lent s up (x ∷ ps) h = ap (λ (r : Result State). r >>= cut_node lent up x.slot) (off_cuts lent s (x ∷ []) ps h.2)
    ∙ cut_dead lent up x.slot s h.0

-- ---- what is left of a way

index_on : (s t : State) (x : Step) (l c : ℕ) (ps : List Step) → Stub s l c ps
    → index_keys (x ∷ ps) t ≡ set_index_key (index_keys ps t) x.slot x.child c
unfolding index_keys
index_on s t x l c ps (tip o) = refl
index_on s t x l c ps (on xs e ys row val some st) = refl

pub cuts_on : (τ : Terms) (rd : ℕ → MemNode) (lent : Lent) (s t : State) (up : List Step) (l c : ℕ) (ps : List Step) → Stub s l c ps
    → cuts lent up ps t ≡ (cuts_below τ rd lent ps t >>= cut_node lent up c)
unfolding cuts cuts_below
cuts_on τ rd lent s t up l c ps (tip o) = refl
cuts_on τ rd lent s t up l c ps (on xs e ys row val some st) = refl

off_same : (s u : State) (ps : List Step) → ((d : ℕ) → 1 ≤ on_way d ps → node_at u d ≡ node_at s d) → Off s ps → Off u ps
off_same s u [] f h = tt
off_same s u (x ∷ ps) f h =
    let q : node_at u x.slot ≡ node_at s x.slot = f x.slot (omega (arith, names_same x.slot)) in
    (ap (λ (m : MemNode). m.dead) q ∙ h.0, ap (λ (m : MemNode). m.entries) q ∙ h.1, off_same s u ps (λ d k. f d (omega arith)) h.2)

-- its top is on it
stub_first : (s : State) (l c : ℕ) (ps : List Step) → Stub s l c ps → 1 ≤ on_way c ps
stub_first s l c ps (tip o) = omega (arith, names_same c)
stub_first s l c ps (on xs e ys row val some st) = omega (arith, names_same c)

-- slots that agree on the way
pub stub_same : (s u : State) (l n : ℕ) (ps : List Step) → ((d : ℕ) → 1 ≤ on_way d ps → node_at u d ≡ node_at s d) → Stub s l n ps → Stub u l n ps
stub_same s u l n _ f (tip {ps = ps} o) = tip (off_same s u ps (λ d k. f d (omega arith)) o)
stub_same s u _ n _ f (on {l = l} {c = c} xs e ys {f = a} {fs = as'} {ps = ps} row val some st) =
    on xs e ys {f = a} {fs = as'} (ap (λ (m : MemNode). m.entries) (f n (omega (arith, names_same n))) ∙ row) val
    (ap (λ (m : MemNode). m.entries) (f c (omega (arith, stub_first s l c ps st))) ∙ some) (stub_same s u l c ps (λ d k. f d (omega arith)) st)

off_dead : {C : Type 0} (s : State) (ps : List Step) → Off s ps → (d : ℕ) → 1 ≤ on_way d ps → ((node_at s d).dead ≡ true → C) → C
off_dead s [] h d k f = absurd (omega arith)
off_dead s (x ∷ ps) h d k f =
    by_test (eqb d x.slot)
    (λ t. f (ap (λ (i : ℕ). (node_at s i).dead) (eqb-true d x.slot t) ∙ h.0))
    (λ t. off_dead s ps h.2 d (omega (arith, names_apart d x.slot (eqb-false d x.slot t))) f)

module _ (τ : Terms) (rd : ℕ → MemNode) where
  -- a slot of it stands in the tree, or is dead
  pub stub_stands : {C : Type 0} (s : State) (l n : ℕ) (ps : List Step) → Stub s l n ps → (lo hi : ℕ) → Once τ rd s l n
      → Ok τ rd (node_at s) l lo hi (node_at s n)
      → (d : ℕ) → 1 ≤ on_way d ps → (1 ≤ names d (mem n) + slots rd (node_at s) l d (node_at s n) → C) → ((node_at s d).dead ≡ true → C) → C
  stub_stands s l n _ (tip {ps = ps} o) lo hi one okn d h f g =
      by_test (eqb d n)
      (λ t. f (omega (arith, names_is d n (eqb-true d n t))))
      (λ t. off_dead s ps o d (omega (arith, names_apart d n (eqb-false d n t))) g)
  stub_stands s _ n _ (on {l = l} {c = c} xs e ys {ps = ps} row val some st) lo hi one okn d h f g =
      by_test (eqb d n)
      (λ t. f (omega (arith, names_is d n (eqb-true d n t))))
      (λ t. stub_stands s l c ps st (K τ e.key) (mid τ rd s l n c lo hi xs e ys row val one okn).up_to
      (kid_once τ rd s l n c lo hi xs e ys row val one okn)
      (kid_ok τ rd s l n c lo hi xs e ys row val one okn) d (omega (arith, names_apart d n (eqb-false d n t)))
      (λ k. f (omega (arith, kid_sum τ rd s l n c lo hi xs e ys row val one okn d))) g)

  -- ---- index keys

  pub record Keys (s u : State) (l n lo hi : ℕ) (ps : List Step) : Type 0 where
    pub regrown : Regrown τ rd s u l n lo hi
    pub stub : Stub u l n ps

  -- one level up
  keys_up : (lent : Lent) (s t : State) (l n c lo hi : ℕ) (xs : List Entry) (e : Entry) (ys : List Entry) (row : (node_at s n).entries ≡ xs ++ e ∷ ys)
      (val : e.value ≡ mem c)
      (one : Once τ rd s (suc l) n) (okn : Ok τ rd (node_at s) (suc l) lo hi (node_at s n)) (ps : List Step)
      → Keys s t l c (K τ e.key) (mid τ rd s l n c lo hi xs e ys row val one okn).up_to ps → 0 < length (node_at t c).entries
      → Keys s (set_index_key t n (length xs) c) (suc l) n lo hi (record { slot = n; child = length xs } ∷ ps)
  keys_up lent s t l n c lo hi xs e ys row val one okn ps k so =
      let g : Regrown τ rd s t (suc l) n lo hi = regrown_up τ rd s l n c lo hi xs e ys row val one okn t k.regrown in
      let same : node_at t n ≡ node_at s n = up_same τ rd s l n c lo hi xs e ys row val one okn t k.regrown.grown in
      let row' : (node_at t n).entries ≡ xs ++ e ∷ ys = ap (λ (m : MemNode). m.entries) same ∙ row in
      let one' : Once τ rd t (suc l) n = grown_once τ rd s t (suc l) n lo hi g.grown one in
      let ok' : Ok τ rd (node_at t) (suc l) lo hi (node_at t n) = g.grown.ok in
      let (f, fs, q) = some_of (node_at t c).entries so in
      let u : State = set_index_key t n (length xs) c in
      let y : Keyed t u n xs f e.value ys = keyed τ rd t l n c lo hi xs e ys row' val one' ok' f fs q in
      let sum : (d : ℕ) → slots rd (node_at t) (suc l) d (node_at t n)
      ≡ slots_in rd (node_at t) l d xs + (names d (mem c) + slots rd (node_at t) l d (node_at t c) + slots_in rd (node_at t) l d ys) =
      kid_sum τ rd t l n c lo hi xs e ys row' val one' ok' in
      let off : (d : ℕ) → 1 ≤ on_way d ps → node_at u d ≡ node_at t d =
      λ d h. y.other d (λ z. stub_stands t l c ps k.stub (K τ e.key) (mid τ rd t l n c lo hi xs e ys row' val one' ok').up_to
      (kid_once τ rd t l n c lo hi xs e ys row' val one' ok') (kid_ok τ rd t l n c lo hi xs e ys row' val one' ok') d h
      (λ w. omega (arith, names_is d n z, sum d, one'.once d))
      (λ w. never w (ap (λ (i : ℕ). (node_at t i).dead) z ∙ ok'.live))) in
      record {
        regrown = regrown_then τ rd s t u (suc l) n lo hi g (key_regrown τ rd t l n c lo hi xs e ys row' val one' ok' f fs q);
        stub = on xs (record { key = f.key; value = e.value }) ys y.row val
            (ap (λ (m : MemNode). m.entries) (off c (stub_first t l c ps k.stub)) ∙ q)
            (stub_same t u l c ps off k.stub);
      }

  pub keys_on : (lent : Lent) (s : State) (l n : ℕ) (ps : List Step) → Stub s l n ps → (lo hi : ℕ) → Once τ rd s l n
      → Ok τ rd (node_at s) l lo hi (node_at s n)
      → Keys s (index_keys ps s) l n lo hi ps
  keys_on lent s l n _ (tip {i = i} {ps = ps} o) lo hi one okn =
      rw (off_keys s (record { slot = n; child = i }) ps o) (record { regrown = regrown_refl τ rd lent s l n lo hi okn one; stub = tip o })
  keys_on lent s _ n _ (on {l = l} {c = c} xs e ys {f = f} {fs = fs} {ps = ps} row val some st) lo hi one okn =
      rw (index_on s s (record { slot = n; child = length xs }) l c ps st)
      (keys_up lent s (index_keys ps s) l n c lo hi xs e ys row val one okn ps
      (keys_on lent s l c ps st (K τ e.key) (mid τ rd s l n c lo hi xs e ys row val one okn).up_to
      (kid_once τ rd s l n c lo hi xs e ys row val one okn)
      (kid_ok τ rd s l n c lo hi xs e ys row val one okn))
      ((index_grows (λ d. on_way d ps) ps s (λ d h. h)).some c
      (one.used c (omega (arith, kid_sum τ rd s l n c lo hi xs e ys row val one okn c, names_same c)))
      (let z : length (node_at s c).entries ≡ suc (length fs) = ap length some in omega arith)))

  -- ---- cuts below the top

  pub cuts_regrown : (lent : Lent) (s : State) (l n : ℕ) (ps : List Step) → Stub s l n ps → (lo hi : ℕ) → Once τ rd s l n
      → Ok τ rd (node_at s) l lo hi (node_at s n)
      → Holds (λ u. Regrown τ rd s u l n lo hi) (cuts_below τ rd lent ps s)
  unfolding cuts_below
  cuts_regrown lent s l n _ (tip {i = i} {ps = ps} o) lo hi one okn =
      rw (off_cuts lent s (record { slot = n; child = i } ∷ []) ps o) (holds_ok (regrown_refl τ rd lent s l n lo hi okn one))
  cuts_regrown lent s _ n _ (on {l = l} {c = c} xs e ys {ps = ps} row val some st) lo hi one okn =
      rw (cuts_on τ rd lent s s (record { slot = n; child = length xs } ∷ []) l c ps st)
      (holds_bind (cuts_below τ rd lent ps s) _ λ t q.
      let g = (cuts_regrown lent s l c ps st (K τ e.key) (mid τ rd s l n c lo hi xs e ys row val one okn).up_to
      (kid_once τ rd s l n c lo hi xs e ys row val one okn)
      (kid_ok τ rd s l n c lo hi xs e ys row val one okn)).at t q in
      let up : Regrown τ rd s t (suc l) n lo hi = regrown_up τ rd s l n c lo hi xs e ys row val one okn t g in
      let row' : (node_at t n).entries ≡ xs ++ e ∷ ys =
      ap (λ (z : MemNode). z.entries) (up_same τ rd s l n c lo hi xs e ys row val one okn t g.grown) ∙ row in
      record {
        at = λ u y. regrown_then τ rd s t u (suc l) n lo hi up
            ((cut_regrown τ rd lent t l n c lo hi xs e ys row' val (grown_once τ rd s t (suc l) n lo hi up.grown one) up.grown.ok).at u y);
      })
