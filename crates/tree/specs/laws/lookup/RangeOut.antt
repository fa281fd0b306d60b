-- Laws of range as it writes out what is loaded: a leaf, a child, the children of a node. Assumes nothing.
use Rattle.node.specs.laws.base.Bytes.{Bytes, bytes_window}
use Rattle.std.proofs.Math.Path.{◌≡◌, refl, sym, ap}
use Rattle.std.specs.Prelude.{List, [], ◌++◌, Bool, Option, Some, None}
use Rattle.std.proofs.Common.{ap₂, ◌∙◌, add-one, length-append}
use Rattle.std.proofs.Math.Bool.{true, false}
use Prim.Native.Nat.{ℕ, suc, ◌+◌, ◌-◌, ◌≤◌, ◌<◌}
use native.Mathlib.Omega.{arith}
use Rattle.std.proofs.Math.ListN.{length, drop}
use Rattle.node.specs.Bytes.{splice}
use Rattle.node.specs.Entry.{Entry, Val, ghost, leaf, disk, mem}
use Rattle.node.specs.Find.{val_at}
use Rattle.node.specs.Records.{records_length, entry_of, entries_of, records_of}
use Rattle.tree.specs.State.{State, node_at}
use Rattle.tree.specs.Lookup.{between, range_enters}
use Rattle.tree.specs.Workspace.{slot_bytes, state_of}
use Rattle.tree.specs.internal.Kids.{slots_of, kid_means}
use Rattle.tree.specs.internal.Range.{held_below, held_child, held_kids, range_held}
use Rattle.tree.specs.laws.slots.Kids.{kid_slot}
use Rattle.tree.specs.laws.slots.Records.{value_found}
use Rattle.tree.specs.laws.lookup.Between.{splice_two, splice_none, records_append}
use Rattle.tree.specs.declared.editor.Tree.{Tree}

-- no entries: nothing is written
nothing_end : (x : List Entry) (k : ℕ) → x ≡ [] → k ≡ k + length (records_of x)
unfolding records_of
nothing_end x k e = omega (arith, ap (λ (y : List Entry). length (records_of y)) e)

nothing_out : (x : List Entry) (k : ℕ) (out : List ℕ) → x ≡ [] → out ≡ splice out k (records_of x)
unfolding records_of
nothing_out x k out e = sym (ap (λ (y : List Entry). splice out k (records_of y)) e ∙ splice_none out k)

-- a slot's bytes are bytes
pub slot_known : (size : ℕ) (bytes : List ℕ) (n : ℕ) (part : List ℕ) → Bytes bytes → part ≡ slot_bytes size bytes n → Bytes part
unfolding slot_bytes
slot_known size bytes n part h e = rw e (bytes_window _ _ bytes h)

-- ---- a child

-- the child that a record's value is, if it is in a slot
pub kid_at : (es : List Entry) (n : ℕ) (l : List ℕ) → es ≡ entries_of n l → (i at : ℕ) → i < n → (m : List ℕ) → m ≡ l → at ≡ records_length i l
    → (x : Option ℕ) → kid_means x ≡ slots_of (entry_of (drop at m)).value → kid_means x ≡ slots_of (val_at es i)
kid_at es n l e i at h m em ea x q = q ∙ ap slots_of (value_found es n l e i at h m em ea (entry_of (drop at m)).value refl)

below_none : (f : ℕ → List Entry) (v : Val) → kid_means None ≡ slots_of v → held_below f v ≡ []
unfolding held_below slots_of kid_means
below_none f ghost e = refl
below_none f (leaf a) e = refl
below_none f (disk r) e = refl
below_none f (mem c) e = let z : ◌≡◌ {A = ℕ} 0 1 = ap length e in absurd (omega arith)

module _ (size : ℕ) (t : Tree) (heads bytes : List ℕ) (n i d : ℕ) (lo : List ℕ) (hi : List (List ℕ)) (enters : Bool)
    (ee : enters ≡ range_enters t.order.code lo hi (node_at (state_of size t heads bytes) n).entries i) where
  abbrev s : State
  s = state_of size t heads bytes

  pub passed : enters ≡ false → held_child (range_held d (state_of size t heads bytes) lo hi) (state_of size t heads bytes) lo hi n i ≡ []
  unfolding held_child state_of
  passed h = let z : range_enters t.order.code lo hi (node_at s n).entries i ≡ false = sym ee ∙ h in rw z

  module _ (h : enters ≡ true) (x : Option ℕ) (ex : kid_means x ≡ slots_of (val_at (node_at (state_of size t heads bytes) n).entries i)) where
    entered : held_child (range_held d (state_of size t heads bytes) lo hi) (state_of size t heads bytes) lo hi n i
        ≡ held_below (range_held d (state_of size t heads bytes) lo hi) (val_at (node_at (state_of size t heads bytes) n).entries i)
    unfolding held_child state_of
    entered = let z : range_enters t.order.code lo hi (node_at s n).entries i ≡ true = sym ee ∙ h in rw z

    pub no_child : x ≡ None → held_child (range_held d (state_of size t heads bytes) lo hi) (state_of size t heads bytes) lo hi n i ≡ []
    no_child q = entered ∙ below_none (range_held d s lo hi) (val_at (node_at s n).entries i) (sym (ap kid_means q) ∙ ex)

    pub in_slot : (c : ℕ) → x ≡ Some c → held_child (range_held d (state_of size t heads bytes) lo hi) (state_of size t heads bytes) lo hi n i
        ≡ range_held d (state_of size t heads bytes) lo hi c
    unfolding held_below
    in_slot c q = entered ∙ ap (held_below (range_held d s lo hi)) (kid_slot x c (val_at (node_at s n).entries i) ex q)

-- ---- the children of a node

module _ (size : ℕ) (t : Tree) (heads bytes : List ℕ) (n d : ℕ) (lo : List ℕ) (hi : List (List ℕ)) where
  abbrev st : State
  st = state_of size t heads bytes

  module _ (z : d ≡ 0) where
    leaf_is : range_held d (state_of size t heads bytes) lo hi n ≡ between t.order.code lo hi (node_at (state_of size t heads bytes) n).entries
    unfolding range_held state_of
    leaf_is = ap (λ (j : ℕ). range_held j st lo hi n) z

    pub leaf_room : (k m : ℕ) → k + length (records_of (range_held d (state_of size t heads bytes) lo hi n)) ≤ m
        → k + length (records_of (between t.order.code lo hi (node_at (state_of size t heads bytes) n).entries)) ≤ m
    leaf_room k m e = rw leaf_is at e

    pub leaf_end : (k r : ℕ) → r ≡ k + length (records_of (between t.order.code lo hi (node_at (state_of size t heads bytes) n).entries))
        → r ≡ k + length (records_of (range_held d (state_of size t heads bytes) lo hi n))
    leaf_end k r e = e ∙ ap (λ (x : List Entry). k + length (records_of x)) (sym leaf_is)

    pub leaf_out : (k : ℕ) (out out' : List ℕ)
        → out' ≡ splice out k (records_of (between t.order.code lo hi (node_at (state_of size t heads bytes) n).entries))
        → out' ≡ splice out k (records_of (range_held d (state_of size t heads bytes) lo hi n))
    leaf_out k out out' e = e ∙ ap (λ (x : List Entry). splice out k (records_of x)) (sym leaf_is)

  module _ (z : d ≡ 0 → ⊥) (kids : ℕ) (ek : kids ≡ length (node_at (state_of size t heads bytes) n).entries) where
    all_kids : held_kids (range_held (d - 1) (state_of size t heads bytes) lo hi) (state_of size t heads bytes) lo hi n (kids - 0) 0
        ≡ range_held d (state_of size t heads bytes) lo hi n
    unfolding range_held
    all_kids =
        let j : kids - 0 ≡ length (node_at st n).entries = omega arith in
        let k : d ≡ suc (d - 1) = omega arith in
        ap (λ (x : ℕ). held_kids (range_held (d - 1) st lo hi) st lo hi n x 0) j ∙ sym (ap (λ (x : ℕ). range_held x st lo hi n) k)

    pub kids_start : (k : ℕ) → k + length (records_of
        (held_kids (range_held (d - 1) (state_of size t heads bytes) lo hi) (state_of size t heads bytes) lo hi n (kids - 0) 0))
        ≡ k + length (records_of (range_held d (state_of size t heads bytes) lo hi n))
    kids_start k = ap (λ (x : List Entry). k + length (records_of x)) all_kids

    pub kids_start_out : (k : ℕ) (out : List ℕ) → splice out k (records_of
        (held_kids (range_held (d - 1) (state_of size t heads bytes) lo hi) (state_of size t heads bytes) lo hi n (kids - 0) 0))
        ≡ splice out k (records_of (range_held d (state_of size t heads bytes) lo hi n))
    kids_start_out k out = ap (λ (x : List Entry). splice out k (records_of x)) all_kids

module _ (f : ℕ → List Entry) (s : State) (lo : List ℕ) (hi : List (List ℕ)) (n kids i : ℕ) where
  module _ (q : kids ≤ i) where
    no_more : held_kids f s lo hi n (kids - i) i ≡ []
    unfolding held_kids
    no_more = let z : kids - i ≡ 0 = omega arith in ap (λ (x : ℕ). held_kids f s lo hi n x i) z

    pub kids_end : (k whole : ℕ) → k + length (records_of (held_kids f s lo hi n (kids - i) i)) ≡ whole → k ≡ whole
    kids_end k whole e = nothing_end _ k no_more ∙ e

    pub kids_out : (k : ℕ) (out w : List ℕ) → splice out k (records_of (held_kids f s lo hi n (kids - i) i)) ≡ w → out ≡ w
    kids_out k out w e = nothing_out _ k out no_more ∙ e

  module _ (q : i < kids) (es : List Entry) (ec : held_child f s lo hi n i ≡ es) where
    next : records_of (held_kids f s lo hi n (kids - i) i) ≡ records_of es ++ records_of (held_kids f s lo hi n (kids - (i + 1)) (i + 1))
    unfolding held_kids
    next =
        let z : kids - i ≡ suc (kids - (i + 1)) = omega arith in
        ap (λ (x : ℕ). records_of (held_kids f s lo hi n x i)) z
        ∙ records_append (held_child f s lo hi n i) (held_kids f s lo hi n (kids - (i + 1)) (suc i))
        ∙ ap₂ (λ (y : List Entry) (x : ℕ). records_of y ++ records_of (held_kids f s lo hi n (kids - (i + 1)) x)) ec (sym (add-one i))

    module _ (k whole : ℕ) (e : k + length (records_of (held_kids f s lo hi n (kids - i) i)) ≡ whole) where
      both : length (records_of (held_kids f s lo hi n (kids - i) i)) ≡ length (records_of es) + length
          (records_of (held_kids f s lo hi n (kids - (i + 1)) (i + 1)))
      both = ap length next ∙ length-append (records_of es) (records_of (held_kids f s lo hi n (kids - (i + 1)) (i + 1)))

      pub kid_room : (out out₀ : List ℕ) → length out ≡ length out₀ → whole ≤ length out₀ → k + length (records_of es) ≤ length out
      kid_room out out₀ a b = omega (arith, both)

      module _ (k' : ℕ) (ek : k' ≡ k + length (records_of es)) where
        pub kid_end : k' + length (records_of (held_kids f s lo hi n (kids - (i + 1)) (i + 1))) ≡ whole
        kid_end = omega (arith, both)

        pub kid_out : (out out₀ out' w : List ℕ) → length out ≡ length out₀ → whole ≤ length out₀ → out' ≡ splice out k (records_of es)
            → splice out k (records_of (held_kids f s lo hi n (kids - i) i)) ≡ w
            → splice out' k' (records_of (held_kids f s lo hi n (kids - (i + 1)) (i + 1))) ≡ w
        kid_out out out₀ out' w a b c g =
            let rs : List ℕ = records_of (held_kids f s lo hi n (kids - (i + 1)) (i + 1)) in
            ap₂ (λ (x : List ℕ) (y : ℕ). splice x y rs) c ek
            ∙ splice_two out k (records_of es) rs (omega (arith, both))
            ∙ sym (ap (splice out k) next) ∙ g

  -- a child of which nothing is written
  module _ (q : i < kids) (ec : held_child f s lo hi n i ≡ []) where
    pub idle_end : (k whole : ℕ) → k + length (records_of (held_kids f s lo hi n (kids - i) i)) ≡ whole
        → k + length (records_of (held_kids f s lo hi n (kids - (i + 1)) (i + 1))) ≡ whole
    idle_end k whole e = kid_end q [] ec k whole e k (nothing_end [] k refl)

    pub idle_out : (k : ℕ) (out w : List ℕ) → splice out k (records_of (held_kids f s lo hi n (kids - i) i)) ≡ w
        → splice out k (records_of (held_kids f s lo hi n (kids - (i + 1)) (i + 1))) ≡ w
    unfolding records_of
    idle_out k out w g = ap (splice out k) (sym (next q [] ec)) ∙ g
