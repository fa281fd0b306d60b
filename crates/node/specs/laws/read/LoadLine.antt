-- Laws of the load line: each refusal as `read_node` reaches it, and what a node that was read keeps. Assumes nothing.
use Rattle.std.specs.Prelude.{◌≡◌, refl, List, Bool, cond, ◌&&◌, ◌||◌, not, ℕ, ◌+◌, ◌-◌, ◌*◌, ◌/◌, ◌%◌, ◌≤◌, length, leb, eqb}
use Rattle.std.proofs.Math.Path.{sym, ap}
use Rattle.std.proofs.Common.{◌∙◌, arith}
use Rattle.std.proofs.Math.Bool.{true, false}
use borrow.Author.Tests.{not-true, not-false, leb-true, eq-eqb, ne_eqb}
use Rattle.seal.specs.Checksum.{verified}
use Rattle.node.specs.laws.base.Tests.{and_left, and_right}
use Rattle.node.specs.Result.{Result, ok, ◌>>◌, check}
use Rattle.node.specs.Fit.{flag, data_space}
use Rattle.node.specs.Obj.{is_node}
use Rattle.std.specs.Prelude as std
use Rattle.std.specs.Prelude.{Ok, Err}
use Rattle.node.specs.declared.refusal.Refusal.{Refusal}
use Rattle.node.specs.declared.refusal.Refusal.TheVariants as is
use Rattle.node.specs.Read.{map_ok, parsed, is_fixed, flags_hold, layout_holds, spans_hold, spans_length, entries_hold, entries_from, keys_rise, keys_within, keys_hold, OnDisk, on_disk, read_node, read_of}
use Rattle.node.specs.internal.ReadSteps.{Laid, Sound}
use Rattle.node.specs.declared.read.Node.{Node}
use Rattle.node.specs.Place.{Place}
use Rattle.node.specs.Entry.{Entry}
use Rattle.node.specs.laws.base.Bytes.{bytes_known}

-- ---- what a check leaves

pub layout_laid : (p : Place) (v : Node) (size : ℕ) → layout_holds p v ≡ true → v.toc ≤ v.keys → v.vals ≤ size → size ≤ 65536 → Laid v size
unfolding layout_holds
layout_laid p v size h tk vs small =
    let a : Bool = leb v.keys v.vals in
    let b : Bool = leb v.level 32 in
    let d : Bool = leb (v.nkeys * cond (is_fixed v) 4 8) (v.keys - v.toc) in
    let h1 : a && b && flags_hold p v && d ≡ true = and_left (a && b && flags_hold p v && d) (eqb v.oid p.oid) h in
    let h2 : a && b ≡ true = and_left (a && b) (flags_hold p v) (and_left (a && b && flags_hold p v) d h1) in
    let room : v.nkeys * cond (is_fixed v) 4 8 ≤ v.keys - v.toc = leb-true _ _ (and_right (a && b && flags_hold p v) d h1) in
    record {
      contents = omega arith;
      keys_end = leb-true v.keys v.vals (and_left a b h2);
      vals_end = vs;
      small = small;
    }

pub layout_level : (p : Place) (v : Node) → layout_holds p v ≡ true → v.level ≤ 32
unfolding layout_holds
layout_level p v h =
    let a : Bool = leb v.keys v.vals in
    let b : Bool = leb v.level 32 in
    let d : Bool = leb (v.nkeys * cond (is_fixed v) 4 8) (v.keys - v.toc) in
    let h1 : a && b && flags_hold p v && d ≡ true = and_left (a && b && flags_hold p v && d) (eqb v.oid p.oid) h in
    leb-true v.level 32 (and_right a b (and_left (a && b) (flags_hold p v) (and_left (a && b && flags_hold p v) d h1)))

pub entries_space : (p : Place) (v : Node) (b : List ℕ) → entries_hold p v b ≡ true → spans_length v b 0 v.nkeys ≤ data_space (length b) p.root
unfolding entries_hold
entries_space p v b h =
    let s : Bool = spans_hold v b 0 v.nkeys in
    let t : Bool = leb (spans_length v b 0 v.nkeys) (data_space (length b) p.root) in
    leb-true _ _ (and_right s t (and_left (s && t) (not (eqb v.nkeys 0) || p.root && eqb v.level 0) h))

pub entries_filled : (p : Place) (v : Node) (b : List ℕ) → entries_hold p v b ≡ true → (not (eqb v.nkeys 0) || p.root && eqb v.level 0) ≡ true
unfolding entries_hold
entries_filled p v b h =
    and_right (spans_hold v b 0 v.nkeys && leb (spans_length v b 0 v.nkeys) (data_space (length b) p.root))
    (not (eqb v.nkeys 0) || p.root && eqb v.level 0) h

pub entries_sound : (p : Place) (v : Node) (b : List ℕ) → Laid v (length b) → entries_hold p v b ≡ true → Sound v b
unfolding entries_hold data_space
entries_sound p v b l h =
    let s : Bool = spans_hold v b 0 v.nkeys in
    let t : Bool = leb (spans_length v b 0 v.nkeys) (data_space (length b) p.root) in
    let fit : spans_length v b 0 v.nkeys ≤ data_space (length b) p.root = entries_space p v b h in
    record {
      laid = l;
      held = and_left s t (and_left (s && t) (not (eqb v.nkeys 0) || p.root && eqb v.level 0) h);
      sum = omega arith;
    }

-- ---- the line

-- the load line's tests, one after another
unfoldable pub line : Bool → Bool → Bool → Bool → Bool → Bool → Bool → OnDisk → Result OnDisk
line t3 t4 t5 t6 t7 t8 t9 x = check 3 t3 >> check 4 t4 >> check 5 t5 >> check 6 t6 >> check 7 t7 >> check 8 t8 >> check 9 t9 >> ok x

abbrev pub is_kind : Node → Bool
is_kind v = is_node v.otype

abbrev pub is_level : Place → Node → Bool
is_level p v = p.root || eqb (v.level + 1) p.parent

module _ (o : ℕ) (p : Place) (lower upper b : List ℕ) where
  abbrev pub line_of : Node → Result OnDisk
  line_of v =
      line (verified b) (is_kind v) (not (flag v.flags 8)) (layout_holds p v) (is_level p v) (entries_hold p v b)
      (keys_rise o (entries_from v b 0 v.nkeys) && keys_within o p lower upper (entries_from v b 0 v.nkeys)) (on_disk v b)

  pub node_line : (v : Node) → v ≡ parsed p b → line_of v ≡ read_node o p lower upper b
  unfolding line read_node keys_hold
  node_line v e = ap line_of e

  -- each refusal, where the tests before it pass and its own does not; and the node, where all pass
  pub load_3 : (r : Bool) → r ≡ verified b → not r ≡ true → read_of b (Err is.Fletcher) ≡ read_node o p lower upper b
  unfolding read_of line
  load_3 r e n =
      let f : verified b ≡ false = sym e ∙ not-true r n in
      sym (sym (node_line (parsed p b) refl) ∙ rw f)

  module _ (v : Node) (ev : v ≡ parsed p b) (r3 : Bool) (e3 : r3 ≡ verified b) (n3 : not r3 ≡ false) where
    is_3 : verified b ≡ true
    is_3 = sym e3 ∙ not-false r3 n3

    pub load_4 : (r : Bool) → r ≡ is_kind v → not r ≡ true → read_of b (Err is.Kind) ≡ read_node o p lower upper b
    unfolding read_of line
    load_4 r e n =
        let f : is_kind v ≡ false = sym e ∙ not-true r n in
        sym (sym (node_line v ev) ∙ rw (is_3, f))

    module _ (r4 : Bool) (e4 : r4 ≡ is_kind v) (n4 : not r4 ≡ false) where
      is_4 : is_kind v ≡ true
      is_4 = sym e4 ∙ not-false r4 n4

      pub load_5 : v.flags / 8 % 2 ≡ 1 → read_of b (Err is.Hashed) ≡ read_node o p lower upper b
      unfolding read_of line flag
      load_5 h = sym (sym (node_line v ev) ∙ rw (is_3, is_4, eq-eqb (v.flags / 8 % 2) 1 h))

      module _ (n5 : v.flags / 8 % 2 ≡ 1 → ⊥) where
        is_5 : not (flag v.flags 8) ≡ true
        unfolding flag
        is_5 = rw (ne_eqb (v.flags / 8 % 2) 1 n5)

        pub load_6 : (r : Bool) → r ≡ layout_holds p v → not r ≡ true → read_of b (Err is.Layout) ≡ read_node o p lower upper b
        unfolding read_of line
        load_6 r e n =
            let f : layout_holds p v ≡ false = sym e ∙ not-true r n in
            sym (sym (node_line v ev) ∙ rw (is_3, is_4, is_5, f))

        module _ (r6 : Bool) (e6 : r6 ≡ layout_holds p v) (n6 : not r6 ≡ false) where
          is_6 : layout_holds p v ≡ true
          is_6 = sym e6 ∙ not-false r6 n6

          pub load_7 : (r : Bool) → r ≡ is_level p v → not r ≡ true → read_of b (Err is.Level) ≡ read_node o p lower upper b
          unfolding read_of line
          load_7 r e n =
              let f : is_level p v ≡ false = sym e ∙ not-true r n in
              sym (sym (node_line v ev) ∙ rw (is_3, is_4, is_5, is_6, f))

          module _ (r7 : Bool) (e7 : r7 ≡ is_level p v) (n7 : not r7 ≡ false) where
            is_7 : is_level p v ≡ true
            is_7 = sym e7 ∙ not-false r7 n7

            pub load_8 : (r : Bool) → r ≡ entries_hold p v b → not r ≡ true → read_of b (Err is.Entry) ≡ read_node o p lower upper b
            unfolding read_of line
            load_8 r e n =
                let f : entries_hold p v b ≡ false = sym e ∙ not-true r n in
                sym (sym (node_line v ev) ∙ rw (is_3, is_4, is_5, is_6, is_7, f))

            module _ (r8 : Bool) (e8 : r8 ≡ entries_hold p v b) (n8 : not r8 ≡ false) where
              is_8 : entries_hold p v b ≡ true
              is_8 = sym e8 ∙ not-false r8 n8

              pub load_9_rise : (r : Bool) → r ≡ keys_rise o (entries_from v b 0 v.nkeys) → not r ≡ true
                  → read_of b (Err is.Keys) ≡ read_node o p lower upper b
              unfolding read_of line
              load_9_rise r e n =
                  let f : keys_rise o (entries_from v b 0 v.nkeys) ≡ false = sym e ∙ not-true r n in
                  sym (sym (node_line v ev) ∙ rw (is_3, is_4, is_5, is_6, is_7, is_8, f))

              module _ (r9 : Bool) (e9 : r9 ≡ keys_rise o (entries_from v b 0 v.nkeys)) (n9 : not r9 ≡ false) (r : Bool)
                  (e : r ≡ keys_within o p lower upper (entries_from v b 0 v.nkeys)) where
                is_9 : keys_rise o (entries_from v b 0 v.nkeys) ≡ true
                is_9 = sym e9 ∙ not-false r9 n9

                pub load_9 : not r ≡ true → read_of b (Err is.Keys) ≡ read_node o p lower upper b
                unfolding read_of line
                load_9 n =
                    let f : keys_within o p lower upper (entries_from v b 0 v.nkeys) ≡ false = sym e ∙ not-true r n in
                    sym (sym (node_line v ev) ∙ rw (is_3, is_4, is_5, is_6, is_7, is_8, is_9, f))

                pub loaded : not r ≡ false → read_of b (Ok v) ≡ read_node o p lower upper b
                unfolding read_of line
                loaded n =
                    let f : keys_within o p lower upper (entries_from v b 0 v.nkeys) ≡ true = sym e ∙ not-false r n in
                    sym (sym (node_line v ev) ∙ rw (is_3, is_4, is_5, is_6, is_7, is_8, is_9, f))

-- ---- of an answer, the node

pub node_read : {R : Type 0} (x : std.Result R Refusal) (r : R) → x ≡ Ok r → (f : R → Node) → map_ok f x ≡ Ok (f r)
node_read x r e f = ap (map_ok f) e

pub node_refused : {R : Type 0} (x : std.Result R Refusal) (k : Refusal) → x ≡ Err k → (f : R → Node) → map_ok f x ≡ Err k
node_refused x k e f = ap (map_ok f) e

-- ---- 9, in two tests: keys that rise, keys within the bounds

module _ (o : ℕ) (p : Place) (lower upper : List ℕ) (es : List Entry) where
  pub keys_fallen : keys_rise o es ≡ false → keys_hold o p lower upper es ≡ false
  unfolding keys_hold
  keys_fallen e = rw e

  pub keys_risen : keys_rise o es ≡ true → keys_hold o p lower upper es ≡ keys_within o p lower upper es
  unfolding keys_hold
  keys_risen e = rw e

-- ---- what `read_node` takes of these

pub ruleset loads = (layout_laid, entries_sound, bytes_known, keys_fallen, keys_risen)
