-- Laws of the cuts on a way, made bottom up. Assumes nothing.
use Rattle.std.specs.Prelude.{◌≡◌, refl, length}
use Rattle.std.proofs.Math.Path.{sym, ap, subst}
use Rattle.std.proofs.Common.{◌∙◌}
use mathlib.Core.List.{List, [], ◌∷◌}
use Prim.Native.Nat.{ℕ, zero, suc, ◌-◌, ◌≤◌, ◌<◌}
use native.Mathlib.Omega.{arith}
use Rattle.node.specs.laws.base.Results.{Holds}
use Rattle.node.specs.Result.{Result, ok, refused, ◌>>=◌}
use Rattle.tree.specs.Lent as lent
use Rattle.tree.specs.Lent.{lent_of}
use Rattle.tree.specs.Lookup.{Step}
use Rattle.tree.specs.State.{State, with_root, with_info}
use Rattle.tree.specs.Edit.{more_nodes, parted, link_right, grow_root, cut_node, cuts}
use Rattle.tree.specs.Workspace.{state_of}
use Rattle.tree.specs.Answers.{edited_of}
use Rattle.tree.specs.internal.Bank.{Ready, ReadyTree}
use Rattle.tree.specs.internal.Undo.{Follows}
use Rattle.tree.specs.internal.Index.{steps_from}
use Rattle.tree.specs.laws.cut.IndexKeys.{from_start}
use Rattle.tree.specs.internal.Edits.{step_at, above_of, CutFits, CutsFit}
use Rattle.tree.specs.internal.Cutting.{step_of, up_of, CutFrom}
use Rattle.tree.specs.laws.state.State.{put_count, add_count}
use Rattle.tree.specs.laws.state.Edit.{parted_count}
use Rattle.tree.specs.laws.trust.Cut.{by_cut, by_top}
use Rattle.tree.specs.laws.slots.Undo.{follows_same, follows_on}
use Rattle.tree.specs.laws.slots.Tree.{used_nodes}
use Rattle.tree.specs.declared.editor.Tree.{Tree}
use Rattle.tree.specs.declared.lent.Lent.{Lent}
use Rattle.std.specs.Prelude as std
use Rattle.std.specs.Prelude.{Option, Some, None, Ok, Err}
use Rattle.node.specs.Refusals.{number_of}
use Rattle.node.specs.declared.refusal.Refusal.{Refusal}
use Rattle.tree.specs.declared.editor.Position as code
use Rattle.tree.specs.internal.Way.{nth_step, steps_in}
use Rattle.tree.specs.laws.cut.Pairs.{first_step, pairs_all, pairs_end}
use Rattle.tree.specs.laws.cut.Asked.{above_none}

-- ---- a cut takes no slot away

more_count : (u : State) (n : ℕ) → length (more_nodes u n).nodes ≡ length u.nodes
unfolding more_nodes with_info
more_count u n = refl

link_count : (s : State) (p i r : ℕ) → length (link_right s p i r).nodes ≡ length s.nodes
unfolding link_right
link_count s p i r = put_count s p _

grow_count : (s : State) (n r : ℕ) → length (grow_root s n r).nodes ≡ suc (length s.nodes)
unfolding grow_root with_root
grow_count s n r = add_count _ _ ∙ ap suc (put_count s n _)

longer : (l : lent.Lent) (up : Option code.Position) (n : ℕ) (s : State) → n < length s.nodes
    → Holds (λ (u : State). length s.nodes ≤ length u.nodes) (cut_node l (up_of up) n s)
unfolding up_of
longer l (Some up) n s h =
    by_cut (λ (u : State). length s.nodes ≤ length u.nodes) l (step_of up) n s (λ t. omega arith)
    (λ c live ps room. let x : State = link_right (parted s n c) up.slot up.index (length s.nodes) in
    omega (arith, more_count x 1, link_count (parted s n c) up.slot up.index (length s.nodes), parted_count s n c h))
longer l None n s h =
    by_top (λ (u : State). length s.nodes ≤ length u.nodes) l n s (λ t. omega arith)
    (λ c live ps holds room. let x : State = grow_root (parted s n c) n (length s.nodes) in
    omega (arith, more_count x 2, grow_count (parted s n c) n (length s.nodes), parted_count s n c h))

-- ---- the definition, from step j on

module _ (l : lent.Lent) (way : List code.Position) (s : State) where
  cuts_cons : (up : List Step) (j : ℕ) → j < length way
      → cuts l up (steps_from way j (length way - j)) s
      ≡ (cuts l (step_at way j ∷ []) (steps_from way (suc j) (length way - suc j)) s >>= cut_node l up (nth_step way j).slot)
  unfolding cuts steps_from step_at
  cuts_cons up j h = let z : length way - j ≡ suc (length way - suc j) = omega arith in rw z

  -- a refusal below is the answer
  cuts_refused : (j x : ℕ) → j ≤ length way → cuts l (above_of way j) (steps_from way j (length way - j)) s ≡ refused x
      → cuts l [] (steps_from way 0 (length way)) s ≡ refused x
  unfolding above_of
  cuts_refused zero x h e = let z : length way - 0 ≡ length way = omega arith in sym (ap (λ (m : ℕ). cuts l [] (steps_from way 0 m) s) z) ∙ e
  cuts_refused (suc j) x h e =
      cuts_refused j x (omega arith)
      (cuts_cons (above_of way j) j (omega arith) ∙ ap (λ (r : Result State). r >>= cut_node l (above_of way j) (nth_step way j).slot) e)

-- ---- the loop

module _ (l : Lent) (t : Tree) (way : List code.Position) (h0 b0 : List ℕ) where
  abbrev s : State
  s = state_of l.size t h0 b0

  pub from_none : Ready l.size l.slots t.used h0 b0 → CutFrom l t way (length way) h0 b0 t h0 b0
  unfolding cuts steps_from
  from_none r =
      let z : length way - length way ≡ 0 = omega arith in
      record { state = rw z; more = omega arith; ready = r; follows = follows_same l.size l.slots t.used h0 b0 }

  at_root : (i : ℕ) → i ≡ 0 → cuts (lent_of [] l) (above_of way i) (steps_from way i (length way - i)) s ≡ cuts (lent_of [] l) [] (steps_in way) s
  unfolding above_of
  at_root i z =
      let y : length way - 0 ≡ length way = omega arith in
      ap (λ (k : ℕ). cuts (lent_of [] l) (above_of way k) (steps_from way k (length way - k)) s) z
      ∙ ap (λ (m : ℕ). cuts (lent_of [] l) [] (steps_from way 0 m) s) y
      ∙ ap (λ (ps : List Step). cuts (lent_of [] l) [] ps s) (sym (from_start way (length way)))

  module _ (j : ℕ) (u : Tree) (h b : List ℕ) (d : CutFrom l t way j h0 b0 u h b) where
    pub from_all : j ≤ 0 → edited_of l.size h b (Ok u) ≡ cuts (lent_of [] l) [] (steps_in way) (state_of l.size t h0 b0)
    unfolding edited_of
    from_all q = sym d.state ∙ at_root j (omega arith)

    module _ (lo : 0 < j) (hi : j ≤ length way) where
      again : suc (j - 1) ≡ j
      again = omega arith

      -- what is cut below the next slot
      below : cuts (lent_of [] l) (step_at way (j - 1) ∷ []) (steps_from way (suc (j - 1)) (length way - suc (j - 1))) (state_of l.size t h0 b0)
          ≡ ok (state_of l.size u h b)
      unfolding above_of
      below = ap (λ (i : ℕ). cuts (lent_of [] l) (above_of way i) (steps_from way i (length way - i)) s) again ∙ d.state

      module _ (up : Option code.Position) (eu : up_of up ≡ above_of way (j - 1)) (x : code.Position) (ex : x ≡ nth_step way (j - 1)) where
        pub from_fits : CutsFit (lent_of [] l) (state_of l.size t h0 b0) way → CutFits l.size (state_of l.size u h b) (up_of up) x.slot
        unfolding lent_of
        from_fits f = rw (eu, ex) (f.turn (j - 1) (omega arith) (state_of l.size u h b) below)

        module _ (h' b' : List ℕ) (y : std.Result Tree Refusal)
            (ey : edited_of l.size h' b' y ≡ cut_node (lent_of [] l) (up_of up) x.slot (state_of l.size u h b)) where
          next : cuts (lent_of [] l) (above_of way (j - 1)) (steps_from way (j - 1) (length way - (j - 1))) (state_of l.size t h0 b0)
              ≡ edited_of l.size h' b' y
          next =
              cuts_cons (lent_of [] l) way s (above_of way (j - 1)) (j - 1) (omega arith)
              ∙ ap (λ (r : Result State). r >>= cut_node (lent_of [] l) (above_of way (j - 1)) (nth_step way (j - 1)).slot) below
              ∙ ap (λ (ps : List Step). cut_node (lent_of [] l) ps (nth_step way (j - 1)).slot (state_of l.size u h b)) (sym eu)
              ∙ ap (λ (m : code.Position). cut_node (lent_of [] l) (up_of up) m.slot (state_of l.size u h b)) (sym ex) ∙ sym ey

          pub from_refused : (x : Refusal) → y ≡ Err x
              → edited_of l.size h' b' (Err x) ≡ cuts (lent_of [] l) [] (steps_in way) (state_of l.size t h0 b0)
          unfolding edited_of
          from_refused x e = sym (cuts_refused (lent_of [] l) way s (j - 1) (number_of x) (omega arith)
              (next ∙ ap (edited_of l.size h' b') e))
              ∙ ap (λ (ps : List Step). cuts (lent_of [] l) [] ps s) (sym (from_start way (length way)))

          -- the root is the last
          pub from_root : j ≤ 1 → edited_of l.size h' b' y ≡ cuts (lent_of [] l) [] (steps_in way) (state_of l.size t h0 b0)
          from_root q = sym next ∙ at_root (j - 1) (omega arith)

          pub from_behind : Follows l.size l.slots u.used h b h' b' → Follows l.size l.slots t.used h0 b0 h' b'
          from_behind g = follows_on l.size l.slots t.used u.used h0 b0 h b h' b' d.follows g d.more

          pub from_next : (v : Tree) → y ≡ Ok v → CutsFit (lent_of [] l) (state_of l.size t h0 b0) way
              → ReadyTree l.size l.slots h' b' y → Follows l.size l.slots u.used h b h' b'
              → CutFrom l t way (j - 1) h0 b0 v h' b'
          unfolding edited_of
          from_next v e f r g =
              let c : cut_node (lent_of [] l) (up_of up) x.slot (state_of l.size u h b) ≡ ok (state_of l.size v h' b') =
              sym ey ∙ ap (edited_of l.size h' b') e in
              let w = (longer (lent_of [] l) up x.slot (state_of l.size u h b) (from_fits f).used).at
              (state_of l.size v h' b') c in
              record {
                state = next ∙ ap (edited_of l.size h' b') e;
                more = omega (arith, d.more, used_nodes l.size u h b, used_nodes l.size v h' b');
                ready = subst (ReadyTree l.size l.slots h' b') e r;
                follows = from_behind g;
              }

pub ruleset cuts_laws = (from_refused, from_none, from_all, from_root, first_step, pairs_all, pairs_end, above_none)
