-- A remove on a trusted way, from the leaf's entry to the cuts: what the slots grant each step. Assumes nothing.
use Rattle.std.specs.Prelude.{length, ◌≡◌, List, [], ◌∷◌, true, ◌&&◌, ℕ, suc, ◌-◌, ◌*◌, ◌≤◌, ltb}
use Rattle.std.proofs.Common.{sym, ap₂, subst, ◌∙◌, le_refl, le_trans, arith}
use Rattle.std.proofs.Math.Path.{ap}
use Rattle.std.proofs.Math.Dec.{leb}
use Rattle.node.specs.Result.{ok}
use Rattle.node.specs.Refusals as refusal
use Rattle.node.specs.Entry.{Entry, ghost, mem}
use Rattle.node.specs.Find.{place_of}
use Rattle.node.specs.Slot.{remove_at}
use Rattle.node.specs.declared.info.BTreeInfo.{BTreeInfo}
use Rattle.node.specs.laws.base.Results.{checked_ok}
use Rattle.tree.specs.Lent.{Lent}
use Rattle.tree.specs.State.{State, node_at, put_node, with_info, with_counts, with_entries}
use Rattle.tree.specs.Lookup.{Step, leaf_of}
use Rattle.tree.specs.Edit.{touch, index_keys, cuts}
use Rattle.tree.specs.Remove.{Dropped, drop_emptied, leveled_root}
use Rattle.tree.specs.Trust.{trusted}
use Rattle.tree.specs.internal.Room.{Roomy}
use Rattle.tree.specs.internal.Index.{steps_from}
use Rattle.tree.specs.internal.Edits.{CutsFit}
use Rattle.tree.specs.internal.Removing.{DropFits, DropRoom, taken_on, shrunk_at}
use Rattle.tree.specs.laws.state.State.{val_used}
use Rattle.tree.specs.laws.trust.Named.{names, names_same}
use Rattle.tree.specs.laws.trust.Stands.{Stands, all, trusted_of, of_trusted}
use Rattle.tree.specs.laws.trust.OneStep.{Like, like_counts, like_then}
use Rattle.tree.specs.laws.trust.Loads.{Down, on}
use Rattle.tree.specs.laws.trust.Edit.{on_way, Falls, falls_steady, falls_used}
use Rattle.tree.specs.laws.state.OneLeaf.{touch_marks}
use Rattle.tree.specs.laws.trust.Upsert.{down_once, ended_held}
use Rattle.tree.specs.laws.trust.DropEmptied.{dropping}
use Rattle.tree.specs.laws.trust.Remove.{s₂, first, second, down₂, four, five, shrunk_ended}
use Rattle.tree.specs.laws.room.Edit.{Indexed, indexes_indexed, later}
use Rattle.tree.specs.laws.room.Each.{Each, at_most, roomy_each, each_roomy, each_touch, each_put, each_drop, each_info, each_level, most_remove}
use Rattle.tree.specs.laws.remove.Ways.{step_of, from_cons, from_two, suffix}
use Rattle.tree.specs.laws.remove.Links.{Links, links_drop, links_info, links_level, links_keys}
use Rattle.tree.specs.laws.remove.Room.{Bare, bare_light}
use Rattle.tree.specs.laws.remove.Cuts.{sized_like, cuts_fit}
use Rattle.tree.specs.laws.remove.HandDown.{trusted_sized}
use Rattle.tree.specs.declared.editor.Position as code
use Rattle.tree.specs.internal.Way.{nth_step}

mem_some : (c : ℕ) → mem c ≡ ghost → ⊥
mem_some c e = let z : ◌≡◌ {A = ℕ} 0 1 = cc in omega arith

down_tail : (s : State) (x y : Step) (xs : List Step) → Down s (x ∷ y ∷ xs) → Down s (y ∷ xs)
down_tail s x y xs (on _ _ _ live q d) = d

-- the parent of a step that the drops below are done with
drop_fits : (l : Lent) (w : ℕ → ℕ) (s : State) (x y : Step) (xs : List Step) → ((c : ℕ) → 1 ≤ on_way c (y ∷ xs) → 1 ≤ w c) → Stands w all s
    → Down s (x ∷ y ∷ xs) → DropFits (drop_emptied (y ∷ xs) s).state x.slot x.child y.slot
drop_fits l w s x y xs h st (on _ _ _ live q d) =
    let once = down_once w all s (x ∷ y ∷ xs) x.slot st (on x y xs live q d) in
    let off : on_way x.slot (y ∷ xs) ≡ 0 = omega (arith, once, names_same x.slot) in
    let e : node_at (drop_emptied (y ∷ xs) s).state x.slot ≡ node_at s x.slot = (dropping l w y xs s h st d).off x.slot off in
    record {
      apart = λ z. let o : names x.slot (mem y.slot) ≡ 1 = ap (λ (j : ℕ). names j (mem y.slot)) z ∙ names_same y.slot in omega arith;
      child = rw e (val_used (node_at s x.slot).entries x.child (mem y.slot) (mem_some y.slot) q);
    }

-- ---- a way from its top

module _ (l : Lent) (k : List ℕ) (i : ℕ) (s : State) (x : Step) (ps : List Step) (tr : trusted l s ≡ true) (ro : Roomy (2 * l.size) s)
    (top : x.slot ≡ s.root) (down : Down s (x ∷ ps)) (pl : i ≡ place_of s.order k (node_at s (leaf_of (x ∷ ps))).entries) where
  st : Stands all all s
  st = (trusted_of l s tr).1

  once : (c : ℕ) → on_way c (x ∷ ps) ≤ 1
  once c = down_once all all s (x ∷ ps) c st down

  abbrev t₂ : State
  t₂ = s₂ l k s x ps st top down

  abbrev n : ℕ
  n = leaf_of (x ∷ ps)

  -- the same place after the way is touched
  same_place : place_of (touch (x ∷ ps) s).order k (node_at (touch (x ∷ ps) s) n).entries ≡ i
  same_place =
      ap₂ (λ (o : ℕ) (es : List Entry). place_of o k es) (first l k s x ps st top down).steady.order ((touch_marks (x ∷ ps) s).entries n) ∙ sym pl

  is_taken : taken_on i (x ∷ ps) s ≡ t₂
  unfolding taken_on
  is_taken =
      ap (λ (j : ℕ). let t : State = touch (x ∷ ps) s in put_node t n (with_entries (node_at t n) (remove_at j (node_at t n).entries)))
      (sym same_place)

  abbrev w : ℕ → ℕ
  w c = on_way c (x ∷ ps)

  stands₂ : Stands (λ c. on_way c (x ∷ ps)) all t₂
  stands₂ = (second l k s x ps st top down).stands

  -- ---- nodes dropped

  pub drop_room : (way : List code.Position) → steps_from way 0 (length way) ≡ x ∷ ps → DropRoom (taken_on i (x ∷ ps) s) way
  drop_room way e =
      record {
        turn = λ j u v.
            let z : suc (j - 1) ≡ j = omega arith in
            let xs : List Step = steps_from way (suc (suc (j - 1))) (length way - suc (suc (j - 1))) in
            let d : Down t₂ (steps_from way 0 (length way)) = rw e (down₂ l k s x ps st top down) in
            let d' : Down t₂ (step_of way (j - 1) ∷ step_of way (suc (j - 1)) ∷ steps_from way (suc (suc (j - 1))) (length way - suc (suc
            (j - 1)))) =
            subst (Down t₂) (from_two way (j - 1) (omega arith)) (suffix way (Down t₂) (down_tail t₂) (j - 1)
            (omega arith) d) in
            let most : (c : ℕ) → on_way c (step_of way (suc (j - 1)) ∷ steps_from way (suc (suc (j - 1))) (length way - suc (suc
            (j - 1)))) ≤ on_way c (x ∷ ps) = λ c.
            subst (λ (qs : List Step). on_way c qs ≤ on_way c (x ∷ ps)) (from_cons way (suc (j - 1)) (omega arith))
            (suffix way (λ qs. on_way c qs ≤ on_way c (x ∷ ps)) (λ a b bs y. le_trans (later c a (b ∷ bs)) y) (suc (j - 1)) (omega arith)
            (subst (λ (qs : List Step). on_way c qs ≤ on_way c (x ∷ ps)) (sym e) (le_refl _))) in
            let f : DropFits (drop_emptied (step_of way (suc (j - 1)) ∷ steps_from way (suc (suc (j - 1))) (length way - suc (suc
            (j - 1)))) t₂).state
            (nth_step way (j - 1)).slot (nth_step way (j - 1)).index (nth_step way (suc (j - 1))).slot =
            drop_fits l w t₂ (step_of way (j - 1)) (step_of way (suc (j - 1))) xs (λ c y. le_trans y (most c)) stands₂ d' in
            let g : DropFits (drop_emptied (steps_from way (suc (j - 1)) (length way - suc (j - 1))) t₂).state (nth_step way (j - 1)).slot
            (nth_step way
            (j - 1)).index
            (nth_step way (suc (j - 1))).slot =
            subst (λ (qs : List Step). DropFits (drop_emptied qs t₂).state (nth_step way (j - 1)).slot (nth_step way (j - 1)).index
            (nth_step way (suc (j - 1))).slot)
            (sym (from_cons way (suc (j - 1)) (omega arith))) f in
            rw is_taken (subst (λ (y : ℕ). DropFits (drop_emptied (steps_from way y (length way - y)) t₂).state (nth_step way (j - 1)).slot
            (nth_step way
            (j - 1)).index (nth_step way y).slot) z g);
      }

  -- ---- what is left of the counts' check on: counts, a leveled root

  abbrev shrunk : ℕ → ℕ → State
  shrunk keys nodes = leveled_root (with_info (drop_emptied (x ∷ ps) t₂).state (with_counts s.info keys nodes))

  roomy₂ : Roomy (2 * l.size) t₂
  roomy₂ =
      let m : ℕ = 2 * l.size in
      let a : Each (at_most m) (touch (x ∷ ps) s) = each_touch (at_most m) (x ∷ ps) s (roomy_each m s ro) in
      each_roomy m t₂ (each_put (at_most m) (touch (x ∷ ps) s) n _
      (λ d. unfold with_entries in most_remove m _ _ (a.at n d)) a)

  module _ (keys nodes : ℕ) where
    roomy_shrunk : Roomy (2 * l.size) (shrunk keys nodes)
    roomy_shrunk =
        let m : ℕ = 2 * l.size in
        each_roomy m (shrunk keys nodes) (each_level (at_most m) _ (each_info (at_most m) (drop_emptied (x ∷ ps) t₂).state _
        (each_drop (at_most m) (most_remove m) (x ∷ ps) t₂ (roomy_each m t₂ roomy₂))))

    links_shrunk : Links (shrunk keys nodes) (x ∷ ps)
    links_shrunk =
        links_level _ (x ∷ ps) (links_info (drop_emptied (x ∷ ps) t₂).state _ (x ∷ ps) (links_drop l w x ps t₂ (λ c y. y) stands₂
        (down₂ l k s x ps st top down)))

    abbrev s₅ : State
    s₅ = index_keys (x ∷ ps) (shrunk keys nodes)

    links₅ : Links s₅ (x ∷ ps)
    links₅ = links_keys (x ∷ ps) (x ∷ ps) (shrunk keys nodes) links_shrunk

    falls₅ : Falls s₅ (x ∷ ps)
    falls₅ = falls_steady l (shrunk keys nodes) s₅ (x ∷ ps) (five l k s x ps st top down keys nodes).steady
        (four l k s x ps st top down keys nodes).falls

    indexed₅ : Bare (shrunk keys nodes) → Indexed (2 * l.size) s₅ (x ∷ ps)
    indexed₅ b =
        indexes_indexed (2 * l.size) (x ∷ ps) (shrunk keys nodes) once
        (falls_used (shrunk keys nodes) (x ∷ ps) (four l k s x ps st top down keys nodes).falls)
        (λ c z. bare_light (2 * l.size) (shrunk keys nodes) b roomy_shrunk c)

    like₅ : Like s.info s₅.info
    unfolding with_info
    like₅ =
        like_then s.info (with_counts s.info keys nodes) s₅.info (like_counts s.info keys nodes)
        (subst (λ (t : BTreeInfo). Like t s₅.info) (four l k s x ps st top down keys nodes).info
        (five l k s x ps st top down keys nodes).steady.like)

    cuts₅ : (way : List code.Position) → steps_from way 0 (length way) ≡ x ∷ ps → Bare (shrunk keys nodes) → CutsFit l s₅ way
    cuts₅ way e b =
        cuts_fit l s₅ way w (λ c y. rw e at y) (five l k s x ps st top down keys nodes).stands (rw e falls₅) (λ c. rw e (once c))
        (rw e links₅)
        (rw e (indexed₅ b)) (sized_like s.info s₅.info like₅ (trusted_sized l s tr)) (like₅.node ∙ (trusted_of l s tr).0.node)

    trust₅ : (u : State) → cuts l [] (x ∷ ps) s₅ ≡ ok u → trusted l u ≡ true
    trust₅ u q =
        let a = shrunk_ended l k s x ps st top down keys nodes u q in
        of_trusted l u (ended_held l s u a (trusted_of l s tr).0) a.stands

  -- ---- as the edit comes to it

  module _ (v : State) (e : shrunk_at i (record { state = s; steps = x ∷ ps }) ≡ ok v) where
    abbrev d : Dropped
    d = drop_emptied (x ∷ ps) (taken_on i (x ∷ ps) s)

    is_shrunk : v ≡ shrunk (s.info.key_count - 1) (s.info.node_count - d.nodes)
    is_shrunk = came is_taken (of_check e)
      where
        of_check : shrunk_at i (record { state = s; steps = x ∷ ps }) ≡ ok v
            → ok (leveled_root (with_info d.state (with_counts s.info (s.info.key_count - 1) (s.info.node_count - d.nodes)))) ≡ ok v
        of_check q =
            unfold shrunk_at in
            (checked_ok refusal.count (ltb 0 s.info.key_count && leb d.nodes s.info.node_count) _ v q).1

        came : taken_on i (x ∷ ps) s ≡ t₂
            → ok (leveled_root (with_info d.state (with_counts s.info (s.info.key_count - 1) (s.info.node_count - d.nodes)))) ≡ ok v
            → v ≡ shrunk (s.info.key_count - 1) (s.info.node_count - d.nodes)
        came q r =
            let z : leveled_root (with_info d.state (with_counts s.info (s.info.key_count - 1) (s.info.node_count - d.nodes))) ≡ v = cc in
            sym z ∙ ap (λ (y : State). leveled_root (with_info (drop_emptied (x ∷ ps) y).state (with_counts s.info (s.info.key_count - 1)
            (s.info.node_count - d.nodes)))) q

    pub shrunk_roomy : Roomy (2 * l.size) v
    shrunk_roomy = rw is_shrunk (roomy_shrunk _ _)

    pub shrunk_cuts : (way : List code.Position) → steps_from way 0 (length way) ≡ x ∷ ps → Bare v
        → CutsFit l (index_keys (x ∷ ps) v) way
    shrunk_cuts way q b = rw is_shrunk (cuts₅ _ _ way q (rw is_shrunk at b))

    pub shrunk_trust : (u : State) → cuts l [] (x ∷ ps) (index_keys (x ∷ ps) v) ≡ ok u → trusted l u ≡ true
    shrunk_trust u q = trust₅ (s.info.key_count - 1) (s.info.node_count - d.nodes) u (rw is_shrunk at q)
