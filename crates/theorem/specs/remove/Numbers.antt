-- What the passes of a remove leave of a state's numbers, and what is left of a way is filled. Assumes nothing.
use Rattle.std.specs.Prelude.{◌≡◌, refl, List, [], ◌∷◌, false, ℕ, suc, ◌≤◌, ◌<◌, length, eqb}
use Rattle.std.proofs.Common.{ap, ◌∙◌, le_refl, arith, eqb-true}
use Rattle.std.proofs.lemmas.Bool.{eqb-false}
use Rattle.node.specs.Entry.{Entry}
use Rattle.node.specs.laws.base.Tests.{by_test, never}
use Rattle.tree.specs.State.{State, node_at, put_node, with_nodes, with_level}
use Rattle.tree.specs.laws.state.State.{put_count}
use Rattle.tree.specs.Lookup.{Step}
use Rattle.tree.specs.Edit.{index_keys}
use Rattle.tree.specs.Remove.{leveled_root}
use Rattle.flush.specs.laws.SpaceLaws.{by_list}
use Rattle.theorem.specs.steps.LeafAndKeys.{Along, end, down}
use Rattle.theorem.specs.steps.Grow.{names_apart}
use Rattle.theorem.specs.steps.Marks.{Marked}
use Rattle.theorem.specs.steps.EachSlot.{on_way, by_indexes}
use Rattle.theorem.specs.remove.WhatIsLeft.{Off, Stub, tip, on}

-- ---- numbers

pub index_count : (ps : List Step) (s : State) → length (index_keys ps s).nodes ≡ length s.nodes
index_count ps s =
    by_indexes (λ (a b : State). length b.nodes ≡ length a.nodes) (λ a. refl) (λ a b c p q. q ∙ p) (λ c. 1) (λ a n i k h. put_count a n _) ps s
    (λ c h. le_refl 1)

pub index_info : (ps : List Step) (s : State) → (index_keys ps s).info ≡ s.info
unfolding put_node with_nodes
index_info ps s = by_indexes (λ (a b : State). b.info ≡ a.info) (λ a. refl) (λ a b c p q. q ∙ p) (λ c. 1) (λ a n i k h. refl) ps s
    (λ c h. le_refl 1)

pub leveled_count : (s : State) → length (leveled_root s).nodes ≡ length s.nodes
unfolding leveled_root
leveled_count s = by_list (node_at s s.root).entries (λ q. rw q (put_count s s.root _)) (λ e es q. rw q)

pub leveled_info : (s : State) → (leveled_root s).info ≡ s.info
unfolding leveled_root put_node with_nodes
leveled_info s = by_list (node_at s s.root).entries (λ q. rw q) (λ e es q. rw q)

-- a root is filled, or a leaf; every other slot is as it was
pub by_leveled : (P : State → Type 0) (s : State) → ((node_at s s.root).entries ≡ [] → P (put_node s s.root (with_level (node_at s s.root) 0)))
    → (0 < length (node_at s s.root).entries → P s) → P (leveled_root s)
unfolding leveled_root
by_leveled P s f g =
    by_list (node_at s s.root).entries
    (λ q. rw q (f q))
    (λ e es q. rw q (g (let z : length (node_at s s.root).entries ≡ suc (length es) = ap length q in omega arith)))

-- ---- ways

pub along_cons : (s : State) (T : List Entry → Entry → List Entry → Type 0) (leaf l n : ℕ) (ps : List Step) → Along s T leaf l n ps
    → (i : ℕ) × (qs : List Step) × (ps ≡ record { slot = n; child = i } ∷ qs)
along_cons s T leaf _ _ _ end = (0, [], refl)
along_cons s T leaf _ _ _ (down {xs = xs} {ps = ps} row val to w) = (length xs, ps, refl)

pub along_marked : (s t : State) (T : List Entry → Entry → List Entry → Type 0) (leaf l n : ℕ) (ps : List Step) → Marked s t → Along s T leaf l n ps
    → Along t T leaf l n ps
along_marked s t T leaf _ _ _ h end = end
along_marked s t T leaf _ _ _ h (down {l = l} {n = n} {c = c} {xs = xs} {e = e} {ys = ys} {ps = ps} row val to w) =
    down {xs = xs} {e = e} {ys = ys} ((h.alike n).entries ∙ row) val to (along_marked s t T leaf l c ps h w)

off_live : {C : Type 0} (s : State) (ps : List Step) → Off s ps → (d : ℕ) → 1 ≤ on_way d ps → (node_at s d).dead ≡ false → C
off_live s [] h d k f = absurd (omega arith)
off_live s (x ∷ ps) h d k f =
    by_test (eqb d x.slot)
    (λ t. never (ap (λ (i : ℕ). (node_at s i).dead) (eqb-true d x.slot t) ∙ h.0) f)
    (λ t. off_live s ps h.2 d (omega (arith, names_apart d x.slot (eqb-false d x.slot t))) f)

-- below the top a slot of the way is dead or filled
pub stub_filled : (s : State) (l n : ℕ) (ps : List Step) → Stub s l n ps → (d : ℕ) → 1 ≤ on_way d ps → (d ≡ n → ⊥) → (node_at s d).dead ≡ false
    → 0 < length (node_at s d).entries
stub_filled s l n _ (tip {ps = ps} o) d h f live = off_live s ps o d (omega (arith, names_apart d n f)) live
stub_filled s _ n _ (on {l = l} {c = c} xs e ys {f = a} {fs = as'} {ps = ps} row val some st) d h f live =
    by_test (eqb d c)
    (λ t. let z : length (node_at s d).entries ≡ suc (length as') = ap (λ (i : ℕ). length (node_at s i).entries) (eqb-true d c t) ∙ ap length some in
    omega arith)
    (λ t. stub_filled s l c ps st d (omega (arith, names_apart d n f)) (eqb-false d c t) live)
