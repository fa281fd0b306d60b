-- An upsert on a loaded way: how much each slot takes when index keys are set, and when the cuts begin. Assumes nothing.
use Rattle.std.specs.Prelude.{◌≡◌, List, ◌∷◌, false, ℕ, ◌+◌, ◌≤◌, ◌<◌, length, ltb}
use Rattle.std.proofs.Common.{sym, ap, subst, ◌∙◌, arith, ltb-true, ltb-false}
use Rattle.node.specs.Entry.{Entry, Val, mem}
use Rattle.node.specs.Slot.{MemNode}
use Rattle.node.specs.laws.base.Tests.{by_test}
use Rattle.tree.specs.State.{State, node_at, with_info}
use Rattle.tree.specs.Lookup.{Step, leaf_of}
use Rattle.tree.specs.Edit.{touch, index_keys}
use Rattle.tree.specs.Upsert.{put_in_leaf}
use Rattle.tree.specs.laws.state.State.{at_put_other}
use Rattle.tree.specs.laws.state.OneLeaf.{touch_marks}
use Rattle.tree.specs.laws.trust.Named.{names, names_is}
use Rattle.tree.specs.laws.trust.Stands.{Stands, all}
use Rattle.tree.specs.laws.trust.Loads.{Down, end, on}
use Rattle.tree.specs.laws.trust.Edit.{on_way}
use Rattle.tree.specs.laws.trust.Upsert.{inner, down_inner, down_once}
use Rattle.tree.specs.laws.room.Weight.{weight}
use Rattle.tree.specs.internal.Room.{Roomy}
use Rattle.tree.specs.laws.room.Edit.{KeysMost, inner_most, Indexed, indexes_indexed}
use Rattle.tree.specs.laws.room.Each.{keys_at_most, each_keys, roomy_keys, each_touch, each_leaf, keys_put}

live_first : (s : State) (x : Step) (c k : ℕ) → (node_at s x.slot).dead ≡ false → 1 ≤ names c (mem x.slot) + k
    → (1 ≤ k → (node_at s c).dead ≡ false) → (node_at s c).dead ≡ false
live_first s x c k h y f =
    by_test (ltb 0 (names c (mem x.slot)))
    (λ t. let e : c ≡ x.slot = names_is c x.slot (ltb-true 0 _ t) in ap (λ (z : ℕ). (node_at s z).dead) e ∙ h)
    (λ t. f (omega (arith, ltb-false 0 (names c (mem x.slot)) t)))

-- every slot of a way down is live
pub down_live : (s : State) (ps : List Step) → Down s ps → (c : ℕ) → 1 ≤ on_way c ps → (node_at s c).dead ≡ false
down_live s ps (end x live lv) c h = live_first s x c 0 live h (λ z. absurd (omega arith))
down_live s ps (on x y xs live q d) c h = live_first s x c (on_way c (y ∷ xs)) live h (λ z. down_live s (y ∷ xs) d c z)

-- a leaf's edit leaves every other slot as it was
pub leaf_other : (s : State) (n : ℕ) (k : List ℕ) (v : Val) (c : ℕ) → (c ≡ n → ⊥) → node_at (put_in_leaf s n k v) c ≡ node_at s c
unfolding put_in_leaf with_info node_at
leaf_other s n k v c d = at_put_other s n _ c d

module _ (b : ℕ) (k : List ℕ) (v : Val) (s : State) (ps : List Step) (st : Stands all all s) (down : Down s ps) (roomy : Roomy b s) where
  abbrev put : State
  put = put_in_leaf (touch ps s) (leaf_of ps) k v

  -- above the leaf nothing has changed yet
  pub put_inner : (c : ℕ) → 1 ≤ inner c ps → weight (node_at put c).entries ≤ b
  put_inner c h =
      let off : c ≡ leaf_of ps → ⊥ = λ e. let z : inner c ps ≡ inner (leaf_of ps) ps = ap (λ (j : ℕ). inner j ps) e in omega
      (arith, down_inner all all s ps st down) in
      let q : (node_at put c).entries ≡ (node_at s c).entries = ap (λ (m : MemNode). m.entries) (leaf_other (touch ps s) (leaf_of ps) k v c off) ∙
      (touch_marks ps s).entries c in
      let live : (node_at s c).dead ≡ false = down_live s ps down c (omega (arith, inner_most c ps)) in
      subst (λ (es : List Entry). weight es ≤ b) (sym q) (roomy.most c live)

  -- every key has at most b bytes, if the new one has
  pub put_keys : length k ≤ b → KeysMost b put
  put_keys h =
      each_keys b put (each_leaf (keys_at_most b) (touch ps s) (leaf_of ps) k v
      (λ d. keys_put b (touch ps s).order (record { key = k; value = v }) (node_at (touch ps s) (leaf_of ps)).entries h
      ((each_touch (keys_at_most b) ps s (roomy_keys b s roomy)).at (leaf_of ps) d))
      (each_touch (keys_at_most b) ps s (roomy_keys b s roomy)))

  -- after the index keys each slot above the leaf takes at most b and the first key of the slot below it
  pub put_indexed : ((c : ℕ) → 1 ≤ on_way c ps → c < length put.nodes) → Indexed b (index_keys ps put) ps
  put_indexed u = indexes_indexed b ps put (λ c. down_once all all s ps c st down) u put_inner
