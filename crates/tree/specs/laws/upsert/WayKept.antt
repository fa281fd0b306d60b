-- A way step by step, and what an edit on it leaves as it was: dead marks, slots in use, how many entries, the tree's numbers but for its counts and
-- longest lengths. Assumes nothing.
use Rattle.std.specs.Prelude.{◌≡◌, false, ◌||◌, length, ltb}
use Rattle.std.proofs.Math.Path.{refl}
use Rattle.std.proofs.Common.{sym, ap, subst, ◌∙◌, ltb-true, ltb-false}
use mathlib.Core.List.{List, [], ◌∷◌}
use Rattle.std.proofs.Math.Bool.{not}
use Prim.Native.Nat.{ℕ, zero, suc, ◌+◌, ◌-◌, ◌≤◌, ◌<◌}
use native.Mathlib.Omega.{arith}
use Rattle.std.proofs.Math.ListN.{get_or-eq_default}
use Rattle.std.proofs.Math.Seq.{set_out}
use Rattle.node.specs.Order.{same_key}
use Rattle.node.specs.Entry.{Entry, Val, ghost, mem}
use Rattle.node.specs.Find.{key_at, val_at}
use Rattle.node.specs.Fit.{Sized}
use Rattle.node.specs.Slot.{MemNode, with_key}
use Rattle.node.specs.declared.info.BTreeInfo.{BTreeInfo}
use Rattle.node.specs.laws.base.Tests.{by_test}
use Rattle.node.specs.laws.base.Results.{Holds, holds_ok, holds_bind}
use Rattle.tree.specs.Lent as lent
use Rattle.tree.specs.State.{State, node_at, put_node, add_node, with_nodes, with_info, with_counts, with_longest, with_entries, changed, marked_dirty}
use Rattle.tree.specs.Lookup.{Step, leaf_of}
use Rattle.tree.specs.Edit.{mark_way, mark_dirty, touch, set_index_key, index_keys, more_nodes, parted, link_right, cuts}
use Rattle.tree.specs.Upsert.{grown_longest, put_in_leaf}
use Rattle.tree.specs.internal.Index.{steps_from}
use Rattle.tree.specs.internal.Edits.{step_at}
use Rattle.tree.specs.laws.state.State.{put_count}
use Rattle.tree.specs.laws.trust.Named.{names, names_same, names_is}
use Rattle.tree.specs.laws.trust.OneStep.{put_each, Like, like_refl, like_then, like_counts}
use Rattle.tree.specs.laws.trust.Loads.{by_list, Down, end, on}
use Rattle.tree.specs.laws.trust.Edit.{on_way, pick, length_key}
use Rattle.tree.specs.laws.trust.Cut.{by_cut}
use Rattle.tree.specs.laws.trust.Upsert.{inner}
use Rattle.tree.specs.laws.room.Weight.{weight}
use Rattle.tree.specs.laws.room.Edit.{Indexed, more}
use Rattle.tree.specs.declared.editor.Position as code

-- ---- the steps of a way, from each on

module _ (way : List code.Position) where
  pub from_step : (j : ℕ) → j < length way → steps_from way j (length way - j) ≡ step_at way j ∷ steps_from way (suc j) (length way - suc j)
  unfolding steps_from step_at
  from_step j h = let z : length way - j ≡ suc (length way - suc j) = omega arith in rw z

  -- what a way keeps when its first step is taken off, each rest of it has
  pub from_each : (P : List Step → Type 0) → ((x y : Step) (xs : List Step) → P (x ∷ y ∷ xs) → P (y ∷ xs)) → P (steps_from way 0 (length way))
      → (j : ℕ) → j < length way → P (steps_from way j (length way - j))
  from_each P f p zero h = let z : length way - 0 ≡ length way = omega arith in subst (λ (m : ℕ). P (steps_from way 0 m)) (sym z) p
  from_each P f p (suc j) h =
      let d = from_step (suc j) h in
      let e = from_step j (omega arith) ∙ ap (λ (xs : List Step). step_at way j ∷ xs) d in
      subst P (sym d) (f (step_at way j) (step_at way (suc j)) _ (subst P e (from_each P f p j (omega arith))))

  -- two steps, and the rest
  pub from_two : (P : List Step → Type 0) (j : ℕ) → suc j < length way → P (steps_from way j (length way - j))
      → P (step_at way j ∷ step_at way (suc j) ∷ steps_from way (suc (suc j)) (length way - suc (suc j)))
  from_two P j h p =
      subst P (from_step j (omega arith) ∙ ap (λ (xs : List Step). step_at way j ∷ xs) (from_step (suc j) h)) p

-- ---- what a change of one slot leaves as it was

put_nothing : (s : State) (n : ℕ) (m : MemNode) → length s.nodes ≤ n → put_node s n m ≡ s
unfolding put_node with_nodes
put_nothing s n m h = ap (with_nodes s) (set_out s.nodes n m h)

module _ {A : Type 0} (f : MemNode → A) where
  put_keeps : (s : State) (n : ℕ) (m : MemNode) → f m ≡ f (node_at s n) → (c : ℕ) → f (node_at (put_node s n m) c) ≡ f (node_at s c)
  put_keeps s n m e c =
      by_test (ltb n (length s.nodes))
      (λ t. put_each (λ k x. f x ≡ f (node_at s k)) s n m (ltb-true n _ t) e (λ k d. refl) c)
      (λ t. ap (λ (u : State). f (node_at u c)) (put_nothing s n m (ltb-false n (length s.nodes) t)))

  module _ (g : (m : MemNode) → f (marked_dirty m) ≡ f m) where
    mark_keeps : (s : State) (n c : ℕ) → f (node_at (mark_dirty s n) c) ≡ f (node_at s c)
    unfolding mark_dirty
    mark_keeps s n c = put_keeps s n (marked_dirty (node_at s n)) (g (node_at s n)) c

    way_keeps : (ps : List Step) (s : State) (c : ℕ) → f (node_at (mark_way ps s) c) ≡ f (node_at s c)
    unfolding mark_way mark_dirty
    way_keeps [] s c = refl
    way_keeps (x ∷ ps) s c = way_keeps ps (mark_dirty s x.slot) c ∙ mark_keeps s x.slot c

    touch_keeps : (ps : List Step) (s : State) (c : ℕ) → f (node_at (touch ps s) c) ≡ f (node_at s c)
    unfolding touch
    touch_keeps ps s c =
        pick (λ (u : State). f (node_at u c) ≡ f (node_at s c)) s.virtual (mark_dirty (mark_dirty s s.root) (leaf_of ps)) (mark_way ps s)
        (λ t. mark_keeps (mark_dirty s s.root) (leaf_of ps) c ∙ mark_keeps s s.root c) (λ t. way_keeps ps s c)

  module _ (g : (m : MemNode) (i : ℕ) (k : List ℕ) → f (changed m (with_key i k m.entries)) ≡ f m) where
    key_keeps : (s : State) (n i c j : ℕ) → f (node_at (set_index_key s n i c) j) ≡ f (node_at s j)
    unfolding set_index_key
    key_keeps s n i c j =
        by_list (node_at s c).entries
        (λ q. rw q)
        (λ e es q. by_test ((node_at s c).dead || not (ltb i (length (node_at s n).entries)) || same_key (key_at (node_at s n).entries i) e.key)
        (λ t. rw (q, t))
        (λ t. rw (q, t) (put_keeps s n (changed (node_at s n) (with_key i e.key (node_at s n).entries)) (g (node_at s n) i e.key) j)))

    keys_keep : (ps : List Step) (s : State) (j : ℕ) → f (node_at (index_keys ps s) j) ≡ f (node_at s j)
    unfolding index_keys
    keys_keep [] s j = refl
    keys_keep (x ∷ []) s j = refl
    keys_keep (x ∷ y ∷ ps) s j = key_keeps (index_keys (y ∷ ps) s) x.slot x.child y.slot j ∙ keys_keep (y ∷ ps) s j

-- ---- dead marks, and how many slots there are

pub touch_dead : (ps : List Step) (s : State) (c : ℕ) → (node_at (touch ps s) c).dead ≡ (node_at s c).dead
unfolding marked_dirty changed
touch_dead ps s c = touch_keeps (λ m. m.dead) (λ m. refl) ps s c

pub leaf_dead : (s : State) (n : ℕ) (k : List ℕ) (v : Val) (c : ℕ) → (node_at (put_in_leaf s n k v) c).dead ≡ (node_at s c).dead
unfolding put_in_leaf with_info node_at with_entries
leaf_dead s n k v c = put_keeps (λ m. m.dead) s n _ refl c

pub index_dead : (ps : List Step) (s : State) (c : ℕ) → (node_at (index_keys ps s) c).dead ≡ (node_at s c).dead
unfolding changed
index_dead ps s c = keys_keep (λ m. m.dead) (λ m i k. refl) ps s c

pub index_long : (ps : List Step) (s : State) (c : ℕ) → length (node_at (index_keys ps s) c).entries ≡ length (node_at s c).entries
unfolding changed
index_long ps s c = keys_keep (λ m. length m.entries) (λ m i k. length_key i k m.entries) ps s c

way_count : (ps : List Step) (s : State) → length (mark_way ps s).nodes ≡ length s.nodes
unfolding mark_way
way_count [] s = refl
way_count (x ∷ ps) s = way_count ps (put_node s x.slot (marked_dirty (node_at s x.slot))) ∙ put_count s x.slot _

pub touch_count : (ps : List Step) (s : State) → length (touch ps s).nodes ≡ length s.nodes
unfolding touch mark_dirty
touch_count ps s =
    pick (λ (u : State). length u.nodes ≡ length s.nodes) s.virtual (mark_dirty (mark_dirty s s.root) (leaf_of ps)) (mark_way ps s)
    (λ t. put_count (mark_dirty s s.root) (leaf_of ps) _ ∙ put_count s s.root _) (λ t. way_count ps s)

pub leaf_count : (s : State) (n : ℕ) (k : List ℕ) (v : Val) → length (put_in_leaf s n k v).nodes ≡ length s.nodes
unfolding put_in_leaf with_info
leaf_count s n k v = put_count s n _

-- ---- the tree's numbers but for its counts and longest lengths

pub leaf_like : (s : State) (n : ℕ) (k : List ℕ) (v : Val) → Like s.info (put_in_leaf s n k v).info
unfolding put_in_leaf with_info grown_longest with_longest with_counts
leaf_like s n k v = record { flags = refl; node = refl; key = refl; val = refl }

key_info : (s : State) (n i c : ℕ) → (set_index_key s n i c).info ≡ s.info
unfolding set_index_key put_node with_nodes
key_info s n i c =
    by_list (node_at s c).entries
    (λ q. rw q)
    (λ e es q. by_test ((node_at s c).dead || not (ltb i (length (node_at s n).entries)) || same_key (key_at (node_at s n).entries i) e.key)
    (λ t. rw (q, t))
    (λ t. rw (q, t)))

pub index_info : (ps : List Step) (s : State) → (index_keys ps s).info ≡ s.info
unfolding index_keys
index_info [] s = refl
index_info (x ∷ []) s = refl
index_info (x ∷ y ∷ ps) s = key_info (index_keys (y ∷ ps) s) x.slot x.child y.slot ∙ index_info (y ∷ ps) s

cut_like : (s : State) (n c p i r : ℕ) → Like s.info (more_nodes (link_right (parted s n c) p i r) 1).info
unfolding more_nodes link_right parted put_node add_node with_nodes with_info
cut_like s n c p i r = like_counts s.info _ _

pub cuts_like : (l : lent.Lent) (x : Step) (ps : List Step) (s : State) → Holds (λ u. Like s.info u.info) (cuts l (x ∷ []) ps s)
unfolding cuts
cuts_like l x [] s = holds_ok (like_refl s.info)
cuts_like l x (y ∷ ps) s =
    holds_bind (cuts l (y ∷ []) ps s) _ λ t e.
    by_cut (λ (u : State). Like s.info u.info) l x y.slot t
    (λ z. (cuts_like l y ps s).at t e)
    (λ c live ps' room. like_then s.info t.info _ ((cuts_like l y ps s).at t e) (cut_like t y.slot c x.slot x.child _))

pub sized_like : (t t' : BTreeInfo) → Like t t' → Sized t → Sized t'
sized_like t t' k h =
    record {
      least = rw k.node h.least;
      most = rw k.node h.most;
      key = rw k.key h.key;
      value = rw k.val h.value;
    }

-- ---- the steps of a way down

val_in : (es : List Entry) (i c : ℕ) → val_at es i ≡ mem c → i < length es
unfolding val_at
val_in es i c q =
    by_test (ltb i (length es)) (λ t. ltb-true i (length es) t)
    (λ t. let e = get_or-eq_default es (record { key = []; value = ghost }) (ltb-false i (length es) t) in
    let z : ghost ≡ mem c = sym (ap (λ (x : Entry). x.value) e) ∙ q in let y : ◌≡◌ {A = ℕ} 0 1 = cc in absurd (omega arith))

module _ (s : State) where
  pub down_tail : (x y : Step) (xs : List Step) → Down s (x ∷ y ∷ xs) → Down s (y ∷ xs)
  down_tail x y xs (on _ _ _ live q d) = d

  pub down_first : (x : Step) (xs : List Step) → Down s (x ∷ xs) → (node_at s x.slot).dead ≡ false
  down_first x xs (end _ live lv) = live
  down_first x xs (on _ _ _ live q d) = live

  pub down_child : (x y : Step) (xs : List Step) → Down s (x ∷ y ∷ xs) → x.child < length (node_at s x.slot).entries
  down_child x y xs (on _ _ _ live q d) = val_in (node_at s x.slot).entries x.child y.slot q

  some_first : (x : Step) (c k : ℕ) → 0 < length (node_at s x.slot).entries → 1 ≤ names c (mem x.slot) + k
      → (1 ≤ k → 0 < length (node_at s c).entries) → 0 < length (node_at s c).entries
  some_first x c k h y f =
      by_test (ltb 0 (names c (mem x.slot)))
      (λ t. let e : c ≡ x.slot = names_is c x.slot (ltb-true 0 _ t) in subst (λ (z : ℕ). 0 < length (node_at s z).entries) (sym e) h)
      (λ t. f (omega (arith, ltb-false 0 (names c (mem x.slot)) t)))

  -- an index slot of a way down has entries
  pub down_some : (ps : List Step) → Down s ps → (c : ℕ) → 1 ≤ inner c ps → 0 < length (node_at s c).entries
  down_some ps (end x live lv) c h = absurd (omega arith)
  down_some ps (on x y xs live q d) c h =
      let k : 0 < length (node_at s x.slot).entries = omega (arith, val_in (node_at s x.slot).entries x.child y.slot q) in
      some_first x c (inner c (y ∷ xs)) k h (λ z. down_some (y ∷ xs) d c z)

module _ (k : ℕ) (s : State) where
  pub indexed_tail : (x y : Step) (xs : List Step) → Indexed k s (x ∷ y ∷ xs) → Indexed k s (y ∷ xs)
  indexed_tail x y xs (more _ _ _ q f) = f

  pub indexed_first : (x y : Step) (xs : List Step) → Indexed k s (x ∷ y ∷ xs)
      → weight (node_at s x.slot).entries ≤ k + length (key_at (node_at s y.slot).entries 0)
  indexed_first x y xs (more _ _ _ q f) = q

-- two slots of a way are not one
pub two_off : (x y : Step) (xs : List Step) → ((c : ℕ) → on_way c (x ∷ y ∷ xs) ≤ 1) → on_way x.slot (y ∷ xs) ≡ 0
two_off x y xs a = omega (arith, a x.slot, names_same x.slot)

pub two_apart : (x y : Step) (xs : List Step) → ((c : ℕ) → on_way c (x ∷ y ∷ xs) ≤ 1) → x.slot ≡ y.slot → ⊥
two_apart x y xs a e =
    let z : names x.slot (mem y.slot) ≡ 1 = ap (λ (j : ℕ). names j (mem y.slot)) e ∙ names_same y.slot in
    omega (arith, two_off x y xs a)
