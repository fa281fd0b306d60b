-- A way after a remove dropped nodes of it: each slot that lives is held by the slot above it, which lives too. Assumes nothing.
use Rattle.std.specs.Prelude.{◌≡◌, List, [], ◌∷◌, true, false, ◌||◌, ℕ, zero, suc, ◌≤◌, length, ltb}
use Rattle.std.proofs.Math.Path.{refl}
use Rattle.std.proofs.Common.{sym, ap, ◌∙◌, arith, ltb-true, ltb-false}
use Rattle.std.proofs.Math.Bool.{not}
use Rattle.std.proofs.Math.Seq.{set_out}
use Rattle.node.specs.Order.{same_key}
use Rattle.node.specs.Entry.{Entry, ghost, mem}
use Rattle.node.specs.Find.{key_at, val_at}
use Rattle.node.specs.Slot.{MemNode, remove_at, rekeyed, with_key}
use Rattle.node.specs.declared.info.BTreeInfo.{BTreeInfo}
use Rattle.node.specs.laws.base.Tests.{by_test, never}
use Rattle.tree.specs.Lent.{Lent}
use Rattle.tree.specs.State.{State, node_at, put_node, with_nodes, with_info, with_level, changed, marked_dead}
use Rattle.tree.specs.Lookup.{Step}
use Rattle.tree.specs.Edit.{set_index_key, index_keys}
use Rattle.tree.specs.Remove.{drop_node, drop_emptied, leveled_root}
use Rattle.tree.specs.laws.state.State.{at_put_same, at_put_other}
use Rattle.tree.specs.laws.trust.Named.{names, names_same, live_used}
use Rattle.tree.specs.laws.trust.Stands.{Stands, all}
use Rattle.tree.specs.laws.trust.OneStep.{put_each}
use Rattle.tree.specs.laws.trust.Loads.{by_list, Down, end, on}
use Rattle.tree.specs.laws.trust.Edit.{on_way}
use Rattle.tree.specs.laws.trust.Upsert.{down_once}
use Rattle.tree.specs.laws.trust.DropEmptied.{Dropping, dropping, two_off}

-- a slot of a way that lives is child of the slot above it, which lives
pub data Links (s : State) : List Step → Type 0 where
  one : (x : Step) → Links s (x ∷ [])
  more : (x y : Step) (xs : List Step)
      → ((node_at s y.slot).dead ≡ false → ((node_at s x.slot).dead ≡ false) × (val_at (node_at s x.slot).entries x.child ≡ mem y.slot))
      → Links s (y ∷ xs) → Links s (x ∷ y ∷ xs)

pub links_tail : (s : State) (x y : Step) (xs : List Step) → Links s (x ∷ y ∷ xs) → Links s (y ∷ xs)
links_tail s x y xs (more _ _ _ q f) = f

pub links_first : (s : State) (x y : Step) (xs : List Step) → Links s (x ∷ y ∷ xs) → (node_at s y.slot).dead ≡ false
    → ((node_at s x.slot).dead ≡ false) × (val_at (node_at s x.slot).entries x.child ≡ mem y.slot)
links_first s x y xs (more _ _ _ q f) = q

-- slots as live as they were, with the values that they held
links_like : (s t : State) (ps : List Step) → ((c : ℕ) → 1 ≤ on_way c ps → (node_at t c).dead ≡ (node_at s c).dead)
    → ((c j : ℕ) → 1 ≤ on_way c ps → val_at (node_at t c).entries j ≡ val_at (node_at s c).entries j) → Links s ps → Links t ps
links_like s t ps f g (one x) = one x
links_like s t ps f g (more x y xs q k) =
    let on_x : 1 ≤ on_way x.slot (x ∷ y ∷ xs) = omega (arith, names_same x.slot) in
    let on_y : 1 ≤ on_way y.slot (x ∷ y ∷ xs) = omega (arith, names_same y.slot) in
    more x y xs (λ d. let (a, b) = q (sym (f y.slot on_y) ∙ d) in (f x.slot on_x ∙ a, g x.slot x.child on_x ∙ b))
    (links_like s t (y ∷ xs) (λ c z. f c (omega arith)) (λ c j z. g c j (omega arith)) k)

links_same : (s t : State) (ps : List Step) → ((c : ℕ) → 1 ≤ on_way c ps → node_at t c ≡ node_at s c) → Links s ps → Links t ps
links_same s t ps f k =
    links_like s t ps (λ c z. ap (λ (m : MemNode). m.dead) (f c z)) (λ c j z. ap (λ (m : MemNode). val_at m.entries j) (f c z)) k

-- ---- nodes dropped

ghost_mem : {C : Type 0} (c : ℕ) → ghost ≡ mem c → C
ghost_mem c e = let z : ◌≡◌ {A = ℕ} 0 1 = cc in absurd (omega arith)

-- slot y, empty, has no live child: below it nothing lives
links_under : (s t : State) (y : Step) (xs : List Step) → (node_at s y.slot).entries ≡ [] → on_way y.slot xs ≡ 0
    → ((c : ℕ) → 1 ≤ on_way c xs → node_at t c ≡ node_at s c) → Links s (y ∷ xs) → Links t (y ∷ xs)
unfolding val_at
links_under s t y [] n z f (one _) = one y
links_under s t y (w ∷ xs) n z f (more _ _ _ q k) =
    more y w xs
    (λ d.
    let e : node_at t w.slot ≡ node_at s w.slot = f w.slot (omega (arith, names_same w.slot)) in
    let (a, b) = q (sym (ap (λ (m : MemNode). m.dead) e) ∙ d) in
    ghost_mem w.slot (rw n at b))
    (links_same s t (w ∷ xs) f k)

pub links_drop : (l : Lent) (w : ℕ → ℕ) (x : Step) (xs : List Step) (s : State) → ((c : ℕ) → 1 ≤ on_way c (x ∷ xs) → 1 ≤ w c) → Stands w all s
    → Down s (x ∷ xs) → Links (drop_emptied (x ∷ xs) s).state (x ∷ xs)
unfolding drop_emptied drop_node
links_drop l w x [] s h st (end _ live lv) = one x
links_drop l w x (y ∷ xs) s h st (on _ _ _ live q d) =
    let u : State = (drop_emptied (y ∷ xs) s).state in
    let h' : (c : ℕ) → 1 ≤ on_way c (y ∷ xs) → 1 ≤ w c = λ c k. h c (omega arith) in
    let ih : Links (drop_emptied (y ∷ xs) s).state (y ∷ xs) = links_drop l w y xs s h' st d in
    let r : Dropping w y xs s (drop_emptied (y ∷ xs) s).state = dropping l w y xs s h' st d in
    let off : on_way x.slot (y ∷ xs) ≡ 0 = omega (arith, down_once w all s (x ∷ y ∷ xs) x.slot st (on x y xs live q d), names_same x.slot) in
    let off_y : on_way y.slot xs ≡ 0 = omega (arith, down_once w all s (y ∷ xs) y.slot st d, names_same y.slot) in
    let e : node_at u x.slot ≡ node_at s x.slot = r.off x.slot off in
    by_list (node_at u y.slot).entries
    (λ z. rw z (
    let a : MemNode = marked_dead (node_at u y.slot) in
    let b : MemNode = changed (node_at u x.slot) (remove_at x.child (node_at u x.slot).entries) in
    let t : State = put_node (put_node u y.slot a) x.slot b in
    let apart : y.slot ≡ x.slot → ⊥ = λ g. let o : names x.slot (mem y.slot) ≡ 1 = rw g (names_same x.slot) in omega arith in
    let at_y : node_at t y.slot ≡ a = at_put_other (put_node u y.slot a) x.slot b y.slot apart
    ∙ at_put_same u y.slot a (live_used u y.slot r.live) in
    more x y xs (λ g. never (dead_of u y.slot) (sym (ap (λ (m : MemNode). m.dead) at_y) ∙ g))
    (links_under u t y xs z off_y
    (λ c k. two_off u y.slot x.slot a b c
    (λ g. let o : on_way c xs ≡ on_way y.slot xs = ap (λ (j : ℕ). on_way j xs) g in omega arith)
    (λ g. let o : on_way c xs ≡ on_way x.slot xs = ap (λ (j : ℕ). on_way j xs) g in omega arith)) ih)))
    (λ a bs z. rw z (more x y xs
    (λ g. (ap (λ (m : MemNode). m.dead) e ∙ live, ap (λ (m : MemNode). val_at m.entries x.child) e ∙ q)) ih))
  where
    dead_of : (u : State) (n : ℕ) → (marked_dead (node_at u n)).dead ≡ true
    dead_of u n = unfold marked_dead in refl

-- ---- counts, a leveled root, index keys

pub links_info : (s : State) (t : BTreeInfo) (ps : List Step) → Links s ps → Links (with_info s t) ps
unfolding with_info node_at
links_info s t ps k = links_same s (with_info s t) ps (λ c z. refl) k

put_like : {A : Type 0} (f : MemNode → A) (s : State) (n : ℕ) (m : MemNode) → f m ≡ f (node_at s n) → (c : ℕ)
    → f (node_at (put_node s n m) c) ≡ f (node_at s c)
put_like f s n m e c =
    by_test (ltb n (length s.nodes))
    (λ t. put_each (λ k x. f x ≡ f (node_at s k)) s n m (ltb-true n _ t) e (λ k d. refl) c)
    (λ t. ap f (put_out s n m c (ltb-false n (length s.nodes) t)))
  where
    put_out : (s : State) (n : ℕ) (m : MemNode) (c : ℕ) → length s.nodes ≤ n → node_at (put_node s n m) c ≡ node_at s c
    put_out s n m c h = unfold node_at put_node with_nodes in rw (set_out s.nodes n m h)

pub links_level : (s : State) (ps : List Step) → Links s ps → Links (leveled_root s) ps
unfolding leveled_root with_level
links_level s ps k =
    by_list (node_at s s.root).entries
    (λ q. rw q (links_like s (put_node s s.root (with_level (node_at s s.root) 0)) ps
    (λ c z. put_like (λ m. m.dead) s s.root (with_level (node_at s s.root) 0) refl c)
    (λ c j z. put_like (λ m. val_at m.entries j) s s.root (with_level (node_at s s.root) 0) refl c) k))
    (λ e es q. rw q k)

vals_key : (i : ℕ) (k : List ℕ) (es : List Entry) (j : ℕ) → val_at (with_key i k es) j ≡ val_at es j
unfolding with_key rekeyed val_at
vals_key zero k [] j = refl
vals_key (suc i) k [] j = refl
vals_key zero k (e ∷ es) zero = refl
vals_key zero k (e ∷ es) (suc j) = refl
vals_key (suc i) k (e ∷ es) zero = refl
vals_key (suc i) k (e ∷ es) (suc j) = vals_key i k es j

-- one index key: what lives, and the values, are as they were
module _ (s : State) (n i c : ℕ) where
  set_dead : (k : ℕ) → (node_at (set_index_key s n i c) k).dead ≡ (node_at s k).dead
  unfolding set_index_key changed
  set_dead k =
      by_list (node_at s c).entries
      (λ q. rw q)
      (λ e es q. by_test ((node_at s c).dead || not (ltb i (length (node_at s n).entries)) || same_key (key_at (node_at s n).entries i) e.key)
      (λ t. rw (q, t))
      (λ t. rw (q, t) (put_like (λ m. m.dead) s n (changed (node_at s n) (with_key i e.key (node_at s n).entries)) refl k)))

  set_vals : (k j : ℕ) → val_at (node_at (set_index_key s n i c) k).entries j ≡ val_at (node_at s k).entries j
  unfolding set_index_key changed
  set_vals k j =
      by_list (node_at s c).entries
      (λ q. rw q)
      (λ e es q. by_test ((node_at s c).dead || not (ltb i (length (node_at s n).entries)) || same_key (key_at (node_at s n).entries i) e.key)
      (λ t. rw (q, t))
      (λ t. rw (q, t) (put_like (λ m. val_at m.entries j) s n (changed (node_at s n) (with_key i e.key (node_at s n).entries))
      (vals_key i e.key (node_at s n).entries j) k)))

keys_dead : (ps : List Step) (s : State) (k : ℕ) → (node_at (index_keys ps s) k).dead ≡ (node_at s k).dead
unfolding index_keys
keys_dead [] s k = refl
keys_dead (x ∷ []) s k = refl
keys_dead (x ∷ y ∷ ps) s k = set_dead (index_keys (y ∷ ps) s) x.slot x.child y.slot k ∙ keys_dead (y ∷ ps) s k

keys_vals : (ps : List Step) (s : State) (k j : ℕ) → val_at (node_at (index_keys ps s) k).entries j ≡ val_at (node_at s k).entries j
unfolding index_keys
keys_vals [] s k j = refl
keys_vals (x ∷ []) s k j = refl
keys_vals (x ∷ y ∷ ps) s k j = set_vals (index_keys (y ∷ ps) s) x.slot x.child y.slot k j ∙ keys_vals (y ∷ ps) s k j

pub links_keys : (qs ps : List Step) (s : State) → Links s ps → Links (index_keys qs s) ps
links_keys qs ps s k = links_like s (index_keys qs s) ps (λ c z. keys_dead qs s c) (λ c j z. keys_vals qs s c j) k
