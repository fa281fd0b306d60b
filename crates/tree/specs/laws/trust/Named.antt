-- How often slots are named: by entries that change, by slots that change or are added. Assumes nothing.
use Rattle.std.specs.Prelude.{◌≡◌, refl, List, [], ◌∷◌, ◌++◌, true, false, cond, ℕ, zero, suc, ◌+◌, ◌≤◌, ◌<◌, length, get_or, set, take, drop, ltb, eqb}
use Rattle.std.proofs.Common.{sym, ap, ◌∙◌, arith, take-append-drop, eqb-true, eq-eqb, ne_eqb, ltb-true, ltb-false}
use Rattle.std.proofs.Math.ListN.{get_or-eq_default}
use Rattle.std.proofs.lemmas.Bool.{eqb-false}
use Rattle.node.specs.Entry.{Entry, Val, ghost, leaf, disk, mem}
use Rattle.node.specs.Find.{val_at}
use Rattle.node.specs.Slot.{MemNode, insert_at, remove_at, rekeyed, with_key, revalued, with_value, is_child}
use Rattle.node.specs.laws.base.Tests.{by_test, never}
use Rattle.tree.specs.State.{State, no_node, node_at, put_node, add_node, with_nodes}
use Rattle.tree.specs.Hold.{naming, named}
use Rattle.tree.specs.laws.state.State.{by_val}

-- ---- one value

-- whether a value names slot c
unfoldable pub names : ℕ → Val → ℕ
names c ghost = 0
names c (leaf v) = 0
names c (disk r) = 0
names c (mem d) = cond (eqb c d) 1 0

pub names_same : (c : ℕ) → names c (mem c) ≡ 1
unfolding names
names_same c = rw (eq-eqb c c refl)

pub names_other : (c d : ℕ) → (c ≡ d → ⊥) → names c (mem d) ≡ 0
unfolding names
names_other c d h = rw (ne_eqb c d h)

pub names_is : (c d : ℕ) → 1 ≤ names c (mem d) → c ≡ d
names_is c d h = by_test (eqb c d) (λ t. eqb-true c d t) (λ t. absurd (omega (arith, names_other c d (eqb-false c d t))))

pub names_most : (c : ℕ) (v : Val) → names c v ≤ 1
unfolding names
names_most c ghost = omega arith
names_most c (leaf v) = omega arith
names_most c (disk r) = omega arith
names_most c (mem d) = by_test (eqb c d) (λ t. rw t (omega arith)) (λ t. rw t (omega arith))

-- what is no child names none
pub names_none : (c : ℕ) (v : Val) → is_child v ≡ false → names c v ≡ 0
unfolding names is_child
names_none c ghost h = refl
names_none c (leaf v) h = refl
names_none c (disk r) h = refl
names_none c (mem d) h = never refl h

-- ---- entries

pub naming_cons : (c : ℕ) (e : Entry) (es : List Entry) → naming c (e ∷ es) ≡ names c e.value + naming c es
unfolding naming names
naming_cons c e es = by_val e.value (λ q. rw q) (λ b q. rw q) (λ r q. rw q) (λ d q. rw q)

pub naming_append : (c : ℕ) (a b : List Entry) → naming c (a ++ b) ≡ naming c a + naming c b
unfolding naming
naming_append c [] b = omega arith
naming_append c (e ∷ a) b = let h = naming_append c a b in omega (arith, naming_cons c e (a ++ b), naming_cons c e a)

pub naming_parts : (c i : ℕ) (es : List Entry) → naming c (take i es) + naming c (drop i es) ≡ naming c es
naming_parts c i es = sym (naming_append c (take i es) (drop i es)) ∙ ap (naming c) (take-append-drop i es)

pub naming_insert : (c i : ℕ) (e : Entry) (es : List Entry) → naming c (insert_at i e es) ≡ names c e.value + naming c es
unfolding insert_at
naming_insert c i e es = omega (arith, naming_append c (take i es) (e ∷ drop i es), naming_cons c e (drop i es), naming_parts c i es)

naming_rekeyed : (c : ℕ) (k : List ℕ) (es : List Entry) → naming c (rekeyed k es) ≡ naming c es
unfolding rekeyed
naming_rekeyed c k [] = refl
naming_rekeyed c k (e ∷ es) = naming_cons c (record { key = k; value = e.value }) es ∙ sym (naming_cons c e es)

pub naming_key : (c i : ℕ) (k : List ℕ) (es : List Entry) → naming c (with_key i k es) ≡ naming c es
unfolding with_key
naming_key c i k es = omega (arith, naming_append c (take i es) (rekeyed k (drop i es)), naming_rekeyed c k (drop i es), naming_parts c i es)

pub naming_value : (c i : ℕ) (v : Val) (es : List Entry) → i < length es
    → naming c (with_value i v es) + names c (val_at es i) ≡ naming c es + names c v
unfolding with_value revalued val_at
naming_value c i v [] h = absurd (omega arith)
naming_value c zero v (e ∷ es) h = omega (arith, naming_cons c e es, naming_cons c (record { key = e.key; value = v }) es)
naming_value c (suc i) v (e ∷ es) h =
    let k = naming_value c i v es (omega arith) in
    omega (arith, naming_cons c e es, naming_cons c e (with_value i v es))

-- a value put in place of another names at most one slot more
pub naming_value_most : (c i : ℕ) (v : Val) (es : List Entry) → naming c (with_value i v es) ≤ naming c es + names c v
unfolding with_value revalued
naming_value_most c zero v [] = omega arith
naming_value_most c (suc i) v [] = omega arith
naming_value_most c zero v (e ∷ es) = omega (arith, naming_cons c e es, naming_cons c (record { key = e.key; value = v }) es)
naming_value_most c (suc i) v (e ∷ es) =
    let k = naming_value_most c i v es in
    omega (arith, naming_cons c e es, naming_cons c e (with_value i v es))

without_is : (i : ℕ) (es : List Entry) → remove_at i es ≡ take i es ++ drop (suc i) es
unfolding remove_at
without_is i es = let z : i + 1 ≡ suc i = omega arith in ap (λ (j : ℕ). take i es ++ drop j es) z

naming_without : (c i : ℕ) (es : List Entry) → i < length es → naming c (take i es ++ drop (suc i) es) + names c (val_at es i) ≡ naming c es
unfolding val_at
naming_without c i [] h = absurd (omega arith)
naming_without c zero (e ∷ es) h = omega (arith, naming_cons c e es)
naming_without c (suc i) (e ∷ es) h =
    let k = naming_without c i es (omega arith) in
    omega (arith, naming_cons c e es, naming_cons c e (take i es ++ drop (suc i) es))

pub naming_remove : (c i : ℕ) (es : List Entry) → i < length es → naming c (remove_at i es) + names c (val_at es i) ≡ naming c es
naming_remove c i es h = rw (without_is i es) (naming_without c i es h)

naming_without_most : (c i : ℕ) (es : List Entry) → naming c (take i es ++ drop (suc i) es) ≤ naming c es
naming_without_most c zero [] = omega arith
naming_without_most c (suc i) [] = omega arith
naming_without_most c zero (e ∷ es) = omega (arith, naming_cons c e es)
naming_without_most c (suc i) (e ∷ es) =
    let k = naming_without_most c i es in
    omega (arith, naming_cons c e es, naming_cons c e (take i es ++ drop (suc i) es))

pub naming_remove_most : (c i : ℕ) (es : List Entry) → naming c (remove_at i es) ≤ naming c es
naming_remove_most c i es = rw (without_is i es) (naming_without_most c i es)

-- an entry that holds slot c names it
pub naming_at : (c j : ℕ) (es : List Entry) → val_at es j ≡ mem c → 1 ≤ naming c es
unfolding val_at
naming_at c j [] h = let z : ◌≡◌ {A = ℕ} 0 1 = cc in absurd (omega arith)
naming_at c zero (e ∷ es) h = let k : names c e.value ≡ 1 = ap (names c) h ∙ names_same c in omega (arith, naming_cons c e es)
naming_at c (suc j) (e ∷ es) h = let k = naming_at c j es h in omega (arith, naming_cons c e es)

-- ---- nodes

-- how often a node names slot c: a dead one never
abbrev pub own : ℕ → MemNode → ℕ
own c m = cond m.dead 0 (naming c m.entries)

pub own_live : (c : ℕ) (m : MemNode) → m.dead ≡ false → own c m ≡ naming c m.entries
own_live c m h = rw h

pub own_dead : (c : ℕ) (m : MemNode) → m.dead ≡ true → own c m ≡ 0
own_dead c m h = rw h

pub own_most : (c : ℕ) (m : MemNode) → own c m ≤ naming c m.entries
own_most c m = by_test m.dead (λ t. rw t (omega arith)) (λ t. rw t (omega arith))

pub own_alive : (c : ℕ) (m : MemNode) → 1 ≤ own c m → m.dead ≡ false
own_alive c m h = by_test m.dead (λ t. absurd (omega (arith, own_dead c m t))) (λ t. t)

named_set : (c : ℕ) (ns : List MemNode) (n : ℕ) (m : MemNode) → n < length ns
    → named c (set ns n m) + own c (get_or ns n no_node) ≡ named c ns + own c m
unfolding named
named_set c [] n m h = absurd (omega arith)
named_set c (x ∷ xs) zero m h = omega arith
named_set c (x ∷ xs) (suc n) m h = let k = named_set c xs n m (omega arith) in omega arith

named_append : (c : ℕ) (ns : List MemNode) (m : MemNode) → named c (ns ++ m ∷ []) ≡ named c ns + own c m
unfolding named
named_append c [] m = omega arith
named_append c (x ∷ xs) m = let k = named_append c xs m in omega arith

named_least : (c : ℕ) (ns : List MemNode) (n : ℕ) → own c (get_or ns n no_node) ≤ named c ns
unfolding named no_node
named_least c [] n = omega arith
named_least c (x ∷ xs) zero = omega arith
named_least c (x ∷ xs) (suc n) = let k = named_least c xs n in omega arith

named_some : (c : ℕ) (ns : List MemNode) → ((n : ℕ) → own c (get_or ns n no_node) ≡ 0) → named c ns ≡ 0
unfolding named
named_some c [] h = refl
named_some c (x ∷ xs) h = let k = named_some c xs (λ n. h (suc n)) in omega (arith, h 0)

-- ---- slots

pub named_put : (s : State) (n : ℕ) (m : MemNode) (c : ℕ) → n < length s.nodes
    → named c (put_node s n m).nodes + own c (node_at s n) ≡ named c s.nodes + own c m
unfolding put_node with_nodes node_at
named_put s n m c h = named_set c s.nodes n m h

pub named_add : (s : State) (m : MemNode) (c : ℕ) → named c (add_node s m).nodes ≡ named c s.nodes + own c m
unfolding add_node with_nodes
named_add s m c = named_append c s.nodes m

-- a node's names are among all
pub named_own : (s : State) (n c : ℕ) → own c (node_at s n) ≤ named c s.nodes
unfolding node_at
named_own s n c = named_least c s.nodes n

-- named by none: by no node
pub named_none : (s : State) (c : ℕ) → ((n : ℕ) → own c (node_at s n) ≡ 0) → named c s.nodes ≡ 0
unfolding node_at
named_none s c h = named_some c s.nodes h

-- a slot that is not in use is dead
pub live_used : (s : State) (n : ℕ) → (node_at s n).dead ≡ false → n < length s.nodes
unfolding node_at no_node
live_used s n h =
    by_test (ltb n (length s.nodes))
    (λ t. ltb-true n (length s.nodes) t)
    (λ t. never (ap (λ (m : MemNode). m.dead) (get_or-eq_default s.nodes no_node (ltb-false n (length s.nodes) t))) h)

-- ---- the order of two changes of the slots

set_append : (ns : List MemNode) (n : ℕ) (m k : MemNode) → n < length ns → set (ns ++ k ∷ []) n m ≡ set ns n m ++ k ∷ []
set_append [] n m k h = absurd (omega arith)
set_append (x ∷ xs) zero m k h = refl
set_append (x ∷ xs) (suc n) m k h = ap (λ (z : List MemNode). x ∷ z) (set_append xs n m k (omega arith))

set_comm : (ns : List MemNode) (n p : ℕ) (m k : MemNode) → (n ≡ p → ⊥) → set (set ns n m) p k ≡ set (set ns p k) n m
set_comm [] n p m k h = refl
set_comm (x ∷ xs) zero zero m k h = absurd (h refl)
set_comm (x ∷ xs) zero (suc p) m k h = refl
set_comm (x ∷ xs) (suc n) zero m k h = refl
set_comm (x ∷ xs) (suc n) (suc p) m k h = ap (λ (z : List MemNode). x ∷ z) (set_comm xs n p m k (λ e. h (ap suc e)))

pub put_add : (s : State) (n : ℕ) (m k : MemNode) → n < length s.nodes → add_node (put_node s n m) k ≡ put_node (add_node s k) n m
unfolding add_node put_node with_nodes
put_add s n m k h = ap (with_nodes s) (sym (set_append s.nodes n m k h))

pub put_comm : (s : State) (n p : ℕ) (m k : MemNode) → (n ≡ p → ⊥) → put_node (put_node s n m) p k ≡ put_node (put_node s p k) n m
unfolding put_node with_nodes
put_comm s n p m k h = ap (with_nodes s) (set_comm s.nodes n p m k h)
