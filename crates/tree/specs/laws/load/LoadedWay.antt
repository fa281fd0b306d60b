-- Laws of a way whose children are loaded: where it ends, and that load leaves the state as it was on it. Assumes nothing.
use Rattle.std.specs.Prelude.{◌≡◌, Bool, length, drop, ltb}
use Rattle.std.specs.Bool.{then_some}
use borrow.Author.Tests.{ltb-true}
use Rattle.node.specs.laws.base.Tests.{by_test}
use Rattle.std.proofs.Math.Path.{refl, sym, ap}
use Rattle.std.proofs.Math.Bool.{true}
use Rattle.std.proofs.Common.{subst, ◌∙◌, get_or-drop}
use mathlib.Core.List.{List, [], ◌∷◌, ◌++◌}
use Prim.Native.Nat.{ℕ, zero, suc, ◌+◌, ◌-◌, ◌≤◌, ◌<◌}
use native.Mathlib.Omega.{arith}
use Rattle.std.proofs.Math.ListN.{get_or}
use Rattle.node.specs.Result.{Result, ok, ◌>>=◌}
use Rattle.node.specs.Order.{keyed_length, keyed}
use Rattle.node.specs.Entry.{Entry, Val, ghost, mem}
use Rattle.node.specs.Find.{key_at, val_at, way_index, last_not_above}
use Rattle.node.specs.Records.{record_length, records_length, entry_of, entries_of}
use Rattle.node.specs.internal.SlotSteps.{last_in}
use Rattle.node.specs.laws.order.Found.{above_le}
use Rattle.node.specs.laws.slot.Records.{entries_head, length_entries}
use Rattle.node.specs.laws.slot.Slot.{at_lies}
use Rattle.node.specs.declared.slot.Last.{Last}
use Rattle.node.specs.declared.record.Record.{Record}
use Rattle.tree.specs.Lent.{Lent}
use Rattle.tree.specs.State.{State, node_at}
use Rattle.tree.specs.Workspace.{state_of}
use Rattle.tree.specs.Load as load
use Rattle.tree.specs.Lookup as lookup
use Rattle.tree.specs.internal.Kids.{slots_of, kid_means}
use Rattle.tree.specs.internal.Steps.{positions}
use Rattle.tree.specs.internal.Way.{steps_of, steps_in, onto, way_of}
use Rattle.tree.specs.internal.Loaded.{TakenOf, TakenBy, LeadsTo, LedTo, Leading, LedLeaf, LeafIs, Onward, Walked}
use Rattle.tree.specs.laws.slots.Kids.{kid_slot}
use Rattle.tree.specs.laws.slots.Records.{key_found}
use Rattle.tree.specs.laws.load.Way.{onto_above, onto_none, steps_next, way_end}
use Rattle.tree.specs.declared.editor.Tree.{Tree}
use Rattle.tree.specs.declared.loaded.Taken.{Taken}
use Rattle.std.specs.Prelude.{Ok, Some, None, Option}
use Rattle.tree.specs.declared.way.Way.{Way}
use Rattle.tree.specs.declared.editor.Position as code
use Rattle.tree.specs.declared.steps.Steps.{Steps}

-- ---- the entry taken

-- nothing is no value, and a value is the value that it is
no_value : {A : Type 0} (x : A) → None ≡ Some x → ⊥
no_value x e = let y : ◌≡◌ {A = ℕ} 0 1 = cc in omega arith

one_value : {A : Type 0} (x y : A) → Some x ≡ Some y → x ≡ y
one_value x y e = cc

module _ (o : ℕ) (k l : List ℕ) (n : ℕ) where
  pub taken_none : TakenBy o k (entries_of n l) None
  taken_none = record { index = λ t q. absurd (no_value t q); child = λ t q. absurd (no_value t q); key = λ t q. absurd (no_value t q) }

  module _ (hr : records_length n l ≤ length l) (z : n ≡ 0 → ⊥) (x : Last) (ex : x ≡ last_in o k n l) where
    taken_at : x.at ≡ records_length (way_index o k (entries_of n l)) l
    unfolding last_in way_index
    taken_at = rw ex

    inside : way_index o k (entries_of n l) < n
    unfolding way_index
    inside = omega (arith, above_le o k (entries_of n l), length_entries n l)

    pub taken_lies : x.at + record_length (drop x.at l) ≤ length l
    taken_lies = at_lies l n (way_index o k (entries_of n l)) x.at hr inside taken_at

    value_is : val_at (entries_of n l) (way_index o k (entries_of n l)) ≡ (entry_of (drop x.at l)).value
    unfolding val_at
    value_is =
        let i : ℕ = way_index o k (entries_of n l) in
        let w : i + 0 ≡ i = omega arith in
        let b : Entry = record { key = []; value = ghost } in
        ap (λ (e : Entry). e.value)
        (sym (ap (λ (j : ℕ). get_or (entries_of n l) j b) w) ∙ sym (get_or-drop i (entries_of n l) 0 b)
        ∙ ap (λ (y : List Entry). get_or y 0 b) (entries_head i n x.at l inside taken_at))

    pub taken_is : (i : ℕ) → i ≡ x.count - 1 → (r : Record) → r.slot.now ≡ l → r.at ≡ x.at → (v : Val) → v ≡ (entry_of (drop x.at l)).value
        → (kid : Option ℕ) → kid_means kid ≡ slots_of v → (c : ℕ) → kid ≡ Some c
        → TakenBy o k (entries_of n l) (Some (r, record { index = i; slot = c }))
    unfolding last_in way_index
    taken_is i ei r es ea v ev kid ek c ec =
        let w : ℕ = way_index o k (entries_of n l) in
        let ki : (entry_of (drop x.at l)).key ≡ key_at (entries_of n l) w =
        key_found (entries_of n l) n l refl w x.at inside l refl taken_at (entry_of (drop x.at l)).key refl in
        record {
          index = λ y q. ap (λ (y : Record × Taken). y.1.index) (sym (one_value _ _ q)) ∙ ei ∙ rw ex;
          child = λ y q. value_is ∙ sym ev ∙ kid_slot kid c v ek ec ∙ ap (λ (y : Record × Taken). mem y.1.slot) (one_value _ _ q);
          key = λ y q. subst (λ (y : Record × Taken). (entry_of (drop y.0.at y.0.slot.now)).key ≡ key_at (entries_of n l) w) (one_value _ _ q)
              (rw (es, ea) ki);
        }

module _ (o : ℕ) (k : List ℕ) (es : List Entry) where
  pub taken_not : TakenOf o k es None
  taken_not = record { index = λ t q. absurd (no_value t q); child = λ t q. absurd (no_value t q) }

  -- without the record
  pub taken_alone : (x : Option (Record × Taken)) → TakenBy o k es x → (r : Record) (t : Taken) → x ≡ Some (r, t) → TakenOf o k es (Some t)
  taken_alone x b r t e =
      record {
        index = λ y q. subst (λ (y : Taken). y.index ≡ way_index o k es) (one_value _ _ q) (b.index (r, t) e);
        child = λ y q. subst (λ (y : Taken). val_at es (way_index o k es) ≡ mem y.slot) (one_value _ _ q) (b.child (r, t) e);
      }

-- ---- the leaf

module _ (P : ℕ → Taken → Type 0) (level root : ℕ) where
  pub leading_turn : (i n : ℕ) → i < level → Leading P level root (level - i) n → (x : Taken) → P n x
      → Leading P level root (level - (i + 1)) x.slot
  leading_turn i n hi g x p =
      let e : suc (level - (i + 1)) ≡ level - i = omega arith in
      record { on = λ m h. g.on m (subst (λ (j : ℕ). LedTo P j m n) e (record { taken = x; on = p; below = h })) }

module _ (P : ℕ → Taken → Type 0) (size : ℕ) (t : Tree) (heads bytes key : List ℕ) where
  led_some : (k : Bool) → k ≡ keyed_length t.order.code (length key) → k ≡ true → (level : ℕ)
      → level ≡ (node_at (state_of size t heads bytes) t.root).level → (i n : ℕ) → level ≤ i → Leading P level t.root (level - i) n → n < t.used
      → LedLeaf P t.used (state_of size t heads bytes) key (Some n)
  unfolding state_of keyed
  led_some k ek u level ev i n hi g hn =
      let e : 0 ≡ level - i = omega arith in
      let on : LedTo P level n t.root = g.on n (subst (λ (j : ℕ). LedTo P j n n) e refl) in
      record {
        within = λ m q. let z : n ≡ m = one_value n m q in omega arith;
        keys = λ m q. sym ek ∙ u;
        leads = λ m q. rw (← ev) (subst (λ (j : ℕ). LedTo P level j t.root) (one_value n m q) on);
      }

  led_none : LedLeaf P t.used (state_of size t heads bytes) key None
  led_none =
      record { within = λ m q. absurd (no_value m q); keys = λ m q. absurd (no_value m q); leads = λ m q. absurd (no_value m q) }

  pub led_end : (k : Bool) → k ≡ keyed_length t.order.code (length key) → k ≡ true → (level : ℕ)
      → level ≡ (node_at (state_of size t heads bytes) t.root).level → (i n : ℕ) → level ≤ i → Leading P level t.root (level - i) n
      → (r : Option ℕ) → r ≡ then_some (ltb n t.used) n → LedLeaf P t.used (state_of size t heads bytes) key r
  led_end k ek u level ev i n hi g r er =
      by_test (ltb n t.used)
      (λ q. rw (er, q) (led_some k ek u level ev i n hi g (ltb-true n t.used q)))
      (λ q. rw (er, q) led_none)

module _ (P : ℕ → Taken → Type 0) (used : ℕ) (s : State) (key : List ℕ)
    (f : (n : ℕ) (x : Taken) → P n x → TakenOf s.order key (node_at s n).entries (Some x)) where
  led_loaded : (d m n : ℕ) → LedTo P d m n → LeadsTo d s key m n
  led_loaded zero m n h = h
  led_loaded (suc d) m n h =
      record { slot = h.taken.slot; child = (f n h.taken h.on).child h.taken refl; below = led_loaded d m h.taken.slot h.below }

  pub leaf_is : (r : Option ℕ) → LedLeaf P used s key r → LeafIs used s key r
  leaf_is r q = record { within = q.within; keys = q.keys; leads = λ m h. led_loaded (node_at s s.root).level m s.root (q.leads m h) }

-- ---- load on it

-- a child that is loaded is its slot, and the state stays
pub mem_loaded : (l : Lent) (s : State) (bs : load.Bounds) (n i c : ℕ) → val_at (node_at s n).entries i ≡ mem c
    → load.load_child l s bs n i ≡ ok (record { state = s; slot = c })
unfolding load.load_child
mem_loaded l s bs n i c e = rw e

-- one level down
pub loaded_down : (d : ℕ) (l : Lent) (s : State) (bs : load.Bounds) (n c : ℕ) (k : List ℕ)
    → val_at (node_at s n).entries (way_index s.order k (node_at s n).entries) ≡ mem c
    → lookup.way_from (suc d) l s bs n k ≡
    (lookup.way_from d l s (load.child_bounds s.order bs (node_at s n).entries (way_index s.order k (node_at s n).entries)) c k
    >>= λ w. ok (lookup.above n (way_index s.order k (node_at s n).entries) w))
unfolding lookup.way_from
loaded_down d l s bs n c k e = rw (mem_loaded l s bs n (way_index s.order k (node_at s n).entries) c e)

-- a way that ends in leaf m and leaves the state as it was
pub record Arrives (s : State) (m : ℕ) (r : Result lookup.Way) : Type 0 where
  pub top : lookup.Step
  pub rest : List lookup.Step
  pub way : r ≡ ok (record { state = s; steps = top ∷ rest })
  pub leaf : lookup.leaf_of (top ∷ rest) ≡ m

arrives_above : (s : State) (m n i : ℕ) (r : Result lookup.Way) → Arrives s m r → Arrives s m (r >>= λ w. ok (lookup.above n i w))
unfolding lookup.above lookup.leaf_of
arrives_above s m n i r a = record { top = record { slot = n; child = i }; rest = a.top ∷ a.rest; way = rw a.way; leaf = a.leaf }

pub leads_way : (d : ℕ) (l : Lent) (s : State) (bs : load.Bounds) (k : List ℕ) (m n : ℕ) → LeadsTo d s k m n
    → Arrives s m (lookup.way_from d l s bs n k)
unfolding lookup.way_from lookup.leaf_of
leads_way zero l s bs k m n h = record { top = record { slot = n; child = 0 }; rest = []; way = refl; leaf = h }
leads_way (suc d) l s bs k m n h =
    let i : ℕ = way_index s.order k (node_at s n).entries in
    let cs : load.Bounds = load.child_bounds s.order bs (node_at s n).entries i in
    subst (Arrives s m) (sym (loaded_down d l s bs n h.slot k h.child))
    (arrives_above s m n i (lookup.way_from d l s cs h.slot k) (leads_way d l s cs k m h.slot h.below))

-- floor goes no further where the leaf has an entry not above the key
pub leads_floor : (d : ℕ) (l : Lent) (s : State) (bs : load.Bounds) (k : List ℕ) (m n : ℕ) (e : Entry) → LeadsTo d s k m n
    → last_not_above s.order k (node_at s m).entries ≡ e ∷ [] → lookup.floor_from d l s bs n k ≡ ok (record { state = s; answer = e ∷ [] })
unfolding lookup.floor_from
leads_floor zero l s bs k m n e h q = rw (h, q)
leads_floor (suc d) l s bs k m n e h q =
    let i : ℕ = way_index s.order k (node_at s n).entries in
    let cs : load.Bounds = load.child_bounds s.order bs (node_at s n).entries i in
    rw (mem_loaded l s bs n i h.slot h.child, leads_floor d l s cs k m h.slot e h.below q)

-- ---- the way

module _ (size : ℕ) (t : Tree) (heads bytes : List ℕ) (level : ℕ) (key : List ℕ) where
  pub onward_start : (way : List code.Position) → way ≡ [] → Onward (state_of size t heads bytes) level key (steps_in way) (level - 0) t.root
  unfolding steps_of state_of
  onward_start way w =
      let e : level - 0 ≡ level = omega arith in
      record {
        bounds = load.unbounded;
        whole = λ l. rw (w, e) (onto_none (lookup.way_from level l (state_of size t heads bytes) load.unbounded
            t.root key));
      }

  module _ (way : List code.Position) (j n : ℕ) (g : Onward (state_of size t heads bytes) level key (steps_in way) (level - j) n) where
    pub onward_turn : j < level → (r : Option Taken) → TakenOf t.order.code key (node_at (state_of size t heads bytes) n).entries r
        → (x : Taken) → r ≡ Some x → (way' : List code.Position) → way' ≡ way ++ record { slot = n; index = x.index } ∷ []
        → Onward (state_of size t heads bytes) level key (steps_in way') (level - (j + 1)) x.slot
    unfolding state_of
    onward_turn hj r q x u way' ew =
        let s : State = state_of size t heads bytes in
        let d : ℕ = level - (j + 1) in
        let e : level - j ≡ suc (level - (j + 1)) = omega arith in
        let i : ℕ = way_index s.order key (node_at s n).entries in
        let cs : load.Bounds = load.child_bounds s.order g.bounds (node_at s n).entries i in
        record {
          bounds = cs;
          whole = λ l. rw (steps_next way way' n x.index ew, q.index x u)
              (sym (onto_above (steps_in way) n i (lookup.way_from d l s cs x.slot key))
              ∙ ap (onto (steps_in way)) (sym (loaded_down d l s g.bounds n x.slot key (q.child x u)))
              ∙ ap (λ (m : ℕ). onto (steps_in way) (lookup.way_from m l s g.bounds n key)) (sym e) ∙ g.whole l);
        }

  pub walked_end : (way : List code.Position) (j n : ℕ) → level ≤ j
      → Onward (state_of size t heads bytes) level key (steps_in way) (level - j) n
      → (taken : Steps) → positions taken ≡ way ++ record { slot = n; index = 0 } ∷ []
      → Walked size t heads bytes level key (Some (record { tree = t; steps = taken }))
  unfolding state_of
  walked_end way j n z g taken ew =
      let w : Way = record { tree = t; steps = taken } in
      let arrived : (l : Lent) → way_of size heads bytes (Ok w)
      ≡ lookup.way_from level l (state_of size t heads bytes) load.unbounded t.root key =
      λ l. way_end l size t heads bytes g.bounds n level j key way
      (lookup.way_from level l (state_of size t heads bytes) load.unbounded t.root key) z (g.whole l) taken ew in
      record {
        same = λ v q. ap (λ (y : Way). y.tree) (sym (one_value _ _ q));
        arrives = λ v q l. subst (λ (y : Way). way_of size heads bytes (Ok y) ≡ lookup.way_from level l (state_of size t heads bytes)
            load.unbounded t.root key) (one_value _ _ q) (arrived l);
      }

  pub walked_not : Walked size t heads bytes level key None
  walked_not = record { same = λ w q. absurd (no_value w q); arrives = λ w q. absurd (no_value w q) }

pub ruleset taken_in_laws = (taken_none, taken_lies, taken_is)

pub ruleset taken_laws = (taken_not, taken_alone)

pub ruleset way_loaded_laws = (onward_start, onward_turn, walked_end, walked_not)
