-- Room for the cuts of a remove: a node on the way that lives hangs in its parent still, which takes at most two blocks and the first key of the
-- node. Assumes nothing.
use Rattle.std.specs.Prelude.{◌≡◌, refl, List, [], ◌∷◌, false, cond, ◌||◌, length, eqb}
use Rattle.std.proofs.Common.{sym, ap, ◌∙◌, le_refl, arith}
use Rattle.std.proofs.Math.Path.{subst}
use Prim.Native.Nat.{ℕ, zero, suc, ◌+◌, ◌-◌, ◌*◌, ◌≤◌, ◌<◌}
use Rattle.std.proofs.Math.Nat.{le_trans}
use Rattle.node.specs.Result.{Result, ok, refused, ◌>>=◌}
use Rattle.node.specs.Entry.{ghost, mem}
use Rattle.node.specs.Find.{key_at}
use Rattle.node.specs.Fit.{Sized, fits}
use Rattle.node.specs.Cut.{cut}
use Rattle.node.specs.Slot.{MemNode}
use Rattle.node.specs.declared.info.BTreeInfo.{BTreeInfo}
use Rattle.node.specs.laws.base.Results.{Holds, holds_ok, holds_bind}
use Rattle.tree.specs.Lent.{Lent}
use Rattle.tree.specs.State.{State, node_at, changed}
use Rattle.tree.specs.Lookup.{Step}
use Rattle.tree.specs.Edit.{room_for, parted, link_right, cut_at, cut_node, cuts}
use Rattle.tree.specs.internal.Index.{steps_from}
use Rattle.tree.specs.internal.Edits.{step_at, above_of, ParentFits, CutsFit}
use Rattle.tree.specs.laws.state.State.{at_put_same, val_used}
use Rattle.tree.specs.laws.state.Edit.{parted_other, parted_count}
use Rattle.tree.specs.laws.trust.Named.{names, names_same, live_used}
use Rattle.tree.specs.laws.trust.Stands.{Stands, all}
use Rattle.tree.specs.laws.trust.OneStep.{Like}
use Rattle.tree.specs.laws.trust.Edit.{Edited, on_way, Falls, more, falls_used}
use Rattle.tree.specs.laws.trust.Cut.{by_cut, cuts_edited}
use Rattle.tree.specs.laws.room.Weight.{weight}
use Rattle.tree.specs.laws.room.Edit.{Indexed, Aside, more_nodes_lem, more_count, link_other, link_first, link_count, cuts_room, later}
use Rattle.tree.specs.laws.room.Edit as room
use Rattle.tree.specs.laws.remove.Links.{Links, links_tail, links_first}
use Rattle.tree.specs.laws.remove.Ways.{step_of, from_cons, from_two, suffix}
use Rattle.tree.specs.declared.editor.Position as code
use Rattle.tree.specs.internal.Way.{nth_step}

-- ---- cuts below slot x: slots aside from the way stay, x keeps its first key and lives as it did

pub record Beside (x : ℕ) (ps : List Step) (s u : State) : Type 0 where
  pub aside : Aside x ps s u
  pub dead : (node_at u x).dead ≡ (node_at s x).dead

link_dead : (s : State) (p i r : ℕ) → p < length s.nodes → (node_at (link_right s p i r) p).dead ≡ (node_at s p).dead
unfolding link_right changed
link_dead s p i r used = ap (λ (m : MemNode). m.dead) (at_put_same s p _ used)

-- what a cut of slot n under x leaves
record Cut (x n : ℕ) (s u : State) : Type 0 where
  longer : length s.nodes ≤ length u.nodes
  off : (c : ℕ) → c < length s.nodes → (c ≡ n → ⊥) → (c ≡ x → ⊥) → node_at u c ≡ node_at s c
  first : key_at (node_at u x).entries 0 ≡ key_at (node_at s x).entries 0
  dead : (node_at u x).dead ≡ (node_at s x).dead

cut_leaves : (l : Lent) (x : Step) (n : ℕ) (s : State) → x.slot < length s.nodes
    → ((node_at s n).dead ≡ false → 0 < length (node_at s x.slot).entries) → (x.slot ≡ n → ⊥)
    → Holds (Cut x.slot n s) (cut_node l (x ∷ []) n s)
cut_leaves l x n s used some apart =
    by_cut (Cut x.slot n s) l x n s
    (λ t. record { longer = le_refl _; off = λ c h a b. refl; first = refl; dead = refl })
    (λ c live ps room.
    let r : ℕ = length s.nodes in
    let t : State = parted s n c in
    let u : State = link_right t x.slot x.child r in
    let n_s : n < r = live_used s n live in
    let cnt : length t.nodes ≡ suc r = parted_count s n c n_s in
    let e : node_at t x.slot ≡ node_at s x.slot = parted_other s n c n_s x.slot used apart in
    let some' : 0 < length (node_at t x.slot).entries = rw e (some live) in
    record {
      longer = omega (arith, more_count u 1, link_count t x.slot x.child r);
      off = λ j h a b. more_nodes_lem u 1 j ∙ link_other t x.slot x.child r j b ∙ parted_other s n c n_s j h a;
      first = ap (λ (m : MemNode). key_at m.entries 0) (more_nodes_lem u 1 x.slot) ∙ link_first t x.slot x.child r (omega arith) some' ∙ ap
          (λ (m : MemNode). key_at m.entries 0) e;
      dead = ap (λ (m : MemNode). m.dead) (more_nodes_lem u 1 x.slot) ∙ link_dead t x.slot x.child r (omega arith) ∙ ap
          (λ (m : MemNode). m.dead) e;
    })

mem_some : (c : ℕ) → mem c ≡ ghost → ⊥
mem_some c e = let z : ◌≡◌ {A = ℕ} 0 1 = cc in omega arith

slot_apart : (x y : Step) (ps : List Step) → ((c : ℕ) → on_way c (x ∷ y ∷ ps) ≤ 1) → x.slot ≡ y.slot → ⊥
slot_apart x y ps a e =
    let z : names x.slot (mem y.slot) ≡ 1 = ap (λ (j : ℕ). names j (mem y.slot)) e ∙ names_same y.slot in
    omega (arith, a x.slot, names_same x.slot)

beside_step : (l : Lent) (x y : Step) (ps : List Step) (s t : State) → ((c : ℕ) → on_way c (x ∷ y ∷ ps) ≤ 1) → x.slot < length s.nodes
    → Links s (x ∷ y ∷ ps) → Beside y.slot ps s t → Holds (Beside x.slot (y ∷ ps) s) (cut_node l (x ∷ []) y.slot t)
beside_step l x y ps s t a used k r =
    let off : on_way x.slot (y ∷ ps) ≡ 0 = omega (arith, a x.slot, names_same x.slot) in
    let apart : x.slot ≡ y.slot → ⊥ = slot_apart x y ps a in
    let q : node_at t x.slot ≡ node_at s x.slot = r.aside.off x.slot used (omega arith) apart in
    let some : (node_at t y.slot).dead ≡ false → 0 < length (node_at t x.slot).entries = λ d.
    let (g, h) = links_first s x y ps k (sym r.dead ∙ d) in
    let o = val_used (node_at s x.slot).entries x.child (mem y.slot) (mem_some y.slot) h in
    let z : length (node_at t x.slot).entries ≡ length (node_at s x.slot).entries = ap (λ (m : MemNode). length m.entries) q in
    omega arith in
    record {
      at = λ u e.
          let k = (cut_leaves l x y.slot t (le_trans used r.aside.longer) some apart).at u e in
          record {
            aside = record {
              longer = le_trans r.aside.longer k.longer;
              off = λ c h z d.
                  let n : c ≡ y.slot → ⊥ = λ f. let w : names c (mem y.slot) ≡ 1 = ap (λ (j : ℕ). names j (mem y.slot)) f ∙ names_same
                  y.slot in omega arith in
                  k.off c (le_trans h r.aside.longer) n d ∙ r.aside.off c h (omega arith) n;
              first = k.first ∙ ap (λ (m : MemNode). key_at m.entries 0) q;
            };
            dead = k.dead ∙ ap (λ (m : MemNode). m.dead) q;
          };
    }

pub cuts_beside : (l : Lent) (x : Step) (ps : List Step) (s : State) → ((c : ℕ) → on_way c (x ∷ ps) ≤ 1)
    → ((c : ℕ) → 1 ≤ on_way c (x ∷ ps) → c < length s.nodes) → Links s (x ∷ ps) → Holds (Beside x.slot ps s) (cuts l (x ∷ []) ps s)
unfolding cuts
cuts_beside l x [] s a u k = holds_ok (record { aside = record { longer = le_refl _; off = λ c h z d. refl; first = refl }; dead = refl })
cuts_beside l x (y ∷ ps) s a u k =
    let ih = cuts_beside l y ps s (λ c. le_trans (later c x (y ∷ ps)) (a c)) (λ c z. u c (omega arith)) (links_tail s x y ps k) in
    holds_bind (cuts l (y ∷ []) ps s) _ λ t e. beside_step l x y ps s t a (u x.slot (omega (arith, names_same x.slot))) k (ih.at t e)

-- ---- the room

falls_tail : (s : State) (x y : Step) (xs : List Step) → Falls s (x ∷ y ∷ xs) → Falls s (y ∷ xs)
falls_tail s x y xs (more _ _ _ h r q f) = f

indexed_tail : (k : ℕ) (s : State) (x y : Step) (xs : List Step) → Indexed k s (x ∷ y ∷ xs) → Indexed k s (y ∷ xs)
indexed_tail k s x y xs (room.more _ _ _ q f) = f

indexed_first : (k : ℕ) (s : State) (x y : Step) (xs : List Step) → Indexed k s (x ∷ y ∷ xs)
    → weight (node_at s x.slot).entries ≤ k + length (key_at (node_at s y.slot).entries 0)
indexed_first k s x y xs (room.more _ _ _ q f) = q

pub sized_like : (t t' : BTreeInfo) → Like t t' → Sized t → Sized t'
sized_like t t' a h = record {
  least = rw a.node h.least;
  most = rw a.node h.most;
  key = rw a.key h.key;
  value = rw a.val h.value;
}

no_step : {C : Type 0} (x : Step) → [] ≡ x ∷ [] → C
no_step x e = let z : ◌≡◌ {A = ℕ} 0 1 = ap length e in absurd (omega arith)

same_step : (x y : Step) → x ∷ [] ≡ y ∷ [] → x ≡ y
same_step x y e = cc

module _ (l : Lent) (s : State) (way : List code.Position) (w : ℕ → ℕ) (wide : (c : ℕ) → 1 ≤ on_way c (steps_from way 0 (length way)) → 1 ≤ w c)
    (st : Stands w all s) (falls : Falls s (steps_from way 0 (length way))) (once : (c : ℕ) → on_way c (steps_from way 0 (length way)) ≤ 1)
    (links : Links s (steps_from way 0 (length way))) (ix : Indexed (2 * l.size) s (steps_from way 0 (length way))) (sized : Sized s.info)
    (node : s.info.node_size ≡ l.size) where
  abbrev from : ℕ → List Step
  from j = steps_from way j (length way - j)

  abbrev after : ℕ → List Step
  after j = steps_from way (suc j) (length way - suc j)

  -- the way from step j on
  falls_at : (j : ℕ) → j < length way → Falls s (step_of way j ∷ after j)
  falls_at j h = rw from_cons at (suffix way (Falls s) (falls_tail s) j h falls)

  links_at : (j : ℕ) → j < length way → Links s (step_of way j ∷ after j)
  links_at j h = subst (Links s) (from_cons way j h) (suffix way (Links s) (links_tail s) j h links)

  once_at : (j : ℕ) → j < length way → (c : ℕ) → on_way c (step_of way j ∷ after j) ≤ 1
  once_at j h c =
      subst (λ (qs : List Step). on_way c qs ≤ 1) (from_cons way j h)
      (suffix way (λ qs. on_way c qs ≤ 1) (λ x y xs k. le_trans (later c x (y ∷ xs)) k) j h (once c))

  most_at : (j : ℕ) → j < length way → (c : ℕ) → on_way c (step_of way j ∷ after j) ≤ on_way c (steps_from way 0 (length way))
  most_at j h c =
      subst (λ (qs : List Step). on_way c qs ≤ on_way c (steps_from way 0 (length way))) (from_cons way j h)
      (suffix way (λ qs. on_way c qs ≤ on_way c (steps_from way 0 (length way))) (λ x y xs k. le_trans (later c x (y ∷ xs)) k) j h
      (le_refl _))

  used_at : (j : ℕ) → j < length way → (c : ℕ) → 1 ≤ on_way c (step_of way j ∷ after j) → c < length s.nodes
  used_at j h = falls_used s (step_of way j ∷ after j) (falls_at j h)

  here : (j : ℕ) → 1 ≤ on_way (nth_step way j).slot (step_of way j ∷ after j)
  here j = omega (arith, names_same (nth_step way j).slot)

  module _ (j : ℕ) (h : j < length way) (u : State) (e : cuts l (step_of way j ∷ []) (after j) s ≡ ok u) where
    edited : Edited l w all s u
    edited =
        (cuts_edited l w w all (step_of way j) (after j) s (falls_at j h)
        (wide (nth_step way j).slot (le_trans (here j) (most_at j h (nth_step way j).slot)))
        (λ k a b. a) st).at u e

    beside : Beside (nth_step way j).slot (after j) s u
    beside = (cuts_beside l (step_of way j) (after j) s (once_at j h) (used_at j h) (links_at j h)).at u e

  parent_at : (j : ℕ) → (h : suc j < length way) → (u : State) → cuts l (step_of way (suc j) ∷ []) (after (suc j)) s ≡ ok u
      → (node_at u (nth_step way (suc j)).slot).dead ≡ false → ParentFits l.size u (step_of way j) (nth_step way (suc j)).slot
  parent_at j h u e live =
      let x : Step = step_of way j in
      let y : Step = step_of way (suc j) in
      let q : after j ≡ step_of way (suc j) ∷ after (suc j) = from_cons way (suc j) h in
      let k : Links s (x ∷ y ∷ after (suc j)) = subst (λ (qs : List Step). Links s (x ∷ qs)) q (links_at j (omega arith)) in
      let a : (c : ℕ) → on_way c (x ∷ y ∷ after (suc j)) ≤ 1 = λ c. subst (λ (qs : List Step). on_way c (x ∷ qs) ≤ 1) q (once_at j (omega arith) c) in
      let i : Indexed (2 * l.size) s (x ∷ y ∷ after (suc j)) = subst (Indexed (2 * l.size) s) (from_two way j h)
      (suffix way (Indexed (2 * l.size) s) (indexed_tail (2 * l.size) s) j (omega arith) ix) in
      let b : Beside (nth_step way (suc j)).slot (after (suc j)) s u = beside (suc j) h u e in
      let (alive, holds) = links_first s x y (after (suc j)) k (sym b.dead ∙ live) in
      let used : x.slot < length s.nodes = live_used s x.slot alive in
      let apart : x.slot ≡ y.slot → ⊥ = slot_apart x y (after (suc j)) a in
      let off : on_way x.slot (after (suc j)) ≡ 0 = omega (arith, a x.slot, names_same x.slot) in
      let same : node_at u x.slot ≡ node_at s x.slot = b.aside.off x.slot used off apart in
      record {
        apart = apart;
        within = le_trans used b.aside.longer;
        alive = ap (λ (m : MemNode). m.dead) same ∙ alive;
        child = rw same (val_used (node_at s x.slot).entries x.child (mem y.slot) (mem_some y.slot) holds);
        room = cuts_room (2 * l.size) x y (after (suc j)) s u a used b.aside (indexed_first (2 * l.size) s x y (after (suc j)) i);
      }

  parents : (j : ℕ) → j < length way → (u : State) → cuts l (step_of way j ∷ []) (after j) s ≡ ok u → (x : Step) → above_of way j ≡ x ∷ []
      → (node_at u (nth_step way j).slot).dead ≡ false → ParentFits l.size u x (nth_step way j).slot
  unfolding above_of step_at
  parents zero h u e x q d = no_step x q
  parents (suc j) h u e x q d =
      subst (λ (y : Step). ParentFits l.size u y (nth_step way (suc j)).slot) (same_step (step_of way j) x q) (parent_at j h u e d)

  pub cuts_fit : CutsFit l s way
  unfolding step_at
  cuts_fit =
      record {
        turn = λ j h u e.
            let a = (edited j h u e).steady in
            record {
              used = le_trans (used_at j h (nth_step way j).slot (here j)) a.longer;
              sized = sized_like s.info u.info a.like sized;
              node = a.like.node ∙ node;
              parent = parents j h u e;
            };
      }

-- ---- of what is lent, cuts look at the slots alone

room_slots : (l l' : Lent) (s : State) (n : ℕ) → l'.slots ≡ l.slots → room_for l' s n ≡ room_for l s n
unfolding room_for
room_slots l l' s n e = rw e

at_slots : (l l' : Lent) (up : List Step) (n c : ℕ) (s : State) → l'.slots ≡ l.slots → cut_at l' up n c s ≡ cut_at l up n c s
unfolding cut_at
at_slots l l' [] n c s e = rw (room_slots l l' s 2 e)
at_slots l l' (x ∷ xs) n c s e = rw (room_slots l l' s 1 e)

bind_same : {A B : Type 0} (r : Result A) (f g : A → Result B) → ((a : A) → f a ≡ g a) → (r >>= f) ≡ (r >>= g)
bind_same (refused x) f g h = refl
bind_same (ok a) f g h = h a

cut_slots : (l l' : Lent) (up : List Step) (n : ℕ) (s : State) → l'.slots ≡ l.slots → cut_node l' up n s ≡ cut_node l up n s
unfolding cut_node
cut_slots l l' up n s e =
    let m : MemNode = node_at s n in
    ap (cond (m.dead || fits s.info (eqb n s.root) m.level m.entries) (ok s))
    (bind_same (cut s.info m.level m.entries) (λ c. cut_at l' up n c s) (λ c. cut_at l up n c s) (λ c. at_slots l l' up n c s e))

pub cuts_slots : (l l' : Lent) (up ps : List Step) (s : State) → l'.slots ≡ l.slots → cuts l' up ps s ≡ cuts l up ps s
unfolding cuts
cuts_slots l l' up [] s e = refl
cuts_slots l l' up (x ∷ xs) s e =
    ap (λ (r : Result State). r >>= cut_node l' up x.slot) (cuts_slots l l' (x ∷ []) xs s e)
    ∙ bind_same (cuts l (x ∷ []) xs s) (cut_node l' up x.slot) (cut_node l up x.slot) (λ t. cut_slots l l' up x.slot t e)
