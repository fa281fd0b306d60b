-- A flush of a tree with no dirty node writes nothing; and no flush takes more blocks than it counted first. Assumes nothing.
use Rattle.std.proofs.Math.Path.{◌≡◌, refl, ap}
use Rattle.std.proofs.Common.{sym, ◌∙◌, arith, get_or-set_same, get_or-set_other}
use mathlib.Core.List.{List, [], ◌∷◌}
use Rattle.std.specs.Prelude.{Bool, true, false, get_or, set, ltb, eqb}
use Rattle.std.proofs.Math.Bool.{cond}
use Prim.Native.Nat.{ℕ, zero, suc, ◌+◌, ◌≤◌}
use Rattle.std.proofs.Math.ListN.{length, get_or-eq_default}
use Rattle.std.proofs.Math.Seq.{set_out}
use borrow.Author.Tests.{eqb-true, eqb-false, ltb-true, ltb-false}
use Rattle.tree.specs.Format.{Entry, Val, ghost, leaf, disk, mem, MemNode}
use Rattle.tree.specs.Lent.{Lent}
use Rattle.tree.specs.State.{State, no_node, node_at}
use Rattle.tree.specs.laws.base.Node.{by_test, never}
use Rattle.tree.specs.laws.state.State.{by_val}
use Rattle.flush.specs.Space.{Space, Choice, choose, taken, usable, space_holds}
use Rattle.flush.specs.laws.SpaceLaws.{by_list, taken_holds, usable_zero, usable_less}
use Rattle.flush.specs.Flush.{Flushing, Flushed, rewritten, write_at, write_node, write_kids, write_from, dead_blocks, dead_ids, sum_kids, sum_from, dirty_reached, flushed}

-- ---- no dirty node

-- no slot is dirty
abbrev pub AllClean : List MemNode → Type 0
AllClean ns = (n : ℕ) → (get_or ns n no_node).dirty ≡ false

-- the children's writes leave what each leaves
kids_still : (f : ℕ → Flushing → Flushing) (es : List Entry) (w : Flushing) → ((c : ℕ) → f c w ≡ w) → write_kids f es w ≡ w
unfolding write_kids
kids_still f [] w h = refl
kids_still f (e ∷ es) w h =
    by_val e.value
    (λ q. rw q (kids_still f es w h))
    (λ b q. rw q (kids_still f es w h))
    (λ r q. rw q (kids_still f es w h))
    (λ c q. rw (q, h c) (kids_still f es w h))

node_still : (s : State) (xid n : ℕ) (w : Flushing) → AllClean w.nodes → write_node s xid n w ≡ w
unfolding write_node
node_still s xid n w h = rw (h n)

pub write_still : (d : ℕ) (s : State) (xid n : ℕ) (w : Flushing) → AllClean w.nodes → write_from d s xid n w ≡ w
unfolding write_from
write_still zero s xid n w h = node_still s xid n w h
write_still (suc d) s xid n w h =
    ap (write_node s xid n) (kids_still (write_from d s xid) (node_at s n).entries w (λ c. write_still d s xid c w h)) ∙ node_still s xid n w h

-- nothing changed: nothing written, no block taken, no id, no node; freed and removed are the dead nodes'
pub record Still (l : Lent) (p : Space) (s : State) (next : ℕ) (f : Flushed) : Type 0 where
  pub image : f.after.image ≡ l.image
  pub space : f.after.space ≡ p
  pub nodes : f.after.nodes ≡ s.nodes
  pub next_id : f.after.next ≡ next
  pub freed : f.after.freed ≡ dead_blocks s.nodes
  pub removed : f.after.removed ≡ dead_ids s.virtual s.nodes
  pub moved : f.after.moved ≡ []
  pub allocated : f.allocated ≡ 0

pub flush_clean : (l : Lent) (p : Space) (s : State) (xid next : ℕ) → AllClean s.nodes → Still l p s next (flushed l p s xid next)
unfolding flushed
flush_clean l p s xid next h =
    let w : Flushing = record {
      image = l.image;
      space = p;
      nodes = s.nodes;
      next = next;
      freed = dead_blocks s.nodes;
      removed = dead_ids s.virtual s.nodes;
      moved = [];
      allocated = 0;
    } in
    let q : write_from (node_at s s.root).level s xid s.root w ≡ w = write_still (node_at s s.root).level s xid s.root w h in
    record {
      image = ap (λ (z : Flushing). z.image) q;
      space = ap (λ (z : Flushing). z.space) q;
      nodes = ap (λ (z : Flushing). z.nodes) q;
      next_id = ap (λ (z : Flushing). z.next) q;
      freed = ap (λ (z : Flushing). z.freed) q;
      removed = ap (λ (z : Flushing). z.removed) q;
      moved = ap (λ (z : Flushing). z.moved) q;
      allocated = ap (λ (z : Flushing). z.allocated) q;
    }

-- and none is counted
sum_kids_zero : (f : ℕ → ℕ) (es : List Entry) → ((c : ℕ) → f c ≡ 0) → sum_kids f es ≡ 0
unfolding sum_kids
sum_kids_zero f [] h = refl
sum_kids_zero f (e ∷ es) h =
    let i : sum_kids f es ≡ 0 = sum_kids_zero f es h in
    by_val e.value (λ q. rw q (omega arith)) (λ b q. rw q (omega arith)) (λ r q. rw q (omega arith)) (λ c q. let k = h c in rw q (omega arith))

sum_zero : (f : MemNode → ℕ) (d : ℕ) (s : State) (n : ℕ) → ((m : ℕ) → f (node_at s m) ≡ 0) → sum_from f d s n ≡ 0
unfolding sum_from
sum_zero f zero s n h = h n
sum_zero f (suc d) s n h =
    let k = h n in
    let i : sum_kids (sum_from f d s) (node_at s n).entries ≡ 0 = sum_kids_zero (sum_from f d s) (node_at s n).entries (λ c. sum_zero f d s c h) in
    omega arith

pub dirty_none : (s : State) → AllClean s.nodes → dirty_reached s ≡ 0
unfolding dirty_reached node_at
dirty_none s h = sum_zero (λ m. cond m.dirty 1 0) (node_at s s.root).level s s.root (λ m. ap (λ (b : Bool). cond b 1 0) (h m))

-- ---- a walk that writes

-- a slot is clean
abbrev pub Clean : Flushing → ℕ → Type 0
Clean w n = (get_or w.nodes n no_node).dirty ≡ false

-- what is so of every loaded child among entries
abbrev pub OfChild : (ℕ → Type 0) → Val → Type 0
OfChild P ghost = Unit {0}
OfChild P (leaf v) = Unit {0}
OfChild P (disk r) = Unit {0}
OfChild P (mem c) = P c

abbrev pub OfKids : (ℕ → Type 0) → List Entry → Type 0
OfKids P [] = Unit {0}
OfKids P (e ∷ es) = OfChild P e.value × OfKids P es

-- what is so of every node reached from slot n, d levels down
abbrev pub OfReached : (ℕ → Type 0) → ℕ → State → ℕ → Type 0
OfReached P zero s n = P n
OfReached P (suc d) s n = P n × OfKids (OfReached P d s) (node_at s n).entries

child_map : (P Q : ℕ → Type 0) (v : Val) → ((n : ℕ) → P n → Q n) → OfChild P v → OfChild Q v
child_map P Q ghost f h = tt
child_map P Q (leaf v) f h = tt
child_map P Q (disk r) f h = tt
child_map P Q (mem c) f h = f c h

kids_map : (P Q : ℕ → Type 0) (es : List Entry) → ((n : ℕ) → P n → Q n) → OfKids P es → OfKids Q es
kids_map P Q [] f h = tt
kids_map P Q (e ∷ es) f h = (child_map P Q e.value f h.0, kids_map P Q es f h.1)

reached_map : (P Q : ℕ → Type 0) (d : ℕ) (s : State) (n : ℕ) → ((m : ℕ) → P m → Q m) → OfReached P d s n → OfReached Q d s n
reached_map P Q zero s n f h = f n h
reached_map P Q (suc d) s n f h = (
  f n h.0,
  kids_map (OfReached P d s) (OfReached Q d s) (node_at s n).entries (λ c. reached_map P Q d s c f)
      h.1,
)

-- a part of the walk that counts g dirty nodes. Q: what it makes so
pub record Wrote (size blocks : ℕ) (s : State) (g : ℕ) (Q : Flushing → Type 0) (w w' : Flushing) : Type 0 where
  -- the space holds; each block allocated is one usable block less; no more are allocated than were counted
  pub holds : space_holds size blocks w'.space ≡ true
  pub spent : usable size w'.space + w'.allocated ≡ usable size w.space + w.allocated
  pub bound : w'.allocated ≤ w.allocated + g
  -- only nodes that were dirty are; what is clean stays clean
  pub within : (m : ℕ) → (get_or w'.nodes m no_node).dirty ≡ true → (node_at s m).dirty ≡ true
  pub stays : (m : ℕ) → Clean w m → Clean w' m
  -- with enough usable blocks all is done
  pub done : g ≤ usable size w.space → Q w'

abbrev Within : State → Flushing → Type 0
Within s w = (m : ℕ) → (get_or w.nodes m no_node).dirty ≡ true → (node_at s m).dirty ≡ true

module _ (s : State) (xid blocks : ℕ) where
  abbrev size : ℕ
  size = s.info.node_size

  -- a node that is not dirty
  clean_node : (n : ℕ) (w : Flushing) (b : ℕ) → space_holds size blocks w.space ≡ true → Within s w → Clean w n
      → Wrote size blocks s b (λ z. Clean z n) w w
  clean_node n w b h k c = record { holds = h; spent = refl; bound = omega arith; within = k; stays = λ m q. q; done = λ g. c }

  -- a slot set to a clean node
  set_clean_same : (ns : List MemNode) (n : ℕ) (x : MemNode) → x.dirty ≡ false → (get_or (set ns n x) n no_node).dirty ≡ false
  unfolding no_node
  set_clean_same ns n x c =
      by_test (ltb n (length ns))
      (λ t. ap (λ (y : MemNode). y.dirty) (get_or-set_same ns n x no_node (ltb-true n (length ns) t)) ∙ c)
      (λ t.
      let g : length ns ≤ n = ltb-false n (length ns) t in
      ap (λ (y : List MemNode). (get_or y n no_node).dirty) (set_out ns n x g) ∙ ap (λ (y : MemNode). y.dirty) (get_or-eq_default ns no_node g))

  set_clean : (ns : List MemNode) (n m : ℕ) (x : MemNode) → x.dirty ≡ false → (get_or ns m no_node).dirty ≡ false
      → (get_or (set ns n x) m no_node).dirty ≡ false
  set_clean ns n m x c h =
      by_test (eqb m n)
      (λ t. let z : m ≡ n = eqb-true m n t in rw z (set_clean_same ns n x c))
      (λ t. ap (λ (y : MemNode). y.dirty) (get_or-set_other ns n m x no_node (eqb-false m n t)) ∙ h)

  set_dirty : (ns : List MemNode) (n m : ℕ) (x : MemNode) → x.dirty ≡ false → (get_or (set ns n x) m no_node).dirty ≡ true
      → (get_or ns m no_node).dirty ≡ true
  set_dirty ns n m x c h =
      by_test (eqb m n)
      (λ t. let z : m ≡ n = eqb-true m n t in never (rw z at h) (set_clean_same ns n x c))
      (λ t. sym (ap (λ (y : MemNode). y.dirty) (get_or-set_other ns n m x no_node (eqb-false m n t))) ∙ h)

  -- a dirty node written
  write_one : (n : ℕ) (x : Choice) (xs : List Choice) (w : Flushing) → space_holds size blocks w.space ≡ true → Within s w
      → (get_or w.nodes n no_node).dirty ≡ true
      → choose size w.space ≡ x ∷ xs → Wrote size blocks s (cond (node_at s n).dirty 1 0) (λ z. Clean z n) w (write_at s xid n x w)
  unfolding write_at rewritten
  write_one n x xs w h k t e =
      let u : usable size (taken w.space x) + 1 ≡ usable size w.space = usable_less size blocks w.space x xs h e in
      let c : ◌≡◌ {A = ℕ} (cond (node_at s n).dirty 1 0) 1 = ap (λ (b : Bool). cond b 1 0) (k n t) in
      record {
        holds = taken_holds size blocks w.space x h;
        spent = omega arith;
        bound = omega arith;
        within = λ m q. k m (set_dirty w.nodes n m (rewritten (get_or w.nodes n no_node) x.block _) refl q);
        stays = λ m q. set_clean w.nodes n m (rewritten (get_or w.nodes n no_node) x.block _) refl q;
        done = λ g. set_clean_same w.nodes n (rewritten (get_or w.nodes n no_node) x.block _) refl;
      }

  -- no block is left: nothing is written, and then fewer were usable than counted
  no_block : (n : ℕ) (w : Flushing) → space_holds size blocks w.space ≡ true → Within s w → (get_or w.nodes n no_node).dirty ≡ true
      → choose size w.space ≡ []
      → Wrote size blocks s (cond (node_at s n).dirty 1 0) (λ z. Clean z n) w w
  no_block n w h k t e =
      let c : ◌≡◌ {A = ℕ} (cond (node_at s n).dirty 1 0) 1 = ap (λ (b : Bool). cond b 1 0) (k n t) in
      let u : usable size w.space ≡ 0 = (usable_zero size w.space).1 e in
      record { holds = h; spent = refl; bound = omega arith; within = k; stays = λ m q. q; done = λ g. absurd (omega arith) }

  write_node_lem : (n : ℕ) (w : Flushing) → space_holds size blocks w.space ≡ true → Within s w → Wrote size blocks s (cond (node_at s n).dirty 1 0)
      (λ z. Clean z n) w (write_node s xid n w)
  unfolding write_node
  write_node_lem n w h k =
      by_test (get_or w.nodes n no_node).dirty
      (λ t. by_list (choose size w.space)
      (λ q. rw (t, q) (no_block n w h k t q))
      (λ x xs q. rw (t, q) (write_one n x xs w h k t q)))
      (λ t. rw t (clean_node n w (cond (node_at s n).dirty 1 0) h k t))

  -- the loaded children, one after the other
  write_kids_lem : (f : ℕ → Flushing → Flushing) (g : ℕ → ℕ) (R : Flushing → ℕ → Type 0)
      → ((c : ℕ) (w : Flushing) → space_holds size blocks w.space ≡ true → Within s w → Wrote size blocks s (g c) (λ z. R z c) w (f c w))
      → ((w w' : Flushing) (c : ℕ) → ((m : ℕ) → Clean w m → Clean w' m) → R w c → R w' c)
      → (es : List Entry) (w : Flushing) → space_holds size blocks w.space ≡ true → Within s w → Wrote size blocks s (sum_kids g es)
      (λ z. OfKids (R z) es) w (write_kids f es w)
  unfolding write_kids sum_kids
  write_kids_lem f g R step keep [] w h k = record { holds = h; spent = refl; bound = omega arith; within = k; stays = λ m q. q; done = λ q. tt }
  write_kids_lem f g R step keep (e ∷ es) w h k =
      by_val e.value
      (λ q. rw q (other (write_kids_lem f g R step keep es w h k)))
      (λ b q. rw q (other (write_kids_lem f g R step keep es w h k)))
      (λ r q. rw q (other (write_kids_lem f g R step keep es w h k)))
      (λ c q. let i = step c w h k in rw q (child c i (write_kids_lem f g R step keep es (f c w) i.holds i.within)))
    where
      other : Wrote size blocks s (sum_kids g es) (λ z. OfKids (R z) es) w (write_kids f es w) → Wrote size blocks s (0 + sum_kids g es)
          (λ z. Unit {0} × OfKids (R z) es) w (write_kids f es w)
      other i =
          let b : (write_kids f es w).allocated ≤ w.allocated + sum_kids g es = i.bound in
          record {
            holds = i.holds;
            spent = i.spent;
            bound = omega arith;
            within = i.within;
            stays = i.stays;
            done = λ q. (tt, i.done (omega arith));
          }

      child : (c : ℕ) → Wrote size blocks s (g c) (λ z. R z c) w (f c w) → Wrote size blocks s (sum_kids g es) (λ z. OfKids (R z) es) (f c w)
          (write_kids f es (f c w))
          → Wrote size blocks s (g c + sum_kids g es) (λ z. R z c × OfKids (R z) es) w (write_kids f es (f c w))
      child c i j =
          let b : (f c w).allocated ≤ w.allocated + g c = i.bound in
          let b' : (write_kids f es (f c w)).allocated ≤ (f c w).allocated + sum_kids g es = j.bound in
          let p : usable size (f c w).space + (f c w).allocated ≡ usable size w.space + w.allocated = i.spent in
          let p' : usable size (write_kids f es (f c w)).space + (write_kids f es (f c w)).allocated ≡ usable size
          (f c w).space + (f c w).allocated = j.spent in
          record {
            holds = j.holds;
            spent = omega arith;
            bound = omega arith;
            within = j.within;
            stays = λ m q. j.stays m (i.stays m q);
            done = λ q. (keep (f c w) (write_kids f es (f c w)) c j.stays (i.done (omega arith)), j.done (omega arith));
          }

  -- the walk from slot n
  pub write_from_lem : (d n : ℕ) (w : Flushing) → space_holds size blocks w.space ≡ true → Within s w
      → Wrote size blocks s (sum_from (λ m. cond m.dirty 1 0) d s n) (λ z. OfReached (Clean z) d s n) w (write_from d s xid n w)
  unfolding sum_from write_from
  write_from_lem zero n w h k = write_node_lem n w h k
  write_from_lem (suc d) n w h k =
      let i = write_kids_lem (write_from d s xid) (sum_from (λ m. cond m.dirty 1 0) d s) (λ z c. OfReached (Clean z) d s c) (write_from_lem d)
      (λ z z' c f. reached_map (Clean z) (Clean z') d s c f) (node_at s n).entries w h k in
      let v : Flushing = write_kids (write_from d s xid) (node_at s n).entries w in
      let j = write_node_lem n v i.holds i.within in
      let b : v.allocated ≤ w.allocated + sum_kids (sum_from (λ m. cond m.dirty 1 0) d s) (node_at s n).entries = i.bound in
      let b' : (write_node s xid n v).allocated ≤ v.allocated + cond (node_at s n).dirty 1 0 = j.bound in
      let p : usable size v.space + v.allocated ≡ usable size w.space + w.allocated = i.spent in
      let p' : usable size (write_node s xid n v).space + (write_node s xid n v).allocated ≡ usable size v.space + v.allocated = j.spent in
      record {
        holds = j.holds;
        spent = omega arith;
        bound = omega arith;
        within = j.within;
        stays = λ m q. j.stays m (i.stays m q);
        done = λ q. (
          j.done (omega arith),
          kids_map (OfReached (Clean v) d s) (OfReached (Clean (write_node s xid n v)) d s) (node_at s n).entries
              (λ c. reached_map (Clean v) (Clean (write_node s xid n v)) d s c j.stays) (i.done (omega arith)),
        );
      }

-- ---- the call

-- 16 asks enough: a flush takes no more blocks than the dirty nodes it counted, each one usable block less; with that many usable every node reached
-- is clean after
pub record Enough (size blocks : ℕ) (p : Space) (s : State) (f : Flushed) : Type 0 where
  pub holds : space_holds size blocks f.after.space ≡ true
  pub bound : f.allocated ≤ dirty_reached s
  pub spent : usable size f.after.space + f.allocated ≡ usable size p
  pub clean : dirty_reached s ≤ usable size p → OfReached (Clean f.after) (node_at s s.root).level s s.root

start : (s : State) (m : ℕ) → (get_or s.nodes m no_node).dirty ≡ true → (node_at s m).dirty ≡ true
unfolding node_at
start s m h = h

pub flush_enough : (l : Lent) (p : Space) (s : State) (xid next blocks : ℕ) → space_holds s.info.node_size blocks p ≡ true
    → Enough s.info.node_size blocks p s (flushed l p s xid next)
unfolding flushed dirty_reached
flush_enough l p s xid next blocks h =
    let w : Flushing = record {
      image = l.image;
      space = p;
      nodes = s.nodes;
      next = next;
      freed = dead_blocks s.nodes;
      removed = dead_ids s.virtual s.nodes;
      moved = [];
      allocated = 0;
    } in
    let i = write_from_lem s xid blocks (node_at s s.root).level s.root w h (start s) in
    let v : Flushing = write_from (node_at s s.root).level s xid s.root w in
    let b : v.allocated ≤ 0 + sum_from (λ m. cond m.dirty 1 0) (node_at s s.root).level s s.root = i.bound in
    let q : usable s.info.node_size v.space + v.allocated ≡ usable s.info.node_size p + 0 = i.spent in
    record { holds = i.holds; bound = omega arith; spent = omega arith; clean = i.done }
