-- Flush's walk over a tree whose keys rise within bounds: what is written is done, and whatever each write keeps holds at the end. Assumes nothing.
use Rattle.std.specs.Prelude.{◌≡◌, length, get_or, leb}
use Rattle.std.proofs.Math.Path.{refl, ap, subst}
use Rattle.std.proofs.Common.{sym, ◌∙◌, arith, leb-true, leb-false}
use mathlib.Core.List.{List, ◌∷◌, map}
use Rattle.std.proofs.Math.Bool.{true, false, cond}
use Prim.Native.Nat.{ℕ, zero, suc, ◌+◌, ◌≤◌, ◌<◌}
use Rattle.node.specs.Entry.{Entry, mem}
use Rattle.node.specs.Pack.{pack_node, numbered}
use Rattle.node.specs.Slot.{MemNode}
use Rattle.node.specs.laws.base.Tests.{by_test}
use Rattle.tree.specs.State.{State, node_at, no_node}
use Rattle.flush.specs.Space.{Choice, choose, usable}
use Rattle.flush.specs.laws.SpaceLaws.{by_list, usable_zero}
use Rattle.flush.specs.Flush.{Flushing, build_of, write_at, write_node, write_kids, write_from, sum_kids, sum_from}
use Rattle.theorem.specs.model.Bounds.{Terms, K, Items, nil, cons}
use Rattle.theorem.specs.model.Lazy.{names, node_of, slots, slots_in, names_same, Child, Ok}
use Rattle.theorem.specs.flush.Writes.{naming, by_mem, kids_mem, kids_none, sum_mem, sum_none, zero_not, one_of, bare_entry, mem_entry}
use Rattle.theorem.specs.flush.Writes.{Ready, Wrote, wrote_then, wrote_none, one_slot, wrote_as}
use Rattle.theorem.specs.flush.Reach.{ok_closed, reach_closed}

-- R: what is so of every slot that is reached. I: what every write keeps
module _ (s : State) (xid n : ℕ) (τ : Terms) (rd : ℕ → MemNode) (bare : (at : ℕ → MemNode) (r j d : ℕ) → slots rd at j d (rd r) ≡ 0)
    (R : ℕ → Type 0) (used : (x : ℕ) → R x → x < length s.nodes)
    (packs : (x oid : ℕ) (f : ℕ → ℕ) → R x → (node_at s x).dirty ≡ true
    → length (pack_node (build_of s xid oid x (node_at s x)) (map (numbered f) (node_at s x).entries)) ≡ s.info.node_size)
    (I : Flushing → Type 0)
    (step : (c : ℕ) (x : Choice) (xs : List Choice) (w : Flushing) → R c → Ready s xid n w → get_or w.nodes c no_node ≡ node_at s c
    → (node_at s c).dirty ≡ true
    → choose s.info.node_size w.space ≡ x ∷ xs → I w → I (write_at s xid c x w))
  where
    abbrev count : ℕ → ℕ → ℕ
    count l c = sum_from (λ m. cond m.dirty 1 0) l s c

    pub record Both (C : ℕ → ℕ) (g : ℕ) (w w' : Flushing) : Type 0 where
      pub wrote : Wrote s xid n C g w w'
      pub kept : I w'

    -- a slot whose node is one of the tree, each slot at or below it once
    pub record Stands (l c : ℕ) : Type 0 where
      pub lo : ℕ
      pub hi : ℕ
      pub ok : Ok τ rd (node_at s) l lo hi (node_at s c)
      pub once : (x : ℕ) → names x (mem c) + slots rd (node_at s) l x (node_at s c) ≤ 1
      pub each : (x : ℕ) → 1 ≤ names x (mem c) + slots rd (node_at s) l x (node_at s c) → R x

    -- what such a slot names stands below it
    stands_closed : (l c : ℕ) → Stands l c → (x d : ℕ) → 1 ≤ names x (mem c) + slots rd (node_at s) l x (node_at s c)
        → 1 ≤ naming d (node_at s x).entries → 1 ≤ slots rd (node_at s) l d (node_at s c)
    stands_closed l c k x d p q =
        by_test (leb 1 (names x (mem c)))
        (λ t.
        let e : x ≡ c = one_of x c (leb-true 1 _ t) in
        ok_closed τ rd (node_at s) l k.lo k.hi (node_at s c) d k.ok (rw e at q))
        (λ t. let z = leb-false 1 (names x (mem c)) t in reach_closed τ rd (node_at s) l k.lo k.hi (node_at s c) x d k.ok (omega arith) q)

    abbrev Step : ℕ → Type 0
    Step l = (c : ℕ) (w : Flushing) → Stands l c → Ready s xid n w
        → ((x : ℕ) → 1 ≤ names x (mem c) + slots rd (node_at s) l x (node_at s c) → get_or w.nodes x no_node ≡ node_at s x)
        → count l c ≤ usable s.info.node_size w.space → I w
        → Both (λ x. names x (mem c) + slots rd (node_at s) l x (node_at s c)) (count l c) w (write_from l s xid c w)

    keep_one : (c : ℕ) (w : Flushing) → R c → Ready s xid n w → get_or w.nodes c no_node ≡ node_at s c
        → cond (node_at s c).dirty 1 0 ≤ usable s.info.node_size w.space → I w → I (write_node s xid c w)
    unfolding write_node
    keep_one c w reached r fresh enough i =
        by_test (node_at s c).dirty
        (λ t.
        let t' : (get_or w.nodes c no_node).dirty ≡ true = ap (λ (m : MemNode). m.dirty) fresh ∙ t in
        let some : 1 ≤ usable s.info.node_size w.space = rw t at enough in
        by_list (choose s.info.node_size w.space)
        (λ q. let z : usable s.info.node_size w.space ≡ 0 = (usable_zero s.info.node_size w.space).1 q in absurd (omega arith))
        (λ x xs q. rw (t', q) (step c x xs w reached r fresh t q i)))
        (λ f.
        let f' : (get_or w.nodes c no_node).dirty ≡ false = ap (λ (m : MemNode). m.dirty) fresh ∙ f in
        rw f' i)

    -- one slot after what is below it
    own : (c : ℕ) (w : Flushing) → R c → Ready s xid n w → get_or w.nodes c no_node ≡ node_at s c → naming c (node_at s c).entries ≡ 0
        → cond (node_at s c).dirty 1 0 ≤ usable s.info.node_size w.space → I w
        → Both (λ x. names x (mem c)) (cond (node_at s c).dirty 1 0) w (write_node s xid c w)
    own c w reached r fresh alone enough i =
        record {
          wrote = one_slot s xid n c w r (used c reached) fresh alone (λ oid f t. packs c oid f reached t) enough;
          kept = keep_one c w reached r fresh enough i;
        }

    -- children left to right
    walk_kids_lem : (l : ℕ) → Step l → {lo hi : ℕ} {es : List Entry} → Items (K τ) (Child τ (Ok τ rd (node_at s) l) (node_of rd (node_at s))) lo hi es
        → (w : Flushing)
        → ((x : ℕ) → slots_in rd (node_at s) l x es ≤ 1) → ((x : ℕ) → 1 ≤ slots_in rd (node_at s) l x es → R x)
        → Ready s xid n w → ((x : ℕ) → 1 ≤ slots_in rd (node_at s) l x es → get_or w.nodes x no_node ≡ node_at s x)
        → sum_kids (count l) es ≤ usable s.info.node_size w.space → I w
        → Both (λ x. slots_in rd (node_at s) l x es) (sum_kids (count l) es) w (write_kids (write_from l s xid) es w)
    unfolding write_kids sum_kids
    walk_kids_lem l ih (nil z) w once each r fresh enough i = record { wrote = wrote_none s xid n w r (λ x. 0) (λ x. refl); kept = i }
    walk_kids_lem l ih (cons {m = m} {e = e} {es = es} z p q) w once each r fresh enough i =
        by_mem e.value
        (λ h.
        let a = bare_entry s xid n rd bare l e.value h in
        let sm : sum_kids (count l) (e ∷ es) ≡ sum_kids (count l) es = sum_none (count l) e es h in
        let b = walk_kids_lem l ih q w (λ x. omega (arith, once x)) (λ x k. each x (omega arith)) r (λ x k. fresh x (omega arith))
        (omega (arith, sm, enough)) i in
        subst (Both (λ x. slots_in rd (node_at s) l x (e ∷ es)) (sum_kids (count l) (e ∷ es)) w) (sym (kids_none (write_from l s xid) e es w h))
        (record {
          wrote = wrote_as s xid n rd bare (λ x. slots_in rd (node_at s) l x es) (λ x. slots_in rd (node_at s) l x (e ∷ es)) (sum_kids (count l) es)
              (sum_kids (count l) (e ∷ es)) w
              (write_kids (write_from l s xid) es w) (λ x. omega (arith, a x)) (sym sm) b.wrote;
          kept = b.kept;
        }))
        (λ c v.
        let a = mem_entry s xid n rd bare l c e.value v in
        let sm : sum_kids (count l) (e ∷ es) ≡ count l c + sum_kids (count l) es = sum_mem (count l) e es c v in
        let k : Stands l c = record {
          lo = K τ e.key;
          hi = m;
          ok = subst (Ok τ rd (node_at s) l (K τ e.key) m) (ap (node_of rd (node_at s)) v ∙ node_mem c) p.ok;
          once = λ x. omega (arith, a x, once x);
          each = λ x y. each x (omega (arith, a x));
        } in
        let b = ih c w k r (λ x y. fresh x (omega (arith, a x))) (omega (arith, sm, enough)) i in
        let d = walk_kids_lem l ih q (write_from l s xid c w) (λ x. omega (arith, once x)) (λ x y. each x (omega arith)) b.wrote.ready
        (λ x y. b.wrote.keep x (omega (arith, a x, once x)) ∙ fresh x (omega (arith, a x)))
        (omega (arith, sm, enough, b.wrote.spent)) b.kept in
        subst (Both (λ x. slots_in rd (node_at s) l x (e ∷ es)) (sum_kids (count l) (e ∷ es)) w) (sym (kids_mem (write_from l s xid) e es w c v))
        (record {
          wrote = wrote_as s xid n rd bare (λ x. names x (mem c) + slots rd (node_at s) l x (node_at s c) + slots_in rd (node_at s) l x es)
              (λ x. slots_in rd (node_at s) l x (e ∷ es))
              (count l c + sum_kids (count l) es) (sum_kids (count l) (e ∷ es)) w (write_kids (write_from l s xid) es (write_from l s xid c w))
              (λ x. omega (arith, a x)) (sym sm)
              (wrote_then s xid n (λ x. names x (mem c) + slots rd (node_at s) l x (node_at s c)) (λ x. slots_in rd (node_at s) l x es) (count l c)
              (sum_kids (count l) es) w (write_from l s xid c w)
              (write_kids (write_from l s xid) es (write_from l s xid c w)) (λ x. omega (arith, a x, once x))
              (λ x y g h. omega (arith, stands_closed l c k x y g h)) b.wrote d.wrote);
          kept = d.kept;
        }))
      where
        node_mem : (c : ℕ) → node_of rd (node_at s) (mem c) ≡ node_at s c
        node_mem c = unfold node_of in refl

    -- the walk from slot c
    pub walk : (l : ℕ) → Step l
    unfolding write_from sum_from slots
    walk zero c w k r fresh enough i =
        let reached = k.each c (omega (arith, names_same c)) in
        let o = own c w reached r (fresh c (omega (arith, names_same c)))
        (zero_not _ (λ p. let y = stands_closed zero c k c c (omega (arith, names_same c)) p in omega arith)) enough i in
        record {
          wrote = wrote_as s xid n rd bare (λ x. names x (mem c)) (λ x. names x (mem c) + 0) _ _ w (write_node s xid c w) (λ x. omega arith) refl
              o.wrote;
          kept = o.kept;
        }
    walk (suc l) c w k r fresh enough i =
        let es : List Entry = (node_at s c).entries in
        let u : Flushing = write_kids (write_from l s xid) (node_at s c).entries w in
        let b : Both (λ x. slots_in rd (node_at s) l x (node_at s c).entries) (sum_kids (count l) (node_at s c).entries) w u =
        walk_kids_lem l (walk l) k.ok.items w (λ x. omega (arith, k.once x)) (λ x p. k.each x (omega arith)) r (λ x p. fresh x (omega arith))
        (omega arith) i in
        let none : slots_in rd (node_at s) l c (node_at s c).entries ≡ 0 = omega (arith, k.once c, names_same c) in
        let reached = k.each c (omega (arith, names_same c)) in
        let o : Both (λ x. names x (mem c)) (cond (node_at s c).dirty 1 0) u (write_node s xid c u) =
        own c u reached b.wrote.ready (b.wrote.keep c none ∙ fresh c (omega (arith, names_same c)))
        (zero_not _ (λ p. let y = stands_closed (suc l) c k c c (omega (arith, names_same c)) p in omega arith))
        (omega (arith, b.wrote.spent)) b.kept in
        record {
          wrote = wrote_as s xid n rd bare (λ x. slots_in rd (node_at s) l x (node_at s c).entries + names x (mem c))
              (λ x. names x (mem c) + slots_in rd (node_at s) l x (node_at s c).entries)
              (sum_kids (count l) (node_at s c).entries + cond (node_at s c).dirty 1 0) _ w (write_node s xid c u) (λ x. omega arith) (omega arith)
              (wrote_then s xid n (λ x. slots_in rd (node_at s) l x (node_at s c).entries) (λ x. names x (mem c))
              (sum_kids (count l) (node_at s c).entries) (cond (node_at s c).dirty 1 0) w u (write_node s xid c u)
              (λ x. omega (arith, k.once x)) (λ x d p q. stands_closed (suc l) c k x d (omega arith) q) b.wrote o.wrote);
          kept = o.kept;
        }
