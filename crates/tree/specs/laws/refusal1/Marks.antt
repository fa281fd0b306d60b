-- Laws of marking slots: one for each way out; and what the marks show. Assumes nothing.
use Rattle.std.specs.Prelude.{◌≡◌, refl, List, [], ◌∷◌, Bool, true, false, cond, ℕ, zero, suc, ◌+◌, ◌≤◌, ◌<◌, length, get_or, set, replicate, leb, eqb}
use Rattle.std.proofs.Common.{sym, ◌∙◌, arith, length-set, get_or-set_same, get_or-set_other}
use Rattle.std.proofs.lemmas.List.{length-replicate, get_or-replicate}
use borrow.Author.Tests.{le-leb, lt-leb, leb-true, leb-false, eq-eqb, ne_eqb, eqb-true, eqb-false}
use Rattle.node.specs.laws.base.Tests.{by_test, and_both, and-false}
use Rattle.node.specs.Result.{Result, ok, refused, ◌>>=◌}
use Rattle.node.specs.laws.base.Results.{no_answer}
use Rattle.node.specs.Entry.{Entry, Val, ghost, leaf, disk, mem}
use Rattle.node.specs.Slot.{MemNode}
use Rattle.tree.specs.State.{State}
use Rattle.tree.specs.laws.state.State.{by_val}
use Rattle.tree.specs.Hold.{naming, named, named_once}
use Rattle.tree.specs.internal.Marks.{mark_of, mark_slot, mark_value, mark_entries, mark_nodes}

-- ---- one slot

module _ (used k : ℕ) (ms : List ℕ) where
  pub slot_past : used ≤ k → mark_of true ms ≡ mark_slot used k ms
  unfolding mark_of mark_slot
  slot_past h = rw (le-leb used k h)

  pub slot_twice : k < used → (get_or ms k 0 ≡ 0 → ⊥) → mark_of false ms ≡ mark_slot used k ms
  unfolding mark_of mark_slot
  slot_twice h n = rw (lt-leb used k h, ne_eqb (get_or ms k 0) 0 n)

  pub slot_fresh : k < used → get_or ms k 0 ≡ 0 → mark_of true (set ms k 1) ≡ mark_slot used k ms
  unfolding mark_of mark_slot
  slot_fresh h n = rw (lt-leb used k h, eq-eqb (get_or ms k 0) 0 n)

-- ---- marks are counts

-- a mark for each slot in use: how often it was named, at most once
pub record Counts (used : ℕ) (f : ℕ → ℕ) (ms : List ℕ) : Type 0 where
  pub long : used ≤ length ms
  pub count : (c : ℕ) → c < used → get_or ms c 0 ≡ f c
  pub once : (c : ℕ) → c < used → f c ≤ 1

-- what comes of marks and names: each at most once, counted; or one too many
pub data Marked (used : ℕ) (f : ℕ → ℕ) (r : Result (List ℕ)) : Type 0 where
  all : (ms : List ℕ) → r ≡ ok ms → Counts used f ms → Marked used f r
  twice : (c : ℕ) → c < used → 1 < f c → r ≡ refused 1 → Marked used f r

abbrev plus : (ℕ → ℕ) → (ℕ → ℕ) → ℕ → ℕ
plus f g c = f c + g c

-- the names of one value
abbrev one : Val → ℕ → ℕ
one ghost c = 0
one (leaf v) c = 0
one (disk r) c = 0
one (mem d) c = cond (eqb c d) 1 0

counts_same : (used : ℕ) (f : ℕ → ℕ) (ms : List ℕ) → Counts used f ms → Counts used (plus f (λ c. 0)) ms
counts_same used f ms k = record { long = k.long; count = λ c h. k.count c h ∙ omega arith; once = λ c h. omega (arith, k.once c h) }

mark_slot_lem : (used d : ℕ) (f : ℕ → ℕ) (ms : List ℕ) → Counts used f ms → Marked used (plus f (one (mem d))) (mark_slot used d ms)
unfolding mark_slot
mark_slot_lem used d f ms k =
    by_test (leb used d)
    (λ t. all ms (rw t) (record {
      long = k.long;
      count = λ c h. let u : used ≤ d = leb-true used d t in let e : c ≡ d → ⊥ = λ z. omega arith in rw (ne_eqb c d e) (k.count c h ∙ omega arith);
      once = λ c h. let u : used ≤ d = leb-true used d t in let e : c ≡ d → ⊥ = λ z. omega arith in rw (ne_eqb c d e) (omega (arith, k.once c h));
    }))
    (λ t. let u : d < used = leb-false used d t in
    by_test (eqb (get_or ms d 0) 0)
    (λ w. let z : get_or ms d 0 ≡ 0 = eqb-true (get_or ms d 0) 0 w in
    all (set ms d 1) (rw (t, w)) (record {
      long = rw (length-set ms d 1) k.long;
      count = λ c h. by_test (eqb c d)
          (λ q. let e : c ≡ d = eqb-true c d q in rw (q, e) (get_or-set_same ms d 1 0 (omega (arith, k.long)) ∙ omega (arith, k.count d u, z)))
          (λ q. rw q (get_or-set_other ms d c 1 0 (eqb-false c d q) ∙ k.count c h ∙ omega arith));
      once = λ c h. by_test (eqb c d)
          (λ q. let e : c ≡ d = eqb-true c d q in rw (q, e) (omega (arith, k.count d u, z)))
          (λ q. rw q (omega (arith, k.once c h)));
    }))
    (λ w. let z : get_or ms d 0 ≡ 0 → ⊥ = eqb-false (get_or ms d 0) 0 w in
    twice d u (rw (eq-eqb d d refl) (omega (arith, k.count d u, z))) (rw (t, w))))

mark_value_lem : (used : ℕ) (v : Val) (f : ℕ → ℕ) (ms : List ℕ) → Counts used f ms → Marked used (plus f (one v)) (mark_value used v ms)
unfolding mark_value
mark_value_lem used ghost f ms k = all ms refl (counts_same used f ms k)
mark_value_lem used (leaf v) f ms k = all ms refl (counts_same used f ms k)
mark_value_lem used (disk r) f ms k = all ms refl (counts_same used f ms k)
mark_value_lem used (mem d) f ms k = mark_slot_lem used d f ms k

-- names only add up
marked_more : (used : ℕ) (f g : ℕ → ℕ) (r : Result (List ℕ)) → ((c : ℕ) → f c ≡ g c) → Marked used f r → Marked used g r
marked_more used f g r e (all ms q k) = all ms q (record {
  long = k.long;
  count = λ c h. k.count c h
      ∙ e c;
  once = λ c h. omega (arith, k.once c h, e c);
})
marked_more used f g r e (twice c h m q) = twice c h (omega (arith, e c)) q

marked_then : (used : ℕ) (f g h : ℕ → ℕ) (r : Result (List ℕ)) (next : List ℕ → Result (List ℕ)) → Marked used f r → ((c : ℕ) → f c + g c ≡ h c)
    → ((ms : List ℕ) → Counts used f ms → Marked used (plus f g) (next ms)) → Marked used h (r >>= next)
marked_then used f g h r next (all ms q k) e n = rw q (marked_more used (plus f g) h (next ms) e (n ms k))
marked_then used f g h r next (twice c u m q) e n = rw q (twice c u (omega (arith, e c)) refl)

naming_cons : (c : ℕ) (e : Entry) (es : List Entry) → naming c (e ∷ es) ≡ one e.value c + naming c es
unfolding naming
naming_cons c e es = by_val e.value (λ q. rw q) (λ b q. rw q) (λ r q. rw q) (λ d q. rw q)

mark_entries_lem : (used : ℕ) (es : List Entry) (f : ℕ → ℕ) (ms : List ℕ) → Counts used f ms → Marked used (plus f (λ c. naming c es))
    (mark_entries used es ms)
unfolding mark_entries naming
mark_entries_lem used [] f ms k = all ms refl (counts_same used f ms k)
mark_entries_lem used (e ∷ es) f ms k =
    marked_then used (plus f (one e.value)) (λ c. naming c es) (plus f (λ c. naming c (e ∷ es))) (mark_value used e.value ms)
    (mark_entries used es)
    (mark_value_lem used e.value f ms k) (λ c. omega (arith, naming_cons c e es)) (λ ks q. mark_entries_lem used es (plus f (one e.value)) ks q)

mark_node : (used : ℕ) (m : MemNode) (f : ℕ → ℕ) (ms : List ℕ) → Counts used f ms
    → Marked used (plus f (λ c. cond m.dead 0 (naming c m.entries))) (cond m.dead (ok ms) (mark_entries used m.entries ms))
mark_node used m f ms k = by_test m.dead (λ t. rw t (all ms refl (counts_same used f ms k))) (λ t. rw t (mark_entries_lem used m.entries f ms k))

mark_nodes_lem : (used : ℕ) (ns : List MemNode) (f : ℕ → ℕ) (ms : List ℕ) → Counts used f ms → Marked used (plus f (λ c. named c ns))
    (mark_nodes used ns ms)
unfolding mark_nodes named
mark_nodes_lem used [] f ms k = all ms refl (counts_same used f ms k)
mark_nodes_lem used (m ∷ ns) f ms k =
    marked_then used (plus f (λ c. cond m.dead 0 (naming c m.entries))) (λ c. named c ns) (plus f (λ c. named c (m ∷ ns)))
    (cond m.dead (ok ms) (mark_entries used m.entries ms)) (mark_nodes used ns)
    (mark_node used m f ms k) (λ c. omega arith) (λ ks q. mark_nodes_lem used ns (plus f (λ c. cond m.dead 0 (naming c m.entries))) ks q)

-- ---- no slot is named twice

said_yes : (t : Bool) (ks zs : List ℕ) → mark_of t ks ≡ ok zs → t ≡ true
unfolding mark_of
said_yes true ks zs e = refl
said_yes false ks zs e = no_answer 1 zs e

pub said_no : (t : Bool) (ks : List ℕ) → mark_of t ks ≡ refused 1 → t ≡ false
unfolding mark_of
said_no true ks e = no_answer 1 ks (sym e)
said_no false ks e = refl

once_all : (s : State) (n : ℕ) → ((c : ℕ) → c < n → named c s.nodes + cond (eqb c s.root) 1 0 ≤ 1) → named_once s n ≡ true
unfolding named_once
once_all s zero f = refl
once_all s (suc n) f = and_both _ (named_once s n) (le-leb _ 1 (f n (omega arith))) (once_all s n (λ c h. f c (omega arith)))

once_twice : (s : State) (n c : ℕ) → c < n → 1 < named c s.nodes + cond (eqb c s.root) 1 0 → named_once s n ≡ false
unfolding named_once
once_twice s zero c h m = absurd (omega arith)
once_twice s (suc n) c h m =
    by_test (eqb c n)
    (λ t. let e : c ≡ n = eqb-true c n t in rw (← e, lt-leb (named c s.nodes + cond (eqb c s.root) 1 0) 1 m))
    (λ t. let e : c ≡ n → ⊥ = eqb-false c n t in rw (once_twice s n c (omega arith) m)
    (and-false (leb (named n s.nodes + cond (eqb n s.root) 1 0) 1)))

root_counts : (used root : ℕ) (bs ms : List ℕ) → used ≤ length bs → ((c : ℕ) → c < length bs → get_or bs c 0 ≡ 0) → root < used → ms ≡ set bs root 1
    → Counts used (λ c. cond (eqb c root) 1 0) ms
root_counts used root bs ms h f k e =
    record {
      long = rw (e, length-set bs root 1) h;
      count = λ c q. rw e (by_test (eqb c root)
          (λ t. let z : c ≡ root = eqb-true c root t in rw (t, z) (get_or-set_same bs root 1 0 (omega arith)))
          (λ t. rw t (get_or-set_other bs root c 1 0 (eqb-false c root t) ∙ f c (omega arith))));
      once = λ c q. by_test (eqb c root) (λ t. rw t (omega arith)) (λ t. rw t (omega arith));
    }

pub blank_long : (n : ℕ) → length {A = ℕ} (replicate n 0) ≡ n
blank_long n = length-replicate {A = ℕ} n 0

pub once_is : (s : State) (used n : ℕ) (ms ks : List ℕ) (t : Bool) → used ≤ n → s.root < used → ms ≡ set (replicate n 0) s.root 1
    → mark_of t ks ≡ mark_nodes used s.nodes ms → t ≡ named_once s used
once_is s used n ms ks t h k e q =
    let l : length {A = ℕ} (replicate n 0) ≡ n = blank_long n in
    by_marks (mark_nodes_lem used s.nodes (λ c. cond (eqb c s.root) 1 0) ms
    (root_counts used s.root (replicate n 0) ms (omega arith) (λ c u. get_or-replicate {A = ℕ} n c 0 0 (omega arith)) k e))
  where
    by_marks : Marked used (plus (λ c. cond (eqb c s.root) 1 0) (λ c. named c s.nodes)) (mark_nodes used s.nodes ms) → t ≡ named_once s used
    by_marks (all zs p n) = said_yes t ks zs (q ∙ p) ∙ sym (once_all s used (λ c u. omega (arith, n.once c u)))
    by_marks (twice c u m p) = said_no t ks (q ∙ p) ∙ sym (once_twice s used c u (omega arith))

pub ruleset mark_slot_laws = (slot_past, slot_twice, slot_fresh)
