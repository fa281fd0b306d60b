-- Laws of a bank's slots: one written, one added. Assumes nothing.
use Rattle.std.specs.Prelude.{◌≡◌, List, [], ◌∷◌, ◌++◌, Bool, true, false, ◌&&◌, length, get_or, set, leb, eqb, ltb}
use Rattle.std.proofs.Math.Path.{refl, ap, ap₂}
use Rattle.std.proofs.Common.{sym, ◌∙◌, mul-le-mul_right, length-append, length-set, ext_get_or, get_or-set_same, get_or-set_other}
use Prim.Native.Nat.{ℕ, zero, suc, ◌+◌, ◌*◌, ◌≤◌, ◌<◌}
use native.Mathlib.Omega.{arith}
use Rattle.std.proofs.Math.ListN.{get_or-append}
use Rattle.std.proofs.Math.Seq.{get_or-append_seam}
use borrow.Author.Tests.{eq-eqb, ne_eqb, eqb-true, eqb-false, ltb-true, ltb-false}
use Rattle.node.specs.Bytes.{window, splice}
use Rattle.node.specs.laws.base.Seal.{window_splice_same, window_splice_before, window_splice_after}
use Rattle.node.specs.laws.base.Tests.{by_test, never}
use Rattle.node.specs.Records.{entries_of}
use Rattle.node.specs.Slot.{MemNode, head_at, node_of}
use Rattle.node.specs.declared.head.Head.{Head}
use Rattle.tree.specs.Workspace.{slot_bytes, nodes_from, nodes_of}
use Rattle.tree.specs.State.{no_node, with_entries}
use Rattle.tree.specs.internal.Bank.{node_in, live, number_holds, words_hold, Lies, Ready, Put}

-- ---- slots of a variable width

pub slots_below : (w a b : ℕ) → a < b → a * w + w ≤ b * w
slots_below w a b h = let p : suc a * w ≤ b * w = mul-le-mul_right w h in omega arith

-- ---- the records of a slot

-- a node's entries are its slot's live records
pub live_entries : (h : Head) (l : List ℕ) → (node_of h l).entries ≡ entries_of (live h).count l
unfolding node_of live entries_of
live_entries h l = by_test (eqb h.dead 1) (λ t. rw t) (λ t. rw t)

pub live_dead : (h : Head) → h.dead ≡ 1
    → record {
      level = h.level;
      count = 0;
      used = 0;
      placed = h.placed;
      block = h.block;
      named = h.named;
      id = h.id;
      dirty = h.dirty;
      dead = h.dead;
    } ≡ live h
unfolding live
live_dead h d = rw (eq-eqb h.dead 1 d)

pub live_same : (h : Head) → (h.dead ≡ 1 → ⊥) → h ≡ live h
unfolding live
live_same h d = rw (ne_eqb h.dead 1 d)

pub live_loaded : (heads : List ℕ) (n : ℕ) (h v : Head) → h ≡ head_at heads n → v ≡ live h → v ≡ live (head_at heads n)
live_loaded heads n h v e f = f ∙ ap live e

pub live_again : (h : Head) (l : List ℕ) → node_of (live h) l ≡ node_of h l
unfolding node_of live
live_again h l = by_test (eqb h.dead 1) (λ t. rw t) (λ t. rw t)

-- ---- a slot's words

pub live_words : (h : Head) → words_hold (live h) ≡ words_hold h
unfolding words_hold live
live_words h = refl

dirtied : (p n d x b i : Bool) → p && n && d && x && b && i ≡ true → p && n && true && x && b && i ≡ true
dirtied false n d x b i h = never h refl
dirtied true false d x b i h = never h refl
dirtied true true false x b i h = never h refl
dirtied true true true x b i h = h

-- the words of a slot that is dirty now
pub dirty_words : (h : Head) (count used : ℕ) → words_hold h ≡ true
    → words_hold (record {
      level = h.level;
      count = count;
      used = used;
      placed = h.placed;
      block = h.block;
      named = h.named;
      id = h.id;
      dirty = 1;
      dead = h.dead;
    }) ≡ true
unfolding words_hold
dirty_words h count used e =
    dirtied (leb h.placed 1) (leb h.named 1) (leb h.dirty 1) (leb h.dead 1) (number_holds h.placed h.block)
    (number_holds h.named h.id) e

-- the words of a slot with other records
pub same_words : (h : Head) (count used : ℕ) → words_hold h ≡ true
    → words_hold (record {
      level = h.level;
      count = count;
      used = used;
      placed = h.placed;
      block = h.block;
      named = h.named;
      id = h.id;
      dirty = h.dirty;
      dead = h.dead;
    }) ≡ true
unfolding words_hold
same_words h count used e = e

-- other bytes under the same words: other entries
pub live_node : (h : Head) (l d : List ℕ) → node_of h d ≡ with_entries (node_of h l) (entries_of (live h).count d)
unfolding node_of with_entries
live_node h l d = rw (← live_entries h d)

-- ---- nodes

module _ (size : ℕ) (heads bytes : List ℕ) where
  length_from : (m n : ℕ) → length (nodes_from size heads bytes m n) ≡ m
  unfolding nodes_from
  length_from zero n = refl
  length_from (suc m) n = ap suc (length_from m (suc n))

  pub length_nodes : (used : ℕ) → length (nodes_of size heads bytes used) ≡ used
  unfolding nodes_of
  length_nodes used = length_from used 0

  at_from : (m n k : ℕ) → k < m → get_or (nodes_from size heads bytes m n) k no_node ≡ node_in size heads bytes (n + k)
  unfolding nodes_from node_in
  at_from zero n k h = absurd (omega arith)
  at_from (suc m) n zero h = let z : n ≡ n + 0 = omega arith in ap (node_in size heads bytes) z
  at_from (suc m) n (suc k) h = let z : suc n + k ≡ n + suc k = omega arith in at_from m (suc n) k (omega arith) ∙ ap (node_in size heads bytes) z

  pub node_at_lem : (used n : ℕ) → n < used → get_or (nodes_of size heads bytes used) n no_node ≡ node_in size heads bytes n
  unfolding nodes_of
  node_at_lem used n h = let z : 0 + n ≡ n = omega arith in at_from used 0 n h ∙ ap (node_in size heads bytes) z

-- ---- a slot written

module _ (size slots : ℕ) (heads bytes heads' bytes' : List ℕ) (n : ℕ) (m : MemNode) (p : Put size slots heads bytes heads' bytes' n m) where
  kept : (k : ℕ) → k < slots → (k ≡ n → ⊥) → node_in size heads' bytes' k ≡ node_in size heads bytes k
  unfolding node_in
  kept k b d = ap₂ node_of (p.words k b d) (p.parts k b d)

  -- one in use
  pub put_set : (used : ℕ) → used ≤ slots → n < used → nodes_of size heads' bytes' used ≡ set (nodes_of size heads bytes used) n m
  put_set used w h =
      let l : length (nodes_of size heads bytes used) ≡ used = length_nodes size heads bytes used in
      let l' : length (nodes_of size heads' bytes' used) ≡ used = length_nodes size heads' bytes' used in
      let z : length (set (nodes_of size heads bytes used) n m) ≡ length (nodes_of size heads bytes used) = length-set
      (nodes_of size heads bytes used) n m in
      ext_get_or no_node (nodes_of size heads' bytes' used) (set (nodes_of size heads bytes used) n m) (omega arith) (λ k q.
      let u : k < used = omega arith in
      node_at_lem size heads' bytes' used k u
      ∙ by_test (eqb k n)
      (λ t. let e : k ≡ n = eqb-true k n t in rw e (p.node ∙ sym (get_or-set_same (nodes_of size heads bytes used) n m no_node (omega arith))))
      (λ t. let d : k ≡ n → ⊥ = eqb-false k n t in
      kept k (omega arith) d ∙ sym (node_at_lem size heads bytes used k u) ∙ sym (get_or-set_other (nodes_of size heads bytes used) n k m no_node d)))

  -- the next
  pub put_add : n < slots → nodes_of size heads' bytes' (suc n) ≡ nodes_of size heads bytes n ++ m ∷ []
  put_add w =
      let l : length (nodes_of size heads bytes n) ≡ n = length_nodes size heads bytes n in
      let l' : length (nodes_of size heads' bytes' (suc n)) ≡ suc n = length_nodes size heads' bytes' (suc n) in
      let z : length (nodes_of size heads bytes n ++ m ∷ []) ≡ length (nodes_of size heads bytes n) + 1 = length-append (nodes_of size heads bytes n)
      (m ∷ []) in
      ext_get_or no_node (nodes_of size heads' bytes' (suc n)) (nodes_of size heads bytes n ++ m ∷ []) (omega arith) (λ k q.
      let u : k < suc n = omega arith in
      node_at_lem size heads' bytes' (suc n) k u
      ∙ by_test (ltb k n)
      (λ t. let b : k < n = ltb-true k n t in let d : k ≡ n → ⊥ = λ e. omega arith in
      kept k (omega arith) d ∙ sym (node_at_lem size heads bytes n k b)
      ∙ sym (get_or-append (nodes_of size heads bytes n) (m ∷ []) no_node k (omega arith)))
      (λ t. let b : n ≤ k = ltb-false k n t in let e : k ≡ n = omega arith in let f : k ≡ length (nodes_of size heads bytes n) = omega arith in
      ap (node_in size heads' bytes') e ∙ p.node ∙ sym
      (ap (λ (j : ℕ). get_or (nodes_of size heads bytes n ++ m ∷ []) j no_node) f ∙ get_or-append_seam (nodes_of size heads bytes n) m [] no_node)))

  -- the bank is ready still
  lies_at : (used : ℕ) → used ≤ slots → ((k : ℕ) → k < used → (k ≡ n → ⊥) → Lies size (live (head_at heads k)) (slot_bytes size bytes k)) → (k : ℕ)
      → k < used → Lies size (live (head_at heads' k)) (slot_bytes size bytes' k)
  lies_at used w f k u =
      by_test (eqb k n)
      (λ t. let e : k ≡ n = eqb-true k n t in rw e p.lies)
      (λ t. let d : k ≡ n → ⊥ = eqb-false k n t in let b : k < slots = omega arith in rw (p.words k b d, p.parts k b d) (f k u d))

  pub put_ready : (used : ℕ) → Ready size slots used heads bytes → length heads' ≡ length heads → length bytes' ≡ length bytes
      → Ready size slots used heads' bytes'
  put_ready used r e f =
      record {
        least = r.least;
        most = r.most;
        many = r.many;
        words = e ∙ r.words;
        room = f ∙ r.room;
        within = r.within;
        lies = lies_at used r.within (λ k u d. r.lies k u);
      }

  pub add_ready : Ready size slots n heads bytes → n < slots → length heads' ≡ length heads → length bytes' ≡ length bytes
      → Ready size slots (suc n) heads' bytes'
  add_ready r h e f =
      record {
        least = r.least;
        most = r.most;
        many = r.many;
        words = e ∙ r.words;
        room = f ∙ r.room;
        within = h;
        lies = lies_at (suc n) h (λ k u d. r.lies k (omega arith));
      }

-- ---- the bytes of one slot replaced whole

module _ (size : ℕ) (bytes d : List ℕ) (n : ℕ) (e : length d ≡ 4 * size) (h : n * (4 * size) + 4 * size ≤ length bytes) where
  pub part_same : slot_bytes size (splice bytes (n * (4 * size)) d) n ≡ d
  unfolding slot_bytes
  part_same = ap (λ (k : ℕ). window (n * (4 * size)) k (splice bytes (n * (4 * size)) d)) (sym e) ∙ window_splice_same bytes (n * (4 * size)) d
      (omega arith)

  pub part_other : (k : ℕ) → (k ≡ n → ⊥) → slot_bytes size (splice bytes (n * (4 * size)) d) k ≡ slot_bytes size bytes k
  unfolding slot_bytes
  part_other k q =
      by_test (ltb k n)
      (λ t. let p : k * (4 * size) + 4 * size ≤ n * (4 * size) = slots_below (4 * size) k n (ltb-true k n t) in
      window_splice_before bytes (n * (4 * size)) d (k * (4 * size)) (4 * size) p (omega arith))
      (λ t. let m : n ≤ k = ltb-false k n t in let p : n * (4 * size) + 4 * size ≤ k * (4 * size) = slots_below (4 * size) n k (omega arith) in
      window_splice_after bytes (n * (4 * size)) d (k * (4 * size)) (4 * size) (omega arith) (omega arith))
