-- Laws of a slot's words: stored and loaded. Assumes nothing.
use Rattle.std.specs.Prelude.{◌≡◌, refl, List, [], ◌∷◌, Bool, true, false, cond, ℕ, zero, suc, ◌+◌, ◌*◌, ◌/◌, ◌≤◌, ◌<◌, length, get_or, take, drop, ltb, eqb, Option, option_to_list}
use Rattle.std.specs.Bool.{then_some}
use Rattle.std.specs.Simd.{first_chunks}
use Rattle.std.proofs.Common.{sym, ap, ◌∙◌, add-zero, arith, drop-drop, ltb-true, ltb-false}
use Rattle.seal.specs.Bytes.{window, splice}
use Rattle.seal.specs.laws.WindowLaws.{get_d_window, window_splice_same, window_splice_before, window_splice_after}
use Rattle.node.specs.laws.base.Tests.{by_test}
use Rattle.node.specs.Records.{entries_of}
use Rattle.node.specs.Slot.{marked, node_of, head_at, head_words}
use Rattle.node.specs.internal.SlotSteps.{read_head}
use Rattle.node.specs.declared.head.Head.{Head}
use Rattle.node.specs.declared.read.Node.{Node}

-- a number under its mark, as an `Option`
pub marked_is : (m x : ℕ) (o : Option ℕ) → o ≡ then_some (eqb m 1) x → option_to_list o ≡ marked m x
unfolding marked
marked_is m x o e = by_test (eqb m 1) (λ t. rw (e, t)) (λ t. rw (e, t))

-- nine words as a head
abbrev words_head : List ℕ → Head
words_head w =
    record {
      level = get_or w 0 0;
      count = get_or w 1 0;
      used = get_or w 2 0;
      placed = get_or w 3 0;
      block = get_or w 4 0;
      named = get_or w 5 0;
      id = get_or w 6 0;
      dirty = get_or w 7 0;
      dead = get_or w 8 0;
    }

head_window : (ws : List ℕ) (s : ℕ) → words_head (window (s * 9) 9 ws) ≡ head_at ws s
unfolding head_at
head_window ws s =
    let at : (k : ℕ) → k < 9 → get_or (window (s * 9) 9 ws) k 0 ≡ get_or ws (s * 9 + k) 0 = λ k h. get_d_window (s * 9) 9 ws k h in
    let z : get_or (window (s * 9) 9 ws) 0 0 ≡ get_or ws (s * 9) 0 = at 0 (omega arith) ∙ ap (λ (k : ℕ). get_or ws k 0) (add-zero (s * 9)) in
    rw (
      z,
      at 1 (omega arith),
      at 2 (omega arith),
      at 3 (omega arith),
      at 4 (omega arith),
      at 5 (omega arith),
      at 6 (omega arith),
      at 7 (omega arith),
      at 8 (omega arith),
    )

-- each nine words are a slot's
chunk_window : (ws : List ℕ) (k s : ℕ) → s < k → get_or (first_chunks 9 k ws) s [] ≡ window (s * 9) 9 ws
unfolding window
chunk_window ws zero s h = absurd (omega arith)
chunk_window ws (suc k) zero h = refl
chunk_window ws (suc k) (suc s) h =
    let q : 9 + s * 9 ≡ suc s * 9 = omega arith in
    chunk_window (drop 9 ws) k s (omega arith) ∙ ap (take 9) (drop-drop (s * 9) 9 ws ∙ ap (λ (j : ℕ). drop j ws) q)

pub head_chunk : (ws : List ℕ) (words : List (List ℕ)) (s : ℕ) → words ≡ first_chunks 9 (length ws / 9) ws → (s + 1) * 9 ≤ length ws
    → words_head (get_or words s []) ≡ head_at ws s
head_chunk ws words s e r =
    ap (λ (w : List (List ℕ)). words_head (get_or w s [])) e ∙ ap words_head (chunk_window ws (length ws / 9) s (omega arith)) ∙ head_window ws s

-- a slot's words are those that were stored
pub head_same : (ws : List ℕ) (s : ℕ) (h : Head) → (s + 1) * 9 ≤ length ws → head_at (splice ws (s * 9) (head_words h)) s ≡ h
unfolding head_words
head_same ws s h r =
    sym (head_window (splice ws (s * 9) (head_words h)) s) ∙ ap words_head (window_splice_same ws (s * 9) (head_words h) (omega arith))

head_before : (ws : List ℕ) (s t : ℕ) (h : Head) → (s + 1) * 9 ≤ length ws → t < s → head_at (splice ws (s * 9) (head_words h)) t ≡ head_at ws t
head_before ws s t h r q =
    sym (head_window (splice ws (s * 9) (head_words h)) t)
    ∙ ap words_head (window_splice_before ws (s * 9) (head_words h) (t * 9) 9 (omega arith) (omega arith)) ∙ head_window ws t

head_after : (ws : List ℕ) (s t : ℕ) (h : Head) → (s + 1) * 9 ≤ length ws → s < t → head_at (splice ws (s * 9) (head_words h)) t ≡ head_at ws t
unfolding head_words
head_after ws s t h r q =
    sym (head_window (splice ws (s * 9) (head_words h)) t)
    ∙ ap words_head (window_splice_after ws (s * 9) (head_words h) (t * 9) 9 (omega arith) (omega arith)) ∙ head_window ws t

-- another slot's words are as they were
pub head_other : (ws : List ℕ) (s t : ℕ) (h : Head) → (s + 1) * 9 ≤ length ws → (s ≡ t → ⊥)
    → head_at (splice ws (s * 9) (head_words h)) t ≡ head_at ws t
head_other ws s t h r q = by_test (ltb s t) (λ p. head_after ws s t h r (ltb-true s t p))
    (λ p. let m = ltb-false s t p in head_before ws s t h r (omega arith))

-- ---- the words of a node just read

-- a clean node with its block and, if it is named, its id
pub head_read_node : (v : Node) (used block : ℕ) (by_id : Bool) (l : List ℕ)
    → node_of (read_head v used block by_id) l
    ≡ record { level = v.level; entries = entries_of v.nkeys l; block = block ∷ []; id = cond by_id (v.oid ∷ []) []; dirty = false; dead = false }
unfolding node_of read_head marked
head_read_node v used block true l = refl
head_read_node v used block false l = refl
