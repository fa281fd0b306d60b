-- Laws of a call: marks cleared at its start, slots brought back when it refuses. Assumes nothing.
use Rattle.std.specs.Prelude.{◌≡◌, refl, true, false, ℕ, ◌+◌, ◌*◌, ◌≤◌, ◌<◌, length, replicate, Result, Ok, Err, is_err}
use Rattle.std.proofs.Math.Path.{sym, ap}
use Rattle.std.proofs.Common.{◌∙◌, arith, ext_get_or}
use mathlib.Core.List.{List}
use Rattle.std.proofs.Math.ListN.{get_or, get_or-replicate}
use Rattle.std.proofs.lemmas.List.{length-replicate}
use Rattle.node.specs.Bytes.{window, splice}
use Rattle.node.specs.laws.base.Seal.{length_splice, get_d_before, get_d_window, window_splice_same}
use Rattle.node.specs.laws.base.Tests.{never}
use Rattle.node.specs.Slot.{head_at, node_of}
use Rattle.tree.specs.State.{no_node}
use Rattle.tree.specs.Workspace.{slot_bytes, nodes_of, state_of}
use Rattle.tree.specs.internal.Bank.{node_in, Ready}
use Rattle.tree.specs.laws.slots.Bank.{length_nodes, node_at_lem}
use Rattle.tree.specs.Trusts.{Stays}
use Rattle.tree.specs.internal.Undo.{saved_at, origin_at, origin_in, Follows, Saved, Shadowed, Back, Undone}
use Rattle.tree.specs.laws.slots.Undo.{origin_live, saved_nodes}
use Rattle.node.specs.declared.refusal.Refusal.{Refusal}
use Rattle.tree.specs.declared.editor.Tree.{Tree}
use Rattle.tree.specs.declared.lent.Lent.{Lent}

pub saved_state : (size slots n : ℕ) (t : Tree) (h0 b0 h1 b1 : List ℕ) → Saved size slots t.used h0 b0 h1 b1 n → t.used ≤ slots
    → state_of size t h1 b1 ≡ state_of size t h0 b0
unfolding state_of
saved_state size slots n t h0 b0 h1 b1 p w = rw (saved_nodes size slots t.used n h0 b0 h1 b1 p w)

-- the same nodes, slot by slot
pub nodes_same : (size used : ℕ) (h b h' b' : List ℕ) → ((k : ℕ) → k < used → node_in size h' b' k ≡ node_in size h b k)
    → nodes_of size h' b' used ≡ nodes_of size h b used
nodes_same size used h b h' b' f =
    let x : length (nodes_of size h' b' used) ≡ used = length_nodes size h' b' used in
    let y : length (nodes_of size h b used) ≡ used = length_nodes size h b used in
    ext_get_or no_node (nodes_of size h' b' used) (nodes_of size h b used) (omega arith)
    (λ k q. let u : k < used = omega arith in node_at_lem size h' b' used k u ∙ f k u ∙ sym (node_at_lem size h b used k u))

module _ (size slots : ℕ) (t : Tree) (h0 b0 h1 : List ℕ) (r : Ready size slots t.used h0 b0)
    (e : h1 ≡ splice h0 (slots * 18) (replicate t.used 0)) where
  abbrev none : List ℕ
  none = replicate t.used 0

  long : length none ≡ t.used
  long = length-replicate t.used 0

  longs : length h1 ≡ length h0
  longs = ap length e ∙ length_splice h0 (slots * 18) none (omega (arith, long, r.words, r.within))

  word : (j : ℕ) → j < slots * 18 → get_or h1 j 0 ≡ get_or h0 j 0
  word j q = ap (λ (x : List ℕ). get_or x j 0) e ∙ get_d_before h0 (slots * 18) none j q (omega (arith, r.words))

  heads_same : (k : ℕ) → k < slots → head_at h1 k ≡ head_at h0 k
  unfolding head_at
  heads_same k q =
      rw (
        word (k * 9) (omega arith),
        word (k * 9 + 1) (omega arith),
        word (k * 9 + 2) (omega arith),
        word (k * 9 + 3) (omega arith),
        word (k * 9 + 4) (omega arith),
        word (k * 9 + 5) (omega arith),
        word (k * 9 + 6) (omega arith),
        word (k * 9 + 7) (omega arith),
        word (k * 9 + 8) (omega arith),
      )

  clean : (k : ℕ) → k < t.used → saved_at slots h1 k ≡ 0
  unfolding saved_at
  clean k q =
      let z : window (slots * 18) (length none) (splice h0 (slots * 18) none) ≡ none = window_splice_same h0 (slots * 18) none
      (omega (arith, r.words)) in
      ap (λ (x : List ℕ). get_or x (slots * 18 + k) 0) e
      ∙ sym (get_d_window (slots * 18) (length none) (splice h0 (slots * 18) none) k (omega (arith, long)))
      ∙ ap (λ (x : List ℕ). get_or x k 0) z ∙ get_or-replicate t.used k 0 0 q

  origin : (k : ℕ) → k < t.used → origin_at slots h1 k ≡ k
  origin k q = origin_live slots h1 k (clean k q)

  same_at : (k : ℕ) → k < t.used → node_in size h1 b0 k ≡ node_in size h0 b0 k
  unfolding node_in
  same_at k q = ap (λ x. node_of x (slot_bytes size b0 k)) (heads_same k (omega (arith, r.within)))

  pub call_ready : Ready size slots t.used h1 b0
  call_ready =
      record {
        least = r.least;
        most = r.most;
        many = r.many;
        words = longs ∙ r.words;
        room = r.room;
        within = r.within;
        lies = λ k q. rw (heads_same k (omega (arith, r.within))) (r.lies k q);
      }

  pub call_state : state_of size t h1 b0 ≡ state_of size t h0 b0
  unfolding state_of
  call_state = rw (nodes_same size t.used h0 b0 h1 b0 same_at)

  -- refused
  module _ (h2 b2 : List ℕ) (f : Follows size slots t.used h1 b0 h2 b2) where
    pub call_shadowed : length h2 ≡ length h1 → length b2 ≡ length b0 → Shadowed size slots t.used h2 b2
    call_shadowed l m =
        record {
          least = r.least;
          most = r.most;
          many = r.many;
          words = l ∙ longs ∙ r.words;
          room = m ∙ r.room;
          within = r.within;
          lies = λ k q. f.lies k q (rw (origin k q) (call_ready.lies k q));
        }

    module _ (h3 b3 : List ℕ) (g : Back size slots t.used t.used h2 b2 h3 b3) where
      pub back_ready : length h2 ≡ length h1 → length b2 ≡ length b0 → length h3 ≡ length h2 → length b3 ≡ length b2
          → Ready size slots t.used h3 b3
      back_ready l m l' m' =
          record {
            least = r.least;
            most = r.most;
            many = r.many;
            words = l' ∙ l ∙ longs ∙ r.words;
            room = m' ∙ m ∙ r.room;
            within = r.within;
            lies = g.lies;
          }

      pub back_state : state_of size t h3 b3 ≡ state_of size t h0 b0
      unfolding state_of origin_in
      back_state = rw (nodes_same size t.used h0 b0 h3 b3 (λ k q. g.node k q ∙ f.node k q ∙ ap (node_in size h1 b0) (origin k q) ∙ same_at k q))

-- ---- a call undone where it is refused

module _ (l : Lent) (t : Tree) (h0 b0 h1 : List ℕ) (r : Ready l.size l.slots t.used h0 b0)
    (e : h1 ≡ splice h0 (l.slots * 18) (replicate t.used 0)) where
  pub call_stays : Stays l t h0 b0 h1 b0
  call_stays = (call_state l.size l.slots t h0 b0 h1 r e, call_ready l.size l.slots t h0 b0 h1 r e)

  module _ (h2 b2 : List ℕ) (f : Follows l.size l.slots t.used h1 b0 h2 b2) (h3 b3 : List ℕ)
      (g : Back l.size l.slots t.used t.used h2 b2 h3 b3) (p : length h2 ≡ length h1) (q : length b2 ≡ length b0)
      (p' : length h3 ≡ length h2) (q' : length b3 ≡ length b2) where
    back_stays : Stays l t h0 b0 h3 b3
    back_stays = (
      back_state l.size l.slots t h0 b0 h1 r e h2 b2 f h3 b3 g,
      back_ready l.size l.slots t h0 b0 h1 r e h2 b2 f h3 b3 g p q p' q',
    )

    pub undone_refused : {T : Type 0} (a : Result T Refusal) → true ≡ is_err a → Undone l t h0 b0 h2 b2 h3 b3 a
    undone_refused (Err x) z = back_stays
    undone_refused (Ok x) z = never refl z

pub undone_kept : {T : Type 0} (l : Lent) (t : Tree) (h0 b0 h2 b2 : List ℕ) (a : Result T Refusal) → false ≡ is_err a
    → Undone l t h0 b0 h2 b2 h2 b2 a
undone_kept l t h0 b0 h2 b2 (Err x) z = never z refl
undone_kept l t h0 b0 h2 b2 (Ok x) z = (refl, refl)

pub ruleset undone_laws = (call_stays, call_shadowed, undone_refused, undone_kept)
