-- Laws of a root added above another: the next slot without entries takes its id and block. Assumes nothing.
use Rattle.std.specs.Prelude.{◌≡◌, Bool, true, false, ◌&&◌, ℕ, suc, ◌+◌, ◌*◌, ◌^◌, ◌≤◌, ◌<◌, leb}
use Rattle.std.proofs.Math.Path.{refl, ap}
use Rattle.std.proofs.Common.{sym, ◌∙◌, arith}
use mathlib.Core.List.{List, [], ◌∷◌, ◌++◌}
use Rattle.std.proofs.Math.Numerals.{add-one}
use Rattle.std.proofs.Math.ListN.{length, get_or, set}
use Rattle.std.proofs.Math.Seq.{set-append_left}
use Rattle.node.specs.Bytes.{splice}
use Rattle.node.specs.laws.base.Seal.{length_splice}
use Rattle.node.specs.laws.base.Tests.{never}
use Rattle.node.specs.Records.{records_length, entries_of}
use Rattle.node.specs.Slot.{MemNode, head_at, head_words, node_of, marked}
use Rattle.node.specs.laws.slot.Head.{head_same, head_other}
use Rattle.node.specs.declared.head.Head.{Head}
use Rattle.tree.specs.Workspace.{slot_bytes, nodes_of, state_of}
use Rattle.tree.specs.State.{State, node_at, with_nodes, with_root, put_node, add_node, with_place, made}
use Rattle.tree.specs.internal.Bank.{node_in, live, Lies, Ready, Wrote, number_holds, words_hold}
use Rattle.tree.specs.internal.Undo.{saved_at, Follows, Saved}
use Rattle.tree.specs.internal.Cutting.{root_added}
use Rattle.tree.specs.laws.slots.Bank.{live_words, length_nodes, put_set, put_add, put_ready, add_ready}
use Rattle.tree.specs.laws.slots.OneSlot.{next_words, word_after}
use Rattle.tree.specs.laws.slots.Undo.{put_of, wrote_mark, follows_on, follows_next, follows_marked, saved_ready}
use Rattle.tree.specs.laws.slots.CallBounds.{saved_state}
use Rattle.tree.specs.laws.slots.Tree.{node_in_lem}
use Rattle.tree.specs.laws.load.Fetch.{level_is}
use Rattle.tree.specs.declared.editor.Tree.{Tree}

-- ---- words

-- the words of the new root
abbrev pub top_of : ℕ → Head → Head
top_of level h =
    record {
      level = level;
      count = 0;
      used = 0;
      placed = h.placed;
      block = h.block;
      named = h.named;
      id = h.id;
      dirty = 1;
      dead = 0;
    }

-- the words of the old one, without id and block
abbrev pub bare_of : Head → Head
bare_of h =
    record {
      level = h.level;
      count = h.count;
      used = h.used;
      placed = 0;
      block = 0;
      named = 0;
      id = 0;
      dirty = h.dirty;
      dead = h.dead;
    }

topped : (p n d x b i : Bool) → p && n && d && x && b && i ≡ true → p && n && true && true && b && i ≡ true
topped false n d x b i h = never h refl
topped true false d x b i h = never h refl
topped true true false x b i h = never h refl
topped true true true false b i h = never h refl
topped true true true true b i h = h

bared : (p n d x b i : Bool) → p && n && d && x && b && i ≡ true → true && true && d && x && true && true ≡ true
bared false n d x b i h = never h refl
bared true false d x b i h = never h refl
bared true true false x b i h = never h refl
bared true true true false b i h = never h refl
bared true true true true b i h = refl

module _ (h : Head) (e : words_hold h ≡ true) where
  top_words : (level : ℕ) → words_hold (top_of level h) ≡ true
  unfolding words_hold
  top_words level =
      topped (leb h.placed 1) (leb h.named 1) (leb h.dirty 1) (leb h.dead 1) (number_holds h.placed h.block)
      (number_holds h.named h.id) e

  bare_words : words_hold (bare_of h) ≡ true
  unfolding words_hold number_holds
  bare_words =
      bared (leb h.placed 1) (leb h.named 1) (leb h.dirty 1) (leb h.dead 1) (number_holds h.placed h.block)
      (number_holds h.named h.id) e

-- ---- both slots written

module _ (size slots n : ℕ) (t t' : Tree) (h : Head) (h1 b1 h2 h3 : List ℕ)
    (r : Ready size slots t.used h1 b1) (hs : t.used < slots) (hn : n < t.used) (eh : h ≡ head_at h1 n)
    (e2 : h2 ≡ splice h1 (t.used * 9) (head_words (top_of (h.level + 1) h)))
    (e3 : h3 ≡ splice h2 (n * 9) (head_words (bare_of h)))
    (et : t' ≡ record {
      root = t.used;
      used = t.used + 1;
      info = t.info;
      by_id = t.by_id;
      subtype = t.subtype;
      order = t.order;
      xid = t.xid;
    }) where
  abbrev top : Head
  top = top_of (h.level + 1) h

  abbrev bare : Head
  bare = bare_of h

  abbrev old : MemNode
  old = node_of h (slot_bytes size b1 n)

  abbrev top_node : MemNode
  top_node = with_place (made (suc h.level) []) (marked h.placed h.block) (marked h.named h.id)

  held : Lies size (live h) (slot_bytes size b1 n)
  held = rw eh (r.lies n hn)

  old_words : words_hold h ≡ true
  old_words = sym (live_words h) ∙ held.holds

  words1 : t.used * 9 + 9 ≤ length h1
  words1 = next_words size slots t.used h1 b1 r hs

  head2 : head_at h2 t.used ≡ top
  head2 = ap (λ (x : List ℕ). head_at x t.used) e2 ∙ head_same h1 t.used top (omega (arith, words1))

  put_top : Wrote size h1 b1 h2 b1 t.used top_node
  unfolding node_in node_of live made marked with_place records_length entries_of
  put_top =
      record {
        node = rw (head2, add-one);
        lies = record {
          room = rw head2 (omega arith);
          used = rw head2 refl;
          holds = rw head2 (live_words top ∙ top_words h old_words (h.level + 1));
        };
        words = λ j e. ap (λ (x : List ℕ). head_at x j) e2 ∙ head_other h1 t.used j top (omega (arith, words1)) (λ z. e (sym z));
        parts = λ j e. refl;
        after = λ j e. ap (λ (x : List ℕ). get_or x j 0) e2 ∙ word_after h1 t.used top j e words1;
      }

  words2 : n * 9 + 9 ≤ length h2
  unfolding head_words
  words2 = rw e2 (omega (arith, length_splice h1 (t.used * 9) (head_words top) (omega (arith, words1)), words1))

  head3 : head_at h3 n ≡ bare
  head3 = ap (λ (x : List ℕ). head_at x n) e3 ∙ head_same h2 n bare (omega (arith, words2))

  bare_lies : Lies size (live bare) (slot_bytes size b1 n)
  unfolding live
  bare_lies = record { room = held.room; used = held.used; holds = live_words bare ∙ bare_words h old_words }

  bare_node : node_of bare (slot_bytes size b1 n) ≡ with_place old [] []
  unfolding node_of marked with_place
  bare_node = refl

  put_bare : Wrote size h2 b1 h3 b1 n (with_place old [] [])
  unfolding node_in
  put_bare =
      record {
        node = rw head3 bare_node;
        lies = rw head3 bare_lies;
        words = λ j e. ap (λ (x : List ℕ). head_at x j) e3 ∙ head_other h2 n j bare (omega (arith, words2)) (λ z. e (sym z));
        parts = λ j e. refl;
        after = λ j e. ap (λ (x : List ℕ). get_or x j 0) e3 ∙ word_after h2 n bare j e words2;
      }

  old_node : node_at (state_of size t h1 b1) n ≡ node_of h (slot_bytes size b1 n)
  unfolding node_in
  old_node = node_in_lem size t h1 b1 n hn ∙ ap (λ (x : Head). node_of x (slot_bytes size b1 n)) (sym eh)

  added_state : state_of size t' h3 b1 ≡ root_added (state_of size t h1 b1) n
  unfolding state_of root_added with_root add_node put_node with_nodes node_of
  added_state =
      let u : length (nodes_of size h1 b1 t.used) ≡ t.used = length_nodes size h1 b1 t.used in
      let a : nodes_of size h3 b1 (suc t.used) ≡ set (nodes_of size h1 b1 t.used) n (with_place old [] []) ++ top_node ∷ [] =
      put_set size slots h2 b1 h3 b1 n (with_place old [] []) (put_of size slots h2 b1 h3 b1 n (with_place old [] []) put_bare) (suc t.used)
      (omega arith) (omega arith)
      ∙ ap (λ (z : List MemNode). set z n (with_place old [] [])) (put_add size slots h1 b1 h2 b1 t.used top_node
      (put_of size slots h1 b1 h2 b1 t.used top_node put_top) hs)
      ∙ set-append_left (nodes_of size h1 b1 t.used) (top_node ∷ []) n (with_place old [] []) (omega arith) in
      rw (et, add-one, a, old_node, u)

  added_ready : length h3 ≡ length h1 → Ready size slots t'.used h3 b1
  unfolding head_words
  added_ready el =
      let z : length h2 ≡ length h1 = ap length e2 ∙ length_splice h1 (t.used * 9) (head_words top) (omega (arith, words1)) in
      let a : Ready size slots (suc t.used) h2 b1 = add_ready size slots h1 b1 h2 b1 t.used top_node
      (put_of size slots h1 b1 h2 b1 t.used top_node put_top) r hs z refl in
      rw (et, add-one) (put_ready size slots h2 b1 h3 b1 n (with_place old [] []) (put_of size slots h2 b1 h3 b1 n (with_place old [] []) put_bare)
      (suc t.used) a (omega arith) refl)

  added_follows : (saved_at slots h1 n ≡ 0 → ⊥) → Follows size slots t.used h1 b1 h3 b1
  added_follows q =
      let z : saved_at slots h2 n ≡ saved_at slots h1 n = wrote_mark size slots h1 b1 h2 b1 t.used top_node put_top n hs in
      follows_on size slots t.used t.used h1 b1 h2 b1 h3 b1
      (follows_next size slots t.used h1 b1 h2 b1 top_node put_top hs)
      (follows_marked size slots t.used h2 b1 h3 b1 n (with_place old [] []) put_bare (λ y. q (sym z ∙ y)) (omega arith) r.within) (omega arith)

-- ---- the old root saved first

module _ (size slots n : ℕ) (t : Tree) (h : Head) (h0 b0 h1 b1 : List ℕ) (r : Ready size slots t.used h0 b0) (hn : n < t.used)
    (s : Saved size slots t.used h0 b0 h1 b1 n) (el : length h1 ≡ length h0) (eb : length b1 ≡ length b0) (eh : h ≡ head_at h1 n) where
  again : Ready size slots t.used h1 b1
  again = saved_ready size slots t.used n h0 b0 h1 b1 s r el eb

  same : state_of size t h1 b1 ≡ state_of size t h0 b0
  same = saved_state size slots n t h0 b0 h1 b1 s r.within

  -- the level above is a number
  pub root_above : (node_at (state_of size t h0 b0) n).level < 32 → h.level + 1 < 2 ^ 64
  root_above q =
      let z : h.level ≡ (node_at (state_of size t h1 b1) n).level = level_is size t h1 b1 n hn h eh in
      let y : (node_at (state_of size t h1 b1) n).level ≡ (node_at (state_of size t h0 b0) n).level = ap (λ (x : State). (node_at x n).level) same in
      omega arith

  module _ (hs : t.used < slots) (t' : Tree) (h2 h3 : List ℕ)
      (e2 : h2 ≡ splice h1 (t.used * 9) (head_words (top_of (h.level + 1) h)))
      (e3 : h3 ≡ splice h2 (n * 9) (head_words (bare_of h)))
      (et : t' ≡ record {
        root = t.used;
        used = t.used + 1;
        info = t.info;
        by_id = t.by_id;
        subtype = t.subtype;
        order = t.order;
        xid = t.xid;
      }) where
    pub root_state : state_of size t' h3 b1 ≡ root_added (state_of size t h0 b0) n
    root_state = added_state size slots n t t' h h1 b1 h2 h3 again hs hn eh e2 e3 et ∙ ap (λ (x : State). root_added x n) same

    pub root_ready : length h3 ≡ length h1 → Ready size slots t'.used h3 b1
    root_ready = added_ready size slots n t t' h h1 b1 h2 h3 again hs hn eh e2 e3 et

    pub root_follows : Follows size slots t.used h0 b0 h3 b1
    root_follows =
        follows_on size slots t.used t.used h0 b0 h1 b1 h3 b1 s.follows
        (added_follows size slots n t t' h h1 b1 h2 h3 again hs hn eh e2 e3 et s.mark) (omega arith)
