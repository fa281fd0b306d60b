-- Laws of writers of one slot's words: a slot dead, a root leveled, the root's place handed down. Assumes nothing.
use Rattle.std.specs.Prelude.{◌≡◌, refl, Bool, true, false, ◌&&◌, ℕ, suc, ◌+◌, ◌-◌, ◌*◌, ◌≤◌, ◌<◌, length, get_or, leb, eqb}
use Rattle.std.proofs.Math.Path.{sym, ap}
use Rattle.std.proofs.Common.{◌∙◌, arith}
use mathlib.Core.List.{List, []}
use Rattle.std.proofs.Math.ListN.{set}
use Rattle.node.specs.Bytes.{splice}
use Rattle.node.specs.laws.base.Tests.{never}
use Rattle.node.specs.Entry.{Entry}
use Rattle.node.specs.Records.{records_length}
use Rattle.node.specs.Slot.{MemNode, head_at, head_words, node_of}
use Rattle.node.specs.laws.slot.Head.{head_same, head_other}
use Rattle.node.specs.declared.head.Head.{Head}
use Rattle.node.specs.declared.info.BTreeInfo.{BTreeInfo}
use Rattle.tree.specs.Workspace.{slot_bytes, nodes_of, state_of}
use Rattle.tree.specs.State.{State, node_at, put_node, with_nodes, with_root, with_info, with_counts, with_place, with_level, changed, marked_dirty, marked_dead}
use Rattle.tree.specs.Remove.{leveled_root, handed_down}
use Rattle.tree.specs.internal.Bank.{node_in, live, number_holds, words_hold, Lies, Ready, Wrote, Put}
use Rattle.tree.specs.internal.Undo.{Saved, Follows}
use Rattle.tree.specs.internal.Index.{Rewritten}
use Rattle.tree.specs.internal.Removing.{dead_put, Handed}
use Rattle.tree.specs.laws.slots.Bank.{live_words, put_set, put_ready}
use Rattle.tree.specs.laws.slots.Undo.{follows_same, follows_on, saved_ready, saved_put, saved_follows}
use Rattle.tree.specs.laws.slots.OneSlot.{word_after}
use Rattle.tree.specs.laws.slots.Tree.{node_in_lem}
use Rattle.tree.specs.laws.trust.Loads.{by_list}
use Rattle.tree.specs.declared.editor.Tree.{Tree}

-- ---- a slot saved, then its words written

words_wrote : (size slots used n : ℕ) (heads heads' bytes : List ℕ) (d : Head) → Ready size slots used heads bytes → n < used
    → Lies size (live d) (slot_bytes size bytes n) → heads' ≡ splice heads (n * 9) (head_words d)
    → Wrote size heads bytes heads' bytes n (node_of d (slot_bytes size bytes n))
unfolding node_in
words_wrote size slots used n heads heads' bytes d r hn l e =
    let w : n * 9 + 9 ≤ length heads = omega (arith, r.words, r.within) in
    let s : head_at heads' n ≡ d = ap (λ (x : List ℕ). head_at x n) e ∙ head_same heads n d (omega arith) in
    record {
      node = rw s;
      lies = rw s l;
      words = λ j q. ap (λ (x : List ℕ). head_at x j) e ∙ head_other heads n j d (omega arith) (λ z. q (sym z));
      parts = λ j q. refl;
      after = λ j q. ap (λ (x : List ℕ). get_or x j 0) e ∙ word_after heads n d j q w;
    }

module _ (size slots used n : ℕ) (h0 b0 h1 b1 h2 : List ℕ) (d : Head) (r : Ready size slots used h0 b0) (hn : n < used)
    (l : Lies size (live d) (slot_bytes size b0 n)) (s : Saved size slots used h0 b0 h1 b1 n) (eh : length h1 ≡ length h0)
    (eb : length b1 ≡ length b0)
    (e : h2 ≡ splice h1 (n * 9) (head_words d)) where
  below : n < slots
  below = omega (arith, r.within)

  wrote : Wrote size h1 b1 h2 b1 n (node_of d (slot_bytes size b1 n))
  wrote = words_wrote size slots used n h1 h2 b1 d (saved_ready size slots used n h0 b0 h1 b1 s r eh eb) hn (rw (s.parts n below) l) e

  pub words_put : Put size slots h0 b0 h2 b1 n (node_of d (slot_bytes size b0 n))
  words_put = rw (← s.parts n below) (saved_put size slots used n h0 b0 h1 b1 s h2 b1 (node_of d (slot_bytes size b1 n)) wrote)

  pub words_follows : Follows size slots used h0 b0 h2 b1
  words_follows = saved_follows size slots used n h0 b0 h1 b1 s h2 b1 (node_of d (slot_bytes size b1 n)) wrote hn r.within

-- the slots are another state then
module _ (size slots n : ℕ) (t : Tree) (h0 b0 h1 b1 : List ℕ) (r : Ready size slots t.used h0 b0) (hn : n < t.used)
    (eh : length h1 ≡ length h0) (eb : length b1 ≡ length b0) (m : MemNode) (p : Put size slots h0 b0 h1 b1 n m) where
  pub put_state : state_of size t h1 b1 ≡ put_node (state_of size t h0 b0) n m
  unfolding state_of put_node with_nodes
  put_state =
      let x : nodes_of size h1 b1 t.used ≡ set (nodes_of size h0 b0 t.used) n m = put_set size slots h0 b0 h1 b1 n m p t.used r.within hn in
      rw x

  pub put_rewritten : Follows size slots t.used h0 b0 h1 b1 → Rewritten size slots t h0 b0 h1 b1 (put_node (state_of size t h0 b0) n m)
  put_rewritten f = record { state = put_state; ready = put_ready size slots h0 b0 h1 b1 n m p t.used r eh eb; follows = f }

-- ---- a slot dead

abbrev dying : Head → Head
dying h =
    record {
      level = h.level;
      count = 0;
      used = 0;
      placed = h.placed;
      block = h.block;
      named = h.named;
      id = h.id;
      dirty = h.dirty;
      dead = 1;
    }

-- what words that hold say, one by one
record Words (h : Head) : Type 0 where
  placed : leb h.placed 1 ≡ true
  named : leb h.named 1 ≡ true
  dirty : leb h.dirty 1 ≡ true
  dead : leb h.dead 1 ≡ true
  block : number_holds h.placed h.block ≡ true
  id : number_holds h.named h.id ≡ true

six : {C : Type 0} (p n d x b i : Bool) → p && n && d && x && b && i ≡ true
    → (p ≡ true → n ≡ true → d ≡ true → x ≡ true → b ≡ true → i ≡ true → C) → C
six false n d x b i h f = never h refl
six true false d x b i h f = never h refl
six true true false x b i h f = never h refl
six true true true false b i h f = never h refl
six true true true true false i h f = never h refl
six true true true true true false h f = never h refl
six true true true true true true h f = f refl refl refl refl refl refl

words_of : (h : Head) → words_hold h ≡ true → Words h
unfolding words_hold
words_of h e =
    six (leb h.placed 1) (leb h.named 1) (leb h.dirty 1) (leb h.dead 1) (number_holds h.placed h.block)
    (number_holds h.named h.id) e (λ p n d x b i. record { placed = p; named = n; dirty = d; dead = x; block = b; id = i })

of_words : (h : Head) → Words h → words_hold h ≡ true
unfolding words_hold
of_words h w = rw (w.placed, w.named, w.dirty, w.dead, w.block, w.id)

dying_words : (h : Head) → words_hold h ≡ true → words_hold (dying h) ≡ true
dying_words h e =
    let w = words_of h e in
    of_words (dying h) (record { placed = w.placed; named = w.named; dirty = w.dirty; dead = refl; block = w.block; id = w.id })

-- a dead slot's records lie wherever
dead_lies : (size : ℕ) (d : Head) (l : List ℕ) → d.dead ≡ 1 → words_hold d ≡ true → Lies size (live d) l
unfolding live records_length
dead_lies size d l e w =
    let z : eqb d.dead 1 ≡ true = rw e in
    record { room = rw z (omega arith); used = rw z; holds = live_words d ∙ w }

module _ (size slots n : ℕ) (t : Tree) (h0 b0 : List ℕ) (r : Ready size slots t.used h0 b0) (hn : n < t.used) (h : Head) (e : h
    ≡ head_at h0 n) where
  holds : words_hold h ≡ true
  holds = rw e (sym (live_words (head_at h0 n)) ∙ (r.lies n hn).holds)

  pub dying_lies : Lies size (live (dying h)) (slot_bytes size b0 n)
  dying_lies = dead_lies size (dying h) (slot_bytes size b0 n) refl (dying_words h holds)

  pub died : (h1 b1 : List ℕ) → length h1 ≡ length h0 → length b1 ≡ length b0
      → Put size slots h0 b0 h1 b1 n (node_of (dying h) (slot_bytes size b0 n))
      → Follows size slots t.used h0 b0 h1 b1 → Rewritten size slots t h0 b0 h1 b1 (dead_put (state_of size t h0 b0) n)
  unfolding node_of node_in marked_dead
  died h1 b1 eh eb p f =
      let q : node_at (state_of size t h0 b0) n ≡ node_in size h0 b0 n = node_in_lem size t h0 b0 n hn in
      rw (q, ← e) (put_rewritten size slots n t h0 b0 h1 b1 r hn eh eb _ p f)

-- ---- an emptied root

abbrev leveled_words : Head → Head
leveled_words h =
    record {
      level = 0;
      count = h.count;
      used = h.used;
      placed = h.placed;
      block = h.block;
      named = h.named;
      id = h.id;
      dirty = h.dirty;
      dead = h.dead;
    }

some_entries : {A : Type 0} (es : List A) (count : ℕ) → count ≡ length es → (count ≡ 0 → ⊥) → es ≡ [] → ⊥
some_entries es count e d q = d (e ∙ ap length q)

no_entries : {A : Type 0} (es : List A) (count : ℕ) → count ≡ length es → count ≡ 0 → es ≡ []
no_entries es count e z = by_list es (λ q. q) (λ x xs q. let y : length es ≡ suc (length xs) = ap length q in absurd (omega arith))

module _ (size slots : ℕ) (t : Tree) (h0 b0 : List ℕ) (r : Ready size slots t.used h0 b0) (count : ℕ)
    (ec : count ≡ length (node_at (state_of size t h0 b0) t.root).entries) where
  pub level_kept : (count ≡ 0 → ⊥) → Rewritten size slots t h0 b0 h0 b0 (leveled_root (state_of size t h0 b0))
  unfolding leveled_root state_of
  level_kept d =
      let s : State = state_of size t h0 b0 in
      record {
        state = by_list (node_at s t.root).entries (λ q. absurd (some_entries (node_at s t.root).entries count ec d q)) (λ x xs q. rw q);
        ready = r;
        follows = follows_same size slots t.used h0 b0;
      }

  module _ (hn : t.root < t.used) (h : Head) (e : h ≡ head_at h0 t.root) where
    pub leveling_lies : Lies size (live (leveled_words h)) (slot_bytes size b0 t.root)
    unfolding live words_hold
    leveling_lies = let l : Lies size (live h) (slot_bytes size b0 t.root) = rw e (r.lies t.root hn) in record {
      room = l.room;
      used = l.used;
      holds = l.holds;
    }

    pub level_done : (h1 b1 : List ℕ) → count ≡ 0 → length h1 ≡ length h0 → length b1 ≡ length b0
        → Put size slots h0 b0 h1 b1 t.root (node_of (leveled_words h) (slot_bytes size b0 t.root))
        → Follows size slots t.used h0 b0 h1 b1 → Rewritten size slots t h0 b0 h1 b1 (leveled_root (state_of size t h0 b0))
    unfolding state_of
    level_done h1 b1 z eh eb p f =
        let s : State = state_of size t h0 b0 in
        let q : node_at (state_of size t h0 b0) t.root ≡ node_in size h0 b0 t.root = node_in_lem size t h0 b0 t.root hn in
        let n : (node_at s t.root).entries ≡ [] = no_entries (node_at s t.root).entries count ec z in
        let k = put_rewritten size slots t.root t h0 b0 h1 b1 r hn eh eb _ p f in
        record { state = k.state ∙ sym (leveled s n ∙ ap (λ (m : MemNode). put_node s t.root m) (node q)); ready = k.ready; follows = k.follows }
      where
        leveled : (s : State) → (node_at s s.root).entries ≡ [] → leveled_root s ≡ put_node s s.root (with_level (node_at s s.root) 0)
        leveled s n =
            let m : MemNode = node_at s s.root in
            unfold leveled_root in rw n (ap (λ (es : List Entry). put_node s s.root (with_level (record {
              level = m.level;
              entries = es;
              block = m.block;
              id = m.id;
              dirty = m.dirty;
              dead = m.dead;
            }) 0)) n)

        node : node_at (state_of size t h0 b0) t.root ≡ node_in size h0 b0 t.root
            → with_level (node_at (state_of size t h0 b0) t.root) 0 ≡ node_of (leveled_words h) (slot_bytes size b0 t.root)
        node q = unfold with_level node_in node_of in rw (q, e)

-- ---- the root's place handed down

abbrev old_root : Head → Head → Head
old_root old new =
    record {
      level = old.level;
      count = 0;
      used = 0;
      placed = old.placed;
      block = old.block;
      named = new.named;
      id = new.id;
      dirty = old.dirty;
      dead = 1;
    }

abbrev new_root : Head → Head → Head
new_root old new =
    record {
      level = new.level;
      count = new.count;
      used = new.used;
      placed = new.placed;
      block = new.block;
      named = old.named;
      id = old.id;
      dirty = 1;
      dead = new.dead;
    }

pub renumbered : (size c : ℕ) (t : Tree) (h b : List ℕ) (i : BTreeInfo)
    → state_of size (record { root = c; used = t.used; info = i; by_id = t.by_id; subtype = t.subtype; order = t.order; xid = t.xid }) h b
    ≡ with_info (with_root (state_of size t h b) c) i
unfolding state_of with_info with_root
renumbered size c t h b i = refl

module _ (size slots c : ℕ) (t : Tree) (h0 b0 : List ℕ) (r : Ready size slots t.used h0 b0) (hr : t.root < t.used) (hc : c < t.used)
    (old new : Head) (eo : old ≡ head_at h0 t.root) (en : new ≡ head_at h0 c) where
  old_words : Words old
  old_words = words_of old (rw eo (sym (live_words (head_at h0 t.root)) ∙ (r.lies t.root hr).holds))

  new_words : Words new
  new_words = words_of new (rw en (sym (live_words (head_at h0 c)) ∙ (r.lies c hc).holds))

  pub old_lies : Lies size (live (old_root old new)) (slot_bytes size b0 t.root)
  old_lies =
      dead_lies size (old_root old new) (slot_bytes size b0 t.root) refl
      (of_words (old_root old new) (record {
        placed = old_words.placed;
        named = new_words.named;
        dirty = old_words.dirty;
        dead = refl;
        block = old_words.block;
        id = new_words.id;
      }))

  module _ (h1 b1 : List ℕ) (eh : length h1 ≡ length h0) (eb : length b1 ≡ length b0) (apart : c ≡ t.root → ⊥)
      (p : Put size slots h0 b0 h1 b1 t.root (node_of (old_root old new) (slot_bytes size b0 t.root))) where
    in_slots : c < slots
    in_slots = omega (arith, r.within)

    pub old_ready : Ready size slots t.used h1 b1
    old_ready = put_ready size slots h0 b0 h1 b1 t.root _ p t.used r eh eb

    pub new_lies : Lies size (live (new_root old new)) (slot_bytes size b1 c)
    unfolding live
    new_lies =
        let q : slot_bytes size b1 c ≡ slot_bytes size b0 c = p.parts c in_slots apart in
        let l : Lies size (live new) (slot_bytes size b0 c) = rw en (r.lies c hc) in
        rw q (record {
          room = l.room;
          used = l.used;
          holds = live_words (new_root old new) ∙ of_words (new_root old new) (record {
            placed = new_words.placed;
            named = old_words.named;
            dirty = refl;
            dead = new_words.dead;
            block = new_words.block;
            id = old_words.id;
          });
        })

    module _ (h2 b2 : List ℕ) (eh' : length h2 ≡ length h1) (eb' : length b2 ≡ length b1) (f : Follows size slots t.used h0 b0 h1 b1)
        (p' : Put size slots h1 b1 h2 b2 c (node_of (new_root old new) (slot_bytes size b1 c)))
        (g : Follows size slots t.used h1 b1 h2 b2) where
      old_node : node_of (old_root old new) (slot_bytes size b0 t.root)
          ≡ marked_dead (with_place (node_at (state_of size t h0 b0) t.root) (node_at (state_of size t h0 b0) t.root).block (node_at
          (state_of size t h0 b0) c).id)
      unfolding node_of marked_dead with_place node_in
      old_node = rw (node_in_lem size t h0 b0 t.root hr, node_in_lem size t h0 b0 c hc, eo, en)

      new_node : node_of (new_root old new) (slot_bytes size b1 c)
          ≡ marked_dirty (with_place (node_at (state_of size t h0 b0) c) (node_at (state_of size t h0 b0) c).block (node_at (state_of size t h0 b0)
          t.root).id)
      unfolding node_of marked_dirty changed with_place node_in
      new_node = rw (p.parts c in_slots apart, node_in_lem size t h0 b0 t.root hr, node_in_lem size t h0 b0 c hc, eo, en)

      both : state_of size t h2 b2 ≡ put_node (put_node (state_of size t h0 b0) t.root (node_of (old_root old new) (slot_bytes size b0 t.root))) c
          (node_of (new_root old new) (slot_bytes size b1 c))
      both =
          put_state size slots c t h1 b1 h2 b2 old_ready hc eh' eb' _ p'
          ∙ ap (λ (s : State). put_node s c (node_of (new_root old new) (slot_bytes size b1 c))) (put_state size slots
          t.root t h0 b0 h1 b1 r hr eh eb _ p)

      handed_state : (i : BTreeInfo) → i ≡ with_counts t.info t.info.key_count (t.info.node_count - 1)
          → with_info (with_root (state_of size t h2 b2) c) i ≡ handed_down (state_of size t h0 b0) c
      unfolding handed_down
      handed_state i ei = rw (both, old_node, new_node, ei) (unfold state_of in refl)

      pub handed_done : (u : Tree) (i : BTreeInfo) → i ≡ with_counts t.info t.info.key_count (t.info.node_count - 1)
          → u ≡ record { root = c; used = t.used; info = i; by_id = t.by_id; subtype = t.subtype; order = t.order; xid = t.xid }
          → Handed size slots t h0 b0 h2 b2 c u
      handed_done u i ei eu =
          rw eu (record {
            state = renumbered size c t h2 b2 i ∙ handed_state i ei;
            ready = put_ready size slots h1 b1 h2 b2 c _ p' t.used old_ready eh' eb';
            follows = follows_on size slots t.used t.used h0 b0 h1 b1 h2 b2 f g (omega arith);
            same = refl;
          })

pub ruleset handed_down_laws = (old_lies, old_ready, new_lies)
