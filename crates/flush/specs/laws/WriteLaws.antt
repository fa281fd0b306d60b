-- Laws of one node written: its words, its block, what is left as it was. Assumes nothing.
use Rattle.std.specs.Prelude.{◌≡◌, refl, List, [], ◌∷◌, map, Bool, true, false, ◌&&◌, ℕ, suc, ◌+◌, ◌*◌, ◌≤◌, ◌<◌, length, eqb, leb, ltb, Option, Some, None, option_to_list, unwrap_or}
use Rattle.std.proofs.Common.{sym, ◌∙◌, arith}
use Rattle.std.proofs.Math.Path.{ap, ap₂}
use borrow.Author.Tests.{eqb-true, eqb-false, ltb-true, ltb-false}
use Rattle.tree.specs.Format.{splice, Entry, mem, val_at, MemNode, Head, head_at, head_words, marked, node_of, only, number_of, child_number, numbered_value, numbered}
use Rattle.tree.specs.Workspace.{slot_bytes, nodes_of, state_of}
use Rattle.tree.specs.internal.Bank.{node_in, live, number_holds, words_hold, Lies, Ready, Put}
use Rattle.tree.specs.internal.Block.{written_head, written_with_id}
use Rattle.tree.specs.laws.base.Node.{by_test, never}
use Rattle.tree.specs.laws.base.NodeSlots.{head_same, head_other}
use Rattle.tree.specs.laws.slots.Bank.{live_words, node_at_lem, put_ready}
use Rattle.tree.specs.laws.state.State.{by_val}
use Rattle.tree.specs.laws.slots.Tree.{node_in_lem, node_out}
use Rattle.tree.specs.declared.editor.Tree.{Tree}
use Rattle.flush.specs.Flush.{slot_number, rewritten}
use Rattle.flush.specs.internal.Walk.{Standing, Alike}

-- ---- leaf functions

pub only_or : (o : Option ℕ) → unwrap_or o 0 ≡ only (option_to_list o)
unfolding only
only_or None = refl
only_or (Some x) = refl

-- ---- the words of a written node

written_node : (h : Head) (l : List ℕ) (a : ℕ) (id : Option ℕ) → node_of (written_with_id h a id) l ≡ rewritten (node_of h l) a (option_to_list id)
unfolding node_of written_head rewritten marked
written_node h l a None = refl
written_node h l a (Some x) = refl

dead_few : (p n d x b i : Bool) → p && n && d && x && b && i ≡ true → x ≡ true
dead_few false n d x b i h = never h refl
dead_few true false d x b i h = never h refl
dead_few true true false x b i h = never h refl
dead_few true true true false b i h = never h refl
dead_few true true true true b i h = refl

written_words : (h : Head) (a : ℕ) (id : Option ℕ) → words_hold h ≡ true → words_hold (written_with_id h a id) ≡ true
unfolding words_hold written_head number_holds
written_words h a None w =
    let k = dead_few (leb h.placed 1) (leb h.named 1) (leb h.dirty 1) (leb h.dead 1) (number_holds h.placed h.block)
    (number_holds h.named h.id) w in
    rw k
written_words h a (Some x) w =
    let k = dead_few (leb h.placed 1) (leb h.named 1) (leb h.dirty 1) (leb h.dead 1) (number_holds h.placed h.block)
    (number_holds h.named h.id) w in
    rw k

pub put_written : (size slots used n a : ℕ) (id : Option ℕ) (heads heads' bytes : List ℕ) → Ready size slots used heads bytes → n < used
    → heads' ≡ splice heads (n * 9) (head_words (written_with_id (head_at heads n) a id))
    → Put size slots heads bytes heads' bytes n (rewritten (node_in size heads bytes n) a (option_to_list id))
unfolding node_in live written_head
put_written size slots used n a id heads heads' bytes r hn e =
    let h : Head = head_at heads n in
    let d : Head = written_with_id (head_at heads n) a id in
    let w : n * 9 + 9 ≤ length heads = omega (arith, r.words, r.within) in
    let s : head_at heads' n ≡ d = ap (λ (x : List ℕ). head_at x n) e ∙ head_same heads n d (omega arith) in
    let l : Lies size (live h) (slot_bytes size bytes n) = r.lies n hn in
    record {
      node = ap (λ (x : Head). node_of x (slot_bytes size bytes n)) s ∙ written_node h (slot_bytes size bytes n) a id;
      lies = rw s (lies_written h (slot_bytes size bytes n) l);
      words = λ j k z. ap (λ (x : List ℕ). head_at x j) e ∙ head_other heads n j d (omega arith) (λ y. z (sym y));
      parts = λ j k z. refl;
    }
  where
    lies_written : (h : Head) (l : List ℕ) → Lies size (live h) l → Lies size (live (written_with_id h a id)) l
    lies_written h l y = record {
      room = y.room;
      used = y.used;
      holds = live_words (written_with_id h a id) ∙ written_words h a id (sym (live_words h) ∙ y.holds);
    }

-- ---- what is left

module _ (size slots n a : ℕ) (t : Tree) (heads heads' bytes l : List ℕ) (st : Standing size slots t heads bytes) (hn : n < t.used)
    (p : Put size slots heads bytes heads' bytes n (rewritten (node_in size heads bytes n) a l)) where
  other : (k : ℕ) → k < t.used → (k ≡ n → ⊥) → node_in size heads' bytes k ≡ node_in size heads bytes k
  unfolding node_in
  other k h d = let b : k < slots = omega (arith, st.ready.within) in ap₂ node_of (p.words k b d) (p.parts k b d)

  entries_after : (k : ℕ) → k < t.used → (node_in size heads' bytes k).entries ≡ (node_in size heads bytes k).entries
  unfolding rewritten
  entries_after k h = by_test (eqb k n)
      (λ q. let z : k ≡ n = eqb-true k n q in rw z (ap (λ (m : MemNode). m.entries) p.node))
      (λ q. ap (λ (m : MemNode). m.entries) (other k h (eqb-false k n q)))

  dead_after : (k : ℕ) → k < t.used → (node_in size heads' bytes k).dead ≡ (node_in size heads bytes k).dead
  unfolding rewritten
  dead_after k h = by_test (eqb k n)
      (λ q. let z : k ≡ n = eqb-true k n q in rw z (ap (λ (m : MemNode). m.dead) p.node))
      (λ q. ap (λ (m : MemNode). m.dead) (other k h (eqb-false k n q)))

  pub standing_after : length heads' ≡ length heads → Standing size slots t heads' bytes
  unfolding rewritten
  standing_after e = record {
    ready = put_ready size slots heads bytes heads' bytes n _ p t.used st.ready e refl;
    sized = st.sized;
    same = st.same;
    fit = λ k h d. by_test (eqb k n)
        (λ q. let z : k ≡ n = eqb-true k n q in never d (rw z (ap (λ (m : MemNode). m.dirty) p.node)))
        (λ q. let o = other k h.used (eqb-false k n q) in
        rw o (st.fit k (record { used = h.used; live = rw o at h.live }) (rw o at d)));
    kids = λ k j c h v. let y = st.kids k j c h (rw (entries_after k h) at v) in
        record { used = y.used; live = dead_after c y.used ∙ y.live };
  }

  pub alike_after : Alike (state_of size t heads bytes) (state_of size t heads' bytes)
  alike_after = record {
    entries = λ k. by_test (ltb k t.used)
        (λ q. let u = ltb-true k t.used q in rw (node_in_lem size t heads' bytes k u, node_in_lem size t heads bytes k u) (entries_after k u))
        (λ q. let u = ltb-false k t.used q in rw (node_out size t heads' bytes k u, node_out size t heads bytes k u));
    dead = λ k. by_test (ltb k t.used)
        (λ q. let u = ltb-true k t.used q in rw (node_in_lem size t heads' bytes k u, node_in_lem size t heads bytes k u) (dead_after k u))
        (λ q. let u = ltb-false k t.used q in rw (node_out size t heads' bytes k u, node_out size t heads bytes k u));
  }

-- ---- children by their numbers

pub number_same : (size used c : ℕ) (heads bytes : List ℕ) (b : Bool) → c < used → child_number heads b c
    ≡ slot_number b (nodes_of size heads bytes used) c
unfolding child_number slot_number number_of node_in node_of
number_same size used c heads bytes b h = rw (node_at_lem size heads bytes used c h)

numbered_same : (f g : ℕ → ℕ) (es : List Entry) → ((j c : ℕ) → val_at es j ≡ mem c → f c ≡ g c) → map (numbered f) es ≡ map (numbered g) es
unfolding numbered numbered_value val_at
numbered_same f g [] h = refl
numbered_same f g (e ∷ es) h =
    ap₂ (λ (x : Entry) (xs : List Entry). x ∷ xs)
    (by_val e.value (λ q. rw q) (λ b q. rw q) (λ r q. rw q) (λ c q. rw (q, h 0 c q)))
    (numbered_same f g es (λ j c q. h (suc j) c q))

pub kids_numbered : (size slots n : ℕ) (t : Tree) (heads bytes : List ℕ) → Standing size slots t heads bytes → n < t.used
    → map (numbered (child_number heads t.by_id)) (node_in size heads bytes n).entries
    ≡ map (numbered (slot_number t.by_id (nodes_of size heads bytes t.used))) (node_in size heads bytes n).entries
kids_numbered size slots n t heads bytes st hn =
    numbered_same (child_number heads t.by_id) (slot_number t.by_id (nodes_of size heads bytes t.used)) (node_in size heads bytes n).entries
    (λ j c q. number_same size t.used c heads bytes t.by_id (st.kids n j c hn q).used)
