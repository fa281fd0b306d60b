-- Laws of index keys as the code sets them. Assumes nothing.
use Rattle.std.specs.Prelude.{◌≡◌, List, [], ◌∷◌, Bool, ◌||◌, take, leb, ltb}
use Rattle.std.proofs.Math.Path.{refl, ap}
use Rattle.std.proofs.Common.{sym, ◌∙◌, arith}
use Rattle.std.proofs.Math.Bool.{true, false, not}
use Prim.Native.Nat.{ℕ, suc, ◌+◌, ◌*◌, ◌^◌, ◌≤◌, ◌<◌}
use Rattle.std.proofs.Math.ListN.{length, set}
use Rattle.std.proofs.Math.Dec.{eqb}
use borrow.Author.Tests.{ne_eqb, ltb-true, ltb-false, le-leb, lt-leb, leb-true, leb-false, lt-ltb, le-ltb, not-true, not-false}
use Rattle.node.specs.Bytes.{splice, window}
use Rattle.node.specs.laws.base.Seal.{length_splice, window_splice_same}
use Rattle.node.specs.laws.base.Tests.{by_test, never}
use Rattle.node.specs.Entry.{Entry}
use Rattle.node.specs.Find.{key_at}
use Rattle.node.specs.Order.{same_key}
use Rattle.node.specs.Slot.{MemNode, head_at, node_of, with_key}
use Rattle.tree.specs.Workspace.{nodes_of, state_of}
use Rattle.tree.specs.State.{State, node_at, put_node, with_nodes, no_node, changed}
use Rattle.tree.specs.Edit.{set_index_key}
use Rattle.tree.specs.internal.Bank.{node_in, live, Ready, Put}
use Rattle.tree.specs.internal.Undo.{Follows}
use Rattle.tree.specs.internal.Writers.{edited}
use Rattle.tree.specs.declared.writers.DirtyMark.TheVariants.{Set}
use Rattle.tree.specs.internal.Index.{key_differs, key_put, Rewritten, KeyRoom}
use Rattle.tree.specs.laws.slots.Bank.{put_set, put_ready}
use Rattle.tree.specs.laws.slots.Undo.{follows_same}
use Rattle.tree.specs.laws.slots.Tree.{node_in_lem, node_out}
use Rattle.tree.specs.laws.load.Fetch.{count_is}
use Rattle.tree.specs.declared.editor.Tree.{Tree}

-- ---- whether a key differs

module _ (s : State) (n i c kids : ℕ) (ek : kids ≡ length (node_at s c).entries) where
  pub differs_none : kids ≡ 0 → false ≡ key_differs s n i c
  unfolding key_differs
  differs_none z = rw (← ek, z)

  pub differs_past : (count : ℕ) → (kids ≡ 0 → ⊥) → count ≡ length (node_at s n).entries → count ≤ i → false ≡ key_differs s n i c
  unfolding key_differs
  differs_past count d e h = rw (← ek, ← e, ne_eqb kids 0 d, le-leb count i h)

  pub differs_keys : (count : ℕ) (k f : List ℕ) (b : Bool) → (kids ≡ 0 → ⊥) → count ≡ length (node_at s n).entries → i < count
      → f ≡ key_at (node_at s c).entries 0 → k ≡ key_at (node_at s n).entries i → b ≡ not (same_key k f) → b ≡ key_differs s n i c
  unfolding key_differs
  differs_keys count k f b d e h ef ek' eb = rw (← ek, ← e, ← ef, ← ek', ne_eqb kids 0 d, lt-leb count i h) eb

-- ---- a key copied out

module _ (s : State) (c : ℕ) (l l' k : List ℕ) (ek : k ≡ key_at (node_at s c).entries 0) where
  pub copied_fits : length (key_at (node_at s c).entries 0) ≤ length l → 0 + length k ≤ length l
  copied_fits h = let z : length k ≡ length (key_at (node_at s c).entries 0) = ap length ek in omega arith

  pub copied_long : length (key_at (node_at s c).entries 0) ≤ length l → l' ≡ splice l 0 k → length k ≤ length l'
  copied_long h e = let z : length k ≡ length (key_at (node_at s c).entries 0) = ap length ek in let y : length l' ≡ length l = ap length e
      ∙ length_splice l 0 k (omega arith) in omega arith

  pub copied_key : l' ≡ splice l 0 k → take (length k) l' ≡ key_at (node_at s c).entries 0
  unfolding window
  copied_key e = ap (take (length k)) e ∙ window_splice_same l 0 k (omega arith) ∙ ek

-- ---- the definition

by_entries : {P : Type 0} → (es : List Entry) → (es ≡ [] → P) → ((e : Entry) (rest : List Entry) → es ≡ e ∷ rest → P) → P
by_entries [] f g = f refl
by_entries (e ∷ es) f g = g e es refl

or_true : (b : Bool) → (b || true) ≡ true
or_true true = refl
or_true false = refl

le_not : (a i : ℕ) → leb a i ≡ true → ltb i a ≡ false
le_not a i t = le-ltb i a (leb-true a i t)

le_is : (a i : ℕ) → leb a i ≡ false → ltb i a ≡ true
le_is a i t = lt-ltb i a (leb-false a i t)

module _ (s : State) (n i c : ℕ) where
  -- where slot c has a first entry, and slot n an entry i
  differs_at : (e : Entry) (es : List Entry) → (node_at s c).entries ≡ e ∷ es → leb (length (node_at s n).entries) i ≡ false
      → key_differs s n i c ≡ not (same_key (key_at (node_at s n).entries i) e.key)
  unfolding key_differs key_at
  differs_at e es q t = let u : eqb (length (e ∷ es)) 0 ≡ false = ne_eqb (length (e ∷ es)) 0 (λ (z : suc (length es) ≡ 0). omega arith) in rw
      (q, u, t)

  pub index_same : key_differs s n i c ≡ false → s ≡ set_index_key s n i c
  unfolding set_index_key
  index_same h =
      by_entries (node_at s c).entries
      (λ q. rw q)
      (λ e es q. by_test (leb (length (node_at s n).entries) i)
      (λ t. rw (q, le_not (length (node_at s n).entries) i t, or_true (node_at s c).dead))
      (λ t. let z : same_key (key_at (node_at s n).entries i) e.key ≡ true = not-false (same_key (key_at (node_at s n).entries i) e.key)
      (sym (differs_at e es q t) ∙ h) in
      rw (q, z, or_true ((node_at s c).dead || not (ltb i (length (node_at s n).entries))))))

  module _ (h : key_differs s n i c ≡ true) where
    differs_within : leb (length (node_at s n).entries) i ≡ false
    unfolding key_differs
    differs_within =
        by_test (leb (length (node_at s n).entries) i)
        (λ t. by_test (eqb (length (node_at s c).entries) 0) (λ u. never (rw (t, u) at h) refl) (λ u. never (rw (t, u) at h) refl))
        (λ t. t)

    differs_some : (node_at s c).entries ≡ [] → ⊥
    unfolding key_differs
    differs_some q = never (rw q at h) refl

    pub differs_below : i < length (node_at s n).entries
    differs_below = leb-false (length (node_at s n).entries) i differs_within

    pub index_put : (node_at s c).dead ≡ false → key_put s n i (key_at (node_at s c).entries 0) ≡ set_index_key s n i c
    unfolding set_index_key key_at
    index_put d =
        by_entries (node_at s c).entries
        (λ q. absurd (differs_some q))
        (λ e es q.
        let z : same_key (key_at (node_at s n).entries i) e.key ≡ false = not-true (same_key (key_at (node_at s n).entries i) e.key)
        (sym (differs_at e es q differs_within) ∙ h) in
        rw (q, d, le_is (length (node_at s n).entries) i differs_within, z))

-- ---- the slots

module _ (size slots n i : ℕ) (t : Tree) (h0 b0 : List ℕ) (r : Ready size slots t.used h0 b0) where
  pub rekey_done : (key h1 b1 : List ℕ) → n < t.used → length h1 ≡ length h0 → length b1 ≡ length b0
      → Put size slots h0 b0 h1 b1 n (edited Set (node_in size h0 b0 n) (with_key i key (node_in size h0 b0 n).entries))
      → Follows size slots t.used h0 b0 h1 b1
      → Rewritten size slots t h0 b0 h1 b1 (key_put (state_of size t h0 b0) n i key)
  unfolding state_of put_node with_nodes
  rekey_done key h1 b1 u e f p g =
      let m : MemNode = changed (node_in size h0 b0 n) (with_key i key (node_in size h0 b0 n).entries) in
      let x : nodes_of size h1 b1 t.used ≡ set (nodes_of size h0 b0 t.used) n
      (changed (node_in size h0 b0 n) (with_key i key (node_in size h0 b0 n).entries)) = put_set size slots h0 b0 h1 b1 n m p t.used
      r.within u in
      let y : node_at (state_of size t h0 b0) n ≡ node_in size h0 b0 n = node_in_lem size t h0 b0 n u in
      record { state = rw (x, y); ready = put_ready size slots h0 b0 h1 b1 n m p t.used r e f; follows = g }

  pub index_kept : (c : ℕ) (b : Bool) → b ≡ key_differs (state_of size t h0 b0) n i c → not b ≡ true
      → Rewritten size slots t h0 b0 h0 b0 (set_index_key (state_of size t h0 b0) n i c)
  index_kept c b e q = record {
    state = index_same (state_of size t h0 b0) n i c (sym e ∙ not-true b q);
    ready = r;
    follows = follows_same size slots
        t.used h0 b0;
  }

  module _ (c : ℕ) (b : Bool) (eb : b ≡ key_differs (state_of size t h0 b0) n i c) (nb : not b ≡ false) where
    q : key_differs (state_of size t h0 b0) n i c ≡ true
    q = sym eb ∙ not-false b nb

    pub differs_slot : n < t.used
    unfolding no_node
    differs_slot =
        by_test (ltb n t.used) (λ u. ltb-true n t.used u)
        (λ u. let z : node_at (state_of size t h0 b0) n ≡ no_node = node_out size t h0 b0 n (ltb-false n t.used u) in
        let w : length (node_at (state_of size t h0 b0) n).entries ≡ 0 = rw z in
        absurd (omega (arith, differs_below (state_of size t h0 b0) n i c q)))

    pub differs_index : i < (live (head_at h0 n)).count
    differs_index = omega (arith, differs_below (state_of size t h0 b0) n i c q, count_is size t h0 b0 n differs_slot (live (head_at h0 n)) refl)

    -- slot c has entries, so it is not dead
    first_alive : (node_at (state_of size t h0 b0) c).dead ≡ false
    unfolding no_node node_in node_of
    first_alive =
        by_test (ltb c t.used)
        (λ u. let z : node_at (state_of size t h0 b0) c ≡ node_in size h0 b0 c = node_in_lem size t h0 b0 c (ltb-true c t.used u) in
        by_test (eqb (head_at h0 c).dead 1) (λ d. absurd (differs_some (state_of size t h0 b0) n i c q (rw (z, d)))) (λ d. rw (z, d)))
        (λ u. let z : node_at (state_of size t h0 b0) c ≡ no_node = node_out size t h0 b0 c (ltb-false c t.used u) in
        absurd (differs_some (state_of size t h0 b0) n i c q (rw z)))

    pub index_set : (key h1 b1 : List ℕ) → key ≡ key_at (node_at (state_of size t h0 b0) c).entries 0
        → Rewritten size slots t h0 b0 h1 b1 (key_put (state_of size t h0 b0) n i key)
        → Rewritten size slots t h0 b0 h1 b1 (set_index_key (state_of size t h0 b0) n i c)
    index_set key h1 b1 e w =
        record {
          state = w.state ∙ ap (key_put (state_of size t h0 b0) n i) e ∙ index_put (state_of size t h0 b0) n i c q first_alive;
          ready = w.ready;
          follows = w.follows;
        }

module _ (size n c room : ℕ) (t : Tree) (heads bytes key : List ℕ) (k : KeyRoom size t heads bytes n c room)
    (e : key ≡ key_at (node_at (state_of size t heads bytes) c).entries 0) where
  pub index_room : (live (head_at heads n)).used + length key ≤ 4 * size
  index_room = rw e k.slot

  pub index_short : length key < 2 ^ 16
  index_short = rw e k.short

pub ruleset set_index_key_laws = (index_kept, index_set, differs_slot, differs_index, index_room, index_short)

pub ruleset first_key_laws = (copied_fits, copied_long, copied_key)

pub ruleset key_differs_laws = (differs_none, differs_past, differs_keys)
