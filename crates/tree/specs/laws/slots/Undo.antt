-- Laws of undo: a slot saved, written, brought back; what a refused call goes back to. Assumes nothing.
use Rattle.std.specs.Prelude.{◌≡◌, refl, true, ℕ, ◌+◌, ◌*◌, ◌≤◌, ◌<◌, length, set, eqb}
use Rattle.std.proofs.Common.{sym, ap₂, ◌∙◌, ext_get_or}
use Rattle.std.proofs.Math.Path.{ap}
use mathlib.Core.List.{List}
use native.Mathlib.Omega.{arith}
use Rattle.std.proofs.Math.ListN.{get_or}
use Rattle.std.proofs.Math.Seq.{get_or-set_same, get_or-set_other}
use borrow.Author.Tests.{eqb-true, eqb-false}
use Rattle.node.specs.laws.base.Tests.{by_test}
use Rattle.node.specs.Find.{val_at}
use Rattle.node.specs.Records.{records_length}
use Rattle.node.specs.Slot.{MemNode, head_at, node_of, is_child}
use Rattle.tree.specs.State.{no_node}
use Rattle.tree.specs.Workspace.{slot_bytes, nodes_of}
use Rattle.tree.specs.internal.Bank.{node_in, live, Ready, Wrote, Put}
use Rattle.tree.specs.laws.base.Refused.{handed_on}
use Rattle.tree.specs.laws.slots.Bank.{length_nodes, node_at_lem}
use Rattle.tree.specs.internal.Undo.{saved_at, origin_at, origin_in, OriginLies, Follows, Saved}

-- ---- where an origin lies

module _ (slots : ℕ) (heads : List ℕ) (n : ℕ) where
  pub origin_live : saved_at slots heads n ≡ 0 → origin_at slots heads n ≡ n
  unfolding origin_at
  origin_live e = rw e

  pub origin_shadow : (saved_at slots heads n ≡ 0 → ⊥) → origin_at slots heads n ≡ slots + n
  unfolding origin_at
  origin_shadow d = by_test (eqb (saved_at slots heads n) 0) (λ t. absurd (d (eqb-true (saved_at slots heads n) 0 t))) (λ t. rw t)

  pub origin_cases : {P : Type 0} → (origin_at slots heads n ≡ n → saved_at slots heads n ≡ 0 → P)
      → (origin_at slots heads n ≡ slots + n → (saved_at slots heads n ≡ 0 → ⊥) → P) → P
  origin_cases f g =
      by_test (eqb (saved_at slots heads n) 0)
      (λ t. let e = eqb-true (saved_at slots heads n) 0 t in f (origin_live e) e)
      (λ t. let d = eqb-false (saved_at slots heads n) 0 t in g (origin_shadow d) d)

origin_same : (slots : ℕ) (heads heads' : List ℕ) (n : ℕ) → saved_at slots heads' n ≡ saved_at slots heads n
    → origin_at slots heads' n ≡ origin_at slots heads n
unfolding origin_at
origin_same slots heads heads' n e = rw e

node_same : (size : ℕ) (heads bytes heads' bytes' : List ℕ) (k : ℕ) → head_at heads' k ≡ head_at heads k
    → slot_bytes size bytes' k ≡ slot_bytes size bytes k → node_in size heads' bytes' k ≡ node_in size heads bytes k
unfolding node_in
node_same size heads bytes heads' bytes' k e f = ap₂ node_of e f

-- ---- follows

module _ (size slots : ℕ) where
  pub follows_same : (used : ℕ) (h b : List ℕ) → Follows size slots used h b h b
  follows_same used h b = record { node = λ k q. refl; lies = λ k q l. l }

  pub follows_on : (used more : ℕ) (h0 b0 h1 b1 h2 b2 : List ℕ) → Follows size slots used h0 b0 h1 b1 → Follows size slots more h1 b1 h2 b2
      → used ≤ more → Follows size slots used h0 b0 h2 b2
  follows_on used more h0 b0 h1 b1 h2 b2 f g e =
      record {
        node = λ k q. g.node k (omega arith) ∙ f.node k q;
        lies = λ k q l. g.lies k (omega arith) (f.lies k q l);
      }

  -- the slots that the first ones can go back to have not changed
  follows_of : (used : ℕ) (h b h' b' : List ℕ) → ((k : ℕ) → k < used → saved_at slots h' k ≡ saved_at slots h k)
      → ((k : ℕ) → k < used → head_at h' (origin_at slots h k) ≡ head_at h (origin_at slots h k))
      → ((k : ℕ) → k < used → slot_bytes size b' (origin_at slots h k) ≡ slot_bytes size b (origin_at slots h k))
      → Follows size slots used h b h' b'
  unfolding origin_in
  follows_of used h b h' b' m w p =
      record {
        node = λ k q. rw (origin_same slots h h' k (m k q)) (node_same size h b h' b' (origin_at slots h k) (w k q) (p k q));
        lies = λ k q l. rw (origin_same slots h h' k (m k q), w k q, p k q) l;
      }

  module _ (h b h' b' : List ℕ) (n : ℕ) (m : MemNode) (p : Wrote size h b h' b' n m) where
    pub put_of : Put size slots h b h' b' n m
    put_of = record { node = p.node; lies = p.lies; words = λ k u d. p.words k d; parts = λ k u d. p.parts k d }

    pub wrote_mark : (k : ℕ) → n < slots → saved_at slots h' k ≡ saved_at slots h k
    unfolding saved_at
    wrote_mark k u = p.after (slots * 18 + k) (omega arith)

    follows_apart : (used : ℕ) → n < slots → ((k : ℕ) → k < used → origin_at slots h k ≡ n → ⊥) → Follows size slots used h b h' b'
    follows_apart used u d = follows_of used h b h' b' (λ k q. wrote_mark k u) (λ k q. p.words (origin_at slots h k) (d k q))
        (λ k q. p.parts (origin_at slots h k) (d k q))

  -- a slot that was saved is written
  pub follows_marked : (used : ℕ) (h b h' b' : List ℕ) (n : ℕ) (m : MemNode) → Wrote size h b h' b' n m → (saved_at slots h n ≡ 0 → ⊥) → n < slots
      → used ≤ slots → Follows size slots used h b h' b'
  follows_marked used h b h' b' n m p d u w =
      follows_apart h b h' b' n m p used u (λ k q z.
      origin_cases slots h k
      (λ e s. let f : k ≡ n = sym e ∙ z in d (rw (← f) s))
      (λ e s. omega (arith, e, z)))

  -- the next slot is written
  pub follows_next : (n : ℕ) (h b h' b' : List ℕ) (m : MemNode) → Wrote size h b h' b' n m → n < slots → Follows size slots n h b h' b'
  follows_next n h b h' b' m p u =
      follows_apart h b h' b' n m p n u (λ k q z. origin_cases slots h k (λ e s. omega (arith, e, z)) (λ e s. omega (arith, e, z)))

  pub follows_add : (n : ℕ) (h0 b0 h1 b1 h2 b2 : List ℕ) (m : MemNode) → Follows size slots n h0 b0 h1 b1 → Wrote size h1 b1 h2 b2 n m → n < slots
      → Follows size slots n h0 b0 h2 b2
  follows_add n h0 b0 h1 b1 h2 b2 m f p u = follows_on n n h0 b0 h1 b1 h2 b2 f (follows_next n h1 b1 h2 b2 m p u) (omega arith)

  -- ---- a slot saved

  head_mark : (h : List ℕ) (n x k : ℕ) → k < slots + slots → head_at (set h (slots * 18 + n) x) k ≡ head_at h k
  unfolding head_at
  head_mark h n x k q =
      let d : (j : ℕ) → j < 9 → k * 9 + j ≡ slots * 18 + n → ⊥ = λ j b e. omega arith in
      let w : (j : ℕ) → j < 9 → get_or (set h (slots * 18 + n) x) (k * 9 + j) 0 ≡ get_or h (k * 9 + j) 0 = λ j b. get_or-set_other h (slots * 18 + n)
      (k * 9 + j) x 0 (d j b) in
      let z : k * 9 + 0 ≡ k * 9 = omega arith in
      let w0 : get_or (set h (slots * 18 + n) x) (k * 9) 0 ≡ get_or h (k * 9) 0 = rw z at (w 0 (omega arith)) in
      rw (
        w0,
        w 1 (omega arith),
        w 2 (omega arith),
        w 3 (omega arith),
        w 4 (omega arith),
        w 5 (omega arith),
        w 6 (omega arith),
        w 7 (omega arith),
        w 8 (omega arith),
      )

  pub saved_before : (used n : ℕ) (h b : List ℕ) → (saved_at slots h n ≡ 0 → ⊥) → Saved size slots used h b h b n
  saved_before used n h b d = record { words = λ k q. refl; parts = λ k q. refl; mark = d; follows = follows_same used h b }

  module _ (used n : ℕ) (h b h1 b1 h2 : List ℕ) (hn : n < used) (w : used ≤ slots) (l : length h ≡ slots * 19) (l1 : length h1 ≡ length h)
      (s : saved_at slots h n ≡ 0)
      (p : Wrote size h b h1 b1 (slots + n) (node_in size h b n)) (e : h2 ≡ set h1 (slots * 18 + n) 1) where
    same : (k : ℕ) → k < slots + slots → head_at h2 k ≡ head_at h1 k
    same k q = ap (λ (x : List ℕ). head_at x k) e ∙ head_mark h1 n 1 k q

    is_marked : saved_at slots h2 n ≡ 0 → ⊥
    unfolding saved_at
    is_marked z = let one : get_or h2 (slots * 18 + n) 0 ≡ 1 = ap (λ (x : List ℕ). get_or x (slots * 18 + n) 0) e
        ∙ get_or-set_same h1 (slots * 18 + n) 1 0
        (omega arith) in omega arith

    mark_other : (k : ℕ) → (k ≡ n → ⊥) → saved_at slots h2 k ≡ saved_at slots h k
    unfolding saved_at
    mark_other k d =
        ap (λ (x : List ℕ). get_or x (slots * 18 + k) 0) e ∙ get_or-set_other h1 (slots * 18 + n) (slots * 18 + k) 1 0 (λ z. d (omega arith))
        ∙ p.after (slots * 18 + k) (omega arith)

    words_but : (o : ℕ) → o < slots + slots → (o ≡ slots + n → ⊥) → head_at h2 o ≡ head_at h o
    words_but o q d = same o q ∙ p.words o d

    -- what slot k, another, can go back to lies where it lay
    place_in : (k : ℕ) → k < used → origin_at slots h k < slots + slots
    place_in k q = origin_cases slots h k (λ x y. omega (arith, x)) (λ x y. omega (arith, x))

    place_but : (k : ℕ) → k < used → (k ≡ n → ⊥) → origin_at slots h k ≡ slots + n → ⊥
    place_but k q d z = origin_cases slots h k (λ x y. omega (arith, x, z)) (λ x y. d (omega (arith, x, z)))

    shadow_words : head_at h2 (origin_at slots h2 n) ≡ head_at h1 (slots + n)
    shadow_words = ap (head_at h2) (origin_shadow slots h2 n is_marked) ∙ same (slots + n) (omega arith)

    shadow_part : slot_bytes size b1 (origin_at slots h2 n) ≡ slot_bytes size b1 (slots + n)
    shadow_part = ap (slot_bytes size b1) (origin_shadow slots h2 n is_marked)

    saved_node : (k : ℕ) → k < used → origin_in size slots h2 b1 k ≡ origin_in size slots h b k
    unfolding origin_in node_in
    saved_node k q =
        by_test (eqb k n)
        (λ t. let f : k ≡ n = eqb-true k n t in rw (f, origin_live slots h n s) (ap₂ node_of shadow_words shadow_part ∙ p.node))
        (λ t. let d : k ≡ n → ⊥ = eqb-false k n t in
        rw (origin_same slots h h2 k (mark_other k d))
        (ap₂ node_of (words_but (origin_at slots h k) (place_in k q) (place_but k q d)) (p.parts (origin_at slots h k) (place_but k q d))))

    saved_lies : (k : ℕ) → k < used → OriginLies size slots h b k → OriginLies size slots h2 b1 k
    saved_lies k q z =
        by_test (eqb k n)
        (λ t. let f : k ≡ n = eqb-true k n t in rw (f, shadow_words, shadow_part) p.lies)
        (λ t. let d : k ≡ n → ⊥ = eqb-false k n t in
        rw (
          origin_same slots h h2 k (mark_other k d),
          words_but (origin_at slots h k) (place_in k q) (place_but k q d),
          p.parts (origin_at slots h k)
              (place_but k q d),
        ) z)

    pub saved_now : Saved size slots used h b h2 b1 n
    saved_now =
        record {
          words = λ k q. words_but k (omega arith) (λ z. omega arith);
          parts = λ k q. p.parts k (λ z. omega arith);
          mark = is_marked;
          follows = record { node = saved_node; lies = saved_lies };
        }

  -- ---- a slot written after it was saved

  module _ (used n : ℕ) (h0 b0 h1 b1 : List ℕ) (p : Saved size slots used h0 b0 h1 b1 n) where
    pub saved_ready : Ready size slots used h0 b0 → length h1 ≡ length h0 → length b1 ≡ length b0 → Ready size slots used h1 b1
    saved_ready r e f =
        record {
          least = r.least;
          most = r.most;
          many = r.many;
          words = e ∙ r.words;
          room = f ∙ r.room;
          within = r.within;
          lies = λ k q. let u : k < slots = omega (arith, r.within) in rw (p.words k u, p.parts k u) (r.lies k q);
        }

    pub saved_same : (k : ℕ) → k < slots → node_in size h1 b1 k ≡ node_in size h0 b0 k
    saved_same k q = node_same size h0 b0 h1 b1 k (p.words k q) (p.parts k q)

    pub saved_nodes : used ≤ slots → nodes_of size h1 b1 used ≡ nodes_of size h0 b0 used
    saved_nodes w =
        let x : length (nodes_of size h1 b1 used) ≡ used = length_nodes size h1 b1 used in
        let y : length (nodes_of size h0 b0 used) ≡ used = length_nodes size h0 b0 used in
        ext_get_or no_node (nodes_of size h1 b1 used) (nodes_of size h0 b0 used) (omega arith)
        (λ k q. let u : k < used = omega arith in node_at_lem size h1 b1 used k u ∙ saved_same k (omega arith)
        ∙ sym (node_at_lem size h0 b0 used k u))

    pub saved_index : (i : ℕ) → n < slots → i < (live (head_at h0 n)).count → i < (live (head_at h1 n)).count
    saved_index i u q = rw (p.words n u) q

    pub saved_upto : (i : ℕ) → n < slots → i ≤ (live (head_at h0 n)).count → i ≤ (live (head_at h1 n)).count
    saved_upto i u q = rw (p.words n u) q

    pub saved_at_lem : (i at : ℕ) → n < slots → at ≡ records_length i (slot_bytes size b0 n) → at ≡ records_length i (slot_bytes size b1 n)
    saved_at_lem i at u q = rw (p.parts n u) q

    pub saved_child : (i : ℕ) → n < slots → is_child (val_at (node_in size h0 b0 n).entries i) ≡ true
        → is_child (val_at (node_in size h1 b1 n).entries i) ≡ true
    saved_child i u q = rw (saved_same n u) q

    module _ (h2 b2 : List ℕ) (m : MemNode) (q : Wrote size h1 b1 h2 b2 n m) where
      pub saved_put : Put size slots h0 b0 h2 b2 n m
      saved_put = record {
        node = q.node;
        lies = q.lies;
        words = λ k u d. q.words k d ∙ p.words k u;
        parts = λ k u d. q.parts k d
            ∙ p.parts k u;
      }

      pub saved_put_of : (f : MemNode → MemNode) → n < slots → m ≡ f (node_in size h1 b1 n) → Put size slots h0 b0 h2 b2 n (f (node_in size h0 b0 n))
      saved_put_of f u e = rw (← saved_same n u, ← e) saved_put

      pub saved_follows : n < used → used ≤ slots → Follows size slots used h0 b0 h2 b2
      saved_follows hn w = follows_on used used h0 b0 h1 b1 h2 b2 p.follows (follows_marked used h1 b1 h2 b2 n m q p.mark (omega arith) w)
          (omega arith)

-- what the functions that save a slot and write it take of these
pub ruleset saves = (saved_ready, saved_same, saved_put, saved_follows)

pub ruleset handed_back = (handed_on, follows_same)

pub ruleset part_laws = (saved_ready, saved_upto, saved_at_lem, follows_on)

pub ruleset link_laws = (saves, saved_index, saved_child, saved_put_of, saved_ready, saved_follows)
