-- Laws of a slot copied to another, and of slots brought back. Assumes nothing.
use Rattle.std.specs.Prelude.{◌≡◌, refl, ℕ, ◌+◌, ◌*◌, ◌≤◌, ◌<◌, length, set, eqb}
use Rattle.std.proofs.Math.Path.{sym, ap, ap₂}
use Rattle.std.proofs.Common.{subst, ◌∙◌}
use mathlib.Core.List.{List}
use native.Mathlib.Omega.{arith}
use Rattle.std.proofs.Math.ListN.{get_or, take}
use borrow.Author.Tests.{eqb-true, eqb-false}
use Rattle.node.specs.Bytes.{window, splice, moved}
use Rattle.node.specs.laws.base.Seal.{length_window, length_splice, window_window, window_splice_same}
use Rattle.node.specs.laws.base.Tests.{by_test}
use Rattle.node.specs.Records.{records_length, entries_of}
use Rattle.node.specs.laws.slot.Records.{records_local, entries_local}
use Rattle.node.specs.Slot.{head_at, head_words, node_of}
use Rattle.node.specs.laws.slot.Head.{head_same, head_other}
use Rattle.node.specs.declared.head.Head.{Head}
use Rattle.tree.specs.Workspace.{slot_bytes}
use Rattle.tree.specs.internal.Bank.{node_in, live, Lies, Ready, Wrote}
use Rattle.tree.specs.laws.slots.Bank.{slots_below, live_node, part_same, part_other}
use Rattle.tree.specs.laws.slots.OneSlot.{part_long, word_after, inner}
use Rattle.tree.specs.internal.Undo.{saved_at, origin_at, origin_in, Saved, Shadowed, Back, BackAt}
use Rattle.tree.specs.laws.slots.Undo.{saved_before, saved_now, origin_live, origin_shadow, follows_same, follows_on, follows_marked}

-- ---- slot `to` takes what slot `from` is

module _ (size from to : ℕ) (heads bytes heads' bytes' : List ℕ) (h v : Head) (eh : h ≡ head_at heads from) (ev : v ≡ live h)
    (lies : Lies size (live (head_at heads from)) (slot_bytes size bytes from))
    (hw : to * 9 + 9 ≤ length heads) (hf : from * (4 * size) + 4 * size ≤ length bytes) (ht : to * (4 * size) + 4 * size ≤ length bytes) where
  held : Lies size v (slot_bytes size bytes from)
  held = rw (ev, eh) lies

  pub copy_small : v.used ≤ 4 * size
  copy_small = omega (arith, held.room, held.used)

  pub copy_source : from * (4 * size) + v.used ≤ length bytes
  copy_source = omega (arith, copy_small)

  pub copy_target : to * (4 * size) + v.used ≤ length bytes
  copy_target = omega (arith, copy_small)

  abbrev vs : List ℕ
  vs = window (from * (4 * size)) v.used bytes

  abbrev d : List ℕ
  d = splice (slot_bytes size bytes to) 0 (window (from * (4 * size)) v.used bytes)

  long : length (window (from * (4 * size)) v.used bytes) ≡ v.used
  long = length_window (from * (4 * size)) v.used bytes copy_source

  d_long : length d ≡ 4 * size
  d_long = let z : length (slot_bytes size bytes to) ≡ 4 * size = part_long size bytes to ht in length_splice (slot_bytes size bytes to) 0 vs
      (omega (arith, long, copy_small, z)) ∙ z

  -- the records are the same
  front : take v.used d ≡ take v.used (slot_bytes size bytes from)
  unfolding window slot_bytes
  front =
      let a : window 0 (length vs) d ≡ vs = window_splice_same (slot_bytes size bytes to) 0 vs (omega arith) in
      let b : window 0 v.used (window (from * (4 * size)) (4 * size) bytes) ≡ window (from * (4 * size) + 0) v.used bytes = window_window
      (from * (4 * size)) (4 * size) bytes 0 v.used (omega (arith, copy_small)) in
      let z : from * (4 * size) + 0 ≡ from * (4 * size) = omega arith in
      ap (λ (k : ℕ). take k d) (sym long) ∙ a ∙ sym (b ∙ ap (λ (k : ℕ). window k v.used bytes) z)

  least : records_length v.count (slot_bytes size bytes from) ≤ v.used
  least = omega (arith, held.used)

  module _ (eb : bytes' ≡ moved bytes (from * (4 * size)) (to * (4 * size)) v.used) (ew : heads' ≡ splice heads (to * 9) (head_words h)) where
    whole : bytes' ≡ splice bytes (to * (4 * size)) d
    unfolding moved
    whole = eb ∙ inner size bytes vs to ht (omega (arith, long, copy_small))

    there : slot_bytes size bytes' to ≡ d
    there = ap (λ (x : List ℕ). slot_bytes size x to) whole ∙ part_same size bytes d to d_long ht

    head_there : head_at heads' to ≡ h
    head_there = ap (λ (x : List ℕ). head_at x to) ew ∙ head_same heads to h (omega (arith, hw))

    same_node : entries_of v.count d ≡ entries_of v.count (slot_bytes size bytes from) → node_of h d ≡ node_of h (slot_bytes size bytes from)
    same_node e =
        let z : entries_of (live h).count d ≡ entries_of (live h).count (slot_bytes size bytes from) = rw (← ev) e in
        live_node h (slot_bytes size bytes from) d ∙ rw z (sym (live_node h (slot_bytes size bytes from) (slot_bytes size bytes from)))

    pub copy_wrote : Wrote size heads bytes heads' bytes' to (node_in size heads bytes from)
    unfolding node_in
    copy_wrote =
        let e : entries_of v.count d ≡ entries_of v.count (slot_bytes size bytes from) = entries_local v.count v.used
        (slot_bytes size bytes from) d least front in
        let r : records_length v.count d ≡ records_length v.count (slot_bytes size bytes from) = records_local v.count v.used
        (slot_bytes size bytes from) d least front in
        record {
          node = rw (head_there, there, ← eh) (same_node e);
          lies = rw (head_there, there, ← ev) (record { room = omega (arith, r, held.room); used = held.used ∙ sym r; holds = held.holds });
          words = λ k q. ap (λ (x : List ℕ). head_at x k) ew ∙ head_other heads to k h (omega (arith, hw)) (λ z. q (sym z));
          parts = λ k q. ap (λ (x : List ℕ). slot_bytes size x k) whole ∙ part_other size bytes d to d_long ht k q;
          after = λ j q. ap (λ (x : List ℕ). get_or x j 0) ew ∙ word_after heads to h j q hw;
        }

-- ---- as the code has it: save

module _ (size slots used n : ℕ) (heads bytes : List ℕ) (r : Ready size slots used heads bytes) (hn : n < used) where
  pub save_lies : Lies size (live (head_at heads n)) (slot_bytes size bytes n)
  save_lies = r.lies n hn

  pub save_live : n * (4 * size) + 4 * size ≤ length bytes
  save_live = omega (arith, r.room, r.within, slots_below (4 * size) n (slots + slots) (omega (arith, r.within)))

  pub save_shadow : (slots + n) * (4 * size) + 4 * size ≤ length bytes
  save_shadow = omega (arith, r.room, slots_below (4 * size) (slots + n) (slots + slots) (omega (arith, r.within)))

  pub save_before : (get_or heads (slots * 18 + n) 0 ≡ 0 → ⊥) → Saved size slots used heads bytes heads bytes n
  unfolding saved_at
  save_before d = saved_before size slots used n heads bytes d

  pub save_now : (h1 b1 h2 : List ℕ) → length h1 ≡ length heads → get_or heads (slots * 18 + n) 0 ≡ 0 → Wrote size heads bytes h1 b1 (slots + n)
      (node_in size heads bytes n) → h2 ≡ set h1 (slots * 18 + n) 1
      → Saved size slots used heads bytes h2 b1 n
  unfolding saved_at
  save_now h1 b1 h2 l s p e = saved_now size slots used n heads bytes h1 b1 h2 hn r.within r.words l s p e

-- ---- a slot brought back

module _ (size slots used n : ℕ) (heads bytes : List ℕ) (r : Shadowed size slots used heads bytes) (hn : n < used) where
  pub back_live : n * (4 * size) + 4 * size ≤ length bytes
  back_live = omega (arith, r.room, r.within, slots_below (4 * size) n (slots + slots) (omega (arith, r.within)))

  pub back_shadow : (slots + n) * (4 * size) + 4 * size ≤ length bytes
  back_shadow = omega (arith, r.room, slots_below (4 * size) (slots + n) (slots + slots) (omega (arith, r.within)))

  module _ (d : get_or heads (slots * 18 + n) 0 ≡ 0 → ⊥) where
    shadow : origin_at slots heads n ≡ slots + n
    unfolding saved_at
    shadow = origin_shadow slots heads n d

    pub back_lies : Lies size (live (head_at heads (slots + n))) (slot_bytes size bytes (slots + n))
    back_lies = rw (sym shadow) (r.lies n hn)

    pub back_moved : (heads' bytes' : List ℕ) → Wrote size heads bytes heads' bytes' n (node_in size heads bytes (slots + n))
        → BackAt size slots used heads bytes heads' bytes' n
    unfolding origin_in saved_at
    back_moved heads' bytes' p =
        record {
          follows = follows_marked size slots used heads bytes heads' bytes' n (node_in size heads bytes (slots + n)) p d (omega (arith, r.within))
              r.within;
          node = rw shadow p.node;
          lies = p.lies;
          words = λ k u q. p.words k q;
          parts = λ k u q. p.parts k q;
        }

  pub back_same : get_or heads (slots * 18 + n) 0 ≡ 0 → BackAt size slots used heads bytes heads bytes n
  unfolding origin_in saved_at
  back_same e =
      let z : origin_at slots heads n ≡ n = origin_live slots heads n e in
      record {
        follows = follows_same size slots used heads bytes;
        node = rw z;
        lies = rw z at (r.lies n hn);
        words = λ k u q. refl;
        parts = λ k u q. refl;
      }

-- ---- all of them

module _ (size slots used : ℕ) (h0 b0 : List ℕ) (r : Shadowed size slots used h0 b0) where
  pub back_start : Back size slots used 0 h0 b0 h0 b0
  back_start = record { follows = follows_same size slots used h0 b0; node = λ k q. absurd (omega arith); lies = λ k q. absurd (omega arith) }

  module _ (i : ℕ) (h1 b1 : List ℕ) (p : Back size slots used i h0 b0 h1 b1) where
    pub back_shadowed : length h1 ≡ length h0 → length b1 ≡ length b0 → Shadowed size slots used h1 b1
    back_shadowed e f =
        record {
          least = r.least;
          most = r.most;
          many = r.many;
          words = e ∙ r.words;
          room = f ∙ r.room;
          within = r.within;
          lies = λ k q. p.follows.lies k q (r.lies k q);
        }

    pub back_next : (h2 b2 : List ℕ) → i < used → BackAt size slots used h1 b1 h2 b2 i → Back size slots used (i + 1) h0 b0 h2 b2
    unfolding node_in
    back_next h2 b2 hi q =
        record {
          follows = follows_on size slots used used h0 b0 h1 b1 h2 b2 p.follows q.follows (omega arith);
          node = λ k u.
              by_test (eqb k i)
              (λ t. let e : k ≡ i = eqb-true k i t in rw e (q.node ∙ p.follows.node i hi))
              (λ t. let d : k ≡ i → ⊥ = eqb-false k i t in let s : k < slots = omega (arith, r.within) in ap₂ node_of (q.words k s d)
              (q.parts k s d) ∙ p.node k (omega arith));
          lies = λ k u.
              by_test (eqb k i)
              (λ t. let e : k ≡ i = eqb-true k i t in rw e q.lies)
              (λ t. let d : k ≡ i → ⊥ = eqb-false k i t in let s : k < slots = omega (arith, r.within) in rw (q.words k s d, q.parts k s d)
              (p.lies k (omega arith)));
        }

    pub back_end : i ≤ used → used ≤ i → Back size slots used used h0 b0 h1 b1
    back_end e f = let z : i ≡ used = omega arith in subst (λ (j : ℕ). Back size slots used j h0 b0 h1 b1) z p

-- what `copy_slot`, `save`, `bring_back` and `restore` take of these
pub ruleset copies = (copy_small, copy_source, copy_target, copy_wrote)

pub ruleset saves = (save_live, save_shadow, save_before, save_now)

pub ruleset brings = (back_live, back_shadow, back_lies, back_moved, back_same)

pub ruleset restores = (back_start, back_shadowed, back_next, back_end)

pub ruleset save_laws = (saves, save_lies, save_live, save_shadow)
