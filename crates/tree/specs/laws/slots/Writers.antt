-- Laws of the writers of one slot: it is saved, its records change, then its words. Assumes nothing.
use Rattle.std.specs.Prelude.{◌≡◌, refl, List, ◌++◌, true, false, ℕ, ◌+◌, ◌*◌, ◌^◌, ◌≤◌, ◌<◌, length, get_or, take, drop}
use Rattle.std.proofs.Common.{sym, ◌∙◌, mul-le-mul_right, arith}
use Rattle.std.proofs.Math.Path.{ap}
use Rattle.std.proofs.Math.Dec.{eqb}
use Rattle.node.specs.Bytes.{splice}
use Rattle.node.specs.laws.base.Tests.{by_test}
use Rattle.node.specs.Entry.{Entry}
use Rattle.node.specs.internal.SlotSteps.{EntryUpto}
use Rattle.node.specs.declared.slot.EntryAt.{EntryAt}
use Rattle.node.specs.Records.{records_length, entries_of}
use Rattle.node.specs.laws.slot.Records.{records_least}
use Rattle.node.specs.Slot.{MemNode, head_at, head_words, node_of}
use Rattle.node.specs.laws.slot.Head.{head_same, head_other}
use Rattle.node.specs.declared.head.Head.{Head}
use Rattle.tree.specs.Workspace.{slot_bytes}
use Rattle.tree.specs.State.{with_entries, changed}
use Rattle.tree.specs.internal.Bank.{node_in, live, words_hold, Lies, Ready, Wrote, Put}
use Rattle.tree.specs.internal.Undo.{Saved, Follows}
use Rattle.tree.specs.internal.Writers.{dirty_word, recounted, edited, entry_at, SpotIn, SpotAlive}
use Rattle.tree.specs.declared.floor.Spot.{Spot}
use Rattle.tree.specs.declared.writers.DirtyMark.{DirtyMark}
use Rattle.tree.specs.declared.writers.DirtyMark.TheVariants.{Set, Kept}
use Rattle.tree.specs.laws.slots.Bank.{live_entries, live_words, dirty_words, same_words, part_same, part_other}
use Rattle.tree.specs.laws.slots.OneSlot.{ready_part, part_is, part_given, word_after}
use Rattle.tree.specs.laws.slots.Undo.{saved_ready, saved_put_of, saved_follows}

-- ---- words

pub recount_words : (heads heads' : List ℕ) (n count used d : ℕ) (mark : DirtyMark) (h : Head) → h ≡ head_at heads n → d ≡ dirty_word mark h.dirty
    → heads' ≡ splice heads (n * 9) (head_words (record {
      level = h.level;
      count = count;
      used = used;
      placed = h.placed;
      block = h.block;
      named =
          h.named;
      id = h.id;
      dirty = d;
      dead = h.dead;
    }))
    → heads' ≡ splice heads (n * 9) (head_words (recounted mark count used (head_at heads n)))
unfolding recounted
recount_words heads heads' n count used d mark h eh ed e = e ∙ rw (← eh, ed)

-- ---- words of other records

edited_node : (mark : DirtyMark) (count used : ℕ) (h : Head) (l d : List ℕ) → eqb h.dead 1 ≡ false
    → node_of (recounted mark count used h) d ≡ edited mark (node_of h l) (entries_of count d)
unfolding node_of recounted dirty_word changed with_entries
edited_node Set count used h l d a = rw a
edited_node Kept count used h l d a = rw a

edited_count : (mark : DirtyMark) (count used : ℕ) (h : Head) → eqb h.dead 1 ≡ false → (live (recounted mark count used h)).count ≡ count
unfolding live recounted
edited_count mark count used h a = rw a

edited_used : (mark : DirtyMark) (count used : ℕ) (h : Head) → eqb h.dead 1 ≡ false → (live (recounted mark count used h)).used ≡ used
unfolding live recounted
edited_used mark count used h a = rw a

edited_words : (mark : DirtyMark) (count used : ℕ) (h : Head) → words_hold (live h) ≡ true → words_hold (live (recounted mark count used h)) ≡ true
unfolding recounted dirty_word
edited_words Set count used h e = live_words (recounted Set count used h) ∙ dirty_words h count used (sym (live_words h) ∙ e)
edited_words Kept count used h e = live_words (recounted Kept count used h) ∙ same_words h count used (sym (live_words h) ∙ e)

-- ---- a slot written

-- where the words and the bytes of a slot in use end
module _ (size slots used n : ℕ) (h1 b1 : List ℕ) (again : Ready size slots used h1 b1) (hn : n < used) where
  pub slot_words_lem : (n + 1) * 9 ≤ length h1
  slot_words_lem = omega (arith, again.words, again.within)

  pub slot_part : n * (4 * size) + 4 * size ≤ length b1
  slot_part = ready_part size slots used h1 b1 n again hn

  pub slot_end : n * (4 * size) + 4 * size < 2 ^ 32
  slot_end =
      let p : n * (4 * size) ≤ 4096 * (4 * size) = mul-le-mul_right (4 * size) (omega (arith, again.many, again.within)) in
      omega (arith, again.most)

module _ (size slots used : ℕ) (h1 b1 : List ℕ) (s : Spot) (again : Ready size slots used h1 b1) (q : SpotAlive size used h1 b1 s)
    (h : Head) (e : EntryAt) (et : e ≡ entry_at s h) (eh : h ≡ live (head_at h1 s.slot)) (k : ℕ) (ek : k ≡ 4 * size) where
  abbrev n : ℕ
  n = s.slot

  abbrev l : List ℕ
  l = take k (drop (n * (4 * size)) b1)

  is : l ≡ slot_bytes size b1 n
  is = part_is size b1 n k ek

  held : Lies size h l
  held = rw (eh, is) (again.lies n q.spot.slot)

  words_there : (n + 1) * 9 ≤ length h1
  words_there = slot_words_lem size slots used s.slot h1 b1 again q.spot.slot

  part_there : n * (4 * size) + 4 * size ≤ length b1
  part_there = slot_part size slots used s.slot h1 b1 again q.spot.slot

  -- an entry's place, as its writer is given it
  pub slot_entry : EntryUpto l e
  slot_entry = rw et (record { used = held.used; start = q.spot.start ∙ ap (records_length s.index) (sym is); upto = rw eh q.spot.upto })

  -- other records in the slot
  module _ (mark : DirtyMark) (count more most : ℕ) (f : ℕ → List Entry → List Entry) (d h2 b2 : List ℕ)
      (room : (live (head_at h1 n)).used + most ≤ 4 * size) (hm : more ≤ e.used + most) (em : records_length count d ≡ more)
      (ee : entries_of count d ≡ f e.index (entries_of e.count l)) (ed : length d ≡ k)
      (e2 : b2 ≡ take (n * (4 * size)) b1 ++ (d ++ drop k (drop (n * (4 * size)) b1)))
      (eh2 : h2 ≡ splice h1 (n * 9) (head_words (recounted mark count more (head_at h1 n)))) where
    entries_are : f e.index (entries_of e.count l) ≡ f s.index (node_in size h1 b1 n).entries
    unfolding node_in
    entries_are = rw (et, eh, is) (ap (f s.index) (sym (live_entries (head_at h1 n) (slot_bytes size b1 n))))

    lives : eqb (head_at h1 n).dead 1 ≡ false
    unfolding node_in node_of
    lives = q.alive

    whole : b2 ≡ splice b1 (n * (4 * size)) d
    whole = part_given size b1 b2 d n k ek ed e2

    wide : length d ≡ 4 * size
    wide = ed ∙ ek

    fits : more ≤ 4 * size
    fits = omega (arith, ap (λ (x : Head). x.used) eh, ap (λ (x : EntryAt). x.used) et)

    there : slot_bytes size b2 n ≡ d
    there = ap (λ (x : List ℕ). slot_bytes size x n) whole ∙ part_same size b1 d n wide part_there

    words : head_at h2 n ≡ recounted mark count more (head_at h1 n)
    words = ap (λ (x : List ℕ). head_at x n) eh2 ∙ head_same h1 n (recounted mark count more (head_at h1 n)) words_there

    is_edited : node_in size h2 b2 n ≡ edited mark (node_in size h1 b1 n) (f s.index (node_in size h1 b1 n).entries)
    unfolding node_in
    is_edited =
        rw (there, words) (edited_node mark count more (head_at h1 n) (slot_bytes size b1 n) d lives)
        ∙ ap (edited mark (node_in size h1 b1 n)) (ee ∙ entries_are)

    pub slot_wrote : Wrote size h1 b1 h2 b2 n (edited mark (node_in size h1 b1 n) (f s.index (node_in size h1 b1 n).entries))
    slot_wrote =
        record {
          node = is_edited;
          lies =
              rw (there, words)
              (record {
                room = rw (edited_count mark count more (head_at h1 n) lives) (omega (arith, em, fits));
                used = rw
                    (edited_count mark count more (head_at h1 n) lives, edited_used mark count more (head_at h1 n) lives) (sym em);
                holds =
                    edited_words mark count more (head_at h1 n) (again.lies n q.spot.slot).holds;
              });
          words = λ j w. ap (λ (x : List ℕ). head_at x j) eh2
              ∙ head_other h1 n j (recounted mark count more (head_at h1 n)) words_there (λ z. w (sym z));
          parts = λ j w. ap (λ (x : List ℕ). slot_bytes size x j) whole ∙ part_other size b1 d n wide part_there j w;
          after = λ j w. ap (λ (x : List ℕ). get_or x j 0) eh2
              ∙ word_after h1 n (recounted mark count more (head_at h1 n)) j w (omega (arith, words_there));
        }

-- one record more can be counted
pub count_room : (e : EntryAt) (l : List ℕ) → EntryUpto l e → e.used < 2 ^ 64 → e.count + 1 < 2 ^ 64
count_room e l p h = omega (arith, p.used, records_least e.count l)

-- ---- a slot saved, then written

module _ (size slots used : ℕ) (h0 b0 h1 b1 : List ℕ) (s : Spot) (r : Ready size slots used h0 b0) (q : SpotAlive size used h0 b0 s)
    (v : Saved size slots used h0 b0 h1 b1 s.slot) where
  kept : s.slot < slots
  kept = omega (arith, r.within, q.spot.slot)

  saved_head : head_at h1 s.slot ≡ head_at h0 s.slot
  saved_head = v.words s.slot kept

  pub saved_place : SpotAlive size used h1 b1 s
  unfolding node_in node_of
  saved_place =
      record {
        spot =
            record {
              slot = q.spot.slot;
              upto = rw saved_head q.spot.upto;
              start = q.spot.start ∙ ap (records_length s.index) (sym (v.parts s.slot kept));
            };
        alive = ap (λ (x : Head). eqb x.dead 1) saved_head ∙ q.alive;
      }

  pub saved_fits : (P : ℕ → Type 0) → P (live (head_at h0 s.slot)).count → P (live (head_at h1 s.slot)).count
  saved_fits P p = rw saved_head p

  pub saved_room : (more : ℕ) → (live (head_at h0 s.slot)).used + more ≤ 4 * size → (live (head_at h1 s.slot)).used + more ≤ 4 * size
  saved_room more p = rw saved_head p

  module _ (mark : DirtyMark) (f : List Entry → List Entry) (h2 b2 : List ℕ)
      (w : Wrote size h1 b1 h2 b2 s.slot (edited mark (node_in size h1 b1 s.slot) (f (node_in size h1 b1 s.slot).entries))) where
    abbrev with : MemNode → MemNode
    with m = edited mark m (f m.entries)

    pub saved_changed : Put size slots h0 b0 h2 b2 s.slot
        (edited mark (node_in size h0 b0 s.slot) (f (node_in size h0 b0 s.slot).entries))
    saved_changed = saved_put_of size slots used s.slot h0 b0 h1 b1 v h2 b2 (with (node_in size h1 b1 s.slot)) w with kept refl

    pub saved_changed_follows : Follows size slots used h0 b0 h2 b2
    saved_changed_follows = saved_follows size slots used s.slot h0 b0 h1 b1 v h2 b2 (with (node_in size h1 b1 s.slot)) w q.spot.slot r.within

-- what the function that saves a slot and changes it takes of these
pub ruleset changes = (saved_ready, saved_place, saved_fits, saved_room, saved_changed, saved_changed_follows)

-- ---- an entry that stands

-- a slot with an entry is not dead
pub stands_alive : (size : ℕ) (heads bytes : List ℕ) (s : Spot) → s.index < (live (head_at heads s.slot)).count
    → (node_in size heads bytes s.slot).dead ≡ false
unfolding node_in node_of live
stands_alive size heads bytes s q =
    by_test (eqb (head_at heads s.slot).dead 1) (λ t. absurd (let z : s.index < 0 = rw t at q in omega arith)) (λ t. t)

pub stands_room : (size slots used : ℕ) (heads bytes : List ℕ) (s : Spot) → Ready size slots used heads bytes → SpotIn size used heads bytes s
    → (live (head_at heads s.slot)).used ≤ 4 * size
stands_room size slots used heads bytes s r q = omega (arith, (r.lies s.slot q.slot).room, (r.lies s.slot q.slot).used)

-- what the writers of an entry that stands take of these
pub ruleset stands = (stands_alive, stands_room)
