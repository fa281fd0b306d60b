-- Refusal 1 passed: the workspace is ready, and the state is trusted. Assumes nothing.
use Rattle.std.specs.Prelude.{◌≡◌, List, [], cond, ◌&&◌, ◌||◌, not, ℕ, zero, suc, ◌+◌, ◌*◌, ◌%◌, ◌^◌, ◌≤◌, ◌<◌, length}
use Rattle.std.proofs.Math.Path.{refl, sym}
use Rattle.std.proofs.Common.{◌∙◌, arith}
use Rattle.std.proofs.Math.Bool.{Bool, true, false}
use Rattle.std.proofs.Math.Dec.{leb, ltb, eqb}
use borrow.Author.Tests.{le-leb, leb-true, ltb-true, eq-eqb, eqb-true, not-true, not-false}
use Rattle.node.specs.laws.base.Tests.{by_test, and_split, and-false, and_both, and-true}
use Rattle.node.specs.Order.{known}
use Rattle.node.specs.Result.{Result, refused, ◌>>◌, check}
use Rattle.node.specs.Refusals as refusal
use Rattle.node.specs.Records.{records_length}
use Rattle.node.specs.Fit.{Sized}
use Rattle.node.specs.Slot.{head_at, records_hold}
use Rattle.node.specs.declared.head.Head.{Head}
use Rattle.node.specs.declared.info.BTreeInfo.{BTreeInfo}
use Rattle.tree.specs.Lent as lent
use Rattle.tree.specs.Lent.{is_size, blocks, sizes_hold, lent_of}
use Rattle.tree.specs.State.{State}
use Rattle.tree.specs.Workspace.{slot_bytes, state_of, slot_holds, slots_hold, workspace_holds, called}
use Rattle.tree.specs.Hold.{info_holds, numbers_hold, hold_together, lent_holds}
use Rattle.tree.specs.Trust.{trusted}
use Rattle.tree.specs.internal.Bank.{live, Lies, Ready, words_hold, number_holds}
use Rattle.tree.specs.internal.Holding.{Laid, room_holds}
use Rattle.tree.specs.laws.slots.Bank.{live_words}
use Rattle.tree.specs.laws.slots.OneSlot.{ready_part, part_long}
use Rattle.tree.specs.laws.refusal1.Lent.{size_between}
use Rattle.tree.specs.laws.trust.Granted.{lent_trusted}
use Rattle.tree.specs.declared.editor.Tree.{Tree}
use Rattle.tree.specs.declared.lent.Lent.{Lent}

-- ---- words and bytes

-- of no slot in use a workspace asks no more
pub room_none : (size slots : ℕ) (heads bytes : List ℕ) → room_holds size slots 0 heads bytes ≡ workspace_holds size slots 0 heads bytes
unfolding workspace_holds room_holds slots_hold
room_none size slots heads bytes = sym (and-true (room_holds size slots 0 heads bytes))

-- ---- what lent sizes grant

module _ (l : lent.Lent) (h : sizes_hold l ≡ true) where
  size_is : (is_size l.size ≡ true) × (l.slots ≤ 4096)
  unfolding sizes_hold
  size_is =
      let a : Bool = is_size l.size in
      let b : Bool = eqb (length l.image % l.size) 0 in
      let c : Bool = leb 1 (blocks l) in
      let d : Bool = leb (blocks l) (2 ^ 20) in
      let e : Bool = leb 1 l.slots in
      let (p4, pf) = and_split (a && b && c && d && e) (leb l.slots 4096) h in
      let (p3, pe) = and_split (a && b && c && d) e p4 in
      let (p2, pd) = and_split (a && b && c) d p3 in
      let (p1, pc) = and_split (a && b) c p2 in
      let (pa, pb) = and_split a b p1 in
      (pa, leb-true l.slots 4096 pf)

  pub sizes_least : 512 ≤ l.size
  sizes_least = (size_between l.size size_is.0).0

  pub sizes_most : l.size ≤ 65536
  sizes_most = (size_between l.size size_is.0).1

  pub sizes_many : l.slots ≤ 4096
  sizes_many = size_is.1

-- ---- what the numbers grant

module _ (l : lent.Lent) (s : State) (h : numbers_hold l s ≡ true) where
  sizes : (sizes_hold l ≡ true) × (s.info.node_size ≡ l.size) × (info_holds s.info ≡ true) × (length s.nodes ≤ l.slots)
  unfolding numbers_hold
  sizes =
      let a : Bool = sizes_hold l in
      let b : Bool = eqb s.info.node_size l.size in
      let c : Bool = known s.order in
      let d : Bool = info_holds s.info in
      let e : Bool = eqb (length l.map) (cond s.virtual 1 0) in
      let f : Bool = leb (length s.nodes) l.slots in
      let (p5, pf) = and_split (a && b && c && d && e) f h in
      let (p4, pe) = and_split (a && b && c && d) e p5 in
      let (p3, pd) = and_split (a && b && c) d p4 in
      let (p2, pc) = and_split (a && b) c p3 in
      let (pa, pb) = and_split a b p2 in
      (pa, eqb-true s.info.node_size l.size pb, pd, leb-true (length s.nodes) l.slots pf)

  pub numbers_least : 512 ≤ l.size
  numbers_least = sizes_least l sizes.0

  pub numbers_most : l.size ≤ 65536
  numbers_most = sizes_most l sizes.0

  pub numbers_many : l.slots ≤ 4096
  numbers_many = sizes_many l sizes.0

  pub numbers_sized : Sized s.info
  unfolding info_holds
  numbers_sized =
      let t : BTreeInfo = s.info in
      let a : Bool = ltb t.flags (2 ^ 32) in
      let b : Bool = ltb t.key_size (2 ^ 32) in
      let c : Bool = ltb t.val_size (2 ^ 32) in
      let d : Bool = ltb t.longest_key (2 ^ 32) in
      let (p3, pe) = and_split (a && b && c && d) (ltb t.longest_val (2 ^ 32)) sizes.2 in
      let (p2, pd) = and_split (a && b && c) d p3 in
      let (p1, pc) = and_split (a && b) c p2 in
      let (pa, pb) = and_split a b p1 in
      record {
        least = omega (arith, sizes.1, numbers_least);
        most = omega (arith, sizes.1, numbers_most);
        key = ltb-true t.key_size (2 ^ 32) pb;
        value = ltb-true t.val_size (2 ^ 32) pc;
      }

-- ---- what the workspace grants

module _ (size slots used : ℕ) (heads bytes : List ℕ) (least : 512 ≤ size) (most : size ≤ 65536) (many : slots ≤ 4096) where
  pub room_laid : room_holds size slots used heads bytes ≡ true → Laid size slots used heads bytes
  unfolding room_holds
  room_laid h =
      let (p, c) = and_split (eqb (length heads) (slots * 19) && eqb (length bytes) ((slots + slots) * (4 * size))) (leb used slots) h in
      let (a, b) = and_split (eqb (length heads) (slots * 19)) (eqb (length bytes) ((slots + slots) * (4 * size))) p in
      record {
        least = least;
        most = most;
        many = many;
        words = eqb-true (length heads) (slots * 19) a;
        room = eqb-true (length bytes) ((slots + slots) * (4 * size)) b;
        within = leb-true used slots c;
      }

-- a slot that is a node lies
slot_lies : (size : ℕ) (h : Head) (l : List ℕ) → slot_holds size h l ≡ true → Lies size (live h) l
unfolding slot_holds live records_length records_hold words_hold number_holds
slot_lies size h l e =
    let (p, q) = and_split (words_hold h) (eqb h.dead 1 || leb h.used (2 * size) && records_hold h.count h.used l) e in
    by_test (eqb h.dead 1)
    (λ t. record { room = rw t (omega arith); used = rw t; holds = live_words h ∙ p })
    (λ t. let r : leb h.used (2 * size) && records_hold h.count h.used l ≡ true = rw t at q in
    let (a, b) = and_split (leb h.used (2 * size)) (records_hold h.count h.used l) r in
    let (c, d) = and_split (leb (records_length h.count l) (length l)) (eqb (records_length h.count l) h.used) b in
    let g : records_length h.count l ≡ h.used = eqb-true (records_length h.count l) h.used d in
    record { room = rw t (omega (arith, g, leb-true h.used (2 * size) a)); used = rw t (sym g); holds = live_words h ∙ p })

slots_lie : (size : ℕ) (heads bytes : List ℕ) (m n k : ℕ) → slots_hold size heads bytes m n ≡ true → k < m → Lies size (live (head_at heads (n + k)))
    (slot_bytes size bytes (n + k))
unfolding slots_hold
slots_lie size heads bytes zero n k h q = absurd (omega arith)
slots_lie size heads bytes (suc m) n zero h q =
    let z : n + 0 ≡ n = omega arith in
    rw z (slot_lies size (head_at heads n) (slot_bytes size bytes n)
    (and_split (slot_holds size (head_at heads n) (slot_bytes size bytes n)) (slots_hold size heads bytes m (suc n)) h).0)
slots_lie size heads bytes (suc m) n (suc k) h q =
    let z : n + suc k ≡ suc n + k = omega arith in
    rw z (slots_lie size heads bytes m (suc n) k (and_split (slot_holds size (head_at heads n) (slot_bytes size bytes n))
    (slots_hold size heads bytes m (suc n)) h).1 (omega arith))

laid_ready : (size slots used : ℕ) (heads bytes : List ℕ) → Laid size slots used heads bytes → slots_hold size heads bytes used 0 ≡ true
    → Ready size slots used heads bytes
laid_ready size slots used heads bytes r h =
    record {
      least = r.least;
      most = r.most;
      many = r.many;
      words = r.words;
      room = r.room;
      within = r.within;
      lies = λ n q. let z : 0 + n ≡ n = omega arith in rw z at (slots_lie size heads bytes used 0 n h q);
    }

-- ---- a workspace that is ready passes

lies_slot : (size : ℕ) (h : Head) (l : List ℕ) → length l ≡ 4 * size → Lies size (live h) l → (live h).used ≤ 2 * size → slot_holds size h l ≡ true
unfolding slot_holds live words_hold number_holds records_hold
lies_slot size h l e r m =
    and_both (words_hold h) (eqb h.dead 1 || leb h.used (2 * size) && records_hold h.count h.used l) (sym (live_words h) ∙ r.holds)
    (by_test (eqb h.dead 1)
    (λ t. rw t)
    (λ t. let a : h.used ≤ 2 * size = rw t at m in
    let b : h.used ≡ records_length h.count l = rw t at r.used in
    rw (t, le-leb h.used (2 * size) a, le-leb (records_length h.count l) (length l) (omega arith))
    (eq-eqb (records_length h.count l) h.used (sym b))))

lie_slots : (size : ℕ) (heads bytes : List ℕ) (m n : ℕ)
    → ((k : ℕ) → n ≤ k → k < n + m → slot_holds size (head_at heads k) (slot_bytes size bytes k) ≡ true) → slots_hold size heads bytes m n ≡ true
unfolding slots_hold
lie_slots size heads bytes zero n f = refl
lie_slots size heads bytes (suc m) n f =
    and_both (slot_holds size (head_at heads n) (slot_bytes size bytes n)) (slots_hold size heads bytes m (suc n)) (f n (omega arith) (omega arith))
    (lie_slots size heads bytes m (suc n) (λ k a b. f k (omega arith) (omega arith)))

-- what every call leaves is no workspace that refusal 1 refuses: it is ready, and has room
pub ready_holds : (size slots used : ℕ) (heads bytes : List ℕ) → Ready size slots used heads bytes
    → ((k : ℕ) → k < used → (live (head_at heads k)).used ≤ 2 * size) → workspace_holds size slots used heads bytes ≡ true
unfolding workspace_holds
ready_holds size slots used heads bytes r m =
    let z : slots_hold size heads bytes used 0 ≡ true =
    lie_slots size heads bytes used 0 (λ k a b. let h : k < used = omega arith in
    lies_slot size (head_at heads k) (slot_bytes size bytes k) (part_long size bytes k (ready_part size slots used heads bytes k r h))
    (r.lies k h) (m k h)) in
    rw (
      eq-eqb (length heads) (slots * 19) r.words,
      eq-eqb (length bytes) ((slots + slots) * (4 * size)) r.room,
      le-leb used slots
          r.within,
    ) z

-- and one that passes has that room
slot_small : (size : ℕ) (h : Head) (l : List ℕ) → slot_holds size h l ≡ true → (live h).used ≤ 2 * size
unfolding slot_holds live records_hold words_hold number_holds
slot_small size h l e =
    let (p, q) = and_split (words_hold h) (eqb h.dead 1 || leb h.used (2 * size) && records_hold h.count h.used l) e in
    by_test (eqb h.dead 1)
    (λ t. rw t (omega arith))
    (λ t. let r : leb h.used (2 * size) && records_hold h.count h.used l ≡ true = rw t at q in
    rw t (leb-true h.used (2 * size) (and_split (leb h.used (2 * size)) (records_hold h.count h.used l) r).0))

slots_small : (size : ℕ) (heads bytes : List ℕ) (m n k : ℕ) → slots_hold size heads bytes m n ≡ true → k < m
    → (live (head_at heads (n + k))).used ≤ 2 * size
unfolding slots_hold
slots_small size heads bytes zero n k h q = absurd (omega arith)
slots_small size heads bytes (suc m) n zero h q =
    let z : n + 0 ≡ n = omega arith in
    rw z (slot_small size (head_at heads n) (slot_bytes size bytes n)
    (and_split (slot_holds size (head_at heads n) (slot_bytes size bytes n)) (slots_hold size heads bytes m (suc n)) h).0)
slots_small size heads bytes (suc m) n (suc k) h q =
    let z : n + suc k ≡ suc n + k = omega arith in
    rw z (slots_small size heads bytes m (suc n) k (and_split (slot_holds size (head_at heads n) (slot_bytes size bytes n))
    (slots_hold size heads bytes m (suc n)) h).1 (omega arith))

pub holds_small : (size slots used : ℕ) (heads bytes : List ℕ) (k : ℕ) → workspace_holds size slots used heads bytes ≡ true → k < used
    → (live (head_at heads k)).used ≤ 2 * size
unfolding workspace_holds room_holds
holds_small size slots used heads bytes k h q =
    let z : 0 + k ≡ k = omega arith in
    rw z at (slots_small size heads bytes used 0 k (and_split (room_holds size slots used heads bytes) (slots_hold size heads bytes used 0) h).1 q)

-- ---- refusal 1, one test after the other

module _ (image : List ℕ) (l : Lent) (t : Tree) (k : Bool)
    (ek : (heads bytes : List ℕ) → k ≡ numbers_hold (lent_of image l) (state_of l.size t heads bytes)) (hk : k ≡ true) where
  numbers_so : numbers_hold (lent_of image l) (state_of l.size t [] []) ≡ true
  numbers_so = sym (ek [] []) ∙ hk

  pub lent_most : l.size ≤ 65536
  unfolding lent_of
  lent_most = numbers_most (lent_of image l) (state_of l.size t [] []) numbers_so

  pub lent_many : l.slots ≤ 4096
  unfolding lent_of
  lent_many = numbers_many (lent_of image l) (state_of l.size t [] []) numbers_so

  pub lent_sized : Sized t.info
  unfolding state_of
  lent_sized = numbers_sized (lent_of image l) (state_of l.size t [] []) numbers_so

  pub lent_laid : (heads bytes : List ℕ) (r : Bool) → r ≡ room_holds l.size l.slots t.used heads bytes → r ≡ true
      → Laid l.size l.slots t.used heads bytes
  unfolding lent_of
  lent_laid heads bytes r er hr =
      let least : 512 ≤ l.size = numbers_least (lent_of image l) (state_of l.size t [] []) numbers_so in
      room_laid l.size l.slots t.used heads bytes least lent_most lent_many (sym er ∙ hr)

-- a workspace is its room, and its slots
pub lent_room : (size slots used : ℕ) (heads bytes : List ℕ)
    → workspace_holds size slots used heads bytes ≡ room_holds size slots used heads bytes && slots_hold size heads bytes used 0
unfolding workspace_holds room_holds
lent_room size slots used heads bytes = refl

pub ruleset checked = (lent_most, lent_many, lent_sized, lent_laid, lent_room, and-false)

-- ---- refusal 1

module _ (image : List ℕ) (l : Lent) (t : Tree) (heads bytes : List ℕ) where
  abbrev s : State
  s = state_of l.size t heads bytes

  abbrev room : Bool
  room = room_holds l.size l.slots t.used heads bytes

  abbrev held : Bool
  held = slots_hold l.size heads bytes t.used 0

  abbrev numbers : Bool
  numbers = numbers_hold (lent_of image l) s

  -- refusal 1 passed: the workspace is ready, and the state is trusted
  pub holds_ready : workspace_holds l.size l.slots t.used heads bytes ≡ true → lent_holds (lent_of image l) (state_of l.size t heads bytes)
      ≡ true → Ready l.size l.slots t.used heads bytes
  unfolding lent_holds workspace_holds room_holds lent_of
  holds_ready w h =
      let n : numbers ≡ true = (and_split numbers (hold_together s) h).0 in
      let (a, b) = and_split room held w in
      laid_ready l.size l.slots t.used heads bytes
      (room_laid l.size l.slots t.used heads bytes (numbers_least (lent_of image l) s n) (numbers_most (lent_of image l) s n)
      (numbers_many (lent_of image l) s n) a) b

  pub holds_trusted : lent_holds (lent_of image l) (state_of l.size t heads bytes) ≡ true
      → trusted (lent_of image l) (state_of l.size t heads bytes) ≡ true
  holds_trusted h = lent_trusted (lent_of image l) s h

  -- a call that checks 1 of the workspace and of what is lent
  module _ (k : Bool) (e : k ≡ workspace_holds l.size l.slots t.used heads bytes && lent_holds (lent_of image l)
      (state_of l.size t heads bytes)) where
    module _ (q : not k ≡ false) where
      passed : (workspace_holds l.size l.slots t.used heads bytes ≡ true) × (lent_holds (lent_of image l) s ≡ true)
      passed = and_split (workspace_holds l.size l.slots t.used heads bytes) (lent_holds (lent_of image l) s) (sym e ∙ not-false k q)

      pub called_ready : Ready l.size l.slots t.used heads bytes
      called_ready = holds_ready passed.0 passed.1

      pub called_trusted : trusted (lent_of image l) (state_of l.size t heads bytes) ≡ true
      called_trusted = holds_trusted passed.1

      pub called_sized : Sized t.info
      unfolding lent_holds state_of
      called_sized = numbers_sized (lent_of image l) s (and_split numbers (hold_together s) passed.1).0

    module _ {A : Type 0} (f : State → Result A) where
      pub called_refused : not k ≡ true
          → refused refusal.lent ≡ called l.size l.slots t heads bytes (λ x. check refusal.lent (lent_holds (lent_of image l) x) >> f x)
      unfolding called
      called_refused q =
          by_test (workspace_holds l.size l.slots t.used heads bytes)
          (λ w. let z : lent_holds (lent_of image l) s ≡ false = sym (rw w at e) ∙ not-true k q in rw (w, z))
          (λ w. rw w)

      pub called_passed : not k ≡ false
          → f (state_of l.size t heads bytes) ≡ called l.size l.slots t heads bytes
          (λ x. check refusal.lent (lent_holds (lent_of image l) x) >> f x)
      unfolding called
      called_passed q = rw ((passed q).0, (passed q).1)
