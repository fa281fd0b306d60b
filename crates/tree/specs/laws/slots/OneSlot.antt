-- Laws of the functions that write one slot. Assumes nothing.
use Rattle.std.specs.Prelude.{◌≡◌, refl, Bool, true, false, ℕ, ◌+◌, ◌*◌, ◌≤◌, ◌<◌, ◌^◌, get_or, take, drop}
use Rattle.std.proofs.Math.Path.{sym, ap}
use Rattle.std.proofs.Common.{◌∙◌, arith, get_or-drop}
use mathlib.Core.List.{List, [], ◌++◌}
use Rattle.std.proofs.Math.ListN.{length, length-append}
use Rattle.node.specs.Bytes.{window, splice}
use Rattle.node.specs.laws.base.Seal.{length_window, length_splice, get_d_after}
use Rattle.node.specs.laws.base.Seal.{part_back, part_whole}
use Rattle.node.specs.laws.base.Tests.{never}
use Rattle.node.specs.laws.base.Bytes.{Bytes}
use Rattle.node.specs.Entry.{Entry, Val, ghost, leaf, disk, mem, value_length}
use Rattle.node.specs.Find.{val_at}
use Rattle.node.specs.Records.{records_of, record_length, records_length, entry_of, entries_of}
use Rattle.node.specs.laws.slot.Records.{entries_head, records_back, entries_back, records_size, Storables}
use Rattle.node.specs.Read.{on_disk, spans_length, entries_from}
use Rattle.node.specs.internal.ReadSteps.{Sound}
use Rattle.node.specs.laws.read.Accepted.{storable_from, size_from}
use Rattle.node.specs.laws.read.Read.{few}
use Rattle.node.specs.Cut as cutting
use Rattle.node.specs.Slot.{head_at, head_words, node_of, with_value, is_child, child_means}
use Rattle.node.specs.laws.slot.Slot.{at_lies}
use Rattle.node.specs.laws.slot.Head.{head_same, head_other, head_read_node}
use Rattle.node.specs.internal.SlotSteps.{read_head}
use Rattle.node.specs.declared.head.Head.{Head}
use Rattle.node.specs.declared.read.Node.{Node}
use Rattle.node.specs.internal.Storable.{Held}
use Rattle.node.specs.declared.val.Child.TheVariants as child
use Rattle.node.specs.laws.read.Loaded.{entries_length}
use Rattle.tree.specs.Workspace.{slot_bytes}
use Rattle.tree.specs.State.{with_entries, marked_dirty, changed}
use Rattle.tree.specs.Load.{adopted}
use Rattle.tree.specs.internal.Bank.{node_in, live, Lies, Ready, Wrote, number_holds, words_hold}
use Rattle.tree.specs.laws.slots.Bank.{slots_below, live_entries, live_node, part_same, part_other, live_words, dirty_words}

-- ---- what a bank that is ready leaves

pub ready_part : (size slots used : ℕ) (heads bytes : List ℕ) (n : ℕ) → Ready size slots used heads bytes → n < used
    → n * (4 * size) + 4 * size ≤ length bytes
ready_part size slots used heads bytes n r h =
    let w : used ≤ slots = r.within in
    let p : n * (4 * size) + 4 * size ≤ (slots + slots) * (4 * size) = slots_below (4 * size) n (slots + slots) (omega arith) in
    omega (arith, r.room)

-- a lent part of a slot's width is the slot
pub part_is : (size : ℕ) (bytes : List ℕ) (n k : ℕ) → k ≡ 4 * size → take k (drop (n * (4 * size)) bytes) ≡ slot_bytes size bytes n
unfolding slot_bytes window
part_is size bytes n k e = ap (λ (j : ℕ). take j (drop (n * (4 * size)) bytes)) e

pub part_long : (size : ℕ) (bytes : List ℕ) (n : ℕ) → n * (4 * size) + 4 * size ≤ length bytes → length (slot_bytes size bytes n) ≡ 4 * size
unfolding slot_bytes
part_long size bytes n h = length_window (n * (4 * size)) (4 * size) bytes h

-- a slot that came back
pub part_given : (size : ℕ) (bytes bytes' d : List ℕ) (n k : ℕ) → k ≡ 4 * size → length d ≡ k → bytes' ≡ take (n * (4 * size)) bytes ++
    (d ++ drop k (drop (n * (4 * size)) bytes))
    → bytes' ≡ splice bytes (n * (4 * size)) d
part_given size bytes bytes' d n k e f g = g ∙ part_whole bytes (n * (4 * size)) k d f

-- the first bytes of slot c replaced: the slot is replaced by itself with these bytes
pub inner : (size : ℕ) (bytes vs : List ℕ) (c : ℕ) → c * (4 * size) + 4 * size ≤ length bytes → length vs ≤ 4 * size
    → splice bytes (c * (4 * size)) vs ≡ splice bytes (c * (4 * size)) (splice (slot_bytes size bytes c) 0 vs)
unfolding slot_bytes window
inner size bytes vs c h v =
    let w : ℕ = 4 * size in
    let d : List ℕ = splice (take (4 * size) (drop (c * (4 * size)) bytes)) 0 vs in
    let l : length (slot_bytes size bytes c) ≡ 4 * size = part_long size bytes c h in
    let e : length d ≡ 4 * size = length_splice (take (4 * size) (drop (c * (4 * size)) bytes)) 0 vs (omega arith) ∙ l in
    sym (part_back bytes (c * (4 * size)) (4 * size) d vs h v refl) ∙ part_whole bytes (c * (4 * size)) (4 * size) d e

-- words after a slot's
pub word_after : (heads : List ℕ) (n : ℕ) (h : Head) (j : ℕ) → n * 9 + 9 ≤ j → n * 9 + 9 ≤ length heads
    → get_or (splice heads (n * 9) (head_words h)) j 0 ≡ get_or heads j 0
unfolding head_words
word_after heads n h j e l = get_d_after heads (n * 9) (head_words h) j e (omega arith)

-- ---- a child linked

child_long : (v : Val) → is_child v ≡ true → value_length v ≡ 8
unfolding is_child value_length
child_long ghost h = never h refl
child_long (leaf v) h = never h refl
child_long (disk r) h = refl
child_long (mem c) h = refl

pub ready_most : (size slots used : ℕ) (heads bytes : List ℕ) → Ready size slots used heads bytes → size ≤ 65536
ready_most size slots used heads bytes r = r.most

pub ready_few : (size slots used n : ℕ) (heads bytes : List ℕ) → Ready size slots used heads bytes → n < used → n ≤ 4096
ready_few size slots used n heads bytes r h = omega (arith, r.within, r.many)

-- room for one slot more
pub next_words : (size slots used : ℕ) (heads bytes : List ℕ) → Ready size slots used heads bytes → used < slots → used * 9 + 9 ≤ length heads
next_words size slots used heads bytes r h = omega (arith, r.words)

pub next_part : (size slots used : ℕ) (heads bytes : List ℕ) → Ready size slots used heads bytes → used < slots
    → used * (4 * size) + 4 * size ≤ length bytes
next_part size slots used heads bytes r h = omega (arith, r.room, slots_below (4 * size) used (slots + slots) (omega arith))

module _ (size slots used n : ℕ) (heads bytes : List ℕ) (r : Ready size slots used heads bytes) (hn : n < used) (l : List ℕ)
    (is : l ≡ slot_bytes size bytes n) (h : Head) (eh : h ≡ live (head_at heads n)) where
  pub slot_long : length l ≡ 4 * size
  slot_long = ap length is ∙ part_long size bytes n (ready_part size slots used heads bytes n r hn)

  lies : Lies size h l
  lies = rw (eh, is) (r.lies n hn)

  pub slot_room : records_length h.count l ≤ length l
  slot_room = omega (arith, lies.room, slot_long)

  pub slot_used : h.used ≡ records_length h.count l
  slot_used = lies.used

  pub slot_index : (i : ℕ) → i < (live (head_at heads n)).count → i < h.count
  slot_index i q = rw eh q

  entries_are : (node_in size heads bytes n).entries ≡ entries_of h.count l
  unfolding node_in
  entries_are = live_entries (head_at heads n) (slot_bytes size bytes n) ∙ rw (eh, is)

  pub slot_child : (i : ℕ) → is_child (val_at (node_in size heads bytes n).entries i) ≡ true → is_child (val_at (entries_of h.count l) i) ≡ true
  slot_child i q = ap (λ (x : List Entry). is_child (val_at x i)) (sym entries_are) ∙ q

  -- entry i of the slot, as the code finds it
  module _ (i at : ℕ) (hi : i < h.count) (ea : at ≡ records_length i l) where
    pub slot_lies : at + record_length (drop at l) ≤ length l
    slot_lies = at_lies l h.count i at slot_room hi ea

    pub slot_entry : entry_of (drop at l) ≡ get_or (node_in size heads bytes n).entries i (record { key = []; value = ghost })
    slot_entry =
        let z : i + 0 ≡ i = omega arith in
        sym (ap (λ (x : List Entry). get_or x 0 (record { key = []; value = ghost })) (entries_head i h.count at l hi ea))
        ∙ get_or-drop i (entries_of h.count l) 0 (record { key = []; value = ghost })
        ∙ ap (λ (j : ℕ). get_or (entries_of h.count l) j (record { key = []; value = ghost })) z
        ∙ ap (λ (x : List Entry). get_or x i (record { key = []; value = ghost })) (sym entries_are)

module _ (size slots used n : ℕ) (heads bytes : List ℕ) (r : Ready size slots used heads bytes) (hn : n < used) (k : ℕ) (ek : k ≡ 4 * size)
    (h : Head) (eh : h ≡ live (head_at heads n)) where
  abbrev l : List ℕ
  l = take k (drop (n * (4 * size)) bytes)

  held : Lies size h l
  held = lies size slots used n heads bytes r hn l (part_is size bytes n k ek) h eh

  -- a slot's entries changed, its words kept
  pub entries_put : (es : List Entry) (d : List ℕ) → records_length h.count d ≡ h.used → entries_of h.count d ≡ es → length d ≡ k
      → (bytes' : List ℕ) → bytes' ≡ take (n * (4 * size)) bytes ++ (d ++ drop k (drop (n * (4 * size)) bytes))
      → Wrote size heads bytes heads bytes' n (with_entries (node_in size heads bytes n) es)
  unfolding node_in
  entries_put es d e1 e2 ed bytes' g =
      let q : bytes' ≡ splice bytes (n * (4 * size)) d = part_given size bytes bytes' d n k ek ed g in
      let o : n * (4 * size) + 4 * size ≤ length bytes = ready_part size slots used heads bytes n r hn in
      let f : length d ≡ 4 * size = ed ∙ ek in
      let s : slot_bytes size bytes' n ≡ d = ap (λ (x : List ℕ). slot_bytes size x n) q ∙ part_same size bytes d n f o in
      let e2' : entries_of (live (head_at heads n)).count d ≡ es = rw (← eh) e2 in
      let lr : records_length (live (head_at heads n)).count d ≡ h.used = rw (← eh) e1 in
      record {
        node = rw (s, ← e2') (live_node (head_at heads n) (slot_bytes size bytes n) d);
        lies = record {
          room = rw s (omega (arith, lr, held.room, held.used));
          used = rw s (ap (λ (x : Head). x.used) (sym eh) ∙ sym lr);
          holds = rw (← eh) held.holds;
        };
        words = λ j e. refl;
        parts = λ j e. ap (λ (x : List ℕ). slot_bytes size x j) q ∙ part_other size bytes d n f o j e;
        after = λ j e. refl;
      }

  pub link_put : (i c : ℕ) (d : List ℕ) → records_length h.count d ≡ h.used → entries_of h.count d ≡ with_value i (mem c)
      (entries_of h.count l) → length d ≡ k
      → (bytes' : List ℕ) → bytes' ≡ take (n * (4 * size)) bytes ++ (d ++ drop k (drop (n * (4 * size)) bytes))
      → Wrote size heads bytes heads bytes' n (with_entries (node_in size heads bytes n) (with_value i (mem c) (node_in size heads bytes n).entries))
  link_put i c d e1 e2 ed bytes' g = entries_put (with_value i (mem c) (node_in size heads bytes n).entries) d e1
      (e2 ∙ ap (with_value i (mem c)) (sym (entries_are size slots used n heads bytes r hn l (part_is size bytes n k ek) h eh))) ed bytes' g

-- ---- a child relinked

-- record i, as the code finds it, holds a child where entry i does
pub link_old : (l : List ℕ) (count i at : ℕ) → i < count → at ≡ records_length i l → is_child (val_at (entries_of count l) i) ≡ true
    → is_child (entry_of (drop at l)).value ≡ true
unfolding val_at
link_old l count i at hi ea child =
    let z : i + 0 ≡ i = omega arith in
    let none : Entry = record { key = []; value = ghost } in
    let same : (entry_of (drop at l)).value ≡ val_at (entries_of count l) i =
    sym (ap (λ (x : List Entry). (get_or x 0 none).value) (entries_head i count at l hi ea))
    ∙ ap (λ (x : Entry). x.value) (get_or-drop i (entries_of count l) 0 none ∙ ap (λ (j : ℕ). get_or (entries_of count l) j none) z) in
    ap is_child same ∙ child

pub link_used : (l d : List ℕ) (count : ℕ) → ((j : ℕ) → j ≤ count → records_length j d ≡ records_length j l)
    → records_length count d ≡ records_length count l
link_used l d count f = f count (omega arith)

pub link_entries_lem : (l d : List ℕ) (count i c : ℕ) → entries_of count d ≡ with_value i (child_means (child.Mem c)) (entries_of count l)
    → entries_of count d ≡ with_value i (mem c) (entries_of count l)
unfolding child_means
link_entries_lem l d count i c e = e

pub link_held : (c : ℕ) → c < 2 ^ 64 → Held (child_means (child.Mem c))
unfolding child_means
link_held c h = h

-- ---- a slot's mark set

pub dirty_wrote : (size slots used n : ℕ) (heads heads' bytes : List ℕ) → Ready size slots used heads bytes → n < used → (h : Head)
    → h ≡ head_at heads n
    → heads' ≡ splice heads (n * 9) (head_words (record {
      level = h.level;
      count = h.count;
      used = h.used;
      placed = h.placed;
      block = h.block;
      named = h.named;
      id = h.id;
      dirty = 1;
      dead = h.dead;
    }))
    → Wrote size heads bytes heads' bytes n (marked_dirty (node_in size heads bytes n))
unfolding node_in node_of live marked_dirty changed
dirty_wrote size slots used n heads heads' bytes r hn h eh e =
    let d : Head = record {
      level = h.level;
      count = h.count;
      used = h.used;
      placed = h.placed;
      block = h.block;
      named = h.named;
      id = h.id;
      dirty = 1;
      dead = h.dead;
    } in
    let w : n * 9 + 9 ≤ length heads = omega (arith, r.words, r.within) in
    let s : head_at heads' n ≡ d = ap (λ (x : List ℕ). head_at x n) e ∙ head_same heads n d (omega arith) in
    let l : Lies size (live h) (slot_bytes size bytes n) = rw eh (r.lies n hn) in
    record {
      node = rw (s, ← eh);
      lies = record {
        room = rw s l.room;
        used = rw s l.used;
        holds = rw s (live_words d ∙ dirty_words h h.count h.used (sym (live_words h) ∙ l.holds));
      };
      words = λ j q. ap (λ (x : List ℕ). head_at x j) e ∙ head_other heads n j d (omega arith) (λ z. q (sym z));
      parts = λ j q. refl;
      after = λ j q. ap (λ (x : List ℕ). get_or x j 0) e ∙ word_after heads n d j q w;
    }

-- ---- a node adopted

pub read_words : (v : Node) (used block : ℕ) (by_id : Bool) → words_hold (live (read_head v used block by_id)) ≡ true
unfolding live read_head words_hold number_holds
read_words v used block true = refl
read_words v used block false = refl

module _ (size c a used : ℕ) (is_virtual : Bool) (block heads heads' bytes bytes' d : List ℕ) (v : Node) (k : ℕ) (ek : k ≡ 4 * size)
    (bb : Bytes block) (eb : length block ≡ size) (sound : Sound v block) (small : spans_length v block 0 v.nkeys ≤ 65532)
    (hw : c * 9 + 9 ≤ length heads) (hb : c * (4 * size) + 4 * size ≤ length bytes)
    (e0 : d ≡ splice (take k (drop (c * (4 * size)) bytes)) 0 (records_of (entries_from v block 0 v.nkeys)))
    (e1 : used ≡ length (records_of (entries_from v block 0 v.nkeys)))
    (h : Head) (eh : h ≡ read_head v used a is_virtual) (ed : length d ≡ k) where
  abbrev es : List Entry
  es = entries_from v block 0 v.nkeys

  storable : Storables es
  storable = storable_from v block 0 v.nkeys bb sound.held small

  abbrev t : List ℕ
  t = drop (0 + length (records_of es)) (take k (drop (c * (4 * size)) bytes))

  put_entries_lem : entries_of v.nkeys d ≡ es
  unfolding splice
  put_entries_lem = ap (entries_of v.nkeys) e0 ∙ ap (λ (n : ℕ). entries_of n (records_of es ++ t)) (sym (entries_length v block 0 v.nkeys))
      ∙ entries_back es t storable

  put_length : records_length v.nkeys d ≡ used
  unfolding splice
  put_length = ap (records_length v.nkeys) e0 ∙ ap (λ (n : ℕ). records_length n (records_of es ++ t)) (sym (entries_length v block 0 v.nkeys))
      ∙ records_back es t storable ∙ sym e1

  record_sum : used ≤ 2 * size
  unfolding splice
  record_sum =
      let a : length d ≡ length (records_of es) + length t = ap length e0 ∙ length-append (records_of es) t in
      let b : records_length v.nkeys d + 4 * v.nkeys ≡ cutting.size (entries_of v.nkeys d) = records_size v.nkeys d
      (omega (arith, put_length)) in
      let e : cutting.size es ≡ spans_length v block 0 v.nkeys + 8 * v.nkeys = size_from v block 0 v.nkeys sound.held in
      omega (arith, b, ap cutting.size put_entries_lem, e, put_length, few v (length block) sound.laid, sound.sum)

  module _ (g : bytes' ≡ take (c * (4 * size)) bytes ++ (d ++ drop k (drop (c * (4 * size)) bytes)))
      (gh : heads' ≡ splice heads (c * 9) (head_words h)) where
    bytes_are : bytes' ≡ splice bytes (c * (4 * size)) d
    bytes_are = part_given size bytes bytes' d c k ek ed g

    slot_is : slot_bytes size bytes' c ≡ d
    slot_is = ap (λ (x : List ℕ). slot_bytes size x c) bytes_are ∙ part_same size bytes d c (ed ∙ ek) hb

    head_is : head_at heads' c ≡ read_head v used a is_virtual
    head_is = ap (λ (x : List ℕ). head_at x c) gh ∙ head_same heads c h (omega arith) ∙ eh

    node_is : node_in size heads' bytes' c ≡ adopted is_virtual a (on_disk v block)
    unfolding node_in adopted on_disk
    node_is = rw (slot_is, head_is, head_read_node v used a is_virtual d, put_entries_lem)

    lies_so : Lies size (live (head_at heads' c)) (slot_bytes size bytes' c)
    unfolding live read_head
    lies_so = record {
      room = rw (slot_is, head_is) (omega (arith, put_length, record_sum, e1));
      used = rw (slot_is, head_is) (sym put_length);
      holds = rw head_is (read_words v used a is_virtual);
    }

    pub adopt_put : Wrote size heads bytes heads' bytes' c (adopted is_virtual a (on_disk v block))
    adopt_put =
        record {
          node = node_is;
          lies = lies_so;
          words = λ j e. ap (λ (x : List ℕ). head_at x j) gh ∙ head_other heads c j h (omega arith) (λ z. e (sym z));
          parts = λ j e. ap (λ (x : List ℕ). slot_bytes size x j) bytes_are ∙ part_other size bytes d c (ed ∙ ek) hb j e;
          after = λ j e. ap (λ (x : List ℕ). get_or x j 0) gh ∙ word_after heads c h j e (omega arith);
        }

-- what `link_part` takes of these
pub ruleset links = (link_old, link_held, link_used, link_entries_lem)

pub ruleset ready_slot = (ready_part, ready_most, ready_few)

pub ruleset bring_laws = (next_words, next_part)
