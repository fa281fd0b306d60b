-- Laws of a node in the block chosen for it: the image, the lists, the slots after it. Assumes nothing.
use Rattle.std.specs.Prelude.{◌≡◌, refl, Bool, true, false, ◌&&◌, get_or, take, drop, Option, Some, None, is_some, option_to_list}
use Rattle.std.specs.Option.{option_or}
use Rattle.std.specs.Bool.{then_some}
use Rattle.std.specs.Int.{from_bool}
use Rattle.std.proofs.Math.Path.{sym, ap, ap₂}
use Rattle.std.proofs.Common.{◌∙◌, mul-le-mul, add-one, length-append, length-drop, length-take-le}
use mathlib.Core.List.{List, [], ◌∷◌, ◌++◌, map}
use Rattle.std.proofs.Math.Bool.{cond}
use Prim.Native.Nat.{ℕ, ◌+◌, ◌-◌, ◌*◌, ◌≤◌, ◌<◌, ◌^◌}
use native.Mathlib.Omega.{arith}
use Rattle.std.proofs.Math.ListN.{length, set}
use Rattle.std.proofs.Math.Dec.{eqb}
use Rattle.tree.specs.Format.{splice, MemNode, Head, head_at, head_words, marked, node_of, only, numbered, pack_node}
use Rattle.tree.specs.State.{no_node}
use Rattle.tree.specs.Workspace.{nodes_of, state_of}
use Rattle.tree.specs.internal.Bank.{node_in, live, Put}
use Rattle.tree.specs.internal.Block.{written_with_id, packed_slot}
use Rattle.tree.specs.laws.base.Node.{by_test}
use Rattle.tree.specs.laws.base.NodeSlots.{part_back}
use Rattle.tree.specs.laws.slots.Bank.{node_at_lem, put_set}
use Rattle.tree.specs.laws.slots.Block.{bool_number}
use Rattle.tree.specs.declared.editor.Tree.{Tree}
use Rattle.flush.specs.Space.{Space, taken}
use Rattle.flush.specs.Flush.{Flushing, slot_number, type_of, build_of, rewritten, write_at}
use Rattle.flush.specs.declared.flush.Flushing as code
use Rattle.flush.specs.Answers.{pairs_of}
use Rattle.flush.specs.internal.Lists.{numbers_of, Pushed}
use Rattle.flush.specs.internal.Walk.{flushing_of, packed_at, Standing, Dirty, Room, Left, WroteAt}
use Rattle.flush.specs.laws.ListLaws.{some_length, pairs_push, pairs_end}
use Rattle.flush.specs.laws.WriteLaws.{put_written, standing_after, alike_after, kids_numbered}

-- ---- the part of the image that is lent

pub start_small : (a size : ℕ) → a ≤ 2 ^ 20 → size ≤ 65536 → a * size < 2 ^ 64
start_small a size h k = let m : a * size ≤ 2 ^ 20 * 65536 = mul-le-mul h k in omega arith

pub lent_long : (a size node : ℕ) (image : List ℕ) → a * size + size ≤ length image → node ≡ size
    → node ≤ length (take (length image - a * size) (drop (a * size) image))
lent_long a size node image h e =
    omega (
      arith,
      length-drop (a * size) image,
      length-take-le (length image - a * size) (drop (a * size) image) (omega (
        arith,
        length-drop
            (a * size) image,
      )),
    )

spliced_long : (l vs : List ℕ) → length vs ≤ length (splice l 0 vs)
unfolding splice
spliced_long l vs = omega (arith, length-append vs (drop (0 + length vs) l))

module _ (size slots n a oid xid otype : ℕ) (t : Tree) (heads bytes : List ℕ) (st : Standing size slots t heads bytes)
    (hd : Dirty size t heads bytes n) where
  packed_block : otype ≡ type_of t.by_id (eqb n t.root)
      → packed_slot t size heads bytes n oid xid otype
      ≡ pack_node (build_of (state_of size t heads bytes) xid oid n (get_or (nodes_of size heads bytes t.used) n no_node))
      (map (numbered (slot_number t.by_id (nodes_of size heads bytes t.used))) (get_or (nodes_of size heads bytes t.used) n no_node).entries)
  unfolding packed_slot build_of state_of
  packed_block e = rw (node_at_lem size heads bytes t.used n hd.alive.used, kids_numbered size slots n t heads bytes st hd.alive.used, e)

  -- the image as it comes back
  pub packed_image : (image image' d : List ℕ) (k : ℕ) → a * size + size ≤ length image → otype ≡ type_of t.by_id (eqb n t.root)
      → k ≡ length image - a * size → length d ≡ k
      → d ≡ splice (take k (drop (a * size) image)) 0 (packed_slot t size heads bytes n oid xid otype)
      → image' ≡ take (a * size) image ++ (d ++ drop k (drop (a * size) image))
      → image' ≡ packed_at (state_of size t heads bytes) xid n a oid image
  unfolding packed_at state_of
  packed_image image image' d k h e ek ld ed ei =
      let vs : List ℕ = packed_slot t size heads bytes n oid xid otype in
      let v : length vs ≤ k = omega (arith, spliced_long (take k (drop (a * size) image)) vs, ap length ed) in
      ei ∙ part_back image (a * size) k d vs (omega arith) v ed ∙ ap₂ (λ (o : ℕ) (x : List ℕ). splice image (a * o) x) (sym st.same)
      (packed_block e)

-- ---- the whole

flushing_same : (i i' : List ℕ) (p : Space) (ns ns' : List MemNode) (n n' : ℕ) (f f' r : List ℕ) (m m' : List (ℕ × ℕ)) (a a' : ℕ)
    → i ≡ i' → ns ≡ ns' → n ≡ n' → f ≡ f' → m ≡ m' → a ≡ a'
    → ◌≡◌ {A = Flushing} (record { image = i; space = p; nodes = ns; next = n; freed = f; removed = r; moved = m; allocated = a })
    (record { image = i'; space = p; nodes = ns'; next = n'; freed = f'; removed = r; moved = m'; allocated = a' })
flushing_same i i' p ns ns' n n' f f' r m m' a a' e1 e2 e3 e4 e5 e6 = rw (e1, e2, e3, e4, e5, e6)

-- the next id where there is none: a node that has one takes none
fresh_id : (own : Option ℕ) (v : Bool) (x : ℕ)
    → option_to_list (option_or own (then_some (v && eqb (length (option_to_list own)) 0) x))
    ≡ cond (v && eqb (length (option_to_list own)) 0) (x ∷ []) (option_to_list own)
fresh_id None true x = refl
fresh_id None false x = refl
fresh_id (Some y) true x = refl
fresh_id (Some y) false x = refl

fresh_count : (b : Bool) (x : ℕ) → from_bool (is_some (then_some b x)) ≡ from_bool b
fresh_count true x = refl
fresh_count false x = refl

module _ (size slots xid n a : ℕ) (t : Tree) (image image' heads heads' bytes fs fs' is is' ps ps' : List ℕ) (w : code.Flushing)
    (st : Standing size slots t heads bytes) (hd : Dirty size t heads bytes n) (h : Head) (eh : h ≡ live (head_at heads n))
    (own fresh id old o o' : Option ℕ) (new is_new : Bool) (oid k f m m' : ℕ) (ew : option_to_list own ≡ marked h.named h.id)
    (en : new ≡ t.by_id && eqb (length (option_to_list own)) 0) (ef : fresh ≡ then_some new w.next) (ei : id ≡ option_or own fresh)
    (eo : oid ≡ cond t.by_id (only (option_to_list id)) a) (el : option_to_list old ≡ marked h.placed h.block)
    (pf : Pushed w.freed (option_to_list old) fs fs' f) (em : image' ≡ packed_at (state_of size t heads bytes) xid n a oid image)
    (es : heads' ≡ splice heads (n * 9) (head_words (written_with_id (head_at heads n) a id)))
    (e1 : o ≡ then_some t.by_id oid) (e2 : o' ≡ then_some t.by_id a) (pi : Pushed w.moved (option_to_list o) is is' m)
    (pp : Pushed w.moved (option_to_list o') ps ps' m') (et : is_new ≡ is_some fresh)
    (ek : k ≡ from_bool is_new) where
  node_is : get_or (nodes_of size heads bytes t.used) n no_node ≡ node_in size heads bytes n
  node_is = node_at_lem size heads bytes t.used n hd.alive.used

  put_is : Put size slots heads bytes heads' bytes n (rewritten (node_in size heads bytes n) a (option_to_list id))
  put_is = put_written size slots t.used n a id heads heads' bytes st.ready hd.alive.used es

  nodes_are : nodes_of size heads' bytes t.used ≡ set (nodes_of size heads bytes t.used) n (rewritten (node_in size heads bytes n) a
      (option_to_list id))
  nodes_are = put_set size slots heads bytes heads' bytes n _ put_is t.used st.ready.within hd.alive.used

  block_is : (node_in size heads bytes n).block ≡ marked h.placed h.block
  unfolding node_in node_of live
  block_is = rw eh

  left_is : (node_in size heads bytes n).block ≡ option_to_list old
  left_is = block_is ∙ sym el

  id_is : (node_in size heads bytes n).id ≡ marked h.named h.id
  unfolding node_in node_of live
  id_is = rw eh

  abbrev held : List ℕ
  held = (get_or (nodes_of size heads bytes t.used) n no_node).id

  held_is : option_to_list own ≡ held
  held_is = ew ∙ sym (ap (λ (y : MemNode). y.id) node_is ∙ id_is)

  new_is : new ≡ t.by_id && eqb (length held) 0
  new_is = en ∙ ap (λ (l : List ℕ). t.by_id && eqb (length l) 0) held_is

  count_is : k ≡ cond (t.by_id && eqb (length held) 0) 1 0
  count_is = rw (ek, et, ef, fresh_count new w.next) (bool_number new) ∙ ap (λ (b : Bool). cond b 1 0) new_is

  list_is : option_to_list id ≡ cond (t.by_id && eqb (length held) 0) (w.next ∷ []) held
  list_is = rw (ei, ef, en) (fresh_id own t.by_id w.next)
      ∙ ap (λ (l : List ℕ). cond (t.by_id && eqb (length l) 0) (w.next ∷ []) l) held_is

  oid_is : oid ≡ cond t.by_id (only (cond (t.by_id && eqb (length held) 0) (w.next ∷ []) held)) a
  oid_is = eo ∙ ap (λ (l : List ℕ). cond t.by_id (only l) a) list_is

  at_block : (p : Space) (c : ℕ)
      → flushing_of size t image' (taken p (record { chunk = c; block = a })) heads' bytes fs' is' ps'
      (record { next = w.next + k; freed = f; removed = w.removed; moved = m; allocated = w.allocated + 1 })
      ≡ write_at (state_of size t heads bytes) xid n (record { chunk = c; block = a }) (flushing_of size t image p heads bytes fs is ps w)
  unfolding flushing_of write_at state_of packed_at
  at_block p c =
      flushing_same image' _ _ (nodes_of size heads' bytes t.used) _ (w.next + k) _ (numbers_of f fs') _ _ (pairs_of m is' ps') _
      (w.allocated + 1) _
      (em ∙ ap (λ (o : ℕ). packed_at (state_of size t heads bytes) xid n a o image) oid_is)
      (nodes_are ∙ ap₂ (λ (y : MemNode) (l : List ℕ). set (nodes_of size heads bytes t.used) n (rewritten y a l)) (sym node_is) list_is)
      (ap (λ (x : ℕ). w.next + x) count_is)
      (pf.numbers ∙ ap (λ (l : List ℕ). numbers_of w.freed fs ++ l) (sym (ap (λ (y : MemNode). y.block) node_is ∙ left_is)))
      (pairs_push t.by_id w.moved m m' oid a o o' is is' ps ps' e1 e2 pi pp
      ∙ ap (λ (x : ℕ). pairs_of w.moved is ps ++ cond t.by_id ((x, a) ∷ []) []) oid_is)
      (add-one w.allocated)

  pub at_wrote : WroteAt size t xid n a image image' heads heads' bytes fs fs' is is' ps ps' w
      (record { next = w.next + k; freed = f; removed = w.removed; moved = m; allocated = w.allocated + 1 })
  at_wrote = record { is = at_block }

  pub at_left : length heads' ≡ length heads → Left size slots t heads heads' bytes fs fs' is is' ps ps' w
      (record { next = w.next + k; freed = f; removed = w.removed; moved = m; allocated = w.allocated + 1 })
  at_left e = record {
    standing = standing_after size slots n a t heads heads' bytes (option_to_list id) st hd.alive.used put_is e;
    alike = alike_after size slots n a t heads heads' bytes (option_to_list id) st hd.alive.used put_is;
    freed = pf.past;
    ids = pi.past;
    places = rw (sym (pairs_end t.by_id w.moved m m' oid a o o' is is' ps ps' e1 e2 pi pp)) pp.past;
    frees = omega (arith, pf.count);
    moves = omega (arith, pi.count);
    removed = refl;
  }

-- ---- room for one node

module _ (size n : ℕ) (t : Tree) (heads bytes fs is ps : List ℕ) (w : code.Flushing) (r : Room size t heads bytes fs is ps n w) (h : Head)
    (eh : h ≡ live (head_at heads n)) where
  pub room_freed : (o : Option ℕ) → option_to_list o ≡ marked h.placed h.block → w.freed + length (option_to_list o) ≤ length fs
  unfolding node_in node_of live
  room_freed o e = rw (e, eh) r.freed

  pub room_ids : (x : ℕ) (o : Option ℕ) → o ≡ then_some t.by_id x → w.moved + length (option_to_list o) ≤ length is
  room_ids x o e = omega (arith, some_length t.by_id x o e, r.ids)

  pub room_places : (x : ℕ) (o : Option ℕ) → o ≡ then_some t.by_id x → w.moved + length (option_to_list o) ≤ length ps
  room_places x o e = omega (arith, some_length t.by_id x o e, r.places)

  pub room_next : (own fresh : Option ℕ) (new is_new : Bool) (x k : ℕ) → option_to_list own ≡ marked h.named h.id
      → new ≡ t.by_id && eqb (length (option_to_list own)) 0 → fresh ≡ then_some new x → is_new ≡ is_some fresh → k ≡ from_bool is_new
      → w.next + k < 2 ^ 64
  unfolding node_in node_of live
  room_next own fresh new is_new x k e f g i j = rw (j, i, g, fresh_count new x, bool_number new, f, e, eh) r.next

  -- room for one more, and for as many as are moved: a wrong count is refused for what it says, not for its size
  pub room_allocated : (w.allocated + 1 < 2 ^ 64) × (w.allocated + from_bool t.by_id < 2 ^ 64)
  room_allocated = (r.allocated, by_test t.by_id (λ q. rw q (omega (arith, r.allocated))) (λ q. rw q (omega (arith, r.allocated))))

pub ruleset packing = (start_small, lent_long, packed_image)

pub ruleset writing = (room_ids, room_places, room_allocated)
