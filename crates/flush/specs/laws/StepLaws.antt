-- Laws of a node that takes a block: what it asks of the space and of the lists. Assumes nothing.
use Rattle.std.specs.Prelude.{◌≡◌, refl, Bool, true, false, cond, ◌&&◌, ℕ, suc, ◌+◌, ◌*◌, ◌/◌, ◌≤◌, ◌<◌, ◌^◌, get_or}
use Rattle.std.proofs.Math.Path.{sym, ap}
use Rattle.std.proofs.Common.{◌∙◌, mul-le-mul_right, div-mul-le_self}
use mathlib.Core.List.{List, [], ◌∷◌, ◌++◌}
use native.Mathlib.Omega.{arith}
use Rattle.std.proofs.Math.ListN.{length, length-append}
use Rattle.std.proofs.Math.Dec.{eqb}
use borrow.Author.Tests.{eq-eqb, ne_eqb}
use Rattle.tree.specs.Format.{Head, head_at, node_of, only}
use Rattle.tree.specs.State.{State, no_node}
use Rattle.tree.specs.Workspace.{nodes_of, state_of}
use Rattle.tree.specs.internal.Bank.{node_in, live}
use Rattle.tree.specs.laws.slots.Bank.{node_at_lem}
use Rattle.tree.specs.declared.editor.Tree.{Tree}
use Rattle.flush.specs.Space.{Space, choose, choice_means, taken, allocated, Held}
use Rattle.flush.specs.laws.SpaceLaws.{by_list, chosen_inside, taken_holds}
use Rattle.flush.specs.laws.SpaceSteps.{space_held}
use Rattle.flush.specs.Flush.{Flushing, write_at, write_node}
use Rattle.flush.specs.declared.flush.Flushing as code
use Rattle.flush.specs.Answers.{pairs_of}
use Rattle.flush.specs.internal.Lists.{numbers_of}
use Rattle.flush.specs.internal.Walk.{flushing_of, Alive, Dirty, Standing, Spaced, Alike, Fitting, Room, Left, WroteAt, Same, SameLists, Listed, Kept}
use Rattle.flush.specs.declared.flush.Reports.{Reports}
use Rattle.std.specs.Borrow.{MutBor}
use Rattle.flush.specs.laws.ListLaws.{numbers_length, pairs_length, past_refl, past_on, past_push, dead_room, push_most, places_start, names_start, places_kept, names_kept}
use Rattle.std.specs.Prelude.{Option, Some, None}
use Rattle.flush.specs.declared.space.Choice as chosen_by

-- ---- what is left, step by step

pub alike_refl : (s : State) → Alike s s
alike_refl s = record { entries = λ n. refl; dead = λ n. refl }

alike_on : (s u v : State) → Alike s u → Alike u v → Alike s v
alike_on s u v p q = record { entries = λ n. q.entries n ∙ p.entries n; dead = λ n. q.dead n ∙ p.dead n }

pub left_same : (size slots : ℕ) (t : Tree) (heads bytes fs is ps : List ℕ) (w : code.Flushing) → Standing size slots t heads bytes
    → Left size slots t heads heads bytes fs fs is is ps ps w w
left_same size slots t heads bytes fs is ps w st =
    record {
      standing = st;
      alike = alike_refl (state_of size t heads bytes);
      freed = past_refl w.freed fs;
      ids = past_refl w.moved is;
      places = past_refl w.moved ps;
      frees = omega arith;
      moves = omega arith;
      removed = refl;
    }

pub left_on : (size slots : ℕ) (t : Tree) (h h' h'' bytes fs fs' fs'' is is' is'' ps ps' ps'' : List ℕ) (u v w : code.Flushing)
    → Left size slots t h h' bytes fs fs' is is' ps ps' u v → Left size slots t h' h'' bytes fs' fs'' is' is'' ps' ps'' v w
    → Left size slots t h h'' bytes fs fs'' is is'' ps ps'' u w
left_on size slots t h h' h'' bytes fs fs' fs'' is is' is'' ps ps' ps'' u v w p q =
    record {
      standing = q.standing;
      alike = alike_on (state_of size t h bytes) (state_of size t h' bytes) (state_of size t h'' bytes) p.alike q.alike;
      freed = past_on v.freed w.freed fs fs' fs'' p.freed q.freed q.frees;
      ids = past_on v.moved w.moved is is' is'' p.ids q.ids q.moves;
      places = past_on v.moved w.moved ps ps' ps'' p.places q.places q.moves;
      frees = omega (arith, p.frees, q.frees);
      moves = omega (arith, p.moves, q.moves);
      removed = q.removed ∙ p.removed;
    }

-- ---- the lists that are lent

pub same_refl : (x : MutBor (List ℕ)) → Same x x
same_refl x = record { reference = refl; long = refl }

pub same_on : (x y z : MutBor (List ℕ)) → Same x y → Same y z → Same x z
same_on x y z p q = record { reference = q.reference ∙ p.reference; long = q.long ∙ p.long }

same_is : (x y z : MutBor (List ℕ)) → y ≡ x → Same y z → Same x z
same_is x y z e q = rw (← e) q

pub kept_refl : (l : Reports) → Kept l l
kept_refl l = record { freed = same_refl l.freed; removed = refl; ids = same_refl l.ids; places = same_refl l.places }

pub kept_on : (l m k : Reports) → Kept l m → Kept m k → Kept l k
kept_on l m k p q =
    record {
      freed = same_on l.freed m.freed k.freed p.freed q.freed;
      removed = q.removed ∙ p.removed;
      ids = same_on l.ids m.ids k.ids p.ids q.ids;
      places = same_on l.places m.places k.places p.places q.places;
    }

-- dead nodes listed, then the walk
pub lists_same : (l m k : Reports) → Listed l m → Kept m k → SameLists l k
lists_same l m k p q =
    record {
      freed = same_on l.freed m.freed k.freed p.freed q.freed;
      removed = rw q.removed p.removed;
      ids = same_is l.ids m.ids k.ids p.ids q.ids;
      places = same_is l.places m.places k.places p.places q.places;
    }

-- ---- the space

pub spaced_held : (size blocks : ℕ) (p : Space) → Spaced size blocks p → Held size p
spaced_held size blocks p s = space_held size blocks p s.whole s.few s.holds

pub spaced_same : (size a b : ℕ) (p : Space) → a ≡ b → Spaced size (b / size) p → Spaced size (a / size) p
spaced_same size a b p e s = rw e s

pub fitting_same : (a b c a' b' c' : ℕ) (w : Flushing) → a' ≡ a → b' ≡ b → c' ≡ c → Fitting a b c w → Fitting a' b' c' w
fitting_same a b c a' b' c' w e f g h = rw (e, f, g) h

pub spaced_after : (size blocks : ℕ) (p p' : Space) → Spaced size blocks p → p' ≡ allocated size p → Spaced size blocks p'
unfolding allocated
spaced_after size blocks p p' s e =
    rw e (record {
      whole = s.whole;
      few = s.few;
      holds = by_list (choose size p) (λ q. rw q s.holds) (λ x xs q. rw q (taken_holds size blocks p x s.holds));
    })

module _ (size length' : ℕ) (p : Space) (s : Spaced size (length' / size) p) (r : Option chosen_by.Choice) (c a : ℕ)
    (e : choice_means r ≡ choose size p)
    (i : r ≡ Some (record { chunk = c; block = a })) where
  choice_is : choose size p ≡ record { chunk = c; block = a } ∷ []
  choice_is = sym e ∙ ap choice_means i

  below_is : a < length' / size
  below_is = chosen_inside size (length' / size) p (record { chunk = c; block = a }) [] s.holds choice_is

  pub block_few : a ≤ 2 ^ 20
  block_few = omega (arith, below_is, s.few)

  pub block_inside : a * size + size ≤ length'
  block_inside =
      let m : suc a * size ≤ length' / size * size = mul-le-mul_right size below_is in
      let d : length' / size * size ≤ length' = div-mul-le_self length' size in
      omega arith

-- ---- the node

pub node_dirty : (size n : ℕ) (t : Tree) (heads bytes : List ℕ) → Alive size t heads bytes n → (h : Head) → h ≡ live (head_at heads n)
    → h.dirty ≡ 1
    → Dirty size t heads bytes n
unfolding node_in node_of live
node_dirty size n t heads bytes al h eh d =
    record { alive = al; dirty = ap (λ (x : Head). eqb x.dirty 1) (sym eh) ∙ eq-eqb h.dirty 1 d }

module _ (size xid n : ℕ) (t : Tree) (image heads bytes fs is ps : List ℕ) (p : Space) (w : code.Flushing) (al : Alive size t heads bytes n)
    (h : Head) (eh : h ≡ live (head_at heads n)) where
  abbrev s : State
  s = state_of size t heads bytes

  abbrev now : Flushing
  now = flushing_of size t image p heads bytes fs is ps w

  node_is : get_or (nodes_of size heads bytes t.used) n no_node ≡ node_in size heads bytes n
  node_is = node_at_lem size heads bytes t.used n al.used

  dirty_is : (node_in size heads bytes n).dirty ≡ eqb h.dirty 1
  unfolding node_in node_of live
  dirty_is = rw eh

  pub node_clean : (h.dirty ≡ 1 → ⊥) → flushing_of size t image p heads bytes fs is ps w
      ≡ write_node (state_of size t heads bytes) xid n (flushing_of size t image p heads bytes fs is ps w)
  unfolding write_node flushing_of
  node_clean d = rw (node_is, dirty_is, ne_eqb h.dirty 1 d)

  module _ (d : h.dirty ≡ 1) where
    dirty_so : (node_in size heads bytes n).dirty ≡ true
    dirty_so = dirty_is ∙ eq-eqb h.dirty 1 d

    module _ (r : Option chosen_by.Choice) (e : choice_means r ≡ choose size p) (k : t.info.node_size ≡ size) where
      pub node_full : (p' : Space) → p' ≡ allocated size p → r ≡ None → flushing_of size t image p' heads bytes fs is ps w
          ≡ write_node (state_of size t heads bytes) xid n (flushing_of size t image p heads bytes fs is ps w)
      unfolding write_node flushing_of allocated state_of
      node_full p' q i =
          let z : choose size p ≡ [] = sym e ∙ ap choice_means i in
          rw (q, node_is, dirty_so, k, z)

      module _ (c a : ℕ) (i : r ≡ Some (record { chunk = c; block = a })) where
        some : choose size p ≡ record { chunk = c; block = a } ∷ []
        some = sym e ∙ ap choice_means i

        write_is : write_node s xid n now ≡ write_at s xid n (record { chunk = c; block = a }) now
        unfolding write_node flushing_of state_of
        write_is = rw (node_is, dirty_so, k, some)

        pub node_wrote : (p' : Space) (image' heads' fs' is' ps' : List ℕ) (w' : code.Flushing) → p' ≡ allocated size p
            → WroteAt size t xid n a image image' heads heads' bytes fs fs' is is' ps ps' w w'
            → flushing_of size t image' p' heads' bytes fs' is' ps' w'
            ≡ write_node (state_of size t heads bytes) xid n (flushing_of size t image p heads bytes fs is ps w)
        unfolding allocated
        node_wrote p' image' heads' fs' is' ps' w' q o =
            let z : p' ≡ taken p (record { chunk = c; block = a }) = q ∙ rw some in
            rw z (o.is p c ∙ sym write_is)

        room_next : Fitting (length fs) (length is) (length ps) (write_at s xid n (record { chunk = c; block = a }) now)
            → w.next + cond (t.by_id && eqb (length (node_in size heads bytes n).id) 0) 1 0 < 2 ^ 64
        unfolding write_at flushing_of state_of
        room_next f = rw node_is at f.next

        room_freed : Fitting (length fs) (length is) (length ps) (write_at s xid n (record { chunk = c; block = a }) now)
            → w.freed + length (node_in size heads bytes n).block ≤ length fs
        unfolding write_at flushing_of state_of
        room_freed f =
            let z : length (numbers_of w.freed fs ++ (node_in size heads bytes n).block) ≤ length fs = rw node_is at f.freed in
            omega (arith, length-append (numbers_of w.freed fs) (node_in size heads bytes n).block, numbers_length w.freed fs)

        pairs_grow : (b : Bool) (x y : ℕ) → length (pairs_of w.moved is ps ++ cond b ((x, y) ∷ []) []) ≡ w.moved + cond b 1 0
        pairs_grow true x y = omega (arith, length-append (pairs_of w.moved is ps) ((x, y) ∷ []), pairs_length w.moved is ps)
        pairs_grow false x y = omega (arith, length-append (pairs_of w.moved is ps) [], pairs_length w.moved is ps)

        abbrev held : List ℕ
        held = (get_or (nodes_of size heads bytes t.used) n no_node).id

        room_moved : (l : ℕ) → length (write_at s xid n (record { chunk = c; block = a }) now).moved ≤ l → w.moved + cond t.by_id 1 0 ≤ l
        unfolding write_at flushing_of state_of
        room_moved l f = omega (
          arith,
          pairs_grow t.by_id (cond t.by_id (only (cond (t.by_id && eqb (length held) 0)
              (w.next ∷ []) held)) a) a,
        )

        room_allocated : Fitting (length fs) (length is) (length ps) (write_at s xid n (record { chunk = c; block = a }) now)
            → w.allocated + 1 < 2 ^ 64
        unfolding write_at flushing_of
        room_allocated f = omega (arith, f.allocated)

        pub node_room : Fitting (length fs) (length is) (length ps) (write_node (state_of size t heads bytes) xid n
            (flushing_of size t image p heads bytes fs is ps w))
            → Room size t heads bytes fs is ps n w
        node_room f =
            let g : Fitting (length fs) (length is) (length ps) (write_at s xid n (record { chunk = c; block = a }) now) = rw write_is at f in
            record {
              next = room_next g;
              freed = room_freed g;
              ids = room_moved (length is) g.ids;
              places = room_moved (length ps) g.places;
              allocated = room_allocated g;
            }

pub ruleset listing_dead = (past_refl, dead_room, push_most, past_push, places_start, names_start, places_kept, names_kept, same_refl)

pub ruleset stepping = (kept_refl, left_same, spaced_held, spaced_after, node_clean, node_full)
