-- A put after a drop: the tree that the drop left, and the answer of both. Assumes nothing.
use Rattle.std.specs.Prelude.{◌≡◌, List, true, ℕ, ◌+◌, ◌*◌, ◌≤◌, length, take}
use Rattle.std.proofs.Math.Path.{sym, ap}
use Rattle.std.proofs.Common.{◌∙◌, mul-le-mul_right, arith, length-take-le}
use Rattle.node.specs.Result.{Result, ok, refused}
use Rattle.tree.specs.Lent.{lent_of}
use Rattle.tree.specs.State.{State}
use Rattle.tree.specs.Trust.{trusted}
use Rattle.tree.specs.Upsert.{entry_fits, upserted}
use Rattle.tree.specs.Omap.{is_omap, dropped}
use Rattle.tree.specs.Workspace.{state_of}
use Rattle.tree.specs.Answers.{edited_of, put_value, lent_value}
use Rattle.tree.specs.internal.Undo.{Follows}
use Rattle.tree.specs.internal.Dropping.{put_anew}
use Rattle.tree.specs.laws.slots.Tree.{used_nodes}
use Rattle.tree.specs.laws.slots.Undo.{follows_on}
use Rattle.tree.specs.laws.trust.Omap.{dropped_safe}
use Rattle.tree.specs.laws.room.SlotsOnlyGrow.{dropped_grows}
use Rattle.tree.specs.laws.omap.Keys.{omap_fits}
use Rattle.tree.specs.laws.omap.Calls.{edited_done}
use Rattle.tree.specs.declared.editor.Tree.{Tree}
use Rattle.tree.specs.declared.lent.Lent.{Lent}
use Rattle.std.specs.Prelude as std
use Rattle.std.specs.Prelude.{Ok, Err, Some}
use Rattle.std.specs.Borrow.{Bor}
use Rattle.node.specs.Refusals.{number_of}
use Rattle.node.specs.declared.refusal.Refusal.{Refusal}

-- ---- the scratch, in numbers

pub keys_within_lem : (size slots n m : ℕ) → n ≡ (2 * slots + 2) * size → m ≡ n → 2 * size ≤ m
keys_within_lem size slots n m h e =
    let m : 2 * size ≤ (2 * slots + 2) * size = mul-le-mul_right size (omega arith) in
    omega arith

pub part_room : (n : ℕ) (l : List ℕ) → n ≤ length l → n ≤ length (take n l)
part_room n l h = omega (arith, length-take-le n l h)

-- ---- after a drop

module _ (image : List ℕ) (l : Lent) (t : Tree) (h0 b0 : List ℕ) (id : ℕ) (r : std.Result Tree Refusal) (h1 b1 : List ℕ)
    (e : edited_of l.size h1 b1 r ≡ dropped (lent_of image l) (state_of l.size t h0 b0) id) where
  pub put_refused : (k v : List ℕ) (x : Refusal) → r ≡ Err x
      → edited_of l.size h1 b1 (Err x) ≡ put_anew (lent_of image l) (state_of l.size t h0 b0) id k v
  unfolding edited_of put_anew
  put_refused k v x z =
      let q : dropped (lent_of image l) (state_of l.size t h0 b0) id ≡ refused (number_of x) = sym e ∙ ap (edited_of l.size h1 b1) z in
      sym (rw q)

  module _ (u : Tree) (z : r ≡ Ok u) where
    left : dropped (lent_of image l) (state_of l.size t h0 b0) id ≡ ok (state_of l.size u h1 b1)
    left = sym e ∙ sym (edited_done l.size h1 b1 r u z)

    pub put_after : (k : List ℕ) (v : Bor (List ℕ)) (x : Result State)
        → x ≡ upserted (lent_of image l) (state_of l.size u h1 b1) k (lent_value (Some v))
        → x ≡ put_anew (lent_of image l) (state_of l.size t h0 b0) id k v.now
    unfolding put_anew put_value lent_value
    put_after k v x y = y ∙ sym (rw left)

    used_more : t.used ≤ u.used
    used_more =
        omega (
          arith,
          ((dropped_grows (lent_of image l) (state_of l.size t h0 b0) id).at (state_of l.size u h1 b1) left).more,
          used_nodes l.size t h0 b0,
          used_nodes l.size u h1 b1,
        )

    pub drop_follows : (h2 b2 : List ℕ) → Follows l.size l.slots t.used h0 b0 h1 b1 → Follows l.size l.slots u.used h1 b1 h2 b2
        → Follows l.size l.slots t.used h0 b0 h2 b2
    drop_follows h2 b2 f g = follows_on l.size l.slots t.used u.used h0 b0 h1 b1 h2 b2 f g used_more

    pub drop_fits : (k : List ℕ) (v : Bor (List ℕ)) → is_omap (state_of l.size t h0 b0) ≡ true
        → trusted (lent_of image l) (state_of l.size t h0 b0) ≡ true
        → length k ≡ 16 → length v.now ≡ 16 → entry_fits (state_of l.size u h1 b1) k (lent_value (Some v)) ≡ true
    unfolding put_value lent_value
    drop_fits k v f h p q =
        omap_fits (lent_of image l) (state_of l.size t h0 b0) (state_of l.size u h1 b1) k v.now f
        ((dropped_safe (lent_of image l) (state_of l.size t h0 b0) id h).at (state_of l.size u h1 b1) left) p q

pub ruleset put_laws = (put_refused, keys_within_lem, part_room, put_after, drop_follows, drop_fits)
