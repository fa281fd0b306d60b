-- The last entry below a slot that is not the root: that of what it holds, which is never empty. Assumes nothing.
use Rattle.std.specs.Prelude.{◌≡◌, refl, false, length, eqb}
use Rattle.std.proofs.Common.{sym, ap, ◌∙◌, arith, length-append, ne_eqb}
use mathlib.Core.List.{List, [], ◌∷◌, ◌++◌, append-nil}
use Prim.Native.Nat.{ℕ, zero, suc, ◌+◌, ◌-◌, ◌<◌}
use Rattle.node.specs.laws.base.Results.{Holds, holds_ok, holds_bind, holds_imp}
use Rattle.node.specs.Entry.{Entry}
use Rattle.node.specs.Find.{last_of}
use Rattle.tree.specs.Lent.{Lent}
use Rattle.tree.specs.Load.{Bounds, child_bounds, At, load_child}
use Rattle.tree.specs.State.{State, node_at}
use Rattle.tree.specs.Lookup.{Got, last_from}
use Rattle.history.specs.Statement.{Start, Begins, Lends}
use Rattle.theorem.specs.model.Bounds.{Terms, K}
use Rattle.theorem.specs.model.Lazy.{cont, conts, ok_level, ok_live}
use Rattle.theorem.specs.model.Lift.{apart_holds}
use Rattle.theorem.specs.steps.Way.{Reads}
use Rattle.theorem.specs.model.Good.{found, Old, Good}
use Rattle.theorem.specs.load.Loads.{live_used, Loads, loads_refl, loads_then}
use Rattle.theorem.specs.load.Way.{good_root, load_inside}
use Rattle.theorem.specs.lookup.Below.{Stands, stands_after, Entered, enter}

-- ---- the last entry

pub last_more : (x : Entry) (xs : List Entry) → 0 < length xs → last_of (x ∷ xs) ≡ last_of xs
unfolding last_of
last_more x [] h = absurd (omega arith)
last_more x (y ∷ ys) h =
    let a : suc (length (y ∷ ys)) - 1 ≡ suc (length ys) = omega arith in
    let b : suc (length ys) - 1 ≡ length ys = omega arith in
    rw (a, b)

pub last_append : (xs ys : List Entry) → 0 < length ys → last_of (xs ++ ys) ≡ last_of ys
last_append [] ys h = refl
last_append (x ∷ xs) ys h = last_more x (xs ++ ys) (omega (arith, h, length-append xs ys)) ∙ last_append xs ys h

-- ---- in the tree

-- the last of some entries
pub split_last : (zs : List Entry) → 0 < length zs → (xs : List Entry) × (e : Entry) × (zs ≡ xs ++ e ∷ []) × (length zs ≡ suc (length xs))
split_last [] h = absurd (omega arith)
split_last (z ∷ []) h = ([], z, refl, refl)
split_last (z ∷ y ∷ ys) h = let (xs, e, q, n) = split_last (y ∷ ys) (omega arith) in (z ∷ xs, e, ap (λ (l : List Entry). z ∷ l) q, ap suc n)

module _ (g : Start) (τ : Terms) (th : List ℕ) (begins : Begins g) (l : Lent) (lends : Lends g l) (s₀ : State)
    (rds : Reads τ (found g τ) l (Old g) s₀) (es : List Entry) (top : ℕ) where
  -- the root's level is `top`
  pub record Here (s : State) (j n lo hi : ℕ) : Type 0 where
    pub stands : Stands g τ th begins l lends s₀ rds es s j n lo hi
    pub tall : (node_at s s.root).level ≡ top

  pub here_after : (s u : State) (j n lo hi : ℕ) → Here s j n lo hi → Good g τ th u es → Loads τ (found g τ) s u → Here u j n lo hi
  here_after s u j n lo hi h gu ld =
      record {
        stands = stands_after g τ th begins l lends s₀ rds es s u j n lo hi h.stands gu ld;
        tall = ap (λ (z : ℕ). (node_at u z).level) ld.still.root ∙ ld.level s.root (good_root g τ th l s es h.stands.good) ∙ h.tall;
      }

  pub here_child : (s : State) (j n lo hi : ℕ) (e : Entry) (a : At) → Here s (suc j) n lo hi → (en : Entered g τ th begins l lends s₀ rds es s j e a)
      → Here a.state j a.slot (K τ e.key) en.up_to
  here_child s j n lo hi e a h en =
      record { stands = en.stands; tall = (here_after s a.state (suc j) n lo hi h en.stands.good en.loads).tall }

  -- ---- the last entry below a slot that is not the root

  pub record Lasted (s : State) (xs : List Entry) (r : Got Entry) : Type 0 where
    pub some : 0 < length xs
    pub answer : r.answer ≡ last_of xs
    pub good : Good g τ th r.state es
    pub loads : Loads τ (found g τ) s r.state

  leaf_some : (s : State) (n lo hi : ℕ) → Here s 0 n lo hi → 0 < top → 0 < length (node_at s n).entries
  leaf_some s n lo hi h t =
      let live : (node_at s n).dead ≡ false = ok_live τ (found g τ) (node_at s) 0 lo hi (node_at s n) h.stands.ok in
      let lv : (node_at s n).level ≡ 0 = ok_level τ (found g τ) (node_at s) 0 lo hi (node_at s n) h.stands.ok in
      let f = (h.stands.good.flat.each n (live_used s n live) live).filled in
      let ne : eqb n s.root ≡ false = ne_eqb n s.root (λ e. omega (arith, t, lv, h.tall, ap (λ (z : ℕ). (node_at s z).level) e)) in
      let z : 0 < length (node_at s n).entries + 0 = rw ne at f in
      omega arith

  -- a last child's last entry is the node's
  last_up : (s : State) (j n lo hi : ℕ) (xs : List Entry) (e : Entry) (a : At) (r : Got Entry) → (node_at s n).entries ≡ xs ++ e ∷ []
      → Entered g τ th begins l lends s₀ rds es s j e a
      → Lasted a.state (cont (found g τ) (node_at a.state) j (node_at a.state a.slot)) r
      → Lasted s (cont (found g τ) (node_at s) (suc j) (node_at s n)) r
  last_up s j n lo hi xs e a r row en v =
      let q : cont (found g τ) (node_at s) (suc j) (node_at s n) ≡ conts (found g τ) (node_at s) j xs ++ cont (found g τ) (node_at a.state) j
      (node_at a.state a.slot) =
      apart_holds (found g τ) (node_at s) j (node_at s n) xs e [] row
      ∙ ap (λ (z : List Entry). conts (found g τ) (node_at s) j xs ++ z) (append-nil _ ∙ sym en.holds) in
      let some = v.some in
      record {
        some = rw q (omega (
          arith,
          some,
          length-append (conts (found g τ) (node_at s) j xs)
              (cont (found g τ) (node_at a.state) j (node_at a.state a.slot)),
        ));
        answer = v.answer ∙ sym
            (ap last_of q ∙ last_append (conts (found g τ) (node_at s) j xs)
            (cont (found g τ) (node_at a.state) j (node_at a.state a.slot)) some);
        good = v.good;
        loads = loads_then τ (found g τ) s a.state r.state en.loads v.loads;
      }

  last_step : (j : ℕ) → ((s : State) (bs : Bounds) (n lo hi : ℕ) → Here s j n lo hi → j < top
      → Holds (Lasted s (cont (found g τ) (node_at s) j (node_at s n))) (last_from j l s bs n))
      → (s : State) (bs : Bounds) (n lo hi : ℕ) → Here s (suc j) n lo hi → suc j < top
      → Holds (Lasted s (cont (found g τ) (node_at s) (suc j) (node_at s n))) (last_from (suc j) l s bs n)
  unfolding last_from
  last_step j ih s bs n lo hi h t =
      holds_bind (load_child l s bs n (length (node_at s n).entries - 1)) _ λ a p.
      let lt = load_inside g τ th begins l lends s₀ rds s bs n (length (node_at s n).entries - 1) a p in
      let (xs, e, row, ln) = split_last (node_at s n).entries (omega (arith, lt)) in
      let en = enter g τ th begins l lends s₀ rds es s bs j n lo hi xs e [] (length (node_at s n).entries - 1) a h.stands row
      (omega (arith, ln)) p in
      holds_imp _ (λ r v. last_up s j n lo hi xs e a r row en v)
      (ih a.state (child_bounds s.order bs (node_at s n).entries (length (node_at s n).entries - 1)) a.slot (K τ e.key) en.up_to
      (here_child s j n lo hi e a h en) (omega (arith, t)))

  pub last_level : (j : ℕ) (s : State) (bs : Bounds) (n lo hi : ℕ) → Here s j n lo hi → j < top
      → Holds (Lasted s (cont (found g τ) (node_at s) j (node_at s n))) (last_from j l s bs n)
  unfolding last_from cont
  last_level zero s bs n lo hi h t =
      holds_ok (record { some = leaf_some s n lo hi h t; answer = refl; good = h.stands.good; loads = loads_refl τ (found g τ) s })
  last_level (suc j) s bs n lo hi h t = last_step j (last_level j) s bs n lo hi h t
