-- Edits as calls: 1 first, marks cleared, slots brought back on a refusal; what an edit leaves. Assumes nothing.
use Rattle.std.specs.Prelude.{◌≡◌, List, Bool, true, ◌&&◌, ℕ, ◌+◌, ◌*◌, ◌≤◌}
use Rattle.std.proofs.Math.Path.{refl, sym, ap}
use Rattle.std.proofs.Common.{subst, ◌∙◌}
use Rattle.std.proofs.Math.Bool.{false, not}
use native.Mathlib.Omega.{arith}
use Rattle.std.proofs.Math.Nat.{mul-le-mul_right}
use Rattle.std.proofs.Math.ListN.{length}
use borrow.Author.Tests.{eqb-true, not-true, not-false}
use Rattle.node.specs.Entry.{Val}
use Rattle.node.specs.Result.{Result, ok, refused, ◌>>◌, check}
use Rattle.node.specs.Refusals as refusal
use Rattle.node.specs.laws.base.Tests.{by_test, and_split, and-true}
use Rattle.node.specs.laws.base.Results.{Holds}
use Rattle.tree.specs.Lent.{lent_of}
use Rattle.tree.specs.State.{State}
use Rattle.tree.specs.Hold.{lent_holds}
use Rattle.tree.specs.Trust.{trusted}
use Rattle.tree.specs.Upsert.{upsert, upsert_in}
use Rattle.tree.specs.Remove as removing
use Rattle.tree.specs.Remove.{remove, remove_in}
use Rattle.tree.specs.Omap.{omap_put, omap_put_in, omap_drop, omap_drop_in}
use Rattle.tree.specs.Workspace.{state_of, workspace_holds, scratch_holds, edits}
use Rattle.tree.specs.Answers.{edited_of, edited_leaves, removed_of, removed_leaves}
use Rattle.tree.specs.internal.Bank.{Ready}
use Rattle.tree.specs.Trusts.{Stays}
use Rattle.tree.specs.internal.Undo.{Undone}
use Rattle.tree.specs.internal.Room.{Roomy}
use Rattle.tree.specs.internal.Edits.{Trusts, EditedCalled, RemovedCalled}
use Rattle.tree.specs.laws.refusal1.Ready.{called_ready, called_refused, called_passed}
use Rattle.tree.specs.laws.refusal1.Calls.{called_trusts, trusts_hold, back_hold}
use Rattle.tree.specs.declared.editor.Tree.{Tree}
use Rattle.tree.specs.declared.lent.Lent.{Lent}
use Rattle.std.specs.Prelude as std
use Rattle.std.specs.Prelude.{Ok, Err}
use Rattle.node.specs.declared.refusal.Refusal.{Refusal}
use Rattle.node.specs.declared.refusal.Refusal.TheVariants as is

-- ---- 1, with the scratch

module _ (image : List ℕ) (l : Lent) (t : Tree) (heads bytes : List ℕ) (a : Bool)
    (e : a ≡ workspace_holds l.size l.slots t.used heads bytes && lent_holds (lent_of image l) (state_of l.size t heads bytes)) where
  module _ (q : a ≡ true) where
    pub edit_many : l.slots ≤ 4096
    edit_many = (called_ready image l t heads bytes a e (ap not q)).many

    pub edit_most : l.size ≤ 65536
    edit_most = (called_ready image l t heads bytes a e (ap not q)).most

pub ruleset scratched = (edit_many, edit_most)

-- ---- the call

module _ (image : List ℕ) (l : Lent) (t : Tree) (heads bytes scratch : List ℕ) (a : Bool)
    (e : a ≡ (workspace_holds l.size l.slots t.used heads bytes && lent_holds (lent_of image l) (state_of l.size t heads bytes))
    && scratch_holds l.size l.slots scratch) where
  abbrev s : State
  s = state_of l.size t heads bytes

  abbrev space : Bool
  space = workspace_holds l.size l.slots t.used heads bytes

  abbrev held : Bool
  held = lent_holds (lent_of image l) s

  abbrev wide : Bool
  wide = scratch_holds l.size l.slots scratch

  module _ {A : Type 0} (f : State → Result A) where
    abbrev whole : Result A
    whole = edits l.size l.slots t heads bytes scratch (λ x. check refusal.lent (lent_holds (lent_of image l) x) >> f x)

    edits_no : not a ≡ true → refused refusal.lent ≡ whole
    unfolding edits
    edits_no q =
        let z : (space && held) && wide ≡ false = sym e ∙ not-true a q in
        by_test wide
        (λ w. let y : space && held ≡ false = sym (and-true (space && held)) ∙ ap (λ (b : Bool). (space && held) && b) (sym w) ∙ z in
        rw w (called_refused image l t heads bytes (space && held) refl f (ap not y)))
        (λ w. rw w)

    edits_yes : not a ≡ false → f s ≡ whole
    unfolding edits
    edits_yes q =
        let (y, w) = and_split (space && held) wide (sym e ∙ not-false a q) in
        rw w (called_passed image l t heads bytes (space && held) refl f (ap not y))

  module _ (q : not a ≡ false) where
    both : (space && held ≡ true) × (wide ≡ true)
    both = and_split (space && held) wide (sym e ∙ not-false a q)

    pub edits_trusts : Trusts image l t heads bytes
    edits_trusts = called_trusts image l t heads bytes (space && held) refl (ap not both.0)

    pub edits_scratch : 2 * l.size ≤ length scratch
    unfolding scratch_holds
    edits_scratch =
        let z : length scratch ≡ (2 * l.slots + 2) * l.size = eqb-true (length scratch) ((2 * l.slots + 2) * l.size) both.1 in
        let m : 2 * l.size ≤ (2 * l.slots + 2) * l.size = mul-le-mul_right l.size (omega arith) in
        omega arith

    pub edits_list : length scratch ≡ (2 * l.slots + 2) * l.size
    unfolding scratch_holds
    edits_list = eqb-true (length scratch) ((2 * l.slots + 2) * l.size) both.1

    -- what an edit leaves
    pub edited_left : (h' b' : List ℕ) (r : std.Result Tree Refusal) → EditedCalled image l t heads bytes h' b' r
        → edited_leaves l.size l.slots t heads bytes h' b' r
    edited_left h' b' (Err x) c = (c.0, back_hold image l t heads bytes edits_trusts h' b' c.0 c.1)
    edited_left h' b' (Ok u) c = trusts_hold image l u h' b' c

    pub removed_left : (h' b' : List ℕ) (r : std.Result (Tree × Bool) Refusal) → RemovedCalled image l t heads bytes h' b' r
        → removed_leaves l.size l.slots t heads bytes h' b' r
    removed_left h' b' (Err x) c = (c.0, back_hold image l t heads bytes edits_trusts h' b' c.0 c.1)
    removed_left h' b' (Ok (u, there)) c = trusts_hold image l u h' b' c

  -- each call: 1, or what follows
  pub upsert_lent : (k : List ℕ) (v : Val) → not a ≡ true → edited_of l.size heads bytes (Err is.Lent)
      ≡ edits l.size l.slots t heads bytes scratch (λ x. upsert (lent_of image l) x k v)
  unfolding edited_of upsert
  upsert_lent k v q = edits_no (λ x. upsert_in (lent_of image l) x k v) q

  pub upsert_answer : (k : List ℕ) (v : Val) (r : Result State) → not a ≡ false → r ≡ upsert_in (lent_of image l) (state_of l.size t heads bytes) k v
      → r ≡ edits l.size l.slots t heads bytes scratch (λ x. upsert (lent_of image l) x k v)
  unfolding upsert
  upsert_answer k v r q z = z ∙ edits_yes (λ x. upsert_in (lent_of image l) x k v) q

  pub remove_lent : (k : List ℕ) → not a ≡ true → removed_of l.size heads bytes (Err is.Lent)
      ≡ edits l.size l.slots t heads bytes scratch (λ x. remove (lent_of image l) x k)
  unfolding removed_of remove
  remove_lent k q = edits_no (λ x. remove_in (lent_of image l) x k) q

  pub remove_answer : (k : List ℕ) (r : Result removing.Removed) → not a ≡ false → r ≡ remove_in (lent_of image l) (state_of l.size t heads bytes) k
      → r ≡ edits l.size l.slots t heads bytes scratch (λ x. remove (lent_of image l) x k)
  unfolding remove
  remove_answer k r q z = z ∙ edits_yes (λ x. remove_in (lent_of image l) x k) q

  pub drop_lent : (id : ℕ) → not a ≡ true → edited_of l.size heads bytes (Err is.Lent)
      ≡ edits l.size l.slots t heads bytes scratch (λ x. omap_drop (lent_of image l) x id)
  unfolding edited_of omap_drop
  drop_lent id q = edits_no (λ x. omap_drop_in (lent_of image l) x id) q

  pub drop_answer : (id : ℕ) (r : Result State) → not a ≡ false → r ≡ omap_drop_in (lent_of image l) (state_of l.size t heads bytes) id
      → r ≡ edits l.size l.slots t heads bytes scratch (λ x. omap_drop (lent_of image l) x id)
  unfolding omap_drop
  drop_answer id r q z = z ∙ edits_yes (λ x. omap_drop_in (lent_of image l) x id) q

  pub put_lent : (id xid address size : ℕ) → not a ≡ true → edited_of l.size heads bytes (Err is.Lent)
      ≡ edits l.size l.slots t heads bytes scratch (λ x. omap_put (lent_of image l) x id xid address size)
  unfolding edited_of omap_put
  put_lent id xid address size q = edits_no (λ x. omap_put_in (lent_of image l) x id xid address size) q

  pub put_answer : (id xid address size : ℕ) (r : Result State) → not a ≡ false
      → r ≡ omap_put_in (lent_of image l) (state_of l.size t heads bytes) id xid address size
      → r ≡ edits l.size l.slots t heads bytes scratch (λ x. omap_put (lent_of image l) x id xid address size)
  unfolding omap_put
  put_answer id xid address size r q z = z ∙ edits_yes (λ x. omap_put_in (lent_of image l) x id xid address size) q

-- ---- a call undone where it is refused

pub stays_trusts : (image : List ℕ) (l : Lent) (t : Tree) (h0 b0 h b : List ℕ) → Trusts image l t h0 b0 → Stays l t h0 b0 h b
    → Trusts image l t h b
stays_trusts image l t h0 b0 h b c s =
    record {
      ready = s.1;
      trust = ap (trusted (lent_of image l)) s.0 ∙ c.trust;
      roomy = subst (λ (x : State). Roomy (2 * l.size) x) (sym s.0) c.roomy;
    }

module _ (l : Lent) (t : Tree) (h0 b0 h2 b2 h3 b3 : List ℕ) where
  pub edited_undone : (g : std.Result Tree Refusal) → Undone l t h0 b0 h2 b2 h3 b3 g → edited_of l.size h3 b3 g ≡ edited_of l.size h2 b2 g
  unfolding edited_of
  edited_undone (Err x) u = refl
  edited_undone (Ok v) u = rw (u.0, u.1)

  pub removed_undone : (g : std.Result (Tree × Bool) Refusal) → Undone l t h0 b0 h2 b2 h3 b3 g
      → removed_of l.size h3 b3 g ≡ removed_of l.size h2 b2 g
  unfolding removed_of
  removed_undone (Err x) u = refl
  removed_undone (Ok (v, there)) u = rw (u.0, u.1)

  pub edited_called : (image : List ℕ) (g : std.Result Tree Refusal) → Undone l t h0 b0 h2 b2 h3 b3 g
      → ((v : Tree) → g ≡ Ok v → Trusts image l v h2 b2) → EditedCalled image l t h0 b0 h3 b3 g
  edited_called image (Err x) u f = u
  edited_called image (Ok v) u f = rw (u.0, u.1) (f v refl)

  pub removed_called : (image : List ℕ) (g : std.Result (Tree × Bool) Refusal) → Undone l t h0 b0 h2 b2 h3 b3 g
      → ((v : Tree) (there : Bool) → g ≡ Ok (v, there) → Trusts image l v h2 b2) → RemovedCalled image l t h0 b0 h3 b3 g
  removed_called image (Err x) u f = u
  removed_called image (Ok (v, there)) u f = rw (u.0, u.1) (f v there refl)

-- ---- an accepted edit leaves a tree to be trusted, as its definition does

pub edited_trusts : (image : List ℕ) (l : Lent) (u : Tree) (h b : List ℕ) (r : Result State) → Holds (λ x. trusted (lent_of image l) x ≡ true) r
    → Holds (Roomy (2 * l.size)) r → ok (state_of l.size u h b) ≡ r → Ready l.size l.slots u.used h b → Trusts image l u h b
edited_trusts image l u h b r p q e y = record { ready = y; trust = p.at _ (sym e); roomy = q.at _ (sym e) }

pub ruleset upsert_laws = (edits_trusts, edits_scratch, edited_left, upsert_answer)

pub ruleset upsert_in_laws = (stays_trusts, edited_undone)
