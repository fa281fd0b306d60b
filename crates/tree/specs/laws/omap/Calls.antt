-- The object map's drop and put as calls: 12 first, what an accepted one leaves. Assumes nothing.
use Rattle.std.specs.Prelude.{◌≡◌, Bool, true, ◌&&◌, not, ℕ, ◌*◌, length}
use Rattle.std.proofs.Math.Path.{sym, ap}
use Rattle.std.proofs.Common.{◌∙◌}
use mathlib.Core.List.{List}
use Rattle.std.proofs.Math.Bool.{false}
use Rattle.node.specs.Entry.{leaf}
use Rattle.node.specs.Order.{pair_key}
use Rattle.node.specs.Result.{Result, ok}
use Rattle.node.specs.laws.base.Results.{Holds, holds_bind}
use Rattle.tree.specs.Lent as lending
use Rattle.tree.specs.Lent.{lent_of}
use Rattle.tree.specs.State.{State}
use Rattle.tree.specs.Trust.{trusted}
use Rattle.tree.specs.Upsert.{upserted}
use Rattle.tree.specs.Omap.{is_omap, dropped, omap_value, omap_drop_in, omap_put_in}
use Rattle.tree.specs.Hold.{lent_holds}
use Rattle.tree.specs.Workspace.{state_of, workspace_holds, scratch_holds}
use Rattle.tree.specs.Answers.{edited_of, edited_leaves}
use Rattle.tree.specs.internal.Bank.{Ready, ReadyTree}
use Rattle.tree.specs.internal.Room.{Roomy}
use Rattle.tree.specs.internal.Dropping.{put_anew}
use Rattle.tree.specs.internal.Edits.{Trusts, EditedCalled}
use Rattle.tree.specs.laws.trust.Upsert.{trusted_upsert}
use Rattle.tree.specs.laws.trust.Omap.{dropped_safe, trusted_drop}
use Rattle.tree.specs.laws.room.Calls.{roomy_upsert, roomy_drop}
use Rattle.tree.specs.laws.refusal1.EditCalls.{edited_trusts, edited_left}
use Rattle.tree.specs.laws.omap.Keys.{omap_fits}
use Rattle.tree.specs.declared.editor.Tree.{Tree}
use Rattle.tree.specs.declared.lent.Lent.{Lent}
use Rattle.std.specs.Prelude as std
use Rattle.std.specs.Prelude.{Ok, Err}
use Rattle.node.specs.declared.refusal.Refusal.{Refusal}
use Rattle.node.specs.declared.refusal.Refusal.TheVariants as is

-- ---- an answer handed on

pub edited_done : (size : ℕ) (h b : List ℕ) (r : std.Result Tree Refusal) (t : Tree) → r ≡ Ok t → ok (state_of size t h b) ≡ edited_of size h b r
unfolding edited_of
edited_done size h b r t e = sym (rw e)

pub edited_ready : (size slots : ℕ) (h b : List ℕ) (r : std.Result Tree Refusal) (t : Tree) → r ≡ Ok t → ReadyTree size slots h b r
    → Ready size slots t.used h b
edited_ready size slots h b r t e y = rw e at y

-- ---- 12

pub is_omap_lem : (t : Tree) (a : Bool) → ((size : ℕ) (heads bytes : List ℕ) → a ≡ is_omap (state_of size t heads bytes)) → a ≡ true
    → (size : ℕ) (h b : List ℕ) → is_omap (state_of size t h b) ≡ true
is_omap_lem t a e q size h b = sym (e size h b) ∙ q

module _ (image : List ℕ) (l : Lent) (t : Tree) (h0 b0 : List ℕ) (a : Bool)
    (e : (size : ℕ) (heads bytes : List ℕ) → a ≡ is_omap (state_of size t heads bytes)) where
  pub drop_argument : (id : ℕ) → a ≡ false
      → edited_of l.size h0 b0 (Err is.Argument) ≡ omap_drop_in (lent_of image l) (state_of l.size t h0 b0) id
  unfolding edited_of omap_drop_in
  drop_argument id q = let z : is_omap (state_of l.size t h0 b0) ≡ false = sym (e l.size h0 b0) ∙ q in sym (rw z)

  pub put_argument : (id xid address size : ℕ) → a ≡ false
      → edited_of l.size h0 b0 (Err is.Argument) ≡ omap_put_in (lent_of image l) (state_of l.size t h0 b0) id xid address size
  unfolding edited_of omap_put_in
  put_argument id xid address size q = let z : is_omap (state_of l.size t h0 b0) ≡ false = sym (e l.size h0 b0) ∙ q in sym (rw z)

  module _ (q : a ≡ true) (h b : List ℕ) (k : state_of l.size t h b ≡ state_of l.size t h0 b0) where
    pub drop_in_answer : (id : ℕ) → dropped (lent_of image l) (state_of l.size t h b) id
        ≡ omap_drop_in (lent_of image l) (state_of l.size t h0 b0) id
    unfolding omap_drop_in
    drop_in_answer id = ap (λ (s : State). dropped (lent_of image l) s id) k ∙ sym (rw (is_omap_lem t a e q l.size h0 b0))

    pub put_in_answer : (id xid address size : ℕ) (key value : List ℕ) → key ≡ pair_key id xid → value ≡ omap_value size address
        → put_anew (lent_of image l) (state_of l.size t h b) id key value
        ≡ omap_put_in (lent_of image l) (state_of l.size t h0 b0) id xid address size
    unfolding omap_put_in put_anew
    put_in_answer id xid address size key value x y =
        ap (λ (s : State). put_anew (lent_of image l) s id key value) k
        ∙ ap (λ (j : List ℕ). put_anew (lent_of image l) (state_of l.size t h0 b0) id j value) x
        ∙ ap (put_anew (lent_of image l) (state_of l.size t h0 b0) id (pair_key id xid)) y
        ∙ sym (rw (is_omap_lem t a e q l.size h0 b0))

-- ---- what an accepted drop leaves, and the put after it

module _ (l : lending.Lent) (s : State) (id : ℕ) (k v : List ℕ) (f : is_omap s ≡ true) (h : trusted l s ≡ true) (p : length k ≡ 16)
    (q : length v ≡ 16) where
  trusted_anew : Holds (λ u. trusted l u ≡ true) (put_anew l s id k v)
  unfolding put_anew
  trusted_anew =
      holds_bind (dropped l s id) (λ t. upserted l t k (leaf v)) λ t e.
      let a = (dropped_safe l s id h).at t e in
      trusted_upsert l t k (leaf v) a.trust (omap_fits l s t k v f a p q)

  roomy_anew : Roomy (2 * l.size) s → Holds (Roomy (2 * l.size)) (put_anew l s id k v)
  unfolding put_anew
  roomy_anew r =
      holds_bind (dropped l s id) (λ t. upserted l t k (leaf v)) λ t e.
      let a = (dropped_safe l s id h).at t e in
      roomy_upsert l t k (leaf v) a.trust (omap_fits l s t k v f a p q) ((roomy_drop l s id h r).at t e)

module _ (image : List ℕ) (l : Lent) (t : Tree) (h0 b0 : List ℕ) (c : Trusts image l t h0 b0) (id : ℕ) (r : std.Result Tree Refusal) (u : Tree)
    (h b : List ℕ)
    (z : r ≡ Ok u) (y : ReadyTree l.size l.slots h b r) where
  abbrev s : State
  s = state_of l.size t h0 b0

  pub drop_trusts : edited_of l.size h b r ≡ dropped (lent_of image l) (state_of l.size t h0 b0) id → Trusts image l u h b
  unfolding lent_of
  drop_trusts e =
      edited_trusts image l u h b (dropped (lent_of image l) s id) (trusted_drop (lent_of image l) s id c.trust)
      (roomy_drop (lent_of image l) s id c.trust c.roomy) (edited_done l.size h b r u z ∙ e)
      (edited_ready l.size l.slots h b r u z y)

  pub put_trusts : (key value : List ℕ) → is_omap (state_of l.size t h0 b0) ≡ true → length key ≡ 16 → length value ≡ 16
      → edited_of l.size h b r ≡ put_anew (lent_of image l) (state_of l.size t h0 b0) id key value → Trusts image l u h b
  unfolding lent_of
  put_trusts key value f p q e =
      edited_trusts image l u h b (put_anew (lent_of image l) s id key value)
      (trusted_anew (lent_of image l) s id key value f c.trust p q)
      (roomy_anew (lent_of image l) s id key value f c.trust p q c.roomy) (edited_done l.size h b r u z ∙ e)
      (edited_ready l.size l.slots h b r u z y)

-- ---- what a call leaves, of its answer

pub answer_left : (image : List ℕ) (l : Lent) (t : Tree) (heads bytes scratch : List ℕ) (a : Bool)
    → (a ≡ (workspace_holds l.size l.slots t.used heads bytes && lent_holds (lent_of image l) (state_of l.size t heads bytes))
    && scratch_holds l.size l.slots scratch)
    → not a ≡ false → (h' b' : List ℕ) (r : std.Result Tree Refusal) (x : Result State) → edited_of l.size h' b' r ≡ x
    → EditedCalled image l t heads bytes h' b' r → edited_leaves l.size l.slots t heads bytes h' b' r
answer_left image l t heads bytes scratch a e q h' b' r x z c = edited_left image l t heads bytes scratch a e q h' b' r c

pub ruleset omap_drop_in_laws = (drop_argument, is_omap_lem)
