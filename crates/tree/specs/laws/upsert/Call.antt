-- Upsert as a call: the way, then the edit on it; refused, every slot is as it was; 12 first. Assumes nothing.
use Rattle.std.specs.Prelude.{◌≡◌, refl, Bool, true, false, ℕ, ◌≤◌}
use Rattle.std.proofs.Math.Path.{sym, ap}
use Rattle.std.proofs.Common.{◌∙◌, arith}
use mathlib.Core.List.{List, []}
use Rattle.node.specs.Entry.{Val}
use Rattle.node.specs.Result.{Result, ok}
use Rattle.tree.specs.Lent.{lent_of}
use Rattle.tree.specs.State.{State, node_at}
use Rattle.tree.specs.Load.{unbounded}
use Rattle.tree.specs.Lookup as lookup
use Rattle.tree.specs.Upsert.{upsert_on, entry_fits, upserted, upsert_in}
use Rattle.tree.specs.Workspace.{state_of}
use Rattle.tree.specs.Answers.{edited_of}
use Rattle.tree.specs.Trusts.{Stays}
use Rattle.tree.specs.internal.Bank.{ReadyBy, ReadyTree}
use Rattle.tree.specs.internal.Undo.{Follows}
use Rattle.tree.specs.internal.Steps.{positions}
use Rattle.tree.specs.internal.Way.{walked_of, way_of}
use Rattle.tree.specs.internal.Edits.{Trusts}
use Rattle.tree.specs.internal.Upserting.{way_gone, Gone}
use Rattle.tree.specs.laws.slots.Undo.{follows_on}
use Rattle.tree.specs.laws.slots.Tree.{used_nodes}
use Rattle.tree.specs.laws.trust.Stands.{trusted_of}
use Rattle.tree.specs.laws.trust.Loads.{way_root}
use Rattle.tree.specs.laws.trust.Upsert.{trusted_upsert}
use Rattle.tree.specs.laws.room.Calls.{roomy_upsert}
use Rattle.tree.specs.laws.lookup.GetCall.{way_low, way_is, get_ready}
use Rattle.tree.specs.laws.refusal1.EditCalls.{edited_trusts}
use Rattle.tree.specs.laws.upsert.Parts.{on_slots}
use Rattle.tree.specs.declared.editor.Tree.{Tree}
use Rattle.tree.specs.declared.lent.Lent.{Lent}
use Rattle.tree.specs.declared.way.Way.{Way}
use Rattle.tree.specs.declared.editor.Position as code
use Rattle.std.specs.Prelude as std
use Rattle.std.specs.Prelude.{Ok, Err}
use Rattle.node.specs.declared.refusal.Refusal.{Refusal}
use Rattle.node.specs.declared.refusal.Refusal.TheVariants as is

-- ---- the way, then the edit

module _ (image : List ℕ) (l : Lent) (t : Tree) (h0 b0 : List ℕ) (c : Trusts image l t h0 b0) (level : ℕ)
    (ev : level ≡ (node_at (state_of l.size t h0 b0) t.root).level) where
  pub went_low : level ≤ 32
  went_low = way_low (lent_of image l) l.size t h0 b0 c.trust level ev

  module _ (key h b : List ℕ) (r : std.Result Way Refusal)
      (ew : way_of l.size h b r ≡ lookup.way_from level (lent_of image l) (state_of l.size t h0 b0) unbounded t.root key) where
    abbrev s : State
    s = state_of l.size t h0 b0

    way_went : lookup.way (lent_of image l) s key ≡ way_of l.size h b r
    way_went = way_is (lent_of image l) l.size t h0 b0 c.trust level ev key [] h b r ew

    pub went_refused : (v : Val) (x : Refusal) → r ≡ Err x
        → edited_of l.size h b (Err x) ≡ upserted (lent_of image l) (state_of l.size t h0 b0) key v
    unfolding edited_of upserted way_of
    went_refused v x e = sym (rw (way_went, e))

    module _ (w : Way) (e : r ≡ Ok w) where
      arrived : lookup.way (lent_of image l) s key ≡ ok (way_gone l.size w.tree h b (positions w.steps))
      unfolding way_of walked_of
      arrived = way_went ∙ rw e

      pub went_answer : (v : Val) (way : List code.Position) → way ≡ positions w.steps → (y : Result State)
          → y ≡ upsert_on (lent_of [] l) key v (way_gone l.size w.tree h b way)
          → y ≡ upserted (lent_of image l) (state_of l.size t h0 b0) key v
      unfolding upserted
      went_answer v way es y q =
          rw es at q ∙ on_slots (lent_of [] l) (lent_of image l) key v (way_gone l.size w.tree h b (positions w.steps)) (unfold lent_of in refl)
          ∙ sym (rw arrived)

      -- a way only adds slots
      pub went_follows : (h' b' : List ℕ) → Follows l.size l.slots t.used h0 b0 h b → Follows l.size l.slots w.tree.used h b h' b'
          → Follows l.size l.slots t.used h0 b0 h' b'
      went_follows h' b' p q =
          let st = (trusted_of (lent_of image l) s c.trust).1 in
          let z = (way_root (lent_of image l) s key st).at (way_gone l.size w.tree h b (positions w.steps)) arrived in
          follows_on l.size l.slots t.used w.tree.used h0 b0 h b h' b' p q
          (omega (arith, used_nodes l.size t h0 b0, used_nodes l.size w.tree h b, z.loaded.loads.longer))

      module _ (v : Val) (f : entry_fits (state_of l.size t h0 b0) key v ≡ true) (y : ReadyBy (λ w. w.tree) l.size l.slots h b r) where
        pub went_gone : (way : List code.Position) → way ≡ positions w.steps → Gone l w.tree h b way key v
        went_gone way es =
            rw es (record {
              image = image;
              from = s;
              trust = c.trust;
              roomy = c.roomy;
              fits = f;
              went = arrived;
              ready = get_ready (lent_of image l) l.size t h0 b0 c.trust level ev key [] h b r ew w e l.slots y;
            })

-- ---- what an accepted one leaves

pub upserted_trusts : (image : List ℕ) (l : Lent) (t : Tree) (h b key : List ℕ) (v : Val) → Trusts image l t h b
    → entry_fits (state_of l.size t h b) key v ≡ true → (h2 b2 : List ℕ) (r : std.Result Tree Refusal)
    → edited_of l.size h2 b2 r ≡ upserted (lent_of image l) (state_of l.size t h b) key v → ReadyTree l.size l.slots h2 b2 r
    → (u : Tree) → r ≡ Ok u → Trusts image l u h2 b2
unfolding lent_of edited_of
upserted_trusts image l t h b key v c f h2 b2 r a y u q =
    edited_trusts image l u h2 b2 (upserted (lent_of image l) (state_of l.size t h b) key v)
    (trusted_upsert (lent_of image l) (state_of l.size t h b) key v c.trust f)
    (roomy_upsert (lent_of image l) (state_of l.size t h b) key v c.trust f c.roomy) (sym (ap (edited_of l.size h2 b2) q) ∙ a)
    (rw q at y)

-- ---- 12

module _ (image : List ℕ) (l : Lent) (t : Tree) (h0 b0 key : List ℕ) (v : Val) (k : Bool) (ek : k ≡ entry_fits (state_of l.size t h0 b0) key v) where
  pub in_refused : k ≡ false → edited_of l.size h0 b0 (Err is.Argument) ≡ upsert_in (lent_of image l) (state_of l.size t h0 b0) key v
  unfolding edited_of upsert_in
  in_refused n = sym (rw (← ek, n))

  module _ (n : k ≡ true) (h b : List ℕ) (s : Stays l t h0 b0 h b) where
    pub in_fits : entry_fits (state_of l.size t h b) key v ≡ true
    in_fits = ap (λ (x : State). entry_fits x key v) s.0 ∙ sym ek ∙ n

    pub in_put : upserted (lent_of image l) (state_of l.size t h b) key v ≡ upsert_in (lent_of image l) (state_of l.size t h0 b0) key v
    unfolding upsert_in
    in_put = ap (λ (x : State). upserted (lent_of image l) x key v) s.0 ∙ sym (rw (sym ek ∙ n))

pub ruleset upsert_in_laws = (in_refused, in_fits, in_put)

pub ruleset upserted_laws = (went_refused, went_low, went_answer, went_gone, went_follows)
