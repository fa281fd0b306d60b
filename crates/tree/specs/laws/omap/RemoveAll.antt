-- Laws of the removes of a drop, one listed entry after the other. Assumes nothing.
use Rattle.std.specs.Prelude.{◌≡◌, refl, Bool, ℕ, ◌+◌, ◌≤◌, ◌<◌, length}
use Rattle.std.proofs.Math.Path.{sym, ap}
use Rattle.std.proofs.Common.{◌∙◌, le_refl, le_trans, arith}
use mathlib.Core.List.{List, [], ◌∷◌}
use Rattle.std.proofs.Math.ListN.{drop, drop_of_length-le}
use Rattle.node.specs.Entry.{Entry}
use Rattle.node.specs.Records.{entry_of, records_length, entries_of}
use Rattle.node.specs.Result.{ok, refused}
use Rattle.node.specs.laws.slot.Records.{length_entries, entries_head}
use Rattle.tree.specs.Lent as lending
use Rattle.tree.specs.Lent.{lent_of}
use Rattle.tree.specs.State.{State}
use Rattle.tree.specs.Remove as removing
use Rattle.tree.specs.Remove.{removed}
use Rattle.tree.specs.Omap.{remove_all}
use Rattle.tree.specs.Workspace.{state_of}
use Rattle.tree.specs.Answers.{edited_of, removed_of}
use Rattle.tree.specs.internal.Bank.{Ready, ReadyAfter}
use Rattle.tree.specs.internal.Undo.{Follows}
use Rattle.tree.specs.internal.Dropping.{Removing}
use Rattle.tree.specs.internal.Edits.{Trusts}
use Rattle.tree.specs.laws.slots.Tree.{used_nodes}
use Rattle.tree.specs.laws.slots.Undo.{follows_same, follows_on}
use Rattle.tree.specs.laws.trust.Remove.{trusted_remove}
use Rattle.tree.specs.laws.room.Calls.{roomy_remove}
use Rattle.tree.specs.laws.room.SlotsOnlyGrow.{removed_grows}
use Rattle.tree.specs.declared.editor.Tree.{Tree}
use Rattle.tree.specs.declared.lent.Lent.{Lent}
use Rattle.std.specs.Prelude as std
use Rattle.std.specs.Prelude.{Ok, Err}
use Rattle.node.specs.Refusals.{number_of}
use Rattle.node.specs.declared.refusal.Refusal.{Refusal}

-- ---- one remove after another, of a list

module _ (l : lending.Lent) (e : Entry) (es fs : List Entry) (s : State) (z : fs ≡ e ∷ es) where
  one_refused : (x : ℕ) → removed l s e.key ≡ refused x → remove_all l fs s ≡ refused x
  unfolding remove_all
  one_refused x q = rw (z, q)

  one_removed : (r : removing.Removed) → removed l s e.key ≡ ok r → remove_all l fs s ≡ remove_all l es r.state
  unfolding remove_all
  one_removed r q = rw (z, q)

none_left : (l : lending.Lent) (es : List Entry) (s : State) → es ≡ [] → remove_all l es s ≡ ok s
unfolding remove_all
none_left l es s z = rw z

-- ---- the removes at work

pub removing_start : (image : List ℕ) (l : Lent) (es : List Entry) (t : Tree) (h b : List ℕ) → Trusts image l t h b
    → Removing image l es t h b t h b 0
removing_start image l es t h b c =
    record {
      words = refl;
      room = refl;
      trusts = c;
      rest = refl;
      more = le_refl _;
      follows = follows_same l.size l.slots t.used h b;
    }

module _ (image : List ℕ) (l : Lent) (count : ℕ) (list : List ℕ) (t₀ : Tree) (h₀ b₀ : List ℕ) (t : Tree) (h b : List ℕ) (i : ℕ)
    (v : Removing image l (entries_of count list) t₀ h₀ b₀ t h b i) where
  abbrev es : List Entry
  es = entries_of count list

  pub removing_done : count ≤ i → edited_of l.size h b (Ok t) ≡ remove_all (lent_of image l) (entries_of count list) (state_of l.size t₀ h₀ b₀)
  unfolding edited_of
  removing_done q =
      let z : drop i es ≡ [] = drop_of_length-le es {i = i} (omega (arith, length_entries count list)) in
      sym (none_left (lent_of image l) (drop i es) (state_of l.size t h b) z) ∙ v.rest

  module _ (q : i < count) (at : ℕ) (ea : at ≡ records_length i list) (key : List ℕ) (ek : key ≡ (entry_of (drop at list)).key)
      (r : std.Result (Tree × Bool) Refusal) (h' b' : List ℕ)
      (e : removed_of l.size h' b' r ≡ removed (lent_of image l) (state_of l.size t h b) key) where
    abbrev here : Entry
    here = entry_of (drop at list)

    head : drop i es ≡ entry_of (drop at list) ∷ drop (i + 1) es
    head = entries_head i count at list q ea

    answer : removed (lent_of image l) (state_of l.size t h b) (entry_of (drop at list)).key ≡ removed_of l.size h' b' r
    answer = ap (removed (lent_of image l) (state_of l.size t h b)) (sym ek) ∙ sym e

    pub removing_refused : (x : Refusal) → r ≡ Err x
        → edited_of l.size h' b' (Err x) ≡ remove_all (lent_of image l) (entries_of count list) (state_of l.size t₀ h₀ b₀)
    unfolding edited_of removed_of
    removing_refused x z =
        sym (one_refused (lent_of image l) here (drop (i + 1) es) (drop i es) (state_of l.size t h b) head (number_of x)
        (answer ∙ ap (removed_of l.size h' b') z)) ∙ v.rest

    module _ (eh : length h' ≡ length h) (eb : length b' ≡ length b) (f : Follows l.size l.slots t.used h b h' b')
        (y : ReadyAfter l.size l.slots h' b' r) (u : Tree) where
      module _ (a : Bool) (z : removed_of l.size h' b' r ≡ ok (record { state = state_of l.size u h' b'; present = a }))
          (y' : Ready l.size l.slots u.used h' b') where
        abbrev w : State
        w = state_of l.size t h b

        abbrev after : removing.Removed
        after = record { state = state_of l.size u h' b'; present = a }

        removed_is : removed (lent_of image l) w (entry_of (drop at list)).key ≡ ok after
        removed_is = answer ∙ z

        next_trusts : Trusts image l u h' b'
        unfolding lent_of
        next_trusts =
            record {
              ready = y';
              trust = (trusted_remove (lent_of image l) w here.key v.trusts.trust).at after removed_is;
              roomy = (roomy_remove (lent_of image l) w here.key v.trusts.trust v.trusts.roomy).at after removed_is;
            }

        used_more : t.used ≤ u.used
        used_more =
            omega (
              arith,
              ((removed_grows (lent_of image l) w here.key).at after removed_is).more,
              used_nodes l.size t h b,
              used_nodes l.size u h' b',
            )

        turned : Removing image l (entries_of count list) t₀ h₀ b₀ u h' b' (i + 1)
        turned =
            record {
              words = eh ∙ v.words;
              room = eb ∙ v.room;
              trusts = next_trusts;
              rest = sym (one_removed (lent_of image l) here (drop (i + 1) es) (drop i es) w head after removed_is) ∙ v.rest;
              more = le_trans v.more used_more;
              follows = follows_on l.size l.slots t₀.used t.used h₀ b₀ h b h' b' v.follows f v.more;
            }

      pub removing_next : (there : Bool) → r ≡ Ok (u, there) → Removing image l (entries_of count list) t₀ h₀ b₀ u h' b' (i + 1)
      unfolding removed_of
      removing_next there z = turned there (ap (removed_of l.size h' b') z) (rw z at y)

pub ruleset remove_all_laws = (removing_start, removing_done, removing_refused)
