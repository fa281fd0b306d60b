-- Laws of the steps of a remove that changes an entry of its leaf alone: the way looked at, the entry taken. Assumes nothing.
use Rattle.std.specs.Prelude.{◌≡◌, refl, List, Bool, true, not, ℕ, zero, suc, ◌-◌, ◌≤◌, ◌<◌, length, drop, eqb}
use Rattle.std.proofs.Math.Path.{sym, ap}
use Rattle.std.proofs.Common.{subst, ◌∙◌, arith}
use Rattle.std.proofs.Math.Bool.{false}
use borrow.Author.Tests.{not-false, not-true}
use Rattle.std.proofs.lemmas.Bool.{eqb-false}
use Rattle.node.specs.laws.base.Tests.{by_test, never, and_split}
use Rattle.node.specs.Order.{keyed, same_key}
use Rattle.node.specs.Entry.{mem}
use Rattle.node.specs.Find.{key_at, val_at, way_index}
use Rattle.node.specs.Records.{entry_of}
use Rattle.node.specs.Slot.{MemNode, head_at, node_of, remove_at}
use Rattle.node.specs.declared.head.Head.{Head}
use Rattle.tree.specs.State.{State, node_at, put_node, with_info, with_counts, with_entries}
use Rattle.tree.specs.Trust.{stand_together, trusted}
use Rattle.tree.specs.Workspace.{state_of}
use Rattle.tree.specs.internal.Bank.{node_in, Ready, Wrote, Put}
use Rattle.tree.specs.internal.Cutting.{stays_whole}
use Rattle.tree.specs.internal.Loaded.{TakenBy, LedTo, LedLeaf}
use Rattle.tree.specs.internal.Still.{Settled, GoesOn, StillOf, StillTo, StillLeaf, StaysAbove, StillRemoved}
use Rattle.tree.specs.laws.trust.Stands.{stands_of}
use Rattle.tree.specs.laws.slots.Tree.{used_nodes, node_in_lem}
use Rattle.tree.specs.laws.trust.Named.{live_used}
use Rattle.tree.specs.laws.slots.Undo.{put_of}
use Rattle.tree.specs.laws.slots.Bank.{put_ready}
use Rattle.tree.specs.laws.remove.Words.{put_state}
use Rattle.tree.specs.laws.remove.LeafAlone.{taken, still_removed}
use Rattle.tree.specs.internal.Found.{FoundAt}
use Rattle.tree.specs.internal.Writers.{edited}
use Rattle.tree.specs.declared.writers.DirtyMark.TheVariants.{Kept}
use Rattle.tree.specs.Remove.{has_only_child, Removed, removed, remove_in}
use Rattle.tree.specs.Lent.{Lent, lent_of}
use Rattle.tree.specs.declared.lent.Lent as lends
use Rattle.tree.specs.Hold.{numbers_hold}
use Rattle.tree.specs.Answers.{removed_of}
use Rattle.tree.specs.internal.Edits.{Trusts, RemovedCalled}
use Rattle.tree.specs.laws.remove.HandDown.{trusted_sized}
use Rattle.tree.specs.laws.remove.Call.{call_done}
use Rattle.node.specs.Fit.{Sized}
use Rattle.node.specs.declared.info.BTreeInfo.{BTreeInfo}
use Rattle.node.specs.Result.{Result, ok}
use Rattle.tree.specs.declared.editor.Tree.{Tree}
use Rattle.tree.specs.declared.floor.Spot.{Spot}
use Rattle.tree.specs.declared.loaded.Taken.{Taken}
use Rattle.node.specs.declared.record.Record.{Record}
use Rattle.std.specs.Prelude.{Ok, Some, None, Option}
use Rattle.std.proofs.lemmas.Option.{same_Some}

abbrev yes : State → Result Removed
yes x = ok (record { state = x; present = true })

-- the dirty mark of a slot
pub dirty_word : (size n : ℕ) (heads bytes : List ℕ) (x : Head) → x ≡ head_at heads n → eqb x.dirty 1 ≡ (node_in size heads bytes n).dirty
unfolding node_in node_of
dirty_word size n heads bytes x e = rw e

-- ---- the leaf

module _ (P : ℕ → Taken → Type 0) (used : ℕ) (s : State) (key : List ℕ) (f : (n : ℕ) (x : Taken) → P n x → StillOf s key n (Some x)) where
  led_still : (d m n : ℕ) → LedTo P d m n → StillTo d s key m n
  led_still zero m n e = e
  led_still (suc d) m n e = record { slot = e.taken.slot; on = (f n e.taken e.on).on e.taken refl; below = led_still d m e.taken.slot e.below }

  pub still_leaf : (r : Option ℕ) → LedLeaf P used s key r → StillLeaf used s key r
  still_leaf r q = record { within = q.within; keys = q.keys; leads = λ m e. led_still (node_at s s.root).level m s.root (q.leads m e) }

module _ (size : ℕ) (t : Tree) (h b : List ℕ) where
  abbrev s : State
  s = state_of size t h b

  -- ---- a node of the way

  pub settled_dirty : (n : ℕ) (d : Bool) → stand_together (state_of size t h b) ≡ true → n < t.used → d ≡ (node_in size h b n).dirty → d ≡ true
      → Settled (state_of size t h b) n
  settled_dirty n d st hn ed q =
      let e : (node_at s n).dirty ≡ true = ap (λ x. x.dirty) (node_in_lem size t h b n hn) ∙ sym ed ∙ q in
      record {
        whole = by_test (node_at s n).dead (λ z. rw z) (λ z. rw (z, (stands_of s st).dirty n z e refl));
        dirty = λ v. e;
      }

  pub settled_then : (n : ℕ) (r : Bool) → (r ≡ true → Settled (state_of size t h b) n) → not r ≡ false → Settled (state_of size t h b) n
  settled_then n r f u = f (not-false r u)

  pub settled_whole : (n : ℕ) (w : Bool) → t.by_id ≡ true → w ≡ stays_whole (state_of size t h b) n → w ≡ true
      → Settled (state_of size t h b) n
  settled_whole n w v e q =
      record {
        whole = sym e ∙ q;
        dirty = λ z. (unfold state_of in never v z);
      }

  pub ruleset settling = (settled_dirty, settled_whole)

  -- ---- the entry gone on by

  module _ (key : List ℕ) (n : ℕ) (q : Settled (state_of size t h b) n) (x : Option (Record × Taken))
      (tb : TakenBy t.order.code key (node_at (state_of size t h b) n).entries x) (r : Record) (y : Taken) (ex : x ≡ Some (r, y)) where
    pub still_on : (k f : List ℕ) → k ≡ (entry_of (drop r.at r.slot.now)).key → f ≡ key_at (node_at (state_of size t h b) y.slot).entries 0
        → (e : Bool) → e ≡ not (same_key k f) → e ≡ false → StillOf (state_of size t h b) key n (Some y)
    unfolding state_of
    still_on k f ek ef e ee u =
        let kk : k ≡ key_at (node_at s n).entries (way_index t.order.code key (node_at s n).entries) = ek ∙ tb.key (r, y) ex in
        let ch : val_at (node_at s n).entries (way_index t.order.code key (node_at s n).entries) ≡ mem y.slot = tb.child (r, y) ex in
        let on : GoesOn s key n y.slot =
        record {
          child = ch;
          same = rw (← kk, ← ef) (not-false (same_key k f) (sym ee ∙ u));
          settled = q;
        } in
        record { on = λ w g. subst (λ (o : Taken). GoesOn s key n o.slot) (same_Some y w g) on }

  pub ruleset still_at_laws = (settled_then, still_on)

  -- ---- the entry taken

  pub above_is : (n i : ℕ) → n < t.used → t.root < t.used → (i ≡ 0 → ⊥) → (c d : Bool) → c ≡ (node_in size h b n).dirty → c ≡ true
      → d ≡ (node_in size h b t.root).dirty → d ≡ true → (k : Bool) → k ≡ not (eqb t.info.key_count 0) → k ≡ true
      → (o : Bool) → o ≡ has_only_child (state_of size t h b) → not o ≡ true → StaysAbove (state_of size t h b) n i
  above_is n j hn hr z c d ec nc ed nd k ek zk o eo u =
      record {
        later = omega (arith, z);
        leaf = ap (λ m. m.dirty) (node_in_lem size t h b n hn) ∙ sym ec ∙ nc;
        root = (unfold state_of in ap (λ m. m.dirty) (node_in_lem size t h b t.root hr) ∙ sym ed ∙ nd);
        keys = (unfold state_of in omega (arith, eqb-false t.info.key_count 0 (not-true (eqb t.info.key_count 0) (sym ek ∙ zk))));
        more = sym eo ∙ not-true o u;
      }

  pub root_used : stand_together (state_of size t h b) ≡ true → t.root < t.used
  root_used st = (unfold state_of in omega (arith, used_nodes size t h b, live_used s t.root (stands_of s st).root))

  module _ (slots : ℕ) (key : List ℕ) (n : ℕ) (r : Ready size slots t.used h b) (st : stand_together (state_of size t h b) ≡ true) (hn : n < t.used)
      (q : StillLeaf t.used (state_of size t h b) key (Some n)) (spot : Spot)
      (ff : FoundAt size (state_of size t h b) h b n key (Ok spot)) (a : StaysAbove (state_of size t h b) n spot.index)
      (h' b' : List ℕ) (eh : length h' ≡ length h) (eb : length b' ≡ length b)
      (w : Wrote size h b h' b' n (edited Kept (node_in size h b n) (remove_at spot.index (node_in size h b n).entries))) where
    put : Put size slots h b h' b' n (edited Kept (node_in size h b n) (remove_at spot.index (node_in size h b n).entries))
    put = put_of size slots h b h' b' n (edited Kept (node_in size h b n) (remove_at spot.index (node_in size h b n).entries)) w

    pub still_ready : Ready size slots t.used h' b'
    still_ready =
        put_ready size slots h b h' b' n (edited Kept (node_in size h b n) (remove_at spot.index (node_in size h b n).entries)) put t.used r eh eb

    module _ (i : BTreeInfo) (ei : i ≡ with_counts t.info (t.info.key_count - 1) t.info.node_count) where
      abbrev u : Tree
      u = record { root = t.root; used = t.used; info = i; by_id = t.by_id; subtype = t.subtype; order = t.order; xid = t.xid }

      after_is : state_of size u h' b' ≡ taken s n spot.index
      unfolding state_of with_info
      after_is =
          let e : state_of size t h' b' ≡ put_node s n (edited Kept (node_in size h b n) (remove_at spot.index (node_in size h b n).entries)) =
          put_state size slots n t h b h' b' r hn eh eb (edited Kept (node_in size h b n) (remove_at spot.index (node_in size h b n).entries)) put in
          let x : BTreeInfo = with_counts t.info (t.info.key_count - 1) t.info.node_count in
          ap (λ (y : BTreeInfo). with_info (state_of size t h' b') y) ei ∙ ap (λ (y : State). with_info y x) e
          ∙ ap (λ (y : MemNode). with_info (put_node s n (with_entries y (remove_at spot.index y.entries))) x) (sym (node_in_lem size t h b n hn))

      pub still_answer : (l : Lent)
          → ok (record {
            state = state_of size (record {
              root = t.root;
              used = t.used;
              info = i;
              by_id = t.by_id;
              subtype = t.subtype;
              order = t.order;
              xid = t.xid;
            }) h' b';
            present = true;
          }) ≡ removed l (state_of size t h b) key
      still_answer l =
          ap yes after_is
          ∙ sym (still_removed l s key n spot.index (stands_of s st) a (sym ff.there) ff.place (q.leads n refl))

  pub leaf_used : (key : List ℕ) (n : ℕ) → StillLeaf t.used (state_of size t h b) key (Some n) → n < t.used
  leaf_used key n q = q.within n refl

  pub leaf_keyed : (key : List ℕ) (n : ℕ) → StillLeaf t.used (state_of size t h b) key (Some n) → keyed t.order.code key ≡ true
  unfolding state_of
  leaf_keyed key n q = q.keys n refl

  pub above_keys : (n j : ℕ) → StaysAbove (state_of size t h b) n j → 1 ≤ t.info.key_count
  unfolding state_of
  above_keys n j a = omega (arith, a.keys)

-- ---- the call

module _ (image : List ℕ) (l : lends.Lent) (t : Tree) (h b : List ℕ) (c : Trusts image l t h b) where
  pub stand_of : stand_together (state_of l.size t h b) ≡ true
  unfolding trusted
  stand_of = (and_split (numbers_hold (lent_of image l) (state_of l.size t h b)) (stand_together (state_of l.size t h b)) c.trust).1

  pub sized_of : Sized t.info
  unfolding state_of
  sized_of = trusted_sized (lent_of image l) (state_of l.size t h b) c.trust

  module _ (key h' b' : List ℕ) (r : Option Tree) (q : StillRemoved l.size l.slots t h b h' b' key r) where
    pub not_trusts : r ≡ None → Trusts image l t h' b'
    not_trusts e = let (a, d) = subst (StillRemoved l.size l.slots t h b h' b' key) e q in rw (a, d) c

    pub not_state : r ≡ None → (h' ≡ h) × (b' ≡ b)
    not_state e = subst (StillRemoved l.size l.slots t h b h' b' key) e q

    module _ (u : Tree) (e : r ≡ Some u) where
      made : StillRemoved l.size l.slots t h b h' b' key (Some u)
      made = subst (StillRemoved l.size l.slots t h b h' b' key) e q

      is : removed_of l.size h' b' (Ok (u, true)) ≡ removed (lent_of image l) (state_of l.size t h b) key
      unfolding removed_of
      is = made.0 (lent_of image l)

      pub yes_answer : removed_of l.size h' b' (Ok (u, true)) ≡ remove_in (lent_of image l) (state_of l.size t h b) key
      yes_answer = is ∙ sym passes
        where
          passes : remove_in (lent_of image l) (state_of l.size t h b) key ≡ removed (lent_of image l) (state_of l.size t h b) key
          passes = unfold remove_in state_of in rw made.1

      pub yes_left : RemovedCalled image l t h b h' b' (Ok (u, true))
      yes_left = call_done image l t h b key c h' b' (Ok (u, true)) is u true refl made.2

pub ruleset remove_in_laws = (stand_of, sized_of, yes_answer)

pub ruleset remove_still_laws = (root_used, leaf_used, leaf_keyed, still_answer, still_ready)
