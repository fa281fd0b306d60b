-- An upsert whose entry is too large for any node is refused by the cut of its leaf, 13 alone and 14 beside others: it need not be stored. Assumes
-- nothing.
use Rattle.std.specs.Prelude.{◌≡◌, List, [], ◌∷◌, true, false, ℕ, ◌-◌}
use Rattle.std.proofs.Common.{ap, ap₂, ◌∙◌}
use Rattle.node.specs.Result.{refused}
use Rattle.node.specs.Entry.{Entry, Val, every}
use Rattle.node.specs.Slot.{is_child, entry_holds}
use Rattle.tree.specs.Lent.{Lent}
use Rattle.tree.specs.State.{State, node_at}
use Rattle.tree.specs.Lookup.{Step, leaf_of}
use Rattle.tree.specs.Edit.{touch, index_keys, cuts}
use Rattle.tree.specs.Upsert.{put_entry, put_in_leaf}
use Rattle.tree.specs.laws.trust.Stands.{Stands, all, Held}
use Rattle.tree.specs.laws.state.OneLeaf.{touch_marks}
use Rattle.tree.specs.laws.trust.Loads.{Down}
use Rattle.tree.specs.laws.trust.Upsert.{leaf₄, live₄, same₄, is₃, touch_order}
use Rattle.tree.specs.laws.room.Weight.{slim, large_refusal, large_cuts}

module _ (l : Lent) (k : List ℕ) (v : Val) (s : State) (x : Step) (ps : List Step) (st : Stands all all s) (held : Held l s) (top : x.slot ≡ s.root)
    (down : Down s (x ∷ ps)) (fit : entry_holds s.order s.info true (record { key = k; value = v }) ≡ true) (plain : is_child v ≡ false) where
  abbrev n : ℕ
  n = leaf_of (x ∷ ps)

  abbrev put : List Entry
  put = put_entry s.order (record { key = k; value = v }) (node_at s n).entries

  abbrev u : State
  u = index_keys (x ∷ ps) (put_in_leaf (touch (x ∷ ps) s) n k v)

  put_is : (node_at u n).entries ≡ put
  put_is =
      ap (λ (t : State). (node_at (index_keys (x ∷ ps) t) n).entries) (is₃ l k v s x ps st held top down fit plain)
      ∙ leaf₄ l k v s x ps st held top down fit plain
      ∙ ap₂ (λ (o : ℕ) (es : List Entry). put_entry o (record { key = k; value = v }) es) (touch_order l k v s x ps st held top down fit plain)
      ((touch_marks (x ∷ ps) s).entries n)

  -- on a way that is loaded, with the leaf's entries after the put
  pub upsert_large : every (slim (s.info.node_size - 56)) put ≡ false → cuts l [] (x ∷ ps) u ≡ refused (large_refusal put)
  upsert_large h =
      let i = is₃ l k v s x ps st held top down fit plain in
      let live : (node_at u n).dead ≡ false = ap (λ (t : State). (node_at (index_keys (x ∷ ps) t) n).dead) i ∙ live₄ l k v s x ps st held top down fit
      plain in
      let size : u.info.node_size ≡ s.info.node_size = ap (λ (t : State). (index_keys (x ∷ ps) t).info.node_size) i ∙ same₄ l k v s x ps st
      held top down fit plain in
      let large : every (slim (u.info.node_size - 56)) (node_at u n).entries ≡ false = rw (put_is, size) h in
      large_cuts l [] x ps u live large ∙ ap (λ (es : List Entry). refused (large_refusal es)) put_is
