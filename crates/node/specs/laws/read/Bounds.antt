-- Reading with bounds: accepted exactly where it is accepted without them and the keys are within them. Assumes nothing.
use Rattle.std.specs.Prelude.{◌≡◌, false, ◌↔◌, ℕ}
use Rattle.std.proofs.Math.Path.{refl, ap}
use Rattle.std.proofs.Common.{sym, ◌∙◌}
use mathlib.Core.List.{List, [], ◌∷◌}
use Rattle.std.proofs.Math.Bool.{true}
use Rattle.node.specs.Result.{ok}
use Rattle.node.specs.laws.order.Order.{none_below}
use Rattle.node.specs.Entry.{Entry, every}
use Rattle.node.specs.Read.{OnDisk, on_disk, parsed, flags_hold, layout_holds, entries_hold, entries_from, in_bounds, keys_rise, keys_within, keys_hold, read_node}
use Rattle.node.specs.laws.base.Tests.{by_test, and_right, and_both}
use Rattle.node.specs.laws.read.LoadLine.{line_of, node_line}
use Rattle.node.specs.laws.read.Loaded.{read_passed}
use Rattle.node.specs.declared.read.Node.{Node}
use Rattle.node.specs.Place.{Place}

-- the same place, with no upper bound. An empty lower bound is none: no key is below it
unfoldable pub unbounded_place : Place → Place
unbounded_place p = record { root = p.root; oid = p.oid; parent = p.parent; ksize = p.ksize; vsize = p.vsize; bounded = false }

any_bounds : (o : ℕ) (p : Place) (k : List ℕ) → in_bounds o (unbounded_place p) [] [] k ≡ true
unfolding in_bounds unbounded_place
any_bounds o p k = by_test p.root (λ z. rw z) (λ z. rw (z, none_below o k))

pub within_unbounded : (o : ℕ) (p : Place) (es : List Entry) → keys_within o (unbounded_place p) [] [] es ≡ true
unfolding keys_within every
within_unbounded o p [] = refl
within_unbounded o p (e ∷ es) = and_both (in_bounds o (unbounded_place p) [] [] e.key) _ (any_bounds o p e.key) (within_unbounded o p es)

module _ (o : ℕ) (p : Place) (lower upper b : List ℕ) where
  abbrev v : Node
  v = parsed p b

  abbrev es : List Entry
  es = entries_from v b 0 v.nkeys

  same_node : parsed p b ≡ parsed (unbounded_place p) b
  unfolding parsed unbounded_place
  same_node = refl

  same_line : keys_within o p lower upper es ≡ true → line_of o p lower upper b v ≡ line_of o (unbounded_place p) [] [] b v
  unfolding layout_holds flags_hold entries_hold unbounded_place
  same_line h = rw (h, within_unbounded o p es)

  -- where the keys are within the bounds, they change nothing
  pub read_unbounded : keys_within o p lower upper es ≡ true → read_node o p lower upper b ≡ read_node o (unbounded_place p) [] [] b
  read_unbounded h = sym (node_line o p lower upper b v refl) ∙ same_line h ∙ node_line o (unbounded_place p) [] [] b v same_node

  pub read_bounds_iff : (d : OnDisk)
      → (read_node o p lower upper b ≡ ok d) ↔ ((read_node o (unbounded_place p) [] [] b ≡ ok d) × (keys_within o p lower upper d.entries ≡ true))
  unfolding on_disk keys_hold
  read_bounds_iff d = (
    λ e.
        let q = read_passed o p lower upper b d e in
        let w : keys_within o p lower upper es ≡ true = and_right (keys_rise o es) (keys_within o p lower upper es) q.keys in
        (sym (read_unbounded w) ∙ e, ap (λ (x : OnDisk). keys_within o p lower upper x.entries) q.read ∙ w),
    λ e.
        let q = read_passed o (unbounded_place p) [] [] b d e.0 in
        let r : d ≡ on_disk v b = q.read ∙ ap (λ (x : Node). on_disk x b) (sym same_node) in
        read_unbounded (sym (ap (λ (x : OnDisk). keys_within o p lower upper x.entries) r) ∙ e.1) ∙ e.0,
  )
