-- A key taken out on a way that has it, the cuts included: the invariant holds on, with the blocks of the way. Assumes nothing.
use Rattle.std.specs.Prelude.{◌≡◌, List, [], ◌∷◌, ◌++◌, Bool, true, false, cond, ℕ, ◌+◌, ◌-◌, ◌≤◌, ◌<◌, length}
use Rattle.std.proofs.Common.{sym, ap, ap₂, ◌∙◌, arith}
use Rattle.node.specs.Result.{ok}
use Rattle.node.specs.Entry.{Entry}
use Rattle.node.specs.Find.{is_there}
use Rattle.node.specs.Slot.{MemNode}
use Rattle.node.specs.declared.info.BTreeInfo.{BTreeInfo}
use Rattle.node.specs.laws.base.Tests.{by_test, never}
use Rattle.tree.specs.Lent.{Lent}
use Rattle.tree.specs.State.{State, node_at, with_counts}
use Rattle.tree.specs.Lookup.{Step}
use Rattle.tree.specs.Edit.{touch, cuts}
use Rattle.tree.specs.Remove.{drop_emptied, take_from_leaf}
use Rattle.history.specs.Passes.{blocks_on}
use Rattle.history.specs.Plain.{plain_remove}
use Rattle.history.specs.Statement.{Start, Lends, uses}
use Rattle.history.specs.laws.PlainLaws.{remove_length}
use Rattle.theorem.specs.model.Bounds.{Terms, KeyIn}
use Rattle.theorem.specs.model.Lazy.{ok_live}
use Rattle.theorem.specs.model.Lift.{Toward}
use Rattle.theorem.specs.steps.LeafAndKeys.{Along}
use Rattle.theorem.specs.steps.Grow.{Steady}
use Rattle.theorem.specs.steps.Way.{blocks_steady}
use Rattle.theorem.specs.model.Good.{Kept, Flat, found, Good}
use Rattle.theorem.specs.steps.EachSlot.{on_way, Follows, Keeps}
use Rattle.theorem.specs.steps.EachSlotCuts.{Numbers, Counted}
use Rattle.theorem.specs.steps.EachSlotRoot.{Ends, keeps_ends, Cuts, cuts_end}
use Rattle.theorem.specs.steps.EachSlotAfter.{Fit, flat_end}
use Rattle.theorem.specs.steps.Fit.{Sizes, cuts_fit, fit_off}
use Rattle.theorem.specs.remove.DeadSums.{part_live, dead_sum, dead_blocks_lem, state_sum}
use Rattle.theorem.specs.remove.Accounts.{stood_live, Books, books_once}
use Rattle.theorem.specs.remove.CutsAtRoot.{Rerooted, cuts_rerooted, books_rerooted}
use Rattle.theorem.specs.steps.HasKey.{has_way}
use Rattle.theorem.specs.remove.BeforeCuts as P

-- a sum over ids is steady
ids_steady : (i : ℕ) → Steady (λ m. uses i m.id)
unfolding uses
ids_steady i = record { same = λ m m' p q. ap (uses i) q; none = λ m p q. ap (uses i) q }

module _ (g : Start) (τ : Terms) (s : State) (th : List ℕ) (es : List Entry) (good : Good g τ th s es) (order : s.order ≡ τ.order) (k : List ℕ)
    (kk : KeyIn τ k)
    (leaf i : ℕ) (qs : List Step) (along : Along s (Toward τ k) leaf good.level s.root (record { slot = s.root; child = i } ∷ qs))
    (there : is_there s.order k (node_at s leaf).entries ≡ true) where
  abbrev rd : ℕ → MemNode
  rd = found g τ

  abbrev r : ℕ
  r = s.root

  abbrev ps : List Step
  ps = record { slot = s.root; child = i } ∷ qs

  abbrev w : ℕ → ℕ
  w c = on_way c ps

  abbrev dropped : ℕ
  dropped = (drop_emptied ps (take_from_leaf (touch ps s) leaf k)).nodes

  abbrev s₆ : State
  s₆ = P.s₆ g τ s th es good order k kk leaf i qs along there

  abbrev pr : P.Pruned g τ s th es good order k kk leaf i qs along there
  pr = P.pruned g τ s th es good order k kk leaf i qs along there

  abbrev k₆ : Keeps w s s₆
  k₆ = P.k₆ g τ s th es good order k kk leaf i qs along there

  abbrev B : (MemNode → ℕ) → ℕ
  B = P.B g τ s th es good order k kk leaf i qs along there

  abbrev F : (MemNode → ℕ) → ℕ
  F = P.F g τ s th es good order k kk leaf i qs along there

  used_r : r < length s.nodes
  used_r = P.used_r g τ s th es good order k kk leaf i qs along there

  used₆ : s₆.root < length s₆.nodes
  used₆ = omega (arith, used_r, k₆.root, pr.count)

  -- the key is there
  has : is_there τ.order k es ≡ true
  has =
      ap (is_there τ.order k) (sym good.holds) ∙ has_way τ k kk rd s leaf good.level r ps along good.lo good.hi good.tree
      ∙ ap (λ (o : ℕ). is_there o k (node_at s leaf).entries) (sym order) ∙ there

  length_less : length (plain_remove τ.order k es) + 1 ≡ length es
  length_less =
      let h = remove_length τ.order k es in
      rw has at h

  -- ---- the numbers before the cuts

  numbers₆ : (f : BTreeInfo → ℕ) → f s₆.info ≡ f (with_counts s.info (s.info.key_count - 1) (s.info.node_count - dropped))
  numbers₆ f = ap f pr.info

  sizes₆ : Sizes s.info s₆.info
  unfolding with_counts
  sizes₆ = record {
    flags = numbers₆ (λ t. t.flags);
    node = numbers₆ (λ t. t.node_size);
    key = numbers₆ (λ t. t.key_size);
    val =
        numbers₆ (λ t. t.val_size);
  }

  keys₆ : s₆.info.key_count ≡ s.info.key_count - 1
  unfolding with_counts
  keys₆ = numbers₆ (λ t. t.key_count)

  nodes₆ : s₆.info.node_count ≡ s.info.node_count - dropped
  unfolding with_counts
  nodes₆ = numbers₆ (λ t. t.node_count)

  longest₆ : (s₆.info.longest_key ≡ s.info.longest_key) × (s₆.info.longest_val ≡ s.info.longest_val)
  unfolding with_counts
  longest₆ = (numbers₆ (λ t. t.longest_key), numbers₆ (λ t. t.longest_val))

  -- ---- after the cuts

  module _ (l : Lent) (lends : Lends g l) (enough : dropped ≤ s.info.node_count) (u : State) (is : cuts l [] ps s₆ ≡ ok u) where
    rr : Rerooted τ rd s₆ pr.level r pr.lo pr.hi u u.root
    rr = (cuts_rerooted τ rd l s₆ pr.level r ps pr.stub pr.lo pr.hi k₆.root (books_once τ rd B F s₆ pr.level r pr.books)
        pr.ok).at u is

    cu : Cuts l w s₆ u
    cu = (cuts_end l w (record { slot = s.root; child = i }) qs s₆ (sym k₆.root) used₆ (λ c h. h)).at u is

    fit : Fit u
    fit =
        (cuts_fit l (record { slot = s.root; child = i }) qs s₆ (sym k₆.root)
        (ap (λ (z : ℕ). on_way z qs) k₆.root ∙ P.root_once g τ s th es good order k kk leaf i qs along there) used₆
        (fit_off g τ th ps s s₆ good.flat k₆ pr.count sizes₆)).at u is

    ends : Ends w s u
    ends = keeps_ends w s s₆ u used_r k₆ cu.ends

    count : Counted l s₆ u
    count = cu.grew.counted

    live₆ : (node_at s₆ r).dead ≡ false
    live₆ = ok_live τ rd (node_at s₆) pr.level pr.lo pr.hi (node_at s₆ r) pr.ok

    -- dead slots are as they were
    dead_same : (f : MemNode → ℕ) → Steady f → dead_sum f u.nodes ≡ dead_sum f s₆.nodes
    dead_same f h =
        state_sum f s₆ u cu.ends.longer
        (λ c j. by_test (node_at s₆ c).dead
        (λ t.
        let e : Follows (node_at s₆ c) (node_at u c) = cu.ends.each c j (λ q. never t (ap (λ (z : ℕ). (node_at s₆ z).dead) (q ∙ k₆.root) ∙ live₆)) in
        ap₂ (λ (d : Bool) (x : ℕ). cond d x 0) (cu.grew.dead c j) (h.same (node_at u c) (node_at s₆ c) e.block e.id))
        (λ t. part_live f (node_at u c) (cu.grew.dead c j ∙ t) ∙ sym (part_live f (node_at s₆ c) t)))
        cu.grew.live

    books : Books τ rd B F u rr.level u.root
    books = books_rerooted τ rd B F s₆ pr.level r pr.lo pr.hi u u.root pr.books rr cu.grew.dead cu.grew.live dead_same

    pub root_dirty : (node_at u u.root).dirty ≡ true
    root_dirty = cu.ends.root_dirty (ap (λ (z : ℕ). (node_at s₆ z).dirty) k₆.root ∙ P.root_dirty g τ s th es good order k kk leaf i qs along there)

    flat : Flat g τ (th ++ blocks_on s ps) u
    flat =
        let z = good.flat.few in
        let y = lends.same_slots in
        flat_end g τ th (Toward τ k) leaf good.level good.lo good.hi ps s u good.flat good.tree
        (P.once₀ g τ s th es good order k kk leaf i qs along there)
        (λ c h d. omega (arith, good.once c h, stood_live (node_at s c).dead d)) along (P.on_root g τ s th es good order k kk leaf i qs along there)
        ends
        (cu.ends.dirty r (omega (arith, used_r, pr.count)) (P.root_dirty g τ s th es good order k kk leaf i qs along there)) root_dirty
        (λ v c h o. cu.ends.dirty c (omega (arith, pr.count)) (P.way_dirty g τ s th es good order k kk leaf i qs along there v c h o))
        (cu.grew.deep pr.deep) (cu.grew.filled pr.filled) fit (let x = count.few (omega (arith, pr.count)) in omega arith)

    kept : Kept u.info g.state.info
    kept =
        let n : Numbers s₆.info u.info = count.numbers in
        let h = good.info in
        record {
          flags = n.flags ∙ sizes₆.flags ∙ h.flags;
          node = n.node ∙ sizes₆.node ∙ h.node;
          key = n.key ∙ sizes₆.key ∙ h.key;
          val = n.val ∙ sizes₆.val ∙ h.val;
          longest_key = let z = h.longest_key in omega (arith, n.longest_key, longest₆.0);
          longest_val = let z = h.longest_val in omega (arith, n.longest_val, longest₆.1);
          key_count = let z = h.key_count in omega (arith, n.key_count, keys₆);
          node_count = let z = h.node_count in count.nodes (omega (arith, nodes₆));
        }

    pub good_cut : Good g τ (th ++ blocks_on s ps) u (plain_remove τ.order k es)
    good_cut =
        record {
          order = ends.order ∙ good.order;
          virtual = ends.virtual ∙ good.virtual;
          xid = ends.xid ∙ good.xid;
          subtype = ends.subtype ∙ good.subtype;
          info = kept;
          level = rr.level;
          lo = pr.lo;
          hi = pr.hi;
          tree = rr.ok;
          holds = rr.holds ∙ pr.holds;
          key_count = omega (arith, count.numbers.key_count, keys₆, good.key_count, length_less);
          node_count = omega (arith, count.count, nodes₆, rr.nodes, pr.nodes, enough);
          once = books.once;
          out = books.out;
          flat = flat;
          blocks = λ a.
              omega (
                arith,
                books.sums (λ m. uses a m.block) (blocks_steady a),
                dead_blocks_lem a u.nodes,
                dead_blocks_lem a s.nodes,
                good.blocks a,
              );
          ids = λ v j. let h = good.ids (sym ends.virtual ∙ v) j in omega (arith, books.fewer (λ m. uses j m.id) (ids_steady j));
          root_id = λ v. ends.root_id ∙ good.root_id (sym ends.virtual ∙ v);
          still = λ h. never root_dirty h;
        }
