-- What is found under a reference in a tree: a node that was read, its id the reference; in a physical tree its address too. Assumes nothing.
use Rattle.std.specs.Prelude.{◌≡◌, refl, List, [], ◌∷◌, Bool, true, false, cond, ◌&&◌, ◌||◌, not, ℕ, suc, ◌-◌, ◌*◌, ◌≤◌, ◌<◌, length, leb, eqb}
use Rattle.std.proofs.Common.{sym, ap, ◌∙◌, arith, le-leb, eqb-true}
use Rattle.std.proofs.lemmas.Bool.{eqb-false}
use Rattle.seal.specs.Bytes.{u16_at}
use Rattle.node.specs.Result.{Result, ok, refused, ◌>>=◌}
use Rattle.node.specs.Refusals as refusal
use Rattle.node.specs.Read.{OnDisk, on_disk, parsed, layout_holds, flags_hold, is_fixed, read_node}
use Rattle.node.specs.declared.read.Node.{Node}
use Rattle.node.specs.Place.{Place}
use Rattle.node.specs.laws.base.Tests.{by_test, never, and_right}
use Rattle.node.specs.laws.base.Results.{bind_ok, checked_ok}
use Rattle.node.specs.laws.read.LoadLine.{layout_level, entries_filled}
use Rattle.node.specs.laws.read.Loaded.{Passed, read_passed, entries_length}
use Rattle.tree.specs.Lent.{Lent, block_at, in_image}
use Rattle.tree.specs.Load.{Bounds, unbounded, bound_key, load_block, child_place, address_of, adopted}
use Rattle.tree.specs.Lookup.{opened_at}
use Rattle.tree.specs.State.{State}
use Rattle.tree.specs.laws.trust.Open.{open_opens}
use Rattle.flush.specs.laws.SpaceLaws.{by_list}
use Rattle.history.specs.Walk.{Disk, resolve, moved_to}
use Rattle.history.specs.Statement.{Start, Begins}
use Rattle.theorem.specs.model.Bounds.{Terms}
use Rattle.theorem.specs.model.Seen.{Seen, seen, unread, stood, rd}
use Rattle.theorem.specs.model.Good.{found}

-- ---- a child's block as it was read

layout_oid : (p : Place) (v : Node) → layout_holds p v ≡ true → v.oid ≡ p.oid
unfolding layout_holds
layout_oid p v h =
    eqb-true v.oid p.oid
    (and_right (leb v.keys v.vals && leb v.level 32 && flags_hold p v && leb (v.nkeys * cond (is_fixed v) 4 8) (v.keys - v.toc))
    (eqb v.oid p.oid) h)

-- its id is the one wanted, its level is small, it is not empty
pub record Kid (r : ℕ) (d : OnDisk) : Type 0 where
  pub oid : d.node.oid ≡ r
  pub deep : d.node.level ≤ 32
  pub filled : 0 < length d.entries

filled_some : (n : ℕ) (t : Bool) → (not (eqb n 0) || false && t) ≡ true → 0 < n
filled_some n t h = by_test (eqb n 0) (λ z. let q : (not (eqb n 0) || false && t) ≡ false = rw z in never h q)
    (λ z. let w = eqb-false n 0 z in omega arith)

kid_read : (l : Lent) (o ksize vsize level r a : ℕ) (bs : Bounds) (d : OnDisk) → load_block l o (child_place ksize vsize bs level r) bs a ≡ ok d
    → Kid r d
unfolding load_block child_place on_disk
kid_read l o ksize vsize level r a bs d e =
    let p : Place = child_place ksize vsize bs level r in
    let b : List ℕ = block_at l a in
    let (i, z) = checked_ok refusal.address (in_image l a) (read_node o p (bound_key bs.lower) (bound_key bs.upper) b) d e in
    let q : Passed o p (bound_key bs.lower) (bound_key bs.upper) b d = read_passed o p (bound_key bs.lower) (bound_key bs.upper) b d z in
    let n : ℕ = (parsed p b).nkeys in
    let f : 0 < (parsed p b).nkeys = filled_some (parsed p b).nkeys (eqb (parsed p b).level 0) (entries_filled p (parsed p b) b q.entries) in
    rw q.read
    (record {
      oid = layout_oid p (parsed p b) q.layout;
      deep = layout_level p (parsed p b) q.layout;
      filled = omega (arith, f, entries_length (parsed p b) b 0 (parsed p b).nkeys);
    })

-- ---- a reference's address

-- in a physical tree it is itself
address_plain : (l : Lent) (xid r : ℕ) → leb 1 (length l.map) ≡ false → address_of l xid r ≡ ok r
unfolding address_of
address_plain l xid r h =
    by_list l.map
    (λ q. rw q)
    (λ m ms q. never (le-leb 1 (length (m ∷ ms)) (omega arith)) (sym (ap (λ (x : List ℕ). leb 1 (length x)) q) ∙ h))

resolve_plain : (x : Disk) (r : ℕ) → x.moved ≡ [] → leb 1 (length x.lent.map) ≡ false → resolve x r ≡ ok r
unfolding resolve moved_to
resolve_plain x r m h = rw (m, address_plain x.lent x.xid r h)

ok_same : {A : Type 0} (a b : A) → ok a ≡ ok b → a ≡ b
ok_same a b e = cc

-- ---- what is found, if it is not dead

pub record Found (g : Start) (τ : Terms) (r : ℕ) : Type 0 where
  pub held : Seen
  pub reads : seen g.disk τ r ≡ ok held
  pub node : found g τ r ≡ adopted g.state.virtual held.block held.node
  pub kid : Kid r held.node
  pub plain : g.state.virtual ≡ false → held.block ≡ r

pub seen_kid : (x : Disk) (τ : Terms) (r : ℕ) (y : Seen) → seen x τ r ≡ ok y → Kid r y.node × (resolve x r ≡ ok y.block)
unfolding seen
seen_kid x τ r y e =
    let read : ℕ → Result OnDisk =
    λ a. load_block x.lent x.order (child_place τ.ksize τ.vsize unbounded (suc (u16_at (block_at x.lent a) 34)) r) unbounded a in
    let next : ℕ → Result Seen = λ a. read a >>= λ d. ok (record { block = a; node = d }) in
    let (a, p, q) = bind_ok (resolve x r) next y e in
    let (d, u, v) = bind_ok (read a) (λ d. ok (record { block = a; node = d })) y q in
    let s : ◌≡◌ {A = Seen} (record { block = a; node = d }) y = ok_same _ _ v in
    let k : Kid r d = kid_read x.lent x.order τ.ksize τ.vsize (suc (u16_at (block_at x.lent a) 34)) r a unbounded d u in
    (rw (← s) k, rw (← s) p)

open_virtual : (g : Start) → Begins g → g.state.virtual ≡ leb 1 (length g.disk.lent.map)
unfolding opened_at
open_virtual g b =
    let o = open_opens g.disk.lent g.root g.disk.order g.disk.xid g.state b.opens in
    ap (λ (z : State). z.virtual) o.state

stood_dead : (v : Bool) (n : ℕ) → (stood v (refused n)).dead ≡ true
unfolding stood unread
stood_dead v n = refl

stood_ok : (v : Bool) (y : Seen) → stood v (ok y) ≡ adopted v y.block y.node
unfolding stood
stood_ok v y = refl

pub found_live : (g : Start) (τ : Terms) → Begins g → (r : ℕ) → (found g τ r).dead ≡ false → Found g τ r
unfolding rd
found_live g τ b r h = go (seen g.disk τ r) refl
  where
    go : (z : Result Seen) → seen g.disk τ r ≡ z → Found g τ r
    go (refused n) e = never (ap (λ (x : Result Seen). (stood g.state.virtual x).dead) e ∙ stood_dead g.state.virtual n) h
    go (ok y) e =
        let (k, p) = seen_kid g.disk τ r y e in
        record {
          held = y;
          reads = e;
          node = ap (stood g.state.virtual) e ∙ stood_ok g.state.virtual y;
          kid = k;
          plain = λ f. ok_same _ _ (sym p ∙ resolve_plain g.disk r b.unmoved (sym (open_virtual g b) ∙ f));
        }
