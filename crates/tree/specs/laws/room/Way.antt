-- What trust grants a call: linked slots, a way of distinct slots that ends in a live leaf, and room in every slot. Assumes nothing.
use Rattle.std.specs.Prelude.{◌≡◌, refl, List, [], ◌∷◌, true, false, ◌&&◌, ℕ, zero, suc, ◌*◌, ◌≤◌, ◌<◌, length, get_or, leb}
use Rattle.std.proofs.Common.{sym, subst}
use Rattle.node.specs.Result.{ok}
use Rattle.node.specs.Refusals as refusal
use Rattle.node.specs.Order.{known, pair_key}
use Rattle.node.specs.Entry.{leaf}
use Rattle.node.specs.Slot.{MemNode}
use Rattle.node.specs.laws.base.Tests.{never, and_left}
use Rattle.node.specs.laws.base.Results.{Holds, holds_bind, holds_check}
use Rattle.tree.specs.Lent.{Lent, sizes_hold}
use Rattle.tree.specs.State.{State, no_node, node_at}
use Rattle.tree.specs.Load.{unbounded, adopted}
use Rattle.tree.specs.Lookup.{opened_at, opened, Way, way, leaf_of, floor_from}
use Rattle.tree.specs.Omap.{is_omap, dropped, omap_value, omap_put_in}
use Rattle.tree.specs.Trust.{trusted}
use Rattle.tree.specs.laws.state.Linked.{Linked}
use Rattle.tree.specs.laws.trust.Open.{Opens, open_opens}
use Rattle.tree.specs.laws.trust.Stands.{all, stands_linked, trusted_of}
use Rattle.tree.specs.laws.trust.Loads.{loaded_trusted, floor_loaded, Down, way_root}
use Rattle.tree.specs.laws.trust.Edit.{on_way, falls_used, down_falls, down_leaf}
use Rattle.tree.specs.laws.trust.Upsert.{sizes_most, down_once}
use Rattle.tree.specs.laws.trust.Omap.{dropped_safe, omap_put_fits}
use Rattle.tree.specs.laws.room.Weight.{weight}
use Rattle.tree.specs.internal.Room.{Roomy}
use Rattle.tree.specs.laws.room.Room.{roomy_light}
use Rattle.tree.specs.laws.room.Calls.{block_weight, light_floor, trusted_small, trusted_roomy, roomy_upsert, roomy_drop}

-- a child in a slot is in use, live and one level lower
pub trusted_linked : (l : Lent) (s : State) → trusted l s ≡ true → Linked s
trusted_linked l s h = stands_linked all all s (trusted_of l s h).1

-- ---- the way to a key

module _ (l : Lent) (s : State) (k : List ℕ) (w : Way) (h : trusted l s ≡ true) (e : way l s k ≡ ok w) where
  -- each slot of it is live and names the next; the last is a leaf
  pub way_down : Down w.state w.steps
  way_down = ((way_root l s k (trusted_of l s h).1).at w e).down

  -- no slot stands on it twice
  pub way_once : (c : ℕ) → on_way c w.steps ≤ 1
  way_once c = down_once all all w.state w.steps c ((way_root l s k (trusted_of l s h).1).at w e).loaded.stands way_down

  pub way_used : (c : ℕ) → 1 ≤ on_way c w.steps → c < length w.state.nodes
  way_used = falls_used w.state w.steps (down_falls all all w.state w.steps ((way_root l s k (trusted_of l s h).1).at w e).loaded.stands
      way_down)

  pub way_leaf_live : (node_at w.state (leaf_of w.steps)).dead ≡ false
  way_leaf_live = (down_leaf w.state w.steps way_down).0

  pub way_leaf_level : (node_at w.state (leaf_of w.steps)).level ≡ 0
  way_leaf_level = (down_leaf w.state w.steps way_down).1

-- ---- room: open, floor, put

-- of one slot's list the other slots are none
first_only : (m : MemNode) (n k : ℕ) → (get_or (m ∷ []) n no_node).dead ≡ false → weight m.entries ≤ k
    → weight (get_or (m ∷ []) n no_node).entries ≤ k
unfolding no_node
first_only m zero k d h = h
first_only m (suc n) k d h = never refl d

opened_roomy : (l : Lent) (r order xid : ℕ) (s : State) → Opens l r order xid s → Roomy (2 * l.size) s
unfolding opened_at node_at adopted
opened_roomy l r order xid s o =
    let small : l.size ≤ 65536 = sizes_most l (and_left (sizes_hold l) (known order)
    (and_left (sizes_hold l && known order) (leb (length l.map) 1) o.sizes)) in
    let k : weight o.found.entries ≤ 2 * l.size = block_weight l order _ unbounded o.address o.found small o.reads in
    subst (Roomy (2 * l.size)) (sym o.state) (record
    { most = λ n d. first_only (adopted (leb 1 (length l.map)) o.address o.found) n (2 * l.size) d k })

pub roomy_open : (l : Lent) (r order xid : ℕ) → Holds (Roomy (2 * l.size)) (opened l r order xid)
roomy_open l r order xid = record { at = λ s e. opened_roomy l r order xid s (open_opens l r order xid s e) }

pub roomy_floor : (l : Lent) (s : State) (k : List ℕ) → trusted l s ≡ true → Roomy (2 * l.size) s
    → Holds (λ g. Roomy (2 * l.size) g.state) (floor_from (node_at s s.root).level l s unbounded s.root k)
roomy_floor l s k h r =
    let d : ℕ = (node_at s s.root).level in
    record {
      at = λ g e. trusted_roomy l g.state (loaded_trusted l s g.state h
          ((floor_loaded d l all all s unbounded s.root k (trusted_of l s h).1).at g e))
          ((light_floor l (trusted_small l s h) d s unbounded s.root k (roomy_light _ s r)).at g e);
    }

pub roomy_put : (l : Lent) (s : State) (id xid address size : ℕ) → trusted l s ≡ true → Roomy (2 * l.size) s
    → Holds (Roomy (2 * l.size)) (omap_put_in l s id xid address size)
unfolding omap_put_in
roomy_put l s id xid address size h r =
    holds_check refusal.argument (is_omap s) _ λ f.
    holds_bind (dropped l s id) _ λ t q.
    let a = (dropped_safe l s id h).at t q in
    roomy_upsert l t (pair_key id xid) (leaf (omap_value size address)) a.trust (omap_put_fits l s t id xid size address f a)
    ((roomy_drop l s id h r).at t q)
