-- The edits joined: remove, drop and put on what a call is lent. Assumes nothing.
use Rattle.std.specs.Prelude.{◌≡◌, refl, List, [], ◌∷◌, ◌++◌, ℕ, suc, ◌^◌, ◌<◌}
use Rattle.node.specs.laws.base.Results.{Holds, holds_imp}
use Rattle.node.specs.Entry.{Entry, Val}
use Rattle.tree.specs.Lent.{Lent}
use Rattle.tree.specs.State.{State, node_at}
use Rattle.tree.specs.Load.{unbounded, load_child}
use Rattle.tree.specs.Lookup.{way, Got, between, range_from}
use Rattle.tree.specs.Upsert.{upserted}
use Rattle.tree.specs.Remove.{Removed, removed}
use Rattle.tree.specs.Omap.{omap_drop_in, omap_put_in}
use Rattle.history.specs.Calls.{put_call}
use Rattle.history.specs.Passes.{pass_put, pass_take, became_root, pass_drop, passed}
use Rattle.history.specs.Plain.{plain_upsert, plain_remove, plain_has, plain_drop, plain_put}
use Rattle.history.specs.Statement.{Start, Begins, Lends}
use Rattle.theorem.specs.model.Bounds.{Terms, KeyIn, KeyOk, key_in, ValueOk}
use Rattle.theorem.specs.steps.Way.{Reads, Led}
use Rattle.theorem.specs.model.Good.{found, Old, Suits, Good}
use Rattle.theorem.specs.load.Way as flats
use Rattle.theorem.specs.lookup.Range as ranges
use Rattle.theorem.specs.upsert.Upsert as upserts
use Rattle.theorem.specs.upsert.Call as upsert_in
use Rattle.theorem.specs.remove.Remove as removes
use Rattle.theorem.specs.remove.Omap as omaps

-- an end that is a key wherever there is one
end_in : (τ : Terms) (b : List (List ℕ)) → ((k : List ℕ) (ks : List (List ℕ)) → b ≡ k ∷ ks → KeyIn τ k) → ranges.EndIn τ b
end_in τ [] f = tt
end_in τ (k ∷ ks) f = f k ks refl

module _ (g : Start) (τ : Terms) (suits : Suits g τ) (begins : Begins g) (l : Lent) (lends : Lends g l)
    (reads : (th : List ℕ) (s : State) (es : List Entry) → Good g τ th s es → Reads τ (found g τ) l (Old g) s) where
  good_way : (th : List ℕ) (s : State) (es : List Entry) (h : Good g τ th s es) (k : List ℕ) → KeyIn τ k
      → Holds (λ w. Good g τ th w.state es × Led τ (found g τ) l (Old g) s h.level s.root h.lo h.hi k w) (way l s k)
  good_way th s es h k kk = flats.good_way g τ th begins l lends s (reads th s es h) es h suits k kk

  good_load : (th : List ℕ) (s : State) (es : List Entry) (h : Good g τ th s es) (j : ℕ) (e : Entry) → h.level ≡ suc j
      → (node_at s s.root).entries ≡ e ∷ [] → Holds (λ a. Good g τ th a.state es) (load_child l s unbounded s.root 0)
  good_load th s es h j e lv row =
      holds_imp _ (λ a p. p.0) (flats.good_load_root g τ th begins l lends s (reads th s es h) es h unbounded j [] e [] lv row)

  good_range : (th : List ℕ) (s : State) (es : List Entry) → Good g τ th s es → (a : List ℕ) (b : List (List ℕ)) → KeyIn τ a
      → ((k : List ℕ) (ks : List (List ℕ)) → b ≡ k ∷ ks → KeyIn τ k)
      → Holds (λ (r : Got Entry). (r.answer ≡ between s.order a b es) × Good g τ th r.state es)
      (range_from (node_at s s.root).level l a b s unbounded s.root)
  good_range th s es h a b ka kb = ranges.good_range_from g τ th begins l lends s (reads th s es h) es h suits a b ka (end_in τ b kb)

  pub good_remove : (th : List ℕ) (s : State) (es : List Entry) → Good g τ th s es → (k : List ℕ) → KeyIn τ k
      → Holds (λ (r : Removed). (r.present ≡ plain_has s.order k es)
      × Good g τ (th ++ (pass_take l s k ++ became_root l s k)) r.state (plain_remove s.order k es)) (removed l s k)
  good_remove = removes.good_remove g τ suits l lends good_way good_load

  pub good_drop : (th : List ℕ) (s : State) (es : List Entry) → Good g τ th s es → (id : ℕ) → id < 2 ^ 64
      → Holds (λ u. Good g τ (th ++ pass_drop l s id) u (plain_drop id es)) (omap_drop_in l s id)
  good_drop = omaps.good_drop_in g τ suits l good_remove good_range

  good_upsert : (th : List ℕ) (s : State) (es : List Entry) → Good g τ th s es → (k : List ℕ) (v : Val) → KeyOk τ k → ValueOk τ v
      → Holds (λ u. Good g τ (th ++ pass_put l s k) u (plain_upsert s.order k v es)) (upserted l s k v)
  good_upsert th s es h k v kk vv =
      upserts.good_upsert g τ l k v suits lends.same_slots (upsert_in.begins_small g begins) kk vv th s es h (good_way th s es h k (key_in kk))

  pub good_put : (th : List ℕ) (s : State) (es : List Entry) → Good g τ th s es → (id xid address size : ℕ) → id < 2 ^ 64
      → Holds (λ u. Good g τ (th ++ passed l (put_call id xid address size) s) u (plain_put s.order id xid address size es))
      (omap_put_in l s id xid address size)
  good_put = omaps.good_put g τ suits l good_remove good_range good_upsert
