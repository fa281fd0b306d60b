-- Object-map drop and put: the keys of the range that drop reads taken out one after the other, then the upsert; the invariant holds on with the
-- plain list's drop and put. Assumes nothing.
use Rattle.std.specs.Prelude.{◌≡◌, true, ◌&&◌, not, ℕ, suc, ◌-◌, ◌^◌, ◌≤◌, ◌<◌, length, eqb}
use Rattle.std.proofs.Math.Path.{refl, sym, ap, ap₂, subst}
use Rattle.std.proofs.Common.{◌∙◌, arith, length-append, eqb-true, eq-eqb}
use mathlib.Core.List.{List, [], ◌∷◌, ◌++◌, append_assoc, append-nil}
use Rattle.node.specs.Bytes.{bytes_of}
use Rattle.node.specs.Result.{ok}
use Rattle.node.specs.laws.base.Results.{Holds, holds_ok, holds_bind, holds_check}
use Rattle.node.specs.Refusals as refusal
use Rattle.node.specs.Order.{pair, pair_key, less}
use Rattle.node.specs.Entry.{Entry, Val, leaf, rise_after, rising, value_bytes}
use Rattle.node.specs.laws.base.Bytes.{Bytes, bytes_append, bytes_bytes_of}
use Rattle.node.specs.laws.base.Seal.{length_bytes_of}
use Rattle.node.specs.laws.order.Order.{length_pair_key, pair_key_key}
use Rattle.node.specs.laws.order.Rising.{Keys}
use Rattle.node.specs.laws.base.Tests.{by_test, and_split, and_both}
use Rattle.tree.specs.Lent.{Lent}
use Rattle.tree.specs.State.{State, node_at}
use Rattle.tree.specs.Load.{unbounded}
use Rattle.tree.specs.Lookup.{Got, ends_above, between, range_from}
use Rattle.tree.specs.Upsert.{upserted}
use Rattle.tree.specs.Remove.{Removed, removed}
use Rattle.tree.specs.Omap.{is_omap, versions_end, remove_all, dropped, omap_value, omap_drop_in, omap_put_in}
use Rattle.history.specs.Calls.{put_call}
use Rattle.history.specs.Passes.{pass_put, pass_take, became_root, pass_takes, pass_drop, passed}
use Rattle.history.specs.Plain.{plain_upsert, plain_remove, plain_has, plain_drop, plain_put}
use Rattle.history.specs.Statement.{Start}
use Rattle.history.specs.laws.PlainLaws.{plain_removes, drop_range}
use Rattle.theorem.specs.model.Bounds.{Terms, K, Items, nil, cons, Row, KeyIn, KeyOk, key_in, value_sized, ValueOk, by_keys}
use Rattle.theorem.specs.model.Lazy.{ok_rows}
use Rattle.theorem.specs.model.Good.{found, Suits, Good}

-- ---- rows: their keys are keys of the order, and rise

module _ (τ : Terms) where
  abbrev pub KeysIn : List Entry → Type 0
  KeysIn [] = Unit {0}
  KeysIn (e ∷ es) = KeyIn τ e.key × KeysIn es

  rows_in : {lo hi : ℕ} {es : List Entry} → Items (K τ) (Row τ) lo hi es → KeysIn es
  rows_in (nil e) = tt
  rows_in (cons e p r) = (key_in p.key, rows_in r)

  rows_keys : {lo hi : ℕ} {es : List Entry} → Items (K τ) (Row τ) lo hi es → Keys τ.order es
  rows_keys (nil e) = tt
  rows_keys (cons e p r) = (p.key.key, rows_keys r)

  rows_after : (k : List ℕ) → KeyOk τ k → {lo hi : ℕ} {es : List Entry} → Items (K τ) (Row τ) lo hi es → K τ k < lo → rise_after τ.order k es ≡ true
  unfolding rise_after
  rows_after k kk (nil e) h = refl
  rows_after k kk (cons {e = x} e p r) h =
      by_keys τ k x.key kk (key_in p.key)
      (λ l t. and_both (less τ.order k x.key) _ t (rows_after x.key p.key r p.below))
      (λ q _ _ _. absurd (omega arith))
      (λ l _ _. absurd (omega arith))

  pub rows_rising : {lo hi : ℕ} {es : List Entry} → Items (K τ) (Row τ) lo hi es → rising τ.order es ≡ true
  unfolding rising
  rows_rising (nil e) = refl
  rows_rising (cons {e = x} e p r) = rows_after x.key p.key r p.below

  between_in : (o : ℕ) (lo : List ℕ) (hi : List (List ℕ)) (es : List Entry) → KeysIn es → KeysIn (between o lo hi es)
  unfolding between
  between_in o lo hi [] h = tt
  between_in o lo hi (e ∷ es) h =
      by_test (not (less o e.key lo) && ends_above o hi e.key)
      (λ t. rw t (h.0, between_in o lo hi es h.1))
      (λ t. rw t (between_in o lo hi es h.1))

-- ---- what is passed through, step by step

takes_next : (l : Lent) (s : State) (e : Entry) (es : List Entry) (r : Removed) → removed l s e.key ≡ ok r
    → pass_takes l s (e ∷ es) ≡ (pass_take l s e.key ++ became_root l s e.key) ++ pass_takes l r.state es
unfolding pass_takes
takes_next l s e es r q = rw q

drop_takes : (l : Lent) (s : State) (id : ℕ) (q : Got Entry)
    → range_from (node_at s s.root).level l (pair_key id 0) (versions_end id) s unbounded s.root ≡ ok q
    → pass_drop l s id ≡ pass_takes l q.state q.answer
unfolding pass_drop
drop_takes l s id q e = rw e

put_passed : (l : Lent) (s t : State) (id xid address size : ℕ) → dropped l s id ≡ ok t
    → passed l (put_call id xid address size) s ≡ pass_drop l s id ++ pass_put l t (pair_key id xid)
unfolding passed
put_passed l s t id xid address size e = rw e

-- ---- keys and values of an object map

omap_order : (s : State) → is_omap s ≡ true → (s.order ≡ pair) × (s.info.key_size ≡ 16) × (s.info.val_size ≡ 16)
unfolding is_omap
omap_order s h =
    let (a, b) = and_split (eqb s.order pair && eqb s.info.key_size 16) (eqb s.info.val_size 16) h in
    let (c, d) = and_split (eqb s.order pair) (eqb s.info.key_size 16) a in
    (eqb-true s.order pair c, eqb-true s.info.key_size 16 d, eqb-true s.info.val_size 16 b)

length_omap_value : (size address : ℕ) → length (omap_value size address) ≡ 16
unfolding omap_value
length_omap_value size address =
    let a = length-append (bytes_of 4 0 ++ bytes_of 4 size) (bytes_of 8 address) in
    let b = length-append (bytes_of 4 0) (bytes_of 4 size) in
    omega (arith, length_bytes_of 4 0, length_bytes_of 4 size, length_bytes_of 8 address)

bytes_omap_value : (size address : ℕ) → Bytes (omap_value size address)
unfolding omap_value
bytes_omap_value size address =
    bytes_append (bytes_of 4 0 ++ bytes_of 4 size) (bytes_of 8 address)
    (bytes_append (bytes_of 4 0) (bytes_of 4 size) (bytes_bytes_of 4 0) (bytes_bytes_of 4 size)) (bytes_bytes_of 8 address)

pair_in : (τ : Terms) (id xid : ℕ) → τ.order ≡ pair → 65536 ≤ τ.most → KeyIn τ (pair_key id xid)
pair_in τ id xid o m = record { key = rw o (pair_key_key id xid); short = omega (arith, length_pair_key id xid) }

pair_ok : (τ : Terms) (id xid : ℕ) → τ.order ≡ pair → 65536 ≤ τ.most → τ.ksize ≡ 16 → KeyOk τ (pair_key id xid)
pair_ok τ id xid o m k =
    record {
      key = rw o (pair_key_key id xid);
      short = omega (arith, length_pair_key id xid);
      fixed = rw k (eq-eqb (length (pair_key id xid)) 16 (length_pair_key id xid));
    }

value_ok : (τ : Terms) (size address : ℕ) → τ.ksize ≡ 16 → τ.vsize ≡ 16 → ValueOk τ (leaf (omap_value size address))
unfolding value_sized value_bytes
value_ok τ size address k v =
    record {
      sized = rw (k, v) (eq-eqb (length (omap_value size address)) 16 (length_omap_value size address));
      bytes = bytes_omap_value size address;
    }

ends_in : (τ : Terms) (id : ℕ) → τ.order ≡ pair → 65536 ≤ τ.most → (k : List ℕ) (ks : List (List ℕ)) → versions_end id ≡ k ∷ ks → KeyIn τ k
unfolding versions_end
ends_in τ id o m k ks q =
    by_test (eqb id (2 ^ 64 - 1))
    (λ t. let z : ◌≡◌ {A = List (List ℕ)} [] (k ∷ ks) = rw t at q in let y : ◌≡◌ {A = ℕ} 0 (suc (length ks)) = ap length z in absurd (omega arith))
    (λ t. let z : ◌≡◌ {A = List (List ℕ)} (pair_key (suc id) 0 ∷ []) (k ∷ ks) = rw t at q in let y : pair_key (suc id) 0 ≡ k = cc in
    subst (KeyIn τ) y (pair_in τ (suc id) 0 o m))

module _ (g : Start) (τ : Terms) (suits : Suits g τ) (l : Lent)
    (good_remove : (th : List ℕ) (s : State) (es : List Entry) → Good g τ th s es → (k : List ℕ) → KeyIn τ k
    → Holds (λ (r : Removed). (r.present ≡ plain_has s.order k es) × Good g τ (th ++ (pass_take l s k ++ became_root l s k)) r.state
    (plain_remove s.order k es)) (removed l s k))
    (good_range : (th : List ℕ) (s : State) (es : List Entry) → Good g τ th s es → (a : List ℕ) (b : List (List ℕ)) → KeyIn τ a
    → ((k : List ℕ) (ks : List (List ℕ)) → b ≡ k ∷ ks → KeyIn τ k)
    → Holds (λ (r : Got Entry). (r.answer ≡ between s.order a b es) × Good g τ th r.state es)
    (range_from (node_at s s.root).level l a b s unbounded s.root)) where
  -- ---- keys taken out one after the other

  abbrev Removes : List Entry → Type 0
  Removes ds = (th : List ℕ) (s : State) (es : List Entry) → Good g τ th s es → KeysIn τ ds
      → Holds (λ u. Good g τ (th ++ pass_takes l s ds) u (plain_removes s.order ds es)) (remove_all l ds s)

  removes_none : Removes []
  unfolding remove_all pass_takes
  removes_none th s es h k = holds_ok (rw (append-nil th) h)

  removes_next : (d : Entry) (ds : List Entry) → Removes ds → Removes (d ∷ ds)
  unfolding remove_all
  removes_next d ds ih th s es h k =
      holds_bind (removed l s d.key) _ λ r e.
      let a = ((good_remove th s es h d.key k.0).at r e).1 in
      let o : r.state.order ≡ s.order = a.order ∙ sym h.order in
      rw (takes_next l s d ds r e, ← append_assoc)
      (subst (λ (z : ℕ). Holds (λ u. Good g τ (th ++ (pass_take l s d.key ++ became_root l s d.key) ++ pass_takes l r.state ds) u
      (plain_removes z ds (plain_remove s.order d.key es))) (remove_all l ds r.state)) o
      (ih (th ++ (pass_take l s d.key ++ became_root l s d.key)) r.state (plain_remove s.order d.key es) a k.1))

  pub good_removes : (ds : List Entry) → Removes ds
  good_removes [] = removes_none
  good_removes (d ∷ ds) = removes_next d ds (good_removes ds)

  -- ---- drop

  pub good_drop : (th : List ℕ) (s : State) (es : List Entry) → Good g τ th s es → (id : ℕ) → id < 2 ^ 64 → s.order ≡ pair
      → Holds (λ u. Good g τ (th ++ pass_drop l s id) u (plain_drop id es)) (dropped l s id)
  unfolding dropped
  good_drop th s es h id small p =
      let o : τ.order ≡ pair = suits.order ∙ sym h.order ∙ p in
      let rows = ok_rows τ (found g τ) (node_at s) h.level h.lo h.hi (node_at s s.root) h.tree in
      let rows' : Items (K τ) (Row τ) h.lo h.hi es = rw h.holds at rows in
      holds_bind (range_from (node_at s s.root).level l (pair_key id 0) (versions_end id) s unbounded s.root) _ λ q e.
      let (a, b) = (good_range th s es h (pair_key id 0) (versions_end id) (pair_in τ id 0 o suits.most) (ends_in τ id o suits.most)).at q e in
      let same : q.state.order ≡ pair = b.order ∙ sym h.order ∙ p in
      let is : q.answer ≡ between pair (pair_key id 0) (versions_end id) es = a ∙ ap (λ (z : ℕ). between z (pair_key id 0) (versions_end id) es) p in
      let keys : KeysIn τ q.answer = subst (KeysIn τ) (sym is) (between_in τ pair (pair_key id 0) (versions_end id) es (rows_in τ rows')) in
      let list : plain_removes q.state.order q.answer es ≡ plain_drop id es =
      ap₂ (λ (x : ℕ) (y : List Entry). plain_removes x y es) same is
      ∙ drop_range id es small (subst (λ (z : ℕ). Keys z es) o (rows_keys τ rows')) (ap (λ (z : ℕ). rising z es) (sym o) ∙ rows_rising τ rows') in
      rw (drop_takes l s id q e, ← list) (good_removes q.answer th q.state es b keys)

  pub good_drop_in : (th : List ℕ) (s : State) (es : List Entry) → Good g τ th s es → (id : ℕ) → id < 2 ^ 64
      → Holds (λ u. Good g τ (th ++ pass_drop l s id) u (plain_drop id es)) (omap_drop_in l s id)
  unfolding omap_drop_in
  good_drop_in th s es h id small = holds_check refusal.argument (is_omap s) _ λ t. good_drop th s es h id small (omap_order s t).0

  -- ---- put

  module _ (good_upsert : (th : List ℕ) (s : State) (es : List Entry) → Good g τ th s es → (k : List ℕ) (v : Val) → KeyOk τ k → ValueOk τ v
      → Holds (λ u. Good g τ (th ++ pass_put l s k) u (plain_upsert s.order k v es)) (upserted l s k v)) where
    pub good_put : (th : List ℕ) (s : State) (es : List Entry) → Good g τ th s es → (id xid address size : ℕ) → id < 2 ^ 64
        → Holds (λ u. Good g τ (th ++ passed l (put_call id xid address size) s) u (plain_put s.order id xid address size es))
        (omap_put_in l s id xid address size)
    unfolding omap_put_in plain_put
    good_put th s es h id xid address size small =
        holds_check refusal.argument (is_omap s) _ λ t.
        let (p, ks, vs) = omap_order s t in
        let o : τ.order ≡ pair = suits.order ∙ sym h.order ∙ p in
        let k : τ.ksize ≡ 16 = suits.ksize ∙ sym h.info.key ∙ ks in
        let v : τ.vsize ≡ 16 = suits.vsize ∙ sym h.info.val ∙ vs in
        holds_bind (dropped l s id) _ λ d e.
        let a = (good_drop th s es h id small p).at d e in
        let same : s.order ≡ d.order = h.order ∙ sym a.order in
        rw (put_passed l s d id xid address size e, ← append_assoc)
        (subst (λ (z : ℕ). Holds (λ u. Good g τ (th ++ pass_drop l s id ++ pass_put l d (pair_key id xid)) u
        (plain_upsert z (pair_key id xid) (leaf (omap_value size address)) (plain_drop id es)))
        (upserted l d (pair_key id xid) (leaf (omap_value size address)))) (sym same)
        (good_upsert (th ++ pass_drop l s id) d (plain_drop id es) a (pair_key id xid) (leaf (omap_value size address))
        (pair_ok τ id xid o suits.most k) (value_ok τ size address k v)))
