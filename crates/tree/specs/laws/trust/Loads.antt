-- Loading keeps trust: a child, the way to a key, and what get, floor and range load. Open grants it. Assumes nothing.
use Rattle.std.specs.Prelude.{◌≡◌, refl, List, [], ◌∷◌, Bool, true, false, cond, ◌&&◌, not, ℕ, zero, suc, ◌-◌, ◌≤◌, ◌<◌, length, leb, ltb}
use Rattle.std.proofs.Common.{sym, ap, ◌∙◌, le_refl, le_trans, arith}
use Rattle.node.specs.Bytes.{AreBytes}
use Rattle.node.specs.Result.{Result, ok}
use Rattle.node.specs.Refusals as refusal
use Rattle.node.specs.Order.{keyed, less}
use Rattle.node.specs.Entry.{Entry, Val, disk, mem}
use Rattle.node.specs.Find.{key_at, val_at, way_index}
use Rattle.node.specs.Records.{records_of}
use Rattle.node.specs.laws.base.Results.{Holds, holds_ok, holds_bind, holds_check, holds_imp}
use Rattle.tree.specs.Lent.{Lent}
use Rattle.tree.specs.State.{State, node_at}
use Rattle.tree.specs.Load.{Bounds, unbounded, child_bounds, At, load_child}
use Rattle.tree.specs.Lookup.{opened, Step, above, way_from, way, leaf_of, Got, held, got_length, get_in, last_from, floor_from, floor_in, range_enters}
use Rattle.tree.specs.Lookup.{range_kids, range_from, range_in}
use Rattle.tree.specs.Trust.{trusted}
use Rattle.tree.specs.laws.state.State.{keys_of, at_used}
use Rattle.tree.specs.laws.state.Load.{by_load, load_child_lem, brought_kept}
use Rattle.tree.specs.laws.trust.Open.{open_holds}
use Rattle.tree.specs.laws.trust.Granted.{lent_trusted}
use Rattle.tree.specs.laws.trust.Named.{own, own_live, naming_at, live_used}
use Rattle.tree.specs.laws.trust.Stands.{Below, Stands, all, Held, trusted_of, of_trusted}
use Rattle.tree.specs.laws.trust.LoadOne.{block_fetched, brought_stands}

-- ---- what loads leave as it was

pub record Loads (l : Lent) (s t : State) : Type 0 where
  pub root : t.root ≡ s.root
  pub info : t.info ≡ s.info
  pub order : t.order ≡ s.order
  pub virtual : t.virtual ≡ s.virtual
  pub xid : t.xid ≡ s.xid
  pub longer : length s.nodes ≤ length t.nodes
  pub few : length s.nodes ≤ l.slots → length t.nodes ≤ l.slots
  pub level : (m : ℕ) → m < length s.nodes → (node_at t m).level ≡ (node_at s m).level
  pub dead : (m : ℕ) → m < length s.nodes → (node_at t m).dead ≡ (node_at s m).dead
  pub dirty : (m : ℕ) → m < length s.nodes → (node_at t m).dirty ≡ (node_at s m).dirty
  pub keys : (m : ℕ) → m < length s.nodes → keys_of (node_at t m).entries ≡ keys_of (node_at s m).entries
  -- a child in a slot stays there
  pub mems : (m j c : ℕ) → val_at (node_at s m).entries j ≡ mem c → val_at (node_at t m).entries j ≡ mem c
  -- and so does all that is no child on disk
  pub vals : (m j : ℕ) → m < length s.nodes → ((r : ℕ) → val_at (node_at s m).entries j ≡ disk r → ⊥)
      → val_at (node_at t m).entries j ≡ val_at (node_at s m).entries j

pub loads_refl : (l : Lent) (s : State) → Loads l s s
loads_refl l s =
    record {
      root = refl;
      info = refl;
      order = refl;
      virtual = refl;
      xid = refl;
      longer = le_refl _;
      few = λ h. h;
      level = λ m h. refl;
      dead = λ m h. refl;
      dirty = λ m h. refl;
      keys = λ m h. refl;
      mems = λ m j c q. q;
      vals = λ m j h f. refl;
    }

pub loads_then : (l : Lent) (s t u : State) → Loads l s t → Loads l t u → Loads l s u
loads_then l s t u a b =
    record {
      root = b.root ∙ a.root;
      info = b.info ∙ a.info;
      order = b.order ∙ a.order;
      virtual = b.virtual ∙ a.virtual;
      xid = b.xid ∙ a.xid;
      longer = le_trans a.longer b.longer;
      few = λ h. b.few (a.few h);
      level = λ m h. b.level m (le_trans h a.longer) ∙ a.level m h;
      dead = λ m h. b.dead m (le_trans h a.longer) ∙ a.dead m h;
      dirty = λ m h. b.dirty m (le_trans h a.longer) ∙ a.dirty m h;
      keys = λ m h. b.keys m (le_trans h a.longer) ∙ a.keys m h;
      mems = λ m j c q. b.mems m j c (a.mems m j c q);
      vals = λ m j h f.
          let x = a.vals m j h f in
          b.vals m j (le_trans h a.longer) (λ r q. f r (sym x ∙ q)) ∙ x;
    }

mem_not_disk : {C : Type 0} (c r : ℕ) → mem c ≡ disk r → C
mem_not_disk c r e = let z : ◌≡◌ {A = ℕ} 0 1 = cc in absurd (omega arith)

mem_some : (s : State) (m j c : ℕ) → val_at (node_at s m).entries j ≡ mem c → m < length s.nodes
mem_some s m j c q = at_used s m j (mem c) (λ e. let z : ◌≡◌ {A = ℕ} 0 1 = cc in omega arith) q

pub load_loads : (l : Lent) (s : State) (bs : Bounds) (n i : ℕ) (a : At) → load_child l s bs n i ≡ ok a → Loads l s a.state
load_loads l s bs n i a e =
    by_load l s bs n i a e
    (λ c q p. rw p (loads_refl l s))
    (λ r d b q h x y p.
    let k = brought_kept s n i d b r q in
    rw p (record {
      root = k.root;
      info = k.info;
      order = k.order;
      virtual = k.virtual;
      xid = k.xid;
      longer = k.more;
      few = λ z. omega (arith, k.most);
      level = k.level;
      dead = k.dead;
      dirty = k.dirty;
      keys = k.keys;
      mems = λ m j c z. k.values m j (mem_some s m j c z) (λ f g.
          let z' : val_at (node_at s n).entries i ≡ mem c = rw (f, g) at z in mem_not_disk c r (sym z' ∙ q)) ∙ z;
      vals = λ m j z u. k.values m j z (λ f g. u r (rw (f, g) q));
    }))

-- the numbers
pub loads_held : (l : Lent) (s t : State) → Loads l s t → Held l s → Held l t
loads_held l s t a h =
    record {
      sizes = h.sizes;
      node = rw a.info h.node;
      order = rw a.order h.order;
      info = rw a.info h.info;
      map = rw a.virtual h.map;
      few = a.few h.few;
    }

-- ---- a child loaded

pub record Loaded (l : Lent) (w v : ℕ → ℕ) (s t : State) : Type 0 where
  pub loads : Loads l s t
  pub stands : Stands w v t

pub loaded_then : (l : Lent) (w v : ℕ → ℕ) (s t u : State) → Loaded l w v s t → Loaded l w v t u → Loaded l w v s u
loaded_then l w v s t u a b = record { loads = loads_then l s t u a.loads b.loads; stands = b.stands }

pub load_loaded : (l : Lent) (w v : ℕ → ℕ) (s : State) (bs : Bounds) (n i : ℕ) → Stands w v s
    → Holds (λ a. Loaded l w v s a.state) (load_child l s bs n i)
load_loaded l w v s bs n i st =
    record {
      at = λ a e. record {
        loads = load_loads l s bs n i a e;
        stands = by_load l s bs n i a e
            (λ c q p. rw p st)
            (λ r d b q h x y p. rw p (brought_stands w v s n i r b d q st
            (block_fetched l s (child_bounds s.order bs (node_at s n).entries i) (node_at s n).level r b d y)));
      };
    }

-- the slot of a child loaded below a live slot
pub load_below : (l : Lent) (w v : ℕ → ℕ) (s : State) (bs : Bounds) (n i : ℕ) (a : At) → Stands w v s → (node_at s n).dead ≡ false
    → load_child l s bs n i ≡ ok a → Below a.state a.slot (node_at s n).level
load_below l w v s bs n i a st live e =
    let q : val_at (node_at a.state n).entries i ≡ mem a.slot = load_child_lem l s bs n i a e in
    let k = (load_loaded l w v s bs n i st).at a e in
    let used : n < length s.nodes = live_used s n live in
    let live' : (node_at a.state n).dead ≡ false = k.loads.dead n used ∙ live in
    let o : 1 ≤ own a.slot (node_at a.state n) = omega
    (arith, own_live a.slot (node_at a.state n) live', naming_at a.slot i (node_at a.state n).entries q) in
    rw (k.loads.level n used) at (k.stands.links n a.slot o)

-- ---- the way to a key

-- a way down: each slot is live and names the next, the last is a leaf
pub data Down (s : State) : List Step → Type 0 where
  end : (x : Step) → (node_at s x.slot).dead ≡ false → (node_at s x.slot).level ≡ 0 → Down s (x ∷ [])
  on : (x y : Step) (xs : List Step) → (node_at s x.slot).dead ≡ false → val_at (node_at s x.slot).entries x.child ≡ mem y.slot
      → Down s (y ∷ xs) → Down s (x ∷ y ∷ xs)

pub record WayLoaded (l : Lent) (w v : ℕ → ℕ) (s : State) (n : ℕ) (t : State) (ps : List Step) : Type 0 where
  pub loaded : Loaded l w v s t
  pub top : Step
  pub rest : List Step
  pub steps : ps ≡ top ∷ rest
  pub first : top.slot ≡ n
  pub down : Down t ps

way_above : (l : Lent) (w v : ℕ → ℕ) (s : State) (bs : Bounds) (n i : ℕ) (a : At) (t : State) (ps : List Step) → Stands w v s
    → (node_at s n).dead ≡ false → load_child l s bs n i ≡ ok a → WayLoaded l w v a.state a.slot t ps
    → WayLoaded l w v s n t (record { slot = n; child = i } ∷ ps)
way_above l w v s bs n i a t ps st live e r =
    let k = (load_loaded l w v s bs n i st).at a e in
    let m = loaded_then l w v s a.state t k r.loaded in
    let used : n < length s.nodes = live_used s n live in
    let q : val_at (node_at t n).entries i ≡ mem a.slot = r.loaded.loads.mems n i a.slot (load_child_lem l s bs n i a e) in
    let x : Step = record { slot = n; child = i } in
    let d : Down t (r.top ∷ r.rest) = rw r.steps at r.down in
    record {
      loaded = m;
      top = x;
      rest = ps;
      steps = refl;
      first = refl;
      down = rw r.steps (on x r.top r.rest (m.loads.dead n used ∙ live) (q ∙ ap mem (sym r.first)) d);
    }

pub way_loaded : (d : ℕ) (l : Lent) (w v : ℕ → ℕ) (s : State) (bs : Bounds) (n : ℕ) (k : List ℕ) → Stands w v s → (node_at s n).dead ≡ false
    → (node_at s n).level ≡ d → Holds (λ x. WayLoaded l w v s n x.state x.steps) (way_from d l s bs n k)
unfolding way_from above
way_loaded zero l w v s bs n k st live lv =
    holds_ok (record {
      loaded = record { loads = loads_refl l s; stands = st };
      top = record { slot = n; child = 0 };
      rest = [];
      steps = refl;
      first = refl;
      down = end (record { slot = n; child = 0 }) live lv;
    })
way_loaded (suc d) l w v s bs n k st live lv =
    let i : ℕ = way_index s.order k (node_at s n).entries in
    holds_bind (load_child l s bs n i) _ λ a e.
    let b = load_below l w v s bs n i a st live e in
    let st' = ((load_loaded l w v s bs n i st).at a e).stands in
    holds_bind (way_from d l a.state (child_bounds s.order bs (node_at s n).entries i) a.slot k) _ λ x f.
    let r = (way_loaded d l w v a.state (child_bounds s.order bs (node_at s n).entries i) a.slot k st' b.live (omega (arith, b.lower))).at
    x f in
    holds_ok (way_above l w v s bs n i a x.state x.steps st live e r)

-- the way from the root
pub way_root : (l : Lent) (s : State) (k : List ℕ) → Stands all all s → Holds (λ x. WayLoaded l all all s s.root x.state x.steps) (way l s k)
unfolding way
way_root l s k st = way_loaded (node_at s s.root).level l all all s unbounded s.root k st st.root refl

-- ---- trust

pub loaded_trusted : (l : Lent) (s t : State) → trusted l s ≡ true → Loaded l all all s t → trusted l t ≡ true
loaded_trusted l s t h a = of_trusted l t (loads_held l s t a.loads (trusted_of l s h).0) a.stands

pub trusted_load : (l : Lent) (s : State) (bs : Bounds) (n i : ℕ) → trusted l s ≡ true
    → Holds (λ a. trusted l a.state ≡ true) (load_child l s bs n i)
trusted_load l s bs n i h = holds_imp (load_child l s bs n i) (λ a k. loaded_trusted l s a.state h k)
    (load_loaded l all all s bs n i (trusted_of l s h).1)

pub trusted_way : (l : Lent) (s : State) (k : List ℕ) → trusted l s ≡ true → Holds (λ x. trusted l x.state ≡ true) (way l s k)
trusted_way l s k h = holds_imp (way l s k) (λ x a. loaded_trusted l s x.state h a.loaded) (way_root l s k (trusted_of l s h).1)

pub trusted_get : (l : Lent) (s : State) (room : ℕ) (k : List ℕ) → trusted l s ≡ true → Holds (λ g. trusted l g.state ≡ true) (get_in l s room k)
unfolding get_in
trusted_get l s room k h =
    holds_check refusal.argument (keyed s.order k) _ λ a.
    holds_bind (way l s k) _ λ x e.
    let y : List Val = held s.order k (node_at x.state (leaf_of x.steps)).entries in
    holds_check refusal.output (leb (got_length y) room) (ok (record { state = x.state; answer = y })) λ b.
    holds_ok ((trusted_way l s k h).at x e)

-- ---- floor and range

pub last_loaded : (d : ℕ) (l : Lent) (w v : ℕ → ℕ) (s : State) (bs : Bounds) (n : ℕ) → Stands w v s
    → Holds (λ g. Loaded l w v s g.state) (last_from d l s bs n)
unfolding last_from
last_loaded zero l w v s bs n st = holds_ok (record { loads = loads_refl l s; stands = st })
last_loaded (suc d) l w v s bs n st =
    let i : ℕ = length (node_at s n).entries - 1 in
    holds_bind (load_child l s bs n i) _ λ a e.
    let k = (load_loaded l w v s bs n i st).at a e in
    let cs : Bounds = child_bounds s.order bs (node_at s n).entries i in
    holds_imp (last_from d l a.state cs a.slot) (λ g b. loaded_then l w v s a.state g.state k b)
    (last_loaded d l w v a.state cs a.slot k.stands)

pub holds_cond : {A : Type 0} {P : A → Type 0} (t : Bool) (x y : Result A) → (t ≡ true → Holds P x) → (t ≡ false → Holds P y) → Holds P (cond t x y)
holds_cond true x y f g = f refl
holds_cond false x y f g = g refl

pub by_list : {C : Type 0} {A : Type 0} (l : List A) → (l ≡ [] → C) → ((x : A) (xs : List A) → l ≡ x ∷ xs → C) → C
by_list [] f g = f refl
by_list (x ∷ xs) f g = g x xs refl

pub floor_loaded : (d : ℕ) (l : Lent) (w v : ℕ → ℕ) (s : State) (bs : Bounds) (n : ℕ) (k : List ℕ) → Stands w v s
    → Holds (λ g. Loaded l w v s g.state) (floor_from d l s bs n k)
unfolding floor_from
floor_loaded zero l w v s bs n k st = holds_ok (record { loads = loads_refl l s; stands = st })
floor_loaded (suc d) l w v s bs n k st =
    let es : List Entry = (node_at s n).entries in
    let i : ℕ = way_index s.order k es in
    let cs : Bounds = child_bounds s.order bs es i in
    let ls : Bounds = child_bounds s.order bs es (i - 1) in
    holds_bind (load_child l s bs n i) _ λ a e.
    let p = (load_loaded l w v s bs n i st).at a e in
    holds_bind (floor_from d l a.state cs a.slot k) _ λ g f.
    let q : Loaded l w v s g.state = loaded_then l w v s a.state g.state p
    ((floor_loaded d l w v a.state cs a.slot k p.stands).at g f) in
    by_list g.answer
    (λ z. rw z (holds_cond (ltb 0 i && not (less s.order k (key_at es i))) _ _
    (λ t. holds_bind (load_child l g.state bs n (i - 1)) _ λ b y.
    let r = loaded_then l w v s g.state b.state q ((load_loaded l w v g.state bs n (i - 1) q.stands).at b y) in
    holds_imp (last_from d l b.state ls b.slot) (λ h x. loaded_then l w v s b.state h.state r x)
    (last_loaded d l w v b.state ls b.slot r.stands))
    (λ t. holds_ok q)))
    (λ x xs z. rw z (holds_ok q))

pub kids_loaded : (f : State → Bounds → ℕ → Result (Got Entry)) (l : Lent) (w v : ℕ → ℕ)
    → ((s : State) (bs : Bounds) (n : ℕ) → Stands w v s → Holds (λ g. Loaded l w v s g.state) (f s bs n))
    → (s : State) (bs : Bounds) (n : ℕ) (lo : List ℕ) (hi : List (List ℕ)) (m i : ℕ) → Stands w v s
    → Holds (λ g. Loaded l w v s g.state) (range_kids f l s bs n lo hi m i)
unfolding range_kids
kids_loaded f l w v r s bs n lo hi zero i st = holds_ok (record { loads = loads_refl l s; stands = st })
kids_loaded f l w v r s bs n lo hi (suc m) i st =
    let es : List Entry = (node_at s n).entries in
    holds_cond (range_enters s.order lo hi es i) _ _
    (λ t.
    holds_bind (load_child l s bs n i) _ λ a e.
    let p = (load_loaded l w v s bs n i st).at a e in
    holds_bind (f a.state (child_bounds s.order bs es i) a.slot) _ λ g y.
    let q = loaded_then l w v s a.state g.state p ((r a.state (child_bounds s.order bs es i) a.slot p.stands).at g y) in
    holds_bind (range_kids f l g.state bs n lo hi m (suc i)) _ λ h z.
    holds_ok (loaded_then l w v s g.state h.state q ((kids_loaded f l w v r g.state bs n lo hi m (suc i) q.stands).at h z)))
    (λ t. kids_loaded f l w v r s bs n lo hi m (suc i) st)

pub range_loaded : (d : ℕ) (l : Lent) (w v : ℕ → ℕ) (lo : List ℕ) (hi : List (List ℕ)) (s : State) (bs : Bounds) (n : ℕ) → Stands w v s
    → Holds (λ g. Loaded l w v s g.state) (range_from d l lo hi s bs n)
unfolding range_from
range_loaded zero l w v lo hi s bs n st = holds_ok (record { loads = loads_refl l s; stands = st })
range_loaded (suc d) l w v lo hi s bs n st = kids_loaded (range_from d l lo hi) l w v (λ t cs m h. range_loaded d l w v lo hi t cs m h) s bs n lo hi
    (length (node_at s n).entries) 0 st

pub trusted_floor : (l : Lent) (s : State) (room : ℕ) (k : List ℕ) → trusted l s ≡ true
    → Holds (λ g. trusted l g.state ≡ true) (floor_in l s room k)
unfolding floor_in
trusted_floor l s room k h =
    holds_check refusal.argument (keyed s.order k) _ λ a.
    holds_bind (floor_from (node_at s s.root).level l s unbounded s.root k) _ λ g e.
    holds_check refusal.output (leb (length (records_of g.answer)) room) (ok g) λ b.
    holds_ok (loaded_trusted l s g.state h ((floor_loaded (node_at s s.root).level l all all s unbounded s.root k (trusted_of l s h).1).at g
    e))

pub trusted_range : (l : Lent) (s : State) (room : ℕ) (lo hi : List ℕ) → trusted l s ≡ true
    → Holds (λ g. trusted l g.state ≡ true) (range_in l s room lo hi)
unfolding range_in
trusted_range l s room lo hi h =
    holds_check refusal.argument (keyed s.order lo && keyed s.order hi) _ λ a.
    holds_bind (range_from (node_at s s.root).level l lo (hi ∷ []) s unbounded s.root) _ λ g e.
    holds_check refusal.output (leb (length (records_of g.answer)) room) (ok g) λ b.
    holds_ok (loaded_trusted l s g.state h ((range_loaded (node_at s s.root).level l all all lo (hi ∷ []) s unbounded s.root
    (trusted_of l s h).1).at g e))

-- what open answers is trusted, if the image is bytes
pub trusted_open : (l : Lent) (r order xid : ℕ) → AreBytes l.image → Holds (λ s. trusted l s ≡ true) (opened l r order xid)
trusted_open l r order xid b = record { at = λ s e. lent_trusted l s (open_holds l r order xid s b e) }
