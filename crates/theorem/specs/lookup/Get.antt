-- What is asked at a key of the leaf that the way ends at is what is asked of the plain list: whether the key is there, and get. Assumes nothing.
use Rattle.std.specs.Prelude.{◌≡◌, List, [], ◌∷◌, ◌++◌, true, ℕ, suc, ◌+◌, ◌≤◌, ◌<◌, length, leb}
use Rattle.std.proofs.Math.Path.{refl, sym, ap}
use Rattle.std.proofs.Common.{◌∙◌, append-nil, le_refl, le_trans, arith}
use Rattle.seal.specs.Bytes.{AreBytes}
use Rattle.node.specs.laws.base.Results.{Holds, holds_ok, holds_bind, holds_check}
use Rattle.node.specs.Refusals as refusal
use Rattle.node.specs.Order.{keyed}
use Rattle.node.specs.Entry.{Entry, mem}
use Rattle.node.specs.Find.{is_there}
use Rattle.node.specs.Slot.{MemNode}
use Rattle.node.specs.laws.base.Bytes.{bytes_below}
use Rattle.node.specs.laws.order.Order.{key_known}
use Rattle.tree.specs.Lent.{Lent}
use Rattle.tree.specs.State.{State, node_at}
use Rattle.tree.specs.Lookup.{Step, Way, way, leaf_of, held, got_length, get_in}
use Rattle.history.specs.Plain.{plain_has, plain_get}
use Rattle.history.specs.laws.PlainIs.{has_is, get_is}
use Rattle.history.specs.Statement.{Start, Begins, Lends}
use Rattle.theorem.specs.model.Bounds.{Terms, K, Items, nil, cons, tight, first_or, KeyIn, Row, by_keys, rows_le}
use Rattle.theorem.specs.model.Lazy.{node_of, cont, conts, Child, Ok, ok_rows, conts_rows}
use Rattle.theorem.specs.model.Lift.{Toward, Parts, parts, apart_holds}
use Rattle.theorem.specs.steps.LeafAndKeys.{Along, end, down, along_leaf}
use Rattle.theorem.specs.steps.Way.{Reads, Led}
use Rattle.theorem.specs.model.Good.{found, Old, Suits, Good}
use Rattle.theorem.specs.load.Way.{good_way}

-- ---- what goes by the entries near a key alone

-- nothing below the key, and nothing above it, has a part in the answer
pub record Looks (τ : Terms) (k : List ℕ) {A : Type 0} (op : List Entry → A) : Type 0 where
  pub right : {lo m : ℕ} {xs : List Entry} (ys : List Entry) → Items (K τ) (Row τ) lo m xs → m ≤ K τ k → op (xs ++ ys) ≡ op ys
  pub left : {lo m from hi : ℕ} {xs ys : List Entry} → Items (K τ) (Row τ) lo m xs → Items (K τ) (Row τ) from hi ys → K τ k < from
      → op (xs ++ ys) ≡ op xs

module _ (τ : Terms) (k : List ℕ) (kk : KeyIn τ k) where
  get_right : {lo m : ℕ} {xs : List Entry} (ys : List Entry) → Items (K τ) (Row τ) lo m xs → m ≤ K τ k
      → plain_get τ.order k (xs ++ ys) ≡ plain_get τ.order k ys
  unfolding plain_get
  get_right ys (nil e) h = refl
  get_right ys (cons {e = x} e p r) h =
      let b = rows_le τ r in
      let w = p.below in
      by_keys τ x.key k p.key kk
      (λ l t. rw (t, get_right ys r h))
      (λ q _ _ _. absurd (omega arith))
      (λ l _ _. absurd (omega arith))

  get_left : {lo m from hi : ℕ} {xs ys : List Entry} → Items (K τ) (Row τ) lo m xs → Items (K τ) (Row τ) from hi ys → K τ k < from
      → plain_get τ.order k (xs ++ ys) ≡ plain_get τ.order k xs
  unfolding plain_get
  get_left (nil z) (nil e) h = refl
  get_left (nil z) (cons {e = x} e p r) h =
      by_keys τ x.key k p.key kk
      (λ l t. absurd (omega arith))
      (λ q _ _ _. absurd (omega arith))
      (λ l t u. rw (t, u))
  get_left (cons {e = x} e p q) r h =
      by_keys τ x.key k p.key kk
      (λ l t. rw (t, get_left q r h))
      (λ _ _ t u. rw (t, u))
      (λ l t u. rw (t, u))

  pub get_looks : Looks τ k (plain_get τ.order k)
  get_looks = record { right = get_right; left = get_left }

  has_right : {lo m : ℕ} {xs : List Entry} (ys : List Entry) → Items (K τ) (Row τ) lo m xs → m ≤ K τ k
      → plain_has τ.order k (xs ++ ys) ≡ plain_has τ.order k ys
  unfolding plain_has
  has_right ys (nil e) h = refl
  has_right ys (cons {e = x} e p r) h =
      let b = rows_le τ r in
      let w = p.below in
      by_keys τ x.key k p.key kk
      (λ l t. rw (t, has_right ys r h))
      (λ q _ _ _. absurd (omega arith))
      (λ l _ _. absurd (omega arith))

  has_left : {lo m from hi : ℕ} {xs ys : List Entry} → Items (K τ) (Row τ) lo m xs → Items (K τ) (Row τ) from hi ys → K τ k < from
      → plain_has τ.order k (xs ++ ys) ≡ plain_has τ.order k xs
  unfolding plain_has
  has_left (nil z) (nil e) h = refl
  has_left (nil z) (cons {e = x} e p r) h =
      by_keys τ x.key k p.key kk
      (λ l t. absurd (omega arith))
      (λ q _ _ _. absurd (omega arith))
      (λ l t u. rw (t, u))
  has_left (cons {e = x} e p q) r h =
      by_keys τ x.key k p.key kk
      (λ l t. rw (t, has_left q r h))
      (λ _ _ t u. rw (t, u))
      (λ l t u. rw (t, u))

  pub has_looks : Looks τ k (plain_has τ.order k)
  has_looks = record { right = has_right; left = has_left }

-- ---- along the way

module _ (τ : Terms) (rd : ℕ → MemNode) (k : List ℕ) {A : Type 0} (op : List Entry → A) (look : Looks τ k op) (s : State) where
  -- before the child: nothing, or entries below the key
  skip_left : (l : ℕ) (xs : List Entry) (lo from : ℕ) → Items (K τ) (Child τ (Ok τ rd (node_at s) l) (node_of rd (node_at s))) lo from xs
      → (0 < length xs → from ≤ K τ k) → (zs : List Entry)
      → op (conts rd (node_at s) l xs ++ zs) ≡ op zs
  skip_left l [] lo from r h zs = refl
  skip_left l (x ∷ xs) lo from r h zs = look.right zs (conts_rows τ rd (node_at s) l r) (h (omega arith))

  -- after it: nothing, or entries above the key
  skip_right : (l : ℕ) (ys : List Entry) (up_to hi : ℕ) → Items (K τ) (Child τ (Ok τ rd (node_at s) l) (node_of rd (node_at s))) up_to hi ys
      → ((b : ℕ) → K τ k < b → K τ k < first_or (K τ) b ys) → {lo m : ℕ} {zs : List Entry} → Items (K τ) (Row τ) lo m zs
      → op (zs ++ conts rd (node_at s) l ys) ≡ op zs
  skip_right l [] up_to hi r h {zs = zs} q = ap op (append-nil zs)
  skip_right l (y ∷ ys) up_to hi r h q = look.left q (conts_rows τ rd (node_at s) l (tight r)) (h (suc (K τ k)) (le_refl _))

  node_mem : (c : ℕ) → node_of rd (node_at s) (mem c) ≡ node_at s c
  unfolding node_of
  node_mem c = refl

  looks_step : (l n c lo hi : ℕ) (xs : List Entry) (e : Entry) (ys : List Entry) → (node_at s n).entries ≡ xs ++ e ∷ ys → e.value ≡ mem c
      → Toward τ k xs e ys
      → Ok τ rd (node_at s) (suc l) lo hi (node_at s n)
      → (up_to : ℕ) × Ok τ rd (node_at s) l (K τ e.key) up_to (node_at s c)
      × (op (cont rd (node_at s) (suc l) (node_at s n)) ≡ op (cont rd (node_at s) l (node_at s c)))
  looks_step l n c lo hi xs e ys row val to okn =
      let p : Parts (K τ) (Child τ (Ok τ rd (node_at s) l) (node_of rd (node_at s))) lo hi (lo + K τ e.key) xs e ys =
      parts (lo + K τ e.key) xs (omega arith) (λ z. omega arith) (rw row at okn.items) in
      let node : node_of rd (node_at s) e.value ≡ node_at s c = ap (node_of rd (node_at s)) val ∙ node_mem c in
      let okc : Ok τ rd (node_at s) l (K τ e.key) p.up_to (node_at s c) = rw node at p.own.ok in (
        p.up_to,
        okc,
        ap op (apart_holds rd (node_at s) l (node_at s n) xs e ys row)
            ∙ skip_left l xs lo p.from p.left (λ z. le_trans p.before (to.not_above z))
            (cont rd (node_at s) l (node_of rd (node_at s) e.value) ++ conts rd (node_at s) l ys)
            ∙ ap (λ (m : MemNode). op (cont rd (node_at s) l m ++ conts rd (node_at s) l ys)) node
            ∙ skip_right l ys p.up_to hi p.right to.next (ok_rows τ rd (node_at s) l (K τ e.key) p.up_to (node_at s c) okc),
      )

  pub along_looks : (leaf l n : ℕ) (ps : List Step) → Along s (Toward τ k) leaf l n ps → (lo hi : ℕ) → Ok τ rd (node_at s) l lo hi (node_at s n)
      → op (cont rd (node_at s) l (node_at s n)) ≡ op (node_at s leaf).entries
  unfolding cont
  along_looks leaf _ _ _ end lo hi h = refl
  along_looks leaf _ _ _ (down {l = l} {n = n} {c = c} {xs = xs} {e = e} {ys = ys} {ps = ps} row val to w) lo hi h =
      let (up_to, okc, q) = looks_step l n c lo hi xs e ys row val to h in
      q ∙ along_looks leaf l c ps w (K τ e.key) up_to okc

-- ---- the call

-- the leaf that a way led to answers for the whole tree
module _ (τ : Terms) (rd : ℕ → MemNode) (lent : Lent) (Old : ℕ → Type 0) (s : State) (l n lo hi : ℕ) (k : List ℕ) (kk : KeyIn τ k) (w : Way)
    (d : Led τ rd lent Old s l n lo hi k w) where
  pub led_leaf : leaf_of w.steps ≡ d.leaf
  led_leaf = along_leaf w.state (Toward τ k) d.leaf l n w.steps d.along

  pub led_looks : {A : Type 0} (op : List Entry → A) → Looks τ k op
      → op (node_at w.state (leaf_of w.steps)).entries ≡ op (cont rd (node_at s) l (node_at s n))
  led_looks op look =
      ap (λ (z : ℕ). op (node_at w.state z).entries) led_leaf
      ∙ sym (along_looks τ rd k op look w.state d.leaf l n w.steps d.along lo hi d.grown.ok)
      ∙ ap op d.grown.holds

  pub led_there : (o : ℕ) → o ≡ τ.order
      → is_there o k (node_at w.state (leaf_of w.steps)).entries ≡ plain_has o k (cont rd (node_at s) l (node_at s n))
  led_there o q = rw q (sym (has_is τ.order k (node_at w.state (leaf_of w.steps)).entries)
      ∙ led_looks (plain_has τ.order k) (has_looks τ k kk))

  pub led_held : (o : ℕ) → o ≡ τ.order → held o k (node_at w.state (leaf_of w.steps)).entries ≡ plain_get o k (cont rd (node_at s) l (node_at s n))
  led_held o q = rw q (sym (get_is τ.order k (node_at w.state (leaf_of w.steps)).entries)
      ∙ led_looks (plain_get τ.order k) (get_looks τ k kk))

-- a key that is bytes, is of the order and is not too long
pub key_given : (τ : Terms) (o : ℕ) (k : List ℕ) → o ≡ τ.order → keyed o k ≡ true → AreBytes k → length k ≤ τ.most → KeyIn τ k
key_given τ o k q t b h = record { key = rw q at (key_known o k t (bytes_below k b)); short = h }

module _ (g : Start) (τ : Terms) (th : List ℕ) (begins : Begins g) (l : Lent) (lends : Lends g l) (s : State) (rds : Reads τ (found g τ) l (Old g) s)
    (es : List Entry) (h : Good g τ th s es) where
  pub good_get : Suits g τ → (room : ℕ) (k : List ℕ) → AreBytes k → length k ≤ τ.most
      → Holds (λ r. (r.answer ≡ plain_get s.order k es) × Good g τ th r.state es) (get_in l s room k)
  unfolding get_in
  good_get suits room k b short =
      holds_check refusal.argument (keyed s.order k) _ λ t.
      let o : s.order ≡ τ.order = h.order ∙ sym suits.order in
      let kk : KeyIn τ k = key_given τ s.order k o t b short in
      holds_bind (way l s k) _ λ w q.
      let gw = (good_way g τ th begins l lends s rds es h suits k kk).at w q in
      holds_check refusal.output (leb (got_length (held s.order k (node_at w.state (leaf_of w.steps)).entries)) room) _ λ _.
      holds_ok (
        led_held τ (found g τ) l (Old g) s h.level s.root h.lo h.hi k kk w gw.1 s.order o
            ∙ ap (plain_get s.order k) h.holds,
        gw.0,
      )
