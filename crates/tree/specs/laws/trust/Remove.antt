-- An accepted remove keeps trust, and so do the object map's drop and put. Assumes nothing.
use Rattle.std.specs.Prelude.{◌≡◌, List, [], ◌∷◌, true, false, ◌&&◌, ℕ, ◌+◌, ◌-◌, ◌≤◌, ◌<◌, length, ltb, eqb}
use Rattle.std.proofs.Math.Path.{refl, sym, ap}
use Rattle.std.proofs.Common.{subst, ◌∙◌, arith}
use Rattle.std.proofs.Math.Dec.{leb}
use Rattle.node.specs.Result.{ok}
use Rattle.node.specs.Refusals as refusal
use Rattle.node.specs.Entry.{Entry, mem}
use Rattle.node.specs.Find.{val_at, place_of, is_there}
use Rattle.node.specs.Slot.{MemNode, entry_holds, remove_at}
use Rattle.node.specs.declared.info.BTreeInfo.{BTreeInfo}
use Rattle.node.specs.laws.base.Results.{Holds, holds_ok, holds_bind, holds_check, holds_imp}
use Rattle.tree.specs.Lent.{Lent}
use Rattle.tree.specs.State.{State, node_at, put_node, with_info, with_counts, with_entries}
use Rattle.tree.specs.Lookup.{Step, way, leaf_of}
use Rattle.tree.specs.Edit.{touch, index_keys, cuts}
use Rattle.tree.specs.Remove.{Dropped, drop_emptied, leveled_root, take_from_leaf, shrunk_on, remove_on, removed}
use Rattle.tree.specs.Trust.{trusted}
use Rattle.tree.specs.laws.state.State.{at_put_other}
use Rattle.tree.specs.laws.state.OneLeaf.{touch_marks}
use Rattle.tree.specs.laws.trust.Named.{names, names_same, naming_remove_most, live_used}
use Rattle.tree.specs.laws.trust.Stands.{Stands, all, stands_wider, Held, trusted_of, of_trusted}
use Rattle.tree.specs.laws.trust.OneStep.{Like, like_then, like_counts, info_stands}
use Rattle.tree.specs.laws.trust.Loads.{holds_cond, Down, end, on, way_root}
use Rattle.tree.specs.laws.trust.Edit.{Steady, steady_then, Edited, on_way, leaf_on, Falls, one, more, falls_used, falls_steady, held_below_lem}
use Rattle.tree.specs.laws.trust.Edit.{down_falls, down_leaf, entries_edited, touch_edited, indexes_edited}
use Rattle.tree.specs.laws.trust.CutRoot.{Ended, steady_ended, cuts_ended}
use Rattle.tree.specs.laws.trust.Upsert.{inner, down_inner, down_once, ended_held, falls_info, way_again}
use Rattle.tree.specs.laws.trust.DropEmptied.{every_remove, Dropping, dropping, Leveled, leveled}
use Rattle.tree.specs.laws.trust.HandDown.{ended_then, loaded_ended, hand_ended}

-- a way down whose slots are as live and as high, and above the leaf hold what they held
down_keep : (s t : State) (ps : List Step) → ((c : ℕ) → (node_at s c).dead ≡ false → (node_at t c).dead ≡ false)
    → ((c : ℕ) → (node_at s c).dead ≡ false → (node_at t c).level ≡ (node_at s c).level)
    → ((c : ℕ) → 1 ≤ inner c ps → (node_at t c).entries ≡ (node_at s c).entries) → Down s ps → Down t ps
down_keep s t ps f g h (end x live lv) = end x (f x.slot live) (g x.slot live ∙ lv)
down_keep s t ps f g h (on x y xs live q d) =
    on x y xs (f x.slot live) (ap (λ (es : List Entry). val_at es x.child) (h x.slot (omega (arith, names_same x.slot))) ∙ q)
    (down_keep s t (y ∷ xs) f g (λ c k. h c (omega arith)) d)

-- a way whose levels fall whether its slots live or not
data Levels (s : State) : List Step → Type 0 where
  last : (x : Step) → x.slot < length s.nodes → Levels s (x ∷ [])
  next : (x y : Step) (xs : List Step) → x.slot < length s.nodes → y.slot < length s.nodes → (y.slot ≡ s.root → ⊥)
      → (node_at s y.slot).level + 1 ≡ (node_at s x.slot).level → Levels s (y ∷ xs) → Levels s (x ∷ y ∷ xs)

down_levels : (w v : ℕ → ℕ) (s : State) (ps : List Step) → Stands w v s → Down s ps → Levels s ps
down_levels w v s ps st (end x live lv) = last x (live_used s x.slot live)
down_levels w v s ps st (on x y xs live q d) =
    let (b, r) = held_below_lem w v s x.slot x.child y.slot st live q in
    next x y xs (live_used s x.slot live) b.used r b.lower (down_levels w v s (y ∷ xs) st d)

falls_levels : (s u : State) (ps : List Step) → u.root ≡ s.root → length u.nodes ≡ length s.nodes
    → ((c : ℕ) → c < length s.nodes → (node_at u c).level ≡ (node_at s c).level) → Levels s ps → Falls u ps
falls_levels s u ps r n h (last x k) = one x (omega arith)
falls_levels s u ps r n h (next x y xs k j o q f) =
    more x y xs (omega arith) (λ e. o (e ∙ r)) (λ d. omega (arith, q, h x.slot k, h y.slot j)) (falls_levels s u (y ∷ xs) r n h f)

-- what an accepted edit leaves: the order, the numbers that entries are held to, and trust
pub record Safe (l : Lent) (s u : State) : Type 0 where
  pub order : u.order ≡ s.order
  pub like : Like s.info u.info
  pub trust : trusted l u ≡ true

ended_safe : (l : Lent) (s u : State) → Held l s → Ended l s u → Safe l s u
ended_safe l s u h a = record { order = a.order; like = a.like; trust = of_trusted l u (ended_held l s u a h) a.stands }

like_sym : (t t' : BTreeInfo) → Like t t' → Like t' t
like_sym t t' h = record { flags = sym h.flags; node = sym h.node; key = sym h.key; val = sym h.val }

module _ (l : Lent) (k : List ℕ) (s : State) (x : Step) (ps : List Step) (st : Stands all all s) (top : x.slot ≡ s.root) (down : Down s (x ∷ ps))
  where
    abbrev pub w : ℕ → ℕ
    w c = on_way c (x ∷ ps)

    abbrev pub n : ℕ
    n = leaf_of (x ∷ ps)

    abbrev pub s₁ : State
    s₁ = touch (x ∷ ps) s

    way_falls : Falls s (x ∷ ps)
    way_falls = down_falls all all s (x ∷ ps) st down

    root_on : 1 ≤ on_way s.root (x ∷ ps)
    root_on = let z : names s.root (mem x.slot) ≡ 1 = ap (λ (y : ℕ). names s.root (mem y)) top ∙ names_same s.root in omega arith

    pub first : Edited l w all s s₁
    first = touch_edited l w all (x ∷ ps) s (λ c y. y) (falls_used s (x ∷ ps) way_falls) root_on (leaf_on x ps)
        (stands_wider all all w all s (λ c y. refl) (λ c y. y) st)

    leaf_s : ((node_at s n).dead ≡ false) × ((node_at s n).level ≡ 0)
    leaf_s = down_leaf s (x ∷ ps) down

    leaf_live : (node_at s₁ n).dead ≡ false
    leaf_live = first.steady.dead n (live_used s n leaf_s.0) ∙ leaf_s.0

    leaf_level : (node_at s₁ n).level ≡ 0
    leaf_level = first.steady.level n (live_used s n leaf_s.0) ∙ leaf_s.1

    abbrev pub es : List Entry
    es = (node_at s₁ n).entries

    abbrev pub m : MemNode
    m = with_entries (node_at s₁ n) (remove_at (place_of s₁.order k es) es)

    abbrev pub s₂ : State
    s₂ = put_node s₁ n m

    is₂ : take_from_leaf s₁ n k ≡ s₂
    unfolding take_from_leaf
    is₂ = refl

    pub second : Edited l w all s₁ s₂
    second =
        entries_edited w all s₁ n (remove_at (place_of s₁.order k es) es) first.stands (leaf_on x ps)
        (λ d. every_remove (entry_holds s₁.order s₁.info (eqb (node_at s₁ n).level 0)) (place_of s₁.order k es) es (first.stands.rows n d))
        (λ c. naming_remove_most c (place_of s₁.order k es) es) (λ d z y. absurd (y leaf_level)) l (live_used s₁ n leaf_live)

    pub steady₂ : Steady l s s₂
    steady₂ = steady_then l s s₁ s₂ first.steady second.steady

    pub down₂ : Down s₂ (x ∷ ps)
    down₂ =
        down_keep s s₂ (x ∷ ps) (λ c d. steady₂.dead c (live_used s c d) ∙ d) (λ c d. steady₂.level c (live_used s c d))
        (λ c h. ap (λ (y : MemNode). y.entries) (at_put_other s₁ n m c
        (λ e. let z : inner c (x ∷ ps) ≡ inner n (x ∷ ps) = ap (λ (j : ℕ). inner j (x ∷ ps)) e in omega
        (arith, down_inner all all s (x ∷ ps) st down)))
        ∙ (touch_marks (x ∷ ps) s).entries c)
        down

    abbrev pub d : Dropped
    d = drop_emptied (x ∷ ps) s₂

    pub drops : Dropping w x ps s₂ d.state
    drops = dropping l w x ps s₂ (λ c y. y) second.stands down₂

    -- the numbers after
    module _ (keys nodes : ℕ) where
      abbrev pub t₃ : BTreeInfo
      t₃ = with_counts s.info keys nodes

      abbrev pub s₃ : State
      s₃ = with_info d.state t₃

      like₃ : Like d.state.info t₃
      like₃ = like_then d.state.info s.info t₃ (rw drops.info (like_sym s.info s₂.info steady₂.like))
          (like_counts s.info keys nodes)

      pub stands₃ : Stands w (λ c. names c (mem x.slot)) s₃
      stands₃ = info_stands w (λ c. names c (mem x.slot)) d.state t₃ like₃ drops.stands

      pub top₃ : x.slot ≡ s₃.root
      unfolding with_info
      top₃ = top ∙ sym steady₂.root ∙ sym drops.root

      pub falls₃ : Falls s₃ (x ∷ ps)
      falls₃ = falls_info d.state t₃ (x ∷ ps) (falls_levels s₂ d.state (x ∷ ps) drops.root drops.same drops.level
          (down_levels w all s₂ (x ∷ ps) second.stands down₂))

      off₃ : on_way x.slot ps ≡ 0
      off₃ = omega (arith, down_once all all s (x ∷ ps) x.slot st down, names_same x.slot)

      next₃ : (y : Step) (ys : List Step) → ps ≡ y ∷ ys → (node_at s₃ y.slot).dead ≡ false → 0 < length (node_at s₃ x.slot).entries
      unfolding with_info node_at
      next₃ = drops.next

      abbrev pub s₄ : State
      s₄ = leveled_root s₃

      pub four : Leveled w x ps s₃ s₄
      four = leveled w x ps s₃ top₃ (omega (arith, names_same x.slot)) off₃ falls₃ stands₃ next₃

      abbrev pub s₅ : State
      s₅ = index_keys (x ∷ ps) s₄

      pub five : Edited l w all s₄ s₅
      five = indexes_edited l w all (x ∷ ps) s₄ (λ c y. y) (falls_used s₄ (x ∷ ps) four.falls) four.stands

      cut₅ : Holds (Ended l s₅) (cuts l [] (x ∷ ps) s₅)
      cut₅ = cuts_ended l x ps s₅ (falls_steady l s₄ s₅ (x ∷ ps) five.steady four.falls) (top₃ ∙ sym four.root ∙ sym five.steady.root)
          five.stands

      -- from the loaded way to the cuts
      pub shrunk_ended : (u : State) → cuts l [] (x ∷ ps) s₅ ≡ ok u → Ended l s u
      unfolding with_info with_counts
      shrunk_ended u q =
          let a = steady_ended l s₄ s₅ u five.steady (cut₅.at u q) in
          record {
            order = a.order ∙ four.order ∙ drops.order ∙ steady₂.order;
            virtual = a.virtual ∙ four.virtual ∙ drops.virtual ∙ steady₂.virtual;
            like = like_then s.info t₃ u.info (like_counts s.info keys nodes)
                (subst (λ (i : BTreeInfo). Like i u.info) four.info a.like);
            longest_key = a.longest_key ∙ ap (λ (i : BTreeInfo). i.longest_key) four.info;
            longest_val = a.longest_val ∙ ap (λ (i : BTreeInfo). i.longest_val) four.info;
            few = λ h. a.few (rw (four.same, drops.same) (steady₂.few h));
            stands = a.stands;
          }

    pub shrunk_on_lem : Holds (Ended l s) (shrunk_on l k (record { state = s; steps = x ∷ ps }))
    unfolding shrunk_on
    shrunk_on_lem =
        rw is₂ (holds_check refusal.count (ltb 0 s.info.key_count && leb d.nodes s.info.node_count) _ λ y.
        record { at = λ u q. shrunk_ended (s.info.key_count - 1) (s.info.node_count - d.nodes) u q })

    pub remove_on_lem : Holds (Ended l s) (remove_on l k (record { state = s; steps = x ∷ ps }))
    unfolding remove_on
    remove_on_lem =
        holds_bind (shrunk_on l k (record { state = s; steps = x ∷ ps })) _ λ t e.
        let a = shrunk_on_lem.at t e in
        record { at = λ u q. ended_then l s t u a ((hand_ended (node_at t t.root).level l t a.stands).at u q) }

-- ---- trust

pub remove_safe : (l : Lent) (s : State) (k : List ℕ) → trusted l s ≡ true → Holds (λ r. Safe l s r.state) (removed l s k)
unfolding removed
remove_safe l s k h =
    let (held, st) = trusted_of l s h in
    holds_bind (way l s k) _ λ w q.
    let r = (way_root l s k st).at w q in
    let a : Ended l s w.state = loaded_ended l s w.state r.loaded in
    holds_cond (is_there s.order k (node_at w.state (leaf_of w.steps)).entries) _ _
    (λ t.
    let on : Holds (Ended l w.state) (remove_on l k w) = rw (way_again w (r.top ∷ r.rest) r.steps)
    (remove_on_lem l k w.state r.top r.rest r.loaded.stands (r.first ∙ sym r.loaded.loads.root) (rw r.steps at r.down)) in
    holds_bind (remove_on l k w) _ λ u e. holds_ok (ended_safe l s u held (ended_then l s w.state u a (on.at u e))))
    (λ t. holds_ok (ended_safe l s w.state held a))

pub trusted_remove : (l : Lent) (s : State) (k : List ℕ) → trusted l s ≡ true → Holds (λ r. trusted l r.state ≡ true) (removed l s k)
trusted_remove l s k h = holds_imp (removed l s k) (λ r a. a.trust) (remove_safe l s k h)
