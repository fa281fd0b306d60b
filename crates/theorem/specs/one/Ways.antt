-- Slots through which every way leads: an index node has children, each on disk or in a slot that is not dead and one level lower. Loads keep that,
-- and no load answers 1. Assumes nothing.
use Rattle.std.specs.Prelude.{◌≡◌, refl, List, [], ◌∷◌, Bool, true, false, ◌&&◌, ◌||◌, not, length, get_or, leb, ltb, eqb}
use Rattle.std.proofs.Math.Path.{sym, ap, subst}
use Rattle.std.proofs.Common.{◌∙◌, arith, ltb-true, ltb-false, eqb-true, ne_eqb}
use Prim.Native.Nat.{ℕ, suc, ◌+◌, ◌≤◌, ◌<◌}
use Rattle.std.proofs.lemmas.Bool.{eqb-false, not-true}
use Rattle.node.specs.Result.{ok}
use Rattle.node.specs.Refusals as refusal
use Rattle.node.specs.Entry.{Entry, Val, ghost, leaf, disk, mem, rising, every}
use Rattle.node.specs.Find.{val_at}
use Rattle.node.specs.Read.{OnDisk, on_disk, parsed, span_at, spans_hold, spans_length, entries_hold, entries_from}
use Rattle.node.specs.Fit.{data_space}
use Rattle.node.specs.Slot.{MemNode, with_value, is_child, suit}
use Rattle.node.specs.laws.base.Tests.{by_test, never, and_split, and_left, and_right, or_right}
use Rattle.node.specs.laws.order.Rising.{every_at}
use Rattle.node.specs.laws.read.Loaded.{Passed, read_passed, entries_every, span_held, by_value}
use Rattle.node.specs.declared.read.Node.{Node}
use Rattle.node.specs.Place.{Place}
use Rattle.tree.specs.Lent.{Lent, block_at}
use Rattle.tree.specs.State.{State, no_node, node_at, put_node, with_entries}
use Rattle.tree.specs.Hold.{key_fits, value_fits, child_holds, stands_on_disk, node_stands, node_holds, every_live, named_once, hold_together, numbers_hold}
use Rattle.tree.specs.Trust.{stand_together, trusted}
use Rattle.tree.specs.Load.{Bounds, bound_key, load_block, child_place, adopted, At, load_child}
use Rattle.tree.specs.laws.state.Hold.{root_used, live_at, slot_holds_lem}
use Rattle.tree.specs.laws.state.State.{by_val, put_count, at_add_new, keys_of}
use Rattle.tree.specs.laws.state.Load.{brought, by_load, Kept, brought_child, brought_kept}
use Rattle.theorem.specs.disk.Read.{read_filled}
use Rattle.theorem.specs.disk.Seen.{load_read}
use Rattle.theorem.specs.one.NamedOnce.{live_used}
use Rattle.theorem.specs.one.Reads.{Quiet, quiet_ok, quiet_bind, quiet_check, quiet_imp, Silent, load_silent, address_silent}

-- ---- a node that was read: an index node's entries are children on disk

abbrev pub is_disk : Val → Bool
is_disk ghost = false
is_disk (leaf b) = false
is_disk (disk r) = true
is_disk (mem c) = false

entries_disks : (p : Place) (v : Node) (b : List ℕ) → entries_hold p v b ≡ true → eqb v.level 0 ≡ false → every (λ e. is_disk e.value)
    (entries_from v b 0 v.nkeys) ≡ true
unfolding entries_hold
entries_disks p v b h z =
    entries_every (λ e. is_disk e.value) v b
    (λ i k. by_value v b i (span_held v (length b) (span_at v b i) k) (λ t q. never t z) (λ x t n q. never t z) (λ r t q. rw q))
    0 v.nkeys
    (and_left (spans_hold v b 0 v.nkeys) (leb (spans_length v b 0 v.nkeys) (data_space (length b) p.root))
    (and_left (spans_hold v b 0 v.nkeys && leb (spans_length v b 0 v.nkeys) (data_space (length b) p.root))
    (not (eqb v.nkeys 0) || p.root && eqb v.level 0) h))

-- what a child that was read is: one level lower, not empty, and below it children on disk
pub record Fetched (level : ℕ) (d : OnDisk) : Type 0 where
  pub lower : d.node.level + 1 ≡ level
  pub some : 1 ≤ length d.entries
  pub disks : (l : ℕ) → d.node.level ≡ suc l → every (λ e. is_disk e.value) d.entries ≡ true

pub load_fetched : (l : Lent) (o ks vs level r a : ℕ) (bs : Bounds) (d : OnDisk) → load_block l o (child_place ks vs bs level r) bs a ≡ ok d
    → Fetched level d
unfolding child_place on_disk
load_fetched l o ks vs level r a bs d e =
    let p : Place = child_place ks vs bs level r in
    let b : List ℕ = block_at l a in
    let rn = (load_read l o p bs a d e).1 in
    let h : Passed o p (bound_key bs.lower) (bound_key bs.upper) b d = read_passed o p (bound_key bs.lower) (bound_key bs.upper) b d rn in
    let v : Node = parsed p b in
    record {
      lower = ap (λ (z : OnDisk). z.node.level + 1) h.read ∙ eqb-true (v.level + 1) level h.level;
      some = (read_filled o p (bound_key bs.lower) (bound_key bs.upper) b d rn).0 refl;
      disks = λ j q. subst (λ (z : OnDisk). every (λ e. is_disk e.value) z.entries ≡ true) (sym h.read)
          (entries_disks p v b h.entries (ne_eqb v.level 0
          (λ y. let w : d.node.level ≡ v.level = ap (λ (z : OnDisk). z.node.level) h.read in omega arith)));
    }

-- ---- the slots

-- a slot that is not dead, of level l
pub record Live (s : State) (l c : ℕ) : Type 0 where
  pub live : (node_at s c).dead ≡ false
  pub level : (node_at s c).level ≡ l

abbrev pub ChildAt : State → ℕ → Val → Type 0
ChildAt s l ghost = ⊥
ChildAt s l (leaf b) = ⊥
ChildAt s l (disk r) = Unit {0}
ChildAt s l (mem c) = Live s l c

pub record Filled (s : State) (l : ℕ) (es : List Entry) : Type 0 where
  pub some : 1 ≤ length es
  pub kids : (i : ℕ) → i < length es → ChildAt s l (val_at es i)

pub record Fine (s : State) : Type 0 where
  pub each : (n l : ℕ) → Live s (suc l) n → Filled s l (node_at s n).entries

-- from what refusal 1 asks
child_is : (s : State) (l : ℕ) (v : Val) → is_child v ≡ true → child_holds s (suc l) v ≡ true → ChildAt s l v
unfolding is_child child_holds
child_is s l ghost h k = never h refl
child_is s l (leaf b) h k = never h refl
child_is s l (disk r) h k = tt
child_is s l (mem c) h k =
    let (a, q) = and_split (ltb c (length s.nodes) && not (node_at s c).dead) (eqb ((node_at s c).level + 1) (suc l)) k in
    let z = eqb-true ((node_at s c).level + 1) (suc l) q in
    record { live = not-true (node_at s c).dead (and_right (ltb c (length s.nodes)) (not (node_at s c).dead) a); level = omega arith }

entry_is : (s : State) (l level : ℕ) (e : Entry) → level ≡ suc l → key_fits s e.key && value_fits s e.value && suit (eqb level 0) e
    && child_holds s level e.value ≡ true → ChildAt s l e.value
unfolding suit
entry_is s l level e q h =
    let (a, c) = and_split (key_fits s e.key && value_fits s e.value && suit (eqb level 0) e) (child_holds s level e.value) h in
    let b : suit (eqb level 0) e ≡ true = and_right (key_fits s e.key && value_fits s e.value) (suit (eqb level 0) e) a in
    let z : eqb level 0 ≡ false = ne_eqb level 0 (λ y. omega arith) in
    child_is s l e.value (rw z at b) (subst (λ (w : ℕ). child_holds s w e.value ≡ true) q c)

filled_is : (s : State) (n : ℕ) (m : MemNode) (l : ℕ) → node_stands s n m ≡ true → m.level ≡ suc l → 1 ≤ length m.entries
unfolding node_stands
filled_is s n m l h q =
    let t : Entry → Bool = λ e. key_fits s e.key && value_fits s e.value && suit (eqb m.level 0) e && child_holds s m.level e.value in
    let f : Bool = eqb m.level 0 || not (eqb (length m.entries) 0) in
    let b = and_left (leb m.level 32 && f) (every t m.entries)
    (and_left (leb m.level 32 && f && every t m.entries) (stands_on_disk s n m) h) in
    let c : f ≡ true = and_right (leb m.level 32) f b in
    let d = eqb-false (length m.entries) 0 (not-true _
    (or_right (eqb m.level 0) (not (eqb (length m.entries) 0)) (ne_eqb m.level 0 (λ y. omega arith)) c)) in
    omega arith

entries_fit : (s : State) (n : ℕ) (m : MemNode) → node_stands s n m ≡ true
    → every (λ e. key_fits s e.key && value_fits s e.value && suit (eqb m.level 0) e && child_holds s m.level e.value) m.entries ≡ true
unfolding node_stands
entries_fit s n m h =
    let t : Entry → Bool = λ e. key_fits s e.key && value_fits s e.value && suit (eqb m.level 0) e && child_holds s m.level e.value in
    let f : Bool = leb m.level 32 && (eqb m.level 0 || not (eqb (length m.entries) 0)) in
    and_right f (every t m.entries) (and_left (f && every t m.entries) (stands_on_disk s n m) h)

nodes_fine : (s : State) → ((n : ℕ) → (node_at s n).dead ≡ false → node_stands s n (node_at s n) ≡ true) → Fine s
unfolding val_at
nodes_fine s f =
    record {
      each = λ n l k.
          let m : MemNode = node_at s n in
          let w : node_stands s n m ≡ true = f n k.live in
          record {
            some = filled_is s n m l w k.level;
            kids = λ i lt. entry_is s l m.level (get_or m.entries i (record { key = []; value = ghost })) k.level
                (every_at _ m.entries i (record { key = []; value = ghost }) lt (entries_fit s n m w));
          };
    }

-- slots on which no load answers 1, and whose root is live
pub record Calm (s : State) : Type 0 where
  pub fine : Fine s
  pub root : (node_at s s.root).dead ≡ false

-- slots that hold together are such
pub together_calm : (s : State) → hold_together s ≡ true → Calm s
unfolding node_holds
together_calm s h =
    record {
      fine = nodes_fine s (λ n k.
          and_left (node_stands s n (node_at s n)) (rising s.order (node_at s n).entries) (slot_holds_lem s n h (live_used s n k) k));
      root = (root_used s h).1;
    }

-- so are slots that a call may trust
pub trusted_calm : (l : Lent) (s : State) → trusted l s ≡ true → Calm s
unfolding trusted stand_together node_at
trusted_calm l s t =
    let h = and_right (numbers_hold l s) (stand_together s) t in
    let top : Bool = ltb s.root (length s.nodes) && not (node_at s s.root).dead in
    let live : Bool = every_live (node_stands s) 0 s.nodes in
    let a = and_split top live (and_left (top && live) (named_once s (length s.nodes)) h) in
    record {
      fine = nodes_fine s (λ n k.
          let z : 0 + n ≡ n = omega arith in
          let i : node_stands s (0 + n) (get_or s.nodes n no_node) ≡ true = live_at (node_stands s) 0 s.nodes n a.1 (live_used s n k) k in
          rw z at i);
      root = not-true (node_at s s.root).dead (and_right (ltb s.root (length s.nodes)) (not (node_at s s.root).dead) a.0);
    }

-- ---- a load

-- what a load keeps of the slots that are not dead
pub record Keeps (s t : State) : Type 0 where
  pub live : (l c : ℕ) → Live s l c → Live t l c
  pub count : (c : ℕ) → (node_at s c).dead ≡ false → length (node_at t c).entries ≡ length (node_at s c).entries
  pub root : t.root ≡ s.root

pub keeps_refl : (s : State) → Keeps s s
keeps_refl s = record { live = λ l c h. h; count = λ c h. refl; root = refl }

pub keeps_then : (s t u : State) → Keeps s t → Keeps t u → Keeps s u
keeps_then s t u a b =
    record {
      live = λ l c h. b.live l c (a.live l c h);
      count = λ c h. b.count c (a.live (node_at s c).level c (record { live = h; level = refl })).live ∙ a.count c h;
      root = b.root ∙ a.root;
    }

keys_length_lem : (xs ys : List Entry) → keys_of xs ≡ keys_of ys → length xs ≡ length ys
keys_length_lem [] [] q = refl
keys_length_lem [] (y ∷ ys) q = let z : ◌≡◌ {A = ℕ} 0 1 = cc in absurd (omega arith)
keys_length_lem (x ∷ xs) [] q = let z : ◌≡◌ {A = ℕ} 0 1 = cc in absurd (omega arith)
keys_length_lem (x ∷ xs) (y ∷ ys) q = ap suc (keys_length_lem xs ys (cc))

kept_keeps : (s t : State) (n i : ℕ) → Kept s t n i → Keeps s t
kept_keeps s t n i k =
    record {
      live = λ l c h. let u = live_used s c h.live in record { live = k.dead c u ∙ h.live; level = k.level c u ∙ h.level };
      count = λ c h. keys_length_lem (node_at t c).entries (node_at s c).entries (k.keys c (live_used s c h));
      root = k.root;
    }

child_keeps : (s t : State) (l : ℕ) (v : Val) → Keeps s t → ChildAt s l v → ChildAt t l v
child_keeps s t l ghost k h = h
child_keeps s t l (leaf b) k h = h
child_keeps s t l (disk r) k h = tt
child_keeps s t l (mem c) k h = k.live l c h

-- after a load: the slots still lead everywhere, and the child is in its slot
pub record Led (s : State) (j : ℕ) (a : At) : Type 0 where
  pub fine : Fine a.state
  pub slot : Live a.state j a.slot
  pub keeps : Keeps s a.state

disk_child : (s : State) (l : ℕ) (v : Val) → is_disk v ≡ true → ChildAt s l v
disk_child s l ghost h = never h refl
disk_child s l (leaf b) h = never h refl
disk_child s l (disk r) h = tt
disk_child s l (mem c) h = never h refl

-- child i of slot n brought from disk
module _ (s : State) (n i : ℕ) (d : OnDisk) (b r j : ℕ) (q : val_at (node_at s n).entries i ≡ disk r) (fine : Fine s) (at : Live s (suc j) n)
    (fetched : Fetched (node_at s n).level d) where
  abbrev t : State
  t = (brought s n i d b).state

  abbrev c : ℕ
  c = length s.nodes

  abbrev kept : Kept s t n i
  kept = brought_kept s n i d b r q

  new : node_at t c ≡ adopted s.virtual b d
  new =
      let m : MemNode = with_entries (node_at s n) (with_value i (mem c) (node_at s n).entries) in
      subst (λ (z : ℕ). node_at t z ≡ adopted s.virtual b d) (put_count s n m) (at_add_new (put_node s n m) (adopted s.virtual b d))

  new_live : Live t j c
  unfolding adopted
  new_live =
      record {
        live = ap (λ (m : MemNode). m.dead) new;
        level = let z : (node_at t c).level ≡ d.node.level = ap (λ (m : MemNode). m.level) new in omega (arith, z, fetched.lower, at.level);
      }

  new_filled : (l : ℕ) → Live t (suc l) c → Filled t l (node_at t c).entries
  unfolding adopted val_at
  new_filled l h =
      let lv : d.node.level ≡ suc l = sym (ap (λ (m : MemNode). m.level) new) ∙ h.level in
      subst (λ (m : MemNode). Filled t l m.entries) (sym new)
      (record {
        some = fetched.some;
        kids = λ k lt. disk_child t l (val_at d.entries k)
            (every_at (λ e. is_disk e.value) d.entries k (record { key = []; value = ghost }) lt (fetched.disks l lv));
      })

  old_filled : (m l : ℕ) → m < c → Live t (suc l) m → Filled t l (node_at t m).entries
  old_filled m l lt h =
      let was : Live s (suc l) m = record { live = sym (kept.dead m lt) ∙ h.live; level = sym (kept.level m lt) ∙ h.level } in
      let f : Filled s l (node_at s m).entries = fine.each m l was in
      let keeps : Keeps s t = kept_keeps s t n i kept in
      let count = keeps.count m was.live in
      record {
        some = omega (arith, count, f.some);
        kids = λ k less.
            let other : (m ≡ n → k ≡ i → ⊥) → ChildAt t l (val_at (node_at t m).entries k) =
            λ no. subst (ChildAt t l) (sym (kept.values m k lt no))
            (child_keeps s t l (val_at (node_at s m).entries k) keeps (f.kids k (omega (arith, count, less)))) in
            by_test (eqb m n)
            (λ u. by_test (eqb k i)
            (λ v.
            let mn : m ≡ n = eqb-true m n u in
            let ki : k ≡ i = eqb-true k i v in
            let lj : l ≡ j = let z : (node_at s m).level ≡ (node_at s n).level = ap (λ (x : ℕ). (node_at s x).level) mn in omega
            (arith, z, was.level, at.level) in
            let val : val_at (node_at t m).entries k ≡ mem c =
            ap (λ (x : ℕ). val_at (node_at t x).entries k) mn ∙ ap (val_at (node_at t n).entries) ki ∙ brought_child s n i d b r q in
            subst (ChildAt t l) (sym val) (subst (λ (x : ℕ). Live t x c) (sym lj) new_live))
            (λ v. other (λ _ y. eqb-false k i v y)))
            (λ u. other (λ y _. eqb-false m n u y));
      }

  brought_fine : Fine t
  brought_fine =
      record {
        each = λ m l h.
            by_test (ltb m c)
            (λ u. old_filled m l (ltb-true m c u) h)
            (λ u.
            let z : m ≡ c = omega (arith, ltb-false m c u, live_used t m h.live, kept.most) in
            subst (λ (x : ℕ). Filled t l (node_at t x).entries) (sym z) (new_filled l (subst (λ (x : ℕ). Live t (suc l) x) z h)));
      }

  brought_led : Led s j (brought s n i d b)
  brought_led = record { fine = brought_fine; slot = new_live; keeps = kept_keeps s t n i kept }

child_mem : (s : State) (l : ℕ) (v : Val) (c : ℕ) → v ≡ mem c → ChildAt s l v → Live s l c
child_mem s l v c q h = subst (ChildAt s l) q h

is_child_lem : (s : State) (l : ℕ) (v : Val) → ChildAt s l v → is_child v ≡ true
unfolding is_child
is_child_lem s l ghost h = absurd h
is_child_lem s l (leaf b) h = absurd h
is_child_lem s l (disk r) h = refl
is_child_lem s l (mem c) h = refl

-- a load of a value that is a child
pub load_quiet : (l : Lent) (s : State) (bs : Bounds) (n i : ℕ) → is_child (val_at (node_at s n).entries i) ≡ true → Silent (load_child l s bs n i)
unfolding load_child is_child
load_quiet l s bs n i h =
    by_val (val_at (node_at s n).entries i)
    (λ q. let z : false ≡ true = rw q at h in never z refl)
    (λ b q. let z : false ≡ true = rw q at h in never z refl)
    (λ r q. rw q
    (quiet_check refusal.no_slot (ltb (length s.nodes) l.slots) _ refl λ _.
    quiet_bind _ _ (address_silent l s.xid r) λ a e _.
    quiet_bind _ _ (load_silent l s.order _ _ a) λ d f _. quiet_ok tt))
    (λ c q. rw q (quiet_ok tt))

-- a load of an index node's child does not answer 1
pub load_led : (l : Lent) (s : State) (bs : Bounds) (n i j : ℕ) → Fine s → Live s (suc j) n → i < length (node_at s n).entries
    → Quiet (Led s j) (load_child l s bs n i)
load_led l s bs n i j fine at lt =
    let child : ChildAt s j (val_at (node_at s n).entries i) = (fine.each n j at).kids i lt in
    quiet_imp (load_child l s bs n i)
    (λ a e _. by_load l s bs n i a e
    (λ c q p. subst (Led s j) (sym p) (record { fine = fine; slot = child_mem s j _ c q child; keeps = keeps_refl s }))
    (λ r d b q room w x p. subst (Led s j) (sym p) (brought_led s n i d b r j q fine at
    (load_fetched l s.order _ _ (node_at s n).level r b _ d x))))
    (load_quiet l s bs n i (is_child_lem s j _ child))
