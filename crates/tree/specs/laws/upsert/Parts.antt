-- What the steps of an upsert rest on: of what is lent cuts look at the slots alone, keys in records are short, and a key that is there is as long as
-- the one looked for. Assumes nothing.
use Rattle.std.specs.Prelude.{◌≡◌, Bool, true, false, not, ◌||◌, ◌&&◌, ℕ, zero, suc, ◌+◌, ◌*◌, ◌≤◌, ◌<◌, length, ltb, eqb}
use Rattle.std.proofs.Math.Path.{refl, ap}
use Rattle.std.proofs.Common.{sym, ◌∙◌, arith, ltb-true, ltb-false, eqb-true, eq-eqb}
use mathlib.Core.List.{List, [], ◌∷◌, ◌++◌}
use Rattle.std.proofs.Math.Bool.{cond}
use Rattle.std.proofs.lemmas.Bool.{not-true}
use Rattle.node.specs.Order.{pair, keyed, keyed_length, byte_less, less}
use Rattle.node.specs.Entry.{Entry, Val, mem}
use Rattle.node.specs.Find.{key_at, place_of, is_there}
use Rattle.node.specs.Fit.{fits}
use Rattle.node.specs.Cut.{cut}
use Rattle.node.specs.Records.{entries_of}
use Rattle.node.specs.Result.{Result, ok, refused, ◌>>=◌}
use Rattle.node.specs.Slot.{MemNode, head_at}
use Rattle.node.specs.laws.base.Tests.{by_test, never, and_split}
use Rattle.node.specs.laws.base.Bytes.{Bytes, bytes_window}
use Rattle.node.specs.laws.slot.Records.{Storables, none, more, records_storable}
use Rattle.tree.specs.Lent.{Lent}
use Rattle.tree.specs.State.{State, no_node, node_at}
use Rattle.tree.specs.Lookup.{Step, Way}
use Rattle.tree.specs.Edit.{room_for, cut_at, cut_node, cuts}
use Rattle.tree.specs.Upsert.{upsert_on}
use Rattle.tree.specs.Workspace.{slot_bytes, state_of}
use Rattle.tree.specs.internal.Bank.{node_in, live, Lies, Ready}
use Rattle.tree.specs.internal.Undo.{Follows}
use Rattle.tree.specs.internal.Way.{nth_step, steps_of}
use Rattle.tree.specs.laws.slots.Bank.{live_entries}
use Rattle.tree.specs.laws.slots.Undo.{follows_on}
use Rattle.tree.specs.laws.slots.OneSlot.{ready_part, part_long}
use Rattle.tree.specs.laws.slots.Tree.{node_in_lem, node_out}
use Rattle.tree.specs.laws.trust.Named.{names, names_same}
use Rattle.tree.specs.laws.trust.Edit.{on_way}
use Rattle.tree.specs.laws.room.Each.{Each, keys_at_most}
use Rattle.tree.specs.declared.editor.Tree.{Tree}
use Rattle.tree.specs.declared.editor.Position as code

-- ---- of what is lent, cuts look at the number of slots alone

bind_same : {A B : Type 0} (r : Result A) (f g : A → Result B) → ((a : A) → f a ≡ g a) → (r >>= f) ≡ (r >>= g)
bind_same (refused n) f g h = refl
bind_same (ok a) f g h = h a

module _ (l m : Lent) (e : l.slots ≡ m.slots) where
  cut_at_slots : (up : List Step) (n c : ℕ) (s : State) → cut_at l up n c s ≡ cut_at m up n c s
  unfolding cut_at room_for
  cut_at_slots [] n c s = rw e
  cut_at_slots (x ∷ xs) n c s = rw e

  cut_slots : (up : List Step) (n : ℕ) (s : State) → cut_node l up n s ≡ cut_node m up n s
  unfolding cut_node
  cut_slots up n s =
      ap (λ (r : Result State). cond ((node_at s n).dead || fits s.info (eqb n s.root) (node_at s n).level
      (node_at s n).entries) (ok s) r)
      (bind_same (cut s.info (node_at s n).level (node_at s n).entries) (λ c. cut_at l up n c s) (λ c. cut_at m up n c s)
      (λ c. cut_at_slots up n c s))

  pub cuts_slots : (up ps : List Step) (s : State) → cuts l up ps s ≡ cuts m up ps s
  unfolding cuts
  cuts_slots up [] s = refl
  cuts_slots up (x ∷ xs) s =
      ap (λ (r : Result State). r >>= cut_node l up x.slot) (cuts_slots (x ∷ []) xs s)
      ∙ bind_same (cuts m (x ∷ []) xs s) (cut_node l up x.slot) (cut_node m up x.slot) (λ t. cut_slots up x.slot t)

pub on_slots : (l m : Lent) (k : List ℕ) (v : Val) (w : Way) → l.slots ≡ m.slots → upsert_on l k v w ≡ upsert_on m k v w
unfolding upsert_on
on_slots l m k v w e = rw (cuts_slots l m e)

-- ---- keys that lie in records are short

storable_key : (es : List Entry) → Storables es → (i : ℕ) → length (key_at es i) ≤ 65535
unfolding key_at
storable_key [] none i = omega arith
storable_key (e ∷ es) (more a s) zero = omega (arith, a.short)
storable_key (e ∷ es) (more a s) (suc i) = storable_key es s i

pub short_keys : (size slots : ℕ) (t : Tree) (h b : List ℕ) → Ready size slots t.used h b → Bytes b → Each (keys_at_most 65535) (state_of size t h b)
unfolding node_in no_node slot_bytes
short_keys size slots t h b r k =
    record {
      at = λ n d i.
          by_test (ltb n t.used)
          (λ u.
          let hn : n < t.used = ltb-true n t.used u in
          let l : List ℕ = slot_bytes size b n in
          let w : Lies size (live (head_at h n)) l = r.lies n hn in
          let long : length l ≡ 4 * size = part_long size b n (ready_part size slots t.used h b n r hn) in
          let es : (node_at (state_of size t h b) n).entries ≡ entries_of (live (head_at h n)).count l = ap (λ (m : MemNode). m.entries)
          (node_in_lem size t h b n hn) ∙ live_entries (head_at h n) l in
          let z = storable_key (entries_of (live (head_at h n)).count l) (records_storable (live (head_at h n)).count l (omega (arith, w.room, long))
          (bytes_window (n * (4 * size)) (4 * size) b k)) i in
          omega (arith, ap (λ (xs : List Entry). length (key_at xs i)) es))
          (λ u. never (ap (λ (m : MemNode). m.dead) (node_out size t h b n (ltb-false n t.used u))) d);
    }

-- ---- a key that is there is as long as the one looked for

or_none : (a b : Bool) → (a || b) ≡ false → (a ≡ false) × (b ≡ false)
or_none true b e = never refl e
or_none false b e = (refl, e)

byte_same : (a b : List ℕ) → byte_less a b ≡ false → byte_less b a ≡ false → length a ≡ length b
unfolding byte_less
byte_same [] [] h k = refl
byte_same [] (y ∷ ys) h k = never refl h
byte_same (x ∷ xs) [] h k = never refl k
byte_same (x ∷ xs) (y ∷ ys) h k =
    let (p, q) = or_none (ltb x y) (eqb x y && byte_less xs ys) h in
    let (p', q') = or_none (ltb y x) (eqb y x && byte_less ys xs) k in
    let e : x ≡ y = omega (arith, ltb-false x y p, ltb-false y x p') in
    let u : byte_less xs ys ≡ false = rw (eq-eqb x y e) at q in
    let u' : byte_less ys xs ≡ false = rw (eq-eqb y x (sym e)) at q' in
    ap suc (byte_same xs ys u u')

and_swap : (p a b : Bool) → p && b && a ≡ p && a && b
and_swap true true true = refl
and_swap true true false = refl
and_swap true false true = refl
and_swap true false false = refl
and_swap false a b = refl

pair_long : (o : ℕ) (k : List ℕ) → eqb o pair ≡ true → keyed o k ≡ true → length k ≡ 16
unfolding keyed keyed_length
pair_long o k e h = let z : eqb (length k) 16 ≡ true = rw e at h in eqb-true (length k) 16 z

less_same : (o : ℕ) (a b : List ℕ) → less o a b ≡ false → less o b a ≡ false → length a ≡ length b
unfolding less
less_same o a b h k =
    by_test (eqb o pair && keyed o a && keyed o b)
    (λ t. let (p, y) = and_split (eqb o pair && keyed o a) (keyed o b) t in
    let (q, x) = and_split (eqb o pair) (keyed o a) p in
    pair_long o a q x ∙ sym (pair_long o b q y))
    (λ t. byte_same a b (rw t at h) (rw (and_swap (eqb o pair) (keyed o a) (keyed o b), t) at k))

pub there_long : (o : ℕ) (k : List ℕ) (es : List Entry) → is_there o k es ≡ true → length (key_at es (place_of o k es)) ≡ length k
unfolding is_there place_of key_at
there_long o k [] f = never f refl
there_long o k (x ∷ xs) f =
    by_test (less o x.key k)
    (λ t. let g : is_there o k xs ≡ true = rw t at f in rw t (there_long o k xs g))
    (λ t. let g : not (less o k x.key) ≡ true = rw t at f in rw t (less_same o x.key k t (not-true (less o k x.key) g)))

-- ---- the slots of a way

on_append : (c : ℕ) (a b : List Step) → on_way c (a ++ b) ≡ on_way c a + on_way c b
on_append c [] b = omega arith
on_append c (x ∷ a) b = let k = on_append c a b in omega arith

pub on_steps : (way : List code.Position) (k j : ℕ) → j < k → 1 ≤ on_way (nth_step way j).slot (steps_of way k)
unfolding steps_of
on_steps way zero j h = absurd (omega arith)
on_steps way (suc k) j h =
    let x : Step = record { slot = (nth_step way k).slot; child = (nth_step way k).index } in
    let a = on_append (nth_step way j).slot (steps_of way k) (x ∷ []) in
    by_test (ltb j k)
    (λ t. omega (arith, on_steps way k j (ltb-true j k t)))
    (λ t. let e : j ≡ k = omega (arith, ltb-false j k t) in
    let z : names (nth_step way j).slot (mem (nth_step way k).slot) ≡ 1 = ap (λ (i : ℕ). names (nth_step way i).slot (mem (nth_step way k).slot)) e
    ∙ names_same (nth_step way k).slot in
    omega arith)

-- ---- undo

-- four steps, one after another
pub follows_four : (size slots used used' : ℕ) (h0 b0 h1 b1 h2 b2 h3 b3 h4 b4 : List ℕ) → used' ≡ used → Follows size slots used h0 b0 h1 b1
    → Follows size slots used h1 b1 h2 b2 → Follows size slots used' h2 b2 h3 b3 → Follows size slots used' h3 b3 h4 b4
    → Follows size slots used h0 b0 h4 b4
follows_four size slots used used' h0 b0 h1 b1 h2 b2 h3 b3 h4 b4 e f g h k =
    let a = follows_on size slots used used h0 b0 h1 b1 h2 b2 f g (omega arith) in
    let b = follows_on size slots used used' h0 b0 h2 b2 h3 b3 a h (omega arith) in
    follows_on size slots used used' h0 b0 h3 b3 h4 b4 b k (omega arith)
