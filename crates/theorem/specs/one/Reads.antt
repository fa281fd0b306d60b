-- Answers that are not refusal 1. No read of a block, lookup in the object map or cut answers it, whatever it is given. Assumes nothing.
use Rattle.std.specs.Prelude.{◌≡◌, refl, List, [], ◌∷◌, Bool, true, false, cond, ◌&&◌, ◌||◌, not, ℕ, zero, suc, ◌+◌, ◌-◌, ◌%◌, ◌^◌, length, take, drop, leb, ltb, eqb}
use Rattle.std.proofs.Common.{sym, ap, subst, arith, ltb-true}
use Rattle.seal.specs.Checksum.{verified}
use Rattle.node.specs.Bytes.{u32_at, u64_at}
use Rattle.node.specs.Result.{Result, ok, refused, ◌>>=◌, ◌>>◌, check}
use Rattle.node.specs.laws.base.Results.{no_answer}
use Rattle.node.specs.Refusals as refusal
use Rattle.node.specs.Order.{pair, pair_key, less}
use Rattle.node.specs.Entry.{Entry}
use Rattle.node.specs.Find.{key_at, way_index}
use Rattle.node.specs.Fit.{flag, fits}
use Rattle.node.specs.Read.{OnDisk, parsed, layout_holds, entries_hold, entries_from, keys_hold, read_node}
use Rattle.node.specs.Cut.{cut_place, cut}
use Rattle.node.specs.declared.info.BTreeInfo.{BTreeInfo}
use Rattle.node.specs.declared.read.Node.{Node}
use Rattle.node.specs.Place.{Place}
use Rattle.tree.specs.Lent.{Lent, in_image}
use Rattle.tree.specs.State.{State, node_at}
use Rattle.tree.specs.Load.{Bounds, unbounded, load_block, root_place, map_child, map_last, or_else, map_floor, mapping, map_root_holds, map_address}
use Rattle.tree.specs.Load.{address_of}
use Rattle.tree.specs.laws.state.State.{by_val}
use Rattle.tree.specs.Lookup.{Step}
use Rattle.tree.specs.Edit.{room_for, parted, new_root_holds, cut_at, cut_node, cuts}

-- ---- answers

-- not refusal 1, and what is so of it where it is accepted
pub record Quiet {A : Type 0} (P : A → Type 0) (r : Result A) : Type 0 where
  pub silent : r ≡ refused refusal.lent → ⊥
  pub at : (a : A) → r ≡ ok a → P a

pub quiet_ok : {A : Type 0} {P : A → Type 0} {a : A} → P a → Quiet P (ok a)
quiet_ok {P = P} {a = a} p = record { silent = λ e. no_answer refusal.lent a (sym e); at = λ b e. let q : a ≡ b = cc in subst P q p }

-- another number
pub quiet_refused : {A : Type 0} {P : A → Type 0} (n : ℕ) → ltb 1 n ≡ true → Quiet P (refused n)
quiet_refused n h = record { silent = λ e. let q : n ≡ 1 = cc in let k = ltb-true 1 n h in omega arith; at = λ b e. no_answer n b e }

pub quiet_bind : {A B : Type 0} {P : A → Type 0} {Q : B → Type 0} (r : Result A) (f : A → Result B) → Quiet P r
    → ((a : A) → r ≡ ok a → P a → Quiet Q (f a)) → Quiet Q (r >>= f)
quiet_bind (refused n) f h k = record { silent = λ e. h.silent (let q : n ≡ 1 = cc in ap refused q); at = λ b e. no_answer n b e }
quiet_bind (ok a) f h k = k a refl (h.at a refl)

pub quiet_then : {A B : Type 0} {P : A → Type 0} {Q : B → Type 0} (r : Result A) (f : Result B) → Quiet P r → Quiet Q f → Quiet Q (r >> f)
quiet_then (refused n) f h k = record { silent = λ e. h.silent (let q : n ≡ 1 = cc in ap refused q); at = λ b e. no_answer n b e }
quiet_then (ok a) f h k = k

pub quiet_check : {B : Type 0} {Q : B → Type 0} (n : ℕ) (t : Bool) (f : Result B) → ltb 1 n ≡ true → (t ≡ true → Quiet Q f) → Quiet Q (check n t >> f)
quiet_check n true f h k = k refl
quiet_check n false f h k = quiet_refused n h

pub quiet_cond : {A : Type 0} {P : A → Type 0} (t : Bool) (x y : Result A) → (t ≡ true → Quiet P x) → (t ≡ false → Quiet P y) → Quiet P (cond t x y)
quiet_cond true x y f g = f refl
quiet_cond false x y f g = g refl

-- nothing said of what is accepted
abbrev pub Silent : {A : Type 0} → Result A → Type 0
Silent r = Quiet (λ a. Unit {0}) r

pub quiet_imp : {A : Type 0} {P Q : A → Type 0} (r : Result A) → ((a : A) → r ≡ ok a → P a → Q a) → Quiet P r → Quiet Q r
quiet_imp r f h = record { silent = h.silent; at = λ a e. f a e (h.at a e) }

-- ---- a block read

read_silent : (o : ℕ) (p : Place) (lower upper b : List ℕ) → Silent (read_node o p lower upper b)
unfolding read_node
read_silent o p lower upper b =
    let v : Node = parsed p b in
    quiet_check refusal.fletcher (verified b) _ refl λ _.
    quiet_check refusal.kind (eqb (v.otype % 65536) 2 || eqb (v.otype % 65536) 3) _ refl λ _.
    quiet_check refusal.hashed (not (flag v.flags 8)) _ refl λ _.
    quiet_check refusal.layout (layout_holds p v) _ refl λ _.
    quiet_check refusal.level (p.root || eqb (v.level + 1) p.parent) _ refl λ _.
    quiet_check refusal.entry (entries_hold p v b) _ refl λ _.
    quiet_check refusal.keys (keys_hold o p lower upper (entries_from v b 0 v.nkeys)) _ refl λ _.
    quiet_ok tt

pub load_silent : (l : Lent) (o : ℕ) (p : Place) (bs : Bounds) (a : ℕ) → Silent (load_block l o p bs a)
unfolding load_block
load_silent l o p bs a = quiet_check refusal.address (in_image l a) _ refl λ _. read_silent o p _ _ _

-- ---- the object map

child_silent : (l : Lent) (d : OnDisk) (bs : Bounds) (i : ℕ) → Silent (map_child l d bs i)
unfolding map_child
child_silent l d bs i = load_silent l pair _ _ _

last_silent : (n : ℕ) (l : Lent) (d : OnDisk) (bs : Bounds) → Silent (map_last n l d bs)
unfolding map_last
last_silent zero l d bs = quiet_ok tt
last_silent (suc n) l d bs = quiet_bind _ _ (child_silent l d bs (length d.entries - 1)) λ c e _. last_silent n l c _

else_silent : (es : List Entry) (r : Result (List Entry)) → Silent r → Silent (or_else es r)
unfolding or_else
else_silent [] r h = h
else_silent (e ∷ es) r h = quiet_ok tt

floor_silent : (n : ℕ) (l : Lent) (d : OnDisk) (bs : Bounds) (k : List ℕ) → Silent (map_floor n l d bs k)
unfolding map_floor
floor_silent zero l d bs k = quiet_ok tt
floor_silent (suc n) l d bs k =
    quiet_bind _ _ (child_silent l d bs (way_index pair k d.entries)) λ c e _.
    quiet_bind _ _ (floor_silent n l c _ k) λ es f _.
    else_silent es _ (quiet_cond (ltb 0 (way_index pair k d.entries) && not (less pair k (key_at d.entries (way_index pair k d.entries)))) _ _
    (λ t. quiet_bind _ _ (child_silent l d bs (way_index pair k d.entries - 1)) λ c' e' _. last_silent n l c' _)
    (λ t. quiet_ok tt))

mapping_silent : (id : ℕ) (es : List Entry) → Silent (mapping id es)
unfolding mapping
mapping_silent id [] = quiet_refused refusal.unmapped refl
mapping_silent id (e ∷ es) =
    quiet_check refusal.unmapped (eqb (u64_at e.key 0) id) _ refl λ _.
    by_val e.value
    (λ q. rw q (quiet_refused refusal.unmapped refl))
    (λ b q. rw q (quiet_check refusal.encrypted (not (flag (u32_at b 0) 4)) _ refl λ _. quiet_ok tt))
    (λ r q. rw q (quiet_refused refusal.unmapped refl))
    (λ c q. rw q (quiet_refused refusal.unmapped refl))

map_silent : (l : Lent) (xid id m : ℕ) → Silent (map_address l xid id m)
unfolding map_address
map_silent l xid id m =
    quiet_bind _ _ (load_silent l pair (root_place m) unbounded m) λ d e _.
    quiet_check refusal.root (map_root_holds l m d) _ refl λ _.
    quiet_bind _ _ (floor_silent d.node.level l d unbounded (pair_key id xid)) λ es f _. mapping_silent id es

parts_silent : (image : List ℕ) (size slots xid r : ℕ) (ms : List ℕ)
    → Silent (address_of (record { image = image; size = size; map = ms; slots = slots }) xid r)
unfolding address_of
parts_silent image size slots xid r [] = quiet_ok tt
parts_silent image size slots xid r (m ∷ ms) = map_silent (record { image = image; size = size; map = m ∷ ms; slots = slots }) xid r m

pub address_silent : (l : Lent) (xid r : ℕ) → Silent (address_of l xid r)
address_silent l xid r = parts_silent l.image l.size l.slots xid r l.map

-- ---- cuts

cut_silent : (t : BTreeInfo) (level : ℕ) (es : List Entry) → Silent (cut t level es)
unfolding cut
cut_silent t level es =
    let fit : List Entry → Bool = fits t false level in
    let c : ℕ = cut_place fit es in
    quiet_check refusal.single (ltb 1 (length es)) _ refl λ _. quiet_check refusal.no_cut (fit (take c es) && fit (drop c es)) _ refl λ _. quiet_ok tt

room_silent : (l : Lent) (s : State) (n : ℕ) → Silent (room_for l s n)
unfolding room_for
room_silent l s n =
    quiet_check refusal.count (leb (s.info.node_count + n) (2 ^ 64 - 1)) _ refl λ _. check_silent refusal.no_slot
    (leb (length s.nodes + n) l.slots) refl
  where
    check_silent : (k : ℕ) (t : Bool) → ltb 1 k ≡ true → Silent (check k t)
    check_silent k true h = quiet_ok tt
    check_silent k false h = quiet_refused k h

cut_at_silent : (l : Lent) (up : List Step) (n c : ℕ) (s : State) → Silent (cut_at l up n c s)
unfolding cut_at
cut_at_silent l [] n c s = quiet_check refusal.new_root (new_root_holds (parted s n c) n (length s.nodes)) _ refl λ _. quiet_then _ _
    (room_silent l s 2) (quiet_ok tt)
cut_at_silent l (x ∷ xs) n c s = quiet_then _ _ (room_silent l s 1) (quiet_ok tt)

cut_node_silent : (l : Lent) (up : List Step) (n : ℕ) (s : State) → Silent (cut_node l up n s)
unfolding cut_node
cut_node_silent l up n s =
    quiet_cond ((node_at s n).dead || fits s.info (eqb n s.root) (node_at s n).level (node_at s n).entries) _ _ (λ t. quiet_ok tt)
    (λ t. quiet_bind _ _ (cut_silent s.info (node_at s n).level (node_at s n).entries) λ c e _. cut_at_silent l up n c s)

pub cuts_silent : (l : Lent) (up ps : List Step) (s : State) → Silent (cuts l up ps s)
unfolding cuts
cuts_silent l up [] s = quiet_ok tt
cuts_silent l up (x ∷ xs) s = quiet_bind _ _ (cuts_silent l (x ∷ []) xs s) λ t e _. cut_node_silent l up x.slot t
