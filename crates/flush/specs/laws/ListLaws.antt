-- Laws of the report lists: a number stored, the dead nodes listed. Assumes nothing.
use Rattle.std.specs.Prelude.{◌≡◌, refl, List, [], ◌∷◌, ◌++◌, Bool, true, false, cond, ◌&&◌, ℕ, zero, suc, ◌+◌, ◌-◌, ◌≤◌, ◌<◌, length, get_or, set, take, eqb, Option, Some, None, option_to_list}
use Rattle.std.specs.Bool.{then_some}
use Rattle.std.proofs.Common.{sym, ap, ap₂, ◌∙◌, append_assoc, append-nil, add-one, arith, length-append, get_or-set_same, get_or-set_other, take-suc, eq-eqb, ne_eqb}
use Rattle.tree.specs.Format.{Head, head_at, marked, node_of}
use Rattle.tree.specs.Workspace.{nodes_from, nodes_of}
use Rattle.tree.specs.internal.Bank.{live}
use Rattle.tree.specs.laws.base.Node.{by_test}
use Rattle.flush.specs.Flush.{dead_blocks, dead_ids}
use Rattle.flush.specs.Answers.{pairs_of}
use Rattle.flush.specs.internal.Lists.{numbers_of, Past, Pushed, dead_places, dead_names, Reported}

-- ---- the numbers at the start of a list

pub numbers_length : (k : ℕ) (l : List ℕ) → length (numbers_of k l) ≡ k
unfolding numbers_of
numbers_length zero l = refl
numbers_length (suc k) l = length-append (numbers_of k l) (get_or l k 0 ∷ []) ∙ ap (λ (n : ℕ). n + 1) (numbers_length k l) ∙ add-one k

pub pairs_length : (k : ℕ) (l m : List ℕ) → length (pairs_of k l m) ≡ k
unfolding pairs_of
pairs_length zero l m = refl
pairs_length (suc k) l m =
    length-append (pairs_of k l m) ((get_or l k 0, get_or m k 0) ∷ []) ∙ ap (λ (n : ℕ). n + 1) (pairs_length k l m) ∙ add-one k

numbers_set : (k e x : ℕ) (l : List ℕ) → k ≤ e → numbers_of k (set l e x) ≡ numbers_of k l
unfolding numbers_of
numbers_set zero e x l h = refl
numbers_set (suc k) e x l h =
    let d : k ≡ e → ⊥ = λ q. omega arith in
    ap₂ (λ (a : List ℕ) (y : ℕ). a ++ y ∷ []) (numbers_set k e x l (omega arith)) (get_or-set_other l e k x 0 d)

pub numbers_take : (k : ℕ) (l : List ℕ) → k ≤ length l → numbers_of k l ≡ take k l
unfolding numbers_of
numbers_take zero l h = refl
numbers_take (suc k) l h = ap (λ (a : List ℕ). a ++ get_or l k 0 ∷ []) (numbers_take k l (omega arith)) ∙ sym (take-suc l k 0 (omega arith))

-- ---- one stored

pub marked_most : (m x : ℕ) → length (marked m x) ≤ 1
unfolding marked
marked_most m x = by_test (eqb m 1) (λ t. rw t (omega arith)) (λ t. rw t (omega arith))

pub past_refl : (r : ℕ) (l : List ℕ) → Past r l l
past_refl r l = record { at = λ j h. refl }

pub past_on : (a b : ℕ) (l m k : List ℕ) → Past a l m → Past b m k → a ≤ b → Past b l k
past_on a b l m k p q h = record { at = λ j g. q.at j g ∙ p.at j (omega arith) }

pub push_none : (e : ℕ) (o : Option ℕ) (l : List ℕ) → o ≡ None → Pushed e (option_to_list o) l l e
push_none e o l n =
    rw n (record {
      numbers = sym (append-nil (numbers_of e l));
      front = λ j h. refl;
      last = λ y z. absurd (omega (arith, ap length z));
      count = omega arith;
      past = past_refl e l;
    })

pub push_room : (e x n : ℕ) (o : Option ℕ) → o ≡ Some x → e + length (option_to_list o) ≤ n → e < n
push_room e x n o h k = let z = rw h at k in omega arith

pub push_one : (e x : ℕ) (o : Option ℕ) (l : List ℕ) → o ≡ Some x → e + length (option_to_list o) ≤ length l
    → Pushed e (option_to_list o) l (set l e x) (e + 1)
unfolding numbers_of
push_one e x o l h r =
    let k : e < length l = push_room e x (length l) o h r in
    let f : numbers_of e (set l e x) ≡ numbers_of e l = numbers_set e e x l (omega arith) in
    let n : numbers_of (suc e) (set l e x) ≡ numbers_of e l ++ x ∷ [] = ap₂ (λ (a : List ℕ) (y : ℕ). a ++ y ∷ []) f (get_or-set_same l e x 0 k) in
    rw h (record {
      numbers = rw (add-one e) n;
      front = λ j g. let d : j ≡ e → ⊥ = λ z. omega arith in get_or-set_other l e j x 0 d;
      last = λ y z. get_or-set_same l e x 0 k ∙ ap (λ (a : List ℕ). get_or a 0 0) z;
      count = refl;
      past = record { at = λ j g. let d : j ≡ e → ⊥ = λ z. omega arith in get_or-set_other l e j x 0 d };
    })

-- pairs stored: one number in each list, or none
pairs_same : (e : ℕ) (l l' m m' : List ℕ) → ((j : ℕ) → j < e → get_or l' j 0 ≡ get_or l j 0) → ((j : ℕ) → j < e → get_or m' j 0 ≡ get_or m j 0)
    → pairs_of e l' m' ≡ pairs_of e l m
unfolding pairs_of
pairs_same zero l l' m m' f g = refl
pairs_same (suc e) l l' m m' f g =
    let i = pairs_same e l l' m m' (λ j h. f j (omega arith)) (λ j h. g j (omega arith)) in
    rw (i, f e (omega arith), g e (omega arith))

pub pairs_push : (b : Bool) (e r r' x y : ℕ) (o o' : Option ℕ) (l l' m m' : List ℕ) → o ≡ then_some b x → o' ≡ then_some b y
    → Pushed e (option_to_list o) l l' r → Pushed e (option_to_list o') m m' r'
    → pairs_of r l' m' ≡ pairs_of e l m ++ cond b ((x, y) ∷ []) []
unfolding pairs_of
pairs_push true e r r' x y o o' l l' m m' g h p q =
    let u : option_to_list o ≡ x ∷ [] = ap option_to_list g in
    let v : option_to_list o' ≡ y ∷ [] = ap option_to_list h in
    let z : r ≡ suc e = omega (arith, p.count, ap length u) in
    rw (z, pairs_same e l l' m m' p.front q.front, p.last x u, q.last y v)
pairs_push false e r r' x y o o' l l' m m' g h p q =
    let u : option_to_list o ≡ [] = ap option_to_list g in
    let z : r ≡ e = omega (arith, p.count, ap length u) in
    rw (z, append-nil (pairs_of e l m)) (pairs_same e l l' m m' p.front q.front)

-- both lists end at the same place
pub some_length : (b : Bool) (x : ℕ) (o : Option ℕ) → o ≡ then_some b x → length (option_to_list o) ≡ cond b 1 0
some_length true x o e = rw e
some_length false x o e = rw e

pub pairs_end : (b : Bool) (e r r' x y : ℕ) (o o' : Option ℕ) (l l' m m' : List ℕ) → o ≡ then_some b x → o' ≡ then_some b y
    → Pushed e (option_to_list o) l l' r → Pushed e (option_to_list o') m m' r' → r' ≡ r
pairs_end b e r r' x y o o' l l' m m' g h p q = omega (arith, p.count, q.count, some_length b x o g, some_length b y o' h)

-- ---- dead nodes

option_most : (o : Option ℕ) → length (option_to_list o) ≤ 1
option_most None = omega arith
option_most (Some x) = omega arith

-- the loop over the slots: f numbers stand in the list, n slots are passed
pub dead_room : (used n f : ℕ) (o : Option ℕ) (l l₀ : List ℕ) → n < used → f ≤ n → used ≤ length l₀ → length l ≡ length l₀
    → f + length (option_to_list o) ≤ length l
dead_room used n f o l l₀ h k g e = omega (arith, option_most o)

pub push_most : (n f r : ℕ) (o : Option ℕ) (l l' : List ℕ) → f ≤ n → Pushed f (option_to_list o) l l' r → r ≤ n + 1
push_most n f r o l l' h p = omega (arith, p.count, option_most o)

pub past_push : (f r : ℕ) (xs l₀ l l' : List ℕ) → Past f l₀ l → Pushed f xs l l' r → Past r l₀ l'
past_push f r xs l₀ l l' p q = past_on f r l₀ l l' p q.past (omega (arith, q.count))

pub places_start : (heads l : List ℕ) (used : ℕ) → numbers_of 0 l ++ dead_places heads (used - 0) 0 ≡ dead_places heads used 0
unfolding numbers_of
places_start heads l used = let z : used - 0 ≡ used = omega arith in rw z

pub names_start : (b : Bool) (heads l : List ℕ) (used : ℕ) → numbers_of 0 l ++ dead_names b heads (used - 0) 0 ≡ dead_names b heads used 0
unfolding numbers_of
names_start b heads l used = let z : used - 0 ≡ used = omega arith in rw z

-- a slot that is not dead is passed
pub places_kept : (heads l : List ℕ) (used n f : ℕ) (h : Head) → n < used → h ≡ live (head_at heads n) → (h.dead ≡ 1 → ⊥)
    → numbers_of f l ++ dead_places heads (used - n) n ≡ dead_places heads used 0
    → numbers_of f l ++ dead_places heads (used - (n + 1)) (n + 1) ≡ dead_places heads used 0
unfolding dead_places live
places_kept heads l used n f h k e d v =
    let z : used - n ≡ suc (used - (n + 1)) = omega arith in
    let o : suc n ≡ n + 1 = sym (add-one n) in
    let y : eqb (head_at heads n).dead 1 ≡ false = ap (λ (g : Head). eqb g.dead 1) (sym e) ∙ ne_eqb h.dead 1 d in
    rw (z, y, o) at v

pub names_kept : (b : Bool) (heads l : List ℕ) (used n f : ℕ) (h : Head) → n < used → h ≡ live (head_at heads n) → (h.dead ≡ 1 → ⊥)
    → numbers_of f l ++ dead_names b heads (used - n) n ≡ dead_names b heads used 0
    → numbers_of f l ++ dead_names b heads (used - (n + 1)) (n + 1) ≡ dead_names b heads used 0
unfolding dead_names live
names_kept b heads l used n f h k e d v =
    let z : used - n ≡ suc (used - (n + 1)) = omega arith in
    let o : suc n ≡ n + 1 = sym (add-one n) in
    let y : eqb (head_at heads n).dead 1 ≡ false = ap (λ (g : Head). eqb g.dead 1) (sym e) ∙ ne_eqb h.dead 1 d in
    rw (z, y, o) at v

-- a dead one leaves its block, and its id
pub places_next : (heads l l' : List ℕ) (used n f r : ℕ) (h : Head) (x : Option ℕ) → n < used → h ≡ live (head_at heads n) → h.dead ≡ 1
    → option_to_list x ≡ marked h.placed h.block
    → Pushed f (option_to_list x) l l' r
    → numbers_of f l ++ dead_places heads (used - n) n ≡ dead_places heads used 0
    → numbers_of r l' ++ dead_places heads (used - (n + 1)) (n + 1) ≡ dead_places heads used 0
unfolding dead_places live
places_next heads l l' used n f r h i k e d q p v =
    let z : used - n ≡ suc (used - (n + 1)) = omega arith in
    let o : n + 1 ≡ suc n = add-one n in
    let w : numbers_of f l ++ (cond (eqb (head_at heads n).dead 1) (marked (head_at heads n).placed (head_at heads n).block) []
    ++ dead_places heads (used - (n + 1)) (suc n)) ≡ dead_places heads used 0 = rw z at v in
    let y : option_to_list i ≡ cond (eqb (head_at heads n).dead 1) (marked (head_at heads n).placed (head_at heads n).block) [] =
    q ∙ ap (λ (t : Bool). cond t (marked h.placed h.block) []) (sym (eq-eqb h.dead 1 d))
    ∙ ap (λ (g : Head). cond (eqb g.dead 1) (marked g.placed g.block) []) e in
    rw (p.numbers, append_assoc, y) (ap (λ (k : ℕ). numbers_of f l ++ (cond (eqb (head_at heads n).dead 1) (marked (head_at heads n).placed
    (head_at heads n).block) [] ++ dead_places heads (used - (n + 1)) k)) o ∙ w)

pub names_next : (b : Bool) (heads l l' : List ℕ) (used n f r : ℕ) (h : Head) (x : Option ℕ) → n < used → h ≡ live (head_at heads n)
    → h.dead ≡ 1
    → option_to_list x ≡ cond b (marked h.named h.id) []
    → Pushed f (option_to_list x) l l' r
    → numbers_of f l ++ dead_names b heads (used - n) n ≡ dead_names b heads used 0
    → numbers_of r l' ++ dead_names b heads (used - (n + 1)) (n + 1) ≡ dead_names b heads used 0
unfolding dead_names live
names_next b heads l l' used n f r h i k e d q p v =
    let z : used - n ≡ suc (used - (n + 1)) = omega arith in
    let o : n + 1 ≡ suc n = add-one n in
    let w : numbers_of f l ++ (cond (eqb (head_at heads n).dead 1 && b) (marked (head_at heads n).named (head_at heads n).id) []
    ++ dead_names b heads (used - (n + 1)) (suc n)) ≡ dead_names b heads used 0 = rw z at v in
    let y : option_to_list i ≡ cond (eqb (head_at heads n).dead 1 && b) (marked (head_at heads n).named (head_at heads n).id) [] =
    q ∙ ap (λ (t : Bool). cond (t && b) (marked h.named h.id) []) (sym (eq-eqb h.dead 1 d))
    ∙ ap (λ (g : Head). cond (eqb g.dead 1 && b) (marked g.named g.id) []) e in
    rw (p.numbers, append_assoc, y) (ap (λ (k : ℕ). numbers_of f l ++ (cond (eqb (head_at heads n).dead 1 && b) (marked
    (head_at heads n).named (head_at heads n).id) [] ++ dead_names b heads (used - (n + 1)) k)) o ∙ w)

places_end : (heads l : List ℕ) (used n f : ℕ) → used ≤ n → numbers_of f l ++ dead_places heads (used - n) n ≡ dead_places heads used 0
    → numbers_of f l ≡ dead_places heads used 0
unfolding dead_places
places_end heads l used n f k v = let z : used - n ≡ 0 = omega arith in let w = rw (z, append-nil) at v in w

names_end : (b : Bool) (heads l : List ℕ) (used n f : ℕ) → used ≤ n → numbers_of f l ++ dead_names b heads (used - n) n ≡ dead_names b heads used 0
    → numbers_of f l ≡ dead_names b heads used 0
unfolding dead_names
names_end b heads l used n f k v = let z : used - n ≡ 0 = omega arith in let w = rw (z, append-nil) at v in w

pub reported : (b : Bool) (used n next f r : ℕ) (heads l₀ m₀ l m : List ℕ) → used ≤ n → n ≤ used → f ≤ n → r ≤ n
    → numbers_of f l ++ dead_places heads (used - n) n ≡ dead_places heads used 0
    → numbers_of r m ++ dead_names b heads (used - n) n ≡ dead_names b heads used 0
    → Past f l₀ l → Past r m₀ m
    → Reported b used next heads l₀ m₀ l m (record { next = next; freed = f; removed = r; moved = 0; allocated = 0 })
reported b used n next f r heads l₀ m₀ l m h k i j v w p q =
    record {
      places = places_end heads l used n f h v;
      names = names_end b heads m used n r h w;
      past_places = p;
      past_names = q;
      start = (refl, refl, refl);
      most = (omega arith, omega arith);
    }

-- the words say what the nodes say
places_from : (size m n : ℕ) (heads bytes : List ℕ) → dead_blocks (nodes_from size heads bytes m n) ≡ dead_places heads m n
unfolding nodes_from dead_blocks dead_places node_of
places_from size zero n heads bytes = refl
places_from size (suc m) n heads bytes =
    ap (λ (x : List ℕ). cond (eqb (head_at heads n).dead 1) (marked (head_at heads n).placed (head_at heads n).block) [] ++ x)
    (places_from size m (suc n) heads bytes)

names_from : (size m n : ℕ) (b : Bool) (heads bytes : List ℕ) → dead_ids b (nodes_from size heads bytes m n) ≡ dead_names b heads m n
unfolding nodes_from dead_ids dead_names node_of
names_from size zero n b heads bytes = refl
names_from size (suc m) n b heads bytes =
    ap (λ (x : List ℕ). cond (eqb (head_at heads n).dead 1 && b) (marked (head_at heads n).named (head_at heads n).id) [] ++ x)
    (names_from size m (suc n) b heads bytes)

pub dead_places_lem : (size used : ℕ) (heads bytes : List ℕ) → dead_blocks (nodes_of size heads bytes used) ≡ dead_places heads used 0
unfolding nodes_of
dead_places_lem size used heads bytes = places_from size used 0 heads bytes

pub dead_names_lem : (size used : ℕ) (b : Bool) (heads bytes : List ℕ) → dead_ids b (nodes_of size heads bytes used) ≡ dead_names b heads used 0
unfolding nodes_of
dead_names_lem size used b heads bytes = names_from size used 0 b heads bytes

pub ruleset pushing = (push_none, push_room)
