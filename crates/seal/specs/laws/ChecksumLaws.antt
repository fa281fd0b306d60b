-- Laws of the words and the two sums, and of loops that add them up. Assumes nothing.
use Rattle.std.specs.Prelude.{◌≡◌, refl, List, [], ◌∷◌, ◌++◌, ℕ, zero, suc, ◌+◌, ◌-◌, ◌*◌, ◌/◌, ◌%◌, ◌^◌, ◌≤◌, ◌<◌, length, take, drop, get_or, min}
use Rattle.std.specs.Simd.{first_chunks}
use Rattle.std.proofs.Common.{sym, ap, ap₂, ◌∙◌, arith, add-one, append-nil, length-append, length-drop, length-take-le, take-append-drop, drop-drop, drop-cons}
use Rattle.std.proofs.lemmas.List.{take_rest}
use Rattle.seal.specs.Bytes.{window, le, field_at, u32_at}
use Rattle.seal.specs.Checksum.{M, words, s1, s2, stored_for, fletcher}
use Rattle.seal.specs.laws.FieldLaws.{field_window}
use Rattle.std.proofs.Math.ListN.{drop_of_length-le}

-- ---- words

pub words_cons : (l : List ℕ) → 4 ≤ length l → words l ≡ le (take 4 l) ∷ words (drop 4 l)
unfolding words
words_cons [] h = absurd (omega arith)
words_cons (a ∷ []) h = absurd (omega arith)
words_cons (a ∷ b ∷ []) h = absurd (omega arith)
words_cons (a ∷ b ∷ c ∷ []) h = absurd (omega arith)
words_cons (a ∷ b ∷ c ∷ d ∷ l) h = refl

pub words_short : (l : List ℕ) → length l < 4 → words l ≡ []
unfolding words
words_short [] h = refl
words_short (a ∷ []) h = refl
words_short (a ∷ b ∷ []) h = refl
words_short (a ∷ b ∷ c ∷ []) h = refl
words_short (a ∷ b ∷ c ∷ d ∷ l) h = absurd (omega arith)

-- the words of two runs, the first of whole words
pub words_append : (a b : List ℕ) → length a % 4 ≡ 0 → words (a ++ b) ≡ words a ++ words b
unfolding words
words_append [] b h = refl
words_append (x ∷ []) b h = absurd (omega arith)
words_append (x ∷ y ∷ []) b h = absurd (omega arith)
words_append (x ∷ y ∷ z ∷ []) b h = absurd (omega arith)
words_append (x ∷ y ∷ z ∷ w ∷ a) b h = ap (λ (ws : List ℕ). le (x ∷ y ∷ z ∷ w ∷ []) ∷ ws) (words_append a b (omega arith))

pub words_next : (l : List ℕ) (i : ℕ) → 4 ≤ length l - i → words (drop i l) ≡ u32_at l i ∷ words (drop (i + 4) l)
unfolding field_at window
words_next l i h =
    let k : 4 ≤ length (drop i l) = rw length-drop h in
    words_cons (drop i l) k ∙ ap (λ (r : List ℕ). le (take 4 (drop i l)) ∷ words r) (drop-drop 4 i l)

pub words_end : (l : List ℕ) (i : ℕ) → length l - i < 4 → words (drop i l) ≡ []
words_end l i h = words_short (drop i l) (rw length-drop h)

-- ---- sums

pub s1_append : (a : ℕ) (u v : List ℕ) → s1 a (u ++ v) ≡ s1 (s1 a u) v
unfolding s1
s1_append a [] v = refl
s1_append a (w ∷ u) v = s1_append (a + w) u v

pub s2_append : (a b : ℕ) (u v : List ℕ) → s2 a b (u ++ v) ≡ s2 (s1 a u) (s2 a b u) v
unfolding s1 s2
s2_append a b [] v = refl
s2_append a b (w ∷ u) v = s2_append (a + w) (b + (a + w)) u v

-- what they start from counts modulo M only
pub s1_mod : (a a' : ℕ) (ws : List ℕ) → a % M ≡ a' % M → s1 a ws % M ≡ s1 a' ws % M
unfolding s1
s1_mod a a' [] h = h
s1_mod a a' (w ∷ ws) h = s1_mod (a + w) (a' + w) ws (omega arith)

pub s2_mod : (a a' b b' : ℕ) (ws : List ℕ) → a % M ≡ a' % M → b % M ≡ b' % M → s2 a b ws % M ≡ s2 a' b' ws % M
unfolding s2
s2_mod a a' b b' [] h k = k
s2_mod a a' b b' (w ∷ ws) h k = s2_mod (a + w) (a' + w) (b + (a + w)) (b' + (a' + w)) ws (omega arith) (omega arith)

-- ---- two words a turn; and the ends, with no word left and with one

-- the words of runs of eight bytes
unfoldable pub pair_words : List (List ℕ) → List ℕ
pair_words [] = []
pair_words (p ∷ ps) = u32_at p 0 ∷ u32_at p 4 ∷ pair_words ps

-- the words of a run of bytes are those of its pairs and those of what is left
words_pairs : (l : List ℕ) (k : ℕ) → k * 8 ≤ length l → words l ≡ pair_words (first_chunks 8 k l) ++ words (drop (k * 8) l)
unfolding pair_words field_at window
words_pairs l zero h = refl
words_pairs l (suc k) h =
    let r : List ℕ = drop 8 l in
    let e : 8 + k * 8 ≡ suc k * 8 = omega arith in
    let w : words l ≡ u32_at l 0 ∷ u32_at l 4 ∷ words r = words_next l 0 (omega arith) ∙ ap (λ (q : List ℕ). u32_at l 0 ∷ q)
    (words_next l 4 (omega arith)) in
    let v : u32_at (take 8 l) 0 ≡ u32_at l 0 = field_window 4 0 8 l 0 (omega arith) in
    let u : u32_at (take 8 l) 4 ≡ u32_at l 4 = field_window 4 0 8 l 4 (omega arith) in
    let i : words r ≡ pair_words (first_chunks 8 k r) ++ words (drop (k * 8) r) = words_pairs r k (rw length-drop (omega arith)) in
    let d : drop (k * 8) r ≡ drop (suc k * 8) l = drop-drop (k * 8) 8 l ∙ ap (λ (n : ℕ). drop n l) e in
    cc

pub pair_turn_1 : (ps : List (List ℕ)) (k a : ℕ) → k < length ps
    → s1 a (pair_words (drop k ps)) ≡ s1 (a + u32_at (get_or ps k []) 0 + u32_at (get_or ps k []) 4) (pair_words (drop (k + 1) ps))
unfolding pair_words s1
pair_turn_1 ps k a h = rw (drop-cons ps k [] h, add-one)

pub pair_turn_2 : (ps : List (List ℕ)) (k a b : ℕ) → k < length ps
    → s2 a b (pair_words (drop k ps))
    ≡ s2 (a + u32_at (get_or ps k []) 0 + u32_at (get_or ps k []) 4)
    (b + 2 * (a + u32_at (get_or ps k []) 0) + u32_at (get_or ps k []) 4) (pair_words (drop (k + 1) ps))
unfolding pair_words s2
pair_turn_2 ps k a b h =
    let v : ℕ = u32_at (get_or ps k []) 0 in
    let u : ℕ = u32_at (get_or ps k []) 4 in
    let e : b + 2 * (a + v) + u ≡ b + (a + v) + (a + v + u) = omega arith in
    rw (e, drop-cons ps k [] h, add-one)

pub ruleset pair_turns = (pair_turn_1, pair_turn_2)

-- x and y are the two sums of all pairs: what is left goes on from them
pairs_done : (l rest : List ℕ) (ps : List (List ℕ)) (k a b x y : ℕ) → ps ≡ first_chunks 8 (length l / 8) l → length ps ≤ k
    → rest ≡ drop (length l / 8 * 8) l
    → s1 x (pair_words (drop k ps)) ≡ s1 a (pair_words ps) → s2 x y (pair_words (drop k ps)) ≡ s2 a b (pair_words ps)
    → (s1 x (words rest) ≡ s1 a (words l)) × (s2 x y (words rest) ≡ s2 a b (words l))
unfolding pair_words s1 s2
pairs_done l rest ps k a b x y e h f p q =
    let z : drop k ps ≡ [] = drop_of_length-le ps h in
    let m : words l ≡ pair_words ps ++ words rest = rw (e, f) (words_pairs l (length l / 8) (omega arith)) in
    let p' : x ≡ s1 a (pair_words ps) = rw z at p in
    let q' : y ≡ s2 a b (pair_words ps) = rw z at q in
    (rw (m, s1_append, ← p'), rw (m, s2_append, ← p', ← q'))

pub none_left : (l rest : List ℕ) (ps : List (List ℕ)) (k a b x y : ℕ) → ps ≡ first_chunks 8 (length l / 8) l → length ps ≤ k
    → rest ≡ drop (length l / 8 * 8) l → length rest < 4
    → s1 x (pair_words (drop k ps)) ≡ s1 a (pair_words ps) → s2 x y (pair_words (drop k ps)) ≡ s2 a b (pair_words ps)
    → (x ≡ s1 a (words l)) × (y ≡ s2 a b (words l))
unfolding s1 s2
none_left l rest ps k a b x y e h f n p q =
    let d = pairs_done l rest ps k a b x y e h f p q in
    (rw (words_short rest n) at d.0, rw (words_short rest n) at d.1)

pub one_left : (l rest : List ℕ) (ps : List (List ℕ)) (k a b x y w : ℕ) → ps ≡ first_chunks 8 (length l / 8) l → length ps ≤ k
    → rest ≡ drop (length l / 8 * 8) l → 4 ≤ length rest → length rest < 8 → w ≡ u32_at rest 0
    → s1 x (pair_words (drop k ps)) ≡ s1 a (pair_words ps) → s2 x y (pair_words (drop k ps)) ≡ s2 a b (pair_words ps)
    → (x + w ≡ s1 a (words l)) × (y + (x + w) ≡ s2 a b (words l))
unfolding s1 s2
one_left l rest ps k a b x y w e h f n m g p q =
    let d = pairs_done l rest ps k a b x y e h f p q in
    let o : words rest ≡ w ∷ [] = words_next rest 0 (omega arith) ∙ ap₂ (λ (v : ℕ) (r : List ℕ). v ∷ r) (sym g) (words_end rest 4 (omega arith)) in
    (rw o at d.0, rw o at d.1)

-- ---- a turn that adds one chunk and reduces, and the end

-- the words of a run are those of its first chunk and those of what is left
words_first : (l c r : List ℕ) → l ≡ c ++ r → length c ≡ min 4096 (length l) → words l ≡ words c ++ words r
unfolding words
words_first l c [] e h = rw (append-nil, e, append-nil)
words_first l c (x ∷ r) e h =
    let n : length l ≡ length c + suc (length r) = rw (e, length-append) in
    ap words e ∙ words_append c (x ∷ r) (omega arith)

pub chunk_turn_1 : (c r : List ℕ) (a : ℕ) → length c ≡ min 4096 (length (c ++ r))
    → s1 (s1 a (words c) % M) (words r) % M ≡ s1 a (words (c ++ r)) % M
chunk_turn_1 c r a h =
    rw (words_first (c ++ r) c r refl h, s1_append) (s1_mod (s1 a (words c) % M) (s1 a (words c)) (words r) (omega arith))

pub chunk_turn_2 : (c r : List ℕ) (a b : ℕ) → length c ≡ min 4096 (length (c ++ r))
    → s2 (s1 a (words c) % M) (s2 a b (words c) % M) (words r) % M ≡ s2 a b (words (c ++ r)) % M
chunk_turn_2 c r a b h =
    rw (words_first (c ++ r) c r refl h, s2_append)
    (s2_mod (s1 a (words c) % M) (s1 a (words c)) (s2 a b (words c) % M) (s2 a b (words c)) (words r) (omega arith) (omega arith))

pub chunk_end_1 : (l : List ℕ) (a : ℕ) → length l < 4 → s1 a (words l) ≡ a
unfolding s1
chunk_end_1 l a h = rw (words_short l h)

pub chunk_end_2 : (l : List ℕ) (a b : ℕ) → length l < 4 → s2 a b (words l) ≡ b
unfolding s2
chunk_end_2 l a b h = rw (words_short l h)

pub ruleset chunks = (chunk_turn_1, chunk_turn_2, chunk_end_1, chunk_end_2)

-- ---- the stored number, from sums that are reduced

pub compute_law : (l : List ℕ) (t u c1 c2 : ℕ) → t ≡ s1 0 (words (take (length l - 8) (drop 8 l))) % M
    → u ≡ s2 0 0 (words (take (length l - 8) (drop 8 l))) % M
    → c1 ≡ M - (t + u) % M → c2 ≡ M - (t + c1) % M → c2 * 2 ^ 32 + c1 ≡ fletcher l
unfolding fletcher stored_for
compute_law l t u c1 c2 e f p q =
    let x : ℕ = s1 0 (words (drop 8 l)) in
    let y : ℕ = s2 0 0 (words (drop 8 l)) in
    let e' : t ≡ x % M = rw (take_rest l 8) at e in
    let f' : u ≡ y % M = rw (take_rest l 8) at f in
    let a : c1 ≡ M - (x + y) % M = omega arith in
    let b : c2 ≡ M - (x + c1) % M = omega arith in
    rw (b, a)

-- ---- at any place

-- the words from i on are those of a chunk of n bytes and those after it
pub words_chunk : (l : List ℕ) (i n : ℕ) → n ≤ length l - i → n % 4 ≡ 0 → words (drop i l) ≡ words (take n (drop i l)) ++ words (drop (i + n) l)
words_chunk l i n h d =
    let k : n ≤ length (drop i l) = rw length-drop h in
    let e : length (take n (drop i l)) ≡ n = length-take-le n (drop i l) k in
    let z : length (take n (drop i l)) % 4 ≡ 0 = omega arith in
    ap words (sym (take-append-drop n (drop i l))) ∙ words_append (take n (drop i l)) (drop n (drop i l)) z
    ∙ ap (λ (r : List ℕ). words (take n (drop i l)) ++ words r) (drop-drop n i l)

-- one word more
pub s1_next : (l : List ℕ) (i x w : ℕ) → 4 ≤ length l - i → w ≡ u32_at l i → s1 x (words (drop i l)) ≡ s1 (x + w) (words (drop (i + 4) l))
unfolding s1
s1_next l i x w h e = rw e (ap (s1 x) (words_next l i h))

pub s2_next : (l : List ℕ) (i x y w : ℕ) → 4 ≤ length l - i → w ≡ u32_at l i → s2 x y (words (drop i l)) ≡ s2 (x + w) (y + (x + w))
    (words (drop (i + 4) l))
unfolding s2
s2_next l i x y w h e = rw e (ap (s2 x y) (words_next l i h))
