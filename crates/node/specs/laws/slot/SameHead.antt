-- Records that have one head have one length. Assumes nothing.
use Rattle.std.specs.Prelude.{◌≡◌, refl, List, ℕ, ◌+◌, ◌≤◌, ◌<◌, ◌^◌, length, drop}
use Rattle.std.proofs.Common.{sym, ap, ◌∙◌, arith}
use Rattle.seal.specs.Bytes.{u16_at}
use Rattle.node.specs.Records.{mark_length, record_length, records_length}
use Rattle.node.specs.laws.slot.Records.{record_klen, record_mark, record_parts}
use Rattle.node.specs.laws.slot.Slot.{at_lies, at_next}

head_length : (l : List ℕ) (at klen mark : ℕ) → klen ≡ u16_at l at → mark ≡ u16_at l (at + 2)
    → record_length (drop at l) ≡ 4 + klen + mark_length mark
unfolding record_length
head_length l at klen mark p q =
    let k : u16_at (drop at l) 0 ≡ klen = record_klen l at ∙ sym p in
    let m : u16_at (drop at l) 2 ≡ mark = record_mark l at ∙ sym q in
    rw (k, m)

-- the length of a record by its head, and the value's length by its mark
pub like_length : (l : List ℕ) (at klen mark vlen : ℕ) → klen ≡ u16_at l at → mark ≡ u16_at l (at + 2) → vlen ≡ mark_length mark
    → 4 + klen + vlen ≡ record_length (drop at l)
like_length l at klen mark vlen p q e = let h = head_length l at klen mark p q in omega arith

-- so long it is within the list
pub like_room : (l : List ℕ) (at klen mark vlen : ℕ) → klen ≡ u16_at l at → mark ≡ u16_at l (at + 2) → vlen ≡ mark_length mark
    → at + record_length (drop at l) ≤ length l → at + (4 + klen + vlen) ≤ length l
like_room l at klen mark vlen p q e h = let r = like_length l at klen mark vlen p q e in omega arith

pub like_fits : (l : List ℕ) (at klen mark vlen : ℕ) → klen ≡ u16_at l at → mark ≡ u16_at l (at + 2) → vlen ≡ mark_length mark
    → at + record_length (drop at l) ≤ length l → length l < 2 ^ 64 → 4 + klen + vlen < 2 ^ 64
like_fits l at klen mark vlen p q e h s = let r = like_room l at klen mark vlen p q e h in omega arith

-- the mark of the record before
pub like_mark : (mark m vlen : ℕ) → mark ≡ m → vlen ≡ mark_length m → vlen ≡ mark_length mark
like_mark mark m vlen b e = e ∙ ap mark_length (sym b)

-- the head of the record before
pub like_same : (l : List ℕ) (at klen mark k m vlen len : ℕ) → klen ≡ u16_at l at → mark ≡ u16_at l (at + 2) → klen ≡ k → mark ≡ m
    → vlen ≡ mark_length m → len ≡ 4 + k + vlen → len ≡ record_length (drop at l)
like_same l at klen mark k m vlen len p q a b v e = e ∙ like_length l at k m vlen (sym a ∙ p) (sym b ∙ q) v

pub same_room : (l : List ℕ) (at klen mark k m vlen len : ℕ) → klen ≡ u16_at l at → mark ≡ u16_at l (at + 2) → klen ≡ k → mark ≡ m
    → vlen ≡ mark_length m → len ≡ 4 + k + vlen → at + record_length (drop at l) ≤ length l → at + len ≤ length l
same_room l at klen mark k m vlen len p q a b v e h = let r = like_same l at klen mark k m vlen len p q a b v e in omega arith

-- the next record starts after it
pub like_next : (l : List ℕ) (i at len : ℕ) → at ≡ records_length i l → len ≡ record_length (drop at l) → at + len ≡ records_length (i + 1) l
like_next l i at len p e = at_next l i at (at + len) p (ap (λ (x : ℕ). at + x) e)

-- a record of no key and no value
pub like_start : 0 ≡ mark_length 0
unfolding mark_length
like_start = refl

-- what `like_at` and `Record::parts` take of these
pub ruleset like = (like_length, like_room, like_fits, like_mark, like_same, same_room)

pub ruleset parts = (record_parts, like_room)

-- what a step of a walk takes of these
pub ruleset step = (at_lies, like_next)
