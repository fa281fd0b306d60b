-- Laws of how two keys stand, as the library orders numbers. Assumes nothing.
use Rattle.std.specs.Prelude.{◌≡◌, List, true, false, cond, ◌&&◌, ℕ, length, ltb, eqb, ◌==◌}
use Rattle.std.proofs.Common.{sym, ◌∙◌, arith, ltb-true, ltb-false, le-ltb, eq-eqb, ne_eqb}
use Rattle.std.specs.Ordering.{nat_cmp, is_lt}
use Rattle.seal.specs.Bytes.{u64_at}
use Rattle.node.specs.Order.{pair, byte, keyed, keyed_length, pair_less, byte_less, less}
use Rattle.node.specs.laws.base.Tests.{by_test, or-false}
use Rattle.node.specs.internal.Sought.{compared}

pub compared_lt : (o : ℕ) (a b : List ℕ) → is_lt (compared o a b) ≡ less o a b
unfolding compared
compared_lt o a b = by_test (less o a b) (λ t. rw t) (λ t. by_test (less o b a) (λ u. rw (t, u)) (λ u. rw (t, u)))

-- two numbers that stand as two keys do
cmp_said : (o x y : ℕ) (a b : List ℕ) → ltb x y ≡ less o a b → ltb y x ≡ less o b a → nat_cmp x y ≡ compared o a b
unfolding compared
cmp_said o x y a b p q =
    by_test (ltb x y)
    (λ t. rw (← p, t))
    (λ t. by_test (ltb y x)
    (λ u. let n : x == y ≡ false = ne_eqb x y (λ e. let k = ltb-true y x u in omega arith) in rw (← p, ← q, t, u, n))
    (λ u. let n : x == y ≡ true = eq-eqb x y (let k = ltb-false x y t in let m = ltb-false y x u in omega arith) in rw (← p, ← q, t, u, n)))

pub byte_said : (x y : ℕ) (a b : List ℕ) → ltb x y ≡ byte_less a b → ltb y x ≡ byte_less b a → nat_cmp x y ≡ compared byte a b
unfolding less
byte_said x y a b p q = cmp_said byte x y a b p q

-- what are no two pairs is compared as bytes
pub by_code : (o : ℕ) (a b : List ℕ)
    → compared o a b ≡ cond (eqb o 0 && eqb (length a) 16 && eqb (length b) 16) (compared pair a b) (compared byte a b)
unfolding compared less keyed keyed_length
by_code o a b =
    by_test (eqb o 0)
    (λ p. by_test (eqb (length a) 16)
    (λ q. by_test (eqb (length b) 16) (λ r. rw (p, q, r)) (λ r. rw (p, q, r)))
    (λ q. by_test (eqb (length b) 16) (λ r. rw (p, q, r)) (λ r. rw (p, q, r))))
    (λ p. rw p)

-- ---- pairs

pair_is : (a b : List ℕ) → length a ≡ 16 → length b ≡ 16 → less pair a b ≡ pair_less a b
unfolding less keyed keyed_length
pair_is a b p q = rw (eq-eqb (length a) 16 p, eq-eqb (length b) 16 q)

module _ (a b : List ℕ) (p : length a ≡ 16) (q : length b ≡ 16) where
  -- the ids differ
  id_less : (c d : List ℕ) → (u64_at c 0 ≡ u64_at d 0 → ⊥) → ltb (u64_at c 0) (u64_at d 0) ≡ pair_less c d
  unfolding pair_less
  id_less c d n = rw (ne_eqb (u64_at c 0) (u64_at d 0) n) (sym (or-false (ltb (u64_at c 0) (u64_at d 0))))

  pub by_id : (u64_at a 0 ≡ u64_at b 0 → ⊥) → compared pair a b ≡ nat_cmp (u64_at a 0) (u64_at b 0)
  by_id n =
      sym (cmp_said pair (u64_at a 0) (u64_at b 0) a b (id_less a b n ∙ sym (pair_is a b p q)) (id_less b a (λ e. n (sym e)) ∙ sym (pair_is b a q p)))

  -- the transactions decide
  xid_less : (c d : List ℕ) → u64_at c 0 ≡ u64_at d 0 → ltb (u64_at c 8) (u64_at d 8) ≡ pair_less c d
  unfolding pair_less
  xid_less c d e = rw (le-ltb (u64_at c 0) (u64_at d 0) (omega arith), eq-eqb (u64_at c 0) (u64_at d 0) e)

  pub by_xid : u64_at a 0 ≡ u64_at b 0 → compared pair a b ≡ nat_cmp (u64_at a 8) (u64_at b 8)
  by_xid e =
      sym (cmp_said pair (u64_at a 8) (u64_at b 8) a b (xid_less a b e ∙ sym (pair_is a b p q)) (xid_less b a (sym e) ∙ sym (pair_is b a q p)))

-- what `pair_compare` takes of these
pub ruleset pairs = (by_id, by_xid)

-- what are no two pairs stands before another as bytes do
pub less_by_code : (o : ℕ) (a b : List ℕ)
    → less o a b ≡ cond (eqb o 0 && eqb (length a) 16 && eqb (length b) 16) (less pair a b) (less byte a b)
unfolding less keyed keyed_length
less_by_code o a b =
    by_test (eqb o 0)
    (λ p. by_test (eqb (length a) 16)
    (λ q. by_test (eqb (length b) 16) (λ r. simp (p, q, r)) (λ r. simp (p, q, r)))
    (λ q. by_test (eqb (length b) 16) (λ r. simp (p, q, r)) (λ r. simp (p, q, r))))
    (λ p. simp p)

-- what `Order::less` takes of these
pub ruleset lesser = (compared_lt, less_by_code)

-- the same of the order of pairs
pub pair_by_length : (a b : List ℕ) → less pair a b ≡ cond (eqb (length a) 16 && eqb (length b) 16) (less pair a b) (less byte a b)
pair_by_length a b = less_by_code pair a b

-- what `pair_less` takes of these
pub ruleset lesser_pairs = (compared_lt, pair_by_length)
