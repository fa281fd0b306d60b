-- Laws of lent sizes: one for each way out. Assumes nothing.
use Rattle.std.specs.Prelude.{◌≡◌, refl, List, Bool, true, false, not, ◌||◌, ℕ, ◌/◌, ◌%◌, ◌^◌, ◌≤◌, ◌<◌, length, leb, eqb}
use Rattle.std.proofs.Math.Path.{sym}
use Rattle.std.proofs.Common.{◌∙◌, arith}
use borrow.Author.Tests.{eq-eqb, ne_eqb, eqb-true, le-leb, lt-leb, not-true, not-false}
use Rattle.tree.specs.Lent as lent
use Rattle.tree.specs.Lent.{is_size, sizes_hold, lent_of}
use Rattle.tree.specs.declared.lent.Lent.{Lent}

pub size_512 : (n : ℕ) → n ≡ 512 → true ≡ is_size n
unfolding is_size
size_512 n e = sym (rw e)

pub size_1024 : (n : ℕ) → n ≡ 1024 → true ≡ is_size n
unfolding is_size
size_1024 n e = sym (rw e)

pub size_2048 : (n : ℕ) → n ≡ 2048 → true ≡ is_size n
unfolding is_size
size_2048 n e = sym (rw e)

pub size_4096 : (n : ℕ) → n ≡ 4096 → true ≡ is_size n
unfolding is_size
size_4096 n e = sym (rw e)

pub size_8192 : (n : ℕ) → n ≡ 8192 → true ≡ is_size n
unfolding is_size
size_8192 n e = sym (rw e)

pub size_16384 : (n : ℕ) → n ≡ 16384 → true ≡ is_size n
unfolding is_size
size_16384 n e = sym (rw e)

pub size_32768 : (n : ℕ) → n ≡ 32768 → true ≡ is_size n
unfolding is_size
size_32768 n e = sym (rw e)

pub size_last : (n : ℕ) → (n ≡ 512 → ⊥) → (n ≡ 1024 → ⊥) → (n ≡ 2048 → ⊥) → (n ≡ 4096 → ⊥) → (n ≡ 8192 → ⊥) → (n ≡ 16384 → ⊥) → (n ≡ 32768 → ⊥)
    → eqb n 65536 ≡ is_size n
unfolding is_size
size_last n a b c d e f g = sym (rw (
  ne_eqb n 512 a,
  ne_eqb n 1024 b,
  ne_eqb n 2048 c,
  ne_eqb n 4096 d,
  ne_eqb n 8192 e,
  ne_eqb n 16384 f,
  ne_eqb n 32768 g,
))

-- one of two
either : {C : Type 0} (s t : Bool) → s || t ≡ true → (s ≡ true → C) → (t ≡ true → C) → C
either true t e f g = f refl
either false t e f g = g e

at_size : (n k : ℕ) → 512 ≤ k → k ≤ 65536 → eqb n k ≡ true → (512 ≤ n) × (n ≤ 65536)
at_size n k a b t = let e : n ≡ k = eqb-true n k t in (omega arith, omega arith)

pub size_bounds : (n : ℕ) → is_size n ≡ true → (512 ≤ n) × (n ≤ 65536)
unfolding is_size
size_bounds n h =
    either (eqb n 512 || eqb n 1024 || eqb n 2048 || eqb n 4096 || eqb n 8192 || eqb n 16384 || eqb n 32768) (eqb n 65536) h
    (λ h7. either (eqb n 512 || eqb n 1024 || eqb n 2048 || eqb n 4096 || eqb n 8192 || eqb n 16384) (eqb n 32768) h7
    (λ h6. either (eqb n 512 || eqb n 1024 || eqb n 2048 || eqb n 4096 || eqb n 8192) (eqb n 16384) h6
    (λ h5. either (eqb n 512 || eqb n 1024 || eqb n 2048 || eqb n 4096) (eqb n 8192) h5
    (λ h4. either (eqb n 512 || eqb n 1024 || eqb n 2048) (eqb n 4096) h4
    (λ h3. either (eqb n 512 || eqb n 1024) (eqb n 2048) h3
    (λ h2. either (eqb n 512) (eqb n 1024) h2 (at_size n 512 (omega arith) (omega arith)) (at_size n 1024 (omega arith) (omega arith)))
    (at_size n 2048 (omega arith) (omega arith)))
    (at_size n 4096 (omega arith) (omega arith)))
    (at_size n 8192 (omega arith) (omega arith)))
    (at_size n 16384 (omega arith) (omega arith)))
    (at_size n 32768 (omega arith) (omega arith)))
    (at_size n 65536 (omega arith) (omega arith))

module _ (image : List ℕ) (l : Lent) (t : Bool) (et : t ≡ is_size l.size) where
  pub sizes_not : not t ≡ true → false ≡ sizes_hold (lent_of image l)
  unfolding sizes_hold lent_of
  sizes_not h = sym (rw (← et, not-true t h))

  pub size_some : not t ≡ false → 0 < l.size
  size_some h = omega (arith, (size_bounds l.size (sym et ∙ not-false t h)).0)

  module _ (h : not t ≡ false) where
    pub sizes_part : (length image % l.size ≡ 0 → ⊥) → false ≡ sizes_hold (lent_of image l)
    unfolding sizes_hold lent_of
    sizes_part n = sym (rw (← et, not-false t h, ne_eqb (length image % l.size) 0 n))

    module _ (p : length image % l.size ≡ 0) where
      pub sizes_none : length image / l.size < 1 → false ≡ sizes_hold (lent_of image l)
      unfolding sizes_hold lent_of lent.blocks
      sizes_none n = sym (rw (← et, not-false t h, eq-eqb (length image % l.size) 0 p, lt-leb 1 (length image / l.size) n))

      module _ (q : 1 ≤ length image / l.size) where
        pub sizes_many : 1048576 < length image / l.size → false ≡ sizes_hold (lent_of image l)
        unfolding sizes_hold lent_of lent.blocks
        sizes_many n = sym (rw (
          ← et,
          not-false t h,
          eq-eqb (length image % l.size) 0 p,
          le-leb 1 (length image / l.size) q,
          lt-leb (length image / l.size) (2 ^ 20) n,
        ))

        module _ (r : length image / l.size ≤ 1048576) where
          pub sizes_slotless : l.slots < 1 → false ≡ sizes_hold (lent_of image l)
          unfolding sizes_hold lent_of lent.blocks
          sizes_slotless n = sym (rw (
            ← et,
            not-false t h,
            eq-eqb (length image % l.size) 0 p,
            le-leb 1 (length image / l.size) q,
            le-leb (length image / l.size) (2 ^ 20) r,
            lt-leb 1 l.slots n,
          ))

          pub sizes_slots : 1 ≤ l.slots → leb l.slots 4096 ≡ sizes_hold (lent_of image l)
          unfolding sizes_hold lent_of lent.blocks
          sizes_slots n = sym (rw (
            ← et,
            not-false t h,
            eq-eqb (length image % l.size) 0 p,
            le-leb 1 (length image / l.size) q,
            le-leb (length image / l.size) (2 ^ 20) r,
            le-leb 1 l.slots n,
          ))
