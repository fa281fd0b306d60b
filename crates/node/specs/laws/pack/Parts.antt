-- Where a run of bytes stands in a block, and the fields that are read there: laws of a block that is put together of parts. Assumes nothing.
use Rattle.std.specs.Prelude.{◌≡◌, List, [], ◌∷◌, ◌++◌, ℕ, ◌+◌, ◌-◌, ◌^◌, ◌≤◌, ◌<◌, length, take, drop}
use Rattle.std.proofs.Common.{sym, ap, subst, ◌∙◌, arith, length-append, take-take, drop-drop}
use Rattle.std.proofs.Math.Seq.{take-length, take-append_seam, drop-append_seam}
use Rattle.seal.specs.Bytes.{window, le, bytes_of, field_at}
use Rattle.seal.specs.laws.WindowLaws.{drop_take}
use Rattle.seal.specs.laws.FieldLaws.{length_bytes_of, le_bytes_of}

-- the run stands in b from index i on
pub record Stands (b : List ℕ) (i : ℕ) (run : List ℕ) : Type 0 where
  pub there : window i (length run) b ≡ run

pub stands_whole : (b : List ℕ) → Stands b 0 b
unfolding window
stands_whole b = record { there = take-length b }

pub stands_as : (b c : List ℕ) → b ≡ c → Stands b 0 c
stands_as b c e = subst (λ (x : List ℕ). Stands b 0 x) e (stands_whole b)

pub stands_left : (b : List ℕ) (i : ℕ) (x y : List ℕ) → Stands b i (x ++ y) → Stands b i x
unfolding window
stands_left b i x y s =
    let h : length x ≤ length (x ++ y) = rw length-append (omega arith) in
    record { there = sym (take-take (length x) (length (x ++ y)) (drop i b) h) ∙ ap (take (length x)) s.there ∙ take-append_seam x y }

pub stands_right : (b : List ℕ) (i : ℕ) (x y : List ℕ) → Stands b i (x ++ y) → Stands b (i + length x) y
unfolding window
stands_right b i x y s =
    let n : ℕ = length (x ++ y) in
    let e : n ≡ length x + length y = length-append x y in
    let h : length x ≤ n = omega arith in
    let d : n - length x ≡ length y = omega arith in
    record {
      there =
          sym (drop_take (length x) n (drop i b) h ∙ ap (λ (k : ℕ). take k (drop (length x) (drop i b))) d
          ∙ ap (take (length y)) (drop-drop (length x) i b))
          ∙ ap (drop (length x)) s.there ∙ drop-append_seam x y;
    }

-- what follows a run of n bytes
pub stands_after : (b : List ℕ) (i n j : ℕ) (x y : List ℕ) → length x ≡ n → i + n ≡ j → Stands b i (x ++ y) → Stands b j y
stands_after b i n j x y e f s = rw (e, f) at (stands_right b i x y s)

pub stands_field : (b : List ℕ) (i n x : ℕ) → Stands b i (bytes_of n x) → x < 256 ^ n → field_at n b i ≡ x
unfolding field_at
stands_field b i n x s h = ap (λ (k : ℕ). le (window i k b)) (sym (length_bytes_of n x)) ∙ ap le s.there ∙ le_bytes_of n x h

-- ---- a table of fields: the width and the value of each

unfoldable pub fields : List (ℕ × ℕ) → List ℕ
fields [] = []
fields (f ∷ fs) = bytes_of f.0 f.1 ++ fields fs

-- each field of the table, the first at i + k, is read as its value if that fits its width
abbrev pub Read : List ℕ → ℕ → ℕ → List (ℕ × ℕ) → Type 0
Read b i k [] = Unit {0}
Read b i k (f ∷ fs) = (f.1 < 256 ^ f.0 → field_at f.0 b (i + k) ≡ f.1) × Read b i (k + f.0) fs

pub table_read : (b : List ℕ) (i k : ℕ) (fs : List (ℕ × ℕ)) → Stands b (i + k) (fields fs) → Read b i k fs
unfolding fields
table_read b i k [] s = tt
table_read b i k (f ∷ fs) s =
    let e : i + k + f.0 ≡ i + (k + f.0) = omega arith in (
      stands_field b (i + k) f.0 f.1 (stands_left b (i + k) (bytes_of f.0 f.1) (fields fs) s),
      table_read b i (k + f.0) fs (stands_after b (i + k) f.0 (i + (k + f.0)) (bytes_of f.0 f.1) (fields fs)
          (length_bytes_of f.0 f.1) e s),
    )
