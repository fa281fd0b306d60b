-- Laws of the object header: what is written is read again. Assumes nothing.
use Rattle.std.specs.Prelude.{◌≡◌, refl, List, ◌++◌, ℕ, ◌+◌, ◌*◌, ◌/◌, ◌%◌, ◌^◌, ◌≤◌, length, bit_and}
use Rattle.std.specs.Int.Bits.{and_zero_r}
use Rattle.std.proofs.lemmas.Nat.{and_mask, and_block, shr_split}
use Rattle.std.proofs.Common.{sym, ap, ◌∙◌, arith, length-append}
use Rattle.seal.specs.Bytes.{splice, bytes_of, field_at, u64_at}
use Rattle.seal.specs.laws.WindowLaws.{length_splice, splice_run}
use Rattle.seal.specs.laws.FieldLaws.{length_bytes_of, field_same, field_before}
use Rattle.seal.specs.Obj.{header_at, header_bytes, Fits, kind_of, storage_of}
use Rattle.seal.specs.declared.obj.ObjHeader.{ObjHeader}

-- the masks of a type's parts
pub kind_masked : (t : ℕ) → bit_and t 0xFFFF ≡ kind_of t
kind_masked t = and_mask t 16

pub storage_masked : (t : ℕ) → bit_and t 0xC0000000 ≡ storage_of t
storage_masked t =
    let a : ℕ = t / 2 ^ 30 in
    let r : ℕ = t % 2 ^ 30 in
    let e : a * 2 ^ 30 + r ≡ t = shr_split t 30 in
    let b : bit_and (a * 2 ^ 30 + r) 0xC0000000 ≡ bit_and a 3 * 2 ^ 30 + bit_and r 0 = and_block 30 a 3 r 0 (omega arith) (omega arith) in
    let m : bit_and a 3 ≡ a % 4 = and_mask a 2 in
    let z : bit_and r 0 ≡ 0 = and_zero_r r in
    rw e at b ∙ rw (m, z) (omega arith)

-- four fields, one after the other, are the header's bytes
pub write_law : (l l₁ l₂ l₃ l₄ : List ℕ) (h : ObjHeader) → 32 ≤ length l → l₁ ≡ splice l 8 (bytes_of 8 h.oid)
    → l₂ ≡ splice l₁ 16 (bytes_of 8 h.xid)
    → l₃ ≡ splice l₂ 24 (bytes_of 4 h.obj_type) → l₄ ≡ splice l₃ 28 (bytes_of 4 h.subtype) → l₄ ≡ splice l 8 (header_bytes h)
unfolding header_bytes
write_law l l₁ l₂ l₃ l₄ h n p q r s =
    let o : List ℕ = bytes_of 8 h.oid in
    let x : List ℕ = bytes_of 8 h.xid in
    let t : List ℕ = bytes_of 4 h.obj_type in
    let u : List ℕ = bytes_of 4 h.subtype in
    let lo : length o ≡ 8 = length_bytes_of 8 h.oid in
    let lx : length x ≡ 8 = length_bytes_of 8 h.xid in
    let lt : length t ≡ 4 = length_bytes_of 4 h.obj_type in
    let lu : length u ≡ 4 = length_bytes_of 4 h.subtype in
    let lox : length (o ++ x) ≡ 16 = simp length-append (omega arith) in
    let loxt : length (o ++ x ++ t) ≡ 20 = simp length-append (omega arith) in
    let a : l₂ ≡ splice l 8 (o ++ x) = splice_run l l₁ l₂ 8 o 16 x (omega arith) (omega arith) p q in
    let b : l₃ ≡ splice l 8 (o ++ x ++ t) = splice_run l l₂ l₃ 8 (o ++ x) 24 t (omega arith) (omega arith) a r in
    splice_run l l₃ l₄ 8 (o ++ x ++ t) 28 u (omega arith) (omega arith) b s

-- the header read from an object after one was written is that one, with the checksum that was there
pub read_written : (l : List ℕ) (h : ObjHeader) → 32 ≤ length l → Fits h
    → header_at (splice l 8 (header_bytes h)) ≡ record {
      cksum = u64_at l 0;
      oid = h.oid;
      xid = h.xid;
      obj_type = h.obj_type;
      subtype = h.subtype;
    }
read_written l h n f =
    let o : List ℕ = bytes_of 8 h.oid in
    let x : List ℕ = bytes_of 8 h.xid in
    let t : List ℕ = bytes_of 4 h.obj_type in
    let u : List ℕ = bytes_of 4 h.subtype in
    let lo : length o ≡ 8 = length_bytes_of 8 h.oid in
    let lx : length x ≡ 8 = length_bytes_of 8 h.xid in
    let lt : length t ≡ 4 = length_bytes_of 4 h.obj_type in
    let lu : length u ≡ 4 = length_bytes_of 4 h.subtype in
    let l₁ : List ℕ = splice l 8 o in
    let l₂ : List ℕ = splice l₁ 16 x in
    let l₃ : List ℕ = splice l₂ 24 t in
    let l₄ : List ℕ = splice l₃ 28 u in
    let n₁ : length l₁ ≡ length l = length_splice l 8 o (omega arith) in
    let n₂ : length l₂ ≡ length l₁ = length_splice l₁ 16 x (omega arith) in
    let n₃ : length l₃ ≡ length l₂ = length_splice l₂ 24 t (omega arith) in
    let e : l₄ ≡ splice l 8 (header_bytes h) = write_law l l₁ l₂ l₃ l₄ h n refl refl refl refl in
    let c : field_at 8 l₄ 0 ≡ field_at 8 l 0 =
    field_before 8 l₃ 28 u 0 (omega arith) (omega arith) ∙ field_before 8 l₂ 24 t 0 (omega arith) (omega arith)
    ∙ field_before 8 l₁ 16 x 0 (omega arith) (omega arith) ∙ field_before 8 l 8 o 0 (omega arith) (omega arith) in
    let p : field_at 8 l₄ 8 ≡ h.oid =
    field_before 8 l₃ 28 u 8 (omega arith) (omega arith) ∙ field_before 8 l₂ 24 t 8 (omega arith) (omega arith)
    ∙ field_before 8 l₁ 16 x 8 (omega arith) (omega arith) ∙ field_same 8 l 8 h.oid (omega arith) f.oid in
    let q : field_at 8 l₄ 16 ≡ h.xid =
    field_before 8 l₃ 28 u 16 (omega arith) (omega arith) ∙ field_before 8 l₂ 24 t 16 (omega arith) (omega arith)
    ∙ field_same 8 l₁ 16 h.xid (omega arith) f.xid in
    let r : field_at 4 l₄ 24 ≡ h.obj_type =
    field_before 4 l₃ 28 u 24 (omega arith) (omega arith) ∙ field_same 4 l₂ 24 h.obj_type (omega arith) f.obj_type in
    let s : field_at 4 l₄ 28 ≡ h.subtype = field_same 4 l₃ 28 h.subtype (omega arith) f.subtype in
    ap header_at (sym e) ∙ rw (c, p, q, r, s)
