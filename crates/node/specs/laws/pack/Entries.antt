-- Laws of packing: what one entry after another writes into a cleared block is the block as a list. Assumes nothing.
use Rattle.std.specs.Prelude.{◌≡◌, drop, replicate}
use Rattle.std.proofs.Math.Path.{refl, sym, ap, ap₂}
use Rattle.std.proofs.Common.{◌∙◌, take_at, drop_at}
use mathlib.Core.List.{List, [], ◌∷◌, ◌++◌, append_assoc, append-nil}
use Prim.Native.Nat.{ℕ, suc, ◌+◌, ◌-◌, ◌*◌, ◌≤◌}
use Rattle.std.proofs.Math.Nat.{sub-zero, suc-mul, zero-mul}
use native.Mathlib.Omega.{arith}
use Rattle.std.proofs.Math.ListN.{length, length-append}
use Rattle.std.proofs.lemmas.List.{length-replicate, replicate-append-replicate}
use Rattle.std.proofs.Math.Seq.{drop-append-add}
use Rattle.seal.specs.Bytes.{splice}
use Rattle.node.specs.Entry.{Entry, value_length, value_bytes}
use Rattle.node.specs.Fit.{padded, slot_width, keys_length, values_length}
use Rattle.node.specs.Pack.{pad_to, toc_entry, toc, key_area, value_area}
use Rattle.node.specs.laws.fit.Fit.{padded_least}
use Rattle.node.specs.laws.slot.Records.{length_value_bytes}
use Rattle.node.specs.laws.pack.Layout.{length_pad_to, length_toc_entry}
use Rattle.node.specs.internal.PackSteps.{put_entry, put_entries}
use Rattle.node.specs.declared.info.BTreeInfo.{BTreeInfo}

abbrev pub zeros : ℕ → List ℕ
zeros n = replicate n 0

pub length_zeros : (n : ℕ) → length (zeros n) ≡ n
length_zeros n = length-replicate n 0

pub zeros_add : (n m k : ℕ) → n + m ≡ k → zeros k ≡ zeros n ++ zeros m
zeros_add n m k e = sym (replicate-append-replicate n m 0 ∙ ap zeros e)

-- ---- a run stored in zeros

-- the first of what stands after a prefix is replaced
pub splice_after : (p x q vs : List ℕ) (i : ℕ) → length p ≡ i → length vs ≡ length x → splice (p ++ (x ++ q)) i vs ≡ p ++ (vs ++ q)
unfolding splice
splice_after p x q vs i e n =
    let d : drop (i + length vs) (p ++ (x ++ q)) ≡ q =
    ap₂ (λ (j k : ℕ). drop (j + k) (p ++ (x ++ q))) (sym e) n ∙ drop-append-add p (x ++ q) (length x) ∙ drop_at x q (length x) refl in
    ap₂ (λ (j k : List ℕ). j ++ vs ++ k) (take_at p (x ++ q) i e) d ∙ append_assoc p vs q

pub splice_zeros : (p q vs : List ℕ) (k i : ℕ) → length p ≡ i → length vs ≤ k
    → splice (p ++ (zeros k ++ q)) i vs ≡ p ++ (vs ++ (zeros (k - length vs) ++ q))
splice_zeros p q vs k i e n =
    let j : ℕ = length vs in
    let s : zeros k ≡ zeros j ++ zeros (k - j) = zeros_add j (k - j) k (omega arith) in
    ap (λ (x : List ℕ). splice (p ++ x) i vs) (ap (λ (x : List ℕ). x ++ q) s ∙ append_assoc (zeros j) (zeros (k - j)) q)
    ∙ splice_after p (zeros j) (zeros (k - j) ++ q) vs i e (sym (length_zeros j))

-- the last r of a gap take a run and its padding
pub splice_zeros_end : (p q vs : List ℕ) (k r i : ℕ) → length p + (k - r) ≡ i → r ≤ k → length vs ≤ r
    → splice (p ++ (zeros k ++ q)) i vs ≡ p ++ (zeros (k - r) ++ (pad_to r vs ++ q))
unfolding pad_to
splice_zeros_end p q vs k r i e le n =
    let s : zeros k ≡ zeros (k - r) ++ zeros r = zeros_add (k - r) r k (omega arith) in
    let l : length (p ++ zeros (k - r)) ≡ i = length-append p (zeros (k - r)) ∙ ap (λ (x : ℕ). length p + x) (length_zeros (k - r)) ∙ e in
    ap (λ (x : List ℕ). splice (p ++ x) i vs) (ap (λ (x : List ℕ). x ++ q) s ∙ append_assoc (zeros (k - r)) (zeros r) q)
    ∙ ap (λ (x : List ℕ). splice x i vs) (sym (append_assoc p (zeros (k - r)) (zeros r ++ q)))
    ∙ splice_zeros (p ++ zeros (k - r)) q vs r i l n
    ∙ append_assoc p (zeros (k - r)) (vs ++ (zeros (r - length vs) ++ q))
    ∙ ap (λ (x : List ℕ). p ++ (zeros (k - r) ++ x)) (sym (append_assoc vs (zeros (r - length vs)) q))

-- the first r of a gap take a run and its padding
pub splice_zeros_start : (p q vs : List ℕ) (k r i : ℕ) → length p ≡ i → r ≤ k → length vs ≤ r
    → splice (p ++ (zeros k ++ q)) i vs ≡ p ++ (pad_to r vs ++ (zeros (k - r) ++ q))
unfolding pad_to
splice_zeros_start p q vs k r i e le n =
    let v : ℕ = length vs in
    let s : zeros (k - v) ≡ zeros (r - v) ++ zeros (k - r) = zeros_add (r - v) (k - r) (k - v) (omega arith) in
    splice_zeros p q vs k i e (omega arith)
    ∙ ap (λ (x : List ℕ). p ++ (vs ++ x)) (ap (λ (x : List ℕ). x ++ q) s ∙ append_assoc (zeros (r - v)) (zeros (k - r)) q)
    ∙ ap (λ (x : List ℕ). p ++ x) (sym (append_assoc vs (zeros (r - v)) (zeros (k - r) ++ q)))

-- ---- a block with two gaps: after the contents, and between keys and values

unfoldable pub laid : List ℕ → ℕ → List ℕ → ℕ → List ℕ → List ℕ
laid p a k m v = p ++ (zeros a ++ (k ++ (zeros m ++ v)))

module _ (t : BTreeInfo) (keys vals : ℕ) where
  -- one entry goes into the gaps
  pub put_entry_lem : (p : List ℕ) (a : ℕ) (k : List ℕ) (m : ℕ) (v : List ℕ) (ix ko vo vo' pk pv : ℕ) (e : Entry)
      → length p ≡ ix → length k ≡ ko → pk ≡ padded t (length e.key) → pv ≡ padded t (value_length e.value) → vo' ≡ vo + pv
      → ix + a ≡ keys → keys + ko + m + vo ≡ vals → pk + pv ≤ m → slot_width t ≤ a
      → put_entry t keys vals ix ko vo' e (laid p a k m v)
      ≡ laid (p ++ toc_entry t ko vo' e) (a - slot_width t) (k ++ pad_to pk e.key) (m - (pk + pv)) (pad_to pv (value_bytes e.value) ++ v)
  unfolding put_entry laid pad_to
  put_entry_lem p a k m v ix ko vo vo' pk pv e lp lk hk hv hv' ha hm hp hw =
      let x : List ℕ = e.key in
      let y : List ℕ = value_bytes e.value in
      let z : List ℕ = toc_entry t ko vo' e in
      let w : ℕ = slot_width t in
      let lx : length x ≤ pk = omega (arith, padded_least t (length x)) in
      let ly : length y ≤ pv = omega (arith, padded_least t (value_length e.value), length_value_bytes e.value) in
      let lz : length z ≡ w = length_toc_entry t ko vo' e in
      let p1 : List ℕ = p ++ (zeros a ++ k) in
      let l1 : length p1 ≡ keys + ko = length-append p (zeros a ++ k) ∙ ap (λ (n : ℕ). length p + n) (length-append (zeros a) k)
      ∙ omega (arith, length_zeros a) in
      let g1 : (q : List ℕ) → p ++ (zeros a ++ (k ++ q)) ≡ p1 ++ q = λ q. simp append_assoc in
      let p2 : List ℕ = p1 ++ pad_to pk x in
      let l2 : length p2 + (m - pk - pv) ≡ vals - vo' = omega (arith, length-append p1 (pad_to pk x), length_pad_to pk x lx) in
      let s1 : splice (p1 ++ (zeros m ++ v)) (keys + ko) x ≡ p1 ++ (pad_to pk x ++ (zeros (m - pk) ++ v)) = splice_zeros_start p1 v x m pk
      (keys + ko) l1 (omega arith) lx in
      let s2 : splice (p2 ++ (zeros (m - pk) ++ v)) (vals - vo') y ≡ p2 ++ (zeros (m - pk - pv) ++ (pad_to pv y ++ v)) = splice_zeros_end p2 v y
      (m - pk) pv (vals - vo') l2 (omega arith) ly in
      let r : List ℕ = (k ++ pad_to pk x) ++ (zeros (m - (pk + pv)) ++ (pad_to pv y ++ v)) in
      let n2 : m - pk - pv ≡ m - (pk + pv) = omega arith in
      let g2 : p2 ++ (zeros (m - pk - pv) ++ (pad_to pv y ++ v)) ≡ p ++ (zeros a ++ r) = rw n2 (simp append_assoc) in
      let s3 : splice (p ++ (zeros a ++ r)) ix z ≡ p ++ (z ++ (zeros (a - length z) ++ r)) = splice_zeros p r z a ix lp (omega arith) in
      ap (λ (q : List ℕ). splice (splice (splice q (keys + ko) x) (vals - vo') y) ix z) (g1 (zeros m ++ v))
      ∙ ap (λ (q : List ℕ). splice (splice q (vals - vo') y) ix z) (s1 ∙ sym (append_assoc p1 (pad_to pk x) (zeros (m - pk) ++ v)))
      ∙ ap (λ (q : List ℕ). splice q ix z) (s2 ∙ g2)
      ∙ s3
      ∙ ap (λ (n : ℕ). p ++ (z ++ (zeros (a - n) ++ r))) lz
      ∙ sym (append_assoc p z (zeros (a - w) ++ r))

  -- all entries
  pub put_entries_lem : (es : List Entry) (p : List ℕ) (a : ℕ) (k : List ℕ) (m : ℕ) (v : List ℕ) (ix ko vo : ℕ)
      → length p ≡ ix → length k ≡ ko → ix + a ≡ keys → keys + ko + m + vo ≡ vals
      → keys_length t es + values_length t es ≤ m → length es * slot_width t ≤ a
      → put_entries t keys vals ix ko vo es (laid p a k m v)
      ≡ laid (p ++ toc t ko vo es) (a - length es * slot_width t) (k ++ key_area t es) (m - (keys_length t es + values_length t es))
      (value_area t es ++ v)
  unfolding put_entries toc key_area value_area keys_length values_length
  put_entries_lem [] p a k m v ix ko vo lp lk ha hm hp hw = rw (append-nil p, append-nil k, zero-mul, sub-zero a, sub-zero m)
  put_entries_lem (e ∷ es) p a k m v ix ko vo lp lk ha hm hp hw =
      let pk : ℕ = padded t (length e.key) in
      let pv : ℕ = padded t (value_length e.value) in
      let vo' : ℕ = vo + pv in
      let w : ℕ = slot_width t in
      let z : List ℕ = toc_entry t ko vo' e in
      let x : List ℕ = pad_to pk e.key in
      let y : List ℕ = pad_to pv (value_bytes e.value) in
      let lx : length x ≡ pk = length_pad_to pk e.key (padded_least t (length e.key)) in
      let lp' : length (p ++ z) ≡ ix + w = omega (arith, length-append p z, length_toc_entry t ko vo' e) in
      let lk' : length (k ++ x) ≡ ko + pk = omega (arith, length-append k x) in
      let sw : suc (length es) * w ≡ length es * w + w = suc-mul (length es) w in
      let n1 : a - w - length es * w ≡ a - suc (length es) * w = omega arith in
      let n2 : m - (pk + pv) - (keys_length t es + values_length t es) ≡ m - (pk + keys_length t es + (pv + values_length t es)) = omega arith in
      ap (put_entries t keys vals (ix + w) (ko + pk) vo' es)
      (put_entry_lem p a k m v ix ko vo vo' pk pv e lp lk refl refl refl ha hm (omega arith) (omega arith))
      ∙ put_entries_lem es (p ++ z) (a - w) (k ++ x) (m - (pk + pv)) (y ++ v) (ix + w) (ko + pk) vo' lp' lk' (omega arith) (omega arith) (omega arith)
      (omega arith)
      ∙ ap₂ (λ (i j : ℕ). laid ((p ++ z) ++ toc t (ko + pk) vo' es) i ((k ++ x) ++ key_area t es) j (value_area t es ++ (y ++ v))) n1 n2
      ∙ rw (append_assoc p z, append_assoc k x, append_assoc (value_area t es) y v)
