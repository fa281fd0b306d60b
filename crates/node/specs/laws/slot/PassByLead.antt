-- Leading records whose keys are below a key by their first eight bytes or their second: a search for it passes them. Assumes nothing.
use Rattle.std.specs.Prelude.{◌≡◌, true, false, ℕ, ◌+◌, ◌-◌, ◌≤◌, ◌<◌, min, length, drop, ltb}
use Rattle.std.proofs.Math.Path.{sym, ap₂}
use Rattle.std.proofs.Common.{ap, ◌∙◌, length-take, drop-drop, take-take}
use mathlib.Core.List.{List}
use native.Mathlib.Omega.{arith}
use Rattle.std.proofs.Math.ListN.{take}
use borrow.Author.Tests.{ltb-true, ltb-false}
use Rattle.seal.specs.Bytes.{u16_at, window}
use Rattle.seal.specs.laws.WindowLaws.{drop_take}
use Rattle.node.specs.Order.{byte, byte_less, less}
use Rattle.node.specs.Records.{record_length, entry_of}
use Rattle.node.specs.laws.base.Tests.{by_test}
use Rattle.node.specs.laws.slot.Records.{record_klen}
use Rattle.node.specs.internal.Lead.{Leads, LeadOf}
use Rattle.node.specs.internal.Sought.{Below}
use Rattle.node.specs.laws.order.Leading.{lead_below, lead_above, lead_same}

-- ---- the key of the record at an offset

-- a list that begins with eight bytes does so too where it is cut off after them
lead_take : (n : ℕ) (l : List ℕ) (x : ℕ) → 8 ≤ n → Leads l x → Leads (take n l) x
lead_take n l x h p =
    let e : take 8 (take n l) ≡ take 8 l = take-take 8 n l h in
    let m : length (take n l) ≡ min n (length l) = length-take n l in
    let q = p.long in
    record {
      long = omega arith;
      bytes = rw e p.bytes;
      spelled = rw e p.spelled;
    }

module _ (l : List ℕ) (at klen : ℕ) (k : klen ≡ u16_at l at) where
  key_is : (entry_of (drop at l)).key ≡ take klen (drop (at + 4) l)
  unfolding entry_of window
  key_is = ap₂ take (record_klen l at ∙ sym k) (drop-drop 4 at l)

  -- its first eight bytes, and its second
  pub key_lead : (x : ℕ) → 8 ≤ klen → Leads (drop (at + 4) l) x → Leads (entry_of (drop at l)).key x
  key_lead x h p = rw key_is (lead_take klen (drop (at + 4) l) x h p)

  pub key_second : (x : ℕ) → 16 ≤ klen → Leads (drop (at + 12) l) x → Leads (drop 8 (entry_of (drop at l)).key) x
  key_second x h p =
      let s : at + 4 + 8 ≡ at + 12 = omega arith in
      let d : drop 8 (drop (at + 4) l) ≡ drop (at + 12) l = drop-drop 8 (at + 4) l ∙ ap (λ (z : ℕ). drop z l) s in
      let e : drop 8 (take klen (drop (at + 4) l)) ≡ take (klen - 8) (drop (at + 12) l)
      = drop_take 8 klen (drop (at + 4) l) (omega arith) ∙ ap (take (klen - 8)) d in
      rw (key_is, e) (lead_take (klen - 8) (drop (at + 12) l) x (omega arith) p)

-- ---- a key below another by what their first eight bytes spell, or their second

bytes_below : (a b : List ℕ) → byte_less a b ≡ true → byte_less b a ≡ false → Below byte a b
unfolding less
bytes_below a b p q = record { below = p; not_above = q }

module _ (k key : List ℕ) (first second x : ℕ) (p : Leads k x) (q : LeadOf key 0 first) (r : LeadOf key 8 second) where
  long_first : 0 < first → Leads key first
  long_first h =
      by_test (ltb (length key) (0 + 8))
      (λ t. let z = q.short (ltb-true (length key) (0 + 8) t) in absurd (omega arith))
      (λ t. q.long (ltb-false (length key) (0 + 8) t))

  pub below_first : x < first → Below byte k key
  below_first h =
      let f : Leads key first = long_first (omega arith) in
      bytes_below k key (lead_below k key x first p f h) (lead_above key k first x f p h)

  -- by the second, where the first are the same
  module _ (y : ℕ) (u : Leads (drop 8 k) y) (e : x ≡ first) (h : y < second) where
    long_second : (16 ≤ length key) × Leads (drop 8 key) second
    long_second =
        by_test (ltb (length key) (8 + 8))
        (λ s. let z = r.short (ltb-true (length key) (8 + 8) s) in absurd (omega arith))
        (λ s. let w = ltb-false (length key) (8 + 8) s in (w, r.long w))

    pub below_second : Below byte k key
    below_second =
        let s : Leads (drop 8 key) second = long_second.1 in
        let f : Leads key first = q.long (let w = long_second.0 in omega arith) in
        bytes_below k key
        (lead_same k key x first p f e ∙ lead_below (drop 8 k) (drop 8 key) y second u s h)
        (lead_same key k first x f p (sym e) ∙ lead_above (drop 8 key) (drop 8 k) second y s u h)

-- ---- the record at an offset, as the code looks at it

module _ (l : List ℕ) (at klen first second : ℕ) (key : List ℕ) (k : klen ≡ u16_at l at) (q : LeadOf key 0 first) (r : LeadOf key 8 second) where
  pub pass_by_first : (x : ℕ) → 8 ≤ klen → Leads (drop (at + 4) l) x → x < first → Below byte (entry_of (drop at l)).key key
  pass_by_first x h p t = below_first (entry_of (drop at l)).key key first second x (key_lead l at klen k x h p) q r t

  pub pass_by_second : (x y : ℕ) → 16 ≤ klen → Leads (drop (at + 4) l) x → x ≡ first → Leads (drop (at + 12) l) y → y < second
      → Below byte (entry_of (drop at l)).key key
  pass_by_second x y h p e u t =
      below_second (entry_of (drop at l)).key key first second x (key_lead l at klen k x (omega arith) p) q r y (key_second l at klen k y h u) e t

pub lead_lies : (l : List ℕ) (at klen : ℕ) → klen ≡ u16_at l at → at + record_length (drop at l) ≤ length l → 8 ≤ klen → at + 4 + 8 ≤ length l
unfolding record_length
lead_lies l at klen k h m = let r = record_klen l at in omega arith

pub second_lies : (l : List ℕ) (at klen : ℕ) → klen ≡ u16_at l at → at + record_length (drop at l) ≤ length l → 16 ≤ klen → at + 12 + 8 ≤ length l
unfolding record_length
second_lies l at klen k h m = let r = record_klen l at in omega arith
