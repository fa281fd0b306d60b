-- A node that the load line accepts is a node as slots hold it: its level, its entries and their lengths. Assumes nothing.
use Rattle.std.specs.Prelude.{◌≡◌, refl, List, Bool, true, false, ◌||◌, not, ℕ, zero, suc, ◌+◌, ◌-◌, ◌≤◌, length, eqb}
use Rattle.std.proofs.Common.{ap, ne_eqb}
use Rattle.std.proofs.lemmas.Bool.{eqb-false}
use Rattle.seal.specs.Bytes.{window, u64_at}
use Rattle.node.specs.Result.{Result, ok, ◌>>◌, check}
use Rattle.node.specs.Refusals as refusal
use Rattle.node.specs.Entry.{Entry, ghost, leaf, disk, every}
use Rattle.node.specs.Fit.{flag}
use Rattle.node.specs.Read.{OnDisk, on_disk, parsed, is_fixed, layout_holds, span_at, is_ghost, span_holds, spans_hold, entries_hold, value_at, entry_at, entries_from, keys_hold, read_node}
use Rattle.node.specs.declared.read.Node.{Node}
use Rattle.node.specs.declared.read.Span.{Span}
use Rattle.node.specs.Place.{Place}
use Rattle.node.specs.laws.base.Tests.{by_test, never, and_split, and_both}
use Rattle.node.specs.laws.base.Results.{checked_ok}
use Rattle.node.specs.laws.read.Read.{held_key, held_end, held_no_ghost}
use Rattle.node.specs.laws.read.LoadLine.{is_kind}
use Rattle.seal.specs.laws.WindowLaws.{length_window}
use Rattle.seal.specs.Checksum.{verified}

-- ---- the checks that an accepted node passed

pub record Passed (o : ℕ) (p : Place) (lower upper b : List ℕ) (d : OnDisk) : Type 0 where
  pub read : d ≡ on_disk (parsed p b) b
  pub seal : verified b ≡ true
  pub kind : is_kind (parsed p b) ≡ true
  pub layout : layout_holds p (parsed p b) ≡ true
  pub level : p.root || eqb ((parsed p b).level + 1) p.parent ≡ true
  pub entries : entries_hold p (parsed p b) b ≡ true
  pub keys : keys_hold o p lower upper (entries_from (parsed p b) b 0 (parsed p b).nkeys) ≡ true

pub read_passed : (o : ℕ) (p : Place) (lower upper b : List ℕ) (d : OnDisk) → read_node o p lower upper b ≡ ok d → Passed o p lower upper b d
unfolding read_node
read_passed o p lower upper b d e =
    let v : Node = parsed p b in
    let es : List Entry = entries_from v b 0 v.nkeys in
    let kind : Bool = is_kind v in
    let level : Bool = p.root || eqb (v.level + 1) p.parent in
    let r9 : Result OnDisk = check refusal.keys (keys_hold o p lower upper es) >> ok (on_disk v b) in
    let r8 : Result OnDisk = check refusal.entry (entries_hold p v b) >> r9 in
    let r7 : Result OnDisk = check refusal.level level >> r8 in
    let r6 : Result OnDisk = check refusal.layout (layout_holds p v) >> r7 in
    let r5 : Result OnDisk = check refusal.hashed (not (flag v.flags 8)) >> r6 in
    let (h3, e3) = checked_ok refusal.fletcher (verified b) (check refusal.kind kind >> r5) d e in
    let (h4, e4) = checked_ok refusal.kind kind r5 d e3 in
    let (h5, e5) = checked_ok refusal.hashed (not (flag v.flags 8)) r6 d e4 in
    let (h6, e6) = checked_ok refusal.layout (layout_holds p v) r7 d e5 in
    let (h7, e7) = checked_ok refusal.level level r8 d e6 in
    let (h8, e8) = checked_ok refusal.entry (entries_hold p v b) r9 d e7 in
    let (h9, e9) = checked_ok refusal.keys (keys_hold o p lower upper es) (ok (on_disk v b)) d e8 in
    record { read = cc; seal = h3; kind = h4; layout = h6; level = h7; entries = h8; keys = h9 }

-- ---- its entries

pub entries_length : (v : Node) (b : List ℕ) (i n : ℕ) → length (entries_from v b i n) ≡ n
unfolding entries_from
entries_length v b i zero = refl
entries_length v b i (suc n) = ap suc (entries_length v b (suc i) n)

-- a test that passes on each entry whose span holds passes on every entry
pub entries_every : (t : Entry → Bool) (v : Node) (b : List ℕ)
    → ((i : ℕ) → span_holds v (length b) (span_at v b i) ≡ true → t (entry_at v b i) ≡ true)
    → (i n : ℕ) → spans_hold v b i n ≡ true → every t (entries_from v b i n) ≡ true
unfolding entries_from spans_hold every
entries_every t v b f i zero h = refl
entries_every t v b f i (suc n) h =
    let (p, q) = and_split (span_holds v (length b) (span_at v b i)) (spans_hold v b (suc i) n) h in
    and_both (t (entry_at v b i)) (every t (entries_from v b (suc i) n)) (f i p) (entries_every t v b f (suc i) n q)

-- the parts of a span that holds
pub record Held (v : Node) (size : ℕ) (s : Span) : Type 0 where
  pub key : s.key + s.klen ≤ size
  pub value : is_ghost s ≡ false → v.vals - s.voff + s.vlen ≤ size
  pub child : eqb v.level 0 ≡ false → is_ghost s ≡ false

pub span_held : (v : Node) (size : ℕ) (s : Span) → span_holds v size s ≡ true → Held v size s
unfolding is_ghost
span_held v size s h =
    record {
      key = held_key v size s h;
      value = λ n. held_end v size s h (eqb-false s.voff 0xFFFF n);
      child = λ n. ne_eqb s.voff 0xFFFF (held_no_ghost v size s h (eqb-false v.level 0 n));
    }

-- fixed lengths: the contents give them to every entry
pub span_fixed : (v : Node) (b : List ℕ) (i : ℕ) → is_fixed v ≡ true → ((span_at v b i).klen ≡ v.ksize)
    × (eqb v.level 0 ≡ true → (span_at v b i).vlen ≡ v.vsize)
unfolding span_at
span_fixed v b i f =
    (rw f, λ z. rw (f, z))

-- the length of a key, and the value by cases
pub entry_key : (v : Node) (b : List ℕ) (i : ℕ) → Held v (length b) (span_at v b i) → length (entry_at v b i).key ≡ (span_at v b i).klen
unfolding entry_at
entry_key v b i h = length_window (span_at v b i).key (span_at v b i).klen b h.key

pub by_value {ℓ} : {C : Type ℓ} (v : Node) (b : List ℕ) (i : ℕ) → Held v (length b) (span_at v b i)
    → (eqb v.level 0 ≡ true → (entry_at v b i).value ≡ ghost → C)
    → ((x : List ℕ) → eqb v.level 0 ≡ true → length x ≡ (span_at v b i).vlen → (entry_at v b i).value ≡ leaf x → C)
    → ((r : ℕ) → eqb v.level 0 ≡ false → (entry_at v b i).value ≡ disk r → C)
    → C
unfolding entry_at value_at
by_value v b i h f g k =
    by_test (is_ghost (span_at v b i))
    (λ t. by_test (eqb v.level 0)
    (λ u. f u (rw t))
    (λ u. never t (h.child u)))
    (λ t. by_test (eqb v.level 0)
    (λ u. g (window (v.vals - (span_at v b i).voff) (span_at v b i).vlen b) u
    (length_window (v.vals - (span_at v b i).voff) (span_at v b i).vlen b (h.value t)) (rw (t, u)))
    (λ u. k (u64_at b (v.vals - (span_at v b i).voff)) u (rw (t, u))))
