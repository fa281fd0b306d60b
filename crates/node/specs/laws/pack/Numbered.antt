-- Laws of entries whose children have their numbers: keys, their order, lengths and what fits are as they were. Assumes nothing.
use Rattle.std.specs.Prelude.{◌≡◌, Bool}
use Rattle.std.proofs.Math.Path.{refl, ap, ap₂}
use mathlib.Core.List.{List, [], ◌∷◌, map}
use Rattle.std.proofs.Math.Bool.{◌&&◌}
use Prim.Native.Nat.{ℕ, zero, suc, ◌+◌}
use Rattle.std.proofs.Math.ListN.{length}
use Rattle.std.proofs.lemmas.List.{length-map}
use Rattle.node.specs.Order.{keyed, less}
use Rattle.node.specs.Entry.{Entry, Val, ghost, leaf, disk, mem, value_length, rise_after, rising, every}
use Rattle.node.specs.Find.{key_at}
use Rattle.node.specs.Fit.{padded, keys_length, values_length, room_of, fits}
use Rattle.node.specs.Cut.{entry_size, size}
use Rattle.node.specs.Read.{in_bounds, keys_rise, keys_within, keys_hold}
use Rattle.node.specs.Slot.{is_child, suit, suits, key_length_holds, value_holds, entry_holds}
use Rattle.node.specs.Pack.{numbered_value, numbered}
use Rattle.node.specs.declared.info.BTreeInfo.{BTreeInfo}
use Rattle.node.specs.Place.{Place}

pub length_numbered : (f : ℕ → ℕ) (v : Val) → value_length (numbered_value f v) ≡ value_length v
unfolding value_length numbered_value
length_numbered f ghost = refl
length_numbered f (leaf v) = refl
length_numbered f (disk r) = refl
length_numbered f (mem s) = refl

pub child_numbered : (f : ℕ → ℕ) (v : Val) → is_child (numbered_value f v) ≡ is_child v
unfolding is_child numbered_value
child_numbered f ghost = refl
child_numbered f (leaf v) = refl
child_numbered f (disk r) = refl
child_numbered f (mem s) = refl

value_numbered : (t : BTreeInfo) (f : ℕ → ℕ) (v : Val) → value_holds t (numbered_value f v) ≡ value_holds t v
unfolding value_holds numbered_value
value_numbered t f ghost = refl
value_numbered t f (leaf v) = refl
value_numbered t f (disk r) = refl
value_numbered t f (mem s) = refl

-- a test that sees no difference
every_map : (t : Entry → Bool) (g : Entry → Entry) → ((e : Entry) → t (g e) ≡ t e) → (es : List Entry) → every t (map g es) ≡ every t es
unfolding every
every_map t g h [] = refl
every_map t g h (e ∷ es) = ap₂ ◌&&◌ (h e) (every_map t g h es)

module _ (f : ℕ → ℕ) where
  pub numbered_length : (es : List Entry) → length (map (numbered f) es) ≡ length es
  numbered_length es = length-map es (numbered f)

  pub numbered_key : (es : List Entry) (i : ℕ) → key_at (map (numbered f) es) i ≡ key_at es i
  unfolding key_at numbered
  numbered_key [] i = refl
  numbered_key (e ∷ es) zero = refl
  numbered_key (e ∷ es) (suc i) = numbered_key es i

  after_numbered : (o : ℕ) (k : List ℕ) (es : List Entry) → rise_after o k (map (numbered f) es) ≡ rise_after o k es
  unfolding rise_after numbered
  after_numbered o k [] = refl
  after_numbered o k (e ∷ es) = ap (λ (x : Bool). less o k e.key && x) (after_numbered o e.key es)

  pub numbered_rising : (o : ℕ) (es : List Entry) → rising o (map (numbered f) es) ≡ rising o es
  unfolding rising numbered
  numbered_rising o [] = refl
  numbered_rising o (e ∷ es) = after_numbered o e.key es

  -- a test of keys
  pub numbered_keys : (t : List ℕ → Bool) (es : List Entry) → every (λ e. t e.key) (map (numbered f) es) ≡ every (λ e. t e.key) es
  unfolding numbered
  numbered_keys t es = every_map (λ e. t e.key) (numbered f) (λ e. refl) es

  pub numbered_rise : (o : ℕ) (es : List Entry) → keys_rise o (map (numbered f) es) ≡ keys_rise o es
  unfolding keys_rise
  numbered_rise o es = ap₂ ◌&&◌ (numbered_keys (keyed o) es) (numbered_rising o es)

  pub numbered_within : (o : ℕ) (p : Place) (lower upper : List ℕ) (es : List Entry) → keys_within o p lower upper (map (numbered f) es)
      ≡ keys_within o p lower upper es
  unfolding keys_within
  numbered_within o p lower upper es = numbered_keys (in_bounds o p lower upper) es

  pub numbered_hold : (o : ℕ) (p : Place) (lower upper : List ℕ) (es : List Entry) → keys_hold o p lower upper (map (numbered f) es)
      ≡ keys_hold o p lower upper es
  unfolding keys_hold
  numbered_hold o p lower upper es = ap₂ ◌&&◌ (numbered_rise o es) (numbered_within o p lower upper es)

  suit_numbered : (isLeaf : Bool) (e : Entry) → suit isLeaf (numbered f e) ≡ suit isLeaf e
  unfolding suit numbered
  suit_numbered isLeaf e = rw (child_numbered f e.value)

  pub numbered_suits : (isLeaf : Bool) (es : List Entry) → suits isLeaf (map (numbered f) es) ≡ suits isLeaf es
  unfolding suits
  numbered_suits isLeaf es = every_map (suit isLeaf) (numbered f) (suit_numbered isLeaf) es

  holds_numbered : (o : ℕ) (t : BTreeInfo) (isLeaf : Bool) (e : Entry) → entry_holds o t isLeaf (numbered f e) ≡ entry_holds o t isLeaf e
  unfolding entry_holds numbered
  holds_numbered o t isLeaf e =
      ap₂ (λ (x y : Bool). key_length_holds o t (length e.key) && x && y) (value_numbered t f e.value) (suit_numbered isLeaf e)

  pub numbered_holds : (o : ℕ) (t : BTreeInfo) (isLeaf : Bool) (es : List Entry) → every (entry_holds o t isLeaf) (map (numbered f) es) ≡ every
      (entry_holds o t isLeaf) es
  numbered_holds o t isLeaf es = every_map (entry_holds o t isLeaf) (numbered f) (holds_numbered o t isLeaf) es

  -- ---- what they take

  pub keys_numbered : (t : BTreeInfo) (es : List Entry) → keys_length t (map (numbered f) es) ≡ keys_length t es
  unfolding keys_length numbered
  keys_numbered t [] = refl
  keys_numbered t (e ∷ es) = ap (λ (x : ℕ). padded t (length e.key) + x) (keys_numbered t es)

  pub values_numbered : (t : BTreeInfo) (es : List Entry) → values_length t (map (numbered f) es) ≡ values_length t es
  unfolding values_length numbered
  values_numbered t [] = refl
  values_numbered t (e ∷ es) = ap₂ (λ (x y : ℕ). padded t x + y) (length_numbered f e.value) (values_numbered t es)

  pub fits_numbered : (t : BTreeInfo) (root : Bool) (level : ℕ) (es : List Entry) → fits t root level (map (numbered f) es) ≡ fits t root level es
  unfolding fits room_of
  fits_numbered t root level es = rw (length-map, keys_numbered, values_numbered)

  pub size_numbered : (es : List Entry) → size (map (numbered f) es) ≡ size es
  unfolding size entry_size numbered
  size_numbered [] = refl
  size_numbered (e ∷ es) = ap₂ (λ (x y : ℕ). length e.key + x + 8 + y) (length_numbered f e.value) (size_numbered es)
