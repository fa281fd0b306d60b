-- What refusal 1 grants of numbers: the block size, the image's length, the tree's numbers. Assumes nothing.
use Rattle.std.specs.Prelude.{◌≡◌, refl, Bool, true, cond, ◌&&◌, ◌||◌, ℕ, ◌*◌, ◌%◌, ◌^◌, ◌≤◌, ◌<◌, length, leb, ltb, eqb}
use Rattle.std.proofs.Math.Nat.{div-add-mod'}
use Rattle.std.proofs.Common.{arith, eqb-true, leb-true, ltb-true}
use Rattle.node.specs.Order.{known}
use Rattle.node.specs.declared.info.BTreeInfo.{BTreeInfo}
use Rattle.node.specs.laws.base.Tests.{by_test, or_right, and_split}
use Rattle.tree.specs.Lent.{Lent, is_size, blocks, sizes_hold}
use Rattle.tree.specs.State.{State}
use Rattle.tree.specs.Hold.{hold_together, info_holds, numbers_hold, lent_holds}

pub record Size (n : ℕ) : Type 0 where
  pub least : 512 ≤ n
  pub most : n ≤ 65536
  pub words : n % 4 ≡ 0

size_one : (n k : ℕ) (t : Bool) → Size k → (t ≡ true → Size n) → t || eqb n k ≡ true → Size n
size_one n k t s f h = by_test t f (λ u. let e : n ≡ k = eqb-true n k (or_right t (eqb n k) u h) in rw e s)

pub size_sized : (n : ℕ) → is_size n ≡ true → Size n
unfolding is_size
size_sized n =
    size_one n 65536 _ (record { least = omega arith; most = omega arith; words = refl })
    (size_one n 32768 _ (record { least = omega arith; most = omega arith; words = refl })
    (size_one n 16384 _ (record { least = omega arith; most = omega arith; words = refl })
    (size_one n 8192 _ (record { least = omega arith; most = omega arith; words = refl })
    (size_one n 4096 _ (record { least = omega arith; most = omega arith; words = refl })
    (size_one n 2048 _ (record { least = omega arith; most = omega arith; words = refl })
    (size_one n 1024 _ (record { least = omega arith; most = omega arith; words = refl })
    (λ t. let e : n ≡ 512 = eqb-true n 512 t in rw e (record { least = omega arith; most = omega arith; words = refl }))))))))

pub record Numbers (l : Lent) (s : State) : Type 0 where
  pub size : Size l.size
  pub long : length l.image ≡ blocks l * l.size
  pub few : blocks l ≤ 2 ^ 20
  pub node : s.info.node_size ≡ l.size
  pub order : known s.order ≡ true
  pub map : length l.map ≡ cond s.virtual 1 0
  pub flags : s.info.flags < 2 ^ 32
  pub key : s.info.key_size < 2 ^ 32
  pub val : s.info.val_size < 2 ^ 32
  pub longest_key : s.info.longest_key < 2 ^ 32
  pub longest_val : s.info.longest_val < 2 ^ 32
  pub sizes : sizes_hold l ≡ true

record Info (t : BTreeInfo) : Type 0 where
  flags : t.flags < 2 ^ 32
  key : t.key_size < 2 ^ 32
  val : t.val_size < 2 ^ 32
  longest_key : t.longest_key < 2 ^ 32
  longest_val : t.longest_val < 2 ^ 32

info_parts : (t : BTreeInfo) → info_holds t ≡ true → Info t
unfolding info_holds
info_parts t h =
    let (h4, e) = and_split (ltb t.flags (2 ^ 32) && ltb t.key_size (2 ^ 32) && ltb t.val_size (2 ^ 32) && ltb t.longest_key
    (2 ^ 32)) (ltb t.longest_val (2 ^ 32)) h in
    let (h3, d) = and_split (ltb t.flags (2 ^ 32) && ltb t.key_size (2 ^ 32) && ltb t.val_size (2 ^ 32))
    (ltb t.longest_key (2 ^ 32)) h4 in
    let (h2, c) = and_split (ltb t.flags (2 ^ 32) && ltb t.key_size (2 ^ 32)) (ltb t.val_size (2 ^ 32)) h3 in
    let (a, b) = and_split (ltb t.flags (2 ^ 32)) (ltb t.key_size (2 ^ 32)) h2 in
    record { flags = ltb-true _ _ a; key = ltb-true _ _ b; val = ltb-true _ _ c; longest_key = ltb-true _ _ d; longest_val = ltb-true _ _ e }

record Sizes (l : Lent) : Type 0 where
  size : Size l.size
  long : length l.image ≡ blocks l * l.size
  few : blocks l ≤ 2 ^ 20

sizes_parts : (l : Lent) → sizes_hold l ≡ true → Sizes l
unfolding sizes_hold
sizes_parts l h =
    let (h5, f) = and_split (is_size l.size && eqb (length l.image % l.size) 0 && leb 1 (blocks l) && leb (blocks l) (2 ^ 20) && leb 1
    l.slots) (leb l.slots 4096) h in
    let (h4, e) = and_split (is_size l.size && eqb (length l.image % l.size) 0 && leb 1 (blocks l) && leb (blocks l) (2 ^ 20))
    (leb 1 l.slots) h5 in
    let (h3, d) = and_split (is_size l.size && eqb (length l.image % l.size) 0 && leb 1 (blocks l)) (leb (blocks l) (2 ^ 20)) h4 in
    let (h2, c) = and_split (is_size l.size && eqb (length l.image % l.size) 0) (leb 1 (blocks l)) h3 in
    let (a, b) = and_split (is_size l.size) (eqb (length l.image % l.size) 0) h2 in
    record { size = size_sized l.size a; long = whole (eqb-true _ 0 b); few = leb-true _ _ d }
  where
    whole : length l.image % l.size ≡ 0 → length l.image ≡ blocks l * l.size
    whole z = unfold blocks in (let h = div-add-mod' (length l.image) l.size in omega arith)

pub numbers : (l : Lent) (s : State) → lent_holds l s ≡ true → Numbers l s
unfolding lent_holds numbers_hold
numbers l s h =
    let (n, z) = and_split (sizes_hold l && eqb s.info.node_size l.size && known s.order && info_holds s.info && eqb (length l.map)
    (cond s.virtual 1 0) && leb (length s.nodes) l.slots) (hold_together s) h in
    let (h5, f) = and_split (sizes_hold l && eqb s.info.node_size l.size && known s.order && info_holds s.info && eqb (length l.map)
    (cond s.virtual 1 0)) (leb (length s.nodes) l.slots) n in
    let (h4, e) = and_split (sizes_hold l && eqb s.info.node_size l.size && known s.order && info_holds s.info)
    (eqb (length l.map) (cond s.virtual 1 0)) h5 in
    let (h3, d) = and_split (sizes_hold l && eqb s.info.node_size l.size && known s.order) (info_holds s.info) h4 in
    let (h2, c) = and_split (sizes_hold l && eqb s.info.node_size l.size) (known s.order) h3 in
    let (a, b) = and_split (sizes_hold l) (eqb s.info.node_size l.size) h2 in
    let i = info_parts s.info d in
    let k = sizes_parts l a in
    record {
      size = k.size;
      long = k.long;
      few = k.few;
      node = eqb-true _ _ b;
      order = c;
      map = eqb-true _ _ e;
      flags = i.flags;
      key = i.key;
      val = i.val;
      longest_key = i.longest_key;
      longest_val = i.longest_val;
      sizes = a;
    }
