use mathlib.Core.Path.{◌≡◌, refl}
use Prim.Native.Nat.{◌+◌, ◌-◌, ◌*◌}
use native.Mathlib.Omega.{arith}
use Rattle.tree.specs.laws.slots.OneSlot.{adopt_put}
use borrow.Author.Rules.{rules}
use Rattle.tree.proofs.bank.adopt_into.Goals as goal

pub returns : goal.returns
returns c =
    let a = c.args in
    let p = c.requires in
    let k = a.c * (4 * a.size) + 4 * a.size - a.c * (4 * a.size) in
    let ek : k ≡ 4 * a.size = omega arith in
    adopt_put _ _ _ _ _ _ _ _ _ _ _ _ k ek c.args.read.bytes p.room.0 c.args.read.sound p.few p.room.3 p.room.4 c.adopt-used.ensures.bytes.0 c.adopt-used.ensures.bytes.1 _ c.head_of-h.ensures (search rules) refl c.store.ensures
