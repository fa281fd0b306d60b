-- What a `?` hands on: the refusal that it met. Assumes nothing.
use Rattle.std.specs.Prelude.{◌≡◌, Ok, Err}
use Rattle.std.specs.Prelude as std
use Rattle.std.specs.Result.{IsErrAnd}
use Rattle.std.proofs.Math.Path.{ap}
use Rattle.node.specs.declared.refusal.Refusal.{Refusal}

pub handed_on : {T : Type 0} (r : std.Result T Refusal) (x : Refusal) → IsErrAnd r (λ y. y ≡ x) → r ≡ Err x
handed_on (Ok t) x h = absurd h
handed_on (Err y) x h = ap Err h
