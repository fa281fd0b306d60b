use Rattle.std.proofs.Common.{rules}
use Rattle.node.specs.laws.slot.Slot.{set_value_used}
use Rattle.node.proofs.slot.set_value.Goals as goal

pub returns-clause-used : goal.returns-clause-used
returns-clause-used c = search (rules, set_value_used)
