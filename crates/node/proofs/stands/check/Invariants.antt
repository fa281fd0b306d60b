use Rattle.node.specs.Entry.{rising}
use Rattle.node.specs.Records.{entries_of}
use Rattle.node.specs.internal.SlotSteps.{Checking}
use Rattle.node.specs.laws.order.Rising.{Rises}
use lib.ListN.{drop}
use Rattle.node.proofs.stands.check.Given as goal

abbrev pub invariant-loop : goal.invariant-loop
invariant-loop l =
    Checking l.order.code l.info l.leaf l.n l.slot l.counter l.s
    × Rises l.order.code (λ k. k.now) l.last (drop l.counter (entries_of l.n l.slot)) (rising l.order.code (entries_of l.n l.slot))
