use Rattle.node.specs.laws.order.Leading.{lead_read}
use Rattle.node.specs.laws.base.Bytes.{bytes_known}
use borrow.Author.Rules.{rules}
use Rattle.node.proofs.lead.lead_at.Goals as goal

pub returns : goal.returns
returns c = search (rules, lead_read, bytes_known, c.type_inv.s)
