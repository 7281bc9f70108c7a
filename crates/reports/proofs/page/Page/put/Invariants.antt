use Rattle.std.proofs.Common.{take}
use Rattle.reports.specs.Layout.{Takes}
use Rattle.reports.proofs.page.Page.put.Given as goal

abbrev pub invariant-loop-b : goal.invariant-loop-b
invariant-loop-b l = Takes l.initial.self (take l.b-index l.bytes) l.self
