use Rattle.reports.proofs.Laying.{then, takes_as}
use Rattle.reports.proofs.page.Page.put_row.Goals as goal

pub returns-clause-takes : goal.returns-clause-takes
returns-clause-takes c = takes_as (then c.put.ensures (then c.put_number.ensures.takes (then c.put-2.ensures (then c.put_number-2.ensures.takes c.put-3.ensures)))) (cc)
