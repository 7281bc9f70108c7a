use Rattle.reports.proofs.Laying.{then, takes_as}
use Rattle.reports.proofs.page.Page.put_closing.Goals as goal

pub returns : goal.returns
returns c = takes_as (then c.put.ensures (then c.put_number.ensures.takes (then c.put-2.ensures (then c.put_number-2.ensures.takes c.put-3.ensures)))) (cc)
