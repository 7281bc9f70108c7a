use Rattle.std.proofs.Common.{arith}
use Rattle.reports.proofs.Laying.{laid}
use Rattle.reports.proofs.report.write_report.Goals as goal

pub returns : goal.returns
returns g c =
    laid c.args.buf.now _ c.put_report-2.new.buf c.put_report-2.result c.put_report-2.ensures (omega (arith, c.put_report.ensures.place))
