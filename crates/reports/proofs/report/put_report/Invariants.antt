use Rattle.std.proofs.Common.{◌≡◌, ◌*◌, ◌≤◌, length}
use Rattle.std.specs.List.{flat_map}
use Rattle.reports.specs.Layout.{Takes}
use Rattle.reports.specs.Report.{row_line, rows_below}
use Rattle.reports.proofs.report.put_report.Given as goal

abbrev pub invariant-loop-task : goal.invariant-loop-task
invariant-loop-task g l =
    Takes l.initial.page (flat_map row_line (rows_below (g.R.Roster.rows l.roster) l.task)) l.page
    × (l.names ≡ length (rows_below (g.R.Roster.rows l.roster) l.task)) × (l.page.at ≤ 100 * l.task) × (l.names ≤ l.task)
