use Rattle.std.proofs.Common.{rules, ◌≡◌, ◌++◌, length, sym, refl, ap, ◌∙◌, arith}
use Rattle.std.specs.List.{flat_map}
use Rattle.reports.specs.Report.{row_line, rows_below, closing_line}
use Rattle.reports.proofs.Laying.{then, takes_as}
use Rattle.reports.proofs.Rows.{none, step_none, step_some}
use Rattle.reports.proofs.report.put_report.Goals as goal
use Rattle.reports.proofs.report.put_report.Goals.{in-Some, in_default}

pub loop-task-init : goal.loop-task-init
loop-task-init g c =
    let e = none (g.R.Roster.rows c.args.roster.now) in
    rw e (record { puts = record { after = refl; place = refl }; same_buffer = refl }, refl, omega arith, omega arith)

pub loop-task-preserved : goal.loop-task-preserved
loop-task-preserved g c =
    let rows = g.R.Roster.rows c.args.roster.now in
    let n = c.loop-task.task in
    let inv = c.loop-task.invariant in
    elim c.match-row.branch [
      | in-Some w ↦
          let h = step_some rows n _ c.loop-task.page c.loop-task.names inv.0 inv.1 w.in-Some.row w.put_row.new.self (sym c.row.ensures ∙ w.in-Some.is) w.put_row.ensures.takes in
          rw (w.page-is, w.names-is) (h.0, h.1, omega (arith, inv.2, w.put_row.ensures.short), omega (arith, inv.3))
      | in_default w ↦
          let h = step_none rows n _ c.loop-task.page c.loop-task.names inv.0 inv.1 (sym c.row.ensures ∙ w.in_default.is) in
          rw (w.page-is, w.names-is) (h.0, h.1, omega (arith, inv.2), omega (arith, inv.3))
    ]

pub returns : goal.returns
returns g c =
    let rows = g.R.Roster.rows c.args.roster.now in
    let end : c.loop-task.task ≡ 64 = omega arith in
    let inv = c.loop-task.invariant in
    let told = takes_as (then inv.0 c.put_closing.ensures)
    (ap (λ k. flat_map row_line (rows_below rows c.loop-task.task) ++ closing_line c.args.ending k) inv.1
    ∙ ap (λ j. flat_map row_line (rows_below rows j) ++ closing_line c.args.ending (length (rows_below rows j))) end) in
    search rules
