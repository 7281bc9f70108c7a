use Rattle.monitor.specs.Bench.{too_long, whole, stopped}
use Rattle.monitor.specs.Of.{state_of}
use Rattle.monitor.proofs.bench.report_of_tape.Goals as goal
use Rattle.monitor.proofs.bench.report_of_tape.Goals.{in-Ok, in-Err-LineRefused}

pub returns-in-Err-TapeTooLong-clause-reported : goal.returns-in-Err-TapeTooLong-clause-reported
returns-in-Err-TapeTooLong-clause-reported c = let played = rw c.in-Err-TapeTooLong.field-0-is at c.in-Err-TapeTooLong.ensures in too_long played.0

pub returns-clause-reported : goal.returns-clause-reported
returns-clause-reported c =
    let s = state_of c.new-monitor.result.0 in
    let u = state_of c.play.new.self in
    elim c.match-play.branch [
      | in-Ok w ↦ whole s u w.in-Ok.told c.new-monitor.ensures.monitor w.in-Ok.ensures (rw w.ending-is at c.report.ensures)
      | in-Err-LineRefused w ↦ stopped s u w.in-Err-LineRefused.told c.new-monitor.ensures.monitor (rw w.in-Err-LineRefused.field-0-is at w.in-Err-LineRefused.ensures) (rw w.ending-is at c.report.ensures)
    ]
