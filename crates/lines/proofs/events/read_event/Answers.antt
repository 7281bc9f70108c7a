use Rattle.std.proofs.Common.{rules, Ok}
use Rattle.lines.proofs.EventsRead.{reads_every}
use Rattle.lines.proofs.events.read_event.Goals as goal

pub returns-in_err-fields-clause-every : goal.returns-in_err-fields-clause-every
returns-in_err-fields-clause-every c = reads_every c.args.line.now c.from_residual.result (search rules)

pub returns-clause-every : goal.returns-clause-every
returns-clause-every c = reads_every c.args.line.now (Ok c.event.result) (search rules)
