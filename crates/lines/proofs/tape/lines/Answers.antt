use Rattle.std.proofs.Common.{rules}
use Rattle.lines.proofs.Cuts.{lines_few}
use Rattle.lines.proofs.tape.lines.Goals as goal

pub returns-clause-few : goal.returns-clause-few
returns-clause-few c = search (rules, lines_few)
