use Rattle.lines.proofs.Whole.{lines_whole}
use Rattle.lines.proofs.tape.lines_are_whole.Goals as goal

pub returns : goal.returns
returns c = lines_whole
