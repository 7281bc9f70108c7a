use Rattle.sheets.proofs.Answered.{told_apart}
use Rattle.sheets.proofs.rows.lines_are_told_apart.Goals as goal

pub returns : goal.returns
returns c = told_apart
