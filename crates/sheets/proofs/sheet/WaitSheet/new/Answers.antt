use Rattle.sheets.specs.Meaning.{follow_none}
use Rattle.sheets.proofs.sheet.WaitSheet.new.Goals as goal

pub returns : goal.returns
returns c = follow_none
