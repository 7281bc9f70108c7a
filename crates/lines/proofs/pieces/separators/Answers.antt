use Rattle.std.proofs.Common.{rules}
use Rattle.std.proofs.lemmas.List.Splits.{length-slice_split}
use Rattle.lines.proofs.pieces.separators.Goals as goal

pub returns-clause-pieces : goal.returns-clause-pieces
returns-clause-pieces c = search (rules, length-slice_split)
