-- Shut sets of the book are shut sets of the rules, and the other way round.
use Rattle.task_book.specs.Bridge.{left_largest}
use Rattle.task_book.proofs.theorems.left_out_is_largest.Goals as goal

pub returns : goal.returns
returns c = left_largest
