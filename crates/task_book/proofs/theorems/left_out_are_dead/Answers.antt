-- The rules' names are exact for their largest shut set, and that is what is left out.
use Rattle.task_book.proofs.Named.{names_exact}
use Rattle.task_book.proofs.theorems.left_out_are_dead.Goals as goal

pub returns : goal.returns
returns c p L reached left t = names_exact p L ∣ reached ∣₁ left t
