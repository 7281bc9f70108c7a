-- The tasks looked at so far are in the set as the test answered.
use Rattle.task_book.specs.Masks.{Tested}
use Rattle.task_book.proofs.book.TaskBook.tasks_that.Given as goal

abbrev pub invariant-loop-t : goal.invariant-loop-t
invariant-loop-t g l = goal.F-IsAlwaysCallable g l.passes × Tested (λ t b. goal.F-post g l.passes t b) l.t l.tasks
