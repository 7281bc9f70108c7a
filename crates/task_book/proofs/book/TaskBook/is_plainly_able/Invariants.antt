-- If the task that the queues have led to is able, then so is the one asked about.
use Rattle.rules.specs.Book.{Able}
use Rattle.task_book.specs.Book.{picture_of}
use Rattle.task_book.proofs.book.TaskBook.is_plainly_able.Given as goal

abbrev pub invariant-loop : goal.invariant-loop
invariant-loop l = Able (picture_of l.self) l.t → Able (picture_of l.self) l.task
