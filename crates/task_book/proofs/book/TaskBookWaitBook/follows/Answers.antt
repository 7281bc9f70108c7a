-- A point is of a task that has begun, even or odd, or follows from nothing.
use Rattle.std.proofs.Common.{◌∙◌, arith}
use Rattle.books.specs.Points.{has}
use Rattle.task_book.specs.Book.{picture_of}
use Rattle.task_book.proofs.Follows.{follows_end, follows_run, follows_unborn}
use Rattle.task_book.proofs.book.TaskBookWaitBook.follows.Goals as goal

pub returns-then-t-from : goal.returns-then-t-from
returns-then-t-from c = follows_unborn (picture_of c.args.self.now) c.args.p (has c.args.s.now) (omega (arith, c.from.ensures, c.begun.ensures.all))

pub returns-then-p-eq0 : goal.returns-then-p-eq0
returns-then-p-eq0 c = c.can_run.ensures ∙ follows_run (picture_of c.args.self.now) c.args.p (has c.args.s.now) c.if-p-eq0.true (omega (arith, c.from.ensures, c.begun.ensures.all))

pub returns-else-p-eq0 : goal.returns-else-p-eq0
returns-else-p-eq0 c = c.can_end.ensures ∙ follows_end (picture_of c.args.self.now) c.args.p (has c.args.s.now) c.if-p-eq0.false (omega (arith, c.from.ensures, c.begun.ensures.all))
