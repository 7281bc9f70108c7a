use Rattle.std.proofs.Common.{not, rules}
use Rattle.rules.specs.Picture.{status}
use Rattle.task_book.specs.Book.{picture_of}
use Rattle.task_book.specs.Names.{ended_status}
use Rattle.task_book.proofs.Masks.{marks_tested}
use Rattle.task_book.proofs.book.TaskBook.not_terminated.Goals as goal

pub returns : goal.returns
returns c =
    let p = picture_of c.args.self.now in
    marks_tested (λ t. not (ended_status (status p t))) c.tasks_that.ensures (λ t b l h. search rules)
