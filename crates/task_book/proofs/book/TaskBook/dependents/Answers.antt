use Rattle.std.proofs.Common.{rules}
use Rattle.task_book.specs.Book.{picture_of}
use Rattle.task_book.specs.Levels.{among}
use Rattle.task_book.proofs.Masks.{marks_tested}
use Rattle.task_book.proofs.book.TaskBook.dependents.Goals as goal

pub returns : goal.returns
returns c =
    let p = picture_of c.args.self.now in
    marks_tested (λ d. among c.args.which (p.task d).master) c.tasks_that.ensures (λ d b l h. search rules)
