-- Every marked task can end exactly when every dependent can.
use Rattle.std.proofs.Common.{ℕ, Bool}
use Rattle.books.specs.Points.{has}
use Rattle.task_book.specs.Book.{picture_of}
use Rattle.task_book.specs.Levels.{among}
use Rattle.task_book.proofs.Follows.{all_marked}
use Rattle.task_book.proofs.book.TaskBook.dependents_end.Goals as goal

pub returns : goal.returns
returns c =
    let p = picture_of c.args.self.now in
    let test : ℕ → Bool = λ d. among c.args.which (p.task d).master in
    all_marked c.dependents.result p.begun test (has c.args.s.now) c.dependents.ensures c.has_all_odd.result c.has_all_odd.ensures
