-- What was just judged leaves out the largest shut set, so that the named are the dead.
use Rattle.std.proofs.Common.{subst}
use Rattle.books.specs.Points.{has}
use Rattle.task_book.specs.Book.{picture_of}
use Rattle.task_book.specs.Names.{HoldsNamed, left_out}
use Rattle.task_book.proofs.Named.{named_dead}
use Rattle.task_book.proofs.watch.TaskWatch.judge.Goals as goal

pub returns-clause-dead : goal.returns-clause-dead
returns-clause-dead c =
    let book = c.args.self.now.watch.book in
    let out = has c.judge.new.self.out in
    named_dead (picture_of book) out c.names.result book.picture.reached c.judge.ensures.judged
    (subst (λ b. HoldsNamed c.names.result (picture_of b) (left_out out)) c.judge.ensures.same c.names.ensures)
