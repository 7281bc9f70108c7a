-- What is not Terminated and has both its points left out is named.
use Rattle.books.specs.Points.{has}
use Rattle.tasks.proofs.Reach.{few_begun}
use Rattle.task_book.specs.Book.{picture_of}
use Rattle.task_book.proofs.Named.{holds_named}
use Rattle.task_book.proofs.book.TaskBook.names.Goals as goal

pub returns : goal.returns
returns c =
    holds_named (picture_of c.args.self.now) (has c.args.out.now) (few_begun c.args.self.now.picture.reached)
    c.not_terminated.result c.pairs.result c.intersection.result c.not_terminated.ensures c.pairs.ensures c.intersection.ensures
