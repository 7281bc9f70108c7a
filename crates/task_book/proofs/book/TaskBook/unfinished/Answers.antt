use Rattle.std.proofs.Common.{◌∙◌, arith}
use Rattle.books.specs.Points.{member}
use Rattle.books.proofs.Sets.{size_le}
use Rattle.tasks.proofs.Reach.{few_begun}
use Rattle.task_book.specs.Book.{picture_of}
use Rattle.task_book.proofs.Counted.{marked_both}
use Rattle.task_book.proofs.book.TaskBook.unfinished.Goals as goal

pub overflow_cast-result : goal.overflow_cast-result
overflow_cast-result c = omega (arith, c.len.ensures, size_le 64 (member c.intersection-tasks.result))

pub returns : goal.returns
returns c =
    let p = picture_of c.args.self.now in
    c.len.ensures ∙ marked_both p.begun _ _ c.dependents.result c.not_terminated.result c.intersection-tasks.result (few_begun c.args.self.now.picture.reached)
    c.dependents.ensures c.not_terminated.ensures c.intersection-tasks.ensures
