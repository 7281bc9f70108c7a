use Rattle.books.specs.Points.{has}
use Rattle.books.proofs.Sets.{Passing}
use Rattle.books.proofs.watch.pass.Given as goal

abbrev pub invariant-loop-p : goal.invariant-loop-p
invariant-loop-p g l =
    Passing g.B.WaitBook.POINTS (g.B.WaitBook.meaning l.book) (has l.initial.reached) (has l.reached) l.grew (has l.p-iterator.left)
