use Rattle.std.proofs.Common.{◌+◌, ◌-◌, ◌≤◌}
use Rattle.books.specs.Passes.{Reached}
use Rattle.books.specs.Points.{has}
use Rattle.books.specs.Shut.{size}
use Rattle.books.proofs.watch.largest_shut.Given as goal

abbrev pub invariant-loop-passes : goal.invariant-loop-passes
invariant-loop-passes g l =
    let m = g.B.WaitBook in
    Reached m.POINTS (m.meaning l.book) (has l.reached) × (l.passes ≤ size m.POINTS (has l.reached) + 1)

abbrev pub decreases-loop-passes : goal.decreases-loop-passes
decreases-loop-passes g l = let m = g.B.WaitBook in m.POINTS - size m.POINTS (has l.reached)
