use Rattle.std.proofs.Common.{arith}
use Rattle.books.specs.Points.{has}
use Rattle.books.proofs.Sets.{size_le}
use Rattle.books.proofs.watch.largest_shut.Goals as goal

pub loop-passes-smaller : goal.loop-passes-smaller
loop-passes-smaller g c =
    let m = g.B.WaitBook in
    omega (arith, size_le m.POINTS (has c.pass.new.reached), c.pass.ensures.more c.loop-passes-test.true)

pub overflow_add-passes : goal.overflow_add-passes
overflow_add-passes g c =
    let m = g.B.WaitBook in
    omega (arith, size_le m.POINTS (has c.loop-passes.reached), c.loop-passes.invariant.1, g.met.B.WaitBook.few)

pub returns-clause-passes : goal.returns-clause-passes
returns-clause-passes g c =
    let m = g.B.WaitBook in omega (arith, size_le m.POINTS (has c.loop-passes.reached), c.loop-passes.invariant.1)
