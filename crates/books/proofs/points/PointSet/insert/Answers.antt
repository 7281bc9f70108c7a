use Rattle.std.proofs.Common.{arith}
use Rattle.std.proofs.lemmas.Bool.Decides.{nat_tests}
use Rattle.books.proofs.Words.{has_even, has_odd, adds_even, adds_odd}
use Rattle.books.proofs.points.PointSet.insert.Goals as goal

pub returns-then-p-eq0-clause-new : goal.returns-then-p-eq0-clause-new
returns-then-p-eq0-clause-new c = let e = has_even c.args.self.now c.args.p c.if-p-eq0.true in let i = c.insert.ensures.new in grind (arith, nat_tests)

pub returns-then-p-eq0-clause-after : goal.returns-then-p-eq0-clause-after
returns-then-p-eq0-clause-after c = adds_even c.args.self.now c.insert.new.self c.args.p c.if-p-eq0.true c.insert.ensures.after

pub returns-else-p-eq0-clause-new : goal.returns-else-p-eq0-clause-new
returns-else-p-eq0-clause-new c = let e = has_odd c.args.self.now c.args.p c.if-p-eq0.false in let i = c.insert-else-p-eq0.ensures.new in grind (arith, nat_tests)

pub returns-else-p-eq0-clause-after : goal.returns-else-p-eq0-clause-after
returns-else-p-eq0-clause-after c = adds_odd c.args.self.now c.insert-else-p-eq0.new.self c.args.p c.if-p-eq0.false c.insert-else-p-eq0.ensures.after
