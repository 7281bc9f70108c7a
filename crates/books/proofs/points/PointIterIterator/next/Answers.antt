use Rattle.std.proofs.Common.{None, Some, Option, MatchOption, ◌<◌, ℕ, rules}
use Rattle.std.specs.Bool.{⊤}
use Rattle.books.specs.declared.points.PointSet.{PointSet}
use Rattle.books.specs.Points.{has}
use Rattle.books.specs.Shut.{size}
use Rattle.books.specs.Taking.{TakesPoint}
use Rattle.books.proofs.Sets.{takes_fewer}
use Rattle.books.proofs.points.PointIterIterator.next.Goals as goal

fewer : (s : PointSet) (r : Option ℕ) (t : PointSet) → TakesPoint s r t → MatchOption r ⊤ (λ _. size 128 (has t) < size 128 (has s))
fewer s None t e = tt
fewer s (Some p) t e = takes_fewer 128 (has s) (has t) p e.small e.member e.others

pub returns-clause-goes : goal.returns-clause-goes
returns-clause-goes c =
    let f = fewer c.args.self.now.left c.take.result c.take.new.self c.take.ensures in
    search rules
