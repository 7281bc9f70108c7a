use Rattle.std.proofs.Common.{not, ◌&&◌}
use Rattle.books.proofs.Words.{at_both}
use Rattle.books.proofs.points.PointSet.difference.Goals as goal

pub returns : goal.returns
returns c = at_both (λ a b. a && not b) c.args.self.now c.args.other.now c.difference.result c.difference-2.result c.difference.ensures c.difference-2.ensures
