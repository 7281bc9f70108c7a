use Rattle.std.proofs.Common.{◌&&◌}
use Rattle.books.proofs.Words.{at_both}
use Rattle.books.proofs.points.PointSet.intersection.Goals as goal

pub returns : goal.returns
returns c = at_both ◌&&◌ c.args.self.now c.args.other.now c.intersection.result c.intersection-2.result c.intersection.ensures c.intersection-2.ensures
