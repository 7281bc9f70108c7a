-- A number in both halves is that of a pair of points.
use Rattle.std.proofs.Common.{◌&&◌, ◌∙◌}
use Rattle.books.proofs.Words.{even_point, odd_point}
use Rattle.books.proofs.points.PointSet.pairs.Goals as goal

pub returns : goal.returns
returns c t = let s = c.args.self.now in c.intersection.ensures t ∙ (λ i. even_point s t i && odd_point s t i)
