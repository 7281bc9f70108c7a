use Rattle.std.proofs.Common.{false}
use Rattle.books.proofs.Words.{at_both, halves}
use Rattle.books.proofs.points.PointSet.empty.Goals as goal

pub returns : goal.returns
returns c = let s = halves c.empty.result c.empty-2.result in at_both (λ _ _. false) s s s.even s.odd c.empty.ensures c.empty-2.ensures
