-- What is left of the even half without its own number is another even point.
use Rattle.books.proofs.Words.{any_besides}
use Rattle.books.proofs.points.PointSet.any_even_besides.Goals as goal

pub returns : goal.returns
returns c = any_besides c.args.self.now c.args.t c.remove.new.self c.remove.ensures.after c.is_empty.result c.is_empty.ensures
