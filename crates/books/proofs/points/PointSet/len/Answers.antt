use Rattle.std.proofs.Common.{arith}
use Rattle.books.specs.Points.{member}
use Rattle.books.proofs.Sets.{size_le}
use Rattle.books.proofs.Words.{size_halves}
use Rattle.books.proofs.points.PointSet.len.Goals as goal

pub overflow_add-result : goal.overflow_add-result
overflow_add-result c =
    let s = c.args.self.now in
    omega (arith, c.len.ensures, c.len-2.ensures, size_le 64 (member s.even), size_le 64 (member s.odd))

pub returns : goal.returns
returns c = omega (arith, c.len.ensures, c.len-2.ensures, size_halves c.args.self.now)
