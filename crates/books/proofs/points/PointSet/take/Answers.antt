use Rattle.std.proofs.Common.{◌≡◌, ℕ, ◌+◌, ◌*◌, sym, subst, rules}
use Rattle.std.specs.Option.{option_map}
use Rattle.books.specs.Taking.{PointTaken, TakesPoint}
use Rattle.books.proofs.Firsts.{even_taken, odd_or_none}
use Rattle.books.proofs.Words.{halves}
use Rattle.books.proofs.points.PointSet.take.Goals as goal

pub returns-in-Some : goal.returns-in-Some
returns-in-Some c =
    let s = c.args.self.now in
    let w = c.take_lowest.new.self in
    subst (λ (t : ℕ). PointTaken s (2 * t) (halves w s.odd)) (sym c.from.ensures) (even_taken s c.in-Some.t w c.in-Some.ensures)

pub returns : goal.returns
returns c =
    let s = c.args.self.now in
    let even = c.in_default.ensures in
    let is : c.map.result ≡ option_map (λ t. 2 * t + 1) c.take_lowest-2.result = search rules in
    subst (λ r. TakesPoint s r (halves c.take_lowest.new.self c.take_lowest-2.new.self)) (sym is)
    (odd_or_none s c.take_lowest.new.self c.take_lowest-2.result c.take_lowest-2.new.self even.0 even.1 c.take_lowest-2.ensures)
