use Rattle.std.proofs.Common.{◌/◌, sym, ap, ◌∙◌}
use Rattle.books.specs.Points.{member}
use Rattle.books.proofs.Words.{has_even, has_odd}
use Rattle.books.proofs.points.PointSet.contains.Goals as goal
use Rattle.books.proofs.points.PointSet.contains.Goals.{then-p-eq0, else-p-eq0}

pub returns : goal.returns
returns c =
    let p = c.args.p in
    c.contains.ensures ∙ elim c.if-p-eq0.branch [
      | then-p-eq0 w ↦ ap (λ s. member s (p / 2)) w.half-is ∙ sym (has_even c.args.self.now p w.if-p-eq0.true)
      | else-p-eq0 w ↦ ap (λ s. member s (p / 2)) w.half-is ∙ sym (has_odd c.args.self.now p w.if-p-eq0.false)
    ]
