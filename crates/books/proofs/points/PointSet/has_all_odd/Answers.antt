-- Nothing of the tasks is left without the odd half.
use Rattle.std.proofs.Common.{sym, ◌∙◌}
use Rattle.books.proofs.Words.{all_in, odd_point}
use Rattle.books.proofs.points.PointSet.has_all_odd.Goals as goal

pub returns : goal.returns
returns c =
    let s = c.args.self.now in
    let d = all_in c.args.tasks s.odd c.difference.result c.difference.ensures c.is_empty.result c.is_empty.ensures in
    (λ e t h. sym (odd_point s t) ∙ d.0 e t h, λ f. d.1 (λ t h. odd_point s t ∙ f t h))
