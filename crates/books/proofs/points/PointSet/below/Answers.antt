use Rattle.std.proofs.Common.{◌/◌, ◌%◌, ◌∙◌, inl, inr, arith}
use Rattle.std.proofs.lemmas.Bool.{cases_eq}
use Rattle.std.proofs.lemmas.Bool.Decides.{nat_tests}
use Rattle.books.proofs.Words.{halves, has_even, has_odd}
use Rattle.books.proofs.points.PointSet.below.Goals as goal

pub returns : goal.returns
returns c q =
    let s = halves c.below.result c.below-2.result in
    elim (cases_eq (q % 2) 0) [
      | inl e ↦ has_even s q e ∙ c.below.ensures (q / 2) ∙ grind (arith, nat_tests)
      | inr o ↦ has_odd s q o ∙ c.below-2.ensures (q / 2) ∙ grind (arith, nat_tests)
    ]
