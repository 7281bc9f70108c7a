-- The tasks that have begun are asked one by one.
use Rattle.std.proofs.Common.{◌≡◌, refl, arith, rules}
use Rattle.std.proofs.lemmas.Iterator.{YieldsList-from_range, cases_from_any}
use Rattle.rules.specs.declared.vocabulary.Status.TheVariants.{Running}
use Rattle.rules.specs.Picture.{status}
use Rattle.task_book.specs.Book.{picture_of}
use Rattle.task_book.proofs.Plainly.{some_runs}
use Rattle.task_book.proofs.book.TaskBook.some_task_runs.Goals as goal

pub returns : goal.returns
returns c =
    let p = picture_of c.args.self.now in
    let found = cases_from_any _ _ c.any.result (λ u. status p u ≡ Running) (λ u. status p u ≡ Running → ⊥) c.any.ensures.ran
    (YieldsList-from_range 0 c.begun.result p.begun refl (omega (arith, c.begun.ensures.all))) (λ x q h. search rules) (λ x q h. search rules) in
    some_runs p p.begun c.any.result found
