-- An even point besides its own is some other task that can run.
use Rattle.std.proofs.Common.{◌≡◌, ℕ, ◌<◌, true, ◌≢◌, Decides, ap, ◌∙◌, subst}
use Rattle.books.specs.Points.{has}
use Rattle.rules.specs.Limits.{most_tasks}
use Rattle.rules.specs.Picture.{status}
use Rattle.task_book.specs.Book.{picture_of}
use Rattle.task_book.specs.Meaning.{runs, runs_with}
use Rattle.task_book.proofs.Follows.{other_marked}
use Rattle.task_book.proofs.book.TaskBook.can_run.Goals as goal

pub returns-in-Accepting : goal.returns-in-Accepting
returns-in-Accepting c =
    let p = picture_of c.args.self.now in
    let S = has c.args.s.now in
    let r = c.any_even_besides.result in
    let asked = subst (λ k. Decides r ((u : ℕ) × (u < most_tasks) × (u ≢ k) × (runs S u ≡ true))) c.from-in-Accepting.ensures c.any_even_besides.ensures in
    other_marked S c.args.t r asked ∙ ap (runs_with p S c.args.t) (c.in-Accepting.ensures ∙ ap (status p) c.from.ensures)
