-- How many dependents of a task have not ended.
use Rattle.std.specs.Prelude.{ℕ, Bool, not, ◌&&◌}
use Rattle.books.specs.Shut.{size}
use Rattle.rules.specs.Picture.{Picture, status}
use Rattle.task_book.specs.Meaning.{depends}
use Rattle.task_book.specs.Names.{ended_status}

-- how many dependents of m, at levels that pass a test, are not Terminated
abbrev pub unfinished : Picture → ℕ → (ℕ → Bool) → ℕ
unfinished p m level = size p.begun (λ d. depends m level (p.task d).master && not (ended_status (status p d)))
