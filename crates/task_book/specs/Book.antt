-- What a task book of the code answers.
use Rattle.std.specs.Prelude.{ℕ, Bool}
use Rattle.rules.specs.Picture.{Picture}
use Rattle.tasks.specs.Telling.{shown}
use Rattle.task_book.specs.declared.book.TaskBook.{TaskBook}
use Rattle.task_book.specs.Meaning.{meaning_of}

-- the picture inside the book, in the words of the rules
abbrev pub picture_of : TaskBook → Picture
picture_of b = shown b.picture

-- whether point q follows from a set of points
abbrev pub meaning_in : TaskBook → ℕ → (ℕ → Bool) → Bool
meaning_in b = meaning_of (picture_of b)
