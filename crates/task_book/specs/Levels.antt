-- The levels of a task's open frames that a question is about.
use Rattle.std.specs.Prelude.{ℕ, Bool, Option, ◌==◌, nat_lt}
use Rattle.rules.specs.declared.vocabulary.Master.{Master}
use Rattle.task_book.specs.declared.levels.Dependents.{Dependents}
use Rattle.task_book.specs.declared.levels.Levels.{Levels}
use Rattle.task_book.specs.declared.levels.Levels.TheVariants.{Every, Above, At}
use Rattle.task_book.specs.Meaning.{any_level, depends}

-- whether a level is one of them
abbrev pub level_in : Levels → ℕ → Bool
level_in Every l = any_level l
level_in (Above frame) l = nat_lt frame l
level_in (At block) l = l == block

-- whether a task with that master is one of the dependents
abbrev pub among : Dependents → Option Master → Bool
among which master = depends which.creator (level_in which.levels) master
