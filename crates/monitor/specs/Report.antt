-- The rows of a monitor's report: why each named task waits.
use Rattle.std.specs.Prelude.{ℕ, cond, Some, None, Option}
use Rattle.reports.specs.declared.report.Row.{Row}
use Rattle.reports.specs.declared.report.Wait.{Wait}
use Rattle.reports.specs.declared.report.Wait.TheVariants.{Queued as queued, Engaged as engaged, Accepting as accepting, Leaving as leaving, Completed as completed}
use Rattle.rules.specs.declared.vocabulary.Status.{Status}
use Rattle.rules.specs.declared.vocabulary.Status.TheVariants.{NotBegun, Running, Queued, Engaged, Accepting, Leaving, Completed, Terminated}
use Rattle.rules.specs.Picture.{Picture, status}
use Rattle.task_book.specs.Meaning.{any_level, innermost}
use Rattle.task_book.specs.Unfinished.{unfinished}
use Rattle.monitor.specs.State.{State}

-- what task t, which has that status, waits for
abbrev pub wait_with : Picture → ℕ → Status → Option Wait
wait_with p t NotBegun = None
wait_with p t Running = None
wait_with p t (Queued server _) = Some (queued server)
wait_with p t (Engaged server) = Some (engaged server)
wait_with p t (Accepting mask) = Some (accepting mask)
wait_with p t Leaving = Some (leaving (unfinished p t (innermost p t)))
wait_with p t Completed = Some (completed (unfinished p t any_level))
wait_with p t Terminated = None

-- the row of a task that waits
abbrev pub row_of : ℕ → Option Wait → Option Row
row_of t None = None
row_of t (Some wait) = Some (record { task = t; wait = wait })

-- the row of task t in the report, if it is named
abbrev pub named_row : State → ℕ → Option Row
named_row s t = cond (s.named t) (row_of t (wait_with s.picture t (status s.picture t))) None
