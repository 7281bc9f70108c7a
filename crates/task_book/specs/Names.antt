-- The names that a judging of the task book leaves.
use Rattle.std.specs.Prelude.{◌≡◌, ℕ, Bool, true, false, ◌||◌, ◌↔◌, nat_le}
use Rattle.books.specs.declared.members.Members.{Members}
use Rattle.books.specs.Points.{member}
use Rattle.rules.specs.declared.vocabulary.Status.{Status}
use Rattle.rules.specs.declared.vocabulary.Status.TheVariants.{NotBegun, Running, Queued, Engaged, Accepting, Leaving, Completed, Terminated}
use Rattle.rules.specs.Book.{Named, Points}
use Rattle.rules.specs.Dead.{Dead}
use Rattle.rules.specs.Limits.{most_tasks}
use Rattle.rules.specs.Picture.{Picture}
use Rattle.task_book.specs.Meaning.{runs, ends}

-- the points left out, in the words of the rules: those of L, and, as they never follow, those of numbers that no task has
abbrev pub left_out : (ℕ → Bool) → Points
left_out L = record { runs = λ t. nat_le most_tasks t || runs L t; ends = λ t. nat_le most_tasks t || ends L t }

-- whether a task of that status is Terminated
abbrev pub ended_status : Status → Bool
ended_status NotBegun = false
ended_status Running = false
ended_status (Queued _ _) = false
ended_status (Engaged _) = false
ended_status (Accepting _) = false
ended_status Leaving = false
ended_status Completed = false
ended_status Terminated = true

-- the tasks in a set are those that are named, s being the points left out
abbrev pub HoldsNamed : Members → Picture → Points → Type 0
HoldsNamed names p s = (t : ℕ) → (member names t ≡ true) ↔ Named p s t

-- the tasks in a set are the dead
abbrev pub HoldsDead : Members → Picture → Type 0
HoldsDead names p = (t : ℕ) → (member names t ≡ true) ↔ Dead p t
