-- The theorems on the task book.
use Rattle.std.specs.Prelude.{◌≡◌, ℕ, ◌+◌, ◌*◌, ◌≤◌, Bool, true, false, ◌↔◌}
use Rattle.books.specs.Shut.{Grows, LargestShut}
use Rattle.rules.specs.Book.{CanRun, CanEnd, LargestShutPoints, Named}
use Rattle.rules.specs.Dead.{Dead}
use Rattle.rules.specs.Limits.{most_tasks}
use Rattle.rules.specs.Picture.{Picture}
use Rattle.rules.specs.Rules.{Reached}
use Rattle.task_book.specs.Meaning.{meaning_of, points}
use Rattle.task_book.specs.Names.{left_out}

-- the task book is the rules' own, for every picture and every set of points, and keeps the laws of wait books
pub record IsTheRulesBook (p : Picture) : Type 0 where
  pub runs : (t : ℕ) (S : ℕ → Bool) → (meaning_of p (2 * t) S ≡ true) ↔ CanRun p (points S) t
  pub ends : (t : ℕ) (S : ℕ → Bool) → (meaning_of p (2 * t + 1) S ≡ true) ↔ CanEnd p (points S) t
  pub law : Grows (meaning_of p)
  pub beyond : p.begun ≤ most_tasks → (q : ℕ) (S : ℕ → Bool) → 128 ≤ q → meaning_of p q S ≡ false

-- of every picture
abbrev pub BookIsTheRules : Type 0
BookIsTheRules = (p : Picture) → IsTheRulesBook p

-- what judging leaves out is the rules' largest shut set
abbrev pub LeftOutIsLargest : Type 0
LeftOutIsLargest = (p : Picture) (L : ℕ → Bool) → p.begun ≤ most_tasks → LargestShut 128 (meaning_of p) L → LargestShutPoints p (left_out L)

-- a task is named by what judging leaves out exactly when it is dead
abbrev pub LeftOutAreDead : Type 0
LeftOutAreDead = (p : Picture) (L : ℕ → Bool) → Reached p → LargestShut 128 (meaning_of p) L → (t : ℕ) → Named p (left_out L) t ↔ Dead p t
