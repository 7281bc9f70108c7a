-- What a monitor stands for.
use Rattle.std.specs.Prelude.{◌≡◌, Result, MatchResult}
use Rattle.refusals.specs.declared.Refusal.{Refusal}
use Rattle.rules.specs.declared.vocabulary.Event.{Event}
use Rattle.rules.specs.Refusals.{Refused}
use Rattle.books.specs.Points.{member}
use Rattle.task_book.specs.Book.{picture_of}
use Rattle.monitor.specs.declared.monitor.Monitor.{Monitor}
use Rattle.monitor.specs.declared.tell.Accepted.{Accepted}
use Rattle.monitor.specs.State.{State, Accepts}

-- its picture, and its names
abbrev pub state_of : Monitor → State
state_of m = record { picture = picture_of m.tasks.watch.book; named = member m.names }

-- the answer to an event: its outcome and the names that it added; or a refusal, which leaves the monitor as it was
abbrev pub EventTold : Monitor → Event → Result Accepted Refusal → Monitor → Type 0
EventTold m v r w =
    MatchResult r (λ a. Accepts (state_of m) v a.outcome (member a.added) (state_of w)) (λ e. Refused (state_of m).picture v e × (w ≡ m))
