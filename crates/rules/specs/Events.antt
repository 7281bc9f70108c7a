-- Events, and the numbers of their outcomes.
use Rattle.std.specs.Prelude.{ℕ}
use Rattle.rules.specs.declared.vocabulary.Action.{Action}
use Rattle.rules.specs.declared.vocabulary.Event.{Event}
use Rattle.rules.specs.declared.vocabulary.Outcome.{Outcome}
use Rattle.rules.specs.declared.vocabulary.Outcome.TheVariants.{GoesOn, Waits, Rendezvous, TaskingError, Terminated}

infix 70 ◌does◌
-- the event that a does x
abbrev pub ◌does◌ : ℕ → Action → Event
a does x = record { actor = a; action = x }

-- the number by which an outcome is reported
abbrev pub outcome_number : Outcome → ℕ
outcome_number GoesOn = 0
outcome_number Waits = 1
outcome_number Rendezvous = 2
outcome_number TaskingError = 3
outcome_number Terminated = 4
