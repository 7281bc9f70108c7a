-- What is promised of an event: a step of the rules, or a refusal that leaves the tables as they were.
use Rattle.std.specs.Prelude.{◌≡◌, ℕ, ◌<◌, ◌≤◌, ◌≢◌, length, Ok, Err, Result}
use Rattle.refusals.specs.declared.Refusal.{Refusal}
use Rattle.refusals.specs.declared.Refusal.TheVariants.{ActorNotBegun, ActorNotRunning}
use Rattle.refusals.specs.Checks.{check, done, FirstRefusal}
use Rattle.rules.specs.declared.vocabulary.Status.TheVariants.{Completed, Leaving, Running}
use Rattle.rules.specs.declared.vocabulary.Event.{Event}
use Rattle.rules.specs.declared.vocabulary.Action.{Action}
use Rattle.rules.specs.declared.vocabulary.Outcome.{Outcome}
use Rattle.rules.specs.Events.{◌does◌}
use Rattle.rules.specs.Picture.{Picture, status, frames, AllOver, Depends, Over}
use Rattle.rules.specs.Rules.{Step, Reached}
use Rattle.rules.specs.Refusals.{action_checks, BlockInnermost, Refused}
use Rattle.tasks.specs.declared.tables.Tables.{Tables}
use Rattle.tasks.specs.View.{view}

-- some list of accepted events makes the picture from a new one
abbrev pub IsReached : Picture → Type 0
IsReached p = ∥ (Reached p) ∥₁

-- the answer to an event
abbrev pub Answered : Tables → Event → Result Outcome Refusal → Tables → Type 0
Answered p v (Ok o) q = Step (view p) v o (view q)
Answered p v (Err n) q = Refused (view p) v n × (q ≡ p)

-- the answer to what a Running task is about to do
abbrev pub Did : Tables → ℕ → Action → Result Outcome Refusal → Tables → Type 0
Did p a x (Ok o) q = Step (view p) (a does x) o (view q)
Did p a x (Err n) q = FirstRefusal (action_checks (view p) a x) n × (q ≡ p)

-- the task a cannot act, and n says why
abbrev pub Unready : Picture → ℕ → Refusal → Type 0
Unready p a n = FirstRefusal (check ActorNotBegun (p.begun ≤ a) (check ActorNotRunning (status p a ≢ Running) done)) n

-- what is known while a cascade goes on, after t has ended
pub record Settling (p : Picture) (t : ℕ) : Type 0 where
  pub begun : t < p.begun
  pub elder : (d m l : ℕ) → Depends p d m l → m < d
  pub leaving : (m : ℕ) → status p m ≡ Leaving → BlockInnermost (frames p m)

-- t waits to leave its innermost block, at level l, and every dependent of it is Terminated
abbrev pub Closes : Picture → ℕ → ℕ → Type 0
Closes p t l = (status p t ≡ Leaving) × (l ≡ length (frames p t)) × Over p t l

-- t is Completed, and every dependent of it is Terminated
abbrev pub Ends : Picture → ℕ → Type 0
Ends p t = (status p t ≡ Completed) × AllOver p t
