-- Runs of a monitor: any succession of told events and played tapes, refused ones among them, on one monitor from new.
use Rattle.std.specs.Prelude.{◌≡◌, ℕ, Bool, true, ◌↔◌, List, [], ◌∷◌, Result}
use Rattle.refusals.specs.declared.Refusal.{Refusal}
use Rattle.rules.specs.declared.vocabulary.Event.{Event}
use Rattle.rules.specs.declared.vocabulary.Outcome.{Outcome}
use Rattle.rules.specs.Dead.{Dead}
use Rattle.rules.specs.Refusals.{Refused}
use Rattle.rules.specs.Rules.{Reached}
use Rattle.tape.specs.declared.tape.PlayRefusal.{PlayRefusal}
use Rattle.monitor.specs.State.{State, New, Accepts, TapePlayed}

-- a call of the monitor and its answer: an accepted event with its outcome and the names that it added, a refused event, a tape
pub data Call : Type 0 where
  accepted : Event → Outcome → (ℕ → Bool) → Call
  refused : Event → Refusal → Call
  played : List ℕ → Result ℕ PlayRefusal → Call

-- the call leads from s to u: a refused event leaves the monitor as it was
abbrev pub Leads : State → Call → State → Type 0
Leads s (accepted v o added) u = Accepts s v o added u
Leads s (refused v e) u = Refused s.picture v e × (u ≡ s)
Leads s (played tape r) u = TapePlayed s tape r u

-- Run cs s: the calls cs, the newest first, lead from a new monitor to s
pub data Run : List Call → State → Type 0 where
  new : {s : State} → New s → Run [] s
  next : {s u : State} {c : Call} {cs : List Call} → Run cs s → Leads s c u → Run (c ∷ cs) u

-- what holds after a run
pub record Exact (s : State) : Type 0 where
  -- some history of accepted events makes the picture from a new one
  pub reached : Reached s.picture
  -- a task stands named exactly when it is dead
  pub names : (t : ℕ) → (s.named t ≡ true) ↔ Dead s.picture t
  -- whatever call comes next withdraws no name
  pub stay : (c : Call) (u : State) → Leads s c u → (t : ℕ) → s.named t ≡ true → u.named t ≡ true

-- so it is after every run
abbrev pub EveryRunIsExact : Type 0
EveryRunIsExact = (cs : List Call) (s : State) → Run cs s → Exact s
