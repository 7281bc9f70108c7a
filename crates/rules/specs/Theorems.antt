-- The theorems on the task rules and the task book.
use Rattle.std.specs.Prelude.{◌≡◌, ℕ, ◌<◌, ◌≤◌, ◌≢◌, ◌⊎◌, ◌↔◌, length}
use Rattle.refusals.specs.declared.Refusal.{Refusal}
use Rattle.refusals.specs.Checks.{AllPass, Ascend}
use Rattle.rules.specs.declared.vocabulary.Action.TheVariants.{Finish}
use Rattle.rules.specs.declared.vocabulary.Event.{Event}
use Rattle.rules.specs.declared.vocabulary.Outcome.{Outcome}
use Rattle.rules.specs.declared.vocabulary.Outcome.TheVariants.{Waits, Terminated as Ended}
use Rattle.rules.specs.Limits.{most_tasks, most_entries, frame_room}
use Rattle.rules.specs.Picture.{Picture, frames}
use Rattle.rules.specs.Rules.{Step, Accepted, Reached}
use Rattle.rules.specs.Refusals.{checks, Refused}
use Rattle.rules.specs.Book.{Able, Points, CanRun, CanEnd, Inside, LargestShutPoints, Named}
use Rattle.rules.specs.Dead.{Dead}

-- names are exact: in every picture that is reached, and for its largest shut set, a task is named exactly when it is dead
abbrev pub NamesAreExact : Type 0
NamesAreExact = (p : Picture) → Reached p → (s : Points) → LargestShutPoints p s → (t : ℕ) → Named p s t ↔ Dead p t

-- no name is withdrawn by an accepted event
abbrev pub NamesAreNeverWithdrawn : Type 0
NamesAreNeverWithdrawn = (p q : Picture) (v : Event) (o : Outcome) → Reached p → Step p v o q
    → (s u : Points) → LargestShutPoints p s → LargestShutPoints q u → (t : ℕ) → Named p s t → Named q u t

-- an event with outcome 0, 2 or 3 adds no name: only one after which its actor waits or is Terminated can add any
abbrev pub GoingOnAddsNoName : Type 0
GoingOnAddsNoName = (p q : Picture) (v : Event) (o : Outcome) → Reached p → Step p v o q → o ≢ Waits → o ≢ Ended
    → (s u : Points) → LargestShutPoints p s → LargestShutPoints q u → (t : ℕ) → Named q u t → Named p s t

-- the event v came out as o and made q, and cannot have made anybody dead: its actor goes on, or waits without having finished, and is able
abbrev pub Harmless : Picture → Event → Outcome → Type 0
Harmless q v o = ((o ≢ Waits) × (o ≢ Ended)) ⊎ ((v.action ≢ Finish) × Able q v.actor)

-- an event that is harmless makes nobody dead
abbrev pub HarmlessEventsMakeNobodyDead : Type 0
HarmlessEventsMakeNobodyDead = (p q : Picture) (v : Event) (o : Outcome) → Reached p → Step p v o q → Harmless q v o
    → (t : ℕ) → Dead q t → Dead p t

-- how an event is answered
pub record Answered (p : Picture) (v : Event) : Type 0 where
  -- it is accepted exactly when no check refuses it
  pub accepted : Accepted p v ↔ AllPass (checks p v)
  -- it is accepted or refused
  pub either : Accepted p v ⊎ ((r : Refusal) × Refused p v r)
  -- and not both
  pub not_both : Accepted p v → (r : Refusal) → Refused p v r → ⊥
  -- it has one refusal
  pub one_refusal : (r u : Refusal) → Refused p v r → Refused p v u → r ≡ u
  -- its checks stand in the order of their numbers, from 5 up
  pub in_order : Ascend 5 (checks p v)

-- every event in every picture that is reached is answered so
abbrev pub AcceptedUnlessRefused : Type 0
AcceptedUnlessRefused = (p : Picture) → Reached p → (v : Event) → Answered p v

-- an accepted event has one outcome and makes one picture
abbrev pub OneOutcomeAndOnePicture : Type 0
OneOutcomeAndOnePicture = (p : Picture) (v : Event) (o n : Outcome) (q r : Picture) → Step p v o q → Step p v n r → (o ≡ n) × (q ≡ r)

-- in every picture that is reached, tasks, entries and open frames are within the limits
abbrev pub LimitsAreKept : Type 0
LimitsAreKept = (p : Picture) → Reached p
    → (p.begun ≤ most_tasks) × ((t : ℕ) → t < p.begun → ((p.task t).entries ≤ most_entries) × (length (frames p t) ≤ frame_room))

-- every picture has a largest shut set
abbrev pub LargestShutSetsExist : Type 0
LargestShutSetsExist = (p : Picture) → (s : Points) × LargestShutPoints p s

-- the law of wait books: what follows from a set of points follows from every larger one
abbrev pub BookKeepsTheLaw : Type 0
BookKeepsTheLaw = (p : Picture) (s u : Points) → Inside s u → (t : ℕ) → (CanRun p s t → CanRun p u t) × (CanEnd p s t → CanEnd p u t)
