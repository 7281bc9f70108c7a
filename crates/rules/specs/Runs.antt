-- Worked runs: lists of events from a new picture, each with the answer to the last of them.
use Rattle.std.specs.Prelude.{◌≡◌, ℕ, ◌↔◌, List, [], ◌∷◌, Contains}
use Rattle.rules.specs.declared.vocabulary.Status.{Status}
use Rattle.rules.specs.declared.vocabulary.Status.TheVariants.{Running, Engaged, Terminated}
use Rattle.rules.specs.declared.vocabulary.Action.TheVariants.{Begin, OpenBlock, LeaveBlock, Call, Accept, Finish}
use Rattle.rules.specs.declared.vocabulary.Event.{Event}
use Rattle.rules.specs.declared.vocabulary.Outcome.{Outcome}
use Rattle.rules.specs.declared.vocabulary.Outcome.TheVariants.{Waits, Rendezvous as RendezvousBegun, TaskingError, Terminated as Ended}
use Rattle.rules.specs.Picture.{Picture, status, fresh}
use Rattle.rules.specs.Events.{◌does◌}
use Rattle.rules.specs.Rules.{Step, Steps}
use Rattle.rules.specs.Dead.{Dead}

-- a statement that task t has the status s
pub record Shown : Type 0 where
  pub task : ℕ
  pub is : Status

-- a row: the events before the last, the last one, its outcome, the names that it adds, and statuses after it
pub record Run : Type 0 where
  pub before : List Event
  pub last : Event
  pub outcome : Outcome
  pub added : List ℕ
  pub shown : List Shown

-- each of the tasks has the status stated
abbrev pub AllShown : Picture → List Shown → Type 0
AllShown q [] = Unit {0}
AllShown q (s ∷ ss) = (status q s.task ≡ s.is) × AllShown q ss

-- the events are accepted in turn, the last with that outcome, and exactly the tasks listed are dead after it and not before it
pub record Holds (r : Run) : Type 0 where
  pub p : Picture
  pub q : Picture
  pub plays : Steps fresh r.before p
  pub answers : Step p r.last r.outcome q
  pub adds : (t : ℕ) → Contains r.added t ↔ (Dead q t × (Dead p t → ⊥))
  pub shows : AllShown q r.shown

-- every row of the list holds
abbrev pub AllHold : List Run → Type 0
AllHold [] = Unit {0}
AllHold (r ∷ rs) = Holds r × AllHold rs

-- the row with these five
abbrev pub run : List Event → Event → Outcome → List ℕ → List Shown → Run
run before last outcome added shown = record { before = before; last = last; outcome = outcome; added = added; shown = shown }

-- the statement that task t has the status s
abbrev pub shows : ℕ → Status → Shown
shows t s = record { task = t; is = s }

-- the table; above each row its events in letters, then outcome, names added and statuses
-- (N begin, B open a block, L leave it, C call, A accept, F finish, each with the actor first)
abbrev pub runs : List Run
runs =
    -- F,0: 4, none
    run [] (0 does Finish) Ended [] [] ∷
    -- N,0,1,1 C,1,1,0: 1, task 1
    run (0 does Begin 1 1 ∷ []) (1 does Call 1 0) Waits (1 ∷ []) [] ∷
    -- N,0,1,1 C,1,1,0 F,0: 1, task 0
    run (0 does Begin 1 1 ∷ 1 does Call 1 0 ∷ []) (0 does Finish) Waits (0 ∷ []) [] ∷
    -- N,0,1,1 N,0,2,1 C,1,2,0: 1, none
    run (0 does Begin 1 1 ∷ 0 does Begin 2 1 ∷ []) (1 does Call 2 0) Waits [] [] ∷
    -- N,0,1,1 N,0,2,1 C,1,2,0 C,2,1,0: 1, tasks 1 and 2
    run (0 does Begin 1 1 ∷ 0 does Begin 2 1 ∷ 1 does Call 2 0 ∷ []) (2 does Call 1 0) Waits (1 ∷ 2 ∷ []) [] ∷
    -- N,0,1,1 B,1 N,1,2,0 L,1: 1, none
    run (0 does Begin 1 1 ∷ 1 does OpenBlock ∷ 1 does Begin 2 0 ∷ []) (1 does LeaveBlock) Waits [] [] ∷
    -- N,0,1,1 B,1 N,1,2,0 L,1 C,2,1,0: 1, tasks 1 and 2
    run (0 does Begin 1 1 ∷ 1 does OpenBlock ∷ 1 does Begin 2 0 ∷ 1 does LeaveBlock ∷ []) (2 does Call 1 0) Waits (1 ∷ 2 ∷ []) [] ∷
    -- N,0,1,1 N,0,2,0 A,1,1 C,2,1,0 B,1 N,1,3,1 C,3,3,0: 1, tasks 2 and 3
    run (0 does Begin 1 1 ∷ 0 does Begin 2 0 ∷ 1 does Accept 1 ∷ 2 does Call 1 0 ∷ 1 does OpenBlock ∷ 1 does Begin 3 1 ∷ []) (3 does Call 3 0) Waits (2 ∷ 3 ∷ []) [] ∷
    -- N,0,1,1 N,0,2,0 B,1 N,1,3,1 A,1,1 C,2,1,0 C,3,3,0: 1, task 3
    run (0 does Begin 1 1 ∷ 0 does Begin 2 0 ∷ 1 does OpenBlock ∷ 1 does Begin 3 1 ∷ 1 does Accept 1 ∷ 2 does Call 1 0 ∷ []) (3 does Call 3 0) Waits (3 ∷ []) [] ∷
    -- N,0,1,1 A,1,1: 1, none
    run (0 does Begin 1 1 ∷ []) (1 does Accept 1) Waits [] [] ∷
    -- N,0,1,1 A,1,1 F,0: 1, tasks 0 and 1
    run (0 does Begin 1 1 ∷ 1 does Accept 1 ∷ []) (0 does Finish) Waits (0 ∷ 1 ∷ []) [] ∷
    -- N,0,1,2 N,0,2,0 N,0,3,0 C,2,1,1 C,3,1,0 A,1,3: 2, none, 3 Engaged
    run (0 does Begin 1 2 ∷ 0 does Begin 2 0 ∷ 0 does Begin 3 0 ∷ 2 does Call 1 1 ∷ 3 does Call 1 0 ∷ []) (1 does Accept 3) RendezvousBegun [] (shows 3 (Engaged 1) ∷ []) ∷
    -- N,0,1,1 N,0,2,0 C,2,1,0 F,1: 4, none, 2 Running
    run (0 does Begin 1 1 ∷ 0 does Begin 2 0 ∷ 2 does Call 1 0 ∷ []) (1 does Finish) Ended [] (shows 2 Running ∷ []) ∷
    -- N,0,1,1 N,0,2,0 C,2,1,0 F,1 C,2,1,0: 3, none
    run (0 does Begin 1 1 ∷ 0 does Begin 2 0 ∷ 2 does Call 1 0 ∷ 1 does Finish ∷ []) (2 does Call 1 0) TaskingError [] [] ∷
    -- N,0,1,0 N,1,2,0 F,0 F,1 F,2: 4, none, all Terminated
    run (0 does Begin 1 0 ∷ 1 does Begin 2 0 ∷ 0 does Finish ∷ 1 does Finish ∷ []) (2 does Finish) Ended [] (shows 0 Terminated ∷ shows 1 Terminated ∷ shows 2 Terminated ∷ []) ∷
    []

-- every row of the table holds
abbrev pub RunsHold : Type 0
RunsHold = AllHold runs
