-- What a monitor knows, and what it may make of an event, of a line and of a tape.
use Rattle.std.specs.Prelude.{◌≡◌, ℕ, Bool, true, false, ◌||◌, ◌⊎◌, ◌↔◌, List, Ok, Err, Result}
use Rattle.refusals.specs.declared.Refusal.{Refusal}
use Rattle.rules.specs.declared.vocabulary.Event.{Event}
use Rattle.rules.specs.declared.vocabulary.Outcome.{Outcome}
use Rattle.rules.specs.Dead.{Dead}
use Rattle.rules.specs.Picture.{Picture, fresh}
use Rattle.rules.specs.Refusals.{Refused}
use Rattle.rules.specs.Rules.{Step}
use Rattle.lines.specs.Events.{ReadsEvent}
use Rattle.tape.specs.declared.tape.PlayRefusal.{PlayRefusal}
use Rattle.tape.specs.Tapes.{Played}

-- the picture of the tasks, and whether task t stands named
pub record State : Type 0 where
  pub picture : Picture
  pub named : ℕ → Bool

-- a new monitor: a new picture, and no names
pub record New (s : State) : Type 0 where
  pub picture : s.picture ≡ fresh
  pub named : (t : ℕ) → s.named t ≡ false

-- the event v is accepted in s with the outcome o, adds these names, and makes u
pub record Accepts (s : State) (v : Event) (o : Outcome) (added : ℕ → Bool) (u : State) : Type 0 where
  -- it does what the rules say
  pub step : Step s.picture v o u.picture
  -- it adds exactly the tasks that are dead after it and were not before
  pub adds : (t : ℕ) → (added t ≡ true) ↔ (Dead u.picture t × (Dead s.picture t → ⊥))
  -- the names after it are those before it and those added
  pub names : (t : ℕ) → u.named t ≡ (s.named t || added t)

-- what a line may make of s: it spells an event that is accepted; or it spells none, or one that is refused
abbrev pub LineTold : State → List ℕ → Result State Refusal → Type 0
LineTold s line (Ok u) = (v : Event) × ReadsEvent line (Ok v) × ((o : Outcome) × (added : ℕ → Bool) × Accepts s v o added u)
LineTold s line (Err e) = ReadsEvent line (Err e) ⊎ ((v : Event) × ReadsEvent line (Ok v) × Refused s.picture v e)

-- what a tape may make of s, with the answer r
abbrev pub TapePlayed : State → List ℕ → Result ℕ PlayRefusal → State → Type 0
TapePlayed s tape r u = Played LineTold s tape r u
