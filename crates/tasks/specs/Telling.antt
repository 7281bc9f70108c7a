-- What a picture shows, and what is promised of an event that it is told.
use Rattle.std.specs.Prelude.{◌≡◌, Ok, Err, Result}
use Rattle.refusals.specs.declared.Refusal.{Refusal}
use Rattle.rules.specs.declared.vocabulary.Event.{Event}
use Rattle.rules.specs.declared.vocabulary.Outcome.{Outcome}
use Rattle.rules.specs.Picture.{Picture as Shown}
use Rattle.rules.specs.Rules.{Step}
use Rattle.rules.specs.Refusals.{Refused}
use Rattle.tasks.specs.declared.picture.Picture.{Picture}
use Rattle.tasks.specs.View.{view}

-- the picture of the rules that a picture stands for
abbrev pub shown : Picture → Shown
shown p = view p.tables

-- the answer r to the event v: accepted, it is a step of the rules; refused, it is by the first check that fails, and the picture is as it was
abbrev pub Told : Picture → Event → Result Outcome Refusal → Picture → Type 0
Told p v (Ok o) q = Step (shown p) v o (shown q)
Told p v (Err n) q = Refused (shown p) v n × (q ≡ p)
