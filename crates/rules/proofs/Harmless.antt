-- Events that make nobody dead.
use Rattle.std.proofs.Common.{ℕ, inl, inr}
use Rattle.rules.specs.Book.{Named}
use Rattle.rules.specs.Dead.{Dead}
use Rattle.rules.specs.Picture.{Picture}
use Rattle.rules.specs.Rules.{Step}
use Rattle.rules.specs.Theorems.{Harmless}
use Rattle.rules.specs.declared.vocabulary.Event.{Event}
use Rattle.rules.specs.declared.vocabulary.Outcome.{Outcome}
use Rattle.rules.proofs.Invariant.Reached.{sound_step}
use Rattle.rules.proofs.Invariant.Sound.{Sound}
use Rattle.rules.proofs.Judging.Judge.{judged, judged_largest}
use Rattle.rules.proofs.NamedStayDead.Names.{able_adds_none, going_on_adds_none, names_dead}
use Rattle.rules.proofs.WaysOut.Drain.{dead_named}

module _ {p q : Picture} {v : Event} {o : Outcome} (k : Sound p) (step : Step p v o q) where
  named_before : Harmless q v o → (t : ℕ) → Named q (judged q) t → Named p (judged p) t
  named_before (inl goes_on) = going_on_adds_none k (sound_step k step) step goes_on (judged_largest p) (judged_largest q)
  named_before (inr able) = able_adds_none k (sound_step k step) step able.0 able.1 (judged_largest p) (judged_largest q)

  -- whoever is dead after a harmless event was dead before it
  pub dead_before : Harmless q v o → (t : ℕ) → Dead q t → Dead p t
  dead_before h t d = names_dead k (judged_largest p) t (named_before h t (dead_named (sound_step k step) (judged q) (judged_largest q) t d))
