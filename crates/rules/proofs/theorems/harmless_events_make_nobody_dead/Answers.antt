-- Whoever is dead after a harmless event was dead before it.
use Rattle.rules.proofs.Invariant.Reached.{reached_sound}
use Rattle.rules.proofs.Harmless.{dead_before}
use Rattle.rules.proofs.theorems.harmless_events_make_nobody_dead.Goals as goal

pub returns : goal.returns
returns c p q v o reached = dead_before (reached_sound p reached)
