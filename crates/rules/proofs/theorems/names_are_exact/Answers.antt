-- A named task is dead, since shut sets stay shut; a dead task is named, since every other has a way out.
use Rattle.rules.proofs.Invariant.Reached.{reached_sound}
use Rattle.rules.proofs.NamedStayDead.Names.{names_dead}
use Rattle.rules.proofs.WaysOut.Drain.{dead_named}
use Rattle.rules.proofs.theorems.names_are_exact.Goals as goal

pub returns : goal.returns
returns c p reached s left t = (names_dead (reached_sound p reached) left t, dead_named (reached_sound p reached) s left t)
