-- A shut set stays shut.
use Rattle.rules.proofs.Invariant.Reached.{reached_sound}
use Rattle.rules.proofs.NamedStayDead.Names.{names_stay}
use Rattle.rules.proofs.theorems.names_are_never_withdrawn.Goals as goal

pub returns : goal.returns
returns c p q v o reached step s u left later t = names_stay (reached_sound p reached) step left later t
