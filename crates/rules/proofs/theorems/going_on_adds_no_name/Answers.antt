-- A set that is shut afterwards was shut before.
use Rattle.rules.proofs.Invariant.Reached.{reached_sound, sound_step}
use Rattle.rules.proofs.NamedStayDead.Names.{going_on_adds_none}
use Rattle.rules.proofs.theorems.going_on_adds_no_name.Goals as goal

pub returns : goal.returns
returns c p q v o reached step w e s u left later t =
    going_on_adds_none (reached_sound p reached) (sound_step (reached_sound p reached) step) step (w, e) left later t
