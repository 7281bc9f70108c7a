-- The invariant says so.
use Rattle.rules.proofs.Invariant.Reached.{reached_sound}
use Rattle.rules.proofs.theorems.limits_are_kept.Goals as goal

pub returns : goal.returns
returns c p reached = let snd = reached_sound p reached in (snd.few, λ t b. (snd.entries t b, (snd.framed t).shallow))
