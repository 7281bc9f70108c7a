use Rattle.std.proofs.Common.{[], sym, subst}
use Rattle.rules.specs.Rules.{none}
use Rattle.tasks.specs.Promises.{IsReached}
use Rattle.tasks.proofs.picture.Picture.new.Goals as goal

pub invariant_of-result : goal.invariant_of-result
invariant_of-result c = record { reached = subst IsReached (sym c.new.ensures) ∣ ([], none) ∣₁ }
