use Rattle.std.proofs.Common.{sym, ap, ◌∙◌, subst}
use Rattle.tasks.specs.View.{view}
use Rattle.tasks.specs.declared.picture.Picture.{Picture as CodePicture}
use Rattle.task_book.specs.Names.{HoldsDead}
use Rattle.monitor.proofs.Exactly.{none_dead}
use Rattle.monitor.proofs.monitor.Monitor.of_new_program.Goals as goal

pub invariant_of-result : goal.invariant_of-result
invariant_of-result c =
    record { exact = ∣ subst (λ (x : CodePicture). HoldsDead c.empty.result (view x.tables)) (sym c.new-2.ensures) (subst (HoldsDead c.empty.result) (sym c.new.ensures) (none_dead c.empty.result c.empty.ensures)) ∣₁ }

pub returns : goal.returns
returns c = record { picture = ap (λ (x : CodePicture). view x.tables) c.new-2.ensures ∙ c.new.ensures; named = c.empty.ensures }
