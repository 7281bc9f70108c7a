use Rattle.std.proofs.Common.{sym, ◌∙◌, subst, arith}
use Rattle.rules.specs.declared.vocabulary.Action.TheVariants.{Begin}
use Rattle.rules.specs.declared.vocabulary.Outcome.TheVariants.{GoesOn}
use Rattle.rules.specs.Events.{◌does◌}
use Rattle.rules.specs.Rules.{Step, begins}
use Rattle.tasks.specs.View.{view}
use Rattle.tasks.proofs.Views.{arrived}
use Rattle.tasks.proofs.tables.Tables.begin.Goals as goal

pub returns : goal.returns
returns c =
    let p = view c.args.self.now in
    subst (λ k. Step p (c.args.actor.number does Begin k c.args.entries) GoesOn (view c.add.new.self)) (sym (c.if-child-from.false ∙ c.from-2.ensures))
    (arrived c.add.ensures (begins c.requires.acts (omega arith) (omega arith)))
