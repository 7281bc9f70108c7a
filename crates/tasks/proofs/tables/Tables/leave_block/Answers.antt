use Rattle.std.proofs.Common.{length, sym, ap, ◌∙◌, subst}
use Rattle.rules.specs.declared.vocabulary.Frame.TheVariants.{Block}
use Rattle.rules.specs.declared.vocabulary.Master.{Master}
use Rattle.rules.specs.Picture.{Over}
use Rattle.rules.specs.Rules.{leaves, waits_to_leave}
use Rattle.tasks.specs.View.{view, frames_of}
use Rattle.tasks.proofs.Views.{arrived}
use Rattle.tasks.proofs.tables.Tables.leave_block.Goals as goal

pub returns-then-block_is_over : goal.returns-then-block_is_over
returns-then-block_is_over c =
    let p = view c.args.self.now in
    let a = c.args.actor.number in
    let b = c.if-not-in_block.ensures in
    let fe = sym (ap frames_of c.task.ensures) ∙ b.1 in
    let level = c.open_frames-level.ensures ∙ ap (λ t. length (frames_of t)) c.task-2.ensures ∙ ap length fe in
    arrived (c.close_block.ensures Block b.0 fe) (leaves c.requires.acts fe (subst (λ l. Over p a l) level (subst (λ (b : Master). Over p b.creator b.level) c.block.ensures c.if-block_is_over.ensures)))

pub returns : goal.returns
returns c =
    let p = view c.args.self.now in
    let a = c.args.actor.number in
    let b = c.if-not-in_block.ensures in
    let fe = sym (ap frames_of c.task.ensures) ∙ b.1 in
    let level = c.open_frames-level.ensures ∙ ap (λ t. length (frames_of t)) c.task-2.ensures ∙ ap length fe in
    arrived c.mark.ensures (waits_to_leave c.requires.acts fe (subst (λ l. Over p a l → ⊥) level (subst (λ (b : Master). Over p b.creator b.level → ⊥) c.block.ensures c.if-block_is_over.ensures)))
