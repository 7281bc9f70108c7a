use Rattle.std.proofs.Common.{sym, ap, ◌∙◌}
use Rattle.rules.specs.declared.vocabulary.Status.TheVariants.{Running}
use Rattle.rules.specs.Picture.{Picture}
use Rattle.rules.specs.Changes.{mark}
use Rattle.rules.specs.Rules.{ends_rendezvous}
use Rattle.tasks.specs.View.{frames_of}
use Rattle.tasks.proofs.Views.{arrived}
use Rattle.tasks.proofs.Reach.{partner_small}
use Rattle.tasks.proofs.tables.Tables.end_rendezvous.Goals as goal

pub invariant_of-caller : goal.invariant_of-caller
invariant_of-caller c =
    let x = rw c.in_ok-partner.ensures.ok_part at c.partner.ensures in
    record { small = partner_small c.args.actor.number c.in_ok-partner.partner x.0 x.1 c.requires.reached (sym (ap frames_of c.task.ensures) ∙ x.2) }

pub returns : goal.returns
returns c =
    let x = rw c.in_ok-partner.ensures.ok_part at c.partner.ensures in
    let f = sym (ap frames_of c.task.ensures) ∙ x.2 in
    arrived (c.mark.ensures ∙ ap (λ (P : Picture). mark P c.in_ok-partner.partner Running) (c.leave_frame.ensures _ x.1 f)) (ends_rendezvous c.requires.acts f)
