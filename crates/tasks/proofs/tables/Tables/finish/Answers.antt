use Rattle.std.proofs.Common.{◌≡◌, [], length, sym, ap, ◌∙◌, subst, arith}
use Rattle.std.proofs.lemmas.List.{nil_from_length}
use Rattle.rules.specs.declared.vocabulary.Status.TheVariants.{Completed, Terminated}
use Rattle.rules.specs.Picture.{Picture, frames}
use Rattle.rules.specs.Changes.{mark}
use Rattle.rules.specs.Rules.{Settles, completes, ends}
use Rattle.tasks.specs.View.{view, frames_of}
use Rattle.tasks.specs.Promises.{Settling}
use Rattle.tasks.proofs.Views.{arrived}
use Rattle.tasks.proofs.Endings.{settling_from}
use Rattle.tasks.proofs.tables.Tables.finish.Goals as goal

pub returns-then-not-over : goal.returns-then-not-over
returns-then-not-over c =
    let p = view c.args.self.now in
    let a = c.args.actor.number in
    let none : frames p a ≡ [] = nil_from_length (frames p a) (omega (arith, ap (λ t. length (frames_of t)) c.task.ensures)) in
    arrived (c.mark.ensures ∙ ap (λ (P : Picture). mark P a Completed) c.dismiss.ensures) (completes c.requires.acts none c.if-not-over.ensures)

pub settle-requires : goal.settle-requires
settle-requires c =
    let p = view c.args.self.now in
    let a = c.args.actor.number in
    subst (λ (P : Picture). Settling P a) (sym (c.mark-2.ensures ∙ ap (λ (P : Picture). mark P a Terminated) c.dismiss.ensures)) (settling_from p a c.requires.reached c.requires.acts)

pub returns : goal.returns
returns c =
    let p = view c.args.self.now in
    let a = c.args.actor.number in
    let none : frames p a ≡ [] = nil_from_length (frames p a) (omega (arith, ap (λ t. length (frames_of t)) c.task.ensures)) in
    ends c.requires.acts none c.if-not-over.ensures
    (subst (λ (P : Picture). Settles P a (view c.settle.new.self)) (c.mark-2.ensures ∙ ap (λ (P : Picture). mark P a Terminated) c.dismiss.ensures) c.settle.ensures)
