use Rattle.std.proofs.Common.{List, ◌∷◌, length, ap, ◌∙◌, arith}
use Rattle.rules.specs.declared.vocabulary.Status.TheVariants.{Running, Engaged}
use Rattle.rules.specs.declared.vocabulary.Frame.{Frame}
use Rattle.rules.specs.declared.vocabulary.Frame.TheVariants.{Rendezvous}
use Rattle.rules.specs.Picture.{Picture, frames}
use Rattle.rules.specs.Changes.{mark, turn}
use Rattle.rules.proofs.Basics.Tasks.{mark_frames}
use Rattle.tasks.specs.View.{view}
use Rattle.tasks.proofs.tables.Tables.engage.Goals as goal

pub enter-requires : goal.enter-requires
enter-requires c =
    let s = c.args.entry.server.number in
    omega (arith, ap (λ (P : Picture). length (frames P s)) c.mark.ensures, ap length (mark_frames (view c.args.self.now) c.args.caller.number (Engaged s) s))

pub returns : goal.returns
returns c =
    let s = c.args.entry.server.number in
    let a = c.args.caller.number in
    let e = c.args.entry.number in
    let p = view c.args.self.now in
    c.enter.ensures ∙ ap (λ (P : Picture). turn P s Running (Rendezvous a e ∷ frames P s)) c.mark.ensures
    ∙ ap (λ (fs : List Frame). turn (mark p a (Engaged s)) s Running (Rendezvous a e ∷ fs)) (mark_frames p a (Engaged s) s)
