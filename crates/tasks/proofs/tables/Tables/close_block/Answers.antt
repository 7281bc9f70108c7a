use Rattle.std.proofs.Common.{length, ap, ◌∙◌}
use Rattle.rules.specs.declared.vocabulary.Status.TheVariants.{Running}
use Rattle.rules.specs.declared.vocabulary.Master.{Master}
use Rattle.rules.specs.Picture.{Picture, frames}
use Rattle.rules.specs.Changes.{let_go, turn}
use Rattle.tasks.specs.View.{view, frames_of}
use Rattle.tasks.proofs.tables.Tables.close_block.Goals as goal

pub returns : goal.returns
returns c f fs e =
    let m = c.args.t.number in
    let p = view c.args.self.now in
    let level = c.open_frames-level.ensures ∙ ap (λ t. length (frames_of t)) c.task.ensures ∙ ap length e in
    let gone = c.let_go.ensures ∙ ap (λ (b : Master). let_go p b.creator b.level) c.block.ensures ∙ ap (λ n. let_go p m n) level in
    c.leave_frame.ensures f fs (ap (λ (P : Picture). frames P m) gone ∙ e) ∙ ap (λ (P : Picture). turn P m Running fs) gone
