use Rattle.std.proofs.Common.{◌≡◌, ℕ, ◌<◌, [], length, sym, ap, ◌∙◌, subst, arith}
use Rattle.rules.specs.declared.vocabulary.Status.TheVariants.{Accepting}
use Rattle.rules.specs.Limits.{frame_room}
use Rattle.rules.specs.Picture.{Picture, frames, queue}
use Rattle.rules.specs.Changes.{engage, mark}
use Rattle.rules.specs.Rules.{In, Takes, takes, waits_to_accept}
use Rattle.tasks.specs.View.{view, frames_of}
use Rattle.tasks.specs.declared.ids.TaskId.{TaskId}
use Rattle.tasks.proofs.Views.{arrived, proper}
use Rattle.tasks.proofs.tables.Tables.accept.Goals as goal

pub returns-in_default : goal.returns-in_default
returns-in_default c =
    let p = view c.args.self.now in
    let a = c.args.actor.number in
    let o = rw c.in_ok-open_set.ensures.ok_part at c.new.ensures in
    let room : length (frames p a) < frame_room = omega (arith, ap (λ t. length (frames_of t)) c.task-task.ensures) in
    let own = proper c.in_ok-open_set.open_set o.0 (o.1 ∙ ap (λ t. t.entries) c.task-task.ensures) in
    let mine = subst (λ m. (e : ℕ) → In e m → queue p a e ≡ []) o.0 c.in_default.ensures in
    arrived (c.mark.ensures ∙ ap (λ m. mark p a (Accepting m)) o.0) (waits_to_accept c.requires.acts own room mine)

pub engage-requires : goal.engage-requires
engage-requires c =
    let a = c.args.actor.number in
    subst (λ (t : TaskId). length (frames (view c.leave_queue.new.self) t.number) < frame_room) (sym c.in-Some.ensures.0)
    (omega (arith, ap (λ (P : Picture). length (frames P a)) c.leave_queue.ensures, ap (λ t. length (frames_of t)) c.task-task.ensures))

pub returns : goal.returns
returns c =
    let p = view c.args.self.now in
    let a = c.args.actor.number in
    let o = rw c.in_ok-open_set.ensures.ok_part at c.new.ensures in
    let k = c.in-Some.caller in
    let room : length (frames p a) < frame_room = omega (arith, ap (λ t. length (frames_of t)) c.task-task.ensures) in
    let own = proper c.in_ok-open_set.open_set o.0 (o.1 ∙ ap (λ t. t.entries) c.task-task.ensures) in
    let met = c.engage.ensures ∙ ap (λ (t : TaskId). engage (view c.leave_queue.new.self) k.task.number t.number k.entry.number) c.in-Some.ensures.0 in
    arrived (met ∙ ap (λ (P : Picture). engage P k.task.number a k.entry.number) c.leave_queue.ensures)
    (takes c.requires.acts own room (subst (λ m. Takes p a m k.task.number k.entry.number) o.0 c.in-Some.ensures.1))
