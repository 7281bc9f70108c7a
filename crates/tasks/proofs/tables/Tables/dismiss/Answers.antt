use Rattle.std.proofs.Common.{ap₂, refl, ℕ, List, not, cond, map, ap, ◌∙◌, arith, rules}
use Rattle.arrayvec.proofs.ArrayVecLemmas.{filter-from_retain}
use Rattle.rules.specs.declared.vocabulary.Status.TheVariants.{Running}
use Rattle.rules.specs.Picture.{Task, queued_at_server, status}
use Rattle.rules.specs.Changes.{with_status}
use Rattle.tasks.specs.View.{view}
use Rattle.tasks.specs.declared.ids.TaskId.{TaskId}
use Rattle.tasks.proofs.Lists.{map-filter}
use Rattle.tasks.proofs.Views.{changed_all}
use Rattle.tasks.proofs.tables.Tables.dismiss.Goals as goal

pub returns : goal.returns
returns c =
    let p = view c.args.self.now in
    let s = c.args.server.number in
    let left = λ (t : ℕ). not (queued_at_server s (status p t)) in
    let kept = filter-from_retain _ (λ (t : TaskId). left t.number) _ (λ x b f' y called. search rules) _ _ c.retain.ensures.filtered in
    ap₂ (λ (f : ℕ → Task) (xs : List ℕ). record { begun = p.begun; task = f; arrivals = xs })
    (changed_all (λ t. cond (queued_at_server s t.status) (with_status t Running) t) _ _ _ c.loop-task.invariant (omega (arith, c.loop-task.auto.task-items)) refl)
    (ap (map (λ (t : TaskId). t.number)) kept ∙ map-filter (λ (t : TaskId). t.number) left c.args.self.now.arrivals.items)
