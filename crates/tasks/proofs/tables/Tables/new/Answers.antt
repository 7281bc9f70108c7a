use Rattle.std.proofs.Common.{◌≡◌, ℕ, ◌<◌, get_or, ap, ◌∙◌, rules, arith}
use Rattle.rules.specs.declared.vocabulary.Status.TheVariants.{Running}
use Rattle.rules.specs.Changes.{with_status}
use Rattle.rules.specs.Limits.{most_tasks}
use Rattle.rules.specs.Picture.{unborn}
use Rattle.tasks.specs.declared.record.TaskRecord.{TaskRecord}
use Rattle.tasks.specs.View.{blank, task_of}
use Rattle.tasks.proofs.Runs.{new_view}
use Rattle.tasks.proofs.tables.Tables.new.Goals as goal

pub returns : goal.returns
returns c =
    let made = c.from_fn-tasks.ensures.items in
    let each : (k : ℕ) (d : TaskRecord) → k < most_tasks → task_of (get_or c.from_fn-tasks.result k d) ≡ unborn = λ k d h. let w = made.at k d h in search (rules, w) in
    new_view _ _ _ (omega arith) made.long (λ k h. each k blank h) (c.set_status.ensures ∙ ap (λ t. with_status t Running) (each 0 c.index-tasks-0.result (omega arith))) c.new.ensures
