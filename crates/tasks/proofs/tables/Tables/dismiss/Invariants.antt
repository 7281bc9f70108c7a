use Rattle.std.proofs.Common.{cond}
use Rattle.rules.specs.declared.vocabulary.Status.TheVariants.{Running}
use Rattle.rules.specs.Picture.{queued_at_server}
use Rattle.rules.specs.Changes.{with_status}
use Rattle.tasks.proofs.Views.{Changed}
use Rattle.tasks.proofs.tables.Tables.dismiss.Given as goal

abbrev pub invariant-loop-task : goal.invariant-loop-task
invariant-loop-task l = Changed (λ t. cond (queued_at_server l.server.number t.status) (with_status t Running) t) l.initial.task-items l.task-items l.task-index
