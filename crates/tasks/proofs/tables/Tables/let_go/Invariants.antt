use Rattle.rules.specs.Changes.{freed, with_master}
use Rattle.tasks.proofs.Views.{Changed}
use Rattle.tasks.proofs.tables.Tables.let_go.Given as goal

abbrev pub invariant-loop-task : goal.invariant-loop-task
invariant-loop-task l = Changed (λ t. with_master t (freed l.block.creator l.block.level t.master)) l.initial.task-items l.task-items l.task-index
