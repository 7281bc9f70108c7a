use Rattle.std.proofs.Common.{◌≡◌, ◌≤◌, length, take, not, eqb, filter}
use Rattle.tasks.specs.declared.ids.TaskId.{TaskId}
use Rattle.tasks.proofs.tables.Tables.leave_queue.Given as goal

abbrev pub invariant-loop-other : goal.invariant-loop-other
invariant-loop-other l =
    (l.others.items ≡ filter (λ (t : TaskId). not (eqb t.number l.fn.caller.number)) (take l.other-index l.other-items)) × (length l.others.items ≤ l.other-index)
