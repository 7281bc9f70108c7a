-- What a line may make of a monitor.
use Rattle.std.specs.Prelude.{ℕ, List, Ok, Err, Result}
use Rattle.refusals.specs.declared.Refusal.{Refusal}
use Rattle.monitor.specs.declared.monitor.Monitor.{Monitor}
use Rattle.monitor.specs.Of.{state_of}
use Rattle.monitor.specs.State.{LineTold}

abbrev pub MonitorLine : Monitor → List ℕ → Result Monitor Refusal → Type 0
MonitorLine m line (Ok w) = LineTold (state_of m) line (Ok (state_of w))
MonitorLine m line (Err e) = LineTold (state_of m) line (Err e)
