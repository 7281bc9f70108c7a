-- What a tape makes of a monitor is what it makes of the state that the monitor stands for.
use Rattle.std.proofs.Common.{ℕ, List, [], ◌∷◌, Ok, Err, Result, ap}
use Rattle.tape.specs.declared.tape.PlayRefusal.{PlayRefusal}
use Rattle.tape.specs.declared.tape.PlayRefusal.TheVariants.{LineRefused, TapeTooLong}
use Rattle.tape.specs.Tapes.{Accepts, Played}
use Rattle.monitor.specs.declared.monitor.Monitor.{Monitor}
use Rattle.monitor.specs.Of.{state_of}
use Rattle.monitor.specs.Plays.{MonitorLine}
use Rattle.monitor.specs.State.{LineTold, TapePlayed}

lines_as : (m : Monitor) (ls : List (List ℕ)) (w : Monitor) → Accepts MonitorLine m ls w → Accepts LineTold (state_of m) ls (state_of w)
lines_as m [] w e = ap state_of e
lines_as m (l ∷ ls) w (n, told, rest) = (state_of n, told, lines_as n ls w rest)

pub plays_as : (m : Monitor) (tape : List ℕ) (r : Result ℕ PlayRefusal) (w : Monitor) → Played MonitorLine m tape r w → TapePlayed (state_of m) tape r (state_of w)
plays_as m tape (Ok n) w (short, all, told) = (short, all, lines_as m _ w told)
plays_as m tape (Err (LineRefused n)) w s = record {
  short = s.short;
  within = s.within;
  accepted = lines_as m _ w s.accepted;
  cause = s.cause;
  refused = s.refused;
}
plays_as m tape (Err TapeTooLong) w (long, same) = (long, ap state_of same)
