use Rattle.std.proofs.Common.{◌≡◌, ◌≤◌, length, take, drop}
use Rattle.lines.specs.Pieces.{lines_of}
use Rattle.tape.specs.Tapes.{Accepts}
use Rattle.tape.proofs.tape.play.Given as goal

abbrev pub invariant-loop-line : goal.invariant-loop-line
invariant-loop-line g l =
    Accepts g.T.Teller.steps l.initial.teller (take l.told (lines_of l.tape)) l.teller × (l.line-iterator ≡ drop l.told (lines_of l.tape)) × (l.told ≤ length (lines_of l.tape))
