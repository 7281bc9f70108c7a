use Rattle.std.proofs.Common.{◌≡◌, ◌-◌, ◌<◌, length, arith, false-eqb, refl}
use Rattle.lines.proofs.Cuts.{first_line}
use Rattle.lines.proofs.tape.next_line.Goals as goal

pub returns : goal.returns
returns c =
    let s = c.args.input.now in
    let none : length s - length s ≡ 0 = omega arith in
    let some : 0 < length s = omega (arith, false-eqb (length s) 0 c.if-is_empty.ensures) in
    rw c.unwrap_or.ensures (first_line s c.cut.result _ c.cut.ensures some (rw none refl))
