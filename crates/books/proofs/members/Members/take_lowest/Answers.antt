use Rattle.std.proofs.Common.{refl, arith}
use Rattle.books.proofs.Binary.{cleared_less, no_bit}
use Rattle.books.proofs.members.Members.take_lowest.Goals as goal

pub returns-in_err-lowest : goal.returns-in_err-lowest
returns-in_err-lowest c =
    let s = c.args.self.now in
    rw c.from_residual.ensures (no_bit s.0 (λ k. c.in_err-lowest.ensures k (omega arith)), refl)

pub returns : goal.returns
returns c =
    let s = c.args.self.now in
    let k = c.in_ok-lowest.lowest in
    let low = c.in_ok-lowest.ensures in
    record {
      small = low.small;
      is_member = low.is_member;
      lowest = λ i l. low.first i (omega arith) l;
      others = c.remove.ensures.after;
      fewer = cleared_less s.0 c.remove.new.self.0 k low.is_member c.remove.ensures.after;
    }
