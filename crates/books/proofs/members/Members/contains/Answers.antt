use Rattle.std.proofs.Common.{eqb, sym, ap, ◌∙◌, arith, rules}
use Rattle.std.proofs.lemmas.Nat.Bits.{shr_and_one}
use Rattle.std.proofs.lemmas.Bool.{le-ltb}
use Rattle.books.specs.Points.{bit}
use Rattle.books.proofs.Binary.{high_bit}
use Rattle.books.proofs.members.Members.contains.Goals as goal

pub returns-then-k-lt64 : goal.returns-then-k-lt64
unfolding bit
returns-then-k-lt64 c = ap (λ x. eqb x 1) (shr_and_one c.args.self.0 c.args.k)

pub returns-else-k-lt64 : goal.returns-else-k-lt64
returns-else-k-lt64 c = le-ltb c.args.k 64 (omega arith) ∙ sym (high_bit 64 c.args.self.0 c.args.k (search rules) (omega arith))
