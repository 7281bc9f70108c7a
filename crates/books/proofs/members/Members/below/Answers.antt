use Rattle.std.proofs.Common.{◌-◌, ap, ◌∙◌, arith}
use Rattle.std.proofs.lemmas.Nat.{one_shl}
use Rattle.std.proofs.lemmas.Bool.Decides.{nat_tests}
use Rattle.books.specs.Points.{bit}
use Rattle.books.proofs.Binary.{ones_bit}
use Rattle.books.proofs.members.Members.below.Goals as goal

pub returns-then-n-ge64 : goal.returns-then-n-ge64
returns-then-n-ge64 c k = let o = ones_bit 64 k in grind (arith, nat_tests)

pub returns-else-n-ge64 : goal.returns-else-n-ge64
returns-else-n-ge64 c k =
    ap (λ m. bit (m - 1) k) (one_shl c.args.n 64 (omega arith)) ∙ ones_bit c.args.n k ∙ grind (arith, nat_tests)
