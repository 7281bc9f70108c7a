use Rattle.std.proofs.Common.{◌^◌, ◌<◌, inl, inr, arith, rules}
use Rattle.std.proofs.lemmas.Bool.{cases_eq}
use Rattle.std.proofs.lemmas.Bool.Decides.{nat_tests}
use Rattle.books.proofs.Binary.{clear_bit, high_bit}
use Rattle.books.proofs.members.Members.remove.Goals as goal

pub returns-then-k-lt64-clause-after : goal.returns-then-k-lt64-clause-after
returns-then-k-lt64-clause-after c i = clear_bit c.args.self.now.0 c.args.k i (search rules) c.if-k-lt64.true

pub returns-else-k-lt64-clause-after : goal.returns-else-k-lt64-clause-after
returns-else-k-lt64-clause-after c i =
    let n = c.args.self.now.0 in
    let fits : n < 2 ^ 64 = search rules in
    elim (cases_eq i c.args.k) [
      | inl e ↦ (let z = high_bit 64 n i fits (omega arith) in grind (arith, nat_tests))
      | inr o ↦ grind (arith, nat_tests)
    ]
