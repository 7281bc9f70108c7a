use Rattle.std.proofs.Common.{◌^◌, ◌<◌, arith, rules}
use Rattle.std.specs.Int.{w8}
use Rattle.std.proofs.lemmas.Nat.Bits.{bit_at-trailing_zeros}
use Rattle.tasks.proofs.open_set.OpenSet.lowest.Goals as goal

pub returns : goal.returns
returns c =
    let s = c.args.self.now in
    let fits : s.mask < 2 ^ 8 = search rules in
    let t = bit_at-trailing_zeros w8 s.mask s.some fits in
    (t.1, λ k l e. omega (arith, t.2 k l, e))
