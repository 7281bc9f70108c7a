use Rattle.std.proofs.Common.{rules}
use Rattle.tasks.proofs.Bits.{ones_tally}
use Rattle.tasks.proofs.open_set.OpenSet.len.Goals as goal

pub returns : goal.returns
returns c = ones_tally 8 c.args.self.now.mask (search rules)
