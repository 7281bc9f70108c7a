use Rattle.std.proofs.Common.{rules}
use Rattle.books.proofs.Binary.{and_not_bit}
use Rattle.books.proofs.members.Members.difference.Goals as goal

pub returns : goal.returns
returns c k = and_not_bit 64 c.args.self.0 c.args.other.0 k (search rules) (search rules)
