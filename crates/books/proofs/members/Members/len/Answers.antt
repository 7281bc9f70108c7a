use Rattle.std.proofs.Common.{rules}
use Rattle.books.proofs.Ones.{ones_size}
use Rattle.books.proofs.members.Members.len.Goals as goal

pub returns : goal.returns
returns c = ones_size 64 c.args.self.0 (search rules)
