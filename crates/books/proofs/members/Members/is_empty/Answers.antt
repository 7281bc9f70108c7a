use Rattle.std.proofs.Common.{rules}
use Rattle.books.proofs.Binary.{empty_or_not}
use Rattle.books.proofs.members.Members.is_empty.Goals as goal

pub returns : goal.returns
returns c = empty_or_not c.args.self.0 (search rules)
