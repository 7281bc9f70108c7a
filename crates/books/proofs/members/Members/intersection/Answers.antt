use Rattle.books.proofs.Binary.{and_bit}
use Rattle.books.proofs.members.Members.intersection.Goals as goal

pub returns : goal.returns
returns c = and_bit c.args.self.0 c.args.other.0
