use Rattle.books.proofs.Binary.{zero_bit}
use Rattle.books.proofs.members.Members.empty.Goals as goal

pub returns : goal.returns
returns c = zero_bit
