use Rattle.std.proofs.Common.{None, Some, Option, MatchOption, ◌<◌, ℕ, rules}
use Rattle.std.specs.Bool.{⊤}
use Rattle.books.specs.declared.members.Members.{Members}
use Rattle.books.specs.Members.{TakesLowest}
use Rattle.books.specs.Points.{member}
use Rattle.books.specs.Shut.{size}
use Rattle.books.proofs.Sets.{takes_fewer}
use Rattle.books.proofs.members.MemberIterIterator.next.Goals as goal

fewer : (s : Members) (r : Option ℕ) (t : Members) → TakesLowest s r t → MatchOption r ⊤ (λ _. size 64 (member t) < size 64 (member s))
fewer s None t e = tt
fewer s (Some k) t e = takes_fewer 64 (member s) (member t) k e.small e.is_member e.others

pub returns-clause-goes : goal.returns-clause-goes
returns-clause-goes c =
    let f = fewer c.args.self.now.left c.take_lowest.result c.take_lowest.new.self c.take_lowest.ensures in
    search rules
