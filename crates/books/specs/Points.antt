-- What a set of numbers holds, and a set of points.
use Rattle.std.specs.Prelude.{ℕ, ◌/◌, ◌%◌, ◌^◌, Bool, cond, ◌==◌}
use Rattle.books.specs.declared.members.Members.{Members}
use Rattle.books.specs.declared.points.PointSet.{PointSet}

-- the binary digit of n at place i is 1
unfoldable pub bit : ℕ → ℕ → Bool
bit n i = n / 2 ^ i % 2 == 1

-- number k is in the set
abbrev pub member : Members → ℕ → Bool
member s k = bit s.0 k

-- point q is in the set: an even one is a member of the one half, an odd one of the other
unfoldable pub has : PointSet → ℕ → Bool
has s q = cond (q % 2 == 0) (member s.even (q / 2)) (member s.odd (q / 2))
