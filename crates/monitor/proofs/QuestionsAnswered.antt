-- The questions are answered by the dead.
use Rattle.std.proofs.Common.{◌≡◌, ℕ, ◌≤◌, false, Some, None, Option, MatchOption}
use Rattle.std.proofs.lemmas.Bool.{both_ways}
use Rattle.books.specs.declared.members.Members.{Members}
use Rattle.books.specs.Members.{LowestMember}
use Rattle.books.specs.Points.{member}
use Rattle.rules.specs.Dead.{Dead}
use Rattle.rules.specs.Picture.{Picture}
use Rattle.task_book.specs.Names.{HoldsDead}
use Rattle.monitor.specs.Answers.{LowestDead}

module _ (names : Members) (p : Picture) (exact : HoldsDead names p) where
  not_dead : (t : ℕ) → member names t ≡ false → Dead p t → ⊥
  not_dead t e d = both_ways (member names t) e ((exact t).1 d)

  pub lowest : (from : ℕ) (r : Option ℕ) → MatchOption r ((t : ℕ) → from ≤ t → member names t ≡ false) (LowestMember names from) → LowestDead p from r
  lowest from None none = λ t le. not_dead t (none t le)
  lowest from (Some u) low = (low.high, (exact u).0 low.is_member, λ t le lt. not_dead t (low.first t le lt))
