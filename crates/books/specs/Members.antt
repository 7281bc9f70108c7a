-- The members of a set of numbers, one by one.
use Rattle.std.specs.Prelude.{◌≡◌, ℕ, ◌<◌, ◌≤◌, true, false, not, ◌&&◌, Option, MatchOption, ◌==◌}
use Rattle.books.specs.declared.members.Members.{Members}
use Rattle.books.specs.Points.{member}

-- k is the lowest member of a set from a number on
pub record LowestMember (set : Members) (from k : ℕ) : Type 0 where
  pub small : k < 64
  pub high : from ≤ k
  pub is_member : member set k ≡ true
  pub first : (i : ℕ) → from ≤ i → i < k → member set i ≡ false

-- k is the lowest member of a set, and after it is taken out another set is left
pub record LowestTaken (set : Members) (k : ℕ) (left : Members) : Type 0 where
  pub small : k < 64
  pub is_member : member set k ≡ true
  pub lowest : (i : ℕ) → i < k → member set i ≡ false
  pub others : (i : ℕ) → member left i ≡ (member set i && not (i == k))
  pub fewer : left.0 < set.0

-- the lowest member is taken out, or there is none
abbrev pub TakesLowest : Members → Option ℕ → Members → Type 0
TakesLowest set r left = MatchOption r ((set.0 ≡ 0) × (left ≡ set)) (λ k. LowestTaken set k left)
