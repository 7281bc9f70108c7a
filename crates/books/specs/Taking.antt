-- The points of a set, one by one.
use Rattle.std.specs.Prelude.{◌≡◌, ℕ, ◌%◌, ◌<◌, true, false, not, ◌&&◌, ◌⊎◌, Option, MatchOption, ◌==◌}
use Rattle.books.specs.declared.points.PointSet.{PointSet}
use Rattle.books.specs.Points.{has}

-- even points come before odd ones, and low ones before high ones
abbrev pub ComesBefore : ℕ → ℕ → Type 0
ComesBefore q p = (q % 2 < p % 2) ⊎ ((q % 2 ≡ p % 2) × (q < p))

-- p is the first point of a set, and after it is taken out another set is left
pub record PointTaken (s : PointSet) (p : ℕ) (left : PointSet) : Type 0 where
  pub small : p < 128
  pub member : has s p ≡ true
  pub first : (q : ℕ) → ComesBefore q p → has s q ≡ false
  pub others : (q : ℕ) → has left q ≡ (has s q && not (q == p))

-- the first point is taken out, or there is none
abbrev pub TakesPoint : PointSet → Option ℕ → PointSet → Type 0
TakesPoint s r left = MatchOption r (((q : ℕ) → has s q ≡ false) × (left ≡ s)) (λ p. PointTaken s p left)
