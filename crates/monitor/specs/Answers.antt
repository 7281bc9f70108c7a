-- What the questions to a monitor answer, in the words of the rules.
use Rattle.std.specs.Prelude.{◌≡◌, ℕ, ◌<◌, ◌≤◌, Bool, true, ◌↔◌, Option, MatchOption}
use Rattle.books.specs.Shut.{size}
use Rattle.rules.specs.Dead.{Dead}
use Rattle.rules.specs.Limits.{most_tasks}
use Rattle.rules.specs.Picture.{Picture}

-- n tasks are dead: n is the size of whatever test tells the dead
abbrev pub DeadCount : Picture → ℕ → Type 0
DeadCount p n = (test : ℕ → Bool) → ((t : ℕ) → (test t ≡ true) ↔ Dead p t) → n ≡ size most_tasks test

-- r is the lowest dead task from a number on, if there is one
abbrev pub LowestDead : Picture → ℕ → Option ℕ → Type 0
LowestDead p from r =
    MatchOption r ((t : ℕ) → from ≤ t → Dead p t → ⊥) (λ u. (from ≤ u) × Dead p u × ((t : ℕ) → from ≤ t → t < u → Dead p t → ⊥))
