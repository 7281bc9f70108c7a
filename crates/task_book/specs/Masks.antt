-- Sets of the tasks that have begun, by a test.
use Rattle.std.specs.Prelude.{◌≡◌, ℕ, ◌<◌, ◌≤◌, Bool, false, ◌&&◌, nat_lt}
use Rattle.books.specs.declared.members.Members.{Members}
use Rattle.books.specs.Points.{member}

-- the tasks in the set are those below n that pass a test
abbrev pub Marks : Members → ℕ → (ℕ → Bool) → Type 0
Marks set n test = (t : ℕ) → member set t ≡ (nat_lt t n && test t)

-- each task below n is in the set or not as a test answered of it, and no other task is
pub record Tested (answers : ℕ → Bool → Type 0) (n : ℕ) (set : Members) : Type 0 where
  pub below : (t : ℕ) → t < n → answers t (member set t)
  pub beyond : (t : ℕ) → n ≤ t → member set t ≡ false
