-- What one pass over the points of a book keeps and shows.
use Rattle.std.specs.Prelude.{◌≡◌, ℕ, ◌<◌, Bool, true, false}
use Rattle.books.specs.Shut.{Shut}

-- R is a set of points that no shut set meets
pub record Reached (n : ℕ) (f : ℕ → (ℕ → Bool) → Bool) (R : ℕ → Bool) : Type 0 where
  pub points : (q : ℕ) → R q ≡ true → q < n
  pub apart : (D : ℕ → Bool) → Shut n f D → (q : ℕ) → R q ≡ true → D q ≡ false

-- no point outside R follows from it
abbrev pub Settled : ℕ → (ℕ → (ℕ → Bool) → Bool) → (ℕ → Bool) → Type 0
Settled n f R = (q : ℕ) → q < n → R q ≡ false → f q R ≡ false
