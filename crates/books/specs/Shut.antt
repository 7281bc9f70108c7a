-- Shut sets of a wait book, and what judging finds. A set of points is a test of their numbers; f p S is the book's
-- answer to the question whether point p follows from the set S; n is how many points the book has.
use Rattle.std.specs.Prelude.{◌≡◌, ℕ, zero, suc, ◌+◌, ◌<◌, Bool, true, false, cond, not, ◌&&◌, nat_lt}

-- each member of S is one of T
abbrev pub Inside : (ℕ → Bool) → (ℕ → Bool) → Type 0
Inside S T = (q : ℕ) → S q ≡ true → T q ≡ true

-- the law of wait books: what follows from a set follows from every larger one
abbrev pub Grows : (ℕ → (ℕ → Bool) → Bool) → Type 0
Grows f = (p : ℕ) (S T : ℕ → Bool) → Inside S T → f p S ≡ true → f p T ≡ true

-- the points that are not in D
abbrev pub outside : ℕ → (ℕ → Bool) → ℕ → Bool
outside n D q = nat_lt q n && not (D q)

-- D is a set of points, and no member of it follows from the points outside it
pub record Shut (n : ℕ) (f : ℕ → (ℕ → Bool) → Bool) (D : ℕ → Bool) : Type 0 where
  pub points : (q : ℕ) → D q ≡ true → q < n
  pub stuck : (q : ℕ) → D q ≡ true → f q (outside n D) ≡ false

-- L is shut, and every shut set lies inside it: L is what judging leaves out
pub record LargestShut (n : ℕ) (f : ℕ → (ℕ → Bool) → Bool) (L : ℕ → Bool) : Type 0 where
  pub shut : Shut n f L
  pub largest : (D : ℕ → Bool) → Shut n f D → Inside D L

-- how many numbers below n are in S
unfoldable pub size : ℕ → (ℕ → Bool) → ℕ
size zero S = 0
size (suc n) S = cond (S n) 1 0 + size n S
