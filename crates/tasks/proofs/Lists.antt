-- The members of a list that pass a test, by their numbers.
use Rattle.std.proofs.Common.{◌≡◌, ℕ, Bool, List, [], ◌∷◌, map, filter, refl, ap, inl, inr}
use Rattle.std.proofs.lemmas.Bool.{cases_Bool}

-- the numbers of those that pass
pub map-filter : {X : Type 0} (f : X → ℕ) (p : ℕ → Bool) (xs : List X) → map f (filter (λ x. p (f x)) xs) ≡ filter p (map f xs)
map-filter f p [] = refl
map-filter f p (x ∷ xs) = elim (cases_Bool (p (f x))) [ inl e ↦ rw (e) (ap (λ l. f x ∷ l) (map-filter f p xs)) | inr e ↦ rw (e) (map-filter f p xs) ]
