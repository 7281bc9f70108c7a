-- The arrivals have no repeats, and so there is room for one more; the head of a queue, found by a search.
use Rattle.std.proofs.Common.{◌≡◌, ℕ, ◌<◌, ◌≤◌, Bool, ◌≢◌, List, [], ◌∷◌, ◌++◌, length, map, Option, MatchOption, AllPairs, Contains, filter, sym, refl, subst, inl, inr}
use Rattle.std.specs.List.{find}
use Rattle.std.proofs.lemmas.Bool.{cases_Bool, eqb-true}
use Rattle.std.proofs.lemmas.Bool.Decides.{Decides-eqb}
use Rattle.std.proofs.lemmas.List.Elements.{Contains-get_or}
use Rattle.std.proofs.lemmas.List.Quantifiers.{all_pairs_push}
use Rattle.std.proofs.lemmas.Map.Made.{IsDistinct-from_AllPairs}
use Rattle.std.proofs.lemmas.Map.Steps.{length-le_from_distinct_below}
use Rattle.std.proofs.lemmas.Map.Views.{Contains-from_any}
use Rattle.tasks.specs.declared.ids.TaskId.{TaskId}

-- no number stands twice in the list
abbrev pub Unique : List ℕ → Type 0
Unique xs = AllPairs (λ x y. x ≢ y) xs

pub unique_join : (xs : List ℕ) (a : ℕ) → Unique xs → (Contains xs a → ⊥) → Unique (xs ++ (a ∷ []))
unique_join xs a u n = all_pairs_push (λ x y. x ≢ y) xs a u (λ k d l e. n (subst (Contains xs) e (Contains-get_or xs k d l)))

-- so many numbers are below n
pub few_below : (n : ℕ) (xs : List ℕ) → Unique xs → ((t : ℕ) → Contains xs t → t < n) → length xs ≤ n
few_below n xs u b = length-le_from_distinct_below xs n (IsDistinct-from_AllPairs Decides-eqb xs u) (λ t f. b t (Contains-from_any eqb-true t xs f))

-- ---- the first that passes

-- r is the task of the first number that passes, or none does
abbrev IsHead : (ℕ → Bool) → List TaskId → Option TaskId → Type 0
IsHead test xs r = MatchOption r (filter test (map (λ t. t.number) xs) ≡ []) (λ t. (rest : List ℕ) × (filter test (map (λ t. t.number) xs) ≡ t.number ∷ rest))

-- what a search finds is the head of what passes
pub head_found : (test : ℕ → Bool) (xs : List TaskId) (r : Option TaskId) → r ≡ find (λ t. test t.number) xs → IsHead test xs r
head_found test xs r e = subst (IsHead test xs) (sym e) (first xs)
  where
    first : (xs : List TaskId) → IsHead test xs (find (λ t. test t.number) xs)
    first [] = refl
    first (x ∷ xs) = elim (cases_Bool (test x.number)) [
      | inl e ↦ rw (e) (filter test (map (λ t. t.number) xs), refl)
      | inr e ↦ rw (e) (first xs)
    ]
