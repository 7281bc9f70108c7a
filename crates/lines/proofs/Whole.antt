-- The lines of an input give the input back.
use Rattle.std.proofs.Common.{◌≡◌, ℕ, zero, suc, Bool, true, false, cond, eqb, ◌⊎◌, List, [], ◌∷◌, ◌++◌, length, sym, refl, ap, subst, inl, inr, ⊎_elim, arith, eqb-true}
use borrow.Author.Tests.{eqb-false}
use Rattle.std.specs.List.{flat_map, onto_first, AllByRecursion}
use Rattle.std.proofs.lemmas.List.{length-append}
use Rattle.lines.specs.Pieces.{lines_of, Lacks, ended, Lines}

Joins : List ℕ → List (List ℕ) → Type 0
Joins s ls = (s ≡ flat_map ended ls) ⊎ (s ++ (10 ∷ []) ≡ flat_map ended ls)

joins_onto : (b : ℕ) (s : List ℕ) (ls : List (List ℕ)) → Joins s ls → Joins (b ∷ s) (onto_first b ls)
unfolding Joins
joins_onto b s [] h =
    ⊎_elim (λ e. inr (ap (λ l. b ∷ (l ++ (10 ∷ []))) e)) (λ e. absurd (omega (arith, ap length e, length-append s (10 ∷ [])))) h
joins_onto b s (l ∷ ls) h = ⊎_elim (λ e. inl (ap (λ x. b ∷ x) e)) (λ e. inr (ap (λ x. b ∷ x) e)) h

joins_nil : (s : List ℕ) (ls : List (List ℕ)) → Joins s ls → Joins (10 ∷ s) ([] ∷ ls)
unfolding Joins
joins_nil s ls h = ⊎_elim (λ e. inl (ap (λ x. 10 ∷ x) e)) (λ e. inr (ap (λ x. 10 ∷ x) e)) h

lacks_cons : (b : ℕ) (l : List ℕ) → eqb b 10 ≡ false → Lacks 10 l → Lacks 10 (b ∷ l)
lacks_cons b l e h zero lt = eqb-false b 10 e
lacks_cons b l e h (suc k) lt = h k (omega arith)

lacks_onto : (b : ℕ) (ls : List (List ℕ)) → eqb b 10 ≡ false → AllByRecursion (Lacks 10) ls → AllByRecursion (Lacks 10) (onto_first b ls)
lacks_onto b [] e h = (lacks_cons b [] e (λ k lt. absurd (omega arith)), tt)
lacks_onto b (l ∷ ls) e h = (lacks_cons b l e h.0, h.1)

step : (b : ℕ) (s : List ℕ) (v : Bool) → eqb b 10 ≡ v → Joins s (lines_of s) × AllByRecursion (Lacks 10) (lines_of s) → Joins (b ∷ s) (cond v ([] ∷ lines_of s) (onto_first b (lines_of s))) × AllByRecursion (Lacks 10) (cond v ([] ∷ lines_of s) (onto_first b (lines_of s)))
step b s true e (j, a) = (subst (λ x. Joins (x ∷ s) ([] ∷ lines_of s)) (sym (eqb-true b 10 e)) (joins_nil s (lines_of s) j), (λ k lt. absurd (omega arith), a))
step b s false e (j, a) = (joins_onto b s (lines_of s) j, lacks_onto b (lines_of s) e a)

all_steps : (s : List ℕ) → Joins s (lines_of s) × AllByRecursion (Lacks 10) (lines_of s)
unfolding Joins
all_steps [] = (inl refl, tt)
all_steps (b ∷ s) = step b s (eqb b 10) refl (all_steps s)

pub lines_whole : (s : List ℕ) → Lines s (lines_of s)
unfolding Joins
lines_whole s = let h = all_steps s in record { whole = h.0; plain = h.1 }
