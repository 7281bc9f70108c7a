-- The first line of an input is what stands before its first end.
use Rattle.std.proofs.Common.{◌≡◌, ℕ, suc, ◌<◌, ◌≤◌, true, false, cond, eqb, List, [], ◌∷◌, ◌++◌, length, None, Some, Option, refl, ap, ◌∙◌, arith, ne_eqb}
use Rattle.std.proofs.lemmas.List.{length-append}
use Rattle.std.specs.Borrow.{Bor}
use Rattle.std.specs.List.{onto_first}
use Rattle.std.specs.Option.{unwrap_or}
use Rattle.lines.specs.Pieces.{lines_of, Lacks, Cut}

lacks_rest : (c b : ℕ) (s : List ℕ) → Lacks c (b ∷ s) → Lacks c s
lacks_rest c b s none k lt = none (suc k) (omega arith)

first_apart : (c b : ℕ) (s : List ℕ) → Lacks c (b ∷ s) → eqb b c ≡ false
first_apart c b s none = ne_eqb b c (none 0 (omega arith))

lines_front : (p t : List ℕ) → Lacks 10 p → lines_of (p ++ (10 ∷ t)) ≡ p ∷ lines_of t
lines_front [] t none = refl
lines_front (b ∷ p) t none =
    rw (first_apart 10 b p none) (ap (onto_first b) (lines_front p t (lacks_rest 10 b p none)))

lines_single : (p : List ℕ) → Lacks 10 p → 0 < length p → lines_of p ≡ p ∷ []
lines_single [] none some = absurd (omega arith)
lines_single (b ∷ []) none some = rw (first_apart 10 b [] none)
lines_single (b ∷ d ∷ p) none some =
    rw (first_apart 10 b (d ∷ p) none) (ap (onto_first b) (lines_single (d ∷ p) (lacks_rest 10 b (d ∷ p) none) (omega arith)))

length_onto : (b n : ℕ) (ls : List (List ℕ)) → length ls ≤ n → length (onto_first b ls) ≤ suc n
length_onto b n [] few = omega arith
length_onto b n (l ∷ ls) few = omega arith

-- there are no more lines than bytes
pub lines_few : (s : List ℕ) → length (lines_of s) ≤ length s
lines_few [] = omega arith
lines_few (b ∷ s) = elim (eqb b 10) as (λ v. length (cond v ([] ∷ lines_of s) (onto_first b (lines_of s))) ≤ suc (length s)) [ true ↦ omega (arith, lines_few s) | false ↦ length_onto b (length s) (lines_of s) (lines_few s) ]

-- where it is ended, and where it is not
first_ended : (s p t : List ℕ) → Lacks 10 p → s ≡ p ++ (10 ∷ t) → (lines_of s ≡ p ∷ lines_of t) × (length t < length s)
first_ended s p t lacks e = (ap lines_of e ∙ lines_front p t lacks, omega (arith, ap length e ∙ length-append p (10 ∷ t)))

first_open : (s p : List ℕ) → Lacks 10 p → s ≡ p → 0 < length s → lines_of s ≡ p ∷ []
first_open s p lacks e some = ap lines_of e ∙ lines_single p lacks (omega (arith, ap length e))

-- the first line, and what follows it, which is the empty end of the input where nothing does
pub first_line : (s : List ℕ) (r : Bor (List ℕ) × Option (Bor (List ℕ))) (end : Bor (List ℕ)) → Cut 10 s r → 0 < length s → end.now ≡ []
    → (lines_of s ≡ r.0.now ∷ lines_of (unwrap_or r.1 end).now) × (length (unwrap_or r.1 end).now < length s)
first_line s (p, None) end told some empty = rw empty (first_open s p.now told.0 told.1 some, some)
first_line s (p, Some t) end told some empty = first_ended s p.now t.now told.0 told.1
