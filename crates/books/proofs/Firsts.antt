-- Taking the lowest member of one of the two halves takes the first point of the set.
use Rattle.std.proofs.Common.{◌≡◌, ℕ, ◌+◌, ◌*◌, ◌/◌, ◌%◌, Bool, true, false, not, ◌&&◌, None, Some, Option, eqb, sym, refl, ap, ◌∙◌, subst, inl, inr, arith}
use Rattle.std.specs.Option.{option_map}
use Rattle.std.proofs.lemmas.Bool.{cases_eq, ne_eqb}
use Rattle.std.proofs.lemmas.Bool.Decides.{nat_tests}
use Rattle.books.specs.declared.members.Members.{Members}
use Rattle.books.specs.declared.points.PointSet.{PointSet}
use Rattle.books.specs.Members.{LowestTaken, TakesLowest}
use Rattle.books.specs.Points.{bit, has}
use Rattle.books.specs.Taking.{PointTaken, TakesPoint}
use Rattle.books.proofs.Binary.{zero_bit}
use Rattle.books.proofs.Words.{even_point, halves, has_even, has_odd, odd_point}

and_true : (b : Bool) → b ≡ (b && true)
and_true true = refl
and_true false = refl

module _ (s : PointSet) (t : ℕ) (w : Members) where
  module _ (h : LowestTaken s.even t w) where
    abbrev less_even : PointSet
    less_even = record { even = w; odd = s.odd }

    even_others : (q : ℕ) → has less_even q ≡ (has s q && not (eqb q (2 * t)))
    even_others q = elim (cases_eq (q % 2) 0) [
      | inl e ↦ (let same : eqb (q / 2) t ≡ eqb q (2 * t) = grind (arith, nat_tests) in
          has_even less_even q e ∙ h.others (q / 2) ∙ (λ i. sym (has_even s q e) i && not (same i)))
      | inr o ↦ (has_odd less_even q o ∙ sym (has_odd s q o) ∙ and_true (has s q) ∙ ap (λ b. has s q && not b) (sym (ne_eqb q (2 * t) (omega arith))))
    ]

    pub even_taken : PointTaken s (2 * t) less_even
    even_taken = record {
      small = let l = h.small in omega arith;
      member = sym (even_point s t) ∙ h.is_member;
      first = λ q before. elim before [
        | inl l ↦ absurd (omega arith)
        | inr l ↦ has_even s q (omega arith) ∙ h.lowest (q / 2) (omega arith)
      ];
      others = even_others;
    }

  module _ (none : s.even.0 ≡ 0) (h : LowestTaken s.odd t w) where
    abbrev less_odd : PointSet
    less_odd = record { even = s.even; odd = w }

    odd_others : (q : ℕ) → has less_odd q ≡ (has s q && not (eqb q (2 * t + 1)))
    odd_others q = elim (cases_eq (q % 2) 0) [
      | inl e ↦ (has_even less_odd q e ∙ sym (has_even s q e) ∙ and_true (has s q) ∙ ap (λ b. has s q && not b) (sym (ne_eqb q (2 * t + 1) (omega arith))))
      | inr o ↦ (let same : eqb (q / 2) t ≡ eqb q (2 * t + 1) = grind (arith, nat_tests) in
          has_odd less_odd q o ∙ h.others (q / 2) ∙ (λ i. sym (has_odd s q o) i && not (same i)))
    ]

    no_even : (q : ℕ) → q % 2 ≡ 0 → has s q ≡ false
    no_even q e = has_even s q e ∙ ap (λ m. bit m (q / 2)) none ∙ zero_bit (q / 2)

    odd_taken : PointTaken s (2 * t + 1) less_odd
    odd_taken = record {
      small = let l = h.small in omega arith;
      member = sym (odd_point s t) ∙ h.is_member;
      first = λ q before. elim before [
        | inl l ↦ no_even q (omega arith)
        | inr l ↦ has_odd s q (λ e. omega arith) ∙ h.lowest (q / 2) (omega arith)
      ];
      others = odd_others;
    }

none_in : (s : PointSet) → s.even.0 ≡ 0 → s.odd.0 ≡ 0 → (q : ℕ) → has s q ≡ false
none_in s e o q = elim (cases_eq (q % 2) 0) [
  | inl h ↦ has_even s q h ∙ ap (λ m. bit m (q / 2)) e ∙ zero_bit (q / 2)
  | inr h ↦ has_odd s q h ∙ ap (λ m. bit m (q / 2)) o ∙ zero_bit (q / 2)
]

-- where there is no even point, the lowest of the odd half gives the first point, or there is none
pub odd_or_none : (s : PointSet) (e : Members) (r : Option ℕ) (w : Members) → s.even.0 ≡ 0 → e ≡ s.even → TakesLowest s.odd r w
    → TakesPoint s (option_map (λ t. 2 * t + 1) r) (halves e w)
odd_or_none s e None w none same odd = (none_in s none odd.0, λ i. halves (same i) (odd.1 i))
odd_or_none s e (Some t) w none same odd = subst (λ x. PointTaken s (2 * t + 1) (halves x w)) (sym same) (odd_taken s t w none odd)
