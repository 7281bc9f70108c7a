-- The numbers of a line, digit by digit.
use Rattle.std.proofs.Common.{◌≡◌, ℕ, ◌^◌, ◌<◌, ◌≤◌, List, length, get_or, take, sym, ap, subst, ⊎_elim, arith}
use Rattle.std.specs.Str.Parse.{AllDigits, digits_value}
use Rattle.std.specs.Int.{IsInRange}
use Rattle.std.proofs.lemmas.Str.Parse.{IsNumeralModel, numerals_by_value, tells_digits, digits_value_short, digit_at}
use Rattle.std.proofs.lemmas.Fmt.{decimal_nonempty, length-decimal-le, first_decimal, digits_decimal}
use Rattle.std.proofs.lemmas.List.{length-take-le}
use Rattle.std.proofs.str.Laws.{order}
use Rattle.lines.specs.Numbers.{Numeral}

pub own : IsNumeralModel (AllDigits 10) (digits_value 10)
own = numerals_by_value (AllDigits 10) tells_digits

-- the digits so far write a number that is as short as they are
pub so_far_lt : (s : List ℕ) (i k : ℕ) → AllDigits 10 (take i s) → i ≤ length s → i ≤ k → digits_value 10 (take i s) < 10 ^ k
so_far_lt s i k h within few = digits_value_short own (take i s) k h (omega (arith, length-take-le i s within))

-- a numeral has 1 to 3 digits, and no leading zero
pub numeral_some : (s : List ℕ) → Numeral s → 0 < length s
numeral_some s (n, small, e) = omega (arith, ap length e, decimal_nonempty n (omega arith))

pub numeral_short : (s : List ℕ) → Numeral s → length s ≤ 3
numeral_short s (n, small, e) = omega (arith, ap length e, length-decimal-le 3 n (omega arith) (omega arith) (omega arith))

pub numeral_first : (s : List ℕ) → Numeral s → 1 < length s → get_or s 0 0 ≡ 48 → ⊥
numeral_first s (n, small, e) long zero_first =
    ⊎_elim
    (λ (more : 0 < n). omega (arith, first_decimal n more (omega arith), ap (λ l. get_or l 0 0) e))
    (λ (none : n ≤ 0). omega (arith, ap length e, length-decimal-le 1 n (omega arith) (omega arith) (omega arith)))
    (order 0 n)

pub numeral_digit : (s : List ℕ) (i : ℕ) → Numeral s → i < length s → IsInRange 48 57 (get_or s i 0)
numeral_digit s i (n, small, e) within = digit_at s i (subst (AllDigits 10) (sym e) (digits_decimal own n (omega arith))) within
