use Rattle.std.proofs.Common.{◌≡◌, ◌<◌, ◌≤◌, length, get_or, decimal, sym, ap, ◌∙◌, subst, ⊎_elim, arith, true-eqb, false-eqb}
use Rattle.std.specs.Str.Parse.{AllDigits, digits_value}
use Rattle.std.proofs.lemmas.Int.Digits.{digits_more, digits_value_more}
use Rattle.std.proofs.lemmas.Fmt.{decimal-digits_value}
use Rattle.std.proofs.lemmas.List.{take_all}
use Rattle.std.proofs.lemmas.Str.Parse.{digit_from_value}
use Rattle.std.proofs.lemmas.Bool.{cases_lt}
use Rattle.std.proofs.lemmas.Str.{digit_value_digit}
use Rattle.lines.proofs.Figures.{own, so_far_lt, numeral_some, numeral_short, numeral_first, numeral_digit}
use Rattle.lines.proofs.numbers.read_number.Goals as goal

pub returns-then-is_empty : goal.returns-then-is_empty
returns-then-is_empty c num =
    let some = numeral_some c.args.s.now num in
    let short = numeral_short c.args.s.now num in
    ⊎_elim (λ none. omega (arith, true-eqb (length c.args.s.now) 0 (sym none ∙ c.is_empty.ensures))) (λ far. omega arith) c.then-is_empty.either

pub returns-then-has_leading_zero : goal.returns-then-has_leading_zero
returns-then-has_leading_zero c num =
    let leading = c.if-has_leading_zero.ensures in
    numeral_first c.args.s.now num leading.0 leading.1

pub returns-then-not-is_ascii_digit : goal.returns-then-not-is_ascii_digit
returns-then-not-is_ascii_digit c num =
    let d = numeral_digit c.args.s.now c.loop-b.b-index num c.loop-b-test.true in
    let h = c.if-not-is_ascii_digit.ensures.cases in grind arith

pub overflow_mul-n : goal.overflow_mul-n
overflow_mul-n c =
    omega (arith, c.loop-b.invariant.1, so_far_lt c.args.s.now c.loop-b.b-index 2 c.loop-b.invariant.0 (omega arith) (omega arith))

pub loop-b-preserved : goal.loop-b-preserved
loop-b-preserved c =
    let s = c.args.s.now in
    let i = c.loop-b.b-index in
    let dig = c.if-not-is_ascii_digit.ensures.bound in
    let within : i < length s = omega arith in
    let worth = digit_value_digit (get_or s i 0) (digit_from_value (get_or s i 0) dig) in
    (digits_more 10 s i within c.loop-b.invariant.0 dig, omega (arith, digits_value_more 10 s i within, worth, c.loop-b.invariant.1))

pub returns : goal.returns
returns c =
    let s = c.args.s.now in
    let all = take_all c.loop-b.b-index s (omega arith) in
    let ds : AllDigits 10 s = subst (AllDigits 10) all c.loop-b.invariant.0 in
    let val : c.loop-b.n ≡ digits_value 10 s = c.loop-b.invariant.1 ∙ ap (digits_value 10) all in
    let lt = so_far_lt s c.loop-b.b-index 3 c.loop-b.invariant.0 (omega arith) (omega arith) in
    let small : c.loop-b.n ≤ 999 = omega (arith, c.loop-b.invariant.1) in
    let some : 0 < length s = omega (arith, false-eqb (length s) 0 c.if-is_empty.ensures) in
    let front : get_or s 0 0 ≡ 48 → length s ≡ 1 = λ z. ⊎_elim (λ (more : 1 < length s). absurd (c.if-has_leading_zero.ensures (more, z))) (λ (one : length s ≤ 1). omega arith) (cases_lt 1 (length s)) in
    (small, sym (decimal-digits_value own s ds some front (omega (arith, val))) ∙ ap decimal (sym val))
