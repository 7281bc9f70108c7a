-- How many entries are in a mask.
use Rattle.std.proofs.Common.{◌≡◌, ℕ, zero, suc, ◌+◌, ◌/◌, ◌%◌, ◌^◌, ◌<◌, sym, refl, subst, add-one, arith}
use lib.Count.{ones, ones_step}
use Rattle.std.proofs.lemmas.Nat.{shr_below}
use Rattle.std.proofs.lemmas.Nat.Bits.{bit_at_lowest, bit_at-suc}
use Rattle.tasks.specs.Sets.{tally}

tally_low : (n w : ℕ) → tally n (suc w) ≡ n % 2 + tally (n / 2) w
unfolding tally
tally_low n zero = omega (arith, bit_at_lowest n)
tally_low n (suc w) = omega (arith, tally_low n w, bit_at-suc n w)

none_tally : (n : ℕ) → n < 1 → ones n ≡ tally n 0
unfolding tally ones
none_tally zero h = refl
none_tally (suc n) h = absurd (omega arith)

pub ones_tally : (w n : ℕ) → n < 2 ^ w → ones n ≡ tally n w
ones_tally zero n h = none_tally n h
ones_tally (suc w) n h = omega (arith, ones_step n, ones_tally w (n / 2) (shr_below n w 1 (subst (λ j. n < 2 ^ j) (sym (add-one w)) h)), tally_low n w)
