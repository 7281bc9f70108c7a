-- The binary digits of a word of 64, as tests.
use Rattle.std.proofs.Common.{◌≡◌, ℕ, zero, suc, ◌+◌, ◌-◌, ◌*◌, ◌/◌, ◌%◌, ◌^◌, ◌<◌, ◌≤◌, Bool, true, false, not, ◌&&◌, ◌||◌, eqb, ltb, MatchBool, sym, refl, ap, ◌∙◌, inl, inr, mod-lt, mod-eq_of_lt, pow_pos, arith}
use lib.Bits.{bit_and, bit_or, bit_xor, xor_add_and, and_mask}
use Rattle.std.specs.Int.{w64, trailing_zeros}
use Rattle.std.proofs.lemmas.Nat.{and_le_l, one_shl, shr-shr}
use Rattle.std.proofs.lemmas.Nat.Bits.{bit_at-lt, bit_at_and, bit_at_or, bit_at-zero, bit_at_ones, bit_at_ones_above, bit_at_above, bit_at_xor, bit_at-pow_same, bit_at-pow_other, bit_at-trailing_zeros, same_from_bits}
use Rattle.std.proofs.lemmas.Bool.{both_ways, cases_eq, cases_lt, eq-eqb, ne_eqb}
use Rattle.std.proofs.lemmas.Bool.Decides.{nat_tests}
use Rattle.books.specs.Points.{bit}

pub and_bit : (a b q : ℕ) → bit (bit_and a b) q ≡ (bit a q && bit b q)
unfolding bit
and_bit a b q =
    let x = bit_at-lt a q in let y = bit_at-lt b q in let e = bit_at_and a b q in grind (arith, nat_tests)

or_bit : (a b q : ℕ) → bit (bit_or a b) q ≡ (bit a q || bit b q)
unfolding bit
or_bit a b q =
    let x = bit_at-lt a q in let y = bit_at-lt b q in let e = bit_at_or a b q in grind (arith, nat_tests)

pub zero_bit : (q : ℕ) → bit 0 q ≡ false
unfolding bit
zero_bit q = let e = bit_at-zero q in grind (arith, nat_tests)

-- the number with the digits below n
pub ones_bit : (n q : ℕ) → bit (2 ^ n - 1) q ≡ ltb q n
unfolding bit
ones_bit n q = elim (cases_lt q n) [
  | inl l ↦ (let o = bit_at_ones n q l in grind (arith, nat_tests))
  | inr g ↦ (let o = bit_at_ones_above n q g in grind (arith, nat_tests))
]

-- a number of k digits has none from the k-th on
pub high_bit : (k n q : ℕ) → n < 2 ^ k → k ≤ q → bit n q ≡ false
unfolding bit
high_bit k n q h le = let z = bit_at_above n k q h le in grind (arith, nat_tests)

-- the digits of n from the f-th on
pub bit_above : (n f k : ℕ) → bit (n / 2 ^ f) k ≡ bit n (f + k)
unfolding bit
bit_above n f k = ap (λ m. eqb (m % 2) 1) (shr-shr n f k)

-- turning every digit of n, which has k of them, takes it from the number with k ones
flipped : (k n : ℕ) → n < 2 ^ k → 2 ^ k - 1 - n ≡ bit_xor n (2 ^ k - 1)
flipped k n h = let low : bit_and n (2 ^ k - 1) ≡ n = and_mask n k ∙ mod-eq_of_lt h in omega (arith, xor_add_and n (2 ^ k - 1), low, pow_pos k)

not_bit : (k n q : ℕ) → n < 2 ^ k → q < k → bit (2 ^ k - 1 - n) q ≡ not (bit n q)
unfolding bit
not_bit k n q h l =
    let x = bit_at-lt n q in
    let one = bit_at_ones k q l in
    let e = ap (λ m. m / 2 ^ q % 2) (flipped k n h) ∙ bit_at_xor n (2 ^ k - 1) q in
    grind (arith, nat_tests)

-- the digits of a that b has not
pub and_not_bit : (k a b q : ℕ) → a < 2 ^ k → b < 2 ^ k → bit (bit_and a (2 ^ k - 1 - b)) q ≡ (bit a q && not (bit b q))
and_not_bit k a b q ha hb = and_bit a (2 ^ k - 1 - b) q ∙ elim (cases_lt q k) [
  | inl l ↦ ap (λ x. bit a q && x) (not_bit k b q hb l)
  | inr g ↦ (let z = high_bit k a q ha g in rw z refl)
]

-- the word with the k-th digit alone
one_bit : (k q : ℕ) → k < 64 → bit (1 * 2 ^ k % 2 ^ 64) q ≡ eqb q k
unfolding bit
one_bit k q l = ap (λ n. eqb (n / 2 ^ q % 2) 1) (one_shl k 64 l) ∙ elim (cases_eq q k) [
  | inl e ↦ ap (λ i. eqb (2 ^ k / 2 ^ i % 2) 1) e ∙ ap (λ d. eqb d 1) (bit_at-pow_same k) ∙ sym (eq-eqb q k e)
  | inr o ↦ (let z = bit_at-pow_other k q o in grind (arith, nat_tests))
]

-- the digits of n, and the k-th
pub set_bit : (n k q : ℕ) → k < 64 → bit (bit_or n (1 * 2 ^ k % 2 ^ 64)) q ≡ (eqb q k || bit n q)
set_bit n k q l = let o = or_bit n (1 * 2 ^ k % 2 ^ 64) q in let e = one_bit k q l in grind (arith, nat_tests)

-- the digits of n without the k-th
pub clear_bit : (n k q : ℕ) → n < 2 ^ 64 → k < 64 → bit (bit_and n (2 ^ 64 - 1 - 1 * 2 ^ k % 2 ^ 64)) q ≡ (bit n q && not (eqb q k))
clear_bit n k q h l = and_not_bit 64 n (1 * 2 ^ k % 2 ^ 64) q h (mod-lt (1 * 2 ^ k) (omega arith)) ∙ ap (λ b. bit n q && not b) (one_bit k q l)

-- the lowest digit of a word that has one
pub lowest_bit : (n : ℕ) → 0 < n → n < 2 ^ 64
    → (trailing_zeros w64 n < 64) × (bit n (trailing_zeros w64 n) ≡ true) × ((q : ℕ) → q < trailing_zeros w64 n → bit n q ≡ false)
unfolding bit
lowest_bit n p h =
    let low = bit_at-trailing_zeros w64 n p h in
    (low.0, eq-eqb _ 1 low.1, λ q l. ne_eqb _ 1 (λ e. let z = low.2 q l in omega arith))

-- a word has its digits below the 64th
pub place : (n q : ℕ) → n < 2 ^ 64 → bit n q ≡ true → q < 64
place n q h e = elim (cases_lt q 64) [ inl l ↦ l | inr g ↦ absurd (both_ways (bit n q) (high_bit 64 n q h g) e) ]

-- words with the same digits are the same
same_bits : (a b : ℕ) → ((q : ℕ) → bit a q ≡ bit b q) → a ≡ b
unfolding bit
same_bits a b same = same_from_bits a b (λ q. let x = bit_at-lt a q in let y = bit_at-lt b q in let e = same q in grind (arith, nat_tests))

-- a word with no digit is 0
pub no_bit : (n : ℕ) → ((q : ℕ) → bit n q ≡ false) → n ≡ 0
no_bit n none = same_bits n 0 (λ q. none q ∙ sym (zero_bit q))

-- a word has no digit where it is 0, and otherwise one
pub empty_or_not : (n : ℕ) → n < 2 ^ 64 → MatchBool (eqb n 0) ((q : ℕ) → bit n q ≡ false) ((q : ℕ) × (q < 64) × (bit n q ≡ true))
empty_or_not zero h = zero_bit
empty_or_not (suc n) h = let low = lowest_bit (suc n) (omega arith) h in rw (ne_eqb (suc n) 0 (omega arith)) (trailing_zeros w64 (suc n), low.0, low.1)

-- a word without one of its digits is less
pub cleared_less : (n m k : ℕ) → bit n k ≡ true → ((q : ℕ) → bit m q ≡ (bit n q && not (eqb q k))) → m < n
cleared_less n m k one cleared =
    let part : bit_and n m ≡ m = same_bits (bit_and n m) m (λ q. and_bit n m q ∙ ap (λ b. bit n q && b) (cleared q) ∙ absorbed (bit n q) (not (eqb q k)) ∙ sym (cleared q)) in
    let gone : bit m k ≡ false = cleared k ∙ ap (λ b. bit n k && not b) (eq-eqb k k refl) ∙ ap (λ b. b && false) one in
    let other : m ≡ n → ⊥ = λ e. both_ways (bit m k) gone (ap (λ i. bit i k) e ∙ one) in
    omega (arith, and_le_l n m, part, other)
  where
    absorbed : (a b : Bool) → (a && (a && b)) ≡ (a && b)
    absorbed true b = refl
    absorbed false b = refl
