-- How many binary digits of a number are 1.
use Rattle.std.proofs.Common.{◌≡◌, ℕ, zero, suc, ◌+◌, ◌-◌, ◌/◌, ◌%◌, ◌^◌, ◌<◌, cond, eqb, sym, refl, ap, ◌∙◌, ⊎_elim, mod-lt, add-one, one-add, arith, pow_pos, shr_lt}
use lib.Pow.{split, field, mod-mod-pow}
use lib.Count.{ones, ones_cat}
use Rattle.std.proofs.lemmas.Bool.{cases_eq}
use Rattle.books.specs.Points.{bit}
use Rattle.books.specs.Shut.{size}
use Rattle.books.proofs.Sets.{size_same}

-- the digits below the k-th are those of the remainder
low_bit : (n q j : ℕ) → bit (n % 2 ^ (suc j + q)) q ≡ bit n q
unfolding bit
low_bit n q j = ap (λ x. eqb x 1) (ap (λ x. x % 2) (field n (suc j) q) ∙ mod_mod_pow')
  where
    mod_mod_pow' : (n / 2 ^ q % 2 ^ suc j) % 2 ≡ n / 2 ^ q % 2
    mod_mod_pow' = ap (λ m. n / 2 ^ q % 2 ^ m % 2) (sym (add-one j)) ∙ mod-mod-pow (n / 2 ^ q) j 1

top_ones : (a : ℕ) → a < 2 → ones a ≡ cond (eqb (a % 2) 1) 1 0
unfolding ones
top_ones a h = ⊎_elim
    (λ (e : a ≡ 0). rw e refl)
    (λ (ne : a ≡ 0 → ⊥). let e : a ≡ 1 = omega arith in rw e refl)
    (cases_eq a 0)

pub ones_size : (k n : ℕ) → n < 2 ^ k → ones n ≡ size k (bit n)
unfolding size bit ones
ones_size zero n h = let e : n ≡ 0 = omega arith in rw e refl
ones_size (suc k) n h =
    let a = n / 2 ^ k in
    let r = n % 2 ^ k in
    let small : a < 2 = shr_lt 1 k (rw (one-add k) h) in
    let low : r < 2 ^ k = mod-lt n (pow_pos k) in
    let same : size k (bit r) ≡ size k (bit n) = size_same k (bit r) (bit n) (λ q l.
    let e : k ≡ suc (k - suc q) + q = omega arith in
    ap (λ m. bit (n % 2 ^ m) q) e ∙ low_bit n q (k - suc q)) in
    ap ones (sym (split n k)) ∙ ones_cat k a r low ∙ ap (λ x. x + ones r) (top_ones a small) ∙ ap (λ x. cond (bit n k) 1 0 + x) (ones_size k r low ∙ same)
