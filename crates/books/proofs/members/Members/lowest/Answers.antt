-- The lowest one of what is left after a shift is the lowest from there on.
use Rattle.std.proofs.Common.{◌≡◌, ◌+◌, ◌-◌, ◌/◌, ◌^◌, ◌<◌, true, sym, ap, ◌∙◌, arith, rules}
use Rattle.std.specs.Int.{w64, trailing_zeros}
use Rattle.std.proofs.lemmas.Nat.{shr_le}
use Rattle.books.specs.Points.{bit}
use Rattle.books.proofs.Binary.{bit_above, high_bit, lowest_bit, place, zero_bit}
use Rattle.books.proofs.members.Members.lowest.Goals as goal

pub returns-then-from-ge64 : goal.returns-then-from-ge64
returns-then-from-ge64 c t l = high_bit 64 c.args.self.0 t (search rules) (omega arith)

pub returns-then-rest-eq0 : goal.returns-then-rest-eq0
returns-then-rest-eq0 c t l =
    let n = c.args.self.0 in
    let f = c.args.from in
    ap (bit n) (omega arith) ∙ sym (bit_above n f (t - f)) ∙ ap (λ m. bit m (t - f)) c.if-rest-eq0.true ∙ zero_bit (t - f)

pub returns : goal.returns
returns c =
    let n = c.args.self.0 in
    let f = c.args.from in
    let fits : n < 2 ^ 64 = search rules in
    let low = lowest_bit (n / 2 ^ f) (omega arith) (omega (arith, shr_le n f)) in
    let is : bit n (f + trailing_zeros w64 (n / 2 ^ f)) ≡ true = sym (bit_above n f (trailing_zeros w64 (n / 2 ^ f))) ∙ low.1 in
    record {
      small = place n (f + trailing_zeros w64 (n / 2 ^ f)) fits is;
      high = omega arith;
      is_member = is;
      first = λ u l b. ap (bit n) (omega arith) ∙ sym (bit_above n f (u - f)) ∙ low.2 (u - f) (omega arith);
    }
