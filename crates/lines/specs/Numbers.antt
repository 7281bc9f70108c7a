-- The numbers of a line.
use Rattle.std.specs.Prelude.{◌≡◌, ℕ, ◌<◌, ◌≤◌, List, length, decimal, Option, MatchOption, slice_index}

-- bs writes a number from 0 to 999 in decimal, without leading zeros
abbrev pub Numeral : List ℕ → Type 0
Numeral bs = (n : ℕ) × (n ≤ 999) × (bs ≡ decimal n)

-- bs has a zero in front of other bytes
abbrev pub LeadingZero : List ℕ → Type 0
LeadingZero bs = (1 < length bs) × (slice_index bs 0 ≡ 48)

-- r is the number that bs writes, if it writes one
abbrev pub ReadsNumber : List ℕ → Option ℕ → Type 0
ReadsNumber bs r = MatchOption r (Numeral bs → ⊥) (λ n. (n ≤ 999) × (bs ≡ decimal n))
