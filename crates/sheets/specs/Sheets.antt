-- What a wait sheet says, and what a row does to it.
use Rattle.std.specs.Prelude.{◌≡◌, ℕ, Bool, true, cond, ◌&&◌, List, Some, None, count_by, Option, ◌==◌, nat_le, nat_lt, slice_index_or}
use Rattle.books.specs.Points.{has}
use Rattle.books.specs.Shut.{size}
use Rattle.sheets.specs.declared.sheet.Row.{Row}
use Rattle.sheets.specs.declared.sheet.WaitSheet.{WaitSheet}
use Rattle.sheets.specs.Limits.{parties}

-- what a sheet says: whether a party follows from a set of parties
abbrev pub Meaning : Type 0
Meaning = ℕ → (ℕ → Bool) → Bool

-- a party with no row follows; one with a row when at least as many as it needs of those listed are in S
abbrev pub row_follow : Option Row → (ℕ → Bool) → Bool
row_follow None S = true
row_follow (Some r) S = nat_le r.needs (size 128 (λ q. has r.listed q && S q))

-- what the sheet says
unfoldable pub follow : WaitSheet → Meaning
follow s p S = nat_lt p parties && row_follow (slice_index_or s.rows p None) S

-- a sheet with no row: every party follows
abbrev pub NoRows : Meaning → Type 0
NoRows f = (p : ℕ) (S : ℕ → Bool) → f p S ≡ nat_lt p parties

-- g is f with a row put in: party follows when at least k of those listed are in the set, and the others as before
abbrev pub Replaces : Meaning → ℕ → ℕ → List ℕ → Meaning → Type 0
Replaces f party k ps g = (p : ℕ) (S : ℕ → Bool) → g p S ≡ cond (p == party) (nat_le k (count_by S ps)) (f p S)
