-- Which lines put which row into a sheet, and how every other line is refused.
use Rattle.std.specs.Prelude.{◌≡◌, ℕ, ◌<◌, ◌≤◌, Bool, List, ◌∷◌, length, Result, MatchResult, ◌≢◌, slice_index}
use Rattle.refusals.specs.declared.Refusal.{Refusal}
use Rattle.refusals.specs.declared.Refusal.TheVariants.{UnknownParty, TooManyListed, NeedsTooMany, UnknownListed, ListedTwice}
use Rattle.refusals.specs.Checks.{Checks, done, check, FirstRefusal, AllPass}
use Rattle.lines.specs.Lines.{line_checks, Spelled}
use Rattle.sheets.specs.declared.sheet.WaitSheet.{WaitSheet}
use Rattle.sheets.specs.Limits.{parties, most_listed}
use Rattle.sheets.specs.Sheets.{Meaning, follow, Replaces}

-- the letter of a sheet's lines: W
abbrev pub known : ℕ → Type 0
known l = l ≡ 87

-- a party and how many it needs follow the letter, and then those listed
abbrev pub counted : ℕ → ℕ → Type 0
counted l n = 2 ≤ n

-- the line is W,party,k,p1,p2,..
abbrev pub Spells : List ℕ → ℕ → ℕ → List ℕ → Type 0
Spells line party k ps = Spelled known counted line 87 (party ∷ k ∷ ps)

-- each of the numbers is a party's
abbrev pub AllParties : List ℕ → Type 0
AllParties ps = (i : ℕ) → i < length ps → slice_index ps i < parties

-- one of them is not
abbrev pub SomeOther : List ℕ → Type 0
SomeOther ps = (i : ℕ) × (i < length ps) × (parties ≤ slice_index ps i)

-- none stands at two places
abbrev pub Once : List ℕ → Type 0
Once ps = (i j : ℕ) → i < j → j < length ps → slice_index ps i ≢ slice_index ps j

-- one stands at two places
abbrev pub Again : List ℕ → Type 0
Again ps = (i : ℕ) × (j : ℕ) × (i < j) × (j < length ps) × (slice_index ps i ≡ slice_index ps j)

-- the checks of a row, in their order
abbrev pub row_checks : ℕ → ℕ → List ℕ → Checks
row_checks party k ps =
    check UnknownParty (parties ≤ party)
    (check TooManyListed (most_listed < length ps)
    (check NeedsTooMany (length ps < k)
    (check UnknownListed (SomeOther ps)
    (check ListedTwice (Again ps) done))))

-- the line spells a row that no check refuses, and g is f with that row
pub record Takes (f : Meaning) (line : List ℕ) (g : Meaning) : Type 0 where
  pub party : ℕ
  pub k : ℕ
  pub listed : List ℕ
  pub spells : Spells line party k listed
  pub passes : AllPass (row_checks party k listed)
  pub row : Replaces f party k listed g

-- the line is refused: it cannot be read, or it spells a row that is refused
pub data Refuses (line : List ℕ) (e : Refusal) : Type 0 where
  unread : FirstRefusal (line_checks known counted line) e → Refuses line e
  unfit : {party k : ℕ} {listed : List ℕ} → Spells line party k listed → FirstRefusal (row_checks party k listed) e → Refuses line e

-- what the sheet answers to a line, and what it is afterwards: a refused line leaves it as it was
abbrev pub LineAnswer : {U : Type 0} → WaitSheet → WaitSheet → List ℕ → Result U Refusal → Type 0
LineAnswer before after line r = MatchResult r (λ _. Takes (follow before) line (follow after)) (λ e. Refuses line e × (after ≡ before))

-- the same for a row
abbrev pub RowAnswer : {U : Type 0} → WaitSheet → WaitSheet → ℕ → ℕ → List ℕ → Result U Refusal → Type 0
RowAnswer before after party k ps r =
    MatchResult r (λ _. AllPass (row_checks party k ps) × Replaces (follow before) party k ps (follow after))
    (λ e. FirstRefusal (row_checks party k ps) e × (after ≡ before))

-- no line is both taken and refused, and none is refused twice over
pub record ToldApart : Type 0 where
  pub one_way : (f g : Meaning) (line : List ℕ) (e : Refusal) → Takes f line g → Refuses line e → ⊥
  pub one_refusal : (line : List ℕ) (e r : Refusal) → Refuses line e → Refuses line r → e ≡ r
  pub one_row : (f g h : Meaning) (line : List ℕ) → Takes f line g → Takes f line h → (p : ℕ) (S : ℕ → Bool) → g p S ≡ h p S
