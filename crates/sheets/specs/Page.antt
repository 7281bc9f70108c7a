-- What is printed of a sheet: the lines refused, the parties left out, and how many there are.
use Rattle.std.specs.Prelude.{◌≡◌, ℕ, zero, suc, ◌+◌, ◌<◌, ◌≤◌, Bool, cond, List, [], ◌∷◌, ◌++◌, length, decimal}
use Rattle.std.specs.List.{flat_map}
use Rattle.refusals.specs.declared.Refusal.{Refusal}
use Rattle.refusals.specs.declared.Refusal.TheVariants.{InputTooLong}
use Rattle.refusals.specs.Table.{number_of}
use Rattle.books.specs.Shut.{LargestShut, size}
use Rattle.lines.specs.Pieces.{lines_of}
use Rattle.sheets.specs.declared.sheet.WaitSheet.{WaitSheet}
use Rattle.sheets.specs.Limits.{parties, input_room}
use Rattle.sheets.specs.Sheets.{Meaning, follow, NoRows}
use Rattle.sheets.specs.Rows.{Takes, Refuses}

-- X,line,refusal
abbrev pub refusal_line : ℕ → ℕ → List ℕ
refusal_line line number = 88 ∷ 44 ∷ decimal line ++ (44 ∷ decimal number ++ (10 ∷ []))

-- X,refusal
abbrev pub whole_refusal_line : ℕ → List ℕ
whole_refusal_line number = 88 ∷ 44 ∷ decimal number ++ (10 ∷ [])

-- O,party
abbrev pub party_line : ℕ → List ℕ
party_line p = 79 ∷ 44 ∷ decimal p ++ (10 ∷ [])

-- J,taken,out
abbrev pub closing_line : ℕ → ℕ → List ℕ
closing_line taken out = 74 ∷ 44 ∷ decimal taken ++ (44 ∷ decimal out ++ (10 ∷ []))

-- Fed n f ls g t text: the lines ls, the first of which has the number n, make g of the sheet f; t of them are taken, and
-- text has a line for each that is refused
pub data Fed : ℕ → Meaning → List (List ℕ) → Meaning → ℕ → List ℕ → Type 0 where
  none : {n : ℕ} {f : Meaning} → Fed n f [] f 0 []
  takes : {n t : ℕ} {f g h : Meaning} {line text : List ℕ} {ls : List (List ℕ)}
      → Takes f line g → Fed (n + 1) g ls h t text → Fed n f (line ∷ ls) h (1 + t) text
  refuses : {n t : ℕ} {f h : Meaning} {line text : List ℕ} {ls : List (List ℕ)} {e : Refusal}
      → Refuses line e → Fed (n + 1) f ls h t text → Fed n f (line ∷ ls) h t (refusal_line n (number_of e) ++ text)

-- the lines of the input were taken to a sheet: so many of them were taken, and to a text that was there before a line was
-- put for each that was refused
abbrev pub TakesLines : WaitSheet → List ℕ → List ℕ → WaitSheet → ℕ → List ℕ → Type 0
TakesLines before input text after taken page =
    (refusals : List ℕ) × Fed 1 (follow before) (lines_of input) (follow after) taken refusals × (page ≡ text ++ refusals)

-- the numbers below n that are in S, in order
unfoldable pub members : ℕ → (ℕ → Bool) → List ℕ
members zero S = []
members (suc n) S = members n S ++ cond (S n) (n ∷ []) []

-- the page of a sheet that is taken line by line and then judged
pub record Judged (input page : List ℕ) : Type 0 where
  pub fresh : Meaning
  pub sheet : Meaning
  pub taken : ℕ
  pub refusals : List ℕ
  pub out : ℕ → Bool
  pub starts : NoRows fresh
  pub fed : Fed 1 fresh (lines_of input) sheet taken refusals
  pub judged : LargestShut parties sheet out
  pub printed : page ≡ refusals ++ (flat_map party_line (members parties out) ++ closing_line taken (size parties out))

-- the page of an input: one that is too long is refused before a line is read
pub data Page (input page : List ℕ) : Type 0 where
  too_long : input_room < length input → page ≡ whole_refusal_line (number_of InputTooLong) → Page input page
  judged : length input ≤ input_room → Judged input page → Page input page
