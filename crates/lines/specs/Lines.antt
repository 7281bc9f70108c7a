-- Lines: how a letter and numbers are written, which lines are read as what, and how every other line is refused.
-- A reader knows some letters, known l, and of each how many numbers may follow it, counted l n.
use Rattle.std.specs.Prelude.{◌≡◌, ℕ, ◌+◌, ◌<◌, ◌≤◌, List, [], ◌∷◌, length, take, decimal, Result, slice_index, slice_index_or}
use Rattle.std.specs.List.{flat_map, AllByRecursion}
use Rattle.std.specs.Result as results
use Rattle.refusals.specs.declared.Refusal.{Refusal}
use Rattle.refusals.specs.declared.Refusal.TheVariants.{LineLength, UnknownLetter, FieldCount, NotANumber}
use Rattle.refusals.specs.Checks.{Checks, done, check, FirstRefusal}
use Rattle.lines.specs.declared.fields.Fields.{Fields}
use Rattle.lines.specs.declared.reader.BadField.{BadField}
use Rattle.lines.specs.Numbers.{Numeral}
use Rattle.lines.specs.Pieces.{pieces}

-- the line of a letter and numbers: the letter, and each number in decimal with a comma before it
abbrev pub spell : ℕ → List ℕ → List ℕ
spell l ns = l ∷ flat_map (λ n. 44 ∷ decimal n) ns

-- none of the numbers is over 999
abbrev pub Small : List ℕ → Type 0
Small ns = AllByRecursion (λ n. n ≤ 999) ns

-- what stands between the commas of a line
abbrev pub fields : List ℕ → List (List ℕ)
fields line = pieces 44 line

-- the field at place i, the letter's place being 0
abbrev pub field : List ℕ → ℕ → List ℕ
field line i = slice_index_or (fields line) i []

-- the line is not empty, and has at most 32 bytes
abbrev pub Sized : List ℕ → Type 0
Sized line = (0 < length line) × (length line ≤ 32)

-- each field after the first is a number
abbrev pub Numbered : List ℕ → Type 0
Numbered line = (i : ℕ) → i + 1 < length (fields line) → Numeral (field line (i + 1))

-- the numbers of a line that was read
abbrev pub numbers : Fields → List ℕ
numbers f = take f.count f.values

module _ (known : ℕ → Type 0) (counted : ℕ → ℕ → Type 0) where
  -- the first field is one letter that the reader knows
  abbrev pub Lettered : List ℕ → Type 0
  Lettered line = (l : ℕ) × (field line 0 ≡ l ∷ []) × known l

  -- as many numbers follow the letter as may
  abbrev pub Counted : List ℕ → Type 0
  Counted line = (l n : ℕ) → field line 0 ≡ l ∷ [] → length (fields line) ≡ n + 1 → counted l n

  -- the checks of a line, in their order
  abbrev pub line_checks : List ℕ → Checks
  line_checks line =
      check LineLength (Sized line → ⊥)
      (check UnknownLetter (Lettered line → ⊥)
      (check FieldCount (Counted line → ⊥)
      (check NotANumber (Numbered line → ⊥) done)))

  -- the line spells the letter l and the numbers ns, as the reader may take them
  pub record Spelled (line : List ℕ) (l : ℕ) (ns : List ℕ) : Type 0 where
    pub spelled : line ≡ spell l ns
    pub short : length line ≤ 32
    pub letter : known l
    pub count : counted l (length ns)
    pub small : Small ns

  -- what the reader answers: what the line spells, or the first check that refuses it
  abbrev pub Reads : List ℕ → Result Fields Refusal → Type 0
  Reads line r = results.MatchResult r (λ f. Spelled line f.letter (numbers f)) (FirstRefusal (line_checks line))

  -- whatever the line spells, that is the answer
  abbrev pub ReadsBack : List ℕ → Result Fields Refusal → Type 0
  ReadsBack line r = (l : ℕ) (ns : List ℕ) → Spelled line l ns → results.MatchResult r (λ f. (f.letter ≡ l) × (numbers f ≡ ns)) (λ e. ⊥)

  -- the answer where only the letter is looked at, and how many fields there are
  abbrev pub ReadsLetter : List ℕ → Result ℕ Refusal → Type 0
  ReadsLetter line r = results.MatchResult r (λ l. Sized line × (field line 0 ≡ l ∷ []) × known l × Counted line) (FirstRefusal (line_checks line))

-- the field at place i is the first that is no number
pub record FirstBad (line : List ℕ) (i : ℕ) : Type 0 where
  pub after_letter : 0 < i
  pub within : i < length (fields line)
  pub good : (j : ℕ) → j + 1 < i → Numeral (field line (j + 1))
  pub bad : Numeral (field line i) → ⊥

-- the answer where only the numbers are looked at: these, or the first bad field, counted with the letter as 1
abbrev pub ReadsNumbers : List ℕ → Result (List ℕ) BadField → Type 0
ReadsNumbers line r =
    results.MatchResult r (λ ns. (length ns ≡ 32) × ((i : ℕ) → i + 1 < length (fields line) → (slice_index ns i ≤ 999) × (field line (i + 1) ≡ decimal (slice_index ns i))))
    (λ e. (i : ℕ) × (e.place ≡ i + 1) × FirstBad line i)
