-- What is printed of a tape.
use Rattle.std.specs.Prelude.{◌≡◌, ℕ, List, [], ◌∷◌, ◌++◌, length, take, decimal, Ok, Err}
use Rattle.refusals.specs.declared.Refusal.{Refusal}
use Rattle.refusals.specs.Table.{number_of}
use Rattle.monitor.specs.Bench.{TapeReported}

-- X,refusal
abbrev pub refusal_line : Refusal → List ℕ
refusal_line e = 88 ∷ 44 ∷ decimal (number_of e) ++ (10 ∷ [])

-- how many bytes a printed report may have
abbrev pub report_room : ℕ
report_room = 1024

-- the page printed of a tape: the report, as it stands in a buffer of that room; or the refusal
pub data Printed (tape page : List ℕ) : Type 0 where
  report : {xs ys : List ℕ} {n : ℕ} → length xs ≡ report_room → TapeReported tape xs (Ok n) ys → page ≡ take n ys → Printed tape page
  refused : {xs ys : List ℕ} {e : Refusal} → length xs ≡ report_room → TapeReported tape xs (Err e) ys → page ≡ refusal_line e → Printed tape page
