-- The report of the named tasks: its bytes, and what is left in the buffer.
use Rattle.std.specs.Prelude.{◌≡◌, ℕ, zero, suc, ◌<◌, ◌≤◌, List, [], ◌∷◌, ◌++◌, length, take, drop, decimal, Option, Result, MatchResult}
use Rattle.std.specs.Option.{option_to_list}
use Rattle.std.specs.List.{flat_map}
use Rattle.reports.specs.declared.report.Ending.{Ending}
use Rattle.reports.specs.declared.report.Ending.TheVariants.{Whole, Stopped}
use Rattle.reports.specs.declared.report.Wait.{Wait}
use Rattle.reports.specs.declared.report.Wait.TheVariants.{Queued, Engaged, Accepting, Leaving, Completed}
use Rattle.reports.specs.declared.report.Row.{Row}

-- Q R A L W
abbrev pub wait_letter : Wait → ℕ
wait_letter (Queued server) = 81
wait_letter (Engaged server) = 82
wait_letter (Accepting mask) = 65
wait_letter (Leaving unfinished) = 76
wait_letter (Completed unfinished) = 87

abbrev pub wait_other : Wait → ℕ
wait_other (Queued server) = server
wait_other (Engaged server) = server
wait_other (Accepting mask) = mask
wait_other (Leaving unfinished) = unfinished
wait_other (Completed unfinished) = unfinished

-- D,task,letter,other
abbrev pub row_line : Row → List ℕ
row_line row = 68 ∷ 44 ∷ decimal row.task ++ (44 ∷ wait_letter row.wait ∷ 44 ∷ decimal (wait_other row.wait) ++ (10 ∷ []))

-- T of a tape told whole, S of one that was stopped
abbrev pub ending_letter : Ending → ℕ
ending_letter (Whole told) = 84
ending_letter (Stopped told) = 83

-- how many lines were told
abbrev pub lines_told : Ending → ℕ
lines_told (Whole told) = told
lines_told (Stopped told) = told

-- T,told,names or S,told,names
abbrev pub closing_line : Ending → ℕ → List ℕ
closing_line ending names = ending_letter ending ∷ 44 ∷ decimal (lines_told ending) ++ (44 ∷ decimal names ++ (10 ∷ []))

-- the rows of the tasks below n that have one, in order
unfoldable pub rows_below : (ℕ → Option Row) → ℕ → List Row
rows_below rows zero = []
rows_below rows (suc n) = rows_below rows n ++ option_to_list (rows n)

-- the whole report: a line for each row, and the closing line
abbrev pub report_text : List Row → Ending → List ℕ
report_text rows ending = flat_map row_line rows ++ closing_line ending (length rows)

-- text was written at the front of a buffer that held xs, with the answer r, and left ys; or it had no room, and nothing changed
abbrev pub Written : {E : Type 0} → List ℕ → List ℕ → Result ℕ E → List ℕ → Type 0
Written text xs r ys =
    MatchResult r (λ n. (n ≡ length text) × (take n ys ≡ text) × (drop n ys ≡ drop n xs) × (n ≤ length xs)) (λ e. (length xs < length text) × (ys ≡ xs))
