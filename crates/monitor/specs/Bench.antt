-- What a whole tape on a new monitor leaves in a buffer.
use Rattle.std.specs.Prelude.{ℕ, ◌<◌, List, length, Ok, Err, Result}
use Rattle.refusals.specs.declared.Refusal.{Refusal}
use Rattle.refusals.specs.declared.Refusal.TheVariants.{InputTooLong}
use Rattle.reports.specs.declared.report.Ending.{Ending}
use Rattle.reports.specs.declared.report.Ending.TheVariants.{Whole, Stopped}
use Rattle.reports.specs.Report.{report_text, rows_below, Written}
use Rattle.rules.specs.Limits.{most_tasks}
use Rattle.tape.specs.declared.tape.PlayRefusal.TheVariants.{LineRefused}
use Rattle.tape.specs.Tapes.{tape_room}
use Rattle.monitor.specs.Report.{named_row}
use Rattle.monitor.specs.State.{State, New, TapePlayed}

-- the report of a state, after a tape that ended so
abbrev pub report_of : State → Ending → List ℕ
report_of s ending = report_text (rows_below (named_row s) most_tasks) ending

-- TapeReported tape xs r ys: the tape is played on a new monitor and reported into a buffer that holds xs; the answer is r, and
-- the buffer then holds ys
pub data TapeReported (tape xs : List ℕ) : Result ℕ Refusal → List ℕ → Type 0 where
  too_long : tape_room < length tape → TapeReported tape xs (Err InputTooLong) xs
  whole : (s u : State) (told : ℕ) {r : Result ℕ Refusal} {ys : List ℕ} → New s → TapePlayed s tape (Ok told) u
      → Written (report_of u (Whole told)) xs r ys → TapeReported tape xs r ys
  stopped : (s u : State) (told : ℕ) {r : Result ℕ Refusal} {ys : List ℕ} → New s → TapePlayed s tape (Err (LineRefused told)) u
      → Written (report_of u (Stopped told)) xs r ys → TapeReported tape xs r ys
