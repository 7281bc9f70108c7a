use Rattle.std.proofs.Common.{◌≡◌, ℕ, ◌+◌, ◌≤◌, List, ◌++◌, string_bytes}
use Rattle.lines.specs.Pieces.{lines_of}
use Rattle.sheets.specs.Page.{Fed}
use Rattle.sheets.specs.Sheets.{Meaning, follow}
use Rattle.sheets.proofs.page.take_lines.Given as goal

-- what the lines that are left do from here, all lines do from the beginning
abbrev pub invariant-loop-i : goal.invariant-loop-i
invariant-loop-i l =
    ((refusals : List ℕ) × (string_bytes l.text ≡ string_bytes l.initial.text ++ refusals)
    × ((g : Meaning) (t : ℕ) (more : List ℕ) → Fed (l.i-iterator.count + 1) (follow l.sheet) l.i-iterator.iter g t more
    → Fed 1 (follow l.initial.sheet) (lines_of l.input) g (l.taken + t) (refusals ++ more)))
    × (l.taken ≤ l.i-iterator.count)
