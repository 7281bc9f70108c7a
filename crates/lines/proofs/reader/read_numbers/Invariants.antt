use Rattle.std.proofs.Common.{◌≡◌, ℕ, ◌+◌, ◌<◌, ◌≤◌, length, get_or, decimal}
use Rattle.lines.specs.Lines.{field}
use Rattle.lines.proofs.reader.read_numbers.Given as goal

abbrev pub invariant-loop-i : goal.invariant-loop-i
invariant-loop-i l =
    (length l.values ≡ 32) × ((k : ℕ) → k < length l.yielded → (get_or l.values k 0 ≤ 999) × (field l.line (k + 1) ≡ decimal (get_or l.values k 0)))
