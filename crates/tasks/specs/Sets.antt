-- How many entries a mask has.
use Rattle.std.specs.Prelude.{ℕ, zero, suc, ◌+◌, ◌/◌, ◌%◌, ◌^◌}
use Rattle.rules.specs.declared.vocabulary.Status.{Status}
use Rattle.rules.specs.declared.vocabulary.Status.TheVariants.{NotBegun, Running, Queued, Engaged, Accepting, Leaving, Completed, Terminated}
use Rattle.rules.specs.Limits.{most_entries}

-- how many entries below w are in the mask
unfoldable pub tally : ℕ → ℕ → ℕ
tally mask zero = 0
tally mask (suc w) = tally mask w + mask / 2 ^ w % 2

-- at how many entries a task of that status waits for a caller
abbrev pub open_entries : Status → ℕ
open_entries NotBegun = 0
open_entries Running = 0
open_entries (Queued _ _) = 0
open_entries (Engaged _) = 0
open_entries (Accepting mask) = tally mask most_entries
open_entries Leaving = 0
open_entries Completed = 0
open_entries Terminated = 0
