-- The limits of a wait sheet.
use Rattle.std.specs.Prelude.{ℕ}

-- how many parties a sheet has
abbrev pub parties : ℕ
parties = 96

-- how many parties a row may list
abbrev pub most_listed : ℕ
most_listed = 8

-- how many bytes the lines of a sheet may have together
abbrev pub input_room : ℕ
input_room = 65536
