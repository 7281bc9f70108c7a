-- The limits of a picture.
use Rattle.std.specs.Prelude.{ℕ}

-- how many tasks may begin
abbrev pub most_tasks : ℕ
most_tasks = 64

-- how many entries a task may have
abbrev pub most_entries : ℕ
most_entries = 8

-- a block opens over fewer open frames than this
abbrev pub block_room : ℕ
block_room = 8

-- a rendezvous opens over fewer open frames than this; it is more than the room for blocks
abbrev pub frame_room : ℕ
frame_room = 12
