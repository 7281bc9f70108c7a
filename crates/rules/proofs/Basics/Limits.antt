-- What the proofs use of the limits: there is room for a task, and a rendezvous fits over the frames of a new block.
use Rattle.std.proofs.Common.{◌<◌, arith}
use Rattle.rules.specs.Limits.{block_room, frame_room, most_tasks}

pub some_tasks : 0 < most_tasks
some_tasks = omega arith

pub blocks_fit : block_room < frame_room
blocks_fit = omega arith
