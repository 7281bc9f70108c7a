-- What the code's tables stand for.
use Rattle.std.specs.Prelude.{ℕ, List, [], map, reverse, None, slice_index_or}
use Rattle.std.proofs.Common.{zero-le}
use Rattle.rules.specs.declared.vocabulary.Status.TheVariants.{NotBegun}
use Rattle.rules.specs.declared.vocabulary.Frame.{Frame}
use Rattle.rules.specs.Picture.{Task, Picture}
use Rattle.tasks.specs.declared.record.TaskRecord.{TaskRecord}
use Rattle.arrayvec.specs.ArrayVec.{ArrayVec}
use Rattle.tasks.specs.declared.ids.TaskId.{TaskId}
use Rattle.tasks.specs.declared.tables.Tables.{Tables}

-- the open frames, innermost first
abbrev pub frames_of : TaskRecord → List Frame
frames_of r = reverse r.frames.items

-- the task that a record stands for
abbrev pub task_of : TaskRecord → Task
task_of r = record { status = r.status; entries = r.entries; master = r.master; frames = frames_of r }

-- a record of a task that has not begun
abbrev pub blank : TaskRecord
blank = record { status = NotBegun; entries = 0; master = None; frames = record { items = [] }; few = zero-le }

-- the queued tasks, in the order in which they joined
abbrev pub line_of : ArrayVec TaskId → List ℕ
line_of a = map (λ t. t.number) a.items

-- the picture that the tables stand for
abbrev pub view : Tables → Picture
view p = record { begun = p.begun; task = λ k. task_of (slice_index_or p.tasks k blank); arrivals = line_of p.arrivals }
