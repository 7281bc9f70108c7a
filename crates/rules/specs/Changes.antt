-- How pictures change: the pieces that the rules put together.
use Rattle.std.specs.Prelude.{ℕ, suc, cond, not, ◌&&◌, List, [], ◌∷◌, ◌++◌, length, filter, Some, None, Option, ◌==◌}
use Rattle.rules.specs.declared.vocabulary.Status.{Status}
use Rattle.rules.specs.declared.vocabulary.Status.TheVariants.{Running, Queued, Engaged}
use Rattle.rules.specs.declared.vocabulary.Frame.{Frame}
use Rattle.rules.specs.declared.vocabulary.Frame.TheVariants.{Rendezvous}
use Rattle.rules.specs.declared.vocabulary.Master.{Master}
use Rattle.rules.specs.Picture.{Picture, Task, status, frames, at, innermost_block, without, queued_at_server, under}

-- the task with the status s
abbrev pub with_status : Task → Status → Task
with_status t s = record { status = s; entries = t.entries; master = t.master; frames = t.frames }

-- the task with the open frames fs
abbrev pub with_frames : Task → List Frame → Task
with_frames t fs = record { status = t.status; entries = t.entries; master = t.master; frames = fs }

-- the task with the master k
abbrev pub with_master : Task → Option Master → Task
with_master t k = record { status = t.status; entries = t.entries; master = k; frames = t.frames }

-- the picture in which task t is u
abbrev pub put : Picture → ℕ → Task → Picture
put p t u = record { begun = p.begun; task = at p.task t u; arrivals = p.arrivals }

-- the picture in which task t has the status s
abbrev pub mark : Picture → ℕ → Status → Picture
mark p t s = put p t (with_status (p.task t) s)

-- the picture in which task t has the status s and the open frames fs
abbrev pub turn : Picture → ℕ → Status → List Frame → Picture
turn p t s fs = put p t (with_frames (with_status (p.task t) s) fs)

-- a new task with n entries, Running, under the innermost open block of its creator a, or under the body of a
abbrev pub new_task : Picture → ℕ → ℕ → Task
new_task p a n = record {
  status = Running;
  entries = n;
  master = under a (innermost_block (frames p a));
  frames = [];
}

-- the picture in which a has begun a task with n entries
abbrev pub birth : Picture → ℕ → ℕ → Picture
birth p a n = record { begun = suc p.begun; task = at p.task p.begun (new_task p a n); arrivals = p.arrivals }

-- a master, once the block of m at level l has closed: what depended on the block depends on the body of m
abbrev pub freed : ℕ → ℕ → Option Master → Option Master
freed m l None = None
freed m l (Some k) = under k.creator (cond (k.creator == m && k.level == l) 0 k.level)

-- the picture in which the dependents of that block are let go to the body of m
abbrev pub let_go : Picture → ℕ → ℕ → Picture
let_go p m l = record { begun = p.begun; task = λ t. with_master (p.task t) (freed m l (p.task t).master); arrivals = p.arrivals }

-- the picture in which m has closed its innermost frame, a block, has the frames fs left, and is Running
abbrev pub close : Picture → ℕ → List Frame → Picture
close p m fs = turn (let_go p m (suc (length fs))) m Running fs

-- the picture in which a waits at the end of the queue of entry e of s
abbrev pub join : Picture → ℕ → ℕ → ℕ → Picture
join p a s e = record { begun = p.begun; task = at p.task a (with_status (p.task a) (Queued s e)); arrivals = p.arrivals ++ (a ∷ []) }

-- the picture in which c has left its queue
abbrev pub leave_queue : Picture → ℕ → Picture
leave_queue p c = record { begun = p.begun; task = p.task; arrivals = without c p.arrivals }

-- the picture in which c and s are in rendezvous at entry e of s: c is Engaged, and s is Running with a new frame
abbrev pub engage : Picture → ℕ → ℕ → ℕ → Picture
engage p c s e = turn (mark p c (Engaged s)) s Running (Rendezvous c e ∷ frames p s)

-- the picture in which s has ended its innermost rendezvous, with c, and has the frames fs left: both are Running
abbrev pub part : Picture → ℕ → ℕ → List Frame → Picture
part p s c fs = mark (turn p s Running fs) c Running

-- the picture in which all callers queued at s have left its queues and are Running
abbrev pub dismiss : Picture → ℕ → Picture
dismiss p s = record {
  begun = p.begun;
  task = λ t. cond (queued_at_server s (status p t)) (with_status (p.task t) Running) (p.task t);
  arrivals = filter (λ t. not (queued_at_server s (status p t))) p.arrivals;
}
