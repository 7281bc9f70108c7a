-- The picture: what is known of the tasks of one program.
use Rattle.std.specs.Prelude.{◌≡◌, ℕ, suc, ◌<◌, Bool, false, cond, not, ◌&&◌, List, [], ◌∷◌, length, filter, Some, None, Option, ◌==◌, nat_eq}
use Rattle.rules.specs.declared.vocabulary.Status.{Status}
use Rattle.rules.specs.declared.vocabulary.Status.TheVariants.{NotBegun, Running, Queued, Engaged, Accepting, Leaving, Completed, Terminated}
use Rattle.rules.specs.declared.vocabulary.Frame.{Frame}
use Rattle.rules.specs.declared.vocabulary.Frame.TheVariants.{Block, Rendezvous}
use Rattle.rules.specs.declared.vocabulary.Master.{Master}

-- one task; its open frames stand innermost first
pub record Task : Type 0 where
  pub status : Status
  pub entries : ℕ
  pub master : Option Master
  pub frames : List Frame

-- tasks 0 to begun - 1 have begun; arrivals lists the queued tasks in the order in which they joined their queues
pub record Picture : Type 0 where
  pub begun : ℕ
  pub task : ℕ → Task
  pub arrivals : List ℕ

-- the status of task t
abbrev pub status : Picture → ℕ → Status
status p t = (p.task t).status

-- the open frames of task t
abbrev pub frames : Picture → ℕ → List Frame
frames p t = (p.task t).frames

-- f, but v at i
abbrev pub at : {A : Type 0} → (ℕ → A) → ℕ → A → ℕ → A
at f i v j = cond (i == j) v (f j)

-- a task that has not begun
abbrev pub unborn : Task
unborn = record { status = NotBegun; entries = 0; master = None; frames = [] }

-- a new picture: task 0 is Running, with no entries, no master and no frames
abbrev pub fresh : Picture
fresh = record {
  begun = 1;
  task = at (λ _. unborn) 0 (record { status = Running; entries = 0; master = None; frames = [] });
  arrivals = [];
}

-- the master of what depends on the block of m at level l (the l-th open frame of m, counted from the outermost), or, at level 0, on the body of m
abbrev pub under : ℕ → ℕ → Option Master
under m l = Some (record { creator = m; level = l })

-- d depends on that block or body
abbrev pub Depends : Picture → ℕ → ℕ → ℕ → Type 0
Depends p d m l = (d < p.begun) × ((p.task d).master ≡ under m l)

-- every dependent of that block or body is Terminated
abbrev pub Over : Picture → ℕ → ℕ → Type 0
Over p m l = (d : ℕ) → Depends p d m l → status p d ≡ Terminated

-- every dependent of m is Terminated
abbrev pub AllOver : Picture → ℕ → Type 0
AllOver p m = (l : ℕ) → Over p m l

-- the level of the innermost open block, 0 where no block is open
abbrev pub innermost_block : List Frame → ℕ
innermost_block [] = 0
innermost_block (Block ∷ fs) = suc (length fs)
innermost_block (Rendezvous _ _ ∷ fs) = innermost_block fs

-- the level of the innermost rendezvous with caller c
abbrev pub rendezvous_level : ℕ → List Frame → ℕ
rendezvous_level c [] = 0
rendezvous_level c (Block ∷ fs) = rendezvous_level c fs
rendezvous_level c (Rendezvous b _ ∷ fs) = cond (b == c) (suc (length fs)) (rendezvous_level c fs)

-- the list without t
abbrev pub without : ℕ → List ℕ → List ℕ
without t = filter (λ x. not (x == t))

-- whether a task of that status is queued at a server and an entry that pass a test
abbrev pub queued_where : (ℕ → ℕ → Bool) → Status → Bool
queued_where test NotBegun = false
queued_where test Running = false
queued_where test (Queued s e) = test s e
queued_where test (Engaged _) = false
queued_where test (Accepting _) = false
queued_where test Leaving = false
queued_where test Completed = false
queued_where test Terminated = false

-- whether a task of that status is queued at entry e of s
abbrev pub queued_at : ℕ → ℕ → Status → Bool
queued_at s e = queued_where (λ r f. (r == s) && f == e)

-- whether a task of that status is queued at some entry of s
abbrev pub queued_at_server : ℕ → Status → Bool
queued_at_server s = queued_where (λ r _. nat_eq r s)

-- the callers queued at entry e of s, in order of arrival
abbrev pub queue : Picture → ℕ → ℕ → List ℕ
queue p s e = filter (λ t. queued_at s e (status p t)) p.arrivals
