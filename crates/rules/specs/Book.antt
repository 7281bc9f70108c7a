-- The task book: which points follow from a set of points, shut sets, and the names.
use Rattle.std.specs.Prelude.{◌≡◌, ℕ, ◌<◌, Bool, not, T, ◌≢◌, length}
use Rattle.rules.specs.declared.vocabulary.Status.{Status}
use Rattle.rules.specs.declared.vocabulary.Status.TheVariants.{NotBegun, Running, Queued, Engaged, Accepting, Leaving, Completed, Terminated}
use Rattle.rules.specs.Limits.{most_tasks}
use Rattle.rules.specs.Picture.{Picture, status, frames, Depends, rendezvous_level}

-- a set of points: runs t says whether the point "t can run" is in it, ends t whether the point "t can end" is
pub record Points : Type 0 where
  pub runs : ℕ → Bool
  pub ends : ℕ → Bool

-- for every dependent of m at one of those levels, "it can end" is in s
abbrev pub DependentsEnd : Picture → Points → ℕ → (ℕ → Type 0) → Type 0
DependentsEnd p s m levels = (d l : ℕ) → levels l → Depends p d m l → T (s.ends d)

-- every level: the body, and each block
abbrev pub AnyLevel : ℕ → Type 0
AnyLevel _ = Unit {0}

-- level l of the frames of r is inside, and so above, its rendezvous with t
abbrev pub InsideRendezvous : Picture → ℕ → ℕ → ℕ → Type 0
InsideRendezvous p r t l = rendezvous_level t (frames p r) < l

-- level l of the frames of t is the innermost
abbrev pub Innermost : Picture → ℕ → ℕ → Type 0
Innermost p t l = l ≡ length (frames p t)

-- what "t can run" takes of s, by the status of t
abbrev pub CanRunWith : Picture → Points → ℕ → Status → Type 0
CanRunWith p s t NotBegun = ⊥
CanRunWith p s t Running = Unit {0}
-- the server can run
CanRunWith p s t (Queued r _) = T (s.runs r)
-- the server can run, and every dependent of each block that it opened inside the rendezvous can end
CanRunWith p s t (Engaged r) = T (s.runs r) × DependentsEnd p s r (InsideRendezvous p r t)
-- some other task can run
CanRunWith p s t (Accepting _) = (u : ℕ) × (u < most_tasks) × (u ≢ t) × T (s.runs u)
-- every dependent of the innermost block can end
CanRunWith p s t Leaving = DependentsEnd p s t (Innermost p t)
CanRunWith p s t Completed = ⊥
CanRunWith p s t Terminated = ⊥

-- the point "t can run" follows from s
abbrev pub CanRun : Picture → Points → ℕ → Type 0
CanRun p s t = (t < p.begun) × CanRunWith p s t (status p t)

-- how far a task has come
pub data Phase : Type 0 where
  unbegun under_way has_completed has_terminated : Phase

-- how far a task of that status has come
abbrev pub phase : Status → Phase
phase NotBegun = unbegun
phase Running = under_way
phase (Queued _ _) = under_way
phase (Engaged _) = under_way
phase (Accepting _) = under_way
phase Leaving = under_way
phase Completed = has_completed
phase Terminated = has_terminated

-- what "t can end" takes of s, by how far t has come
abbrev pub CanEndIn : Picture → Points → ℕ → Phase → Type 0
CanEndIn p s t unbegun = ⊥
-- t can run, and every dependent of t can end
CanEndIn p s t under_way = T (s.runs t) × DependentsEnd p s t AnyLevel
-- every dependent of t can end
CanEndIn p s t has_completed = DependentsEnd p s t AnyLevel
CanEndIn p s t has_terminated = Unit {0}

-- what "t can end" takes of s, by the status of t
abbrev pub CanEndWith : Picture → Points → ℕ → Status → Type 0
CanEndWith p s t k = CanEndIn p s t (phase k)

-- the point "t can end" follows from s
abbrev pub CanEnd : Picture → Points → ℕ → Type 0
CanEnd p s t = (t < p.begun) × CanEndWith p s t (status p t)

-- the points that are not in s
abbrev pub outside : Points → Points
outside s = record { runs = λ t. not (s.runs t); ends = λ t. not (s.ends t) }

-- s is shut: no member of it follows from the points outside it
pub record Shut (p : Picture) (s : Points) : Type 0 where
  pub runs : (t : ℕ) → T (s.runs t) → CanRun p (outside s) t → ⊥
  pub ends : (t : ℕ) → T (s.ends t) → CanEnd p (outside s) t → ⊥

-- s lies inside u
pub record Inside (s u : Points) : Type 0 where
  pub runs : (t : ℕ) → T (s.runs t) → T (u.runs t)
  pub ends : (t : ℕ) → T (s.ends t) → T (u.ends t)

-- s is the largest shut set: the points left out
pub record LargestShutPoints (p : Picture) (s : Points) : Type 0 where
  pub shut : Shut p s
  pub largest : (u : Points) → Shut p u → Inside u s

-- t is named, s being the points left out: it has begun, is not Terminated, and both its points are in s
abbrev pub Named : Picture → Points → ℕ → Type 0
Named p s t = (t < p.begun) × (status p t ≢ Terminated) × T (s.runs t) × T (s.ends t)

-- t is able: "t can run" is in no shut set
abbrev pub Able : Picture → ℕ → Type 0
Able p t = (s : Points) → Shut p s → T (s.runs t) → ⊥
