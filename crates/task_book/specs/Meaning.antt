-- What the task book of a picture answers. Point 2t is "t can run", and point 2t + 1 is "t can end"; a set of points is a
-- test of their numbers.
use Rattle.std.specs.Prelude.{ℕ, zero, suc, ◌+◌, ◌*◌, ◌/◌, ◌%◌, Bool, true, false, cond, not, ◌&&◌, ◌||◌, length, Some, None, Option, ◌==◌, nat_lt}
use Rattle.rules.specs.declared.vocabulary.Master.{Master}
use Rattle.rules.specs.declared.vocabulary.Status.{Status}
use Rattle.rules.specs.declared.vocabulary.Status.TheVariants.{NotBegun, Running, Queued, Engaged, Accepting, Leaving, Completed, Terminated}
use Rattle.rules.specs.Book.{Phase, phase, Points}
use Rattle.rules.specs.Book.Phase.{unbegun, under_way, has_completed, has_terminated}
use Rattle.rules.specs.Limits.{most_tasks}
use Rattle.rules.specs.Picture.{Picture, status, frames, rendezvous_level}

-- whether every number below n passes a test
unfoldable pub all_below : (ℕ → Bool) → ℕ → Bool
all_below test zero = true
all_below test (suc n) = test n && all_below test n

-- whether some number below n passes a test
unfoldable pub some_below : (ℕ → Bool) → ℕ → Bool
some_below test zero = false
some_below test (suc n) = test n || some_below test n

-- whether "t can run" is in a set of points
abbrev pub runs : (ℕ → Bool) → ℕ → Bool
runs S t = S (2 * t)

-- whether "t can end" is in a set of points
abbrev pub ends : (ℕ → Bool) → ℕ → Bool
ends S t = S (2 * t + 1)

-- the same set, in the words of the rules
abbrev pub points : (ℕ → Bool) → Points
points S = record { runs = runs S; ends = ends S }

-- whether a task with that master is a dependent of m at a level that passes a test
abbrev pub depends : ℕ → (ℕ → Bool) → Option Master → Bool
depends m level None = false
depends m level (Some k) = k.creator == m && level k.level

-- whether every dependent of m at such a level can end
abbrev pub dependents_end : Picture → (ℕ → Bool) → ℕ → (ℕ → Bool) → Bool
dependents_end p S m level = all_below (λ d. not (depends m level (p.task d).master) || ends S d) p.begun

-- every level: the body, and each block
abbrev pub any_level : ℕ → Bool
any_level _ = true

-- whether a level of the frames of r is inside its rendezvous with t
abbrev pub inside_rendezvous : Picture → ℕ → ℕ → ℕ → Bool
inside_rendezvous p r t l = nat_lt (rendezvous_level t (frames p r)) l

-- whether a level of the frames of t is the innermost
abbrev pub innermost : Picture → ℕ → ℕ → Bool
innermost p t l = l == length (frames p t)

-- whether some task other than t can run
abbrev pub other_runs : (ℕ → Bool) → ℕ → Bool
other_runs S t = some_below (λ u. not (u == t) && runs S u) most_tasks

-- whether t, which has that status, can run
abbrev pub runs_with : Picture → (ℕ → Bool) → ℕ → Status → Bool
runs_with p S t NotBegun = false
runs_with p S t Running = true
runs_with p S t (Queued r _) = runs S r
runs_with p S t (Engaged r) = runs S r && dependents_end p S r (inside_rendezvous p r t)
runs_with p S t (Accepting _) = other_runs S t
runs_with p S t Leaving = dependents_end p S t (innermost p t)
runs_with p S t Completed = false
runs_with p S t Terminated = false

-- whether t, which has come that far, can end
abbrev pub ends_in : Picture → (ℕ → Bool) → ℕ → Phase → Bool
ends_in p S t unbegun = false
ends_in p S t under_way = runs S t && dependents_end p S t any_level
ends_in p S t has_completed = dependents_end p S t any_level
ends_in p S t has_terminated = true

-- whether "t can run" follows from a set of points
unfoldable pub can_run : Picture → (ℕ → Bool) → ℕ → Bool
can_run p S t = nat_lt t p.begun && runs_with p S t (status p t)

-- whether "t can end" follows from a set of points
unfoldable pub can_end : Picture → (ℕ → Bool) → ℕ → Bool
can_end p S t = nat_lt t p.begun && ends_in p S t (phase (status p t))

-- whether point q follows from a set of points
unfoldable pub meaning_of : Picture → ℕ → (ℕ → Bool) → Bool
meaning_of p q S = cond (q % 2 == 0) (can_run p S (q / 2)) (can_end p S (q / 2))
