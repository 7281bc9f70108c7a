-- The invariant, arranged by the status of each task. `Good p X` has excuses: a task m which waits for its dependents at level l
-- may find none of them unfinished where X m l. Such a task is there only while a cascade goes on.
use Rattle.std.proofs.Common.{◌≡◌, ℕ, suc, ◌<◌, ◌≤◌, ◌≢◌, ◌⊎◌, List, [], ◌∷◌, length, Contains, refl, subst, arith}
use Rattle.rules.specs.Limits.{block_room, frame_room, most_entries, most_tasks}
use Rattle.rules.specs.Picture.{AllOver, Depends, frames, Over, Picture, status, Task}
use Rattle.rules.specs.Rules.{IsOpenSet}
use Rattle.rules.specs.declared.vocabulary.Frame.{Frame}
use Rattle.rules.specs.declared.vocabulary.Frame.TheVariants.{Block, Rendezvous}
use Rattle.rules.specs.declared.vocabulary.Status.{Status}
use Rattle.rules.specs.declared.vocabulary.Status.TheVariants.{Accepting, Completed, Engaged, Leaving, NotBegun, Queued, Running, Terminated}
use Rattle.rules.proofs.Basics.Frames.{Stands}

-- which tasks are excused, at which level
abbrev pub Excuse : Type 1
Excuse = ℕ → ℕ → Type 0

abbrev pub no_excuse : Excuse
no_excuse m l = ⊥

-- t waits at entry e of s, which has not finished
pub record Waiting (p : Picture) (t s e : ℕ) : Type 0 where
  pub begun : s < p.begun
  pub entry : e < (p.task s).entries
  pub open₁ : status p s ≢ Completed
  pub open₂ : status p s ≢ Terminated
  pub arrived : Contains p.arrivals t

-- t stands in a rendezvous of s
abbrev pub Hosted : Picture → ℕ → ℕ → Type 0
Hosted p t s = (s < p.begun) × ((l : ℕ) × (e : ℕ) × Stands (frames p s) l (Rendezvous t e))

-- the innermost frame of t is a block, with an unfinished dependent
abbrev pub NotLeft : Picture → Excuse → ℕ → List Frame → Type 0
NotLeft p X t fs = (gs : List Frame) × (fs ≡ Block ∷ gs) × ((X t (suc (length gs)) → ⊥) → Over p t (suc (length gs)) → ⊥)

-- what the status S of task t, with frames fs and n entries, says
abbrev pub Stat : Picture → Excuse → ℕ → List Frame → ℕ → Status → Type 0
Stat p X t fs n NotBegun = (p.begun ≤ t) × (fs ≡ [])
Stat p X t fs n Running = t < p.begun
Stat p X t fs n (Queued s e) = (t < p.begun) × Waiting p t s e
Stat p X t fs n (Engaged s) = (t < p.begun) × Hosted p t s
Stat p X t fs n (Accepting mask) = (t < p.begun) × (IsOpenSet n mask × (length fs < frame_room))
Stat p X t fs n Leaving = (t < p.begun) × NotLeft p X t fs
Stat p X t fs n Completed = (t < p.begun) × (fs ≡ []) × (((l : ℕ) → X t l → ⊥) → AllOver p t → ⊥)
Stat p X t fs n Terminated = (t < p.begun) × (fs ≡ []) × AllOver p t

abbrev pub StatOf : Picture → Excuse → ℕ → Task → Type 0
StatOf p X t u = Stat p X t u.frames u.entries u.status

-- what is said of the frames of task t
pub record Framed (p : Picture) (t : ℕ) (fs : List Frame) : Type 0 where
  pub framed : (l c e : ℕ) → Stands fs l (Rendezvous c e) → status p c ≡ Engaged t
  pub once : (l k c e f : ℕ) → Stands fs l (Rendezvous c e) → Stands fs k (Rendezvous c f) → l ≡ k
  pub shallow : length fs ≤ frame_room
  pub blocks : (l : ℕ) → Stands fs l Block → l ≤ block_room

-- the invariant
pub record Good (p : Picture) (X : Excuse) : Type 0 where
  pub few : p.begun ≤ most_tasks
  pub stat : (t : ℕ) → StatOf p X t (p.task t)
  pub framed : (t : ℕ) → Framed p t (frames p t)
  pub arrived : (t : ℕ) → Contains p.arrivals t → (s : ℕ) × (e : ℕ) × (status p t ≡ Queued s e)
  pub entries : (t : ℕ) → t < p.begun → (p.task t).entries ≤ most_entries
  pub elder : (d m l : ℕ) → Depends p d m l → m < d
  pub attached : (d m l : ℕ) → Depends p d m l → (l ≡ 0) ⊎ Stands (frames p m) l Block

-- what is known of a task whose status is known
pub stat_is : {p : Picture} {X : Excuse} (g : Good p X) (t : ℕ) (S : Status) → status p t ≡ S → Stat p X t (frames p t) (p.task t).entries S
stat_is {p} {X} g t S e = subst (Stat p X t (frames p t) (p.task t).entries) e (g.stat t)

-- whoever has not begun has no frames
out_stat : (p : Picture) (X : Excuse) (t : ℕ) (fs : List Frame) (n : ℕ) (S : Status) → Stat p X t fs n S → p.begun ≤ t → (S ≡ NotBegun) × (fs ≡ [])
out_stat p X t fs n NotBegun h o = (refl, h.1)
out_stat p X t fs n Running h o = absurd (omega arith)
out_stat p X t fs n (Queued s e) h o = absurd (omega arith)
out_stat p X t fs n (Engaged s) h o = absurd (omega arith)
out_stat p X t fs n (Accepting mask) h o = absurd (omega arith)
out_stat p X t fs n Leaving h o = absurd (omega arith)
out_stat p X t fs n Completed h o = absurd (omega arith)
out_stat p X t fs n Terminated h o = absurd (omega arith)

pub not_begun : {p : Picture} {X : Excuse} → Good p X → (t : ℕ) → p.begun ≤ t → (status p t ≡ NotBegun) × (frames p t ≡ [])
not_begun {p} {X} g t o = out_stat p X t (frames p t) (p.task t).entries (status p t) (g.stat t) o
