-- Whether a point of the task book follows from a set of points can be decided.
use Rattle.std.proofs.Common.{ℕ, ◌<◌, T, ◌≢◌, length, inl, inr}
use native.Mathlib.Decide.{dec_lt, ℕ_discrete}
use Rattle.rules.specs.Book.Phase.{has_completed, has_terminated, unbegun, under_way}
use Rattle.rules.specs.Book.{AnyLevel, CanEndIn, CanEndWith, CanRunWith, DependentsEnd, Innermost, InsideRendezvous, Phase, phase, Points}
use Rattle.rules.specs.Limits.{most_tasks}
use Rattle.rules.specs.Picture.{frames, Picture, rendezvous_level, status}
use Rattle.rules.specs.declared.vocabulary.Status.{Status}
use Rattle.rules.specs.declared.vocabulary.Status.TheVariants.{Accepting, Completed, Engaged, Leaving, NotBegun, Queued, Running, Terminated}
use Rattle.rules.proofs.Basics.Decide.{dec_both, dec_not, dec_T, find}
use Rattle.rules.proofs.Basics.Dependents.{dec_dependents}

-- whether every dependent of m at one of the levels can end
unfoldable pub dec_dependents_end : (p : Picture) (s : Points) (m : ℕ) (levels : ℕ → Type 0) → ((l : ℕ) → Dec (levels l)) → Dec (DependentsEnd p s m levels)
unfolding dec_dependents dec_T
dec_dependents_end p s m levels level? = dec_dependents m levels level? (λ d. T (s.ends d)) (λ d. dec_T (s.ends d)) p

-- some other task can run
abbrev pub Other : Points → ℕ → ℕ → Type 0
Other s t u = (u ≢ t) × T (s.runs u)

unfoldable pub dec_other : (s : Points) (t : ℕ) → Dec ((u : ℕ) × (u < most_tasks) × (u ≢ t) × T (s.runs u))
unfolding find dec_both dec_not ℕ_discrete dec_T
dec_other s t = elim (find (Other s t) (λ u. dec_both (dec_not (ℕ_discrete u t)) (dec_T (s.runs u))) most_tasks) [
  | inl (u, b, (n, r)) ↦ yes (u, b, n, r)
  | inr f ↦ no (λ (u, b, n, r). f u b (n, r))
]

unfoldable pub dec_run : (p : Picture) (s : Points) (t : ℕ) (S : Status) → Dec (CanRunWith p s t S)
unfolding dec_T dec_both dec_dependents_end dec_other dec_lt ℕ_discrete
dec_run p s t NotBegun = no (λ h. h)
dec_run p s t Running = yes tt
dec_run p s t (Queued r _) = dec_T (s.runs r)
dec_run p s t (Engaged r) = dec_both (dec_T (s.runs r)) (dec_dependents_end p s r (InsideRendezvous p r t) (λ l. dec_lt (rendezvous_level t (frames p r)) l))
dec_run p s t (Accepting _) = dec_other s t
dec_run p s t Leaving = dec_dependents_end p s t (Innermost p t) (λ l. ℕ_discrete l (length (frames p t)))
dec_run p s t Completed = no (λ h. h)
dec_run p s t Terminated = no (λ h. h)

unfoldable pub dec_all : (p : Picture) (s : Points) (t : ℕ) → Dec (DependentsEnd p s t AnyLevel)
unfolding dec_dependents_end
dec_all p s t = dec_dependents_end p s t AnyLevel (λ l. yes tt)

unfoldable pub dec_end : (p : Picture) (s : Points) (t : ℕ) (k : Phase) → Dec (CanEndIn p s t k)
unfolding dec_all dec_T dec_both
dec_end p s t unbegun = no (λ h. h)
dec_end p s t under_way = dec_both (dec_T (s.runs t)) (dec_all p s t)
dec_end p s t has_completed = dec_all p s t
dec_end p s t has_terminated = yes tt

-- a point that follows from o and is not in it
abbrev pub NewRun : Picture → Points → ℕ → Type 0
NewRun p o t = CanRunWith p o t (status p t) × (T (o.runs t) → ⊥)

abbrev pub NewEnd : Picture → Points → ℕ → Type 0
NewEnd p o t = CanEndWith p o t (status p t) × (T (o.ends t) → ⊥)

unfoldable pub dec_new_run : (p : Picture) (o : Points) (t : ℕ) → Dec (NewRun p o t)
unfolding dec_both dec_run dec_not dec_T
dec_new_run p o t = dec_both (dec_run p o t (status p t)) (dec_not (dec_T (o.runs t)))

unfoldable pub dec_new_end : (p : Picture) (o : Points) (t : ℕ) → Dec (NewEnd p o t)
unfolding dec_both dec_end dec_not dec_T
dec_new_end p o t = dec_both (dec_end p o t (phase (status p t))) (dec_not (dec_T (o.ends t)))
