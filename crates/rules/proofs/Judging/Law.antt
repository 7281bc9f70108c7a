-- The law of the task book: what follows from a set of points follows from every larger one.
use Rattle.std.proofs.Common.{ℕ}
use Rattle.rules.specs.Book.Phase.{has_completed, has_terminated, unbegun, under_way}
use Rattle.rules.specs.Book.{AnyLevel, CanEnd, CanEndIn, CanRun, CanRunWith, DependentsEnd, Innermost, Inside, InsideRendezvous, Phase, phase, Points}
use Rattle.rules.specs.Picture.{Picture, status}
use Rattle.rules.specs.declared.vocabulary.Status.{Status}
use Rattle.rules.specs.declared.vocabulary.Status.TheVariants.{Accepting, Completed, Engaged, Leaving, NotBegun, Queued, Running, Terminated}

-- the law: what follows from a set of points follows from every larger one
module _ (p : Picture) (s u : Points) (i : Inside s u) where
  more_end : (m : ℕ) (levels : ℕ → Type 0) → DependentsEnd p s m levels → DependentsEnd p u m levels
  more_end m levels h d l a k = i.ends d (h d l a k)

  run_law : (t : ℕ) (S : Status) → CanRunWith p s t S → CanRunWith p u t S
  run_law t NotBegun h = h
  run_law t Running h = h
  run_law t (Queued r _) h = i.runs r h
  run_law t (Engaged r) h = (i.runs r h.0, more_end r (InsideRendezvous p r t) h.1)
  run_law t (Accepting _) (r, b, n, h) = (r, b, n, i.runs r h)
  run_law t Leaving h = more_end t (Innermost p t) h
  run_law t Completed h = h
  run_law t Terminated h = h

  end_law : (t : ℕ) (k : Phase) → CanEndIn p s t k → CanEndIn p u t k
  end_law t unbegun h = h
  end_law t under_way h = (i.runs t h.0, more_end t AnyLevel h.1)
  end_law t has_completed h = more_end t AnyLevel h
  end_law t has_terminated h = h

  pub runs_law : (t : ℕ) → CanRun p s t → CanRun p u t
  runs_law t h = (h.0, run_law t (status p t) h.1)

  pub ends_law : (t : ℕ) → CanEnd p s t → CanEnd p u t
  ends_law t h = (h.0, end_law t (phase (status p t)) h.1)
