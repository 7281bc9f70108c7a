-- What it is to be dead.
use Rattle.std.specs.Prelude.{◌≡◌, ℕ, ◌<◌, ◌≢◌, ◌⊎◌, List}
use Rattle.rules.specs.declared.vocabulary.Status.TheVariants.{Running, Terminated}
use Rattle.rules.specs.declared.vocabulary.Event.{Event}
use Rattle.rules.specs.Picture.{Picture, status}
use Rattle.rules.specs.Rules.{Steps}

-- t has begun, is neither Running nor Terminated, and no list whatever of further accepted events makes it Running or Terminated
pub record Dead (p : Picture) (t : ℕ) : Type 0 where
  pub begun : t < p.begun
  pub not_running : status p t ≢ Running
  pub not_terminated : status p t ≢ Terminated
  pub for_ever : (vs : List Event) (q : Picture) → Steps p vs q → (status q t ≡ Running) ⊎ (status q t ≡ Terminated) → ⊥
