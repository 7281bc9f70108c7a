use Rattle.std.proofs.Common.{◌≡◌, ℕ, refl, arith}
use Rattle.rules.specs.declared.vocabulary.Status.{Status}
use Rattle.rules.specs.declared.vocabulary.Status.TheVariants.{NotBegun, Running, Queued, Engaged, Accepting, Leaving, Completed, Terminated}
use Rattle.rules.specs.Picture.{Picture, status}
use Rattle.rules.specs.Rules.{IsOpenSet}
use Rattle.tasks.specs.Promises.{IsReached}
use Rattle.tasks.specs.Sets.{open_entries}
use Rattle.tasks.proofs.Reach.{accept_set}
use Rattle.tasks.proofs.picture.Picture.open_entries.Goals as goal

-- who is not Accepting waits at no entry
none_open : (s : Status) → ((m : ℕ) → s ≡ Accepting m → ⊥) → ◌≡◌ {A = ℕ} 0 (open_entries s)
none_open NotBegun n = refl
none_open Running n = refl
none_open (Queued _ _) n = refl
none_open (Engaged _) n = refl
none_open (Accepting m) n = absurd (n m refl)
none_open Leaving n = refl
none_open Completed n = refl
none_open Terminated n = refl

none_proper : {p : Picture} (t : ℕ) → IsReached p → ((m : ℕ) → status p t ≡ Accepting m → IsOpenSet (p.task t).entries m → ⊥) → ◌≡◌ {A = ℕ} 0 (open_entries (status p t))
none_proper {p} t r n = none_open (status p t) (λ m e. n m e (accept_set t m r e))

pub returns : goal.returns
returns c = let n = none_proper c.args.task c.args.self.now.reached in grind (arith, n)
