-- Sets of names that are exactly the dead: from the picture before an event to the one after it.
use Rattle.std.proofs.Common.{◌≡◌, ℕ, Bool, true, false, not, ◌&&◌, ◌||◌, ◌↔◌, sym, refl, ap, ◌∙◌}
use mathlib.Core.Bool.{Bool-set}
use mathlib.Core.HLevel.{→_prop, ×_prop, Π_prop}
use mathlib.Core.Logic.{∥∥₁_elim}
use Rattle.std.proofs.lemmas.Bool.{both_ways, and_parts, and_from, not-true, not_from_false}
use Rattle.books.specs.declared.members.Members.{Members}
use Rattle.books.specs.Points.{member}
use Rattle.rules.specs.declared.vocabulary.Event.{Event}
use Rattle.rules.specs.declared.vocabulary.Outcome.{Outcome}
use Rattle.rules.specs.Dead.{Dead}
use Rattle.rules.specs.Picture.{Picture, fresh}
use Rattle.rules.specs.Rules.{Reached, Step}
use Rattle.rules.specs.Theorems.{Harmless}
use Rattle.rules.proofs.Harmless.{dead_before}
use Rattle.rules.proofs.Invariant.Reached.{reached_sound}
use Rattle.task_book.specs.Book.{picture_of}
use Rattle.task_book.specs.Names.{HoldsDead}
use Rattle.task_book.proofs.Named.{dead_prop}
use Rattle.monitor.specs.declared.monitor.Monitor.{Monitor}
use Rattle.monitor.proofs.EveryRun.{dead_stays, nobody_dead}

-- that names are exact holds in one way only
exactly : (names : Members) (p : Picture) → ∥ (HoldsDead names p) ∥₁ → HoldsDead names p
exactly names p h = ∥∥₁_elim h (Π_prop (λ t. ×_prop (→_prop (dead_prop p t)) (→_prop (Bool-set _ _)))) (λ x. x)

-- the names of a monitor are exactly its dead tasks
pub exact_names : (m : Monitor) → HoldsDead m.names (picture_of m.tasks.watch.book)
exact_names m = exactly m.names (picture_of m.tasks.watch.book) m.exact

-- in a new picture there are none
pub none_dead : (names : Members) → ((t : ℕ) → member names t ≡ false) → HoldsDead names fresh
none_dead names none t = (λ e. absurd (both_ways (member names t) (none t) e), λ d. absurd (nobody_dead t d))

module _ (p q : Picture) (v : Event) (o : Outcome) (step : Step p v o q) (old new added : Members)
    (is_added : (t : ℕ) → member added t ≡ (member new t && not (member old t))) (before : HoldsDead old p) (after : HoldsDead new q) where
  -- the names that are new are those dead after and not before
  pub newly_dead : (t : ℕ) → (member added t ≡ true) ↔ (Dead q t × (Dead p t → ⊥))
  newly_dead t = (
    λ e. let both = and_parts (member new t) (not (member old t)) (sym (is_added t) ∙ e) in
        ((after t).0 both.0, λ d. both_ways (member old t) (not-true (member old t) both.1) ((before t).1 d)),
    λ h. is_added t ∙ and_from (member new t) (not (member old t)) ((after t).1 h.0) (not_from_false (member old t) (not_dead t h.1)),
  )
    where
      not_dead : (t : ℕ) → (Dead p t → ⊥) → member old t ≡ false
      not_dead t h = of (member old t) refl
        where
          of : (b : Bool) → member old t ≡ b → b ≡ false
          of true e = absurd (h ((before t).0 e))
          of false e = refl

  -- and with the old ones they are all
  pub old_and_new : (t : ℕ) → member new t ≡ (member old t || member added t)
  old_and_new t = joined (member old t) (member new t) (member added t) (is_added t) (λ e. (after t).1 (dead_stays step t ((before t).0 e)))
    where
      joined : (a b c : Bool) → c ≡ (b && not a) → (a ≡ true → b ≡ true) → b ≡ (a || c)
      joined true b c e h = h refl
      joined false true c e h = sym e
      joined false false c e h = sym e

-- a harmless event leaves the names as they were, and adds none
module _ (p q : Picture) (v : Event) (o : Outcome) (reached : ∥ (Reached p) ∥₁) (step : Step p v o q) (harmless : Harmless q v o) (names : Members)
    (before : HoldsDead names p) where
  was_dead : (t : ℕ) → Dead q t → Dead p t
  was_dead t d = ∥∥₁_elim reached (dead_prop p t) (λ r. dead_before (reached_sound p r) step harmless t d)

  pub still_exact : HoldsDead names q
  still_exact t = (λ e. dead_stays step t ((before t).0 e), λ d. (before t).1 (was_dead t d))

  pub none_newly_dead : (empty : Members) → ((t : ℕ) → member empty t ≡ false) → (t : ℕ) → (member empty t ≡ true) ↔ (Dead q t × (Dead p t → ⊥))
  none_newly_dead empty none t = (λ e. absurd (both_ways (member empty t) (none t) e), λ h. absurd (h.1 (was_dead t h.0)))

  pub only_old : (empty : Members) → ((t : ℕ) → member empty t ≡ false) → (t : ℕ) → member names t ≡ (member names t || member empty t)
  only_old empty none t = sym (ap (λ b. member names t || b) (none t) ∙ or_false (member names t))
    where
      or_false : (b : Bool) → (b || false) ≡ b
      or_false true = refl
      or_false false = refl
