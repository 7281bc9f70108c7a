-- Tasks that plainly are able.
use Rattle.std.proofs.Common.{◌≡◌, ℕ, ◌<◌, Bool, true, false, MatchBool, T, ◌≢◌, sym, ◌∙◌, subst, arith, length, get_or}
use Rattle.std.specs.List.{AllWithin, HoldsAt, range_with_len}
use Rattle.std.proofs.lemmas.List.FromFn.{get_or-range_with_len, length-range_with_len}
use mathlib.Core.Logic.{∥∥₁_elim}
use lib.Dec.{not_T}
use Rattle.rules.specs.declared.vocabulary.Status.{Status}
use Rattle.rules.specs.declared.vocabulary.Status.TheVariants.{NotBegun, Running, Queued, Accepting}
use Rattle.rules.specs.Book.{Able, CanRunWith, outside, Points, Shut}
use Rattle.rules.specs.Picture.{Picture, status}
use Rattle.rules.specs.Rules.{Reached}
use Rattle.rules.proofs.Invariant.Reached.{reached_sound}
use Rattle.rules.proofs.Invariant.Sound.{begun_of, Sound}

module _ {p : Picture} (sound : Sound p) where
  -- a task that has begun is able if "it can run" follows from the points outside each shut set
  able_by : (t : ℕ) (k : Status) → status p t ≡ k → k ≢ NotBegun → ((s : Points) → Shut p s → CanRunWith p (outside s) t k) → Able p t
  able_by t k e n follows s h i = h.runs t i (begun_of sound t (λ z. n (sym e ∙ z)), subst (CanRunWith p (outside s) t) (sym e) (follows s h))

  able_outside : (t : ℕ) → Able p t → (s : Points) → Shut p s → T ((outside s).runs t)
  able_outside t able s h = not_T (s.runs t) (able s h)

  running : (t : ℕ) → status p t ≡ Running → Able p t
  running t e = able_by t Running e (λ z. cc) (λ s h. tt)

  queued : (t r f : ℕ) → status p t ≡ Queued r f → Able p r → Able p t
  queued t r f e able = able_by t (Queued r f) e (λ z. cc) (able_outside r able)

  accepting : (t m u : ℕ) → status p t ≡ Accepting m → status p u ≡ Running → Able p t
  accepting t m u e runs = able_by t (Accepting m) e (λ z. cc) (λ s h.
      let b = begun_of sound u (λ z. cc) in
      let few = sound.few in
      (u, omega arith, (λ i. let j : status p t ≡ Running = subst (λ x. status p x ≡ Running) i runs in cc), able_outside u (running u runs) s h))

-- that a task is able holds in one way only, so that a reached picture is enough
from_reached : (p : Picture) (t : ℕ) → ∥ (Reached p) ∥₁ → (Sound p → Able p t) → Able p t
from_reached p t reached able s h i = ∥∥₁_elim reached (λ x y. absurd x) (λ r. able (reached_sound p r) s h i)

module _ (p : Picture) (reached : ∥ (Reached p) ∥₁) where
  pub running_able : (t : ℕ) → status p t ≡ Running → Able p t
  running_able t e = from_reached p t reached (λ k. running k t e)

  pub queued_able : (t r f : ℕ) → status p t ≡ Queued r f → Able p r → Able p t
  queued_able t r f e able = from_reached p t reached (λ k. queued k t r f e able)

  pub accepting_able : (t m u : ℕ) → status p t ≡ Accepting m → status p u ≡ Running → Able p t
  accepting_able t m u e runs = from_reached p t reached (λ k. accepting k t m u e runs)

-- some task runs, or none of the first n
pub some_runs : (p : Picture) (n : ℕ) (r : Bool)
    → MatchBool r ((k : ℕ) × (k < length (range_with_len 0 n)) × HoldsAt (λ u. status p u ≡ Running) (range_with_len 0 n) k)
    (AllWithin (λ u. status p u ≡ Running → ⊥) (range_with_len 0 n) 0 (length (range_with_len 0 n)))
    → MatchBool r ((u : ℕ) × (status p u ≡ Running)) ((u : ℕ) → u < n → status p u ≢ Running)
some_runs p n true (k, l, h) = (get_or (range_with_len 0 n) k 0, h 0)
some_runs p n false none = λ u l. subst (λ x. status p x ≢ Running) (get_or-range_with_len 0 n u 0 l ∙ omega arith) (none u 0 (omega arith) (subst (λ m. u < m) (sym (length-range_with_len 0 n)) l))
