-- The tasks named by a set, and that they are the dead where a judging has just been made.
use Rattle.std.proofs.Common.{◌≡◌, ℕ, ◌<◌, ◌≤◌, Bool, false, not, ◌&&◌, ◌||◌, ltb, leb, ◌↔◌, Decides, refl, ◌∙◌, arith}
use mathlib.Core.HLevel.{¬_prop, →_prop, ×_prop}
use mathlib.Core.Logic.{∥∥₁_elim}
use native.Mathlib.Bridge.{le_prop}
use lib.Dec.{T_prop}
use Rattle.std.proofs.lemmas.Bool.{both_ways}
use Rattle.std.proofs.lemmas.Bool.Decides.{Decides-and, Decides-at, Decides-like, Decides-ltb, Decides-not}
use Rattle.books.specs.declared.members.Members.{Members}
use Rattle.books.specs.Points.{member}
use Rattle.books.specs.Shut.{LargestShut}
use Rattle.rules.specs.declared.vocabulary.Status.{Status}
use Rattle.rules.specs.declared.vocabulary.Status.TheVariants.{NotBegun, Running, Queued, Engaged, Accepting, Leaving, Completed, Terminated}
use Rattle.rules.specs.Book.{Named}
use Rattle.rules.specs.Dead.{Dead}
use Rattle.rules.specs.Limits.{most_tasks}
use Rattle.rules.specs.Picture.{Picture, status}
use Rattle.rules.specs.Rules.{Reached}
use Rattle.rules.proofs.Invariant.Reached.{reached_sound}
use Rattle.rules.proofs.NamedStayDead.Names.{names_dead}
use Rattle.rules.proofs.WaysOut.Drain.{dead_named}
use Rattle.task_book.specs.Masks.{Marks}
use Rattle.task_book.specs.Meaning.{ends, meaning_of, runs}
use Rattle.task_book.specs.Names.{HoldsDead, HoldsNamed, ended_status, left_out}
use Rattle.task_book.specs.Bridge.{in_left, left_in, left_largest}
use Rattle.task_book.specs.Decides.{decides_T}

decides_terminated : (k : Status) → Decides (ended_status k) (k ≡ Terminated)
decides_terminated NotBegun = (λ e. absurd (both_ways false refl e), λ e. absurd (cc))
decides_terminated Running = (λ e. absurd (both_ways false refl e), λ e. absurd (cc))
decides_terminated (Queued _ _) = (λ e. absurd (both_ways false refl e), λ e. absurd (cc))
decides_terminated (Engaged _) = (λ e. absurd (both_ways false refl e), λ e. absurd (cc))
decides_terminated (Accepting _) = (λ e. absurd (both_ways false refl e), λ e. absurd (cc))
decides_terminated Leaving = (λ e. absurd (both_ways false refl e), λ e. absurd (cc))
decides_terminated Completed = (λ e. absurd (both_ways false refl e), λ e. absurd (cc))
decides_terminated Terminated = (λ _. refl, λ _. refl)

-- a set of the tasks that are not Terminated, and one of those with both points left out
module _ (p : Picture) (L : ℕ → Bool) (few : p.begun ≤ most_tasks) where
  abbrev waiting : ℕ → Bool
  waiting t = not (ended_status (status p t))

  decides_named : (t : ℕ) → Decides ((ltb t p.begun && waiting t) && (runs L t && ends L t)) (Named p (left_out L) t)
  decides_named t = Decides-like _
      (λ h. (h.0.0, h.0.1, in_left L t _ ((decides_T _).1 h.1.0), in_left L t _ ((decides_T _).1 h.1.1)))
      (λ h. let b : t < most_tasks = omega (arith, h.0) in
      ((h.0, h.1), ((decides_T _).0 (left_in L t _ b h.2), (decides_T _).0 (left_in L t _ b h.3))))
      (Decides-and _ _
      (Decides-and _ _ (Decides-ltb t p.begun) (Decides-not _ (decides_terminated (status p t))))
      (Decides-and _ _ (decides_T (runs L t)) (decides_T (ends L t))))

  pub holds_named : (a b both : Members) → Marks a p.begun waiting → ((t : ℕ) → member b t ≡ (runs L t && ends L t))
      → ((t : ℕ) → member both t ≡ (member a t && member b t)) → HoldsNamed both p (left_out L)
  holds_named a b both begun pairs is t = Decides-at _ _ (is t ∙ (λ i. begun t i && pairs t i)) (decides_named t)

-- names and death are facts with one proof, so that a reached picture is enough
named_prop : (p : Picture) (L : ℕ → Bool) (t : ℕ) → IsProp (Named p (left_out L) t)
named_prop p L t x y = λ i. (
  le_prop x.0 y.0 i,
  ¬_prop x.1 y.1 i,
  T_prop (leb most_tasks t || runs L t) x.2 y.2 i,
  T_prop (leb most_tasks t || ends L t) x.3 y.3 i,
)

pub dead_prop : (p : Picture) (t : ℕ) → IsProp (Dead p t)
dead_prop p t x y = λ i. record {
  begun = le_prop x.begun y.begun i;
  not_running = ¬_prop x.not_running y.not_running i;
  not_terminated = ¬_prop x.not_terminated y.not_terminated i;
  for_ever = λ vs q s. ¬_prop (x.for_ever vs q s) (y.for_ever vs q s) i;
}

pub names_exact : (p : Picture) (L : ℕ → Bool) → ∥ (Reached p) ∥₁ → LargestShut 128 (meaning_of p) L → (t : ℕ) → Named p (left_out L) t ↔ Dead p t
names_exact p L reached left t = ∥∥₁_elim reached (×_prop (→_prop (dead_prop p t)) (→_prop (named_prop p L t))) (λ r.
    let sound = reached_sound p r in
    let largest = left_largest p L sound.few left in
    (names_dead sound largest t, dead_named sound (left_out L) largest t))

pub named_dead : (p : Picture) (L : ℕ → Bool) (set : Members) → ∥ (Reached p) ∥₁ → LargestShut 128 (meaning_of p) L → HoldsNamed set p (left_out L) → HoldsDead set p
named_dead p L set reached left names t =
    let exact = names_exact p L reached left t in
    (λ e. exact.0 ((names t).0 e), λ d. (names t).1 (exact.1 d))
