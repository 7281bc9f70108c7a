-- The task book decides exactly what the rules' own book says, for every picture and every set of points.
use Rattle.std.specs.Prelude.{◌≡◌, ℕ, ◌+◌, ◌*◌, ◌/◌, ◌%◌, ◌<◌, Bool, true, false, cond, not, ◌&&◌, ◌||◌, T, ◌≢◌, length, Some, None, Decides, Option, ◌==◌, nat_lt}
use Rattle.std.proofs.Math.Path.{refl}
use Rattle.std.proofs.Common.{sym, ap, subst, ◌∙◌, arith}
use Rattle.std.proofs.lemmas.Bool.{and_from, and_parts, both_ways, eq-eqb, eqb-true, ne_eqb}
use Rattle.std.proofs.lemmas.Bool.Decides.{Decides-and, Decides-at, Decides-below_and, Decides-below_or, Decides-eqb, Decides-like, Decides-ltb, Decides-not}
use Rattle.rules.specs.declared.vocabulary.Master.{Master}
use Rattle.rules.specs.declared.vocabulary.Status.{Status}
use Rattle.rules.specs.declared.vocabulary.Status.TheVariants.{NotBegun, Running, Queued, Engaged, Accepting, Leaving, Completed, Terminated}
use Rattle.rules.specs.Book.{AnyLevel, CanEnd, CanEndIn, CanRun, CanRunWith, DependentsEnd, Innermost, InsideRendezvous, Phase, phase}
use Rattle.rules.specs.Book.Phase.{unbegun, under_way, has_completed, has_terminated}
use Rattle.rules.specs.Limits.{most_tasks}
use Rattle.rules.specs.Picture.{frames, Picture, rendezvous_level, status, under}
use Rattle.rules.proofs.Basics.Masters.{same_master}
use Rattle.task_book.specs.Meaning.{all_below, any_level, can_end, can_run, depends, dependents_end, ends, ends_in, innermost, inside_rendezvous, meaning_of, other_runs, points, runs, runs_with, some_below}

pub decides_T : (b : Bool) → Decides b (T b)
decides_T true = (λ _. tt, λ _. refl)
decides_T false = (λ e. both_ways false refl e, λ h. absurd h)

decides_always : Decides true (Unit {0})
decides_always = (λ _. tt, λ _. refl)

decides_never : Decides false ⊥
decides_never = (λ e. both_ways false refl e, λ h. absurd h)

module _ (m : ℕ) (level : ℕ → Bool) (levels : ℕ → Type 0) (each : (l : ℕ) → Decides (level l) (levels l)) where
  pub decides_depends : (o : Option Master) → Decides (depends m level o) ((l : ℕ) × levels l × (o ≡ under m l))
  decides_depends None = (λ e. absurd (both_ways false refl e), λ h. absurd (let e = h.2 in cc))
  decides_depends (Some k) = (
    λ e. let h = and_parts (k.creator == m) (level k.level) e in
        (k.level, (each k.level).0 h.1, λ i. under (eqb-true k.creator m h.0 i) k.level),
    λ h. let s = same_master (Some k) k.creator k.level m h.0 refl h.2 in
        and_from (k.creator == m) (level k.level) (eq-eqb k.creator m s.0) ((each k.level).1 (subst levels (sym s.1) h.1)),
  )

  -- d, if it is such a dependent, can end
  abbrev Ends : Picture → (ℕ → Bool) → ℕ → Type 0
  Ends p S d = (l : ℕ) → levels l → (p.task d).master ≡ under m l → T (ends S d)

  decides_ends : (p : Picture) (S : ℕ → Bool) (d : ℕ) → Decides (not (depends m level (p.task d).master) || ends S d) (Ends p S d)
  decides_ends p S d = go (depends m level (p.task d).master) (ends S d) (decides_depends (p.task d).master)
    where
      go : (x y : Bool) → Decides x ((l : ℕ) × levels l × ((p.task d).master ≡ under m l)) → Decides (not x || y) ((l : ℕ) → levels l → (p.task d).master ≡ under m l → T y)
      go true true h = (λ _ _ _ _. tt, λ _. refl)
      go true false h = (λ e. absurd (both_ways false refl e), λ f. absurd (let k = h.0 refl in f k.0 k.1 k.2))
      go false y h = (λ _ l a e. absurd (both_ways false refl (h.1 (l, a, e))), λ _. refl)

  pub decides_dependents : (p : Picture) (S : ℕ → Bool) → Decides (dependents_end p S m level) (DependentsEnd p (points S) m levels)
  unfolding all_below
  decides_dependents p S = Decides-like (dependents_end p S m level)
      (λ h d l a k. h d k.0 l a k.1)
      (λ h d b l a e. h d l a (b, e))
      (Decides-below_and (λ d. not (depends m level (p.task d).master) || ends S d) (Ends p S)
      (all_below (λ d. not (depends m level (p.task d).master) || ends S d)) (decides_ends p S) refl (λ _. refl) p.begun)

pub decides_other : (S : ℕ → Bool) (t : ℕ) → Decides (other_runs S t) ((u : ℕ) × (u < most_tasks) × (u ≢ t) × T (runs S u))
unfolding some_below
decides_other S t = Decides-like (other_runs S t)
    (λ (u, b, (n, h)). (u, b, n, h))
    (λ (u, b, n, h). (u, b, (n, h)))
    (Decides-below_or (λ u. not (u == t) && runs S u) (λ u. (u ≢ t) × T (runs S u)) (some_below (λ u. not (u == t) && runs S u))
    (λ u. Decides-and (not (u == t)) (runs S u) (Decides-not (u == t) (Decides-eqb u t)) (decides_T (runs S u))) refl (λ _. refl) most_tasks)

pub decides_inside : (p : Picture) (r t l : ℕ) → Decides (inside_rendezvous p r t l) (InsideRendezvous p r t l)
decides_inside p r t l = Decides-ltb (rendezvous_level t (frames p r)) l

decides_all : (p : Picture) (S : ℕ → Bool) (t : ℕ) → Decides (dependents_end p S t any_level) (DependentsEnd p (points S) t AnyLevel)
decides_all p S t = decides_dependents t any_level AnyLevel (λ _. decides_always) p S

decides_runs : (p : Picture) (S : ℕ → Bool) (t : ℕ) (k : Status) → Decides (runs_with p S t k) (CanRunWith p (points S) t k)
decides_runs p S t NotBegun = decides_never
decides_runs p S t Running = decides_always
decides_runs p S t (Queued r _) = decides_T (runs S r)
decides_runs p S t (Engaged r) = Decides-and (runs S r) (dependents_end p S r (inside_rendezvous p r t)) (decides_T (runs S r))
    (decides_dependents r (inside_rendezvous p r t) (InsideRendezvous p r t) (decides_inside p r t) p S)
decides_runs p S t (Accepting _) = decides_other S t
decides_runs p S t Leaving = decides_dependents t (innermost p t) (Innermost p t) (λ l. Decides-eqb l (length (frames p t))) p S
decides_runs p S t Completed = decides_never
decides_runs p S t Terminated = decides_never

decides_ends_in : (p : Picture) (S : ℕ → Bool) (t : ℕ) (k : Phase) → Decides (ends_in p S t k) (CanEndIn p (points S) t k)
decides_ends_in p S t unbegun = decides_never
decides_ends_in p S t under_way = Decides-and (runs S t) (dependents_end p S t any_level) (decides_T (runs S t)) (decides_all p S t)
decides_ends_in p S t has_completed = decides_all p S t
decides_ends_in p S t has_terminated = decides_always

pub decides_can_run : (p : Picture) (S : ℕ → Bool) (t : ℕ) → Decides (can_run p S t) (CanRun p (points S) t)
unfolding can_run
decides_can_run p S t = Decides-and (nat_lt t p.begun) (runs_with p S t (status p t)) (Decides-ltb t p.begun) (decides_runs p S t (status p t))

pub decides_can_end : (p : Picture) (S : ℕ → Bool) (t : ℕ) → Decides (can_end p S t) (CanEnd p (points S) t)
unfolding can_end
decides_can_end p S t = Decides-and (nat_lt t p.begun) (ends_in p S t (phase (status p t))) (Decides-ltb t p.begun) (decides_ends_in p S t (phase (status p t)))

-- the two points of a task
pub meaning_run : (p : Picture) (q : ℕ) (S : ℕ → Bool) → q % 2 ≡ 0 → meaning_of p q S ≡ can_run p S (q / 2)
unfolding meaning_of
meaning_run p q S e = ap (λ b. cond b (can_run p S (q / 2)) (can_end p S (q / 2))) (eq-eqb (q % 2) 0 e)

pub meaning_end : (p : Picture) (q : ℕ) (S : ℕ → Bool) → q % 2 ≢ 0 → meaning_of p q S ≡ can_end p S (q / 2)
unfolding meaning_of
meaning_end p q S e = ap (λ b. cond b (can_run p S (q / 2)) (can_end p S (q / 2))) (ne_eqb (q % 2) 0 e)

pub run_point : (p : Picture) (t : ℕ) (S : ℕ → Bool) → Decides (meaning_of p (2 * t) S) (CanRun p (points S) t)
run_point p t S = Decides-at _ _ (meaning_run p (2 * t) S (omega arith) ∙ ap (can_run p S) (omega arith)) (decides_can_run p S t)

pub end_point : (p : Picture) (t : ℕ) (S : ℕ → Bool) → Decides (meaning_of p (2 * t + 1) S) (CanEnd p (points S) t)
end_point p t S = Decides-at _ _ (meaning_end p (2 * t + 1) S (omega arith) ∙ ap (can_end p S) (omega arith)) (decides_can_end p S t)
