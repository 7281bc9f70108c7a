-- What the code asks of a set of points is what the book means.
use Rattle.std.proofs.Common.{◌≡◌, ℕ, ◌/◌, ◌%◌, ◌<◌, ◌≤◌, Bool, true, false, not, ◌&&◌, ◌||◌, ltb, ◌≢◌, Decides, sym, refl, ap, ◌∙◌, inl, inr}
use Rattle.std.proofs.lemmas.Bool.{and_from, and_left, and_parts, both_ways, cases_eq, le-ltb, lt-ltb, ltb-true}
use Rattle.std.proofs.lemmas.Bool.Decides.{Decides-below_and, Decides-like, same_from_decides}
use Rattle.books.specs.declared.members.Members.{Members}
use Rattle.books.specs.Points.{member}
use Rattle.rules.specs.Book.{phase}
use Rattle.rules.specs.Limits.{most_tasks}
use Rattle.rules.specs.Picture.{Picture, status}
use Rattle.task_book.specs.Masks.{Marks}
use Rattle.task_book.specs.Meaning.{all_below, can_end, can_run, ends, ends_in, meaning_of, other_runs, runs, runs_with}
use Rattle.task_book.specs.Decides.{decides_other, decides_T, meaning_end, meaning_run}

decides_implied : (x y : Bool) → Decides (not x || y) (x ≡ true → y ≡ true)
decides_implied true y = (λ e _. e, λ f. f refl)
decides_implied false y = (λ _ e. absurd (both_ways false refl e), λ _. refl)

-- all tasks that are marked can end
module _ (set : Members) (n : ℕ) (test S : ℕ → Bool) (marks : Marks set n test) where
  -- whether a task, if it passes, can end
  abbrev passes_end : ℕ → Bool
  passes_end d = not (test d) || ends S d

  decides_marked : Decides (all_below passes_end n) ((t : ℕ) → member set t ≡ true → ends S t ≡ true)
  unfolding all_below
  decides_marked = Decides-like (all_below passes_end n)
      (λ f t e. let h = and_parts (ltb t n) (test t) (sym (marks t) ∙ e) in f t (ltb-true t n h.0) h.1)
      (λ f t b e. f t (marks t ∙ and_from (ltb t n) (test t) (lt-ltb t n b) e))
      (Decides-below_and passes_end (λ d. test d ≡ true → ends S d ≡ true) (all_below passes_end) (λ d. decides_implied (test d) (ends S d)) refl (λ _. refl) n)

  pub all_marked : (r : Bool) → Decides r ((t : ℕ) → member set t ≡ true → ends S t ≡ true) → r ≡ all_below passes_end n
  all_marked r d = same_from_decides r (all_below passes_end n) d decides_marked

-- some task other than t can run
pub other_marked : (S : ℕ → Bool) (t : ℕ) (r : Bool) → Decides r ((u : ℕ) × (u < most_tasks) × (u ≢ t) × (runs S u ≡ true)) → r ≡ other_runs S t
other_marked S t r d = same_from_decides r (other_runs S t) d (Decides-like (other_runs S t)
    (λ (u, b, n, h). (u, b, n, (decides_T (runs S u)).1 h))
    (λ (u, b, n, h). (u, b, n, (decides_T (runs S u)).0 h))
    (decides_other S t))

-- the answer at a point, by the task that it is of
module _ (p : Picture) (q : ℕ) (S : ℕ → Bool) where
  pub follows_run : q % 2 ≡ 0 → q / 2 < p.begun → runs_with p S (q / 2) (status p (q / 2)) ≡ meaning_of p q S
  unfolding can_run
  follows_run e b = sym (meaning_run p q S e ∙ ap (λ x. x && runs_with p S (q / 2) (status p (q / 2))) (lt-ltb (q / 2) p.begun b))

  pub follows_end : q % 2 ≢ 0 → q / 2 < p.begun → ends_in p S (q / 2) (phase (status p (q / 2))) ≡ meaning_of p q S
  unfolding can_end
  follows_end e b = sym (meaning_end p q S e ∙ ap (λ x. x && ends_in p S (q / 2) (phase (status p (q / 2)))) (lt-ltb (q / 2) p.begun b))

  pub follows_unborn : p.begun ≤ q / 2 → false ≡ meaning_of p q S
  unfolding can_run can_end
  follows_unborn b = elim (cases_eq (q % 2) 0) [
    | inl e ↦ sym (meaning_run p q S e ∙ and_left (ltb (q / 2) p.begun) _ (le-ltb (q / 2) p.begun b))
    | inr e ↦ sym (meaning_end p q S e ∙ and_left (ltb (q / 2) p.begun) _ (le-ltb (q / 2) p.begun b))
  ]
