-- What judging the task book leaves out is the rules' largest shut set.
use Rattle.std.specs.Prelude.{◌≡◌, ℕ, ◌+◌, ◌*◌, ◌/◌, ◌%◌, ◌<◌, ◌≤◌, Bool, true, false, cond, not, ◌&&◌, ◌||◌, T, ◌==◌, ◌≢◌, nat_le, nat_lt, refl}
use Rattle.std.proofs.Common.{inl, inr, sym, ap, subst, ◌∙◌, arith, T_not}
use Rattle.std.proofs.Math.Dec.{not_T}
use Rattle.std.proofs.lemmas.Bool.{and_from, and_parts, both_ways, cases_Bool, cases_eq, cases_lt, eq-eqb, le-leb, lt-leb, lt-ltb, ltb-true, ne_eqb, not-true, or_cases, or_right}
use Rattle.books.specs.Shut.{Grows, Inside, LargestShut, outside, Shut}
use Rattle.rules.specs.Book.{LargestShutPoints, Points}
use Rattle.rules.specs.Book as rules
use Rattle.rules.specs.Limits.{most_tasks}
use Rattle.rules.specs.Picture.{Picture}
use Rattle.rules.proofs.Judging.Law.{ends_law, runs_law}
use Rattle.task_book.specs.Meaning.{meaning_of, points}
use Rattle.task_book.specs.Names.{left_out}
use Rattle.task_book.specs.Decides.{decides_T, end_point, run_point}

true_T : (b : Bool) → b ≡ true → T b
true_T b = (decides_T b).0

T_true : (b : Bool) → T b → b ≡ true
T_true b = (decides_T b).1

-- every point is one of the two of a task
pub task_point : (P : ℕ → Type 0) → ((t : ℕ) → P (2 * t)) → ((t : ℕ) → P (2 * t + 1)) → (q : ℕ) → P q
task_point P run end q = elim (cases_eq (q % 2) 0) [
  | inl e ↦ subst P (omega arith) (run (q / 2))
  | inr e ↦ subst P (omega arith) (end (q / 2))
]

-- the same larger set, in the words of the rules
inside_points : (S U : ℕ → Bool) → Inside S U → rules.Inside (points S) (points U)
inside_points S U i = record { runs = λ t h. true_T _ (i (2 * t) (T_true _ h)); ends = λ t h. true_T _ (i (2 * t + 1) (T_true _ h)) }

-- what follows from a set follows from every larger one
pub grows : (p : Picture) → Grows (meaning_of p)
grows p q S U i = task_point (λ q. meaning_of p q S ≡ true → meaning_of p q U ≡ true)
    (λ t h. (run_point p t U).1 (runs_law p (points S) (points U) (inside_points S U i) t ((run_point p t S).0 h)))
    (λ t h. (end_point p t U).1 (ends_law p (points S) (points U) (inside_points S U i) t ((end_point p t S).0 h)))
    q

-- nothing follows past the points of 64 tasks
pub beyond : (p : Picture) (q : ℕ) (S : ℕ → Bool) → p.begun ≤ most_tasks → 128 ≤ q → meaning_of p q S ≡ false
beyond p q S few = task_point (λ q. 128 ≤ q → meaning_of p q S ≡ false)
    (λ t h. elim (cases_Bool (meaning_of p (2 * t) S)) [ inl e ↦ absurd (omega (arith, ((run_point p t S).0 e).0)) | inr e ↦ e ])
    (λ t h. elim (cases_Bool (meaning_of p (2 * t + 1) S)) [ inl e ↦ absurd (omega (arith, ((end_point p t S).0 e).0)) | inr e ↦ e ])
    q

-- a point of the first 64 tasks is left out exactly when it is in the set
pub left_in : (L : ℕ → Bool) (t q : ℕ) → t < most_tasks → T (nat_le most_tasks t || L q) → L q ≡ true
left_in L t q b h = elim (or_cases (nat_le most_tasks t) (L q) (T_true _ h)) [
  | inl e ↦ absurd (both_ways (nat_le most_tasks t) (lt-leb most_tasks t b) e)
  | inr e ↦ e
]

pub in_left : (L : ℕ → Bool) (t q : ℕ) → L q ≡ true → T (nat_le most_tasks t || L q)
in_left L t q e = true_T _ (or_right (nat_le most_tasks t) (L q) e)

-- what is outside for the rules is outside for the book
not_left : (L : ℕ → Bool) (t q : ℕ) → (t < most_tasks → q < 128) → T (not (nat_le most_tasks t || L q)) → T (outside 128 L q)
not_left L t q b h = elim (cases_lt t most_tasks) [
  | inl l ↦ true_T _ (and_from (nat_lt q 128) (not (L q)) (lt-ltb q 128 (b l)) (T_true _ (not_T (L q) (λ k. T_not _ h (in_left L t q (T_true _ k))))))
  | inr l ↦ absurd (T_not _ h (true_T _ (ap (λ b. b || L q) (le-leb most_tasks t l))))
]

outside_left : (L : ℕ → Bool) → rules.Inside (rules.outside (left_out L)) (points (outside 128 L))
outside_left L = record { runs = λ t. not_left L t (2 * t) (λ l. omega arith); ends = λ t. not_left L t (2 * t + 1) (λ l. omega arith) }

-- a set of the rules' points, as a test of points of the book
abbrev test : Points → ℕ → Bool
test u q = nat_lt q 128 && cond (q % 2 == 0) (u.runs (q / 2)) (u.ends (q / 2))

test_run : (u : Points) (t : ℕ) → test u (2 * t) ≡ (nat_lt (2 * t) 128 && u.runs t)
test_run u t = ap (λ b. nat_lt (2 * t) 128 && cond b (u.runs (2 * t / 2)) (u.ends (2 * t / 2))) (eq-eqb (2 * t % 2) 0 (omega arith))
    ∙ ap (λ k. nat_lt (2 * t) 128 && u.runs k) (omega arith)

test_end : (u : Points) (t : ℕ) → test u (2 * t + 1) ≡ (nat_lt (2 * t + 1) 128 && u.ends t)
test_end u t = ap (λ b. nat_lt (2 * t + 1) 128 && cond b (u.runs ((2 * t + 1) / 2)) (u.ends ((2 * t + 1) / 2))) (ne_eqb ((2 * t + 1) % 2) 0 (omega arith))
    ∙ ap (λ k. nat_lt (2 * t + 1) 128 && u.ends k) (omega arith)

not_test : (S : ℕ → Bool) (q : ℕ) (b : Bool) → S q ≡ (nat_lt q 128 && b) → T (outside 128 S q) → T (not b)
not_test S q b is h =
    let k = and_parts (nat_lt q 128) (not (S q)) (T_true _ h) in
    not_T b (λ i. both_ways (S q) (not-true (S q) k.1) (is ∙ and_from (nat_lt q 128) b k.0 (T_true b i)))

outside_test : (u : Points) → rules.Inside (points (outside 128 (test u))) (rules.outside u)
outside_test u = record {
  runs = λ t. not_test (test u) (2 * t) (u.runs t) (test_run u t);
  ends = λ t. not_test (test u) (2 * t + 1) (u.ends t) (test_end u t);
}

refuted : (b : Bool) → (b ≢ true) → b ≡ false
refuted true n = absurd (n refl)
refuted false n = refl

-- a shut set of the rules is one of the book
shut_test : (p : Picture) (u : Points) → rules.Shut p u → Shut 128 (meaning_of p) (test u)
shut_test p u k = record {
  points = λ q d. ltb-true q 128 (and_parts (nat_lt q 128) _ d).0;
  stuck = task_point (λ q. test u q ≡ true → meaning_of p q (outside 128 (test u)) ≡ false)
      (λ t d. refuted _ (λ e. k.runs t (true_T _ (and_parts _ _ (sym (test_run u t) ∙ d)).1)
      (runs_law p _ (rules.outside u) (outside_test u) t ((run_point p t (outside 128 (test u))).0 e))))
      (λ t d. refuted _ (λ e. k.ends t (true_T _ (and_parts _ _ (sym (test_end u t) ∙ d)).1)
      (ends_law p _ (rules.outside u) (outside_test u) t ((end_point p t (outside 128 (test u))).0 e))));
}

test_left : (L : ℕ → Bool) (S : ℕ → Bool) (t q : ℕ) (b : Bool) → (t < most_tasks → q < 128) → Inside S L → S q ≡ (nat_lt q 128 && b) → T b → T (nat_le most_tasks t || L q)
test_left L S t q b below i is h = elim (cases_lt t most_tasks) [
  | inl l ↦ in_left L t q (i q (is ∙ and_from (nat_lt q 128) b (lt-ltb q 128 (below l)) (T_true b h)))
  | inr l ↦ true_T _ (ap (λ b. b || L q) (le-leb most_tasks t l))
]

module _ (p : Picture) (L : ℕ → Bool) (few : p.begun ≤ most_tasks) (left : LargestShut 128 (meaning_of p) L) where
  left_shut : rules.Shut p (left_out L)
  left_shut = record {
    runs = λ t h r. both_ways (meaning_of p (2 * t) (outside 128 L))
        (left.shut.stuck (2 * t) (left_in L t (2 * t) (omega (arith, r.0)) h))
        ((run_point p t (outside 128 L)).1 (runs_law p (rules.outside (left_out L)) _ (outside_left L) t r));
    ends = λ t h r. both_ways (meaning_of p (2 * t + 1) (outside 128 L))
        (left.shut.stuck (2 * t + 1) (left_in L t (2 * t + 1) (omega (arith, r.0)) h))
        ((end_point p t (outside 128 L)).1 (ends_law p (rules.outside (left_out L)) _ (outside_left L) t r));
  }

  pub left_largest : LargestShutPoints p (left_out L)
  left_largest = record {
    shut = left_shut;
    largest = λ u k. let i = left.largest (test u) (shut_test p u k) in record {
      runs = λ t. test_left L (test u) t (2 * t) (u.runs t) (λ l. omega arith) i (test_run u t);
      ends = λ t. test_left L (test u) t (2 * t + 1) (u.ends t) (λ l. omega arith) i (test_end u t);
    };
  }
