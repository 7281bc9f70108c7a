-- A set of tasks, by a test that answered of each of them.
use Rattle.std.proofs.Common.{◌≡◌, ℕ, ◌<◌, Bool, ◌&&◌, ltb, sym, ap, ◌∙◌, inl, inr}
use Rattle.std.proofs.lemmas.Bool.{and_left, cases_lt, le-ltb, lt-ltb}
use Rattle.books.specs.declared.members.Members.{Members}
use Rattle.task_book.specs.Masks.{Marks, Tested}

pub marks_tested : {answers : ℕ → Bool → Type 0} {n : ℕ} {set : Members} (test : ℕ → Bool)
    → Tested answers n set → ((t : ℕ) (b : Bool) → t < n → answers t b → b ≡ test t) → Marks set n test
marks_tested {n = n} test tested same t = elim (cases_lt t n) [
  | inl l ↦ same t _ l (tested.below t l) ∙ sym (ap (λ x. x && test t) (lt-ltb t n l))
  | inr g ↦ tested.beyond t g ∙ sym (and_left (ltb t n) (test t) (le-ltb t n g))
]
