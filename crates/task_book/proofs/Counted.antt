-- How many tasks are in two sets.
use Rattle.std.proofs.Common.{◌≡◌, ℕ, ◌+◌, ◌-◌, ◌<◌, ◌≤◌, Bool, true, ◌&&◌, ltb, sym, ap, ◌∙◌, arith}
use Rattle.std.proofs.lemmas.Bool.{and_parts, ltb-true, lt-ltb}
use Rattle.books.specs.declared.members.Members.{Members}
use Rattle.books.specs.Points.{member}
use Rattle.books.specs.Shut.{size}
use Rattle.books.proofs.Sets.{size_same, size_within}
use Rattle.task_book.specs.Masks.{Marks}

pub marked_both : (n : ℕ) (f g : ℕ → Bool) (a b both : Members) → n ≤ 64 → Marks a n f → Marks b n g
    → ((t : ℕ) → member both t ≡ (member a t && member b t)) → size 64 (member both) ≡ size n (λ t. f t && g t)
marked_both n f g a b both few marks_a marks_b is =
    let each : (t : ℕ) → member both t ≡ ((ltb t n && f t) && (ltb t n && g t)) = λ t. is t ∙ (λ i. marks_a t i && marks_b t i) in
    let below : (t : ℕ) → member both t ≡ true → t < n = λ t e.
    ltb-true t n (and_parts (ltb t n) (f t) (and_parts (ltb t n && f t) (ltb t n && g t) (sym (each t) ∙ e)).0).0 in
    let whole : 64 - n + n ≡ 64 = omega arith in
    ap (λ k. size k (member both)) (sym whole) ∙ size_within n (64 - n) (member both) below
    ∙ size_same n (member both) (λ t. f t && g t) (λ t lt. each t ∙ ap (λ x. (x && f t) && (x && g t)) (lt-ltb t n lt))
