-- What a caller in C is answered.
use Rattle.std.specs.Prelude.{◌≡◌, ℕ, Ok, Err, Result}
use Rattle.refusals.specs.declared.Refusal.{Refusal}
use Rattle.refusals.specs.Table.{number_of}

-- 0 and the length; or the number of the refusal, and the length as it was
abbrev pub Answers : Result ℕ Refusal → ℕ → ℕ → ℕ → Type 0
Answers (Ok n) r before after = (r ≡ 0) × (after ≡ n)
Answers (Err e) r before after = (r ≡ number_of e) × (after ≡ before)
