-- Statuses told apart, and compared.
use Rattle.std.proofs.Common.{◌≡◌, ℕ, zero, suc, not, T, eqb, T_not, sym, refl, ap, ◌∙◌}
use native.Mathlib.Decide.{ℕ_discrete}
use Rattle.std.proofs.Math.Facts.{yes_eqb}
use Rattle.rules.specs.declared.vocabulary.Status.{Status}
use Rattle.rules.specs.declared.vocabulary.Status.TheVariants.{Accepting, Completed, Engaged, Leaving, NotBegun, Queued, Running, Terminated}

-- kinds of status, to tell two apart
abbrev pub kind : Status → ℕ
kind NotBegun = 0
kind Running = 1
kind (Queued _ _) = 2
kind (Engaged _) = 3
kind (Accepting _) = 4
kind Leaving = 5
kind Completed = 6
kind Terminated = 7

pub apart : {s r : Status} → s ≡ r → T (not (eqb (kind s) (kind r))) → ⊥
apart {s} {r} e t = T_not (eqb (kind s) (kind r)) t (yes_eqb (ap kind e))

unfoldable pub dec_kind : (s : Status) (k : ℕ) → Dec (kind s ≡ k)
unfolding ℕ_discrete
dec_kind s k = ℕ_discrete (kind s) k

-- the numbers that a status holds
abbrev pub first_of : Status → ℕ
first_of NotBegun = 0
first_of Running = 0
first_of (Queued r _) = r
first_of (Engaged r) = r
first_of (Accepting m) = m
first_of Leaving = 0
first_of Completed = 0
first_of Terminated = 0

abbrev pub second_of : Status → ℕ
second_of NotBegun = 0
second_of Running = 0
second_of (Queued _ e) = e
second_of (Engaged _) = 0
second_of (Accepting _) = 0
second_of Leaving = 0
second_of Completed = 0
second_of Terminated = 0

abbrev pub status_of : ℕ → ℕ → ℕ → Status
status_of zero a b = NotBegun
status_of (suc zero) a b = Running
status_of (suc (suc zero)) a b = Queued a b
status_of (suc (suc (suc zero))) a b = Engaged a
status_of (suc (suc (suc (suc zero)))) a b = Accepting a
status_of (suc (suc (suc (suc (suc zero))))) a b = Leaving
status_of (suc (suc (suc (suc (suc (suc zero)))))) a b = Completed
status_of (suc (suc (suc (suc (suc (suc (suc _))))))) a b = Terminated

pub status_back : (s : Status) → status_of (kind s) (first_of s) (second_of s) ≡ s
status_back NotBegun = refl
status_back Running = refl
status_back (Queued _ _) = refl
status_back (Engaged _) = refl
status_back (Accepting _) = refl
status_back Leaving = refl
status_back Completed = refl
status_back Terminated = refl

-- a status of kind k, spelt out
pub of_kind : (s : Status) (k : ℕ) → kind s ≡ k → s ≡ status_of k (first_of s) (second_of s)
of_kind s k e = sym (status_back s) ∙ ap (λ (j : ℕ). status_of j (first_of s) (second_of s)) e

pub running : (s : Status) → kind s ≡ 1 → s ≡ Running
running s e = of_kind s 1 e

pub terminated : (s : Status) → kind s ≡ 7 → s ≡ Terminated
terminated s e = of_kind s 7 e

-- a status compared with one that its kind determines
unfoldable pub dec_plain : (s r : Status) → (kind s ≡ kind r → s ≡ r) → Dec (s ≡ r)
unfolding dec_kind
dec_plain s r f = elim (dec_kind s (kind r)) [ yes e ↦ yes (f e) | no n ↦ no (λ e. n (ap kind e)) ]

unfoldable pub dec_running : (s : Status) → Dec (s ≡ Running)
unfolding dec_plain
dec_running s = dec_plain s Running (running s)

unfoldable pub dec_terminated : (s : Status) → Dec (s ≡ Terminated)
unfolding dec_plain
dec_terminated s = dec_plain s Terminated (terminated s)
