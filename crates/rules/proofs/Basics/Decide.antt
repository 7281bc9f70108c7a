-- What can be decided, and bounded search.
use Rattle.std.proofs.Common.{◌≡◌, ℕ, zero, suc, ◌<◌, Bool, true, false, not, T, ◌⊎◌, List, [], ◌∷◌, refl, subst, inl, inr, arith}
use Rattle.std.proofs.lemmas.Bool.{false≢true}
use native.Mathlib.Decide.{ℕ_discrete}

-- some number below n has P, and each below it lacks it; or none has P
abbrev pub Least : ℕ → (ℕ → Type 0) → Type 0
Least n P = ((x : ℕ) × (x < n) × P x × ((y : ℕ) → y < x → P y → ⊥)) ⊎ ((x : ℕ) → x < n → P x → ⊥)

unfoldable pub least : (P : ℕ → Type 0) → ((x : ℕ) → Dec (P x)) → (n : ℕ) → Least n P
unfolding ℕ_discrete
least P d zero = inr (λ x h _. omega arith)
least P d (suc n) = go (least P d n) (d n)
  where
    go : Least n P → Dec (P n) → Least (suc n) P
    go (inl (x, h, y, low)) _ = inl (x, omega arith, y, low)
    go (inr f) (yes y) = inl (n, omega arith, y, f)
    go (inr f) (no g) = inr (λ x h y. last x h y (ℕ_discrete x n))
      where
        last : (x : ℕ) → x < suc n → P x → Dec (x ≡ n) → ⊥
        last x h y (yes e) = g (subst P e y)
        last x h y (no e) = f x (omega arith) y

-- some number below n has P, or none has
abbrev pub Found : ℕ → (ℕ → Type 0) → Type 0
Found n P = ((x : ℕ) × (x < n) × P x) ⊎ ((x : ℕ) → x < n → P x → ⊥)

unfoldable pub find : (P : ℕ → Type 0) → ((x : ℕ) → Dec (P x)) → (n : ℕ) → Found n P
unfolding least
find P d n = elim (least P d n) [ inl (x, h, y, _) ↦ inl (x, h, y) | inr f ↦ inr f ]

-- decisions put together
unfoldable pub dec_not : {A : Type 0} → Dec A → Dec (A → ⊥)
dec_not (yes a) = no (λ n. n a)
dec_not (no n) = yes n

unfoldable pub dec_both : {A B : Type 0} → Dec A → Dec B → Dec (A × B)
dec_both (yes a) (yes b) = yes (a, b)
dec_both (no a) _ = no (λ h. a h.0)
dec_both (yes _) (no b) = no (λ h. b h.1)

unfoldable pub dec_empty : {A : Type 0} (xs : List A) → Dec (xs ≡ [])
dec_empty [] = yes refl
dec_empty (x ∷ xs) = no (λ e. cc)

unfoldable pub dec_true : {A : Type 0} (b : Bool) → (b ≡ true → A) → (A → b ≡ true) → Dec A
dec_true true f g = yes (f refl)
dec_true false f g = no (λ a. false≢true (g a))

unfoldable pub dec_T : (b : Bool) → Dec (T b)
dec_T true = yes tt
dec_T false = no (λ h. h)

-- what can be decided and is not refuted holds
pub sure : {A : Type 0} → Dec A → ((A → ⊥) → ⊥) → A
sure (yes a) n = a
sure (no a) n = absurd (n a)

pub not_not : (b : Bool) → T (not (not b)) → T b
not_not true t = t
not_not false t = t
