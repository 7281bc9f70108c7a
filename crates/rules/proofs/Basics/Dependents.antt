-- Whether all dependents of a task, at given levels, have a property can be decided, if the property can; so whether all are Terminated.
use Rattle.std.proofs.Common.{◌≡◌, ℕ, Some, None, Option, sym, refl, subst, inl, inr}
use native.Mathlib.Decide.{ℕ_discrete}
use Rattle.rules.specs.Picture.{AllOver, Depends, Over, Picture, status, under}
use Rattle.rules.specs.declared.vocabulary.Master.{Master}
use Rattle.rules.specs.declared.vocabulary.Status.TheVariants.{Terminated}
use Rattle.rules.proofs.Basics.Decide.{find, sure}
use Rattle.rules.proofs.Basics.Masters.{same_master}
use Rattle.rules.proofs.Basics.Statuses.{dec_terminated}

-- d, which has that master, is a dependent of m at one of the levels, and lacks Q
abbrev Lacks : ℕ → (ℕ → Type 0) → (ℕ → Type 0) → ℕ → Option Master → Type 0
Lacks m levels Q d o = (l : ℕ) × levels l × (o ≡ under m l) × (Q d → ⊥)

module _ (m : ℕ) (levels : ℕ → Type 0) (level? : (l : ℕ) → Dec (levels l)) (Q : ℕ → Type 0) (Q? : (d : ℕ) → Dec (Q d)) where
  unfoldable pub dec_lacks : (d : ℕ) (o : Option Master) → Dec (Lacks m levels Q d o)
  unfolding ℕ_discrete
  dec_lacks d None = no (λ h. let e = h.2 in cc)
  dec_lacks d (Some k) = go (ℕ_discrete k.creator m) (level? k.level) (Q? d)
    where
      go : Dec (k.creator ≡ m) → Dec (levels k.level) → Dec (Q d) → Dec (Lacks m levels Q d (Some k))
      go (yes e) (yes l) (no n) = yes (k.level, l, (λ i. under (e i) k.level), n)
      go (yes e) (yes l) (yes q) = no (λ h. h.3 q)
      go (yes e) (no l) _ = no (λ h. l (subst levels (sym (same_master (Some k) k.creator k.level m h.0 refl h.2).1) h.1))
      go (no e) _ _ = no (λ h. e (same_master (Some k) k.creator k.level m h.0 refl h.2).0)

  unfoldable pub dec_dependents : (p : Picture) → Dec ((d l : ℕ) → levels l → Depends p d m l → Q d)
  unfolding find dec_lacks
  dec_dependents p = elim (find (λ d. Lacks m levels Q d (p.task d).master) (λ d. dec_lacks d (p.task d).master) p.begun) [
    | inl (d, b, (l, a, k, n)) ↦ no (λ h. n (h d l a (b, k)))
    | inr f ↦ yes (λ d l a k. sure (Q? d) (λ n. f d k.0 (l, a, k.1, n)))
  ]

unfoldable pub dec_over : (p : Picture) (m l : ℕ) → Dec (Over p m l)
unfolding dec_dependents dec_terminated ℕ_discrete
dec_over p m l = elim (dec_dependents m (λ k. k ≡ l) (λ k. ℕ_discrete k l) (λ d. status p d ≡ Terminated) (λ d. dec_terminated (status p d)) p) [
  | yes h ↦ yes (λ d. h d l refl)
  | no n ↦ no (λ over. n (λ d k e h. over d (subst (Depends p d m) e h)))
]

unfoldable pub dec_all_over : (p : Picture) (m : ℕ) → Dec (AllOver p m)
unfolding dec_dependents dec_terminated
dec_all_over p m = elim (dec_dependents m (λ _. Unit {0}) (λ _. yes tt) (λ d. status p d ≡ Terminated) (λ d. dec_terminated (status p d)) p) [
  | yes h ↦ yes (λ l d. h d l tt)
  | no n ↦ no (λ over. n (λ d l _. over l d))
]
