-- Open frames: where they stand, the innermost block, and the level of a rendezvous.
use Rattle.std.proofs.Common.{◌≡◌, ℕ, suc, ◌≤◌, eqb, ◌≢◌, ◌⊎◌, List, [], ◌∷◌, length, refl, inl, inr, arith}
use Rattle.std.proofs.lemmas.Bool.{cond_both, cond-false, cond-true, eq-eqb, ne_eqb}
use Rattle.rules.specs.Picture.{innermost_block, rendezvous_level}
use Rattle.rules.specs.declared.vocabulary.Frame.{Frame}
use Rattle.rules.specs.declared.vocabulary.Frame.TheVariants.{Block, Rendezvous}

-- frame f stands at level l of fs, counted from the outermost, which has level 1
abbrev pub Stands : List Frame → ℕ → Frame → Type 0
Stands [] l f = ⊥
Stands (g ∷ fs) l f = ((l ≡ suc (length fs)) × (f ≡ g)) ⊎ Stands fs l f

-- what stands where
pub stands_low : (fs : List Frame) (l : ℕ) (g : Frame) → Stands fs l g → l ≤ length fs
stands_low [] l g s = absurd s
stands_low (x ∷ fs) l g (inl s) = omega arith
stands_low (x ∷ fs) l g (inr s) = let h = stands_low fs l g s in omega arith

pub stands_rendezvous : (fs : List Frame) (l c e : ℕ) → Stands (Block ∷ fs) l (Rendezvous c e) → Stands fs l (Rendezvous c e)
stands_rendezvous fs l c e (inl (_, z)) = absurd (cc)
stands_rendezvous fs l c e (inr s) = s

pub stands_block : (fs : List Frame) (l c e : ℕ) → Stands (Rendezvous c e ∷ fs) l Block → Stands fs l Block
stands_block fs l c e (inl (_, z)) = absurd (cc)
stands_block fs l c e (inr s) = s

pub innermost_stands : (fs : List Frame) → (innermost_block fs ≡ 0) ⊎ Stands fs (innermost_block fs) Block
innermost_stands [] = inl refl
innermost_stands (Block ∷ fs) = inr (inl (refl, refl))
innermost_stands (Rendezvous _ _ ∷ fs) = elim (innermost_stands fs) [ inl e ↦ inl e | inr s ↦ inr (inr s) ]

-- the level of a rendezvous, with one more frame
pub rendezvous_here : (c e : ℕ) (fs : List Frame) → rendezvous_level c (Rendezvous c e ∷ fs) ≡ suc (length fs)
rendezvous_here c e fs = cond-true (eqb c c) (suc (length fs)) (rendezvous_level c fs) (eq-eqb c c refl)

pub rendezvous_there : (c b e : ℕ) (fs : List Frame) → b ≢ c → rendezvous_level c (Rendezvous b e ∷ fs) ≡ rendezvous_level c fs
rendezvous_there c b e fs n = cond-false (eqb b c) (suc (length fs)) (rendezvous_level c fs) (ne_eqb b c n)

pub rendezvous_below : (c : ℕ) (fs : List Frame) → rendezvous_level c fs ≤ length fs
rendezvous_below c [] = omega arith
rendezvous_below c (Block ∷ fs) = let h = rendezvous_below c fs in omega arith
rendezvous_below c (Rendezvous b e ∷ fs) = let h = rendezvous_below c fs in
    cond_both (eqb b c) (suc (length fs)) (rendezvous_level c fs) (λ l. l ≤ suc (length fs)) (λ _. omega arith) (λ _. omega arith)
