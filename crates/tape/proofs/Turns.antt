-- One line more of a tape.
use Rattle.std.proofs.Common.{◌≡◌, ℕ, ◌+◌, ◌<◌, List, [], ◌∷◌, ◌++◌, length, get_or, take, drop, Ok, Result, sym, refl, ap, ◌∙◌, subst, add-zero, arith}
use Rattle.std.proofs.lemmas.List.{take_more, get_or-drop, drop-drop, length-drop}
use Rattle.refusals.specs.declared.Refusal.{Refusal}
use Rattle.tape.specs.Tapes.{Accepts}

module _ {X : Type 0} (all : List X) (n : ℕ) (x : X) (rest : List X) (e : drop n all ≡ x ∷ rest) where
  pub within : n < length all
  within = omega (arith, ap length e, length-drop n all)

  pub here : (d : X) → get_or all n d ≡ x
  here d = ap (λ j. get_or all j d) (sym (add-zero n)) ∙ sym (get_or-drop n all 0 d) ∙ ap (λ l. get_or l 0 d) e

  pub one_more : take (n + 1) all ≡ take n all ++ x ∷ []
  one_more = take_more all n x within ∙ ap (λ y. take n all ++ y ∷ []) (here x)

  pub left : drop (n + 1) all ≡ rest
  left = sym (drop-drop 1 n all) ∙ ap (drop 1) e

module _ {S : Type 0} (steps : S → List ℕ → Result S Refusal → Type 0) where
  pub accepts_more : (s : S) (ls : List (List ℕ)) (t : S) (l : List ℕ) (u : S) → Accepts steps s ls t → steps t l (Ok u) → Accepts steps s (ls ++ l ∷ []) u
  accepts_more s [] t l u h e = (u, subst (λ v. steps v l (Ok u)) h e, refl)
  accepts_more s (m ∷ ls) t l u h e = (h.0, h.1, accepts_more h.0 ls t l u h.2 e)
