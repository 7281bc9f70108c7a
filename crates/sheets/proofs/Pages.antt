-- What is printed, one line more.
use Rattle.std.proofs.Common.{◌≡◌, ℕ, zero, suc, ◌+◌, Bool, cond, List, [], ◌∷◌, ◌++◌, filter, sym, refl, ap, ◌∙◌, subst, append_assoc, add_assoc, add-zero, zero-add, arith}
use Rattle.std.specs.List.{range_with_len}
use Rattle.std.proofs.lemmas.List.Elements.{filter-append}
use Rattle.refusals.specs.declared.Refusal.{Refusal}
use Rattle.refusals.specs.Table.{number_of}
use Rattle.sheets.specs.Page.{Fed, takes, refuses, refusal_line, members}
use Rattle.sheets.specs.Rows.{Takes, Refuses}
use Rattle.sheets.specs.Sheets.{Meaning}

-- the members below n are the numbers below n that the set has
numbers_more : (a n : ℕ) → range_with_len a (suc n) ≡ range_with_len a n ++ (a + n) ∷ []
numbers_more a zero = ap (λ k. k ∷ []) (sym (add-zero a))
numbers_more a (suc n) = ap (λ l. a ∷ l) (numbers_more (a + 1) n ∙ ap (λ k. range_with_len (a + 1) n ++ k ∷ []) (omega arith))

pub members_filter : (n : ℕ) (S : ℕ → Bool) → filter S (range_with_len 0 n) ≡ members n S
unfolding members
members_filter zero S = refl
members_filter (suc n) S =
    ap (filter S) (numbers_more 0 n ∙ ap (λ k. range_with_len 0 n ++ k ∷ []) (zero-add n)) ∙ filter-append S (range_with_len 0 n) (n ∷ []) ∙ ap (λ l. l ++ cond (S n) (n ∷ []) []) (members_filter n S)

-- one line more that is taken or refused, before those that are left
module _ (n t : ℕ) (f g h : Meaning) (all : List (List ℕ)) (start : Meaning) (taken : ℕ) (so_far line rest_text : List ℕ) (ls rest : List (List ℕ))
    (split : ls ≡ line ∷ rest)
    (before : (g : Meaning) (t : ℕ) (more : List ℕ) → Fed n f ls g t more → Fed 1 start all g (taken + t) (so_far ++ more)) where
  pub one_taken : Takes f line g → Fed (n + 1) g rest h t rest_text → Fed 1 start all h (taken + 1 + t) (so_far ++ rest_text)
  one_taken takes_it left =
      subst (λ k. Fed 1 start all h k (so_far ++ rest_text)) (sym (add_assoc taken 1 t))
      (before h (1 + t) rest_text (subst (λ l. Fed n f l h (1 + t) rest_text) (sym split) (takes takes_it left)))

  pub one_refused : (e : Refusal) → Refuses line e → Fed (n + 1) f rest h t rest_text → Fed 1 start all h (taken + t) ((so_far ++ refusal_line n (number_of e)) ++ rest_text)
  one_refused e refuses_it left =
      subst (λ l. Fed 1 start all h (taken + t) l) (sym (append_assoc so_far (refusal_line n (number_of e)) rest_text))
      (before h t (refusal_line n (number_of e) ++ rest_text) (subst (λ l. Fed n f l h t (refusal_line n (number_of e) ++ rest_text)) (sym split) (refuses refuses_it left)))
