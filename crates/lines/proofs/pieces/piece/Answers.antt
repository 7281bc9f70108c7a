use Rattle.std.proofs.Common.{rules, tests, ◌≡◌, ℕ, eqb, List, [], get_or, None, Some, Option, refl, ap, ◌∙◌, Bor}
use Rattle.std.specs.Option.{option_map, unwrap_or}
use Rattle.std.specs.List.{slice_get}
use Rattle.std.proofs.lemmas.Option.{unwrap_or-slice_get}
use Rattle.std.proofs.lemmas.Iterator.Splits.{YieldsList-from_slice_split}
use Rattle.std.proofs.lemmas.Iterator.Consumers.{nth_from_yields_List}
use Rattle.lines.proofs.pieces.piece.Goals as goal

-- the piece at k, or else what is empty
piece_or_empty : (r : Option (Bor (List ℕ))) (e : Bor (List ℕ)) (ps : List (List ℕ)) (k : ℕ) → option_map (λ x. x.now) r ≡ slice_get ps k → e.now ≡ [] → (unwrap_or r e).now ≡ get_or ps k []
piece_or_empty None e ps k at empty = empty ∙ ap (λ o. unwrap_or o []) at ∙ unwrap_or-slice_get ps k []
piece_or_empty (Some x) e ps k at empty = ap (λ o. unwrap_or o []) at ∙ unwrap_or-slice_get ps k []

pub returns : goal.returns
returns c =
    ap (λ (x : Bor (List ℕ)). x.now) c.unwrap_or.ensures
    ∙ piece_or_empty c.nth.result _ _ c.args.k (nth_from_yields_List _ _ c.args.k c.nth.ensures.ran
    (YieldsList-from_slice_split _ (λ b. eqb b c.args.sep) c.args.s.now c.split.ensures.rest c.split.ensures.done c.split.ensures.closure (λ x b q k. search (rules, tests)))) refl
