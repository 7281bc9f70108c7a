-- What a sheet answers to a line, from what it answers to the row that the line spells; and that no line has two answers.
use Rattle.std.proofs.Common.{◌≡◌, ℕ, ◌≤◌, Bool, cond, eqb, leb, List, [], ◌∷◌, length, get_or, drop, Ok, Err, count_by, Result, sym, refl, ap, ◌∙◌, subst, arith}
use Rattle.refusals.specs.declared.Refusal.{Refusal}
use Rattle.refusals.specs.Checks.{FirstRefusal}
use Rattle.refusals.proofs.Checks.{none_refuses, one_refuses}
use Rattle.lines.specs.Lines.{line_checks}
use Rattle.lines.proofs.Spelling.{spelled_once, not_refused}
use Rattle.sheets.specs.declared.sheet.WaitSheet.{WaitSheet}
use Rattle.sheets.specs.Sheets.{Meaning}
use Rattle.sheets.specs.Rows.{known, counted, Spells, Takes, Refuses, unread, unfit, row_checks, RowAnswer, LineAnswer, ToldApart}

-- two elements and those after them
pub two_and_rest : (xs : List ℕ) → 2 ≤ length xs → xs ≡ get_or xs 0 0 ∷ get_or xs 1 0 ∷ drop 2 xs
two_and_rest [] h = absurd (omega arith)
two_and_rest (a ∷ []) h = absurd (omega arith)
two_and_rest (a ∷ b ∷ xs) h = refl

pub answered : {U : Type 0} (before after : WaitSheet) (line : List ℕ) (party k : ℕ) (ps : List ℕ) (r : Result U Refusal)
    → Spells line party k ps → RowAnswer before after party k ps r → LineAnswer before after line r
answered before after line party k ps (Ok u) s h = record { party = party; k = k; listed = ps; spells = s; passes = h.0; row = h.1 }
answered before after line party k ps (Err e) s h = (unfit s h.0, h.1)

comma : known 44 → ⊥
comma e = omega (arith, e)

-- a line that spells a row is read, and spells no other
same_row : (line : List ℕ) (party k m j : ℕ) (ps qs : List ℕ) → Spells line party k ps → Spells line m j qs → party ∷ k ∷ ps ≡ m ∷ j ∷ qs
same_row line party k m j ps qs s t = (spelled_once known counted comma line 87 87 (party ∷ k ∷ ps) (m ∷ j ∷ qs) s t).1

-- what the checks of a row say of it, they say of the row by any other name
moved : (line : List ℕ) (e : Refusal) (party k m j : ℕ) (ps qs : List ℕ) → Spells line party k ps → Spells line m j qs → FirstRefusal (row_checks m j qs) e → FirstRefusal (row_checks party k ps) e
moved line e party k m j ps qs s t h =
    let same = sym (same_row line party k m j ps qs s t) in
    let p : m ≡ party = cc in
    let q : j ≡ k = cc in
    let r : qs ≡ ps = cc in
    subst (λ x. FirstRefusal (row_checks party k x) e) r (subst (λ x. FirstRefusal (row_checks party x qs) e) q (subst (λ x. FirstRefusal (row_checks x j qs) e) p h))

one_way : (f g : Meaning) (line : List ℕ) (e : Refusal) → Takes f line g → Refuses line e → ⊥
one_way f g line e t (unread h) = not_refused known counted comma line 87 (t.party ∷ t.k ∷ t.listed) t.spells e h
one_way f g line e t (unfit {party} {k} {listed} s h) =
    none_refuses (row_checks t.party t.k t.listed) e t.passes (moved line e t.party t.k party k t.listed listed t.spells s h)

one_refusal : (line : List ℕ) (e r : Refusal) → Refuses line e → Refuses line r → e ≡ r
one_refusal line e r (unread h) (unread i) = one_refuses (line_checks known counted line) e r h i
one_refusal line e r (unread h) (unfit {party} {k} {listed} s i) = absurd (not_refused known counted comma line 87 (party ∷ k ∷ listed) s e h)
one_refusal line e r (unfit {party} {k} {listed} s h) (unread i) = absurd (not_refused known counted comma line 87 (party ∷ k ∷ listed) s r i)
one_refusal line e r (unfit {party} {k} {listed} s h) (unfit {party = m} {k = j} {listed = qs} t i) =
    one_refuses (row_checks party k listed) e r h (moved line r party k m j listed qs s t i)

one_row : (f g h : Meaning) (line : List ℕ) → Takes f line g → Takes f line h → (p : ℕ) (S : ℕ → Bool) → g p S ≡ h p S
one_row f g h line t u p S =
    let same = same_row line t.party t.k u.party u.k t.listed u.listed t.spells u.spells in
    let a : t.party ≡ u.party = cc in
    let b : t.k ≡ u.k = cc in
    let c : t.listed ≡ u.listed = cc in
    t.row p S ∙ ap (λ x. cond (eqb p x) (leb t.k (count_by S t.listed)) (f p S)) a
    ∙ ap (λ x. cond (eqb p u.party) (leb x (count_by S t.listed)) (f p S)) b
    ∙ ap (λ x. cond (eqb p u.party) (leb u.k (count_by S x)) (f p S)) c ∙ sym (u.row p S)

pub told_apart : ToldApart
told_apart = record { one_way = one_way; one_refusal = one_refusal; one_row = one_row }
