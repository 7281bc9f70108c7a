use Rattle.std.proofs.Common.{rules, ◌≡◌, ℕ, Bool, length, true, None, Some, Option, sym, ap, ◌∙◌, arith}
use Rattle.std.proofs.lemmas.Bool.{ltb-false}
use Rattle.std.specs.Borrow.{Bor}
use Rattle.std.specs.Option.{MatchOption, option_copied}
use Rattle.books.specs.Points.{has}
use Rattle.sheets.specs.Sheets.{row_follow}
use Rattle.sheets.specs.declared.sheet.Row.{Row}
use Rattle.sheets.specs.Meaning.{follow_beyond, follow_is}
use Rattle.sheets.proofs.sheet.WaitSheetWaitBook.follows.Goals as goal

-- none at all, or one that is met
met : (S : ℕ → Bool) (kept : Option Row) (lent : Option (Bor Row)) (r : Bool) (Met : Bor Row → Type 0) → option_copied lent ≡ kept → ((x : Bor Row) → Met x → r ≡ row_follow (Some x.now) S)
    → MatchOption lent (r ≡ true) Met → r ≡ row_follow kept S
met S kept None r Met same each told = told ∙ ap (λ o. row_follow o S) same
met S kept (Some x) r Met same each told = each x told ∙ ap (λ o. row_follow o S) same

pub returns-in_default : goal.returns-in_default
returns-in_default c =
    let len : length c.args.self.now.rows ≡ 96 = search rules in
    sym (follow_beyond c.args.self.now c.args.p _ (omega (arith, ltb-false _ _ (sym c.in_default.ensures.lookup.0))))

pub returns : goal.returns
returns c =
    let len : length c.args.self.now.rows ≡ 96 = search rules in
    let found = c.in-Some.ensures.lookup in
    met (has c.args.s.now) c.in-Some.kept.now c.as_ref.result _ _ c.as_ref.ensures.value (λ x h. search rules) c.is_none_or.ensures
    ∙ sym (follow_is c.args.self.now c.args.p _ c.in-Some.kept.now (omega (arith, found.3.0)) (sym (found.3.1 None)))
