use Rattle.std.proofs.Common.{◌≡◌, ◌≤◌, length, get_or, drop, sym, refl, subst}
use Rattle.std.proofs.lemmas.List.{take_rest}
use Rattle.std.proofs.lemmas.Result.{err_from_is_err_and}
use Rattle.lines.specs.Lines.{Spelled, numbers}
use Rattle.sheets.specs.Rows.{known, counted, Spells, unread}
use Rattle.sheets.proofs.Answered.{two_and_rest, answered}
use Rattle.sheets.proofs.sheet.WaitSheet.take_line.Goals as goal

pub returns-in_err-fields : goal.returns-in_err-fields
returns-in_err-fields c =
    let p = err_from_is_err_and c.from_residual.result c.from_residual.ensures.1 in
    rw (p.1, p.2) (unread c.in_err-fields.ensures.reads, refl)

pub returns : goal.returns
returns c =
    let line = c.args.line.now in
    let f = c.in_ok-fields.fields in
    let read = c.in_ok-fields.ensures.reads in
    let ns = c.numbers-numbers.result.now in
    let same : numbers f ≡ ns = sym c.numbers-numbers.ensures in
    let long : 2 ≤ length ns = subst (λ xs. counted f.letter (length xs)) same read.count in
    let spelled : Spelled known counted line 87 ns =
    subst (λ l. Spelled known counted line l ns) read.letter (subst (Spelled known counted line f.letter) same read) in
    let s : Spells line (get_or ns 0 0) (get_or ns 1 0) (drop 2 ns) = subst (Spelled known counted line 87) (two_and_rest ns long) spelled in
    answered c.args.self.now c.set_row.new.self line _ _ _ c.set_row.result s (simp take_rest at c.set_row.ensures)
