-- The rows of the tasks, one task more.
use Rattle.std.proofs.Common.{◌≡◌, ℕ, ◌+◌, [], ◌∷◌, ◌++◌, length, Some, None, Option, sym, refl, ap, ◌∙◌, add-one, arith}
use Rattle.std.specs.List.{flat_map}
use Rattle.std.proofs.lemmas.List.{append-nil, flat_map_more, length_push}
use Rattle.reports.specs.declared.page.Page.{Page}
use Rattle.reports.specs.Layout.{Takes}
use Rattle.reports.proofs.Laying.{then, takes_as}
use Rattle.reports.specs.declared.report.Row.{Row}
use Rattle.reports.specs.Report.{rows_below, row_line}

pub none : (rows : ℕ → Option Row) → rows_below rows 0 ≡ []
unfolding rows_below
none rows = refl

pub more_none : (rows : ℕ → Option Row) (n : ℕ) → rows n ≡ None → rows_below rows (n + 1) ≡ rows_below rows n
unfolding rows_below
more_none rows n e = rw (add-one, e) (append-nil (rows_below rows n))

pub more_some : (rows : ℕ → Option Row) (n : ℕ) (row : Row) → rows n ≡ Some row → rows_below rows (n + 1) ≡ rows_below rows n ++ row ∷ []
unfolding rows_below
more_some rows n row e = rw (add-one, e)

module _ (rows : ℕ → Option Row) (n : ℕ) (p q : Page) (names : ℕ) (so_far : Takes p (flat_map row_line (rows_below rows n)) q) (counted : names ≡ length (rows_below rows n)) where
  pub step_none : rows n ≡ None → Takes p (flat_map row_line (rows_below rows (n + 1))) q × (names ≡ length (rows_below rows (n + 1)))
  step_none e = (takes_as so_far (ap (flat_map row_line) (sym (more_none rows n e))), counted ∙ ap length (sym (more_none rows n e)))

  pub step_some : (row : Row) (r : Page) → rows n ≡ Some row → Takes q (row_line row) r → Takes p (flat_map row_line (rows_below rows (n + 1))) r × (names + 1 ≡ length (rows_below rows (n + 1)))
  step_some row r e h = (
    takes_as (then so_far h) (flat_map_more row_line [] (rows_below rows n) row ∙ ap (flat_map row_line) (sym (more_some rows n row e))),
    omega (arith, counted, length_push (rows_below rows n) row, ap length (more_some rows n row e)),
  )
