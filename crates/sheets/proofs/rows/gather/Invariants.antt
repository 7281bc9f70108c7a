use Rattle.books.specs.Points.{has}
use Rattle.sheets.specs.Meaning.{Gathered}
use Rattle.sheets.proofs.rows.gather.Given as goal

abbrev pub invariant-loop-q : goal.invariant-loop-q
invariant-loop-q l = Gathered l.listed (has l.set) l.q-index
