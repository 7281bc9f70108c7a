use Rattle.tasks.proofs.tables.Tables.+settle.Given as goal

abbrev pub decreases-settle : goal.decreases-settle
decreases-settle l = l.ended.number
