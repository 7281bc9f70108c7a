use Rattle.std.proofs.Common.{reverse, refl, ap, ◌∙◌, rules}
use Rattle.tasks.specs.Levels.{level_where}
use Rattle.tasks.proofs.Levels.{counts, level_from}
use Rattle.tasks.proofs.record.TaskRecord.level_of.Goals as goal

pub returns : goal.returns
returns g c passes says =
    level_from _ _ _ _ c.rposition.result _ passes c.rposition.ensures.ran (λ x b q k. says x.now b q (record { shown = x; shows = refl; called = search (rules, k) })) c.rposition.ensures.bound
    (counts c.rposition.result c.map_or.result (λ e. search rules) (λ i e. search rules))
    ∙ ap (λ fs. level_where passes (reverse fs)) (c.iter.ensures.rest ∙ c.deref.ensures.0)
