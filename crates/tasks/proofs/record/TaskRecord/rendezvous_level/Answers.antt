use Rattle.std.proofs.Common.{◌∙◌, rules}
use borrow.Author.Tests.{tests}
use Rattle.tasks.specs.View.{frames_of}
use Rattle.tasks.proofs.Levels.{is_with, partner_level}
use Rattle.tasks.proofs.record.TaskRecord.rendezvous_level.Goals as goal

pub returns : goal.returns
returns c = c.level_of.ensures (is_with c.args.caller) (λ f b q k. search (rules, tests)) ∙ partner_level c.args.caller (frames_of c.args.self.now)
