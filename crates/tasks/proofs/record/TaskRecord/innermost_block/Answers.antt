use Rattle.std.proofs.Common.{◌∙◌, rules}
use borrow.Author.Tests.{tests}
use Rattle.tasks.specs.View.{frames_of}
use Rattle.tasks.proofs.Levels.{is_block, block_level}
use Rattle.tasks.proofs.record.TaskRecord.innermost_block.Goals as goal

pub returns : goal.returns
returns c = c.level_of.ensures is_block (λ f b q k. search (rules, tests)) ∙ block_level (frames_of c.args.self.now)
