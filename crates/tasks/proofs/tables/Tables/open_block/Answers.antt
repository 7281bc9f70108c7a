use Rattle.std.proofs.Common.{◌<◌, length, ap, arith}
use Rattle.rules.specs.Limits.{block_room}
use Rattle.rules.specs.Picture.{frames}
use Rattle.rules.specs.Rules.{opens}
use Rattle.tasks.specs.View.{view, frames_of}
use Rattle.tasks.proofs.Views.{arrived}
use Rattle.tasks.proofs.tables.Tables.open_block.Goals as goal

pub returns : goal.returns
returns c =
    let few : length (frames (view c.args.self.now) c.args.actor.number) < block_room = omega (arith, ap (λ t. length (frames_of t)) c.task.ensures) in
    arrived c.enter.ensures (opens c.requires.acts few)
