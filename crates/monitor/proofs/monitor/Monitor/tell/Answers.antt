use Rattle.std.proofs.Common.{refl}
use Rattle.monitor.proofs.Children.{child_begins}
use Rattle.monitor.proofs.monitor.Monitor.tell.Goals as goal

pub returns-in-Begin : goal.returns-in-Begin
returns-in-Begin c =
    let told = rw c.from-actor.ensures at c.in-Ok.ensures in
    let begun = child_begins told.step c.in-Begin.child c.in-Begin.entries c.in-Begin.is in
    rw c.of-child.ensures (told, (begun.creator, refl, begun.child, (c.in-Begin.entries, c.in-Begin.is)))
