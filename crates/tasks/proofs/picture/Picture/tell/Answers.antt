use Rattle.tasks.proofs.Runs.{still_reached}
use Rattle.tasks.proofs.picture.Picture.tell.Goals as goal

pub invariant_of-self : goal.invariant_of-self
invariant_of-self c =
    let m = c.args.self.now in record { reached = still_reached m.tables c.tell.new.self c.args.event c.tell.result c.tell.ensures m.reached }
