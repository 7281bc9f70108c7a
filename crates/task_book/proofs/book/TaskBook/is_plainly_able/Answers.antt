-- One more step along the queues; and what ends them.
use Rattle.std.proofs.Common.{◌≡◌, ℕ, ◌<◌, Bool, MatchBool, sym, subst}
use Rattle.rules.specs.declared.vocabulary.Status.TheVariants.{Running}
use Rattle.rules.specs.Book.{Able}
use Rattle.rules.specs.Picture.{status}
use Rattle.task_book.specs.Book.{picture_of}
use Rattle.task_book.proofs.Plainly.{accepting_able, queued_able, running_able}
use Rattle.task_book.proofs.book.TaskBook.is_plainly_able.Goals as goal

pub returns-in-Running : goal.returns-in-Running
returns-in-Running c e =
    let b = c.args.self.now in
    c.loop.invariant (running_able (picture_of b) b.picture.reached c.loop.t (sym c.in-Running.ensures))

pub returns-in-Accepting : goal.returns-in-Accepting
returns-in-Accepting c e =
    let b = c.args.self.now in
    let p = picture_of b in
    let some : (u : ℕ) × (status p u ≡ Running) =
    subst (λ (r : Bool). MatchBool r ((u : ℕ) × (status p u ≡ Running)) ((u : ℕ) → u < p.begun → status p u ≡ Running → ⊥)) e c.some_task_runs.ensures in
    c.loop.invariant (accepting_able p b.picture.reached c.loop.t c.in-Accepting.mask some.0 (sym c.in-Accepting.ensures) some.1)

pub loop-preserved : goal.loop-preserved
loop-preserved c able =
    let b = c.args.self.now in
    let p = picture_of b in
    c.loop.invariant (queued_able p b.picture.reached c.loop.t c.in-Queued.server c.in-Queued.entry (sym c.in-Queued.ensures)
    (subst (Able p) c.from-t.ensures able))
