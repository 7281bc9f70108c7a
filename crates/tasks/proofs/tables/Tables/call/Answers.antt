use Rattle.std.proofs.Common.{◌≡◌, ℕ, ◌<◌, ◌≢◌, ◌⊎◌, ap, subst, arith}
use Rattle.rules.specs.declared.vocabulary.Status.TheVariants.{Accepting, Completed, Terminated}
use Rattle.rules.specs.declared.vocabulary.Action.TheVariants.{Call}
use Rattle.rules.specs.declared.vocabulary.Outcome.TheVariants.{TaskingError, Waits, Rendezvous as Met}
use Rattle.rules.specs.Events.{◌does◌}
use Rattle.rules.specs.Rules.{In, IsOpenSet, Step, errs, meets, queues}
use Rattle.tasks.specs.View.{view}
use Rattle.tasks.proofs.Views.{arrived}
use Rattle.tasks.proofs.Reach.{accept_room, accept_set, line_room}
use Rattle.tasks.proofs.tables.Tables.call.Goals as goal

pub returns-then-has_finished : goal.returns-then-has_finished
returns-then-has_finished c =
    let k = rw c.in_ok-s.ensures.ok_part at c.known.ensures in
    let p = view c.args.self.now in
    let s = c.in_ok-s.s.number in
    let has : c.args.entry < (p.task s).entries = omega (arith, ap (λ t. t.entries) c.task-task.ensures) in
    subst (λ n. Step p (c.args.actor.number does Call n c.args.entry) TaskingError p) k.0
    (errs c.requires.acts (omega (arith, k.0, k.1)) has (subst (λ t. (t.status ≡ Completed) ⊎ (t.status ≡ Terminated)) c.task-task.ensures c.if-has_finished.ensures))

pub engage-requires : goal.engage-requires
engage-requires c =
    let o = subst (λ t. (m : ℕ) × (t.status ≡ Accepting m) × In c.args.entry m) c.task-task.ensures c.if-accepts.ensures in
    accept_room c.in_ok-s.s.number o.0 c.requires.reached o.1

pub returns-then-accepts : goal.returns-then-accepts
returns-then-accepts c =
    let k = rw c.in_ok-s.ensures.ok_part at c.known.ensures in
    let p = view c.args.self.now in
    let s = c.in_ok-s.s.number in
    let has : c.args.entry < (p.task s).entries = omega (arith, ap (λ t. t.entries) c.task-task.ensures) in
    let o = subst (λ t. (m : ℕ) × (t.status ≡ Accepting m) × In c.args.entry m) c.task-task.ensures c.if-accepts.ensures in
    subst (λ n. Step p (c.args.actor.number does Call n c.args.entry) Met (view c.engage.new.self)) k.0
    (arrived c.engage.ensures (meets c.requires.acts (omega (arith, k.0, k.1)) has o.1 o.2))

pub join-requires : goal.join-requires
join-requires c = line_room c.args.actor.number c.requires.reached c.requires.acts.1

pub returns : goal.returns
returns c =
    let k = rw c.in_ok-s.ensures.ok_part at c.known.ensures in
    let p = view c.args.self.now in
    let s = c.in_ok-s.s.number in
    let has : c.args.entry < (p.task s).entries = omega (arith, ap (λ t. t.entries) c.task-task.ensures) in
    let n = subst (λ t. (t.status ≢ Completed) × (t.status ≢ Terminated)) c.task-task.ensures c.if-has_finished.ensures in
    let o = subst (λ t. (m : ℕ) → t.status ≡ Accepting m → IsOpenSet t.entries m → In c.args.entry m → ⊥) c.task-task.ensures c.if-accepts.ensures in
    subst (λ n. Step p (c.args.actor.number does Call n c.args.entry) Waits (view c.join.new.self)) k.0
    (arrived c.join.ensures (queues c.requires.acts (omega (arith, k.0, k.1)) has n.0 n.1 (λ m e. o m e (accept_set s m c.requires.reached e))))
