use Rattle.std.proofs.Common.{length, sym, ap, ◌∙◌, subst, arith}
use Rattle.rules.specs.declared.vocabulary.Frame.TheVariants.{Block}
use Rattle.rules.specs.Picture.{frames, Over, under}
use Rattle.rules.specs.Rules.{Settles, no_master, block_closes, master_ends, master_stays}
use Rattle.tasks.specs.View.{view}
use Rattle.tasks.specs.Promises.{Settling}
use Rattle.tasks.proofs.Endings.{block_front, settling_on}
use Rattle.tasks.proofs.tables.Tables.+settle.Goals as goal

pub returns-in_default : goal.returns-in_default
returns-in_default t c = no_master (ap (λ r. r.master) (sym c.task.ensures) ∙ c.in_default.is)

pub returns-then-closes : goal.returns-then-closes
returns-then-closes t c =
    let p = view c.args.self.now in
    let m = c.in-Some.master.creator in
    let e = ap (λ r. r.master) (sym c.task.ensures) ∙ c.in-Some.is in
    let k = c.if-closes.ensures in
    let f = block_front (frames p m) (c.requires.leaving m k.0) in
    let level = k.1 ∙ ap length f.1 in
    subst (λ Q. Settles p c.args.ended.number Q) (sym (c.close_block.ensures Block f.0 f.1))
    (block_closes (e ∙ ap (under m) level) k.0 f.1 (subst (λ l. Over p m l) level k.2))

pub settle-requires : goal.settle-requires
settle-requires t c =
    let p = view c.args.self.now in
    let m = c.in-Some.master.creator in
    let l = c.in-Some.master.level in
    let a = c.args.ended.number in
    let e = ap (λ r. r.master) (sym c.task.ensures) ∙ c.in-Some.is in
    (omega (arith, c.requires.elder a m l (c.requires.begun, e), c.decreases), subst (λ Q. Settling Q m) (sym c.mark.ensures) (settling_on p a m l c.requires (c.requires.begun, e)))

pub returns-then-ends : goal.returns-then-ends
returns-then-ends t c =
    let e = ap (λ r. r.master) (sym c.task.ensures) ∙ c.in-Some.is in
    let k = c.if-ends.ensures in
    master_ends e k.0 k.1 (subst (λ Q. Settles Q c.in-Some.master.creator (view c.settle.new.self)) c.mark.ensures c.settle.ensures)

pub returns-else-ends : goal.returns-else-ends
returns-else-ends t c =
    let e = ap (λ r. r.master) (sym c.task.ensures) ∙ c.in-Some.is in
    master_stays e (λ z i o. c.if-closes.ensures (z, i, o)) (λ z o. c.if-ends.ensures (z, o))
