use Rattle.std.proofs.Common.{◌≢◌, ◌≡◌, rules}
use borrow.Author.Tests.{tests}
use Rattle.std.proofs.lemmas.Iterator.{cases_from_all, YieldsList-from_slice}
use Rattle.rules.specs.declared.vocabulary.Status.TheVariants.{Terminated}
use Rattle.rules.specs.Picture.{under}
use Rattle.tasks.specs.declared.record.TaskRecord.{TaskRecord}
use Rattle.tasks.proofs.Views.{says_so, tells_begun}
use Rattle.tasks.proofs.tables.Tables.block_is_over.Goals as goal

pub returns : goal.returns
returns c =
    let dependent = λ (r : TaskRecord). r.master ≡ under c.args.block.creator c.args.block.level in
    let told = cases_from_all _ _ _ (λ (r : TaskRecord). dependent r → r.status ≡ Terminated) (λ (r : TaskRecord). dependent r × (r.status ≢ Terminated)) c.all.ensures.ran (YieldsList-from_slice c.begun.result.now (cc)) (λ x q h. search (rules, tests)) (λ x q h. search (rules, tests)) in
    says_so c.all.result (λ y d h. y d h.0 h.1) (λ over d b e. over d (b, e)) (tells_begun c.args.self.now dependent c.all.result c.begun.result.now c.begun.ensures.records c.begun.ensures.all told)
