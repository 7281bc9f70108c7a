use Rattle.std.proofs.Common.{ℕ, ◌≢◌, ◌≡◌, rules}
use borrow.Author.Tests.{tests}
use Rattle.std.proofs.lemmas.Iterator.{cases_from_all, YieldsList-from_slice}
use Rattle.rules.specs.declared.vocabulary.Status.TheVariants.{Terminated}
use Rattle.rules.specs.Picture.{under}
use Rattle.tasks.specs.declared.record.TaskRecord.{TaskRecord}
use Rattle.tasks.proofs.Views.{says_so, tells_begun}
use Rattle.tasks.proofs.tables.Tables.all_over.Goals as goal

pub returns : goal.returns
returns c =
    let k = c.args.t.number in
    let dependent = λ (r : TaskRecord). (l : ℕ) × (r.master ≡ under k l) in
    let told = cases_from_all _ _ _ (λ (r : TaskRecord). dependent r → r.status ≡ Terminated) (λ (r : TaskRecord). dependent r × (r.status ≢ Terminated)) c.all.ensures.ran (YieldsList-from_slice c.begun.result.now (cc)) (λ x q h. search (rules, tests)) (λ x q h. search (rules, tests)) in
    says_so c.all.result (λ y l d h. y d h.0 (l, h.1)) (λ over d b x. over x.0 d (b, x.1)) (tells_begun c.args.self.now dependent c.all.result c.begun.result.now c.begun.ensures.records c.begun.ensures.all told)
