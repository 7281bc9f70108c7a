use Rattle.std.proofs.Common.{sym, ◌∙◌, rules}
use borrow.Author.Tests.{tests}
use Rattle.std.proofs.lemmas.Iterator.{YieldsList-from_slice}
use Rattle.std.proofs.lemmas.Iterator.Consumers.{YieldsList-from_copied}
use Rattle.std.proofs.lemmas.Iterator.Adapters.{option_map_id}
use Rattle.std.proofs.lemmas.Iterator.Search.{find_from_yields_List}
use Rattle.rules.specs.Picture.{queued_at, status}
use Rattle.tasks.specs.View.{view}
use Rattle.tasks.proofs.Queues.{head_found}
use Rattle.tasks.specs.declared.ids.TaskId.{TaskId}
use Rattle.tasks.proofs.tables.Tables.first_at.Goals as goal

pub returns : goal.returns
returns c =
    let p = view c.args.self.now in
    let test = λ (t : TaskId). queued_at c.args.entry.server.number c.args.entry.number (status p t.number) in
    let found = find_from_yields_List test _ _ c.find.result c.find.ensures.ran (YieldsList-from_copied (YieldsList-from_slice c.args.self.now.arrivals.items (cc))) (λ x b q k. search (rules, tests)) in
    head_found (λ t. queued_at c.args.entry.server.number c.args.entry.number (status p t)) c.args.self.now.arrivals.items c.find.result (sym (option_map_id c.find.result) ∙ found)
