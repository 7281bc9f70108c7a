use Rattle.std.proofs.Common.{ℕ, OnOk, Ok, Err, Result, rules}
use Rattle.std.proofs.lemmas.List.{length-replicate}
use Rattle.console.specs.Printed.{report_room, report, refused}
use Rattle.console.proofs.printing.print_report.Goals as goal

-- what follows from a fact follows from it where there is a value
on_ok : {T E : Type 0} {P Q : Type 0} (r : Result T E) → (P → Q) → OnOk r P → OnOk r Q
on_ok (Ok x) f p = f p
on_ok (Err e) f p = tt

pub returns-in-Ok : goal.returns-in-Ok
returns-in-Ok g c = on_ok c.write_all.result (λ wrote. (_, report (length-replicate {A = ℕ} report_room 0) c.in-Ok.ensures.reported (search rules), wrote)) c.write_all.ensures.bytes

pub returns-in-Err : goal.returns-in-Err
returns-in-Err g c = on_ok c.write_all-in-Err.result (λ wrote. (_, refused (length-replicate {A = ℕ} report_room 0) c.in-Err.ensures.reported (search rules), wrote)) c.write_all-in-Err.ensures.bytes
