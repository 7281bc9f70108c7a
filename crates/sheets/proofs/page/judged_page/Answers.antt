use Rattle.std.proofs.Common.{◌≡◌, ◌++◌, string_bytes, sym, ap, ◌∙◌, subst, append_assoc}
use Rattle.std.specs.List.{flat_map}
use Rattle.books.specs.Points.{has}
use Rattle.books.specs.Shut.{size, LargestShut}
use Rattle.sheets.specs.Limits.{parties}
use Rattle.sheets.specs.Page.{judged, party_line, closing_line, members}
use Rattle.sheets.specs.Sheets.{follow, NoRows}
use Rattle.books.proofs.Sets.{size_within}
use Rattle.sheets.proofs.page.judged_page.Goals as goal

pub returns : goal.returns
returns c =
    let told = c.in_ok-taken.ensures in
    let taken = c.in_ok-taken.taken in
    let sheet = follow c.take_lines.new.sheet in
    let out = has c.left_out-out.result in
    let left_out : LargestShut parties sheet out = subst (λ s. LargestShut parties sheet (has s)) (sym c.left_out-out.ensures) c.judge.ensures.judged in
    let many : c.len.result ≡ size parties out = c.len.ensures ∙ size_within parties 32 out left_out.shut.points in
    let parts = flat_map party_line (members parties out) in
    let front : string_bytes c.take_lines.new.text ≡ told.0 = told.2 ∙ ap (λ l. l ++ told.0) c.new-page.ensures.bytes in
    judged c.if-input-gt-INPUT_ROOM.false (record {
      fresh = follow c.new-watch.result.book;
      sheet = sheet;
      taken = taken;
      refusals = told.0;
      out = out;
      starts = subst (λ b. NoRows (follow b)) (sym c.new-watch.ensures.book) c.new.ensures;
      fed = told.1;
      judged = left_out;
      printed = c.in_ok-writeln.ensures.bytes
          ∙ ap (λ l. string_bytes c.put_parties.new.text ++ closing_line taken l) many
          ∙ ap (λ l. l ++ closing_line taken (size parties out)) (c.in_ok-put_parties.ensures ∙ ap (λ l. l ++ parts) front)
          ∙ append_assoc told.0 parts (closing_line taken (size parties out));
    })
