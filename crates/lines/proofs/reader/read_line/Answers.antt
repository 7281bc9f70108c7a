use Rattle.std.proofs.Common.{rules, ◌≡◌, ◌≤◌, length, take, sym, refl, subst, inl, inr, arith}
use Rattle.std.proofs.lemmas.List.{length-take-le}
use Rattle.std.proofs.lemmas.Result.{err_from_is_err_and}
use Rattle.lines.specs.Lines.{Reads, Spelled}
use Rattle.lines.proofs.Spelling.{no_number, reads_back, spelled_once, fields_from, line_from_fields, small_front}
use Rattle.lines.proofs.reader.read_line.Goals as goal

pub returns-in_err-letter-clause-back : goal.returns-in_err-letter-clause-back
returns-in_err-letter-clause-back g c =
    let a = g.A.Alphabet in
    reads_back a.known a.counted g.met.A.Alphabet.comma c.args.line.now c.from_residual.result (search rules)

pub returns-in_err-values : goal.returns-in_err-values
returns-in_err-values g c =
    let a = g.A.Alphabet in
    let line = c.args.line.now in
    let told = c.in_ok-letter.ensures in
    let p = err_from_is_err_and c.from_residual-in_err-values.result c.from_residual-in_err-values.ensures.1 in
    let h : Reads a.known a.counted line c.from_residual-in_err-values.result =
    rw (p.1, p.2) (inr (λ no. no told.0, inr (λ no. no (c.in_ok-letter.letter, told.1, told.2), inr (λ no. no told.3, inl (no_number line c.in_err-values.ensures.2, refl))))) in
    record { reads = h; back = reads_back a.known a.counted g.met.A.Alphabet.comma line _ h }

pub returns : goal.returns
returns g c =
    let a = g.A.Alphabet in
    let line = c.args.line.now in
    let l = c.in_ok-letter.letter in
    let n = c.separators-count.result in
    let vs = c.in_ok-values.values in
    let checked = c.in_ok-letter.ensures in
    let told = c.in_ok-values.ensures in
    let counts = c.separators-count.ensures in
    let room : n ≤ length vs = omega (arith, told.0, counts.few, checked.0.1) in
    let whole = fields_from line l n vs checked.1 counts.pieces room told.1 in
    let size : length (take n vs) ≡ n = length-take-le n vs room in
    let h : Spelled a.known a.counted line l (take n vs) = record {
      spelled = line_from_fields line l (take n vs) whole;
      short = checked.0.1;
      letter = checked.2;
      count = subst (a.counted l) (sym size) (checked.3 l n checked.1 (sym counts.pieces));
      small = small_front n vs (λ i lt. (told.1 i (omega (arith, counts.pieces))).0);
    } in
    record { reads = h; back = λ m ns s. spelled_once a.known a.counted g.met.A.Alphabet.comma line l m (take n vs) ns h s }
