use Rattle.std.proofs.Common.{◌≤◌, [], length, take, Err, sym, ap, ◌∙◌, subst, arith}
use Rattle.std.proofs.lemmas.List.{length-drop, take_all}
use Rattle.lines.specs.Pieces.{lines_of}
use Rattle.tape.specs.Tapes.{Accepts, Stopped}
use Rattle.tape.proofs.Turns.{within, here, one_more, left, accepts_more}
use Rattle.tape.proofs.tape.play.Goals as goal

pub returns-in-Err : goal.returns-in-Err
returns-in-Err g c =
    let all = lines_of c.args.tape.now in
    let n = c.loop-line.told in
    let next = sym c.loop-line.invariant.1 ∙ c.in-Some.ensures.steps in
    let steps = g.T.Teller.steps in
    let told = c.in-Err.ensures in
    let stopped : Stopped steps c.args.teller.now c.args.tape.now n c.tell_line.new.self = record {
      short = c.if-tape-gt-TAPE_ROOM.false;
      within = within all n _ _ next;
      accepted = subst (Accepts steps c.args.teller.now (take n all)) (sym told.1) c.loop-line.invariant.0;
      cause = c.in-Err.field-0;
      refused = subst (λ l. steps c.tell_line.new.self l (Err c.in-Err.field-0)) (sym (here all n _ _ next []))
          (subst (λ t. steps t c.in-Some.line.now (Err c.in-Err.field-0)) (sym told.1) told.0);
    } in
    stopped

pub overflow_add-told : goal.overflow_add-told
overflow_add-told g c =
    let all = lines_of c.args.tape.now in
    let next = sym c.loop-line.invariant.1 ∙ c.in-Some.ensures.steps in
    omega (arith, within all c.loop-line.told _ _ next, c.lines-line-items.ensures.few, ap length c.lines-line-items.ensures.value, c.if-tape-gt-TAPE_ROOM.false)

pub loop-line-preserved : goal.loop-line-preserved
loop-line-preserved g c =
    let all = lines_of c.args.tape.now in
    let n = c.loop-line.told in
    let next = sym c.loop-line.invariant.1 ∙ c.in-Some.ensures.steps in
    let steps = g.T.Teller.steps in
    let told = c.in_default.ensures in (
      subst (λ ls. Accepts steps c.args.teller.now ls c.tell_line.new.self) (sym (one_more all n _ _ next)) (accepts_more steps c.args.teller.now (take n all) c.loop-line.teller _ _ c.loop-line.invariant.0 told),
      sym (left all n _ _ next),
      omega (arith, within all n _ _ next),
    )

pub returns : goal.returns
returns g c =
    let all = lines_of c.args.tape.now in
    let n = c.loop-line.told in
    let past : length all ≤ n = omega (arith, ap length (sym c.loop-line.invariant.1 ∙ c.in-None.ensures.steps.0), length-drop n all) in (
      c.if-tape-gt-TAPE_ROOM.false,
      omega (arith, c.loop-line.invariant.2),
      subst (λ ls. Accepts g.T.Teller.steps c.args.teller.now ls c.loop-line.teller) (take_all n all past) c.loop-line.invariant.0,
    )
