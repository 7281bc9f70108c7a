use Rattle.std.proofs.Common.{rules, tests, ◌≡◌, ℕ, ◌+◌, ◌<◌, ◌≤◌, ◌≢◌, List, length, get_or, drop, decimal, None, Some, Err, Option, sym, refl, ap, ◌∙◌, subst, arith, below_more, Bor, set}
use Rattle.std.specs.Option.{ok_or}
use Rattle.std.proofs.lemmas.List.{length-set, get_or-set_same, get_or-set_other, length_push, length-drop}
use Rattle.std.proofs.lemmas.List.FromFn.{length-enumerate_from}
use Rattle.std.proofs.lemmas.Option.{MatchOption-at_none, MatchOption-at_some}
use Rattle.std.proofs.lemmas.Result.{err_from_is_err_and}
use Rattle.std.proofs.lemmas.Iterator.Consumers.{YieldsList-end}
use Rattle.lines.specs.declared.reader.BadField.{BadField}
use Rattle.lines.specs.Lines.{fields, field}
use Rattle.lines.specs.Numbers.{Numeral}
use Rattle.lines.proofs.Turns.{road, fields_few, turn}
use Rattle.lines.proofs.reader.read_numbers.Goals as goal

-- what `ok_or` refuses, and with what
refused : (o : Option ℕ) (e d : BadField) → Err d ≡ ok_or o e → (o ≡ None) × (d ≡ e)
refused None e d h = (refl, cc)
refused (Some n) e d h = cc

pub returns-in_err-values : goal.returns-in_err-values
returns-in_err-values c =
    let line = c.args.line.now in
    let here = turn line (road _ line c.split.ensures.rest c.split.ensures.done c.split.ensures.closure (λ x b q k. search (rules, tests)) c.skip.ensures.source c.skip.ensures.count c.enumerate-i-items.ensures.source c.enumerate-i-items.ensures.count c.into_iter-i-iterator.ensures.into_iter_gives) c.loop-i.yielded _ c.loop-i.yielded_by _ _ c.in-Some.i c.in-Some.field c.in-Some.is c.next.ensures.steps in
    let no = refused c.read_number.result _ _ c.in_err-values.ensures.value in
    let p = err_from_is_err_and c.from_residual.result c.from_residual.ensures.1 in
    let i = c.in-Some.i in
    rw (p.1, p.2, no.1) (
      i + 1,
      omega arith,
      record {
        after_letter = omega arith;
        within = here.1;
        good = λ j lt. let was = c.loop-i.invariant.1 j (omega (arith, here.0)) in (get_or c.loop-i.values j 0, was.0, was.1);
        bad = λ num. MatchOption-at_none _ _ no.0 c.read_number.ensures (subst Numeral (sym here.2) num);
      },
    )

pub loop-i-preserved : goal.loop-i-preserved
loop-i-preserved c =
    let line = c.args.line.now in
    let i = c.in-Some.i in
    let ns = c.loop-i.values in
    let n = c.in_ok-values.field-0 in
    let here = turn line (road _ line c.split.ensures.rest c.split.ensures.done c.split.ensures.closure (λ x b q k. search (rules, tests)) c.skip.ensures.source c.skip.ensures.count c.enumerate-i-items.ensures.source c.enumerate-i-items.ensures.count c.into_iter-i-iterator.ensures.into_iter_gives) c.loop-i.yielded _ c.loop-i.yielded_by _ _ i c.in-Some.field c.in-Some.is c.next.ensures.steps in
    let read = MatchOption-at_some _ _ _ c.in_ok-values.ensures.ok_part c.read_number.ensures in
    let within : i < length ns = omega (arith, c.loop-i.invariant.0, here.1, fields_few line) in
    let turned : ℕ × Bor (List ℕ) = (i, c.in-Some.field) in
    let each : (k : ℕ) → k < i + 1 → (get_or (set ns i n) k 0 ≤ 999) × (field line (k + 1) ≡ decimal (get_or (set ns i n) k 0)) =
    below_more _ i
    (λ k h. let ne : k ≢ i = omega arith in let e = get_or-set_other ns i k n 0 ne in let was = c.loop-i.invariant.1 k (omega (arith, here.0)) in (omega (arith, e, was.0), was.1 ∙ ap decimal (sym e)))
    (let e = get_or-set_same ns i n 0 within in (omega (arith, e, read.0), sym here.2 ∙ read.1 ∙ ap decimal (sym e))) in
    (length-set ns i n ∙ c.loop-i.invariant.0, λ k h. each k (omega (arith, here.0, length_push c.loop-i.yielded turned)))

pub returns : goal.returns
returns c =
    let line = c.args.line.now in
    let all = YieldsList-end (road _ line c.split.ensures.rest c.split.ensures.done c.split.ensures.closure (λ x b q k. search (rules, tests)) c.skip.ensures.source c.skip.ensures.count c.enumerate-i-items.ensures.source c.enumerate-i-items.ensures.count c.into_iter-i-iterator.ensures.into_iter_gives) c.loop-i.yielded _ c.loop-i.yielded_by _ _ c.in-None.is c.next.ensures.steps in
    (c.loop-i.invariant.0, λ i lt. c.loop-i.invariant.1 i (omega (arith, all.1, length-enumerate_from 0 (drop 1 (fields line)), length-drop 1 (fields line))))
