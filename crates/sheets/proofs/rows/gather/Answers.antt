use Rattle.std.proofs.Common.{◌≡◌, ◌<◌, false, not, ltb, get_or, sym, arith}
use Rattle.std.proofs.lemmas.Bool.{and_parts, not-true}
use Rattle.books.specs.Points.{has}
use Rattle.books.proofs.Sets.{adds_in}
use Rattle.sheets.specs.Meaning.{gathered_none, gathered_more, gathered_all}
use Rattle.sheets.proofs.rows.gather.Goals as goal

pub loop-q-init : goal.loop-q-init
loop-q-init c = gathered_none c.args.listed.now (has c.empty-set.result) c.empty-set.ensures

pub loop-q-preserved : goal.loop-q-preserved
loop-q-preserved c =
    let ps = c.args.listed.now in
    let i = c.loop-q.q-index in
    let q = get_or ps i 0 in
    let A = has c.loop-q.set in
    let told = rw c.from.ensures at c.if-not-insert.ensures in
    let low : q < 128 = omega (arith, c.requires i c.loop-q-test.true) in
    let absent : A q ≡ false = not-true (A q) (and_parts (ltb q 128) (not (A q)) (sym told.new)).1 in
    gathered_more ps A (has c.insert.new.self) i c.loop-q.invariant c.loop-q-test.true low absent (adds_in A (has c.insert.new.self) q low told.after)

pub returns : goal.returns
returns c = gathered_all c.args.listed.now (has c.loop-q.set) c.loop-q.q-index c.loop-q.invariant c.loop-q-test.false
