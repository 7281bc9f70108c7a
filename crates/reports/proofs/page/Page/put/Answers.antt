use Rattle.std.proofs.Common.{sym, refl, arith}
use Rattle.std.proofs.lemmas.List.{length-take-le, take_more, take_all}
use Rattle.reports.proofs.Laying.{then, takes_as}
use Rattle.reports.proofs.page.Page.put.Goals as goal

pub loop-b-init : goal.loop-b-init
loop-b-init c = record { puts = record { after = refl; place = omega arith }; same_buffer = refl }

pub put_byte-requires : goal.put_byte-requires
put_byte-requires c = omega (arith, c.requires, c.loop-b.invariant.puts.place, length-take-le c.loop-b.b-index c.args.bytes.now c.loop-b.auto.b-index-end, c.loop-b-test.true)

pub loop-b-preserved : goal.loop-b-preserved
loop-b-preserved c = takes_as (then c.loop-b.invariant c.put_byte.ensures) (sym (take_more c.args.bytes.now c.loop-b.b-index 0 c.loop-b-test.true))

pub returns : goal.returns
returns c = takes_as c.loop-b.invariant (take_all c.loop-b.b-index c.args.bytes.now (omega (arith, c.loop-b-test.false)))
