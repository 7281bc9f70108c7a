use Rattle.std.proofs.Common.{◌≡◌, Bool, true, false, not, ◌&&◌, sym, refl, ◌∙◌, arith}
use Rattle.std.proofs.lemmas.Bool.{both_ways}
use Rattle.books.specs.Points.{has}
use Rattle.books.proofs.Sets.{adds_in, passing_added}
use Rattle.books.proofs.watch.pass.Goals as goal

-- what follows among what is not reached
follows_too : (r f : Bool) → (not r && f) ≡ true → f ≡ true
follows_too false f h = h
follows_too true f h = absurd (both_ways false refl h)

pub loop-p-preserved-then-is_next : goal.loop-p-preserved-then-is_next
loop-p-preserved-then-is_next g c =
    let m = g.B.WaitBook in
    let b = c.args.book.now in
    let p = c.in-Some.p in
    let R = has c.loop-p.reached in
    let R' = has c.insert.new.self in
    let W = has c.loop-p.p-iterator.left in
    let taken = c.in-Some.ensures.steps in
    let small = c.loop-p.invariant.points p taken.member in
    passing_added m.POINTS (m.meaning b) (g.met.B.WaitBook.grows b) (has c.args.reached.now) R W (has c.next.new.self.left) c.loop-p.grew p c.loop-p.invariant taken.member taken.others
    R' (follows_too (R p) _ (sym c.is_next.ensures ∙ c.if-is_next.true)) (adds_in R R' p (omega (arith, g.met.B.WaitBook.few, small)) c.insert.ensures.after)
