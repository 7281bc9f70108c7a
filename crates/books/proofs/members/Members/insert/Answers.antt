use Rattle.std.proofs.Common.{◌&&◌, ◌||◌, eqb, sym, ap, ◌∙◌}
use Rattle.std.proofs.lemmas.Bool.{lt-ltb}
use Rattle.books.specs.Points.{member}
use Rattle.books.proofs.Binary.{set_bit}
use Rattle.books.proofs.members.Members.insert.Goals as goal

pub returns-clause-after : goal.returns-clause-after
returns-clause-after c i =
    let s = c.args.self.now in
    let k = c.args.k in
    set_bit s.0 k i c.if-k-ge64.false ∙ ap (λ b. (b && eqb i k) || member s i) (sym (lt-ltb k 64 c.if-k-ge64.false))
