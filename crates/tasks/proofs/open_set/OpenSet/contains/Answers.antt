use Rattle.std.proofs.Common.{sym, subst, arith}
use Rattle.std.proofs.lemmas.Bool.{le-ltb}
use Rattle.rules.specs.Rules.{In}
use Rattle.rules.proofs.Basics.Masks.{in_below}
use Rattle.tasks.specs.Says.{Says}
use Rattle.tasks.proofs.open_set.OpenSet.contains.Goals as goal

-- a number that no entry of the task has is in no set
pub returns-else-entry-self : goal.returns-else-entry-self
returns-else-entry-self c =
    let o = c.args.self.now in
    let e = c.args.entry in
    subst (λ b. Says b (In e o.mask)) (sym (le-ltb e o.entries (omega arith))) (λ i. omega (arith, in_below o.entries o.mask e o.own i))
