use Rattle.std.proofs.Common.{◌≡◌, length, arith, rules}
use Rattle.sheets.specs.Meaning.{replaced}
use Rattle.sheets.proofs.sheet.WaitSheet.set_row.Goals as goal

pub bounds-self-party : goal.bounds-self-party
bounds-self-party c = omega arith

pub returns : goal.returns
returns c =
    let len : length c.args.self.now.rows ≡ 96 = search rules in
    let all = c.if-not-are_parties.ensures in
    let made = c.in_ok-listed.ensures in (
      (λ h. omega arith, (λ h. omega arith, (λ h. omega arith, (λ h. omega (arith, h.2, all h.0 h.1), (λ h. made.0 h.0 h.1 h.2 h.3 h.4, tt))))),
      rw c.from-party.ensures (replaced c.args.self.now c.args.party c.args.needs _ c.args.listed.now (omega arith) len c.from-needs.ensures made.1),
    )
