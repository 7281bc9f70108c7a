-- Each check can be decided, and an event that passes all has a rule.
use Rattle.std.proofs.Common.{arith}
use Rattle.rules.proofs.Invariant.Reached.{reached_sound}
use Rattle.rules.specs.Refusals.{checks}
use Rattle.refusals.proofs.Checks.{one_refuses}
use Rattle.rules.proofs.Accepted.{accepted, accepted_or_refused, in_order, not_both, passes}
use Rattle.rules.proofs.theorems.accepted_unless_refused.Goals as goal

pub returns : goal.returns
returns c p reached v =
    let snd = reached_sound p reached in
    record {
      accepted = ((λ (_, _, s). passes s), accepted p snd v);
      either = accepted_or_refused p snd v;
      not_both = not_both p v;
      one_refusal = one_refuses (checks p v);
      in_order = (omega arith, (omega arith, in_order p v.actor v.action));
    }
