-- An accepted begin: the child has the next number and is Running, and so is its creator.
use Rattle.std.proofs.Common.{◌≡◌, ℕ, ◌<◌, ap, ◌∙◌, arith}
use Rattle.rules.specs.declared.vocabulary.Action.TheVariants.{Begin}
use Rattle.rules.specs.declared.vocabulary.Event.{Event}
use Rattle.rules.specs.declared.vocabulary.Outcome.{Outcome}
use Rattle.rules.specs.declared.vocabulary.Status.TheVariants.{Running}
use Rattle.rules.specs.Changes.{birth, new_task}
use Rattle.rules.specs.Limits.{most_tasks}
use Rattle.rules.specs.Picture.{Picture, Task, status}
use Rattle.rules.specs.Rules.{Step, begins, opens, leaves, waits_to_leave, errs, meets, queues, takes, waits_to_accept, ends_rendezvous, completes, ends}
use Rattle.rules.proofs.Basics.Tasks.{at_same, at_other}

pub record Begins (q : Picture) (a c : ℕ) : Type 0 where
  pub small : c < most_tasks
  pub child : status q c ≡ Running
  pub creator : status q a ≡ Running

pub child_begins : {p q : Picture} {v : Event} {o : Outcome} → Step p v o q → (c n : ℕ) → v.action ≡ Begin c n → Begins q v.actor c
child_begins (begins {p} {a} {n = k} acts room few) c n e =
    let next : c ≡ p.begun = cc in
    record {
      small = omega (arith, next, room);
      child = ap (λ x. status (birth p a k) x) next ∙ ap (λ (t : Task). t.status) (at_same p.task p.begun (new_task p a k));
      creator = ap (λ (t : Task). t.status) (at_other p.task p.begun (new_task p a k) a (omega (arith, acts.0))) ∙ acts.1;
    }
child_begins (opens acts room) c n e = absurd (cc)
child_begins (leaves acts f over) c n e = absurd (cc)
child_begins (waits_to_leave acts f over) c n e = absurd (cc)
child_begins (errs acts b en d) c n e = absurd (cc)
child_begins (meets acts b en z i) c n e = absurd (cc)
child_begins (queues acts b en x y z) c n e = absurd (cc)
child_begins (takes acts op room k) c n e = absurd (cc)
child_begins (waits_to_accept acts op room k) c n e = absurd (cc)
child_begins (ends_rendezvous acts f) c n e = absurd (cc)
child_begins (completes acts f over) c n e = absurd (cc)
child_begins (ends acts f over s) c n e = absurd (cc)
