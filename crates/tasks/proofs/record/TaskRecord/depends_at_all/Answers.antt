use Rattle.std.proofs.Common.{◌≡◌, ℕ, Bool, true, false, eqb, Some, None, Option, ap, refl, rules}
use Rattle.std.proofs.lemmas.Bool.{eqb-true, eqb-false}
use Rattle.rules.specs.declared.vocabulary.Master.{Master}
use Rattle.rules.specs.Picture.{under}
use Rattle.tasks.specs.Says.{Says}
use Rattle.tasks.proofs.record.TaskRecord.depends_at_all.Goals as goal

tells : (m : Option Master) (k : ℕ) (b : Bool) → (m ≡ None → b ≡ false) → ((x : Master) → m ≡ Some x → b ≡ eqb x.creator k) → Says b ((l : ℕ) × (m ≡ under k l))
tells None k true n s = absurd (cc (n refl))
tells None k false n s = λ y. let z = y.1 in absurd (cc)
tells (Some x) k true n s = (x.level, ap (λ j. under j x.level) (eqb-true x.creator k (cc (s x refl))))
tells (Some x) k false n s = λ y. let z = y.1 in eqb-false x.creator k (cc (s x refl)) (cc)

pub returns : goal.returns
returns c = tells c.args.self.now.master c.args.creator.number c.is_some_and.result (λ e. search rules) (λ x e. search rules)
