-- Where every check passes none refuses, and no two are the first to refuse.
use Rattle.std.proofs.Common.{◌≡◌, sym, ◌∙◌, inl, inr}
use Rattle.refusals.specs.declared.Refusal.{Refusal}
use Rattle.refusals.specs.Checks.{Checks, done, check, FirstRefusal, AllPass}

pub none_refuses : (cs : Checks) (r : Refusal) → AllPass cs → FirstRefusal cs r → ⊥
none_refuses done r pass f = f
none_refuses (check u F cs) r pass (inl f) = pass.0 f.0
none_refuses (check u F cs) r pass (inr f) = none_refuses cs r pass.1 f.1

pub one_refuses : (cs : Checks) (r s : Refusal) → FirstRefusal cs r → FirstRefusal cs s → r ≡ s
one_refuses done r s f g = absurd f
one_refuses (check u F cs) r s (inl f) (inl g) = f.1 ∙ sym g.1
one_refuses (check u F cs) r s (inl f) (inr g) = absurd (g.0 f.0)
one_refuses (check u F cs) r s (inr f) (inl g) = absurd (f.0 g.0)
one_refuses (check u F cs) r s (inr f) (inr g) = one_refuses cs r s f.1 g.1
