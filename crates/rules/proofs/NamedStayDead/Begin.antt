-- A set stays closed when a task begins, with the points of that task added to it; and it was closed before.
use Rattle.std.proofs.Common.{◌≡◌, ℕ, ◌<◌, Bool, false, not, T, eqb, sym, refl, ap, ◌∙◌, subst, inl, inr, arith}
use Rattle.std.proofs.lemmas.Bool.{cases_lt, cond_both}
use Rattle.rules.specs.Book.Phase.{has_completed, has_terminated, unbegun, under_way}
use Rattle.rules.specs.Book.{AnyLevel, CanEndIn, CanRunWith, DependentsEnd, Innermost, InsideRendezvous, outside, Phase, phase, Points}
use Rattle.rules.specs.Changes.{birth, new_task}
use Rattle.rules.specs.Picture.{at, frames, Picture, rendezvous_level, status, Task}
use Rattle.rules.specs.Rules.{Acts}
use Rattle.rules.specs.declared.vocabulary.Action.{Action}
use Rattle.rules.specs.declared.vocabulary.Action.TheVariants.{Accept, Begin, Call, EndRendezvous, Finish, LeaveBlock, OpenBlock}
use Rattle.rules.specs.declared.vocabulary.Event.{Event}
use Rattle.rules.specs.declared.vocabulary.Status.{Status}
use Rattle.rules.specs.declared.vocabulary.Status.TheVariants.{Accepting, Completed, Engaged, Leaving, NotBegun, Queued, Running, Terminated}
use Rattle.rules.proofs.Basics.Tasks.{at_each, at_other, at_same}
use Rattle.rules.proofs.Invariant.Good.{not_begun}
use Rattle.rules.proofs.Invariant.Sound.{engaged, queued, Sound}
use Rattle.rules.proofs.NamedStayDead.Closed.{Closed, Fate, Keeps, same, woken}
use Rattle.rules.proofs.NamedStayDead.Sways.{acts_few, acts_runs, end_by, run_by}

-- the points without those of task n
abbrev pub drop_points : ℕ → Points → Points
drop_points n s = record { runs = at s.runs n false; ends = at s.ends n false }

module _ (f : ℕ → Bool) (n : ℕ) where
  pub out_here : T (not (at f n false n))
  out_here = subst (λ b. T (not b)) (sym (at_same f n false)) tt

  out_more : (t : ℕ) → T (not (f t)) → T (not (at f n false t))
  out_more t h = cond_both (eqb n t) false (f t) (λ b. T (not b)) (λ _. tt) (λ _. h)

  out_back : (t : ℕ) → t < n → T (not (at f n false t)) → T (not (f t))
  out_back t b h = subst (λ b. T (not b)) (at_other f n false t (λ e. omega arith)) h

module _ (p : Picture) (s : Points) (a : ℕ) (k : Sound p) (acts : Acts p a) (c : Closed p (outside s)) where
  abbrev less : Points
  less = drop_points p.begun s

  widen_dependents : (m : ℕ) (levels : ℕ → Type 0) → DependentsEnd p (outside less) m levels → DependentsEnd p (outside s) m levels
  widen_dependents m levels h d l a k = out_back s.ends p.begun d k.0 (h d l a k)

  widen_run : (t : ℕ) (st : Status) → status p t ≡ st → CanRunWith p (outside less) t st → CanRunWith p (outside s) t st
  widen_run t NotBegun e h = h
  widen_run t Running e h = h
  widen_run t (Queued r f) e h = out_back s.runs p.begun r (queued k t r f e).begun h
  widen_run t (Engaged r) e h = (out_back s.runs p.begun r (engaged k t r e).0 h.0, widen_dependents r (InsideRendezvous p r t) h.1)
  widen_run t (Accepting m) e h = (a, acts_few k acts, (λ i. let j = acts.1 in cc), acts_runs c a acts)
  widen_run t Leaving e h = widen_dependents t (Innermost p t) h
  widen_run t Completed e h = h
  widen_run t Terminated e h = h

  widen_end : (t : ℕ) (k : Phase) → t < p.begun → CanEndIn p (outside less) t k → CanEndIn p (outside s) t k
  widen_end t unbegun b h = h
  widen_end t under_way b h = (out_back s.runs p.begun t b h.0, widen_dependents t AnyLevel h.1)
  widen_end t has_completed b h = widen_dependents t AnyLevel h
  widen_end t has_terminated b h = h

  pub widened : Closed p (outside less)
  widened = record {
    runs = λ t h. out_more s.runs p.begun t (c.runs t (h.0, widen_run t (status p t) refl h.1));
    ends = λ t h. out_more s.ends p.begun t (c.ends t (h.0, widen_end t (phase (status p t)) h.0 h.1));
  }

module _ (p : Picture) (a n : ℕ) (k : Sound p) where
  birth_master : (d : ℕ) → d < p.begun → ((birth p a n).task d).master ≡ (p.task d).master
  birth_master = at_each (λ j w. j < p.begun → w.master ≡ (p.task j).master) p.task p.begun (new_task p a n) (λ b. absurd (omega arith)) (λ j _ _. refl)

  birth_rendezvous : (x r : ℕ) → status p x ≡ Engaged r → rendezvous_level x (frames (birth p a n) r) ≡ rendezvous_level x (frames p r)
  birth_rendezvous x r e = at_each (λ j w. j < p.begun → rendezvous_level x w.frames ≡ rendezvous_level x (frames p j)) p.task p.begun (new_task p a n)
      (λ b. absurd (omega arith)) (λ j _ _. refl) r (engaged k x r e).0

  pub birth_keeps : (o : Points) → T (o.runs p.begun) → T (o.ends p.begun) → Keeps p (birth p a n) o
  birth_keeps o r e = record {
    early = λ x b. elim (cases_lt x p.begun) [
      | inl l ↦ inl l
      | inr l ↦ let i : p.begun ≡ x = omega arith in inr (subst (λ y. T (o.runs y)) i r, subst (λ y. T (o.ends y)) i e)
    ];
    grows = λ d m l h. let i = h.0 in inr (omega arith, birth_master d h.0 ∙ h.1);
    fates = λ x b. at_each (λ j w. j < p.begun → Fate o j (p.task j) w) p.task p.begun (new_task p a n)
        (λ b. absurd (omega arith)) (λ j _ _. same refl refl) x b;
    rendezvous = λ x r e _. birth_rendezvous x r e;
  }

  module _ (o : Points) (s : Sound (birth p a n)) (c : Closed (birth p a n) o) where
    child_runs : T (o.runs p.begun)
    child_runs = run_by c p.begun Running (omega arith) (ap (λ (t : Task). t.status) (at_same p.task p.begun (new_task p a n))) tt

    child_ends : T (o.ends p.begun)
    child_ends = end_by c p.begun Running (omega arith) (ap (λ (t : Task). t.status) (at_same p.task p.begun (new_task p a n)))
        (child_runs, λ d l _ h. absurd (let i = s.elder d p.begun l h in let j = h.0 in omega arith))

    pub birth_back : Keeps (birth p a n) p o
    birth_back = record {
      early = λ x b. inl (omega arith);
      grows = λ d m l h. elim (cases_lt d p.begun) [
        | inl b ↦ inr (b, sym (birth_master d b) ∙ h.1)
        | inr b ↦ let j = h.0 in let i : p.begun ≡ d = omega arith in inl (subst (λ y. T (o.ends y)) i child_ends)
      ];
      fates = λ x _. at_each (λ j w. Fate o j w (p.task j)) p.task p.begun (new_task p a n)
          (woken child_runs (λ e. cc) (λ e. let f = ap phase (not_begun k p.begun (omega arith)).0 in cc)) (λ j _. same refl refl) x;
      rendezvous = λ x r _ e. sym (birth_rendezvous x r e);
    }

-- the points less those of a task that begins
abbrev pub fewer_by : Action → Points → Points
fewer_by (Begin c _) s = drop_points c s
fewer_by OpenBlock s = s
fewer_by LeaveBlock s = s
fewer_by (Call _ _) s = s
fewer_by (Accept _) s = s
fewer_by EndRendezvous s = s
fewer_by Finish s = s

abbrev pub fewer : Event → Points → Points
fewer v s = fewer_by v.action s
