-- A shut set seen from outside: what lies outside it is closed, every point that follows from it is in it.
-- A picture q keeps the closed sets of p, if each task is as it was or its points are in the set already.
use Rattle.std.proofs.Common.{◌≡◌, ℕ, ◌<◌, T, ◌≢◌, ◌⊎◌, length, sym, refl, ap, ◌∙◌, subst, inl, inr, T_not}
use lib.Dec.{not_T}
use Rattle.rules.specs.Book.Phase.{has_completed, has_terminated, unbegun, under_way}
use Rattle.rules.specs.Book.{AnyLevel, CanEnd, CanEndIn, CanEndWith, CanRun, CanRunWith, DependentsEnd, Innermost, InsideRendezvous, outside, Phase, phase, Points, Shut}
use Rattle.rules.specs.Picture.{Depends, frames, Picture, rendezvous_level, status, Task}
use Rattle.rules.specs.declared.vocabulary.Status.{Status}
use Rattle.rules.specs.declared.vocabulary.Status.TheVariants.{Accepting, Completed, Engaged, Leaving, NotBegun, Queued, Running, Terminated}

pub record Closed (p : Picture) (o : Points) : Type 0 where
  pub runs : (t : ℕ) → CanRun p o t → T (o.runs t)
  pub ends : (t : ℕ) → CanEnd p o t → T (o.ends t)

pub closed_outside : {p : Picture} {s : Points} → Shut p s → Closed p (outside s)
closed_outside {p} {s} h = record {
  runs = λ t r. not_T (s.runs t) (λ i. h.runs t i r);
  ends = λ t r. not_T (s.ends t) (λ i. h.ends t i r);
}

pub shut_inside : (p : Picture) (s : Points) → Closed p (outside s) → Shut p s
shut_inside p s c = record {
  runs = λ t i r. T_not (s.runs t) (c.runs t r) i;
  ends = λ t i r. T_not (s.ends t) (c.ends t r) i;
}

-- a task before and after: as it was, or it can run anyhow, or it can end anyhow and is Terminated
pub data Fate (o : Points) (x : ℕ) (u v : Task) : Type 0 where
  same : v.status ≡ u.status → v.frames ≡ u.frames → Fate o x u v
  woken : T (o.runs x) → phase u.status ≢ unbegun → phase v.status ≢ has_terminated → Fate o x u v
  ended : T (o.ends x) → v.status ≡ Terminated → Fate o x u v

pub record Keeps (p q : Picture) (o : Points) : Type 0 where
  -- a task of q is one of p, or both its points are in o
  pub early : (x : ℕ) → x < q.begun → (x < p.begun) ⊎ (T (o.runs x) × T (o.ends x))
  pub grows : (d m l : ℕ) → Depends p d m l → T (o.ends d) ⊎ Depends q d m l
  pub fates : (x : ℕ) → x < p.begun → Fate o x (p.task x) (q.task x)
  pub rendezvous : (x r : ℕ) → status p x ≡ Engaged r → status q x ≡ Engaged r → rendezvous_level x (frames q r) ≡ rendezvous_level x (frames p r)

module _ (p q : Picture) (o : Points) (grows : (d m l : ℕ) → Depends p d m l → T (o.ends d) ⊎ Depends q d m l) where
  dependents_back : (m : ℕ) (here there : ℕ → Type 0) → ((l : ℕ) → here l → there l)
      → DependentsEnd q o m there → DependentsEnd p o m here
  dependents_back m here there f h d l a k = elim (grows d m l k) [ inl e ↦ e | inr j ↦ h d l (f l a) j ]

  run_back : (x : ℕ) (st : Status) → frames q x ≡ frames p x
      → ((r : ℕ) → st ≡ Engaged r → rendezvous_level x (frames q r) ≡ rendezvous_level x (frames p r))
      → CanRunWith q o x st → CanRunWith p o x st
  run_back x NotBegun fs ms h = h
  run_back x Running fs ms h = h
  run_back x (Queued r e) fs ms h = h
  run_back x (Engaged r) fs ms h = (
    h.0,
    dependents_back r (InsideRendezvous p r x) (InsideRendezvous q r x)
        (λ l a. subst (λ n. n < l) (sym (ms r refl)) a) h.1,
  )
  run_back x (Accepting m) fs ms h = h
  run_back x Leaving fs ms h = dependents_back x (Innermost p x) (Innermost q x)
      (λ l a. a ∙ ap length (sym fs)) h
  run_back x Completed fs ms h = h
  run_back x Terminated fs ms h = h

  end_back : (x : ℕ) (k : Phase) → CanEndIn q o x k → CanEndIn p o x k
  end_back x unbegun h = h
  end_back x under_way h = (h.0, dependents_back x AnyLevel AnyLevel (λ l a. a) h.1)
  end_back x has_completed h = dependents_back x AnyLevel AnyLevel (λ l a. a) h
  end_back x has_terminated h = h

-- whoever is not Terminated and can end has only dependents that can end
end_needs : (q : Picture) (o : Points) (x : ℕ) (k : Phase) → k ≢ has_terminated → CanEndIn q o x k → DependentsEnd q o x AnyLevel
end_needs q o x unbegun n h = absurd h
end_needs q o x under_way n h = h.1
end_needs q o x has_completed n h = h
end_needs q o x has_terminated n h = absurd (n refl)

-- whoever can run and has only dependents that can end can end
end_from : (p : Picture) (o : Points) (x : ℕ) (k : Phase) → k ≢ unbegun → T (o.runs x) → DependentsEnd p o x AnyLevel → CanEndIn p o x k
end_from p o x unbegun n r h = absurd (n refl)
end_from p o x under_way n r h = (r, h)
end_from p o x has_completed n r h = h
end_from p o x has_terminated n r h = tt

module _ (p q : Picture) (o : Points) (c : Closed p o) (k : Keeps p q o) where
  runs_kept : (x : ℕ) → x < p.begun → Fate o x (p.task x) (q.task x) → CanRunWith q o x (status q x) → T (o.runs x)
  runs_kept x b (same e fs) h = c.runs x (
    b,
    run_back p q o k.grows x (status p x) fs
        (λ r g. k.rendezvous x r g (e ∙ g)) (subst (CanRunWith q o x) e h),
  )
  runs_kept x b (woken r _ _) h = r
  runs_kept x b (ended _ e) h = absurd (subst (CanRunWith q o x) e h)

  ends_kept : (x : ℕ) → x < p.begun → Fate o x (p.task x) (q.task x) → CanEndWith q o x (status q x) → T (o.ends x)
  ends_kept x b (same e fs) h = c.ends x (b, end_back p q o k.grows x (phase (status p x)) (subst (CanEndWith q o x) e h))
  ends_kept x b (woken r a t) h = c.ends x (
    b,
    end_from p o x (phase (status p x)) a r
        (dependents_back p q o k.grows x AnyLevel AnyLevel (λ l u. u) (end_needs q o x (phase (status q x)) t h)),
  )
  ends_kept x b (ended e _) h = e

  pub closed_kept : Closed q o
  closed_kept = record {
    runs = λ x h. elim (k.early x h.0) [ inl b ↦ runs_kept x b (k.fates x b) h.1 | inr e ↦ e.0 ];
    ends = λ x h. elim (k.early x h.0) [ inl b ↦ ends_kept x b (k.fates x b) h.1 | inr e ↦ e.1 ];
  }
