-- A way out: a Running task with no open frame finishes.
use Rattle.std.proofs.Common.{◌≡◌, ℕ, ◌<◌, false, ◌⊎◌, [], ◌∷◌, sym, refl, ap, ◌∙◌, subst, inl, inr, arith}
use native.Mathlib.Decide.{ℕ_discrete}
use Rattle.std.proofs.lemmas.Bool.{eq-eqb, false≢true}
use Rattle.rules.specs.Changes.{dismiss, mark, with_status}
use Rattle.rules.specs.Events.{◌does◌}
use Rattle.rules.specs.Picture.{AllOver, frames, Picture, queued_at_server, status, Task}
use Rattle.rules.specs.Rules.Step.{completes, ends}
use Rattle.rules.specs.Rules.Steps.{more, none}
use Rattle.rules.specs.declared.vocabulary.Action.TheVariants.{Finish}
use Rattle.rules.specs.declared.vocabulary.Status.{Status}
use Rattle.rules.specs.declared.vocabulary.Status.TheVariants.{Accepting, Completed, Queued, Running, Terminated}
use Rattle.rules.proofs.Basics.Dependents.{dec_all_over}
use Rattle.rules.proofs.Basics.Queues.{dismiss_frames, dismiss_master, Sent, sent}
use Rattle.rules.proofs.Basics.Statuses.{apart}
use Rattle.rules.proofs.Basics.Tasks.{mark_frames, mark_master, mark_other, mark_status}
use Rattle.rules.proofs.Cascade.{Bound, Cascade, end_cascade, Same, Settled, settled_end}
use Rattle.rules.proofs.Invariant.Sound.{begun_as, Sound}
use Rattle.rules.proofs.WaysOut.Eased.{Eased, Gone, Popped, Turned, turned_kept}
use Rattle.rules.proofs.WaysOut.Moves.{lighter_status, load, Move, rank}

-- what becomes of a task other than the one that finishes
record Calm (p q : Picture) (d x : ℕ) : Type 0 where
  turned : Turned (status p x) (status q x)
  popped : Popped p q x
  runs : status p x ≡ Running → status q x ≡ Running
  deserted : (e : ℕ) → status q x ≡ Queued d e → ⊥

calm_kept : (p q : Picture) (d x : ℕ) → queued_at_server d (status p x) ≡ false → Settled (p.task x) (q.task x) → Calm p q d x
calm_kept p q d x h (inl e) = record {
  turned = subst (λ (r : Status). Turned (status p x) r) (sym s) (turned_kept (status p x));
  popped = inl e.1;
  runs = λ r. s ∙ r;
  deserted = λ f z. false≢true (sym h ∙ (ap (queued_at_server d) (sym s ∙ z) ∙ eq-eqb d d refl));
}
  where
    s : status q x ≡ status p x
    s = e.0
calm_kept p q d x h (inr (inl (a, b, f))) = record {
  turned = subst (λ (r : Status). Turned r (status q x)) (sym a) (inl b);
  popped = inr (b, inl f);
  runs = λ _. b;
  deserted = λ e z. apart (sym b ∙ z) tt;
}
calm_kept p q d x h (inr (inr (a, b, f))) = record {
  turned = subst (λ (r : Status). Turned r (status q x)) (sym a) (inr b);
  popped = inl f;
  runs = λ r. absurd (apart (sym a ∙ r) tt);
  deserted = λ e z. apart (sym b ∙ z) tt;
}

calm_sent : (p q : Picture) (d x e : ℕ) → status p x ≡ Queued d e → Settled (with_status (p.task x) Running) (q.task x) → Calm p q d x
calm_sent p q d x e a (inl h) = record {
  turned = subst (λ (r : Status). Turned r (status q x)) (sym a) (inl b);
  popped = inl h.1;
  runs = λ _. b;
  deserted = λ f z. apart (sym b ∙ z) tt;
}
  where
    b : status q x ≡ Running
    b = h.0
calm_sent p q d x e a (inr (inl h)) = absurd (apart h.0 tt)
calm_sent p q d x e a (inr (inr h)) = absurd (apart h.0 tt)

calm : (p q : Picture) (d : ℕ) (s : Status) (x : ℕ) → (d ≡ x → ⊥) → Settled ((mark (dismiss p d) d s).task x) (q.task x) → Sent p d x → Calm p q d x
calm p q d s x n h (inl (e, f)) = calm_kept p q d x f (subst (λ (k : Task). Settled k (q.task x)) (mark_other (dismiss p d) d s x n ∙ e) h)
calm p q d s x n h (inr (e, (f, g))) = calm_sent p q d x f g (subst (λ (k : Task). Settled k (q.task x)) (mark_other (dismiss p d) d s x n ∙ e) h)

module _ (p q : Picture) (d : ℕ) (s : Status) (run : status p d ≡ Running) (bare : frames p d ≡ []) (awake : (x mask : ℕ) → status p x ≡ Accepting mask → ⊥)
    (done : (s ≡ Completed) ⊎ (s ≡ Terminated)) (begun : q.begun ≡ p.begun) (own : Same ((mark (dismiss p d) d s).task d) (q.task d))
    (bound : (x : ℕ) → x < p.begun → Bound (mark (dismiss p d) d s) q x)
    (settled : (x : ℕ) → Settled ((mark (dismiss p d) d s).task x) (q.task x)) where
  others : (x : ℕ) → (d ≡ x → ⊥) → Calm p q d x
  others x n = calm p q d s x n (settled x) (sent p d x)

  pub own_status : status q d ≡ s
  own_status = own.0 ∙ mark_status (dismiss p d) d s

  pub own_frames : frames q d ≡ frames p d
  own_frames = own.1 ∙ (mark_frames (dismiss p d) d s d ∙ dismiss_frames p d d)

  own_turned : (s ≡ Completed) ⊎ (s ≡ Terminated) → Turned (status p d) (status q d)
  own_turned (inl h) = subst (λ (r : Status). Turned r (status q d)) (sym run) (inr (inl (own_status ∙ h)))
  own_turned (inr h) = subst (λ (r : Status). Turned r (status q d)) (sym run) (inr (inr (own_status ∙ h)))

  own_deserted : (s ≡ Completed) ⊎ (s ≡ Terminated) → (e : ℕ) → status q d ≡ Queued d e → ⊥
  own_deserted (inl h) e z = apart (sym (own_status ∙ h) ∙ z) tt
  own_deserted (inr h) e z = apart (sym (own_status ∙ h) ∙ z) tt

  deserted : (x e : ℕ) → Dec (d ≡ x) → status q x ≡ Queued d e → ⊥
  deserted x e (yes h) z = own_deserted done e (ap (status q) h ∙ z)
  deserted x e (no n) z = (others x n).deserted e z

  pub finish_eased : Eased p q
  finish_eased = record {
    begun = begun;
    master = λ x b. elim (bound x b) [ inl h ↦ inl (h ∙ (mark_master (dismiss p d) d s x ∙ dismiss_master p d x)) | inr h ↦ inr h ];
    turned = λ x. turns x (ℕ_discrete d x);
    popped = λ x. pops x (ℕ_discrete d x);
    gone = λ x h. goes x h (ℕ_discrete d x);
  }
    where
      turns : (x : ℕ) → Dec (d ≡ x) → Turned (status p x) (status q x)
      turns x (yes h) = subst (λ (y : ℕ). Turned (status p y) (status q y)) h (own_turned done)
      turns x (no n) = (others x n).turned

      pops : (x : ℕ) → Dec (d ≡ x) → Popped p q x
      pops x (yes h) = subst (Popped p q) h (inl own_frames)
      pops x (no n) = (others x n).popped

      goes : (x : ℕ) → status p x ≡ Running → Dec (d ≡ x) → (status q x ≡ Running) ⊎ Gone p q x
      goes x r (yes h) = subst (λ (y : ℕ). (status q y ≡ Running) ⊎ Gone p q y) h (inr (record { bare = bare; deserted = λ y e. deserted y e (ℕ_discrete d y); awake = awake }))
      goes x r (no n) = inl ((others x n).runs r)

  pub finish_lighter : rank s < 1 → load q d < load p d
  finish_lighter h = lighter_status p q d Running s run own_status h own_frames

-- 5: d finishes
pub finish : (p : Picture) → Sound p → (d : ℕ) → status p d ≡ Running → frames p d ≡ [] → ((x mask : ℕ) → status p x ≡ Accepting mask → ⊥) → Move p
finish p snd d run bare awake = go (dec_all_over p d)
  where
    bd : d < p.begun
    bd = begun_as snd d run tt

    p₁ : Picture
    p₁ = mark (dismiss p d) d Terminated

    ended : AllOver p d → Cascade p₁ d → Move p
    ended over c = record {
      after = c.after;
      events = (d does Finish) ∷ [];
      steps = more (ends (bd, run) bare over c.settles) none;
      eased = finish_eased p c.after d Terminated run bare awake (inr refl) c.begun own c.bound c.settled;
      actor = d;
      actor_begun = bd;
      lighter = finish_lighter p c.after d Terminated run bare awake (inr refl) c.begun own c.bound c.settled (omega arith);
    }
      where
        own : Same (p₁.task d) (c.after.task d)
        own = settled_end (p₁.task d) (c.after.task d) (mark_status (dismiss p d) d Terminated) (c.settled d)

    go : Dec (AllOver p d) → Move p
    go (yes over) = ended over (end_cascade p snd d bd)
    go (no n) = record {
      after = mark (dismiss p d) d Completed;
      events = (d does Finish) ∷ [];
      steps = more (completes (bd, run) bare n) none;
      eased = finish_eased p (mark (dismiss p d) d Completed) d Completed run bare awake (inl refl) refl (refl, refl) (λ x _. inl refl) (λ x. inl (refl, refl));
      actor = d;
      actor_begun = bd;
      lighter = finish_lighter p (mark (dismiss p d) d Completed) d Completed run bare awake (inl refl) refl (refl, refl) (λ x _. inl refl) (λ x. inl (refl, refl)) (omega arith);
    }
