-- Every picture that is reached has the invariant: each event keeps it.
use Rattle.std.proofs.Common.{◌≡◌, ℕ, suc, List, ◌∷◌, length, sym, refl, ap, ◌∙◌, subst, inl, inr}
use Rattle.rules.specs.Picture.{AllOver, frames, Over, Picture, status}
use Rattle.rules.specs.Rules.{begins, block_closes, completes, ends, ends_rendezvous, errs, leaves, master_ends, master_stays, meets, more, no_master, none, opens, queues, Reached, Settles, Step, Steps, takes, waits_to_accept, waits_to_leave}
use Rattle.rules.specs.declared.vocabulary.Event.{Event}
use Rattle.rules.specs.declared.vocabulary.Frame.{Frame}
use Rattle.rules.specs.declared.vocabulary.Frame.TheVariants.{Block}
use Rattle.rules.specs.declared.vocabulary.Outcome.{Outcome}
use Rattle.rules.specs.declared.vocabulary.Status.{Status}
use Rattle.rules.specs.declared.vocabulary.Status.TheVariants.{Accepting, Completed, Engaged, Leaving, NotBegun, Queued, Running, Terminated}
use Rattle.rules.proofs.Basics.Masters.{same_master}
use Rattle.rules.proofs.Invariant.Begin.{good_begins, sound_fresh}
use Rattle.rules.proofs.Invariant.Blocks.{good_closes, good_opens}
use Rattle.rules.proofs.Invariant.Finish.{good_completes, good_ends, good_master_ends, master_of}
use Rattle.rules.proofs.Invariant.Good.{Excuse, Good, no_excuse, Stat, stat_is}
use Rattle.rules.proofs.Invariant.OneTask.{good_queues, good_waits_to_accept, good_waits_to_leave}
use Rattle.rules.proofs.Invariant.Rendezvous.{good_ends_rendezvous, good_meets, good_takes}
use Rattle.rules.proofs.Invariant.Sound.{Sound}

-- the excuses go where nobody uses them
module _ (p : Picture) (X : Excuse)
    (h₁ : (t : ℕ) (fs : List Frame) → status p t ≡ Leaving → frames p t ≡ Block ∷ fs → Over p t (suc (length fs)) → X t (suc (length fs)) → ⊥)
    (h₂ : (t l : ℕ) → status p t ≡ Completed → AllOver p t → X t l → ⊥) where
  unexcused_stat : (t : ℕ) (S : Status) → status p t ≡ S → Stat p X t (frames p t) (p.task t).entries S → Stat p no_excuse t (frames p t) (p.task t).entries S
  unexcused_stat t NotBegun z h = h
  unexcused_stat t Running z h = h
  unexcused_stat t (Queued s e) z h = h
  unexcused_stat t (Engaged s) z h = h
  unexcused_stat t (Accepting mask) z h = h
  unexcused_stat t Leaving z h = (h.0, (h.1.0, h.1.1, λ _ o. h.1.2 (h₁ t h.1.0 z h.1.1 o) o))
  unexcused_stat t Completed z h = (h.0, h.1, λ _ o. h.2 (λ l. h₂ t l z o) o)
  unexcused_stat t Terminated z h = h

  unexcused : Good p X → Sound p
  unexcused g = record {
    few = g.few;
    stat = λ t. unexcused_stat t (status p t) refl (g.stat t);
    framed = g.framed;
    arrived = g.arrived;
    entries = g.entries;
    elder = g.elder;
    attached = g.attached;
  }

pub good_settles : {p : Picture} {t : ℕ} {q : Picture} → Good p (master_of p t) → Settles p t q → Sound q
good_settles {p} {t} g (no_master e) = unexcused p (master_of p t) (λ s fs _ _ _ y. cc) (λ s l _ _ y. cc) g
good_settles {p} {t} g (block_closes {m = m} {fs = fs} e z f o) = good_closes p (master_of p t) g m fs (stat_is g m Leaving z).0 (inr z) f o
    (λ s l n y. n (same_master (p.task t).master m (suc (length fs)) s l e y).0)
good_settles {p} {t} g (master_ends {m = m} {l = l} e z o r) = good_settles (good_master_ends p t m l g e z o) r
good_settles {p} {t} g (master_stays {m = m} {l = l} e n₁ n₂) = unexcused p (master_of p t)
    (λ s fs z f o y. let h = same_master (p.task t).master m l s (suc (length fs)) e y in
    n₁ (ap (status p) h.0 ∙ z) (h.1 ∙ sym (ap length (ap (frames p) h.0 ∙ f))) (subst (λ x. Over p x l) (sym h.0) (subst (λ x. Over p s x) (sym h.1) o)))
    (λ s k z o y. let h = same_master (p.task t).master m l s k e y in
    n₂ (ap (status p) h.0 ∙ z) (subst (AllOver p) (sym h.0) o))
    g

pub sound_step : {p q : Picture} {v : Event} {o : Outcome} → Sound p → Step p v o q → Sound q
sound_step {p} g (begins {a = a} {n = n} r k m) = good_begins p g a n r k m
sound_step {p} g (opens {a = a} r n) = good_opens p g a r n
sound_step {p} g (leaves {a = a} {fs = fs} r e o) = good_closes p no_excuse g a fs r.0 (inl r.1) e o (λ t l _ x. x)
sound_step {p} g (waits_to_leave {a = a} {fs = fs} r e n) = good_waits_to_leave p g a r fs e n
sound_step {p} g (errs _ _ _ _) = g
sound_step {p} g (meets {a = a} {s = s} {e = e} {mask = mask} r b _ z _) = good_meets p g a s e mask r b z
sound_step {p} g (queues {a = a} {s = s} {e = e} r b k n₁ n₂ _) = good_queues p g a r s e b k n₁ n₂
sound_step {p} g (takes {a = a} {mask = mask} {c = c} {e = e} r _ n k) = good_takes p g a mask c e r n k
sound_step {p} g (waits_to_accept {a = a} {mask = mask} r o n _) = good_waits_to_accept p g a r mask o n
sound_step {p} g (ends_rendezvous {a = a} {c = c} {e = e} {fs = fs} r i) = good_ends_rendezvous p g a c e fs r i
sound_step {p} g (completes {a = a} r e n) = good_completes p g a r e n
sound_step {p} g (ends {a = a} r e o s) = good_settles (good_ends p g a r e o) s

pub sound_steps : {p q : Picture} {vs : List Event} → Sound p → Steps p vs q → Sound q
sound_steps s none = s
sound_steps s (more k r) = sound_steps (sound_step s k) r

pub reached_sound : (p : Picture) → Reached p → Sound p
reached_sound p (vs, r) = sound_steps sound_fresh r
