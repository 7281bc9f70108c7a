-- The invariant is kept when a task completes or terminates.
use Rattle.std.proofs.Common.{◌≡◌, ℕ, true, false, not, ◌≢◌, [], sym, refl, ap, ◌∙◌, subst, inl, inr}
use Rattle.std.proofs.lemmas.Bool.{cases_Bool, cond-false, cond-true, not-true}
use Rattle.rules.specs.Changes.{dismiss, mark, with_status}
use Rattle.rules.specs.Picture.{AllOver, at, frames, Over, Picture, queued_at_server, status, under}
use Rattle.rules.specs.Rules.{Acts}
use Rattle.rules.specs.declared.vocabulary.Status.{Status}
use Rattle.rules.specs.declared.vocabulary.Status.TheVariants.{Completed, Engaged, Queued, Running, Terminated}
use Rattle.rules.proofs.Basics.Masters.{same_master}
use Rattle.rules.proofs.Basics.Queues.{dismiss_each, dismiss_frames, dismiss_master, Contains-filter, Contains-from_filter, queued_at_server_is, queued_at_server_queued}
use Rattle.rules.proofs.Basics.Tasks.{at_same}
use Rattle.rules.proofs.Invariant.Change.{Changed, moves}
use Rattle.rules.proofs.Invariant.Good.{Excuse, Good, no_excuse, stat_is, StatOf, Waiting}
use Rattle.rules.proofs.Invariant.OneTask.{changed_status, one_arrived, one_move, one_over_back, one_over_on, others, over_from}
use Rattle.rules.proofs.Invariant.Sound.{Sound}

-- the callers queued at a are dismissed
module _ (p : Picture) (a : ℕ) where
  abbrev stays : ℕ → Type 0
  stays t = queued_at_server a (status p t) ≡ false

  dismissed : (t : ℕ) → queued_at_server a (status p t) ≡ true → (dismiss p a).task t ≡ with_status (p.task t) Running
  dismissed t e = cond-true (queued_at_server a (status p t)) (with_status (p.task t) Running) (p.task t) e

  not_dismissed : (t : ℕ) → stays t → (dismiss p a).task t ≡ p.task t
  not_dismissed t e = cond-false (queued_at_server a (status p t)) (with_status (p.task t) Running) (p.task t) e

  pub no_caller : (c e : ℕ) → status (dismiss p a) c ≢ Queued a e
  no_caller c e = dismiss_each p a (λ t w. w.status ≢ Queued a e) (λ t f z y. cc) (λ t h z. let k = ap (queued_at_server a) z ∙ queued_at_server_queued a e in cc) c

  pub dismiss_over_back : (m l : ℕ) → Over (dismiss p a) m l → Over p m l
  dismiss_over_back m l = over_from p (dismiss p a) refl (dismiss_master p a) m l
      (λ d _. dismiss_each p a (λ t w. w.status ≡ Terminated → status p t ≡ Terminated) (λ t e z y. absurd (cc)) (λ t _ z. z) d)

  pub dismiss_over_on : (m l : ℕ) → Over p m l → Over (dismiss p a) m l
  dismiss_over_on m l = over_from (dismiss p a) p refl (λ t. sym (dismiss_master p a t)) m l
      (λ d _. dismiss_each p a (λ t w. status p t ≡ Terminated → w.status ≡ Terminated) (λ t e z y. absurd (cc)) (λ t _ z. z) d)

  module _ (g : Sound p) where
    each_dismissed : (t e : ℕ) → queued_at_server a (status p t) ≡ true → status p t ≡ Queued a e → Changed p (dismiss p a) stays no_excuse t (with_status (p.task t) Running)
    each_dismissed t e k z = record {
      is = dismissed t k;
      master = refl;
      entries = refl;
      stat = (stat_is g t (Queued a e) z).0;
      frames = inl refl;
      hosts = λ l c e _ s. s;
      opened = λ l s. inr s;
      serves = λ _ _ _ _ _. ((λ y. cc), (λ y. cc));
      engages = λ s l f y _. absurd (cc);
      was = λ y. cc;
      ended = λ y. absurd (cc);
    }

    pub good_dismiss : Sound (dismiss p a)
    good_dismiss = moves p (dismiss p a).task (dismiss p a).arrivals stays no_excuse no_excuse g (record {
      kept = not_dismissed;
      each = λ t. elim (cases_Bool (queued_at_server a (status p t))) [
        | inl k ↦ let h = queued_at_server_is a (status p t) k in inr (with_status (p.task t) Running, each_dismissed t h.0 k h.1)
        | inr k ↦ inl k
      ];
      member = λ t k. Contains-filter (λ x. not (queued_at_server a (status p x))) p.arrivals t (ap not k);
      arrived = λ t m. let h = Contains-from_filter (λ x. not (queued_at_server a (status p x))) p.arrivals t m in
          subst (λ w. (s : ℕ) × (e : ℕ) × (w.status ≡ Queued s e)) (sym (not_dismissed t (not-true (queued_at_server a (status p t)) h.1))) (g.arrived t h.0);
      excused = λ t l _ x. x;
    })

    pub acts_still : Acts p a → Acts (dismiss p a) a
    acts_still (b, z) = (b, ap (λ w. w.status) (not_dismissed a (ap (queued_at_server a) z)) ∙ z)

-- a, on whom nobody waits, completes or terminates
module _ (p : Picture) (X : Excuse) (g : Good p X) (a : ℕ) where
  pub good_retires : (S : Status) (Y : Excuse)
      → StatOf (mark p a S) Y a (with_status (p.task a) S)
      → ((s : ℕ) → status p a ≢ Engaged s) → status p a ≢ Terminated → ((s e : ℕ) → status p a ≢ Queued s e)
      → ((c e : ℕ) → status p c ≡ Queued a e → Waiting p c a e → ⊥)
      → (S ≡ Terminated → (m l : ℕ) → (p.task a).master ≡ under m l → Y m l)
      → ((t l : ℕ) → a ≢ t → X t l → Y t l)
      → Good (mark p a S) Y
  good_retires S Y h n₁ n₂ n₃ n d x = moves p (at p.task a (with_status (p.task a) S)) p.arrivals (others a) X Y g
      (one_move p a (with_status (p.task a) S) p.arrivals X Y
      (changed_status p a S p.arrivals Y h n₁ n₂ (λ c e _ z w. absurd (n c e z w)) d)
      (λ t _ m. m) (one_arrived p a (with_status (p.task a) S) p.arrivals X Y g n₃) x)

-- the excuse of the master of t
abbrev pub master_of : Picture → ℕ → Excuse
master_of p t m l = (p.task t).master ≡ under m l

module _ (p : Picture) (g : Sound p) (a : ℕ) (r : Acts p a) (e : frames p a ≡ []) where
  abbrev p' : Picture
  p' = dismiss p a

  r' : Acts (dismiss p a) a
  r' = acts_still p a g r

  e' : frames (dismiss p a) a ≡ []
  e' = dismiss_frames p a a ∙ e

  pub good_completes : (AllOver p a → ⊥) → Sound (mark (dismiss p a) a Completed)
  good_completes n = let z = r'.1 in good_retires p' no_excuse (good_dismiss p a g) a Completed no_excuse (
    r.0,
    e',
    λ _ o. n (λ l. dismiss_over_back p a a l
        (one_over_back p' a (with_status (p'.task a) Completed) p'.arrivals no_excuse no_excuse refl (λ y. cc) a l (o l))),
  )
      (λ s y. cc) (λ y. cc) (λ s e y. cc)
      (λ c f y _. no_caller p a c f y)
      (λ y. absurd (cc))
      (λ t l _ x. x)

  pub good_ends : AllOver p a → Good (mark (dismiss p a) a Terminated) (master_of (mark (dismiss p a) a Terminated) a)
  good_ends o = let z = r'.1 in good_retires p' no_excuse (good_dismiss p a g) a Terminated (master_of (mark (dismiss p a) a Terminated) a) (
    r.0,
    e',
    λ l. one_over_on p' a (with_status (p'.task a) Terminated) p'.arrivals no_excuse no_excuse refl (λ y. cc) a l
        (dismiss_over_on p a a l (o l)),
  )
      (λ s y. cc) (λ y. cc) (λ s e y. cc)
      (λ c f y _. no_caller p a c f y)
      (λ _ m l y. ap (λ w. w.master) (at_same p'.task a (with_status (p'.task a) Terminated)) ∙ y)
      (λ t l _ x. absurd x)

-- m, which has completed, terminates, since nothing unfinished depends on it
pub good_master_ends : (p : Picture) (t m l : ℕ) → Good p (master_of p t) → (p.task t).master ≡ under m l
    → status p m ≡ Completed → AllOver p m → Good (mark p m Terminated) (master_of (mark p m Terminated) m)
good_master_ends p t m l g e z o = good_retires p (master_of p t) g m Terminated (master_of (mark p m Terminated) m) (
  (stat_is g m Completed z).0,
  (stat_is g m Completed z).1,
  λ k. one_over_on p m (with_status (p.task m) Terminated) p.arrivals no_excuse no_excuse refl (λ y. cc) m k (o k),
)
    (λ s y. cc) (λ y. cc) (λ s e y. cc)
    (λ c f y w. w.open₁ z)
    (λ _ k l y. ap (λ w. w.master) (at_same p.task m (with_status (p.task m) Terminated)) ∙ y)
    (λ s k n y. absurd (n (same_master (p.task t).master m l s k e y).0))
