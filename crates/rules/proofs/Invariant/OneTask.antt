-- The invariant is kept by the events after which one task waits: to leave a block, in a queue, or to accept.
use Rattle.std.proofs.Common.{◌≡◌, ℕ, suc, ◌<◌, ◌≢◌, List, [], ◌∷◌, ◌++◌, length, Contains, sym, refl, ◌∙◌, subst, inl, inr}
use Rattle.std.proofs.lemmas.List.Elements.{Contains-append_left, Contains-push, Contains-push_cases}
use native.Mathlib.Decide.{ℕ_discrete}
use Rattle.rules.specs.Changes.{join, mark, with_status}
use Rattle.rules.specs.Limits.{frame_room}
use Rattle.rules.specs.Picture.{at, Depends, frames, Over, Picture, status, Task, under}
use Rattle.rules.specs.Rules.{Acts, IsOpenSet}
use Rattle.rules.specs.declared.vocabulary.Frame.{Frame}
use Rattle.rules.specs.declared.vocabulary.Frame.TheVariants.{Block}
use Rattle.rules.specs.declared.vocabulary.Status.{Status}
use Rattle.rules.specs.declared.vocabulary.Status.TheVariants.{Accepting, Completed, Engaged, Leaving, Queued, Terminated}
use Rattle.rules.proofs.Basics.Tasks.{at_each, at_other, at_same, put_master}
use Rattle.rules.proofs.Invariant.Change.{Changed, Move, moves, next}
use Rattle.rules.proofs.Invariant.Good.{Excuse, Good, no_excuse, StatOf, Waiting}
use Rattle.rules.proofs.Invariant.Sound.{Sound}

-- Over, through any change that leaves the masters as they are
pub over_from : (p q : Picture) → q.begun ≡ p.begun → ((t : ℕ) → (q.task t).master ≡ (p.task t).master)
    → (m l : ℕ) → ((d : ℕ) → Depends p d m l → status q d ≡ Terminated → status p d ≡ Terminated) → Over q m l → Over p m l
over_from p q b e m l h o d k = h d k (o d (subst (λ n. d < n) (sym b) k.0, e d ∙ k.1))

abbrev pub others : ℕ → ℕ → Type 0
others a t = a ≢ t

module _ (p : Picture) (a : ℕ) (u : Task) (xs : List ℕ) (X Y : Excuse) where
  abbrev after : Picture
  after = next p (at p.task a u) xs

  pub one_move : Changed p after (others a) Y a u
      → ((t : ℕ) → a ≢ t → Contains p.arrivals t → Contains xs t)
      → ((t : ℕ) → Contains xs t → (s : ℕ) × (e : ℕ) × ((at p.task a u t).status ≡ Queued s e))
      → ((t l : ℕ) → a ≢ t → X t l → Y t l)
      → Move p (at p.task a u) xs (others a) X Y
  one_move c m r x = record {
    kept = λ t n. at_other p.task a u t n;
    each = λ t. elim (ℕ_discrete a t) [ yes e ↦ inr (u, subst (λ j. Changed p after (others a) Y j u) e c) | no n ↦ inl n ];
    member = m;
    arrived = r;
    excused = x;
  }

  pub one_over_back : u.master ≡ (p.task a).master → u.status ≢ Terminated → (m l : ℕ) → Over after m l → Over p m l
  one_over_back e n m l = over_from p after refl (put_master p a u e) m l
      (λ d _. at_each (λ t w. w.status ≡ Terminated → status p t ≡ Terminated) p.task a u (λ z. absurd (n z)) (λ t _ z. z) d)

  pub one_over_on : u.master ≡ (p.task a).master → status p a ≢ Terminated → (m l : ℕ) → Over p m l → Over after m l
  one_over_on e n m l = over_from after p refl (λ t. sym (put_master p a u e t)) m l
      (λ d _. at_each (λ t w. status p t ≡ Terminated → w.status ≡ Terminated) p.task a u (λ z. absurd (n z)) (λ t _ z. z) d)

  -- where a was not queued, the arrivals may stay
  pub one_arrived : Good p X → ((s e : ℕ) → status p a ≢ Queued s e) → (t : ℕ) → Contains p.arrivals t → (s : ℕ) × (e : ℕ) × ((at p.task a u t).status ≡ Queued s e)
  one_arrived g n = at_each (λ t w. Contains p.arrivals t → (s : ℕ) × (e : ℕ) × (w.status ≡ Queued s e)) p.task a u
      (λ m. absurd (n (g.arrived a m).0 (g.arrived a m).1 (g.arrived a m).2)) (λ t _ m. g.arrived t m)

  -- an engaged task other than a is engaged still
  pub one_engaged : ((s : ℕ) → status p a ≢ Engaged s) → (s c : ℕ) → status p c ≡ Engaged s → (at p.task a u c).status ≡ Engaged s
  one_engaged n s = at_each (λ c w. status p c ≡ Engaged s → w.status ≡ Engaged s) p.task a u (λ z. absurd (n s z)) (λ t _ z. z)

-- a changes its status only
pub changed_status : (p : Picture) (a : ℕ) (S : Status) (xs : List ℕ) (Y : Excuse)
    → StatOf (next p (at p.task a (with_status (p.task a) S)) xs) Y a (with_status (p.task a) S)
    → ((s : ℕ) → status p a ≢ Engaged s) → status p a ≢ Terminated
    → ((c e : ℕ) → a ≢ c → status p c ≡ Queued a e → Waiting p c a e → (S ≢ Completed) × (S ≢ Terminated))
    → (S ≡ Terminated → (m l : ℕ) → (p.task a).master ≡ under m l → Y m l)
    → Changed p (next p (at p.task a (with_status (p.task a) S)) xs) (others a) Y a (with_status (p.task a) S)
changed_status p a S xs Y h n w v d = record {
  is = at_same p.task a (with_status (p.task a) S);
  master = refl;
  entries = refl;
  stat = h;
  frames = inl refl;
  hosts = λ l c e _ s. s;
  opened = λ l s. inr s;
  serves = v;
  engages = λ s l e z _. absurd (n s z);
  was = w;
  ended = d;
}

-- a Running task waits: to leave a block, in a queue, or to accept
module _ (p : Picture) (g : Sound p) (a : ℕ) (r : Acts p a) where
  pub waits : (S : Status) (xs : List ℕ)
      → StatOf (next p (at p.task a (with_status (p.task a) S)) xs) no_excuse a (with_status (p.task a) S)
      → S ≢ Completed → S ≢ Terminated
      → ((t : ℕ) → a ≢ t → Contains p.arrivals t → Contains xs t)
      → ((t : ℕ) → Contains xs t → (s : ℕ) × (e : ℕ) × ((at p.task a (with_status (p.task a) S) t).status ≡ Queued s e))
      → Sound (next p (at p.task a (with_status (p.task a) S)) xs)
  waits S xs h n₁ n₂ m k = let z = r.1 in moves p (at p.task a (with_status (p.task a) S)) xs (others a) no_excuse no_excuse g
      (one_move p a (with_status (p.task a) S) xs no_excuse no_excuse
      (changed_status p a S xs no_excuse h (λ s e. cc) (λ e. cc) (λ _ _ _ _ _. (n₁, n₂)) (λ e. absurd (n₂ e)))
      m k (λ t l _ x. x))

  pub good_waits_to_leave : (fs : List Frame) → frames p a ≡ Block ∷ fs → (Over p a (suc (length fs)) → ⊥) → Sound (mark p a Leaving)
  good_waits_to_leave fs e n = let z = r.1 in waits Leaving p.arrivals
      (r.0, (fs, e, λ _ o. n (one_over_back p a (with_status (p.task a) Leaving) p.arrivals no_excuse no_excuse refl (λ y. cc) a (suc (length fs)) o)))
      (λ y. cc) (λ y. cc) (λ t _ m. m)
      (one_arrived p a (with_status (p.task a) Leaving) p.arrivals no_excuse no_excuse g (λ s e y. cc))

  pub good_waits_to_accept : (mask : ℕ) → IsOpenSet (p.task a).entries mask → length (frames p a) < frame_room → Sound (mark p a (Accepting mask))
  good_waits_to_accept mask o f = let z = r.1 in waits (Accepting mask) p.arrivals
      (r.0, (o, f))
      (λ y. cc) (λ y. cc) (λ t _ m. m)
      (one_arrived p a (with_status (p.task a) (Accepting mask)) p.arrivals no_excuse no_excuse g (λ s e y. cc))

  pub good_queues : (s e : ℕ) → s < p.begun → e < (p.task s).entries → status p s ≢ Completed → status p s ≢ Terminated → Sound (join p a s e)
  good_queues s e b k n₁ n₂ = waits (Queued s e) (p.arrivals ++ (a ∷ [])) (
    r.0,
    record {
      begun = b;
      entry = at_each (λ t w. e < (p.task t).entries → e < w.entries) p.task a u (λ h. h) (λ t _ h. h) s k;
      open₁ = at_each (λ t w. status p t ≢ Completed → w.status ≢ Completed) p.task a u (λ h y. cc) (λ t _ h. h) s n₁;
      open₂ = at_each (λ t w. status p t ≢ Terminated → w.status ≢ Terminated) p.task a u (λ h y. cc) (λ t _ h. h) s n₂;
      arrived = Contains-push p.arrivals a;
    },
  )
      (λ y. cc) (λ y. cc)
      (λ t _ m. Contains-append_left p.arrivals (a ∷ []) t m)
      (at_each (λ t w. Contains (p.arrivals ++ (a ∷ [])) t → (s : ℕ) × (e : ℕ) × (w.status ≡ Queued s e)) p.task a u
      (λ m. (s, e, refl))
      (λ t n m. elim (Contains-push_cases p.arrivals a t m) [ inl k ↦ g.arrived t k | inr y ↦ absurd (n y) ]))
    where
      u : Task
      u = with_status (p.task a) (Queued s e)
