-- The runs of the table hold: their events are played, the pictures before and after the last one are judged, and the answers compared.
use Rattle.std.proofs.Common.{◌≡◌, ℕ, zero, suc, ◌<◌, Bool, true, false, T, ◌⊎◌, ◌↔◌, List, [], ◌∷◌, eqb, All, Contains, sym, refl, ap, ◌∙◌, subst, inl, inr}
use native.Mathlib.Decide.{dec_lt, ℕ_discrete}
use Rattle.std.specs.Cmp.{nat_eq_equiv}
use Rattle.std.specs.List.{list_any}
use Rattle.std.proofs.lemmas.Bool.{eqb-true}
use Rattle.std.proofs.lemmas.List.Elements.{All-cons, All-contains, All-nil}
use Rattle.std.proofs.lemmas.Map.Views.{Contains-from_any, list_any-from_Contains}
use Rattle.rules.specs.Dead.{Dead}
use Rattle.rules.specs.Events.{outcome_number}
use Rattle.rules.specs.Picture.{fresh, Picture, status}
use Rattle.rules.specs.Refusals.{Refused}
use Rattle.rules.specs.Rules.{Accepted, more, none, Step, Steps}
use Rattle.rules.specs.Runs.{AllHold, AllShown, Holds, Run, runs, RunsHold, Shown}
use Rattle.rules.specs.declared.vocabulary.Event.{Event}
use Rattle.rules.specs.declared.vocabulary.Outcome.{Outcome}
use Rattle.rules.specs.declared.vocabulary.Outcome.TheVariants.{GoesOn, Rendezvous as RendezvousBegun, TaskingError, Terminated as Ended, Waits}
use Rattle.refusals.specs.declared.Refusal.{Refusal}
use Rattle.rules.specs.declared.vocabulary.Status.{Status}
use Rattle.rules.proofs.Accepted.{accepted_or_refused}
use Rattle.rules.proofs.Basics.Decide.{dec_both, dec_not, dec_true, find, Found, sure}
use Rattle.rules.proofs.Basics.Statuses.{first_of, kind, second_of, status_back, status_of}
use Rattle.rules.proofs.Invariant.Begin.{sound_fresh}
use Rattle.rules.proofs.Invariant.Reached.{sound_step}
use Rattle.rules.proofs.Invariant.Sound.{Sound}
use Rattle.rules.proofs.Judging.Judge.{dec_named, judged, judged_largest}
use Rattle.rules.proofs.NamedStayDead.Names.{names_dead}
use Rattle.rules.proofs.WaysOut.Drain.{dead_named}

-- a proof, or none found
abbrev pub Maybe : Type 0 → Type 0
Maybe A = A ⊎ Unit {0}

abbrev pub is_found : {A : Type 0} → Maybe A → Bool
is_found (inl _) = true
is_found (inr _) = false

pub found : {A : Type 0} (m : Maybe A) → T (is_found m) → A
found (inl a) t = a
found (inr _) t = absurd t

-- whether a task is dead can be decided
unfoldable pub dec_dead : (p : Picture) → Sound p → (t : ℕ) → Dec (Dead p t)
unfolding dec_named
dec_dead p snd t = elim (dec_named p t) [
  | yes h ↦ yes (names_dead snd (judged_largest p) t h)
  | no h ↦ no (λ d. h (dead_named snd (judged p) (judged_largest p) t d))
]

-- a list of events, if all are accepted
abbrev pub Played : Picture → List Event → Type 0
Played p vs = (q : Picture) × Steps p vs q × Sound q

unfoldable pub play : (p : Picture) → Sound p → (vs : List Event) → Maybe (Played p vs)
unfolding accepted_or_refused
play p snd [] = inl (p, none, snd)
play p snd (v ∷ vs) = go (accepted_or_refused p snd v) (λ q k. play q k vs)
  where
    then : (o : Outcome) (q : Picture) → Step p v o q → Maybe (Played q vs) → Maybe (Played p (v ∷ vs))
    then o q s (inl (r, t, k)) = inl (r, more s t, k)
    then o q s (inr _) = inr tt

    go : Accepted p v ⊎ ((r : Refusal) × Refused p v r) → ((q : Picture) → Sound q → Maybe (Played q vs)) → Maybe (Played p (v ∷ vs))
    go (inl (o, q, s)) rec = then o q s (rec q (sound_step snd s))
    go (inr _) rec = inr tt

-- outcomes and statuses, compared
abbrev pub outcome_of : ℕ → Outcome
outcome_of zero = GoesOn
outcome_of (suc zero) = Waits
outcome_of (suc (suc zero)) = RendezvousBegun
outcome_of (suc (suc (suc zero))) = TaskingError
outcome_of (suc (suc (suc (suc _)))) = Ended

pub outcome_back : (o : Outcome) → outcome_of (outcome_number o) ≡ o
outcome_back GoesOn = refl
outcome_back Waits = refl
outcome_back RendezvousBegun = refl
outcome_back TaskingError = refl
outcome_back Ended = refl

unfoldable pub same_outcome : (o n : Outcome) → Maybe (o ≡ n)
unfolding ℕ_discrete
same_outcome o n = elim (ℕ_discrete (outcome_number o) (outcome_number n)) [
  | yes e ↦ inl (sym (outcome_back o) ∙ (ap outcome_of e ∙ outcome_back n))
  | no _ ↦ inr tt
]

unfoldable pub same_status : (s r : Status) → Maybe (s ≡ r)
unfolding ℕ_discrete
same_status s r = elim (ℕ_discrete (kind s) (kind r)) [
  | no _ ↦ inr tt
  | yes e ↦ elim (ℕ_discrete (first_of s) (first_of r)) [
    | no _ ↦ inr tt
    | yes f ↦ elim (ℕ_discrete (second_of s) (second_of r)) [
      | no _ ↦ inr tt
      | yes g ↦ inl (sym (status_back s) ∙ ((λ i. status_of (e i) (f i) (g i)) ∙ status_back r))
    ]
  ]
]

unfoldable pub all_shown : (q : Picture) (ss : List Shown) → Maybe (AllShown q ss)
unfolding same_status
all_shown q [] = inl tt
all_shown q (s ∷ ss) = elim (same_status (status q s.task) s.is) [ inr _ ↦ inr tt | inl e ↦ elim (all_shown q ss) [ inr _ ↦ inr tt | inl h ↦ inl (e, h) ] ]

-- the names added are those listed
unfoldable pub dec_contains : (xs : List ℕ) (t : ℕ) → Dec (Contains xs t)
unfolding dec_true
dec_contains xs t = dec_true (list_any (eqb t) xs) (Contains-from_any eqb-true t xs) (list_any-from_Contains nat_eq_equiv t xs)

abbrev pub Agrees : Type 0 → Type 0 → Type 0
Agrees A B = (A → B) × (B → A)

unfoldable pub dec_agrees : {A B : Type 0} → Dec A → Dec B → Dec (Agrees A B)
dec_agrees (yes a) (yes b) = yes ((λ _. b), (λ _. a))
dec_agrees (no a) (no b) = yes ((λ x. absurd (a x)), (λ x. absurd (b x)))
dec_agrees (yes a) (no b) = no (λ h. b (h.0 a))
dec_agrees (no a) (yes b) = no (λ h. a (h.1 b))

unfoldable pub all_below : (n : ℕ) (xs : List ℕ) → Maybe (All (λ t. t < n) xs)
unfolding dec_lt
all_below n [] = inl (All-nil (λ t. t < n))
all_below n (x ∷ xs) = go (dec_lt x n) (all_below n xs)
  where
    go : Dec (x < n) → Maybe (All (λ t. t < n) xs) → Maybe (All (λ t. t < n) (x ∷ xs))
    go (yes l) (inl f) = inl (All-cons (λ t. t < n) x xs l f)
    go (yes l) (inr _) = inr tt
    go (no _) _ = inr tt

abbrev pub Added : Picture → Picture → ℕ → Type 0
Added p q t = Dead q t × (Dead p t → ⊥)

unfoldable pub all_added : (p q : Picture) → Sound p → Sound q → (xs : List ℕ) → Maybe ((t : ℕ) → Contains xs t ↔ Added p q t)
unfolding all_below find dec_agrees dec_contains dec_both dec_dead dec_not
all_added p q j k xs = go (all_below q.begun xs) (find (λ t. Agrees (Contains xs t) (Added p q t) → ⊥) (λ t. dec_not (dec t)) q.begun)
  where
    dec : (t : ℕ) → Dec (Agrees (Contains xs t) (Added p q t))
    dec t = dec_agrees (dec_contains xs t) (dec_both (dec_dead q k t) (dec_not (dec_dead p j t)))

    go : Maybe (All (λ t. t < q.begun) xs) → Found q.begun (λ t. Agrees (Contains xs t) (Added p q t) → ⊥)
        → Maybe ((t : ℕ) → Contains xs t ↔ Added p q t)
    go (inl b) (inr f) = inl (λ t. ((λ m. (sure (dec t) (f t (All-contains (λ t. t < q.begun) xs t b m))).0 m), (λ a. (sure (dec t) (f t a.0.begun)).1 a)))
    go (inl b) (inl _) = inr tt
    go (inr _) _ = inr tt

-- a run, and all runs
unfoldable pub holds : (r : Run) → Maybe (Holds r)
unfolding play accepted_or_refused same_outcome all_added all_shown
holds r = go (play fresh sound_fresh r.before)
  where
    last : (p : Picture) (plays : Steps fresh r.before p) (snd : Sound p) (o : Outcome) (q : Picture) (s : Step p r.last o q)
        → Maybe (o ≡ r.outcome) → Maybe ((t : ℕ) → Contains r.added t ↔ Added p q t) → Maybe (AllShown q r.shown) → Maybe (Holds r)
    last p plays snd o q s (inl e) (inl a) (inl h) = inl (record {
      p = p;
      q = q;
      plays = plays;
      answers = subst (λ (n : Outcome). Step p r.last n q) e s;
      adds = a;
      shows = h;
    })
    last p plays snd o q s (inl e) (inl a) (inr _) = inr tt
    last p plays snd o q s (inl e) (inr _) _ = inr tt
    last p plays snd o q s (inr _) _ _ = inr tt

    then : (p : Picture) → Steps fresh r.before p → Sound p → Accepted p r.last ⊎ ((u : Refusal) × Refused p r.last u) → Maybe (Holds r)
    then p plays snd (inl (o, q, s)) = last p plays snd o q s (same_outcome o r.outcome) (all_added p q snd (sound_step snd s) r.added) (all_shown q r.shown)
    then p plays snd (inr _) = inr tt

    go : Maybe (Played fresh r.before) → Maybe (Holds r)
    go (inl (p, plays, snd)) = then p plays snd (accepted_or_refused p snd r.last)
    go (inr _) = inr tt

unfoldable pub all_hold : (rs : List Run) → Maybe (AllHold rs)
unfolding holds
all_hold [] = inl tt
all_hold (r ∷ rs) = elim (holds r) [ inr _ ↦ inr tt | inl h ↦ elim (all_hold rs) [ inr _ ↦ inr tt | inl k ↦ inl (h, k) ] ]

pub runs_hold : RunsHold
unfolding all_hold
runs_hold = found (all_hold runs) tt
