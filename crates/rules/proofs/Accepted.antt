-- An event is accepted exactly when no check refuses it.
use Rattle.std.proofs.Common.{◌≡◌, ℕ, suc, ◌^◌, ◌<◌, ◌≤◌, not, T, eqb, ◌≢◌, ◌⊎◌, List, [], ◌∷◌, length, sym, refl, ◌∙◌, subst, inl, inr, arith}
use native.Mathlib.Decide.{dec_le, dec_lt, ℕ_discrete}
use Rattle.refusals.specs.Checks.{AllPass, Ascend, check, Checks, done, FirstRefusal}
use Rattle.refusals.proofs.Checks.{none_refuses}
use Rattle.rules.specs.Changes.{birth}
use Rattle.rules.specs.Events.{◌does◌}
use Rattle.rules.specs.Limits.{frame_room}
use Rattle.rules.specs.Picture.{AllOver, frames, Over, Picture, queue, status}
use Rattle.rules.specs.Refusals.{action_checks, BlockInnermost, checks, Refused, RendezvousInnermost}
use Rattle.rules.specs.Rules.{Accepted, Acts, begins, completes, ends, ends_rendezvous, errs, In, leaves, meets, IsOpenSet, opens, queues, Step, takes, waits_to_accept, waits_to_leave}
use Rattle.rules.specs.declared.vocabulary.Action.{Action}
use Rattle.rules.specs.declared.vocabulary.Action.TheVariants.{Accept, Begin, Call, EndRendezvous, Finish, LeaveBlock, OpenBlock}
use Rattle.rules.specs.declared.vocabulary.Event.{Event}
use Rattle.rules.specs.declared.vocabulary.Frame.{Frame}
use Rattle.rules.specs.declared.vocabulary.Frame.TheVariants.{Block, Rendezvous}
use Rattle.rules.specs.declared.vocabulary.Outcome.{Outcome}
use Rattle.rules.specs.declared.vocabulary.Outcome.TheVariants.{GoesOn}
use Rattle.refusals.specs.declared.Refusal.{Refusal}
use Rattle.rules.specs.declared.vocabulary.Status.{Status}
use Rattle.rules.specs.declared.vocabulary.Status.TheVariants.{Accepting, Completed, Engaged, Leaving, NotBegun, Queued, Running, Terminated}
use Rattle.rules.proofs.Basics.Decide.{dec_both, dec_empty, dec_not, Least, least}
use Rattle.rules.proofs.Basics.Dependents.{dec_all_over, dec_over}
use Rattle.rules.proofs.Basics.Masks.{dec_in, in_below}
use Rattle.rules.proofs.Basics.Statuses.{apart, dec_running, kind}
use Rattle.rules.proofs.Cascade.{end_cascade}
use Rattle.rules.proofs.Invariant.Sound.{Sound}

-- each of the checks can be decided
abbrev Decided : Checks → Type 0
Decided done = Unit {0}
Decided (check _ F cs) = Dec F × Decided cs

-- all pass, or one is the first to refuse
unfoldable pub either : (cs : Checks) → Decided cs → AllPass cs ⊎ ((r : Refusal) × FirstRefusal cs r)
either done d = inl tt
either (check u F cs) (yes f, d) = inr (u, inl (f, refl))
either (check u F cs) (no n, d) = elim (either cs d) [ inl h ↦ inl (n, h) | inr h ↦ inr (h.0, inr (n, h.1)) ]

-- the checks can be decided
unfoldable pub dec_block : (fs : List Frame) → Dec (BlockInnermost fs)
dec_block [] = no (λ h. h)
dec_block (Block ∷ _) = yes tt
dec_block (Rendezvous _ _ ∷ _) = no (λ h. h)

unfoldable pub dec_rendezvous : (fs : List Frame) → Dec (RendezvousInnermost fs)
dec_rendezvous [] = no (λ h. h)
dec_rendezvous (Block ∷ _) = no (λ h. h)
dec_rendezvous (Rendezvous _ _ ∷ _) = yes tt

unfoldable pub dec_opens : (n mask : ℕ) → Dec (IsOpenSet n mask)
unfolding dec_both dec_lt
dec_opens n mask = dec_both (dec_lt 0 mask) (dec_lt mask (2 ^ n))

unfoldable pub decided : (p : Picture) (a : ℕ) (x : Action) → Decided (action_checks p a x)
unfolding dec_le dec_lt ℕ_discrete dec_not dec_block dec_rendezvous dec_empty dec_opens
decided p a (Begin c n) = (dec_le _ _, (dec_not (ℕ_discrete c p.begun), (dec_lt _ _, tt)))
decided p a OpenBlock = (dec_le _ _, tt)
decided p a LeaveBlock = (dec_not (dec_block (frames p a)), tt)
decided p a (Call s e) = (dec_le _ _, (dec_le _ _, tt))
decided p a (Accept mask) = (dec_not (dec_opens (p.task a).entries mask), (dec_le _ _, tt))
decided p a EndRendezvous = (dec_not (dec_rendezvous (frames p a)), tt)
decided p a Finish = (dec_not (dec_empty (frames p a)), tt)

unfoldable pub all_decided : (p : Picture) (v : Event) → Decided (checks p v)
unfolding dec_le dec_not dec_running decided
all_decided p v = (dec_le _ _, (dec_not (dec_running (status p v.actor)), decided p v.actor v.action))

-- an accepted event passes: first the checks of its actor, then those of its action
acting : (p : Picture) {a : ℕ} {R : Type 0} → Acts p a → R → (p.begun ≤ a → ⊥) × ((status p a ≢ Running → ⊥) × R)
acting p acts rest = let b = acts.0 in (omega arith, ((λ h. h acts.1), rest))

pub passes : {p q : Picture} {v : Event} {o : Outcome} → Step p v o q → AllPass (checks p v)
passes (begins {p} acts k n) = acting p acts (omega arith, ((λ h. h refl), (omega arith, tt)))
passes (opens {p} acts k) = acting p acts (omega arith, tt)
passes (leaves {p} acts f _) = acting p acts ((λ h. h (subst BlockInnermost (sym f) tt)), tt)
passes (waits_to_leave {p} acts f _) = acting p acts ((λ h. h (subst BlockInnermost (sym f) tt)), tt)
passes (errs {p} acts k n _) = acting p acts (omega arith, (omega arith, tt))
passes (meets {p} acts k n _ _) = acting p acts (omega arith, (omega arith, tt))
passes (queues {p} acts k n _ _ _) = acting p acts (omega arith, (omega arith, tt))
passes (takes {p} acts k n _) = acting p acts ((λ h. h k), (omega arith, tt))
passes (waits_to_accept {p} acts k n _) = acting p acts ((λ h. h k), (omega arith, tt))
passes (ends_rendezvous {p} acts f) = acting p acts ((λ h. h (subst RendezvousInnermost (sym f) tt)), tt)
passes (completes {p} acts f _) = acting p acts ((λ h. h f), tt)
passes (ends {p} acts f _ _) = acting p acts ((λ h. h f), tt)

-- an event that passes is accepted
module _ (p : Picture) (snd : Sound p) (a : ℕ) (acts : Acts p a) where
  unfoldable pub accept_leave : (fs : List Frame) → frames p a ≡ fs → BlockInnermost fs → Accepted p (a does LeaveBlock)
  unfolding dec_over
  accept_leave [] e h = absurd h
  accept_leave (Block ∷ fs) e h = go (dec_over p a (suc (length fs)))
    where
      go : Dec (Over p a (suc (length fs))) → Accepted p (a does LeaveBlock)
      go (yes o) = (_, _, leaves acts e o)
      go (no o) = (_, _, waits_to_leave acts e o)
  accept_leave (Rendezvous _ _ ∷ fs) e h = absurd h

  unfoldable pub accept_end : (fs : List Frame) → frames p a ≡ fs → RendezvousInnermost fs → Accepted p (a does EndRendezvous)
  accept_end [] e h = absurd h
  accept_end (Block ∷ fs) e h = absurd h
  accept_end (Rendezvous c n ∷ fs) e h = (_, _, ends_rendezvous acts e)

  unfoldable pub accept_finish : frames p a ≡ [] → Dec (AllOver p a) → Accepted p (a does Finish)
  unfolding end_cascade
  accept_finish e (yes o) = (_, _, ends acts e o (end_cascade p snd a acts.0).settles)
  accept_finish e (no o) = (_, _, completes acts e o)

  module _ (s e : ℕ) (b : s < p.begun) (k : e < (p.task s).entries) where
    -- the server is none of Completed, Terminated and Accepting with e open
    abbrev ShutTo : Status → Type 0
    ShutTo S = (mask : ℕ) → S ≡ Accepting mask → In e mask → ⊥

    unfoldable pub waiting : (S : Status) → status p s ≡ S → T (not (eqb (kind S) (kind Completed))) → T (not (eqb (kind S) (kind Terminated))) → ShutTo S → Accepted p (a does Call s e)
    waiting S z n₁ n₂ shut = (_, _, queues acts b k (λ h. apart (sym z ∙ h) n₁) (λ h. apart (sym z ∙ h) n₂) (λ mask h. shut mask (sym z ∙ h)))

    unfoldable pub accept_call : (S : Status) → status p s ≡ S → Accepted p (a does Call s e)
    unfolding dec_in waiting
    accept_call Completed z = (_, _, errs acts b k (inl z))
    accept_call Terminated z = (_, _, errs acts b k (inr z))
    accept_call (Accepting mask) z = go (dec_in e mask)
      where
        go : Dec (In e mask) → Accepted p (a does Call s e)
        go (yes i) = (_, _, meets acts b k z i)
        go (no n) = waiting (Accepting mask) z tt tt (λ m h i. let k : mask ≡ m = cc in n (subst (In e) (sym k) i))
    accept_call NotBegun z = waiting NotBegun z tt tt (λ m h _. apart h tt)
    accept_call Running z = waiting Running z tt tt (λ m h _. apart h tt)
    accept_call (Queued r f) z = waiting (Queued r f) z tt tt (λ m h _. apart h tt)
    accept_call (Engaged r) z = waiting (Engaged r) z tt tt (λ m h _. apart h tt)
    accept_call Leaving z = waiting Leaving z tt tt (λ m h _. apart h tt)

  module _ (mask : ℕ) (set : IsOpenSet (p.task a).entries mask) (room : length (frames p a) < frame_room) where
    abbrev Called : ℕ → Type 0
    Called e = In e mask × (queue p a e ≢ [])

    pub empty : (e : ℕ) → (Called e → ⊥) → In e mask → Dec (queue p a e ≡ []) → queue p a e ≡ []
    empty e n i (yes h) = h
    empty e n i (no h) = absurd (n (i, h))

    unfoldable pub taking : (e : ℕ) → In e mask → ((f : ℕ) → f < e → Called f → ⊥) → (xs : List ℕ) → queue p a e ≡ xs → xs ≢ [] → Accepted p (a does Accept mask)
    taking e i low [] h n = absurd (n refl)
    taking e i low (c ∷ rest) h n = (
      _,
      _,
      takes acts set room (record {
        opened = i;
        rest = rest;
        head = h;
        lower = λ f l j. empty f (low f l) j (dec_empty (queue p a f));
      }),
    )

    unfoldable pub accept_accept : Least (p.task a).entries Called → Accepted p (a does Accept mask)
    unfolding taking dec_empty
    accept_accept (inl (e, _, c, low)) = taking e c.0 low (queue p a e) refl c.1
    accept_accept (inr n) = (
      _,
      _,
      waits_to_accept acts set room
          (λ e i. empty e (n e (in_below (p.task a).entries mask e set.1 i)) i (dec_empty (queue p a e))),
    )

  unfoldable pub accept_action : (x : Action) → AllPass (action_checks p a x) → Accepted p (a does x)
  unfolding ℕ_discrete dec_block accept_leave accept_call dec_opens accept_accept least dec_both dec_in dec_not dec_empty dec_rendezvous accept_end accept_finish dec_all_over
  accept_action (Begin c n) (h, (i, (j, _))) = go (ℕ_discrete c p.begun)
    where
      go : Dec (c ≡ p.begun) → Accepted p (a does Begin c n)
      go (yes e) = (GoesOn, birth p a n, subst (λ (k : ℕ). Step p (a does Begin k n) GoesOn (birth p a n)) (sym e) (begins acts (omega arith) (omega arith)))
      go (no e) = absurd (i e)
  accept_action OpenBlock (h, _) = (_, _, opens acts (omega arith))
  accept_action LeaveBlock (h, _) = elim (dec_block (frames p a)) [ yes k ↦ accept_leave (frames p a) refl k | no k ↦ absurd (h k) ]
  accept_action (Call s e) (h, (i, _)) = accept_call s e (omega arith) (omega arith) (status p s) refl
  accept_action (Accept mask) (h, (i, _)) = elim (dec_opens (p.task a).entries mask) [
    | yes k ↦ accept_accept mask k (omega arith) (least (Called mask k (omega arith)) (λ e. dec_both (dec_in e mask) (dec_not (dec_empty (queue p a e)))) (p.task a).entries)
    | no k ↦ absurd (h k)
  ]
  accept_action EndRendezvous (h, _) = elim (dec_rendezvous (frames p a)) [ yes k ↦ accept_end (frames p a) refl k | no k ↦ absurd (h k) ]
  accept_action Finish (h, _) = elim (dec_empty (frames p a)) [ yes k ↦ accept_finish k (dec_all_over p a) | no k ↦ absurd (h k) ]

unfoldable pub accepted : (p : Picture) → Sound p → (v : Event) → AllPass (checks p v) → Accepted p v
unfolding dec_running accept_action
accepted p snd v (h, (i, j)) = elim (dec_running (status p v.actor)) [
  | yes k ↦ accept_action p snd v.actor (omega arith, k) v.action j
  | no k ↦ absurd (i k)
]

unfoldable pub accepted_or_refused : (p : Picture) → Sound p → (v : Event) → Accepted p v ⊎ ((r : Refusal) × Refused p v r)
unfolding either all_decided accepted
accepted_or_refused p snd v = elim (either (checks p v) (all_decided p v)) [ inl h ↦ inl (accepted p snd v h) | inr h ↦ inr h ]

pub not_both : (p : Picture) (v : Event) → Accepted p v → (r : Refusal) → Refused p v r → ⊥
not_both p v (o, q, s) r = none_refuses (checks p v) r (passes s)

pub in_order : (p : Picture) (a : ℕ) (x : Action) → Ascend 7 (action_checks p a x)
in_order p a (Begin c n) = (omega arith, (omega arith, (omega arith, tt)))
in_order p a OpenBlock = (omega arith, tt)
in_order p a LeaveBlock = (omega arith, tt)
in_order p a (Call s e) = (omega arith, (omega arith, tt))
in_order p a (Accept mask) = (omega arith, (omega arith, tt))
in_order p a EndRendezvous = (omega arith, tt)
in_order p a Finish = (omega arith, tt)
