-- What every reached picture guarantees, as far as the code leans on it.
use Rattle.std.proofs.Common.{◌≡◌, ℕ, ◌<◌, ◌≤◌, not, eqb, ◌≢◌, List, [], ◌∷◌, ◌++◌, length, Contains, sym, refl, subst, inl, inr, arith}
use Rattle.std.proofs.lemmas.List.{length_push}
use Rattle.std.proofs.lemmas.List.Elements.{Contains-push_cases}
use Rattle.std.proofs.lemmas.List.Kept.{AllPairs-filter}
use mathlib.Core.Logic.{∥∥₁_elim}
use native.Mathlib.Bridge.{le_prop}
use Rattle.rules.specs.declared.vocabulary.Event.{Event}
use Rattle.rules.specs.declared.vocabulary.Outcome.{Outcome}
use Rattle.rules.specs.declared.vocabulary.Frame.{Frame}
use Rattle.rules.specs.declared.vocabulary.Frame.TheVariants.{Block, Rendezvous}
use Rattle.rules.specs.declared.vocabulary.Status.TheVariants.{Accepting, Running, Leaving}
use Rattle.rules.specs.Limits.{most_tasks, frame_room}
use Rattle.rules.specs.Picture.{Picture, status, frames, Depends, queued_at_server}
use Rattle.rules.specs.Rules.{begins, block_closes, completes, ends, ends_rendezvous, errs, leaves, master_ends, master_stays, meets, more, no_master, none, IsOpenSet, opens, queues, Settles, Step, Steps, takes, waits_to_accept, waits_to_leave}
use Rattle.rules.specs.Refusals.{BlockInnermost}
use Rattle.rules.proofs.Invariant.Begin.{sound_fresh}
use Rattle.rules.proofs.Invariant.Good.{stat_is}
use Rattle.rules.proofs.Invariant.Reached.{reached_sound, sound_step}
use Rattle.rules.proofs.Invariant.Sound.{Sound, accepting, begun_as, framed_here, leaving}
use Rattle.tasks.specs.Promises.{IsReached}
use Rattle.tasks.proofs.Queues.{Unique, unique_join, few_below}

pub few_begun : {p : Picture} → IsReached p → p.begun ≤ most_tasks
few_begun {p} r = ∥∥₁_elim r le_prop (λ x. (reached_sound p x).few)

-- whoever waits for a caller has room for the rendezvous, and a proper open set
pub accept_room : {p : Picture} (t m : ℕ) → IsReached p → status p t ≡ Accepting m → length (frames p t) < frame_room
accept_room {p} t m r e = ∥∥₁_elim r le_prop (λ x. (stat_is (reached_sound p x) t (Accepting m) e).1.1)

pub accept_set : {p : Picture} (t m : ℕ) → IsReached p → status p t ≡ Accepting m → IsOpenSet (p.task t).entries m
accept_set {p} t m r e =
    (∥∥₁_elim r le_prop (λ x. (accepting (reached_sound p x) t m e).0), ∥∥₁_elim r le_prop (λ x. (accepting (reached_sound p x) t m e).1))

-- the caller of a rendezvous is a task
pub partner_small : {p : Picture} (t c e : ℕ) (fs : List Frame) → IsReached p → frames p t ≡ Rendezvous c e ∷ fs → c < most_tasks
partner_small {p} t c e fs r f = ∥∥₁_elim r le_prop (λ x. let s = reached_sound p x in small s (begun_as s c (framed_here s t c e fs f) tt))
  where
    small : Sound p → c < p.begun → c < most_tasks
    small s b = omega (arith, s.few)

-- ---- the arrivals have no repeats

settles_arrivals : {p q : Picture} {t : ℕ} → Settles p t q → q.arrivals ≡ p.arrivals
settles_arrivals (no_master e) = refl
settles_arrivals (block_closes e z f o) = refl
settles_arrivals (master_ends e z o s) = settles_arrivals s
settles_arrivals (master_stays e n k) = refl

-- who is Running is not queued
not_queued : {p : Picture} (a : ℕ) → Sound p → status p a ≡ Running → Contains p.arrivals a → ⊥
not_queued a s e m = let q = s.arrived a m in let z = q.2 in cc

unique_step : {p q : Picture} {v : Event} {o : Outcome} → Sound p → Unique p.arrivals → Step p v o q → Unique q.arrivals
unique_step s u (begins r k m) = u
unique_step s u (opens r n) = u
unique_step s u (leaves r e o) = u
unique_step s u (waits_to_leave r e n) = u
unique_step s u (errs r b k d) = u
unique_step s u (meets r b k z i) = u
unique_step {p} s u (queues {a = a} r b k n₁ n₂ n₃) = unique_join p.arrivals a u (not_queued a s r.1)
unique_step {p} s u (takes {c = c} r o n k) = AllPairs-filter (λ x y. x ≢ y) (λ x. not (eqb x c)) p.arrivals u
unique_step s u (waits_to_accept r o n k) = u
unique_step s u (ends_rendezvous r i) = u
unique_step {p} s u (completes {a = a} r e n) = AllPairs-filter (λ x y. x ≢ y) (λ t. not (queued_at_server a (status p t))) p.arrivals u
unique_step {p} s u (ends {a = a} r e o k) = subst Unique (sym (settles_arrivals k)) (AllPairs-filter (λ x y. x ≢ y) (λ t. not (queued_at_server a (status p t))) p.arrivals u)

unique_steps : {p q : Picture} {vs : List Event} → Sound p → Unique p.arrivals → Steps p vs q → Unique q.arrivals
unique_steps s u none = u
unique_steps s u (more k r) = unique_steps (sound_step s k) (unique_step s u k) r

-- while a task is Running, one more can be queued
room_for_one : {p : Picture} (a : ℕ) → Sound p → Unique p.arrivals → status p a ≡ Running → length p.arrivals < most_tasks
room_for_one {p} a s u e =
    omega (arith, length_push p.arrivals a, few_below most_tasks (p.arrivals ++ (a ∷ [])) (unique_join p.arrivals a u (not_queued a s e)) small)
  where
    small : (t : ℕ) → Contains (p.arrivals ++ (a ∷ [])) t → t < most_tasks
    small t m = elim (Contains-push_cases p.arrivals a t m) [
      | inl h ↦ let q = s.arrived t h in let b = begun_as s t q.2 tt in omega (arith, b, s.few)
      | inr i ↦ let b = begun_as s a e tt in omega (arith, i, b, s.few)
    ]

pub line_room : {p : Picture} (a : ℕ) → IsReached p → status p a ≡ Running → length p.arrivals < most_tasks
line_room {p} a r e = ∥∥₁_elim r le_prop (λ x. room_for_one a (reached_sound p x) (unique_steps sound_fresh (λ i j d k l. omega arith) x.1) e)

-- ---- what a cascade leans on

pub elder_of : {p : Picture} → IsReached p → (d m l : ℕ) → Depends p d m l → m < d
elder_of {p} r d m l e = ∥∥₁_elim r le_prop (λ x. (reached_sound p x).elder d m l e)

block_prop : (fs : List Frame) (x y : BlockInnermost fs) → x ≡ y
block_prop [] x y = absurd x
block_prop (Block ∷ fs) x y = refl
block_prop (Rendezvous c e ∷ fs) x y = absurd x

pub leaving_block : {p : Picture} → IsReached p → (t : ℕ) → status p t ≡ Leaving → BlockInnermost (frames p t)
leaving_block {p} r t e = ∥∥₁_elim r (block_prop (frames p t)) (λ x. let h = leaving (reached_sound p x) t e in subst BlockInnermost (sym h.1) tt)
