-- A shut set stays shut through every event, less the points of a task that begins; and where the actor can run afterwards, a set that is shut after was shut before.
use Rattle.std.proofs.Common.{◌≡◌, ℕ, suc, ◌<◌, ◌≤◌, false, T, ◌≢◌, ◌⊎◌, List, ◌∷◌, length, sym, refl, ap, ◌∙◌, subst, inl, inr, arith}
use Rattle.std.proofs.lemmas.Bool.{cases_lt}
use Rattle.rules.specs.Book.{outside, Points, Shut}
use Rattle.rules.specs.Changes.{birth, dismiss, join, leave_queue, let_go, mark, new_task, turn, with_frames, with_status}
use Rattle.rules.specs.Picture.{Depends, frames, Picture, rendezvous_level, status, Task}
use Rattle.rules.specs.Rules.{begins, completes, ends, ends_rendezvous, errs, leaves, meets, opens, queues, Step, takes, waits_to_accept, waits_to_leave}
use Rattle.rules.specs.declared.vocabulary.Action.TheVariants.{Finish}
use Rattle.rules.specs.declared.vocabulary.Event.{Event}
use Rattle.rules.specs.declared.vocabulary.Frame.{Frame}
use Rattle.rules.specs.declared.vocabulary.Frame.TheVariants.{Block, Rendezvous}
use Rattle.rules.specs.declared.vocabulary.Outcome.{Outcome}
use Rattle.rules.specs.declared.vocabulary.Outcome.TheVariants.{Terminated as Ended, Waits}
use Rattle.rules.specs.declared.vocabulary.Status.TheVariants.{Accepting, Completed, Engaged, Leaving, Queued, Running}
use Rattle.rules.proofs.Basics.Frames.{rendezvous_here, stands_low}
use Rattle.rules.proofs.Basics.Queues.{taken}
use Rattle.rules.proofs.Basics.Tasks.{at_other, frames_same, status_same, status_under}
use Rattle.rules.proofs.Invariant.Sound.{framed_here, Sound}
use Rattle.rules.proofs.NamedStayDead.Begin.{birth_back, birth_keeps, drop_points, fewer, out_here, widened}
use Rattle.rules.proofs.NamedStayDead.Closed.{Closed, closed_kept, closed_outside, shut_inside}
use Rattle.rules.proofs.NamedStayDead.Finish.{dismiss_sways, ended_closed, finish_live, finish_range, settles_begun, settles_closed}
use Rattle.rules.proofs.NamedStayDead.Sways.{acts_few, acts_runs, end_by, ends_rendezvous_sways, in_range, let_go_back, let_go_forth, live_by, mark_sways, meets_sways, over_ends, run_by, sways_back, sways_forth, takes_sways, turn_sways}

-- nobody depends on a level above the open frames
deep_none : {p : Picture} → Sound p → (m n : ℕ) → length (frames p m) ≤ n → (d l : ℕ) → n < l → Depends p d m l → ⊥
deep_none {p} s m n b d l h k = elim (s.attached d m l k) [
  | inl e ↦ omega arith
  | inr i ↦ (let j = stands_low (frames p m) l Block i in omega arith)
]

-- whoever stands in the innermost rendezvous of a server that can run can run
engaged_runs : {p : Picture} {o : Points} → Sound p → Closed p o → (c a e : ℕ) (fs : List Frame) → c < p.begun
    → status p c ≡ Engaged a → frames p a ≡ Rendezvous c e ∷ fs → T (o.runs a) → T (o.runs c)
engaged_runs {p} {o} s k c a e fs b h f r = run_by k c (Engaged a) b h (
  r,
  λ d l n i. absurd (deep_none s a (rendezvous_level c (frames p a))
      (let i = ap (rendezvous_level c) f ∙ rendezvous_here c e fs in let j = ap length f in omega arith) d l n i),
)

closed_step : {p q : Picture} {v : Event} {n : Outcome} (s : Points) → Sound p → Closed p (outside s) → Step p v n q → Closed q (outside (fewer v s))
closed_step s k c (begins {p} {a} {n} acts _ _) =
    closed_kept p (birth p a n) (outside (drop_points p.begun s)) (widened p s a k acts c)
    (birth_keeps p a n k (outside (drop_points p.begun s)) (out_here s.runs p.begun) (out_here s.ends p.begun))
closed_step s k c (opens {p} {a} acts _) =
    sways_forth (turn_sways p (outside s) a Running (Block ∷ frames p a) (live_by (status p a) Running acts.1 tt) tt (acts_runs c a acts) (λ x. refl)) c
closed_step s k c (leaves {p} {a} {fs} acts f over) =
    sways_forth (turn_sways (let_go p a (suc (length fs))) (outside s) a Running fs (live_by (status p a) Running acts.1 tt) tt (acts_runs c a acts) (λ x. ap (rendezvous_level x) (sym f)))
    (let_go_forth a (suc (length fs)) over c)
closed_step s k c (waits_to_leave {p} {a} acts _ _) =
    sways_forth (mark_sways p (outside s) a Leaving p.arrivals (live_by (status p a) Running acts.1 tt) tt (acts_runs c a acts)) c
closed_step s k c (errs _ _ _ _) = c
closed_step s k c (meets {p} {a} {s = b} {e} {mask} acts h _ g _) =
    sways_forth (meets_sways p (outside s) a b e mask acts.1 g (acts_runs c a acts)
    (run_by c b (Accepting mask) h g (a, acts_few k acts, (λ i. let j = acts.1 in cc), acts_runs c a acts))) c
closed_step s k c (queues {p} {a} {s = b} {e} acts _ _ _ _ _) =
    sways_forth (mark_sways p (outside s) a (Queued b e) (join p a b e).arrivals (live_by (status p a) Running acts.1 tt) tt (acts_runs c a acts)) c
closed_step s k c (takes {p} {a} {mask} {c = b} {e} acts _ _ h) =
    let g = taken p a mask b e h in
    sways_forth (takes_sways p (outside s) a b e acts.1 g (acts_runs c a acts)
    (run_by c b (Queued a e) (in_range p k b (λ i. cc)) g (acts_runs c a acts))) c
closed_step s k c (waits_to_accept {p} {a} {mask} acts _ _ _) =
    sways_forth (mark_sways p (outside s) a (Accepting mask) p.arrivals (live_by (status p a) Running acts.1 tt) tt (acts_runs c a acts)) c
closed_step s k c (ends_rendezvous {p} {a} {c = b} {e} {fs} acts f) =
    let g = framed_here k a b e fs f in
    sways_forth (ends_rendezvous_sways p (outside s) a b e fs acts.1 g f (acts_runs c a acts)
    (engaged_runs k c b a e fs (in_range p k b (λ i. cc)) g f (acts_runs c a acts))) c
closed_step s k c (completes {p} {a} acts _ _) =
    sways_forth (mark_sways (dismiss p a) (outside s) a Completed (dismiss p a).arrivals (finish_live p a acts.1) tt (acts_runs c a acts))
    (sways_forth (dismiss_sways p (outside s) (in_range p k) c a (acts_runs c a acts)) c)
closed_step s k c (ends {p} {q} {a} acts _ over rest) =
    let r : T ((outside s).ends a) = end_by c a Running acts.0 acts.1 (acts_runs c a acts, λ d l _ h. over_ends c a l (over l) d h) in
    settles_closed (outside s) (finish_range p (in_range p k) a acts.0)
    (ended_closed (dismiss p a) (outside s) (sways_forth (dismiss_sways p (outside s) (in_range p k) c a (acts_runs c a acts)) c) a r) rest

pub shut_step : {p q : Picture} {v : Event} {n : Outcome} (s : Points) → Sound p → Shut p s → Step p v n q → Shut q (fewer v s)
shut_step {q = q} {v} s k h t = shut_inside q (fewer v s) (closed_step s k (closed_outside h) t)

-- an outcome of 0, 2 or 3
abbrev pub GoesOnAfter : Outcome → Type 0
GoesOnAfter o = (o ≢ Waits) × (o ≢ Ended)

-- whoever acts with such an outcome can run afterwards
actor_runs : {p q : Picture} {v : Event} {n : Outcome} (o : Points) → Sound p → Sound q → Step p v n q → GoesOnAfter n → Closed q o → T (o.runs v.actor)
actor_runs o k l (begins {p} {a} {n} acts _ _) g c =
    let b = acts.0 in
    run_by c a Running (omega arith) (ap (λ (t : Task). t.status) (at_other p.task p.begun (new_task p a n) a (λ e. omega arith)) ∙ acts.1) tt
actor_runs o k l (opens {p} {a} acts _) g c =
    run_by c a Running acts.0 (status_same p.task a (with_frames (with_status (p.task a) Running) (Block ∷ frames p a))) tt
actor_runs o k l (leaves {p} {a} {fs} acts _ _) g c =
    let p' = let_go p a (suc (length fs)) in
    run_by c a Running acts.0 (status_same p'.task a (with_frames (with_status (p'.task a) Running) fs)) tt
actor_runs o k l (waits_to_leave _ _ _) g c = absurd (g.0 refl)
actor_runs o k l (errs {p} {a} acts _ _ _) g c = acts_runs c a acts
actor_runs o k l (meets {p} {a} {s} {e} acts h _ i _) g c =
    let u = with_status (p.task a) (Engaged s) in
    let v = with_frames (with_status ((mark p a (Engaged s)).task s) Running) (Rendezvous a e ∷ frames p s) in
    engaged_runs l c a s e (frames p s) acts.0
    (status_under p.task a s u v (λ j. let m = acts.1 in cc)) (frames_same (mark p a (Engaged s)).task s v)
    (run_by c s Running h (status_same (mark p a (Engaged s)).task s v) tt)
actor_runs o k l (queues _ _ _ _ _ _) g c = absurd (g.0 refl)
actor_runs o k l (takes {p} {a} {c = b} {e} acts _ _ _) g c =
    let w = (mark (leave_queue p b) b (Engaged a)).task in
    run_by c a Running acts.0 (status_same w a (with_frames (with_status (w a) Running) (Rendezvous b e ∷ frames p a))) tt
actor_runs o k l (waits_to_accept _ _ _ _) g c = absurd (g.0 refl)
actor_runs o k l (ends_rendezvous {p} {a} {c = b} {e} {fs} acts f) g c =
    let i = framed_here k a b e fs f in
    let u = with_frames (with_status (p.task a) Running) fs in
    let v = with_status ((turn p a Running fs).task b) Running in
    run_by c a Running acts.0 (status_under p.task a b u v (λ j. let m = acts.1 in cc)) tt
actor_runs o k l (completes _ _ _) g c = absurd (g.0 refl)
actor_runs o k l (ends _ _ _ _) g c = absurd (g.1 refl)

-- where the actor has not finished, and can run afterwards, nothing else that could run before depends on what has changed
closed_back : {p q : Picture} {v : Event} {n : Outcome} (o : Points) → Sound p → Sound q → Step p v n q → v.action ≢ Finish → T (o.runs v.actor)
    → Closed q o → Closed p o
closed_back o k l (begins {p} {a} {n} acts _ _) g r c = closed_kept (birth p a n) p o c (birth_back p a n k o l c)
closed_back o k l (opens {p} {a} acts _) g r c =
    sways_back (turn_sways p o a Running (Block ∷ frames p a) (live_by (status p a) Running acts.1 tt) tt r (λ x. refl)) c
closed_back o k l (leaves {p} {a} {fs} acts f over) g r c =
    let_go_back a (suc (length fs)) over
    (sways_back (turn_sways (let_go p a (suc (length fs))) o a Running fs (live_by (status p a) Running acts.1 tt) tt r (λ x. ap (rendezvous_level x) (sym f))) c)
closed_back o k l (waits_to_leave {p} {a} acts _ _) g r c =
    sways_back (mark_sways p o a Leaving p.arrivals (live_by (status p a) Running acts.1 tt) tt r) c
closed_back o k l (errs _ _ _ _) g r c = c
closed_back o k l (meets {p} {a} {s} {e} {mask} acts h _ i _) g r c =
    let v = with_frames (with_status ((mark p a (Engaged s)).task s) Running) (Rendezvous a e ∷ frames p s) in
    sways_back (meets_sways p o a s e mask acts.1 i r (run_by c s Running h (status_same (mark p a (Engaged s)).task s v) tt)) c
closed_back o k l (queues {p} {a} {s} {e} acts _ _ _ _ _) g r c =
    sways_back (mark_sways p o a (Queued s e) (join p a s e).arrivals (live_by (status p a) Running acts.1 tt) tt r) c
closed_back o k l (takes {p} {a} {mask} {c = b} {e} acts _ _ h) g r c =
    let i = taken p a mask b e h in
    let u = with_status (p.task b) (Engaged a) in
    let w = (mark (leave_queue p b) b (Engaged a)).task in
    let v = with_frames (with_status (w a) Running) (Rendezvous b e ∷ frames p a) in
    let rb : T (o.runs b) = engaged_runs l c b a e (frames p a) (in_range p k b (λ j. cc i))
    (status_under p.task b a u v (λ j. let m = acts.1 in cc)) (frames_same w a v) r in
    sways_back (takes_sways p o a b e acts.1 i r rb) c
closed_back o k l (waits_to_accept {p} {a} {mask} acts _ _ _) g r c =
    sways_back (mark_sways p o a (Accepting mask) p.arrivals (live_by (status p a) Running acts.1 tt) tt r) c
closed_back o k l (ends_rendezvous {p} {a} {c = b} {e} {fs} acts f) g r c =
    let i = framed_here k a b e fs f in
    let v = with_status ((turn p a Running fs).task b) Running in
    let rb : T (o.runs b) = run_by c b Running (in_range p k b (λ j. cc i)) (status_same (turn p a Running fs).task b v) tt in
    sways_back (ends_rendezvous_sways p o a b e fs acts.1 i f r rb) c
closed_back o k l (completes _ _ _) g r c = absurd (g refl)
closed_back o k l (ends _ _ _ _) g r c = absurd (g refl)

-- an event with such an outcome does not finish its actor
not_finished : {p q : Picture} {v : Event} {n : Outcome} → Step p v n q → GoesOnAfter n → v.action ≢ Finish
not_finished (begins _ _ _) g e = (cc)
not_finished (opens _ _) g e = (cc)
not_finished (leaves _ _ _) g e = (cc)
not_finished (waits_to_leave _ _ _) g e = (cc)
not_finished (errs _ _ _ _) g e = (cc)
not_finished (meets _ _ _ _ _) g e = (cc)
not_finished (queues _ _ _ _ _ _) g e = (cc)
not_finished (takes _ _ _ _) g e = (cc)
not_finished (waits_to_accept _ _ _ _) g e = (cc)
not_finished (ends_rendezvous _ _) g e = (cc)
not_finished (completes _ _ _) g e = g.0 refl
not_finished (ends _ _ _ _) g e = g.1 refl

pub shut_back : {p q : Picture} {v : Event} {n : Outcome} (s : Points) → Sound p → Sound q → Step p v n q → v.action ≢ Finish → T ((outside s).runs v.actor)
    → Shut q s → Shut p s
shut_back {p} s k l t g r h = shut_inside p s (closed_back (outside s) k l t g r (closed_outside h))

pub shut_back_going_on : {p q : Picture} {v : Event} {n : Outcome} (s : Points) → Sound p → Sound q → Step p v n q → GoesOnAfter n → Shut q s → Shut p s
shut_back_going_on s k l t g h = shut_back s k l t (not_finished t g) (actor_runs (outside s) k l t g (closed_outside h)) h

-- a task that has begun keeps its points, and is a task afterwards
pub record Lasts (q : Picture) (v : Event) (s : Points) (t : ℕ) : Type 0 where
  pub begun : t < q.begun
  pub runs : T (s.runs t) → T ((fewer v s).runs t)
  pub ends : T (s.ends t) → T ((fewer v s).ends t)

pub lasts : {p q : Picture} {v : Event} {n : Outcome} (s : Points) (t : ℕ) → Step p v n q → t < p.begun → Lasts q v s t
lasts s t (begins {p} {a} {n} _ _ _) b = record {
  begun = omega arith;
  runs = λ h. subst T (sym (at_other s.runs p.begun false t (λ e. omega arith))) h;
  ends = λ h. subst T (sym (at_other s.ends p.begun false t (λ e. omega arith))) h;
}
lasts s t (opens _ _) b = record { begun = b; runs = λ h. h; ends = λ h. h }
lasts s t (leaves _ _ _) b = record { begun = b; runs = λ h. h; ends = λ h. h }
lasts s t (waits_to_leave _ _ _) b = record { begun = b; runs = λ h. h; ends = λ h. h }
lasts s t (errs _ _ _ _) b = record { begun = b; runs = λ h. h; ends = λ h. h }
lasts s t (meets _ _ _ _ _) b = record { begun = b; runs = λ h. h; ends = λ h. h }
lasts s t (queues _ _ _ _ _ _) b = record { begun = b; runs = λ h. h; ends = λ h. h }
lasts s t (takes _ _ _ _) b = record { begun = b; runs = λ h. h; ends = λ h. h }
lasts s t (waits_to_accept _ _ _ _) b = record { begun = b; runs = λ h. h; ends = λ h. h }
lasts s t (ends_rendezvous _ _) b = record { begun = b; runs = λ h. h; ends = λ h. h }
lasts s t (completes _ _ _) b = record { begun = b; runs = λ h. h; ends = λ h. h }
lasts s t (ends _ _ _ rest) b = record { begun = subst (λ n. t < n) (sym (settles_begun rest)) b; runs = λ h. h; ends = λ h. h }

-- a task of the picture after was one before, or has just begun and is Running
pub newest : {p q : Picture} {v : Event} {n : Outcome} (t : ℕ) → Step p v n q → t < q.begun → (t < p.begun) ⊎ (status q t ≡ Running)
newest t (begins {p} {a} {n} _ _ _) b = elim (cases_lt t p.begun) [
  | inl l ↦ inl l
  | inr l ↦ let i : p.begun ≡ t = omega arith in inr (subst (λ y. status (birth p a n) y ≡ Running) i (status_same p.task p.begun (new_task p a n)))
]
newest t (opens _ _) b = inl b
newest t (leaves _ _ _) b = inl b
newest t (waits_to_leave _ _ _) b = inl b
newest t (errs _ _ _ _) b = inl b
newest t (meets _ _ _ _ _) b = inl b
newest t (queues _ _ _ _ _ _) b = inl b
newest t (takes _ _ _ _) b = inl b
newest t (waits_to_accept _ _ _ _) b = inl b
newest t (ends_rendezvous _ _) b = inl b
newest t (completes _ _ _) b = inl b
newest t (ends _ _ _ rest) b = inl (subst (λ n. t < n) (settles_begun rest) b)
