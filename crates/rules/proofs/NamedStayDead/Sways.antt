-- Two pictures between which each task is as it was, or can run anyhow, have the same closed sets. Most events make such a change.
use Rattle.std.proofs.Common.{◌≡◌, ℕ, ◌<◌, Bool, true, false, T, ◌≢◌, List, ◌∷◌, sym, refl, ap, ◌∙◌, subst, inl, inr, arith}
use Rattle.rules.specs.Book.Phase.{has_completed, has_terminated, unbegun, under_way}
use Rattle.rules.specs.Book.{CanEndWith, CanRunWith, Phase, phase, Points}
use Rattle.rules.specs.Changes.{engage, leave_queue, let_go, mark, part, turn, with_frames, with_status}
use Rattle.rules.specs.Limits.{most_tasks}
use Rattle.rules.specs.Picture.{at, Depends, frames, Over, Picture, rendezvous_level, status, Task}
use Rattle.rules.specs.Rules.{Acts}
use Rattle.rules.specs.declared.vocabulary.Frame.{Frame}
use Rattle.rules.specs.declared.vocabulary.Frame.TheVariants.{Rendezvous}
use Rattle.rules.specs.declared.vocabulary.Status.{Status}
use Rattle.rules.specs.declared.vocabulary.Status.TheVariants.{Accepting, Engaged, NotBegun, Queued, Running, Terminated}
use Rattle.rules.proofs.Basics.Frames.{rendezvous_there}
use Rattle.rules.proofs.Basics.Masters.{free_back, free_on}
use Rattle.rules.proofs.Basics.Tasks.{at_each, at_same, put_master}
use Rattle.rules.proofs.Invariant.Sound.{begun_of, Sound}
use Rattle.rules.proofs.NamedStayDead.Closed.{Closed, closed_kept, Fate, Keeps, same, woken}

-- whoever is not NotBegun has begun
abbrev pub InRange : Picture → Type 0
InRange p = (t : ℕ) → status p t ≢ NotBegun → t < p.begun

pub in_range : (p : Picture) → Sound p → InRange p
in_range p h t n = begun_of h t n

pub run_by : {p : Picture} {o : Points} → Closed p o → (x : ℕ) (st : Status) → x < p.begun → status p x ≡ st → CanRunWith p o x st → T (o.runs x)
run_by {p} {o} c x st b e h = c.runs x (b, subst (CanRunWith p o x) (sym e) h)

pub end_by : {p : Picture} {o : Points} → Closed p o → (x : ℕ) (st : Status) → x < p.begun → status p x ≡ st → CanEndWith p o x st → T (o.ends x)
end_by {p} {o} c x st b e h = c.ends x (b, subst (CanEndWith p o x) (sym e) h)

pub acts_runs : {p : Picture} {o : Points} → Closed p o → (a : ℕ) → Acts p a → T (o.runs a)
acts_runs c a acts = run_by c a Running acts.0 acts.1 tt

-- whoever acts is within the limit of tasks
pub acts_few : {p : Picture} {a : ℕ} → Sound p → Acts p a → a < most_tasks
acts_few k acts = let b = k.few in let h = acts.0 in omega arith

-- the dependents of a block that is over can end
pub over_ends : {p : Picture} {o : Points} → Closed p o → (m l : ℕ) → Over p m l → (d : ℕ) → Depends p d m l → T (o.ends d)
over_ends c m l over d k = end_by c d Terminated k.0 (over d k) tt

-- neither not begun nor Terminated
abbrev pub lives : Phase → Bool
lives unbegun = false
lives under_way = true
lives has_completed = true
lives has_terminated = false

abbrev pub live? : Status → Bool
live? s = lives (phase s)

pub live_by : (u v : Status) → u ≡ v → T (live? v) → T (live? u)
live_by u v e h = subst (λ w. T (live? w)) (sym e) h

-- a task before and after: as it was, or it can run anyhow
pub data Sway (o : Points) (x : ℕ) (u v : Task) : Type 0 where
  stays : v.status ≡ u.status → v.frames ≡ u.frames → Sway o x u v
  turns : T (o.runs x) → T (live? u.status) → T (live? v.status) → Sway o x u v

sway_fate : {o : Points} {x : ℕ} {u v : Task} → Sway o x u v → Fate o x u v
sway_fate (stays e f) = same e f
sway_fate (turns r a b) = woken r (λ e. subst (λ w. T (lives w)) e a) (λ e. subst (λ w. T (lives w)) e b)

sway_back : {o : Points} {x : ℕ} {u v : Task} → Sway o x u v → Sway o x v u
sway_back (stays e f) = stays (sym e) (sym f)
sway_back (turns r a b) = turns r b a

-- two pictures with the same tasks, in which each task sways at most
pub record Sways (p q : Picture) (o : Points) : Type 0 where
  pub begun : q.begun ≡ p.begun
  pub masters : (d : ℕ) → (q.task d).master ≡ (p.task d).master
  pub each : (x : ℕ) → Sway o x (p.task x) (q.task x)
  pub rendezvous : (x r : ℕ) → status p x ≡ Engaged r → status q x ≡ Engaged r → rendezvous_level x (frames q r) ≡ rendezvous_level x (frames p r)

pub keeps_same : (p q : Picture) (o : Points) → q.begun ≡ p.begun → ((d : ℕ) → (q.task d).master ≡ (p.task d).master)
    → ((x : ℕ) → x < p.begun → Fate o x (p.task x) (q.task x))
    → ((x r : ℕ) → status p x ≡ Engaged r → status q x ≡ Engaged r → rendezvous_level x (frames q r) ≡ rendezvous_level x (frames p r)) → Keeps p q o
keeps_same p q o b ms fs es = record {
  early = λ x h. inl (subst (λ n. x < n) b h);
  grows = λ d m l k. inr (subst (λ n. d < n) (sym b) k.0, ms d ∙ k.1);
  fates = fs;
  rendezvous = es;
}

pub sways_forth : {p q : Picture} {o : Points} → Sways p q o → Closed p o → Closed q o
sways_forth {p} {q} {o} w c = closed_kept p q o c (keeps_same p q o w.begun w.masters (λ x _. sway_fate (w.each x)) w.rendezvous)

pub sways_back : {p q : Picture} {o : Points} → Sways p q o → Closed q o → Closed p o
sways_back {p} {q} {o} w c = closed_kept q p o c (keeps_same q p o (sym w.begun) (λ d. sym (w.masters d))
    (λ x _. sway_fate (sway_back (w.each x))) (λ x r a b. sym (w.rendezvous x r b a)))

-- one task is put anew
abbrev one_put : Picture → ℕ → Task → List ℕ → Picture
one_put p i u xs = record { begun = p.begun; task = at p.task i u; arrivals = xs }

pub one_sways : (p : Picture) (i : ℕ) (u : Task) (xs : List ℕ) (o : Points) → u.master ≡ (p.task i).master
    → Sway o i (p.task i) u
    → ((x r : ℕ) → status p x ≡ Engaged r → rendezvous_level x u.frames ≡ rendezvous_level x (frames p i)) → Sways p (one_put p i u xs) o
one_sways p i u xs o m f e = record {
  begun = refl;
  masters = put_master p i u m;
  each = at_each (λ j w. Sway o j (p.task j) w) p.task i u f (λ j _. stays refl refl);
  rendezvous = λ x r k _. at_each (λ j w. rendezvous_level x w.frames ≡ rendezvous_level x (frames p j)) p.task i u (e x r k) (λ j _. refl) r;
}

-- two tasks are put anew, the second over the first
abbrev two_put : Picture → ℕ → Task → ℕ → Task → List ℕ → Picture
two_put p i u j v xs = record { begun = p.begun; task = at (at p.task i u) j v; arrivals = xs }

two_sways : (p : Picture) (i : ℕ) (u : Task) (j : ℕ) (v : Task) (xs : List ℕ) (o : Points)
    → u.master ≡ (p.task i).master → v.master ≡ (at p.task i u j).master
    → Sway o i (p.task i) u → Sway o j (p.task j) v
    → ((x r : ℕ) → status p x ≡ Engaged r → status (two_put p i u j v xs) x ≡ Engaged r
    → (rendezvous_level x u.frames ≡ rendezvous_level x (frames p i)) × (rendezvous_level x v.frames ≡ rendezvous_level x (frames p j)))
    → Sways p (two_put p i u j v xs) o
two_sways p i u j v xs o m n f g e = record {
  begun = refl;
  masters = at_each (λ k w. w.master ≡ (p.task k).master) (at p.task i u) j v (n ∙ put_master p i u m j) (λ k _. put_master p i u m k);
  each = at_each (λ k w. Sway o k (p.task k) w) (at p.task i u) j v g
      (λ k _. at_each (λ k w. Sway o k (p.task k) w) p.task i u f (λ h _. stays refl refl) k);
  rendezvous = λ x r a b. at_each (λ k w. rendezvous_level x w.frames ≡ rendezvous_level x (frames p k)) (at p.task i u) j v (e x r a b).1
      (λ k _. at_each (λ k w. rendezvous_level x w.frames ≡ rendezvous_level x (frames p k)) p.task i u (e x r a b).0 (λ h _. refl) k) r;
}

-- what the events do to the tasks, given who can run
pub mark_sways : (p : Picture) (o : Points) (a : ℕ) (st : Status) (xs : List ℕ) → T (live? (status p a)) → T (live? st) → T (o.runs a)
    → Sways p (one_put p a (with_status (p.task a) st) xs) o
mark_sways p o a st xs u v r = one_sways p a (with_status (p.task a) st) xs o refl (turns r u v) (λ x _ _. refl)

pub turn_sways : (p : Picture) (o : Points) (a : ℕ) (st : Status) (fs : List Frame) → T (live? (status p a)) → T (live? st) → T (o.runs a)
    → ((x : ℕ) → rendezvous_level x fs ≡ rendezvous_level x (frames p a)) → Sways p (turn p a st fs) o
turn_sways p o a st fs u v r f = one_sways p a (with_frames (with_status (p.task a) st) fs) p.arrivals o refl (turns r u v) (λ x _ _. f x)

pub meets_sways : (p : Picture) (o : Points) (a s e mask : ℕ) → status p a ≡ Running → status p s ≡ Accepting mask → T (o.runs a) → T (o.runs s)
    → Sways p (engage p a s e) o
meets_sways p o a s e mask f g r h =
    two_sways p a (with_status (p.task a) (Engaged s)) s
    (with_frames (with_status ((mark p a (Engaged s)).task s) Running) (Rendezvous a e ∷ frames p s)) p.arrivals o refl refl
    (turns r (live_by (status p a) Running f tt) tt) (turns h (live_by (status p s) (Accepting mask) g tt) tt)
    (λ x r k _. (refl, rendezvous_there x a e (frames p s) (λ i. cc)))

pub takes_sways : (p : Picture) (o : Points) (a c e : ℕ) → status p a ≡ Running → status p c ≡ Queued a e → T (o.runs a) → T (o.runs c)
    → Sways p (engage (leave_queue p c) c a e) o
takes_sways p o a c e f g r h =
    two_sways p c (with_status (p.task c) (Engaged a)) a
    (with_frames (with_status ((mark (leave_queue p c) c (Engaged a)).task a) Running) (Rendezvous c e ∷ frames p a)) (leave_queue p c).arrivals o refl refl
    (turns h (live_by (status p c) (Queued a e) g tt) tt) (turns r (live_by (status p a) Running f tt) tt)
    (λ x r k _. (refl, rendezvous_there x c e (frames p a) (λ i. cc)))

pub ends_rendezvous_sways : (p : Picture) (o : Points) (a c e : ℕ) (fs : List Frame) → status p a ≡ Running → status p c ≡ Engaged a
    → frames p a ≡ Rendezvous c e ∷ fs → T (o.runs a) → T (o.runs c)
    → Sways p (part p a c fs) o
ends_rendezvous_sways p o a c e fs f g h r k =
    two_sways p a (with_frames (with_status (p.task a) Running) fs) c (with_status ((turn p a Running fs).task c) Running) p.arrivals o refl refl
    (turns r (live_by (status p a) Running f tt) tt) (turns k (live_by (status p c) (Engaged a) g tt) tt) apart
  where
    q : Picture
    q = part p a c fs

    other : (x r : ℕ) → status q x ≡ Engaged r → c ≢ x
    other x r m i =
        let j : status q c ≡ Running = ap (λ (t : Task). t.status) (at_same (turn p a Running fs).task c (with_status ((turn p a Running fs).task c) Running)) in
        let l : status q c ≡ Engaged r = ap (status q) i ∙ m in cc

    apart : (x r : ℕ) → status p x ≡ Engaged r → status q x ≡ Engaged r
        → (rendezvous_level x fs ≡ rendezvous_level x (frames p a)) × (rendezvous_level x ((turn p a Running fs).task c).frames ≡ rendezvous_level x (frames p c))
    apart x r _ m =
        let i : rendezvous_level x fs ≡ rendezvous_level x (frames p a) = sym (ap (rendezvous_level x) h ∙ rendezvous_there x c e fs (other x r m)) in
        (i, at_each (λ k w. rendezvous_level x w.frames ≡ rendezvous_level x (frames p k)) p.task a (with_frames (with_status (p.task a) Running) fs) i (λ _ _. refl) c)

-- the dependents of a block that closes are let go: they are Terminated, and can end anyhow
pub let_go_forth : {p : Picture} {o : Points} (m l : ℕ) → Over p m l → Closed p o → Closed (let_go p m l) o
let_go_forth {p} {o} m l over c = closed_kept p (let_go p m l) o c (record {
  early = λ x h. inl h;
  grows = λ d n j k. elim (free_on p m l over d n j k) [ inl e ↦ inl (end_by c d Terminated k.0 e tt) | inr h ↦ inr h ];
  fates = λ x _. same refl refl;
  rendezvous = λ x r _ _. refl;
})

pub let_go_back : {p : Picture} {o : Points} (m l : ℕ) → Over p m l → Closed (let_go p m l) o → Closed p o
let_go_back {p} {o} m l over c = closed_kept (let_go p m l) p o c (record {
  early = λ x h. inl h;
  grows = λ d n j k. elim (free_back p m l over d n j k) [ inl e ↦ inl (end_by c d Terminated k.0 e tt) | inr h ↦ inr h ];
  fates = λ x _. same refl refl;
  rendezvous = λ x r _ _. refl;
})
