-- A set stays closed when a task finishes, and its callers and masters are dealt with.
use Rattle.std.proofs.Common.{◌≡◌, ℕ, suc, ◌<◌, T, ◌≢◌, length, sym, refl, ap, ◌∙◌, subst}
use Rattle.rules.specs.Book.{Points}
use Rattle.rules.specs.Changes.{dismiss, let_go, mark, with_frames, with_status}
use Rattle.rules.specs.Picture.{Depends, frames, Picture, rendezvous_level, status}
use Rattle.rules.specs.Rules.{block_closes, master_ends, master_stays, no_master, Settles}
use Rattle.rules.specs.declared.vocabulary.Status.TheVariants.{Completed, Leaving, NotBegun, Queued, Running, Terminated}
use Rattle.rules.proofs.Basics.Queues.{dismiss_each, dismiss_frames, dismiss_master}
use Rattle.rules.proofs.Basics.Tasks.{at_each, put_master}
use Rattle.rules.proofs.NamedStayDead.Closed.{Closed, closed_kept, ended, Fate, same}
use Rattle.rules.proofs.NamedStayDead.Sways.{end_by, InRange, keeps_same, let_go_forth, live_by, live?, one_sways, over_ends, run_by, stays, Sway, Sways, sways_forth, turns}

-- the cascade
pub ended_closed : (p : Picture) (o : Points) → Closed p o → (m : ℕ) → T (o.ends m) → Closed (mark p m Terminated) o
ended_closed p o c m r = closed_kept p (mark p m Terminated) o c (keeps_same p (mark p m Terminated) o refl
    (put_master p m (with_status (p.task m) Terminated) refl)
    (λ x _. at_each (λ j w. Fate o j (p.task j) w) p.task m (with_status (p.task m) Terminated) (ended r refl) (λ j _. same refl refl) x)
    (λ x r k _. at_each (λ j w. rendezvous_level x w.frames ≡ rendezvous_level x (frames p j)) p.task m (with_status (p.task m) Terminated) refl (λ j _. refl) r))

pub settles_closed : (o : Points) {p q : Picture} {t : ℕ} → InRange p → Closed p o → Settles p t q → Closed q o
settles_closed o n c (no_master _) = c
settles_closed o n c (block_closes {p} {t} {m} {fs} _ e f over) =
    let b : m < p.begun = n m (λ k. cc) in
    let r : T (o.runs m) = run_by c m Leaving b e (λ d l h k. over_ends c m (suc (length fs)) over d
    (subst (Depends p d m) (h ∙ ap length f) k)) in
    let p' = let_go p m (suc (length fs)) in
    sways_forth (one_sways p' m (with_frames (with_status (p'.task m) Running) fs) p.arrivals o refl
    (turns r (live_by (status p m) Leaving e tt) tt) (λ x _ _. ap (rendezvous_level x) (sym f))) (let_go_forth m (suc (length fs)) over c)
settles_closed o n c (master_ends {p} {q} {t} {m} {l} _ e over rest) =
    let b : m < p.begun = n m (λ k. cc) in
    let r : T (o.ends m) = end_by c m Completed b e (λ d l _ k. over_ends c m l (over l) d k) in
    settles_closed o
    (at_each (λ j w. w.status ≢ NotBegun → j < p.begun) p.task m (with_status (p.task m) Terminated) (λ _. b) (λ j _. n j))
    (ended_closed p o c m r) rest
settles_closed o n c (master_stays _ _ _) = c

-- the callers queued at a server that finishes
pub dismiss_sways : (p : Picture) (o : Points) → InRange p → Closed p o → (a : ℕ) → T (o.runs a) → Sways p (dismiss p a) o
dismiss_sways p o n c a r = record {
  begun = refl;
  masters = dismiss_master p a;
  each = dismiss_each p a (λ x w. Sway o x (p.task x) w)
      (λ x e h. turns (run_by c x (Queued a e) (n x (λ k. cc)) h r) (live_by (status p x) (Queued a e) h tt) tt)
      (λ x _. stays refl refl);
  rendezvous = λ x r _ _. ap (rendezvous_level x) (dismiss_frames p a r);
}

dismiss_range : (p : Picture) → InRange p → (a : ℕ) → InRange (dismiss p a)
dismiss_range p n a = dismiss_each p a (λ x w. w.status ≢ NotBegun → x < p.begun) (λ x e h _. n x (λ k. cc)) (λ x _. n x)

pub finish_range : (p : Picture) → InRange p → (a : ℕ) → a < p.begun → InRange (mark (dismiss p a) a Terminated)
finish_range p n a b = at_each (λ j w. w.status ≢ NotBegun → j < p.begun) (dismiss p a).task a (with_status ((dismiss p a).task a) Terminated)
    (λ _. b) (λ j _. dismiss_range p n a j)

pub finish_live : (p : Picture) (a : ℕ) → status p a ≡ Running → T (live? ((dismiss p a).task a).status)
finish_live p a e = dismiss_each p a (λ x w. status p x ≡ Running → T (live? w.status)) (λ _ _ _ _. tt) (λ x _ h. live_by (status p x) Running h tt) a e

pub settles_begun : {p q : Picture} {t : ℕ} → Settles p t q → q.begun ≡ p.begun
settles_begun (no_master _) = refl
settles_begun (block_closes _ _ _ _) = refl
settles_begun (master_ends _ _ _ rest) = settles_begun rest
settles_begun (master_stays _ _ _) = refl
