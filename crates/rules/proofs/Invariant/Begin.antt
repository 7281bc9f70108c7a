-- The invariant is kept when a task begins; and the first picture has it.
use Rattle.std.proofs.Common.{◌≡◌, ℕ, suc, ◌<◌, ◌≤◌, ◌≢◌, ◌⊎◌, [], sym, refl, ap, ◌∙◌, subst, inl, inr, arith}
use Rattle.rules.specs.Changes.{new_task, with_status}
use Rattle.rules.specs.Limits.{most_entries, most_tasks}
use Rattle.rules.specs.Picture.{at, Depends, frames, fresh, innermost_block, Over, Picture, status, Task, unborn, under}
use Rattle.rules.specs.Rules.{Acts}
use Rattle.rules.specs.declared.vocabulary.Frame.TheVariants.{Block, Rendezvous}
use Rattle.rules.specs.declared.vocabulary.Status.TheVariants.{Completed, Engaged, NotBegun, Queued, Running, Terminated}
use Rattle.rules.proofs.Basics.Frames.{innermost_stands, Stands}
use Rattle.rules.proofs.Basics.Limits.{some_tasks}
use Rattle.rules.proofs.Basics.Masters.{same_master}
use Rattle.rules.proofs.Basics.Tasks.{at_each, at_other}
use Rattle.rules.proofs.Invariant.Change.{Env, stat_keep}
use Rattle.rules.proofs.Invariant.Good.{Framed, no_excuse, not_begun, StatOf}
use Rattle.rules.proofs.Invariant.Sound.{Sound}

module _ (p : Picture) (g : Sound p) (a n : ℕ) (r : Acts p a) (room : p.begun < most_tasks) (m : n ≤ most_entries) where
  abbrev u : Task
  u = new_task p a n

  abbrev f : ℕ → Task
  f = at p.task p.begun u

  abbrev q : Picture
  q = record { begun = suc p.begun; task = f; arrivals = p.arrivals }

  unborn_yet : status p p.begun ≡ NotBegun
  unborn_yet = (not_begun g p.begun (omega arith)).0

  old : (t : ℕ) → t < p.begun → f t ≡ p.task t
  old t h = at_other p.task p.begun u t (omega arith)

  old_over : (t l : ℕ) → Over q t l → Over p t l
  old_over t l o d (h, e) = let k = old d h in sym (ap (λ w. w.status) k) ∙ o d (omega arith, ap (λ w. w.master) k ∙ e)

  -- the new task depends on a alone
  new_over : (t l : ℕ) → a ≢ t → Over p t l → Over q t l
  new_over t l n o d (h, e) = at_each (λ d w. d < suc p.begun → w.master ≡ under t l → w.status ≡ Terminated) p.task p.begun u
      (λ _ z. absurd (n (same_master u.master a (innermost_block (frames p a)) t l refl z).0))
      (λ d k i z. o d (omega arith, z)) d h e

  env : (t : ℕ) → p.begun ≢ t → Env p q no_excuse no_excuse t
  env t k = record {
    is_in = λ h. omega arith;
    is_out = λ _ h. omega arith;
    waiting = λ s e z w. let i = old s w.begun in let j = w.begun in record {
      begun = omega arith;
      entry = subst (λ x. e < x.entries) (sym i) w.entry;
      open₁ = subst (λ x. x.status ≢ Completed) (sym i) w.open₁;
      open₂ = subst (λ x. x.status ≢ Terminated) (sym i) w.open₂;
      arrived = w.arrived;
    };
    hosted = λ s z h. let i = old s h.0 in let j = h.0 in (
      omega arith,
      (
        h.1.0,
        h.1.1,
        subst (λ x. Stands x.frames h.1.0 (Rendezvous t h.1.1)) (sym i) h.1.2,
      ),
    );
    back = λ l _ o. ((λ x. x), old_over t l o);
    on = λ z o l. new_over t l (λ x. let y = ap (status p) x in let w = r.1 in cc) (o l);
  }

  framed_kept : (t : ℕ) → Framed q t (frames p t)
  framed_kept t = record {
    framed = λ l c e s. at_each (λ c w. status p c ≡ Engaged t → w.status ≡ Engaged t) p.task p.begun u
        (λ z. let y = unborn_yet in absurd (cc)) (λ _ _ z. z) c ((g.framed t).framed l c e s);
    once = (g.framed t).once;
    shallow = (g.framed t).shallow;
    blocks = (g.framed t).blocks;
  }

  no_frames : Framed q p.begun []
  no_frames = record {
    framed = λ l c e s. absurd s;
    once = λ l k c e f s. absurd s;
    shallow = omega arith;
    blocks = λ l s. absurd s;
  }

  attached_old : (d k l : ℕ) → d < p.begun → Depends p d k l → (l ≡ 0) ⊎ Stands (f k).frames l Block
  attached_old d k l i h = let j = g.elder d k l h in let o = old k (omega arith) in
      elim (g.attached d k l h) [ inl e ↦ inl e | inr s ↦ inr (subst (λ w. Stands w.frames l Block) (sym o) s) ]

  attached_new : (l : ℕ) → innermost_block (frames p a) ≡ l → (l ≡ 0) ⊎ Stands (f a).frames l Block
  attached_new l e = let o = old a r.0 in
      elim (innermost_stands (frames p a)) [ inl z ↦ inl (sym e ∙ z) | inr s ↦ inr (subst (λ w. Stands w.frames l Block) (sym o) (rw e at s)) ]

  pub good_begins : Sound q
  good_begins = record {
    few = room;
    stat = at_each (λ t w. StatOf q no_excuse t w) p.task p.begun u (omega arith)
        (λ t k. stat_keep p q no_excuse no_excuse t (frames p t) (p.task t).entries (env t k) (status p t) refl (g.stat t));
    framed = at_each (λ t w. Framed q t w.frames) p.task p.begun u no_frames (λ t _. framed_kept t);
    arrived = λ t i. let (s, e, h) = g.arrived t i in (
      s,
      e,
      at_each (λ t w. status p t ≡ Queued s e → w.status ≡ Queued s e) p.task p.begun u
          (λ z. let y = unborn_yet in absurd (cc)) (λ _ _ z. z) t h,
    );
    entries = at_each (λ t w. t < suc p.begun → w.entries ≤ most_entries) p.task p.begun u (λ _. m) (λ t k i. g.entries t (omega arith));
    elder = λ d k l (h, e). at_each (λ d w. d < suc p.begun → w.master ≡ under k l → k < d) p.task p.begun u
        (λ _ z. let y = (same_master u.master a (innermost_block (frames p a)) k l refl z).0 in let x = r.0 in omega arith)
        (λ d n i z. g.elder d k l (omega arith, z)) d h e;
    attached = λ d k l (h, e). at_each (λ d w. d < suc p.begun → w.master ≡ under k l
        → (l ≡ 0) ⊎ Stands (f k).frames l Block) p.task p.begun u
        (λ _ z. let y = same_master u.master a (innermost_block (frames p a)) k l refl z in
        subst (λ k. (l ≡ 0) ⊎ Stands (f k).frames l Block) y.0 (attached_new l y.1))
        (λ d n i z. attached_old d k l (omega arith) (omega arith, z)) d h e;
  }

fresh_frames : (t : ℕ) → Framed fresh t []
fresh_frames t = record {
  framed = λ l c e s. absurd s;
  once = λ l k c e f s. absurd s;
  shallow = omega arith;
  blocks = λ l s. absurd s;
}

no_masters : (d m l : ℕ) → Depends fresh d m l → ⊥
no_masters d m l (_, e) = at_each (λ _ w. w.master ≡ under m l → ⊥) (λ _. unborn) 0 (with_status unborn Running)
    (λ z. cc) (λ _ _ z. cc) d e

pub sound_fresh : Sound fresh
sound_fresh = record {
  few = some_tasks;
  stat = at_each (λ t w. StatOf fresh no_excuse t w) (λ _. unborn) 0 (with_status unborn Running) (omega arith) (λ t n. (omega arith, refl));
  framed = at_each (λ t w. Framed fresh t w.frames) (λ _. unborn) 0 (with_status unborn Running) (fresh_frames 0) (λ t _. fresh_frames t);
  arrived = λ t m. absurd (omega (arith, m.1));
  entries = at_each (λ t w. t < 1 → w.entries ≤ most_entries) (λ _. unborn) 0 (with_status unborn Running) (λ _. omega arith) (λ t _ _. omega arith);
  elder = λ d m l h. absurd (no_masters d m l h);
  attached = λ d m l h. absurd (no_masters d m l h);
}
