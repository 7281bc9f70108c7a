-- Where no move is left, all the points that are not plainly reached are a shut set.
use Rattle.std.proofs.Common.{◌≡◌, ℕ, suc, ◌<◌, not, T, eqb, List, [], ◌∷◌, length, sym, refl, ap, ◌∙◌, arith, eqb→eq}
use Rattle.rules.specs.Book.{CanEndWith, CanRunWith, outside, Points, Shut}
use Rattle.rules.specs.Picture.{frames, Over, Picture, rendezvous_level, status}
use Rattle.rules.specs.declared.vocabulary.Frame.{Frame}
use Rattle.rules.specs.declared.vocabulary.Frame.TheVariants.{Block, Rendezvous}
use Rattle.rules.specs.declared.vocabulary.Status.{Status}
use Rattle.rules.specs.declared.vocabulary.Status.TheVariants.{Accepting, Completed, Engaged, Leaving, NotBegun, Queued, Running, Terminated}
use Rattle.rules.proofs.Basics.Decide.{not_not}
use Rattle.rules.proofs.Basics.Frames.{rendezvous_below}
use Rattle.rules.proofs.Basics.Statuses.{apart, kind, running, terminated}
use Rattle.rules.proofs.Invariant.Sound.{completed, leaving, Sound}

pub record Stuck (p : Picture) : Type 0 where
  pub accepting : (a x mask : ℕ) → status p a ≡ Running → status p x ≡ Accepting mask → ⊥
  pub met : (a c e : ℕ) (fs : List Frame) → status p a ≡ Running → frames p a ≡ Rendezvous c e ∷ fs → ⊥
  pub called : (a x e : ℕ) → status p a ≡ Running → status p x ≡ Queued a e → ⊥
  pub inside : (a : ℕ) (fs : List Frame) → status p a ≡ Running → frames p a ≡ Block ∷ fs → Over p a (suc (length fs)) → ⊥
  pub idle : (a : ℕ) → status p a ≡ Running → frames p a ≡ [] → ⊥

abbrev pub still : Picture → Points
still p = record { runs = λ x. not (eqb (kind (status p x)) (kind Running)); ends = λ x. not (eqb (kind (status p x)) (kind Terminated)) }

module _ (p : Picture) (snd : Sound p) (stuck : Stuck p) where
  out_runs : (r : ℕ) → T ((outside (still p)).runs r) → status p r ≡ Running
  out_runs r t = running (status p r) (eqb→eq (kind (status p r)) (kind Running) (not_not (eqb (kind (status p r)) (kind Running)) t))

  out_ends : (r : ℕ) → T ((outside (still p)).ends r) → status p r ≡ Terminated
  out_ends r t = terminated (status p r) (eqb→eq (kind (status p r)) (kind Terminated) (not_not (eqb (kind (status p r)) (kind Terminated)) t))

  -- a Running task has an innermost block that cannot be left
  held : (r : ℕ) → status p r ≡ Running → ((fs : List Frame) → frames p r ≡ Block ∷ fs → Over p r (suc (length fs))) → (fs : List Frame) → frames p r ≡ fs → ⊥
  held r run over [] e = stuck.idle r run e
  held r run over (Block ∷ fs) e = stuck.inside r fs run e (over fs e)
  held r run over (Rendezvous c k ∷ fs) e = stuck.met r c k fs run e

  no_run : (t : ℕ) (s : Status) → status p t ≡ s → T (not (eqb (kind s) (kind Running))) → CanRunWith p (outside (still p)) t s → ⊥
  no_run t NotBegun e u h = h
  no_run t Running e u h = u
  no_run t (Queued r k) e u h = stuck.called r t k (out_runs r h) e
  no_run t (Engaged r) e u h = held r (out_runs r h.0) (λ fs f d dep. out_ends d (h.1 d (suc (length fs)) (above fs f) dep)) (frames p r) refl
    where
      above : (fs : List Frame) → frames p r ≡ Block ∷ fs → rendezvous_level t (frames p r) < suc (length fs)
      above fs f = omega (arith, ap (rendezvous_level t) f, rendezvous_below t fs)
  no_run t (Accepting mask) e u h = stuck.accepting h.0 t mask (out_runs h.0 h.3) e
  no_run t Leaving e u h = left (leaving snd t e)
    where
      left : (fs : List Frame) × (frames p t ≡ Block ∷ fs) × (Over p t (suc (length fs)) → ⊥) → ⊥
      left (fs, f, n) = n (λ d dep. out_ends d (h d (suc (length fs)) (sym (ap length f)) dep))
  no_run t Completed e u h = h
  no_run t Terminated e u h = h

  no_end : (t : ℕ) (s : Status) → status p t ≡ s → T (not (eqb (kind s) (kind Terminated))) → CanEndWith p (outside (still p)) t s → ⊥
  no_end t NotBegun e u h = h
  no_end t Running e u h = held t e (λ fs f d dep. out_ends d (h.1 d (suc (length fs)) tt dep)) (frames p t) refl
  no_end t (Queued r k) e u h = apart (sym e ∙ out_runs t h.0) tt
  no_end t (Engaged r) e u h = apart (sym e ∙ out_runs t h.0) tt
  no_end t (Accepting mask) e u h = apart (sym e ∙ out_runs t h.0) tt
  no_end t Leaving e u h = apart (sym e ∙ out_runs t h.0) tt
  no_end t Completed e u h = completed snd t e (λ l d dep. out_ends d (h d l tt dep))
  no_end t Terminated e u h = u

  pub still_shut : Shut p (still p)
  still_shut = record { runs = λ t u h. no_run t (status p t) refl u h.1; ends = λ t u h. no_end t (status p t) refl u h.1 }
