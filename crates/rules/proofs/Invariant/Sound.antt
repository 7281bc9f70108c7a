-- The invariant of reached pictures, which has no excuses, and what it says of a task whose status is known.
use Rattle.std.proofs.Common.{◌≡◌, ℕ, suc, ◌<◌, not, T, eqb, ◌≢◌, List, ◌∷◌, length, sym, refl, ◌∙◌, subst, inl, arith}
use native.Mathlib.Decide.{dec_lt}
use Rattle.rules.specs.Picture.{AllOver, frames, Over, Picture, status}
use Rattle.rules.specs.Rules.{IsOpenSet}
use Rattle.rules.specs.declared.vocabulary.Frame.{Frame}
use Rattle.rules.specs.declared.vocabulary.Frame.TheVariants.{Block, Rendezvous}
use Rattle.rules.specs.declared.vocabulary.Status.{Status}
use Rattle.rules.specs.declared.vocabulary.Status.TheVariants.{Accepting, Completed, Engaged, Leaving, NotBegun, Queued}
use Rattle.rules.proofs.Basics.Frames.{Stands}
use Rattle.rules.proofs.Basics.Statuses.{apart, kind}
use Rattle.rules.proofs.Invariant.Good.{Good, Hosted, no_excuse, not_begun, stat_is, Waiting}

abbrev pub Sound : Picture → Type 0
Sound p = Good p no_excuse

module _ {p : Picture} (snd : Sound p) (t : ℕ) where
  pub begun_of : status p t ≢ NotBegun → t < p.begun
  begun_of n = elim (dec_lt t p.begun) [ yes h ↦ h | no h ↦ absurd (n (not_begun snd t (omega arith)).0) ]

  -- by the number of its kind, a status is not NotBegun
  pub begun_as : {S : Status} → status p t ≡ S → T (not (eqb (kind S) (kind NotBegun))) → t < p.begun
  begun_as e n = begun_of (λ z. apart (sym e ∙ z) n)

  pub queued : (s e : ℕ) → status p t ≡ Queued s e → Waiting p t s e
  queued s e z = (stat_is snd t (Queued s e) z).1

  pub engaged : (s : ℕ) → status p t ≡ Engaged s → Hosted p t s
  engaged s z = (stat_is snd t (Engaged s) z).1

  pub accepting : (mask : ℕ) → status p t ≡ Accepting mask → IsOpenSet (p.task t).entries mask
  accepting mask z = (stat_is snd t (Accepting mask) z).1.0

  pub leaving : status p t ≡ Leaving → (fs : List Frame) × (frames p t ≡ Block ∷ fs) × (Over p t (suc (length fs)) → ⊥)
  leaving z = let h = (stat_is snd t Leaving z).1 in (h.0, h.1, h.2 (λ x. x))

  pub completed : status p t ≡ Completed → AllOver p t → ⊥
  completed z = (stat_is snd t Completed z).2 (λ l x. x)

  -- the caller of the innermost rendezvous is Engaged
  pub framed_here : (c e : ℕ) (fs : List Frame) → frames p t ≡ Rendezvous c e ∷ fs → status p c ≡ Engaged t
  framed_here c e fs f = (snd.framed t).framed (suc (length fs)) c e (subst (λ gs. Stands gs (suc (length fs)) (Rendezvous c e)) (sym f) (inl (refl, refl)))
