-- A picture has a move left, or it is stuck.
use Rattle.std.proofs.Common.{◌≡◌, ℕ, suc, ◌<◌, ◌⊎◌, List, [], ◌∷◌, length, sym, refl, ap, ◌∙◌, subst, inl, inr, arith}
use Rattle.rules.specs.Limits.{frame_room}
use Rattle.rules.specs.Picture.{frames, Over, Picture, status}
use Rattle.rules.specs.declared.vocabulary.Frame.{Frame}
use Rattle.rules.specs.declared.vocabulary.Frame.TheVariants.{Block, Rendezvous}
use Rattle.rules.specs.declared.vocabulary.Status.{Status}
use Rattle.rules.specs.declared.vocabulary.Status.TheVariants.{Accepting, Queued, Running}
use Rattle.rules.proofs.Basics.Decide.{find, Found}
use Rattle.rules.proofs.Basics.Dependents.{dec_over}
use Rattle.rules.proofs.Basics.Frames.{Stands}
use Rattle.rules.proofs.Basics.Limits.{blocks_fit}
use Rattle.rules.proofs.Basics.Statuses.{dec_kind, dec_running, first_of, kind, of_kind, second_of}
use Rattle.rules.proofs.Invariant.Sound.{begun_as, Sound}
use Rattle.rules.proofs.WaysOut.Finish.{finish}
use Rattle.rules.proofs.WaysOut.Moves.{end_rendezvous, leave, Move, serve, wake}
use Rattle.rules.proofs.WaysOut.Stuck.{Stuck}

-- which moves there are can be decided
abbrev IsAccepting : Status → Type 0
IsAccepting s = (mask : ℕ) × (s ≡ Accepting mask)

dec_accepting : (s : Status) → Dec (IsAccepting s)
dec_accepting s = elim (dec_kind s 4) [ yes e ↦ yes (first_of s, of_kind s 4 e) | no n ↦ no (λ h. n (ap kind h.1)) ]

abbrev tail : List Frame → List Frame
tail [] = []
tail (_ ∷ fs) = fs

abbrev Met : Status → List Frame → Type 0
Met s gs = (s ≡ Running) × ((c : ℕ) × (e : ℕ) × (fs : List Frame) × (gs ≡ Rendezvous c e ∷ fs))

dec_met : (s : Status) (gs : List Frame) → Dec (Met s gs)
dec_met s [] = no (λ h. let e = h.1.3 in cc)
dec_met s (Block ∷ fs) = no (λ h. let e = h.1.3 in cc)
dec_met s (Rendezvous c e ∷ fs) = go (dec_running s)
  where
    go : Dec (s ≡ Running) → Dec (Met s (Rendezvous c e ∷ fs))
    go (yes h) = yes (h, (c, e, fs, refl))
    go (no n) = no (λ h. n h.0)

abbrev Called : Picture → Status → Type 0
Called p s = (a : ℕ) × (e : ℕ) × (s ≡ Queued a e) × (status p a ≡ Running)

dec_called : (p : Picture) (s : Status) → Dec (Called p s)
dec_called p s = elim (dec_kind s 2) [
  | no n ↦ no (λ h. n (ap kind h.2))
  | yes e ↦ elim (dec_running (status p (first_of s))) [
    | yes r ↦ yes (first_of s, second_of s, of_kind s 2 e, r)
    | no n ↦ no (λ h. n (ap (status p) (ap first_of h.2) ∙ h.3))
  ]
]

abbrev Leavable : Picture → ℕ → List Frame → Type 0
Leavable p a gs = (status p a ≡ Running) × ((fs : List Frame) × (gs ≡ Block ∷ fs) × Over p a (suc (length fs)))

dec_leavable : (p : Picture) (a : ℕ) (gs : List Frame) → Dec (Leavable p a gs)
dec_leavable p a [] = no (λ h. let e = h.1.1 in cc)
dec_leavable p a (Rendezvous _ _ ∷ _) = no (λ h. let e = h.1.1 in cc)
dec_leavable p a (Block ∷ fs) = go (dec_running (status p a)) (dec_over p a (suc (length fs)))
  where
    go : Dec (status p a ≡ Running) → Dec (Over p a (suc (length fs))) → Dec (Leavable p a (Block ∷ fs))
    go (no n) _ = no (λ h. n h.0)
    go (yes r) (yes o) = yes (r, (fs, refl, o))
    go (yes r) (no o) = no (λ h. o (subst (λ (gs : List Frame). Over p a (suc (length gs))) (sym (ap tail h.1.1)) h.1.2))

abbrev Idle : Status → List Frame → Type 0
Idle s gs = (s ≡ Running) × (gs ≡ [])

dec_idle : (s : Status) (gs : List Frame) → Dec (Idle s gs)
dec_idle s (Block ∷ _) = no (λ h. let e = h.1 in cc)
dec_idle s (Rendezvous _ _ ∷ _) = no (λ h. let e = h.1 in cc)
dec_idle s [] = go (dec_running s)
  where
    go : Dec (s ≡ Running) → Dec (Idle s [])
    go (yes h) = yes (h, refl)
    go (no n) = no (λ h. n h.0)

module _ (p : Picture) (snd : Sound p) where
  ran : (a : ℕ) → status p a ≡ Running → a < p.begun
  ran a h = begun_as snd a h tt

  -- with no rendezvous innermost there is room for one
  room : (a : ℕ) (gs : List Frame) → frames p a ≡ gs → ((c k : ℕ) (fs : List Frame) → gs ≡ Rendezvous c k ∷ fs → ⊥) → length (frames p a) < frame_room
  room a [] e n = omega (arith, ap length e, blocks_fit)
  room a (Block ∷ fs) e n = omega (arith, ap length e, blocks_fit, (snd.framed a).blocks (suc (length fs)) (subst (λ (gs : List Frame). Stands gs (suc (length fs)) Block) (sym e) (inl (refl, refl))))
  room a (Rendezvous c k ∷ fs) e n = absurd (n c k fs refl)

  last : ((x : ℕ) → x < p.begun → IsAccepting (status p x) → ⊥) → ((x : ℕ) → x < p.begun → Met (status p x) (frames p x) → ⊥)
      → Found p.begun (λ x. Called p (status p x)) → Found p.begun (λ a. Leavable p a (frames p a)) → Found p.begun (λ a. Idle (status p a) (frames p a)) → Move p ⊎ Stuck p
  last na nm (inl (x, b, (a, e, h, r))) _ _ = inl (serve p snd a x e r h (room a (frames p a) refl (λ c k fs z. nm a (ran a r) (r, (c, k, fs, z)))))
  last na nm (inr nc) (inl (a, b, (r, (fs, h, o)))) _ = inl (leave p snd a fs r h o)
  last na nm (inr nc) (inr nl) (inl (a, b, (r, h))) = inl (finish p snd a r h (λ x mask e. na x (begun_as snd x e tt) (mask, e)))
  last na nm (inr nc) (inr nl) (inr ni) = inr (record {
    accepting = λ a x mask r e. na x (begun_as snd x e tt) (mask, e);
    met = λ a c e fs r h. nm a (ran a r) (r, (c, e, fs, h));
    called = λ a x e r h. nc x (begun_as snd x h tt) (a, e, h, r);
    inside = λ a fs r h o. nl a (ran a r) (r, (fs, h, o));
    idle = λ a r h. ni a (ran a r) (r, h);
  })

  first : Found p.begun (λ a. status p a ≡ Running) → Found p.begun (λ x. IsAccepting (status p x)) → Found p.begun (λ x. Met (status p x) (frames p x)) → Move p ⊎ Stuck p
  first (inl (a, b, r)) (inl (x, k, (mask, h))) _ = inl (wake p snd a x mask r h)
  first (inr n) _ _ = inr (record {
    accepting = λ a x mask r e. n a (ran a r) r;
    met = λ a c e fs r h. n a (ran a r) r;
    called = λ a x e r h. n a (ran a r) r;
    inside = λ a fs r h o. n a (ran a r) r;
    idle = λ a r h. n a (ran a r) r;
  })
  first (inl _) (inr na) (inl (a, b, (r, (c, e, fs, h)))) = inl (end_rendezvous p snd a c e fs r h)
  first (inl _) (inr na) (inr nm) = last na nm
      (find (λ x. Called p (status p x)) (λ x. dec_called p (status p x)) p.begun)
      (find (λ a. Leavable p a (frames p a)) (λ a. dec_leavable p a (frames p a)) p.begun)
      (find (λ a. Idle (status p a) (frames p a)) (λ a. dec_idle (status p a) (frames p a)) p.begun)

  pub move : Move p ⊎ Stuck p
  move = first
      (find (λ a. status p a ≡ Running) (λ a. dec_running (status p a)) p.begun)
      (find (λ x. IsAccepting (status p x)) (λ x. dec_accepting (status p x)) p.begun)
      (find (λ x. Met (status p x) (frames p x)) (λ x. dec_met (status p x) (frames p x)) p.begun)
