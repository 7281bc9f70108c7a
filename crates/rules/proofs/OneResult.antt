-- An event has one outcome and makes one picture.
use Rattle.std.proofs.Common.{◌≡◌, ℕ, suc, ◌<◌, ◌≢◌, ◌⊎◌, List, [], ◌∷◌, length, None, sym, refl, ap, ◌∙◌, subst, inl, inr, arith}
use native.Mathlib.Decide.{dec_lt}
use Rattle.rules.specs.Changes.{birth, close, dismiss, engage, join, leave_queue, mark, part, turn}
use Rattle.rules.specs.Picture.{AllOver, frames, Over, Picture, queue, status, under}
use Rattle.rules.specs.Rules.{begins, block_closes, completes, ends, ends_rendezvous, errs, In, leaves, master_ends, master_stays, meets, no_master, opens, queues, Settles, Step, Takes, takes, waits_to_accept, waits_to_leave}
use Rattle.rules.specs.declared.vocabulary.Action.{Action}
use Rattle.rules.specs.declared.vocabulary.Action.TheVariants.{Accept, Begin, Call, EndRendezvous, Finish, LeaveBlock, OpenBlock}
use Rattle.rules.specs.declared.vocabulary.Event.{Event}
use Rattle.rules.specs.declared.vocabulary.Frame.{Frame}
use Rattle.rules.specs.declared.vocabulary.Frame.TheVariants.{Block, Rendezvous}
use Rattle.rules.specs.declared.vocabulary.Outcome.{Outcome}
use Rattle.rules.specs.declared.vocabulary.Outcome.TheVariants.{GoesOn, Rendezvous as RendezvousBegun, TaskingError, Terminated as Ended, Waits}
use Rattle.rules.specs.declared.vocabulary.Status.TheVariants.{Accepting, Completed, Leaving, Running, Terminated}
use Rattle.rules.proofs.Basics.Masters.{same_master}

-- what the cascade comes to, by cases
abbrev Settling : Picture → ℕ → Picture → Type 0
Settling p t q = (((p.task t).master ≡ None) × (q ≡ p))
    ⊎ (((m : ℕ) × (fs : List Frame) × ((p.task t).master ≡ under m (suc (length fs))) × (status p m ≡ Leaving) × (frames p m ≡ Block ∷ fs) × Over p m (suc (length fs)) × (q ≡ close p m fs))
    ⊎ (((m : ℕ) × (l : ℕ) × ((p.task t).master ≡ under m l) × (status p m ≡ Completed) × AllOver p m × Settles (mark p m Terminated) m q)
    ⊎ ((m : ℕ) × (l : ℕ) × ((p.task t).master ≡ under m l)
    × (status p m ≡ Leaving → l ≡ length (frames p m) → Over p m l → ⊥) × (status p m ≡ Completed → AllOver p m → ⊥) × (q ≡ p))))

settling : {p : Picture} {t : ℕ} {q : Picture} → Settles p t q → Settling p t q
settling (no_master e) = inl (e, refl)
settling (block_closes e s f o) = inr (inl (_, _, e, s, f, o, refl))
settling (master_ends e s o r) = inr (inr (inl (_, _, e, s, o, r)))
settling (master_stays e n₁ n₂) = inr (inr (inr (_, _, e, n₁, n₂, refl)))

-- two readings of one master: they agree on who it is, and on what becomes of it
module _ (p : Picture) (t m n k l : ℕ) (e : (p.task t).master ≡ under m l) (d : (p.task t).master ≡ under n k) where
  who : m ≡ n
  who = (same_master (p.task t).master m l n k e d).0

  where_to : l ≡ k
  where_to = (same_master (p.task t).master m l n k e d).1

  closes_not_stays : (fs : List Frame) → l ≡ suc (length fs) → status p m ≡ Leaving → frames p m ≡ Block ∷ fs → Over p m (suc (length fs))
      → (status p n ≡ Leaving → k ≡ length (frames p n) → Over p n k → ⊥) → ⊥
  closes_not_stays fs j s f o h = h (ap (status p) (sym who) ∙ s) (sym where_to ∙ (j ∙ sym (ap length (ap (frames p) (sym who) ∙ f))))
      (subst (λ (x : ℕ). Over p x k) who (subst (Over p m) (sym j ∙ where_to) o))

  ends_not_stays : status p m ≡ Completed → AllOver p m → (status p n ≡ Completed → AllOver p n → ⊥) → ⊥
  ends_not_stays s o h = h (ap (status p) (sym who) ∙ s) (subst (AllOver p) who o)

  closes_not_ends : status p m ≡ Leaving → status p n ≡ Completed → ⊥
  closes_not_ends s c = let h = ap (status p) who in cc

  same_close : (fs gs : List Frame) → frames p m ≡ Block ∷ fs → frames p n ≡ Block ∷ gs → close p n gs ≡ close p m fs
  same_close fs gs f g = let h = ap (frames p) who in let i : gs ≡ fs = cc in let j = sym who in λ x. close p (j x) (i x)

pub settles_once : {p : Picture} {t : ℕ} {q r : Picture} → Settles p t q → Settles p t r → r ≡ q
settles_once {p} {t} {q} {r} (no_master e) s = elim (settling s) [
  | inl (_, h) ↦ h
  | inr (inl (m, fs, d, _, _, _, _)) ↦ absurd (cc)
  | inr (inr (inl (m, l, d, _, _, _))) ↦ absurd (cc)
  | inr (inr (inr (m, l, d, _, _, _))) ↦ absurd (cc)
]
settles_once {p} {t} {q} {r} (block_closes {m = m} {fs = fs} e z f o) s = elim (settling s) [
  | inl (d, _) ↦ absurd (cc)
  | inr (inl (n, gs, d, y, g, _, h)) ↦ h ∙ same_close p t m n (suc (length gs)) (suc (length fs)) e d fs gs f g
  | inr (inr (inl (n, k, d, y, _, _))) ↦ absurd (closes_not_ends p t m n k (suc (length fs)) e d z y)
  | inr (inr (inr (n, k, d, n₁, _, _))) ↦ absurd (closes_not_stays p t m n k (suc (length fs)) e d fs refl z f o n₁)
]
settles_once {p} {t} {q} {r} (master_ends {m = m} {l = l} e z o rest) s = elim (settling s) [
  | inl (d, _) ↦ absurd (cc)
  | inr (inl (n, gs, d, y, g, _, h)) ↦ absurd (closes_not_ends p t n m l (suc (length gs)) d e y z)
  | inr (inr (inl (n, k, d, y, _, more))) ↦ settles_once rest (subst (λ (x : ℕ). Settles (mark p x Terminated) x r) (sym (who p t m n k l e d)) more)
  | inr (inr (inr (n, k, d, _, n₂, _))) ↦ absurd (ends_not_stays p t m n k l e d z o n₂)
]
settles_once {p} {t} {q} {r} (master_stays {m = m} {l = l} e n₁ n₂) s = elim (settling s) [
  | inl (_, h) ↦ h
  | inr (inl (n, gs, d, y, g, o, _)) ↦ absurd (closes_not_stays p t n m l (suc (length gs)) d e gs refl y g o n₁)
  | inr (inr (inl (n, k, d, y, o, _))) ↦ absurd (ends_not_stays p t n m l k d e y o n₂)
  | inr (inr (inr (n, k, d, _, _, h))) ↦ h
]

-- what an action comes to, by cases
abbrev Does : Picture → ℕ → Action → Outcome → Picture → Type 0
Does p a (Begin c n) o q = (o ≡ GoesOn) × (q ≡ birth p a n)
Does p a OpenBlock o q = (o ≡ GoesOn) × (q ≡ turn p a Running (Block ∷ frames p a))
Does p a LeaveBlock o q = (fs : List Frame) × (frames p a ≡ Block ∷ fs)
    × ((Over p a (suc (length fs)) × (o ≡ GoesOn) × (q ≡ close p a fs)) ⊎ ((Over p a (suc (length fs)) → ⊥) × (o ≡ Waits) × (q ≡ mark p a Leaving)))
Does p a (Call s e) o q =
    (((status p s ≡ Completed) ⊎ (status p s ≡ Terminated)) × (o ≡ TaskingError) × (q ≡ p))
    ⊎ (((mask : ℕ) × (status p s ≡ Accepting mask) × In e mask × (o ≡ RendezvousBegun) × (q ≡ engage p a s e))
    ⊎ ((status p s ≢ Completed) × (status p s ≢ Terminated) × ((mask : ℕ) → status p s ≡ Accepting mask → In e mask → ⊥) × (o ≡ Waits) × (q ≡ join p a s e)))
Does p a (Accept mask) o q =
    ((c : ℕ) × (e : ℕ) × Takes p a mask c e × (o ≡ RendezvousBegun) × (q ≡ engage (leave_queue p c) c a e))
    ⊎ (((e : ℕ) → In e mask → queue p a e ≡ []) × (o ≡ Waits) × (q ≡ mark p a (Accepting mask)))
Does p a EndRendezvous o q = (c : ℕ) × (e : ℕ) × (fs : List Frame) × (frames p a ≡ Rendezvous c e ∷ fs) × (o ≡ GoesOn) × (q ≡ part p a c fs)
Does p a Finish o q = ((AllOver p a → ⊥) × (o ≡ Waits) × (q ≡ mark (dismiss p a) a Completed))
    ⊎ (AllOver p a × (o ≡ Ended) × Settles (mark (dismiss p a) a Terminated) a q)

does : {p q : Picture} {v : Event} {o : Outcome} → Step p v o q → Does p v.actor v.action o q
does (begins _ _ _) = (refl, refl)
does (opens _ _) = (refl, refl)
does (leaves _ f o) = (_, f, inl (o, refl, refl))
does (waits_to_leave _ f o) = (_, f, inr (o, refl, refl))
does (errs _ _ _ h) = inl (h, refl, refl)
does (meets _ _ _ h i) = inr (inl (_, h, i, refl, refl))
does (queues _ _ _ h i j) = inr (inr (h, i, j, refl, refl))
does (takes _ _ _ h) = inl (_, _, h, refl, refl)
does (waits_to_accept _ _ _ h) = inr (h, refl, refl)
does (ends_rendezvous _ f) = (_, _, _, f, refl, refl)
does (completes _ _ h) = inl (h, refl, refl)
does (ends _ _ h s) = inr (h, refl, s)

-- an accept takes one caller
not_lower : (p : Picture) (a mask c e b f : ℕ) → Takes p a mask c e → Takes p a mask b f → e < f → ⊥
not_lower p a mask c e b f h k l = let i = h.head in let j = k.lower e l h.opened in cc

same_entry : (p : Picture) (a mask c e b f : ℕ) → Takes p a mask c e → Takes p a mask b f → e ≡ f
same_entry p a mask c e b f h k = elim (dec_lt e f) [
  | yes l ↦ absurd (not_lower p a mask c e b f h k l)
  | no l ↦ elim (dec_lt f e) [ yes m ↦ absurd (not_lower p a mask b f c e k h m) | no m ↦ omega arith ]
]

same_caller : (p : Picture) (a mask c e b f : ℕ) → Takes p a mask c e → Takes p a mask b f → c ≡ b
same_caller p a mask c e b f h k = let i = h.head in let j = k.head in let l = ap (queue p a) (same_entry p a mask c e b f h k) in cc

abbrev Same : Outcome → Outcome → Picture → Picture → Type 0
Same o n q r = (o ≡ n) × (q ≡ r)

module _ (p : Picture) (a : ℕ) where
  same_leave : (o n : Outcome) (q r : Picture) → Does p a LeaveBlock o q → Does p a LeaveBlock n r → Same o n q r
  same_leave o n q r (fs, f, x) (gs, g, y) = let i : fs ≡ gs = cc in
      elim x [
        | inl (u, h, k) ↦ elim y [ inl (_, l, m) ↦ (h ∙ sym l, k ∙ (ap (close p a) i ∙ sym m)) | inr (w, _, _) ↦ absurd (w (subst (λ (gs : List Frame). Over p a (suc (length gs))) i u)) ]
        | inr (u, h, k) ↦ elim y [ inl (w, _, _) ↦ absurd (u (subst (λ (gs : List Frame). Over p a (suc (length gs))) (sym i) w)) | inr (_, l, m) ↦ (h ∙ sym l, k ∙ sym m) ]
      ]

  same_call : (s e : ℕ) (o n : Outcome) (q r : Picture) → Does p a (Call s e) o q → Does p a (Call s e) n r → Same o n q r
  same_call s e o n q r (inl (_, h, k)) (inl (_, l, m)) = (h ∙ sym l, k ∙ sym m)
  same_call s e o n q r (inl (x, h, k)) (inr (inl (mask, z, _, _, _))) = elim x [ inl w ↦ absurd (cc) | inr w ↦ absurd (cc) ]
  same_call s e o n q r (inl (x, h, k)) (inr (inr (y, z, _, _, _))) = elim x [ inl w ↦ absurd (y w) | inr w ↦ absurd (z w) ]
  same_call s e o n q r (inr (inl (mask, z, _, _, _))) (inl (x, h, k)) = elim x [ inl w ↦ absurd (cc) | inr w ↦ absurd (cc) ]
  same_call s e o n q r (inr (inl (mask, z, i, h, k))) (inr (inl (_, _, _, l, m))) = (h ∙ sym l, k ∙ sym m)
  same_call s e o n q r (inr (inl (mask, z, i, h, k))) (inr (inr (_, _, w, _, _))) = absurd (w mask z i)
  same_call s e o n q r (inr (inr (y, z, _, _, _))) (inl (x, h, k)) = elim x [ inl w ↦ absurd (y w) | inr w ↦ absurd (z w) ]
  same_call s e o n q r (inr (inr (_, _, w, _, _))) (inr (inl (mask, z, i, h, k))) = absurd (w mask z i)
  same_call s e o n q r (inr (inr (_, _, _, h, k))) (inr (inr (_, _, _, l, m))) = (h ∙ sym l, k ∙ sym m)

  same_accept : (mask : ℕ) (o n : Outcome) (q r : Picture) → Does p a (Accept mask) o q → Does p a (Accept mask) n r → Same o n q r
  same_accept mask o n q r (inl (c, e, h, x, y)) (inl (b, f, k, u, w)) =
      let i = same_caller p a mask c e b f h k in let j = same_entry p a mask c e b f h k in
      (x ∙ sym u, y ∙ ((λ d. engage (leave_queue p (i d)) (i d) a (j d)) ∙ sym w))
  same_accept mask o n q r (inl (c, e, h, _, _)) (inr (k, _, _)) = let i = h.head in let j = k e h.opened in absurd (cc)
  same_accept mask o n q r (inr (k, _, _)) (inl (c, e, h, _, _)) = let i = h.head in let j = k e h.opened in absurd (cc)
  same_accept mask o n q r (inr (_, h, k)) (inr (_, l, m)) = (h ∙ sym l, k ∙ sym m)

  same_end : (o n : Outcome) (q r : Picture) → Does p a EndRendezvous o q → Does p a EndRendezvous n r → Same o n q r
  same_end o n q r (c, e, fs, f, h, k) (b, d, gs, g, l, m) = let i : fs ≡ gs = cc in let j : c ≡ b = cc in
      (h ∙ sym l, k ∙ ((λ x. part p a (j x) (i x)) ∙ sym m))

  same_finish : (o n : Outcome) (q r : Picture) → Does p a Finish o q → Does p a Finish n r → Same o n q r
  same_finish o n q r (inl (_, h, k)) (inl (_, l, m)) = (h ∙ sym l, k ∙ sym m)
  same_finish o n q r (inl (x, _, _)) (inr (y, _, _)) = absurd (x y)
  same_finish o n q r (inr (y, _, _)) (inl (x, _, _)) = absurd (x y)
  same_finish o n q r (inr (_, h, k)) (inr (_, l, m)) = (h ∙ sym l, settles_once m k)

  same_does : (x : Action) (o n : Outcome) (q r : Picture) → Does p a x o q → Does p a x n r → Same o n q r
  same_does (Begin c k) o n q r (h, i) (j, l) = (h ∙ sym j, i ∙ sym l)
  same_does OpenBlock o n q r (h, i) (j, l) = (h ∙ sym j, i ∙ sym l)
  same_does LeaveBlock o n q r h k = same_leave o n q r h k
  same_does (Call s e) o n q r h k = same_call s e o n q r h k
  same_does (Accept mask) o n q r h k = same_accept mask o n q r h k
  same_does EndRendezvous o n q r h k = same_end o n q r h k
  same_does Finish o n q r h k = same_finish o n q r h k

pub one_result : (p : Picture) (v : Event) (o n : Outcome) (q r : Picture) → Step p v o q → Step p v n r → Same o n q r
one_result p v o n q r s t = same_does p v.actor v.action o n q r (does s) (does t)
