-- The rules: which event has which outcome and makes which picture of which.
use Rattle.std.specs.Prelude.{◌≡◌, ℕ, suc, ◌/◌, ◌%◌, ◌^◌, ◌<◌, ◌≤◌, ◌≢◌, ◌⊎◌, List, [], ◌∷◌, length, None}
use Rattle.rules.specs.declared.vocabulary.Status.TheVariants.{Running, Accepting, Leaving, Completed, Terminated}
use Rattle.rules.specs.declared.vocabulary.Frame.{Frame}
use Rattle.rules.specs.declared.vocabulary.Frame.TheVariants.{Block, Rendezvous}
use Rattle.rules.specs.declared.vocabulary.Event.{Event}
use Rattle.rules.specs.declared.vocabulary.Action.TheVariants.{Begin, OpenBlock, LeaveBlock, Call, Accept, EndRendezvous, Finish}
use Rattle.rules.specs.declared.vocabulary.Outcome.{Outcome}
use Rattle.rules.specs.declared.vocabulary.Outcome.TheVariants.{GoesOn, Waits, Rendezvous as RendezvousBegun, TaskingError, Terminated as Ended}
use Rattle.rules.specs.Limits.{most_tasks, most_entries, block_room, frame_room}
use Rattle.rules.specs.Events.{◌does◌}
use Rattle.rules.specs.Picture.{Picture, status, frames, fresh, Over, AllOver, queue, under}
use Rattle.rules.specs.Changes.{mark, turn, birth, close, join, leave_queue, engage, part, dismiss}

-- entry e is in the mask, which is the sum of 2 ^ e over its entries e
abbrev pub In : ℕ → ℕ → Type 0
In e mask = (mask / 2 ^ e) % 2 ≡ 1

-- the mask has some entry, and only entries of a task that has n of them
abbrev pub IsOpenSet : ℕ → ℕ → Type 0
IsOpenSet n mask = (0 < mask) × (mask < 2 ^ n)

-- the caller c that an accept takes, with its entry e: at the head of the lowest-numbered open entry that has a caller
pub record Takes (p : Picture) (a mask c e : ℕ) : Type 0 where
  pub opened : In e mask
  pub rest : List ℕ
  pub head : queue p a e ≡ c ∷ rest
  pub lower : (f : ℕ) → f < e → In f mask → queue p a f ≡ []

-- Settles p t q: t has just become Terminated in p, and q is the picture once its master, that one's master and so on are dealt with
pub data Settles : Picture → ℕ → Picture → Type 0 where
  -- there is no master
  no_master : {p : Picture} {t : ℕ} → (p.task t).master ≡ None → Settles p t p
  -- the master is Leaving its innermost block, on which t depends, and every dependent of that block is Terminated: the block closes
  block_closes : {p : Picture} {t m : ℕ} {fs : List Frame} → (p.task t).master ≡ under m (suc (length fs))
      → status p m ≡ Leaving → frames p m ≡ Block ∷ fs → Over p m (suc (length fs)) → Settles p t (close p m fs)
  -- the master is Completed, and every dependent of it is Terminated: it is Terminated, and its own master is looked at
  master_ends : {p q : Picture} {t m l : ℕ} → (p.task t).master ≡ under m l
      → status p m ≡ Completed → AllOver p m → Settles (mark p m Terminated) m q → Settles p t q
  -- neither: the master stays as it is
  master_stays : {p : Picture} {t m l : ℕ} → (p.task t).master ≡ under m l
      → (status p m ≡ Leaving → l ≡ length (frames p m) → Over p m l → ⊥)
      → (status p m ≡ Completed → AllOver p m → ⊥) → Settles p t p

-- a has begun and is Running: it can act
abbrev pub Acts : Picture → ℕ → Type 0
Acts p a = (a < p.begun) × (status p a ≡ Running)

-- Step p v o q: in p the event v is accepted, has the outcome o, and makes q
pub data Step : Picture → Event → Outcome → Picture → Type 0 where
  -- a task begins, with the next number
  begins : {p : Picture} {a n : ℕ} → Acts p a → p.begun < most_tasks → n ≤ most_entries
      → Step p (a does Begin p.begun n) GoesOn (birth p a n)
  -- a block opens
  opens : {p : Picture} {a : ℕ} → Acts p a → length (frames p a) < block_room
      → Step p (a does OpenBlock) GoesOn (turn p a Running (Block ∷ frames p a))
  -- the innermost frame is a block, and every dependent of it is Terminated: it closes
  leaves : {p : Picture} {a : ℕ} {fs : List Frame} → Acts p a → frames p a ≡ Block ∷ fs → Over p a (suc (length fs))
      → Step p (a does LeaveBlock) GoesOn (close p a fs)
  -- some dependent of the block is not Terminated: the actor waits for it
  waits_to_leave : {p : Picture} {a : ℕ} {fs : List Frame} → Acts p a → frames p a ≡ Block ∷ fs → (Over p a (suc (length fs)) → ⊥)
      → Step p (a does LeaveBlock) Waits (mark p a Leaving)
  -- the server has finished: nothing changes
  errs : {p : Picture} {a s e : ℕ} → Acts p a → s < p.begun → e < (p.task s).entries
      → (status p s ≡ Completed) ⊎ (status p s ≡ Terminated)
      → Step p (a does Call s e) TaskingError p
  -- the server is Accepting, with that entry open: the rendezvous begins
  meets : {p : Picture} {a s e mask : ℕ} → Acts p a → s < p.begun → e < (p.task s).entries
      → status p s ≡ Accepting mask → In e mask
      → Step p (a does Call s e) RendezvousBegun (engage p a s e)
  -- neither: the actor joins the queue of the entry
  queues : {p : Picture} {a s e : ℕ} → Acts p a → s < p.begun → e < (p.task s).entries
      → status p s ≢ Completed → status p s ≢ Terminated
      → ((mask : ℕ) → status p s ≡ Accepting mask → In e mask → ⊥)
      → Step p (a does Call s e) Waits (join p a s e)
  -- an open entry has a caller: one is taken, and the rendezvous begins
  takes : {p : Picture} {a mask c e : ℕ} → Acts p a → IsOpenSet (p.task a).entries mask → length (frames p a) < frame_room
      → Takes p a mask c e
      → Step p (a does Accept mask) RendezvousBegun (engage (leave_queue p c) c a e)
  -- no open entry has a caller: the actor waits for one
  waits_to_accept : {p : Picture} {a mask : ℕ} → Acts p a → IsOpenSet (p.task a).entries mask → length (frames p a) < frame_room
      → ((e : ℕ) → In e mask → queue p a e ≡ [])
      → Step p (a does Accept mask) Waits (mark p a (Accepting mask))
  -- the innermost frame is a rendezvous: it closes, and its caller goes on
  ends_rendezvous : {p : Picture} {a c e : ℕ} {fs : List Frame} → Acts p a → frames p a ≡ Rendezvous c e ∷ fs
      → Step p (a does EndRendezvous) GoesOn (part p a c fs)
  -- some dependent is not Terminated: the callers queued at the actor go on, and the actor is Completed
  completes : {p : Picture} {a : ℕ} → Acts p a → frames p a ≡ [] → (AllOver p a → ⊥)
      → Step p (a does Finish) Waits (mark (dismiss p a) a Completed)
  -- every dependent is Terminated: the callers go on, the actor is Terminated, and its master is looked at
  ends : {p q : Picture} {a : ℕ} → Acts p a → frames p a ≡ [] → AllOver p a
      → Settles (mark (dismiss p a) a Terminated) a q
      → Step p (a does Finish) Ended q

-- in p the event v is accepted: it has an outcome, and makes a picture
abbrev pub Accepted : Picture → Event → Type 0
Accepted p v = (o : Outcome) × (q : Picture) × Step p v o q

-- a list of events, each accepted in turn
pub data Steps : Picture → List Event → Picture → Type 0 where
  none : {p : Picture} → Steps p [] p
  more : {p q r : Picture} {v : Event} {o : Outcome} {vs : List Event} → Step p v o q → Steps q vs r → Steps p (v ∷ vs) r

-- a picture that some list of accepted events makes from a new one
abbrev pub Reached : Picture → Type 0
Reached p = (vs : List Event) × Steps fresh vs p
