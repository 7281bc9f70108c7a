-- Which events are refused: the checks of an event, in the order of their numbers.
use Rattle.std.specs.Prelude.{ℕ, ◌<◌, ◌≤◌, ◌≢◌, List, [], ◌∷◌, length}
use Rattle.refusals.specs.declared.Refusal.{Refusal}
use Rattle.refusals.specs.declared.Refusal.TheVariants.{ActorNotBegun, ActorNotRunning, AllTasksBegun, ChildNotNext, TooManyEntries, NoRoomForBlock, NoBlockToLeave, ServerNotBegun, NoSuchEntry, BadOpenSet, NoRoomForRendezvous, NoRendezvousToEnd, FrameOpen}
use Rattle.refusals.specs.Checks.{Checks, done, check, FirstRefusal}
use Rattle.rules.specs.declared.vocabulary.Status.TheVariants.{Running}
use Rattle.rules.specs.declared.vocabulary.Frame.{Frame}
use Rattle.rules.specs.declared.vocabulary.Frame.TheVariants.{Block, Rendezvous}
use Rattle.rules.specs.declared.vocabulary.Action.{Action}
use Rattle.rules.specs.declared.vocabulary.Action.TheVariants.{Begin, OpenBlock, LeaveBlock, Call, Accept, EndRendezvous, Finish}
use Rattle.rules.specs.declared.vocabulary.Event.{Event}
use Rattle.rules.specs.Limits.{most_tasks, most_entries, block_room, frame_room}
use Rattle.rules.specs.Picture.{Picture, status, frames}
use Rattle.rules.specs.Rules.{IsOpenSet}

-- the innermost frame is a block
abbrev pub BlockInnermost : List Frame → Type 0
BlockInnermost [] = ⊥
BlockInnermost (Block ∷ _) = Unit {0}
BlockInnermost (Rendezvous _ _ ∷ _) = ⊥

-- the innermost frame is a rendezvous
abbrev pub RendezvousInnermost : List Frame → Type 0
RendezvousInnermost [] = ⊥
RendezvousInnermost (Block ∷ _) = ⊥
RendezvousInnermost (Rendezvous _ _ ∷ _) = Unit {0}

-- the checks of what a Running task a is about to do: each refusal with what is wrong
abbrev pub action_checks : Picture → ℕ → Action → Checks
action_checks p a (Begin c n) =
    check AllTasksBegun (most_tasks ≤ p.begun)
    (check ChildNotNext (c ≢ p.begun)
    (check TooManyEntries (most_entries < n) done))
action_checks p a OpenBlock = check NoRoomForBlock (block_room ≤ length (frames p a)) done
action_checks p a LeaveBlock = check NoBlockToLeave (BlockInnermost (frames p a) → ⊥) done
action_checks p a (Call s e) =
    check ServerNotBegun (p.begun ≤ s)
    (check NoSuchEntry ((p.task s).entries ≤ e) done)
action_checks p a (Accept mask) =
    check BadOpenSet (IsOpenSet (p.task a).entries mask → ⊥)
    (check NoRoomForRendezvous (frame_room ≤ length (frames p a)) done)
action_checks p a EndRendezvous = check NoRendezvousToEnd (RendezvousInnermost (frames p a) → ⊥) done
action_checks p a Finish = check FrameOpen (frames p a ≢ []) done

-- the checks of an event
abbrev pub checks : Picture → Event → Checks
checks p v =
    check ActorNotBegun (p.begun ≤ v.actor)
    (check ActorNotRunning (status p v.actor ≢ Running)
    (action_checks p v.actor v.action))

-- in p the event v is refused with r: the first of its checks that refuses
abbrev pub Refused : Picture → Event → Refusal → Type 0
Refused p v r = FirstRefusal (checks p v) r
