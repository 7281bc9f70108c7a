-- What a task that finishes leaves behind: the cascade goes up the masters.
use Rattle.std.proofs.Common.{◌≡◌, ℕ, List, [], ◌∷◌, sym, refl, ◌∙◌, arith}
use Rattle.rules.specs.declared.vocabulary.Frame.{Frame}
use Rattle.rules.specs.declared.vocabulary.Frame.TheVariants.{Block, Rendezvous}
use Rattle.rules.specs.declared.vocabulary.Status.TheVariants.{Leaving, Terminated}
use Rattle.rules.specs.Picture.{Picture, status, frames, Depends}
use Rattle.rules.specs.Changes.{with_status, mark, dismiss}
use Rattle.rules.specs.Refusals.{BlockInnermost}
use Rattle.rules.specs.Rules.{Acts}
use Rattle.rules.proofs.Basics.Queues.{dismiss_each, dismiss_master}
use Rattle.rules.proofs.Basics.Tasks.{at_each, mark_master}
use Rattle.tasks.specs.Promises.{IsReached, Settling}
use Rattle.tasks.proofs.Reach.{elder_of, leaving_block}

pub block_front : (fs : List Frame) → BlockInnermost fs → (gs : List Frame) × (fs ≡ Block ∷ gs)
block_front [] h = absurd h
block_front (Block ∷ fs) h = (fs, refl)
block_front (Rendezvous c e ∷ fs) h = absurd h

-- a task that is marked Terminated leaves nothing to prove of Leaving tasks
still_in_blocks : (p : Picture) (t : ℕ) → ((m : ℕ) → status p m ≡ Leaving → BlockInnermost (frames p m)) → (m : ℕ) → status (mark p t Terminated) m ≡ Leaving → BlockInnermost (frames (mark p t Terminated) m)
still_in_blocks p t h m = at_each (λ k u. u.status ≡ Leaving → BlockInnermost u.frames) p.task t (with_status (p.task t) Terminated) (λ e. absurd (cc)) (λ k _. h k) m

-- the master ends, and the cascade goes on from it
pub settling_on : (p : Picture) (t m l : ℕ) → Settling p t → Depends p t m l → Settling (mark p m Terminated) m
settling_on p t m l s d =
    let lower = s.elder t m l d in
    record {
      begun = omega (arith, lower, s.begun);
      elder = λ k n j e. s.elder k n j (e.0, sym (mark_master p m Terminated k) ∙ e.1);
      leaving = still_in_blocks p m s.leaving;
    }

-- the actor has finished, and the cascade begins
pub settling_from : (p : Picture) (a : ℕ) → IsReached p → Acts p a → Settling (mark (dismiss p a) a Terminated) a
settling_from p a r acts = record {
  begun = acts.0;
  elder = λ k n j e. elder_of r k n j (e.0, sym (dismiss_master p a k) ∙ sym (mark_master (dismiss p a) a Terminated k) ∙ e.1);
  leaving = still_in_blocks (dismiss p a) a (dismiss_each p a (λ t u. u.status ≡ Leaving → BlockInnermost u.frames) (λ t e z k. absurd (cc)) (λ t z e. leaving_block r t e));
}
