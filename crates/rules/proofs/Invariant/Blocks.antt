-- The invariant is kept when a block opens or closes.
use Rattle.std.proofs.Common.{◌≡◌, ℕ, suc, ◌<◌, ◌≤◌, ◌≢◌, ◌⊎◌, List, ◌∷◌, length, sym, refl, ◌∙◌, subst, inl, inr, arith}
use Rattle.rules.specs.Changes.{close, let_go, turn, with_frames, with_status}
use Rattle.rules.specs.Limits.{block_room, frame_room}
use Rattle.rules.specs.Picture.{at, Depends, frames, Over, Picture, status, Task}
use Rattle.rules.specs.Rules.{Acts}
use Rattle.rules.specs.declared.vocabulary.Frame.{Frame}
use Rattle.rules.specs.declared.vocabulary.Frame.TheVariants.{Block, Rendezvous}
use Rattle.rules.specs.declared.vocabulary.Status.TheVariants.{Engaged, Leaving, Queued, Running, Terminated}
use Rattle.rules.proofs.Basics.Frames.{Stands, stands_rendezvous}
use Rattle.rules.proofs.Basics.Limits.{blocks_fit}
use Rattle.rules.proofs.Basics.Masters.{freed_cases, freed_creator, freed_none, freed_own, over_back, over_on}
use Rattle.rules.proofs.Basics.Tasks.{at_same}
use Rattle.rules.proofs.Invariant.Change.{Env, moves, stat_keep}
use Rattle.rules.proofs.Invariant.Good.{Excuse, Framed, Good, no_excuse}
use Rattle.rules.proofs.Invariant.OneTask.{one_arrived, one_engaged, one_move, others}
use Rattle.rules.proofs.Invariant.Sound.{Sound}

-- the frames of a change, and what stands on them stood there before
module _ (p : Picture) (X : Excuse) (g : Good p X) (q : Picture) (a : ℕ) (fs : List Frame) where
  pub framed_part : ((l c e : ℕ) → Stands fs l (Rendezvous c e) → Stands (frames p a) l (Rendezvous c e))
      → length fs ≤ frame_room → ((l : ℕ) → Stands fs l Block → l ≤ block_room)
      → ((c : ℕ) → status p c ≡ Engaged a → status q c ≡ Engaged a) → Framed q a fs
  framed_part h n b k = record {
    framed = λ l c e s. k c ((g.framed a).framed l c e (h l c e s));
    once = λ l i c e f s t. (g.framed a).once l i c e f (h l c e s) (h i c f t);
    shallow = n;
    blocks = b;
  }

-- a becomes Running, with the frames fs
module _ (p : Picture) (X : Excuse) (g : Good p X) (a : ℕ) (fs : List Frame)
    (b : a < p.begun) (n₁ : (s : ℕ) → status p a ≢ Engaged s) (n₂ : status p a ≢ Terminated) (n₃ : (s e : ℕ) → status p a ≢ Queued s e)
    (x : (t l : ℕ) → a ≢ t → X t l → ⊥)
    (same : (l c e : ℕ) → Stands fs l (Rendezvous c e) → Stands (frames p a) l (Rendezvous c e))
    (on : (l c e : ℕ) → Stands (frames p a) l (Rendezvous c e) → Stands fs l (Rendezvous c e))
    (room : length fs ≤ frame_room) (low : (l : ℕ) → Stands fs l Block → l ≤ block_room)
    (over : (l : ℕ) → Stands (frames p a) l Block → ((d : ℕ) → Depends p d a l → ⊥) ⊎ Stands fs l Block) where
  abbrev u : Task
  u = with_frames (with_status (p.task a) Running) fs

  pub reframes : Sound (turn p a Running fs)
  reframes = moves p (at p.task a u) p.arrivals (others a) X no_excuse g
      (one_move p a u p.arrivals X no_excuse
      (record {
        is = at_same p.task a u;
        master = refl;
        entries = refl;
        stat = b;
        frames = inr (framed_part p X g (turn p a Running fs) a fs same room low (one_engaged p a u p.arrivals X no_excuse n₁ a));
        hosts = λ l c e _ s. on l c e s;
        opened = over;
        serves = λ _ _ _ _ _. ((λ y. cc), (λ y. cc));
        engages = λ s l e z _. absurd (n₁ s z);
        was = n₂;
        ended = λ y. absurd (cc);
      })
      (λ t _ m. m)
      (one_arrived p a u p.arrivals X no_excuse g n₃)
      x)

pub good_opens : (p : Picture) → Sound p → (a : ℕ) → Acts p a → length (frames p a) < block_room → Sound (turn p a Running (Block ∷ frames p a))
good_opens p g a (b, z) n = reframes p no_excuse g a (Block ∷ frames p a) b
    (λ s y. cc) (λ y. cc) (λ s e y. cc) (λ t l _ y. y)
    (λ l c e s. stands_rendezvous (frames p a) l c e s) (λ l c e s. inr s)
    (let r = blocks_fit in omega arith) (λ l s. elim s [ inl y ↦ let w = y.0 in omega arith | inr y ↦ (g.framed a).blocks l y ])
    (λ l s. inr (inr s))

-- the dependents of a block on which nothing unfinished depends are let go
module _ (p : Picture) (X : Excuse) (g : Good p X) (m l : ℕ) (o : Over p m l) where
  freed_env : (t : ℕ) → Env p (let_go p m l) X X t
  freed_env t = record {
    is_in = λ h. h;
    is_out = λ _ h. h;
    waiting = λ s e z w. record { begun = w.begun; entry = w.entry; open₁ = w.open₁; open₂ = w.open₂; arrived = w.arrived };
    hosted = λ s z h. h;
    back = λ j n h. (n, over_back p m l o t j h);
    on = λ _ h j. over_on p m l o t j (h j);
  }

  pub good_let_go : Good (let_go p m l) X
  good_let_go = record {
    few = g.few;
    stat = λ t. stat_keep p (let_go p m l) X X t (frames p t) (p.task t).entries (freed_env t) (status p t) refl (g.stat t);
    framed = λ t. record { framed = (g.framed t).framed; once = (g.framed t).once; shallow = (g.framed t).shallow; blocks = (g.framed t).blocks };
    arrived = g.arrived;
    entries = g.entries;
    elder = λ d n j h. let k = freed_creator m l (p.task d).master n j h.1 in g.elder d n k.0 (h.0, k.1);
    attached = λ d n j h. elim (freed_cases m l (p.task d).master) [
      | inl e ↦ g.attached d n j (h.0, sym e ∙ h.1)
      | inr e ↦ inl (freed_own m l (p.task d).master n j e h.1)
    ];
  }

-- the innermost block of a closes, when nobody depends on it
good_shuts : (p : Picture) (X : Excuse) → Good p X → (a : ℕ) (fs : List Frame) → a < p.begun → (status p a ≡ Running) ⊎ (status p a ≡ Leaving)
    → frames p a ≡ Block ∷ fs → ((d : ℕ) → Depends p d a (suc (length fs)) → ⊥) → ((t l : ℕ) → a ≢ t → X t l → ⊥) → Sound (turn p a Running fs)
good_shuts p X g a fs b z e o x = reframes p X g a fs b
    (λ s y. elim z [ inl k ↦ cc | inr k ↦ (cc) ])
    (λ y. elim z [ inl k ↦ cc | inr k ↦ (cc) ])
    (λ s f y. elim z [ inl k ↦ cc | inr k ↦ (cc) ])
    x
    (λ l c f s. rw e (inr s)) (λ l c f s. stands_rendezvous fs l c f (rw e at s))
    (let h : length (Block ∷ fs) ≤ frame_room = rw e at (g.framed a).shallow in omega arith)
    (λ l s. (g.framed a).blocks l (rw e (inr s)))
    (λ l s. let k : Stands (Block ∷ fs) l Block = rw e at s in elim k [ inl y ↦ inl (subst (λ (j : ℕ). (d : ℕ) → Depends p d a j → ⊥) (sym y.0) o) | inr y ↦ inr y ])

-- the innermost block of a closes, and its dependents, all Terminated, are let go
pub good_closes : (p : Picture) (X : Excuse) → Good p X → (a : ℕ) (fs : List Frame) → a < p.begun → (status p a ≡ Running) ⊎ (status p a ≡ Leaving)
    → frames p a ≡ Block ∷ fs → Over p a (suc (length fs)) → ((t l : ℕ) → a ≢ t → X t l → ⊥) → Sound (close p a fs)
good_closes p X g a fs b z e o x = good_shuts (let_go p a (suc (length fs))) X (good_let_go p X g a (suc (length fs)) o) a fs b z e
    (λ d h. freed_none a (length fs) (p.task d).master h.1) x
