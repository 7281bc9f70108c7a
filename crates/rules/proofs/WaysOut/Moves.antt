-- Ways out: a call that is accepted at once, an accept, the end of a rendezvous, and the close of a block.
use Rattle.std.proofs.Common.{◌≡◌, ℕ, suc, ◌+◌, ◌^◌, ◌<◌, true, eqb, ◌⊎◌, List, [], ◌∷◌, length, sym, refl, ap, ◌∙◌, subst, inl, inr, arith, pow_pos}
use native.Mathlib.Decide.{ℕ_discrete}
use lib.Pow.{pow-lt}
use Rattle.std.proofs.lemmas.Bool.{and_from, eq-eqb}
use Rattle.rules.specs.Changes.{close, engage, leave_queue, let_go, mark, part, turn}
use Rattle.rules.specs.Events.{◌does◌}
use Rattle.rules.specs.Limits.{frame_room}
use Rattle.rules.specs.Picture.{frames, Over, Picture, queue, queued_at, status, Task}
use Rattle.rules.specs.Rules.{In, Step, Steps}
use Rattle.rules.specs.Rules.Step.{ends_rendezvous, leaves, meets, takes}
use Rattle.rules.specs.Rules.Steps.{more, none}
use Rattle.rules.specs.declared.vocabulary.Action.TheVariants.{Accept, Call, EndRendezvous, LeaveBlock}
use Rattle.rules.specs.declared.vocabulary.Event.{Event}
use Rattle.rules.specs.declared.vocabulary.Frame.{Frame}
use Rattle.rules.specs.declared.vocabulary.Frame.TheVariants.{Block, Rendezvous}
use Rattle.rules.specs.declared.vocabulary.Outcome.TheVariants.{GoesOn}
use Rattle.rules.specs.declared.vocabulary.Status.{Status}
use Rattle.rules.specs.declared.vocabulary.Status.TheVariants.{Accepting, Completed, Engaged, Leaving, NotBegun, Queued, Running, Terminated}
use Rattle.rules.proofs.Basics.Masks.{bit_of, in_lower, in_own}
use Rattle.rules.proofs.Basics.Queues.{Contains-filter, filter_head, has_head, HasHead, queued_at_is}
use Rattle.rules.proofs.Basics.Statuses.{apart}
use Rattle.rules.proofs.Basics.Tasks.{mark_frames, mark_master, mark_other, mark_status, turn_frames, turn_master, turn_other, turn_status}
use Rattle.rules.proofs.Cascade.{closes_master}
use Rattle.rules.proofs.Invariant.Sound.{accepting, begun_as, framed_here, queued, Sound}
use Rattle.rules.proofs.WaysOut.Eased.{Eased, Gone, Popped, Turned, turned_kept}

-- how heavy a status is
abbrev pub rank : Status → ℕ
rank NotBegun = 0
rank Running = 1
rank (Queued _ _) = 2
rank (Engaged _) = 2
rank (Accepting _) = 2
rank Leaving = 2
rank Completed = 0
rank Terminated = 0

abbrev pub load : Picture → ℕ → ℕ
load p x = rank (status p x) + length (frames p x)

pub record Move (p : Picture) : Type 0 where
  pub after : Picture
  pub events : List Event
  pub steps : Steps p events after
  pub eased : Eased p after
  pub actor : ℕ
  pub actor_begun : actor < p.begun
  pub lighter : load after actor < load p actor

-- a ends its rendezvous with c
module _ (p : Picture) (a c : ℕ) (fs : List Frame) (apart_ac : a ≡ c → ⊥) where
  pub parted_caller : status (part p a c fs) c ≡ Running
  parted_caller = mark_status (turn p a Running fs) c Running

  pub parted_server : status (part p a c fs) a ≡ Running
  parted_server = ap (λ (k : Task). k.status) (mark_other (turn p a Running fs) c Running a (λ e. apart_ac (sym e))) ∙ turn_status p a Running fs

  pub parted_other : (x : ℕ) → (a ≡ x → ⊥) → (c ≡ x → ⊥) → (part p a c fs).task x ≡ p.task x
  parted_other x na nc = mark_other (turn p a Running fs) c Running x nc ∙ turn_other p a Running fs x na

  pub parted_frames : frames (part p a c fs) a ≡ fs
  parted_frames = mark_frames (turn p a Running fs) c Running a ∙ turn_frames p a Running fs

  pub parted_others : (x : ℕ) → (a ≡ x → ⊥) → frames (part p a c fs) x ≡ frames p x
  parted_others x na = mark_frames (turn p a Running fs) c Running x ∙ ap (λ (k : Task). k.frames) (turn_other p a Running fs x na)

  pub parted_master : (x : ℕ) → ((part p a c fs).task x).master ≡ (p.task x).master
  parted_master x = mark_master (turn p a Running fs) c Running x ∙ turn_master p a Running fs x

-- a rendezvous of a with c, begun and ended at once
abbrev pub visited : Picture → ℕ → ℕ → ℕ → Picture
visited p a c e = part (engage p c a e) a c (frames p a)

module _ (p : Picture) (a c e : ℕ) (apart_ac : a ≡ c → ⊥) where
  visited_other : (x : ℕ) → (a ≡ x → ⊥) → (c ≡ x → ⊥) → (visited p a c e).task x ≡ p.task x
  visited_other x na nc = parted_other (engage p c a e) a c (frames p a) apart_ac x na nc
      ∙ (turn_other (mark p c (Engaged a)) a Running (Rendezvous c e ∷ frames p a) x na ∙ mark_other p c (Engaged a) x nc)

  visited_master : (x : ℕ) → ((visited p a c e).task x).master ≡ (p.task x).master
  visited_master x = parted_master (engage p c a e) a c (frames p a) apart_ac x
      ∙ (turn_master (mark p c (Engaged a)) a Running (Rendezvous c e ∷ frames p a) x ∙ mark_master p c (Engaged a) x)

  visited_frames : (x : ℕ) → Dec (a ≡ x) → frames (visited p a c e) x ≡ frames p x
  visited_frames x (yes h) = subst (λ (y : ℕ). frames (visited p a c e) y ≡ frames p y) h (parted_frames (engage p c a e) a c (frames p a) apart_ac)
  visited_frames x (no n) = parted_others (engage p c a e) a c (frames p a) apart_ac x n
      ∙ (ap (λ (k : Task). k.frames) (turn_other (mark p c (Engaged a)) a Running (Rendezvous c e ∷ frames p a) x n) ∙ mark_frames p c (Engaged a) x)

  -- both run, and every other task is as it was
  visited_status : (P : ℕ → Status → Type 0) → P a Running → P c Running → ((x : ℕ) → P x (status p x)) → (x : ℕ) → P x (status (visited p a c e) x)
  visited_status P pa pc others x = go (ℕ_discrete a x) (ℕ_discrete c x)
    where
      go : Dec (a ≡ x) → Dec (c ≡ x) → P x (status (visited p a c e) x)
      go (yes h) _ = subst (λ (y : ℕ). P y (status (visited p a c e) y)) h (subst (P a) (sym (parted_server (engage p c a e) a c (frames p a) apart_ac)) pa)
      go (no n) (yes h) = subst (λ (y : ℕ). P y (status (visited p a c e) y)) h (subst (P c) (sym (parted_caller (engage p c a e) a c (frames p a) apart_ac)) pc)
      go (no n) (no k) = subst (P x) (sym (ap (λ (t : Task). t.status) (visited_other x n k))) (others x)

  pub visited_eased : Turned (status p a) Running → Turned (status p c) Running → Eased p (visited p a c e)
  visited_eased ta tc = record {
    begun = refl;
    master = λ x _. inl (visited_master x);
    turned = visited_status (λ x s. Turned (status p x) s) ta tc (λ x. turned_kept (status p x));
    popped = λ x. inl (visited_frames x (ℕ_discrete a x));
    gone = λ d run. inl (visited_status (λ x s. status p x ≡ Running → s ≡ Running) (λ _. refl) (λ _. refl) (λ x h. h) d run);
  }

  -- the step that ends it
  pub visited_part : a < p.begun → Step (engage p c a e) (a does EndRendezvous) GoesOn (visited p a c e)
  visited_part h = ends_rendezvous (h, turn_status (mark p c (Engaged a)) a Running (Rendezvous c e ∷ frames p a)) (turn_frames (mark p c (Engaged a)) a Running (Rendezvous c e ∷ frames p a))

pub lighter_status : (p q : Picture) (x : ℕ) (r s : Status) → status p x ≡ r → status q x ≡ s → rank s < rank r → frames q x ≡ frames p x → load q x < load p x
lighter_status p q x r s e f h g = omega (arith, ap rank e, ap rank f, ap length g)

pub lighter_frames : (p q : Picture) (x : ℕ) (f : Frame) → status q x ≡ status p x → frames p x ≡ f ∷ frames q x → load q x < load p x
lighter_frames p q x f e g = omega (arith, ap rank e, ap length g)

-- 1: u calls s, which accepts, and s ends the rendezvous
pub wake : (p : Picture) → Sound p → (u s mask : ℕ) → status p u ≡ Running → status p s ≡ Accepting mask → Move p
wake p snd u s mask run acc = go (bit_of (p.task s).entries mask (accepting snd s mask acc).0 (accepting snd s mask acc).1)
  where
    su : s ≡ u → ⊥
    su h = apart (sym run ∙ (ap (status p) (sym h) ∙ acc)) tt

    bu : u < p.begun
    bu = begun_as snd u run tt

    bs : s < p.begun
    bs = begun_as snd s acc tt

    go : (e : ℕ) × (e < (p.task s).entries) × In e mask → Move p
    go (e, less, bit) = record {
      after = visited p s u e;
      events = (u does Call s e) ∷ ((s does EndRendezvous) ∷ []);
      steps = more (meets (bu, run) bs less acc bit) (more (visited_part p s u e su bs) none);
      eased = visited_eased p s u e su (subst (λ r. Turned r Running) (sym acc) (inl refl)) (subst (λ r. Turned r Running) (sym run) (inl refl));
      actor = s;
      actor_begun = bs;
      lighter = lighter_status p (visited p s u e) s (Accepting mask) Running acc (parted_server (engage p u s e) s u (frames p s) su) (omega arith) (visited_frames p s u e su s (ℕ_discrete s s));
    }

-- 2: a ends its innermost rendezvous
pub end_rendezvous : (p : Picture) → Sound p → (a c e : ℕ) (fs : List Frame) → status p a ≡ Running → frames p a ≡ Rendezvous c e ∷ fs → Move p
end_rendezvous p snd a c e fs run inner = record {
  after = q;
  events = (a does EndRendezvous) ∷ [];
  steps = more (ends_rendezvous (ba, run) inner) none;
  eased = record {
    begun = refl;
    master = λ x _. inl (parted_master p a c fs ac x);
    turned = λ x. turned x (ℕ_discrete a x) (ℕ_discrete c x);
    popped = λ x. popped x (ℕ_discrete a x);
    gone = λ d h. inl (still d h (ℕ_discrete a d) (ℕ_discrete c d));
  };
  actor = a;
  actor_begun = ba;
  lighter = lighter_frames p q a (Rendezvous c e) (parted_server p a c fs ac ∙ sym run) shape;
}
  where
    q : Picture
    q = part p a c fs

    ba : a < p.begun
    ba = begun_as snd a run tt

    met : status p c ≡ Engaged a
    met = framed_here snd a c e fs inner

    ac : a ≡ c → ⊥
    ac h = apart (sym run ∙ (ap (status p) h ∙ met)) tt

    shape : frames p a ≡ Rendezvous c e ∷ frames q a
    shape = inner ∙ ap (λ (gs : List Frame). Rendezvous c e ∷ gs) (sym (parted_frames p a c fs ac))

    turned : (x : ℕ) → Dec (a ≡ x) → Dec (c ≡ x) → Turned (status p x) (status q x)
    turned x (yes h) _ = subst (λ (y : ℕ). Turned (status p y) (status q y)) h (subst (λ r. Turned r (status q a)) (sym run) (inl (parted_server p a c fs ac)))
    turned x (no n) (yes h) = subst (λ (y : ℕ). Turned (status p y) (status q y)) h (subst (λ r. Turned r (status q c)) (sym met) (inl (parted_caller p a c fs ac)))
    turned x (no n) (no k) = subst (λ (r : Status). Turned (status p x) r) (sym (ap (λ (t : Task). t.status) (parted_other p a c fs ac x n k))) (turned_kept (status p x))

    popped : (x : ℕ) → Dec (a ≡ x) → Popped p q x
    popped x (yes h) = subst (Popped p q) h (inr (parted_server p a c fs ac, inr (c, e, shape, parted_caller p a c fs ac)))
    popped x (no n) = inl (parted_others p a c fs ac x n)

    still : (x : ℕ) → status p x ≡ Running → Dec (a ≡ x) → Dec (c ≡ x) → status q x ≡ Running
    still x r (yes h) _ = subst (λ (y : ℕ). status q y ≡ Running) h (parted_server p a c fs ac)
    still x r (no n) (yes h) = subst (λ (y : ℕ). status q y ≡ Running) h (parted_caller p a c fs ac)
    still x r (no n) (no k) = ap (λ (t : Task). t.status) (parted_other p a c fs ac x n k) ∙ r

-- 3: a accepts a caller, and ends the rendezvous
eased_queue : (p q : Picture) (c : ℕ) → Eased (leave_queue p c) q → Eased p q
eased_queue p q c z = record { begun = z.begun; master = z.master; turned = z.turned; popped = z.popped; gone = λ d h. go d (z.gone d h) }
  where
    go : (d : ℕ) → (status q d ≡ Running) ⊎ Gone (leave_queue p c) q d → (status q d ≡ Running) ⊎ Gone p q d
    go d (inl h) = inl h
    go d (inr g) = inr (record { bare = g.bare; deserted = g.deserted; awake = g.awake })

pub serve : (p : Picture) → Sound p → (a x e : ℕ) → status p a ≡ Running → status p x ≡ Queued a e → length (frames p a) < frame_room → Move p
serve p snd a x e run que room = go (has_head (queue p a e) x (Contains-filter (λ t. queued_at a e (status p t)) p.arrivals x here (queued snd x a e que).arrived))
  where
    here : queued_at a e (status p x) ≡ true
    here = ap (queued_at a e) que ∙ and_from (eqb a a) (eqb e e) (eq-eqb a a refl) (eq-eqb e e refl)

    ba : a < p.begun
    ba = begun_as snd a run tt

    go : HasHead (queue p a e) → Move p
    go (c, rest, head) = record {
      after = q;
      events = (a does Accept (2 ^ e)) ∷ ((a does EndRendezvous) ∷ []);
      steps = more (takes (ba, run) (pow_pos e, pow-lt (queued snd x a e que).entry) room (record { opened = in_own e; rest = rest; head = head; lower = λ f h i. absurd (in_lower e f h i) }))
          (more (visited_part p₀ a c e ac ba) none);
      eased = eased_queue p q c (visited_eased p₀ a c e ac (subst (λ r. Turned r Running) (sym run) (inl refl)) (subst (λ r. Turned r Running) (sym callers) (inl refl)));
      actor = c;
      actor_begun = begun_as snd c callers tt;
      lighter = lighter_status p q c (Queued a e) Running callers (parted_caller (engage p₀ c a e) a c (frames p a) ac) (omega arith) (visited_frames p₀ a c e ac c (ℕ_discrete a c));
    }
      where
        p₀ : Picture
        p₀ = leave_queue p c

        q : Picture
        q = visited p₀ a c e

        callers : status p c ≡ Queued a e
        callers = queued_at_is a e (status p c) (filter_head (λ t. queued_at a e (status p t)) p.arrivals c rest head)

        ac : a ≡ c → ⊥
        ac h = apart (sym run ∙ (ap (status p) h ∙ callers)) tt

-- 4: a leaves a block
pub leave : (p : Picture) → Sound p → (a : ℕ) (fs : List Frame) → status p a ≡ Running → frames p a ≡ Block ∷ fs → Over p a (suc (length fs)) → Move p
leave p snd a fs run inner over = record {
  after = q;
  events = (a does LeaveBlock) ∷ [];
  steps = more (leaves (ba, run) inner over) none;
  eased = record {
    begun = refl;
    master = λ x b. closes_master p a fs over (λ h. apart (sym run ∙ h) tt) x b;
    turned = λ x. turned x (ℕ_discrete a x);
    popped = λ x. popped x (ℕ_discrete a x);
    gone = λ d h. inl (still d h (ℕ_discrete a d));
  };
  actor = a;
  actor_begun = ba;
  lighter = lighter_frames p q a Block (turn_status p' a Running fs ∙ sym run) shape;
}
  where
    q : Picture
    q = close p a fs

    p' : Picture
    p' = let_go p a (suc (length fs))

    ba : a < p.begun
    ba = begun_as snd a run tt

    shape : frames p a ≡ Block ∷ frames q a
    shape = inner ∙ ap (λ (gs : List Frame). Block ∷ gs) (sym (turn_frames p' a Running fs))

    turned : (x : ℕ) → Dec (a ≡ x) → Turned (status p x) (status q x)
    turned x (yes h) = subst (λ (y : ℕ). Turned (status p y) (status q y)) h (subst (λ r. Turned r (status q a)) (sym run) (inl (turn_status p' a Running fs)))
    turned x (no n) = subst (λ (r : Status). Turned (status p x) r) (sym (ap (λ (t : Task). t.status) (turn_other p' a Running fs x n))) (turned_kept (status p x))

    popped : (x : ℕ) → Dec (a ≡ x) → Popped p q x
    popped x (yes h) = subst (Popped p q) h (inr (turn_status p' a Running fs, inl shape))
    popped x (no n) = inl (ap (λ (t : Task). t.frames) (turn_other p' a Running fs x n))

    still : (x : ℕ) → status p x ≡ Running → Dec (a ≡ x) → status q x ≡ Running
    still x r (yes h) = subst (λ (y : ℕ). status q y ≡ Running) h (turn_status p' a Running fs)
    still x r (no n) = ap (λ (t : Task). t.status) (turn_other p' a Running fs x n) ∙ r
